use Rattle.pr_tool_laws.proofs.Sending.SentLaw.{prun-runs}
use Rattle.pr_tool_laws.proofs.sent.prun_runs_its_process.Goals as goal

pub returns : goal.returns
returns c = prun-runs
