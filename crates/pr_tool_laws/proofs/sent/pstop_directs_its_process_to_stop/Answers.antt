use Rattle.pr_tool_laws.proofs.Sending.SentLaw.{pstop-stops}
use Rattle.pr_tool_laws.proofs.sent.pstop_directs_its_process_to_stop.Goals as goal

pub returns : goal.returns
returns c = pstop-stops
