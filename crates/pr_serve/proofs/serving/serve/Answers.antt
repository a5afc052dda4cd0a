use Rattle.std.proofs.Common.{sym, subst}
use Rattle.std.specs.Prelude.{map, string_bytes}
use Rattle.pr_commands.specs.Commands.{HasWorkers}
use Rattle.pr_commands.proofs.CommandLemmas.{words-workers}
use Rattle.pr_serve.proofs.serving.serve.Goals as goal

pub carry_out-requires-clause-workers : goal.carry_out-requires-clause-workers
carry_out-requires-clause-workers g c κs within =
    subst HasWorkers (sym c.work_of.ensures) (words-workers (map string_bytes c.args.words.now))
