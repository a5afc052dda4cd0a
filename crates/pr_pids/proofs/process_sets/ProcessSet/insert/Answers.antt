use Rattle.std.proofs.Common.{◌||◌, ◌<◌, ◌/◌, ℕ, List, eqb, ap, subst, sym, ◌∙◌}
use Rattle.pr_pids.specs.Members.{has_pid}
use Rattle.pr_pids.proofs.BitLemmas.{has-inserted}
use Rattle.pr_pids.proofs.WalkLemmas.{word-inside}
use Rattle.pr_pids.proofs.process_sets.ProcessSet.insert.Goals as goal

pub returns : goal.returns
returns c = λ other.
    has-inserted c.self.inside.words c.args.pid other
    (subst (λ n. c.args.pid / 64 < n) (sym c.self.told) (word-inside c.args.pid c.requires))
    ∙ ap (λ (words : List ℕ). has_pid words other || eqb other c.args.pid) c.self.view_is
