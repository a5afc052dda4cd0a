use Rattle.std.proofs.Common.{◌≡◌, ℕ, Bool, true, false, List, [], ◌∷◌, refl, sym, ◌∙◌, ap}
use Rattle.std.proofs.lemmas.List.Elements.{All-nil, All-cons, All-head, All-tail, All-weaker}
use Rattle.std.specs.List.{All}
use Rattle.pr_num.specs.ById.{map_each}
use Rattle.pr_model.specs.Erasure.{erased_lwp, erased_process, erased_system}
use Rattle.pr_model.specs.Machines.{step_taken}
use Rattle.pr_model.specs.State.{TracedLwp, TracedProcess, TracedSystem}
use Rattle.pr_erasure.specs.Untouched.{IsUntouched, IsUntouchedLwp, IsUntouchedProcess}
use Rattle.pr_hidden.specs.Covers.{all_kept, keeps_lwp, lwp_beneath, no_cover, process_beneath, seen, seen_under, uncovered, uncovered_lwp, uncovered_process}
use Rattle.pr_hidden.specs.Hiders.{no_covers}
use Rattle.pr_hidden.proofs.NothingHidden.TameLemmas.{IsTame, IsTameLwp, IsTameProcess}

-- A state of which nothing is hidden.

lwps-same : (ls : List (ℕ × TracedLwp))
    → map_each erased_lwp (seen_under (keeps_lwp no_cover) (lwp_beneath no_cover) ls) ≡ map_each erased_lwp ls
unfolding erased_lwp uncovered_lwp step_taken
lwps-same [] = refl
lwps-same (e ∷ ls) = ap (λ ds. (e.0, erased_lwp e.1) ∷ ds) (lwps-same ls)

process-same : (p : TracedProcess) → erased_process (uncovered_process no_cover p) ≡ erased_process p
unfolding erased_process uncovered_process
process-same p = ap (λ ls. record (erased_process p) { lwps = ls }) (lwps-same p.lwps)

processes-same : (ps : List (ℕ × TracedProcess))
    → map_each erased_process (seen_under all_kept (process_beneath no_covers) ps) ≡ map_each erased_process ps
processes-same [] = refl
processes-same (e ∷ ps) =
    ap (λ p. (e.0, p) ∷ map_each erased_process (seen_under all_kept (process_beneath no_covers) ps)) (process-same e.1)
    ∙ ap (λ ds. (e.0, erased_process e.1) ∷ ds) (processes-same ps)

pub none-same : (s : TracedSystem) → seen no_covers s ≡ erased_system s
unfolding erased_system uncovered
none-same s = ap (λ ps. record (erased_system s) { processes = ps }) (processes-same s.processes)

pub none-tame : (s : TracedSystem) → IsUntouched s → IsTame no_covers s
none-tame s untouched = record {
  processes = All-weaker IsUntouchedProcess (IsTameProcess no_covers) one s.processes untouched.processes;
}
  where
    one : (e : ℕ × TracedProcess) → IsUntouchedProcess e → IsTameProcess no_covers e
    one e it = record {
      no_kill = it.no_kill;
      unwatched = it.unwatched;
      lwps =
          All-weaker IsUntouchedLwp (IsTameLwp no_cover)
          (λ l of. record { no_abort = λ kept. of.no_abort; no_agent = λ kept. of.no_agent }) e.1.lwps it.lwps;
    }
