use Rattle.std.proofs.Common.{◌≡◌, ◌≤◌, ◌+◌, ◌-◌, ℕ, zero, suc, Option, Some, None, List, [], ◌∷◌, ◌++◌, refl, sym, ◌∙◌, ap, subst, arith}
use Rattle.std.proofs.lemmas.List.{append_assoc, append-nil}
use Rattle.pr_api.specs.Views.{KernelView}
use Rattle.pr_model.specs.declared.events.Entry.{Entry}
use Rattle.pr_scen.specs.Scenarios.{Scenario}
use Rattle.pr_world.proofs.RunLemmas.{moves-told, next-leads, picked-kernel, stuck-next}
use Rattle.pr_world.specs.Moves.{entry_of}
use Rattle.pr_world.specs.Runs.{StepLeads, TellsMachine, after_moves, after_next}
use Rattle.pr_world.specs.Worlds.{Pick, WorldState, next_pick}
use Rattle.pr_run_laws.proofs.KeptRuns.KeptLemmas.{first-told}
use Rattle.pr_run_laws.specs.Prefixes.{IsPrefix}
use Rattle.pr_run_laws.specs.ScenarioRuns.{first_world, history_after}

-- Histories of runs grow at their end.

-- a history is a prefix of itself, and a prefix of a prefix is a prefix
prefix-same : (h : List Entry) → IsPrefix h h
prefix-same h = record { more = []; is = sym (append-nil h) }

prefix-of-prefix : (a b c : List Entry) → IsPrefix a b → IsPrefix b c → IsPrefix a c
prefix-of-prefix a b c first second = record {
  more = first.more ++ second.more;
  is = second.is ∙ ap (λ (h : List Entry). h ++ second.more) first.is ∙ append_assoc a first.more second.more;
}

-- a step adds its entry
step-prefix : (w v : WorldState) → StepLeads w v → IsPrefix w.kernel.history v.kernel.history
step-prefix w v step = record {
  more = entry_of step.pick.actor step.leads.act ∷ [];
  is =
      step.leads.history
      ∙ ap (λ (k : KernelView). k.history ++ entry_of step.pick.actor step.leads.act ∷ [])
      (picked-kernel step.pick w);
}

next-prefix : (w : WorldState) (next : Option Pick) → next_pick w ≡ next → TellsMachine w
    → IsPrefix w.kernel.history (after_next w).kernel.history
next-prefix w None e t =
    subst (λ (v : WorldState). IsPrefix w.kernel.history v.kernel.history) (sym (stuck-next w e))
    (prefix-same w.kernel.history)
next-prefix w (Some p) e t = step-prefix w (after_next w) (next-leads w p t e)

-- so many moves after so many others
more-prefix : (first : WorldState) (m k : ℕ) → TellsMachine first
    → IsPrefix (after_moves m first).kernel.history (after_moves (k + m) first).kernel.history
unfolding after_moves
more-prefix first m zero t =
    let same : m ≡ zero + m = omega arith in
    subst (λ (n : ℕ). IsPrefix (after_moves m first).kernel.history (after_moves n first).kernel.history) same
    (prefix-same (after_moves m first).kernel.history)
more-prefix first m (suc k) t =
    let before : WorldState = after_moves (k + m) first in
    let next : suc (k + m) ≡ suc k + m = omega arith in
    let one_more : IsPrefix (after_moves m first).kernel.history (after_moves (suc (k + m)) first).kernel.history =
    prefix-of-prefix (after_moves m first).kernel.history before.kernel.history
    (after_moves (suc (k + m)) first).kernel.history (more-prefix first m k t)
    (next-prefix before (next_pick before) refl (moves-told first (k + m) t)) in
    subst (λ (n : ℕ). IsPrefix (after_moves m first).kernel.history (after_moves n first).kernel.history) next one_more

-- An earlier history of a run is a prefix of a later one.
pub run-grows : (s : Scenario) (m n : ℕ) → m ≤ n → IsPrefix (history_after m s) (history_after n s)
run-grows s m n earlier =
    let later : (n - m) + m ≡ n = omega arith in
    subst (λ (k : ℕ). IsPrefix (history_after m s) (history_after k s)) later
    (more-prefix (first_world s) m (n - m) (first-told s))

pub ruleset growth = (run-grows)
