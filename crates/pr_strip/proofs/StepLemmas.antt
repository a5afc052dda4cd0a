-- The untraced steps of a history, entry by entry.
use Rattle.std.proofs.Common.{◌≡◌, ℕ, ◌+◌, Some, None, List, [], ◌∷◌, ◌++◌, take, refl, ◌∙◌, ap}
use Rattle.std.specs.List.{slice_get}
use Rattle.pr_num.proofs.ListLemmas.{take-next, take-past}
use Rattle.pr_model.specs.declared.events.Entry.{Entry}
use Rattle.pr_model.specs.UntracedSteps.{Memory, nothing_yet, remembered, remembered_all, steps_of, untraced_steps}
use Rattle.pr_model.proofs.HistoryLemmas.{untraced_steps-push}

remembered_all-push : (m : Memory) (h : List Entry) (e : Entry)
    → remembered_all m (h ++ e ∷ []) ≡ remembered (remembered_all m h) e
remembered_all-push m [] e = refl
remembered_all-push m (x ∷ h) e = remembered_all-push (remembered m x) h e

pub steps-next : (i : ℕ) (h : List Entry) (e : Entry) → slice_get h i ≡ Some e
    → untraced_steps (take (i + 1) h) ≡ untraced_steps (take i h) ++ steps_of (remembered_all nothing_yet (take i h)) e
steps-next i h e is = ap untraced_steps (take-next i h e is) ∙ untraced_steps-push (take i h) e

pub steps-past : (i : ℕ) (h : List Entry) → slice_get h i ≡ None
    → untraced_steps (take (i + 1) h) ≡ untraced_steps (take i h)
steps-past i h is = ap untraced_steps (take-past i h is)

pub memory-next : (i : ℕ) (h : List Entry) (e : Entry) → slice_get h i ≡ Some e
    → remembered_all nothing_yet (take (i + 1) h) ≡ remembered (remembered_all nothing_yet (take i h)) e
memory-next i h e is =
    ap (remembered_all nothing_yet) (take-next i h e is) ∙ remembered_all-push nothing_yet (take i h) e

pub memory-past : (i : ℕ) (h : List Entry) → slice_get h i ≡ None
    → remembered_all nothing_yet (take (i + 1) h) ≡ remembered_all nothing_yet (take i h)
memory-past i h is = ap (remembered_all nothing_yet) (take-past i h is)

pub steps-none : untraced_steps [] ≡ []
unfolding untraced_steps
steps-none = refl

pub ruleset strips = (steps-none, steps-next, steps-past, memory-next, memory-past)
