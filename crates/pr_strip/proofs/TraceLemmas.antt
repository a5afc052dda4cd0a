-- The trace of a history, entry by entry.
use Rattle.std.proofs.Common.{◌≡◌, ℕ, ◌+◌, Some, None, List, [], ◌∷◌, ◌++◌, take, ap, ◌∙◌}
use Rattle.std.proofs.lemmas.List.{append-nil}
use Rattle.std.proofs.lemmas.List.Concat.{flat_map-append}
use Rattle.std.specs.List.{flat_map, slice_get}
use Rattle.pr_num.proofs.ListLemmas.{take-next, take-past}
use Rattle.pr_model.specs.declared.events.Entry.{Entry}
use Rattle.pr_model.specs.UntracedMachine.{traced_step}
use Rattle.pr_model.specs.UntracedSteps.{trace_of}
use Rattle.pr_model.specs.declared.steps.Step.{Step}

pub trace-next : (i : ℕ) (h : List Entry) (e : Entry) → slice_get h i ≡ Some e
    → flat_map trace_of (take (i + 1) h) ≡ flat_map trace_of (take i h) ++ trace_of e
trace-next i h e is =
    ap (flat_map trace_of) (take-next i h e is)
    ∙ flat_map-append trace_of (take i h) (e ∷ [])
    ∙ ap (λ steps. flat_map trace_of (take i h) ++ steps) (append-nil (trace_of e))

pub trace-past : (i : ℕ) (h : List Entry) → slice_get h i ≡ None
    → flat_map trace_of (take (i + 1) h) ≡ flat_map trace_of (take i h)
trace-past i h is = ap (flat_map trace_of) (take-past i h is)

pub steps-next : (i : ℕ) (steps : List Step) (step : Step) → slice_get steps i ≡ Some step
    → flat_map traced_step (take (i + 1) steps) ≡ flat_map traced_step (take i steps) ++ traced_step step
steps-next i steps step is =
    ap (flat_map traced_step) (take-next i steps step is)
    ∙ flat_map-append traced_step (take i steps) (step ∷ [])
    ∙ ap (λ more. flat_map traced_step (take i steps) ++ more) (append-nil (traced_step step))

pub ruleset traces = (trace-next, trace-past, steps-next)
