use Rattle.std.specs.Prelude.{◌≡◌, ℕ, Bool, true, false, not, List, [], ◌∷◌, ◌++◌, Option, Some, None, if◌then◌else◌}
use Rattle.std.specs.List.{flat_map}
use Rattle.pr_num.specs.declared.faults.Flt.TheVariants.{Trace}
use Rattle.pr_model.specs.Erasure.{erased}
use Rattle.pr_model.specs.Legal.{after, state_after}
use Rattle.pr_model.specs.State.{TracedLwp, TracedState}
use Rattle.pr_model.specs.UntracedMachine.{UntracedRun, traced_step}
use Rattle.pr_model.specs.UntracedSteps.{Memory, nothing_yet, remembered, steps_of, steps_of_turn, trace_of, trace_of_turn}
use Rattle.pr_model.specs.declared.events.Act.{Act}
use Rattle.pr_model.specs.declared.events.Act.TheVariants as act
use Rattle.pr_model.specs.declared.events.Actor.{Actor}
use Rattle.pr_model.specs.declared.events.Actor.TheVariants.{Lwp}
use Rattle.pr_model.specs.declared.events.Did.{Did}
use Rattle.pr_model.specs.declared.events.Did.TheVariants.{Faulted}
use Rattle.pr_model.specs.declared.events.Entry.{Entry}
use Rattle.pr_model.specs.declared.lwps.Phase.{Phase}
use Rattle.pr_model.specs.declared.lwps.Phase.TheVariants.{Exiting}
use Rattle.pr_model.specs.declared.steps.Step.{Step}
use Rattle.pr_model.specs.declared.steps.Step.TheVariants.{Exec}
use Rattle.pr_hidden.specs.Covers.{Covers, keeps_lwp, seen}
use Rattle.pr_hidden.specs.Hiders.{Hiders, covers_after, covers_at, is_own, lwp_at, no_covers}

-- What of a history programs do: its untraced steps, but for what is hidden.

-- whether an lwp is on its way out of a system call
abbrev pub is_way_out : Phase → Bool
is_way_out (Exiting call args result) = true
is_way_out _ = false

abbrev pub is_leaving : Option TracedLwp → Bool
is_leaving None = false
is_leaving (Some l) = is_way_out l.phase

-- A fault of a controller's is none. FLTTRACE comes after an instruction, which was run, but for an lwp on its way out
-- of a call.
abbrev pub steps_of_own : Bool → ℕ → ℕ → Did → List Step
steps_of_own leaving pid id (Faulted Trace) = if leaving then [] else Exec pid id ∷ []
steps_of_own leaving pid id did = []

-- What a turn is to programs: of a hidden agent nothing, and of a fault of a controller's what was run.
unfoldable pub turn_seen : Hiders → Covers → TracedState → Memory → ℕ → ℕ → Did → List Step
turn_seen who covers s m pid id did =
    if not (keeps_lwp (covers pid) id) then []
    else (if is_own who covers s pid id did then steps_of_own (is_leaving (lwp_at s.system pid id)) pid id did
    else steps_of_turn (m.returning pid id) pid id did)

-- what an entry is to programs, with what is remembered of those before it
unfoldable pub hidden_steps_of : Hiders → Covers → TracedState → Memory → Entry → List Step
hidden_steps_of who covers s m e = by e.actor e.act
  where
    by : Actor → Act → List Step
    by (Lwp pid id) (act.Turn t) = turn_seen who covers s m pid id t.did
    by actor it = steps_of m (record { actor = actor; act = it })

abbrev pub hidden_steps_from : Hiders → Covers → TracedState → Memory → List Entry → List Step
hidden_steps_from who covers s m [] = []
hidden_steps_from who covers s m (e ∷ es) =
    hidden_steps_of who covers s m e
    ++ hidden_steps_from who (covers_after who covers s e) (after s e) (remembered m e) es

-- the steps of a history from a state in which nothing is hidden
unfoldable pub hidden_steps : Hiders → TracedState → List Entry → List Step
hidden_steps who s h = hidden_steps_from who no_covers s nothing_yet h

-- ---- the trace

-- The trace of a turn: its call that was made or is over, its fault or its taken signal, unless that is hidden.
abbrev pub turn_traced : Hiders → Covers → TracedState → ℕ → ℕ → Did → List Step
turn_traced who covers s pid id did =
    if not (keeps_lwp (covers pid) id) then []
    else (if is_own who covers s pid id did then [] else trace_of_turn pid id did)

unfoldable pub hidden_trace_of : Hiders → Covers → TracedState → Entry → List Step
hidden_trace_of who covers s e = by e.actor e.act
  where
    by : Actor → Act → List Step
    by (Lwp pid id) (act.Turn t) = turn_traced who covers s pid id t.did
    by _ _ = []

abbrev pub hidden_trace_from : Hiders → Covers → TracedState → List Entry → List Step
hidden_trace_from who covers s [] = []
hidden_trace_from who covers s (e ∷ es) =
    hidden_trace_of who covers s e ++ hidden_trace_from who (covers_after who covers s e) (after s e) es

unfoldable pub hidden_trace : Hiders → TracedState → List Entry → List Step
hidden_trace who s h = hidden_trace_from who no_covers s h

-- ---- hidden histories

-- Programs see nothing of those who hide: the machine without controllers can make the steps of the history that are
-- not hidden, and they lead from what programs can see of its first state to what they see of its last one, without
-- what is hidden then; and the trace of that run is that of the history, without what is hidden.
pub record IsHidden (who : Hiders) (s : TracedState) (h : List Entry) : Type 0 where
  pub run : UntracedRun (erased s) (hidden_steps who s h) (seen (covers_at who s h) (state_after s h).system)
  pub trace : hidden_trace who s h ≡ flat_map traced_step (hidden_steps who s h)
