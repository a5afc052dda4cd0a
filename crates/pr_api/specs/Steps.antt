use Rattle.std.specs.Prelude.{◌≡◌, ◌+◌, ℕ, true, [], ◌∷◌, ◌++◌, Option, Some, IfSome}
use Rattle.pr_model.specs.Calls.{answer_to}
use Rattle.pr_model.specs.Legal.{ticked}
use Rattle.pr_model.specs.LwpTurns.{turn_of}
use Rattle.pr_model.specs.State.{TracedState, TracedSystem, with_system}
use Rattle.pr_model.specs.declared.calls.Call.{Call}
use Rattle.pr_model.specs.declared.calls.Reply.{Reply}
use Rattle.pr_model.specs.declared.events.Turned.{Turned}
use Rattle.pr_api.specs.Entries.{call_entry, turn_entry, tick_entry}
use Rattle.pr_api.specs.Shapes.{has_shape}
use Rattle.pr_api.specs.Views.{KernelView}

-- The steps of a kernel: each adds one entry after the others, and the places stay. Of a machine that is told the
-- reply, or what the turn did, is the machine's, and so is the state that comes of it.

-- a machine's answer to a call
abbrev pub IsAnswer : ℕ → Call → Reply → Option TracedState → TracedState → Type 0
IsAnswer by c r new s = (t : TracedState) × (answer_to s by c ≡ Some (record { state = t; reply = r })) × (new ≡ Some t)

-- a call of a controller, with a reply of its shape
pub record IsCalled (by : ℕ) (call : Call) (old new : KernelView) : Type 0 where
  pub reply : Reply
  pub shaped : has_shape call reply ≡ true
  pub history : new.history ≡ old.history ++ call_entry by call reply ∷ []
  pub places : new.places ≡ old.places
  pub machine : IfSome old.machine (IsAnswer by call reply new.machine)

-- a machine's turn of an lwp
abbrev pub IsTurnOf : ℕ → ℕ → Turned → Option TracedState → TracedState → Type 0
IsTurnOf pid id turned new s =
    (t : TracedSystem) × (turn_of s.system pid id ≡ Some (record { system = t; turned = turned }))
    × (new ≡ Some (record s { system = t }))

-- a turn of an lwp, which did this
pub record IsTurned (pid id : ℕ) (turned : Turned) (old new : KernelView) : Type 0 where
  pub history : new.history ≡ old.history ++ turn_entry pid id turned ∷ []
  pub places : new.places ≡ old.places
  pub machine : IfSome old.machine (IsTurnOf pid id turned new.machine)

-- a millisecond of the clock
pub record IsTicked (old new : KernelView) : Type 0 where
  pub history : new.history ≡ old.history ++ tick_entry (old.clock + 1) ∷ []
  pub places : new.places ≡ old.places
  pub clock : new.clock ≡ old.clock + 1
  pub machine : IfSome old.machine (λ s. new.machine ≡ Some (with_system ticked s))
