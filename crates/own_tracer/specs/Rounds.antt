use Rattle.std.specs.Prelude.{◌≡◌, ◌≤◌, ◌⊎◌, ◌==◌, ◌-◌, ◌||◌, ◌&&◌, ◌++◌, ℕ, zero, suc, Bool, true, false, List, [], ◌∷◌, Option, Some, None, length, nat_lt}
use Rattle.std.specs.Option.{option_or}
use Rattle.pr_api.specs.Entries.{call_entry}
use Rattle.pr_api.specs.Steps.{IsTicked, IsTurned}
use Rattle.pr_api.specs.Views.{KernelView, next_of}
use Rattle.pr_model.specs.declared.calls.Call.TheVariants.{Close, Poll}
use Rattle.pr_model.specs.declared.calls.Reply.{Reply}
use Rattle.pr_model.specs.declared.events.Entry.{Entry}
use Rattle.pr_model.specs.declared.events.Turned.{Turned}
use Rattle.pr_num.specs.Limits.{clock_limit}
use Rattle.own_tracer.specs.Faults.{Injects}
use Rattle.own_tracer.specs.Going.{Goes, TellsState}
use Rattle.own_tracer.specs.Orders.{order_call}
use Rattle.own_tracer.specs.Stances.{Holds, Keeps}
use Rattle.own_tracer.specs.declared.attaching.Grip.{Grip}
use Rattle.own_tracer.specs.declared.faults.Faults.{Faults}
use Rattle.own_tracer.specs.declared.orders.Order.TheVariants.{Release, Spare}

-- How the programs and the injector take turns: who moves is no choice of theirs, and they go on as long as they can.

-- ---- the programs

-- the kernel, and the lwp that moved last
pub record Moment : Type 0 where
  pub kernel : KernelView
  pub last : Option (ℕ × ℕ)

-- the lwp that moves next: the first after the last one, or the first of all, that can have a turn
abbrev pub next_in_turn : Moment → Option (ℕ × ℕ)
next_in_turn m = option_or (next_of m.kernel true m.last) (next_of m.kernel true None)

-- whether the clock can go on: an lwp sleeps, and the clock has not come to its limit
abbrev pub can_tick : KernelView → Bool
can_tick k = k.has_sleeper && nat_lt k.clock clock_limit

-- the clock went on by a millisecond, or all is as it was
abbrev pub TicksIf : Bool → KernelView → KernelView → Type 0
TicksIf true old new = IsTicked old new
TicksIf false old new = new ≡ old

-- an lwp had a turn
pub record HadTurn (lwp : ℕ × ℕ) (old new : KernelView) : Type 0 where
  pub turned : Turned
  pub is : IsTurned lwp.0 lwp.1 turned old new

-- The programs moved, where this lwp is the next one: it had a turn. Where there is none the clock went on, if it
-- could, and else nobody moved.
abbrev pub MovesNext : Option (ℕ × ℕ) → Bool → Moment → Moment → Type 0
MovesNext (Some lwp) moved old new = (moved ≡ true) × (new.last ≡ Some lwp) × HadTurn lwp old.kernel new.kernel
MovesNext None moved old new =
    (moved ≡ can_tick old.kernel) × (new.last ≡ old.last) × TicksIf moved old.kernel new.kernel

abbrev pub Moves : Bool → Moment → Moment → Type 0
Moves moved old new = MovesNext (next_in_turn old) moved old new

-- no lwp can move, and the clock cannot go on
pub record IsStuck (m : Moment) : Type 0 where
  pub none : next_in_turn m ≡ None
  pub still : can_tick m.kernel ≡ false

-- so many moves of the programs
unfoldable pub MovesFor : ℕ → Moment → Moment → Type 0
MovesFor zero old new = new ≡ old
MovesFor (suc n) old new = (u : Moment) × MovesFor n old u × TellsState u.kernel × Moves true u new

-- The programs moved until none could, or until the history was full.
pub record RunsAlone (old new : Moment) : Type 0 where
  pub moves : ℕ
  pub made : MovesFor moves old new
  pub over : (new.kernel.places ≤ length new.kernel.history) ⊎ IsStuck new

-- ---- the injector beside them

-- whether no round is made any more: all faults were injected, or fewer places are left than a round and the way out
-- may take
abbrev pub is_over : Faults → KernelView → Bool
is_over faults k = (faults.left == 0) || nat_lt (k.places - length k.history) 6

-- A round: the programs moved, if they could, and then the injector, if its poll was ready. It says to go on where one
-- of them did.
pub record MakesRound (g : Grip) (again : Bool) (before after : Faults) (old new : Moment) : Type 0 where
  pub middle : Moment
  pub moved : Bool
  pub moves : Moves moved old middle
  pub beside : Goes (Keeps old.kernel) old.kernel middle.kernel
  pub acted : Bool
  pub ready : acted ≡ middle.kernel.is_ready 0 (Poll (g.control ∷ []))
  pub injects : Injects acted g.control before after middle.kernel.history new.kernel.history
  pub goes : Goes (Holds g) middle.kernel new.kernel
  pub last : new.last ≡ middle.last
  pub again_is : again ≡ (moved || acted)

-- nothing was done
pub record IsUnmoved (again : Bool) (before after : Faults) (old new : Moment) : Type 0 where
  pub again_is : again ≡ false
  pub faults : after ≡ before
  pub moment : new ≡ old

abbrev pub IsRoundIf : Bool → Grip → Bool → Faults → Faults → Moment → Moment → Type 0
IsRoundIf true g again before after old new = IsUnmoved again before after old new
IsRoundIf false g again before after old new = MakesRound g again before after old new

-- a round, unless none is made any more
abbrev pub IsRound : Grip → Bool → Faults → Faults → Moment → Moment → Type 0
IsRound g again before after old new = IsRoundIf (is_over before old.kernel) g again before after old new

-- so many rounds, each of which said to go on
unfoldable pub RoundsFor : ℕ → Grip → Faults → Faults → Moment → Moment → Type 0
RoundsFor zero g before after old new = (after ≡ before) × (new ≡ old)
RoundsFor (suc n) g before after old new =
    (u : Moment) × (faults : Faults) × RoundsFor n g before faults old u × IsRound g true faults after u new

-- the three calls by which the injector leaves
pub record Leaves (control : ℕ) (before after : List Entry) : Type 0 where
  pub spared : Reply
  pub released : Reply
  pub closed : Reply
  pub history : after
      ≡ before ++ call_entry 0 (order_call control Spare) spared
      ∷ call_entry 0 (order_call control Release) released
      ∷ call_entry 0 (Close control) closed ∷ []

-- Rounds were made until one said not to go on, and then the injector left.
pub record RunsBeside (g : Grip) (faults : Faults) (old new : Moment) : Type 0 where
  pub rounds : ℕ
  pub left : Faults
  pub before : Moment
  pub made : RoundsFor rounds g faults left old before
  pub at_end : Faults
  pub end : Moment
  pub ends : IsRound g false left at_end before end
  pub leaves : Leaves g.control end.kernel.history new.kernel.history
  pub last : new.last ≡ end.last
