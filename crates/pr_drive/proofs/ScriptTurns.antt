use Rattle.std.proofs.Common.{◌≡◌, ◌&&◌, ◌⊎◌, inl, inr, ℕ, zero, suc, Bool, true, false, List, [], ◌∷◌}
use Rattle.std.proofs.Common.{Option, Some, None, is_some, cond, refl, sym, ap, subst, ◌∙◌}
use Rattle.std.specs.Option.{option_or}
use Rattle.pr_api.specs.Views.{kernel_of}
use Rattle.pr_model.specs.Calls.{Answer, answer_to}
use Rattle.pr_model.specs.declared.calls.Call.{Call}
use Rattle.pr_model.specs.declared.events.Actor.{Actor}
use Rattle.pr_model.specs.declared.events.Actor.TheVariants.{Controller}
use Rattle.pr_model.specs.declared.events.Entry.{Entry}
use Rattle.pr_scen.specs.Scenarios.{Scenario}
use Rattle.pr_scen.specs.Scripts.{ScriptState, fed, next_call_of}
use Rattle.pr_world.specs.Controllers.{wait_end_of}
use Rattle.pr_world.specs.Worlds.{is_answered}
use Rattle.pr_drive.specs.Exchanges.{Made, WaitsFor, is_answered_now}
use Rattle.pr_drive.specs.Going.{Called as OutsideCalled, SeatsState}
use Rattle.pr_drive.specs.Going.{has_place, outside_of, world_of}
use Rattle.pr_drive.specs.Rounds.{AreSteps, FinishesRound, GoesRound, IsStep, Rests}
use Rattle.pr_drive.specs.Rounds.{RoundsState}
use Rattle.pr_drive.specs.Rounds.{after_step, after_steps, first_place, next_from, next_left}
use Rattle.pr_drive.specs.Scripted.{outside_if}
use Rattle.pr_drive.specs.declared.places.Place.{Place}
use Rattle.pr_drive.proofs.TurnLemmas.{next_of_all, until_of}
use Rattle.pr_drive.proofs.ScriptMoves.{Ran, full-called, full-ran, ran-called, ran-step, same-next}

-- Such a run goes as a session does from one turn of the outside to the next.

-- who is next at the outside's turn: it, or who comes first in a whole round
abbrev turn_of : ScriptState → SeatsState → Option Actor
turn_of script s = option_or (outside_if script s) (next_from (world_of (until_of script) s) first_place)

abbrev pub InRound : ScriptState → Scenario → RoundsState → Type 0
InRound script run r = Ran script run r.seats (next_of_all script r.seats r.place)

pub record AtTurn (script : ScriptState) (run : Scenario) (r : RoundsState) : Type 0 where
  pub ran : Ran script run r.seats (turn_of script r.seats)
  pub at : (r.place ≡ first_place) ⊎ (has_place r.seats ≡ false)

-- who is left in the round while the outside waits for no moment
left-still : (script : ScriptState) (r : RoundsState) → until_of script ≡ 0
    → next_from (world_of (until_of script) r.seats) r.place ≡ next_left 0 r
unfolding next_left
left-still script r still = ap (λ (m : ℕ). next_from (world_of m r.seats) r.place) still

in-step : (script : ScriptState) (run : Scenario) (r : RoundsState) (e : Entry) → until_of script ≡ 0
    → InRound script run r → IsStep 0 r e → InRound script run (after_step e r)
in-step script run r e still ran one =
    ran-step script run r.seats (next_of_all script r.seats r.place) e ran one.move
    (ap (λ (o : Option Actor). option_or o (turn_of script r.seats)) (left-still script r still ∙ one.next))

in-steps : (script : ScriptState) (run : Scenario) (es : List Entry) (r : RoundsState) → until_of script ≡ 0
    → InRound script run r → AreSteps 0 r es → InRound script run (after_steps es r)
in-steps script run [] r still ran steps = ran
in-steps script run (e ∷ es) r still ran steps =
    in-steps script run es (after_step e r) still (in-step script run r e still ran steps.0) steps.1

-- nobody is left in the round
pub in-rests : (script : ScriptState) (run : Scenario) (r q : RoundsState) → until_of script ≡ 0 → InRound script run r
    → Rests 0 r q → AtTurn script run q
in-rests script run r q still ran rests = of rests.none
  where
    of : ((has_place r.seats ≡ false) × (q.place ≡ r.place)) ⊎ ((next_left 0 r ≡ None) × (q.place ≡ first_place))
        → AtTurn script run q
    of (inl full) = record {
      ran = subst (λ (x : SeatsState). Ran script run x (turn_of script x)) (sym rests.same)
          (full-ran script run r.seats (next_of_all script r.seats r.place) (turn_of script r.seats) ran full.0);
      at = inr (ap has_place rests.same ∙ full.0);
    }
    of (inr here) = record {
      ran = subst (λ (x : SeatsState). Ran script run x (turn_of script x)) (sym rests.same)
          (same-next script run r.seats (next_of_all script r.seats r.place) (turn_of script r.seats) ran
          (ap (λ (o : Option Actor). option_or o (turn_of script r.seats)) (left-still script r still ∙ here.0)));
      at = inl here.1;
    }

pub in-finish : (script : ScriptState) (run : Scenario) (r q : RoundsState) → until_of script ≡ 0 → InRound script run r
    → FinishesRound 0 r q → AtTurn script run q
in-finish script run r q still ran round =
    in-rests script run (after_steps round.entries r) q still
    (in-steps script run round.entries r still ran round.steps) round.rests

twice : (o : Option Actor) → option_or o (option_or None o) ≡ option_or None o
twice None = refl
twice (Some a) = refl

-- the outside makes no call in its turn
pub idles : (script : ScriptState) (run : Scenario) (r : RoundsState) → AtTurn script run r
    → (has_place r.seats ≡ false) ⊎ (outside_if script r.seats ≡ None) → InRound script run r
idles script run r turn idle = of turn.at idle
  where
    full : has_place r.seats ≡ false → InRound script run r
    full none = full-ran script run r.seats (turn_of script r.seats) (next_of_all script r.seats r.place) turn.ran none

    of : (r.place ≡ first_place) ⊎ (has_place r.seats ≡ false)
        → (has_place r.seats ≡ false) ⊎ (outside_if script r.seats ≡ None) → InRound script run r
    of (inr none) h = full none
    of (inl at) (inl none) = full none
    of (inl at) (inr passed) =
        same-next script run r.seats (turn_of script r.seats) (next_of_all script r.seats r.place) turn.ran
        (let whole = next_from (world_of (until_of script) r.seats) first_place in
        ap (λ (o : Option Actor). option_or o whole) passed
        ∙ sym (ap (λ (p : Place). option_or (next_from (world_of (until_of script) r.seats) p) (turn_of script r.seats))
        at
        ∙ ap (λ (o : Option Actor). option_or whole (option_or o whole)) passed
        ∙ twice whole))

-- a call that is not answered now is made by nobody
unready : (script : ScriptState) (c : Call) (s : SeatsState) → next_call_of script ≡ Some c
    → is_answered_now c s ≡ false → (has_place s ≡ false) ⊎ (outside_if script s ≡ None)
unfolding outside_if kernel_of
unready script c s next waits = of (has_place s) refl waits
  where
    of : (b : Bool) → has_place s ≡ b → (b && is_some (answer_to s.kernel.state (outside_of s) c)) ≡ false
        → (has_place s ≡ false) ⊎ (outside_if script s ≡ None)
    of false full h = inl full
    of true place h = inr
        (ap (λ (o : Option Call).
        cond (is_answered (kernel_of s.kernel.state s.kernel.history s.kernel.places) (outside_of s) o)
        (Some (Controller (outside_of s))) None) next
        ∙ ap (λ (b : Bool). cond b (Some (Controller (outside_of s))) None) h)

-- a round in which it makes none
in-round : (script : ScriptState) (run : Scenario) (c : Call) (a b : RoundsState) → until_of script ≡ 0
    → next_call_of script ≡ Some c → AtTurn script run a → is_answered_now c a.seats ≡ false → GoesRound 0 a b
    → AtTurn script run b
in-round script run c a b still next turn waits round =
    in-finish script run round.between b still (of round.begins) round.goes
  where
    now : InRound script run a
    now = idles script run a turn (unready script c a.seats next waits)

    of : (round.between ≡ a) ⊎ Rests 0 a round.between → InRound script run round.between
    of (inl same) = subst (InRound script run) (sym same) now
    of (inr rests) =
        idles script run round.between (in-rests script run a round.between still now rests)
        (unready script c round.between.seats next (ap (is_answered_now c) rests.same ∙ waits))

waits-on : (script : ScriptState) (run : Scenario) (n : ℕ) (c : Call) (a b : RoundsState) → until_of script ≡ 0
    → next_call_of script ≡ Some c → wait_end_of c ≡ 0 → AtTurn script run a → WaitsFor n c a b → AtTurn script run b
waits-on script run zero c a b still next at_once turn same = subst (AtTurn script run) (sym same) turn
waits-on script run (suc n) c a b still next at_once turn waits =
    in-round script run c waits.0 b still next
    (waits-on script run n c a waits.0 still next at_once turn waits.1.0) waits.1.1.0
    (subst (λ (m : ℕ). GoesRound m waits.0 b) at_once waits.1.1.1)

-- the outside's call is ready
ready-if : (script : ScriptState) (c : Call) (s t : SeatsState) → OutsideCalled c s t → next_call_of script ≡ Some c
    → outside_if script s ≡ Some (Controller (outside_of s))
unfolding outside_if kernel_of
ready-if script c s t called next =
    ap (λ (o : Option Call).
    cond (is_answered (kernel_of s.kernel.state s.kernel.history s.kernel.places) (outside_of s) o)
    (Some (Controller (outside_of s))) None) next
    ∙ ap (λ (o : Option Answer). cond (is_some o) (Some (Controller (outside_of s))) None) called.answered

pub makes-call : (script : ScriptState) (run : Scenario) (c : Call) (a b : RoundsState) → until_of script ≡ 0
    → next_call_of script ≡ Some c → wait_end_of c ≡ 0 → AtTurn script run a → (made : Made c a b)
    → InRound (fed script made.called.answer.reply) run b
makes-call script run c a b still next at_once turn made = of there.at
  where
    there : AtTurn script run made.ready
    there = waits-on script run made.rounds c a made.ready still next at_once turn made.waits

    more : ScriptState
    more = fed script made.called.answer.reply

    of : (made.ready.place ≡ first_place) ⊎ (has_place made.ready.seats ≡ false)
        → InRound (fed script made.called.answer.reply) run b
    of (inr full) =
        full-called made.ready.seats (InRound (fed script made.called.answer.reply) run b) made.called.place full
    of (inl at) =
        subst (λ (p : Place). Ran more run b.seats (next_of_all more b.seats p)) (sym (made.place ∙ at))
        (ran-called script run made.ready.seats b.seats (turn_of script made.ready.seats) c made.called there.ran next
        (ap (λ (o : Option Actor).
        option_or o (next_from (world_of (until_of script) made.ready.seats) first_place))
        (ready-if script c made.ready.seats b.seats made.called next)))
