use Rattle.std.proofs.Common.{◌≡◌, ◌<◌, ◌≤◌, ◌+◌, ◌++◌, ◌⊎◌, inl, inr, ℕ, zero, suc, Bool, List, [], ◌∷◌}
use Rattle.std.proofs.Common.{Some, drop, length, refl, sym, ap, subst, ◌∙◌, arith}
use Rattle.std.proofs.Common.{length-append}
use Rattle.std.proofs.lemmas.Option.{slice_get-get_or}
use Rattle.std.specs.List.{slice_get, slice_index_or}
use Rattle.pr_model.specs.declared.calls.Call.{Call}
use Rattle.pr_model.specs.declared.events.Actor.{Actor}
use Rattle.pr_model.specs.declared.events.Entry.{Entry}
use Rattle.pr_num.proofs.ListLemmas.{drop-at}
use Rattle.pr_scen.specs.Scenarios.{Scenario}
use Rattle.pr_world.specs.Controllers.{wait_end_of}
use Rattle.pr_drive.specs.Exchanges.{GoesFor, GoesUntil, MadeAll, MadeFewer, StopsAtRest, StopsReady, WaitsFor}
use Rattle.pr_drive.specs.Going.{MovesIf, SeatsState, after_entries}
use Rattle.pr_drive.specs.Rounds.{AreSteps, AreStepsOn, FinishesRound, GoesBySchedule, GoesRound, IsStep}
use Rattle.pr_drive.specs.Rounds.{IsStepOn, MovesOn, Rests, RoundsState, Steps, after_step, after_steps}
use Rattle.pr_drive.specs.Rounds.{first_controllers}
use Rattle.pr_drive.specs.Served.{Begins}
use Rattle.pr_drive.specs.Starts.{first_seats}
use Rattle.pr_drive.specs.declared.places.Place.{Place}
use Rattle.pr_drive.proofs.EntryLemmas.{AreMoves, Goes, goes-count, goes-history, goes-then, if-goes, stayed-goes}

-- Steps, one after another, and what they come to as moves of others.

-- ---- what they make of the kernel

pub steps-seats : (es : List Entry) (r : RoundsState) → (after_steps es r).seats ≡ after_entries es r.seats
steps-seats [] r = refl
steps-seats (e ∷ es) r = steps-seats es (after_step e r)

steps-moves : (until : ℕ) (es : List Entry) (r : RoundsState) → AreSteps until r es → AreMoves until r.seats es
steps-moves until [] r steps = tt
steps-moves until (e ∷ es) r steps = (steps.0.move, steps-moves until es (after_step e r) steps.1)

on-moves : (until : ℕ) (es : List Entry) (r : RoundsState) → AreStepsOn until r es → AreMoves until r.seats es
on-moves until [] r steps = tt
on-moves until (e ∷ es) r steps = (steps.0.move, on-moves until es (after_step e r) steps.1)

pub steps-go : (until : ℕ) (es : List Entry) (r : RoundsState) → AreSteps until r es
    → Goes until r.seats (after_steps es r).seats
steps-go until es r steps = record { entries = es; moves = steps-moves until es r steps; is = steps-seats es r }

pub on-go : (until : ℕ) (es : List Entry) (r : RoundsState) → AreStepsOn until r es
    → Goes until r.seats (after_steps es r).seats
on-go until es r steps = record { entries = es; moves = on-moves until es r steps; is = steps-seats es r }

same-goes : (until : ℕ) (a b c : SeatsState) → Goes until a b → c ≡ b → Goes until a c
same-goes until a b c goes same = subst (λ (s : SeatsState). Goes until a s) (sym same) goes

pub finish-goes : (until : ℕ) (a b : RoundsState) → FinishesRound until a b → Goes until a.seats b.seats
finish-goes until a b round = same-goes until a.seats (after_steps round.entries a).seats b.seats
    (steps-go until round.entries a round.steps) round.rests.same

begins-goes : (until : ℕ) (a b : RoundsState) → (b ≡ a) ⊎ Rests until a b → Goes until a.seats b.seats
begins-goes until a b (inl same) = stayed-goes until a.seats b.seats (ap (λ (r : RoundsState). r.seats) same)
begins-goes until a b (inr rests) = stayed-goes until a.seats b.seats rests.same

pub round-goes : (until : ℕ) (a b : RoundsState) → GoesRound until a b → Goes until a.seats b.seats
round-goes until a b round = goes-then until a.seats round.between.seats b.seats
    (begins-goes until a round.between round.begins) (finish-goes until round.between b round.goes)

begins-count : (until : ℕ) (a b : RoundsState) → (b ≡ a) ⊎ Rests until a b
    → length b.seats.kernel.history ≡ length a.seats.kernel.history
begins-count until a b (inl same) = ap (λ (r : RoundsState). length r.seats.kernel.history) same
begins-count until a b (inr rests) = ap (λ (s : SeatsState). length s.kernel.history) rests.same

finish-count : (until : ℕ) (a b : RoundsState) (round : FinishesRound until a b)
    → length b.seats.kernel.history ≡ length a.seats.kernel.history + length round.entries
unfolding steps-go
finish-count until a b round =
    ap (λ (s : SeatsState). length s.kernel.history) round.rests.same
    ∙ goes-count until a.seats (after_steps round.entries a).seats (steps-go until round.entries a round.steps)

pub round-count : (until : ℕ) (a b : RoundsState) → GoesRound until a b
    → length a.seats.kernel.history < length b.seats.kernel.history
round-count until a b round = omega
    (arith, round.some, begins-count until a round.between round.begins, finish-count until round.between b round.goes)

pub waits-goes : (n : ℕ) (c : Call) (a b : RoundsState) → WaitsFor n c a b → Goes (wait_end_of c) a.seats b.seats
waits-goes zero c a b waits = stayed-goes (wait_end_of c) a.seats b.seats (ap (λ (r : RoundsState). r.seats) waits)
waits-goes (suc n) c a b waits =
    goes-then (wait_end_of c) a.seats waits.0.seats b.seats (waits-goes n c a waits.0 waits.1.0)
    (round-goes (wait_end_of c) waits.0 b waits.1.1.1)

pub follows-goes : (actors : List Actor) (a b : SeatsState) → GoesBySchedule actors a b → Goes 0 a b
follows-goes [] a b same = stayed-goes 0 a b same
follows-goes (actor ∷ actors) a b h =
    goes-then 0 a h.1 b (if-goes 0 actor h.0 a h.1 h.2.0) (follows-goes actors h.1 b h.2.1)

-- ---- one more

pub after-push : (es : List Entry) (e : Entry) (r : RoundsState)
    → after_steps (es ++ e ∷ []) r ≡ after_step e (after_steps es r)
after-push [] e r = refl
after-push (x ∷ es) e r = after-push es e (after_step x r)

push-steps : (until : ℕ) (es : List Entry) (e : Entry) (r : RoundsState) → AreSteps until r es
    → IsStep until (after_steps es r) e → AreSteps until r (es ++ e ∷ [])
push-steps until [] e r steps one = (one, tt)
push-steps until (x ∷ es) e r steps one = (steps.0, push-steps until es e (after_step x r) steps.1 one)

pub push-on : (until : ℕ) (es : List Entry) (e : Entry) (r : RoundsState) → AreStepsOn until r es
    → IsStepOn until (after_steps es r) e → AreStepsOn until r (es ++ e ∷ [])
push-on until [] e r steps one = (one, tt)
push-on until (x ∷ es) e r steps one = (steps.0, push-on until es e (after_step x r) steps.1 one)

-- steps so far
pub record SteppedSoFar (until : ℕ) (a b : RoundsState) : Type 0 where
  pub entries : List Entry
  pub steps : AreSteps until a entries
  pub is : b ≡ after_steps entries a

pub stepped-none : (until : ℕ) (a : RoundsState) → SteppedSoFar until a a
stepped-none until a = record { entries = []; steps = tt; is = refl }

pub stepped-goes : (until : ℕ) (a b : RoundsState) → SteppedSoFar until a b → Goes until a.seats b.seats
stepped-goes until a b far =
    same-goes until a.seats (after_steps far.entries a).seats b.seats (steps-go until far.entries a far.steps)
    (ap (λ (r : RoundsState). r.seats) far.is)

pub stepped-more : (until : ℕ) (a b c : RoundsState) → SteppedSoFar until a b → Steps until b c → SteppedSoFar until a c
stepped-more until a b c far one = record {
  entries = far.entries ++ one.entry ∷ [];
  steps = push-steps until far.entries one.entry a far.steps
      (subst (λ (r : RoundsState). IsStep until r one.entry) far.is one.step);
  is = one.is ∙ ap (after_step one.entry) far.is ∙ sym (after-push far.entries one.entry a);
}

pub step-count : (until : ℕ) (a b : RoundsState) → Steps until a b
    → length b.seats.kernel.history ≡ length a.seats.kernel.history + 1
step-count until a b one =
    ap (λ (r : RoundsState). length r.seats.kernel.history) one.is
    ∙ length-append a.seats.kernel.history (one.entry ∷ [])

pub stepped-finish : (until : ℕ) (a b c : RoundsState) → SteppedSoFar until a b → Rests until b c
    → FinishesRound until a c
stepped-finish until a b c far rests = record {
  entries = far.entries;
  steps = far.steps;
  rests = subst (λ (r : RoundsState). Rests until r c) far.is rests;
}

-- ---- a round

-- what was left of it, in which somebody moved
pub round-left : (until : ℕ) (a b : RoundsState) → length a.seats.kernel.history < length b.seats.kernel.history
    → FinishesRound until a b → GoesRound until a b
round-left until a b more round = record {
  between = a;
  begins = inl refl;
  goes = round;
  some = omega (arith, more, finish-count until a b round);
}

-- a whole one, as nobody was left in it
pub round-whole : (until : ℕ) (a b c : RoundsState) → length b.seats.kernel.history < length c.seats.kernel.history
    → Rests until a b → FinishesRound until b c → GoesRound until a c
round-whole until a b c more rests round = record {
  between = b;
  begins = inr rests;
  goes = round;
  some = omega (arith, more, finish-count until b c round);
}

-- ---- past the outside's turn

-- so many moves so far
pub record GoneSoFar (n : ℕ) (a b : RoundsState) : Type 0 where
  pub entries : List Entry
  pub steps : AreStepsOn 0 a entries
  pub is : b ≡ after_steps entries a
  pub count : length entries ≡ n

pub gone-none : (a : RoundsState) → GoneSoFar 0 a a
gone-none a = record { entries = []; steps = tt; is = refl; count = refl }

pub gone-more : (n : ℕ) (a b c : RoundsState) → GoneSoFar n a b → MovesOn 0 b c → GoneSoFar (n + 1) a c
gone-more n a b c far one = record {
  entries = far.entries ++ one.entry ∷ [];
  steps = push-on 0 far.entries one.entry a far.steps
      (subst (λ (r : RoundsState). IsStepOn 0 r one.entry) far.is one.step);
  is = one.is ∙ ap (after_step one.entry) far.is ∙ sym (after-push far.entries one.entry a);
  count = length-append far.entries (one.entry ∷ []) ∙ ap (λ (m : ℕ). m + 1) far.count;
}

pub on-count : (a b : RoundsState) → MovesOn 0 a b → length b.seats.kernel.history ≡ length a.seats.kernel.history + 1
on-count a b one =
    ap (λ (r : RoundsState). length r.seats.kernel.history) one.is
    ∙ length-append a.seats.kernel.history (one.entry ∷ [])

-- the history then
pub gone-history : (es : List Entry) (a b : RoundsState) → AreStepsOn 0 a es → b.seats ≡ (after_steps es a).seats
    → b.seats.kernel.history ≡ a.seats.kernel.history ++ es
unfolding on-go
gone-history es a b steps is = ap (λ (s : SeatsState). s.kernel.history) is
    ∙ goes-history 0 a.seats (after_steps es a).seats (on-go 0 es a steps)

-- what came of many of them
pub for-seats : (times : ℕ) (a b : RoundsState) (moves : GoesFor times a b)
    → b.seats ≡ (after_steps moves.entries a).seats
for-seats times a b moves = of moves.end
  where
    of : MadeAll times moves.entries a b ⊎ MadeFewer times moves.entries a b
        → b.seats ≡ (after_steps moves.entries a).seats
    of (inl all) = ap (λ (r : RoundsState). r.seats) all.is
    of (inr fewer) = fewer.rests.same

pub until-seats : (a b : RoundsState) (moves : GoesUntil a b) → b.seats ≡ (after_steps moves.entries a).seats
until-seats a b moves = of moves.over
  where
    of : StopsReady moves.entries a b ⊎ StopsAtRest moves.entries a b → b.seats ≡ (after_steps moves.entries a).seats
    of (inl stops) = ap (λ (r : RoundsState). r.seats) stops.is
    of (inr stops) = stops.rests.same

-- ---- a schedule

drop-past : (i : ℕ) (xs : List Actor) → length xs ≤ i → drop i xs ≡ []
drop-past zero [] past = refl
drop-past (suc i) [] past = refl
drop-past zero (x ∷ xs) past = absurd (omega (arith, past))
drop-past (suc i) (x ∷ xs) past = drop-past i xs (omega (arith, past))

-- What the actors from a place on do comes behind what those before it did.
abbrev pub LeadsOn : List Actor → ℕ → SeatsState → SeatsState → Type 0
LeadsOn actors i first now = (last : SeatsState) → GoesBySchedule (drop i actors) now last
    → GoesBySchedule actors first last

pub follow-more : (actors : List Actor) (i : ℕ) (x : Actor) (moved : Bool) (first a b : SeatsState) → i < length actors
    → x ≡ slice_index_or actors i x
    → LeadsOn actors i first a → MovesIf moved 0 x a b → LeadsOn actors (i + 1) first b
follow-more actors i x moved first a b within at far one = λ last rest.
    let here : slice_get actors i ≡ Some x = slice_get-get_or actors i x within ∙ ap Some (sym at) in
    far last
    (subst (λ (xs : List Actor). GoesBySchedule xs a last) (sym (drop-at actors i x here))
    (moved, b, (one, rest)))

pub follow-end : (actors : List Actor) (i : ℕ) (first now : SeatsState) → length actors ≤ i → LeadsOn actors i first now
    → GoesBySchedule actors first now
follow-end actors i first now past far = far now
    (subst (λ (xs : List Actor). GoesBySchedule xs now now) (sym (drop-past i actors past)) refl)

-- how a session begins
pub begins-so : (s : Scenario) (seats : SeatsState) (schedule : List Actor) (a b c d : RoundsState)
    → seats ≡ first_seats s → schedule ≡ s.schedule → a ≡ record { seats = seats; place = first_controllers }
    → GoesBySchedule schedule a.seats b.seats → b.place ≡ a.place → FinishesRound 0 b c → d ≡ c → Begins s d
begins-so s seats schedule a b c d first all starts follows place round end =
    let at : a.seats ≡ first_seats s = ap (λ (r : RoundsState). r.seats) starts ∙ first in
    let from : b ≡ record { seats = b.seats; place = first_controllers } =
    ap (λ (p : Place). let r : RoundsState = record { seats = b.seats; place = p } in r)
    (place ∙ ap (λ (r : RoundsState). r.place) starts) in
    record {
      followed = b.seats;
      schedule = subst (λ (x : SeatsState). GoesBySchedule s.schedule x b.seats) at
          (subst (λ (xs : List Actor). GoesBySchedule xs a.seats b.seats) all follows);
      round = subst (λ (r : RoundsState). FinishesRound 0 r d) from
          (subst (λ (r : RoundsState). FinishesRound 0 b r) (sym end) round);
    }
