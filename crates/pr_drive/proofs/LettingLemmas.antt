use Rattle.std.proofs.Common.{◌≡◌, ◌+◌, ◌⊎◌, inl, inr, ℕ, Bool, true, false, List, [], ◌∷◌, Result, Ok, Err, sym, ap}
use Rattle.std.proofs.Common.{subst}
use Rattle.std.proofs.lemmas.List.Elements.{All-head, All-tail}
use Rattle.pr_asks.specs.Asks.{ask_of}
use Rattle.pr_asks.specs.declared.asks.Ask.{Ask}
use Rattle.pr_asks.specs.declared.asks.Ask.TheVariants as ask
use Rattle.pr_asks.specs.declared.asks.AskKind.{AskKind}
use Rattle.pr_model.specs.declared.events.Entry.{Entry}
use Rattle.pr_drive.specs.Alone.{OnlyLetOthers, lets_others}
use Rattle.pr_drive.specs.Exchanges.{Answers, GoesFor, GoesUntil, MadeAll, MadeFewer, StopsAtRest, StopsReady}
use Rattle.pr_drive.specs.Rounds.{AreSteps, AreStepsOn, FinishesRound, IsAtRest, IsStepOn, Rests, RoundsState, after_step}
use Rattle.pr_drive.specs.Rounds.{after_steps}
use Rattle.pr_drive.specs.Sessions.{AnswersRead, Exchange, Exchanged, Exchanges, PassesTurn, Stand}
use Rattle.pr_drive.proofs.RoundLemmas.{step-on}

-- What each step of the rounds keeps, past the outside's turn too, and what stays where nobody is left in a round, is
-- kept by lines that only let others move.

module _ (P : RoundsState → Type 0) (step : (r : RoundsState) (e : Entry) → P r → IsStepOn 0 r e → P (after_step e r))
    (rests : (r q : RoundsState) → P r → Rests 0 r q → P q) where
  same-kept : (r q : RoundsState) → P r → q ≡ r → P q
  same-kept r q kept same = subst P (sym same) kept

  rest-kept : (r q : RoundsState) → P r → IsAtRest 0 r q → P q
  rest-kept r q kept rest = rests rest.between q (rests r rest.between kept rest.left) rest.round

  on-kept : (es : List Entry) (r : RoundsState) → P r → AreStepsOn 0 r es → P (after_steps es r)
  on-kept [] r kept steps = kept
  on-kept (e ∷ es) r kept steps = on-kept es (after_step e r) (step r e kept steps.0) steps.1

  steps-kept : (es : List Entry) (r : RoundsState) → P r → AreSteps 0 r es → P (after_steps es r)
  steps-kept [] r kept steps = kept
  steps-kept (e ∷ es) r kept steps =
      steps-kept es (after_step e r) (step r e kept (step-on 0 r e steps.0)) steps.1

  pub finish-kept : (r q : RoundsState) → P r → FinishesRound 0 r q → P q
  finish-kept r q kept round =
      rests (after_steps round.entries r) q (steps-kept round.entries r kept round.steps) round.rests

  for-kept : (times : ℕ) (r q : RoundsState) → P r → GoesFor times r q → P q
  for-kept times r q kept moves = of moves.end
    where
      there : P (after_steps moves.entries r)
      there = on-kept moves.entries r kept moves.steps

      of : MadeAll times moves.entries r q ⊎ MadeFewer times moves.entries r q → P q
      of (inl all) = same-kept (after_steps moves.entries r) q there all.is
      of (inr fewer) = rest-kept (after_steps moves.entries r) q there fewer.rests

  until-kept : (r q : RoundsState) → P r → GoesUntil r q → P q
  until-kept r q kept moves = of moves.over
    where
      there : P (after_steps moves.entries r)
      there = on-kept moves.entries r kept moves.steps

      of : StopsReady moves.entries r q ⊎ StopsAtRest moves.entries r q → P q
      of (inl stops) = same-kept (after_steps moves.entries r) q there stops.is
      of (inr stops) = rest-kept (after_steps moves.entries r) q there stops.rests

  -- such a line, and that the outside's turn goes on
  asked-kept : (asked : Ask) (over : Bool) (r q : RoundsState) (text : List ℕ) → lets_others (Ok asked) ≡ true → P r
      → Answers asked over r q text → P q × (over ≡ false)
  asked-kept (ask.Moves times) over r q text lets kept h = (for-kept times r q kept h.1.moves, h.0)
  asked-kept ask.Run over r q text lets kept h = (until-kept r q kept h.1.moves, h.0)
  asked-kept ask.End over r q text lets kept h = (same-kept r q kept h.1.same, h.0)
  asked-kept (ask.Call c) over r q text lets kept h = cc
  asked-kept (ask.Messages script) over r q text lets kept h = cc
  asked-kept (ask.Move actor) over r q text lets kept h = cc

  read-kept : (number : ℕ) (read : Result Ask AskKind) (over : Bool) (r q : RoundsState) (text : List ℕ)
      → lets_others read ≡ true → P r → AnswersRead number read over r q text → P q × (over ≡ false)
  read-kept number (Err kind) over r q text lets kept h = (same-kept r q kept h.1.same, h.0)
  read-kept number (Ok asked) over r q text lets kept h = asked-kept asked over r q text lets kept h.1

  pub exchange-kept : (number : ℕ) (x : Exchange) (a b : Stand) → lets_others (ask_of x.line) ≡ true → P a.rounds
      → Exchanged number x a b → P b.rounds
  exchange-kept number x a b lets kept h =
      let answered = read-kept number (ask_of x.line) h.over a.rounds h.answered x.reply lets kept h.answers in
      let same : b.rounds ≡ h.answered = subst (λ (o : Bool). PassesTurn o h.answered b.rounds) answered.1 h.passes in
      same-kept h.answered b.rounds answered.0 same

  pub exchanges-kept : (xs : List Exchange) (number : ℕ) (a b : Stand) → OnlyLetOthers xs → P a.rounds
      → Exchanges number xs a b → P b.rounds
  exchanges-kept [] number a b only kept h = same-kept a.rounds b.rounds kept (ap (λ (x : Stand). x.rounds) h)
  exchanges-kept (x ∷ xs) number a b only kept h =
      exchanges-kept xs (number + 1) h.0 b (All-tail (λ x. lets_others (ask_of x.line) ≡ true) x xs only)
      (exchange-kept number x a h.0 (All-head (λ x. lets_others (ask_of x.line) ≡ true) x xs only) kept h.1.0) h.1.1
