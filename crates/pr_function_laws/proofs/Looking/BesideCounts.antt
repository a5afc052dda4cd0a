use Rattle.std.proofs.Common.{◌≡◌, ◌≤◌, ◌<◌, ◌||◌, ◌+◌, ◌*◌, ◌-◌, ℕ, suc, Bool, true, false, cond, is_some, nat_lt, Option, Some, None, List, [], ◌∷◌, length, refl, sym, subst, ap, ◌∙◌, arith}
use Rattle.std.proofs.lemmas.Bool.{false≢true}
use Rattle.std.proofs.lemmas.List.Elements.{All-cons, All-head, All-nil, All-tail}
use Rattle.std.proofs.lemmas.Nat.{column_fits}
use Rattle.std.proofs.lemmas.Option.{none-some}
use Rattle.std.specs.List.{All, slice_get}
use Rattle.pr_line.specs.declared.options.Options.{Options}
use Rattle.pr_model.specs.Replies.{bytes_in}
use Rattle.pr_model.specs.declared.calls.Reply.{Reply}
use Rattle.pr_model.specs.declared.calls.Reply.TheVariants as reply
use Rattle.pr_truss.specs.Asides.{patching, with_aside}
use Rattle.pr_truss.specs.Closings.{left_or_finished, with_interrupt, with_next_left}
use Rattle.pr_truss.specs.FunctionFeeding.{after_first, after_patch, fed_functions, is_to_plant, planted_if, with_asking_answered, with_aside_answered, with_code_answered, with_code_read, with_next_function, with_patch_answered, with_pending_told, with_plant_answered, with_planted, with_wait_answered, without_planted}
use Rattle.pr_truss.specs.Marks.{first_function, has_functions, without_function}
use Rattle.pr_truss.specs.Openings.{with_stop_seen}
use Rattle.pr_truss.specs.Replies.{answer_of}
use Rattle.pr_truss.specs.Trusses.{TrussState}
use Rattle.pr_truss.specs.declared.asides.Aside.{Aside}
use Rattle.pr_truss.specs.declared.asides.Aside.TheVariants.{Nothing, Reading, Planting, Patching, AwaitingStop, Asking, AwaitingAgain}
use Rattle.pr_truss.specs.declared.processes.Traced.{Traced}
use Rattle.pr_truss.specs.declared.replies.Answer.{Answer}
use Rattle.pr_truss.specs.declared.replies.Answer.TheVariants.{Accepted, Interrupted, Gone, Refused}
use Rattle.pr_truss.specs.declared.stages.AfterClosing.TheVariants.{OpenNext, GoOn}
use Rattle.pr_truss.specs.declared.stages.OpeningStep.TheVariants as opening
use Rattle.pr_truss.specs.declared.stages.Stage.{Stage}
use Rattle.pr_truss.specs.declared.stages.Stage.TheVariants.{Opening, ReadingText, Running, Closing}
use Rattle.pr_truss_laws.proofs.Replies.AnswerLemmas.{IsAnswer, answer-is}
use Rattle.pr_truss_laws.specs.Exchanges.{Exchange, Makes, errno_in}
use Rattle.pr_truss_laws.specs.Soon.{IsNoPoll}
use Rattle.pr_function_laws.proofs.Marks.MarkLemmas.{members, members-most, without-first}
use Rattle.pr_function_laws.proofs.Marks.SoundLemmas.{AsideIsBelow}
use Rattle.pr_function_laws.proofs.NextCalls.LookReads.{some-functions}
use Rattle.pr_function_laws.proofs.NextCalls.PatchCalls.{fed-beside}
use Rattle.pr_function_laws.proofs.OrdinaryTruss.OrdinaryExchanges.{IsFit, Move, beside_stage, move, next-fit, on_stage}
use Rattle.pr_function_laws.proofs.OrdinaryTruss.OrdinaryRows.{is_beside}
use Rattle.pr_function_laws.proofs.OrdinaryTruss.OrdinaryStops.{FitsAside, IsLookedAt, IsOpenedAt, patch-looked}
use Rattle.pr_function_laws.proofs.ShownOnce.GoingOn.{like-polls}
use Rattle.pr_function_laws.specs.Ordinary.{PassesOver, ordinary}
use Rattle.pr_function_laws.specs.Runs.{MakesFunctionCalls}
use Rattle.pr_function_laws.specs.Soon.{IsCalm}
use Rattle.pr_function_laws.specs.SoonPolls.{interrupts, interrupts_in, times_as_many}

-- How many calls of truss with calls of functions come at most for those of a truss that they are like: before each
-- call of the stage so many come beside it as there are breakpoints to be read, planted, lifted or cleared, and two
-- more for each interrupt.

-- ---- what is left to do beside the stage

-- of so many functions
abbrev pub left_beside : ℕ → Aside → ℕ
left_beside n Nothing = 0
left_beside n (Reading place function) = 2 * (n - function)
left_beside n (Planting place function) = 2 * (n - function) - 1
left_beside n (Patching place plants lifts clear) = members plants + members lifts + 1
left_beside n (AwaitingStop until) = 1
left_beside n Asking = 2
left_beside n (AwaitingAgain until) = 1

left-most : (n : ℕ) (aside : Aside) → 1 ≤ n → AsideIsBelow n aside → left_beside n aside ≤ 2 * n + 1
left-most n Nothing some below = omega arith
left-most n (Reading place function) some below = omega arith
left-most n (Planting place function) some below = omega arith
left-most n (Patching place plants lifts clear) some below =
    omega (arith, members-most n plants below.0, members-most n lifts below.1)
left-most n (AwaitingStop until) some below = omega arith
left-most n Asking some below = omega (arith, some)
left-most n (AwaitingAgain until) some below = omega arith

patch-left : (n place : ℕ) (plants lifts : List Bool) (clear : Bool)
    → left_beside n (patching place plants lifts clear) ≤ members plants + members lifts + 1
unfolding patching
patch-left n place plants lifts clear =
    elim (is_some (first_function plants) || is_some (first_function lifts) || clear)
    as (λ b. left_beside n (cond b (Patching place plants lifts clear) Nothing) ≤ members plants + members lifts + 1)
    [ true ↦ omega arith | false ↦ omega arith ]

-- ---- an exchange that is left out

interrupt-aside : (u : TrussState) → (with_interrupt u).aside ≡ u.aside
unfolding with_interrupt with_next_left
interrupt-aside u = by (slice_get u.traced 0)
  where
    by : (first : Option Traced) → (left_or_finished (record u { leaving = true }) first).aside ≡ u.aside
    by None = refl
    by (Some t) = refl

module _ (n : ℕ) (t : TrussState) (r : Reply) where
  abbrev at_once : TrussState
  at_once = with_aside t Nothing

  -- how much less is left
  abbrev Falls : Aside → TrussState → Type 0
  Falls was v = left_beside n v.aside + 1 ≤ left_beside n was + 2 * interrupts_in r

  broken : answer_of r ≡ Interrupted → interrupts_in r ≡ 1
  unfolding IsAnswer
  broken is = ap interrupts_in (subst (IsAnswer r) is (answer-is r))

  -- it was granted
  took : errno_in r ≡ None → answer_of r ≡ Accepted
  unfolding answer_of
  took none = by r none
    where
      by : (x : Reply) → errno_in x ≡ None → answer_of x ≡ Accepted
      by (reply.Fail errno) is = absurd (none-some errno (sym is))
      by _ is = refl

  opened-took : (place : ℕ) (stage : Stage) → IsOpenedAt place stage → PassesOver stage r → answer_of r ≡ Accepted
  opened-took place (Opening at opening.Start) here passes = took passes
  opened-took place _ here passes = absurd here

  -- the next function
  next-falls : (u : TrussState) (place function : ℕ) (was : Aside) → length u.options.functions ≡ n → u.aside ≡ Nothing
      → 2 * (n - function) + 1 ≤ left_beside n was → Falls was (with_next_function u place function)
  unfolding with_next_function
  next-falls u place function was count idle less =
      elim (nat_lt function (length u.options.functions))
      as (λ b. Falls was (cond b (with_aside u (Reading place function)) (with_aside u Nothing)))
      [ true ↦ omega (arith, less) | false ↦ omega (arith, less) ]

  code-falls : (place function : ℕ) → length t.options.functions ≡ n → function < n → answer_of r ≡ Accepted
      → Falls (Reading place function) (with_code_answered at_once place function r (answer_of r))
  unfolding with_code_answered with_code_read
  code-falls place function count below accepted =
      subst (λ a. Falls (Reading place function) (with_code_answered at_once place function r a)) (sym accepted)
      (elim (is_to_plant t.options function (bytes_in r))
      as (λ b. Falls (Reading place function)
      (cond b (with_aside at_once (Planting place function)) (with_next_function at_once place (function + 1)))) [
        | true ↦ omega (arith, below)
        | false ↦ next-falls at_once place (function + 1) (Reading place function) count refl (omega (arith, below))
      ])

  plant-falls : (place function : ℕ) → length t.options.functions ≡ n → function < n → answer_of r ≡ Accepted
      → Falls (Planting place function) (with_plant_answered at_once place function (answer_of r))
  unfolding with_plant_answered
  plant-falls place function count below accepted =
      subst (λ a. Falls (Planting place function) (with_plant_answered at_once place function a)) (sym accepted)
      (next-falls (with_planted at_once place function) place (function + 1) (Planting place function) count refl
      (omega (arith, below)))

  -- ---- a breakpoint

  after-left : (u : TrussState) (rest : Aside) (place : ℕ) (stage : Stage) (a : Answer) → u.aside ≡ Nothing
      → IsLookedAt place stage → left_beside n (after_patch u rest place stage a).aside ≤ left_beside n rest
  unfolding after_patch with_pending_told with_stop_seen
  after-left u rest place (Closing at OpenNext) a idle looked = omega arith
  after-left u rest place (Closing at GoOn) Gone idle looked = omega (arith, ap (left_beside n) idle)
  after-left u rest place (Closing at GoOn) Accepted idle looked = omega arith
  after-left u rest place (Closing at GoOn) Interrupted idle looked = omega arith
  after-left u rest place (Closing at GoOn) (Refused errno) idle looked = omega arith
  after-left u rest place (Running at) Accepted idle looked = omega arith
  after-left u rest place (Running at) (Refused errno) idle looked = omega arith
  after-left u rest place (Running at) Gone idle looked = omega (arith, ap (left_beside n) idle)
  after-left u rest place (Running at) Interrupted idle looked =
      omega (arith, ap (left_beside n) (interrupt-aside (with_stop_seen (with_pending_told u) place) ∙ idle))
  after-left u rest place (ReadingText at l from len) Accepted idle looked = omega arith
  after-left u rest place (ReadingText at l from len) (Refused errno) idle looked = omega arith
  after-left u rest place (ReadingText at l from len) Gone idle looked = omega (arith, ap (left_beside n) idle)
  after-left u rest place (ReadingText at l from len) Interrupted idle looked =
      omega (arith, ap (left_beside n) (interrupt-aside (with_stop_seen (with_pending_told u) place) ∙ idle))
  after-left u rest place _ a idle looked = absurd looked

  planted-idle : (place function : ℕ) (a : Answer) → (planted_if at_once place function a).aside ≡ Nothing
  planted-idle place function Accepted = refl
  planted-idle place function _ = refl

  planted-stage : (place function : ℕ) (a : Answer) → (planted_if at_once place function a).stage ≡ t.stage
  planted-stage place function Accepted = refl
  planted-stage place function _ = refl

  first-falls : (place : ℕ) (plants lifts : List Bool) (clear : Bool) → IsLookedAt place t.stage
      → (plant lift : Option ℕ) → first_function plants ≡ plant → first_function lifts ≡ lift
      → Falls (Patching place plants lifts clear)
      (after_first at_once place plants lifts clear (answer_of r) plant lift)
  first-falls place plants lifts clear looked (Some function) lift first second =
      let rest = patching place (without_function plants function) lifts clear in
      omega (
        arith,
        after-left (planted_if at_once place function (answer_of r)) rest place t.stage (answer_of r)
            (planted-idle place function (answer_of r)) looked,
        patch-left n place (without_function plants function) lifts clear,
        without-first plants function first,
      )
  first-falls place plants lifts clear looked None (Some function) first second =
      let rest = patching place plants (without_function lifts function) clear in
      omega (
        arith,
        after-left (without_planted at_once place function) rest place t.stage (answer_of r) refl looked,
        patch-left n place plants (without_function lifts function) clear,
        without-first lifts function second,
      )
  first-falls place plants lifts clear looked None None first second =
      omega (arith, after-left at_once Nothing place t.stage (answer_of r) refl looked)

  -- ---- the wait for a stop

  wait-falls : (was : Aside) (a : Answer) → left_beside n was ≡ 1 → answer_of r ≡ a
      → Falls was (with_wait_answered at_once a)
  unfolding with_wait_answered
  wait-falls was Accepted one is = omega (arith, one)
  wait-falls was Interrupted one is = omega (arith, one, broken is)
  wait-falls was (Refused errno) one is = omega (arith, one)
  wait-falls was Gone one is = omega (arith, one)

  asking-falls : (a : Answer) → answer_of r ≡ a → Falls Asking (with_asking_answered at_once r a)
  unfolding with_asking_answered
  asking-falls Accepted is = omega arith
  asking-falls Interrupted is = omega (arith, broken is)
  asking-falls (Refused errno) is = omega arith
  asking-falls Gone is = omega arith

  aside-falls : (aside : Aside) → is_beside aside ≡ true → FitsAside aside t.stage → AsideIsBelow n aside
      → length t.options.functions ≡ n → PassesOver t.stage r → Falls aside (with_aside_answered t r aside)
  unfolding with_aside_answered with_patch_answered
  aside-falls Nothing on fits below count passes = absurd (false≢true on)
  aside-falls (Reading place function) on fits below count passes =
      code-falls place function count below (opened-took place t.stage fits passes)
  aside-falls (Planting place function) on fits below count passes =
      plant-falls place function count below (opened-took place t.stage fits passes)
  aside-falls (Patching place plants lifts clear) on fits below count passes =
      first-falls place plants lifts clear (patch-looked place plants clear t.stage fits.0) (first_function plants)
      (first_function lifts) refl refl
  aside-falls (AwaitingStop until) on fits below count passes =
      wait-falls (AwaitingStop until) (answer_of r) refl refl
  aside-falls Asking on fits below count passes = asking-falls (answer_of r) refl
  aside-falls (AwaitingAgain until) on fits below count passes =
      wait-falls (AwaitingAgain until) (answer_of r) refl refl

-- ---- all exchanges

-- sums of counts
out-few : (n p l m i j : ℕ) → n ≤ p + l + 2 * j → l + 1 ≤ m + 2 * i → suc n ≤ p + m + 2 * (i + j)
out-few n p l m i j few falls = omega (arith, few, falls)

on-few : (n p q l m i j times : ℕ) → n ≤ p + l + 2 * j → l + 1 ≤ times → p + times ≤ q
    → suc n ≤ q + m + 2 * (i + j)
on-few n p q l m i j times few most row = omega (arith, few, most, row)

all-few : (n p q l i times : ℕ) → n ≤ p + l + 2 * i → l + 1 ≤ times → p + times ≤ q → n ≤ q + 2 * i
all-few n p q l i times few most row = omega (arith, few, most, row)

row-fits : (times a b : ℕ) → a < b → times * a + times ≤ times * b
row-fits times a b less = column_fits times a times b less (omega arith)

module _ (o : Options) (has : has_functions o ≡ true) (off : o.follow ≡ false) where
  abbrev F : ℕ
  F = length o.functions

  most : (s : TrussState) → IsFit o s → left_beside F s.aside + 1 ≤ times_as_many o
  most s fit =
      let sound = fit.sound in
      let names = sound.names in
      omega (arith, left-most F s.aside (some-functions o has) names.aside)

  -- those of a truss that these are like, and how many they are
  pub record Counted (s : TrussState) (xs : List Exchange) : Type 0 where
    pub ys : List Exchange
    pub makes : Makes (ordinary s) ys
    pub none : All IsNoPoll ys
    pub few : length xs ≤ times_as_many o * length ys + left_beside (length o.functions) s.aside + 2 * interrupts xs

  module _ (s : TrussState) (x : Exchange) (xs : List Exchange) (fit : IsFit o s) where
    abbrev v : TrussState
    v = fed_functions s x.reply

    falls : is_beside s.aside ≡ true → PassesOver s.stage x.reply
        → left_beside F v.aside + 1 ≤ left_beside F s.aside + 2 * interrupts_in x.reply
    falls beside passes =
        let sound = fit.sound in
        let names = sound.names in
        subst (λ (z : TrussState). left_beside F z.aside + 1 ≤ left_beside F s.aside + 2 * interrupts_in x.reply)
        (sym (fed-beside o has s x.reply fit.options))
        (aside-falls F s x.reply s.aside beside fit.fits names.aside
        (ap (λ (p : Options). length p.functions) fit.options) passes)

    push : IsFit o v → IsNoPoll x → Counted v xs → Move s x → Counted s (x ∷ xs)
    push fit_then no_poll c (beside_stage beside passes stays) = record {
      ys = c.ys;
      makes = subst (λ (z : TrussState). Makes z c.ys) stays c.makes;
      none = c.none;
      few = out-few (length xs) (times_as_many o * length c.ys) (left_beside F v.aside) (left_beside F s.aside)
          (interrupts_in x.reply) (interrupts xs) c.few (falls beside passes);
    }
    push fit_then no_poll c (on_stage one) = record {
      ys = one.y ∷ c.ys;
      makes = (one.called, subst (λ (z : TrussState). Makes z c.ys) one.comes c.makes);
      none = All-cons IsNoPoll one.y c.ys (like-polls s x one.y one.like no_poll) c.none;
      few = on-few (length xs) (times_as_many o * length c.ys) (times_as_many o * length (one.y ∷ c.ys))
          (left_beside F v.aside) (left_beside F s.aside) (interrupts_in x.reply) (interrupts xs) (times_as_many o)
          c.few
          (most v fit_then)
          (row-fits (times_as_many o) (length c.ys) (length (one.y ∷ c.ys)) (omega arith));
    }

  pub counted : (xs : List Exchange) (s : TrussState) → IsFit o s → MakesFunctionCalls s xs → All IsCalm xs
      → All IsNoPoll xs → Counted s xs
  counted [] s fit makes calm none = record { ys = []; makes = tt; none = All-nil IsNoPoll; few = omega arith }
  counted (x ∷ xs) s fit makes calm none =
      let still = All-head IsCalm x xs calm in
      let fit_then = next-fit o has off s x fit makes.0 still in
      push s x xs fit fit_then (All-head IsNoPoll x xs none)
      (counted xs (fed_functions s x.reply) fit_then makes.1 (All-tail IsCalm x xs calm) (All-tail IsNoPoll x xs none))
      (move o has off s x fit makes.0 still)

  -- Where those of that truss are fewer than this, they are as many times fewer.
  pub counted-most : (s : TrussState) (xs : List Exchange) (bound : ℕ) → IsFit o s → (c : Counted s xs)
      → length c.ys < bound → length xs ≤ times_as_many o * bound + 2 * interrupts xs
  counted-most s xs bound fit c less =
      all-few (length xs) (times_as_many o * length c.ys) (times_as_many o * bound) (left_beside F s.aside)
      (interrupts xs)
      (times_as_many o) c.few (most s fit) (row-fits (times_as_many o) (length c.ys) bound less)
