use Rattle.std.proofs.Common.{◌≡◌, ◌<◌, ◌≤◌, ◌+◌, ◌++◌, ℕ, suc, Bool, true, false, Option, Some, None, List, [], ◌∷◌, length, append-nil, append_assoc, refl, sym, subst, ap, ◌∙◌, arith, inl, inr}
use Rattle.std.proofs.lemmas.Bool.{cases_Bool, eq-eqb, false≢true}
use Rattle.std.proofs.lemmas.List.{length-append, length-map}
use Rattle.std.proofs.lemmas.List.Elements.{All-cons, All-head, All-nil, All-tail}
use Rattle.std.specs.List.{All, cons_option}
use Rattle.pr_line.specs.declared.options.Options.{Options}
use Rattle.pr_model.specs.Legal.{state_after}
use Rattle.pr_model.specs.Replies.{handle_in, until_in}
use Rattle.pr_model.specs.State.{TracedState}
use Rattle.pr_model.specs.declared.calls.Call.{Call}
use Rattle.pr_model.specs.declared.calls.Reply.{Reply}
use Rattle.pr_model.specs.declared.events.Entry.{Entry}
use Rattle.pr_report_laws.proofs.Files.FileLaws.{HasFiles}
use Rattle.pr_report_laws.proofs.Files.WatchHistories.{Reaches, exchanges-push}
use Rattle.pr_report_laws.proofs.Invariant.OpeningRuns.{IsOpening, OpensControl, born, freed, given, given-fed, given-opening, granted-accepted, granted-first, granted-rest, left_after, opening-goes, opening-runs, opens-control, step-fed, step-left, stepped, learns, steps_left}
use Rattle.pr_report_laws.proofs.Replies.Places.{unwatched-away}
use Rattle.pr_report_laws.proofs.Replies.TextReports.{reads_stop}
use Rattle.pr_report_laws.proofs.Replies.WatchedPlaces.{IsWatched, place-watched}
use Rattle.pr_report_laws.proofs.Watching.ChildPlaces.{push-same}
use Rattle.pr_report_laws.proofs.Watching.HistoryParts.{all-front, all-rest}
use Rattle.pr_report_laws.specs.Watching.{is_away, place_of, watches}
use Rattle.pr_truss.specs.Feeding.{fed}
use Rattle.pr_truss.specs.FunctionCalls.{next_function_call_of}
use Rattle.pr_truss.specs.FunctionFeeding.{fed_functions}
use Rattle.pr_truss.specs.Marks.{has_functions}
use Rattle.pr_truss.specs.NextCalls.{open_control}
use Rattle.pr_truss.specs.Openings.{at_step, learnt, step_after, with_control}
use Rattle.pr_truss.specs.Replies.{answer_of}
use Rattle.pr_truss.specs.Trusses.{TrussState, first_truss, traced_at, with_stage, with_traced}
use Rattle.pr_truss.specs.declared.asides.Aside.{Aside}
use Rattle.pr_truss.specs.declared.asides.Aside.TheVariants.{Nothing, Reading, Planting, Patching, AwaitingStop, Asking, AwaitingAgain}
use Rattle.pr_truss.specs.declared.replies.Answer.TheVariants.{Accepted}
use Rattle.pr_truss.specs.declared.stages.OpeningStep.{OpeningStep}
use Rattle.pr_truss.specs.declared.stages.OpeningStep.TheVariants.{OpenStatus, OpenLstatus, OpenMemory, ClearModes, SetRelease, Stop, AwaitStop, ReadLwps, TraceSignals, TraceFaults, TraceEntries, TraceExits, Follow, Start}
use Rattle.pr_truss.specs.declared.stages.Stage.TheVariants.{OpeningControl, Opening, ReadingLwps}
use Rattle.pr_truss_laws.proofs.Replies.AnswerLemmas.{Refuses}
use Rattle.pr_truss_laws.proofs.Replies.ReplySteps.{accepts, refused-other}
use Rattle.pr_truss_laws.specs.Exchanges.{Exchange, IsGranted, calls_in, exchanges}
use Rattle.pr_truss_laws.specs.Given.{reply_at}
use Rattle.pr_truss_laws.specs.Sent.{sends}
use Rattle.pr_function_laws.proofs.CallTurns.CalledLaws.{functions-both}
use Rattle.pr_function_laws.proofs.ShownOnce.GoingOn.{Going, after-going}
use Rattle.pr_function_laws.proofs.Holding.HoldCalls.{after-next, after-other, before-start, exits-look, is_follow, look_in, next-plain, opening-free, plant-look, read-look}
use Rattle.pr_function_laws.proofs.LeavingProcesses.LeavingLaws.{calm-exchanges}
use Rattle.pr_function_laws.proofs.OpenedProcesses.OpenedLaws.{calls-front, calls-rest}
use Rattle.pr_function_laws.proofs.OrdinaryTruss.OrdinaryCalls.{sees-sends, stands-sends}
use Rattle.pr_function_laws.proofs.OrdinaryTruss.OrdinaryEntries.{watches-ordinary}
use Rattle.pr_function_laws.proofs.OrdinaryTruss.OrdinaryExchanges.{IsFit, Turn, first-fit, goes_on, goes_out, next-fit, own-row, sees, turn}
use Rattle.pr_function_laws.proofs.OrdinaryTruss.OrdinaryFiles.{Halfway, run-halfway}
use Rattle.pr_function_laws.proofs.OrdinaryTruss.OrdinaryRows.{Row, Step, feeds, is_beside, passes, refuses, stays}
use Rattle.pr_function_laws.proofs.OrdinaryTruss.OrdinaryStops.{FitsAside}
use Rattle.pr_function_laws.specs.Holds.{GetsHoldWithFunctions, IsWholeFunctionOpening, LooksAndRuns, setting_calls, setting_calls_with}
use Rattle.pr_function_laws.specs.Opened.{IsFunctionRun, functions_at}
use Rattle.pr_function_laws.specs.Ordinary.{IsLike, in_place, ordinary, own_fault, refused, same}
use Rattle.pr_function_laws.specs.Planted.{Plants, Reads, look_at}
use Rattle.pr_function_laws.specs.Runs.{MakesFunctionCalls, functions_after}
use Rattle.pr_function_laws.specs.Soon.{IsCalm}

-- After a whole opening of a process truss with calls of functions watches it.

-- ---- the steps that are left

last-start : (now : OpeningStep) → steps_left false now ≡ 1 → now ≡ Start
last-start Start is = refl
last-start OpenStatus is = absurd (omega (arith, is))
last-start OpenLstatus is = absurd (omega (arith, is))
last-start OpenMemory is = absurd (omega (arith, is))
last-start ClearModes is = absurd (omega (arith, is))
last-start SetRelease is = absurd (omega (arith, is))
last-start Stop is = absurd (omega (arith, is))
last-start (AwaitStop until) is = absurd (omega (arith, is))
last-start ReadLwps is = absurd (omega (arith, is))
last-start TraceSignals is = absurd (omega (arith, is))
last-start TraceFaults is = absurd (omega (arith, is))
last-start TraceEntries is = absurd (omega (arith, is))
last-start TraceExits is = absurd (omega (arith, is))
last-start Follow is = absurd (omega (arith, is))

control-sends : (pid : ℕ) → sends (open_control pid) ≡ false
control-sends pid = refl

-- the steps behind the wait for the stop
abbrev pub is_past : OpeningStep → Bool
is_past ReadLwps = true
is_past TraceSignals = true
is_past TraceFaults = true
is_past TraceEntries = true
is_past TraceExits = true
is_past Follow = true
is_past Start = true
is_past _ = false

few-past : (now : OpeningStep) → steps_left false now ≤ 6 → is_past now ≡ true
few-past OpenStatus few = absurd (omega (arith, few))
few-past OpenLstatus few = absurd (omega (arith, few))
few-past OpenMemory few = absurd (omega (arith, few))
few-past ClearModes few = absurd (omega (arith, few))
few-past SetRelease few = absurd (omega (arith, few))
few-past Stop few = absurd (omega (arith, few))
few-past (AwaitStop until) few = absurd (omega (arith, few))
few-past ReadLwps few = refl
few-past TraceSignals few = refl
few-past TraceFaults few = refl
few-past TraceEntries few = refl
few-past TraceExits few = refl
few-past Follow few = refl
few-past Start few = refl

-- where two lists are parted in two ways
data Splits (xs ys zs ws : List Exchange) : Type 0 where
  inside : (m : List Exchange) → xs ≡ zs ++ m → ws ≡ m ++ ys → Splits xs ys zs ws
  beyond : (m : List Exchange) → zs ≡ xs ++ m → ys ≡ m ++ ws → Splits xs ys zs ws

splits-on : (x z : Exchange) (xs ys zs ws : List Exchange) → x ≡ z → Splits xs ys zs ws
    → Splits (x ∷ xs) ys (z ∷ zs) ws
splits-on x z xs ys zs ws alike (inside m parts behind) =
    inside m (ap (λ (es : List Exchange). x ∷ es) parts ∙ ap (λ y. y ∷ (zs ++ m)) alike) behind
splits-on x z xs ys zs ws alike (beyond m parts behind) =
    beyond m (ap (λ (es : List Exchange). z ∷ es) parts ∙ ap (λ y. y ∷ (xs ++ m)) (sym alike)) behind

splits : (xs ys zs ws : List Exchange) → xs ++ ys ≡ zs ++ ws → Splits xs ys zs ws
splits [] ys zs ws is = beyond zs refl is
splits (x ∷ xs) ys [] ws is = inside (x ∷ xs) refl (sym is)
splits (x ∷ xs) ys (z ∷ zs) ws is =
    let alike : x ≡ z = cc in
    let tail : xs ++ ys ≡ zs ++ ws = cc in
    splits-on x z xs ys zs ws alike (splits xs ys zs ws tail)

module _ (o : Options) (has : has_functions o ≡ true) (off : o.follow ≡ false) where
  -- truss after these exchanges
  pub after-fit : (xs : List Exchange) (t : TrussState) → IsFit o t → MakesFunctionCalls t xs → All IsCalm xs
      → IsFit o (functions_after t xs)
  after-fit [] t fit makes calm = fit
  after-fit (x ∷ xs) t fit makes calm =
      after-fit xs (fed_functions t x.reply) (next-fit o has off t x fit makes.0 (All-head IsCalm x xs calm)) makes.1
      (All-tail IsCalm x xs calm)

  -- ---- a call that was granted

  module _ (t : TrussState) (x : Exchange) (fit : IsFit o t) (next : next_function_call_of t ≡ Some x.call)
      (calm : IsCalm x) (granted : answer_of x.reply ≡ Accepted) where
    abbrev v : TrussState
    v = fed_functions t x.reply

    row : Row t x.reply v
    row = own-row o has off t x fit next calm

    not-refused : {A : Type 0} (errno : _) → Refuses x.reply errno → A
    not-refused errno was = absurd (false≢true (sym (refused-other x.reply errno was) ∙ ap accepts granted))

    -- one of a stage
    pub granted-feeds : t.aside ≡ Nothing → reads_stop t.stage ≡ false → ordinary v ≡ fed (ordinary t) x.reply
    granted-feeds idle quiet = let r = row in by r.step
      where
        by : Step t x.reply v → ordinary v ≡ fed (ordinary t) x.reply
        by (stays beside over stay) = absurd (false≢true (sym (ap is_beside idle) ∙ beside))
        by (feeds idle_so none_own comes) = comes
        by (refuses errno beside was may comes) = comes
        by (passes idle_so reads own comes) = absurd (false≢true (sym quiet ∙ reads))

    -- one that comes beside a stage
    pub granted-stays : is_beside t.aside ≡ true → ordinary v ≡ ordinary t
    granted-stays on = let r = row in by r.step
      where
        by : Step t x.reply v → ordinary v ≡ ordinary t
        by (stays beside over stay) = stay
        by (feeds idle none_own comes) = absurd (false≢true (sym (ap is_beside idle) ∙ on))
        by (refuses errno beside was may comes) = not-refused errno was
        by (passes idle reads own comes) = absurd (false≢true (sym (ap is_beside idle) ∙ on))

  -- ---- the opening up to the functions

  -- Truss opens the process at a place, and has come to this step; and before the last one it looks at its functions.
  record Comes (pid place : ℕ) (now : OpeningStep) (t : TrussState) : Type 0 where
    fit : IsFit o t
    opening : IsOpening (ordinary t) pid place now
    plain : is_follow now ≡ false
    first : now ≡ Start → look_in t.aside ≡ look_at o 0

  stage-quiet : (t : TrussState) (place : ℕ) (now : OpeningStep) → t.stage ≡ Opening place now
      → reads_stop t.stage ≡ false
  stage-quiet t place now is = ap reads_stop is

  step-comes : (pid place : ℕ) (now following : OpeningStep) (t : TrussState) (x : Exchange) → Comes pid place now t
      → next_function_call_of t ≡ Some x.call → IsCalm x → answer_of x.reply ≡ Accepted
      → step_after o x.reply now ≡ Some following → Comes pid place following (fed_functions t x.reply)
  unfolding stepped learns
  step-comes pid place now following t x w next calm granted comes =
      let fit : IsFit o t = w.fit in
      let i : IsOpening (ordinary t) pid place now = w.opening in
      let here : t.stage ≡ Opening place now = i.stage in
      let other = after-other o x.reply now following comes in
      let is = after-next o off x.reply now following w.plain comes in
      let idle : t.aside ≡ Nothing =
      opening-free t.aside place now other (subst (FitsAside t.aside) here fit.fits) in
      let own : step_after (ordinary t).options x.reply now ≡ Some following =
      ap (λ p. step_after p x.reply now) fit.options ∙ comes in
      let then : ordinary (fed_functions t x.reply)
      ≡ with_stage (with_traced (ordinary t) place (learnt (traced_at (ordinary t) place) x.reply now))
      (Opening place following) =
      granted-feeds t x fit next calm granted idle (stage-quiet t place now here)
      ∙ step-fed (ordinary t) place now x.reply here granted
      ∙ ap
      (at_step (with_traced (ordinary t) place (learnt (traced_at (ordinary t) place) x.reply now)) place) own in
      record {
        fit = next-fit o has off t x fit next calm;
        opening =
            subst (λ (z : TrussState). IsOpening z pid place following) (sym then)
            (opening-goes (ordinary t) pid place now x i granted following own);
        plain = ap is_follow is ∙ next-plain x.reply now;
        first = λ last. exits-look o has t x.reply fit.options granted place
            (here ∙ ap (Opening place) (before-start x.reply now other w.plain (sym is ∙ last))) idle;
      }

  -- how many steps are left behind one
  left-behind : (r : Reply) (now : OpeningStep) (next : Option OpeningStep) → step_after o r now ≡ next
      → steps_left false now ≡ suc (left_after false next)
  left-behind r now next is =
      ap (λ b. steps_left b now) (sym off) ∙ step-left o r now
      ∙ ap (λ b. suc (left_after b (step_after o r now))) off ∙ ap (λ m. suc (left_after false m)) is

  -- so many steps of the opening are left, with the next one
  record HasLeft (pid place left : ℕ) (t : TrussState) : Type 0 where
    now : OpeningStep
    comes : Comes pid place now t
    is : steps_left false now ≡ left

  as-many : (pid place a b : ℕ) (t : TrussState) → a ≡ b → HasLeft pid place a t → HasLeft pid place b t
  as-many pid place a b t equal w = record { now = w.now; comes = w.comes; is = w.is ∙ equal }

  one-less : (x : Exchange) (pid place left : ℕ) (t : TrussState) → HasLeft pid place (suc (suc left)) t
      → next_function_call_of t ≡ Some x.call → IsCalm x → answer_of x.reply ≡ Accepted
      → HasLeft pid place (suc left) (fed_functions t x.reply)
  one-less x pid place left t w next calm granted = by (step_after o x.reply w.now) refl
    where
      by : (following : Option OpeningStep) → step_after o x.reply w.now ≡ following
          → HasLeft pid place (suc left) (fed_functions t x.reply)
      by None is =
          let m : steps_left false w.now ≡ 1 = left-behind x.reply w.now None is in
          absurd (omega (arith, m, w.is))
      by (Some following) is =
          let m : steps_left false w.now ≡ suc (steps_left false following) =
          left-behind x.reply w.now (Some following) is in
          record {
            now = following;
            comes = step-comes pid place w.now following t x w.comes next calm granted is;
            is = omega (arith, m, w.is);
          }

  steps-come : (xs : List Exchange) (pid place left : ℕ) (t : TrussState)
      → HasLeft pid place (length xs + suc left) t → MakesFunctionCalls t xs → All IsCalm xs → All IsGranted xs
      → HasLeft pid place (suc left) (functions_after t xs)
  steps-come [] pid place left t w makes calm granted =
      let none : 0 + suc left ≡ suc left = omega arith in as-many pid place (0 + suc left) (suc left) t none w
  steps-come (x ∷ xs) pid place left t w makes calm granted =
      let more : length (x ∷ xs) + suc left ≡ suc (suc (length xs + left)) = omega arith in
      let rest : suc (length xs + left) ≡ length xs + suc left = omega arith in
      steps-come xs pid place left (fed_functions t x.reply)
      (as-many pid place _ _ (fed_functions t x.reply) rest
      (one-less x pid place (length xs + left) t (as-many pid place _ _ t more w) makes.0 (All-head IsCalm x xs calm)
      (granted-first x xs granted))) makes.1 (All-tail IsCalm x xs calm) (granted-rest x xs granted)

  start-comes : (pid place : ℕ) (t : TrussState) → HasLeft pid place 1 t → Comes pid place Start t
  start-comes pid place t w = subst (λ step. Comes pid place step t) (last-start w.now w.is) w.comes

  -- ---- the functions, and the last step

  -- Before the last of these exchanges truss opens the process still, and after it truss watches it.
  pub record Ends (pid place : ℕ) (t : TrussState) (xs : List Exchange) : Type 0 where
    pub front : List Exchange
    pub last : Exchange
    pub is : xs ≡ front ++ last ∷ []
    pub stands : (functions_after t front).stage ≡ Opening place Start
    pub of : (traced_at (ordinary (functions_after t front)) place).pid ≡ pid
    pub within : place < length (ordinary (functions_after t front)).traced
    pub watched : IsWatched (ordinary (functions_after t xs)) pid place

  longer-ends : (pid place : ℕ) (t : TrussState) (x : Exchange) (xs : List Exchange)
      → Ends pid place (fed_functions t x.reply) xs → Ends pid place t (x ∷ xs)
  longer-ends pid place t x xs w = record {
    front = x ∷ w.front;
    last = w.last;
    is = ap (λ (ys : List Exchange). x ∷ ys) w.is;
    stands = w.stands;
    of = w.of;
    within = w.within;
    watched = w.watched;
  }

  behind-ends : (pid place : ℕ) (t : TrussState) (xs ys : List Exchange)
      → Ends pid place (functions_after t xs) ys → Ends pid place t (xs ++ ys)
  behind-ends pid place t [] ys w = w
  behind-ends pid place t (x ∷ xs) ys w =
      longer-ends pid place t x (xs ++ ys) (behind-ends pid place (fed_functions t x.reply) xs ys w)

  -- one look, and what comes then
  looks-on : {R : Type 0} (x : Exchange) (xs : List Exchange) (pid place control : ℕ) (t : TrussState) → IsFit o t
      → IsOpening (ordinary t) pid place Start → LooksAndRuns o control (look_in t.aside) (x ∷ xs)
      → next_function_call_of t ≡ Some x.call → IsCalm x → IsGranted x → (t.aside ≡ Nothing → xs ≡ [] → R)
      → (IsOpening (ordinary (fed_functions t x.reply)) pid place Start
      → LooksAndRuns o control (look_in (fed_functions t x.reply).aside) xs → R)
      → R
  looks-on {R} x xs pid place control t fit i g next calm granted last later =
      by t.aside refl (subst (FitsAside t.aside) i.stage fit.fits) g
    where
      accepted : answer_of x.reply ≡ Accepted
      accepted = granted-accepted x.reply granted.not_refused

      goes-on : is_beside t.aside ≡ true → LooksAndRuns o control (look_in (fed_functions t x.reply).aside) xs → R
      goes-on on looks =
          later
          (subst (λ (z : TrussState). IsOpening z pid place Start)
          (sym (granted-stays t x fit next calm accepted on)) i) looks

      clash : Opening place Start ≡ ReadingLwps → ⊥
      clash is = cc

      by : (aside : Aside) → t.aside ≡ aside → FitsAside t.aside (Opening place Start)
          → LooksAndRuns o control (look_in t.aside) (x ∷ xs) → R
      by Nothing is fits_here looks =
          let c : LooksAndRuns o control None (x ∷ xs) =
          subst (λ a. LooksAndRuns o control (look_in a) (x ∷ xs)) is looks in
          last is c.1
      by (Reading at function) is fits_here looks =
          let c : LooksAndRuns o control (Some (Reads function)) (x ∷ xs) =
          subst (λ a. LooksAndRuns o control (look_in a) (x ∷ xs)) is looks in
          goes-on (ap is_beside is)
          (subst (λ l. LooksAndRuns o control l xs)
          (sym (read-look o has t x.reply fit.options accepted at function is)) c.1)
      by (Planting at function) is fits_here looks =
          let c : LooksAndRuns o control (Some (Plants function)) (x ∷ xs) =
          subst (λ a. LooksAndRuns o control (look_in a) (x ∷ xs)) is looks in
          goes-on (ap is_beside is)
          (subst (λ l. LooksAndRuns o control l xs)
          (sym (plant-look o has t x.reply fit.options accepted at function is)) c.1)
      by (Patching at plants lifts clear) is fits_here looks =
          let f : FitsAside (Patching at plants lifts clear) (Opening place Start) =
          subst (λ a. FitsAside a (Opening place Start)) is fits_here in
          absurd f.0
      by (AwaitingStop until) is fits_here looks =
          absurd (clash (subst (λ a. FitsAside a (Opening place Start)) is fits_here))
      by Asking is fits_here looks = absurd (clash (subst (λ a. FitsAside a (Opening place Start)) is fits_here))
      by (AwaitingAgain until) is fits_here looks =
          absurd (clash (subst (λ a. FitsAside a (Opening place Start)) is fits_here))

  -- the last step
  last-ends : (x : Exchange) (xs : List Exchange) (pid place : ℕ) (t : TrussState) → IsFit o t
      → IsOpening (ordinary t) pid place Start → next_function_call_of t ≡ Some x.call → IsCalm x → IsGranted x
      → t.aside ≡ Nothing → xs ≡ [] → Ends pid place t (x ∷ xs)
  last-ends x xs pid place t fit i next calm granted idle none =
      let accepted : answer_of x.reply ≡ Accepted = granted-accepted x.reply granted.not_refused in
      let one : IsWatched (fed (ordinary t) x.reply) pid place =
      opening-runs (x ∷ []) (ordinary t) pid place Start i (All-cons IsGranted x [] granted (All-nil IsGranted))
      refl in
      let watched_so : IsWatched (ordinary (fed_functions t x.reply)) pid place =
      subst (λ (z : TrussState). IsWatched z pid place)
      (sym (granted-feeds t x fit next calm accepted idle (stage-quiet t place Start i.stage))) one in
      record {
        front = [];
        last = x;
        is = ap (λ (ys : List Exchange). x ∷ ys) none;
        stands = i.stage;
        of = i.of;
        within = i.within;
        watched =
            subst (λ ys. IsWatched (ordinary (functions_after (fed_functions t x.reply) ys)) pid place) (sym none)
            watched_so;
      }

  looks-run : (xs : List Exchange) (pid place control : ℕ) (t : TrussState) → IsFit o t
      → IsOpening (ordinary t) pid place Start → LooksAndRuns o control (look_in t.aside) xs → MakesFunctionCalls t xs
      → All IsCalm xs → All IsGranted xs → Ends pid place t xs
  looks-run [] pid place control t fit i g makes calm granted = absurd g
  looks-run (x ∷ xs) pid place control t fit i g makes calm granted =
      let calm_now : IsCalm x = All-head IsCalm x xs calm in
      let granted_now : IsGranted x = All-head IsGranted x xs granted in
      looks-on x xs pid place control t fit i g makes.0 calm_now granted_now
      (λ idle none. last-ends x xs pid place t fit i makes.0 calm_now granted_now idle none)
      (λ later looks. longer-ends pid place t x xs
      (looks-run xs pid place control (fed_functions t x.reply) (next-fit o has off t x fit makes.0 calm_now) later
      looks makes.1 (All-tail IsCalm x xs calm) (granted-rest x xs granted)))

  not-empty : (xs ys : List Exchange) (y : Exchange) → xs ++ y ∷ ys ≡ [] → ⊥
  not-empty [] ys y is = cc
  not-empty (x ∷ xs) ys y is = cc

  -- until the last of these exchanges truss opens the process still
  looks-part : (xs ys : List Exchange) (y : Exchange) (pid place control : ℕ) (t : TrussState) → IsFit o t
      → IsOpening (ordinary t) pid place Start → LooksAndRuns o control (look_in t.aside) (xs ++ y ∷ ys)
      → MakesFunctionCalls t xs → All IsCalm xs → All IsGranted xs
      → IsOpening (ordinary (functions_after t xs)) pid place Start
  looks-part [] ys y pid place control t fit i g makes calm granted = i
  looks-part (x ∷ xs) ys y pid place control t fit i g makes calm granted =
      let calm_now : IsCalm x = All-head IsCalm x xs calm in
      looks-on x (xs ++ y ∷ ys) pid place control t fit i g makes.0 calm_now (All-head IsGranted x xs granted)
      (λ idle none. absurd (not-empty xs ys y none))
      (λ later looks. looks-part xs ys y pid place control (fed_functions t x.reply)
      (next-fit o has off t x fit makes.0 calm_now) later looks makes.1 (All-tail IsCalm x xs calm)
      (granted-rest x xs granted))

  -- ---- from the open of the control file on

  -- the settings of an opening are thirteen calls, the first of which opens the control file
  record AreSettings (pid : ℕ) (settings : List Exchange) : Type 0 where
    first : Exchange
    more : List Exchange
    is : settings ≡ first ∷ more
    opens : first.call ≡ open_control pid
    left : suc (length more) ≡ steps_left false OpenStatus

  are-settings : (pid control lstatus until : ℕ) (settings : List Exchange)
      → calls_in settings ≡ setting_calls_with o pid control lstatus until → AreSettings pid settings
  are-settings pid control lstatus until [] is = cc
  are-settings pid control lstatus until (x ∷ xs) is = record {
    first = x;
    more = xs;
    is = refl;
    opens = cc;
    left = omega (arith, ap (λ (cs : List Call). length cs) is, length-map xs (λ (z : Exchange). z.call));
  }

  setting-first : (pid : ℕ) (settings : List Exchange) → calls_in settings ≡ setting_calls o pid settings
      → AreSettings pid settings
  unfolding setting_calls
  setting-first pid settings is =
      are-settings pid (handle_in (reply_at settings 0)) (handle_in (reply_at settings 2))
      (until_in (reply_at settings 6)) settings is

  beside-none : (aside : Aside) → is_beside aside ≡ false → aside ≡ Nothing
  beside-none Nothing none = refl
  beside-none _ none = absurd (false≢true (sym none))

  -- truss opens the control file of a process that it was given
  pub record OpensGiven (pid : ℕ) (t : TrussState) : Type 0 where
    pub stage : t.stage ≡ OpeningControl pid
    pub idle : t.aside ≡ Nothing

  like-open : (t : TrussState) (x y : Exchange) (pid : ℕ) → IsLike t x y → x.call ≡ open_control pid → x.call ≡ y.call
  like-open t x y pid (same unsent none_own) is = refl
  like-open t x y pid (in_place stands) is =
      absurd (false≢true (ap sends (sym is) ∙ (stands-sends stands).0))
  like-open t x y pid (refused {c = c} seen may called) is =
      absurd (false≢true (ap sends (sym is) ∙ sees-sends t t.stage c seen))
  like-open t x y pid (own_fault own) is = refl

  pub opens-given : (done : List Exchange) (t : TrussState) (x : Exchange) (pid : ℕ) → IsFit o t
      → next_function_call_of t ≡ Some x.call → IsCalm x → Going done t.stage → x.call ≡ open_control pid
      → OpensGiven pid t
  opens-given done t x pid fit next calm going called = record { stage = at_stage; idle = idle_now }
    where
      idle_now : t.aside ≡ Nothing
      idle_now = elim (cases_Bool (is_beside t.aside)) [
        | inl on ↦ absurd
            (false≢true (ap sends (sym called) ∙ sees-sends t t.stage x.call (sees o has off t x fit next calm on)))
        | inr none ↦ beside-none t.aside none
      ]

      by : OpensControl pid t.stage → t.stage ≡ OpeningControl pid
      by (given is) = is
      by (born parent is) = absurd (subst (Going done) is going)
      by (freed is) = absurd (subst (Going done) is going)

      at_stage : t.stage ≡ OpeningControl pid
      at_stage = from (turn o has off t x fit next calm)
        where
          from : Turn t x → t.stage ≡ OpeningControl pid
          from (goes_out seen over stay) =
              absurd (false≢true (ap sends (sym called) ∙ sees-sends t t.stage x.call seen))
          from (goes_on y like next_so comes) =
              by
              (opens-control (ordinary t) pid
              (next_so ∙ ap (λ c. Some c) (sym (like-open t x y pid like called) ∙ called)))

  -- truss opens a process, and the wait for its stop is over
  pub record IsPast (pid place : ℕ) (t : TrussState) : Type 0 where
    pub now : OpeningStep
    pub opening : IsOpening (ordinary t) pid place now
    pub past : is_past now ≡ true

  module _ (pid : ℕ) (xs : List Exchange) (t : TrussState) (fit : IsFit o t) (given_now : OpensGiven pid t)
      (makes : MakesFunctionCalls t xs) (calm : All IsCalm xs) (w : IsWholeFunctionOpening o pid xs) where
    b : AreSettings pid w.settings
    b = setting-first pid w.settings w.calls

    is : xs ≡ b.first ∷ (b.more ++ w.looks)
    is = w.is ∙ ap (λ (ys : List Exchange). ys ++ w.looks) b.is

    abbrev u : TrussState
    u = fed_functions t b.first.reply

    abbrev settled : TrussState
    settled = functions_after u b.more

    abbrev place : ℕ
    place = length (ordinary t).traced

    made : MakesFunctionCalls t (b.first ∷ (b.more ++ w.looks))
    made = subst (MakesFunctionCalls t) is makes

    quiet : All IsCalm (b.first ∷ (b.more ++ w.looks))
    quiet = subst (All IsCalm) is calm

    all : All IsGranted (b.first ∷ (b.more ++ w.looks))
    all = subst (All IsGranted) is w.granted

    rest-granted : All IsGranted (b.more ++ w.looks)
    rest-granted = granted-rest b.first (b.more ++ w.looks) all

    rest-calm : All IsCalm (b.more ++ w.looks)
    rest-calm = All-tail IsCalm b.first (b.more ++ w.looks) quiet

    more-granted : All IsGranted b.more
    more-granted = all-front IsGranted b.more w.looks rest-granted

    more-calm : All IsCalm b.more
    more-calm = all-front IsCalm b.more w.looks rest-calm

    more-made : MakesFunctionCalls u b.more
    more-made = let m = made in calls-front u b.more w.looks m.1

    first-comes : HasLeft pid place (suc (length b.more)) u
    first-comes =
        let accepted : answer_of b.first.reply ≡ Accepted = granted-first b.first (b.more ++ w.looks) all in
        let first_calm : IsCalm b.first = All-head IsCalm b.first (b.more ++ w.looks) quiet in
        let m = made in
        let then : ordinary u ≡ with_control (ordinary t) pid (handle_in b.first.reply) =
        granted-feeds t b.first fit m.0 first_calm accepted given_now.idle (ap reads_stop given_now.stage)
        ∙ given-fed (ordinary t) pid b.first.reply accepted given_now.stage in
        record {
          now = OpenStatus;
          comes = record {
            fit = next-fit o has off t b.first fit m.0 first_calm;
            opening =
                subst (λ (z : TrussState). IsOpening z pid place OpenStatus) (sym then)
                (given-opening (ordinary t) pid (handle_in b.first.reply));
            plain = refl;
            first = λ last. absurd (start-later last);
          };
          is = sym b.left;
        }
      where
        start-later : OpenStatus ≡ Start → ⊥
        start-later is_so = cc

    all-come : Comes pid place Start settled
    all-come =
        let many : suc (length b.more) ≡ length b.more + 1 = omega arith in
        start-comes pid place settled
        (steps-come b.more pid place 0 u (as-many pid place _ _ u many first-comes) more-made more-calm more-granted)

    looks-from : LooksAndRuns o (handle_in (reply_at w.settings 0)) (look_in settled.aside) w.looks
    looks-from =
        let c = all-come in
        subst (λ l. LooksAndRuns o (handle_in (reply_at w.settings 0)) l w.looks) (sym (c.first refl)) w.runs

    opened-ends : Ends pid place t xs
    opened-ends =
        let c = all-come in
        let m = made in
        subst (Ends pid place t) (sym is)
        (longer-ends pid place t b.first (b.more ++ w.looks)
        (behind-ends pid place u b.more w.looks
        (looks-run w.looks pid place (handle_in (reply_at w.settings 0)) settled c.fit c.opening looks-from
        (calls-rest u b.more w.looks m.1) (all-rest IsCalm b.more w.looks rest-calm)
        (all-rest IsGranted b.more w.looks rest-granted))))

    -- some of the settings
    part-past : (xs ys : List Exchange) → b.more ≡ xs ++ ys → 7 ≤ length xs → IsPast pid place (functions_after u xs)
    part-past some rest parts many =
        let makes_so : MakesFunctionCalls u (some ++ rest) = subst (MakesFunctionCalls u) parts more-made in
        let count : suc (length b.more) ≡ length some + suc (length rest) =
        omega (arith, ap (λ (ys : List Exchange). length ys) parts, length-append some rest) in
        let l : HasLeft pid place (suc (length rest)) (functions_after u some) =
        steps-come some pid place (length rest) u (as-many pid place _ _ u count first-comes)
        (calls-front u some rest makes_so) (all-front IsCalm some rest (subst (All IsCalm) parts more-calm))
        (all-front IsGranted some rest (subst (All IsGranted) parts more-granted)) in
        let c : Comes pid place l.now (functions_after u some) = l.comes in
        record {
          now = l.now;
          opening = c.opening;
          past =
              few-past l.now
              (omega (
                arith,
                l.is,
                b.left,
                ap (λ (ys : List Exchange). length ys) parts,
                length-append some rest,
                many,
              ));
        }

    -- all of them, and some of the looks at functions
    looks-past : (xs ys : List Exchange) (y : Exchange) → w.looks ≡ xs ++ y ∷ ys
        → IsPast pid place (functions_after settled xs)
    looks-past some rest y parts =
        let c = all-come in
        let m = made in
        let makes_so : MakesFunctionCalls settled (some ++ y ∷ rest) =
        subst (MakesFunctionCalls settled) parts (calls-rest u b.more w.looks m.1) in
        record {
          now = Start;
          opening =
              looks-part some rest y pid place (handle_in (reply_at w.settings 0)) settled c.fit c.opening
              (subst (LooksAndRuns o (handle_in (reply_at w.settings 0)) (look_in settled.aside)) parts looks-from)
              (calls-front settled some (y ∷ rest) makes_so)
              (all-front IsCalm some (y ∷ rest)
              (subst (All IsCalm) parts (all-rest IsCalm b.more w.looks rest-calm)))
              (all-front IsGranted some (y ∷ rest)
              (subst (All IsGranted) parts (all-rest IsGranted b.more w.looks rest-granted)));
          past = refl;
        }

    -- wherever it has come to behind the wait, until its last call
    opened-past : (some rest : List Exchange) (y : Exchange) → xs ≡ some ++ y ∷ rest → 8 ≤ length some
        → IsPast pid place (functions_after t some)
    opened-past [] rest y parts many = absurd (omega (arith, many))
    opened-past (z ∷ some) rest y parts many =
        let first_is : z ≡ b.first = first-same parts in
        let tail : b.more ++ w.looks ≡ some ++ y ∷ rest = tail-same parts in
        subst (λ (x : Exchange). IsPast pid place (functions_after (fed_functions t x.reply) some)) (sym first_is)
        (by (splits b.more w.looks some (y ∷ rest) tail))
      where
        first-same : xs ≡ z ∷ (some ++ y ∷ rest) → z ≡ b.first
        first-same parts_so =
            let both : b.first ∷ (b.more ++ w.looks) ≡ z ∷ (some ++ y ∷ rest) = sym is ∙ parts_so in cc

        tail-same : xs ≡ z ∷ (some ++ y ∷ rest) → b.more ++ w.looks ≡ some ++ y ∷ rest
        tail-same parts_so = let both : b.first ∷ (b.more ++ w.looks) ≡ z ∷ (some ++ y ∷ rest) = sym is ∙ parts_so in cc

        by : Splits b.more w.looks some (y ∷ rest) → IsPast pid place (functions_after u some)
        by (inside m parts_so behind) = part-past some m parts_so (omega (arith, many))
        by (beyond m parts_so behind) =
            subst (λ ys. IsPast pid place (functions_after u ys)) (sym parts_so)
            (subst (IsPast pid place) (sym (functions-both u b.more m)) (looks-past m rest y behind))

-- ---- along a history

module _ (n k : ℕ) (o : Options) (pid : ℕ) (s : TracedState) (before : List Entry) (e : Entry)
    (run : IsFunctionRun n k o s (before ++ e ∷ [])) (g : GetsHoldWithFunctions k o pid before e) where
  abbrev begun : TrussState
  begun = functions_after (first_truss o) g.earlier

  abbrev stood : ℕ
  stood = length (ordinary begun).traced

  all-makes : MakesFunctionCalls (first_truss o) (g.earlier ++ g.opening)
  all-makes = subst (MakesFunctionCalls (first_truss o)) g.is run.makes

  all-calm : All IsCalm (g.earlier ++ g.opening)
  all-calm = subst (All IsCalm) g.is (calm-exchanges (before ++ e ∷ []) n k s run.legal)

  earlier-makes : MakesFunctionCalls (first_truss o) g.earlier
  earlier-makes = calls-front (first_truss o) g.earlier g.opening all-makes

  earlier-calm : All IsCalm g.earlier
  earlier-calm = all-front IsCalm g.earlier g.opening all-calm

  opening-made : MakesFunctionCalls begun g.opening
  opening-made = calls-rest (first_truss o) g.earlier g.opening all-makes

  opening-calm : All IsCalm g.opening
  opening-calm = all-rest IsCalm g.earlier g.opening all-calm

  begun-fit : IsFit o begun
  begun-fit =
      after-fit o run.has run.follows_none g.earlier (first_truss o) (first-fit o run.has run.follows_none)
      earlier-makes earlier-calm

  opens-first : OpensGiven o run.has run.follows_none pid begun
  opens-first =
      let w : IsWholeFunctionOpening o pid g.opening = g.whole in
      let b = setting-first o run.has run.follows_none pid w.settings w.calls in
      let is : g.opening ≡ b.first ∷ (b.more ++ w.looks) = w.is ∙ ap (λ (ys : List Exchange). ys ++ w.looks) b.is in
      let first_made : MakesFunctionCalls begun (b.first ∷ (b.more ++ w.looks)) =
      subst (MakesFunctionCalls begun) is opening-made in
      opens-given o run.has run.follows_none g.earlier begun b.first pid begun-fit first_made.0
      (All-head IsCalm b.first (b.more ++ w.looks) (subst (All IsCalm) is opening-calm))
      (after-going o run.has run.follows_none g.earlier earlier-makes earlier-calm) b.opens

  pub ends-so : Ends o run.has run.follows_none pid
      (length (ordinary (functions_after (first_truss o) g.earlier)).traced)
      (functions_after (first_truss o) g.earlier) g.opening
  ends-so =
      opened-ends o run.has run.follows_none pid g.opening begun begun-fit opens-first opening-made opening-calm g.whole

  -- the wait is among the calls before the last one
  pub ends-long : (let w = ends-so in 8 ≤ length w.front)
  ends-long =
      let e_so = ends-so in
      let w : IsWholeFunctionOpening o pid g.opening = g.whole in
      let b = setting-first o run.has run.follows_none pid w.settings w.calls in
      omega (
        arith,
        ap (λ (ys : List Exchange). length ys) (sym e_so.is ∙ w.is),
        length-append e_so.front (e_so.last ∷ []),
        length-append w.settings w.looks,
        ap (λ (ys : List Exchange). length ys) b.is,
        b.left,
      )

  pub before-is : (let w = ends-so in exchanges k before ≡ g.earlier ++ w.front)
  before-is =
      let w = ends-so in
      push-same (exchanges k before) (g.earlier ++ w.front) g.last w.last
      (sym (exchanges-push k before e ∙ ap (λ y. exchanges k before ++ cons_option y []) g.own) ∙ g.is
      ∙ ap (λ (ys : List Exchange). g.earlier ++ ys) w.is ∙ sym (append_assoc g.earlier w.front (w.last ∷ [])))

  pub within-past : (some rest : List Exchange) (y : Exchange) → g.opening ≡ some ++ y ∷ rest → 8 ≤ length some
      → IsPast o run.has run.follows_none pid (length (ordinary (functions_after (first_truss o) g.earlier)).traced)
      (functions_after (functions_after (first_truss o) g.earlier) some)
  within-past =
      opened-past o run.has run.follows_none pid g.opening begun begun-fit opens-first opening-made opening-calm g.whole

  files-at : (front later : List Entry) → before ++ e ∷ [] ≡ front ++ later
      → HasFiles k (ordinary (functions_at k o front)) (state_after s front)
  files-at front later is =
      let half : Halfway n k o (first_truss o) s front later =
      run-halfway n k o s front later (subst (IsFunctionRun n k o s) is run) in
      let follows = half.follows in
      let reaches : Reaches k (ordinary (functions_at k o front)) (state_after s front) = follows.reaches in
      reaches.files

  -- In the entry by which it gets hold of a process it watches it then.
  pub gets-watches : watches (functions_at k o (before ++ e ∷ [])) pid ≡ true
  gets-watches =
      let w = ends-so in
      let files = files-at (before ++ e ∷ []) [] (sym (append-nil (before ++ e ∷ []))) in
      let same_truss : functions_at k o (before ++ e ∷ []) ≡ functions_after begun g.opening =
      ap (functions_after (first_truss o)) g.is ∙ functions-both (first_truss o) g.earlier g.opening in
      sym (watches-ordinary (functions_at k o (before ++ e ∷ [])) pid)
      ∙ place-watched (ordinary (functions_at k o (before ++ e ∷ []))) pid stood files.one
      (subst (λ (z : TrussState). IsWatched (ordinary z) pid stood) (sym same_truss) w.watched)

  -- before it truss opens the process still
  pub gets-off : watches (functions_at k o before) pid ≡ false
  gets-off =
      let w = ends-so in
      let files = files-at before (e ∷ []) refl in
      let same_truss : functions_at k o before ≡ functions_after begun w.front =
      ap (functions_after (first_truss o)) before-is ∙ functions-both (first_truss o) g.earlier w.front in
      let within : stood < length (ordinary (functions_at k o before)).traced =
      subst (λ (z : TrussState). stood < length (ordinary z).traced) (sym same_truss) w.within in
      let of : (traced_at (ordinary (functions_at k o before)) stood).pid ≡ pid =
      ap (λ (z : TrussState). (traced_at (ordinary z) stood).pid) same_truss ∙ w.of in
      sym (watches-ordinary (functions_at k o before) pid)
      ∙ unwatched-away (ordinary (functions_at k o before)) pid stood
      (subst (λ p. place_of (ordinary (functions_at k o before)) p ≡ Some stood) of (files.one stood within))
      (ap (λ (z : TrussState). is_away z.leaving z.stage stood) same_truss
      ∙ ap (λ st. is_away (functions_after begun w.front).leaving st stood) w.stands ∙ eq-eqb stood stood refl)
