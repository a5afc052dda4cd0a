use Rattle.std.proofs.Common.{◌≡◌, ◌≢◌, ◌+◌, ◌<◌, ◌++◌, ℕ, true, false, Option, Some, None, List, [], ◌∷◌, length, append-nil, append_assoc, refl, sym, subst, ap, ◌∙◌, arith, inr}
use Rattle.std.proofs.lemmas.List.Elements.{All-cons, All-head, All-nil}
use Rattle.std.proofs.lemmas.Option.{none-some}
use Rattle.std.specs.List.{All, cons_option, slice_get}
use Rattle.pr_line.specs.declared.options.Options.{Options}
use Rattle.pr_model.specs.Legal.{state_after}
use Rattle.pr_model.specs.State.{TracedState}
use Rattle.pr_model.specs.declared.calls.Call.{Call}
use Rattle.pr_model.specs.declared.calls.Call.TheVariants as call
use Rattle.pr_model.specs.declared.calls.Reply.{Reply}
use Rattle.pr_model.specs.declared.events.Entry.{Entry}
use Rattle.pr_report_laws.proofs.Files.WatchHistories.{cons-exchanges, exchanges-both, no-exchanges}
use Rattle.pr_report_laws.proofs.Invariant.StandLemmas.{Each, each-but}
use Rattle.pr_report_laws.proofs.Watching.HistoryParts.{all-front, all-rest}
use Rattle.pr_truss.specs.Asides.{marks_at}
use Rattle.pr_truss.specs.FunctionCalls.{next_function_call_of}
use Rattle.pr_truss.specs.FunctionFeeding.{fed_functions}
use Rattle.pr_truss.specs.Marks.{has_functions}
use Rattle.pr_truss.specs.NextCalls.{read_record}
use Rattle.pr_truss.specs.Processes.{without_last}
use Rattle.pr_truss.specs.Replies.{answer_of}
use Rattle.pr_truss.specs.Trusses.{TrussState, first_of_program, first_truss, idle, nobody, opening_or, traced_at}
use Rattle.pr_truss.specs.declared.asides.Aside.{Aside}
use Rattle.pr_truss.specs.declared.asides.Aside.TheVariants.{Nothing, Reading, Planting, Patching}
use Rattle.pr_truss.specs.declared.marks.Marks.{Marks}
use Rattle.pr_truss.specs.declared.processes.Traced.{Traced}
use Rattle.pr_truss.specs.declared.replies.Answer.TheVariants.{Interrupted}
use Rattle.pr_truss.specs.declared.stages.AfterClosing.TheVariants.{OpenNext, GoOn}
use Rattle.pr_truss.specs.declared.stages.Stage.{Stage}
use Rattle.pr_truss.specs.declared.stages.OpeningStep.{OpeningStep}
use Rattle.pr_truss.specs.declared.stages.Stage.TheVariants.{Spawning, OpeningControl, Opening, Polling, ReadingStatus, ReadingText, Running, Closing, Finished}
use Rattle.pr_truss_laws.specs.Exchanges.{Exchange, exchange_of, exchanges}
use Rattle.pr_truss_laws.specs.Handles.{handles_of}
use Rattle.pr_function_laws.proofs.Stepping.AwayLemmas.{Away, AwayAside, AwayStage, next-away}
use Rattle.pr_function_laws.proofs.Marks.KeptPlaces.{AtAside, AtStage, Position}
use Rattle.pr_function_laws.proofs.OpenedProcesses.OpenedCalls.{IsSo}
use Rattle.pr_function_laws.proofs.Pending.FrontLemmas.{calm-answer}
use Rattle.pr_function_laws.specs.Opened.{IsFunctionRun, WasNotInterrupted, functions_at}
use Rattle.pr_function_laws.specs.Runs.{functions_after, functions_on}
use Rattle.pr_function_hides.proofs.StepsUnderWay.CallLists.{truss-push}
use Rattle.pr_function_hides.proofs.Replies.OwnFiles.{IsBeside, IsWithin}
use Rattle.pr_function_hides.proofs.Replies.PlantedReplies.{AfterAside, AfterStage, LeftSo, fed-so}
use Rattle.pr_function_hides.proofs.StepsUnderWay.UnderWay.{goes-here}

-- While truss opens its processes no step is under way in any of them. So none is in one that it is opening, or whose
-- opening was refused.

-- ---- truss past its openings

abbrev Any : ℕ → Type 0
Any m = Unit {0}

any-all : (ms : List ℕ) → All Any ms
any-all [] = All-nil Any
any-all (m ∷ ms) = All-cons Any m ms tt (any-all ms)

-- what it does next it does in its loop, and not for an opening
record IsPast (t : TrussState) : Type 0 where
  beside : AwayAside Any 0 0 nobody t.traced t.aside
  stage : AwayStage Any 0 0 nobody t.traced t.stage

aside-for : (a b : ℕ) (ts : List Traced) (aside : Aside) → AwayAside Any 0 a nobody ts aside
    → AwayAside Any 0 b nobody ts aside
aside-for a b ts Nothing w = tt
aside-for a b ts (Patching q plants lifts clear) w = w
aside-for a b ts _ w = absurd w

stage-for : (a b : ℕ) (ts : List Traced) (stage : Stage) → AwayStage Any 0 a nobody ts stage
    → AwayStage Any 0 b nobody ts stage
stage-for a b ts Polling w = tt
stage-for a b ts (ReadingStatus q) w = w
stage-for a b ts (ReadingText q l from len) w = w
stage-for a b ts (Running q) w = w
stage-for a b ts (Closing q GoOn) w = w
stage-for a b ts Finished w = tt
stage-for a b ts _ w = absurd w

-- a handle that this call does not read from
abbrev another : Option Call → ℕ
another (Some (call.Read handle from len)) = handle + 1
another d = 0

another-read : (d : Option Call) → d ≡ Some (read_record (Some (another d))) → ⊥
another-read None is = none-some _ is
another-read (Some (call.Read handle from len)) is =
    let same : handle ≡ handle + 1 = cc in omega (arith, same)
another-read (Some d) is = cc

past-later : (t : TrussState) (r : Reply) → t.options.follow ≡ false → t.leaving ≡ false
    → answer_of r ≢ Interrupted → has_functions t.options ≡ true → IsPast t → IsPast (fed_functions t r)
past-later t r follow off calm has w =
    let ns : ℕ = another (next_function_call_of t) in
    let a : Away Any 0 ns nobody t =
    record {
      follow = follow;
      off = off;
      each = λ q within. inr (any-all (handles_of (traced_at t q)));
      beside = aside-for 0 ns t.traced t.aside w.beside;
      stage = stage-for 0 ns t.traced t.stage w.stage;
    } in
    let it : Away Any 0 ns nobody (fed_functions t r) =
    next-away Any 0 ns nobody t r a calm has (another-read (next_function_call_of t)) in
    record {
      beside = aside-for ns 0 (fed_functions t r).traced (fed_functions t r).aside it.beside;
      stage = stage-for ns 0 (fed_functions t r).traced (fed_functions t r).stage it.stage;
    }

-- ---- truss that opens its processes

abbrev IsUnstepped : ℕ → Marks → Type 0
IsUnstepped pid m = m.stepped ≡ None

abbrev NoSteps : List Traced → Type 0
NoSteps ts = Each (λ (u : Traced). IsUnstepped u.pid u.marks) ts

module _ (t : TrussState) (r : Reply) (all : NoSteps t.traced) where
  left-so : (v : Option Traced) (u : Traced) → u.marks.stepped ≡ None → LeftSo IsUnstepped v u
  left-so None u none = tt
  left-so (Some v) u none = none

  stage-so : (stage : Stage) → ((q : ℕ) → stage ≢ ReadingStatus q) → IsWithin (length t.traced) stage
      → AfterStage IsUnstepped t r stage
  stage-so (Spawning program) other w = all
  stage-so (OpeningControl pid) other w = (all, λ accepted. refl)
  stage-so (Opening q step) other w = all
  stage-so Polling other w = all
  stage-so (ReadingStatus q) other w = absurd (other q refl)
  stage-so (ReadingText q l from len) other w = all
  stage-so (Running q) other w = (each-but (λ (u : Traced). IsUnstepped u.pid u.marks) t.traced q all, all q w)
  stage-so (Closing q OpenNext) other w = (
    each-but (λ (u : Traced). IsUnstepped u.pid u.marks) t.traced q all,
    left-so (without_last (traced_at t q)) (traced_at t q) (all q w),
  )
  stage-so (Closing q GoOn) other w = (
    each-but (λ (u : Traced). IsUnstepped u.pid u.marks) t.traced q all,
    left-so (without_last (traced_at t q)) (traced_at t q) (all q w),
  )
  stage-so Finished other w = all
  stage-so _ other w = absurd w

  aside-so : (aside : Aside) → (aside ≡ Nothing → (q : ℕ) → t.stage ≢ ReadingStatus q)
      → IsWithin (length t.traced) t.stage → IsBeside (length t.traced) aside → AfterAside IsUnstepped t r aside
  aside-so Nothing other within w = stage-so t.stage (other refl) within
  aside-so (Reading q function) other within w = all
  aside-so (Planting q function) other within w =
      (each-but (λ (u : Traced). IsUnstepped u.pid u.marks) t.traced q all, all q w)
  aside-so (Patching q plants lifts clear) other within w =
      (each-but (λ (u : Traced). IsUnstepped u.pid u.marks) t.traced q all, all q w)
  aside-so _ other within w = absurd w

-- it opens its processes and has begun no step, or is past that
data Begins (t : TrussState) : Type 0 where
  opening : NoSteps t.traced → Begins t
  past : IsPast t → Begins t

module _ (t : TrussState) (r : Reply) (follow : t.options.follow ≡ false) (off : t.leaving ≡ false)
    (at_stage : IsWithin (length t.traced) t.stage) (at_aside : IsBeside (length t.traced) t.aside)
    (calm : answer_of r ≢ Interrupted) (has : has_functions t.options ≡ true) where
  begins-later : Begins t → Begins (fed_functions t r)
  begins-later (past w) = past (past-later t r follow off calm has w)
  begins-later (opening all) = by t.aside t.stage refl refl
    where
      reads : (q : ℕ) → t.aside ≡ Nothing → t.stage ≡ ReadingStatus q → Begins (fed_functions t r)
      reads q idle at =
          past (past-later t r follow off calm has (record {
            beside = subst (AwayAside Any 0 0 nobody t.traced) (sym idle) tt;
            stage =
                subst (AwayStage Any 0 0 nobody t.traced) (sym at) (subst (IsWithin (length t.traced)) at at_stage);
          }))

      goes : (t.aside ≡ Nothing → (q : ℕ) → t.stage ≢ ReadingStatus q) → Begins (fed_functions t r)
      goes other =
          opening (fed-so IsUnstepped t r off follow at_stage at_aside calm has
          (aside-so t r all t.aside other at_stage at_aside))

      by : (aside : Aside) (stage : Stage) → t.aside ≡ aside → t.stage ≡ stage → Begins (fed_functions t r)
      by Nothing (ReadingStatus q) idle at = reads q idle at
      by Nothing _ idle at = goes (λ same q reading. let both = sym at ∙ reading in cc)
      by _ stage idle at = goes (λ same q reading. let both = sym idle ∙ same in cc)

-- ---- along a history

stage-within : (P : Position → Traced → Type 0) (ts : List Traced) (stage : Stage) → AtStage P ts stage
    → IsWithin (length ts) stage
stage-within P ts (Spawning program) w = tt
stage-within P ts (OpeningControl pid) w = tt
stage-within P ts (Opening q step) w = w.0
stage-within P ts Polling w = tt
stage-within P ts (ReadingStatus q) w = w.0
stage-within P ts (ReadingText q l from len) w = w.0
stage-within P ts (Running q) w = w.0
stage-within P ts (Closing q OpenNext) w = w.0
stage-within P ts (Closing q GoOn) w = w.0
stage-within P ts Finished w = tt
stage-within P ts _ w = absurd w

aside-beside : (P : Position → Traced → Type 0) (ts : List Traced) (aside : Aside) → AtAside P ts aside
    → IsBeside (length ts) aside
aside-beside P ts Nothing w = tt
aside-beside P ts (Reading q function) w = w.0
aside-beside P ts (Planting q function) w = w.0
aside-beside P ts (Patching q plants lifts clear) w = w.0.0
aside-beside P ts _ w = absurd w

first-pid : (o : Options) (pid : Option ℕ) → (opening_or (idle o) (idle o) pid).traced ≡ []
first-pid o None = refl
first-pid o (Some pid) = refl

first-program : (o : Options) (program : Option (List ℕ)) → (first_of_program o program).traced ≡ []
first-program o None = first-pid o (slice_get o.pids 0)
first-program o (Some program) = refl

first-begins : (o : Options) → Begins (first_truss o)
unfolding first_truss
first-begins o =
    opening (subst NoSteps (sym (first-program o o.program)) (λ q within. absurd (omega (arith, within))))

module _ (n k : ℕ) (o : Options) (s : TracedState) (h : List Entry) (run : IsFunctionRun n k o s h)
    (all_calm : All WasNotInterrupted (exchanges k h)) where
  abbrev T : List Entry → TrussState
  T front = functions_at k o front

  calm-at : (front later : List Entry) → h ≡ front ++ later → All WasNotInterrupted (exchanges k front)
  calm-at front later is =
      all-front WasNotInterrupted (exchanges k front) (exchanges k later)
      (subst (All WasNotInterrupted) (ap (exchanges k) is ∙ exchanges-both k front later) all_calm)

  entry-begins : (front : List Entry) (e : Entry) (later : List Entry) → h ≡ front ++ e ∷ later → Begins (T front)
      → Begins (T (front ++ e ∷ []))
  entry-begins front e later is was = subst Begins (sym (truss-push k o front e)) (by (exchange_of k e) refl)
    where
      by : (x : Option Exchange) → exchange_of k e ≡ x → Begins (functions_on (T front) x)
      by None own = was
      by (Some x) own =
          let g = goes-here n k o s h run front (e ∷ later) is (calm-at front (e ∷ later) is) in
          let w = g.kept in
          begins-later (T front) x.reply w.follow w.off
          (stage-within (IsSo ⊥ k (T front).options (state_after s front)) (T front).traced (T front).stage w.stage)
          (aside-beside (IsSo ⊥ k (T front).options (state_after s front)) (T front).traced (T front).aside w.beside)
          (calm-answer x
          (All-head WasNotInterrupted x (exchanges k later)
          (subst (λ y. All WasNotInterrupted (cons_option y (exchanges k later))) own
          (subst (All WasNotInterrupted) (cons-exchanges k e later)
          (all-rest WasNotInterrupted (exchanges k front) (exchanges k (e ∷ later))
          (subst (All WasNotInterrupted) (ap (exchanges k) is ∙ exchanges-both k front (e ∷ later)) all_calm))))))
          (ap has_functions g.options ∙ run.has) was

  walk : (mid front later : List Entry) → h ≡ front ++ (mid ++ later) → Begins (T front) → Begins (T (front ++ mid))
  walk [] front later is was = subst (λ es. Begins (T es)) (sym (append-nil front)) was
  walk (e ∷ mid) front later is was =
      subst (λ es. Begins (T es)) (append_assoc front (e ∷ []) mid)
      (walk mid (front ++ e ∷ []) later (is ∙ sym (append_assoc front (e ∷ []) (mid ++ later)))
      (entry-begins front e (mid ++ later) is was))

  begins-at : (front later : List Entry) → h ≡ front ++ later → Begins (T front)
  begins-at front later is =
      walk front [] later is
      (subst (λ xs. Begins (functions_after (first_truss o) xs)) (sym (no-exchanges k)) (first-begins o))

  -- while truss opens a process no step is under way in any
  pub opening-unstepped : (front later : List Entry) → h ≡ front ++ later → (q : ℕ) (step : OpeningStep)
      → (T front).stage ≡ Opening q step → (place : ℕ) → place < length (T front).traced
      → (marks_at (T front) place).stepped ≡ None
  opening-unstepped front later is q step at place within = by (begins-at front later is)
    where
      by : Begins (T front) → (marks_at (T front) place).stepped ≡ None
      by (opening all) = all place within
      by (past w) = absurd (subst (AwayStage Any 0 0 nobody (T front).traced) at w.stage)

  -- nor where the opening of one was refused, and its files are closed
  pub refused-unstepped : (front later : List Entry) → h ≡ front ++ later → (q : ℕ)
      → (T front).stage ≡ Closing q OpenNext → (place : ℕ) → place < length (T front).traced
      → (marks_at (T front) place).stepped ≡ None
  refused-unstepped front later is q at place within = by (begins-at front later is)
    where
      by : Begins (T front) → (marks_at (T front) place).stepped ≡ None
      by (opening all) = all place within
      by (past w) = absurd (subst (AwayStage Any 0 0 nobody (T front).traced) at w.stage)
