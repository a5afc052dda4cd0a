use Rattle.std.proofs.Common.{◌≡◌, ◌<◌, ◌⊎◌, ◌++◌, ℕ, Bool, true, false, Option, Some, None, List, [], ◌∷◌, length, append-nil, append_assoc, refl, sym, subst, ap, ◌∙◌, inl, inr}
use Rattle.std.proofs.lemmas.List.{length-set}
use Rattle.std.specs.List.{All}
use Rattle.pr_line.specs.Functions.{function_limit}
use Rattle.pr_line.specs.declared.options.Options.{Options}
use Rattle.pr_model.specs.Legal.{state_after}
use Rattle.pr_model.specs.State.{TracedState}
use Rattle.pr_model.specs.declared.calls.Reply.{Reply}
use Rattle.pr_model.specs.declared.calls.Reply.TheVariants as reply
use Rattle.pr_model.specs.declared.events.Entry.{Entry}
use Rattle.pr_num.specs.declared.errnos.Errno.TheVariants.{Intr}
use Rattle.pr_rec.specs.declared.lwps.LwpStatus.{LwpStatus}
use Rattle.pr_report_laws.proofs.Files.WatchHistories.{no-exchanges}
use Rattle.pr_report_laws.proofs.Invariant.StandLemmas.{Each, each-but}
use Rattle.pr_truss.specs.Asides.{marks_at}
use Rattle.pr_truss.specs.FunctionFeeding.{fed_functions}
use Rattle.pr_truss.specs.Marks.{first_function, has_functions}
use Rattle.pr_truss.specs.Processes.{without_last}
use Rattle.pr_truss.specs.Replies.{answer_of}
use Rattle.pr_truss.specs.Trusses.{TrussState, first_truss, traced_at}
use Rattle.pr_truss.specs.declared.asides.Aside.{Aside}
use Rattle.pr_truss.specs.declared.asides.Aside.TheVariants.{Nothing, Reading, Planting, Patching}
use Rattle.pr_truss.specs.declared.function_events.FunctionEvent.{FunctionEvent}
use Rattle.pr_truss.specs.declared.function_events.FunctionEvent.TheVariants.{Replaced}
use Rattle.pr_truss.specs.declared.marks.Marks.{Marks}
use Rattle.pr_truss.specs.declared.processes.Traced.{Traced}
use Rattle.pr_truss.specs.declared.replies.Answer.{Answer}
use Rattle.pr_truss.specs.declared.replies.Answer.TheVariants.{Accepted}
use Rattle.pr_truss.specs.declared.stages.AfterClosing.TheVariants.{OpenNext, GoOn}
use Rattle.pr_truss.specs.declared.stages.Stage.{Stage}
use Rattle.pr_truss.specs.declared.stages.Stage.TheVariants.{Spawning, OpeningControl, Opening, Polling, ReadingStatus, ReadingText, Running, Closing, Finished}
use Rattle.pr_truss_laws.proofs.Soon.LookLemmas.{SameFiles}
use Rattle.pr_truss_laws.specs.Exchanges.{Exchange, exchange_of, exchanges}
use Rattle.pr_function_laws.proofs.LeavingProcesses.LeavingCourse.{Course, course-at, files-at, follow-there, goes-there, goes_on, has-there, is-broken, leaves, truss-next}
use Rattle.pr_function_laws.proofs.LeavingProcesses.LeftProcesses.{IsLeaving, its-apart}
use Rattle.pr_function_laws.proofs.LeavingProcesses.LeavingStages.{lifted_after}
use Rattle.pr_function_laws.proofs.Listing.LeavingEvents as begins
use Rattle.pr_function_laws.proofs.OpenedProcesses.OpenedCalls.{IsSo}
use Rattle.pr_function_laws.proofs.Pending.FrontLemmas.{calm-answer}
use Rattle.pr_function_laws.specs.ReachedRuns.{IsReachedFunctionRun}
use Rattle.pr_function_laws.specs.Opened.{WasNotInterrupted, functions_at}
use Rattle.pr_function_laws.specs.Runs.{functions_after, functions_on}
use Rattle.pr_function_hides.proofs.Copying.CopyEnds.{aside-within, stage-within}
use Rattle.pr_function_hides.proofs.Replies.LeavingWalk.{after-all, fed-left}
use Rattle.pr_function_hides.proofs.Replies.OwnFiles.{IsBeside, IsWithin}
use Rattle.pr_function_hides.proofs.Replies.PlantedReplies.{AfterAside, AfterStage, LeftSo, fed-so, first-so-truss, lost-marks, planted_after}
use Rattle.pr_function_hides.proofs.Replies.PlantedWalk.{marks_then}

-- Along each history truss's marks of each process speak of as many functions as words can name, also once it was
-- interrupted.

-- ---- the marks

abbrev AreLong : ℕ → Marks → Type 0
AreLong pid m = length m.planted ≡ function_limit

abbrev Long : Traced → Type 0
Long u = AreLong u.pid u.marks

then-long : (m : Marks) (l : LwpStatus) (e : FunctionEvent) → length m.planted ≡ function_limit
    → length (marks_then m l e).planted ≡ function_limit
then-long m l Replaced long = refl
then-long m l _ long = long

after-long : (planted : List Bool) (a : Answer) (plant lift : Option ℕ) → length planted ≡ function_limit
    → length (planted_after planted a plant lift) ≡ function_limit
after-long planted Accepted (Some i) lift long = length-set planted i true ∙ long
after-long planted _ (Some i) lift long = long
after-long planted a None (Some i) long = length-set planted i false ∙ long
after-long planted a None None long = long

module _ (t : TrussState) (r : Reply) (all : Each Long t.traced) where
  left-long : (v : Option Traced) (u : Traced) → length u.marks.planted ≡ function_limit → LeftSo AreLong v u
  left-long None u long = tt
  left-long (Some v) u long = long

  stage-long : (stage : Stage) → IsWithin (length t.traced) stage → AfterStage AreLong t r stage
  stage-long (Spawning program) w = all
  stage-long (OpeningControl pid) w = (all, λ accepted. refl)
  stage-long (Opening q step) w = all
  stage-long Polling w = all
  stage-long (ReadingStatus q) w = (all, λ l e accepted told fresh. then-long (marks_at t q) l _ (all q w))
  stage-long (ReadingText q l from len) w = all
  stage-long (Running q) w = (each-but Long t.traced q all, all q w)
  stage-long (Closing q OpenNext) w =
      (each-but Long t.traced q all, left-long (without_last (traced_at t q)) (traced_at t q) (all q w))
  stage-long (Closing q GoOn) w =
      (each-but Long t.traced q all, left-long (without_last (traced_at t q)) (traced_at t q) (all q w))
  stage-long Finished w = all
  stage-long _ w = absurd w

  aside-long : (aside : Aside) → IsWithin (length t.traced) t.stage → IsBeside (length t.traced) aside
      → AfterAside AreLong t r aside
  aside-long Nothing within w = stage-long t.stage within
  aside-long (Reading q function) within w = all
  aside-long (Planting q function) within w =
      (each-but Long t.traced q all, after-long (marks_at t q).planted (answer_of r) (Some function) None (all q w))
  aside-long (Patching q plants lifts clear) within w = (
    each-but Long t.traced q all,
    after-long (marks_at t q).planted (answer_of r) (first_function plants) (first_function lifts) (all q w),
  )
  aside-long _ within w = absurd w

-- while it leaves its processes
long-alike : (u v : Traced) → SameFiles u v → v.attached ≡ u.attached → v.marks ≡ u.marks → Long u → Long v
long-alike u v same on marks long = ap (λ (m : Marks). length m.planted) marks ∙ long

abbrev Any : Traced → Type 0
Any u = Unit {0}

any-old : (u v : Traced) → SameFiles u v → v.attached ≡ u.attached → v.old ≡ u.old → v.seen ≡ u.seen → Any u → Any v
any-old u v same on old seen any = tt

lost-long : (v u : Traced) → without_last v ≡ Some u → Long v → Long u
lost-long v u is long = ap (λ (m : Marks). length m.planted) (lost-marks v u is) ∙ long

fewer-long : (set : List Bool) (first : Option ℕ) → length set ≡ function_limit
    → length (lifted_after set first) ≡ function_limit
fewer-long set None long = long
fewer-long set (Some i) long = length-set set i false ∙ long

-- ---- along a history

module _ (n k : ℕ) (o : Options) (s : TracedState) (h : List Entry) (run : IsReachedFunctionRun n k o s h) where
  abbrev T : List Entry → TrussState
  T front = functions_at k o front

  abbrev S : List Entry → TracedState
  S front = state_after s front

  module _ (f : List Entry) (e : Entry) (later : List Entry) (is : h ≡ f ++ e ∷ later)
      (was : Each Long (functions_at k o f).traced) where
    abbrev t : TrussState
    t = functions_at k o f

    truss-is : T (f ++ e ∷ []) ≡ functions_on t (exchange_of k e)
    truss-is = truss-next (Unit {0}) n k o s h run.of (λ r. run.reached) (λ r. run.bytes) f e later is

    has : has_functions t.options ≡ true
    has = has-there (Unit {0}) n k o s h run.of (λ r. run.reached) (λ r. run.bytes) f e later is

    -- a reply that is no interrupt, before the first one
    quiet-long : All WasNotInterrupted (exchanges k f) → (x : Exchange) → WasNotInterrupted x
        → Each Long (fed_functions t x.reply).traced
    quiet-long calm x quiet =
        let g = goes-there (Unit {0}) n k o s h run.of (λ r. run.reached) (λ r. run.bytes) f e later is calm in
        let w = g.kept in
        let within = stage-within (IsSo (Unit {0}) k t.options (S f)) t.traced t.stage w.stage in
        let beside = aside-within (IsSo (Unit {0}) k t.options (S f)) t.traced t.aside w.beside in
        fed-so AreLong t x.reply w.off w.follow within beside (calm-answer x quiet) has
        (aside-long t x.reply was t.aside within beside)

    -- the first interrupt
    broken-long : All WasNotInterrupted (exchanges k f) → (x : Exchange) → exchange_of k e ≡ Some x
        → x.reply ≡ reply.Fail Intr → Each Long (fed_functions t x.reply).traced
    broken-long calm x own broken i within =
        let b = begins.b n k o s h run 0 f e later is calm x own broken in
        let shares = b.shares in
        ap (λ (m : Marks). length m.planted)
        (begins.marks-same n k o s h run 0 f e later is calm x own broken i)
        ∙ was i (subst (λ m. i < m) shares.many within)

    -- while it leaves its processes
    leaving-long : IsLeaving (Unit {0}) k o t (S f) → (x : Exchange) → Each Long (fed_functions t x.reply).traced
    leaving-long g x =
        let l =
        fed-left Long long-alike Any any-old t x.reply g.on
        (follow-there (Unit {0}) n k o s h run.of (λ r. run.reached) (λ r. run.bytes) f e later is) has
        (λ i j one two other.
        its-apart k t (S f) (files-at (Unit {0}) n k o s h run.of (λ r. run.reached) (λ r. run.bytes) f (e ∷ later) is)
        i j one two other) (λ q within still. tt) g.at
        (after-all Long long-alike Any any-old t x.reply
        (λ v. fewer-long v.marks.planted (first_function v.marks.planted)) (λ v long. refl) lost-long was g.at) in
        l.each

    own-long : (x : Exchange) → exchange_of k e ≡ Some x → Each Long (fed_functions t x.reply).traced
    own-long x own =
        by (course-at (Unit {0}) n k o s h run.of (λ r. run.reached) (λ r. run.bytes) f (e ∷ later) is) (is-broken x)
      where
        by : Course (Unit {0}) n k o s h run.of (λ r. run.reached) (λ r. run.bytes) f
            → (x.reply ≡ reply.Fail Intr) ⊎ WasNotInterrupted x → Each Long (fed_functions t x.reply).traced
        by (goes_on calm) (inl broken) = broken-long calm x own broken
        by (goes_on calm) (inr quiet) = quiet-long calm x quiet
        by (leaves g) why = leaving-long g x

    entry-long : Each Long (T (f ++ e ∷ [])).traced
    entry-long = subst (λ (u : TrussState). Each Long u.traced) (sym truss-is) (by (exchange_of k e) refl)
      where
        by : (x : Option Exchange) → exchange_of k e ≡ x → Each Long (functions_on t x).traced
        by None none = was
        by (Some x) own = own-long x own

  walk : (rest done later : List Entry) → h ≡ done ++ (rest ++ later) → Each Long (T done).traced
      → Each Long (T (done ++ rest)).traced
  walk [] done later is all = subst (λ (es : List Entry). Each Long (T es).traced) (sym (append-nil done)) all
  walk (e ∷ rest) done later is all =
      subst (λ (es : List Entry). Each Long (T es).traced) (append_assoc done (e ∷ []) rest)
      (walk rest (done ++ e ∷ []) later (is ∙ sym (append_assoc done (e ∷ []) (rest ++ later)))
      (entry-long done e (rest ++ later) is all))

  pub planted-long : (front later : List Entry) → h ≡ front ++ later → (place : ℕ)
      → place < length (functions_at k o front).traced
      → length (marks_at (functions_at k o front) place).planted ≡ function_limit
  planted-long front later is place within =
      walk front [] later is
      (subst (λ xs. Each Long (functions_after (first_truss o) xs).traced) (sym (no-exchanges k))
      (first-so-truss Long o)) place within
