use Rattle.std.proofs.Common.{◌≡◌, ◌≢◌, ◌⊎◌, ◌++◌, ℕ, Bool, true, is_some, Option, Some, None, List, [], ◌∷◌, length, append-nil, append_assoc, refl, sym, subst, ap, ◌∙◌, inl, inr}
use Rattle.std.proofs.lemmas.List.Elements.{All-cons, All-head, All-nil, All-tail}
use Rattle.std.proofs.lemmas.Option.{same_Some}
use Rattle.std.specs.List.{All, cons_option}
use Rattle.pr_line.specs.declared.options.Options.{Options}
use Rattle.pr_model.specs.Legal.{state_after}
use Rattle.pr_model.specs.State.{TracedState}
use Rattle.pr_model.specs.declared.calls.Reply.{Reply}
use Rattle.pr_model.specs.declared.events.Entry.{Entry}
use Rattle.pr_num.specs.Control.{clear_fault, single_step}
use Rattle.pr_rec.specs.declared.lwps.LwpStatus.{LwpStatus}
use Rattle.pr_report_laws.proofs.Files.WatchHistories.{cons-exchanges, exchanges-both, no-exchanges}
use Rattle.pr_report_laws.proofs.Invariant.StandLemmas.{Each, each-but}
use Rattle.pr_report_laws.proofs.Memory.WatchMemory.{accepted-granted}
use Rattle.pr_report_laws.proofs.Watching.HistoryParts.{all-front, all-rest}
use Rattle.pr_truss.specs.Asides.{marks_at}
use Rattle.pr_truss.specs.FunctionCalls.{function_call_of, next_function_call_of}
use Rattle.pr_truss.specs.FunctionFeeding.{fed_functions}
use Rattle.pr_truss.specs.Marks.{has_functions, no_marks}
use Rattle.pr_truss.specs.NextCalls.{call_of, open_control}
use Rattle.pr_truss.specs.Processes.{without_last}
use Rattle.pr_truss.specs.Trusses.{TrussState, first_truss, traced_at}
use Rattle.pr_truss.specs.declared.asides.Aside.{Aside}
use Rattle.pr_truss.specs.declared.asides.Aside.TheVariants.{Nothing, Patching, Planting, Reading}
use Rattle.pr_truss.specs.declared.function_events.FunctionEvent.{FunctionEvent}
use Rattle.pr_truss.specs.declared.function_events.FunctionEvent.TheVariants.{AfterCopy, AtBreakpoint, BeforeCopy, Completed, Other, Replaced, TraceTrap}
use Rattle.pr_truss.specs.declared.marks.Marks.{Marks}
use Rattle.pr_truss.specs.declared.processes.Traced.{Traced}
use Rattle.pr_truss.specs.declared.stages.AfterClosing.TheVariants.{GoOn, OpenNext}
use Rattle.pr_truss.specs.declared.stages.Stage.{Stage}
use Rattle.pr_truss.specs.declared.stages.Stage.TheVariants.{Closing, Finished, Opening, OpeningControl, Polling, ReadingStatus, ReadingText, Running, Spawning}
use Rattle.pr_truss_laws.specs.Exchanges.{Exchange, IsGranted, exchange_of, exchanges}
use Rattle.pr_function_laws.proofs.LeavingProcesses.LeavingCourse.{goes-there, has-there, makes-there, truss-next}
use Rattle.pr_function_laws.proofs.LeavingProcesses.LeavingLaws.{calm-exchanges}
use Rattle.pr_function_laws.proofs.NextCalls.MarkedFlags.{no-flags-at-read}
use Rattle.pr_function_laws.proofs.NextCalls.PatchCalls.{next-staged}
use Rattle.pr_function_laws.proofs.OpenedProcesses.OpenedCalls.{IsSo}
use Rattle.pr_function_laws.proofs.OpenedProcesses.OpenedLaws.{Goes}
use Rattle.pr_function_laws.proofs.Pending.FrontLemmas.{calm-answer}
use Rattle.pr_function_laws.specs.ReachedRuns.{IsReachedFunctionRun}
use Rattle.pr_function_laws.specs.Opened.{WasNotInterrupted, functions_at}
use Rattle.pr_function_laws.specs.Soon.{IsCalm}
use Rattle.pr_function_laws.specs.Runs.{MakesFunctionCalls, functions_after, functions_on}
use Rattle.pr_function_hides.proofs.Copying.CopyEnds.{aside-within, stage-within}
use Rattle.pr_function_hides.proofs.Replies.OwnFiles.{IsBeside, IsWithin}
use Rattle.pr_function_hides.proofs.Replies.PlantedReplies.{AfterAside, AfterStage, LeftSo, So, fed-so, first-so-truss}
use Rattle.pr_function_hides.proofs.Replies.PlantedWalk.{marks_then}

-- What is so of the marks of each process by its id, and stays so with each event that truss reads, and where it
-- plants, lifts and runs, is so along a history until truss is interrupted.

module _ (Q : ℕ → Marks → Type 0) where
  pub record IsKept : Type 0 where
    pub events : (pid : ℕ) (m : Marks) (l : LwpStatus) (e : FunctionEvent) → m.flags ≡ 0 → Q pid m
        → Q pid (marks_then m l e)
    pub runs : (pid : ℕ) (m : Marks) → Q pid m → Q pid (record m { flags = 0 })
    pub plants : (pid : ℕ) (m : Marks) (set : List Bool) → Q pid m → Q pid (record m { planted = set })

  -- where this exchange opens the control file of a process it is so of one with no marks
  pub record OpensSo (x : Exchange) : Type 0 where
    pub so : (pid : ℕ) → x.call ≡ open_control pid → IsGranted x → Q pid no_marks

module _ (n k : ℕ) (o : Options) (s : TracedState) (h : List Entry) (run : IsReachedFunctionRun n k o s h)
    (Q : ℕ → Marks → Type 0) (kept : IsKept Q) where
  abbrev T : List Entry → TrussState
  T es = functions_at k o es

  abbrev pub AllSo : List Entry → Type 0
  AllSo es = Each (So Q) (functions_at k o es).traced

  module _ (f : List Entry) (e : Entry) (later : List Entry) (is : h ≡ f ++ e ∷ later)
      (calm : All WasNotInterrupted (exchanges k f)) (x : Exchange) (own : exchange_of k e ≡ Some x)
      (quiet : WasNotInterrupted x) (opens : OpensSo Q x) (all : AllSo f) where
    abbrev t : TrussState
    t = functions_at k o f

    abbrev r : Reply
    r = x.reply

    goes : Goes (Unit {0}) k o t (state_after s f)
    goes = goes-there (Unit {0}) n k o s h run.of (λ r. run.reached) (λ r. run.bytes) f e later is calm

    has : has_functions t.options ≡ true
    has = has-there (Unit {0}) n k o s h run.of (λ r. run.reached) (λ r. run.bytes) f e later is

    sent : next_function_call_of t ≡ Some x.call
    sent = makes-there (Unit {0}) n k o s h run.of (λ r. run.reached) (λ r. run.bytes) f e later is x own

    -- where it reads a status the process has no run flags
    plain : (q : ℕ) → t.stage ≡ ReadingStatus q → (marks_at t q).flags ≡ 0
    plain q at =
        let g = goes in
        let w = g.kept in
        no-flags-at-read o run.of.has run.of.follows_none (exchanges k f) (exchanges k (e ∷ later)) q
        (subst (MakesFunctionCalls (first_truss o)) both run.of.makes)
        (subst (All IsCalm) both (calm-exchanges h n k s run.of.legal)) w.off at
      where
        both : exchanges k h ≡ exchanges k f ++ exchanges k (e ∷ later)
        both = ap (exchanges k) is ∙ exchanges-both k f (e ∷ later)

    left : (v : Option Traced) (u : Traced) → So Q u → LeftSo Q v u
    left None u so = tt
    left (Some v) u so = so

    opens-it : t.aside ≡ Nothing → (i : ℕ) → t.stage ≡ OpeningControl i → x.call ≡ open_control i
    unfolding function_call_of call_of
    opens-it idle i at = sym (same_Some _ _ (sym (next-staged t.options has t (OpeningControl i) refl idle at) ∙ sent))

    stage-after : t.aside ≡ Nothing → (stage : Stage) → t.stage ≡ stage → IsWithin (length t.traced) stage
        → AfterStage Q t r stage
    stage-after idle (OpeningControl i) at within =
        (all, λ accepted. opens.so i (opens-it idle i at) (accepted-granted x accepted))
    stage-after idle (ReadingStatus q) at within =
        (all, λ l ev accepted told fresh. kept.events _ _ l _ (plain q at) (all q within))
    stage-after idle (Running q) at within = (each-but (So Q) t.traced q all, kept.runs _ _ (all q within))
    stage-after idle (Closing q OpenNext) at within =
        (each-but (So Q) t.traced q all, left (without_last (traced_at t q)) (traced_at t q) (all q within))
    stage-after idle (Closing q GoOn) at within =
        (each-but (So Q) t.traced q all, left (without_last (traced_at t q)) (traced_at t q) (all q within))
    stage-after idle (Spawning program) at within = all
    stage-after idle (Opening q step) at within = all
    stage-after idle Polling at within = all
    stage-after idle (ReadingText q l from len) at within = all
    stage-after idle Finished at within = all
    stage-after idle _ at within = absurd within

    aside-after : IsWithin (length t.traced) t.stage → (aside : Aside) → t.aside ≡ aside
        → IsBeside (length t.traced) aside → AfterAside Q t r aside
    aside-after staged Nothing is_aside within = stage-after is_aside t.stage refl staged
    aside-after staged (Planting q function) is_aside within =
        (each-but (So Q) t.traced q all, kept.plants _ _ _ (all q within))
    aside-after staged (Patching q plants lifts clear) is_aside within =
        (each-but (So Q) t.traced q all, kept.plants _ _ _ (all q within))
    aside-after staged (Reading q function) is_aside within = all
    aside-after staged _ is_aside within = absurd within

    own-so : Each (So Q) (fed_functions t r).traced
    own-so =
        let g = goes in
        let w = g.kept in
        let within = stage-within (IsSo (Unit {0}) k t.options (state_after s f)) t.traced t.stage w.stage in
        let beside = aside-within (IsSo (Unit {0}) k t.options (state_after s f)) t.traced t.aside w.beside in
        fed-so Q t r w.off w.follow within beside (calm-answer x quiet) has (aside-after within t.aside refl beside)

  entry-so : (f : List Entry) (e : Entry) (later : List Entry) → h ≡ f ++ e ∷ later
      → All WasNotInterrupted (exchanges k f) → All WasNotInterrupted (exchanges k (e ∷ []))
      → All (OpensSo Q) (exchanges k (e ∷ [])) → AllSo f → AllSo (f ++ e ∷ [])
  entry-so f e later is calm quiet opens all =
      subst (λ (t : TrussState). Each (So Q) t.traced)
      (sym (truss-next (Unit {0}) n k o s h run.of (λ r. run.reached) (λ r. run.bytes) f e later is))
      (by (exchange_of k e) refl)
    where
      here : (P : Exchange → Type 0) → All P (exchanges k (e ∷ [])) → (x : Exchange) → exchange_of k e ≡ Some x → P x
      here P every x own =
          All-head P x (exchanges k [])
          (subst (λ y. All P (cons_option y (exchanges k []))) own (subst (All P) (cons-exchanges k e []) every))

      by : (x : Option Exchange) → exchange_of k e ≡ x → Each (So Q) (functions_on (T f) x).traced
      by None own = all
      by (Some x) own =
          own-so f e later is calm x own (here WasNotInterrupted quiet x own) (here (OpensSo Q) opens x own) all

  pub walk : (mid f later : List Entry) → h ≡ f ++ (mid ++ later) → All WasNotInterrupted (exchanges k f)
      → All WasNotInterrupted (exchanges k mid) → All (OpensSo Q) (exchanges k mid) → AllSo f → AllSo (f ++ mid)
  walk [] f later is calm quiet opens all = subst AllSo (sym (append-nil f)) all
  walk (e ∷ mid) f later is calm quiet opens all =
      subst AllSo (append_assoc f (e ∷ []) mid)
      (walk mid (f ++ e ∷ []) later (is ∙ sym (append_assoc f (e ∷ []) (mid ++ later)))
      (subst (All WasNotInterrupted) (sym (exchanges-both k f (e ∷ [])))
      (both WasNotInterrupted (exchanges k f) (exchanges k (e ∷ [])) calm
      (all-front WasNotInterrupted (exchanges k (e ∷ [])) (exchanges k mid) (parts WasNotInterrupted quiet))))
      (all-rest WasNotInterrupted (exchanges k (e ∷ [])) (exchanges k mid) (parts WasNotInterrupted quiet))
      (all-rest (OpensSo Q) (exchanges k (e ∷ [])) (exchanges k mid) (parts (OpensSo Q) opens))
      (entry-so f e (mid ++ later) is calm
      (all-front WasNotInterrupted (exchanges k (e ∷ [])) (exchanges k mid) (parts WasNotInterrupted quiet))
      (all-front (OpensSo Q) (exchanges k (e ∷ [])) (exchanges k mid) (parts (OpensSo Q) opens)) all))
    where
      parts : (P : Exchange → Type 0) → All P (exchanges k (e ∷ mid))
          → All P (exchanges k (e ∷ []) ++ exchanges k mid)
      parts P every = subst (All P) (exchanges-both k (e ∷ []) mid) every

      both : (P : Exchange → Type 0) (xs ys : List Exchange) → All P xs → All P ys → All P (xs ++ ys)
      both P [] ys one two = two
      both P (x ∷ xs) ys one two =
          All-cons P x (xs ++ ys) (All-head P x xs one) (both P xs ys (All-tail P x xs one) two)

  -- from the beginning on
  pub from-first : ((pid : ℕ) → Q pid no_marks) → (f later : List Entry) → h ≡ f ++ later
      → All WasNotInterrupted (exchanges k f) → AllSo f
  from-first clean f later is calm =
      walk f [] later is (subst (All WasNotInterrupted) (sym (no-exchanges k)) (All-nil WasNotInterrupted)) calm
      (every (exchanges k f))
      (subst (λ xs. Each (So Q) (functions_after (first_truss o) xs).traced) (sym (no-exchanges k))
      (first-so-truss (So Q) o))
    where
      every : (xs : List Exchange) → All (OpensSo Q) xs
      every [] = All-nil (OpensSo Q)
      every (x ∷ xs) = All-cons (OpensSo Q) x xs (record { so = λ pid is granted. clean pid }) (every xs)

-- ---- a step and its flags

-- A step is under way; or the process will be run with other flags than those of a step.
abbrev pub IsFlagged : ℕ → Marks → Type 0
IsFlagged pid m =
    (is_some m.stepped ≡ true) ⊎ ((m.flags ≡ 0) ⊎ ((m.flags ≡ clear_fault) ⊎ (m.flags ≡ single_step)))

then-flagged : (pid : ℕ) (m : Marks) (l : LwpStatus) (e : FunctionEvent) → m.flags ≡ 0 → IsFlagged pid m
    → IsFlagged pid (marks_then m l e)
then-flagged pid m l (AtBreakpoint function) plain was = inl refl
then-flagged pid m l (Completed step) plain was = inr (inr (inl refl))
then-flagged pid m l TraceTrap plain was = inr (inr (inl refl))
then-flagged pid m l BeforeCopy plain was = inr (inr (inr refl))
then-flagged pid m l AfterCopy plain was = inr (inl plain)
then-flagged pid m l Replaced plain was = inr (inl refl)
then-flagged pid m l Other plain was = inr (inl plain)

pub flagged-kept : IsKept IsFlagged
flagged-kept = record {
  events = then-flagged;
  runs = λ pid m was. inr (inl refl);
  plants = λ pid m set was. was;
}

-- ---- another process

abbrev pub IsNotOf : ℕ → ℕ → Marks → Type 0
IsNotOf pid own m = own ≢ pid

pub other-kept : (pid : ℕ) → IsKept (IsNotOf pid)
other-kept pid = record {
  events = λ own m l e plain was. was;
  runs = λ own m was. was;
  plants = λ own m set was. was;
}
