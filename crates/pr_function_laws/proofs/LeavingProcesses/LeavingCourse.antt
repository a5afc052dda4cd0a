use Rattle.std.proofs.Common.{◌≡◌, ◌≢◌, ◌<◌, ◌++◌, ◌⊎◌, ℕ, true, false, Option, Some, None, List, [], ◌∷◌, length}
use Rattle.std.proofs.Common.{refl, sym, subst, ap, ◌∙◌, inl, inr}
use Rattle.std.proofs.lemmas.Bool.{cases_eq, false≢true}
use Rattle.std.proofs.lemmas.List.{append-nil, append_assoc}
use Rattle.std.proofs.lemmas.List.Elements.{All-append, All-cons, All-head, All-nil}
use Rattle.std.proofs.lemmas.Option.{none-some, same_Some}
use Rattle.std.specs.List.{All, cons_option}
use Rattle.pr_lawful.proofs.LawfulStates.HistoryLemmas.{history-state}
use Rattle.pr_line.specs.declared.options.Options.{Options}
use Rattle.pr_model.specs.Calls.{Answer}
use Rattle.pr_model.specs.Lawful.{IsLawful}
use Rattle.pr_model.specs.Legal.{IsLegal, IsLegalEntry, after, state_after}
use Rattle.pr_model.specs.State.{TracedProcess, TracedState, TracedSystem, live_process}
use Rattle.pr_model.specs.declared.calls.Call.{Call}
use Rattle.pr_model.specs.declared.calls.Call.TheVariants as call
use Rattle.pr_model.specs.declared.calls.Reply.TheVariants as reply
use Rattle.pr_model.specs.declared.events.Entry.{Entry}
use Rattle.pr_num.specs.declared.errnos.Errno.TheVariants.{Intr}
use Rattle.pr_reached.proofs.Together.ReachedLemmas.{later-reached}
use Rattle.pr_reached.specs.ByteHistories.{HasBytes, IsEntryOfBytes}
use Rattle.pr_reached.specs.Reached.{IsReached}
use Rattle.pr_report_laws.proofs.Files.FileLaws.{HasFiles}
use Rattle.pr_report_laws.proofs.Files.FileUses.{standing}
use Rattle.pr_report_laws.proofs.Files.WatchHistories.{cons-exchanges, exchanges-push, no-exchanges}
use Rattle.pr_report_laws.proofs.SeenChildren.Splits.{state_after-both}
use Rattle.pr_report_laws.proofs.Watching.HistoryParts.{all-rest}
use Rattle.pr_truss.specs.FunctionCalls.{next_function_call_of}
use Rattle.pr_truss.specs.FunctionFeeding.{fed_functions}
use Rattle.pr_truss.specs.Marks.{has_functions}
use Rattle.pr_truss.specs.Replies.{answer_of}
use Rattle.pr_truss.specs.Trusses.{TrussState, first_truss, traced_at}
use Rattle.pr_truss.specs.declared.processes.Traced.{Traced}
use Rattle.pr_truss.specs.declared.replies.Answer.{Answer as Told}
use Rattle.pr_truss.specs.declared.replies.Answer.TheVariants.{Accepted, Gone, Interrupted, Refused}
use Rattle.pr_truss.specs.declared.stages.OpeningStep.TheVariants as opening
use Rattle.pr_truss.specs.declared.stages.Stage.TheVariants.{Opening}
use Rattle.pr_truss_laws.proofs.Replies.AnswerLemmas.{IsAnswer, answer-is}
use Rattle.pr_truss_laws.proofs.Replies.FunctionOptionLemmas.{fed_functions-options}
use Rattle.pr_truss_laws.proofs.Files.OpensLemmas.{looking-stays, only_looks}
use Rattle.pr_truss_laws.proofs.Files.HeldLemmas.{Fits}
use Rattle.pr_truss_laws.proofs.Files.OwnLemmas.{Owns}
use Rattle.pr_truss_laws.specs.Exchanges.{Exchange, exchange_of, exchanges}
use Rattle.pr_function_laws.proofs.Stepping.BreakpointLemmas.{IsOwnEntry, foreign-entry, own-entry}
use Rattle.pr_function_laws.proofs.Marks.KeptPlaces.{AtStage, rests}
use Rattle.pr_function_laws.proofs.LeavingProcesses.LeftProcesses.{IsLeaving, begin-first, foreign-leaving}
use Rattle.pr_function_laws.proofs.LeavingProcesses.LeavingKept.{own-leaving}
use Rattle.pr_function_laws.proofs.LeavingProcesses.LeavingSteps.{BeginsToLeave, WaitsAt, awaits_opening, begins-to-leave, polls}
use Rattle.pr_function_laws.proofs.OpenedProcesses.OpenedCalls.{IsSo}
use Rattle.pr_function_laws.proofs.OpenedProcesses.OpenedLaws.{Goes, before-goes, bytes-front}
use Rattle.pr_function_laws.proofs.OrdinaryTruss.OrdinaryFiles.{entry-calm, run-halfway}
use Rattle.pr_function_laws.proofs.OrdinaryTruss.OrdinaryReplies.{at-ordinary}
use Rattle.pr_function_laws.proofs.OpenedProcesses.StoodLemmas.{Stood, as_stopped, waits}
use Rattle.pr_function_laws.proofs.OpenedProcesses.TracedSets.{IsSetBy}
use Rattle.pr_function_laws.proofs.CallTurns.CalledLaws.{functions-both}
use Rattle.pr_function_laws.specs.Opened.{IsFunctionRun, WasNotInterrupted, functions_at}
use Rattle.pr_function_laws.specs.Ordinary.{ordinary}
use Rattle.pr_function_laws.specs.Runs.{MakesFunctionCalls, functions_after, functions_on}
use Rattle.pr_function_laws.specs.Soon.{may_wait}

-- Truss along a history, until it is interrupted, and from then on, where it leaves its processes.

-- ---- the first interrupt

waits-look : (c : Call) → may_wait c ≡ true → only_looks c ≡ true
waits-look (call.CtlWait handle until bytes) is = refl
waits-look (call.Poll handles) is = refl
waits-look (call.Until moment) is = refl
waits-look _ is = absurd (false≢true is)

loosened : (flags n : ℕ) (p : TracedProcess) → Stood flags n p → Stood 0 n p
loosened flags n p (as_stopped all few) = as_stopped all few
loosened flags n p (waits w none) = waits w refl

pub broken-answer : (x : Exchange) → x.reply ≡ reply.Fail Intr → answer_of x.reply ≡ Interrupted
unfolding answer_of
broken-answer x is = ap answer_of is

pub is-broken : (x : Exchange) → (x.reply ≡ reply.Fail Intr) ⊎ WasNotInterrupted x
unfolding IsAnswer
is-broken x = by (answer_of x.reply) refl
  where
    calm : (a : Told) → answer_of x.reply ≡ a → a ≢ Interrupted → WasNotInterrupted x
    calm a is other = record { unbroken = λ same. other (sym is ∙ broken-answer x same) }

    by : (a : Told) → answer_of x.reply ≡ a → (x.reply ≡ reply.Fail Intr) ⊎ WasNotInterrupted x
    by Interrupted is = inl (subst (IsAnswer x.reply) is (answer-is x.reply))
    by Accepted is = inr (calm Accepted is (λ (same : Accepted ≡ Interrupted). cc))
    by Gone is = inr (calm Gone is (λ (same : Gone ≡ Interrupted). cc))
    by (Refused errno) is = inr (calm (Refused errno) is (λ (same : Refused errno ≡ Interrupted). cc))

-- a process whose stop truss awaits as it opens it is not attached
pub awaited-free : (k : ℕ) (t : TrussState) (s : TracedState) → HasFiles k (ordinary t) s → (b until : ℕ)
    → t.stage ≡ Opening b (opening.AwaitStop until) → (traced_at t b).attached ≡ false
awaited-free k t s files b until at =
    let stands = standing k (ordinary t) s (Opening b (opening.AwaitStop until)) files at in
    let memory = stands.at in
    let fresh = memory.fresh in
    sym (ap (λ (u : Traced). u.attached) (at-ordinary t b)) ∙ fresh.free

module _ (Reached : Type 0) (n k : ℕ) (o : Options) (t : TrussState) (s : TracedState) (g : Goes Reached k o t s)
    (files : HasFiles k (ordinary t) s) (e : Entry) (legal : IsLegalEntry n s e) (bytes : Reached → IsEntryOfBytes e)
    (x : Exchange) (own : IsOwnEntry k s e x) (next : next_function_call_of t ≡ Some x.call)
    (has : has_functions t.options ≡ true) (broken : x.reply ≡ reply.Fail Intr)
    (may : may_wait x.call ≡ true) where
  abbrev a : Answer
  a = own.answer

  pub same-system : a.state.system ≡ s.system
  same-system =
      ap (λ (u : TracedState). u.system) (looking-stays s k x.call a (waits-look x.call may) own.is)

  -- a process that is attached was opened whole
  rests-at : WaitsAt t → (q : ℕ) → q < length t.traced → (traced_at t q).attached ≡ true
      → IsSo Reached k t.options s rests (traced_at t q)
  rests-at (polls at) q within attached =
      let w = g.kept in
      let whole = subst (AtStage (IsSo Reached k t.options s) t.traced) at w.stage in whole q within
  rests-at (awaits_opening b until at) q within attached =
      let w = g.kept in
      let here = subst (AtStage (IsSo Reached k t.options s) t.traced) at w.stage in
      here.1.0 q within (λ same.
      false≢true
      (sym (awaited-free k t s files b until at) ∙ ap (λ i. (traced_at t i).attached) (sym same) ∙ attached))

  pub begin-leaving : IsLeaving Reached k o (fed_functions t x.reply) (after s e)
  begin-leaving = subst (IsLeaving Reached k o (fed_functions t x.reply)) own.later (record {
    lawful = subst IsLawful (sym own.later) (history-state n s (e ∷ []) g.lawful (legal, tt));
    reached = λ r.
        subst IsReached (sym own.later)
        (later-reached n s (e ∷ []) (g.reached r) (All-cons IsEntryOfBytes e [] (bytes r) (All-nil IsEntryOfBytes))
        (legal, tt));
    options = fed_functions-options t x.reply ∙ g.options;
    on = b.on;
    at = b.at;
    sets = λ q within attached p live.
        let h = whole-at q within attached in
        let files_of = h.holds in
        subst (λ (y : Options). IsSetBy y None p) g.options (files_of.set p (was-live q p live));
    stood = λ r q within attached unlooked p live.
        let h = whole-at q within attached in
        let stands = h.stands r in
        subst (λ m. Stood 0 m p) (sym (same-old q))
        (loosened (traced_at t q).marks.flags (traced_at t q).old p (stands.stood p (was-live q p live)));
    first = λ some attached p live. begin-first (fed_functions t x.reply) b.next some attached p;
  })
    where
      b : BeginsToLeave t (fed_functions t x.reply)
      b =
          let w = g.kept in
          begins-to-leave (IsSo Reached k t.options s) t x.reply has (broken-answer x broken) x.call may w.stage
          w.beside next

      same-old : (q : ℕ) → (traced_at (fed_functions t x.reply) q).old ≡ (traced_at t q).old
      same-old q =
          let w = b in
          let shares = w.shares in
          elim (cases_eq q 0) [
            | inl zero_q ↦
                ap (λ i. (traced_at (fed_functions t x.reply) i).old) zero_q ∙ w.old
                ∙ ap (λ i. (traced_at t i).old) (sym zero_q)
            | inr other ↦ shares.olds q other
          ]

      whole-at : (q : ℕ) → q < length (fed_functions t x.reply).traced
          → (traced_at (fed_functions t x.reply) q).attached ≡ true
          → IsSo Reached k t.options s rests (traced_at t q)
      whole-at q within attached =
          let w = b in
          let shares = w.shares in
          rests-at w.waits q (subst (λ m. q < m) shares.many within) (sym (shares.attached q) ∙ attached)

      was-live : (q : ℕ) (p : TracedProcess)
          → live_process a.state.system (traced_at (fed_functions t x.reply) q).pid ≡ Some p
          → live_process s.system (traced_at t q).pid ≡ Some p
      was-live q p live =
          let w = b in
          let shares = w.shares in
          ap (live_process s.system) (sym (shares.pids q))
          ∙ ap (λ (u : TracedSystem). live_process u (traced_at (fed_functions t x.reply) q).pid) (sym same-system)
          ∙ live

-- ---- a history

module _ (Reached : Type 0) (n k : ℕ) (o : Options) (s : TracedState) (h : List Entry)
    (run : IsFunctionRun n k o s h) (reached : Reached → IsReached s) (bytes : Reached → HasBytes h) where
  abbrev T : List Entry → TrussState
  T front = functions_at k o front

  abbrev S : List Entry → TracedState
  S front = state_after s front

  -- truss was not interrupted so far, or it leaves its processes
  pub data Course (f : List Entry) : Type 0 where
    goes_on : All WasNotInterrupted (exchanges k f) → Course f
    leaves : IsLeaving Reached k o (T f) (S f) → Course f

  module _ (f later : List Entry) (is : h ≡ f ++ later) where
    run-there : IsFunctionRun n k o s (f ++ later)
    run-there = subst (λ (es : List Entry). IsFunctionRun n k o s es) is run

    pub files-at : HasFiles k (ordinary (T f)) (S f)
    files-at =
        let half = run-halfway n k o s f later run-there in
        let follows = half.follows in
        let reaches = follows.reaches in reaches.files

    pub options-at : (T f).options ≡ o
    options-at =
        let half = run-halfway n k o s f later run-there in
        let follows = half.follows in
        let fit = follows.fit in fit.options

    pub fits-at : Fits (ordinary (T f)).traced (T f).stage
    fits-at =
        let half = run-halfway n k o s f later run-there in
        let follows = half.follows in
        let reaches = follows.reaches in
        let owns : Owns k (ordinary (T f)) (S f) = reaches.owns in owns.fits

    pub legal-at : IsLegal n (S f) later
    legal-at = let half = run-halfway n k o s f later run-there in half.legal

    pub makes-at : MakesFunctionCalls (T f) (exchanges k later)
    makes-at = let half = run-halfway n k o s f later run-there in half.makes

  module _ (f : List Entry) (e : Entry) (later : List Entry) (is : h ≡ f ++ e ∷ later) where
    abbrev next : List Entry
    next = f ++ e ∷ []

    pub entry-legal : IsLegalEntry n (S f) e
    entry-legal = let legal = legal-at f (e ∷ later) is in legal.0

    pub entry-bytes : Reached → IsEntryOfBytes e
    entry-bytes r =
        All-head IsEntryOfBytes e later
        (all-rest IsEntryOfBytes f (e ∷ later) (subst (All IsEntryOfBytes) is (bytes r)))

    pub truss-next : T next ≡ functions_on (T f) (exchange_of k e)
    truss-next =
        ap (functions_after (first_truss o)) (exchanges-push k f e)
        ∙ functions-both (first_truss o) (exchanges k f) (cons_option (exchange_of k e) [])
        ∙ one-on (T f) (exchange_of k e)
      where
        one-on : (t : TrussState) (x : Option Exchange) → functions_after t (cons_option x []) ≡ functions_on t x
        one-on t None = refl
        one-on t (Some x) = refl

    pub state-next : S next ≡ after (S f) e
    state-next = state_after-both s f (e ∷ [])

    pub has-there : has_functions (T f).options ≡ true
    has-there = ap has_functions (options-at f (e ∷ later) is) ∙ run.has

    pub follow-there : (T f).options.follow ≡ false
    follow-there = ap (λ (y : Options). y.follow) (options-at f (e ∷ later) is) ∙ run.follows_none

    pub makes-there : (x : Exchange) → exchange_of k e ≡ Some x → next_function_call_of (T f) ≡ Some x.call
    makes-there x own =
        let makes : MakesFunctionCalls (T f) (x ∷ exchanges k later) =
        subst (λ y. MakesFunctionCalls (T f) (cons_option y (exchanges k later))) own
        (subst (MakesFunctionCalls (T f)) (cons-exchanges k e later) (makes-at f (e ∷ later) is)) in makes.0

    pub calm-next : All WasNotInterrupted (exchanges k f) → ((x : Exchange) → exchange_of k e ≡ Some x
        → WasNotInterrupted x)
        → All WasNotInterrupted (exchanges k next)
    calm-next calm here =
        subst (All WasNotInterrupted) (sym (exchanges-push k f e))
        (All-append WasNotInterrupted (exchanges k f) (cons_option (exchange_of k e) []) calm
        (by (exchange_of k e) here))
      where
        by : (x : Option Exchange) → ((y : Exchange) → x ≡ Some y → WasNotInterrupted y)
            → All WasNotInterrupted (cons_option x [])
        by None here = All-nil WasNotInterrupted
        by (Some x) here = All-cons WasNotInterrupted x [] (here x refl) (All-nil WasNotInterrupted)

    pub goes-there : All WasNotInterrupted (exchanges k f) → Goes Reached k o (T f) (S f)
    goes-there calm =
        before-goes n k o s h run f (e ∷ later) is calm Reached reached
        (λ r. bytes-front f (e ∷ later) (subst HasBytes is (bytes r)))

    left-next : (x : Option Exchange) → exchange_of k e ≡ x
        → IsLeaving Reached k o (functions_on (T f) x) (after (S f) e) → IsLeaving Reached k o (T next) (S next)
    left-next x own it =
        subst (λ (u : TracedState). IsLeaving Reached k o (T next) u) (sym state-next)
        (subst (λ (u : TrussState). IsLeaving Reached k o u (after (S f) e))
        (sym (truss-next ∙ ap (functions_on (T f)) own)) it)

    pub leaving-next : IsLeaving Reached k o (T f) (S f) → IsLeaving Reached k o (T next) (S next)
    leaving-next g = by (exchange_of k e) refl
      where
        by : (x : Option Exchange) → exchange_of k e ≡ x → IsLeaving Reached k o (T next) (S next)
        by None none =
            left-next None none
            (foreign-leaving Reached n k o (T f) (S f) g (files-at f (e ∷ later) is) e entry-legal entry-bytes
            (foreign-entry n k (S f) e entry-legal none))
        by (Some x) own =
            left-next (Some x) own
            (own-leaving Reached n k o (T f) (S f) g (files-at f (e ∷ later) is) e entry-legal entry-bytes x
            (own-entry n k (S f) e x entry-legal own) (makes-there x own) has-there follow-there)

    pub begins-next : All WasNotInterrupted (exchanges k f) → (x : Exchange) → exchange_of k e ≡ Some x
        → x.reply ≡ reply.Fail Intr → IsLeaving Reached k o (T next) (S next)
    begins-next calm x own broken =
        let calm_x = entry-calm n k (S f) e x entry-legal own in
        left-next (Some x) own
        (begin-leaving Reached n k o (T f) (S f) (goes-there calm) (files-at f (e ∷ later) is) e entry-legal
        entry-bytes x (own-entry n k (S f) e x entry-legal own) (makes-there x own) has-there broken
        (calm_x.waits broken))

    entry-course : Course f → Course next
    entry-course (goes_on calm) = by (exchange_of k e) refl
      where
        by-broken : (x : Exchange) → exchange_of k e ≡ Some x → (x.reply ≡ reply.Fail Intr) ⊎ WasNotInterrupted x
            → Course next
        by-broken x own (inr quiet) =
            goes_on (calm-next calm (λ y same.
            subst WasNotInterrupted (same_Some x y (sym own ∙ same)) quiet))
        by-broken x own (inl broken) = leaves (begins-next calm x own broken)

        by : (x : Option Exchange) → exchange_of k e ≡ x → Course next
        by None none = goes_on (calm-next calm (λ y same. absurd (none-some y (sym none ∙ same))))
        by (Some x) own = by-broken x own (is-broken x)
    entry-course (leaves g) = leaves (leaving-next g)

  walk : (mid f later : List Entry) → h ≡ f ++ (mid ++ later) → Course f → Course (f ++ mid)
  walk [] f later is c = subst Course (sym (append-nil f)) c
  walk (e ∷ mid) f later is c =
      subst Course (append_assoc f (e ∷ []) mid)
      (walk mid (f ++ e ∷ []) later (is ∙ sym (append_assoc f (e ∷ []) (mid ++ later)))
      (entry-course f e (mid ++ later) is c))

  pub course-at : (f later : List Entry) → h ≡ f ++ later → Course f
  course-at f later is =
      walk f [] later is (goes_on (subst (All WasNotInterrupted) (sym (no-exchanges k)) (All-nil WasNotInterrupted)))

  -- where it does not leave them it was not interrupted
  pub calm-at : (f later : List Entry) → h ≡ f ++ later → (T f).leaving ≡ false → All WasNotInterrupted (exchanges k f)
  calm-at f later is off = by (course-at f later is)
    where
      by : Course f → All WasNotInterrupted (exchanges k f)
      by (goes_on calm) = calm
      by (leaves g) = absurd (false≢true (sym off ∙ g.on))

  -- and where it does
  pub leaving-at : (f later : List Entry) → h ≡ f ++ later → (T f).leaving ≡ true
      → IsLeaving Reached k o (T f) (S f)
  leaving-at f later is on = by (course-at f later is)
    where
      by : Course f → IsLeaving Reached k o (T f) (S f)
      by (goes_on calm) =
          let g =
          before-goes n k o s h run f later is calm Reached reached
          (λ r. bytes-front f later (subst HasBytes is (bytes r))) in
          let w = g.kept in absurd (false≢true (sym w.off ∙ on))
      by (leaves g) = g
