use Rattle.std.proofs.Common.{◌≡◌, ◌≢◌, ◌<◌, ◌+◌, ◌++◌, ℕ, true, false, Option, Some, None, List, [], ◌∷◌}
use Rattle.std.proofs.Common.{length, map, refl, sym, subst, ap, ◌∙◌, arith, inl, inr}
use Rattle.std.proofs.lemmas.Bool.{cases_eq, false≢true}
use Rattle.std.proofs.lemmas.List.{append-nil, append_assoc}
use Rattle.std.proofs.lemmas.List.Elements.{All-append, All-cons, All-head, All-nil, All-tail}
use Rattle.std.proofs.lemmas.Option.{none-some, same_Some}
use Rattle.std.specs.List.{All, cons_option}
use Rattle.pr_line.specs.declared.options.Options.{Options}
use Rattle.pr_model.specs.Handles.{handle_of}
use Rattle.pr_model.specs.Legal.{IsLegalEntry, after, state_after}
use Rattle.pr_model.specs.State.{TracedProcess, TracedState, live_process}
use Rattle.pr_model.specs.declared.calls.Call.TheVariants as call
use Rattle.pr_model.specs.declared.calls.Reply.{Reply}
use Rattle.pr_model.specs.declared.events.Act.TheVariants as act
use Rattle.pr_model.specs.declared.events.Actor.TheVariants.{Lwp}
use Rattle.pr_model.specs.declared.events.Did.TheVariants.{Stopped}
use Rattle.pr_model.specs.declared.events.Entry.{Entry}
use Rattle.pr_model.specs.declared.events.Turned.{Turned}
use Rattle.pr_model.specs.declared.handles.Held.{Held}
use Rattle.pr_reached.specs.ByteHistories.{IsEntryOfBytes}
use Rattle.pr_report_laws.proofs.Files.FileLaws.{HasFiles}
use Rattle.pr_report_laws.proofs.Files.WatchHistories.{cons-exchanges, exchanges-both}
use Rattle.pr_report_laws.proofs.Invariant.StandLemmas.{IsAttached}
use Rattle.pr_report_laws.proofs.Watching.HistoryParts.{all-front, legal-front}
use Rattle.pr_report_laws.specs.OwnOpens.{IsGoingOn}
use Rattle.pr_truss.specs.FunctionCalls.{next_function_call_of}
use Rattle.pr_truss.specs.FunctionFeeding.{fed_functions}
use Rattle.pr_truss.specs.Marks.{has_functions}
use Rattle.pr_truss.specs.NextCalls.{call_of, next_call_of}
use Rattle.pr_truss.specs.Replies.{answer_of}
use Rattle.pr_truss.specs.Trusses.{TrussState, traced_at}
use Rattle.pr_truss.specs.declared.asides.Aside.{Aside}
use Rattle.pr_truss.specs.declared.asides.Aside.TheVariants.{Asking, AwaitingAgain, AwaitingStop}
use Rattle.pr_truss.specs.declared.processes.Traced.{Traced}
use Rattle.pr_truss.specs.declared.replies.Answer.{Answer as Told}
use Rattle.pr_truss.specs.declared.replies.Answer.TheVariants.{Accepted, Gone, Interrupted, Refused}
use Rattle.pr_truss.specs.declared.stages.Stage.{Stage}
use Rattle.pr_truss.specs.declared.stages.Stage.TheVariants.{Polling, ReadingLwps, Unfollowing}
use Rattle.pr_truss_laws.proofs.Files.HeldLemmas.{at_place}
use Rattle.pr_truss_laws.specs.Exchanges.{Exchange, exchange_of, exchanges}
use Rattle.pr_truss_laws.specs.Sent.{sends}
use Rattle.pr_truss_laws.specs.Stills.{IsHalting}
use Rattle.pr_function_laws.proofs.LeavingProcesses.LeavingCourse.{files-at, leaving-next, begins-next}
use Rattle.pr_function_laws.proofs.LeavingProcesses.LeavingFacts.{still-halts}
use Rattle.pr_function_laws.proofs.LeavingProcesses.LeftProcesses.{IsLeaving, StoodFirst, its-apart}
use Rattle.pr_function_laws.proofs.LeavingProcesses.LeavingKept.{behind-it, control-acts, close-acts, look-same, lose-same, own-leaving, patch-acts, behind-at, step-acts, step-call, text-same, there-is}
use Rattle.pr_function_laws.proofs.LeavingProcesses.LeavingStages.{is_looked}
use Rattle.pr_function_laws.proofs.LeavingProcesses.LeavingSteps.{IsAtNext, LeavesOn, Shares, Went, ended, halted, has_read}
use Rattle.pr_function_laws.proofs.LeavingProcesses.LeavingSteps.{looked, loses, patched}
use Rattle.pr_function_laws.proofs.OpenedProcesses.OpenedLemmas.{control-made, control-sole}
use Rattle.pr_function_laws.proofs.OpenedProcesses.TracedSets.{IsSetBy}
use Rattle.pr_function_laws.proofs.Stepping.BreakpointLemmas.{IsOwnEntry, own-entry}
use Rattle.pr_function_laws.proofs.Stepping.StretchLemmas as stretch
use Rattle.pr_function_laws.proofs.Stepping.StretchLemmas.{Goes}
use Rattle.pr_reached.specs.Fits.{IsFitSystem}
use Rattle.pr_report_laws.proofs.SeenChildren.Splits.{state_after-both}
use Rattle.pr_truss_laws.proofs.Files.HeldLemmas.{of_stage}
use Rattle.pr_function_laws.proofs.LeavingProcesses.LeavingCourse.{broken-answer, entry-bytes, entry-legal, follow-there}
use Rattle.pr_function_laws.proofs.LeavingProcesses.LeavingCourse.{goes-there, has-there, legal-at, makes-there, state-next, truss-next}
use Rattle.pr_function_laws.proofs.LeavingProcesses.LeavingLaws.{calm-exchanges}
use Rattle.pr_function_laws.proofs.LeavingProcesses.LeavingStages.{IsLeft, asks, awaits, closes_files, halts, has_ended}
use Rattle.pr_function_laws.proofs.LeavingProcesses.LeavingStages.{lifts_all, looks, reads_text, waits_again}
use Rattle.pr_function_laws.proofs.LeavingProcesses.LeavingSteps.{BeginsToLeave, WaitsAt, awaits_opening, polls}
use Rattle.pr_function_laws.proofs.Listing.LeavingEvents.{b as begins, system-is, v-is}
use Rattle.pr_function_laws.proofs.Listing.ListedSteps.{opened-attached}
use Rattle.pr_function_laws.proofs.Listing.TracedPlaces.{traced-owned}
use Rattle.pr_function_laws.proofs.OpenedProcesses.OpenedCalls.{IsSo}
use Rattle.pr_function_laws.proofs.OpenedProcesses.OpenedLaws.{Goes as Runs, alone-goes, handle-is, status-handle}
use Rattle.pr_function_laws.proofs.OrdinaryTruss.OrdinaryCalls.{stands-sends}
use Rattle.pr_function_laws.proofs.OrdinaryTruss.OrdinaryEntries as entries
use Rattle.pr_function_laws.proofs.OrdinaryTruss.OrdinaryExchanges.{Turn, goes_on, goes_out}
use Rattle.pr_function_laws.proofs.OrdinaryTruss.OrdinaryReplies.{at-ordinary}
use Rattle.pr_function_laws.proofs.ShownOnce.GoingOn.{Going}
use Rattle.pr_function_laws.specs.LeftAlone.{IsLeftAlone, IsLeftAtStep}
use Rattle.pr_function_laws.specs.Opened.{WasNotInterrupted, is_opened}
use Rattle.pr_function_laws.specs.Runs.{functions_on}
use Rattle.pr_function_laws.specs.Leaving.{AsksAgain, Directs, HaltStep, Waits}
use Rattle.pr_function_laws.specs.Leaving.{WaitsAgain, halt_next}
use Rattle.pr_function_laws.specs.Lifted.{HasControl, IsNoRead, ReadsOnlyLast}
use Rattle.pr_function_laws.specs.ReachedRuns.{IsReachedFunctionRun}
use Rattle.pr_function_laws.specs.Opened.{IsFunctionRun, TracesAll, functions_at}
use Rattle.pr_function_laws.specs.Ordinary as beside
use Rattle.pr_function_laws.specs.Ordinary.{IsLike, IsTakenUp, SeesTo, ordinary}
use Rattle.pr_function_laws.specs.Soon.{IsCalm, may_wait}
use Rattle.pr_function_laws.specs.Stretches.{OthersOnlyStop, acts_by, elsewhere}

-- Where truss is interrupted while it steps an lwp, no other lwp of the process moves until truss closes its control
-- file.

-- ---- how the first process stands

-- once it was directed it stands still, or will
first-halting : (stage : Stage) (aside : Aside) (p : TracedProcess) → stage ≢ Unfollowing → StoodFirst stage aside p
    → IsHalting p
first-halting Unfollowing aside p other h = absurd (other refl)
first-halting ReadingLwps aside p other h = by aside h
  where
    by : (aside : Aside) → StoodFirst ReadingLwps aside p → IsHalting p
    by (AwaitingStop until) h = h.1
    by Asking h = h
    by (AwaitingAgain until) h = h.1
    by _ h = still-halts p h
first-halting _ aside p other h = still-halts p h

-- what comes of a step of its stop is no first step
next-directed : (step : HaltStep) (r : Reply) (a : Told) (v : TrussState) → IsAtNext v (halt_next step r a)
    → v.stage ≢ Unfollowing
next-directed step r Gone v at is = cc
next-directed step r Interrupted v at is = cc
next-directed step r (Refused e) v at is = cc
next-directed Directs r Accepted v at is = cc
next-directed (Waits until) r Accepted v at is = cc
next-directed AsksAgain r Accepted v at is = cc
next-directed (WaitsAgain until) r Accepted v at is = cc

-- each process of this id that it traces was attached
abbrev pub AreAttached : ℕ → TrussState → Type 0
AreAttached pid t = (q : ℕ) → q < length t.traced → (traced_at t q).pid ≡ pid → (traced_at t q).attached ≡ true

-- ---- a call of truss that leaves

module _ (n k : ℕ) (o : Options) (t : TrussState) (s : TracedState) (g : IsLeaving (Unit {0}) k o t s)
    (files : HasFiles k (ordinary t) s) (e : Entry) (legal : IsLegalEntry n s e) (bytes : Unit {0} → IsEntryOfBytes e)
    (x : Exchange) (own : IsOwnEntry k s e x) (next : next_function_call_of t ≡ Some x.call)
    (has : has_functions t.options ≡ true) (follow : t.options.follow ≡ false) (pid id number : ℕ)
    (its : HasControl k pid number s) (attached : AreAttached pid t) (goes : Goes pid id s.system)
    (there : (q : ℕ) × ((q < length (fed_functions t x.reply).traced)
    × ((traced_at (fed_functions t x.reply) q).pid ≡ pid))) where
  abbrev v : TrussState
  v = fed_functions t x.reply

  left_now : IsLeaving (Unit {0}) k o v (after s e)
  left_now = own-leaving (Unit {0}) n k o t s g files e legal bytes x own next has follow

  went : LeavesOn t x.reply g.at v
  went = behind-it (Unit {0}) n k o t s g files e legal bytes x own next has follow

  made : pid < s.system.made
  made = control-made k pid number s g.lawful its

  same-goes : (let a = own.answer in a.state.system ≡ s.system) → Goes pid id (after s e).system
  same-goes same =
      subst (Goes pid id) (sym same ∙ ap (λ (u : TracedState). u.system) own.later) goes

  apart-goes : (traced_at t 0).pid ≢ pid
      → ((m : ℕ) (held : Held) → acts_by x.call ≡ Some m → handle_of s.opens k m ≡ Some held
      → held.pid ≡ (traced_at t 0).pid) → Goes pid id (after s e).system
  apart-goes differs acts =
      stretch.call-goes n k pid id number s g.lawful (control-sole k pid number s g.lawful its) made e legal goes x.call
      own.answer own.is (ap (λ (u : TracedState). u.system) own.later)
      (elsewhere (λ m held named held_so same. differs (sym (acts m held named held_so) ∙ same)))

  -- it was directed, and truss has it still
  directed-goes : 0 < length v.traced → (traced_at v 0).pid ≡ pid → (traced_at v 0).attached ≡ true
      → v.stage ≢ Unfollowing → Goes pid id (after s e).system
  directed-goes some pid_is on other = by (live_process (after s e).system pid) refl
    where
      by : (y : Option TracedProcess) → live_process (after s e).system pid ≡ y → Goes pid id (after s e).system
      by None none =
          stretch.ends none
          (stretch.made-after n k pid id number s g.lawful (control-sole k pid number s g.lawful its) made e legal)
      by (Some p) live =
          let here : live_process (after s e).system (traced_at v 0).pid ≡ Some p =
          ap (live_process (after s e).system) pid_is ∙ live in
          let l = left_now in
          let set : IsSetBy o None p = l.sets 0 some on p here in
          let traces : TracesAll o p.control = set.0 in
          stretch.halts p live (first-halting v.stage v.aside p other (l.first some on p here)) traces.stops

  shared : Shares t v → AreAttached pid v
  shared w q within is =
      w.attached q ∙ attached q (subst (λ m. q < m) w.many within) (sym (w.pids q) ∙ is)

  by-went : {w : IsLeft t} → Went t x.reply v w → Goes pid id (after s e).system × AreAttached pid v
  by-went (halted step at some same to) = (
    elim (cases_eq (traced_at t 0).pid pid) [
      | inl is ↦
          let here : traced_at v 0 ≡ traced_at t 0 = same_place 0 in
          directed-goes (subst (λ (ts : List Traced). 0 < length ts) (sym same) some)
          (ap (λ (u : Traced). u.pid) here ∙ is)
          (ap (λ (u : Traced). u.attached) here ∙ attached 0 some is)
          (next-directed step x.reply (answer_of x.reply) v to)
      | inr differs ↦ apart-goes differs
          (step-acts (Unit {0}) n k o t s g files e legal bytes x own next has follow step
          (step-call (Unit {0}) n k o t s g files e legal bytes x own next has follow step at) some)
    ],
    λ q within is.
        ap (λ (u : Traced). u.attached) (same_place q)
        ∙ attached q (subst (λ (ts : List Traced). q < length ts) same within)
        (ap (λ (u : Traced). u.pid) (sym (same_place q)) ∙ is),
  )
    where
      same_place : (q : ℕ) → traced_at v q ≡ traced_at t q
      same_place q = ap (λ (ts : List Traced). at_place ts q) same
  by-went (looked at some look f _) =
      (same-goes (look-same (Unit {0}) n k o t s g files e legal bytes x own next has follow at), shared f.shares)
  by-went (has_read l from len at some f _) = (
    same-goes (text-same (Unit {0}) n k o t s g files e legal bytes x own next has follow l from len at),
    shared f.shares,
  )
  by-went (loses u at some is f _) = (
    same-goes (lose-same (Unit {0}) n k o t s g files e legal bytes x own next has follow u at some is),
    shared f.shares,
  )
  by-went (patched clear at some f _) = (
    elim (cases_eq (traced_at t 0).pid pid) [
      | inl is ↦
          let shares = f.shares in
          directed-goes f.within (shares.pids 0 ∙ is) (shares.attached 0 ∙ attached 0 some is)
          (λ stage_is. false≢true (sym (ap is_looked stage_is) ∙ f.looked_at))
      | inr differs ↦ apart-goes differs
          (control-acts (Unit {0}) n k o t s g files e legal bytes x own next has follow some
          (patch-acts (Unit {0}) n k o t s g files e legal bytes x own next has follow clear at))
    ],
    shared f.shares,
  )
  by-went (ended at some none same to) =
      let w = went in
      let place = λ (q : ℕ).
      there-is (Unit {0}) n k o t s g files e legal bytes x own next has follow at some same to w q in
      let inside = λ (q : ℕ) (less : q < length v.traced).
      behind-at (Unit {0}) n k o t s g files e legal bytes x own next has follow at some same to w q less in (
        elim (cases_eq (traced_at t 0).pid pid) [
          | inl is ↦
              absurd (its-apart k t s files (there.0 + 1) 0 (inside there.0 there.1.0) some
              (λ zero_q. absurd (omega (arith, zero_q)))
              (ap (λ (u : Traced). u.pid) (sym (place there.0)) ∙ there.1.1 ∙ sym is))
          | inr differs ↦ apart-goes differs
              (close-acts (Unit {0}) n k o t s g files e legal bytes x own next has follow at some same to w)
        ],
        λ q within is.
            ap (λ (u : Traced). u.attached) (place q)
            ∙ attached (q + 1) (inside q within) (ap (λ (u : Traced). u.pid) (sym (place q)) ∙ is),
      )

  pub call-goes : Goes pid id (after s e).system × AreAttached pid v
  call-goes = let w = went in by-went w.went

-- ---- a history

module _ (n k : ℕ) (o : Options) (s : TracedState) (h : List Entry) (run : IsReachedFunctionRun n k o s h)
    (pid id number : ℕ) where
  abbrev T : List Entry → TrussState
  T front = functions_at k o front

  abbrev S : List Entry → TracedState
  S front = state_after s front

  abbrev Left : List Entry → Type 0
  Left f = IsLeaving (Unit {0}) k o (T f) (S f)

  no-freed : (c : ℕ) (t : TrussState) → IsLeft t → of_stage pid c t.stage ≡ 0
  no-freed c t (halts at idle within) = ap (of_stage pid c) at
  no-freed c t (awaits until at beside within) = ap (of_stage pid c) at
  no-freed c t (asks at beside within) = ap (of_stage pid c) at
  no-freed c t (waits_again until at beside within) = ap (of_stage pid c) at
  no-freed c t (looks at idle within) = ap (of_stage pid c) at
  no-freed c t (reads_text l from len at idle within) = ap (of_stage pid c) at
  no-freed c t (lifts_all clear at beside within) = ap (of_stage pid c) at
  no-freed c t (closes_files at idle within) = ap (of_stage pid c) at
  no-freed c t (has_ended at idle) = ap (of_stage pid c) at

  -- a process of which truss has the control file open is one that it traces still
  traced-left : (f later : List Entry) → h ≡ f ++ later → IsLeft (T f) → HasControl k pid number (S f)
      → (q : ℕ) × ((q < length (T f).traced) × ((traced_at (T f) q).pid ≡ pid))
  traced-left f later is at its =
      traced-owned n k o s h run.of f later is pid number its (no-freed number (T f) at)

  -- ---- the entries behind the interrupt

  module _ (f : List Entry) (d : Entry) (later : List Entry) (is : h ≡ f ++ d ∷ later) (g : Left f)
      (attached : AreAttached pid (T f)) (goes : Goes pid id (S f).system) (its : HasControl k pid number (S f)) where
    abbrev next : List Entry
    next = f ++ d ∷ []

    legal_here : IsLegalEntry n (S f) d
    legal_here = entry-legal (Unit {0}) n k o s h run.of (λ r. run.reached) (λ r. run.bytes) f d later is

    made_here : pid < (S f).system.made
    made_here = control-made k pid number (S f) g.lawful its

    fit : IsFitSystem (S f).system
    fit = let r = g.reached tt in r.fit

    -- another lwp only stops
    pub others-stop : (other : ℕ) (turned : Turned) → d ≡ record { actor = Lwp pid other; act = act.Turn turned }
        → other ≢ id → turned ≡ record { did = Stopped; stop = false }
    others-stop other turned same differs =
        stretch.turn-stops n k pid id number (S f) g.lawful
        (control-sole k pid number (S f) g.lawful its) made_here fit other turned
        (subst (IsLegalEntry n (S f)) same legal_here) goes differs

    now-is : S next ≡ after (S f) d
    now-is = state-next (Unit {0}) n k o s h run.of (λ r. run.reached) (λ r. run.bytes) f d later is

    truss-is : (y : Option Exchange) → exchange_of k d ≡ y → T next ≡ functions_on (T f) y
    truss-is y own =
        truss-next (Unit {0}) n k o s h run.of (λ r. run.reached) (λ r. run.bytes) f d later is
        ∙ ap (functions_on (T f)) own

    pub left-on : Left next
    left-on = leaving-next (Unit {0}) n k o s h run.of (λ r. run.reached) (λ r. run.bytes) f d later is g

    pub goes-on : HasControl k pid number (S next) → Goes pid id (S next).system × AreAttached pid (T next)
    goes-on still_open = by (exchange_of k d) refl
      where
        by : (y : Option Exchange) → exchange_of k d ≡ y → Goes pid id (S next).system × AreAttached pid (T next)
        by None none = (
          subst (λ (u : TracedState). Goes pid id u.system) (sym now-is)
              (stretch.actor-goes n k pid id number (S f) g.lawful
              (control-sole k pid number (S f) g.lawful its) made_here fit d.actor d.act legal_here
              (λ x own. absurd (none-some x (sym none ∙ own))) goes),
          subst (AreAttached pid) (sym (truss-is None none)) attached,
        )
        by (Some x) own =
            let v_is = truss-is (Some x) own in
            let l = left-on in
            let w =
            call-goes n k o (T f) (S f) g
            (files-at (Unit {0}) n k o s h run.of (λ r. run.reached) (λ r. run.bytes) f (d ∷ later) is) d legal_here
            (entry-bytes (Unit {0}) n k o s h run.of (λ r. run.reached) (λ r. run.bytes) f d later is) x
            (own-entry n k (S f) d x legal_here own)
            (makes-there (Unit {0}) n k o s h run.of (λ r. run.reached) (λ r. run.bytes) f d later is x own)
            (has-there (Unit {0}) n k o s h run.of (λ r. run.reached) (λ r. run.bytes) f d later is)
            (follow-there (Unit {0}) n k o s h run.of (λ r. run.reached) (λ r. run.bytes) f d later is) pid id number
            its attached goes
            (subst (λ (u : TrussState). (q : ℕ) × ((q < length u.traced) × ((traced_at u q).pid ≡ pid))) v_is
            (traced-left next later (is ∙ sym (append_assoc f (d ∷ []) later)) l.at still_open)) in (
              subst (λ (u : TracedState). Goes pid id u.system) (sym now-is) w.0,
              subst (AreAttached pid) (sym v_is) w.1,
            )

  -- what is asked of the rest of a history
  abbrev Open : List Entry → List Entry → Type 0
  Open f behind =
      (front rest : List Entry) (d : Entry) → behind ≡ front ++ d ∷ rest → HasControl k pid number (S (f ++ front))

  held-now : (f : List Entry) (d : Entry) (rest : List Entry) → Open f (d ∷ rest) → HasControl k pid number (S f)
  held-now f d rest still_open =
      subst (λ (es : List Entry). HasControl k pid number (S es)) (append-nil f) (still_open [] rest d refl)

  none-there : (front : List Entry) (d : Entry) (rest : List Entry) → [] ≡ front ++ d ∷ rest → ⊥
  none-there [] d rest is = cc
  none-there (x ∷ front) d rest is = cc

  pub stays-alone : (behind f later : List Entry) → h ≡ f ++ (behind ++ later) → Left f → Open f behind
      → (HasControl k pid number (S f) → Goes pid id (S f).system × AreAttached pid (T f))
      → OthersOnlyStop pid id behind
  stays-alone [] f later is g still_open so = record {
    each = λ before rest other t there differs. absurd (none-there before _ rest there);
  }
  stays-alone (d ∷ behind) f later is g still_open so =
      let its = held-now f d behind still_open in
      let w = so its in
      let rest : OthersOnlyStop pid id behind =
      stays-alone behind (f ++ d ∷ []) later (is ∙ sym (append_assoc f (d ∷ []) (behind ++ later)))
      (left-on f d (behind ++ later) is g w.1 w.0 its)
      (λ front after_it c there.
      subst (λ (es : List Entry). HasControl k pid number (S es)) (sym (append_assoc f (d ∷ []) front))
      (still_open (d ∷ front) after_it c (ap (λ (es : List Entry). d ∷ es) there)))
      (goes-on f d (behind ++ later) is g w.1 w.0 its) in
      record {
        each = λ before after_it other t there differs. by its w.1 w.0 rest before after_it other t there differs;
      }
    where
      by : HasControl k pid number (S f) → AreAttached pid (T f) → Goes pid id (S f).system
          → OthersOnlyStop pid id behind → (before rest : List Entry) (other : ℕ) (t : Turned)
          → d ∷ behind ≡ before ++ record { actor = Lwp pid other; act = act.Turn t } ∷ rest → other ≢ id
          → t ≡ record { did = Stopped; stop = false }
      by its attached goes others [] rest other t there differs =
          others-stop f d (behind ++ later) is g attached goes its other t (stretch.head-same d _ behind rest there)
          differs
      by its attached goes others (c ∷ before) rest other t there differs =
          others.each before rest other t (stretch.tail-same d c behind _ there) differs

-- ---- the call that is interrupted

-- A read is not interrupted; so none of these calls was.
quiet-until : (status : ℕ) (xs : List Exchange) → ReadsOnlyLast status xs → All IsCalm xs → All WasNotInterrupted xs
quiet-until status [] reads calm = All-nil WasNotInterrupted
quiet-until status (x ∷ xs) (inl w) calm =
    All-cons WasNotInterrupted x xs (let none : IsNoRead status x = w.0 in record { unbroken = none.no_interrupt })
    (quiet-until status xs w.1 (All-tail IsCalm x xs calm))
quiet-until status (x ∷ xs) (inr w) calm =
    subst (λ ys. All WasNotInterrupted (x ∷ ys)) (sym w.1)
    (All-cons WasNotInterrupted x []
    (record {
      unbroken = λ broken.
          let still : IsCalm x = All-head IsCalm x xs calm in
          false≢true (sym (ap may_wait w.0) ∙ still.waits broken);
    }) (All-nil WasNotInterrupted))

-- where truss polls its exchange is a poll
poll-like : (t : TrussState) (handles : List ℕ) (x y : Exchange) → t.stage ≡ Polling → IsLike t x y
    → y.call ≡ call.Poll handles → x.call ≡ call.Poll handles
poll-like t handles x y at (beside.same unsent none_own) is = is
poll-like t handles x y at (beside.in_place {d = d} stands) is =
    let sent = stands-sends stands in absurd (false≢true (sym (ap sends is) ∙ sent.1))
poll-like t handles x y at (beside.refused {errno = errno} sees may due) is =
    absurd (subst (λ stage. IsTakenUp stage errno) at may)
poll-like t handles x y at (beside.own_fault own) is = cc

poll-made : (t : TrussState) (x : Exchange) → t.stage ≡ Polling → Turn t x
    → (handles : List ℕ) × (x.call ≡ call.Poll handles)
unfolding next_call_of call_of
poll-made t x at (goes_out sees over stay) = absurd (subst (λ stage. SeesTo t stage x.call) at sees)
poll-made t x at (goes_on y like called now) =
    let handles : List ℕ = map (λ (u : Traced). u.control) (ordinary t).traced in (
      handles,
      poll-like t handles x y at like
          (same_Some y.call (call.Poll handles) (sym called ∙ ap (λ stage. call_of (ordinary t) stage) at)),
    )

-- ---- the interrupt

module _ (n k : ℕ) (o : Options) (s : TracedState) (h : List Entry) (run : IsReachedFunctionRun n k o s h)
    (before until behind later : List Entry) (e c : Entry) (place id : ℕ)
    (is : h ≡ (before ++ e ∷ until) ++ c ∷ (behind ++ later)) (calm : All WasNotInterrupted (exchanges k before))
    (w : IsLeftAtStep k o s before until behind e c place id) where
  abbrev f : List Entry
  f = before ++ e ∷ until

  abbrev pid : ℕ
  pid = (traced_at (functions_at k o before) place).pid

  is-front : h ≡ before ++ e ∷ (until ++ c ∷ (behind ++ later))
  is-front = is ∙ append_assoc before (e ∷ until) (c ∷ (behind ++ later))

  read-quiet : WasNotInterrupted (let r = w.reads in r.x)
  read-quiet =
      let r = w.reads in
      let m = r.meets in
      record {
        unbroken = λ broken. let d : Interrupted ≡ Accepted = sym (broken-answer r.x broken) ∙ m.accepted in cc;
      }

  until-quiet : All WasNotInterrupted (exchanges k until)
  until-quiet =
      let r = w.reads in
      let legal =
      legal-at (Unit {0}) n k o s h run.of (λ x. run.reached) (λ x. run.bytes) before
      (e ∷ (until ++ c ∷ (behind ++ later))) is-front in
      quiet-until (status-handle n k o s h run before until (c ∷ (behind ++ later)) e place id is-front
      calm r)
      (exchanges k until)
      (r.reads_last _
      (handle-is n k o s h run before until (c ∷ (behind ++ later)) e place id is-front calm r))
      (calm-exchanges until n k (after (state_after s before) e)
      (legal-front n (after (state_after s before) e) until (c ∷ (behind ++ later)) legal.1))

  -- up to the interrupt it was not interrupted
  calm-front : All WasNotInterrupted (exchanges k f)
  calm-front =
      let r = w.reads in
      subst (All WasNotInterrupted) (sym (exchanges-both k before (e ∷ until)))
      (All-append WasNotInterrupted (exchanges k before) (exchanges k (e ∷ until)) calm
      (subst (All WasNotInterrupted)
      (sym (cons-exchanges k e until ∙ ap (λ y. cons_option y (exchanges k until)) r.own))
      (All-cons WasNotInterrupted r.x (exchanges k until) read-quiet until-quiet)))

  run-there : IsFunctionRun n k o s (f ++ c ∷ (behind ++ later))
  run-there = subst (IsFunctionRun n k o s) is run.of

  -- It is in a poll. The only other call that waits is that of an opening, and where truss has read the status of a
  -- process it has polled, and opens none any more.
  at-poll : (functions_at k o f).stage ≡ Polling
  at-poll = by b.waits
    where
      b : BeginsToLeave (functions_at k o f) (fed_functions (functions_at k o f) w.x.reply)
      b = begins n k o s h run pid f c (behind ++ later) is calm-front w.x w.own w.interrupted

      polled : All IsGoingOn (exchanges k before) → ⊥
      polled =
          let r = w.reads in
          let m = r.meets in
          subst (Going (exchanges k before)) m.reads
          (entries.going n k o s before (until ++ c ∷ (behind ++ later)) e
          (subst (IsFunctionRun n k o s) is-front run.of))

      by : WaitsAt (functions_at k o f) → (functions_at k o f).stage ≡ Polling
      by (polls at) = at
      by (awaits_opening q stop at) =
          let all : All IsGoingOn (exchanges k f) =
          subst (Going (exchanges k f)) at (entries.going n k o s f (behind ++ later) c run-there) in
          absurd
          (polled
          (all-front IsGoingOn (exchanges k before) (exchanges k (e ∷ until))
          (subst (All IsGoingOn) (exchanges-both k before (e ∷ until)) all)))

  polls-there : (handles : List ℕ) × (w.x.call ≡ call.Poll handles)
  polls-there =
      poll-made (functions_at k o f) w.x at-poll (entries.turned n k o s f (behind ++ later) c run-there w.x w.own)

  begun : IsLeaving (Unit {0}) k o (functions_at k o (f ++ c ∷ [])) (state_after s (f ++ c ∷ []))
  begun =
      begins-next (Unit {0}) n k o s h run.of (λ r. run.reached) (λ r. run.bytes) f c (behind ++ later) is calm-front
      w.x w.own w.interrupted

  goes-front : Goes pid id (state_after s f).system
  goes-front =
      subst (λ (u : TracedState). Goes pid id u.system) (sym (state_after-both s before (e ∷ until)))
      (alone-goes n k o s h run before until (c ∷ (behind ++ later)) e place id is-front calm w.reads)

  goes-begun : Goes pid id (state_after s (f ++ c ∷ [])).system
  goes-begun =
      subst (Goes pid id)
      (sym (system-is n k o s h run pid f c (behind ++ later) is calm-front w.x w.own w.interrupted))
      goes-front

  attached-begun : AreAttached pid (functions_at k o (f ++ c ∷ []))
  attached-begun =
      subst (AreAttached pid)
      (sym (v-is n k o s h run pid f c (behind ++ later) is calm-front w.x w.own w.interrupted))
      (λ q within its.
      let t : TrussState = functions_at k o f in
      let b : BeginsToLeave t (fed_functions t w.x.reply) =
      begins n k o s h run pid f c (behind ++ later) is calm-front w.x w.own w.interrupted in
      let shares = b.shares in
      let g : Runs (Unit {0}) k o t (state_after s f) =
      goes-there (Unit {0}) n k o s h run.of (λ r. run.reached) (λ r. run.bytes) f c (behind ++ later) is calm-front in
      let a : IsAttached (traced_at (ordinary t) q) =
      opened-attached n k o s f (c ∷ (behind ++ later)) pid (subst (IsFunctionRun n k o s) is run.of)
      (IsSo (Unit {0}) k t.options (state_after s f)) g.kept q (subst (λ m. q < m) shares.many within)
      (ap (λ (x : Stage). is_opened x q) at-poll) in
      shares.attached q ∙ ap (λ (u : Traced). u.attached) (sym (at-ordinary t q)) ∙ a.attached)

  left-alone-there : OthersOnlyStop pid id behind
  left-alone-there =
      stays-alone n k o s h run pid id (traced_at (functions_at k o before) place).control behind
      (f ++ c ∷ []) later (is ∙ sym (append_assoc f (c ∷ []) (behind ++ later))) begun w.keeps_open
      (λ its. (goes-begun, attached-begun))

pub is-left-alone : (n k : ℕ) (o : Options) (s : TracedState) (h : List Entry) → IsReachedFunctionRun n k o s h
    → IsLeftAlone k o s h
is-left-alone n k o s h run = record {
  polls = λ before until behind later e c place id is calm w.
      polls-there n k o s h run before until behind later e c place id is calm w;
  each = λ before until behind later e c place id is calm w.
      left-alone-there n k o s h run before until behind later e c place id is calm w;
}

pub ruleset left_alone = (is-left-alone)
