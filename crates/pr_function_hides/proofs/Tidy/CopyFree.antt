use Rattle.std.proofs.Common.{◌≡◌, ◌≢◌, ◌⊎◌, ◌<◌, ◌==◌, ◌++◌, ℕ, Bool, true, false, cond, Some, None, Option, List, []}
use Rattle.std.proofs.Common.{◌∷◌, length, refl, sym, subst, ap, ◌∙◌, inl, inr}
use Rattle.std.proofs.lemmas.Bool.{eq-eqb, eqb-true, false≢true}
use Rattle.std.proofs.lemmas.List.Elements.{All-cons, All-head, All-nil}
use Rattle.std.proofs.lemmas.Option.{none-some, same_Some}
use Rattle.std.specs.List.{All, cons_option}
use Rattle.pr_api.specs.Entries.{call_entry}
use Rattle.pr_hidden.specs.Covers.{Covers, Patch}
use Rattle.pr_hidden.specs.Hiders.{Hiders, covers_at, hides}
use Rattle.pr_line.specs.declared.options.Options.{Options}
use Rattle.pr_model.specs.Legal.{IsLegal, IsLegalEntry, state_after}
use Rattle.pr_model.specs.LwpTurns.{turn_of}
use Rattle.pr_model.specs.Handles.{handle_of}
use Rattle.pr_model.specs.State.{TracedProcess, TracedState, live_process}
use Rattle.pr_model.specs.declared.handles.Held.{Held}
use Rattle.pr_model.specs.declared.calls.Call.{Call}
use Rattle.pr_model.specs.declared.calls.Reply.{Reply}
use Rattle.pr_model.specs.declared.calls.Reply.TheVariants as reply
use Rattle.pr_num.specs.declared.errnos.Errno.TheVariants.{Intr}
use Rattle.pr_model.specs.declared.events.Act.{Act}
use Rattle.pr_model.specs.declared.events.Act.TheVariants as act
use Rattle.pr_model.specs.declared.events.Actor.{Actor}
use Rattle.pr_model.specs.declared.events.Actor.TheVariants.{Controller, Lwp}
use Rattle.pr_model.specs.declared.events.Entry.{Entry}
use Rattle.pr_model.specs.declared.events.Turned.{Turned}
use Rattle.pr_reached.specs.ByteHistories.{HasBytes}
use Rattle.pr_report_laws.proofs.Files.WatchHistories.{cons-exchanges, exchanges-both, no-exchanges}
use Rattle.pr_reached.specs.Reached.{IsReached}
use Rattle.pr_tool_laws.specs.OwnCalls.{AreOwnCalls}
use Rattle.pr_truss.specs.Asides.{marks_at}
use Rattle.pr_truss.specs.FunctionEvents.{function_event}
use Rattle.pr_truss.specs.Trusses.{TrussState, first_truss, traced_at}
use Rattle.pr_truss.specs.declared.marks.Stepped.{Stepped}
use Rattle.pr_truss.specs.declared.stages.Stage.TheVariants.{ReadingStatus}
use Rattle.pr_truss_laws.proofs.Files.HeldLemmas.{of_stage}
use Rattle.pr_truss_laws.specs.Exchanges.{Exchange, exchange_in, exchange_of, exchanges}
use Rattle.pr_world.specs.ControllerStates.{ControllerState, FnTruss}
use Rattle.pr_world.specs.Protocol.{controllers_after}
use Rattle.pr_function_laws.proofs.Marks.KeptPlaces.{Kept as KeptPlaces}
use Rattle.pr_function_laws.proofs.Pending.KnownFiles.{Knows}
use Rattle.pr_function_laws.proofs.LeavingProcesses.LeavingLaws.{calm-exchanges}
use Rattle.pr_function_laws.proofs.NextCalls.MarkedFlags.{is_waiting, no-flags-at-read, no-flags-at-wait}
use Rattle.pr_function_laws.proofs.Marks.SoundLemmas.{first-sound}
use Rattle.pr_function_laws.proofs.OpenedProcesses.OpenedLaws.{Goes, before-goes, bytes-front}
use Rattle.pr_function_laws.specs.Opened.{IsFunctionRun, WasNotInterrupted, functions_at}
use Rattle.pr_function_laws.specs.ReachedRuns.{IsReachedFunctionRun}
use Rattle.pr_function_laws.specs.Runs.{MakesFunctionCalls}
use Rattle.pr_function_laws.specs.Soon.{IsCalm}
use Rattle.pr_function_hides.proofs.Files.CallFacts.{legal-here, same-truss}
use Rattle.pr_function_hides.proofs.Copying.CopyPlaces.{CopiesSo}
use Rattle.pr_function_hides.proofs.LeavingCopies.CopyHistory.{finds-so, stays-calm}
use Rattle.pr_function_hides.proofs.Copying.CopyWalk.{stands-after}
use Rattle.pr_function_hides.proofs.Replies.LeavingStages.{TellsLast}
use Rattle.pr_function_hides.proofs.Files.OwnRuns.{function-stays}
use Rattle.pr_function_hides.proofs.Tidy.TidyKept.{Course, Holder, Kept, Lives, Truss, goes_on, leaves_them}
use Rattle.pr_function_hides.proofs.Files.TracedHandles.{handle-traced, left-freed, none-freed}
use Rattle.pr_function_hides.specs.Copying.{IsEmpty, makes_copy}
use Rattle.pr_function_hides.specs.FunctionHiders.{AreTrusses, IsMarked, IsTrussAt}
use Rattle.pr_function_hides.specs.LiftedCopies.{CopiesFindNone, OpensOutOfCopies}
use Rattle.pr_function_hides.specs.RunsOfTrusses.{IsRunOfTrusses}
use Rattle.pr_function_hides.specs.TidyWrites.{IsTrussAfter}
use Rattle.pr_function_hides.proofs.Replies.ToldReplaced.{TellsReplaced}
use Rattle.pr_function_hides.proofs.Files.YoungOpenings.{Young}

-- A fork, a vfork and an exec that is granted finds no breakpoint of those who hide, and neither does the read of the
-- exit of a vfork or an exec that was.

-- where no function is marked, no breakpoint stands
pub none-marked : (o : Options) (set : List Bool) (ps : List Patch) → IsEmpty set → All (IsMarked o set) ps → ps ≡ []
none-marked o set [] none all = refl
none-marked o set (p ∷ ps) none all =
    let m = All-head (IsMarked o set) p ps all in
    absurd (false≢true (sym (none m.function) ∙ m.marked))

-- ---- an exchange of a controller, and its entry

pub entry-is : (k : ℕ) (e : Entry) (x : Exchange) → exchange_of k e ≡ Some x → e ≡ call_entry k x.call x.reply
entry-is k e x own = by e.actor e.act own
  where
    by : (actor : Actor) (did : Act) → exchange_in k actor did ≡ Some x
        → record { actor = actor; act = did } ≡ call_entry k x.call x.reply
    by (Controller j) (act.Call c r) is = mine (j == k) refl is
      where
        mine : (b : Bool) → (j == k) ≡ b → cond b (Some (record { call = c; reply = r })) None ≡ Some x
            → record { actor = Controller j; act = act.Call c r } ≡ call_entry k x.call x.reply
        mine true same found =
            let it = same_Some (record { call = c; reply = r }) x found in
            ap (λ i. call_entry i c r) (eqb-true j k same)
            ∙ ap (λ (y : Exchange). call_entry k y.call y.reply) it
        mine false other found = absurd (none-some x found)
    by (Controller j) (act.Turn turned) is = absurd (none-some x is)
    by (Controller j) (act.Tick moment) is = absurd (none-some x is)
    by (Lwp pid id) did is = absurd (none-some x is)
    by _ did is = absurd (none-some x is)

first-options : (o : Options) → (first_truss o).options ≡ o
first-options o =
    let sound = first-sound o (λ (step : Stepped). Unit {0}) in let names = sound.names in names.options

own-front : (controllers : List ControllerState) (front back : List Entry) → AreOwnCalls controllers (front ++ back)
    → AreOwnCalls controllers front
own-front controllers [] back own = tt
own-front controllers (e ∷ front) back own = (own.0, own-front (controllers_after controllers e) front back own.1)

-- ---- a truss that hides

-- its options
abbrev pub options-of : {who : Hiders} {controllers : List ControllerState} {first : TracedState}
    → AreTrusses who controllers first → (k : ℕ) → hides who k ≡ true → Options
options-of are k hider = let i = are.trusses k hider in i.options

module _ {n : ℕ} {who : Hiders} {controllers : List ControllerState} {first : TracedState} {h : List Entry}
    (legal : IsLegal n first h) (reached : IsReached first) (own_calls : AreOwnCalls controllers h)
    (are : AreTrusses who controllers first) (k : ℕ) (hider : hides who k ≡ true) where
  pub function-run : IsFunctionRun n k (options-of are k hider) first h
  function-run =
      let i = are.trusses k hider in
      record {
        has = i.has;
        follows_none = i.follows_none;
        lawful = reached.lawful;
        nothing_open = are.begins k hider;
        legal = legal;
        makes = (function-stays h controllers k (first_truss i.options) i.starts own_calls).0;
      }

-- it is where its replies have brought it
module _ {who : Hiders} {controllers : List ControllerState} {first : TracedState} {h : List Entry}
    (own_calls : AreOwnCalls controllers h) (are : AreTrusses who controllers first) (k : ℕ)
    (hider : hides who k ≡ true) where
  truss-at : (front back : List Entry) → h ≡ front ++ back
      → IsTrussAfter who controllers first h front k (functions_at k (options-of are k hider) front)
  truss-at front back place =
      let i = are.trusses k hider in
      (function-stays front controllers k (first_truss i.options) i.starts
      (own-front controllers front back (subst (AreOwnCalls controllers) place own_calls))).1

  pub truss-is : (front back : List Entry) → h ≡ front ++ back → (t : TrussState)
      → IsTrussAfter who controllers first h front k t → t ≡ functions_at k (options-of are k hider) front
  truss-is front back place t is =
      same t (functions_at k (options-of are k hider) front) (sym is ∙ truss-at front back place)
    where
      same : (a b : TrussState) → Some (FnTruss a) ≡ Some (FnTruss b) → a ≡ b
      same a b e = cc

-- no exchange of a controller was interrupted if no call of it was
pub unbroken-calm : (k : ℕ) (front : List Entry)
    → ((before between : List Entry) (c : Call) (r : Reply) → front ≡ before ++ call_entry k c r ∷ between
    → r ≢ reply.Fail Intr) → All WasNotInterrupted (exchanges k front)
unbroken-calm k [] unbroken = subst (All WasNotInterrupted) (sym (no-exchanges k)) (All-nil WasNotInterrupted)
unbroken-calm k (e ∷ front) unbroken =
    subst (All WasNotInterrupted) (sym (cons-exchanges k e front))
    (by (exchange_of k e) refl
    (unbroken-calm k front (λ before between c r is. unbroken (e ∷ before) between c r (ap (λ es. e ∷ es) is))))
  where
    by : (x : Option Exchange) → exchange_of k e ≡ x → All WasNotInterrupted (exchanges k front)
        → All WasNotInterrupted (cons_option x (exchanges k front))
    by None own rest = rest
    by (Some x) own rest =
        All-cons WasNotInterrupted x (exchanges k front)
        (record {
          unbroken = unbroken [] front x.call x.reply (ap (λ (y : Entry). y ∷ front) (entry-is k e x own));
        }) rest

module _ {n : ℕ} {who : Hiders} {controllers : List ControllerState} {first : TracedState}
    {h : List Entry} (run : IsRunOfTrusses n who controllers first h) where
  abbrev at : List Entry → Covers
  at front = covers_at who first front

  abbrev now : List Entry → TracedState
  now front = state_after first front

  abbrev pub run-options : (k : ℕ) → hides who k ≡ true → Options
  run-options k hider = options-of run.are k hider

  module _ (k : ℕ) (hider : hides who k ≡ true) where
    abbrev its-run : IsFunctionRun n k (run-options k hider) first h
    its-run = function-run run.legal run.reached run.own_calls run.are k hider

    -- each state of it is reached
    abbrev pub reached-run : IsReachedFunctionRun n k (run-options k hider) first h
    reached-run = record { of = its-run; reached = run.reached; bytes = run.bytes }

    pub opens-out : OpensOutOfCopies k (run-options k hider) first h
    opens-out = record {
      out = λ front back e x place until p at own waits accepted live.
          let there : h ≡ front ++ call_entry k x.call x.reply ∷ back =
          at ∙ ap (λ (y : Entry). front ++ y ∷ back) (entry-is k e x own) in
          run.undisturbed.opens_out front back k place until x.call x.reply (functions_at k (run-options k hider) front)
          p there
          hider
          (truss-at run.own_calls run.are k hider front (call_entry k x.call x.reply ∷ back)
          there) waits accepted live;
    }

    finds : CopiesFindNone k (run-options k hider) first h
    finds = finds-so n k (run-options k hider) first h reached-run opens-out

    -- as long as it does not leave its processes it was not interrupted
    pub calm-on : (front back : List Entry) → h ≡ front ++ back → (t : TrussState)
        → IsTrussAfter who controllers first h front k t → t.leaving ≡ false
        → All WasNotInterrupted (exchanges k front)
    calm-on front back place t is off =
        stays-calm n k (run-options k hider) first h reached-run opens-out front back place
        (subst (λ (u : TrussState). u.leaving ≡ false) (truss-is run.own_calls run.are k hider front back place t is)
        off)

    -- and where it was not interrupted it does not leave them
    pub off-on : (front back : List Entry) → h ≡ front ++ back → (t : TrussState)
        → IsTrussAfter who controllers first h front k t → All WasNotInterrupted (exchanges k front)
        → t.leaving ≡ false
    off-on front back place t is calm =
        subst (λ (u : TrussState). u.leaving ≡ false)
        (sym (truss-is run.own_calls run.are k hider front back place t is))
        (let g =
        before-goes n k (run-options k hider) first h its-run front back place calm (Unit {0}) (λ r. run.reached)
        (λ r. bytes-front front back (subst HasBytes place run.bytes)) in
        let w = g.kept in w.off)

    -- then it has its files of its processes, and traces those that it has opened
    pub goes-on-there : (front back : List Entry) → h ≡ front ++ back → (t : TrussState)
        → IsTrussAfter who controllers first h front k t → t.leaving ≡ false
        → Goes (Unit {0}) k (run-options k hider) t (now front)
    goes-on-there front back place t is off =
        subst (λ (u : TrussState). Goes (Unit {0}) k (run-options k hider) u (now front))
        (sym (truss-is run.own_calls run.are k hider front back place t is))
        (before-goes n k (run-options k hider) first h its-run front back place (calm-on front back place t is off)
        (Unit {0}) (λ r. run.reached) (λ r. bytes-front front back (subst HasBytes place run.bytes)))

    -- and so its processes stand
    pub copies-on : (front back : List Entry) → h ≡ front ++ back → (t : TrussState)
        → IsTrussAfter who controllers first h front k t → t.leaving ≡ false → CopiesSo t (now front).system
    copies-on front back place t is off =
        let st =
        stands-after n k (run-options k hider) first h reached-run opens-out front back place
        (calm-on front back place t is off) in
        subst (λ (u : TrussState). CopiesSo u (now front).system)
        (sym (truss-is run.own_calls run.are k hider front back place t is)) st.copies

    -- and it has opened their files
    pub known-on : (front back : List Entry) → h ≡ front ++ back → (t : TrussState)
        → IsTrussAfter who controllers first h front k t → t.leaving ≡ false → KeptPlaces Knows t
    known-on front back place t is off =
        let st =
        stands-after n k (run-options k hider) first h reached-run opens-out front back place
        (calm-on front back place t is off) in
        subst (KeptPlaces Knows) (sym (truss-is run.own_calls run.are k hider front back place t is)) st.known

    -- and one that it opens is not attached before its stop
    pub young-on : (front back : List Entry) → h ≡ front ++ back → (t : TrussState)
        → IsTrussAfter who controllers first h front k t → t.leaving ≡ false → KeptPlaces Young t
    young-on front back place t is off =
        let st =
        stands-after n k (run-options k hider) first h reached-run opens-out front back place
        (calm-on front back place t is off) in
        subst (KeptPlaces Young) (sym (truss-is run.own_calls run.are k hider front back place t is)) st.young

    -- where it waits for a stop, it would run no process with run flags
    pub plain-wait : (front back : List Entry) → h ≡ front ++ back → (t : TrussState)
        → IsTrussAfter who controllers first h front k t → t.leaving ≡ false → is_waiting t.stage ≡ true → (q : ℕ)
        → (marks_at t q).flags ≡ 0
    plain-wait front back place t is =
        subst (λ (u : TrussState). u.leaving ≡ false → is_waiting u.stage ≡ true → (q : ℕ) → (marks_at u q).flags ≡ 0)
        (sym (truss-is run.own_calls run.are k hider front back place t is))
        (λ stays waits q.
        let o = run-options k hider in
        let f = its-run in
        let both : exchanges k h ≡ exchanges k front ++ exchanges k back =
        ap (exchanges k) place ∙ exchanges-both k front back in
        no-flags-at-wait o f.has f.follows_none (exchanges k front) (exchanges k back) q
        (subst (MakesFunctionCalls (first_truss o)) both f.makes)
        (subst (All IsCalm) both (calm-exchanges h n k first run.legal)) stays waits)

    -- where it reads the status of a process, it would run that with no run flags
    pub plain-read : (front back : List Entry) → h ≡ front ++ back → (t : TrussState)
        → IsTrussAfter who controllers first h front k t → t.leaving ≡ false → (q : ℕ) → t.stage ≡ ReadingStatus q
        → (marks_at t q).flags ≡ 0
    plain-read front back place t is =
        subst (λ (u : TrussState). u.leaving ≡ false → (q : ℕ) → u.stage ≡ ReadingStatus q → (marks_at u q).flags ≡ 0)
        (sym (truss-is run.own_calls run.are k hider front back place t is))
        (λ stays q reads.
        let o = run-options k hider in
        let f = its-run in
        let both : exchanges k h ≡ exchanges k front ++ exchanges k back =
        ap (exchanges k) place ∙ exchanges-both k front back in
        no-flags-at-read o f.has f.follows_none (exchanges k front) (exchanges k back) q
        (subst (MakesFunctionCalls (first_truss o)) both f.makes)
        (subst (All IsCalm) both (calm-exchanges h n k first run.legal)) stays reads)

  -- it is at no stage at which a child is set free
  freed : (k : ℕ) (front : List Entry) (w : Truss who controllers first h front k) (pid number : ℕ)
      → of_stage pid number w.t.stage ≡ 0
  freed k front w pid number = by w.course
    where
      by : Course w.t → of_stage pid number w.t.stage ≡ 0
      by (goes_on goes flags) = none-freed (length w.t.traced) pid number w.t.stage goes.stage
      by (leaves_them on at_place) = left-freed w.t pid number at_place

  -- a process of which it has a file open is one that it traces
  pub handle-place : (front back : List Entry) → h ≡ front ++ back → (kept : Kept who controllers first h front)
      → (k : ℕ) (hider : hides who k ≡ true) (number : ℕ) (held : Held)
      → handle_of (now front).opens k number ≡ Some held
      → let w = kept.trusses k hider in
      (q : ℕ) × ((q < length w.t.traced) × ((traced_at w.t q).pid ≡ held.pid))
  handle-place front back place kept k hider number held there =
      let w = kept.trusses k hider in
      let same = truss-is run.own_calls run.are k hider front back place w.t w.is in
      let found =
      handle-traced n k (run-options k hider) first front back
      (subst (IsFunctionRun n k (run-options k hider) first) place
      (function-run run.legal run.reached run.own_calls run.are k hider))
      (λ p m. subst (λ (t : TrussState). of_stage p m t.stage ≡ 0) same (freed k front w p m)) number held there in (
        found.0,
        (
          subst (λ (t : TrussState). found.0 < length t.traced) (sym same) found.1.0,
          ap (λ (t : TrussState). (traced_at t found.0).pid) same ∙ found.1.1,
        ),
      )

  -- ---- a call that is granted

  pub copies-bare : (front back : List Entry) (pid id : ℕ) (turned : Turned)
      → h ≡ front ++ record { actor = Lwp pid id; act = act.Turn turned } ∷ back → makes_copy turned.did ≡ true
      → Kept who controllers first h front → (at front pid).patches ≡ []
  unfolding IsLegalEntry turn_of
  copies-bare front back pid id turned place makes kept = by (kept.bare pid)
    where
      legal : IsLegalEntry n (now front) (record { actor = Lwp pid id; act = act.Turn turned })
      legal =
          legal-here n first front (record { actor = Lwp pid id; act = act.Turn turned }) back
          (subst (λ (es : List Entry). IsLegal n first es) place run.legal)

      lives : (x : Option TracedProcess) → live_process (now front).system pid ≡ x
          → (p : TracedProcess) × (live_process (now front).system pid ≡ Some p)
      lives (Some p) live = (p, live)
      lives None none = absurd (gone none legal.1)
        where
          gone : live_process (now front).system pid ≡ None
              → turn_of (now front).system pid id ≡ Some (record { system = legal.0; turned = turned }) → ⊥
          gone none turn = none-some (record { system = legal.0; turned = turned }) (sym (rw none refl) ∙ turn)

      traced : (x : Holder who pid (now front)) → (at front pid).patches ≡ []
      traced x =
          let w = kept.trusses x.k x.hider in
          let same =
          truss-is run.own_calls run.are x.k x.hider front
          (record { actor = Lwp pid id; act = act.Turn turned } ∷ back) place w.t w.is in
          let found =
          handle-place front (record { actor = Lwp pid id; act = act.Turn turned } ∷ back) place kept x.k x.hider
          x.number x.held x.there in
          of x w found.0 found.1.0 (found.1.1 ∙ x.of)
          (subst (λ (t : TrussState). IsEmpty (marks_at t found.0).planted) (sym same)
          (let f = finds x.k x.hider in
          f.copies front back found.0 id turned
          (place ∙ ap (λ i. front ++ record { actor = Lwp i id; act = act.Turn turned } ∷ back)
          (sym (ap (λ (t : TrussState). (traced_at t found.0).pid) (sym same) ∙ found.1.1 ∙ x.of)))
          (subst (λ (t : TrussState). found.0 < length t.traced) same found.1.0) makes))
        where
          of : (x : Holder who pid (now front)) (w : Truss who controllers first h front x.k) (q : ℕ)
              → q < length w.t.traced → (traced_at w.t q).pid ≡ pid → IsEmpty (marks_at w.t q).planted
              → (at front pid).patches ≡ []
          of x w q within same none =
              let it = lives (live_process (now front).system pid) refl in
              let stand = w.stand q within (it.0, ap (live_process (now front).system) same ∙ it.1) in
              ap (λ i. (at front i).patches) (sym same)
              ∙ none-marked w.t.options (marks_at w.t q).planted _ none stand.all

      by : ((at front pid).patches ≡ []) ⊎ Holder who pid (now front) → (at front pid).patches ≡ []
      by (inl nothing) = nothing
      by (inr x) = traced x

  -- ---- a read that tells of one

  module _ (front back : List Entry) (j : ℕ) (c : Call) (r : Reply) (place : h ≡ front ++ call_entry j c r ∷ back)
      (kept : Kept who controllers first h front) (hider : hides who j ≡ true) where
    abbrev truss : Truss who controllers first h front j
    truss = kept.trusses j hider

    abbrev t : TrussState
    t = let w = truss in w.t

    abbrev its-o : Options
    its-o = run-options j hider

    abbrev there : TrussState
    there = functions_at j its-o front

    same : t ≡ there
    same =
        let w = truss in
        truss-is run.own_calls run.are j hider front (call_entry j c r ∷ back) place w.t w.is

    x-own : exchange_of j (call_entry j c r) ≡ Some (record { call = c; reply = r })
    x-own = ap (λ b. cond b (Some (record { call = c; reply = r })) None) (eq-eqb j j refl)

    options-are : there.options ≡ its-o
    options-are =
        let w = truss in
        let names = w.sound.names in
        ap (λ (y : TrussState). y.options) (sym same) ∙ names.options ∙ options-same w.it
      where
        options-same : (i : IsTrussAt who controllers j) → i.options ≡ its-o
        options-same i =
            let k = run.are.trusses j hider in
            let same_first : first_truss i.options ≡ first_truss k.options =
            same-truss (first_truss i.options) (first_truss k.options) _ i.starts k.starts in
            sym (first-options i.options) ∙ ap (λ (y : TrussState). y.options) same_first ∙ first-options k.options

    -- where none is marked in a process that lives, no breakpoint stands
    bare-there : (q : ℕ) → q < length t.traced → Lives (now front) (traced_at t q).pid
        → IsEmpty (marks_at there q).planted → (at front (traced_at t q).pid).patches ≡ []
    bare-there q within lives none =
        let w = truss in
        let stand = w.stand q within lives in
        none-marked w.t.options (marks_at w.t q).planted _
        (subst (λ (y : TrussState). IsEmpty (marks_at y q).planted) (sym same) none) stand.all

    pub replaced-bare : (q : ℕ) → q < length t.traced → Lives (now front) (traced_at t q).pid → TellsReplaced t q r
        → (at front (traced_at t q).pid).patches ≡ []
    replaced-bare q within lives tells =
        let told : TellsReplaced there q r = subst (λ (y : TrussState). TellsReplaced y q r) same tells in
        let f = finds j hider in
        let lifted =
        f.replaced front back (call_entry j c r) (record { call = c; reply = r }) q told.l told.event place x-own
        (subst (λ (y : TrussState). q < length y.traced) same within) told.reads told.idle told.accepted told.told
        told.fresh
        (ap (λ (y : Options). function_event y (marks_at there q) told.l.id told.event) (sym options-are)
        ∙ told.replaced) in
        bare-there q within lives lifted.none_planted

    pub last-bare : 0 < length t.traced → Lives (now front) (traced_at t 0).pid → TellsLast t r
        → (at front (traced_at t 0).pid).patches ≡ []
    last-bare within lives tells =
        let told : TellsLast there r = subst (λ (y : TrussState). TellsLast y r) same tells in
        let f = finds j hider in
        bare-there 0 within lives
        (f.last front back (call_entry j c r) (record { call = c; reply = r }) told.l told.event place x-own
        (subst (λ (y : TrussState). 0 < length y.traced) same within) told.reads told.idle told.accepted told.told
        told.fresh
        (ap (λ (y : Options). function_event y (marks_at there 0) told.l.id told.event) (sym options-are)
        ∙ told.replaced))
