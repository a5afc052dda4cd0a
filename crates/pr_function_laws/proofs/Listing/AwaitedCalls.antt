use Rattle.std.proofs.Common.{◌≡◌, ◌≢◌, ◌<◌, ◌++◌, ℕ, true, false, Option, Some}
use Rattle.std.proofs.Common.{None, List, [], ◌∷◌, refl, sym, subst, ap, ◌∙◌, inl, inr}
use Rattle.std.proofs.lemmas.Option.{none-some, same_Some}
use Rattle.pr_line.specs.declared.options.Options.{Options}
use Rattle.pr_model.specs.Handles.{handle_of}
use Rattle.pr_model.specs.Lawful.{IsLawful}
use Rattle.pr_model.specs.Legal.{IsLegalEntry, after, state_after}
use Rattle.pr_model.specs.Replies.{number_of}
use Rattle.pr_model.specs.State.{TracedProcess, TracedState, live_process, process_of}
use Rattle.pr_model.specs.declared.calls.Call.{Call}
use Rattle.pr_model.specs.declared.calls.Call.TheVariants as call
use Rattle.pr_model.specs.declared.calls.File.{File}
use Rattle.pr_model.specs.declared.calls.File.TheVariants.{Lstatus, Mem, Status}
use Rattle.pr_model.specs.declared.calls.Mode.TheVariants.{Read}
use Rattle.pr_model.specs.declared.events.Actor.TheVariants.{Lwp}
use Rattle.pr_model.specs.declared.events.Entry.{Entry}
use Rattle.pr_model.specs.declared.handles.Held.{Held}
use Rattle.pr_num.specs.Signals.{signal_number}
use Rattle.pr_num.specs.declared.signals.Sig.TheVariants.{Kill}
use Rattle.pr_reached.specs.ByteHistories.{IsEntryOfBytes}
use Rattle.pr_report_laws.proofs.Files.FileLaws.{HasFiles, IsFileOf}
use Rattle.pr_report_laws.proofs.Files.FileUses.{lwps-read, memory-read}
use Rattle.pr_report_laws.specs.Attachments.{ReadsFile}
use Rattle.pr_report_laws.specs.Memories.{WasKilled}
use Rattle.pr_report_laws.specs.Reads.{by_lwps, by_status}
use Rattle.pr_report_laws.specs.Shown.{LwpEvent, shown}
use Rattle.pr_truss.specs.Asides.{marks_at}
use Rattle.pr_truss.specs.FunctionCalls.{call_beside, function_call_of, next_function_call_of, patch_call}
use Rattle.pr_truss.specs.FunctionFeeding.{fed_functions}
use Rattle.pr_truss.specs.Marks.{first_function, has_functions, no_functions}
use Rattle.pr_truss.specs.NextCalls.{call_of}
use Rattle.pr_truss.specs.Trusses.{TrussState, first_truss, traced_at}
use Rattle.pr_truss.specs.declared.asides.Aside.{Aside}
use Rattle.pr_truss.specs.declared.asides.Aside.TheVariants.{Asking, AwaitingAgain, AwaitingStop, Nothing, Patching}
use Rattle.pr_truss.specs.declared.processes.Traced.{Traced}
use Rattle.pr_truss.specs.declared.stages.AfterClosing.TheVariants.{GoOn}
use Rattle.pr_truss.specs.declared.stages.Stage.{Stage}
use Rattle.pr_truss.specs.declared.stages.Stage.TheVariants.{Closing, Finished, ReadingLwps, ReadingText, Unfollowing}
use Rattle.pr_truss_laws.proofs.Files.HeldLemmas.{Fits}
use Rattle.pr_truss_laws.proofs.Files.OpensLemmas.{held_by}
use Rattle.pr_truss_laws.specs.Exchanges.{Exchange, exchange_of}
use Rattle.pr_truss_laws.specs.Stills.{KeepsMemory}
use Rattle.pr_function_laws.proofs.Stepping.BreakpointLemmas.{IsOwnEntry, own-entry}
use Rattle.pr_function_laws.proofs.LeavingProcesses.LeavingCourse.{entry-bytes, fits-at, follow-there, has-there}
use Rattle.pr_function_laws.proofs.LeavingProcesses.LeavingCourse.{makes-there}
use Rattle.pr_function_laws.proofs.LeavingProcesses.LeavingFacts.{Moved, moved-event, moved-frozen, moved-memory, moved-unmet}
use Rattle.pr_function_laws.proofs.LeavingProcesses.UnlookedProcesses.{Behind, Fate, ahead, behind, fate, is_killed, lives_on}
use Rattle.pr_function_laws.proofs.LeavingProcesses.LeftProcesses.{IsLeaving}
use Rattle.pr_function_laws.proofs.LeavingProcesses.LeavingStages.{IsLeft, asks, awaits, closes_files, halts, has_ended}
use Rattle.pr_function_laws.proofs.LeavingProcesses.LeavingStages.{lifts_all, looks, reads_text, waits_again}
use Rattle.pr_function_laws.proofs.LeavingProcesses.LeavingSteps.{IsAt}
use Rattle.pr_function_laws.proofs.Listing.ListedStates as states
use Rattle.pr_function_laws.proofs.Listing.ListedStates.{clear, lost, standing}
use Rattle.pr_function_laws.proofs.OrdinaryTruss.OrdinaryReplies.{at-ordinary}
use Rattle.pr_function_laws.proofs.OrdinaryTruss.OrdinaryShown.{shows-what-it-reads}
use Rattle.pr_function_laws.proofs.NextCalls.PatchCalls.{next-beside, next-staged}
use Rattle.pr_function_laws.proofs.Pending.PendingWalk.{On}
use Rattle.pr_function_laws.proofs.CallTurns.TurnWalks.{own-in}
use Rattle.pr_function_laws.specs.Lifted.{HasControl}
use Rattle.pr_function_laws.specs.ListedEvents.{events_to_show, to_show_in}
use Rattle.pr_function_laws.specs.OneEvent.{HasMetNothing}
use Rattle.pr_function_laws.specs.ReachedRuns.{IsReachedFunctionRun}
use Rattle.pr_function_laws.specs.Opened.{functions_at}
use Rattle.pr_function_laws.specs.Ordinary.{awaits, ordinary}
use Rattle.pr_function_laws.specs.OrdinaryRuns.{ShowsInEntry, nothing_new, one_more}
use Rattle.pr_function_laws.specs.Runs.{functions_on}
use Rattle.pr_function_laws.proofs.Listing.AwaitedLooks as awaited
use Rattle.pr_function_laws.proofs.Listing.AwaitedLooks.{AwaitsLook, StillOld}

-- A call of a truss that leaves its processes: whether it is its last look at the lwps of a process, and what it leaves
-- of the process where it is not.

module _ (n k : ℕ) (o : Options) (s : TracedState) (h : List Entry) (run : IsReachedFunctionRun n k o s h)
    (pid : ℕ) where
  abbrev T : List Entry → TrussState
  T front = functions_at k o front

  abbrev S : List Entry → TracedState
  S front = state_after s front

  abbrev Leaves : List Entry → Type 0
  Leaves f = IsLeaving (Unit {0}) k o (T f) (S f)

  abbrev AwaitsAt : List Entry → ℕ → Type 0
  AwaitsAt f place = AwaitsLook (T f) pid place

  abbrev Stands : List Entry → List LwpEvent → Type 0
  Stands = states.Stands k o s pid AwaitsAt

  abbrev Listed : List Entry → Type 0
  Listed = states.Listed k o s pid AwaitsAt

  abbrev Since : List Entry → LwpEvent → Type 0
  Since = states.Since k o s pid

  abbrev Missing : List Entry → ℕ → LwpEvent → TracedProcess → List LwpEvent → Type 0
  Missing = states.Missing k o s pid

  abbrev ReadsIts : List Entry → Entry → Type 0
  ReadsIts = states.ReadsIts k o s pid

  module _ (f : List Entry) (e : Entry) (later : List Entry) (is : h ≡ f ++ e ∷ later) (g : Leaves f) where
    abbrev next : List Entry
    next = f ++ e ∷ []

    abbrev t : TrussState
    t = T f

    abbrev now : TracedState
    now = S f

    abbrev legal : IsLegalEntry n now e
    legal = awaited.legal n k o s h run pid f e later is g

    abbrev lawful : IsLawful now
    lawful = awaited.lawful n k o s h run pid f e later is g

    abbrev files : HasFiles k (ordinary t) now
    files = awaited.files n k o s h run pid f e later is g

    abbrev state-is : S next ≡ after now e
    state-is = awaited.state-is n k o s h run pid f e later is g

    abbrev truss-is : T next ≡ functions_on t (exchange_of k e)
    truss-is = awaited.truss-is n k o s h run pid f e later is g

    abbrev its_events : List LwpEvent
    its_events = to_show_in t now pid e

    abbrev Before : List LwpEvent → Type 0
    Before missing = events_to_show k pid (first_truss o) s f ≡ shown pid t ++ missing

    same-listed : (missing : List LwpEvent) → Before missing → its_events ≡ [] → shown pid (T next) ≡ shown pid t
        → Stands next missing → Listed next
    same-listed = states.same-listed k o s pid n h run.of f e later is lawful legal AwaitsAt

    elsewhere-empty : ((own : ℕ) → e.actor ≢ Lwp pid own) → its_events ≡ []
    elsewhere-empty = states.elsewhere-empty k o s pid n h run.of f e later is lawful legal

    lost-next : (event : LwpEvent) (w : Since f event) → pid < now.system.made → live_process now.system pid ≡ None
        → WasKilled pid (S (w.front ++ w.entry ∷ [])) w.mid → Stands next (event ∷ [])
    lost-next = states.lost-next k o s pid n h run.of f e later is lawful legal AwaitsAt

    abbrev control : (place : ℕ) → AwaitsLook t pid place → HasControl k pid (traced_at t place).control now
    control = awaited.control n k o s h run pid f e later is g

    abbrev live-at : (place : ℕ) → AwaitsLook t pid place → (p : TracedProcess) → live_process now.system pid ≡ Some p
        → live_process now.system (traced_at t place).pid ≡ Some p
    live-at = awaited.live-at n k o s h run pid f e later is g

    abbrev gone-stands : (event : LwpEvent) (missing : List LwpEvent) (place : ℕ) → AwaitsLook t pid place
        → (p : TracedProcess) → Missing f place event p missing → (ReadsIts f e → ⊥)
        → live_process now.system pid ≡ Some p
        → live_process (after now e).system pid ≡ None → (z : TracedProcess)
        → process_of (after now e).system pid ≡ Some z → z.ended ≡ Some (signal_number Kill) → Stands next missing
    gone-stands = awaited.gone-stands n k o s h run pid f e later is g

    abbrev still-missing : (event : LwpEvent) (missing : List LwpEvent) (place place2 : ℕ) (p q : TracedProcess)
        → Missing f place event p missing → (ReadsIts f e → ⊥) → marks_at (T next) place2 ≡ marks_at t place
        → KeepsMemory p q → Missing next place2 event q missing
    still-missing = awaited.still-missing n k o s h run pid f e later is g

    -- ---- an exchange of truss

    module _ (x : Exchange) (own : exchange_of k e ≡ Some x) where
      pub it : IsOwnEntry k now e x
      it = own-entry n k now e x legal own

      pub sent : next_function_call_of t ≡ Some x.call
      sent = makes-there (Unit {0}) n k o s h run.of (λ r. run.reached) (λ r. run.bytes) f e later is x own

      pub has : has_functions t.options ≡ true
      has = has-there (Unit {0}) n k o s h run.of (λ r. run.reached) (λ r. run.bytes) f e later is

      pub follow : t.options.follow ≡ false
      follow = follow-there (Unit {0}) n k o s h run.of (λ r. run.reached) (λ r. run.bytes) f e later is

      pub bytes-here : Unit {0} → IsEntryOfBytes e
      bytes-here = entry-bytes (Unit {0}) n k o s h run.of (λ r. run.reached) (λ r. run.bytes) f e later is

      abbrev v : TrussState
      v = fed_functions t x.reply

      pub v-is : T next ≡ v
      v-is = truss-is ∙ ap (functions_on t) own

      pub exchange-empty : its_events ≡ []
      exchange-empty = elsewhere-empty (λ i. own-in k pid i e.actor e.act x own)

      answered-is : (i : ℕ) (q : TracedProcess) → live_process (S next).system i ≡ Some q
          → live_process it.answer.state.system i ≡ Some q
      answered-is i q live =
          ap (λ (u : TracedState). live_process u.system i) (it.later ∙ sym state-is) ∙ live

      is-answered : (i : ℕ) (q : TracedProcess) → live_process it.answer.state.system i ≡ Some q
          → live_process (S next).system i ≡ Some q
      is-answered i q live =
          ap (λ (u : TracedState). live_process u.system i) (state-is ∙ sym it.later) ∙ live

      pub still-own : StillOld pid t now → StillOld pid (T next) (S next)
      still-own old_still =
          subst (λ (u : TrussState). StillOld pid u (S next)) (sym v-is) (λ place within its attached unlooked old q
          live.
          let b =
          behind (Unit {0}) n k o t now g files e legal bytes-here x it sent has follow place within attached unlooked
          in
          let there : pid ≡ (traced_at t b.q).pid = sym its ∙ b.pid in
          let was =
          b.was q (subst (λ j. live_process it.answer.state.system j ≡ Some q) there (answered-is pid q live)) in
          moved-frozen was.0 q was.1.1
          (old_still b.q b.within (sym there) b.attached b.unlooked (λ none. old (b.old ∙ none)) was.0
          (ap (live_process now.system) there ∙ was.1.0)))

      -- it looks at the lwps of the process
      abbrev pub LooksAtIt : Type 0
      LooksAtIt = IsAt (functions_at k o f) ReadingLwps Nothing × ((traced_at (functions_at k o f) 0).pid ≡ pid)

      pub staged : (stage : Stage) → t.stage ≡ stage → t.aside ≡ Nothing → Some x.call ≡ function_call_of t stage
      staged stage at idle = sym sent ∙ next-staged t.options has t stage refl idle at

      beside : (aside : Aside) → t.aside ≡ aside → Some x.call ≡ call_beside t t.stage aside
      beside aside at = sym sent ∙ next-beside t.options has t refl ∙ ap (call_beside t t.stage) at

      pub fits : Fits (ordinary t).traced t.stage
      fits = fits-at (Unit {0}) n k o s h run.of (λ r. run.reached) (λ r. run.bytes) f (e ∷ later) is

      -- where bytes of its status or of the statuses of its lwps are read it is that look
      module _ (which : File) (r : ReadsFile k pid which now e) (other : which ≢ Mem) where
        read-is-call : (d : Call) → Some x.call ≡ Some d → call.Read r.handle r.from r.len ≡ d
        read-is-call d same =
            ap (λ (y : Exchange). y.call) (same_Some _ x (sym r.is ∙ own)) ∙ same_Some x.call d same

        no-message : {A : Type 0} (m : ℕ) (bs : List ℕ) → Some x.call ≡ Some (call.Ctl m bs) → A
        no-message m bs same =
            let both : call.Read r.handle r.from r.len ≡ call.Ctl m bs = read-is-call _ same in absurd (cc)

        no-wait : {A : Type 0} (m until : ℕ) (bs : List ℕ) → Some x.call ≡ Some (call.CtlWait m until bs) → A
        no-wait m until bs same =
            let both : call.Read r.handle r.from r.len ≡ call.CtlWait m until bs = read-is-call _ same in absurd (cc)

        no-close : {A : Type 0} (m : ℕ) → Some x.call ≡ Some (call.Close m) → A
        no-close m same =
            let both : call.Read r.handle r.from r.len ≡ call.Close m = read-is-call _ same in absurd (cc)

        handle-is : (m from len : ℕ) → Some x.call ≡ Some (call.Read m from len) → r.handle ≡ m
        handle-is m from len same =
            let both : call.Read r.handle r.from r.len ≡ call.Read m from len = read-is-call _ same in cc

        held-is : (i m : ℕ) (g_file : File) → IsFileOf k now i m g_file Read → r.handle ≡ m
            → (i ≡ pid) × (g_file ≡ which)
        held-is i m g_file there same =
            let both : r.held ≡ held_by k i 0 g_file Read =
            same_Some r.held _ (sym r.there ∙ ap (handle_of now.opens k) same ∙ there.is) in (
              ap (λ (y : Held). y.pid) (sym both) ∙ r.of,
              ap (λ (y : Held). y.file) (sym both) ∙ r.file,
            )

        no-patch : {A : Type 0} (control : ℕ) (plant lift : Option ℕ)
            → Some x.call ≡ Some (patch_call t.options control plant lift) → A
        no-patch control (Some i) lift same = no-message _ _ same
        no-patch control None (Some i) same = no-message _ _ same
        no-patch control None None same = no-message _ _ same

        reads-look : IsLeft t → LooksAtIt
        unfolding function_call_of call_of call_beside
        reads-look (halts at idle within) = no-message _ _ (staged Unfollowing at idle)
        reads-look (awaits until at at_aside within) = no-wait _ _ _ (beside (AwaitingStop until) at_aside)
        reads-look (asks at at_aside within) = no-message _ _ (beside Asking at_aside)
        reads-look (waits_again until at at_aside within) = no-wait _ _ _ (beside (AwaitingAgain until) at_aside)
        reads-look (looks at idle within) = (
          (at, idle),
          ap (λ (u : Traced). u.pid) (sym (at-ordinary t 0))
              ∙ (held-is (traced_at (ordinary t) 0).pid (number_of (traced_at (ordinary t) 0).lstatus) Lstatus
              (lwps-read k (ordinary t) now files fits at)
              (handle-is _ _ _ (staged ReadingLwps at idle)
              ∙ ap (λ (u : Traced). number_of u.lstatus) (sym (at-ordinary t 0)))).0,
        )
        reads-look (reads_text l from len at idle within) =
            absurd (other (sym (held-is (traced_at (ordinary t) 0).pid (number_of (traced_at (ordinary t) 0).memory) Mem
            (memory-read k (ordinary t) now files fits 0 l from len at)
            (handle-is _ _ _ (staged (ReadingText 0 l from len) at idle)
            ∙ ap (λ (u : Traced). number_of u.memory) (sym (at-ordinary t 0)))).1))
        reads-look (lifts_all clears at at_aside within) =
            no-patch (traced_at t 0).control (first_function no_functions) (first_function (marks_at t 0).planted)
            (beside (Patching 0 no_functions (marks_at t 0).planted clears) at_aside)
        reads-look (closes_files at idle within) = no-close _ (staged (Closing 0 GoOn) at idle)
        reads-look (has_ended at idle) = absurd (none-some x.call (sym (staged Finished at idle)))

      pub status-look : ReadsFile k pid Status now e → LooksAtIt
      status-look r = reads-look Status r (λ (same : Status ≡ Mem). cc) g.at

      pub lwps-look : ReadsFile k pid Lstatus now e → LooksAtIt
      lwps-look r = reads-look Lstatus r (λ (same : Lstatus ≡ Mem). cc) g.at

      -- ---- where it does not

      module _ (not_it : LooksAtIt → ⊥) where
        quiet-read : ReadsIts f e → ⊥
        quiet-read (inl r) = not_it (status-look r)
        quiet-read (inr r) = not_it (lwps-look r)

        unshown : shown pid (T next) ≡ shown pid t
        unshown = by (let w = shows-what-it-reads n k o s h run.of in w.each f later e pid is)
          where
            by : ShowsInEntry k o pid s f e → shown pid (T next) ≡ shown pid t
            by (nothing_new same) = same
            by (one_more w (by_status r) chosen not_own) = absurd (not_it (status-look r.read))
            by (one_more w (by_lwps r) chosen not_own) = absurd (not_it (lwps-look r.read))

        -- where truss had it, and what of it was so
        module _ (i : ℕ) (rest : AwaitsLook (T next) pid i) where
          rest-v : AwaitsLook v pid i
          rest-v = subst (λ (u : TrussState). AwaitsLook u pid i) v-is rest

          was-there : Behind (Unit {0}) n k o t now g files e legal bytes-here x it sent has follow i
          was-there =
              let w = rest-v in
              behind (Unit {0}) n k o t now g files e legal bytes-here x it sent has follow i w.within w.attached
              w.unlooked

          was-rest : AwaitsLook t pid (let b = was-there in b.q)
          was-rest =
              let b = was-there in
              let w = rest-v in
              record {
                within = b.within;
                its = sym b.pid ∙ w.its;
                attached = b.attached;
                unlooked = b.unlooked;
                new = sym b.old ∙ w.new;
              }

          was-live : (q : TracedProcess) → live_process (S next).system pid ≡ Some q
              → (p : TracedProcess) × ((live_process now.system pid ≡ Some p) × Moved p q)
          was-live q live =
              let b = was-there in
              let w = was-rest in
              let m = b.was q (subst (λ j. live_process it.answer.state.system j ≡ Some q) (sym w.its)
              (answered-is pid q live)) in
              (m.0, (ap (live_process now.system) (sym w.its) ∙ m.1.0, m.1.1))

        clear-on : ((place : ℕ) → AwaitsLook t pid place → (p : TracedProcess) → live_process now.system pid ≡ Some p
            → HasMetNothing p) → Stands next []
        clear-on unmet =
            clear (λ i rest q live_q.
            let m = was-live i rest q live_q in
            moved-unmet m.0 q m.1.1 (unmet (let b = was-there i rest in b.q) (was-rest i rest) m.0 m.1.0))

        module _ (place : ℕ) (w : AwaitsLook t pid place) (p : TracedProcess)
            (live : live_process now.system pid ≡ Some p) (event : LwpEvent) (on : On event p) (missing : List LwpEvent)
            (m : Missing f place event p missing) where
          lives-next : (q : TracedProcess) → live_process it.answer.state.system (traced_at t place).pid ≡ Some q
              → Stands next missing
          lives-next q later_live =
              let a =
              ahead (Unit {0}) n k o t now g files e legal bytes-here x it sent has follow place w.within w.attached
              w.unlooked
              (λ at zero_place. not_it (at, ap (λ j. (traced_at t j).pid) (sym zero_place) ∙ w.its)) q later_live in
              let rest_v : AwaitsLook v pid a.i =
              record {
                within = a.within;
                its = a.pid ∙ w.its;
                attached = a.attached;
                unlooked = a.unlooked;
                new = a.old ∙ w.new;
              } in
              let rest : AwaitsLook (T next) pid a.i = subst (λ (u : TrussState). AwaitsLook u pid a.i) (sym v-is)
              rest_v in
              let live_q : live_process (S next).system pid ≡ Some q =
              is-answered pid q (subst (λ j. live_process it.answer.state.system j ≡ Some q) w.its later_live) in
              let was = was-live a.i rest q live_q in
              standing a.i rest q live_q event
              (moved-event was.0 q event was.1.1 (subst (On event) (same_Some p was.0 (sym live ∙ was.1.0)) on)) missing
              (still-missing event missing place a.i p q m quiet-read
              (ap (λ (u : TrussState). marks_at u a.i) v-is ∙ a.marks)
              (subst (λ (y : TracedProcess). KeepsMemory y q) (same_Some was.0 p (sym was.1.0 ∙ live))
              (moved-memory was.0 q was.1.1)))

          stand-on : Stands next missing
          stand-on =
              by (fate (Unit {0}) n k o t now g files e legal bytes-here x it sent has follow place w.within w.unlooked
              p
              (live-at place w p live))
            where
              answered-later : {A : Type 0} (f_of : TracedState → A) → f_of (after now e) ≡ f_of it.answer.state
              answered-later f_of = ap f_of (sym it.later)

              by : Fate (Unit {0}) n k o t now g files e legal bytes-here x it sent has follow place
                  → Stands next missing
              by (lives_on q later_live) = lives-next q later_live
              by (is_killed z gone left status) =
                  gone-stands event missing place w p m quiet-read live
                  (answered-later (λ (u : TracedState). live_process u.system pid)
                  ∙ subst (λ j. live_process it.answer.state.system j ≡ None) w.its gone) z
                  (answered-later (λ (u : TracedState). process_of u.system pid)
                  ∙ subst (λ j. process_of it.answer.state.system j ≡ Some z) w.its left) status

        pub other-next : {missing : List LwpEvent} → Stands f missing → Before missing → Listed next
        other-next (clear unmet) are = same-listed [] are exchange-empty unshown (clear-on unmet)
        other-next (standing place w p live event on missing m) are =
            same-listed missing are exchange-empty unshown (stand-on place w p live event on missing m)
        other-next (lost event w made_it gone was_killed) are =
            same-listed (event ∷ []) are exchange-empty unshown (lost-next event w made_it gone was_killed)
