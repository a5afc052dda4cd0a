use Rattle.std.proofs.Common.{◌≡◌, ◌≢◌, ◌<◌, ◌++◌, ◌⊎◌, ◌&&◌, ℕ, true, false, cond, Some, None, List, [], ◌∷◌, length}
use Rattle.std.proofs.Common.{refl, sym, subst, ap, ◌∙◌, inl, inr, arith}
use Rattle.std.proofs.lemmas.Bool.{and_parts, cases_Bool, eq-eqb, false≢true, ne_eqb}
use Rattle.std.proofs.lemmas.List.{append_assoc}
use Rattle.std.proofs.lemmas.Option.{same_Some}
use Rattle.pr_api.specs.Entries.{call_entry}
use Rattle.pr_function_hides.proofs.GoingOn.CalmCalls as Calm
use Rattle.pr_function_hides.proofs.GoingOn.CalmSoon as Soon
use Rattle.pr_function_hides.proofs.GoingOn.CalmSoon.{runs-now, soon-same}
use Rattle.pr_function_hides.proofs.Replies.ClosingWalk.{called_at}
use Rattle.pr_function_hides.proofs.Copying.CopyFeeds.{opens-of, runs-of}
use Rattle.pr_function_hides.proofs.Copying.CopyForeign.{opening-stands}
use Rattle.pr_function_hides.proofs.Tidy.CopyFree.{goes-on-there, plain-read, run-options}
use Rattle.pr_function_hides.proofs.Copying.CopyPlaces.{CopiesSo, IsRunFlags, OpensSo, RunsSo, counted, early, no_flags}
use Rattle.pr_function_hides.proofs.Copying.CopyPlaces.{runs_old, stopped, treats}
use Rattle.pr_function_hides.proofs.StandingFaults.CountedFaults.{called-more}
use Rattle.pr_function_hides.proofs.MetFaults.MetCounts.{StepClears, alone-clears, lwps-clears, old-count, read-clears}
use Rattle.pr_function_hides.proofs.MetFaults.MetCounts.{unmet-count}
use Rattle.pr_function_hides.proofs.MetFaults.MetTurns.{ClearIn, Counts, MetIn, framed-clear, framed-met}
use Rattle.pr_function_hides.proofs.StandingFaults.OwnFaults.{CountLess, alone-old}
use Rattle.pr_function_hides.proofs.Replies.OwnFiles.{GoesOn}
use Rattle.pr_function_hides.proofs.Replies.PlantedReplies.{So}
use Rattle.pr_function_hides.proofs.Replies.PlacesCome.{Comes, IsReadOrSoon, new, places-come, was}
use Rattle.pr_function_hides.proofs.MetFaults.RunUnmet.{MetLeads, few-leads, one-leads, ran-unmet}
use Rattle.pr_function_hides.proofs.StandingFaults.SoonRuns.{RunsOrCloses, RunsSoon, flags_after, soon-read}
use Rattle.pr_function_hides.proofs.Replies.StayedPlaces.{Starts, Stayed, control-shut, is_read_at, marks-stay, old-stays}
use Rattle.pr_function_hides.proofs.Replies.StayedPlaces.{read-at-is, reading-idle, unread-at}
use Rattle.pr_function_hides.proofs.CodeThere.StepCode.{StepIn, StepsIn, foreign-steps, own-steps}
use Rattle.pr_function_hides.proofs.Tidy.TidyCalls as Calls
use Rattle.pr_function_hides.proofs.Tidy.TidyEntries.{its-lawful, its-legal, now-is, sole}
use Rattle.pr_function_hides.proofs.Tidy.TidyKept.{Kept}
use Rattle.pr_function_hides.specs.RunsOfTrusses.{IsRunOfTrusses}
use Rattle.pr_function_hides.specs.TidyWrites.{IsTrussAfter}
use Rattle.pr_function_hides.specs.Treating.{is_run_soon}
use Rattle.pr_function_laws.proofs.Marks.KeptPlaces.{Position}
use Rattle.pr_function_laws.proofs.OpenedProcesses.OpenedCalls.{IsSo, call-is}
use Rattle.pr_function_laws.proofs.OpenedProcesses.OpenedLaws.{Goes, goes-opened, goes-still}
use Rattle.pr_function_laws.proofs.OrdinaryTruss.OrdinaryStops.{FitsAside}
use Rattle.pr_function_laws.specs.OneEvent.{HasMetNothing, is_looked_at}
use Rattle.pr_function_laws.specs.Opened.{is_opened}
use Rattle.pr_function_laws.specs.Stretches.{acts_by}
use Rattle.pr_hidden.specs.Covers.{Cover, Covers}
use Rattle.pr_hidden.specs.Hiders.{Hiders, covers_at, hides, is_ctl}
use Rattle.pr_lawful.proofs.ProcessParts.HandleLemmas.{control-writes, handle-at}
use Rattle.pr_lawful.proofs.Following.UseLemmas.{live-lawful}
use Rattle.pr_line.specs.declared.options.Options.{Options}
use Rattle.pr_model.specs.Handles.{handle_of}
use Rattle.pr_model.specs.Lawful.{IsFitting, IsLawful}
use Rattle.pr_model.specs.Legal.{state_after}
use Rattle.pr_model.specs.State.{TracedProcess, TracedState, has_agent, live_process}
use Rattle.pr_model.specs.declared.calls.Call.{Call}
use Rattle.pr_model.specs.declared.calls.Call.TheVariants as call
use Rattle.pr_model.specs.declared.calls.Reply.{Reply}
use Rattle.pr_model.specs.declared.events.Act.TheVariants as act
use Rattle.pr_model.specs.declared.events.Actor.TheVariants.{Controller}
use Rattle.pr_model.specs.declared.events.Entry.{Entry}
use Rattle.pr_model.specs.declared.handles.Held.{Held}
use Rattle.pr_num.proofs.SearchLemmas.{All-at}
use Rattle.pr_num.specs.ById.{IsRising}
use Rattle.pr_num.specs.declared.messages.Message.TheVariants as message
use Rattle.pr_report_laws.proofs.Invariant.StandLemmas.{Each}
use Rattle.pr_truss.specs.Asides.{marks_at}
use Rattle.pr_truss.specs.FunctionCalls.{function_call_of}
use Rattle.pr_truss.specs.Marks.{has_functions}
use Rattle.pr_truss.specs.Messages.{message_call}
use Rattle.pr_truss.specs.NextCalls.{opening_call}
use Rattle.pr_truss.specs.Replies.{answer_of}
use Rattle.pr_truss.specs.Trusses.{TrussState, traced_at}
use Rattle.pr_truss.specs.declared.asides.Aside.TheVariants.{Nothing}
use Rattle.pr_truss.specs.declared.marks.Marks.{Marks}
use Rattle.pr_truss.specs.declared.processes.Traced.{Traced}
use Rattle.pr_truss.specs.declared.replies.Answer.TheVariants.{Accepted, Interrupted}
use Rattle.pr_truss.specs.declared.stages.AfterClosing.TheVariants.{GoOn}
use Rattle.pr_truss.specs.declared.stages.OpeningStep.TheVariants as opening
use Rattle.pr_truss.specs.declared.stages.Stage.TheVariants.{Closing, Opening, OpeningControl, ReadingStatus}
use Rattle.pr_truss.specs.declared.stages.Stage.TheVariants.{ReadingText, Running}
use Rattle.pr_truss_laws.proofs.Replies.FunctionOptionLemmas.{fed_functions-options}
use Rattle.pr_truss_laws.proofs.Machine.OverLemmas.{stays-over}
use Rattle.pr_truss_laws.specs.Exchanges.{exchange_of}
use Rattle.pr_truss_laws.specs.Stills.{IsFrozen}
use Rattle.pr_world.specs.ControllerStates.{ControllerState}

-- After a call of a controller each lwp that stands on the stop of a fault which a truss takes for its own counts as
-- standing at one of those who hide; and of a process that is run soon, so does the lwp whose fault is cleared.

controller-same : {a b : ℕ} → Controller a ≡ Controller b → a ≡ b
controller-same is = cc

module _ {n : ℕ} {who : Hiders} {controllers : List ControllerState} {first : TracedState}
    {h : List Entry} (run : IsRunOfTrusses n who controllers first h) (front back : List Entry)
    (j : ℕ) (c : Call) (r : Reply) (place : h ≡ front ++ call_entry j c r ∷ back)
    (counts : Counts run front) where
  abbrev here : List Entry → TracedState
  here front = state_after first front

  abbrev covers : List Entry → Covers
  covers front = covers_at who first front

  abbrev e : Entry
  e = call_entry j c r

  abbrev later_front : List Entry
  later_front = front ++ e ∷ []

  abbrev v : TracedState
  v = here front

  abbrev kept-now : Kept who controllers first h front
  kept-now = Calm.kept-now run front back j c r place

  abbrev MetThen : Options → Marks → ℕ → Type 0
  MetThen o m pid = MetIn run later_front o m pid

  abbrev ClearThen : ℕ → ℕ → Type 0
  ClearThen flags pid = ClearIn run later_front flags pid

  -- no fewer lwps of a process count, unless its control file is closed
  pub more-stay : (pid : ℕ)
      → ((number : ℕ) (x : Held) → c ≡ call.Close number → handle_of v.opens j number ≡ Some x
      → (hides who j && is_ctl x.file) ≡ true → x.pid ≢ pid)
      → CountLess (covers later_front pid) (covers front pid)
  more-stay pid shut id is =
      ap (λ (d : Cover). d.faulted id) (Calm.called-cover run front back j c r place pid)
      ∙ called-more who run.are.no_probes (covers front) v j pid c r shut id is

  -- ---- the other trusses

  module _ (k : ℕ) (its : hides who k ≡ true) (apart : j ≢ k) where
    abbrev x : TrussState
    x = Calm.t run front e back place k its

    none-of : exchange_of k e ≡ None
    none-of = ap (λ b. cond b (Some (record { call = c; reply = r })) None) (ne_eqb j k apart)

    lawful-here : IsLawful v
    lawful-here = its-lawful run front e back place kept-now

    pub other-more : (q : ℕ) → q < length x.traced
        → CountLess (covers later_front (traced_at x q).pid) (covers front (traced_at x q).pid)
    other-more q within =
        more-stay (traced_at x q).pid (λ number held closes there both.
        let alone = sole run front e back place kept-now k its q within in
        let parts = and_parts (hides who j) (is_ctl held.file) both in
        let controls = Calls.ctl-control run front back j c r place kept-now parts.0 held.file parts.1 in
        alone.none j number held apart there
        (control-writes held
        (All-at IsFitting v.opens number (Some held) (handle-at v.opens j number held there) lawful-here.fitting)
        controls))

    pub other-met : (q : ℕ) → q < length x.traced → (o : Options) (m : Marks)
        → MetIn run front o m (traced_at x q).pid → MetThen o m (traced_at x q).pid
    other-met q within o m =
        framed-met run front e back place k its none-of q within (λ own is. cc) (other-more q within) o m

    pub other-clears : (q : ℕ) → q < length x.traced → (flags : ℕ)
        → ClearIn run front flags (traced_at x q).pid → ClearThen flags (traced_at x q).pid
    other-clears q within flags =
        framed-clear run front e back place k its none-of q within (λ own is. cc) (other-more q within) flags

    pub other-code : x.leaving ≡ false → StepsIn run later_front x
    other-code off =
        let w = Calm.truss run front e back place k its in
        foreign-steps run front (Controller j) (act.Call c r) back place k its
        (Calls.foreign-same run front back j c r place kept-now k apart) (λ is. apart (controller-same is)) x w.is
        off (counts.code k its x w.is off)

  -- ---- its own processes

  module _ (hider : hides who j ≡ true) where
    abbrev pub tr : TrussState
    tr = Calm.tr run front back j c r place hider

    abbrev pub u : TrussState
    u = Calm.u run front back j c r place hider

    pub has : has_functions tr.options ≡ true
    has = Calm.has run front back j c r place hider

    is-now : IsTrussAfter who controllers first h front j tr
    is-now = Calm.is-now run front back j c r place hider

    lawful : IsLawful v
    lawful = Calm.lawful run front back j c r place hider

    rising : (pid : ℕ) (p : TracedProcess) → live_process v.system pid ≡ Some p → IsRising p.lwps
    rising pid p live = let l = live-lawful v.system pid p lawful.system live in l.rising

    fit-now : FitsAside tr.aside tr.stage
    fit-now = Calm.fit-here run front e back place j hider

    fresh : (at : ℕ) → tr.stage ≡ OpeningControl at → tr.aside ≡ Nothing → answer_of r ≡ Accepted
        → Each (λ (w : Traced). w.pid ≢ at) tr.traced
    fresh = Calm.fresh run front back j c r place hider

    -- as long as it goes on
    module _ (off : tr.leaving ≡ false) (calm : answer_of r ≢ Interrupted) where
      goes : Goes (Unit {0}) j (run-options run j hider) tr v
      goes = Calm.goes run front e back place j hider off

      on : GoesOn tr
      on = Calm.on run front e back place j hider off

      copies : CopiesSo tr v.system
      copies = Calm.copies run front e back place j hider off

      abbrev P : Position → Traced → Type 0
      P = IsSo (Unit {0}) j tr.options v

      -- one that it leaves alone
      module _ (i : ℕ) (inside : i < length tr.traced) (opened : is_opened tr.stage i ≡ true)
          (quiet : is_run_soon tr.stage i ≡ false) where
        away-now : (m : ℕ) (held : Held) → acts_by c ≡ Some m → handle_of v.opens j m ≡ Some held
            → held.pid ≢ (traced_at tr i).pid
        away-now = Calm.resting-away run front back j c r place hider off i inside opened quiet

        more-away : CountLess (covers later_front (traced_at tr i).pid) (covers front (traced_at tr i).pid)
        more-away =
            more-stay (traced_at tr i).pid
            (λ number held closes there both. away-now number held (ap acts_by closes) there)

        rest-on : (o : Options) (m : Marks) → MetIn run front o m (traced_at tr i).pid
            → MetThen o m (traced_at tr i).pid
        rest-on o m met x later =
            let was = Calm.own-alone run front back j c r place hider i inside away-now x later in
            old-count (covers front (traced_at tr i).pid) (covers later_front (traced_at tr i).pid) o m was.0 x
            more-away (alone-old was.0 x was.1.1) (met was.0 was.1.0)

        clear-on : (flags : ℕ) → ClearIn run front flags (traced_at tr i).pid
            → ClearThen flags (traced_at tr i).pid
        clear-on flags clear x later =
            let was = Calm.own-alone run front back j c r place hider i inside away-now x later in
            alone-clears (covers front (traced_at tr i).pid) (covers later_front (traced_at tr i).pid) was.0 x
            more-away was.1.1 flags (clear was.0 was.1.0)

      -- one whose status it reads
      module _ (i : ℕ) (inside : i < length tr.traced) (reads : tr.stage ≡ ReadingStatus i)
          (idle : tr.aside ≡ Nothing) where
        abbrev read_flags : ℕ
        read_flags = flags_after tr i r (answer_of r)

        read-now : ClearIn run front read_flags (traced_at tr i).pid
        read-now p live =
            subst (λ m. StepClears m (covers front (traced_at tr i).pid) p)
            (sym (Soon.read-flags run front back j c r place hider off i inside reads idle p live))
            (read-clears tr i (covers front (traced_at tr i).pid) p (rising (traced_at tr i).pid p live)
            (plain-read run j hider front (e ∷ back) place tr is-now off i reads)
            (λ new_stop.
            counts.met j hider tr is-now off i inside (ap (λ st. is_opened st i) reads)
            (ap (λ st. is_run_soon st i) reads) new_stop p live))

        read-soon : ClearThen read_flags (traced_at tr i).pid
        read-soon =
            clear-on i inside (ap (λ st. is_opened st i) reads) (ap (λ st. is_run_soon st i) reads) read_flags read-now

        read-goes : RunsOrCloses r i read_flags u
        read-goes = soon-read tr i on.follow off inside idle r has reads calm

      -- one that it runs soon, but not now
      soon-on : (i : ℕ) (inside : i < length tr.traced) (soon : is_run_soon tr.stage i ≡ true)
          → (tr.aside ≡ Nothing → tr.stage ≢ Running i) → ClearThen (marks_at tr i).flags (traced_at tr i).pid
      soon-on i inside soon away x later =
          let left = Soon.left-so run front back j c r place hider off i inside soon away in
          let was = left.0 x later in
          let more =
          more-stay (traced_at tr i).pid (λ number held closes there both. absurd (left.1 number closes)) in
          let clear = counts.soon j hider tr is-now off i inside soon was.0 was.1.0 in
          elim was.1.1 [
            | inl alone ↦ alone-clears (covers front (traced_at tr i).pid) (covers later_front (traced_at tr i).pid)
                was.0 x more alone (marks_at tr i).flags clear
            | inr keeps ↦ lwps-clears (covers front (traced_at tr i).pid) (covers later_front (traced_at tr i).pid)
                was.0 x more keeps (marks_at tr i).flags clear
          ]

      -- one that it runs
      ran-none : (i : ℕ) → i < length tr.traced → (flags : ℕ) → IsRunFlags flags
          → c ≡ message_call (traced_at tr i).control (message.Run flags)
          → ((p : TracedProcess) → live_process v.system (traced_at tr i).pid ≡ Some p → has_agent p ≡ false
          → MetLeads p) → (x : TracedProcess)
          → live_process (here later_front).system (traced_at tr i).pid ≡ Some x → has_agent x ≡ false
          → HasMetNothing x
      ran-none i inside flags known is leads x later no_agent =
          let own = Calls.own run front back j c r place kept-now hider in
          let f = Calm.files run front e back place j hider in
          let legal = its-legal run front e back place kept-now in
          let same : own.answer.state ≡ here later_front =
          own.later ∙ sym (now-is run front e back place kept-now) in
          ran-unmet n j v lawful c own.answer own.is
          (λ at made none.
          ap (λ (y : TracedState). live_process y.system at) own.later ∙ stays-over n v e at lawful legal made none)
          (traced_at tr i) flags known (f.control i inside) is leads x
          (ap (λ (y : TracedState). live_process y.system (traced_at tr i).pid) same ∙ later) no_agent

      -- at most one of its lwps met an event then
      runs-lead : (i : ℕ) → i < length tr.traced → tr.stage ≡ Running i → (traced_at tr i).old ≡ 0
          → (p : TracedProcess) → live_process v.system (traced_at tr i).pid ≡ Some p → has_agent p ≡ false
          → MetLeads p
      runs-lead i inside runs none p live no_agent =
          let soon : is_run_soon tr.stage i ≡ true = ap (λ st. is_run_soon st i) runs ∙ eq-eqb i i refl in
          let frozen =
          goes-still (Unit {0}) j _ tr v goes tt i p live (ap (λ st. is_looked_at st i) runs ∙ eq-eqb i i refl) in
          let rises = rising (traced_at tr i).pid p live in
          by rises frozen (runs-of tr i p soon (copies.each i inside p live))
        where
          by : (rises : IsRising p.lwps) (frozen : IsFrozen p) → RunsSo tr i p → MetLeads p
          by rises frozen (treats m ev new_stop treating stands few event) =
              few-leads p rises no_agent frozen few
          by rises frozen (runs_old idle is flags w) =
              one-leads p rises no_agent frozen (omega (arith, w.count, none))

      starts-lead : (i : ℕ) → i < length tr.traced → tr.stage ≡ Opening i opening.Start → (traced_at tr i).old ≡ 0
          → (p : TracedProcess) → live_process v.system (traced_at tr i).pid ≡ Some p → has_agent p ≡ false
          → MetLeads p
      starts-lead i inside opens none p live no_agent =
          by (opens-of tr i p opening.Start opens (copies.each i inside p live))
        where
          by : OpensSo opening.Start (traced_at tr i) p → MetLeads p
          by (early first_step marks) = absurd (false≢true first_step)
          by (stopped reads out) = absurd (let both : opening.Start ≡ opening.ReadLwps = reads in cc)
          by (counted late other w) =
              one-leads p (rising (traced_at tr i).pid p live) no_agent
              (opening-stands n j _ tr v goes i opening.Start opens p live late other no_agent)
              (omega (arith, w.count no_agent, none))

      -- ---- those that it runs soon then

      comes : (q : ℕ) → is_run_soon u.stage q ≡ true → IsReadOrSoon tr (traced_at u q).pid
      comes = Calm.comes run front back j c r place hider off calm

      module _ (q : ℕ) (within : q < length u.traced) (soon : is_run_soon u.stage q ≡ true) where
        flags-at : (i m : ℕ) → RunsSoon i m u → m ≡ (marks_at u q).flags
        flags-at i m w =
            sym w.flags ∙ ap (λ p. (marks_at u p).flags) (soon-same u.stage i q w.stage soon)

        closes-not : (i : ℕ) → u.stage ≡ Closing i GoOn → ⊥
        closes-not i is = false≢true (sym (ap (λ st. is_run_soon st q) is) ∙ soon)

        of-runs : (i m : ℕ) → RunsOrCloses r i m u → ClearThen m (traced_at tr i).pid
            → ClearThen (marks_at u q).flags (traced_at tr i).pid
        of-runs i m (inl w) clear = subst (λ f. ClearThen f (traced_at tr i).pid) (flags-at i m w) clear
        of-runs i m (inr x) clear = absurd (closes-not i x.0)

        by-place : (i : ℕ) → i < length tr.traced
            → ((tr.stage ≡ ReadingStatus i) × (tr.aside ≡ Nothing)) ⊎ (is_run_soon tr.stage i ≡ true)
            → (tr.aside ≡ Nothing → tr.stage ≢ Running i) → ClearThen (marks_at u q).flags (traced_at tr i).pid
        by-place i inside (inl reads) away =
            of-runs i _ (read-goes i inside reads.0 reads.1) (read-soon i inside reads.0 reads.1)
        by-place i inside (inr before) away =
            of-runs i _ (Soon.goes-soon run front back j c r place hider off i inside before calm away)
            (soon-on i inside before away)

        pub soon-then : ClearThen (marks_at u q).flags (traced_at u q).pid
        soon-then =
            let w = comes q soon in
            subst (λ p. ClearThen (marks_at u q).flags p) w.own (by-place w.place w.within w.soon w.away)

      -- ---- the others that it has opened then

      module _ (off_later : u.leaving ≡ false) (q : ℕ) (within : q < length u.traced)
          (opened : is_opened u.stage q ≡ true) (quiet : is_run_soon u.stage q ≡ false)
          (none : (traced_at u q).old ≡ 0) where
        abbrev Then : ℕ → Type 0
        Then pid = MetThen tr.options (marks_at u q) pid

        no-agent : (x : TracedProcess) → live_process (here later_front).system (traced_at u q).pid ≡ Some x
            → has_agent x ≡ false
        no-agent x later =
            let there =
            goes-on-there run j hider later_front back (place ∙ sym (append_assoc front (e ∷ []) back)) u
            (Calm.is-later run front back j c r place hider) off_later in
            let owns = goes-opened (Unit {0}) j _ u (here later_front) there q within opened in
            owns.no_agent x later

        module _ (i : ℕ) (inside : i < length tr.traced) (own : (traced_at tr i).pid ≡ (traced_at u q).pid) where
          its-agent : (x : TracedProcess) → live_process (here later_front).system (traced_at tr i).pid ≡ Some x
              → has_agent x ≡ false
          its-agent x later =
              no-agent x (ap (live_process (here later_front).system) (sym own) ∙ later)

          -- it does not run one of these soon
          never : RunsSoon i (marks_at u i).flags u → is_run_soon tr.stage i ≡ true ⊎ (tr.stage ≡ ReadingStatus i)
              → ⊥
          never w before =
              let it = comes i w.stage in
              by it.place it.own it.soon before
            where
              same-place : (b : ℕ) → (traced_at tr b).pid ≡ (traced_at u i).pid → b ≡ i → ⊥
              same-place b its at =
                  let same : i ≡ q =
                  Calm.apart-later run front back j c r place hider i q w.within within
                  (sym its ∙ ap (λ m. (traced_at tr m).pid) at ∙ own) in
                  false≢true (sym quiet ∙ ap (λ m. is_run_soon u.stage m) (sym same) ∙ w.stage)

              by : (b : ℕ) → (traced_at tr b).pid ≡ (traced_at u i).pid
                  → ((tr.stage ≡ ReadingStatus b) × (tr.aside ≡ Nothing)) ⊎ (is_run_soon tr.stage b ≡ true)
                  → is_run_soon tr.stage i ≡ true ⊎ (tr.stage ≡ ReadingStatus i) → ⊥
              by b its (inl reads) (inl soon) = false≢true (sym (ap (λ st. is_run_soon st i) reads.0) ∙ soon)
              by b its (inl reads) (inr reading) =
                  same-place b its (let both : ReadingStatus b ≡ ReadingStatus i = sym reads.0 ∙ reading in cc)
              by b its (inr there) (inl soon) = same-place b its (soon-same tr.stage b i there soon)
              by b its (inr there) (inr reading) = false≢true (sym (ap (λ st. is_run_soon st b) reading) ∙ there)

          of-goes : (m : ℕ) → is_run_soon tr.stage i ≡ true ⊎ (tr.stage ≡ ReadingStatus i)
              → called_at tr.stage tr.aside ≡ Some i → RunsOrCloses r i m u → Then (traced_at tr i).pid
          of-goes m before called (inl w) =
              absurd (never (record {
                follow = w.follow;
                off = w.off;
                within = w.within;
                stage = w.stage;
                flags = refl;
                aside = w.aside;
              }) before)
          of-goes m before called (inr x) = λ p later.
              absurd (Soon.gone-then run front back j c r place hider off i inside called x.1 p later)

          -- the stops from before that it counts
          stayed : tr.stage ≢ ReadingStatus i
              → (is_run_soon tr.stage i ≡ true → (tr.stage ≡ Running i) × (tr.aside ≡ Nothing))
              → Stayed tr r i (traced_at u q).old
          stayed unread ran =
              old-stays P tr r goes.kept fit-now calm fresh i inside unread ran has q within opened (sym own)

          -- none of its lwps stands on an event that it met then
          of-unmet : (flags : ℕ) → IsRunFlags flags → c ≡ message_call (traced_at tr i).control (message.Run flags)
              → ((p : TracedProcess) → live_process v.system (traced_at tr i).pid ≡ Some p → has_agent p ≡ false
              → MetLeads p) → Then (traced_at tr i).pid
          of-unmet flags known is leads x later =
              unmet-count (covers later_front (traced_at tr i).pid) tr.options (marks_at u q) x
              (ran-none i inside flags known is leads x later (its-agent x later))

          -- one that it had not opened whole
          bare : is_opened tr.stage i ≡ false → Then (traced_at tr i).pid
          unfolding opening_call
          bare shut = by it.1
            where
              soon-opened : (stage : _) → is_run_soon stage i ≡ true → is_opened stage i ≡ true
              soon-opened (Running b) soon = refl
              soon-opened (ReadingText b l from len) soon = refl
              soon-opened _ soon = absurd (false≢true soon)

              it : Stayed tr r i (traced_at u q).old
              it =
                  stayed (λ is. false≢true (sym shut ∙ ap (λ st. is_opened st i) is))
                  (λ soon. absurd (false≢true (sym shut ∙ soon-opened tr.stage soon)))

              by : (is_opened tr.stage i ≡ true) ⊎ Starts tr r i → Then (traced_at tr i).pid
              by (inl whole) = absurd (false≢true (sym shut ∙ whole))
              by (inr starts) =
                  of-unmet 0 (no_flags refl)
                  (same_Some c _
                  (sym (Calm.call-now run front back j c r place hider starts.idle)
                  ∙ ap (function_call_of tr) starts.stage ∙ call-is tr i opening.Start))
                  (starts-lead i inside starts.stage (sym it.0 ∙ none))

          -- one that it ran soon
          of-soon : is_run_soon tr.stage i ≡ true → Then (traced_at tr i).pid
          of-soon soon = elim (runs-now tr.aside tr.stage i soon) [
            | inl runs ↦
                (let it =
                stayed (λ is. let both : ReadingStatus i ≡ Running i = sym is ∙ runs.0 in cc) (λ again. runs) in
                let clean = copies.clean i inside in
                of-unmet (marks_at tr i).flags clean.flags
                (Soon.call-runs run front back j c r place hider off i inside runs.0 runs.1)
                (runs-lead i inside runs.0 (sym it.0 ∙ none)))
            | inr away ↦
                of-goes (marks_at tr i).flags (inl soon)
                (Soon.called-soon run front back j c r place hider off i inside soon)
                (Soon.goes-soon run front back j c r place hider off i inside soon calm away)
          ]

          -- one whose status it read
          of-read : tr.stage ≡ ReadingStatus i → Then (traced_at tr i).pid
          of-read reads =
              let idle = reading-idle tr.aside i (subst (FitsAside tr.aside) reads fit-now) in
              of-goes (flags_after tr i r (answer_of r)) (inr reads)
              (ap (λ st. called_at st tr.aside) reads ∙ ap (called_at (ReadingStatus i)) idle)
              (read-goes i inside reads idle)

          -- one that it left alone
          of-rest : is_opened tr.stage i ≡ true → is_run_soon tr.stage i ≡ false → tr.stage ≢ ReadingStatus i
              → Then (traced_at tr i).pid
          of-rest whole calm_now unread =
              let it = stayed unread (λ soon. absurd (false≢true (sym calm_now ∙ soon))) in
              let same : marks_at u q ≡ marks_at tr i =
              marks-stay P tr r goes.kept fit-now calm fresh i inside unread whole calm_now on.stage on.beside has q
              within (sym own) in
              subst (λ m. MetThen tr.options m (traced_at tr i).pid) (sym same)
              (rest-on i inside whole calm_now tr.options (marks_at tr i)
              (counts.met j hider tr is-now off i inside whole calm_now (sym it.0 ∙ none)))

          was-here : Then (traced_at tr i).pid
          was-here = elim (cases_Bool (is_opened tr.stage i)) [
            | inr shut ↦ bare shut
            | inl whole ↦ elim (cases_Bool (is_run_soon tr.stage i)) [
              | inl soon ↦ of-soon soon
              | inr calm_now ↦ elim (cases_Bool (is_read_at tr.stage i)) [
                | inl reads ↦ of-read (read-at-is tr.stage i reads)
                | inr other ↦ of-rest whole calm_now (unread-at tr.stage i other)
              ]
            ]
          ]

        pub met-then : MetThen u.options (marks_at u q) (traced_at u q).pid
        met-then =
            subst (λ (o : Options). MetThen o (marks_at u q) (traced_at u q).pid) (sym (fed_functions-options tr r))
            (by (places-come tr r off on.follow on.stage on.beside calm has q within))
          where
            by : Comes tr r (traced_at u q).pid → Then (traced_at u q).pid
            by (was i inside own) = subst Then own (was-here i inside own)
            by (new is idle accepted) =
                absurd (control-shut tr r (traced_at u q).pid has is idle accepted
                (fresh (traced_at u q).pid is idle accepted) q within opened refl)

      -- ---- steps that are under way then

      pub code-then : StepsIn run later_front u
      code-then =
          subst (λ (o : Options). Each (So (StepIn run later_front o)) u.traced) (sym (fed_functions-options tr r))
          (own-steps run front back j c r place hider on calm (counts.code j hider tr is-now off))
