use Rattle.std.proofs.Common.{◌≡◌, ◌≢◌, ◌<◌, ◌==◌, ◌++◌, not, ℕ, true, Option, Some, None, List, [], ◌∷◌, length, append_assoc, refl, sym, subst, ap, ◌∙◌, inl, inr}
use Rattle.std.proofs.lemmas.Bool.{eq-eqb, false≢true}
use Rattle.std.proofs.lemmas.List.Elements.{All-head}
use Rattle.std.proofs.lemmas.Option.{none-some, same_Some}
use Rattle.std.specs.List.{All, cons_option}
use Rattle.pr_line.specs.declared.options.Options.{Options}
use Rattle.pr_model.specs.Lawful.{IsLawful}
use Rattle.pr_model.specs.Legal.{IsLegalEntry, after, state_after}
use Rattle.pr_model.specs.LwpTurns.{LwpTurn, turn_of}
use Rattle.pr_model.specs.State.{TracedProcess, TracedState, live_process, process_of}
use Rattle.pr_model.specs.declared.calls.Call.TheVariants as call
use Rattle.pr_model.specs.declared.calls.File.TheVariants.{Lstatus, Mem, Status}
use Rattle.pr_model.specs.declared.calls.Reply.TheVariants as reply
use Rattle.pr_model.specs.declared.events.Act.TheVariants as act
use Rattle.pr_model.specs.declared.events.Actor.TheVariants.{Lwp}
use Rattle.pr_model.specs.declared.events.Entry.{Entry}
use Rattle.pr_num.specs.Signals.{signal_number}
use Rattle.pr_num.specs.declared.signals.Sig.TheVariants.{Kill}
use Rattle.pr_reached.specs.ByteHistories.{HasBytes}
use Rattle.pr_report_laws.proofs.Files.WatchHistories.{cons-exchanges, exchanges-both}
use Rattle.pr_report_laws.proofs.Machine.OwnTurnLaws.{event-halts}
use Rattle.pr_report_laws.proofs.Watching.HistoryParts.{all-front, all-rest}
use Rattle.pr_report_laws.specs.AtBirth.{has_met}
use Rattle.pr_report_laws.specs.Shown.{LwpEvent}
use Rattle.pr_truss.specs.Asides.{marks_at}
use Rattle.pr_truss.specs.Marks.{has_functions}
use Rattle.pr_truss.specs.NextCalls.{read_record}
use Rattle.pr_truss.specs.Trusses.{TrussState, traced_at}
use Rattle.pr_truss.specs.declared.processes.Traced.{Traced}
use Rattle.pr_truss.specs.declared.stages.Stage.{Stage}
use Rattle.pr_truss.specs.declared.stages.Stage.TheVariants.{ReadingStatus, ReadingText, Running}
use Rattle.pr_truss_laws.proofs.Machine.FrameLemmas.{memory-next}
use Rattle.pr_truss_laws.proofs.Machine.HaltLemmas as halt
use Rattle.pr_truss_laws.proofs.Machine.HaltLemmas.{HaltsOn, others-halt}
use Rattle.pr_truss_laws.proofs.Files.HeldLemmas.{at_place}
use Rattle.pr_truss_laws.proofs.Machine.OutlastLemmas as outlast
use Rattle.pr_truss_laws.proofs.Machine.OutlastLemmas.{Outlasts}
use Rattle.pr_truss_laws.proofs.Machine.OverLemmas.{stays-made, stays-over}
use Rattle.pr_truss_laws.specs.Exchanges.{Exchange, exchange_of, exchanges}
use Rattle.pr_truss_laws.specs.Handles.{HasNoOtherWriter}
use Rattle.pr_truss_laws.specs.Stills.{IsUndisturbed, KeepsMemory}
use Rattle.pr_function_laws.proofs.Stepping.BreakpointLemmas.{foreign-entry}
use Rattle.pr_function_laws.proofs.Pending.FrontLemmas as fronts
use Rattle.pr_function_laws.proofs.Marks.KeptPlaces.{Apart, Kept, apart-at}
use Rattle.pr_function_laws.proofs.Pending.KnownLaws.{known-at}
use Rattle.pr_function_laws.proofs.Listing.ListedStates as states
use Rattle.pr_function_laws.proofs.Listing.ListedStates.{clear, due, hidden, killed-now, lost, since-on, standing}
use Rattle.pr_function_laws.proofs.Listing.ListedSteps.{fits, pends-marks, pends-rests}
use Rattle.pr_function_laws.proofs.OpenedProcesses.OpenedCalls.{IsSo}
use Rattle.pr_function_laws.proofs.OpenedProcesses.OpenedLaws.{Goes, before-goes, bytes-front, goes-holds}
use Rattle.pr_function_laws.proofs.OpenedProcesses.OpenedLemmas.{Holds, control-made, control-sole}
use Rattle.pr_function_laws.proofs.Pending.PendingReads.{ReadAt, at_lwps, at_memory, at_status, read_handle_if, reads-at, stage, status-stage}
use Rattle.pr_function_laws.proofs.Pending.PendingWalk.{IsStill, On, Pending, entry-next, first-pends, is_to_run, on-stays, on-turns, own-outlasts}
use Rattle.pr_function_laws.proofs.Listing.RestPlaces.{RestsAt}
use Rattle.pr_function_laws.proofs.Listing.TracedPlaces.{traced-there}
use Rattle.pr_function_laws.specs.Lifted.{HasControl}
use Rattle.pr_function_laws.specs.ListedEvents.{is_to_show}
use Rattle.pr_function_laws.specs.OneEvent.{HasMetNothing, is_looked_at}
use Rattle.pr_function_laws.specs.ReachedRuns.{IsReachedFunctionRun}
use Rattle.pr_function_laws.specs.Opened.{IsFunctionRun, WasNotInterrupted, functions_at, is_opened}
use Rattle.pr_function_laws.specs.Runs.{functions_on}

-- A process that rests while truss goes on, at one entry: what it knows of the process then, that it rests on unless
-- the status is read, and that an lwp of it goes on to stand on its event unless SIGKILL ends it.

-- ---- processes in which no lwp stands on an event

pub unmet-alone : (p q : TracedProcess) → IsUndisturbed p q → HasMetNothing p → HasMetNothing q
unmet-alone p q alone unmet n k there = let a = alone.each n k there in ap has_met a.1.1 ∙ unmet n a.0 a.1.0

pub looked-run : (st : Stage) (place : ℕ) → is_to_run st place ≡ true → is_looked_at st place ≡ true
looked-run (ReadingText at l from len) place is = is
looked-run (Running at) place is = is
looked-run _ place is = absurd (false≢true is)

module _ (n k : ℕ) (o : Options) (s : TracedState) (h : List Entry) (run : IsReachedFunctionRun n k o s h)
    (all_calm : All WasNotInterrupted (exchanges k h)) (pid : ℕ) where
  abbrev T : List Entry → TrussState
  T front = functions_at k o front

  abbrev S : List Entry → TracedState
  S front = state_after s front

  pub calm-at : (f later : List Entry) → h ≡ f ++ later → All WasNotInterrupted (exchanges k f)
  calm-at f later is =
      all-front WasNotInterrupted (exchanges k f) (exchanges k later)
      (subst (All WasNotInterrupted) (ap (exchanges k) is ∙ exchanges-both k f later) all_calm)

  -- ---- how the process stands after some entries

  abbrev RestsSo : List Entry → ℕ → Type 0
  RestsSo f place = RestsAt (functions_at k o f) pid place

  abbrev Missing : List Entry → ℕ → LwpEvent → TracedProcess → List LwpEvent → Type 0
  Missing = states.Missing k o s pid

  abbrev Stands : List Entry → List LwpEvent → Type 0
  Stands = states.Stands k o s pid RestsSo

  abbrev ReadsIts : List Entry → Entry → Type 0
  ReadsIts = states.ReadsIts k o s pid

  -- ---- one entry

  module _ (f : List Entry) (e : Entry) (later : List Entry) (is : h ≡ f ++ e ∷ later) where
    abbrev next : List Entry
    next = f ++ e ∷ []

    abbrev t : TrussState
    t = T f

    abbrev now : TracedState
    now = S f

    next-is : h ≡ next ++ later
    next-is = is ∙ sym (append_assoc f (e ∷ []) later)

    pub calm : All WasNotInterrupted (exchanges k f)
    calm = calm-at f (e ∷ later) is

    calm-next : All WasNotInterrupted (exchanges k next)
    calm-next = calm-at next later next-is

    pub here : Goes ⊥ k o t now
    here = fronts.here n k o s h run.of f e later is calm

    pub there : Goes (Unit {0}) k o t now
    there =
        before-goes n k o s h run.of f (e ∷ later) is calm (Unit {0}) (λ r. run.reached)
        (λ r. bytes-front f (e ∷ later) (subst HasBytes is run.bytes))

    pub legal : IsLegalEntry n now e
    legal = fronts.legal n k o s h run.of f e later is calm

    pub lawful : IsLawful now
    lawful = let g = here in g.lawful

    pub has : has_functions t.options ≡ true
    has = fronts.has n k o s h run.of f e later is calm

    pub kept : Kept (IsSo ⊥ k t.options now) t
    kept = let g = here in g.kept

    pub apart : Apart t.traced
    apart = let w = kept in w.apart

    pub run-here : IsFunctionRun n k o s (f ++ e ∷ later)
    run-here = subst (λ (es : List Entry). IsFunctionRun n k o s es) is run.of

    pub state-is : S next ≡ after now e
    state-is = fronts.next-state n k o s h run.of f e later is calm

    pub truss-is : T next ≡ functions_on t (exchange_of k e)
    truss-is = fronts.pushed n k o s h run.of f e later is calm

    pub over : (i : ℕ) → i < now.system.made → live_process now.system i ≡ None
        → live_process (after now e).system i ≡ None
    over i its_made gone = stays-over n now e i lawful legal its_made gone

    pub live-next : (q : TracedProcess) → live_process (S next).system pid ≡ Some q
        → live_process (after now e).system pid ≡ Some q
    live-next q live = ap (λ (u : TracedState). live_process u.system pid) (sym state-is) ∙ live

    pub calm-of : (x : Exchange) → exchange_of k e ≡ Some x → WasNotInterrupted x
    calm-of x own =
        All-head WasNotInterrupted x (exchanges k later)
        (subst (λ y. All WasNotInterrupted (cons_option y (exchanges k later))) own
        (subst (All WasNotInterrupted) (cons-exchanges k e later)
        (all-rest WasNotInterrupted (exchanges k f) (exchanges k (e ∷ later))
        (subst (All WasNotInterrupted) (ap (exchanges k) is ∙ exchanges-both k f (e ∷ later)) all_calm))))

    -- ---- a process that rests

    module _ (place : ℕ) (w : RestsAt t pid place) where
      abbrev was : Traced
      was = at_place t.traced place

      holds : Holds k o now None was.pid was.control was.status was.lstatus was.memory
      holds =
          let g = here in
          subst (λ (y : Options). Holds k y now None was.pid was.control was.status was.lstatus was.memory) g.options
          (goes-holds ⊥ k o t now g place w.within w.opened)

      control : HasControl k was.pid was.control now
      control = let x = holds in x.its

      pub made : pid < now.system.made
      made = subst (λ i. i < now.system.made) w.its (control-made k was.pid was.control now lawful control)

      pub sole : HasNoOtherWriter k pid now.opens
      sole =
          subst (λ i. HasNoOtherWriter k i now.opens) w.its (control-sole k was.pid was.control now lawful control)

      pub live-was : (p : TracedProcess) → live_process now.system pid ≡ Some p
          → live_process now.system was.pid ≡ Some p
      live-was p live = ap (live_process now.system) w.its ∙ live

      live-own : (p : TracedProcess) → live_process now.system was.pid ≡ Some p → live_process now.system pid ≡ Some p
      live-own p live = ap (live_process now.system) (sym w.its) ∙ live

      pub pending-now : (H : TracedProcess → Type 0)
          → ((p : TracedProcess) → live_process now.system pid ≡ Some p → H p) → Pending k o s was H f
      pending-now H so = record {
        pends = first-pends (IsSo ⊥ k t.options now) t kept place w.within w.new
            (fits n k o s f (e ∷ later) pid run-here) w.opened w.away;
        is = record { holds = holds; has = λ q live. so q (live-own q live) };
      }

      -- a read of its status is one at the stage of reading it
      abbrev NotRead : Type 0
      NotRead =
          (x : Exchange) → exchange_of k e ≡ Some x → (q : ℕ) → t.stage ≡ ReadingStatus q → (traced_at t q).pid ≢ pid

      still : NotRead → (x : Exchange) → exchange_of k e ≡ Some x → IsStill was x
      still other x own = record {
        calm = calm-of x own;
        no_read = λ number named reads.
            let p = pending-now (λ q. Unit {0}) (λ q live. tt) in
            let r =
            stage n k o s h run f later e is calm was (λ q. Unit {0}) p x own
            (reads ∙ ap read_record (sym named)) in
            other x own r.place r.at (r.its ∙ w.its);
      }

      quiet-reads : NotRead → ReadsIts f e → ⊥
      quiet-reads other (inl r) =
          let x : Exchange = record { call = call.Read r.handle r.from r.len; reply = reply.Bytes r.bytes } in
          let sent = fronts.makes-next n k o s h run.of f e later is calm x r.is in
          let at =
          status-stage t r.held r.file
          (reads-at n k o now t here (known-at n k o s h run.of f (e ∷ later) is calm) has r.handle r.held r.there
          (ap read_handle_if sent)) in
          other x r.is at.place at.at (at.its ∙ r.of)
      quiet-reads other (inr r) =
          let x : Exchange = record { call = call.Read r.handle r.from r.len; reply = reply.Bytes r.bytes } in
          let sent = fronts.makes-next n k o s h run.of f e later is calm x r.is in
          by
          (reads-at n k o now t here (known-at n k o s h run.of f (e ∷ later) is calm) has r.handle r.held r.there
          (ap read_handle_if sent))
        where
          by : ReadAt t r.held → ⊥
          by (at_lwps at within stage_is its file_is) =
              let closed : not (at == place) ≡ true =
              ap (λ (st : Stage). is_opened st place) (sym stage_is) ∙ w.opened in
              apart-at t.traced at place within w.within
              (λ one. false≢true (sym (ap not (eq-eqb at place one)) ∙ closed)) apart
              (its ∙ r.of ∙ sym w.its)
          by (at_status at within stage_is its file_is) =
              let both : Lstatus ≡ Status = sym r.file ∙ file_is in absurd (cc)
          by (at_memory file_is) = let both : Lstatus ≡ Mem = sym r.file ∙ file_is in absurd (cc)

      -- one entry more
      module _ (H : TracedProcess → Type 0) (stays : (p q : TracedProcess) → IsUndisturbed p q → H p → H q)
          (so : (p : TracedProcess) → live_process now.system pid ≡ Some p → H p)
          (turns : (own : ℕ) (turn : LwpTurn) → e ≡ record { actor = Lwp was.pid own; act = act.Turn turn.turned }
          → turn_of now.system was.pid own ≡ Some turn → (after now e).system ≡ turn.system → (q : TracedProcess)
          → live_process turn.system was.pid ≡ Some q → H q) (other : NotRead) where
        pending-next : Pending k o s was H next
        pending-next =
            entry-next n k o s h run.of was H stays f e later is calm (pending-now H so) turns (still other)

        place-next : (q : ℕ) × ((q < length (T next).traced) × ((traced_at (T next) q).pid ≡ was.pid))
        place-next =
            let p = pending-next in
            let i = p.is in
            let x = i.holds in
            traced-there n k o s h run.of next later next-is calm-next was.pid was.control x.its

        rests-next : RestsAt (T next) pid place-next.0
        rests-next =
            let p = pending-next in
            subst (λ i. RestsAt (T next) i place-next.0) w.its
            (pends-rests was.pid was (T next) p.pends place-next.0 place-next.1.0 place-next.1.1)

        marks-next : marks_at (T next) place-next.0 ≡ marks_at t place
        marks-next =
            let p = pending-next in
            pends-marks was.pid was (T next) p.pends place-next.0 place-next.1.0 place-next.1.1

        pub has-next : (q : TracedProcess) → live_process (S next).system pid ≡ Some q → H q
        has-next q live =
            let p = pending-next in
            let i = p.is in
            i.has q (ap (live_process (S next).system) w.its ∙ live)

      -- ---- an lwp of it stands on an event

      module _ (p : TracedProcess) (live : live_process now.system pid ≡ Some p) (event : LwpEvent) (on : On event p)
          (other : NotRead) where
        on-now : (q : TracedProcess) → live_process now.system pid ≡ Some q → On event q
        on-now q live_q = subst (On event) (same_Some p q (sym live ∙ live_q)) on

        on-turn : (own : ℕ) (turn : LwpTurn)
            → e ≡ record { actor = Lwp was.pid own; act = act.Turn turn.turned }
            → turn_of now.system was.pid own ≡ Some turn → (after now e).system ≡ turn.system → (q : TracedProcess)
            → live_process turn.system was.pid ≡ Some q → On event q
        on-turn own turn entry_is took after_is q later_live =
            on-turns event now.system was.pid own turn p q (live-was p live) took later_live on

        -- it lives on, or SIGKILL ends it now
        data Fate : Type 0 where
          lives : (q : TracedProcess) → live_process (after now e).system pid ≡ Some q → KeepsMemory p q → Fate
          killed : (z : TracedProcess) → live_process (after now e).system pid ≡ None
              → process_of (after now e).system pid ≡ Some z → z.ended ≡ Some (signal_number Kill) → Fate

        by-halts : HaltsOn pid p (after now e).system → Fate
        by-halts (halt.goes_on q live_q halting memory) = lives q live_q memory
        by-halts (halt.killed z gone left status) = killed z gone left status

        by-outlasts : Outlasts was.pid p (after now e).system → Fate
        by-outlasts (outlast.lives q live_q alone) =
            lives q (ap (live_process (after now e).system) (sym w.its) ∙ live_q) alone.memory
        by-outlasts (outlast.killed z gone left status) =
            killed z (ap (live_process (after now e).system) (sym w.its) ∙ gone)
            (ap (process_of (after now e).system) (sym w.its) ∙ left) status

        fate-of : (x : Option Exchange) → exchange_of k e ≡ x → Fate
        fate-of None foreign =
            let fe = foreign-entry n k now e legal foreign in
            by-halts
            (others-halt n now k pid lawful sole p live (event-halts p event.id event.event on) e legal fe.other)
        fate-of (Some x) own =
            by-outlasts
            (own-outlasts n k o s h run.of was (On event) (on-stays event) f e later is calm
            (pending-now (On event) on-now)
            x own (still other x own) p (live-was p live))

        missing-next : (missing : List LwpEvent) → Missing f place event p missing → (q : TracedProcess)
            → KeepsMemory p q
            → Missing next (place-next (On event) (on-stays event) on-now on-turn other).0 event q missing
        unfolding since-on
        missing-next missing (hidden not_shown) q memory =
            hidden
            (ap (λ m. is_to_show o m event.event) (marks-next (On event) (on-stays event) on-now on-turn other)
            ∙ not_shown)
        missing-next missing (due to_show since kept_so) q memory =
            due
            (ap (λ m. is_to_show o m event.event) (marks-next (On event) (on-stays event) on-now on-turn other)
            ∙ to_show)
            (since-on k o s pid f e event since (quiet-reads other))
            (memory-next since.process p q kept_so memory)

        made-next : pid < (S next).system.made
        made-next =
            subst (λ (u : TracedState). pid < u.system.made) (sym state-is) (stays-made n now e pid lawful legal made)

        pub stand-next : (missing : List LwpEvent) → Missing f place event p missing → Stands next missing
        unfolding since-on
        stand-next missing m = by m (fate-of (exchange_of k e) refl)
          where
            gone-next : live_process (after now e).system pid ≡ None → live_process (S next).system pid ≡ None
            gone-next gone = ap (λ (u : TracedState). live_process u.system pid) state-is ∙ gone

            by : {missing : List LwpEvent} → Missing f place event p missing → Fate → Stands next missing
            by m (lives q live_q memory) =
                let there_q : live_process (S next).system pid ≡ Some q =
                ap (λ (u : TracedState). live_process u.system pid) state-is ∙ live_q in
                standing (place-next (On event) (on-stays event) on-now on-turn other).0
                (rests-next (On event) (on-stays event) on-now on-turn other) q there_q event
                (has-next (On event) (on-stays event) on-now on-turn other q there_q) _ (missing-next _ m q memory)
            by (hidden not_shown) (killed z gone left status) =
                clear (λ place2 rest q live_q. absurd (none-some q (sym (gone-next gone) ∙ live_q)))
            by (due to_show since kept_so) (killed z gone left status) =
                lost event (since-on k o s pid f e event since (quiet-reads other)) made-next (gone-next gone)
                (killed-now k o s pid f e since.front since.entry since.mid since.is p live gone z left status)
