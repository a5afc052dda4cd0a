use Rattle.std.proofs.Common.{◌≡◌, ◌≢◌, ◌<◌, ◌++◌, ◌⊎◌, ℕ, Bool, true, false, Some, None, List, [], ◌∷◌, length, refl}
use Rattle.std.proofs.Common.{sym, subst, ap, ◌∙◌, inl, inr}
use Rattle.std.proofs.lemmas.Bool.{cases_Bool, cases_eq, false≢true}
use Rattle.std.proofs.lemmas.List.{append-nil, append_assoc}
use Rattle.std.proofs.lemmas.Option.{none-some, same_Some}
use Rattle.std.specs.List.{slice_get}
use Rattle.pr_api.specs.Entries.{call_entry}
use Rattle.pr_function_hides.proofs.Files.CallFacts.{controllers-push, legal-here, open-finds, same-truss}
use Rattle.pr_function_hides.proofs.GoingOn.CalmCalls.{its-turn}
use Rattle.pr_function_hides.proofs.Clean.CleanCalls.{Clean, Leaves, Opens, Over}
use Rattle.pr_function_hides.proofs.Clean.CleanWalk.{cleaned-at}
use Rattle.pr_function_hides.proofs.FaultStops.GoingCalls.{Going, going}
use Rattle.pr_function_hides.proofs.FaultStops.GoingNext as Next
use Rattle.pr_function_hides.proofs.FaultStops.LeftCalls.{begun-then, leaves-on, leaves-then, left-then}
use Rattle.pr_function_hides.proofs.StandingFaults.OwnFaults.{CountLess, IsOwnKind, StandsAtOwn, clean-none, less-clean, none-stand}
use Rattle.pr_function_hides.proofs.Replies.OwnFiles.{HasItsFiles}
use Rattle.pr_function_hides.proofs.StandingFaults.CountedPlaces.{IsPlaced, placed-at}
use Rattle.pr_function_hides.proofs.Replies.PlantedReplies.{first-so-truss}
use Rattle.pr_function_hides.proofs.FaultStops.StoppedCalls as Away
use Rattle.pr_function_hides.proofs.FaultStops.StoppedCalls.{other-clean, other-left, other-rests, other-soon}
use Rattle.pr_function_hides.proofs.FaultStops.StoppedFaults.{CleanIn, LeftAs, Posted, RestsIn, SoonIn, framed-clean, framed-left}
use Rattle.pr_function_hides.proofs.FaultStops.StoppedFaults.{framed-rests, framed-soon}
use Rattle.pr_function_hides.proofs.FaultStops.StoppedTurns.{turn-clean, turn-left, turn-rests, turn-soon}
use Rattle.pr_function_hides.proofs.Tidy.TidyCalls as Calls
use Rattle.pr_function_hides.proofs.Tidy.TidyEntries.{at-is}
use Rattle.pr_function_hides.proofs.Tidy.TidyKept.{Course, Kept, goes_on, has-files, leaves_them}
use Rattle.pr_function_hides.proofs.Tidy.TidyLaw.{kept-at}
use Rattle.pr_function_hides.proofs.Replies.UnopenedClean.{unopened-clean}
use Rattle.pr_function_hides.specs.RunsOfTrusses.{IsRunOfTrusses}
use Rattle.pr_function_hides.specs.TidyWrites.{IsTrussAfter}
use Rattle.pr_function_hides.specs.Treating.{is_run_soon}
use Rattle.pr_function_laws.proofs.OpenedProcesses.StopTurns.{free-stopless}
use Rattle.pr_function_laws.specs.Opened.{is_opened}
use Rattle.pr_hidden.specs.Covers.{Cover, Covers}
use Rattle.pr_hidden.specs.Hiders.{Hiders, covers_after, covers_at, hides}
use Rattle.pr_lawful.proofs.ProcessParts.HandleLemmas.{handle-at, handle-writer}
use Rattle.pr_hidden.specs.Tidiness.{IsPassiveBut}
use Rattle.pr_model.proofs.TurnLemmas.{turn-taken}
use Rattle.pr_model.specs.Calls.{answer_to}
use Rattle.pr_model.specs.Handles.{has_writer}
use Rattle.pr_model.specs.Legal.{IsLegal, IsLegalEntry, state_after}
use Rattle.pr_model.specs.State.{TracedLwp, TracedProcess, TracedState, live_process, lwp_of}
use Rattle.pr_model.specs.declared.calls.Call.{Call}
use Rattle.pr_model.specs.declared.calls.File.TheVariants as file
use Rattle.pr_model.specs.declared.calls.Mode.TheVariants.{WriteExcl}
use Rattle.pr_model.specs.declared.calls.Reply.{Reply}
use Rattle.pr_model.specs.declared.events.Act.{Act}
use Rattle.pr_model.specs.declared.events.Act.TheVariants as act
use Rattle.pr_model.specs.declared.events.Actor.{Actor}
use Rattle.pr_model.specs.declared.events.Actor.TheVariants.{Clock, Controller, Lwp}
use Rattle.pr_model.specs.declared.events.Entry.{Entry}
use Rattle.pr_model.specs.declared.events.Turned.{Turned}
use Rattle.pr_model.specs.declared.handles.Held.{Held}
use Rattle.pr_model.specs.declared.lwps.Phase.TheVariants.{Faulted as AtFault}
use Rattle.pr_model.specs.declared.stops.Stop.TheVariants as stop
use Rattle.pr_num.specs.declared.faults.Flt.{Flt}
use Rattle.pr_probe_laws.specs.StepMarks.{IsUnstepped}
use Rattle.pr_truss.specs.Asides.{marks_at}
use Rattle.pr_truss.specs.FunctionCalls.{function_call_of}
use Rattle.pr_truss.specs.FunctionFeeding.{fed_functions}
use Rattle.pr_truss.specs.NextCalls.{call_of, open_control}
use Rattle.pr_truss.specs.Replies.{answer_of}
use Rattle.pr_truss.specs.Trusses.{TrussState, first_truss, traced_at}
use Rattle.pr_truss.specs.declared.asides.Aside.TheVariants.{Nothing}
use Rattle.pr_truss.specs.declared.processes.Traced.{Traced}
use Rattle.pr_truss.specs.declared.replies.Answer.{Answer}
use Rattle.pr_truss.specs.declared.replies.Answer.TheVariants.{Accepted, Gone, Interrupted, Refused}
use Rattle.pr_truss.specs.declared.stages.Stage.TheVariants.{OpeningControl}
use Rattle.pr_world.specs.ControllerStates.{ControllerState}
use Rattle.pr_world.specs.Protocol.{controllers_after}

-- Along the history each lwp of what a truss has opened that stands at a fault of its own stands on the stop of it,
-- also while truss leaves its processes; and so no such fault is posted.

-- whether a reply was an interrupt
interrupted-or : (a : Answer) → (a ≡ Interrupted) ⊎ (a ≢ Interrupted)
interrupted-or Interrupted = inl refl
interrupted-or Accepted = inr (λ (same : Accepted ≡ Interrupted). cc)
interrupted-or (Refused errno) = inr (λ (same : Refused errno ≡ Interrupted). cc)
interrupted-or Gone = inr (λ (same : Gone ≡ Interrupted). cc)

module _ {n : ℕ} {who : Hiders} {controllers : List ControllerState} {first : TracedState}
    {h : List Entry} (run : IsRunOfTrusses n who controllers first h) (passive : IsPassiveBut who h)
    (unstepped : IsUnstepped first.system) where
  abbrev here : List Entry → TracedState
  here front = state_after first front

  abbrev covers : List Entry → Covers
  covers front = covers_at who first front

  abbrev After : List Entry → ℕ → TrussState → Type 0
  After front k t = IsTrussAfter who controllers first h front k t

  abbrev KeptAfter : List Entry → Type 0
  KeptAfter front = Kept who controllers first h front

  abbrev kept : (front back : List Entry) → h ≡ front ++ back → KeptAfter front
  kept = kept-at run

  abbrev RestsAt : List Entry → ℕ → Type 0
  RestsAt front pid = RestsIn run front pid

  abbrev SoonAt : List Entry → ℕ → ℕ → Type 0
  SoonAt front flags pid = SoonIn run front flags pid

  abbrev CleanAt : List Entry → ℕ → Type 0
  CleanAt front pid = CleanIn run front pid

  abbrev LeftAt : List Entry → Bool → ℕ → Type 0
  LeftAt front attached pid = LeftAs run front attached pid

  abbrev PostedAt : List Entry → Type 0
  PostedAt front = Posted run front

  -- one that a truss has not opened whole
  shut : (front back : List Entry) → h ≡ front ++ back → (k : ℕ) → hides who k ≡ true → (t : TrussState)
      → After front k t → t.leaving ≡ false → (i : ℕ) → is_opened t.stage i ≡ false
      → Clean who first front (traced_at t i).pid ⊎ Over who first front (traced_at t i).pid
  shut front back place k hider t is off =
      unopened-clean (Over who first front) (Opens who first front) (Leaves who first front) (Clean who first front)
      (λ step pid w. w.0) (λ pid w. w.0) t (cleaned-at run passive unstepped front back place k hider t is off)

  -- ---- of the state of each truss

  record Stands (front : List Entry) (t : TrussState) : Type 0 where
    rests : t.leaving ≡ false → (q : ℕ) → q < length t.traced → is_opened t.stage q ≡ true
        → is_run_soon t.stage q ≡ false → RestsAt front (traced_at t q).pid
    soon : t.leaving ≡ false → (q : ℕ) → q < length t.traced → is_run_soon t.stage q ≡ true
        → SoonAt front (marks_at t q).flags (traced_at t q).pid
    clean : t.leaving ≡ false → (q : ℕ) → q < length t.traced → is_opened t.stage q ≡ true → (traced_at t q).old ≢ 0
        → CleanAt front (traced_at t q).pid
    left : t.leaving ≡ true → (q : ℕ) → q < length t.traced → LeftAt front (traced_at t q).attached (traced_at t q).pid

  abbrev Given : List Entry → Type 0
  Given front = (k : ℕ) → hides who k ≡ true → (t : TrussState) × (After front k t × Stands front t)

  given-at : (front : List Entry) → Given front → (k : ℕ) → hides who k ≡ true → (t : TrussState) → After front k t
      → Stands front t
  given-at front given k hider t is =
      let w = given k hider in subst (Stands front) (same-truss w.0 t _ w.1.0 is) w.1.1

  posted-of : (front : List Entry) → Given front → PostedAt front
  posted-of front given = record {
    rests = λ k hider t is. let w = given-at front given k hider t is in w.rests;
    soon = λ k hider t is. let w = given-at front given k hider t is in w.soon;
    clean = λ k hider t is. let w = given-at front given k hider t is in w.clean;
    left = λ k hider t is. let w = given-at front given k hider t is in w.left;
  }

  at-first : PostedAt []
  at-first = posted-of [] (λ k hider.
      let i = run.are.trusses k hider in
      let none : (q : ℕ) → q < length (first_truss i.options).traced → ⊥ =
      (λ q within. false≢true (first-so-truss (λ (v : Traced). false ≡ true) i.options q within)) in (
        first_truss i.options,
        (
          i.starts,
          record {
            rests = λ off q within opened quiet. absurd (none q within);
            soon = λ off q within soon. absurd (none q within);
            clean = λ off q within opened old. absurd (none q within);
            left = λ on q within. absurd (none q within);
          },
        ),
      ))

  -- ---- turns and ticks

  turn-posted : (front back : List Entry) (acting id : ℕ) (turned : Turned)
      → h ≡ front ++ record { actor = Lwp acting id; act = act.Turn turned } ∷ back → PostedAt front
      → PostedAt (front ++ record { actor = Lwp acting id; act = act.Turn turned } ∷ [])
  unfolding controllers_after
  turn-posted front back acting id turned place posted =
      let e : Entry = record { actor = Lwp acting id; act = act.Turn turned } in
      posted-of (front ++ e ∷ []) (λ k hider.
      let now = kept front (e ∷ back) place in
      let w = now.trusses k hider in (
        w.t,
        (
          ap (λ (cs : List ControllerState). slice_get cs k) (controllers-push controllers front e) ∙ w.is,
          record {
            rests = λ off q within opened quiet.
                turn-rests run front back acting id turned place posted k hider off q within opened
                quiet;
            soon = λ off q within soon.
                turn-soon run front back acting id turned place posted k hider off q within soon;
            clean = λ off q within opened old.
                turn-clean run front back acting id turned place posted k hider off q within opened
                old;
            left = λ on q within. turn-left run front back acting id turned place posted k hider on q within;
          },
        ),
      ))

  tick-posted : (front back : List Entry) (moment : ℕ)
      → h ≡ front ++ record { actor = Clock; act = act.Tick moment } ∷ back → PostedAt front
      → PostedAt (front ++ record { actor = Clock; act = act.Tick moment } ∷ [])
  unfolding controllers_after covers_after
  tick-posted front back moment place posted =
      let e : Entry = record { actor = Clock; act = act.Tick moment } in
      let now = kept front (e ∷ back) place in
      let same : (pid : ℕ) → covers (front ++ e ∷ []) pid ≡ covers front pid =
      (λ pid. ap (λ (cs : Covers). cs pid) (at-is run front e back place now)) in
      let less : (pid : ℕ) → CountLess (covers front pid) (covers (front ++ e ∷ []) pid) =
      (λ pid m is. sym (ap (λ (d : Cover). d.faulted m) (same pid)) ∙ is) in
      posted-of (front ++ e ∷ []) (λ k hider.
      let w = now.trusses k hider in (
        w.t,
        (
          ap (λ (cs : List ControllerState). slice_get cs k) (controllers-push controllers front e) ∙ w.is,
          record {
            rests = λ off q within opened quiet.
                framed-rests run front e back place k hider refl q within (λ own is. cc)
                (less (traced_at w.t q).pid) (ap (λ (d : Cover). d.patches) (same (traced_at w.t q).pid))
                (posted.rests k hider w.t w.is off q within opened quiet);
            soon = λ off q within soon.
                framed-soon run front e back place k hider refl q within (λ own is. cc)
                (less (traced_at w.t q).pid) (marks_at w.t q).flags (posted.soon k hider w.t w.is off q within soon);
            clean = λ off q within opened old.
                framed-clean run front e back place k hider refl q within (λ own is. cc)
                (less (traced_at w.t q).pid) (posted.clean k hider w.t w.is off q within opened old);
            left = λ on q within.
                framed-left run front e back place k hider refl q within (λ own is. cc)
                (less (traced_at w.t q).pid) (traced_at w.t q).attached (posted.left k hider w.t w.is on q within);
          },
        ),
      ))

  -- ---- calls

  module _ (front back : List Entry) (j : ℕ) (c : Call) (r : Reply)
      (place : h ≡ front ++ call_entry j c r ∷ back) (posted : PostedAt front) where
    abbrev e : Entry
    e = call_entry j c r

    abbrev later_front : List Entry
    later_front = front ++ e ∷ []

    abbrev v : TracedState
    v = here front

    abbrev kept-now : KeptAfter front
    kept-now = kept front (e ∷ back) place

    less-later : (pid : ℕ) → CountLess (covers front pid) (covers later_front pid)
    less-later = Away.less-now run front back j c r place

    module _ (hider : hides who j ≡ true) where
      abbrev tr : TrussState
      tr = Calls.tr run front back j c r place kept-now hider

      abbrev u : TrussState
      u = fed_functions tr r

      -- ---- where it goes on

      module _ (on : Going run front back j c r place hider) where
        -- one that it has not opened whole
        bare-clean : (i : ℕ) → i < length tr.traced → is_opened tr.stage i ≡ false
            → CleanAt later_front (traced_at tr i).pid
        bare-clean i inside bare = by (shut front (e ∷ back) place j hider tr on.is on.off i bare)
          where
            pid : ℕ
            pid = (traced_at tr i).pid

            by : Clean who first front pid ⊎ Over who first front pid → CleanAt later_front pid
            by (inl none) = λ x later. less-clean (covers front pid) (covers later_front pid) (less-later pid) none
            by (inr over) = λ x later.
                (let was =
                Next.was-live run front back j c r place posted hider on i inside x later in
                absurd (none-some was.0 (sym over ∙ was.1)))

        bare : (i : ℕ) → i < length tr.traced → is_opened tr.stage i ≡ false
            → RestsAt later_front (traced_at tr i).pid
        bare i inside shut x later =
            none-stand (covers later_front (traced_at tr i).pid) x
            (clean-none (covers later_front (traced_at tr i).pid) x (bare-clean i inside shut x later))

        -- in a process of which it opens the control file none counted so: no truss traced it
        begun : (pid : ℕ) → tr.stage ≡ OpeningControl pid → tr.aside ≡ Nothing → answer_of r ≡ Accepted
            → RestsAt later_front pid
        unfolding function_call_of call_of
        begun pid is idle accepted x later id w =
            by (placed-at run front (e ∷ back) place pid id (less-later pid id w.own))
          where
            opens : c ≡ open_control pid
            opens = same_Some c (open_control pid) (sym (on.call idle) ∙ ap (function_call_of tr) is)

            by : IsPlaced run front pid
                → (w.lwp.control.stop ≡ Some (stop.Faulted w.fault))
                × IsOwnKind (covers later_front pid) w.lwp w.fault
            by p =
                let it = kept-now.trusses p.k p.hider in
                let own = Calls.own run front back j c r place kept-now hider in
                let files : HasItsFiles p.k p.t v =
                subst (λ (y : TrussState). HasItsFiles p.k y v) (same-truss it.t p.t _ it.is p.is)
                (has-files it) in
                let held : Held =
                record {
                  controller = p.k;
                  pid = (traced_at p.t p.place).pid;
                  lwp = 0;
                  file = file.Ctl;
                  mode = WriteExcl;
                } in
                absurd (open-finds v j pid own.answer (ap (answer_to v j) (sym opens) ∙ own.is)
                (ap answer_of own.replied ∙ accepted)
                (subst (λ m. has_writer m v.opens ≡ true) p.own
                (handle-writer v.opens (traced_at p.t p.place).control held (let l = on.lawful in l.fitting)
                (handle-at v.opens p.k (traced_at p.t p.place).control held (files.control p.place p.within)) refl)))

        going-stands : Stands later_front u
        going-stands = record {
          rests = λ off q within opened quiet.
              Next.rests-then run front back j c r place posted hider on bare begun q within quiet;
          soon = λ off q within soon.
              Next.soon-then run front back j c r place posted hider on q within soon;
          clean = λ off q within opened old.
              Next.clean-then run front back j c r place posted hider on bare-clean q within opened
              old;
          left = λ leaves.
              absurd (false≢true
              (sym (Next.stays-off run front back j c r place posted hider on) ∙ leaves));
        }

      -- ---- where it leaves its processes then

      left-stands : u.leaving ≡ true
          → ((q : ℕ) → q < length u.traced → LeftAt later_front (traced_at u q).attached (traced_at u q).pid)
          → Stands later_front u
      left-stands leaves all = record {
        rests = λ off. absurd (false≢true (sym off ∙ leaves));
        soon = λ off. absurd (false≢true (sym off ∙ leaves));
        clean = λ off. absurd (false≢true (sym off ∙ leaves));
        left = λ on. all;
      }

      own-stands : Stands later_front u
      own-stands =
          let w = Calls.truss-now run front back j c r place kept-now hider in
          by w.course (interrupted-or (answer_of r))
        where
          by : Course tr → (answer_of r ≡ Interrupted) ⊎ (answer_of r ≢ Interrupted) → Stands later_front u
          by (goes_on g flags) (inr calm) = going-stands (going run front back j c r place hider g calm)
          by (goes_on g flags) (inl interrupted) =
              let w = Calls.truss-now run front back j c r place kept-now hider in
              let clean = cleaned-at run passive unstepped front (e ∷ back) place j hider w.t w.is g.off in
              left-stands (leaves-then run front back j c r place posted hider g clean interrupted)
              (begun-then run front back j c r place posted hider g clean interrupted)
          by (leaves_them on there) answered =
              left-stands (leaves-on run front back j c r place posted hider on there)
              (left-then run front back j c r place posted hider on there)

    called-posted : PostedAt later_front
    called-posted = posted-of later_front (λ k hider. elim (cases_eq j k) [
      | inl same ↦ subst Own same own-given hider
      | inr apart ↦ other-given k hider apart
    ])
      where
        Own : ℕ → Type 0
        Own k = hides who k ≡ true → (t : TrussState) × (After later_front k t × Stands later_front t)

        own-given : Own j
        own-given hider = (
          fed_functions (Calls.tr run front back j c r place kept-now hider) r,
          (Calls.own-after run front back j c r place kept-now hider, own-stands hider),
        )

        other-given : (k : ℕ) (hider : hides who k ≡ true) → j ≢ k
            → (t : TrussState) × (After later_front k t × Stands later_front t)
        other-given k hider apart =
            let w = kept-now.trusses k hider in (
              w.t,
              (
                Calls.foreign-same run front back j c r place kept-now k apart ∙ w.is,
                record {
                  rests = λ off q within opened quiet.
                      other-rests run front back j c r place k hider apart q within
                      (posted.rests k hider w.t w.is off q within opened quiet);
                  soon = λ off q within soon.
                      other-soon run front back j c r place k hider apart q (marks_at w.t q).flags
                      within (posted.soon k hider w.t w.is off q within soon);
                  clean = λ off q within opened old.
                      other-clean run front back j c r place k hider apart q within
                      (posted.clean k hider w.t w.is off q within opened old);
                  left = λ on q within.
                      other-left run front back j c r place k hider apart q (traced_at w.t q).attached within
                      (posted.left k hider w.t w.is on q within);
                },
              ),
            )

  -- ---- the history

  entry-posted : (front : List Entry) (actor : Actor) (did : Act) (back : List Entry)
      → h ≡ front ++ record { actor = actor; act = did } ∷ back
      → IsLegalEntry n (here front) (record { actor = actor; act = did }) → PostedAt front
      → PostedAt (front ++ record { actor = actor; act = did } ∷ [])
  unfolding IsLegalEntry
  entry-posted front (Controller j) (act.Call c r) back place it posted =
      called-posted front back j c r place posted
  entry-posted front (Lwp acting id) (act.Turn turned) back place it posted =
      turn-posted front back acting id turned place posted
  entry-posted front Clock (act.Tick moment) back place it posted = tick-posted front back moment place posted
  entry-posted front _ _ back place it posted = absurd it

  walk : (middle front back : List Entry) → h ≡ front ++ (middle ++ back) → PostedAt front
      → PostedAt (front ++ middle)
  walk [] front back place posted = subst PostedAt (sym (append-nil front)) posted
  walk (e ∷ middle) front back place posted =
      subst PostedAt (append_assoc front (e ∷ []) middle)
      (walk middle (front ++ e ∷ []) back (place ∙ sym (append_assoc front (e ∷ []) (middle ++ back)))
      (entry-posted front e.actor e.act (middle ++ back) place
      (legal-here n first front e (middle ++ back) (subst (λ (es : List Entry). IsLegal n first es) place run.legal))
      posted))

  pub posted-on : (front back : List Entry) → h ≡ front ++ back → PostedAt front
  posted-on front back place = walk front [] back place at-first

  -- no lwp has a turn at a fault of its own
  pub never-posted : (front back : List Entry) (pid id : ℕ) (turned : Turned) (p : TracedProcess) (l : TracedLwp)
      (f : Flt) (address : ℕ) → h ≡ front ++ record { actor = Lwp pid id; act = act.Turn turned } ∷ back
      → live_process (here front).system pid ≡ Some p → lwp_of p id ≡ Some l
      → (covers front pid).faulted id ≡ true → l.phase ≡ AtFault f address → ⊥
  never-posted front back pid id turned p l f address place live there counted phase =
      by (placed-at run front (e ∷ back) place pid id counted)
    where
      e : Entry
      e = record { actor = Lwp pid id; act = act.Turn turned }

      stands : StandsAtOwn (covers front pid) p id
      stands = record { lwp = l; there = there; own = counted; fault = f; address = address; phase = phase }

      -- the lwp whose turn it is stands on no stop
      free : l.control.stop ≡ None
      free =
          let x = its-turn run front back pid id turned place in
          let it = turn-taken (here front).system pid id x.0 x.1.0 in
          let same : it.process ≡ p = same_Some it.process p (sym it.live ∙ live) in
          let own : it.lwp ≡ l =
          same_Some it.lwp l (sym (subst (λ (y : TracedProcess). lwp_of y id ≡ Some it.lwp) same it.there) ∙ there) in
          ap (λ (y : TracedLwp). y.control.stop) (sym own) ∙ free-stopless it.process id it.lwp it.free

      not-stopped : l.control.stop ≡ Some (stop.Faulted f) → ⊥
      not-stopped is = none-some (stop.Faulted f) (sym free ∙ is)

      by : IsPlaced run front pid → ⊥
      by w = elim (cases_Bool w.t.leaving) [
        | inl on ↦ left-not (traced_at w.t w.place).attached (all.left w.k w.hider w.t w.is on w.place w.within)
        | inr off ↦ elim (cases_Bool (is_opened w.t.stage w.place)) [
          | inl opened ↦ elim (cases_Bool (is_run_soon w.t.stage w.place)) [
            | inl soon ↦
                (let it =
                subst (λ i. SoonAt front (marks_at w.t w.place).flags i) w.own
                (all.soon w.k w.hider w.t w.is off w.place w.within soon) p live id stands in
                not-stopped it.0)
            | inr quiet ↦
                (let it =
                subst (λ i. RestsAt front i) w.own
                (all.rests w.k w.hider w.t w.is off w.place w.within opened quiet) p live id stands in
                not-stopped it.0)
          ]
          | inr bare ↦ shut-not (shut front (e ∷ back) place w.k w.hider w.t w.is off w.place bare)
        ]
      ]
        where
          all : PostedAt front
          all = posted-on front (e ∷ back) place

          left-not : (attached : Bool) → LeftAt front attached (traced_at w.t w.place).pid → ⊥
          left-not true left =
              let it = subst (λ i. LeftAt front true i) w.own left p live in not-stopped (it.0 id stands)
          left-not false waits =
              false≢true (sym (waits.0 id) ∙ ap (λ i. (covers front i).faulted id) w.own ∙ counted)

          shut-not : ((m : ℕ) → (covers front (traced_at w.t w.place).pid).faulted m ≡ false)
              ⊎ (live_process (here front).system (traced_at w.t w.place).pid ≡ None) → ⊥
          shut-not (inl none) =
              false≢true (sym (none id) ∙ ap (λ i. (covers front i).faulted id) w.own ∙ counted)
          shut-not (inr over) =
              none-some p (sym over ∙ ap (live_process (here front).system) w.own ∙ live)
