use Rattle.std.proofs.Common.{◌≡◌, ◌≢◌, ◌<◌, ◌++◌, ℕ, true, cond, Some, None, List, [], ◌∷◌, length, refl, sym, subst}
use Rattle.std.proofs.Common.{ap, ◌∙◌, inl, inr}
use Rattle.std.proofs.lemmas.Bool.{cases_Bool, cases_eq, false≢true, ne_eqb}
use Rattle.std.proofs.lemmas.List.{append-nil, append_assoc}
use Rattle.std.specs.List.{slice_get}
use Rattle.pr_api.specs.Entries.{call_entry}
use Rattle.pr_function_hides.proofs.Files.CallFacts.{controllers-push, legal-here, same-truss}
use Rattle.pr_function_hides.proofs.GoingOn.CalmCalls as Calm
use Rattle.pr_function_hides.proofs.Replies.FilesWalk.{first-under-truss}
use Rattle.pr_function_hides.proofs.LeavingFaults.LeavingFirst.{First, FirstAt, first-on}
use Rattle.pr_function_hides.proofs.LeavingFaults.LeavingMet.{DoneIn, LeavesMet, Settled, alone-done, turned-done, Leads, LeftMet, Still, alone-leads, alone-met, alone-still}
use Rattle.pr_function_hides.proofs.LeavingFaults.LeavingMet.{turned-leads, turned-met, turned-still}
use Rattle.pr_function_hides.proofs.Replies.LeavingStages.{IsLeft, asks, awaits, closes_files, halts, has_ended, lifts_all}
use Rattle.pr_function_hides.proofs.Replies.LeavingStages.{looks, reads_text, waits_again}
use Rattle.pr_function_hides.proofs.LeavingFaults.LeavingStarts.{leaves-first, leaves-on}
use Rattle.pr_function_hides.proofs.MetFaults.MetCalls as Calls_met
use Rattle.pr_function_hides.proofs.MetFaults.MetTurns.{more-apart, same-at, tick-more}
use Rattle.pr_function_hides.proofs.MetFaults.MetWalk.{counts-at}
use Rattle.pr_function_hides.proofs.StandingFaults.OwnFaults.{CountLess}
use Rattle.pr_function_hides.proofs.StandingFaults.CountedPlaces.{turned-patches}
use Rattle.pr_function_hides.proofs.FaultStops.StoppedCalls as Away
use Rattle.pr_function_hides.proofs.FaultStops.StoppedTurns.{less-apart}
use Rattle.pr_function_hides.proofs.FaultStops.StoppedWalk.{posted-on}
use Rattle.pr_function_hides.proofs.Tidy.TidyEntries.{at-is}
use Rattle.pr_function_hides.proofs.Tidy.TidyLaw.{kept-at}
use Rattle.pr_hidden.specs.Hiders.{covers_after}
use Rattle.pr_function_hides.proofs.Tidy.TidyCalls as Calls
use Rattle.pr_function_hides.proofs.Tidy.TidyOwn.{breaks}
use Rattle.pr_function_hides.specs.RunsOfTrusses.{IsRunOfTrusses}
use Rattle.pr_function_hides.specs.TidyWrites.{IsTrussAfter}
use Rattle.pr_hidden.specs.Covers.{Cover, Covers}
use Rattle.pr_hidden.specs.Hiders.{Hiders, covers_at, hides}
use Rattle.pr_model.specs.Legal.{IsLegal, IsLegalEntry, state_after}
use Rattle.pr_model.specs.State.{TracedState}
use Rattle.pr_model.specs.declared.calls.Call.{Call}
use Rattle.pr_model.specs.declared.calls.Reply.{Reply}
use Rattle.pr_model.specs.declared.events.Act.{Act}
use Rattle.pr_model.specs.declared.events.Act.TheVariants as act
use Rattle.pr_model.specs.declared.events.Actor.{Actor}
use Rattle.pr_model.specs.declared.events.Actor.TheVariants.{Clock, Controller, Lwp}
use Rattle.pr_model.specs.declared.events.Entry.{Entry}
use Rattle.pr_model.specs.declared.events.Turned.{Turned}
use Rattle.pr_truss.specs.Trusses.{TrussState, first_truss, traced_at}
use Rattle.pr_truss.specs.declared.asides.Aside.TheVariants.{Nothing}
use Rattle.pr_truss.specs.declared.processes.Traced.{Traced}
use Rattle.pr_truss_laws.specs.Exchanges.{exchange_of}
use Rattle.pr_world.specs.ControllerStates.{ControllerState}
use Rattle.pr_world.specs.Protocol.{controllers_after, controllers_at}

-- Along the history, of each truss that leaves its processes: each lwp of one at which it has still to look that
-- stands on the stop of a fault which truss takes for its own counts as standing at one of those who hide; and where
-- truss will clear the fault of the process that it leaves now, that is such a fault.

-- what is so of the first process comes to what is so of it later
first-next : (Still Leads Done Stays Still_leads Still_done : ℕ → Type 0) (u : TrussState) → IsLeft u
    → (0 < length u.traced → Still (traced_at u 0).pid → Stays (traced_at u 0).pid)
    → (0 < length u.traced → Leads (traced_at u 0).pid → Still_leads (traced_at u 0).pid)
    → (0 < length u.traced → Done (traced_at u 0).pid → Still_done (traced_at u 0).pid) → First Still Leads Done u
    → First Stays Still_leads Still_done u
first-next Still Leads Done Stays Still_leads Still_done u (has_ended at idle) still leads done w =
    subst (λ a. FirstAt Stays Still_leads Still_done a u.stage (traced_at u 0)) (sym idle)
    (subst (λ s. FirstAt Stays Still_leads Still_done Nothing s (traced_at u 0)) (sym at) tt)
first-next Still Leads Done Stays Still_leads Still_done u (halts at idle within) still leads done w =
    first-on Still Leads Done Stays Still_leads Still_done u (still within) (leads within) (done within) w
first-next Still Leads Done Stays Still_leads Still_done u (awaits until at is within) still leads done w =
    first-on Still Leads Done Stays Still_leads Still_done u (still within) (leads within) (done within) w
first-next Still Leads Done Stays Still_leads Still_done u (asks at is within) still leads done w =
    first-on Still Leads Done Stays Still_leads Still_done u (still within) (leads within) (done within) w
first-next Still Leads Done Stays Still_leads Still_done u (waits_again until at is within) still leads done w =
    first-on Still Leads Done Stays Still_leads Still_done u (still within) (leads within) (done within) w
first-next Still Leads Done Stays Still_leads Still_done u (looks at idle within) still leads done w =
    first-on Still Leads Done Stays Still_leads Still_done u (still within) (leads within) (done within) w
first-next Still Leads Done Stays Still_leads Still_done u (reads_text l from len at idle within) still leads done w =
    first-on Still Leads Done Stays Still_leads Still_done u (still within) (leads within) (done within) w
first-next Still Leads Done Stays Still_leads Still_done u (lifts_all clear at is within) still leads done w =
    first-on Still Leads Done Stays Still_leads Still_done u (still within) (leads within) (done within) w
first-next Still Leads Done Stays Still_leads Still_done u (closes_files at idle within) still leads done w =
    first-on Still Leads Done Stays Still_leads Still_done u (still within) (leads within) (done within) w

lwp-pid : {a b i j : ℕ} → Lwp a i ≡ Lwp b j → a ≡ b
lwp-pid same = cc

controller-same : {a b : ℕ} → Controller a ≡ Controller b → a ≡ b
controller-same same = cc

module _ {n : ℕ} {who : Hiders} {controllers : List ControllerState} {first : TracedState}
    {h : List Entry} (run : IsRunOfTrusses n who controllers first h) where
  abbrev here : List Entry → TracedState
  here front = state_after first front

  abbrev covers : List Entry → Covers
  covers front = covers_at who first front

  abbrev After : List Entry → ℕ → TrussState → Type 0
  After front k t = IsTrussAfter who controllers first h front k t

  abbrev AllLeave : List Entry → Type 0
  AllLeave front =
      (k : ℕ) → hides who k ≡ true → (t : TrussState) → After front k t → t.leaving ≡ true → LeavesMet run front t

  abbrev Its : List Entry → ℕ → Type 0
  Its front k = (t : TrussState) × (After front k t × (t.leaving ≡ true → LeavesMet run front t))

  all-of : (front : List Entry) → ((k : ℕ) → hides who k ≡ true → Its front k) → AllLeave front
  all-of front given k hider t is =
      let w = given k hider in
      subst (λ (x : TrussState). x.leaving ≡ true → LeavesMet run front x) (same-truss w.0 t _ w.1.0 is) w.1.1

  at-first : AllLeave []
  at-first = all-of [] (λ k hider.
      let i = run.are.trusses k hider in
      let w = first-under-truss (λ (v : Traced). Unit {0}) (λ x y same it. tt) i.options i.follows_none in
      (first_truss i.options, (i.starts, λ on. absurd (false≢true (sym w.off ∙ on)))))

  -- ---- an entry that is no call of it

  -- what comes of each process
  module _ (front : List Entry) (e : Entry) (t : TrussState) (w : LeavesMet run front t) where
    abbrev next_front : List Entry
    next_front = front ++ e ∷ []

    stays-so : ((q : ℕ) → q < length t.traced → LeftMet run front w.t0 w.due t.options (traced_at t q)
        → LeftMet run next_front w.t0 w.due t.options (traced_at t q))
        → (0 < length t.traced → Still run front (traced_at t 0).pid → Still run next_front (traced_at t 0).pid)
        → (0 < length t.traced → Leads run front (traced_at t 0).pid → Leads run next_front (traced_at t 0).pid)
        → (0 < length t.traced → DoneIn run front (traced_at t 0).pid → DoneIn run next_front (traced_at t 0).pid)
        → LeavesMet run next_front t
    stays-so met still leads done =
        let l = w.left in
        record {
          t0 = w.t0;
          due = w.due;
          left = record {
            on = l.on;
            at = l.at;
            each = λ q within. met q within (l.each q within);
            apart = l.apart;
            unlooked = l.unlooked;
            bare = l.bare;
          };
          place = first-next (Still run front) (Leads run front) (DoneIn run front) (Still run next_front)
              (Leads run next_front) (DoneIn run next_front) t l.at still leads done w.place;
          done = w.done;
        }

  module _ (front : List Entry) (actor : Actor) (did : Act) (back : List Entry)
      (place : h ≡ front ++ record { actor = actor; act = did } ∷ back) (k : ℕ) (hider : hides who k ≡ true)
      (none : exchange_of k (record { actor = actor; act = did }) ≡ None)
      (same : slice_get (controllers_at controllers (front ++ record { actor = actor; act = did } ∷ [])) k
      ≡ slice_get (controllers_at controllers front) k) (foreign : actor ≢ Controller k) where
    abbrev e : Entry
    e = record { actor = actor; act = did }

    abbrev t : TrussState
    t = Calm.t run front e back place k hider

    -- that of another controller, or of the clock
    others-leave : ((pid own : ℕ) → actor ≢ Lwp pid own)
        → ((q : ℕ) → q < length t.traced
        → CountLess (covers (front ++ e ∷ []) (traced_at t q).pid) (covers front (traced_at t q).pid))
        → ((q : ℕ) → q < length t.traced
        → CountLess (covers front (traced_at t q).pid) (covers (front ++ e ∷ []) (traced_at t q).pid))
        → ((q : ℕ) → q < length t.traced
        → (covers (front ++ e ∷ []) (traced_at t q).pid).patches ≡ (covers front (traced_at t q).pid).patches)
        → LeavesMet run front t → LeavesMet run (front ++ e ∷ []) t
    others-leave apart more less patches w =
        stays-so front e t w
        (λ q within.
        alone-met run front actor did back place k hider none same foreign q within (apart (traced_at t q).pid)
        (more q within) (λ settled. less q within) (λ settled. patches q within) w.t0 w.due)
        (λ within.
        alone-still run front actor did back place k hider none same foreign 0 within (apart (traced_at t 0).pid)
        (more 0 within) (λ settled. less 0 within) (λ settled. patches 0 within))
        (λ within.
        alone-leads run front actor did back place k hider none same foreign 0 within (apart (traced_at t 0).pid)
        (more 0 within) (λ settled. less 0 within) (λ settled. patches 0 within))
        (λ within.
        alone-done run front actor did back place k hider none same foreign 0 within (apart (traced_at t 0).pid)
        (more 0 within) (λ settled. less 0 within) (λ settled. patches 0 within))

  -- ---- turns and ticks

  module _ (front back : List Entry) (acting id : ℕ) (turned : Turned)
      (place : h ≡ front ++ record { actor = Lwp acting id; act = act.Turn turned } ∷ back) (k : ℕ)
      (hider : hides who k ≡ true) where
    abbrev te : Entry
    te = record { actor = Lwp acting id; act = act.Turn turned }

    abbrev tt_state : TrussState
    tt_state = Calm.t run front te back place k hider

    less-of : (q : ℕ) → (traced_at tt_state q).pid ≢ acting → Settled run
        → CountLess (covers front (traced_at tt_state q).pid) (covers (front ++ te ∷ []) (traced_at tt_state q).pid)
    less-of q other settled =
        less-apart run front back acting id turned place
        (posted-on run settled.0 settled.1 front (te ∷ back) place) k hider (traced_at tt_state q).pid other

    turn-leaves : LeavesMet run front tt_state → LeavesMet run (front ++ te ∷ []) tt_state
    turn-leaves w =
        stays-so front te tt_state w
        (λ q within met. elim (cases_eq (traced_at tt_state q).pid acting) [
          | inl own ↦ turned-met run front back acting id turned place k hider q within own w.t0 w.due met
          | inr other ↦
              alone-met run front (Lwp acting id) (act.Turn turned) back place k hider refl
              (same-at run front back acting id turned place k hider) (λ is. cc) q within
              (λ i is. other (sym (lwp-pid is)))
              (more-apart run front back acting id turned place k hider (traced_at tt_state q).pid other)
              (less-of q other)
              (λ settled. turned-patches run front back acting id turned place (traced_at tt_state q).pid) w.t0 w.due
              met
        ])
        (λ within still. elim (cases_eq (traced_at tt_state 0).pid acting) [
          | inl own ↦ turned-still run front back acting id turned place k hider 0 within own still
          | inr other ↦
              alone-still run front (Lwp acting id) (act.Turn turned) back place k hider refl
              (same-at run front back acting id turned place k hider) (λ is. cc) 0 within
              (λ i is. other (sym (lwp-pid is)))
              (more-apart run front back acting id turned place k hider (traced_at tt_state 0).pid other)
              (less-of 0 other)
              (λ settled. turned-patches run front back acting id turned place (traced_at tt_state 0).pid) still
        ])
        (λ within leads. elim (cases_eq (traced_at tt_state 0).pid acting) [
          | inl own ↦ turned-leads run front back acting id turned place k hider 0 within own leads
          | inr other ↦
              alone-leads run front (Lwp acting id) (act.Turn turned) back place k hider refl
              (same-at run front back acting id turned place k hider) (λ is. cc) 0 within
              (λ i is. other (sym (lwp-pid is)))
              (more-apart run front back acting id turned place k hider (traced_at tt_state 0).pid other)
              (less-of 0 other)
              (λ settled. turned-patches run front back acting id turned place (traced_at tt_state 0).pid) leads
        ])
        (λ within done. elim (cases_eq (traced_at tt_state 0).pid acting) [
          | inl own ↦ turned-done run front back acting id turned place k hider 0 within own done
          | inr other ↦
              alone-done run front (Lwp acting id) (act.Turn turned) back place k hider refl
              (same-at run front back acting id turned place k hider) (λ is. cc) 0 within
              (λ i is. other (sym (lwp-pid is)))
              (more-apart run front back acting id turned place k hider (traced_at tt_state 0).pid other)
              (less-of 0 other)
              (λ settled. turned-patches run front back acting id turned place (traced_at tt_state 0).pid) done
        ])

  turn-then : (front back : List Entry) (acting id : ℕ) (turned : Turned)
      → h ≡ front ++ record { actor = Lwp acting id; act = act.Turn turned } ∷ back → AllLeave front
      → AllLeave (front ++ record { actor = Lwp acting id; act = act.Turn turned } ∷ [])
  turn-then front back acting id turned place all =
      let e : Entry = record { actor = Lwp acting id; act = act.Turn turned } in
      all-of (front ++ e ∷ []) (λ k hider.
      let w = Calm.truss run front e back place k hider in (
        w.t,
        (
          same-at run front back acting id turned place k hider ∙ w.is,
          λ on. turn-leaves front back acting id turned place k hider (all k hider w.t w.is on),
        ),
      ))

  tick-then : (front back : List Entry) (moment : ℕ)
      → h ≡ front ++ record { actor = Clock; act = act.Tick moment } ∷ back → AllLeave front
      → AllLeave (front ++ record { actor = Clock; act = act.Tick moment } ∷ [])
  unfolding controllers_after covers_after
  tick-then front back moment place all =
      let e : Entry = record { actor = Clock; act = act.Tick moment } in
      let same-cover : (pid : ℕ) → covers (front ++ e ∷ []) pid ≡ covers front pid =
      (λ pid. ap (λ (cs : Covers). cs pid) (at-is run front e back place (kept-at run front (e ∷ back) place))) in
      all-of (front ++ e ∷ []) (λ k hider.
      let w = Calm.truss run front e back place k hider in
      let same = ap (λ (cs : List ControllerState). slice_get cs k) (controllers-push controllers front e) in (
        w.t,
        (
          same ∙ w.is,
          λ on.
              others-leave front Clock (act.Tick moment) back place k hider refl same (λ is. cc) (λ pid own is. cc)
              (λ q within. tick-more run front back moment place (traced_at w.t q).pid)
              (λ q within id is. sym (ap (λ (d : Cover). d.faulted id) (same-cover (traced_at w.t q).pid)) ∙ is)
              (λ q within. ap (λ (d : Cover). d.patches) (same-cover (traced_at w.t q).pid)) (all k hider w.t w.is on),
        ),
      ))

  -- ---- calls

  call-then : (front back : List Entry) (j : ℕ) (c : Call) (r : Reply) → h ≡ front ++ call_entry j c r ∷ back
      → AllLeave front → AllLeave (front ++ call_entry j c r ∷ [])
  call-then front back j c r place all = all-of later_front (λ k hider. elim (cases_eq j k) [
    | inl same ↦ subst (λ m. hides who m ≡ true → Its later_front m) same own-given hider
    | inr apart ↦ other-given k hider apart
  ])
    where
      e : Entry
      e = call_entry j c r

      later_front : List Entry
      later_front = front ++ call_entry j c r ∷ []

      own-given : hides who j ≡ true → Its later_front j
      own-given hider =
          (Calm.u run front back j c r place hider, (Calm.is-later run front back j c r place hider, leaves))
        where
          leaves : (Calm.u run front back j c r place hider).leaving ≡ true
              → LeavesMet run later_front (Calm.u run front back j c r place hider)
          leaves on = elim (cases_Bool (Calm.tr run front back j c r place hider).leaving) [
            | inl before ↦
                leaves-on run front back j c r place hider
                (let w = Calm.truss run front (call_entry j c r) back place j hider in w.follow)
                (all j hider (Calm.tr run front back j c r place hider)
                (Calm.is-now run front back j c r place hider) before)
            | inr off ↦
                leaves-first run front back j c r place hider
                (counts-at run front (call_entry j c r ∷ back) place) off
                (breaks run front back j c r place (Calm.kept-now run front back j c r place) hider off on)
          ]

      other-given : (k : ℕ) (hider : hides who k ≡ true) → j ≢ k → Its later_front k
      other-given k hider apart =
          let w = Calm.truss run front (call_entry j c r) back place k hider in
          let same =
          Calls.foreign-same run front back j c r place (Calm.kept-now run front back j c r place) k apart in (
            w.t,
            (
              same ∙ w.is,
              λ on.
                  others-leave front (Controller j) (act.Call c r) back place k hider
                  (ap (λ b. cond b (Some (record { call = c; reply = r })) None) (ne_eqb j k apart)) same
                  (λ is. apart (controller-same is)) (λ pid own is. cc)
                  (λ q within.
                  Calls_met.other-more run front back j c r place
                  (counts-at run front (call_entry j c r ∷ back) place) k hider apart q within)
                  (λ q within. Away.less-now run front back j c r place (traced_at w.t q).pid)
                  (λ q within. Away.other-patches run front back j c r place k hider apart q within)
                  (all k hider w.t w.is on),
            ),
          )

  -- ---- the history

  entry-then : (front : List Entry) (actor : Actor) (did : Act) (back : List Entry)
      → h ≡ front ++ record { actor = actor; act = did } ∷ back
      → IsLegalEntry n (here front) (record { actor = actor; act = did }) → AllLeave front
      → AllLeave (front ++ record { actor = actor; act = did } ∷ [])
  unfolding IsLegalEntry
  entry-then front (Controller j) (act.Call c r) back place it all = call-then front back j c r place all
  entry-then front (Lwp acting id) (act.Turn turned) back place it all =
      turn-then front back acting id turned place all
  entry-then front Clock (act.Tick moment) back place it all = tick-then front back moment place all
  entry-then front _ _ back place it all = absurd it

  walk : (middle front back : List Entry) → h ≡ front ++ (middle ++ back) → AllLeave front
      → AllLeave (front ++ middle)
  walk [] front back place all = subst AllLeave (sym (append-nil front)) all
  walk (e ∷ middle) front back place all =
      subst AllLeave (append_assoc front (e ∷ []) middle)
      (walk middle (front ++ e ∷ []) back (place ∙ sym (append_assoc front (e ∷ []) (middle ++ back)))
      (entry-then front e.actor e.act (middle ++ back) place
      (legal-here n first front e (middle ++ back) (subst (λ (es : List Entry). IsLegal n first es) place run.legal))
      all))

  pub all-leave : (front back : List Entry) → h ≡ front ++ back → AllLeave front
  all-leave front back place = walk front [] back place at-first
