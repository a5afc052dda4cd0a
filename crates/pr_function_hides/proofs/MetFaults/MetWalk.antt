use Rattle.std.proofs.Common.{◌≡◌, ◌≢◌, ◌<◌, ◌++◌, ℕ, true, false, List, [], ◌∷◌, length, sym, subst, ap, ◌∙◌, inl, inr}
use Rattle.std.proofs.Common.{refl}
use Rattle.std.proofs.lemmas.Bool.{cases_eq, false≢true}
use Rattle.std.proofs.lemmas.List.{append-nil, append_assoc}
use Rattle.std.specs.List.{slice_get}
use Rattle.pr_api.specs.Entries.{call_entry}
use Rattle.pr_function_hides.proofs.Files.CallFacts.{controllers-push, legal-here, same-truss}
use Rattle.pr_function_hides.proofs.GoingOn.CalmCalls as Calm
use Rattle.pr_function_hides.proofs.MetFaults.MetCalls as Calls_met
use Rattle.pr_function_hides.proofs.MetFaults.MetTurns.{ClearIn, Counts, MetIn, framed-clear, framed-met, tick-more, turn-clears}
use Rattle.pr_function_hides.proofs.MetFaults.MetTurns.{turn-code, turn-counts}
use Rattle.pr_function_hides.proofs.Replies.PlantedReplies.{first-so-truss}
use Rattle.pr_function_hides.proofs.CodeThere.StepCode.{StepsIn, foreign-steps}
use Rattle.pr_function_hides.proofs.Tidy.TidyCalls as Calls
use Rattle.pr_function_hides.proofs.Tidy.TidyKept.{Kept}
use Rattle.pr_function_hides.proofs.Tidy.TidyLaw.{kept-at}
use Rattle.pr_function_hides.proofs.Tidy.TidyOwn.{went-on}
use Rattle.pr_function_hides.specs.RunsOfTrusses.{IsRunOfTrusses}
use Rattle.pr_function_hides.specs.TidyWrites.{IsTrussAfter}
use Rattle.pr_function_hides.specs.Treating.{is_run_soon}
use Rattle.pr_function_laws.specs.Opened.{is_opened}
use Rattle.pr_hidden.specs.Hiders.{Hiders, hides}
use Rattle.pr_model.specs.Legal.{IsLegal, IsLegalEntry, state_after}
use Rattle.pr_model.specs.State.{TracedState}
use Rattle.pr_model.specs.declared.calls.Call.{Call}
use Rattle.pr_model.specs.declared.calls.Reply.{Reply}
use Rattle.pr_model.specs.declared.events.Act.{Act}
use Rattle.pr_model.specs.declared.events.Act.TheVariants as act
use Rattle.pr_model.specs.declared.events.Actor.{Actor}
use Rattle.pr_model.specs.declared.events.Actor.TheVariants.{Clock, Controller, Lwp}
use Rattle.pr_model.specs.declared.events.Entry.{Entry}
use Rattle.pr_model.specs.declared.events.Turned.{Turned}
use Rattle.pr_truss.specs.Asides.{marks_at}
use Rattle.pr_truss.specs.Trusses.{TrussState, first_truss, traced_at}
use Rattle.pr_truss.specs.declared.processes.Traced.{Traced}
use Rattle.pr_world.specs.ControllerStates.{ControllerState}
use Rattle.pr_world.specs.Protocol.{controllers_after}

-- Along the history each lwp that stands on the stop of a fault which a truss takes for its own counts as standing at
-- one of those who hide, as long as that truss does not leave its processes.

-- ---- along the history

module _ {n : ℕ} {who : Hiders} {controllers : List ControllerState} {first : TracedState}
    {h : List Entry} (run : IsRunOfTrusses n who controllers first h) where
  abbrev here : List Entry → TracedState
  here front = state_after first front

  abbrev After : List Entry → ℕ → TrussState → Type 0
  After front k t = IsTrussAfter who controllers first h front k t

  abbrev kept : (front back : List Entry) → h ≡ front ++ back → Kept who controllers first h front
  kept = kept-at run

  abbrev CountsAt : List Entry → Type 0
  CountsAt front = Counts run front

  -- ---- of the state of each truss that goes on

  abbrev AreMet : List Entry → TrussState → Type 0
  AreMet front t =
      (q : ℕ) → q < length t.traced → is_opened t.stage q ≡ true → is_run_soon t.stage q ≡ false
      → (traced_at t q).old ≡ 0
      → MetIn run front t.options (marks_at t q) (traced_at t q).pid

  abbrev AreSoon : List Entry → TrussState → Type 0
  AreSoon front t =
      (q : ℕ) → q < length t.traced → is_run_soon t.stage q ≡ true
      → ClearIn run front (marks_at t q).flags (traced_at t q).pid

  abbrev Its : List Entry → ℕ → Type 0
  Its front k =
      (t : TrussState)
      × (After front k t
      × (t.leaving ≡ false → AreMet front t × (AreSoon front t × StepsIn run front t)))

  abbrev Given : List Entry → Type 0
  Given front = (k : ℕ) → hides who k ≡ true → Its front k

  counts-of : (front : List Entry) → Given front → CountsAt front
  counts-of front given = record {
    met = λ k hider t is.
        let w = given k hider in
        subst (λ (x : TrussState). x.leaving ≡ false → AreMet front x) (same-truss w.0 t _ w.1.0 is)
        (λ off. (w.1.1 off).0);
    soon = λ k hider t is.
        let w = given k hider in
        subst (λ (x : TrussState). x.leaving ≡ false → AreSoon front x) (same-truss w.0 t _ w.1.0 is)
        (λ off. (w.1.1 off).1.0);
    code = λ k hider t is.
        let w = given k hider in
        subst (λ (x : TrussState). x.leaving ≡ false → StepsIn run front x) (same-truss w.0 t _ w.1.0 is)
        (λ off. (w.1.1 off).1.1);
  }

  at-first : CountsAt []
  at-first = counts-of [] (λ k hider.
      let i = run.are.trusses k hider in
      let none : (q : ℕ) → q < length (first_truss i.options).traced → ⊥ =
      (λ q within. false≢true (first-so-truss (λ (v : Traced). false ≡ true) i.options q within)) in (
        first_truss i.options,
        (
          i.starts,
          λ off. (
            (λ q within opened quiet new. absurd (none q within)),
            ((λ q within soon. absurd (none q within)), (λ q within. absurd (none q within))),
          ),
        ),
      ))

  -- ---- turns and ticks

  turn-then : (front back : List Entry) (acting id : ℕ) (turned : Turned)
      → h ≡ front ++ record { actor = Lwp acting id; act = act.Turn turned } ∷ back → CountsAt front
      → CountsAt (front ++ record { actor = Lwp acting id; act = act.Turn turned } ∷ [])
  unfolding controllers_after
  turn-then front back acting id turned place counts =
      let e : Entry = record { actor = Lwp acting id; act = act.Turn turned } in
      counts-of (front ++ e ∷ []) (λ k hider.
      let now = kept front (e ∷ back) place in
      let w = now.trusses k hider in (
        w.t,
        (
          ap (λ (cs : List ControllerState). slice_get cs k) (controllers-push controllers front e) ∙ w.is,
          λ off. (
            (λ q within opened quiet new.
                turn-counts run front back acting id turned place k hider counts off q within opened quiet new),
            (
              (λ q within soon.
                  turn-clears run front back acting id turned place k hider counts off q within soon),
              turn-code run front back acting id turned place k hider counts off,
            ),
          ),
        ),
      ))

  tick-then : (front back : List Entry) (moment : ℕ)
      → h ≡ front ++ record { actor = Clock; act = act.Tick moment } ∷ back → CountsAt front
      → CountsAt (front ++ record { actor = Clock; act = act.Tick moment } ∷ [])
  unfolding controllers_after
  tick-then front back moment place counts =
      let e : Entry = record { actor = Clock; act = act.Tick moment } in
      let now = kept front (e ∷ back) place in
      counts-of (front ++ e ∷ []) (λ k hider.
      let w = now.trusses k hider in
      let controllers_same =
      ap (λ (cs : List ControllerState). slice_get cs k) (controllers-push controllers front e) in (
        w.t,
        (
          controllers_same ∙ w.is,
          λ off. (
            (λ q within opened quiet new.
                framed-met run front e back place k hider refl q within (λ own is. cc)
                (tick-more run front back moment place (traced_at w.t q).pid) w.t.options (marks_at w.t q)
                (counts.met k hider w.t w.is off q within opened quiet new)),
            (
              (λ q within soon.
                  framed-clear run front e back place k hider refl q within (λ own is. cc)
                  (tick-more run front back moment place (traced_at w.t q).pid) (marks_at w.t q).flags
                  (counts.soon k hider w.t w.is off q within soon)),
              foreign-steps run front Clock (act.Tick moment) back place k hider controllers_same (λ is. cc) w.t w.is
                  off (counts.code k hider w.t w.is off),
            ),
          ),
        ),
      ))

  -- ---- calls

  call-then : (front back : List Entry) (j : ℕ) (c : Call) (r : Reply)
      (place : h ≡ front ++ call_entry j c r ∷ back) → CountsAt front
      → CountsAt (front ++ call_entry j c r ∷ [])
  call-then front back j c r place counts = counts-of later_front (λ k hider. elim (cases_eq j k) [
    | inl same ↦ subst (λ m. hides who m ≡ true → Its later_front m) same own-given hider
    | inr apart ↦ other-given k hider apart
  ])
    where
      later_front : List Entry
      later_front = front ++ call_entry j c r ∷ []

      own-given : hides who j ≡ true → Its later_front j
      own-given hider = (
        Calls_met.u run front back j c r place counts hider,
        (
          Calm.is-later run front back j c r place hider,
          λ off_later.
              let went =
              went-on run front back j c r place (kept front (call_entry j c r ∷ back) place) hider off_later in
              let goes = went.0 in (
                (λ q within opened quiet new.
                    Calls_met.met-then run front back j c r place counts hider goes.off went.1 off_later q within opened
                    quiet new),
                (
                  (λ q within soon.
                      Calls_met.soon-then run front back j c r place counts hider goes.off went.1 q within soon),
                  Calls_met.code-then run front back j c r place counts hider goes.off went.1,
                ),
              ),
        ),
      )

      other-given : (k : ℕ) (hider : hides who k ≡ true) → j ≢ k → Its later_front k
      other-given k hider apart =
          let now = kept front (call_entry j c r ∷ back) place in
          let w = now.trusses k hider in (
            w.t,
            (
              Calls.foreign-same run front back j c r place now k apart ∙ w.is,
              λ off. (
                (λ q within opened quiet new.
                    Calls_met.other-met run front back j c r place counts k hider apart q within
                    w.t.options (marks_at w.t q) (counts.met k hider w.t w.is off q within opened quiet new)),
                (
                  (λ q within soon.
                      Calls_met.other-clears run front back j c r place counts k hider apart q within
                      (marks_at w.t q).flags (counts.soon k hider w.t w.is off q within soon)),
                  Calls_met.other-code run front back j c r place counts k hider apart off,
                ),
              ),
            ),
          )

  -- ---- the history

  entry-then : (front : List Entry) (actor : Actor) (did : Act) (back : List Entry)
      → h ≡ front ++ record { actor = actor; act = did } ∷ back
      → IsLegalEntry n (here front) (record { actor = actor; act = did }) → CountsAt front
      → CountsAt (front ++ record { actor = actor; act = did } ∷ [])
  unfolding IsLegalEntry
  entry-then front (Controller j) (act.Call c r) back place it counts = call-then front back j c r place counts
  entry-then front (Lwp acting id) (act.Turn turned) back place it counts =
      turn-then front back acting id turned place counts
  entry-then front Clock (act.Tick moment) back place it counts = tick-then front back moment place counts
  entry-then front _ _ back place it counts = absurd it

  walk : (middle front back : List Entry) → h ≡ front ++ (middle ++ back) → CountsAt front
      → CountsAt (front ++ middle)
  walk [] front back place counts = subst CountsAt (sym (append-nil front)) counts
  walk (e ∷ middle) front back place counts =
      subst CountsAt (append_assoc front (e ∷ []) middle)
      (walk middle (front ++ e ∷ []) back (place ∙ sym (append_assoc front (e ∷ []) (middle ++ back)))
      (entry-then front e.actor e.act (middle ++ back) place
      (legal-here n first front e (middle ++ back) (subst (λ (es : List Entry). IsLegal n first es) place run.legal))
      counts))

  pub counts-at : (front back : List Entry) → h ≡ front ++ back → CountsAt front
  counts-at front back place = walk front [] back place at-first
