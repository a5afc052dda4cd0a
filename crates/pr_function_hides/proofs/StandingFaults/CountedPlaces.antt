use Rattle.std.proofs.Common.{◌≡◌, ◌<◌, ◌++◌, ◌&&◌, ◌||◌, ℕ, zero, suc, Bool, true, false, Some, None, Option, List, []}
use Rattle.std.proofs.Common.{◌∷◌, get_or, length, refl, sym, subst, ap, ◌∙◌, inl, inr, arith}
use Rattle.std.proofs.lemmas.Bool.{and_parts, cases_eq, eqb-true, false≢true}
use Rattle.std.proofs.lemmas.List.{append-nil, append_assoc}
use Rattle.std.proofs.lemmas.Option.{slice_get-get_or}
use Rattle.std.specs.List.{list_any, slice_get}
use Rattle.pr_api.specs.Entries.{call_entry}
use Rattle.pr_function_hides.proofs.Files.CallFacts.{close-done, legal-here}
use Rattle.pr_function_hides.proofs.Tidy.CalledCovers.{turn-stays}
use Rattle.pr_function_hides.proofs.GoingOn.CalmCalls.{called-cover, turned-is}
use Rattle.pr_function_hides.proofs.Clean.CleanCovers.{closed-clean}
use Rattle.pr_function_hides.proofs.Tidy.CopyFree.{copies-bare, handle-place}
use Rattle.pr_function_hides.proofs.StandingFaults.CountedFaults.{CountsNow, before, called-less, now as counts_now, own-held}
use Rattle.pr_function_hides.proofs.StandingFaults.CountedFaults.{turned-count}
use Rattle.pr_function_hides.proofs.Tidy.TidyCalls as Calls
use Rattle.pr_function_hides.proofs.Tidy.TidyCovers as Called
use Rattle.pr_function_hides.proofs.Tidy.TidyEntries.{at-is, its-legal, now-is, replaced-copies}
use Rattle.pr_function_hides.proofs.Tidy.TidyKept.{Holder, Kept, holder-moves}
use Rattle.pr_function_hides.proofs.Tidy.TidyLaw.{kept-at}
use Rattle.pr_function_hides.specs.RunsOfTrusses.{IsRunOfTrusses}
use Rattle.pr_function_hides.specs.TidyWrites.{IsTrussAfter}
use Rattle.pr_function_laws.proofs.Stepping.BreakpointLemmas.{foreign-entry}
use Rattle.pr_hidden.specs.Covers.{Cover, Covers}
use Rattle.pr_hidden.specs.Hiders.{Hiders, are_some, covers_after, covers_at, covers_called, has_hold}
use Rattle.pr_hidden.specs.Hiders.{hides, is_ctl, is_hold}
use Rattle.pr_model.specs.Calls.{answer_to}
use Rattle.pr_model.specs.Handles.{handle_of, own as of_controller}
use Rattle.pr_model.specs.Legal.{IsLegal, IsLegalEntry, state_after}
use Rattle.pr_model.specs.State.{Places, TracedState}
use Rattle.pr_model.specs.declared.calls.Call.{Call}
use Rattle.pr_model.specs.declared.calls.Call.TheVariants as call
use Rattle.pr_model.specs.declared.calls.Reply.{Reply}
use Rattle.pr_model.specs.declared.events.Act.{Act}
use Rattle.pr_model.specs.declared.events.Act.TheVariants as act
use Rattle.pr_model.specs.declared.events.Actor.{Actor}
use Rattle.pr_model.specs.declared.events.Actor.TheVariants.{Clock, Controller, Lwp}
use Rattle.pr_model.specs.declared.events.Entry.{Entry}
use Rattle.pr_model.specs.declared.events.Turned.{Turned}
use Rattle.pr_model.specs.declared.handles.Held.{Held}
use Rattle.pr_truss.specs.Trusses.{TrussState, traced_at}
use Rattle.pr_truss_laws.proofs.Files.OpensLemmas.{own-mine}
use Rattle.pr_world.specs.ControllerStates.{ControllerState}

-- A process in which lwps count as standing at faults of those who hide is one that a truss traces.

-- ---- who holds a control file

-- a handle of it that one with functions has
holding : (who : Hiders) (pid : ℕ) (opens : Places) → list_any (is_hold who pid) opens ≡ true
    → (number : ℕ) × ((number < length opens) × (is_hold who pid (get_or opens number None) ≡ true))
holding who pid [] is = absurd (false≢true is)
holding who pid (o ∷ os) is = by (λ any. holding who pid os any) (is_hold who pid o) refl is
  where
    by : (list_any (is_hold who pid) os ≡ true
        → (number : ℕ) × ((number < length os) × (is_hold who pid (get_or os number None) ≡ true)))
        → (b : Bool) → is_hold who pid o ≡ b → (b || list_any (is_hold who pid) os) ≡ true
        → (number : ℕ)
        × ((number < length (o ∷ os)) × (is_hold who pid (get_or (o ∷ os) number None) ≡ true))
    by rest true held any = (zero, (omega arith, held))
    by rest false none any =
        let more = rest any in (suc more.0, (omega (arith, more.1.0), more.1.1))

pub hold-holder : (who : Hiders) (s : TracedState) (pid : ℕ) → has_hold who s.opens pid ≡ true → Holder who pid s
unfolding has_hold handle_of
hold-holder who s pid is =
    let w = holding who pid s.opens is in
    by w.0 (get_or s.opens w.0 None) (slice_get-get_or s.opens w.0 None w.1.0) w.1.1
  where
    by : (number : ℕ) (o : Option Held) → slice_get s.opens number ≡ Some o → is_hold who pid o ≡ true
        → Holder who pid s
    by number None there held = absurd (false≢true held)
    by number (Some x) there held =
        let parts = and_parts _ (is_ctl x.file && are_some (who.functions x.controller)) held in
        let more = and_parts (is_ctl x.file) (are_some (who.functions x.controller)) parts.1 in
        record {
          k = x.controller;
          hider = ap (λ b. b || who.probes x.controller) more.1;
          number = number;
          held = x;
          there = ap (of_controller x.controller) there ∙ own-mine x.controller x refl;
          of = eqb-true x.pid pid parts.0;
          control = more.0;
        }

-- ---- along the history

module _ {n : ℕ} {who : Hiders} {controllers : List ControllerState} {first : TracedState}
    {h : List Entry} (run : IsRunOfTrusses n who controllers first h) where
  abbrev here : List Entry → TracedState
  here front = state_after first front

  abbrev covers : List Entry → Covers
  covers front = covers_at who first front

  abbrev KeptAfter : List Entry → Type 0
  KeptAfter front = Kept who controllers first h front

  abbrev kept : (front back : List Entry) → h ≡ front ++ back → KeptAfter front
  kept = kept-at run

  -- who counts so is in a process of which one who hides has the control file open
  abbrev AreHeld : List Entry → Type 0
  AreHeld front = (pid id : ℕ) → (covers front pid).faulted id ≡ true → Holder who pid (here front)

  -- a truss traces it
  pub record IsPlaced (front : List Entry) (pid : ℕ) : Type 0 where
    pub k : ℕ
    pub hider : hides who k ≡ true
    pub t : TrussState
    pub is : IsTrussAfter who controllers first h front k t
    pub place : ℕ
    pub within : place < length t.traced
    pub own : (traced_at t place).pid ≡ pid

  -- ---- turns

  module _ (front back : List Entry) (acting id : ℕ) (turned : Turned)
      (place : h ≡ front ++ record { actor = Lwp acting id; act = act.Turn turned } ∷ back) where
    abbrev e : Entry
    e = record { actor = Lwp acting id; act = act.Turn turned }

    abbrev next_front : List Entry
    next_front = front ++ e ∷ []

    abbrev kept-here : KeptAfter front
    kept-here = kept front (e ∷ back) place

    pub turned-patches : (pid : ℕ) → (covers next_front pid).patches ≡ (covers front pid).patches
    turned-patches pid =
        let stays =
        turn-stays who run.are.no_probes (covers front) (here front) acting id turned.did pid
        (kept-here.no_agent acting)
        (λ is. copies-bare run front back acting id turned place (replaced-copies turned.did is) kept-here) in
        ap (λ (c : Cover). c.patches) (turned-is run front back acting id turned place pid) ∙ stays.patches

    turn-held : AreHeld front → AreHeld next_front
    turn-held held pid i is =
        by (turned-count who (covers front) (here front) acting id turned.did (kept-here.no_agent acting) pid i
        (ap (λ (c : Cover). c.faulted i) (sym (turned-is run front back acting id turned place pid)) ∙ is))
      where
        stays : Holder who pid (here front) → Holder who pid (here next_front)
        stays x =
            holder-moves x
            (ap (λ (y : TracedState). handle_of y.opens x.k x.number) (now-is run front e back place kept-here)
            ∙ (let f = foreign-entry n x.k (here front) e (its-legal run front e back place kept-here) refl in
            f.handles x.number) ∙ x.there)

        by : CountsNow who (covers front) (here front) acting id turned.did pid i → Holder who pid (here next_front)
        by (before it own) = stays (held pid i it)
        by (counts_now same own goes it) =
            stays
            (subst (λ p. Holder who p (here front)) (sym same)
            (hold-holder who (here front) acting (own-held who (covers front) (here front) acting id turned.did it)))

  tick-held : (front back : List Entry) (moment : ℕ)
      → h ≡ front ++ record { actor = Clock; act = act.Tick moment } ∷ back → AreHeld front
      → AreHeld (front ++ record { actor = Clock; act = act.Tick moment } ∷ [])
  unfolding covers_after
  tick-held front back moment place held pid i is =
      let e : Entry = record { actor = Clock; act = act.Tick moment } in
      let now = kept front (e ∷ back) place in
      let x =
      held pid i (sym (ap (λ (cs : Covers). (cs pid).faulted i) (at-is run front e back place now)) ∙ is) in
      holder-moves x
      (ap (λ (y : TracedState). handle_of y.opens x.k x.number) (now-is run front e back place now)
      ∙ (let f = foreign-entry n x.k (here front) e (its-legal run front e back place now) refl in
      f.handles x.number) ∙ x.there)

  -- ---- calls

  module _ (front back : List Entry) (j : ℕ) (c : Call) (r : Reply) (place : h ≡ front ++ call_entry j c r ∷ back)
    where
      abbrev later_front : List Entry
      later_front = front ++ call_entry j c r ∷ []

      abbrev v : TracedState
      v = here front

      abbrev kept-now : KeptAfter front
      kept-now = kept front (call_entry j c r ∷ back) place

      -- who counts so did before
      counted-before : (pid i : ℕ) → (covers later_front pid).faulted i ≡ true → (covers front pid).faulted i ≡ true
      counted-before pid i is =
          called-less who run.are.no_probes (covers front) v j pid c r i
          (ap (λ (d : Cover). d.faulted i) (sym (called-cover run front back j c r place pid)) ∙ is)

      called-held : AreHeld front → AreHeld later_front
      called-held held pid i is = by (held pid i (counted-before pid i is))
        where
          by : Holder who pid v → Holder who pid (here later_front)
          by x = elim (cases_eq j x.k) [
            | inl same ↦ mine c refl
                (subst (λ m. hides who m ≡ true) (sym same) x.hider)
                (ap (λ m. handle_of v.opens m x.number) same ∙ x.there)
                (λ there. holder-moves x
                (ap (λ m. handle_of (here later_front).opens m x.number) (sym same) ∙ there))
            | inr apart ↦ holder-moves x
                (Calls.foreign-handles run front back j c r place kept-now x.k x.number apart ∙ x.there)
          ]
            where
              -- its own call: where it closes that file, nothing counts any more
              mine : (d : Call) → c ≡ d → hides who j ≡ true → handle_of v.opens j x.number ≡ Some x.held
                  → (handle_of (here later_front).opens j x.number ≡ Some x.held → Holder who pid (here later_front))
                  → Holder who pid (here later_front)
              mine (call.Close number) closes hider there moves = elim (cases_eq number x.number) [
                | inl this ↦ absurd (false≢true (sym (closed (closes ∙ ap call.Close this)) ∙ is))
                | inr other ↦ moves
                    (Called.own-there run front back j c r place kept-now hider x.number x.held there
                    (λ this. other (close-same (sym closes ∙ this))))
              ]
                where
                  close-same : call.Close number ≡ call.Close x.number → number ≡ x.number
                  close-same same = cc

                  closed : c ≡ call.Close x.number → (covers later_front pid).faulted i ≡ false
                  closed this =
                      let own = Calls.own run front back j c r place kept-now hider in
                      ap (λ (d : Cover). d.faulted i) (called-cover run front back j c r place pid)
                      ∙ ap (λ (d : Call). (covers_called who (covers front) v j d r pid).faulted i) this
                      ∙ ap (λ (y : Reply). (covers_called who (covers front) v j (call.Close x.number) y pid).faulted i)
                      (sym own.replied
                      ∙ close-done v j x.number x.held there own.answer (ap (answer_to v j) (sym this) ∙ own.is))
                      ∙ closed-clean who run.are.no_probes (covers front) v j pid x.number x.held there x.of x.control
                      hider i
              mine d is_call hider there moves =
                  moves
                  (Called.own-there run front back j c r place kept-now hider x.number x.held there
                  (λ closes. let e : d ≡ call.Close x.number = sym is_call ∙ closes in cc))

  -- ---- the history

  entry-held : (front : List Entry) (actor : Actor) (did : Act) (back : List Entry)
      → h ≡ front ++ record { actor = actor; act = did } ∷ back
      → IsLegalEntry n (here front) (record { actor = actor; act = did }) → AreHeld front
      → AreHeld (front ++ record { actor = actor; act = did } ∷ [])
  unfolding IsLegalEntry
  entry-held front (Controller j) (act.Call c r) back place it held = called-held front back j c r place held
  entry-held front (Lwp acting id) (act.Turn turned) back place it held =
      turn-held front back acting id turned place held
  entry-held front Clock (act.Tick moment) back place it held = tick-held front back moment place held
  entry-held front _ _ back place it held = absurd it

  walk : (middle front back : List Entry) → h ≡ front ++ (middle ++ back) → AreHeld front → AreHeld (front ++ middle)
  walk [] front back place held = subst AreHeld (sym (append-nil front)) held
  walk (e ∷ middle) front back place held =
      subst AreHeld (append_assoc front (e ∷ []) middle)
      (walk middle (front ++ e ∷ []) back (place ∙ sym (append_assoc front (e ∷ []) (middle ++ back)))
      (entry-held front e.actor e.act (middle ++ back) place
      (legal-here n first front e (middle ++ back) (subst (λ (es : List Entry). IsLegal n first es) place run.legal))
      held))

  pub held-at : (front back : List Entry) → h ≡ front ++ back → (pid id : ℕ) → (covers front pid).faulted id ≡ true
      → Holder who pid (here front)
  held-at front back place = walk front [] back place (λ pid id is. absurd (false≢true is))

  -- a process of which one who hides has the control file open
  pub holder-placed : (front back : List Entry) → h ≡ front ++ back → (pid : ℕ) → Holder who pid (here front)
      → IsPlaced front pid
  holder-placed front back place pid x =
      let all = kept front back place in
      let w = all.trusses x.k x.hider in
      let found = handle-place run front back place all x.k x.hider x.number x.held x.there in
      record {
        k = x.k;
        hider = x.hider;
        t = w.t;
        is = w.is;
        place = found.0;
        within = found.1.0;
        own = found.1.1 ∙ x.of;
      }

  pub placed-at : (front back : List Entry) → h ≡ front ++ back → (pid id : ℕ) → (covers front pid).faulted id ≡ true
      → IsPlaced front pid
  placed-at front back place pid id is = holder-placed front back place pid (held-at front back place pid id is)
