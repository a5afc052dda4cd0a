use Rattle.std.proofs.Common.{◌≡◌, ◌≢◌, ◌<◌, ◌++◌, ◌&&◌, ◌==◌, ℕ, Bool, true, false, not, cond, Some, None, List, []}
use Rattle.std.proofs.Common.{◌∷◌, length, refl, sym, subst, ap, ◌∙◌, arith, inl, inr}
use Rattle.std.proofs.lemmas.Bool.{and_parts, cases_eq, eq-eqb, false≢true, ne_eqb}
use Rattle.pr_api.specs.Entries.{call_entry}
use Rattle.pr_function_hides.proofs.GoingOn.CalmCalls as Calm
use Rattle.pr_function_hides.proofs.LeavingCopies.CopyBegins.{waits-act}
use Rattle.pr_function_laws.proofs.LeavingProcesses.LeavingWaits.{WaitsAt, awaits_opening, polls, waits-at}
use Rattle.pr_function_hides.proofs.Copying.CopyFeeds.{rests-of}
use Rattle.pr_function_hides.proofs.Tidy.CopyFree.{known-on, plain-wait, run-options, young-on}
use Rattle.pr_function_hides.proofs.Copying.CopyPlaces.{RestsSo, is_about, rests_new, rests_old}
use Rattle.pr_function_hides.proofs.LeavingCopies.CopyStill.{may-can}
use Rattle.pr_function_hides.proofs.GoingOn.KnownTrusses as Known
use Rattle.pr_function_hides.proofs.GoingOn.OldStops.{waits-frozen}
use Rattle.pr_function_hides.proofs.Replies.PlacesCome.{IsUnseen}
use Rattle.pr_function_hides.proofs.FaultStops.StoppedWalk.{posted-on}
use Rattle.pr_truss.specs.declared.stages.OpeningStep.{OpeningStep}
use Rattle.pr_function_hides.proofs.LeavingFaults.LeavingCalls.{has, left-made, quiet-met}
use Rattle.pr_function_hides.proofs.LeavingFaults.LeavingFirst.{First, fed-first, first-begins}
use Rattle.pr_function_hides.proofs.LeavingFaults.LeavingMet.{DoneIn, DueSo, IsDue, LeavesMet, Leads, LeftMet, Still, WasNew, due-alike}
use Rattle.pr_function_hides.proofs.LeavingFaults.LeavingMet.{met-alike}
use Rattle.pr_function_hides.proofs.LeavingFaults.LeavingMade.{first-made}
use Rattle.pr_function_hides.proofs.Replies.LeavingStages.{is_looked}
use Rattle.pr_function_hides.proofs.Replies.LeavingWalk.{Left, begins-left, fed-left}
use Rattle.pr_function_hides.proofs.MetFaults.MetTurns.{Counts}
use Rattle.pr_function_hides.proofs.Replies.OwnFiles.{GoesOn}
use Rattle.pr_function_hides.proofs.Tidy.TidyEntries.{its-legal}
use Rattle.pr_function_hides.proofs.Files.YoungOpenings.{Young}
use Rattle.pr_function_hides.specs.Copying.{CopiesStand}
use Rattle.pr_function_laws.proofs.Marks.KeptPlaces.{AtStage, Kept}
use Rattle.pr_function_laws.proofs.Pending.KnownFiles.{Knows, KnowsAll}
use Rattle.pr_function_laws.proofs.NextCalls.MarkedFlags.{is_waiting}
use Rattle.pr_function_laws.proofs.OpenedProcesses.OpenedLaws.{Goes, goes-few, goes-opened}
use Rattle.pr_function_laws.proofs.OrdinaryTruss.OrdinaryFiles.{entry-calm}
use Rattle.pr_function_laws.specs.Opened.{TracesAll, is_opened}
use Rattle.pr_function_laws.specs.Soon.{may_wait}
use Rattle.pr_function_hides.specs.RunsOfTrusses.{IsRunOfTrusses}
use Rattle.pr_function_hides.specs.Treating.{is_run_soon}
use Rattle.pr_hidden.specs.Hiders.{Hiders, hides}
use Rattle.pr_line.specs.declared.options.Options.{Options}
use Rattle.pr_model.specs.Legal.{state_after}
use Rattle.pr_model.specs.State.{TracedProcess, TracedState}
use Rattle.pr_model.specs.declared.calls.Call.{Call}
use Rattle.pr_model.specs.declared.calls.Reply.{Reply}
use Rattle.pr_model.specs.declared.calls.Reply.TheVariants as reply
use Rattle.pr_model.specs.declared.events.Entry.{Entry}
use Rattle.pr_num.specs.declared.errnos.Errno.TheVariants.{Intr}
use Rattle.pr_report_laws.proofs.Invariant.StandLemmas.{Each}
use Rattle.pr_truss.specs.Asides.{marks_at}
use Rattle.pr_truss.specs.FunctionFeeding.{fed_functions}
use Rattle.pr_truss.specs.Replies.{answer_of}
use Rattle.pr_truss.specs.Trusses.{TrussState, traced_at}
use Rattle.pr_truss.specs.declared.asides.Aside.TheVariants.{Nothing}
use Rattle.pr_truss.specs.declared.replies.Answer.TheVariants.{Interrupted}
use Rattle.pr_truss.specs.declared.stages.OpeningStep.TheVariants as opening
use Rattle.pr_truss.specs.declared.stages.Stage.TheVariants.{Opening, Polling, Running}
use Rattle.pr_truss_laws.proofs.Replies.FunctionOptionLemmas.{fed_functions-options}
use Rattle.pr_world.specs.ControllerStates.{ControllerState}

-- What is so of the processes of a truss that leaves them, since the first interrupt and after each call.

-- only an interrupt is answered so
broken-reply : (r : Reply) → answer_of r ≡ Interrupted → r ≡ reply.Fail Intr
unfolding answer_of
broken-reply (reply.Fail Intr) is = refl
broken-reply (reply.Fail _) is = cc
broken-reply _ is = cc

and-false : (a b : Bool) → (a ≡ true → b ≡ false) → (a && b) ≡ false
and-false true b none = none refl
and-false false b none = refl

module _ {n : ℕ} {who : Hiders} {controllers : List ControllerState} {first : TracedState}
    {h : List Entry} (run : IsRunOfTrusses n who controllers first h) where
  abbrev here : List Entry → TracedState
  here front = state_after first front

  -- ---- the processes at which truss has still to look

  module _ (front : List Entry) (u : TrussState) (t0 : TrussState) (due : ℕ → Bool)
      (l : Left (LeftMet run front t0 due u.options) (met-alike run front t0 due u.options) (IsDue t0 due)
      (due-alike t0 due) u) (at : First (Still run front) (Leads run front) (DoneIn run front) u) where
    abbrev first_pid : ℕ
    first_pid = (traced_at u 0).pid

    -- but for the one at which it has looked
    abbrev rest : ℕ → Bool
    rest pid = due pid && not (is_looked u.stage && (pid == first_pid))

    was-due : (pid : ℕ) → rest pid ≡ true → due pid ≡ true
    was-due pid is = (and_parts (due pid) (not (is_looked u.stage && (pid == first_pid))) is).0

    is-rest : (pid : ℕ) → due pid ≡ true → (is_looked u.stage && (pid == first_pid)) ≡ false → rest pid ≡ true
    is-rest pid is apart = ap (λ b. b && not (is_looked u.stage && (pid == first_pid))) is ∙ ap not apart

    due-on : (q : ℕ) → q < length u.traced → (is_looked u.stage ≡ true → q ≢ 0) → IsDue t0 rest (traced_at u q)
    due-on q within still =
        let d = l.unlooked q within still in
        record {
          is_due = is-rest (traced_at u q).pid d.is_due
              (and-false (is_looked u.stage) ((traced_at u q).pid == first_pid)
              (λ looks.
              ne_eqb (traced_at u q).pid first_pid (l.apart q 0 within (omega (arith, within)) (still looks))));
          new = d.new;
          old = d.old;
          unseen = d.unseen;
        }

    done-now : is_looked u.stage ≡ true → rest first_pid ≡ true → ⊥
    done-now looks is =
        let both = and_parts (due first_pid) (not (is_looked u.stage && (first_pid == first_pid))) is in
        let own : (is_looked u.stage && (first_pid == first_pid)) ≡ true =
        ap (λ b. b && (first_pid == first_pid)) looks ∙ eq-eqb first_pid first_pid refl in
        false≢true (sym (ap not own) ∙ both.1)

    leaves-rest : LeavesMet run front u
    leaves-rest = record {
      t0 = t0;
      due = rest;
      left = record {
        on = l.on;
        at = l.at;
        each = λ q within.
            (let w = l.each q within in
            (w.0, λ is opened. w.1 (was-due (traced_at u q).pid is) opened));
        apart = l.apart;
        unlooked = due-on;
        bare = l.bare;
      };
      place = at;
      done = done-now;
    }

  -- ---- its call

  module _ (front back : List Entry) (j : ℕ) (c : Call) (r : Reply) (place : h ≡ front ++ call_entry j c r ∷ back)
      (hider : hides who j ≡ true) where
    abbrev e : Entry
    e = call_entry j c r

    abbrev later_front : List Entry
    later_front = front ++ e ∷ []

    abbrev v : TracedState
    v = here front

    abbrev t : TrussState
    t = Calm.tr run front back j c r place hider

    abbrev u : TrussState
    u = fed_functions t r

    with-options : (t0 : TrussState) (due : ℕ → Bool)
        → Left (LeftMet run later_front t0 due t.options) (met-alike run later_front t0 due t.options) (IsDue t0 due)
        (due-alike t0 due) u
        → Left (LeftMet run later_front t0 due u.options) (met-alike run later_front t0 due u.options) (IsDue t0 due)
        (due-alike t0 due) u
    with-options t0 due =
        subst (λ (o : Options). Left (LeftMet run later_front t0 due o) (met-alike run later_front t0 due o)
        (IsDue t0 due) (due-alike t0 due) u) (sym (fed_functions-options t r))

    -- it left them before
    pub leaves-on : t.options.follow ≡ false → LeavesMet run front t → LeavesMet run later_front u
    leaves-on follow w =
        let l = w.left in
        let its_has = has run front back j c r place hider in
        leaves-rest later_front u w.t0 w.due
        (with-options w.t0 w.due
        (fed-left (LeftMet run later_front w.t0 w.due t.options) (met-alike run later_front w.t0 w.due t.options)
        (IsDue w.t0 w.due) (due-alike w.t0 w.due) t r l.on follow its_has l.apart l.unlooked l.at
        (left-made run front back j c r place hider w.t0 w.due l.at l.each (λ closes. w.done (ap is_looked closes)))))
        (fed-first (Still run later_front) (Leads run later_front) (DoneIn run later_front) t r l.on follow its_has l.at
        (first-made run front back j c r place hider w l.on follow l.at))

    -- it is interrupted for the first time
    module _ (counts : Counts run front) (off : t.leaving ≡ false) (interrupted : answer_of r ≡ Interrupted) where
      goes : Goes (Unit {0}) j (run-options run j hider) t v
      goes = Calm.goes run front e back place j hider off

      waits : may_wait c ≡ true
      waits =
          let calm =
          entry-calm n j v e (record { call = c; reply = r })
          (its-legal run front e back place (Calm.kept-now run front back j c r place))
          (ap (λ b. cond b (Some (record { call = c; reply = r })) None) (eq-eqb j j refl)) in
          calm.waits (broken-reply r interrupted)

      known : Kept Knows t
      known = known-on run j hider front (e ∷ back) place t (Calm.is-now run front back j c r place hider) off

      young : Kept Young t
      young = young-on run j hider front (e ∷ back) place t (Calm.is-now run front back j c r place hider) off

      unseen : Kept IsUnseen t
      unseen =
          let w =
          Known.known-on run front (e ∷ back) place j hider t (Calm.is-now run front back j c r place hider) off in
          w.unseen

      at-wait : (t.aside ≡ Nothing) × WaitsAt t
      at-wait =
          waits-at t.options (has run front back j c r place hider) t refl Knows c waits known.stage known.beside
          (Calm.next run front back j c r place hider)

      waiting : WaitsAt t → is_waiting t.stage ≡ true
      waiting (polls at) = ap is_waiting at
      waiting (awaits_opening b until at) = ap is_waiting at

      module _ (q : ℕ) (within : q < length t.traced) where
        opened-at : WaitsAt t → (traced_at t q).attached ≡ true → is_opened t.stage q ≡ true
        opened-at (polls at) attached = ap (λ s. is_opened s q) at
        opened-at (awaits_opening b until at) attached = elim (cases_eq b q) [
          | inl same ↦
              (let w = subst (AtStage Young t.traced) at young.stage in
              absurd (false≢true (sym (w.1.1 refl) ∙ ap (λ i. (traced_at t i).attached) same ∙ attached)))
          | inr other ↦ ap (λ s. is_opened s q) at ∙ ap not (ne_eqb b q other)
        ]

        known-at : WaitsAt t → is_opened t.stage q ≡ true → KnowsAll (traced_at t q)
        known-at (polls at) opened = let w = subst (AtStage Knows t.traced) at known.stage in w q within
        known-at (awaits_opening b until at) opened =
            let w = subst (AtStage Knows t.traced) at known.stage in
            elim (cases_eq q b) [
              | inl same ↦ subst (λ i. KnowsAll (traced_at t i)) (sym same) w.1.1
              | inr other ↦ w.1.0 q within other
            ]

        quiet-at : WaitsAt t → is_run_soon t.stage q ≡ false
        quiet-at (polls at) = ap (λ s. is_run_soon s q) at
        quiet-at (awaits_opening b until at) = ap (λ s. is_run_soon s q) at

        away-at : WaitsAt t → is_opened t.stage q ≡ true → is_about t.stage q ≡ false
        away-at (polls at) opened = ap (λ s. is_about s q) at
        away-at (awaits_opening b until at) opened =
            ap (λ s. is_about s q) at ∙ by (b == q) (sym (ap (λ s. is_opened s q) at) ∙ opened)
          where
            by : (x : Bool) → not x ≡ true → x ≡ false
            by false is = refl
            by true is = absurd (false≢true is)

        not-run : WaitsAt t → t.stage ≢ Running q
        not-run (polls at) runs = let both : Polling ≡ Running q = sym at ∙ runs in cc
        not-run (awaits_opening b until at) runs =
            let both : Opening b (opening.AwaitStop until) ≡ Running q = sym at ∙ runs in cc

        same-place : (i : ℕ) → i < length t.traced → (traced_at t i).pid ≡ (traced_at t q).pid → i ≡ q
        same-place i inside same = elim (cases_eq i q) [
          | inl is ↦ is
          | inr other ↦
              (let f = Calm.files run front e back place j hider in absurd (f.apart i q inside within other same))
        ]

        new-at : WasNew t (traced_at t q).pid → (traced_at t q).old ≡ 0
        new-at new =
            ap (λ i. (traced_at t i).old) (sym (same-place new.0 new.1.0 new.1.1.0)) ∙ new.1.1.1

        copies-at : (p : TracedProcess) → (traced_at t q).old ≡ 0 → RestsSo (traced_at t q) p
            → CopiesStand (marks_at t q) p
        copies-at p new (rests_new none stands) = stands
        copies-at p new (rests_old flags some out) = absurd (omega (arith, some, new))

        due-at : is_opened t.stage q ≡ true
            → DueSo run front t t.options (traced_at t q).pid (marks_at t q) (traced_at t q).lstatus
        due-at opened =
            let is = Calm.is-now run front back j c r place hider in
            let k = known-at at-wait.1 opened in
            let owns = goes-opened (Unit {0}) j (run-options run j hider) t v goes q within opened in
            let copies = Calm.copies run front e back place j hider off in
            record {
              flags = plain-wait run j hider front (e ∷ back) place t is off (waiting at-wait.1) q;
              known = k.lstatus;
              code = λ new. counts.code j hider t is off q within;
              stands = λ p live. record {
                traces = subst (λ (o : Options). TracesAll o p.control) (sym goes.options) (owns.traces p live);
                no_agent = owns.no_agent p live;
                few = λ new.
                    goes-few (Unit {0}) j (run-options run j hider) t v goes q within tt opened (not-run at-wait.1)
                    (new-at new) p live;
                met = λ new.
                    counts.met j hider t is off q within opened (quiet-at at-wait.1) (new-at new) p live;
                copies = λ new.
                    copies-at p (new-at new)
                    (rests-of t q p (away-at at-wait.1 opened) (copies.each q within p live));
              };
              rests = λ settled new.
                  let p = posted-on run settled.0 settled.1 front (e ∷ back) place in
                  p.rests j hider t is off q within opened (quiet-at at-wait.1);
              calm = λ settled old x live.
                  let p = posted-on run settled.0 settled.1 front (e ∷ back) place in
                  let some : (traced_at t q).old ≢ 0 = (λ none. old (q, (within, (refl, none)))) in (
                    waits-frozen t q x opened some (copies.each q within x live),
                    p.clean j hider t is off q within opened some x live,
                  );
            }

        -- one that it has opened is unseen
        unseen-at : WaitsAt t → is_opened t.stage q ≡ true → (traced_at t q).seen ≡ false
        unseen-at (polls at) opened = let w = subst (AtStage IsUnseen t.traced) at unseen.stage in w q within
        unseen-at (awaits_opening b until at) opened =
            let w = subst (AtStage IsUnseen t.traced) at unseen.stage in
            elim (cases_eq q b) [
              | inl same ↦ ap (λ i. (traced_at t i).seen) same ∙ w.1.1
              | inr other ↦ w.1.0 q within other
            ]

        is-due : IsDue t (λ pid. true) (traced_at t q)
        is-due = record {
          is_due = refl;
          new = λ none. (q, (within, (refl, none)));
          old = new-at;
          unseen = λ attached. unseen-at at-wait.1 (opened-at at-wait.1 attached);
        }

        -- nor is one attached that it opens
        is-due-seen : (step : OpeningStep) → t.stage ≡ Opening q step
            → IsDue t (λ pid. true) (record (traced_at t q) { seen = true })
        is-due-seen step opens = record {
          is_due = refl;
          new = λ none. (q, (within, (refl, none)));
          old = new-at;
          unseen = λ attached.
              absurd (false≢true
              (sym (ap (λ s. is_opened s q) opens ∙ ap not (eq-eqb q q refl)) ∙ opened-at at-wait.1 attached));
        }

      abbrev all_due : ℕ → Bool
      all_due pid = true

      was-met : Each (LeftMet run front t all_due t.options) t.traced
      was-met q within = (
        λ attached. (q, (within, (refl, opened-at q within at-wait.1 attached))),
        λ is_due opened.
            due-at q within
            (subst (λ i. is_opened t.stage i ≡ true) (same-place q within opened.0 opened.1.0 opened.1.1.0)
            opened.1.1.1),
      )

      pub leaves-first : LeavesMet run later_front u
      leaves-first =
          let f = Calm.files run front e back place j hider in
          let on : GoesOn t = Calm.on run front e back place j hider off in
          let its_has = has run front back j c r place hider in
          leaves-rest later_front u t all_due
          (with-options t all_due
          (begins-left (LeftMet run later_front t all_due t.options) (met-alike run later_front t all_due t.options)
          (IsDue t all_due) (due-alike t all_due) t r on.follow its_has f.apart
          (quiet-met run front back j c r place hider t all_due (waits-act c waits) was-met)
          (λ q within. is-due q within) (λ q step opens within. is-due-seen q within step opens) interrupted c
          (may-can c waits) on.stage on.beside
          (Calm.next run front back j c r place hider)))
          (first-begins (Still run later_front) (Leads run later_front) (DoneIn run later_front) t r its_has at-wait.0
          interrupted at-wait.1)
