use Rattle.pr_api.specs.Entries.{call_entry}
use Rattle.pr_function_hides.proofs.GoingOn.CalmCalls as Calm
use Rattle.pr_function_hides.proofs.Copying.CopyActs.{read-closed}
use Rattle.pr_function_hides.proofs.Copying.CopyClosing.{last-read}
use Rattle.pr_function_hides.proofs.LeavingCopies.CopyLooks.{IsOf, first-of}
use Rattle.pr_function_laws.proofs.Holding.GoneCalls.{ctl-gone}
use Rattle.pr_function_hides.proofs.LeavingFaults.LeavingCalls.{answered-is, has, over-own}
use Rattle.pr_function_hides.proofs.LeavingFaults.LeavingFirst.{TellsOwn, is_own_event}
use Rattle.pr_function_hides.proofs.LeavingFaults.LeavingMet.{DoneIn, Settled, DueSo, IsDue, LeadsSo, LeavesMet, Leads, Still}
use Rattle.pr_function_hides.proofs.LeavingFaults.LeavingPlaces.{done-ended, done-system, due-first}
use Rattle.pr_function_hides.proofs.LeavingFaults.LeavingPlaces.{held, its-due, own, quiet}
use Rattle.pr_function_hides.proofs.StandingFaults.OwnEvents.{stands-function}
use Rattle.pr_function_hides.proofs.StandingFaults.OwnFaults.{alone-old, lwps-old, old-none}
use Rattle.pr_function_hides.proofs.StandingFaults.OwnFaults.{HasNoOwn, IsOwnKind, StandsAtOwn, never-cleared, own-met}
use Rattle.pr_function_hides.proofs.StandingFaults.OwnFaults.{planted, trap}
use Rattle.pr_function_hides.proofs.MetFaults.RunUnmet.{few-leads}
use Rattle.pr_function_hides.proofs.FaultStops.StoppedCalls as Away
use Rattle.pr_function_hides.specs.RunsOfTrusses.{IsRunOfTrusses}
use Rattle.pr_function_hides.specs.FunctionHiders.{StandAsMarked}
use Rattle.pr_function_laws.proofs.OpenedProcesses.OpenedLaws.{bytes-front}
use Rattle.pr_function_laws.proofs.OpenedProcesses.OpenedLemmas.{Holds}
use Rattle.pr_function_laws.proofs.CallTurns.TurnReads.{fault-told}
use Rattle.pr_function_laws.specs.Stretches.{acts_by}
use Rattle.pr_hidden.specs.Covers.{Covers, Cover}
use Rattle.pr_hidden.specs.Hiders.{Hiders, covers_at, hides}
use Rattle.pr_lawful.proofs.LawfulTurns.EndLemmas.{found-live}
use Rattle.pr_lawful.proofs.Following.UseLemmas.{live-lawful}
use Rattle.pr_line.specs.Events.{event_of}
use Rattle.pr_line.specs.declared.events.Event.TheVariants as event
use Rattle.pr_line.specs.declared.events.Event.{Event}
use Rattle.pr_line.specs.declared.options.Options.{Options}
use Rattle.pr_model.specs.Calls.{answer_to, Answer, controlled}
use Rattle.pr_model.specs.ControlMessages.{tail_of, targeted_answer, decoded_answer}
use Rattle.pr_model.specs.Lawful.{IsLawful}
use Rattle.pr_model.specs.Legal.{IsLegal, state_after}
use Rattle.pr_model.specs.Messages.{on_found, message_answer, at_process, aimed_lwp, refused}
use Rattle.pr_model.specs.Records.{lstatus_of, statuses_of_lwps}
use Rattle.pr_model.specs.Registers.{pc_of}
use Rattle.pr_model.specs.Replies.{bytes_in}
use Rattle.pr_model.specs.Running.{without_fault}
use Rattle.pr_model.specs.State.{TracedLwp, TracedProcess, TracedState, live_process, TracedSystem, lwp_of, with_lwp}
use Rattle.pr_model.specs.Statuses.{lwpstatus_of}
use Rattle.pr_model.specs.Stops.{representative}
use Rattle.pr_model.specs.declared.calls.Call.TheVariants as call
use Rattle.pr_model.specs.declared.calls.Call.{Call}
use Rattle.pr_model.specs.declared.calls.File.TheVariants as file
use Rattle.pr_model.specs.declared.calls.Mode.TheVariants.{Read, WriteExcl}
use Rattle.pr_model.specs.declared.calls.Reply.{Reply}
use Rattle.pr_model.specs.declared.events.Entry.{Entry}
use Rattle.pr_model.specs.declared.handles.Held.{Held}
use Rattle.pr_model.specs.declared.stops.Stop.TheVariants as stop
use Rattle.pr_num.proofs.ByIdLaws.{under-change_under, under-change_under_other}
use Rattle.pr_num.specs.ById.{IsRising, change_under, under}
use Rattle.pr_num.specs.Messages.{first_message, spelling, bad_operand, encoded_length, in_columns, message_code}
use Rattle.pr_num.specs.Messages.{message_read, nth_word, operand_count, operands, tail_length, unpadded_length}
use Rattle.pr_num.specs.Messages.{with_tail}
use Rattle.pr_num.specs.Words.{word_bytes, word_of}
use Rattle.pr_num.specs.declared.errnos.Errno.TheVariants.{Busy}
use Rattle.pr_num.specs.declared.faults.Flt.{Flt}
use Rattle.pr_num.specs.declared.messages.Message.TheVariants as message
use Rattle.pr_reached.proofs.RecordsInRange.EntryRanges.{records-range}
use Rattle.pr_reached.proofs.Together.ReachedLemmas.{later-reached}
use Rattle.pr_reached.specs.ByteHistories.{HasBytes}
use Rattle.pr_reached.specs.Reached.{IsReached}
use Rattle.pr_rec.specs.declared.lwps.LwpStatus.{LwpStatus}
use Rattle.pr_report_laws.proofs.Machine.EventStopLemmas.{unmet-off}
use Rattle.pr_report_laws.proofs.Machine.RecordLaws.{lstatus-read}
use Rattle.pr_report_laws.specs.AtBirth.{has_met}
use Rattle.pr_tool_laws.proofs.Records.WholeLemmas.{front-legal}
use Rattle.pr_truss.specs.Asides.{marks_at}
use Rattle.pr_truss.specs.FunctionEvents.{function_event, breakpoint_event, fresh_event, trap_event}
use Rattle.pr_truss.specs.Messages.{message_call}
use Rattle.pr_truss.specs.NextCalls.{read_record}
use Rattle.pr_truss.specs.Processes.{last_handle, without_last}
use Rattle.pr_truss.specs.Records.{event_stops, is_on_event}
use Rattle.pr_truss.specs.Replies.{answer_of}
use Rattle.pr_truss.specs.Trusses.{TrussState, traced_at}
use Rattle.pr_truss.specs.declared.function_events.FunctionEvent.TheVariants.{Completed, TraceTrap}
use Rattle.pr_truss.specs.declared.marks.Marks.{Marks}
use Rattle.pr_truss.specs.declared.marks.Stepped.{Stepped}
use Rattle.pr_truss.specs.declared.processes.Traced.{Traced}
use Rattle.pr_truss.specs.declared.replies.Answer.TheVariants.{Accepted, Gone}
use Rattle.pr_truss.specs.declared.stages.OpeningStep.TheVariants as opening
use Rattle.pr_truss.specs.declared.stages.Stage.TheVariants.{ReadingLwps}
use Rattle.pr_truss_laws.proofs.EventStops.AloneLemmas.{alone-frozen}
use Rattle.pr_truss_laws.proofs.EventStops.BridgeLemmas.{mapped-some}
use Rattle.pr_truss_laws.proofs.Files.OpensLemmas.{held_by}
use Rattle.pr_truss_laws.proofs.Machine.StillLemmas.{live-changed}
use Rattle.pr_truss_laws.proofs.Machine.TakenLemmas.{ctl-is}
use Rattle.pr_truss_laws.specs.Stills.{IsFrozen, stands_still}
use Rattle.pr_world.specs.ControllerStates.{ControllerState}
use Rattle.std.proofs.Common.{◌==◌, ℕ, inl, inr, cond, ◌≡◌, ◌≢◌, ◌<◌, ◌++◌, Bool, true, false, is_some}
use Rattle.std.proofs.Common.{Option, Some, None, Ok, List, [], ◌∷◌, length, refl, sym, subst, ap, ◌∙◌}
use Rattle.std.proofs.lemmas.Bool.{cases_Bool, cases_eq, eq-eqb, eqb-true, false≢true}
use Rattle.std.proofs.lemmas.Option.{none-some, same_Some}
use Rattle.std.specs.List.{filter, slice_get}

-- Where a truss that leaves its processes looks at the lwps of one and is told of no fault of its own, none of them
-- stands at one; and none does once it has cleared that.

-- ---- the first status on an event

filter-first : {X : Type 0} (f : X → Bool) (xs : List X) (x : X) → slice_get (filter f xs) 0 ≡ Some x → f x ≡ true
filter-first f [] x is = absurd (none-some x is)
filter-first f (y ∷ ys) x is = by (f y) refl is (filter-first f ys x)
  where
    by : (b : Bool) → f y ≡ b → slice_get (cond b (y ∷ filter f ys) (filter f ys)) 0 ≡ Some x
        → (slice_get (filter f ys) 0 ≡ Some x → f x ≡ true) → f x ≡ true
    by true on found later = ap f (sym (same_Some y x found)) ∙ on
    by false off found later = later found

-- there is one where an lwp stands on an event
none-on : (p : TracedProcess) (es : List (ℕ × TracedLwp)) (id : ℕ) (l : TracedLwp) → under id es ≡ Some l
    → slice_get (filter is_on_event (statuses_of_lwps p es)) 0 ≡ None → is_on_event (lwpstatus_of p id l) ≡ true → ⊥
none-on p [] id l there none on = none-some l there
none-on p (e ∷ es) id l there none on =
    by (is_on_event (lwpstatus_of p e.0 e.1)) refl none (λ found rest. none-on p es id l found rest on)
  where
    here_or : (x : Bool) → (e.0 == id) ≡ x → cond x (Some e.1) (under id es) ≡ Some l
        → is_on_event (lwpstatus_of p e.0 e.1) ≡ false → (under id es ≡ Some l → ⊥) → ⊥
    here_or true same found off later =
        false≢true
        (sym off ∙ ap (λ i. is_on_event (lwpstatus_of p i e.1)) (eqb-true e.0 id same)
        ∙ ap (λ y. is_on_event (lwpstatus_of p id y)) (same_Some e.1 l found) ∙ on)
    here_or false apart found off later = later found

    by : (b : Bool) → is_on_event (lwpstatus_of p e.0 e.1) ≡ b
        → slice_get (cond b (lwpstatus_of p e.0 e.1 ∷ filter is_on_event (statuses_of_lwps p es))
        (filter is_on_event (statuses_of_lwps p es))) 0 ≡ None
        → (under id es ≡ Some l → slice_get (filter is_on_event (statuses_of_lwps p es)) 0 ≡ None → ⊥) → ⊥
    by true is nothing later = none-some (lwpstatus_of p e.0 e.1) (sym nothing)
    by false off rest later = here_or (e.0 == id) refl there off (λ found. later found rest)

-- ---- an event at a fault of its own

fresh-is : (v : Traced) (l : LwpStatus) (e : Event) → v.old ≡ 0 → v.seen ≡ false → event_of l ≡ Some e
    → fresh_event v l ≡ Some e
unfolding fresh_event
fresh-is v l e new unseen on =
    ap (λ b. cond b (cond v.seen None (event_of l)) None) (eq-eqb v.old 0 new)
    ∙ ap (λ b. cond b None (event_of l)) unseen ∙ on

own-event : (o : Options) (m : Marks) (id : ℕ) (cover : Cover) → StandAsMarked o m.planted cover.patches
    → (l : TracedLwp) (f : Flt) → IsOwnKind cover l f
    → is_own_event (function_event o m id (event.Incurred f (pc_of l.regs))) ≡ true
unfolding function_event
own-event o m id cover stand l f (trap is) =
    ap (λ g. is_own_event (function_event o m id (event.Incurred g (pc_of l.regs)))) is ∙ of m.stepped
  where
    of : (step : Option Stepped) → is_own_event (trap_event step id) ≡ true
    of None = refl
    of (Some step) =
        elim (step.lwp == id) as (λ b. is_own_event (cond b (Completed step) TraceTrap) ≡ true)
        [ true ↦ refl | false ↦ refl ]
own-event o m id cover stand l f (planted g is there) =
    let at = stands-function o m cover.patches stand (pc_of l.regs) g there in
    ap (λ x. is_own_event (function_event o m id (event.Incurred x (pc_of l.regs)))) is
    ∙ ap (λ x. is_own_event (breakpoint_event x)) at.1

-- ---- the lwps after PCCFAULT

cleared-still : (l : TracedLwp) → stands_still (without_fault l) ≡ stands_still l
unfolding without_fault
cleared-still l = refl

cfault-read : first_message (spelling message.Cfault []) ≡ Ok (message.Cfault, 8)
unfolding first_message message_read message_code operands nth_word word_bytes word_of in_columns bad_operand
    with_tail encoded_length unpadded_length operand_count tail_length
cfault-read = refl

module _ (p : TracedProcess) (at : ℕ) where
  abbrev q : TracedProcess
  q = with_lwp at without_fault p

  cleared-unended : (with_lwp at without_fault p).ended ≡ p.ended
  unfolding with_lwp
  cleared-unended = refl

  -- the one of that id is at no fault, and each other one is as it was
  cleared-own : (id : ℕ) → at ≡ id → (k : TracedLwp) → lwp_of (with_lwp at without_fault p) id ≡ Some k
      → (l : TracedLwp) × ((lwp_of p id ≡ Some l) × (without_fault l ≡ k))
  unfolding with_lwp
  cleared-own id same k there =
      mapped-some without_fault (lwp_of p id) k
      (sym (ap (λ i. under id (change_under i without_fault p.lwps)) same ∙ under-change_under id without_fault p.lwps)
      ∙ there)

  cleared-other : (id : ℕ) → at ≢ id → (k : TracedLwp) → lwp_of (with_lwp at without_fault p) id ≡ Some k
      → lwp_of p id ≡ Some k
  unfolding with_lwp
  cleared-other id apart k there =
      sym (under-change_under_other at id without_fault apart p.lwps) ∙ there

  cleared-frozen : IsFrozen p → IsFrozen (with_lwp at without_fault p)
  cleared-frozen frozen = record {
    each = λ id k there. elim (cases_eq at id) [
      | inl same ↦
          (let m = cleared-own id same k there in
          ap stands_still (sym m.1.1) ∙ cleared-still m.0 ∙ frozen.each id m.0 m.1.0)
      | inr apart ↦ frozen.each id k (cleared-other id apart k there)
    ];
  }

module _ {n : ℕ} {who : Hiders} {controllers : List ControllerState} {first : TracedState}
    {h : List Entry} (run : IsRunOfTrusses n who controllers first h) (front back : List Entry) (j : ℕ) (c : Call)
    (r : Reply) (place : h ≡ front ++ call_entry j c r ∷ back) (hider : hides who j ≡ true) where
  abbrev here : List Entry → TracedState
  here front = state_after first front

  abbrev covers : List Entry → Covers
  covers front = covers_at who first front

  abbrev e : Entry
  e = call_entry j c r

  abbrev later_front : List Entry
  later_front = front ++ e ∷ []

  abbrev v : TracedState
  v = here front

  abbrev t : TrussState
  t = Calm.tr run front back j c r place hider

  abbrev pid : ℕ
  pid = (traced_at t 0).pid

  less : (id : ℕ) → (covers later_front pid).faulted id ≡ true → (covers front pid).faulted id ≡ true
  less = Away.less-now run front back j c r place pid

  module _ (within : 0 < length t.traced) where
    -- ---- the look

    module _ (w : LeavesMet run front t) (reads : t.stage ≡ ReadingLwps) (is : c ≡ read_record (traced_at t 0).lstatus)
        (attached : (traced_at t 0).attached ≡ true) (still : Still run front pid) where
      due : IsDue w.t0 w.due (traced_at t 0)
      due = its-due run front back j c r place hider within w reads

      so : DueSo run front w.t0 t.options pid (marks_at t 0) (traced_at t 0).lstatus
      so = due-first run front back j c r place hider within w reads attached

      module _ (settled : Settled run) (p : TracedProcess) (live : live_process v.system pid ≡ Some p) (id : ℕ)
          (x : StandsAtOwn (covers front pid) p id) (new : (traced_at t 0).old ≡ 0) where
        stands : (x.lwp.control.stop ≡ Some (stop.Faulted x.fault)) × IsOwnKind (covers front pid) x.lwp x.fault
        stands = let d = so in let u = due in d.rests settled (u.new new) p live id x

        rising : IsRising p.lwps
        rising =
            let lawful = Calm.lawful run front back j c r place hider in
            let l = live-lawful v.system pid p lawful.system live in l.rising

        told-event : event_of (lwpstatus_of p id x.lwp) ≡ Some (event.Incurred x.fault (pc_of x.lwp.regs))
        told-event = fault-told p id x.lwp x.fault stands.0

        on : is_on_event (lwpstatus_of p id x.lwp) ≡ true
        unfolding is_on_event
        on = ap (λ (o : Option Event). is_some o) told-event

        leads-so : (i : ℕ) (l : TracedLwp) → lwp_of p i ≡ Some l → has_met l ≡ true → representative p ≡ Some (i, l)
        leads-so i l there met_it =
            let d = so in
            let u = due in
            let st = d.stands p live in
            few-leads p rising st.no_agent (still p live) (st.few (u.new new)) i l there met_it

        -- the first status on an event is that of this lwp
        first-is : (l : LwpStatus) → slice_get (filter is_on_event (statuses_of_lwps p p.lwps)) 0 ≡ Some l
            → l ≡ lwpstatus_of p id x.lwp
        first-is l found =
            let f : IsOf p p.lwps l = first-of p 0 p.lwps rising l found in
            let first_on : is_on_event (lwpstatus_of p f.id f.lwp) ≡ true =
            ap is_on_event f.is ∙ filter-first is_on_event (statuses_of_lwps p p.lwps) l found in
            let met_first : has_met f.lwp ≡ true =
            elim (cases_Bool (has_met f.lwp)) [
              | inl has ↦ has
              | inr none ↦ absurd (false≢true (sym (unmet-off p f.id f.lwp none) ∙ first_on))
            ] in
            let same : (f.id, f.lwp) ≡ (id, x.lwp) =
            same_Some (f.id, f.lwp) (id, x.lwp)
            (sym (leads-so f.id f.lwp f.there met_first)
            ∙ leads-so id x.lwp x.there (own-met x.lwp x.fault stands.0)) in
            sym f.is ∙ ap (λ (y : ℕ × TracedLwp). lwpstatus_of p y.0 y.1) same

        tells-own : TellsOwn t r
        unfolding lstatus_of lwpstatus_of
        tells-own = by (slice_get (filter is_on_event (statuses_of_lwps p p.lwps)) 0) refl
          where
            reached : IsReached v
            reached =
                later-reached n first front run.reached (bytes-front front (e ∷ back) (subst HasBytes place run.bytes))
                (front-legal n first front (e ∷ back)
                (subst (λ (es : List Entry). IsLegal n first es) place run.legal))

            made : Answer
            made = let it = own run front back j c r place hider in it.answer

            read-so : (answer_of r ≡ Accepted)
                × (slice_get (event_stops (bytes_in r)) 0
                ≡ slice_get (filter is_on_event (statuses_of_lwps p p.lwps)) 0)
            read-so =
                let it = own run front back j c r place hider in
                let lawful : IsLawful v = reached.lawful in
                let found = found-live v.system pid p live in
                let l = live-lawful v.system pid p lawful.system live in
                let records = records-range v.system lawful.system reached.in_range in
                let its_records = records.processes pid p found.0 in
                let d = so in
                let known = d.known in
                let tr = Calm.truss run front e back place j hider in
                let files = tr.files 0 within in
                let sees =
                lstatus-read v j known.number (held_by j pid 0 file.Lstatus Read) (files.lstatus known.number known.is)
                it.answer p live refl its_records.lstatus l.few_lwps
                (ap (answer_to v j) (ap read_record (sym known.is) ∙ sym is) ∙ it.is) in (
                  ap answer_of (sym it.replied) ∙ sees.accepted,
                  ap (λ (y : Reply). slice_get (event_stops (bytes_in y)) 0) (sym it.replied)
                      ∙ ap (λ (ls : List LwpStatus). slice_get ls 0) sees.stops,
                )

            by : (o : Option LwpStatus) → slice_get (filter is_on_event (statuses_of_lwps p p.lwps)) 0 ≡ o
                → TellsOwn t r
            by None none = absurd (none-on p p.lwps id x.lwp x.there none on)
            by (Some l) found =
                let same = first-is l found in
                let u = due in
                let tr = Calm.truss run front e back place j hider in
                record {
                  accepted = read-so.0;
                  l = l;
                  told = read-so.1 ∙ found;
                  event = event.Incurred x.fault (pc_of x.lwp.regs);
                  fresh = fresh-is (traced_at t 0) l _ new (u.unseen attached) (ap event_of same ∙ told-event);
                  own =
                      ap (λ (s : LwpStatus). is_own_event (function_event t.options (marks_at t 0) s.id
                      (event.Incurred x.fault (pc_of x.lwp.regs)))) same
                      ∙ own-event t.options (marks_at t 0) id (covers front pid) (tr.stand 0 within (p, live)) x.lwp
                      x.fault stands.1;
                }

      pub done-told : (TellsOwn t r → ⊥) → DoneIn run later_front pid
      done-told not settled x later =
          let none : acts_by c ≡ None = ap acts_by is ∙ by (traced_at t 0).lstatus in
          let was =
          Calm.own-alone run front back j c r place hider 0 within
          (quiet run front back j c r place hider within none) x later in (
            alone-frozen was.0 x was.1.1 (still was.0 was.1.0),
            old-none (covers front pid) (covers later_front pid) was.0 x less (alone-old was.0 x was.1.1)
                (λ id own. elim (cases_eq (traced_at t 0).old 0) [
                  | inl new ↦ not (tells-own settled was.0 was.1.0 id own new)
                  | inr some ↦
                      (let d = so in
                      let u = due in
                      let calm = d.calm settled (λ is_new. some (u.old is_new)) was.0 was.1.0 in
                      false≢true (sym (calm.1 id) ∙ own.own))
                ]),
          )
        where
          by : (o : Option ℕ) → acts_by (read_record o) ≡ None
          by None = refl
          by (Some m) = refl

    -- ---- PCCFAULT

    module _ (is : c ≡ message_call (traced_at t 0).control message.Cfault) (leads : Leads run front pid) where
      handle : Held
      handle = held_by j pid 0 file.Ctl WriteExcl

      made-is : (p : TracedProcess) → live_process v.system pid ≡ Some p
          → (let it = own run front back j c r place hider in it.answer)
          ≡ controlled v
          (cond (pid == 0) (refused v.system Busy)
          (message_answer v.system pid p at_process message.Cfault
          (tail_of message.Cfault (spelling message.Cfault [])) 8))
      made-is p live =
          let it = own run front back j c r place hider in
          ctl-is v j (traced_at t 0).control (held_by j pid 0 file.Ctl WriteExcl)
          (held run front back j c r place hider within) refl (spelling message.Cfault []) it.answer
          (ap (answer_to v j) (sym is) ∙ it.is)
          ∙ ap (λ o. controlled v (targeted_answer v.system (held_by j pid 0 file.Ctl WriteExcl) o
          (spelling message.Cfault []))) live
          ∙ ap (λ y. controlled v (decoded_answer v.system (held_by j pid 0 file.Ctl WriteExcl) p
          (spelling message.Cfault []) y)) cfault-read

      module _ (settled : Settled run) (p : TracedProcess) (live : live_process v.system pid ≡ Some p)
          (takes : (pid == 0) ≡ false) where
        l : LeadsSo (covers front pid) p
        l = (leads p live).0

        cleared-leads : (i : ℕ) (y : TracedLwp) → lwp_of p i ≡ Some y → has_met y ≡ true
            → representative p ≡ Some (i, y)
        cleared-leads i y there met_it =
            let lawful = Calm.lawful run front back j c r place hider in
            let lives = live-lawful v.system pid p lawful.system live in
            let so = l in
            few-leads p lives.rising so.no_agent so.frozen so.few i y there met_it

        led : (let so = l in let o = so.own in representative p ≡ Some (o.id, o.lwp))
        led = let so = l in let o = so.own in cleared-leads o.id o.lwp o.there o.met

        abbrev at : ℕ
        at = (let so = l in let o = so.own in o.id)

        later-is : live_process (here later_front).system pid ≡ Some (with_lwp at without_fault p)
        unfolding message_answer aimed_lwp
        later-is =
            ap (λ (y : TracedState). live_process y.system pid) (sym (answered-is run front back j c r place hider))
            ∙ ap (λ (y : Answer). live_process y.state.system pid)
            (made-is p live
            ∙ ap (λ b. controlled v (cond b (refused v.system Busy)
            (message_answer v.system pid p at_process message.Cfault
            (tail_of message.Cfault (spelling message.Cfault [])) 8))) takes
            ∙ ap (λ o. controlled v (on_found v.system pid p 8 without_fault o)) led)
            ∙ live-changed v.system pid (with_lwp at without_fault) p live (cleared-unended p at)

        cleared-none : HasNoOwn (covers later_front pid) (with_lwp at without_fault p)
        cleared-none id x = elim (cases_eq at id) [
          | inl same ↦
              (let m = cleared-own p at id same x.lwp x.there in
              never-cleared m.0 x.fault x.address (ap (λ (y : TracedLwp). y.phase) m.1.1 ∙ x.phase))
          | inr apart ↦
              (let there = cleared-other p at id apart x.lwp x.there in
              let stops =
              (leads p live).1 settled id
              (record {
                lwp = x.lwp;
                there = there;
                own = less id x.own;
                fault = x.fault;
                address = x.address;
                phase = x.phase;
              }) in
              apart
              (ap (λ (y : ℕ × TracedLwp). y.0)
              (same_Some _ (id, x.lwp) (sym led ∙ cleared-leads id x.lwp there (own-met x.lwp x.fault stops)))))
        ]

        cleared-done : (x : TracedProcess) → live_process (here later_front).system pid ≡ Some x
            → IsFrozen x × HasNoOwn (covers later_front pid) x
        cleared-done x later =
            subst (λ (y : TracedProcess). IsFrozen y × HasNoOwn (covers later_front pid) y)
            (same_Some (with_lwp at without_fault p) x (sym later-is ∙ later))
            (cleared-frozen p at (let so = l in so.frozen), cleared-none)

      pub done-cleared : DoneIn run later_front pid
      done-cleared settled x later = by (live_process v.system pid) refl
        where
          by : (o : Option TracedProcess) → live_process v.system pid ≡ o
              → IsFrozen x × HasNoOwn (covers later_front pid) x
          by None ended = done-ended run front back j c r place hider within ended settled x later
          by (Some p) live = elim (cases_Bool (pid == 0)) [
            | inl zero_pid ↦
                done-system run front back j c r place hider within (eqb-true pid 0 zero_pid) settled x later
            | inr takes ↦ cleared-done settled p live takes x later
          ]

    -- ---- a file that is closed

    module _ (is : c ≡ call.Close (last_handle (traced_at t 0))) (u : Traced)
        (left : without_last (traced_at t 0) ≡ Some u) where
      closed-same : (here later_front).system ≡ v.system
      closed-same =
          let it = own run front back j c r place hider in
          let tr = Calm.truss run front e back place j hider in
          let f = tr.files 0 within in
          let t0 = traced_at t 0 in
          let holds : Holds j t.options v (Some opening.OpenStatus) pid (traced_at t 0).control (traced_at t 0).status
          (traced_at t 0).lstatus (traced_at t 0).memory =
          record {
            its = f.control;
            its_status = f.status;
            its_lstatus = f.lstatus;
            its_memory = f.memory;
            known = tt;
            set = λ p live. tt;
          } in
          let read = last-read j t.options v t0 u t0.memory t0.lstatus t0.status holds left in
          ap (λ (y : TracedState). y.system) (sym (answered-is run front back j c r place hider))
          ∙ read-closed n j v (Calm.lawful run front back j c r place hider) c it.answer it.is
          (over-own run front back j c r place hider) (last_handle (traced_at t 0)) read.0 read.1.0 read.1.1 is

      pub done-closed : DoneIn run front pid → DoneIn run later_front pid
      done-closed done settled x later =
          let w =
          done settled x (ap (λ (s : TracedSystem). live_process s pid) (sym closed-same) ∙ later) in (
            w.0,
            old-none (covers front pid) (covers later_front pid) x x less (lwps-old x x refl) w.1,
          )

    -- ---- a message to one that has ended

    pub gone-ended : (bytes : List ℕ) → c ≡ call.Ctl (traced_at t 0).control bytes → answer_of r ≡ Gone
        → live_process v.system pid ≡ None
    gone-ended bytes is gone =
        let it = own run front back j c r place hider in
        ctl-gone v j (traced_at t 0).control (held_by j pid 0 file.Ctl WriteExcl)
        (held run front back j c r place hider within) refl it.answer bytes (ap (answer_to v j) (sym is) ∙ it.is)
        (ap answer_of it.replied ∙ gone)
