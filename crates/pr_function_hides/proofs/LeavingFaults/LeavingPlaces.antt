use Rattle.std.proofs.Common.{◌≡◌, ◌≢◌, ◌<◌, ◌++◌, ℕ, true, false, is_some, Option, Some, None, Ok, List, [], ◌∷◌}
use Rattle.std.proofs.Common.{length, refl, sym, subst, ap, ◌∙◌}
use Rattle.std.proofs.lemmas.Bool.{eqb-true, false≢true}
use Rattle.std.proofs.lemmas.List.{append_assoc}
use Rattle.std.proofs.lemmas.Option.{none-some, same_Some}
use Rattle.std.specs.List.{slice_get}
use Rattle.pr_api.specs.Entries.{call_entry}
use Rattle.pr_report_laws.proofs.Machine.StoppedLaws.{stopped-frozen}
use Rattle.pr_function_hides.proofs.GoingOn.CalmCalls as Calm
use Rattle.pr_function_hides.proofs.Copying.CopyActs.{sent-lwps}
use Rattle.pr_function_hides.proofs.LeavingCopies.CopyLooks.{IsOf, first-of}
use Rattle.pr_function_hides.proofs.LeavingFaults.LeavingCalls.{answered-is, more-stay, over-own}
use Rattle.pr_function_hides.proofs.LeavingFaults.LeavingFirst.{TellsOwn, is_own_event}
use Rattle.pr_function_hides.proofs.LeavingFaults.LeavingMet.{DoneIn, Settled, DueSo, IsDue, LeadsSo, LeavesMet, Leads, Still}
use Rattle.pr_function_hides.proofs.Replies.LeavingStages.{is_looked}
use Rattle.pr_function_hides.proofs.LeavingFaults.LeavingWaits.{system-none, AskTold, WaitTold, ask-ended, ask-told, asks_system, interrupted}
use Rattle.pr_function_hides.proofs.LeavingFaults.LeavingWaits.{is_asked, is_over, of_system, system-still}
use Rattle.pr_function_hides.proofs.LeavingFaults.LeavingWaits.{wait-told}
use Rattle.pr_function_hides.proofs.MetFaults.MetCounts.{alone-clears, event-clears, lwps-clears}
use Rattle.pr_function_hides.proofs.StandingFaults.OwnFaults.{OwnStops, alone-old, faults-old, lwps-old, old-none, stops-stay}
use Rattle.pr_function_hides.proofs.FaultStops.StoppedCalls as Away
use Rattle.pr_function_hides.proofs.StandingFaults.SoonRuns.{flags_met}
use Rattle.pr_function_hides.proofs.Tidy.TidyCalls as Calls
use Rattle.pr_function_hides.specs.RunsOfTrusses.{IsRunOfTrusses}
use Rattle.pr_function_laws.proofs.Stepping.BreakpointLemmas.{IsOwnEntry}
use Rattle.pr_function_laws.proofs.Marks.MetLemmas.{fresh-stands}
use Rattle.pr_function_laws.proofs.OpenedProcesses.OneEventLemmas.{alone-few, lwps-few}
use Rattle.pr_function_laws.proofs.OpenedProcesses.OpenedCalls.{write-as}
use Rattle.pr_function_laws.proofs.OpenedProcesses.OpenedLaws.{bytes-front}
use Rattle.pr_function_laws.proofs.OpenedProcesses.StoodCalls.{KeepsLwps, leaves_lwps}
use Rattle.pr_function_laws.proofs.CallTurns.TurnReads.{fresh-new}
use Rattle.pr_function_laws.specs.Stretches.{acts_by}
use Rattle.pr_hidden.specs.Covers.{Covers}
use Rattle.pr_hidden.specs.Hiders.{Hiders, covers_at, hides}
use Rattle.pr_hidden.specs.Tidiness.{is_step_flags}
use Rattle.pr_lawful.proofs.LawfulTurns.EndLemmas.{found-live}
use Rattle.pr_lawful.proofs.LawfulStates.HistoryLemmas.{history-state}
use Rattle.pr_lawful.proofs.Following.UseLemmas.{live-lawful}
use Rattle.pr_line.specs.Events.{event_of}
use Rattle.pr_model.specs.Calls.{answer_to}
use Rattle.pr_model.specs.ControlMessages.{system_refusal, tail_of, waits}
use Rattle.pr_model.specs.Handles.{handle_of}
use Rattle.pr_model.specs.Lawful.{IsLawful}
use Rattle.pr_model.specs.Legal.{IsLegal, state_after}
use Rattle.pr_model.specs.Messages.{Aim, message_answer}
use Rattle.pr_model.specs.Records.{lstatus_of}
use Rattle.pr_model.specs.Replies.{bytes_in, until_in}
use Rattle.pr_model.specs.State.{TracedProcess, TracedState, live_process}
use Rattle.pr_model.specs.Statuses.{lwpstatus_of}
use Rattle.pr_model.specs.declared.calls.Call.{Call}
use Rattle.pr_model.specs.declared.calls.Call.TheVariants as call
use Rattle.pr_model.specs.declared.calls.File.TheVariants as file
use Rattle.pr_model.specs.declared.calls.Mode.TheVariants.{Read, WriteExcl}
use Rattle.pr_model.specs.declared.calls.Reply.{Reply}
use Rattle.pr_model.specs.declared.calls.Reply.TheVariants as reply
use Rattle.pr_model.specs.declared.events.Entry.{Entry}
use Rattle.pr_model.specs.declared.handles.Held.{Held}
use Rattle.pr_num.specs.Agents.{agent_id}
use Rattle.pr_num.specs.ById.{under}
use Rattle.pr_num.specs.Control.{clear_fault, has_flags}
use Rattle.pr_num.specs.Limits.{instruction_size}
use Rattle.pr_num.specs.Messages.{first_message, spelling}
use Rattle.pr_num.specs.declared.errnos.Errno.{Errno}
use Rattle.pr_num.specs.declared.errnos.Errno.TheVariants.{Busy}
use Rattle.pr_num.specs.declared.messages.Message.{Message}
use Rattle.pr_num.specs.Sets.{common_word, union_word}
use Rattle.pr_reached.proofs.RecordsInRange.EntryRanges.{records-range}
use Rattle.pr_reached.proofs.Together.ReachedLemmas.{later-reached}
use Rattle.pr_reached.specs.ByteHistories.{HasBytes}
use Rattle.pr_reached.specs.Reached.{IsReached}
use Rattle.pr_rec.specs.declared.lwps.LwpStatus.{LwpStatus}
use Rattle.pr_report_laws.proofs.Machine.FrameLaws.{alone-agent}
use Rattle.pr_report_laws.proofs.Machine.RecordLaws.{lstatus-read}
use Rattle.pr_tool_laws.proofs.Records.WholeLemmas.{front-legal}
use Rattle.pr_truss.specs.Asides.{marks_at}
use Rattle.pr_truss.specs.FunctionCalls.{patch_call, wait_call}
use Rattle.pr_truss.specs.FunctionEvents.{function_event}
use Rattle.pr_truss.specs.Marks.{address_of, code_of}
use Rattle.pr_truss.specs.Messages.{message_call}
use Rattle.pr_truss.specs.NextCalls.{read_record}
use Rattle.pr_truss.specs.Records.{event_stops}
use Rattle.pr_truss.specs.Replies.{answer_of}
use Rattle.pr_truss.specs.Trusses.{TrussState, traced_at}
use Rattle.pr_truss.specs.declared.function_events.FunctionEvent.{FunctionEvent}
use Rattle.pr_truss.specs.declared.function_events.FunctionEvent.TheVariants.{AtBreakpoint, Completed, TraceTrap}
use Rattle.pr_truss.specs.declared.marks.Marks.{Marks}
use Rattle.pr_truss.specs.declared.replies.Answer.{Answer}
use Rattle.pr_truss.specs.declared.replies.Answer.TheVariants.{Accepted, Gone, Interrupted, Refused}
use Rattle.pr_truss.specs.declared.stages.Stage.TheVariants.{ReadingLwps}
use Rattle.pr_truss_laws.proofs.EventStops.AloneLemmas.{alone-frozen}
use Rattle.pr_truss_laws.proofs.Files.OpensLemmas.{held_by}
use Rattle.pr_truss_laws.specs.Stills.{IsFrozen}
use Rattle.pr_world.specs.ControllerStates.{ControllerState}

-- What a call of a truss that leaves its processes makes of the one that it leaves now. Once it waited for the stop the
-- process stands still; and where the look at the lwps tells of an event at which it clears the fault, that is the
-- fault of the lwp at which PCCFAULT is aimed.

-- ---- run flags

pub none-clears : has_flags 0 clear_fault ≡ false
unfolding has_flags common_word
none-clears = refl

-- events at which truss clears the fault
own-steps : (m : Marks) (e : FunctionEvent) → is_own_event e ≡ true → is_step_flags (flags_met m e) ≡ true
unfolding union_word
own-steps m (AtBreakpoint function) own = refl
own-steps m (Completed step) own = refl
own-steps m TraceTrap own = refl
own-steps m _ own = absurd (false≢true own)

-- ---- where the call comes

module _ {n : ℕ} {who : Hiders} {controllers : List ControllerState} {first : TracedState}
    {h : List Entry} (run : IsRunOfTrusses n who controllers first h) (front back : List Entry) (j : ℕ) (c : Call)
    (r : Reply) (place : h ≡ front ++ call_entry j c r ∷ back) (hider : hides who j ≡ true) where
  abbrev here : List Entry → TracedState
  here front = state_after first front

  abbrev covers : List Entry → Covers
  covers front = covers_at who first front

  abbrev e : Entry
  e = call_entry j c r

  abbrev later_front : List Entry
  later_front = front ++ e ∷ []

  abbrev v : TracedState
  v = here front

  abbrev t : TrussState
  t = Calm.tr run front back j c r place hider

  abbrev pid : ℕ
  pid = (traced_at t 0).pid

  abbrev pub own : IsOwnEntry j v e (record { call = c; reply = r })
  own = Calls.own run front back j c r place (Calm.kept-now run front back j c r place) hider

  replied : (a : Answer) → answer_of own.answer.reply ≡ a → answer_of r ≡ a
  replied a is = ap answer_of (sym own.replied) ∙ is

  lawful-later : IsLawful (here later_front)
  lawful-later =
      let reached : IsReached first = run.reached in
      history-state n first later_front reached.lawful
      (front-legal n first later_front back
      (subst (λ (es : List Entry). IsLegal n first es) (place ∙ sym (append_assoc front (e ∷ []) back)) run.legal))

  module _ (within : 0 < length t.traced) where
    pub held : handle_of v.opens j (traced_at t 0).control ≡ Some (held_by j pid 0 file.Ctl WriteExcl)
    held = let f = Calm.files run front e back place j hider in f.control 0 within

    -- ---- that it stands still then

    still-ended : live_process v.system pid ≡ None → Still run later_front pid
    still-ended ended x later =
        absurd (none-some x
        (sym (ap (λ (y : TracedState). live_process y.system pid) (sym (answered-is run front back j c r place hider))
        ∙ over-own run front back j c r place hider pid
        (Calm.control-there run front back j c r place hider 0 within) ended) ∙ later))

    still-system : pid ≡ 0 → Still run later_front pid
    still-system zero_pid x later =
        let l = lawful-later in system-still (here later_front).system pid x l.system later zero_pid

    pub quiet : acts_by c ≡ None → (m : ℕ) (g : Held) → acts_by c ≡ Some m → handle_of v.opens j m ≡ Some g
        → g.pid ≢ pid
    quiet none m g acts there same = none-some m (sym none ∙ acts)

    still-quiet : acts_by c ≡ None → Still run front pid → Still run later_front pid
    still-quiet none still x later =
        let was = Calm.own-alone run front back j c r place hider 0 within (quiet none) x later in
        alone-frozen was.0 x was.1.1 (still was.0 was.1.0)

    -- ---- that none of it stands at a fault of its own then

    pub done-ended : live_process v.system pid ≡ None → DoneIn run later_front pid
    done-ended ended settled x later =
        absurd (none-some x
        (sym (ap (λ (y : TracedState). live_process y.system pid) (sym (answered-is run front back j c r place hider))
        ∙ over-own run front back j c r place hider pid
        (Calm.control-there run front back j c r place hider 0 within) ended) ∙ later))

    pub done-system : pid ≡ 0 → DoneIn run later_front pid
    done-system zero_pid settled x later =
        let l = lawful-later in (
          still-system zero_pid x later,
          λ id w. system-none (here later_front).system pid x l.system later zero_pid id w.lwp w.there,
        )

    pub done-quiet : acts_by c ≡ None → DoneIn run front pid → DoneIn run later_front pid
    done-quiet none done settled x later =
        let was = Calm.own-alone run front back j c r place hider 0 within (quiet none) x later in
        let w = done settled was.0 was.1.0 in (
          alone-frozen was.0 x was.1.1 w.0,
          old-none (covers front pid) (covers later_front pid) was.0 x (Away.less-now run front back j c r place pid)
              (alone-old was.0 x was.1.1) w.1,
        )

    -- ---- the request for the stop

    abbrev Asks : Type 0
    Asks =
        (answer_of r ≡ Accepted → until_in r ≡ 0)
        × (((errno : Errno) → answer_of r ≡ Refused errno → Still run later_front pid)
        × (answer_of r ≡ Gone → DoneIn run later_front pid))

    pub asked : (m : Message) (len : ℕ) → first_message (spelling m []) ≡ Ok (m, len) → system_refusal m ≡ Busy
        → ((p : TracedProcess) (aim : Aim)
        → (message_answer v.system pid p aim m (tail_of m (spelling m [])) len).reply ≡ reply.Half 0)
        → c ≡ message_call (traced_at t 0).control m → Asks
    asked m len read busy half is = by (live_process v.system pid) refl
      where
        given : answer_to v j (call.Ctl (traced_at t 0).control (spelling m [])) ≡ Some own.answer
        given = ap (answer_to v j) (sym is) ∙ own.is

        gone : answer_of r ≡ Gone → live_process v.system pid ≡ None → Asks
        gone over ended = (
          λ accepted. absurd (let both : Accepted ≡ Gone = sym accepted ∙ over in cc),
          (
            (λ errno refused. absurd (let both : Refused errno ≡ Gone = sym refused ∙ over in cc)),
            (λ again. done-ended ended),
          ),
        )

        told : AskTold pid own.answer → Asks
        told (asks_system zero_pid busy_then) = (
          λ accepted.
              absurd (let both : Accepted ≡ Refused Busy = sym accepted ∙ replied (Refused Busy) busy_then in cc),
          ((λ errno refused. still-system zero_pid), (λ over. done-system zero_pid)),
        )
        told (is_asked accepted ends) = (
          λ again. ap until_in (sym own.replied) ∙ ends,
          (
            (λ errno refused.
                absurd (let both : Refused errno ≡ Accepted = sym refused ∙ replied Accepted accepted in cc)),
            (λ over. absurd (let both : Gone ≡ Accepted = sym over ∙ replied Accepted accepted in cc)),
          ),
        )

        by : (o : Option TracedProcess) → live_process v.system pid ≡ o → Asks
        by None ended =
            gone
            (replied Gone
            (ask-ended v j (traced_at t 0).control (held_by j pid 0 file.Ctl WriteExcl) held refl (spelling m [])
            own.answer given ended)) ended
        by (Some p) live =
            told
            (ask-told v j (traced_at t 0).control (held_by j pid 0 file.Ctl WriteExcl) held refl p live m
            (spelling m []) len read busy (half p) own.answer given)

    -- ---- the wait, and the look

    module _ (w : LeavesMet run front t) (reads : t.stage ≡ ReadingLwps) where
      pub its-due : IsDue w.t0 w.due (traced_at t 0)
      its-due =
          let l = w.left in
          l.unlooked 0 within (λ looked. absurd (false≢true (ap is_looked (sym reads) ∙ looked)))

      pub due-first : (traced_at t 0).attached ≡ true
          → DueSo run front w.t0 t.options pid (marks_at t 0) (traced_at t 0).lstatus
      due-first attached =
          let l = w.left in
          let m = l.each 0 within in
          let d = its-due in
          m.1 d.is_due (m.0 attached)

      -- a wait that is granted or refused finds it standing still
      abbrev pub Made : Type 0
      Made =
          (answer_of r ≢ Interrupted → Still run later_front pid) × (answer_of r ≡ Gone → DoneIn run later_front pid)

      pub waited : (m : Message) (len : ℕ) → waits m ≡ true → first_message (spelling m []) ≡ Ok (m, len)
          → c ≡ wait_call (traced_at t 0).control 0 m → (traced_at t 0).attached ≡ true → Made
      waited m len waits_so read is attached = by (live_process v.system pid) refl
        where
          told : (p : TracedProcess) → live_process v.system pid ≡ Some p → WaitTold pid p own.answer → Made
          told p live (of_system zero_pid) = ((λ calm. still-system zero_pid), (λ gone. done-system zero_pid))
          told p live (interrupted broken) = (
            λ calm. absurd (calm (replied Interrupted broken)),
            λ gone. absurd (let both : Gone ≡ Interrupted = sym gone ∙ replied Interrupted broken in cc),
          )
          told p live (is_over stopped accepted) = (
            λ calm.
                (let d = due-first attached in
                let st = d.stands p live in
                let lawful = Calm.lawful run front back j c r place hider in
                let l = live-lawful v.system pid p lawful.system live in
                still-quiet (ap acts_by is)
                (λ q there.
                subst IsFrozen (same_Some p q (sym live ∙ there)) (stopped-frozen p l.rising st.no_agent stopped))),
            λ gone. absurd (let both : Gone ≡ Accepted = sym gone ∙ replied Accepted accepted in cc),
          )

          by : (o : Option TracedProcess) → live_process v.system pid ≡ o → Made
          by None ended = ((λ calm. still-ended ended), (λ gone. done-ended ended))
          by (Some p) live =
              told p live
              (wait-told v j (traced_at t 0).control (held_by j pid 0 file.Ctl WriteExcl) held refl p live m
              (spelling m []) len read waits_so own.answer (ap (answer_to v j) (sym is) ∙ own.is))

      module _ (is : c ≡ read_record (traced_at t 0).lstatus) (attached : (traced_at t 0).attached ≡ true)
          (still : Still run front pid) (it : TellsOwn t r) where
        -- of the process before the look
        tells-so : (p : TracedProcess) → live_process v.system pid ≡ Some p
            → LeadsSo (covers front pid) p × (Settled run → OwnStops (covers front pid) p)
        unfolding lstatus_of lwpstatus_of
        tells-so p live =
            let reached : IsReached v =
            later-reached n first front run.reached (bytes-front front (e ∷ back) (subst HasBytes place run.bytes))
            (front-legal n first front (e ∷ back) (subst (λ (es : List Entry). IsLegal n first es) place run.legal)) in
            let lawful : IsLawful v = reached.lawful in
            let found = found-live v.system pid p live in
            let l = live-lawful v.system pid p lawful.system live in
            let records = records-range v.system lawful.system reached.in_range in
            let its_records = records.processes pid p found.0 in
            let d = due-first attached in
            let due = its-due in
            let known = d.known in
            let tr = Calm.truss run front e back place j hider in
            let files = tr.files 0 within in
            let sees =
            lstatus-read v j known.number (held_by j pid 0 file.Lstatus Read) (files.lstatus known.number known.is)
            own.answer p live refl its_records.lstatus l.few_lwps
            (ap (answer_to v j) (ap read_record (sym known.is) ∙ sym is) ∙ own.is) in
            let x : IsOf p p.lwps it.l =
            first-of p 0 p.lwps l.rising it.l
            (sym (ap (λ (ls : List LwpStatus). slice_get ls 0) sees.stops)
            ∙ ap (λ (y : Reply). slice_get (event_stops (bytes_in y)) 0) own.replied ∙ it.told) in
            let new = fresh-new (traced_at t 0) it.l it.event it.fresh in
            let was_new = due.new (eqb-true (traced_at t 0).old 0 new.new) in
            let st = d.stands p live in (
              record {
                frozen = still p live;
                no_agent = st.no_agent;
                few = st.few was_new;
                own =
                    event-clears t.options (marks_at t 0) d.flags (covers front pid) p (st.met was_new) x.id x.lwp
                    x.there it.event (ap event_of x.is ∙ fresh-stands (traced_at t 0) it.l it.event it.fresh)
                    (own-steps (marks_at t 0) (function_event t.options (marks_at t 0) x.id it.event)
                    (ap (λ i. is_own_event (function_event t.options (marks_at t 0) i it.event))
                    (ap (λ (y : LwpStatus). y.id) x.is) ∙ it.own));
              },
              λ settled id w. (d.rests settled was_new p live id w).0,
            )

        pub leads-told : Leads run later_front pid
        leads-told x later =
            let none : acts_by c ≡ None = ap acts_by is ∙ by (traced_at t 0).lstatus in
            let was = Calm.own-alone run front back j c r place hider 0 within (quiet none) x later in
            let both = tells-so was.0 was.1.0 in
            let l = both.0 in
            let more =
            more-stay run front back j c r place hider pid
            (λ number g closes there. absurd (none-some number (sym none ∙ ap acts_by closes))) in (
              record {
                frozen = alone-frozen was.0 x was.1.1 l.frozen;
                no_agent = alone-agent was.0 x was.1.1 ∙ l.no_agent;
                few = alone-few was.0 x was.1.1 l.few;
                own =
                    alone-clears (covers front pid) (covers later_front pid) was.0 x more was.1.1 clear_fault
                    (λ steps. l.own) refl;
              },
              λ settled.
                  stops-stay (covers front pid) (covers later_front pid) was.0 x
                  (Away.less-now run front back j c r place pid) (faults-old was.0 x (alone-old was.0 x was.1.1))
                  (both.1 settled),
            )
          where
            by : (o : Option ℕ) → acts_by (read_record o) ≡ None
            by None = refl
            by (Some m) = refl

    -- ---- a lift

    module _ (i : ℕ) (is : c ≡ patch_call t.options (traced_at t 0).control None (Some i)) where
      lifted-lwps : (x : TracedProcess) → live_process (here later_front).system pid ≡ Some x
          → (p : TracedProcess) × ((live_process v.system pid ≡ Some p) × KeepsLwps p x)
      lifted-lwps x later =
          sent-lwps n j v (Calm.lawful run front back j c r place hider) c own.answer own.is
          (over-own run front back j c r place hider) t.options (traced_at t 0) held _ is
          (write-as leaves_lwps (λ a b. refl) (address_of t.options i) instruction_size (code_of t.options i)) x
          (ap (λ (y : TracedState). live_process y.system pid) (answered-is run front back j c r place hider) ∙ later)

      still-lwps : (p x : TracedProcess) → KeepsLwps p x → IsFrozen p → IsFrozen x
      still-lwps p x keeps frozen = record {
        each = λ id y there. frozen.each id y (ap (under id) (sym keeps.lwps) ∙ there);
      }

      pub leads-lifted : Leads run front pid → Leads run later_front pid
      leads-lifted leads x later =
          let was = lifted-lwps x later in
          let keeps = was.1.1 in
          let both = leads was.0 was.1.0 in
          let l = both.0 in
          let more =
          more-stay run front back j c r place hider pid (λ number g closes there. absurd (never number closes)) in (
            record {
              frozen = still-lwps was.0 x keeps l.frozen;
              no_agent = ap (λ ls. is_some (under agent_id ls)) keeps.lwps ∙ l.no_agent;
              few = lwps-few was.0 x keeps.lwps keeps.loan l.few;
              own =
                  lwps-clears (covers front pid) (covers later_front pid) was.0 x more keeps clear_fault
                  (λ steps. l.own)
                  refl;
            },
            λ settled.
                stops-stay (covers front pid) (covers later_front pid) was.0 x
                (Away.less-now run front back j c r place pid) (faults-old was.0 x (lwps-old was.0 x keeps.lwps))
                (both.1 settled),
          )
        where
          never : (number : ℕ) → c ≡ call.Close number → ⊥
          never number closes =
              let both : patch_call t.options (traced_at t 0).control None (Some i) ≡ call.Close number =
              sym is ∙ closes in cc

      pub done-lifted : DoneIn run front pid → DoneIn run later_front pid
      done-lifted done settled x later =
          let was = lifted-lwps x later in
          let keeps = was.1.1 in
          let w = done settled was.0 was.1.0 in (
            still-lwps was.0 x keeps w.0,
            old-none (covers front pid) (covers later_front pid) was.0 x
                (Away.less-now run front back j c r place pid) (lwps-old was.0 x keeps.lwps) w.1,
          )
