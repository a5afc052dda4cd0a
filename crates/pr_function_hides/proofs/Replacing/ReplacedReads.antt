use Rattle.std.proofs.Common.{◌≡◌, ◌≢◌, ◌<◌, ◌==◌, ℕ, cond, Some, None, length, sym, subst, ap, ◌∙◌, inl, inr}
use Rattle.std.proofs.lemmas.Bool.{cases_eq}
use Rattle.std.proofs.lemmas.List.{get_or-set_other, length-set}
use Rattle.std.proofs.lemmas.Option.{same_Some}
use Rattle.std.specs.Option.{option_and_then}
use Rattle.pr_line.specs.Events.{event_of}
use Rattle.pr_line.specs.declared.events.Event.{Event}
use Rattle.pr_line.specs.declared.options.Options.{Options}
use Rattle.pr_model.specs.Calls.{Answer}
use Rattle.pr_model.specs.Replies.{bytes_in}
use Rattle.pr_model.specs.State.{TracedLwp, TracedProcess, TracedState, live_process}
use Rattle.pr_model.specs.Statuses.{lwpstatus_of, status_of_found}
use Rattle.pr_model.specs.Stops.{representative}
use Rattle.pr_model.specs.declared.calls.Call.{Call}
use Rattle.pr_model.specs.declared.calls.Reply.{Reply}
use Rattle.pr_rec.specs.declared.lwps.LwpStatus.{LwpStatus}
use Rattle.pr_report_laws.specs.AtBirth.{is_met_if}
use Rattle.pr_report_laws.specs.Positions.{HasEvent}
use Rattle.pr_truss.specs.Asides.{marks_at, with_marks}
use Rattle.pr_truss.specs.FunctionEvents.{fresh_event}
use Rattle.pr_truss.specs.FunctionFeeding.{fed_functions}
use Rattle.pr_truss.specs.FunctionStops.{with_function_event, with_memory_replaced}
use Rattle.pr_truss.specs.Marks.{no_marks}
use Rattle.pr_truss.specs.NextCalls.{read_record}
use Rattle.pr_truss.specs.Records.{status_lwp}
use Rattle.pr_truss.specs.Trusses.{TrussState, nobody, traced_at}
use Rattle.pr_truss.specs.declared.asides.Aside.TheVariants.{Nothing}
use Rattle.pr_truss.specs.declared.function_events.FunctionEvent.TheVariants.{Replaced}
use Rattle.pr_truss.specs.declared.processes.Traced.{Traced}
use Rattle.pr_truss.specs.declared.stages.Stage.TheVariants.{ReadingStatus}
use Rattle.pr_truss_laws.proofs.Files.HeldLemmas.{at_place, set-at}
use Rattle.pr_function_laws.proofs.Marks.KeptPlaces.{apart-at}
use Rattle.pr_function_laws.proofs.OpenedProcesses.OneEventLemmas.{met-leads, stands-alone}
use Rattle.pr_function_laws.specs.OneEvent.{HasMetAlone}
use Rattle.pr_function_hides.proofs.Copying.CopyFeeds.{event-fed}
use Rattle.pr_function_hides.proofs.Copying.CopyOwn.{OwnCall, is-off, is-unfollowed, later}
use Rattle.pr_function_hides.proofs.Copying.CopyReading.{ReadsSo, reads-so}
use Rattle.pr_function_hides.proofs.Replies.CountedWalk.{AsideIn, MarksIn, TrussIn, no-marks-in}
use Rattle.pr_function_laws.proofs.OrdinaryTruss.OrdinaryStops.{stop-looked}
use Rattle.pr_function_hides.proofs.Replies.PlantedReplies.{So}
use Rattle.pr_function_hides.proofs.Replies.PlantedWalk.{IsAlike, event-kept}
use Rattle.pr_function_hides.proofs.Replacing.ReplacedTurns.{TellsReplacement, tells-replaced}

-- Where truss reads the status of a process an lwp of which stands at the exit of a vfork or an exec that was granted,
-- it has nothing planted there afterwards, and is to plant and to lift nothing.

-- a function is none of the process of an id
abbrev pub IsOther : ℕ → ℕ → ℕ → Type 0
IsOther own pid function = pid ≢ own

-- so it is of all functions of another process, whatever its marks
pub other-marks : (own : ℕ) (v : Traced) → v.pid ≢ own → So (MarksIn (IsOther own)) v
other-marks own v other = record {
  planted = λ i has. other;
  lifted = λ i has. other;
  stepped = λ step is. other;
}

module _ {n k : ℕ} {o : Options} {t : TrussState} {s : TracedState} {c : Call} {a : Answer}
    (w : OwnCall n k o t s c a) (q : ℕ) (within : q < length t.traced) (reads : t.stage ≡ ReadingStatus q)
    (idle : t.aside ≡ Nothing) (is : c ≡ read_record (traced_at t q).status) (id : ℕ) (event : Event)
    (tells : TellsReplacement event) (new : (traced_at t q).old ≡ 0) (x : TracedProcess)
    (now : live_process (later w) (traced_at t q).pid ≡ Some x) (has : HasEvent x id event) where
  abbrev r : Reply
  r = let b : Answer = a in b.reply

  abbrev v : Traced
  v = traced_at t q

  m : ReadsSo k t s q r x
  m = reads-so w q within reads idle is x now

  alone : HasMetAlone x id
  alone =
      let w = m in
      let on = has.stands in
      stands-alone x (w.few new) id has.lwp has.there (ap is_met_if on.is ∙ on.met)

  -- it is the one of which the status tells
  leads : representative x ≡ Some (id, has.lwp)
  leads =
      let w = m in
      let one = alone in
      met-leads x w.rises w.no_agent w.frozen id one
      ∙ ap (λ (l : TracedLwp). Some (id, l)) (same_Some one.lwp has.lwp (sym one.there ∙ has.there))

  abbrev l : LwpStatus
  l = lwpstatus_of x id has.lwp

  told : option_and_then status_lwp (bytes_in r) ≡ Some l
  told = let w = m in w.told ∙ ap (λ first. Some (status_of_found x first)) leads

  fresh : fresh_event v l ≡ Some event
  unfolding fresh_event
  fresh =
      let cs = w.copies in
      let clean = cs.clean q within in
      ap (λ i. cond (i == 0) (cond v.seen None (event_of l)) None) new
      ∙ ap (λ b. cond b None (event_of l)) clean.unseen ∙ has.tells

  abbrev z : TrussState
  z = with_function_event t q l Replaced

  fed-is : fed_functions t r ≡ z
  fed-is =
      let it = m in
      event-fed t r q w.has (is-off w) idle reads it.accepted l told event fresh
      ∙ ap (with_function_event t q l) (tells-replaced t.options (marks_at t q) l.id event tells)

  alike : IsAlike (with_marks t q no_marks) z
  alike = event-kept t (is-off w) (is-unfollowed w) q l within Replaced

  idle-later : z.aside ≡ Nothing
  unfolding with_function_event with_memory_replaced
  idle-later =
      let over = stop-looked (with_marks t q no_marks) q l (is-unfollowed w) in over.aside ∙ idle

  marks-later : (j : ℕ) → j < length z.traced → So (MarksIn (IsOther v.pid)) (at_place z.traced j)
  marks-later j inside = elim (cases_eq j q) [
    | inl same ↦
        subst (MarksIn (IsOther v.pid) (traced_at z j).pid)
        (sym (ap (marks_at z) same ∙ both.marks q ∙ ap (λ (y : Traced). y.marks) own))
        (no-marks-in (IsOther v.pid) (traced_at z j).pid)
    | inr apart ↦ other-marks v.pid (at_place z.traced j) (λ same. differs apart (sym (both.pids j) ∙ same))
  ]
    where
      both : IsAlike (with_marks t q no_marks) z
      both = alike

      u : Traced
      u = record v { marks = no_marks }

      own : traced_at (with_marks t q no_marks) q ≡ u
      own = set-at t.traced q u within

      inside-t : j < length t.traced
      inside-t =
          subst (λ i. j < i) (both.many ∙ length-set t.traced q u) inside

      differs : j ≢ q → (traced_at (with_marks t q no_marks) j).pid ≢ v.pid
      differs apart same =
          let g = w.goes in
          let kept = g.kept in
          apart-at t.traced j q inside-t within apart kept.apart
          (ap (λ (y : Traced). y.pid) (sym (get_or-set_other t.traced q j u nobody apart)) ∙ same)

  pub read-spends : TrussIn (IsOther v.pid) (fed_functions t r)
  read-spends =
      subst (TrussIn (IsOther v.pid)) (sym fed-is)
      (record {
        marks = marks-later;
        aside = subst (AsideIn (IsOther v.pid) z.traced) (sym idle-later) tt;
      })
