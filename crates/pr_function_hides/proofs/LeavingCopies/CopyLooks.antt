use Rattle.std.proofs.Common.{◌≡◌, ◌≢◌, ◌+◌, ℕ, Bool, true, false, cond, Option, None, Some, List, [], ◌∷◌, refl}
use Rattle.std.proofs.Common.{sym, ap, ◌∙◌}
use Rattle.std.proofs.lemmas.Bool.{eqb-true, false≢true}
use Rattle.std.proofs.lemmas.Option.{none-some, same_Some}
use Rattle.std.specs.List.{filter, slice_get}
use Rattle.pr_function_hides.proofs.LeavingCopies.CopyLeft.{IsLeaving, LeavesSo, has_none, is_to_stop, traces_still}
use Rattle.pr_function_hides.proofs.Copying.CopyRows.{tells-of}
use Rattle.pr_function_hides.specs.Copying.{IsEmpty, Tells, bare, ends_copy, none_goes, one_goes}
use Rattle.pr_function_laws.proofs.Marks.MetLemmas.{fresh-stands}
use Rattle.pr_function_laws.proofs.CallTurns.TurnReads.{fresh-new}
use Rattle.pr_lawful.proofs.LawfulTurns.EndLemmas.{found-live}
use Rattle.pr_lawful.proofs.Following.UseLemmas.{live-lawful}
use Rattle.pr_line.specs.Events.{event_of}
use Rattle.pr_line.specs.declared.events.Event.{Event}
use Rattle.pr_line.specs.declared.options.Options.{Options}
use Rattle.pr_model.specs.Calls.{Answer, answer_to}
use Rattle.pr_model.specs.Handles.{handle_of}
use Rattle.pr_model.specs.Lawful.{IsLawful}
use Rattle.pr_model.specs.Records.{lstatus_of, statuses_of_lwps}
use Rattle.pr_model.specs.Replies.{bytes_in}
use Rattle.pr_model.specs.State.{TracedLwp, TracedProcess, TracedState, live_process}
use Rattle.pr_model.specs.Statuses.{lwpstatus_of}
use Rattle.pr_model.specs.declared.calls.Call.{Call}
use Rattle.pr_model.specs.declared.calls.File.TheVariants as file
use Rattle.pr_model.specs.declared.calls.Mode.TheVariants.{Read}
use Rattle.pr_num.proofs.ByIdLaws.{All-under}
use Rattle.pr_num.proofs.ByIdLemmas.{rises_from-tail}
use Rattle.pr_num.specs.ById.{rises_from, under}
use Rattle.pr_reached.proofs.RecordsInRange.EntryRanges.{records-range}
use Rattle.pr_reached.specs.Fits.{IsFitLwp, IsFitProcess}
use Rattle.pr_reached.specs.Reached.{IsReached}
use Rattle.pr_rec.specs.declared.lwps.LwpStatus.{LwpStatus}
use Rattle.pr_report_laws.proofs.Machine.RecordLaws.{lstatus-ended, lstatus-read}
use Rattle.pr_truss.specs.FunctionEvents.{fresh_event, function_event}
use Rattle.pr_truss.specs.NextCalls.{read_record}
use Rattle.pr_truss.specs.Records.{event_stops, is_on_event}
use Rattle.pr_truss.specs.Replies.{answer_of}
use Rattle.pr_truss.specs.declared.function_events.FunctionEvent.TheVariants.{Replaced}
use Rattle.pr_truss.specs.declared.processes.Traced.{Traced}
use Rattle.pr_truss.specs.declared.replies.Answer.TheVariants.{Accepted, Gone}
use Rattle.pr_truss_laws.proofs.EventStops.OneEventLemmas.{under-first, under-later}
use Rattle.pr_truss_laws.proofs.Files.OpensLemmas.{held_by}

-- The look at the lwps of a process that truss leaves: where it tells that the memory was replaced, or that a child has
-- it too, nothing is planted there.

-- ---- the first status on an event

-- it is that of an lwp
pub record IsOf (p : TracedProcess) (es : List (ℕ × TracedLwp)) (l : LwpStatus) : Type 0 where
  pub id : ℕ
  pub lwp : TracedLwp
  pub there : under id es ≡ Some lwp
  pub is : lwpstatus_of p id lwp ≡ l

pub first-of : (p : TracedProcess) (low : ℕ) (es : List (ℕ × TracedLwp)) → rises_from low es ≡ true → (l : LwpStatus)
    → slice_get (filter is_on_event (statuses_of_lwps p es)) 0 ≡ Some l → IsOf p es l
first-of p low [] rises l is = absurd (none-some l is)
first-of p low (e ∷ es) rises l is =
    by (is_on_event (lwpstatus_of p e.0 e.1)) is
    (λ found. first-of p (e.0 + 1) es (rises_from-tail low e es rises) l found)
  where
    by : (b : Bool)
        → slice_get (cond b (lwpstatus_of p e.0 e.1 ∷ filter is_on_event (statuses_of_lwps p es))
        (filter is_on_event (statuses_of_lwps p es))) 0 ≡ Some l
        → (slice_get (filter is_on_event (statuses_of_lwps p es)) 0 ≡ Some l → IsOf p es l) → IsOf p (e ∷ es) l
    by true found later = record {
      id = e.0;
      lwp = e.1;
      there = under-first e es;
      is = same_Some (lwpstatus_of p e.0 e.1) l found;
    }
    by false found later =
        let x = later found in
        record { id = x.id; lwp = x.lwp; there = under-later low x.id x.lwp e es rises x.there; is = x.is }

-- ---- the look

module _ (k : ℕ) (o : Options) (May : ℕ → Type 0) (s : TracedState) (reached : IsReached s) (v : Traced)
    (w : IsLeaving k o May s v) (m : ℕ) (known : v.lstatus ≡ Some m) (c : Call) (a : Answer)
    (is : c ≡ read_record v.lstatus) (given : answer_to s k c ≡ Some a) (accepted : answer_of a.reply ≡ Accepted)
    (l : LwpStatus) (told : slice_get (event_stops (bytes_in a.reply)) 0 ≡ Some l) (e : Event)
    (fresh : fresh_event v l ≡ Some e) (replaced : function_event o v.marks l.id e ≡ Replaced)
    (young : May v.pid → v.old ≢ 0) where
  answers : answer_to s k (read_record (Some m)) ≡ Some a
  answers = ap (answer_to s k) (ap read_record (sym known) ∙ sym is) ∙ given

  opened : handle_of s.opens k m ≡ Some (held_by k v.pid 0 file.Lstatus Read)
  opened = let h = w.files in h.its_lstatus m known

  -- such an lwp says so
  ends : (p : TracedProcess) (x : IsOf p p.lwps l) → ends_copy (function_event o v.marks x.id e) ≡ true
  unfolding lwpstatus_of
  ends p x =
      ap (λ i. ends_copy (function_event o v.marks i e)) (ap (λ (y : LwpStatus). y.id) x.is)
      ∙ ap ends_copy replaced

  none-planted : (p : TracedProcess) → LeavesSo (May v.pid) o v.marks p → (x : IsOf p p.lwps l)
      → Tells v.marks (function_event o v.marks x.id e) x.lwp → IsEmpty v.marks.planted
  none-planted p (has_none none) x tells = none
  none-planted p (traces_still traces (none_goes all)) x tells =
      absurd (false≢true (sym (tells.never (all.each x.id x.lwp tt x.there)) ∙ ends p x))
  none-planted p (traces_still traces (one_goes id lifted all)) x tells = lifted.none_planted
  none-planted p (traces_still traces (bare lifted none)) x tells = lifted.none_planted
  none-planted p (is_to_stop may out halting) x tells =
      let new_is = fresh-new v l e fresh in absurd (young may (eqb-true v.old 0 new_is.new))

  pub look-finds-none : IsEmpty v.marks.planted
  unfolding lstatus_of
  look-finds-none = by (live_process s.system v.pid) refl
    where
      by : (p : Option TracedProcess) → live_process s.system v.pid ≡ p → IsEmpty v.marks.planted
      by None ended =
          let sees = lstatus-ended s k m (held_by k v.pid 0 file.Lstatus Read) opened a refl ended answers in
          absurd (apart (sym accepted ∙ sees.gone))
        where
          apart : Accepted ≡ Gone → ⊥
          apart e = cc
      by (Some p) live =
          let lawful : IsLawful s = reached.lawful in
          let found = found-live s.system v.pid p live in
          let own = live-lawful s.system v.pid p lawful.system live in
          let records = records-range s.system lawful.system reached.in_range in
          let its_records = records.processes v.pid p found.0 in
          let fit = reached.fit in
          let fits = All-under (λ (y : ℕ × TracedProcess). IsFitProcess y.1) v.pid p s.system.processes
          fit.processes found.0 in
          let sees =
          lstatus-read s k m (held_by k v.pid 0 file.Lstatus Read) opened a p live refl its_records.lstatus
          own.few_lwps answers in
          let x =
          first-of p 0 p.lwps own.rising l (sym (ap (λ (ls : List LwpStatus). slice_get ls 0) sees.stops) ∙ told) in
          let fit_lwp = All-under (λ (y : ℕ × TracedLwp). IsFitLwp y.1) x.id x.lwp p.lwps fits.lwps x.there in
          none-planted p (w.stands p live) x
          (tells-of p x.id x.lwp o v.marks e (ap event_of x.is ∙ fresh-stands v l e fresh) fit_lwp)
