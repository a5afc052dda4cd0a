use Rattle.std.proofs.Common.{◌≡◌, ◌-◌, ◌<◌, nat_lt, not, is_some, ℕ, suc, Bool, true, false, cond, Option, Some, None, length, refl, ap, ◌∙◌, arith, lt-ltb}
use Rattle.std.proofs.lemmas.List.{get_or-set_other}
use Rattle.pr_line.specs.Events.{event_of}
use Rattle.pr_line.specs.Selections.{is_selected}
use Rattle.pr_line.specs.declared.events.Event.{Event}
use Rattle.pr_rec.specs.declared.lwps.LwpStatus.{LwpStatus}
use Rattle.pr_truss.specs.Records.{is_on_event}
use Rattle.pr_truss.specs.Stops.{asked_range, with_event, with_event_over, with_event_shown, with_old_stop_over, with_stop, with_stop_over, with_stop_read, with_text_or_shown}
use Rattle.pr_truss.specs.Trusses.{TrussState, nobody, traced_at, with_report, with_traced}
use Rattle.pr_truss.specs.declared.processes.Traced.{Traced}
use Rattle.pr_truss.specs.declared.reports.Report.TheVariants.{Event as Reported}
use Rattle.pr_truss_laws.proofs.Files.HeldLemmas.{set-at}
use Rattle.pr_report_laws.proofs.Replies.Places.{place-set}
use Rattle.pr_report_laws.proofs.Replies.StopsOver.{StopOver, event_over-left, event_over-over, stop_over-left, stop_over-over, text-over}

-- What truss makes of the status of an lwp that it read.

module _ (t : TrussState) (at : ℕ) (within : at < length t.traced) where
  -- the process with one old stop less
  abbrev less_old : Traced
  less_old = record (traced_at t at) { old = (traced_at t at).old - 1 }

  less-here : traced_at (with_traced t at less_old) at ≡ less_old
  less-here = set-at t.traced at less_old within

  -- ---- what it has to do with the other processes

  module _ (first : t.leaving ≡ true → at ≡ 0) where
    old-over : StopOver t at (with_old_stop_over t at)
    unfolding with_old_stop_over
    old-over = let o = stop_over-over (with_traced t at less_old) at first in record {
      places = λ pid. o.places pid ∙ place-set t at pid less_old refl;
      same =
          λ other apart_from. o.same other apart_from ∙ get_or-set_other t.traced at other less_old nobody apart_from;
      attached = o.attached ∙ ap (λ (x : Traced). x.attached) less-here;
      read = o.read;
      left = o.left;
      aside = o.aside;
      opens = o.opens;
    }

    shown-over : (l : LwpStatus) → StopOver t at (with_event_over (with_event_shown t at l None) at l)
    unfolding with_event_shown
    shown-over l = let o = event_over-over (with_report t (Reported (traced_at t at).pid l None)) at first l in record {
      places = o.places;
      same = o.same;
      attached = o.attached;
      read = o.read;
      left = o.left;
      aside = o.aside;
      opens = o.opens;
    }

    text_or-over : (l : LwpStatus) (range : Option (ℕ × ℕ)) → StopOver t at (with_text_or_shown t at l range)
    text_or-over l None = shown-over l
    text_or-over l (Some range) = text-over t at l range.0 range.1

    event-over : (l : LwpStatus) (e : Option Event) → StopOver t at (with_event t at l e)
    event-over l None = stop_over-over t at first
    event-over l (Some e) =
        elim (is_selected t.options e) as
        (λ b. StopOver t at
        (cond b (with_text_or_shown t at l (asked_range t.options e))
        (with_event_over t at l))) [
          | true ↦ text_or-over l
              (asked_range t.options e)
          | false ↦ event_over-over t at first l
        ]

    either : (b : Bool) (u v : TrussState) → StopOver t at u → StopOver t at v → StopOver t at (cond b u v)
    either true u v one two = one
    either false u v one two = two

    stop-over : (l : LwpStatus) → StopOver t at (with_stop t at l)
    unfolding with_stop
    stop-over l =
        let over : StopOver t at (with_stop_over t at) = stop_over-over t at first in
        either (not (is_on_event l)) (with_stop_over t at) _ over
        (either (nat_lt 0 (traced_at t at).old) (with_old_stop_over t at) _ old-over
        (either (traced_at t at).seen (with_stop_over t at) (with_event t at l (event_of l)) over
        (event-over l (event_of l))))

    pub stop_read-over : (o : Option LwpStatus) → StopOver t at (with_stop_read t at o)
    stop_read-over None = stop_over-over t at first
    stop_read-over (Some l) = stop-over l

  -- ---- how many old stops are left of the process itself

  -- an old stop is passed over
  old-left : (n : ℕ) → (traced_at t at).old ≡ suc n → (traced_at (with_old_stop_over t at) at).old ≡ n
  unfolding with_old_stop_over
  old-left n old =
      stop_over-left (with_traced t at less_old) at
      ∙ ap (λ (x : Traced). x.old) less-here ∙ ap (λ m. m - 1) old ∙ omega arith

  stop-at : (l : LwpStatus) (on older seen : Bool) → is_on_event l ≡ on → nat_lt 0 (traced_at t at).old ≡ older
      → (traced_at t at).seen ≡ seen
      → with_stop t at l ≡ cond (not on) (with_stop_over t at)
      (cond older (with_old_stop_over t at) (cond seen (with_stop_over t at) (with_event t at l (event_of l))))
  unfolding with_stop
  stop-at l on older seen is_on is_older is_seen = rw (is_on, is_older, is_seen) refl

  pub stop-old : (l : LwpStatus) (n : ℕ) → is_on_event l ≡ true → (traced_at t at).old ≡ suc n
      → (traced_at (with_stop t at l) at).old ≡ n
  stop-old l n on old =
      ap (λ (u : TrussState). (traced_at u at).old)
      (stop-at l true true (traced_at t at).seen on (ap (nat_lt 0) old ∙ lt-ltb 0 (suc n) (omega arith)) refl)
      ∙ old-left n old

  -- an event is told
  module _ (l : LwpStatus) (e : Event) (tells : event_of l ≡ Some e) where
    shown-left : (traced_at (with_event_over (with_event_shown t at l None) at l) at).old ≡ (traced_at t at).old
    unfolding with_event_shown
    shown-left = event_over-left (with_report t (Reported (traced_at t at).pid l None)) at l

    text_or-left : (range : Option (ℕ × ℕ))
        → (traced_at (with_text_or_shown t at l range) at).old ≡ (traced_at t at).old
    text_or-left None = shown-left
    text_or-left (Some range) = refl

    event-left : (traced_at (with_event t at l (Some e)) at).old ≡ (traced_at t at).old
    event-left =
        elim (is_selected t.options e) as
        (λ b. (traced_at
        (cond b (with_text_or_shown t at l (asked_range t.options e)) (with_event_over t at l)) at).old ≡
        (traced_at t at).old) [
          | true ↦ text_or-left (asked_range t.options e)
          | false ↦ event_over-left t at l
        ]

    on-event : is_on_event l ≡ true
    unfolding is_on_event
    on-event = ap is_some tells

    pub stop-event : (traced_at t at).old ≡ 0 → (traced_at t at).seen ≡ false
        → (traced_at (with_stop t at l) at).old ≡ 0
    stop-event none unseen =
        ap (λ (u : TrussState). (traced_at u at).old)
        (stop-at l true false false on-event (ap (nat_lt 0) none) unseen ∙ ap (with_event t at l) tells)
        ∙ event-left ∙ none
