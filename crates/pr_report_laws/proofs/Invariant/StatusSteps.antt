use Rattle.std.proofs.Common.{◌≡◌, ◌≢◌, ◌==◌, ◌<◌, ℕ, suc, true, false, Option, Some, None, List, length, refl, sym, subst, ap, ◌∙◌, inl, inr}
use Rattle.std.proofs.lemmas.Bool.{cases_Bool, eq-eqb, eqb-false, eqb-true, false≢true, ne_eqb}
use Rattle.std.specs.Option.{option_and_then}
use Rattle.pr_line.specs.Events.{event_of}
use Rattle.pr_line.specs.declared.events.Event.{Event}
use Rattle.pr_line.specs.declared.options.Options.{Options}
use Rattle.pr_model.specs.Replies.{bytes_in}
use Rattle.pr_model.specs.State.{TracedProcess, TracedState, has_agent, live_process}
use Rattle.pr_model.specs.declared.calls.Reply.{Reply}
use Rattle.pr_rec.specs.declared.lwps.LwpStatus.{LwpStatus}
use Rattle.pr_truss.specs.Closings.{with_closing, with_interrupt}
use Rattle.pr_truss.specs.Feeding.{fed, with_reply}
use Rattle.pr_truss.specs.Records.{is_on_event, status_lwp}
use Rattle.pr_truss.specs.Replies.{answer_of}
use Rattle.pr_truss.specs.Stops.{with_status_answered, with_stop, with_stop_over, with_stop_read}
use Rattle.pr_truss.specs.Trusses.{TrussState, traced_at}
use Rattle.pr_truss.specs.declared.replies.Answer.{Answer}
use Rattle.pr_truss.specs.declared.replies.Answer.TheVariants.{Accepted, Interrupted, Gone, Refused}
use Rattle.pr_truss.specs.declared.stages.Stage.{Stage}
use Rattle.pr_truss.specs.declared.stages.Stage.TheVariants.{ReadingStatus}
use Rattle.pr_truss_laws.proofs.Files.HeldLemmas.{Fits}
use Rattle.pr_report_laws.proofs.Invariant.Tallies.{IsWhole, Tally, told-nothing, whole-still, whole-told, with_told}
use Rattle.pr_report_laws.proofs.Replies.Carries.{Carries, Lands, carries-standing, closing-carries, left-lands, watched-cases}
use Rattle.pr_report_laws.proofs.Replies.Elsewhere.{IsAside, IsElsewhere, comes-elsewhere, elsewhere-standing}
use Rattle.pr_report_laws.proofs.Replies.NewStops.{if_new, new-event, new-old, new-other, new-own, new_of, read-is, read_now, refused-bytes, told-event}
use Rattle.pr_report_laws.proofs.Replies.NextStages.{interrupt-comes, prepares-none}
use Rattle.pr_report_laws.proofs.Replies.Orderly.{IsOrderly}
use Rattle.pr_report_laws.proofs.Replies.Places.{place-own}
use Rattle.pr_report_laws.proofs.Invariant.Standing.{Position, Prepares, Standing, goes, has_event, old_stops, stop_read}
use Rattle.pr_report_laws.proofs.Replies.StopsOver.{StopOver, closing-over, over-others, stop_over-over}
use Rattle.pr_report_laws.proofs.Replies.StopsRead.{stop-event, stop-old, stop_read-over}
use Rattle.pr_report_laws.proofs.Invariant.Positions.{HasEvent, IsTracedBy, Waits}
use Rattle.pr_report_laws.specs.Shown.{LwpEvent}
use Rattle.pr_report_laws.specs.Watching.{is_away, place_of}

-- Truss reads the status of the process that a poll named.

-- What the status tells of a process that lives: where it stands still its representative lwp stands on an event, and
-- where that event is the one to be shown, the status tells it.
pub record TellsStatus (p : TracedProcess) (r : Reply) : Type 0 where
  pub accepted : answer_of r ≡ Accepted
  pub lwp : LwpStatus
  pub read : option_and_then status_lwp (bytes_in r) ≡ Some lwp
  pub waits : has_agent p ≡ false → (n : ℕ) → Waits p (suc n) → is_on_event lwp ≡ true
  pub tells : has_agent p ≡ false → (id : ℕ) (event : Event) → HasEvent p id event → Waits p 1
      → (event_of lwp ≡ Some event) × (lwp.id ≡ id)

status-fed : (t : TrussState) (at : ℕ) (r : Reply) → t.stage ≡ ReadingStatus at
    → fed t r ≡ with_status_answered t at r (answer_of r)
unfolding fed with_reply
status-fed t at r is = ap (with_reply t r) is

module _ (t : TrussState) (at : ℕ) (r : Reply) (is : t.stage ≡ ReadingStatus at) (orderly : IsOrderly t)
    (stays : t.leaving ≡ false) where
  within : at < length t.traced
  within = subst (Fits t.traced) is orderly.fits

  first : t.leaving ≡ true → at ≡ 0
  first leaving = absurd (false≢true (sym stays ∙ leaving))

  -- ---- the other processes

  status-aside : (other : ℕ) → other ≢ at → IsAside t.leaving t.stage other
  status-aside other apart_from =
      subst (λ (st : Stage). IsAside t.leaving st other) (sym is) (record {
        here = refl;
        read = refl;
        named = ne_eqb at other (λ same. apart_from (sym same));
      })

  answered-elsewhere : (a : Answer) → IsElsewhere t (with_status_answered t at r a) at
  unfolding with_status_answered
  answered-elsewhere Accepted =
      over-others t (with_stop_read t at (option_and_then status_lwp (bytes_in r))) at
      (stop_read-over t at within first (option_and_then status_lwp (bytes_in r)))
  answered-elsewhere (Refused errno) = over-others t (with_stop_over t at) at (stop_over-over t at first)
  answered-elsewhere Gone = over-others t (with_closing t at) at (closing-over t at)
  answered-elsewhere Interrupted =
      comes-elsewhere t t (with_interrupt t) at (λ pid. refl) (λ other apart_from. refl)
      (interrupt-comes t)

  status-elsewhere : IsElsewhere t (fed t r) at
  status-elsewhere =
      subst (λ (u : TrussState). IsElsewhere t u at) (sym (status-fed t at r is)) (answered-elsewhere (answer_of r))

  pub status-prepares : (o : Options) (pid : ℕ) (s : TracedState) → Prepares o pid (fed t r) s
  status-prepares o pid s = let e = status-elsewhere in prepares-none o pid (fed t r) s e.opens

  -- ---- the process itself

  module _ (Why : Type 0) (o : Options) (pid : ℕ) (s : TracedState) (tally : Tally)
      (on : (traced_at t at).attached ≡ true) where
    -- what truss is told, of the lwp that was read
    abbrev now : Option LwpEvent
    now = new_of (traced_at t at) (option_and_then status_lwp (bytes_in r))

    abbrev later : Tally
    later = with_told tally now

    abbrev after : TrussState
    after = with_stop_read t at (option_and_then status_lwp (bytes_in r))

    module _ (own : (traced_at t at).pid ≡ pid) (p : TracedProcess) (h : TellsStatus p r)
        (live : live_process s.system pid ≡ Some p) (traced : IsTracedBy o p) where
      ends : StopOver t at after
      ends = stop_read-over t at within first (option_and_then status_lwp (bytes_in r))

      found : now ≡ if_new (traced_at t at) h.lwp
      found = ap (new_of (traced_at t at)) h.read

      lands-read : (left : ℕ) → (traced_at after at).old ≡ left → Waits p (suc left) → IsWhole later
          → Lands Why o pid after s later at
      lands-read left old waits whole =
          left-lands Why o pid t after s s later at p left ends old live traced (λ here. waits) whole

      -- of the lwp that was read
      left-old : (left : ℕ) → (traced_at (with_stop t at h.lwp) at).old ≡ left → (traced_at after at).old ≡ left
      left-old left old = ap (λ (x : Option LwpStatus). (traced_at (with_stop_read t at x) at).old) h.read ∙ old

      lands : Position o (ReadingStatus at) at (traced_at t at).old p tally → Lands Why o pid after s later at
      lands (stop_read read waits all) = absurd (false≢true read)
      lands (old_stops n read counts waits all) =
          lands-read n (left-old n (stop-old t at within h.lwp n (h.waits traced.no_agent n waits) counts)) waits
          (whole-still tally now (found ∙ new-old (traced_at t at) h.lwp n counts) all)
      lands (goes read named none quiet all) = absurd (false≢true (sym named ∙ eq-eqb at at refl))
      lands (has_event id event read none one named all) =
          let waits = named (eq-eqb at at refl) in
          let its = h.tells traced.no_agent id event one waits in
          let unseen = orderly.unseen at within on in
          lands-read 0 (left-old 0 (stop-event t at within h.lwp event its.0 none unseen)) waits
          (whole-told tally now id event (found ∙ new-event (traced_at t at) h.lwp none unseen
          ∙ told-event h.lwp id event its.0 its.1) all)

    module _ (own : (traced_at t at).pid ≡ pid) (ended : live_process s.system pid ≡ None → answer_of r ≡ Gone)
        (told : (p : TracedProcess) → live_process s.system pid ≡ Some p → TellsStatus p r) where
      stands : place_of t pid ≡ Some at
      stands = place-own t at pid orderly within own

      not_away : is_away t.leaving t.stage at ≡ false
      not_away = ap (λ (st : Stage). is_away t.leaving st at) is

      attached : {P : Type 0} → (traced_at t at).attached ≡ false → P
      attached off = absurd (false≢true (sym off ∙ on))

      read-carries : answer_of r ≡ Accepted → Carries Why o pid t after s s tally later at
      read-carries accepted =
          let over = stop_read-over t at within first (option_and_then status_lwp (bytes_in r)) in
          record {
            at = stands;
            then = over.places pid ∙ stands;
            same = over.attached;
            was = λ is_on. not_away;
            off = attached;
            ends = λ none. let e : Gone ≡ Accepted = sym (ended none) ∙ accepted in cc;
            moves =
                λ p is_on live traced position. lands own p (told p live) live traced
                (subst (λ (st : Stage). Position o st at (traced_at t at).old p tally) is position);
          }

      -- where the read was refused truss is told nothing
      told-still : answer_of r ≢ Accepted → later ≡ tally
      told-still refused =
          ap (λ (x : Option (List ℕ)). with_told tally (new_of (traced_at t at) (option_and_then status_lwp x)))
          (refused-bytes r refused)
          ∙ told-nothing tally

      gone-carries : answer_of r ≡ Gone → Carries Why o pid t (with_closing t at) s s tally tally at
      gone-carries gone =
          closing-carries Why o pid t s s tally at stands (λ is_on. not_away) (λ none. none)
          (λ p live. let h = told p live in let e : Accepted ≡ Gone = sym h.accepted ∙ gone in cc)

      never : (a : Answer) → answer_of r ≡ a → (Gone ≡ a → ⊥) → (Accepted ≡ a → ⊥) → Standing Why o pid t s tally
          → Standing Why o pid (with_status_answered t at r a) s later
      never a answer not_gone not_accepted w =
          watched-cases Why o pid t t s s tally at
          (Standing Why o pid (with_status_answered t at r a) s later) stands on not_away
          (λ none. absurd (not_gone (sym (ended none) ∙ answer)))
          (λ p live. let h = told p live in absurd (not_accepted (sym h.accepted ∙ answer))) w

      own-standing : (a : Answer) → answer_of r ≡ a → Standing Why o pid t s tally
          → Standing Why o pid (with_status_answered t at r a) s later
      unfolding with_status_answered
      own-standing Accepted answer w = carries-standing Why o pid t after s s tally later at (read-carries answer) w
      own-standing Gone answer w =
          subst (Standing Why o pid (with_closing t at) s)
          (sym (told-still (λ e. let both : Gone ≡ Accepted = sym answer ∙ e in cc)))
          (carries-standing Why o pid t (with_closing t at) s s tally tally at (gone-carries answer) w)
      own-standing (Refused errno) answer w = never (Refused errno) answer (λ e. cc) (λ e. cc) w
      own-standing Interrupted answer w = never Interrupted answer (λ e. cc) (λ e. cc) w

    -- ---- all

    pub status-standing : ((traced_at t at).pid ≡ pid → live_process s.system pid ≡ None → answer_of r ≡ Gone)
        → ((traced_at t at).pid ≡ pid → (p : TracedProcess) → live_process s.system pid ≡ Some p → TellsStatus p r)
        → Standing Why o pid t s tally → Standing Why o pid (fed t r) s (with_told tally (read_now pid t r))
    status-standing ended told w =
        elim (cases_Bool ((traced_at t at).pid == pid)) [
          | inl same ↦ own-read (eqb-true (traced_at t at).pid pid same)
          | inr other ↦ other-read (eqb-false (traced_at t at).pid pid other)
        ]
      where
        read : Option LwpStatus
        read = option_and_then status_lwp (bytes_in r)

        own-read : (traced_at t at).pid ≡ pid → Standing Why o pid (fed t r) s (with_told tally (read_now pid t r))
        own-read own =
            subst (λ (e : Option LwpEvent). Standing Why o pid (fed t r) s (with_told tally e))
            (sym (read-is pid t r (ReadingStatus at) is ∙ new-own pid (traced_at t at) read own))
            (subst (λ (u : TrussState). Standing Why o pid u s later) (sym (status-fed t at r is))
            (own-standing own (ended own) (told own) (answer_of r) refl w))

        other-read : (traced_at t at).pid ≢ pid → Standing Why o pid (fed t r) s (with_told tally (read_now pid t r))
        other-read differs =
            subst (Standing Why o pid (fed t r) s)
            (sym (ap (with_told tally) (read-is pid t r (ReadingStatus at) is
            ∙ new-other pid (traced_at t at) read differs) ∙ told-nothing tally))
            (elsewhere-standing t (fed t r) at pid status-elsewhere differs status-aside Why o s tally w)
