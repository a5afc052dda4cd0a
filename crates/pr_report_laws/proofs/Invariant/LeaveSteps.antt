use Rattle.std.proofs.Common.{◌≡◌, ◌≢◌, ◌==◌, ◌<◌, ℕ, suc, true, false, Option, Some, None, List, length, slice_get, refl, sym, subst, ap, ◌∙◌, inl, inr}
use Rattle.std.proofs.lemmas.Bool.{cases_Bool, eqb-false, eqb-true, false≢true}
use Rattle.pr_line.specs.Events.{event_of}
use Rattle.pr_line.specs.declared.events.Event.{Event}
use Rattle.pr_line.specs.declared.options.Options.{Options}
use Rattle.pr_model.specs.Replies.{bytes_in}
use Rattle.pr_model.specs.State.{TracedProcess, TracedState, live_process}
use Rattle.pr_model.specs.declared.calls.Reply.{Reply}
use Rattle.pr_rec.specs.declared.lwps.LwpStatus.{LwpStatus}
use Rattle.pr_truss.specs.Closings.{with_closing}
use Rattle.pr_truss.specs.Feeding.{fed, with_reply}
use Rattle.pr_truss.specs.Records.{event_stops, is_on_event}
use Rattle.pr_truss.specs.Replies.{answer_of}
use Rattle.pr_truss.specs.Stops.{with_lwps_answered, with_stop_read, with_unfollowed}
use Rattle.pr_truss.specs.Trusses.{TrussState, traced_at, with_stage}
use Rattle.pr_truss.specs.declared.replies.Answer.{Answer}
use Rattle.pr_truss.specs.declared.replies.Answer.TheVariants.{Accepted, Interrupted, Gone, Refused}
use Rattle.pr_truss.specs.declared.stages.Stage.{Stage}
use Rattle.pr_truss.specs.declared.stages.Stage.TheVariants.{Unfollowing, ReadingLwps, Finished}
use Rattle.pr_truss_laws.proofs.Files.HeldLemmas.{Fits}
use Rattle.pr_truss_laws.specs.Stills.{IsQuiet}
use Rattle.pr_report_laws.proofs.Invariant.Tallies.{IsWhole, Tally, told-nothing, whole-still, whole-told, with_told}
use Rattle.pr_report_laws.proofs.Replies.Carries.{Carries, Lands, carries-standing, closing-carries, read-lands}
use Rattle.pr_report_laws.proofs.Replies.Elsewhere.{IsAside, IsElsewhere, elsewhere-standing}
use Rattle.pr_report_laws.proofs.Replies.Moves.{Passes, passes-standing}
use Rattle.pr_report_laws.proofs.Replies.NewStops.{new-event, new-old, new-other, new-own, new_of, read-is, read_now, refused-bytes, told-event}
use Rattle.pr_report_laws.proofs.Replies.NextStages.{opens, prepares-none}
use Rattle.pr_report_laws.proofs.Replies.Orderly.{IsOrderly}
use Rattle.pr_report_laws.proofs.Replies.Places.{place-own}
use Rattle.pr_report_laws.proofs.Invariant.Standing.{Position, Prepares, Standing, goes, has_event, old_stops, stop_read}
use Rattle.pr_report_laws.proofs.Replies.StopsOver.{StopOver, closing-over, over-others}
use Rattle.pr_report_laws.proofs.Replies.StopsRead.{stop_read-over}
use Rattle.pr_report_laws.proofs.Invariant.Positions.{HasEvent, IsTracedBy, Waits}
use Rattle.pr_report_laws.specs.Shown.{LwpEvent}
use Rattle.pr_report_laws.specs.Watching.{is_away, place_of}

-- Truss leaves its first process.

unfollow-fed : (t : TrussState) (r : Reply) → t.stage ≡ Unfollowing → fed t r ≡ with_unfollowed t (answer_of r)
unfolding fed with_reply
unfollow-fed t r is = ap (with_reply t r) is

lwps-fed : (t : TrussState) (r : Reply) → t.stage ≡ ReadingLwps → fed t r ≡ with_lwps_answered t r (answer_of r)
unfolding fed with_reply
lwps-fed t r is = ap (with_reply t r) is

-- ---- the children of the process are no longer traced

module _ (t : TrussState) (r : Reply) (is : t.stage ≡ Unfollowing) (orderly : IsOrderly t) where
  has_first : 0 < length t.traced
  has_first = subst (Fits t.traced) is orderly.fits

  unfollow-aside : (place : ℕ) → IsAside t.leaving t.stage place
  unfollow-aside place =
      subst (λ (st : Stage). IsAside t.leaving st place) (sym is) (record { here = refl; read = refl; named = refl })

  abbrev looks : TrussState
  looks = with_stage t ReadingLwps

  looks-elsewhere : IsElsewhere t looks 0
  looks-elsewhere = record {
    places = λ pid. refl;
    same = λ other apart_from. refl;
    here = λ other apart_from on. refl;
    read = λ other apart_from. refl;
    named = λ other apart_from. refl;
    opens = refl;
  }

  unfollowed-elsewhere : (a : Answer) → IsElsewhere t (with_unfollowed t a) 0
  unfolding with_unfollowed
  unfollowed-elsewhere Accepted = looks-elsewhere
  unfollowed-elsewhere (Refused errno) = looks-elsewhere
  unfollowed-elsewhere Interrupted = looks-elsewhere
  unfollowed-elsewhere Gone = over-others t (with_closing t 0) 0 (closing-over t 0)

  unfollow-elsewhere : IsElsewhere t (fed t r) 0
  unfollow-elsewhere =
      subst (λ (u : TrussState). IsElsewhere t u 0) (sym (unfollow-fed t r is)) (unfollowed-elsewhere (answer_of r))

  pub unfollow-prepares : (o : Options) (pid : ℕ) (s : TracedState) → Prepares o pid (fed t r) s
  unfollow-prepares o pid s = let e = unfollow-elsewhere in prepares-none o pid (fed t r) s e.opens

  module _ (Why : Type 0) (o : Options) (pid : ℕ) (s : TracedState) (tally : Tally) where
    looks-passes : place_of t pid ≡ Some 0 → Passes pid t looks 0 0
    looks-passes stands = let aside = unfollow-aside 0 in record {
      at = stands;
      then = stands;
      same = refl;
      was = λ on. aside.here;
      here = λ on. refl;
      read = sym aside.read;
      named = sym aside.named;
    }

    looks-standing : (traced_at t 0).pid ≡ pid → Standing Why o pid t s tally → Standing Why o pid looks s tally
    looks-standing own w =
        passes-standing Why o pid t looks s tally 0 0 (looks-passes (place-own t 0 pid orderly has_first own)) w

    own-unfollowed : (traced_at t 0).pid ≡ pid → (a : Answer)
        → ((p : TracedProcess) → live_process s.system pid ≡ Some p → a ≡ Gone → ⊥) → Standing Why o pid t s tally
        → Standing Why o pid (with_unfollowed t a) s tally
    unfolding with_unfollowed
    own-unfollowed own Accepted not_gone w = looks-standing own w
    own-unfollowed own (Refused errno) not_gone w = looks-standing own w
    own-unfollowed own Interrupted not_gone w = looks-standing own w
    own-unfollowed own Gone not_gone w =
        let stands = place-own t 0 pid orderly has_first own in
        let aside = unfollow-aside 0 in
        carries-standing Why o pid t (with_closing t 0) s s tally tally 0
        (closing-carries Why o pid t s s tally 0 stands (λ on. aside.here) (λ none. none)
        (λ p live. not_gone p live refl)) w

    pub unfollow-standing :
        ((traced_at t 0).pid ≡ pid → (p : TracedProcess) → live_process s.system pid ≡ Some p → answer_of r ≢ Gone)
        → Standing Why o pid t s tally → Standing Why o pid (fed t r) s tally
    unfollow-standing not_gone w =
        elim (cases_Bool ((traced_at t 0).pid == pid)) [
          | inl same ↦ let own =
              eqb-true (traced_at t 0).pid pid same in subst (λ (u : TrussState). Standing Why o pid u s tally)
              (sym (unfollow-fed t r is)) (own-unfollowed own (answer_of r) (not_gone own) w)
          | inr other ↦ elsewhere-standing t (fed t r) 0 pid unfollow-elsewhere
              (eqb-false (traced_at t 0).pid pid other) (λ place apart_from. unfollow-aside place) Why o s tally w
        ]

-- ---- a last look at its lwps

-- the first lwp that stands on an event, as the record of a live process tells it
pub record TellsLwps (p : TracedProcess) (r : Reply) : Type 0 where
  pub accepted : answer_of r ≡ Accepted
  pub none : IsQuiet p → slice_get (event_stops (bytes_in r)) 0 ≡ None
  pub tells : (id : ℕ) (event : Event) → HasEvent p id event
      → (l : LwpStatus) ×
      ((slice_get (event_stops (bytes_in r)) 0 ≡ Some l) × ((event_of l ≡ Some event) × (l.id ≡ id)))
  pub waits : (n : ℕ) → Waits p (suc n)
      → (l : LwpStatus) × ((slice_get (event_stops (bytes_in r)) 0 ≡ Some l) × (is_on_event l ≡ true))

module _ (t : TrussState) (r : Reply) (is : t.stage ≡ ReadingLwps) (orderly : IsOrderly t)
    (leaving : t.leaving ≡ true) where
  within : 0 < length t.traced
  within = subst (Fits t.traced) is orderly.fits

  lwps-aside : (place : ℕ) → IsAside t.leaving t.stage place
  lwps-aside place =
      subst (λ (st : Stage). IsAside t.leaving st place) (sym is) (record { here = refl; read = refl; named = refl })

  abbrev looked : TrussState
  looked = with_stop_read t 0 (slice_get (event_stops (bytes_in r)) 0)

  ends : StopOver t 0 looked
  ends = stop_read-over t 0 within (λ l. refl) (slice_get (event_stops (bytes_in r)) 0)

  looked-elsewhere : (a : Answer) → IsElsewhere t (with_lwps_answered t r a) 0
  unfolding with_lwps_answered
  looked-elsewhere Accepted = over-others t looked 0 ends
  looked-elsewhere _ = over-others t (with_closing t 0) 0 (closing-over t 0)

  lwps-elsewhere : IsElsewhere t (fed t r) 0
  lwps-elsewhere =
      subst (λ (u : TrussState). IsElsewhere t u 0) (sym (lwps-fed t r is)) (looked-elsewhere (answer_of r))

  pub lwps-prepares : (o : Options) (pid : ℕ) (s : TracedState) → Prepares o pid (fed t r) s
  lwps-prepares o pid s = let e = lwps-elsewhere in prepares-none o pid (fed t r) s e.opens

  module _ (Why : Type 0) (o : Options) (pid : ℕ) (s : TracedState) (tally : Tally)
      (on : (traced_at t 0).attached ≡ true) where
    -- what truss is told, of the lwp that was read
    abbrev now : Option LwpEvent
    now = new_of (traced_at t 0) (slice_get (event_stops (bytes_in r)) 0)

    abbrev later : Tally
    later = with_told tally now

    module _ (own : (traced_at t 0).pid ≡ pid) (p : TracedProcess) (h : TellsLwps p r)
        (live : live_process s.system pid ≡ Some p) (traced : IsTracedBy o p) where
      found : (x : Option LwpStatus) → slice_get (event_stops (bytes_in r)) 0 ≡ x → now ≡ new_of (traced_at t 0) x
      found x is = ap (new_of (traced_at t 0)) is

      -- truss has left it then, whatever was told
      lands-left : IsWhole later → Lands Why o pid looked s later 0
      lands-left whole =
          read-lands Why o pid t looked s s later 0 p ends live traced
          (λ here. absurd (false≢true (sym here ∙ ends.left leaving))) whole

      lands : Position o ReadingLwps 0 (traced_at t 0).old p tally → Lands Why o pid looked s later 0
      lands (stop_read read waits all) = absurd (false≢true read)
      lands (old_stops n read counts waits all) =
          let stop = h.waits n waits in
          lands-left (whole-still tally now (found (Some stop.0) stop.1.0
          ∙ new-old (traced_at t 0) stop.0 n counts) all)
      lands (goes read named none quiet all) =
          lands-left (whole-still tally now (found None (h.none quiet)) all)
      lands (has_event id event read none one named all) =
          let stop = h.tells id event one in
          lands-left (whole-told tally now id event (found (Some stop.0) stop.1.0
          ∙ new-event (traced_at t 0) stop.0 none (orderly.unseen 0 within on)
          ∙ told-event stop.0 id event stop.1.1.0 stop.1.1.1) all)

    module _ (own : (traced_at t 0).pid ≡ pid) (ended : live_process s.system pid ≡ None → answer_of r ≡ Gone)
        (reads : (p : TracedProcess) → live_process s.system pid ≡ Some p → TellsLwps p r) where
      stands : place_of t pid ≡ Some 0
      stands = place-own t 0 pid orderly within own

      not_away : is_away t.leaving t.stage 0 ≡ false
      not_away = ap (λ (st : Stage). is_away t.leaving st 0) is

      -- where the read was refused truss is told nothing
      told-still : answer_of r ≢ Accepted → later ≡ tally
      unfolding event_stops
      told-still refused =
          ap (λ (x : Option (List ℕ)). with_told tally (new_of (traced_at t 0) (slice_get (event_stops x) 0)))
          (refused-bytes r refused)
          ∙ told-nothing tally

      read-carries : answer_of r ≡ Accepted → Carries Why o pid t looked s s tally later 0
      read-carries accepted = record {
        at = stands;
        then = ends.places pid ∙ stands;
        same = ends.attached;
        was = λ is_on. not_away;
        off = λ off. absurd (false≢true (sym off ∙ on));
        ends = λ none. let e : Gone ≡ Accepted = sym (ended none) ∙ accepted in cc;
        moves =
            λ p is_on live traced position. lands own p (reads p live) live traced
            (subst (λ (st : Stage). Position o st 0 (traced_at t 0).old p tally) is position);
      }

      closed-standing : answer_of r ≢ Accepted → Standing Why o pid t s tally
          → Standing Why o pid (with_closing t 0) s later
      closed-standing not_accepted w =
          subst (Standing Why o pid (with_closing t 0) s) (sym (told-still not_accepted))
          (carries-standing Why o pid t (with_closing t 0) s s tally tally 0
          (closing-carries Why o pid t s s tally 0 stands (λ is_on. not_away) (λ none. none)
          (λ p live. let h = reads p live in not_accepted h.accepted)) w)

      own-looked : (a : Answer) → answer_of r ≡ a → Standing Why o pid t s tally
          → Standing Why o pid (with_lwps_answered t r a) s later
      unfolding with_lwps_answered
      own-looked Accepted answer w = carries-standing Why o pid t looked s s tally later 0 (read-carries answer) w
      own-looked (Refused errno) answer w =
          closed-standing (λ e. let d : Refused errno ≡ Accepted = sym answer ∙ e in cc) w
      own-looked Interrupted answer w = closed-standing (λ e. let d : Interrupted ≡ Accepted = sym answer ∙ e in cc) w
      own-looked Gone answer w = closed-standing (λ e. let d : Gone ≡ Accepted = sym answer ∙ e in cc) w

    pub lwps-standing : ((traced_at t 0).pid ≡ pid → live_process s.system pid ≡ None → answer_of r ≡ Gone)
        → ((traced_at t 0).pid ≡ pid → (p : TracedProcess) → live_process s.system pid ≡ Some p → TellsLwps p r)
        → Standing Why o pid t s tally → Standing Why o pid (fed t r) s (with_told tally (read_now pid t r))
    lwps-standing ended reads w =
        elim (cases_Bool ((traced_at t 0).pid == pid)) [
          | inl same ↦ own-read (eqb-true (traced_at t 0).pid pid same)
          | inr other ↦ other-read (eqb-false (traced_at t 0).pid pid other)
        ]
      where
        read : Option LwpStatus
        read = slice_get (event_stops (bytes_in r)) 0

        own-read : (traced_at t 0).pid ≡ pid → Standing Why o pid (fed t r) s (with_told tally (read_now pid t r))
        own-read own =
            subst (λ (e : Option LwpEvent). Standing Why o pid (fed t r) s (with_told tally e))
            (sym (read-is pid t r ReadingLwps is ∙ new-own pid (traced_at t 0) read own))
            (subst (λ (u : TrussState). Standing Why o pid u s later) (sym (lwps-fed t r is))
            (own-looked own (ended own) (reads own) (answer_of r) refl w))

        other-read : (traced_at t 0).pid ≢ pid → Standing Why o pid (fed t r) s (with_told tally (read_now pid t r))
        other-read differs =
            subst (Standing Why o pid (fed t r) s)
            (sym (ap (with_told tally) (read-is pid t r ReadingLwps is ∙ new-other pid (traced_at t 0) read differs)
            ∙ told-nothing tally))
            (elsewhere-standing t (fed t r) 0 pid lwps-elsewhere differs (λ place apart_from. lwps-aside place) Why o s
            tally w)

-- ---- truss has finished

finished-fed : (t : TrussState) (r : Reply) → t.stage ≡ Finished → fed t r ≡ t
unfolding fed with_reply
finished-fed t r is = ap (with_reply t r) is

pub finished-standing : (Why : Type 0) (o : Options) (pid : ℕ) (t : TrussState) (r : Reply) (s : TracedState)
    (tally : Tally) → t.stage ≡ Finished → Standing Why o pid t s tally → Standing Why o pid (fed t r) s tally
finished-standing Why o pid t r s tally is w =
    subst (λ (u : TrussState). Standing Why o pid u s tally) (sym (finished-fed t r is)) w

pub finished-prepares : (o : Options) (pid : ℕ) (t : TrussState) (r : Reply) (s : TracedState) → t.stage ≡ Finished
    → Prepares o pid (fed t r) s
finished-prepares o pid t r s is =
    prepares-none o pid (fed t r) s (ap (λ (u : TrussState). opens u.stage) (finished-fed t r is) ∙ ap opens is)
