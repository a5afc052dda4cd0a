use Rattle.std.proofs.Common.{◌≡◌, ◌≢◌, ℕ, Bool, true, false, cond, is_some, None, Some, Option, [], ◌∷◌, Ok, Err, refl, sym, ap, ◌∙◌}
use Rattle.std.specs.Prelude.{if◌then◌else◌}
use Rattle.std.proofs.lemmas.Bool.{false≢true}
use Rattle.std.specs.Option.{option_and_then}
use Rattle.pr_line.specs.Events.{event_of as event_shown}
use Rattle.pr_line.specs.declared.events.Event.{Event}
use Rattle.pr_line.specs.declared.events.Event.TheVariants.{Entered, Left, Received, Incurred}
use Rattle.pr_rec.specs.Fields.{disposition_of as class_of}
use Rattle.pr_lawful.proofs.LawfulTurns.EndLemmas.{found-live}
use Rattle.pr_model.specs.Events.{Event as MachineEvent, entry, event_of, events_of, exit, fault, gone, lwp_alone, lwp_in_state, signal}
use Rattle.pr_model.specs.Lawful.{IsLawfulSystem}
use Rattle.pr_model.specs.Legal.{after, after_turn}
use Rattle.pr_model.specs.LwpTurns.{LwpTurn, settled, turn_of, with_counted}
use Rattle.pr_model.specs.Machines.{traced}
use Rattle.pr_model.specs.Transitions.{after_transition}
use Rattle.pr_model.specs.Points.{after_meeting, meets}
use Rattle.pr_model.specs.Rows.{Row, row_for}
use Rattle.pr_model.specs.State.{TracedLwp, TracedProcess, TracedState, TracedSystem, live_process, lwp_of, process_of, with_process}
use Rattle.pr_model.specs.Statuses.{lwpstatus_of}
use Rattle.pr_model.specs.declared.events.Act.TheVariants.{Turn}
use Rattle.pr_model.specs.declared.events.Actor.TheVariants.{Lwp}
use Rattle.pr_model.specs.declared.events.Did.{Did}
use Rattle.pr_model.specs.declared.events.Did.TheVariants as did
use Rattle.pr_model.specs.declared.events.Res.TheVariants.{Value, Error, Ended}
use Rattle.pr_model.specs.declared.stops.Point.{Point}
use Rattle.pr_truss_laws.proofs.EventStops.BridgeLemmas.{turn-tells}
use Rattle.pr_truss_laws.specs.Told.{has_ended, told}
use Rattle.pr_report_laws.proofs.Machine.StayingLwps.{keeps-meeting, live-by, row-leaves, settled-to}
use Rattle.pr_report_laws.proofs.Machine.TracedPoints.{StopsAtPicked, fit-row, listed, lwp-found, told_of, turn-picks}
use Rattle.pr_reached.specs.Fits.{IsFitSystem}
use Rattle.pr_report_laws.specs.Shown.{if_picked, picked}

-- A turn in which its lwp meets a point that is traced leaves the process and the lwp, which stands on the event that
-- the turn logs.

-- ---- what a turn logs is told, where no call ended its lwp

abbrev pub is_told : MachineEvent → Bool
is_told (entry c args) = true
is_told (exit c args (Value v)) = true
is_told (exit c args (Error e)) = true
is_told (exit c args Ended) = false
is_told (gone c args) = false
is_told (signal g d info) = true
is_told (fault f pc) = true

abbrev pub is_told_if : Option MachineEvent → Bool
is_told_if None = true
is_told_if (Some e) = is_told e

logged-told : (p : TracedProcess) (l : TracedLwp) (k : Option TracedLwp) (d : Did) → has_ended d ≡ false
    → is_told_if (event_of p l k d) ≡ true
unfolding event_of
logged-told p l k did.Stopped lives = refl
logged-told p l k did.Ran lives = refl
logged-told p l k (did.Entered c) lives = refl
logged-told p l k (did.Made c (Value v)) lives = refl
logged-told p l k (did.Made c (Error e)) lives = refl
logged-told p l k (did.Made c Ended) lives = sym lives
logged-told p l k (did.Slept c) lives = refl
logged-told p l k (did.Woke c (Value v)) lives = refl
logged-told p l k (did.Woke c (Error e)) lives = refl
logged-told p l k (did.Woke c Ended) lives = sym lives
logged-told p l k _ lives = refl

told-is : (e : MachineEvent) → is_told e ≡ true → (ev : Event) × (told e ≡ Some ev)
unfolding told
told-is (entry c args) is = (Entered c args, refl)
told-is (exit c args (Value v)) is = (Left c args (Ok v), refl)
told-is (exit c args (Error e)) is = (Left c args (Err e), refl)
told-is (exit c args Ended) is = absurd (false≢true is)
told-is (gone c args) is = absurd (false≢true is)
told-is (signal g d info) is = (Received g (class_of d) info, refl)
told-is (fault f pc) is = (Incurred f pc, refl)

-- an event that is told, as it is listed
told-listed : (picks : Event → Bool) (id : ℕ) (ev : Event)
    → listed id (if_picked picks ev) ≡ cond (picks ev) (record { id = id; event = ev } ∷ []) []
told-listed picks id ev =
    elim (picks ev) as
    (λ b. listed id (cond b (Some ev) None) ≡ cond b
    (record { id = id; event = ev } ∷ []) []) [ true ↦ refl | false ↦ refl ]

-- the state after the entry of a turn
pub state-after : (s : TracedState) (pid id : ℕ) (t : LwpTurn) → turn_of s.system pid id ≡ Some t
    → after s (record { actor = Lwp pid id; act = Turn t.turned }) ≡ record s { system = t.system }
unfolding after
state-after s pid id t turn = ap (after_turn s) turn

-- ---- what such a turn leaves

-- the system before it is looked at what the turn met
abbrev pub before_point : TracedSystem → ℕ → TracedProcess → ℕ → TracedLwp → TracedSystem
before_point s pid p id l =
    let row = row_for s pid p id l in
    with_process pid (with_counted row.did row.begun) (after_transition traced pid p id l row.transition s)

-- a process that lives with an lwp of it, and what it was before
pub record StandsAfter (s : TracedState) (pid id : ℕ) (p : TracedProcess) (l : TracedLwp) (t : LwpTurn) : Type 0 where
  pub before : TracedProcess
  pub counted : process_of (before_point s.system pid p id l) pid ≡ Some before
  pub living : before.ended ≡ None
  pub lwp : TracedLwp
  pub live : live_process t.system pid ≡ Some (after_meeting (row_for s.system pid p id l).point id before)
  pub there : lwp_of (after_meeting (row_for s.system pid p id l).point id before) id ≡ Some lwp

-- the event of the turn, as the status of the lwp tells it, and what is picked of the turn
pub record EventAfter (s : TracedState) (pid id : ℕ) (picks : Event → Bool) (t : LwpTurn) (q : TracedProcess)
    (k : TracedLwp) : Type 0 where
  pub event : Event
  pub tells : event_shown (lwpstatus_of q id k) ≡ Some event
  pub lists : picked picks pid (events_of s (record { actor = Lwp pid id; act = Turn t.turned }))
      ≡ (if picks event then record { id = id; event = event } ∷ [] else [])

module _ (s : TracedState) (pid id : ℕ) (p : TracedProcess) (t : LwpTurn) (h : IsLawfulSystem s.system)
    (fit : IsFitSystem s.system) (live : live_process s.system pid ≡ Some p) (picks : Event → Bool)
    (stops : StopsAtPicked p.control picks) (l : TracedLwp) (there : lwp_of p id ≡ Some l)
    (is : t ≡ settled s.system pid p id l (row_for s.system pid p id l)) (pt : Point)
    (met : (row_for s.system pid p id l).point ≡ Some pt) where
  abbrev row : Row
  row = row_for s.system pid p id l

  row-lives : (row.transition.ending ≡ None) × (has_ended row.did ≡ false)
  row-lives =
      let goes = fit-row s.system pid id p l picks stops fit live there in
      (goes.ends_nothing pt met, goes.not_ended pt met)

  pub stands-after : StandsAfter s pid id p l t
  stands-after =
      let was = found-live s.system pid p live in
      let x = row-leaves s.system pid p id l h live there row-lives.0 in
      let kept = x.1.1 in
      let meeting = keeps-meeting id row.point x.0 in
      let found : process_of t.system pid ≡ Some (after_meeting row.point id x.0) =
      ap (λ (v : LwpTurn). process_of v.system pid) is ∙ settled-to s.system pid p id l h live there x.0 x.1.0 in
      by x.0 x.1.0 (kept.ended ∙ was.1)
      (live-by t.system pid (after_meeting row.point id x.0) found (meeting.ended ∙ kept.ended ∙ was.1))
      (lwp_of (after_meeting row.point id x.0) id) refl
      (meeting.own (kept.own (ap (λ (k : Option TracedLwp). is_some k) there)))
    where
      by : (x : TracedProcess) → process_of (before_point s.system pid p id l) pid ≡ Some x → x.ended ≡ None
          → live_process t.system pid ≡ Some (after_meeting row.point id x) → (k : Option TracedLwp)
          → lwp_of (after_meeting row.point id x) id ≡ k → is_some k ≡ true → StandsAfter s pid id p l t
      by x counted living at (Some k) own some = record {
        before = x;
        counted = counted;
        living = living;
        lwp = k;
        live = at;
        there = own;
      }
      by x counted living at None own some = absurd (false≢true some)

  module _ (turn : turn_of s.system pid id ≡ Some t) (stop : t.turned.stop ≡ true) (q : TracedProcess) (k : TracedLwp)
      (later : live_process t.system pid ≡ Some q) (own : lwp_of q id ≡ Some k) where
    turn-lives : has_ended t.turned.did ≡ false
    unfolding settled
    turn-lives = ap (λ (v : LwpTurn). has_ended v.turned.did) is ∙ row-lives.1

    pub event-after : EventAfter s pid id picks t q k
    event-after =
        let tells = turn-tells s.system pid p id l h live there t turn stop turn-lives q k later own in
        let ev =
        told-is tells.event (ap is_told_if (sym tells.logged) ∙ logged-told p l (Some k) t.turned.did turn-lives) in
        record {
          event = ev.0;
          tells = tells.tells ∙ ev.1;
          lists =
              turn-picks picks s pid id p l live there t.turned
              ∙ ap (λ (v : TracedState). listed id
              (told_of picks (event_of p l (lwp_alone (lwp_in_state v pid id)) t.turned.did)))
              (state-after s pid id t turn)
              ∙ ap (λ f. listed id (told_of picks (event_of p l (lwp_alone f) t.turned.did)))
              (lwp-found (record s { system = t.system }) pid id q k later own)
              ∙ ap (λ a. listed id (told_of picks a)) tells.logged
              ∙ ap (λ a. listed id (option_and_then (if_picked picks) a)) ev.1
              ∙ told-listed picks id ev.0;
        }
