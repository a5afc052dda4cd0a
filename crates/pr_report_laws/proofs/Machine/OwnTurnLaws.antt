use Rattle.std.proofs.Common.{◌≡◌, ◌≢◌, ◌==◌, ◌||◌, ℕ, Bool, true, false, cond, is_some, None, Some, Option, List, [], ◌∷◌, refl, sym, subst, ap, ◌∙◌, inl, inr}
use Rattle.std.specs.Prelude.{if◌then◌else◌}
use Rattle.std.proofs.lemmas.Bool.{false≢true, cases_Bool, eqb-true, eqb-false, or_left}
use Rattle.std.proofs.lemmas.Option.{same_Some}
use Rattle.pr_line.specs.Events.{event_of as event_shown}
use Rattle.pr_line.specs.declared.events.Event.{Event}
use Rattle.pr_line.specs.declared.options.Options.{Options}
use Rattle.pr_num.proofs.ByIdLaws.{under-change_under, under-change_under_other, under-map_each}
use Rattle.pr_num.specs.Agents.{agent_id}
use Rattle.pr_num.specs.ById.{under}
use Rattle.pr_num.specs.Control.{async_mode, has_flags, klc_mode}
use Rattle.pr_lawful.proofs.LawfulTurns.EndLemmas.{found-live}
use Rattle.pr_lawful.proofs.LawfulTurns.SuitingLemmas.{is_stop}
use Rattle.pr_model.proofs.TurnLemmas.{TakesTurn, turn-taken}
use Rattle.pr_model.specs.Events.{event_of, events_of, lwp_alone, lwp_in_state}
use Rattle.pr_model.specs.Lawful.{IsLawfulSystem}
use Rattle.pr_model.specs.Legal.{after}
use Rattle.pr_model.specs.LwpTurns.{LwpTurn, is_held_back, settled, turn_of, with_counted}
use Rattle.pr_model.specs.Machines.{stopped_as_directed}
use Rattle.pr_model.specs.Points.{after_meeting, is_traced, meets, stopped_at, with_others_directed, with_stop_at}
use Rattle.pr_model.specs.Rows.{Row, row_for}
use Rattle.pr_model.specs.State.{TracedControl, TracedLwp, TracedProcess, TracedState, TracedSystem, has_agent, live_process, lwp_of, with_lwp}
use Rattle.pr_model.specs.Statuses.{lwpstatus_of}
use Rattle.pr_model.specs.Stops.{directed, has_event_stop, with_all_directed}
use Rattle.pr_model.specs.declared.events.Act.TheVariants.{Turn}
use Rattle.pr_model.specs.declared.events.Actor.TheVariants.{Lwp}
use Rattle.pr_model.specs.declared.events.Did.TheVariants as did
use Rattle.pr_model.specs.declared.events.Turned.{Turned}
use Rattle.pr_model.specs.declared.stops.Point.{Point}
use Rattle.pr_model.specs.declared.stops.Stop.{Stop}
use Rattle.pr_truss_laws.proofs.EventStops.BridgeLemmas.{mapped-some}
use Rattle.pr_truss_laws.proofs.EventStops.OwnTurnLemmas.{Carries, GoesOn, new, old, quiet-halts, quiet-settings, quiet-stands, quiet-stays, row-carries}
use Rattle.pr_truss_laws.proofs.Machine.StillLemmas.{halting-did, halting-leaves, halting-stays}
use Rattle.pr_truss_laws.specs.Stills.{HasSameSettings, IsHalting, IsQuiet, stopped_lwp, will_stop, with_lwp_stopped}
use Rattle.pr_report_laws.proofs.Machine.StayingLwps.{changed-ids, suits-row, turn-no-agent}
use Rattle.pr_report_laws.proofs.Machine.TracedPoints.{PicksTraced, StopsAtPicked, listed, picked-is-traced, told_of, traced-picked, turn-picks}
use Rattle.pr_report_laws.proofs.Machine.TurnEvents.{event-after, stands-after}
use Rattle.pr_reached.specs.Fits.{IsFitSystem}
use Rattle.pr_report_laws.proofs.Invariant.Positions.{HasEvent, IsHeld, IsTracedBy, is_met_if}
use Rattle.pr_report_laws.specs.Shown.{LwpEvent, picked}

-- What a turn of one of its own lwps makes of a process that truss traces, and what is picked of its events.

-- ---- what truss has set stays

pub traced-on : (o : Options) (p q : TracedProcess) → HasSameSettings p q → has_agent q ≡ false → IsTracedBy o p
    → IsTracedBy o q
traced-on o p q same none t = record {
  signals = ap (λ (c : TracedControl). c.traced_signals) same.control ∙ t.signals;
  faults = ap (λ (c : TracedControl). c.traced_faults) same.control ∙ t.faults;
  entries = ap (λ (c : TracedControl). c.traced_entries) same.control ∙ t.entries;
  exits = ap (λ (c : TracedControl). c.traced_exits) same.control ∙ t.exits;
  directs = ap (λ (c : TracedControl). has_flags c.modes async_mode) same.control ∙ t.directs;
  spares = ap (λ (c : TracedControl). has_flags c.modes klc_mode) same.control ∙ t.spares;
  no_agent = none;
}

-- ---- the other lwps, where one stops

-- no other lwp of a process is stopped on an event
OthersGoOn : ℕ → TracedProcess → Type 0
OthersGoOn id q = (other : ℕ) (k : TracedLwp) → other ≢ id → lwp_of q other ≡ Some k → k.control.stop ≡ None

directed-stop : (l : TracedLwp) → (directed l).control.stop ≡ l.control.stop
unfolding directed
directed-stop l =
    elim (has_event_stop l) as
    (λ b. (cond b l
    (record l { control = record l.control { directed = true } })).control.stop ≡ l.control.stop) [
      | true ↦ refl
      | false ↦ refl
    ]

module _ (id : ℕ) where
  own-changed : (f : TracedLwp → TracedLwp) (x : TracedProcess) → OthersGoOn id x → OthersGoOn id (with_lwp id f x)
  unfolding OthersGoOn with_lwp
  own-changed f x go other k apart at =
      go other k apart (sym (under-change_under_other id other f (λ is. apart (sym is)) x.lwps) ∙ at)

  all-directed : (x : TracedProcess) → OthersGoOn id x → OthersGoOn id (with_all_directed x)
  unfolding OthersGoOn with_all_directed
  all-directed x go other k apart at =
      let l = mapped-some directed (under other x.lwps) k (sym (under-map_each other directed x.lwps) ∙ at) in
      ap (λ (y : TracedLwp). y.control.stop) (sym l.1.1) ∙ directed-stop l.0 ∙ go other l.0 apart l.1.0

  go-if : (b : Bool) (x y : TracedProcess) → OthersGoOn id x → OthersGoOn id y → OthersGoOn id (cond b x y)
  go-if true x y one other = one
  go-if false x y one other = other

  meeting-others : (point : Option Point) (x : TracedProcess) → OthersGoOn id x
      → OthersGoOn id (after_meeting point id x)
  unfolding after_meeting with_stop_at with_others_directed
  meeting-others None x go = go
  meeting-others (Some pt) x go =
      let at : TracedProcess = with_lwp id (stopped_at pt) x in
      go-if (is_traced x.control pt) _ x
      (go-if (has_flags at.control.modes async_mode) at _ (own-changed (stopped_at pt) x go)
      (all-directed at (own-changed (stopped_at pt) x go))) go

  carried-others : (p x : TracedProcess) → GoesOn p x → IsQuiet p → OthersGoOn id x
  unfolding OthersGoOn
  carried-others p x g quiet other k apart at = by (g.lwps other k at)
    where
      by : Carries p other k → k.control.stop ≡ None
      by (new none) = none.no_stop
      by (old l there stop mark) = let n = quiet.each other l there in stop ∙ n.no_stop

-- ---- a turn of a quiet process

-- what is left after a turn of an own lwp of a quiet process, and what was picked of the turn
pub data AfterTurn (o : Options) (picks : Event → Bool) (pid id : ℕ) (s : TracedSystem)
    (sel : List LwpEvent) : Type 0 where
  goes_on : (q : TracedProcess) → live_process s pid ≡ Some q → IsQuiet q → IsTracedBy o q → sel ≡ []
      → AfterTurn o picks pid id s sel
  halts : (q : TracedProcess) (ev : Event) → live_process s pid ≡ Some q → HasEvent q id ev → IsTracedBy o q
      → sel ≡ (if picks ev then record { id = id; event = ev } ∷ [] else []) → AfterTurn o picks pid id s sel
  over : live_process s pid ≡ None → sel ≡ [] → AfterTurn o picks pid id s sel

-- a process and an lwp of it that stand, while its other lwps are on no event
record Standing (pid id : ℕ) (s : TracedSystem) : Type 0 where
  pub process : TracedProcess
  pub live : live_process s pid ≡ Some process
  pub lwp : TracedLwp
  pub there : lwp_of process id ≡ Some lwp
  pub others : OthersGoOn id process

module _ (o : Options) (s : TracedState) (pid id : ℕ) (p : TracedProcess) (t : LwpTurn) (h : IsLawfulSystem s.system)
    (fit : IsFitSystem s.system) (live : live_process s.system pid ≡ Some p) (traced_by : IsTracedBy o p)
    (still : IsQuiet p) (turn : turn_of s.system pid id ≡ Some t) (picks : Event → Bool)
    (within : PicksTraced o picks) where
  at_picked : StopsAtPicked p.control picks
  at_picked = traced-picked o p traced_by picks within

  left-traced : (q : TracedProcess) → live_process t.system pid ≡ Some q → IsTracedBy o q
  left-traced q at =
      traced-on o p q (quiet-settings s.system pid p id t h live still traced_by.directs turn q at)
      (turn-no-agent s.system pid p id t h live turn traced_by.no_agent q at) traced_by

  -- nothing traced was met
  unmet : t.turned.stop ≡ false → AfterTurn o picks pid id t.system (picked picks pid (events_of s (record {
    actor = Lwp pid id;
    act = Turn t.turned;
  })))
  unmet stop = by (live_process t.system pid) refl
    where
      nothing : picked picks pid (events_of s (record { actor = Lwp pid id; act = Turn t.turned })) ≡ []
      nothing = picked-is-traced picks s pid id p at_picked t fit live turn stop

      by : (q : Option TracedProcess) → live_process t.system pid ≡ q
          → AfterTurn o picks pid id t.system (picked picks pid (events_of s (record {
            actor = Lwp pid id;
            act = Turn t.turned;
          })))
      by None at = over at nothing
      by (Some q) at =
          goes_on q at (quiet-stays s.system pid p id t h live still traced_by.directs turn q at stop)
          (left-traced q at) nothing

  -- ---- something traced was met

  module _ (l : TracedLwp) (there : lwp_of p id ≡ Some l)
      (is : t ≡ settled s.system pid p id l (row_for s.system pid p id l)) (pt : Point)
      (met : (row_for s.system pid p id l).point ≡ Some pt) (stop : t.turned.stop ≡ true) where
    abbrev row : Row
    row = row_for s.system pid p id l

    standing : Standing pid id t.system
    standing =
        let was = found-live s.system pid p live in
        let st = stands-after s pid id p t h fit live picks at_picked l there is pt met in
        let suits = suits-row s.system pid p id l h live there in
        let none = still.each id l there in
        let not_stop : is_stop row.transition.move ≡ false =
        elim (cases_Bool (is_stop row.transition.move)) [
          | inl stops ↦ absurd
              (false≢true (sym none.not_directed ∙ (suits.stop stops).0))
          | inr goes ↦ goes
        ] in
        let carried = row-carries pid p id l row s.system h not_stop suits in
        let from = carried.from st.before st.counted st.living in
        let g : GoesOn p st.before =
        subst (λ (y : TracedProcess). GoesOn y st.before) (same_Some from.0 p (sym from.1.0 ∙ was.0)) from.1.1 in
        record {
          process = after_meeting row.point id st.before;
          live = st.live;
          lwp = st.lwp;
          there = st.there;
          others = meeting-others id row.point st.before (carried-others id p st.before g still);
        }

    met-event : AfterTurn o picks pid id t.system (picked picks pid (events_of s (record {
      actor = Lwp pid id;
      act = Turn t.turned;
    })))
    unfolding OthersGoOn
    met-event =
        let st = standing in
        let q : TracedProcess = st.process in
        let halting = quiet-halts s.system pid p id t h live still traced_by.directs turn q st.live stop in
        let others = st.others in
        let ev =
        event-after s pid id p t h fit live picks at_picked l there is pt met turn stop q st.lwp st.live st.there in
        halts q ev.event st.live
        (record {
          lwp = st.lwp;
          there = st.there;
          stands = quiet-stands s.system pid p id t h live still traced_by.directs turn q st.lwp st.live stop st.there;
          tells = ev.tells;
          others =
              λ other m apart at. record {
                stops = halting.each other m at;
                met_nothing = ap is_met_if (others other m apart at);
              };
        })
        (left-traced q st.live) ev.lists

-- After a turn of an own lwp a quiet process is quiet, or stands on the event that the turn logged, or has ended.
pub quiet-turn : (o : Options) (picks : Event → Bool) → PicksTraced o picks → (s : TracedState) (pid id : ℕ)
    (p : TracedProcess) (t : LwpTurn)
    → IsLawfulSystem s.system → IsFitSystem s.system → live_process s.system pid ≡ Some p → IsTracedBy o p → IsQuiet p
    → turn_of s.system pid id ≡ Some t → AfterTurn o picks pid id t.system (picked picks pid (events_of s (record {
      actor = Lwp pid id;
      act = Turn t.turned;
    })))
unfolding settled
quiet-turn o picks within s pid id p t h fit live traced_by still turn =
    elim (cases_Bool t.turned.stop) [
      | inr off ↦ unmet o s pid id p t h fit live traced_by still turn picks within off
      | inl on ↦ by
          (row_for s.system pid p id it.lwp).point refl on
    ]
  where
    it : TakesTurn s.system pid id t
    it = turn-taken s.system pid id t turn

    same : it.process ≡ p
    same = same_Some it.process p (sym it.live ∙ live)

    there : lwp_of p id ≡ Some it.lwp
    there = subst (λ (y : TracedProcess). lwp_of y id ≡ Some it.lwp) same it.there

    is : t ≡ settled s.system pid p id it.lwp (row_for s.system pid p id it.lwp)
    is = it.is ∙ ap (λ (y : TracedProcess). settled s.system pid y id it.lwp (row_for s.system pid y id it.lwp)) same

    by : (point : Option Point) → (row_for s.system pid p id it.lwp).point ≡ point → t.turned.stop ≡ true
        → AfterTurn o picks pid id t.system (picked picks pid (events_of s (record {
          actor = Lwp pid id;
          act = Turn t.turned;
        })))
    by None at on =
        absurd (false≢true (sym (ap (meets p.control) at) ∙ ap (λ (v : LwpTurn). v.turned.stop) (sym is) ∙ on))
    by (Some pt) at on = met-event o s pid id p t h fit live traced_by still turn picks within it.lwp there is pt at on

-- ---- a turn of a process each lwp of which stands still or will stop

-- what such a turn leaves
pub record StillHalts (pid : ℕ) (p : TracedProcess) (s : TracedSystem) : Type 0 where
  pub process : TracedProcess
  pub live : live_process s pid ≡ Some process
  pub halting : IsHalting process
  pub settings : HasSameSettings p process
  pub agent : has_agent process ≡ has_agent p

stopped-settings : (id : ℕ) (p : TracedProcess) → HasSameSettings p (with_lwp_stopped id p)
unfolding with_lwp with_counted
stopped-settings id p = record { control = refl }

stopped-agent : (id : ℕ) (p : TracedProcess) → has_agent (with_lwp_stopped id p) ≡ has_agent p
unfolding with_lwp with_counted
stopped-agent id p = changed-ids id stopped_lwp p.lwps agent_id

-- Where each lwp stands still or will stop a turn of one stops it, and so it stays.
pub halting-turn : (s : TracedSystem) (pid id : ℕ) (p : TracedProcess) (t : LwpTurn) → live_process s pid ≡ Some p
    → IsHalting p → turn_of s pid id ≡ Some t → StillHalts pid p t.system
halting-turn s pid id p t live halting turn = record {
  process = with_lwp_stopped id p;
  live = halting-leaves s pid p live halting id t turn;
  halting = halting-stays s pid p live halting id t turn;
  settings = stopped-settings id p;
  agent = stopped-agent id p;
}

-- Nothing is picked of it.
pub halting-picks : (picks : Event → Bool) (s : TracedState) (pid id : ℕ) (p : TracedProcess) (t : LwpTurn)
    → live_process s.system pid ≡ Some p → IsHalting p → turn_of s.system pid id ≡ Some t
    → picked picks pid (events_of s (record { actor = Lwp pid id; act = Turn t.turned })) ≡ []
unfolding event_of
halting-picks picks s pid id p t live halting turn =
    let it = turn-taken s.system pid id t turn in
    let there : lwp_of p id ≡ Some it.lwp =
    subst (λ (y : TracedProcess). lwp_of y id ≡ Some it.lwp) (same_Some it.process p (sym it.live
    ∙ live)) it.there in
    let new : Option TracedLwp =
    lwp_alone (lwp_in_state (after s (record { actor = Lwp pid id; act = Turn t.turned })) pid id) in
    turn-picks picks s pid id p it.lwp live there t.turned
    ∙ ap (λ (d : Turned). listed id (told_of picks (event_of p it.lwp new d.did)))
    (halting-did s.system pid p live halting id t turn)

-- ---- a turn of a process with an unread event

-- what such a turn leaves
pub record StillHasEvent (o : Options) (pid id : ℕ) (ev : Event) (s : TracedSystem) : Type 0 where
  pub process : TracedProcess
  pub live : live_process s pid ≡ Some process
  pub event : HasEvent process id ev
  pub traced : IsTracedBy o process

stop-stands : (l : TracedLwp) (stop : Stop) → l.control.stop ≡ Some stop → has_event_stop l ≡ true
stop-stands l stop is = ap (λ (x : Option Stop). is_some x) is

stop-will : (l : TracedLwp) → has_event_stop l ≡ true → will_stop l ≡ true
stop-will l is = ap (λ b. (b || l.suspended) || l.control.directed) is

stopped-held : (l : TracedLwp) → IsHeld (stopped_lwp l)
unfolding stopped_as_directed
stopped-held l = record { stops = refl; met_nothing = refl }

same-status : (other id : ℕ) (p : TracedProcess) (l : TracedLwp)
    → lwpstatus_of (with_lwp_stopped other p) id l ≡ lwpstatus_of p id l
unfolding lwpstatus_of with_lwp with_counted
same-status other id p l = refl

module _ (p : TracedProcess) (id : ℕ) (ev : Event) (event : HasEvent p id ev) where
  event-stands : (l : TracedLwp) → lwp_of p id ≡ Some l → has_event_stop l ≡ true
  event-stands l there =
      let on = event.stands in
      subst (λ (x : TracedLwp). has_event_stop x ≡ true) (same_Some event.lwp l (sym event.there
      ∙ there)) (stop-stands event.lwp on.stop on.is)

  -- so each lwp stands still or will stop
  pub event-halts : IsHalting p
  event-halts =
      record {
        each = λ other l there. elim
            (cases_Bool (other == id)) [
              | inl same ↦ stop-will l
                  (event-stands l
                  (subst (λ n. lwp_of p n ≡ Some l) (eqb-true other id same) there))
              | inr apart ↦ held other l
                  (eqb-false other id apart) there
            ];
      }
    where
      held : (other : ℕ) (l : TracedLwp) → other ≢ id → lwp_of p other ≡ Some l → will_stop l ≡ true
      held other l apart there = let it = event.others other l apart there in it.stops

  -- the lwp on the event has no turn
  pub event-waits : (s : TracedSystem) (pid : ℕ) (t : LwpTurn) → live_process s pid ≡ Some p
      → turn_of s pid id ≡ Some t → ⊥
  unfolding is_held_back
  event-waits s pid t live turn =
      let it = turn-taken s pid id t turn in
      let there : lwp_of p id ≡ Some it.lwp =
      subst (λ (y : TracedProcess). lwp_of y id ≡ Some it.lwp) (same_Some it.process p (sym it.live
      ∙ live)) it.there in
      false≢true (sym it.free ∙ or_left (has_event_stop it.lwp) _ (event-stands it.lwp there))

  -- another lwp stops as it was directed to
  pub stopped-event : (other : ℕ) → other ≢ id → HasEvent (with_lwp_stopped other p) id ev
  unfolding with_lwp with_counted
  stopped-event other differs = record {
    lwp = event.lwp;
    there = under-change_under_other other id stopped_lwp differs p.lwps ∙ event.there;
    stands = event.stands;
    tells = ap event_shown (same-status other id p event.lwp) ∙ event.tells;
    others =
        λ n k apart at. elim
        (cases_Bool (other == n)) [
          | inl same ↦ own n k
              (eqb-true other n same) at
          | inr not_same ↦ event.others n k apart
              (sym (under-change_under_other other n stopped_lwp (eqb-false other n not_same) p.lwps) ∙ at)
        ];
  }
    where
      own : (n : ℕ) (k : TracedLwp) → other ≡ n → lwp_of (with_lwp_stopped other p) n ≡ Some k → IsHeld k
      own n k same at =
          let m =
          mapped-some stopped_lwp (under other p.lwps) k (sym (under-change_under other stopped_lwp p.lwps)
          ∙ subst (λ i. lwp_of (with_lwp_stopped other p) i ≡ Some k) (sym same) at) in
          subst IsHeld m.1.1 (stopped-held m.0)

-- While an event is unread a turn of an own lwp leaves it there, and truss's tracing too.
pub event-turn : (o : Options) (s : TracedSystem) (pid id other : ℕ) (p : TracedProcess) (ev : Event) (t : LwpTurn)
    → live_process s pid ≡ Some p → HasEvent p id ev → IsTracedBy o p → turn_of s pid other ≡ Some t
    → StillHasEvent o pid id ev t.system
event-turn o s pid id other p ev t live event traced_by turn =
    let halting = event-halts p id ev event in
    let left = halting-turn s pid other p t live halting turn in
    let differs : other ≢ id =
    λ same. event-waits p id ev event s pid t live (subst (λ n. turn_of s pid n ≡ Some t) same turn) in
    record {
      process = with_lwp_stopped other p;
      live = halting-leaves s pid p live halting other t turn;
      event = stopped-event p id ev event other differs;
      traced =
          traced-on o p (with_lwp_stopped other p) (stopped-settings other p) (stopped-agent other p
          ∙ traced_by.no_agent) traced_by;
    }

-- Nothing is picked of it.
pub event-picks : (picks : Event → Bool) (s : TracedState) (pid id other : ℕ) (p : TracedProcess) (ev : Event)
    (t : LwpTurn)
    → live_process s.system pid ≡ Some p → HasEvent p id ev → turn_of s.system pid other ≡ Some t
    → picked picks pid (events_of s (record { actor = Lwp pid other; act = Turn t.turned })) ≡ []
event-picks picks s pid id other p ev t live event turn =
    halting-picks picks s pid other p t live (event-halts p id ev event) turn
