use Rattle.std.proofs.Common.{◌≡◌, ◌≢◌, ◌==◌, ◌||◌, ◌≤◌, ℕ, is_some, Bool, true, false, cond, Option, None, Some, [], ◌∷◌, refl, sym, subst, ap, ◌∙◌, inl, inr, List}
use Rattle.std.proofs.lemmas.Bool.{cases_Bool, false≢true}
use Rattle.std.proofs.lemmas.Option.{same_Some}
use Rattle.pr_line.specs.declared.events.Event.{Event}
use Rattle.pr_line.specs.declared.options.Options.{Options}
use Rattle.pr_model.proofs.TurnLemmas.{TakesTurn, turn-taken}
use Rattle.pr_model.specs.Events.{events_of}
use Rattle.pr_model.specs.Lawful.{IsLawfulSystem}
use Rattle.pr_model.specs.LwpTurns.{LwpTurn, settled, turn_of}
use Rattle.pr_model.specs.Points.{after_meeting, is_traced, meets as meets_point}
use Rattle.pr_model.specs.Rows.{Row, row_for}
use Rattle.pr_model.specs.State.{TracedControl, TracedProcess, TracedState, live_process, lwp_of}
use Rattle.pr_model.specs.declared.events.Act.TheVariants.{Turn}
use Rattle.pr_model.specs.declared.events.Actor.TheVariants.{Lwp}
use Rattle.pr_model.specs.declared.stops.Point.{Point}
use Rattle.pr_num.specs.Control.{async_mode, has_flags}
use Rattle.pr_reached.specs.Fits.{IsFitSystem}
use Rattle.pr_report_laws.proofs.Machine.OwnTurnLaws.{halting-picks}
use Rattle.pr_report_laws.proofs.Machine.TracedPoints.{PicksTraced, StopsAtPicked, picked-is-traced}
use Rattle.pr_report_laws.proofs.Machine.TurnEvents.{EventAfter, StandsAfter, event-after, stands-after}
use Rattle.pr_report_laws.specs.AtBirth.{is_met_if}
use Rattle.pr_report_laws.specs.Positions.{HasEvent, if_in}
use Rattle.pr_report_laws.specs.Shown.{LwpEvent, picked}
use Rattle.pr_truss_laws.specs.Stills.{StandsOnEvent}
use Rattle.pr_function_laws.proofs.OpenedProcesses.OneEventLemmas.{met-halting, stands-alone}
use Rattle.pr_function_laws.proofs.OpenedProcesses.OneEventTurns.{turn-few, turn-unmet}
use Rattle.pr_function_laws.proofs.Stepping.ToldLemmas.{told-stands}
use Rattle.pr_function_laws.specs.OneEvent.{HasMetNothing, HasOneEventAtMost, met, unmet}
use Rattle.std.proofs.lemmas.Bool.{eqb-false}
use Rattle.pr_line.specs.declared.events.Event.TheVariants.{Entered, Incurred, Left, Received}
use Rattle.pr_num.proofs.EntryLemmas.{syscall_numbers-range, syscall_of_number-number}
use Rattle.pr_num.proofs.SetLemmas.{has_number-with}
use Rattle.pr_num.specs.Sets.{with_number}
use Rattle.pr_num.specs.Faults.{fault_number}
use Rattle.pr_num.specs.declared.signals.Sig.{Sig}
use Rattle.pr_num.specs.declared.signals.Sig.TheVariants.{Kill}
use Rattle.pr_num.specs.Signals.{signal_number}
use Rattle.pr_num.specs.Syscalls.{syscall_number}
use Rattle.pr_num.specs.Sets.{has_number}
use Rattle.pr_num.specs.declared.syscalls.Sysno.{Sysno}
use Rattle.pr_num.specs.declared.syscalls.Sysno.TheVariants.{Fork, Vfork, Exec}
use Rattle.pr_report_laws.specs.Reads.{traces}
use Rattle.pr_truss.specs.FunctionCalls.{with_copying}
use Rattle.pr_truss.specs.Messages.{traced_entries, traced_exits, with_forks}
use Rattle.pr_function_laws.proofs.Stepping.HaltingSteps.{every-fault, every-signal}
use Rattle.pr_function_laws.specs.Opened.{TracesAll}
use Rattle.pr_line.specs.Selections.{is_selected}
use Rattle.pr_report_laws.proofs.Machine.SelectedPoints.{selects-traced}

-- A turn by which an event comes that truss selects leaves the lwp on that event, and each other lwp held.

-- ---- where a process stops that truss has opened

call-positive : (call : Sysno) → 1 ≤ syscall_number call
call-positive call = ((syscall_numbers-range (syscall_number call)).0 (ap is_some (syscall_of_number-number call))).0

-- a set with the calls that copy or replace the memory has what it had before
with-copies : (w : ℕ) (call : Sysno) → has_number (with_copying w) (syscall_number call) ≡ false
    → has_number w (syscall_number call) ≡ false
unfolding with_copying with_forks
with-copies w call off =
    let forks : ℕ = with_number (with_number w (syscall_number Fork)) (syscall_number Vfork) in
    one_less (has_number w (syscall_number call)) _
    (sym (has_number-with w (syscall_number Fork) (syscall_number call) (call-positive Fork) (call-positive call))
    ∙ one_less (has_number (with_number w (syscall_number Fork)) (syscall_number call)) _
    (sym (has_number-with (with_number w (syscall_number Fork)) (syscall_number Vfork) (syscall_number call)
    (call-positive Vfork) (call-positive call))
    ∙ one_less (has_number forks (syscall_number call)) _
    (sym (has_number-with forks (syscall_number Exec) (syscall_number call) (call-positive Exec) (call-positive call))
    ∙ off)))
  where
    one_less : (a b : Bool) → (a || b) ≡ false → a ≡ false
    one_less false b is = refl
    one_less true b is = absurd (false≢true (sym is))

-- it stops at each event that the options select
pub all-picked : (o : Options) (c : TracedControl) → TracesAll o c → StopsAtPicked c (is_selected o)
unfolding is_traced traces
all-picked o c all =
    let within : PicksTraced o (is_selected o) = selects-traced o in
    let stops = all.stops in
    record {
      entry = λ call args off.
          within.untraced (Entered call args)
          (with-copies (traced_entries o) call (ap (λ w. has_number w (syscall_number call)) (sym all.entries) ∙ off));
      exit = λ call args r off.
          within.untraced (Left call args r)
          (with-copies (traced_exits o) call (ap (λ w. has_number w (syscall_number call)) (sym all.exits) ∙ off));
      signal = λ g d info not_kill off.
          absurd (false≢true (sym off
          ∙ ap (λ w. has_number w (signal_number g)) stops.signals ∙ every-signal g (spared g not_kill)));
      fault = λ f pc off.
          absurd (false≢true (sym off ∙ ap (λ w. has_number w (fault_number f)) stops.faults ∙ every-fault f));
    }
  where
    spared : (g : Sig) → (signal_number g == signal_number Kill) ≡ false → g ≢ Kill
    spared g other same = eqb-false (signal_number g) (signal_number Kill) other (ap signal_number same)

-- a process that stops at each event that is picked stops at each where fewer are picked
pub fewer-picked : (c : TracedControl) (picks few : Event → Bool)
    → ((e : Event) → picks e ≡ false → few e ≡ false) → StopsAtPicked c picks → StopsAtPicked c few
fewer-picked c picks few fewer stops = record {
  entry = λ call args off. fewer (Entered call args) (stops.entry call args off);
  exit = λ call args r off. fewer (Left call args r) (stops.exit call args r off);
  signal = λ g d info not_kill off. fewer (Received g d info) (stops.signal g d info not_kill off);
  fault = λ f pc off. fewer (Incurred f pc) (stops.fault f pc off);
}

-- ---- a turn

-- an event by which the turn of an lwp was picked
pub record LeavesEvent (pid own : ℕ) (picks : Event → Bool) (event : LwpEvent) (t : LwpTurn) : Type 0 where
  pub process : TracedProcess
  pub live : live_process t.system pid ≡ Some process
  pub its : event.id ≡ own
  pub has : HasEvent process own event.event
  pub chosen : picks event.event ≡ true

-- an event that a turn of an lwp met, on which it stands, and what is picked of the turn
pub record MeetsEvent (pid own : ℕ) (picks : Event → Bool) (t : LwpTurn) (events : List LwpEvent) : Type 0 where
  pub event : Event
  pub process : TracedProcess
  pub live : live_process t.system pid ≡ Some process
  pub has : HasEvent process own event
  pub lists : events ≡ if_in picks (record { id = own; event = event })

-- what a turn leaves of a process in which no lwp stands on an event, and what is picked of it
pub data AfterQuiet (pid own : ℕ) (picks : Event → Bool) (t : LwpTurn) (events : List LwpEvent) : Type 0 where
  goes_on : events ≡ [] → ((q : TracedProcess) → live_process t.system pid ≡ Some q → HasMetNothing q)
      → AfterQuiet pid own picks t events
  meets : MeetsEvent pid own picks t events → AfterQuiet pid own picks t events

module _ (s : TracedState) (pid own : ℕ) (p : TracedProcess) (t : LwpTurn) (h : IsLawfulSystem s.system)
    (fit : IsFitSystem s.system) (live : live_process s.system pid ≡ Some p) (turn : turn_of s.system pid own ≡ Some t)
    (directs : has_flags p.control.modes async_mode ≡ false) (picks : Event → Bool)
    (stops : StopsAtPicked p.control picks) where
  abbrev its_events : List LwpEvent
  its_events = picked picks pid (events_of s (record { actor = Lwp pid own; act = Turn t.turned }))

  module _ (none : HasMetNothing p) where
    it : TakesTurn s.system pid own t
    it = turn-taken s.system pid own t turn

    same : it.process ≡ p
    same = same_Some it.process p (sym it.live ∙ live)

    there : lwp_of p own ≡ Some it.lwp
    there = subst (λ (y : TracedProcess). lwp_of y own ≡ Some it.lwp) same it.there

    abbrev row : Row
    row = row_for s.system pid p own it.lwp

    is : t ≡ settled s.system pid p own it.lwp row
    is =
        it.is
        ∙ ap (λ (y : TracedProcess). settled s.system pid y own it.lwp (row_for s.system pid y own it.lwp)) same

    module _ (stopped : t.turned.stop ≡ true) where
      met-at : (pt : Point) × (row.point ≡ Some pt)
      unfolding settled
      met-at = by row.point refl
        where
          by : (o : Option Point) → row.point ≡ o → (pt : Point) × (row.point ≡ Some pt)
          by None at =
              absurd (false≢true (sym (ap (meets_point p.control) at) ∙ ap (λ (v : LwpTurn). v.turned.stop) (sym is)
              ∙ stopped))
          by (Some pt) at = (pt, at)

      left : StandsAfter s pid own p it.lwp t
      left = stands-after s pid own p t h fit live picks stops it.lwp there is met-at.0 met-at.1

      abbrev q : TracedProcess
      q = after_meeting row.point own left.before

      its-event : EventAfter s pid own picks t q left.lwp
      its-event =
          event-after s pid own p t h fit live picks stops it.lwp there is met-at.0 met-at.1 turn stopped q left.lwp
          left.live left.there

      stands : StandsOnEvent left.lwp
      stands = let e = its-event in told-stands q own left.lwp e.event e.tells

      meets-event : MeetsEvent pid own picks t its_events
      meets-event =
          let few = turn-few s.system pid p own t h live turn directs q left.live (unmet none) in
          let on = stands in
          let alone = stands-alone q few own left.lwp left.there (ap is_met_if on.is ∙ on.met) in
          let e = its-event in
          record {
            event = e.event;
            process = q;
            live = left.live;
            has = record {
              lwp = left.lwp;
              there = left.there;
              stands = on;
              tells = e.tells;
              others = alone.others;
            };
            lists = e.lists;
          }

    pub quiet-turn : AfterQuiet pid own picks t its_events
    quiet-turn = elim (cases_Bool t.turned.stop) [
      | inl on ↦ meets (meets-event on)
      | inr off ↦ goes_on (picked-is-traced picks s pid own p stops t fit live turn off)
          (λ q later. turn-unmet s.system pid p own t h live turn directs q later none off)
    ]

  -- ---- where an event is picked

  module _ (event : LwpEvent) (came : its_events ≡ event ∷ []) where
    none-came : {A : Type 0} → its_events ≡ [] → A
    none-came none = let both : [] ≡ event ∷ [] = sym none ∙ came in absurd (cc)

    named-so : (b : Bool) (one : LwpEvent) → (cond b (one ∷ []) []) ≡ event ∷ [] → one ≡ event
    named-so true one both = cc
    named-so false one both = absurd (let it : [] ≡ event ∷ [] = both in cc)

    chosen-so : (b : Bool) (one : LwpEvent) → (cond b (one ∷ []) []) ≡ event ∷ [] → b ≡ true
    chosen-so true one both = refl
    chosen-so false one both = absurd (let it : [] ≡ event ∷ [] = both in cc)

    leaves : MeetsEvent pid own picks t its_events → LeavesEvent pid own picks event t
    leaves m =
        let is : record { id = own; event = m.event } ≡ event =
        named-so (picks m.event) (record { id = own; event = m.event }) (sym m.lists ∙ came) in
        record {
          process = m.process;
          live = m.live;
          its = ap (λ (x : LwpEvent). x.id) (sym is);
          has = subst (λ (x : LwpEvent). HasEvent m.process own x.event) is m.has;
          chosen =
              ap (λ (x : LwpEvent). picks x.event) (sym is)
              ∙ chosen-so (picks m.event) (record { id = own; event = m.event }) (sym m.lists ∙ came);
        }

    by-quiet : AfterQuiet pid own picks t its_events → LeavesEvent pid own picks event t
    by-quiet (goes_on empty unmet_on) = none-came empty
    by-quiet (meets m) = leaves m

    -- A process in which some lwp stands on an event has no such turn.
    pub turn-leaves : HasOneEventAtMost p → LeavesEvent pid own picks event t
    turn-leaves (unmet none) = by-quiet (quiet-turn none)
    turn-leaves (met id w) =
        none-came (halting-picks picks s pid own p t live (met-halting p id w) turn)
