use Rattle.std.proofs.Common.{◌≡◌, ◌==◌, ◌&&◌, ◌≤◌, ◌-◌, ◌^◌, ℕ, Bool, true, false, cond, not, is_some, None, Some, Option, List, [], ◌∷◌, Result, Ok, Err, refl, sym, subst, ap, ◌∙◌, arith, inl, inr}
use Rattle.std.proofs.lemmas.Bool.{false≢true, cases_Bool, eqb-true, eq-eqb, and_parts}
use Rattle.std.proofs.lemmas.Option.{same_Some, none-some}
use Rattle.std.specs.List.{cons_option}
use Rattle.std.specs.Option.{option_and_then, option_map}
use Rattle.pr_line.specs.declared.events.Event.{Event}
use Rattle.pr_line.specs.declared.events.Event.TheVariants.{Entered, Left, Received, Incurred}
use Rattle.pr_line.specs.declared.options.Options.{Options}
use Rattle.pr_num.proofs.ByIdLaws.{All-under}
use Rattle.pr_num.proofs.EntryLemmas.{fault_numbers-range, fault_of_number-number}
use Rattle.pr_num.proofs.NumberedLemmas.{has_number-least_signal, signal_number-range}
use Rattle.pr_num.proofs.SetLemmas.{has_number-common, has_number-without}
use Rattle.pr_num.specs.Faults.{fault_number}
use Rattle.pr_num.specs.Sets.{common_word, has_number, minus_word}
use Rattle.pr_num.specs.Signals.{least_signal, signal_number}
use Rattle.pr_num.specs.Syscalls.{syscall_number}
use Rattle.pr_num.specs.declared.errnos.Errno.{Errno}
use Rattle.pr_num.specs.declared.errnos.Errno.TheVariants.{Intr}
use Rattle.pr_num.specs.declared.faults.Flt.{Flt}
use Rattle.pr_num.specs.declared.faults.Flt.TheVariants.{Trace, Watch}
use Rattle.pr_num.specs.declared.infos.Info.{Info}
use Rattle.pr_num.specs.declared.signals.Sig.{Sig}
use Rattle.pr_num.specs.declared.signals.Sig.TheVariants.{Kill}
use Rattle.pr_num.specs.declared.syscalls.Sysno.{Sysno}
use Rattle.pr_parts.specs.PendingSignals.{Pending, pending_set}
use Rattle.pr_rec.specs.declared.lwps.Disposition.{Disposition}
use Rattle.pr_lawful.proofs.LawfulTurns.EndLemmas.{found-live}
use Rattle.pr_keeps.specs.RowKinds as kind
use Rattle.pr_keeps.specs.RowKinds.{RowKind}
use Rattle.pr_keeps.proofs.RowLemmas.{row-kind}
use Rattle.pr_model.proofs.TurnLemmas.{turn-taken}
use Rattle.pr_model.specs.CallEffects.{call_effect}
use Rattle.pr_model.specs.Changes.{Effect, does, sleeps, ends}
use Rattle.pr_model.specs.Events.{Event as MachineEvent, event_between, event_of, events_of, logged, lwp_alone, lwp_in_state}
use Rattle.pr_model.specs.InstructionEffects.{InstructionEffect, calls, faults, instruction_effect, runs, runs_into_watch, Store}
use Rattle.pr_model.specs.Legal.{after}
use Rattle.pr_model.specs.LwpTurns.{LwpTurn, settled, turn_of}
use Rattle.pr_model.specs.Points.{is_traced, meets}
use Rattle.pr_model.specs.Registers.{arguments, pc_of}
use Rattle.pr_model.specs.Rows.{Row, entered_row, executed_row, finished, handler_row, incurred_row, instruction_row, interrupted_row, own_taken_row, performed_row, point_row, posted_row, quiet_row, ran_row, requested_row, returned_row, row_for, shared_taken_row, watched_row}
use Rattle.pr_model.specs.Signals.{own_takeable, shared_takeable}
use Rattle.pr_model.specs.State.{TracedControl, TracedLwp, TracedProcess, TracedState, TracedSystem, live_process, lwp_of}
use Rattle.pr_model.specs.Transitions.{entered, incurred, interrupted, own_taken, performed, ran, returned, shared_taken, trapped}
use Rattle.pr_model.specs.declared.events.Act.TheVariants.{Turn}
use Rattle.pr_model.specs.declared.events.Actor.TheVariants.{Lwp}
use Rattle.pr_model.specs.declared.events.Did.TheVariants as did
use Rattle.pr_model.specs.declared.events.Entry.{Entry}
use Rattle.pr_model.specs.declared.events.Res.{Res}
use Rattle.pr_model.specs.declared.events.Res.TheVariants.{Value, Error, Ended}
use Rattle.pr_model.specs.declared.events.Turned.{Turned}
use Rattle.pr_model.specs.declared.stops.Point.{Point}
use Rattle.pr_model.specs.declared.stops.Point.TheVariants as point
use Rattle.pr_truss.specs.Messages.{traced_faults, traced_signals}
use Rattle.pr_truss_laws.proofs.EventStops.ToldLemmas.{is_result}
use Rattle.pr_truss_laws.specs.Told.{has_ended, told}
use Rattle.pr_report_laws.proofs.Machine.CallResults.{IsAnswered, call-answered}
use Rattle.pr_report_laws.proofs.Machine.SettingLaws.{wrapped-has}
use Rattle.pr_reached.specs.Fits.{IsFitLwp, IsFitProcess, IsFitSystem, SparesKill}
use Rattle.pr_report_laws.proofs.Invariant.Positions.{IsTracedBy}
use Rattle.pr_report_laws.specs.Reads.{traces}
use Rattle.pr_report_laws.specs.Shown.{LwpEvent, event_picked, if_picked, picked}

-- What is picked of the events of a turn, where only events are picked that truss traces: a turn in which its lwp did
-- not stop logs none of them.

-- ---- what is picked of what a turn logs

-- the event that is told of what the machine logs, if it is picked
abbrev pub told_of : (Event → Bool) → Option MachineEvent → Option Event
told_of picks e = option_and_then (if_picked picks) (option_and_then told e)

-- it as an event of its lwp
abbrev pub listed : ℕ → Option Event → List LwpEvent
listed id None = []
listed id (Some e) = record { id = id; event = e } ∷ []

pub picked-logged : (picks : Event → Bool) (new : TracedState) (pid id : ℕ) (e : Option MachineEvent)
    → picked picks pid (logged new pid id e) ≡ listed id (told_of picks e)
unfolding picked event_picked
picked-logged picks new pid id None = refl
picked-logged picks new pid id (Some e) = rw (eq-eqb pid pid refl) (by (option_and_then (if_picked picks) (told e)))
  where
    by : (x : Option Event) → cons_option (option_map (λ (a : Event). record { id = id; event = a }) x) [] ≡ listed id x
    by None = refl
    by (Some a) = refl

-- an lwp that is there
pub lwp-found : (s : TracedState) (pid id : ℕ) (p : TracedProcess) (l : TracedLwp) → live_process s.system pid ≡ Some p
    → lwp_of p id ≡ Some l → lwp_in_state s pid id ≡ Some (p, l)
unfolding lwp_in_state
lwp-found s pid id p l live there = rw live (rw there refl)

pub turn-picks : (picks : Event → Bool) (s : TracedState) (pid id : ℕ) (p : TracedProcess) (l : TracedLwp)
    → live_process s.system pid ≡ Some p → lwp_of p id ≡ Some l → (t : Turned)
    → picked picks pid (events_of s (record { actor = Lwp pid id; act = Turn t })) ≡ listed id
    (told_of picks
    (event_of p l (lwp_alone (lwp_in_state (after s (record { actor = Lwp pid id; act = Turn t })) pid id)) t.did))
unfolding events_of
turn-picks picks s pid id p l live there t =
    let e : Entry = record { actor = Lwp pid id; act = Turn t } in
    let new : Option TracedLwp = lwp_alone (lwp_in_state (after s e) pid id) in
    picked-logged picks (after s e) pid id (event_between (lwp_in_state s pid id) new t.did)
    ∙ ap (λ f. listed id (told_of picks (event_between f new t.did))) (lwp-found s pid id p l live there)

-- ---- points that are not traced

without-not : (a b : Bool) → b ≡ false → (a && not b) ≡ false → a ≡ false
without-not true true off is = off
without-not true false off is = is
without-not false b off is = refl

-- signals that pend are not SIGKILL, where that does not pend
not-kill : (pending : Pending) (held : ℕ) (g : Sig) → SparesKill pending
    → least_signal (minus_word (pending_set pending) held) ≡ Some g → (signal_number g == signal_number Kill) ≡ false
unfolding minus_word common_word
not-kill pending held g spares least =
    elim (cases_Bool (signal_number g == signal_number Kill)) [
      | inl kill ↦ absurd (false≢true (sym spares.none
          ∙ ap (has_number (pending_set pending)) (sym (eqb-true _ _ kill)) ∙ pends))
      | inr apart ↦ apart
    ]
  where
    pends : has_number (pending_set pending) (signal_number g) ≡ true
    pends =
        (and_parts _ _ (sym (has_number-common (pending_set pending) (2 ^ 64 - 1 - held) (signal_number g))
        ∙ has_number-least_signal (minus_word (pending_set pending) held) g least)).0

-- only events are picked that truss traces
pub record PicksTraced (o : Options) (picks : Event → Bool) : Type 0 where
  pub untraced : (e : Event) → traces o e ≡ false → picks e ≡ false

pub picks-traced : (o : Options) → PicksTraced o (traces o)
picks-traced o = record { untraced = λ e off. off }

-- Only events are picked at which a process with these settings stops: an entry or an exit of a call, a fault, or a
-- signal other than SIGKILL.
pub record StopsAtPicked (c : TracedControl) (picks : Event → Bool) : Type 0 where
  pub entry : (call : Sysno) (args : List ℕ) → is_traced c (point.Entry call) ≡ false
      → picks (Entered call args) ≡ false
  pub exit : (call : Sysno) (args : List ℕ) (r : Result ℕ Errno) → is_traced c (point.Exit call) ≡ false
      → picks (Left call args r) ≡ false
  pub signal : (g : Sig) (d : Disposition) (info : Info) → (signal_number g == signal_number Kill) ≡ false
      → is_traced c (point.Signal g) ≡ false → picks (Received g d info) ≡ false
  pub fault : (f : Flt) (pc : ℕ) → is_traced c (point.Fault f) ≡ false → picks (Incurred f pc) ≡ false

pub fault_number-range : (f : Flt) → (1 ≤ fault_number f) × (fault_number f ≤ 8)
fault_number-range f = (fault_numbers-range (fault_number f)).0 (ap is_some (fault_of_number-number f))

-- what truss has set lets a process stop at all that truss traces
pub traced-picked : (o : Options) (p : TracedProcess) → IsTracedBy o p → (picks : Event → Bool) → PicksTraced o picks
    → StopsAtPicked p.control picks
unfolding is_traced traces
traced-picked o p traced_by picks within = record {
  entry = λ c args off.
      within.untraced (Entered c args) (ap (λ w. has_number w (syscall_number c)) (sym traced_by.entries) ∙ off);
  exit = λ c args r off.
      within.untraced (Left c args r) (ap (λ w. has_number w (syscall_number c)) (sym traced_by.exits) ∙ off);
  signal = λ g d info not_kill off.
      let range = signal_number-range g in
      let kill = signal_number-range Kill in
      let has =
      sym (has_number-without (traced_signals o) (signal_number Kill) (signal_number g) (omega arith) (omega arith)
      (omega arith) (omega arith))
      ∙ ap (λ w. has_number w (signal_number g)) (sym traced_by.signals) ∙ off in
      within.untraced (Received g d info)
      (without-not (has_number (traced_signals o) (signal_number g)) (signal_number g == signal_number Kill) not_kill
      has);
  fault = λ f pc off.
      let range = fault_number-range f in
      within.untraced (Incurred f pc)
      (sym (wrapped-has (traced_faults o) (fault_number f) (omega arith) (omega arith))
      ∙ ap (λ w. has_number w (fault_number f)) (sym traced_by.faults) ∙ off);
}

module _ (p : TracedProcess) (picks : Event → Bool) (stops : StopsAtPicked p.control picks) where
  unpicked : (e : Event) → picks e ≡ false → if_picked picks e ≡ None
  unpicked e off = ap (λ b. cond b (Some e) None) off

  entry-unpicked : (c : Sysno) (args : List ℕ) → is_traced p.control (point.Entry c) ≡ false
      → if_picked picks (Entered c args) ≡ None
  entry-unpicked c args off = unpicked (Entered c args) (stops.entry c args off)

  exit-unpicked : (c : Sysno) (args : List ℕ) (r : Result ℕ Errno) → is_traced p.control (point.Exit c) ≡ false
      → if_picked picks (Left c args r) ≡ None
  exit-unpicked c args r off = unpicked (Left c args r) (stops.exit c args r off)

  signal-unpicked : (g : Sig) (d : Disposition) (info : Info) → (signal_number g == signal_number Kill) ≡ false
      → is_traced p.control (point.Signal g) ≡ false → if_picked picks (Received g d info) ≡ None
  signal-unpicked g d info not_kill off = unpicked (Received g d info) (stops.signal g d info not_kill off)

  fault-unpicked : (f : Flt) (pc : ℕ) → is_traced p.control (point.Fault f) ≡ false
      → if_picked picks (Incurred f pc) ≡ None
  fault-unpicked f pc off = unpicked (Incurred f pc) (stops.fault f pc off)

  -- ---- the row of a turn

  module _ (l : TracedLwp) where
    -- What a row logs goes with the point that it meets: nothing is picked where that is not traced. A row that meets
    -- a point ends neither its lwp nor its process.
    pub record GoesWithPoint (row : Row) : Type 0 where
      pub unpicked : (new : Option TracedLwp) → meets p.control row.point ≡ false
          → told_of picks (event_of p l new row.did) ≡ None
      pub ends_nothing : (pt : Point) → row.point ≡ Some pt → row.transition.ending ≡ None
      pub not_ended : (pt : Point) → row.point ≡ Some pt → has_ended row.did ≡ false

    quiet-goes : (row : Row) → row.point ≡ None
        → ((new : Option TracedLwp) → told_of picks (event_of p l new row.did) ≡ None) → GoesWithPoint row
    quiet-goes row none logs = record {
      unpicked = λ new off. logs new;
      ends_nothing = λ pt is. absurd (none-some pt (sym none ∙ is));
      not_ended = λ pt is. absurd (none-some pt (sym none ∙ is));
    }

    point-goes : (row : Row) (pt : Point) → row.point ≡ Some pt → row.transition.ending ≡ None
        → has_ended row.did ≡ false
        → ((new : Option TracedLwp) → is_traced p.control pt ≡ false → told_of picks (event_of p l new row.did) ≡ None)
        → GoesWithPoint row
    point-goes row pt is ending lives logs = record {
      unpicked = λ new off. logs new (ap (meets p.control) (sym is) ∙ off);
      ends_nothing = λ other also. ending;
      not_ended = λ other also. lives;
    }

    either-goes : (b : Bool) (x y : Row) → GoesWithPoint x → GoesWithPoint y → GoesWithPoint (cond b x y)
    either-goes true x y one other = one
    either-goes false x y one other = other

    -- ---- calls

    finished-lives : (woken : Bool) (c : Sysno) (r : Res) → is_result r ≡ true → has_ended (finished woken c r) ≡ false
    finished-lives true c (Value v) is = refl
    finished-lives true c (Error e) is = refl
    finished-lives true c Ended is = cc
    finished-lives false c (Value v) is = refl
    finished-lives false c (Error e) is = refl
    finished-lives false c Ended is = cc

    finished-unpicked : (new : Option TracedLwp) (woken : Bool) (c : Sysno) (r : Res) → is_result r ≡ true
        → is_traced p.control (point.Exit c) ≡ false → told_of picks (event_of p l new (finished woken c r)) ≡ None
    unfolding event_of told
    finished-unpicked new true c (Value v) is off = exit-unpicked c _ (Ok v) off
    finished-unpicked new true c (Error e) is off = exit-unpicked c _ (Err e) off
    finished-unpicked new true c Ended is off = refl
    finished-unpicked new false c (Value v) is off = exit-unpicked c _ (Ok v) off
    finished-unpicked new false c (Error e) is off = exit-unpicked c _ (Err e) off
    finished-unpicked new false c Ended is off = refl

    exit-goes : (woken : Bool) (c : Sysno) (r : Res) (row : Row) → row.did ≡ finished woken c r
        → row.point ≡ Some (point.Exit c) → row.transition.ending ≡ None → is_result r ≡ true → GoesWithPoint row
    exit-goes woken c r row is at ending result =
        point-goes row (point.Exit c) at ending (ap has_ended is
        ∙ finished-lives woken c r result) (λ new off. ap (λ d. told_of picks (event_of p l new d)) is
        ∙ finished-unpicked new woken c r result off)

    interrupted-goes : (woken : Bool) (c : Sysno) (args : List ℕ) → GoesWithPoint (interrupted_row woken c args)
    unfolding interrupted_row interrupted
    interrupted-goes woken c args = exit-goes woken c (Error Intr) (interrupted_row woken c args) refl refl refl refl

    -- a call that ends its lwp or its process is told as it is entered alone
    gone-unpicked : (new : Option TracedLwp) (woken : Bool) (c : Sysno)
        → told_of picks (event_of p l new (finished woken c Ended)) ≡ None
    unfolding event_of told
    gone-unpicked new true c = refl
    gone-unpicked new false c = refl

    performed-goes : (woken : Bool) (c : Sysno) (args : List ℕ) (since : ℕ) (effect : Effect) → IsAnswered effect
        → GoesWithPoint (performed_row woken c args since effect)
    unfolding performed_row performed event_of
    performed-goes woken c args since (does (Value v) changes) is =
        exit-goes woken c (Value v) (performed_row woken c args since (does (Value v) changes)) refl refl refl refl
    performed-goes woken c args since (does (Error e) changes) is =
        exit-goes woken c (Error e) (performed_row woken c args since (does (Error e) changes)) refl refl refl refl
    performed-goes woken c args since (does Ended changes) is = absurd (false≢true is)
    performed-goes woken c args since sleeps is =
        quiet-goes (performed_row woken c args since sleeps) refl (λ new. refl)
    performed-goes woken c args since (ends how) is =
        quiet-goes (performed_row woken c args since (ends how)) refl (λ new. gone-unpicked new woken c)

    -- ---- signals and faults

    took-goes : (g : Sig) (row : Row) → row.did ≡ did.Took g → row.point ≡ Some (point.Signal g)
        → row.transition.ending ≡ None → (signal_number g == signal_number Kill) ≡ false → GoesWithPoint row
    unfolding event_of told
    took-goes g row is at ending not_kill =
        point-goes row (point.Signal g) at ending (ap has_ended is)
        (λ new off. ap (λ d. told_of picks (event_of p l new d)) is ∙ signal-unpicked g _ _ not_kill off)

    fault-goes : (f : Flt) (row : Row) → row.did ≡ did.Faulted f → row.point ≡ Some (point.Fault f)
        → row.transition.ending ≡ None → GoesWithPoint row
    unfolding event_of told
    fault-goes f row is at ending =
        point-goes row (point.Fault f) at ending (ap has_ended is)
        (λ new off. ap (λ d. told_of picks (event_of p l new d)) is ∙ fault-unpicked f _ off)

    -- ---- instructions

    entered-goes : (c : Sysno) (regs : List ℕ) → GoesWithPoint (entered_row c regs)
    unfolding entered_row entered event_of told
    entered-goes c regs =
        point-goes (entered_row c regs) (point.Entry c) refl refl refl
        (λ new off. entry-unpicked c (arguments l.regs) off)

    ran-goes : (regs : List ℕ) (store : Option Store) → GoesWithPoint (ran_row p l regs store)
    unfolding ran_row trapped event_of
    ran-goes regs store =
        let traps : Row =
        instruction_row (did.Faulted Trace) (Some (point.Fault Trace))
        (trapped Trace (pc_of regs) p.space regs store) in
        let goes : Row = instruction_row did.Ran None (ran p.space regs store) in
        either-goes l.control.step traps goes (fault-goes Trace traps refl refl refl)
        (quiet-goes goes refl (λ new. refl))

    executed-goes : (e : InstructionEffect) → GoesWithPoint (executed_row p l e)
    unfolding executed_row watched_row incurred_row trapped incurred
    executed-goes (runs regs store) = ran-goes regs store
    executed-goes (calls c regs) = entered-goes c regs
    executed-goes (faults f address) = fault-goes f (incurred_row f address) refl refl refl
    executed-goes (runs_into_watch address regs store) =
        fault-goes Watch (watched_row address p regs store) refl refl refl

    returned-goes : (c : Sysno) → GoesWithPoint (returned_row p l c)
    unfolding returned_row trapped event_of
    returned-goes c =
        let traps : Row =
        point_row (did.Faulted Trace) (point.Fault Trace) (trapped Trace (pc_of l.regs) p.space l.regs None) in
        let goes : Row = quiet_row (did.Returned c) returned in
        either-goes l.control.step traps goes (fault-goes Trace traps refl refl refl)
        (quiet-goes goes refl (λ new. refl))

    -- ---- the table

    module _ (own_spares : SparesKill l.pending) (spares : SparesKill p.pending) (s : TracedSystem) (pid id : ℕ) where
      kind-goes : (row : Row) → RowKind s pid p id l row → GoesWithPoint row
      unfolding requested_row posted_row handler_row own_taken_row shared_taken_row own_taken shared_taken own_takeable
          shared_takeable event_of
      kind-goes row (kind.takes_own {g = g} none mine) =
          took-goes g (own_taken_row l g) refl refl refl (not-kill l.pending l.held g own_spares mine)
      kind-goes row (kind.takes_shared {g = g} none own ours) =
          took-goes g (shared_taken_row p g) refl refl refl (not-kill p.pending l.held g spares ours)
      kind-goes row (kind.interrupts {woken = woken} {call = c} {args = args} it why) = interrupted-goes woken c args
      kind-goes row (kind.performs {woken = woken} {call = c} {args = args} {since = since} it goes none) =
          performed-goes woken c args since (call_effect s pid p id l since c args)
          (call-answered s pid p id l since c args)
      kind-goes row (kind.returns {call = c} at none) = returned-goes c
      kind-goes row (kind.executes at none) = executed-goes (instruction_effect p.space p.control.areas l.regs)
      kind-goes row _ = quiet-goes row refl (λ new. refl)

      pub row-goes : GoesWithPoint (row_for s pid p id l)
      row-goes = kind-goes (row_for s pid p id l) (row-kind s pid p id l)

-- ---- the turn

-- an lwp of a fit system, and its process, for which SIGKILL does not pend
pub fit-process : (s : TracedSystem) (pid : ℕ) (p : TracedProcess) → IsFitSystem s → live_process s pid ≡ Some p
    → IsFitProcess p
fit-process s pid p fit live =
    All-under (λ (e : ℕ × TracedProcess). IsFitProcess e.1) pid p s.processes fit.processes (found-live s pid p live).0

pub fit-lwp : (p : TracedProcess) (id : ℕ) (l : TracedLwp) → IsFitProcess p → lwp_of p id ≡ Some l → IsFitLwp l
fit-lwp p id l fit there = All-under (λ (e : ℕ × TracedLwp). IsFitLwp e.1) id l p.lwps fit.lwps there

-- the row of the turn of such an lwp, in a process that truss traces
pub fit-row : (s : TracedSystem) (pid id : ℕ) (p : TracedProcess) (l : TracedLwp) (picks : Event → Bool)
    (stops : StopsAtPicked p.control picks) → IsFitSystem s → live_process s pid ≡ Some p → lwp_of p id ≡ Some l
    → GoesWithPoint p picks stops l (row_for s pid p id l)
fit-row s pid id p l picks stops fit live there =
    let own = fit-process s pid p fit live in
    let lwp = fit-lwp p id l own there in
    row-goes p picks stops l lwp.pending own.pending s pid id

-- A turn in which its lwp did not stop on what it met logs nothing that is picked.
pub picked-is-traced : (picks : Event → Bool) (s : TracedState) (pid id : ℕ) (p : TracedProcess)
    (stops : StopsAtPicked p.control picks) (t : LwpTurn) → IsFitSystem s.system → live_process s.system pid ≡ Some p
    → turn_of s.system pid id ≡ Some t → t.turned.stop ≡ false
    → picked picks pid (events_of s (record { actor = Lwp pid id; act = Turn t.turned })) ≡ []
unfolding settled
picked-is-traced picks s pid id p stops t fit live turn stop =
    let it = turn-taken s.system pid id t turn in
    let same : it.process ≡ p = same_Some it.process p (sym it.live ∙ live) in
    let there : lwp_of p id ≡ Some it.lwp = subst (λ (y : TracedProcess). lwp_of y id ≡ Some it.lwp) same it.there in
    let is : t ≡ settled s.system pid p id it.lwp (row_for s.system pid p id it.lwp) =
    it.is ∙ ap (λ (y : TracedProcess). settled s.system pid y id it.lwp (row_for s.system pid y id it.lwp)) same in
    let goes = fit-row s.system pid id p it.lwp picks stops fit live there in
    let new : Option TracedLwp =
    lwp_alone (lwp_in_state (after s (record { actor = Lwp pid id; act = Turn t.turned })) pid id) in
    turn-picks picks s pid id p it.lwp live there t.turned
    ∙ ap (λ (v : LwpTurn). listed id (told_of picks (event_of p it.lwp new v.turned.did))) is
    ∙ ap (listed id) (goes.unpicked new (ap (λ (v : LwpTurn). v.turned.stop) (sym is) ∙ stop))
