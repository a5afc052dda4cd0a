use Rattle.std.proofs.Common.{◌≡◌, ℕ, Bool, true, false, cond, None, Some, Option, List, ◌∷◌, length, Result, Ok, Err, refl, sym, subst, ap, ◌∙◌, []}
use Rattle.std.proofs.lemmas.Bool.{false≢true, eq-eqb}
use Rattle.std.proofs.lemmas.Option.{same_Some, none-some}
use Rattle.std.specs.Option.{option_map}
use Rattle.pr_line.specs.Events.{event_of as event_shown, named_call}
use Rattle.pr_line.specs.declared.events.Event.TheVariants.{Entered, Left, Received, Incurred}
use Rattle.pr_num.proofs.EntryLemmas.{fault_of_number-number, signal_of_number-number}
use Rattle.pr_num.specs.Instructions.{instruction_in}
use Rattle.pr_num.specs.Control.{prot_exec, prot_read, prot_write, watch_exec, watch_read, watch_write}
use Rattle.pr_num.specs.Spaces.{Space, bytes_for}
use Rattle.pr_parts.specs.WatchedAreas.{hit_in}
use Rattle.pr_num.specs.declared.errnos.Errno.TheVariants.{Intr}
use Rattle.pr_num.specs.declared.faults.Flt.{Flt}
use Rattle.pr_num.specs.declared.faults.Flt.TheVariants.{Trace, Watch}
use Rattle.pr_num.specs.declared.instructions.Instruction.{Instruction}
use Rattle.pr_num.specs.declared.mappings.Area.{Area}
use Rattle.pr_num.specs.declared.mappings.BadByte.{BadByte}
use Rattle.pr_num.specs.declared.mappings.BadByte.TheVariants.{Hole, NotAllowed}
use Rattle.pr_num.specs.Syscalls.{syscall_number}
use Rattle.pr_rec.specs.Fields.{disposition_of as class_of}
use Rattle.pr_keeps.specs.RowKinds as kind
use Rattle.pr_keeps.specs.RowKinds.{IsInCall, RowKind}
use Rattle.pr_keeps.proofs.RowLemmas.{row-kind}
use Rattle.pr_model.specs.Signals.{current_of, disposition_of}
use Rattle.pr_model.specs.declared.events.Res.{Res}
use Rattle.pr_model.specs.declared.events.Res.TheVariants.{Value, Error, Ended}
use Rattle.pr_model.specs.declared.lwps.Current.{Current}
use Rattle.pr_model.specs.declared.lwps.Phase.TheVariants as phase
use Rattle.pr_model.specs.declared.stops.Stop.TheVariants as stop
use Rattle.pr_num.specs.declared.signals.Sig.{Sig}
use Rattle.pr_num.specs.declared.syscalls.Sysno.{Sysno}
use Rattle.pr_model.specs.Events.{entry, event_of, exit, fault, signal}
use Rattle.pr_model.specs.InstructionEffects.{InstructionEffect, access_fault, calls, faults, instruction_effect, runs, runs_into_watch, trapped_after, unless_watched, load_effect, store_effect, executed, of_instruction, of_fetch, unless_exec_watched, decoded, Decoded, faults_itself, enters_call, leaves, loads, stores, Store, Load, is_stack_load, loaded}
use Rattle.pr_model.specs.CallEffects.{call_effect}
use Rattle.pr_model.specs.Changes.{Change, takes_shared, Effect, does, sleeps, ends}
use Rattle.pr_model.specs.Machines.{traced}
use Rattle.pr_model.specs.Moves.{Move, moved}
use Rattle.pr_model.specs.Moves as move
use Rattle.pr_model.specs.Points.{stop_at}
use Rattle.pr_model.specs.Rows.{Row, handler_row, posted_row, requested_row, row_for, entered_row, executed_row, finished, incurred_row, instruction_row, interrupted_row, own_taken_row, performed_row, point_row, quiet_row, ran_row, returned_row, shared_taken_row, watched_row}
use Rattle.pr_model.specs.Transitions.{entered, incurred, interrupted, own_taken, performed, ran, returned, shared_taken, trapped}
use Rattle.pr_model.specs.declared.events.Did.TheVariants.{Faulted, Ran, Returned, Took}
use Rattle.pr_model.specs.declared.stops.Point.{Point}
use Rattle.pr_model.specs.declared.stops.Point.TheVariants.{Signal, Fault, Entry, Exit}
use Rattle.pr_model.specs.Registers.{address_at, arguments, moved_on, pc_of, with_pc}
use Rattle.pr_model.specs.State.{TracedLwp, TracedProcess, TracedSystem}
use Rattle.pr_model.specs.Statuses.{arguments_in, call_in, disposition_in, errno_in, result_in, info_in, lwpstatus_of, reason_shown, what_shown}
use Rattle.pr_model.specs.Stops.{shown}
use Rattle.pr_truss_laws.specs.Told.{TellsItsEvent, has_ended, result_told, told}

-- The status of an lwp right after the turn in which it stopped on an event tells that event.

-- ---- an instruction that comes to a call leaves the arguments

arguments-pc : (regs : List ℕ) (pc : ℕ) → arguments (with_pc pc regs) ≡ arguments regs
arguments-pc [] pc = refl
arguments-pc (a ∷ []) pc = refl
arguments-pc (a ∷ b ∷ []) pc = refl
arguments-pc (a ∷ b ∷ c ∷ []) pc = refl
arguments-pc (a ∷ b ∷ c ∷ d ∷ []) pc = refl
arguments-pc (a ∷ b ∷ c ∷ d ∷ e ∷ []) pc = refl
arguments-pc (a ∷ b ∷ c ∷ d ∷ e ∷ f ∷ []) pc = refl
arguments-pc (a ∷ b ∷ c ∷ d ∷ e ∷ f ∷ g ∷ rest) pc = refl

-- an effect that comes to a call moves pc on, and else leaves the registers
abbrev pub MovesOn : List ℕ → InstructionEffect → Type 0
MovesOn regs (calls call new) = new ≡ moved_on regs
MovesOn regs _ = Unit {0}

module _ (regs : List ℕ) where
  fault-on : (stack : Bool) (bad : BadByte) → MovesOn regs (access_fault stack bad)
  fault-on true (Hole address) = tt
  fault-on true (NotAllowed address) = tt
  fault-on false (Hole address) = tt
  fault-on false (NotAllowed address) = tt

  trapped-on : (exec data_hit : Option ℕ) (new : List ℕ) (store : Option Store)
      → MovesOn regs (trapped_after exec data_hit new store)
  trapped-on (Some address) data_hit new store = tt
  trapped-on None (Some address) new store = tt
  trapped-on None None new store = tt

  watched-on : (exec : Option ℕ) (hit : Option (ℕ × Bool)) (new : List ℕ) (store : Option Store)
      → MovesOn regs (unless_watched exec hit new store)
  watched-on exec None new store = trapped-on exec None new store
  watched-on exec (Some h) new store = by h.1 refl
    where
      by : (b : Bool) → h.1 ≡ b → MovesOn regs (unless_watched exec (Some h) new store)
      by true is = rw is (trapped-on exec (Some h.0) new store)
      by false is = rw is tt

  module _ (space : Space) (areas : List Area) where
    load-on : (exec : Option ℕ) (load : Load) (at size : ℕ)
        → MovesOn regs (load_effect space areas exec regs load at size)
    unfolding load_effect
    load-on exec load at size = by (bytes_for prot_read space at size) refl
      where
        by : (r : Result (List ℕ) BadByte) → bytes_for prot_read space at size ≡ r
            → MovesOn regs (load_effect space areas exec regs load at size)
        by (Err bad) is = rw is (fault-on (is_stack_load load) bad)
        by (Ok bytes) is = rw is (watched-on exec (hit_in watch_read areas at size) (loaded load regs bytes) None)

    store-on : (exec : Option ℕ) (stack : Bool) (new : List ℕ) (store : Store)
        → MovesOn regs (store_effect space areas exec stack new store)
    unfolding store_effect
    store-on exec stack new store = by (bytes_for prot_write space store.at (length store.bytes)) refl
      where
        by : (r : Result (List ℕ) BadByte) → bytes_for prot_write space store.at (length store.bytes) ≡ r
            → MovesOn regs (store_effect space areas exec stack new store)
        by (Err bad) is = rw is (fault-on stack bad)
        by (Ok old) is =
            rw is (watched-on exec (hit_in watch_write areas store.at (length store.bytes)) new (Some store))

    executed-on : (exec : Option ℕ) (d : Decoded) → MovesOn regs (executed space areas exec regs d)
    unfolding executed
    executed-on exec (faults_itself f) = tt
    executed-on exec (enters_call call) = refl
    executed-on exec (leaves new) = trapped-on exec None new None
    executed-on exec (loads load at size) = load-on exec load at size
    executed-on exec (stores stack new store) = store-on exec stack new store

    instruction-on : (exec : Option ℕ) (i : Option Instruction) → MovesOn regs (of_instruction space areas exec regs i)
    instruction-on exec None = tt
    instruction-on exec (Some i) = executed-on exec (decoded i regs)

    fetched-on : (hit : Option (ℕ × Bool)) (bytes : List ℕ)
        → MovesOn regs (unless_exec_watched space areas hit regs bytes)
    fetched-on None bytes = instruction-on None (instruction_in bytes)
    fetched-on (Some h) bytes = by h.1 refl
      where
        by : (b : Bool) → h.1 ≡ b → MovesOn regs (unless_exec_watched space areas (Some h) regs bytes)
        by true is = rw is (instruction-on (Some h.0) (instruction_in bytes))
        by false is = rw is tt

    fetch-on : (r : Result (List ℕ) BadByte) → MovesOn regs (of_fetch space areas regs r)
    fetch-on (Err bad) = fault-on false bad
    fetch-on (Ok bytes) = fetched-on (hit_in watch_exec areas (pc_of regs) 16) bytes

    effect-on : MovesOn regs (instruction_effect space areas regs)
    unfolding instruction_effect
    effect-on = fetch-on (bytes_for prot_exec space (pc_of regs) 16)

-- ---- what a status tells, a lemma a kind of stop

abbrev pub is_result : Res → Bool
is_result Ended = false
is_result _ = true

module _ (q : TracedProcess) (id : ℕ) (k : TracedLwp) where
  named : (call : Sysno) → named_call (syscall_number call) call ≡ Some call
  named call = ap (λ b. cond b (Some call) None) (eq-eqb (syscall_number call) (syscall_number call) refl)

  entry-told : (call : Sysno) → k.control.stop ≡ Some (stop.SysEntry call) → k.phase ≡ phase.Entered call
      → event_shown (lwpstatus_of q id k) ≡ Some (Entered call (arguments k.regs))
  unfolding event_shown lwpstatus_of shown reason_shown what_shown call_in arguments_in
  entry-told call stops at = rw (stops, at) (ap (option_map (λ c. Entered c (arguments k.regs))) (named call))

  pub exit-told : (call : Sysno) (args : List ℕ) (result : Res) → k.control.stop ≡ Some (stop.SysExit call)
      → k.phase ≡ phase.Exiting call args result → is_result result ≡ true
      → event_shown (lwpstatus_of q id k) ≡ option_map (Left call args) (result_told result)
  unfolding event_shown lwpstatus_of shown reason_shown what_shown call_in arguments_in result_in errno_in
  exit-told call args (Value v) stops at is = rw (stops, at) (ap (option_map (λ c. Left c args (Ok v))) (named call))
  exit-told call args (Error e) stops at is = rw (stops, at) (ap (option_map (λ c. Left c args (Err e))) (named call))
  exit-told call args Ended stops at is = cc

  signal-told : (g : Sig) (c : Current) → k.control.stop ≡ Some (stop.Signalled g) → k.current ≡ Some c
      → event_shown (lwpstatus_of q id k) ≡ Some (Received g (class_of (disposition_of q.dispositions c.signal)) c.info)
  unfolding event_shown lwpstatus_of shown reason_shown what_shown disposition_in info_in
  signal-told g c stops at =
      rw (stops, at)
      (ap (option_map (λ (x : Sig). Received x (class_of (disposition_of q.dispositions c.signal)) c.info))
      (signal_of_number-number g))

  fault-told : (f : Flt) → k.control.stop ≡ Some (stop.Faulted f)
      → event_shown (lwpstatus_of q id k) ≡ Some (Incurred f (pc_of k.regs))
  unfolding event_shown lwpstatus_of shown reason_shown what_shown
  fault-told f stops = rw stops (ap (option_map (λ (x : Flt). Incurred x (pc_of k.regs))) (fault_of_number-number f))

-- ---- the row of a turn

-- what the lwp is after its move, whatever else became of it
pub record MoveShows (m : Move) (y k : TracedLwp) : Type 0 where
  pub phase_is : k.phase ≡ (moved traced m y).phase
  pub regs_are : k.regs ≡ (moved traced m y).regs
  pub current_is : k.current ≡ (moved traced m y).current

-- changes that leave the dispositions, as those of a turn that takes a signal do
abbrev pub KeepsDispositions : List Change → TracedProcess → TracedProcess → Type 0
KeepsDispositions [] p q = q.dispositions ≡ p.dispositions
KeepsDispositions (takes_shared g ∷ []) p q = q.dispositions ≡ p.dispositions
KeepsDispositions _ p q = Unit {0}

module _ (p : TracedProcess) (l : TracedLwp) where
  abbrev pub TellsRow : Row → Type 0
  TellsRow row =
      (pt : Point) (y k : TracedLwp) (q : TracedProcess) (id : ℕ) → row.point ≡ Some pt
      → MoveShows row.transition.move y k → k.control.stop ≡ Some (stop_at pt)
      → KeepsDispositions row.transition.changes p q → has_ended row.did ≡ false
      → (row.transition.ending ≡ None) × TellsItsEvent p l row.did q id k

  quiet-tells : (row : Row) → row.point ≡ None → TellsRow row
  quiet-tells row none pt y k q id is f stops kept lives = absurd (none-some pt (sym none ∙ is))

  -- the stop of the point that a row met
  met-stop : (own pt : Point) (k : TracedLwp) → Some own ≡ Some pt → k.control.stop ≡ Some (stop_at pt)
      → k.control.stop ≡ Some (stop_at own)
  met-stop own pt k is stops = stops ∙ ap (λ x. Some (stop_at x)) (sym (same_Some own pt is))

  finished-logs : (woken : Bool) (call : Sysno) (args : List ℕ) (result : Res) (k : TracedLwp)
      → arguments_in l.regs l.phase ≡ args → is_result result ≡ true
      → event_of p l (Some k) (finished woken call result) ≡ Some (exit call args result)
  unfolding event_of
  finished-logs true call args (Value v) k same is = ap (λ a. Some (exit call a (Value v))) same
  finished-logs true call args (Error e) k same is = ap (λ a. Some (exit call a (Error e))) same
  finished-logs true call args Ended k same is = cc
  finished-logs false call args (Value v) k same is = ap (λ a. Some (exit call a (Value v))) same
  finished-logs false call args (Error e) k same is = ap (λ a. Some (exit call a (Error e))) same
  finished-logs false call args Ended k same is = cc

  told-exit : (call : Sysno) (args : List ℕ) (result : Res)
      → told (exit call args result) ≡ option_map (Left call args) (result_told result)
  unfolding told
  told-exit call args result = refl

  left-phase : (call : Sysno) (args : List ℕ) (result : Res) (y k : TracedLwp)
      → MoveShows (move.leaves call args result) y k → k.phase ≡ phase.Exiting call args result
  unfolding moved traced
  left-phase call args result y k f = f.phase_is

  exit-tells : (woken : Bool) (call : Sysno) (args : List ℕ) (result : Res) (row : Row)
      → row.did ≡ finished woken call result → row.point ≡ Some (Exit call)
      → row.transition.move ≡ move.leaves call args result → row.transition.ending ≡ None
      → arguments_in l.regs l.phase ≡ args → is_result result ≡ true → TellsRow row
  exit-tells woken call args result row did point move ending same is pt y k q id met f stops kept lives = (
    ending,
    record {
      event = exit call args result;
      logged = ap (event_of p l (Some k)) did ∙ finished-logs woken call args result k same is;
      tells =
          exit-told q id k call args result (met-stop (Exit call) pt k (sym point
          ∙ met) stops) (left-phase call args result y k (subst (λ m. MoveShows m y k) move f)) is
          ∙ sym (told-exit call args result);
    },
  )

  interrupted-tells : (woken : Bool) (call : Sysno) (args : List ℕ) → arguments_in l.regs l.phase ≡ args
      → TellsRow (interrupted_row woken call args)
  unfolding interrupted_row interrupted
  interrupted-tells woken call args same =
      exit-tells woken call args (Error Intr) (interrupted_row woken call args) refl refl refl refl same refl

  ended-finished : (woken : Bool) (call : Sysno) → has_ended (finished woken call Ended) ≡ true
  ended-finished true call = refl
  ended-finished false call = refl

  performed-tells : (woken : Bool) (call : Sysno) (args : List ℕ) (since : ℕ) (effect : Effect)
      → arguments_in l.regs l.phase ≡ args → TellsRow (performed_row woken call args since effect)
  unfolding performed_row performed
  performed-tells woken call args since (does (Value v) changes) same =
      exit-tells woken call args (Value v)
      (performed_row woken call args since (does (Value v) changes)) refl refl refl refl same refl
  performed-tells woken call args since (does (Error e) changes) same =
      exit-tells woken call args (Error e)
      (performed_row woken call args since (does (Error e) changes)) refl refl refl refl same refl
  performed-tells woken call args since (does Ended changes) same =
      λ pt y k q id met f stops kept lives. absurd (false≢true (sym lives ∙ ended-finished woken call))
  performed-tells woken call args since sleeps same = quiet-tells (performed_row woken call args since sleeps) refl
  performed-tells woken call args since (ends how) same =
      quiet-tells (performed_row woken call args since (ends how)) refl

  -- ---- signals

  took-tells : (g : Sig) (c : Current) (own : Bool) (row : Row) → c.signal ≡ g → row.did ≡ Took g
      → row.point ≡ Some (Signal g) → row.transition.move ≡ move.takes c own → row.transition.ending ≡ None
      → ((x : TracedProcess) → KeepsDispositions row.transition.changes p x → x.dispositions ≡ p.dispositions)
      → TellsRow row
  unfolding event_of told moved info_in
  took-tells g c own row sig did point takes ending keeps pt y k q id met f stops kept lives =
      let holds : k.current ≡ Some c = (subst (λ m. MoveShows m y k) takes f).current_is in
      let same : q.dispositions ≡ p.dispositions = keeps q kept in (
        ending,
        record {
          event = signal g (disposition_of p.dispositions g) c.info;
          logged =
              ap (event_of p l (Some k)) did
              ∙ ap (λ o. Some (signal g (disposition_of p.dispositions g) (info_in o))) holds;
          tells =
              signal-told q id k g c (met-stop (Signal g) pt k (sym point ∙ met) stops) holds
              ∙ ap (λ d. Some (Received g (class_of (disposition_of d c.signal)) c.info)) same
              ∙ ap (λ x. Some (Received g (class_of (disposition_of p.dispositions x)) c.info)) sig;
        },
      )

  own-tells : (g : Sig) → TellsRow (own_taken_row l g)
  unfolding own_taken_row own_taken
  own-tells g =
      took-tells g (current_of g l.pending) true (own_taken_row l g) refl refl refl refl refl (λ x keeps. keeps)

  shared-tells : (g : Sig) → TellsRow (shared_taken_row p g)
  unfolding shared_taken_row shared_taken
  shared-tells g =
      took-tells g (current_of g p.pending) false (shared_taken_row p g) refl refl refl refl refl (λ x keeps. keeps)

  -- ---- faults

  fault-tells : (f : Flt) (row : Row) → row.did ≡ Faulted f → row.point ≡ Some (Fault f) → row.transition.ending ≡ None
      → TellsRow row
  unfolding event_of told
  fault-tells f row did point ending pt y k q id met fol stops kept lives = (
    ending,
    record {
      event = fault f (pc_of k.regs);
      logged = ap (event_of p l (Some k)) did;
      tells = fault-told q id k f (met-stop (Fault f) pt k (sym point ∙ met) stops);
    },
  )

  -- ---- instructions

  entered-tells : (call : Sysno) (regs : List ℕ) → regs ≡ moved_on l.regs → TellsRow (entered_row call regs)
  unfolding entered_row entered event_of told moved traced moved_on
  entered-tells call regs on pt y k q id met f stops kept lives =
      let args : arguments k.regs ≡ arguments l.regs =
      ap arguments f.regs_are ∙ ap arguments on ∙ arguments-pc l.regs (address_at (pc_of l.regs) 16) in (
        refl,
        record {
          event = entry call (arguments l.regs);
          logged = refl;
          tells =
              entry-told q id k call (met-stop (Entry call) pt k met stops) f.phase_is
              ∙ ap (λ a. Some (Entered call a)) args;
        },
      )

  either-tells : (b : Bool) (x y : Row) → TellsRow x → TellsRow y → TellsRow (cond b x y)
  either-tells true x y one other = one
  either-tells false x y one other = other

  ran-tells : (regs : List ℕ) (store : Option Store) → TellsRow (ran_row p l regs store)
  unfolding ran_row trapped
  ran-tells regs store =
      let traps : Row =
      instruction_row (Faulted Trace) (Some (Fault Trace)) (trapped Trace (pc_of regs) p.space regs store) in
      let goes : Row = instruction_row Ran None (ran p.space regs store) in
      either-tells l.control.step traps goes (fault-tells Trace traps refl refl refl) (quiet-tells goes refl)

  executed-tells : (e : InstructionEffect) → MovesOn l.regs e → TellsRow (executed_row p l e)
  unfolding executed_row watched_row incurred_row trapped incurred
  executed-tells (runs regs store) on = ran-tells regs store
  executed-tells (calls call regs) on = entered-tells call regs on
  executed-tells (faults f address) on = fault-tells f (incurred_row f address) refl refl refl
  executed-tells (runs_into_watch address regs store) on =
      fault-tells Watch (watched_row address p regs store) refl refl refl

  returned-tells : (call : Sysno) → TellsRow (returned_row p l call)
  unfolding returned_row trapped
  returned-tells call =
      let traps : Row = point_row (Faulted Trace) (Fault Trace) (trapped Trace (pc_of l.regs) p.space l.regs None) in
      let goes : Row = quiet_row (Returned call) returned in
      either-tells l.control.step traps goes (fault-tells Trace traps refl refl refl) (quiet-tells goes refl)

  -- ---- the table

  module _ (s : TracedSystem) (pid id : ℕ) where
    in_call-arguments : (woken : Bool) (call : Sysno) (args : List ℕ) (since : ℕ) → IsInCall s l woken call args since
        → arguments_in l.regs l.phase ≡ args
    unfolding arguments_in
    in_call-arguments woken call args since (kind.at_it at) = ap (arguments_in l.regs) at
    in_call-arguments woken call args since (kind.asleep_in_it at) = ap (arguments_in l.regs) at

    kind-tells : (row : Row) → RowKind s pid p id l row → TellsRow row
    unfolding requested_row posted_row handler_row
    kind-tells row (kind.takes_own {g = g} none is) = own-tells g
    kind-tells row (kind.takes_shared {g = g} none own is) = shared-tells g
    kind-tells row (kind.interrupts {woken = woken} {call = call} {args = args} {since = since} it why) =
        interrupted-tells woken call args (in_call-arguments woken call args since it)
    kind-tells row (kind.performs {woken = woken} {call = call} {args = args} {since = since} it goes none) =
        performed-tells woken call args since (call_effect s pid p id l since call args)
        (in_call-arguments woken call args since it)
    kind-tells row (kind.returns {call = call} at none) = returned-tells call
    kind-tells row (kind.executes at none) =
        executed-tells (instruction_effect p.space p.control.areas l.regs) (effect-on l.regs p.space p.control.areas)
    kind-tells row _ = quiet-tells row refl

    pub row-tells : TellsRow (row_for s pid p id l)
    row-tells = kind-tells (row_for s pid p id l) (row-kind s pid p id l)
