use Rattle.std.proofs.Common.{◌≡◌, ◌-◌, ℕ, Bool, true, false, eqb, ltb, length, set, Option, Some, None, List, ◌∷◌, subst, arith, []}
use Rattle.std.specs.List.{All}
use Rattle.std.proofs.lemmas.List.Elements.{All-append, All-cons, All-nil}
use Rattle.pr_num.proofs.NumberedLemmas.{signal_number-range}
use Rattle.pr_num.proofs.SetLemmas.{with_number-lt}
use Rattle.pr_num.specs.Faults.{fault_signal}
use Rattle.pr_num.specs.Infos.{of_fault}
use Rattle.pr_num.specs.Limits.{frame_limit, signal_count}
use Rattle.pr_num.specs.Signals.{default_action, signal_number}
use Rattle.pr_num.specs.Words.{IsWord}
use Rattle.pr_num.specs.declared.errnos.Errno.TheVariants.{Intr}
use Rattle.pr_num.specs.declared.faults.Flt.{Flt}
use Rattle.pr_num.specs.declared.faults.Flt.TheVariants.{Trace, Watch}
use Rattle.pr_num.specs.declared.signals.DefAct.{DefAct}
use Rattle.pr_num.specs.declared.signals.DefAct.TheVariants as default
use Rattle.pr_num.specs.declared.signals.Sig.{Sig}
use Rattle.pr_num.specs.declared.signals.Sig.TheVariants.{Segv}
use Rattle.pr_num.specs.declared.syscalls.Sysno.{Sysno}
use Rattle.pr_parts.specs.AddressSpaces.{with_bytes}
use Rattle.pr_parts.specs.PendingSignals.{without_one}
use Rattle.pr_parts.specs.SignalRules.{action_of, by_default}
use Rattle.pr_parts.specs.declared.actions.Action.{Action}
use Rattle.pr_parts.specs.declared.actions.Action.TheVariants as act
use Rattle.pr_rec.specs.InRange.{IsInfo}
use Rattle.pr_lawful.proofs.LawfulTurns.EffectLemmas.{IsActing, own-lwp}
use Rattle.pr_lawful.proofs.ProcessParts.FileLemmas.{choice}
use Rattle.pr_keeps.specs.RowKinds as kind
use Rattle.pr_keeps.specs.RowKinds.{IsInCall, RowKind}
use Rattle.pr_keeps.proofs.RowLemmas.{row-kind}
use Rattle.pr_model.specs.CallEffects.{call_effect}
use Rattle.pr_model.specs.Changes as change
use Rattle.pr_model.specs.Changes.{Change, Effect, Ending, ends_process, job_stops, space_is, takes_shared}
use Rattle.pr_model.specs.InstructionEffects as instruction
use Rattle.pr_model.specs.InstructionEffects.{InstructionEffect, Store, instruction_effect}
use Rattle.pr_model.specs.Lawful.{IsLawfulCurrent}
use Rattle.pr_model.specs.Machines.{call_over, fault_incurred, fault_posted, step_taken, stopped_as_directed, traced}
use Rattle.pr_model.specs.Moves as move
use Rattle.pr_model.specs.Moves.{Move, moved}
use Rattle.pr_model.specs.Registers.{pc_of}
use Rattle.pr_model.specs.Rows.{Row, requested_row, posted_row, returned_row, ran_row, entered_row, incurred_row, watched_row, executed_row, own_taken_row, shared_taken_row, handler_row, interrupted_row, performed_row, row_for}
use Rattle.pr_model.specs.Signals.{action_for, current_of, disposition_of, handler_held, handler_registers, with_frame}
use Rattle.pr_model.specs.State.{TracedLwp, TracedProcess, TracedSystem}
use Rattle.pr_model.specs.Transitions.{Transition, changing, died, dropped, ending, entered, handled, incurred, interrupted, job_stopped, moving, own_taken, performed, posted, ran, requested, returned, shared_taken, stored_in, trapped}
use Rattle.pr_model.specs.declared.events.Res.TheVariants.{Error}
use Rattle.pr_model.specs.declared.frames.Frame.{Frame}
use Rattle.pr_model.specs.declared.lwps.Current.{Current}
use Rattle.pr_model.specs.declared.lwps.Phase.{Phase}
use Rattle.pr_model.specs.declared.lwps.Phase.TheVariants.{User, Entered, Asleep, Faulted}
use Rattle.pr_reached.proofs.StatesInRange.CallRanges.{IsEffectInRange, acting-lwp, acting-process, call-range}
use Rattle.pr_reached.proofs.StatesInRange.ChangeRanges.{IsChangeInRange}
use Rattle.pr_reached.proofs.StatesInRange.EndRanges.{IsEndingInRange, signal-word}
use Rattle.pr_reached.proofs.StatesInRange.InstructionRanges.{IsInstructionEffect, IsStoreIf, instruction-range}
use Rattle.pr_reached.proofs.StatesInRange.MemoryRanges.{with_bytes-range}
use Rattle.pr_reached.proofs.StatesInRange.PendingRanges.{added-words, current-word, taken-words}
use Rattle.pr_reached.proofs.StatesInRange.ProcessRanges.{KeepsLwp, in_phase, with_marks}
use Rattle.pr_reached.proofs.StatesInRange.RegisterRanges.{arguments-words, register-at, registers-set, stored-registers, word_at}
use Rattle.pr_reached.specs.InRange.{AreArguments, AreRegisters, HasWord, HasWordCurrent, HaveWords, IsFrameInRange, IsInRange, IsLwpInRange, IsPhaseInRange, IsResult, IsSignalSet}

-- What a row of the turn table puts into the system and its lwp is in range: a line a row.

-- ---- moves

abbrev pub IsMoveInRange : Move → Type 0
IsMoveInRange move.stays = Unit {0}
IsMoveInRange move.stops = Unit {0}
IsMoveInRange (move.posts f address) = IsWord address
IsMoveInRange move.returns = Unit {0}
IsMoveInRange (move.runs regs) = AreRegisters regs
IsMoveInRange (move.enters call regs) = AreRegisters regs
IsMoveInRange (move.incurs f address) = IsWord address
IsMoveInRange (move.traps f address regs) = IsWord address × AreRegisters regs
IsMoveInRange (move.leaves call args result) = AreArguments args × IsResult result
IsMoveInRange (move.sleeps call args since) = AreArguments args
IsMoveInRange (move.takes c own) = HasWord c.info
IsMoveInRange move.drops = Unit {0}
IsMoveInRange (move.catches frames regs held) = All IsFrameInRange frames × AreRegisters regs × IsSignalSet held

-- an lwp with other registers in another phase
with_regs : (l : TracedLwp) (regs : List ℕ) (phase : Phase) → AreRegisters regs → IsPhaseInRange phase → IsLwpInRange l
    → IsLwpInRange (record l { regs = regs; phase = phase })
with_regs l regs phase is_regs it h = record {
  regs = is_regs;
  held = h.held;
  frames = h.frames;
  pending = h.pending;
  current = h.current;
  phase = it;
}

pub moved-range : (m : Move) → IsMoveInRange m → KeepsLwp (moved traced m)
unfolding moved traced stopped_as_directed fault_incurred fault_posted step_taken call_over
moved-range move.stays it l h = h
moved-range move.stops it l h = with_marks l _ h
moved-range (move.posts f address) it l h = record {
  regs = h.regs;
  held = h.held;
  frames = h.frames;
  pending = added-words (fault_signal f) (of_fault address) l.pending it h.pending;
  current = h.current;
  phase = tt;
}
moved-range move.returns it l h = in_phase l User tt h
moved-range (move.runs regs) it l h = record {
  regs = it;
  held = h.held;
  frames = h.frames;
  pending = h.pending;
  current = h.current;
  phase = h.phase;
}
moved-range (move.enters call regs) it l h = with_regs l regs (Entered call) it tt h
moved-range (move.incurs f address) it l h = in_phase l (Faulted f address) it h
moved-range (move.traps f address regs) it l h = record {
  regs = it.1;
  held = h.held;
  frames = h.frames;
  pending = h.pending;
  current = h.current;
  phase = it.0;
}
moved-range (move.leaves call args result) it l h = record {
  regs = stored-registers call result l.regs it.1 h.regs;
  held = h.held;
  frames = h.frames;
  pending = h.pending;
  current = h.current;
  phase = it;
}
moved-range (move.sleeps call args since) it l h = in_phase l (Asleep call args since) it h
moved-range (move.takes c own) it l h = record {
  regs = h.regs;
  held = h.held;
  frames = h.frames;
  pending =
      choice HaveWords own (without_one c.signal l.pending) l.pending
      (λ stands. taken-words c.signal l.pending h.pending) (λ shared. h.pending);
  current = it;
  phase = h.phase;
}
moved-range move.drops it l h = record {
  regs = h.regs;
  held = h.held;
  frames = h.frames;
  pending = h.pending;
  current = tt;
  phase = h.phase;
}
moved-range (move.catches frames regs held) it l h = record {
  regs = it.1;
  held = it.2;
  frames = it.0;
  pending = h.pending;
  current = tt;
  phase = tt;
}

-- ---- transitions

abbrev pub IsEndingIf : Option Ending → Type 0
IsEndingIf None = Unit {0}
IsEndingIf (Some how) = IsEndingInRange how

pub record IsTransitionInRange (t : Transition) : Type 0 where
  pub changes : All IsChangeInRange t.changes
  pub move : IsMoveInRange t.move
  pub ending : IsEndingIf t.ending

abbrev IsRowInRange : Row → Type 0
IsRowInRange row = IsTransitionInRange row.transition

moves : (m : Move) → IsMoveInRange m → IsTransitionInRange (moving m)
moves m it = record { changes = All-nil IsChangeInRange; move = it; ending = tt }

changes : (cs : List Change) (m : Move) → All IsChangeInRange cs → IsMoveInRange m → IsTransitionInRange (changing cs m)
changes cs m all it = record { changes = all; move = it; ending = tt }

ends : (how : Ending) → IsEndingInRange how → IsTransitionInRange (ending how)
ends how it = record { changes = All-nil IsChangeInRange; move = tt; ending = it }

one : (c : Change) → IsChangeInRange c → All IsChangeInRange (c ∷ [])
one c it = All-cons IsChangeInRange c [] it (All-nil IsChangeInRange)

-- ---- handlers

abbrev IsActionInRange : Action → Type 0
IsActionInRange act.Ignore = Unit {0}
IsActionInRange act.Stop = Unit {0}
IsActionInRange act.Die = Unit {0}
IsActionInRange (act.Catch handler) = IsWord handler

default-range : (d : DefAct) → IsActionInRange (by_default d)
default-range default.Die = tt
default-range default.Ignore = tt
default-range default.Stop = tt

action-range : (g : Sig) (d : ℕ) → IsWord d → IsActionInRange (action_of g d)
unfolding action_of
action-range g d fits =
    choice IsActionInRange (ltb 1 d) _ _ (λ caught. fits)
    (λ other. choice IsActionInRange (eqb d 1) _ _ (λ ignored. tt) (λ default. default-range (default_action g)))

-- what a record can hold of a signal's information is words
record IsTaken (c : Current) : Type 0 where
  info : IsInfo c.info
  value : HasWord c.info

handler-registers : (c : Current) (handler : ℕ) (regs : List ℕ) → IsTaken c → IsWord handler → AreRegisters regs
    → AreRegisters (handler_registers c handler regs)
unfolding handler_registers
handler-registers c handler regs it fits h =
    let code = it.info.code in
    let sender = it.info.pid in
    let one_set = set regs 1 (signal_number c.signal) in
    let two_set = set one_set 2 c.info.code in
    let three_set = set two_set 3 c.info.pid in
    registers-set (set three_set 4 c.info.value) 10 handler fits
    (registers-set three_set 4 c.info.value it.value
    (registers-set two_set 3 c.info.pid (omega arith)
    (registers-set one_set 2 c.info.code (omega arith)
    (registers-set regs 1 (signal_number c.signal) (signal-word c.signal) h))))

handler-held : (c : Current) (held : ℕ) → IsSignalSet held → IsSignalSet (handler_held c held)
unfolding handler_held
handler-held c held it =
    let range = signal_number-range c.signal in
    with_number-lt signal_count held (signal_number c.signal) it range.0 range.1

-- ---- the rows

module _ (s : TracedSystem) (pid : ℕ) (p : TracedProcess) (id : ℕ) (l : TracedLwp) (a : IsActing s pid p id l)
    (h : IsInRange s) where
  own-regs : AreRegisters l.regs
  own-regs = (acting-lwp s pid p id l a h).regs

  store-range : (store : Option Store) → IsStoreIf store → All IsChangeInRange (stored_in p.space store)
  unfolding stored_in
  store-range None it = All-nil IsChangeInRange
  store-range (Some store) it =
      one (space_is (with_bytes store.at store.bytes p.space))
      (with_bytes-range store.at store.bytes it.bytes p.space (acting-process s pid p id l a h).space)

  trap-range : (f : Flt) (address : ℕ) (regs : List ℕ) (store : Option Store) → IsWord address → AreRegisters regs
      → IsStoreIf store → IsTransitionInRange (trapped f address p.space regs store)
  unfolding trapped
  trap-range f address regs store fits is_regs it =
      changes (stored_in p.space store) (move.traps f address regs) (store-range store it) (fits, is_regs)

  executed-range : (e : InstructionEffect) → IsInstructionEffect e → IsRowInRange (executed_row p l e)
  unfolding executed_row ran_row entered_row incurred_row watched_row ran entered incurred
  executed-range (instruction.runs regs store) it =
      choice IsRowInRange l.control.step _ _
      (λ marked. trap-range Trace (pc_of regs) regs store (register-at regs 10 it.0) it.0 it.1)
      (λ plain. changes (stored_in p.space store) (move.runs regs) (store-range store it.1) it.0)
  executed-range (instruction.calls call regs) it = moves (move.enters call regs) it
  executed-range (instruction.faults f address) it = moves (move.incurs f address) it
  executed-range (instruction.runs_into_watch address regs store) it =
      trap-range Watch address regs store it.0 it.1 it.2

  handled-range : (c : Current) (handler : ℕ) → IsTaken c → IsWord handler → IsTransitionInRange (handled l c handler)
  unfolding handled
  handled-range c handler it fits =
      let own = acting-lwp s pid p id l a h in
      let back : Frame = record { regs = l.regs; held = l.held } in
      choice IsTransitionInRange (ltb (length l.frames) frame_limit) _ _
      (λ room. moves
      (move.catches (with_frame l.regs l.held l.frames) (handler_registers c handler l.regs)
      (handler_held c l.held)) (
        All-append IsFrameInRange l.frames (back ∷ []) own.frames
            (All-cons IsFrameInRange back [] (record { regs = own.regs; held = own.held })
            (All-nil IsFrameInRange)),
        handler-registers c handler l.regs it fits own.regs,
        handler-held c l.held own.held,
      ))
      (λ full. ends (ends_process (signal_number Segv)) (signal-word Segv))

  -- what comes with the current signal
  its-current : (c : Current) → l.current ≡ Some c → IsTaken c
  its-current c now = record {
    info = subst IsLawfulCurrent now (own-lwp s pid p id l a).current;
    value = subst HasWordCurrent now (acting-lwp s pid p id l a h).current;
  }

  catcher-range : (c : Current) (handler : ℕ) → action_for p.dispositions c.signal ≡ act.Catch handler → IsWord handler
  unfolding disposition_of
  catcher-range c handler is =
      subst IsActionInRange is
      (action-range c.signal _
      (word_at p.dispositions (signal_number c.signal - 1) (acting-process s pid p id l a h).dispositions.words))

  in_call-arguments : (woken : Bool) (call : Sysno) (args : List ℕ) (since : ℕ) → IsInCall s l woken call args since
      → AreArguments args
  in_call-arguments woken call args since (kind.at_it at) = arguments-words l.regs own-regs
  in_call-arguments woken call args since (kind.asleep_in_it at) =
      subst IsPhaseInRange at (acting-lwp s pid p id l a h).phase

  performed-range : (woken : Bool) (call : Sysno) (args : List ℕ) (since : ℕ) (effect : Effect) → AreArguments args
      → IsEffectInRange effect → IsRowInRange (performed_row woken call args since effect)
  unfolding performed_row performed
  performed-range woken call args since (change.does result cs) given it =
      changes cs (move.leaves call args result) it.1 (given, it.0)
  performed-range woken call args since change.sleeps given it = moves (move.sleeps call args since) given
  performed-range woken call args since (change.ends how) given it = ends how it

  returned-range : (call : Sysno) → IsRowInRange (returned_row p l call)
  unfolding returned_row returned
  returned-range call =
      choice IsRowInRange l.control.step _ _
      (λ marked. trap-range Trace (pc_of l.regs) l.regs None (register-at l.regs 10 own-regs) own-regs tt)
      (λ plain. moves move.returns tt)

  kind-range : (row : Row) → RowKind s pid p id l row → IsRowInRange row
  unfolding requested_row requested posted_row posted dropped job_stopped died handler_row own_taken_row
      shared_taken_row own_taken shared_taken interrupted_row interrupted
  kind-range row (kind.stops now) = moves move.stops tt
  kind-range row (kind.posts {f = f} {address = address} at) =
      moves (move.posts f address) (subst IsPhaseInRange at (acting-lwp s pid p id l a h).phase)
  kind-range row (kind.ignores now is) = moves move.drops tt
  kind-range row (kind.stops_job {c = c} now is) =
      changes (job_stops c.signal ∷ []) move.drops (one (job_stops c.signal) tt) tt
  kind-range row (kind.dies {c = c} now is) = ends (ends_process (signal_number c.signal)) (signal-word c.signal)
  kind-range row (kind.catches {c = c} {handler = handler} now is) =
      handled-range c handler (its-current c now) (catcher-range c handler is)
  kind-range row (kind.takes_own {g = g} none is) =
      moves (move.takes (current_of g l.pending) true) (current-word g l.pending (acting-lwp s pid p id l a h).pending)
  kind-range row (kind.takes_shared {g = g} none own is) =
      changes (takes_shared g ∷ []) (move.takes (current_of g p.pending) false) (one (takes_shared g) tt)
      (current-word g p.pending (acting-process s pid p id l a h).pending)
  kind-range row (kind.interrupts {woken = woken} {call = call} {args = args} {since = since} it why) =
      moves (move.leaves call args (Error Intr)) (in_call-arguments woken call args since it, tt)
  kind-range row (kind.performs {woken = woken} {call = call} {args = args} {since = since} it goes none) =
      let given = in_call-arguments woken call args since it in
      performed-range woken call args since (call_effect s pid p id l since call args) given
      (call-range s pid p id l a h since call args given)
  kind-range row (kind.returns {call = call} at none) = returned-range call
  kind-range row (kind.executes at none) =
      executed-range (instruction_effect p.space p.control.areas l.regs)
      (instruction-range p.space p.control.areas (acting-process s pid p id l a h).space.mappings l.regs own-regs)

  pub row-range : IsTransitionInRange (row_for s pid p id l).transition
  row-range = kind-range (row_for s pid p id l) (row-kind s pid p id l)
