use Rattle.std.proofs.Common.{◌≡◌, ◌||◌, ◌&&◌, ◌+◌, ◌^◌, ◌<◌, ◌≤◌, ℕ, Bool, true, false, cond, eqb, ltb, not, Option, Some, None, List, ◌∷◌, length, refl, sym, arith, []}
use Rattle.std.specs.List.{All}
use Rattle.std.proofs.lemmas.Bool.{and_parts, ltb-true}
use Rattle.std.proofs.lemmas.List.Elements.{All-head, All-tail}
use Rattle.std.proofs.lemmas.Option.{none-some}
use Rattle.pr_num.proofs.ByIdLaws.{All-under}
use Rattle.pr_num.proofs.SetLemmas.{minus_word-le, union_word-lt, without_number-le}
use Rattle.pr_num.proofs.TableLaws.{All-without_first}
use Rattle.pr_parts.proofs.ByAddressLemmas.{All-placed, length-placed, length-without_first}
use Rattle.pr_num.specs.Agents.{agent_id}
use Rattle.pr_num.specs.Infos.{by_controller}
use Rattle.pr_num.specs.Limits.{all_signals, area_limit, fault_count, signal_count, syscall_count}
use Rattle.pr_num.specs.Messages.{bad_operand, operand_count, operands}
use Rattle.pr_num.specs.Words.{IsByte, IsWord}
use Rattle.pr_num.specs.declared.mappings.Area.{Area}
use Rattle.pr_num.specs.Signals.{signal_number}
use Rattle.pr_num.specs.declared.messages.Message.{Message}
use Rattle.pr_num.specs.declared.messages.Message.TheVariants as message
use Rattle.pr_num.specs.declared.signals.Sig.TheVariants.{Kill}
use Rattle.pr_parts.specs.AddressSpaces.{with_bytes}
use Rattle.pr_parts.specs.PendingSignals.{without_one}
use Rattle.pr_parts.specs.WatchedAreas.{area_address, begins_at, with_area, without_area}
use Rattle.pr_model.specs.Messages.{lwp_without_one, with_held_set, with_registers, with_address, tracing_signals, tracing_faults, tracing_entries, tracing_exits, with_modes, without_modes, with_areas, agent_lwp, with_agent}
use Rattle.pr_model.specs.Running.{without_current, without_fault, with_step, with_abort, with_directive, without_directive, let_go}
use Rattle.pr_model.specs.State.{TracedControl, TracedLwp, TracedProcess, TracedSystem, process_of}
use Rattle.pr_keeps.specs.LwpEdits as lwp
use Rattle.pr_keeps.specs.LwpEdits.{LwpEdit, LwpEdits}
use Rattle.pr_keeps.specs.MessageEdits.{MessageEdit, nothing, a_process, an_end, a_signal}
use Rattle.pr_keeps.specs.ProcessEdits as process
use Rattle.pr_keeps.specs.ProcessEdits.{ControlEdit, ProcessEdit}
use Rattle.pr_keeps.proofs.KeepsLemmas.{lwp-edits-keep, process-edits-keep}
use Rattle.pr_model.specs.Messages.{lwp_without_one, with_held_set, with_registers, with_address, tracing_signals, tracing_faults, tracing_entries, tracing_exits, with_modes, without_modes, with_areas, agent_lwp, with_agent}
use Rattle.pr_model.specs.Running.{without_current, without_fault, with_step, with_abort, with_directive, without_directive, let_go}
use Rattle.pr_model.specs.State.{TracedControl, TracedLwp, TracedProcess, TracedSystem, process_of}
use Rattle.pr_model.specs.declared.lwps.Phase.{Phase}
use Rattle.pr_model.specs.declared.lwps.Phase.TheVariants.{User, Entered, Asleep, Exiting, Faulted}
use Rattle.pr_reached.proofs.StatesInRange.CallRanges.{holdable-set}
use Rattle.pr_reached.proofs.StatesInRange.ChangeRanges.{new_lwp-range, space-keeps}
use Rattle.pr_reached.proofs.StatesInRange.EndRanges.{generated-range, pending-kept, signal-word, this_ended-range}
use Rattle.pr_reached.proofs.StatesInRange.MemoryRanges.{with_bytes-range}
use Rattle.pr_reached.proofs.StatesInRange.PendingRanges.{taken-words}
use Rattle.pr_reached.proofs.StatesInRange.ProcessRanges.{KeepsLwp, changed-found, keeps-each, keeps-more, keeps-one, with_marks, with_pending_set, ProcessInRange}
use Rattle.pr_reached.proofs.StatesInRange.RegisterRanges.{registers-set}
use Rattle.pr_reached.specs.InRange.{IsAreaInRange, IsControlInRange, IsInRange, IsLwpInRange, IsPhaseInRange, IsProcessInRange}

-- Each edit of a control message leaves a system in range, where the operands of the message are words within their
-- columns, and the bytes that it writes are bytes: a line a kind of edit.

-- ---- columns

-- an operand is below a bound where it is accepted only then
below-column : (n bound word : ℕ) → cond (ltb n bound) None (Some word) ≡ None → n < bound
below-column n bound word is = by (ltb n bound) refl is
  where
    by : (b : Bool) → ltb n bound ≡ b → cond b None (Some word) ≡ None → n < bound
    by true below here = ltb-true n bound below
    by false past here = absurd (none-some word (sym here))

-- an area that is set has flags below 16
area-flags : (at size flags : ℕ) → eqb flags 0 ≡ false → bad_operand (message.Watch at size flags) ≡ None → flags < 16
unfolding bad_operand
area-flags at size flags watches is =
    let inner : cond {A = Option ℕ} (eqb size 0 || ltb (2 ^ 64) (at + size)) (Some 2)
    (cond {A = Option ℕ} (ltb flags 16 && not (eqb flags 8)) None (Some 3)) ≡ None = rw watches at is in
    by (eqb size 0 || ltb (2 ^ 64) (at + size)) (ltb flags 16 && not (eqb flags 8)) refl inner
  where
    by : (out small : Bool) → (ltb flags 16 && not (eqb flags 8)) ≡ small
        → cond {A = Option ℕ} out (Some 2) (cond {A = Option ℕ} small None (Some 3)) ≡ None → flags < 16
    by true small few here = absurd (none-some 2 (sym here))
    by false true few here = ltb-true flags 16 (and_parts (ltb flags 16) (not (eqb flags 8)) few).0
    by false false few here = absurd (none-some 3 (sym here))

-- a message that was read: its operands are words within their columns, and what it writes is bytes
pub record IsReadMessage (m : Message) (tail : List ℕ) : Type 0 where
  pub words : All IsWord (operands m)
  pub count : length (operands m) ≡ operand_count m
  pub columns : bad_operand m ≡ None
  pub tail_bytes : All IsByte tail

-- ---- lwps

-- a phase without its fault
unfaulted-phase : (l : TracedLwp) → IsPhaseInRange l.phase → IsPhaseInRange (without_fault l).phase
unfolding without_fault
unfaulted-phase l h = by l.phase h
  where
    by : (phase : Phase) → IsPhaseInRange phase → IsPhaseInRange (without_fault (record l { phase = phase })).phase
    by User it = it
    by (Entered call) it = it
    by (Asleep call args since) it = it
    by (Exiting call args result) it = it
    by (Faulted f address) it = tt

edited-lwp : (m : Message) (tail : List ℕ) (l k : TracedLwp) → LwpEdit m l k → IsReadMessage m tail → IsLwpInRange l
    → IsLwpInRange k
unfolding without_current without_fault with_directive without_directive let_go with_step with_abort lwp_without_one
    with_held_set with_registers with_address operands operand_count bad_operand
edited-lwp m tail l k (lwp.drops_signal is) it h =
    record { regs = h.regs; held = h.held; frames = h.frames; pending = h.pending; current = tt; phase = h.phase }
edited-lwp m tail l k (lwp.drops_fault is) it h = record {
  regs = h.regs;
  held = h.held;
  frames = h.frames;
  pending = h.pending;
  current = h.current;
  phase = unfaulted-phase l h.phase;
}
edited-lwp m tail l k (lwp.signal_is is) it h = record {
  regs = h.regs;
  held = h.held;
  frames = h.frames;
  pending = h.pending;
  current = omega arith;
  phase = h.phase;
}
edited-lwp m tail l k (lwp.takes_back {g = g} is) it h =
    with_pending_set l (without_one g l.pending) (taken-words g l.pending h.pending) h
edited-lwp m tail l k (lwp.holds {signals = signals}) it h = record {
  regs = h.regs;
  held = holdable-set signals (below-column signals (2 ^ signal_count) 1 it.columns);
  frames = h.frames;
  pending = h.pending;
  current = h.current;
  phase = h.phase;
}
edited-lwp m tail l k (lwp.registers_are {regs = regs}) it h = record {
  regs = record { words = it.words; count = it.count };
  held = h.held;
  frames = h.frames;
  pending = h.pending;
  current = h.current;
  phase = h.phase;
}
edited-lwp m tail l k (lwp.goes_to {pc = pc}) it h = record {
  regs = registers-set l.regs 10 pc (All-head IsWord pc [] it.words) h.regs;
  held = h.held;
  frames = h.frames;
  pending = h.pending;
  current = h.current;
  phase = h.phase;
}
edited-lwp m tail l k _ it h = with_marks l k.control h

edits-keep : (m : Message) (tail : List ℕ) (f : TracedLwp → TracedLwp) → IsReadMessage m tail
    → ((l : TracedLwp) → LwpEdits m l (f l)) → KeepsLwp f
edits-keep m tail f it edits l h =
    lwp-edits-keep m IsLwpInRange (λ k j e. edited-lwp m tail k j e it) l (f l) (edits l) h

-- ---- what is set on a process

areas-keep : (areas : List Area) (c : TracedControl) → All IsAreaInRange areas → length areas ≤ area_limit
    → IsControlInRange c → IsControlInRange (with_areas areas c)
unfolding with_areas
areas-keep areas c all few h = record {
  signals = h.signals;
  faults = h.faults;
  entries = h.entries;
  exits = h.exits;
  modes = h.modes;
  areas = all;
  few_areas = few;
}

edited-control : (m : Message) (tail : List ℕ) (c d : TracedControl) → ControlEdit m c d → IsReadMessage m tail
    → IsControlInRange c → IsControlInRange d
unfolding tracing_signals tracing_faults tracing_entries tracing_exits with_modes without_modes without_area with_area
    operands bad_operand
edited-control m tail c d (process.signals {set = set}) it h =
    let few = below-column set (2 ^ signal_count) 1 it.columns in
    record {
      signals = let less = without_number-le set (signal_number Kill) in omega arith;
      faults = h.faults;
      entries = h.entries;
      exits = h.exits;
      modes = h.modes;
      areas = h.areas;
      few_areas = h.few_areas;
    }
edited-control m tail c d (process.faults {set = set}) it h = record {
  signals = h.signals;
  faults = below-column set (2 ^ fault_count) 1 it.columns;
  entries = h.entries;
  exits = h.exits;
  modes = h.modes;
  areas = h.areas;
  few_areas = h.few_areas;
}
edited-control m tail c d (process.entries {set = set}) it h = record {
  signals = h.signals;
  faults = h.faults;
  entries = below-column set (2 ^ syscall_count) 1 it.columns;
  exits = h.exits;
  modes = h.modes;
  areas = h.areas;
  few_areas = h.few_areas;
}
edited-control m tail c d (process.exits {set = set}) it h = record {
  signals = h.signals;
  faults = h.faults;
  entries = h.entries;
  exits = below-column set (2 ^ syscall_count) 1 it.columns;
  modes = h.modes;
  areas = h.areas;
  few_areas = h.few_areas;
}
edited-control m tail c d (process.modes {set = set}) it h = record {
  signals = h.signals;
  faults = h.faults;
  entries = h.entries;
  exits = h.exits;
  modes = union_word-lt 4 c.modes set h.modes (below-column set 16 1 it.columns);
  areas = h.areas;
  few_areas = h.few_areas;
}
edited-control m tail c d (process.fewer_modes {set = set}) it h = record {
  signals = h.signals;
  faults = h.faults;
  entries = h.entries;
  exits = h.exits;
  modes = let less = minus_word-le c.modes set in let few = h.modes in omega arith;
  areas = h.areas;
  few_areas = h.few_areas;
}
edited-control m tail c d (process.unwatches {at = at}) it h =
    areas-keep (without_area at c.areas) c (All-without_first IsAreaInRange (begins_at at) c.areas h.areas)
    (let few = h.few_areas in let less = length-without_first (begins_at at) c.areas in omega arith) h
edited-control m tail c d (process.watches {at = at} {size = size} {flags = flags} some free room) it h =
    let a : Area = record { at = at; size = size; flags = flags } in
    let is_at = All-head IsWord at (size ∷ flags ∷ []) it.words in
    let is_size = All-head IsWord size (flags ∷ []) (All-tail IsWord at (size ∷ flags ∷ []) it.words) in
    areas-keep (with_area a c.areas) c
    (All-placed IsAreaInRange area_address a c.areas
    (record { at = is_at; size = is_size; flags = area-flags at size flags some it.columns }) h.areas)
    (let more = length-placed area_address a c.areas in omega arith) h

-- ---- processes

edited-process : (m : Message) (tail : List ℕ) (x y : TracedProcess) → ProcessEdit m tail x y → IsReadMessage m tail
    → IsProcessInRange x → IsProcessInRange y
unfolding with_agent agent_lwp operands operand_count
edited-process m tail x y (process.one_lwp id f edits) it h = keeps-one id f (edits-keep m tail f it edits) x h
edited-process m tail x y (process.each_lwp f edits) it h = keeps-each f (edits-keep m tail f it edits) x h
edited-process m tail x y (process.control_is {c = c} e) it h = record {
  program = h.program;
  made_at = h.made_at;
  ended = h.ended;
  space = h.space;
  dispositions = h.dispositions;
  pending = h.pending;
  lwps = h.lwps;
  control = edited-control m tail x.control c e it h.control;
}
edited-process m tail x y (process.takes_back {g = g} is) it h =
    pending-kept x (without_one g x.pending) (taken-words g x.pending h.pending) h
edited-process m tail x y (process.gets_agent {regs = regs} none room) it h =
    keeps-more agent_id (agent_lwp regs) x
    (new_lwp-range regs _ _ (record { words = it.words; count = it.count })
    (holdable-set all_signals (omega arith))) h
edited-process m tail x y (process.is_written {at = at} own mapped) it h =
    space-keeps (with_bytes at tail x.space) (with_bytes-range at tail it.tail_bytes x.space h.space) x h

-- ---- the system

pub edit-range : (s : TracedSystem) (pid : ℕ) (p : TracedProcess) (m : Message) (tail : List ℕ) (t : TracedSystem)
    → MessageEdit s pid p m tail t → process_of s pid ≡ Some p → IsReadMessage m tail → IsInRange s → IsInRange t
edit-range s pid p m tail t nothing found it h = h
edit-range s pid p m tail t (a_process f edits) found it h =
    changed-found s pid p f found
    (process-edits-keep m tail IsProcessInRange (λ x y e. edited-process m tail x y e it) p (f p) edits) h
edit-range s pid p m tail t an_end found it h =
    this_ended-range s pid p (signal_number Kill) (signal-word Kill)
    (All-under ProcessInRange pid p s.processes h.processes found) h
edit-range s pid p m tail t (a_signal target g is room) found it h =
    generated-range s pid target g by_controller (omega arith) h
