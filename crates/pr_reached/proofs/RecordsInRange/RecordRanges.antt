use Rattle.std.proofs.Common.{◌≡◌, ◌==◌, ◌+◌, ◌^◌, ◌<◌, ◌≤◌, ◌⊎◌, ℕ, Bool, true, false, cond, is_some, length, replicate, Option, Some, None, List, [], ◌∷◌, refl, ap, arith, inl, inr, zero, suc}
use Rattle.std.specs.List.{All, find}
use Rattle.std.specs.Option.{IfSome, option_map, option_or}
use Rattle.std.proofs.lemmas.List.Elements.{All-cons, All-head, All-nil, All-replicate, All-tail}
use Rattle.std.proofs.lemmas.List.Sums.{sum_by-cons}
use Rattle.std.proofs.lemmas.Option.{none-some, same_Some}
use Rattle.pr_num.proofs.ByIdLaws.{All-under}
use Rattle.pr_num.proofs.NumberedLemmas.{set_of_signals-lt}
use Rattle.pr_num.specs.Agents.{agent_id}
use Rattle.pr_num.specs.ById.{under}
use Rattle.pr_num.specs.Limits.{all_mappings_limit, signal_count}
use Rattle.pr_num.specs.Spaces.{Space, heap_size, is_heap, mapped_size}
use Rattle.pr_num.specs.Words.{IsWord}
use Rattle.pr_num.specs.declared.mappings.Mapping.{Mapping}
use Rattle.pr_parts.specs.PendingSignals.{Pending, info_of, pending_set}
use Rattle.pr_rec.proofs.FieldLemmas.{fault_number-lt, signal_number-lt, syscall_number-lt}
use Rattle.pr_rec.specs.Fields.{flag_if, lwp_flags_of, process_flags_of}
use Rattle.pr_rec.specs.InRange.{IsLwpStatus, IsStatus}
use Rattle.pr_rec.specs.NoLwp.{no_lwp}
use Rattle.pr_rec.specs.declared.lwp_flags.LwpMarks.{LwpMarks}
use Rattle.pr_lawful.proofs.ProcessParts.FileLemmas.{choice}
use Rattle.pr_lawful.proofs.Following.RecordLemmas.{lwpstatus-info}
use Rattle.pr_model.specs.Lawful.{IsLawfulLwp, IsLawfulProcess, IsLawfulSystem}
use Rattle.pr_model.specs.Readers.{size_of, sizes_of, total_size, borrower_at, has_lent, space_at, space_seen, space_shown}
use Rattle.pr_model.specs.Records.{lstatus_of, statuses_of_lwps}
use Rattle.pr_model.specs.State.{TracedLwp, TracedProcess, TracedSystem, has_agent, lwp_of, process_of}
use Rattle.pr_model.specs.Statuses.{arguments_in, fault_address_in, info_in, lwp_flags, lwpstatus_of, process_flags, result_in, status_of, status_of_found, value_of, what_of_stop, what_shown}
use Rattle.pr_model.specs.Stops.{agent_of, first_in_class, is_in_class, representative, shown}
use Rattle.pr_model.specs.declared.events.Res.{Res}
use Rattle.pr_model.specs.declared.events.Res.TheVariants.{Value, Error, Ended}
use Rattle.pr_model.specs.declared.lwps.Current.{Current}
use Rattle.pr_model.specs.declared.lwps.Phase.{Phase}
use Rattle.pr_model.specs.declared.lwps.Phase.TheVariants.{User, Entered, Asleep, Exiting, Faulted}
use Rattle.pr_model.specs.declared.stops.Shown.{Shown}
use Rattle.pr_model.specs.declared.stops.Shown.TheVariants.{Event, Suspended, JobControl}
use Rattle.pr_model.specs.declared.stops.Stop.{Stop}
use Rattle.pr_model.specs.declared.stops.Stop.TheVariants as stop
use Rattle.pr_reached.proofs.StatesInRange.CallRanges.{parent-id, process-id}
use Rattle.pr_reached.proofs.StatesInRange.ProcessRanges.{LwpInRange, process-range}
use Rattle.pr_reached.proofs.StatesInRange.RegisterRanges.{arguments-words}
use Rattle.pr_reached.specs.InRange.{AreArguments, AreRegisters, HasWordCurrent, IsInRange, IsLwpInRange, IsPhaseInRange, IsProcessInRange, IsResult}

-- The status of each lwp and of each process of a lawful system in range has its fields in their ranges.

-- ---- the status of an lwp

flag-le : (b : Bool) (bit : ℕ) → flag_if b bit ≤ bit
flag-le true bit = omega arith
flag-le false bit = omega arith

marks-below : (m : LwpMarks) → lwp_flags_of m < 2 ^ 6
marks-below m =
    omega (
      arith,
      flag-le m.stopped 1,
      flag-le m.on_event 2,
      flag-le m.directed 4,
      flag-le m.step 8,
      flag-le m.asleep
          16,
      flag-le m.agent 32,
    )

stop-below : (x : Stop) → what_of_stop x < signal_count + 1
stop-below stop.Requested = omega arith
stop-below (stop.Signalled s) = signal_number-lt s
stop-below (stop.SysEntry c) = let small = syscall_number-lt c in omega arith
stop-below (stop.SysExit c) = let small = syscall_number-lt c in omega arith
stop-below (stop.Faulted f) = let small = fault_number-lt f in omega arith

what-below : (o : Option Shown) → what_shown o < signal_count + 1
unfolding what_shown
what-below None = omega arith
what-below (Some (Event x)) = stop-below x
what-below (Some (JobControl s)) = signal_number-lt s
what-below (Some Suspended) = omega arith

fault-address-word : (phase : Phase) → IsPhaseInRange phase → IsWord (fault_address_in phase)
unfolding fault_address_in
fault-address-word (Faulted f address) it = it
fault-address-word User it = omega arith
fault-address-word (Entered call) it = omega arith
fault-address-word (Asleep call args since) it = omega arith
fault-address-word (Exiting call args result) it = omega arith

no-arguments : AreArguments (replicate 6 0)
no-arguments = record { words = All-replicate IsWord 6 0 (omega arith); count = refl }

arguments-range : (regs : List ℕ) (phase : Phase) → AreRegisters regs → IsPhaseInRange phase
    → AreArguments (arguments_in regs phase)
unfolding arguments_in
arguments-range regs User h it = no-arguments
arguments-range regs (Entered call) h it = arguments-words regs h
arguments-range regs (Asleep call args since) h it = it
arguments-range regs (Exiting call args result) h it = it.0
arguments-range regs (Faulted f address) h it = no-arguments

value-word : (result : Res) → IsResult result → IsWord (value_of result)
value-word (Value v) it = it
value-word (Error e) it = omega arith
value-word Ended it = omega arith

result-word : (phase : Phase) → IsPhaseInRange phase → IsWord (result_in phase)
unfolding result_in
result-word (Exiting call args result) it = value-word result it.1
result-word User it = omega arith
result-word (Entered call) it = omega arith
result-word (Asleep call args since) it = omega arith
result-word (Faulted f address) it = omega arith

pending-below : (p : Pending) → pending_set p < 2 ^ signal_count
unfolding pending_set
pending-below p = set_of_signals-lt (λ g. is_some (info_of g p))

info-word : (o : Option Current) → HasWordCurrent o → IsWord (info_in o).value
unfolding info_in
info-word None it = omega arith
info-word (Some c) it = it

module _ (pid : ℕ) (p : TracedProcess) (lawful : IsLawfulProcess (pid, p)) (h : IsProcessInRange p) where
  IsShownLwp : ℕ × TracedLwp → Type 0
  IsShownLwp e = IsLwpStatus (lwpstatus_of p e.0 e.1)

  id-below : (e : ℕ × TracedLwp) → (e.0 < p.next_lwp) ⊎ (e.0 ≡ agent_id) → e.0 < 2 ^ 32
  id-below e (inl low) = let next = lawful.next_lwp in omega arith
  id-below e (inr agent) = omega arith

  lwpstatus-range : (e : ℕ × TracedLwp) → IsLawfulLwp p.next_lwp e → IsLwpInRange e.1 → IsShownLwp e
  unfolding lwpstatus_of lwp_flags IsShownLwp
  lwpstatus-range e own it = record {
    flags = marks-below _;
    id = id-below e own.id;
    what = what-below (shown p.job_stop e.1);
    fault_address = fault-address-word e.1.phase it.phase;
    arguments = (arguments-range e.1.regs e.1.phase it.regs it.phase).words;
    result = result-word e.1.phase it.phase;
    held = it.held;
    pending = pending-below e.1.pending;
    regs = it.regs.words;
    info = lwpstatus-info p.next_lwp p e own;
    info_value = info-word e.1.current it.current;
    sizes = record { arguments = (arguments-range e.1.regs e.1.phase it.regs it.phase).count; regs = it.regs.count };
  }

  -- ---- each lwp, and the representative among them

  each-range : (es : List (ℕ × TracedLwp)) → All (IsLawfulLwp p.next_lwp) es → All LwpInRange es → All IsShownLwp es
  each-range [] all ranged = All-nil IsShownLwp
  each-range (e ∷ es) all ranged =
      All-cons IsShownLwp e es
      (lwpstatus-range e (All-head (IsLawfulLwp p.next_lwp) e es all) (All-head LwpInRange e es ranged))
      (each-range es (All-tail (IsLawfulLwp p.next_lwp) e es all) (All-tail LwpInRange e es ranged))

  shown-range : All IsShownLwp p.lwps
  shown-range = each-range p.lwps lawful.lwps h.lwps

  listed-range : (es : List (ℕ × TracedLwp)) → All IsShownLwp es → All IsLwpStatus (statuses_of_lwps p es)
  unfolding IsShownLwp
  listed-range [] all = All-nil IsLwpStatus
  listed-range (e ∷ es) all =
      All-cons IsLwpStatus (lwpstatus_of p e.0 e.1) (statuses_of_lwps p es) (All-head IsShownLwp e es all)
      (listed-range es (All-tail IsShownLwp e es all))

  pub lstatus-range : All IsLwpStatus (lstatus_of p)
  unfolding lstatus_of
  lstatus-range = listed-range p.lwps shown-range

  either-range : (a b : Option (ℕ × TracedLwp)) → IfSome a IsShownLwp → IfSome b IsShownLwp
      → IfSome (option_or a b) IsShownLwp
  either-range (Some x) b it other = it
  either-range None b it other = other

  found-range : (q : ℕ × TracedLwp → Bool) (es : List (ℕ × TracedLwp)) → All IsShownLwp es
      → IfSome (find q es) IsShownLwp
  found-range q [] all = tt
  found-range q (e ∷ es) all =
      choice (λ (o : Option (ℕ × TracedLwp)). IfSome o IsShownLwp) (q e) (Some e) (find q es)
      (λ here. All-head IsShownLwp e es all) (λ there. found-range q es (All-tail IsShownLwp e es all))

  class-range : (class : ℕ) → IfSome (first_in_class p.job_stop class p.lwps) IsShownLwp
  unfolding first_in_class
  class-range class = found-range (is_in_class p.job_stop class) p.lwps shown-range

  agent-range : IfSome (agent_of p) IsShownLwp
  agent-range = by (lwp_of p agent_id) (λ l there. All-under IsShownLwp agent_id l p.lwps shown-range there)
    where
      by : (o : Option TracedLwp) → ((l : TracedLwp) → o ≡ Some l → IsShownLwp (agent_id, l))
          → IfSome (let e : Option (ℕ × TracedLwp) = option_map (λ l. (agent_id, l)) o in e) IsShownLwp
      by None shows = tt
      by (Some l) shows = shows l refl

  representative-range : IfSome (representative p) IsShownLwp
  unfolding representative
  representative-range =
      either-range _ _
      (either-range _ _
      (either-range _ _ (either-range _ _ (either-range _ _ agent-range (class-range 1)) (class-range 2))
      (class-range 3)) (class-range 4)) (class-range 5)

  no_lwp-range : IsLwpStatus no_lwp
  unfolding no_lwp
  no_lwp-range = record {
    flags = omega arith;
    id = omega arith;
    what = omega arith;
    fault_address = omega arith;
    arguments = All-replicate IsWord 6 0 (omega arith);
    result = omega arith;
    held = omega arith;
    pending = omega arith;
    regs = All-replicate IsWord 11 0 (omega arith);
    info = record { code = omega arith; pid = omega arith };
    info_value = omega arith;
    sizes = record { arguments = refl; regs = refl };
  }

  representative-status : (o : Option (ℕ × TracedLwp)) → IfSome o IsShownLwp → IsLwpStatus (status_of_found p o)
  unfolding IsShownLwp
  representative-status None it = no_lwp-range
  representative-status (Some e) it = it

-- ---- sizes

-- a process maps no more than all do
pub size-within : (pid : ℕ) (p : TracedProcess) (es : List (ℕ × TracedProcess)) → under pid es ≡ Some p
    → size_of p ≤ sizes_of es
size-within pid p [] found = absurd (none-some p found)
size-within pid p (e ∷ es) found = by (e.0 == pid) found (size-within pid p es)
  where
    by : (b : Bool) → cond b (Some e.1) (under pid es) ≡ Some p → (under pid es ≡ Some p → size_of p ≤ sizes_of es)
        → size_of p ≤ size_of e.1 + sizes_of es
    by true here later = let same = ap size_of (same_Some e.1 p here) in omega arith
    by false there later = let within = later there in omega arith

pub size-word : (s : TracedSystem) (pid : ℕ) (p : TracedProcess) → IsLawfulSystem s → process_of s pid ≡ Some p
    → mapped_size p.space ≤ all_mappings_limit
unfolding total_size size_of
size-word s pid p h found = let own = size-within pid p s.processes found in let all = h.mapped in omega arith

-- What a process shows is a memory that one of the processes has, or none; so what holds of none and of each process's
-- holds of it.
pub shown-one : (P : Space → Type 0) (s : TracedSystem) → P []
    → ((pid : ℕ) (p : TracedProcess) → process_of s pid ≡ Some p → P p.space)
    → (n : ℕ) (o : Option ℕ) (space : Space) → P space → P (space_shown s n o space)
unfolding space_at
shown-one P s none each n None space own = own
shown-one P s none each zero (Some pid) space own = none
shown-one P s none each (suc n) (Some pid) space own =
    shown-one P s none each n (borrower_at s pid) (space_at s pid) (of (process_of s pid) refl)
  where
    of : (o : Option TracedProcess) → process_of s pid ≡ o → P (space_at s pid)
    of None is = rw is none
    of (Some p) is = rw is (each pid p is)

pub seen-word : (s : TracedSystem) (pid : ℕ) (p : TracedProcess) → IsLawfulSystem s → process_of s pid ≡ Some p
    → mapped_size (space_seen s p) ≤ all_mappings_limit
seen-word s pid p h found =
    shown-one (λ (space : Space). mapped_size space ≤ all_mappings_limit) s (omega arith)
    (λ other q there. size-word s other q h there) s.made p.borrower p.space (size-word s pid p h found)

-- a heap is no larger than all that is mapped
heap-within : (space : Space) → heap_size space ≤ mapped_size space
heap-within [] = omega arith
heap-within (m ∷ space) =
    let heap = sum_by-cons (λ (x : Mapping). cond (is_heap x.kind) (length x.bytes) 0) m space in
    let whole = sum_by-cons (λ (x : Mapping). length x.bytes) m space in
    let rest = heap-within space in
    by (is_heap m.kind) heap whole rest
  where
    by : (b : Bool) → heap_size (m ∷ space) ≡ cond b (length m.bytes) 0 + heap_size space
        → mapped_size (m ∷ space) ≡ length m.bytes + mapped_size space → heap_size space ≤ mapped_size space
        → heap_size (m ∷ space) ≤ mapped_size (m ∷ space)
    by true heap whole rest = omega arith
    by false heap whole rest = omega arith

-- ---- the status of a process

process-flags-below : (modes : ℕ) (system lent : Bool) → modes < 2 ^ 4 → process_flags_of modes system lent < 2 ^ 6
process-flags-below modes system lent few = omega (arith, flag-le system 16, flag-le lent 32)

pub status-range : (s : TracedSystem) (pid : ℕ) (p : TracedProcess) → IsLawfulSystem s → IsInRange s
    → process_of s pid ≡ Some p → IsStatus (status_of s pid p)
unfolding status_of process_flags
status-range s pid p lawful h found =
    let own = All-under IsLawfulProcess pid p s.processes lawful.processes found in
    let ranged = process-range s pid p h found in
    let id_below = process-id s pid p lawful found in
    let parent_below = parent-id s pid p lawful found in
    record {
      flags = process-flags-below p.control.modes (pid == 0) (has_lent p) ranged.control.modes;
      id = omega arith;
      parent = omega arith;
      lwps = let few = own.few_lwps in omega arith;
      pending = pending-below p.pending;
      traced_signals = ranged.control.signals;
      traced_faults = ranged.control.faults;
      traced_entries = ranged.control.entries;
      traced_exits = ranged.control.exits;
      heap_base = omega arith;
      heap_size =
          let whole = seen-word s pid p lawful found in let heap = heap-within (space_seen s p) in omega arith;
      agent = let bit = flag-le (has_agent p) agent_id in omega arith;
      areas = let few = ranged.control.few_areas in omega arith;
      lwp = representative-status pid p own ranged (representative p) (representative-range pid p own ranged);
    }

pub lstatus-of-range : (s : TracedSystem) (pid : ℕ) (p : TracedProcess) → IsLawfulSystem s → IsInRange s
    → process_of s pid ≡ Some p → All IsLwpStatus (lstatus_of p)
lstatus-of-range s pid p lawful h found =
    lstatus-range pid p (All-under IsLawfulProcess pid p s.processes lawful.processes found)
    (process-range s pid p h found)

pub lwpstatus-of-range : (s : TracedSystem) (pid id : ℕ) (p : TracedProcess) (l : TracedLwp) → IsLawfulSystem s
    → IsInRange s → process_of s pid ≡ Some p → lwp_of p id ≡ Some l → IsLwpStatus (lwpstatus_of p id l)
unfolding IsShownLwp
lwpstatus-of-range s pid id p l lawful h found there =
    let own = All-under IsLawfulProcess pid p s.processes lawful.processes found in
    let ranged = process-range s pid p h found in
    lwpstatus-range pid p own ranged (id, l) (All-under (IsLawfulLwp p.next_lwp) id l p.lwps own.lwps there)
    (All-under LwpInRange id l p.lwps ranged.lwps there)
