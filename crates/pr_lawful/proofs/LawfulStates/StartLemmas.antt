use Rattle.std.proofs.Common.{◌≡◌, ℕ, zero, suc, ◌+◌, ◌<◌, ◌≤◌, Bool, false, replicate, Option, Some, None, List, [], ◌∷◌, length, refl, sym, subst, ◌∙◌, ap, arith, inl}
use Rattle.std.specs.List.{All, list_any, slice_get, sum_by}
use Rattle.std.proofs.lemmas.Bool.{false≢true}
use Rattle.std.proofs.lemmas.List.{length-replicate}
use Rattle.std.proofs.lemmas.List.Elements.{All-nil, All-cons}
use Rattle.std.proofs.lemmas.List.Sums.{sum_by-cons}
use Rattle.pr_num.proofs.SetLemmas.{has_number-zero}
use Rattle.pr_num.specs.Control.{has_flags}
use Rattle.pr_num.specs.Limits.{all_mappings_limit, handle_limit, process_limit}
use Rattle.pr_num.specs.Programs.{Program}
use Rattle.pr_num.specs.Sets.{common_word}
use Rattle.pr_num.specs.Signals.{signal_number}
use Rattle.pr_num.specs.Spaces.{mapped_size}
use Rattle.pr_num.specs.declared.files.StoredFile.{StoredFile}
use Rattle.pr_num.specs.declared.signals.Sig.TheVariants.{Kill}
use Rattle.pr_parts.specs.FileTables.{IsOpenPlace, IsPipePlace}
use Rattle.pr_model.specs.FirstState.{system_process, bare_system, spawned_at, with_spawns, first_state, size_at_start}
use Rattle.pr_model.specs.Handles.{is_exclusive_writer}
use Rattle.pr_model.specs.Lawful.{IsOfMade, IsLawfulLwp, IsLawfulProgram, IsLawfulProcess, IsNumberedBelow, HasParent, IsFitting, IsReleased, IsLawful}
use Rattle.pr_model.specs.Lives.{bare_process, new_process, with_made, with_spawned}
use Rattle.pr_model.specs.Machines.{nothing_set, traced}
use Rattle.pr_model.specs.Readers.{size_of, total_size}
use Rattle.pr_model.specs.Signals.{disposition_of}
use Rattle.pr_model.specs.declared.handles.Held.{Held}
use Rattle.pr_model.specs.State.{Places, TracedState, TracedSystem, nothing_open}
use Rattle.pr_lawful.specs.Starts.{IsStart}
use Rattle.pr_parts.specs.AddressSpaces.{LeavesHeapPlace}
use Rattle.pr_lawful.proofs.ProcessParts.InfoLemmas.{no-infos}
use Rattle.pr_lawful.proofs.ProcessParts.LocalLemmas.{live-empty}
use Rattle.pr_lawful.proofs.Following.MadeLemmas.{handles-on, spawned-grows}
use Rattle.pr_lawful.proofs.ProcessParts.ProgramLemmas.{placed-lawful}
use Rattle.pr_lawful.proofs.LawfulStates.ReleasedLemmas.{modeless-released, spawned-released}
use Rattle.pr_lawful.proofs.LawfulStates.StateLemmas.{new-space, spawned-lawful}
use Rattle.pr_lawful.proofs.ProcessParts.SumLemmas.{sizes-sum, sum_of, sum-inserted}
use Rattle.pr_model.proofs.StateLemmas.{with_spawned-made}

-- The first state is lawful.

-- ---- no handle is open

no-handle : {X : Type 0} (q : Option X → Bool) → q None ≡ false → (n : ℕ) → list_any q (replicate n None) ≡ false
no-handle q none zero = refl
no-handle q none (suc n) = rw none (no-handle q none n)

all-free : {X : Type 0} (P : Option X → Type 0) → P None → (n : ℕ) → All P (replicate n None)
all-free P none zero = All-nil P
all-free P none (suc n) = All-cons P None (replicate n None) none (all-free P none n)

-- ---- process 0 alone

system-lawful : IsLawfulProcess (0, system_process)
unfolding system_process bare_process traced nothing_set disposition_of signal_number
system-lawful = record {
  has_lwps = record { some = λ user live. absurd (omega arith) };
  empty_zombie = live-empty system_process refl;
  rising = refl;
  lwps = All-nil (IsLawfulLwp 1);
  next_lwp = omega arith;
  few_lwps = omega arith;
  descriptors = refl;
  traced = has_number-zero (signal_number Kill);
  uncaught = record { kill = refl; stop = refl };
  pending = no-infos;
  heap_place = All-nil LeavesHeapPlace;
  small_space = omega arith;
}

module _ (programs : List Program) (files : List StoredFile) (spawns : List ℕ)
    (start : IsStart programs files spawns) where
  alone : TracedState
  alone = record { system = bare_system programs files; opens = nothing_open; interrupted = 0 }

  alone-lawful : IsLawful alone
  unfolding alone bare_system nothing_open total_size size_of system_process bare_process has_flags common_word traced
      nothing_set
  alone-lawful = record {
    system = record {
      rising = refl;
      numbered =
          All-cons (IsNumberedBelow 1) (0, system_process) [] (record { id = omega arith })
          (All-nil (IsNumberedBelow 1));
      processes = All-cons IsLawfulProcess (0, system_process) [] system-lawful (All-nil IsLawfulProcess);
      parents =
          All-cons (HasParent (bare_system programs files)) (0, system_process) [] (record { parent = inl refl })
          (All-nil (HasParent (bare_system programs files)));
      first = refl;
      made = omega arith;
      programs = start.within;
      mapped = omega arith;
      files = record {
        table = record {
          few_files = start.few;
          few_pipes = omega arith;
          short_files = start.short;
          short_pipes = All-nil IsPipePlace;
          own_names = start.own_names;
          open_files = All-nil (IsOpenPlace files []);
        };
        pipes = record { each = λ pipe stands. absurd (false≢true stands) };
        users = λ place. refl;
      };
    };
    places = length-replicate {A = Option Held} handle_limit None;
    fitting = all-free IsFitting tt handle_limit;
    handles = all-free (IsOfMade 1) tt handle_limit;
    exclusive =
        record {
          alone = λ pid is. absurd (false≢true (sym (no-handle (is_exclusive_writer pid) refl handle_limit)
              ∙ is));
        };
    released =
        All-cons (IsReleased nothing_open) (0, system_process) []
        (modeless-released nothing_open 0 system_process refl refl) (All-nil (IsReleased nothing_open));
  }

-- ---- spawns

spawned-programs : (program : Program) (s : TracedSystem) → (with_spawned traced program false s).programs ≡ s.programs
unfolding with_spawned with_made
spawned-programs program s = refl

spawned-size : (program : Program) (s : TracedSystem)
    → total_size (with_spawned traced program false s) ≡ size_at_start (Some program) + total_size s
unfolding with_spawned with_made total_size size_of
spawned-size program s =
    let p = new_process traced program s.clock false in
    sizes-sum _ ∙ sum-inserted size_of s.made p s.processes
    ∙ ap (λ n. n + sum_of size_of s.processes) (ap mapped_size (new-space program s.clock false))
    ∙ ap (λ n. size_at_start (Some program) + n) (sym (sizes-sum s.processes))

-- a state that has room for what is spawned
record HasRoomFor (spawns : List ℕ) (s : TracedSystem) : Type 0 where
  made : s.made + length spawns ≤ process_limit
  mapped : total_size s + sum_by (λ place. size_at_start (slice_get s.programs place)) spawns ≤ all_mappings_limit

spawned-state : (opens : Places) (o : Option Program) (s : TracedSystem)
    → ((program : Program) → o ≡ Some program → IsLawfulProgram program)
    → IsLawful (record { system = s; opens = opens; interrupted = 0 }) → s.made < process_limit
    → total_size s + size_at_start o ≤ all_mappings_limit → IsLawful (record {
      system = spawned_at o s;
      opens = opens;
      interrupted = 0;
    })
spawned-state opens None s within h room mapped = h
spawned-state opens (Some program) s within h room mapped = record {
  system = spawned-lawful s program false (within program refl) h.system room mapped;
  places = h.places;
  fitting = h.fitting;
  handles = handles-on opens s (with_spawned traced program false s) (spawned-grows s program false) h.handles;
  exclusive = h.exclusive;
  released = spawned-released opens s program false h.released;
}

spawns-state : (opens : Places) (spawns : List ℕ) (s : TracedSystem)
    → IsLawful (record { system = s; opens = opens; interrupted = 0 }) → HasRoomFor spawns s → IsLawful (record {
      system = with_spawns spawns s;
      opens = opens;
      interrupted = 0;
    })
unfolding with_spawns
spawns-state opens [] s h room = h
spawns-state opens (place ∷ spawns) s h room =
    let size = sum_by-cons (λ at. size_at_start (slice_get s.programs at)) place spawns in
    let made = room.made in
    let mapped = room.mapped in
    spawns-state opens spawns (spawned_at (slice_get s.programs place) s)
    (spawned-state opens (slice_get s.programs place) s
    (λ program is. placed-lawful s.programs place program h.system.programs is) h (omega arith) (omega arith))
    (by (slice_get s.programs place) refl size made mapped)
  where
    by : (o : Option Program) → slice_get s.programs place ≡ o
        → sum_by (λ at. size_at_start (slice_get s.programs at)) (place ∷ spawns) ≡ size_at_start
        (slice_get s.programs place) + sum_by (λ at. size_at_start (slice_get s.programs at)) spawns
        → s.made + suc (length spawns) ≤ process_limit
        → total_size s + sum_by (λ at. size_at_start (slice_get s.programs at))
        (place ∷ spawns) ≤ all_mappings_limit → HasRoomFor spawns (spawned_at o s)
    by None is size made mapped = record { made = omega arith; mapped = omega arith }
    by (Some program) is size made mapped = record {
      made = let more = with_spawned-made program s in omega arith;
      mapped =
          let all = spawned-size program s in
          let own : size_at_start (slice_get s.programs place) ≡ size_at_start (Some program) = ap size_at_start is in
          subst (λ (programs : List Program). total_size (with_spawned traced program false s) + sum_by
          (λ at. size_at_start (slice_get programs at)) spawns ≤ all_mappings_limit)
          (sym (spawned-programs program s)) (omega arith);
    }

bare-lawful : (programs : List Program) (files : List StoredFile) (spawns : List ℕ) → IsStart programs files spawns
    → IsLawful (record { system = bare_system programs files; opens = nothing_open; interrupted = 0 })
unfolding alone
bare-lawful programs files spawns start = alone-lawful programs files spawns start

bare-room : (programs : List Program) (files : List StoredFile) (spawns : List ℕ) → IsStart programs files spawns
    → HasRoomFor spawns (bare_system programs files)
unfolding bare_system total_size size_of system_process bare_process
bare-room programs files spawns start = record {
  made = let room = start.room in omega arith;
  mapped = let mapped = start.mapped in omega arith;
}

pub first-lawful : (programs : List Program) (files : List StoredFile) (spawns : List ℕ)
    → IsStart programs files spawns → IsLawful (first_state programs files spawns)
unfolding first_state
first-lawful programs files spawns start =
    spawns-state nothing_open spawns (bare_system programs files) (bare-lawful programs files spawns start)
    (bare-room programs files spawns start)
