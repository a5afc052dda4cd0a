use Rattle.std.proofs.Common.{◌≡◌, ℕ, ◌+◌, ◌≤◌, true, false, Option, Some, None, List, [], ◌∷◌, length, refl, sym, subst, arith}
use Rattle.std.specs.List.{All, slice_get, sum_by}
use Rattle.std.proofs.lemmas.List.{length-map}
use Rattle.std.proofs.lemmas.List.Elements.{All-cons, All-map, All-nil}
use Rattle.pr_num.specs.Limits.{all_mappings_limit, process_limit, file_limit, file_size_limit}
use Rattle.pr_num.specs.Programs.{Program}
use Rattle.pr_num.specs.declared.files.StoredFile.{StoredFile}
use Rattle.pr_parts.specs.FileTables.{IsShortFile, names_differ}
use Rattle.pr_model.specs.FirstState.{bare_system, spawned_at, system_process, with_spawns, first_state, first_system, size_at_start, stored_file}
use Rattle.pr_model.specs.Lawful.{IsLawful, IsLawfulProgram}
use Rattle.pr_model.specs.Lives.{bare_process, new_process, with_spawned}
use Rattle.pr_model.specs.Machines.{nothing_set, traced}
use Rattle.pr_model.specs.State.{TracedState, TracedSystem}
use Rattle.pr_proc.specs.Counts.{HasUsedAtMost}
use Rattle.pr_proc.proofs.UsageLemmas.{unused}
use Rattle.pr_kern.proofs.SoundLemmas.{sound-with_made}
use Rattle.pr_lawful.proofs.LawfulStates.StartLemmas.{first-lawful}
use Rattle.pr_kern.specs.Soundness.{IsSound}
use Rattle.pr_kern.specs.Starts.{stored}

-- The first system is sound, and the first state lawful.

bare-sound : (programs : List Program) (files : List StoredFile) → IsSound 0 (bare_system programs files)
unfolding bare_system system_process bare_process traced nothing_set
bare-sound programs files = record {
  clock = omega arith;
  counts = record { each = All-cons (HasUsedAtMost 0) _ [] (unused 0) (All-nil (HasUsedAtMost 0)) };
}

spawned-sound : (s : TracedSystem) (o : Option Program) → IsSound 0 s → IsSound 0 (spawned_at o s)
unfolding with_spawned new_process bare_process traced nothing_set
spawned-sound s None sound = sound
spawned-sound s (Some program) sound = sound-with_made 0 (new_process traced program s.clock false) s refl sound

spawns-sound : (places : List ℕ) (s : TracedSystem) → IsSound 0 s → IsSound 0 (with_spawns places s)
unfolding with_spawns
spawns-sound [] s sound = sound
spawns-sound (place ∷ places) s sound = spawns-sound places _ (spawned-sound s (slice_get s.programs place) sound)

pub first-sound : (programs : List Program) (files : List StoredFile) (spawns : List ℕ)
    → IsSound 0 (first_system programs files spawns)
first-sound programs files spawns = spawns-sound spawns (bare_system programs files) (bare-sound programs files)

short-stored : (files : List (List ℕ × List ℕ)) → All (λ f. length f.1 ≤ file_size_limit) files
    → All IsShortFile (stored files)
short-stored files short = All-map IsShortFile stored_file files short

pub start-lawful : (programs : List Program) (files : List (List ℕ × List ℕ)) (spawns : List ℕ)
    → All IsLawfulProgram programs → length files ≤ file_limit → All (λ f. length f.1 ≤ file_size_limit) files
    → names_differ (stored files) ≡ true
    → length spawns + 1 ≤ process_limit
    → sum_by (λ place. size_at_start (slice_get programs place)) spawns ≤ all_mappings_limit
    → IsLawful (first_state programs (stored files) spawns)
start-lawful programs files spawns within few short own_names room mapped =
    first-lawful programs (stored files) spawns
    (record {
      within = within;
      few = omega (arith, few, length-map files stored_file);
      short = short-stored files short;
      own_names = own_names;
      room = room;
      mapped = mapped;
    })

-- the state that a kernel begins with is lawful
pub started-lawful : (m : TracedState) (slice programs : List Program) (files : List (List ℕ × List ℕ))
    (spawns : List ℕ) → All IsLawfulProgram slice → slice ≡ programs → length files ≤ file_limit
    → All (λ f. length f.1 ≤ file_size_limit) files → names_differ (stored files) ≡ true
    → length spawns + 1 ≤ process_limit
    → sum_by (λ place. size_at_start (slice_get programs place)) spawns ≤ all_mappings_limit
    → m ≡ first_state programs (stored files) spawns → IsLawful m
started-lawful m slice programs files spawns within same few short own_names room mapped is =
    subst IsLawful (sym is)
    (start-lawful programs files spawns (subst (All IsLawfulProgram) same within) few short own_names room mapped)
