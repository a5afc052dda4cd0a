use Rattle.std.proofs.Common.{ℕ, false, Option, Some, None, List, [], ◌∷◌, refl}
use Rattle.std.proofs.lemmas.List.Elements.{All-nil, All-cons}
use Rattle.std.specs.List.{slice_get}
use Rattle.pr_num.specs.Control.{has_flags}
use Rattle.pr_num.specs.Programs.{Program}
use Rattle.pr_num.specs.Sets.{common_word}
use Rattle.pr_num.specs.declared.files.StoredFile.{StoredFile}
use Rattle.pr_model.specs.FirstState.{bare_system, first_state, spawned_at, system_process, with_spawns}
use Rattle.pr_model.specs.Lives.{bare_process}
use Rattle.pr_model.specs.Machines.{nothing_set, traced}
use Rattle.pr_model.specs.State.{TracedSystem}
use Rattle.pr_erasure.specs.Untouched.{IsUntouched, IsUntouchedLwp, IsUntouchedProcess}
use Rattle.pr_erasure.proofs.SeenHistories.OutsideLemmas.{with_spawned-untouched}

-- The first state is untouched.

spawned_at-untouched : (program : Option Program) (s : TracedSystem) → IsUntouched s
    → IsUntouched (spawned_at program s)
spawned_at-untouched None s u = u
spawned_at-untouched (Some program) s u = with_spawned-untouched program false s u

spawns-untouched : (spawns : List ℕ) (s : TracedSystem) → IsUntouched s → IsUntouched (with_spawns spawns s)
unfolding with_spawns
spawns-untouched [] s u = u
spawns-untouched (place ∷ spawns) s u =
    spawns-untouched spawns _ (spawned_at-untouched (slice_get s.programs place) s u)

system-untouched : IsUntouchedProcess (0, system_process)
unfolding system_process bare_process traced nothing_set has_flags common_word
system-untouched = record { no_kill = refl; unwatched = refl; lwps = All-nil IsUntouchedLwp }

pub first-untouched : (programs : List Program) (files : List StoredFile) (spawns : List ℕ)
    → IsUntouched (first_state programs files spawns).system
unfolding first_state bare_system
first-untouched programs files spawns =
    spawns-untouched spawns (bare_system programs files)
    (record {
      processes = All-cons IsUntouchedProcess (0, system_process) [] system-untouched (All-nil IsUntouchedProcess);
    })
