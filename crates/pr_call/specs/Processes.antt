use Rattle.std.specs.Prelude.{ℕ, List, [], ◌∷◌, Option, Some, None, Result, Ok, Err, slice_get, if◌then◌else◌}
use Rattle.pr_num.specs.Programs.{Program}
use Rattle.pr_num.specs.Spaces.{first_space, mapped_size}
use Rattle.pr_num.specs.declared.errnos.Errno.{Errno}
use Rattle.pr_num.specs.declared.errnos.Errno.TheVariants.{Noent, Nomem}
use Rattle.pr_model.specs.Changes.{Effect, becomes, fails, gives}
use Rattle.pr_model.specs.ProcessCalls.{given_up, program_named}
use Rattle.pr_model.specs.Readers.{total_has_room}
use Rattle.pr_model.specs.State.{TracedProcess, TracedSystem}

-- exec(2) by its steps: of a program that was found, or not, and of a path that was read, or not

unfoldable pub exec_found : TracedSystem → TracedProcess → ℕ → Option Program → Effect
exec_found s p id None = fails Noent
exec_found s p id (Some program) =
    if total_has_room s (mapped_size (first_space program)) (given_up s p id) then gives 0 (becomes program ∷ [])
    else fails Nomem

abbrev pub exec_of : TracedSystem → TracedProcess → ℕ → Result (List ℕ) Errno → Effect
exec_of s p id (Err e) = fails e
exec_of s p id (Ok name) = exec_found s p id (program_named s.programs name)

-- the effect by the place of the program, or by what refused it
abbrev pub target_effect : TracedSystem → TracedProcess → ℕ → Result ℕ Errno → Effect
target_effect s p id (Err e) = fails e
target_effect s p id (Ok place) = exec_found s p id (slice_get s.programs place)
