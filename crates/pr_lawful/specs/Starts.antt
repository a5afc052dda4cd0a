use Rattle.std.specs.Prelude.{◌≡◌, ◌≤◌, ◌+◌, ℕ, true, List, length}
use Rattle.std.specs.List.{All}
use Rattle.pr_num.specs.Limits.{all_mappings_limit, file_limit, process_limit}
use Rattle.pr_num.specs.Programs.{Program}
use Rattle.pr_num.specs.declared.files.StoredFile.{StoredFile}
use Rattle.pr_parts.specs.FileTables.{IsShortFile, names_differ}
use Rattle.pr_model.specs.FirstState.{mapped_at_start}
use Rattle.pr_model.specs.Lawful.{IsLawfulProgram}

-- What a first state is made of: programs, files, and the places of the programs that are spawned at the start.

-- Programs are within their limits; the files have names of their own, and none is too long; and there is room for the
-- processes, beside process 0, and for their memory.
pub record IsStart (programs : List Program) (files : List StoredFile) (spawns : List ℕ) : Type 0 where
  pub within : All IsLawfulProgram programs
  pub few : length files ≤ file_limit
  pub short : All IsShortFile files
  pub own_names : names_differ files ≡ true
  pub room : length spawns + 1 ≤ process_limit
  pub mapped : mapped_at_start programs spawns ≤ all_mappings_limit
