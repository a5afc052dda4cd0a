use Rattle.std.specs.Prelude.{ℕ, List, map}
use Rattle.pr_num.specs.declared.files.StoredFile.{StoredFile}
use Rattle.pr_model.specs.FirstState.{stored_file}

-- What a kernel starts with: files as the system keeps them, from their names and bytes.

abbrev pub stored : List (List ℕ × List ℕ) → List StoredFile
stored files = map stored_file files
