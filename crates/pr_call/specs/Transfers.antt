use Rattle.std.specs.Prelude.{ℕ, List, [], ◌∷◌, Result, Ok, Err, length}
use Rattle.pr_num.specs.Files.{FileTable, Descriptors}
use Rattle.pr_num.specs.Spaces.{Space}
use Rattle.pr_parts.specs.AddressSpaces.{with_bytes}
use Rattle.pr_parts.specs.declared.files.FileNo.{FileNo}
use Rattle.pr_model.specs.Changes.{Effect, files_are, gives, space_is}
use Rattle.pr_model.specs.FileCallRows.{refusal_effect}

-- the effect of a read that the files answered so, into the memory from an address on
abbrev pub read_meant : Descriptors → Space → ℕ → FileTable → Result (List ℕ) FileNo → Effect
read_meant fds space at files (Ok bytes) =
    gives (length bytes) (files_are files fds ∷ space_is (with_bytes at bytes space) ∷ [])
read_meant fds space at files (Err why) = refusal_effect why
