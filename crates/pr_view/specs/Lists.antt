use Rattle.std.specs.Prelude.{◌==◌, ℕ, List, [], ◌∷◌, if◌then◌else◌}
use Rattle.pr_model.specs.Records.{list_entry_of}
use Rattle.pr_model.specs.State.{TracedProcess}
use Rattle.pr_rec.specs.declared.entries.ListEntry.{ListEntry}

-- what a process adds to the list of them: process 0 is not listed
unfoldable pub listed : ℕ → TracedProcess → List ListEntry
listed pid p = if pid == 0 then [] else list_entry_of pid p ∷ []
