use Rattle.std.specs.Prelude.{◌≡◌, ℕ, List, Option, None, IsTrue, slice_index_or}
use Rattle.pr_model.specs.Handles.{is_writer, is_exclusive_writer}
use Rattle.pr_model.specs.declared.handles.Held.{Held}

-- Where a process is open for writing exclusively, no other handle has it open for writing (proc(4), "PROGRAMMING
-- NOTES").
pub record AreExclusive (places : List (Option Held)) : Type 0 where
  pub alone : (pid m n : ℕ) → IsTrue (is_exclusive_writer pid (slice_index_or places m None))
      → IsTrue (is_writer pid (slice_index_or places n None)) → m ≡ n
