-- The text of pwait(1): that a process has ended.
use Rattle.std.specs.Prelude.{ℕ, List, [], ◌++◌, Result, Ok, Err, slice_index, codes, decimal}
use Rattle.pr_num.specs.Records.{psinfo_ranges}
use Rattle.pr_rec.specs.Reading.{record_read}
use Rattle.pr_rec.specs.declared.faults.RecFault.{RecFault}
use Rattle.pr_text.specs.Numerals.{hex8_text}
use Rattle.pr_tools.specs.Texts.{line_end}

-- the line of a process with its wait status
unfoldable pub end_line : ℕ → ℕ → List ℕ
end_line pid status = decimal pid ++ codes ": terminated, wait status " ++ hex8_text status ++ line_end

-- the line of what ps(1) shows of a process, where that is not malformed
abbrev pub end_line_in : ℕ → Result (List ℕ) RecFault → List ℕ
end_line_in pid (Ok words) = end_line pid (slice_index words 4)
end_line_in pid (Err fault) = []

-- the text of a process that has ended, of what ps(1) shows of it
unfoldable pub pwait_text : ℕ → List ℕ → List ℕ
pwait_text pid bytes = end_line_in pid (record_read psinfo_ranges bytes)
