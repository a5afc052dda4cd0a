-- The text of apfiles: a line for each descriptor that is open.
use Rattle.std.specs.Prelude.{ℕ, ◌==◌, List, ◌++◌, length, Option, Some, None, nat_le, codes, decimal, if◌then◌else◌}
use Rattle.std.specs.List.{flat_map}
use Rattle.pr_codec.specs.Words.{word_at}
use Rattle.pr_num.specs.declared.files.FdKind.{FdKind}
use Rattle.pr_num.specs.declared.files.FdKind.TheVariants.{File, PipeReader, PipeWriter}
use Rattle.pr_tools.specs.Texts.{header, line_end}
use Rattle.pr_probe.specs.declared.descriptor_lines.OpenDescriptor.{OpenDescriptor}

-- what a word of fstat(2) says of its descriptor; other words say nothing
unfoldable pub kind_of_word : ℕ → Option FdKind
kind_of_word w =
    if w == 1 then Some File else (if w == 2 then Some PipeReader else (if w == 3 then Some PipeWriter else None))

-- the same of the first word of an answer; nothing where the answer has no whole word
unfoldable pub kind_in : List ℕ → Option FdKind
kind_in answer = if nat_le 8 (length answer) then kind_of_word (word_at answer 0) else None

-- what a descriptor stands for
unfoldable pub kind_text : FdKind → List ℕ
kind_text File = codes "file"
kind_text PipeReader = codes "pipe read"
kind_text PipeWriter = codes "pipe write"

-- the line of a descriptor
unfoldable pub descriptor_line : OpenDescriptor → List ℕ
descriptor_line line = codes " " ++ decimal line.descriptor ++ codes ": " ++ kind_text line.kind ++ line_end

-- the text of a process, of its open descriptors
unfoldable pub apfiles_text : ℕ → List OpenDescriptor → List ℕ
apfiles_text pid lines = header pid ++ flat_map descriptor_line lines
