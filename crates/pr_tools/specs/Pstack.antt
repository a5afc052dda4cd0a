-- The text of pstack(1): the call stack of each lwp.
use Rattle.std.specs.Prelude.{ℕ, ◌==◌, Bool, false, List, [], ◌∷◌, ◌++◌, Option, Some, None, slice_index, find, codes, if◌then◌else◌}
use Rattle.std.specs.List.{flat_map}
use Rattle.std.specs.Str.{bytes_eq}
use Rattle.pr_asm.specs.Symbols.{symbol_at}
use Rattle.pr_num.specs.Instructions.{instruction_bytes}
use Rattle.pr_num.specs.Programs.{Program}
use Rattle.pr_num.specs.declared.instructions.Instruction.{Instruction}
use Rattle.pr_text.specs.Numerals.{hex_text, hex8_text}
use Rattle.pr_tools.specs.Entries.{lwps_in}
use Rattle.pr_tools.specs.Texts.{header, lwp_label, line_end}
use Rattle.pr_tools.specs.declared.stacks.CallFrame.{CallFrame}

-- whether a program's text begins with these 16 bytes
unfoldable pub begins_with : List ℕ → List Instruction → Bool
begins_with bytes [] = false
begins_with bytes (i ∷ code) = bytes_eq (instruction_bytes i) bytes

-- the first program that begins with the first instruction of a process, where that was read
unfoldable pub program_of : List Program → Option (List ℕ) → Option Program
program_of programs None = None
program_of programs (Some bytes) = find (λ (p : Program). begins_with bytes p.code) programs

-- a label of a program, and how far behind it an address lies
abbrev pub distance_text : Option (List ℕ × ℕ) → List ℕ
distance_text None = codes "?"
distance_text (Some s) = s.0 ++ codes "+" ++ hex_text s.1

-- the label to which an address belongs, where there is one
unfoldable pub symbol_text : Option Program → ℕ → List ℕ
symbol_text None pc = codes "?"
symbol_text (Some p) pc = distance_text (symbol_at p pc)

-- the line of a frame
unfoldable pub frame_line : Option Program → ℕ → List ℕ
frame_line program pc = codes "  " ++ hex8_text pc ++ codes " " ++ symbol_text program pc ++ line_end

-- the line of a frame that is one of an lwp's
unfoldable pub frame_line_of : Option Program → ℕ → CallFrame → List ℕ
frame_line_of program lwp f = if f.lwp == lwp then frame_line program f.pc else []

-- the stack of an lwp: its pc, and the frames of it that were read
unfoldable pub stack_text : Option Program → List CallFrame → List ℕ → List ℕ
stack_text program frames words =
    lwp_label (slice_index words 1) ++ line_end ++ frame_line program (slice_index words 28)
    ++ flat_map (frame_line_of program (slice_index words 1)) frames

-- the stacks of the lwps, where their status is not malformed
abbrev pub stack_texts : Option Program → List CallFrame → Option (List (List ℕ)) → List ℕ
stack_texts program frames None = []
stack_texts program frames (Some lwps) = flat_map (stack_text program frames) lwps

-- the text of a process, of the status of all its lwps, its first instruction, and the frames of their stacks
unfoldable pub pstack_text : ℕ → List ℕ → Option (List ℕ) → List CallFrame → List Program → List ℕ
pstack_text pid bytes first frames programs =
    header pid ++ stack_texts (program_of programs first) frames (lwps_in bytes)
