-- The stacks of lwps in a space: what pstack(1) shows of a process that stands, live or in a core.
use Rattle.std.specs.Prelude.{◌==◌, ℕ, zero, suc, List, [], ◌∷◌, ◌++◌, Option, None, Some, flat_map, if◌then◌else◌, length, nat_le}
use Rattle.pr_codec.specs.Words.{word_at}
use Rattle.pr_model.specs.Reads.{mapped_from}
use Rattle.pr_model.specs.Registers.{fp_of, pc_of}
use Rattle.pr_num.specs.Layout.{text_base}
use Rattle.pr_num.specs.Programs.{Program}
use Rattle.pr_num.specs.Spaces.{Space}
use Rattle.pr_rec.specs.declared.lwps.LwpStatus.{LwpStatus}
use Rattle.pr_tools.specs.Calls.{short_read}
use Rattle.pr_tools.specs.Pstack.{frame_line, program_of}
use Rattle.pr_tools.specs.Steps.{read_frames}
use Rattle.pr_tools.specs.Texts.{header, line_end, lwp_label}

-- A frame has 16 bytes: the address of the frame before it, and the address to which its function returns. Nothing
-- less is one.
abbrev pub return_and : (ℕ → List ℕ) → List ℕ → List ℕ
return_and earlier bytes = if nat_le short_read (length bytes) then word_at bytes 8 ∷ earlier (word_at bytes 0) else []

-- The return addresses of the frames in memory from a frame pointer on, at most so many. The pointer 0 is that of no
-- frame.
unfoldable pub returns_from : Space → ℕ → ℕ → List ℕ
returns_from space zero frame = []
returns_from space (suc n) frame =
    if frame == 0 then [] else return_and (returns_from space n) (mapped_from space frame short_read)

-- the first instruction of a process, where all of it is mapped
abbrev pub first_instruction : Space → Option (List ℕ)
first_instruction space =
    if nat_le short_read (length (mapped_from space text_base short_read))
    then Some (mapped_from space text_base short_read) else None

-- the stack of an lwp: its pc, and the return addresses of its frames
unfoldable pub lwp_stack : Option Program → Space → LwpStatus → List ℕ
lwp_stack program space l =
    lwp_label l.id ++ line_end ++ frame_line program (pc_of l.regs)
    ++ flat_map (frame_line program) (returns_from space read_frames (fp_of l.regs))

-- the stacks of lwps, with the labels of the first program that begins as the text in the space does
unfoldable pub lwps_stacks : ℕ → List Program → Space → List LwpStatus → List ℕ
lwps_stacks pid programs space lwps =
    header pid ++ flat_map (lwp_stack (program_of programs (first_instruction space)) space) lwps
