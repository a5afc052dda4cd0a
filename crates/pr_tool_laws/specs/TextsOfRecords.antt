use Rattle.std.specs.Prelude.{ℕ, zero, suc, ◌*◌, ◌/◌, ◌==◌, false, List, [], ◌++◌, length, replicate, sum_by, codes, decimal, if◌then◌else◌}
use Rattle.std.specs.List.{flat_map}
use Rattle.pr_num.specs.Signals.{signals}
use Rattle.pr_num.specs.Files.{access_number}
use Rattle.pr_rec.specs.declared.entries.FdEntry.{FdEntry}
use Rattle.pr_num.specs.declared.files.FdKind.{FdKind}
use Rattle.pr_num.specs.declared.files.FdKind.TheVariants.{File, PipeReader, PipeWriter}
use Rattle.pr_rec.specs.declared.entries.ListEntry.{ListEntry}
use Rattle.pr_rec.specs.declared.lwps.LwpStatus.{LwpStatus}
use Rattle.pr_rec.specs.declared.mappings.MapEntry.{MapEntry}
use Rattle.pr_rec.specs.declared.processes.Psinfo.{Psinfo}
use Rattle.pr_text.specs.Bytes.{blank}
use Rattle.pr_text.specs.Numerals.{hex8_text}
use Rattle.pr_text.specs.Quotes.{quoted_text}
use Rattle.pr_tools.specs.Pflags.{flags_text, stop_text}
use Rattle.pr_tools.specs.Pmap.{kind_name, named, prot_text, total_line}
use Rattle.pr_tools.specs.Psig.{signal_lines}
use Rattle.pr_tools.specs.Ptree.{deeper}
use Rattle.pr_tools.specs.Pwait.{end_line}
use Rattle.pr_tools.specs.Texts.{header, lwp_label, name_in, line_end}

-- The text of each tool (proc(1), pmap(1)) as a function of the records that it shows: a line a thing, of its fields.

-- ---- pflags: how each lwp stands

-- its flags by name; and where it is stopped, why, and on what
unfoldable pub lwp_line : LwpStatus → List ℕ
lwp_line l = lwp_label l.id ++ codes " " ++ flags_text l.flags ++ stop_text l.why l.what ++ line_end

unfoldable pub lwps_text : ℕ → List LwpStatus → List ℕ
lwps_text pid lwps = header pid ++ flat_map lwp_line lwps

-- ---- psig: what a process does at each signal, in the order of the signals

unfoldable pub dispositions_text : ℕ → List ℕ → List ℕ
dispositions_text pid dispositions = header pid ++ signal_lines signals dispositions

-- ---- pmap: what a process has mapped, and the sum

-- the size of a mapping in units of 1,024 bytes
abbrev pub units : MapEntry → ℕ
units m = m.size / 1024

-- where it lies, how large it is, what is allowed there, what it is, and its name, if it has one
unfoldable pub mapping_line : MapEntry → List ℕ
mapping_line m =
    (codes " " ++ hex8_text m.at ++ codes " " ++ decimal (units m) ++ codes "K ") ++ prot_text m.prot ++ codes " "
    ++ kind_name m.kind ++ named (name_in m.name) ++ line_end

unfoldable pub mappings_text : ℕ → List MapEntry → List ℕ
mappings_text pid mappings = header pid ++ (flat_map mapping_line mappings ++ total_line (sum_by units mappings))

-- ---- pfiles: the open descriptors of a process

-- of a file its name, for what it is open, and where the next read or write begins
abbrev pub file_text : FdEntry → List ℕ
file_text d =
    codes "file " ++ quoted_text (name_in d.name) false ++ codes " mode " ++ decimal (access_number d.access)
    ++ codes " offset " ++ decimal d.offset

abbrev pub target_text : FdEntry → FdKind → List ℕ
target_text d File = file_text d
target_text d PipeReader = codes "pipe read"
target_text d PipeWriter = codes "pipe write"

unfoldable pub descriptor_line : FdEntry → List ℕ
descriptor_line d = codes " " ++ decimal d.descriptor ++ codes ": " ++ target_text d d.kind ++ line_end

unfoldable pub descriptors_text : ℕ → List FdEntry → List ℕ
descriptors_text pid descriptors = header pid ++ flat_map descriptor_line descriptors

-- ---- ptree: the processes as a tree

-- a process, with two blanks for each level of its depth
unfoldable pub process_line : ℕ → ListEntry → List ℕ
process_line depth p = replicate (2 * depth) blank ++ decimal p.id ++ codes " " ++ name_in p.program ++ line_end

-- a child of this one and the lines of its own children, by its id; nothing of any other process
unfoldable pub branch_text : ℕ → ℕ → (ℕ → List ℕ) → ListEntry → List ℕ
branch_text depth parent children p = if p.parent == parent then process_line depth p ++ children p.id else []

-- the children of a process in the order of the list, each with its own below it, so many levels deep
unfoldable pub text_below : ℕ → ℕ → List ListEntry → ℕ → List ℕ
text_below zero depth processes parent = []
text_below (suc levels) depth processes parent =
    flat_map (branch_text depth parent (text_below levels (deeper depth) processes)) processes

-- All processes, those without a parent at the top. No tree has more levels than there are processes.
unfoldable pub tree_text : List ListEntry → List ℕ
tree_text processes = text_below (length processes) 0 processes 0

-- ---- pwait: that a process has ended, with its wait status

unfoldable pub end_text : Psinfo → List ℕ
end_text p = end_line p.id p.wait_status
