use Rattle.std.proofs.Common.{◌≡◌, ℕ, zero, suc, List, ◌++◌, All, map, codes, decimal, refl, ap}
use Rattle.pr_num.specs.Spaces.{kind_number, kind_of_number}
use Rattle.pr_num.specs.declared.mappings.MappingKind.{MappingKind}
use Rattle.pr_num.specs.declared.mappings.MappingKind.TheVariants.{Text, Data, Heap, Stack, Mapped}
use Rattle.pr_rec.specs.Fields.{name_words}
use Rattle.pr_rec.specs.InRange.{IsFdEntry, IsListEntry, IsLwpStatus, IsMapEntry, IsNameField}
use Rattle.pr_rec.specs.RecordWords.{fd_entry_words_of, list_entry_words_of, lwpstatus_words_of, map_entry_words_of}
use Rattle.pr_rec.specs.declared.entries.FdEntry.{FdEntry}
use Rattle.pr_num.specs.declared.files.FdKind.{FdKind}
use Rattle.pr_num.specs.declared.files.FdKind.TheVariants.{File, PipeReader, PipeWriter}
use Rattle.pr_rec.specs.declared.entries.ListEntry.{ListEntry}
use Rattle.pr_rec.specs.declared.lwps.LwpStatus.{LwpStatus}
use Rattle.pr_rec.specs.declared.mappings.MapEntry.{MapEntry}
use Rattle.pr_tools.proofs.FieldLemmas.{name_back, reason_back}
use Rattle.pr_tools.specs.Pfiles as files
use Rattle.pr_tools.specs.Pflags as flags
use Rattle.pr_tools.specs.Pmap as maps
use Rattle.pr_tools.specs.Ptree as trees
use Rattle.pr_tools.specs.Ptree.{deeper}
use Rattle.pr_tools.specs.Texts.{name_in, name_of_words, line_end}
use Rattle.pr_tool_laws.proofs.Records.EntryLemmas.{lines-alike}
use Rattle.pr_tool_laws.specs.TextsOfRecords.{branch_text, descriptor_line, lwp_line, mapping_line, process_line, text_below}

-- The line that a tool makes of the words of a record is that of its fields.

name-shown : (name : List ℕ) → IsNameField name → name_of_words (name_words name) ≡ name_in name
name-shown name field = ap name_in (name_back name field.whole field.bytes)

pub lwp-shown : (l : LwpStatus) → IsLwpStatus l → flags.lwp_line (lwpstatus_words_of l) ≡ lwp_line l
unfolding flags.lwp_line lwp_line
lwp-shown l is = rw (reason_back l.why) refl

kind-shown : (k : MappingKind) → maps.kind_text (kind_of_number (kind_number k)) ≡ maps.kind_name k
unfolding kind_number
kind-shown Text = refl
kind-shown Data = refl
kind-shown Heap = refl
kind-shown Stack = refl
kind-shown Mapped = refl

pub mapping-shown : (m : MapEntry) → IsMapEntry m → maps.mapping_line (map_entry_words_of m) ≡ mapping_line m
unfolding maps.mapping_line maps.place_text mapping_line
mapping-shown m is = rw (kind-shown m.kind, name-shown m.name is.name) refl

pub descriptor-shown : (d : FdEntry) → IsFdEntry d → files.descriptor_line (fd_entry_words_of d) ≡ descriptor_line d
unfolding files.descriptor_line files.target_text files.file_text descriptor_line
descriptor-shown d is = of d.kind
  where
    of : (k : FdKind)
        → codes " " ++ decimal d.descriptor ++ codes ": " ++ files.target_text
        (fd_entry_words_of (record d { kind = k })) ++ line_end ≡ descriptor_line (record d { kind = k })
    of File = rw (name-shown d.name is.name) refl
    of PipeReader = refl
    of PipeWriter = refl

process-shown : (depth : ℕ) (p : ListEntry) → IsListEntry p
    → trees.process_line depth (list_entry_words_of p) ≡ process_line depth p
unfolding trees.process_line process_line
process-shown depth p is = rw (name-shown p.program is.program) refl

-- a branch, where what stands below is the same
branch-shown : (depth parent : ℕ) (below below' : ℕ → List ℕ) → ((id : ℕ) → below id ≡ below' id) → (p : ListEntry)
    → IsListEntry p → trees.branch_lines depth parent below (list_entry_words_of p) ≡ branch_text depth parent below' p
unfolding trees.branch_lines branch_text
branch-shown depth parent below below' same p is = rw (process-shown depth p is, same p.id) refl

pub below-shown : (levels depth : ℕ) (processes : List ListEntry) (parent : ℕ) → All IsListEntry processes
    → trees.lines_below levels depth
    (map list_entry_words_of processes) parent ≡ text_below levels depth processes parent
unfolding trees.lines_below text_below
below-shown zero depth processes parent all = refl
below-shown (suc levels) depth processes parent all =
    lines-alike list_entry_words_of
    (trees.branch_lines depth parent (trees.lines_below levels (deeper depth) (map list_entry_words_of processes)))
    (branch_text depth parent (text_below levels (deeper depth) processes)) IsListEntry
    (branch-shown depth parent _ _ (λ id. below-shown levels (deeper depth) processes id all)) processes all
