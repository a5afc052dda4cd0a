use Rattle.std.proofs.Common.{◌≡◌, ◌+◌, ◌-◌, ◌<◌, ◌≤◌, ℕ, eqb, length, map, replicate, Option, Some, None, List, [], ◌∷◌, refl, ◌∙◌, arith}
use Rattle.std.specs.List.{All, slice_get}
use Rattle.std.specs.Option.{unwrap_or}
use Rattle.std.proofs.lemmas.List.{length-append, length-replicate}
use Rattle.std.proofs.lemmas.List.Elements.{All-append, All-cons, All-head, All-map, All-nil, All-replicate, All-tail, All-weaker}
use Rattle.std.proofs.lemmas.List.Sums.{sum_by-cons}
use Rattle.pr_reached.proofs.StatesInRange.MemoryRanges.{nothing-mapped}
use Rattle.pr_num.proofs.ByIdLaws.{All-under}
use Rattle.pr_num.proofs.SearchLemmas.{All-at}
use Rattle.pr_num.specs.Files.{Descriptors, FileTable}
use Rattle.pr_num.specs.Limits.{all_mappings_limit, descriptor_limit}
use Rattle.pr_num.specs.Records.{name_field}
use Rattle.pr_num.specs.Spaces.{Space, mapped_size}
use Rattle.pr_num.specs.Words.{IsByte, IsWord}
use Rattle.pr_num.specs.declared.files.OpenFile.{OpenFile}
use Rattle.pr_num.specs.declared.files.StoredFile.{StoredFile}
use Rattle.pr_num.specs.declared.files.Target.{Target}
use Rattle.pr_num.specs.declared.files.Target.TheVariants.{File, PipeReader, PipeWriter}
use Rattle.pr_num.specs.declared.mappings.Mapping.{Mapping}
use Rattle.pr_num.specs.declared.mappings.MappingKind.{MappingKind}
use Rattle.pr_num.specs.declared.mappings.MappingKind.TheVariants.{Text, Data, Heap, Stack, Mapped}
use Rattle.pr_parts.specs.FileCalls.{name_of}
use Rattle.pr_parts.specs.FileTables.{IsOpenPlace, at_place}
use Rattle.pr_rec.specs.InRange.{IsFdEntry, IsListEntry, IsMapEntry, IsNameField, IsPsinfo, IsWatchEntry}
use Rattle.pr_lawful.proofs.ProcessParts.FileLemmas.{choice}
use Rattle.pr_model.specs.Lawful.{HasParent, IsLawfulProcess, IsLawfulSystem, IsNumberedBelow}
use Rattle.pr_model.specs.Readers.{size_seen, space_seen}
use Rattle.pr_model.specs.Records.{fd_entries_from, fd_entry_before, fd_entry_of, fds_of, list_entries, list_entry_of, list_of, map_entry_of, map_of, mapping_name, psinfo_of, watch_entry_of, watch_of}
use Rattle.pr_model.specs.State.{TracedProcess, TracedSystem, process_of}
use Rattle.pr_reached.proofs.StatesInRange.CallRanges.{parent-below, parent-id, process-id}
use Rattle.pr_reached.proofs.StatesInRange.ProcessRanges.{ProcessInRange, process-range}
use Rattle.pr_reached.proofs.RecordsInRange.RecordRanges.{lstatus-of-range, lwpstatus-of-range, status-range, seen-word, shown-one}
use Rattle.pr_reached.specs.AllRecords.{AreRecordsInRange}
use Rattle.pr_reached.specs.InRange.{AreFilesInRange, IsAreaInRange, IsFileInRange, IsInRange, IsMappingInRange, IsShortName, IsProcessInRange, IsWordIf, IsSpaceInRange}

-- The other records of a lawful system in range have their fields in their ranges: what ps(1) shows, mappings, watched
-- areas, descriptors, and the list of processes.

-- ---- names

no-name : IsShortName []
no-name = record { short = omega arith; bytes = All-nil IsByte }

name-field : (name : List ℕ) → IsShortName name → IsNameField (name_field name)
name-field name it =
    let short = it.short in
    let zeros : length (replicate {A = ℕ} (32 - length name) 0) ≡ 32 - length name =
    length-replicate (32 - length name) 0 in
    record {
      whole = length-append name (replicate (32 - length name) 0) ∙ omega arith;
      bytes =
          All-append IsByte name (replicate (32 - length name) 0) it.bytes
          (All-replicate IsByte (32 - length name) 0 (omega arith));
    }

-- ---- what ps(1) shows

status-word : (o : Option ℕ) → IsWordIf o → IsWord (unwrap_or o 0)
status-word None it = omega arith
status-word (Some status) it = it

pub psinfo-range : (s : TracedSystem) (pid : ℕ) (p : TracedProcess) → IsLawfulSystem s → IsInRange s
    → process_of s pid ≡ Some p → IsPsinfo (psinfo_of s pid p)
unfolding psinfo_of size_seen
psinfo-range s pid p lawful h found =
    let own = All-under IsLawfulProcess pid p s.processes lawful.processes found in
    let ranged = process-range s pid p h found in
    let id_below = process-id s pid p lawful found in
    let parent_below = parent-id s pid p lawful found in
    record {
      id = omega arith;
      parent = omega arith;
      lwps = let few = own.few_lwps in omega arith;
      wait_status = status-word p.ended ranged.ended;
      mapped = let size = seen-word s pid p lawful found in omega arith;
      made_at = ranged.made_at;
      program = name-field p.program ranged.program;
    }

-- ---- mappings

-- no mapping is larger than all
record IsWithin (size : ℕ) (m : Mapping) : Type 0 where
  within : length m.bytes ≤ size

each-within : (size : ℕ) (space : Space) → mapped_size space ≤ size → All (IsWithin size) space
each-within size [] small = All-nil (IsWithin size)
each-within size (m ∷ space) small =
    let whole = sum_by-cons (λ (x : Mapping). length x.bytes) m space in
    All-cons (IsWithin size) m space (record { within = omega arith }) (each-within size space (omega arith))

mapping-name : (program : List ℕ) (kind : MappingKind) → IsShortName program → IsShortName (mapping_name program kind)
mapping-name program Text it = it
mapping-name program Data it = it
mapping-name program Heap it = no-name
mapping-name program Stack it = no-name
mapping-name program Mapped it = no-name

maps-range : (program : List ℕ) (space : Space) → IsShortName program → All (IsWithin all_mappings_limit) space
    → All IsMappingInRange space → All IsMapEntry (map (map_entry_of program) space)
unfolding map_entry_of
maps-range program [] named small all = All-nil IsMapEntry
maps-range program (m ∷ space) named small all =
    let own = All-head IsMappingInRange m space all in
    let size = (All-head (IsWithin all_mappings_limit) m space small).within in
    All-cons IsMapEntry (map_entry_of program m) (map (map_entry_of program) space)
    (record {
      at = own.at;
      size = omega arith;
      prot = own.prot;
      name = name-field (mapping_name program m.kind) (mapping-name program m.kind named);
    })
    (maps-range program space named (All-tail (IsWithin all_mappings_limit) m space small)
    (All-tail IsMappingInRange m space all))

-- what a process shows is in range
pub seen-range : (s : TracedSystem) (pid : ℕ) (p : TracedProcess) → IsInRange s → process_of s pid ≡ Some p
    → IsSpaceInRange (space_seen s p)
seen-range s pid p h found =
    shown-one IsSpaceInRange s nothing-mapped (λ other q there. (process-range s other q h there).space) s.made
    p.borrower p.space (process-range s pid p h found).space

pub map-range : (s : TracedSystem) (pid : ℕ) (p : TracedProcess) → IsLawfulSystem s → IsInRange s
    → process_of s pid ≡ Some p → All IsMapEntry (map_of s p)
unfolding map_of
map-range s pid p lawful h found =
    let ranged = process-range s pid p h found in
    maps-range p.program (space_seen s p) ranged.program
    (each-within all_mappings_limit (space_seen s p) (seen-word s pid p lawful found))
    (seen-range s pid p h found).mappings

-- ---- watched areas

pub watch-range : (p : TracedProcess) → IsProcessInRange p → All IsWatchEntry (watch_of p)
unfolding watch_of watch_entry_of
watch-range p h =
    All-map IsWatchEntry watch_entry_of p.control.areas
    (All-weaker IsAreaInRange (λ a. IsWatchEntry (watch_entry_of a))
    (λ a it. record { at = it.at; size = it.size; flags = it.flags }) p.control.areas h.control.areas)

-- ---- descriptors

file-name : (files : FileTable) (target : Target) → AreFilesInRange files
    → IsShortName (unwrap_or (name_of files target) [])
file-name files (File place) h = by (slice_get files.files place) refl
  where
    by : (o : Option StoredFile) → slice_get files.files place ≡ o
        → IsShortName (unwrap_or (name_of files (File place)) [])
    by None is = rw is no-name
    by (Some f) is = rw is (All-at IsFileInRange files.files place f is h.files).name
file-name files (PipeReader place) h = no-name
file-name files (PipeWriter place) h = no-name

module _ (files : FileTable) (h : AreFilesInRange files)
    (opens : All (IsOpenPlace files.files files.pipes) files.opens) where
  -- the offset of an open file
  IsOffset : Option OpenFile → Type 0
  IsOffset None = Unit {0}
  IsOffset (Some o) = IsWord o.offset

  offset-word : (place : ℕ) → IsOffset (at_place files.opens place)
  unfolding IsOffset
  offset-word place = by (slice_get files.opens place) refl
    where
      by : (o : Option (Option OpenFile)) → slice_get files.opens place ≡ o → IsOffset (at_place files.opens place)
      by None is = rw is tt
      by (Some None) is = rw is tt
      by (Some (Some o)) is =
          rw is (let it = All-at (IsOpenPlace files.files files.pipes) files.opens place
          (Some o) is opens in let within = it.within in omega arith)

  entry-before : (fd : ℕ) (o : Option OpenFile) (others : _) → fd < descriptor_limit → IsOffset o
      → All IsFdEntry others → All IsFdEntry (fd_entry_before files fd o others)
  unfolding fd_entry_of IsOffset
  entry-before fd None others below fits rest = rest
  entry-before fd (Some o) others below fits rest =
      All-cons IsFdEntry (fd_entry_of files fd o) others
      (record {
        descriptor = below;
        offset = fits;
        name = name-field (unwrap_or (name_of files o.target) [])
            (file-name files o.target h);
      }) rest

  entries-range : (fd : ℕ) (fds : Descriptors) → fd + length fds ≤ descriptor_limit
      → All IsFdEntry (fd_entries_from files fd fds)
  entries-range fd [] few = All-nil IsFdEntry
  entries-range fd (None ∷ fds) few = entries-range (fd + 1) fds (omega arith)
  entries-range fd (Some place ∷ fds) few =
      entry-before fd (at_place files.opens place) (fd_entries_from files (fd + 1) fds) (omega arith)
      (offset-word place) (entries-range (fd + 1) fds (omega arith))

pub fds-range : (s : TracedSystem) (pid : ℕ) (p : TracedProcess) → IsLawfulSystem s → IsInRange s
    → process_of s pid ≡ Some p → All IsFdEntry (fds_of s.files p)
unfolding fds_of
fds-range s pid p lawful h found =
    let own = All-under IsLawfulProcess pid p s.processes lawful.processes found in
    entries-range s.files h.files lawful.files.table.open_files 0 p.fds (let places = own.descriptors in omega arith)

-- ---- the list of processes

module _ (s : TracedSystem) (lawful : IsLawfulSystem s) where
  listed-range : (es : List (ℕ × TracedProcess)) → All (IsNumberedBelow s.made) es → All (HasParent s) es
      → All ProcessInRange es → All IsListEntry (list_entries es)
  unfolding list_entry_of
  listed-range [] numbered parents all = All-nil IsListEntry
  listed-range (e ∷ es) numbered parents all =
      let rest =
      listed-range es (All-tail (IsNumberedBelow s.made) e es numbered) (All-tail (HasParent s) e es parents)
      (All-tail ProcessInRange e es all) in
      let id_below = (All-head (IsNumberedBelow s.made) e es numbered).id in
      let made = lawful.made in
      let parent_below = parent-below s lawful e (All-head (HasParent s) e es parents) in
      choice (All IsListEntry) (eqb e.0 0) _ _ (λ system. rest)
      (λ user. All-cons IsListEntry (list_entry_of e.0 e.1) (list_entries es)
      (record {
        id = omega arith;
        parent = omega arith;
        program = name-field e.1.program
            (All-head ProcessInRange e es all).program;
      }) rest)

pub list-range : (s : TracedSystem) → IsLawfulSystem s → IsInRange s → All IsListEntry (list_of s)
unfolding list_of
list-range s lawful h = listed-range s lawful s.processes lawful.numbered lawful.parents h.processes

-- ---- every record

pub records-range : (s : TracedSystem) → IsLawfulSystem s → IsInRange s → AreRecordsInRange s
records-range s lawful h = record {
  processes = λ pid p found.
      let ranged = process-range s pid p h found in
      record {
        status = status-range s pid p lawful h found;
        lstatus = lstatus-of-range s pid p lawful h found;
        lwpstatus = λ id l there. lwpstatus-of-range s pid id p l lawful h found there;
        psinfo = psinfo-range s pid p lawful h found;
        mappings = map-range s pid p lawful h found;
        dispositions = ranged.dispositions.words;
        signals = ranged.dispositions.count;
        areas = watch-range p ranged;
        descriptors = fds-range s pid p lawful h found;
      };
  listed = list-range s lawful h;
}
