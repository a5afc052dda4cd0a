use Rattle.pr_model.specs.Readers.{space_seen}
use Rattle.std.proofs.Common.{◌≡◌, ◌+◌, ◌≤◌, ◌++◌, ◌∷◌, ℕ, suc, true, List, [], length, Option, Some, None, IfSome, slice_get, refl, ap, subst, arith}
use Rattle.std.proofs.lemmas.Bool.{leb-true}
use Rattle.std.proofs.lemmas.List.{length-map}
use Rattle.std.proofs.lemmas.List.Elements.{All-cons, All-head, All-nil, All-tail}
use Rattle.pr_api.proofs.ShapeLemmas.{machine-shaped}
use Rattle.pr_api.specs.Shapes.{has_shape}
use Rattle.pr_lawful.proofs.LawfulTurns.EndLemmas.{found-live}
use Rattle.pr_lawful.proofs.LawfulStates.HistoryLemmas.{history-state}
use Rattle.pr_model.specs.Calls.{answer_to, answered}
use Rattle.pr_model.specs.Lawful.{IsLawfulProcess, IsLawfulSystem}
use Rattle.pr_model.specs.Legal.{IsLegal, after, state_after}
use Rattle.pr_model.specs.Records.{fd_entries_from, fd_entry_before, fds_of, list_of, lstatus_of, map_of, map_entry_of, psinfo_of, statuses_of_lwps}
use Rattle.pr_model.specs.State.{TracedLwp, TracedProcess, TracedState, TracedSystem, live_process, process_of}
use Rattle.pr_model.specs.declared.calls.Call.TheVariants as call
use Rattle.pr_model.specs.declared.calls.Reply.TheVariants as reply
use Rattle.pr_model.specs.declared.events.Entry.{Entry}
use Rattle.pr_model.specs.declared.tools.ToolKind.{ToolKind}
use Rattle.pr_model.specs.declared.tools.ToolKind.TheVariants.{Pflags, Psig, Pstack, Pmap, Pfiles, Pstop, Prun, Pwait, Ptree}
use Rattle.pr_num.proofs.ByIdLaws.{All-under}
use Rattle.pr_num.specs.Files.{Descriptors, FileTable}
use Rattle.pr_num.specs.Limits.{list_limit, read_limit, spawn_limit}
use Rattle.pr_num.specs.Programs.{Program}
use Rattle.pr_num.specs.declared.files.OpenFile.{OpenFile}
use Rattle.pr_parts.specs.FileTables.{at_place}
use Rattle.pr_reached.proofs.RecordsInRange.EntryRanges.{records-range, seen-range}
use Rattle.pr_reached.proofs.StatesInRange.HistoryRanges.{history-range}
use Rattle.pr_reached.specs.AllRecords.{AreRecordsInRange, HasRecordsInRange}
use Rattle.pr_reached.specs.ByteHistories.{HasBytes, IsEntryOfBytes}
use Rattle.pr_reached.specs.InRange.{IsInRange, IsSpaceInRange}
use Rattle.pr_rec.proofs.EntryLemmas.{length-entries}
use Rattle.pr_rec.specs.InRange.{IsPsinfo}
use Rattle.pr_rec.specs.RecordBytes.{list_bytes, map_bytes}
use Rattle.pr_rec.specs.RecordWords.{list_entry_words_of, map_entry_words_of}
use Rattle.pr_tool_laws.proofs.Stages.LawLemmas.{EndsIfAwaited, IsOfKnownState, tool-of-known-state}
use Rattle.pr_tool_laws.specs.OneState.{AreDescriptorsRead, AreDispositionsRead, AreLwpsRead, AreMappingsRead, IsOfOneState, IsReadBack}
use Rattle.pr_tool_laws.specs.ShownStates.{ShowsOneState}
use Rattle.pr_tool_laws.specs.ToolTexts.{reads_once}
use Rattle.pr_tools.specs.Tools.{ToolState, first_tool, has_ended, printed}
use Rattle.pr_world.specs.ControllerStates.{ControllerState, Tool}
use Rattle.pr_world.specs.Protocol.{controllers_at}
use Rattle.pr_reached.specs.HistoriesInRange.{StaysInRange}
use Rattle.pr_tool_laws.specs.Runs.{IsRunOf}

-- In a lawful system in range one read has what stands there, with its fields in their ranges; so a tool shows that.

-- ---- how long the records are

-- a status for each lwp
length-statuses : (p : TracedProcess) (es : List (ℕ × TracedLwp)) → length (statuses_of_lwps p es) ≡ length es
length-statuses p [] = refl
length-statuses p (e ∷ es) = ap suc (length-statuses p es)

length-lstatus : (p : TracedProcess) → length (lstatus_of p) ≡ length p.lwps
unfolding lstatus_of
length-lstatus p = length-statuses p p.lwps

-- an entry at most for each place for a descriptor
entries-within : (files : FileTable) (fd : ℕ) (fds : Descriptors) → length (fd_entries_from files fd fds) ≤ length fds
entries-within files fd [] = omega arith
entries-within files fd (None ∷ fds) = let rest = entries-within files (fd + 1) fds in omega arith
entries-within files fd (Some place ∷ fds) = of (at_place files.opens place) (entries-within files (fd + 1) fds)
  where
    of : (o : Option OpenFile) → length (fd_entries_from files (fd + 1) fds) ≤ length fds
        → length (fd_entry_before files fd o (fd_entries_from files (fd + 1) fds)) ≤ suc (length fds)
    of None rest = omega arith
    of (Some file) rest = omega arith

descriptors-within : (files : FileTable) (p : TracedProcess) → length (fds_of files p) ≤ length p.fds
unfolding fds_of
descriptors-within files p = entries-within files 0 p.fds

-- 64 bytes for each mapping
map-within : (s : TracedSystem) (p : TracedProcess) → IsSpaceInRange (space_seen s p)
    → length (map_bytes (map_of s p)) ≤ read_limit
unfolding map_bytes map_of
map-within s p h =
    let bytes = length-entries map_entry_words_of 8 (λ _. refl) (map_of s p) in
    let many = length-map (space_seen s p) (map_entry_of p.program) in
    let few = h.few in
    omega (arith, bytes, many, few)

-- The list of processes has all but process 0: the reply to the call that gives it is not too long.
list-within : (s : TracedSystem) → IsLawfulSystem s → length (list_of s) ≤ spawn_limit
unfolding has_shape answer_to list_bytes
list-within s h =
    let state : TracedState = record { system = s; opens = []; interrupted = 0 } in
    let shape = machine-shaped state 0 call.List (answered state (reply.Bytes (list_bytes (list_of s)))) h refl in
    let short : length (list_bytes (list_of s)) ≤ list_limit =
    leb-true (length (list_bytes (list_of s))) list_limit shape in
    let bytes = length-entries list_entry_words_of 6 (λ _. refl) (list_of s) in
    omega (arith, bytes, short)

-- ---- a row a tool

module _ (pid : ℕ) (s : TracedSystem) (lawful : IsLawfulSystem s) (ranged : IsInRange s) where
  all-ranged : AreRecordsInRange s
  all-ranged = records-range s lawful ranged

  -- what is so of the process of the tool, if there is one
  of-process : (P : TracedProcess → Type 0)
      → ((p : TracedProcess) → IsLawfulProcess (pid, p) → HasRecordsInRange s pid p → P p) → (o : Option TracedProcess)
      → process_of s pid ≡ o → IfSome o P
  of-process P each None found = tt
  of-process P each (Some p) found =
      each p (All-under IsLawfulProcess pid p s.processes lawful.processes found) (all-ranged.processes pid p found)

  of-live : (P : TracedProcess → Type 0)
      → ((p : TracedProcess) → live_process s pid ≡ Some p → IsLawfulProcess
      (pid, p) → HasRecordsInRange s pid p → P p) → (o : Option TracedProcess) → live_process s pid ≡ o → IfSome o P
  of-live P each None live = tt
  of-live P each (Some p) live =
      let found = (found-live s pid p live).0 in
      each p live (All-under IsLawfulProcess pid p s.processes lawful.processes found)
      (all-ranged.processes pid p found)

  lwps-read : IfSome (live_process s pid) AreLwpsRead
  lwps-read =
      of-live AreLwpsRead (λ p live own records. record {
        fields = records.lstatus;
        few = let size = length-lstatus p in let few = own.few_lwps in omega (arith, size, few);
      }) (live_process s pid) refl

  dispositions-read : IfSome (live_process s pid) AreDispositionsRead
  dispositions-read =
      of-live AreDispositionsRead
      (λ p live own records. record { words = records.dispositions; whole = records.signals })
      (live_process s pid) refl

  mappings-read : IfSome (live_process s pid) (AreMappingsRead s)
  mappings-read =
      of-live (AreMappingsRead s) (λ p live own records. record {
        fields = records.mappings;
        few = map-within s p (seen-range s pid p ranged (found-live s pid p live).0);
      }) (live_process s pid) refl

  descriptors-read : IfSome (live_process s pid) (AreDescriptorsRead s)
  descriptors-read =
      of-live (AreDescriptorsRead s) (λ p live own records. record {
        fields = records.descriptors;
        few =
            let within = descriptors-within s.files p in
            let places = own.descriptors in
            omega (arith, within, places);
      }) (live_process s pid) refl

  psinfo-read : IfSome (process_of s pid) (λ p. IsPsinfo (psinfo_of s pid p))
  psinfo-read = of-process (λ p. IsPsinfo (psinfo_of s pid p)) (λ p own records. records.psinfo) (process_of s pid) refl

  pub all-read : (kind : ToolKind) → reads_once kind ≡ true → IsReadBack kind pid s
  unfolding IsReadBack reads_once
  all-read Pflags once = lwps-read
  all-read Psig once = dispositions-read
  all-read Pstack once = absurd (cc)
  all-read Pmap once = mappings-read
  all-read Pfiles once = descriptors-read
  all-read Pstop once = tt
  all-read Prun once = tt
  all-read Pwait once = psinfo-read
  all-read Ptree once = record { fields = all-ranged.listed; few = list-within s lawful; rising = lawful.rising }

-- ---- the front of a history

pub front-legal : (n : ℕ) (s : TracedState) (before rest : List Entry) → IsLegal n s (before ++ rest)
    → IsLegal n s before
front-legal n s [] rest legal = tt
front-legal n s (e ∷ before) rest legal = (legal.0, front-legal n (after s e) before rest legal.1)

pub front-bytes : (before rest : List Entry) → HasBytes (before ++ rest) → HasBytes before
front-bytes [] rest bytes = All-nil IsEntryOfBytes
front-bytes (e ∷ before) rest bytes =
    All-cons IsEntryOfBytes e before (All-head IsEntryOfBytes e (before ++ rest) bytes)
    (front-bytes before rest (All-tail IsEntryOfBytes e (before ++ rest) bytes))

-- ---- what a tool shows

-- a text of one state is what stands there
stands-there : (n k : ℕ) (kind : ToolKind) (pid : ℕ) (s : TracedState) (h : List Entry) (text : List ℕ)
    → StaysInRange s h → IsLegal n s h → reads_once kind ≡ true
    → IsOfKnownState k kind pid s (EndsIfAwaited kind pid) h text → ShowsOneState k kind pid s h text
stands-there n k kind pid s h text stays legal once of_known =
    let it : IsOfOneState k kind pid s h text = of_known.one in
    let legal_before : IsLegal n s it.before =
    front-legal n s it.before _ (subst (λ (g : List Entry). IsLegal n s g) it.place legal) in
    let bytes_before : HasBytes it.before = front-bytes it.before _ (subst HasBytes it.place stays.bytes) in
    let system : IsLawfulSystem (state_after s it.before).system =
    (history-state n s it.before stays.lawful legal_before).system in
    let range : IsInRange (state_after s it.before).system =
    history-range n s it.before stays.lawful stays.in_range bytes_before legal_before in
    record {
      before = it.before;
      call = it.call;
      reply = it.reply;
      after = it.after;
      place = it.place;
      reads = it.reads;
      read = it.read;
      shown = it.shown (all-read pid (state_after s it.before).system system range kind once);
      over = of_known.known;
    }

-- from a lawful state in range a tool shows what stands in one state
pub tool-shows : (controllers : List ControllerState) (n k : ℕ) (kind : ToolKind) (pid : ℕ) (s : TracedState)
    (h : List Entry) (t : ToolState) (programs : List Program) → StaysInRange s h → reads_once kind ≡ true
    → IsRunOf n k (Tool (first_tool kind pid)) controllers s h
    → slice_get (controllers_at controllers h) k ≡ Some (Tool t) → has_ended t ≡ true → t.refusal ≡ None
    → ShowsOneState k kind pid s h (printed t programs)
tool-shows controllers n k kind pid s h t programs stays once run ends ended accepted =
    stands-there n k kind pid s h (printed t programs) stays run.legal once
    (tool-of-known-state controllers n k kind pid s h t programs stays.lawful once run ends ended accepted)
