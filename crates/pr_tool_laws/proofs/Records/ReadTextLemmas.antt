use Rattle.std.proofs.Common.{◌≡◌, ◌≢◌, ◌⊎◌, ◌==◌, ◌+◌, ◌<◌, ◌≤◌, ◌∷◌, ℕ, true, false, List, [], length, map, nat_lt, take, Option, Some, None, IfSome, option_map, refl, ap, ◌∙◌, inl, inr, arith}
use Rattle.std.proofs.lemmas.Bool.{cases_eq, eq-eqb, lt-ltb, ne_eqb}
use Rattle.std.proofs.lemmas.List.{take_all}
use Rattle.std.proofs.lemmas.Option.{IfSome_then}
use Rattle.pr_codec.proofs.WordLemmas.{length-words_bytes}
use Rattle.pr_model.specs.Reads.{file_read, file_reply, of_process, part_read, read_process}
use Rattle.pr_model.specs.Records.{fds_of, list_entries, list_entry_of, list_of, lstatus_of, map_of, psinfo_of}
use Rattle.pr_model.specs.Replies.{bytes_in}
use Rattle.pr_model.specs.State.{TracedProcess, TracedSystem, live_process, process_of}
use Rattle.pr_model.specs.declared.calls.File.TheVariants as file
use Rattle.pr_model.specs.declared.tools.ToolKind.{ToolKind}
use Rattle.pr_model.specs.declared.tools.ToolKind.TheVariants.{Pflags, Psig, Pstack, Pmap, Pfiles, Pstop, Prun, Pwait, Ptree}
use Rattle.pr_num.proofs.ByIdLemmas.{rises_from-head, rises_from-tail}
use Rattle.pr_num.specs.ById.{IsRising, rises_from}
use Rattle.pr_num.specs.Limits.{read_limit}
use Rattle.pr_rec.proofs.EntryLemmas.{length-entries}
use Rattle.pr_rec.specs.RecordBytes.{fds_bytes, list_bytes, lstatus_bytes, map_bytes, psinfo_bytes, sigact_bytes}
use Rattle.pr_rec.specs.RecordWords.{fd_entry_words_of, list_entry_words_of, psinfo_words_of}
use Rattle.pr_rec.specs.InRange.{IsPsinfo}
use Rattle.pr_tools.specs.Ptree.{ids_rise, ptree_text}
use Rattle.pr_tools.specs.Steps.{file_of, record_room}
use Rattle.pr_tool_laws.proofs.Records.ReadBackLemmas.{lwps-length, pfiles-shown, pflags-shown, pmap-shown, psig-shown, ptree-shown, pwait-shown}
use Rattle.pr_tool_laws.specs.OneState.{AreDescriptorsRead, AreDispositionsRead, AreLwpsRead, AreMappingsRead, AreProcessesRead, IsReadBack}
use Rattle.pr_tool_laws.specs.Reads.{bytes_shown, text_read}
use Rattle.pr_tools.specs.RecordTexts.{text_of_record}
use Rattle.pr_tool_laws.specs.TextsOfRecords.{descriptors_text, dispositions_text, end_text, lwps_text, mappings_text}
use Rattle.pr_tool_laws.specs.ToolTexts.{tool_text}

-- What a tool makes of one read is the text of what stands in the state.

-- a record that is no longer than a read is read whole
pub whole-read : (kind : ToolKind) (bytes : List ℕ) → length bytes ≤ read_limit → length bytes ≤ record_room kind
    → take (record_room kind) (part_read bytes 0 read_limit) ≡ bytes
unfolding part_read
whole-read kind bytes fits room =
    ap (take (record_room kind)) (take_all read_limit bytes fits) ∙ take_all (record_room kind) bytes room

-- the same of what a file gives
module _ (kind : ToolKind) (pid : ℕ) (line : TracedProcess → List ℕ) (record_of : TracedProcess → List ℕ)
    (reply_of : Option TracedProcess → Option (List ℕ))
    (gives : (p : TracedProcess) → reply_of (Some p) ≡ Some (part_read (record_of p) 0 read_limit))
    (none : reply_of None ≡ None) (room : record_room kind ≡ read_limit) where
  file-shown : (o : Option TracedProcess)
      → IfSome o (λ p. (length (record_of p) ≤ read_limit) × (text_of_record kind pid (record_of p) ≡ line p))
      → option_map (text_of_record kind pid) (option_map (take (record_room kind)) (reply_of o)) ≡ option_map line o
  file-shown None is = ap (λ r. option_map (text_of_record kind pid) (option_map (take (record_room kind)) r)) none
  file-shown (Some p) is =
      let whole : take (record_room kind) (part_read (record_of p) 0 read_limit) ≡ record_of p =
      whole-read kind (record_of p) is.0 (omega (arith, room, is.0)) in
      ap (λ r. option_map (text_of_record kind pid) (option_map (take (record_room kind)) r)) (gives p)
      ∙ ap (λ bytes. Some (text_of_record kind pid bytes)) whole ∙ ap (λ text. Some text) is.1

-- ---- a row a tool

-- a record is no longer than a read, and its text is this
abbrev IsShownAs : ToolKind → ℕ → List ℕ → List ℕ → Type 0
IsShownAs kind pid bytes text = (length bytes ≤ read_limit) × (text_of_record kind pid bytes ≡ text)

lwps-shown : (pid : ℕ) (p : TracedProcess) → AreLwpsRead p
    → IsShownAs Pflags pid (lstatus_bytes (lstatus_of p)) (lwps_text pid (lstatus_of p))
unfolding text_of_record
lwps-shown pid p are =
    let size = lwps-length pid (lstatus_of p) are.few are.fields in
    (omega (arith, size, are.few), pflags-shown pid (lstatus_of p) are.few are.fields)

dispositions-shown : (pid : ℕ) (p : TracedProcess) → AreDispositionsRead p
    → IsShownAs Psig pid (sigact_bytes p.dispositions) (dispositions_text pid p.dispositions)
unfolding text_of_record sigact_bytes
dispositions-shown pid p are =
    let size = length-words_bytes p.dispositions in
    (omega (arith, size, are.whole), psig-shown pid p.dispositions are.whole are.words)

mappings-shown : (pid : ℕ) (s : TracedSystem) (p : TracedProcess) → AreMappingsRead s p
    → IsShownAs Pmap pid (map_bytes (map_of s p)) (mappings_text pid (map_of s p))
unfolding text_of_record
mappings-shown pid s p are = (are.few, pmap-shown pid (map_of s p) are.fields)

descriptors-shown : (pid : ℕ) (s : TracedSystem) (p : TracedProcess) → AreDescriptorsRead s p
    → IsShownAs Pfiles pid (fds_bytes (fds_of s.files p)) (descriptors_text pid (fds_of s.files p))
unfolding text_of_record fds_bytes
descriptors-shown pid s p are =
    let size = length-entries fd_entry_words_of 8 (λ _. refl) (fds_of s.files p) in
    (omega (arith, size, are.few), pfiles-shown pid (fds_of s.files p) are.fields)

end-shown : (pid : ℕ) (s : TracedSystem) (p : TracedProcess) → IsPsinfo (psinfo_of s pid p)
    → IsShownAs Pwait pid (psinfo_bytes (psinfo_of s pid p)) (end_text (psinfo_of s pid p))
unfolding text_of_record psinfo_bytes psinfo_of
end-shown pid s p is =
    let size = length-words_bytes (psinfo_words_of (psinfo_of s pid p)) in
    (omega (arith, size), pwait-shown pid (psinfo_of s pid p) is refl)

-- ---- the ids of processes rise, also without process 0

rise-after : (es : List (ℕ × TracedProcess)) (least low : ℕ) → least < low → rises_from low es ≡ true
    → ids_rise least (map list_entry_words_of (list_entries es)) ≡ true
unfolding ids_rise list_entry_of
rise-after [] least low below rising = refl
rise-after (e ∷ es) least low below rising =
    let from : low ≤ e.0 = rises_from-head low e es rising in
    let there : (e.0 == 0) ≡ false = ne_eqb e.0 0 (λ none. absurd (omega arith)) in
    let more : nat_lt least e.0 ≡ true = lt-ltb least e.0 (omega arith) in
    rw (there, more) (rise-after es e.0 (e.0 + 1) (omega arith) (rises_from-tail low e es rising))

list-rises : (es : List (ℕ × TracedProcess)) → IsRising es
    → ids_rise 0 (map list_entry_words_of (list_entries es)) ≡ true
unfolding ids_rise list_entry_of
list-rises [] rising = refl
list-rises (e ∷ es) rising = of (cases_eq e.0 0)
  where
    of : (e.0 ≡ 0) ⊎ (e.0 ≢ 0) → ids_rise 0 (map list_entry_words_of (list_entries (e ∷ es))) ≡ true
    of (inl none) =
        rw (eq-eqb e.0 0 none) (rise-after es 0 (e.0 + 1) (omega arith) (rises_from-tail 0 e es rising))
    of (inr some) =
        let more : nat_lt 0 e.0 ≡ true = lt-ltb 0 e.0 (omega arith) in
        rw (ne_eqb e.0 0 some, more) (rise-after es e.0 (e.0 + 1) (omega arith) (rises_from-tail 0 e es rising))

tree-shown : (pid : ℕ) (s : TracedSystem) → AreProcessesRead s → text_read Ptree pid s ≡ tool_text Ptree pid s
unfolding text_read bytes_shown tool_text text_of_record list_bytes list_of record_room
tree-shown pid s are =
    let size = length-entries list_entry_words_of 6 (λ _. refl) (list_of s) in
    let whole : take (record_room Ptree) (list_bytes (list_of s)) ≡ list_bytes (list_of s) =
    take_all (record_room Ptree) (list_bytes (list_of s)) (omega (arith, size, are.few)) in
    ap (λ bytes. Some (ptree_text bytes)) whole
    ∙ ap (λ text. Some text) (ptree-shown (list_of s) are.fields (list-rises s.processes are.rising))

-- ---- all tools

pstop-shown : (pid : ℕ) → text_of_record Pstop pid [] ≡ []
unfolding text_of_record
pstop-shown pid = refl

prun-shown : (pid : ℕ) → text_of_record Prun pid [] ≡ []
unfolding text_of_record
prun-shown pid = refl

pub read-back : (kind : ToolKind) (pid : ℕ) (s : TracedSystem) → IsReadBack kind pid s
    → text_read kind pid s ≡ tool_text kind pid s
unfolding text_read bytes_shown tool_text IsReadBack file_of file_read read_process file_reply bytes_in record_room
read-back Pflags pid s good =
    file-shown Pflags pid (λ p. lwps_text pid (lstatus_of p)) (λ p. lstatus_bytes (lstatus_of p))
    (λ o. bytes_in (of_process s pid 0 0 read_limit file.Lstatus o)) (λ p. refl) refl refl
    (live_process s pid) (IfSome_then (live_process s pid) good (lwps-shown pid))
read-back Psig pid s good =
    file-shown Psig pid (λ p. dispositions_text pid p.dispositions) (λ p. sigact_bytes p.dispositions)
    (λ o. bytes_in (of_process s pid 0 0 read_limit file.Sigact o)) (λ p. refl) refl refl
    (live_process s pid) (IfSome_then (live_process s pid) good (dispositions-shown pid))
read-back Pstack pid s good = absurd good
read-back Pmap pid s good =
    file-shown Pmap pid (λ p. mappings_text pid (map_of s p)) (λ p. map_bytes (map_of s p))
    (λ o. bytes_in (of_process s pid 0 0 read_limit file.Map o)) (λ p. refl) refl refl
    (live_process s pid) (IfSome_then (live_process s pid) good (mappings-shown pid s))
read-back Pfiles pid s good =
    file-shown Pfiles pid (λ p. descriptors_text pid (fds_of s.files p)) (λ p. fds_bytes (fds_of s.files p))
    (λ o. bytes_in (of_process s pid 0 0 read_limit file.Fds o)) (λ p. refl) refl refl
    (live_process s pid) (IfSome_then (live_process s pid) good (descriptors-shown pid s))
read-back Pstop pid s good = ap (λ text. Some text) (pstop-shown pid)
read-back Prun pid s good = ap (λ text. Some text) (prun-shown pid)
read-back Pwait pid s good =
    file-shown Pwait pid (λ p. end_text (psinfo_of s pid p)) (λ p. psinfo_bytes (psinfo_of s pid p))
    (λ o. bytes_in (of_process s pid 0 0 read_limit file.Psinfo o)) (λ p. refl) refl refl
    (process_of s pid) (IfSome_then (process_of s pid) good (end-shown pid s))
read-back Ptree pid s good = tree-shown pid s good
