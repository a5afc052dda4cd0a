use Rattle.std.proofs.Common.{◌≡◌, ◌++◌, ℕ, Bool, true, false, List, [], Some, Ok, refl, sym, ap, ◌∙◌, arith}
use Rattle.std.proofs.lemmas.List.{append-nil}
use Rattle.pr_codec.proofs.WordLemmas.{length-words_bytes}
use Rattle.pr_core_laws.proofs.OneState.ReadLemmas.{all-read}
use Rattle.pr_keeps.proofs.CallLemmas.{call-edit}
use Rattle.pr_keeps.specs.CallEdits as edit
use Rattle.pr_keeps.specs.CallEdits.{CallEdit}
use Rattle.pr_model.specs.Calls.{Answer, answer_to}
use Rattle.pr_model.specs.Handles.{with_opened as with_one_open}
use Rattle.pr_model.specs.Lawful.{IsLawfulProcess}
use Rattle.pr_model.specs.Reads.{part_read}
use Rattle.pr_model.specs.Replies.{bytes_in}
use Rattle.pr_model.specs.State.{TracedProcess, TracedState, TracedSystem}
use Rattle.pr_model.specs.Statuses.{status_of}
use Rattle.pr_model.specs.declared.calls.Call.{Call}
use Rattle.pr_model.specs.declared.calls.Call.TheVariants as call
use Rattle.pr_model.specs.declared.calls.Reply.{Reply}
use Rattle.pr_model.specs.declared.calls.Reply.TheVariants as reply
use Rattle.pr_num.specs.Limits.{read_limit}
use Rattle.pr_num.specs.Records.{status_ranges}
use Rattle.pr_num.specs.Words.{words_bytes}
use Rattle.pr_probe.specs.TracedSets.{sets_in}
use Rattle.pr_rec.proofs.StatusLemmas.{status-ranged, status_take}
use Rattle.pr_rec.specs.InRange.{IsStatus}
use Rattle.pr_rec.specs.Reading.{record_read}
use Rattle.pr_rec.specs.RecordBytes.{status_bytes}
use Rattle.pr_rec.specs.RecordWords.{status_words_of}
use Rattle.pr_rec.specs.declared.statuses.Status.{Status as StatusRecord}
use Rattle.pr_tool_laws.proofs.Records.EntryLemmas.{record-back}
use Rattle.pr_tools.specs.Replies.{bytes_read}
use Rattle.pr_probe_laws.proofs.Sets.SetStages.{IsProper}
use Rattle.pr_probe_laws.specs.SetsBack.{sets_on}

-- What apfiles reads of the status of a process, and which calls leave the system.

-- ---- calls that leave the system

-- whether a call opens, waits, reads or interrupts, and does no more
abbrev pub keeps_system : Call → Bool
keeps_system (call.Close handle) = false
keeps_system (call.Ctl handle bytes) = false
keeps_system (call.Spawn name held) = false
keeps_system (call.Kill pid number) = false
keeps_system _ = true

edit-system : (s : TracedState) (by : ℕ) (c : Call) (t : TracedState) → CallEdit s by c t → keeps_system c ≡ true
    → t.system ≡ s.system
unfolding with_one_open
edit-system s by c t edit.looks keeps = refl
edit-system s by c t (edit.opens free grants) keeps = refl
edit-system s by c t (edit.closes at) keeps = cc
edit-system s by c t (edit.controls it e) keeps = cc
edit-system s by c t edit.sees_interrupt keeps = refl
edit-system s by c t (edit.interrupts there) keeps = refl
edit-system s by c t (edit.spawns named grants) keeps = cc
edit-system s by c t (edit.sends is) keeps = cc

pub same-system : (s : TracedState) (by : ℕ) (c : Call) (a : Answer) → keeps_system c ≡ true
    → answer_to s by c ≡ Some a → a.state.system ≡ s.system
same-system s by c a keeps is = edit-system s by c a.state (call-edit s by c a is) keeps

-- ---- the sets of a status

pub bytes-given : (bytes : List ℕ) (r : Reply) → r ≡ reply.Bytes bytes → bytes_read r ≡ bytes
unfolding bytes_in
bytes-given bytes r is = ap bytes_read is

-- one read has all of a status
pub status-back : (s : TracedSystem) (pid : ℕ) (p : TracedProcess) → IsStatus (status_of s pid p)
    → record_read status_ranges (part_read (status_bytes (status_of s pid p)) 0 read_limit)
    ≡ Ok (status_words_of (status_of s pid p))
unfolding status_bytes
status-back s pid p status =
    let st : StatusRecord = status_of s pid p in
    let size = length-words_bytes (status_words_of st) in
    let whole : part_read (status_bytes st) 0 read_limit ≡ words_bytes (status_words_of st) ++ [] =
    all-read (status_bytes st) (omega (arith, size)) ∙ sym (append-nil (words_bytes (status_words_of st))) in
    ap (record_read status_ranges) whole
    ∙ record-back status_words_of status_ranges (λ _. refl) status_take IsStatus status-ranged st [] status

pub status-sets : (s : TracedSystem) (pid : ℕ) (p : TracedProcess) → IsStatus (status_of s pid p)
    → sets_in (record_read status_ranges (part_read (status_bytes (status_of s pid p)) 0 read_limit)) ≡ sets_on p
unfolding sets_in status_of
status-sets s pid p status = ap sets_in (status-back s pid p status)

-- what is set on a process of a lawful system in range is proper
pub proper-sets : (s : TracedSystem) (pid : ℕ) (p : TracedProcess) → IsStatus (status_of s pid p)
    → IsLawfulProcess (pid, p) → IsProper (sets_on p)
unfolding status_of
proper-sets s pid p status lawful = record {
  signals_fit = omega (arith, status.traced_signals);
  no_kill = lawful.traced;
  faults_fit = omega (arith, status.traced_faults);
  entries_fit = omega (arith, status.traced_entries);
  exits_fit = omega (arith, status.traced_exits);
}
