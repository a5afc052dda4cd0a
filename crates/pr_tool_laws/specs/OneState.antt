use Rattle.std.specs.Prelude.{◌≡◌, ◌≤◌, ℕ, List, ◌∷◌, ◌++◌, IfSome, Some, length}
use Rattle.std.specs.List.{All}
use Rattle.pr_api.specs.Entries.{call_entry}
use Rattle.pr_model.specs.Legal.{state_after}
use Rattle.pr_model.specs.Records.{fds_of, list_of, lstatus_of, map_of, psinfo_of}
use Rattle.pr_model.specs.State.{TracedProcess, TracedState, TracedSystem, live_process, process_of}
use Rattle.pr_model.specs.declared.calls.Call.{Call}
use Rattle.pr_model.specs.declared.calls.Reply.{Reply}
use Rattle.pr_model.specs.declared.events.Entry.{Entry}
use Rattle.pr_model.specs.declared.tools.ToolKind.{ToolKind}
use Rattle.pr_model.specs.declared.tools.ToolKind.TheVariants.{Pflags, Psig, Pstack, Pmap, Pfiles, Pstop, Prun, Pwait, Ptree}
use Rattle.pr_num.specs.ById.{IsRising}
use Rattle.pr_num.specs.Limits.{descriptor_limit, lwp_limit, read_limit, signal_count, spawn_limit}
use Rattle.pr_num.specs.Words.{IsWord}
use Rattle.pr_rec.specs.InRange.{IsFdEntry, IsListEntry, IsLwpStatus, IsMapEntry, IsPsinfo}
use Rattle.pr_rec.specs.RecordBytes.{map_bytes}
use Rattle.pr_tool_laws.specs.Reads.{IsToolRead, text_read}
use Rattle.pr_tool_laws.specs.ToolTexts.{tool_text}

-- The text of a tool is that of one state.

-- ---- records that are read back

-- every lwp's status has its fields in their ranges, and there are no more than a process can have
pub record AreLwpsRead (p : TracedProcess) : Type 0 where
  pub fields : All IsLwpStatus (lstatus_of p)
  pub few : length (lstatus_of p) ≤ lwp_limit

-- a word for each signal
pub record AreDispositionsRead (p : TracedProcess) : Type 0 where
  pub words : All IsWord p.dispositions
  pub whole : length p.dispositions ≡ signal_count

-- one read has all mappings
pub record AreMappingsRead (s : TracedSystem) (p : TracedProcess) : Type 0 where
  pub fields : All IsMapEntry (map_of s p)
  pub few : length (map_bytes (map_of s p)) ≤ read_limit

pub record AreDescriptorsRead (s : TracedSystem) (p : TracedProcess) : Type 0 where
  pub fields : All IsFdEntry (fds_of s.files p)
  pub few : length (fds_of s.files p) ≤ descriptor_limit

pub record AreProcessesRead (s : TracedSystem) : Type 0 where
  pub fields : All IsListEntry (list_of s)
  pub few : length (list_of s) ≤ spawn_limit
  pub rising : IsRising s.processes

-- What a tool reads in a state has all its fields in their ranges, and is no more than a read gives, a row a tool. What
-- the kernel holds is so by the types of its parts.
unfoldable pub IsReadBack : ToolKind → ℕ → TracedSystem → Type 0
IsReadBack Pflags pid s = IfSome (live_process s pid) AreLwpsRead
IsReadBack Psig pid s = IfSome (live_process s pid) AreDispositionsRead
IsReadBack Pstack pid s = ⊥
IsReadBack Pmap pid s = IfSome (live_process s pid) (AreMappingsRead s)
IsReadBack Pfiles pid s = IfSome (live_process s pid) (AreDescriptorsRead s)
IsReadBack Pstop pid s = Unit {0}
IsReadBack Prun pid s = Unit {0}
IsReadBack Pwait pid s = IfSome (process_of s pid) (λ p. IsPsinfo (psinfo_of s pid p))
IsReadBack Ptree pid s = AreProcessesRead s

-- ---- the state that a tool shows

-- This text is that of a state of the history: of the one that the read of this tool finds. It is the text of what that
-- read gives there, and so, where that can be read back, the text of what stands there.
pub record IsOfOneState (k : ℕ) (kind : ToolKind) (pid : ℕ) (first : TracedState) (h : List Entry)
    (text : List ℕ) : Type 0 where
  pub before : List Entry
  pub call : Call
  pub reply : Reply
  pub after : List Entry
  pub place : h ≡ before ++ call_entry k call reply ∷ after
  pub reads : IsToolRead kind k pid (state_after first before) call
  pub read : text_read kind pid (state_after first before).system ≡ Some text
  pub shown : IsReadBack kind pid (state_after first before).system
      → tool_text kind pid (state_after first before).system ≡ Some text
