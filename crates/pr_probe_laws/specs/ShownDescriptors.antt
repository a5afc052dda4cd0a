use Rattle.std.specs.Prelude.{◌≡◌, ◌⊎◌, ◌+◌, ℕ, zero, suc, true, List, [], ◌∷◌, ◌++◌, Option, None, Some, is_ok, option_map}
use Rattle.std.specs.List.{All}
use Rattle.pr_api.specs.Entries.{call_entry}
use Rattle.pr_model.specs.Legal.{state_after}
use Rattle.pr_model.specs.MemoryCalls.{can_write}
use Rattle.pr_model.specs.State.{TracedProcess, TracedState, TracedSystem, has_agent, live_process}
use Rattle.pr_model.specs.declared.calls.Call.{Call}
use Rattle.pr_model.specs.declared.calls.File.TheVariants as file
use Rattle.pr_model.specs.declared.calls.Reply.{Reply}
use Rattle.pr_model.specs.declared.events.Entry.{Entry}
use Rattle.pr_num.specs.Control.{prot_exec}
use Rattle.pr_num.specs.Files.{Descriptors, FileTable, fd_kind_of}
use Rattle.pr_num.specs.Layout.{stack_base, text_base}
use Rattle.pr_num.specs.Limits.{descriptor_limit}
use Rattle.pr_num.specs.Spaces.{bytes_for}
use Rattle.pr_num.specs.declared.files.FdKind.{FdKind}
use Rattle.pr_num.specs.declared.messages.Message.TheVariants as message
use Rattle.pr_parts.specs.FileTables.{open_of}
use Rattle.pr_probe.specs.AgentCode.{agent_registers, code_size, stack_size}
use Rattle.pr_probe.specs.DescriptorLines.{apfiles_text}
use Rattle.pr_probe.specs.ProbeRuns.{descriptor_of}
use Rattle.pr_probe.specs.declared.descriptor_lines.OpenDescriptor.{OpenDescriptor}
use Rattle.pr_probe_laws.specs.SetsBack.{IsSoleIn, opening_entry}
use Rattle.pr_tool_laws.specs.Reads.{ReadsFile}
use Rattle.pr_tool_laws.specs.Leaving.{IsNoCall, SendsTo}

-- The text of apfiles as a function of one state of the machine.

-- what a descriptor stands for; none where it is not open
unfoldable pub kind_at : FileTable → Descriptors → ℕ → Option FdKind
kind_at files fds d = option_map (λ found. fd_kind_of found.1.target) (open_of files fds d)

-- of so many descriptors from one on those that are open, each with what it stands for
abbrev pub descriptors_from : FileTable → Descriptors → ℕ → ℕ → List OpenDescriptor
descriptors_from files fds d zero = []
descriptors_from files fds d (suc n) = descriptor_of d (kind_at files fds d) ++ descriptors_from files fds (d + 1) n

-- all of them
unfoldable pub open_descriptors : FileTable → Descriptors → List OpenDescriptor
open_descriptors files fds = descriptors_from files fds 0 descriptor_limit

-- ---- what is asked

-- There is room for what an agent does: nothing is watched, its code can be run at the base of the text, and the answer
-- of fstat(2) can be written at the base of the stack. apfiles looks at the status and the mappings for that.
pub record HasRoom (p : TracedProcess) : Type 0 where
  pub unwatched : p.control.areas ≡ []
  pub code : is_ok (bytes_for prot_exec p.space text_base code_size) ≡ true
  pub stack : can_write p.space stack_base stack_size ≡ true

-- When apfiles read the status of its process, that had lent its memory to nobody (vfork(2)). A lender may get its
-- memory back later, with other mappings and other bytes in it.
pub record WasUnlent (k pid : ℕ) (first : TracedState) (h : List Entry) : Type 0 where
  pub each : (before : List Entry) (c : Call) (r : Reply) (after : List Entry)
      → h ≡ before ++ call_entry k c r ∷ after → ReadsFile k pid file.Status (state_after first before) c
      → (q : TracedProcess) → live_process (state_after first before).system pid ≡ Some q → q.borrower ≡ None

-- ---- the state that is shown

-- This text is that of the open descriptors of a process in a state in which its agent stands.
pub record ShowsDescriptors (pid : ℕ) (s : TracedSystem) (text : List ℕ) : Type 0 where
  pub process : TracedProcess
  pub lives : live_process s pid ≡ Some process
  pub agent : has_agent process ≡ true
  pub shown : text ≡ apfiles_text pid (open_descriptors s.files process.fds)

-- A controller has opened the control file of a process by its first call, has made an agent by PCAGENT, and later
-- traces no exit any more, by PCSEXIT of nothing. The text is that of the descriptors in the state which that message
-- finds. This is so where no other controller has the process open for writing from the first call to that message, and
-- where the process had lent its memory to nobody when its status was read, or there is room for the agent all the
-- same.
pub record ShowsOneState (k pid : ℕ) (first : TracedState) (h : List Entry) (text : List ℕ) : Type 0 where
  pub before : List Entry
  pub opened : Reply
  pub later : List Entry
  pub make : Call
  pub made : Reply
  pub asked : List Entry
  pub call : Call
  pub reply : Reply
  pub after : List Entry
  pub place : h
      ≡ ((before ++ opening_entry k pid opened ∷ later) ++ call_entry k make made ∷ asked) ++ call_entry k call reply
      ∷ after
  pub first_call : All (IsNoCall k) before
  pub makes : SendsTo k pid (message.Agent (agent_registers 0 text_base)) []
      (state_after first (before ++ opening_entry k pid opened ∷ later)) make
  pub untraces : SendsTo k pid (message.Sexit 0) []
      (state_after first ((before ++ opening_entry k pid opened ∷ later) ++ call_entry k make made ∷ asked)) call
  pub process : TracedProcess
  pub lives : live_process (state_after first (before ++ opening_entry k pid opened ∷ later)).system pid ≡ Some process
  pub shown :
      IsSoleIn k pid first before ((opening_entry k pid opened ∷ later) ++ call_entry k make made ∷ asked)
      → WasUnlent k pid first (before ++ opening_entry k pid opened ∷ later) ⊎ HasRoom process
      → ShowsDescriptors pid
      (state_after first
      ((before ++ opening_entry k pid opened ∷ later) ++ call_entry k make made ∷ asked)).system text
