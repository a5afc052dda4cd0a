use Rattle.std.specs.List.{All}
use Rattle.std.specs.Prelude.{◌≡◌, ℕ, Bool, true, false, List, [], ◌∷◌, ◌++◌, Err, Ok, Result, Some, length}
use Rattle.pr_api.specs.Entries.{call_entry}
use Rattle.pr_model.specs.Legal.{state_after}
use Rattle.pr_model.specs.Readers.{space_seen}
use Rattle.pr_model.specs.State.{TracedProcess, TracedState, TracedSystem, live_process}
use Rattle.pr_model.specs.declared.calls.Call.{Call}
use Rattle.pr_model.specs.declared.calls.Call.TheVariants as call
use Rattle.pr_model.specs.declared.calls.Reply.{Reply}
use Rattle.pr_model.specs.declared.events.Entry.{Entry}
use Rattle.pr_num.specs.Layout.{stack_base, text_base}
use Rattle.pr_num.specs.Messages.{first_message}
use Rattle.pr_num.specs.Spaces.{bytes_for}
use Rattle.pr_num.specs.declared.messages.Message.{Message}
use Rattle.pr_num.specs.declared.messages.Message.TheVariants as message
use Rattle.pr_num.specs.declared.messages.MsgFault.{MsgFault}
use Rattle.pr_probe.specs.AgentCode.{code_size, stack_size}
use Rattle.pr_tool_laws.specs.Leaving.{SendsTo}

-- What apfiles writes over in the memory of a process, and puts back.

-- the process lives, and these bytes stand in the memory that it shows, from an address on
pub record StandAt (pid at : ℕ) (bytes : List ℕ) (s : TracedSystem) : Type 0 where
  pub process : TracedProcess
  pub lives : live_process s pid ≡ Some process
  pub there : bytes_for 0 (space_seen s process) at (length bytes) ≡ Ok bytes

-- whether bytes begin with PCWRITE
abbrev pub is_write : Message → Bool
is_write (message.Write at size) = true
is_write _ = false

abbrev pub begins_with_write : Result (Message × ℕ) MsgFault → Bool
begins_with_write (Ok (m, len)) = is_write m
begins_with_write (Err fault) = false

-- an entry is no PCWRITE of a controller
abbrev pub WritesNoMemory : ℕ → Entry → Type 0
WritesNoMemory k e =
    (handle : ℕ) (bytes : List ℕ) (r : Reply) → e ≡ call_entry k (call.Ctl handle bytes) r
    → begins_with_write (first_message bytes) ≡ false

-- A controller has read these bytes of the process by PCREAD, before it wrote to the memory of any: they stood there in
-- the state that it found.
pub record HasSaved (k pid at : ℕ) (bytes : List ℕ) (first : TracedState) (h : List Entry) : Type 0 where
  pub before : List Entry
  pub call : Call
  pub reply : Reply
  pub after : List Entry
  pub place : h ≡ before ++ call_entry k call reply ∷ after
  pub unwritten : All (WritesNoMemory k) before
  pub reads : SendsTo k pid (message.Read at (length bytes)) [] (state_after first before) call
  pub stood : StandAt pid at bytes (state_after first before).system

-- It has read them, and later written them back by PCWRITE: they stand there in the state that this leaves.
pub record HasPutBack (k pid at : ℕ) (bytes : List ℕ) (first : TracedState) (h : List Entry) : Type 0 where
  pub before : List Entry
  pub call : Call
  pub reply : Reply
  pub after : List Entry
  pub place : h ≡ before ++ call_entry k call reply ∷ after
  pub saved : HasSaved k pid at bytes first before
  pub writes : SendsTo k pid (message.Write at (length bytes)) bytes (state_after first before) call
  pub stand : StandAt pid at bytes (state_after first (before ++ call_entry k call reply ∷ [])).system

-- It has put back the bytes of the text that an agent's code takes, and those of the stack to which fstat(2) writes.
pub record PutsBack (k pid : ℕ) (first : TracedState) (h : List Entry) : Type 0 where
  pub code : List ℕ
  pub whole_code : length code ≡ code_size
  pub code_back : HasPutBack k pid text_base code first h
  pub stack : List ℕ
  pub whole_stack : length stack ≡ stack_size
  pub stack_back : HasPutBack k pid stack_base stack first h
