use Rattle.std.specs.Prelude.{◌≡◌, ℕ, false, List, ◌∷◌, ◌++◌, Option, None, Some, option_map}
use Rattle.pr_api.specs.Entries.{call_entry}
use Rattle.pr_core.specs.CoreBytes.{core_bytes}
use Rattle.pr_core.specs.CoreText.{core_text}
use Rattle.pr_core.specs.Snapshots.{snapshot}
use Rattle.pr_model.specs.Legal.{state_after}
use Rattle.pr_model.specs.State.{TracedProcess, TracedState, TracedSystem, has_agent, live_process}
use Rattle.pr_model.specs.declared.calls.Call.{Call}
use Rattle.pr_model.specs.declared.calls.File.TheVariants as file
use Rattle.pr_model.specs.declared.calls.Reply.{Reply}
use Rattle.pr_model.specs.declared.events.Entry.{Entry}
use Rattle.pr_tool_laws.specs.Reads.{ReadsFile}
use Rattle.pr_tool_laws.specs.Stacks.{HasStopped}
use Rattle.pr_core_laws.specs.Spared.{IsSparedIn, StoodIn}

-- The text of gcore(1) as a function of one state of the machine.

-- the text of the core of a process; none where it does not live
unfoldable pub core_in : ℕ → TracedSystem → Option (List ℕ)
core_in pid s = option_map (λ p. core_text (core_bytes (snapshot pid s p))) (live_process s pid)

-- What is shown of a process that stands still from a first read to a last one, which comes after these entries: it
-- stood as it was all that time, and the text is that of its core in the state that the last read finds.
pub record ShowsCore (pid : ℕ) (p : TracedProcess) (first : TracedState) (before between : List Entry)
    (text : List ℕ) : Type 0 where
  pub stood : StoodIn pid p first before between
  pub shown : core_in pid (state_after first (before ++ between)).system ≡ Some text

-- This text is that of the core of a process in a state of the history. gcore has waited for the process to stop, and
-- reads its status, with which these entries begin, and later its descriptors: it is the state that this last read
-- finds. The process has lent its memory to nobody. The text is so where the process has no agent and is spared from
-- the one read to the other. Without that a core may still come, of which nothing is said.
pub record ShowsOneCore (k pid : ℕ) (first : TracedState) (h : List Entry) (text : List ℕ) : Type 0 where
  pub before : List Entry
  pub look : Call
  pub seen : Reply
  pub later : List Entry
  pub call : Call
  pub reply : Reply
  pub after : List Entry
  pub place : h ≡ (before ++ call_entry k look seen ∷ later) ++ call_entry k call reply ∷ after
  pub looks : ReadsFile k pid file.Status (state_after first before) look
  pub reads : ReadsFile k pid file.Fds (state_after first (before ++ call_entry k look seen ∷ later)) call
  pub stopped : HasStopped k pid first before
  pub process : TracedProcess
  pub lives : live_process (state_after first before).system pid ≡ Some process
  pub own : process.borrower ≡ None
  pub shown : has_agent process ≡ false → IsSparedIn pid process first before (call_entry k look seen ∷ later)
      → ShowsCore pid process first before (call_entry k look seen ∷ later) text
