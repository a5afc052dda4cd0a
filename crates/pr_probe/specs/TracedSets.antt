-- The four sets that a process is traced by (proc(4)): they are noted, set for the agent, and set back.
use Rattle.std.specs.Prelude.{ℕ, List, Bool, false, Option, Some, None, Result, Ok, Err, nat_lt, slice_index}
use Rattle.pr_num.specs.Sets.{with_number}
use Rattle.pr_num.specs.Syscalls.{syscall_number}
use Rattle.pr_num.specs.declared.messages.Message.{Message}
use Rattle.pr_num.specs.declared.messages.Message.TheVariants as message
use Rattle.pr_num.specs.declared.syscalls.Sysno.TheVariants.{Fstat}
use Rattle.pr_rec.specs.declared.faults.RecFault.{RecFault}
use Rattle.pr_probe.specs.declared.traced_sets.SetKind.{SetKind}
use Rattle.pr_probe.specs.declared.traced_sets.SetKind.TheVariants.{Signals, Faults, Entries, Exits}
use Rattle.pr_probe.specs.declared.traced_sets.TracedSets.{TracedSets}

-- the set after a set, in the order in which they are set
unfoldable pub kind_after : SetKind → Option SetKind
kind_after Signals = Some Faults
kind_after Faults = Some Entries
kind_after Entries = Some Exits
kind_after Exits = None

-- the message that sets one of the sets: PCSTRACE, PCSFAULT, PCSENTRY, PCSEXIT
unfoldable pub trace_message : SetKind → ℕ → Message
trace_message Signals word = message.Strace word
trace_message Faults word = message.Sfault word
trace_message Entries word = message.Sentry word
trace_message Exits word = message.Sexit word

-- one of the sets
unfoldable pub set_word : TracedSets → SetKind → ℕ
set_word sets Signals = sets.signals
set_word sets Faults = sets.faults
set_word sets Entries = sets.entries
set_word sets Exits = sets.exits

-- nothing is traced
unfoldable pub no_sets : TracedSets
no_sets = record { signals = 0; faults = 0; entries = 0; exits = 0 }

-- what is traced while the agent stands: the exit of fstat(2) alone
unfoldable pub agent_sets : TracedSets
agent_sets = record { signals = 0; faults = 0; entries = 0; exits = with_number 0 (syscall_number Fstat) }

-- the sets of a status; none of bytes that are no status
unfoldable pub sets_in : Result (List ℕ) RecFault → TracedSets
sets_in (Ok words) = record {
  signals = slice_index words 5;
  faults = slice_index words 6;
  entries = slice_index words 7;
  exits = slice_index words 8;
}
sets_in (Err fault) = no_sets

-- whether a process has a watched area, by its status
unfoldable pub is_watched_in : Result (List ℕ) RecFault → Bool
is_watched_in (Ok words) = nat_lt 0 (slice_index words 12)
is_watched_in (Err fault) = false
