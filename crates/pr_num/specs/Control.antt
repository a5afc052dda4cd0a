use Rattle.std.specs.Prelude.{◌==◌, ℕ, Bool}
use Rattle.pr_num.specs.Sets.{common_word}

-- Flags are a word too: each flag is one bit, and the empty word has none.

-- whether a word has every flag of another
unfoldable pub has_flags : ℕ → ℕ → Bool
has_flags word flags = common_word word flags == flags

-- ---- the modes of a traced process (proc(4), "PCSET")

-- a child is traced too: inherit-on-fork
abbrev pub fork_mode : ℕ
fork_mode = 1

-- the process runs when its last writable file is closed: run-on-last-close
abbrev pub rlc_mode : ℕ
rlc_mode = 2

-- the process is killed then: kill-on-last-close
abbrev pub klc_mode : ℕ
klc_mode = 4

-- a stop of one lwp leaves the others running
abbrev pub async_mode : ℕ
async_mode = 8

-- ---- how a stopped lwp is run (proc(4), "PCRUN")

-- the current signal is cleared
abbrev pub clear_signal : ℕ
clear_signal = 1

-- the current fault is cleared
abbrev pub clear_fault : ℕ
clear_fault = 2

-- it stops again after one instruction
abbrev pub single_step : ℕ
single_step = 4

-- the system call that it is in is aborted
abbrev pub abort_call : ℕ
abort_call = 8

-- it is directed to stop again
abbrev pub stop_again : ℕ
stop_again = 16

-- ---- what a watched area stops at (proc(4), "PCWATCH")

-- reads are watched
abbrev pub watch_read : ℕ
watch_read = 1

-- writes are watched
abbrev pub watch_write : ℕ
watch_write = 2

-- fetched instructions are watched
abbrev pub watch_exec : ℕ
watch_exec = 4

-- the stop comes after the access
abbrev pub watch_trap_after : ℕ
watch_trap_after = 8

-- ---- what a mapping allows (mmap(2))

-- instructions may be run
abbrev pub prot_exec : ℕ
prot_exec = 1

-- bytes may be written
abbrev pub prot_write : ℕ
prot_write = 2

-- bytes may be read
abbrev pub prot_read : ℕ
prot_read = 4

-- ---- the flags of an lwp (proc(4), "pr_flags"), of this project's own

-- it is stopped, for whatever reason
abbrev pub stopped_flag : ℕ
stopped_flag = 1

-- it is stopped on an event of interest
abbrev pub istop_flag : ℕ
istop_flag = 2

-- it is directed to stop
abbrev pub dstop_flag : ℕ
dstop_flag = 4

-- it is to incur FLTTRACE after the next instruction
abbrev pub step_flag : ℕ
step_flag = 8

-- it is asleep in a system call
abbrev pub asleep_flag : ℕ
asleep_flag = 16

-- it is the agent
abbrev pub agent_flag : ℕ
agent_flag = 32

-- beside the modes of a process: it is the system process
abbrev pub issys_flag : ℕ
issys_flag = 16

-- it has lent its address space to a child (vfork(2))
abbrev pub vforkp_flag : ℕ
vforkp_flag = 32
