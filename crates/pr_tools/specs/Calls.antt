-- What the calls of a controller that examines a process write and read (proc(4)).
use Rattle.std.specs.Prelude.{ℕ, List, []}
use Rattle.pr_num.specs.Messages.{spelling}
use Rattle.pr_num.specs.declared.messages.Message.TheVariants as message

-- how many bytes an instruction has, and a frame
abbrev pub short_read : ℕ
short_read = 16

-- the messages: stop and wait, direct to stop, run
abbrev pub stop_bytes : List ℕ
stop_bytes = spelling message.Stop []

abbrev pub direct_bytes : List ℕ
direct_bytes = spelling message.Dstop []

abbrev pub run_bytes : List ℕ
run_bytes = spelling (message.Run 0) []
