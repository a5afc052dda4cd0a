-- The text of a history: a heading, and below it a line for each entry. A line is words with one blank between them:
-- the number of the entry, who acted, and what that was. A number is in decimal without leading zeros, and bytes are in
-- hex. Every entry has a line, also one that no machine makes.
use Rattle.std.specs.Prelude.{ℕ, ◌+◌, ◌==◌, Bool, List, [], ◌∷◌, ◌++◌, map, codes, decimal, if◌then◌else◌}
use Rattle.pr_num.specs.Errnos.{errno_name}
use Rattle.pr_num.specs.Faults.{fault_name, fault_signal}
use Rattle.pr_num.specs.Signals.{signal_name}
use Rattle.pr_num.specs.Syscalls.{syscall_name}
use Rattle.pr_model.specs.declared.calls.Call.{Call}
use Rattle.pr_model.specs.declared.calls.Call.TheVariants as call
use Rattle.pr_model.specs.declared.calls.Reply.{Reply}
use Rattle.pr_model.specs.declared.calls.Reply.TheVariants as reply
use Rattle.pr_model.specs.declared.events.Act.{Act}
use Rattle.pr_model.specs.declared.events.Act.TheVariants as act
use Rattle.pr_model.specs.declared.events.Actor.{Actor}
use Rattle.pr_model.specs.declared.events.Actor.TheVariants.{Controller, Lwp, Clock}
use Rattle.pr_model.specs.declared.events.Did.{Did}
use Rattle.pr_model.specs.declared.events.Did.TheVariants.{Stopped, Ran, Entered, Made, Slept, Woke, Returned, Faulted, Posted, Took, Acted}
use Rattle.pr_model.specs.declared.events.Entry.{Entry}
use Rattle.pr_model.specs.declared.events.How.{How}
use Rattle.pr_model.specs.declared.events.How.TheVariants.{Caught, Ignored, JobStop, Died}
use Rattle.pr_model.specs.declared.events.Res.{Res}
use Rattle.pr_model.specs.declared.events.Res.TheVariants.{Value, Error, Ended}
use Rattle.pr_model.specs.declared.events.Turned.{Turned}
use Rattle.pr_model.specs.FileNames.{file_name, mode_name}
use Rattle.pr_text.specs.LwpWords.{lwp_text}
use Rattle.pr_text.specs.SpacedWords.{joined}
use Rattle.pr_text.specs.TextLines.{newline}
use Rattle.pr_plain.specs.HexWords.{hex_word}

-- ---- who acted

-- a controller is c and its number
unfoldable pub actor_text : Actor → List ℕ
actor_text (Controller k) = codes "c" ++ decimal k
actor_text (Lwp pid lwp) = lwp_text pid lwp
actor_text Clock = codes "clock"

-- ---- turns of lwps

-- what a system call gave: = and the value, the errno, or nothing where the call ended its lwp
unfoldable pub result_words : Res → List (List ℕ)
result_words (Value n) = codes "=" ∷ decimal n ∷ []
result_words (Error e) = errno_name e ∷ []
result_words Ended = []

-- how a signal was acted on
unfoldable pub how_text : How → List ℕ
how_text Caught = codes "caught"
how_text Ignored = codes "ignored"
how_text JobStop = codes "stopped"
how_text Died = codes "died"

-- what an lwp did; behind a fault that was posted stands its signal
unfoldable pub did_words : Did → List (List ℕ)
did_words Stopped = codes "stopped" ∷ codes "requested" ∷ []
did_words Ran = codes "ran" ∷ []
did_words (Entered c) = codes "entered" ∷ syscall_name c ∷ []
did_words (Made c r) = codes "made" ∷ syscall_name c ∷ result_words r
did_words (Slept c) = codes "slept" ∷ syscall_name c ∷ []
did_words (Woke c r) = codes "woke" ∷ syscall_name c ∷ result_words r
did_words (Returned c) = codes "returned" ∷ syscall_name c ∷ []
did_words (Faulted f) = codes "faulted" ∷ fault_name f ∷ []
did_words (Posted f) = codes "posted" ∷ fault_name f ∷ signal_name (fault_signal f) ∷ []
did_words (Took s) = codes "took" ∷ signal_name s ∷ []
did_words (Acted s how) = codes "acted" ∷ signal_name s ∷ how_text how ∷ []

-- the word behind a turn in which the lwp met what is traced, and stopped
unfoldable pub stop_words : Bool → List (List ℕ)
stop_words stop = if stop then codes "stop" ∷ [] else []

unfoldable pub turn_words : Turned → List (List ℕ)
turn_words t = did_words t.did ++ stop_words t.stop

-- ---- calls of controllers

-- whose file is opened: that of a process, or of an lwp where the lwp's id is not 0
unfoldable pub target_text : ℕ → ℕ → List ℕ
target_text pid lwp = if lwp == 0 then decimal pid else lwp_text pid lwp

-- the word behind the program of a process that is directed to stop before it runs
unfoldable pub held_words : Bool → List (List ℕ)
held_words held = if held then codes "held" ∷ [] else []

-- a call; the signal that kill sends is a number, since any number may be tried
unfoldable pub call_words : Call → List (List ℕ)
call_words (call.Open pid lwp file mode) = codes "open" ∷ target_text pid lwp ∷ file_name file ∷ mode_name mode ∷ []
call_words (call.Close h) = codes "close" ∷ decimal h ∷ []
call_words (call.Ctl h bytes) = codes "ctl" ∷ decimal h ∷ hex_word bytes ∷ []
call_words (call.CtlWait h until bytes) = codes "ctlwait" ∷ decimal h ∷ decimal until ∷ hex_word bytes ∷ []
call_words (call.Read h at len) = codes "read" ∷ decimal h ∷ decimal at ∷ decimal len ∷ []
call_words (call.Poll handles) = codes "poll" ∷ map decimal handles
call_words (call.Interrupt k) = codes "interrupt" ∷ decimal k ∷ []
call_words (call.Spawn program held) = codes "spawn" ∷ program ∷ held_words held
call_words (call.Kill pid sig) = codes "kill" ∷ decimal pid ∷ decimal sig ∷ []
call_words (call.Until moment) = codes "until" ∷ decimal moment ∷ []
call_words call.List = codes "list" ∷ []

-- what the kernel answered
unfoldable pub reply_words : Reply → List (List ℕ)
reply_words (reply.Handle h) = codes "handle" ∷ decimal h ∷ []
reply_words reply.Done = codes "done" ∷ []
reply_words (reply.Used n) = codes "used" ∷ decimal n ∷ []
reply_words (reply.Half n) = codes "half" ∷ decimal n ∷ []
reply_words (reply.Bytes bytes) = codes "bytes" ∷ hex_word bytes ∷ []
reply_words (reply.Pid p) = codes "pid" ∷ decimal p ∷ []
reply_words (reply.Ready h) = codes "ready" ∷ decimal h ∷ []
reply_words (reply.Fail e) = codes "fail" ∷ errno_name e ∷ []

-- ---- entries

-- what was done: a call, an arrow and the reply; a turn; or the time to which the clock came
unfoldable pub act_words : Act → List (List ℕ)
act_words (act.Call c r) = call_words c ++ codes "->" ∷ reply_words r
act_words (act.Turn t) = turn_words t
act_words (act.Tick n) = decimal n ∷ []

-- the words of the entry of a number
unfoldable pub entry_words : ℕ → Entry → List (List ℕ)
entry_words n e = decimal n ∷ actor_text e.actor ∷ act_words e.act

-- the line of the entry of a number
unfoldable pub entry_line : ℕ → Entry → List ℕ
entry_line n e = joined (entry_words n e)

-- the same with the newline that ends it
unfoldable pub entry_text : ℕ → Entry → List ℕ
entry_text n e = entry_line n e ++ newline ∷ []

-- the lines of entries that count from a number
unfoldable pub entries_text : ℕ → List Entry → List ℕ
entries_text n [] = []
entries_text n (e ∷ es) = entry_text n e ++ entries_text (n + 1) es

-- ---- around the entries

-- the line above the entries, with how many there are
unfoldable pub heading_text : ℕ → List ℕ
heading_text n = joined (codes "history" ∷ decimal n ∷ []) ++ newline ∷ []

-- the line that tells a status
unfoldable pub status_text : ℕ → List ℕ
status_text s = joined (codes "status" ∷ decimal s ∷ []) ++ newline ∷ []
