-- Calls of controllers and their answers in words. A line tells the call, an arrow and the answer; what was read stands
-- on the lines below.
use Rattle.std.specs.Prelude.{ℕ, ◌==◌, Bool, None, List, [], ◌++◌, codes, decimal, length, if◌then◌else◌}
use Rattle.pr_model.specs.declared.calls.Call.{Call}
use Rattle.pr_model.specs.declared.calls.Call.TheVariants as call
use Rattle.pr_model.specs.declared.calls.Reply.{Reply}
use Rattle.pr_model.specs.declared.calls.Reply.TheVariants as reply
use Rattle.pr_hist.specs.Listings.{place_text}
use Rattle.pr_hist.specs.Messages.{messages_text, signal_text}
use Rattle.pr_hist.specs.Names.{Names, handle_text, handles_text, known_text, layout_in, listing_by, memory_by, moved_text}
use Rattle.pr_hist.specs.Records.{raw_text, record_text}
use Rattle.pr_hist.specs.Refusals.{refusal_text}
use Rattle.pr_hist.specs.Texts.{number_text, size_text, time_text}
use Rattle.pr_hist.specs.declared.fields.Layout.TheVariants as layout

-- what a controller does in a call, a row a call
unfoldable pub calling : Call → List ℕ
calling (call.Open pid lwp file mode) = codes "opens "
calling (call.Close h) = codes "closes "
calling (call.Ctl h bytes) = codes "writes to "
calling (call.CtlWait h until bytes) = codes "waits at "
calling (call.Read h at len) = codes "reads "
calling (call.Poll hs) = codes "polls"
calling (call.Interrupt k) = codes "interrupts c"
calling (call.Spawn program held) = codes "makes a process of "
calling (call.Kill pid sig) = codes "sends"
calling (call.Until moment) = codes "waits until "
calling call.List = codes "lists the processes"

-- the moment at which a wait ends, where it has one
unfoldable pub until_text : ℕ → List ℕ
until_text n = if n == 0 then [] else codes ", until " ++ time_text n

-- the messages of a write
unfoldable pub write_text : Names → ℕ → List ℕ → List ℕ
write_text names h bytes = handle_text names h ++ (codes ": " ++ messages_text (listing_by names h) bytes)

-- the messages of a wait, and its end
unfoldable pub wait_text : Names → ℕ → ℕ → List ℕ → List ℕ
wait_text names h until bytes =
    handle_text names h ++ (until_text until ++ (codes ": " ++ messages_text (listing_by names h) bytes))

-- the part of a file that is read
unfoldable pub part_text : Names → ℕ → ℕ → ℕ → List ℕ
part_text names h at len =
    handle_text names h ++ (codes ", " ++ (size_text len ++ (codes " at "
    ++ (number_text at ++ place_text (memory_by names h) at))))

-- a program, and whether its process is directed to stop
unfoldable pub spawn_text : List ℕ → Bool → List ℕ
spawn_text program held = program ++ (if held then codes ", held" else [])

-- a signal and its process
unfoldable pub kill_text : ℕ → ℕ → List ℕ
kill_text pid sig = signal_text sig ++ (codes " to " ++ decimal pid)

-- with what, a row a call
unfoldable pub operands_text : Names → Call → List ℕ
operands_text names (call.Open pid lwp file mode) =
    known_text (record { pid = pid; lwp = lwp; file = file; mode = mode })
operands_text names (call.Close h) = handle_text names h
operands_text names (call.Ctl h bytes) = write_text names h bytes
operands_text names (call.CtlWait h until bytes) = wait_text names h until bytes
operands_text names (call.Read h at len) = part_text names h at len
operands_text names (call.Poll hs) = handles_text names hs
operands_text names (call.Interrupt k) = decimal k
operands_text names (call.Spawn program held) = spawn_text program held
operands_text names (call.Kill pid sig) = kill_text pid sig
operands_text names (call.Until moment) = time_text moment
operands_text names call.List = []

-- ---- answers

-- what the kernel answered, a row an answer
unfoldable pub answering : Reply → List ℕ
answering (reply.Handle h) = codes "handle "
answering reply.Done = codes "done"
answering (reply.Used n) = codes "took "
answering (reply.Half n) = codes "it waits"
answering (reply.Bytes bytes) = []
answering (reply.Pid p) = codes "process "
answering (reply.Ready h) = codes "ready: "
answering (reply.Fail e) = []

-- what was read: of a file, of the list of processes, or of memory by PCREAD
unfoldable pub read_text : Bool → Names → Call → List ℕ → List ℕ
read_text full names (call.Read h at len) bytes = record_text full (listing_by names h) (layout_in names h) at bytes
read_text full names call.List bytes = record_text full None layout.List 0 bytes
read_text full names _ bytes = raw_text bytes

unfoldable pub bytes_answer : Bool → Names → Call → List ℕ → List ℕ
bytes_answer full names c bytes = size_text (length bytes) ++ read_text full names c bytes

-- that a wait is over for which a process last moved so
unfoldable pub waited_text : Names → Call → List ℕ
waited_text names (call.CtlWait h until bytes) = moved_text names h
waited_text names _ = []

-- what comes with the answer, a row an answer
unfoldable pub answer_text : Bool → Names → Call → Reply → List ℕ
answer_text full names c (reply.Handle h) = decimal h
answer_text full names c reply.Done = []
answer_text full names c (reply.Used n) = size_text n ++ waited_text names c
answer_text full names c (reply.Half n) = until_text n
answer_text full names c (reply.Bytes bytes) = bytes_answer full names c bytes
answer_text full names c (reply.Pid p) = decimal p
answer_text full names c (reply.Ready h) = handle_text names h ++ moved_text names h
answer_text full names c (reply.Fail e) = refusal_text names c e

-- a call and its answer
unfoldable pub call_text : Bool → Names → Call → Reply → List ℕ
call_text full names c r =
    calling c ++ (operands_text names c ++ (codes " -> " ++ (answering r ++ answer_text full names c r)))
