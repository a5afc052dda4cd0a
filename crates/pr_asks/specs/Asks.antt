use Rattle.std.specs.Prelude.{◌≡◌, ◌==◌, ◌+◌, ℕ, Bool, List, [], Option, Some, None, Result, Ok, Err, codes, drop, length, nat_lt, take, if◌then◌else◌}
use Rattle.std.specs.List.{position}
use Rattle.std.specs.Str.{bytes_eq}
use Rattle.pr_input.specs.Kinds.{kind_name}
use Rattle.pr_lines.specs.Lines.{line_bytes}
use Rattle.pr_model.specs.declared.calls.Call.{Call}
use Rattle.pr_model.specs.declared.events.Actor.{Actor}
use Rattle.pr_scen.specs.Scripts.{ScriptState}
use Rattle.pr_text.specs.Bytes.{blank}
use Rattle.pr_text.specs.NumberWords.{id_of, number_of}
use Rattle.pr_asks.specs.Calls.{actor_of, call_of}
use Rattle.pr_asks.specs.Messages.{messages_of}
use Rattle.pr_asks.specs.declared.asks.Ask.{Ask}
use Rattle.pr_asks.specs.declared.asks.Ask.TheVariants as ask
use Rattle.pr_asks.specs.declared.asks.AskKind.{AskKind}
use Rattle.pr_asks.specs.declared.asks.AskKind.TheVariants.{TooLong, NoCall, Message}
use Rattle.pr_asks.specs.declared.asks.Unasked.{Unasked}
use Rattle.pr_asks.specs.declared.asks.Unasked.TheVariants as unasked

-- What a line asks for.

-- the name of why a line asks for nothing
unfoldable pub name_of : AskKind → List ℕ
name_of TooLong = codes "TooLong"
name_of NoCall = codes "NoCall"
name_of (Message kind) = kind_name kind

-- what a reader answers: what reading gives, unless memory ran out
abbrev pub Fails : {Y : Type 0} → Unasked → Result Y AskKind → Type 0
Fails unasked.NoMemory read = Unit {0}
Fails (unasked.Refused kind) read = read ≡ Err kind

abbrev pub Gives : {X : Type 0} → Result X Unasked → Result X AskKind → Type 0
Gives (Ok x) read = read ≡ Ok x
Gives (Err e) read = Fails e read

-- ---- words

abbrev pub is_blank : ℕ → Bool
is_blank b = b == blank

-- the first word of a line, and what stands behind the blank after it
abbrev pub split_at : List ℕ → Option ℕ → List ℕ × List ℕ
split_at line None = (line, [])
split_at line (Some place) = (take place line, drop (place + 1) line)

unfoldable pub split_word : List ℕ → List ℕ × List ℕ
split_word line = split_at line (position is_blank line)

-- ---- a row for each thing that can be asked

abbrev pub as_call : Result Call AskKind → Result Ask AskKind
as_call (Ok c) = Ok (ask.Call c)
as_call (Err kind) = Err kind

abbrev pub as_messages : Result ScriptState AskKind → Result Ask AskKind
as_messages (Ok s) = Ok (ask.Messages s)
as_messages (Err kind) = Err kind

abbrev pub as_move : Result Actor AskKind → Result Ask AskKind
as_move (Ok actor) = Ok (ask.Move actor)
as_move (Err kind) = Err kind

abbrev pub as_moves : Option ℕ → Result Ask AskKind
as_moves (Some times) = Ok (ask.Moves times)
as_moves None = Err NoCall

abbrev pub messages_to : Option ℕ → List ℕ → Result Ask AskKind
messages_to (Some handle) messages = as_messages (messages_of handle messages)
messages_to None messages = Err NoCall

-- `ctl HANDLE MESSAGES`, from the handle on
unfoldable pub messages_behind : List ℕ → Result Ask AskKind
messages_behind operands = messages_to (id_of (split_word operands).0) (split_word operands).1

abbrev pub or_messages : List ℕ → Result Call AskKind → Result Ask AskKind
or_messages line (Ok c) = Ok (ask.Call c)
or_messages line (Err kind) =
    if bytes_eq (split_word line).0 (codes "ctl") then messages_behind (split_word line).1 else Err kind

-- What a line asks for: the end, a run, moves, one move; else it is a call, or messages by words. Of a line with more
-- bytes than it may have nothing is read.
unfoldable pub ask_of : List ℕ → Result Ask AskKind
ask_of line =
    if nat_lt line_bytes (length line) then Err TooLong
    else (if bytes_eq line (codes "%end") then Ok ask.End
    else (if bytes_eq line (codes "run") then Ok ask.Run
    else (if bytes_eq (split_word line).0 (codes "moves") then as_moves (number_of (split_word line).1)
    else (if bytes_eq (split_word line).0 (codes "move") then as_move (actor_of (split_word line).1)
    else or_messages line (call_of line)))))
