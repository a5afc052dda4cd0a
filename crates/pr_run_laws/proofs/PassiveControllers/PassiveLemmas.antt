use Rattle.std.proofs.Common.{◌≡◌, ◌==◌, ◌/◌, ◌-◌, ℕ, Bool, true, false, Option, Some, None, List, [], Result, Ok, Err, IfOk, IfSome, cond, length, nat_lt, option_map, refl}
use Rattle.std.specs.List.{list_all, slice_range}
use Rattle.pr_core.specs.Gcores as gcores
use Rattle.pr_core.specs.declared.gcore_stages.GcoreStage.{GcoreStage}
use Rattle.pr_core.specs.declared.gcore_stages.GcoreStage.TheVariants as gcore
use Rattle.pr_core.specs.declared.memory_walks.MemoryWalk.{MemoryWalk}
use Rattle.pr_model.specs.Passive.{is_passive_message}
use Rattle.pr_model.specs.declared.calls.Call.TheVariants as call
use Rattle.pr_num.specs.Control.{fork_mode, has_flags, rlc_mode}
use Rattle.pr_num.specs.Messages.{bad_operand, encoded_length, first_message, in_columns, message_code, message_read, nth_word, one_word, operands, spelling, unless_bad, unpadded_length, with_tail, ◌>>=◌}
use Rattle.pr_num.specs.Sets.{common_word}
use Rattle.pr_num.specs.Words.{word_bytes, word_of}
use Rattle.pr_num.specs.declared.messages.Message.{Message}
use Rattle.pr_num.specs.declared.messages.Message.TheVariants as message
use Rattle.pr_num.specs.declared.messages.MsgFault.{MsgFault}
use Rattle.pr_num.specs.declared.messages.MsgFault.TheVariants.{Short, BadOperand}
use Rattle.pr_tools.specs.Handles.{last_open}
use Rattle.pr_tools.specs.Tools as tools
use Rattle.pr_tools.specs.declared.steps.Step.{Step}
use Rattle.pr_tools.specs.declared.steps.Step.TheVariants as step
use Rattle.pr_truss.specs.Messages.{all_modes, traced_entries, traced_exits, traced_faults, traced_signals}
use Rattle.pr_truss.specs.NextCalls as trusses
use Rattle.pr_truss.specs.Trusses.{TrussState, traced_at}
use Rattle.pr_truss.specs.declared.processes.Traced.{Traced}
use Rattle.pr_truss.specs.declared.stages.ChildStep.{ChildStep}
use Rattle.pr_truss.specs.declared.stages.ChildStep.TheVariants as child
use Rattle.pr_truss.specs.declared.stages.FreeingStep.{FreeingStep}
use Rattle.pr_truss.specs.declared.stages.FreeingStep.TheVariants as freeing
use Rattle.pr_truss.specs.declared.stages.OpeningStep.{OpeningStep}
use Rattle.pr_truss.specs.declared.stages.OpeningStep.TheVariants as opening
use Rattle.pr_truss.specs.declared.stages.Stage.{Stage}
use Rattle.pr_truss.specs.declared.stages.Stage.TheVariants as stage
use Rattle.pr_tool_laws.specs.PassiveCalls.{BeginsPassively, IsPassiveCall}

-- Truss, the tools and gcore send passive calls alone.

-- ---- messages as bytes

abbrev Read : Type 0
Read = Result (Message × ℕ) MsgFault

abbrev IsPassiveRead : Read → Type 0
IsPassiveRead r = IfOk r (λ first. is_passive_message first.0 ≡ true)

tail-passive : (bytes : List ℕ) (m : Message) → is_passive_message m ≡ true → IsPassiveRead (with_tail bytes m)
unfolding with_tail
tail-passive bytes m passive =
    of (nat_lt (length bytes) (encoded_length m))
    (list_all (λ b. b == 0) (slice_range bytes (unpadded_length m) (encoded_length m))) (encoded_length m / 8 - 1)
  where
    of : (short zeros : Bool) (word : ℕ)
        → IsPassiveRead
        (let r : Read = cond short (Err Short)
        (cond zeros (let ok : Read = Ok (m, encoded_length m) in ok) (Err (BadOperand word))) in r)
    of true zeros word = tt
    of false true word = passive
    of false false word = tt

columns-passive : (bytes : List ℕ) (m : Message) → is_passive_message m ≡ true
    → IsPassiveRead (in_columns m >>= with_tail bytes)
unfolding in_columns
columns-passive bytes m passive = of (bad_operand m)
  where
    of : (o : Option ℕ) → IsPassiveRead (unless_bad m o >>= with_tail bytes)
    of None = tail-passive bytes m passive
    of (Some word) = tt

-- Bytes begin with a passive message, or with none, where that is the message of their words, whether its operand lies
-- in its column or not.
read-passive : (bytes : List ℕ) (m : Message) → nat_lt (length bytes) 8 ≡ false
    → message_read (nth_word bytes 0) bytes ≡ Ok m → is_passive_message m ≡ true → BeginsPassively bytes
unfolding first_message
read-passive bytes m long read passive = rw (long, read) (columns-passive bytes m passive)

-- ---- the messages that they send, a row a message

stop-begins : BeginsPassively (spelling message.Stop [])
unfolding message_code operands nth_word word_bytes word_of message_read is_passive_message
stop-begins = read-passive (spelling message.Stop []) message.Stop refl refl refl

direct-begins : BeginsPassively (spelling message.Dstop [])
unfolding message_code operands nth_word word_bytes word_of message_read is_passive_message
direct-begins = read-passive (spelling message.Dstop []) message.Dstop refl refl refl

run-begins : BeginsPassively (spelling (message.Run 0) [])
unfolding message_code operands nth_word word_bytes word_of message_read one_word is_passive_message
run-begins = read-passive (spelling (message.Run 0) []) (message.Run 0) refl refl refl

follow-begins : BeginsPassively (spelling (message.Set fork_mode) [])
unfolding message_code operands nth_word word_bytes word_of message_read one_word is_passive_message has_flags
    common_word
follow-begins = read-passive (spelling (message.Set fork_mode) []) (message.Set fork_mode) refl refl refl

release-begins : BeginsPassively (spelling (message.Set rlc_mode) [])
unfolding message_code operands nth_word word_bytes word_of message_read one_word is_passive_message has_flags
    common_word
release-begins = read-passive (spelling (message.Set rlc_mode) []) (message.Set rlc_mode) refl refl refl

-- these whatever their operand
unset-begins : (modes : ℕ) → BeginsPassively (spelling (message.Unset modes) [])
unfolding message_code operands nth_word word_bytes word_of message_read one_word is_passive_message
unset-begins modes =
    read-passive (spelling (message.Unset modes) [])
    (message.Unset (nth_word (spelling (message.Unset modes) []) 1)) refl refl refl

signals-begins : (signals : ℕ) → BeginsPassively (spelling (message.Strace signals) [])
unfolding message_code operands nth_word word_bytes word_of message_read one_word is_passive_message
signals-begins signals =
    read-passive (spelling (message.Strace signals) [])
    (message.Strace (nth_word (spelling (message.Strace signals) []) 1)) refl refl refl

faults-begins : (faults : ℕ) → BeginsPassively (spelling (message.Sfault faults) [])
unfolding message_code operands nth_word word_bytes word_of message_read one_word is_passive_message
faults-begins faults =
    read-passive (spelling (message.Sfault faults) [])
    (message.Sfault (nth_word (spelling (message.Sfault faults) []) 1)) refl refl refl

entries-begins : (calls : ℕ) → BeginsPassively (spelling (message.Sentry calls) [])
unfolding message_code operands nth_word word_bytes word_of message_read one_word is_passive_message
entries-begins calls =
    read-passive (spelling (message.Sentry calls) [])
    (message.Sentry (nth_word (spelling (message.Sentry calls) []) 1)) refl refl refl

exits-begins : (calls : ℕ) → BeginsPassively (spelling (message.Sexit calls) [])
unfolding message_code operands nth_word word_bytes word_of message_read one_word is_passive_message
exits-begins calls =
    read-passive (spelling (message.Sexit calls) [])
    (message.Sexit (nth_word (spelling (message.Sexit calls) []) 1)) refl refl refl

-- ---- truss, a row a step

opening-passive : (s : TrussState) (t : Traced) (o : OpeningStep) → IsPassiveCall (trusses.opening_call s.options t o)
unfolding trusses.opening_call IsPassiveCall
opening-passive s t opening.OpenStatus = tt
opening-passive s t opening.OpenLstatus = tt
opening-passive s t opening.OpenMemory = tt
opening-passive s t opening.ClearModes = unset-begins all_modes
opening-passive s t opening.SetRelease = release-begins
opening-passive s t opening.Stop = stop-begins
opening-passive s t (opening.AwaitStop until) = stop-begins
opening-passive s t opening.ReadLwps = tt
opening-passive s t opening.TraceSignals = signals-begins (traced_signals s.options)
opening-passive s t opening.TraceFaults = faults-begins (traced_faults s.options)
opening-passive s t opening.TraceEntries = entries-begins (traced_entries s.options)
opening-passive s t opening.TraceExits = exits-begins (traced_exits s.options)
opening-passive s t opening.Follow = follow-begins
opening-passive s t opening.Start = run-begins

child-passive : (t : Traced) (c : ChildStep) → IsPassiveCall (trusses.child_call t c)
unfolding trusses.child_call IsPassiveCall
child-passive t child.SetRelease = release-begins
child-passive t child.OpenStatus = tt
child-passive t child.OpenLstatus = tt
child-passive t child.OpenMemory = tt
child-passive t child.Start = run-begins

freeing-passive : (pid : ℕ) (f : FreeingStep) → IsPassiveCall (trusses.freeing_call pid f)
unfolding trusses.freeing_call IsPassiveCall
freeing-passive pid freeing.OpenControl = tt
freeing-passive pid (freeing.SetRelease control) = release-begins
freeing-passive pid (freeing.Close control) = tt

stage-passive : (s : TrussState) (g : Stage) → IfSome (trusses.call_of s g) IsPassiveCall
unfolding trusses.call_of IsPassiveCall
stage-passive s (stage.Spawning program) = tt
stage-passive s (stage.OpeningControl pid) = tt
stage-passive s (stage.Opening place o) = opening-passive s (traced_at s place) o
stage-passive s stage.Polling = tt
stage-passive s (stage.ReadingStatus place) = tt
stage-passive s (stage.ReadingText place lwp at len) = tt
stage-passive s (stage.OpeningChildControl parent pid) = tt
stage-passive s (stage.OpeningChild parent place c) = child-passive (traced_at s place) c
stage-passive s (stage.Running place) = run-begins
stage-passive s (stage.Closing place next) = tt
stage-passive s stage.Unfollowing = unset-begins fork_mode
stage-passive s stage.ReadingLwps = tt
stage-passive s (stage.FreeingChild pid f) = freeing-passive pid f
stage-passive s stage.Finished = tt

pub truss-passive : (s : TrussState) → IfSome (trusses.next_call_of s) IsPassiveCall
unfolding trusses.next_call_of
truss-passive s = stage-passive s s.stage

-- ---- the tools, a row a step

closing-passive : (o : Option ℕ) → IfSome (option_map call.Close o) IsPassiveCall
unfolding IsPassiveCall
closing-passive None = tt
closing-passive (Some handle) = tt

step-passive : (s : tools.ToolState) (p : Step) → IfSome (tools.call_of s p) IsPassiveCall
unfolding tools.call_of IsPassiveCall
step-passive s step.OpenCtl = tt
step-passive s step.OpenFile = tt
step-passive s step.OpenMemory = tt
step-passive s step.ReadFirst = tt
step-passive s step.Stop = stop-begins
step-passive s step.AwaitStop = stop-begins
step-passive s step.Direct = direct-begins
step-passive s step.AwaitEnd = tt
step-passive s step.ReadFile = tt
step-passive s step.ReadText = tt
step-passive s step.ReadFrame = tt
step-passive s step.Run = run-begins
step-passive s step.List = tt
step-passive s step.Release = run-begins
step-passive s step.Close = closing-passive (last_open s.opened)

pub tool-passive : (s : tools.ToolState) → IfSome (tools.next_call_of s) IsPassiveCall
unfolding tools.next_call_of
tool-passive s = step-passive s s.step

-- ---- gcore, a row a stage

memory-passive : (s : gcores.GcoreState) (o : Option MemoryWalk) → IsPassiveCall (gcores.memory_call s o)
unfolding IsPassiveCall
memory-passive s None = tt
memory-passive s (Some w) = tt

gcore-stage-passive : (s : gcores.GcoreState) (g : GcoreStage) → IfSome (gcores.call_of s g) IsPassiveCall
unfolding gcores.call_of IsPassiveCall
gcore-stage-passive s gcore.OpenCtl = tt
gcore-stage-passive s gcore.OpenStatus = tt
gcore-stage-passive s (gcore.OpenPart part) = tt
gcore-stage-passive s gcore.OpenMemory = tt
gcore-stage-passive s gcore.ReadFirst = tt
gcore-stage-passive s gcore.Stop = stop-begins
gcore-stage-passive s gcore.AwaitStop = stop-begins
gcore-stage-passive s gcore.ReadStatus = tt
gcore-stage-passive s (gcore.ReadPart part) = tt
gcore-stage-passive s gcore.ReadMemory = memory-passive s s.walk
gcore-stage-passive s gcore.Run = run-begins
gcore-stage-passive s gcore.Release = run-begins
gcore-stage-passive s gcore.Close = closing-passive (last_open s.opened)

pub gcore-passive : (s : gcores.GcoreState) → IfSome (gcores.next_call_of s) IsPassiveCall
unfolding gcores.next_call_of
gcore-passive s = gcore-stage-passive s s.stage
