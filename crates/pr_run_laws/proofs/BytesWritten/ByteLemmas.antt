use Rattle.std.proofs.Common.{◌≡◌, ◌<◌, ◌≤◌, ◌+◌, ◌⊎◌, inl, inr, ℕ, Bool, true, false, Option, Some, None, List, []}
use Rattle.std.proofs.Common.{◌∷◌, ◌++◌}
use Rattle.std.proofs.Common.{IfSome, cond, drop, replicate, length, nat_le, option_map, slice_get, refl, ap, sym}
use Rattle.std.proofs.Common.{subst, arith}
use Rattle.std.proofs.Common.{◌∙◌}
use Rattle.std.specs.List.{All}
use Rattle.std.specs.Option.{option_and_then}
use Rattle.std.proofs.lemmas.Bool.{cases_lt}
use Rattle.std.proofs.lemmas.List.Elements.{All-append, All-cons, All-drop, All-head, All-nil, All-replicate, All-set}
use Rattle.std.proofs.lemmas.List.Elements.{All-tail}
use Rattle.std.proofs.lemmas.Option.{none-some, slice_get_past, slice_get_within}
use Rattle.pr_codec.proofs.WordLemmas.{AreBytes-words_bytes}
use Rattle.pr_core.specs.Gcores as gcores
use Rattle.pr_core.specs.declared.gcore_stages.GcoreStage.{GcoreStage}
use Rattle.pr_core.specs.declared.gcore_stages.GcoreStage.TheVariants as gcore
use Rattle.pr_core.specs.declared.memory_walks.MemoryWalk.{MemoryWalk}
use Rattle.pr_model.specs.Legal.{IsLegal, IsLegalEntry, after}
use Rattle.pr_model.specs.Replies.{handle_in}
use Rattle.pr_model.specs.State.{TracedState}
use Rattle.pr_model.specs.declared.calls.Call.{Call}
use Rattle.pr_model.specs.declared.calls.Call.TheVariants as call
use Rattle.pr_model.specs.declared.calls.Reply.{Reply}
use Rattle.pr_model.specs.declared.calls.Reply.TheVariants as reply
use Rattle.pr_model.specs.declared.events.Act.{Act}
use Rattle.pr_model.specs.declared.events.Act.TheVariants as act
use Rattle.pr_model.specs.declared.events.Actor.{Actor}
use Rattle.pr_model.specs.declared.events.Actor.TheVariants.{Controller, Lwp, Clock}
use Rattle.pr_model.specs.declared.events.Entry.{Entry}
use Rattle.pr_num.proofs.SearchLemmas.{All-at}
use Rattle.pr_num.specs.Control.{fork_mode, rlc_mode}
use Rattle.pr_num.specs.Messages.{message_code, operands, spelling}
use Rattle.pr_num.specs.Words.{IsByte, words_bytes}
use Rattle.pr_num.specs.declared.messages.Message.{Message}
use Rattle.pr_num.specs.declared.messages.Message.TheVariants as message
use Rattle.pr_model.specs.Calls.{answer_to}
use Rattle.pr_num.specs.Instructions.{fields_of}
use Rattle.pr_line.specs.declared.functions.Function.{Function}
use Rattle.pr_line.specs.declared.options.Options.{Options}
use Rattle.pr_num.specs.Layout.{stack_base, text_base}
use Rattle.pr_num.specs.Limits.{all_faults, all_signals, instruction_size}
use Rattle.pr_num.specs.Messages.{padding}
use Rattle.pr_num.specs.Syscalls.{syscall_number}
use Rattle.pr_num.specs.Words.{word_bytes}
use Rattle.pr_num.specs.declared.instructions.Instruction.TheVariants.{Bpt}
use Rattle.pr_probe.specs.AgentCode.{agent_registers, code_size, exit_pc, planted, stack_size}
use Rattle.pr_probe.specs.Probes as probes
use Rattle.pr_probe.specs.TracedSets.{agent_sets, no_sets, set_word, trace_message}
use Rattle.pr_probe.specs.declared.probe_stages.AskingStep.{AskingStep}
use Rattle.pr_probe.specs.declared.probe_stages.AskingStep.TheVariants as asking
use Rattle.pr_probe.specs.declared.probe_stages.ProbeStage.{ProbeStage}
use Rattle.pr_probe.specs.declared.probe_stages.ProbeStage.TheVariants as probe
use Rattle.pr_probe.specs.declared.traced_sets.SetKind.{SetKind}
use Rattle.pr_probe.specs.declared.traced_sets.SetKind.TheVariants.{Exits}
use Rattle.pr_probe.specs.declared.traced_sets.TracedSets.{TracedSets}
use Rattle.pr_reached.proofs.StatesInRange.MemoryRanges.{instruction-bytes}
use Rattle.pr_reached.proofs.Together.ReachedLemmas.{later-reached}
use Rattle.pr_reached.specs.InRange.{IsInRange}
use Rattle.pr_reached.specs.Reached.{IsReached}
use Rattle.pr_reached.specs.ByteHistories.{HasBytes, IsActOfBytes, IsEntryOfBytes, IsOfBytes}
use Rattle.pr_run_laws.proofs.BytesWritten.ProbeByteLemmas.{GivesBytes, SavesBytes, code-given, fed-saves, stack-given}
use Rattle.pr_run_laws.specs.ScenarioRanges.{HasCodeOfBytes, IsCoreOfBytes, IsLineOfBytes}
use Rattle.pr_scen.specs.Bindings.{handle_of}
use Rattle.pr_scen.specs.Scripts as scripts
use Rattle.pr_scen.specs.Scripts.{ScriptState}
use Rattle.pr_scen.specs.declared.script_lines.ScriptLine.{ScriptLine}
use Rattle.pr_scen.specs.declared.script_lines.ScriptLine.TheVariants as line
use Rattle.pr_tools.specs.Handles.{last_open}
use Rattle.pr_tools.specs.Tools as tools
use Rattle.pr_tools.specs.declared.steps.Step.{Step}
use Rattle.pr_tools.specs.declared.steps.Step.TheVariants as step
use Rattle.pr_truss.specs.Messages.{all_modes, traced_entries, traced_exits, traced_faults, traced_signals}
use Rattle.pr_truss.specs.FunctionCalls as functions
use Rattle.pr_truss.specs.Marks.{address_of, breakpoint, code_in, code_of, first_function, has_functions}
use Rattle.pr_truss.specs.NextCalls as trusses
use Rattle.pr_truss.specs.Trusses.{TrussState, traced_at}
use Rattle.pr_truss.specs.declared.asides.Aside.{Aside}
use Rattle.pr_truss.specs.declared.asides.Aside.TheVariants as aside
use Rattle.pr_truss.specs.declared.processes.Traced.{Traced}
use Rattle.pr_truss.specs.declared.stages.ChildStep.{ChildStep}
use Rattle.pr_truss.specs.declared.stages.ChildStep.TheVariants as child
use Rattle.pr_truss.specs.declared.stages.FreeingStep.{FreeingStep}
use Rattle.pr_truss.specs.declared.stages.FreeingStep.TheVariants as freeing
use Rattle.pr_truss.specs.declared.stages.OpeningStep.{OpeningStep}
use Rattle.pr_truss.specs.declared.stages.OpeningStep.TheVariants as opening
use Rattle.pr_truss.specs.declared.stages.Stage.{Stage}
use Rattle.pr_truss.specs.declared.stages.Stage.TheVariants as stage
use Rattle.pr_truss_laws.proofs.Replies.FunctionOptionLemmas.{fed_functions-options}
use Rattle.pr_world.specs.Controllers.{after_reply, call_by, feed_at, next_call, with_fed}
use Rattle.pr_world.specs.ControllerStates.{ControllerState, Script, Truss, FnTruss, Tool, Gcore, Probe}
use Rattle.pr_world.specs.Protocol.{Follows, FollowsAt, controllers_after}
use Rattle.pr_world.proofs.ProtocolLemmas.{controllers_at-count}
use Rattle.pr_tool_laws.proofs.Stages.ProtocolLemmas.{follows-own}
use Rattle.pr_tool_laws.specs.OwnCalls.{AreOwnCalls, IsOwnCall}

-- What the controllers of a run write is bytes.

-- ---- a message without a tail is spelt in bytes, whatever its operands

spelt-bytes : (m : Message) → All IsByte (spelling m [])
spelt-bytes m =
    let words : List ℕ = words_bytes (message_code m ∷ operands m) in
    let with_tail : All IsByte (words ++ []) =
    All-append IsByte words [] (AreBytes-words_bytes (message_code m ∷ operands m)) (All-nil IsByte) in
    All-append IsByte (words ++ []) [] with_tail (All-nil IsByte)

-- ---- truss, a row a step

opening-bytes : (s : TrussState) (t : Traced) (o : OpeningStep) → IsOfBytes (trusses.opening_call s.options t o)
unfolding trusses.opening_call
opening-bytes s t opening.OpenStatus = tt
opening-bytes s t opening.OpenLstatus = tt
opening-bytes s t opening.OpenMemory = tt
opening-bytes s t opening.ClearModes = spelt-bytes (message.Unset all_modes)
opening-bytes s t opening.SetRelease = spelt-bytes (message.Set rlc_mode)
opening-bytes s t opening.Stop = spelt-bytes message.Stop
opening-bytes s t (opening.AwaitStop until) = tt
opening-bytes s t opening.ReadLwps = tt
opening-bytes s t opening.TraceSignals = spelt-bytes (message.Strace (traced_signals s.options))
opening-bytes s t opening.TraceFaults = spelt-bytes (message.Sfault (traced_faults s.options))
opening-bytes s t opening.TraceEntries = spelt-bytes (message.Sentry (traced_entries s.options))
opening-bytes s t opening.TraceExits = spelt-bytes (message.Sexit (traced_exits s.options))
opening-bytes s t opening.Follow = spelt-bytes (message.Set fork_mode)
opening-bytes s t opening.Start = spelt-bytes (message.Run 0)

child-bytes : (t : Traced) (c : ChildStep) → IsOfBytes (trusses.child_call t c)
unfolding trusses.child_call
child-bytes t child.SetRelease = spelt-bytes (message.Set rlc_mode)
child-bytes t child.OpenStatus = tt
child-bytes t child.OpenLstatus = tt
child-bytes t child.OpenMemory = tt
child-bytes t child.Start = spelt-bytes (message.Run 0)

freeing-bytes : (pid : ℕ) (f : FreeingStep) → IsOfBytes (trusses.freeing_call pid f)
unfolding trusses.freeing_call
freeing-bytes pid freeing.OpenControl = tt
freeing-bytes pid (freeing.SetRelease control) = spelt-bytes (message.Set rlc_mode)
freeing-bytes pid (freeing.Close control) = tt

stage-bytes : (s : TrussState) (g : Stage) → IfSome (trusses.call_of s g) IsOfBytes
unfolding trusses.call_of
stage-bytes s (stage.Spawning program) = tt
stage-bytes s (stage.OpeningControl pid) = tt
stage-bytes s (stage.Opening place o) = opening-bytes s (traced_at s place) o
stage-bytes s stage.Polling = tt
stage-bytes s (stage.ReadingStatus place) = tt
stage-bytes s (stage.ReadingText place lwp at len) = tt
stage-bytes s (stage.OpeningChildControl parent pid) = tt
stage-bytes s (stage.OpeningChild parent place c) = child-bytes (traced_at s place) c
stage-bytes s (stage.Running place) = spelt-bytes (message.Run 0)
stage-bytes s (stage.Closing place next) = tt
stage-bytes s stage.Unfollowing = spelt-bytes (message.Unset fork_mode)
stage-bytes s stage.ReadingLwps = tt
stage-bytes s (stage.FreeingChild pid f) = freeing-bytes pid f
stage-bytes s stage.Finished = tt

truss-bytes : (s : TrussState) → IfSome (trusses.next_call_of s) IsOfBytes
unfolding trusses.next_call_of
truss-bytes s = stage-bytes s s.stage

-- ---- the tools, a row a step

closing-bytes : (o : Option ℕ) → IfSome (option_map call.Close o) IsOfBytes
closing-bytes None = tt
closing-bytes (Some handle) = tt

step-bytes : (s : tools.ToolState) (p : Step) → IfSome (tools.call_of s p) IsOfBytes
unfolding tools.call_of
step-bytes s step.OpenCtl = tt
step-bytes s step.OpenFile = tt
step-bytes s step.OpenMemory = tt
step-bytes s step.ReadFirst = tt
step-bytes s step.Stop = spelt-bytes message.Stop
step-bytes s step.AwaitStop = tt
step-bytes s step.Direct = spelt-bytes message.Dstop
step-bytes s step.AwaitEnd = tt
step-bytes s step.ReadFile = tt
step-bytes s step.ReadText = tt
step-bytes s step.ReadFrame = tt
step-bytes s step.Run = spelt-bytes (message.Run 0)
step-bytes s step.List = tt
step-bytes s step.Release = spelt-bytes (message.Run 0)
step-bytes s step.Close = closing-bytes (last_open s.opened)

tool-bytes : (s : tools.ToolState) → IfSome (tools.next_call_of s) IsOfBytes
unfolding tools.next_call_of
tool-bytes s = step-bytes s s.step

-- ---- gcore, a row a stage

memory-bytes : (s : gcores.GcoreState) (o : Option MemoryWalk) → IsOfBytes (gcores.memory_call s o)
memory-bytes s None = tt
memory-bytes s (Some w) = tt

gcore-stage-bytes : (s : gcores.GcoreState) (g : GcoreStage) → IfSome (gcores.call_of s g) IsOfBytes
unfolding gcores.call_of
gcore-stage-bytes s gcore.OpenCtl = tt
gcore-stage-bytes s gcore.OpenStatus = tt
gcore-stage-bytes s (gcore.OpenPart part) = tt
gcore-stage-bytes s gcore.OpenMemory = tt
gcore-stage-bytes s gcore.ReadFirst = tt
gcore-stage-bytes s gcore.Stop = spelt-bytes message.Stop
gcore-stage-bytes s gcore.AwaitStop = tt
gcore-stage-bytes s gcore.ReadStatus = tt
gcore-stage-bytes s (gcore.ReadPart part) = tt
gcore-stage-bytes s gcore.ReadMemory = memory-bytes s s.walk
gcore-stage-bytes s gcore.Run = spelt-bytes (message.Run 0)
gcore-stage-bytes s gcore.Release = spelt-bytes (message.Run 0)
gcore-stage-bytes s gcore.Close = closing-bytes (last_open s.opened)

gcore-bytes : (s : gcores.GcoreState) → IfSome (gcores.next_call_of s) IsOfBytes
unfolding gcores.next_call_of
gcore-bytes s = gcore-stage-bytes s s.stage

-- ---- bytes behind a message

-- bytes behind a message are written as they are
written-bytes : (m : Message) (bytes : List ℕ) → All IsByte bytes → All IsByte (spelling m bytes)
written-bytes m bytes all =
    let words : List ℕ = words_bytes (message_code m ∷ operands m) in
    let zeros : List ℕ = replicate (padding (length bytes)) 0 in
    All-append IsByte (words ++ bytes) zeros
    (All-append IsByte words bytes (AreBytes-words_bytes (message_code m ∷ operands m)) all)
    (All-replicate IsByte (padding (length bytes)) 0 (omega arith))

-- ---- truss with calls of functions

breakpoint-bytes : All IsByte breakpoint
breakpoint-bytes = instruction-bytes Bpt

code-bytes : (o : Options) (place : ℕ) → All HasCodeOfBytes o.functions → All IsByte (code_of o place)
unfolding code_of
code-bytes o place all = of (slice_get o.functions place) refl
  where
    of : (f : Option Function) → slice_get o.functions place ≡ f → All IsByte (code_in f)
    of None found = breakpoint-bytes
    of (Some f) found = All-at HasCodeOfBytes o.functions place f found all

-- the code of an instruction over the first one of a function
patch-bytes : (o : Options) (control place : ℕ) (code : List ℕ) → All IsByte code
    → IsOfBytes (functions.write_code_call o control place code)
patch-bytes o control place code all = written-bytes (message.Write (address_of o place) instruction_size) code all

patches-bytes : (o : Options) (control : ℕ) (plant lift : Option ℕ) → All HasCodeOfBytes o.functions
    → IsOfBytes (functions.patch_call o control plant lift)
patches-bytes o control (Some place) lift all = patch-bytes o control place breakpoint breakpoint-bytes
patches-bytes o control None (Some place) all = patch-bytes o control place (code_of o place) (code-bytes o place all)
patches-bytes o control None None all = spelt-bytes message.Cfault

-- a row a stage, of which the most are those of truss without functions
function-stage-bytes : (s : TrussState) (g : Stage) → IfSome (functions.function_call_of s g) IsOfBytes
unfolding functions.function_call_of
function-stage-bytes s (stage.Opening place opening.TraceSignals) = spelt-bytes (message.Strace all_signals)
function-stage-bytes s (stage.Opening place opening.TraceFaults) = spelt-bytes (message.Sfault all_faults)
function-stage-bytes s (stage.Opening place opening.TraceEntries) =
    spelt-bytes (message.Sentry (functions.with_copying (traced_entries s.options)))
function-stage-bytes s (stage.Opening place opening.TraceExits) =
    spelt-bytes (message.Sexit (functions.with_copying (traced_exits s.options)))
function-stage-bytes s (stage.Opening place opening.OpenStatus) = stage-bytes s (stage.Opening place opening.OpenStatus)
function-stage-bytes s (stage.Opening place opening.OpenLstatus) =
    stage-bytes s (stage.Opening place opening.OpenLstatus)
function-stage-bytes s (stage.Opening place opening.OpenMemory) = stage-bytes s (stage.Opening place opening.OpenMemory)
function-stage-bytes s (stage.Opening place opening.ClearModes) = stage-bytes s (stage.Opening place opening.ClearModes)
function-stage-bytes s (stage.Opening place opening.SetRelease) = stage-bytes s (stage.Opening place opening.SetRelease)
function-stage-bytes s (stage.Opening place opening.Stop) = stage-bytes s (stage.Opening place opening.Stop)
function-stage-bytes s (stage.Opening place (opening.AwaitStop until)) =
    stage-bytes s (stage.Opening place (opening.AwaitStop until))
function-stage-bytes s (stage.Opening place opening.ReadLwps) = stage-bytes s (stage.Opening place opening.ReadLwps)
function-stage-bytes s (stage.Opening place opening.Follow) = stage-bytes s (stage.Opening place opening.Follow)
function-stage-bytes s (stage.Opening place opening.Start) = stage-bytes s (stage.Opening place opening.Start)
function-stage-bytes s (stage.Running place) = spelt-bytes (message.Run (traced_at s place).marks.flags)
function-stage-bytes s stage.Unfollowing = spelt-bytes message.Stop
function-stage-bytes s (stage.Spawning program) = stage-bytes s (stage.Spawning program)
function-stage-bytes s (stage.OpeningControl pid) = stage-bytes s (stage.OpeningControl pid)
function-stage-bytes s stage.Polling = stage-bytes s stage.Polling
function-stage-bytes s (stage.ReadingStatus place) = stage-bytes s (stage.ReadingStatus place)
function-stage-bytes s (stage.ReadingText place lwp at len) = stage-bytes s (stage.ReadingText place lwp at len)
function-stage-bytes s (stage.OpeningChildControl parent pid) = stage-bytes s (stage.OpeningChildControl parent pid)
function-stage-bytes s (stage.OpeningChild parent place c) = stage-bytes s (stage.OpeningChild parent place c)
function-stage-bytes s (stage.Closing place next) = stage-bytes s (stage.Closing place next)
function-stage-bytes s stage.ReadingLwps = stage-bytes s stage.ReadingLwps
function-stage-bytes s (stage.FreeingChild pid f) = stage-bytes s (stage.FreeingChild pid f)
function-stage-bytes s stage.Finished = stage-bytes s stage.Finished

-- a row for each thing that comes before the call of a stage
aside-bytes : (s : TrussState) (it : Aside) → All HasCodeOfBytes s.options.functions
    → IfSome (functions.call_beside s s.stage it) IsOfBytes
unfolding functions.call_beside
aside-bytes s aside.Nothing all = function-stage-bytes s s.stage
aside-bytes s (aside.Reading place f) all = spelt-bytes (message.Read (address_of s.options f) instruction_size)
aside-bytes s (aside.Planting place f) all =
    patch-bytes s.options (traced_at s place).control f breakpoint breakpoint-bytes
aside-bytes s (aside.Patching place plants lifts clear) all =
    patches-bytes s.options (traced_at s place).control (first_function plants) (first_function lifts) all
aside-bytes s (aside.AwaitingStop until) all = tt
aside-bytes s aside.Asking all = spelt-bytes message.Wstop
aside-bytes s (aside.AwaitingAgain until) all = tt

functions-bytes : (s : TrussState) → All HasCodeOfBytes s.options.functions
    → IfSome (functions.next_function_call_of s) IsOfBytes
unfolding functions.next_function_call_of
functions-bytes s all = of (has_functions s.options)
  where
    of : (b : Bool) → IfSome (cond b (functions.call_beside s s.stage s.aside) (trusses.next_call_of s)) IsOfBytes
    of true = aside-bytes s s.aside all
    of false = truss-bytes s

-- ---- a probe, a row a stage

planted-bytes : All IsByte planted
unfolding planted fields_of syscall_number word_bytes
planted-bytes = AreBytes-words_bytes (19 ∷ 29 ∷ 19 ∷ 26 ∷ [])

set-bytes : (p : probes.ProbeState) (k : SetKind) (sets : TracedSets) → IsOfBytes (probes.set_call p k sets)
set-bytes p k sets = spelt-bytes (trace_message k (set_word sets k))

asking-bytes : (p : probes.ProbeState) (d : ℕ) (a : AskingStep) → IsOfBytes (probes.asking_call p d a)
unfolding probes.asking_call
asking-bytes p d asking.SetRegisters = spelt-bytes (message.Sreg (agent_registers d text_base))
asking-bytes p d asking.Run = spelt-bytes (message.Run 0)
asking-bytes p d asking.Await = tt
asking-bytes p d asking.ReadAgent = tt
asking-bytes p d asking.ReadKind = spelt-bytes (message.Read stack_base probes.kind_size)

probe-stage-bytes : (p : probes.ProbeState) (g : ProbeStage) → SavesBytes p → IfSome (probes.call_of p g) IsOfBytes
unfolding probes.call_of
probe-stage-bytes p (probe.Open f) saves = tt
probe-stage-bytes p probe.ReadFirst saves = tt
probe-stage-bytes p probe.Stop saves = spelt-bytes message.Stop
probe-stage-bytes p probe.AwaitStop saves = tt
probe-stage-bytes p probe.ReadStatus saves = tt
probe-stage-bytes p probe.ReadMap saves = tt
probe-stage-bytes p probe.SaveCode saves = spelt-bytes (message.Read text_base code_size)
probe-stage-bytes p probe.SaveStack saves = spelt-bytes (message.Read stack_base stack_size)
probe-stage-bytes p (probe.Trace k) saves = set-bytes p k agent_sets
probe-stage-bytes p probe.MakeAgent saves = spelt-bytes (message.Agent (agent_registers 0 text_base))
probe-stage-bytes p probe.PlantCode saves =
    written-bytes (message.Write text_base (length planted)) planted planted-bytes
probe-stage-bytes p (probe.Asking d a) saves = asking-bytes p d a
probe-stage-bytes p probe.UntraceExits saves = set-bytes p Exits no_sets
probe-stage-bytes p probe.SetExit saves = spelt-bytes (message.Sreg (agent_registers 0 exit_pc))
probe-stage-bytes p probe.RunExit saves = spelt-bytes (message.Run 0)
probe-stage-bytes p probe.AwaitExit saves = tt
probe-stage-bytes p probe.WriteCode saves = written-bytes (message.Write text_base (length p.code)) p.code saves.0
probe-stage-bytes p probe.WriteStack saves = written-bytes (message.Write stack_base (length p.stack)) p.stack saves.1
probe-stage-bytes p (probe.Retrace k) saves = set-bytes p k p.sets
probe-stage-bytes p probe.Run saves = spelt-bytes (message.Run 0)
probe-stage-bytes p (probe.Restore k) saves = set-bytes p k p.sets
probe-stage-bytes p probe.Release saves = spelt-bytes (message.Run 0)
probe-stage-bytes p probe.Close saves = closing-bytes (last_open p.opened)

probe-bytes : (p : probes.ProbeState) → SavesBytes p → IfSome (probes.next_call_of p) IsOfBytes
unfolding probes.next_call_of
probe-bytes p saves = probe-stage-bytes p p.stage saves

-- ---- a script writes what is left of a line's bytes

write-bytes : (wait : Option ℕ) (handle : ℕ) (left : List ℕ) → All IsByte left
    → IsOfBytes (scripts.write_call wait handle left)
write-bytes None handle left all = all
write-bytes (Some until) handle left all = tt

line-bytes : (s : ScriptState) (l : ScriptLine) → IsLineOfBytes l → IsOfBytes (scripts.call_of s l)
unfolding scripts.call_of
line-bytes s (line.Open name pid lwp file mode) all = tt
line-bytes s (line.Close name) all = tt
line-bytes s (line.Read name at len) all = tt
line-bytes s (line.Poll names) all = tt
line-bytes s (line.Write name bytes) all =
    write-bytes s.wait (handle_of s.bindings name) (drop s.taken bytes) (All-drop IsByte s.taken bytes all)
line-bytes s (line.Interrupt controller) all = tt
line-bytes s (line.Spawn program held) all = tt
line-bytes s (line.Kill pid sig) all = tt
line-bytes s (line.Until moment) all = tt
line-bytes s line.List all = tt

pub script-bytes : (s : ScriptState) → All IsLineOfBytes s.lines → IfSome (scripts.next_call_of s) IsOfBytes
unfolding scripts.next_call_of
script-bytes s all = of (slice_get s.lines s.place) refl
  where
    of : (o : Option ScriptLine) → slice_get s.lines s.place ≡ o → IfSome (scripts.call_at s o) IsOfBytes
    of None found = tt
    of (Some l) found = line-bytes s l (All-at IsLineOfBytes s.lines s.place l found all)

-- ---- a reply leaves the lines of a script as they are

over-lines : (s : ScriptState) → (scripts.with_line_over s).lines ≡ s.lines
unfolding scripts.with_line_over
over-lines s = refl

taken-lines : (s : ScriptState) (total n : ℕ) → (scripts.with_taken s total n).lines ≡ s.lines
unfolding scripts.with_taken
taken-lines s total n = of (nat_le total (s.taken + n))
  where
    of : (all : Bool)
        → (cond all (scripts.with_line_over s) (record s { taken = s.taken + n; wait = None })).lines ≡ s.lines
    of true = over-lines s
    of false = refl

ctl-lines : (s : ScriptState) (total : ℕ) (r : Reply) → (scripts.with_ctl_answered s total r).lines ≡ s.lines
unfolding scripts.with_ctl_answered
ctl-lines s total (reply.Used n) = taken-lines s total n
ctl-lines s total (reply.Bytes bytes) = taken-lines s total scripts.read_length
ctl-lines s total (reply.Half until) = refl
ctl-lines s total (reply.Handle handle) = over-lines s
ctl-lines s total reply.Done = over-lines s
ctl-lines s total (reply.Pid pid) = over-lines s
ctl-lines s total (reply.Ready handle) = over-lines s
ctl-lines s total (reply.Fail errno) = over-lines s

wait-lines : (s : ScriptState) (total : ℕ) (r : Reply) → (scripts.with_wait_answered s total r).lines ≡ s.lines
unfolding scripts.with_wait_answered
wait-lines s total (reply.Used n) = taken-lines s total n
wait-lines s total (reply.Bytes bytes) = over-lines s
wait-lines s total (reply.Half until) = over-lines s
wait-lines s total (reply.Handle handle) = over-lines s
wait-lines s total reply.Done = over-lines s
wait-lines s total (reply.Pid pid) = over-lines s
wait-lines s total (reply.Ready handle) = over-lines s
wait-lines s total (reply.Fail errno) = over-lines s

write-lines : (wait : Option ℕ) (s : ScriptState) (total : ℕ) (r : Reply)
    → (scripts.with_write_answered wait s total r).lines ≡ s.lines
write-lines None s total r = ctl-lines s total r
write-lines (Some until) s total r = wait-lines s total r

-- the line whose reply it is, a row a line
answer-lines : (s : ScriptState) (r : Reply) (o : Option ScriptLine)
    → (scripts.with_answer s r (scripts.present_of o)).lines ≡ s.lines
unfolding scripts.present_of scripts.with_answer
answer-lines s r None = refl
answer-lines s r (Some (line.Open name pid lwp file mode)) = over-lines (scripts.with_bound s name (handle_in r))
answer-lines s r (Some (line.Close name)) = over-lines s
answer-lines s r (Some (line.Read name at len)) = over-lines s
answer-lines s r (Some (line.Poll names)) = over-lines s
answer-lines s r (Some (line.Write name bytes)) = write-lines s.wait s (length bytes) r
answer-lines s r (Some (line.Interrupt controller)) = over-lines s
answer-lines s r (Some (line.Spawn program held)) = over-lines s
answer-lines s r (Some (line.Kill pid sig)) = over-lines s
answer-lines s r (Some (line.Until moment)) = over-lines s
answer-lines s r (Some line.List) = over-lines s

pub fed-lines : (s : ScriptState) (r : Reply) → (scripts.fed s r).lines ≡ s.lines
unfolding scripts.fed
fed-lines s r = answer-lines s r (slice_get s.lines s.place)

-- ---- a controller whose lines write bytes writes bytes, and goes on so after a reply

pub core-bytes : (c : ControllerState) → IsCoreOfBytes c → IfSome (next_call c) IsOfBytes
unfolding next_call IsCoreOfBytes
core-bytes (Script s) bytes = script-bytes s bytes
core-bytes (Truss t) bytes = truss-bytes t
core-bytes (FnTruss t) bytes = functions-bytes t bytes
core-bytes (Tool t) bytes = tool-bytes t
core-bytes (Gcore g) bytes = gcore-bytes g
core-bytes (Probe p) bytes = probe-bytes p bytes

-- what a reply gives to a probe that saves is bytes
abbrev Gives : ControllerState → Reply → Type 0
Gives (Probe p) r = (p.stage ≡ probe.SaveCode → GivesBytes r) × (p.stage ≡ probe.SaveStack → GivesBytes r)
Gives _ r = Unit {0}

reply-bytes : (c : ControllerState) (r : Reply) → Gives c r → IsCoreOfBytes c → IsCoreOfBytes (after_reply c r)
unfolding after_reply IsCoreOfBytes
reply-bytes (Script s) r gives bytes = subst (All IsLineOfBytes) (sym (fed-lines s r)) bytes
reply-bytes (FnTruss t) r gives bytes =
    subst (λ (o : Options). All HasCodeOfBytes o.functions) (sym (fed_functions-options t r)) bytes
reply-bytes (Probe p) r gives bytes = fed-saves p r bytes gives.0 gives.1
reply-bytes _ r gives bytes = tt

-- the machine gives bytes
core-gives : (core : ControllerState) (s : TracedState) (by : ℕ) (c : Call) (t : TracedState) (r : Reply)
    → IsInRange s.system → next_call core ≡ Some c → answer_to s by c ≡ Some (record { state = t; reply = r })
    → Gives core r
unfolding next_call
core-gives (Probe p) s by c t r h asks given =
    (code-given p s by c t r h asks given, stack-given p s by c t r h asks given)
core-gives _ s by c t r h asks given = tt

-- the call of a controller
call-bytes : (controllers : List ControllerState) (k : ℕ) (c : Call) → All IsCoreOfBytes controllers
    → call_by controllers k ≡ Some c → IsOfBytes c
unfolding call_by
call-bytes controllers k c all is = of (slice_get controllers k) refl is
  where
    of : (o : Option ControllerState) → slice_get controllers k ≡ o → option_and_then next_call o ≡ Some c → IsOfBytes c
    of None found is = absurd (cc)
    of (Some core) found is =
        subst (λ next. IfSome next IsOfBytes) is (core-bytes core (All-at IsCoreOfBytes controllers k core found all))

-- ---- a history

-- what one writes that is none of so many controllers is bytes
unfoldable pub IsOtherOfBytes : ℕ → Entry → Type 0
IsOtherOfBytes count e = by e.actor e.act
  where
    by : Actor → Act → Type 0
    by (Controller k) (act.Call c r) = count ≤ k → IsOfBytes c
    by _ _ = Unit {0}

-- Each entry. A legal one is no call of an lwp or of the clock.
entry-bytes : (controllers : List ControllerState) (n : ℕ) (s : TracedState) (actor : Actor) (it : Act)
    → All IsCoreOfBytes controllers → IsLegalEntry n s (record { actor = actor; act = it })
    → IsOwnCall controllers (record { actor = actor; act = it })
    → IsOtherOfBytes (length controllers) (record { actor = actor; act = it }) → IsActOfBytes it
unfolding IsLegalEntry IsOwnCall IsOtherOfBytes
entry-bytes controllers n s (Controller k) (act.Call c r) all legal own others = of (cases_lt k (length controllers))
  where
    of : (k < length controllers) ⊎ (length controllers ≤ k) → IsOfBytes c
    of (inl within) = call-bytes controllers k c all (own within)
    of (inr past) = others past
entry-bytes controllers n s actor (act.Turn t) all legal own others = tt
entry-bytes controllers n s actor (act.Tick moment) all legal own others = tt
entry-bytes controllers n s (Lwp p l) (act.Call c r) all legal own others = absurd legal
entry-bytes controllers n s Clock (act.Call c r) all legal own others = absurd legal

-- the controllers after it write bytes too
fed-bytes : (controllers : List ControllerState) (k : ℕ) (r : Reply)
    → ((core : ControllerState) → slice_get controllers k ≡ Some core → Gives core r) → All IsCoreOfBytes controllers
    → All IsCoreOfBytes (with_fed k r controllers)
unfolding with_fed
fed-bytes controllers k r gives all = of (slice_get controllers k) refl
  where
    of : (o : Option ControllerState) → slice_get controllers k ≡ o → All IsCoreOfBytes (feed_at k r controllers o)
    of None found = all
    of (Some c) found =
        All-set IsCoreOfBytes controllers k (after_reply c r)
        (reply-bytes c r (gives c found) (All-at IsCoreOfBytes controllers k c found all)) all

after-bytes : (controllers : List ControllerState) (n : ℕ) (s : TracedState) (actor : Actor) (it : Act)
    → IsInRange s.system
    → IsLegalEntry n s (record { actor = actor; act = it }) → IsOwnCall controllers (record { actor = actor; act = it })
    → All IsCoreOfBytes controllers
    → All IsCoreOfBytes (controllers_after controllers (record { actor = actor; act = it }))
unfolding controllers_after IsLegalEntry IsOwnCall call_by
after-bytes controllers n s (Controller k) (act.Call c r) h legal own all =
    fed-bytes controllers k r
    (λ core found.
    core-gives core s k c legal.1.0 r h
    (sym (ap (option_and_then next_call) found) ∙ own (slice_get_within controllers k core found)) legal.1.1) all
after-bytes controllers n s (Controller k) (act.Turn t) h legal own all = all
after-bytes controllers n s (Controller k) (act.Tick moment) h legal own all = all
after-bytes controllers n s (Lwp p l) it h legal own all = all
after-bytes controllers n s Clock it h legal own all = all

pub own-bytes : (controllers : List ControllerState) (count n : ℕ) (s : TracedState) (h : List Entry)
    → length controllers ≡ count → IsReached s → All IsCoreOfBytes controllers → IsLegal n s h
    → AreOwnCalls controllers h → All (IsOtherOfBytes count) h → HasBytes h
own-bytes controllers count n s [] many reached all legal own others = All-nil IsEntryOfBytes
own-bytes controllers count n s (e ∷ h) many reached all legal own others =
    let its : IsOtherOfBytes (length controllers) e =
    subst (λ (m : ℕ). IsOtherOfBytes m e) (sym many) (All-head (IsOtherOfBytes count) e h others) in
    let here = entry-bytes controllers n s e.actor e.act all legal.0 own.0 its in
    let alone : HasBytes (e ∷ []) = All-cons IsEntryOfBytes e [] here (All-nil IsEntryOfBytes) in
    let later : IsReached (after s e) = later-reached n s (e ∷ []) reached alone (legal.0, tt) in
    let rest =
    own-bytes (controllers_after controllers e) count n (after s e) h
    (controllers_at-count controllers (e ∷ []) ∙ many) later
    (after-bytes controllers n s e.actor e.act reached.in_range legal.0 own.0 all) legal.1 own.1
    (All-tail (IsOtherOfBytes count) e h others) in
    All-cons IsEntryOfBytes e h here rest

-- where all follow the protocol there are no others
none-other : (controllers : List ControllerState) (s : TracedState) (actor : Actor) (it : Act)
    → FollowsAt controllers s (record { actor = actor; act = it })
    → IsOtherOfBytes (length controllers) (record { actor = actor; act = it })
unfolding FollowsAt IsOtherOfBytes call_by
none-other controllers s (Controller k) (act.Call c r) follows =
    λ past. absurd (none-some c (sym (ap (option_and_then next_call) (slice_get_past controllers k past)) ∙ follows))
none-other controllers s (Controller k) (act.Turn t) follows = tt
none-other controllers s (Controller k) (act.Tick moment) follows = tt
none-other controllers s (Lwp p l) it follows = tt
none-other controllers s Clock it follows = tt

no-others : (controllers : List ControllerState) (count : ℕ) (s : TracedState) (h : List Entry)
    → length controllers ≡ count → Follows controllers s h → All (IsOtherOfBytes count) h
no-others controllers count s [] many follows = All-nil (IsOtherOfBytes count)
no-others controllers count s (e ∷ h) many follows =
    All-cons (IsOtherOfBytes count) e h
    (subst (λ (m : ℕ). IsOtherOfBytes m e) many (none-other controllers s e.actor e.act follows.0))
    (no-others (controllers_after controllers e) count (after s e) h
    (controllers_at-count controllers (e ∷ []) ∙ many) follows.1)

pub follows-bytes : (controllers : List ControllerState) (n : ℕ) (s : TracedState) (h : List Entry) → IsReached s
    → All IsCoreOfBytes controllers → IsLegal n s h → Follows controllers s h → HasBytes h
follows-bytes controllers n s h reached all legal follows =
    own-bytes controllers (length controllers) n s h refl reached all legal (follows-own controllers s h follows)
    (no-others controllers (length controllers) s h refl follows)
