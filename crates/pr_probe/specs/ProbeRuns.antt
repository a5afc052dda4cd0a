-- Runs of apfiles: what it does over the replies that it gets.
use Rattle.std.specs.Prelude.{◌≡◌, ◌≢◌, ℕ, ◌+◌, ◌-◌, ◌*◌, ◌&&◌, Bool, true, false, not, List, [], ◌∷◌, ◌++◌, Option, Some, None, take, if◌then◌else◌}
use Rattle.std.specs.List.{flat_map, range_with_len}
use Rattle.pr_num.specs.Limits.{descriptor_limit}
use Rattle.pr_num.specs.declared.errnos.Errno.TheVariants.{Intr}
use Rattle.pr_num.specs.declared.files.FdKind.{FdKind}
use Rattle.pr_model.specs.declared.calls.Call.{Call}
use Rattle.pr_model.specs.declared.calls.Call.TheVariants as call
use Rattle.pr_model.specs.declared.calls.Reply.{Reply}
use Rattle.pr_model.specs.declared.calls.Reply.TheVariants as reply
use Rattle.pr_tools.specs.Replies.{bytes_read}
use Rattle.pr_probe.specs.AgentCode.{code_size, stack_size}
use Rattle.pr_probe.specs.DescriptorLines.{kind_in}
use Rattle.pr_probe.specs.Probes.{ProbeState, next_call_of, fed}
use Rattle.pr_probe.specs.declared.descriptor_lines.OpenDescriptor.{OpenDescriptor}
use Rattle.pr_probe.specs.declared.probe_stages.AskingStep.{AskingStep}
use Rattle.pr_probe.specs.declared.probe_stages.AskingStep.TheVariants.{SetRegisters, Run as RunAgent, Await, ReadAgent, ReadKind}
use Rattle.pr_probe.specs.declared.probe_stages.ProbeFile.TheVariants.{Control, Status, Lstatus, Map, AgentControl, AgentStatus}
use Rattle.pr_probe.specs.declared.probe_stages.ProbeStage.{ProbeStage}
use Rattle.pr_probe.specs.declared.probe_stages.ProbeStage.TheVariants.{Open, ReadFirst, Stop, AwaitStop, ReadStatus, ReadMap, SaveCode, SaveStack, Trace, MakeAgent, PlantCode, Asking, UntraceExits, SetExit, RunExit, AwaitExit, WriteCode, WriteStack, Retrace, Run, Restore, Release, Close}
use Rattle.pr_probe.specs.declared.traced_sets.SetKind.{SetKind}
use Rattle.pr_probe.specs.declared.traced_sets.SetKind.TheVariants.{Signals, Faults, Entries, Exits}

-- a probe that was fed replies, in their order
unfoldable pub fed_all : ProbeState → List Reply → ProbeState
fed_all s [] = s
fed_all s (r ∷ rs) = fed_all (fed s r) rs

-- what is gathered of a run: of each state on the way, and of the reply to its call
unfoldable pub gathered : {A : Type 0} → (ProbeState → Reply → List A) → ProbeState → List Reply → List A
gathered of s [] = []
gathered of s (r ∷ rs) = of s r ++ gathered of (fed s r) rs

-- ---- the stages, in their order

-- up to the agent that is ready to ask
unfoldable pub opening : List ProbeStage
opening =
    Open Control ∷ Open Status ∷ Open Lstatus ∷ Open Map ∷ ReadFirst ∷ Stop ∷ AwaitStop ∷ ReadStatus ∷ ReadMap
    ∷ SaveCode ∷ SaveStack ∷ Trace Signals ∷ Trace Faults ∷ Trace Entries ∷ Trace Exits ∷ MakeAgent ∷ Open AgentControl
    ∷ Open AgentStatus ∷ PlantCode ∷ []

-- for each descriptor; the wait, which may be made again, and the reading of what an open one stands for aside
unfoldable pub asking : ℕ → List ProbeStage
asking descriptor =
    Asking descriptor SetRegisters ∷ Asking descriptor RunAgent ∷ Asking descriptor ReadAgent ∷ []

-- how the agent is sent to its end, the wait for that aside, and all is put back
unfoldable pub leaving : List ProbeStage
leaving =
    UntraceExits ∷ SetExit ∷ RunExit ∷ WriteCode ∷ WriteStack ∷ Retrace Signals ∷ Retrace Faults ∷ Retrace Entries
    ∷ Retrace Exits ∷ []

-- all of them: each descriptor from 0 to 63 is asked for once, in its order
unfoldable pub sequence : List ProbeStage
sequence = opening ++ flat_map asking (range_with_len 0 descriptor_limit) ++ leaving

-- A stage in this order. Beside it stand the waits for the agent, which may be made again, the reading of what an open
-- descriptor stands for, the running of a process that had not stood, and the closes.
unfoldable pub asking_mark : ℕ → AskingStep → List ProbeStage
asking_mark descriptor Await = []
asking_mark descriptor ReadKind = []
asking_mark descriptor step = Asking descriptor step ∷ []

unfoldable pub stage_mark : ProbeStage → List ProbeStage
stage_mark (Asking descriptor step) = asking_mark descriptor step
stage_mark AwaitExit = []
stage_mark Run = []
stage_mark Release = []
stage_mark Close = []
stage_mark stage = stage ∷ []

-- the stages of a run
unfoldable pub stages_in : ProbeState → List Reply → List ProbeStage
stages_in s rs = gathered (λ t r. stage_mark t.stage) s rs

-- ---- after a refusal

-- whether a set was changed before a stage, and no agent stands yet
unfoldable pub has_changed_sets : ProbeStage → Bool
has_changed_sets (Trace Faults) = true
has_changed_sets (Trace Entries) = true
has_changed_sets (Trace Exits) = true
has_changed_sets MakeAgent = true
has_changed_sets _ = false

-- whether the process was directed to stop before a stage, and no agent stands yet
unfoldable pub is_directed : ProbeStage → Bool
is_directed AwaitStop = true
is_directed ReadStatus = true
is_directed ReadMap = true
is_directed SaveCode = true
is_directed SaveStack = true
is_directed (Trace kind) = true
is_directed MakeAgent = true
is_directed _ = false

-- all four sets are set back
abbrev pub restoring : List ProbeStage
restoring = Restore Signals ∷ Restore Faults ∷ Restore Entries ∷ Restore Exits ∷ []

-- the process is run, unless it stood before
unfoldable pub releasing : Bool → List ProbeStage
releasing stood = if stood then [] else Release ∷ []

-- What follows a refusal at a stage, the closes aside: all four sets are set back where one was changed, and the
-- process is run where it was directed, unless it stood before.
unfoldable pub undoing : ProbeStage → Bool → List ProbeStage
undoing stage stood =
    (if has_changed_sets stage then restoring else []) ++ (if is_directed stage then releasing stood else [])

-- the stages of a run after a refusal
unfoldable pub undoing_mark : ProbeStage → List ProbeStage
undoing_mark (Restore kind) = Restore kind ∷ []
undoing_mark Release = Release ∷ []
undoing_mark _ = []

unfoldable pub undone_in : ProbeState → List Reply → List ProbeStage
undone_in s rs = gathered (λ t r. undoing_mark t.stage) s rs

-- ---- the files

-- the handle that an open gave
unfoldable pub given_by : Option Call → Reply → List ℕ
given_by (Some (call.Open pid lwp file mode)) (reply.Handle handle) = handle ∷ []
given_by _ _ = []

-- the handle that is closed
unfoldable pub closed_by : Option Call → List ℕ
closed_by (Some (call.Close handle)) = handle ∷ []
closed_by _ = []

unfoldable pub handles_given : ProbeState → List Reply → List ℕ
handles_given s rs = gathered (λ t r. given_by (next_call_of t) r) s rs

unfoldable pub handles_closed : ProbeState → List Reply → List ℕ
handles_closed s rs = gathered (λ t r. closed_by (next_call_of t)) s rs

-- ---- the bytes that are written over

-- what is saved of the text, and of the stack
unfoldable pub code_saved_at : ProbeStage → Reply → List (List ℕ)
code_saved_at SaveCode r = take code_size (bytes_read r) ∷ []
code_saved_at _ r = []

unfoldable pub stack_saved_at : ProbeStage → Reply → List (List ℕ)
stack_saved_at SaveStack r = take stack_size (bytes_read r) ∷ []
stack_saved_at _ r = []

-- what is written back
unfoldable pub code_written_at : ProbeStage → ProbeState → List (List ℕ)
code_written_at WriteCode s = s.code ∷ []
code_written_at _ s = []

unfoldable pub stack_written_at : ProbeStage → ProbeState → List (List ℕ)
stack_written_at WriteStack s = s.stack ∷ []
stack_written_at _ s = []

unfoldable pub codes_saved : ProbeState → List Reply → List (List ℕ)
codes_saved s rs = gathered (λ t r. code_saved_at t.stage r) s rs

unfoldable pub codes_written : ProbeState → List Reply → List (List ℕ)
codes_written s rs = gathered (λ t r. code_written_at t.stage t) s rs

unfoldable pub stacks_saved : ProbeState → List Reply → List (List ℕ)
stacks_saved s rs = gathered (λ t r. stack_saved_at t.stage r) s rs

unfoldable pub stacks_written : ProbeState → List Reply → List (List ℕ)
stacks_written s rs = gathered (λ t r. stack_written_at t.stage t) s rs

-- ---- the descriptors

abbrev pub descriptor_of : ℕ → Option FdKind → List OpenDescriptor
descriptor_of descriptor None = []
descriptor_of descriptor (Some kind) = record { descriptor = descriptor; kind = kind } ∷ []

-- what the answer of the agent says of the descriptor that is asked for
unfoldable pub answered_at : ProbeStage → Reply → List OpenDescriptor
answered_at (Asking descriptor ReadKind) r = descriptor_of descriptor (kind_in (bytes_read r))
answered_at _ r = []

unfoldable pub descriptors_answered : ProbeState → List Reply → List OpenDescriptor
descriptors_answered s rs = gathered (λ t r. answered_at t.stage r) s rs

-- ---- how long it takes

-- a reply that is no interrupt
abbrev pub IsNoInterrupt : Reply → Type 0
IsNoInterrupt r = r ≢ reply.Fail Intr

-- the most calls that are made where no wait is interrupted: 19 up to the agent, 5 for each descriptor, 4 to its end, 7
-- to put all back, and 6 closes
abbrev pub most_calls : ℕ
most_calls = 19 + 5 * descriptor_limit + 4 + 7 + 6
