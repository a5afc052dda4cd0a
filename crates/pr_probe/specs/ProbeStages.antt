-- The sequence of apfiles: which call it makes at which stage.
use Rattle.std.specs.Prelude.{ℕ, ◌+◌, ◌-◌, Bool, true, false, Option, Some, None, nat_lt, if◌then◌else◌}
use Rattle.pr_num.specs.Agents.{agent_id}
use Rattle.pr_num.specs.Limits.{descriptor_limit}
use Rattle.pr_num.specs.declared.errnos.Errno.{Errno}
use Rattle.pr_num.specs.declared.errnos.Errno.TheVariants.{Intr}
use Rattle.pr_model.specs.declared.calls.File.{File}
use Rattle.pr_model.specs.declared.calls.File.TheVariants as file
use Rattle.pr_model.specs.declared.calls.Mode.{Mode}
use Rattle.pr_model.specs.declared.calls.Mode.TheVariants as mode
use Rattle.pr_probe.specs.TracedSets.{kind_after}
use Rattle.pr_probe.specs.declared.probe_stages.AskingStep.{AskingStep}
use Rattle.pr_probe.specs.declared.probe_stages.AskingStep.TheVariants.{SetRegisters, Run as RunAgent, Await, ReadAgent, ReadKind}
use Rattle.pr_probe.specs.declared.probe_stages.ProbeFile.{ProbeFile}
use Rattle.pr_probe.specs.declared.probe_stages.ProbeFile.TheVariants.{Control, Status, Lstatus, Map, AgentControl, AgentStatus}
use Rattle.pr_probe.specs.declared.probe_stages.ProbeStage.{ProbeStage}
use Rattle.pr_probe.specs.declared.probe_stages.ProbeStage.TheVariants.{Open, ReadFirst, Stop, AwaitStop, ReadStatus, ReadMap, SaveCode, SaveStack, Trace, MakeAgent, PlantCode, Asking, UntraceExits, SetExit, RunExit, AwaitExit, WriteCode, WriteStack, Retrace, Run, Restore, Release, Close}
use Rattle.pr_probe.specs.declared.traced_sets.SetKind.{SetKind}
use Rattle.pr_probe.specs.declared.traced_sets.SetKind.TheVariants.{Signals}

-- ---- the files that it opens, in the order in which it opens them

-- the place of a file among those that are open
unfoldable pub place_of : ProbeFile → ℕ
place_of Control = 0
place_of Status = 1
place_of Lstatus = 2
place_of Map = 3
place_of AgentControl = 4
place_of AgentStatus = 5

-- which file of the process file system (proc(4)) it is
unfoldable pub file_of : ProbeFile → File
file_of Control = file.Ctl
file_of Status = file.Status
file_of Lstatus = file.Lstatus
file_of Map = file.Map
file_of AgentControl = file.Lwpctl
file_of AgentStatus = file.Lwpstatus

-- the lwp whose file it is; 0 for a file of the process
unfoldable pub lwp_of : ProbeFile → ℕ
lwp_of AgentControl = agent_id
lwp_of AgentStatus = agent_id
lwp_of _ = 0

-- how it is opened: messages go to the process and to the agent, and what they show is read
unfoldable pub mode_of : ProbeFile → Mode
mode_of Control = mode.Write
mode_of AgentControl = mode.Write
mode_of _ = mode.Read

-- ---- the stages

-- the stage after the opening of a file
unfoldable pub stage_opened : ProbeFile → ProbeStage
stage_opened Control = Open Status
stage_opened Status = Open Lstatus
stage_opened Lstatus = Open Map
stage_opened Map = ReadFirst
stage_opened AgentControl = Open AgentStatus
stage_opened AgentStatus = PlantCode

-- the stage after a set: the next set, or what follows the last
abbrev pub trace_after : Option SetKind → ProbeStage
trace_after None = MakeAgent
trace_after (Some kind) = Trace kind

abbrev pub retrace_after : Option SetKind → ProbeStage
retrace_after None = Run
retrace_after (Some kind) = Retrace kind

abbrev pub restore_after : Option SetKind → ProbeStage
restore_after None = Release
restore_after (Some kind) = Restore kind

-- the stage after a descriptor: the next one, or after the last the way of the agent to its end
unfoldable pub stage_asked : ℕ → ProbeStage
stage_asked descriptor =
    if nat_lt descriptor (descriptor_limit - 1) then Asking (descriptor + 1) SetRegisters else UntraceExits

-- the stage after a step of asking for a descriptor
unfoldable pub asking_after : ℕ → AskingStep → ProbeStage
asking_after descriptor SetRegisters = Asking descriptor RunAgent
asking_after descriptor RunAgent = Asking descriptor Await
asking_after descriptor Await = Asking descriptor ReadAgent
asking_after descriptor ReadAgent = Asking descriptor ReadKind
asking_after descriptor ReadKind = stage_asked descriptor

-- The stage after an answer that was no refusal. apfiles opens the control file, the status, the status of all lwps and
-- the mappings, and looks whether the process stands; it directs that to stop, waits until it stands, and reads its
-- status and mappings. It saves the bytes that it is to write over, sets the traced sets, makes the agent, opens the
-- agent's files and writes its code. It asks for each descriptor. Then it traces no exit, sends the agent to its end
-- and waits for that; it writes the saved bytes back, sets the four sets back, runs the process and closes.
unfoldable pub stage_after : ProbeStage → ProbeStage
stage_after (Open f) = stage_opened f
stage_after ReadFirst = Stop
stage_after Stop = AwaitStop
stage_after AwaitStop = ReadStatus
stage_after ReadStatus = ReadMap
stage_after ReadMap = SaveCode
stage_after SaveCode = SaveStack
stage_after SaveStack = Trace Signals
stage_after (Trace kind) = trace_after (kind_after kind)
stage_after MakeAgent = Open AgentControl
stage_after PlantCode = Asking 0 SetRegisters
stage_after (Asking descriptor step) = asking_after descriptor step
stage_after UntraceExits = SetExit
stage_after SetExit = RunExit
stage_after RunExit = AwaitExit
stage_after AwaitExit = WriteCode
stage_after WriteCode = WriteStack
stage_after WriteStack = Retrace Signals
stage_after (Retrace kind) = retrace_after (kind_after kind)
stage_after Run = Close
stage_after (Restore kind) = restore_after (kind_after kind)
stage_after Release = Close
stage_after Close = Close

-- The stage after a refusal. Where a set was changed, all four are set back; where the process was directed to stop, it
-- is run. Once the agent stands, apfiles only closes.
unfoldable pub way_out_of_trace : SetKind → ProbeStage
way_out_of_trace Signals = Release
way_out_of_trace _ = Restore Signals

unfoldable pub way_out : ProbeStage → ProbeStage
way_out AwaitStop = Release
way_out ReadStatus = Release
way_out ReadMap = Release
way_out SaveCode = Release
way_out SaveStack = Release
way_out (Trace kind) = way_out_of_trace kind
way_out MakeAgent = Restore Signals
way_out _ = Close

-- an interrupted wait (EINTR)
unfoldable pub is_interrupt : Errno → Bool
is_interrupt Intr = true
is_interrupt _ = false

-- a wait for the agent that was interrupted is made again
unfoldable pub is_asking_passed_over : AskingStep → Errno → Bool
is_asking_passed_over Await e = is_interrupt e
is_asking_passed_over _ e = false

-- Whether a refusal at a stage is none of apfiles: the waits for the agent, and what comes of setting back and running
-- after a refusal, and of closing.
unfoldable pub is_passed_over : ProbeStage → Errno → Bool
is_passed_over (Asking descriptor step) e = is_asking_passed_over step e
is_passed_over AwaitExit e = is_interrupt e
is_passed_over (Restore kind) e = true
is_passed_over Release e = true
is_passed_over Close e = true
is_passed_over _ e = false
