-- The sequences of the tools (proc(1), pmap(1)): which calls each makes, a row a step.
use Rattle.std.specs.Prelude.{ℕ, ◌*◌}
use Rattle.pr_num.specs.Limits.{list_limit, lwp_limit, read_limit}
use Rattle.pr_model.specs.declared.calls.File.{File}
use Rattle.pr_model.specs.declared.calls.File.TheVariants as file
use Rattle.pr_model.specs.declared.calls.Mode.{Mode}
use Rattle.pr_model.specs.declared.calls.Mode.TheVariants as mode
use Rattle.pr_model.specs.declared.tools.ToolKind.{ToolKind}
use Rattle.pr_model.specs.declared.tools.ToolKind.TheVariants.{Pflags, Psig, Pstack, Pmap, Pfiles, Pstop, Prun, Pwait, Ptree}
use Rattle.pr_tools.specs.declared.steps.Step.{Step}
use Rattle.pr_tools.specs.declared.steps.Step.TheVariants.{OpenCtl, OpenFile, OpenMemory, ReadFirst, Stop, AwaitStop, Direct, AwaitEnd, ReadFile, ReadText, ReadFrame, Run, List, Release, Close}

-- where each tool begins
unfoldable pub first_step : ToolKind → Step
first_step Pflags = OpenFile
first_step Psig = OpenFile
first_step Pstack = OpenCtl
first_step Pmap = OpenFile
first_step Pfiles = OpenFile
first_step Pstop = OpenCtl
first_step Prun = OpenCtl
first_step Pwait = OpenFile
first_step Ptree = List

-- pflags, psig, pmap and pfiles open one file of the process, read it and close it
unfoldable pub after_in_reader : Step → Step
after_in_reader OpenFile = ReadFile
after_in_reader _ = Close

-- pstop opens the control file, directs the process to stop and closes
unfoldable pub after_in_pstop : Step → Step
after_in_pstop OpenCtl = Direct
after_in_pstop _ = Close

-- prun opens the control file, runs the process and closes
unfoldable pub after_in_prun : Step → Step
after_in_prun OpenCtl = Run
after_in_prun _ = Close

-- pwait opens what ps(1) shows, waits until the process has ended, reads it and closes
unfoldable pub after_in_pwait : Step → Step
after_in_pwait OpenFile = AwaitEnd
after_in_pwait AwaitEnd = ReadFile
after_in_pwait _ = Close

-- ptree lists the processes, and opens nothing
unfoldable pub after_in_ptree : Step → Step
after_in_ptree _ = Close

-- pstack opens the control file, the status of all lwps and the memory, and reads that status; it directs the process
-- to stop, waits until it stands, and reads the status again; it reads the first instruction and the frames of each
-- stack, runs the process and closes
unfoldable pub after_in_pstack : Step → Step
after_in_pstack OpenCtl = OpenFile
after_in_pstack OpenFile = OpenMemory
after_in_pstack OpenMemory = ReadFirst
after_in_pstack ReadFirst = Stop
after_in_pstack Stop = AwaitStop
after_in_pstack AwaitStop = ReadFile
after_in_pstack ReadFile = ReadText
after_in_pstack ReadText = ReadFrame
after_in_pstack ReadFrame = Run
after_in_pstack _ = Close

-- the step after an answer that was no refusal
unfoldable pub after : ToolKind → Step → Step
after Pflags step = after_in_reader step
after Psig step = after_in_reader step
after Pstack step = after_in_pstack step
after Pmap step = after_in_reader step
after Pfiles step = after_in_reader step
after Pstop step = after_in_pstop step
after Prun step = after_in_prun step
after Pwait step = after_in_pwait step
after Ptree step = after_in_ptree step

-- The step after a refusal. Where pstack has directed its process to stop, it first runs it again.
unfoldable pub way_out_of_pstack : Step → Step
way_out_of_pstack AwaitStop = Release
way_out_of_pstack ReadFile = Release
way_out_of_pstack ReadText = Release
way_out_of_pstack ReadFrame = Release
way_out_of_pstack Run = Release
way_out_of_pstack _ = Close

unfoldable pub way_out : ToolKind → Step → Step
way_out Pstack step = way_out_of_pstack step
way_out _ _ = Close

-- The file whose record a tool reads. pstop, prun and ptree open none, and what stands for them is never used.
unfoldable pub file_of : ToolKind → File
file_of Pflags = file.Lstatus
file_of Psig = file.Sigact
file_of Pstack = file.Lstatus
file_of Pmap = file.Map
file_of Pfiles = file.Fds
file_of Pstop = file.Status
file_of Prun = file.Status
file_of Pwait = file.Psinfo
file_of Ptree = file.Status

-- The places of the files that a tool has open: it opens them in this order, those that it needs.
abbrev pub control_place : ℕ
control_place = 0

abbrev pub record_place : ℕ
record_place = 1

abbrev pub memory_place : ℕ
memory_place = 2

-- how a tool opens the control file: pstack lets nobody else control the process meanwhile
unfoldable pub ctl_mode_of : ToolKind → Mode
ctl_mode_of Pstack = mode.WriteExcl
ctl_mode_of _ = mode.Write

-- How many bytes of its record a tool has room for: what one read gives, or a list. No answer of the machine is longer.
unfoldable pub record_room : ToolKind → ℕ
record_room Pstop = 0
record_room Prun = 0
record_room Ptree = list_limit
record_room _ = read_limit

-- The most frames of a stack that are read: its first one is the pc, and it has 64 at most.
abbrev pub read_frames : ℕ
read_frames = 63

-- How many frames a tool has room for: those of the stacks of 64 lwps.
unfoldable pub frame_room : ToolKind → ℕ
frame_room Pstack = lwp_limit * read_frames
frame_room _ = 0
