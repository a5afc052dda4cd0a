-- The sequence of gcore(1): which call it makes at which stage.
use Rattle.std.specs.Prelude.{ℕ, ◌+◌, Option, Some, None}
use Rattle.pr_model.specs.declared.calls.File.{File}
use Rattle.pr_model.specs.declared.calls.File.TheVariants as file
use Rattle.pr_core.specs.CoreBytes.{psinfo_kind, lstatus_kind, sigact_kind, map_kind, fds_kind}
use Rattle.pr_core.specs.declared.gcore_stages.GcorePart.{GcorePart}
use Rattle.pr_core.specs.declared.gcore_stages.GcorePart.TheVariants.{Psinfo, Lstatus, Sigact, Map, Fds}
use Rattle.pr_core.specs.declared.gcore_stages.GcoreStage.{GcoreStage}
use Rattle.pr_core.specs.declared.gcore_stages.GcoreStage.TheVariants.{OpenCtl, OpenStatus, OpenPart, OpenMemory, ReadFirst, Stop, AwaitStop, ReadStatus, ReadPart, ReadMemory, Run, Release, Close}

-- ---- the parts of a core that are one record each, in the order in which they stand there

-- the part after a part
unfoldable pub part_after : GcorePart → Option GcorePart
part_after Psinfo = Some Lstatus
part_after Lstatus = Some Sigact
part_after Sigact = Some Map
part_after Map = Some Fds
part_after Fds = None

-- the kind of its section
unfoldable pub kind_of_part : GcorePart → ℕ
kind_of_part Psinfo = psinfo_kind
kind_of_part Lstatus = lstatus_kind
kind_of_part Sigact = sigact_kind
kind_of_part Map = map_kind
kind_of_part Fds = fds_kind

-- the file that shows it
unfoldable pub file_of_part : GcorePart → File
file_of_part Psinfo = file.Psinfo
file_of_part Lstatus = file.Lstatus
file_of_part Sigact = file.Sigact
file_of_part Map = file.Map
file_of_part Fds = file.Fds

-- ---- the places of the files: they are opened in this order

abbrev pub control_place : ℕ
control_place = 0

abbrev pub status_place : ℕ
status_place = 1

-- the files of the parts, in their order
unfoldable pub place_of_part : GcorePart → ℕ
place_of_part part = 1 + kind_of_part part

abbrev pub memory_place : ℕ
memory_place = 7

-- ---- the stages

abbrev pub open_after : Option GcorePart → GcoreStage
open_after None = OpenMemory
open_after (Some part) = OpenPart part

abbrev pub read_after : Option GcorePart → GcoreStage
read_after None = ReadMemory
read_after (Some part) = ReadPart part

-- The stage after an answer that was no refusal. gcore opens the control file, the status, the parts and the memory,
-- and looks whether the process stands; it directs that to stop and waits until it stands, and reads the status, each
-- part and the memory; it runs the process and closes.
unfoldable pub stage_after : GcoreStage → GcoreStage
stage_after OpenCtl = OpenStatus
stage_after OpenStatus = OpenPart Psinfo
stage_after (OpenPart part) = open_after (part_after part)
stage_after OpenMemory = ReadFirst
stage_after ReadFirst = Stop
stage_after Stop = AwaitStop
stage_after AwaitStop = ReadStatus
stage_after ReadStatus = ReadPart Psinfo
stage_after (ReadPart part) = read_after (part_after part)
stage_after ReadMemory = Run
stage_after Run = Close
stage_after Release = Close
stage_after Close = Close

-- the stage after a refusal: where gcore has directed the process to stop, it first runs it again
unfoldable pub way_out : GcoreStage → GcoreStage
way_out AwaitStop = Release
way_out ReadStatus = Release
way_out (ReadPart part) = Release
way_out ReadMemory = Release
way_out Run = Release
way_out _ = Close
