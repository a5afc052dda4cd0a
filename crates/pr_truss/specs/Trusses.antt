-- truss(1) as a controller of the kernel: what it holds, what it does, and what it has learnt. It knows the machine by
-- replies alone.
use Rattle.std.specs.Prelude.{◌<◌, ◌+◌, ◌++◌, ℕ, Bool, false, Option, Some, None, List, [], ◌∷◌, slice_get, slice_set}
use Rattle.std.specs.List.{slice_index_or, remove}
use Rattle.pr_line.specs.declared.options.Options.{Options}
use Rattle.pr_truss.specs.Processes.{newly_traced}
use Rattle.pr_truss.specs.declared.asides.Aside.{Aside}
use Rattle.pr_truss.specs.declared.asides.Aside.TheVariants.{Nothing}
use Rattle.pr_truss.specs.declared.processes.Traced.{Traced}
use Rattle.pr_truss.specs.declared.reports.Report.{Report}
use Rattle.pr_truss.specs.declared.stages.Stage.{Stage}
use Rattle.pr_truss.specs.declared.stages.Stage.TheVariants.{Spawning, OpeningControl, Finished}

-- The options; how many of the processes that they name it has begun to open; the processes that it traces, in the
-- order of opening; the step whose reply comes next; what it does about breakpoints before the call of that step;
-- whether it was interrupted and leaves its processes; and what it has reported so far.
pub record TrussState : Type 0 where
  pub options : Options
  pub begun : ℕ
  pub traced : List Traced
  pub stage : Stage
  pub aside : Aside
  pub leaving : Bool
  pub reports : List Report

-- A truss as contracts see it: its state, and how many processes and how many reports more there is room for.
pub record TrussView : Type 0 where
  pub state : TrussState
  pub traced_room : ℕ
  pub report_room : ℕ

-- whether it can be fed one reply without memory
pub record IsReady (k : TrussView) : Type 0 where
  pub traced : 0 < k.traced_room
  pub report : 0 < k.report_room

-- ---- parts of the state

-- what stands for a process where there is none
abbrev pub nobody : Traced
nobody = newly_traced 0 0

-- the process at a place
abbrev pub traced_at : TrussState → ℕ → Traced
traced_at s place = slice_index_or s.traced place nobody

-- the step whose reply comes next is this one
abbrev pub with_stage : TrussState → Stage → TrussState
with_stage s stage = record s { stage = stage }

-- the process at a place becomes this one
abbrev pub with_traced : TrussState → ℕ → Traced → TrussState
with_traced s place t = record s { traced = slice_set s.traced place t }

-- one process more is traced
abbrev pub with_opened : TrussState → Traced → TrussState
with_opened s t = record s { traced = s.traced ++ t ∷ [] }

-- the process at a place is no longer traced
abbrev pub without_traced : TrussState → ℕ → TrussState
without_traced s place = record s { traced = remove s.traced place }

-- something is reported
abbrev pub with_report : TrussState → Report → TrussState
with_report s report = record s { reports = s.reports ++ report ∷ [] }

-- ---- the first state

-- the next process that the options name is opened, or else there is none left
abbrev pub opening_or : TrussState → TrussState → Option ℕ → TrussState
opening_or s others None = others
opening_or s others (Some pid) = record s { stage = OpeningControl pid; begun = s.begun + 1 }

-- before anything was done
abbrev pub idle : Options → TrussState
idle options =
    record {
      options = options;
      begun = 0;
      traced = [];
      stage = Finished;
      aside = Nothing;
      leaving = false;
      reports =
          [];
    }

abbrev pub first_of_program : Options → Option (List ℕ) → TrussState
first_of_program options None = opening_or (idle options) (idle options) (slice_get options.pids 0)
first_of_program options (Some program) = with_stage (idle options) (Spawning program)

-- Truss before its first call: it makes the process of its program, or opens the first of the processes that it was
-- given.
unfoldable pub first_truss : Options → TrussState
first_truss options = first_of_program options options.program
