-- What truss(1) does about breakpoints (-u) before the call of its stage.
use Rattle.std.specs.Prelude.{◌||◌, ℕ, Bool, false, List, is_some, if◌then◌else◌}
use Rattle.pr_num.specs.Control.{clear_fault, has_flags}
use Rattle.pr_truss.specs.Marks.{no_functions, first_function}
use Rattle.pr_truss.specs.Trusses.{TrussState, traced_at, with_traced}
use Rattle.pr_truss.specs.declared.asides.Aside.{Aside}
use Rattle.pr_truss.specs.declared.asides.Aside.TheVariants.{Nothing, Patching}
use Rattle.pr_truss.specs.declared.marks.Marks.{Marks}
use Rattle.pr_truss.specs.declared.stages.Stage.{Stage}
use Rattle.pr_truss.specs.declared.stages.Stage.TheVariants.{Closing}

-- Breakpoints are planted, then breakpoints are lifted, and then a fault is cleared; nothing where none of this is to
-- be done.
unfoldable pub patching : ℕ → List Bool → List Bool → Bool → Aside
patching place plants lifts clear =
    if is_some (first_function plants) || is_some (first_function lifts) || clear then Patching place plants lifts clear
    else Nothing

abbrev pub with_aside : TrussState → Aside → TrussState
with_aside s aside = record s { aside = aside }

-- the marks of the process at a place
abbrev pub marks_at : TrussState → ℕ → Marks
marks_at s place = (traced_at s place).marks

abbrev pub with_marks : TrussState → ℕ → Marks → TrussState
with_marks s place marks = with_traced s place (record (traced_at s place) { marks = marks })

-- before the call of the stage breakpoints of a process are planted, and then others are lifted
unfoldable pub with_patches : TrussState → ℕ → List Bool → List Bool → TrussState
with_patches s place plants lifts = with_aside s (patching place plants lifts false)

-- before the call of the stage all breakpoints of a process are lifted, and then its fault is cleared, if it is to be
unfoldable pub with_lifts : TrussState → ℕ → Bool → TrussState
with_lifts s place clear = with_aside s (patching place no_functions (marks_at s place).planted clear)

-- the same where the files of the process are closed next; nothing where a read of memory comes before that
abbrev pub lifts_at : TrussState → ℕ → Stage → TrussState
lifts_at s place (Closing closed next) = with_lifts s place false
lifts_at s place _ = s

unfoldable pub with_lifts_before_closing : TrussState → ℕ → TrussState
with_lifts_before_closing s place = lifts_at s place s.stage

-- whether a fault of truss's own was read on which the process still stands
abbrev pub has_fault_to_clear : Marks → Bool
has_fault_to_clear m = has_flags m.flags clear_fault
