use Rattle.std.specs.Prelude.{ℕ, Bool, true, false, List, [], ◌∷◌, Some, None, if◌then◌else◌}
use Rattle.pr_num.specs.declared.faults.Flt.TheVariants.{Trace}
use Rattle.pr_model.specs.Changes.{Change, space_is, takes_shared, job_stops, with_space, with_shared_taken, with_job_stop}
use Rattle.pr_model.specs.InstructionEffects.{InstructionEffect}
use Rattle.pr_model.specs.Machines.{traced}
use Rattle.pr_model.specs.Moves.{moved}
use Rattle.pr_model.specs.Rows.{Row, finished as call_finished}
use Rattle.pr_model.specs.State.{TracedProcess, TracedLwp, with_lwp}
use Rattle.pr_model.specs.Transitions.{Transition}
use Rattle.pr_model.specs.declared.events.Did.{Did}
use Rattle.pr_model.specs.declared.events.Did.TheVariants as did
use Rattle.pr_model.specs.declared.events.How.TheVariants as how
use Rattle.pr_model.specs.declared.lwps.Phase.TheVariants.{Entered, Faulted}
use Rattle.pr_num.specs.declared.syscalls.Sysno.{Sysno}
use Rattle.pr_num.specs.declared.syscalls.Sysno.TheVariants.{Sigreturn, Exec}
use Rattle.pr_model.specs.declared.stops.Point.{Point}
use Rattle.pr_model.specs.declared.stops.Point.TheVariants as point
use Rattle.pr_lwp.specs.Plain.{outcome_of}
use Rattle.pr_lwp.specs.Steps.{stepped}
use Rattle.pr_lwp.specs.declared.steps.Effect.{Effect}
use Rattle.pr_lwp.specs.declared.steps.Effect.TheVariants.{Ran, Sys, Fault}
use Rattle.pr_turn.specs.NextRows.{move_of, executed_move}
use Rattle.pr_turn.specs.declared.making.Made.{Made}
use Rattle.pr_turn.specs.declared.next.Next.{Next}
use Rattle.pr_turn.specs.declared.next.Next.TheVariants.{Requested, Posted, Gave, Ends, Returned, Executed, TookOwn, TookShared, Dropped, JobStopped, Caught}

-- What a row makes of its process, and what it did.

abbrev pub quiet : Did → Made
quiet d = record { did = d; point = None; begun = false }

abbrev pub at_point : Did → Point → Made
at_point d p = record { did = d; point = Some p; begun = false }

-- what a row did that is no instruction
unfoldable pub made_of : TracedLwp → Next → Made
made_of l Requested = quiet did.Stopped
made_of l (Posted f address) = quiet (did.Posted f)
made_of l (Gave woken call args result) = at_point (call_finished woken call result) (point.Exit call)
made_of l (Ends what status) = quiet what
made_of l (Returned call) =
    if l.control.step then at_point (did.Faulted Trace) (point.Fault Trace) else quiet (did.Returned call)
made_of l Executed = quiet did.Ran
made_of l (TookOwn g) = at_point (did.Took g) (point.Signal g)
made_of l (TookShared g) = at_point (did.Took g) (point.Signal g)
made_of l (Dropped g) = quiet (did.Acted g how.Ignored)
made_of l (JobStopped g) = quiet (did.Acted g how.JobStop)
made_of l (Caught c handler) = quiet (did.Acted c.signal how.Caught)

-- what an instruction did that came to this
abbrev pub made_by : Effect → Made
made_by Ran = record { did = did.Ran; point = None; begun = true }
made_by (Sys call) = record { did = did.Entered call; point = Some (point.Entry call); begun = true }
made_by (Fault f address) = record { did = did.Faulted f; point = Some (point.Fault f); begun = true }

-- what an instruction came to
unfoldable pub effect_of : TracedLwp → InstructionEffect → Effect
effect_of l e = (stepped (outcome_of e) l).effect

-- what a row of the table did
abbrev pub of_row : Row → Made
of_row row = record { did = row.did; point = row.point; begun = row.begun }

-- an lwp as a row leaves it, and as an instruction does
unfoldable pub moved_by : Next → TracedLwp → TracedLwp
moved_by next l = moved traced (move_of l next) l

unfoldable pub executed_by : InstructionEffect → TracedLwp → TracedLwp
executed_by e l = moved traced (executed_move l e) l

-- whether a row ends its process
abbrev pub ends : Next → Bool
ends (Ends did status) = true
ends _ = false

-- a process after changes that are its own
abbrev pub in_process : List Change → TracedProcess → TracedProcess
in_process [] p = p
in_process (space_is space ∷ cs) p = in_process cs (with_space space p)
in_process (takes_shared g ∷ cs) p = in_process cs (with_shared_taken g p)
in_process (job_stops g ∷ cs) p = in_process cs (with_job_stop g p)
in_process (_ ∷ cs) p = in_process cs p

-- a process after such a transition of the lwp of an id
unfoldable pub process_after : ℕ → Transition → TracedProcess → TracedProcess
process_after id t p = with_lwp id (moved traced t.move) (in_process t.changes p)

-- an lwp at the system call or the fault to which its instruction came
unfoldable pub finished : Effect → TracedLwp → TracedLwp
finished Ran l = l
finished (Sys call) l = record l { phase = Entered call }
finished (Fault f address) l = record l { phase = Faulted f address }

-- whether a call that succeeds leaves the registers as it made them
abbrev pub keeps_registers : Sysno → Bool
keeps_registers Sigreturn = true
keeps_registers Exec = true
keeps_registers _ = false
