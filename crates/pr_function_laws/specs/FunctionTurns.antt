-- The calls of functions in a history: the turns of the machine that complete an instruction at a function which truss
-- has marked as planted; and those that it has shown, and the one that it has not read yet.
use Rattle.std.specs.Prelude.{◌≡◌, ◌==◌, ◌&&◌, ◌++◌, ℕ, Bool, true, false, Option, Some, None, List, [], ◌∷◌, filter, option_and_then, position, if◌then◌else◌}
use Rattle.pr_line.specs.declared.options.Options.{Options}
use Rattle.pr_model.specs.Legal.{after}
use Rattle.pr_model.specs.Registers.{pc_of}
use Rattle.pr_model.specs.State.{TracedLwp, TracedState, live_process, lwp_of}
use Rattle.pr_model.specs.declared.events.Act.{Act}
use Rattle.pr_model.specs.declared.events.Act.TheVariants.{Turn}
use Rattle.pr_model.specs.declared.events.Actor.{Actor}
use Rattle.pr_model.specs.declared.events.Actor.TheVariants.{Lwp}
use Rattle.pr_model.specs.declared.events.Did.{Did}
use Rattle.pr_model.specs.declared.events.Did.TheVariants.{Faulted}
use Rattle.pr_model.specs.declared.events.Entry.{Entry}
use Rattle.pr_model.specs.declared.lwps.Phase.{Phase}
use Rattle.pr_model.specs.declared.lwps.Phase.TheVariants.{User}
use Rattle.pr_num.specs.declared.faults.Flt.TheVariants.{Trace}
use Rattle.pr_truss.specs.FunctionEvents.{function_at}
use Rattle.pr_truss.specs.Trusses.{TrussState, traced_at}
use Rattle.pr_truss.specs.declared.marks.Stepped.{Stepped}
use Rattle.pr_truss.specs.declared.processes.Traced.{Traced}
use Rattle.pr_truss.specs.declared.reports.Report.{Report}
use Rattle.pr_truss.specs.declared.reports.Report.TheVariants.{Called}
use Rattle.pr_truss_laws.specs.Exchanges.{exchange_of}
use Rattle.pr_function_laws.specs.Runs.{functions_on}
use Rattle.pr_function_laws.specs.Turns.{first_arguments}

-- ---- one turn

-- a turn that ends with a trace trap
abbrev pub is_trap : Did → Bool
is_trap (Faulted Trace) = true
is_trap did = false

-- An lwp is in its program: it will fetch an instruction, unless a signal comes first. One that is in a call, or on its
-- way out of one, will not.
abbrev pub is_in_program : Phase → Bool
is_in_program User = true
is_in_program phase = false

-- The call of a function that an lwp makes which has its pc at the address of one, with r1 to r3 as they are then.
abbrev pub call_at : ℕ → ℕ → TracedLwp → Option ℕ → List Report
call_at pid id l None = []
call_at pid id l (Some function) = Called pid id function (first_arguments l.regs) ∷ []

-- A function counts as planted while its breakpoint stands, and while it is lifted for the step of one lwp. Of several
-- functions at one address the first one counts.
abbrev pub call_by : Options → Traced → ℕ → Option TracedLwp → List Report
call_by o t id None = []
call_by o t id (Some l) =
    call_at t.pid id l (if is_in_program l.phase then function_at o t.marks (pc_of l.regs) else None)

-- the lwp of this id of a process that lives
abbrev pub lwp_in : TracedState → ℕ → ℕ → Option TracedLwp
lwp_in s pid id = option_and_then (λ p. lwp_of p id) (live_process s.system pid)

-- in a process that truss traces, if it does
abbrev pub call_in : TrussState → TracedState → ℕ → ℕ → Option ℕ → List Report
call_in t s pid id None = []
call_in t s pid id (Some place) = call_by t.options (traced_at t place) id (lwp_in s pid id)

abbrev pub is_process : ℕ → Traced → Bool
is_process pid t = t.pid == pid

-- The call of a function that a turn is, with the truss and the state before it. It is one where the turn completes the
-- instruction at a function that counts as planted: it ends with a trace trap, which comes behind an instruction that
-- was stepped, and the lwp was in its program before it, with its pc there.
abbrev pub call_of_turn : TrussState → TracedState → ℕ → Actor → Act → List Report
call_of_turn t s pid (Lwp acting id) (Turn turned) =
    if (acting == pid) && is_trap turned.did then call_in t s pid id (position (is_process pid) t.traced) else []
call_of_turn t s pid actor act = []

-- ---- in a history

-- The calls of functions in a process along a history, each once and in their order, where truss was this in the state
-- before it.
unfoldable pub function_turns : ℕ → ℕ → TrussState → TracedState → List Entry → List Report
function_turns k pid t s [] = []
function_turns k pid t s (e ∷ h) =
    call_of_turn t s pid e.actor e.act ++ function_turns k pid (functions_on t (exchange_of k e)) (after s e) h

-- ---- what truss has shown

abbrev pub is_call_of : ℕ → Report → Bool
is_call_of pid (Called of lwp function arguments) = of == pid
is_call_of pid report = false

-- the calls of this process among reports, in their order
unfoldable pub calls_of : ℕ → List Report → List Report
calls_of pid reports = filter (is_call_of pid) reports

-- Truss has not read yet the turn that is this call: it traces the process, and the step over that function is under
-- way.
pub record IsUnread (t : TrussState) (pid : ℕ) (report : Report) : Type 0 where
  pub place : ℕ
  pub traced : position (is_process pid) t.traced ≡ Some place
  pub step : Stepped
  pub under_way : (traced_at t place).marks.stepped ≡ Some step
  pub is : report ≡ Called pid step.lwp step.function step.arguments
