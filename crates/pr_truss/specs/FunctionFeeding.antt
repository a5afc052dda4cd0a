-- What the reply to its call makes of truss(1) where it shows calls of functions (-u).
use Rattle.std.specs.Prelude.{◌+◌, ◌==◌, ◌&&◌, ℕ, Bool, false, Option, Some, None, List, length, nat_lt, position, if◌then◌else◌}
use Rattle.std.specs.Str.{bytes_eq}
use Rattle.pr_model.specs.Replies.{bytes_in, until_in}
use Rattle.pr_model.specs.declared.calls.Reply.{Reply}
use Rattle.pr_line.specs.declared.options.Options.{Options}
use Rattle.pr_num.specs.declared.errnos.Errno.{Errno}
use Rattle.pr_num.specs.declared.errnos.Errno.TheVariants.{Noent}
use Rattle.pr_truss.specs.Asides.{patching, with_aside, with_lifts, marks_at, with_marks}
use Rattle.pr_truss.specs.Closings.{with_closing, with_interrupt}
use Rattle.pr_truss.specs.Feeding.{fed, with_reply}
use Rattle.pr_truss.specs.FunctionEvents.{begins_at}
use Rattle.pr_truss.specs.FunctionStops.{with_function_status_answered, with_function_text_answered, with_function_run_answered, with_function_lwps_answered}
use Rattle.pr_truss.specs.Marks.{address_of, code_of, first_function, has_functions, with_function, without_function}
use Rattle.pr_truss.specs.Openings.{with_refused_step, with_step_done, with_stop_seen}
use Rattle.pr_truss.specs.Replies.{answer_of}
use Rattle.pr_truss.specs.Reports.{all_reports}
use Rattle.pr_truss.specs.Trusses.{TrussState, with_stage}
use Rattle.pr_truss.specs.declared.asides.Aside.{Aside}
use Rattle.pr_truss.specs.declared.asides.Aside.TheVariants.{Nothing, Reading, Planting, Patching, AwaitingStop, Asking, AwaitingAgain}
use Rattle.pr_truss.specs.declared.replies.Answer.{Answer}
use Rattle.pr_truss.specs.declared.replies.Answer.TheVariants.{Accepted, Interrupted, Gone, Refused}
use Rattle.pr_truss.specs.declared.stages.AfterClosing.TheVariants.{OpenNext}
use Rattle.pr_truss.specs.declared.stages.OpeningStep.{OpeningStep}
use Rattle.pr_truss.specs.declared.stages.OpeningStep.TheVariants.{TraceExits}
use Rattle.pr_truss.specs.declared.stages.Stage.{Stage}
use Rattle.pr_truss.specs.declared.stages.Stage.TheVariants.{Opening, ReadingStatus, ReadingText, Running, Closing, Unfollowing, ReadingLwps}

-- ---- opening

-- the next function is looked at in a process; after the last the opening goes on
unfoldable pub with_next_function : TrussState → ℕ → ℕ → TrussState
with_next_function s place function =
    if nat_lt function (length s.options.functions) then with_aside s (Reading place function) else with_aside s Nothing

-- A refusal that ends the opening of a process, though the process has not ended: what was planted in it is lifted
-- first.
unfoldable pub with_refused_opening : TrussState → ℕ → Errno → TrussState
with_refused_opening s place errno = with_lifts (with_refused_step s place errno) place false

abbrev pub with_functions_begun : TrussState → ℕ → OpeningStep → TrussState
with_functions_begun s place TraceExits = with_next_function s place 0
with_functions_begun s place _ = s

-- the reply to a step of the opening; behind the traced sets the functions are looked at
unfoldable pub with_function_step_answered : TrussState → ℕ → OpeningStep → Reply → Answer → TrussState
with_function_step_answered s place opening r Accepted =
    with_functions_begun (with_step_done s place r opening) place opening
with_function_step_answered s place opening r Interrupted = with_interrupt (with_stop_seen s place)
with_function_step_answered s place opening r Gone = with_refused_step s place Noent
with_function_step_answered s place opening r (Refused errno) = with_refused_opening s place errno

-- whether the bytes that were read are the first instruction of a function
abbrev pub is_code : List ℕ → Option (List ℕ) → Bool
is_code code None = false
is_code code (Some bytes) = bytes_eq bytes code

abbrev pub is_place : ℕ → Option ℕ → Bool
is_place function None = false
is_place function (Some first) = first == function

-- whether no function before this one has its address
unfoldable pub is_first_there : Options → ℕ → Bool
is_first_there o function = is_place function (position (begins_at (address_of o function)) o.functions)

-- A function is planted where its first instruction was read, and no function before it has its address. Else it is
-- left alone; so of two functions at one address the second one always is.
abbrev pub is_to_plant : Options → ℕ → Option (List ℕ) → Bool
is_to_plant o function bytes = is_code (code_of o function) bytes && is_first_there o function

unfoldable pub with_code_read : TrussState → ℕ → ℕ → Option (List ℕ) → TrussState
with_code_read s place function bytes =
    if is_to_plant s.options function bytes then with_aside s (Planting place function)
    else with_next_function s place (function + 1)

abbrev pub with_planted : TrussState → ℕ → ℕ → TrussState
with_planted s place function =
    with_marks s place (record (marks_at s place) { planted = with_function (marks_at s place).planted function })

abbrev pub without_planted : TrussState → ℕ → ℕ → TrussState
without_planted s place function =
    with_marks s place (record (marks_at s place) { planted = without_function (marks_at s place).planted function })

-- the reply to the read of a first instruction
unfoldable pub with_code_answered : TrussState → ℕ → ℕ → Reply → Answer → TrussState
with_code_answered s place function r Accepted = with_code_read s place function (bytes_in r)
with_code_answered s place function r Interrupted = with_interrupt (with_stop_seen s place)
with_code_answered s place function r Gone = with_refused_step s place Noent
with_code_answered s place function r (Refused errno) = with_refused_opening s place errno

-- the reply to the planting of a breakpoint; one that was refused is not planted
unfoldable pub with_plant_answered : TrussState → ℕ → ℕ → Answer → TrussState
with_plant_answered s place function Accepted = with_next_function (with_planted s place function) place (function + 1)
with_plant_answered s place function Interrupted = with_interrupt (with_stop_seen s place)
with_plant_answered s place function Gone = with_refused_step s place Noent
with_plant_answered s place function (Refused errno) = with_refused_opening s place errno

-- ---- planting again and lifting

-- an event that was read and whose memory was not is reported as it is
unfoldable pub with_pending_told : TrussState → TrussState
with_pending_told s = record s { reports = all_reports s }

-- What is left to do goes on, also after a refusal. Where the opening was refused, every answer is passed over. Else a
-- process that has ended is closed, and an interrupt makes truss leave its processes, unless it leaves them already.
unfoldable pub after_patch : TrussState → Aside → ℕ → Stage → Answer → TrussState
after_patch s rest place (Closing closed OpenNext) answer = with_aside s rest
after_patch s rest place (Closing closed next) Gone = with_closing s place
after_patch s rest place (Closing closed next) _ = with_aside s rest
after_patch s rest place _ Accepted = with_aside s rest
after_patch s rest place _ (Refused errno) = with_aside s rest
after_patch s rest place _ Gone = with_closing (with_pending_told s) place
after_patch s rest place _ Interrupted = with_interrupt (with_stop_seen (with_pending_told s) place)

-- a breakpoint is planted where that was granted
abbrev pub planted_if : TrussState → ℕ → ℕ → Answer → TrussState
planted_if s place function Accepted = with_planted s place function
planted_if s place function _ = s

abbrev pub after_first : TrussState → ℕ → List Bool → List Bool → Bool → Answer → Option ℕ → Option ℕ → TrussState
after_first s place plants lifts clear answer (Some function) lift =
    after_patch (planted_if s place function answer)
    (patching place (without_function plants function) lifts clear) place s.stage answer
after_first s place plants lifts clear answer None (Some function) =
    after_patch (without_planted s place function)
    (patching place plants (without_function lifts function) clear) place s.stage answer
after_first s place plants lifts clear answer None None = after_patch s Nothing place s.stage answer

-- The reply to one of them, or to the clearing of the fault. A breakpoint counts as lifted also where that was refused.
unfoldable pub with_patch_answered : TrussState → ℕ → List Bool → List Bool → Bool → Answer → TrussState
with_patch_answered s place plants lifts clear answer =
    after_first s place plants lifts clear answer (first_function plants) (first_function lifts)

-- ---- leaving

-- Truss directed a process to stop, and waits for that stop. Each interrupt makes it ask again, another refusal is
-- passed over.
unfoldable pub with_halt_answered : TrussState → Reply → Answer → TrussState
with_halt_answered s r Accepted = with_aside (with_stage s ReadingLwps) (AwaitingStop (until_in r))
with_halt_answered s r Interrupted = with_aside (with_stage s ReadingLwps) Asking
with_halt_answered s r (Refused errno) = with_stage s ReadingLwps
with_halt_answered s r Gone = with_closing s 0

-- the reply to the wait
unfoldable pub with_wait_answered : TrussState → Answer → TrussState
with_wait_answered s Accepted = s
with_wait_answered s Interrupted = with_aside s Asking
with_wait_answered s (Refused errno) = s
with_wait_answered s Gone = with_closing s 0

-- the reply to the message that asks for it again
unfoldable pub with_asking_answered : TrussState → Reply → Answer → TrussState
with_asking_answered s r Accepted = with_aside s (AwaitingAgain (until_in r))
with_asking_answered s r Interrupted = with_aside s Asking
with_asking_answered s r (Refused errno) = s
with_asking_answered s r Gone = with_closing s 0

-- ---- the reply

-- a row a step where the reply makes something else of truss than without functions
unfoldable pub with_function_reply : TrussState → Reply → Stage → TrussState
with_function_reply s r (Opening place step) = with_function_step_answered s place step r (answer_of r)
with_function_reply s r (ReadingStatus place) = with_function_status_answered s place r (answer_of r)
with_function_reply s r (ReadingText place lwp at len) = with_function_text_answered s place lwp len r
with_function_reply s r (Running place) = with_function_run_answered s place (answer_of r)
with_function_reply s r Unfollowing = with_halt_answered s r (answer_of r)
with_function_reply s r ReadingLwps = with_function_lwps_answered s r (answer_of r)
with_function_reply s r stage = with_reply s r stage

-- The reply to what comes before the call of the step, and to that call. Nothing more comes before that call, unless
-- the reply makes it so.
unfoldable pub with_aside_answered : TrussState → Reply → Aside → TrussState
with_aside_answered s r Nothing = with_function_reply s r s.stage
with_aside_answered s r (Reading place function) =
    with_code_answered (with_aside s Nothing) place function r (answer_of r)
with_aside_answered s r (Planting place function) =
    with_plant_answered (with_aside s Nothing) place function (answer_of r)
with_aside_answered s r (Patching place plants lifts clear) =
    with_patch_answered (with_aside s Nothing) place plants lifts clear (answer_of r)
with_aside_answered s r (AwaitingStop until) = with_wait_answered (with_aside s Nothing) (answer_of r)
with_aside_answered s r Asking = with_asking_answered (with_aside s Nothing) r (answer_of r)
with_aside_answered s r (AwaitingAgain until) = with_wait_answered (with_aside s Nothing) (answer_of r)

-- Truss that was fed the reply to its call, where its options may name functions; one that has finished stays as it is.
unfoldable pub fed_functions : TrussState → Reply → TrussState
fed_functions s r = if has_functions s.options then with_aside_answered s r s.aside else fed s r
