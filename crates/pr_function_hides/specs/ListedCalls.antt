-- How far the calls of functions that truss has shown are the turns of the machine that complete an instruction at a
-- planted function.
use Rattle.std.specs.Prelude.{◌≡◌, ◌≢◌, ◌<◌, ◌++◌, ℕ, true, false, None, Some, Ok, List, [], ◌∷◌, length, slice_get}
use Rattle.pr_line.specs.declared.functions.Function.{Function}
use Rattle.pr_line.specs.declared.options.Options.{Options}
use Rattle.pr_model.specs.Legal.{state_after}
use Rattle.pr_model.specs.Registers.{pc_of}
use Rattle.pr_model.specs.State.{TracedLwp, TracedProcess, TracedState, live_process, lwp_of}
use Rattle.pr_model.specs.declared.calls.File.TheVariants.{Lstatus, Status}
use Rattle.pr_model.specs.declared.events.Act.TheVariants.{Turn}
use Rattle.pr_model.specs.declared.events.Actor.TheVariants.{Lwp}
use Rattle.pr_model.specs.declared.events.Entry.{Entry}
use Rattle.pr_model.specs.declared.events.Turned.{Turned}
use Rattle.pr_model.specs.declared.lwps.Phase.TheVariants.{User}
use Rattle.pr_num.specs.Control.{prot_exec}
use Rattle.pr_num.specs.Spaces.{bytes_for}
use Rattle.pr_report_laws.specs.Attachments.{ReadsFile}
use Rattle.pr_report_laws.specs.Memories.{WasKilled}
use Rattle.pr_report_laws.specs.Watching.{watches}
use Rattle.pr_truss.specs.Asides.{marks_at}
use Rattle.pr_truss.specs.FunctionCalls.{next_function_call_of}
use Rattle.pr_truss.specs.Marks.{breakpoint, has_function}
use Rattle.pr_truss.specs.Trusses.{first_truss, traced_at}
use Rattle.pr_truss.specs.declared.reports.Report.{Report}
use Rattle.pr_function_laws.specs.FunctionTurns.{IsUnread, call_of_turn, calls_of, function_turns}
use Rattle.pr_function_laws.specs.Opened.{functions_at}

-- Wherever an lwp of a process that truss traces has a turn, and is in its program, not directed to stop, and at the
-- address of a function whose breakpoint is planted there, as truss's marks say: what it can fetch there, if it can
-- fetch anything, is the instruction of a breakpoint.
pub record FetchesBreakpoints (k : ℕ) (o : Options) (first : TracedState) (h : List Entry) : Type 0 where
  pub each : (front later : List Entry) (place id function : ℕ) (t : Turned) (p : TracedProcess) (l : TracedLwp)
      (f : Function) (bytes : List ℕ)
      → h ≡ front
      ++ record { actor = Lwp (traced_at (functions_at k o front) place).pid id; act = Turn t } ∷ later
      → place < length (functions_at k o front).traced
      → live_process (state_after first front).system (traced_at (functions_at k o front) place).pid ≡ Some p
      → lwp_of p id ≡ Some l → l.phase ≡ User → l.control.directed ≡ false
      → slice_get (functions_at k o front).options.functions function ≡ Some f → f.at ≡ pc_of l.regs
      → has_function (marks_at (functions_at k o front) place).planted function ≡ true
      → bytes_for prot_exec p.space f.at 16 ≡ Ok bytes → bytes ≡ breakpoint

-- The turn that is this call came in an entry of a history, and truss had no answer that told it: since then no read of
-- the status of the process, or of the statuses of its lwps, gave truss bytes.
pub record TurnIsUnread (k : ℕ) (o : Options) (first : TracedState) (h : List Entry) (pid : ℕ) (report : Report)
    : Type 0 where
  pub before : List Entry
  pub turn : Entry
  pub later : List Entry
  pub is : h ≡ before ++ turn ∷ later
  pub call : call_of_turn (functions_at k o before) (state_after first before) pid turn.actor turn.act ≡ report ∷ []
  pub status : (between behind : List Entry) (e : Entry) → later ≡ between ++ e ∷ behind
      → ReadsFile k pid Status (state_after first (before ++ turn ∷ between)) e → ⊥
  pub lwps : (between behind : List Entry) (e : Entry) → later ≡ between ++ e ∷ behind
      → ReadsFile k pid Lstatus (state_after first (before ++ turn ∷ between)) e → ⊥

-- At most the last call is lacking among those that were shown: truss has not read its turn yet, in a process that
-- lives and that it watches, and the step over that function is under way; or SIGKILL ended the process after the turn.
pub data MayLack (k : ℕ) (o : Options) (first : TracedState) (h : List Entry) (pid : ℕ) : List Report → Type 0 where
  none : MayLack k o first h pid []
  unread : (report : Report) → TurnIsUnread k o first h pid report → IsUnread (functions_at k o h) pid report
      → watches (functions_at k o h) pid ≡ true
      → (p : TracedProcess) → live_process (state_after first h).system pid ≡ Some p
      → MayLack k o first h pid (report ∷ [])
  ended : (report : Report) (w : TurnIsUnread k o first h pid report)
      → live_process (state_after first h).system pid ≡ None
      → WasKilled pid (state_after first (w.before ++ w.turn ∷ [])) w.later → MayLack k o first h pid (report ∷ [])

-- The calls of functions in a process that truss has shown are its turns in a history that are such calls, each once
-- and in their order, but for the last one at most. Once truss has finished, one is lacking only of a process that has
-- ended; so none is unread then.
pub record ListsItsTurns (k : ℕ) (o : Options) (first : TracedState) (h : List Entry) (pid : ℕ) : Type 0 where
  pub lacking : List Report
  pub are : function_turns k pid (first_truss o) first h ≡ calls_of pid (functions_at k o h).reports ++ lacking
  pub few : MayLack k o first h pid lacking
  pub at_last : next_function_call_of (functions_at k o h) ≡ None → lacking ≢ []
      → live_process (state_after first h).system pid ≡ None
