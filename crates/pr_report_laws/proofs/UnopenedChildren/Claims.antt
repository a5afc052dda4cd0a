use Rattle.std.proofs.Common.{◌≡◌, ◌==◌, ◌<◌, ◌⊎◌, ℕ, Bool, true, false, cond, Option, Some, None, List, [], length}
use Rattle.std.specs.List.{slice_get}
use Rattle.std.specs.Option.{option_and_then}
use Rattle.pr_line.specs.declared.options.Options.{Options}
use Rattle.pr_model.specs.Replies.{bytes_in}
use Rattle.pr_model.specs.State.{TracedProcess, TracedState, TracedSystem, live_process}
use Rattle.pr_model.specs.declared.calls.Reply.{Reply}
use Rattle.pr_model.specs.declared.events.Entry.{Entry}
use Rattle.pr_num.specs.Control.{fork_mode, has_flags}
use Rattle.pr_rec.specs.declared.lwps.LwpStatus.{LwpStatus}
use Rattle.pr_truss.specs.Records.{status_lwp}
use Rattle.pr_truss.specs.Replies.{answer_of}
use Rattle.pr_truss.specs.Stops.{followed_child}
use Rattle.pr_truss.specs.Trusses.{TrussState}
use Rattle.pr_truss.specs.declared.processes.Traced.{Traced}
use Rattle.pr_truss.specs.declared.replies.Answer.TheVariants.{Accepted}
use Rattle.pr_truss.specs.declared.stages.ChildStep.TheVariants as child
use Rattle.pr_truss.specs.declared.stages.OpeningStep.TheVariants as opening
use Rattle.pr_truss.specs.declared.stages.Stage.{Stage}
use Rattle.pr_truss.specs.declared.stages.Stage.TheVariants.{Spawning, OpeningControl, Opening, ReadingStatus, ReadingText, OpeningChildControl, OpeningChild, Running}
use Rattle.pr_truss_laws.proofs.Files.HeldLemmas.{at_place}
use Rattle.pr_report_laws.proofs.Machine.ForkTurns.{HasForked}
use Rattle.pr_report_laws.proofs.Machine.NewBorn.{IsNewBorn}
use Rattle.pr_report_laws.proofs.Invariant.Standing.{has_read}
use Rattle.pr_report_laws.specs.Watching.{is_away}

-- The children of forks that truss has not opened yet: what holds of them before each entry of a history, as long as
-- truss does not leave its processes.

-- ---- the processes that truss traces, by their places

-- truss watches the process, has read no stop of it, and counts none as old
pub record IsFree (ts : List Traced) (stage : Stage) (place : ℕ) : Type 0 where
  pub within : place < length ts
  pub attached : (at_place ts place).attached ≡ true
  pub here : is_away false stage place ≡ false
  pub read : has_read stage place ≡ false
  pub none : (at_place ts place).old ≡ 0

-- whether a step opens a process that has PR_FORK already, where children are followed
abbrev pub sets : Stage → ℕ → Bool
sets (Opening at opening.Start) place = at == place
sets (OpeningChild parent at _) place = at == place
sets _ place = false

-- PR_FORK was set in the process, where children are followed
pub data IsSet (ts : List Traced) (stage : Stage) (place : ℕ) : Type 0 where
  watched : place < length ts → (at_place ts place).attached ≡ true → is_away false stage place ≡ false
      → IsSet ts stage place
  opened : place < length ts → sets stage place ≡ true → IsSet ts stage place

-- the child that truss opens next, of a fork of the process at a place
abbrev pub claim_of : Options → Stage → ℕ → Option ℕ
claim_of o (ReadingText at l from len) place = cond (at == place) (followed_child o l) None
claim_of o (OpeningChildControl parent pid) place = cond (parent == place) (Some pid) None
claim_of o _ place = None

-- whether a step lets a process go
abbrev pub runs : Stage → ℕ → Bool
runs (Running at) place = at == place
runs (Opening at opening.Start) place = at == place
runs (OpeningChild parent at child.Start) place = at == place
runs _ place = false

-- A process that truss opens by its id is one that its options name; or truss traces none yet.
abbrev pub Names : Options → List Traced → Stage → Type 0
Names o ts (Spawning program) = ts ≡ []
Names o ts (OpeningControl pid) = ((place : ℕ) × (slice_get o.pids place ≡ Some pid)) ⊎ (ts ≡ [])
Names o ts _ = Unit {0}

-- ---- the children

-- A process made a child by fork that truss is to open: it has read the stop of that fork, or it is still to do so.
pub data Claims (o : Options) (ts : List Traced) (stage : Stage) (s : TracedSystem) (pid c : ℕ) : Type 0 where
  reads : (place : ℕ) → place < length ts → (at_place ts place).pid ≡ pid → claim_of o stage place ≡ Some c
      → Claims o ts stage s pid c
  stands : (place : ℕ) → IsFree ts stage place → (at_place ts place).pid ≡ pid → o.follow ≡ true → (p : TracedProcess)
      → live_process s pid ≡ Some p → HasForked p c → Claims o ts stage s pid c

-- Of the processes of a line: each child of theirs that is of the line too stands at its birth, if it lives; or truss
-- never opens it as a child. No two of them made the same child.
pub record KeepsChildren (Line : ℕ → Type 0) (k : ℕ) (o : Options) (t : TrussState) (s : TracedState)
    (h : List Entry) : Type 0 where
  pub flags : o.follow ≡ true → (place : ℕ) → IsSet t.traced t.stage place → Line (at_place t.traced place).pid
      → (p : TracedProcess) → live_process s.system (at_place t.traced place).pid ≡ Some p
      → has_flags p.control.modes fork_mode ≡ true
  pub born : (pid c : ℕ) → Line pid → Line c → Claims o t.traced t.stage s.system pid c → IsNewBorn k o t s h c
  pub one : (pid other c : ℕ) → Line pid → Line other → Line c → Claims o t.traced t.stage s.system pid c
      → Claims o t.traced t.stage s.system other c → pid ≡ other
  pub names : Names o t.traced t.stage

-- ---- what a reply leaves of that

-- a call that counts where it was accepted: the last step of an opening, and the first one of the opening of a child
pub record IsDone (t : TrussState) (r : Reply) (place : ℕ) : Type 0 where
  pub start : t.stage ≡ Opening place opening.Start → answer_of r ≡ Accepted
  pub release : (parent : ℕ) → t.stage ≡ OpeningChild parent place child.SetRelease → answer_of r ≡ Accepted

-- a process that is free was so, or was run
pub data WasFree (t : TrussState) (r : Reply) (pid : ℕ) : Type 0 where
  was_free : (place : ℕ) → IsFree t.traced t.stage place → (at_place t.traced place).pid ≡ pid → WasFree t r pid
  was_run : (place : ℕ) → place < length t.traced → runs t.stage place ≡ true → (at_place t.traced place).pid ≡ pid
      → (at_place t.traced place).old ≡ 0 → IsDone t r place → WasFree t r pid

-- a child that truss opens next was to be opened, or was told by the status that was read
pub record IsTold (t : TrussState) (r : Reply) (place c : ℕ) : Type 0 where
  pub stage : t.stage ≡ ReadingStatus place
  pub none : (at_place t.traced place).old ≡ 0
  pub accepted : answer_of r ≡ Accepted
  pub lwp : LwpStatus
  pub read : option_and_then status_lwp (bytes_in r) ≡ Some lwp
  pub child : followed_child t.options lwp ≡ Some c

pub data WasClaimed (t : TrussState) (r : Reply) (pid c : ℕ) : Type 0 where
  was_claimed : (place : ℕ) → place < length t.traced → (at_place t.traced place).pid ≡ pid
      → claim_of t.options t.stage place ≡ Some c → WasClaimed t r pid c
  was_told : (place : ℕ) → place < length t.traced → (at_place t.traced place).pid ≡ pid → IsTold t r place c
      → WasClaimed t r pid c

-- a process that has PR_FORK had it; or it was set now, or is the child of a fork
pub data WasSet (t : TrussState) (r : Reply) (pid : ℕ) : Type 0 where
  was_set : (place : ℕ) → IsSet t.traced t.stage place → (at_place t.traced place).pid ≡ pid → IsDone t r place
      → WasSet t r pid
  set_now : (place : ℕ) → place < length t.traced → (at_place t.traced place).pid ≡ pid
      → t.stage ≡ Opening place opening.Follow → answer_of r ≡ Accepted → WasSet t r pid
  not_followed : t.options.follow ≡ false → WasSet t r pid
  is_child : (parent : ℕ) → t.stage ≡ OpeningChildControl parent pid → answer_of r ≡ Accepted → WasSet t r pid

pub record Comes (t : TrussState) (r : Reply) (u : TrussState) : Type 0 where
  pub stays : t.leaving ≡ false
  pub free : (place : ℕ) → IsFree u.traced u.stage place → WasFree t r (at_place u.traced place).pid
  pub claims : (place c : ℕ) → place < length u.traced → claim_of t.options u.stage place ≡ Some c
      → WasClaimed t r (at_place u.traced place).pid c
  pub set : (place : ℕ) → IsSet u.traced u.stage place → WasSet t r (at_place u.traced place).pid
  pub names : Names t.options u.traced u.stage
