use Rattle.std.proofs.Common.{◌≡◌, ◌<◌, ℕ, true, Option, Some, None, List, length, refl, sym, ap, ◌∙◌}
use Rattle.std.proofs.lemmas.Bool.{false≢true}
use Rattle.std.proofs.lemmas.Option.{none-some}
use Rattle.pr_line.specs.declared.options.Options.{Options}
use Rattle.pr_model.specs.Calls.{Answer, answer_to}
use Rattle.pr_model.specs.LwpTurns.{LwpTurn, turn_of}
use Rattle.pr_model.specs.State.{TracedProcess, TracedState, live_process}
use Rattle.pr_model.specs.declared.calls.Call.{Call}
use Rattle.pr_truss.specs.Asides.{marks_at}
use Rattle.pr_truss.specs.FunctionCalls.{next_function_call_of}
use Rattle.pr_truss.specs.Marks.{has_functions}
use Rattle.pr_truss.specs.Replies.{answer_of}
use Rattle.pr_truss.specs.Trusses.{TrussState, traced_at}
use Rattle.pr_truss.specs.declared.asides.Aside.{Aside}
use Rattle.pr_truss.specs.declared.asides.Aside.TheVariants.{Nothing, Reading, Planting, Patching}
use Rattle.pr_truss.specs.declared.marks.Marks.{Marks}
use Rattle.pr_truss.specs.declared.processes.Traced.{Traced}
use Rattle.pr_truss.specs.declared.replies.Answer.TheVariants.{Gone}
use Rattle.pr_truss.specs.declared.stages.AfterClosing.TheVariants.{GoOn, OpenNext}
use Rattle.pr_truss.specs.declared.stages.Stage.{Stage}
use Rattle.pr_truss.specs.declared.stages.Stage.TheVariants.{Spawning, OpeningControl, Opening, Polling, ReadingStatus, ReadingText, Running, Closing, Finished}
use Rattle.pr_truss_laws.proofs.Machine.StillLemmas.{frozen-turns}
use Rattle.pr_truss_laws.specs.Stills.{IsFrozen, IsHalting}
use Rattle.pr_function_laws.proofs.Marks.KeptPlaces.{AtAside, AtStage, Kept, Position}
use Rattle.pr_function_laws.proofs.OpenedProcesses.OpenedCalls.{IsSo, lowest}
use Rattle.pr_function_laws.proofs.OpenedProcesses.OpenedLaws.{Goes}
use Rattle.pr_function_hides.proofs.Replies.ClosingWalk.{called_at}
use Rattle.pr_function_hides.proofs.Copying.CopyForeign.{opening-halts, soon-still}
use Rattle.pr_function_hides.proofs.StoppedCopies.CopyOuts.{halting-makes-none}
use Rattle.pr_function_hides.proofs.Copying.CopyPlaces.{ClosesSo, CopiesSo, IsBareMarks, OpensSo, RestsSo, StandingSo, closes_so, counted, early, halted, is_early, opens_so, rests_new, rests_old, rests_so, runs_so, stopped, unplanted}
use Rattle.pr_function_hides.proofs.StoppedCopies.CopyTurns.{turn-makes-none}
use Rattle.pr_function_hides.proofs.Files.FilesCalls.{Files}
use Rattle.pr_function_hides.proofs.Files.GoneTold.{told-gone}
use Rattle.pr_function_laws.proofs.Pending.KnownFiles.{Knows}
use Rattle.pr_function_hides.proofs.Replies.OwnFiles.{IsBeside, IsWithin}
use Rattle.pr_function_hides.specs.Copying.{CopiesStand, IsLifted, bare, makes_copy, none_goes, one_goes}

-- What a fork, a vfork and an exec find that are granted, where those of each process stand as they are to; and that
-- truss is told of no process that it is gone but where that has ended.

-- ---- where truss has come

pub stage-within : (P : Position → Traced → Type 0) (ts : List Traced) (stage : Stage) → AtStage P ts stage
    → IsWithin (length ts) stage
stage-within P ts (Spawning program) w = tt
stage-within P ts (OpeningControl pid) w = tt
stage-within P ts (Opening q step) w = w.0
stage-within P ts Polling w = tt
stage-within P ts (ReadingStatus q) w = w.0
stage-within P ts (ReadingText q l from len) w = w.0
stage-within P ts (Running q) w = w.0
stage-within P ts (Closing q OpenNext) w = w.0
stage-within P ts (Closing q GoOn) w = w.0
stage-within P ts Finished w = tt
stage-within P ts _ w = absurd w

pub aside-within : (P : Position → Traced → Type 0) (ts : List Traced) (aside : Aside) → AtAside P ts aside
    → IsBeside (length ts) aside
aside-within P ts Nothing w = tt
aside-within P ts (Reading q function) w = w.0
aside-within P ts (Planting q function) w = w.0
aside-within P ts (Patching q plants lifts clear) w = w.0.0
aside-within P ts _ w = absurd w

module _ (n k : ℕ) (o : Options) (t : TrussState) (s : TracedState) (g : Goes (Unit {0}) k o t s) where
  files-there : (q : ℕ) → q < length t.traced → Files k s (traced_at t q)
  files-there q within =
      let w = g.kept in
      let low = lowest (Unit {0}) k t.options s t.traced t.stage w.stage q within in
      let h = low.holds in
      record { control = h.its; status = h.its_status; lstatus = h.its_lstatus; memory = h.its_memory }

  -- a process of which truss is told that it is gone has ended
  pub gone-there : Kept Knows t → (c : Call) (a : Answer) → answer_to s k c ≡ Some a → answer_of a.reply ≡ Gone
      → has_functions t.options ≡ true → next_function_call_of t ≡ Some c → (q : ℕ)
      → called_at t.stage t.aside ≡ Some q → live_process s.system (traced_at t q).pid ≡ None
  gone-there known c a given told has next q here =
      let w = g.kept in
      told-gone k s c a given t files-there known
      (stage-within (IsSo (Unit {0}) k t.options s) t.traced t.stage w.stage)
      (aside-within (IsSo (Unit {0}) k t.options s) t.traced t.aside w.beside) told has next q here

  -- ---- a call that copies or replaces the memory

  module _ (cs : CopiesSo t s.system) (place : ℕ) (within : place < length t.traced) (id : ℕ) (turn : LwpTurn)
      (is : turn_of s.system (traced_at t place).pid id ≡ Some turn) (makes : makes_copy turn.turned.did ≡ true) where
    abbrev pid : ℕ
    pid = (traced_at t place).pid

    abbrev Lifted : Type 0
    Lifted = IsLifted (marks_at t place)

    bare-lifted : (m : Marks) → IsBareMarks m → IsLifted m
    bare-lifted m b = b.lifted

    pub still-none : {A : Type 0} (p : TracedProcess) → live_process s.system pid ≡ Some p → IsFrozen p → A
    still-none p live frozen =
        absurd (none-some turn (sym (frozen-turns s.system pid p live frozen id) ∙ is))

    pub halted-none : {A : Type 0} (p : TracedProcess) → live_process s.system pid ≡ Some p → IsHalting p → A
    halted-none p live halting =
        absurd (false≢true
        (sym (halting-makes-none s.system pid p (let l = g.lawful in l.system) live halting id turn is) ∙ makes))

    stands-lifted : (p : TracedProcess) → live_process s.system pid ≡ Some p → CopiesStand (marks_at t place) p → Lifted
    stands-lifted p live (none_goes all) =
        absurd (false≢true
        (sym (turn-makes-none s.system pid p id turn (let l = g.lawful in l.system) live is None all tt) ∙ makes))
    stands-lifted p live (one_goes i lifted all) = lifted
    stands-lifted p live (bare lifted none) = lifted

    rests-lifted : (p : TracedProcess) → live_process s.system pid ≡ Some p → RestsSo (traced_at t place) p → Lifted
    rests-lifted p live (rests_new none stands) = stands-lifted p live stands
    rests-lifted p live (rests_old flags some w) = still-none p live w.frozen

    opens-lifted : (p : TracedProcess) → live_process s.system pid ≡ Some p → (step : _)
        → t.stage ≡ Opening place step → OpensSo step (traced_at t place) p → Lifted
    opens-lifted p live step at (early first m) = bare-lifted (marks_at t place) m
    opens-lifted p live step at (stopped reads out) =
        halted-none p live (opening-halts n k o t s g place step at p live (ap is_early reads))
    opens-lifted p live step at (counted late other c) =
        halted-none p live (opening-halts n k o t s g place step at p live late)

    closes-lifted : (p : TracedProcess) → live_process s.system pid ≡ Some p → ClosesSo t.aside (traced_at t place) p
        → Lifted
    closes-lifted p live (unplanted idle m) = bare-lifted (marks_at t place) m
    closes-lifted p live (halted out halting) = halted-none p live halting

    by-standing : (p : TracedProcess) → live_process s.system pid ≡ Some p → StandingSo t place p → Lifted
    by-standing p live (rests_so other w) = rests-lifted p live w
    by-standing p live (opens_so step at w) = opens-lifted p live step at w
    by-standing p live (closes_so next at w) = closes-lifted p live w
    by-standing p live (runs_so soon w) = still-none p live (soon-still n k o t s g place soon p live)

    pub copy-finds-lifted : Lifted
    unfolding turn_of
    copy-finds-lifted = by (live_process s.system pid) refl
      where
        by : (x : Option TracedProcess) → live_process s.system pid ≡ x → Lifted
        by None none = absurd (none-some turn (sym (no-turn none) ∙ is))
          where
            no-turn : live_process s.system pid ≡ None → turn_of s.system pid id ≡ None
            no-turn none = rw none refl
        by (Some p) live = by-standing p live (cs.each place within p live)
