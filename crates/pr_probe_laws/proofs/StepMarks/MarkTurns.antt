use Rattle.std.proofs.Common.{◌≡◌, ℕ, false, Option, Some, refl, ap}
use Rattle.std.proofs.lemmas.List.Elements.{All-weaker}
use Rattle.std.specs.List.{All}
use Rattle.pr_erasure.proofs.SeenTurns.KeptSettings as kept
use Rattle.pr_erasure.proofs.SeenTurns.KeptSettings.{KeepsSettings, MarksEdit, steps}
use Rattle.pr_model.specs.Lives.{with_made, with_this_ended}
use Rattle.pr_model.specs.LwpTurns.{LwpTurn, turn_of}
use Rattle.pr_model.specs.Machines.{call_over, no_marks, step_taken, stopped_as_directed, traced}
use Rattle.pr_model.specs.Signals.{generated}
use Rattle.pr_model.specs.State.{TracedControl, TracedLwp, TracedProcess, TracedSystem, live_process, lwp_of, with_process}
use Rattle.pr_model.specs.declared.lwps.LwpControl.{LwpControl}
use Rattle.pr_num.specs.declared.infos.Info.{Info}
use Rattle.pr_num.specs.declared.signals.Sig.{Sig}
use Rattle.pr_probe_laws.specs.StepMarks.{AreUnmarked, IsUnmarkedAt, IsUnstepped, IsUnsteppedLwp, IsUnsteppedProcess}

-- No turn makes a step mark in the processes of certain ids, which may be all: of those of their lwps each stays as it
-- is, or is used up. Other processes may have some.

abbrev AnySettings : TracedControl → Type 0
AnySettings c = Unit {0}

edited-unmarked : (c d : LwpControl) → MarksEdit c d → c.step ≡ false → d.step ≡ false
unfolding step_taken call_over stopped_as_directed
edited-unmarked c d steps none = refl
edited-unmarked c d _ none = none

-- ---- the processes of these ids

module _ (Which : ℕ → Type 0) where
  marks-keep : KeepsSettings Which AnySettings IsUnsteppedLwp (IsUnmarkedAt Which)
  unfolding no_marks
  marks-keep = record {
    sets = λ c d edit any. tt;
    child = λ c. tt;
    marks = λ id l k edit u. record { no_step = edited-unmarked l.control k.control edit u.no_step };
    new = λ id l event plain is. record { no_step = ap (λ (c : LwpControl). c.step) is };
    parts = λ pid x u which. (tt, u.lwps which);
    whole = λ pid x so. record { lwps = λ which. (so which).1 };
  }

  -- a process is changed: another one, or so that it stays unmarked; one ends; one is sent a signal; one is made
  pub process-keeps : (pid : ℕ) (f : TracedProcess → TracedProcess)
      → (Which pid → (x : TracedProcess) → All IsUnsteppedLwp x.lwps → All IsUnsteppedLwp (f x).lwps)
      → (s : TracedSystem) → AreUnmarked Which s → AreUnmarked Which (with_process pid f s)
  process-keeps pid f keeps s u = record {
    processes =
        kept.process-keeps Which AnySettings IsUnsteppedLwp (IsUnmarkedAt Which) marks-keep pid f
        (λ which x it. (tt, keeps which x it.1)) s u.processes;
  }

  pub with_this_ended-keeps : (pid : ℕ) (p : TracedProcess) (status : ℕ) (s : TracedSystem) → AreUnmarked Which s
      → AreUnmarked Which (with_this_ended traced pid p status s)
  with_this_ended-keeps pid p status s u = record {
    processes =
        kept.this_ended-keeps Which AnySettings IsUnsteppedLwp (IsUnmarkedAt Which) marks-keep pid p status s
        u.processes;
  }

  pub generated-keeps : (pid : ℕ) (target : Option ℕ) (g : Sig) (info : Info) (s : TracedSystem)
      → AreUnmarked Which s → AreUnmarked Which (generated traced pid target g info s)
  generated-keeps pid target g info s u = record {
    processes =
        kept.generated-keeps Which AnySettings IsUnsteppedLwp (IsUnmarkedAt Which) marks-keep pid target g info s
        u.processes;
  }

  pub made-keeps : (p : TracedProcess) (s : TracedSystem) → All IsUnsteppedLwp p.lwps → AreUnmarked Which s
      → AreUnmarked Which (with_made p s)
  made-keeps p s new u = record {
    processes =
        kept.made-keeps Which AnySettings IsUnsteppedLwp (IsUnmarkedAt Which) marks-keep p s (tt, new) u.processes;
  }

  -- the lwps of one of them have no mark
  pub unmarked-lwp : (s : TracedSystem) (pid : ℕ) (p : TracedProcess) (id : ℕ) (l : TracedLwp) → Which pid
      → AreUnmarked Which s → live_process s pid ≡ Some p → lwp_of p id ≡ Some l → l.control.step ≡ false
  unmarked-lwp s pid p id l one u live there =
      let it =
      kept.found-so Which AnySettings IsUnsteppedLwp (IsUnmarkedAt Which) marks-keep s pid p id l u.processes live there
      one in
      it.no_step

  pub turn-unmarked : (s : TracedSystem) (acting id : ℕ) (t : LwpTurn) → turn_of s acting id ≡ Some t
      → AreUnmarked Which s → AreUnmarked Which t.system
  turn-unmarked s acting id t turn u = record {
    processes =
        kept.turn-keeps Which AnySettings IsUnsteppedLwp (IsUnmarkedAt Which) marks-keep s acting id t turn
        u.processes;
  }

-- ---- all processes

abbrev pub IsAny : ℕ → Type 0
IsAny pid = Unit {0}

pub all-unmarked : (s : TracedSystem) → IsUnstepped s → AreUnmarked IsAny s
all-unmarked s u = record {
  processes =
      All-weaker IsUnsteppedProcess (IsUnmarkedAt IsAny) (λ e it. record { lwps = λ any. it.lwps }) s.processes
      u.processes;
}

pub unmarked-all : (s : TracedSystem) → AreUnmarked IsAny s → IsUnstepped s
unmarked-all s u = record {
  processes =
      All-weaker (IsUnmarkedAt IsAny) IsUnsteppedProcess (λ e it. record { lwps = it.lwps tt }) s.processes u.processes;
}

-- ---- one process

abbrev pub IsOne : ℕ → ℕ → Type 0
IsOne pid other = other ≡ pid

-- no lwp of the process of an id has a step mark
abbrev pub IsUnmarked : ℕ → TracedSystem → Type 0
IsUnmarked pid s = AreUnmarked (IsOne pid) s
