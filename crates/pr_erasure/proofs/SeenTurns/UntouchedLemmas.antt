use Rattle.std.proofs.Common.{[], ◌≡◌, ℕ, false, eqb, bit_and, Option, refl, ap}
use Rattle.std.specs.List.{All}
use Rattle.pr_erasure.proofs.SeenTurns.KeptSettings as kept
use Rattle.pr_erasure.proofs.SeenTurns.KeptSettings.{KeepsLwp, KeepsSettings, MarksEdit, SettingsEdit, dies, each-lwp, ends_call, one-lwp, runs_program, steps}
use Rattle.pr_erasure.specs.Suiting.{AreProper}
use Rattle.pr_erasure.specs.Untouched.{IsUntouched, IsUntouchedLwp, IsUntouchedProcess}
use Rattle.pr_model.specs.LwpTurns.{settled}
use Rattle.pr_model.specs.Lives.{with_made}
use Rattle.pr_model.specs.Machines.{call_over, child_control, exec_control, no_marks, nothing_set, nothing_used, step_taken, stopped_as_directed, traced, zombie_control}
use Rattle.pr_model.specs.Rows.{Row}
use Rattle.pr_model.specs.Signals.{generated}
use Rattle.pr_model.specs.State.{TracedControl, TracedLwp, TracedProcess, TracedSystem, with_lwp, with_process}
use Rattle.pr_model.specs.declared.lwps.LwpControl.{LwpControl}
use Rattle.pr_num.proofs.BoolLemmas.{either}
use Rattle.pr_num.proofs.ByIdLaws.{All-change_under, All-inserted}
use Rattle.pr_num.specs.ById.{map_each}
use Rattle.pr_num.specs.Control.{fork_mode, has_flags, klc_mode}
use Rattle.pr_num.specs.Sets.{common_word}
use Rattle.pr_num.specs.declared.infos.Info.{Info}
use Rattle.pr_num.specs.declared.signals.Sig.{Sig}

-- What a turn leaves untouched.

-- ---- changes that leave it so

-- a change of an lwp, and one of a process
abbrev pub KeepsLwps : (TracedLwp → TracedLwp) → Type 0
KeepsLwps f = KeepsLwp IsUntouchedLwp f

abbrev pub KeepsProcesses : (TracedProcess → TracedProcess) → Type 0
KeepsProcesses f = (pid : ℕ) (x : TracedProcess) → IsUntouchedProcess (pid, x) → IsUntouchedProcess (pid, f x)

-- one lwp of a process is changed; every lwp is; a process is
pub lwp-keeps : (id : ℕ) (f : TracedLwp → TracedLwp) → KeepsLwps f → KeepsProcesses (with_lwp id f)
unfolding with_lwp
lwp-keeps id f keeps pid x u = record {
  no_kill = u.no_kill;
  unwatched = u.unwatched;
  lwps = one-lwp IsUntouchedLwp id f keeps x.lwps u.lwps;
}

pub lwps-keep : (f : TracedLwp → TracedLwp) → KeepsLwps f → (x : TracedProcess) → All IsUntouchedLwp x.lwps
    → All IsUntouchedLwp (map_each f x.lwps)
lwps-keep f keeps x u = each-lwp IsUntouchedLwp f keeps x.lwps u

pub process-keeps : (pid : ℕ) (f : TracedProcess → TracedProcess) → KeepsProcesses f → (s : TracedSystem)
    → IsUntouched s → IsUntouched (with_process pid f s)
unfolding with_process
process-keeps pid f keeps s u = record {
  processes = All-change_under IsUntouchedProcess pid f s.processes (λ x found un. keeps pid x un) u.processes;
}

pub made-keeps : (p : TracedProcess) (s : TracedSystem) → ((pid : ℕ) → IsUntouchedProcess (pid, p)) → IsUntouched s
    → IsUntouched (with_made p s)
unfolding with_made
made-keeps p s new u =
    record { processes = All-inserted IsUntouchedProcess s.made p s.processes (new s.made) u.processes }

-- ---- what turns edit

abbrev AnyProcess : ℕ → Type 0
AnyProcess pid = Unit {0}

-- what is set on a process does not kill it, and watches nothing
abbrev IsMild : TracedControl → Type 0
IsMild c = (has_flags c.modes klc_mode ≡ false) × (c.areas ≡ [])

edited-mild : (c d : TracedControl) → SettingsEdit c d → IsMild c → IsMild d
unfolding exec_control zombie_control nothing_set has_flags common_word
edited-mild c d runs_program mild = (mild.0, refl)
edited-mild c d dies mild = (refl, refl)
edited-mild c d (kept.counts usage) mild = mild

child-mild : (c : TracedControl) → IsMild (child_control c)
unfolding child_control nothing_set has_flags common_word
child-mild c =
    either IsMild (eqb (bit_and c.modes fork_mode) fork_mode)
    (record c { modes = fork_mode; areas = []; usage = nothing_used }) nothing_set (refl, refl) (refl, refl)

-- an lwp has neither mark
abbrev IsUnmarked : LwpControl → Type 0
IsUnmarked c = (c.step ≡ false) × (c.abort ≡ false)

edited-unmarked : (c d : LwpControl) → MarksEdit c d → IsUnmarked c → IsUnmarked d
unfolding step_taken call_over stopped_as_directed
edited-unmarked c d steps none = (refl, none.1)
edited-unmarked c d ends_call none = (none.0, refl)
edited-unmarked c d _ none = none

untouched-keep : KeepsSettings AnyProcess IsMild IsUntouchedLwp IsUntouchedProcess
unfolding no_marks
untouched-keep = record {
  sets = edited-mild;
  child = child-mild;
  marks = λ id l k edit u.
      let none = edited-unmarked l.control k.control edit (u.no_step, u.no_abort) in
      record { no_step = none.0; no_abort = none.1; no_agent = u.no_agent };
  new = λ id l event plain is. record {
    no_step = ap (λ (c : LwpControl). c.step) is;
    no_abort = ap (λ (c : LwpControl). c.abort) is;
    no_agent = plain;
  };
  parts = λ pid x u any. ((u.no_kill, u.unwatched), u.lwps);
  whole = λ pid x so. let it = so tt in record { no_kill = it.0.0; unwatched = it.0.1; lwps = it.1 };
}

-- ---- systems

pub generated-keeps : (pid : ℕ) (target : Option ℕ) (g : Sig) (info : Info) (s : TracedSystem) → IsUntouched s
    → IsUntouched (generated traced pid target g info s)
generated-keeps pid target g info s u = record {
  processes =
      kept.generated-keeps AnyProcess IsMild IsUntouchedLwp IsUntouchedProcess untouched-keep pid target g info s
      u.processes;
}

pub settled-keeps : (pid : ℕ) (p : TracedProcess) (id : ℕ) (l : TracedLwp) → IsUntouchedLwp (id, l)
    → (s : TracedSystem) → IsUntouched s → (row : Row) → AreProper row.transition.changes
    → IsUntouched (settled s pid p id l row).system
settled-keeps pid p id l lu s u row proper = record {
  processes =
      kept.settled-keeps AnyProcess IsMild IsUntouchedLwp IsUntouchedProcess untouched-keep pid p id l (λ any. lu) row
      proper s u.processes;
}
