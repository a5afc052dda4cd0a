use Rattle.std.proofs.Common.{◌≡◌, ℕ, IsTrue, Bool, true, false, cond, List, refl, ap, ◌∙◌}
use Rattle.pr_num.specs.Faults.{fault_signal}
use Rattle.pr_num.specs.Signals.{signal_number}
use Rattle.pr_num.specs.declared.faults.Flt.{Flt}
use Rattle.pr_num.specs.declared.faults.Flt.TheVariants as flt
use Rattle.pr_num.specs.declared.faults.Flt.TheVariants.{Trace}
use Rattle.pr_num.specs.declared.errnos.Errno.{Errno}
use Rattle.pr_num.specs.declared.syscalls.Sysno.{Sysno}
use Rattle.pr_num.specs.declared.syscalls.Sysno.TheVariants.{Sigreturn, Exec}
use Rattle.pr_parts.specs.PendingSignals.{Pending, has_room}
use Rattle.pr_model.specs.InstructionEffects.{InstructionEffect, runs, calls, faults, runs_into_watch}
use Rattle.pr_model.specs.Machines.{traced, fault_incurred, step_taken}
use Rattle.pr_model.specs.Moves.{moved, traps}
use Rattle.pr_model.specs.Moves as move
use Rattle.pr_model.specs.Registers.{pc_of, stored, with_result}
use Rattle.pr_model.specs.State.{TracedLwp}
use Rattle.pr_model.specs.declared.events.Res.{Res}
use Rattle.pr_model.specs.declared.events.Res.TheVariants.{Value, Error, Ended}
use Rattle.pr_lwp.specs.Plain.{outcome_of}
use Rattle.pr_lwp.specs.Steps.{Stepped, stepped, ran, with_regs, with_step_taken}
use Rattle.pr_lwp.specs.declared.steps.Effect.{Effect}
use Rattle.pr_lwp.specs.declared.steps.Effect.TheVariants.{Ran, Fault}
use Rattle.pr_turn.specs.Making.{effect_of, executed_by, finished, keeps_registers}
use Rattle.pr_turn.specs.NextRows.{executed_move}

-- What rows make of an lwp.

-- the signal of a fault does not queue: there is always room
pub fault_signal-room : (f : Flt) (p : Pending) → IsTrue (has_room (fault_signal f) p)
unfolding has_room fault_signal signal_number
fault_signal-room flt.Ill p = refl
fault_signal-room flt.Bpt p = refl
fault_signal-room flt.Trace p = refl
fault_signal-room flt.Watch p = refl
fault_signal-room flt.Access p = refl
fault_signal-room flt.Bounds p = refl
fault_signal-room flt.Stack p = refl
fault_signal-room flt.Izdiv p = refl

pub ruleset room_laws = (fault_signal-room)

-- ---- results

pub stored-kept : (call : Sysno) (v : ℕ) (regs : List ℕ) → keeps_registers call ≡ true
    → stored call (Value v) regs ≡ regs
unfolding stored
stored-kept Sigreturn v regs e = refl
stored-kept Exec v regs e = refl
stored-kept _ v regs e = absurd (cc)

pub stored-other : (call : Sysno) (r : Res) (regs : List ℕ) → keeps_registers call ≡ false
    → stored call r regs ≡ with_result r regs
unfolding stored
stored-other Sigreturn r regs e = absurd (cc)
stored-other Exec r regs e = absurd (cc)
stored-other _ r regs e = refl

pub stored-error : (call : Sysno) (e : Errno) (regs : List ℕ) → stored call (Error e) regs ≡ with_result (Error e) regs
unfolding stored
stored-error Sigreturn e regs = refl
stored-error Exec e regs = refl
stored-error _ e regs = refl

pub stored-ended : (call : Sysno) (regs : List ℕ) → stored call Ended regs ≡ with_result Ended regs
unfolding stored
stored-ended Sigreturn regs = refl
stored-ended Exec regs = refl
stored-ended _ regs = refl

pub ruleset stored_laws = (stored-kept, stored-other, stored-error, stored-ended)

-- ---- instructions

finished-moved : (e : InstructionEffect) (l : TracedLwp)
    → finished (stepped (outcome_of e) l).effect (stepped (outcome_of e) l).lwp ≡ executed_by e l
unfolding finished stepped ran executed_by executed_move moved traced fault_incurred step_taken
finished-moved (runs regs store) l = by l.control.step
  where
    marked : List ℕ → TracedLwp → Stepped Pending
    marked regs l = record { lwp = with_step_taken (with_regs regs l); effect = Fault Trace (pc_of regs) }

    unmarked : List ℕ → TracedLwp → Stepped Pending
    unmarked regs l = record { lwp = with_regs regs l; effect = Ran }

    by : (b : Bool)
        → finished (cond b (marked regs l) (unmarked regs l)).effect (cond b (marked regs l) (unmarked regs l)).lwp
        ≡ moved traced (cond b (traps Trace (pc_of regs) regs) (move.runs regs)) l
    by true = refl
    by false = refl
finished-moved (calls call regs) l = refl
finished-moved (faults f address) l = refl
finished-moved (runs_into_watch address regs store) l = refl

pub executed-lwp : (e : InstructionEffect) (l l1 : TracedLwp) (x : Effect)
    → (let r : Stepped Pending = record { lwp = l1; effect = x } in r) ≡ stepped (outcome_of e) l
    → finished x l1 ≡ executed_by e l
executed-lwp e l l1 x s = ap (λ (r : Stepped Pending). finished r.effect r.lwp) s ∙ finished-moved e l

pub executed-effect : (e : InstructionEffect) (l l1 : TracedLwp) (x : Effect)
    → (let r : Stepped Pending = record { lwp = l1; effect = x } in r) ≡ stepped (outcome_of e) l → x ≡ effect_of l e
unfolding effect_of
executed-effect e l l1 x s = ap (λ (r : Stepped Pending). r.effect) s

pub ruleset executed_laws = (executed-lwp, executed-effect)
