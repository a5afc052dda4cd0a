use Rattle.std.proofs.Common.{◌≡◌, ℕ, Bool, true, false, List, Some, None, refl, sym, ap, ◌∙◌, inl, inr}
use Rattle.std.proofs.lemmas.Bool.{cases_Bool}
use Rattle.std.proofs.lemmas.Option.{same_Some}
use Rattle.pr_num.specs.ById.{under}
use Rattle.pr_num.specs.declared.syscalls.Sysno.{Sysno}
use Rattle.pr_num.specs.declared.syscalls.Sysno.TheVariants.{Fork}
use Rattle.pr_model.specs.Changes.{Effect, Ending, does, sleeps, ends}
use Rattle.pr_model.specs.InstructionEffects.{InstructionEffect, instruction_effect, runs, calls, faults, runs_into_watch}
use Rattle.pr_model.specs.Rows.{executed_row, performed_row, ran_row, watched_row}
use Rattle.pr_model.specs.State.{TracedLwp, TracedProcess, TracedSystem, live_process, lwp_of}
use Rattle.pr_model.specs.Transitions.{performed, ran, stored_in, trapped}
use Rattle.pr_model.proofs.StateLemmas.{live_process-found}
use Rattle.pr_lwp.specs.Plain.{stores_bytes}
use Rattle.pr_call.specs.Effects.{effect_of, takes_memory}
use Rattle.pr_call.specs.declared.requests.Request.{Request}
use Rattle.pr_turn.specs.CallTurns.{may_take_memory, row_takes}
use Rattle.pr_turn.specs.NextRows.{row_of, row_of_turn}
use Rattle.pr_turn.specs.Turns.{IsNext}
use Rattle.pr_turn.specs.declared.next.Next.{Next}
use Rattle.pr_turn.specs.declared.next.Next.TheVariants.{Executed}
use Rattle.pr_turn.specs.declared.next.NextTurn.{NextTurn}
use Rattle.pr_turn.specs.declared.next.NextTurn.TheVariants.{Row as ThisRow, Performs}

-- Which turns take memory.

-- ---- an instruction that stores bytes

executed-takes : (p : TracedProcess) (l : TracedLwp) (e : InstructionEffect) → stores_bytes e ≡ true
    → row_takes (executed_row p l e) ≡ true
unfolding row_takes executed_row ran_row watched_row ran trapped stored_in
executed-takes p l (runs regs None) stores = absurd (cc)
executed-takes p l (runs regs (Some store)) stores =
    elim (cases_Bool l.control.step) [ inl marked ↦ rw marked refl | inr unmarked ↦ rw unmarked refl ]
executed-takes p l (calls call regs) stores = absurd (cc)
executed-takes p l (faults f address) stores = absurd (cc)
executed-takes p l (runs_into_watch address regs None) stores = absurd (cc)
executed-takes p l (runs_into_watch address regs (Some store)) stores = refl

pub instruction-takes : (p : TracedProcess) (l : TracedLwp)
    → stores_bytes (instruction_effect p.space p.control.areas l.regs) ≡ true → row_takes (row_of p l Executed) ≡ true
unfolding row_of
instruction-takes p l stores = executed-takes p l (instruction_effect p.space p.control.areas l.regs) stores

pub ruleset taking = (instruction-takes)

-- ---- a call

-- one that sleeps, or ends its lwp or its process, takes none
sleeping-takes : (sysno : Sysno) → takes_memory sysno sleeps ≡ true → ⊥
sleeping-takes Fork takes = absurd (cc)
sleeping-takes _ takes = absurd (cc)

ending-takes : (sysno : Sysno) (how : Ending) → takes_memory sysno (ends how) ≡ true → ⊥
ending-takes Fork how takes = absurd (cc)
ending-takes _ how takes = absurd (cc)

performed-takes : (woken : Bool) (sysno : Sysno) (args : List ℕ) (since : ℕ) (e : Effect) → takes_memory sysno e ≡ true
    → row_takes (performed_row woken sysno args since e) ≡ true
unfolding row_takes performed_row performed
performed-takes true sysno args since (does result changes) takes = takes
performed-takes false sysno args since (does result changes) takes = takes
performed-takes woken sysno args since sleeps takes = absurd (sleeping-takes sysno takes)
performed-takes woken sysno args since (ends how) takes = absurd (ending-takes sysno how takes)

-- ---- the turn

next-takes : (s : TracedSystem) (pid id : ℕ) (next : NextTurn) (is : IsNext s pid id next)
    → row_takes (row_of_turn s pid is.process id is.lwp next) ≡ true → may_take_memory s pid id ≡ true
unfolding may_take_memory
next-takes s pid id next is takes = rw (is.found, is.stands) (ap row_takes (sym is.row) ∙ takes)

pub row-takes : (s : TracedSystem) (pid id : ℕ) (next : Next) (p : TracedProcess) → IsNext s pid id (ThisRow next)
    → under pid s.processes ≡ Some p → ((l : TracedLwp) → lwp_of p id ≡ Some l → row_takes (row_of p l next) ≡ true)
    → may_take_memory s pid id ≡ true
row-takes s pid id next p is there takes =
    let same : p ≡ is.process = same_Some p is.process (sym there ∙ live_process-found s pid is.process is.found) in
    let stands : lwp_of p id ≡ Some is.lwp = ap (λ q. lwp_of q id) same ∙ is.stands in
    next-takes s pid id (ThisRow next) is (ap (λ q. row_takes (row_of q is.lwp next)) (sym same) ∙ takes is.lwp stands)

-- a call in which memory ran out
pub call-takes : (s : TracedSystem) (woken : Bool) (r : Request)
    → IsNext s r.pid r.lwp (Performs woken r.call r.args r.since)
    → ((p : TracedProcess) → live_process s r.pid ≡ Some p → (l : TracedLwp) → lwp_of p r.lwp ≡ Some l
    → takes_memory r.call (effect_of s p l r) ≡ true) → may_take_memory s r.pid r.lwp ≡ true
call-takes s woken r is takes =
    next-takes s r.pid r.lwp (Performs woken r.call r.args r.since) is
    (performed-takes woken r.call r.args r.since (effect_of s is.process is.lwp r)
    (takes is.process is.found is.lwp is.stands))
