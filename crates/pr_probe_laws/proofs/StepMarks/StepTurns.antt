use Rattle.std.proofs.Common.{◌≡◌, ◌≢◌, ℕ, Bool, true, false, eqb, Option, Some, None, Result, Ok, Err, List, length, cond, refl, sym, ap, ◌∙◌}
use Rattle.pr_keeps.proofs.RowLemmas.{row-kind}
use Rattle.pr_keeps.specs.RowKinds as kind
use Rattle.pr_keeps.specs.RowKinds.{RowKind}
use Rattle.pr_model.proofs.StateLemmas.{live_process-found}
use Rattle.pr_model.proofs.TurnLemmas.{TakesTurn, turn-taken}
use Rattle.pr_model.specs.CallEffects.{call_effect}
use Rattle.pr_model.specs.Changes.{Effect, does, sleeps, ends}
use Rattle.pr_model.specs.InstructionEffects.{InstructionEffect, runs, calls, faults, runs_into_watch, Load, Store, Decoded, faults_itself, enters_call, leaves, loads, stores, decoded, access_fault, hit_before, hit_after, trapped_after, unless_watched, unless_exec_watched, load_effect, store_effect, executed, of_instruction, instruction_effect, in_register, is_stack_load}
use Rattle.pr_model.specs.LwpTurns.{LwpTurn, settled, turn_of}
use Rattle.pr_model.specs.Registers.{pc_of}
use Rattle.pr_model.specs.Rows.{Row, executed_row, entered_row, finished, handler_row, incurred_row, interrupted_row, own_taken_row, performed_row, posted_row, ran_row, requested_row, returned_row, row_for, shared_taken_row, watched_row}
use Rattle.pr_model.specs.State.{TracedLwp, TracedProcess, TracedSystem}
use Rattle.pr_model.specs.declared.events.Did.TheVariants.{Faulted}
use Rattle.pr_model.specs.declared.events.Res.{Res}
use Rattle.pr_model.specs.declared.events.Res.TheVariants.{Ended, Error}
use Rattle.pr_num.proofs.ByIdLaws.{All-under}
use Rattle.pr_num.specs.Control.{prot_read, prot_write, prot_exec, watch_read, watch_write, watch_exec}
use Rattle.pr_num.specs.Instructions.{instruction_in}
use Rattle.pr_num.specs.Spaces.{Space, bytes_for}
use Rattle.pr_num.specs.declared.mappings.Area.{Area}
use Rattle.pr_num.specs.declared.errnos.Errno.TheVariants.{Intr}
use Rattle.pr_num.specs.declared.faults.Flt.TheVariants.{Trace, Izdiv}
use Rattle.pr_num.specs.declared.instructions.Instruction.{Instruction}
use Rattle.pr_num.specs.declared.instructions.Instruction.TheVariants as op
use Rattle.pr_num.specs.declared.mappings.BadByte.{BadByte}
use Rattle.pr_num.specs.declared.mappings.BadByte.TheVariants.{Hole, NotAllowed}
use Rattle.pr_num.specs.declared.syscalls.Sysno.{Sysno}
use Rattle.pr_parts.specs.WatchedAreas.{hit_in}
use Rattle.pr_probe_laws.proofs.StepMarks.MarkTurns.{IsAny, all-unmarked, turn-unmarked, unmarked-all}
use Rattle.pr_probe_laws.specs.StepMarks.{IsUnstepped, IsUnsteppedLwp, IsUnsteppedProcess}

-- FLTTRACE comes of a step mark alone, and no turn makes one.

-- what an instruction does by itself, without a step mark
abbrev IsStepless : InstructionEffect → Type 0
IsStepless (faults f address) = f ≢ Trace
IsStepless _ = Unit {0}

stepless-access : (stack : Bool) (bad : BadByte) → IsStepless (access_fault stack bad)
stepless-access true (Hole address) = λ e. cc
stepless-access true (NotAllowed address) = λ e. cc
stepless-access false (Hole address) = λ e. cc
stepless-access false (NotAllowed address) = λ e. cc

stepless-trapped : (exec late : Option ℕ) (regs : List ℕ) (store : Option Store)
    → IsStepless (trapped_after exec late regs store)
stepless-trapped (Some address) late regs store = tt
stepless-trapped None (Some address) regs store = tt
stepless-trapped None None regs store = tt

stepless-unless : (exec : Option ℕ) (hit : Option (ℕ × Bool)) (regs : List ℕ) (store : Option Store)
    → IsStepless (unless_watched exec hit regs store)
stepless-unless exec hit regs store = by (hit_before hit) refl
  where
    by : (o : Option ℕ) → hit_before hit ≡ o → IsStepless (unless_watched exec hit regs store)
    by (Some address) is = rw is (λ e. cc)
    by None is = rw is (stepless-trapped exec (hit_after hit) regs store)

stepless-load : (space : Space) (areas : List Area) (exec : Option ℕ) (regs : List ℕ) (load : Load) (at size : ℕ)
    → IsStepless (load_effect space areas exec regs load at size)
unfolding load_effect
stepless-load space areas exec regs load at size = by (bytes_for prot_read space at size) refl
  where
    by : (r : Result (List ℕ) BadByte) → bytes_for prot_read space at size ≡ r
        → IsStepless (load_effect space areas exec regs load at size)
    by (Err bad) is = rw is (stepless-access (is_stack_load load) bad)
    by (Ok bytes) is = rw is (stepless-unless exec (hit_in watch_read areas at size) _ _)

stepless-store : (space : Space) (areas : List Area) (exec : Option ℕ) (stack : Bool) (regs : List ℕ) (store : Store)
    → IsStepless (store_effect space areas exec stack regs store)
unfolding store_effect
stepless-store space areas exec stack regs store = by (bytes_for prot_write space store.at (length store.bytes)) refl
  where
    by : (r : Result (List ℕ) BadByte) → bytes_for prot_write space store.at (length store.bytes) ≡ r
        → IsStepless (store_effect space areas exec stack regs store)
    by (Err bad) is = rw is (stepless-access stack bad)
    by (Ok bytes) is = rw is (stepless-unless exec (hit_in watch_write areas store.at (length store.bytes)) _ _)

-- what an instruction faults by itself
abbrev FaultsPlainly : Decoded → Type 0
FaultsPlainly (faults_itself f) = f ≢ Trace
FaultsPlainly _ = Unit {0}

either : (b : Bool) (x y : Decoded) → FaultsPlainly x → FaultsPlainly y → FaultsPlainly (cond b x y)
either true x y one other = one
either false x y one other = other

no_divisor : Izdiv ≢ Trace
no_divisor e = cc

stepless-decoded : (i : Instruction) (regs : List ℕ) → FaultsPlainly (decoded i regs)
unfolding decoded
stepless-decoded op.Bpt regs = λ e. cc
stepless-decoded op.Nop regs = tt
stepless-decoded (op.Set to imm) regs = tt
stepless-decoded (op.Mov to from) regs = tt
stepless-decoded (op.Add to from) regs = tt
stepless-decoded (op.Sub to from) regs = tt
stepless-decoded (op.Mul to from) regs = tt
stepless-decoded (op.Div to from) regs = either (eqb (in_register from regs) 0) _ _ no_divisor tt
stepless-decoded (op.Ld to base offset) regs = tt
stepless-decoded (op.St from base offset) regs = tt
stepless-decoded (op.Ldb to base offset) regs = tt
stepless-decoded (op.Stb from base offset) regs = tt
stepless-decoded (op.Jmp target) regs = tt
stepless-decoded (op.Jz test target) regs = tt
stepless-decoded (op.Jnz test target) regs = tt
stepless-decoded (op.Jlt left right target) regs = tt
stepless-decoded (op.Call target) regs = tt
stepless-decoded op.Ret regs = tt
stepless-decoded (op.Sys call) regs = tt

stepless-executed : (space : Space) (areas : List Area) (exec : Option ℕ) (regs : List ℕ) (d : Decoded)
    → FaultsPlainly d → IsStepless (executed space areas exec regs d)
unfolding executed
stepless-executed space areas exec regs (faults_itself f) itself = itself
stepless-executed space areas None regs (enters_call call) itself = tt
stepless-executed space areas (Some at) regs (enters_call call) itself = tt
stepless-executed space areas None regs (leaves new) itself = tt
stepless-executed space areas (Some at) regs (leaves new) itself = tt
stepless-executed space areas exec regs (loads load at size) itself = stepless-load space areas exec regs load at size
stepless-executed space areas exec regs (stores stack new store) itself =
    stepless-store space areas exec stack new store

stepless-instruction : (space : Space) (areas : List Area) (exec : Option ℕ) (regs : List ℕ) (i : Option Instruction)
    → IsStepless (of_instruction space areas exec regs i)
stepless-instruction space areas exec regs None = λ e. cc
stepless-instruction space areas exec regs (Some i) =
    stepless-executed space areas exec regs (decoded i regs) (stepless-decoded i regs)

stepless-fetched : (space : Space) (areas : List Area) (hit : Option (ℕ × Bool)) (regs bytes : List ℕ)
    → IsStepless (unless_exec_watched space areas hit regs bytes)
stepless-fetched space areas hit regs bytes = by (hit_before hit) refl
  where
    by : (o : Option ℕ) → hit_before hit ≡ o → IsStepless (unless_exec_watched space areas hit regs bytes)
    by (Some address) is = rw is (λ e. cc)
    by None is = rw is (stepless-instruction space areas (hit_after hit) regs (instruction_in bytes))

-- no instruction incurs FLTTRACE by itself
pub stepless : (space : Space) (areas : List Area) (regs : List ℕ)
    → IsStepless (instruction_effect space areas regs)
unfolding instruction_effect
stepless space areas regs = by (bytes_for prot_exec space (pc_of regs) 16) refl
  where
    by : (r : Result (List ℕ) BadByte) → bytes_for prot_exec space (pc_of regs) 16 ≡ r
        → IsStepless (instruction_effect space areas regs)
    by (Err bad) is = rw is (stepless-access false bad)
    by (Ok bytes) is = rw is (stepless-fetched space areas (hit_in watch_exec areas (pc_of regs) 16) regs bytes)

-- ---- turns

module _ (s : TracedSystem) (pid : ℕ) (p : TracedProcess) (id : ℕ) (l : TracedLwp) (none : l.control.step ≡ false)
  where
    finished-so : (woken : Bool) (call : Sysno) (result : Res) → finished woken call result ≢ Faulted Trace
    finished-so false call result e = cc
    finished-so true call result e = cc

    performed-so : (woken : Bool) (call : Sysno) (args : List ℕ) (since : ℕ) (x : Effect)
        → (performed_row woken call args since x).did ≢ Faulted Trace
    unfolding performed_row
    performed-so woken call args since (does result changes) = finished-so woken call result
    performed-so woken call args since sleeps = λ e. cc
    performed-so woken call args since (ends how) = finished-so woken call Ended

    executed-so : (x : InstructionEffect) → IsStepless x → (executed_row p l x).did ≢ Faulted Trace
    unfolding executed_row ran_row entered_row incurred_row watched_row
    executed-so (runs regs store) plain = rw none (λ e. cc)
    executed-so (calls call regs) plain = λ e. cc
    executed-so (faults f address) plain = λ e. plain (let both : Faulted f ≡ Faulted Trace = e in cc)
    executed-so (runs_into_watch address regs store) plain = λ e. cc

    kind-so : (r : Row) → RowKind s pid p id l r → r.did ≢ Faulted Trace
    unfolding requested_row posted_row handler_row own_taken_row shared_taken_row interrupted_row returned_row
    kind-so r (kind.stops now) = λ e. cc
    kind-so r (kind.posts at) = λ e. cc
    kind-so r (kind.ignores now is) = λ e. cc
    kind-so r (kind.stops_job now is) = λ e. cc
    kind-so r (kind.dies now is) = λ e. cc
    kind-so r (kind.catches now is) = λ e. cc
    kind-so r (kind.takes_own now is) = λ e. cc
    kind-so r (kind.takes_shared now also is) = λ e. cc
    kind-so r (kind.interrupts {woken = woken} {call = call} it why) = finished-so woken call (Error Intr)
    kind-so r (kind.performs {woken = woken} {call = call} {args = args} {since = since} it goes now) =
        performed-so woken call args since (call_effect s pid p id l since call args)
    kind-so r (kind.returns at now) = rw none (λ e. cc)
    kind-so r (kind.executes at now) =
        executed-so (instruction_effect p.space p.control.areas l.regs) (stepless p.space p.control.areas l.regs)

-- an lwp without a step mark does not incur FLTTRACE, and no turn makes a step mark
module _ (s : TracedSystem) (pid id : ℕ) (t : LwpTurn) (turn : turn_of s pid id ≡ Some t) (u : IsUnstepped s) where
  abbrev it : TakesTurn s pid id t
  it = turn-taken s pid id t turn

  unmarked : IsUnsteppedLwp (id, it.lwp)
  unmarked =
      let own =
      All-under IsUnsteppedProcess pid it.process s.processes u.processes
      (live_process-found s pid it.process it.live) in
      All-under IsUnsteppedLwp id it.lwp it.process.lwps own.lwps it.there

  pub turn-plain : t.turned.did ≢ Faulted Trace
  unfolding settled
  turn-plain e =
      kind-so s pid it.process id it.lwp unmarked.no_step (row_for s pid it.process id it.lwp)
      (row-kind s pid it.process id it.lwp) (sym (ap (λ (x : LwpTurn). x.turned.did) it.is) ∙ e)

  pub turn-unstepped : IsUnstepped t.system
  turn-unstepped = unmarked-all t.system (turn-unmarked IsAny s pid id t turn (all-unmarked s u))
