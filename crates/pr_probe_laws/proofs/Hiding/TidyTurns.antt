use Rattle.std.proofs.Common.{◌≡◌, ◌+◌, ◌-◌, ◌*◌, ◌&&◌, ◌%◌, ◌^◌, ◌∷◌, ℕ, zero, suc, Bool, true, false, eqb, ltb, length, List, [], Option, Some, None, Result, Ok, Err, refl, ap, ◌∙◌}
use Rattle.pr_hidden.specs.Covers.{Covers}
use Rattle.pr_hidden.specs.Following.{IsReturnable, MayEnd, SparesPatches}
use Rattle.pr_hidden.specs.Sparing.{are_spared, spares_call, spares_data, spares_decoded, spares_fetched, spares_gap, spares_instruction}
use Rattle.pr_hidden.specs.Tidiness.{AreTidyChanges}
use Rattle.pr_keeps.proofs.RowLemmas.{row-kind}
use Rattle.pr_keeps.specs.RowKinds as kind
use Rattle.pr_keeps.specs.RowKinds.{RowKind}
use Rattle.pr_model.specs.CallEffects.{call_effect}
use Rattle.pr_model.specs.Changes as change
use Rattle.pr_model.specs.Changes.{Effect}
use Rattle.pr_model.specs.InstructionEffects as instruction
use Rattle.pr_model.specs.InstructionEffects.{Decoded, InstructionEffect, Store, decoded, enters_call, faults_itself, instruction_effect, leaves as leaves_call, loads, stores}
use Rattle.pr_model.specs.Rows.{Row, entered_row, executed_row, handler_row, incurred_row, interrupted_row, own_taken_row, performed_row, posted_row, ran_row, requested_row, returned_row, row_for, shared_taken_row, watched_row}
use Rattle.pr_model.specs.Signals.{is_kill}
use Rattle.pr_model.specs.State.{TracedLwp, TracedProcess, TracedSystem}
use Rattle.pr_model.specs.Transitions.{Transition, died, dropped, entered, handled, incurred, interrupted, job_stopped, own_taken, performed, posted, ran, requested, returned, shared_taken, stored_in, trapped}
use Rattle.pr_num.proofs.BoolLemmas.{either}
use Rattle.pr_num.specs.Instructions.{instruction_in}
use Rattle.pr_model.specs.FileCallRows.{word_size}
use Rattle.pr_num.specs.Layout.{heap_base}
use Rattle.pr_num.specs.Limits.{frame_limit, path_limit}
use Rattle.pr_num.specs.Programs.{rounded}
use Rattle.std.specs.Prelude.{slice_index}
use Rattle.pr_num.specs.Spaces.{Space, bytes_for}
use Rattle.pr_num.specs.Control.{prot_exec}
use Rattle.pr_model.specs.Registers.{arguments, pc_of}
use Rattle.pr_num.specs.declared.instructions.Instruction.{Instruction}
use Rattle.pr_num.specs.declared.infos.Info.{Info}
use Rattle.pr_num.specs.declared.mappings.BadByte.{BadByte}
use Rattle.pr_num.specs.declared.signals.Sig.{Sig}
use Rattle.pr_num.specs.declared.syscalls.Sysno.{Sysno}
use Rattle.pr_num.specs.declared.syscalls.Sysno.TheVariants as sys
use Rattle.pr_parts.specs.AddressSpaces.{gap_in}
use Rattle.pr_probe_laws.proofs.Agents.DeathLemmas.{Kills}
use Rattle.pr_probe_laws.proofs.Hiding.TidyEffects.{IsCopying, IsTidyEffect, call-tidy}

-- Turns are tidy where nothing is written over in a process whose memory is copied or replaced; and where nothing is
-- written over they spare that.

module _ (covers : Covers) (s : TracedSystem) (pid : ℕ) (p : TracedProcess) (id : ℕ) (l : TracedLwp)
    (back : IsReturnable covers pid p)
    (bare : (woken : Bool) (call : Sysno) (args : List ℕ) (since : ℕ) → IsCopying call
    → row_for s pid p id l ≡ performed_row woken call args since (call_effect s pid p id l since call args)
    → (covers pid).patches ≡ [])
    (kills : (target : ℕ) → Kills pid target (row_for s pid p id l) → MayEnd covers s target) where
  unfoldable pub IsTidyRow : Row → Type 0
  IsTidyRow row = AreTidyChanges covers pid p id l row.transition.changes s

  abbrev IsTidyStep : Transition → Type 0
  IsTidyStep t = AreTidyChanges covers pid p id l t.changes s

  stored-tidy : (store : Option Store) → AreTidyChanges covers pid p id l (stored_in p.space store) s
  unfolding stored_in
  stored-tidy None = tt
  stored-tidy (Some store) = (tt, tt)

  executed-tidy : (e : InstructionEffect) → IsTidyRow (executed_row p l e)
  unfolding IsTidyRow executed_row ran_row entered_row incurred_row watched_row ran entered incurred trapped
  executed-tidy (instruction.runs regs store) =
      either (λ (row : Row). IsTidyStep row.transition) l.control.step _ _ (stored-tidy store) (stored-tidy store)
  executed-tidy (instruction.calls call regs) = tt
  executed-tidy (instruction.faults f address) = tt
  executed-tidy (instruction.runs_into_watch address regs store) = stored-tidy store

  module _ (woken : Bool) (call : Sysno) (args : List ℕ) (since : ℕ) where
    -- the turn is that of a call that does this
    abbrev Does : Effect → Type 0
    Does effect = row_for s pid p id l ≡ performed_row woken call args since effect

    kills-by : (target : ℕ) (g : Sig) (info : Info) → is_kill g ≡ true → (is_kill g && eqb target pid) ≡ false
        → Does (change.gives 0 (change.signals target g info ∷ [])) → MayEnd covers s target
    unfolding performed_row performed
    kills-by target g info deadly other does =
        kills target (record {
          g = g;
          info = info;
          deadly = deadly;
          other = other;
          changes = ap (λ (row : Row). row.transition.changes) does;
          on = ap (λ (row : Row). row.transition.ending) does;
        })

    call-kept : Does (call_effect s pid p id l since call args)
        → IsTidyEffect covers s pid p id l back Does kills-by (call_effect s pid p id l since call args)
    call-kept does =
        call-tidy covers s pid p id l back Does kills-by since call args
        (λ copying. bare woken call args since copying does) does

  performed-tidy : (woken : Bool) (call : Sysno) (args : List ℕ) (since : ℕ) (effect : Effect)
      → IsTidyEffect covers s pid p id l back (Does woken call args since) (kills-by woken call args since) effect
      → IsTidyRow (performed_row woken call args since effect)
  unfolding IsTidyRow performed_row performed IsTidyEffect
  performed-tidy woken call args since (change.does result changes) tidy = tidy
  performed-tidy woken call args since change.sleeps tidy = tt
  performed-tidy woken call args since (change.ends how) tidy = tt

  kind-tidy : (row : Row) → RowKind s pid p id l row → row_for s pid p id l ≡ row → IsTidyRow row
  unfolding IsTidyRow requested_row requested posted_row posted dropped job_stopped died handler_row own_taken_row
      shared_taken_row own_taken shared_taken interrupted_row interrupted returned_row returned trapped stored_in
      handled
  kind-tidy row (kind.stops now) same = tt
  kind-tidy row (kind.posts at) same = tt
  kind-tidy row (kind.ignores now is) same = tt
  kind-tidy row (kind.stops_job now is) same = (tt, tt)
  kind-tidy row (kind.dies now is) same = tt
  kind-tidy row (kind.catches now is) same = either IsTidyStep (ltb (length l.frames) frame_limit) _ _ tt tt
  kind-tidy row (kind.takes_own none is) same = tt
  kind-tidy row (kind.takes_shared none own is) same = (tt, tt)
  kind-tidy row (kind.interrupts it why) same = tt
  kind-tidy row (kind.performs {woken = woken} {call = call} {args = args} {since = since} it goes none) same =
      performed-tidy woken call args since (call_effect s pid p id l since call args)
      (call-kept woken call args since same)
  kind-tidy row (kind.returns at none) same =
      either (λ (r : Row). IsTidyStep r.transition) l.control.step _ _ tt tt
  kind-tidy row (kind.executes at none) same = executed-tidy (instruction_effect p.space p.control.areas l.regs)

  pub row-tidy : AreTidyChanges covers pid p id l (row_for s pid p id l).transition.changes s
  unfolding IsTidyRow
  row-tidy = kind-tidy (row_for s pid p id l) (row-kind s pid p id l) refl

-- ---- nothing is written over

all-spared : (at n : ℕ) → are_spared [] at n ≡ true
all-spared at zero = refl
all-spared at (suc n) = all-spared ((at + 1) % 2 ^ 64) n

data-spared : (d : Decoded) → spares_data [] d ≡ true
data-spared (faults_itself f) = refl
data-spared (enters_call call) = refl
data-spared (leaves_call regs) = refl
data-spared (loads load at size) = all-spared at size
data-spared (stores stack regs store) = all-spared store.at (length store.bytes)

decoded-spared : (regs : List ℕ) (o : Option Instruction) → spares_decoded [] regs o ≡ true
decoded-spared regs None = refl
decoded-spared regs (Some i) = data-spared (decoded i regs)

fetched-spared : (regs : List ℕ) (r : Result (List ℕ) BadByte) → spares_fetched [] regs r ≡ true
fetched-spared regs (Err bad) = refl
fetched-spared regs (Ok bytes) = decoded-spared regs (instruction_in bytes)

instruction-spared : (space : Space) (regs : List ℕ) → spares_instruction [] space regs ≡ true
unfolding spares_instruction
instruction-spared space regs =
    ap (λ (b : Bool). b && spares_fetched [] regs (bytes_for prot_exec space (pc_of regs) 16))
    (all-spared (pc_of regs) 16) ∙ fetched-spared regs (bytes_for prot_exec space (pc_of regs) 16)

gap-spared : (size : ℕ) (o : Option ℕ) → spares_gap [] size o ≡ true
gap-spared size None = refl
gap-spared size (Some at) = all-spared at size

call-spared : (space : Space) (call : Sysno) (args : List ℕ) → spares_call [] space call args ≡ true
unfolding spares_call
call-spared space sys.Read args = all-spared (slice_index args 1) (slice_index args 2)
call-spared space sys.Write args = all-spared (slice_index args 1) (slice_index args 2)
call-spared space sys.Open args = all-spared (slice_index args 0) path_limit
call-spared space sys.Wait args = all-spared (slice_index args 0) word_size
call-spared space sys.Exec args = all-spared (slice_index args 0) path_limit
call-spared space sys.Pipe args = all-spared (slice_index args 0) (2 * word_size)
call-spared space sys.Fstat args = all-spared (slice_index args 1) (3 * word_size)
call-spared space sys.Brk args = all-spared heap_base (rounded (slice_index args 0 - heap_base))
call-spared space sys.Mmap args =
    gap-spared (rounded (slice_index args 0)) (gap_in (rounded (slice_index args 0)) space)
call-spared space _ args = refl

pub none-spared : (p : TracedProcess) (l : TracedLwp) → SparesPatches [] p l
none-spared p l = record {
  instruction = λ runs. instruction-spared p.space l.regs;
  called = λ call at. call-spared p.space call (arguments l.regs);
  asleep = λ call args since at. call-spared p.space call args;
}
