use Rattle.std.proofs.Common.{◌≡◌, ◌-◌, ◌≤◌, ℕ, Bool, true, false, length, replicate, refl, ◌∙◌, arith, length-append}
use Rattle.std.proofs.lemmas.List.{length-replicate}
use Rattle.std.proofs.lemmas.List.Elements.{All-append, All-replicate}
use Rattle.pr_num.specs.Words.{IsByte, IsWord}
use Rattle.pr_rec.proofs.FieldLemmas.{signal_number-lt, fault_number-lt, syscall_number-lt}
use Rattle.pr_rec.specs.Fields.{flag_if}
use Rattle.pr_rec.specs.NoLwp.{no_lwp}
use Rattle.pr_rec.proofs.laws.what_fills_records_is_in_range.Goals as goal

flag_if-le : (b : Bool) (bit : ℕ) → flag_if b bit ≤ bit
flag_if-le true bit = omega arith
flag_if-le false bit = omega arith

pub returns-clause-lwp_flags : goal.returns-clause-lwp_flags
returns-clause-lwp_flags c m =
    omega (
      arith,
      flag_if-le m.stopped 1,
      flag_if-le m.on_event 2,
      flag_if-le m.directed 4,
      flag_if-le m.step 8,
      flag_if-le m.asleep 16,
      flag_if-le m.agent 32,
    )

pub returns-clause-process_flags : goal.returns-clause-process_flags
returns-clause-process_flags c modes system lent few = omega (arith, flag_if-le system 16, flag_if-le lent 32)

pub returns-clause-signal : goal.returns-clause-signal
returns-clause-signal c s = signal_number-lt s

pub returns-clause-fault : goal.returns-clause-fault
returns-clause-fault c f = fault_number-lt f

pub returns-clause-call : goal.returns-clause-call
returns-clause-call c call = syscall_number-lt call

pub returns-clause-name : goal.returns-clause-name
returns-clause-name c name short bytes =
    let zeros : length (replicate {A = ℕ} (32 - length name) 0) ≡ 32 - length name =
    length-replicate (32 - length name) 0 in
    record {
      whole = length-append name (replicate (32 - length name) 0) ∙ omega arith;
      bytes = All-append IsByte name (replicate (32 - length name) 0) bytes
          (All-replicate IsByte (32 - length name) 0 (omega arith));
    }

pub returns-clause-no_lwp : goal.returns-clause-no_lwp
unfolding no_lwp
returns-clause-no_lwp c = record {
  flags = omega arith;
  id = omega arith;
  what = omega arith;
  fault_address = omega arith;
  arguments = All-replicate IsWord 6 0 (omega arith);
  result = omega arith;
  held = omega arith;
  pending = omega arith;
  regs = All-replicate IsWord 11 0 (omega arith);
  info = record { code = omega arith; pid = omega arith };
  info_value = omega arith;
  sizes = record { arguments = refl; regs = refl };
}
