use Rattle.std.proofs.Common.{◌≡◌, ◌&&◌, ◌<◌, ◌^◌, lit≤, ℕ, Bool, true, false, cond, not, List, Result, refl, sym, ap, ◌∙◌, arith}
use Rattle.std.proofs.Math.Bool.{and_comm}
use Rattle.std.proofs.lemmas.Bool.{false≢true}
use Rattle.pr_line.specs.Selections.{has_line, is_birth, is_chosen, is_selected, never_returns}
use Rattle.pr_line.specs.declared.events.Event.{Event}
use Rattle.pr_line.specs.declared.events.Event.TheVariants.{Entered, Left, Received, Incurred}
use Rattle.pr_line.specs.declared.options.Options.{Options}
use Rattle.pr_num.proofs.SetLemmas.{has_number-common, has_number-minus}
use Rattle.pr_num.specs.Sets.{has_number, minus_word, union_word, with_number}
use Rattle.pr_num.specs.Syscalls.{is_fork_call, syscall_number}
use Rattle.pr_num.specs.declared.errnos.Errno.{Errno}
use Rattle.pr_num.specs.declared.syscalls.Sysno.{Sysno}
use Rattle.pr_num.specs.declared.syscalls.Sysno.TheVariants as call
use Rattle.pr_truss.proofs.ForkLemmas.{call_number-range, with_forks-has, with_forks-others}
use Rattle.pr_truss.specs.Messages.{ending_calls, traced_entries, traced_exits, traced_faults, traced_signals, with_forks}
use Rattle.pr_report_laws.proofs.Machine.TracedPoints.{PicksTraced}
use Rattle.pr_report_laws.specs.Reads.{traces}

-- What the options select is traced.

no-line : (never birth chosen : Bool) → (chosen && not never) ≡ false → ((not never && not birth) && chosen) ≡ false
no-line true birth chosen is = refl
no-line false true chosen is = refl
no-line false false true is = is
no-line false false false is = refl

-- the calls that never return are those that end their lwp
pub ends-its-lwp : (c : Sysno) → has_number ending_calls (syscall_number c) ≡ never_returns c
unfolding ending_calls syscall_number never_returns has_number with_number union_word
ends-its-lwp call.Exit = refl
ends-its-lwp _ = refl

pub ending_calls-small : ending_calls < 2 ^ 64
unfolding ending_calls syscall_number with_number union_word
ending_calls-small = lit≤ tt

module _ (o : Options) where
  entry-unselected : (c : Sysno) (args : List ℕ) → has_number (traced_entries o) (syscall_number c) ≡ false
      → is_selected o (Entered c args) ≡ false
  unfolding traced_entries is_selected has_line is_chosen
  entry-unselected c args off =
      let both : (has_number o.calls (syscall_number c) && never_returns c) ≡ false =
      ap (λ b. has_number o.calls (syscall_number c) && b) (sym (ends-its-lwp c))
      ∙ sym (has_number-common o.calls ending_calls (syscall_number c)) ∙ off in
      and_comm (never_returns c) (has_number o.calls (syscall_number c)) ∙ both

  exit-lacks : (c : Sysno) → has_number (traced_exits o) (syscall_number c) ≡ false
      → has_number (minus_word o.calls ending_calls) (syscall_number c) ≡ false
  unfolding traced_exits
  exit-lacks c = by o.follow
    where
      others : ℕ
      others = minus_word o.calls ending_calls

      added : (b : Bool) → is_fork_call c ≡ b → has_number (with_forks others) (syscall_number c) ≡ false
          → has_number others (syscall_number c) ≡ false
      added true makes off = absurd (false≢true (sym off ∙ with_forks-has others c makes))
      added false other off = sym (with_forks-others others c other) ∙ off

      by : (b : Bool) → has_number (cond b (with_forks others) others) (syscall_number c) ≡ false
          → has_number others (syscall_number c) ≡ false
      by true off = added (is_fork_call c) refl off
      by false off = off

  exit-unselected : (c : Sysno) (args : List ℕ) (r : Result ℕ Errno)
      → has_number (traced_exits o) (syscall_number c) ≡ false → is_selected o (Left c args r) ≡ false
  unfolding is_selected has_line is_chosen
  exit-unselected c args r off =
      let range = call_number-range c in
      let both : (has_number o.calls (syscall_number c) && not (never_returns c)) ≡ false =
      ap (λ b. has_number o.calls (syscall_number c) && not b) (sym (ends-its-lwp c))
      ∙ sym (has_number-minus o.calls ending_calls (syscall_number c) ending_calls-small range.0 (omega arith))
      ∙ exit-lacks c off in
      no-line (never_returns c) (is_birth c r) (has_number o.calls (syscall_number c)) both

  untraced : (e : Event) → traces o e ≡ false → is_selected o e ≡ false
  unfolding traces traced_signals traced_faults is_selected has_line is_chosen
  untraced (Entered c args) off = entry-unselected c args off
  untraced (Left c args r) off = exit-unselected c args r off
  untraced (Received g d info) off = off
  untraced (Incurred f pc) off = off

  pub selects-traced : PicksTraced o (is_selected o)
  selects-traced = record { untraced = untraced }
