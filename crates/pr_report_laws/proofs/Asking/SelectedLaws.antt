use Rattle.std.proofs.Common.{◌≡◌, ◌≢◌, ◌&&◌, ◌||◌, ◌<◌, ◌^◌, lit≤, ℕ, Bool, true, false, not, List, Ok, Err, refl, sym, ap, ◌∙◌, arith}
use Rattle.std.proofs.Math.Bool.{and_comm}
use Rattle.std.proofs.lemmas.Bool.{ne_eqb, or_right}
use Rattle.pr_line.specs.Selections.{has_line, is_birth, is_chosen, is_selected, never_returns}
use Rattle.pr_line.specs.declared.events.Event.TheVariants.{Entered, Left}
use Rattle.pr_line.specs.declared.options.Options.{Options}
use Rattle.pr_num.proofs.BoolLemmas.{or_false}
use Rattle.pr_num.proofs.SetLemmas.{has_number-common, has_number-minus}
use Rattle.pr_num.specs.Sets.{common_word, has_number, minus_word, union_word, with_number}
use Rattle.pr_num.specs.Syscalls.{is_fork_call, syscall_number}
use Rattle.pr_num.specs.declared.errnos.Errno.{Errno}
use Rattle.pr_num.specs.declared.syscalls.Sysno.{Sysno}
use Rattle.pr_truss.proofs.ForkLemmas.{call_number-range, with_forks-has, with_forks-others}
use Rattle.pr_truss.specs.Messages.{ending_calls, with_forks}
use Rattle.pr_report_laws.proofs.Machine.SelectedPoints.{ending_calls-small, ends-its-lwp}
use Rattle.pr_report_laws.specs.Asked.{SelectsWhatIsNamed, and_forks, calls_without_return}

-- What is selected is what the options name.

-- ---- the sets of calls

-- the calls that never return, and those that make a child
never-or-fork : (c : Sysno)
    → has_number (and_forks calls_without_return) (syscall_number c) ≡ (never_returns c || is_fork_call c)
unfolding ending_calls with_forks
never-or-fork c = by (is_fork_call c) refl
  where
    by : (fork : Bool) → is_fork_call c ≡ fork
        → has_number (with_forks ending_calls) (syscall_number c) ≡ (never_returns c || fork)
    by true is = with_forks-has ending_calls c is ∙ sym (or_right (never_returns c) true refl)
    by false is = with_forks-others ending_calls c is ∙ ends-its-lwp c ∙ sym (or_false (never_returns c))

forks-small : and_forks calls_without_return < 2 ^ 64
unfolding syscall_number with_number union_word
forks-small = lit≤ tt

module _ (calls : ℕ) (c : Sysno) where
  entered-set : has_number (common_word calls calls_without_return) (syscall_number c)
      ≡ (has_number calls (syscall_number c) && never_returns c)
  unfolding ending_calls
  entered-set =
      has_number-common calls ending_calls (syscall_number c)
      ∙ ap (λ (b : Bool). has_number calls (syscall_number c) && b) (ends-its-lwp c)

  left-set : has_number (minus_word calls calls_without_return) (syscall_number c)
      ≡ (has_number calls (syscall_number c) && not (never_returns c))
  unfolding ending_calls
  left-set =
      let range = call_number-range c in
      has_number-minus calls ending_calls (syscall_number c) ending_calls-small range.0 (omega arith)
      ∙ ap (λ (b : Bool). has_number calls (syscall_number c) && not b) (ends-its-lwp c)

  left-zero-set : has_number (minus_word calls (and_forks calls_without_return)) (syscall_number c)
      ≡ (has_number calls (syscall_number c) && not (never_returns c || is_fork_call c))
  left-zero-set =
      let range = call_number-range c in
      has_number-minus calls (and_forks calls_without_return) (syscall_number c) forks-small range.0 (omega arith)
      ∙ ap (λ (b : Bool). has_number calls (syscall_number c) && not b) (never-or-fork c)

-- ---- the events

-- an exit is selected where it is chosen, its call returns, and it is no birth
lined : (never chosen : Bool) → ((not never && true) && chosen) ≡ (chosen && not never)
lined true true = refl
lined true false = refl
lined false true = refl
lined false false = refl

unborn : (never fork chosen : Bool) → ((not never && not (fork && false)) && chosen) ≡ (chosen && not never)
unborn never true chosen = lined never chosen
unborn never false chosen = lined never chosen

born : (never fork chosen : Bool) → ((not never && not (fork && true)) && chosen) ≡ (chosen && not (never || fork))
born true fork true = refl
born true fork false = refl
born false true true = refl
born false true false = refl
born false false true = refl
born false false false = refl

module _ (o : Options) (c : Sysno) (args : List ℕ) where
  entry-selected : is_selected o (Entered c args)
      ≡ has_number (common_word o.calls calls_without_return) (syscall_number c)
  unfolding is_selected has_line is_chosen
  entry-selected = and_comm (never_returns c) (has_number o.calls (syscall_number c)) ∙ sym (entered-set o.calls c)

  refused-selected : (e : Errno) → is_selected o (Left c args (Err e))
      ≡ has_number (minus_word o.calls calls_without_return) (syscall_number c)
  unfolding is_selected has_line is_birth is_chosen
  refused-selected e = lined (never_returns c) (has_number o.calls (syscall_number c)) ∙ sym (left-set o.calls c)

  returned-selected : (value : ℕ) → value ≢ 0 → is_selected o (Left c args (Ok value))
      ≡ has_number (minus_word o.calls calls_without_return) (syscall_number c)
  unfolding is_selected has_line is_birth is_chosen
  returned-selected value other =
      let chosen = has_number o.calls (syscall_number c) in
      ap (λ (zero : Bool). (not (never_returns c) && not (is_fork_call c && zero)) && chosen) (ne_eqb value 0 other)
      ∙ unborn (never_returns c) (is_fork_call c) chosen ∙ sym (left-set o.calls c)

  zero-selected : is_selected o (Left c args (Ok 0))
      ≡ has_number (minus_word o.calls (and_forks calls_without_return)) (syscall_number c)
  unfolding is_selected has_line is_birth is_chosen
  zero-selected =
      born (never_returns c) (is_fork_call c) (has_number o.calls (syscall_number c)) ∙ sym (left-zero-set o.calls c)

pub selects-named : (o : Options) → SelectsWhatIsNamed o
unfolding is_selected has_line is_chosen
selects-named o = record {
  signals = λ signal disposition info. refl;
  faults = λ fault pc. refl;
  entries = λ c args. entry-selected o c args;
  refused = λ c args e. refused-selected o c args e;
  returned = λ c args value other. returned-selected o c args value other;
  returned_zero = λ c args. zero-selected o c args;
}

pub ruleset selecting = (selects-named)
