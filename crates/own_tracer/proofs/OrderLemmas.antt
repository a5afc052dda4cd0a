use Rattle.std.proofs.Common.{◌≡◌, ◌||◌, ◌&&◌, ◌<◌, ◌≤◌, ◌-◌, ◌^◌, ℕ, Bool, true, false, not, List, [], Ok, refl, sym, ap, ◌∙◌, arith}
use Rattle.pr_model.specs.Messages.{with_control, with_modes, without_modes}
use Rattle.pr_model.specs.State.{TracedProcess}
use Rattle.pr_num.proofs.SetLemmas.{has_flags-one, has_number-minus, has_number-union}
use Rattle.pr_num.specs.Control.{has_flags, klc_mode, rlc_mode}
use Rattle.pr_num.specs.Messages.{bad_operand, encoded_length, first_message, in_columns, message_code, message_read, nth_word, one_word, operand_count, operands, spelling, tail_length, unpadded_length, with_tail}
use Rattle.pr_num.specs.Sets.{has_number, minus_word, union_word, with_number}
use Rattle.pr_num.specs.Syscalls.{syscall_number}
use Rattle.pr_num.specs.Words.{word_bytes, word_of}
use Rattle.pr_model.specs.declared.calls.Call.TheVariants as call
use Rattle.own_tracer.specs.Calls.{open_call}
use Rattle.own_tracer.specs.Going.{only_controls, read_changes}
use Rattle.own_tracer.specs.Orders.{message_of, order_call}
use Rattle.own_tracer.specs.declared.orders.Order.{Order}
use Rattle.own_tracer.specs.declared.orders.Order.TheVariants.{TraceWrites, Run, Abort, Spare, Release}

-- The messages of the injector: each is read as it was meant, and none changes memory.

pub order-reads : (o : Order) → first_message (spelling (message_of o) []) ≡ Ok (message_of o, 16)
unfolding message_of first_message message_code operands nth_word word_bytes word_of message_read one_word in_columns
    bad_operand with_tail encoded_length unpadded_length tail_length operand_count with_number union_word syscall_number
order-reads TraceWrites = refl
order-reads Run = refl
order-reads Abort = refl
order-reads Spare = refl
order-reads Release = refl

leaves-it : (o : Order) → not (read_changes (Ok (message_of o, 16))) ≡ true
unfolding message_of
leaves-it TraceWrites = refl
leaves-it Run = refl
leaves-it Abort = refl
leaves-it Spare = refl
leaves-it Release = refl

pub orders-control : (control : ℕ) (o : Order) → only_controls (order_call control o) ≡ true
unfolding only_controls
orders-control control o = ap (λ r. not (read_changes r)) (order-reads o) ∙ leaves-it o

pub closes-control : (control : ℕ) → only_controls (call.Close control) ≡ true
unfolding only_controls
closes-control control = refl

pub opens-control : (pid : ℕ) → only_controls (open_call pid) ≡ true
unfolding only_controls
opens-control pid = refl

pub polls-control : (handles : List ℕ) → only_controls (call.Poll handles) ≡ true
unfolding only_controls
polls-control handles = refl

-- ---- what PCSET and PCUNSET make of the modes

or-true : (b : Bool) → (b || true) ≡ true
or-true true = refl
or-true false = refl

or-false : (b : Bool) → (b || false) ≡ b
or-false true = refl
or-false false = refl

and-false : (b : Bool) → (b && false) ≡ false
and-false true = refl
and-false false = refl

-- a mode that is set, one that is cleared, and one beside those that are set
added : (modes w n : ℕ) → 1 ≤ n → has_number w n ≡ true → has_flags (union_word modes w) (2 ^ (n - 1)) ≡ true
added modes w n least is =
    has_flags-one (union_word modes w) n least ∙ has_number-union modes w n ∙ ap (λ b. has_number modes n || b) is
    ∙ or-true (has_number modes n)

other-added : (modes w n : ℕ) → 1 ≤ n → has_number w n ≡ false
    → has_flags (union_word modes w) (2 ^ (n - 1)) ≡ has_flags modes (2 ^ (n - 1))
other-added modes w n least none =
    has_flags-one (union_word modes w) n least ∙ has_number-union modes w n ∙ ap (λ b. has_number modes n || b) none
    ∙ or-false (has_number modes n) ∙ sym (has_flags-one modes n least)

taken : (modes w n : ℕ) → w < 2 ^ 64 → 1 ≤ n → n ≤ 64 → has_number w n ≡ true
    → has_flags (minus_word modes w) (2 ^ (n - 1)) ≡ false
taken modes w n small least most is =
    has_flags-one (minus_word modes w) n least ∙ has_number-minus modes w n small least most
    ∙ ap (λ b. has_number modes n && not b) is ∙ and-false (has_number modes n)

pub spared : (p : TracedProcess) → has_flags (with_control (without_modes klc_mode) p).control.modes klc_mode ≡ false
unfolding with_control without_modes has_number
spared p = taken p.control.modes klc_mode 3 (omega arith) (omega arith) (omega arith) refl

pub releases : (p : TracedProcess) → has_flags (with_control (with_modes rlc_mode) p).control.modes rlc_mode ≡ true
unfolding with_control with_modes has_number
releases p = added p.control.modes rlc_mode 2 (omega arith) refl

pub still-spared : (p : TracedProcess)
    → has_flags (with_control (with_modes rlc_mode) p).control.modes klc_mode ≡ has_flags p.control.modes klc_mode
unfolding with_control with_modes has_number
still-spared p = other-added p.control.modes rlc_mode 3 (omega arith) refl
