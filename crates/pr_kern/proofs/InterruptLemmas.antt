use Rattle.std.proofs.Common.{◌≡◌, ◌<◌, ◌≤◌, ◌+◌, ◌-◌, ◌*◌, ◌%◌, ◌^◌, ℕ, false, eqb, refl, ap, arith}
use Rattle.std.proofs.lemmas.Bool.{lt-ltb}
use Rattle.std.proofs.lemmas.Nat.{one_shl}
use Rattle.std.proofs.lemmas.Nat.Bits.{bit_at_above}
use Rattle.std.specs.Int.{bit_at}
use Rattle.std.specs.Prelude.{bit_or}
use Rattle.pr_num.specs.Sets.{union_word, with_number}
use Rattle.pr_model.specs.Calls.{Answer, interrupt_answer}
use Rattle.pr_model.specs.State.{TracedState}
use Rattle.pr_model.specs.declared.calls.Reply.TheVariants.{Done}

-- No bit of a word stands for a controller from the 64th on.
pub no_controller : (word by : ℕ) → word < 2 ^ 64 → 64 ≤ by → eqb (bit_at word by) 1 ≡ false
no_controller word by small past = ap (λ n. eqb n 1) (bit_at_above word 64 by small past)

-- A controller's bit is set.
pub interrupted : (s : TracedState) (controller : ℕ) → controller < 64
    → (let a : Answer =
    record { state = record s { interrupted = bit_or s.interrupted ((1 * 2 ^ controller) % 2 ^ 64) }; reply = Done } in
    a) ≡ interrupt_answer s controller
unfolding interrupt_answer with_number union_word
interrupted s controller below =
    let word : (1 * 2 ^ controller) % 2 ^ 64 ≡ 2 ^ controller = one_shl controller 64 below in
    let place : controller + 1 - 1 ≡ controller = omega arith in
    rw (lt-ltb controller 64 below, word, place) refl

pub ruleset interrupt_laws = (no_controller)
