use Rattle.std.proofs.Common.{◌≡◌, ◌↔◌, ℕ, List, length, take, drop, All, Result, Ok, sym, ap, ◌∙◌, arith, length-take, take-append-drop}
use Rattle.pr_num.specs.Words.{IsByte}
use Rattle.pr_num.specs.Messages.{first_message}
use Rattle.pr_num.specs.declared.messages.Message.{Message}
use Rattle.pr_num.specs.declared.messages.MsgFault.{MsgFault}
use Rattle.pr_codec.proofs.MessageLemmas.{spelt_is_read}
use Rattle.pr_codec.proofs.SpellingLemmas.{read_is_spelt}
use Rattle.pr_msg.specs.Beginnings.{BeginsWith}

-- A message is read exactly where the bytes begin with it.
pub read-begins : (bytes : List ℕ) (r : Result (Message × ℕ) MsgFault) → All IsByte bytes → r ≡ first_message bytes
    → (m : Message) (n : ℕ) → (r ≡ Ok (m, n)) ↔ BeginsWith bytes m n
read-begins bytes r small is m n = (to, from)
  where
    to : r ≡ Ok (m, n) → BeginsWith bytes m n
    to e =
        let read = read_is_spelt bytes m n small (sym is ∙ e) in
        record { enough = read.0; tail = read.1.0; spelt = read.1.1 }

    from : BeginsWith bytes m n → r ≡ Ok (m, n)
    from b =
        let size : length (take n bytes) ≡ n = omega (arith, length-take n bytes, b.enough) in
        is ∙ ap first_message (sym (take-append-drop n bytes))
        ∙ spelt_is_read (take n bytes) (drop n bytes) m b.tail b.spelt ∙ ap (λ (k : ℕ). Ok (m, k)) size
