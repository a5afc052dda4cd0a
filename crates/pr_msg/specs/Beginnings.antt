use Rattle.std.specs.Prelude.{◌≤◌, ℕ, List, length, take}
use Rattle.pr_num.specs.Messages.{Spells}
use Rattle.pr_num.specs.declared.messages.Message.{Message}

-- The first n of these bytes spell a message.
pub record BeginsWith (bytes : List ℕ) (m : Message) (n : ℕ) : Type 0 where
  pub enough : n ≤ length bytes
  pub tail : List ℕ
  pub spelt : Spells (take n bytes) m tail
