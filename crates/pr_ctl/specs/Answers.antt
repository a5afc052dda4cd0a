use Rattle.std.specs.Prelude.{◌≡◌, ℕ, List, Option}
use Rattle.std.specs.Option.{ForSome}
use Rattle.pr_num.specs.declared.messages.Message.{Message}
use Rattle.pr_model.specs.Messages.{Controlled, message_answer}
use Rattle.pr_model.specs.State.{TracedSystem, live_process}
use Rattle.pr_model.specs.declared.calls.Reply.{Reply}
use Rattle.pr_ctl.specs.Aims.{aim_at}

-- What it is to do what a message asks for.

-- A system and a reply are what a message makes of this system, that a live process takes through the file of the lwp
-- of an id, or where none is named through its own. So many bytes encode it, and these stand after its operands.
abbrev pub Answers : TracedSystem → ℕ → Option ℕ → Message → List ℕ → ℕ → TracedSystem → Reply → Type 0
Answers s pid lwp m tail len new reply =
    ForSome (live_process s pid)
    (λ p. (let c : Controlled = record { system = new; reply = reply } in c)
    ≡ message_answer s pid p (aim_at lwp) m tail len)
