use Rattle.std.specs.Prelude.{ℕ, Option, Some, None}
use Rattle.pr_model.specs.Messages.{Aim, at_lwp, at_process}

-- What a control message acts on, by the id of an lwp: the lwp of that id, or where none is named the process.
abbrev pub aim_at : Option ℕ → Aim
aim_at None = at_process
aim_at (Some id) = at_lwp id
