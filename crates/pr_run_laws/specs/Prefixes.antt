use Rattle.std.specs.Prelude.{◌≡◌, List, ◌++◌}
use Rattle.pr_model.specs.declared.events.Entry.{Entry}

-- A history is a prefix of another: that is it, followed by more entries or by none.
pub record IsPrefix (prefix whole : List Entry) : Type 0 where
  pub more : List Entry
  pub is : whole ≡ prefix ++ more
