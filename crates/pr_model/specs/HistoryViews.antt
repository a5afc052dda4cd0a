use Rattle.std.specs.Prelude.{ℕ, List}
use Rattle.pr_model.specs.declared.events.Entry.{Entry}

-- a history as contracts see it: its entries, and how many more there is room for
pub record HistoryView : Type 0 where
  pub entries : List Entry
  pub room : ℕ
