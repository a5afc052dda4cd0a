use Rattle.std.specs.Prelude.{◌≤◌, ◌<◌, ◌+◌, ◌^◌, ℕ, length}
use Rattle.pr_model.specs.HistoryViews.{HistoryView}

-- A history that has so many places from the start: there is room for as many entries, and there are not more.
pub record HasRoom (history : HistoryView) (places : ℕ) : Type 0 where
  pub within : length history.entries ≤ places
  pub room : places ≤ length history.entries + history.room
  pub fits : places < 2 ^ 32
