use Rattle.std.specs.Prelude.{ℕ, List, [], ◌∷◌, ◌++◌, map}
use Rattle.pr_model.specs.declared.events.Entry.{Entry}
use Rattle.pr_run.specs.declared.shared_worlds.LoggedEntry.{LoggedEntry}

-- What the lock has as the log of a history: each entry with those that stand before it. So what a worker made tells at
-- the end of the run what the history was then.

-- an entry behind these
abbrev pub behind : List Entry → Entry → LoggedEntry
behind past e = record { before = past; entry = e }

-- the log of a history, where these entries stand before it
abbrev pub log_from : List Entry → List Entry → List LoggedEntry
log_from past [] = []
log_from past (e ∷ es) = behind past e ∷ log_from (past ++ e ∷ []) es

abbrev pub log_of : List Entry → List LoggedEntry
log_of history = log_from [] history

-- the entries without those before them, each with its place in the history
abbrev pub entries_of : List (ℕ × LoggedEntry) → List (ℕ × Entry)
entries_of own = map (λ e. (e.0, e.1.entry)) own
