use Rattle.std.specs.Prelude.{◌==◌, ◌&&◌, ℕ, Bool, false, not, List, [], ◌∷◌, ◌++◌, Option, Some, None, position, if◌then◌else◌}
use Rattle.pr_model.specs.Events.{Logged, events_of}
use Rattle.pr_model.specs.Legal.{after}
use Rattle.pr_model.specs.State.{TracedState}
use Rattle.pr_model.specs.declared.events.Entry.{Entry}
use Rattle.pr_truss.specs.Feeding.{fed}
use Rattle.pr_truss.specs.Trusses.{TrussState, traced_at}
use Rattle.pr_truss.specs.declared.processes.Traced.{Traced}
use Rattle.pr_truss.specs.declared.stages.Stage.{Stage}
use Rattle.pr_truss.specs.declared.stages.Stage.TheVariants.{Opening, OpeningChild, Closing, ReadingText, FreeingChild}
use Rattle.pr_truss_laws.specs.Exchanges.{Exchange, exchange_of}

-- When truss watches a process: from the PCRUN that ends its opening until, leaving it, truss has read the statuses of
-- its lwps, or until truss closes its files. To watch a process is what users call to be attached to it; the mark
-- `attached` of a traced process comes earlier, when its files are open and its stop is over.

-- whether the process at a place is still being opened, is being closed, or was looked at for the last time
abbrev pub is_away : Bool → Stage → ℕ → Bool
is_away leaving (Opening at _) place = at == place
is_away leaving (OpeningChild parent at _) place = at == place
is_away leaving (Closing at next) place = at == place
is_away leaving (ReadingText at lwp from len) place = leaving && (at == place)
is_away leaving (FreeingChild child _) place = place == 0
is_away leaving _ place = false

-- the first place of a process among those that truss has files of
abbrev pub is_of : ℕ → Traced → Bool
is_of pid t = t.pid == pid

abbrev pub place_of : TrussState → ℕ → Option ℕ
place_of t pid = position (is_of pid) t.traced

abbrev pub watches_at : TrussState → Option ℕ → Bool
watches_at t None = false
watches_at t (Some place) = (traced_at t place).attached && not (is_away t.leaving t.stage place)

-- whether truss watches a process
unfoldable pub watches : TrussState → ℕ → Bool
watches t pid = watches_at t (place_of t pid)

-- truss after an entry of a history: the reply to a call of its own is what it learns
abbrev pub with_exchange : TrussState → Option Exchange → TrussState
with_exchange t None = t
with_exchange t (Some x) = fed t x.reply

abbrev pub fed_by_entry : ℕ → TrussState → Entry → TrussState
fed_by_entry k t e = with_exchange t (exchange_of k e)

-- the events of a history, of any process, that come while truss, which is controller k, watches a process
abbrev pub events_watched : ℕ → ℕ → TrussState → TracedState → List Entry → List Logged
events_watched k pid t s [] = []
events_watched k pid t s (e ∷ h) =
    (if watches t pid then events_of s e else []) ++ events_watched k pid (fed_by_entry k t e) (after s e) h
