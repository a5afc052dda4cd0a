use Rattle.std.specs.Prelude.{ℕ, Option}
use Rattle.std.specs.Option.{option_and_then, option_map}
use Rattle.pr_num.specs.StopReasons.{reason_number}
use Rattle.pr_model.specs.State.{TracedProcess, lwp_of}
use Rattle.pr_model.specs.Statuses.{reason_shown, what_shown}
use Rattle.pr_model.specs.Stops.{shown}
use Rattle.pr_model.specs.declared.stops.Shown.{Shown}

-- why and what for an lwp stands still, by their numbers (proc(4), "lwpstatus"), by what it shows
abbrev pub numbers_of : Option Shown → Option (ℕ × ℕ)
numbers_of shows = option_map (λ reason. (reason_number reason, what_shown shows)) (reason_shown shows)

-- the same of the lwp of an id in a process, if there is one that stands still
abbrev pub shows : TracedProcess → ℕ → Option (ℕ × ℕ)
shows p id = option_and_then (λ l. numbers_of (shown p.job_stop l)) (lwp_of p id)
