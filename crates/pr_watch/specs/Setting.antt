-- What setting a watched area answers (proc(4), "PCWATCH").
use Rattle.std.specs.Prelude.{ℕ, List, length, Option, Some, None, is_some, Result, Ok, Err, nat_le, if◌then◌else◌}
use Rattle.pr_num.specs.Messages.{bad_operand}
use Rattle.pr_num.specs.declared.mappings.Area.{Area}
use Rattle.pr_num.specs.declared.messages.Message.TheVariants.{Watch}
use Rattle.pr_parts.specs.WatchedAreas.{area_limit, is_taken}
use Rattle.pr_watch.specs.declared.areas.WatchFault.{WatchFault}
use Rattle.pr_watch.specs.declared.areas.WatchFault.TheVariants.{BadFlags, Overlap, TooMany}

-- Why an area is refused: its words are out of their columns, or it overlaps one that stands, or as many stand as there
-- can be.
abbrev pub set_refusal : ℕ → ℕ → ℕ → List Area → Option WatchFault
set_refusal at size flags areas =
    if is_some (bad_operand (Watch at size flags)) then Some BadFlags
    else (if is_taken at size areas then Some Overlap
    else (if nat_le area_limit (length areas) then Some TooMany else None))

-- done, unless there is a reason to refuse
abbrev pub done_unless : Option WatchFault → Result (Unit {0}) WatchFault
done_unless None = Ok tt
done_unless (Some fault) = Err fault
