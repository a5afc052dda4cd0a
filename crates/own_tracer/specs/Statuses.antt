use Rattle.std.specs.Prelude.{ℕ}
use Rattle.own_tracer.specs.declared.statuses.Status.{Status}
use Rattle.own_tracer.specs.declared.statuses.Status.TheVariants.{Done, Refused, ReadFailed, WriteFailed, OutOfMemory}

-- the number with which the process ends
unfoldable pub number : Status → ℕ
number Done = 0
number Refused = 2
number ReadFailed = 5
number WriteFailed = 6
number OutOfMemory = 7
