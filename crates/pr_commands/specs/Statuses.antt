use Rattle.std.specs.Prelude.{◌≢◌, ℕ}
use Rattle.pr_commands.specs.declared.outcomes.Status.{Status}
use Rattle.pr_commands.specs.declared.outcomes.Status.TheVariants.{Done, Usage, Refused, Spent, Stuck, ReadFailed, WriteFailed, OutOfMemory, NotLegal}

-- the number of a status, with which the process ends
unfoldable pub number : Status → ℕ
number Done = 0
number Usage = 1
number Refused = 2
number Spent = 3
number Stuck = 4
number ReadFailed = 5
number WriteFailed = 6
number OutOfMemory = 7
number NotLegal = 8

-- Nothing failed, so that the answer to the input was given whole.
pub record IsWhole (status : Status) : Type 0 where
  pub read : status ≢ ReadFailed
  pub wrote : status ≢ WriteFailed
  pub had_memory : status ≢ OutOfMemory
