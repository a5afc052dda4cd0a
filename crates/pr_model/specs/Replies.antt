-- What a reply gives to the controller whose call it answers.
use Rattle.std.specs.Prelude.{ℕ, List, Option, Some, None}
use Rattle.pr_model.specs.declared.calls.Reply.{Reply}
use Rattle.pr_model.specs.declared.calls.Reply.TheVariants as reply

-- the number that no open handle has: it stands for the handle of a file that is not open
abbrev pub no_handle : ℕ
no_handle = 4294967295

-- the handle of a file, which may not be open
abbrev pub number_of : Option ℕ → ℕ
number_of None = no_handle
number_of (Some handle) = handle

-- the handle that an open gave
unfoldable pub opened_in : Reply → Option ℕ
opened_in (reply.Handle handle) = Some handle
opened_in _ = None

abbrev pub handle_in : Reply → ℕ
handle_in r = number_of (opened_in r)

-- the bytes that a read gave
unfoldable pub bytes_in : Reply → Option (List ℕ)
bytes_in (reply.Bytes bytes) = Some bytes
bytes_in _ = None

-- the clock at which the wait of a message that waits ends in any case; 0 for no end
unfoldable pub until_in : Reply → ℕ
until_in (reply.Half until) = until
until_in _ = 0
