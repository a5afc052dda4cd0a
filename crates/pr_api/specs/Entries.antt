use Rattle.std.specs.Prelude.{◌-◌, ℕ, List, Option, Some, None, option_and_then, slice_get, length}
use Rattle.pr_model.specs.declared.calls.Call.{Call}
use Rattle.pr_model.specs.declared.calls.Reply.{Reply}
use Rattle.pr_model.specs.declared.events.Act.{Act}
use Rattle.pr_model.specs.declared.events.Act.TheVariants.{Call as Called, Turn, Tick}
use Rattle.pr_model.specs.declared.events.Actor.TheVariants.{Controller, Lwp, Clock}
use Rattle.pr_model.specs.declared.events.Entry.{Entry}
use Rattle.pr_model.specs.declared.events.Turned.{Turned}

-- The entries that a kernel adds to its history.

-- the entry of a call that a controller made, of a turn that an lwp had, of a tick that brought the clock to a
-- millisecond
abbrev pub call_entry : ℕ → Call → Reply → Entry
call_entry by call reply = record { actor = Controller by; act = Called call reply }

abbrev pub turn_entry : ℕ → ℕ → Turned → Entry
turn_entry pid id turned = record { actor = Lwp pid id; act = Turn turned }

abbrev pub tick_entry : ℕ → Entry
tick_entry clock = record { actor = Clock; act = Tick clock }

-- the reply of an entry, if it is one of a call
abbrev pub reply_in : Act → Option Reply
reply_in (Called call reply) = Some reply
reply_in _ = None

abbrev pub reply_of : Entry → Option Reply
reply_of e = reply_in e.act

-- the reply of the last entry, if there is one and it is one of a call
unfoldable pub last_reply_of : List Entry → Option Reply
last_reply_of history = option_and_then reply_of (slice_get history (length history - 1))
