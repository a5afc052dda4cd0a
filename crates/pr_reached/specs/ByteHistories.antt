use Rattle.std.specs.Prelude.{List}
use Rattle.std.specs.List.{All}
use Rattle.pr_num.specs.Words.{IsByte}
use Rattle.pr_model.specs.declared.calls.Call.{Call}
use Rattle.pr_model.specs.declared.calls.Call.TheVariants.{Ctl}
use Rattle.pr_model.specs.declared.events.Act.{Act}
use Rattle.pr_model.specs.declared.events.Act.TheVariants.{Call as ACall}
use Rattle.pr_model.specs.declared.events.Entry.{Entry}

-- The messages that a controller writes are bytes. Types say so in the program; the definitions of the machine do not
-- ask for it.

-- The messages of Ctl are bytes. Of other calls nothing is asked: what CtlWait names is read, and not written.
abbrev pub IsOfBytes : Call → Type 0
IsOfBytes (Ctl handle bytes) = All IsByte bytes
IsOfBytes _ = Unit {0}

abbrev pub IsActOfBytes : Act → Type 0
IsActOfBytes (ACall c r) = IsOfBytes c
IsActOfBytes _ = Unit {0}

-- a history of such calls
abbrev pub IsEntryOfBytes : Entry → Type 0
IsEntryOfBytes e = IsActOfBytes e.act

abbrev pub HasBytes : List Entry → Type 0
HasBytes h = All IsEntryOfBytes h
