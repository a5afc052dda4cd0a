-- Entries in a few words, for the cell of a chart.
use Rattle.std.specs.Prelude.{ℕ, Bool, true, false, None, List, [], ◌++◌, codes}
use Rattle.pr_model.specs.declared.calls.Call.{Call}
use Rattle.pr_model.specs.declared.calls.Call.TheVariants as call
use Rattle.pr_model.specs.declared.calls.Reply.{Reply}
use Rattle.pr_model.specs.declared.calls.Reply.TheVariants as reply
use Rattle.pr_model.specs.declared.events.Act.{Act}
use Rattle.pr_model.specs.declared.events.Act.TheVariants as act
use Rattle.pr_model.specs.declared.events.Turned.{Turned}
use Rattle.pr_num.specs.Errnos.{errno_name}
use Rattle.pr_hist.specs.Calls.{calling, operands_text}
use Rattle.pr_hist.specs.Entries.{tick_text}
use Rattle.pr_hist.specs.Messages.{messages_text}
use Rattle.pr_hist.specs.Names.{Names, handle_text}
use Rattle.pr_hist.specs.Turns.{doing, object, outcome_text}

-- that a call was refused, and how
unfoldable pub refused : Reply → List ℕ
refused (reply.Fail e) = errno_name e ++ codes ": "
refused _ = []

-- what a controller asks: of a write its messages, of a read the file; a cell has no room for places in programs
unfoldable pub asking : Names → Call → List ℕ
asking names (call.Ctl h bytes) = messages_text None bytes
asking names (call.CtlWait h until bytes) = codes "waits: " ++ messages_text None bytes
asking names (call.Read h at len) = codes "reads " ++ handle_text names h
asking names c = calling c ++ operands_text names c

unfoldable pub brief_call : Names → Call → Reply → List ℕ
brief_call names c r = refused r ++ asking names c

-- what an lwp does; whether it stops then, its lane shows
unfoldable pub brief_turn : Turned → List ℕ
brief_turn t = doing t.did ++ (object t.did ++ outcome_text t.did)

unfoldable pub brief_text : Names → Act → List ℕ
brief_text names (act.Call c r) = brief_call names c r
brief_text names (act.Turn t) = brief_turn t
brief_text names (act.Tick n) = tick_text n
