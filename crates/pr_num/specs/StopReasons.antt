use Rattle.std.specs.Prelude.{ℕ, Bool, List, [], ◌∷◌, codes}
use Rattle.std.specs.Str.{bytes_eq}
use Rattle.pr_num.specs.declared.stop_reasons.StopReason.{StopReason}
use Rattle.pr_num.specs.declared.stop_reasons.StopReason.TheVariants.{Requested, Signalled, SysEntry, SysExit, JobControl, Faulted, Suspended}

-- every stop reason, in the order of its number, which counts from 1
abbrev pub stop_reasons : List StopReason
stop_reasons = Requested ∷ Signalled ∷ SysEntry ∷ SysExit ∷ JobControl ∷ Faulted ∷ Suspended ∷ []

-- the number of a stop reason, of this project's own
unfoldable pub reason_number : StopReason → ℕ
reason_number Requested = 1
reason_number Signalled = 2
reason_number SysEntry = 3
reason_number SysExit = 4
reason_number JobControl = 5
reason_number Faulted = 6
reason_number Suspended = 7

-- the name of a stop reason (proc(4), "pr_why")
unfoldable pub reason_name : StopReason → List ℕ
reason_name Requested = codes "PR_REQUESTED"
reason_name Signalled = codes "PR_SIGNALLED"
reason_name SysEntry = codes "PR_SYSENTRY"
reason_name SysExit = codes "PR_SYSEXIT"
reason_name JobControl = codes "PR_JOBCONTROL"
reason_name Faulted = codes "PR_FAULTED"
reason_name Suspended = codes "PR_SUSPENDED"

-- whether these bytes name the reason
abbrev pub is_reason_named : List ℕ → StopReason → Bool
is_reason_named bytes r = bytes_eq bytes (reason_name r)
