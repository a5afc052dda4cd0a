use Rattle.std.specs.Prelude.{ℕ, Bool, Option, List, [], ◌∷◌, codes, find}
use Rattle.std.specs.Str.{bytes_eq}
use Rattle.pr_num.specs.Tables.{entry_at}
use Rattle.pr_num.specs.declared.faults.Flt.{Flt}
use Rattle.pr_num.specs.declared.faults.Flt.TheVariants.{Ill, Bpt, Trace, Watch, Access, Bounds, Stack, Izdiv}
use Rattle.pr_num.specs.declared.signals.Sig.{Sig}
use Rattle.pr_num.specs.declared.signals.Sig.TheVariants.{Ill as SigIll, Trap, Fpe, Bus, Segv}

-- every fault, in the order of its number, which counts from 1
abbrev pub faults : List Flt
faults = Ill ∷ Bpt ∷ Trace ∷ Watch ∷ Access ∷ Bounds ∷ Stack ∷ Izdiv ∷ []

-- the number of a fault, of this project's own
unfoldable pub fault_number : Flt → ℕ
fault_number Ill = 1
fault_number Bpt = 2
fault_number Trace = 3
fault_number Watch = 4
fault_number Access = 5
fault_number Bounds = 6
fault_number Stack = 7
fault_number Izdiv = 8

-- the name of a fault (proc(4))
unfoldable pub fault_name : Flt → List ℕ
fault_name Ill = codes "FLTILL"
fault_name Bpt = codes "FLTBPT"
fault_name Trace = codes "FLTTRACE"
fault_name Watch = codes "FLTWATCH"
fault_name Access = codes "FLTACCESS"
fault_name Bounds = codes "FLTBOUNDS"
fault_name Stack = codes "FLTSTACK"
fault_name Izdiv = codes "FLTIZDIV"

-- whether these bytes are the whole name of the fault
abbrev pub is_named : List ℕ → Flt → Bool
is_named bytes f = bytes_eq bytes (fault_name f)

-- the signal that a fault sends, unless it is cleared first
unfoldable pub fault_signal : Flt → Sig
fault_signal Ill = SigIll
fault_signal Bpt = Trap
fault_signal Trace = Trap
fault_signal Watch = Trap
fault_signal Access = Bus
fault_signal Bounds = Segv
fault_signal Stack = Segv
fault_signal Izdiv = Fpe

-- the fault of a number, none where no fault has it
unfoldable pub fault_of_number : ℕ → Option Flt
fault_of_number n = entry_at faults n

-- the fault that these bytes name, none where they name none
unfoldable pub fault_of_name : List ℕ → Option Flt
fault_of_name bytes = find (is_named bytes) faults
