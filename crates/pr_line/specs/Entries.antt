-- Lists of the entries of a table: of signals, of faults, of system calls.
use Rattle.std.specs.Prelude.{◌==◌, ℕ, Option, None, Some, List, [], ◌∷◌, codes, option_map, option_and_then, if◌then◌else◌}
use Rattle.std.specs.Str.{bytes_eq}
use Rattle.pr_num.specs.Faults.{fault_number, fault_of_name, fault_of_number}
use Rattle.pr_num.specs.Sets.{with_number, minus_word}
use Rattle.pr_num.specs.Signals.{signal_number, signal_of_name, signal_of_number}
use Rattle.pr_num.specs.Syscalls.{syscall_number, syscall_of_name, syscall_of_number}
use Rattle.pr_text.specs.Lists.{parts_of}
use Rattle.pr_text.specs.NumberWords.{number_of}

-- ---- the number of the entry of a name, and that of the entry of a number, in any table

abbrev pub number_named : {T : Type 0} → (T → ℕ) → (List ℕ → Option T) → List ℕ → Option ℕ
number_named number of_name name = option_map number (of_name name)

abbrev pub number_numbered : {T : Type 0} → (T → ℕ) → (ℕ → Option T) → ℕ → Option ℕ
number_numbered number of_number n = option_map number (of_number n)

abbrev pub signal_named : List ℕ → Option ℕ
signal_named = number_named signal_number signal_of_name

abbrev pub signal_numbered : ℕ → Option ℕ
signal_numbered = number_numbered signal_number signal_of_number

abbrev pub fault_named : List ℕ → Option ℕ
fault_named = number_named fault_number fault_of_name

abbrev pub fault_numbered : ℕ → Option ℕ
fault_numbered = number_numbered fault_number fault_of_number

abbrev pub call_named : List ℕ → Option ℕ
call_named = number_named syscall_number syscall_of_name

abbrev pub call_numbered : ℕ → Option ℕ
call_numbered = number_numbered syscall_number syscall_of_number

-- ---- lists over any table

-- a set with the entry of a part, where the part stands for one
abbrev pub with_entry : (List ℕ → Option ℕ) → ℕ → List ℕ → Option ℕ
with_entry entry set part = option_map (with_number set) (entry part)

-- A set with the entries of more parts. None: a part stands for no entry.
unfoldable pub with_entries : (List ℕ → Option ℕ) → ℕ → List (List ℕ) → Option ℕ
with_entries entry set [] = Some set
with_entries entry set (part ∷ parts) =
    option_and_then (λ more. with_entries entry more parts) (with_entry entry set part)

-- the entry of a number, or of a name where there is no number
abbrev pub number_or_name : (List ℕ → Option ℕ) → (ℕ → Option ℕ) → List ℕ → Option ℕ → Option ℕ
number_or_name named numbered part None = named part
number_or_name named numbered part (Some n) = numbered n

-- the entry that a part stands for, by its name or its number
unfoldable pub entry_of : (List ℕ → Option ℕ) → (ℕ → Option ℕ) → List ℕ → Option ℕ
entry_of named numbered part = number_or_name named numbered part (number_of part)

-- a list that begins with !, or one that does not
unfoldable pub list_from : (List ℕ → Option ℕ) → ℕ → List ℕ → Option ℕ
list_from entry every [] = with_entries entry 0 (parts_of [])
list_from entry every (b ∷ bs) =
    if b == 33 then option_map (minus_word every) (with_entries entry 0 (parts_of bs))
    else with_entries entry 0 (parts_of (b ∷ bs))

-- The set that a list of truss(1) stands for: `all`, or entries joined by +, which a leading ! excludes from all. None:
-- a part stands for no entry.
unfoldable pub list_of : (List ℕ → Option ℕ) → (ℕ → Option ℕ) → ℕ → List ℕ → Option ℕ
list_of named numbered every word =
    if bytes_eq word (codes "all") then Some every else list_from (entry_of named numbered) every word
