-- Operands of a control message, each a word: numbers, signals, sets and flags.
use Rattle.std.specs.Prelude.{ℕ, ◌==◌, ◌+◌, ◌-◌, ◌^◌, ◌||◌, ◌&&◌, Bool, true, false, Option, Some, None, List, [], ◌∷◌, codes, is_some, length, option_and_then, option_map, slice_get, if◌then◌else◌}
use Rattle.std.specs.List.{list_all, list_any}
use Rattle.std.specs.Str.{bytes_eq}
use Rattle.pr_num.specs.Sets.{minus_word}
use Rattle.pr_num.specs.Signals.{signal_number, signal_of_name}
use Rattle.pr_num.specs.declared.signals.Sig.{Sig}
use Rattle.pr_line.specs.Entries.{with_entries}
use Rattle.pr_text.specs.NumberWords.{number_of}

-- ---- numbers

unfoldable pub is_number : List ℕ → Bool
is_number w = is_some (number_of w)

-- whether there are so many operands, and each is a number
unfoldable pub are_numbers : ℕ → List (List ℕ) → Bool
are_numbers count ops = length ops == count && list_all is_number ops

abbrev pub or_zero : Option ℕ → ℕ
or_zero None = 0
or_zero (Some n) = n

abbrev pub number_in : Option (List ℕ) → ℕ
number_in None = 0
number_in (Some w) = or_zero (number_of w)

-- the number at a place, 0 where there is none
unfoldable pub number_at : List (List ℕ) → ℕ → ℕ
number_at ops i = number_in (slice_get ops i)

-- the registers r0 to r7, sp, fp and pc
unfoldable pub registers_of : List (List ℕ) → List ℕ
registers_of ops =
    number_at ops 0 ∷ number_at ops 1 ∷ number_at ops 2 ∷ number_at ops 3 ∷ number_at ops 4 ∷ number_at ops 5
    ∷ number_at ops 6 ∷ number_at ops 7 ∷ number_at ops 8 ∷ number_at ops 9 ∷ number_at ops 10 ∷ []

-- ---- signals

-- a signal by its number or its name
abbrev pub number_or_signal : List ℕ → Option ℕ → Option ℕ
number_or_signal w None = option_map signal_number (signal_of_name w)
number_or_signal w (Some n) = Some n

unfoldable pub signal_word : List ℕ → Option ℕ
signal_word w = number_or_signal w (number_of w)

unfoldable pub signal_of : List (List ℕ) → Option ℕ
signal_of (w ∷ []) = signal_word w
signal_of _ = None

-- ---- sets

-- a set that is told by what it lacks
abbrev pub all_but : (List ℕ → Option ℕ) → ℕ → List (List ℕ) → Option ℕ
all_but named every names = option_map (minus_word every) (with_entries named 0 names)

-- what follows `all`: nothing, or `but` and names
unfoldable pub all_from : (List ℕ → Option ℕ) → ℕ → List (List ℕ) → Option ℕ
all_from named every [] = Some every
all_from named every (w ∷ names) = if bytes_eq w (codes "but") then all_but named every names else None

-- a set: `none`, `all`, `all but` names, or names
unfoldable pub set_of : (List ℕ → Option ℕ) → ℕ → List (List ℕ) → Option ℕ
set_of named every [] = None
set_of named every (w ∷ names) =
    if bytes_eq w (codes "all") then all_from named every names
    else (if bytes_eq w (codes "none") && length names == 0 then Some 0
    else with_entries named 0 (w ∷ names))

-- ---- flags

-- a flag by name
unfoldable pub is_word : List ℕ → List ℕ → Bool
is_word name w = bytes_eq w name

-- the bit of a flag, where it is among the operands
unfoldable pub bit_of : List (List ℕ) → List ℕ → ℕ → ℕ
bit_of ops name bit = if list_any (is_word name) ops then bit else 0

unfoldable pub is_run_flag : List ℕ → Bool
is_run_flag w =
    bytes_eq w (codes "PRCSIG") || (bytes_eq w (codes "PRCFAULT") || (bytes_eq w (codes "PRSTEP")
    || (bytes_eq w (codes "PRSABORT") || bytes_eq w (codes "PRSTOP"))))

-- run flags: any of them, or none
unfoldable pub run_flags_of : List (List ℕ) → Option ℕ
run_flags_of ops =
    if list_all is_run_flag ops then Some (bit_of ops (codes "PRCSIG") 1 + bit_of ops (codes "PRCFAULT") 2
    + bit_of ops (codes "PRSTEP") 4 + bit_of ops (codes "PRSABORT") 8 + bit_of ops (codes "PRSTOP") 16)
    else None

unfoldable pub is_mode : List ℕ → Bool
is_mode w =
    bytes_eq w (codes "FORK") || (bytes_eq w (codes "RLC") || (bytes_eq w (codes "KLC") || bytes_eq w (codes "ASYNC")))

-- modes
unfoldable pub modes_of : List (List ℕ) → Option ℕ
modes_of ops =
    if list_all is_mode ops then Some (bit_of ops (codes "FORK") 1 + bit_of ops (codes "RLC") 2
    + bit_of ops (codes "KLC") 4 + bit_of ops (codes "ASYNC") 8)
    else None
