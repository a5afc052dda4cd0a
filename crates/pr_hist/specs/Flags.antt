-- Flags by name, each with a blank before it. Where a word has a bit that is no flag, the word stands in hex.
use Rattle.std.specs.Prelude.{ℕ, ◌==◌, ◌/◌, ◌%◌, List, [], ◌++◌, codes, nat_lt, if◌then◌else◌}
use Rattle.pr_text.specs.Numerals.{hex_text}

-- a flag by name, where it is set
unfoldable pub flag_text : ℕ → ℕ → List ℕ → List ℕ
flag_text word bit name = if word / bit % 2 == 1 then codes " " ++ name else []

-- the words of flags below a bound, and the hex of all others
abbrev pub below_or_hex : ℕ → ℕ → List ℕ → List ℕ
below_or_hex bound word names = if nat_lt word bound then names else codes " " ++ hex_text word

-- what PCRUN is asked for
unfoldable pub run_flags_text : ℕ → List ℕ
run_flags_text w =
    below_or_hex 32 w (flag_text w 1 (codes "PRCSIG") ++ flag_text w 2 (codes "PRCFAULT")
    ++ flag_text w 4 (codes "PRSTEP") ++ flag_text w 8 (codes "PRSABORT") ++ flag_text w 16 (codes "PRSTOP"))

-- modes of a process
abbrev pub mode_names : ℕ → List ℕ
mode_names w =
    flag_text w 1 (codes "FORK") ++ flag_text w 2 (codes "RLC") ++ flag_text w 4 (codes "KLC")
    ++ flag_text w 8 (codes "ASYNC")

unfoldable pub modes_text : ℕ → List ℕ
modes_text w = below_or_hex 16 w (mode_names w)

-- flags of a process: its modes, and two more
unfoldable pub process_flags_text : ℕ → List ℕ
process_flags_text w =
    below_or_hex 64 w (mode_names w ++ flag_text w 16 (codes "ISSYS") ++ flag_text w 32 (codes "VFORKP"))

-- flags of an lwp
unfoldable pub lwp_flags_text : ℕ → List ℕ
lwp_flags_text w =
    below_or_hex 64 w (flag_text w 1 (codes "STOPPED") ++ flag_text w 2 (codes "ISTOP") ++ flag_text w 4 (codes "DSTOP")
    ++ flag_text w 8 (codes "STEP") ++ flag_text w 16 (codes "ASLEEP") ++ flag_text w 32 (codes "AGENT"))

-- flags of a watched area
unfoldable pub watch_flags_text : ℕ → List ℕ
watch_flags_text w =
    below_or_hex 16 w (flag_text w 1 (codes "READ") ++ flag_text w 2 (codes "WRITE") ++ flag_text w 4 (codes "EXEC")
    ++ flag_text w 8 (codes "TRAPAFTER"))

-- the protection of a mapping
unfoldable pub protection_text : ℕ → List ℕ
protection_text w =
    below_or_hex 8 w (flag_text w 4 (codes "read") ++ flag_text w 2 (codes "write") ++ flag_text w 1 (codes "execute"))
