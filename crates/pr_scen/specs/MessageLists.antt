-- Operands of messages: sets, modes and run flags.
use Rattle.std.specs.Prelude.{ℕ, Option, Some, None, List, [], ◌∷◌, codes, option_and_then, Result, Ok, Err, if◌then◌else◌}
use Rattle.std.specs.List.{list_all}
use Rattle.std.specs.Str.{bytes_eq}
use Rattle.pr_num.specs.Control.{clear_signal, clear_fault, single_step, abort_call, stop_again, fork_mode, rlc_mode, klc_mode, async_mode}
use Rattle.pr_num.specs.Sets.{union_word}
use Rattle.pr_line.specs.Entries.{with_entries}
use Rattle.pr_text.specs.Lists.{parts_of}
use Rattle.pr_text.specs.Names.{is_name}
use Rattle.pr_text.specs.Steps.{ok_or}
use Rattle.pr_scen.specs.declared.refusals.ScenKind.{ScenKind}
use Rattle.pr_scen.specs.declared.refusals.ScenKind.TheVariants.{BadOperand, UnknownName}

-- ---- sets

-- names that are joined: each has the form of a name, and stands for an entry of the table
unfoldable pub named_set : (List ℕ → Option ℕ) → List (List ℕ) → Result ℕ ScenKind
named_set named names =
    if list_all is_name names then ok_or UnknownName (with_entries named 0 names) else Err BadOperand

-- the set of a list: `none`, `all`, or names joined by +
unfoldable pub set_of : (List ℕ → Option ℕ) → ℕ → List ℕ → Result ℕ ScenKind
set_of named every word =
    if bytes_eq word (codes "none") then Ok 0
    else (if bytes_eq word (codes "all") then Ok every
    else named_set named (parts_of word))

-- ---- modes and run flags

-- the mode of a name (proc(4), "PCSET")
unfoldable pub mode_word : List ℕ → Option ℕ
mode_word name =
    if bytes_eq name (codes "fork") then Some fork_mode
    else (if bytes_eq name (codes "rlc") then Some rlc_mode
    else (if bytes_eq name (codes "klc") then Some klc_mode
    else (if bytes_eq name (codes "async") then Some async_mode
    else None)))

-- modes with those of more names
unfoldable pub with_modes : ℕ → List (List ℕ) → Option ℕ
with_modes modes [] = Some modes
with_modes modes (name ∷ names) = option_and_then (λ m. with_modes (union_word modes m) names) (mode_word name)

-- the modes of names that are joined by +
unfoldable pub modes_of : List ℕ → Option ℕ
modes_of word = with_modes 0 (parts_of word)

-- the run flag of a word (proc(4), "PCRUN")
unfoldable pub flag_of : List ℕ → Option ℕ
flag_of word =
    if bytes_eq word (codes "prcsig") then Some clear_signal
    else (if bytes_eq word (codes "prcfault") then Some clear_fault
    else (if bytes_eq word (codes "prstep") then Some single_step
    else (if bytes_eq word (codes "prsabort") then Some abort_call
    else (if bytes_eq word (codes "prstop") then Some stop_again
    else None))))
