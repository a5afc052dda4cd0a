-- How the words of a line are read, one after another: each step takes words off the front, or finds no such words
-- there.
use Rattle.std.specs.Prelude.{ℕ, Bool, Option, Some, None, List, [], ◌∷◌, is_none, if◌then◌else◌}
use Rattle.std.specs.Str.{bytes_eq}
use Rattle.pr_num.specs.declared.errnos.Errno.{Errno}
use Rattle.pr_num.specs.declared.faults.Flt.{Flt}
use Rattle.pr_num.specs.declared.signals.Sig.{Sig}
use Rattle.pr_num.specs.declared.syscalls.Sysno.{Sysno}
use Rattle.pr_num.specs.Errnos.{errno_of_name}
use Rattle.pr_num.specs.Faults.{fault_of_name}
use Rattle.pr_num.specs.Signals.{signal_name, signal_of_name}
use Rattle.pr_num.specs.Syscalls.{syscall_of_name}
use Rattle.pr_text.specs.Names.{name_of}
use Rattle.pr_model.specs.declared.calls.File.{File}
use Rattle.pr_model.specs.declared.calls.Mode.{Mode}
use Rattle.pr_plain.specs.DecimalWords.{decimal_of, decimal_id_of}
use Rattle.pr_model.specs.FileNames.{file_of_name, mode_of_name}
use Rattle.pr_plain.specs.HexWords.{bytes_of_word}
use Rattle.pr_plain.specs.Readings.{◌>>=◌}

-- the words of a line that are not yet read
abbrev pub Words : Type 0
Words = List (List ℕ)

-- the next word
unfoldable pub word_at : Words → Option (List ℕ × Words)
word_at [] = None
word_at (w ∷ ws) = Some (w, ws)

-- whether all words are read
abbrev pub is_done : Words → Bool
is_done ws = is_none (word_at ws)

-- what stands behind this word, where it is the next
unfoldable pub behind_word : List ℕ → Words → Option Words
behind_word k ws = do
  w ← word_at ws
  if bytes_eq w.0 k then Some w.1 else None

unfoldable pub number_at : Words → Option (ℕ × Words)
number_at ws = do
  w ← word_at ws
  n ← decimal_of w.0
  Some (n, w.1)

unfoldable pub id_at : Words → Option (ℕ × Words)
id_at ws = do
  w ← word_at ws
  n ← decimal_id_of w.0
  Some (n, w.1)

-- bytes in hex
unfoldable pub bytes_at : Words → Option (List ℕ × Words)
bytes_at ws = do
  w ← word_at ws
  bytes ← bytes_of_word w.0
  Some (bytes, w.1)

unfoldable pub syscall_at : Words → Option (Sysno × Words)
syscall_at ws = do
  w ← word_at ws
  c ← syscall_of_name w.0
  Some (c, w.1)

unfoldable pub fault_at : Words → Option (Flt × Words)
fault_at ws = do
  w ← word_at ws
  f ← fault_of_name w.0
  Some (f, w.1)

-- a signal by its whole name, with SIG
unfoldable pub signal_of : List ℕ → Option Sig
signal_of w = signal_of_name w >>= λ s. if bytes_eq w (signal_name s) then Some s else None

unfoldable pub signal_at : Words → Option (Sig × Words)
signal_at ws = do
  w ← word_at ws
  s ← signal_of w.0
  Some (s, w.1)

unfoldable pub errno_at : Words → Option (Errno × Words)
errno_at ws = do
  w ← word_at ws
  e ← errno_of_name w.0
  Some (e, w.1)

unfoldable pub file_at : Words → Option (File × Words)
file_at ws = do
  w ← word_at ws
  f ← file_of_name w.0
  Some (f, w.1)

unfoldable pub mode_at : Words → Option (Mode × Words)
mode_at ws = do
  w ← word_at ws
  m ← mode_of_name w.0
  Some (m, w.1)

-- a program, whose name has the form of a scenario's
unfoldable pub program_at : Words → Option (List ℕ × Words)
program_at ws = do
  w ← word_at ws
  name ← name_of w.0
  Some (name, w.1)
