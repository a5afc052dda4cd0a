-- The text of psig(1): what a process does at each signal.
use Rattle.std.specs.Prelude.{◌*◌, ℕ, ◌==◌, List, [], ◌∷◌, ◌++◌, length, codes, if◌then◌else◌}
use Rattle.pr_num.specs.Limits.{signal_count}
use Rattle.pr_num.specs.Signals.{signals, signal_name}
use Rattle.pr_num.specs.declared.signals.Sig.{Sig}
use Rattle.pr_rec.specs.Fields.{front_words, disposition_of}
use Rattle.pr_rec.specs.declared.lwps.Disposition.{Disposition}
use Rattle.pr_rec.specs.declared.lwps.Disposition.TheVariants.{Default, Ignored, Caught}
use Rattle.pr_text.specs.Numerals.{hex_text}
use Rattle.pr_tools.specs.Texts.{header, line_end}

-- what is done at a signal; where it is caught, the address of its handler
unfoldable pub disposition_text : ℕ → Disposition → List ℕ
disposition_text word Default = codes "default"
disposition_text word Ignored = codes "ignored"
disposition_text word Caught = codes "caught " ++ hex_text word

-- the line of a signal
unfoldable pub signal_line : Sig → ℕ → List ℕ
signal_line signal word =
    codes " " ++ signal_name signal ++ codes " " ++ disposition_text word (disposition_of word) ++ line_end

-- the lines of signals, each with its word
abbrev pub signal_lines : List Sig → List ℕ → List ℕ
signal_lines [] words = []
signal_lines (s ∷ ss) [] = []
signal_lines (s ∷ ss) (w ∷ ws) = signal_line s w ++ signal_lines ss ws

-- the text of a process, of its dispositions; they are malformed where they are not a word for each signal
unfoldable pub psig_text : ℕ → List ℕ → List ℕ
psig_text pid bytes =
    header pid
    ++ (if length bytes == 8 * signal_count then signal_lines signals (front_words signal_count bytes) else [])
