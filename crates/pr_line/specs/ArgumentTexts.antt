-- The arguments of a call in its line (truss(1)).
use Rattle.std.specs.Prelude.{◌==◌, ◌+◌, ℕ, Bool, true, false, Option, Some, None, List, [], ◌∷◌, ◌++◌, codes, decimal, position, slice_index, take, option_map, if◌then◌else◌}
use Rattle.std.specs.Borrow.{Bor}
use Rattle.pr_num.specs.declared.syscalls.ArgKind.{ArgKind}
use Rattle.pr_num.specs.declared.syscalls.ArgKind.TheVariants.{Dec, Hex, Text, Buf}
use Rattle.pr_text.specs.Numerals.{hex_text}
use Rattle.pr_text.specs.Quotes.{quoted_text}
use Rattle.pr_num.specs.Padding.{is_zero}

-- What a read of memory gave: the bytes that came, and whether they are fewer than were asked for. None: it was
-- refused, or was not made.
abbrev pub Came : Type 0
Came = Option (List ℕ × Bool)

-- the same, of what is lent
abbrev pub came_of : Option (Bor (List ℕ) × Bool) → Came
came_of text = option_map (λ t. (t.0.now, t.1)) text

-- A text in quotes: the bytes before the first zero byte, or all that came where none is zero; then the text goes on.
abbrev pub text_before : List ℕ → Option ℕ → List ℕ
text_before bytes None = quoted_text bytes true
text_before bytes (Some end) = quoted_text (take end bytes) false

-- an argument that is the address of a text
unfoldable pub text_argument : Came → ℕ → List ℕ
text_argument None address = hex_text address
text_argument (Some came) address = text_before came.0 (position is_zero came.0)

-- the bytes of a buffer in quotes, which goes on where fewer came than were asked for
abbrev pub bytes_argument : Came → ℕ → List ℕ
bytes_argument None address = hex_text address
bytes_argument (Some came) address = quoted_text came.0 came.1

-- an argument that is the address of a buffer, which shows so many bytes
unfoldable pub buffer_argument : Option ℕ → Came → ℕ → List ℕ
buffer_argument None text address = hex_text address
buffer_argument (Some size) text address = if size == 0 then quoted_text [] false else bytes_argument text address

-- an argument, a row a kind
unfoldable pub argument_text : Option ℕ → Came → ArgKind → ℕ → List ℕ
argument_text size text Dec value = decimal value
argument_text size text Hex value = hex_text value
argument_text size text Text value = text_argument text value
argument_text size text Buf value = buffer_argument size text value

-- what stands before an argument
abbrev pub separator : ℕ → List ℕ
separator place = if place == 0 then [] else codes ", "

-- the arguments of these kinds, the first of which is that of a place
unfoldable pub arguments_text : Option ℕ → Came → List ℕ → List ArgKind → ℕ → List ℕ
arguments_text size text arguments [] place = []
arguments_text size text arguments (kind ∷ kinds) place =
    separator place ++ argument_text size text kind (slice_index arguments place)
    ++ arguments_text size text arguments kinds (place + 1)
