-- The text that encodes a scenario: lines outside blocks and whole blocks, one after another.
use Rattle.std.specs.Prelude.{◌≡◌, ◌+◌, ℕ, true, List, [], ◌∷◌, ◌++◌, codes, length, map, Result, Ok}
use Rattle.std.specs.List.{AllByRecursion, flat_map, join_with_byte}
use Rattle.pr_asm.specs.Assembly.{assembled}
use Rattle.pr_asm.specs.Spelling.{spelled, IsStatement}
use Rattle.pr_asm.specs.declared.statements.Statement.{Statement}
use Rattle.pr_text.specs.Names.{is_name}
use Rattle.pr_text.specs.SpacedWords.{spaced}
use Rattle.pr_text.specs.Steps.{◌>>=◌, folded}
use Rattle.pr_text.specs.TextLines.{newline}
use Rattle.pr_scen.specs.Blocks.{numbered, first_of_both}
use Rattle.pr_scen.specs.Drafts.{nothing, with_item, may_begin, with_program, call_added, with_script}
use Rattle.pr_scen.specs.Encoding.{item_words, IsItem, line_words, IsLine}
use Rattle.pr_scen.specs.Lines.{readable}
use Rattle.pr_scen.specs.Reading.{finished}
use Rattle.pr_scen.specs.Scenarios.{Scenario}
use Rattle.pr_scen.specs.declared.drafts.Draft.{Draft}
use Rattle.pr_scen.specs.declared.items.Item.{Item}
use Rattle.pr_scen.specs.declared.items.Item.TheVariants as item
use Rattle.pr_scen.specs.Refusals.{ScenFault}
use Rattle.pr_scen.specs.declared.script_lines.ScriptLine.{ScriptLine}

-- What a text is made of: a line outside blocks, the block of a program with its name and its statements, and the block
-- of a script with its lines.
pub data Piece : Type 0 where
  outside : Item → Piece
  program : List ℕ → List Statement → Piece
  script : List ScriptLine → Piece

-- ---- as lines

abbrev pub item_line : Item → List ℕ
item_line i = spaced (item_words i)

abbrev pub script_line : ScriptLine → List ℕ
script_line l = spaced (line_words l)

abbrev pub end_line : List ℕ
end_line = spaced (codes "end" ∷ [])

unfoldable pub piece_lines : Piece → List (List ℕ)
piece_lines (outside i) = item_line i ∷ []
piece_lines (program name statements) = item_line (item.Program name) ∷ (map spelled statements ++ end_line ∷ [])
piece_lines (script lines) = item_line item.Script ∷ (map script_line lines ++ end_line ∷ [])

-- the text of pieces, a line after another
abbrev pub text_of_pieces : List Piece → List ℕ
text_of_pieces pieces = join_with_byte newline (flat_map piece_lines pieces)

-- ---- what can be encoded

-- an item that begins no block
abbrev pub IsOutside : Item → Type 0
IsOutside (item.Program name) = ⊥
IsOutside item.Script = ⊥
IsOutside _ = Unit {0}

unfoldable pub IsSpelled : Piece → Type 0
IsSpelled (outside i) = IsItem i × IsOutside i
IsSpelled (program name statements) = (is_name name ≡ true) × AllByRecursion IsStatement statements
IsSpelled (script lines) = AllByRecursion IsLine lines

-- a line that is short enough, and of ASCII
abbrev pub IsReadable : List ℕ → Type 0
IsReadable this = readable this ≡ Ok tt

-- each word of a piece has its form, and each of its lines can be read
abbrev pub IsPiece : Piece → Type 0
IsPiece p = IsSpelled p × AllByRecursion IsReadable (piece_lines p)

-- ---- what pieces make

-- line n of a script block makes a call more, or is refused
abbrev pub call_read : ℕ → Draft → ScriptLine → Result Draft ScenFault
call_read n d l = numbered n (call_added d l)

-- what a piece that begins at line n makes of what was read, or its line that is refused
unfoldable pub piece_added : ℕ → Draft → Piece → Result Draft ScenFault
piece_added n d (outside i) = numbered n (with_item d i)
piece_added n d (program name statements) = do
  _ ← numbered n (may_begin d (item.Program name))
  made ← first_of_both (Ok tt) (assembled name (n + 1) (map Ok statements))
  Ok (with_program d name made)
piece_added n d (script lines) = do
  _ ← numbered n (may_begin d item.Script)
  e ← folded call_read (n + 1) d lines
  Ok (with_script e)

-- the same of pieces, one after another, from line n on
unfoldable pub pieces_added : ℕ → Draft → List Piece → Result Draft ScenFault
pieces_added n d [] = Ok d
pieces_added n d (p ∷ pieces) = piece_added n d p >>= λ e. pieces_added (n + length (piece_lines p)) e pieces

-- the scenario that they make, if each is accepted and built
abbrev pub scenario_of_pieces : List Piece → Result Scenario ScenFault
scenario_of_pieces pieces = pieces_added 1 nothing pieces >>= finished
