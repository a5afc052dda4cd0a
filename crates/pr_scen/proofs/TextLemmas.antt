-- Texts are read as they are encoded.
use Rattle.std.proofs.Common.{◌≡◌, ℕ, ◌+◌, Bool, true, false, ◌||◌, List, [], ◌∷◌, ◌++◌, length, map, Result, Ok, Err, refl, sym, ◌∙◌, ap, subst, arith, codes}
use Rattle.std.specs.List.{AllByRecursion, flat_map, join_with_byte}
use Rattle.std.proofs.lemmas.Slice.Eq.{bytes_eq-Decides}
use Rattle.pr_asm.proofs.SpellingLemmas.{read_spelled, reads_spelled, lines-inline}
use Rattle.pr_asm.specs.Assembly.{assembled, program_in}
use Rattle.pr_asm.specs.Mnemonics.{mnemonic_name}
use Rattle.pr_asm.specs.Names.{label_of}
use Rattle.pr_asm.specs.Spelling.{spelled, IsStatement}
use Rattle.pr_asm.specs.Statements.{instruction_of, statement_with, label_or, statement_in, statement_of}
use Rattle.pr_asm.specs.declared.refusals.AsmKind.TheVariants.{UnknownWord}
use Rattle.pr_asm.specs.declared.statements.Statement.{Statement}
use Rattle.pr_text.specs.Comments.{begins_comment}
use Rattle.pr_text.specs.Names.{is_name, is_name_byte}
use Rattle.pr_text.specs.SpacedWords.{behind_blank}
use Rattle.pr_text.specs.Steps.{◌>>=◌, folded}
use Rattle.pr_text.specs.TextLines.{newline}
use Rattle.pr_text.specs.Words.{words_from, texts_of}
use Rattle.pr_text.proofs.SpacedLemmas.{IsInline, plain_token, texts_of-spaced, spaced-inline, lines_of-joined}
use Rattle.pr_scen.proofs.DivisionLemmas.{joined}
use Rattle.pr_scen.proofs.EncodingLemmas.{item_tokens, item_read, line_tokens, line_read}
use Rattle.pr_scen.specs.Blocks.{numbered, item_in, line_added, begun, nothing_more, ended, all_readable, first_of_both, program_read, program_added, script_line_read, script_added, block_added, part_added, parts_added}
use Rattle.pr_scen.specs.Division.{lines_in, ArePartsFrom}
use Rattle.pr_scen.specs.Drafts.{nothing, with_item, may_begin, with_program, script_line_added, with_script}
use Rattle.pr_scen.specs.Encoding.{item_words, IsItem, line_words, IsLine}
use Rattle.pr_scen.specs.Items.{item_of}
use Rattle.pr_scen.specs.Lines.{is_ascii, readable, first_is, is_end}
use Rattle.pr_scen.specs.Parts.{Part, line, block, begins_block, parts_from, parts_of}
use Rattle.pr_scen.specs.Reading.{draft_in, finished, scenario_in, scenario_of}
use Rattle.pr_scen.specs.ScriptLines.{script_line_of}
use Rattle.pr_scen.specs.TextEncoding.{Piece, outside, program, script, item_line, script_line, end_line, piece_lines, text_of_pieces, IsOutside, IsSpelled, IsReadable, IsPiece, call_read, piece_added, pieces_added}
use Rattle.pr_scen.specs.declared.drafts.Draft.{Draft}
use Rattle.pr_scen.specs.declared.items.Item.{Item}
use Rattle.pr_scen.specs.declared.items.Item.TheVariants as item
use Rattle.pr_scen.specs.Refusals.{ScenFault}
use Rattle.pr_scen.specs.declared.refusals.ScenKind.{ScenKind}
use Rattle.pr_scen.specs.declared.script_lines.ScriptLine.{ScriptLine}
use Rattle.pr_scen.specs.declared.script_lines.ScriptLine.TheVariants as call

-- ---- no line in a block ends it

end_is_unknown : (operands : List (List ℕ)) → statement_in (codes "end" ∷ operands) ≡ Err UnknownWord
unfolding begins_comment statement_in label_of is_name is_name_byte label_or statement_with instruction_of mnemonic_name
end_is_unknown operands = refl

words_of_end : (ws : List (List ℕ)) → first_is (codes "end") ws ≡ true → statement_in ws ≡ Err UnknownWord
words_of_end [] h = cc
words_of_end (first ∷ operands) h =
    ap (λ w. statement_in (w ∷ operands)) ((bytes_eq-Decides first (codes "end")).0 h) ∙ end_is_unknown operands

end_refused : (this : List ℕ) → is_end this ≡ true → statement_of this ≡ Err UnknownWord
unfolding is_end statement_of
end_refused this h = words_of_end (texts_of this) h

spelled_inside : (s : Statement) → IsStatement s → is_end (spelled s) ≡ false
spelled_inside s h = at (is_end (spelled s)) refl
  where
    at : (b : Bool) → is_end (spelled s) ≡ b → b ≡ false
    at true e = let no : Err UnknownWord ≡ Ok s = sym (end_refused (spelled s) e) ∙ read_spelled s h in cc
    at false e = refl

words_inside : (l : ScriptLine) → first_is (codes "end") (line_words l) ≡ false
unfolding line_words
words_inside (call.Open name pid lwp file mode) = refl
words_inside (call.Close name) = refl
words_inside (call.Read name at len) = refl
words_inside (call.Poll names) = refl
words_inside (call.Write name bytes) = refl
words_inside (call.Interrupt controller) = refl
words_inside (call.Spawn name false) = refl
words_inside (call.Spawn name true) = refl
words_inside (call.Kill pid sig) = refl
words_inside (call.Until moment) = refl
words_inside call.List = refl

line_inside : (l : ScriptLine) → IsLine l → is_end (script_line l) ≡ false
unfolding is_end
line_inside l h = ap (first_is (codes "end")) (texts_of-spaced (line_words l) (line_tokens l h)) ∙ words_inside l

-- ---- lines that begin and end blocks

abbrev begins : List (List ℕ) → Bool
begins ws = first_is (codes "program") ws || first_is (codes "script") ws

outside_words : (i : Item) → IsItem i → IsOutside i → begins (item_words i) ≡ false
unfolding item_words IsItem
outside_words item.Blank h o = refl
outside_words (item.Turns n) h o = refl
outside_words (item.File name bytes) h o = refl
outside_words (item.Program name) h o = absurd o
outside_words (item.Spawn name) h o = refl
outside_words item.Script h o = absurd o
outside_words (item.Truss asked) h o = absurd h
outside_words (item.Tool kind pid) h o = refl
outside_words (item.Gcore pid) h o = refl
outside_words (item.Probe pid) h o = refl
outside_words (item.Schedule turns) h o = refl

begins_as : (i : Item) (b : Bool) → IsItem i → begins (item_words i) ≡ b → begins_block (item_line i) ≡ b
unfolding begins_block
begins_as i b h is = ap begins (texts_of-spaced (item_words i) (item_tokens i h)) ∙ is

end_words : texts_of end_line ≡ codes "end" ∷ []
end_words = texts_of-spaced (codes "end" ∷ []) (plain_token (codes "end") (omega arith) refl, tt)

end_ends : is_end end_line ≡ true
unfolding is_end
end_ends = ap (first_is (codes "end")) end_words

end_accepted : ended end_line ≡ Ok tt
unfolding ended readable is_ascii behind_blank
end_accepted = ap nothing_more end_words

-- ---- the parts of the lines of pieces

abbrev part_of : ℕ → Piece → Part
part_of n (outside i) = line n (item_line i)
part_of n (program name statements) = block n (item_line (item.Program name)) (map spelled statements) end_line
part_of n (script lines) = block n (item_line item.Script) (map script_line lines) end_line

abbrev parts_at : ℕ → List Piece → List Part
parts_at n [] = []
parts_at n (p ∷ pieces) = part_of n p ∷ parts_at (n + length (piece_lines p)) pieces

same_lines : (n : ℕ) (p : Piece) → lines_in (part_of n p) ≡ piece_lines p
unfolding piece_lines
same_lines n (outside i) = refl
same_lines n (program name statements) = refl
same_lines n (script lines) = refl

all_lines : (n : ℕ) (pieces : List Piece) → flat_map lines_in (parts_at n pieces) ≡ flat_map piece_lines pieces
all_lines n [] = refl
all_lines n (p ∷ pieces) =
    ap (λ ls. ls ++ flat_map lines_in (parts_at (n + length (piece_lines p)) pieces)) (same_lines n p)
    ∙ ap (λ ls. piece_lines p ++ ls) (all_lines (n + length (piece_lines p)) pieces)

inside_statements : (ss : List Statement) → AllByRecursion IsStatement ss
    → AllByRecursion (λ this. is_end this ≡ false) (map spelled ss)
inside_statements [] h = tt
inside_statements (s ∷ ss) h = (spelled_inside s h.0, inside_statements ss h.1)

inside_script : (ls : List ScriptLine) → AllByRecursion IsLine ls
    → AllByRecursion (λ this. is_end this ≡ false) (map script_line ls)
inside_script [] h = tt
inside_script (l ∷ ls) h = (line_inside l h.0, inside_script ls h.1)

next : (n : ℕ) (p : Piece) (pieces : List Piece)
    → ArePartsFrom (n + length (piece_lines p)) (parts_at (n + length (piece_lines p)) pieces)
    → ArePartsFrom (n + length (lines_in (part_of n p))) (parts_at (n + length (piece_lines p)) pieces)
next n p pieces h =
    subst (λ ls. ArePartsFrom (n + length ls) (parts_at (n + length (piece_lines p)) pieces)) (sym (same_lines n p)) h

are_parts : (n : ℕ) (pieces : List Piece) → AllByRecursion IsSpelled pieces → ArePartsFrom n (parts_at n pieces)
unfolding ArePartsFrom IsSpelled IsItem item_words
are_parts n [] h = tt
are_parts n (outside i ∷ pieces) h = (
  (refl, begins_as i false h.0.0 (outside_words i h.0.0 h.0.1)),
  next n (outside i) pieces (are_parts (n + length (piece_lines (outside i))) pieces h.1),
)
are_parts n (program name statements ∷ pieces) h = (
  (refl, begins_as (item.Program name) true h.0.0 refl, inside_statements statements h.0.1, end_ends),
  next n (program name statements) pieces
      (are_parts (n + length (piece_lines (program name statements))) pieces h.1),
)
are_parts n (script lines ∷ pieces) h = (
  (refl, begins_as item.Script true tt refl, inside_script lines h.0, end_ends),
  next n (script lines) pieces (are_parts (n + length (piece_lines (script lines))) pieces h.1),
)

-- ---- what a piece makes

same_then : {A B E : Type 0} (r : Result A E) (f g : A → Result B E) → ((x : A) → f x ≡ g x) → r >>= f ≡ r >>= g
same_then (Ok x) f g same = same x
same_then (Err e) f g same = refl

item_is : (i : Item) → IsItem i → IsReadable (item_line i) → item_in (item_line i) ≡ Ok i
item_is i h reads = ap (λ r. r >>= (λ _. item_of (texts_of (item_line i)))) reads ∙ item_read i h

-- a block may begin, or is refused at its first line
may_then : {A : Type 0} (n : ℕ) (i : Item) (r : Result (Unit {0}) ScenKind) (f : Item → Result A ScenFault)
    → numbered n (r >>= (λ _. Ok i)) >>= f ≡ numbered n r >>= (λ _. f i)
may_then n i (Ok u) f = refl
may_then n i (Err k) f = refl

begun_is : {A : Type 0} (n : ℕ) (d : Draft) (i : Item) (f : Item → Result A ScenFault) → IsItem i
    → IsReadable (item_line i) → numbered n (begun d (item_line i)) >>= f ≡ numbered n (may_begin d i) >>= (λ _. f i)
unfolding begun
begun_is n d i f h reads =
    ap (λ r. numbered n (r >>= (λ j. may_begin d j >>= (λ _. Ok j))) >>= f) (item_is i h reads)
    ∙ may_then n i (may_begin d i) f

body_readable : (n : ℕ) (body rest : List (List ℕ)) → AllByRecursion IsReadable (body ++ rest)
    → all_readable n body ≡ Ok tt
unfolding all_readable
body_readable n [] rest h = refl
body_readable n (this ∷ body) rest h =
    ap (λ r. numbered n r >>= (λ _. all_readable (n + 1) body)) h.0 ∙ body_readable (n + 1) body rest h.1

program_is : (n : ℕ) (d : Draft) (name : List ℕ) (ss : List Statement) → AllByRecursion IsStatement ss
    → AllByRecursion IsReadable (map spelled ss ++ end_line ∷ [])
    → program_added n d name (map spelled ss) end_line
    ≡ first_of_both (Ok tt) (assembled name (n + 1) (map Ok ss)) >>= (λ p. Ok (with_program d name p))
unfolding program_added program_read
program_is n d name ss h reads =
    ap (λ r. first_of_both r (program_in name (map spelled ss) (n + 1))
    >>= (λ p. numbered (n + (length (map spelled ss) + 1)) (ended end_line) >>= (λ _. Ok (with_program d name p))))
    (body_readable (n + 1) (map spelled ss) (end_line ∷ []) reads)
    ∙ ap (λ rs. first_of_both (Ok tt) (assembled name (n + 1) rs)
    >>= (λ p. numbered (n + (length (map spelled ss) + 1)) (ended end_line) >>= (λ _. Ok (with_program d name p))))
    (reads_spelled ss h)
    ∙ ap (λ e. first_of_both (Ok tt) (assembled name (n + 1) (map Ok ss))
    >>= (λ p. numbered (n + (length (map spelled ss) + 1)) e >>= (λ _. Ok (with_program d name p)))) end_accepted

call_is : (n : ℕ) (d : Draft) (l : ScriptLine) → IsLine l → IsReadable (script_line l)
    → script_line_read n d (script_line l) ≡ call_read n d l
unfolding script_line_read script_line_added
call_is n d l h reads =
    ap (λ r. numbered n (r >>= (λ _. script_line_of (texts_of (script_line l)) >>= script_line_added d))) reads
    ∙ ap (λ r. numbered n (r >>= script_line_added d)) (line_read l h)

calls_are : (n : ℕ) (d : Draft) (ls : List ScriptLine) (rest : List (List ℕ)) → AllByRecursion IsLine ls
    → AllByRecursion IsReadable (map script_line ls ++ rest)
    → folded script_line_read n d (map script_line ls) ≡ folded call_read n d ls
unfolding folded
calls_are n d [] rest h reads = refl
calls_are n d (l ∷ ls) rest h reads =
    ap (λ r. r >>= (λ e. folded script_line_read (n + 1) e (map script_line ls))) (call_is n d l h.0 reads.0)
    ∙ same_then (call_read n d l) _ _ (λ e. calls_are (n + 1) e ls rest h.1 reads.1)

script_is : (n : ℕ) (d : Draft) (ls : List ScriptLine) → AllByRecursion IsLine ls
    → AllByRecursion IsReadable (map script_line ls ++ end_line ∷ [])
    → script_added n d (map script_line ls) end_line ≡ folded call_read (n + 1) d ls >>= (λ e. Ok (with_script e))
unfolding script_added
script_is n d ls h reads =
    ap (λ r. r
    >>= (λ e. numbered (n + (length (map script_line ls) + 1)) (ended end_line) >>= (λ _. Ok (with_script e))))
    (calls_are (n + 1) d ls (end_line ∷ []) h reads)
    ∙ ap (λ q. folded call_read (n + 1) d ls
    >>= (λ e. numbered (n + (length (map script_line ls) + 1)) q >>= (λ _. Ok (with_script e)))) end_accepted

piece_is : (n : ℕ) (d : Draft) (p : Piece) → IsPiece p → part_added d (part_of n p) ≡ piece_added n d p
unfolding part_added line_added block_added piece_added piece_lines IsSpelled IsItem readable
piece_is n d (outside i) h = ap (λ r. numbered n (r >>= with_item d)) (item_is i h.0.0 h.1.0)
piece_is n d (program name ss) h =
    begun_is n d (item.Program name) (λ i. block_added n d i (map spelled ss) end_line) h.0.0 h.1.0
    ∙ same_then (numbered n (may_begin d (item.Program name))) _ _ (λ _. program_is n d name ss h.0.1 h.1.1)
piece_is n d (script ls) h =
    begun_is n d item.Script (λ i. block_added n d i (map script_line ls) end_line) tt h.1.0
    ∙ same_then (numbered n (may_begin d item.Script)) _ _ (λ _. script_is n d ls h.0 h.1.1)

pieces_are : (n : ℕ) (d : Draft) (pieces : List Piece) → AllByRecursion IsPiece pieces
    → parts_added d (parts_at n pieces) ≡ pieces_added n d pieces
unfolding parts_added pieces_added
pieces_are n d [] h = refl
pieces_are n d (p ∷ pieces) h =
    ap (λ r. r >>= (λ e. parts_added e (parts_at (n + length (piece_lines p)) pieces))) (piece_is n d p h.0)
    ∙ same_then (piece_added n d p) _ _ (λ e. pieces_are (n + length (piece_lines p)) e pieces h.1)

-- ---- the text

inline_after : (xs ys : List (List ℕ)) → AllByRecursion IsInline xs → AllByRecursion IsInline ys
    → AllByRecursion IsInline (xs ++ ys)
inline_after [] ys h more = more
inline_after (x ∷ xs) ys h more = (h.0, inline_after xs ys h.1 more)

script_inline : (ls : List ScriptLine) → AllByRecursion IsLine ls → AllByRecursion IsInline (map script_line ls)
script_inline [] h = tt
script_inline (l ∷ ls) h = (spaced-inline (line_words l) (line_tokens l h.0), script_inline ls h.1)

end_inline : AllByRecursion IsInline (end_line ∷ [])
end_inline = (spaced-inline (codes "end" ∷ []) (plain_token (codes "end") (omega arith) refl, tt), tt)

piece_inline : (p : Piece) → IsSpelled p → AllByRecursion IsInline (piece_lines p)
unfolding piece_lines IsSpelled IsItem
piece_inline (outside i) h = (spaced-inline (item_words i) (item_tokens i h.0), tt)
piece_inline (program name ss) h = (
  spaced-inline (item_words (item.Program name)) (item_tokens (item.Program name) h.0),
  inline_after (map spelled ss) _ (lines-inline ss h.1) end_inline,
)
piece_inline (script ls) h = (
  spaced-inline (item_words item.Script) (item_tokens item.Script tt),
  inline_after (map script_line ls) _ (script_inline ls h) end_inline,
)

pieces_inline : (pieces : List Piece) → AllByRecursion IsPiece pieces
    → AllByRecursion IsInline (flat_map piece_lines pieces)
pieces_inline [] h = tt
pieces_inline (p ∷ pieces) h = inline_after (piece_lines p) _ (piece_inline p h.0.0) (pieces_inline pieces h.1)

are_spelled : (pieces : List Piece) → AllByRecursion IsPiece pieces → AllByRecursion IsSpelled pieces
are_spelled [] h = tt
are_spelled (p ∷ pieces) h = (h.0.0, are_spelled pieces h.1)

-- a text without lines is one empty line, which says nothing
empty_read : scenario_of [] ≡ finished nothing
unfolding scenario_in draft_in parts_from begins_block words_from parts_added part_added line_added readable is_ascii
    item_of with_item
empty_read = refl

lines_read : (pieces : List Piece) → AllByRecursion IsPiece pieces
    → scenario_in (flat_map piece_lines pieces) ≡ pieces_added 1 nothing pieces >>= finished
unfolding scenario_in draft_in
lines_read pieces h =
    ap (λ ls. parts_added nothing (parts_of ls) >>= finished) (sym (all_lines 1 pieces))
    ∙ ap (λ ps. parts_added nothing ps >>= finished)
    (joined 1 (parts_at 1 pieces) (are_parts 1 pieces (are_spelled pieces h)))
    ∙ ap (λ r. r >>= finished) (pieces_are 1 nothing pieces h)

some_lines : (ls : List (List ℕ)) → AllByRecursion IsInline ls
    → scenario_of (join_with_byte newline ls) ≡ scenario_in ls
unfolding scenario_in draft_in parts_from parts_added
some_lines [] h = empty_read
some_lines (l ∷ ls) h = ap scenario_in (lines_of-joined l ls h)

pub text_read : (pieces : List Piece) → AllByRecursion IsPiece pieces
    → scenario_of (text_of_pieces pieces) ≡ pieces_added 1 nothing pieces >>= finished
text_read pieces h = some_lines (flat_map piece_lines pieces) (pieces_inline pieces h) ∙ lines_read pieces h
