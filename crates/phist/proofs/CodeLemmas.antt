-- A program has an instruction for each line of its block that is one, in their order.
use Rattle.std.proofs.Common.{◌≡◌, ℕ, ◌+◌, ◌-◌, Bool, true, false, cond, nat_lt, Option, Some, List, [], ◌∷◌, ◌++◌, length, map, option_and_then, slice_get, Result, Ok, Err, refl, sym, ap, ◌∙◌, append_assoc, append-nil, arith}
use Rattle.std.specs.Prelude.{nat_le}
use Rattle.std.specs.Result.{IfOk, result_ok}
use Rattle.std.proofs.lemmas.List.{length-append, map-append}
use Rattle.pr_asm.specs.Assembly.{assembled, code_added, data_added, filled, is_first, label_added, numbered, program_in, read_added, read_added_at, with_lines, with_statement}
use Rattle.pr_asm.specs.Limits.{program}
use Rattle.pr_asm.specs.Placing.{has_room}
use Rattle.pr_asm.specs.Statements.{statement_of}
use Rattle.pr_asm.specs.declared.places.Place.{Place}
use Rattle.pr_asm.specs.Refusals.{AsmFault}
use Rattle.pr_asm.specs.declared.refusals.AsmKind.{AsmKind}
use Rattle.pr_asm.specs.declared.statements.Statement.{Statement}
use Rattle.pr_asm.specs.declared.statements.Statement.TheVariants.{Blank, Label, Data, Code}
use Rattle.pr_num.specs.Limits.{code_limit}
use Rattle.pr_num.specs.Programs.{Program}
use Rattle.pr_num.specs.declared.instructions.Instruction.{Instruction}
use Rattle.pr_scen.proofs.StepLemmas.{if_ok, then_ok, of_ok}
use Rattle.pr_scen.specs.Blocks.{all_readable, first_of_both, program_read}
use Rattle.pr_scen.specs.Refusals.{ScenFault}
use Rattle.pr_text.specs.Steps.{folded}
use Rattle.phist.specs.Sources.{code_numbers, instruction_at, instruction_by, instruction_in, is_code, is_code_of, names_in}

-- the instructions of those of these lines that are some, where names stand in these places
abbrev pub coded : (List ℕ → Option Place) → List (List ℕ) → List (Option Instruction)
coded place_of [] = []
coded place_of (this ∷ below) =
    cond (is_code this) (instruction_in place_of this ∷ coded place_of below) (coded place_of below)

-- ---- what a program has of its lines

-- the instructions of a program are these, before others; and they are all
abbrev Begins : List (Option Instruction) → List (Option Instruction) → Program → Type 0
Begins all others p = map Some p.code ++ others ≡ all

abbrev Has : List (Option Instruction) → Program → Type 0
Has all p = map Some p.code ≡ all

-- one line more of a program
line-added : (place_of : List ℕ → Option Place) (line : ℕ) (p : Program) (read : Result Statement AsmKind)
    (all others : List (Option Instruction))
    → map Some p.code ++ cond (is_code_of read) (instruction_by place_of read ∷ others) others ≡ all
    → IfOk (read_added place_of line p read) (Begins all others)
unfolding with_statement label_added data_added code_added
line-added place_of line p (Err kind) all others is = tt
line-added place_of line p (Ok Blank) all others is = is
line-added place_of line p (Ok (Label name)) all others is =
    if_ok (Begins all others) (is_first place_of line name) _ _ (λ _. is) (λ _. tt)
line-added place_of line p (Ok (Data name bytes zeros)) all others is =
    if_ok (Begins all others) (is_first place_of line name) _ _
    (λ _. if_ok (Begins all others) (has_room (length p.bytes) (length bytes) zeros) _ _ (λ _. is) (λ _. tt))
    (λ _. tt)
line-added place_of line p (Ok (Code i name)) all others is =
    then_ok (Begins all others) (filled place_of i name) _
    (λ j made. if_ok (Begins all others) (nat_lt (length p.code) code_limit) _ _
    (λ _. ap (λ (codes : List (Option Instruction)). codes ++ others) (map-append Some p.code (j ∷ []))
    ∙ append_assoc (map Some p.code) (Some j ∷ []) others
    ∙ ap (λ (o : Option Instruction). map Some p.code ++ o ∷ others) (sym (ap result_ok made))
    ∙ is) (λ _. tt))

numbered-ok : {A : Type 0} (P : A → Type 0) (n : ℕ) (r : Result A AsmKind) → IfOk r P → IfOk (numbered n r) P
numbered-ok P n (Ok x) p = p
numbered-ok P n (Err kind) p = tt

-- all lines of a program
lines-added : (place_of : List ℕ → Option Place) (n : ℕ) (p : Program) (lines : List (List ℕ))
    (all : List (Option Instruction)) → map Some p.code ++ coded place_of lines ≡ all
    → IfOk (with_lines place_of n p (map statement_of lines)) (Has all)
unfolding folded is_code
lines-added place_of n p [] all is = sym (append-nil (map Some p.code)) ∙ is
lines-added place_of n p (this ∷ below) all is =
    let others = coded place_of below in
    then_ok (Has all) (read_added_at place_of n p (statement_of this)) _
    (λ q added. lines-added place_of (n + 1) q below all
    (of_ok (Begins all others) (read_added_at place_of n p (statement_of this)) q added
    (numbered-ok (Begins all others) n (read_added place_of n p (statement_of this))
    (line-added place_of n p (statement_of this) all others is))))

program-added : (name : List ℕ) (lines : List (List ℕ)) (first : ℕ)
    → IfOk (program_in name lines first) (Has (coded (names_in first lines) lines))
unfolding assembled
program-added name lines first =
    lines-added (names_in first lines) first (program name [] [] []) lines (coded (names_in first lines) lines) refl

-- the same where a line cannot be read, which is refused
of_both : (P : Program → Type 0) (readable : Result (Unit {0}) ScenFault) (r : Result Program AsmFault)
    → IfOk r P → IfOk (first_of_both readable r) P
of_both P (Ok u) (Ok p) h = h
of_both P (Ok u) (Err fault) h = tt
of_both P (Err unreadable) (Ok p) h = tt
of_both P (Err unreadable) (Err fault) h = if_ok P (nat_le unreadable.line fault.line) _ _ (λ _. tt) (λ _. tt)

pub block-program : (name : List ℕ) (n : ℕ) (body : List (List ℕ))
    → IfOk (program_read name n body) (λ p. map Some p.code ≡ coded (names_in n body) body)
unfolding program_read
block-program name n body =
    of_both (Has (coded (names_in n body) body)) (all_readable n body) (program_in name body n)
    (program-added name body n)

-- ---- the numbers of these lines

-- the line between two others
at-seam : {X : Type 0} (above : List X) (this : X) (below : List X)
    → slice_get (above ++ this ∷ below) (length above) ≡ Some this
at-seam [] this below = refl
at-seam (first ∷ above) this below = at-seam above this below

one-mapped : (f : ℕ → Option Instruction) (b : Bool) (n : ℕ) (numbers : List ℕ)
    → map f (cond b (n ∷ numbers) numbers) ≡ cond b (f n ∷ map f numbers) (map f numbers)
one-mapped f true n numbers = refl
one-mapped f false n numbers = refl

-- each number of a block is that of its line
pub numbers-coded : (place_of : List ℕ → Option Place) (text above body below : List (List ℕ)) (n : ℕ)
    → text ≡ above ++ (body ++ below) → n ≡ length above + 1
    → map (instruction_at place_of text) (code_numbers n body) ≡ coded place_of body
unfolding code_numbers
numbers-coded place_of text above [] below n stands is = refl
numbers-coded place_of text above (this ∷ body) below n stands is =
    let f : ℕ → Option Instruction = instruction_at place_of text in
    let numbers = code_numbers (n + 1) body in
    let place : n - 1 ≡ length above = omega (arith, is) in
    let here : slice_get text (n - 1) ≡ Some this =
    ap (slice_get text) place ∙ ap (λ (lines : List (List ℕ)). slice_get lines (length above)) stands
    ∙ at-seam above this (body ++ below) in
    let one : f n ≡ instruction_in place_of this = ap (option_and_then (instruction_in place_of)) here in
    let others : map f numbers ≡ coded place_of body =
    numbers-coded place_of text (above ++ this ∷ []) body below (n + 1)
    (stands ∙ sym (append_assoc above (this ∷ []) (body ++ below)))
    (omega (arith, is, length-append above (this ∷ []))) in
    one-mapped f (is_code this) n numbers
    ∙ ap (λ (o : Option Instruction). cond (is_code this) (o ∷ map f numbers) (map f numbers)) one
    ∙ ap (λ (os : List (Option Instruction)). cond (is_code this) (instruction_in place_of this ∷ os) os) others

one-split : (b : Bool) (n : ℕ) (xs ys : List ℕ)
    → cond b (n ∷ (xs ++ ys)) (xs ++ ys) ≡ cond b (n ∷ xs) xs ++ ys
one-split true n xs ys = refl
one-split false n xs ys = refl

-- one line more of a block
pub numbers-push : (n : ℕ) (body : List (List ℕ)) (this : List ℕ)
    → code_numbers n (body ++ this ∷ []) ≡ code_numbers n body ++ cond (is_code this) ((n + length body) ∷ []) []
unfolding code_numbers
numbers-push n [] this =
    let at : n ≡ n + length {A = List ℕ} [] = omega arith in
    ap (λ (m : ℕ). cond (is_code this) (m ∷ []) []) at
numbers-push n (first ∷ body) this =
    let xs = code_numbers (n + 1) body in
    let last : ℕ → List ℕ = λ m. cond (is_code this) (m ∷ []) [] in
    let at : n + 1 + length body ≡ n + length (first ∷ body) = omega arith in
    ap (λ (ns : List ℕ). cond (is_code first) (n ∷ ns) ns) (numbers-push (n + 1) body this)
    ∙ one-split (is_code first) n xs (last (n + 1 + length body))
    ∙ ap (λ (m : ℕ). cond (is_code first) (n ∷ xs) xs ++ last m) at
