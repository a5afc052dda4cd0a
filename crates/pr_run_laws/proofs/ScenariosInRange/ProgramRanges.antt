-- A program that was read keeps its limits; its name is short and of bytes, and so are its data.
use Rattle.std.proofs.Common.{◌≡◌, ℕ, ◌+◌, ◌-◌, ◌<◌, ◌≤◌, ◌&&◌, Option, Some, None, List, [], ◌∷◌, ◌++◌, length, replicate, map, nat_le, nat_lt, Result, Ok, Err, refl, arith}
use Rattle.std.specs.Prelude.{codes, find}
use Rattle.std.specs.List.{All}
use Rattle.std.specs.Result.{IfOk}
use Rattle.std.specs.Str.{bytes_eq}
use Rattle.std.proofs.lemmas.Bool.{leb-true}
use Rattle.std.proofs.lemmas.List.{length-append, length-replicate}
use Rattle.std.proofs.lemmas.List.Elements.{All-nil, All-cons, All-head, All-tail, All-append, All-replicate, All-map}
use borrow.Author.Tests.{ltb-true}
use Rattle.pr_asm.specs.Assembly.{assembled, code_added, data_added, filled, is_first, label_added, numbered, program_in, read_added, read_added_at, with_code, with_data, with_label, with_statement}
use Rattle.pr_asm.specs.Limits.{program}
use Rattle.pr_asm.specs.Mnemonics.{is_spelled, mnemonics}
use Rattle.pr_asm.specs.Names.{label_of}
use Rattle.pr_asm.specs.Operands.{one_call, one_immediate, register_and_immediate, registers_and_immediate, two_registers}
use Rattle.pr_asm.specs.Placing.{aligned, has_room, place_in}
use Rattle.pr_asm.specs.Statements.{code_of, instruction_of, label_or, space_of, statement_in, statement_of, statement_with, text_of}
use Rattle.pr_asm.specs.declared.mnemonics.Mnemonic.{Mnemonic}
use Rattle.pr_asm.specs.declared.mnemonics.Mnemonic.TheVariants as does
use Rattle.pr_asm.specs.declared.places.Place.{Place}
use Rattle.pr_asm.specs.Refusals.{AsmFault}
use Rattle.pr_asm.specs.declared.refusals.AsmKind.{AsmKind}
use Rattle.pr_asm.specs.declared.refusals.AsmKind.TheVariants.{BadOperand}
use Rattle.pr_asm.specs.declared.statements.Statement.{Statement}
use Rattle.pr_asm.specs.declared.statements.Statement.TheVariants as says
use Rattle.pr_num.specs.Limits.{code_limit, data_limit}
use Rattle.pr_num.specs.Programs.{Program}
use Rattle.pr_num.specs.Words.{IsByte}
use Rattle.pr_num.specs.declared.instructions.Instruction.{Instruction}
use Rattle.pr_reached.specs.InRange.{IsShortName, IsProgramInRange}
use Rattle.pr_run_laws.proofs.ScenariosInRange.WordRanges.{AreWordsOfBytes, quoted-bytes, readable-bytes, texts-bytes}
use Rattle.pr_scen.proofs.StepLemmas.{if_ok, then_ok, of_ok, ok_some, of_some}
use Rattle.pr_scen.specs.Blocks.{all_readable, first_of_both, program_read}
use Rattle.pr_scen.specs.Blocks as blocks
use Rattle.pr_scen.specs.Lines.{readable}
use Rattle.pr_scen.specs.Refusals.{ScenFault}
use Rattle.pr_scen.specs.declared.refusals.ScenKind.{ScenKind}
use Rattle.pr_text.specs.Comments.{begins_comment}
use Rattle.pr_text.specs.Names.{name_of}
use Rattle.pr_text.specs.NumberWords.{number_of}
use Rattle.pr_text.specs.QuotedWords.{quoted_bytes}
use Rattle.pr_text.specs.Steps.{folded, none, ok_or, two}
use Rattle.pr_text.specs.Words.{texts_of}

-- ---- what a line says

-- data are bytes
abbrev SaysBytes : Statement → Type 0
SaysBytes says.Blank = Unit {0}
SaysBytes (says.Label name) = Unit {0}
SaysBytes (says.Data name bytes zeros) = All IsByte bytes
SaysBytes (says.Code i name) = Unit {0}

in_code : (m : Mnemonic) (row : List (List ℕ)) → IfOk (code_of m row) SaysBytes
unfolding code_of
in_code does.Bpt row = then_ok SaysBytes (none BadOperand row) _ (λ _ _. tt)
in_code does.Nop row = then_ok SaysBytes (none BadOperand row) _ (λ _ _. tt)
in_code does.Set row = then_ok SaysBytes (register_and_immediate row) _ (λ _ _. tt)
in_code does.Mov row = then_ok SaysBytes (two_registers row) _ (λ _ _. tt)
in_code does.Add row = then_ok SaysBytes (two_registers row) _ (λ _ _. tt)
in_code does.Sub row = then_ok SaysBytes (two_registers row) _ (λ _ _. tt)
in_code does.Mul row = then_ok SaysBytes (two_registers row) _ (λ _ _. tt)
in_code does.Div row = then_ok SaysBytes (two_registers row) _ (λ _ _. tt)
in_code does.Ld row = then_ok SaysBytes (registers_and_immediate row) _ (λ _ _. tt)
in_code does.St row = then_ok SaysBytes (registers_and_immediate row) _ (λ _ _. tt)
in_code does.Ldb row = then_ok SaysBytes (registers_and_immediate row) _ (λ _ _. tt)
in_code does.Stb row = then_ok SaysBytes (registers_and_immediate row) _ (λ _ _. tt)
in_code does.Jmp row = then_ok SaysBytes (one_immediate row) _ (λ _ _. tt)
in_code does.Jz row = then_ok SaysBytes (register_and_immediate row) _ (λ _ _. tt)
in_code does.Jnz row = then_ok SaysBytes (register_and_immediate row) _ (λ _ _. tt)
in_code does.Jlt row = then_ok SaysBytes (registers_and_immediate row) _ (λ _ _. tt)
in_code does.Call row = then_ok SaysBytes (one_immediate row) _ (λ _ _. tt)
in_code does.Ret row = then_ok SaysBytes (none BadOperand row) _ (λ _ _. tt)
in_code does.Sys row = then_ok SaysBytes (one_call row) _ (λ _ _. tt)

-- the second of two words
pub second-bytes : {E : Type 0} (e : E) (row : List (List ℕ)) → AreWordsOfBytes row
    → IfOk (two e row) (λ words. All IsByte words.1)
second-bytes e [] h = tt
second-bytes e (a ∷ []) h = tt
second-bytes e (a ∷ b ∷ []) h = All-head (All IsByte) b [] (All-tail (All IsByte) a (b ∷ []) h)
second-bytes e (a ∷ b ∷ c ∷ more) h = tt

in_text : (row : List (List ℕ)) → AreWordsOfBytes row → IfOk (text_of row) SaysBytes
unfolding text_of
in_text row h =
    then_ok SaysBytes (two BadOperand row) _ (λ words is.
    then_ok SaysBytes (ok_or BadOperand (name_of words.0)) _ (λ name _.
    then_ok SaysBytes (ok_or BadOperand (quoted_bytes words.1)) _ (λ bytes read.
    of_some (All IsByte) (quoted_bytes words.1) bytes (ok_some BadOperand (quoted_bytes words.1) bytes read)
    (quoted-bytes words.1
    (of_ok (λ (v : List ℕ × List ℕ). All IsByte v.1) (two BadOperand row) words is
    (second-bytes BadOperand row h))))))

in_space : (row : List (List ℕ)) → IfOk (space_of row) SaysBytes
unfolding space_of
in_space row =
    then_ok SaysBytes (two BadOperand row) _ (λ words _.
    then_ok SaysBytes (ok_or BadOperand (name_of words.0)) _ (λ name _.
    then_ok SaysBytes (ok_or BadOperand (number_of words.1)) _ (λ size _.
    if_ok SaysBytes (nat_le 1 size && nat_le size data_limit) _ _ (λ _. All-nil IsByte) (λ _. tt))))

in_instruction : (o : Option Mnemonic) (row : List (List ℕ)) → IfOk (instruction_of o row) SaysBytes
unfolding instruction_of
in_instruction None row = tt
in_instruction (Some m) row = in_code m row

in_statement : (first : List ℕ) (row : List (List ℕ)) → AreWordsOfBytes row → IfOk (statement_with first row) SaysBytes
unfolding statement_with
in_statement first row h =
    if_ok SaysBytes (bytes_eq first (codes "text")) _ _ (λ _. in_text row h) (λ _.
    if_ok SaysBytes (bytes_eq first (codes "space")) _ _ (λ _. in_space row)
    (λ _. in_instruction (find (is_spelled first) mnemonics) row))

in_label : (o : Option (List ℕ)) (first : List ℕ) (row : List (List ℕ)) → AreWordsOfBytes row
    → IfOk (label_or o first row) SaysBytes
unfolding label_or
in_label (Some name) first row h = then_ok SaysBytes (none BadOperand row) _ (λ _ _. tt)
in_label None first row h = in_statement first row h

in_words : (row : List (List ℕ)) → AreWordsOfBytes row → IfOk (statement_in row) SaysBytes
unfolding statement_in
in_words [] h = tt
in_words (first ∷ row) h =
    if_ok SaysBytes (begins_comment first) _ _ (λ _. tt)
    (λ _. in_label (label_of first) first row (All-tail (All IsByte) first row h))

says-bytes : (line : List ℕ) → All IsByte line → IfOk (statement_of line) SaysBytes
unfolding statement_of
says-bytes line small = in_words (texts_of line) (texts-bytes line small)

-- ---- what a program becomes line by line

begins : (name : List ℕ) → IsShortName name → IsProgramInRange (program name [] [] [])
begins name is = record {
  name = is;
  bytes = All-nil IsByte;
  within = record { code = omega arith; bytes = omega arith };
}

label_more : (p : Program) (name : List ℕ) → IsProgramInRange p → IsProgramInRange (with_label p name)
label_more p name s = record {
  name = s.name;
  bytes = s.bytes;
  within = record { code = s.within.code; bytes = s.within.bytes };
}

code_more : (p : Program) (i : Instruction) → length p.code < code_limit → IsProgramInRange p
    → IsProgramInRange (with_code p i)
code_more p i room s = record {
  name = s.name;
  bytes = s.bytes;
  within = record { code = omega (arith, room, length-append p.code (i ∷ [])); bytes = s.within.bytes };
}

data_more : (p : Program) (bytes : List ℕ) (zeros : ℕ) → aligned (length p.bytes) + length bytes + zeros ≤ data_limit
    → All IsByte bytes → IsProgramInRange p → IsProgramInRange (with_data p bytes zeros)
data_more p bytes zeros room small s =
    let gap : List ℕ = replicate (aligned (length p.bytes) - length p.bytes) 0 in
    let none : List ℕ = replicate zeros 0 in
    record {
      name = s.name;
      bytes =
          All-append IsByte (p.bytes ++ gap ++ bytes) none
          (All-append IsByte (p.bytes ++ gap) bytes
          (All-append IsByte p.bytes gap s.bytes
          (All-replicate IsByte (aligned (length p.bytes) - length p.bytes) 0 (omega arith))) small)
          (All-replicate IsByte zeros 0 (omega arith));
      within = record {
        code = s.within.code;
        bytes =
            omega (
              arith,
              room,
              length-append (p.bytes ++ gap ++ bytes) none,
              length-append
                  (p.bytes ++ gap) bytes,
              length-append p.bytes gap,
              length-replicate {A = ℕ}
                  (aligned (length p.bytes) - length p.bytes) 0,
              length-replicate {A = ℕ} zeros 0,
            );
      };
    }

module _ (place_of : List ℕ → Option Place) where
  statement_more : (n : ℕ) (p : Program) (s : Statement) → SaysBytes s → IsProgramInRange p
      → IfOk (with_statement place_of n p s) IsProgramInRange
  unfolding with_statement label_added data_added code_added
  statement_more n p says.Blank h w = w
  statement_more n p (says.Label name) h w =
      if_ok IsProgramInRange (is_first place_of n name) _ _ (λ _. label_more p name w) (λ _. tt)
  statement_more n p (says.Data name bytes zeros) h w =
      if_ok IsProgramInRange (is_first place_of n name) _ _
      (λ _. if_ok IsProgramInRange (has_room (length p.bytes) (length bytes) zeros) _ _
      (λ room. data_more p bytes zeros (leb-true _ _ room) h w) (λ _. tt)) (λ _. tt)
  statement_more n p (says.Code i name) h w =
      then_ok IsProgramInRange (filled place_of i name) _
      (λ j _. if_ok IsProgramInRange (nat_lt (length p.code) code_limit) _ _
      (λ room. code_more p j (ltb-true _ _ room) w) (λ _. tt))

  read_more : (n : ℕ) (p : Program) (r : Result Statement AsmKind) → IfOk r SaysBytes → IsProgramInRange p
      → IfOk (read_added place_of n p r) IsProgramInRange
  read_more n p (Ok s) h w = statement_more n p s h w
  read_more n p (Err kind) h w = tt

  at_line : (n : ℕ) (r : Result Program AsmKind) → IfOk r IsProgramInRange → IfOk (numbered n r) IsProgramInRange
  at_line n (Ok p) w = w
  at_line n (Err kind) w = tt

  reads_more : (n : ℕ) (p : Program) (reads : List (Result Statement AsmKind)) → All (λ r. IfOk r SaysBytes) reads
      → IsProgramInRange p → IfOk (folded (read_added_at place_of) n p reads) IsProgramInRange
  unfolding folded
  reads_more n p [] h w = w
  reads_more n p (r ∷ reads) h w =
      then_ok IsProgramInRange (read_added_at place_of n p r) (λ q. folded (read_added_at place_of) (n + 1) q reads)
      (λ q is.
      reads_more (n + 1) q reads (All-tail (λ r. IfOk r SaysBytes) r reads h)
      (of_ok IsProgramInRange (read_added_at place_of n p r) q is
      (at_line n (read_added place_of n p r) (read_more n p r (All-head (λ r. IfOk r SaysBytes) r reads h) w))))

-- ---- the program of a block

each_says : (body : List (List ℕ)) → AreWordsOfBytes body → All (λ line. IfOk (statement_of line) SaysBytes) body
each_says [] h = All-nil _
each_says (line ∷ body) h =
    All-cons (λ l. IfOk (statement_of l) SaysBytes) line body (says-bytes line (All-head (All IsByte) line body h))
    (each_says body (All-tail (All IsByte) line body h))

program-whole : (name : List ℕ) (body : List (List ℕ)) (n : ℕ) → IsShortName name → AreWordsOfBytes body
    → IfOk (program_in name body n) IsProgramInRange
unfolding assembled
program-whole name body n is h =
    reads_more (place_in n (map statement_of body)) n (program name [] [] []) (map statement_of body)
    (All-map (λ r. IfOk r SaysBytes) statement_of body (each_says body h)) (begins name is)

-- the lines of a block that can be read have bytes alone
ok_numbered : (n : ℕ) (r : Result (Unit {0}) ScenKind) (x : Unit {0}) → blocks.numbered n r ≡ Ok x → r ≡ Ok x
ok_numbered n (Ok y) x e = refl
ok_numbered n (Err k) x e = cc

body-bytes : (n : ℕ) (body : List (List ℕ)) → IfOk (all_readable n body) (λ _. AreWordsOfBytes body)
unfolding all_readable
body-bytes n [] = All-nil (All IsByte)
body-bytes n (this ∷ below) =
    then_ok (λ _. AreWordsOfBytes (this ∷ below)) (blocks.numbered n (readable this)) _ (λ x is.
    with_below (all_readable (n + 1) below) (readable-bytes this x (ok_numbered n (readable this) x is))
    (body-bytes (n + 1) below))
  where
    with_below : (r : Result (Unit {0}) ScenFault) → All IsByte this → IfOk r (λ _. AreWordsOfBytes below)
        → IfOk r (λ _. AreWordsOfBytes (this ∷ below))
    with_below (Ok x) small h = All-cons (All IsByte) this below small h
    with_below (Err fault) small h = tt

both-read : (a : Result (Unit {0}) ScenFault) (r : Result Program AsmFault) (P : Type 0) → IfOk a (λ _. P)
    → (P → IfOk r IsProgramInRange) → IfOk (first_of_both a r) IsProgramInRange
both-read (Ok x) (Ok p) P h on = on h
both-read (Ok x) (Err fault) P h on = tt
both-read (Err unreadable) (Ok p) P h on = tt
both-read (Err unreadable) (Err fault) P h on =
    if_ok IsProgramInRange (nat_le unreadable.line fault.line) _ _ (λ _. tt) (λ _. tt)

pub program-range : (name : List ℕ) (n : ℕ) (body : List (List ℕ)) → IsShortName name
    → IfOk (program_read name n body) IsProgramInRange
unfolding program_read
program-range name n body is =
    both-read (all_readable n body) (program_in name body n) (AreWordsOfBytes body) (body-bytes n body)
    (program-whole name body n is)
