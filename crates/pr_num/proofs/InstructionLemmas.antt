-- An instruction is spelled by its bytes alone.
use Rattle.std.proofs.Common.{◌≡◌, ℕ, ◌<◌, Bool, true, false, eqb, cond, Option, Some, None, List, [], ◌∷◌, ◌++◌, length, take, drop, get_or, refl, sym, ◌∙◌, ap, arith, ⊎_elim}
use Rattle.std.specs.Option.{option_map, option_and_then}
use Rattle.std.specs.List.{All, list_all}
use Rattle.std.proofs.lemmas.Bool.{and_parts, eqb-true, cases_lt}
use Rattle.std.proofs.lemmas.List.{append-nil, take_all, get_or_past}
use Rattle.std.proofs.lemmas.List.Elements.{All-drop, All-get_or}
use Rattle.std.proofs.lemmas.Nat.{le_bytes_8, from_le_bytes-to_le_bytes_8}
use Rattle.std.proofs.lemmas.Option.{none-some, option_and_then_some}
use Rattle.pr_num.specs.Words.{word_bytes, word_of}
use Rattle.pr_num.specs.Syscalls.{syscall_number, syscall_of_number}
use Rattle.pr_num.specs.Instructions.{Fields, fields, fields_of, fields_bytes, fields_in, registers, register_number, register_of, with_no_field, immediate_alone, one_register, two_registers, registers_alone, HasImmediate, instruction_bytes, instruction_with, instruction_in}
use Rattle.pr_num.specs.declared.syscalls.Sysno.{Sysno}
use Rattle.pr_num.proofs.EntryLemmas.{syscall_number-of_number, syscall_of_number-number}
use Rattle.pr_num.specs.declared.instructions.Reg.{Reg}
use Rattle.pr_num.specs.declared.instructions.Reg.TheVariants.{R0, R1, R2, R3, R4, R5, R6, R7}
use Rattle.pr_num.specs.declared.instructions.Instruction.{Instruction}
use Rattle.pr_num.specs.declared.instructions.Instruction.TheVariants.{Bpt, Nop, Set, Mov, Add, Sub, Mul, Div, Ld, St, Ldb, Stb, Jmp, Jz, Jnz, Jlt, Call, Ret, Sys}
use Rattle.pr_num.specs.Tables.{counts_from}
use Rattle.pr_num.proofs.NumberedLemmas.{number-slice_get}

-- fields laid out over 16 zeros
pub laid_out : (i : Instruction) (f : Fields) (immediate : List ℕ) → f ≡ fields_of i
    → immediate ≡ word_bytes f.immediate
    → f.op ∷ f.a ∷ f.b ∷ 0 ∷ 0 ∷ 0 ∷ 0 ∷ 0 ∷ (immediate ++ []) ≡ instruction_bytes i
laid_out i f immediate same spelled =
    ap (λ w. f.op ∷ f.a ∷ f.b ∷ 0 ∷ 0 ∷ 0 ∷ 0 ∷ 0 ∷ w) (append-nil immediate ∙ spelled) ∙ ap fields_bytes same

-- what is read from the fields in 16 bytes
pub decoded : (bytes immediate : List ℕ) (w : ℕ) (zeros : Bool) (r : Option Instruction) → zeros ≡ true
    → zeros ≡ list_all (λ b. eqb b 0) (take 5 (drop 3 bytes)) → immediate ≡ take 8 (drop 8 bytes)
    → w ≡ word_of immediate → r ≡ instruction_with (fields (get_or bytes 0 0) (get_or bytes 1 0) (get_or bytes 2 0) w)
    → r ≡ instruction_in bytes
unfolding instruction_in
decoded bytes immediate w zeros r all tested laid spelled read =
    read ∙ ap (λ n. instruction_with (fields (get_or bytes 0 0) (get_or bytes 1 0) (get_or bytes 2 0) n))
    (spelled ∙ ap word_of laid)
    ∙ sym (ap (λ b. cond b (instruction_with (fields_in bytes)) None) (sym tested ∙ all))

-- ---- an instruction's bytes spell it

-- the register of a register's number
register_back : (r : Reg) → register_of (register_number r) ≡ Some r
unfolding register_number
register_back R0 = refl
register_back R1 = refl
register_back R2 = refl
register_back R3 = refl
register_back R4 = refl
register_back R5 = refl
register_back R6 = refl
register_back R7 = refl

registers_back : (a b : Reg) (op w : ℕ)
    → two_registers (fields op (register_number a) (register_number b) w) ≡ Some (a, b)
registers_back a b op w =
    ap (λ o. option_and_then (λ x. option_map (λ y. (x, y)) (register_of (register_number b))) o) (register_back a)
    ∙ ap (λ o. option_map (λ y. (a, y)) o) (register_back b)

-- the fields of an instruction are fields of that instruction
fields_back : (i : Instruction) → instruction_with (fields_of i) ≡ Some i
unfolding instruction_with fields_of
fields_back Bpt = refl
fields_back Nop = refl
fields_back (Set to imm) = ap (λ o. option_map (λ r. Set r imm) o) (register_back to)
fields_back (Mov to from) = ap (λ o. option_map (λ r. Mov r.0 r.1) o) (registers_back to from 0 0)
fields_back (Add to from) = ap (λ o. option_map (λ r. Add r.0 r.1) o) (registers_back to from 0 0)
fields_back (Sub to from) = ap (λ o. option_map (λ r. Sub r.0 r.1) o) (registers_back to from 0 0)
fields_back (Mul to from) = ap (λ o. option_map (λ r. Mul r.0 r.1) o) (registers_back to from 0 0)
fields_back (Div to from) = ap (λ o. option_map (λ r. Div r.0 r.1) o) (registers_back to from 0 0)
fields_back (Ld a b w) = ap (λ o. option_map (λ r. Ld r.0 r.1 w) o) (registers_back a b 0 w)
fields_back (St a b w) = ap (λ o. option_map (λ r. St r.0 r.1 w) o) (registers_back a b 0 w)
fields_back (Ldb a b w) = ap (λ o. option_map (λ r. Ldb r.0 r.1 w) o) (registers_back a b 0 w)
fields_back (Stb a b w) = ap (λ o. option_map (λ r. Stb r.0 r.1 w) o) (registers_back a b 0 w)
fields_back (Jmp w) = refl
fields_back (Jz a w) = ap (λ o. option_map (λ r. Jz r w) o) (register_back a)
fields_back (Jnz a w) = ap (λ o. option_map (λ r. Jnz r w) o) (register_back a)
fields_back (Jlt a b w) = ap (λ o. option_map (λ r. Jlt r.0 r.1 w) o) (registers_back a b 0 w)
fields_back (Call w) = refl
fields_back Ret = refl
fields_back (Sys call) = ap (λ o. option_map Sys o) (syscall_of_number-number call)

pub spelled-read : (i : Instruction) → HasImmediate i → instruction_in (instruction_bytes i) ≡ Some i
unfolding instruction_in HasImmediate word_bytes word_of
spelled-read i fits =
    ap (λ w. instruction_with (fields (fields_of i).op (fields_of i).a (fields_of i).b w))
    (from_le_bytes-to_le_bytes_8 (fields_of i).immediate fits) ∙ fields_back i

-- ---- bytes that spell an instruction are its bytes

-- what the row of an operation code gives, or the rows below it
row : (b : Bool) (here rest : Option Instruction) (i : Instruction) (P : Type 0) → cond b here rest ≡ Some i
    → (b ≡ true → here ≡ Some i → P) → (rest ≡ Some i → P) → P
row true here rest i P e this others = this refl e
row false here rest i P e this others = others e

-- what an option was mapped from
mapped : {X Y : Type 0} (f : X → Y) (o : Option X) (y : Y) (P : Type 0) → option_map f o ≡ Some y
    → ((x : X) → o ≡ Some x → f x ≡ y → P) → P
mapped f None y P e found = absurd (none-some y e)
mapped f (Some x) y P e found = found x refl cc

-- what is there only under a condition
guarded : {X : Type 0} (b : Bool) (o : Option X) (x : X) (P : Type 0) → cond b o None ≡ Some x
    → (b ≡ true → o ≡ Some x → P) → P
guarded true o x P e found = found refl e
guarded false o x P e found = absurd (none-some x e)

-- fields from their parts
same_fields : (f : Fields) (op a b w : ℕ) → eqb f.op op ≡ true → a ≡ f.a → b ≡ f.b → w ≡ f.immediate
    → fields op a b w ≡ f
same_fields f op a b w this at_a at_b at_w =
    ap (λ x. fields x a b w) (sym (eqb-true _ _ this)) ∙ ap (λ x. fields f.op x b w) at_a
    ∙ ap (λ x. fields f.op f.a x w) at_b ∙ ap (λ x. fields f.op f.a f.b x) at_w

zero_byte : (n : ℕ) → eqb n 0 ≡ true → 0 ≡ n
zero_byte n e = sym (eqb-true _ _ e)

registers_counted : counts_from register_number 0 registers ≡ true
unfolding register_number
registers_counted = refl

number-register_of : (n : ℕ) (r : Reg) → register_of n ≡ Some r → register_number r ≡ n
number-register_of n r e = number-slice_get register_number 0 registers registers_counted n r e ∙ omega arith

module _ (f : Fields) (op : ℕ) (this : eqb f.op op ≡ true) (i : Instruction) where
  no_field_form : (one : Instruction) → fields_of one ≡ fields op 0 0 0 → with_no_field f one ≡ Some i → fields_of i ≡ f
  no_field_form one laid e =
      guarded _ (Some one) i _ e (λ unused same. let all = and_parts _ _ unused in let both = and_parts _ _ all.0 in
      let it : i ≡ one = cc in
      ap fields_of it ∙ laid
      ∙ same_fields f op 0 0 0 this (zero_byte _ both.0) (zero_byte _ both.1) (zero_byte _ all.1))

  immediate_form : (make : ℕ → Instruction) → ((w : ℕ) → fields_of (make w) ≡ fields op 0 0 w)
      → option_map make (immediate_alone f) ≡ Some i → fields_of i ≡ f
  immediate_form make laid e =
      mapped make _ i _ e
      (λ w alone made. guarded _ (Some f.immediate) w _ alone (λ unused same. let both = and_parts _ _ unused in
      let it : w ≡ f.immediate = cc in
      ap fields_of (sym made) ∙ laid w ∙ same_fields f op 0 0 w this (zero_byte _ both.0) (zero_byte _ both.1) it))

  register_form : (make : Reg → ℕ → Instruction)
      → ((a : Reg) (w : ℕ) → fields_of (make a w) ≡ fields op (register_number a) 0 w)
      → option_map (λ a. make a f.immediate) (one_register f) ≡ Some i → fields_of i ≡ f
  register_form make laid e =
      mapped (λ a. make a f.immediate) _ i _ e (λ a alone made. guarded _ (register_of f.a) a _ alone (λ unused found.
      ap fields_of (sym made) ∙ laid a f.immediate
      ∙ same_fields f op (register_number a) 0 f.immediate this (number-register_of _ a found)
      (zero_byte _ unused) refl))

  pair_form : (r : Reg × Reg) (P : Type 0) → two_registers f ≡ Some r
      → ((register_number r.0 ≡ f.a) → (register_number r.1 ≡ f.b) → P) → P
  pair_form r P e found =
      option_and_then_some (λ a. option_map (λ b. (a, b)) (register_of f.b)) (register_of f.a) r e (λ a at_a second.
      mapped (λ b. (a, b)) (register_of f.b) r _ second (λ b at_b made.
      found (ap (λ x. register_number x.0) (sym made) ∙ number-register_of _ a at_a)
      (ap (λ x. register_number x.1) (sym made) ∙ number-register_of _ b at_b)))

  all_form : (make : Reg → Reg → ℕ → Instruction)
      → ((a b : Reg) (w : ℕ) → fields_of (make a b w) ≡ fields op (register_number a) (register_number b) w)
      → option_map (λ r. make r.0 r.1 f.immediate) (two_registers f) ≡ Some i → fields_of i ≡ f
  all_form make laid e =
      mapped (λ r. make r.0 r.1 f.immediate) _ i _ e (λ r pair made. pair_form r _ pair (λ at_a at_b.
      ap fields_of (sym made) ∙ laid r.0 r.1 f.immediate ∙ same_fields f op _ _ f.immediate this at_a at_b refl))

  registers_form : (make : Reg → Reg → Instruction)
      → ((a b : Reg) → fields_of (make a b) ≡ fields op (register_number a) (register_number b) 0)
      → option_map (λ r. make r.0 r.1) (registers_alone f) ≡ Some i → fields_of i ≡ f
  registers_form make laid e =
      mapped (λ r. make r.0 r.1) _ i _ e
      (λ r alone made. guarded _ (two_registers f) r _ alone (λ unused pair. pair_form r _ pair (λ at_a at_b.
      ap fields_of (sym made) ∙ laid r.0 r.1 ∙ same_fields f op _ _ 0 this at_a at_b (zero_byte _ unused))))

  call_form : ((c : Sysno) → fields_of (Sys c) ≡ fields op 0 0 (syscall_number c))
      → option_map Sys (option_and_then syscall_of_number (immediate_alone f)) ≡ Some i → fields_of i ≡ f
  call_form laid e =
      mapped Sys _ i _ e
      (λ c named made.
      option_and_then_some syscall_of_number (immediate_alone f) c named
      (λ w alone at_w. guarded _ (Some f.immediate) w _ alone (λ unused same. let both = and_parts _ _ unused in
      let it : w ≡ f.immediate = cc in
      ap fields_of (sym made) ∙ laid c
      ∙ same_fields f op 0 0 _ this (zero_byte _ both.0) (zero_byte _ both.1)
      (syscall_number-of_number w c at_w ∙ it))))

-- fields that are those of an instruction
fields_unique : (f : Fields) (i : Instruction) → instruction_with f ≡ Some i → fields_of i ≡ f
unfolding instruction_with fields_of
fields_unique f i e =
    row (eqb f.op 1) _ _ i _ e (λ this here. no_field_form f 1 this i Bpt refl here) (λ e1.
    row (eqb f.op 2) _ _ i _ e1 (λ this here. no_field_form f 2 this i Nop refl here) (λ e2.
    row (eqb f.op 3) _ _ i _ e2 (λ this here. register_form f 3 this i Set (λ a w. refl) here) (λ e3.
    row (eqb f.op 4) _ _ i _ e3 (λ this here. registers_form f 4 this i Mov (λ a b. refl) here) (λ e4.
    row (eqb f.op 5) _ _ i _ e4 (λ this here. registers_form f 5 this i Add (λ a b. refl) here) (λ e5.
    row (eqb f.op 6) _ _ i _ e5 (λ this here. registers_form f 6 this i Sub (λ a b. refl) here) (λ e6.
    row (eqb f.op 7) _ _ i _ e6 (λ this here. registers_form f 7 this i Mul (λ a b. refl) here) (λ e7.
    row (eqb f.op 8) _ _ i _ e7 (λ this here. registers_form f 8 this i Div (λ a b. refl) here) (λ e8.
    row (eqb f.op 9) _ _ i _ e8 (λ this here. all_form f 9 this i Ld (λ a b w. refl) here) (λ e9.
    row (eqb f.op 10) _ _ i _ e9 (λ this here. all_form f 10 this i St (λ a b w. refl) here) (λ e10.
    row (eqb f.op 11) _ _ i _ e10 (λ this here. all_form f 11 this i Ldb (λ a b w. refl) here) (λ e11.
    row (eqb f.op 12) _ _ i _ e11 (λ this here. all_form f 12 this i Stb (λ a b w. refl) here) (λ e12.
    row (eqb f.op 13) _ _ i _ e12 (λ this here. immediate_form f 13 this i Jmp (λ w. refl) here) (λ e13.
    row (eqb f.op 14) _ _ i _ e13 (λ this here. register_form f 14 this i Jz (λ a w. refl) here) (λ e14.
    row (eqb f.op 15) _ _ i _ e14 (λ this here. register_form f 15 this i Jnz (λ a w. refl) here) (λ e15.
    row (eqb f.op 16) _ _ i _ e15 (λ this here. all_form f 16 this i Jlt (λ a b w. refl) here) (λ e16.
    row (eqb f.op 17) _ _ i _ e16 (λ this here. immediate_form f 17 this i Call (λ w. refl) here) (λ e17.
    row (eqb f.op 18) _ _ i _ e17 (λ this here. no_field_form f 18 this i Ret refl here) (λ e18.
    row (eqb f.op 19) _ _ i _ e18 (λ this here. call_form f 19 this i (λ c. refl) here) (λ e19.
    absurd (none-some i e19))))))))))))))))))))

five_zeros : (d e f g h : ℕ) (rest : List ℕ) → list_all (λ b. eqb b 0) (d ∷ e ∷ f ∷ g ∷ h ∷ []) ≡ true
    → 0 ∷ 0 ∷ 0 ∷ 0 ∷ 0 ∷ rest ≡ d ∷ e ∷ f ∷ g ∷ h ∷ rest
five_zeros d e f g h rest all =
    let p = and_parts (eqb d 0) _ all in
    let q = and_parts (eqb e 0) _ p.1 in
    let r = and_parts (eqb f 0) _ q.1 in
    let s = and_parts (eqb g 0) _ r.1 in
    let t = and_parts (eqb h 0) _ s.1 in
    let at_d = zero_byte d p.0 in
    let at_e = zero_byte e q.0 in
    let at_f = zero_byte f r.0 in
    let at_g = zero_byte g s.0 in
    let at_h = zero_byte h t.0 in
    cc

-- eight bytes are those of the word that they spell
eight_bytes : (bytes : List ℕ) → length bytes ≡ 8 → All (λ b. b < 256) bytes → word_bytes (word_of bytes) ≡ bytes
unfolding word_bytes word_of
eight_bytes bytes eight small =
    le_bytes_8 bytes _ eight
    (λ i. ⊎_elim (λ inside. All-get_or (λ b. b < 256) bytes i 0 inside small)
    (λ past. rw (get_or_past bytes i 0 past) (omega arith)) (cases_lt i (length bytes))) refl

pub read-spelled : (bytes : List ℕ) (i : Instruction) → length bytes ≡ 16 → All (λ b. b < 256) bytes
    → instruction_in bytes ≡ Some i → bytes ≡ instruction_bytes i
unfolding instruction_in
read-spelled (a ∷ b ∷ c ∷ d ∷ e ∷ f ∷ g ∷ h ∷ rest) i whole small read =
    let eight : length rest ≡ 8 = omega arith in
    let front : take 8 rest ≡ rest = take_all 8 rest (omega arith) in
    guarded (list_all (λ x. eqb x 0) (d ∷ e ∷ f ∷ g ∷ h ∷ []))
    (instruction_with (fields a b c (word_of (take 8 rest)))) i _ read (λ zeros found.
    sym (ap fields_bytes (fields_unique (fields a b c (word_of (take 8 rest))) i found)
    ∙ ap (λ w. a ∷ b ∷ c ∷ 0 ∷ 0 ∷ 0 ∷ 0 ∷ 0 ∷ word_bytes (word_of w)) front
    ∙ ap (λ w. a ∷ b ∷ c ∷ 0 ∷ 0 ∷ 0 ∷ 0 ∷ 0 ∷ w)
    (eight_bytes rest eight (All-drop (λ x. x < 256) 8 (a ∷ b ∷ c ∷ d ∷ e ∷ f ∷ g ∷ h ∷ rest) small))
    ∙ ap (λ w. a ∷ b ∷ c ∷ w) (five_zeros d e f g h rest zeros)))
read-spelled bytes i whole small read = absurd (omega arith)
