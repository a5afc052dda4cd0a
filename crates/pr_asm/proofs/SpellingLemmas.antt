-- What is spelled is read.
use Rattle.std.proofs.Common.{◌≡◌, ℕ, ◌-◌, true, ◌&&◌, eqb, leb, cond, Option, Some, None, List, [], ◌∷◌, ◌++◌, length, map, take, get_or, Ok, Err, sym, refl, ◌∙◌, ap, arith, codes}
use Rattle.std.specs.Fmt.{decimal}
use Rattle.std.specs.List.{AllByRecursion}
use Rattle.std.proofs.lemmas.Bool.{le-leb}
use Rattle.std.proofs.lemmas.List.{length-append, take_at}
use Rattle.std.proofs.lemmas.List.Folds.{list_all-append}
use Rattle.std.proofs.Math.Seq.{get_or-append_seam}
use Rattle.pr_num.specs.Limits.{data_limit}
use Rattle.pr_num.specs.Instructions.{register_number}
use Rattle.pr_num.specs.Syscalls.{syscall_name, syscall_of_name}
use Rattle.pr_num.specs.declared.instructions.Instruction.{Instruction}
use Rattle.pr_num.specs.declared.instructions.Instruction.TheVariants.{Bpt, Nop, Set, Mov, Add, Sub, Mul, Div, Ld, St, Ldb, Stb, Jmp, Jz, Jnz, Jlt, Call, Ret, Sys}
use Rattle.pr_num.specs.declared.instructions.Reg.{Reg}
use Rattle.pr_num.specs.declared.instructions.Reg.TheVariants.{R0, R1, R2, R3, R4, R5, R6, R7}
use Rattle.pr_num.specs.declared.syscalls.Sysno.{Sysno}
use Rattle.pr_num.specs.declared.syscalls.Sysno.TheVariants.{Exit, Fork, Read, Write, Open, Close, Wait, Getpid, Getppid, Exec, Pipe, Dup, Lseek, Kill, Sigaction, Sigmask, Pause, Sigreturn, Brk, Mmap, Munmap, Mprotect, Time, Sleep, LwpCreate, LwpExit, LwpSuspend, LwpContinue, Fstat, Sigqueue, Vfork}
use Rattle.pr_text.specs.Comments.{begins_comment}
use Rattle.pr_text.specs.Names.{is_name, is_name_byte, name_of}
use Rattle.pr_text.specs.NumberWords.{number_of}
use Rattle.pr_text.specs.QuotedWords.{quoted_bytes, quoted}
use Rattle.pr_text.specs.Steps.{◌>>=◌, ok_or, folded}
use Rattle.pr_text.specs.Words.{words_from}
use Rattle.pr_text.proofs.EscapeLemmas.{quoted_bytes-quoted, quoted_token}
use Rattle.pr_text.proofs.NumberLemmas.{number_of-decimal}
use Rattle.pr_text.proofs.PlainLemmas.{decimal_token, named, name_token, name-no_number, name-no_comment}
use Rattle.pr_text.proofs.SpacedLemmas.{IsToken, IsInline, is_plain, plain_token, texts_of-spaced, spaced-inline, lines_of-joined}
use Rattle.pr_asm.specs.Assembly.{reads_of, with_statement, assembled, program_of}
use Rattle.pr_asm.specs.Mnemonics.{mnemonic_name}
use Rattle.pr_asm.specs.Names.{label_of}
use Rattle.pr_asm.specs.Operands.{register, immediate_of, immediate, call, two_registers, register_and_immediate, registers_and_immediate, one_immediate, one_call}
use Rattle.pr_asm.specs.Spelling.{register_text, immediate_text, code_words, statement_words, spelled, text_of_statements, IsImmediate, IsCode, IsStatement}
use Rattle.pr_asm.specs.Statements.{statement_in, label_or, statement_with, instruction_of, code_of, text_of, space_of, statement_of}
use Rattle.pr_asm.specs.declared.operands.Immediate.{Immediate}
use Rattle.pr_asm.specs.declared.refusals.AsmKind.TheVariants.{BadOperand}
use Rattle.pr_asm.specs.declared.statements.Statement.{Statement}
use Rattle.pr_asm.specs.declared.statements.Statement.TheVariants.{Blank, Label, Data, Code}

-- ---- labels

label_token : (name : List ℕ) → is_name name ≡ true → IsToken (name ++ 58 ∷ [])
label_token name h =
    let n = named name h in
    plain_token (name ++ 58 ∷ []) (omega (arith, length-append name (58 ∷ []), n.some))
    (list_all-append is_plain name (58 ∷ []) ∙ ap (λ v. v && true) n.plain)

read_label : (name : List ℕ) → is_name name ≡ true → label_of (name ++ 58 ∷ []) ≡ Some name
unfolding label_of
read_label name h =
    let size : length (name ++ 58 ∷ []) - 1 ≡ length name = omega (arith, length-append name (58 ∷ [])) in
    ap (λ n. cond (eqb (get_or (name ++ 58 ∷ []) n 0) 58) (name_of (take n (name ++ 58 ∷ []))) None) size
    ∙ ap (λ b. cond (eqb b 58) (name_of (take (length name) (name ++ 58 ∷ []))) None) (get_or-append_seam name 58 [] 0)
    ∙ ap name_of (take_at name (58 ∷ []) (length name) refl)
    ∙ ap (λ v. cond v (Some name) None) h

-- ---- registers, immediates, calls

pub read_register : (r : Reg) → register (register_text r) ≡ Ok r
unfolding register register_number
read_register R0 = refl
read_register R1 = refl
read_register R2 = refl
read_register R3 = refl
read_register R4 = refl
read_register R5 = refl
read_register R6 = refl
read_register R7 = refl

pub register_token : (r : Reg) → IsToken (register_text r)
unfolding register_number
register_token R0 = plain_token (114 ∷ 48 ∷ []) (omega arith) refl
register_token R1 = plain_token (114 ∷ 49 ∷ []) (omega arith) refl
register_token R2 = plain_token (114 ∷ 50 ∷ []) (omega arith) refl
register_token R3 = plain_token (114 ∷ 51 ∷ []) (omega arith) refl
register_token R4 = plain_token (114 ∷ 52 ∷ []) (omega arith) refl
register_token R5 = plain_token (114 ∷ 53 ∷ []) (omega arith) refl
register_token R6 = plain_token (114 ∷ 54 ∷ []) (omega arith) refl
register_token R7 = plain_token (114 ∷ 55 ∷ []) (omega arith) refl

pub read_immediate : (name : Option (List ℕ)) (n : ℕ) → IsImmediate name n
    → immediate (immediate_text name n) ≡ Ok (record { value = n; name = name })
unfolding immediate_of
read_immediate None n fits = ap (λ o. immediate_of o (decimal n)) (number_of-decimal n fits)
read_immediate (Some name) n h =
    ap (λ o. immediate_of o name) (name-no_number name h.0)
    ∙ ap (λ v. cond v (Ok (record { value = 0; name = Some name })) (Err BadOperand)) h.0
    ∙ ap (λ v. Ok (record { value = v; name = Some name })) (sym h.1)

pub immediate_token : (name : Option (List ℕ)) (n : ℕ) → IsImmediate name n → IsToken (immediate_text name n)
immediate_token None n fits = decimal_token n fits
immediate_token (Some name) n h = name_token name h.0

pub read_call : (c : Sysno) → call (syscall_name c) ≡ Ok c
unfolding call is_name is_name_byte syscall_name syscall_of_name
read_call Exit = refl
read_call Fork = refl
read_call Read = refl
read_call Write = refl
read_call Open = refl
read_call Close = refl
read_call Wait = refl
read_call Getpid = refl
read_call Getppid = refl
read_call Exec = refl
read_call Pipe = refl
read_call Dup = refl
read_call Lseek = refl
read_call Kill = refl
read_call Sigaction = refl
read_call Sigmask = refl
read_call Pause = refl
read_call Sigreturn = refl
read_call Brk = refl
read_call Mmap = refl
read_call Munmap = refl
read_call Mprotect = refl
read_call Time = refl
read_call Sleep = refl
read_call LwpCreate = refl
read_call LwpExit = refl
read_call LwpSuspend = refl
read_call LwpContinue = refl
read_call Fstat = refl
read_call Sigqueue = refl
read_call Vfork = refl

pub call_token : (c : Sysno) → IsToken (syscall_name c)
unfolding syscall_name
call_token Exit = plain_token (codes "exit") (omega arith) refl
call_token Fork = plain_token (codes "fork") (omega arith) refl
call_token Read = plain_token (codes "read") (omega arith) refl
call_token Write = plain_token (codes "write") (omega arith) refl
call_token Open = plain_token (codes "open") (omega arith) refl
call_token Close = plain_token (codes "close") (omega arith) refl
call_token Wait = plain_token (codes "wait") (omega arith) refl
call_token Getpid = plain_token (codes "getpid") (omega arith) refl
call_token Getppid = plain_token (codes "getppid") (omega arith) refl
call_token Exec = plain_token (codes "exec") (omega arith) refl
call_token Pipe = plain_token (codes "pipe") (omega arith) refl
call_token Dup = plain_token (codes "dup") (omega arith) refl
call_token Lseek = plain_token (codes "lseek") (omega arith) refl
call_token Kill = plain_token (codes "kill") (omega arith) refl
call_token Sigaction = plain_token (codes "sigaction") (omega arith) refl
call_token Sigmask = plain_token (codes "sigmask") (omega arith) refl
call_token Pause = plain_token (codes "pause") (omega arith) refl
call_token Sigreturn = plain_token (codes "sigreturn") (omega arith) refl
call_token Brk = plain_token (codes "brk") (omega arith) refl
call_token Mmap = plain_token (codes "mmap") (omega arith) refl
call_token Munmap = plain_token (codes "munmap") (omega arith) refl
call_token Mprotect = plain_token (codes "mprotect") (omega arith) refl
call_token Time = plain_token (codes "time") (omega arith) refl
call_token Sleep = plain_token (codes "sleep") (omega arith) refl
call_token LwpCreate = plain_token (codes "lwp_create") (omega arith) refl
call_token LwpExit = plain_token (codes "lwp_exit") (omega arith) refl
call_token LwpSuspend = plain_token (codes "lwp_suspend") (omega arith) refl
call_token LwpContinue = plain_token (codes "lwp_continue") (omega arith) refl
call_token Fstat = plain_token (codes "fstat") (omega arith) refl
call_token Sigqueue = plain_token (codes "sigqueue") (omega arith) refl
call_token Vfork = plain_token (codes "vfork") (omega arith) refl

-- ---- statements

on_registers : (a b : Reg) → two_registers (register_text a ∷ register_text b ∷ []) ≡ Ok (a, b)
unfolding two_registers
on_registers a b =
    ap (λ r. r >>= (λ x. register (register_text b) >>= (λ y. Ok (x, y)))) (read_register a)
    ∙ ap (λ r. r >>= (λ y. Ok (a, y))) (read_register b)

module _ (name : Option (List ℕ)) (n : ℕ) (h : IsImmediate name n) where
  abbrev it : Immediate
  it = record { value = n; name = name }

  on_immediate : one_immediate (immediate_text name n ∷ []) ≡ Ok it
  unfolding one_immediate
  on_immediate = read_immediate name n h

  on_register : (a : Reg) → register_and_immediate (register_text a ∷ immediate_text name n ∷ []) ≡ Ok (a, it)
  unfolding register_and_immediate
  on_register a =
      ap (λ r. r >>= (λ x. immediate (immediate_text name n) >>= (λ y. Ok (x, y)))) (read_register a)
      ∙ ap (λ r. r >>= (λ y. Ok (a, y))) (read_immediate name n h)

  on_all : (a b : Reg)
      → registers_and_immediate (register_text a ∷ register_text b ∷ immediate_text name n ∷ []) ≡ Ok (a, b, it)
  unfolding registers_and_immediate
  on_all a b =
      ap (λ r. r
      >>= (λ x. register (register_text b) >>= (λ y. immediate (immediate_text name n) >>= (λ z. Ok (x, y, z)))))
      (read_register a)
      ∙ ap (λ r. r >>= (λ y. immediate (immediate_text name n) >>= (λ z. Ok (a, y, z)))) (read_register b)
      ∙ ap (λ r. r >>= (λ z. Ok (a, b, z))) (read_immediate name n h)

on_call : (c : Sysno) → one_call (syscall_name c ∷ []) ≡ Ok c
unfolding one_call
on_call c = read_call c

read_code : (i : Instruction) (name : Option (List ℕ)) → IsCode i name
    → statement_in (code_words i name) ≡ Ok (Code i name)
unfolding begins_comment statement_in label_or label_of statement_with instruction_of mnemonic_name code_of code_words
    IsCode
read_code Bpt name h = ap (λ n. Ok (Code Bpt n)) (sym h)
read_code Nop name h = ap (λ n. Ok (Code Nop n)) (sym h)
read_code (Set a i) name h = ap (λ r. r >>= (λ o. Ok (Code (Set o.0 o.1.value) o.1.name))) (on_register name i h a)
read_code (Mov a b) name h =
    ap (λ r. r >>= (λ o. Ok (Code (Mov o.0 o.1) None))) (on_registers a b) ∙ ap (λ n. Ok (Code (Mov a b) n)) (sym h)
read_code (Add a b) name h =
    ap (λ r. r >>= (λ o. Ok (Code (Add o.0 o.1) None))) (on_registers a b) ∙ ap (λ n. Ok (Code (Add a b) n)) (sym h)
read_code (Sub a b) name h =
    ap (λ r. r >>= (λ o. Ok (Code (Sub o.0 o.1) None))) (on_registers a b) ∙ ap (λ n. Ok (Code (Sub a b) n)) (sym h)
read_code (Mul a b) name h =
    ap (λ r. r >>= (λ o. Ok (Code (Mul o.0 o.1) None))) (on_registers a b) ∙ ap (λ n. Ok (Code (Mul a b) n)) (sym h)
read_code (Div a b) name h =
    ap (λ r. r >>= (λ o. Ok (Code (Div o.0 o.1) None))) (on_registers a b) ∙ ap (λ n. Ok (Code (Div a b) n)) (sym h)
read_code (Ld a b i) name h = ap (λ r. r >>= (λ o. Ok (Code (Ld o.0 o.1 o.2.value) o.2.name))) (on_all name i h a b)
read_code (St a b i) name h = ap (λ r. r >>= (λ o. Ok (Code (St o.0 o.1 o.2.value) o.2.name))) (on_all name i h a b)
read_code (Ldb a b i) name h = ap (λ r. r >>= (λ o. Ok (Code (Ldb o.0 o.1 o.2.value) o.2.name))) (on_all name i h a b)
read_code (Stb a b i) name h = ap (λ r. r >>= (λ o. Ok (Code (Stb o.0 o.1 o.2.value) o.2.name))) (on_all name i h a b)
read_code (Jmp i) name h = ap (λ r. r >>= (λ o. Ok (Code (Jmp o.value) o.name))) (on_immediate name i h)
read_code (Jz a i) name h = ap (λ r. r >>= (λ o. Ok (Code (Jz o.0 o.1.value) o.1.name))) (on_register name i h a)
read_code (Jnz a i) name h = ap (λ r. r >>= (λ o. Ok (Code (Jnz o.0 o.1.value) o.1.name))) (on_register name i h a)
read_code (Jlt a b i) name h = ap (λ r. r >>= (λ o. Ok (Code (Jlt o.0 o.1 o.2.value) o.2.name))) (on_all name i h a b)
read_code (Call i) name h = ap (λ r. r >>= (λ o. Ok (Code (Call o.value) o.name))) (on_immediate name i h)
read_code Ret name h = ap (λ n. Ok (Code Ret n)) (sym h)
read_code (Sys c) name h =
    ap (λ r. r >>= (λ o. Ok (Code (Sys o) None))) (on_call c) ∙ ap (λ n. Ok (Code (Sys c) n)) (sym h)

tokens_of_code : (i : Instruction) (name : Option (List ℕ)) → IsCode i name → AllByRecursion IsToken (code_words i name)
unfolding code_words IsCode
tokens_of_code Bpt name h = (plain_token (codes "bpt") (omega arith) refl, tt)
tokens_of_code Nop name h = (plain_token (codes "nop") (omega arith) refl, tt)
tokens_of_code (Set a i) name h =
    (plain_token (codes "set") (omega arith) refl, (register_token a, (immediate_token name i h, tt)))
tokens_of_code (Mov a b) name h =
    (plain_token (codes "mov") (omega arith) refl, (register_token a, (register_token b, tt)))
tokens_of_code (Add a b) name h =
    (plain_token (codes "add") (omega arith) refl, (register_token a, (register_token b, tt)))
tokens_of_code (Sub a b) name h =
    (plain_token (codes "sub") (omega arith) refl, (register_token a, (register_token b, tt)))
tokens_of_code (Mul a b) name h =
    (plain_token (codes "mul") (omega arith) refl, (register_token a, (register_token b, tt)))
tokens_of_code (Div a b) name h =
    (plain_token (codes "div") (omega arith) refl, (register_token a, (register_token b, tt)))
tokens_of_code (Ld a b i) name h = (
  plain_token (codes "ld") (omega arith) refl,
  (register_token a, (register_token b, (immediate_token name i h, tt))),
)
tokens_of_code (St a b i) name h = (
  plain_token (codes "st") (omega arith) refl,
  (register_token a, (register_token b, (immediate_token name i h, tt))),
)
tokens_of_code (Ldb a b i) name h = (
  plain_token (codes "ldb") (omega arith) refl,
  (register_token a, (register_token b, (immediate_token name i h, tt))),
)
tokens_of_code (Stb a b i) name h = (
  plain_token (codes "stb") (omega arith) refl,
  (register_token a, (register_token b, (immediate_token name i h, tt))),
)
tokens_of_code (Jmp i) name h = (plain_token (codes "jmp") (omega arith) refl, (immediate_token name i h, tt))
tokens_of_code (Jz a i) name h =
    (plain_token (codes "jz") (omega arith) refl, (register_token a, (immediate_token name i h, tt)))
tokens_of_code (Jnz a i) name h =
    (plain_token (codes "jnz") (omega arith) refl, (register_token a, (immediate_token name i h, tt)))
tokens_of_code (Jlt a b i) name h = (
  plain_token (codes "jlt") (omega arith) refl,
  (register_token a, (register_token b, (immediate_token name i h, tt))),
)
tokens_of_code (Call i) name h = (plain_token (codes "call") (omega arith) refl, (immediate_token name i h, tt))
tokens_of_code Ret name h = (plain_token (codes "ret") (omega arith) refl, tt)
tokens_of_code (Sys c) name h = (plain_token (codes "sys") (omega arith) refl, (call_token c, tt))

tokens_of : (s : Statement) → IsStatement s → AllByRecursion IsToken (statement_words s)
unfolding statement_words IsStatement
tokens_of Blank h = tt
tokens_of (Label name) h = (label_token name h, tt)
tokens_of (Data name [] zeros) h = (
  plain_token (codes "space") (omega arith) refl,
  (name_token name h.0, (decimal_token zeros (omega (arith, h.2)), tt)),
)
tokens_of (Data name (b ∷ bs) zeros) h =
    (plain_token (codes "text") (omega arith) refl, (name_token name h.0, (quoted_token (b ∷ bs), tt)))
tokens_of (Code i name) h = tokens_of_code i name h

read_words : (s : Statement) → IsStatement s → statement_in (statement_words s) ≡ Ok s
unfolding begins_comment statement_in label_or statement_with label_of text_of space_of statement_words IsStatement
read_words Blank h = refl
read_words (Label name) h =
    ap (λ v. cond v (Ok Blank) (label_or (label_of (name ++ 58 ∷ [])) (name ++ 58 ∷ []) []))
    (name-no_comment name (58 ∷ []) h)
    ∙ ap (λ o. label_or o (name ++ 58 ∷ []) []) (read_label name h)
read_words (Data name [] zeros) h =
    ap (λ v. ok_or BadOperand (cond v (Some name) None)
    >>= (λ x. ok_or BadOperand (number_of (decimal zeros))
    >>= (λ size. cond (leb 1 size && leb size data_limit) (Ok (Data x [] size)) (Err BadOperand)))) h.0
    ∙ ap (λ o. ok_or BadOperand o
    >>= (λ size. cond (leb 1 size && leb size data_limit) (Ok (Data name [] size)) (Err BadOperand)))
    (number_of-decimal zeros (omega (arith, h.2)))
    ∙ ap (λ v. cond (v && leb zeros data_limit) (Ok (Data name [] zeros)) (Err BadOperand)) (le-leb 1 zeros h.1)
    ∙ ap (λ v. cond v (Ok (Data name [] zeros)) (Err BadOperand)) (le-leb zeros data_limit h.2)
read_words (Data name (b ∷ bs) zeros) h =
    ap (λ v. ok_or BadOperand (cond v (Some name) None)
    >>= (λ x. ok_or BadOperand (quoted_bytes (quoted (b ∷ bs))) >>= (λ bytes. Ok (Data x bytes 1)))) h.0
    ∙ ap (λ o. ok_or BadOperand o >>= (λ bytes. Ok (Data name bytes 1))) (quoted_bytes-quoted (b ∷ bs))
    ∙ ap (λ n. Ok (Data name (b ∷ bs) n)) (sym h.1)
read_words (Code i name) h = read_code i name h

pub read_spelled : (s : Statement) → IsStatement s → statement_of (spelled s) ≡ Ok s
unfolding statement_of
read_spelled s h = ap statement_in (texts_of-spaced (statement_words s) (tokens_of s h)) ∙ read_words s h

-- ---- lines

spelled-inline : (s : Statement) → IsStatement s → IsInline (spelled s)
spelled-inline s h = spaced-inline (statement_words s) (tokens_of s h)

pub lines-inline : (ss : List Statement) → AllByRecursion IsStatement ss → AllByRecursion IsInline (map spelled ss)
lines-inline [] h = tt
lines-inline (s ∷ ss) h = (spelled-inline s h.0, lines-inline ss h.1)

pub reads_spelled : (ss : List Statement) → AllByRecursion IsStatement ss
    → map statement_of (map spelled ss) ≡ map Ok ss
reads_spelled [] h = refl
reads_spelled (s ∷ ss) h =
    ap (λ r. r ∷ map statement_of (map spelled ss)) (read_spelled s h.0) ∙ ap (λ rs. Ok s ∷ rs) (reads_spelled ss h.1)

pub read_text : (s : Statement) (ss : List Statement) → AllByRecursion IsStatement (s ∷ ss)
    → reads_of (text_of_statements (s ∷ ss)) ≡ map Ok (s ∷ ss)
read_text s ss h =
    ap (map statement_of) (lines_of-joined (spelled s) (map spelled ss) (lines-inline (s ∷ ss) h))
    ∙ reads_spelled (s ∷ ss) h

-- no statements are the empty text, and its one line says nothing
no_lines : (name : List ℕ) (first : ℕ) → program_of name [] first ≡ assembled name first []
unfolding assembled folded with_statement statement_of statement_in words_from
no_lines name first = refl

pub program_spelled : (name : List ℕ) (first : ℕ) (ss : List Statement) → AllByRecursion IsStatement ss
    → program_of name (text_of_statements ss) first ≡ assembled name first (map Ok ss)
program_spelled name first [] h = no_lines name first
program_spelled name first (s ∷ ss) h = ap (assembled name first) (read_text s ss h)
