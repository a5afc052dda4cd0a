use Rattle.std.proofs.Common.{◌+◌, ◌%◌, ◌^◌, ℕ, zero, suc, get_or, set, drop, replicate, List, [], ◌∷◌, refl, ◌∙◌, arith}
use Rattle.std.specs.List.{All}
use Rattle.std.proofs.Math.ListN.{length-set}
use Rattle.std.proofs.lemmas.List.{length-take, length-drop}
use Rattle.std.proofs.lemmas.List.Elements.{All-head, All-tail, All-set, All-take, All-drop, All-replicate}
use Rattle.std.proofs.lemmas.Nat.{mod_below, pow_pos}
use Rattle.pr_num.specs.Errnos.{errno_number}
use Rattle.pr_num.specs.Words.{IsByte, IsWord}
use Rattle.pr_num.specs.declared.errnos.Errno.{Errno}
use Rattle.pr_num.specs.declared.errnos.Errno.TheVariants.{Perm}
use Rattle.pr_num.specs.declared.syscalls.Sysno.{Sysno}
use Rattle.pr_num.specs.declared.syscalls.Sysno.TheVariants.{Exec, Sigreturn}
use Rattle.pr_model.specs.Registers.{arguments, with_result, stored, pc_of, address_at, moved_on}
use Rattle.pr_model.specs.declared.events.Res.{Res}
use Rattle.pr_model.specs.declared.events.Res.TheVariants.{Value, Error, Ended}
use Rattle.pr_reached.specs.InRange.{AreArguments, AreRegisters, IsResult}

-- Registers stay words, and there stay 11 of them, whatever is put in one of them; and what stands in them is a word.

-- ---- lists

-- what stands at a place, or 0 where nothing does
pub word-at : (P : ℕ → Type 0) → P 0 → (xs : List ℕ) (i : ℕ) → All P xs → P (get_or xs i 0)
word-at P none [] i all = none
word-at P none (x ∷ xs) zero all = All-head P x xs all
word-at P none (x ∷ xs) (suc i) all = word-at P none xs i (All-tail P x xs all)

pub word_at : (xs : List ℕ) (i : ℕ) → All IsWord xs → IsWord (get_or xs i 0)
word_at xs i all = word-at IsWord (omega arith) xs i all

pub byte_at : (xs : List ℕ) (i : ℕ) → All IsByte xs → IsByte (get_or xs i 0)
byte_at xs i all = word-at IsByte (omega arith) xs i all

-- ---- numbers

pub wraps : (n : ℕ) → IsWord (n % 2 ^ 64)
wraps n = mod_below n (2 ^ 64) (pow_pos 64)

pub address-word : (base offset : ℕ) → IsWord (address_at base offset)
address-word base offset = wraps (base + offset)

errno-word : (e : Errno) → IsWord (errno_number e)
unfolding errno_number
errno-word Perm = omega arith
errno-word _ = omega arith

pub byte-word : (n : ℕ) → IsByte n → IsWord n
byte-word n small = omega arith

-- ---- registers

pub register-at : (regs : List ℕ) (i : ℕ) → AreRegisters regs → IsWord (get_or regs i 0)
register-at regs i h = word_at regs i h.words

pub registers-set : (regs : List ℕ) (i v : ℕ) → IsWord v → AreRegisters regs → AreRegisters (set regs i v)
registers-set regs i v fits h = record {
  words = All-set IsWord regs i v fits h.words;
  count = length-set regs i v ∙ h.count;
}

pub moved_on-registers : (regs : List ℕ) → AreRegisters regs → AreRegisters (moved_on regs)
unfolding moved_on
moved_on-registers regs h = registers-set regs 10 (address_at (pc_of regs) 16) (address-word (pc_of regs) 16) h

pub zeros-registers : AreRegisters (replicate 11 0)
zeros-registers = record { words = All-replicate IsWord 11 0 (omega arith); count = refl }

-- ---- calls

pub arguments-words : (regs : List ℕ) → AreRegisters regs → AreArguments (arguments regs)
arguments-words regs h = record {
  words = All-take IsWord 6 (drop 1 regs) (All-drop IsWord 1 regs h.words);
  count = length-take 6 (drop 1 regs) ∙ (let size = length-drop 1 regs in let whole = h.count in omega arith);
}

with_result-registers : (result : Res) (regs : List ℕ) → IsResult result → AreRegisters regs
    → AreRegisters (with_result result regs)
unfolding with_result
with_result-registers (Value v) regs fits h =
    registers-set (set regs 0 v) 7 0 (omega arith) (registers-set regs 0 v fits h)
with_result-registers (Error e) regs fits h =
    registers-set (set regs 0 0) 7 (errno_number e) (errno-word e) (registers-set regs 0 0 (omega arith) h)
with_result-registers Ended regs fits h = h

pub result_0-registers : (regs : List ℕ) → AreRegisters regs → AreRegisters (with_result (Value 0) regs)
result_0-registers regs h = with_result-registers (Value 0) regs (omega arith) h

-- a result is stored, but for that of sigreturn and that of an exec
pub stored-registers : (call : Sysno) (result : Res) (regs : List ℕ) → IsResult result → AreRegisters regs
    → AreRegisters (stored call result regs)
unfolding stored
stored-registers Sigreturn (Value v) regs fits h = h
stored-registers Exec (Value v) regs fits h = h
stored-registers call result regs fits h = with_result-registers result regs fits h
