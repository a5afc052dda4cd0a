-- The words that instructions begin with.
use Rattle.std.specs.Prelude.{ℕ, Bool, List, [], ◌∷◌, codes}
use Rattle.std.specs.Str.{bytes_eq}
use Rattle.pr_asm.specs.declared.mnemonics.Mnemonic.{Mnemonic}
use Rattle.pr_asm.specs.declared.mnemonics.Mnemonic.TheVariants.{Bpt, Nop, Set, Mov, Add, Sub, Mul, Div, Ld, St, Ldb, Stb, Jmp, Jz, Jnz, Jlt, Call, Ret, Sys}

-- every mnemonic, in the order of the operation codes
abbrev pub mnemonics : List Mnemonic
mnemonics =
    Bpt ∷ Nop ∷ Set ∷ Mov ∷ Add ∷ Sub ∷ Mul ∷ Div ∷ Ld ∷ St ∷ Ldb ∷ Stb ∷ Jmp ∷ Jz ∷ Jnz ∷ Jlt ∷ Call ∷ Ret ∷ Sys ∷ []

-- the word of a mnemonic
unfoldable pub mnemonic_name : Mnemonic → List ℕ
mnemonic_name Bpt = codes "bpt"
mnemonic_name Nop = codes "nop"
mnemonic_name Set = codes "set"
mnemonic_name Mov = codes "mov"
mnemonic_name Add = codes "add"
mnemonic_name Sub = codes "sub"
mnemonic_name Mul = codes "mul"
mnemonic_name Div = codes "div"
mnemonic_name Ld = codes "ld"
mnemonic_name St = codes "st"
mnemonic_name Ldb = codes "ldb"
mnemonic_name Stb = codes "stb"
mnemonic_name Jmp = codes "jmp"
mnemonic_name Jz = codes "jz"
mnemonic_name Jnz = codes "jnz"
mnemonic_name Jlt = codes "jlt"
mnemonic_name Call = codes "call"
mnemonic_name Ret = codes "ret"
mnemonic_name Sys = codes "sys"

-- whether these bytes are the whole word of the mnemonic
abbrev pub is_spelled : List ℕ → Mnemonic → Bool
is_spelled word m = bytes_eq word (mnemonic_name m)
