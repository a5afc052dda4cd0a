use Rattle.std.proofs.Common.{◌≡◌, ◌∙◌, sym, None}
use Rattle.std.specs.Int.RustNames.{bit_and}
use Rattle.bitflags.specs.Sets.{known_bits}
use Rattle.pr_num.proofs.FlagBounds.{unknown-none}
use Rattle.pr_num.proofs.flags.KnownFlags.from_word.Goals as goal

pub returns-in_err-bits : goal.returns-in_err-bits
returns-in_err-bits g c =
    c.from_residual.ensures
    ∙ sym (unknown-none g.B.FlagBits.width
    (known_bits g.B.Flags.table) c.args.w g.met.B.FlagBits.lowest other) where
      other : bit_and c.args.w (known_bits g.B.Flags.table) ≡ c.args.w → ⊥
      other e =
          let some = (c.from_bits.ensures.known g.met.B.FlagBits.is_exact).1 e in
          let none : c.from_bits.result ≡ None = c.in_err-bits.was in
          cc
