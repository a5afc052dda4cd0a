use Rattle.std.proofs.Common.{◌<◌, ◌+◌, arith, refl, ap, length, ℕ}
use Rattle.std.specs.List.{flat_map}
use Rattle.std.proofs.lemmas.List.{length-append}
use Rattle.pr_num.specs.declared.limits.TheConstants.{LINE_LIMIT}
use Rattle.pr_text.specs.Quotes.{quoted_byte}
use Rattle.pr_text.proofs.QuoteLemmas.{quoted_front}
use Rattle.pr_text.proofs.lines.Line.quoted_bytes.Goals as goal

pub returns-in_err-text-clause-too_long : goal.returns-in_err-text-clause-too_long
returns-in_err-text-clause-too_long c =
    let passes = c.in_err-text.ensures.too_long.0 refl in
    let shown = quoted_front c.args.bytes.now c.loop-b.b-index c.loop-b-test.true in
    let written = ap length c.loop-b.invariant.written in
    let text = ap length c.quoted_byte-len.ensures.bytes in
    let long : LINE_LIMIT < length c.args.self.now + length (flat_map quoted_byte c.args.bytes.now) =
    omega (arith, length-append {A = ℕ}) in
    (λ _. long, λ _. c.from_residual.ensures.0)
