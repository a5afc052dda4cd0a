use Rattle.std.proofs.Common.{◌≡◌, ℕ, ◌<◌, ◌+◌, ◌++◌, length, drop, ap, refl, arith}
use Rattle.std.proofs.lemmas.List.{length-append}
use Rattle.pr_num.specs.Limits.{line_limit}
use Rattle.pr_num.specs.declared.syscalls.ArgKind.TheVariants.{Dec}
use Rattle.pr_line.specs.ArgumentTexts.{came_of, arguments_text}
use Rattle.pr_line.proofs.LengthLemmas.{arguments_text-more}
use Rattle.pr_line.proofs.arguments.arguments_text.Goals as goal

pub returns-in_err-text-clause-too_long : goal.returns-in_err-text-clause-too_long
returns-in_err-text-clause-too_long c =
    let a = c.args in
    let i = c.loop-i.i in
    let passes = c.in_err-text.ensures.too_long.0 refl in
    let place = ap length c.separator.ensures in
    let more =
    ap length (arguments_text-more a.size (came_of a.text) a.arguments.now a.kinds.now i Dec c.loop-i-test.true) in
    let written : length
    (c.loop-i.line ++ arguments_text a.size (came_of a.text) a.arguments.now (drop i a.kinds.now) i)
    ≡ length (a.line.now ++ arguments_text a.size (came_of a.text) a.arguments.now a.kinds.now 0) =
    ap length c.loop-i.invariant.written in
    let long : line_limit
    < length a.line.now + length (arguments_text a.size (came_of a.text) a.arguments.now a.kinds.now 0) =
    omega (arith, length-append {A = ℕ}) in
    (λ _. long, λ _. c.from_residual.ensures.0)

pub returns-in_err-argument-clause-too_long : goal.returns-in_err-argument-clause-too_long
returns-in_err-argument-clause-too_long c =
    let a = c.args in
    let i = c.loop-i.i in
    let passes = c.in_err-argument.ensures.too_long.0 refl in
    let separated = ap length c.in_ok-text.ensures.ok in
    let place = ap length c.separator.ensures in
    let more =
    ap length (arguments_text-more a.size (came_of a.text) a.arguments.now a.kinds.now i Dec c.loop-i-test.true) in
    let written : length
    (c.loop-i.line ++ arguments_text a.size (came_of a.text) a.arguments.now (drop i a.kinds.now) i)
    ≡ length (a.line.now ++ arguments_text a.size (came_of a.text) a.arguments.now a.kinds.now 0) =
    ap length c.loop-i.invariant.written in
    let long : line_limit
    < length a.line.now + length (arguments_text a.size (came_of a.text) a.arguments.now a.kinds.now 0) =
    omega (arith, length-append {A = ℕ}) in
    (λ _. long, λ _. c.from_residual-in_err-argument.ensures.0)
