use Rattle.std.proofs.Common.{arith}
use Rattle.pr_plain.proofs.EntryLoop.{line-fewer}
use Rattle.pr_plain.proofs.entry_lines.EntryLines.next.Goals as goal

-- one line fewer is left, and one entry more is read
pub invariant_of-self : goal.invariant_of-self
invariant_of-self c =
    let fewer = line-fewer _ c.in-Some.bytes.now c.in-Some.rest c.in-Some.ensures in
    omega (arith, fewer, c.self.invariant)

pub returns-clause-few : goal.returns-clause-few
returns-clause-few c =
    let fewer = line-fewer _ c.in-Some.bytes.now c.in-Some.rest c.in-Some.ensures in
    omega (arith, fewer, c.self.invariant)
