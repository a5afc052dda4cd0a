use Rattle.std.proofs.Common.{length}
use Rattle.pr_asm.proofs.SymbolLemmas.{within}
use Rattle.pr_asm.proofs.programs.Program.labels.Goals as goal

pub returns-clause-most : goal.returns-clause-most
returns-clause-most c =
    rw c.deref.ensures.value
    (within c.self.inside.labels.items
    (length c.self.inside.code.items) c.self.invariant.code c.self.invariant.labels)
