use Rattle.std.proofs.Common.{◌≡◌, ◌+◌, ◌-◌, ◌%◌, ◌^◌, ◌++◌, List, ℕ, sym, ap, ◌∙◌, arith}
use Rattle.pr_model.specs.Reads.{mapped_from}
use Rattle.pr_core.specs.CoreMemory.{space_in}
use Rattle.pr_core.proofs.MemoryByteLemmas.{mapped-all, mapped-end, mapped-more}
use Rattle.pr_core.proofs.core_memory.CoreSpace.short.Goals as goal

pub returns-in_default : goal.returns-in_default
returns-in_default c =
    sym (mapped-end (space_in c.args.self.now) c.loop-left.address c.loop-left.bytes.items c.loop-left.left
    (omega arith)
    (sym c.in_default.ensures)) ∙ c.loop-left.invariant

pub loop-left-preserved : goal.loop-left-preserved
loop-left-preserved c =
    ap (λ (bytes : List ℕ). bytes ++ mapped_from (space_in c.args.self.now) ((c.loop-left.address + 1) % 2 ^ 64)
    (c.loop-left.left - 1)) c.in_ok-push.ensures.items
    ∙ sym (mapped-more (space_in c.args.self.now) c.loop-left.address c.loop-left.bytes.items c.loop-left.left
    c.in-Some.byte (omega arith) (sym c.in-Some.ensures)) ∙ c.loop-left.invariant

pub returns : goal.returns
returns c =
    let space = space_in c.args.self.now in
    let none : c.loop-left.left ≡ 0 = omega arith in
    sym (ap (λ (n : ℕ). c.loop-left.bytes.items ++ mapped_from space c.loop-left.address n) none
    ∙ mapped-all space c.loop-left.address c.loop-left.bytes.items) ∙ c.loop-left.invariant
