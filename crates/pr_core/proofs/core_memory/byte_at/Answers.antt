use Rattle.std.proofs.Common.{List, ℕ, sym, ap, ◌∙◌}
use Rattle.pr_core.proofs.MemoryByteLemmas.{found-first, found-later}
use Rattle.pr_core.specs.CoreMemory.{byte_of}
use Rattle.pr_core.specs.CoreTools.{mapping_with}
use Rattle.pr_core.proofs.core_memory.byte_at.Goals as goal

pub returns-in-Some-byte_of : goal.returns-in-Some-byte_of
returns-in-Some-byte_of c =
    found-first _ _ _ _ c.in-Some.mapping.now _ c.args.address _ c.in-Some.ensures.cases.0
    c.in-Some-split_first.ensures.cases.0 c.loop-mapping.invariant c.in-Some-byte_of.byte
    (sym (c.in-Some-byte_of.ensures
    ∙ ap (λ (bytes : List ℕ). byte_of (mapping_with c.in-Some.mapping.now bytes) c.args.address) c.as_slice.ensures))

pub loop-mapping-preserved : goal.loop-mapping-preserved
loop-mapping-preserved c =
    found-later _ _ _ _ c.in-Some.mapping.now _ c.args.address _ c.in-Some.ensures.cases.0
    c.in-Some-split_first.ensures.cases.0 c.loop-mapping.invariant
    (sym (c.in_default-byte_of.ensures
    ∙ ap (λ (bytes : List ℕ). byte_of (mapping_with c.in-Some.mapping.now bytes) c.args.address) c.as_slice.ensures))
