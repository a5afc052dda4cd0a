use Rattle.std.proofs.Common.{◌∙◌, ◌-◌, ap, take, drop, refl, arith}
use Rattle.pr_mem.proofs.RunLemmas.{written_bytes-part, written_bytes-none}
use Rattle.pr_mem.proofs.page_writes.write_part.Goals as goal

pub returns-then-start-end : goal.returns-then-start-end
returns-then-start-end c =
    written_bytes-part c.args.at c.args.bytes.now c.args.first c.args.old.now c.copy_from_slice.new.self
    c.max-start.result c.min-end.result _ _ c.max-start.ensures
    (omega (arith, c.min-end.ensures, c.saturating_add.ensures)) c.if-start-end.true refl (omega arith)
    (c.copy_from_slice.ensures.after
    ∙ ap (λ n. take n (drop (c.max-start.result - c.args.at) c.args.bytes.now)) (omega arith))

pub returns-else-start-end : goal.returns-else-start-end
returns-else-start-end c =
    written_bytes-none c.args.at c.args.bytes.now c.args.first c.args.old.now c.max-start.result c.min-end.result
    c.max-start.ensures (omega (arith, c.min-end.ensures, c.saturating_add.ensures)) (omega arith)
