use Rattle.std.proofs.Common.{arith}
use Rattle.std.proofs.lemmas.Result.{on_ok_weaker}
use Rattle.pr_mem.proofs.WriteLemmas.{is_written-none, is_written-one}
use Rattle.pr_mem.proofs.writes.write_one.Goals as goal

pub returns-then-place-mappings-clause-ok : goal.returns-then-place-mappings-clause-ok
returns-then-place-mappings-clause-ok c =
    on_ok_weaker c.write.result
    (λ e. is_written-one c.args.at c.args.bytes.now c.args.mappings.now c.args.place _ c.write.new.self
    c.requires.space c.requires.place c.requires.last (omega arith) e) c.write.ensures.ok

pub returns-else-place-mappings-clause-ok : goal.returns-else-place-mappings-clause-ok
returns-else-place-mappings-clause-ok c =
    is_written-none c.args.at c.args.bytes.now c.args.mappings.now c.args.place c.requires.place (omega arith)
