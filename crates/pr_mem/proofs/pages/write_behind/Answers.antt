use Rattle.std.proofs.Common.{◌-◌, length, arith}
use Rattle.std.specs.Arc.{arc_value}
use Rattle.std.proofs.lemmas.Result.{on_err_weaker, on_ok_weaker}
use Rattle.pr_mem.proofs.PageLemmas.{passed-kept, passed-written}
use Rattle.pr_mem.proofs.pages.write_behind.Goals as goal

pub returns-clause-ok : goal.returns-clause-ok
returns-clause-ok c =
    on_ok_weaker c.write_pages.result
    (λ e. passed-written arc_value c.args.pages.now c.write_pages.new.pages c.args.at c.args.bytes.now c.args.first
    c.min-passed.result (length c.args.pages.now - c.min-passed.result) c.requires.whole
    (omega (arith, c.min-passed.ensures)) (omega arith)
    (omega (arith, c.min-passed.ensures, c.saturating_sub.ensures)) e) c.write_pages.ensures.ok

pub returns-clause-err : goal.returns-clause-err
returns-clause-err c =
    on_err_weaker c.write_pages.result
    (λ e. passed-kept arc_value c.args.pages.now c.write_pages.new.pages c.min-passed.result
    (length c.args.pages.now - c.min-passed.result) (omega arith) e) c.write_pages.ensures.err
