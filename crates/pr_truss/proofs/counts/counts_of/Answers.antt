use Rattle.std.proofs.Common.{◌∙◌, ◌∷◌, [], ◌++◌, ap, arith, set, get_or, ◌+◌, subst, sym, take}
use Rattle.std.proofs.lemmas.List.{take_more, length-take-le}
use Rattle.pr_truss.proofs.CountLemmas.{table_first, table_more, count-le}
use Rattle.pr_truss.specs.Counts.{IsTable}
use Rattle.pr_truss.proofs.counts.counts_of.Goals as goal

pub loop-report-init : goal.loop-report-init
loop-report-init c = table_first c.args.kind

pub overflow_add-table : goal.overflow_add-table
overflow_add-table c =
    omega (
      arith,
      c.loop-report.invariant.rows c.number_in.result c.number_in.ensures.range,
      count-le (take c.loop-report.report-index c.args.reports.now) c.args.kind c.number_in.result,
      length-take-le c.loop-report.report-index c.args.reports.now c.loop-report.auto.report-index-end,
      c.loop-report-test.true,
      c.loop-report.end-fits,
    )

pub loop-report-preserved : goal.loop-report-preserved
loop-report-preserved c =
    subst (λ rs.
    IsTable rs c.args.kind
    (set c.loop-report.table c.number_in.result (get_or c.loop-report.table c.number_in.result 0 + 1)))
    (sym (take_more c.args.reports.now c.loop-report.report-index c.report-item.result c.loop-report-test.true
    ∙ ap (λ item. take c.loop-report.report-index c.args.reports.now ++ item ∷ []) (sym c.report-item.is)))
    (table_more
    (take c.loop-report.report-index c.args.reports.now) c.report-item.result c.args.kind c.loop-report.table
    c.number_in.result c.loop-report.invariant (sym c.number_in.ensures.value))
