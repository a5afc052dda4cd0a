use Rattle.std.proofs.Common.{◌≡◌, ◌++◌, subst}
use Rattle.std.specs.Result.{OnOk}
use Rattle.pr_truss.proofs.CountLemmas.{signals_in_table}
use Rattle.pr_truss.proofs.counts.write_all_signals.Goals as goal

pub returns : goal.returns
returns c =
    subst (λ rows. OnOk c.write_signals.result (c.write_signals.new.out.items ≡ c.args.out.now.items ++ rows))
    (signals_in_table c.args.reports.now c.counts_of-counts.result c.counts_of-counts.ensures) c.write_signals.ensures
