use Rattle.std.proofs.Common.{◌≡◌, ◌++◌, subst}
use Rattle.std.specs.Result.{OnOk}
use Rattle.pr_truss.proofs.CountLemmas.{calls_in_tables}
use Rattle.pr_truss.proofs.counts.write_all_calls.Goals as goal

pub returns : goal.returns
returns c =
    subst (λ rows. OnOk c.write_calls.result (c.write_calls.new.out.items ≡ c.args.out.now.items ++ rows))
    (calls_in_tables c.args.reports.now c.counts_of-counts.result c.counts_of-errors.result c.counts_of-counts.ensures
    c.counts_of-errors.ensures) c.write_calls.ensures
