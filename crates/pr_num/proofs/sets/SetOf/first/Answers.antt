use Rattle.std.proofs.Common.{◌^◌, ◌<◌, length, sym, rules}
use Rattle.pr_num.proofs.NumberedLemmas.{least_entry-zero, least_entry-none}
use Rattle.pr_num.proofs.sets.SetOf.first.Goals as goal

pub returns-then-self-eq0-clause-value : goal.returns-then-self-eq0-clause-value
returns-then-self-eq0-clause-value g c =
    sym (least_entry-zero g.T.Numbered.number_of g.T.Numbered.table c.args.self (search rules))

pub returns-clause-none : goal.returns-clause-none
returns-clause-none g c =
    let within : c.args.self < 2 ^ length g.T.Numbered.table =
    rw c.entries.ensures.whole (rw (← c.self.view_is) c.self.invariant) in
    rw (c.least_of.ensures, c.entries.ensures.value)
    (least_entry-none g.T.Numbered.number_of g.T.Numbered.table c.args.self c.entries.ensures.counted within)
