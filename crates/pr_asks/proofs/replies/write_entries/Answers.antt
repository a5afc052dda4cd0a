use Rattle.std.proofs.Common.{◌∙◌, arith, drop, sym, ap}
use Rattle.std.specs.Option.{option_copied}
use Rattle.pr_asks.proofs.ReplyLemmas.{entries-end, entries-step}
use Rattle.pr_asks.proofs.replies.write_entries.Goals as goal
use Rattle.pr_plain.specs.HistoryText.{entries_text}

pub loop-at-preserved : goal.loop-at-preserved
loop-at-preserved c =
    entries-step _ _ _ _ _ (sym c.get.ensures ∙ ap option_copied c.unwrap.ensures) c.in_ok-write_entry.ensures.written
    ∙ c.loop-at.invariant

pub returns : goal.returns
returns c =
    entries-end c.args.out.now.items _ c.loop-at.at c.args.history.now.entries
    (entries_text c.args.from (drop c.args.from c.args.history.now.entries))
    (omega (arith, c.loop-at-test.false, c.len-at-end.ensures)) c.loop-at.invariant
