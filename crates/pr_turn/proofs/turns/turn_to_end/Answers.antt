use Rattle.std.proofs.Common.{false, ap, sym}
use Rattle.pr_turn.proofs.TurnLemmas.{makes-end, makes-used}
use Rattle.pr_turn.specs.declared.making.Made.{Made}
use Rattle.pr_turn.specs.declared.next.Next.TheVariants.{Ends}
use Rattle.pr_turn.proofs.turns.turn_to_end.Goals as goal

pub settle_under-requires : goal.settle_under-requires
settle_under-requires c =
    makes-used _ _ _ _ _ _ _
    (makes-end c.args.sys.now c.end.new.sys c.args.pid c.args.id
    (Ends c.args.did c.args.status) c.args.did c.args.status c.quiet.result c.requires.next c.end.ensures
    c.quiet.ensures)
    c.requires.room

pub returns : goal.returns
returns c = record {
  did = c.quiet.result;
  stop = false;
  after = c.end.new.sys;
  makes =
      makes-end c.args.sys.now c.end.new.sys c.args.pid c.args.id
      (Ends c.args.did c.args.status) c.args.did c.args.status c.quiet.result c.requires.next c.end.ensures
      c.quiet.ensures;
  settled = c.settle_under.ensures;
  told = ap (λ (m : Made). record { did = m.did; stop = false }) (sym c.quiet.ensures);
}
