use Rattle.pr_asm.proofs.PlaceLemmas.{added, not_some}
use Rattle.pr_asm.specs.Placing.{found}
use Rattle.pr_asm.proofs.places.Places.add.Goals as goal

pub returns-in_ok-insert : goal.returns-in_ok-insert
returns-in_ok-insert c =
    added c.args.self.now (record { map = c.insert.new.self }) c.args.name c.args.place c.in_ok-insert.ensures.updates
    (not_some c.find.result
    (found c.args.self.now c.args.name) c.is_none.result c.is_none.ensures c.if-is_none.true c.find.ensures)
