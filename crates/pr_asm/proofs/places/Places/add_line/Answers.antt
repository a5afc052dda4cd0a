use Rattle.std.proofs.Common.{◌∙◌, sym}
use Rattle.pr_asm.proofs.PlaceLemmas.{line-refused, line-silent, line-placed}
use Rattle.pr_asm.proofs.places.Places.add_line.Goals as goal
use Rattle.pr_asm.proofs.places.Places.add_line.Goals.{in-Some+in_ok-add, in_default-placed}

pub returns-in_default-clause-names : goal.returns-in_default-clause-names
returns-in_default-clause-names c = line-refused _ _ _ _ _ c.in_default.is

pub returns-clause-names : goal.returns-clause-names
returns-clause-names c =
    elim c.match-placed.branch [
      | in-Some+in_ok-add w ↦
          line-placed c.args.self.now c.match-placed.self w.add.new.self c.args.above c.after.result c.args.line
          c.args.read.now c.in-Ok.statement c.in-Ok.is c.after.ensures.value _ _ w.self-is
          (sym w.in-Some.ensures) w.in_ok-add.ensures
      | in_default-placed w ↦
          line-silent c.args.self.now c.match-placed.self c.args.above c.after.result c.args.line c.args.read.now
          c.in-Ok.statement c.in-Ok.is c.after.ensures.value w.self-is (sym c.placed.ensures ∙ w.in_default-placed.is)
    ]
