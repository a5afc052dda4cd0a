use Rattle.std.proofs.Common.{map, sym, ◌∙◌}
use Rattle.std.proofs.lemmas.Result.{err_from_is_err_and}
use Rattle.pr_scen.proofs.LineLemmas.{bytes_of}
use Rattle.pr_scen.proofs.PartLemmas.{line_stops, line_takes}
use Rattle.pr_scen.proofs.drafts.Draft.take_part.Goals as goal

pub returns-in_err-add_outer_line : goal.returns-in_err-add_outer_line
returns-in_err-add_outer_line c =
    let p = err_from_is_err_and c.from_residual.result c.from_residual.ensures.1 in
    rw (p.1, p.2)
    (line_stops c.args.self.now c.args.number c.args.first.now
    (map bytes_of c.args.below.now) c.in_err-add_outer_line.field-0.0
    (sym c.begins_block.ensures ∙ c.if-begins_block.false) c.in_err-add_outer_line.ensures)

pub returns : goal.returns
returns c =
    line_takes c.args.self.now c.args.number c.args.first.now (map bytes_of c.args.below.now) c.add_outer_line.new.self
    (sym c.begins_block.ensures ∙ c.if-begins_block.false) c.in_ok-add_outer_line.ensures
