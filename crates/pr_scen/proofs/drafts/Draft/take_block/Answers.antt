use Rattle.std.proofs.Common.{get_or, map, take, refl, sym}
use Rattle.std.proofs.lemmas.Result.{err_from_is_err_and}
use Rattle.pr_scen.proofs.LineLemmas.{bytes_of, no_line, line_at, in_lines, body_taken}
use Rattle.pr_scen.proofs.PartLemmas.{endless_stops, block_stops, block_takes}
use Rattle.pr_scen.proofs.drafts.Draft.take_block.Goals as goal

pub returns-in_default : goal.returns-in_default
returns-in_default c =
    endless_stops c.refuse_endless.result c.args.self.now c.args.number c.args.first.now
    (map bytes_of c.args.below.now) c.requires.begins (sym c.in_default.ensures.value) c.refuse_endless.ensures

pub returns-in_err-add_block : goal.returns-in_err-add_block
returns-in_err-add_block c =
    let below = c.args.below.now in
    let k = c.in-Some.end in
    let p = err_from_is_err_and c.from_residual.result c.from_residual.ensures.1 in
    rw (p.1, p.2)
    (block_stops c.args.self.now c.args.number c.args.first.now (map bytes_of below) k (map bytes_of (take k below))
    (get_or below k no_line).now c.requires.begins (sym c.in-Some.ensures.value) (body_taken below k k refl)
    (line_at below k c.in-Some.ensures.within) c.in_err-add_block.field-0.0 c.in_err-add_block.ensures)

pub returns : goal.returns
returns c =
    let below = c.args.below.now in
    let k = c.in-Some.end in
    block_takes c.args.self.now c.args.number c.args.first.now (map bytes_of below) k (map bytes_of (take k below))
    (get_or below k no_line).now c.requires.begins (sym c.in-Some.ensures.value) (body_taken below k k refl)
    (line_at below k c.in-Some.ensures.within) c.add_block.new.self
    (in_lines below k c.in-Some.ensures.within) c.in_ok-add_block.ensures
