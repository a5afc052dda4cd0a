use Rattle.std.proofs.Common.{arith, ◌+◌}
use Rattle.std.proofs.lemmas.Result.{err_from_is_err_and}
use Rattle.pr_asm.specs.Placing.{found}
use Rattle.pr_text.proofs.StepLemmas.{folded-more, folded-stop, folded-end}
use Rattle.pr_asm.specs.Assembly.{read_added_at}
use Rattle.pr_asm.proofs.ReadingLemmas.{lines-start, stops_whole}
use Rattle.pr_asm.proofs.reading.assemble.Goals as goal

pub loop-i-init : goal.loop-i-init
loop-i-init c =
    rw c.empty-program.ensures
    (lines-start c.in_ok-places.places c.args.name c.args.first _ c.args.reads.now
    (omega arith) c.in_ok-places.ensures)

pub loop-i-preserved : goal.loop-i-preserved
loop-i-preserved c =
    folded-more (read_added_at (found c.in_ok-places.places))
    (c.args.first + c.loop-i.i) c.loop-i.i _ c.loop-i.program c.add_line.new.self c.index-reads-i.result _
    c.args.reads.now _ (omega arith) c.index-reads-i.is c.in_ok-add_line.ensures (omega arith) c.loop-i.invariant

pub returns-in_err-add_line : goal.returns-in_err-add_line
returns-in_err-add_line c =
    let p = err_from_is_err_and c.from_residual-in_err-add_line.result c.from_residual-in_err-add_line.ensures.1 in
    rw (p.1, p.2)
    (stops_whole c.in_err-add_line.field-0.0 _ _ c.in_err-add_line.ensures
    (λ fault stopped.
    folded-stop (read_added_at (found c.in_ok-places.places))
    (c.args.first + c.loop-i.i) c.loop-i.i c.loop-i.program c.index-reads-i.result _ c.args.reads.now _ fault
    (omega arith) c.index-reads-i.is stopped c.loop-i.invariant))

pub returns : goal.returns
returns c =
    folded-end (read_added_at (found c.in_ok-places.places))
    (c.args.first + c.loop-i.i) c.loop-i.i c.loop-i.program c.args.reads.now _ (omega arith) c.loop-i.invariant
