use Rattle.std.proofs.Common.{◌+◌, [], get_or, map, arith}
use Rattle.std.proofs.lemmas.List.{length-map}
use Rattle.std.proofs.lemmas.Result.{err_from_is_err_and}
use Rattle.pr_text.proofs.StepLemmas.{folded-more, folded-stop, folded-end}
use Rattle.pr_scen.specs.Blocks.{script_line_read}
use Rattle.pr_scen.proofs.LineLemmas.{bytes_of, no_line, line_at, in_lines}
use Rattle.pr_scen.proofs.PartLemmas.{stops_whole}
use Rattle.pr_scen.proofs.drafts.Draft.add_script_lines.Goals as goal

pub returns-in_err-add_inner_line : goal.returns-in_err-add_inner_line
returns-in_err-add_inner_line c =
    let lines = c.args.lines.now in
    let i = c.loop-i.i in
    let p = err_from_is_err_and c.from_residual.result c.from_residual.ensures.1 in
    rw (p.1, p.2)
    (stops_whole c.in_err-add_inner_line.field-0.0 _ _ c.in_err-add_inner_line.ensures
    (λ fault stopped. folded-stop script_line_read (c.args.first + i) i c.loop-i.self (get_or lines i no_line).now
    [] (map bytes_of lines) _ fault (in_lines lines i (omega arith))
    (line_at lines i (omega arith)) stopped c.loop-i.invariant))

pub loop-i-preserved : goal.loop-i-preserved
loop-i-preserved c =
    let lines = c.args.lines.now in
    let i = c.loop-i.i in
    folded-more script_line_read (c.args.first + i) i (c.args.first + (i + 1)) c.loop-i.self c.add_inner_line.new.self
    (get_or lines i no_line).now
    [] (map bytes_of lines) _ (in_lines lines i (omega arith))
    (line_at lines i (omega arith)) c.in_ok-add_inner_line.ensures (omega arith) c.loop-i.invariant

pub returns : goal.returns
returns c =
    let lines = c.args.lines.now in
    folded-end script_line_read (c.args.first + c.loop-i.i) c.loop-i.i c.loop-i.self (map bytes_of lines) _
    (omega (arith, length-map lines bytes_of)) c.loop-i.invariant
