use Rattle.std.proofs.Common.{sym}
use Rattle.pr_lines.proofs.LineLemmas.{took-all, took-to}
use Rattle.pr_lines.proofs.lines.Lines.take_held.Goals as goal

pub returns-in_ok-extend_line-in-Some : goal.returns-in_ok-extend_line-in-Some
returns-in_ok-extend_line-in-Some c =
    took-to c.args.line.now.items c.extend_line.new.line.items c.args.self.now.held c.pass.new.self.held
    c.held-held.result.now
    c.in-Some.place (sym c.in-Some.ensures.place) c.held-held.ensures c.in_ok-extend_line-in-Some.ensures c.pass.ensures

pub returns-in_ok-extend_line-in-None : goal.returns-in_ok-extend_line-in-None
returns-in_ok-extend_line-in-None c =
    took-all c.args.line.now.items c.extend_line-in-None.new.line.items c.args.self.now.held
    c.pass-in-None.new.self.held
    c.held-held.result.now
    (sym c.in-None.ensures.place) c.held-held.ensures c.in_ok-extend_line-in-None.ensures c.pass-in-None.ensures
