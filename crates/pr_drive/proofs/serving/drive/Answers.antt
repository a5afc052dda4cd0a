use Rattle.std.proofs.Common.{refl}
use Rattle.std.proofs.lemmas.Result.{IfOk-weaker, on_err_weaker}
use Rattle.pr_ends.specs.Ends.{ends_of}
use Rattle.pr_drive.proofs.InputLemmas.{input}
use Rattle.pr_drive.proofs.ServeLemmas.{opened-as, refused-as, refused-cut, refused-told, went-cut, went-on}
use Rattle.pr_drive.proofs.serving.drive.Goals as goal

pub returns-in-Session-clause-told : goal.returns-in-Session-clause-told
returns-in-Session-clause-told g c =
    let begun = input c.read_opening.new.lines.held (g.S.Source.left c.read_opening.new.source) in
    let old = ends_of g.S.Source.left g.S.Source.faults g.K.Sink.written g.K.Sink.faults c.args.source.now
    c.args.sink.now in
    let new = ends_of g.S.Source.left g.S.Source.faults g.K.Sink.written g.K.Sink.faults c.go_on.new.source
    c.go_on.new.sink in
    let opened = opened-as c.in_ok-lines.lines.held (g.S.Source.left c.args.source.now) begun c.in_ok-opening.opening
    c.in-Session.session c.in-Session.above
    c.in-Session.is c.in_ok-lines.ensures c.in_ok-opening.ensures.opens in
    IfOk-weaker c.go_on.result _ _
    (λ status h. went-on c.args.showing old new status c.in-Session.above c.in-Session.session begun opened h)
    c.go_on.ensures.told

pub returns-in-Session-clause-cut : goal.returns-in-Session-clause-cut
returns-in-Session-clause-cut g c =
    let begun = input c.read_opening.new.lines.held (g.S.Source.left c.read_opening.new.source) in
    let old = ends_of g.S.Source.left g.S.Source.faults g.K.Sink.written g.K.Sink.faults c.args.source.now
    c.args.sink.now in
    let new = ends_of g.S.Source.left g.S.Source.faults g.K.Sink.written g.K.Sink.faults c.go_on.new.source
    c.go_on.new.sink in
    let opened = opened-as c.in_ok-lines.lines.held (g.S.Source.left c.args.source.now) begun c.in_ok-opening.opening
    c.in-Session.session c.in-Session.above
    c.in-Session.is c.in_ok-lines.ensures c.in_ok-opening.ensures.opens in
    on_err_weaker c.go_on.result
    (λ h. went-cut c.args.showing old new c.in-Session.above c.in-Session.session begun opened h) c.go_on.ensures.cut

pub returns-clause-told : goal.returns-clause-told
returns-clause-told g c =
    let begun = input c.read_opening.new.lines.held (g.S.Source.left c.read_opening.new.source) in
    let old = ends_of g.S.Source.left g.S.Source.faults g.K.Sink.written g.K.Sink.faults c.args.source.now
    c.args.sink.now in
    let new = ends_of g.S.Source.left g.S.Source.faults g.K.Sink.written g.K.Sink.faults c.read_opening.new.source
    c.refuse.new.sink in
    let refused = refused-as c.in_ok-lines.lines.held (g.S.Source.left c.args.source.now) begun c.in_ok-opening.opening
    c.in-Refused.fault
    c.in-Refused.is c.in_ok-lines.ensures c.in_ok-opening.ensures.opens in
    IfOk-weaker c.refuse.result _ _
    (λ status h. refused-told c.args.showing old new status c.in-Refused.fault begun refused refl h)
    c.refuse.ensures.told

pub returns-clause-cut : goal.returns-clause-cut
returns-clause-cut g c =
    let begun = input c.read_opening.new.lines.held (g.S.Source.left c.read_opening.new.source) in
    let old = ends_of g.S.Source.left g.S.Source.faults g.K.Sink.written g.K.Sink.faults c.args.source.now
    c.args.sink.now in
    let new = ends_of g.S.Source.left g.S.Source.faults g.K.Sink.written g.K.Sink.faults c.read_opening.new.source
    c.refuse.new.sink in
    let refused = refused-as c.in_ok-lines.lines.held (g.S.Source.left c.args.source.now) begun c.in_ok-opening.opening
    c.in-Refused.fault
    c.in-Refused.is c.in_ok-lines.ensures c.in_ok-opening.ensures.opens in
    on_err_weaker c.refuse.result (λ h. refused-cut c.args.showing old new c.in-Refused.fault begun refused refl h)
    c.refuse.ensures.cut
