use Rattle.std.proofs.Common.{◌∙◌, List, ℕ, subst, sym}
use Rattle.pr_drive.proofs.EndLemmas.{next-answered, next-asked, next-cut, on-err, pass-cut}
use Rattle.pr_drive.proofs.InputLemmas.{Takes, input}
use Rattle.pr_drive.proofs.answers.answer_next.Goals as goal

pub returns-in_err-pass-clause-cut : goal.returns-in_err-pass-clause-cut
returns-in_err-pass-clause-cut g c =
    let old = input c.args.lines.now.held (g.S.Source.left c.args.source.now) in
    let new = input c.next.new.self.held (g.S.Source.left c.next.new.source) in
    let takes : Takes c.in_ok-there.there c.next.new.line.items old new = record
    { takes = c.in_ok-there.ensures.takes; read = c.in_ok-there.ensures.read } in
    let there = subst (λ (l : List ℕ). Takes c.in_ok-there.there l old new) (sym c.deref.ensures.value) takes in
    on-err _ _
    (pass-cut c.in_ok-there.there c.in_ok-came.came c.args.number c.deref.result.now old new c.args.session.now
    c.answer_line.new.session _ _
    c.if-not-there.false there c.in_ok-came.ensures.came)

pub returns-clause-answered : goal.returns-clause-answered
returns-clause-answered g c =
    let old = input c.args.lines.now.held (g.S.Source.left c.args.source.now) in
    let new = input c.next.new.self.held (g.S.Source.left c.next.new.source) in
    let takes : Takes c.in_ok-there.there c.next.new.line.items old new = record
    { takes = c.in_ok-there.ensures.takes; read = c.in_ok-there.ensures.read } in
    let there = subst (λ (l : List ℕ). Takes c.in_ok-there.there l old new) (sym c.deref.ensures.value) takes in
    next-answered c.in_ok-there.there c.in_ok-came.came c.args.number c.deref.result.now old new c.args.session.now
    c.answer_line.new.session c.pass.new.session _ _
    c.if-not-there.false there (sym c.is_last.ensures ∙ c.if-is_last.false) c.in_ok-came.ensures.came
    c.in_ok-pass.ensures.over c.in_ok-pass.ensures.still

pub returns-in_err-came-clause-cut : goal.returns-in_err-came-clause-cut
returns-in_err-came-clause-cut g c =
    let old = input c.args.lines.now.held (g.S.Source.left c.args.source.now) in
    let new = input c.next.new.self.held (g.S.Source.left c.next.new.source) in
    let takes : Takes c.in_ok-there.there c.next.new.line.items old new =
    record { takes = c.in_ok-there.ensures.takes; read = c.in_ok-there.ensures.read } in
    let there = subst (λ (l : List ℕ). Takes c.in_ok-there.there l old new) (sym c.deref.ensures.value) takes in
    on-err _ _ (next-cut c.in_ok-there.there c.args.number c.deref.result.now old new c.args.session.now _ _
    c.if-not-there.false there c.in_err-came.ensures.cut)

pub returns-in_err-there-clause-cut : goal.returns-in_err-there-clause-cut
returns-in_err-there-clause-cut g c =
    let old = input c.args.lines.now.held (g.S.Source.left c.args.source.now) in
    on-err _ _
    (next-asked c.args.number old (g.S.Source.left c.next.new.source) c.args.session.now _
    (record { read = c.in_err-there.ensures.read }))
