use Rattle.std.proofs.Common.{◌∙◌, ◌==◌, List, ℕ, ap, length, refl}
use Rattle.pr_io.specs.Known.{with_front}
use Rattle.pr_lines.proofs.LineLemmas.{begun, come-above, come-begun, come-more, ends-so, more-so, none-held}
use Rattle.pr_lines.proofs.LineLemmas.{nothing-held, over-so, read-last, read-lost, read-more, read-none, refilled}
use Rattle.pr_lines.proofs.lines.Lines.next.Goals as goal

pub returns-then-branch-clause-takes : goal.returns-then-branch-clause-takes
returns-then-branch-clause-takes g c =
    ends-so c.in_ok-take_held.field-0 c.clear.new.self.items c.take_held.new.line.items c.args.self.now.held
    c.take_held.new.self.held
    (with_front c.args.self.now.held (g.S.Source.left c.args.source.now))
    (g.S.Source.left c.args.source.now) c.if-branch.true
    (begun c.clear.new.self.items _ c.clear.ensures.items) c.in_ok-take_held.ensures

pub loop-init : goal.loop-init
loop-init g c =
    let took = c.in_ok-take_held.ensures in
    record {
      far =
          more-so c.in_ok-take_held.field-0 c.clear.new.self.items c.take_held.new.line.items c.args.self.now.held
          c.take_held.new.self.held (with_front c.args.self.now.held (g.S.Source.left c.args.source.now))
          (g.S.Source.left c.args.source.now) c.if-branch.false
          (begun c.clear.new.self.items _ c.clear.ensures.items) took;
      taken =
          nothing-held c.in_ok-take_held.field-0 c.clear.new.self.items c.take_held.new.line.items c.args.self.now.held
          c.take_held.new.self.held c.if-branch.false took;
      unheld =
          none-held c.in_ok-take_held.field-0 c.clear.new.self.items c.take_held.new.line.items c.args.self.now.held
          c.take_held.new.self.held c.if-branch.false took;
      come = come-begun c.args.self.now.held (g.S.Source.left c.args.source.now);
      read =
          read-none c.args.self.now.held (g.S.Source.left c.args.source.now)
          (none-held c.in_ok-take_held.field-0 c.clear.new.self.items c.take_held.new.line.items c.args.self.now.held
          c.take_held.new.self.held c.if-branch.false took);
      faults = refl;
    }

pub returns-then-not-branch-clause-takes : goal.returns-then-not-branch-clause-takes
returns-then-not-branch-clause-takes g c =
    over-so c.is_empty.result c.loop.line.items c.refill.new.self.held
    (with_front c.args.self.now.held (g.S.Source.left c.args.source.now)) (g.S.Source.left c.refill.new.source)
    (c.is_empty.ensures ∙ ap (λ (x : List ℕ). length x == 0) c.as_slice-bytes.ensures.value)
    (c.in_ok-refill.ensures.none c.if-not-branch.true)
    (refilled c.loop.line.items c.refill.new.self.held _ (g.S.Source.left c.loop.source) _ c.in_ok-refill.ensures.came
    c.loop.invariant.far) (c.in_ok-refill.ensures.end c.if-not-branch.true)

pub returns-then-not-branch-clause-read : goal.returns-then-not-branch-clause-read
returns-then-not-branch-clause-read g c =
    read-last c.args.self.now.held c.refill.new.self.held (g.S.Source.left c.args.source.now)
    (g.S.Source.left c.loop.source)
    (g.S.Source.left c.refill.new.source) c.loop.invariant.read c.in_ok-refill.ensures.came c.in_ok-refill.ensures.most

pub returns-then-branch-2-clause-read : goal.returns-then-branch-2-clause-read
returns-then-branch-2-clause-read g c =
    read-last c.args.self.now.held c.refill.new.self.held (g.S.Source.left c.args.source.now)
    (g.S.Source.left c.loop.source)
    (g.S.Source.left c.refill.new.source) c.loop.invariant.read c.in_ok-refill.ensures.came c.in_ok-refill.ensures.most

pub returns-then-not-branch-clause-no_fault : goal.returns-then-not-branch-clause-no_fault
returns-then-not-branch-clause-no_fault g c =
    λ differs. c.in_ok-refill.ensures.no_fault (λ e. cc) ∙ c.loop.invariant.faults

pub returns-then-branch-2-clause-takes : goal.returns-then-branch-2-clause-takes
returns-then-branch-2-clause-takes g c =
    ends-so c.in_ok-take_held-2.field-0 c.loop.line.items c.take_held-in-loop.new.line.items c.refill.new.self.held
    c.take_held-in-loop.new.self.held (with_front c.args.self.now.held (g.S.Source.left c.args.source.now))
    (g.S.Source.left c.refill.new.source) c.if-branch-2.true
    (refilled c.loop.line.items c.refill.new.self.held _ (g.S.Source.left c.loop.source) _ c.in_ok-refill.ensures.came
    c.loop.invariant.far) c.in_ok-take_held-2.ensures

pub loop-preserved : goal.loop-preserved
loop-preserved g c = record {
  far =
      more-so c.in_ok-take_held-2.field-0 c.loop.line.items c.take_held-in-loop.new.line.items c.refill.new.self.held
      c.take_held-in-loop.new.self.held (with_front c.args.self.now.held (g.S.Source.left c.args.source.now))
      (g.S.Source.left c.refill.new.source) c.if-branch-2.false
      (refilled c.loop.line.items c.refill.new.self.held _ (g.S.Source.left c.loop.source) _ c.in_ok-refill.ensures.came
      c.loop.invariant.far) c.in_ok-take_held-2.ensures;
  taken =
      nothing-held c.in_ok-take_held-2.field-0 c.loop.line.items c.take_held-in-loop.new.line.items
      c.refill.new.self.held
      c.take_held-in-loop.new.self.held c.if-branch-2.false c.in_ok-take_held-2.ensures;
  unheld = c.loop.invariant.unheld;
  come =
      come-more c.loop.counter c.refill.new.self.held
      (with_front c.args.self.now.held (g.S.Source.left c.args.source.now))
      (g.S.Source.left c.loop.source) (g.S.Source.left c.refill.new.source) c.in_ok-refill.ensures.came
      (c.in_ok-refill.ensures.some c.if-not-branch.false) c.loop.invariant.come;
  read =
      read-more c.args.self.now.held c.refill.new.self.held (g.S.Source.left c.args.source.now)
      (g.S.Source.left c.loop.source)
      (g.S.Source.left c.refill.new.source) c.loop.invariant.read c.in_ok-refill.ensures.came
      (none-held c.in_ok-take_held-2.field-0 c.loop.line.items c.take_held-in-loop.new.line.items c.refill.new.self.held
      c.take_held-in-loop.new.self.held c.if-branch-2.false c.in_ok-take_held-2.ensures);
  faults = c.in_ok-refill.ensures.no_fault (λ e. cc) ∙ c.loop.invariant.faults;
}

pub returns-clause-long : goal.returns-clause-long
returns-clause-long g c =
    λ long.
    come-above c.loop.counter 18446744073709551614 (with_front c.args.self.now.held (g.S.Source.left c.args.source.now))
    (g.S.Source.left c.loop.source) c.loop-test.false c.loop.invariant.come

pub returns-in_err-refill-clause-read : goal.returns-in_err-refill-clause-read
returns-in_err-refill-clause-read g c =
    read-lost c.args.self.now.held (g.S.Source.left c.args.source.now) (g.S.Source.left c.loop.source)
    (g.S.Source.left c.refill.new.source) c.loop.invariant.read c.in_err-refill.ensures.lost

pub returns-in_err-take_held-2-clause-read : goal.returns-in_err-take_held-2-clause-read
returns-in_err-take_held-2-clause-read g c =
    read-last c.args.self.now.held c.refill.new.self.held (g.S.Source.left c.args.source.now)
    (g.S.Source.left c.loop.source) (g.S.Source.left c.refill.new.source) c.loop.invariant.read
    c.in_ok-refill.ensures.came c.in_ok-refill.ensures.most
