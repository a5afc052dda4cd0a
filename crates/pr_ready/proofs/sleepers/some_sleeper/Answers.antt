use Rattle.std.proofs.Common.{Option, sym, ap, ◌∙◌}
use Rattle.pr_model.specs.State.{TracedProcess}
use Rattle.pr_ready.specs.Walks.{has_sleeper_of}
use Rattle.pr_ready.proofs.SleeperLemmas.{none-next, none-sleeping, sleeper-live}
use Rattle.pr_ready.proofs.sleepers.some_sleeper.Goals as goal

-- one sleeps so
pub returns-then-has_sleeper_of : goal.returns-then-has_sleeper_of
returns-then-has_sleeper_of c =
    sym (sleeper-live c.args.sys.now c.args.sys.now.clock c.in-Some.pid
    (ap (λ (o : Option TracedProcess). has_sleeper_of c.args.sys.now.clock o) (sym c.live.ensures)
    ∙ sym c.has_sleeper_of.ensures ∙ c.if-has_sleeper_of.true))

-- none in this process
pub loop-pid-preserved : goal.loop-pid-preserved
loop-pid-preserved c =
    none-next c.args.sys.now c.requires.lawful c.args.sys.now.clock c.args.dozing.now c.requires.covers c.loop-pid.from
    c.in-Some.pid c.loop-pid.invariant c.in-Some.ensures.next
    (ap (λ (o : Option TracedProcess). has_sleeper_of c.args.sys.now.clock o) (sym c.live.ensures)
    ∙ sym c.has_sleeper_of.ensures ∙ c.if-has_sleeper_of.false)

pub returns : goal.returns
returns c =
    sym (none-sleeping c.args.sys.now c.requires.lawful c.args.sys.now.clock c.args.dozing.now c.requires.covers
    c.loop-pid.from c.loop-pid.invariant c.in_default.ensures.none)
