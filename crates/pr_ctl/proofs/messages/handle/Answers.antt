use Rattle.std.proofs.Common.{◌≡◌, ℕ, List, Option, sym, subst}
use Rattle.pr_num.specs.declared.messages.Message.{Message}
use Rattle.pr_model.specs.State.{TracedSystem}
use Rattle.pr_model.specs.declared.calls.Reply.{Reply}
use Rattle.pr_ctl.specs.Answers.{Answers}
use Rattle.pr_ctl.proofs.messages.handle.Goals as goal

-- what a row answers is the answer to its message
row : (s : TracedSystem) (pid : ℕ) (lwp : Option ℕ) (m k : Message) (tail : List ℕ) (len : ℕ) (new : TracedSystem)
    (reply : Reply) → m ≡ k → Answers s pid lwp k tail len new reply → Answers s pid lwp m tail len new reply
row s pid lwp m k tail len new reply is answers = subst (λ j. Answers s pid lwp j tail len new reply) (sym is) answers

pub returns-in-Stop-clause-ok : goal.returns-in-Stop-clause-ok
returns-in-Stop-clause-ok c =
    row c.args.sys.now c.args.pid c.args.lwp _ _ c.args.tail.now c.args.length c.stop.new.sys c.stop.result c.in-Stop.is
    (c.stop.ensures c.args.tail.now c.args.length)

pub returns-in-Dstop-clause-ok : goal.returns-in-Dstop-clause-ok
returns-in-Dstop-clause-ok c =
    row c.args.sys.now c.args.pid c.args.lwp _ _ c.args.tail.now c.args.length c.dstop.new.sys c.dstop.result
    c.in-Dstop.is (c.dstop.ensures c.args.tail.now)

pub returns-in-Twstop-clause-ok : goal.returns-in-Twstop-clause-ok
returns-in-Twstop-clause-ok c =
    row c.args.sys.now c.args.pid c.args.lwp _ _ c.args.tail.now c.args.length c.args.sys.now c.twstop.result
    c.in-Twstop.is (c.twstop.ensures c.args.lwp c.args.tail.now c.args.length)

pub returns-in-Run-clause-ok : goal.returns-in-Run-clause-ok
returns-in-Run-clause-ok c =
    row c.args.sys.now c.args.pid c.args.lwp _ _ c.args.tail.now c.args.length c.run.new.sys c.run.result c.in-Run.is
    (c.run.ensures c.args.tail.now)

pub returns-in-Csig-clause-ok : goal.returns-in-Csig-clause-ok
returns-in-Csig-clause-ok c =
    row c.args.sys.now c.args.pid c.args.lwp _ _ c.args.tail.now c.args.length c.csig.new.sys c.csig.result c.in-Csig.is
    (c.csig.ensures c.args.tail.now)

pub returns-in-Cfault-clause-ok : goal.returns-in-Cfault-clause-ok
returns-in-Cfault-clause-ok c =
    row c.args.sys.now c.args.pid c.args.lwp _ _ c.args.tail.now c.args.length c.cfault.new.sys c.cfault.result
    c.in-Cfault.is (c.cfault.ensures c.args.tail.now)

pub returns-in-Ssig-clause-ok : goal.returns-in-Ssig-clause-ok
returns-in-Ssig-clause-ok c =
    row c.args.sys.now c.args.pid c.args.lwp _ _ c.args.tail.now c.args.length c.ssig.new.sys c.ssig.result c.in-Ssig.is
    (c.ssig.ensures c.args.tail.now)

pub returns-in-Kill-clause-ok : goal.returns-in-Kill-clause-ok
returns-in-Kill-clause-ok c =
    row c.args.sys.now c.args.pid c.args.lwp _ _ c.args.tail.now c.args.length c.kill.new.sys c.kill.result c.in-Kill.is
    (c.kill.ensures c.args.tail.now)

pub returns-in-Unkill-clause-ok : goal.returns-in-Unkill-clause-ok
returns-in-Unkill-clause-ok c =
    row c.args.sys.now c.args.pid c.args.lwp _ _ c.args.tail.now c.args.length c.unkill.new.sys c.unkill.result
    c.in-Unkill.is (c.unkill.ensures c.args.tail.now)

pub returns-in-Shold-clause-ok : goal.returns-in-Shold-clause-ok
returns-in-Shold-clause-ok c =
    row c.args.sys.now c.args.pid c.args.lwp _ _ c.args.tail.now c.args.length c.shold.new.sys c.shold.result
    c.in-Shold.is (c.shold.ensures c.args.tail.now)

pub returns-in-Strace-clause-ok : goal.returns-in-Strace-clause-ok
returns-in-Strace-clause-ok c =
    row c.args.sys.now c.args.pid c.args.lwp _ _ c.args.tail.now c.args.length c.strace.new.sys c.strace.result
    c.in-Strace.is (c.strace.ensures c.args.tail.now c.args.lwp)

pub returns-in-Sfault-clause-ok : goal.returns-in-Sfault-clause-ok
returns-in-Sfault-clause-ok c =
    row c.args.sys.now c.args.pid c.args.lwp _ _ c.args.tail.now c.args.length c.sfault.new.sys c.sfault.result
    c.in-Sfault.is (c.sfault.ensures c.args.tail.now c.args.lwp)

pub returns-in-Sentry-clause-ok : goal.returns-in-Sentry-clause-ok
returns-in-Sentry-clause-ok c =
    row c.args.sys.now c.args.pid c.args.lwp _ _ c.args.tail.now c.args.length c.sentry.new.sys c.sentry.result
    c.in-Sentry.is (c.sentry.ensures c.args.tail.now c.args.lwp)

pub returns-in-Sexit-clause-ok : goal.returns-in-Sexit-clause-ok
returns-in-Sexit-clause-ok c =
    row c.args.sys.now c.args.pid c.args.lwp _ _ c.args.tail.now c.args.length c.sexit.new.sys c.sexit.result
    c.in-Sexit.is (c.sexit.ensures c.args.tail.now c.args.lwp)

pub returns-in-Set-clause-ok : goal.returns-in-Set-clause-ok
returns-in-Set-clause-ok c =
    row c.args.sys.now c.args.pid c.args.lwp _ _ c.args.tail.now c.args.length c.set_mode.new.sys c.set_mode.result
    c.in-Set.is (c.set_mode.ensures c.args.tail.now c.args.lwp)

pub returns-in-Unset-clause-ok : goal.returns-in-Unset-clause-ok
returns-in-Unset-clause-ok c =
    row c.args.sys.now c.args.pid c.args.lwp _ _ c.args.tail.now c.args.length c.unset_mode.new.sys c.unset_mode.result
    c.in-Unset.is (c.unset_mode.ensures c.args.tail.now c.args.lwp)

pub returns-in-Sreg-clause-ok : goal.returns-in-Sreg-clause-ok
returns-in-Sreg-clause-ok c =
    row c.args.sys.now c.args.pid c.args.lwp _ _ c.args.tail.now c.args.length c.sreg.new.sys c.sreg.result c.in-Sreg.is
    (c.sreg.ensures c.args.tail.now)

pub returns-in-Svaddr-clause-ok : goal.returns-in-Svaddr-clause-ok
returns-in-Svaddr-clause-ok c =
    row c.args.sys.now c.args.pid c.args.lwp _ _ c.args.tail.now c.args.length c.svaddr.new.sys c.svaddr.result
    c.in-Svaddr.is (c.svaddr.ensures c.args.tail.now)

pub returns-in-Watch-clause-ok : goal.returns-in-Watch-clause-ok
returns-in-Watch-clause-ok c =
    row c.args.sys.now c.args.pid c.args.lwp _ _ c.args.tail.now c.args.length c.watch.new.sys c.watch.result
    c.in-Watch.is (c.watch.ensures c.args.lwp c.args.tail.now)
