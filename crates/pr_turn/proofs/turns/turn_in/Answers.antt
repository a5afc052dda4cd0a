use Rattle.std.proofs.Common.{refl}
use Rattle.pr_call.proofs.FilingLemmas.{on_err}
use Rattle.pr_turn.proofs.SettleLemmas.{made-room, turned-in}
use Rattle.pr_turn.proofs.TakingLemmas.{row-takes}
use Rattle.pr_turn.proofs.TurnLemmas.{next-fits, next-found, next-stands, put-same}
use Rattle.pr_turn.proofs.turns.turn_in.Goals as goal

pub get_mut-process-requires : goal.get_mut-process-requires
get_mut-process-requires c = next-found _ _ _ _ c.requires.next

pub make_and_ask-requires-clause-found : goal.make_and_ask-requires-clause-found
make_and_ask-requires-clause-found c = next-stands _ _ _ _ _ c.requires.next c.get_mut-process.ensures.value

pub make_and_ask-requires-clause-fits : goal.make_and_ask-requires-clause-fits
make_and_ask-requires-clause-fits c l stands =
    next-fits _ _ _ _ _ l c.requires.next c.get_mut-process.ensures.value stands

pub settle-requires : goal.settle-requires
settle-requires c =
    made-room c.args.sys.now c.args.pid c.args.id c.args.next c.get_mut-process.result.now c.make_and_ask.new.process
    c.requires.next c.get_mut-process.ensures.value c.in_ok-made.ensures.process _ c.requires.room

pub returns-clause-ok : goal.returns-clause-ok
returns-clause-ok c =
    turned-in c.args.sys.now c.args.pid c.args.id c.args.next c.get_mut-process.result.now c.make_and_ask.new.process
    c.requires.next c.get_mut-process.ensures.value c.in_ok-made.ensures.process _ c.settle.new.process
    c.in_ok-made.made c.in_ok-made.stop c.requires.lives c.in_ok-made.ensures.made c.in_ok-made.ensures.stop
    c.settle.ensures refl

pub returns-in_err-made-clause-memory : goal.returns-in_err-made-clause-memory
returns-in_err-made-clause-memory c =
    on_err _
    (row-takes c.args.sys.now c.args.pid c.args.id c.args.next c.get_mut-process.result.now c.requires.next
    c.get_mut-process.ensures.value
    c.in_err-made.ensures.memory)

pub returns-in_err-made-clause-err : goal.returns-in_err-made-clause-err
returns-in_err-made-clause-err c =
    on_err _
    (put-same c.args.sys.now c.args.pid c.get_mut-process.result.now c.make_and_ask.new.process
    c.get_mut-process.ensures.value
    c.in_err-made.ensures.err)
