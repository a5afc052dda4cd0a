use Rattle.std.proofs.Common.{ap, refl, sym, ◌∙◌}
use Rattle.std.proofs.lemmas.Bool.{false≢true}
use Rattle.pr_call.proofs.FilingLemmas.{on_err}
use Rattle.pr_model.specs.declared.events.Turned.{Turned}
use Rattle.pr_turn.proofs.InstructionLemmas.{instruction-next, of-instruction, rests-live, turned-as}
use Rattle.pr_turn.proofs.SettleLemmas.{made-room, turned-made, turned-used}
use Rattle.pr_turn.proofs.TakingLemmas.{row-takes}
use Rattle.pr_turn.proofs.TurnLemmas.{can_move-found, can_move-there, put-same, told-none, told-some}
use Rattle.pr_turn.specs.Turns.{is_of_instruction}
use Rattle.pr_turn.specs.declared.next.Next.TheVariants.{Executed}
use Rattle.pr_turn.proofs.instructions.run_instruction.Goals as goal

pub get_mut-process-requires : goal.get_mut-process-requires
get_mut-process-requires c = can_move-found _ _ _ c.requires.movable

pub run_in-requires : goal.run_in-requires
run_in-requires c = can_move-there _ _ _ _ c.get_mut-process.ensures.value c.requires.movable

pub returns-in_err-effect-clause-sure : goal.returns-in_err-effect-clause-sure
returns-in_err-effect-clause-sure c none =
    absurd
    (false≢true
    (sym none
    ∙ row-takes c.args.sys.now c.args.pid c.args.id Executed c.get_mut-process.result.now
    (instruction-next c.args.sys.now c.args.pid c.args.id c.get_mut-process.result.now c.get_mut-process.ensures.value
    c.requires.movable c.in_err-effect.ensures.ran) c.get_mut-process.ensures.value c.in_err-effect.ensures.memory))

pub returns-in_err-effect-clause-err : goal.returns-in_err-effect-clause-err
returns-in_err-effect-clause-err c =
    on_err _
    (put-same c.args.sys.now c.args.pid c.get_mut-process.result.now c.run_in.new.process
    c.get_mut-process.ensures.value
    c.in_err-effect.ensures.err)

pub returns-in_default-clause-other : goal.returns-in_default-clause-other
returns-in_default-clause-other c =
    put-same c.args.sys.now c.args.pid _ _ c.get_mut-process.ensures.value
    (told-none c.in_ok-effect.field-0 c.in_default.is c.in_ok-effect.ensures.other)

pub returns-in_default-clause-rests : goal.returns-in_default-clause-rests
returns-in_default-clause-rests c =
    rests-live c.args.sys.now c.args.pid c.args.id c.get_mut-process.result.now c.get_mut-process.ensures.value
    (told-none c.in_ok-effect.field-0 c.in_default.is c.in_ok-effect.ensures.rests)

pub finish-turned-requires : goal.finish-turned-requires
finish-turned-requires c =
    made-room c.args.sys.now c.args.pid c.args.id Executed c.get_mut-process.result.now c.run_in.new.process
    (instruction-next c.args.sys.now c.args.pid c.args.id c.get_mut-process.result.now c.get_mut-process.ensures.value
    c.requires.movable (told-some _ _ _ c.in-Some.is c.in_ok-effect.ensures.runs)) c.get_mut-process.ensures.value
    (told-some _ _ _ c.in-Some.is c.in_ok-effect.ensures.process) _ c.requires.room

pub returns-clause-did : goal.returns-clause-did
returns-clause-did c =
    ap (λ (turned : Turned). is_of_instruction turned.did) c.finish-turned.ensures.turned
    ∙ of-instruction c.in-Some.effect

pub returns-clause-ok : goal.returns-clause-ok
returns-clause-ok c =
    turned-made c.args.sys.now _ c.args.pid c.args.id _
    (turned-as c.args.sys.now c.args.pid c.args.id c.get_mut-process.result.now c.get_mut-process.ensures.value
    c.run_in.new.process
    (instruction-next c.args.sys.now c.args.pid c.args.id c.get_mut-process.result.now c.get_mut-process.ensures.value
    c.requires.movable (told-some _ _ _ c.in-Some.is c.in_ok-effect.ensures.runs))
    (told-some _ _ _ c.in-Some.is c.in_ok-effect.ensures.process) c.in-Some.effect
    (told-some _ _ _ c.in-Some.is c.in_ok-effect.ensures.made) _ c.finish-turned.new.process c.finish-turned.result
    c.finish-turned.ensures.process c.finish-turned.ensures.turned refl)

pub returns-clause-used : goal.returns-clause-used
returns-clause-used c =
    turned-used c.args.sys.now _ c.args.pid c.args.id _
    (turned-as c.args.sys.now c.args.pid c.args.id c.get_mut-process.result.now c.get_mut-process.ensures.value
    c.run_in.new.process
    (instruction-next c.args.sys.now c.args.pid c.args.id c.get_mut-process.result.now c.get_mut-process.ensures.value
    c.requires.movable (told-some _ _ _ c.in-Some.is c.in_ok-effect.ensures.runs))
    (told-some _ _ _ c.in-Some.is c.in_ok-effect.ensures.process) c.in-Some.effect
    (told-some _ _ _ c.in-Some.is c.in_ok-effect.ensures.made) _ c.finish-turned.new.process c.finish-turned.result
    c.finish-turned.ensures.process c.finish-turned.ensures.turned refl)
