use Rattle.std.proofs.Common.{ap, sym, ◌∙◌}
use Rattle.std.specs.Option.{option_copied}
use Rattle.pr_call.proofs.BreakLemmas.{break-kept, break-made, heap-placed}
use Rattle.pr_call.proofs.breaks.brk.Goals as goal

pub returns-in-Some-clause-system : goal.returns-in-Some-clause-system
returns-in-Some-clause-system c p found id l =
    break-kept c.args.sys.now c.args.pid c.unwrap.result.now p c.args.end id l
    (sym c.live.ensures ∙ ap option_copied c.unwrap.ensures) found c.in-Some.error c.in-Some.ensures.effect

pub move_break-requires-clause-place : goal.move_break-requires-clause-place
move_break-requires-clause-place c =
    heap-placed c.args.sys.now c.args.pid c.get_mut.result.now c.requires.lawful c.get_mut.ensures.value

pub returns-in_ok-move_break-in-None-clause-system : goal.returns-in_ok-move_break-in-None-clause-system
returns-in_ok-move_break-in-None-clause-system c p found id l =
    break-made c.args.sys.now c.args.pid c.unwrap.result.now p c.args.end id l
    (sym c.live.ensures ∙ ap option_copied c.unwrap.ensures) found c.get_mut.result.now _ c.get_mut.ensures.value
    c.in-None.ensures.effect c.in_ok-move_break-in-None.ensures.ok
