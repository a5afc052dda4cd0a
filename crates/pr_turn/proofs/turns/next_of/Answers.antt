use Rattle.std.proofs.Common.{◌≡◌, Some, IsSome, refl, rules, sym, ap, ◌∙◌, arith}
use Rattle.std.specs.Option.{option_copied}
use Rattle.std.proofs.lemmas.Grind.{common_steps}
use Rattle.pr_num.specs.ById.{under}
use Rattle.pr_model.specs.State.{live_process, lwp_of}
use Rattle.pr_turn.proofs.TurnLemmas.{can_move-stands, is-next}
use Rattle.pr_turn.proofs.turns.next_of.Goals as goal

pub unwrap-lwp-requires : goal.unwrap-lwp-requires
unwrap-lwp-requires c =
    let found : live_process c.args.sys.now c.args.pid ≡ Some c.unwrap-process.result.now =
    sym c.live.ensures ∙ ap option_copied c.unwrap-process.ensures in
    let stands : IsSome (under c.args.id c.unwrap-process.result.now.lwps) =
    can_move-stands c.args.sys.now c.args.pid c.args.id c.unwrap-process.result.now found c.requires in
    let copied : IsSome (option_copied c.get.result) = rw c.get.ensures stands in
    first_of (search (rules, copied), grind (arith, common_steps, copied))

pub returns : goal.returns
returns c =
    let found : live_process c.args.sys.now c.args.pid ≡ Some c.unwrap-process.result.now =
    sym c.live.ensures ∙ ap option_copied c.unwrap-process.ensures in
    let stands : lwp_of c.unwrap-process.result.now c.args.id ≡ Some c.unwrap-lwp.result.now =
    sym c.get.ensures ∙ ap option_copied c.unwrap-lwp.ensures in
    is-next c.args.sys.now c.args.pid c.args.id c.unwrap-process.result.now c.unwrap-lwp.result.now c.next_row.result
    found stands c.requires
    (c.next_row.ensures.row c.args.sys.now c.args.pid c.args.id refl) c.next_row.ensures.fits
    (c.next_row.ensures.asks c.args.pid c.args.id)
