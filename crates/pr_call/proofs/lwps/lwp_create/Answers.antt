use Rattle.std.proofs.Common.{sym, ap, ◌∙◌}
use Rattle.std.specs.Option.{option_copied}
use Rattle.std.proofs.lemmas.Bool.{ne_eqb}
use Rattle.pr_num.specs.Agents.{agent_id}
use Rattle.pr_call.proofs.LwpCallLemmas.{created-by}
use Rattle.pr_call.proofs.lwps.lwp_create.Goals as goal

pub returns-clause-system : goal.returns-clause-system
returns-clause-system c p found l stands =
    created-by c.args.sys.now c.make_lwp.new.sys c.args.pid c.unwrap-process.result.now p c.args.id c.unwrap.result.now
    l _ _ _ c.made_registers.result (sym c.live.ensures ∙ ap option_copied c.unwrap-process.ensures)
    (sym c.get.ensures ∙ ap option_copied c.unwrap.ensures) found stands
    (ne_eqb c.args.id agent_id c.if-id-eq-AGENT.false)
    (sym c.is_full.ensures ∙ c.if-is_full.false) c.made_registers.ensures c.in_ok-make_lwp.ensures.ok
