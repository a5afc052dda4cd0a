use Rattle.std.proofs.Common.{sym, subst, arith}
use Rattle.pr_kern.proofs.StartLemmas.{first-sound, started-lawful}
use Rattle.pr_kern.specs.Soundness.{IsSound}
use Rattle.pr_model.specs.FirstState.{first_state}
use Rattle.pr_model.specs.State.{TracedState}
use Rattle.pr_judge.proofs.players.Player.new.Goals as goal

-- the first state is lawful, and sound before any step
pub invariant_of-result : goal.invariant_of-result
unfolding first_state
invariant_of-result c = record {
  sound = subst (λ (m : TracedState). IsSound 0 m.system) (sym c.in_ok-machine.ensures) (first-sound _ _ _);
  lawful =
      started-lawful _ _ c.args.programs.items c.args.files.items c.args.spawns.now c.keep_limits.ensures
      c.deref.ensures.value c.requires.few c.requires.short c.requires.own_names c.requires.spawns c.requires.mapped
      c.in_ok-machine.ensures;
  fits = omega arith;
}
