use Rattle.std.proofs.Common.{sym, subst, ◌∙◌}
use Rattle.pr_model.specs.FirstState.{first_state}
use Rattle.pr_model.specs.State.{TracedState}
use Rattle.pr_kern.specs.Soundness.{IsSound}
use Rattle.pr_kern.proofs.KeptLemmas.{kept-ready, kept-start}
use Rattle.pr_kern.proofs.StartLemmas.{first-sound, started-lawful}
use Rattle.pr_kern.proofs.kernels.Kern.new.Goals as goal

pub invariant_of-result : goal.invariant_of-result
unfolding first_state
invariant_of-result c =
    let lawful =
    started-lawful _ _ c.args.programs.items c.args.files.items c.args.spawns.now c.keep_limits.ensures
    c.deref.ensures.value c.requires.few c.requires.short c.requires.own_names c.requires.spawns c.requires.mapped
    c.in_ok-state.ensures in
    kept-ready _ _ _ _
    (kept-start _ _ _ (c.reserve.ensures.entries ∙ c.new-history.ensures) c.in_ok-reserve.ensures.room
    c.ranges.places.fits
    (subst (λ (m : TracedState). IsSound 0 m.system) (sym c.in_ok-state.ensures) (first-sound _ _ _)) lawful)
    c.first_ready-ready.ensures

pub first_ready-ready-requires : goal.first_ready-ready-requires
first_ready-ready-requires c =
    (started-lawful _ _ c.args.programs.items c.args.files.items c.args.spawns.now c.keep_limits.ensures
    c.deref.ensures.value c.requires.few c.requires.short c.requires.own_names c.requires.spawns c.requires.mapped
    c.in_ok-state.ensures).system

pub returns-clause-lawful : goal.returns-clause-lawful
returns-clause-lawful c =
    started-lawful _ _ c.args.programs.items c.args.files.items c.args.spawns.now c.keep_limits.ensures
    c.deref.ensures.value c.requires.few c.requires.short c.requires.own_names c.requires.spawns c.requires.mapped
    c.in_ok-state.ensures
