use Rattle.std.proofs.Common.{◌≡◌, ◌≢◌, ℕ, true, not, refl, sym, ap, ◌∙◌}
use Rattle.std.proofs.lemmas.Bool.{eq-eqb, false≢true}
use Rattle.pr_function_hides.proofs.Copying.CopyPlaces.{RestsSo, RunsSo, StandingSo, closes_so, opens_so, rests_new, rests_old, rests_so, runs_old, runs_so, treats}
use Rattle.pr_function_laws.specs.Opened.{is_opened}
use Rattle.pr_model.specs.State.{TracedProcess}
use Rattle.pr_truss.specs.Trusses.{TrussState, traced_at}
use Rattle.pr_truss_laws.specs.Stills.{IsFrozen}

-- While truss counts stops of a process that stood before it came, the process stands still, by how its copies stand.

module _ (t : TrussState) (q : ℕ) (p : TracedProcess) (opened : is_opened t.stage q ≡ true)
    (old : (traced_at t q).old ≢ 0) where
  about-none : not true ≡ is_opened t.stage q → ⊥
  about-none same = false≢true (same ∙ opened)

  rests-frozen : RestsSo (traced_at t q) p → IsFrozen p
  rests-frozen (rests_new new stands) = absurd (old new)
  rests-frozen (rests_old flags some w) = w.frozen

  runs-frozen : RunsSo t q p → IsFrozen p
  runs-frozen (treats m e new does stands few event) = absurd (old new)
  runs-frozen (runs_old idle is flags w) = w.frozen

  pub waits-frozen : StandingSo t q p → IsFrozen p
  waits-frozen (rests_so apart stands) = rests-frozen stands
  waits-frozen (opens_so step is stands) =
      absurd (about-none (sym (ap (λ st. is_opened st q) is ∙ ap not (eq-eqb q q refl))))
  waits-frozen (closes_so next is stands) =
      absurd (about-none (sym (ap (λ st. is_opened st q) is ∙ ap not (eq-eqb q q refl))))
  waits-frozen (runs_so soon stands) = runs-frozen stands
