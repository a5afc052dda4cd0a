use Rattle.std.proofs.Common.{◌≡◌, ℕ, Option, Some, None, option_map, refl, ap, ◌∙◌}
use Rattle.pr_model.specs.Messages.{aimed_lwp, found_at, on_found, on_lwp, on_stopped, on_stopped_found}
use Rattle.pr_model.specs.State.{TracedLwp, TracedProcess, TracedSystem, lwp_of}
use Rattle.pr_model.specs.Stops.{representative}
use Rattle.pr_stop.specs.Classes.{id_found, lwp_found}
use Rattle.pr_ctl.specs.Aims.{aim_at}
use Rattle.pr_ctl.specs.Changes.{aimed_by, aimed_changed, aimed_found, aimed_of, stopped_changed}

-- The lwp that a message acts on, by its id.

-- ---- the representative, by its id and by itself

pub aimed-found : (o : Option (ℕ × TracedLwp)) (id : ℕ) (l : TracedLwp) → Some id ≡ id_found o → Some l ≡ lwp_found o
    → Some (aimed_of (id, l)) ≡ option_map aimed_of o
aimed-found None id l e there = absurd (cc)
aimed-found (Some r) id l e there =
    let same_id : id ≡ r.0 = cc in
    let same_lwp : l ≡ r.1 = cc in
    ap (λ n. Some (aimed_of (n, l))) same_id ∙ ap (λ m. Some (aimed_of (r.0, m))) same_lwp

pub aimed-no_id : (o : Option (ℕ × TracedLwp)) → None ≡ id_found o → None ≡ option_map aimed_of o
aimed-no_id None e = refl
aimed-no_id (Some r) e = absurd (cc)

pub aimed-no_lwp : (o : Option (ℕ × TracedLwp)) → None ≡ lwp_found o → None ≡ option_map aimed_of o
aimed-no_lwp None e = refl
aimed-no_lwp (Some r) e = absurd (cc)

pub ruleset representative_laws = (aimed-found, aimed-no_id, aimed-no_lwp)

-- ---- what a message makes of it

module _ (s : TracedSystem) (pid : ℕ) (p : TracedProcess) (len : ℕ) (change : TracedLwp → TracedLwp) where
  on_lwp-by : (o : Option (ℕ × TracedLwp))
      → aimed_changed s pid p len change (option_map aimed_of o) ≡ on_found s pid p len change o
  unfolding aimed_changed
  on_lwp-by None = refl
  on_lwp-by (Some e) = refl

  on_lwp-at : (id : ℕ) (o : Option TracedLwp)
      → aimed_changed s pid p len change (aimed_found id o) ≡ on_found s pid p len change (found_at s pid p id o)
  unfolding aimed_changed
  on_lwp-at id None = refl
  on_lwp-at id (Some l) = refl

  pub aimed-on_lwp : (lwp : Option ℕ)
      → aimed_changed s pid p len change (aimed_by p lwp) ≡ on_lwp s pid p (aim_at lwp) len change
  unfolding aimed_by aimed_lwp
  aimed-on_lwp None = on_lwp-by (representative p)
  aimed-on_lwp (Some id) = on_lwp-at id (lwp_of p id)

  on_stopped-by : (o : Option (ℕ × TracedLwp))
      → stopped_changed s pid p len change (option_map aimed_of o) ≡ on_stopped_found s pid p len change o
  unfolding stopped_changed
  on_stopped-by None = refl
  on_stopped-by (Some e) = refl

  on_stopped-at : (id : ℕ) (o : Option TracedLwp)
      → stopped_changed s pid p len change (aimed_found id o)
      ≡ on_stopped_found s pid p len change (found_at s pid p id o)
  unfolding stopped_changed
  on_stopped-at id None = refl
  on_stopped-at id (Some l) = refl

  pub aimed-on_stopped : (lwp : Option ℕ)
      → stopped_changed s pid p len change (aimed_by p lwp) ≡ on_stopped s pid p (aim_at lwp) len change
  unfolding aimed_by aimed_lwp
  aimed-on_stopped None = on_stopped-by (representative p)
  aimed-on_stopped (Some id) = on_stopped-at id (lwp_of p id)

pub ruleset aim_laws = (aimed-on_lwp, aimed-on_stopped)
