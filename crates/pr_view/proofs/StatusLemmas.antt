use Rattle.std.proofs.Common.{◌≡◌, ℕ, Option, Some, None, refl, ap, ◌∙◌}
use Rattle.pr_model.specs.State.{TracedLwp, TracedProcess}
use Rattle.pr_model.specs.Statuses.{lwpstatus_of, status_of_found}
use Rattle.pr_rec.specs.NoLwp.{no_lwp}
use Rattle.pr_stop.specs.Classes.{id_found, lwp_found}

-- The status of the representative lwp, by its id and by itself.

pub status-found : (p : TracedProcess) (o : Option (ℕ × TracedLwp)) (id : ℕ) (l : TracedLwp) → Some id ≡ id_found o
    → Some l ≡ lwp_found o → lwpstatus_of p id l ≡ status_of_found p o
status-found p None id l e there = absurd (cc)
status-found p (Some r) id l e there =
    let same_id : id ≡ r.0 = cc in
    let same_lwp : l ≡ r.1 = cc in
    ap (λ n. lwpstatus_of p n l) same_id ∙ ap (lwpstatus_of p r.0) same_lwp

pub status-no_id : (p : TracedProcess) (o : Option (ℕ × TracedLwp)) → None ≡ id_found o → no_lwp ≡ status_of_found p o
status-no_id p None e = refl
status-no_id p (Some r) e = absurd (cc)

pub status-no_lwp : (p : TracedProcess) (o : Option (ℕ × TracedLwp)) → None ≡ lwp_found o → no_lwp ≡ status_of_found p o
status-no_lwp p None e = refl
status-no_lwp p (Some r) e = absurd (cc)

pub ruleset status_laws = (status-found, status-no_id, status-no_lwp)
