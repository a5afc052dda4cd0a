-- Where no controller hides anything.
use Rattle.std.proofs.Common.{◌≡◌, ℕ, zero, suc, Bool, true, false, List, [], ◌∷◌, refl, ◌∙◌, ap}
use Rattle.std.proofs.Math.Path.{fun_ext}
use Rattle.std.specs.List.{list_all, slice_get}
use Rattle.pr_hidden.specs.Covers.{Patch}
use Rattle.pr_hidden.specs.Hiders.{Hiders, nobody}
use Rattle.pr_hide.specs.Hidings.{functions_in, hiders_of, is_nothing, is_probe}
use Rattle.pr_hide.specs.declared.hiders.Hider.{Hider}
use Rattle.pr_hide.specs.declared.hiders.Hider.TheVariants.{Functions, Nothing, Probe}

no-functions : (who : List Hider) (k : ℕ) → list_all is_nothing who ≡ true → functions_in (slice_get who k) ≡ []
no-functions [] k all = refl
no-functions (Nothing ∷ who) zero all = refl
no-functions (Nothing ∷ who) (suc k) all = no-functions who k all
no-functions (Functions [] ∷ who) zero all = refl
no-functions (Functions [] ∷ who) (suc k) all = no-functions who k all
no-functions (Functions (f ∷ fs) ∷ who) k all = cc
no-functions (Probe ∷ who) k all = cc

no-probe : (who : List Hider) (k : ℕ) → list_all is_nothing who ≡ true → is_probe (slice_get who k) ≡ false
no-probe [] k all = refl
no-probe (Nothing ∷ who) zero all = refl
no-probe (Nothing ∷ who) (suc k) all = no-probe who k all
no-probe (Functions [] ∷ who) zero all = refl
no-probe (Functions [] ∷ who) (suc k) all = no-probe who k all
no-probe (Functions (f ∷ fs) ∷ who) k all = cc
no-probe (Probe ∷ who) k all = cc

pub nobody-hides : (who : List Hider) → list_all is_nothing who ≡ true → hiders_of who ≡ nobody
unfolding hiders_of
nobody-hides who all =
    ap (λ (f : ℕ → List Patch). let h : Hiders =
    record { functions = f; probes = λ k. is_probe (slice_get who k) } in h)
    (fun_ext (λ k. no-functions who k all))
    ∙ ap (λ (p : ℕ → Bool). let h : Hiders = record { functions = λ k. []; probes = p } in h)
    (fun_ext (λ k. no-probe who k all))

pub ruleset nothing = (nobody-hides)
