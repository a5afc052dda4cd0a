use Rattle.std.proofs.Common.{◌≡◌, ◌⊎◌, ◌<◌, ℕ, true, length, refl, inl, inr}
use Rattle.pr_function_hides.proofs.Replies.CountedWalk.{AsideSo, TrussSo}
use Rattle.pr_function_hides.proofs.Replies.OwnFiles.{IsBeside}
use Rattle.pr_function_hides.specs.CountedFunctions.{Counts, again, lifted, stepped}
use Rattle.pr_truss.specs.Asides.{marks_at}
use Rattle.pr_truss.specs.Marks.{has_function}
use Rattle.pr_truss.specs.Trusses.{TrussState, traced_at}
use Rattle.pr_truss.specs.declared.asides.Aside.{Aside}
use Rattle.pr_truss.specs.declared.asides.Aside.TheVariants.{Planting, Patching}

-- What is so of each function that counts as planted, and of the one that is planted next, follows from another thing.

module _ (P Q N M : ℕ → ℕ → Type 0) (t : TrussState)
    (each : (q i : ℕ) → q < length t.traced
    → (has_function (marks_at t q).planted i ≡ true) ⊎ Counts t q i → P (traced_at t q).pid i → Q (traced_at t q).pid i)
    (next : (q i : ℕ) → q < length t.traced → t.aside ≡ Planting q i → N (traced_at t q).pid i
    → M (traced_at t q).pid i)
    (beside : IsBeside (length t.traced) t.aside) where
  pub truss-weaker : TrussSo P N t → TrussSo Q M t
  truss-weaker w = record {
    marks = λ q within.
        let m = w.marks q within in
        record {
          planted = λ i has. each q i within (inl has) (m.planted i has);
          lifted = λ i has. each q i within (inr (lifted has)) (m.lifted i has);
          stepped = λ step is. each q step.function within (inr (stepped step is refl)) (m.stepped step is);
        };
    aside = by t.aside refl beside w.aside;
  }
    where
      by : (a : Aside) → t.aside ≡ a → IsBeside (length t.traced) a → AsideSo P N t.traced a
          → AsideSo Q M t.traced a
      by (Planting q i) at within it = next q i within at it
      by (Patching q plants lifts clear) at within it = (
        (λ i has. each q i within (inr (again plants lifts clear at (inl has))) (it.0 i has)),
        (λ i has. each q i within (inr (again plants lifts clear at (inr has))) (it.1 i has)),
      )
      by _ at within it = tt
