use Rattle.std.proofs.Common.{◌≡◌, ℕ, eqb, true, false, cond, Option, Some, None, List, [], ◌∷◌, refl, sym, ◌∙◌, ap, inl, inr}
use Rattle.std.proofs.lemmas.Bool.{cases_eq}
use Rattle.std.proofs.lemmas.Option.{none-some}
use Rattle.pr_num.specs.Programs.{Program}
use Rattle.pr_num.specs.declared.files.StoredFile.{StoredFile}
use Rattle.pr_num.specs.ById.{inserted, under}
use Rattle.pr_num.proofs.ByIdLaws.{under-inserted, under-inserted_other}
use Rattle.std.specs.List.{slice_get}
use Rattle.pr_model.specs.FirstState.{bare_system, first_state, spawned_at, system_process, with_spawns}
use Rattle.pr_lending.specs.Lending.{AreLending}
use Rattle.pr_model.specs.Lives.{bare_process, new_process, with_made, with_spawned}
use Rattle.pr_model.specs.Machines.{traced}
use Rattle.pr_model.specs.Readers.{borrower_at, lender_at}
use Rattle.pr_model.specs.State.{TracedProcess, TracedSystem, process_of}
use Rattle.pr_lending.proofs.ProcessLoans.LoanLemmas.{borrower_in, lender_in}

-- In the first state nothing is lent.

record LendsNothing (s : TracedSystem) : Type 0 where
  borrower : (x : ℕ) → borrower_at s x ≡ None
  lender : (x : ℕ) → lender_at s x ≡ None

nothing-lent : (s : TracedSystem) → LendsNothing s → AreLending s
nothing-lent s it = record {
  lent = λ x y is. absurd (none-some y (sym (it.borrower x) ∙ is));
  borrowed = λ x y is. absurd (none-some x (sym (it.lender y) ∙ is));
  younger = λ x y is. absurd (none-some y (sym (it.borrower x) ∙ is));
  lives = λ x y is. absurd (none-some y (sym (it.borrower x) ∙ is));
  bare = λ x y is. absurd (none-some y (sym (it.borrower x) ∙ is));
}

bare-lends : (programs : List Program) (files : List StoredFile) → LendsNothing (bare_system programs files)
unfolding bare_system system_process bare_process borrower_at lender_at
bare-lends programs files = record {
  borrower = λ x.
      elim (eqb 0 x) as (λ b. borrower_in (cond b (Some system_process) None) ≡ None) [ true ↦ refl | false ↦ refl ];
  lender = λ x.
      elim (eqb 0 x) as (λ b. lender_in (cond b (Some system_process) None) ≡ None) [ true ↦ refl | false ↦ refl ];
}

spawned-lends : (program : Program) (s : TracedSystem) → LendsNothing s
    → LendsNothing (with_spawned traced program false s)
unfolding with_spawned with_made new_process bare_process borrower_at lender_at
spawned-lends program s it = record {
  borrower = λ x. seen borrower_in x refl (it.borrower x);
  lender = λ x. seen lender_in x refl (it.lender x);
}
  where
    p : TracedProcess
    p = new_process traced program s.clock false

    seen : (v : Option TracedProcess → Option ℕ) (x : ℕ) → v (Some p) ≡ None → v (process_of s x) ≡ None
        → v (under x (inserted s.made p s.processes)) ≡ None
    seen v x new old =
        elim (cases_eq s.made x) [
          | inl here ↦ rw (← here) (ap v (under-inserted s.made p s.processes) ∙ new)
          | inr apart ↦ ap v (under-inserted_other s.made x p apart s.processes) ∙ old
        ]

at-place : (o : Option Program) (s : TracedSystem) → LendsNothing s → LendsNothing (spawned_at o s)
at-place None s it = it
at-place (Some program) s it = spawned-lends program s it

spawns-lend : (places : List ℕ) (s : TracedSystem) → LendsNothing s → LendsNothing (with_spawns places s)
unfolding with_spawns
spawns-lend [] s it = it
spawns-lend (place ∷ places) s it =
    spawns-lend places (spawned_at (slice_get s.programs place) s) (at-place (slice_get s.programs place) s it)

pub first-lends : (programs : List Program) (files : List StoredFile) (spawns : List ℕ)
    → AreLending (first_state programs files spawns).system
unfolding first_state
first-lends programs files spawns =
    nothing-lent _ (spawns-lend spawns (bare_system programs files) (bare-lends programs files))
