use Rattle.std.proofs.Common.{◌≡◌, ◌<◌, ◌+◌, ◌++◌, ◌==◌, ℕ, suc, Bool, true, false, cond, List, [], ◌∷◌, length, refl, subst, ap, ◌∙◌, arith, inl, inr}
use Rattle.std.proofs.lemmas.Bool.{cases_lt, eq-eqb, eqb-true}
use Rattle.std.proofs.lemmas.List.{length-map}
use Rattle.std.proofs.lemmas.List.Sums.{sum_by-cons}
use Rattle.std.specs.List.{All, sum_by}
use Rattle.pr_line.specs.declared.options.Options.{Options}
use Rattle.pr_model.specs.Legal.{state_after}
use Rattle.pr_model.specs.State.{TracedState}
use Rattle.pr_model.specs.declared.events.Entry.{Entry}
use Rattle.pr_report_laws.proofs.Files.WatchHistories.{Reaches}
use Rattle.pr_truss.specs.Trusses.{TrussState, traced_at}
use Rattle.pr_truss.specs.declared.processes.Traced.{Traced}
use Rattle.pr_truss.specs.declared.stages.Stage.{Stage}
use Rattle.pr_truss.specs.declared.stages.Stage.TheVariants.{FreeingChild}
use Rattle.pr_truss_laws.proofs.Files.HeldLemmas.{at_place, handles_in, held, of_stage, of_traced}
use Rattle.pr_truss_laws.proofs.Files.OwnLemmas.{Owns, owned}
use Rattle.pr_truss_laws.specs.Exchanges.{exchanges}
use Rattle.pr_function_laws.proofs.Marks.KeptPlaces.{AtStage}
use Rattle.pr_function_laws.proofs.OpenedProcesses.OpenedCalls.{IsSo}
use Rattle.pr_function_laws.proofs.OpenedProcesses.OpenedLaws.{Goes, before-goes}
use Rattle.pr_function_laws.proofs.OrdinaryTruss.OrdinaryFiles.{run-halfway}
use Rattle.pr_function_laws.proofs.OrdinaryTruss.OrdinaryReplies.{at-ordinary}
use Rattle.pr_function_laws.specs.Lifted.{HasControl}
use Rattle.pr_function_laws.specs.Opened.{IsFunctionRun, WasNotInterrupted, functions_at}
use Rattle.pr_function_laws.specs.Ordinary.{ordinary, unmarked}

-- A process of which truss has the control file open is one that it traces.

-- a sum that is no zero has a part that is none
some-of : (f : Traced → ℕ) (ts : List Traced) → 0 < sum_by f ts
    → (q : ℕ) × ((q < length ts) × (0 < f (at_place ts q)))
some-of f [] some = absurd (omega (arith, some))
some-of f (u ∷ us) some = elim (cases_lt 0 (f u)) [
  | inl here ↦ (0, (omega arith, here))
  | inr none ↦ let rest = some-of f us (omega (arith, some, none, sum_by-cons f u us)) in
      (suc rest.0, (omega (arith, rest.1.0), rest.1.1))
]

module _ (n k : ℕ) (o : Options) (s : TracedState) (h : List Entry) (run : IsFunctionRun n k o s h)
    (front later : List Entry) (is : h ≡ front ++ later) where
  -- a process of which truss has the control file open is one that it traces, where it sets no child free
  pub traced-owned : (pid c : ℕ) → HasControl k pid c (state_after s front)
      → of_stage pid c (functions_at k o front).stage ≡ 0
      → (q : ℕ) × ((q < length (functions_at k o front).traced) × ((traced_at (functions_at k o front) q).pid ≡ pid))
  unfolding held of_traced
  traced-owned pid c its freed =
      let t : TrussState = functions_at k o front in
      let half = run-halfway n k o s front later (subst (λ es. IsFunctionRun n k o s es) is run) in
      let follows = half.follows in
      let reaches : Reaches k (ordinary t) (state_after s front) = follows.reaches in
      let owns : Owns k (ordinary t) (state_after s front) = reaches.owns in
      let counts : sum_by (of_traced pid c) (ordinary t).traced + of_stage pid c t.stage ≡ 1 =
      owns.counts pid c ∙ ap (owned pid) its ∙ ap (λ b. cond b 1 0) (eq-eqb pid pid refl) in
      let some = some-of (of_traced pid c) (ordinary t).traced (omega (arith, counts, freed)) in (
        some.0,
        (
          subst (λ i. some.0 < i) (length-map t.traced unmarked) some.1.0,
          its-pid (traced_at t some.0) (subst (λ (u : Traced). 0 < of_traced pid c u) (at-ordinary t some.0) some.1.1),
        ),
      )
    where
      by : (b : Bool) (u : Traced) (m : ℕ) → (u.pid == pid) ≡ b → 0 < cond b m 0 → u.pid ≡ pid
      by true u m same some = eqb-true u.pid pid same
      by false u m same some = absurd (omega (arith, some))

      its-pid : (u : Traced) → 0 < of_traced pid c (unmarked u) → u.pid ≡ pid
      its-pid u some = by (u.pid == pid) u (handles_in c (unmarked u)) refl some

module _ (n k : ℕ) (o : Options) (s : TracedState) (h : List Entry) (run : IsFunctionRun n k o s h)
    (front later : List Entry) (is : h ≡ front ++ later) (calm : All WasNotInterrupted (exchanges k front)) where
  abbrev t : TrussState
  t = functions_at k o front

  abbrev now : TracedState
  now = state_after s front

  goes-here : Goes ⊥ k o t now
  goes-here = before-goes n k o s h run front later is calm ⊥ (λ none. absurd none) (λ none. absurd none)

  -- the stage is none in which a child is set free
  none-freed : (pid c : ℕ) (stage : Stage) → AtStage (IsSo ⊥ k t.options now) t.traced stage → of_stage pid c stage ≡ 0
  none-freed pid c (FreeingChild child step) w = absurd w
  none-freed pid c _ w = refl

  -- a process of which truss has the control file open is one that it traces
  pub traced-there : (pid c : ℕ) → HasControl k pid c now
      → (q : ℕ) × ((q < length t.traced) × ((traced_at t q).pid ≡ pid))
  traced-there pid c its =
      let g = goes-here in
      let w = g.kept in
      traced-owned n k o s h run front later is pid c its (none-freed pid c t.stage w.stage)
