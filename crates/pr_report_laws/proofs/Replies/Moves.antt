use Rattle.std.proofs.Common.{◌≡◌, ◌&&◌, not, ℕ, Bool, true, false, None, Some, Option, refl, sym, subst, ap, ◌∙◌, inl, inr}
use Rattle.std.proofs.lemmas.Bool.{cases_Bool, false≢true}
use Rattle.std.proofs.lemmas.Option.{same_Some}
use Rattle.pr_line.specs.declared.options.Options.{Options}
use Rattle.pr_model.specs.State.{TracedProcess, TracedState}
use Rattle.pr_truss.specs.Trusses.{TrussState, traced_at}
use Rattle.pr_truss.specs.declared.processes.Traced.{Traced}
use Rattle.pr_truss.specs.declared.stages.Stage.{Stage}
use Rattle.pr_report_laws.proofs.Invariant.Tallies.{Tally}
use Rattle.pr_report_laws.proofs.Invariant.OtherSteps.{is-watched}
use Rattle.pr_report_laws.proofs.Invariant.Standing.{Position, Standing, apart, goes, has_event, has_read, is_named, lives, old_stops, over, stop_read}
use Rattle.pr_report_laws.specs.Watching.{is_away, place_of, watches, watches_at}

-- A step of truss that has to do with other processes.

-- The process of an id stands at a place, and then at another one. The step has nothing to do with it: it is watched
-- where it is attached, and truss has read its stop, or a poll named it, as before.
pub record Passes (pid : ℕ) (t u : TrussState) (place next : ℕ) : Type 0 where
  pub at : place_of t pid ≡ Some place
  pub then : place_of u pid ≡ Some next
  pub same : traced_at u next ≡ traced_at t place
  pub was : (traced_at t place).attached ≡ true → is_away t.leaving t.stage place ≡ false
  pub here : (traced_at t place).attached ≡ true → is_away u.leaving u.stage next ≡ false
  pub read : has_read u.stage next ≡ has_read t.stage place
  pub named : is_named u.stage next ≡ is_named t.stage place

module _ (Why : Type 0) (o : Options) (pid : ℕ) (t u : TrussState) (s : TracedState) (tally : Tally) where
  -- a position, as the next stage has it
  moved-position : (stage next : Stage) (place later old : ℕ) (p : TracedProcess)
      → has_read next later ≡ has_read stage place → is_named next later ≡ is_named stage place
      → Position o stage place old p tally → Position o next later old p tally
  moved-position stage next place later old p read named (stop_read is waits all) = stop_read (read ∙ is) waits all
  moved-position stage next place later old p read named (old_stops n is counts waits all) =
      old_stops n (read ∙ is) counts waits all
  moved-position stage next place later old p read named (goes is not_named none quiet all) =
      goes (read ∙ is) (named ∙ not_named) none quiet all
  moved-position stage next place later old p read named (has_event id event is none stands waits all) =
      has_event id event (read ∙ is) none stands (λ n. waits (sym named ∙ n)) all

  -- whether it is watched
  not-watched : (place : ℕ) → place_of t pid ≡ Some place
      → ((traced_at t place).attached ≡ true → is_away t.leaving t.stage place ≡ false) → watches t pid ≡ false
      → (traced_at t place).attached ≡ false
  not-watched place at was not_watched =
      elim (cases_Bool (traced_at t place).attached) [
        | inl on ↦ absurd (false≢true (sym not_watched
            ∙ is-watched t pid place at on (was on)))
        | inr off ↦ off
      ]

  unattached : (v : TrussState) (place : ℕ) → place_of v pid ≡ Some place → (traced_at v place).attached ≡ false
      → watches v pid ≡ false
  unfolding watches
  unattached v place at off = ap (watches_at v) at ∙ ap (λ b. b && not (is_away v.leaving v.stage place)) off

  -- what stands at the place of a watched process
  attached-at : (v : TrussState) (o : Option ℕ) (place : ℕ) → place_of v pid ≡ o → o ≡ Some place
      → watches_at v o ≡ true → (traced_at v place).attached ≡ true
  attached-at v None place at is watched = absurd (false≢true watched)
  attached-at v (Some other) place at is watched =
      subst (λ n. (traced_at v n).attached ≡ true) (same_Some other place is)
      (first ((traced_at v other).attached) _ watched)
    where
      first : (a b : Bool) → (a && b) ≡ true → a ≡ true
      first true b both = refl
      first false b both = both

  watched-attached : (v : TrussState) (place : ℕ) → place_of v pid ≡ Some place → watches v pid ≡ true
      → (traced_at v place).attached ≡ true
  unfolding watches
  watched-attached v place at watched = attached-at v (place_of v pid) place refl at watched

  pub passes-standing : (place next : ℕ) → Passes pid t u place next → Standing Why o pid t s tally
      → Standing Why o pid u s tally
  passes-standing place next m (apart not_watched a) =
      let off = not-watched place m.at m.was not_watched in
      apart (unattached u next m.then (ap (λ (x : Traced). x.attached) m.same ∙ off)) a
  passes-standing place next m (over watched none a) =
      let on = watched-attached t place m.at watched in
      over (is-watched u pid next m.then (ap (λ (x : Traced). x.attached) m.same
      ∙ on) (m.here on)) none a
  passes-standing place next m (lives at p stands attached here live traced position) =
      let same : at ≡ place = same_Some at place (sym stands ∙ m.at) in
      let on : (traced_at t place).attached ≡ true = subst (λ n. (traced_at t n).attached ≡ true) same attached in
      let before : Position o t.stage place (traced_at t place).old p tally =
      subst (λ n. Position o t.stage n (traced_at t n).old p tally) same position in
      lives next p m.then (ap (λ (x : Traced). x.attached) m.same ∙ on) (m.here on) live traced
      (subst (λ n. Position o u.stage next n p tally) (sym (ap (λ (x : Traced). x.old) m.same))
      (moved-position t.stage u.stage place next (traced_at t place).old p m.read m.named before))
