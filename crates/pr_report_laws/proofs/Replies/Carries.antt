use Rattle.std.proofs.Common.{◌≡◌, ℕ, suc, true, false, Some, None, refl, sym, subst, ◌∙◌, inl, inr}
use Rattle.std.proofs.lemmas.Bool.{cases_Bool, false≢true}
use Rattle.std.proofs.lemmas.Option.{same_Some}
use Rattle.pr_line.specs.declared.options.Options.{Options}
use Rattle.pr_model.specs.State.{TracedProcess, TracedState, live_process}
use Rattle.pr_truss.specs.Closings.{with_closing}
use Rattle.pr_truss.specs.Trusses.{TrussState, traced_at}
use Rattle.pr_report_laws.proofs.Invariant.Tallies.{IsWhole, Tally}
use Rattle.pr_report_laws.proofs.Invariant.OtherSteps.{accounted-all, is-watched}
use Rattle.pr_report_laws.proofs.Replies.Places.{unwatched-away, unwatched-off, unwatched-on, watched-on}
use Rattle.pr_report_laws.proofs.Invariant.Standing.{Accounted, Position, Standing, apart, lives, over, stop_read}
use Rattle.pr_report_laws.proofs.Replies.StopsOver.{StopOver}
use Rattle.pr_report_laws.proofs.Invariant.Positions.{IsTracedBy, Waits}
use Rattle.pr_report_laws.specs.Watching.{is_away, place_of}

-- A step of truss that is about a process at its place.

-- How a process that lived before the step stands after it: truss leaves it, and all is accounted for; or it lives, and
-- truss watches it.
pub data Lands (Why : Type 0) (o : Options) (pid : ℕ) (u : TrussState) (v : TracedState) (tally : Tally)
    (place : ℕ) : Type 0 where
  leaves : is_away u.leaving u.stage place ≡ true → Accounted Why tally → Lands Why o pid u v tally place
  stays : (q : TracedProcess) → is_away u.leaving u.stage place ≡ false → live_process v.system pid ≡ Some q
      → IsTracedBy o q → Position o u.stage place (traced_at u place).old q tally
      → Lands Why o pid u v tally place

-- It stays at its place, and as attached as it was. What has ended stays so, and truss is told no
-- event of it.
pub record Carries (Why : Type 0) (o : Options) (pid : ℕ) (t u : TrussState) (s v : TracedState) (tally later : Tally)
    (place : ℕ) : Type 0 where
  pub at : place_of t pid ≡ Some place
  pub then : place_of u pid ≡ Some place
  pub same : (traced_at u place).attached ≡ (traced_at t place).attached
  pub was : (traced_at t place).attached ≡ true → is_away t.leaving t.stage place ≡ false
  pub off : (traced_at t place).attached ≡ false → later ≡ tally
  pub ends : live_process s.system pid ≡ None → (live_process v.system pid ≡ None) × (later ≡ tally)
  pub moves : (p : TracedProcess) → (traced_at t place).attached ≡ true → live_process s.system pid ≡ Some p
      → IsTracedBy o p → Position o t.stage place (traced_at t place).old p tally
      → Lands Why o pid u v later place

module _ (Why : Type 0) (o : Options) (pid : ℕ) (t u : TrussState) (s v : TracedState) (tally later : Tally)
    (place : ℕ) where
  pub carries-standing : Carries Why o pid t u s v tally later place → Standing Why o pid t s tally
      → Standing Why o pid u v later
  carries-standing c (apart unwatched a) =
      let off : (traced_at t place).attached ≡ false = unwatched-on t pid place c.at c.was unwatched in
      apart (unwatched-off u pid place c.then (c.same ∙ off)) (subst (Accounted Why) (sym (c.off off)) a)
  carries-standing c (over watched ended a) =
      let end = c.ends ended in
      let all : Accounted Why later = subst (Accounted Why) (sym end.1) a in
      elim (cases_Bool (is_away u.leaving u.stage place)) [
        | inl away ↦ apart (unwatched-away u pid place c.then away) all
        | inr here ↦ over (is-watched u pid place c.then (c.same ∙ watched-on t pid place c.at watched) here) end.0 all
      ]
  carries-standing c (lives at p stands attached here live traced position) =
      by (c.moves p (subst (λ n. (traced_at t n).attached ≡ true) same attached) live traced
      (subst (λ n. Position o t.stage n (traced_at t n).old p tally) same position))
    where
      same : at ≡ place
      same = same_Some at place (sym stands ∙ c.at)

      on : (traced_at u place).attached ≡ true
      on = c.same ∙ subst (λ n. (traced_at t n).attached ≡ true) same attached

      by : Lands Why o pid u v later place → Standing Why o pid u v later
      by (leaves away a) = apart (unwatched-away u pid place c.then away) a
      by (stays q now live_now traced_now position_now) = lives place q c.then on now live_now traced_now position_now

module _ (Why : Type 0) (o : Options) (pid : ℕ) (t u : TrussState) (s v : TracedState) (tally : Tally)
    (place : ℕ) where
  -- where truss has read a stop of the process and was told all that came, it runs it next or later, or leaves it
  pub read-lands : (p : TracedProcess) → StopOver t place u → live_process v.system pid ≡ Some p → IsTracedBy o p
      → (is_away u.leaving u.stage place ≡ false → Waits p (suc (traced_at u place).old)) → IsWhole tally
      → Lands Why o pid u v tally place
  read-lands p ends live traced waits all =
      elim (cases_Bool (is_away u.leaving u.stage place)) [
        | inl away ↦ leaves away (accounted-all Why tally all)
        | inr here ↦ stays p here live traced (stop_read (ends.read here) (waits here) all)
      ]

  -- the same, where so many old stops are left
  pub left-lands : (p : TracedProcess) (left : ℕ) → StopOver t place u → (traced_at u place).old ≡ left
      → live_process v.system pid ≡ Some p → IsTracedBy o p
      → (is_away u.leaving u.stage place ≡ false → Waits p (suc left)) → IsWhole tally
      → Lands Why o pid u v tally place
  left-lands p left ends old live traced waits all =
      read-lands p ends live traced (λ here. subst (λ n. Waits p (suc n)) (sym old) (waits here)) all

  -- a process that truss watches lives or has ended
  pub watched-cases : (P : Type 0) → place_of t pid ≡ Some place → (traced_at t place).attached ≡ true
      → is_away t.leaving t.stage place ≡ false → (live_process s.system pid ≡ None → P)
      → ((p : TracedProcess) → live_process s.system pid ≡ Some p → P) → Standing Why o pid t s tally → P
  watched-cases P at on here dead alive (apart unwatched a) =
      absurd (false≢true (sym unwatched ∙ is-watched t pid place at on here))
  watched-cases P at on here dead alive (over watched ended a) = dead ended
  watched-cases P at on here dead alive (lives other p stands attached not_away live traced position) = alive p live

  -- one that truss has left, or is about to, is accounted for
  pub away-accounted : place_of t pid ≡ Some place → is_away t.leaving t.stage place ≡ true
      → Standing Why o pid t s tally → Accounted Why tally
  away-accounted at away (apart unwatched a) = a
  away-accounted at away (over watched ended a) = a
  away-accounted at away (lives other p stands attached here live traced position) =
      absurd (false≢true (sym here
      ∙ subst (λ n. is_away t.leaving t.stage n ≡ true) (same_Some place other (sym at ∙ stands)) away))

-- the files of a process that has ended are closed
pub closing-carries : (Why : Type 0) (o : Options) (pid : ℕ) (t : TrussState) (s v : TracedState)
    (tally : Tally) (place : ℕ) → place_of t pid ≡ Some place
    → ((traced_at t place).attached ≡ true → is_away t.leaving t.stage place ≡ false)
    → (live_process s.system pid ≡ None → live_process v.system pid ≡ None)
    → ((p : TracedProcess) → live_process s.system pid ≡ Some p → ⊥)
    → Carries Why o pid t (with_closing t place) s v tally tally place
closing-carries Why o pid t s v tally place stands here ended dead = record {
  at = stands;
  then = stands;
  same = refl;
  was = here;
  off = λ off. refl;
  ends = λ over. (ended over, refl);
  moves = λ p on live traced position. absurd (dead p live);
}
