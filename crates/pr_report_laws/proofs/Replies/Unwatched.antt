use Rattle.std.proofs.Common.{◌≡◌, ◌≢◌, ◌<◌, ℕ, true, false, None, Some, Option, length, refl, sym, subst, ap, ◌∙◌, inl, inr}
use Rattle.std.proofs.lemmas.Bool.{cases_Bool, cases_eq, false≢true}
use Rattle.pr_line.specs.declared.options.Options.{Options}
use Rattle.pr_model.specs.State.{TracedProcess, TracedState, live_process}
use Rattle.pr_truss.specs.Trusses.{TrussState, traced_at}
use Rattle.pr_truss.specs.declared.processes.Traced.{Traced}
use Rattle.pr_truss.specs.declared.stages.ChildStep.{ChildStep}
use Rattle.pr_truss.specs.declared.stages.Stage.{Stage}
use Rattle.pr_truss.specs.declared.stages.Stage.TheVariants.{OpeningChild}
use Rattle.pr_report_laws.proofs.Invariant.Tallies.{Tally}
use Rattle.pr_report_laws.proofs.Replies.Moves.{Passes, passes-standing}
use Rattle.pr_report_laws.proofs.Replies.Orderly.{IsOrderly}
use Rattle.pr_report_laws.proofs.Invariant.OtherSteps.{is-watched}
use Rattle.pr_report_laws.proofs.Replies.Places.{place-pid, unwatched-away, unwatched-none, unwatched-off}
use Rattle.pr_report_laws.proofs.Replies.TracedPlaces.{place-some}
use Rattle.pr_report_laws.proofs.Invariant.Standing.{Accounted, Prepares, Standing, apart, has_read, is_named, lives, over}
use Rattle.pr_report_laws.proofs.Invariant.Positions.{IsAtBirth}
use Rattle.pr_report_laws.specs.Watching.{is_away, place_of, watches}

-- A process that truss does not watch, and what a step leaves of the others.

-- what holds of a process before each entry
abbrev pub Stands : Type 0 → Options → ℕ → TrussState → TracedState → Tally → Type 0
Stands Why o pid t s tally = Standing Why o pid t s tally × Prepares o pid t s

-- ---- not watched

-- truss traces no process of this id
pub none-watched : (t : TrussState) (pid : ℕ) → place_of t pid ≡ None → watches t pid ≡ false
none-watched t pid none = unwatched-none t pid none

-- it is being opened, left or closed
pub away-watched : (t : TrussState) (pid place : ℕ) → place_of t pid ≡ Some place
    → is_away t.leaving t.stage place ≡ true → watches t pid ≡ false
away-watched t pid place at away = unwatched-away t pid place at away

-- its opening has not come to its stop
pub unattached-watched : (t : TrussState) (pid place : ℕ) → place_of t pid ≡ Some place
    → (traced_at t place).attached ≡ false → watches t pid ≡ false
unattached-watched t pid place at off = unwatched-off t pid place at off

module _ (Why : Type 0) (o : Options) (pid : ℕ) (t : TrussState) (s : TracedState) (tally : Tally) where
  pub apart-accounted : watches t pid ≡ false → Standing Why o pid t s tally → Accounted Why tally
  apart-accounted off (apart not_watched a) = a
  apart-accounted off (over watched none a) = a
  apart-accounted off (lives place p at attached here live traced position) =
      absurd (false≢true (sym off ∙ is-watched t pid place at attached here))

  -- it was not watched, and it is not
  pub apart-standing : (u : TrussState) (s' : TracedState) → watches t pid ≡ false → watches u pid ≡ false
      → Standing Why o pid t s tally → Standing Why o pid u s' tally
  apart-standing u s' before after standing = apart after (apart-accounted before standing)

  -- What the machine does to a process that truss does not watch does not matter.
  pub watched-on : (s' : TracedState) → (watches t pid ≡ true → Standing Why o pid t s' tally)
      → Standing Why o pid t s tally → Standing Why o pid t s' tally
  watched-on s' watched standing =
      elim (cases_Bool (watches t pid)) [ inl on ↦ watched on | inr off ↦ apart-standing t s' off off standing ]

-- ---- a step that is about another process

-- What a step has to do with a place: the process there is still opened, left or closed, or the step passes it by.
pub data Agrees (t u : TrussState) (place : ℕ) : Type 0 where
  stays_away : is_away t.leaving t.stage place ≡ true → is_away u.leaving u.stage place ≡ true → Agrees t u place
  aside : traced_at u place ≡ traced_at t place → is_away t.leaving t.stage place ≡ false
      → is_away u.leaving u.stage place ≡ false
      → has_read u.stage place ≡ has_read t.stage place → is_named u.stage place ≡ is_named t.stage place
      → Agrees t u place

-- a step that is about one place
pub beside : (t u : TrussState) (of : ℕ) → is_away t.leaving t.stage of ≡ true → is_away u.leaving u.stage of ≡ true
    → ((place : ℕ) → place ≢ of → Agrees t u place) → (place : ℕ) → Agrees t u place
beside t u of before after others place =
    elim (cases_eq place of) [
      | inl is ↦ subst (Agrees t u) (sym is)
          (stays_away before after)
      | inr differs ↦ others place differs
    ]

module _ (Why : Type 0) (o : Options) (pid : ℕ) (t u : TrussState) (s : TracedState) (tally : Tally) where
  -- a step that agrees with each place, where each process stands as before
  pub agreeing-standing : place_of u pid ≡ place_of t pid → ((place : ℕ) → Agrees t u place)
      → Standing Why o pid t s tally → Standing Why o pid u s tally
  agreeing-standing same agrees standing = by (place_of t pid) refl
    where
      at : (place : ℕ) → place_of t pid ≡ Some place → Agrees t u place → Standing Why o pid u s tally
      at place is (stays_away before after) =
          apart-standing Why o pid t s tally u s (away-watched t pid place is before) (away-watched u pid place (same
          ∙ is) after) standing
      at place is (aside stays before after read named) =
          passes-standing Why o pid t u s tally place place (record {
            at = is;
            then = same
                ∙ is;
            same =
                stays;
            was = λ on. before;
            here = λ on. after;
            read = read;
            named = named;
          }) standing

      by : (x : Option ℕ) → place_of t pid ≡ x → Standing Why o pid u s tally
      by None is =
          apart-standing Why o pid t s tally u s (none-watched t pid is) (none-watched u pid (same ∙ is)) standing
      by (Some place) is = at place is (agrees place)

-- a process that stays what it was
pub passing : (pid : ℕ) (t u : TrussState) (place next : ℕ) → IsOrderly u → place_of t pid ≡ Some place
    → next < length u.traced → traced_at u next ≡ traced_at t place
    → is_away t.leaving t.stage place ≡ false
    → ((traced_at u next).attached ≡ true → is_away u.leaving u.stage next ≡ false)
    → has_read u.stage next ≡ has_read t.stage place → is_named u.stage next ≡ is_named t.stage place
    → Passes pid t u place next
passing pid t u place next order at within same was here read named = record {
  at = at;
  then = place-some u pid order next within (ap (λ (x : Traced). x.pid) same ∙ place-pid t pid place at);
  same = same;
  was = λ on. was;
  here = λ on. here (ap (λ (x : Traced). x.attached) same ∙ on);
  read = read;
  named = named;
}

-- ---- what a stage is tells what it has to do with a place

module _ (t : TrussState) (stage : Stage) (is : t.stage ≡ stage) where
  pub stage-away : (place : ℕ) → is_away t.leaving t.stage place ≡ is_away t.leaving stage place
  stage-away place = ap (λ x. is_away t.leaving x place) is

  pub stage-read : (place : ℕ) → has_read t.stage place ≡ has_read stage place
  stage-read place = ap (λ x. has_read x place) is

  pub stage-named : (place : ℕ) → is_named t.stage place ≡ is_named stage place
  stage-named place = ap (λ x. is_named x place) is

-- the step of truss is the opening, the leaving or the closing of the process
pub stage-unwatched : (t : TrussState) (stage : Stage) (pid place : ℕ) → t.stage ≡ stage → place_of t pid ≡ Some place
    → is_away t.leaving stage place ≡ true → watches t pid ≡ false
stage-unwatched t stage pid place is at away = away-watched t pid place at (stage-away t stage is place ∙ away)

-- ---- what is asked of a child that truss opens

pub prepares-child : (o : Options) (pid : ℕ) (t : TrussState) (s : TracedState) (parent place : ℕ) (step : ChildStep)
    → t.stage ≡ OpeningChild parent place step → (traced_at t place).old ≡ 0
    → ((p : TracedProcess) → (traced_at t place).pid ≡ pid → live_process s.system pid ≡ Some p → IsAtBirth o p)
    → Prepares o pid t s
prepares-child o pid t s parent place step stage old born = record {
  opened = λ at next p is own live. absurd (let e = sym stage ∙ is in cc);
  until = λ at until is. absurd (let e = sym stage ∙ is in cc);
  child =
      λ from at next p is own live. let e =
      sym stage ∙ is in let same : place ≡ at = cc in born p (ap (λ n. (traced_at t n).pid) same ∙ own) live;
  new =
      λ from at next is. let e =
      sym stage ∙ is in let same : place ≡ at = cc in ap (λ n. (traced_at t n).old) (sym same) ∙ old;
}
