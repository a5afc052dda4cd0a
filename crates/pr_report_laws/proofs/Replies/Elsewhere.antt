use Rattle.std.proofs.Common.{◌≡◌, ◌≢◌, ℕ, Bool, true, false, Some, None, sym, ap, ◌∙◌}
use Rattle.std.proofs.lemmas.Option.{none-some}
use Rattle.pr_line.specs.declared.options.Options.{Options}
use Rattle.pr_model.specs.State.{TracedState}
use Rattle.pr_truss.specs.Trusses.{TrussState, traced_at}
use Rattle.pr_truss.specs.declared.processes.Traced.{Traced}
use Rattle.pr_truss.specs.declared.stages.Stage.{Stage}
use Rattle.pr_report_laws.proofs.Invariant.Tallies.{Tally}
use Rattle.pr_report_laws.proofs.Replies.Moves.{Passes, passes-standing}
use Rattle.pr_report_laws.proofs.Replies.NextStages.{ComesNext, comes-places, comes-same, opens}
use Rattle.pr_report_laws.proofs.Replies.Places.{by-place, place-other, unwatched-none}
use Rattle.pr_report_laws.proofs.Invariant.Standing.{Accounted, Standing, apart, has_read, is_named, lives, over}
use Rattle.pr_report_laws.specs.Watching.{is_away, place_of}

-- A step of truss that is about the process at one place: what it leaves of the others, and of a process that truss
-- does not trace.

-- ---- a process that truss does not trace

pub none-accounted : (Why : Type 0) (o : Options) (pid : ℕ) (t : TrussState) (s : TracedState) (tally : Tally)
    → place_of t pid ≡ None → Standing Why o pid t s tally → Accounted Why tally
none-accounted Why o pid t s tally none (apart unwatched a) = a
none-accounted Why o pid t s tally none (over watched ended a) = a
none-accounted Why o pid t s tally none (lives place p at attached here live traced position) =
    absurd (none-some place (sym none ∙ at))

pub none-standing : (Why : Type 0) (o : Options) (pid : ℕ) (t u : TrussState) (s v : TracedState)
    (tally : Tally) → place_of t pid ≡ None → place_of u pid ≡ None → Standing Why o pid t s tally
    → Standing Why o pid u v tally
none-standing Why o pid t u s v tally none later w =
    apart (unwatched-none u pid later) (none-accounted Why o pid t s tally none w)

-- ---- a stage is not about a process

pub record IsAside (leaving : Bool) (stage : Stage) (place : ℕ) : Type 0 where
  pub here : is_away leaving stage place ≡ false
  pub read : has_read stage place ≡ false
  pub named : is_named stage place ≡ false

-- ---- the others

-- each other process stands where it stood, and the step that comes next is not about it
pub record IsElsewhere (t u : TrussState) (at : ℕ) : Type 0 where
  pub places : (pid : ℕ) → place_of u pid ≡ place_of t pid
  pub same : (other : ℕ) → other ≢ at → traced_at u other ≡ traced_at t other
  pub here : (other : ℕ) → other ≢ at → (traced_at u other).attached ≡ true → is_away u.leaving u.stage other ≡ false
  pub read : (other : ℕ) → other ≢ at → has_read u.stage other ≡ false
  pub named : (other : ℕ) → other ≢ at → is_named u.stage other ≡ false
  pub opens : opens u.stage ≡ false

module _ (t u : TrussState) (at pid : ℕ) (e : IsElsewhere t u at) (apart_from : (traced_at t at).pid ≢ pid)
    (aside : (other : ℕ) → other ≢ at → IsAside t.leaving t.stage other) where
  elsewhere-passes : (place : ℕ) → place_of t pid ≡ Some place → Passes pid t u place place
  elsewhere-passes place stands =
      let other = place-other t at place pid apart_from stands in
      let before : IsAside t.leaving t.stage place = aside place other in
      record {
        at = stands;
        then = e.places pid ∙ stands;
        same = e.same place other;
        was = λ on. before.here;
        here = λ on. e.here place other (ap (λ (x : Traced). x.attached) (e.same place other) ∙ on);
        read = e.read place other ∙ sym before.read;
        named = e.named place other ∙ sym before.named;
      }

  pub elsewhere-standing : (Why : Type 0) (o : Options) (s : TracedState) (tally : Tally)
      → Standing Why o pid t s tally → Standing Why o pid u s tally
  elsewhere-standing Why o s tally w =
      by-place t pid (Standing Why o pid u s tally)
      (λ none. none-standing Why o pid t u s s tally none (e.places pid ∙ none) w)
      (λ place stands. passes-standing Why o pid t u s tally place place (elsewhere-passes place stands) w)

-- what comes when nothing is to be done for a process, after a change of the process at that place
pub comes-elsewhere : (t w u : TrussState) (at : ℕ) → ((pid : ℕ) → place_of w pid ≡ place_of t pid)
    → ((other : ℕ) → other ≢ at → traced_at w other ≡ traced_at t other) → ComesNext w u → IsElsewhere t u at
comes-elsewhere t w u at places same c = record {
  places = λ pid. comes-places pid w u c ∙ places pid;
  same = λ other apart_from. comes-same other w u c ∙ same other apart_from;
  here = λ other apart_from on. c.here other on;
  read = λ other apart_from. c.read other;
  named = λ other apart_from. c.named other;
  opens = c.opens;
}
