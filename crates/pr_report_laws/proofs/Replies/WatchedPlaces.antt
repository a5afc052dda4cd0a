use Rattle.std.proofs.Common.{◌≡◌, ◌<◌, ℕ, Bool, true, false, not, Option, Some, None, length, refl, subst}
use Rattle.std.proofs.lemmas.Bool.{and_parts, false≢true}
use Rattle.pr_truss.specs.Trusses.{TrussState, traced_at}
use Rattle.pr_report_laws.proofs.Files.FileUses.{place-is}
use Rattle.pr_report_laws.proofs.Invariant.OtherSteps.{is-watched}
use Rattle.pr_report_laws.specs.Watching.{is_away, place_of, watches, watches_at}

-- Where a process stands that truss watches.

-- At this place stands the process of an id. It is attached, and truss neither opens nor leaves nor closes it.
pub record IsWatched (t : TrussState) (pid place : ℕ) : Type 0 where
  pub within : place < length t.traced
  pub of : (traced_at t place).pid ≡ pid
  pub attached : (traced_at t place).attached ≡ true
  pub here : is_away t.leaving t.stage place ≡ false

-- no process stands twice
abbrev pub StandOnce : TrussState → Type 0
StandOnce t = (place : ℕ) → place < length t.traced → place_of t (traced_at t place).pid ≡ Some place

not-true : (b : Bool) → not b ≡ true → b ≡ false
not-true true is = absurd (false≢true is)
not-true false is = refl

watched-at : (t : TrussState) (pid : ℕ) (o : Option ℕ) → place_of t pid ≡ o → watches_at t o ≡ true
    → (place : ℕ) × IsWatched t pid place
watched-at t pid None at on = absurd (false≢true on)
watched-at t pid (Some place) at on =
    let p = place-is t pid place at in
    let both = and_parts (traced_at t place).attached (not (is_away t.leaving t.stage place)) on in (
      place,
      record {
        within = p.0;
        of = p.1;
        attached = both.0;
        here = not-true (is_away t.leaving t.stage place) both.1;
      },
    )

pub watched-place : (t : TrussState) (pid : ℕ) → watches t pid ≡ true → (place : ℕ) × IsWatched t pid place
unfolding watches
watched-place t pid on = watched-at t pid (place_of t pid) refl on

pub place-watched : (t : TrussState) (pid place : ℕ) → StandOnce t → IsWatched t pid place → watches t pid ≡ true
place-watched t pid place one w =
    is-watched t pid place (subst (λ p. place_of t p ≡ Some place) w.of (one place w.within)) w.attached w.here

-- where it stands nowhere so, it is not watched
pub not-watched : (t : TrussState) (pid : ℕ) → ((place : ℕ) → IsWatched t pid place → ⊥) → watches t pid ≡ false
not-watched t pid none = by (watches t pid) refl
  where
    by : (b : Bool) → watches t pid ≡ b → b ≡ false
    by true on = let w = watched-place t pid on in absurd (none w.0 w.1)
    by false off = refl
