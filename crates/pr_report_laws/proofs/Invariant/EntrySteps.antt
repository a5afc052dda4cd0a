use Rattle.std.proofs.Common.{◌≡◌, ◌≢◌, ◌<◌, ℕ, false, None, Some, Option, length, refl, sym, subst, ap, ◌∙◌, arith, inl, inr, ◌⊎◌, true}
use Rattle.std.proofs.lemmas.Bool.{false≢true}
use Rattle.std.proofs.lemmas.Option.{get_or_from_slice_get, none-some, slice_get_within}
use Rattle.std.specs.List.{All, slice_get}
use Rattle.pr_lawful.proofs.ProcessParts.HandleLemmas.{handle-at}
use Rattle.pr_line.specs.declared.options.Options.{Options}
use Rattle.pr_model.specs.Handles.{handle_of}
use Rattle.pr_model.specs.Lawful.{IsLawful, IsOfMade}
use Rattle.pr_model.specs.Legal.{IsLegalEntry, after}
use Rattle.pr_model.specs.State.{Places, TracedProcess, TracedState, live_process, process_of}
use Rattle.pr_model.specs.declared.calls.File.TheVariants.{Ctl}
use Rattle.pr_model.specs.declared.calls.Mode.TheVariants.{WriteExcl}
use Rattle.pr_model.specs.declared.events.Actor.TheVariants.{Controller, Lwp}
use Rattle.pr_model.specs.declared.events.Entry.{Entry}
use Rattle.pr_model.specs.declared.handles.Held.{Held}
use Rattle.pr_num.specs.Signals.{signal_number}
use Rattle.pr_num.specs.declared.signals.Sig.TheVariants.{Kill}
use Rattle.pr_truss.specs.Trusses.{TrussState, traced_at}
use Rattle.pr_truss.specs.declared.stages.Stage.{Stage}
use Rattle.pr_truss_laws.proofs.Files.HeldLemmas.{Fits, IsLast}
use Rattle.pr_truss_laws.proofs.Files.OpensLemmas.{held_by}
use Rattle.pr_truss_laws.proofs.Files.OwnLemmas.{Owns}
use Rattle.pr_report_laws.proofs.Invariant.Tallies.{Tally}
use Rattle.pr_report_laws.proofs.Files.FileLaws.{HasFiles}
use Rattle.pr_report_laws.proofs.Files.FileUses.{place-is}
use Rattle.pr_truss_laws.proofs.Machine.ForeignLemmas.{exclusive-sole}
use Rattle.pr_truss_laws.proofs.Machine.OutlastLemmas.{Outlasts, others-entry}
use Rattle.pr_report_laws.proofs.Invariant.OtherSteps.{accounted-why, prepares-on, standing-on}
use Rattle.pr_truss_laws.proofs.Machine.OverLemmas.{stays-made, stays-over}
use Rattle.pr_report_laws.proofs.Invariant.Standing.{Prepares, Standing, apart, lives, over}
use Rattle.pr_report_laws.specs.Watching.{place_of, watches, watches_at}

-- What an entry leaves that is no call of truss and no turn of the process.

-- ---- why an event may be missing

-- A process of which an event is missing was ended, for some cause, and does not live again.
pub record Lost (Cause : Type 0) (pid : ℕ) (s : TracedState) : Type 0 where
  pub cause : Cause
  pub over : live_process s.system pid ≡ None
  pub made : pid < s.system.made

-- SIGKILL ended it in this entry, while truss watched it
pub record EndsByKill (pid : ℕ) (t : TrussState) (s : TracedState) (e : Entry) : Type 0 where
  pub watched : watches t pid ≡ true
  pub process : TracedProcess
  pub lived : live_process s.system pid ≡ Some process
  pub zombie : TracedProcess
  pub left : process_of (after s e).system pid ≡ Some zombie
  pub status : zombie.ended ≡ Some (signal_number Kill)

pub standing-why : (Why Next : Type 0) (o : Options) (pid : ℕ) (t : TrussState) (s : TracedState)
    (tally : Tally) → (Why → Next) → Standing Why o pid t s tally → Standing Next o pid t s tally
standing-why Why Next o pid t s tally more (apart not_watched a) =
    apart not_watched (accounted-why Why Next tally more a)
standing-why Why Next o pid t s tally more (over watched none a) =
    over watched none (accounted-why Why Next tally more a)
standing-why Why Next o pid t s tally more (lives place p at attached here live traced position) =
    lives place p at attached here live traced position

-- ---- the place of a process

pub unwatched : (t : TrussState) (pid : ℕ) → place_of t pid ≡ None → watches t pid ≡ false
unfolding watches
unwatched t pid none = ap (watches_at t) none

-- of a process that truss has no file of none is opened
pub nowhere-prepares : (k : ℕ) (o : Options) (pid : ℕ) (t : TrussState) (s u : TracedState) → Owns k t s
    → HasFiles k t s → place_of t pid ≡ None → Prepares o pid t s → Prepares o pid t u
nowhere-prepares k o pid t s u owns files none h = record {
  opened =
      λ place step q stage at later. nowhere place
      (let fits = subst (λ (x : Stage). Fits t.traced x) stage owns.fits in fits.0) at;
  until = h.until;
  child =
      λ parent place step q stage at later. nowhere place
      (let fits = subst
      (λ (x : Stage). Fits t.traced x) stage owns.fits in let last : IsLast t.traced parent place =
      fits.0 in omega (arith, last.last)) at;
  new = h.new;
}
  where
    nowhere : {X : Type 0} (place : ℕ) → place < length t.traced → (traced_at t place).pid ≡ pid → X
    nowhere place inside at =
        absurd (none-some place (sym none ∙ subst (λ of. place_of t of ≡ Some place) at (files.one place inside)))

-- a handle that is open is of a process that was made
pub made-at : {made : ℕ} (opens : Places) (number : ℕ) (h : Held) → slice_get opens number ≡ Some (Some h)
    → All (IsOfMade made) opens → h.pid < made
made-at {made} opens number h at all =
    subst (IsOfMade made) (get_or_from_slice_get opens number (Some h) (Some h) at)
    (all number (Some h) (slice_get_within opens number (Some h) at))

-- ---- the step

module _ (n k : ℕ) (o : Options) (pid : ℕ) (t : TrussState) (s : TracedState) (e : Entry) (lawful : IsLawful s)
    (legal : IsLegalEntry n s e) (owns : Owns k t s) (files : HasFiles k t s)
    (elsewhere : (id : ℕ) → e.actor ≢ Lwp pid id) (others : e.actor ≢ Controller k) where
  u : TracedState
  u = after s e

  -- a process that truss has a file of was made, and outlasts what others do
  module _ (place : ℕ) (at : place_of t pid ≡ Some place) where
    within : place < length t.traced
    within = (place-is t pid place at).0

    own : (traced_at t place).pid ≡ pid
    own = (place-is t pid place at).1

    control : Held
    control = held_by k pid 0 Ctl WriteExcl

    held : handle_of s.opens k (traced_at t place).control ≡ Some (held_by k pid 0 Ctl WriteExcl)
    held = let f = files.control place within in f.is ∙ ap (λ of. Some (held_by k of 0 Ctl WriteExcl)) own

    was-made : pid < s.system.made
    was-made =
        made-at s.opens (traced_at t place).control (held_by k pid 0 Ctl WriteExcl)
        (handle-at s.opens k (traced_at t place).control (held_by k pid 0 Ctl WriteExcl) held) lawful.handles

    outlasts : (p : TracedProcess) → live_process s.system pid ≡ Some p → Outlasts pid p (after s e).system
    outlasts p live =
        let sole = exclusive-sole s k (traced_at t place).control (held_by k pid 0 Ctl WriteExcl) lawful held refl in
        others-entry n s k pid e p lawful sole legal elsewhere others live

  lost-on : (K : Type 0) → Lost K pid s → Lost (K ⊎ EndsByKill pid t s e) pid (after s e)
  lost-on K h = record {
    cause = inl h.cause;
    over = stays-over n s e pid lawful legal h.made h.over;
    made = stays-made n s e pid lawful legal h.made;
  }

  -- a process that truss has no file of
  nowhere-standing : (K : Type 0) (tally : Tally) → place_of t pid ≡ None
      → Standing (Lost K pid s) o pid t s tally
      → Standing (Lost (K ⊎ EndsByKill pid t s e) pid (after s e)) o pid t (after s e) tally
  nowhere-standing K tally none (apart not_watched a) =
      apart not_watched (accounted-why _ _ tally (lost-on K) a)
  nowhere-standing K tally none (over watched gone a) = absurd (false≢true (sym (unwatched t pid none) ∙ watched))
  nowhere-standing K tally none (lives place p at attached here live traced position) =
      absurd (none-some place (sym none ∙ at))

  somewhere-standing : (K : Type 0) (tally : Tally) (place : ℕ) → place_of t pid ≡ Some place
      → Standing (Lost K pid s) o pid t s tally
      → Standing (Lost (K ⊎ EndsByKill pid t s e) pid (after s e)) o pid t (after s e) tally
  somewhere-standing K tally place at standing =
      standing-on o pid t s (after s e) (outlasts place at)
      (λ none. stays-over n s e pid lawful legal (was-made place at) none) (Lost K pid s)
      (Lost (K ⊎ EndsByKill pid t s e) pid (after s e)) tally (lost-on K)
      (λ p z watched live none found status. record {
        cause =
            inr (record { watched = watched; process = p; lived = live; zombie = z; left = found; status = status });
        over = none;
        made = stays-made n s e pid lawful legal (was-made place at);
      })
      standing

  pub others-standing : (K : Type 0) (tally : Tally) → Standing (Lost K pid s) o pid t s tally
      → Standing (Lost (K ⊎ EndsByKill pid t s e) pid (after s e)) o pid t (after s e) tally
  others-standing K tally standing = by (place_of t pid) refl
    where
      by : (x : Option ℕ) → place_of t pid ≡ x
          → Standing (Lost (K ⊎ EndsByKill pid t s e) pid (after s e)) o pid t (after s e) tally
      by None is = nowhere-standing K tally is standing
      by (Some place) is = somewhere-standing K tally place is standing

  pub others-prepares : Prepares o pid t s → Prepares o pid t (after s e)
  others-prepares h = by (place_of t pid) refl
    where
      by : (x : Option ℕ) → place_of t pid ≡ x → Prepares o pid t (after s e)
      by None is = nowhere-prepares k o pid t s (after s e) owns files is h
      by (Some place) is =
          prepares-on o pid t s (after s e) (outlasts place is)
          (λ none. stays-over n s e pid lawful legal (was-made place is) none) h
