use Rattle.std.proofs.Common.{◌≡◌, ◌∙◌, ℕ, false, None, Some, Option, List, ◌∷◌, refl, []}
use Rattle.std.specs.List.{slice_get}
use Rattle.pr_lawful.specs.Starts.{IsStart}
use Rattle.pr_model.specs.FirstState.{bare_system, first_state, spawned_at, with_spawns}
use Rattle.pr_model.specs.Legal.{IsLegal, state_after}
use Rattle.pr_model.specs.Lives.{with_made, with_reaped}
use Rattle.pr_model.specs.State.{TracedState, TracedSystem, with_process}
use Rattle.pr_model.specs.declared.events.Entry.{Entry}
use Rattle.pr_num.specs.Programs.{Program}
use Rattle.pr_num.specs.declared.files.StoredFile.{StoredFile}
use Rattle.pr_keeps.proofs.KeptHistories.{any-history}
use Rattle.pr_keeps.proofs.KeptSystems.{AnyLwp, KeepsSystem, KeepsTurns, keeps-each, spawned-keeps}

-- No entry of a legal history changes which programs a system has.

abbrev Same : TracedSystem → TracedSystem → Type 0
Same s t = t.programs ≡ s.programs

same-keeps : (s : TracedSystem) → KeepsSystem AnyLwp (Same s)
unfolding with_process with_made with_reaped
same-keeps s = record {
  same = λ t u processes made programs h. programs ∙ h;
  step = λ t pid f is h. h;
  each = λ t f is h. h;
  edits = λ t pid p m tail f found made h. h;
  makes = λ t p new h. h;
  reaps = λ t pid h. h;
}

turns-same : (s : TracedSystem) → KeepsTurns AnyLwp (Same s)
unfolding with_process
turns-same s = record { known = λ t pid p id l h live there. tt; own = λ t pid p id l f is u h. h }

pub history-same : (n : ℕ) (s : TracedState) (h : List Entry) → IsLegal n s h
    → (state_after s h).system.programs ≡ s.system.programs
history-same n s h legal =
    any-history n (λ t. Same s.system t.system)
    (keeps-each AnyLwp (Same s.system) (same-keeps s.system) (turns-same s.system) n) s h legal refl

-- ---- the first state

spawns-same : (spawns : List ℕ) (s : TracedSystem) → Same s (with_spawns spawns s)
unfolding with_spawns
spawns-same [] s = refl
spawns-same (place ∷ spawns) s =
    let t : TracedSystem = spawned_at (slice_get s.programs place) s in
    spawns-same spawns t ∙ by (slice_get s.programs place)
  where
    by : (o : Option Program) → Same s (spawned_at o s)
    by None = refl
    by (Some program) = spawned-keeps AnyLwp (Same s) (same-keeps s) program false s refl

-- A system has the programs that it began with.
pub first-same : (n : ℕ) (programs : List Program) (files : List StoredFile) (spawns : List ℕ) (h : List Entry)
    → IsStart programs files spawns → IsLegal n (first_state programs files spawns) h
    → (state_after (first_state programs files spawns) h).system.programs ≡ programs
unfolding first_state bare_system
first-same n programs files spawns h start legal =
    history-same n (first_state programs files spawns) h legal
    ∙ spawns-same spawns (bare_system programs files)
