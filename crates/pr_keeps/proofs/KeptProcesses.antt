use Rattle.std.proofs.Common.{◌≡◌, ◌+◌, ℕ, Some, List, sym, subst}
use Rattle.std.specs.List.{All}
use Rattle.pr_keeps.proofs.KeepsLemmas.{all-replaced}
use Rattle.pr_keeps.proofs.KeptSystems.{KeepsSystem, KeepsTurns, Newborn, ProcessStep, TurnStep}
use Rattle.pr_keeps.specs.ProcessEdits.{ProcessEdits}
use Rattle.pr_model.specs.Lives.{with_made, with_reaped}
use Rattle.pr_model.specs.Rows.{row_for}
use Rattle.pr_model.specs.State.{TracedLwp, TracedProcess, TracedSystem, live_process, lwp_of, with_process}
use Rattle.pr_num.proofs.ByIdLaws.{All-change_under, All-inserted, All-map_each, All-without_id}
use Rattle.pr_num.specs.ById.{map_each}
use Rattle.pr_num.specs.declared.messages.Message.{Message}

-- What each step of one process keeps of it, is kept of each process of a system.

-- nothing is known of how many processes were made
abbrev pub AnyMade : ℕ → Type 0
AnyMade made = Unit {0}

-- What is kept of a process under its id, where something is known of the lwp whose turn it is, and of how many
-- processes were made; and what is kept of a system, where it says just that.
module _ (KnownLwp : ℕ → TracedLwp → Type 0) (KnownMade : ℕ → Type 0) (P : ℕ × TracedProcess → Type 0) where
  pub record KeepsProcesses : Type 0 where
    pub step : (pid : ℕ) (x : TracedProcess) (f : TracedProcess → TracedProcess) → ProcessStep KnownLwp f → P (pid, x)
        → P (pid, f x)
    pub edits : (pid : ℕ) (m : Message) (tail : List ℕ) (x y : TracedProcess) → ProcessEdits m tail x y → P (pid, x)
        → P (pid, y)
    pub newborn : (made : ℕ) (x : TracedProcess) → KnownMade made → Newborn KnownLwp x → P (made, x)
    pub later : (made : ℕ) → KnownMade made → KnownMade (made + 1)

  abbrev EachIs : TracedSystem → Type 0
  EachIs s = KnownMade s.made × All P s.processes

  module _ (S : TracedSystem → Type 0) (each_is : (s : TracedSystem) → S s → EachIs s)
      (is_each : (s : TracedSystem) → EachIs s → S s) where
    changed : (s : TracedSystem) (pid : ℕ) (f : TracedProcess → TracedProcess)
        → ((x : TracedProcess) → P (pid, x) → P (pid, f x)) → S s → S (with_process pid f s)
    unfolding with_process
    changed s pid f keeps h =
        let was = each_is s h in
        is_each (with_process pid f s)
        (was.0, All-change_under P pid f s.processes (λ x found it. keeps x it) was.1)

    pub processes-keep : KeepsProcesses → KeepsSystem KnownLwp S
    unfolding with_process with_made with_reaped
    processes-keep keeps = record {
      same = λ s t processes made programs h.
          let was = each_is s h in
          is_each t (subst KnownMade (sym made) was.0, subst (All P) (sym processes) was.1);
      step = λ s pid f is h. changed s pid f (λ x it. keeps.step pid x f is it) h;
      each = λ s f is h.
          let was = each_is s h in
          is_each (record s { processes = map_each f s.processes })
          (was.0, All-map_each P P f (λ e it. keeps.step e.0 e.1 f is it) s.processes was.1);
      edits = λ s pid p m tail f found made h.
          let was = each_is s h in
          is_each (with_process pid f s)
          (was.0, all-replaced P pid f p s.processes found (λ it. keeps.edits pid m tail p (f p) made it) was.1);
      makes = λ s p new h.
          let was = each_is s h in
          is_each (with_made p s)
          (keeps.later s.made was.0, All-inserted P s.made p s.processes (keeps.newborn s.made p was.0 new) was.1);
      reaps = λ s pid h.
          let was = each_is s h in
          is_each (with_reaped pid s) (was.0, All-without_id P pid s.processes was.1);
    }

    pub turns-keep : ((s : TracedSystem) (pid : ℕ) (p : TracedProcess) (id : ℕ) (l : TracedLwp) → S s
        → live_process s pid ≡ Some p → lwp_of p id ≡ Some l → KnownLwp id l)
        → ((s : TracedSystem) (pid : ℕ) (p : TracedProcess) (id : ℕ) (l : TracedLwp)
        → (f : TracedProcess → TracedProcess) → TurnStep id (row_for s pid p id l) f → (x : TracedProcess)
        → P (pid, x) → P (pid, f x)) → KeepsTurns KnownLwp S
    turns-keep known own = record {
      known = known;
      own = λ s pid p id l f is t h. changed t pid f (own s pid p id l f is) h;
    }
