use Rattle.std.proofs.Common.{◌≡◌, ℕ, Bool, Some, None, List, [], ◌∷◌, refl, sym, subst, ◌∙◌, ap}
use Rattle.std.proofs.lemmas.List.Elements.{All-nil, All-cons}
use Rattle.pr_num.specs.Control.{has_flags}
use Rattle.pr_num.specs.Infos.{killed_by}
use Rattle.pr_num.specs.Programs.{Program}
use Rattle.pr_num.specs.Sets.{common_word}
use Rattle.pr_num.specs.Spaces.{first_space, mapped_size}
use Rattle.pr_num.specs.declared.errnos.Errno.{Errno}
use Rattle.pr_model.specs.Erasure.{erased_system}
use Rattle.pr_model.specs.Lives.{bare_process, new_lwp, first_lwp, new_process, with_spawned}
use Rattle.pr_model.specs.Machines.{nothing_set, no_marks, traced, untraced}
use Rattle.pr_model.specs.ProcessCalls.{program_named}
use Rattle.pr_model.specs.Readers.{life_of}
use Rattle.pr_model.specs.SignalCalls.{Sending, refuses, sends_nothing, sends, sending, with_sent}
use Rattle.pr_model.specs.Spawning.{spawn_refusal}
use Rattle.pr_model.specs.State.{TracedSystem}
use Rattle.pr_model.specs.UntracedMachine.{IsGranted, UntracedRun, ends_here, step_by, spawns, sends_signal}
use Rattle.pr_model.specs.declared.steps.Step.{Step}
use Rattle.pr_model.specs.declared.steps.Step.TheVariants.{Kill, Spawn}
use Rattle.pr_erasure.specs.Untouched.{IsUntouchedLwp, IsUntouchedProcess, IsUntouched}
use Rattle.pr_erasure.proofs.SeenParts.ChangeLemmas.{generated-erased}
use Rattle.pr_erasure.proofs.SeenTurns.DecisionLemmas.{life-erased, made-erased, programs-erased, room-erased}
use Rattle.pr_erasure.proofs.SeenParts.LifeLemmas.{with_spawned-erased}
use Rattle.pr_erasure.proofs.SeenTurns.UntouchedLemmas.{generated-keeps, made-keeps}

-- What one entry of a history makes of the system, the untraced machine follows by its steps; and nothing is touched.
pub record StepsFollow (s : TracedSystem) (steps : List Step) (t : TracedSystem) : Type 0 where
  pub run : UntracedRun (erased_system s) steps (erased_system t)
  pub untouched : IsUntouched t

pub follows-nothing : (s : TracedSystem) → IsUntouched s → StepsFollow s [] s
follows-nothing s u = record { run = ends_here; untouched = u }

-- ---- processes that are made from outside

new_process-untouched : (program : Program) (clock : ℕ) (held : Bool) (pid : ℕ)
    → IsUntouchedProcess (pid, new_process traced program clock held)
unfolding new_process bare_process first_lwp new_lwp traced nothing_set no_marks has_flags common_word
new_process-untouched program clock held pid = record {
  no_kill = refl;
  unwatched = refl;
  lwps =
      All-cons IsUntouchedLwp _ [] (record { no_step = refl; no_abort = refl; no_agent = refl })
      (All-nil IsUntouchedLwp);
}

pub with_spawned-untouched : (program : Program) (held : Bool) (s : TracedSystem) → IsUntouched s
    → IsUntouched (with_spawned traced program held s)
unfolding with_spawned
with_spawned-untouched program held s u =
    made-keeps (new_process traced program s.clock held) s (new_process-untouched program s.clock held) u

refusal-erased : (s : TracedSystem) (program : Program)
    → spawn_refusal (erased_system s) program ≡ spawn_refusal s program
unfolding spawn_refusal
refusal-erased s program = rw (room-erased s (mapped_size (first_space program)) 0, made-erased s) refl

pub spawn-follows : (name : List ℕ) (program : Program) (held : Bool) (s : TracedSystem) → IsUntouched s
    → program_named s.programs name ≡ Some program → spawn_refusal s program ≡ None
    → StepsFollow s (Spawn name ∷ []) (with_spawned traced program held s)
spawn-follows name program held s u named refusal = record {
  run = step_by (spawns (record {
    program = program;
    named = ap (λ ps. program_named ps name) (programs-erased s) ∙ named;
    not_refused = refusal-erased s program ∙ refusal;
    state = with_spawned-erased program held s;
  })) ends_here;
  untouched = with_spawned-untouched program held s u;
}

-- ---- signals that are sent from outside

pub refused_sent : (pid : ℕ) (e : Errno) (s : TracedSystem) → with_sent traced pid (killed_by 0) (refuses e) s ≡ s
unfolding with_sent
refused_sent pid e s = refl

sent-erased : (pid : ℕ) (x : Sending) (s : TracedSystem)
    → erased_system (with_sent traced pid (killed_by 0) x s) ≡ with_sent untraced pid (killed_by 0) x (erased_system s)
unfolding with_sent
sent-erased pid (refuses e) s = refl
sent-erased pid sends_nothing s = refl
sent-erased pid (sends g) s = generated-erased pid None g (killed_by 0) (record { no_fault = refl }) s

sent-keeps : (pid : ℕ) (x : Sending) (s : TracedSystem) → IsUntouched s
    → IsUntouched (with_sent traced pid (killed_by 0) x s)
unfolding with_sent
sent-keeps pid (refuses e) s u = u
sent-keeps pid sends_nothing s u = u
sent-keeps pid (sends g) s u = generated-keeps pid None g (killed_by 0) s u

pub kill-follows : (pid number : ℕ) (x : Sending) (s : TracedSystem) → IsUntouched s
    → sending pid number (life_of s pid) ≡ x → IsGranted x
    → StepsFollow s (Kill pid number ∷ []) (with_sent traced pid (killed_by 0) x s)
kill-follows pid number x s u is granted =
    let same : sending pid number (life_of (erased_system s) pid) ≡ x =
    ap (sending pid number) (life-erased s pid) ∙ is in
    record {
      run = step_by (sends_signal (record {
        granted = subst IsGranted (sym same) granted;
        state = sent-erased pid x s ∙ ap (λ y. with_sent untraced pid (killed_by 0) y (erased_system s)) (sym same);
      })) ends_here;
      untouched = sent-keeps pid x s u;
    }
