use Rattle.std.specs.Prelude.{◌≡◌, ◌≢◌, ℕ, true, false, List, [], ◌∷◌, None, Some}
use Rattle.std.specs.List.{cons_option}
use Rattle.pr_laws.specs.LastCloses.{IsReleased}
use Rattle.pr_model.specs.Calls.{Answer, answer_to}
use Rattle.pr_model.specs.Handles.{handle_of, has_writer, is_control, is_writable}
use Rattle.pr_model.specs.State.{Places, TracedProcess, TracedState, live_process}
use Rattle.pr_model.specs.declared.calls.Call.TheVariants.{Close}
use Rattle.pr_model.specs.declared.handles.Held.{Held}
use Rattle.pr_num.specs.Control.{has_flags, klc_mode, rlc_mode}
use Rattle.pr_truss.specs.declared.processes.Traced.{Traced}

-- What a controller has open in a state.

-- no handle is its own
pub record HasNothingOpen (k : ℕ) (s : TracedState) : Type 0 where
  pub none : (number : ℕ) → handle_of s.opens k number ≡ None

-- no controller but this one has a process open for writing
pub record HasNoOtherWriter (k pid : ℕ) (opens : Places) : Type 0 where
  pub none : (by number : ℕ) (h : Held) → by ≢ k → handle_of opens by number ≡ Some h → is_writable h.mode ≡ true
      → h.pid ≢ pid

-- What it leaves when it closes a control file in this state: nobody has the process open for writing then; and where
-- the process lives and has PR_RLC without PR_KLC, nothing is traced or watched in it, and no lwp of it stands on an
-- event, is directed to stop, or has a mark.
pub record ClosesFreely (k : ℕ) (s : TracedState) : Type 0 where
  pub alone : (number : ℕ) (h : Held) (a : Answer) → handle_of s.opens k number ≡ Some h → is_control h.file ≡ true
      → answer_to s k (Close number) ≡ Some a → has_writer h.pid a.state.opens ≡ false
  pub released : (number : ℕ) (h : Held) (a : Answer) (p : TracedProcess) → handle_of s.opens k number ≡ Some h
      → is_control h.file ≡ true → answer_to s k (Close number) ≡ Some a → live_process s.system h.pid ≡ Some p
      → has_flags p.control.modes rlc_mode ≡ true → has_flags p.control.modes klc_mode ≡ false
      → (q : TracedProcess) × ((live_process a.state.system h.pid ≡ Some q) × IsReleased q)

-- the handles of a process that truss traces; the file that was opened last comes first
abbrev pub handles_of : Traced → List ℕ
handles_of t = cons_option t.memory (cons_option t.lstatus (cons_option t.status (t.control ∷ [])))
