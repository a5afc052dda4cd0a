use Rattle.std.proofs.Common.{◌≡◌, ◌≢◌, ◌&&◌, ℕ, Bool, true, false, not, eqb, is_none, is_some, Option, Some, None, List, [], ◌∷◌, length, cond, refl, sym, ◌∙◌, ap, inl, inr}
use Rattle.std.specs.Option.{option_map, option_and_then}
use Rattle.pr_num.specs.Agents.{agent_id}
use Rattle.pr_num.specs.Spaces.{Space}
use Rattle.pr_model.specs.Machines.{step_taken}
use Rattle.pr_model.specs.State.{TracedLwp, TracedProcess, TracedSystem, if_live, live_process, lwp_of, process_of, with_lwp, with_process, with_process_if}
use Rattle.pr_hidden.specs.Covers.{Cover, Covers, all_kept, keeps_lwp, lwp_beneath, patched, process_beneath, seen_under, uncovered, uncovered_lwp, uncovered_process}
use Rattle.pr_hidden.proofs.Covers.SeenLemmas.{Keeping, all-kept, seen-change, seen-length, under-kept}

-- What is found in a state, and what is changed there, without what is hidden.

-- ---- what is found

pub process-uncovered : (covers : Covers) (s : TracedSystem) (pid : ℕ)
    → process_of (uncovered covers s) pid ≡ option_map (uncovered_process (covers pid)) (process_of s pid)
unfolding uncovered
process-uncovered covers s pid = under-kept all_kept (process_beneath covers) pid refl s.processes

live-one : (c : Cover) (p : TracedProcess)
    → if_live (uncovered_process c p) ≡ option_map (uncovered_process c) (if_live p)
unfolding uncovered_process
live-one c p =
    elim (is_none p.ended) as
    (λ b. cond b (Some (uncovered_process c p)) None ≡ option_map (uncovered_process c) (cond b (Some p) None))
    [ true ↦ refl | false ↦ refl ]

pub live-uncovered : (covers : Covers) (s : TracedSystem) (pid : ℕ)
    → live_process (uncovered covers s) pid ≡ option_map (uncovered_process (covers pid)) (live_process s pid)
unfolding live_process
live-uncovered covers s pid =
    ap (option_and_then if_live) (process-uncovered covers s pid) ∙ by (process_of s pid)
  where
    by : (o : Option TracedProcess)
        → option_and_then if_live (option_map (uncovered_process (covers pid)) o)
        ≡ option_map (uncovered_process (covers pid)) (option_and_then if_live o)
    by None = refl
    by (Some p) = live-one (covers pid) p

-- where no agent is hidden every lwp is kept
pub no_agent-keeps : (c : Cover) → c.agent ≡ false → (id : ℕ) → keeps_lwp c id ≡ true
no_agent-keeps c none id = rw none refl

pub keeping : (c : Cover) → c.agent ≡ false → Keeping (keeps_lwp c) (lwp_beneath c)
keeping c none = all-kept (keeps_lwp c) (lwp_beneath c) (no_agent-keeps c none)

pub lwp-uncovered : (c : Cover) (p : TracedProcess) (id : ℕ) → keeps_lwp c id ≡ true
    → lwp_of (uncovered_process c p) id ≡ option_map (uncovered_lwp (c.faulted id)) (lwp_of p id)
unfolding uncovered_process
lwp-uncovered c p id kept = under-kept (keeps_lwp c) (lwp_beneath c) id kept p.lwps

some-map : {X Y : Type 0} (f : X → Y) (o : Option X) → is_some (option_map f o) ≡ is_some o
some-map f None = refl
some-map f (Some x) = refl

pub stands-uncovered : (c : Cover) (p : TracedProcess) (id : ℕ) → keeps_lwp c id ≡ true
    → is_some (lwp_of (uncovered_process c p) id) ≡ is_some (lwp_of p id)
stands-uncovered c p id kept =
    ap (λ o. is_some o) (lwp-uncovered c p id kept) ∙ some-map (uncovered_lwp (c.faulted id)) (lwp_of p id)

pub lwps-uncovered : (c : Cover) (p : TracedProcess) → c.agent ≡ false
    → length (uncovered_process c p).lwps ≡ length p.lwps
unfolding uncovered_process
lwps-uncovered c p none = seen-length (keeps_lwp c) (lwp_beneath c) (keeping c none) p.lwps

-- ---- what is changed

-- a process is changed alike
pub with_process-uncovered : (covers : Covers) (s : TracedSystem) (pid : ℕ) (f g : TracedProcess → TracedProcess)
    → ((x : TracedProcess) → uncovered_process (covers pid) (f x) ≡ g (uncovered_process (covers pid) x))
    → uncovered covers (with_process pid f s) ≡ with_process pid g (uncovered covers s)
unfolding uncovered with_process
with_process-uncovered covers s pid f g agree =
    ap (λ ps. record (uncovered covers s) { processes = ps })
    (seen-change all_kept (process_beneath covers) pid f g agree s.processes)

pub with_process_if-uncovered : (covers : Covers) (s : TracedSystem) (o : Option ℕ)
    (f g : TracedProcess → TracedProcess)
    → ((pid : ℕ) → o ≡ Some pid → (x : TracedProcess)
    → uncovered_process (covers pid) (f x) ≡ g (uncovered_process (covers pid) x))
    → uncovered covers (with_process_if o f s) ≡ with_process_if o g (uncovered covers s)
with_process_if-uncovered covers s None f g agree = refl
with_process_if-uncovered covers s (Some pid) f g agree = with_process-uncovered covers s pid f g (agree pid refl)

-- an lwp is changed alike
pub with_lwp-uncovered : (c : Cover) (p : TracedProcess) (id : ℕ) (f g : TracedLwp → TracedLwp)
    → ((x : TracedLwp) → uncovered_lwp (c.faulted id) (f x) ≡ g (uncovered_lwp (c.faulted id) x))
    → uncovered_process c (with_lwp id f p) ≡ with_lwp id g (uncovered_process c p)
unfolding uncovered_process with_lwp
with_lwp-uncovered c p id f g agree =
    ap (λ ls. record (uncovered_process c p) { lwps = ls })
    (seen-change (keeps_lwp c) (lwp_beneath c) id f g agree p.lwps)
