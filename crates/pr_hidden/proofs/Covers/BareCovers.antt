use Rattle.std.proofs.Common.{◌≡◌, ℕ, Bool, true, false, List, [], ◌∷◌, refl, sym, ◌∙◌, ap, inl, inr}
use Rattle.std.proofs.lemmas.Bool.{cases_Bool}
use Rattle.pr_num.specs.ById.{map_each}
use Rattle.pr_model.specs.Erasure.{UncontrolledLwp, UncontrolledProcess, UncontrolledSystem, erased_lwp, erased_process, erased_system, uncontrolled_lwp, uncontrolled_process, uncontrolled_system}
use Rattle.pr_model.specs.Machines.{no_marks, nothing_set}
use Rattle.pr_model.specs.State.{TracedLwp, TracedProcess, TracedSystem}
use Rattle.pr_hidden.specs.Covers.{Cover, Covers, all_kept, keeps_lwp, lwp_beneath, process_beneath, seen, seen_under, uncovered, uncovered_lwp, uncovered_process}

-- What programs see, whatever is hidden, is a function of what is left of a state without what controllers set.

-- a state on which nothing is set
bare_lwp : UncontrolledLwp → TracedLwp
bare_lwp l = record {
  regs = l.regs;
  held = l.held;
  pending = l.pending;
  current = l.current;
  frames = l.frames;
  suspended = l.suspended;
  phase = l.phase;
  control = no_marks false;
}

bare_process : UncontrolledProcess → TracedProcess
bare_process p = record {
  parent = p.parent;
  program = p.program;
  made_at = p.made_at;
  ended = p.ended;
  space = p.space;
  lender = p.lender;
  borrower = p.borrower;
  fds = p.fds;
  dispositions = p.dispositions;
  pending = p.pending;
  job_stop = p.job_stop;
  next_lwp = p.next_lwp;
  lwps = map_each bare_lwp p.lwps;
  control = nothing_set;
}

bare_system : UncontrolledSystem → TracedSystem
bare_system s = record {
  programs = s.programs;
  clock = s.clock;
  made = s.made;
  files = s.files;
  processes = map_each bare_process s.processes;
}

bare-views : {X Y Z U : Type 0} (keeps : ℕ → Bool) (view : ℕ → X → Y) (last : Y → Z) (without : X → U) (bare : U → X)
    → ((id : ℕ) (x : X) → last (view id (bare (without x))) ≡ last (view id x)) → (es : List (ℕ × X))
    → map_each last (seen_under keeps view (map_each bare (map_each without es)))
    ≡ map_each last (seen_under keeps view es)
bare-views keeps view last without bare same [] = refl
bare-views keeps view last without bare same (e ∷ es) =
    elim (cases_Bool (keeps e.0)) [
      | inl kept ↦ rw (kept, same e.0 e.1, bare-views keeps view last without bare same es) refl
      | inr hidden ↦ rw hidden (bare-views keeps view last without bare same es)
    ]

lwp-bare : (own : Bool) (l : TracedLwp)
    → erased_lwp (uncovered_lwp own (bare_lwp (uncontrolled_lwp l))) ≡ erased_lwp (uncovered_lwp own l)
unfolding erased_lwp uncovered_lwp bare_lwp uncontrolled_lwp
lwp-bare own l = refl

process-bare : (c : Cover) (p : TracedProcess)
    → erased_process (uncovered_process c (bare_process (uncontrolled_process p)))
    ≡ erased_process (uncovered_process c p)
unfolding erased_process uncovered_process bare_process uncontrolled_process
process-bare c p =
    ap (λ ls. record (erased_process (uncovered_process c p)) { lwps = ls })
    (bare-views (keeps_lwp c) (lwp_beneath c) erased_lwp uncontrolled_lwp bare_lwp (λ id l. lwp-bare (c.faulted id) l)
    p.lwps)

pub process-by-bare : (c : Cover) (p q : TracedProcess) → uncontrolled_process q ≡ uncontrolled_process p
    → erased_process (uncovered_process c q) ≡ erased_process (uncovered_process c p)
process-by-bare c p q same =
    sym (process-bare c q)
    ∙ ap (λ (u : UncontrolledProcess). erased_process (uncovered_process c (bare_process u))) same
    ∙ process-bare c p

seen-bare : (covers : Covers) (s : TracedSystem) → seen covers (bare_system (uncontrolled_system s)) ≡ seen covers s
unfolding erased_system uncovered bare_system uncontrolled_system
seen-bare covers s =
    ap (λ ps. record (erased_system (uncovered covers s)) { processes = ps })
    (bare-views all_kept (process_beneath covers) erased_process uncontrolled_process bare_process
    (λ pid p. process-bare (covers pid) p) s.processes)

pub seen-by-bare : (covers : Covers) (s t : TracedSystem) → uncontrolled_system t ≡ uncontrolled_system s
    → seen covers t ≡ seen covers s
seen-by-bare covers s t same =
    sym (seen-bare covers t) ∙ ap (λ (u : UncontrolledSystem). seen covers (bare_system u)) same ∙ seen-bare covers s

pub ruleset controls = (seen-by-bare)
