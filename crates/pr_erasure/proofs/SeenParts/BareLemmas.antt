use Rattle.std.proofs.Common.{◌≡◌, ℕ, List, [], ◌∷◌, refl, sym, ◌∙◌, ap}
use Rattle.pr_num.specs.ById.{map_each}
use Rattle.pr_num.proofs.ByIdLaws.{map_each-map_each}
use Rattle.pr_model.specs.Erasure.{UncontrolledLwp, UncontrolledProcess, UncontrolledSystem, uncontrolled_lwp, uncontrolled_process, uncontrolled_system, erased_lwp, erased_pending, erased_phase, erased_process, erased_system}
use Rattle.pr_model.specs.Machines.{UntracedLwp, UntracedProcess, UntracedSystem}
use Rattle.pr_model.specs.State.{TracedProcess, TracedSystem}

-- What programs see of a state is a function of what is left of it without what controllers set: what is the same there
-- is the same to programs.

-- what programs see of an lwp, of a process and of a system on which nothing is set
seen_lwp : UncontrolledLwp → UntracedLwp
seen_lwp l = record {
  regs = l.regs;
  held = l.held;
  pending = erased_pending l.phase l.pending;
  current = l.current;
  frames = l.frames;
  suspended = l.suspended;
  phase = erased_phase l.phase;
  control = tt;
}

seen_process : UncontrolledProcess → UntracedProcess
seen_process p = record {
  parent = p.parent;
  program = p.program;
  made_at = p.made_at;
  ended = p.ended;
  space = p.space;
  lender = p.lender;
  borrower = p.borrower;
  fds = p.fds;
  dispositions = p.dispositions;
  pending = p.pending;
  job_stop = p.job_stop;
  next_lwp = p.next_lwp;
  lwps = map_each seen_lwp p.lwps;
  control = tt;
}

seen_system : UncontrolledSystem → UntracedSystem
seen_system s = record {
  programs = s.programs;
  clock = s.clock;
  made = s.made;
  files = s.files;
  processes = map_each seen_process s.processes;
}

seen_process-bare : (p : TracedProcess) → seen_process (uncontrolled_process p) ≡ erased_process p
unfolding seen_process seen_lwp uncontrolled_process uncontrolled_lwp erased_process erased_lwp
seen_process-bare p =
    ap (λ ls. record (erased_process p) { lwps = ls }) (map_each-map_each uncontrolled_lwp seen_lwp p.lwps)

seen_system-bare : (s : TracedSystem) → seen_system (uncontrolled_system s) ≡ erased_system s
unfolding seen_system uncontrolled_system erased_system
seen_system-bare s =
    ap (λ ps. record (erased_system s) { processes = ps })
    (map_each-map_each uncontrolled_process seen_process s.processes ∙ each s.processes)
  where
    each : (es : List (ℕ × TracedProcess))
        → map_each (λ p. seen_process (uncontrolled_process p)) es ≡ map_each erased_process es
    each [] = refl
    each (e ∷ es) = rw (seen_process-bare e.1) (ap (λ ds. (e.0, erased_process e.1) ∷ ds) (each es))

pub same-process : (p q : TracedProcess) → uncontrolled_process p ≡ uncontrolled_process q
    → erased_process p ≡ erased_process q
same-process p q same = sym (seen_process-bare p) ∙ ap seen_process same ∙ seen_process-bare q

pub same-system : (s t : TracedSystem) → uncontrolled_system s ≡ uncontrolled_system t
    → erased_system s ≡ erased_system t
same-system s t same = sym (seen_system-bare s) ∙ ap seen_system same ∙ seen_system-bare t
