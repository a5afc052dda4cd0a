use Rattle.std.proofs.Common.{◌≡◌, ◌+◌, ℕ, Bool, true, false, is_some, eqb, Option, Some, None, List, [], ◌∷◌, length, map, cond, refl, sym, ◌∙◌, ap}
use Rattle.std.specs.Option.{option_map}
use Rattle.pr_num.specs.ById.{map_each, change_under, inserted}
use Rattle.pr_num.specs.Infos.{of_child}
use Rattle.pr_num.specs.Programs.{Program}
use Rattle.pr_num.specs.declared.signals.Sig.TheVariants.{Cld}
use Rattle.pr_num.proofs.ByIdLaws.{map_each-change_under, map_each-inserted, map_each-without_id, length-map_each}
use Rattle.pr_parts.specs.FileCalls.{with_all_shared}
use Rattle.pr_num.specs.Files.{Descriptors, with_all_closed}
use Rattle.pr_model.specs.Erasure.{erased_lwp, erased_pending, erased_phase, erased_process, erased_system}
use Rattle.pr_num.specs.Spaces.{first_space}
use Rattle.pr_model.specs.Generation.{signalled}
use Rattle.pr_model.specs.Lives.{Birth, by_fork, by_vfork, is_id, lent_to, with_lent, with_loan_back, with_lender_of, with_loans_passed, with_made, orphaned, with_parent_signalled, without_lwp, with_reaped, new_lwp, first_lwp, bare_process, new_process, with_spawned, forked_lwp, forked, with_child, started, with_program, with_new_lwp, uncaught, zombie, with_this_ended, ended_if_live, with_ended, with_lwp_ended}
use Rattle.pr_model.specs.Machines.{UntracedProcess, no_marks, traced, untraced}
use Rattle.pr_model.specs.State.{TracedLwp, TracedProcess, TracedSystem, live_process, lwp_of, with_process, with_process_if}
use Rattle.pr_erasure.proofs.SeenParts.SignalLemmas.{signalled-erased}
use Rattle.pr_erasure.proofs.SeenParts.StateLemmas.{map_each-all, live-erased, lwp-erased, with_process-erased, with_process_if-erased}

-- How processes and lwps begin and end, as programs see it.

-- ---- loans

pub with_loan_back-erased : (pid : ℕ) (p q : TracedProcess)
    → erased_process (with_loan_back pid p q) ≡ with_loan_back pid (erased_process p) (erased_process q)
unfolding erased_process with_loan_back
with_loan_back-erased pid p q =
    elim (is_id pid q.borrower) as
    (λ b. erased_process (cond b (record q { space = p.space; borrower = p.borrower }) q) ≡ cond b
    (record (erased_process q) { space = p.space; borrower = p.borrower })
    (erased_process q)) [ true ↦ refl | false ↦ refl ]

with_lender_of-erased : (pid : ℕ) (p q : TracedProcess)
    → erased_process (with_lender_of pid p q) ≡ with_lender_of pid (erased_process p) (erased_process q)
unfolding erased_process with_lender_of
with_lender_of-erased pid p q =
    elim (is_id pid q.lender) as
    (λ b. erased_process (cond b (record q { lender = p.lender }) q) ≡ cond b
    (record (erased_process q) { lender = p.lender }) (erased_process q)) [ true ↦ refl | false ↦ refl ]

with_loans_passed-erased : (pid : ℕ) (p : TracedProcess) (s : TracedSystem)
    → erased_system (with_loans_passed pid p s) ≡ with_loans_passed pid (erased_process p) (erased_system s)
unfolding with_loans_passed erased_process
with_loans_passed-erased pid p s =
    with_process_if-erased (with_process_if p.borrower (with_lender_of pid p) s) p.lender (with_loan_back pid p)
    (with_loan_back pid (erased_process p)) (with_loan_back-erased pid p)
    ∙ ap (with_process_if p.lender (with_loan_back pid (erased_process p)))
    (with_process_if-erased s p.borrower (with_lender_of pid p) (with_lender_of pid (erased_process p))
    (with_lender_of-erased pid p))

with_lent-erased : (birth : Birth) (pid child : ℕ) (s : TracedSystem)
    → erased_system (with_lent birth pid child s) ≡ with_lent birth pid child (erased_system s)
unfolding erased_process lent_to
with_lent-erased by_fork pid child s = refl
with_lent-erased by_vfork pid child s = with_process-erased s pid (lent_to child) (lent_to child) (λ x found. refl)

-- ---- ends

orphaned-erased : (pid : ℕ) (p : TracedProcess) → erased_process (orphaned pid p) ≡ orphaned pid (erased_process p)
unfolding erased_process orphaned
orphaned-erased pid p =
    elim (eqb p.parent pid) as
    (λ b. erased_process (cond b (record p { parent = 0 }) p) ≡ cond b (record (erased_process p) { parent = 0 })
    (erased_process p)) [ true ↦ refl | false ↦ refl ]

zombie-erased : (status : ℕ) (p : TracedProcess)
    → erased_process (zombie traced status p) ≡ zombie untraced status (erased_process p)
unfolding erased_process zombie bare_process traced untraced
zombie-erased status p = refl

with_parent_signalled-erased : (parent pid status : ℕ) (s : TracedSystem)
    → erased_system (with_parent_signalled parent pid status s) ≡ with_parent_signalled parent pid status
    (erased_system s)
unfolding with_parent_signalled
with_parent_signalled-erased parent pid status s =
    elim (eqb parent 0) as
    (λ b. erased_system (cond b s (with_process parent (signalled None Cld (of_child pid status)) s)) ≡ cond b
    (erased_system s) (with_process parent (signalled None Cld (of_child pid status)) (erased_system s))) [
      | true ↦ refl
      | false ↦ with_process-erased s parent (signalled None Cld (of_child pid status))
          (signalled None Cld (of_child pid status))
          (λ x found. signalled-erased None Cld (of_child pid status) (record { no_fault = refl }) x)
    ]

buried : (pid : ℕ) (fds : Descriptors) (status : ℕ) (s : TracedSystem)
    → erased_system
    (record s {
      files = with_all_closed s.files fds;
      processes = map_each (orphaned pid)
          (change_under pid (zombie traced status) s.processes);
    }) ≡ record
    (erased_system s) {
      files = with_all_closed (erased_system s).files fds;
      processes = map_each
          (orphaned pid) (change_under pid (zombie untraced status) (erased_system s).processes);
    }
unfolding erased_system
buried pid fds status s =
    ap (λ ps. record (erased_system s) { files = with_all_closed s.files fds; processes = ps })
    (map_each-all erased_process (orphaned pid) (orphaned pid) (change_under pid (zombie traced status) s.processes)
    (orphaned-erased pid)
    ∙ ap (map_each (orphaned pid))
    (map_each-change_under erased_process pid (zombie traced status) (zombie untraced status) s.processes
    (λ x found. zombie-erased status x)))

pub with_this_ended-erased : (pid : ℕ) (p : TracedProcess) (status : ℕ) (s : TracedSystem)
    → erased_system (with_this_ended traced pid p status s) ≡ with_this_ended untraced pid (erased_process p) status
    (erased_system s)
unfolding with_this_ended erased_process
with_this_ended-erased pid p status s =
    let left : TracedSystem =
    record s {
      files = with_all_closed s.files p.fds;
      processes = map_each (orphaned pid)
          (change_under pid (zombie traced status) s.processes);
    } in
    with_parent_signalled-erased p.parent pid status (with_loans_passed pid p left)
    ∙ ap (with_parent_signalled p.parent pid status)
    (with_loans_passed-erased pid p left ∙ ap (with_loans_passed pid (erased_process p)) (buried pid p.fds status s))

pub with_ended-erased : (pid status : ℕ) (s : TracedSystem)
    → erased_system (with_ended traced pid status s) ≡ with_ended untraced pid status (erased_system s)
unfolding with_ended
with_ended-erased pid status s =
    by (live_process s pid) ∙ ap (ended_if_live untraced pid status (erased_system s)) (sym (live-erased s pid))
  where
    by : (o : Option TracedProcess)
        → erased_system (ended_if_live traced pid status s o) ≡ ended_if_live untraced pid status (erased_system s)
        (option_map erased_process o)
    by None = refl
    by (Some p) = with_this_ended-erased pid p status s

without_lwp-erased : (id : ℕ) (p : TracedProcess)
    → erased_process (without_lwp id p) ≡ without_lwp id (erased_process p)
unfolding erased_process without_lwp
without_lwp-erased id p = ap (λ ls. record (erased_process p) { lwps = ls }) (map_each-without_id erased_lwp id p.lwps)

pub with_reaped-erased : (pid : ℕ) (s : TracedSystem)
    → erased_system (with_reaped pid s) ≡ with_reaped pid (erased_system s)
unfolding erased_system with_reaped
with_reaped-erased pid s =
    ap (λ ps. record (erased_system s) { processes = ps }) (map_each-without_id erased_process pid s.processes)

-- ---- beginnings

with_made-erased : (p : TracedProcess) (s : TracedSystem)
    → erased_system (with_made p s) ≡ with_made (erased_process p) (erased_system s)
unfolding erased_system with_made
with_made-erased p s =
    ap (λ ps. record (erased_system s) { made = s.made + 1; processes = ps })
    (map_each-inserted erased_process s.made p s.processes)

new_process-erased : (program : Program) (clock : ℕ) (held : Bool)
    → erased_process (new_process traced program clock held) ≡ new_process untraced program clock false
unfolding erased_process erased_lwp erased_phase erased_pending new_process bare_process first_lwp new_lwp traced
    untraced
new_process-erased program clock held = refl

pub with_spawned-erased : (program : Program) (held : Bool) (s : TracedSystem)
    → erased_system (with_spawned traced program held s) ≡ with_spawned untraced program false (erased_system s)
unfolding with_spawned erased_system
with_spawned-erased program held s =
    with_made-erased (new_process traced program s.clock held) s
    ∙ ap (λ p. with_made p (erased_system s)) (new_process-erased program s.clock held)

forked-erased : (birth : Birth) (pid : ℕ) (p : TracedProcess) (l : TracedLwp) (args : List ℕ) (clock : ℕ)
    → erased_process (forked traced birth pid p l args clock) ≡ forked untraced birth pid (erased_process p)
    (erased_lwp l) args clock
unfolding erased_process erased_lwp erased_phase erased_pending forked forked_lwp traced untraced
forked-erased birth pid p l args clock = refl

fds-erased : (p : TracedProcess) → (erased_process p).fds ≡ p.fds
unfolding erased_process
fds-erased p = refl

pub with_child-erased : (birth : Birth) (pid : ℕ) (p : TracedProcess) (l : TracedLwp) (args : List ℕ)
    (s : TracedSystem)
    → erased_system (with_child traced birth pid p l args s) ≡ with_child untraced birth pid (erased_process p)
    (erased_lwp l) args (erased_system s)
unfolding with_child erased_system
with_child-erased birth pid p l args s =
    let child : UntracedProcess = forked untraced birth pid (erased_process p) (erased_lwp l) args s.clock in
    let shared : TracedSystem = record s { files = with_all_shared s.files p.fds } in
    with_made-erased (forked traced birth pid p l args s.clock) (with_lent birth pid s.made shared)
    ∙ ap (λ q. with_made q (erased_system (with_lent birth pid s.made shared)))
    (forked-erased birth pid p l args s.clock)
    ∙ ap (with_made child) (with_lent-erased birth pid s.made shared)
    ∙ ap (λ fds. with_made child
    (with_lent birth pid s.made (record (erased_system s) { files = with_all_shared s.files fds })))
    (sym (fds-erased p))

-- An lwp that runs another program, and its process with it alone. What is set on the process goes its own way.
started-erased : (l : TracedLwp) → erased_lwp (started traced l) ≡ started untraced (erased_lwp l)
unfolding erased_lwp started
started-erased l = refl

pub with_program-erased : (id : ℕ) (l : TracedLwp) (program : Program) (p : TracedProcess)
    → erased_process (with_program traced id l program p) ≡ with_program untraced id (erased_lwp l) program
    (erased_process p)
unfolding erased_process with_program traced untraced
with_program-erased id l program p =
    ap (λ x. record
    (erased_process p) {
      program = program.name;
      space = first_space program;
      lender = None;
      dispositions = map uncaught
          p.dispositions;
      lwps = (id, x) ∷ [];
    }) (started-erased l)

new_lwp-erased : (regs : List ℕ) (held : ℕ)
    → erased_lwp (new_lwp traced regs held (no_marks false)) ≡ new_lwp untraced regs held tt
unfolding erased_lwp erased_phase erased_pending new_lwp traced untraced
new_lwp-erased regs held = refl

is_some-map : {X Y : Type 0} (f : X → Y) (o : Option X) → is_some (option_map f o) ≡ is_some o
is_some-map f None = refl
is_some-map f (Some x) = refl

pub stands-erased : (p : TracedProcess) (id : ℕ) → is_some (lwp_of (erased_process p) id) ≡ is_some (lwp_of p id)
stands-erased p id = ap (λ o. is_some o) (lwp-erased p id) ∙ is_some-map erased_lwp (lwp_of p id)

one_more-erased : (id : ℕ) (regs : List ℕ) (held : ℕ) (p : TracedProcess)
    → erased_process
    (record p { next_lwp = id + 1; lwps = inserted id (new_lwp traced regs held (no_marks false)) p.lwps }) ≡ record
    (erased_process p) {
      next_lwp = id + 1;
      lwps = inserted id (new_lwp untraced regs held tt)
          (erased_process p).lwps;
    }
unfolding erased_process
one_more-erased id regs held p =
    ap (λ ls. record (erased_process p) { next_lwp = id + 1; lwps = ls })
    (map_each-inserted erased_lwp id (new_lwp traced regs held (no_marks false)) p.lwps
    ∙ ap (λ x. inserted id x (map_each erased_lwp p.lwps)) (new_lwp-erased regs held))

pub with_new_lwp-erased : (id : ℕ) (regs : List ℕ) (held : ℕ) (p : TracedProcess)
    → erased_process (with_new_lwp traced id regs held p) ≡ with_new_lwp untraced id regs held (erased_process p)
unfolding with_new_lwp traced untraced
with_new_lwp-erased id regs held p =
    let old = record p { next_lwp = id + 1; lwps = inserted id (new_lwp traced regs held (no_marks false)) p.lwps } in
    let new =
    record (erased_process p) {
      next_lwp = id + 1;
      lwps = inserted id (new_lwp untraced regs held tt)
          (erased_process p).lwps;
    } in
    elim (is_some (lwp_of p id)) as
    (λ b. erased_process (cond b p old) ≡ cond b
    (erased_process p) new) [ true ↦ refl | false ↦ one_more-erased id regs held p ]
    ∙ ap (λ b. cond b (erased_process p) new) (sym (stands-erased p id))

-- ---- one lwp ends

lwps-erased : (p : TracedProcess) → length (erased_process p).lwps ≡ length p.lwps
unfolding erased_process
lwps-erased p = length-map_each erased_lwp p.lwps

pub with_lwp_ended-erased : (pid : ℕ) (p : TracedProcess) (id : ℕ) (s : TracedSystem)
    → erased_system (with_lwp_ended traced pid p id s) ≡ with_lwp_ended untraced pid (erased_process p) id
    (erased_system s)
unfolding with_lwp_ended
with_lwp_ended-erased pid p id s =
    elim (eqb (length p.lwps) 1) as
    (λ b. erased_system (cond b (with_this_ended traced pid p 0 s) (with_process pid (without_lwp id) s)) ≡ cond b
    (with_this_ended untraced pid (erased_process p) 0 (erased_system s))
    (with_process pid (without_lwp id) (erased_system s))) [
      | true ↦ with_this_ended-erased pid p 0 s
      | false ↦ with_process-erased s pid (without_lwp id) (without_lwp id)
          (λ x found. without_lwp-erased id x)
    ]
    ∙ ap (λ n. cond (eqb n 1) (with_this_ended untraced pid (erased_process p) 0 (erased_system s))
    (with_process pid (without_lwp id) (erased_system s))) (sym (lwps-erased p))

pub ruleset ends = (with_this_ended-erased)
