use Rattle.std.proofs.Common.{◌≡◌, ◌+◌, ℕ, Bool, true, false, eqb, is_some, Option, Some, None, List, [], ◌∷◌, length, cond, refl, sym, ◌∙◌, ap}
use Rattle.std.specs.Option.{option_map}
use Rattle.pr_num.specs.ById.{change_under, inserted, map_each}
use Rattle.pr_num.specs.Files.{with_all_closed}
use Rattle.pr_num.specs.Infos.{of_child}
use Rattle.pr_num.specs.Programs.{Program}
use Rattle.pr_num.specs.declared.signals.Sig.TheVariants.{Cld}
use Rattle.pr_parts.specs.FileCalls.{with_all_shared}
use Rattle.pr_model.specs.Generation.{signalled}
use Rattle.pr_model.specs.Lives.{Birth, by_fork, by_vfork, is_id, lent_to, with_lent, with_loan_back, with_lender_of, with_loans_passed, with_made, orphaned, with_parent_signalled, without_lwp, with_reaped, new_lwp, bare_process, forked_lwp, forked, with_child, started, with_program, with_new_lwp, zombie, with_this_ended, ended_if_live, with_ended, with_lwp_ended}
use Rattle.pr_model.specs.Machines.{birth_marks, no_marks, step_taken, traced}
use Rattle.pr_model.specs.State.{TracedLwp, TracedProcess, TracedSystem, live_process, lwp_of, with_process, with_process_if}
use Rattle.pr_hidden.specs.Covers.{Cover, Covers, Patch, all_kept, keeps_lwp, lwp_beneath, no_cover, patched, process_beneath, uncovered, uncovered_lwp, uncovered_process}
use Rattle.pr_hidden.specs.Following.{IsReturnable, MayEnd, MayLeave, MayMakeChild, MayMakeLwp, MayRunProgram}
use Rattle.pr_hidden.proofs.PatchedSpaces.PatchLemmas.{patched-none}
use Rattle.pr_hidden.proofs.Covers.SeenLemmas.{all-kept, seen-change, seen-each, seen-inserted, seen-without}
use Rattle.pr_hidden.proofs.Covers.SignalCovers.{signalled-uncovered}
use Rattle.pr_hidden.proofs.Covers.StateCovers.{keeping, live-uncovered, lwps-uncovered, no_agent-keeps, stands-uncovered, with_process-uncovered, with_process_if-uncovered}

-- How processes and lwps begin and end, without what is hidden.

-- ---- loans

pub loan_back-uncovered : (c lender : Cover) (pid : ℕ) (p q : TracedProcess) → lender.patches ≡ c.patches
    → uncovered_process lender (with_loan_back pid p q)
    ≡ with_loan_back pid (uncovered_process c p) (uncovered_process lender q)
unfolding uncovered_process with_loan_back
loan_back-uncovered c lender pid p q same =
    elim (is_id pid q.borrower) as
    (λ b. uncovered_process lender (cond b (record q { space = p.space; borrower = p.borrower }) q)
    ≡ cond b (record (uncovered_process lender q) { space = patched c.patches p.space; borrower = p.borrower })
    (uncovered_process lender q)) [
      | true ↦ ap (λ (ps : List Patch).
          record (uncovered_process lender q) { space = patched ps p.space; borrower = p.borrower }) same
      | false ↦ refl
    ]

lender_of-uncovered : (c borrower : Cover) (pid : ℕ) (p q : TracedProcess)
    → uncovered_process borrower (with_lender_of pid p q)
    ≡ with_lender_of pid (uncovered_process c p) (uncovered_process borrower q)
unfolding uncovered_process with_lender_of
lender_of-uncovered c borrower pid p q =
    elim (is_id pid q.lender) as
    (λ b. uncovered_process borrower (cond b (record q { lender = p.lender }) q)
    ≡ cond b (record (uncovered_process borrower q) { lender = p.lender }) (uncovered_process borrower q))
    [ true ↦ refl | false ↦ refl ]

loans_passed-uncovered : (covers : Covers) (pid : ℕ) (p : TracedProcess) (s : TracedSystem) → IsReturnable covers pid p
    → uncovered covers (with_loans_passed pid p s)
    ≡ with_loans_passed pid (uncovered_process (covers pid) p) (uncovered covers s)
unfolding with_loans_passed uncovered_process
loans_passed-uncovered covers pid p s returnable =
    let beneath = uncovered_process (covers pid) p in
    with_process_if-uncovered covers (with_process_if p.borrower (with_lender_of pid p) s) p.lender
    (with_loan_back pid p)
    (with_loan_back pid beneath)
    (λ lender is q. loan_back-uncovered (covers pid) (covers lender) pid p q (returnable.alike lender is))
    ∙ ap (with_process_if p.lender (with_loan_back pid beneath))
    (with_process_if-uncovered covers s p.borrower (with_lender_of pid p) (with_lender_of pid beneath)
    (λ borrower is q. lender_of-uncovered (covers pid) (covers borrower) pid p q))

lent-uncovered : (covers : Covers) (birth : Birth) (pid child : ℕ) (s : TracedSystem)
    → uncovered covers (with_lent birth pid child s) ≡ with_lent birth pid child (uncovered covers s)
unfolding uncovered_process lent_to
lent-uncovered covers by_fork pid child s = refl
lent-uncovered covers by_vfork pid child s =
    with_process-uncovered covers s pid (lent_to child) (lent_to child)
    (λ x. ap (λ space. record (uncovered_process (covers pid) x) { space = space; borrower = Some child })
    (patched-none (covers pid).patches))

-- ---- ends

orphaned-uncovered : (c : Cover) (pid : ℕ) (p : TracedProcess)
    → uncovered_process c (orphaned pid p) ≡ orphaned pid (uncovered_process c p)
unfolding uncovered_process orphaned
orphaned-uncovered c pid p =
    elim (eqb p.parent pid) as
    (λ b. uncovered_process c (cond b (record p { parent = 0 }) p)
    ≡ cond b (record (uncovered_process c p) { parent = 0 }) (uncovered_process c p)) [ true ↦ refl | false ↦ refl ]

zombie-uncovered : (c : Cover) (status : ℕ) (p : TracedProcess)
    → uncovered_process c (zombie traced status p) ≡ zombie traced status (uncovered_process c p)
unfolding uncovered_process zombie bare_process traced
zombie-uncovered c status p = rw (patched-none c.patches) refl

parent_signalled-uncovered : (covers : Covers) (parent pid status : ℕ) (s : TracedSystem)
    → uncovered covers (with_parent_signalled parent pid status s)
    ≡ with_parent_signalled parent pid status (uncovered covers s)
unfolding with_parent_signalled
parent_signalled-uncovered covers parent pid status s =
    elim (eqb parent 0) as
    (λ b. uncovered covers (cond b s (with_process parent (signalled None Cld (of_child pid status)) s))
    ≡ cond b (uncovered covers s)
    (with_process parent (signalled None Cld (of_child pid status)) (uncovered covers s))) [
      | true ↦ refl
      | false ↦ with_process-uncovered covers s parent (signalled None Cld (of_child pid status))
          (signalled None Cld (of_child pid status))
          (λ x. signalled-uncovered (covers parent) None Cld (of_child pid status) x)
    ]

-- what is left of a system of which a process ends, before its loans are passed
left : ℕ → TracedProcess → ℕ → TracedSystem → TracedSystem
left pid p status s = record s {
  files = with_all_closed s.files p.fds;
  processes = map_each (orphaned pid) (change_under pid (zombie traced status) s.processes);
}

left-uncovered : (covers : Covers) (pid : ℕ) (p : TracedProcess) (status : ℕ) (s : TracedSystem)
    → uncovered covers (left pid p status s) ≡ left pid (uncovered_process (covers pid) p) status (uncovered covers s)
unfolding uncovered uncovered_process left
left-uncovered covers pid p status s =
    ap (λ ps. record (uncovered covers s) { files = with_all_closed s.files p.fds; processes = ps })
    (seen-each all_kept (process_beneath covers) (orphaned pid) (orphaned pid)
    (λ n x. orphaned-uncovered (covers n) pid x) (change_under pid (zombie traced status) s.processes)
    ∙ ap (map_each (orphaned pid))
    (seen-change all_kept (process_beneath covers) pid (zombie traced status) (zombie traced status)
    (λ x. zombie-uncovered (covers pid) status x) s.processes))

pub this_ended-uncovered : (covers : Covers) (pid : ℕ) (p : TracedProcess) (status : ℕ) (s : TracedSystem)
    → IsReturnable covers pid p
    → uncovered covers (with_this_ended traced pid p status s)
    ≡ with_this_ended traced pid (uncovered_process (covers pid) p) status (uncovered covers s)
unfolding with_this_ended uncovered_process left
this_ended-uncovered covers pid p status s returnable =
    parent_signalled-uncovered covers p.parent pid status (with_loans_passed pid p (left pid p status s))
    ∙ ap (with_parent_signalled p.parent pid status)
    (loans_passed-uncovered covers pid p (left pid p status s) returnable
    ∙ ap (with_loans_passed pid (uncovered_process (covers pid) p)) (left-uncovered covers pid p status s))

pub ended-uncovered : (covers : Covers) (pid status : ℕ) (s : TracedSystem) → MayEnd covers s pid
    → uncovered covers (with_ended traced pid status s) ≡ with_ended traced pid status (uncovered covers s)
unfolding with_ended
ended-uncovered covers pid status s may =
    by (live_process s pid) refl
    ∙ ap (ended_if_live traced pid status (uncovered covers s)) (sym (live-uncovered covers s pid))
  where
    by : (o : Option TracedProcess) → live_process s pid ≡ o
        → uncovered covers (ended_if_live traced pid status s o)
        ≡ ended_if_live traced pid status (uncovered covers s) (option_map (uncovered_process (covers pid)) o)
    by None is = refl
    by (Some p) is = this_ended-uncovered covers pid p status s (may.returnable p is)

without_lwp-uncovered : (c : Cover) (id : ℕ) (p : TracedProcess) → c.agent ≡ false
    → uncovered_process c (without_lwp id p) ≡ without_lwp id (uncovered_process c p)
unfolding uncovered_process without_lwp
without_lwp-uncovered c id p none =
    ap (λ ls. record (uncovered_process c p) { lwps = ls })
    (seen-without (keeps_lwp c) (lwp_beneath c) (keeping c none) id p.lwps)

pub lwp_ended-uncovered : (covers : Covers) (pid : ℕ) (p : TracedProcess) (id : ℕ) (s : TracedSystem)
    → MayLeave covers pid p
    → uncovered covers (with_lwp_ended traced pid p id s)
    ≡ with_lwp_ended traced pid (uncovered_process (covers pid) p) id (uncovered covers s)
unfolding with_lwp_ended
lwp_ended-uncovered covers pid p id s may =
    let beneath = uncovered_process (covers pid) p in
    elim (eqb (length p.lwps) 1) as
    (λ b. uncovered covers (cond b (with_this_ended traced pid p 0 s) (with_process pid (without_lwp id) s))
    ≡ cond b (with_this_ended traced pid beneath 0 (uncovered covers s))
    (with_process pid (without_lwp id) (uncovered covers s))) [
      | true ↦ this_ended-uncovered covers pid p 0 s may.returnable
      | false ↦ with_process-uncovered covers s pid (without_lwp id) (without_lwp id)
          (λ x. without_lwp-uncovered (covers pid) id x may.no_agent)
    ]
    ∙ ap (λ n. cond (eqb n 1) (with_this_ended traced pid beneath 0 (uncovered covers s))
    (with_process pid (without_lwp id) (uncovered covers s))) (sym (lwps-uncovered (covers pid) p may.no_agent))

pub reaped-uncovered : (covers : Covers) (pid : ℕ) (s : TracedSystem)
    → uncovered covers (with_reaped pid s) ≡ with_reaped pid (uncovered covers s)
unfolding uncovered with_reaped
reaped-uncovered covers pid s =
    ap (λ ps. record (uncovered covers s) { processes = ps })
    (seen-without all_kept (process_beneath covers) (all-kept all_kept (process_beneath covers) (λ id. refl)) pid
    s.processes)

-- ---- beginnings

pub made-uncovered : (covers : Covers) (p : TracedProcess) (s : TracedSystem)
    → uncovered covers (with_made p s) ≡ with_made (uncovered_process (covers s.made) p) (uncovered covers s)
unfolding uncovered with_made
made-uncovered covers p s =
    ap (λ ps. record (uncovered covers s) { made = s.made + 1; processes = ps })
    (seen-inserted all_kept (process_beneath covers) (all-kept all_kept (process_beneath covers) (λ id. refl)) s.made p
    s.processes)

child_lwp-uncovered : (birth : Birth) (args : List ℕ) (set : _) (own : Bool) (l : TracedLwp)
    → uncovered_lwp false (forked_lwp traced birth args set l) ≡ forked_lwp traced birth args set (uncovered_lwp own l)
unfolding uncovered_lwp forked_lwp traced birth_marks no_marks step_taken
child_lwp-uncovered birth args set own l = refl

forked-uncovered : (c : Cover) (birth : Birth) (pid : ℕ) (p : TracedProcess) (own : Bool) (l : TracedLwp)
    (args : List ℕ) (clock : ℕ) → c.patches ≡ []
    → uncovered_process no_cover (forked traced birth pid p l args clock)
    ≡ forked traced birth pid (uncovered_process c p) (uncovered_lwp own l) args clock
unfolding uncovered_process forked
forked-uncovered c birth pid p own l args clock none =
    ap (λ x. record (forked traced birth pid p l args clock) { lwps = (1, x) ∷ [] })
    (child_lwp-uncovered birth args p.control own l)
    ∙ ap (λ (ps : List Patch). record (forked traced birth pid p l args clock) {
      space = patched ps p.space;
      lwps = (1, forked_lwp traced birth args p.control (uncovered_lwp own l)) ∷ [];
    }) (sym none)

shared-uncovered : (covers : Covers) (pid : ℕ) (p : TracedProcess) (s : TracedSystem)
    → uncovered covers (record s { files = with_all_shared s.files p.fds })
    ≡ record (uncovered covers s) {
      files = with_all_shared (uncovered covers s).files (uncovered_process (covers pid) p).fds;
    }
unfolding uncovered uncovered_process
shared-uncovered covers pid p s = refl

same_made : (covers : Covers) (s : TracedSystem) → (uncovered covers s).made ≡ s.made
unfolding uncovered
same_made covers s = refl

same_clock : (covers : Covers) (s : TracedSystem) → (uncovered covers s).clock ≡ s.clock
unfolding uncovered
same_clock covers s = refl

lent-made : (birth : Birth) (pid child : ℕ) (s : TracedSystem) → (with_lent birth pid child s).made ≡ s.made
unfolding with_process
lent-made by_fork pid child s = refl
lent-made by_vfork pid child s = refl

pub child-uncovered : (covers : Covers) (birth : Birth) (pid : ℕ) (p : TracedProcess) (own : Bool) (l : TracedLwp)
    (args : List ℕ) (s : TracedSystem) → MayMakeChild covers pid s.made
    → uncovered covers (with_child traced birth pid p l args s)
    ≡ with_child traced birth pid (uncovered_process (covers pid) p) (uncovered_lwp own l) args (uncovered covers s)
unfolding with_child
child-uncovered covers birth pid p own l args s may =
    let beneath = uncovered_process (covers pid) p in
    let shared : TracedSystem = record s { files = with_all_shared s.files p.fds } in
    let lent = with_lent birth pid s.made shared in
    let child = forked traced birth pid p l args s.clock in
    made-uncovered covers child lent
    ∙ ap (λ n. with_made (uncovered_process (covers n) child) (uncovered covers lent))
    (lent-made birth pid s.made shared)
    ∙ ap (λ (c : Cover). with_made (uncovered_process c child) (uncovered covers lent)) may.fresh
    ∙ ap (λ q. with_made q (uncovered covers lent))
    (forked-uncovered (covers pid) birth pid p own l args s.clock may.unpatched)
    ∙ ap (λ n. with_made (forked traced birth pid beneath (uncovered_lwp own l) args n) (uncovered covers lent))
    (sym (same_clock covers s))
    ∙ ap (with_made (forked traced birth pid beneath (uncovered_lwp own l) args (uncovered covers s).clock))
    (lent-uncovered covers birth pid s.made shared ∙ ap (with_lent birth pid s.made) (shared-uncovered covers pid p s)
    ∙ ap (λ n. with_lent birth pid n (record (uncovered covers s) {
      files = with_all_shared (uncovered covers s).files beneath.fds;
    })) (sym (same_made covers s)))

pub program-uncovered : (c : Cover) (id : ℕ) (l : TracedLwp) (program : Program) (p : TracedProcess) → c.patches ≡ []
    → keeps_lwp c id ≡ true
    → uncovered_process c (with_program traced id l program p)
    ≡ with_program traced id (uncovered_lwp (c.faulted id) l) program (uncovered_process c p)
unfolding uncovered_process with_program started uncovered_lwp
program-uncovered c id l program p none kept = rw (none, kept) refl

new_lwp-uncovered : (own : Bool) (regs : List ℕ) (held : ℕ)
    → uncovered_lwp own (new_lwp traced regs held (no_marks false)) ≡ new_lwp traced regs held (no_marks false)
unfolding uncovered_lwp new_lwp traced no_marks step_taken
new_lwp-uncovered true regs held = refl
new_lwp-uncovered false regs held = refl

one_more-uncovered : (c : Cover) (id : ℕ) (regs : List ℕ) (held : ℕ) (p : TracedProcess) → MayMakeLwp c
    → uncovered_process c
    (record p { next_lwp = id + 1; lwps = inserted id (new_lwp traced regs held (no_marks false)) p.lwps })
    ≡ record (uncovered_process c p) {
      next_lwp = id + 1;
      lwps = inserted id (new_lwp traced regs held (no_marks false)) (uncovered_process c p).lwps;
    }
unfolding uncovered_process
one_more-uncovered c id regs held p may =
    let made = new_lwp traced regs held (no_marks false) in
    ap (λ ls. record (uncovered_process c p) { next_lwp = id + 1; lwps = ls })
    (seen-inserted (keeps_lwp c) (lwp_beneath c) (keeping c may.no_agent) id made p.lwps
    ∙ ap (λ x. inserted id x (uncovered_process c p).lwps)
    (new_lwp-uncovered (c.faulted id) regs held))

pub with_new_lwp-uncovered : (c : Cover) (id : ℕ) (regs : List ℕ) (held : ℕ) (p : TracedProcess) → MayMakeLwp c
    → uncovered_process c (with_new_lwp traced id regs held p)
    ≡ with_new_lwp traced id regs held (uncovered_process c p)
unfolding with_new_lwp traced
with_new_lwp-uncovered c id regs held p may =
    let old = record p { next_lwp = id + 1; lwps = inserted id (new_lwp traced regs held (no_marks false)) p.lwps } in
    let new = record (uncovered_process c p) {
      next_lwp = id + 1;
      lwps = inserted id (new_lwp traced regs held (no_marks false)) (uncovered_process c p).lwps;
    } in
    elim (is_some (lwp_of p id)) as
    (λ b. uncovered_process c (cond b p old) ≡ cond b (uncovered_process c p) new)
    [ true ↦ refl | false ↦ one_more-uncovered c id regs held p may ]
    ∙ ap (λ b. cond b (uncovered_process c p) new)
    (sym (stands-uncovered c p id (no_agent-keeps c may.no_agent id)))
