use Rattle.std.proofs.Common.{◌≡◌, ◌≢◌, ◌<◌, ◌≤◌, ◌+◌, ℕ, Bool, true, false, eqb, not, is_some, Option, Some, None, List, [], ◌∷◌, length, cond, refl, sym, subst, ◌∙◌, ap, inl, inr}
use Rattle.std.proofs.lemmas.Bool.{eq-eqb, ne_eqb}
use Rattle.std.specs.Option.{option_map}
use Rattle.pr_num.specs.Agents.{agent_id}
use Rattle.pr_num.specs.ById.{IsRising, change_under, inserted, map_each, without_id}
use Rattle.pr_num.specs.Spaces.{Space}
use Rattle.pr_num.specs.declared.faults.Flt.{Flt}
use Rattle.pr_parts.specs.AddressSpaces.{with_bytes}
use Rattle.pr_model.specs.Changes.{Change, all_changed, changed, space_is, with_space}
use Rattle.pr_model.specs.Erasure.{erased_lwp, erased_phase, erased_pending, erased_process, erased_system, uncontrolled_lwp, uncontrolled_process}
use Rattle.pr_model.specs.Lives.{without_lwp}
use Rattle.pr_model.specs.LwpTurns.{settled, with_counted}
use Rattle.pr_model.specs.Machines.{UntracedLwp, fault_incurred, step_taken, traced}
use Rattle.pr_model.specs.Messages.{agent_lwp, with_agent}
use Rattle.pr_model.specs.Moves.{Move, incurs, moved, traps}
use Rattle.pr_model.specs.Points.{after_meeting}
use Rattle.pr_model.specs.Rows.{Row}
use Rattle.pr_model.specs.Running.{with_step, without_fault}
use Rattle.pr_model.specs.State.{TracedLwp, TracedProcess, TracedSystem, has_agent, live_process, lwp_of, process_of, with_lwp, with_lwp_of, with_process}
use Rattle.pr_model.specs.Transitions.{after_transition}
use Rattle.pr_model.specs.declared.lwps.Phase.{Phase}
use Rattle.pr_model.specs.declared.lwps.Phase.TheVariants.{User, Entered, Asleep, Exiting, Faulted}
use Rattle.pr_model.proofs.StateLemmas.{live_process-found}
use Rattle.pr_erasure.proofs.SeenParts.BareLemmas.{same-system}
use Rattle.pr_erasure.proofs.SeenTurns.PointLemmas.{after_meeting-hidden, with_counted-hidden}
use Rattle.pr_erasure.proofs.SeenParts.StateLemmas.{with_lwp-hidden, with_process-hidden}
use Rattle.pr_hidden.specs.Covers.{Cover, Covers, Patch, all_kept, keeps_lwp, lwp_beneath, patched, phase_beneath, process_beneath, seen, seen_under, uncovered, uncovered_lwp, uncovered_process, with_cover}
use Rattle.pr_hidden.specs.Hiding.{AreCovered, ChangesOwn, IsSeenAlike, Stands, nothing, stores, with_fault, with_own_agent, with_patches}
use Rattle.pr_hidden.proofs.Covers.OneLemmas.{come-hidden, go-hidden, one-followed}
use Rattle.pr_hidden.proofs.PatchedSpaces.PatchLemmas.{hidden-store}
use Rattle.pr_hidden.proofs.Covers.PointCovers.{counted-uncovered, meeting-uncovered}
use Rattle.pr_hidden.proofs.Covers.SeenLemmas.{seen-alike, seen-hidden}
use Rattle.pr_hidden.proofs.Covers.StateCovers.{with_lwp-uncovered, with_process-uncovered}

-- What controllers do that is hidden: programs see the state before it.

-- ---- another cover of one process

cover-own : (pid : ℕ) (c : Cover) (covers : Covers) → with_cover pid c covers pid ≡ c
cover-own pid c covers = rw (eq-eqb pid pid refl) refl

cover-other : (pid : ℕ) (c : Cover) (covers : Covers) (n : ℕ) → n ≢ pid → with_cover pid c covers n ≡ covers n
cover-other pid c covers n other = rw (ne_eqb n pid other) refl

-- A process is changed, and perhaps another thing is hidden of it: programs see another change, or none.
followed : (covers new : Covers) (s : TracedSystem) (pid : ℕ) (p : TracedProcess) (f g : TracedProcess → TracedProcess)
    → ((n : ℕ) → n ≢ pid → new n ≡ covers n) → IsRising s.processes → process_of s pid ≡ Some p
    → erased_process (uncovered_process (new pid) (f p)) ≡ erased_process (g (uncovered_process (covers pid) p))
    → seen new (with_process pid f s) ≡ erased_system (with_process pid g (uncovered covers s))
unfolding erased_system uncovered with_process
followed covers new s pid p f g agree rising found same =
    ap (λ ps. record (erased_system s) { processes = ps })
    (one-followed all_kept (process_beneath covers) (process_beneath new) erased_process pid
    (λ n other x. ap (λ (d : Cover). erased_process (uncovered_process d x)) (agree n other))
    f g p refl same 0 s.processes rising found)

pub process-followed : (covers : Covers) (s : TracedSystem) (pid : ℕ) (p : TracedProcess) (c : Cover)
    (f g : TracedProcess → TracedProcess) → IsRising s.processes → process_of s pid ≡ Some p
    → erased_process (uncovered_process c (f p)) ≡ erased_process (g (uncovered_process (covers pid) p))
    → seen (with_cover pid c covers) (with_process pid f s) ≡ erased_system (with_process pid g (uncovered covers s))
process-followed covers s pid p c f g rising found same =
    followed covers (with_cover pid c covers) s pid p f g (cover-other pid c covers) rising found
    (ap (λ (d : Cover). erased_process (uncovered_process d (f p))) (cover-own pid c covers) ∙ same)

kept-process : TracedProcess → TracedProcess
kept-process p = p

unchanged : (s : TracedSystem) (pid : ℕ) → erased_system (with_process pid kept-process s) ≡ erased_system s
unfolding kept-process
unchanged s pid = same-system (with_process pid kept-process s) s (with_process-hidden s pid kept-process (λ x. refl))

pub process-hidden : (covers : Covers) (s : TracedSystem) (pid : ℕ) (p : TracedProcess) (c : Cover)
    (f : TracedProcess → TracedProcess) → IsRising s.processes → process_of s pid ≡ Some p
    → erased_process (uncovered_process c (f p)) ≡ erased_process (uncovered_process (covers pid) p)
    → seen (with_cover pid c covers) (with_process pid f s) ≡ seen covers s
unfolding kept-process
process-hidden covers s pid p c f rising found same =
    process-followed covers s pid p c f kept-process rising found same ∙ unchanged (uncovered covers s) pid

-- the same under the cover that was
pub same_cover-hidden : (covers : Covers) (s : TracedSystem) (pid : ℕ) (p : TracedProcess)
    (f : TracedProcess → TracedProcess)
    → IsRising s.processes → process_of s pid ≡ Some p
    → erased_process (uncovered_process (covers pid) (f p)) ≡ erased_process (uncovered_process (covers pid) p)
    → seen covers (with_process pid f s) ≡ seen covers s
unfolding kept-process
same_cover-hidden covers s pid p f rising found same =
    followed covers covers s pid p f kept-process (λ n other. refl) rising found same
    ∙ unchanged (uncovered covers s) pid

-- ---- an lwp at a fault of the controller's

fault-own : (id : ℕ) (at : Bool) (c : Cover) → (with_fault id at c).faulted id ≡ at
fault-own id at c = rw (eq-eqb id id refl) refl

fault-other : (id : ℕ) (at : Bool) (c : Cover) (n : ℕ) → n ≢ id → (with_fault id at c).faulted n ≡ c.faulted n
fault-other id at c n other = rw (ne_eqb n id other) refl

lwp-followed : (c : Cover) (p : TracedProcess) (id : ℕ) (l : TracedLwp) (at : Bool) (f g : TracedLwp → TracedLwp)
    → IsRising p.lwps → lwp_of p id ≡ Some l → keeps_lwp c id ≡ true
    → erased_lwp (uncovered_lwp at (f l)) ≡ erased_lwp (g (uncovered_lwp (c.faulted id) l))
    → erased_process (uncovered_process (with_fault id at c) (with_lwp id f p))
    ≡ erased_process (with_lwp id g (uncovered_process c p))
unfolding erased_process uncovered_process with_lwp
lwp-followed c p id l at f g rising there kept same =
    ap (λ ls. record (erased_process (uncovered_process c p)) { lwps = ls })
    (one-followed (keeps_lwp c) (lwp_beneath c) (lwp_beneath (with_fault id at c)) erased_lwp id
    (λ n other x. ap (λ (b : Bool). erased_lwp (uncovered_lwp b x)) (fault-other id at c n other)) f g l kept
    (ap (λ (b : Bool). erased_lwp (uncovered_lwp b (f l))) (fault-own id at c) ∙ same) 0 p.lwps rising there)

-- an lwp comes to such a fault, or leaves it: programs see another change of it
pub fault-followed : (covers : Covers) (s : TracedSystem) (pid : ℕ) (p : TracedProcess) (id : ℕ) (l : TracedLwp)
    (at : Bool) (f g : TracedLwp → TracedLwp) → Stands s pid p id l → keeps_lwp (covers pid) id ≡ true
    → erased_lwp (uncovered_lwp at (f l)) ≡ erased_lwp (g (uncovered_lwp ((covers pid).faulted id) l))
    → seen (with_cover pid (with_fault id at (covers pid)) covers) (with_lwp_of pid id f s)
    ≡ erased_system (with_lwp_of pid id g (uncovered covers s))
unfolding with_lwp_of
fault-followed covers s pid p id l at f g st kept same =
    process-followed covers s pid p (with_fault id at (covers pid)) (with_lwp id f) (with_lwp id g) st.processes
    (live_process-found s pid p st.live)
    (lwp-followed (covers pid) p id l at f g st.lwps st.there kept same)

kept-lwp : TracedLwp → TracedLwp
kept-lwp l = l

unmoved : (s : TracedSystem) (pid id : ℕ) → erased_system (with_lwp_of pid id kept-lwp s) ≡ erased_system s
unfolding with_lwp_of kept-lwp
unmoved s pid id =
    same-system (with_process pid (with_lwp id kept-lwp) s) s
    (with_process-hidden s pid (with_lwp id kept-lwp) (λ x. with_lwp-hidden x id kept-lwp (λ k. refl)))

pub fault-hidden : (covers : Covers) (s : TracedSystem) (pid : ℕ) (p : TracedProcess) (id : ℕ) (l : TracedLwp)
    (at : Bool) (f : TracedLwp → TracedLwp) → Stands s pid p id l → keeps_lwp (covers pid) id ≡ true
    → erased_lwp (uncovered_lwp at (f l)) ≡ erased_lwp (uncovered_lwp ((covers pid).faulted id) l)
    → seen (with_cover pid (with_fault id at (covers pid)) covers) (with_lwp_of pid id f s) ≡ seen covers s
unfolding kept-lwp
fault-hidden covers s pid p id l at f st kept same =
    fault-followed covers s pid p id l at f kept-lwp st kept same ∙ unmoved (uncovered covers s) pid id

-- ---- the stop and the counts of a turn

peeled : (covers : Covers) (s : TracedSystem) (pid : ℕ) (f : TracedProcess → TracedProcess)
    → ((x : TracedProcess) → uncovered_process (covers pid) (f x) ≡ f (uncovered_process (covers pid) x))
    → ((x : TracedProcess) → uncontrolled_process (f x) ≡ uncontrolled_process x)
    → seen covers (with_process pid f s) ≡ seen covers s
peeled covers s pid f agree hides =
    ap erased_system (with_process-uncovered covers s pid f f agree)
    ∙ same-system (with_process pid f (uncovered covers s)) (uncovered covers s)
    (with_process-hidden (uncovered covers s) pid f hides)

-- what a turn leaves is seen as what its transition leaves
pub settled-seen : (covers : Covers) (s : TracedSystem) (pid : ℕ) (p : TracedProcess) (id : ℕ)
    (l : TracedLwp) (row : Row)
    → seen covers (settled s pid p id l row).system ≡ seen covers (after_transition traced pid p id l row.transition s)
unfolding settled
settled-seen covers s pid p id l row =
    let after = after_transition traced pid p id l row.transition s in
    peeled covers (with_process pid (with_counted row.did row.begun) after) pid (after_meeting row.point id)
    (λ x. meeting-uncovered (covers pid) row.point id x) (λ x. after_meeting-hidden row.point id x)
    ∙ peeled covers after pid (with_counted row.did row.begun)
    (λ x. counted-uncovered (covers pid) row.did row.begun x) (λ x. with_counted-hidden row.did row.begun x)

-- ---- patches that come and go

other_patches : (c : Cover) (p : TracedProcess) (ps : List Patch) (space : Space)
    → IsSeenAlike ps space c.patches p.space
    → erased_process (uncovered_process (with_patches ps c) (with_space space p))
    ≡ erased_process (uncovered_process c p)
unfolding erased_process uncovered_process with_space
other_patches c p ps space alike = ap (λ sp. record (erased_process (uncovered_process c p)) { space = sp }) alike.same

pub patches-hidden : (covers : Covers) (s : TracedSystem) (pid : ℕ) (p : TracedProcess) (ps : List Patch)
    (space : Space)
    → IsRising s.processes → live_process s pid ≡ Some p → IsSeenAlike ps space (covers pid).patches p.space
    → seen (with_cover pid (with_patches ps (covers pid)) covers) (with_process pid (with_space space) s)
    ≡ seen covers s
patches-hidden covers s pid p ps space rising live alike =
    process-hidden covers s pid p (with_patches ps (covers pid)) (with_space space) rising
    (live_process-found s pid p live) (other_patches (covers pid) p ps space alike)

-- ---- a fault that is cleared

cleared : (l : TracedLwp) (f : Flt) (address : ℕ) → l.phase ≡ Faulted f address
    → uncovered_lwp false (without_fault l) ≡ uncovered_lwp true l
unfolding uncovered_lwp without_fault
cleared l f address is = rw is refl

pub cleared-hidden : (covers : Covers) (s : TracedSystem) (pid : ℕ) (p : TracedProcess) (id : ℕ)
    (l : TracedLwp) (f : Flt)
    (address : ℕ) → Stands s pid p id l → keeps_lwp (covers pid) id ≡ true → (covers pid).faulted id ≡ true
    → l.phase ≡ Faulted f address
    → seen (with_cover pid (with_fault id false (covers pid)) covers) (with_lwp_of pid id without_fault s)
    ≡ seen covers s
cleared-hidden covers s pid p id l f address st kept own is =
    fault-hidden covers s pid p id l false without_fault st kept
    (ap erased_lwp (cleared l f address is) ∙ ap (λ (b : Bool). erased_lwp (uncovered_lwp b l)) (sym own))

-- ---- an agent of the controller's

pub agent_made : (c : Cover) (regs : List ℕ) (p : TracedProcess) → c.agent ≡ false → lwp_of p agent_id ≡ None
    → uncovered_process (with_own_agent true c) (with_agent regs p) ≡ uncovered_process c p
unfolding uncovered_process with_agent
agent_made c regs p none free =
    ap (λ ls. record p { space = patched c.patches p.space; lwps = ls })
    (come-hidden (lwp_beneath c) agent_id (agent_lwp regs) p.lwps free
    ∙ seen-alike all_kept (keeps_lwp c) (lwp_beneath c) (λ id. rw none refl) p.lwps)

pub agent-made : (covers : Covers) (s : TracedSystem) (pid : ℕ) (p : TracedProcess) (regs : List ℕ)
    → IsRising s.processes → live_process s pid ≡ Some p → (covers pid).agent ≡ false → lwp_of p agent_id ≡ None
    → seen (with_cover pid (with_own_agent true (covers pid)) covers) (with_process pid (with_agent regs) s)
    ≡ seen covers s
agent-made covers s pid p regs rising live none free =
    process-hidden covers s pid p (with_own_agent true (covers pid)) (with_agent regs) rising
    (live_process-found s pid p live) (ap erased_process (agent_made (covers pid) regs p none free))

pub agent_gone : (c : Cover) (p : TracedProcess) → c.agent ≡ true → IsRising p.lwps
    → uncovered_process (with_own_agent false c) (without_lwp agent_id p) ≡ uncovered_process c p
unfolding uncovered_process without_lwp
agent_gone c p own rising =
    ap (λ ls. record p { space = patched c.patches p.space; lwps = ls })
    (go-hidden (lwp_beneath c) agent_id 0 p.lwps rising
    ∙ seen-alike (λ id. not (eqb id agent_id)) (keeps_lwp c) (lwp_beneath c) (λ id. rw own refl) p.lwps)

pub agent-gone : (covers : Covers) (s : TracedSystem) (pid : ℕ) (p : TracedProcess) → IsRising s.processes
    → live_process s pid ≡ Some p → IsRising p.lwps → (covers pid).agent ≡ true
    → seen (with_cover pid (with_own_agent false (covers pid)) covers) (with_process pid (without_lwp agent_id) s)
    ≡ seen covers s
agent-gone covers s pid p rising live lwps own =
    process-hidden covers s pid p (with_own_agent false (covers pid)) (without_lwp agent_id) rising
    (live_process-found s pid p live) (ap erased_process (agent_gone (covers pid) p own lwps))

-- a hidden agent moves
pub hidden_lwp : (c : Cover) (id : ℕ) (f : TracedLwp → TracedLwp) (p : TracedProcess) → keeps_lwp c id ≡ false
    → uncovered_process c (with_lwp id f p) ≡ uncovered_process c p
unfolding uncovered_process with_lwp
hidden_lwp c id f p none =
    ap (λ ls. record p { space = patched c.patches p.space; lwps = ls })
    (seen-hidden (keeps_lwp c) (lwp_beneath c) id f none p.lwps)

lwp-unseen : (covers : Covers) (s : TracedSystem) (pid id : ℕ) (f : TracedLwp → TracedLwp)
    → keeps_lwp (covers pid) id ≡ false → seen covers (with_lwp_of pid id f s) ≡ seen covers s
unfolding with_lwp_of kept-process
lwp-unseen covers s pid id f none =
    ap erased_system
    (with_process-uncovered covers s pid (with_lwp id f) kept-process (λ x. hidden_lwp (covers pid) id f x none))
    ∙ unchanged (uncovered covers s) pid

covered_store : (c : Cover) (p : TracedProcess) (at : ℕ) (bytes : List ℕ) → AreCovered c.patches at (length bytes)
    → erased_process (uncovered_process c (with_space (with_bytes at bytes p.space) p))
    ≡ erased_process (uncovered_process c p)
unfolding erased_process uncovered_process with_space
covered_store c p at bytes covered =
    ap (λ sp. record (erased_process (uncovered_process c p)) { space = sp })
    (hidden-store c.patches at bytes covered p.space)

pub agent-unseen : (covers : Covers) (s : TracedSystem) (pid : ℕ) (p : TracedProcess) (id : ℕ)
    (l : TracedLwp) (m : Move)
    (cs : List Change) → IsRising s.processes → live_process s pid ≡ Some p → keeps_lwp (covers pid) id ≡ false
    → ChangesOwn (covers pid).patches p.space cs
    → seen covers (with_lwp_of pid id (moved traced m) (all_changed traced pid p id l cs s)) ≡ seen covers s
unfolding all_changed changed
agent-unseen covers s pid p id l m _ rising live none nothing = lwp-unseen covers s pid id (moved traced m) none
agent-unseen covers s pid p id l m _ rising live none (stores at bytes covered) =
    lwp-unseen covers (with_process pid (with_space (with_bytes at bytes p.space)) s) pid id (moved traced m) none
    ∙ same_cover-hidden covers s pid p (with_space (with_bytes at bytes p.space)) rising
    (live_process-found s pid p live) (covered_store (covers pid) p at bytes covered)

-- ---- a step mark

step_mark : (own : Bool) (l : TracedLwp) → uncovered_lwp own (with_step l) ≡ kept-lwp (uncovered_lwp own l)
unfolding uncovered_lwp with_step step_taken kept-lwp
step_mark own l = refl

pub marked-hidden : (covers : Covers) (s : TracedSystem) (pid id : ℕ)
    → seen covers (with_lwp_of pid id with_step s) ≡ seen covers s
unfolding with_lwp_of
marked-hidden covers s pid id =
    ap erased_system
    (with_process-uncovered covers s pid (with_lwp id with_step) (with_lwp id kept-lwp)
    (λ x. with_lwp-uncovered (covers pid) x id with_step kept-lwp (step_mark ((covers pid).faulted id))))
    ∙ unmoved (uncovered covers s) pid id

pub ruleset marking = (marked-hidden)

pub ruleset patching = (patches-hidden)

pub ruleset clearing = (cleared-hidden)

pub ruleset agents = (agent-made, agent-unseen, agent-gone)
