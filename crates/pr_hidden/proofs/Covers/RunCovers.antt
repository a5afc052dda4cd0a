use Rattle.std.proofs.Common.{◌≡◌, ◌≢◌, ℕ, Bool, true, false, eqb, is_none, Option, Some, None, List, [], ◌∷◌, cond, refl, sym, subst, ◌∙◌, ap}
use Rattle.std.specs.Option.{option_and_then, option_map}
use Rattle.pr_num.specs.ById.{IsRising, change_under, rises_from, under}
use Rattle.pr_num.specs.Spaces.{Space}
use Rattle.pr_num.specs.declared.faults.Flt.{Flt}
use Rattle.pr_num.specs.declared.faults.Flt.TheVariants.{Bpt, Trace}
use Rattle.pr_num.specs.declared.syscalls.Sysno.{Sysno}
use Rattle.pr_num.proofs.ByIdLaws.{under-change_under}
use Rattle.pr_num.proofs.ByIdLemmas.{rises_from-change_under}
use Rattle.pr_parts.specs.AddressSpaces.{with_bytes}
use Rattle.pr_model.specs.Changes.{Change, all_changed, changed, with_space}
use Rattle.pr_model.specs.Erasure.{erased_lwp, erased_pending, erased_phase, erased_process, erased_system}
use Rattle.pr_model.specs.InstructionEffects.{InstructionEffect, Store, faults, instruction_effect, runs}
use Rattle.pr_model.specs.LwpTurns.{LwpTurn, is_held_back, may_go_on, settled, turn_of, with_counted}
use Rattle.pr_model.specs.Machines.{fault_incurred, step_taken, traced}
use Rattle.pr_model.specs.Moves.{Move, moved}
use Rattle.pr_model.specs.Moves as move
use Rattle.pr_model.specs.Points.{after_meeting}
use Rattle.pr_model.specs.Registers.{pc_of}
use Rattle.pr_model.specs.Rows.{Row, current_row_or, executed_row, incurred_row, instruction_row, point_row, posted_row_or, ran_row, requested_row, returned_row, row_for, row_in, signal_row_or, taken_or}
use Rattle.pr_model.specs.Signals.{own_takeable, shared_takeable}
use Rattle.pr_model.specs.State.{TracedLwp, TracedProcess, TracedSystem, if_live, live_process, lwp_of, process_of, with_lwp_of, with_process}
use Rattle.pr_model.specs.Transitions.{after_transition, incurred, ran, stored_in, trapped}
use Rattle.pr_model.specs.UntracedMachine.{UntracedRun}
use Rattle.pr_model.specs.UntracedSteps.{steps_of_turn}
use Rattle.pr_model.specs.declared.events.Did.TheVariants.{Ran, Faulted as DidFault}
use Rattle.pr_model.specs.declared.lwps.Phase.{Phase}
use Rattle.pr_model.specs.declared.lwps.Phase.TheVariants.{Exiting, User}
use Rattle.pr_model.specs.declared.steps.Step.TheVariants.{Exec}
use Rattle.pr_model.specs.declared.stops.Point.TheVariants as point
use Rattle.pr_model.proofs.StateLemmas.{live_process-found, live_process-live}
use Rattle.pr_erasure.proofs.SeenParts.BareLemmas.{same-system}
use Rattle.pr_erasure.proofs.SeenTurns.PointLemmas.{after_meeting-hidden, with_counted-hidden}
use Rattle.pr_erasure.proofs.SeenTurns.RowLemmas.{HasTurn}
use Rattle.pr_erasure.proofs.SeenParts.StateLemmas.{with_process-hidden}
use Rattle.pr_erasure.proofs.SeenTurns.TurnLemmas.{row-runs}
use Rattle.pr_hidden.specs.Covers.{Cover, Covers, Patch, patched, seen, uncovered, uncovered_lwp, uncovered_process, with_cover}
use Rattle.pr_hidden.specs.Following.{AllowsAll, IsOpenTurn, RunsInstruction, patched_changes}
use Rattle.pr_hidden.specs.Hiding.{GoesBack, IsUnhampered, Stands, with_fault}
use Rattle.pr_hidden.specs.Sparing.{AreWithin, spares_instruction}
use Rattle.pr_hidden.proofs.Covers.ChangeCovers.{all_changed-uncovered}
use Rattle.pr_hidden.proofs.Covers.HiddenCovers.{fault-followed, fault-hidden, settled-seen}
use Rattle.pr_hidden.proofs.Covers.InstructionCovers.{EffectSpares, StoreSpares, instruction-same}
use Rattle.pr_hidden.proofs.Covers.MoveCovers.{fault-hidden as move-hidden, return-hidden, step-hidden}
use Rattle.pr_hidden.proofs.Covers.RowCovers.{stored-patched}
use Rattle.pr_hidden.proofs.Covers.StateCovers.{no_agent-keeps}
use Rattle.pr_hidden.proofs.Covers.TurnCovers.{TurnHere, held-same, live-beneath, lwp-beneath, turn-beneath, turn-here}

-- What the turns of a system are of the run that programs see, without what is hidden.

-- ---- an open turn

-- an lwp that is not hampered has its turn without what is hidden
has-turn : (covers : Covers) (s : TracedSystem) (pid : ℕ) (p : TracedProcess) (id : ℕ) (l : TracedLwp)
    → live_process s pid ≡ Some p → lwp_of p id ≡ Some l → (covers pid).agent ≡ false → (covers pid).faulted id ≡ false
    → is_held_back p id l ≡ false → IsUnhampered p id l → (uncovered_lwp false l).control.directed ≡ false
    → HasTurn (uncovered covers s) pid (uncovered_process (covers pid) p) id (uncovered_lwp false l)
unfolding uncovered_process uncovered_lwp step_taken
has-turn covers s pid p id l live there no_agent no_fault free un directed = record {
  live = live-beneath covers s pid p live;
  there = lwp-beneath (covers pid) p id l no_agent no_fault there;
  free = held-same (covers pid) p id false l ∙ free;
  not_directed = directed;
  no_agent = un.no_agent;
  no_step = refl;
  no_abort = un.no_abort;
  unwatched = un.unwatched;
}

pub open-runs : (covers : Covers) (s : TracedSystem) (pid id : ℕ) (t : LwpTurn) (p : TracedProcess) (l : TracedLwp)
    (returning : Bool) → turn_of s pid id ≡ Some t → live_process s pid ≡ Some p → lwp_of p id ≡ Some l
    → IsOpenTurn covers s pid p id l → IsUnhampered p id l
    → UntracedRun (seen covers s) (steps_of_turn returning pid id t.turned.did) (seen covers t.system)
unfolding settled
open-runs covers s pid id t p l returning turn live there it un =
    let here = turn-here s pid id t p l live there turn in
    let beneath = turn-beneath covers s pid p id l t here it in
    let u = uncovered covers s in
    let q = uncovered_process (covers pid) p in
    let m = uncovered_lwp false l in
    subst (λ (v : LwpTurn). UntracedRun (erased_system u) (steps_of_turn returning pid id v.turned.did)
    (erased_system v.system)) beneath.is
    (row-runs u pid q id m
    (λ directed. has-turn covers s pid p id l live there it.no_agent it.no_fault here.free un directed) beneath.goes
    returning)

-- ---- which row the turn of an instruction is, and of a return

instruction-row : (s : TracedSystem) (pid : ℕ) (p : TracedProcess) (id : ℕ) (l : TracedLwp) → RunsInstruction p l
    → row_for s pid p id l ≡ executed_row p l (instruction_effect p.space p.control.areas l.regs)
unfolding row_for signal_row_or row_in
instruction-row s pid p id l r =
    let rest : Phase → Row = λ phase. posted_row_or s pid p id l phase
    (current_row_or s pid p id l l.current (signal_row_or s pid p id l phase (row_in s pid p id l phase))) in
    let row = executed_row p l (instruction_effect p.space p.control.areas l.regs) in
    ap (λ b. cond b requested_row (rest l.phase)) r.not_directed ∙ ap rest r.in_program
    ∙ ap (λ o. current_row_or s pid p id l o (taken_or s pid p id l (own_takeable l) (shared_takeable p l) row))
    r.no_current
    ∙ ap (λ o. taken_or s pid p id l o (shared_takeable p l) row) r.none_own
    ∙ ap (λ o. taken_or s pid p id l None o row) r.none_shared

return-row : (s : TracedSystem) (pid : ℕ) (p : TracedProcess) (id : ℕ) (l : TracedLwp) (call : Sysno)
    → GoesBack p l call → row_for s pid p id l ≡ returned_row p l call
unfolding row_for signal_row_or row_in
return-row s pid p id l call r =
    let rest : Phase → Row = λ phase. posted_row_or s pid p id l phase
    (current_row_or s pid p id l l.current (signal_row_or s pid p id l phase (row_in s pid p id l phase))) in
    let row = returned_row p l call in
    ap (λ b. cond b requested_row (rest l.phase)) r.not_directed ∙ ap rest r.on_its_way
    ∙ ap (λ o. current_row_or s pid p id l o (taken_or s pid p id l (own_takeable l) (shared_takeable p l) row))
    r.no_current
    ∙ ap (λ o. taken_or s pid p id l o (shared_takeable p l) row) r.none_own
    ∙ ap (λ o. taken_or s pid p id l None o row) r.none_shared

-- ---- FLTBPT at a breakpoint of the controller's is nothing

incurred-after : (s : TracedSystem) (pid : ℕ) (p : TracedProcess) (id : ℕ) (l : TracedLwp) (f : Flt) (address : ℕ)
    → after_transition traced pid p id l (incurred f address) s
    ≡ with_lwp_of pid id (moved traced (move.incurs f address)) s
unfolding after_transition incurred all_changed
incurred-after s pid p id l f address = refl

faulted-row : (p : TracedProcess) (l : TracedLwp) (f : Flt) (address : ℕ)
    → executed_row p l (faults f address) ≡ incurred_row f address
unfolding executed_row
faulted-row p l f address = refl

incurred-transition : (f : Flt) (address : ℕ) → (incurred_row f address).transition ≡ incurred f address
unfolding incurred_row
incurred-transition f address = refl

pub breakpoint-hidden : (covers : Covers) (s : TracedSystem) (pid id : ℕ) (t : LwpTurn) (p : TracedProcess)
    (l : TracedLwp) (address : ℕ) → turn_of s pid id ≡ Some t → Stands s pid p id l → RunsInstruction p l
    → instruction_effect p.space p.control.areas l.regs ≡ faults Bpt address → (covers pid).agent ≡ false
    → (covers pid).faulted id ≡ false
    → seen (with_cover pid (with_fault id true (covers pid)) covers) t.system ≡ seen covers s
breakpoint-hidden covers s pid id t p l address turn st r effect no_agent no_fault =
    let here = turn-here s pid id t p l st.live st.there turn in
    let new = with_cover pid (with_fault id true (covers pid)) covers in
    let row : row_for s pid p id l ≡ incurred_row Bpt address =
    instruction-row s pid p id l r ∙ ap (executed_row p l) effect ∙ faulted-row p l Bpt address in
    ap (λ (x : LwpTurn). seen new x.system) here.is
    ∙ ap (λ (x : Row). seen new (settled s pid p id l x).system) row
    ∙ settled-seen new s pid p id l (incurred_row Bpt address)
    ∙ ap (λ x. seen new (after_transition traced pid p id l x s)) (incurred-transition Bpt address)
    ∙ ap (seen new) (incurred-after s pid p id l Bpt address)
    ∙ fault-hidden covers s pid p id l true (moved traced (move.incurs Bpt address)) st
    (no_agent-keeps (covers pid) no_agent id)
    (ap erased_lwp (move-hidden Bpt address l r.in_program)
    ∙ ap (λ (b : Bool). erased_lwp (uncovered_lwp b l)) (sym no_fault))

-- ---- FLTTRACE on the way out of a call is the return

trapped-after : (s : TracedSystem) (pid : ℕ) (p : TracedProcess) (id : ℕ) (l : TracedLwp) (address : ℕ) (regs : List ℕ)
    (store : Option Store)
    → after_transition traced pid p id l (trapped Trace address p.space regs store) s
    ≡ with_lwp_of pid id (moved traced (move.traps Trace address regs))
    (all_changed traced pid p id l (stored_in p.space store) s)
unfolding after_transition trapped
trapped-after s pid p id l address regs store = refl

nothing-stored : (s : TracedSystem) (pid : ℕ) (p : TracedProcess) (id : ℕ) (l : TracedLwp)
    → all_changed traced pid p id l (stored_in p.space None) s ≡ s
unfolding all_changed stored_in
nothing-stored s pid p id l = refl

stepped-return : (p : TracedProcess) (l : TracedLwp) (call : Sysno) → l.control.step ≡ true
    → (returned_row p l call).transition ≡ trapped Trace (pc_of l.regs) p.space l.regs None
unfolding returned_row
stepped-return p l call marked = rw marked refl

out-of-call : (b : Bool) (l : TracedLwp) (call : Sysno) (args : List ℕ) (result : _)
    → l.phase ≡ Exiting call args result
    → erased_lwp (moved traced move.returns (uncovered_lwp false l)) ≡ erased_lwp (uncovered_lwp b l)
unfolding erased_lwp erased_phase erased_pending moved traced uncovered_lwp
out-of-call true l call args result is = rw is refl
out-of-call false l call args result is = rw is refl

pub stepped_return-hidden : (covers : Covers) (s : TracedSystem) (pid id : ℕ) (t : LwpTurn) (p : TracedProcess)
    (l : TracedLwp) (call : Sysno) → turn_of s pid id ≡ Some t → Stands s pid p id l → GoesBack p l call
    → l.control.step ≡ true → (covers pid).agent ≡ false
    → seen (with_cover pid (with_fault id true (covers pid)) covers) t.system ≡ seen covers s
stepped_return-hidden covers s pid id t p l call turn st r marked no_agent =
    let here = turn-here s pid id t p l st.live st.there turn in
    let new = with_cover pid (with_fault id true (covers pid)) covers in
    let to = with_lwp_of pid id (moved traced (move.traps Trace (pc_of l.regs) l.regs)) in
    ap (λ (x : LwpTurn). seen new x.system) here.is
    ∙ ap (λ (x : Row). seen new (settled s pid p id l x).system) (return-row s pid p id l call r)
    ∙ settled-seen new s pid p id l (returned_row p l call)
    ∙ ap (λ x. seen new (after_transition traced pid p id l x s)) (stepped-return p l call marked)
    ∙ ap (seen new) (trapped-after s pid p id l (pc_of l.regs) l.regs None)
    ∙ ap (λ x. seen new (to x)) (nothing-stored s pid p id l)
    ∙ fault-hidden covers s pid p id l true (moved traced (move.traps Trace (pc_of l.regs) l.regs)) st
    (no_agent-keeps (covers pid) no_agent id)
    (ap erased_lwp (return-hidden Trace (pc_of l.regs) l)
    ∙ out-of-call ((covers pid).faulted id) l call r.args r.result r.on_its_way)

-- ---- FLTTRACE after an instruction is that instruction

-- an lwp stands as it stood where the memory of its process was written
stands-space : (s : TracedSystem) (pid : ℕ) (p : TracedProcess) (id : ℕ) (l : TracedLwp) (space : Space)
    → Stands s pid p id l → Stands (with_process pid (with_space space) s) pid (with_space space p) id l
unfolding live_process with_process with_space
stands-space s pid p id l space st = record {
  live =
      ap (option_and_then if_live)
      (under-change_under pid (with_space space) s.processes
      ∙ ap (option_map (with_space space)) (live_process-found s pid p st.live))
      ∙ ap (λ b. cond b (Some (with_space space p)) None) (live_process-live s pid p st.live);
  there = st.there;
  processes = rises_from-change_under 0 pid (with_space space) s.processes ∙ st.processes;
  lwps = st.lwps;
}

stored-stands : (s : TracedSystem) (pid : ℕ) (p : TracedProcess) (id : ℕ) (l : TracedLwp) (store : Option Store)
    → Stands s pid p id l
    → (new : TracedProcess) × Stands (all_changed traced pid p id l (stored_in p.space store) s) pid new id l
unfolding all_changed changed stored_in
stored-stands s pid p id l None st = (p, st)
stored-stands s pid p id l (Some store) st = (
  with_space (with_bytes store.at store.bytes p.space) p,
  stands-space s pid p id l (with_bytes store.at store.bytes p.space) st,
)

stored-allowed : (covers : Covers) (s : TracedSystem) (pid : ℕ) (p : TracedProcess) (id : ℕ) (l : TracedLwp)
    (store : Option Store) → AllowsAll covers pid p id l (stored_in p.space store) s
unfolding stored_in
stored-allowed covers s pid p id l None = tt
stored-allowed covers s pid p id l (Some store) = (tt, tt)

stepped-row : (p : TracedProcess) (l : TracedLwp) (regs : List ℕ) (store : Option Store) → l.control.step ≡ true
    → (executed_row p l (runs regs store)).transition ≡ trapped Trace (pc_of regs) p.space regs store
unfolding executed_row ran_row
stepped-row p l regs store marked = rw marked refl

ran-after : (u : TracedSystem) (pid : ℕ) (q : TracedProcess) (id : ℕ) (m : TracedLwp) (regs : List ℕ)
    (store : Option Store)
    → after_transition traced pid q id m (ran q.space regs store) u
    ≡ with_lwp_of pid id (moved traced (move.runs regs)) (all_changed traced pid q id m (stored_in q.space store) u)
unfolding after_transition ran
ran-after u pid q id m regs store = refl

-- what a turn leaves is seen as what its transition leaves, where nothing is hidden
settled-erased : (s : TracedSystem) (pid : ℕ) (p : TracedProcess) (id : ℕ) (l : TracedLwp) (row : Row)
    → erased_system (settled s pid p id l row).system
    ≡ erased_system (after_transition traced pid p id l row.transition s)
unfolding settled
settled-erased s pid p id l row =
    let after = after_transition traced pid p id l row.transition s in
    let counted = with_process pid (with_counted row.did row.begun) after in
    same-system (with_process pid (after_meeting row.point id) counted) counted
    (with_process-hidden counted pid (after_meeting row.point id) (λ x. after_meeting-hidden row.point id x))
    ∙ same-system counted after
    (with_process-hidden after pid (with_counted row.did row.begun) (λ x. with_counted-hidden row.did row.begun x))

-- the same instruction without what is hidden, of an lwp without a step mark
beneath-row : (c : Cover) (p : TracedProcess) (l : TracedLwp) (regs : List ℕ) (store : Option Store)
    → executed_row (uncovered_process c p) (uncovered_lwp false l) (runs regs store)
    ≡ instruction_row Ran None (ran (uncovered_process c p).space regs store)
unfolding executed_row ran_row uncovered_lwp step_taken
beneath-row c p l regs store = refl

beneath-instruction : (c : Cover) (p : TracedProcess) (l : TracedLwp) → RunsInstruction p l
    → RunsInstruction (uncovered_process c p) (uncovered_lwp false l)
unfolding uncovered_process uncovered_lwp step_taken own_takeable shared_takeable
beneath-instruction c p l r = record {
  not_directed = r.not_directed;
  in_program = r.in_program;
  no_current = r.no_current;
  none_own = r.none_own;
  none_shared = r.none_shared;
}

beneath-effect : (c : Cover) (p : TracedProcess) (l : TracedLwp)
    → instruction_effect (uncovered_process c p).space
    (uncovered_process c p).control.areas (uncovered_lwp false l).regs
    ≡ instruction_effect (patched c.patches p.space) p.control.areas l.regs
unfolding uncovered_process uncovered_lwp
beneath-effect c p l = refl

beneath-space : (c : Cover) (p : TracedProcess) → (uncovered_process c p).space ≡ patched c.patches p.space
unfolding uncovered_process
beneath-space c p = refl

-- Both machines leave the same of an instruction over which a controller steps.
module _ (covers : Covers) (s : TracedSystem) (pid id : ℕ) (p : TracedProcess) (l : TracedLwp)
    (st : Stands s pid p id l) (no_agent : (covers pid).agent ≡ false)
    (no_fault : (covers pid).faulted id ≡ false) where
  abbrev new : Covers
  new = with_cover pid (with_fault id true (covers pid)) covers

  abbrev u : TracedSystem
  u = uncovered covers s

  abbrev q : TracedProcess
  q = uncovered_process (covers pid) p

  abbrev m : TracedLwp
  m = uncovered_lwp false l

  stored-beneath : AreWithin (covers pid).patches → (store : Option Store) → StoreSpares (covers pid).patches store
      → all_changed traced pid q id m (stored_in q.space store) u
      ≡ uncovered covers (all_changed traced pid p id l (stored_in p.space store) s)
  stored-beneath within store spares =
      ap (λ (sp : Space). all_changed traced pid q id m (stored_in sp store) u) (beneath-space (covers pid) p)
      ∙ ap (λ cs. all_changed traced pid q id m cs u) (stored-patched (covers pid).patches within p.space store spares)
      ∙ ap (λ (b : Bool). all_changed traced pid q id (uncovered_lwp b l)
      (patched_changes (covers pid).patches (stored_in p.space store)) u) (sym no_fault)
      ∙ sym (all_changed-uncovered covers pid p id l (stored_in p.space store) s
      (stored-allowed covers s pid p id l store))

  stepped-seen : (address : ℕ) (regs : List ℕ) (store : Option Store) → l.phase ≡ User
      → seen new
      (with_lwp_of pid id (moved traced (move.traps Trace address regs))
      (all_changed traced pid p id l (stored_in p.space store) s))
      ≡ erased_system
      (with_lwp_of pid id (moved traced (move.runs regs))
      (uncovered covers (all_changed traced pid p id l (stored_in p.space store) s)))
  stepped-seen address regs store user =
      let stored = stored-stands s pid p id l store st in
      fault-followed covers (all_changed traced pid p id l (stored_in p.space store) s) pid stored.0 id l true
      (moved traced (move.traps Trace address regs)) (moved traced (move.runs regs)) stored.1
      (no_agent-keeps (covers pid) no_agent id)
      (ap erased_lwp (step-hidden Trace address regs l user)
      ∙ ap (λ (b : Bool). erased_lwp (moved traced (move.runs regs) (uncovered_lwp b l))) (sym no_fault))

  step-left : (t : LwpTurn) (regs : List ℕ) (store : Option Store) → turn_of s pid id ≡ Some t → RunsInstruction p l
      → instruction_effect p.space p.control.areas l.regs ≡ runs regs store → l.control.step ≡ true
      → AreWithin (covers pid).patches → StoreSpares (covers pid).patches store
      → seen new t.system
      ≡ erased_system (settled u pid q id m (instruction_row Ran None (ran q.space regs store))).system
  step-left t regs store turn r effect marked within spares =
      let here = turn-here s pid id t p l st.live st.there turn in
      let row = instruction-row s pid p id l r ∙ ap (executed_row p l) effect in
      ap (λ (x : LwpTurn). seen new x.system) here.is
      ∙ ap (λ (x : Row). seen new (settled s pid p id l x).system) row
      ∙ settled-seen new s pid p id l (executed_row p l (runs regs store))
      ∙ ap (λ x. seen new (after_transition traced pid p id l x s)) (stepped-row p l regs store marked)
      ∙ ap (seen new) (trapped-after s pid p id l (pc_of regs) regs store)
      ∙ stepped-seen (pc_of regs) regs store r.in_program
      ∙ ap (λ x. erased_system (with_lwp_of pid id (moved traced (move.runs regs)) x))
      (sym (stored-beneath within store spares))
      ∙ sym (ap erased_system (ran-after u pid q id m regs store))
      ∙ sym (settled-erased u pid q id m (instruction_row Ran None (ran q.space regs store)))

  pub step-runs : (t : LwpTurn) (regs : List ℕ) (store : Option Store) → turn_of s pid id ≡ Some t → RunsInstruction p l
      → instruction_effect p.space p.control.areas l.regs ≡ runs regs store → l.control.step ≡ true
      → AreWithin (covers pid).patches → spares_instruction (covers pid).patches p.space l.regs ≡ true
      → IsUnhampered p id l → UntracedRun (seen covers s) (Exec pid id ∷ []) (seen new t.system)
  step-runs t regs store turn r effect marked within spared un =
      let here = turn-here s pid id t p l st.live st.there turn in
      let same = instruction-same (covers pid).patches p.space p.control.areas l.regs spared in
      let beneath = beneath-instruction (covers pid) p l r in
      let row : row_for u pid q id m ≡ instruction_row Ran None (ran q.space regs store) =
      instruction-row u pid q id m beneath
      ∙ ap (executed_row q m) (beneath-effect (covers pid) p l ∙ same.same ∙ effect)
      ∙ beneath-row (covers pid) p l regs store in
      let goes : may_go_on u pid q id m m.phase ≡ true = ap (may_go_on u pid q id m) beneath.in_program in
      let run = row-runs u pid q id m
      (λ directed. has-turn covers s pid p id l st.live st.there no_agent no_fault here.free un directed) goes false in
      subst (λ v. UntracedRun (seen covers s) (Exec pid id ∷ []) v)
      (sym (step-left t regs store turn r effect marked within
      (subst (EffectSpares (covers pid).patches) effect same.spares)))
      (subst (λ (x : Row). UntracedRun (erased_system u) (steps_of_turn false pid id x.did)
      (erased_system (settled u pid q id m x).system)) row run)

pub ruleset opens = (open-runs)

pub ruleset steps = (step-runs)

pub ruleset breakpoints = (breakpoint-hidden)
