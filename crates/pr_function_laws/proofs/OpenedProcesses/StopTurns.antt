use Rattle.std.proofs.Common.{[], ◌≡◌, ◌≢◌, ℕ, Bool, true, false, cond, None, Some, Option, List, ◌∷◌, refl, sym, subst, ap, ◌∙◌, inl, inr}
use Rattle.std.proofs.lemmas.Bool.{false≢true, cases_eq}
use Rattle.std.proofs.lemmas.Option.{same_Some, none-some}
use Rattle.std.specs.Option.{option_map}
use Rattle.pr_num.proofs.ByIdLaws.{under-change_under, under-change_under_other, under-map_each}
use Rattle.pr_num.specs.ById.{change_under, map_each, under}
use Rattle.pr_num.specs.Control.{async_mode, has_flags}
use Rattle.pr_num.specs.Spaces.{Space}
use Rattle.pr_lawful.proofs.ProcessParts.FileLemmas.{choice}
use Rattle.pr_num.specs.declared.faults.Flt.{Flt}
use Rattle.pr_num.specs.declared.faults.Flt.TheVariants.{Trace, Watch}
use Rattle.pr_num.specs.declared.syscalls.Sysno.{Sysno}
use Rattle.pr_keeps.proofs.RowLemmas.{row-kind}
use Rattle.pr_keeps.specs.RowKinds as kind
use Rattle.pr_keeps.specs.RowKinds.{RowKind}
use Rattle.pr_lawful.proofs.LawfulTurns.EffectLemmas.{IsActing}
use Rattle.pr_lawful.proofs.LawfulTurns.EndLemmas.{found-live}
use Rattle.pr_lawful.proofs.LawfulTurns.SuitingLemmas.{SuitsTransition}
use Rattle.pr_lawful.proofs.LawfulTurns.TurnLemmas.{acting, row-suits}
use Rattle.pr_model.proofs.TurnLemmas.{turn-taken}
use Rattle.pr_model.specs.Changes.{Change, changed, space_is, all_changed, Effect, Ending, does, ends, sleeps as effect_sleeps, with_space}
use Rattle.pr_model.specs.InstructionEffects.{InstructionEffect, Store, instruction_effect}
use Rattle.pr_model.specs.InstructionEffects as instruction
use Rattle.pr_model.specs.Lawful.{IsLawfulSystem}
use Rattle.pr_model.specs.LwpTurns.{LwpTurn, is_held_back, settled, turn_of, with_counted}
use Rattle.pr_model.specs.Machines.{call_over, fault_incurred, fault_posted, step_taken, stopped_as_directed, traced}
use Rattle.pr_model.specs.Moves.{Move, moved}
use Rattle.pr_model.specs.Moves as move
use Rattle.pr_model.specs.Points.{after_meeting, is_traced, stopped_at, with_others_directed, with_stop_at}
use Rattle.pr_model.specs.Rows.{Row, entered_row, executed_row, handler_row, incurred_row, interrupted_row, own_taken_row, performed_row, posted_row, ran_row, requested_row, returned_row, row_for, shared_taken_row, watched_row}
use Rattle.pr_model.specs.State.{TracedLwp, TracedProcess, TracedSystem, live_process, lwp_of, process_of, with_lwp, with_lwp_of, with_process}
use Rattle.pr_model.specs.Stops.{directed, has_event_stop, with_all_directed}
use Rattle.pr_model.specs.Transitions.{Transition, after_transition, ended_if, incurred, stored_in, trapped}
use Rattle.pr_model.specs.declared.lwps.Phase.TheVariants.{Faulted as AtFault}
use Rattle.pr_model.specs.declared.stops.Point.{Point}
use Rattle.pr_model.specs.declared.stops.Point.TheVariants.{Signal, Fault, Entry, Exit}
use Rattle.pr_model.specs.declared.stops.Stop.{Stop}
use Rattle.pr_model.specs.declared.stops.Stop.TheVariants as stop
use Rattle.pr_function_laws.proofs.OpenedProcesses.ComingLwps.{Came, Come, Leaves, acts, changes-go, counted-goes, kept, new}
use Rattle.pr_truss_laws.proofs.EventStops.BridgeLemmas.{mapped-some}
use Rattle.pr_truss_laws.proofs.EventStops.OwnTurnLemmas.{meeting-same}
use Rattle.pr_truss_laws.specs.Stills.{IsUndisturbed}
use Rattle.pr_model.specs.CallEffects.{call_effect}

-- An lwp that a fault stopped is at that fault, and has no signal to act on first. The turns of the lwps of its process
-- leave that so.

-- ---- as it stopped

pub record IsAtFault (l : TracedLwp) (f : Flt) : Type 0 where
  pub address : ℕ
  pub phase : l.phase ≡ AtFault f address
  pub no_current : l.current ≡ None

-- an lwp that a fault stopped, if one did, is at that fault
pub record IsAsStopped (l : TracedLwp) : Type 0 where
  pub at_fault : (f : Flt) → l.control.stop ≡ Some (stop.Faulted f) → IsAtFault l f

-- each lwp of a process is
abbrev pub AreAsStopped : TracedProcess → Type 0
AreAsStopped p = (n : ℕ) (l : TracedLwp) → lwp_of p n ≡ Some l → IsAsStopped l

pub stopless : (l : TracedLwp) → l.control.stop ≡ None → IsAsStopped l
stopless l none = record { at_fault = λ f is. absurd (none-some (stop.Faulted f) (sym none ∙ is)) }

pub unfaulted : (l : TracedLwp) (t : Stop) → l.control.stop ≡ Some t → ((f : Flt) → t ≢ stop.Faulted f) → IsAsStopped l
unfaulted l t is other =
    record { at_fault = λ f same. absurd (other f (same_Some t (stop.Faulted f) (sym is ∙ same))) }

pub same-stopped : (l k : TracedLwp) → k.control.stop ≡ l.control.stop → k.phase ≡ l.phase → k.current ≡ l.current
    → IsAsStopped l → IsAsStopped k
same-stopped l k stops phase current h = record {
  at_fault = λ f is.
      let w = h.at_fault f (sym stops ∙ is) in
      record { address = w.address; phase = phase ∙ w.phase; no_current = current ∙ w.no_current };
}

pub left-stopped : (f : TracedLwp → TracedLwp) → Leaves f → (l : TracedLwp) → IsAsStopped l → IsAsStopped (f l)
left-stopped f leaves l h = same-stopped l (f l) (leaves.stops l) (leaves.phase l) (leaves.current l) h

-- ---- a process

-- one lwp is changed, and each one is
pub one-stopped : (target : ℕ) (f : TracedLwp → TracedLwp) (x : TracedProcess)
    → ((l : TracedLwp) → lwp_of x target ≡ Some l → IsAsStopped l → IsAsStopped (f l)) → AreAsStopped x
    → AreAsStopped (with_lwp target f x)
unfolding with_lwp
one-stopped target f x keeps all n k there = elim (cases_eq target n) [
  | inl same ↦ own same
  | inr other ↦ all n k (sym (under-change_under_other target n f other x.lwps) ∙ there)
]
  where
    own : target ≡ n → IsAsStopped k
    own same =
        let m =
        mapped-some f (lwp_of x n) k (sym (under-change_under n f x.lwps)
        ∙ subst (λ i. under n (change_under i f x.lwps) ≡ Some k) same there) in
        subst IsAsStopped m.1.1
        (keeps m.0 (subst (λ i. lwp_of x i ≡ Some m.0) (sym same) m.1.0) (all n m.0 m.1.0))

pub each-stopped : (f : TracedLwp → TracedLwp) (x : TracedProcess)
    → ((l : TracedLwp) → IsAsStopped l → IsAsStopped (f l)) → AreAsStopped x
    → AreAsStopped (record x { lwps = map_each f x.lwps })
each-stopped f x keeps all n k there =
    let m = mapped-some f (lwp_of x n) k (sym (under-map_each n f x.lwps) ∙ there) in
    subst IsAsStopped m.1.1 (keeps m.0 (all n m.0 m.1.0))

-- others leave it alone
pub alone-stopped : (p q : TracedProcess) → IsUndisturbed p q → AreAsStopped p → AreAsStopped q
alone-stopped p q alone all n k there =
    let was = alone.each n k there in
    same-stopped was.0 k (ap (λ (x : TracedLwp). x.control.stop) was.1.1)
    (ap (λ (x : TracedLwp). x.phase) was.1.1) (ap (λ (x : TracedLwp). x.current) was.1.1) (all n was.0 was.1.0)

-- it is so of the lwps that came from there in the turn of an lwp that stood on no event
come-stopped : (id : ℕ) (l : TracedLwp) → l.control.stop ≡ None → (x y : TracedProcess) → Come id l x y
    → AreAsStopped x → AreAsStopped y
come-stopped id l none x y come all n k there = by (come n k there)
  where
    by : Came id l x n k → IsAsStopped k
    by (new stops phase) = stopless k stops
    by (kept m at stops phase current) = same-stopped m k stops phase current (all n m at)
    by (acts same stops phase) = stopless k (stops ∙ none)

-- after its move that one is as it stopped too
moved-stopped : (m : Move) (k : TracedLwp) → k.control.stop ≡ None → IsAsStopped (moved traced m k)
unfolding moved traced stopped_as_directed fault_incurred fault_posted step_taken call_over
moved-stopped move.stops k free = unfaulted (moved traced move.stops k) stop.Requested refl (λ f is. cc)
moved-stopped _ k free = stopless _ free

-- ---- the point that was met

pub directed-leaves : Leaves directed
unfolding directed
directed-leaves = record {
  stops = λ l. elim (has_event_stop l) as
      (λ b. (cond b l (record l { control = record l.control { directed = true } })).control.stop ≡ l.control.stop)
      [ true ↦ refl | false ↦ refl ];
  phase = λ l. elim (has_event_stop l) as
      (λ b. (cond b l (record l { control = record l.control { directed = true } })).phase ≡ l.phase)
      [ true ↦ refl | false ↦ refl ];
  current = λ l. elim (has_event_stop l) as
      (λ b. (cond b l (record l { control = record l.control { directed = true } })).current ≡ l.current)
      [ true ↦ refl | false ↦ refl ];
}

pub all-directed-stopped : (x : TracedProcess) → AreAsStopped x → AreAsStopped (with_all_directed x)
unfolding with_all_directed
all-directed-stopped x all = each-stopped directed x (λ l it. left-stopped directed directed-leaves l it) all

-- the lwp that met a fault is at it
abbrev MeetsFault : Option Point → TracedLwp → Type 0
MeetsFault point k = (f : Flt) → point ≡ Some (Fault f) → IsAtFault k f

met-stopped : (pt : Point) (k : TracedLwp) → MeetsFault (Some pt) k → IsAsStopped (stopped_at pt k)
unfolding stopped_at
met-stopped (Signal g) k meets = unfaulted (stopped_at (Signal g) k) (stop.Signalled g) refl (λ f is. cc)
met-stopped (Entry c) k meets = unfaulted (stopped_at (Entry c) k) (stop.SysEntry c) refl (λ f is. cc)
met-stopped (Exit c) k meets = unfaulted (stopped_at (Exit c) k) (stop.SysExit c) refl (λ f is. cc)
met-stopped (Fault g) k meets = record {
  at_fault = λ f is.
      let w = meets f (ap (λ (x : Flt). Some (Fault x)) (fault-same g f (same_Some (stop.Faulted g) (stop.Faulted f)
      is)))
      in record { address = w.address; phase = w.phase; no_current = w.no_current };
}
  where
    fault-same : (g f : Flt) → stop.Faulted g ≡ stop.Faulted f → g ≡ f
    fault-same g f is = cc

meeting-stopped : (point : Option Point) (id : ℕ) (x : TracedProcess)
    → ((k : TracedLwp) → lwp_of x id ≡ Some k → MeetsFault point k) → AreAsStopped x
    → AreAsStopped (after_meeting point id x)
unfolding after_meeting with_stop_at with_others_directed
meeting-stopped None id x meets all = all
meeting-stopped (Some pt) id x meets all =
    let stopped : TracedProcess = with_lwp id (stopped_at pt) x in
    let own : AreAsStopped stopped =
    one-stopped id (stopped_at pt) x (λ l there it. met-stopped pt l (meets l there)) all in
    choice AreAsStopped (is_traced x.control pt) _ _
    (λ traces. choice AreAsStopped (has_flags stopped.control.modes async_mode) _ _ (λ alone. own)
    (λ directs. all-directed-stopped stopped own)) (λ passes. all)

-- ---- rows

-- what is changed before the move is the memory at most
pub data StoresOnly (cs : List Change) : Type 0 where
  no_change : cs ≡ [] → StoresOnly cs
  one_store : (space : Space) → cs ≡ space_is space ∷ [] → StoresOnly cs

-- A row meets no fault; or its lwp has no current signal, and is at that fault after its move.
pub data FaultsSo (l : TracedLwp) (row : Row) : Type 0 where
  no_fault : ((f : Flt) → row.point ≢ Some (Fault f)) → FaultsSo l row
  faults : (g : Flt) → row.point ≡ Some (Fault g) → l.current ≡ None → row.transition.ending ≡ None
      → StoresOnly row.transition.changes → IsAtFault (moved traced row.transition.move l) g → FaultsSo l row

quiet-so : (l : TracedLwp) (row : Row) → row.point ≡ None → FaultsSo l row
quiet-so l row none = no_fault (λ f is. none-some (Fault f) (sym none ∙ is))

stored-only : (space : Space) (store : Option Store) → StoresOnly (stored_in space store)
unfolding stored_in
stored-only space None = no_change refl
stored-only space (Some store) = one_store _ refl

module _ (s : TracedSystem) (pid : ℕ) (p : TracedProcess) (id : ℕ) (l : TracedLwp) where
  taken-so : (point : Point) (row : Row) → row.point ≡ Some point → ((f : Flt) → point ≢ Fault f) → FaultsSo l row
  taken-so point row is other =
      no_fault (λ f same. other f (same_Some point (Fault f) (sym is ∙ same)))

  performed-so : (woken : Bool) (call : Sysno) (args : List ℕ) (since : ℕ) (effect : Effect)
      → FaultsSo l (performed_row woken call args since effect)
  unfolding performed_row
  performed-so woken call args since (does result changes) = taken-so (Exit call) _ refl (λ f is. cc)
  performed-so woken call args since effect_sleeps = quiet-so l _ refl
  performed-so woken call args since (ends how) = quiet-so l _ refl

  trapped-so : (g : Flt) (address : ℕ) (space : Space) (regs : List ℕ) (store : Option Store) (row : Row)
      → row.point ≡ Some (Fault g) → row.transition ≡ trapped g address space regs store → l.current ≡ None
      → FaultsSo l row
  unfolding trapped moved traced step_taken fault_incurred
  trapped-so g address space regs store row is same none =
      faults g is none (ap (λ (t : Transition). t.ending) same)
      (subst (λ (t : Transition). StoresOnly t.changes) (sym same) (stored-only space store))
      (subst (λ (t : Transition). IsAtFault (moved traced t.move l) g) (sym same)
      (record { address = address; phase = refl; no_current = none }))

  executed-so : (e : InstructionEffect) → l.current ≡ None → FaultsSo l (executed_row p l e)
  unfolding executed_row ran_row entered_row incurred_row watched_row incurred moved traced fault_incurred
  executed-so (instruction.runs regs store) none =
      choice (FaultsSo l) l.control.step _ _
      (λ marked. trapped-so Trace _ p.space regs store _ refl refl none) (λ plain. quiet-so l _ refl)
  executed-so (instruction.calls call regs) none = taken-so (Entry call) _ refl (λ f is. cc)
  executed-so (instruction.faults g address) none =
      faults g refl none refl (no_change refl) (record { address = address; phase = refl; no_current = none })
  executed-so (instruction.runs_into_watch address regs store) none =
      trapped-so Watch address p.space regs store _ refl refl none

  returned-so : (call : Sysno) → l.current ≡ None → FaultsSo l (returned_row p l call)
  unfolding returned_row
  returned-so call none =
      choice (FaultsSo l) l.control.step _ _
      (λ marked. trapped-so Trace _ p.space l.regs None _ refl refl none) (λ plain. quiet-so l _ refl)

  pub kind-so : (row : Row) → RowKind s pid p id l row → FaultsSo l row
  unfolding requested_row posted_row handler_row own_taken_row shared_taken_row interrupted_row
  kind-so row (kind.takes_own {g = g} none is) = taken-so (Signal g) _ refl (λ f same. cc)
  kind-so row (kind.takes_shared {g = g} none own is) = taken-so (Signal g) _ refl (λ f same. cc)
  kind-so row (kind.interrupts {call = call} it why) = taken-so (Exit call) _ refl (λ f same. cc)
  kind-so row (kind.performs {woken = woken} {call = call} {args = args} {since = since} it goes none) =
      performed-so woken call args since (call_effect s pid p id l since call args)
  kind-so row (kind.returns {call = call} at none) = returned-so call none
  kind-so row (kind.executes at none) = executed-so (instruction_effect p.space p.control.areas l.regs) none
  kind-so row _ = quiet-so l _ refl

-- ---- a turn

pub free-stopless : (p : TracedProcess) (id : ℕ) (l : TracedLwp) → is_held_back p id l ≡ false → l.control.stop ≡ None
unfolding is_held_back
free-stopless p id l free = by l.control.stop refl
  where
    by : (o : Option Stop) → l.control.stop ≡ o → o ≡ None
    by None is = refl
    by (Some t) is = absurd (false≢true (sym free ∙ rw is refl))

module _ (s : TracedSystem) (pid : ℕ) (p : TracedProcess) (id : ℕ) (l : TracedLwp) (a : IsActing s pid p id l)
    (none : l.control.stop ≡ None) (row : Row) (suits : SuitsTransition s pid p id l row.transition) where
  abbrev pub changes : TracedSystem
  changes = all_changed traced pid p id l row.transition.changes s

  abbrev pub moves : TracedSystem
  moves = with_process pid (with_lwp id (moved traced row.transition.move)) changes

  abbrev pub counts : TracedSystem
  counts =
      with_process pid (with_counted row.did row.begun) (ended_if traced pid p id l row.transition.ending moves)

  counted-stopped : AreAsStopped p → (x : TracedProcess) → process_of counts pid ≡ Some x → x.ended ≡ None
      → AreAsStopped x
  unfolding with_process with_lwp
  counted-stopped all x found live =
      let two = counted-goes id l pid p row s a.lawful suits in
      let later = two.from x found live in
      let m =
      mapped-some (with_lwp id (moved traced row.transition.move)) (process_of changes pid) later.0
      (sym (under-change_under pid (with_lwp id (moved traced row.transition.move)) changes.processes) ∙ later.1.0) in
      let one = changes-go id l pid p row.transition.changes s in
      let was = one.from m.0 m.1.0 (ap (λ (y : TracedProcess). y.ended) m.1.1 ∙ later.1.1.0) in
      let came : Come id l p m.0 =
      subst (λ (y : TracedProcess). Come id l y m.0) (same_Some was.0 p (sym was.1.0 ∙ a.found)) was.1.1.1 in
      come-stopped id l none later.0 x later.1.1.1
      (subst AreAsStopped m.1.1
      (one-stopped id (moved traced row.transition.move) m.0
      (λ k there it. moved-stopped row.transition.move k (own-stopless k (came id k there)))
      (come-stopped id l none p m.0 came all)))
    where
      -- the lwp stands on no event before its move
      own-stopless : (k : TracedLwp) → Came id l p id k → k.control.stop ≡ None
      own-stopless k (new stops phase) = stops
      own-stopless k (acts same stops phase) = stops ∙ none
      own-stopless k (kept m at stops phase current) =
          stops ∙ ap (λ (y : TracedLwp). y.control.stop) (same_Some m l (sym at ∙ a.there)) ∙ none

  -- the lwp as it was, after what its turn stores
  stored-there : (cs : List Change) → StoresOnly cs → (x : TracedProcess)
      → process_of (all_changed traced pid p id l cs s) pid ≡ Some x → lwp_of x id ≡ Some l
  unfolding all_changed changed with_space with_process
  stored-there cs (no_change is) x found =
      let same : process_of s pid ≡ Some x =
      subst (λ ds. process_of (all_changed traced pid p id l ds s) pid ≡ Some x) is found in
      subst (λ (y : TracedProcess). lwp_of y id ≡ Some l) (same_Some p x (sym a.found ∙ same)) a.there
  stored-there cs (one_store space is) x found =
      let stored : process_of (with_process pid (with_space space) s) pid ≡ Some x =
      subst (λ ds. process_of (all_changed traced pid p id l ds s) pid ≡ Some x) is found in
      let m =
      mapped-some (with_space space) (process_of s pid) x
      (sym (under-change_under pid (with_space space) s.processes) ∙ stored) in
      let same : p ≡ m.0 = same_Some p m.0 (sym a.found ∙ m.1.0) in
      subst (λ (y : TracedProcess). lwp_of y id ≡ Some l) m.1.1
      (subst (λ (y : TracedProcess). lwp_of y id ≡ Some l) same a.there)

  -- nothing was lent there
  stored-loan : (cs : List Change) → StoresOnly cs → (x : TracedProcess)
      → process_of (all_changed traced pid p id l cs s) pid ≡ Some x → x.borrower ≡ p.borrower
  unfolding all_changed changed with_space with_process
  stored-loan cs (no_change is) x found =
      let same : process_of s pid ≡ Some x =
      subst (λ ds. process_of (all_changed traced pid p id l ds s) pid ≡ Some x) is found in
      ap (λ (y : TracedProcess). y.borrower) (sym (same_Some p x (sym a.found ∙ same)))
  stored-loan cs (one_store space is) x found =
      let stored : process_of (with_process pid (with_space space) s) pid ≡ Some x =
      subst (λ ds. process_of (all_changed traced pid p id l ds s) pid ≡ Some x) is found in
      let m =
      mapped-some (with_space space) (process_of s pid) x
      (sym (under-change_under pid (with_space space) s.processes) ∙ stored) in
      ap (λ (y : TracedProcess). y.borrower) (sym m.1.1)
      ∙ ap (λ (y : TracedProcess). y.borrower) (sym (same_Some p m.0 (sym a.found ∙ m.1.0)))

  -- where it met a fault, the lwp is what its move made of it
  pub record IsMoved (x : TracedProcess) : Type 0 where
    pub own : lwp_of x id ≡ Some (moved traced row.transition.move l)
    pub loan : x.borrower ≡ p.borrower

  pub counted-moved : FaultsSo l row → (x : TracedProcess) → process_of counts pid ≡ Some x → (f : Flt)
      → row.point ≡ Some (Fault f) → IsMoved x
  unfolding with_process with_lwp with_counted
  counted-moved (no_fault other) x found f is = absurd (other f is)
  counted-moved (faults g met current goes_on stores at) x found f is =
      let kept : process_of (with_process pid (with_counted row.did row.begun) moves) pid ≡ Some x =
      subst (λ (o : Option Ending). process_of
      (with_process pid (with_counted row.did row.begun) (ended_if traced pid p id l o moves)) pid ≡ Some x) goes_on
      found in
      let one =
      mapped-some (with_counted row.did row.begun) (process_of moves pid) x
      (sym (under-change_under pid (with_counted row.did row.begun) moves.processes) ∙ kept) in
      let two =
      mapped-some (with_lwp id (moved traced row.transition.move)) (process_of changes pid) one.0
      (sym (under-change_under pid (with_lwp id (moved traced row.transition.move)) changes.processes) ∙ one.1.0) in
      let own : lwp_of two.0 id ≡ Some l = stored-there row.transition.changes stores two.0 two.1.0 in
      record {
        own = ap (λ (y : TracedProcess). lwp_of y id) (sym one.1.1)
            ∙ ap (λ (y : TracedProcess). lwp_of y id) (sym two.1.1)
            ∙ under-change_under id (moved traced row.transition.move) two.0.lwps
            ∙ ap (option_map (moved traced row.transition.move)) own;
        loan = ap (λ (y : TracedProcess). y.borrower) (sym one.1.1)
            ∙ ap (λ (y : TracedProcess). y.borrower) (sym two.1.1)
            ∙ stored-loan row.transition.changes stores two.0 two.1.0;
      }

  counted-meets : FaultsSo l row → (x : TracedProcess) → process_of counts pid ≡ Some x → (k : TracedLwp)
      → lwp_of x id ≡ Some k → MeetsFault row.point k
  counted-meets (no_fault other) x found k there f is = absurd (other f is)
  counted-meets (faults g met current goes_on stores at) x found k there f is =
      let it = counted-moved (faults g met current goes_on stores at) x found f is in
      let same : moved traced row.transition.move l ≡ k =
      same_Some (moved traced row.transition.move l) k (sym it.own ∙ there) in
      let which : g ≡ f = point-fault g f (same_Some (Fault g) (Fault f) (sym met ∙ is)) in
      subst (λ (y : TracedLwp). IsAtFault y f) same
      (subst (λ (h : Flt). IsAtFault (moved traced row.transition.move l) h) which at)
    where
      point-fault : (g f : Flt) → Fault g ≡ Fault f → g ≡ f
      point-fault g f same = cc

  row-stopped : FaultsSo l row → (q : TracedProcess)
      → process_of (with_process pid (after_meeting row.point id) counts) pid ≡ Some q → q.ended ≡ None
      → AreAsStopped p → AreAsStopped q
  unfolding with_process
  row-stopped so q found live all =
      let m =
      mapped-some (after_meeting row.point id) (process_of counts pid) q
      (sym (under-change_under pid (after_meeting row.point id) counts.processes) ∙ found) in
      let still : m.0.ended ≡ None =
      sym (meeting-same (λ (y : TracedProcess). y.ended) (λ y es. refl) row.point id m.0)
      ∙ ap (λ (y : TracedProcess). y.ended) m.1.1 ∙ live in
      subst AreAsStopped m.1.1
      (meeting-stopped row.point id m.0 (counted-meets so m.0 m.1.0) (counted-stopped all m.0 m.1.0 still))

-- A turn of an lwp of a process leaves the lwps as they stopped.
pub turn-stopped : (s : TracedSystem) (pid : ℕ) (p : TracedProcess) (id : ℕ) (t : LwpTurn) → IsLawfulSystem s
    → live_process s pid ≡ Some p → turn_of s pid id ≡ Some t → (q : TracedProcess)
    → live_process t.system pid ≡ Some q → AreAsStopped p → AreAsStopped q
unfolding settled after_transition with_lwp_of
turn-stopped s pid p id t h live turn q later all =
    let it = turn-taken s pid id t turn in
    let same : it.process ≡ p = same_Some it.process p (sym it.live ∙ live) in
    let a = acting s pid id it.process it.lwp h it.live it.there in
    let row : Row = row_for s pid it.process id it.lwp in
    let found = found-live t.system pid q later in
    row-stopped s pid it.process id it.lwp a (free-stopless it.process id it.lwp it.free) row
    (row-suits s pid it.process id it.lwp a)
    (kind-so s pid it.process id it.lwp row (row-kind s pid it.process id it.lwp)) q
    (ap (λ (v : LwpTurn). process_of v.system pid) (sym it.is) ∙ found.0) found.1
    (subst AreAsStopped (sym same) all)
