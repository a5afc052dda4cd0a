use Rattle.std.proofs.Common.{◌≡◌, ◌≢◌, ◌&&◌, ◌||◌, ℕ, Bool, true, false, not, is_some, Option, Some, None, List, cond, refl, sym, subst, ◌∙◌, ap}
use Rattle.std.proofs.lemmas.Option.{same_Some}
use Rattle.std.specs.Option.{option_map}
use Rattle.pr_num.specs.declared.faults.Flt.TheVariants.{Trace}
use Rattle.pr_num.specs.declared.syscalls.Sysno.{Sysno}
use Rattle.pr_num.specs.declared.syscalls.Sysno.TheVariants as sys
use Rattle.pr_model.specs.CallEffects.{call_effect}
use Rattle.pr_model.specs.Changes.{Effect, Ending, all_changed, does, ends, is_over, sleeps}
use Rattle.pr_model.specs.LwpTurns.{LwpTurn, is_held_back, is_ready, may_go_on, may_turn, may_wake, settled, turn_of, with_counted}
use Rattle.pr_model.specs.Machines.{step_taken, traced}
use Rattle.pr_model.specs.Moves.{moved}
use Rattle.pr_model.specs.Points.{after_meeting, meets}
use Rattle.pr_model.specs.Rows.{Row, row_for}
use Rattle.pr_model.specs.Signals.{has_takeable, takeable}
use Rattle.pr_model.specs.State.{TracedLwp, TracedProcess, TracedSystem, live_process, lwp_of, with_lwp, with_lwp_of, with_process}
use Rattle.pr_model.specs.Transitions.{Transition, after_transition, ended_if}
use Rattle.pr_model.specs.declared.events.Did.TheVariants.{Faulted as DidFault}
use Rattle.pr_model.specs.declared.lwps.Phase.{Phase}
use Rattle.pr_model.specs.declared.lwps.Phase.TheVariants.{User, Entered, Asleep, Exiting, Faulted}
use Rattle.pr_model.proofs.TurnLemmas.{turn-taken}
use Rattle.pr_hidden.specs.Covers.{Cover, Covers, Patch, uncovered, uncovered_lwp, uncovered_process}
use Rattle.pr_hidden.specs.Following.{AllowsTransition, IsOpenTurn, SparesPatches, patched_effect, patched_row, patched_transition}
use Rattle.pr_hidden.specs.Sparing.{AreWithin, spares_call}
use Rattle.pr_hidden.proofs.Covers.CallCovers.{call-uncovered}
use Rattle.pr_hidden.proofs.Covers.ChangeCovers.{all_changed-uncovered, ended-beneath}
use Rattle.pr_hidden.proofs.Covers.MoveCovers.{moved-uncovered}
use Rattle.pr_hidden.proofs.Covers.PointCovers.{counted-uncovered, meeting-uncovered}
use Rattle.pr_hidden.proofs.Covers.RowCovers.{row-uncovered}
use Rattle.pr_hidden.proofs.Covers.StateCovers.{live-uncovered, lwp-uncovered, no_agent-keeps, with_lwp-uncovered, with_process-uncovered}

-- A turn without what is hidden: the same turn.

-- ---- a transition

pub transition-uncovered : (covers : Covers) (s : TracedSystem) (pid : ℕ) (p : TracedProcess) (id : ℕ) (l : TracedLwp)
    (t : Transition) → (covers pid).faulted id ≡ false → AllowsTransition covers pid p id l t s
    → uncovered covers (after_transition traced pid p id l t s)
    ≡ after_transition traced pid (uncovered_process (covers pid) p) id (uncovered_lwp ((covers pid).faulted id) l)
    (patched_transition (covers pid).patches t) (uncovered covers s)
unfolding after_transition with_lwp_of
transition-uncovered covers s pid p id l t none allows =
    let q = uncovered_process (covers pid) p in
    let m = uncovered_lwp ((covers pid).faulted id) l in
    let changed = all_changed traced pid p id l t.changes s in
    by t.ending refl (with_lwp_of pid id (moved traced t.move) changed)
    ∙ ap (ended_if traced pid q id m t.ending)
    (with_process-uncovered covers changed pid (with_lwp id (moved traced t.move)) (with_lwp id (moved traced t.move))
    (λ x. with_lwp-uncovered (covers pid) x id (moved traced t.move) (moved traced t.move) moves)
    ∙ ap (with_lwp_of pid id (moved traced t.move))
    (all_changed-uncovered covers pid p id l t.changes s allows.changes))
  where
    moves : (y : TracedLwp)
        → uncovered_lwp ((covers pid).faulted id) (moved traced t.move y)
        ≡ moved traced t.move (uncovered_lwp ((covers pid).faulted id) y)
    moves y = rw none (moved-uncovered t.move y)

    by : (o : Option Ending) → t.ending ≡ o → (to : TracedSystem)
        → uncovered covers (ended_if traced pid p id l o to)
        ≡ ended_if traced pid (uncovered_process (covers pid) p) id (uncovered_lwp ((covers pid).faulted id) l) o
        (uncovered covers to)
    by None is to = refl
    by (Some how) is to = ended-beneath covers pid p id l how to (allows.leaves how is)

-- ---- what a row makes of the system

pub settled-uncovered : (covers : Covers) (s : TracedSystem) (pid : ℕ) (p : TracedProcess) (id : ℕ) (l : TracedLwp)
    (row : Row) → (covers pid).faulted id ≡ false → AllowsTransition covers pid p id l row.transition s
    → settled (uncovered covers s) pid (uncovered_process (covers pid) p) id (uncovered_lwp false l)
    (patched_row (covers pid).patches row)
    ≡ record {
      system = uncovered covers (settled s pid p id l row).system;
      turned = (settled s pid p id l row).turned;
    }
unfolding settled uncovered_process
settled-uncovered covers s pid p id l row none allows =
    ap (λ (after : TracedSystem). turn (met (counts after)))
    (ap (λ (b : Bool). beneath b) (sym none)
    ∙ sym (transition-uncovered covers s pid p id l row.transition none allows))
    ∙ ap (λ (after : TracedSystem). turn (met after)) (sym
    (with_process-uncovered covers (after_transition traced pid p id l row.transition s) pid
    (with_counted row.did row.begun) (with_counted row.did row.begun)
    (λ x. counted-uncovered (covers pid) row.did row.begun x)))
    ∙ ap turn (sym
    (with_process-uncovered covers (counts (after_transition traced pid p id l row.transition s)) pid
    (after_meeting row.point id) (after_meeting row.point id) (λ x. meeting-uncovered (covers pid) row.point id x)))
  where
    beneath : Bool → TracedSystem
    beneath b = after_transition traced pid (uncovered_process (covers pid) p) id (uncovered_lwp b l)
        (patched_transition (covers pid).patches row.transition) (uncovered covers s)

    counts : TracedSystem → TracedSystem
    counts after = with_process pid (with_counted row.did row.begun) after

    met : TracedSystem → TracedSystem
    met after = with_process pid (after_meeting row.point id) after

    turn : TracedSystem → LwpTurn
    turn system = record { system = system; turned = record { did = row.did; stop = meets p.control row.point } }

-- ---- who may have a turn

over-patched : (ps : List Patch) (e : Effect) → is_over (patched_effect ps e) ≡ is_over e
over-patched ps (does result changes) = refl
over-patched ps sleeps = refl
over-patched ps (ends how) = refl

module _ (covers : Covers) (s : TracedSystem) (pid : ℕ) (p : TracedProcess) (id : ℕ) (l : TracedLwp) (c : Cover)
    (none : c.agent ≡ false) (within : AreWithin c.patches) where
  abbrev u : TracedSystem
  u = uncovered covers s

  abbrev q : TracedProcess
  q = uncovered_process c p

  abbrev m : TracedLwp
  m = uncovered_lwp false l

  over-same : (since : ℕ) (call : Sysno) (args : List ℕ) → spares_call c.patches p.space call args ≡ true
      → is_over (call_effect u pid q id m since call args) ≡ is_over (call_effect s pid p id l since call args)
  over-same since call args spared =
      ap is_over (call-uncovered covers s pid p id false l c none within since call args spared)
      ∙ over-patched c.patches (call_effect s pid p id l since call args)

  ready-same : (since : ℕ) (call : Sysno) (args : List ℕ) → spares_call c.patches p.space call args ≡ true
      → is_ready u pid q id m since call args ≡ is_ready s pid p id l since call args
  unfolding is_ready
  ready-same since sys.Read args spared = over-same since sys.Read args spared
  ready-same since sys.Write args spared = over-same since sys.Write args spared
  ready-same since sys.Wait args spared = over-same since sys.Wait args spared
  ready-same since sys.Pause args spared = refl
  ready-same since sys.Sleep args spared = over-same since sys.Sleep args spared
  ready-same since _ args spared = refl

  wakes-same : (since : ℕ) (call : Sysno) (args : List ℕ) → spares_call c.patches p.space call args ≡ true
      → may_wake u pid q id m since call args ≡ may_wake s pid p id l since call args
  unfolding may_wake takeable uncovered_process uncovered_lwp step_taken
  wakes-same since call args spared =
      ap (λ ready. l.control.directed || (is_some l.current || (has_takeable p l || (l.control.abort || ready))))
      (ready-same since call args spared)

  goes-same : SparesPatches c.patches p l → (phase : Phase) → l.phase ≡ phase
      → may_go_on u pid q id m phase ≡ may_go_on s pid p id l phase
  goes-same spares User is = refl
  goes-same spares (Entered call) is = refl
  goes-same spares (Asleep call args since) is = wakes-same since call args (spares.asleep call args since is)
  goes-same spares (Exiting call args result) is = refl
  goes-same spares (Faulted f address) is = refl

  phase-same : m.phase ≡ l.phase
  unfolding uncovered_lwp
  phase-same = refl

pub held-same : (c : Cover) (p : TracedProcess) (id : ℕ) (own : Bool) (l : TracedLwp)
    → is_held_back (uncovered_process c p) id (uncovered_lwp own l) ≡ is_held_back p id l
unfolding is_held_back uncovered_process uncovered_lwp step_taken
held-same c p id own l = refl

-- ---- a turn

-- what a turn is of the lwp that has it
pub record TurnHere (s : TracedSystem) (pid : ℕ) (p : TracedProcess) (id : ℕ) (l : TracedLwp)
    (t : LwpTurn) : Type 0 where
  pub free : is_held_back p id l ≡ false
  pub goes : may_go_on s pid p id l l.phase ≡ true
  pub is : t ≡ settled s pid p id l (row_for s pid p id l)

pub turn-here : (s : TracedSystem) (pid id : ℕ) (t : LwpTurn) (p : TracedProcess) (l : TracedLwp)
    → live_process s pid ≡ Some p → lwp_of p id ≡ Some l → turn_of s pid id ≡ Some t → TurnHere s pid p id l t
turn-here s pid id t p l live there turn =
    let taken = turn-taken s pid id t turn in
    let same : taken.process ≡ p = same_Some taken.process p (sym taken.live ∙ live) in
    let lwp : taken.lwp ≡ l = same_Some taken.lwp l (sym taken.there ∙ ap (λ q. lwp_of q id) same ∙ there) in
    subst (λ q. TurnHere s pid q id l t) same
    (subst (λ m. TurnHere s pid taken.process id m t) lwp
    (record { free = taken.free; goes = taken.goes; is = taken.is }))

-- a turn that an lwp may have is made
pub made-turn : (u : TracedSystem) (pid id : ℕ) (q : TracedProcess) (m : TracedLwp) → live_process u pid ≡ Some q
    → lwp_of q id ≡ Some m → is_held_back q id m ≡ false → may_go_on u pid q id m m.phase ≡ true
    → turn_of u pid id ≡ Some (settled u pid q id m (row_for u pid q id m))
unfolding turn_of may_turn
made-turn u pid id q m live there free goes = rw (live, there, free, goes) refl

-- an lwp stands without what is hidden
pub live-beneath : (covers : Covers) (s : TracedSystem) (pid : ℕ) (p : TracedProcess) → live_process s pid ≡ Some p
    → live_process (uncovered covers s) pid ≡ Some (uncovered_process (covers pid) p)
live-beneath covers s pid p live =
    live-uncovered covers s pid ∙ ap (option_map (uncovered_process (covers pid))) live

pub lwp-beneath : (c : Cover) (p : TracedProcess) (id : ℕ) (l : TracedLwp) → c.agent ≡ false → c.faulted id ≡ false
    → lwp_of p id ≡ Some l → lwp_of (uncovered_process c p) id ≡ Some (uncovered_lwp false l)
lwp-beneath c p id l no_agent no_fault there =
    lwp-uncovered c p id (no_agent-keeps c no_agent id) ∙ ap (option_map (uncovered_lwp (c.faulted id))) there
    ∙ ap (λ (b : Bool). Some (uncovered_lwp b l)) no_fault

-- the turn of an lwp, and what it leaves, without what is hidden
pub record TurnBeneath (covers : Covers) (s : TracedSystem) (pid : ℕ) (p : TracedProcess) (id : ℕ) (l : TracedLwp)
    (t : LwpTurn) : Type 0 where
  pub goes :
      may_go_on (uncovered covers s) pid (uncovered_process (covers pid) p) id (uncovered_lwp false l)
      (uncovered_lwp false l).phase ≡ true
  pub is :
      settled (uncovered covers s) pid (uncovered_process (covers pid) p) id (uncovered_lwp false l)
      (row_for (uncovered covers s) pid (uncovered_process (covers pid) p) id (uncovered_lwp false l))
      ≡ record { system = uncovered covers t.system; turned = t.turned }

pub turn-beneath : (covers : Covers) (s : TracedSystem) (pid : ℕ) (p : TracedProcess) (id : ℕ)
    (l : TracedLwp) (t : LwpTurn)
    → TurnHere s pid p id l t → IsOpenTurn covers s pid p id l → TurnBeneath covers s pid p id l t
turn-beneath covers s pid p id l t here it =
    let c = covers pid in
    let q = uncovered_process c p in
    let m = uncovered_lwp false l in
    let u = uncovered covers s in
    record {
      goes =
          ap (may_go_on u pid q id m) (phase-same covers s pid p id l c it.no_agent it.within)
          ∙ goes-same covers s pid p id l c it.no_agent it.within it.spares l.phase refl ∙ here.goes;
      is =
          ap (λ (r : Row). settled u pid q id m r)
          (row-uncovered covers s pid p id l c it.no_agent it.within it.spares it.not_stepped)
          ∙ settled-uncovered covers s pid p id l (row_for s pid p id l) it.no_fault it.allows
          ∙ ap (λ (x : LwpTurn).
          let r : LwpTurn = record { system = uncovered covers x.system; turned = x.turned } in r)
          (sym here.is);
    }

pub turn-uncovered : (covers : Covers) (s : TracedSystem) (pid id : ℕ) (t : LwpTurn) (p : TracedProcess) (l : TracedLwp)
    → turn_of s pid id ≡ Some t → live_process s pid ≡ Some p → lwp_of p id ≡ Some l → IsOpenTurn covers s pid p id l
    → turn_of (uncovered covers s) pid id ≡ Some (record { system = uncovered covers t.system; turned = t.turned })
turn-uncovered covers s pid id t p l turn live there it =
    let here = turn-here s pid id t p l live there turn in
    let beneath = turn-beneath covers s pid p id l t here it in
    made-turn (uncovered covers s) pid id (uncovered_process (covers pid) p) (uncovered_lwp false l)
    (live-beneath covers s pid p live) (lwp-beneath (covers pid) p id l it.no_agent it.no_fault there)
    (held-same (covers pid) p id false l ∙ here.free) beneath.goes
    ∙ ap (λ (x : LwpTurn). Some x) beneath.is

pub ruleset follows = (turn-uncovered)
