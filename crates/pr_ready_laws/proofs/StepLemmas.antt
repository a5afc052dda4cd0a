use Rattle.std.proofs.Common.{◌≡◌, ◌≢◌, ◌⊎◌, ◌+◌, ℕ, Bool, true, false, eqb, Option, Some, None, refl, subst}
use Rattle.std.proofs.lemmas.Bool.{false≢true}
use Rattle.pr_num.proofs.BoolLemmas.{or_false}
use Rattle.pr_model.specs.Calls.{Answer, answer_to}
use Rattle.pr_model.specs.Lawful.{IsLawful, IsLawfulSystem}
use Rattle.pr_model.specs.Legal.{ticked}
use Rattle.pr_model.specs.LwpTurns.{LwpTurn, can_move, may_turn_in, may_turn_of, turn_of}
use Rattle.pr_model.specs.State.{TracedLwp, TracedProcess, TracedState, TracedSystem, live_process, lwp_of}
use Rattle.pr_model.specs.declared.calls.Call.{Call}
use Rattle.pr_lawful.proofs.LawfulStates.CallLemmas.{call-state}
use Rattle.pr_lawful.proofs.LawfulTurns.TurnLemmas.{acting as acting_in, turn-lawful}
use Rattle.pr_ready_laws.specs.Left.{HasLwp, IsLeft, waits}
use Rattle.pr_ready_laws.specs.Reach.{changes_files, itself, reach_of, to_pipes}
use Rattle.pr_ready_laws.specs.Touched.{call_changes_files, call_touches, turn_touches}
use Rattle.pr_ready_laws.proofs.CallLemmas.{call-leaves, tick-leaves}
use Rattle.pr_ready_laws.proofs.MoveLemmas.{moves-before}
use Rattle.pr_ready_laws.proofs.TurnLemmas.{turn-leaves}

-- Which lwps come to move by a step.

-- an lwp that can move is one of a live process
pub mover : (s : TracedSystem) (pid id : ℕ) → can_move s pid id ≡ true → HasLwp (λ ph. true) s pid id
unfolding can_move
mover s pid id can = by (live_process s pid) refl can
  where
    by_lwp : (p : TracedProcess) → live_process s pid ≡ Some p → (o : Option TracedLwp) → lwp_of p id ≡ o
        → may_turn_in s pid id p o ≡ true → HasLwp (λ ph. true) s pid id
    by_lwp p live None none may = absurd (false≢true may)
    by_lwp p live (Some l) there may =
        record { process = p; lwp = l; live = live; there = there; kind = refl }

    by : (o : Option TracedProcess) → live_process s pid ≡ o → may_turn_of s pid id o ≡ true
        → HasLwp (λ ph. true) s pid id
    by None none may = absurd (false≢true may)
    by (Some p) live may = by_lwp p live (lwp_of p id) refl may

-- and so not of the system process
pub mover-user : (s : TracedSystem) (pid id : ℕ) → IsLawfulSystem s → can_move s pid id ≡ true → pid ≢ 0
mover-user s pid id h can =
    let it = mover s pid id can in
    (acting_in s pid id it.process it.lwp h it.live it.there).user

-- where the clock stands
moves-still : (pid : ℕ) (files : Bool) (s u : TracedSystem) → IsLeft pid files false s u → (id : ℕ)
    → can_move u pid id ≡ true → (can_move s pid id ≡ true) ⊎ HasLwp (waits files s.clock s.clock) s pid id
moves-still pid files s u left id can =
    subst (λ n. (can_move s pid id ≡ true) ⊎ HasLwp (waits files s.clock n) s pid id) (left.same_clock refl)
    (moves-before pid files false s u left id can)

module _ (s : TracedSystem) (pid acting id other : ℕ) (t : LwpTurn) (p : TracedProcess) (l : TracedLwp)
    (h : IsLawfulSystem s) where
  pub turn-lets : turn_of s acting id ≡ Some t → live_process s acting ≡ Some p → lwp_of p id ≡ Some l
      → turn_touches s acting p l (reach_of t.turned.did) pid ≡ false → can_move t.system pid other ≡ true
      → (can_move s pid other ≡ true)
      ⊎ HasLwp (waits (changes_files (reach_of t.turned.did)) s.clock s.clock) s pid other
  turn-lets turn live there apart can =
      let user = mover-user t.system pid other (turn-lawful s acting id t h turn) can in
      let left = turn-leaves s pid acting id t p l h user turn live there apart in
      moves-still pid (changes_files (reach_of t.turned.did)) s t.system left other can

pub call-lets : (s : TracedState) (pid by id : ℕ) (c : Call) (a : Answer) → IsLawful s → answer_to s by c ≡ Some a
    → call_touches s by c pid ≡ false → can_move a.state.system pid id ≡ true
    → (can_move s.system pid id ≡ true)
    ⊎ HasLwp (waits (call_changes_files c) s.system.clock s.system.clock) s.system pid id
call-lets s pid by id c a h is apart can =
    let user = mover-user a.state.system pid id (call-state s h by c a is).system can in
    moves-still pid (call_changes_files c) s.system a.state.system (call-leaves s pid by c a user is apart) id can

pub tick-lets : (s : TracedSystem) (pid id : ℕ) → can_move (ticked s) pid id ≡ true
    → (can_move s pid id ≡ true) ⊎ HasLwp (waits false s.clock (s.clock + 1)) s pid id
tick-lets s pid id can = moves-before pid false true s (ticked s) (tick-leaves pid s) id can

pub alone-touches : (s : TracedSystem) (pid other : ℕ) (p : TracedProcess) (l : TracedLwp)
    → turn_touches s pid p l itself other ≡ eqb pid other
unfolding turn_touches
alone-touches s pid other p l = or_false (eqb pid other)

pub pipes-touch : (s : TracedSystem) (pid other : ℕ) (p : TracedProcess) (l : TracedLwp)
    → turn_touches s pid p l to_pipes other ≡ eqb pid other
unfolding turn_touches
pipes-touch s pid other p l = or_false (eqb pid other)
