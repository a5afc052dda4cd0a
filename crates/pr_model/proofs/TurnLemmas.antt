use Rattle.std.proofs.Common.{◌≡◌, ℕ, Bool, true, false, cond, Option, Some, None, refl, sym}
use Rattle.std.proofs.lemmas.Bool.{and_parts, not-true}
use Rattle.std.proofs.lemmas.Option.{none-some, same_Some}
use Rattle.pr_model.specs.LwpTurns.{LwpTurn, is_held_back, may_go_on, may_turn, settled, turn_of, turn_of_lwp, turn_of_process}
use Rattle.pr_model.specs.Rows.{row_for}
use Rattle.pr_model.specs.State.{TracedLwp, TracedProcess, TracedSystem, live_process, lwp_of}

-- what a turn that an lwp takes is made of
pub record TakesTurn (s : TracedSystem) (pid id : ℕ) (t : LwpTurn) : Type 0 where
  pub process : TracedProcess
  pub lwp : TracedLwp
  pub live : live_process s pid ≡ Some process
  pub there : lwp_of process id ≡ Some lwp
  pub free : is_held_back process id lwp ≡ false
  pub goes : may_go_on s pid process id lwp lwp.phase ≡ true
  pub is : t ≡ settled s pid process id lwp (row_for s pid process id lwp)

pub turn-taken : (s : TracedSystem) (pid id : ℕ) (t : LwpTurn) → turn_of s pid id ≡ Some t → TakesTurn s pid id t
unfolding turn_of may_turn
turn-taken s pid id t turn = by_process (live_process s pid) refl turn
  where
    by_test : (p : TracedProcess) (l : TracedLwp) → live_process s pid ≡ Some p → lwp_of p id ≡ Some l → (b : Bool)
        → may_turn s pid p id l ≡ b → cond b (Some (settled s pid p id l (row_for s pid p id l))) None ≡ Some t
        → TakesTurn s pid id t
    by_test p l live there true may is = record {
      process = p;
      lwp = l;
      live = live;
      there = there;
      free = not-true _ (and_parts _ _ may).0;
      goes = (and_parts _ _ may).1;
      is = sym (same_Some _ _ is);
    }
    by_test p l live there false may is = absurd (none-some t is)

    by_lwp : (p : TracedProcess) → live_process s pid ≡ Some p → (o : Option TracedLwp) → lwp_of p id ≡ o
        → turn_of_lwp s pid id p o ≡ Some t → TakesTurn s pid id t
    by_lwp p live None there is = absurd (none-some t is)
    by_lwp p live (Some l) there is = by_test p l live there (may_turn s pid p id l) refl is

    by_process : (o : Option TracedProcess) → live_process s pid ≡ o → turn_of_process s pid id o ≡ Some t
        → TakesTurn s pid id t
    by_process None live is = absurd (none-some t is)
    by_process (Some p) live is = by_lwp p live (lwp_of p id) refl is
