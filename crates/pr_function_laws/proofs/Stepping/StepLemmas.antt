use Rattle.std.proofs.Common.{◌≡◌, ◌≢◌, ◌==◌, ◌||◌, ◌+◌, ℕ, Bool, true, false, cond, None, Some, Option, refl, sym, subst, ap, ◌∙◌, inl, inr}
use Rattle.std.proofs.lemmas.Bool.{cases_Bool, eqb-true, eqb-false}
use Rattle.std.proofs.lemmas.Option.{same_Some, none-some}
use Rattle.std.specs.Option.{option_map}
use Rattle.pr_num.proofs.ByIdLaws.{under-change_under, under-change_under_other}
use Rattle.pr_num.specs.ById.{IsRising, change_under, under}
use Rattle.pr_num.specs.Control.{clear_fault, has_flags, single_step, stop_again}
use Rattle.pr_num.specs.Sets.{common_word}
use Rattle.pr_num.specs.declared.faults.Flt.{Flt}
use Rattle.pr_laws.proofs.RunLemmas.{representative-stands}
use Rattle.pr_model.specs.LwpTurns.{LwpTurn, is_held_back, turn_of, settled, with_counted}
use Rattle.pr_model.specs.Machines.{stopped_as_directed}
use Rattle.pr_model.specs.Rows.{requested_row, row_for}
use Rattle.pr_model.specs.Running.{let_go, run_lwp, with_all_run, with_cleared, with_aborted, with_one_run, with_run, with_step, without_fault}
use Rattle.pr_model.specs.State.{TracedLwp, TracedProcess, TracedSystem, live_process, lwp_of, with_lwp}
use Rattle.pr_model.specs.Stops.{has_event_stop, representative}
use Rattle.pr_model.specs.declared.events.Did.TheVariants.{Stopped}
use Rattle.pr_model.specs.declared.lwps.Phase.{Phase}
use Rattle.pr_model.specs.declared.lwps.Phase.TheVariants.{User, Faulted}
use Rattle.pr_model.proofs.TurnLemmas.{turn-taken}
use Rattle.pr_truss_laws.proofs.Machine.StillLemmas.{row-directed, stop-settled, stopped-live}
use Rattle.pr_truss_laws.specs.Stills.{IsHalting, IsUndisturbed, stands_still, stopped_lwp, will_stop, with_lwp_stopped}
use Rattle.pr_function_laws.specs.Steps.{IsStepped}

-- An lwp is stepped alone: PCRUN begins it, and the other lwps only stop meanwhile.

-- ---- PCRUN with PRSTEP

either-way : (a b : Bool) → a ≡ true → (a || b) ≡ true
either-way true b is = refl
either-way false b is = cc

pub one-run : (p : TracedProcess) (id flags : ℕ) (l : TracedLwp) → representative p ≡ Some (id, l)
    → has_flags flags single_step ≡ true → with_run flags p ≡ with_lwp id (run_lwp flags) p
unfolding with_run
one-run p id flags l leads steps =
    ap (λ b. cond b (with_one_run flags (representative p) p) (with_all_run flags p))
    (either-way (has_flags flags single_step) (has_flags flags stop_again) steps)
    ∙ ap (λ o. with_one_run flags o p) leads

-- what the flags PRCFAULT and PRSTEP make of an lwp at a fault
abbrev flags_of_step : ℕ
flags_of_step = clear_fault + single_step

abbrev stepped_lwp : TracedLwp → TracedLwp
stepped_lwp l = run_lwp flags_of_step l

stepped-is : (l : TracedLwp) → stepped_lwp l ≡ with_step (without_fault (let_go l))
unfolding run_lwp with_cleared with_aborted with_step without_fault let_go has_flags common_word
stepped-is l = refl

stepped-phase : (l : TracedLwp) (f : Flt) (address : ℕ) → l.phase ≡ Faulted f address → (stepped_lwp l).phase ≡ User
unfolding with_step without_fault let_go
stepped-phase l f address at =
    ap (λ (k : TracedLwp). k.phase) (stepped-is l)
    ∙ ap (λ (ph : Phase). (without_fault (record (let_go l) { phase = ph })).phase) at

stepped-mark : (l : TracedLwp) → (stepped_lwp l).control.step ≡ true
unfolding with_step without_fault let_go
stepped-mark l = ap (λ (k : TracedLwp). k.control.step) (stepped-is l)

stepped-goes : (l : TracedLwp) → (stepped_lwp l).control.directed ≡ false
unfolding with_step without_fault let_go
stepped-goes l = ap (λ (k : TracedLwp). k.control.directed) (stepped-is l)

stepped-current : (l : TracedLwp) → (stepped_lwp l).current ≡ l.current
unfolding with_step without_fault let_go
stepped-current l = ap (λ (k : TracedLwp). k.current) (stepped-is l)

pub step-begun : (p : TracedProcess) (id : ℕ) (l : TracedLwp) (f : Flt) (address : ℕ) → IsRising p.lwps
    → representative p ≡ Some (id, l) → l.phase ≡ Faulted f address → l.current ≡ None → IsHalting p
    → IsStepped (with_run (clear_fault + single_step) p) id (run_lwp (clear_fault + single_step) l)
unfolding with_lwp has_flags common_word
step-begun p id l f address rises leads at none halting =
    subst (λ (q : TracedProcess). IsStepped q id (stepped_lwp l)) (sym (one-run p id flags_of_step l leads steps))
    (record {
      there = under-change_under id stepped_lwp p.lwps
          ∙ ap (option_map stepped_lwp) (representative-stands p (id, l) rises leads);
      in_program = stepped-phase l f address at;
      marked = stepped-mark l;
      not_directed = stepped-goes l;
      no_current = stepped-current l ∙ none;
      others = λ other k differs there. halting.each other k
          (sym (under-change_under_other id other stepped_lwp (λ same. differs (sym same)) p.lwps) ∙ there);
    })
  where
    steps : has_flags flags_of_step single_step ≡ true
    steps = refl

-- ---- the other lwps

-- an lwp that moves stands not still; where it will stop it is directed to
moves-not-still : (a b c : Bool) → (a || (b || c)) ≡ false → (a || b) ≡ false
moves-not-still false false c is = refl
moves-not-still true b c is = cc
moves-not-still false true c is = cc

must-be-directed : (a b : Bool) → (a || b) ≡ true → a ≡ false → b ≡ true
must-be-directed true b is not_a = cc
must-be-directed false b is not_a = is

stopped-stops : (l : TracedLwp) → will_stop (stopped_lwp l) ≡ true
unfolding stopped_as_directed
stopped-stops l = refl

stopped-one : (o : Option TracedLwp) (k : TracedLwp) → option_map stopped_lwp o ≡ Some k → will_stop k ≡ true
stopped-one None k is = absurd (none-some k is)
stopped-one (Some x) k is = subst (λ y. will_stop y ≡ true) (same_Some (stopped_lwp x) k is) (stopped-stops x)

module _ (s : TracedSystem) (pid : ℕ) (p : TracedProcess) (id : ℕ) (l : TracedLwp) (other : ℕ) (t : LwpTurn)
    (live : live_process s pid ≡ Some p) (stepped : IsStepped p id l) (differs : other ≢ id)
    (turn : turn_of s pid other ≡ Some t) where
  stopped-turn : t ≡ settled s pid p other (turn-taken s pid other t turn).lwp requested_row
  unfolding is_held_back
  stopped-turn =
      let it = turn-taken s pid other t turn in
      let same : it.process ≡ p = same_Some it.process p (sym it.live ∙ live) in
      let there : lwp_of p other ≡ Some it.lwp =
      subst (λ (y : TracedProcess). lwp_of y other ≡ Some it.lwp) same it.there in
      let moving : stands_still it.lwp ≡ false =
      moves-not-still (has_event_stop it.lwp) it.lwp.suspended _ it.free in
      let directed : it.lwp.control.directed ≡ true =
      must-be-directed (stands_still it.lwp) it.lwp.control.directed (stepped.others other it.lwp differs there)
      moving in
      it.is ∙ ap (λ (y : TracedProcess). settled s pid y other it.lwp (row_for s pid y other it.lwp)) same
      ∙ ap (settled s pid p other it.lwp) (row-directed s pid p other it.lwp directed)

  pub other-did : t.turned ≡ record { did = Stopped; stop = false }
  other-did =
      ap (λ (x : LwpTurn). x.turned) (stopped-turn ∙ stop-settled s pid p other (turn-taken s pid other t turn).lwp)

  pub other-leaves : live_process t.system pid ≡ Some (with_lwp_stopped other p)
  other-leaves =
      ap (λ (x : LwpTurn). live_process x.system pid)
      (stopped-turn ∙ stop-settled s pid p other (turn-taken s pid other t turn).lwp)
      ∙ stopped-live s pid p live other

pub other-stays : (p : TracedProcess) (id : ℕ) (l : TracedLwp) (other : ℕ) → IsStepped p id l → other ≢ id
    → IsStepped (with_lwp_stopped other p) id l
unfolding with_lwp with_counted
other-stays p id l other stepped differs = record {
  there = under-change_under_other other id stopped_lwp differs p.lwps ∙ stepped.there;
  in_program = stepped.in_program;
  marked = stepped.marked;
  not_directed = stepped.not_directed;
  no_current = stepped.no_current;
  others = λ n k apart there. elim (cases_Bool (other == n)) [
    | inl same ↦ own n k (eqb-true other n same) there
    | inr not ↦ stepped.others n k apart
        (sym (under-change_under_other other n stopped_lwp (eqb-false other n not) p.lwps) ∙ there)
  ];
}
  where
    own : (n : ℕ) (k : TracedLwp) → other ≡ n → under n (change_under other stopped_lwp p.lwps) ≡ Some k
        → will_stop k ≡ true
    own n k same there =
        stopped-one (under n p.lwps) k (sym (under-change_under n stopped_lwp p.lwps)
        ∙ subst (λ m. under n (change_under m stopped_lwp p.lwps) ≡ Some k) same there)

-- ---- what others do elsewhere

pub step-alone : (p q : TracedProcess) (id : ℕ) (l k : TracedLwp) → IsUndisturbed p q → IsStepped p id l
    → lwp_of q id ≡ Some k → IsStepped q id k
step-alone p q id l k alone stepped there =
    let was = alone.each id k there in
    let same : was.0 ≡ l = same_Some was.0 l (sym was.1.0 ∙ stepped.there) in
    let is : k ≡ record l { pending = k.pending } =
    was.1.1 ∙ ap (λ (x : TracedLwp). record x { pending = k.pending }) same in
    record {
      there = there;
      in_program = ap (λ (x : TracedLwp). x.phase) is ∙ stepped.in_program;
      marked = ap (λ (x : TracedLwp). x.control.step) is ∙ stepped.marked;
      not_directed = ap (λ (x : TracedLwp). x.control.directed) is ∙ stepped.not_directed;
      no_current = ap (λ (x : TracedLwp). x.current) is ∙ stepped.no_current;
      others = λ other m differs at.
          let a = alone.each other m at in ap will_stop a.1.1 ∙ stepped.others other a.0 differs a.1.0;
    }

pub ruleset steps = (one-run, step-begun, other-did, other-leaves, other-stays, step-alone)
