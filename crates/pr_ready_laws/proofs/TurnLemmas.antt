use Rattle.std.proofs.Common.{◌≡◌, ◌≢◌, ◌&&◌, ℕ, Bool, true, false, eqb, Some, sym, subst, ◌∙◌}
use Rattle.std.proofs.lemmas.Bool.{eqb-false, or_parts}
use Rattle.std.proofs.lemmas.Option.{same_Some}
use Rattle.pr_model.proofs.TurnLemmas.{turn-taken}
use Rattle.pr_model.specs.Lawful.{IsLawfulSystem}
use Rattle.pr_model.specs.LwpTurns.{LwpTurn, settled, turn_of}
use Rattle.pr_model.specs.Rows.{row_for}
use Rattle.pr_model.specs.State.{TracedLwp, TracedProcess, TracedSystem, live_process, lwp_of}
use Rattle.pr_lawful.proofs.LawfulTurns.TurnLemmas.{acting as acting_in, row-suits}
use Rattle.pr_ready_laws.specs.Left.{IsLeft}
use Rattle.pr_ready_laws.specs.Reach.{changes_files, reach_of, reaches_around}
use Rattle.pr_ready_laws.specs.Touched.{is_near, turn_touches}
use Rattle.pr_ready_laws.proofs.ChangeLemmas.{settled-leaves}
use Rattle.pr_ready_laws.proofs.LeftLemmas.{Leaves}
use Rattle.pr_ready_laws.proofs.ReachLemmas.{row-within}

-- What a turn leaves of a process that it does not touch.

and-false : (b c : Bool) → (b && c) ≡ false → b ≡ true → c ≡ false
and-false true c none is = none
and-false false c none is = cc

module _ (s : TracedSystem) (pid acting id : ℕ) (t : LwpTurn) (p : TracedProcess) (l : TracedLwp)
    (h : IsLawfulSystem s) (user : pid ≢ 0) where
  row-leaves : live_process s acting ≡ Some p → lwp_of p id ≡ Some l
      → t ≡ settled s acting p id l (row_for s acting p id l)
      → turn_touches s acting p l (reach_of (row_for s acting p id l).did) pid ≡ false
      → Leaves pid (changes_files (reach_of (row_for s acting p id l).did)) false s
      (settled s acting p id l (row_for s acting p id l)).system
  unfolding turn_touches
  row-leaves live there is apart =
      let parts = or_parts (eqb acting pid) _ apart in
      let a = acting_in s acting id p l h live there in
      settled-leaves pid acting p id l s (row_for s acting p id l) user (eqb-false acting pid parts.0)
      (and-false (reaches_around (reach_of (row_for s acting p id l).did)) (is_near s p l pid) parts.1) h.rising a.found
      (row-suits s acting p id l a) (row-within s acting p id l)

  pub turn-leaves : turn_of s acting id ≡ Some t → live_process s acting ≡ Some p → lwp_of p id ≡ Some l
      → turn_touches s acting p l (reach_of t.turned.did) pid ≡ false
      → IsLeft pid (changes_files (reach_of t.turned.did)) false s t.system
  unfolding settled
  turn-leaves turn live there apart =
      let it = turn-taken s acting id t turn in
      let process : it.process ≡ p = same_Some it.process p (sym it.live ∙ live) in
      by it.process it.lwp process it.live it.there it.is
    where
      to : (k : TracedLwp) → k ≡ l → lwp_of p id ≡ Some k → t ≡ settled s acting p id k (row_for s acting p id k)
          → IsLeft pid (changes_files (reach_of t.turned.did)) false s t.system
      to k same found is =
          let now : t ≡ settled s acting p id l (row_for s acting p id l) =
          subst (λ (j : TracedLwp). t ≡ settled s acting p id j (row_for s acting p id j)) same is in
          subst (λ (v : LwpTurn). IsLeft pid (changes_files (reach_of v.turned.did)) false s v.system) (sym now)
          (row-leaves live there now
          (subst (λ (v : LwpTurn). turn_touches s acting p l (reach_of v.turned.did) pid ≡ false) now apart))

      by : (q : TracedProcess) (k : TracedLwp) → q ≡ p → live_process s acting ≡ Some q → lwp_of q id ≡ Some k
          → t ≡ settled s acting q id k (row_for s acting q id k)
          → IsLeft pid (changes_files (reach_of t.turned.did)) false s t.system
      by q k same lives found is =
          let here : lwp_of p id ≡ Some k = subst (λ (x : TracedProcess). lwp_of x id ≡ Some k) same found in
          to k (same_Some k l (sym here ∙ there)) here
          (subst (λ (x : TracedProcess). t ≡ settled s acting x id k (row_for s acting x id k)) same is)
