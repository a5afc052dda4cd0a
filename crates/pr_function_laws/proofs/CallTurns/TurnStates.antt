use Rattle.std.proofs.Common.{◌≡◌, ◌≢◌, ◌+◌, ◌<◌, ◌||◌, ℕ, Bool, true, false, is_some, Option, Some, None, [], ◌∷◌, refl, sym, subst, ap, ◌∙◌}
use Rattle.std.proofs.lemmas.Bool.{false≢true}
use Rattle.std.proofs.lemmas.Option.{none-some, same_Some}
use Rattle.pr_laws.proofs.RunLemmas.{representative-stands}
use Rattle.pr_lawful.proofs.LawfulStates.HistoryLemmas.{history-state}
use Rattle.pr_lawful.proofs.Following.UseLemmas.{live-lawful}
use Rattle.pr_model.proofs.TurnLemmas.{turn-taken}
use Rattle.pr_model.specs.Changes.{with_space}
use Rattle.pr_model.specs.Lawful.{IsLawful}
use Rattle.pr_model.specs.Legal.{IsLegalEntry, after}
use Rattle.pr_model.specs.LwpTurns.{LwpTurn, is_held_back, turn_of, with_counted}
use Rattle.pr_model.specs.Running.{let_go, run_lwp, with_aborted, with_cleared, with_run, with_step, without_fault}
use Rattle.pr_model.specs.State.{TracedLwp, TracedProcess, TracedState, TracedSystem, live_process, lwp_of, with_lwp}
use Rattle.pr_model.specs.Stops.{has_event_stop}
use Rattle.pr_model.specs.declared.events.Entry.{Entry}
use Rattle.pr_model.specs.declared.stops.Point.{Point}
use Rattle.pr_model.specs.declared.stops.Stop.{Stop}
use Rattle.pr_model.specs.declared.stops.Stop.TheVariants as stop
use Rattle.pr_num.proofs.ByIdLaws.{under-change_under_other}
use Rattle.pr_num.specs.ById.{IsRising}
use Rattle.pr_num.specs.Control.{clear_fault, has_flags, single_step}
use Rattle.pr_num.specs.Sets.{common_word}
use Rattle.pr_num.specs.declared.faults.Flt.TheVariants.{Bpt}
use Rattle.pr_report_laws.proofs.Machine.FrameLaws.{alone-lwp}
use Rattle.pr_truss_laws.proofs.EventStops.AloneLemmas.{alone-halting}
use Rattle.pr_truss_laws.proofs.Machine.OutlastLemmas as outlast
use Rattle.pr_truss_laws.proofs.Machine.OutlastLemmas.{Outlasts}
use Rattle.pr_truss_laws.proofs.Machine.OverLemmas.{stays-over}
use Rattle.pr_truss_laws.proofs.Machine.StillLemmas.{halting-stays}
use Rattle.pr_truss_laws.specs.Stills.{IsHalting, IsUndisturbed, stopped_lwp, with_lwp_stopped}
use Rattle.pr_function_laws.proofs.Stepping.FaultLemmas.{StandsAtFault, alone-fault, fault-frozen, spaced-fault}
use Rattle.pr_function_laws.proofs.Stepping.OtherSteps.{stays-there}
use Rattle.pr_function_laws.proofs.Stepping.StepLemmas.{one-run, other-stays, step-alone, step-begun}
use Rattle.pr_function_laws.proofs.Stepping.StretchLemmas.{alone-no-call, alone-settings, frozen-halting, stopped-lent, stopped-no-call, stopped-settings}
use Rattle.pr_function_laws.proofs.CallTurns.TurnPoints.{StandsAt}
use Rattle.pr_function_laws.specs.Steps.{IsStepped, RunsNoCall, StopsAtAll}
use Rattle.pr_function_laws.specs.Stretches.{IsReadyToStep}

-- How a process stands whose lwp met a breakpoint: the lwp waits there; it is stepped alone; or it has had its turn.

module _ (id : ℕ) (stood : TracedLwp) where
  -- ---- the states

  -- an lwp that stands at a breakpoint, with the registers of this one, and suspended where it is
  pub record IsAtBreak (l : TracedLwp) : Type 0 where
    pub holds : l.regs ≡ stood.regs
    pub suspended : l.suspended ≡ stood.suspended
    pub stop : l.control.stop ≡ Some (stop.Faulted Bpt)

  pub record Waits (p : TracedProcess) : Type 0 where
    pub stands : StandsAtFault p id
    pub all : StopsAtAll p.control
    pub own : (l : TracedLwp) → lwp_of p id ≡ Some l → IsAtBreak l

  pub record Steps (p : TracedProcess) : Type 0 where
    pub lwp : TracedLwp
    pub stepped : IsStepped p id lwp
    pub all : StopsAtAll p.control
    pub not_lent : p.borrower ≡ None
    pub no_call : RunsNoCall p lwp
    pub holds : lwp.regs ≡ stood.regs
    pub suspended : lwp.suspended ≡ stood.suspended
    pub no_stop : lwp.control.stop ≡ None

  -- it has met this point
  pub record Had (point : Point) (p : TracedProcess) : Type 0 where
    pub halting : IsHalting p
    pub there : (l : TracedLwp) × (lwp_of p id ≡ Some l)
    pub own : StandsAt point id p

  -- ---- others leave the process alone

  abbrev pub IsKept : (TracedProcess → Type 0) → Type 0
  IsKept P = (p q : TracedProcess) → IsUndisturbed p q → IsRising p.lwps → IsRising q.lwps → P p → P q

  pub waits-kept : IsKept Waits
  waits-kept p q alone rises later w = record {
    stands = alone-fault p q alone id rises later w.stands;
    all = alone-settings p q alone w.all;
    own = λ l there.
        let was = alone.each id l there in
        let m = w.own was.0 was.1.0 in
        record {
          holds = ap (λ (x : TracedLwp). x.regs) was.1.1 ∙ m.holds;
          suspended = ap (λ (x : TracedLwp). x.suspended) was.1.1 ∙ m.suspended;
          stop = ap (λ (x : TracedLwp). x.control.stop) was.1.1 ∙ m.stop;
        };
  }

  pub steps-kept : IsKept Steps
  steps-kept p q alone rises later w =
      let stepped = w.stepped in
      let m = stays-there p q id w.lwp alone stepped.there in
      let was = alone.each id m.0 m.1 in
      let same : was.0 ≡ w.lwp = same_Some was.0 w.lwp (sym was.1.0 ∙ stepped.there) in
      let rest = alone-no-call p q id w.lwp m.0 alone w.not_lent stepped.there m.1 w.no_call in
      record {
        lwp = m.0;
        stepped = step-alone p q id w.lwp m.0 alone w.stepped m.1;
        all = alone-settings p q alone w.all;
        not_lent = rest.0;
        no_call = rest.1;
        holds = ap (λ (x : TracedLwp). x.regs) was.1.1 ∙ ap (λ (x : TracedLwp). x.regs) same ∙ w.holds;
        suspended =
            ap (λ (x : TracedLwp). x.suspended) was.1.1 ∙ ap (λ (x : TracedLwp). x.suspended) same ∙ w.suspended;
        no_stop =
            ap (λ (x : TracedLwp). x.control.stop) was.1.1 ∙ ap (λ (x : TracedLwp). x.control.stop) same ∙ w.no_stop;
      }

  pub had-kept : (point : Point) → IsKept (Had point)
  had-kept point p q alone rises later w = record {
    halting = alone-halting p q alone w.halting;
    there = let it = alone-lwp p q alone id w.there.0 w.there.1 in (it.0, it.1.0);
    own = λ l there.
        let was = alone.each id l there in
        ap (λ (x : TracedLwp). x.control.stop) was.1.1 ∙ w.own was.0 was.1.0;
  }

  -- ---- another lwp stops as it was directed to

  stopped-same : (other : ℕ) (p : TracedProcess) → other ≢ id → lwp_of (with_lwp_stopped other p) id ≡ lwp_of p id
  unfolding with_lwp with_counted
  stopped-same other p differs = under-change_under_other other id stopped_lwp differs p.lwps

  pub steps-beside : (other : ℕ) (p : TracedProcess) → other ≢ id → Steps p → Steps (with_lwp_stopped other p)
  steps-beside other p differs w = record {
    lwp = w.lwp;
    stepped = other-stays p id w.lwp other w.stepped differs;
    all = stopped-settings other p w.all;
    not_lent = stopped-lent other p ∙ w.not_lent;
    no_call = stopped-no-call other p w.lwp w.no_call;
    holds = w.holds;
    suspended = w.suspended;
    no_stop = w.no_stop;
  }

  pub had-beside : (point : Point) (s : TracedSystem) (pid : ℕ) (p : TracedProcess) (other : ℕ) (t : LwpTurn)
      → live_process s pid ≡ Some p → turn_of s pid other ≡ Some t → other ≢ id → Had point p
      → Had point (with_lwp_stopped other p)
  had-beside point s pid p other t live turn differs w = record {
    halting = halting-stays s pid p live w.halting other t turn;
    there = (w.there.0, stopped-same other p differs ∙ w.there.1);
    own = λ l there. w.own l (sym (stopped-same other p differs) ∙ there);
  }

  -- it has no turn itself
  held-still : (a b : Bool) → (a || b) ≡ false → a ≡ false
  held-still false b is = refl
  held-still true b is = cc

  pub had-no-turn : (point : Point) (s : TracedSystem) (pid : ℕ) (p : TracedProcess) (t : LwpTurn)
      → live_process s pid ≡ Some p → turn_of s pid id ≡ Some t → Had point p → ⊥
  unfolding is_held_back
  had-no-turn point s pid p t live turn w =
      let it = turn-taken s pid id t turn in
      let same : it.process ≡ p = same_Some it.process p (sym it.live ∙ live) in
      let there : lwp_of p id ≡ Some it.lwp =
      subst (λ (y : TracedProcess). lwp_of y id ≡ Some it.lwp) same it.there in
      let stands : has_event_stop it.lwp ≡ true = ap (λ (o : Option Stop). is_some o) (w.own it.lwp there) in
      false≢true (sym (held-still (has_event_stop it.lwp) _ it.free) ∙ stands)

  -- ---- its memory is written

  pub waits-spaced : (p : TracedProcess) (space : _) → Waits p → Waits (with_space space p)
  unfolding with_space
  waits-spaced p space w = record { stands = spaced-fault p space id w.stands; all = w.all; own = w.own }

  -- ---- PCRUN with PRCFAULT and PRSTEP

  ran-regs : (l : TracedLwp) → (run_lwp (clear_fault + single_step) l).regs ≡ l.regs
  unfolding run_lwp with_cleared with_aborted with_step without_fault let_go has_flags common_word
  ran-regs l = refl

  ran-suspended : (l : TracedLwp) → (run_lwp (clear_fault + single_step) l).suspended ≡ l.suspended
  unfolding run_lwp with_cleared with_aborted with_step without_fault let_go has_flags common_word
  ran-suspended l = refl

  ran-stop : (l : TracedLwp) → (run_lwp (clear_fault + single_step) l).control.stop ≡ None
  unfolding run_lwp with_cleared with_aborted with_step without_fault let_go has_flags common_word
  ran-stop l = refl

  ran-no-call : (p : TracedProcess) (l : TracedLwp) → RunsNoCall p l
      → RunsNoCall (with_lwp id (run_lwp (clear_fault + single_step)) p) (run_lwp (clear_fault + single_step) l)
  unfolding with_lwp run_lwp with_cleared with_aborted with_step without_fault let_go has_flags common_word
  ran-no-call p l none = record { is_none = none.is_none }

  ran-settings : (p : TracedProcess) → StopsAtAll p.control
      → StopsAtAll (with_lwp id (run_lwp (clear_fault + single_step)) p).control
  unfolding with_lwp
  ran-settings p all = all

  ran-lent : (p : TracedProcess) → (with_lwp id (run_lwp (clear_fault + single_step)) p).borrower ≡ p.borrower
  unfolding with_lwp
  ran-lent p = refl

  ran-ended : (p : TracedProcess) → (with_lwp id (run_lwp (clear_fault + single_step)) p).ended ≡ p.ended
  unfolding with_lwp
  ran-ended p = refl

  module _ (p : TracedProcess) (rises : IsRising p.lwps) (w : Waits p) (r : IsReadyToStep p id) where
    ran-is : with_run (clear_fault + single_step) p ≡ with_lwp id (run_lwp (clear_fault + single_step)) p
    unfolding has_flags common_word
    ran-is = one-run p id (clear_fault + single_step) r.lwp r.leads refl

    pub ran-lives : (with_run (clear_fault + single_step) p).ended ≡ p.ended
    ran-lives = ap (λ (y : TracedProcess). y.ended) ran-is ∙ ran-ended p

    pub waits-run : Steps (with_run (clear_fault + single_step) p)
    waits-run =
        let own = w.own r.lwp (representative-stands p (id, r.lwp) rises r.leads) in
        record {
          lwp = run_lwp (clear_fault + single_step) r.lwp;
          stepped = step-begun p id r.lwp r.fault r.address rises r.leads r.at_fault r.no_current
              (frozen-halting p (fault-frozen p id w.stands rises));
          all = subst (λ (y : TracedProcess). StopsAtAll y.control) (sym ran-is) (ran-settings p w.all);
          not_lent = ap (λ (y : TracedProcess). y.borrower) ran-is ∙ ran-lent p ∙ r.not_lent;
          no_call = subst (λ (y : TracedProcess). RunsNoCall y (run_lwp (clear_fault + single_step) r.lwp))
              (sym ran-is) (ran-no-call p r.lwp r.no_call);
          holds = ran-regs r.lwp ∙ own.holds;
          suspended = ran-suspended r.lwp ∙ own.suspended;
          no_stop = ran-stop r.lwp;
        }

-- ---- what lives

-- something is so of the process, if it lives
abbrev pub Lives : ℕ → (TracedProcess → Type 0) → TracedSystem → Type 0
Lives pid P s = (p : TracedProcess) → live_process s pid ≡ Some p → P p

module _ (n pid : ℕ) (s : TracedState) (lawful : IsLawful s) (made : pid < s.system.made) (e : Entry)
    (legal : IsLegalEntry n s e) where
  -- it ended before
  pub over-lives : (P : TracedProcess → Type 0) → live_process s.system pid ≡ None → Lives pid P (after s e).system
  over-lives P none q later = absurd (none-some q (sym (stays-over n s e pid lawful legal made none) ∙ later))

  -- it is left alone, or was killed
  pub alone-lives : (P : TracedProcess → Type 0)
      → ((p q : TracedProcess) → IsUndisturbed p q → IsRising p.lwps → IsRising q.lwps → P p → P q)
      → Lives pid P s.system
      → ((p : TracedProcess) → live_process s.system pid ≡ Some p → Outlasts pid p (after s e).system)
      → Lives pid P (after s e).system
  alone-lives P kept lives lasts = by (live_process s.system pid) refl
    where
      rises : (u : TracedState) → IsLawful u → (p : TracedProcess) → live_process u.system pid ≡ Some p
          → IsRising p.lwps
      rises u l p live = let it = live-lawful u.system pid p l.system live in it.rising

      outlasting : (p : TracedProcess) → live_process s.system pid ≡ Some p → Outlasts pid p (after s e).system
          → Lives pid P (after s e).system
      outlasting p live (outlast.lives r now alone) q later =
          subst P (same_Some r q (sym now ∙ later))
          (kept p r alone (rises s lawful p live)
          (rises (after s e) (history-state n s (e ∷ []) lawful (legal, tt)) r now) (lives p live))
      outlasting p live (outlast.killed z gone there status) q later = absurd (none-some q (sym gone ∙ later))

      by : (o : Option TracedProcess) → live_process s.system pid ≡ o → Lives pid P (after s e).system
      by None none = over-lives P none
      by (Some p) live = outlasting p live (lasts p live)
