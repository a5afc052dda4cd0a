use Rattle.std.proofs.Common.{◌≡◌, ◌<◌, ℕ, true, false, Some, None, length, refl, sym, subst, ap, ◌∙◌}
use Rattle.std.proofs.Common.{inl, inr}
use Rattle.std.proofs.lemmas.Bool.{cases_eq, false≢true, ne_eqb}
use Rattle.pr_line.specs.declared.options.Options.{Options}
use Rattle.pr_model.specs.Calls.{Answer, answer_to}
use Rattle.pr_model.specs.State.{TracedProcess, TracedState, live_process}
use Rattle.pr_model.specs.declared.calls.Call.{Call}
use Rattle.pr_model.specs.declared.calls.Call.TheVariants as call
use Rattle.pr_report_laws.proofs.Invariant.StandLemmas.{Each}
use Rattle.pr_truss.specs.Trusses.{TrussState, traced_at}
use Rattle.pr_truss.specs.declared.stages.OpeningStep.TheVariants as opening
use Rattle.pr_truss.specs.declared.stages.Stage.{Stage}
use Rattle.pr_truss.specs.declared.stages.Stage.TheVariants.{Opening}
use Rattle.pr_function_laws.proofs.Marks.KeptPlaces.{AtStage}
use Rattle.pr_function_laws.proofs.LeavingProcesses.LeavingWaits.{WaitsAt, awaits_opening, polls}
use Rattle.pr_function_laws.proofs.OpenedProcesses.OpenedCalls.{IsSo, lowest}
use Rattle.pr_function_laws.proofs.OpenedProcesses.OpenedLaws.{Goes}
use Rattle.pr_function_laws.proofs.Stepping.StretchLemmas.{frozen-halting}
use Rattle.pr_function_laws.specs.Opened.{TracesAll}
use Rattle.pr_function_laws.specs.Soon.{may_wait}
use Rattle.pr_function_laws.specs.Stretches.{acts_by}
use Rattle.pr_function_hides.proofs.Copying.CopyFeeds.{opens-of, rests-of}
use Rattle.pr_function_hides.proofs.Copying.CopyForeign.{traced-at}
use Rattle.pr_function_hides.proofs.LeavingCopies.CopyLeaves.{HasOld}
use Rattle.pr_function_hides.proofs.LeavingCopies.CopyLeavingCalls.{quiet}
use Rattle.pr_function_hides.proofs.LeavingCopies.CopyLeft.{IsLeaving, LeavesSo, has_none, is_to_stop, traces_still}
use Rattle.pr_function_hides.proofs.Copying.CopyPlaces.{CopiesSo, OpensSo, RestsSo, counted, early, is_about, rests_new}
use Rattle.pr_function_hides.proofs.Copying.CopyPlaces.{rests_old, stopped}

-- The first interrupt: truss was waiting for the stop of a process that it opens, or for any of those that it has
-- opened, and begins to leave them as they stand.

-- ---- the calls that wait

pub waits-act : (c : Call) → may_wait c ≡ true → acts_by c ≡ None
waits-act (call.CtlWait handle until bytes) waits = refl
waits-act (call.Poll handles) waits = refl
waits-act (call.Until moment) waits = refl
waits-act _ waits = absurd (false≢true waits)

-- ---- the processes then

module _ (n k : ℕ) (o : Options) (t : TrussState) (s : TracedState) (g : Goes (Unit {0}) k o t s)
    (cs : CopiesSo t s.system) where
  of-files : (q : ℕ) → q < length t.traced → ((p : TracedProcess)
      → live_process s.system (traced_at t q).pid ≡ Some p
      → LeavesSo (HasOld t (traced_at t q).pid) o (traced_at t q).marks p)
      → IsLeaving k o (HasOld t) s (traced_at t q)
  of-files q within stands =
      let w = g.kept in
      let low = lowest (Unit {0}) k t.options s t.traced t.stage w.stage q within in
      let h = low.holds in
      record {
        files = record {
          its = h.its;
          its_status = h.its_status;
          its_lstatus = h.its_lstatus;
          its_memory = h.its_memory;
          known = tt;
          set = λ p live. tt;
        };
        stands = stands;
      }

  -- one that truss neither opens nor closes nor runs soon
  rests-leaving : (q : ℕ) → q < length t.traced → is_about t.stage q ≡ false
      → IsLeaving k o (HasOld t) s (traced_at t q)
  rests-leaving q within other =
      of-files q within (λ p live. by p live (rests-of t q p other (cs.each q within p live)))
    where
      by : (p : TracedProcess) → live_process s.system (traced_at t q).pid ≡ Some p → RestsSo (traced_at t q) p
          → LeavesSo (HasOld t (traced_at t q).pid) o (traced_at t q).marks p
      by p live (rests_new none copies) =
          let traced = traced-at n k o t s g q within other in
          traces_still (subst (λ (x : Options). TracesAll x p.control) g.options (traced.live p live)) copies
      by p live (rests_old flags some w) =
          is_to_stop (q, (within, (refl, some))) w.out (frozen-halting p w.frozen)

  -- one that has not come to the stop of its opening
  opening-within : (q until : ℕ) → t.stage ≡ Opening q (opening.AwaitStop until) → q < length t.traced
  opening-within q until at =
      let kept = g.kept in
      let w = subst (AtStage (IsSo (Unit {0}) k t.options s) t.traced) at kept.stage in w.0

  opens-leaving : (q until : ℕ) → t.stage ≡ Opening q (opening.AwaitStop until)
      → IsLeaving k o (HasOld t) s (traced_at t q)
  opens-leaving q until at =
      let within = opening-within q until at in
      of-files q within (λ p live. by p (opens-of t q p (opening.AwaitStop until) at (cs.each q within p live)))
    where
      by : (p : TracedProcess) → OpensSo (opening.AwaitStop until) (traced_at t q) p
          → LeavesSo (HasOld t (traced_at t q).pid) o (traced_at t q).marks p
      by p (early is m) = has_none (let l = m.lifted in l.none_planted)
      by p (stopped reads out) = absurd (apart reads)
        where
          apart : opening.AwaitStop until ≡ opening.ReadLwps → ⊥
          apart e = cc
      by p (counted late other w) = absurd (false≢true (sym late))

  all-leaving : WaitsAt t → Each (IsLeaving k o (HasOld t) s) t.traced
  all-leaving (polls at) q within =
      rests-leaving q within (ap (λ (y : Stage). is_about y q) at)
  all-leaving (awaits_opening b until at) q within = elim (cases_eq q b) [
    | inl same ↦ subst (λ i. IsLeaving k o (HasOld t) s (traced_at t i)) (sym same) (opens-leaving b until at)
    | inr apart ↦
        rests-leaving q within (ap (λ (y : Stage). is_about y q) at ∙ ne_eqb b q (λ same. apart (sym same)))
  ]

  -- and so they are after the call that is interrupted
  pub all-now : (c : Call) (a : Answer) → answer_to s k c ≡ Some a
      → ((pid : ℕ) → pid < s.system.made → live_process s.system pid ≡ None
      → live_process a.state.system pid ≡ None) → may_wait c ≡ true → WaitsAt t
      → Each (IsLeaving k o (HasOld t) a.state) t.traced
  all-now c a given over waits at q within =
      quiet n k o t s g.lawful c a given over (waits-act c waits) (traced_at t q) (all-leaving at q within)
