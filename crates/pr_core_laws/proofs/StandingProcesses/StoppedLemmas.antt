use Rattle.std.proofs.Common.{◌≡◌, ◌≤◌, ℕ, Bool, true, false, is_some, Option, Some, None, refl, arith}
use Rattle.pr_laws.proofs.RepresentativeLemmas.{representative-leads}
use Rattle.pr_model.specs.State.{TracedLwp, TracedProcess, has_agent, lwp_of}
use Rattle.pr_model.specs.Stops.{IsBefore, class_of, class_of_shown, class_of_stop, found_on_event, has_event_stop, is_stopped, representative, shown, shown_by_job}
use Rattle.pr_model.specs.declared.stops.Stop.{Stop}
use Rattle.pr_model.specs.declared.stops.Stop.TheVariants as stop
use Rattle.pr_num.proofs.ByIdLaws.{All-under}
use Rattle.pr_num.specs.Agents.{agent_id}
use Rattle.pr_num.specs.ById.{IsRising}
use Rattle.pr_num.specs.declared.signals.Sig.{Sig}
use Rattle.pr_truss_laws.specs.Stills.{IsFrozen, stands_still}

-- A process without an agent that is stopped on an event of interest stands still: its representative is of the least
-- class, so each other lwp stands on an event too, or is suspended.

stop-class : (s : Stop) → 3 ≤ class_of_stop s
stop-class stop.Requested = omega arith
stop-class _ = omega arith

job-class : (job : Option Sig) → class_of_shown (shown_by_job job) ≤ 2
job-class None = omega arith
job-class (Some g) = omega arith

module _ (job : Option Sig) (l : TracedLwp) where
  event-class : has_event_stop l ≡ true → 3 ≤ class_of job l
  unfolding class_of shown
  event-class stands = by l.control.stop refl stands
    where
      by : (o : Option Stop) → l.control.stop ≡ o → is_some o ≡ true → 3 ≤ class_of job l
      by None is some = cc
      by (Some s) is some = rw is (stop-class s)

  class-still : 3 ≤ class_of job l → stands_still l ≡ true
  unfolding class_of shown
  class-still high = by l.control.stop refl l.suspended refl
    where
      low : 3 ≤ class_of_shown (shown_by_job job) → ⊥
      low it = let most = job-class job in omega arith

      by : (o : Option Stop) → l.control.stop ≡ o → (b : Bool) → l.suspended ≡ b → stands_still l ≡ true
      by (Some s) is b suspended = rw is refl
      by None is true suspended = rw (is, suspended) refl
      by None is false suspended = absurd (low (rw (is, suspended) at high))

no-lwp : (o : Option TracedLwp) → is_some o ≡ false → o ≡ None
no-lwp None is = refl
no-lwp (Some l) is = cc

pub stopped-frozen : (p : TracedProcess) → IsRising p.lwps → has_agent p ≡ false → is_stopped p ≡ true → IsFrozen p
unfolding is_stopped
stopped-frozen p rises quiet stopped = by (representative p) refl stopped
  where
    by : (o : Option (ℕ × TracedLwp)) → representative p ≡ o → found_on_event o ≡ true → IsFrozen p
    by None is stands = cc
    by (Some e) is stands =
        let leads = representative-leads p e rises (no-lwp (lwp_of p agent_id) quiet) is in
        record {
          each = λ id l there.
              let before : IsBefore p.job_stop e (id, l) =
              All-under (IsBefore p.job_stop e) id l p.lwps leads.first there in
              let high = event-class p.job_stop e.1 stands in
              class-still p.job_stop l (omega (arith, before.class));
        }
