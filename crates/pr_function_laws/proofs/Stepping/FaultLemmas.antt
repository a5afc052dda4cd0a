use Rattle.std.proofs.Common.{◌≡◌, ◌≤◌, ℕ, zero, suc, Bool, true, false, is_some, Option, Some, None, refl, sym, ap, ◌∙◌, arith}
use Rattle.std.proofs.lemmas.Bool.{false≢true}
use Rattle.std.proofs.lemmas.Option.{same_Some}
use Rattle.pr_laws.proofs.RepresentativeLemmas.{representative-leads}
use Rattle.pr_laws.proofs.RunLemmas.{representative-stands}
use Rattle.pr_model.specs.Changes.{with_space}
use Rattle.pr_model.specs.State.{TracedLwp, TracedProcess, has_agent, lwp_of}
use Rattle.pr_model.specs.Stops.{IsBefore, class_of, class_of_shown, class_of_stop, found_on_event, has_event_stop, is_stopped, representative, shown}
use Rattle.pr_model.specs.declared.lwps.Phase.TheVariants.{Faulted as AtFault}
use Rattle.pr_model.specs.declared.stops.Stop.{Stop}
use Rattle.pr_model.specs.declared.stops.Stop.TheVariants as stop
use Rattle.pr_num.proofs.ByIdLaws.{All-under}
use Rattle.pr_num.specs.ById.{IsRising}
use Rattle.pr_num.specs.declared.faults.Flt.{Flt}
use Rattle.pr_num.specs.declared.signals.Sig.{Sig}
use Rattle.pr_report_laws.proofs.Machine.FrameLaws.{alone-agent, alone-lwp, alone-waits}
use Rattle.pr_report_laws.proofs.Machine.StoppedLaws.{HasMetFirst, none-under, waits-first}
use Rattle.pr_report_laws.specs.AtBirth.{has_met, is_met_if, met_in}
use Rattle.pr_truss_laws.specs.Stills.{IsFrozen, IsUndisturbed, StandsOnEvent, is_met}
use Rattle.pr_function_laws.proofs.Stepping.StretchLemmas.{led-frozen, no-agent}
use Rattle.pr_function_laws.specs.Steps.{RunsNoCall}
use Rattle.pr_function_laws.specs.Stretches.{IsAtStop, IsReadyToStep}

-- A process whose representative stands at a fault stands so as long as others leave it alone, whatever is written to
-- its memory.

-- A process without an agent, which has lent its memory to nobody. Its representative is the lwp of this id, which
-- stands on an event, at a fault, and has no signal to act on first.
pub record StandsAtFault (p : TracedProcess) (id : ℕ) : Type 0 where
  pub no_agent : has_agent p ≡ false
  pub lwp : TracedLwp
  pub leads : representative p ≡ Some (id, lwp)
  pub stop : StandsOnEvent lwp
  pub fault : Flt
  pub address : ℕ
  pub at_fault : lwp.phase ≡ AtFault fault address
  pub no_current : lwp.current ≡ None
  pub not_lent : p.borrower ≡ None

-- ---- an lwp that met an event

stop-third : (t : Stop) → is_met t ≡ true → class_of_stop t ≡ 3
stop-third stop.Requested met = absurd (false≢true met)
stop-third (stop.Signalled g) met = refl
stop-third (stop.SysEntry c) met = refl
stop-third (stop.SysExit c) met = refl
stop-third (stop.Faulted f) met = refl

met-third : (job : Option Sig) (l : TracedLwp) → has_met l ≡ true → class_of job l ≡ 3
unfolding class_of shown
met-third job l met = by l.control.stop met
  where
    by : (o : Option Stop) → is_met_if o ≡ true
        → class_of_shown (shown job (record l { control = record l.control { stop = o } })) ≡ 3
    by None is = absurd (false≢true is)
    by (Some t) is = stop-third t is

stands-met : (l : TracedLwp) → StandsOnEvent l → has_met l ≡ true
stands-met l w = ap is_met_if w.is ∙ w.met

-- ---- such a process

module _ (p : TracedProcess) (id : ℕ) (w : StandsAtFault p id) where
  pub fault-event : has_event_stop w.lwp ≡ true
  fault-event = let it = w.stop in ap (λ (o : Option Stop). is_some o) it.is

  pub fault-stop : IsAtStop p
  unfolding is_stopped
  fault-stop = record { no_agent = w.no_agent; stopped = ap found_on_event w.leads ∙ fault-event }

  pub fault-ready : ((l : TracedLwp) → lwp_of p id ≡ Some l → RunsNoCall p l) → IsRising p.lwps → IsReadyToStep p id
  fault-ready no_call rises = record {
    no_agent = w.no_agent;
    lwp = w.lwp;
    leads = w.leads;
    stands = fault-event;
    fault = w.fault;
    address = w.address;
    at_fault = w.at_fault;
    no_current = w.no_current;
    not_lent = w.not_lent;
    no_call = no_call w.lwp (representative-stands p (id, w.lwp) rises w.leads);
  }

  pub fault-frozen : IsRising p.lwps → IsFrozen p
  fault-frozen rises = led-frozen p rises w.no_agent (id, w.lwp) w.leads fault-event

-- its memory is written
pub spaced-fault : (p : TracedProcess) (space : _) (id : ℕ) → StandsAtFault p id → StandsAtFault (with_space space p) id
unfolding with_space representative
spaced-fault p space id w = record {
  no_agent = w.no_agent;
  lwp = w.lwp;
  leads = w.leads;
  stop = w.stop;
  fault = w.fault;
  address = w.address;
  at_fault = w.at_fault;
  no_current = w.no_current;
  not_lent = w.not_lent;
}

-- others leave it alone
module _ (p q : TracedProcess) (alone : IsUndisturbed p q) (id : ℕ) (rises : IsRising p.lwps)
    (later : IsRising q.lwps) (w : StandsAtFault p id) where
  met : ℕ × TracedLwp → Bool
  met e = has_met e.1

  own-met : has_met w.lwp ≡ true
  own-met = stands-met w.lwp w.stop

  there : lwp_of p id ≡ Some w.lwp
  there = representative-stands p (id, w.lwp) rises w.leads

  quiet-agent : has_agent q ≡ false
  quiet-agent = alone-agent p q alone ∙ w.no_agent

  first-now : HasMetFirst q
  first-now = by (met_in p) refl
    where
      by : (n : ℕ) → met_in p ≡ n → HasMetFirst q
      by zero is =
          absurd (false≢true (sym (none-under (λ (e : ℕ × TracedLwp). has_met e.1) id w.lwp p.lwps there is) ∙ own-met))
      by (suc n) is =
          waits-first q later quiet-agent n
          (alone-waits p q alone (suc n) (record { frozen = fault-frozen p id w rises; count = is }))

  pub alone-fault : StandsAtFault q id
  alone-fault =
      let f = first-now in
      let now = representative-stands q f.lwp later f.is in
      let was = alone.each f.lwp.0 f.lwp.1 now in
      let before = representative-leads p (id, w.lwp) rises (no-agent _ w.no_agent) w.leads in
      let after = representative-leads q f.lwp later (no-agent _ quiet-agent) f.is in
      let was_met : has_met was.0 ≡ true = ap has_met (sym was.1.1) ∙ f.met in
      let first : IsBefore p.job_stop (id, w.lwp) (f.lwp.0, was.0) =
      All-under (IsBefore p.job_stop (id, w.lwp)) f.lwp.0 was.0 p.lwps before.first was.1.0 in
      let low : id ≤ f.lwp.0 =
      first.id (met-third p.job_stop w.lwp own-met ∙ sym (met-third p.job_stop was.0 was_met)) in
      let own = alone-lwp p q alone id w.lwp there in
      let own_alike : has_met own.0 ≡ true = ap has_met (sym own.1.1) ∙ own-met in
      let second : IsBefore q.job_stop f.lwp (id, own.0) =
      All-under (IsBefore q.job_stop f.lwp) id own.0 q.lwps after.first own.1.0 in
      let high : f.lwp.0 ≤ id =
      second.id (met-third q.job_stop f.lwp.1 f.met ∙ sym (met-third q.job_stop own.0 own_alike)) in
      let same : f.lwp.0 ≡ id = omega (arith, low, high) in
      let one : was.0 ≡ w.lwp =
      same_Some was.0 w.lwp (sym was.1.0 ∙ ap (lwp_of p) same ∙ there) in
      let is : f.lwp.1 ≡ record w.lwp { pending = f.lwp.1.pending } =
      was.1.1 ∙ ap (λ (x : TracedLwp). record x { pending = f.lwp.1.pending }) one in
      let stands = w.stop in
      record {
        no_agent = quiet-agent;
        lwp = f.lwp.1;
        leads = f.is ∙ ap (λ n. Some (n, f.lwp.1)) same;
        stop = record {
          stop = stands.stop;
          is = ap (λ (x : TracedLwp). x.control.stop) is ∙ stands.is;
          met = stands.met;
        };
        fault = w.fault;
        address = w.address;
        at_fault = ap (λ (x : TracedLwp). x.phase) is ∙ w.at_fault;
        no_current = ap (λ (x : TracedLwp). x.current) is ∙ w.no_current;
        not_lent = (alone.memory.own w.not_lent).0;
      }
