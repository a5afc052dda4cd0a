use Rattle.std.proofs.Common.{◌≡◌, ◌≢◌, ℕ, Bool, true, false, cond, is_some, Option, Some, None, refl, sym, ap, ◌∙◌}
use Rattle.std.proofs.lemmas.Option.{none-some, same_Some}
use Rattle.std.specs.Option.{option_and_then}
use Rattle.pr_line.specs.Events.{event_for, event_of}
use Rattle.pr_line.specs.declared.events.Event.{Event}
use Rattle.pr_model.proofs.StateLemmas.{representative-agent}
use Rattle.pr_model.specs.State.{TracedLwp, TracedProcess, has_agent, lwp_of}
use Rattle.pr_model.specs.Statuses.{fault_in, lwpstatus_of, reason_shown, signal_in, status_of_found}
use Rattle.pr_model.specs.Stops.{representative, shown, shown_by_job}
use Rattle.pr_model.specs.declared.lwps.Current.{Current}
use Rattle.pr_model.specs.declared.lwps.Phase.{Phase}
use Rattle.pr_model.specs.declared.lwps.Phase.TheVariants.{Faulted as AtFault}
use Rattle.pr_model.specs.declared.stops.Shown.TheVariants.{Suspended}
use Rattle.pr_model.specs.declared.stops.Stop.{Stop}
use Rattle.pr_model.specs.declared.stops.Stop.TheVariants as stop
use Rattle.pr_num.specs.Agents.{agent_id}
use Rattle.pr_num.specs.declared.faults.Flt.{Flt}
use Rattle.pr_num.specs.declared.signals.Sig.{Sig}
use Rattle.pr_rec.specs.NoLwp.{no_lwp}
use Rattle.pr_rec.specs.declared.lwps.LwpStatus.{LwpStatus}
use Rattle.pr_truss_laws.specs.Stills.{StandsOnEvent}
use Rattle.pr_function_laws.proofs.Stepping.FaultLemmas.{StandsAtFault}
use Rattle.pr_function_laws.specs.Lifted.{TellsOfFault}

-- A process of which truss reads that an lwp is at a fault stands at that fault.

-- ---- an lwp

pub no-event : (s : LwpStatus) (suspended : Bool) (job : Option Sig)
    → option_and_then (event_for s) (reason_shown (cond suspended (Some Suspended) (shown_by_job job))) ≡ None
unfolding reason_shown
no-event s true job = refl
no-event s false None = refl
no-event s false (Some g) = refl

pub told-stands : (p : TracedProcess) (id : ℕ) (l : TracedLwp) (event : Event)
    → event_of (lwpstatus_of p id l) ≡ Some event → StandsOnEvent l
unfolding event_of lwpstatus_of shown reason_shown
told-stands p id l event is = by l.control.stop refl is
  where
    by : (o : Option Stop) → l.control.stop ≡ o
        → event_of (lwpstatus_of p id (record l { control = record l.control { stop = o } })) ≡ Some event
        → StandsOnEvent l
    by None at it =
        let m : TracedLwp = record l { control = record l.control { stop = None } } in
        absurd (none-some event (sym (no-event (lwpstatus_of p id m) l.suspended p.job_stop) ∙ it))
    by (Some stop.Requested) at it = absurd (none-some event it)
    by (Some (stop.Signalled g)) at it = record { stop = stop.Signalled g; is = at; met = refl }
    by (Some (stop.SysEntry c)) at it = record { stop = stop.SysEntry c; is = at; met = refl }
    by (Some (stop.SysExit c)) at it = record { stop = stop.SysExit c; is = at; met = refl }
    by (Some (stop.Faulted f)) at it = record { stop = stop.Faulted f; is = at; met = refl }

told-faulted : (phase : Phase) (fault : Flt) → fault_in phase ≡ Some fault
    → (address : ℕ) × (phase ≡ AtFault fault address)
unfolding fault_in
told-faulted (AtFault f address) fault is = (address, ap (λ g. AtFault g address) (same_Some f fault is))
told-faulted _ fault is = absurd (none-some fault is)

told-quiet : (c : Option Current) → signal_in c ≡ None → c ≡ None
unfolding signal_in
told-quiet None none = refl
told-quiet (Some c) none = cc

told-agent : (p : TracedProcess) (e : ℕ × TracedLwp) → representative p ≡ Some e → e.0 ≢ agent_id
    → has_agent p ≡ false
told-agent p e leads other = by (lwp_of p agent_id) refl
  where
    by : (o : Option TracedLwp) → lwp_of p agent_id ≡ o → is_some o ≡ false
    by None none = refl
    by (Some l) there =
        absurd (other (ap (λ (x : ℕ × TracedLwp). x.0)
        (same_Some e (agent_id, l) (sym leads ∙ representative-agent p l there))))

-- ---- its process

pub none-on : event_of no_lwp ≡ None
unfolding event_of no_lwp
none-on = refl

pub told-fault : (p : TracedProcess) (id : ℕ) (l : LwpStatus) (event : Event)
    → status_of_found p (representative p) ≡ l → event_of l ≡ Some event → TellsOfFault l id → p.borrower ≡ None
    → StandsAtFault p id
unfolding lwpstatus_of
told-fault p id l event same on told lent = by (representative p) refl
  where
    by : (o : Option (ℕ × TracedLwp)) → representative p ≡ o → StandsAtFault p id
    by None none =
        let is : l ≡ no_lwp = sym same ∙ ap (status_of_found p) none in
        absurd (none-some event (sym none-on ∙ ap event_of (sym is) ∙ on))
    by (Some e) leads =
        let is : l ≡ lwpstatus_of p e.0 e.1 = sym same ∙ ap (status_of_found p) leads in
        let own : e.0 ≡ id = ap (λ (x : LwpStatus). x.id) (sym is) ∙ told.its in
        let at =
        told-faulted e.1.phase told.fault (ap (λ (x : LwpStatus). x.fault) (sym is) ∙ told.at_fault) in
        record {
          no_agent = told-agent p e leads (λ agent. told.no_agent (sym own ∙ agent));
          lwp = e.1;
          leads = leads ∙ ap (λ (n : ℕ). let it : Option (ℕ × TracedLwp) = Some (n, e.1) in it) own;
          stop = told-stands p e.0 e.1 event (ap event_of (sym is) ∙ on);
          fault = told.fault;
          address = at.0;
          at_fault = at.1;
          no_current = told-quiet e.1.current (ap (λ (x : LwpStatus). x.signal) (sym is) ∙ told.no_signal);
          not_lent = lent;
        }
