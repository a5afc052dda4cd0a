use Rattle.std.proofs.Common.{◌≡◌, ◌-◌, ◌&&◌, not, ℕ, suc, Bool, true, false, cond, None, Some, Option, List, [], ◌∷◌, ◌++◌, refl, sym, subst, ap, ◌∙◌, inl, inr, ◌⊎◌}
use Rattle.std.proofs.lemmas.List.{append-nil}
use Rattle.std.proofs.lemmas.Option.{same_Some, none-some}
use Rattle.pr_line.specs.declared.events.Event.{Event}
use Rattle.pr_line.specs.declared.options.Options.{Options}
use Rattle.pr_model.specs.State.{TracedControl, TracedProcess, TracedState, live_process, process_of}
use Rattle.pr_model.specs.Stops.{has_event_stop}
use Rattle.pr_num.specs.Signals.{signal_number}
use Rattle.pr_num.specs.declared.signals.Sig.TheVariants.{Kill}
use Rattle.pr_truss.specs.Trusses.{TrussState, traced_at}
use Rattle.pr_truss.specs.declared.stages.OpeningStep.{OpeningStep}
use Rattle.pr_truss.specs.declared.stages.OpeningStep.TheVariants as opening
use Rattle.pr_truss.specs.declared.stages.Stage.{Stage}
use Rattle.pr_truss_laws.proofs.EventStops.AloneLemmas.{alone-halting, alone-quiet}
use Rattle.pr_truss_laws.specs.Stills.{IsUndisturbed}
use Rattle.pr_truss_laws.proofs.Machine.OutlastLemmas.{Outlasts, lives, killed}
use Rattle.pr_report_laws.proofs.Invariant.Tallies.{IsWhole, Tally, unread}
use Rattle.pr_report_laws.proofs.Machine.FrameLaws.{alone-agent, alone-birth, alone-lwp, alone-event, alone-met, alone-traced, alone-waits}
use Rattle.pr_report_laws.proofs.Invariant.Standing.{Accounted, HasEntries, HasExits, HasFaults, HasSignals, HasStop, IsAttached, IsCounted, IsSpared, Opened, Position, Prepares, Standing, apart, goes, has_event, old_stops, over, stop_read}
use Rattle.pr_report_laws.proofs.Invariant.Standing as standing
use Rattle.pr_report_laws.proofs.Invariant.Positions.{Waits, met_in}
use Rattle.pr_report_laws.specs.Shown.{LwpEvent}
use Rattle.pr_report_laws.specs.Watching.{is_away, place_of, watches, watches_at}

-- What entries leave that are no calls of truss and no turns of the process itself.

-- ---- what is missing

pub accounted-why : (Why Next : Type 0) (tally : Tally) → (Why → Next) → Accounted Why tally
    → Accounted Next tally
accounted-why Why Next tally more a = record {
  missing = a.missing;
  is = a.is;
  few = elim a.few [ inl none ↦ inl none | inr one ↦ inr (one.0, (one.1.0, more one.1.1)) ];
}

-- nothing is missing
pub accounted-all : (Why : Type 0) (tally : Tally) → IsWhole tally → Accounted Why tally
accounted-all Why tally is = record { missing = []; is = is ∙ sym (append-nil tally.told); few = inl refl }

-- the event that is not read yet is missing
pub accounted-unread : (Why : Type 0) (id : ℕ) (event : Event) (tally : Tally) → Why
    → tally.came ≡ tally.told ++ unread tally id event → Accounted Why tally
accounted-unread Why id event tally why is = record {
  missing = unread tally id event;
  is = is;
  few = by (tally.picks event);
}
  where
    by : (b : Bool)
        → (cond {A = List LwpEvent} b (record { id = id; event = event } ∷ []) [] ≡ []) ⊎
        ((e : LwpEvent) × ((cond {A = List LwpEvent} b (record { id = id; event = event } ∷ []) [] ≡ e ∷ []) × Why))
    by true = inr (record { id = id; event = event }, (refl, why))
    by false = inl refl

module _ (Why : Type 0) (o : Options) (stage : Stage) (place old : ℕ) (p : TracedProcess)
    (tally : Tally) where
  -- where the process ends now, for this reason
  pub position-ends : Why → Position o stage place old p tally → Accounted Why tally
  position-ends why (stop_read read waits is) = accounted-all Why tally is
  position-ends why (old_stops n read counts waits is) = accounted-all Why tally is
  position-ends why (goes read named none quiet is) = accounted-all Why tally is
  position-ends why (has_event id event read none one named is) = accounted-unread Why id event tally why is

-- ---- a process that was left alone

module _ (p q : TracedProcess) (alone : IsUndisturbed p q) where
  alone-control : q.control ≡ p.control
  alone-control = ap (λ (x : TracedProcess). x.control) alone.rest

  alone-spared : IsSpared p → IsSpared q
  alone-spared h =
      subst (λ (c : TracedControl). IsSpared (record q { control = c })) (sym alone-control) (record {
        directs = h.directs;
        spares = h.spares;
      })

  alone-stop : HasStop p → HasStop q
  alone-stop h =
      let k = alone-lwp p q alone h.id h.lwp h.there in
      record { id = h.id; lwp = k.0; there = k.1.0; stops = sym (ap has_event_stop k.1.1) ∙ h.stops }

  module _ (o : Options) (old : ℕ) where
    alone-attached : IsAttached p → IsAttached q
    alone-attached h = record {
      spared = alone-spared h.spared;
      halting = alone-halting p q alone h.halting;
      stops = λ none. alone-stop (h.stops (sym (alone-agent p q alone) ∙ none));
      waits =
          λ none. alone-waits p q alone (met_in q)
          (subst (λ n. Waits p n) (sym (alone-met p q alone)) (h.waits (sym (alone-agent p q alone) ∙ none)));
    }

    alone-counted : IsCounted p old → IsCounted q old
    alone-counted h = record {
      attached = alone-attached h.attached;
      counts = λ none. h.counts (sym (alone-agent p q alone) ∙ none) ∙ ap (λ n. n - 1) (sym (alone-met p q alone));
    }

    alone-signals : HasSignals o p old → HasSignals o q old
    alone-signals h = record {
      counted = alone-counted h.counted;
      signals = ap (λ (c : TracedControl). c.traced_signals) alone-control ∙ h.signals;
    }

    alone-faults : HasFaults o p old → HasFaults o q old
    alone-faults h = record {
      before = alone-signals h.before;
      faults = ap (λ (c : TracedControl). c.traced_faults) alone-control ∙ h.faults;
    }

    alone-entries : HasEntries o p old → HasEntries o q old
    alone-entries h = record {
      before = alone-faults h.before;
      entries = ap (λ (c : TracedControl). c.traced_entries) alone-control ∙ h.entries;
    }

    alone-exits : HasExits o p old → HasExits o q old
    alone-exits h = record {
      before = alone-entries h.before;
      exits = ap (λ (c : TracedControl). c.traced_exits) alone-control ∙ h.exits;
    }

    pub alone-opened : (step : OpeningStep) → Opened o step p old → Opened o step q old
    unfolding Opened
    alone-opened opening.OpenStatus h = tt
    alone-opened opening.OpenLstatus h = tt
    alone-opened opening.OpenMemory h = tt
    alone-opened opening.ClearModes h = tt
    alone-opened opening.SetRelease h = alone-spared h
    alone-opened opening.Stop h = alone-spared h
    alone-opened (opening.AwaitStop until) h = (alone-spared h.0, alone-halting p q alone h.1)
    alone-opened opening.ReadLwps h = alone-attached h
    alone-opened opening.TraceSignals h = alone-counted h
    alone-opened opening.TraceFaults h = alone-signals h
    alone-opened opening.TraceEntries h = alone-faults h
    alone-opened opening.TraceExits h = alone-entries h
    alone-opened opening.Follow h = alone-exits h
    alone-opened opening.Start h = alone-exits h

    pub alone-position : (stage : Stage) (place : ℕ) (tally : Tally)
        → Position o stage place old p tally → Position o stage place old q tally
    alone-position stage place tally (stop_read read waits is) =
        stop_read read (alone-waits p q alone (suc old) waits) is
    alone-position stage place tally (old_stops n read counts waits is) =
        old_stops n read counts (alone-waits p q alone (suc n) waits) is
    alone-position stage place tally (goes read named none quiet is) =
        goes read named none (alone-quiet p q alone quiet) is
    alone-position stage place tally (has_event id event read none one named is) =
        has_event id event read none (alone-event p q alone id event one) (λ n. alone-waits p q alone 1 (named n)) is

-- ---- the step

-- what is known of the place of a process tells that it is watched
pub is-watched : (t : TrussState) (pid place : ℕ) → place_of t pid ≡ Some place → (traced_at t place).attached ≡ true
    → is_away t.leaving t.stage place ≡ false → watches t pid ≡ true
unfolding watches
is-watched t pid place at attached here =
    ap (watches_at t) at ∙ ap (λ b. b && not (is_away t.leaving t.stage place)) attached ∙ ap not here

module _ (o : Options) (pid : ℕ) (t : TrussState) (s u : TracedState)
    (outlasts : (p : TracedProcess) → live_process s.system pid ≡ Some p → Outlasts pid p u.system)
    (stays_over : live_process s.system pid ≡ None → live_process u.system pid ≡ None) where
  -- a process that lives later was left alone
  pub lives-later : (q : TracedProcess) → live_process u.system pid ≡ Some q
      → (p : TracedProcess) × ((live_process s.system pid ≡ Some p) × IsUndisturbed p q)
  lives-later q later = by (live_process s.system pid) refl
    where
      left : (p : TracedProcess) → Outlasts pid p u.system → IsUndisturbed p q
      left p (lives r now alone) = subst (IsUndisturbed p) (same_Some r q (sym now ∙ later)) alone
      left p (killed z none at status) = absurd (none-some q (sym none ∙ later))

      by : (x : Option TracedProcess) → live_process s.system pid ≡ x
          → (p : TracedProcess) × ((live_process s.system pid ≡ Some p) × IsUndisturbed p q)
      by None is = absurd (none-some q (sym (stays_over is) ∙ later))
      by (Some p) is = (p, (is, left p (outlasts p is)))

  pub prepares-on : Prepares o pid t s → Prepares o pid t u
  prepares-on h = record {
    opened = λ place step q stage own later.
        let before = lives-later q later in
        alone-opened before.0 q before.1.1 o (traced_at t place).old step
        (h.opened place step before.0 stage own before.1.0);
    until = h.until;
    child = λ parent place step q stage own later.
        let before = lives-later q later in
        alone-birth before.0 q before.1.1 o (h.child parent place step before.0 stage own before.1.0);
    new = h.new;
  }

  pub standing-on : (Why Next : Type 0) (tally : Tally) → (Why → Next)
      → ((p z : TracedProcess) → watches t pid ≡ true → live_process s.system pid ≡ Some p → live_process u.system pid
      ≡ None → process_of u.system pid ≡ Some z → z.ended ≡ Some (signal_number Kill) → Next)
      → Standing Why o pid t s tally → Standing Next o pid t u tally
  standing-on Why Next tally more kills (apart not_watched a) =
      apart not_watched (accounted-why Why Next tally more a)
  standing-on Why Next tally more kills (over watched none a) =
      over watched (stays_over none) (accounted-why Why Next tally more a)
  standing-on Why Next tally more kills (standing.lives place p at attached here live traced position) =
      by (outlasts p live)
    where
      by : Outlasts pid p u.system → Standing Next o pid t u tally
      by (lives q now alone) =
          standing.lives place q at attached here now (alone-traced p q alone o traced)
          (alone-position p q alone o (traced_at t place).old t.stage place tally position)
      by (killed z none found status) =
          over (is-watched t pid place at attached here) none
          (position-ends Next o t.stage place (traced_at t place).old p tally
          (kills p z (is-watched t pid place at attached here) live none found status) position)
