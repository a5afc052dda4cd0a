use Rattle.std.proofs.Common.{◌≡◌, ◌≤◌, ◌<◌, ◌-◌, ℕ, suc, Bool, true, false, is_some, None, Some, Option, List, refl, sym, subst, ap, ◌∙◌, arith}
use Rattle.std.proofs.lemmas.Bool.{false≢true}
use Rattle.std.proofs.lemmas.Option.{same_Some, none-some}
use Rattle.pr_model.specs.Lawful.{IsLawfulSystem}
use Rattle.pr_model.specs.LwpTurns.{LwpTurn, turn_of, with_counted}
use Rattle.pr_model.specs.State.{TracedLwp, TracedProcess, TracedState, TracedSystem, has_agent, live_process, lwp_of}
use Rattle.pr_num.specs.Agents.{agent_id}
use Rattle.std.specs.List.{count_by}
use Rattle.pr_num.specs.ById.{under}
use Rattle.pr_num.specs.Control.{async_mode, has_flags}
use Rattle.pr_num.specs.declared.faults.Flt.{Flt}
use Rattle.pr_model.specs.declared.stops.Stop.{Stop}
use Rattle.pr_model.specs.declared.stops.Stop.TheVariants as stop
use Rattle.pr_report_laws.proofs.Invariant.StandLemmas.{IsThere}
use Rattle.pr_report_laws.proofs.Machine.FrameLaws.{alone-agent, alone-met}
use Rattle.pr_report_laws.proofs.Machine.StoppedLaws.{none-under}
use Rattle.pr_report_laws.specs.AtBirth.{has_met, met_in}
use Rattle.pr_truss.specs.declared.marks.Marks.{Marks}
use Rattle.pr_truss.specs.declared.processes.Traced.{Traced}
use Rattle.pr_truss.specs.declared.stages.OpeningStep.{OpeningStep}
use Rattle.pr_truss.specs.declared.stages.OpeningStep.TheVariants as opening
use Rattle.pr_truss_laws.proofs.EventStops.AloneLemmas.{alone-frozen, alone-halting}
use Rattle.pr_truss_laws.proofs.Machine.StillLemmas.{frozen-turns, halting-leaves, halting-stays}
use Rattle.pr_truss_laws.specs.Stills.{IsFrozen, IsHalting, IsUndisturbed, with_lwp_stopped, stopped_lwp}
use Rattle.pr_function_laws.proofs.Marks.KeptPlaces.{Position, closes, looks, opens, planted_as, rests, runs, to_read}
use Rattle.pr_function_laws.proofs.OpenedProcesses.OneEventLemmas.{alone-few, lwps-few, none-unmet}
use Rattle.pr_function_laws.proofs.OpenedProcesses.OneEventTurns.{turn-few}
use Rattle.pr_function_laws.proofs.OpenedProcesses.OpenedLemmas.{one-agent}
use Rattle.pr_function_laws.proofs.OpenedProcesses.StopTurns.{AreAsStopped, alone-stopped, turn-stopped}
use Rattle.pr_function_laws.specs.OneEvent.{HasOneEventAtMost, unmet}

-- How a process stands that truss opens or has opened: each of its lwps is as it stopped, and one at most stands on an
-- event that it met; or it stands still, with the stops that stood there before truss came, which truss counts.

-- ---- what is said

-- a process stands still, and so many of its lwps at most stand on events that they met
pub record WaitsAtMost (p : TracedProcess) (n : ℕ) : Type 0 where
  pub frozen : IsFrozen p
  pub few : met_in p ≤ n

-- once it is opened: then it is run without run flags as long as it waits so
pub data Stood (flags n : ℕ) (p : TracedProcess) : Type 0 where
  as_stopped : AreAsStopped p → HasOneEventAtMost p → Stood flags n p
  waits : WaitsAtMost p n → flags ≡ 0 → Stood flags n p

-- it was directed to stop, and unless it has an agent it stands still
pub record HasStopped (p : TracedProcess) : Type 0 where
  pub halting : IsHalting p
  pub frozen : has_agent p ≡ false → IsFrozen p

pub record IsCounted (n : ℕ) (p : TracedProcess) : Type 0 where
  pub stopped : HasStopped p
  pub few : has_agent p ≡ false → met_in p ≤ n

-- before a step of its opening, where so many stops are counted as old but the first
abbrev pub StoodOpening : OpeningStep → ℕ → TracedProcess → Type 0
StoodOpening (opening.AwaitStop until) old p = (until ≡ 0) × IsHalting p
StoodOpening opening.ReadLwps old p = HasStopped p
StoodOpening opening.TraceSignals old p = IsCounted (suc old) p
StoodOpening opening.TraceFaults old p = IsCounted (suc old) p
StoodOpening opening.TraceEntries old p = IsCounted (suc old) p
StoodOpening opening.TraceExits old p = IsCounted (suc old) p
StoodOpening opening.Follow old p = IsCounted (suc old) p
StoodOpening opening.Start old p = IsCounted (suc old) p
StoodOpening _ old p = Unit {0}

abbrev pub StoodAt : Position → Traced → TracedProcess → Type 0
StoodAt (opens step) u p = StoodOpening step u.old p
StoodAt rests u p = Stood u.marks.flags u.old p
StoodAt to_read u p = IsFrozen p
StoodAt looks u p = IsFrozen p
StoodAt runs u p = Stood u.marks.flags (suc u.old) p × IsFrozen p
StoodAt closes u p = Unit {0}

-- past the open of it the status file of the lwps is known
abbrev pub KnowsLwps : OpeningStep → Traced → Type 0
KnowsLwps opening.OpenStatus u = Unit {0}
KnowsLwps opening.OpenLstatus u = Unit {0}
KnowsLwps step u = IsThere u.lstatus

-- what truss has of a process that it opens
abbrev pub Prepared : Position → Traced → Type 0
Prepared (opens step) u = (u.marks.flags ≡ 0) × KnowsLwps step u
Prepared _ u = Unit {0}

-- once it is opened it directs its other lwps where one stops
abbrev pub DirectsAt : Position → TracedProcess → Type 0
DirectsAt rests p = has_flags p.control.modes async_mode ≡ false
DirectsAt _ p = Unit {0}

-- all of it, of a process in a state
pub record StandsSo (s : TracedState) (at : Position) (u : Traced) : Type 0 where
  pub prepared : Prepared at u
  pub stood : (p : TracedProcess) → live_process s.system u.pid ≡ Some p → StoodAt at u p

-- ---- truss alone

-- where no lwp stands on an event that it met, each is as it stopped
pub unmet-stopped : (p : TracedProcess) → met_in p ≡ 0 → AreAsStopped p
unmet-stopped p none n l there = record { at_fault = λ f is. absurd (met f is) }
  where
    faulted : (o : Option Stop) (f : Flt) → o ≡ Some (stop.Faulted f)
        → has_met (record l { control = record l.control { stop = o } }) ≡ true
    faulted None f is = absurd (none-some (stop.Faulted f) is)
    faulted (Some t) f is =
        subst (λ (x : Option Stop). has_met (record l { control = record l.control { stop = x } }) ≡ true) (sym is) refl

    met : (f : Flt) → l.control.stop ≡ Some (stop.Faulted f) → ⊥
    met f is =
        false≢true
        (sym (none-under (λ (e : ℕ × TracedLwp). has_met e.1) n l p.lwps there none) ∙ faulted l.control.stop f is)

-- one of which no lwp does
pub none-stood : (flags n : ℕ) (p : TracedProcess) → met_in p ≡ 0 → Stood flags n p
none-stood flags n p none = as_stopped (unmet-stopped p none) (unmet (none-unmet p none))

pub stood-runs : (u : Traced) (p : TracedProcess) → StoodAt rests u p → IsFrozen p → StoodAt runs u p
stood-runs u p (as_stopped all few) frozen = (as_stopped all few, frozen)
stood-runs u p (waits w flags) frozen =
    (waits (record { frozen = w.frozen; few = omega (arith, w.few) }) flags, frozen)

pub stood-counts : (u : Traced) (p : TracedProcess) → StoodAt rests u p → IsFrozen p → 0 < u.old
    → StoodAt runs (record u { old = u.old - 1 }) p
stood-counts u p (as_stopped all few) frozen some = (as_stopped all few, frozen)
stood-counts u p (waits w flags) frozen some =
    (waits (record { frozen = w.frozen; few = omega (arith, w.few, some) }) flags, frozen)

pub stood-meets : (u : Traced) (m : Marks) (p : TracedProcess) → StoodAt rests u p → u.old ≡ 0
    → StoodAt rests (record u { marks = m }) p
stood-meets u m p (as_stopped all few) new = as_stopped all few
stood-meets u m p (waits w flags) new = none-stood m.flags u.old p (omega (arith, w.few, new))

pub stood-plants : (at : Position) (u : Traced) (set : List Bool) (p : TracedProcess) → StoodAt at u p
    → StoodAt at (planted_as u set) p
stood-plants (opens step) u set p h = h
stood-plants rests u set p h = h
stood-plants to_read u set p h = h
stood-plants looks u set p h = h
stood-plants runs u set p h = h
stood-plants closes u set p h = tt

pub prepared-plants : (at : Position) (u : Traced) (set : List Bool) → Prepared at u → Prepared at (planted_as u set)
prepared-plants (opens step) u set h = (h.0, by step h.1)
  where
    by : (step : OpeningStep) → KnowsLwps step u → KnowsLwps step (planted_as u set)
    by opening.OpenStatus h = tt
    by opening.OpenLstatus h = tt
    by _ h = h
prepared-plants rests u set h = tt
prepared-plants to_read u set h = tt
prepared-plants looks u set h = tt
prepared-plants runs u set h = tt
prepared-plants closes u set h = tt

-- what is so of a process is so of another one that halts, has stopped, waits and stands still as it does
module _ (p q : TracedProcess) (halting : IsHalting p → IsHalting q) (has : HasStopped p → HasStopped q)
    (counted : (n : ℕ) → IsCounted n p → IsCounted n q) where
  opening-kept : (step : OpeningStep) (old : ℕ) → StoodOpening step old p → StoodOpening step old q
  opening-kept (opening.AwaitStop until) old h = (h.0, halting h.1)
  opening-kept opening.ReadLwps old h = has h
  opening-kept opening.TraceSignals old h = counted (suc old) h
  opening-kept opening.TraceFaults old h = counted (suc old) h
  opening-kept opening.TraceEntries old h = counted (suc old) h
  opening-kept opening.TraceExits old h = counted (suc old) h
  opening-kept opening.Follow old h = counted (suc old) h
  opening-kept opening.Start old h = counted (suc old) h
  opening-kept opening.OpenStatus old h = tt
  opening-kept opening.OpenLstatus old h = tt
  opening-kept opening.OpenMemory old h = tt
  opening-kept opening.ClearModes old h = tt
  opening-kept opening.SetRelease old h = tt
  opening-kept opening.Stop old h = tt

  at-kept : ((flags n : ℕ) → Stood flags n p → Stood flags n q) → (IsFrozen p → IsFrozen q) → (at : Position)
      (u : Traced) → StoodAt at u p → StoodAt at u q
  at-kept stood still (opens step) u h = opening-kept step u.old h
  at-kept stood still rests u h = stood u.marks.flags u.old h
  at-kept stood still to_read u h = still h
  at-kept stood still looks u h = still h
  at-kept stood still runs u h = (stood u.marks.flags (suc u.old) h.0, still h.1)
  at-kept stood still closes u h = tt

-- ---- a process whose lwps stay

module _ (p q : TracedProcess) (same : q.lwps ≡ p.lwps) where
  was : (n : ℕ) (l : TracedLwp) → lwp_of q n ≡ Some l → lwp_of p n ≡ Some l
  was n l there = ap (under n) (sym same) ∙ there

  lwps-agent : has_agent q ≡ has_agent p
  lwps-agent = ap (λ (es : List (ℕ × TracedLwp)). is_some (under agent_id es)) same

  lwps-met : met_in q ≡ met_in p
  lwps-met = ap (λ (es : List (ℕ × TracedLwp)). count_by (λ (e : ℕ × TracedLwp). has_met e.1) es) same

  pub lwps-frozen : IsFrozen p → IsFrozen q
  lwps-frozen h = record { each = λ n l there. h.each n l (was n l there) }

  lwps-halting : IsHalting p → IsHalting q
  lwps-halting h = record { each = λ n l there. h.each n l (was n l there) }

  lwps-waits : (n : ℕ) → WaitsAtMost p n → WaitsAtMost q n
  lwps-waits n w = record { frozen = lwps-frozen w.frozen; few = omega (arith, w.few, lwps-met) }

  pub lwps-has : HasStopped p → HasStopped q
  lwps-has h = record {
    halting = lwps-halting h.halting;
    frozen = λ none. lwps-frozen (h.frozen (sym lwps-agent ∙ none));
  }

  pub lwps-counted : (n : ℕ) → IsCounted n p → IsCounted n q
  lwps-counted n h = record {
    stopped = lwps-has h.stopped;
    few = λ none. let some = h.few (sym lwps-agent ∙ none) in omega (arith, some, lwps-met);
  }

  pub lwps-stood : q.borrower ≡ p.borrower → (flags n : ℕ) → Stood flags n p → Stood flags n q
  lwps-stood loan flags n (as_stopped all few) =
      as_stopped (λ i l there. all i l (was i l there)) (lwps-few p q same loan few)
  lwps-stood loan flags n (waits w none) = waits (lwps-waits n w) none

  pub lwps-at : q.borrower ≡ p.borrower → (at : Position) (u : Traced) → StoodAt at u p → StoodAt at u q
  lwps-at loan = at-kept p q lwps-halting lwps-has lwps-counted (lwps-stood loan) lwps-frozen

-- ---- a process that others left alone

module _ (p q : TracedProcess) (alone : IsUndisturbed p q) where
  alone-has : HasStopped p → HasStopped q
  alone-has h = record {
    halting = alone-halting p q alone h.halting;
    frozen = λ none. alone-frozen p q alone (h.frozen (sym (alone-agent p q alone) ∙ none));
  }

  alone-counted : (n : ℕ) → IsCounted n p → IsCounted n q
  alone-counted n h = record {
    stopped = alone-has h.stopped;
    few = λ none.
        let some = h.few (sym (alone-agent p q alone) ∙ none) in omega (arith, some, alone-met p q alone);
  }

  pub alone-stood : (flags n : ℕ) → Stood flags n p → Stood flags n q
  alone-stood flags n (as_stopped all few) = as_stopped (alone-stopped p q alone all) (alone-few p q alone few)
  alone-stood flags n (waits w none) =
      waits (record {
        frozen = alone-frozen p q alone w.frozen;
        few = omega (arith, w.few, alone-met p q alone);
      }) none

  pub alone-at : (at : Position) (u : Traced) → StoodAt at u p → StoodAt at u q
  alone-at =
      at-kept p q (alone-halting p q alone) alone-has alone-counted alone-stood (alone-frozen p q alone)

-- ---- a turn of an lwp of the process

stopped-agent : (own : ℕ) (p : TracedProcess) → has_agent (with_lwp_stopped own p) ≡ has_agent p
unfolding with_counted
stopped-agent own p = one-agent own stopped_lwp p

module _ (s : TracedSystem) (pid : ℕ) (p : TracedProcess) (own : ℕ) (t : LwpTurn) (lawful : IsLawfulSystem s)
    (live : live_process s pid ≡ Some p) (turn : turn_of s pid own ≡ Some t) (q : TracedProcess)
    (later : live_process t.system pid ≡ Some q) where
  -- nothing moves in a process that stands still
  no-turn : {A : Type 0} → IsFrozen p → A
  no-turn frozen = absurd (none-some t (sym (frozen-turns s pid p live frozen own) ∙ turn))

  halted : IsHalting p → with_lwp_stopped own p ≡ q
  halted halting =
      same_Some (with_lwp_stopped own p) q (sym (halting-leaves s pid p live halting own t turn) ∙ later)

  pub turn-halting : IsHalting p → IsHalting q
  turn-halting halting = subst IsHalting (halted halting) (halting-stays s pid p live halting own t turn)

  turn-agent : IsHalting p → has_agent q ≡ false → has_agent p ≡ false
  turn-agent halting none =
      sym (stopped-agent own p) ∙ ap (λ (x : TracedProcess). has_agent x) (halted halting) ∙ none

  turn-has : HasStopped p → HasStopped q
  turn-has h = record {
    halting = turn-halting h.halting;
    frozen = λ none. no-turn (h.frozen (turn-agent h.halting none));
  }

  turn-counted : (n : ℕ) → IsCounted n p → IsCounted n q
  turn-counted n h =
      let was = h.stopped in
      record { stopped = turn-has was; few = λ none. no-turn (was.frozen (turn-agent was.halting none)) }

  pub turn-stood : has_flags p.control.modes async_mode ≡ false → (flags n : ℕ) → Stood flags n p → Stood flags n q
  turn-stood directs flags n (as_stopped all few) =
      as_stopped (turn-stopped s pid p own t lawful live turn q later all)
      (turn-few s pid p own t lawful live turn directs q later few)
  turn-stood directs flags n (waits w none) = no-turn w.frozen

  pub turn-at : (at : Position) (u : Traced) → DirectsAt at p → StoodAt at u p → StoodAt at u q
  turn-at (opens step) u directs h =
      opening-kept p q turn-halting turn-has turn-counted step u.old h
  turn-at rests u directs h = turn-stood directs u.marks.flags u.old h
  turn-at to_read u directs h = no-turn h
  turn-at looks u directs h = no-turn h
  turn-at runs u directs h = no-turn h.1
  turn-at closes u directs h = tt
