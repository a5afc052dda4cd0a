use Rattle.std.proofs.Common.{◌≡◌, ◌-◌, ℕ, suc, Bool, false, is_some, Some, List, sym, ap, ◌∙◌, arith}
use Rattle.std.proofs.lemmas.Option.{none-some, same_Some}
use Rattle.std.specs.List.{count_by}
use Rattle.pr_model.specs.Lawful.{IsLawfulSystem}
use Rattle.pr_model.specs.LwpTurns.{LwpTurn, turn_of, with_counted}
use Rattle.pr_model.specs.State.{TracedLwp, TracedProcess, TracedState, TracedSystem, has_agent, live_process}
use Rattle.pr_num.specs.Agents.{agent_id}
use Rattle.pr_num.specs.ById.{under}
use Rattle.pr_report_laws.proofs.Machine.FrameLaws.{alone-agent, alone-met, alone-waits}
use Rattle.pr_report_laws.specs.AtBirth.{Waits, has_met, met_in}
use Rattle.pr_truss.specs.declared.processes.Traced.{Traced}
use Rattle.pr_truss.specs.declared.stages.OpeningStep.{OpeningStep}
use Rattle.pr_truss.specs.declared.stages.OpeningStep.TheVariants as opening
use Rattle.pr_truss_laws.proofs.EventStops.AloneLemmas.{alone-frozen, alone-halting}
use Rattle.pr_truss_laws.proofs.Machine.StillLemmas.{frozen-turns, halting-leaves}
use Rattle.pr_truss_laws.specs.Stills.{IsFrozen, IsHalting, IsUndisturbed, stopped_lwp, with_lwp_stopped}
use Rattle.pr_function_laws.proofs.Marks.KeptPlaces.{IsLastingWhere, Position, closes, looks, opens, planted_as, rests, runs, to_read}
use Rattle.pr_function_laws.proofs.OpenedProcesses.OpenedLemmas.{one-agent}
use Rattle.pr_function_laws.proofs.OpenedProcesses.StoodLemmas.{HasStopped, lwps-frozen, lwps-has, turn-halting}

-- How many stops are left of a process that stood there before truss came: just as many as truss counts; and as long as
-- some are left the process stands still, and is run without run flags.

-- ---- what is said

-- it stands still, with so many events that its lwps met, and is run with no run flags
pub record HasLeft (flags n : ℕ) (p : TracedProcess) : Type 0 where
  pub unset : flags ≡ 0
  pub waits : Waits p n

-- truss counts none, or so many are left
pub data AreLeft (flags old n : ℕ) (p : TracedProcess) : Type 0 where
  none_left : old ≡ 0 → AreLeft flags old n p
  some_left : HasLeft flags n p → AreLeft flags old n p

-- It was directed to stop; and unless it has an agent those are counted that are left, but the first.
pub record AreCounted (old : ℕ) (p : TracedProcess) : Type 0 where
  pub stopped : HasStopped p
  pub count : has_agent p ≡ false → old ≡ met_in p - 1

-- before a step of its opening
abbrev pub CountedOpening : OpeningStep → ℕ → TracedProcess → Type 0
CountedOpening opening.TraceSignals old p = AreCounted old p
CountedOpening opening.TraceFaults old p = AreCounted old p
CountedOpening opening.TraceEntries old p = AreCounted old p
CountedOpening opening.TraceExits old p = AreCounted old p
CountedOpening opening.Follow old p = AreCounted old p
CountedOpening opening.Start old p = AreCounted old p
CountedOpening _ old p = Unit {0}

-- by where truss has come with it; it looks at no stop that it counts
abbrev pub CountedAt : Position → Traced → TracedProcess → Type 0
CountedAt (opens step) u p = CountedOpening step u.old p
CountedAt rests u p = AreLeft u.marks.flags u.old u.old p
CountedAt to_read u p = Unit {0}
CountedAt looks u p = u.old ≡ 0
CountedAt runs u p = AreLeft u.marks.flags u.old (suc u.old) p
CountedAt closes u p = Unit {0}

-- of a process in a state, if it lives
pub record CountsSo (s : TracedState) (at : Position) (u : Traced) : Type 0 where
  pub each : (p : TracedProcess) → live_process s.system u.pid ≡ Some p → CountedAt at u p

-- none is left of one that lives
pub record HasNoneOld (s : TracedState) (u : Traced) : Type 0 where
  pub none : (p : TracedProcess) → live_process s.system u.pid ≡ Some p → u.old ≡ 0

-- ---- truss alone

counts-plants : (s : TracedState) (at : Position) (u : Traced) (set : List Bool) → CountsSo s at u
    → CountsSo s at (planted_as u set)
counts-plants s (opens step) u set h = record { each = h.each }
counts-plants s rests u set h = record { each = h.each }
counts-plants s to_read u set h = record { each = λ p live. tt }
counts-plants s looks u set h = record { each = h.each }
counts-plants s runs u set h = record { each = h.each }
counts-plants s closes u set h = record { each = λ p live. tt }

-- where it looks at none that it counts
pub counts-lasting : (s : TracedState)
    → IsLastingWhere (CountsSo s) (HasNoneOld s) (λ (pid : ℕ). Unit {0})
counts-lasting s = record {
  may_close = λ at u its h. record { each = λ p live. tt };
  reads = λ u seen h g. record { each = seen.none };
  may_run = λ u h g. record { each = λ p live. none_left (g.each p live) };
  counts = λ u h g some. record {
    each = λ p live. (let none : u.old ≡ 0 = g.each p live in absurd (omega (arith, some, none)));
  };
  sees = λ u m g. record { each = g.each };
  meets = λ u m seen h new. record { each = λ p live. none_left new };
  plants = λ at u set its h. counts-plants s at u set h;
  loosens = λ u m h. record { each = λ p live. tt };
}

-- ---- the machine

-- what is so of a process is so of another one that has stopped, and waits, as it does
module _ (p q : TracedProcess) (counted : (old : ℕ) → AreCounted old p → AreCounted old q)
    (left : (flags n : ℕ) → HasLeft flags n p → HasLeft flags n q) where
  opening-kept : (step : OpeningStep) (old : ℕ) → CountedOpening step old p → CountedOpening step old q
  opening-kept opening.TraceSignals old h = counted old h
  opening-kept opening.TraceFaults old h = counted old h
  opening-kept opening.TraceEntries old h = counted old h
  opening-kept opening.TraceExits old h = counted old h
  opening-kept opening.Follow old h = counted old h
  opening-kept opening.Start old h = counted old h
  opening-kept _ old h = tt

  left-kept : (flags old n : ℕ) → AreLeft flags old n p → AreLeft flags old n q
  left-kept flags old n (none_left none) = none_left none
  left-kept flags old n (some_left w) = some_left (left flags n w)

  at-kept : (at : Position) (u : Traced) → CountedAt at u p → CountedAt at u q
  at-kept (opens step) u h = opening-kept step u.old h
  at-kept rests u h = left-kept u.marks.flags u.old u.old h
  at-kept to_read u h = tt
  at-kept looks u h = h
  at-kept runs u h = left-kept u.marks.flags u.old (suc u.old) h
  at-kept closes u h = tt

-- a process whose lwps stay
module _ (p q : TracedProcess) (same : q.lwps ≡ p.lwps) where
  same-agent : has_agent q ≡ has_agent p
  same-agent = ap (λ (es : List (ℕ × TracedLwp)). is_some (under agent_id es)) same

  same-met : met_in q ≡ met_in p
  same-met = ap (λ (es : List (ℕ × TracedLwp)). count_by (λ (e : ℕ × TracedLwp). has_met e.1) es) same

  pub counted-lwps : (old : ℕ) → AreCounted old p → AreCounted old q
  counted-lwps old h = record {
    stopped = lwps-has p q same h.stopped;
    count = λ none. h.count (sym same-agent ∙ none) ∙ ap (λ n. n - 1) (sym same-met);
  }

  left-lwps : (flags n : ℕ) → HasLeft flags n p → HasLeft flags n q
  left-lwps flags n h =
      let w = h.waits in
      record {
        unset = h.unset;
        waits = record { frozen = lwps-frozen p q same w.frozen; count = same-met ∙ w.count };
      }

  pub lwps-counted-at : (at : Position) (u : Traced) → CountedAt at u p → CountedAt at u q
  lwps-counted-at = at-kept p q counted-lwps left-lwps

-- one that others left alone
module _ (p q : TracedProcess) (alone : IsUndisturbed p q) where
  counted-alone : (old : ℕ) → AreCounted old p → AreCounted old q
  counted-alone old h =
      let was = h.stopped in
      record {
        stopped = record {
          halting = alone-halting p q alone was.halting;
          frozen = λ none. alone-frozen p q alone (was.frozen (sym (alone-agent p q alone) ∙ none));
        };
        count = λ none.
            h.count (sym (alone-agent p q alone) ∙ none) ∙ ap (λ n. n - 1) (sym (alone-met p q alone));
      }

  left-alone : (flags n : ℕ) → HasLeft flags n p → HasLeft flags n q
  left-alone flags n h = record { unset = h.unset; waits = alone-waits p q alone n h.waits }

  pub alone-counted-at : (at : Position) (u : Traced) → CountedAt at u p → CountedAt at u q
  alone-counted-at = at-kept p q counted-alone left-alone

-- a turn of an lwp of it
stopped-agent : (own : ℕ) (p : TracedProcess) → has_agent (with_lwp_stopped own p) ≡ has_agent p
unfolding with_counted
stopped-agent own p = one-agent own stopped_lwp p

module _ (s : TracedSystem) (pid : ℕ) (p : TracedProcess) (own : ℕ) (t : LwpTurn) (lawful : IsLawfulSystem s)
    (live : live_process s pid ≡ Some p) (turn : turn_of s pid own ≡ Some t) (q : TracedProcess)
    (later : live_process t.system pid ≡ Some q) where
  no-turn : {A : Type 0} → IsFrozen p → A
  no-turn frozen = absurd (none-some t (sym (frozen-turns s pid p live frozen own) ∙ turn))

  was-agent : IsHalting p → has_agent q ≡ false → has_agent p ≡ false
  was-agent halting none =
      sym (stopped-agent own p)
      ∙ ap (λ (x : TracedProcess). has_agent x)
      (same_Some (with_lwp_stopped own p) q (sym (halting-leaves s pid p live halting own t turn) ∙ later))
      ∙ none

  counted-turn : (old : ℕ) → AreCounted old p → AreCounted old q
  counted-turn old h =
      let was = h.stopped in
      record {
        stopped = record {
          halting = turn-halting s pid p own t lawful live turn q later was.halting;
          frozen = λ none. no-turn (was.frozen (was-agent was.halting none));
        };
        count = λ none. no-turn (was.frozen (was-agent was.halting none));
      }

  left-turn : (flags n : ℕ) → HasLeft flags n p → HasLeft flags n q
  left-turn flags n h = let w = h.waits in no-turn w.frozen

  pub turn-counted-at : (at : Position) (u : Traced) → CountedAt at u p → CountedAt at u q
  turn-counted-at = at-kept p q counted-turn left-turn
