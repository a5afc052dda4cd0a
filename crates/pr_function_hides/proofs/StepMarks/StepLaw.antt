use Rattle.std.proofs.Common.{◌≡◌, ◌⊎◌, ◌++◌, ℕ, true, false, List, ◌∷◌, Some, refl, sym, ap, ◌∙◌, inl, inr}
use Rattle.std.proofs.lemmas.Bool.{eq-eqb, false≢true}
use Rattle.std.proofs.lemmas.Option.{none-some}
use Rattle.pr_function_hides.proofs.StepMarks.PassiveHiders.{are-functions, passive-but}
use Rattle.pr_function_hides.proofs.StepMarks.StepWalk.{Calm, steps-at}
use Rattle.pr_function_hides.proofs.StepMarks.StepsKept.{Releaser, releaser-holds}
use Rattle.pr_function_hides.proofs.Tidy.TidyEntries.{its-legal}
use Rattle.pr_function_hides.proofs.Tidy.TidyKept.{Holder}
use Rattle.pr_function_hides.proofs.Tidy.TidyLaw.{kept-at}
use Rattle.pr_function_hides.specs.OwnSteps.{AreStepsOwn}
use Rattle.pr_function_hides.specs.PassiveOthers.{AreOthersPassive}
use Rattle.pr_function_hides.specs.RunsOfTrusses.{IsRunOfTrusses}
use Rattle.pr_function_laws.proofs.CallTurns.TrapLemmas.{IsTrapless, trapless}
use Rattle.pr_hidden.proofs.Follows.FaultRows.{HowFaulted, by_instruction, by_return, how-faulted, return-marked, trace-effect}
use Rattle.pr_hidden.specs.Hiders.{Hiders, has_hold, is_hold}
use Rattle.pr_hidden.specs.Tidiness.{IsPassiveBut}
use Rattle.pr_lawful.proofs.ProcessParts.HandleLemmas.{any-at, handle-at}
use Rattle.pr_model.proofs.TurnLemmas.{turn-taken}
use Rattle.pr_model.specs.InstructionEffects as instruction
use Rattle.pr_model.specs.InstructionEffects.{InstructionEffect, instruction_effect}
use Rattle.pr_model.specs.Legal.{IsLegalEntry, state_after}
use Rattle.pr_model.specs.LwpTurns.{LwpTurn, settled, turn_of}
use Rattle.pr_model.specs.Rows.{Row, executed_row, row_for, watched_row}
use Rattle.pr_model.specs.State.{TracedLwp, TracedProcess, TracedState, TracedSystem}
use Rattle.pr_model.specs.declared.events.Act.TheVariants as act
use Rattle.pr_model.specs.declared.events.Actor.TheVariants.{Lwp}
use Rattle.pr_model.specs.declared.events.Did.TheVariants.{Faulted}
use Rattle.pr_model.specs.declared.events.Entry.{Entry}
use Rattle.pr_model.specs.declared.events.Turned.{Turned}
use Rattle.pr_num.specs.declared.faults.Flt.TheVariants.{Trace, Watch}
use Rattle.pr_probe_laws.proofs.StepMarks.MarkTurns.{IsOne, unmarked-lwp}
use Rattle.pr_probe_laws.specs.StepMarks.{IsUnstepped}
use Rattle.pr_truss_laws.proofs.Files.OpensLemmas.{handle-controller}
use Rattle.pr_world.specs.ControllerStates.{ControllerState}

-- FLTTRACE comes of a step mark alone, and a step mark stands only where one who hides has the control file open.

-- ---- a step mark

module _ (s : TracedSystem) (pid : ℕ) (p : TracedProcess) (id : ℕ) (l : TracedLwp) where
  executed-marked : (e : InstructionEffect) → IsTrapless e → (executed_row p l e).did ≡ Faulted Trace
      → l.control.step ≡ true
  unfolding executed_row watched_row
  executed-marked (instruction.runs regs store) free did =
      let w = trace-effect p l (instruction.runs regs store) tt did in w.marked
  executed-marked (instruction.calls call regs) free did =
      let w = trace-effect p l (instruction.calls call regs) tt did in w.marked
  executed-marked (instruction.faults f address) free did =
      let w = trace-effect p l (instruction.faults f address) free did in w.marked
  executed-marked (instruction.runs_into_watch address regs store) free did = absurd (clash did)
    where
      clash : Faulted Watch ≡ Faulted Trace → ⊥
      clash e = cc

  -- an lwp that incurs FLTTRACE had one
  pub trace-marked : (row_for s pid p id l).did ≡ Faulted Trace → l.control.step ≡ true
  trace-marked did = by (how-faulted s pid p id l Trace did)
    where
      by : HowFaulted s pid p id l → l.control.step ≡ true
      by (by_instruction runs is) =
          executed-marked (instruction_effect p.space p.control.areas l.regs) (trapless p.space p.control.areas l.regs)
          (ap (λ (row : Row). row.did) (sym is) ∙ did)
      by (by_return call back is) = return-marked p l call (ap (λ (row : Row). row.did) (sym is) ∙ did)

-- ---- who holds a control file

-- one who hides, and has it open
pub holder-hold : (who : Hiders) → ((k : ℕ) → who.probes k ≡ false) → (s : TracedState) (pid : ℕ) → Holder who pid s
    → has_hold who s.opens pid ≡ true
unfolding has_hold
holder-hold who none s pid x =
    any-at (is_hold who pid) s.opens x.number (Some x.held) (handle-at s.opens x.k x.number x.held x.there)
    (rw (eq-eqb x.held.pid pid x.of, x.control, handle-controller s.opens x.k x.number x.held x.there)
    (are-functions who x.k (none x.k) x.hider))

-- ---- along the history

module _ (n : ℕ) (who : Hiders) (controllers : List ControllerState) (first : TracedState) (h : List Entry)
    (run : IsRunOfTrusses n who controllers first h) (others : AreOthersPassive who h)
    (unstepped : IsUnstepped first.system) where
  passive : IsPassiveBut who h
  passive = passive-but run others

  module _ (front back : List Entry) (pid id : ℕ) (t : Turned)
      (place : h ≡ front ++ record { actor = Lwp pid id; act = act.Turn t } ∷ back) where
    abbrev s : TracedState
    s = state_after first front

    its-turn : (x : LwpTurn) × ((turn_of s.system pid id ≡ Some x) × (x.turned ≡ t))
    unfolding IsLegalEntry
    its-turn =
        let legal_here =
        its-legal run front (record { actor = Lwp pid id; act = act.Turn t }) back place
        (kept-at run front
        (record { actor = Lwp pid id; act = act.Turn t } ∷ back) place) in
        (record { system = legal_here.0; turned = t }, (legal_here.1, refl))

    held-so : t.did ≡ Faulted Trace → has_hold who s.opens pid ≡ true
    unfolding settled
    held-so did = by (let w = steps-at run passive unstepped front _ place in w.bare pid)
      where
        by : Calm run passive unstepped front pid ⊎ Releaser run passive unstepped front pid
            → has_hold who s.opens pid ≡ true
        by (inl (inl u)) =
            let it = turn-taken s.system pid id its-turn.0 its-turn.1.0 in
            let row = row_for s.system pid it.process id it.lwp in
            absurd (false≢true
            (sym (unmarked-lwp (IsOne pid) s.system pid it.process id it.lwp refl u it.live it.there)
            ∙ trace-marked s.system pid it.process id it.lwp
            (sym (ap (λ (y : LwpTurn). y.turned.did) it.is)
            ∙ ap (λ (y : Turned). y.did) its-turn.1.1 ∙ did)))
        by (inl (inr gone)) =
            let it = turn-taken s.system pid id its-turn.0 its-turn.1.0 in
            absurd (none-some it.process (sym gone.over ∙ it.live))
        by (inr x) = holder-hold who run.are.no_probes s pid (releaser-holds run passive unstepped front pid x)

  pub own-steps : AreStepsOwn who first h
  own-steps = record { own = λ front back pid id t place did. held-so front back pid id t place did }

pub ruleset steps = (own-steps)
