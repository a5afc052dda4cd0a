use Rattle.std.proofs.Common.{◌≡◌, ◌≢◌, ◌<◌, ℕ, position, option_map, Option, Some, None, sym, subst, ap, ◌∙◌, inl, inr}
use Rattle.std.proofs.lemmas.Bool.{cases_eq}
use Rattle.std.proofs.lemmas.Option.{none-some, same_Some}
use Rattle.pr_line.specs.Functions.{function_limit}
use Rattle.pr_line.specs.declared.options.Options.{Options}
use Rattle.pr_model.specs.LwpTurns.{LwpTurn, turn_of, with_counted}
use Rattle.pr_model.specs.Machines.{stopped_as_directed}
use Rattle.pr_model.specs.Registers.{pc_of}
use Rattle.pr_model.specs.State.{TracedLwp, TracedProcess, TracedSystem, live_process, lwp_of, with_lwp}
use Rattle.pr_model.specs.Stops.{directed, with_all_directed}
use Rattle.pr_model.specs.Points.{stop_at}
use Rattle.pr_model.specs.declared.events.Did.TheVariants.{Faulted}
use Rattle.pr_model.specs.declared.stops.Point.{Point}
use Rattle.pr_model.specs.declared.stops.Point.TheVariants.{Fault, Signal}
use Rattle.pr_model.specs.declared.stops.Stop.TheVariants as stop
use Rattle.pr_num.proofs.ByIdLaws.{under-change_under, under-change_under_other}
use Rattle.pr_num.specs.ById.{IsRising}
use Rattle.pr_num.specs.declared.faults.Flt.{Flt}
use Rattle.pr_num.specs.declared.faults.Flt.TheVariants.{Trace}
use Rattle.pr_report_laws.proofs.Machine.FrameLaws.{alone-lwp}
use Rattle.pr_truss.specs.FunctionEvents.{begins_at}
use Rattle.pr_truss.specs.declared.marks.Stepped.{Stepped}
use Rattle.pr_truss_laws.proofs.EventStops.AloneLemmas.{alone-halting}
use Rattle.pr_truss_laws.proofs.EventStops.OwnTurnLemmas.{all-directed}
use Rattle.pr_truss_laws.proofs.Machine.StillLemmas.{halting-stays}
use Rattle.pr_truss_laws.specs.Stills.{IsHalting, IsUndisturbed, stopped_lwp, with_lwp_stopped}
use Rattle.pr_function_laws.proofs.LeavingProcesses.LeavingFacts.{Moved, alone, directed-from, directed-is, directs, stays}
use Rattle.pr_function_laws.proofs.OpenedProcesses.StopTurns.{directed-leaves}
use Rattle.pr_function_laws.proofs.CallTurns.TurnPoints.{did_at}
use Rattle.pr_function_laws.proofs.CallTurns.TurnStates.{Steps, had-no-turn, steps-kept}
use Rattle.pr_function_laws.specs.Turns.{first_arguments}

-- How the lwp stands whose step over a function is under way in a process that truss leaves: it is stepped alone still;
-- or its process halts, and it stands at the trace trap or does not.

-- ---- the trace trap

-- it stands at none
abbrev pub NoTrap : ℕ → TracedProcess → Type 0
NoTrap id p = (l : TracedLwp) → lwp_of p id ≡ Some l → l.control.stop ≢ Some (stop.Faulted Trace)

pub record AtTrap (id : ℕ) (p : TracedProcess) : Type 0 where
  pub halting : IsHalting p
  pub lwp : TracedLwp
  pub there : lwp_of p id ≡ Some lwp
  pub stop : lwp.control.stop ≡ Some (stop.Faulted Trace)

requested-not : Some stop.Requested ≡ Some (stop.Faulted Trace) → ⊥
requested-not same = let both : stop.Requested ≡ stop.Faulted Trace = same_Some _ _ same in cc

module _ (id : ℕ) (p q : TracedProcess) where
  -- others leave the process alone
  pub alone-notrap : IsUndisturbed p q → NoTrap id p → NoTrap id q
  alone-notrap w none l there at =
      let was = w.each id l there in
      none was.0 was.1.0 (ap (λ (x : TracedLwp). x.control.stop) (sym was.1.1) ∙ at)

  pub alone-trap : IsUndisturbed p q → AtTrap id p → AtTrap id q
  alone-trap w a =
      let it = alone-lwp p q w id a.lwp a.there in
      let was = w.each id it.0 it.1.0 in
      let same : was.0 ≡ a.lwp = same_Some was.0 a.lwp (sym was.1.0 ∙ a.there) in
      record {
        halting = alone-halting p q w a.halting;
        lwp = it.0;
        there = it.1.0;
        stop = ap (λ (x : TracedLwp). x.control.stop) was.1.1 ∙ ap (λ (x : TracedLwp). x.control.stop) same ∙ a.stop;
      }

-- all lwps of it are directed to stop
directed-notrap : (id : ℕ) (p : TracedProcess) → NoTrap id p → NoTrap id (with_all_directed p)
directed-notrap id p none l there at =
    let was = directed-from p id l there in
    let leaves = directed-leaves in
    none was.0 was.1.0 (sym (leaves.stops was.0) ∙ ap (λ (x : TracedLwp). x.control.stop) was.1.1 ∙ at)

directed-trap : (id : ℕ) (p : TracedProcess) → IsHalting (with_all_directed p) → AtTrap id p
    → AtTrap id (with_all_directed p)
directed-trap id p halts a = record {
  halting = halts;
  lwp = directed a.lwp;
  there = directed-is p id a.lwp a.there;
  stop = let leaves = directed-leaves in leaves.stops a.lwp ∙ a.stop;
}

-- the turn of an lwp of a process that halts
other-same : (id own : ℕ) (p : TracedProcess) → own ≢ id → lwp_of (with_lwp_stopped own p) id ≡ lwp_of p id
unfolding with_lwp with_counted
other-same id own p differs = under-change_under_other own id stopped_lwp differs p.lwps

own-same : (id : ℕ) (p : TracedProcess) → lwp_of (with_lwp_stopped id p) id ≡ option_map stopped_lwp (lwp_of p id)
unfolding with_lwp with_counted
own-same id p = under-change_under id stopped_lwp p.lwps

pub turn-notrap : (id own : ℕ) (p : TracedProcess) → NoTrap id p → NoTrap id (with_lwp_stopped own p)
unfolding stopped_as_directed
turn-notrap id own p none l there at = elim (cases_eq own id) [
  | inl same ↦
      by (lwp_of p id)
      (sym (own-same id p) ∙ ap (λ i. lwp_of (with_lwp_stopped i p) id) (sym same) ∙ there)
  | inr differs ↦ none l (sym (other-same id own p differs) ∙ there) at
]
  where
    by : (o : Option TracedLwp) → option_map stopped_lwp o ≡ Some l → ⊥
    by None is = none-some l is
    by (Some x) is =
        requested-not (ap (λ (y : TracedLwp). y.control.stop) (same_Some (stopped_lwp x) l is) ∙ at)

pub turn-trap : (id own : ℕ) (s : TracedSystem) (pid : ℕ) (p : TracedProcess) (t : LwpTurn)
    → live_process s pid ≡ Some p → turn_of s pid own ≡ Some t → AtTrap id p → AtTrap id (with_lwp_stopped own p)
turn-trap id own s pid p t live took a = elim (cases_eq own id) [
  | inl same ↦ absurd
      (had-no-turn id a.lwp (Fault Trace) s pid p t live (subst (λ i. turn_of s pid i ≡ Some t) same took)
      (record {
        halting = a.halting;
        there = (a.lwp, a.there);
        own = λ l there. ap (λ (x : TracedLwp). x.control.stop) (same_Some l a.lwp (sym there ∙ a.there)) ∙ a.stop;
      }))
  | inr differs ↦ record {
    halting = halting-stays s pid p live a.halting own t took;
    lwp = a.lwp;
    there = other-same id own p differs ∙ a.there;
    stop = a.stop;
  }
]

-- a point that a step meets with a trace trap
pub trap-point : (point : Point) → did_at point ≡ Faulted Trace → stop_at point ≡ stop.Faulted Trace
trap-point point is = by point is
  where
    by : (x : Point) → did_at x ≡ Faulted Trace → stop_at x ≡ stop.Faulted Trace
    by (Signal g) same = cc
    by (Fault f) same = ap (λ (g : Flt). stop.Faulted g) (cc)
    by _ same = cc

-- where it stands at a trace trap it met one
pub point-trap : (point : Point) → stop_at point ≡ stop.Faulted Trace → did_at point ≡ Faulted Trace
point-trap point is = by point is
  where
    by : (x : Point) → stop_at x ≡ stop.Faulted Trace → did_at x ≡ Faulted Trace
    by (Signal g) same = cc
    by (Fault f) same = ap (λ (g : Flt). Faulted g) (cc)
    by _ same = cc

-- ---- a step that is under way

-- the step is that of an lwp that stood like this one, at the function, with the arguments in r1 to r3
pub record IsStepOf (o : Options) (step : Stepped) (stood : TracedLwp) : Type 0 where
  pub found : position (begins_at (pc_of stood.regs)) o.functions ≡ Some step.function
  pub few : step.function < function_limit
  pub holds : first_arguments stood.regs ≡ step.arguments

-- It is stepped alone; or its process halts, and it stands at no trace trap.
pub data Ready (o : Options) (step : Stepped) (p : TracedProcess) : Type 0 where
  runs : (stood : TracedLwp) → IsStepOf o step stood → Steps step.lwp stood p → Ready o step p
  rests : IsHalting p → NoTrap step.lwp p → Ready o step p

pub steps-notrap : (id : ℕ) (stood : TracedLwp) (p : TracedProcess) → Steps id stood p → NoTrap id p
steps-notrap id stood p w l there at =
    let stepped = w.stepped in
    let one : w.lwp ≡ l = same_Some w.lwp l (sym stepped.there ∙ there) in
    none-some _ (sym w.no_stop ∙ ap (λ (x : TracedLwp). x.control.stop) one ∙ at)

module _ (o : Options) (step : Stepped) where
  pub ready-notrap : (p : TracedProcess) → Ready o step p → NoTrap step.lwp p
  ready-notrap p (runs stood of w) = steps-notrap step.lwp stood p w
  ready-notrap p (rests halts none) = none

  pub alone-ready : (p q : TracedProcess) → IsUndisturbed p q → IsRising p.lwps → IsRising q.lwps → Ready o step p
      → Ready o step q
  alone-ready p q w rises later (runs stood of x) = runs stood of (steps-kept step.lwp stood p q w rises later x)
  alone-ready p q w rises later (rests halts none) =
      rests (alone-halting p q w halts) (alone-notrap step.lwp p q w none)

  -- truss acts on it, or on another
  pub moved-ready : (p q : TracedProcess) → Moved p q → IsRising p.lwps → IsRising q.lwps → Ready o step p
      → Ready o step q
  moved-ready p q (stays is) rises later r = subst (Ready o step) is r
  moved-ready p q (directs is) rises later r =
      rests (subst IsHalting is (all-directed p))
      (subst (NoTrap step.lwp) is (directed-notrap step.lwp p (ready-notrap p r)))
  moved-ready p q (alone w) rises later r = alone-ready p q w rises later r

pub moved-trap : (id : ℕ) (p q : TracedProcess) → Moved p q → AtTrap id p → AtTrap id q
moved-trap id p q (stays is) a = subst (AtTrap id) is a
moved-trap id p q (directs is) a = subst (AtTrap id) is (directed-trap id p (all-directed p) a)
moved-trap id p q (alone w) a = alone-trap id p q w a
