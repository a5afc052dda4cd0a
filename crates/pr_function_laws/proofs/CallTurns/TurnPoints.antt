use Rattle.std.proofs.Common.{◌≡◌, ◌≢◌, ℕ, true, false, cond, is_some, Option, Some, None, List, refl, sym, subst, ap, ◌∙◌}
use Rattle.std.proofs.lemmas.Bool.{false≢true}
use Rattle.std.proofs.lemmas.Option.{none-some, same_Some}
use Rattle.std.specs.Option.{option_map}
use Rattle.pr_lawful.proofs.LawfulTurns.EndLemmas.{found-live}
use Rattle.pr_model.specs.InstructionEffects.{InstructionEffect, calls, faults, instruction_effect, runs, runs_into_watch}
use Rattle.pr_model.specs.Lawful.{IsLawfulSystem}
use Rattle.pr_model.specs.LwpTurns.{LwpTurn, settled, turn_of}
use Rattle.pr_model.specs.Points.{after_meeting, is_traced, meets, stop_at, stopped_at, with_others_directed, with_stop_at}
use Rattle.pr_model.specs.Rows.{Row, entered_row, executed_row, incurred_row, own_taken_row, ran_row, row_for, shared_taken_row, taken_or, watched_row}
use Rattle.pr_model.specs.Signals.{own_takeable, shared_takeable}
use Rattle.pr_model.specs.State.{TracedControl, TracedLwp, TracedProcess, TracedSystem, live_process, lwp_of, process_of, with_lwp}
use Rattle.pr_model.specs.Stops.{directed, with_all_directed}
use Rattle.pr_model.specs.Transitions.{incurred, own_taken, shared_taken, trapped}
use Rattle.pr_model.specs.declared.events.Did.{Did}
use Rattle.pr_model.specs.declared.events.Did.TheVariants as did
use Rattle.pr_model.specs.declared.stops.Point.{Point}
use Rattle.pr_model.specs.declared.stops.Point.TheVariants.{Signal, Fault, Entry, Exit}
use Rattle.pr_num.proofs.ByIdLaws.{under-change_under, under-map_each}
use Rattle.pr_num.specs.ById.{under}
use Rattle.pr_num.specs.Control.{async_mode, has_flags}
use Rattle.pr_num.specs.declared.faults.Flt.{Flt}
use Rattle.pr_num.specs.declared.faults.Flt.TheVariants.{Trace, Watch}
use Rattle.pr_num.specs.declared.signals.Sig.{Sig}
use Rattle.pr_num.specs.declared.syscalls.Sysno.{Sysno}
use Rattle.pr_reached.specs.Fits.{IsFitProcess}
use Rattle.pr_report_laws.proofs.Machine.StayingLwps.{keeps-meeting, row-leaves, settled-to}
use Rattle.pr_truss_laws.proofs.EventStops.OwnTurnLemmas.{GoesOn, traced-same}
use Rattle.pr_function_laws.proofs.Stepping.HaltingSteps.{carried, row-is, row-met, turn-is}
use Rattle.pr_function_laws.proofs.CallTurns.TrapLemmas.{IsTrapless, trapless}
use Rattle.pr_function_laws.specs.Turns.{RunsInstruction}
use Rattle.pr_function_laws.specs.Steps.{IsStepped, RunsNoCall, StopsAtAll}

-- The point that an lwp meets in the turn in which it is stepped alone: what it did, and on which event it stands then.

-- what a turn did that met a point
abbrev pub did_at : Point → Did
did_at (Signal g) = did.Took g
did_at (Fault f) = did.Faulted f
did_at (Entry call) = did.Entered call
did_at (Exit call) = did.Returned call

-- a signal or a fault: what a step meets
abbrev pub IsOfStep : Point → Type 0
IsOfStep (Signal g) = Unit {0}
IsOfStep (Fault f) = Unit {0}
IsOfStep _ = ⊥

-- it met one, and ends neither its lwp nor its process
pub record MeetsPoint (row : Row) : Type 0 where
  pub point : Point
  pub kind : IsOfStep point
  pub is : row.point ≡ Some point
  pub did : row.did ≡ did_at point
  pub goes_on : row.transition.ending ≡ None

took-not : (g : Sig) → did.Took g ≡ did.Faulted Trace → ⊥
took-not g is = cc

entered-not : (call : Sysno) → did.Entered call ≡ did.Faulted Trace → ⊥
entered-not call is = cc

watch-not : did.Faulted Watch ≡ did.Faulted Trace → ⊥
watch-not is = cc

fault-same : (f g : Flt) → did.Faulted f ≡ did.Faulted g → f ≡ g
fault-same f g is = cc

-- ---- its row

module _ (s : TracedSystem) (pid : ℕ) (p : TracedProcess) (id : ℕ) (l : TracedLwp) where
  taken-point : (a b : Option Sig) (row : Row) → MeetsPoint row → MeetsPoint (taken_or s pid p id l a b row)
  unfolding own_taken_row shared_taken_row own_taken shared_taken
  taken-point (Some g) b row otherwise = record { point = Signal g; kind = tt; is = refl; did = refl; goes_on = refl }
  taken-point None (Some g) row otherwise =
      record { point = Signal g; kind = tt; is = refl; did = refl; goes_on = refl }
  taken-point None None row otherwise = otherwise

  executed-point : l.control.step ≡ true → (e : InstructionEffect)
      → ((call : Sysno) (regs : List ℕ) → e ≢ calls call regs) → MeetsPoint (executed_row p l e)
  unfolding executed_row ran_row incurred_row watched_row trapped incurred
  executed-point marked (runs regs store) no_call =
      rw marked (record { point = Fault Trace; kind = tt; is = refl; did = refl; goes_on = refl })
  executed-point marked (calls call regs) no_call = absurd (no_call call regs refl)
  executed-point marked (faults f address) no_call =
      record { point = Fault f; kind = tt; is = refl; did = refl; goes_on = refl }
  executed-point marked (runs_into_watch address regs store) no_call =
      record { point = Fault Watch; kind = tt; is = refl; did = refl; goes_on = refl }

  pub row-point : IsStepped p id l → StopsAtAll p.control → RunsNoCall p l → IsFitProcess p
      → MeetsPoint (row_for s pid p id l)
  row-point stepped all no_call fit =
      subst MeetsPoint (sym (row-is s pid p id l all stepped no_call fit))
      (taken-point (own_takeable l) (shared_takeable p l) _
      (executed-point stepped.marked (instruction_effect p.space p.control.areas l.regs) no_call.is_none))

  -- ---- its instruction

  taken-ran : (a b : Option Sig) (row : Row) → (row.did ≡ did.Faulted Trace → RunsInstruction p l)
      → (let taken : Row = taken_or s pid p id l a b row in taken.did) ≡ did.Faulted Trace → RunsInstruction p l
  unfolding own_taken_row shared_taken_row
  taken-ran (Some g) b row otherwise is = absurd (took-not g is)
  taken-ran None (Some g) row otherwise is = absurd (took-not g is)
  taken-ran None None row otherwise is = otherwise is

  executed-ran : (e : InstructionEffect) → instruction_effect p.space p.control.areas l.regs ≡ e → IsTrapless e
      → (let row : Row = executed_row p l e in row.did) ≡ did.Faulted Trace → RunsInstruction p l
  unfolding executed_row entered_row incurred_row watched_row
  executed-ran (runs regs store) at trapless_so is = record { regs = regs; store = store; is = at }
  executed-ran (calls call regs) at trapless_so is = absurd (entered-not call is)
  executed-ran (faults f address) at trapless_so is = absurd (trapless_so (fault-same f Trace is))
  executed-ran (runs_into_watch address regs store) at trapless_so is = absurd (watch-not is)

  pub row-ran : IsStepped p id l → StopsAtAll p.control → RunsNoCall p l → IsFitProcess p
      → (let row : Row = row_for s pid p id l in row.did) ≡ did.Faulted Trace → RunsInstruction p l
  row-ran stepped all no_call fit is =
      taken-ran (own_takeable l) (shared_takeable p l)
      (executed_row p l (instruction_effect p.space p.control.areas l.regs))
      (executed-ran (instruction_effect p.space p.control.areas l.regs) refl (trapless p.space p.control.areas l.regs))
      (ap (λ (row : Row). row.did) (sym (row-is s pid p id l all stepped no_call fit)) ∙ is)

-- ---- its stop

-- the lwp of an id, if it is there, stands at this point
abbrev pub StandsAt : Point → ℕ → TracedProcess → Type 0
StandsAt point id p = (l : TracedLwp) → lwp_of p id ≡ Some l → l.control.stop ≡ Some (stop_at point)

stopped-one : (point : Point) (o : Option TracedLwp) (l : TracedLwp)
    → option_map directed (option_map (stopped_at point) o) ≡ Some l → l.control.stop ≡ Some (stop_at point)
unfolding directed stopped_at
stopped-one point None l is = absurd (none-some l is)
stopped-one point (Some k) l is = ap (λ (x : TracedLwp). x.control.stop) (sym (same_Some _ l is))

stop-stands : (point : Point) (id : ℕ) (x : TracedProcess)
    → StandsAt point id (with_all_directed (with_lwp id (stopped_at point) x))
unfolding with_all_directed with_lwp
stop-stands point id x l there =
    stopped-one point (under id x.lwps) l
    (sym (under-map_each id directed _
    ∙ ap (option_map directed) (under-change_under id (stopped_at point) x.lwps)) ∙ there)

module _ (s : TracedSystem) (pid : ℕ) (p : TracedProcess) (id : ℕ) (l : TracedLwp) (t : LwpTurn)
    (live : live_process s pid ≡ Some p) (stepped : IsStepped p id l) (all : StopsAtAll p.control)
    (no_call : RunsNoCall p l) (fit : IsFitProcess p) (turn : turn_of s pid id ≡ Some t) where
  abbrev row : Row
  row = row_for s pid p id l

  pub step-point : MeetsPoint row
  step-point = row-point s pid p id l stepped all no_call fit

  pub step-did : t.turned.did ≡ (let it = step-point in did_at it.point)
  unfolding settled
  step-did =
      ap (λ (x : LwpTurn). x.turned.did) (turn-is s pid p id l t live stepped all no_call fit turn)
      ∙ (let it = step-point in it.did)

  pub step-ran : t.turned.did ≡ did.Faulted Trace → RunsInstruction p l
  unfolding settled
  step-ran is =
      row-ran s pid p id l stepped all no_call fit
      (sym (ap (λ (x : LwpTurn). x.turned.did) (turn-is s pid p id l t live stepped all no_call fit turn)) ∙ is)

  met-stands : (point : Point) (o : Option Point) (x : TracedProcess) → o ≡ Some point → GoesOn p x
      → meets p.control o ≡ true → StandsAt point id (after_meeting o id x)
  unfolding after_meeting with_stop_at with_others_directed with_lwp
  met-stands point None x is goes met = absurd (none-some point is)
  met-stands point (Some pt) x is goes met =
      let here : is_traced x.control pt ≡ true = traced-same p x goes.settings pt ∙ met in
      let settings = goes.settings in
      let off : has_flags x.control.modes async_mode ≡ false =
      ap (λ (c : TracedControl). has_flags c.modes async_mode) settings.control ∙ all.directs in
      subst (λ a. StandsAt a id (cond (is_traced x.control pt)
      (cond (has_flags x.control.modes async_mode) (with_lwp id (stopped_at pt) x)
      (with_all_directed (with_lwp id (stopped_at pt) x))) x)) (same_Some pt point is)
      (rw (here, off) (stop-stands pt id x))

  pub step-stands : IsLawfulSystem s → (q : TracedProcess) → live_process t.system pid ≡ Some q
      → (let it = step-point in StandsAt it.point id q)
  step-stands h q after =
      let it = carried s pid p id l t live stepped all no_call fit turn h q after in
      let at = step-point in
      subst (StandsAt at.point id) it.1.1
      (met-stands at.point row.point it.0 at.is it.1.0
      (row-met s pid p id l all stepped no_call fit))

  -- the lwp is there still
  pub step-there : IsLawfulSystem s → (q : TracedProcess) → live_process t.system pid ≡ Some q
      → (k : TracedLwp) × (lwp_of q id ≡ Some k)
  unfolding settled
  step-there h q after =
      let at = step-point in
      let x = row-leaves s pid p id l h live stepped.there at.goes_on in
      let kept = x.1.1 in
      let meeting = keeps-meeting id row.point x.0 in
      let now : process_of t.system pid ≡ Some (after_meeting row.point id x.0) =
      ap (λ (v : LwpTurn). process_of v.system pid) (turn-is s pid p id l t live stepped all no_call fit turn)
      ∙ settled-to s pid p id l h live stepped.there x.0 x.1.0 in
      let same : after_meeting row.point id x.0 ≡ q =
      same_Some (after_meeting row.point id x.0) q (sym now ∙ (found-live t.system pid q after).0) in
      some-lwp (lwp_of q id) refl
      (ap (λ (y : TracedProcess). is_some (lwp_of y id)) (sym same)
      ∙ meeting.own (kept.own (ap (λ (o : Option TracedLwp). is_some o) stepped.there)))
    where
      some-lwp : (o : Option TracedLwp) → lwp_of q id ≡ o → is_some (lwp_of q id) ≡ true
          → (k : TracedLwp) × (lwp_of q id ≡ Some k)
      some-lwp None none is = absurd (false≢true (sym (ap (λ (x : Option TracedLwp). is_some x) none) ∙ is))
      some-lwp (Some k) there is = (k, there)
