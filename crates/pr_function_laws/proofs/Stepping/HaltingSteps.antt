use Rattle.std.proofs.Common.{◌≡◌, ◌≢◌, ◌-◌, ◌^◌, ℕ, true, false, cond, None, Some, Option, List, refl, sym, subst, ap, ◌∙◌, inl, inr}
use Rattle.std.proofs.lemmas.Bool.{and_parts, cases_Bool, false≢true}
use Rattle.std.proofs.lemmas.Option.{same_Some, none-some}
use Rattle.std.specs.Option.{option_map}
use Rattle.pr_num.proofs.ByIdLaws.{under-change_under}
use Rattle.pr_num.specs.Control.{async_mode, has_flags}
use Rattle.pr_num.specs.Faults.{fault_number}
use Rattle.pr_num.specs.Limits.{all_faults, all_signals}
use Rattle.pr_num.proofs.NumberedLemmas.{has_number-least_signal}
use Rattle.pr_num.proofs.SetLemmas.{has_number-common}
use Rattle.pr_num.specs.Sets.{common_word, has_number, minus_word, without_number}
use Rattle.pr_num.specs.Signals.{least_signal, signal_number}
use Rattle.pr_num.specs.declared.faults.Flt.{Flt}
use Rattle.pr_num.specs.declared.faults.Flt.TheVariants.{Ill, Trace, Watch}
use Rattle.pr_num.specs.declared.signals.Sig.{Sig}
use Rattle.pr_num.specs.declared.signals.Sig.TheVariants.{Hup, Kill}
use Rattle.pr_parts.specs.PendingSignals.{Pending, pending_set}
use Rattle.pr_lawful.proofs.LawfulTurns.EndLemmas.{found-live}
use Rattle.pr_lawful.proofs.LawfulTurns.SuitingLemmas.{SuitsTransition, is_stop}
use Rattle.pr_lawful.proofs.LawfulTurns.TurnLemmas.{acting, row-suits}
use Rattle.pr_model.specs.InstructionEffects.{InstructionEffect, calls, faults, instruction_effect, runs, runs_into_watch}
use Rattle.pr_model.specs.Lawful.{IsLawfulSystem}
use Rattle.pr_model.specs.LwpTurns.{LwpTurn, settled, turn_of, with_counted}
use Rattle.pr_model.specs.Machines.{traced}
use Rattle.pr_model.specs.Messages.{tracing_faults, tracing_signals}
use Rattle.pr_model.specs.Points.{after_meeting, is_traced, meets, stopped_at, with_others_directed, with_stop_at}
use Rattle.pr_model.specs.Rows.{Row, current_row_or, executed_row, incurred_row, own_taken_row, posted_row_or, ran_row, requested_row, row_for, row_in, shared_taken_row, signal_row_or, taken_or, watched_row}
use Rattle.pr_model.specs.Signals.{own_takeable, shared_takeable}
use Rattle.pr_model.specs.State.{TracedControl, TracedLwp, TracedProcess, TracedSystem, live_process, lwp_of, process_of, with_lwp, with_process}
use Rattle.pr_model.specs.Transitions.{after_transition}
use Rattle.pr_model.specs.declared.lwps.Phase.{Phase}
use Rattle.pr_model.specs.declared.stops.Point.{Point}
use Rattle.pr_model.specs.declared.stops.Point.TheVariants.{Signal, Fault}
use Rattle.pr_model.proofs.TurnLemmas.{turn-taken}
use Rattle.pr_reached.specs.Fits.{IsFitProcess, SparesKill}
use Rattle.pr_report_laws.proofs.Machine.TracedPoints.{fit-lwp}
use Rattle.pr_truss_laws.proofs.EventStops.OwnTurnLemmas.{GoesOn, all-directed, meeting-same, row-carries, traced-same}
use Rattle.pr_truss_laws.specs.Stills.{HasSameSettings, IsHalting}
use Rattle.pr_function_laws.specs.Steps.{IsStepped, RunsNoCall, StopsAtAll}

-- The turn of an lwp that is stepped alone: it meets a point that is traced, and the process halts.

-- ---- all signals and all faults

pub every-signal : (g : Sig) → g ≢ Kill
    → has_number (without_number all_signals (signal_number Kill)) (signal_number g) ≡ true
unfolding has_number without_number minus_word common_word signal_number
every-signal Hup other = refl
every-signal Kill other = absurd (other refl)
every-signal _ other = refl

pub every-fault : (f : Flt) → has_number all_faults (fault_number f) ≡ true
unfolding has_number fault_number
every-fault Ill = refl
every-fault _ = refl

-- such a process comes of what truss traces with functions
pub tracing-stops : (c : TracedControl) → has_flags c.modes async_mode ≡ false
    → StopsAtAll (tracing_faults all_faults (tracing_signals all_signals c))
unfolding tracing_faults tracing_signals
tracing-stops c off = record { signals = refl; faults = refl; directs = off }

-- a signal that pends is not SIGKILL, where that does not pend
not-kill : (pending : Pending) (held : ℕ) (g : Sig) → SparesKill pending
    → least_signal (minus_word (pending_set pending) held) ≡ Some g → g ≢ Kill
unfolding minus_word common_word
not-kill pending held g spares least kill =
    absurd (false≢true (sym spares.none ∙ ap (λ h. has_number (pending_set pending) (signal_number h)) (sym kill)
    ∙ pends))
  where
    pends : has_number (pending_set pending) (signal_number g) ≡ true
    pends =
        (and_parts _ _ (sym (has_number-common (pending_set pending) (2 ^ 64 - 1 - held) (signal_number g))
        ∙ has_number-least_signal (minus_word (pending_set pending) held) g least)).0

module _ (s : TracedSystem) (pid : ℕ) (p : TracedProcess) (id : ℕ) (l : TracedLwp) (all : StopsAtAll p.control) where
  signal-met : (g : Sig) → g ≢ Kill → is_traced p.control (Signal g) ≡ true
  unfolding is_traced
  signal-met g other = ap (λ w. has_number w (signal_number g)) all.signals ∙ every-signal g other

  fault-met : (f : Flt) → is_traced p.control (Fault f) ≡ true
  unfolding is_traced
  fault-met f = ap (λ w. has_number w (fault_number f)) all.faults ∙ every-fault f

  -- a row whose point is traced
  abbrev Meets : Row → Type 0
  Meets row = meets p.control row.point ≡ true

  taken-met : (a b : Option Sig) (row : Row) → ((g : Sig) → a ≡ Some g → g ≢ Kill)
      → ((g : Sig) → b ≡ Some g → g ≢ Kill) → Meets row → Meets (taken_or s pid p id l a b row)
  unfolding own_taken_row shared_taken_row
  taken-met (Some g) b row own shared met = signal-met g (own g refl)
  taken-met None (Some g) row own shared met = signal-met g (shared g refl)
  taken-met None None row own shared met = met

  executed-met : l.control.step ≡ true → (e : InstructionEffect) → ((call : _) (regs : List ℕ) → e ≢ calls call regs)
      → Meets (executed_row p l e)
  unfolding executed_row ran_row incurred_row watched_row
  executed-met marked (runs regs store) no_call = rw marked (fault-met Trace)
  executed-met marked (calls call regs) no_call = absurd (no_call call regs refl)
  executed-met marked (faults f address) no_call = fault-met f
  executed-met marked (runs_into_watch address regs store) no_call = fault-met Watch

  module _ (stepped : IsStepped p id l) (no_call : RunsNoCall p l) (fit : IsFitProcess p) where
    rest : Phase → Row
    rest phase =
        posted_row_or s pid p id l phase
        (current_row_or s pid p id l l.current (signal_row_or s pid p id l phase (row_in s pid p id l phase)))

    pub row-is : row_for s pid p id l ≡ taken_or s pid p id l (own_takeable l) (shared_takeable p l)
        (executed_row p l (instruction_effect p.space p.control.areas l.regs))
    unfolding row_for rest signal_row_or row_in
    row-is =
        ap (λ b. cond b requested_row (rest l.phase)) stepped.not_directed ∙ ap rest stepped.in_program
        ∙ ap (λ o. current_row_or s pid p id l o (taken_or s pid p id l (own_takeable l) (shared_takeable p l)
        (executed_row p l (instruction_effect p.space p.control.areas l.regs)))) stepped.no_current

    pub row-met : Meets (row_for s pid p id l)
    unfolding own_takeable shared_takeable
    row-met =
        let own = fit-lwp p id l fit stepped.there in
        subst Meets (sym row-is)
        (taken-met (own_takeable l) (shared_takeable p l) _ (λ g. not-kill l.pending l.held g own.pending)
        (λ g. not-kill p.pending l.held g fit.pending)
        (executed-met stepped.marked (instruction_effect p.space p.control.areas l.regs) no_call.is_none))

-- ---- the process halts

module _ (s : TracedSystem) (pid : ℕ) (p : TracedProcess) (id : ℕ) (l : TracedLwp) (t : LwpTurn)
    (live : live_process s pid ≡ Some p) (stepped : IsStepped p id l) (all : StopsAtAll p.control)
    (no_call : RunsNoCall p l) (fit : IsFitProcess p) (turn : turn_of s pid id ≡ Some t) where
  abbrev row : Row
  row = row_for s pid p id l

  pub turn-is : t ≡ settled s pid p id l row
  turn-is =
      let it = turn-taken s pid id t turn in
      let same : it.process ≡ p = same_Some it.process p (sym it.live ∙ live) in
      let there : lwp_of p id ≡ Some it.lwp = subst (λ (y : TracedProcess). lwp_of y id ≡ Some it.lwp) same it.there in
      it.is ∙ ap (λ (y : TracedProcess). settled s pid y id it.lwp (row_for s pid y id it.lwp)) same
      ∙ ap (λ (k : TracedLwp). settled s pid p id k (row_for s pid p id k))
      (same_Some it.lwp l (sym there ∙ stepped.there))

  pub step-stops : t.turned.stop ≡ true
  unfolding settled
  step-stops = ap (λ (x : LwpTurn). x.turned.stop) turn-is ∙ row-met s pid p id l all stepped no_call fit

  module _ (h : IsLawfulSystem s) where
    before_point : TracedSystem
    before_point =
        with_process pid (with_counted row.did row.begun) (after_transition traced pid p id l row.transition s)

    suits : SuitsTransition s pid p id l row.transition
    suits = row-suits s pid p id l (acting s pid id p l h live stepped.there)

    no-request : is_stop row.transition.move ≡ false
    no-request =
        elim (cases_Bool (is_stop row.transition.move)) [
          | inl is ↦ absurd (false≢true (sym stepped.not_directed ∙ (let it = suits in it.stop is).0))
          | inr not_stop ↦ not_stop
        ]

    found-before : (q : TracedProcess) → process_of t.system pid ≡ Some q
        → option_map (after_meeting row.point id) (process_of before_point pid) ≡ Some q
    unfolding settled with_process before_point
    found-before q at =
        sym (under-change_under pid (after_meeting row.point id) before_point.processes)
        ∙ ap (λ (x : LwpTurn). process_of x.system pid) (sym turn-is) ∙ at

    met-halts : (point : Option Point) (x : TracedProcess) → GoesOn p x → meets p.control point ≡ true
        → IsHalting (after_meeting point id x)
    unfolding after_meeting with_stop_at with_others_directed with_lwp
    met-halts None x goes met = absurd (false≢true met)
    met-halts (Some pt) x goes met =
        let here : is_traced x.control pt ≡ true = traced-same p x goes.settings pt ∙ met in
        let settings = goes.settings in
        let off : has_flags x.control.modes async_mode ≡ false =
        ap (λ (c : TracedControl). has_flags c.modes async_mode) settings.control ∙ all.directs in
        rw (here, off) (all-directed (with_lwp id (stopped_at pt) x))

    -- the process before the lwp met its point, and what it has become of the one that stood there
    carried-from : (q : TracedProcess) → q.ended ≡ None → (o : Option TracedProcess) → process_of before_point pid ≡ o
        → option_map (after_meeting row.point id) o ≡ Some q
        → (x : TracedProcess) × (GoesOn p x × (after_meeting row.point id x ≡ q))
    unfolding before_point
    carried-from q over None at is = absurd (none-some q is)
    carried-from q over (Some x) at is =
        let q-is : after_meeting row.point id x ≡ q = same_Some (after_meeting row.point id x) q is in
        let same = meeting-same (λ (y : TracedProcess). y.ended) (λ y es. refl) row.point id x in
        let carried = row-carries pid p id l row s h no-request suits in
        let a = carried.from x at (sym same ∙ ap (λ (y : TracedProcess). y.ended) q-is ∙ over) in
        let was = found-live s pid p live in
        (x, (subst (λ (y : TracedProcess). GoesOn y x) (same_Some a.0 p (sym a.1.0 ∙ was.0)) a.1.1, q-is))

    pub carried : (q : TracedProcess) → live_process t.system pid ≡ Some q
        → (x : TracedProcess) × (GoesOn p x × (after_meeting row.point id x ≡ q))
    carried q after =
        let now = found-live t.system pid q after in
        carried-from q now.1 (process_of before_point pid) refl (found-before q now.0)

    pub step-halts : (q : TracedProcess) → live_process t.system pid ≡ Some q → IsHalting q
    step-halts q after =
        let it = carried q after in
        subst IsHalting it.1.1 (met-halts row.point it.0 it.1.0 (row-met s pid p id l all stepped no_call fit))

    pub step-settings : (q : TracedProcess) → live_process t.system pid ≡ Some q → HasSameSettings p q
    step-settings q after =
        let it = carried q after in
        let goes : GoesOn p it.0 = it.1.0 in
        let same : q.control ≡ it.0.control =
        ap (λ (y : TracedProcess). y.control) (sym it.1.1)
        ∙ meeting-same (λ (y : TracedProcess). y.control) (λ y es. refl) row.point id it.0 in
        let settings : HasSameSettings p it.0 = goes.settings in
        record {
          control = same
              ∙ settings.control
              ∙ ap (λ (c : TracedControl). record p.control { areas = c.areas; usage = c.usage }) (sym same);
        }

pub ruleset halts = (step-stops, step-halts)

pub ruleset traces = (tracing-stops)
