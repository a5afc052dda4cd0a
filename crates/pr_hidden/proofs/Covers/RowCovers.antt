use Rattle.std.proofs.Common.{◌≡◌, ◌≢◌, ◌&&◌, ℕ, Bool, true, false, length, ltb, Option, Some, None, Result, Ok, Err, List, [], ◌∷◌, map, cond, refl, sym, ◌∙◌, ap, inl, inr}
use Rattle.std.proofs.lemmas.Bool.{cases_Bool}
use Rattle.pr_num.specs.Limits.{frame_limit}
use Rattle.pr_num.specs.Spaces.{Space}
use Rattle.pr_num.specs.declared.faults.Flt.{Flt}
use Rattle.pr_num.specs.declared.faults.Flt.TheVariants.{Trace, Watch}
use Rattle.pr_num.specs.declared.signals.Sig.{Sig}
use Rattle.pr_num.specs.declared.syscalls.Sysno.{Sysno}
use Rattle.pr_parts.specs.AddressSpaces.{with_bytes}
use Rattle.pr_parts.specs.declared.actions.Action.{Action}
use Rattle.pr_parts.specs.declared.actions.Action.TheVariants as act
use Rattle.pr_model.specs.CallEffects.{call_effect}
use Rattle.pr_model.specs.Changes.{Effect, does, ends, sleeps, space_is}
use Rattle.pr_model.specs.InstructionEffects.{InstructionEffect, Store, calls, faults, instruction_effect, runs, runs_into_watch}
use Rattle.pr_model.specs.Machines.{step_taken}
use Rattle.pr_model.specs.Moves as move
use Rattle.pr_model.specs.Registers.{arguments}
use Rattle.pr_model.specs.Rows.{Row, acted_row, call_row, caught_row, current_row_or, entered_row, executed_row, handler_row, incurred_row, instruction_row, interrupted_row, own_taken_row, performed_row, posted_row, posted_row_or, ran_row, requested_row, returned_row, row_for, row_in, shared_taken_row, signal_row_or, taken_or, watched_row}
use Rattle.pr_model.specs.Signals.{action_for, own_takeable, shared_takeable}
use Rattle.pr_model.specs.State.{TracedLwp, TracedProcess, TracedSystem}
use Rattle.pr_model.specs.Transitions.{changing, died, dropped, entered, handled, incurred, interrupted, job_stopped, own_taken, performed, posted, ran, requested, returned, shared_taken, stored_in, trapped}
use Rattle.pr_model.specs.declared.events.Did.TheVariants.{Ran, Faulted as DidFault}
use Rattle.pr_model.specs.declared.lwps.Current.{Current}
use Rattle.pr_model.specs.declared.lwps.Phase.{Phase}
use Rattle.pr_model.specs.declared.lwps.Phase.TheVariants.{User, Entered, Asleep, Exiting, Faulted}
use Rattle.pr_model.specs.declared.stops.Point.TheVariants as point
use Rattle.pr_hidden.specs.Covers.{Cover, Covers, Patch, patched, uncovered, uncovered_lwp, uncovered_process}
use Rattle.pr_hidden.specs.Following.{RunsInstruction, SparesPatches, patched_changes, patched_effect, patched_row}
use Rattle.pr_hidden.specs.Sparing.{AreWithin, spares_call}
use Rattle.pr_hidden.proofs.PatchedSpaces.ByteLemmas.{spares-range}
use Rattle.pr_hidden.proofs.Covers.CallCovers.{call-uncovered}
use Rattle.pr_hidden.proofs.Covers.InstructionCovers.{EffectSpares, StoreSpares, instruction-same}
use Rattle.pr_hidden.proofs.PatchedSpaces.PatchLemmas.{patched-store}

-- Each row of the turn table, without what is hidden: the same row, which leaves the space as programs have it.

-- ---- rows that leave the space

effect-row : (ps : List Patch) (woken : Bool) (call : Sysno) (args : List ℕ) (since : ℕ) (e : Effect)
    → performed_row woken call args since (patched_effect ps e) ≡ patched_row ps (performed_row woken call args since e)
unfolding performed_row performed
effect-row ps woken call args since (does result changes) = refl
effect-row ps woken call args since sleeps = refl
effect-row ps woken call args since (ends how) = refl

handled-row : (ps : List Patch) (own : Bool) (l : TracedLwp) (c : Current) (handler : ℕ)
    → handler_row (uncovered_lwp own l) c handler ≡ patched_row ps (handler_row l c handler)
unfolding handler_row handled uncovered_lwp
handled-row ps own l c handler = by (ltb (length l.frames) frame_limit) refl
  where
    by : (b : Bool) → ltb (length l.frames) frame_limit ≡ b
        → handler_row (uncovered_lwp own l) c handler ≡ patched_row ps (handler_row l c handler)
    by true is = rw is refl
    by false is = rw is refl

caught-row : (ps : List Patch) (own : Bool) (l : TracedLwp) (c : Current) (handler : ℕ) (phase : Phase)
    → caught_row (uncovered_lwp own l) c handler phase ≡ patched_row ps (caught_row l c handler phase)
unfolding caught_row interrupted_row interrupted uncovered_lwp
caught-row ps own l c handler User = handled-row ps own l c handler
caught-row ps own l c handler (Entered call) = refl
caught-row ps own l c handler (Asleep call args since) = refl
caught-row ps own l c handler (Exiting call args result) = handled-row ps own l c handler
caught-row ps own l c handler (Faulted f address) = handled-row ps own l c handler

-- what an instruction stores is stored alike in both spaces
pub stored-patched : (ps : List Patch) → AreWithin ps → (space : Space) (store : Option Store) → StoreSpares ps store
    → stored_in (patched ps space) store ≡ patched_changes ps (stored_in space store)
unfolding stored_in
stored-patched ps within space None spares = refl
stored-patched ps within space (Some store) spares =
    ap (λ (sp : Space). space_is sp ∷ [])
    (sym (patched-store ps store.at store.bytes (spares-range ps store.at (length store.bytes) within spares) space))

module _ (covers : Covers) (s : TracedSystem) (pid : ℕ) (p : TracedProcess) (id : ℕ) (l : TracedLwp) (c : Cover) where
  abbrev u : TracedSystem
  u = uncovered covers s

  abbrev q : TracedProcess
  q = uncovered_process c p

  abbrev m : TracedLwp
  m = uncovered_lwp false l

  abbrev Follows : Row → Row → Type 0
  Follows beneath row = row.did ≢ DidFault Trace → beneath ≡ patched_row c.patches row

  ran-row : AreWithin c.patches → (regs : List ℕ) (store : Option Store) → StoreSpares c.patches store
      → Follows (ran_row q m regs store) (ran_row p l regs store)
  unfolding ran_row ran trapped uncovered_process uncovered_lwp step_taken
  ran-row within regs store spares = by l.control.step refl
    where
      by : (b : Bool) → l.control.step ≡ b → (ran_row p l regs store).did ≢ DidFault Trace
          → ran_row q m regs store ≡ patched_row c.patches (ran_row p l regs store)
      by true marked other = absurd ((rw marked at other) refl)
      by false plain other =
          rw plain (ap (λ cs. instruction_row Ran None (changing cs (move.runs regs)))
          (stored-patched c.patches within p.space store spares))

  executed-row : AreWithin c.patches → (e : InstructionEffect) → EffectSpares c.patches e
      → Follows (executed_row q m e) (executed_row p l e)
  unfolding executed_row entered_row entered incurred_row incurred watched_row trapped uncovered_process
  executed-row within (runs regs store) spares other = ran-row within regs store spares other
  executed-row within (calls call regs) spares other = refl
  executed-row within (faults f address) spares other = refl
  executed-row within (runs_into_watch address regs store) spares other =
      ap (λ cs. instruction_row (DidFault Watch)
      (Some (point.Fault Watch)) (changing cs (move.traps Watch address regs)))
      (stored-patched c.patches within p.space store spares)

  returned-row : (call : Sysno) → Follows (returned_row q m call) (returned_row p l call)
  unfolding returned_row returned trapped stored_in uncovered_process uncovered_lwp step_taken
  returned-row call = by l.control.step refl
    where
      by : (b : Bool) → l.control.step ≡ b → (returned_row p l call).did ≢ DidFault Trace
          → returned_row q m call ≡ patched_row c.patches (returned_row p l call)
      by true marked other = absurd ((rw marked at other) refl)
      by false plain other = rw plain refl

  acted-row : (it : Current) → acted_row q m it ≡ patched_row c.patches (acted_row p l it)
  unfolding acted_row dropped job_stopped died uncovered_process uncovered_lwp
  acted-row it = by (action_for p.dispositions it.signal) refl
    where
      by : (a : Action) → action_for p.dispositions it.signal ≡ a
          → acted_row q m it ≡ patched_row c.patches (acted_row p l it)
      by act.Ignore is = rw is refl
      by act.Stop is = rw is refl
      by act.Die is = rw is refl
      by (act.Catch handler) is = rw is (caught-row c.patches false l it handler l.phase)

  taken-row : (own shared : Option Sig) (beneath row : Row) → (own ≡ None → shared ≡ None → Follows beneath row)
      → Follows (taken_or u pid q id m own shared beneath) (taken_or s pid p id l own shared row)
  unfolding own_taken_row own_taken shared_taken_row shared_taken uncovered_process uncovered_lwp
  taken-row (Some g) shared beneath row follows other = refl
  taken-row None (Some g) beneath row follows other = refl
  taken-row None None beneath row follows other = follows refl refl other

  current-row : (o : Option Current) (beneath row : Row) → (o ≡ None → Follows beneath row)
      → Follows (current_row_or u pid q id m o beneath) (current_row_or s pid p id l o row)
  current-row (Some it) beneath row follows other = acted-row it
  current-row None beneath row follows other = follows refl other

  -- a call, made or made anew
  called-row : c.agent ≡ false → AreWithin c.patches → (woken : Bool) (call : Sysno) (args : List ℕ) (since : ℕ)
      → spares_call c.patches p.space call args ≡ true
      → call_row u pid q id m woken call args since
      ≡ patched_row c.patches (call_row s pid p id l woken call args since)
  unfolding call_row interrupted_row interrupted uncovered_lwp step_taken
  called-row none within woken call args since spared =
      ap (cond l.control.abort (interrupted_row woken call args))
      (ap (performed_row woken call args since)
      (call-uncovered covers s pid p id false l c none within since call args spared)
      ∙ effect-row c.patches woken call args since (call_effect s pid p id l since call args))
      ∙ by l.control.abort (performed_row woken call args since (call_effect s pid p id l since call args))
    where
      by : (b : Bool) (row : Row)
          → cond b (interrupted_row woken call args) (patched_row c.patches row)
          ≡ patched_row c.patches (cond b (interrupted_row woken call args) row)
      by true row = refl
      by false row = refl

  -- ---- the table

  abbrev rest : Phase → Row
  rest phase = posted_row_or s pid p id l phase
      (current_row_or s pid p id l l.current (signal_row_or s pid p id l phase (row_in s pid p id l phase)))

  abbrev rest_beneath : Phase → Row
  rest_beneath phase = posted_row_or u pid q id m phase
      (current_row_or u pid q id m l.current (signal_row_or u pid q id m phase (row_in u pid q id m phase)))

  phase-row : c.agent ≡ false → AreWithin c.patches → SparesPatches c.patches p l → l.control.directed ≡ false
      → (phase : Phase) → l.phase ≡ phase → Follows (rest_beneath phase) (rest phase)
  unfolding signal_row_or row_in uncovered uncovered_process uncovered_lwp own_takeable shared_takeable
      posted_row posted
  phase-row none within spares going User is =
      current-row l.current _ _ (λ current.
      taken-row (own_takeable l) (shared_takeable p l) _ _ (λ own shared.
      let it =
      instruction-same c.patches p.space p.control.areas l.regs
      (spares.instruction (record {
        not_directed = going;
        in_program = is;
        no_current = current;
        none_own = own;
        none_shared = shared;
      })) in
      λ other. ap (executed_row q m) it.same
      ∙ executed-row within (instruction_effect p.space p.control.areas l.regs) it.spares other))
  phase-row none within spares going (Entered call) is =
      current-row l.current _ _ (λ current other.
      called-row none within false call (arguments l.regs) s.clock (spares.called call is))
  phase-row none within spares going (Asleep call args since) is =
      current-row l.current _ _ (λ current.
      taken-row (own_takeable l) (shared_takeable p l) _ _ (λ own shared other.
      called-row none within true call args since (spares.asleep call args since is)))
  phase-row none within spares going (Exiting call args result) is =
      current-row l.current _ _ (λ current.
      taken-row (own_takeable l) (shared_takeable p l) _ _ (λ own shared. returned-row call))
  phase-row none within spares going (Faulted f address) is = λ other. refl

  pub row-uncovered : c.agent ≡ false → AreWithin c.patches → SparesPatches c.patches p l
      → Follows (row_for u pid q id m) (row_for s pid p id l)
  unfolding row_for uncovered_lwp requested_row requested step_taken
  row-uncovered none within spares = by l.control.directed refl
    where
      by : (b : Bool) → l.control.directed ≡ b
          → (cond b requested_row (rest l.phase)).did ≢ DidFault Trace
          → cond b requested_row (rest_beneath l.phase) ≡ patched_row c.patches (cond b requested_row (rest l.phase))
      by true directed other = refl
      by false going other = phase-row none within spares going l.phase refl other
