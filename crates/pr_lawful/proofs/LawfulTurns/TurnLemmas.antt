use Rattle.std.proofs.Common.{◌≡◌, ◌≢◌, ◌&&◌, ℕ, Bool, true, false, eqb, ltb, leb, length, Option, Some, None, List, [], ◌∷◌, refl, sym, subst, ◌∙◌, ap, arith}
use Rattle.std.proofs.lemmas.Bool.{and_parts, eqb-false, false≢true, leb-true, ltb-true}
use Rattle.std.proofs.lemmas.List.{length-append}
use Rattle.std.proofs.lemmas.List.Elements.{All-nil, All-cons, All-append}
use Rattle.std.proofs.lemmas.Option.{same_Some, none-some}
use Rattle.pr_num.specs.Limits.{frame_limit}
use Rattle.pr_num.specs.Signals.{signal_number, default_action}
use Rattle.pr_num.specs.declared.faults.Flt.{Flt}
use Rattle.pr_num.specs.declared.faults.Flt.TheVariants.{Trace, Watch}
use Rattle.pr_num.specs.declared.errnos.Errno.TheVariants.{Intr}
use Rattle.pr_num.specs.declared.signals.Sig.{Sig}
use Rattle.pr_num.specs.declared.signals.Sig.TheVariants.{Kill, Stop, Segv}
use Rattle.pr_num.specs.declared.syscalls.Sysno.{Sysno}
use Rattle.pr_parts.specs.SignalRules.{action_of}
use Rattle.pr_parts.specs.declared.actions.Action.TheVariants as act
use Rattle.pr_keeps.specs.RowKinds as kind
use Rattle.pr_keeps.specs.RowKinds.{RowKind}
use Rattle.pr_keeps.proofs.RowLemmas.{row-kind}
use Rattle.pr_model.specs.CallEffects.{call_effect}
use Rattle.pr_model.specs.Changes as change
use Rattle.pr_model.specs.Changes.{Change, Effect, Ending, ends_process, job_stops, takes_shared}
use Rattle.pr_model.specs.FirstState.{system_process}
use Rattle.pr_model.specs.InstructionEffects as instruction
use Rattle.pr_model.specs.InstructionEffects.{InstructionEffect, Store, instruction_effect}
use Rattle.pr_model.specs.Lawful.{IsHoldable, IsLawfulFrame, AreUncaught, IsLawfulSystem}
use Rattle.pr_model.specs.Lives.{bare_process}
use Rattle.pr_model.specs.LwpTurns.{LwpTurn, settled, turn_of}
use Rattle.pr_model.specs.Moves.{Move, posts, returns, runs, enters, incurs, traps, leaves, sleeps, takes, drops, catches}
use Rattle.pr_model.specs.Registers.{pc_of}
use Rattle.pr_model.specs.Rows.{Row, requested_row, posted_row, returned_row, ran_row, entered_row, incurred_row, watched_row, executed_row, own_taken_row, shared_taken_row, handler_row, interrupted_row, performed_row, row_for}
use Rattle.pr_model.specs.SignalCalls.{can_be_caught}
use Rattle.pr_model.specs.Signals.{action_for, current_of, with_frame, handler_registers, handler_held}
use Rattle.pr_model.specs.State.{TracedLwp, TracedProcess, TracedSystem, live_process, lwp_of, process_of}
use Rattle.pr_model.specs.Transitions.{Transition, moving, changing, ending, stored_in, requested, posted, returned, ran, entered, incurred, trapped, own_taken, shared_taken, handled, dropped, job_stopped, died, interrupted, performed}
use Rattle.pr_model.specs.declared.events.Res.TheVariants.{Error}
use Rattle.pr_model.specs.declared.lwps.Current.{Current}
use Rattle.pr_lawful.proofs.LawfulTurns.EffectLemmas.{IsActing, own-process, own-lwp, Suits, call-suits, stored-suits}
use Rattle.pr_lawful.proofs.LawfulTurns.EndLemmas.{found-live}
use Rattle.pr_lawful.proofs.ProcessParts.FileLemmas.{choice}
use Rattle.pr_lawful.proofs.ProcessParts.InfoLemmas.{current-info}
use Rattle.pr_lawful.proofs.ProcessParts.HoldableLemmas.{holdable-with}
use Rattle.pr_lawful.proofs.LawfulTurns.SuitingLemmas.{SuitsMove, is_stop, SuitChanges, SuitsTransition}
use Rattle.pr_lawful.proofs.LawfulTurns.TransitionLemmas.{settled-lawful}
use Rattle.pr_model.proofs.TurnLemmas.{turn-taken}

-- Every turn leaves the system lawful: a line a row.

-- ---- handlers

-- a signal that is caught can be caught
caught-can : (ds : List ℕ) (g : Sig) (handler : ℕ) → AreUncaught ds → action_for ds g ≡ act.Catch handler
    → can_be_caught g ≡ true
unfolding action_of default_action
caught-can ds Kill handler uncaught is =
    let wrong : act.Die ≡ act.Catch handler = sym (ap (action_of Kill) uncaught.kill) ∙ is in
    cc
caught-can ds Stop handler uncaught is =
    let wrong : act.Stop ≡ act.Catch handler = sym (ap (action_of Stop) uncaught.stop) ∙ is in
    cc
caught-can ds _ handler uncaught is = refl

in-range : (g : Sig) → (leb 1 (signal_number g) && leb (signal_number g) 64) ≡ true
unfolding signal_number
in-range Kill = refl
in-range _ = refl

not-kill : (g : Sig) → can_be_caught g ≡ true → eqb 9 (signal_number g) ≡ false
unfolding signal_number
not-kill Kill catchable = cc
not-kill Stop catchable = refl
not-kill _ catchable = refl

not-stop : (g : Sig) → can_be_caught g ≡ true → eqb 23 (signal_number g) ≡ false
unfolding signal_number
not-stop Kill catchable = refl
not-stop Stop catchable = cc
not-stop _ catchable = refl

held-suits : (c : Current) (held : ℕ) → IsHoldable held → can_be_caught c.signal ≡ true
    → IsHoldable (handler_held c held)
unfolding handler_held
held-suits c held holdable catchable =
    let range = and_parts _ _ (in-range c.signal) in
    holdable-with held (signal_number c.signal) holdable (leb-true _ _ range.0) (leb-true _ _ range.1)
    (eqb-false _ _ (not-kill c.signal catchable)) (eqb-false _ _ (not-stop c.signal catchable))

-- ---- the rows

module _ (s : TracedSystem) (pid : ℕ) (p : TracedProcess) (id : ℕ) (l : TracedLwp) (a : IsActing s pid p id l) where
  abbrev pub SuitsT : Transition → Type 0
  SuitsT t = SuitsTransition s pid p id l t

  SuitsRow : Row → Type 0
  SuitsRow row = SuitsTransition s pid p id l row.transition

  move-suits : (m : Move) → SuitsMove m → is_stop m ≡ false → SuitsT (moving m)
  move-suits m suits goes_on = record {
    changes = tt;
    move = suits;
    alone = λ how is. absurd (none-some how is);
    stop = λ is. absurd (false≢true (sym goes_on ∙ is));
  }

  end-suits : (how : Ending) → SuitsT (ending how)
  end-suits how = record {
    changes = tt;
    move = tt;
    alone = λ other is. (refl, refl);
    stop = λ is. absurd (false≢true is);
  }

  change-suits : (cs : List Change) (m : Move) → SuitChanges pid p id l s cs → SuitsMove m → is_stop m ≡ false
      → SuitsT (changing cs m)
  change-suits cs m changes suits goes_on = record {
    changes = changes;
    move = suits;
    alone = λ how is. absurd (none-some how is);
    stop = λ is. absurd (false≢true (sym goes_on ∙ is));
  }

  store-suits : (store : Option Store) → SuitChanges pid p id l s (stored_in p.space store)
  unfolding stored_in
  store-suits None = tt
  store-suits (Some store) = (stored-suits s pid p id l a store.at store.bytes, tt)

  trap-suits : (f : Flt) (address : ℕ) (regs : List ℕ) (store : Option Store)
      → SuitsT (trapped f address p.space regs store)
  unfolding trapped
  trap-suits f address regs store =
      change-suits (stored_in p.space store) (traps f address regs) (store-suits store) tt refl

  executed-suits : (e : InstructionEffect) → SuitsRow (executed_row p l e)
  unfolding SuitsRow executed_row ran_row entered_row incurred_row watched_row ran entered incurred
  executed-suits (instruction.runs regs store) =
      choice (λ (row : Row). SuitsT row.transition) l.control.step _ _
      (λ marked. trap-suits Trace (pc_of regs) regs store)
      (λ plain. change-suits (stored_in p.space store) (runs regs) (store-suits store) tt refl)
  executed-suits (instruction.calls call regs) = move-suits (enters call regs) tt refl
  executed-suits (instruction.faults f address) = move-suits (incurs f address) tt refl
  executed-suits (instruction.runs_into_watch address regs store) = trap-suits Watch address regs store

  handled-suits : (c : Current) (handler : ℕ) → can_be_caught c.signal ≡ true → SuitsT (handled l c handler)
  unfolding handled
  handled-suits c handler catchable =
      let own = own-lwp s pid p id l a in
      choice SuitsT (ltb (length l.frames) frame_limit) _ _
      (λ room. move-suits
      (catches (with_frame l.regs l.held l.frames) (handler_registers c handler l.regs) (handler_held c l.held))
      (record {
        holdable = held-suits c l.held own.held catchable;
        backs =
            All-append IsLawfulFrame l.frames (record { regs = l.regs; held = l.held } ∷ []) own.frames
            (All-cons IsLawfulFrame (record { regs = l.regs; held = l.held }) [] own.held (All-nil IsLawfulFrame));
        few =
            let below = ltb-true (length l.frames) frame_limit room in
            let more = length-append l.frames (record { regs = l.regs; held = l.held } ∷ []) in
            omega arith;
      }) refl)
      (λ full. end-suits (ends_process (signal_number Segv)))

  performed-suits : (woken : Bool) (call : Sysno) (args : List ℕ) (since : ℕ) (effect : Effect)
      → Suits s pid p id l a effect → SuitsRow (performed_row woken call args since effect)
  unfolding SuitsRow performed_row performed Suits
  performed-suits woken call args since (change.does result changes) suits =
      change-suits changes (leaves call args result) suits tt refl
  performed-suits woken call args since change.sleeps suits = move-suits (sleeps call args since) tt refl
  performed-suits woken call args since (change.ends how) suits = end-suits how

  returned-suits : (call : Sysno) → SuitsRow (returned_row p l call)
  unfolding SuitsRow returned_row returned
  returned-suits call =
      choice (λ (row : Row). SuitsT row.transition) l.control.step _ _
      (λ marked. trap-suits Trace (pc_of l.regs) l.regs None) (λ plain. move-suits returns tt refl)

  kind-suits : (row : Row) → RowKind s pid p id l row → SuitsRow row
  unfolding SuitsRow requested_row requested posted_row posted dropped job_stopped died handler_row own_taken_row
      shared_taken_row own_taken shared_taken interrupted_row interrupted
  kind-suits row (kind.stops now) =
      record { changes = tt; move = tt; alone = λ how is. absurd (none-some how is); stop = λ is. (now, refl) }
  kind-suits row (kind.posts {f = f} {address = address} at) = move-suits (posts f address) tt refl
  kind-suits row (kind.ignores now is) = move-suits drops tt refl
  kind-suits row (kind.stops_job {c = c} now is) = change-suits (job_stops c.signal ∷ []) drops (tt, tt) tt refl
  kind-suits row (kind.dies {c = c} now is) = end-suits (ends_process (signal_number c.signal))
  kind-suits row (kind.catches {c = c} {handler = handler} now is) =
      handled-suits c handler (caught-can p.dispositions c.signal handler (own-process s pid p id l a).uncaught is)
  kind-suits row (kind.takes_own {g = g} none is) =
      move-suits (takes (current_of g l.pending) true) (current-info g l.pending (own-lwp s pid p id l a).pending) refl
  kind-suits row (kind.takes_shared {g = g} none own is) =
      change-suits (takes_shared g ∷ []) (takes (current_of g p.pending) false) (tt, tt)
      (current-info g p.pending (own-process s pid p id l a).pending) refl
  kind-suits row (kind.interrupts {call = call} {args = args} it why) =
      move-suits (leaves call args (Error Intr)) tt refl
  kind-suits row (kind.performs {woken = woken} {call = call} {args = args} {since = since} it goes none) =
      performed-suits woken call args since (call_effect s pid p id l since call args)
      (call-suits s pid p id l a since call args)
  kind-suits row (kind.returns {call = call} at none) = returned-suits call
  kind-suits row (kind.executes at none) = executed-suits (instruction_effect p.space p.control.areas l.regs)

  pub row-suits : SuitsT (row_for s pid p id l).transition
  unfolding SuitsRow
  row-suits = kind-suits (row_for s pid p id l) (row-kind s pid p id l)

  pub row-lawful : IsLawfulSystem (settled s pid p id l (row_for s pid p id l)).system
  unfolding SuitsRow
  row-lawful = settled-lawful s pid p id l a.lawful a.user a.found a.live (row_for s pid p id l) row-suits

-- ---- the turn

-- the system process has no lwp
no-lwp : (s : TracedSystem) (pid id : ℕ) (p : TracedProcess) (l : TracedLwp) → IsLawfulSystem s
    → process_of s pid ≡ Some p → lwp_of p id ≡ Some l → pid ≢ 0
unfolding system_process bare_process
no-lwp s pid id p l h found there is =
    let same : system_process ≡ p = same_Some system_process p (sym h.first ∙ ap (process_of s) (sym is) ∙ found) in
    let none : None ≡ Some l = ap (λ (q : TracedProcess). lwp_of q id) same ∙ there in
    none-some l none

pub acting : (s : TracedSystem) (pid id : ℕ) (p : TracedProcess) (l : TracedLwp) → IsLawfulSystem s
    → live_process s pid ≡ Some p → lwp_of p id ≡ Some l → IsActing s pid p id l
acting s pid id p l h live there =
    let it = found-live s pid p live in
    record { lawful = h; user = no-lwp s pid id p l h it.0 there; found = it.0; live = it.1; there = there }

pub turn-lawful : (s : TracedSystem) (pid id : ℕ) (t : LwpTurn) → IsLawfulSystem s → turn_of s pid id ≡ Some t
    → IsLawfulSystem t.system
turn-lawful s pid id t h turn =
    let it = turn-taken s pid id t turn in
    subst (λ (v : LwpTurn). IsLawfulSystem v.system) (sym it.is)
    (row-lawful s pid it.process id it.lwp (acting s pid id it.process it.lwp h it.live it.there))
