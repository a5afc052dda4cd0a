use Rattle.std.proofs.Common.{◌≡◌, ◌≢◌, ℕ, Bool, true, false, not, ◌&&◌, is_some, eqb, ltb, length, Option, Some, None, List, [], ◌∷◌, cond, refl, sym, subst, ◌∙◌, ap}
use Rattle.std.proofs.lemmas.Bool.{or_parts}
use Rattle.std.specs.Option.{option_map, option_or}
use Rattle.pr_num.specs.Agents.{agent_id}
use Rattle.pr_num.specs.Limits.{frame_limit}
use Rattle.pr_num.specs.declared.faults.Flt.{Flt}
use Rattle.pr_num.specs.declared.faults.Flt.TheVariants.{Ill, Bpt, Trace, Watch, Access, Bounds, Stack, Izdiv}
use Rattle.pr_num.specs.declared.signals.Sig.{Sig}
use Rattle.pr_num.specs.declared.syscalls.Sysno.{Sysno}
use Rattle.pr_parts.specs.declared.actions.Action.{Action}
use Rattle.pr_parts.specs.declared.actions.Action.TheVariants as act
use Rattle.pr_model.specs.Changes.{Effect, Ending, ends_process, is_over, all_changed}
use Rattle.pr_model.specs.Changes as change
use Rattle.pr_model.specs.Erasure.{erased_lwp, erased_process, erased_system, erased_phase}
use Rattle.pr_model.specs.InstructionEffects.{InstructionEffect, Store, instruction_effect}
use Rattle.pr_model.specs.InstructionEffects as instruction
use Rattle.pr_model.specs.LwpTurns.{is_held_back, settled}
use Rattle.pr_model.specs.Machines.{UntracedLwp, in_program, unchanged, untraced}
use Rattle.pr_model.specs.Moves.{catches, takes, posts, returns, moved}
use Rattle.pr_model.specs.Rows.{Row, handler_row, caught_row, interrupted_row, acted_row, performed_row, quiet_row, instruction_row, requested_row, posted_row, returned_row, entered_row, incurred_row, ran_row, executed_row, own_taken_row, shared_taken_row}
use Rattle.pr_model.specs.CallEffects.{call_effect}
use Rattle.pr_model.specs.Registers.{arguments}
use Rattle.pr_model.specs.declared.lwps.Current.{Current}
use Rattle.pr_erasure.proofs.SeenTurns.DecisionLemmas.{decided}
use Rattle.pr_erasure.proofs.SeenTurns.EffectLemmas.{IsProperEffect}
use Rattle.pr_model.specs.Signals.{action_for, with_frame, handler_registers, handler_held, own_takeable, shared_takeable, takeable, current_of}
use Rattle.pr_num.specs.Sets.{minus_word}
use Rattle.pr_num.specs.declared.signals.Sig.TheVariants.{Segv}
use Rattle.pr_num.specs.Signals.{signal_number, least_signal}
use Rattle.pr_parts.specs.SignalRules.{takeable_signal}
use Rattle.pr_parts.specs.PendingSignals.{pending_set}
use Rattle.pr_model.specs.State.{TracedLwp, TracedProcess, TracedSystem, live_process, lwp_of, with_lwp_of}
use Rattle.pr_model.specs.Transitions.{performed, interrupted, handled, dropped, job_stopped, died, ending, moving, stored_in, after_transition, posted, returned, ran, entered, incurred, own_taken, shared_taken}
use Rattle.pr_model.specs.UntracedMachine.{MayStep, MakesStep, IsUnsignalled, RunsProgram, takes_in, takes_own, takes_shared, wakes, is_caught, is_caught_by, at_it, asleep_in_it, Acting, ignores, stops, kills, handles, acts_on, interrupts_call, interrupts_sleep, makes_call, falls_asleep, executes, incurs, UntracedRun, ends_here, by_call_entry, step_by}
use Rattle.pr_model.specs.UntracedSteps.{steps_of_turn, steps_of_fault}
use Rattle.pr_model.specs.declared.events.Did.TheVariants as did
use Rattle.pr_model.specs.declared.lwps.Phase.{Phase}
use Rattle.pr_model.specs.declared.lwps.Phase.TheVariants.{User, Entered, Asleep, Exiting, Faulted}
use Rattle.pr_model.specs.declared.steps.Step.TheVariants.{Fault, Act as ActOn}
use Rattle.pr_erasure.specs.Suiting.{AreProper}
use Rattle.pr_erasure.proofs.SeenParts.BareLemmas.{same-system}
use Rattle.pr_erasure.proofs.SeenTurns.FaultLemmas.{plain}
use Rattle.pr_erasure.specs.PlainEffects.{IsPlain}
use Rattle.pr_erasure.specs.Suiting.{HasNoFault}
use Rattle.pr_erasure.proofs.SeenParts.StateLemmas.{lwp-erased, live-erased, unmoved}
use Rattle.pr_erasure.proofs.SeenTurns.TransitionLemmas.{requested-bare, settled-erased}
use Rattle.pr_erasure.specs.Suiting.{IsThere, Suits}
use Rattle.pr_model.proofs.StateLemmas.{live_process-found}

-- Each row of the turn table, as programs see it: which steps of the untraced machine it is.

-- An lwp that may have a turn and is not directed to stop, in a process of which nothing is watched; it has no mark of
-- a controller, and is not the agent.
pub record HasTurn (s : TracedSystem) (pid : ℕ) (p : TracedProcess) (id : ℕ) (l : TracedLwp) : Type 0 where
  pub live : live_process s pid ≡ Some p
  pub there : lwp_of p id ≡ Some l
  pub free : is_held_back p id l ≡ false
  pub not_directed : l.control.directed ≡ false
  pub no_agent : eqb id agent_id ≡ false
  pub no_step : l.control.step ≡ false
  pub no_abort : l.control.abort ≡ false
  pub unwatched : p.control.areas ≡ []

-- the row is these steps
abbrev pub RowRuns : TracedSystem → ℕ → TracedProcess → ℕ → TracedLwp → Row → Type 0
RowRuns s pid p id l row =
    (returning : Bool)
    → UntracedRun (erased_system s) (steps_of_turn returning pid id row.did)
    (erased_system (settled s pid p id l row).system)

is_there : (s : TracedSystem) (pid : ℕ) (p : TracedProcess) (id : ℕ) (l : TracedLwp) → HasTurn s pid p id l
    → IsThere s pid p id l
is_there s pid p id l h = record { found = live_process-found s pid p h.live; there = h.there }

-- a directed lwp stops, also where it may make no step
pub requested-runs : (s : TracedSystem) (pid : ℕ) (p : TracedProcess) (id : ℕ) (l : TracedLwp)
    → RowRuns s pid p id l requested_row
unfolding requested_row
requested-runs s pid p id l returning =
    subst (λ v. UntracedRun (erased_system s) [] v)
    (sym (same-system (settled s pid p id l requested_row).system s (requested-bare s pid p id l))) ends_here

-- ---- it may make a step

none_there : {A : Type 0} (o : Option A) (excepted : Bool) → (is_some o && not excepted) ≡ false → excepted ≡ false
    → o ≡ None
none_there None excepted e other = refl
none_there (Some x) true e other = cc
none_there (Some x) false e other = cc

module _ (s : TracedSystem) (pid : ℕ) (p : TracedProcess) (id : ℕ) (l : TracedLwp) (h : HasTurn s pid p id l) where
  may_step : MayStep (erased_system s) pid id (erased_process p) (erased_lwp l)
  unfolding is_held_back erased_process erased_lwp
  may_step =
      let moves = or_parts l.suspended _ (or_parts (is_some l.control.stop) _ h.free).1 in
      let may = or_parts (is_some p.job_stop && not (eqb id agent_id)) _ moves.1 in
      record {
        live = live-erased s pid ∙ ap (option_map erased_process) h.live;
        there = lwp-erased p id ∙ ap (option_map erased_lwp) h.there;
        not_stopped = none_there p.job_stop (eqb id agent_id) may.0 h.no_agent;
        own_memory = none_there p.borrower l.control.directed may.1 h.not_directed;
        not_suspended = moves.0;
      }

  -- a row makes its transition for both machines
  pub makes : (row : Row) → Suits row.transition l.phase
      → MakesStep (erased_system s) pid id (erased_process p) (erased_lwp l) row.transition
      (erased_system (settled s pid p id l row).system)
  makes row suits = record {
    may_step = may_step;
    state = settled-erased s pid p id l (is_there s pid p id l h) row suits;
  }

  -- ---- rows that are hidden

  same_system : (f : UntracedLwp → UntracedLwp) → f (erased_lwp l) ≡ erased_lwp l
      → with_lwp_of pid id f (erased_system s) ≡ erased_system s
  same_system f same = unmoved s pid p id l (live_process-found s pid p h.live) h.there f same

  hides : (row : Row) → Suits row.transition l.phase
      → after_transition untraced pid (erased_process p) id (erased_lwp l) row.transition
      (erased_system s) ≡ erased_system s
      → UntracedRun (erased_system s) [] (erased_system (settled s pid p id l row).system)
  hides row suits same =
      subst (λ v. UntracedRun (erased_system s) [] v) (sym ((makes row suits).state ∙ same)) ends_here

  pub posted-runs : (f : Flt) (address : ℕ) → l.phase ≡ Faulted f address → RowRuns s pid p id l (posted_row f address)
  unfolding posted_row posted after_transition moved untraced all_changed unchanged
  posted-runs f address is returning =
      hides (posted_row f address) (record { fits = is; sent = tt })
      (same_system (moved untraced (posts f address)) refl)

  back : (call : Sysno) (args : List ℕ) (result : _) → l.phase ≡ Exiting call args result
      → moved untraced returns (erased_lwp l) ≡ erased_lwp l
  unfolding moved untraced erased_lwp erased_phase
  back call args result is = sym (ap (λ ph. record (erased_lwp l) { phase = erased_phase ph }) is)

  returned_is : (call : Sysno) → returned_row p l call ≡ quiet_row (did.Returned call) returned
  unfolding returned_row
  returned_is call = rw (h.no_step) refl

  pub returned-runs : (call : Sysno) (args : List ℕ) (result : _) → l.phase ≡ Exiting call args result
      → HasNoFault l.phase → RowRuns s pid p id l (returned_row p l call)
  unfolding returned after_transition all_changed
  returned-runs call args result is no_fault =
      subst (λ row. RowRuns s pid p id l row) (sym (returned_is call))
      (λ returning. hides (quiet_row (did.Returned call) returned) (record { fits = no_fault; sent = tt })
      (same_system (moved untraced returns) (back call args result is)))

  -- ---- instructions

  runs_program : l.phase ≡ User → IsUnsignalled (erased_process p) (erased_lwp l)
      → RunsProgram (erased_process p) (erased_lwp l)
  unfolding erased_lwp erased_phase
  runs_program is unsignalled = record { in_its_program = ap erased_phase is; unsignalled = unsignalled }

  ran_is : (regs : List ℕ) (store : Option Store)
      → ran_row p l regs store ≡ instruction_row did.Ran None (ran p.space regs store)
  unfolding ran_row
  ran_is regs store = rw (h.no_step) refl

  sent_store : (store : Option Store) → AreProper (stored_in p.space store)
  unfolding stored_in
  sent_store None = tt
  sent_store (Some store) = (tt, tt)

  one_fault : (returning : Bool) (f : Flt) → f ≢ Trace → steps_of_fault returning pid id f ≡ Fault pid id f ∷ []
  one_fault returning Ill other = refl
  one_fault returning Bpt other = refl
  one_fault returning Trace other = absurd (other refl)
  one_fault returning Watch other = refl
  one_fault returning Access other = refl
  one_fault returning Bounds other = refl
  one_fault returning Stack other = refl
  one_fault returning Izdiv other = refl

  executed-runs : (e : InstructionEffect) → instruction_effect p.space [] l.regs ≡ e → IsPlain e → l.phase ≡ User
      → HasNoFault l.phase → IsUnsignalled (erased_process p) (erased_lwp l) → RowRuns s pid p id l (executed_row p l e)
  unfolding executed_row erased_process erased_lwp ran entered_row entered incurred_row incurred
  executed-runs (instruction.runs regs store) is plainly user no_fault unsignalled returning =
      (subst (λ row. RowRuns s pid p id l row) (sym (ran_is regs store))
      (λ again. step_by (executes (record {
        process = erased_process p;
        lwp = erased_lwp l;
        runs_program = runs_program user unsignalled;
        regs = regs;
        store = store;
        effect = is;
        makes =
            makes (instruction_row did.Ran None (ran p.space regs store)) (record {
              fits = tt;
              sent = sent_store store;
            });
      })) ends_here)) returning
  executed-runs (instruction.calls call regs) is plainly user no_fault unsignalled returning =
      by_call_entry (record {
        pid = pid;
        id = id;
        process = erased_process p;
        lwp = erased_lwp l;
        runs_program = runs_program user unsignalled;
        call = call;
        regs = regs;
        effect = is;
        makes = makes (entered_row call regs) (record { fits = no_fault; sent = tt });
      }) ends_here
  executed-runs (instruction.faults f address) is plainly user no_fault unsignalled returning =
      subst (λ steps. UntracedRun (erased_system s) steps
      (erased_system (settled s pid p id l (incurred_row f address)).system)) (sym (one_fault returning f plainly))
      (step_by (incurs (record {
        process = erased_process p;
        lwp = erased_lwp l;
        runs_program = runs_program user unsignalled;
        address = address;
        effect = is;
        makes = makes (incurred_row f address) (record { fits = user; sent = tt });
      })) ends_here)
  executed-runs (instruction.runs_into_watch address regs store) is plainly user no_fault unsignalled returning =
      absurd plainly

  pub program-runs : l.phase ≡ User → HasNoFault l.phase → IsUnsignalled (erased_process p) (erased_lwp l)
      → RowRuns s pid p id l (executed_row p l (instruction_effect p.space p.control.areas l.regs))
  program-runs user no_fault unsignalled =
      subst (λ areas. RowRuns s pid p id l (executed_row p l (instruction_effect p.space areas l.regs)))
      (sym h.unwatched)
      (executed-runs (instruction_effect p.space [] l.regs) refl (plain p.space l.regs) user no_fault unsignalled)

  -- ---- signals that are taken

  own-erased : HasNoFault l.phase → own_takeable (erased_lwp l) ≡ own_takeable l
  unfolding own_takeable erased_lwp
  own-erased no_fault = ap (λ w. least_signal (minus_word (pending_set w) l.held)) (no_fault l.pending)

  own_taken-erased : (g : Sig) → HasNoFault l.phase → own_taken (erased_lwp l) g ≡ own_taken l g
  unfolding own_taken erased_lwp
  own_taken-erased g no_fault = ap (λ w. moving (takes (current_of g w) true)) (no_fault l.pending)

  pub unsignalled : HasNoFault l.phase → l.current ≡ None → own_takeable l ≡ None → shared_takeable p l ≡ None
      → IsUnsignalled (erased_process p) (erased_lwp l)
  unfolding takeable takeable_signal own_takeable shared_takeable erased_process erased_lwp
  unsignalled no_fault no_current own shared = record {
    no_current = no_current;
    none_to_take =
        ap (λ w. is_some
        (option_or (least_signal (minus_word (pending_set w) l.held))
        (least_signal (minus_word (pending_set p.pending) l.held)))) (no_fault l.pending)
        ∙ ap (λ o. is_some (option_or o (least_signal (minus_word (pending_set p.pending) l.held)))) own
        ∙ ap (λ o. is_some o) shared;
  }

  pub own_taken-runs : (g : Sig) → HasNoFault l.phase → takes_in (erased_phase l.phase) ≡ true → l.current ≡ None
      → own_takeable l ≡ Some g → RowRuns s pid p id l (own_taken_row l g)
  unfolding own_taken_row erased_lwp own_taken
  own_taken-runs g no_fault place no_current own returning =
      step_by (takes_own (record {
        process = erased_process p;
        lwp = erased_lwp l;
        may_take = record { place = place; no_current = no_current };
        its_own = own-erased no_fault ∙ own;
        makes =
            subst (λ t. MakesStep (erased_system s) pid id (erased_process p) (erased_lwp l) t
            (erased_system (settled s pid p id l (own_taken_row l g)).system)) (sym (own_taken-erased g no_fault))
            (makes (own_taken_row l g) (record { fits = no_fault; sent = tt }));
      })) ends_here

  pub shared_taken-runs : (g : Sig) → HasNoFault l.phase → takes_in (erased_phase l.phase) ≡ true → l.current ≡ None
      → own_takeable l ≡ None → shared_takeable p l ≡ Some g → RowRuns s pid p id l (shared_taken_row p g)
  unfolding shared_taken_row erased_lwp erased_process shared_taken shared_takeable
  shared_taken-runs g no_fault place no_current own shared returning =
      step_by (takes_shared (record {
        process = erased_process p;
        lwp = erased_lwp l;
        may_take = record { place = place; no_current = no_current };
        none_own = own-erased no_fault ∙ own;
        shared = shared;
        makes = makes (shared_taken_row p g) (record { fits = no_fault; sent = (tt, tt) });
      })) ends_here

  -- ---- signals that are acted on

  acts : (c : Current) → l.current ≡ Some c → (row : Row) → Suits row.transition l.phase
      → Acting (erased_process p) (erased_lwp l) c row.transition
      → UntracedRun (erased_system s) (ActOn pid id c.signal ∷ []) (erased_system (settled s pid p id l row).system)
  unfolding erased_lwp
  acts c current row suits acting =
      step_by (acts_on (record {
        process = erased_process p;
        lwp = erased_lwp l;
        current = c;
        its_current = current;
        of_signal = refl;
        transition = row.transition;
        acting = acting;
        makes = makes row suits;
      })) ends_here

  is_caught_action : (c : Current) (handler : ℕ) → l.current ≡ Some c
      → action_for p.dispositions c.signal ≡ act.Catch handler → is_caught p.dispositions l.current ≡ true
  is_caught_action c handler current action = ap (is_caught p.dispositions) current ∙ ap is_caught_by action

  fits_handled : (c : Current) (handler : ℕ) → HasNoFault l.phase → Suits (handled l c handler) l.phase
  unfolding handled
  fits_handled c handler no_fault =
      elim (ltb (length l.frames) frame_limit) as
      (λ b. Suits
      (cond b (moving
      (catches (with_frame l.regs l.held l.frames) (handler_registers c handler l.regs)
      (handler_held c l.held))) (ending (ends_process (signal_number Segv)))) l.phase)
      [ true ↦ record { fits = no_fault; sent = tt } | false ↦ record { fits = tt; sent = tt } ]

  handler-runs : (c : Current) (handler : ℕ) → l.current ≡ Some c
      → action_for p.dispositions c.signal ≡ act.Catch handler → HasNoFault l.phase → erased_phase l.phase ≡ in_program
      → RowRuns s pid p id l (handler_row l c handler)
  unfolding handler_row erased_process erased_lwp handled
  handler-runs c handler current action no_fault place returning =
      acts c current (handler_row l c handler) (fits_handled c handler no_fault) (handles action place)

  caught-runs : (phase : Phase) → l.phase ≡ phase → (c : Current) (handler : ℕ) → l.current ≡ Some c
      → action_for p.dispositions c.signal ≡ act.Catch handler → HasNoFault l.phase
      → RowRuns s pid p id l (caught_row l c handler phase)
  unfolding caught_row interrupted_row interrupted erased_lwp erased_process erased_phase
  caught-runs User is c handler current action no_fault returning =
      handler-runs c handler current action no_fault (ap erased_phase is) returning
  caught-runs (Entered call) is c handler current action no_fault returning =
      step_by (interrupts_call (record {
        process = erased_process p;
        lwp = erased_lwp l;
        args = arguments l.regs;
        in_call = at_it (ap erased_phase is);
        caught = is_caught_action c handler current action;
        makes = makes (interrupted_row false call (arguments l.regs)) (record { fits = no_fault; sent = tt });
      })) ends_here
  caught-runs (Asleep call args since) is c handler current action no_fault returning =
      step_by (interrupts_sleep (record {
        process = erased_process p;
        lwp = erased_lwp l;
        args = args;
        in_call = asleep_in_it (ap erased_phase is);
        caught = is_caught_action c handler current action;
        makes = makes (interrupted_row true call args) (record { fits = no_fault; sent = tt });
      })) ends_here
  caught-runs (Exiting call args result) is c handler current action no_fault returning =
      handler-runs c handler current action no_fault (ap erased_phase is) returning
  caught-runs (Faulted f address) is c handler current action no_fault returning =
      handler-runs c handler current action no_fault (ap erased_phase is) returning

  pub acted-runs : (c : Current) → l.current ≡ Some c → HasNoFault l.phase → RowRuns s pid p id l (acted_row p l c)
  unfolding acted_row erased_process dropped job_stopped died
  acted-runs c current no_fault = by (action_for p.dispositions c.signal) refl
    where
      by : (a : Action) → action_for p.dispositions c.signal ≡ a → RowRuns s pid p id l (acted_row p l c)
      by act.Ignore is = rw is (λ returning. acts c current _ (record { fits = tt; sent = tt }) (ignores is))
      by act.Stop is = rw is (λ returning. acts c current _ (record { fits = tt; sent = (tt, tt) }) (stops is))
      by act.Die is = rw is (λ returning. acts c current _ (record { fits = tt; sent = tt }) (kills is))
      by (act.Catch handler) is = rw is (caught-runs l.phase refl c handler current is no_fault)

  -- ---- system calls

  not_caught : l.current ≡ None → is_caught p.dispositions l.current ≡ false
  not_caught current = ap (is_caught p.dispositions) current

  pub call-runs : (call : Sysno) (effect : Effect) → call_effect s pid p id l s.clock call (arguments l.regs) ≡ effect
      → IsProperEffect effect → l.phase ≡ Entered call → l.current ≡ None → HasNoFault l.phase
      → RowRuns s pid p id l (performed_row false call (arguments l.regs) s.clock effect)
  unfolding performed_row performed erased_lwp erased_process erased_system erased_phase
  call-runs call (change.does result changes) is sent at current no_fault returning =
      step_by (makes_call (record {
        process = erased_process p;
        lwp = erased_lwp l;
        at = ap erased_phase at;
        not_caught = not_caught current;
        performs = record {
          effect = change.does result changes;
          does_it = decided s pid p id l s.clock call (arguments l.regs) ∙ is;
          over = refl;
          gives = refl;
          makes =
              makes (performed_row false call (arguments l.regs) s.clock (change.does result changes)) (record {
                fits = no_fault;
                sent = sent;
              });
        };
      })) ends_here
  call-runs call change.sleeps is sent at current no_fault returning =
      step_by (falls_asleep (record {
        process = erased_process p;
        lwp = erased_lwp l;
        at = ap erased_phase at;
        does_it = decided s pid p id l s.clock call (arguments l.regs) ∙ is;
        makes =
            makes (performed_row false call (arguments l.regs) s.clock change.sleeps) (record {
              fits = no_fault;
              sent = tt;
            });
      })) ends_here
  call-runs call (change.ends how) is sent at current no_fault returning =
      step_by (makes_call (record {
        process = erased_process p;
        lwp = erased_lwp l;
        at = ap erased_phase at;
        not_caught = not_caught current;
        performs = record {
          effect = change.ends how;
          does_it = decided s pid p id l s.clock call (arguments l.regs) ∙ is;
          over = refl;
          gives = refl;
          makes =
              makes (performed_row false call (arguments l.regs) s.clock (change.ends how)) (record {
                fits = tt;
                sent = tt;
              });
        };
      })) ends_here

  -- a call in which the lwp slept is performed anew, and does not sleep again
  pub woken-runs : (call : Sysno) (args : List ℕ) (since : ℕ) (effect : Effect)
      → call_effect s pid p id l since call args ≡ effect → IsProperEffect effect → is_over effect ≡ true
      → l.phase ≡ Asleep call args since → IsUnsignalled (erased_process p) (erased_lwp l) → HasNoFault l.phase
      → RowRuns s pid p id l (performed_row true call args since effect)
  unfolding performed_row performed erased_lwp erased_process erased_system erased_phase
  woken-runs call args since (change.does result changes) is sent over at unsignalled no_fault returning =
      step_by (wakes (record {
        process = erased_process p;
        lwp = erased_lwp l;
        args = args;
        since = since;
        at = ap erased_phase at;
        unsignalled = unsignalled;
        performs = record {
          effect = change.does result changes;
          does_it = decided s pid p id l since call args ∙ is;
          over = refl;
          gives = refl;
          makes =
              makes (performed_row true call args since (change.does result changes)) (record {
                fits = no_fault;
                sent = sent;
              });
        };
      })) ends_here
  woken-runs call args since change.sleeps is sent over at unsignalled no_fault returning = absurd (clash over)
    where
      clash : false ≡ true → ⊥
      clash e = cc
  woken-runs call args since (change.ends how) is sent over at unsignalled no_fault returning =
      step_by (wakes (record {
        process = erased_process p;
        lwp = erased_lwp l;
        args = args;
        since = since;
        at = ap erased_phase at;
        unsignalled = unsignalled;
        performs = record {
          effect = change.ends how;
          does_it = decided s pid p id l since call args ∙ is;
          over = refl;
          gives = refl;
          makes = makes (performed_row true call args since (change.ends how)) (record { fits = tt; sent = tt });
        };
      })) ends_here
