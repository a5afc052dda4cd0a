use Rattle.std.proofs.Common.{length, ◌≡◌, ◌&&◌, ◌⊎◌, ◌∷◌, ◌+◌, ℕ, Bool, true, false, not, List, [], Option, Some, None, refl, sym, subst, ap, ◌∙◌, inl, inr}
use Rattle.std.proofs.lemmas.Bool.{false≢true, le-leb, lt-ltb}
use Rattle.pr_hidden.specs.Covers.{Patch}
use Rattle.pr_hidden.specs.Hiders.{exits}
use Rattle.pr_hidden.specs.Hiding.{AreCovered, nothing, stores}
use Rattle.pr_hidden.specs.Sparing.{has_byte}
use Rattle.pr_hidden.specs.Tidiness.{IsAgentMove, works}
use Rattle.pr_keeps.proofs.RowLemmas.{row-kind}
use Rattle.pr_keeps.specs.RowKinds as kind
use Rattle.pr_keeps.specs.RowKinds.{IsInCall, RowKind}
use Rattle.pr_model.specs.CallEffects.{call_effect}
use Rattle.pr_model.specs.Changes.{Effect}
use Rattle.pr_model.specs.InstructionEffects.{calls, instruction_effect}
use Rattle.pr_model.specs.Lawful.{AreUncaught}
use Rattle.pr_model.specs.Registers.{arguments, moved_on}
use Rattle.pr_model.specs.Rows.{Row, entered_row, executed_row, handler_row, own_taken_row, performed_row, quiet_row, returned_row, row_for, shared_taken_row}
use Rattle.pr_model.specs.Signals.{action_for}
use Rattle.pr_model.specs.State.{TracedLwp, TracedProcess, TracedSystem}
use Rattle.pr_model.specs.Transitions.{entered, performed, returned}
use Rattle.pr_model.specs.UntracedMachine.{is_caught, is_caught_by}
use Rattle.pr_model.specs.declared.events.Did.TheVariants.{Returned}
use Rattle.pr_model.specs.declared.events.Res.{Res}
use Rattle.pr_model.specs.declared.lwps.Current.{Current}
use Rattle.pr_model.specs.declared.lwps.Phase.TheVariants as phase
use Rattle.pr_num.specs.Agents.{agent_id}
use Rattle.pr_num.specs.Layout.{stack_base}
use Rattle.pr_num.specs.Words.{word_bytes}
use Rattle.pr_num.specs.declared.faults.Flt.{Flt}
use Rattle.pr_num.specs.declared.syscalls.Sysno.{Sysno}
use Rattle.pr_num.specs.declared.syscalls.Sysno.TheVariants.{Fstat}
use Rattle.pr_parts.specs.declared.actions.Action.TheVariants as act
use Rattle.pr_parts.specs.declared.files.Stat.{Stat}
use Rattle.pr_probe_laws.proofs.Agents.AgentRows.{Gives, asked-effect, comes-to-call, fstat-gives, gives_errno, gives_stat, stop-stops}
use Rattle.pr_probe_laws.proofs.Agents.AgentTurns.{IsAgent, IsPlanted, IsReady, IsUnheld, Position, asks, calling, in_code, leaving, stat_words}
use Rattle.pr_probe_laws.specs.HiddenProbes.{is_signal_turn}

-- A turn of the agent of apfiles in which it takes no signal is its way out of a call, its call, or an instruction; and
-- all that it changes is patched bytes of the memory of its process.

-- the turns without signals
pub data QuietRow (s : TracedSystem) (pid : ℕ) (p : TracedProcess) (l : TracedLwp) : Row → Type 0 where
  in_call : {woken : Bool} {call : Sysno} {args : List ℕ} {since : ℕ} → IsInCall s l woken call args since
      → QuietRow s pid p l (performed_row woken call args since (call_effect s pid p agent_id l since call args))
  way_out : {call : Sysno} {args : List ℕ} {result : Res} → l.phase ≡ phase.Exiting call args result
      → QuietRow s pid p l (returned_row p l call)
  in_program : l.phase ≡ phase.User
      → QuietRow s pid p l (executed_row p l (instruction_effect p.space p.control.areas l.regs))

module _ (s : TracedSystem) (pid : ℕ) (p : TracedProcess) (l : TracedLwp) (agent : IsAgent l)
    (uncaught : AreUncaught p.dispositions) where
  action : (c : Current) → l.current ≡ Some c → action_for p.dispositions c.signal ≡ act.Stop
  action c is =
      stop-stops p.dispositions c.signal uncaught (subst (λ (o : Option Current). IsUnheld o) is agent.current)

  quiet-kind : ((f : Flt) (address : ℕ) → l.phase ≡ phase.Faulted f address → ⊥) → (row : Row)
      → RowKind s pid p agent_id l row → is_signal_turn row.did ≡ false → QuietRow s pid p l row
  unfolding handler_row own_taken_row shared_taken_row
  quiet-kind whole row (kind.stops is) quiet = absurd (false≢true (sym agent.not_directed ∙ is))
  quiet-kind whole row (kind.posts {f = f} {address = address} is) quiet = absurd (whole f address is)
  quiet-kind whole row (kind.ignores is does_it) quiet = absurd (false≢true (sym quiet))
  quiet-kind whole row (kind.stops_job is does_it) quiet = absurd (false≢true (sym quiet))
  quiet-kind whole row (kind.dies is does_it) quiet = absurd (false≢true (sym quiet))
  quiet-kind whole row (kind.catches is does_it) quiet = absurd (false≢true (sym quiet))
  quiet-kind whole row (kind.takes_own none own) quiet = absurd (false≢true (sym quiet))
  quiet-kind whole row (kind.takes_shared none no_own shared) quiet = absurd (false≢true (sym quiet))
  quiet-kind whole row (kind.interrupts it why) quiet = absurd (no-reason why)
    where
      uncaught-by : (o : Option Current) → l.current ≡ o → is_caught p.dispositions o ≡ true → ⊥
      uncaught-by None none is = false≢true is
      uncaught-by (Some c) some is = false≢true (sym (ap is_caught_by (action c some)) ∙ is)

      no-reason : (l.control.abort ≡ true) ⊎ (is_caught p.dispositions l.current ≡ true) → ⊥
      no-reason (inl aborted) = false≢true (sym agent.no_abort ∙ aborted)
      no-reason (inr caught) = uncaught-by l.current refl caught
  quiet-kind whole row (kind.performs it no_abort none) quiet = in_call it
  quiet-kind whole row (kind.returns out none) quiet = way_out out
  quiet-kind whole row (kind.executes user none) quiet = in_program user

  pub quiet-row : ((f : Flt) (address : ℕ) → l.phase ≡ phase.Faulted f address → ⊥)
      → is_signal_turn (row_for s pid p agent_id l).did ≡ false → QuietRow s pid p l (row_for s pid p agent_id l)
  quiet-row whole quiet =
      quiet-kind whole (row_for s pid p agent_id l) (row-kind s pid p agent_id l) quiet

  -- its way out of a call, without a step mark
  pub way-out-row : (call : Sysno) → returned_row p l call ≡ quiet_row (Returned call) returned
  unfolding returned_row
  way-out-row call = rw agent.no_step refl

-- ---- what is patched

covered-last : (text : Patch) (bytes : List ℕ)
    → AreCovered (text ∷ record { at = stack_base; bytes = bytes } ∷ []) stack_base (length bytes)
covered-last text bytes address low high =
    rw (le-leb stack_base address low, lt-ltb address (stack_base + length bytes) high) (none (has_byte address text))
  where
    none : (b : Bool) → (not b && (not true && true)) ≡ false
    none true = refl
    none false = refl

-- ---- an agent that asks for a descriptor

asking-whole : (d : ℕ) (l : TracedLwp) → Position d l → (f : Flt) (address : ℕ) → l.phase ≡ phase.Faulted f address → ⊥
asking-whole d l (leaving c ys r out asked) f address is = absurd (let both = sym is ∙ out in cc)
asking-whole d l (in_code user asked) f address is = absurd (let both = sym is ∙ user in cc)
asking-whole d l (calling entered asked) f address is = absurd (let both = sym is ∙ entered in cc)

stat-size : (stat : Stat) → length (stat_words stat) ≡ 24
unfolding word_bytes
stat-size stat = refl

module _ (d : ℕ) (s : TracedSystem) (pid : ℕ) (p : TracedProcess) (l : TracedLwp) (ready : IsReady IsPlanted p)
    (agent : IsAgent l) (at : Position d l) (uncaught : AreUncaught p.dispositions) (text : Patch) (stack : List ℕ)
    (whole : length stack ≡ 24) where
  abbrev patches : List Patch
  patches = text ∷ record { at = stack_base; bytes = stack } ∷ []

  -- it does not end, and changes patched bytes alone
  abbrev pub Moves : Row → Type 0
  Moves row = (exits row.did ≡ false) × IsAgentMove patches p row.did row.transition

  stat-covered : (stat : Stat) → AreCovered patches stack_base (length (stat_words stat))
  stat-covered stat =
      subst (AreCovered patches stack_base) (whole ∙ sym (stat-size stat)) (covered-last text stack)

  gave : (e : Effect) → Gives d s.files p e
      → Moves (performed_row false Fstat (arguments l.regs) s.clock e)
  unfolding performed_row performed
  gave e (gives_errno none) = (refl, works refl refl nothing)
  gave e (gives_stat stat is_open) =
      (refl, works refl refl (stores stack_base (stat_words stat) (stat-covered stat)))

  same-call : (a b : Sysno) → phase.Entered a ≡ phase.Entered b → a ≡ b
  same-call a b same = cc

  called : (woken : Bool) (call : Sysno) (args : List ℕ) (since : ℕ) → IsInCall s l woken call args since
      → Moves (performed_row woken call args since (call_effect s pid p agent_id l since call args))
  called woken call args since (kind.asleep_in_it is) = absurd (asleep at)
    where
      asleep : Position d l → ⊥
      asleep (leaving c ys r out asked) = absurd (let both = sym is ∙ out in cc)
      asleep (in_code user asked) = absurd (let both = sym is ∙ user in cc)
      asleep (calling entered asked) = absurd (let both = sym is ∙ entered in cc)
  called woken call args since (kind.at_it is) = by at
    where
      by : Position d l
          → Moves (performed_row false call (arguments l.regs) s.clock
          (call_effect s pid p agent_id l s.clock call (arguments l.regs)))
      by (leaving c ys r out asked) = absurd (let both = sym is ∙ out in cc)
      by (in_code user asked) = absurd (let both = sym is ∙ user in cc)
      by (calling entered asked) =
          subst (λ (c : Sysno).
          Moves (performed_row false c (arguments l.regs) s.clock
          (call_effect s pid p agent_id l s.clock c (arguments l.regs))))
          (sym (same-call call Fstat (sym is ∙ entered)))
          (gave (call_effect s pid p agent_id l s.clock Fstat (arguments l.regs))
          (subst (Gives d s.files p) (sym (asked-effect d s pid p l asked)) (fstat-gives d s.files p ready)))

  ran : l.phase ≡ phase.User
      → Moves (executed_row p l (instruction_effect p.space p.control.areas l.regs))
  unfolding executed_row entered_row entered
  ran user = by at
    where
      by : Position d l → Moves (executed_row p l (instruction_effect p.space p.control.areas l.regs))
      by (leaving c ys r out asked) = absurd (let both = sym user ∙ out in cc)
      by (calling entered asked) = absurd (let both = sym user ∙ entered in cc)
      by (in_code is asked) =
          let effect : instruction_effect p.space p.control.areas l.regs ≡ calls Fstat (moved_on (asks d)) =
          ap (instruction_effect p.space p.control.areas) asked ∙ comes-to-call d p ready in
          subst (λ e. Moves (executed_row p l e)) (sym effect) (refl, works refl refl nothing)

  back : (call : Sysno) → Moves (returned_row p l call)
  unfolding returned
  back call =
      subst Moves (sym (way-out-row s pid p l agent uncaught call)) (refl, works refl refl nothing)

  quiet-moves : (row : Row) → QuietRow s pid p l row → Moves row
  quiet-moves row (in_call {woken = woken} {call = call} {args = args} {since = since} it) =
      called woken call args since it
  quiet-moves row (way_out {call = call} out) = back call
  quiet-moves row (in_program user) = ran user

  -- in a turn without a signal it changes nothing but the patched bytes to which it is answered
  pub asking-moves : is_signal_turn (row_for s pid p agent_id l).did ≡ false → Moves (row_for s pid p agent_id l)
  asking-moves quiet =
      quiet-moves (row_for s pid p agent_id l)
      (quiet-row s pid p l agent uncaught (asking-whole d l at) quiet)
