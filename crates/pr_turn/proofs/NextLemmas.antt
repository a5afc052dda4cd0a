use Rattle.std.proofs.Common.{◌≡◌, ◌&&◌, ℕ, Bool, true, false, not, is_some, Option, Some, None, List, refl, sym, ap, ◌∙◌, subst}
use Rattle.std.specs.Option.{option_or}
use Rattle.std.proofs.lemmas.Option.{same_Some}
use Rattle.pr_num.specs.declared.faults.Flt.{Flt}
use Rattle.pr_num.specs.declared.syscalls.Sysno.{Sysno}
use Rattle.pr_num.specs.Sets.{minus_word}
use Rattle.pr_num.specs.Signals.{least_signal, signal_number}
use Rattle.pr_num.specs.declared.signals.Sig.{Sig}
use Rattle.pr_parts.specs.PendingSignals.{pending_set}
use Rattle.pr_parts.specs.SignalRules.{takeable_signal}
use Rattle.pr_parts.specs.declared.actions.Action.TheVariants as act
use Rattle.pr_call.specs.Requests.{request_in}
use Rattle.pr_call.specs.declared.requests.Request.{Request}
use Rattle.pr_model.specs.CallEffects.{call_effect}
use Rattle.pr_model.specs.Registers.{arguments}
use Rattle.pr_model.specs.Rows.{Row, acted_row, call_row, caught_row, interrupted_row, performed_row, posted_row, posted_row_or, row_for, row_in, signal_row_or, taken_or}
use Rattle.pr_model.specs.Signals.{action_for, own_takeable, shared_takeable, takeable}
use Rattle.pr_model.specs.State.{TracedLwp, TracedProcess, TracedSystem}
use Rattle.pr_model.specs.Transitions.{died}
use Rattle.pr_model.specs.declared.events.Did.TheVariants.{Acted}
use Rattle.pr_model.specs.declared.events.How.TheVariants as how
use Rattle.pr_model.specs.declared.events.Res.{Res}
use Rattle.pr_model.specs.declared.lwps.Current.{Current}
use Rattle.pr_model.specs.declared.lwps.Phase.{Phase}
use Rattle.pr_model.specs.declared.lwps.Phase.TheVariants as phase
use Rattle.pr_turn.specs.NextRows.{is_in_program, runs_on, unposted_fault, row_of}
use Rattle.pr_turn.specs.declared.next.Next.TheVariants.{Requested, Posted, Ends, Returned, Executed, Dropped, JobStopped}

-- Which row is next.

-- ---- an lwp that has nothing to do but to run

record RunsOn (a b c d : Bool) : Type 0 where
  inside : a ≡ true
  undirected : b ≡ false
  no_current : c ≡ false
  takes_none : d ≡ false

runs-parts : (a b c d : Bool) → (a && (not b && (not c && not d))) ≡ true → RunsOn a b c d
runs-parts true false false false e = record { inside = refl; undirected = refl; no_current = refl; takes_none = refl }
runs-parts true false false true e = absurd (cc)
runs-parts true false true d e = absurd (cc)
runs-parts true true c d e = absurd (cc)
runs-parts false b c d e = absurd (cc)

in-program : (ph : Phase) → is_in_program ph ≡ true → ph ≡ phase.User
in-program phase.User e = refl
in-program _ e = absurd (cc)

none-of : {X : Type 0} (o : Option X) → is_some o ≡ false → o ≡ None
none-of None e = refl
none-of (Some x) e = absurd (cc)

module _ (s : TracedSystem) (pid : ℕ) (p : TracedProcess) (id : ℕ) (l : TracedLwp) where
  -- ---- calls

  pub row-aborted : (r : Row) (woken : Bool) (call : Sysno) (args : List ℕ) (since : ℕ) → l.control.abort ≡ true
      → r ≡ interrupted_row woken call args → r ≡ call_row s pid p id l woken call args since
  unfolding call_row
  row-aborted r woken call args since aborted e = e ∙ rw aborted refl

  pub row-performed : (r : Row) (woken : Bool) (call : Sysno) (args : List ℕ) (since : ℕ) → l.control.abort ≡ false
      → r ≡ performed_row woken call args since (call_effect s pid p id l since call args)
      → r ≡ call_row s pid p id l woken call args since
  unfolding call_row
  row-performed r woken call args since on e = e ∙ rw on refl

  -- ---- the table

  pub row-directed : l.control.directed ≡ true → row_of p l Requested ≡ row_for s pid p id l
  unfolding row_of row_for
  row-directed directed = rw directed refl

  posted : (ph : Phase) (x : Flt × ℕ) (otherwise : Row) → unposted_fault ph ≡ Some x
      → posted_row x.0 x.1 ≡ posted_row_or s pid p id l ph otherwise
  posted (phase.Faulted f address) x otherwise e =
      ap (λ (y : Flt × ℕ). posted_row y.0 y.1) (sym (same_Some (f, address) x e))
  posted _ x otherwise e = absurd (cc)

  unposted : (ph : Phase) (otherwise : Row) → unposted_fault ph ≡ None
      → otherwise ≡ posted_row_or s pid p id l ph otherwise
  unposted (phase.Faulted f address) otherwise e = absurd (cc)
  unposted _ otherwise e = refl

  pub row-posted : (f : Flt) (address : ℕ) → l.control.directed ≡ false → unposted_fault l.phase ≡ Some (f, address)
      → row_of p l (Posted f address) ≡ row_for s pid p id l
  unfolding row_of row_for
  row-posted f address off faulted = rw off (posted l.phase (f, address) _ faulted)

  pub row-current : (c : Current) → l.control.directed ≡ false → unposted_fault l.phase ≡ None → l.current ≡ Some c
      → acted_row p l c ≡ row_for s pid p id l
  unfolding row_for
  row-current c off none current = rw (off, current) (unposted l.phase _ none)

  pub row-phase : (r : Row) → l.control.directed ≡ false → unposted_fault l.phase ≡ None → l.current ≡ None
      → r ≡ signal_row_or s pid p id l l.phase (row_in s pid p id l l.phase) → r ≡ row_for s pid p id l
  unfolding row_for
  row-phase r off none current e = e ∙ rw (off, current) (unposted l.phase _ none)

  -- no signal can be taken
  none-takeable : takeable p l ≡ None → (own_takeable l ≡ None) × (shared_takeable p l ≡ None)
  unfolding takeable own_takeable shared_takeable takeable_signal
  none-takeable none =
      by (least_signal (minus_word (pending_set l.pending) l.held))
      (least_signal (minus_word (pending_set p.pending) l.held))
      none
    where
      by : (own shared : Option Sig) → option_or own shared ≡ None → (own ≡ None) × (shared ≡ None)
      by None shared e = (refl, e)
      by (Some g) shared e = absurd (cc)

  -- ---- what each phase decides, where no signal is taken

  pub in-user : (r : Row) → l.phase ≡ phase.User
      → r ≡ taken_or s pid p id l (own_takeable l) (shared_takeable p l) (row_of p l Executed)
      → r ≡ signal_row_or s pid p id l l.phase (row_in s pid p id l l.phase)
  unfolding row_of signal_row_or row_in
  in-user r at e = subst (λ ph. r ≡ signal_row_or s pid p id l ph (row_in s pid p id l ph)) (sym at) e

  -- one in its program that is directed to nothing, and has no signal to act on or to take
  row-runs : l.phase ≡ phase.User → l.control.directed ≡ false → l.current ≡ None → takeable p l ≡ None
      → row_of p l Executed ≡ row_for s pid p id l
  row-runs at off current none =
      let parts = none-takeable none in
      row-phase (row_of p l Executed) off (ap unposted_fault at) current
      (in-user (row_of p l Executed) at (rw (parts.0, parts.1) refl))

  pub runs-row : runs_on (pending_set p.pending) l ≡ true → row_of p l Executed ≡ row_for s pid p id l
  unfolding runs_on takeable
  runs-row e =
      let parts =
      runs-parts (is_in_program l.phase) l.control.directed (is_some l.current)
      (is_some (takeable_signal (pending_set l.pending) (pending_set p.pending) l.held)) e in
      row-runs (in-program l.phase parts.inside) parts.undirected (none-of l.current parts.no_current)
      (none-of (takeable p l) parts.takes_none)

  pub in-entered : (r : Row) (call : Sysno) → l.phase ≡ phase.Entered call
      → r ≡ call_row s pid p id l false call (arguments l.regs) s.clock
      → r ≡ signal_row_or s pid p id l l.phase (row_in s pid p id l l.phase)
  unfolding row_of signal_row_or row_in
  in-entered r call at e = subst (λ ph. r ≡ signal_row_or s pid p id l ph (row_in s pid p id l ph)) (sym at) e

  pub in-asleep : (r : Row) (call : Sysno) (args : List ℕ) (since : ℕ) → l.phase ≡ phase.Asleep call args since
      → r ≡ taken_or s pid p id l (own_takeable l) (shared_takeable p l) (call_row s pid p id l true call args since)
      → r ≡ signal_row_or s pid p id l l.phase (row_in s pid p id l l.phase)
  unfolding row_of signal_row_or row_in
  in-asleep r call args since at e = subst (λ ph. r ≡ signal_row_or s pid p id l ph (row_in s pid p id l ph)) (sym at) e

  pub in-exiting : (r : Row) (call : Sysno) (args : List ℕ) (result : Res) → l.phase ≡ phase.Exiting call args result
      → r ≡ taken_or s pid p id l (own_takeable l) (shared_takeable p l) (row_of p l (Returned call))
      → r ≡ signal_row_or s pid p id l l.phase (row_in s pid p id l l.phase)
  unfolding row_of signal_row_or row_in
  in-exiting r call args result at e =
      subst (λ ph. r ≡ signal_row_or s pid p id l ph (row_in s pid p id l ph)) (sym at) e

  pub in-faulted : (r : Row) (f : Flt) (address : ℕ) → l.phase ≡ phase.Faulted f address
      → r ≡ row_of p l (Posted f address) → r ≡ signal_row_or s pid p id l l.phase (row_in s pid p id l l.phase)
  unfolding row_of signal_row_or row_in
  in-faulted r f address at e = subst (λ ph. r ≡ signal_row_or s pid p id l ph (row_in s pid p id l ph)) (sym at) e

-- ---- the call that an lwp makes

module _ (clock pid id : ℕ) (l : TracedLwp) where
  abbrev made : ℕ → Sysno → List ℕ → Request
  made since call args = record { pid = pid; lwp = id; since = since; call = call; args = args }

  pub asks-entered : (call : Sysno) (args : List ℕ) → l.phase ≡ phase.Entered call → args ≡ arguments l.regs
      → request_in clock pid id l l.phase ≡ Some (made clock call args)
  asks-entered call args at held =
      ap (request_in clock pid id l) at ∙ ap (λ as_held. Some (made clock call as_held)) (sym held)

  pub asks-asleep : (call : Sysno) (args : List ℕ) (since : ℕ) → l.phase ≡ phase.Asleep call args since
      → request_in clock pid id l l.phase ≡ Some (made since call args)
  asks-asleep call args since at = ap (request_in clock pid id l) at

-- ---- the current signal

module _ (p : TracedProcess) (l : TracedLwp) (c : Current) where
  pub acted-ignored : action_for p.dispositions c.signal ≡ act.Ignore → row_of p l (Dropped c.signal) ≡ acted_row p l c
  unfolding row_of acted_row
  acted-ignored e = rw e refl

  pub acted-stopped : action_for p.dispositions c.signal ≡ act.Stop → row_of p l (JobStopped c.signal) ≡ acted_row p l c
  unfolding row_of acted_row
  acted-stopped e = rw e refl

  pub acted-died : action_for p.dispositions c.signal ≡ act.Die
      → row_of p l (Ends (Acted c.signal how.Died) (signal_number c.signal)) ≡ acted_row p l c
  unfolding row_of acted_row died
  acted-died e = rw e refl

  pub acted-caught : (handler : ℕ) → action_for p.dispositions c.signal ≡ act.Catch handler
      → caught_row l c handler l.phase ≡ acted_row p l c
  unfolding acted_row
  acted-caught handler e = rw e refl

pub ruleset performing = (row-aborted, row-performed)

pub ruleset rows = (row-directed, row-posted, row-current, row-phase)

pub ruleset acting = (acted-ignored, acted-stopped, acted-died, acted-caught)

pub ruleset phases = (in-user, in-entered, in-asleep, in-exiting, in-faulted)
