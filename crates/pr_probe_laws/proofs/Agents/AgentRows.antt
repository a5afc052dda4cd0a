use Rattle.std.proofs.Common.{length, is_ok, slice_index, ◌≡◌, ◌⊎◌, ◌&&◌, ◌∷◌, ◌+◌, ◌%◌, ◌^◌, ◌<◌, ℕ, zero, suc, Bool, true, false, not, List, [], Option, Some, None, Ok, Err, Result, refl, sym, subst, ap, ◌∙◌, inl, inr, arith}
use Rattle.std.proofs.lemmas.Bool.{and_parts, false≢true}
use Rattle.std.proofs.lemmas.Option.{same_Some}
use Rattle.pr_keeps.proofs.RowLemmas.{row-kind}
use Rattle.pr_keeps.specs.RowKinds as kind
use Rattle.pr_keeps.specs.RowKinds.{IsInCall, RowKind}
use Rattle.pr_parts.proofs.WriteLemmas.{bytes_for-with_bytes}
use Rattle.pr_parts.specs.Accesses.{checked}
use Rattle.pr_model.specs.CallEffects.{call_effect}
use Rattle.pr_model.specs.Changes.{Effect, all_changed, changed, does, space_is, with_job_stop, with_shared_taken, with_space}
use Rattle.pr_model.specs.FileCallRows.{fstat_effect}
use Rattle.pr_model.specs.InstructionEffects.{calls, decoded, executed, instruction_effect, of_fetch}
use Rattle.pr_model.specs.Lawful.{AreUncaught}
use Rattle.pr_model.specs.LwpTurns.{LwpTurn, settled, turn_of}
use Rattle.pr_model.specs.Machines.{call_over, traced}
use Rattle.pr_model.specs.Moves.{drops, enters, leaves, moved, returns, takes}
use Rattle.pr_model.specs.Points.{after_meeting, stopped_at}
use Rattle.pr_model.specs.Registers.{pc_of, arguments, moved_on}
use Rattle.pr_model.specs.Rows.{Row, entered_row, executed_row, own_taken_row, performed_row, quiet_row, returned_row, row_for, shared_taken_row}
use Rattle.pr_model.specs.Signals.{action_for, current_of, own_takeable, shared_takeable}
use Rattle.pr_model.specs.State.{TracedLwp, TracedProcess, TracedSystem, live_process, lwp_of, with_process}
use Rattle.pr_model.specs.Transitions.{entered, job_stopped, own_taken, performed, returned, shared_taken}
use Rattle.pr_model.specs.declared.events.Did.{Did}
use Rattle.pr_model.specs.declared.events.Did.TheVariants.{Entered, Returned, Made}
use Rattle.pr_model.specs.declared.events.Res.{Res}
use Rattle.pr_model.specs.declared.events.Res.TheVariants.{Error, Value}
use Rattle.pr_model.specs.declared.lwps.Current.{Current}
use Rattle.pr_model.specs.declared.lwps.Phase.TheVariants as phase
use Rattle.pr_model.specs.declared.stops.Point.TheVariants.{Exit}
use Rattle.pr_num.proofs.InstructionLemmas.{spelled-read}
use Rattle.pr_num.proofs.NumberedLemmas.{has_number-least_signal, signal_number-range}
use Rattle.pr_num.proofs.SetLemmas.{has_number-minus}
use Rattle.pr_num.specs.Agents.{agent_id}
use Rattle.pr_num.specs.Control.{prot_exec, prot_write, watch_exec}
use Rattle.pr_num.specs.Files.{FileTable}
use Rattle.pr_num.specs.Instructions.{HasImmediate, fields_of, instruction_bytes, instruction_in}
use Rattle.pr_num.specs.Layout.{stack_base, text_base}
use Rattle.pr_num.specs.Limits.{all_signals}
use Rattle.pr_num.specs.Sets.{without_number, has_number, minus_word}
use Rattle.pr_num.specs.Signals.{default_action, holdable_word, least_signal, signal_number}
use Rattle.pr_num.specs.Spaces.{Space, bytes_for}
use Rattle.pr_num.specs.Words.{word_bytes}
use Rattle.pr_parts.specs.declared.files.FileNo.TheVariants.{BadFd}
use Rattle.pr_truss_laws.proofs.Machine.StillLemmas.{live-changed}
use Rattle.pr_model.proofs.TurnLemmas.{turn-taken}
use Rattle.pr_model.specs.UntracedMachine.{is_caught, is_caught_by}
use Rattle.pr_num.specs.declared.mappings.Area.{Area}
use Rattle.pr_model.specs.InstructionEffects.{of_instruction, unless_exec_watched}
use Rattle.pr_num.specs.declared.syscalls.Sysno.TheVariants.{LwpExit}
use Rattle.pr_num.specs.Syscalls.{syscall_number}
use Rattle.pr_num.specs.declared.errnos.Errno.TheVariants.{Badf}
use Rattle.pr_num.specs.declared.files.OpenFile.{OpenFile}
use Rattle.pr_num.specs.declared.instructions.Instruction.TheVariants.{Sys}
use Rattle.pr_num.specs.declared.mappings.BadByte.{BadByte}
use Rattle.pr_num.specs.declared.signals.Sig.{Sig}
use Rattle.pr_num.specs.declared.signals.Sig.TheVariants as sig
use Rattle.pr_num.specs.declared.syscalls.Sysno.{Sysno}
use Rattle.pr_num.specs.declared.syscalls.Sysno.TheVariants.{Fstat}
use Rattle.pr_parts.specs.AddressSpaces.{with_bytes}
use Rattle.pr_parts.specs.FileCalls.{described, stat_of}
use Rattle.pr_parts.specs.FileTables.{open_of}
use Rattle.pr_parts.specs.PendingSignals.{Pending, pending_set}
use Rattle.pr_parts.specs.SignalRules.{action_of}
use Rattle.pr_parts.specs.WatchedAreas.{hit_in}
use Rattle.pr_parts.specs.declared.actions.Action.TheVariants as act
use Rattle.pr_parts.specs.declared.files.Stat.{Stat}
use Rattle.pr_probe.specs.AgentCode.{code_size, planted, agent_registers}
use Rattle.pr_reached.specs.Fits.{SparesKill}
use Rattle.pr_probe_laws.proofs.Agents.AgentMemory.{any-bytes, far-bytes, first-bytes, still-allowed}
use Rattle.pr_probe_laws.proofs.Agents.AgentTurns.{IsAgent, IsPlanted, IsAnswered, IsLike, IsReady, IsUnheld, Position, Tells, asks, at_exit, calling, in_code, later, later-agent, later-entry, later-fds, later-ready, later-signal, later-space, leaving, settled-live, stat_words, stops-at, turned}

-- What a turn of the agent of apfiles does: it goes on, or stops at the exit of its call, with the answer of that.

-- ---- signals that cannot be held

-- of signals that pend, an agent can take SIGSTOP alone
unheld-by : (pending : ℕ) (x : Sig) → has_number pending (signal_number sig.Kill) ≡ false
    → (has_number pending (signal_number x) && not (has_number (holdable_word all_signals) (signal_number x))) ≡ true
    → x ≡ sig.Stop
unfolding has_number holdable_word without_number minus_word signal_number
unheld-by pending sig.Stop spares both = refl
unheld-by pending sig.Kill spares both = absurd (false≢true (sym spares ∙ (and_parts _ _ both).0))
unheld-by pending _ spares both = absurd (false≢true (and_parts _ _ both).1)

held-small : holdable_word all_signals < 2 ^ 64
unfolding holdable_word without_number minus_word signal_number
held-small = omega arith

unheld : (pending : Pending) (held : ℕ) (g : Sig) → SparesKill pending → held ≡ holdable_word all_signals
    → least_signal (minus_word (pending_set pending) held) ≡ Some g → g ≡ sig.Stop
unheld pending held g spares same least =
    let all : ℕ = holdable_word all_signals in
    let range = signal_number-range g in
    let has = has_number-least_signal (minus_word (pending_set pending) held) g least in
    unheld-by (pending_set pending) g spares.none
    (sym (has_number-minus (pending_set pending) all (signal_number g) held-small range.0 (omega (arith, range.1)))
    ∙ ap (λ (w : ℕ). has_number (minus_word (pending_set pending) w) (signal_number g)) (sym same) ∙ has)

-- SIGSTOP has its default action
pub stop-stops : (dispositions : List ℕ) (g : Sig) → AreUncaught dispositions → g ≡ sig.Stop
    → action_for dispositions g ≡ act.Stop
unfolding action_of default_action
stop-stops dispositions g uncaught is =
    ap (action_for dispositions) is ∙ ap (action_of sig.Stop) uncaught.stop

-- ---- what the call gives

pub unwatched : (kind at size : ℕ) → hit_in kind [] at size ≡ None
unfolding hit_in
unwatched kind at zero = refl
unwatched kind at (suc size) = unwatched kind ((at + 1) % 2 ^ 64) size

pub asks-code : (d : ℕ) → pc_of (asks d) ≡ text_base
unfolding agent_registers
asks-code d = refl

asks-for : (d : ℕ) → slice_index (arguments (moved_on (asks d))) 0 ≡ d
unfolding agent_registers moved_on
asks-for d = refl

asks-at : (d : ℕ) → slice_index (arguments (moved_on (asks d))) 1 ≡ stack_base
unfolding agent_registers moved_on
asks-at d = refl

fstat-read : instruction_in (instruction_bytes (Sys Fstat)) ≡ Some (Sys Fstat)
unfolding HasImmediate fields_of syscall_number
fstat-read = spelled-read (Sys Fstat) (omega arith)

-- the instruction at its code comes to fstat(2)
module _ (d : ℕ) (p : TracedProcess) (ready : IsReady IsPlanted p) where
  -- the first of its two instructions
  fetched : bytes_for prot_exec p.space text_base 16 ≡ Ok (instruction_bytes (Sys Fstat))
  unfolding planted fields_of syscall_number word_bytes
  fetched =
      first-bytes prot_exec p.space text_base (instruction_bytes (Sys Fstat)) (instruction_bytes (Sys LwpExit))
      ready.code

  pub comes-to-call : instruction_effect p.space p.control.areas (asks d) ≡ calls Fstat (moved_on (asks d))
  unfolding instruction_effect decoded executed
  comes-to-call =
      let code : bytes_for prot_exec p.space (pc_of (asks d)) 16 ≡ Ok (instruction_bytes (Sys Fstat)) =
      ap (λ (a : ℕ). bytes_for prot_exec p.space a 16) (asks-code d) ∙ fetched in
      ap (λ (areas : List Area). instruction_effect p.space areas (asks d)) ready.unwatched
      ∙ ap (of_fetch p.space [] (asks d)) code
      ∙ ap (λ (o : Option (ℕ × Bool)).
      unless_exec_watched p.space [] o (asks d) (instruction_bytes (Sys Fstat)))
      (unwatched watch_exec (pc_of (asks d)) 16)
      ∙ ap (of_instruction p.space [] None (asks d)) fstat-read

-- what fstat(2) does, of the descriptor that is asked for
pub data Gives (d : ℕ) (files : FileTable) (p : TracedProcess) : Effect → Type 0 where
  gives_errno : described files p.fds d ≡ Err BadFd → Gives d files p (does (Error Badf) [])
  gives_stat : (stat : Stat) → described files p.fds d ≡ Ok stat
      → Gives d files p (does (Value 0) (space_is (with_bytes stack_base (stat_words stat) p.space) ∷ []))

pub fstat-gives : (d : ℕ) (files : FileTable) (p : TracedProcess) → IsReady IsPlanted p
    → Gives d files p (fstat_effect files p.fds p.space d stack_base)
unfolding fstat_effect described
fstat-gives d files p ready = by (open_of files p.fds d) refl
  where
    by : (o : Option (ℕ × OpenFile)) → open_of files p.fds d ≡ o
        → Gives d files p (fstat_effect files p.fds p.space d stack_base)
    by None is = rw is (gives_errno (rw is refl))
    by (Some found) is = rw (is, ready.stack) (gives_stat (stat_of files found.1) (rw is refl))

-- it asks for the descriptor
pub asked-effect : (d : ℕ) (s : TracedSystem) (pid : ℕ) (p : TracedProcess) (l : TracedLwp)
    → l.regs ≡ moved_on (asks d)
    → call_effect s pid p agent_id l s.clock Fstat (arguments l.regs)
    ≡ fstat_effect s.files p.fds p.space d stack_base
unfolding call_effect
asked-effect d s pid p l asked =
    ap (λ (regs : List ℕ).
    fstat_effect s.files p.fds p.space (slice_index (arguments regs) 0) (slice_index (arguments regs) 1)) asked
    ∙ ap (λ (fd : ℕ). fstat_effect s.files p.fds p.space fd (slice_index (arguments (moved_on (asks d))) 1))
    (asks-for d)
    ∙ ap (fstat_effect s.files p.fds p.space d) (asks-at d)

-- the memory with its answer
module _ (p : TracedProcess) (ready : IsReady IsPlanted p) (stat : Stat) where
  abbrev answer : List ℕ
  answer = stat_words stat

  answer-size : length answer ≡ 24
  unfolding word_bytes
  answer-size = refl

  abbrev pub with_answer : TracedProcess
  with_answer = with_space (with_bytes stack_base answer p.space) p

  answer-like : IsLike p with_answer
  unfolding with_space
  answer-like = record {
    control = refl;
    fds = refl;
    borrower = refl;
    lwps = refl;
    code =
        far-bytes prot_exec p.space stack_base answer text_base code_size (omega arith)
        (inl (omega arith));
    stack = still-allowed prot_write p.space stack_base answer stack_base 24;
  }

  can-check : {X : Type 0} (r : Result X BadByte) → is_ok r ≡ true → checked r ≡ Ok tt
  can-check (Ok x) is = refl
  can-check (Err bad) is = absurd (cc)

  answer-stands : bytes_for 0 with_answer.space stack_base 24 ≡ Ok answer
  unfolding with_space
  answer-stands =
      let whole : bytes_for prot_write (with_bytes stack_base answer p.space) stack_base (length answer) ≡ Ok answer =
      bytes_for-with_bytes p.space stack_base answer prot_write (omega (arith, answer-size))
      (ap (λ (n : ℕ). checked (bytes_for prot_write p.space stack_base n)) answer-size
      ∙ can-check (bytes_for prot_write p.space stack_base 24) ready.stack) in
      any-bytes prot_write (with_bytes stack_base answer p.space) stack_base 24 answer
      (ap (λ (n : ℕ). bytes_for prot_write (with_bytes stack_base answer p.space) stack_base n) (sym answer-size)
      ∙ whole)

-- ---- the rows

-- What a turn of the agent makes of its process.
pub data AfterAgent (d : ℕ) (files : FileTable) (p q : TracedProcess) : Type 0 where
  goes_on : (k : TracedLwp) → lwp_of q agent_id ≡ Some k → IsAgent k → k.control.stop ≡ None → Position d k
      → AfterAgent d files p q
  is_back : (k : TracedLwp) → lwp_of q agent_id ≡ Some k → IsAgent k → IsAnswered d files p.fds q.space k
      → AfterAgent d files p q

pub record HasTurned (d : ℕ) (files : FileTable) (p q : TracedProcess) : Type 0 where
  pub ready : IsReady IsPlanted q
  pub fds : q.fds ≡ p.fds
  pub after : AfterAgent d files p q

module _ (d : ℕ) (s : TracedSystem) (pid : ℕ) (p : TracedProcess) (l : TracedLwp)
    (live : live_process s pid ≡ Some p) (there : lwp_of p agent_id ≡ Some l) (ready : IsReady IsPlanted p)
    (agent : IsAgent l) (at : Position d l) (running : l.control.stop ≡ None)
    (uncaught : AreUncaught p.dispositions) (spares : SparesKill l.pending)
    (spares_all : SparesKill p.pending) where
  abbrev Outcome : TracedProcess → Type 0
  Outcome q = HasTurned d s.files p q

  same-like : IsLike p p
  same-like = record { control = refl; fds = refl; borrower = refl; lwps = refl; code = refl; stack = refl }

  -- where it is, if neither its phase nor its registers change
  stays-at : (k : TracedLwp) → k.phase ≡ l.phase → k.regs ≡ l.regs → Position d k
  stays-at k phases regs = by at
    where
      by : Position d l → Position d k
      by (leaving call args result is asked) = leaving call args result (phases ∙ is) (regs ∙ asked)
      by (in_code is asked) = in_code (phases ∙ is) (regs ∙ asked)
      by (calling is asked) = calling (phases ∙ is) (regs ∙ asked)

  module _ (f : TracedLwp → TracedLwp) (x : TracedProcess) (like : IsLike p x) (did : Did) (begun : Bool) where
    abbrev now : TracedProcess
    now = later f did begun p x like

    goes-so : IsAgent (f l) → (f l).control.stop ≡ l.control.stop → Position d (f l) → Outcome now
    goes-so is stop place = record {
      ready = later-ready f did begun p x like IsPlanted ready;
      fds = later-fds f did begun p x like;
      after = goes_on (f l) (later-agent f did begun p x like l there) is (stop ∙ running) place;
    }

  -- the process that lives after a row that ends nothing is what the row makes of it
  found : (row : Row) (x q : TracedProcess) → row.transition.ending ≡ None
      → live_process (all_changed traced pid p agent_id l row.transition.changes s) pid ≡ Some x
      → live_process (settled s pid p agent_id l row).system pid ≡ Some q → turned s pid p agent_id l row x ≡ q
  found row x q ends made later_live =
      same_Some (turned s pid p agent_id l row x) q
      (sym (settled-live s pid p agent_id l row x ends made) ∙ later_live)

  -- a change of the process alone
  changed-live : (change : TracedProcess → TracedProcess) → (change p).ended ≡ p.ended
      → live_process (with_process pid change s) pid ≡ Some (change p)
  changed-live change same = live-changed s pid change p live same

  -- it takes SIGSTOP
  took : (c : Current) (own : Bool) → c.signal ≡ sig.Stop
      → IsAgent (moved traced (takes c own) l) × Position d (moved traced (takes c own) l)
  unfolding moved
  took c own is = (
    record {
      held = agent.held;
      goes = agent.goes;
      not_directed = agent.not_directed;
      no_step = agent.no_step;
      no_abort = agent.no_abort;
      current = is;
    },
    stays-at (moved traced (takes c own) l) refl refl,
  )

  takes-own : (g : Sig) → own_takeable l ≡ Some g → (q : TracedProcess)
      → live_process (settled s pid p agent_id l (own_taken_row l g)).system pid ≡ Some q → Outcome q
  unfolding own_takeable own_taken_row own_taken all_changed moved
  takes-own g takes_it q later_live =
      let c : Current = current_of g l.pending in
      let is : g ≡ sig.Stop = unheld l.pending l.held g spares agent.held takes_it in
      let f = moved traced (takes c true) in
      let k = took c true is in
      let did : Did = (own_taken_row l g).did in
      let x : TracedProcess = later f did false p p same-like in
      let same = found (own_taken_row l g) p q refl live later_live in
      subst Outcome (sym (later-signal f did false p p same-like IsPlanted ready g) ∙ same)
      (goes-so f p same-like did false k.0 refl k.1)

  shared-like : (g : Sig) → IsLike p (with_shared_taken g p)
  unfolding with_shared_taken
  shared-like g = record { control = refl; fds = refl; borrower = refl; lwps = refl; code = refl; stack = refl }

  shared-ended : (h : Sig) → (with_shared_taken h p).ended ≡ p.ended
  unfolding with_shared_taken
  shared-ended h = refl

  takes-shared : (g : Sig) → shared_takeable p l ≡ Some g → (q : TracedProcess)
      → live_process (settled s pid p agent_id l (shared_taken_row p g)).system pid ≡ Some q → Outcome q
  unfolding shared_takeable shared_taken_row shared_taken all_changed changed moved
  takes-shared g takes_it q later_live =
      let c : Current = current_of g p.pending in
      let is : g ≡ sig.Stop = unheld p.pending l.held g spares_all agent.held takes_it in
      let f = moved traced (takes c false) in
      let k = took c false is in
      let did : Did = (shared_taken_row p g).did in
      let x : TracedProcess = with_shared_taken g p in
      let same =
      found (shared_taken_row p g) x q refl (changed-live (with_shared_taken g) (shared-ended g)) later_live in
      subst Outcome (sym (later-signal f did false p x (shared-like g) IsPlanted ready g) ∙ same)
      (goes-so f x (shared-like g) did false k.0 refl k.1)

  -- it acts on SIGSTOP: its process is stopped by job control, which does not hold the agent
  job-like : (g : Sig) → IsLike p (with_job_stop g p)
  unfolding with_job_stop
  job-like g = record { control = refl; fds = refl; borrower = refl; lwps = refl; code = refl; stack = refl }

  job-ended : (h : Sig) → (with_job_stop h p).ended ≡ p.ended
  unfolding with_job_stop
  job-ended h = refl

  stops-job : (did : Did) (g : Sig) (q : TracedProcess)
      → live_process (settled s pid p agent_id l (quiet_row did (job_stopped g))).system pid ≡ Some q → Outcome q
  unfolding job_stopped all_changed changed after_meeting moved
  stops-job did g q later_live =
      let f = moved traced drops in
      let x : TracedProcess = with_job_stop g p in
      let same =
      found (quiet_row did (job_stopped g)) x q refl (changed-live (with_job_stop g) (job-ended g)) later_live in
      subst Outcome same
      (goes-so f x (job-like g) did false
      (record {
        held = agent.held;
        goes = agent.goes;
        not_directed = agent.not_directed;
        no_step = agent.no_step;
        no_abort = agent.no_abort;
        current = tt;
      }) refl (stays-at (f l) refl refl))

  -- it leaves its last call
  returns-back : (call : Sysno) (args : List ℕ) (result : Res) → l.phase ≡ phase.Exiting call args result
      → (q : TracedProcess) → live_process (settled s pid p agent_id l (returned_row p l call)).system pid ≡ Some q
      → Outcome q
  unfolding returned_row returned all_changed after_meeting moved traced
  returns-back call args result out q later_live =
      let f = moved traced returns in
      let row : returned_row p l call ≡ quiet_row (Returned call) returned = rw agent.no_step refl in
      let same =
      found (quiet_row (Returned call) returned) p q refl live
      (ap (λ (r : Row). live_process (settled s pid p agent_id l r).system pid) (sym row) ∙ later_live) in
      subst Outcome same
      (goes-so f p same-like (Returned call) false
      (record {
        held = agent.held;
        goes = agent.goes;
        not_directed = agent.not_directed;
        no_step = agent.no_step;
        no_abort = agent.no_abort;
        current = agent.current;
      }) refl (by at))
    where
      by : Position d l → Position d (moved traced returns l)
      by (leaving c ys r is asked) = in_code refl asked
      by (in_code is asked) = absurd (let both = sym is ∙ out in cc)
      by (calling is asked) = absurd (let both = sym is ∙ out in cc)

  -- it comes to its call
  executes-call : l.phase ≡ phase.User → (q : TracedProcess)
      → live_process
      (settled s pid p agent_id l (executed_row p l (instruction_effect p.space p.control.areas l.regs))).system pid
      ≡ Some q → Outcome q
  unfolding executed_row entered_row entered all_changed moved traced
  executes-call user q later_live = by at
    where
      by : Position d l → Outcome q
      by (leaving call args result is asked) = absurd (let both = sym is ∙ user in cc)
      by (calling is asked) = absurd (let both = sym is ∙ user in cc)
      by (in_code is asked) =
          let regs : List ℕ = moved_on (asks d) in
          let effect : instruction_effect p.space p.control.areas l.regs ≡ calls Fstat regs =
          ap (instruction_effect p.space p.control.areas) asked ∙ comes-to-call d p ready in
          let row : executed_row p l (instruction_effect p.space p.control.areas l.regs) ≡ entered_row Fstat regs =
          ap (executed_row p l) effect in
          let f = moved traced (enters Fstat regs) in
          let did : Did = Entered Fstat in
          let same =
          found (entered_row Fstat regs) p q refl live
          (ap (λ (r : Row). live_process (settled s pid p agent_id l r).system pid) (sym row) ∙ later_live) in
          subst Outcome (sym (later-entry f did true p p same-like IsPlanted ready Fstat) ∙ same)
          (goes-so f p same-like did true
          (record {
            held = agent.held;
            goes = agent.goes;
            not_directed = agent.not_directed;
            no_step = agent.no_step;
            no_abort = agent.no_abort;
            current = agent.current;
          }) refl (calling refl refl))

  -- it is answered, and stops at the exit of its call
  module _ (args : List ℕ) (result : Res) (x : TracedProcess) (like : IsLike p x) (told : Tells x.space result
      (described s.files p.fds d)) where
    abbrev f : TracedLwp → TracedLwp
    f = moved traced (leaves Fstat args result)

    abbrev made : Did
    made = Made Fstat result

    abbrev before : TracedProcess
    before = later f made false p x like

    left-agent : IsAgent (f l)
    unfolding moved call_over traced
    left-agent = record {
      held = agent.held;
      goes = agent.goes;
      not_directed = agent.not_directed;
      no_step = agent.no_step;
      no_abort = refl;
      current = agent.current;
    }

    left-phase : (f l).phase ≡ phase.Exiting Fstat args result
    unfolding moved traced
    left-phase = refl

    stopped-agent : (k : TracedLwp) → IsAgent k → IsAgent (stopped_at (Exit Fstat) k)
    unfolding stopped_at
    stopped-agent k is = record {
      held = is.held;
      goes = is.goes;
      not_directed = is.not_directed;
      no_step = is.no_step;
      no_abort = is.no_abort;
      current = is.current;
    }

    stopped-answered : (space : Space) (k : TracedLwp) → k.phase ≡ phase.Exiting Fstat args result
        → Tells space result (described s.files p.fds d)
        → IsAnswered d s.files p.fds space (stopped_at (Exit Fstat) k)
    unfolding stopped_at
    stopped-answered space k out tells =
        record { stands = refl; args = args; result = result; way_out = out; tells = tells }

    answered-so : Outcome (at_exit IsPlanted before (f l) (later-agent f made false p x like l there)
        (later-ready f made false p x like IsPlanted ready))
    answered-so =
        let agent_there = later-agent f made false p x like l there in
        let fine = later-ready f made false p x like IsPlanted ready in
        let stops = stops-at IsPlanted before (f l) agent_there fine in
        let q : TracedProcess = at_exit IsPlanted before (f l) agent_there fine in
        let k : TracedLwp = stopped_at (Exit Fstat) (f l) in
        let space : x.space ≡ q.space = sym (stops.space ∙ later-space f made false p x like) in
        let tells : Tells q.space result (described s.files p.fds d) =
        subst (λ (sp : Space). Tells sp result (described s.files p.fds d)) space told in
        record {
          ready = stops.ready;
          fds = stops.fds ∙ later-fds f made false p x like;
          after =
              is_back k stops.agent (stopped-agent (f l) left-agent) (stopped-answered q.space (f l) left-phase tells);
        }

  space-ended : (sp : Space) → (with_space sp p).ended ≡ p.ended
  unfolding with_space
  space-ended sp = refl

  performs-call : (call : Sysno) (args : List ℕ) (since : ℕ) (woken : Bool) → IsInCall s l woken call args since
      → (q : TracedProcess)
      → live_process
      (settled s pid p agent_id l
      (performed_row woken call args since (call_effect s pid p agent_id l since call args))).system pid
      ≡ Some q → Outcome q
  unfolding performed_row performed all_changed changed
  performs-call call args since woken (kind.asleep_in_it is) q later_live = absurd (asleep at)
    where
      asleep : Position d l → ⊥
      asleep (leaving c ys r out asked) = absurd (let both = sym is ∙ out in cc)
      asleep (in_code user asked) = absurd (let both = sym is ∙ user in cc)
      asleep (calling entered asked) = absurd (let both = sym is ∙ entered in cc)
  performs-call call args since woken (kind.at_it is) q later_live = by at
    where
      same-call : (a b : Sysno) → phase.Entered a ≡ phase.Entered b → a ≡ b
      same-call a b same = cc

      gave : (e : Effect) → Gives d s.files p e
          → live_process
          (settled s pid p agent_id l (performed_row false Fstat (arguments l.regs) s.clock e)).system pid ≡ Some q
          → Outcome q
      gave e (gives_errno none) now_live =
          let its : List ℕ = arguments l.regs in
          let row = performed_row false Fstat its s.clock (does (Error Badf) []) in
          let told : Tells p.space (Error Badf) (described s.files p.fds d) =
          subst (Tells p.space (Error Badf)) (sym none) (Badf, refl) in
          subst Outcome (found row p q refl live now_live) (answered-so its (Error Badf) p same-like told)
      gave e (gives_stat stat is_open) now_live =
          let its : List ℕ = arguments l.regs in
          let space : Space = with_bytes stack_base (stat_words stat) p.space in
          let row = performed_row false Fstat its s.clock (does (Value 0) (space_is space ∷ [])) in
          let x : TracedProcess = with_answer p ready stat in
          let told : Tells x.space (Value 0) (described s.files p.fds d) =
          subst (Tells x.space (Value 0)) (sym is_open) (refl, answer-stands p ready stat) in
          subst Outcome
          (found row x q refl (changed-live (with_space space) (space-ended space)) now_live)
          (answered-so its (Value 0) x (answer-like p ready stat) told)

      by : Position d l → Outcome q
      by (leaving c ys r out asked) = absurd (let both = sym is ∙ out in cc)
      by (in_code user asked) = absurd (let both = sym is ∙ user in cc)
      by (calling entered asked) =
          let fstat : call ≡ Fstat = same-call call Fstat (sym is ∙ entered) in
          gave (call_effect s pid p agent_id l s.clock Fstat (arguments l.regs))
          (subst (Gives d s.files p) (sym (asked-effect d s pid p l asked)) (fstat-gives d s.files p ready))
          (subst (λ (c : Sysno).
          live_process
          (settled s pid p agent_id l
          (performed_row false c (arguments l.regs) s.clock
          (call_effect s pid p agent_id l s.clock c (arguments l.regs)))).system pid ≡ Some q) fstat later_live)

  -- ---- whatever its turn is

  -- what it does with its current signal
  its-action : (c : Current) → l.current ≡ Some c → action_for p.dispositions c.signal ≡ act.Stop
  its-action c is =
      stop-stops p.dispositions c.signal uncaught (subst (λ (o : Option Current). IsUnheld o) is agent.current)

  agent-row : (row : Row) → RowKind s pid p agent_id l row → (q : TracedProcess)
      → live_process (settled s pid p agent_id l row).system pid ≡ Some q → Outcome q
  agent-row row (kind.stops is) q later_live = absurd (false≢true (sym agent.not_directed ∙ is))
  agent-row row (kind.posts is) q later_live = absurd (faulted at)
    where
      faulted : Position d l → ⊥
      faulted (leaving c ys r out asked) = absurd (let both = sym is ∙ out in cc)
      faulted (in_code user asked) = absurd (let both = sym is ∙ user in cc)
      faulted (calling entered asked) = absurd (let both = sym is ∙ entered in cc)
  agent-row row (kind.ignores {c = c} is does_it) q later_live =
      absurd (let both = sym does_it ∙ its-action c is in cc)
  agent-row row (kind.stops_job {c = c} is does_it) q later_live = stops-job _ c.signal q later_live
  agent-row row (kind.dies {c = c} is does_it) q later_live =
      absurd (let both = sym does_it ∙ its-action c is in cc)
  agent-row row (kind.catches {c = c} is does_it) q later_live =
      absurd (let both = sym does_it ∙ its-action c is in cc)
  agent-row row (kind.takes_own {g = g} none own) q later_live = takes-own g own q later_live
  agent-row row (kind.takes_shared {g = g} none no_own shared) q later_live = takes-shared g shared q later_live
  agent-row row (kind.interrupts in_call why) q later_live = absurd (no-reason why)
    where
      uncaught-by : (o : Option Current) → l.current ≡ o → is_caught p.dispositions o ≡ true → ⊥
      uncaught-by None none is = false≢true is
      uncaught-by (Some c) some is =
          false≢true (sym (ap is_caught_by (its-action c some)) ∙ is)

      no-reason : (l.control.abort ≡ true) ⊎ (is_caught p.dispositions l.current ≡ true) → ⊥
      no-reason (inl aborted) = false≢true (sym agent.no_abort ∙ aborted)
      no-reason (inr caught) = uncaught-by l.current refl caught
  agent-row row (kind.performs {woken = woken} {call = call} {args = args} {since = since} in_call no_abort none) q
      later_live = performs-call call args since woken in_call q later_live
  agent-row row (kind.returns {call = call} {args = args} {result = result} out none) q later_live =
      returns-back call args result out q later_live
  agent-row row (kind.executes user none) q later_live = executes-call user q later_live

  pub agent-turn : (t : LwpTurn) → turn_of s pid agent_id ≡ Some t → (q : TracedProcess)
      → live_process t.system pid ≡ Some q → Outcome q
  agent-turn t turn q later_live =
      let it = turn-taken s pid agent_id t turn in
      let same : it.process ≡ p = same_Some it.process p (sym it.live ∙ live) in
      let its : it.lwp ≡ l =
      same_Some it.lwp l
      (sym it.there ∙ ap (λ (y : TracedProcess). lwp_of y agent_id) same ∙ there) in
      let is : t ≡ settled s pid p agent_id l (row_for s pid p agent_id l) =
      it.is ∙ ap (λ (y : TracedProcess). settled s pid y agent_id it.lwp (row_for s pid y agent_id it.lwp)) same
      ∙ ap (λ (k : TracedLwp). settled s pid p agent_id k (row_for s pid p agent_id k)) its in
      agent-row (row_for s pid p agent_id l) (row-kind s pid p agent_id l) q
      (ap (λ (v : LwpTurn). live_process v.system pid) (sym is) ∙ later_live)
