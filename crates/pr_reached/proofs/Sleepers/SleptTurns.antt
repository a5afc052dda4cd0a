use Rattle.std.proofs.Common.{◌≡◌, ◌==◌, ◌+◌, ℕ, Bool, true, false, is_none, is_some, nat_lt, length, Option, Some, None, List, [], refl, sym, subst, ap, ◌∙◌}
use Rattle.std.proofs.lemmas.Bool.{false≢true}
use Rattle.std.proofs.lemmas.List.Elements.{All-cons, All-nil}
use Rattle.std.specs.List.{All}
use Rattle.pr_erasure.proofs.SeenTurns.EffectLemmas.{call-known}
use Rattle.pr_keeps.proofs.KeepsLemmas.{choice}
use Rattle.pr_keeps.specs.RowKinds as kind
use Rattle.pr_keeps.specs.RowKinds.{RowKind}
use Rattle.pr_model.proofs.StateLemmas.{live_process-found}
use Rattle.pr_model.specs.CallEffects.{call_effect}
use Rattle.pr_model.specs.Changes.{Effect, does, ends, is_over, resumed, sleeps, with_disposition_of, with_fds, with_held, with_job_stop, with_shared_taken, with_space, with_suspended}
use Rattle.pr_model.specs.Generation.{ends_job_stop, lwp_with_pending, lwp_without_pending, signalled, with_deletions, with_pending, without_job_stop, without_pending}
use Rattle.pr_model.specs.InstructionEffects as instruction
use Rattle.pr_model.specs.InstructionEffects.{InstructionEffect, instruction_effect}
use Rattle.pr_model.specs.Lives.{Birth, bare_process, forked, forked_lwp, is_id, lent_to, new_lwp, orphaned, started, with_lender_of, with_loan_back, with_new_lwp, with_program, without_lwp, zombie}
use Rattle.pr_model.specs.LwpTurns.{is_ready, with_counted}
use Rattle.pr_model.specs.Machines.{call_over, fault_incurred, fault_posted, no_marks, step_taken, stopped_as_directed, traced}
use Rattle.pr_model.specs.Moves as move
use Rattle.pr_model.specs.Moves.{Move, moved}
use Rattle.pr_model.specs.Points.{after_meeting, is_traced, stopped_at, with_others_directed, with_stop_at}
use Rattle.pr_model.specs.Rows.{Row, entered_row, executed_row, handler_row, incurred_row, interrupted_row, own_taken_row, performed_row, posted_row, ran_row, requested_row, returned_row, shared_taken_row, watched_row}
use Rattle.pr_model.specs.State.{TracedLwp, TracedProcess, TracedSystem, live_process, lwp_of, with_lwp}
use Rattle.pr_model.specs.Stops.{directed, has_event_stop, with_all_directed}
use Rattle.pr_model.specs.Transitions.{Transition, died, dropped, entered, handled, incurred, interrupted, job_stopped, own_taken, performed, posted, ran, requested, returned, shared_taken, trapped}
use Rattle.pr_model.specs.declared.lwps.Current.{Current}
use Rattle.pr_model.specs.declared.stops.Point.{Point}
use Rattle.pr_num.proofs.BoolLemmas.{either}
use Rattle.pr_num.proofs.ByIdLaws.{All-change_under, All-inserted, All-map_each, All-under, All-without_id}
use Rattle.pr_num.specs.ById.{inserted, map_each}
use Rattle.pr_num.specs.Control.{async_mode, has_flags}
use Rattle.pr_num.specs.Limits.{frame_limit}
use Rattle.pr_num.specs.Syscalls.{is_fork_call}
use Rattle.pr_num.specs.declared.infos.Info.{Info}
use Rattle.pr_num.specs.declared.signals.Sig.{Sig}
use Rattle.pr_num.specs.declared.syscalls.Sysno.{Sysno}
use Rattle.pr_num.specs.declared.syscalls.Sysno.TheVariants as sys
use Rattle.pr_parts.specs.SignalRules.{deleted_by}
use Rattle.pr_reached.specs.SleptCopies.{HasNoCopySleeper, NoneSleepsInCopy, SleepsInNoCopy, is_fork_or_exec, sleeps_in_copy}
use Rattle.pr_keeps.proofs.KeptSystems as step
use Rattle.pr_keeps.proofs.KeptSystems.{Newborn, ProcessStep, TurnStep}
use Rattle.pr_model.specs.Handles.{released, released_lwp}
use Rattle.pr_model.specs.Lives.{first_lwp, new_process}

-- A turn puts no lwp to sleep in a fork, a vfork or an exec: each of these is over at once, and what else a turn makes
-- of lwps puts none to sleep.

-- ---- rows

-- a move puts its lwp to sleep in another call, if in one
abbrev SleepsElsewhere : Move → Type 0
SleepsElsewhere (move.sleeps call args since) = is_fork_or_exec call ≡ false
SleepsElsewhere _ = Unit {0}

abbrev RowSleepsElsewhere : Row → Type 0
RowSleepsElsewhere row = SleepsElsewhere row.transition.move

module _ (s : TracedSystem) (pid : ℕ) (p : TracedProcess) (id : ℕ) (l : TracedLwp) where
  ready-copying : (since : ℕ) (c : Sysno) (args : List ℕ) → is_fork_or_exec c ≡ true
      → is_ready s pid p id l since c args ≡ true
  unfolding is_ready is_fork_call
  ready-copying since sys.Fork args copying = refl
  ready-copying since sys.Vfork args copying = refl
  ready-copying since sys.Exec args copying = refl
  ready-copying since _ args copying = absurd (false≢true copying)

  performed-elsewhere : (woken : Bool) (call : Sysno) (args : List ℕ) (since : ℕ) (effect : Effect)
      → call_effect s pid p id l since call args ≡ effect
      → RowSleepsElsewhere (performed_row woken call args since effect)
  unfolding performed_row performed
  performed-elsewhere woken call args since (does result changes) is = tt
  performed-elsewhere woken call args since (ends how) is = tt
  performed-elsewhere woken call args since sleeps is = by (is_fork_or_exec call) refl
    where
      by : (b : Bool) → is_fork_or_exec call ≡ b → is_fork_or_exec call ≡ false
      by false other = other
      by true copying =
          let known = call-known s pid p id l since call args in
          absurd (false≢true (sym (ap is_over is) ∙ known.over (ready-copying since call args copying)))

  executed-elsewhere : (e : InstructionEffect) → RowSleepsElsewhere (executed_row p l e)
  unfolding executed_row ran_row entered_row incurred_row watched_row ran entered incurred trapped
  executed-elsewhere (instruction.runs regs store) =
      choice RowSleepsElsewhere l.control.step _ _ (λ marked. tt) (λ free. tt)
  executed-elsewhere (instruction.calls call regs) = tt
  executed-elsewhere (instruction.faults f address) = tt
  executed-elsewhere (instruction.runs_into_watch address regs store) = tt

  handled-elsewhere : (c : Current) (handler : ℕ) → RowSleepsElsewhere (handler_row l c handler)
  unfolding handler_row handled
  handled-elsewhere c handler =
      choice (λ (t : Transition). SleepsElsewhere t.move) (nat_lt (length l.frames) frame_limit) _ _ (λ room. tt)
      (λ full. tt)

  pub kind-elsewhere : (row : Row) → RowKind s pid p id l row → RowSleepsElsewhere row
  unfolding requested_row posted_row own_taken_row shared_taken_row interrupted_row returned_row requested posted
      own_taken shared_taken interrupted returned trapped dropped job_stopped died
  kind-elsewhere row (kind.stops now) = tt
  kind-elsewhere row (kind.posts at) = tt
  kind-elsewhere row (kind.ignores now is) = tt
  kind-elsewhere row (kind.stops_job now is) = tt
  kind-elsewhere row (kind.dies now is) = tt
  kind-elsewhere row (kind.catches {c = c} {handler = handler} now is) = handled-elsewhere c handler
  kind-elsewhere row (kind.takes_own none is) = tt
  kind-elsewhere row (kind.takes_shared none own is) = tt
  kind-elsewhere row (kind.interrupts it why) = tt
  kind-elsewhere row (kind.performs {woken = woken} {call = call} {args = args} {since = since} it goes none) =
      performed-elsewhere woken call args since (call_effect s pid p id l since call args) refl
  kind-elsewhere row (kind.returns at none) =
      choice RowSleepsElsewhere l.control.step _ _ (λ marked. tt) (λ free. tt)
  kind-elsewhere row (kind.executes at none) =
      executed-elsewhere (instruction_effect p.space p.control.areas l.regs)

-- ---- lwps

-- a change of an lwp that puts none to sleep in such a call
abbrev pub KeepsAwake : (TracedLwp → TracedLwp) → Type 0
KeepsAwake f = (id : ℕ) (x : TracedLwp) → SleepsInNoCopy (id, x) → SleepsInNoCopy (id, f x)

pub same-phase : (f : TracedLwp → TracedLwp) → ((x : TracedLwp) → (f x).phase ≡ x.phase) → KeepsAwake f
same-phase f same id x u = record { none = ap sleeps_in_copy (same x) ∙ u.none }

directed-keeps : KeepsAwake directed
unfolding directed
directed-keeps id x u =
    either (λ (k : TracedLwp). SleepsInNoCopy (id, k)) (has_event_stop x) x
    (record x { control = record x.control { directed = true } }) u (record { none = u.none })

moved-keeps : (m : Move) → SleepsElsewhere m → KeepsAwake (moved traced m)
unfolding moved traced call_over stopped_as_directed step_taken fault_incurred fault_posted
moved-keeps move.stays other id x u = u
moved-keeps move.stops other id x u = record { none = u.none }
moved-keeps (move.posts f address) other id x u = record { none = refl }
moved-keeps move.returns other id x u = record { none = refl }
moved-keeps (move.runs regs) other id x u = record { none = u.none }
moved-keeps (move.enters call regs) other id x u = record { none = refl }
moved-keeps (move.incurs f address) other id x u = record { none = refl }
moved-keeps (move.traps f address regs) other id x u = record { none = refl }
moved-keeps (move.leaves call args result) other id x u = record { none = refl }
moved-keeps (move.sleeps call args since) other id x u = record { none = other }
moved-keeps (move.takes c own) other id x u = record { none = u.none }
moved-keeps move.drops other id x u = record { none = u.none }
moved-keeps (move.catches frames regs held) other id x u = record { none = refl }

-- ---- processes

abbrev Awake : TracedProcess → Type 0
Awake x = All SleepsInNoCopy x.lwps

abbrev pub KeepsLwpsAwake : (TracedProcess → TracedProcess) → Type 0
KeepsLwpsAwake f = (x : TracedProcess) → All SleepsInNoCopy x.lwps → All SleepsInNoCopy (f x).lwps

-- one lwp of a process is changed; every lwp is; its lwps stay
pub lwp-keeps : (id : ℕ) (f : TracedLwp → TracedLwp) → KeepsAwake f → KeepsLwpsAwake (with_lwp id f)
unfolding with_lwp
lwp-keeps id f keeps x u = All-change_under SleepsInNoCopy id f x.lwps (λ l found un. keeps id l un) u

pub lwps-keep : (f : TracedLwp → TracedLwp) → KeepsAwake f → (x : TracedProcess) → All SleepsInNoCopy x.lwps
    → All SleepsInNoCopy (map_each f x.lwps)
lwps-keep f keeps x u = All-map_each SleepsInNoCopy SleepsInNoCopy f (λ e un. keeps e.0 e.1 un) x.lwps u

same-lwps : (f : TracedProcess → TracedProcess) → ((x : TracedProcess) → (f x).lwps ≡ x.lwps) → KeepsLwpsAwake f
same-lwps f same x u = subst (All SleepsInNoCopy) (sym (same x)) u

pending-keeps : (target : Option ℕ) (g : Sig) (info : Info) → KeepsLwpsAwake (with_pending target g info)
unfolding with_pending lwp_with_pending
pending-keeps None g info x u = u
pending-keeps (Some id) g info x u =
    All-change_under SleepsInNoCopy id (lwp_with_pending g info) x.lwps (λ l found un. record { none = un.none }) u

without_pending-keeps : (set : ℕ) → KeepsLwpsAwake (without_pending set)
unfolding without_pending lwp_without_pending
without_pending-keeps set x u =
    lwps-keep (lwp_without_pending set) (same-phase (lwp_without_pending set) (λ l. refl)) x u

deletions-keep : (g : Sig) → KeepsLwpsAwake (with_deletions g)
unfolding with_deletions without_job_stop
deletions-keep g x u =
    let less : TracedProcess = without_pending (deleted_by g) x in
    let gone = without_pending-keeps (deleted_by g) x u in
    let resumed_one : TracedProcess = record less { job_stop = None } in
    either Awake (deleted_by g == 0) x _ u (either Awake (ends_job_stop g) resumed_one less gone gone)

signalled-keeps : (target : Option ℕ) (g : Sig) (info : Info) → KeepsLwpsAwake (signalled target g info)
unfolding signalled
signalled-keeps target g info x u =
    either Awake (is_none x.ended) (with_pending target g info (with_deletions g x)) x
    (pending-keeps target g info (with_deletions g x) (deletions-keep g x u)) u

orphaned-keeps : (parent : ℕ) → KeepsLwpsAwake (orphaned parent)
unfolding orphaned
orphaned-keeps parent x u = either Awake (x.parent == parent) (record x { parent = 0 }) x u u

zombie-keeps : (status : ℕ) → KeepsLwpsAwake (zombie traced status)
unfolding zombie bare_process
zombie-keeps status x u = All-nil SleepsInNoCopy

loan_back-keeps : (pid : ℕ) (p : TracedProcess) → KeepsLwpsAwake (with_loan_back pid p)
unfolding with_loan_back
loan_back-keeps pid p x u =
    either Awake (is_id pid x.borrower) (record x { space = p.space; borrower = p.borrower }) x u u

lender_of-keeps : (pid : ℕ) (p : TracedProcess) → KeepsLwpsAwake (with_lender_of pid p)
unfolding with_lender_of
lender_of-keeps pid p x u = either Awake (is_id pid x.lender) (record x { lender = p.lender }) x u u

new_lwp-keeps : (new : ℕ) (regs : List ℕ) (held : ℕ) → KeepsLwpsAwake (with_new_lwp traced new regs held)
unfolding with_new_lwp new_lwp traced
new_lwp-keeps new regs held x u =
    let made = new_lwp traced regs held (no_marks false) in
    either Awake (is_some (lwp_of x new)) x (record x { next_lwp = new + 1; lwps = inserted new made x.lwps }) u
    (All-inserted SleepsInNoCopy new made x.lwps (record { none = refl }) u)

forked-awake : (birth : Birth) (pid : ℕ) (p : TracedProcess) (l : TracedLwp) (args : List ℕ) (clock : ℕ)
    → Awake (forked traced birth pid p l args clock)
unfolding forked forked_lwp traced
forked-awake birth pid p l args clock =
    All-cons SleepsInNoCopy _ [] (record { none = refl }) (All-nil SleepsInNoCopy)

meeting-keeps : (point : Option Point) (id : ℕ) → KeepsLwpsAwake (after_meeting point id)
unfolding after_meeting with_stop_at with_others_directed with_all_directed stopped_at
meeting-keeps None id x u = u
meeting-keeps (Some point) id x u =
    let stopped = lwp-keeps id (stopped_at point) (λ i m un. record { none = un.none }) x u in
    let at = with_lwp id (stopped_at point) x in
    either Awake (is_traced x.control point) (with_stop_at point id x) x
    (either Awake (has_flags at.control.modes async_mode) at (with_all_directed at) stopped
    (lwps-keep directed directed-keeps at stopped))
    u

released-keeps : KeepsLwpsAwake released
unfolding released released_lwp
released-keeps x u = lwps-keep released_lwp (same-phase released_lwp (λ l. refl)) x u

-- ---- the steps of a process

abbrev pub IsOwnAwake : ℕ → TracedLwp → Type 0
IsOwnAwake id l = SleepsInNoCopy (id, l)

pub step-awake : (f : TracedProcess → TracedProcess) → ProcessStep IsOwnAwake f → KeepsLwpsAwake f
unfolding lent_to with_fds with_space with_shared_taken with_job_stop with_disposition_of with_held resumed
    with_suspended with_program started without_lwp
step-awake f (step.told target g info other) x u = signalled-keeps target g info x u
step-awake f (step.dies status) x u = zombie-keeps status x u
step-awake f (step.loses_parent gone) x u = orphaned-keeps gone x u
step-awake f step.is_released x u = released-keeps x u
step-awake f (step.gets_back gone p) x u = loan_back-keeps gone p x u
step-awake f (step.gets_lender gone p) x u = lender_of-keeps gone p x u
step-awake f (step.becomes id l program own) x u =
    All-cons SleepsInNoCopy _ [] (record { none = own.none }) (All-nil SleepsInNoCopy)
step-awake f (step.held_is id held) x u = lwp-keeps id (with_held held) (same-phase (with_held held) (λ l. refl)) x u
step-awake f (step.resumes id frame frames) x u =
    lwp-keeps id (resumed frame frames) (same-phase (resumed frame frames) (λ l. refl)) x u
step-awake f (step.suspends id it) x u =
    lwp-keeps id (with_suspended it) (same-phase (with_suspended it) (λ l. refl)) x u
step-awake f (step.gets_lwp id regs held) x u = new_lwp-keeps id regs held x u
step-awake f (step.loses_lwp id) x u = All-without_id SleepsInNoCopy id x.lwps u
step-awake f _ x u = u

pub newborn-awake : (x : TracedProcess) → Newborn IsOwnAwake x → Awake x
unfolding new_process bare_process first_lwp new_lwp traced
newborn-awake x (step.spawned program clock held) =
    All-cons SleepsInNoCopy _ [] (record { none = refl }) (All-nil SleepsInNoCopy)
newborn-awake x (step.forks birth pid p id l args clock own) = forked-awake birth pid p l args clock

-- what a row does to its own process
pub own-awake : (id : ℕ) (row : Row) → RowSleepsElsewhere row → (f : TracedProcess → TracedProcess)
    → TurnStep id row f → KeepsLwpsAwake f
unfolding with_counted
own-awake id row other f step.moves x u =
    lwp-keeps id (moved traced row.transition.move) (moved-keeps row.transition.move other) x u
own-awake id row other f step.counts x u = u
own-awake id row other f step.meets x u = meeting-keeps row.point id x u

-- an lwp of a process that lives
pub awake-lwp : (s : TracedSystem) (pid : ℕ) (p : TracedProcess) (id : ℕ) (l : TracedLwp) → NoneSleepsInCopy s
    → live_process s pid ≡ Some p → lwp_of p id ≡ Some l → SleepsInNoCopy (id, l)
awake-lwp s pid p id l u live there =
    let here = All-under HasNoCopySleeper pid p s.processes u.processes (live_process-found s pid p live) in
    All-under SleepsInNoCopy id l p.lwps here.lwps there
