use Rattle.std.proofs.Common.{◌≡◌, ◌≢◌, ◌==◌, ◌<◌, ◌⊎◌, ℕ, suc, Bool, true, false, cond, None, Some, Option, List, [], ◌∷◌, length, refl, sym, subst, ap, ◌∙◌, arith, inl, inr}
use Rattle.std.proofs.lemmas.Bool.{cases_Bool, cases_eq, eq-eqb, eqb-true, false≢true}
use Rattle.std.proofs.lemmas.Option.{none-some, same_Some}
use Rattle.std.specs.List.{slice_get}
use Rattle.pr_line.specs.declared.options.Options.{Options}
use Rattle.pr_model.specs.Calls.{Answer, answer_to}
use Rattle.pr_model.specs.Handles.{handle_of, is_writable}
use Rattle.pr_model.specs.Legal.{after}
use Rattle.pr_model.specs.Messages.{with_control, with_modes}
use Rattle.pr_model.specs.Replies.{number_of, opened_in}
use Rattle.pr_model.specs.State.{TracedControl, TracedProcess, TracedState, live_process}
use Rattle.pr_model.specs.Statuses.{lwpstatus_of, status_of}
use Rattle.pr_model.specs.declared.calls.Call.{Call}
use Rattle.pr_model.specs.declared.calls.Call.TheVariants as call
use Rattle.pr_model.specs.declared.calls.File.{File}
use Rattle.pr_model.specs.declared.calls.File.TheVariants as file
use Rattle.pr_model.specs.declared.calls.Mode.{Mode}
use Rattle.pr_model.specs.declared.calls.Mode.TheVariants.{Read, WriteExcl}
use Rattle.pr_model.specs.declared.calls.Reply.{Reply}
use Rattle.pr_model.specs.declared.calls.Reply.TheVariants as reply
use Rattle.pr_model.specs.declared.events.Act.TheVariants as act
use Rattle.pr_model.specs.declared.events.Actor.TheVariants.{Controller}
use Rattle.pr_model.specs.declared.events.Entry.{Entry}
use Rattle.pr_num.specs.Control.{fork_mode, has_flags, rlc_mode}
use Rattle.pr_num.specs.Sets.{has_number}
use Rattle.pr_num.specs.declared.messages.Message.TheVariants as message
use Rattle.pr_truss.specs.Children.{with_child_control, with_child_control_answered}
use Rattle.pr_truss.specs.Feeding.{fed, with_reply}
use Rattle.pr_truss.specs.Messages.{message_call}
use Rattle.pr_truss.specs.NextCalls.{call_of, child_call, freeing_call, next_call_of, open_control, opening_call, read_record}
use Rattle.pr_truss.specs.Processes.{newly_traced}
use Rattle.pr_truss.specs.Replies.{answer_of}
use Rattle.pr_truss.specs.Stops.{followed_child}
use Rattle.pr_truss.specs.Trusses.{TrussState, traced_at}
use Rattle.pr_truss.specs.declared.processes.Traced.{Traced}
use Rattle.pr_truss.specs.declared.replies.Answer as answers
use Rattle.pr_truss.specs.declared.replies.Answer.TheVariants.{Accepted, Gone}
use Rattle.pr_truss.specs.declared.stages.ChildStep.{ChildStep}
use Rattle.pr_truss.specs.declared.stages.ChildStep.TheVariants as child
use Rattle.pr_truss.specs.declared.stages.OpeningStep.{OpeningStep}
use Rattle.pr_truss.specs.declared.stages.OpeningStep.TheVariants as opening
use Rattle.pr_truss.specs.declared.stages.Stage.{Stage}
use Rattle.pr_truss.specs.declared.stages.Stage.TheVariants.{OpeningControl, Opening, ReadingStatus, OpeningChildControl, OpeningChild, Running, FreeingChild}
use Rattle.pr_truss_laws.proofs.Machine.ForeignLemmas.{names}
use Rattle.pr_truss_laws.proofs.Files.HeldLemmas.{Fits, at_place}
use Rattle.pr_truss_laws.proofs.Files.OpensLemmas.{held_by}
use Rattle.pr_truss_laws.proofs.Machine.OverLemmas.{stays-made}
use Rattle.pr_report_laws.proofs.Invariant.Tallies.{Tally}
use Rattle.pr_report_laws.proofs.UnopenedChildren.Claims.{Claims, Comes, KeepsChildren, IsDone, IsFree, IsSet, IsTold, Names, WasClaimed, WasFree, WasSet, claim_of, is_child, not_followed, opened, runs, set_now, sets, stands, was_claimed, was_free, was_run, was_set, was_told, watched}
use Rattle.pr_report_laws.proofs.UnopenedChildren.Claims as claims
use Rattle.pr_report_laws.proofs.UnopenedChildren.ClaimBegun.{begun-stands, control-begins, own-told}
use Rattle.pr_report_laws.proofs.UnopenedChildren.ClaimFed.{fed-comes}
use Rattle.pr_report_laws.proofs.UnopenedChildren.ClaimReach.{followed-forked}
use Rattle.pr_report_laws.proofs.UnopenedChildren.ClaimRuns.{IsOwn, call_entry, call-is, call-same, control-held, lived, missed, misses, opened-set, ran-quiet, running-ran, start-ran, stood}
use Rattle.pr_report_laws.proofs.Machine.ControlLaws.{follow-set, release-set}
use Rattle.pr_report_laws.proofs.UnopenedChildren.LeftChildren.{LeavesTo, parent-now}
use Rattle.pr_report_laws.proofs.Files.FileUses as uses
use Rattle.pr_report_laws.proofs.Machine.ForkTurns.{HasForked, alone-forked, quiet-forked}
use Rattle.pr_report_laws.proofs.Machine.FrameLaws.{alone-control}
use Rattle.pr_report_laws.proofs.Replies.Leaving.{IsLeaving}
use Rattle.pr_report_laws.proofs.Machine.NewBorn.{IsNeverGranted, IsNewBorn, IsUntouched, Stands, is_begun, is_never, never-later, new-on, stands_new, untouched-now, untouched-on}
use Rattle.pr_report_laws.proofs.Invariant.OwnCalls.{Misses}
use Rattle.pr_report_laws.proofs.Replies.OwnLooks.{IsCall}
use Rattle.pr_report_laws.proofs.Replies.OwnOpens.{granted-handle}
use Rattle.pr_report_laws.proofs.Machine.RecordLaws as reads
use Rattle.pr_report_laws.proofs.Machine.SettingLaws.{follow-has, other-added}
use Rattle.pr_report_laws.proofs.Invariant.StandLemmas.{Leaves, busy}
use Rattle.pr_report_laws.proofs.Invariant.Standing as st
use Rattle.pr_report_laws.proofs.Invariant.Standing.{Position, has_read, is_named}
use Rattle.pr_report_laws.proofs.Machine.StoppedLaws.{event-first, live-rising, waits-stopped}
use Rattle.pr_report_laws.proofs.Machine.TracedPoints.{fit-lwp, fit-process}
use Rattle.pr_report_laws.proofs.Replies.TracedPlaces.{opened-before, opened-length}
use Rattle.pr_report_laws.specs.Births.{granted}
use Rattle.pr_report_laws.specs.Lineages.{IsNamed}
use Rattle.pr_report_laws.proofs.Invariant.Positions.{IsTracedBy}
use Rattle.pr_report_laws.specs.Watching.{fed_by_entry, is_away, place_of}

-- A call of truss leaves the children of forks that it is to open at their births.

-- PR_RLC leaves PR_FORK
release-follows : (c : TracedControl) → has_flags c.modes fork_mode ≡ true
    → has_flags (with_modes rlc_mode c).modes fork_mode ≡ true
unfolding with_modes has_number
release-follows c is = other-added c.modes rlc_mode 1 (omega arith) refl ∙ is

release-set-follows : (p : TracedProcess) → has_flags p.control.modes fork_mode ≡ true
    → has_flags (with_control (with_modes rlc_mode) p).control.modes fork_mode ≡ true
unfolding with_control
release-set-follows p is = release-follows p.control is

follow-set-has : (p : TracedProcess) → has_flags (with_control (with_modes fork_mode) p).control.modes fork_mode ≡ true
unfolding with_control
follow-set-has p = follow-has p.control

-- whether a step runs the process at a place
abbrev is_run : Stage → ℕ → Bool
is_run (Running at) place = at == place
is_run _ place = false

run-stage : (stage : Stage) (place : ℕ) → is_run stage place ≡ true → stage ≡ Running place
run-stage (Running at) place is = ap (λ n. Running n) (eqb-true at place is)
run-stage _ place is = absurd (false≢true is)

set-within : {ts : List Traced} {stage : Stage} (place : ℕ) → IsSet ts stage place → place < length ts
set-within place (watched within on here) = within
set-within place (opened within is) = within

reads-only : (mode : Mode) → Read ≡ mode → is_writable mode ≡ true → ⊥
reads-only mode same writes = false≢true (ap (λ m. is_writable m) same ∙ writes)

-- the opens of the other files of a process are for reading
opening-reads : (o : Options) (x : Traced) (step : OpeningStep) (pid lwp : ℕ) (f : File) (mode : Mode)
    → opening_call o x step ≡ call.Open pid lwp f mode → is_writable mode ≡ true → ⊥
unfolding opening_call
opening-reads o x opening.OpenStatus pid lwp f mode is writes = reads-only mode (cc) writes
opening-reads o x opening.OpenLstatus pid lwp f mode is writes = reads-only mode (cc) writes
opening-reads o x opening.OpenMemory pid lwp f mode is writes = reads-only mode (cc) writes
opening-reads o x _ pid lwp f mode is writes = cc

child-reads : (x : Traced) (step : ChildStep) (pid lwp : ℕ) (f : File) (mode : Mode)
    → child_call x step ≡ call.Open pid lwp f mode → is_writable mode ≡ true → ⊥
unfolding child_call
child-reads x child.OpenStatus pid lwp f mode is writes = reads-only mode (cc) writes
child-reads x child.OpenLstatus pid lwp f mode is writes = reads-only mode (cc) writes
child-reads x child.OpenMemory pid lwp f mode is writes = reads-only mode (cc) writes
child-reads x child.SetRelease pid lwp f mode is writes = cc
child-reads x child.Start pid lwp f mode is writes = cc

-- whether a stage opens this process by its id
opens-or-not : (of : ℕ) (stage : Stage) → (stage ≡ OpeningControl of) ⊎ (stage ≢ OpeningControl of)
opens-or-not of (OpeningControl other) = elim (cases_eq other of) [
  | inl same ↦ inl (ap (λ m. OpeningControl m) same)
  | inr apart ↦ inr (λ same. apart (cc))
]
opens-or-not of _ = inr (λ same. cc)

accepted-or-not : (x : answers.Answer) → (x ≡ Accepted) ⊎ (x ≢ Accepted)
accepted-or-not Accepted = inl refl
accepted-or-not _ = inr (λ same. cc)

module _ (Line : ℕ → Type 0) (n k : ℕ) (o : Options) (t : TrussState) (s : TracedState) (c : Call) (a : Answer)
    (own : IsOwn Line n k o t s c a) (leaves : IsLeaving t) (h : List Entry)
    (f : KeepsChildren Line k o t s (call_entry k c a ∷ h))
    (forks : LeavesTo Line k o t (call_entry k c a ∷ h))
    (on : (fed t a.reply).leaving ≡ false) where
  i : IsCall k o 0 t s c a
  i = own.call 0

  abbrev u : TrussState
  u = fed t a.reply

  told-is : fed_by_entry k t (call_entry k c a) ≡ u
  told-is = own-told k t c a

  comes : Comes t a.reply u
  comes =
      let w = i.owns in
      fed-comes t a.reply leaves w.fits (subst (λ (x : Options). Names x t.traced t.stage) (sym i.options) f.names) on

  -- ---- a status that is read

  module _ (place : ℕ) (within : place < length t.traced) (child : ℕ) (told : IsTold t a.reply place child) where
    on-status : (traced_at t place).attached ≡ true
    on-status = let w = uses.attached-all k t s i.files own.stays (ap busy told.stage) place within in w.attached

    status-free : IsFree t.traced t.stage place
    status-free = record {
      within = within;
      attached = on-status;
      here = ap (λ (x : Stage). is_away false x place) told.stage;
      read = ap (λ (x : Stage). has_read x place) told.stage;
      none = told.none;
    }

    status-held : handle_of s.opens k (number_of (traced_at t place).status) ≡ Some
        (held_by k (traced_at t place).pid 0 file.Status Read)
    status-held = let w = i.owns in let x = uses.status-read k t s i.files w.fits place told.stage in x.is

    status-answer : answer_to s k (read_record (traced_at t place).status) ≡ Some a
    unfolding call_of
    status-answer =
        call-is Line n k o t s c a own (ReadingStatus place) (read_record (traced_at t place).status) told.stage refl

    -- it lives
    status-lived : (p : TracedProcess) × (live_process s.system (traced_at t place).pid ≡ Some p)
    status-lived = by (live_process s.system (traced_at t place).pid) refl
      where
        by : (x : Option TracedProcess) → live_process s.system (traced_at t place).pid ≡ x
            → (p : TracedProcess) × (live_process s.system (traced_at t place).pid ≡ Some p)
        by None is =
            let e =
            reads.status-ended s k (number_of (traced_at t place).status)
            (held_by k (traced_at t place).pid 0 file.Status Read) status-held a refl is status-answer in
            absurd (let d : Accepted ≡ Gone = sym told.accepted ∙ e.gone in cc)
        by (Some p) is = (p, is)

    -- its representative stands on the event
    status-forked : Line (traced_at t place).pid → (p : TracedProcess)
        → live_process s.system (traced_at t place).pid ≡ Some p → (o.follow ≡ true) × HasForked p child
    status-forked line p live =
        let mine = own.call (traced_at t place).pid in
        let back = mine.reads in
        let sees =
        reads.status-read s k (number_of (traced_at t place).status)
        (held_by k (traced_at t place).pid 0 file.Status Read) status-held a p live refl
        (back.status p live) status-answer in
        let w = stood Line n k o t s c a own place within line on-status status-free.here p live in
        by w.0 w.1 (same_Some told.lwp (status_of s.system (traced_at t place).pid p).lwp (sym told.read ∙ sees.lwp))
      where
        is_read : is_named t.stage place ≡ true
        is_read = ap (λ (x : Stage). is_named x place) told.stage ∙ eq-eqb place place refl

        by : {tally : Tally} → IsTracedBy o p → Position o t.stage place (traced_at t place).old p tally
            → told.lwp ≡ (status_of s.system (traced_at t place).pid p).lwp → (o.follow ≡ true) × HasForked p child
        by traced (st.stop_read read waits whole) same = absurd (false≢true (sym status-free.read ∙ read))
        by traced (st.old_stops m read counts waits whole) same = absurd (clash (sym counts ∙ told.none))
          where
            clash : suc m ≡ 0 → ⊥
            clash e = omega arith
        by traced (st.goes read not_named none quiet whole) same = absurd (false≢true (sym not_named ∙ is_read))
        by traced (st.has_event id event read none one waits whole) same =
            let lawful = i.lawful in
            let rises = live-rising s.system (traced_at t place).pid p lawful.system live in
            let first =
            event-first p rises traced.no_agent id event one
            (waits-stopped p rises traced.no_agent 0 (waits is_read)) in
            let is : told.lwp ≡ lwpstatus_of p id one.lwp =
            same ∙ reads.representative-told s.system (traced_at t place).pid p (id, one.lwp) first in
            followed-forked o p id one.lwp
            (fit-lwp p id one.lwp
            (fit-process s.system (traced_at t place).pid p i.fit live) one.there) one.there child
            (ap (λ (x : Options). followed_child x (lwpstatus_of p id one.lwp)) (sym i.options)
            ∙ ap (followed_child t.options) (sym is) ∙ told.child)

    told-claims : Line (traced_at t place).pid → Claims o t.traced t.stage s.system (traced_at t place).pid child
    told-claims line =
        let p = status-lived in
        let w = status-forked line p.0 p.1 in
        stands place status-free refl w.0 p.0 p.1 w.1

  -- ---- what is to be opened was to be opened before

  free-rests : (place : ℕ) → IsFree t.traced t.stage place → t.stage ≡ Running place → ⊥
  free-rests place free is =
      false≢true (sym free.read ∙ ap (λ (x : Stage). has_read x place) is ∙ eq-eqb place place refl)

  free-before : (place pid child : ℕ) → IsFree t.traced t.stage place → (traced_at t place).pid ≡ pid → o.follow ≡ true
      → (q : TracedProcess) → live_process a.state.system pid ≡ Some q → HasForked q child
      → Claims o t.traced t.stage s.system pid child
  free-before place pid child free same follow q now forked =
      let left =
      missed Line n k o t s c a own place free.within
      (misses Line n k o t s c a own place free.within free.here (free-rests place free)) q
      (ap (live_process a.state.system) same ∙ now) in
      stands place free same follow left.0 (ap (live_process s.system) (sym same)
      ∙ left.1.0) (alone-forked left.0 q child left.1.1 forked)

  pub claims-before : (pid child : ℕ) → Line pid → Claims o u.traced u.stage a.state.system pid child
      → Claims o t.traced t.stage s.system pid child
  claims-before pid child line (claims.reads place within same is) =
      by (comes.claims place child within (ap (λ (x : Options). claim_of x u.stage place) i.options ∙ is))
    where
      by : WasClaimed t a.reply (at_place u.traced place).pid child → Claims o t.traced t.stage s.system pid child
      by (was_claimed before there its claim) =
          claims.reads before there (its ∙ same) (ap (λ (x : Options). claim_of x t.stage before) (sym i.options)
          ∙ claim)
      by (was_told before there its told) =
          subst (λ m. Claims o t.traced t.stage s.system m child) (its ∙ same)
          (told-claims before there child told (subst Line (sym (its ∙ same)) line))
  claims-before pid child line (stands place free same follow q now forked) = by (comes.free place free)
    where
      by : WasFree t a.reply (at_place u.traced place).pid → Claims o t.traced t.stage s.system pid child
      by (was_free before its own_free) = free-before before pid child its (own_free ∙ same) follow q now forked
      by (was_run before there its was none done) =
          absurd (quiet-forked q child
          (ran-quiet Line n k o t s c a own before there (subst Line (sym (was ∙ same)) line) its none done q
          (ap (live_process a.state.system) (was ∙ same)
          ∙ now)) forked)

  -- the child whose control file is opened
  parent-within : (parent pid : ℕ) → t.stage ≡ OpeningChildControl parent pid → parent < length t.traced
  parent-within parent pid at = let w = i.owns in subst (Fits t.traced) at w.fits

  claim-is : (parent pid : ℕ) → t.stage ≡ OpeningChildControl parent pid → claim_of o t.stage parent ≡ Some pid
  claim-is parent pid at =
      ap (λ (x : Stage). claim_of o x parent) at ∙ ap (λ b. cond b (Some pid) None) (eq-eqb parent parent refl)

  parent-claims : (parent pid : ℕ) → t.stage ≡ OpeningChildControl parent pid
      → Claims o t.traced t.stage s.system (traced_at t parent).pid pid
  parent-claims parent pid at = claims.reads parent (parent-within parent pid at) refl (claim-is parent pid at)

  -- the entry in which it is opened
  child-entry : (parent pid handle : ℕ) → t.stage ≡ OpeningChildControl parent pid → a.reply ≡ reply.Handle handle
      → call_entry k c a ≡ granted k pid 0 file.Ctl WriteExcl handle
  unfolding call_of
  child-entry parent pid handle at given =
      ap (λ x. record { actor = Controller k; act = act.Call x a.reply })
      (call-same Line n k o t s c a own (OpeningChildControl parent pid)
      (call.Open pid 0 file.Ctl WriteExcl) at refl)
      ∙ ap (λ x. record {
        actor = Controller k;
        act = act.Call
            (call.Open pid 0 file.Ctl WriteExcl) x;
      }) given

  -- the process that made it, where the child is of the line
  parent-line : (parent pid handle : ℕ) → t.stage ≡ OpeningChildControl parent pid → a.reply ≡ reply.Handle handle
      → Line pid → Line (traced_at t parent).pid
  parent-line parent pid handle at given line =
      parent-now Line k o t (call_entry k c a) h forks pid parent handle (child-entry parent pid handle at given) at
      line

  -- ---- PR_FORK

  module _ (follow : o.follow ≡ true) where
    module _ (place : ℕ) (within : place < length t.traced) (line : Line (traced_at t place).pid) (q : TracedProcess)
        (now : live_process a.state.system (traced_at t place).pid ≡ Some q) where
      before : (p : TracedProcess) × (live_process s.system (traced_at t place).pid ≡ Some p)
      before = lived Line n k o t s c a own place within q now

      -- an open reaches no process
      open-misses : (d : Call) → c ≡ d → ((m : ℕ) → names d m ≡ false) → Misses k (traced_at t place).pid s c
      open-misses d same plain =
          record { each = λ m g is held. absurd (false≢true (sym (plain m) ∙ ap (λ x. names x m) (sym same) ∙ is)) }

      missed-flag : IsSet t.traced t.stage place → Misses k (traced_at t place).pid s c
          → has_flags q.control.modes fork_mode ≡ true
      missed-flag x m =
          let left = missed Line n k o t s c a own place within m q now in
          ap (λ (x : TracedControl). has_flags x.modes fork_mode) (alone-control left.0 q left.1.1)
          ∙ f.flags follow place x line left.0 left.1.0

      same-flag : IsSet t.traced t.stage place → q.control ≡ before.0.control
          → has_flags q.control.modes fork_mode ≡ true
      same-flag x same =
          ap (λ (x : TracedControl). has_flags x.modes fork_mode) same ∙ f.flags follow place x line before.0 before.1

      -- a process that is watched
      watched-flag : IsSet t.traced t.stage place → is_away false t.stage place ≡ false
          → has_flags q.control.modes fork_mode ≡ true
      watched-flag x here = elim (cases_Bool (is_run t.stage place)) [
        | inl runs ↦
            let r =
            running-ran Line n k o t s c a own place within (run-stage t.stage place runs) line before.0 before.1 in
            same-flag x (ap (λ (y : TracedProcess). y.control) (sym (same_Some r.process q (sym r.live ∙ now)))
            ∙ r.control)
        | inr rests ↦ missed-flag x (misses Line n k o t s c a own place within here (λ at. false≢true (sym rests
            ∙ ap (λ (y : Stage). is_run y place) at ∙ eq-eqb place place refl)))
      ]

      -- a child that is opened
      module _ (parent : ℕ) where
        child-flag : IsSet t.traced t.stage place → IsDone t a.reply place → (step : ChildStep)
            → t.stage ≡ OpeningChild parent place step → has_flags q.control.modes fork_mode ≡ true
        unfolding call_of child_call
        child-flag x done child.SetRelease at =
            let held = control-held Line n k o t s c a own place within in
            let is =
            call-is Line n k o t s c a own (OpeningChild parent place child.SetRelease)
            (message_call (traced_at t place).control (message.Set rlc_mode)) at refl in
            let later =
            release-set s k (traced_at t place).control
            (held_by k (traced_at t place).pid 0 file.Ctl WriteExcl) held refl before.0 before.1 a is
            (done.release parent at) in
            ap (λ (y : TracedProcess). has_flags y.control.modes fork_mode) (sym (same_Some _ q (sym later ∙ now)))
            ∙ release-set-follows before.0 (f.flags follow place x line before.0 before.1)
        child-flag x done child.Start at =
            let r = start-ran Line n k o t s c a own parent place within at line before.0 before.1 in
            same-flag x (ap (λ (y : TracedProcess). y.control) (sym (same_Some r.process q (sym r.live ∙ now)))
            ∙ r.control)
        child-flag x done child.OpenStatus at =
            missed-flag x
            (open-misses (child_call (traced_at t place) child.OpenStatus)
            (call-same Line n k o t s c a own (OpeningChild parent place child.OpenStatus)
            (child_call (traced_at t place) child.OpenStatus) at refl) (λ m. refl))
        child-flag x done child.OpenLstatus at =
            missed-flag x
            (open-misses (child_call (traced_at t place) child.OpenLstatus)
            (call-same Line n k o t s c a own (OpeningChild parent place child.OpenLstatus)
            (child_call (traced_at t place) child.OpenLstatus) at refl) (λ m. refl))
        child-flag x done child.OpenMemory at =
            missed-flag x
            (open-misses (child_call (traced_at t place) child.OpenMemory)
            (call-same Line n k o t s c a own (OpeningChild parent place child.OpenMemory)
            (child_call (traced_at t place) child.OpenMemory) at refl) (λ m. refl))

      -- PR_FORK was set before the last step of an opening
      opened-flag : IsSet t.traced t.stage place → IsDone t a.reply place → sets t.stage place ≡ true
          → has_flags q.control.modes fork_mode ≡ true
      opened-flag x done its = by t.stage refl its
        where
          at : (m : ℕ) (next : ℕ → Stage) → (m == place) ≡ true → t.stage ≡ next m → t.stage ≡ next place
          at m next same is = is ∙ ap next (eqb-true m place same)

          by : (stage : Stage) → t.stage ≡ stage → sets stage place ≡ true → has_flags q.control.modes fork_mode ≡ true
          by (Opening m opening.Start) is same =
              let here = at m (λ y. Opening y opening.Start) same is in
              same-flag x
              (opened-set Line n k o t s c a own place within here (done.start here) before.0 q before.1 now)
          by (OpeningChild parent m step) is same =
              child-flag parent x done step (at m (λ y. OpeningChild parent y step) same is)
          by _ is same = absurd (false≢true same)

      set-flag : IsSet t.traced t.stage place → IsDone t a.reply place → has_flags q.control.modes fork_mode ≡ true
      set-flag (watched there attached here) done = watched-flag (watched there attached here) here
      set-flag (opened there its) done = opened-flag (opened there its) done its

      -- it is set now
      now-flag : t.stage ≡ Opening place opening.Follow → answer_of a.reply ≡ Accepted
          → has_flags q.control.modes fork_mode ≡ true
      unfolding call_of opening_call
      now-flag at accepted =
          let held = control-held Line n k o t s c a own place within in
          let is =
          call-is Line n k o t s c a own (Opening place opening.Follow)
          (message_call (traced_at t place).control (message.Set fork_mode)) at refl in
          let later =
          follow-set s k (traced_at t place).control
          (held_by k (traced_at t place).pid 0 file.Ctl WriteExcl) held refl before.0 before.1 a is accepted in
          ap (λ (y : TracedProcess). has_flags y.control.modes fork_mode) (sym (same_Some _ q (sym later ∙ now)))
          ∙ follow-set-has before.0

    -- a child that is opened now
    born-flag : (parent pid : ℕ) → Line pid → t.stage ≡ OpeningChildControl parent pid → answer_of a.reply ≡ Accepted
        → (q : TracedProcess) → live_process a.state.system pid ≡ Some q → has_flags q.control.modes fork_mode ≡ true
    unfolding call_of
    born-flag parent pid line at accepted q now =
        let given =
        granted-handle s k pid 0 file.Ctl WriteExcl a
        (call-is Line n k o t s c a own (OpeningChildControl parent pid)
        (call.Open pid 0 file.Ctl WriteExcl) at refl) accepted in
        let entry = child-entry parent pid given.0 at given.1 in
        let above = parent-line parent pid given.0 at given.1 line in
        let new = f.born (traced_at t parent).pid pid above line (parent-claims parent pid at) in
        let untouched = untouched-now k o t s h pid parent given.0 (call_entry k c a) entry at new in
        let later : live_process (after s (call_entry k c a)).system pid ≡ Some q =
        ap (λ (x : TracedState). live_process x.system pid) own.later ∙ now in
        let is = new-on n k o t s h pid (call_entry k c a) i.lawful own.legal new.made untouched q later in
        is.follows

    flags-later : (place : ℕ) → IsSet u.traced u.stage place → Line (at_place u.traced place).pid → (q : TracedProcess)
        → live_process a.state.system (at_place u.traced place).pid ≡ Some q
        → has_flags q.control.modes fork_mode ≡ true
    flags-later place x line q now = by (comes.set place x)
      where
        by : WasSet t a.reply (at_place u.traced place).pid → has_flags q.control.modes fork_mode ≡ true
        by (was_set before y same done) =
            set-flag before (set-within before y) (subst Line (sym same) line) q
            (ap (live_process a.state.system) same ∙ now) y done
        by (set_now before there same at accepted) =
            now-flag before there (subst Line (sym same) line) q
            (ap (live_process a.state.system) same ∙ now) at accepted
        by (not_followed off) = absurd (false≢true (sym off ∙ ap (λ (y : Options). y.follow) i.options ∙ follow))
        by (is_child parent at accepted) = born-flag parent (at_place u.traced place).pid line at accepted q now

  -- ---- the children

  -- once its control file was opened, the process that made it is not asked for it any more
  module _ (parent of handle : ℕ) (at : t.stage ≡ OpeningChildControl parent of)
      (given : a.reply ≡ reply.Handle handle) where
    u-is : u ≡ with_child_control t parent of handle
    unfolding fed with_reply with_child_control_answered answer_of opened_in
    u-is =
        ap (with_reply t a.reply) at ∙ ap (λ (r : Reply). with_child_control_answered t parent of r (answer_of r)) given

    u-stage : u.stage ≡ OpeningChild parent (length t.traced) child.SetRelease
    unfolding with_child_control
    u-stage = ap (λ (x : TrussState). x.stage) u-is

    parent-later : (parent < length u.traced) × ((at_place u.traced parent).pid ≡ (traced_at t parent).pid)
    unfolding with_child_control
    parent-later =
        let new = newly_traced of handle in
        let inside = parent-within parent of at in (
          subst (λ (x : TrussState). parent < length x.traced) (sym u-is) (omega (arith, opened-length t new, inside)),
          ap (λ (x : TrussState). (at_place x.traced parent).pid) u-is
              ∙ ap (λ (x : Traced). x.pid) (opened-before t new parent inside),
        )

    opened-apart : (pid : ℕ) → Claims o u.traced u.stage a.state.system pid of → pid ≢ (traced_at t parent).pid
    opened-apart pid (claims.reads place within same is) mine =
        none-some of (ap (λ (x : Stage). claim_of o x place) (sym u-stage) ∙ is)
    opened-apart pid (stands place free same follow q now forked) mine =
        let files = i.files_later in
        let p = parent-later in
        let here : place ≡ parent =
        same_Some place parent (sym (files.one place free.within) ∙ ap (place_of u) (same ∙ mine ∙ sym p.1)
        ∙ files.one parent p.0) in
        false≢true (sym free.read ∙ ap (λ (x : Stage). has_read x place) u-stage ∙ eq-eqb parent place (sym here))

  no-place : {X : Type 0} (pid child : ℕ) → t.traced ≡ [] → Claims o t.traced t.stage s.system pid child → X
  no-place pid child none (claims.reads place within same is) =
      absurd (omega (arith, ap (λ (ts : List Traced). length ts) none))
  no-place pid child none (stands place free same follow p live forked) =
      absurd (omega (arith, free.within, ap (λ (ts : List Traced). length ts) none))

  -- truss opens no process for writing that it is still to open, but for one that its options name
  module _ (pid of : ℕ) (line : Line pid) (its : Line of)
      (claim : Claims o u.traced u.stage a.state.system pid of) where
    its_claim : Claims o t.traced t.stage s.system pid of
    its_claim = claims-before pid of line claim

    named-it : ((place : ℕ) × (slice_get o.pids place ≡ Some of)) ⊎ (t.traced ≡ []) → IsNamed o of
    named-it (inl named) = record { place = named.0; is = named.1 }
    named-it (inr none) = no-place pid of none its_claim

    module _ (lwp handle : ℕ) (opened_file : File) (mode : Mode) (writes : is_writable mode ≡ true)
        (given : a.reply ≡ reply.Handle handle) where
      open-in : (stage : Stage) → t.stage ≡ stage → stage ≢ OpeningControl of → Leaves t.leaving stage
          → call_of t stage ≡ Some (call.Open of lwp opened_file mode) → ⊥
      unfolding call_of freeing_call
      open-in (OpeningControl other) at apart goes is =
          let same : other ≡ of = cc in apart (ap (λ m. OpeningControl m) same)
      open-in (OpeningChildControl parent other) at apart goes is =
          let same : other ≡ of = cc in
          let here : t.stage ≡ OpeningChildControl parent of = at ∙ ap (OpeningChildControl parent) same in
          opened-apart parent of handle here given pid claim
          (f.one pid (traced_at t parent).pid of line (parent-line parent of handle here given its) its its_claim
          (parent-claims parent of here))
      open-in (Opening place step) at apart goes is =
          opening-reads t.options (traced_at t place) step of lwp opened_file mode (same_Some _ _ is) writes
      open-in (OpeningChild parent place step) at apart goes is =
          child-reads (traced_at t place) step of lwp opened_file mode (same_Some _ _ is) writes
      open-in (FreeingChild other step) at apart goes is = false≢true (sym own.stays ∙ goes)
      open-in _ at apart goes is = cc

    opened-never : (t.stage ≢ OpeningControl of) → (lwp handle : ℕ) (opened_file : File) (mode : Mode)
        → call_entry k c a ≡ granted k of lwp opened_file mode handle → is_writable mode ≡ true → ⊥
    unfolding next_call_of
    opened-never apart lwp handle opened_file mode is writes =
        let acts : act.Call c a.reply ≡ act.Call (call.Open of lwp opened_file mode) (reply.Handle handle) =
        ap (λ (x : Entry). x.act) is in
        let same : c ≡ call.Open of lwp opened_file mode = cc in
        let given : a.reply ≡ reply.Handle handle = cc in
        let w = i.files in
        let st = w.stands in
        open-in lwp handle opened_file mode writes given t.stage refl apart st.leaves
        (i.next ∙ ap (λ x. Some x) same)

    -- ---- a child that stands at its birth

    module _ (made : of < s.system.made) (new : IsUntouched k o t s (call_entry k c a ∷ h) of) where
      -- a call that opens it for nobody
      untouched-stands :
          ((lwp handle : ℕ) (opened_file : File)
          (mode : Mode) → call_entry k c a ≡ granted k of lwp opened_file mode handle → is_writable mode ≡ true → ⊥)
          → Stands k o u a.state h of
      untouched-stands never =
          subst (λ (x : TrussState). Stands k o x a.state h of) told-is
          (subst (λ (x : TracedState). Stands k o (fed_by_entry k t (call_entry k c a)) x h of) own.later
          (untouched-on n k o t s h of (call_entry k c a) i.lawful own.legal made new never))

      -- the open of it by its id
      module _ (at : t.stage ≡ OpeningControl of) where
        control-answer : answer_to s k (open_control of) ≡ Some a
        unfolding call_of
        control-answer = call-is Line n k o t s c a own (OpeningControl of) (open_control of) at refl

        -- an open that was refused opens nothing
        refused-never : (answer_of a.reply ≢ Accepted) → (lwp handle : ℕ) (opened_file : File) (mode : Mode)
            → call_entry k c a ≡ granted k of lwp opened_file mode handle → is_writable mode ≡ true → ⊥
        unfolding answer_of
        refused-never refused lwp handle opened_file mode is writes =
            let acts : act.Call c a.reply ≡ act.Call (call.Open of lwp opened_file mode) (reply.Handle handle) =
            ap (λ (x : Entry). x.act) is in
            let given : a.reply ≡ reply.Handle handle = cc in
            refused (ap answer_of given)

        control-stands : Stands k o u a.state h of
        control-stands = elim (accepted-or-not (answer_of a.reply)) [
          | inl accepted ↦ control-begins k o t s c a h of at control-answer
              (named-it (subst (Names o t.traced) at f.names)) new accepted
          | inr refused ↦ untouched-stands (refused-never refused)
        ]

      new-stands : Stands k o u a.state h of
      new-stands = elim (opens-or-not of t.stage) [
        | inl at ↦ control-stands at
        | inr apart ↦ untouched-stands (opened-never apart)
      ]

    stands-later : of < s.system.made → Stands k o t s (call_entry k c a ∷ h) of → Stands k o u a.state h of
    stands-later made (stands_new new) = new-stands made new
    stands-later made (is_begun b) = begun-stands Line n k o t s c a own h on of b
    stands-later made (is_never never) =
        is_never
        (subst (λ (x : TrussState). IsNeverGranted k of x h) told-is (never-later k of t (call_entry k c a) h never))

    born-later : IsNewBorn k o u a.state h of
    born-later =
        let new = f.born pid of line its its_claim in
        record {
          made =
              subst (λ (x : TracedState). of < x.system.made) own.later
              (stays-made n s (call_entry k c a) of i.lawful own.legal new.made);
          now = stands-later new.made new.now;
        }

  -- ---- all

  pub call-follows : KeepsChildren Line k o u a.state h
  call-follows = record {
    flags = flags-later;
    born = λ pid of line its claim. born-later pid of line its claim;
    one = λ pid other of line both its x y.
        f.one pid other of line both its (claims-before pid of line x) (claims-before other of both y);
    names = subst (λ (x : Options). Names x u.traced u.stage) i.options comes.names;
  }
