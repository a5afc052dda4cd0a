use Rattle.std.proofs.Common.{◌≡◌, ◌<◌, ℕ, Bool, false, cond, None, Some, Option, List, [], ◌∷◌, length, refl, sym, subst, ap, ◌∙◌, arith, inl, inr}
use Rattle.std.proofs.lemmas.Bool.{eq-eqb, false≢true}
use Rattle.std.proofs.lemmas.Option.{none-some, same_Some}
use Rattle.std.specs.List.{slice_set}
use Rattle.pr_lawful.proofs.ProcessParts.HandleLemmas.{handle-at}
use Rattle.pr_line.specs.declared.options.Options.{Options}
use Rattle.pr_model.specs.Calls.{Answer, answer_to}
use Rattle.pr_model.specs.Handles.{has_writer}
use Rattle.pr_model.specs.Replies.{handle_in}
use Rattle.pr_model.specs.State.{TracedProcess, TracedState, live_process}
use Rattle.pr_model.specs.declared.calls.Call.{Call}
use Rattle.pr_model.specs.declared.calls.Call.TheVariants as call
use Rattle.pr_model.specs.declared.calls.File.{File}
use Rattle.pr_model.specs.declared.calls.File.TheVariants as file
use Rattle.pr_model.specs.declared.calls.Mode.TheVariants.{Read, WriteExcl}
use Rattle.pr_model.specs.declared.events.Act.TheVariants as act
use Rattle.pr_model.specs.declared.events.Actor.TheVariants.{Controller}
use Rattle.pr_model.specs.declared.events.Entry.{Entry}
use Rattle.pr_model.specs.declared.handles.Held.{Held}
use Rattle.pr_num.specs.declared.errnos.Errno.{Errno}
use Rattle.pr_num.specs.declared.errnos.Errno.TheVariants.{Noent}
use Rattle.pr_truss.specs.Closings.{closed_or_removed, with_closed}
use Rattle.pr_truss.specs.Feeding.{fed, with_reply}
use Rattle.pr_truss.specs.declared.marks.Marks.{Marks}
use Rattle.pr_truss.specs.NextCalls.{call_of, open_control, open_file, opening_call}
use Rattle.pr_truss.specs.Openings.{learnt, step_after, with_control, with_control_answered, with_refused_step, with_step_answered, with_step_done, with_stop_seen}
use Rattle.pr_truss.specs.Processes.{last_handle, newly_traced, without_last}
use Rattle.pr_truss.specs.Replies.{answer_of}
use Rattle.pr_truss.specs.Trusses.{TrussState, traced_at, with_stage, with_traced}
use Rattle.pr_truss.specs.declared.processes.Traced.{Traced}
use Rattle.pr_truss.specs.declared.replies.Answer as answers
use Rattle.pr_truss.specs.declared.replies.Answer.TheVariants.{Accepted, Gone, Interrupted, Refused}
use Rattle.pr_truss.specs.declared.stages.AfterClosing.TheVariants.{OpenNext}
use Rattle.pr_truss.specs.declared.stages.OpeningStep.{OpeningStep}
use Rattle.pr_truss.specs.declared.stages.OpeningStep.TheVariants as opening
use Rattle.pr_truss.specs.declared.stages.Stage.{Stage}
use Rattle.pr_truss.specs.declared.stages.Stage.TheVariants.{Closing, Opening, OpeningControl}
use Rattle.pr_truss_laws.proofs.Replies.FedSteps.{interrupt-on}
use Rattle.pr_truss_laws.proofs.Files.HeldLemmas.{set-at}
use Rattle.pr_truss_laws.proofs.Files.OpensLemmas.{ClosesOne, close-closes, held_by}
use Rattle.pr_truss_laws.proofs.Files.ReleaseLemmas.{none-left}
use Rattle.pr_truss_laws.proofs.Replies.ReplySteps.{lost-same, on-staged}
use Rattle.pr_truss_laws.specs.Exchanges.{Exchange}
use Rattle.pr_report_laws.proofs.Files.FileUses as uses
use Rattle.pr_report_laws.proofs.Files.FileUses.{IsSomeFile}
use Rattle.pr_report_laws.proofs.Machine.NewBorn.{IsBegun, IsLeftTo, IsNeverGranted, IsNew, IsUntouched, Stands, begun_at, closed-plain, is_begun, is_never, left-later, stands_new}
use Rattle.pr_report_laws.proofs.Replies.OpeningParts.{learnt-pid}
use Rattle.pr_report_laws.proofs.Replies.OwnLooks.{IsCall}
use Rattle.pr_report_laws.proofs.Replies.OwnOpens.{granted-handle, open-stays}
use Rattle.pr_report_laws.proofs.Replies.TracedPlaces.{opened-last, opened-length, set-length}
use Rattle.pr_report_laws.proofs.UnopenedChildren.ClaimRuns.{IsOwn, call-is, call-same, call_entry}
use Rattle.pr_report_laws.proofs.UnopenedChildren.LeftChildren.{opens-on}
use Rattle.pr_report_laws.specs.Births.{granted}
use Rattle.pr_report_laws.specs.Lineages.{IsNamed}
use Rattle.pr_report_laws.specs.Watching.{fed_by_entry, with_exchange}

-- A child that truss opens by its id too, before it has come behind the opens of its files: a call of truss leaves it
-- at its birth.

-- what the entry of a call tells truss
pub own-told : (k : ℕ) (t : TrussState) (c : Call) (a : Answer) → fed_by_entry k t (call_entry k c a) ≡ fed t a.reply
own-told k t c a =
    ap (λ (b : Bool). with_exchange t
    (cond {A = Option Exchange} b (Some (record { call = c; reply = a.reply })) None)) (eq-eqb k k refl)

-- the file that is closed last is the control file
last-fields : (pid control : ℕ) (status lstatus memory : Option ℕ) (attached : Bool) (old : ℕ) (seen : Bool)
    (marks : Marks)
    → let x : Traced = record {
      pid = pid;
      control = control;
      status = status;
      lstatus = lstatus;
      memory = memory;
      attached = attached;
      old = old;
      seen = seen;
      marks = marks;
    } in without_last x ≡ None → last_handle x ≡ control
unfolding last_handle without_last
last-fields pid control status lstatus (Some m) attached old seen marks is = absurd (none-some _ (sym is))
last-fields pid control status (Some l) None attached old seen marks is = absurd (none-some _ (sym is))
last-fields pid control (Some s) None None attached old seen marks is = absurd (none-some _ (sym is))
last-fields pid control None None None attached old seen marks is = refl

last-control : (x : Traced) → without_last x ≡ None → last_handle x ≡ x.control
last-control x is = last-fields x.pid x.control x.status x.lstatus x.memory x.attached x.old x.seen x.marks is

-- ---- it begins

module _ (k : ℕ) (o : Options) (t : TrussState) (s : TracedState) (c : Call) (a : Answer) (h : List Entry) (of : ℕ)
    (at : t.stage ≡ OpeningControl of) (answer : answer_to s k (open_control of) ≡ Some a) (named : IsNamed o of)
    (new : IsUntouched k o t s (call_entry k c a ∷ h) of) where
  pub control-begins : answer_of a.reply ≡ Accepted → Stands k o (fed t a.reply) a.state h of
  unfolding fed with_reply with_control_answered with_control newly_traced
  control-begins accepted =
      let u : TrussState = fed t a.reply in
      let x : Traced = newly_traced of (handle_in a.reply) in
      let is : u ≡ with_control t of (handle_in a.reply) =
      ap (with_reply t a.reply) at ∙ ap (with_control_answered t of a.reply) accepted in
      let stays = open-stays s k of 0 file.Ctl WriteExcl a answer in
      is_begun (record {
        place = length t.traced;
        within =
            subst (λ (y : TrussState). length t.traced < length y.traced) (sym is)
            (omega (arith, opened-length t x));
        at = ap (λ (y : TrussState). begun_at y.stage) is;
        of =
            ap (λ (y : TrussState). (traced_at y (length t.traced)).pid) is
            ∙ ap (λ (y : Traced). y.pid) (opened-last t x);
        named = named;
        born = λ p live. new.born p (ap (λ y. live_process y of) (sym stays) ∙ live);
        left =
            subst (λ (y : TrussState). IsLeftTo k o of y h) (own-told k t c a)
            (left-later k o of t (call_entry k c a) h new.left);
      })

-- ---- it goes on

module _ (Line : ℕ → Type 0) (n k : ℕ) (o : Options) (t : TrussState) (s : TracedState) (c : Call) (a : Answer)
    (own : IsOwn Line n k o t s c a) (h : List Entry) (on : (fed t a.reply).leaving ≡ false) (of : ℕ)
    (b : IsBegun k o t s (call_entry k c a ∷ h) of) where
  abbrev u : TrussState
  u = fed t a.reply

  abbrev its : Traced
  its = traced_at t b.place

  left-now : IsLeftTo k o of u h
  left-now =
      subst (λ (x : TrussState). IsLeftTo k o of x h) (own-told k t c a)
      (left-later k o of t (call_entry k c a) h b.left)

  -- what a call leaves that leaves the machine as it is
  born-now : a.state.system ≡ s.system → (p : TracedProcess) → live_process a.state.system of ≡ Some p → IsNew o p
  born-now same p live = b.born p (ap (λ x. live_process x of) (sym same) ∙ live)

  goes-on : a.state.system ≡ s.system → (v : TrussState) → u ≡ v → begun_at v.stage ≡ Some b.place
      → b.place < length v.traced → (traced_at v b.place).pid ≡ of → Stands k o u a.state h of
  goes-on same v is at within own_pid = is_begun (record {
    place = b.place;
    within = subst (λ (x : TrussState). b.place < length x.traced) (sym is) within;
    at = ap (λ (x : TrussState). begun_at x.stage) is ∙ at;
    of = ap (λ (x : TrussState). (traced_at x b.place).pid) is ∙ own_pid;
    named = b.named;
    born = born-now same;
    left = left-now;
  })

  -- ---- the open of a file

  module _ (step : OpeningStep) (at : t.stage ≡ Opening b.place step) (f : File)
      (opens : opening_call t.options its step ≡ open_file its.pid f) where
    answer : answer_to s k (open_file its.pid f) ≡ Some a
    unfolding call_of
    answer =
        subst (λ (d : Call). answer_to s k d ≡ Some a) opens
        (call-is Line n k o t s c a own (Opening b.place step) (opening_call t.options its step) at refl)

    stays : a.state.system ≡ s.system
    stays = open-stays s k its.pid 0 f Read a answer

    step-is : (x : answers.Answer) → answer_of a.reply ≡ x → u ≡ with_step_answered t b.place step a.reply x
    unfolding fed with_reply
    step-is x is = ap (with_reply t a.reply) at ∙ ap (with_step_answered t b.place step a.reply) is

    refused : (errno : Errno) → u ≡ with_refused_step t b.place errno → Stands k o u a.state h of
    unfolding with_refused_step
    refused errno is = goes-on stays (with_refused_step t b.place errno) is refl b.within b.of

    done : (next : OpeningStep) → begun_at (Opening b.place next) ≡ Some b.place
        → u ≡ with_stage (with_traced t b.place (learnt its a.reply step)) (Opening b.place next)
        → Stands k o u a.state h of
    done next early is =
        let x : Traced = learnt its a.reply step in
        goes-on stays (with_stage (with_traced t b.place x) (Opening b.place next)) is early
        (subst (λ m. b.place < m) (sym (set-length t b.place x)) b.within)
        (ap (λ (y : Traced). y.pid) (set-at t.traced b.place x b.within) ∙ learnt-pid its a.reply step ∙ b.of)

    answered : (answer_of a.reply ≡ Accepted → Stands k o u a.state h of) → Stands k o u a.state h of
    unfolding with_step_answered
    answered accepted = by (answer_of a.reply) refl
      where
        by : (x : answers.Answer) → answer_of a.reply ≡ x → Stands k o u a.state h of
        by Accepted is = accepted is
        by Interrupted is =
            let w = on-staged (interrupt-on (with_stop_seen t b.place)) in
            absurd (false≢true (sym on ∙ ap (λ (x : TrussState). x.leaving) (step-is Interrupted is) ∙ w.leaving))
        by Gone is = refused Noent (step-is Gone is)
        by (Refused errno) is = refused errno (step-is (Refused errno) is)

  status-opens : t.stage ≡ Opening b.place opening.OpenStatus → Stands k o u a.state h of
  unfolding opening_call with_step_answered with_step_done step_after
  status-opens at =
      answered opening.OpenStatus at file.Status refl
      (λ accepted. done opening.OpenStatus at file.Status refl opening.OpenLstatus refl
      (step-is opening.OpenStatus at file.Status refl Accepted accepted))

  lstatus-opens : t.stage ≡ Opening b.place opening.OpenLstatus → Stands k o u a.state h of
  unfolding opening_call with_step_answered with_step_done step_after
  lstatus-opens at =
      answered opening.OpenLstatus at file.Lstatus refl
      (λ accepted. done opening.OpenLstatus at file.Lstatus refl opening.OpenMemory refl
      (step-is opening.OpenLstatus at file.Lstatus refl Accepted accepted))

  -- behind the last file truss never opens it as a child
  module _ (at : t.stage ≡ Opening b.place opening.OpenMemory) (accepted : answer_of a.reply ≡ Accepted) where
    memory-entry : (handle : ℕ) × (call_entry k c a ≡ granted k of 0 file.Mem Read handle)
    unfolding call_of opening_call
    memory-entry =
        let given =
        granted-handle s k its.pid 0 file.Mem Read a (answer opening.OpenMemory at file.Mem refl) accepted in
        let same : c ≡ open_file its.pid file.Mem =
        call-same Line n k o t s c a own (Opening b.place opening.OpenMemory)
        (open_file its.pid file.Mem) at refl in (
          given.0,
          ap (λ x. record { actor = Controller k; act = act.Call x a.reply }) same
              ∙ ap (λ x. record { actor = Controller k; act = act.Call (open_file its.pid file.Mem) x }) given.1
              ∙ ap (λ m. granted k m 0 file.Mem Read given.0) b.of,
        )

    never-now : IsNeverGranted k of u h
    never-now =
        let e = memory-entry in
        subst (λ (x : TrussState). IsNeverGranted k of x h) (own-told k t c a) (record {
          none = λ w. b.left.each (opens-on k of t (call_entry k c a) h w) (record {
            before = [];
            by = k;
            lwp = 0;
            file = file.Mem;
            mode = Read;
            handle = e.0;
            later = w.front;
            is = ap (λ x. x ∷ w.front) e.1;
            who = inr (refl, (refl, b.named));
          });
        })

  memory-opens : t.stage ≡ Opening b.place opening.OpenMemory → Stands k o u a.state h of
  unfolding opening_call
  memory-opens at =
      answered opening.OpenMemory at file.Mem refl (λ accepted. is_never (never-now at accepted))

  -- ---- the close of a file

  module _ (at : t.stage ≡ Closing b.place OpenNext) where
    closes : answer_to s k (call.Close (last_handle its)) ≡ Some a
    unfolding call_of
    closes = call-is Line n k o t s c a own (Closing b.place OpenNext) (call.Close (last_handle its)) at refl

    i : IsCall k o of t s c a
    i = own.call of

    closed-file : IsSomeFile k s its.pid (last_handle its)
    closed-file = uses.closed-file k t s i.files b.place b.within

    closed : (g : Held) × (ClosesOne s k (last_handle its) g a × (g.pid ≡ of))
    closed =
        let f = closed-file in
        let its_file = f.is in
        elim (close-closes s k (last_handle its) a closes) [
          | inl nothing ↦ absurd (none-some _ (sym nothing.none ∙ its_file.is))
          | inr one ↦ (
            one.0,
            (
              one.1,
              (let d = one.1 in ap (λ (x : Held). x.pid) (same_Some one.0 _ (sym d.held ∙ its_file.is))) ∙ b.of,
            ),
          )
        ]

    closed-stays : a.state.system ≡ s.system
    closed-stays =
        let w = closed in
        let one = w.1.0 in
        ap (λ (x : TracedState). x.system) one.state
        ∙ closed-plain s w.0 (last_handle its)
        (λ p live. let new = b.born p (ap (live_process s.system) (sym w.1.1) ∙ live) in
        let birth = new.birth in let traced = birth.traced in (traced.spares, new.kept))

    closed-is : u ≡ with_closed t b.place OpenNext
    unfolding fed with_reply
    closed-is = ap (with_reply t a.reply) at

    none-writes : without_last its ≡ None → has_writer of a.state.opens ≡ false
    none-writes is =
        let w = closed in
        let one = w.1.0 in
        let files = i.files in
        let control = files.control b.place b.within in
        let lawful = i.lawful in
        let mine : Held = held_by k its.pid 0 file.Ctl WriteExcl in
        ap (has_writer of) (one.is ∙ ap (λ m. slice_set s.opens m None) (last-control its is))
        ∙ subst (λ m. has_writer m (slice_set s.opens its.control None) ≡ false) b.of
        (none-left s.opens its.control mine (handle-at s.opens k its.control mine control.is) refl lawful.exclusive)

    file-closes : Stands k o u a.state h of
    unfolding with_closed
    file-closes = by (without_last its) refl
      where
        by : (x : Option Traced) → without_last its ≡ x → Stands k o u a.state h of
        by None is = stands_new (record { alone = none-writes is; born = born-now closed-stays; left = left-now })
        by (Some x) is =
            let same = lost-same its x is in
            goes-on closed-stays (with_traced t b.place x)
            (closed-is ∙ ap (closed_or_removed t b.place OpenNext) is) b.at
            (subst (λ m. b.place < m) (sym (set-length t b.place x)) b.within)
            (ap (λ (y : Traced). y.pid) (set-at t.traced b.place x b.within) ∙ same.pid ∙ b.of)

  -- ---- any call

  here : (place : ℕ) (next : ℕ → Stage) → Some place ≡ Some b.place → t.stage ≡ next place → t.stage ≡ next b.place
  here place next same is = is ∙ ap next (same_Some place b.place same)

  stage-stands : (stage : Stage) → t.stage ≡ stage → begun_at stage ≡ Some b.place → Stands k o u a.state h of
  stage-stands (Opening place opening.OpenStatus) is same =
      status-opens (here place (λ m. Opening m opening.OpenStatus) same is)
  stage-stands (Opening place opening.OpenLstatus) is same =
      lstatus-opens (here place (λ m. Opening m opening.OpenLstatus) same is)
  stage-stands (Opening place opening.OpenMemory) is same =
      memory-opens (here place (λ m. Opening m opening.OpenMemory) same is)
  stage-stands (Closing place OpenNext) is same = file-closes (here place (λ m. Closing m OpenNext) same is)
  stage-stands _ is same = absurd (none-some b.place same)

  pub begun-stands : Stands k o u a.state h of
  begun-stands = stage-stands t.stage refl b.at
