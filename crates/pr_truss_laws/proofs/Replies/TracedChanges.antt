use Rattle.std.proofs.Common.{◌≡◌, ◌<◌, ℕ, Bool, true, Option, Some, None, List, [], ◌∷◌, ◌++◌, length, refl, sym, subst, ap, ◌∙◌}
use Rattle.std.proofs.lemmas.Option.{none-some, same_Some}
use Rattle.std.specs.List.{remove, slice_set}
use Rattle.pr_model.specs.Replies.{handle_in}
use Rattle.pr_model.specs.declared.calls.Call.TheVariants as call
use Rattle.pr_model.specs.declared.calls.File.TheVariants.{Lstatus}
use Rattle.pr_model.specs.declared.calls.Reply.{Reply}
use Rattle.pr_truss.specs.Children.{child_learnt}
use Rattle.pr_truss.specs.Feeding.{fed}
use Rattle.pr_truss.specs.NextCalls.{call_of, child_call, open_control, open_file, opening_call}
use Rattle.pr_truss.specs.Openings.{learnt}
use Rattle.pr_truss.specs.Processes.{last_handle, newly_traced, without_last}
use Rattle.pr_truss.specs.Replies.{answer_of}
use Rattle.pr_truss.specs.Trusses.{TrussState, traced_at}
use Rattle.pr_truss.specs.declared.marks.Marks.{Marks}
use Rattle.pr_truss.specs.declared.processes.Traced.{Traced}
use Rattle.pr_truss.specs.declared.replies.Answer.TheVariants.{Accepted}
use Rattle.pr_truss.specs.declared.stages.ChildStep.{ChildStep}
use Rattle.pr_truss.specs.declared.stages.ChildStep.TheVariants as child
use Rattle.pr_truss.specs.declared.stages.OpeningStep.{OpeningStep}
use Rattle.pr_truss.specs.declared.stages.OpeningStep.TheVariants as opening
use Rattle.pr_truss.specs.declared.stages.Stage.{Stage}
use Rattle.pr_truss.specs.declared.stages.Stage.TheVariants.{Opening, OpeningChild}
use Rattle.pr_truss_laws.proofs.Replies.AnswerLemmas.{IsAnswer, answer-is}
use Rattle.pr_truss_laws.proofs.Replies.FedSteps.{fed-step}
use Rattle.pr_truss_laws.proofs.Replies.FitLemmas.{last-within, parent-within, reads-within}
use Rattle.pr_truss_laws.proofs.Files.HeldLemmas.{Fits}
use Rattle.pr_truss_laws.proofs.Replies.ReplySteps as step
use Rattle.pr_truss_laws.proofs.Replies.ReplySteps.{Closes, Looks, ReplyStep, Settles, on-staged, over-staged}
use Rattle.pr_truss_laws.specs.Exchanges.{errno_in}

-- What each reply does to the processes that truss traces, as far as it has to do with their files: they stay, one of
-- them becomes another one of the same process, one comes, or one goes with its last file.

pub accepted-granted : (r : Reply) → answer_of r ≡ Accepted → errno_in r ≡ None
unfolding IsAnswer
accepted-granted r is = subst (IsAnswer r) is (answer-is r)

-- ---- the file that is closed

last-fields : (pid control : ℕ) (status lstatus memory : Option ℕ) (attached : Bool) (old : ℕ) (seen : Bool)
    (marks : Marks)
    → let t : Traced = record {
      pid = pid;
      control = control;
      status = status;
      lstatus = lstatus;
      memory = memory;
      attached = attached;
      old = old;
      seen = seen;
      marks = marks;
    } in without_last t ≡ None → last_handle t ≡ control
unfolding last_handle without_last
last-fields pid control status lstatus (Some m) attached old seen marks is = absurd (none-some _ (sym is))
last-fields pid control status (Some l) None attached old seen marks is = absurd (none-some _ (sym is))
last-fields pid control (Some s) None None attached old seen marks is = absurd (none-some _ (sym is))
last-fields pid control None None None attached old seen marks is = refl

last-control : (t : Traced) → without_last t ≡ None → last_handle t ≡ t.control
last-control t is = last-fields t.pid t.control t.status t.lstatus t.memory t.attached t.old t.seen t.marks is

module _ (s : TrussState) (r : Reply) (stage : Stage) where
  -- what becomes of the file of its lwps
  pub data KeepsLstatus (t u : Traced) : Type 0 where
    same : u.lstatus ≡ t.lstatus → KeepsLstatus t u
    lost : u.lstatus ≡ None → KeepsLstatus t u
    given : u.lstatus ≡ Some (handle_in r) → errno_in r ≡ None → call_of s stage ≡ Some (open_file t.pid Lstatus)
        → KeepsLstatus t u

  pub record KeepsProcess (t u : Traced) : Type 0 where
    pub pid : u.pid ≡ t.pid
    pub control : u.control ≡ t.control
    pub lstatus : KeepsLstatus t u

  pub data TracedChange : List Traced → Type 0 where
    stays : TracedChange s.traced
    becomes : {place : ℕ} {t : Traced} → place < length s.traced → KeepsProcess (traced_at s place) t
        → TracedChange (slice_set s.traced place t)
    adds : {pid : ℕ} → errno_in r ≡ None → call_of s stage ≡ Some (open_control pid)
        → TracedChange (s.traced ++ newly_traced pid (handle_in r) ∷ [])
    drops : {place : ℕ} → place < length s.traced → call_of s stage ≡ Some (call.Close (traced_at s place).control)
        → TracedChange (remove s.traced place)

  keeps : (t u : Traced) → u.pid ≡ t.pid → u.control ≡ t.control → u.lstatus ≡ t.lstatus → KeepsProcess t u
  keeps t u pid control lstatus = record { pid = pid; control = control; lstatus = same lstatus }

  lost-fields : (pid control : ℕ) (status lstatus memory : Option ℕ) (attached : Bool) (old : ℕ) (seen : Bool)
      (marks : Marks) (u : Traced)
      → let t : Traced = record {
        pid = pid;
        control = control;
        status = status;
        lstatus = lstatus;
        memory = memory;
        attached = attached;
        old = old;
        seen = seen;
        marks = marks;
      } in without_last t ≡ Some u → KeepsProcess t u
  unfolding without_last
  lost-fields pid control status lstatus (Some m) attached old seen marks u is =
      subst (KeepsProcess _) (same_Some _ u is) (record { pid = refl; control = refl; lstatus = same refl })
  lost-fields pid control status (Some l) None attached old seen marks u is =
      subst (KeepsProcess _) (same_Some _ u is) (record { pid = refl; control = refl; lstatus = lost refl })
  lost-fields pid control (Some s) None None attached old seen marks u is =
      subst (KeepsProcess _) (same_Some _ u is) (record { pid = refl; control = refl; lstatus = same refl })
  lost-fields pid control None None None attached old seen marks u is = absurd (none-some u is)

  less-keeps : (t u : Traced) → without_last t ≡ Some u → KeepsProcess t u
  less-keeps t u is = lost-fields t.pid t.control t.status t.lstatus t.memory t.attached t.old t.seen t.marks u is

module _ (s : TrussState) (r : Reply) where
  abbrev Goes : Stage → List Traced → Type 0
  Goes stage ts = TracedChange s r stage ts

  abbrev Fit : Stage → Type 0
  Fit stage = Fits s.traced stage

  learnt-keeps : (place : ℕ) (now : OpeningStep) → answer_of r ≡ Accepted
      → KeepsProcess s r (Opening place now) (traced_at s place) (learnt (traced_at s place) r now)
  unfolding learnt call_of opening_call
  learnt-keeps place opening.OpenLstatus is =
      record { pid = refl; control = refl; lstatus = given refl (accepted-granted r is) refl }
  learnt-keeps place opening.OpenStatus is = record { pid = refl; control = refl; lstatus = same refl }
  learnt-keeps place _ is = record { pid = refl; control = refl; lstatus = same refl }

  child-keeps : (parent place : ℕ) (now : ChildStep) → answer_of r ≡ Accepted
      → KeepsProcess s r (OpeningChild parent place now) (traced_at s place) (child_learnt (traced_at s place) r now)
  unfolding child_learnt call_of child_call
  child-keeps parent place child.OpenLstatus is =
      record { pid = refl; control = refl; lstatus = given refl (accepted-granted r is) refl }
  child-keeps parent place child.SetRelease is = record { pid = refl; control = refl; lstatus = same refl }
  child-keeps parent place _ is = record { pid = refl; control = refl; lstatus = same refl }

  last-drops : (stage : Stage) (place : ℕ) → call_of s stage ≡ Some (call.Close (last_handle (traced_at s place)))
      → place < length s.traced → without_last (traced_at s place) ≡ None → Goes stage (remove s.traced place)
  last-drops stage place is within last =
      drops within (is ∙ ap (λ h. Some (call.Close h)) (last-control (traced_at s place) last))

  -- the stop was looked at
  sees : (stage : Stage) (place : ℕ) → place < length s.traced
      → Goes stage (slice_set s.traced place (record (traced_at s place) { seen = true }))
  sees stage place within = becomes within (record { pid = refl; control = refl; lstatus = same refl })

  settles-change : (stage : Stage) (given : Bool) (u : TrussState) → Fit stage → Settles s r stage given u
      → Goes stage u.traced
  unfolding call_of
  settles-change stage of u f (step.interrupts_opening {place = place} _) = sees stage place f.0
  settles-change stage of u f (step.interrupts_text {place = place} _ _) = sees stage place f
  settles-change stage of u f (step.interrupts_child_control {parent = parent} _) = sees stage parent f
  settles-change stage of u f (step.interrupts_child {parent = parent} {place = place} _) =
      sees stage parent (parent-within s.traced parent place f.0)
  settles-change stage of u f (step.interrupts_run {place = place} _) = sees stage place f
  settles-change stage of u f (step.ends_opening {place = place} {now = now} is _) =
      becomes f.0 (learnt-keeps place now is)
  settles-change stage of u f (step.closed_next {place = place} last) = last-drops stage place refl f.0 last
  settles-change stage of u f (step.closed {place = place} last) = last-drops stage place refl f.0 last
  settles-change stage of u f _ = stays

  looks-change : (stage : Stage) (place : ℕ) (pid : Option ℕ) (u : TrussState) → Fit stage
      → Looks s r stage place pid u → Goes stage u.traced
  looks-change stage place pid u f (step.passes_old reads _ _) =
      becomes (reads-within s r stage place _ f reads) (record { pid = refl; control = refl; lstatus = same refl })
  looks-change stage place pid u f (step.passes _) = stays
  looks-change stage place pid u f _ = stays

  closes-change : (stage : Stage) (place : ℕ) (next : _) (u : TrussState) → Closes s r stage place next u
      → Goes stage u.traced
  closes-change stage place next u (step.looked_last _) = stays
  closes-change stage place next u _ = stays

  step-change : (stage : Stage) (v : TrussState) → Fit stage → ReplyStep s r stage v → Goes stage v.traced
  unfolding call_of
  step-change stage v f (step.settles w on) =
      let same = on-staged on in subst (Goes stage) (sym same.traced) (settles-change stage _ _ f w)
  step-change stage v f (step.looks w over) =
      let same = over-staged over in subst (Goes stage) (sym same.traced) (looks-change stage _ _ _ f w)
  step-change stage v f (step.closes w) = closes-change stage _ _ _ w
  step-change stage v f (step.loses {place = place} is) = becomes f.0 (less-keeps s r stage (traced_at s place) _ is)
  step-change stage v f (step.opens is step.new_given) = adds (accepted-granted r is) refl
  step-change stage v f (step.opens is step.new_child) = adds (accepted-granted r is) refl
  step-change stage v f (step.learns is (step.opening_goes {place = place} {now = now} _)) =
      becomes f.0 (learnt-keeps place now is)
  step-change stage v f (step.learns is (step.child_goes {parent = parent} {place = place} {now = now} _)) =
      becomes (last-within s.traced parent place f.0) (child-keeps parent place now is)
  step-change stage v f (step.returns (step.refuses_child_control _ _)) = stays
  step-change stage v f (step.returns (step.child_runs _)) = stays
  step-change stage v f (step.returns (step.child_closed {place = place} last)) =
      last-drops stage place refl f.0 last
  step-change stage v f (step.asks _ _ _ _) = stays
  step-change stage v f (step.turns _) = stays

pub fed-change : (s : TrussState) (r : Reply) → Fits s.traced s.stage → TracedChange s r s.stage (fed s r).traced
fed-change s r f = step-change s r s.stage (fed s r) f (fed-step s r)
