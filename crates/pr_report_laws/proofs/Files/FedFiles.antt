use Rattle.std.proofs.Common.{◌-◌, ◌≡◌, ◌<◌, ◌++◌, ℕ, Bool, true, false, cond, Option, Some, None, [], ◌∷◌, length, refl, sym, subst, ◌∙◌, inl, inr}
use Rattle.std.proofs.lemmas.Bool.{false≢true}
use Rattle.std.proofs.lemmas.List.{get_or_push}
use Rattle.pr_line.specs.declared.options.Options.{Options}
use Rattle.pr_model.specs.Replies.{handle_in, number_of}
use Rattle.pr_model.specs.declared.calls.Call.{Call}
use Rattle.pr_model.specs.declared.calls.Call.TheVariants as call
use Rattle.pr_model.specs.declared.calls.File.{File}
use Rattle.pr_model.specs.declared.calls.File.TheVariants as file
use Rattle.pr_model.specs.declared.calls.Mode.{Mode}
use Rattle.pr_model.specs.declared.calls.Mode.TheVariants.{WriteExcl}
use Rattle.pr_model.specs.declared.calls.Reply.{Reply}
use Rattle.pr_rec.specs.declared.lwps.LwpStatus.{LwpStatus}
use Rattle.pr_truss.specs.Children.{child_learnt, child_step_after}
use Rattle.pr_truss.specs.Feeding.{fed}
use Rattle.pr_truss.specs.NextCalls.{call_of, child_call, freeing_call, next_call_of, open_control, opening_call, run_call}
use Rattle.pr_truss.specs.Openings.{learnt, step_after}
use Rattle.pr_truss.specs.Processes.{newly_traced, without_last}
use Rattle.pr_truss.specs.Replies.{answer_of}
use Rattle.pr_truss.specs.Trusses.{TrussState, nobody, traced_at, with_opened, with_report, with_stage, with_traced, without_traced}
use Rattle.pr_truss.specs.declared.processes.Traced.{Traced}
use Rattle.pr_truss.specs.declared.replies.Answer.TheVariants.{Accepted, Interrupted}
use Rattle.pr_truss.specs.declared.reports.Report.{Report}
use Rattle.pr_truss.specs.declared.stages.AfterClosing.{AfterClosing}
use Rattle.pr_truss.specs.declared.stages.ChildStep.{ChildStep}
use Rattle.pr_truss.specs.declared.stages.ChildStep.TheVariants as child
use Rattle.pr_truss.specs.declared.stages.OpeningStep.{OpeningStep}
use Rattle.pr_truss.specs.declared.stages.OpeningStep.TheVariants as opening
use Rattle.pr_truss.specs.declared.stages.Stage.{Stage}
use Rattle.pr_truss.specs.declared.stages.Stage.TheVariants.{ReadingStatus, ReadingText, Running, Closing}
use Rattle.pr_truss_laws.proofs.Files.HeldLemmas.{Fits, at_place, set-at}
use Rattle.pr_report_laws.proofs.Invariant.StandLemmas.{Each, EachBut, HasMemoryOpen, IsAttached, IsNew, IsUnseen, Rests, Stands, StandsChild, StandsOpening, but-append, but-set, child-unseen, each-append, each-but, each-join, each-remove, each-set, old-attached, opening-unseen, rest-leaves, rest-stays}
use Rattle.pr_truss_laws.proofs.Replies.ReplySteps as step
use Rattle.pr_truss_laws.proofs.Replies.ReplySteps.{Closes, GoesOn, Learns, Looks, Opens, Reads, ReplyStep, Returns, Settles, StopOver, Turns, leaving_now, old_less}
use Rattle.pr_truss_laws.proofs.Replies.FedSteps.{fed-step}
use Rattle.pr_truss_laws.proofs.Replies.FitLemmas.{last-within, set-within}
use Rattle.pr_report_laws.proofs.Files.KeepLemmas.{Base, FilesAre, FilesLeft, FreedIs, Grants, IsCalm, Keeps, base-leaves, can_wait, closing-keeps, lstatus-files, memory-files, new-files, new-fresh, on-keeps, over-keeps, reported-base, set-base, status-files, still-files, to, without-files}

-- What each call and its reply do to the files that truss remembers, and to how its processes stand.

module _ (P : ℕ → File → Mode → ℕ → Type 0) (r : Reply) (s : TrussState) (files : Each (FilesAre P) s.traced) where
  based : Each (Rests s.leaving) s.traced → Base P s.leaving s
  based rests = record { files = files; rests = rests }

  staying : (place : ℕ) → s.leaving ≡ false → s.leaving ≡ true → place ≡ 0
  staying place stays leaves = absurd (false≢true (sym stays ∙ leaves))

  at-last : (u : Traced) → at_place (s.traced ++ u ∷ []) (length s.traced) ≡ u
  at-last u = get_or_push s.traced u nobody (length s.traced) refl

  opened-files : (pid control : ℕ) → P pid file.Ctl WriteExcl control
      → Each (FilesAre P) (s.traced ++ newly_traced pid control ∷ [])
  opened-files pid control p =
      each-append (FilesAre P) s.traced (newly_traced pid control) files
      (subst (FilesAre P) (sym (at-last (newly_traced pid control))) (new-files P pid control p))

  opened-new : (pid control : ℕ) → IsNew (at_place (s.traced ++ newly_traced pid control ∷ []) (length s.traced))
  opened-new pid control = subst IsNew (sym (at-last (newly_traced pid control))) (new-fresh pid control)

  -- ---- the opening of a process

  abbrev pub StandsNext : Traced → Option OpeningStep → Type 0
  StandsNext u None = IsAttached u
  StandsNext u (Some step) = StandsOpening u step

  last-stands : (b : Bool) (u : Traced) → IsAttached u → StandsNext u (Some (cond b opening.Follow opening.Start))
  last-stands true u w = w
  last-stands false u w = w

  attached-now : (u : Traced) → HasMemoryOpen u → IsAttached (record u { attached = true })
  attached-now u w = record {
    attached = refl;
    unseen = w.fresh.unseen;
    opened = record { status = w.opened.status; lstatus = w.opened.lstatus; memory = w.opened.memory };
  }

  step-stands : (opts : Options) (u : Traced) (step : OpeningStep) → StandsOpening u step
      → StandsNext (learnt u r step) (step_after opts r step)
  unfolding learnt step_after
  step-stands opts u opening.OpenStatus w = record {
    fresh = record { free = w.free; unseen = w.unseen };
    status = record { number = handle_in r; is = refl };
  }
  step-stands opts u opening.OpenLstatus w = record {
    fresh = record { free = w.fresh.free; unseen = w.fresh.unseen };
    status = w.status;
    lstatus = record { number = handle_in r; is = refl };
  }
  step-stands opts u opening.OpenMemory w = record {
    fresh = record { free = w.fresh.free; unseen = w.fresh.unseen };
    opened = record { status = w.status; lstatus = w.lstatus; memory = record { number = handle_in r; is = refl } };
  }
  step-stands opts u opening.ClearModes w = w
  step-stands opts u opening.SetRelease w = w
  step-stands opts u opening.Stop w = w
  step-stands opts u (opening.AwaitStop until) w = attached-now u w
  step-stands opts u opening.ReadLwps w = old-attached u _ w
  step-stands opts u opening.TraceSignals w = w
  step-stands opts u opening.TraceFaults w = w
  step-stands opts u opening.TraceEntries w = w
  step-stands opts u opening.TraceExits w = last-stands opts.follow u w
  step-stands opts u opening.Follow w = w
  step-stands opts u opening.Start w = w

  step-files : (opts : Options) (u : Traced) (step : OpeningStep) → FilesAre P u
      → Grants P Accepted r (Some (opening_call opts u step)) → FilesAre P (learnt u r step)
  unfolding learnt opening_call
  step-files opts u opening.OpenStatus f g = status-files P u (handle_in r) f (g refl)
  step-files opts u opening.OpenLstatus f g = lstatus-files P u (handle_in r) f (g refl)
  step-files opts u opening.OpenMemory f g = memory-files P u (handle_in r) u.attached f (g refl)
  step-files opts u opening.ClearModes f g = f
  step-files opts u opening.SetRelease f g = f
  step-files opts u opening.Stop f g = f
  step-files opts u (opening.AwaitStop until) f g = still-files P u true u.old u.seen f
  step-files opts u opening.ReadLwps f g = still-files P u u.attached _ u.seen f
  step-files opts u _ f g = f

  -- only the wait for the stop is interrupted, and the process is not attached then
  waiting-free : (opts : Options) (u : Traced) (step : OpeningStep) → StandsOpening u step
      → IsCalm Interrupted (Some (opening_call opts u step)) → u.attached ≡ false
  unfolding opening_call
  waiting-free opts u opening.OpenStatus w calm = w.free
  waiting-free opts u opening.OpenLstatus w calm = w.fresh.free
  waiting-free opts u opening.OpenMemory w calm = w.fresh.free
  waiting-free opts u opening.ClearModes w calm = w.fresh.free
  waiting-free opts u opening.SetRelease w calm = w.fresh.free
  waiting-free opts u opening.Stop w calm = w.fresh.free
  waiting-free opts u (opening.AwaitStop until) w calm = w.fresh.free
  waiting-free opts u _ w calm = absurd (false≢true calm)

  -- ---- the opening of a child

  abbrev pub StandsChildNext : Traced → Option ChildStep → Type 0
  StandsChildNext u None = IsAttached u
  StandsChildNext u (Some step) = StandsChild u step

  child-stands : (u : Traced) (step : ChildStep) → StandsChild u step
      → StandsChildNext (child_learnt u r step) (child_step_after step)
  unfolding child_learnt child_step_after
  child-stands u child.SetRelease w = w
  child-stands u child.OpenStatus w = record {
    fresh = record { free = w.free; unseen = w.unseen };
    status = record { number = handle_in r; is = refl };
  }
  child-stands u child.OpenLstatus w = record {
    fresh = record { free = w.fresh.free; unseen = w.fresh.unseen };
    status = w.status;
    lstatus = record { number = handle_in r; is = refl };
  }
  child-stands u child.OpenMemory w = record {
    attached = refl;
    unseen = w.fresh.unseen;
    opened = record { status = w.status; lstatus = w.lstatus; memory = record { number = handle_in r; is = refl } };
  }
  child-stands u child.Start w = w

  child-files : (u : Traced) (step : ChildStep) → FilesAre P u → Grants P Accepted r (Some (child_call u step))
      → FilesAre P (child_learnt u r step)
  unfolding child_learnt child_call
  child-files u child.SetRelease f g = f
  child-files u child.OpenStatus f g = status-files P u (handle_in r) f (g refl)
  child-files u child.OpenLstatus f g = lstatus-files P u (handle_in r) f (g refl)
  child-files u child.OpenMemory f g = memory-files P u (handle_in r) true f (g refl)
  child-files u child.Start f g = f

  -- the calls that open a child do not wait
  child-calm : (u : Traced) (step : ChildStep) → IsCalm Interrupted (Some (child_call u step)) → ⊥
  unfolding child_call
  child-calm u child.SetRelease calm = false≢true calm
  child-calm u _ calm = false≢true calm

  -- ---- the kinds of steps

  removed : (place : ℕ) → place < length s.traced → EachBut (Rests s.leaving) s.traced place
      → Base P s.leaving (without_traced s place)
  removed place within rests = record {
    files = each-remove (FilesAre P) s.traced place within (each-but (FilesAre P) s.traced place files);
    rests = each-remove (Rests s.leaving) s.traced place within rests;
  }

  -- a call that does not wait is not interrupted
  no-wait : {A : Type 0} (c : Call) → can_wait c ≡ false → answer_of r ≡ Interrupted → IsCalm (answer_of r) (Some c) → A
  no-wait c not is calm = absurd (false≢true (sym not ∙ subst (λ a. IsCalm a (Some c)) is calm))

  leaving-base : Each (Rests s.leaving) s.traced → Base P true (leaving_now s)
  leaving-base rests = let b = base-leaves P s (based rests) in record { files = b.files; rests = b.rests }

  -- what the call of a stage was granted, and that it was not interrupted unless it waits
  abbrev Granted : Stage → Type 0
  Granted stage = Grants P (answer_of r) r (call_of s stage)

  abbrev Calm : Stage → Type 0
  Calm stage = IsCalm (answer_of r) (call_of s stage)

  abbrev Stood : Stage → Type 0
  Stood stage = Stands s.traced s.leaving stage

  settles-base : (stage : Stage) (given : Bool) (u : TrussState) → Fits s.traced stage → Granted stage → Calm stage
      → Stood stage
      → Settles s r stage given u → Base P u.leaving u
  unfolding call_of
  settles-base stage given u f g calm w (step.interrupts_start _) = leaving-base w.rests
  settles-base stage given u f g calm w (step.interrupts_control _) = leaving-base w.rests
  settles-base stage given u f g calm w (step.interrupts_poll _) = leaving-base w.rests
  settles-base stage given u f g calm w (step.interrupts_status _) = leaving-base w.rests
  settles-base stage given u f g calm w (step.interrupts_opening {place = place} {now = now} is) =
      let own : Traced = traced_at s place in
      let x : Traced = record own { seen = true } in
      let free : own.attached ≡ false =
      waiting-free s.options own now w.at (subst (λ a. IsCalm a (Some (opening_call s.options own now))) is calm) in
      let others : EachBut (Rests true) s.traced place =
      λ q there other. rest-leaves s.leaving (at_place s.traced q) (w.rests q there other) in
      let seen = still-files P own own.attached own.old true (files place f.0) in
      let b = set-base P true s place x f.0 files others seen (inr (record { leaves = refl; free = free })) in
      record { files = b.files; rests = b.rests }
  settles-base stage given u f g calm w (step.interrupts_text {place = place} {from = from} {len = len} is _) =
      no-wait (call.Read (number_of (traced_at s place).memory) from len) refl is calm
  settles-base stage given u f g calm w (step.interrupts_child_control {pid = pid} is) =
      no-wait (open_control pid) refl is calm
  settles-base stage given u f g calm w (step.interrupts_child {place = place} {now = now} is) =
      absurd (child-calm (traced_at s place) now
      (subst (λ a. IsCalm a (Some (child_call (traced_at s place) now))) is calm))
  settles-base stage given u f g calm w (step.interrupts_run {place = place} is) =
      no-wait (run_call (traced_at s place).control) refl is calm
  settles-base stage given u f g calm w (step.refuses_start _ _) = record { files = files; rests = w.rests }
  settles-base stage given u f g calm w (step.refuses_control _ _) = record { files = files; rests = w.rests }
  settles-base stage given u f g calm w (step.ends_opening {place = place} {now = now} is none) =
      let own : Traced = traced_at s place in
      let granted = subst (λ a. Grants P a r (Some (opening_call s.options own now))) is g in
      let attached = subst (StandsNext (learnt own r now)) none (step-stands s.options own now w.at) in
      set-base P s.leaving s place (learnt own r now) f.0 files w.rests
      (step-files s.options own now (files place f.0) granted) (inl attached)
  settles-base stage given u f g calm w step.ran = based w.rests
  settles-base stage given u f g calm w (step.closed_next {place = place} _) = removed place f.0 w.rests
  settles-base stage given u f g calm w (step.closed {place = place} _) = removed place f.0 w.rests

  settles-stays : (stage : Stage) (given : Bool) (u : TrussState) → Stood stage → Settles s r stage given u
      → given ≡ true → u.leaving ≡ false
  settles-stays stage given u w (step.refuses_control _ _) is = w.leaves
  settles-stays stage given u w (step.ends_opening _ _) is = w.leaves
  settles-stays stage given u w (step.closed_next _) is = w.leaves
  settles-stays stage given u w _ is = absurd (false≢true is)

  -- truss looks at a stop of an attached process, while it leaves at one of the first
  record Looked (u : TrussState) (place : ℕ) : Type 0 where
    within : place < length u.traced
    first : u.leaving ≡ true → place ≡ 0
    attached : IsAttached (traced_at u place)
    base : Base P u.leaving u

  status-looked : (place : ℕ) → place < length s.traced → Stood (ReadingStatus place) → Looked s place
  status-looked place within w = record {
    within = within;
    first = staying place w.leaves;
    attached = rest-stays s.leaving (traced_at s place) (w.rests place within) w.leaves;
    base = based w.rests;
  }

  reads-looked : (stage : Stage) (place : ℕ) (l : Option LwpStatus) → Fits s.traced stage → Stood stage
      → Reads s r stage place l → Looked s place
  reads-looked stage place l f w (step.reads_lwps _) = record {
    within = f;
    first = λ leaves. refl;
    attached = w.at;
    base = based w.rests;
  }
  reads-looked stage place l f w (step.reads_status _) = status-looked place f w
  reads-looked stage place l f w (step.reads_none _) = status-looked place f w

  reported-looked : (x : Report) (place : ℕ) → Looked s place → Looked (with_report s x) place
  reported-looked x place l = record {
    within = l.within;
    first = l.first;
    attached = l.attached;
    base = reported-base P s.leaving s x l.base;
  }

  old-looked : (place : ℕ) → Looked s place → Looked (old_less s place) place
  old-looked place l =
      let own : Traced = traced_at s place in
      let old : ℕ = own.old - 1 in
      let b = l.base in
      let attached = old-attached own old l.attached in
      let its = still-files P own own.attached old own.seen (b.files place l.within) in
      record {
        within = set-within s.traced place (record own { old = old }) l.within;
        first = l.first;
        attached = subst IsAttached (sym (set-at s.traced place (record own { old = old }) l.within)) attached;
        base =
            set-base P s.leaving s place (record own { old = old }) l.within b.files
            (each-but (Rests s.leaving) s.traced place b.rests) its (inl attached);
      }

  looks-looked : (stage : Stage) (place : ℕ) (pid : Option ℕ) (u : TrussState) → Fits s.traced stage → Stood stage
      → Looks s r stage place pid u → Looked u place
  looks-looked stage place pid u f w (step.passes p) = reads-looked stage place _ f w p.reads
  looks-looked stage place pid u f w (step.passes_old reads _ _) =
      old-looked place (reads-looked stage place _ f w reads)
  looks-looked stage place pid u f w (step.passes_event reads _ _) = reads-looked stage place _ f w reads
  looks-looked stage place pid u f w (step.shows reads _ _ _) =
      reported-looked _ place (reads-looked stage place _ f w reads)
  looks-looked stage place pid u f w step.shows_text =
      reported-looked _ place (record { within = f; first = w.leaves; attached = w.at; base = based w.rests })

  closes-keeps : (stage : Stage) (place : ℕ) (next : AfterClosing) (u : TrussState) → Fits s.traced stage → Stood stage
      → Closes s r stage place next u → Keeps P (with_stage u (Closing place next))
  closes-keeps stage place next u f w (step.refuses_opening {now = now} _ _) =
      record {
        files = files;
        stands = record { leaves = w.leaves; rests = w.rests; at = opening-unseen (traced_at s place) now w.at };
        freed = tt;
      }
  closes-keeps stage place next u f w (step.refuses_child {now = now} _ _) =
      record {
        files = files;
        stands = record { leaves = w.leaves; rests = w.rests; at = child-unseen (traced_at s place) now w.at };
        freed = tt;
      }
  closes-keeps stage place next u f w (step.child_ended _) =
      record {
        files = files;
        stands = record { leaves = w.leaves; rests = w.rests; at = child-unseen (traced_at s place) child.Start w.at };
        freed = tt;
      }
  closes-keeps stage place next u f w (step.text_ended _) =
      closing-keeps P u place f (reported-base P s.leaving s _ (based w.rests))
  closes-keeps stage place next u f w (step.refuses_free _ _) =
      closing-keeps P u place f (reported-base P s.leaving s _ (based w.rests))
  closes-keeps stage place next u f w _ = closing-keeps P s place f (based w.rests)

  learns-keeps : (stage next : Stage) (place : ℕ) (x : Traced) → Fits s.traced stage → Granted stage
      → answer_of r ≡ Accepted → Stood stage
      → Learns s r stage place x next → Keeps P (with_stage (with_traced s place x) next)
  unfolding call_of
  learns-keeps stage goes place x f g is w (step.opening_goes {now = now} {next = next} after) =
      let own : Traced = traced_at s place in
      let granted = subst (λ a. Grants P a r (Some (opening_call s.options own now))) is g in
      let stands = subst (StandsNext x) after (step-stands s.options own now w.at) in
      record {
        files =
            each-set (FilesAre P) s.traced place x f.0 (each-but (FilesAre P) s.traced place files)
            (step-files s.options own now (files place f.0) granted);
        stands = record {
          leaves = w.leaves;
          rests = but-set (Rests s.leaving) s.traced place x w.rests;
          at = subst (λ v. StandsOpening v next) (sym (set-at s.traced place x f.0)) stands;
        };
        freed = tt;
      }
  learns-keeps stage goes place x f g is w (step.child_goes {parent = parent} {now = now} {next = next} after) =
      let own : Traced = traced_at s place in
      let within : place < length s.traced = last-within s.traced parent place f.0 in
      let granted = subst (λ a. Grants P a r (Some (child_call own now))) is g in
      let stands = subst (StandsChildNext x) after (child-stands own now w.at) in
      record {
        files =
            each-set (FilesAre P) s.traced place x within (each-but (FilesAre P) s.traced place files)
            (child-files own now (files place within) granted);
        stands = record {
          leaves = w.leaves;
          rests = but-set (Rests s.leaving) s.traced place x w.rests;
          at = subst (λ v. StandsChild v next) (sym (set-at s.traced place x within)) stands;
        };
        freed = tt;
      }

  opened-keeps : (stage next : Stage) (pid : ℕ) → Granted stage → answer_of r ≡ Accepted → Stood stage
      → Opens (length s.traced) stage pid next
      → Keeps P (with_stage (with_opened s (newly_traced pid (handle_in r))) next)
  unfolding call_of
  opened-keeps stage next pid g is w step.new_given = record {
    files = opened-files pid (handle_in r) ((subst (λ a. Grants P a r (Some (open_control pid))) is g) refl);
    stands = record {
      leaves = w.leaves;
      rests = but-append (Rests s.leaving) s.traced (newly_traced pid (handle_in r)) w.rests;
      at = opened-new pid (handle_in r);
    };
    freed = tt;
  }
  opened-keeps stage next pid g is w step.new_child = record {
    files = opened-files pid (handle_in r) ((subst (λ a. Grants P a r (Some (open_control pid))) is g) refl);
    stands = record {
      leaves = w.leaves;
      rests = but-append (Rests s.leaving) s.traced (newly_traced pid (handle_in r)) w.rests;
      at = opened-new pid (handle_in r);
    };
    freed = tt;
  }

  lost-keeps : (place : ℕ) (next : AfterClosing) (x : Traced) → place < length s.traced → Stood (Closing place next)
      → without_last (traced_at s place) ≡ Some x
      → Keeps P (with_stage (with_traced s place x) (Closing place next))
  lost-keeps place next x within w is =
      let left = subst (FilesLeft P) is (without-files P (traced_at s place) (files place within) w.at) in
      record {
        files = each-set (FilesAre P) s.traced place x within (each-but (FilesAre P) s.traced place files) left.0;
        stands = record {
          leaves = w.leaves;
          rests = but-set (Rests s.leaving) s.traced place x w.rests;
          at = subst IsUnseen (sym (set-at s.traced place x within)) left.1;
        };
        freed = tt;
      }

  returns-keeps : (stage : Stage) (parent : ℕ) (u : TrussState) → Fits s.traced stage → Stood stage
      → Returns s r stage parent u → Keeps P (with_stage u (Running parent))
  returns-keeps stage parent u f w (step.refuses_child_control _ _) =
      to P u (Running parent) (reported-base P s.leaving s _ (based w.rests)) w.leaves w.rests tt tt
  returns-keeps stage parent u f w (step.child_runs {place = place} _) =
      let all : Each (Rests s.leaving) s.traced = each-join (Rests s.leaving) s.traced place w.rests (inl w.at) in
      to P s (Running parent) (based all) w.leaves all tt tt
  returns-keeps stage parent u f w (step.child_closed {place = place} _) =
      let b : Base P s.leaving (without_traced s place) = removed place f.0 w.rests in
      to P (without_traced s place) (Running parent) b w.leaves b.rests tt tt

  turns-keeps : (stage next : Stage) → Granted stage → Stood stage → FreedIs P stage → Turns s r stage next
      → Keeps P (with_stage s next)
  unfolding call_of freeing_call
  turns-keeps stage next g w freed (step.frees {pid = pid} is) =
      to P s next (based w.rests) w.leaves w.rests w.at
      ((subst (λ a. Grants P a r (Some (open_control pid))) is g) refl)
  turns-keeps stage next g w freed step.frees_on = to P s next (based w.rests) w.leaves w.rests w.at freed
  turns-keeps stage next g w freed step.unfollowed = to P s next (based w.rests) w.leaves w.rests w.at tt
  turns-keeps stage next g w freed _ = to P s next (based w.rests) w.leaves w.rests tt tt

  step-keeps : (stage : Stage) (v : TrussState) → Fits s.traced stage → Granted stage → Calm stage → Stood stage
      → FreedIs P stage → ReplyStep s r stage v → Keeps P v
  step-keeps stage v f g calm w freed (step.settles x on) =
      on-keeps P _ v _ (settles-stays stage _ _ w x) (settles-base stage _ _ f g calm w x) on
  step-keeps stage v f g calm w freed (step.looks x over) =
      let l = looks-looked stage _ _ _ f w x in over-keeps P _ v _ _ l.within l.first l.attached l.base over
  step-keeps stage v f g calm w freed (step.asks {place = place} {l = lwp} {range = range} reads _ _ _) =
      let l = reads-looked stage place _ f w reads in
      let b = l.base in
      to P s (ReadingText place lwp range.0 range.1) b l.first b.rests l.attached tt
  step-keeps stage v f g calm w freed (step.closes x) = closes-keeps stage _ _ _ f w x
  step-keeps stage v f g calm w freed (step.loses {place = place} {next = next} is) = lost-keeps place next _ f.0 w is
  step-keeps stage v f g calm w freed (step.opens is x) = opened-keeps stage _ _ g is w x
  step-keeps stage v f g calm w freed (step.learns is x) = learns-keeps stage _ _ _ f g is w x
  step-keeps stage v f g calm w freed (step.returns x) = returns-keeps stage _ _ f w x
  step-keeps stage v f g calm w freed (step.turns x) = turns-keeps stage _ g w freed x

-- A reply keeps what holds of each file, where it holds of a file that the call was granted.
pub fed-keeps : (P : ℕ → File → Mode → ℕ → Type 0) (s : TrussState) (r : Reply) → Fits s.traced s.stage
    → Each (FilesAre P) s.traced → Stands s.traced s.leaving s.stage → FreedIs P s.stage
    → Grants P (answer_of r) r (next_call_of s) → IsCalm (answer_of r) (next_call_of s) → Keeps P (fed s r)
unfolding next_call_of
fed-keeps P s r f files w freed g calm = step-keeps P r s files s.stage (fed s r) f g calm w freed (fed-step s r)
