use Rattle.std.proofs.Common.{◌≡◌, ◌<◌, ℕ, Bool, true, false, Option, Some, None, length, refl, subst, ap, ◌∙◌}
use Rattle.std.proofs.lemmas.Option.{get_or_from_slice_get, none-some, same_Some, slice_get_within}
use Rattle.pr_model.specs.Replies.{handle_in}
use Rattle.pr_model.specs.declared.calls.Call.{Call}
use Rattle.pr_model.specs.declared.calls.Call.TheVariants as call
use Rattle.pr_model.specs.declared.calls.File.{File}
use Rattle.pr_model.specs.declared.calls.File.TheVariants as file
use Rattle.pr_model.specs.declared.calls.Mode.{Mode}
use Rattle.pr_model.specs.declared.calls.Mode.TheVariants.{Read, WriteExcl}
use Rattle.pr_model.specs.declared.calls.Reply.{Reply}
use Rattle.pr_truss.specs.Closings.{with_closing}
use Rattle.pr_truss.specs.Processes.{newly_traced, without_last}
use Rattle.pr_truss.specs.Trusses.{TrussState, nobody, traced_at, with_report, with_stage, with_traced}
use Rattle.pr_truss.specs.declared.processes.Traced.{Traced}
use Rattle.pr_truss.specs.declared.replies.Answer.{Answer}
use Rattle.pr_truss.specs.declared.replies.Answer.TheVariants.{Accepted, Interrupted}
use Rattle.pr_truss.specs.declared.reports.Report.{Report}
use Rattle.pr_truss.specs.declared.stages.AfterClosing.TheVariants.{GoOn}
use Rattle.pr_truss.specs.declared.stages.FreeingStep.TheVariants as freeing
use Rattle.pr_truss.specs.declared.stages.Stage.{Stage}
use Rattle.pr_truss.specs.declared.stages.Stage.TheVariants.{Polling, OpeningChildControl, Running, Closing, Unfollowing, FreeingChild, Finished}
use Rattle.pr_truss_laws.proofs.Files.HeldLemmas.{at_place, by_last, of_stage}
use Rattle.pr_truss_laws.proofs.Replies.ReplySteps as step
use Rattle.pr_truss_laws.proofs.Replies.ReplySteps.{GoesOn, StopOver}
use Rattle.pr_truss_laws.proofs.Replies.FedLemmas.{freed-once}
use Rattle.pr_report_laws.proofs.Invariant.StandLemmas.{Each, EachBut, IsAttached, IsNew, IsUnseen, Leaves, RestBut, Rests, Stands, StandsAt, busy, each-but, each-set, each-weaker, rest-attached, rest-leaves, rest-unseen}

-- What holds of each file that truss remembers, and of how its processes stand, stays while truss looks for what to do
-- next.

-- ---- the reply to a call

-- whether a call can wait, and so be interrupted
abbrev pub can_wait : Call → Bool
can_wait (call.CtlWait handle until bytes) = true
can_wait (call.Poll handles) = true
can_wait (call.Until moment) = true
can_wait _ = false

-- a call that does not wait is not interrupted
abbrev pub IsCalm : Answer → Option Call → Type 0
IsCalm Interrupted (Some c) = can_wait c ≡ true
IsCalm _ _ = Unit {0}

-- a process of which just the control file is open
pub new-fresh : (pid control : ℕ) → IsNew (newly_traced pid control)
unfolding newly_traced
new-fresh pid control = record { free = refl; unseen = refl }

-- ---- what holds of each file that truss remembers

module _ (P : ℕ → File → Mode → ℕ → Type 0) where
  -- it holds of each file of a process: of the process, the file, its mode and its handle
  pub record FilesAre (u : Traced) : Type 0 where
    pub control : P u.pid file.Ctl WriteExcl u.control
    pub status : (n : ℕ) → u.status ≡ Some n → P u.pid file.Status Read n
    pub lstatus : (n : ℕ) → u.lstatus ≡ Some n → P u.pid file.Lstatus Read n
    pub memory : (n : ℕ) → u.memory ≡ Some n → P u.pid file.Mem Read n

  -- it holds of a file that a call was granted, where that is no file of one lwp
  abbrev pub Grants : Answer → Reply → Option Call → Type 0
  Grants Accepted r (Some (call.Open pid id f mode)) = id ≡ 0 → P pid f mode (handle_in r)
  Grants _ r _ = Unit {0}

  -- it holds of the control file of a child that is set free
  abbrev pub FreedIs : Stage → Type 0
  FreedIs (FreeingChild pid (freeing.SetRelease control)) = P pid file.Ctl WriteExcl control
  FreedIs (FreeingChild pid (freeing.Close control)) = P pid file.Ctl WriteExcl control
  FreedIs _ = Unit {0}

  -- a file that is not open
  no-file : (pid : ℕ) (f : File) (n : ℕ) → None ≡ Some n → P pid f Read n
  no-file pid f n is = absurd (none-some n is)

  pub new-files : (pid control : ℕ) → P pid file.Ctl WriteExcl control → FilesAre (newly_traced pid control)
  unfolding newly_traced
  new-files pid control p = record { control = p; status = no-file _ _; lstatus = no-file _ _; memory = no-file _ _ }

  pub status-files : (u : Traced) (h : ℕ) → FilesAre u → P u.pid file.Status Read h
      → FilesAre (record u { status = Some h })
  status-files u h f p = record {
    control = f.control;
    status = λ n is. subst (P u.pid file.Status Read) (same_Some h n is) p;
    lstatus = f.lstatus;
    memory = f.memory;
  }

  pub lstatus-files : (u : Traced) (h : ℕ) → FilesAre u → P u.pid file.Lstatus Read h
      → FilesAre (record u { lstatus = Some h })
  lstatus-files u h f p = record {
    control = f.control;
    status = f.status;
    lstatus = λ n is. subst (P u.pid file.Lstatus Read) (same_Some h n is) p;
    memory = f.memory;
  }

  pub memory-files : (u : Traced) (h : ℕ) (attached : Bool) → FilesAre u → P u.pid file.Mem Read h
      → FilesAre (record u { memory = Some h; attached = attached })
  memory-files u h attached f p = record {
    control = f.control;
    status = f.status;
    lstatus = f.lstatus;
    memory = λ n is. subst (P u.pid file.Mem Read) (same_Some h n is) p;
  }

  -- what is left of a process when its last file was closed
  abbrev pub FilesLeft : Option Traced → Type 0
  FilesLeft None = Unit {0}
  FilesLeft (Some u) = FilesAre u × IsUnseen u

  pub without-files : (u : Traced) → FilesAre u → IsUnseen u → FilesLeft (without_last u)
  unfolding without_last
  without-files u = by_last (λ v. FilesAre v → IsUnseen v → FilesLeft (without_last v)) u
      (λ m l s f unseen.
      (record { control = f.control; status = f.status; lstatus = f.lstatus; memory = no-file _ _ }, unseen))
      (λ l s f unseen.
      (record { control = f.control; status = f.status; lstatus = no-file _ _; memory = f.memory }, unseen))
      (λ s f unseen.
      (record { control = f.control; status = no-file _ _; lstatus = f.lstatus; memory = f.memory }, unseen))
      (λ f unseen. tt)

  -- ---- one stage after the other

  -- what stays while truss looks for what to do next
  pub record Base (leaving : Bool) (s : TrussState) : Type 0 where
    pub files : Each FilesAre s.traced
    pub rests : Each (Rests leaving) s.traced

  pub record Keeps (s : TrussState) : Type 0 where
    pub files : Each FilesAre s.traced
    pub stands : Stands s.traced s.leaving s.stage
    pub freed : FreedIs s.stage

  pub to : (s : TrussState) (stage : Stage) → Base s.leaving s → Leaves s.leaving stage
      → RestBut s.leaving s.traced (busy stage) → StandsAt s.traced stage → FreedIs stage → Keeps (with_stage s stage)
  to s stage b leaves rests at freed = record {
    files = b.files;
    stands = record { leaves = leaves; rests = rests; at = at };
    freed = freed;
  }

  pub closing-keeps : (s : TrussState) (place : ℕ) → place < length s.traced → Base s.leaving s
      → Keeps (with_closing s place)
  closing-keeps s place within b =
      to s (Closing place GoOn) b tt (each-but (Rests s.leaving) s.traced place b.rests)
      (rest-unseen s.leaving (at_place s.traced place) (b.rests place within)) tt

  -- what comes next
  pub on-keeps : (u v : TrussState) (given : Bool) → (given ≡ true → u.leaving ≡ false) → Base u.leaving u
      → GoesOn u given v → Keeps v
  on-keeps u v given stays b (step.finishes none) = to u Finished b tt b.rests tt tt
  on-keeps u v given stays b (step.polls off _) = to u Polling b off b.rests tt tt
  on-keeps u v given stays b (step.closes_first {t = t} on first off) =
      closing-keeps u 0 (slice_get_within u.traced 0 t first) b
  on-keeps u v given stays b (step.unfollows {t = t} on first attached) =
      let own = b.rests 0 (slice_get_within u.traced 0 t first) in
      let here = ap (λ (x : Traced). x.attached) (get_or_from_slice_get u.traced 0 t nobody first) ∙ attached in
      to u Unfollowing b on b.rests (rest-attached u.leaving (at_place u.traced 0) own here) tt
  on-keeps u v given stays b (step.opens_next _) =
      record { files = b.files; stands = record { leaves = stays refl; rests = b.rests; at = tt }; freed = tt }

  pub base-leaves : (s : TrussState) → Base s.leaving s → Base true s
  base-leaves s b = record {
    files = b.files;
    rests = each-weaker (Rests s.leaving) (Rests true) (rest-leaves s.leaving) s.traced b.rests;
  }

  -- a process becomes another one
  pub set-base : (leaving : Bool) (s : TrussState) (place : ℕ) (u : Traced) → place < length s.traced
      → Each FilesAre s.traced → EachBut (Rests leaving) s.traced place → FilesAre u → Rests leaving u
      → Base leaving (with_traced s place u)
  set-base leaving s place u within files rests its rest = record {
    files = each-set FilesAre s.traced place u within (each-but FilesAre s.traced place files) its;
    rests = each-set (Rests leaving) s.traced place u within rests rest;
  }

  -- ---- stops

  -- While truss leaves, the stop that it looks at is one of the first process.
  pub over-keeps : (u v : TrussState) (place : ℕ) (pid : Option ℕ) → place < length u.traced
      → (u.leaving ≡ true → place ≡ 0) → IsAttached (traced_at u place) → Base u.leaving u → StopOver u place pid v
      → Keeps v
  over-keeps u v place pid within first w b (step.runs off) = to u (Running place) b off b.rests tt tt
  over-keeps u v place pid within first w b (step.leaves on) = closing-keeps u place within b
  over-keeps u v place pid within first w b (step.opens_child {pid = child} off) =
      to u (OpeningChildControl place child) b off b.rests tt tt
  over-keeps u v place pid within first w b (step.frees_child {pid = child} on) =
      to u (FreeingChild child freeing.OpenControl) b on b.rests
      (subst (λ n. IsAttached (at_place u.traced n)) (first on) w) tt

  pub reported-base : (leaving : Bool) (s : TrussState) (report : Report) → Base leaving s
      → Base leaving (with_report s report)
  reported-base leaving s report b = record { files = b.files; rests = b.rests }

  -- the same files are open
  pub still-files : (u : Traced) (attached : Bool) (old : ℕ) (seen : Bool) → FilesAre u
      → FilesAre (record u { attached = attached; old = old; seen = seen })
  still-files u attached old seen f =
      record { control = f.control; status = f.status; lstatus = f.lstatus; memory = f.memory }

-- what holds of a child that is set free follows from another fact of it
pub freed-weaker : (P Q : ℕ → File → Mode → ℕ → Type 0) (stage : Stage)
    → ((pid control : ℕ) → of_stage pid control stage ≡ 1 → P pid file.Ctl WriteExcl control
    → Q pid file.Ctl WriteExcl control) → FreedIs P stage → FreedIs Q stage
freed-weaker P Q (FreeingChild pid (freeing.SetRelease control)) weaker p =
    weaker pid control (freed-once pid control) p
freed-weaker P Q (FreeingChild pid (freeing.Close control)) weaker p = weaker pid control (freed-once pid control) p
freed-weaker P Q _ weaker p = tt
