use Rattle.std.proofs.Common.{◌≡◌, ◌≢◌, ◌<◌, ℕ, true, false, cond, is_some, Option, Some, None, List, [], ◌∷◌, ◌++◌, length, refl, sym, subst, ap, arith}
use Rattle.std.proofs.lemmas.List.{get_or_push}
use Rattle.std.proofs.lemmas.Option.{none-some, same_Some}
use Rattle.std.specs.List.{slice_get}
use Rattle.std.specs.Option.{option_and_then}
use Rattle.pr_line.specs.declared.events.Event.{Event}
use Rattle.pr_line.specs.declared.options.Options.{Options}
use Rattle.pr_model.specs.Replies.{bytes_in, handle_in}
use Rattle.pr_model.specs.declared.calls.Reply.{Reply}
use Rattle.pr_rec.specs.declared.lwps.LwpStatus.{LwpStatus}
use Rattle.pr_report_laws.proofs.Invariant.StandLemmas.{Each, EachBut, each-append, each-but, each-remove, each-set}
pub use Rattle.pr_report_laws.proofs.Replies.OpeningParts.{learnt-pid}
use Rattle.pr_truss.specs.Asides.{marks_at}
use Rattle.pr_truss.specs.FunctionEvents.{fresh_event, function_event}
use Rattle.pr_truss.specs.FunctionFeeding.{fed_functions}
use Rattle.pr_truss.specs.Marks.{first_function, has_functions, no_marks}
use Rattle.pr_truss.specs.Openings.{learnt}
use Rattle.pr_truss.specs.Processes.{newly_traced, without_last}
use Rattle.pr_truss.specs.Records.{status_lwp}
use Rattle.pr_truss.specs.Replies.{answer_of}
use Rattle.pr_truss.specs.Trusses.{TrussState, first_of_program, first_truss, idle, nobody, opening_or, traced_at}
use Rattle.pr_truss.specs.declared.asides.Aside.TheVariants.{Nothing, Planting, Patching}
use Rattle.pr_truss.specs.declared.asides.Aside.{Aside}
use Rattle.pr_truss.specs.declared.marks.Marks.{Marks}
use Rattle.pr_truss.specs.declared.processes.Traced.{Traced}
use Rattle.pr_truss.specs.declared.replies.Answer.TheVariants.{Accepted, Interrupted}
use Rattle.pr_truss.specs.declared.stages.OpeningStep.TheVariants as opening
use Rattle.pr_truss.specs.declared.stages.OpeningStep.{OpeningStep}
use Rattle.pr_truss.specs.declared.stages.Stage.TheVariants.{OpeningControl, ReadingStatus, Running, Closing}
use Rattle.pr_truss.specs.declared.stages.Stage.{Stage}
use Rattle.pr_truss_laws.proofs.Files.HeldLemmas.{at_place}
use Rattle.pr_truss_laws.proofs.Replies.ReplySteps.{lost-same}
pub use Rattle.pr_function_laws.proofs.Marks.MarkWalk.{planted_after}
use Rattle.pr_function_laws.proofs.Marks.MarkWalk.{marks_then}
use Rattle.pr_function_hides.proofs.Replies.FunctionSteps.{Becomes, Edits, Keeps, Makes, becomes, counts, fed-makes, keeps, learns, loses, makes, meets, opens, patches_one, plants_first, removes, runs}
use Rattle.pr_function_hides.proofs.Replies.OwnFiles.{IsBeside, IsWithin}

-- What a reply makes of the breakpoints that are planted.

-- ---- a process keeps its id and its marks

pub learnt-marks : (t : Traced) (r : Reply) (step : OpeningStep) → (learnt t r step).marks ≡ t.marks
unfolding learnt
learnt-marks t r opening.OpenStatus = refl
learnt-marks t r _ = refl

pub lost-marks : (t u : Traced) → without_last t ≡ Some u → u.marks ≡ t.marks
unfolding without_last
lost-marks t u is = by t.memory t.lstatus t.status is
  where
    by : (memory lstatus status : Option ℕ)
        → cond (is_some memory) (Some (record t { memory = None }))
        (cond (is_some lstatus) (Some (record t { lstatus = None }))
        (cond (is_some status) (Some (record t { status = None })) None)) ≡ Some u → u.marks ≡ t.marks
    by (Some m) lstatus status found = ap (λ (x : Traced). x.marks) (sym (same_Some _ u found))
    by None (Some l) status found = ap (λ (x : Traced). x.marks) (sym (same_Some _ u found))
    by None None (Some f) found = ap (λ (x : Traced). x.marks) (sym (same_Some _ u found))
    by None None None found = absurd (none-some u found)

-- ---- what is so of the marks of each process

module _ (Q : ℕ → Marks → Type 0) where
  abbrev pub So : Traced → Type 0
  So v = Q v.pid v.marks

  -- ---- what the call has made so, before truss takes its reply

  abbrev pub LeftSo : Option Traced → Traced → Type 0
  LeftSo None u = Unit {0}
  LeftSo (Some v) u = Q u.pid u.marks

  -- what the status of the process at a place tells: it is so of the marks with that event
  abbrev pub TellsFit : TrussState → Reply → ℕ → Type 0
  TellsFit t r q =
      (l : LwpStatus) (e : Event) → answer_of r ≡ Accepted → option_and_then status_lwp (bytes_in r) ≡ Some l
      → fresh_event (traced_at t q) l ≡ Some e
      → Q (traced_at t q).pid (marks_then (marks_at t q) l (function_event t.options (marks_at t q) l.id e))

  abbrev pub AfterStage : TrussState → Reply → Stage → Type 0
  AfterStage t r (OpeningControl pid) = Each So t.traced × (answer_of r ≡ Accepted → Q pid no_marks)
  AfterStage t r (ReadingStatus q) = Each So t.traced × TellsFit t r q
  AfterStage t r (Running q) =
      EachBut So t.traced q × Q (traced_at t q).pid (record (marks_at t q) { flags = 0 })
  AfterStage t r (Closing q next) =
      EachBut So t.traced q × LeftSo (without_last (traced_at t q)) (traced_at t q)
  AfterStage t r stage = Each So t.traced

  -- what the reply leaves planted in the process at this place
  abbrev pub NowSo : TrussState → Reply → ℕ → Option ℕ → Option ℕ → Type 0
  NowSo t r q plant lift =
      Q (traced_at t q).pid
      (record (marks_at t q) { planted = planted_after (marks_at t q).planted (answer_of r) plant lift })

  abbrev pub AfterAt : TrussState → Reply → Aside → Stage → Type 0
  AfterAt t r Nothing stage = AfterStage t r stage
  AfterAt t r (Planting q function) stage = EachBut So t.traced q × NowSo t r q (Some function) None
  AfterAt t r (Patching q plants lifts clear) stage =
      EachBut So t.traced q × NowSo t r q (first_function plants) (first_function lifts)
  AfterAt t r aside stage = Each So t.traced

  abbrev pub AfterAside : TrussState → Reply → Aside → Type 0
  AfterAside t r aside = AfterAt t r aside t.stage

  module _ (t : TrussState) (r : Reply) where
    keeps-so : (aside : Aside) (stage : Stage) → Keeps aside stage → AfterAt t r aside stage → Each So t.traced
    keeps-so Nothing (OpeningControl pid) fits w = w.0
    keeps-so Nothing (ReadingStatus q) fits w = w.0
    keeps-so Nothing (Running q) fits w = absurd fits
    keeps-so Nothing (Closing q next) fits w = absurd fits
    keeps-so Nothing _ fits w = w
    keeps-so (Planting q function) stage fits w = absurd fits
    keeps-so (Patching q plants lifts clear) stage fits w = absurd fits
    keeps-so _ stage fits w = w

    -- of a process that is another one, and of all others
    become-so : (aside : Aside) (stage : Stage) (p : ℕ) (u : Traced) → p < length t.traced
        → Becomes t r aside stage p u → AfterAt t r aside stage → EachBut So t.traced p × So u
    become-so aside stage p u within (learns {q = q} {step = step} _) w = (
      each-but So t.traced q w,
      subst (λ n. Q n u.marks) (sym (learnt-pid (traced_at t q) r step))
          (subst (Q (traced_at t q).pid) (sym (learnt-marks (traced_at t q) r step)) (w q within)),
    )
    become-so aside stage p u within (counts {q = q}) w = (each-but So t.traced q w.0, w.0 q within)
    become-so aside stage p u within (meets {q = q} {l = l} {e = e} tells) w = (
      each-but So t.traced q w.0,
      subst (λ kind. Q (traced_at t q).pid (marks_then (marks_at t q) l kind)) tells.is
          (w.1 l e tells.accepted tells.told tells.fresh),
    )
    become-so aside stage p u within runs w = w
    become-so aside stage p u within (loses {q = q} is) w = (
      w.0,
      subst (λ n. Q n u.marks) (sym (let same = lost-same (traced_at t q) u is in same.pid))
          (subst (Q (traced_at t q).pid) (sym (lost-marks (traced_at t q) u is))
          (subst (λ v. LeftSo v (traced_at t q)) is w.1)),
    )
    become-so aside stage p u within (plants_first {q = q} set) w =
        (w.0, subst (λ now. Q (traced_at t q).pid (record (marks_at t q) { planted = now })) set w.1)
    become-so aside stage p u within (patches_one {q = q} set) w =
        (w.0, subst (λ now. Q (traced_at t q).pid (record (marks_at t q) { planted = now })) set w.1)

    edits-so : (aside : Aside) (stage : Stage) (us : List Traced) → Edits t r aside stage us → AfterAt t r aside stage
        → Each So us
    unfolding newly_traced
    edits-so aside stage us (keeps fits) w = keeps-so aside stage fits w
    edits-so aside stage us (becomes {q = q} {u = u} within it) w =
        let x = become-so aside stage q u within it w in each-set So t.traced q u within x.0 x.1
    edits-so aside stage us (opens {pid = pid} accepted) w =
        let u : Traced = newly_traced pid (handle_in r) in
        let last : at_place (t.traced ++ u ∷ []) (length t.traced) ≡ u =
        get_or_push t.traced u nobody (length t.traced) refl in
        each-append So t.traced u w.0 (subst So (sym last) (w.1 accepted))
    edits-so aside stage us (removes {q = q} within none) w = each-remove So t.traced q within w.0

    steps-so : (v : TrussState) → Makes t r t.aside t.stage v → AfterAside t r t.aside → Each So v.traced
    steps-so v (makes {us = us} edits before s) w =
        subst (Each So) (sym s.traced) (edits-so t.aside t.stage us edits w)

    pub fed-so : t.leaving ≡ false → t.options.follow ≡ false → IsWithin (length t.traced) t.stage
        → IsBeside (length t.traced) t.aside → answer_of r ≢ Interrupted → has_functions t.options ≡ true
        → AfterAside t r t.aside → Each So (fed_functions t r).traced
    fed-so off follow at_stage at_aside calm has w =
        steps-so (fed_functions t r) (fed-makes t r off follow at_stage at_aside calm has) w

-- ---- before the first call nothing is traced

module _ (Q : Traced → Type 0) where
  abbrev Each_so : List Traced → Type 0
  Each_so ts = Each Q ts

  none-each : Each_so []
  none-each q within = absurd (omega (arith, within))

  first-pid : (o : Options) (pid : Option ℕ) → Each_so (opening_or (idle o) (idle o) pid).traced
  first-pid o None = none-each
  first-pid o (Some pid) = none-each

  first-program : (o : Options) (program : Option (List ℕ)) → Each_so (first_of_program o program).traced
  first-program o None = first-pid o (slice_get o.pids 0)
  first-program o (Some program) = none-each

  pub first-so-truss : (o : Options) → Each_so (first_truss o).traced
  unfolding first_truss
  first-so-truss o = first-program o o.program
