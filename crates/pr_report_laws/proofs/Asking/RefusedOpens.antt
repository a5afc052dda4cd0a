use Rattle.std.proofs.Common.{◌≡◌, ◌==◌, ◌⊎◌, ◌++◌, ℕ, Bool, true, false, Option, Some, List, [], ◌∷◌, refl, sym, subst, ap, ◌∙◌, inl, inr}
use Rattle.std.proofs.lemmas.Bool.{cases_Bool, eqb-true, false≢true}
use Rattle.std.proofs.lemmas.Option.{same_Some}
use Rattle.pr_line.specs.declared.options.Options.{Options}
use Rattle.pr_model.specs.State.{TracedState}
use Rattle.pr_model.specs.declared.calls.Call.{Call}
use Rattle.pr_model.specs.declared.calls.File.TheVariants.{Lstatus, Mem, Status}
use Rattle.pr_model.specs.declared.events.Entry.{Entry}
use Rattle.pr_num.specs.declared.errnos.Errno.{Errno}
use Rattle.pr_truss.specs.Children.{with_child_answered, with_child_started}
use Rattle.pr_truss.specs.Feeding.{fed, with_reply}
use Rattle.pr_truss.specs.NextCalls.{call_of, child_call, freeing_call, next_call_of, open_control, open_file}
use Rattle.pr_truss.specs.Replies.{answer_of}
use Rattle.pr_truss.specs.Trusses.{TrussState, traced_at, with_report}
use Rattle.pr_truss.specs.declared.replies.Answer.{Answer}
use Rattle.pr_truss.specs.declared.replies.Answer.TheVariants.{Accepted, Interrupted, Gone, Refused}
use Rattle.pr_truss.specs.declared.reports.Report.TheVariants.{CannotStart, CannotTrace}
use Rattle.pr_truss.specs.declared.stages.AfterClosing.{AfterClosing}
use Rattle.pr_truss.specs.declared.stages.ChildStep.{ChildStep}
use Rattle.pr_truss.specs.declared.stages.ChildStep.TheVariants as child
use Rattle.pr_truss.specs.declared.stages.FreeingStep.TheVariants as freeing
use Rattle.pr_truss.specs.declared.stages.Stage.{Stage}
use Rattle.pr_truss.specs.declared.stages.Stage.TheVariants.{OpeningControl, OpeningChildControl, OpeningChild, FreeingChild}
use Rattle.pr_truss_laws.proofs.Replies.FedSteps.{fed-step}
use Rattle.pr_truss_laws.proofs.Replies.ReplySteps as step
use Rattle.pr_truss_laws.proofs.Replies.ReplySteps.{Closes, Looks, ReplyStep, Returns, Settles, on-staged, over-staged}
use Rattle.pr_truss_laws.specs.Exchanges.{Exchange, exchanges, truss_at}
use Rattle.pr_truss_laws.specs.Runs.{IsTrussRun}
use Rattle.pr_report_laws.proofs.Asking.HeldRefused.{other-more}
use Rattle.pr_report_laws.proofs.Files.FileSteps.{MakesNext, makes-next}
use Rattle.pr_report_laws.proofs.Files.WatchHistories.{truss_at-push}
use Rattle.pr_report_laws.proofs.OwnFiles.OpenPlaces.{Knows, known}
use Rattle.pr_report_laws.proofs.Watching.HistoryParts.{front-run, rest-makes}
use Rattle.pr_report_laws.specs.HeldRefusals.{MayTellRefusal, TellsRefusalsOfOpens, as_child, as_given, opens, refusals_of}
use Rattle.pr_report_laws.specs.LaterSends.{WasJustOpened}
use Rattle.pr_report_laws.specs.Watching.{with_exchange}

-- By which calls truss is told that it cannot trace a process.

-- no refusal of the last call of an opening of a child is reported
abbrev is_start : Stage → Bool
is_start (OpeningChild parent place child.Start) = true
is_start _ = false

module _ (k : ℕ) (o : Options) (pid : ℕ) (before : List Entry) (x : Exchange)
    (next : next_call_of (truss_at k o before) ≡ Some x.call) where
  abbrev t : TrussState
  t = truss_at k o before

  abbrev xs : List Exchange
  xs = exchanges k before

  -- the reports of refusals of the process stay, or this call may tell of one
  abbrev Tells : TrussState → Type 0
  Tells u = (refusals_of pid u.reports ≡ refusals_of pid t.reports) ⊎ MayTellRefusal k pid before x.call

  same : (u : TrussState) → u.reports ≡ t.reports → Tells u
  same u is = inl (ap (refusals_of pid) is)

  calls : (stage : Stage) (c : Call) → t.stage ≡ stage → call_of t stage ≡ Some c → c ≡ x.call
  unfolding next_call_of
  calls stage c at is = same_Some c x.call (sym is ∙ ap (call_of t) (sym at) ∙ next)

  -- a refusal of this process is told, by this call
  tells-of : (of : ℕ) (errno : Errno) (c : Call) → c ≡ x.call → (of ≡ pid → MayTellRefusal k pid before c)
      → Tells (with_report t (CannotTrace of errno))
  tells-of of errno c is w = elim (cases_Bool (of == pid)) [
    | inl own ↦ inr (subst (MayTellRefusal k pid before) is (w (eqb-true of pid own)))
    | inr other ↦ inl (other-more pid t.reports (CannotTrace of errno) other)
  ]

  opens-tell : (of : ℕ) (errno : Errno) (stage : Stage) → t.stage ≡ stage
      → call_of t stage ≡ Some (open_control of) → Tells (with_report t (CannotTrace of errno))
  opens-tell of errno stage at is =
      tells-of of errno (open_control of) (calls stage (open_control of) at is)
      (λ own. subst (λ p. MayTellRefusal k pid before (open_control p)) (sym own) opens)

  settles-tells : (stage : Stage) (given : Bool) (u : TrussState) → t.stage ≡ stage → Settles t x.reply stage given u
      → Tells u
  unfolding call_of
  settles-tells stage given u at (step.refuses_control {pid = of} errno _) =
      opens-tell of errno (OpeningControl of) at refl
  settles-tells stage given u at (step.refuses_start {program = program} errno _) =
      inl (other-more pid t.reports (CannotStart program errno) refl)
  settles-tells stage given u at (step.interrupts_text _ _) = inl (other-more pid t.reports _ refl)
  settles-tells stage given u at _ = inl refl

  looks-tells : (stage : Stage) (place : ℕ) (child : Option ℕ) (u : TrussState) → Looks t x.reply stage place child u
      → Tells u
  looks-tells stage place child u (step.shows _ _ _ _) = inl (other-more pid t.reports _ refl)
  looks-tells stage place child u step.shows_text = inl (other-more pid t.reports _ refl)
  looks-tells stage place child u _ = inl refl

  -- a call of the opening of a child
  child-tells : (parent place : ℕ) (now : ChildStep) (errno : Errno) → t.stage ≡ OpeningChild parent place now
      → is_start (OpeningChild parent place now) ≡ false
      → Knows o xs t.leaving t.traced (OpeningChild parent place now)
      → Tells (with_report t (CannotTrace (traced_at t place).pid errno))
  unfolding call_of child_call
  child-tells parent place child.SetRelease errno at plain w =
      tells-of (traced_at t place).pid errno _ (calls (OpeningChild parent place child.SetRelease) _ at refl)
      (λ own. as_child (subst (λ p. WasJustOpened p (traced_at t place).control xs) own w))
  child-tells parent place child.OpenStatus errno at plain w =
      tells-of (traced_at t place).pid errno _ (calls (OpeningChild parent place child.OpenStatus) _ at refl)
      (λ own. subst (λ p. MayTellRefusal k pid before (open_file p Status)) (sym own) opens)
  child-tells parent place child.OpenLstatus errno at plain w =
      tells-of (traced_at t place).pid errno _ (calls (OpeningChild parent place child.OpenLstatus) _ at refl)
      (λ own. subst (λ p. MayTellRefusal k pid before (open_file p Lstatus)) (sym own) opens)
  child-tells parent place child.OpenMemory errno at plain w =
      tells-of (traced_at t place).pid errno _ (calls (OpeningChild parent place child.OpenMemory) _ at refl)
      (λ own. subst (λ p. MayTellRefusal k pid before (open_file p Mem)) (sym own) opens)
  child-tells parent place child.Start errno at plain w = absurd (false≢true (sym plain))

  closes-tells : (stage : Stage) (place : ℕ) (after : AfterClosing) (u : TrussState) → t.stage ≡ stage
      → is_start stage ≡ false → Knows o xs t.leaving t.traced stage → Closes t x.reply stage place after u → Tells u
  unfolding call_of freeing_call
  closes-tells stage place after u at plain w (step.text_ended _) = inl (other-more pid t.reports _ refl)
  closes-tells stage place after u at plain w (step.refuses_free {pid = of} errno _) =
      opens-tell of errno (FreeingChild of freeing.OpenControl) at refl
  closes-tells stage place after u at plain w (step.refuses_opening errno _) = inr (as_given w.0)
  closes-tells stage place after u at plain w (step.refuses_child {parent = parent} {now = now} errno _) =
      child-tells parent place now errno at plain w
  closes-tells stage place after u at plain w _ = inl refl

  returns-tells : (stage : Stage) (parent : ℕ) (u : TrussState) → t.stage ≡ stage → Returns t x.reply stage parent u
      → Tells u
  unfolding call_of
  returns-tells stage parent u at (step.refuses_child_control {pid = of} errno _) =
      opens-tell of errno (OpeningChildControl parent of) at refl
  returns-tells stage parent u at _ = inl refl

  step-tells : (stage : Stage) (v : TrussState) → t.stage ≡ stage → is_start stage ≡ false
      → Knows o xs t.leaving t.traced stage → ReplyStep t x.reply stage v → Tells v
  step-tells stage v at plain w (step.settles {u = u} given goes) =
      let z = on-staged goes in
      subst (λ rs. (refusals_of pid rs ≡ refusals_of pid t.reports) ⊎ MayTellRefusal k pid before x.call)
      (sym z.reports) (settles-tells stage _ u at given)
  step-tells stage v at plain w (step.looks {u = u} looked over) =
      let z = over-staged over in
      subst (λ rs. (refusals_of pid rs ≡ refusals_of pid t.reports) ⊎ MayTellRefusal k pid before x.call)
      (sym z.reports) (looks-tells stage _ _ u looked)
  step-tells stage v at plain w (step.closes {place = place} {next = after} {u = u} closed) =
      closes-tells stage place after u at plain w closed
  step-tells stage v at plain w (step.returns {parent = parent} {u = u} returned) =
      returns-tells stage parent u at returned
  step-tells stage v at plain w _ = inl refl

  -- the PCRUN of a child
  start-same : (parent place : ℕ) (a : Answer) → (with_child_started t parent place a).reports ≡ t.reports
  unfolding with_child_started
  start-same parent place Accepted = refl
  start-same parent place (Refused errno) = refl
  start-same parent place Interrupted = refl
  start-same parent place Gone = refl

  started : (stage : Stage) → is_start stage ≡ true → (with_reply t x.reply stage).reports ≡ t.reports
  unfolding with_reply with_child_answered
  started (OpeningChild parent place child.Start) is = start-same parent place (answer_of x.reply)
  started (OpeningChild parent place child.SetRelease) is = absurd (false≢true is)
  started (OpeningChild parent place child.OpenStatus) is = absurd (false≢true is)
  started (OpeningChild parent place child.OpenLstatus) is = absurd (false≢true is)
  started (OpeningChild parent place child.OpenMemory) is = absurd (false≢true is)
  started _ is = absurd (false≢true is)

  pub fed-tells : Knows o xs t.leaving t.traced t.stage → Tells (fed t x.reply)
  unfolding fed
  fed-tells w = elim (cases_Bool (is_start t.stage)) [
    | inl on ↦ same (fed t x.reply) (started t.stage on)
    | inr off ↦ step-tells t.stage (fed t x.reply) refl off w (fed-step t x.reply)
  ]

pub tells-of-opens : (n k : ℕ) (o : Options) (first : TracedState) (h : List Entry) → IsTrussRun n k o first h
    → TellsRefusalsOfOpens k o h
tells-of-opens n k o first h run = record {
  each = λ before later e x pid is own.
      let all : IsTrussRun n k o first (before ++ e ∷ later) = subst (IsTrussRun n k o first) is run in
      let front = front-run n k o first before (e ∷ later) all in
      let t : TrussState = truss_at k o before in
      let m = makes-next k t e later (rest-makes n k o first before (e ∷ later) all) in
      let next : next_call_of t ≡ Some x.call = subst (MakesNext t) own m.0 in
      let fed_is : truss_at k o (before ++ e ∷ []) ≡ fed t x.reply =
      truss_at-push k o before e ∙ ap (with_exchange t) own in
      subst (λ (u : TrussState). (refusals_of pid u.reports ≡ refusals_of pid t.reports)
      ⊎ MayTellRefusal k pid before x.call) (sym fed_is)
      (fed-tells k o pid before x next (known o (exchanges k before) front.makes));
}

pub ruleset refused_opens = (tells-of-opens)
