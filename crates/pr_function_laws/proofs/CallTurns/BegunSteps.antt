use Rattle.std.proofs.Common.{zero, suc, Bool, ◌≡◌, ◌≢◌, ◌<◌, ◌++◌, ◌⊎◌, ℕ, true, false, Option, Some, None, List, [], ◌∷◌, length, refl, sym, subst, ap, ◌∙◌, inl, inr, arith}
use Rattle.std.proofs.lemmas.Bool.{cases_eq}
use Rattle.std.proofs.lemmas.List.Elements.{All-head, All-tail}
use Rattle.std.proofs.lemmas.Option.{none-some, same_Some}
use Rattle.std.specs.List.{All, cons_option, slice_get}
use Rattle.pr_line.specs.declared.options.Options.{Options}
use Rattle.pr_model.specs.Legal.{state_after}
use Rattle.pr_model.specs.State.{TracedState, live_process}
use Rattle.pr_model.specs.declared.calls.Reply.{Reply}
use Rattle.pr_model.specs.declared.events.Entry.{Entry}
use Rattle.pr_report_laws.proofs.Invariant.StandLemmas.{Each, EachBut}
use Rattle.pr_truss.specs.FunctionEvents.{step_of}
use Rattle.pr_truss.specs.FunctionFeeding.{fed_functions}
use Rattle.pr_truss.specs.Marks.{has_functions}
use Rattle.pr_truss.specs.NextCalls.{read_record}
use Rattle.pr_truss.specs.Replies.{answer_of}
use Rattle.pr_truss.specs.Trusses.{TrussState, traced_at}
use Rattle.pr_truss.specs.declared.asides.Aside.{Aside}
use Rattle.pr_truss.specs.declared.asides.Aside.TheVariants.{Nothing, Reading, Planting, Patching}
use Rattle.pr_truss.specs.declared.marks.Stepped.{Stepped}
use Rattle.pr_truss.specs.declared.processes.Traced.{Traced}
use Rattle.pr_truss.specs.declared.replies.Answer.TheVariants.{Accepted, Interrupted}
use Rattle.pr_truss.specs.declared.stages.AfterClosing.TheVariants.{OpenNext, GoOn}
use Rattle.pr_truss.specs.declared.stages.OpeningStep.{OpeningStep}
use Rattle.pr_truss.specs.declared.stages.OpeningStep.TheVariants as opening
use Rattle.pr_truss.specs.declared.stages.Stage.{Stage}
use Rattle.pr_truss.specs.declared.stages.Stage.TheVariants.{Spawning, OpeningControl, Opening, Polling, ReadingStatus, ReadingText, Running, Closing, Finished}
use Rattle.pr_truss.specs.Openings.{learnt, step_after}
use Rattle.pr_truss.specs.Processes.{newly_traced, without_last}
use Rattle.pr_truss_laws.proofs.Files.HeldLemmas.{at_place}
use Rattle.pr_truss_laws.proofs.Replies.ReplySteps.{lost-same}
use Rattle.pr_truss_laws.specs.Exchanges.{Exchange, exchange_of, exchanges}
use Rattle.pr_function_laws.proofs.Marks.KeptLemmas.{fed-kept-where}
use Rattle.pr_function_laws.proofs.Marks.KeptPlaces.{AfterBeside, AfterStage, Apart, AtAside, AtStage, IsLastingWhere, Kept, LeftHas, Position, apart-at, closes, kept-weaker, looks, opens, planted_as, position_after, rests, runs, to_read}
use Rattle.pr_function_laws.proofs.CallTurns.StepMarks.{AreLike, IsRead}
use Rattle.pr_function_laws.proofs.CallTurns.TurnWalks.{AreNoReads}
use Rattle.pr_function_laws.specs.Lifted.{IsNoRead, MeetsBreakpoint, ReadsOnlyLast}
use Rattle.pr_function_laws.specs.Opened.{functions_at}

-- Wherever truss has come to in a history, until it is interrupted: each step that is under way in a process was begun
-- where truss read that the lwp stands at the breakpoint, and it has not read the status of that process since.

-- ---- lists of exchanges

-- one exchange more, if there is one
pub quiet-push : (status : ℕ) (xs : List Exchange) (o : Option Exchange) → AreNoReads status xs
    → ((x : Exchange) → o ≡ Some x → IsNoRead status x) → AreNoReads status (xs ++ cons_option o [])
quiet-push status [] None quiet one = tt
quiet-push status [] (Some x) quiet one = (one x refl, tt)
quiet-push status (y ∷ ys) o quiet one = (quiet.0, quiet-push status ys o quiet.1 one)

pub only-last : (status : ℕ) (xs : List Exchange) (y : Exchange) → AreNoReads status xs
    → y.call ≡ read_record (Some status) → ReadsOnlyLast status (xs ++ y ∷ [])
only-last status [] y quiet reads = inr (reads, refl)
only-last status (x ∷ xs) y quiet reads = inl (quiet.0, only-last status xs y quiet.1 reads)

pub each-found : {A : Type 0} (P : A → Type 0) (xs : List A) (i : ℕ) (x : A) → All P xs → slice_get xs i ≡ Some x → P x
each-found P [] i x all is = absurd (none-some x is)
each-found P (y ∷ ys) zero x all is = subst P (same_Some y x is) (All-head P y ys all)
each-found P (y ∷ ys) (suc i) x all is = each-found P ys i x (All-tail P y ys all) is

-- ---- the status that is read next

-- the place of the process whose status truss reads next, if it reads one
abbrev pub reading_of : Aside → Stage → Option ℕ
reading_of Nothing (ReadingStatus q) = Some q
reading_of aside stage = None

abbrev pub reading_now : TrussState → Option ℕ
reading_now t = reading_of t.aside t.stage

pub reading-is : (aside : Aside) (stage : Stage) (q : ℕ) → reading_of aside stage ≡ Some q
    → (aside ≡ Nothing) × (stage ≡ ReadingStatus q)
reading-is Nothing (ReadingStatus b) q is = (refl, ap (λ i. ReadingStatus i) (same_Some b q is))
reading-is Nothing _ q is = absurd (none-some q is)
reading-is _ stage q is = absurd (none-some q is)

pub reading-at : (aside : Aside) (stage : Stage) (q : ℕ) → aside ≡ Nothing → stage ≡ ReadingStatus q
    → reading_of aside stage ≡ Some q
reading-at aside stage q idle reads = ap (λ a. reading_of a stage) idle ∙ ap (reading_of Nothing) reads

-- ---- a step that was begun

-- In a history truss read that an lwp stands at a breakpoint, of a process that has this status file, if it has one;
-- with that it began the step, and it has not read the status of that process since.
pub record WasBegun (k : ℕ) (o : Options) (h : List Entry) (pid : ℕ) (status : Option ℕ) (step : Stepped) : Type 0 where
  pub before : List Entry
  pub e : Entry
  pub between : List Entry
  pub is : h ≡ before ++ e ∷ between
  pub place : ℕ
  pub x : Exchange
  pub own : exchange_of k e ≡ Some x
  pub meets : MeetsBreakpoint (functions_at k o before) x place
  pub its_pid : (traced_at (functions_at k o before) place).pid ≡ pid
  pub its_status : (number : ℕ) → status ≡ Some number
      → (traced_at (functions_at k o before) place).status ≡ Some number
  pub its_step : step ≡ step_of meets.l meets.function
  pub quiet : (number : ℕ) → (traced_at (functions_at k o before) place).status ≡ Some number
      → AreNoReads number (exchanges k between)

-- So a step was begun, or the process has ended.
pub data IsUnderWay (k : ℕ) (o : Options) (first : TracedState) (h : List Entry) (pid : ℕ) (status : Option ℕ)
    (step : Stepped) : Type 0 where
  begun : WasBegun k o h pid status step → IsUnderWay k o first h pid status step
  ended : live_process (state_after first h).system pid ≡ None → IsUnderWay k o first h pid status step

module _ (k : ℕ) (o : Options) (first : TracedState) (h : List Entry) where
  abbrev pub Steps : Traced → Type 0
  Steps u = (step : Stepped) → u.marks.stepped ≡ Some step → IsUnderWay k o first h u.pid u.status step

  -- what is so of the step of a process, by where truss has come with it
  abbrev pub StepsAt : Position → Traced → Type 0
  StepsAt (opens step) u = u.marks.stepped ≡ None
  StepsAt rests u = Steps u
  StepsAt to_read u = Unit {0}
  StepsAt looks u = Unit {0}
  StepsAt runs u = Steps u
  StepsAt closes u = Unit {0}

  -- the same, but of one process
  abbrev StepsBut : ℕ → Position → Traced → Type 0
  StepsBut pid (opens step) u = u.marks.stepped ≡ None
  StepsBut pid rests u = u.pid ≢ pid → Steps u
  StepsBut pid to_read u = Unit {0}
  StepsBut pid looks u = Unit {0}
  StepsBut pid runs u = u.pid ≢ pid → Steps u
  StepsBut pid closes u = Unit {0}

  plants-at : (at : Position) (u : Traced) (set : List Bool) → StepsAt at u → StepsAt at (planted_as u set)
  plants-at (opens step) u set w = w
  plants-at rests u set w = w
  plants-at to_read u set w = tt
  plants-at looks u set w = tt
  plants-at runs u set w = w
  plants-at closes u set w = tt

  plants-but : (pid : ℕ) (at : Position) (u : Traced) (set : List Bool) → StepsBut pid at u
      → StepsBut pid at (planted_as u set)
  plants-but pid (opens step) u set w = w
  plants-but pid rests u set w = w
  plants-but pid to_read u set w = tt
  plants-but pid looks u set w = tt
  plants-but pid runs u set w = w
  plants-but pid closes u set w = tt

  -- where truss reads no status
  steps-lasting : IsLastingWhere StepsAt (λ (u : Traced). ⊥) (λ (pid : ℕ). Unit {0})
  steps-lasting = record {
    may_close = λ at u touched w. tt;
    reads = λ u seen w its. tt;
    may_run = λ u w seen. w;
    counts = λ u w seen some. w;
    sees = λ u m w. tt;
    meets = λ u m none w new. absurd none;
    plants = λ at u set touched. plants-at at u set;
    loosens = λ u m w. tt;
  }

  -- where it reads that of this process
  but-lasting : (pid : ℕ) → IsLastingWhere (StepsBut pid) (λ (u : Traced). u.pid ≡ pid) (λ (pid : ℕ). Unit {0})
  but-lasting pid = record {
    may_close = λ at u touched w. tt;
    reads = λ u seen w its. tt;
    may_run = λ u w seen. w;
    counts = λ u w seen some. w;
    sees = λ u m w. tt;
    meets = λ u m same w new other. absurd (other same);
    plants = λ at u set touched. plants-but pid at u set;
    loosens = λ u m w. tt;
  }

  learnt-step : (u : Traced) (r : Reply) (step : OpeningStep) → (learnt u r step).marks.stepped ≡ u.marks.stepped
  unfolding learnt
  learnt-step u r opening.OpenStatus = refl
  learnt-step u r opening.OpenLstatus = refl
  learnt-step u r opening.OpenMemory = refl
  learnt-step u r (opening.AwaitStop until) = refl
  learnt-step u r opening.ReadLwps = refl
  learnt-step u r _ = refl

  opened-steps : (next : Option OpeningStep) (u : Traced) → u.marks.stepped ≡ None → StepsAt (position_after next) u
  opened-steps None u none = λ step is. absurd (none-some step (sym none ∙ is))
  opened-steps (Some next) u none = none

  -- ---- a reply to another call than the read of a status

  module _ (t : TrussState) (r : Reply) (w : Kept StepsAt t)
      (fresh : (pid : ℕ) → t.stage ≡ OpeningControl pid → t.aside ≡ Nothing → answer_of r ≡ Accepted
      → Each (λ (u : Traced). u.pid ≢ pid) t.traced) where
    left : (v : Option Traced) (u : Traced) → without_last u ≡ v → LeftHas StepsAt v u.pid
    left None u is = tt
    left (Some v) u is = (tt, let same = lost-same u v is in same.pid)

    stage-after : t.aside ≡ Nothing → (stage : Stage) → t.stage ≡ stage → AtStage StepsAt t.traced stage
        → AfterStage StepsAt t r stage
    unfolding newly_traced
    stage-after idle (Spawning program) is all = all
    stage-after idle (OpeningControl pid) is all = (all, λ accepted. (refl, fresh pid is idle accepted))
    stage-after idle (Opening q step) is all = (
      all.0,
      (
        all.1.0,
        (
          tt,
          λ accepted. opened-steps (step_after t.options r step) (learnt (at_place t.traced q) r step)
              (learnt-step (at_place t.traced q) r step ∙ all.1.1),
        ),
      ),
    )
    stage-after idle Polling is all = (all, λ accepted handle q ready place. tt)
    stage-after idle (ReadingStatus q) is all = all
    stage-after idle (ReadingText q l from len) is all = all
    stage-after idle (Running q) is all = (all.0, (all.1.0, (tt, λ lives. all.1.1)))
    stage-after idle (Closing q OpenNext) is all =
        (all.0, (all.1.0, left (without_last (at_place t.traced q)) (at_place t.traced q) refl))
    stage-after idle (Closing q GoOn) is all =
        (all.0, (all.1.0, left (without_last (at_place t.traced q)) (at_place t.traced q) refl))
    stage-after idle Finished is all = all
    stage-after idle _ is all = absurd all

    aside-after : (aside : Aside) → t.aside ≡ aside → AtStage StepsAt t.traced t.stage
        → AtAside StepsAt t.traced aside → AfterBeside StepsAt t r aside
    aside-after Nothing is all beside = stage-after is t.stage refl all
    aside-after (Reading q function) is all beside = (all, beside)
    aside-after (Planting q function) is all beside = (all, beside)
    aside-after (Patching q plants lifts clear) is all beside = (all, beside)
    aside-after _ is all beside = absurd beside

    pub other-kept : has_functions t.options ≡ true → answer_of r ≢ Interrupted → reading_now t ≡ None
        → Kept StepsAt (fed_functions t r)
    other-kept has calm none =
        fed-kept-where StepsAt (λ (u : Traced). ⊥) (λ (pid : ℕ). Unit {0}) steps-lasting t r w.follow w.off w.apart
        calm (λ q idle reads. none-some q (sym none ∙ reading-at t.aside t.stage q idle reads)) (λ q is. tt) has
        (aside-after t.aside refl w.stage w.beside)

  -- ---- the reply to the read of a status

  module _ (t : TrussState) (x : Exchange) (q : ℕ) (follow : t.options.follow ≡ false) (off : t.leaving ≡ false)
      (apart : Apart t.traced) (idle : t.aside ≡ Nothing) (reads : t.stage ≡ ReadingStatus q)
      (within : q < length t.traced) (calm : answer_of x.reply ≢ Interrupted)
      (has : has_functions t.options ≡ true) where
    abbrev r : Reply
    r = x.reply

    abbrev pid : ℕ
    pid = (traced_at t q).pid

    but-kept : EachBut Steps t.traced q → Kept (StepsBut pid) (fed_functions t r)
    but-kept others =
        fed-kept-where (StepsBut pid) (λ (u : Traced). u.pid ≡ pid) (λ (pid : ℕ). Unit {0}) (but-lasting pid) t r
        follow off apart calm
        (λ b at_idle at_stage.
        ap (λ (i : ℕ). (traced_at t i).pid) (same_Some b q
        (sym (reading-at t.aside t.stage b at_idle at_stage) ∙ reading-at t.aside t.stage q idle reads)))
        (λ q is. tt) has
        (subst (AfterBeside (StepsBut pid) t r) (sym idle)
        (subst (AfterStage (StepsBut pid) t r) (sym reads)
        (within, ((λ j inside other. others j inside (λ same. other (ap (λ i. (at_place t.traced i).pid) same))), tt))))

    pub read-kept : EachBut Steps t.traced q → (w : IsRead t q within x has idle reads off calm (fed_functions t r))
        → Steps (traced_at (fed_functions t r) q) → Kept StepsAt (fed_functions t r)
    read-kept others w here =
        let like : AreLike t.traced q w.step (fed_functions t r).traced = w.like in
        kept-weaker (StepsBut pid) StepsAt (fed_functions t r)
        (λ j inside at. at-place like j inside at (cases_eq j q)) (but-kept others)
      where
        differ : (like_long : length (fed_functions t r).traced ≡ length t.traced) → (j : ℕ)
            → j < length (fed_functions t r).traced → j ≢ q
            → at_place (fed_functions t r).traced j ≡ at_place t.traced j
            → (at_place (fed_functions t r).traced j).pid ≢ pid
        differ long j inside other same its =
            apart-at t.traced j q (omega (arith, inside, long)) within other apart
            (ap (λ (u : Traced). u.pid) (sym same) ∙ its)

        at-place : {step : Option Stepped} → AreLike t.traced q step (fed_functions t r).traced → (j : ℕ)
            → j < length (fed_functions t r).traced → (at : Position) → (j ≡ q) ⊎ (j ≢ q)
            → StepsBut pid at (at_place (fed_functions t r).traced j)
            → StepsAt at (at_place (fed_functions t r).traced j)
        at-place like j inside (opens step) same w = w
        at-place like j inside to_read same w = tt
        at-place like j inside looks same w = tt
        at-place like j inside closes same w = tt
        at-place like j inside rests (inl same) w =
            subst (λ i. Steps (at_place (fed_functions t r).traced i)) (sym same) here
        at-place like j inside rests (inr other) w =
            w (differ like.long j inside other (like.others j other))
        at-place like j inside runs (inl same) w =
            subst (λ i. Steps (at_place (fed_functions t r).traced i)) (sym same) here
        at-place like j inside runs (inr other) w =
            w (differ like.long j inside other (like.others j other))
