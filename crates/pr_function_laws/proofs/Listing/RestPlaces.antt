use Rattle.std.proofs.Common.{◌≡◌, ◌≢◌, ◌<◌, ◌==◌, ℕ, Bool, true, false, Option, Some, None, List, length, not, refl, sym, subst, ap, ◌∙◌}
use Rattle.std.proofs.lemmas.Bool.{eqb-false, eqb-true, false≢true, ne_eqb}
use Rattle.std.proofs.lemmas.Option.{none-some, same_Some}
use Rattle.pr_model.specs.declared.calls.Reply.{Reply}
use Rattle.pr_rec.specs.declared.lwps.LwpStatus.{LwpStatus}
use Rattle.pr_report_laws.proofs.Invariant.StandLemmas.{Each, EachBut, each-but}
use Rattle.pr_truss.specs.FunctionFeeding.{fed_functions}
use Rattle.pr_truss.specs.Marks.{has_functions}
use Rattle.pr_truss.specs.Openings.{learnt, step_after}
use Rattle.pr_truss.specs.Processes.{newly_traced, without_last}
use Rattle.pr_truss.specs.Replies.{answer_of}
use Rattle.pr_truss.specs.Trusses.{TrussState, traced_at}
use Rattle.pr_truss.specs.declared.asides.Aside.{Aside}
use Rattle.pr_truss.specs.declared.asides.Aside.TheVariants.{Nothing, Reading, Planting, Patching}
use Rattle.pr_truss.specs.declared.processes.Traced.{Traced}
use Rattle.pr_truss.specs.declared.replies.Answer.TheVariants.{Accepted, Interrupted}
use Rattle.pr_truss.specs.declared.stages.AfterClosing.{AfterClosing}
use Rattle.pr_truss.specs.declared.stages.AfterClosing.TheVariants.{OpenNext, GoOn}
use Rattle.pr_truss.specs.declared.stages.OpeningStep.{OpeningStep}
use Rattle.pr_truss.specs.declared.stages.OpeningStep.TheVariants as opening
use Rattle.pr_truss.specs.declared.stages.Stage.{Stage}
use Rattle.pr_truss.specs.declared.stages.Stage.TheVariants.{Spawning, OpeningControl, Opening, Polling, ReadingStatus, ReadingText, Running, Closing, Finished}
use Rattle.pr_truss_laws.proofs.Files.HeldLemmas.{at_place}
use Rattle.pr_truss_laws.proofs.Replies.ReplySteps.{lost-same}
use Rattle.pr_function_laws.proofs.Listing.BusyStages.{is_busy, is_reading, reading-busy}
use Rattle.pr_function_laws.proofs.Marks.KeptLemmas.{fed-kept-where}
use Rattle.pr_function_laws.proofs.Marks.KeptPlaces.{AfterBeside, AfterStage, Apart, AtAside, AtStage, IsLastingWhere, Kept, LeftHas, Position, Whole, apart-at, closes, looks, opens, planted_as, position_after, rests, runs, subject, subject_of, to_read}
use Rattle.pr_function_laws.proofs.OrdinaryTruss.OrdinaryStops.{FitsAside, IsLookedAt, IsOpenedAt, patch-looked}
use Rattle.pr_function_laws.proofs.Pending.PendingPlaces.{learnt-pid}
use Rattle.pr_function_laws.proofs.Pending.PendingWalk.{is_to_run}
use Rattle.pr_function_laws.specs.OneEvent.{is_looked_at}
use Rattle.pr_function_laws.specs.Opened.{is_opened}

-- How a process came to rest: it rested before the reply and was not read, or it was run then.

-- Truss has opened the process at a place, does not close its files, and has not read a stop of it that it has not run
-- yet; and no stop is left that stood before truss came.
pub record RestsAt (t : TrussState) (pid place : ℕ) : Type 0 where
  pub within : place < length t.traced
  pub its : (traced_at t place).pid ≡ pid
  pub opened : is_opened t.stage place ≡ true
  pub away : is_to_run t.stage place ≡ false
  pub new : (traced_at t place).old ≡ 0

-- the process that an exchange is about
abbrev pub subject_pid : TrussState → Stage → ℕ
subject_pid t (OpeningControl number) = number
subject_pid t (Opening q step) = (traced_at t q).pid
subject_pid t (ReadingStatus q) = (traced_at t q).pid
subject_pid t (ReadingText q l from len) = (traced_at t q).pid
subject_pid t (Running q) = (traced_at t q).pid
subject_pid t (Closing q next) = (traced_at t q).pid
subject_pid t _ = 0

-- why a process rests behind a reply
pub data Cause (t : TrussState) (r : Reply) (pid : ℕ) : Type 0 where
  rested : (place : ℕ) → RestsAt t pid place → is_looked_at t.stage place ≡ false → Cause t r pid
  ran : (place : ℕ) → place < length t.traced → t.aside ≡ Nothing → t.stage ≡ Running place
      → (traced_at t place).pid ≡ pid → (traced_at t place).old ≡ 0 → Cause t r pid
  begun : (place : ℕ) (step : OpeningStep) → place < length t.traced → t.aside ≡ Nothing
      → t.stage ≡ Opening place step → step_after t.options r step ≡ None → answer_of r ≡ Accepted
      → (traced_at t place).pid ≡ pid → (learnt (traced_at t place) r step).old ≡ 0 → Cause t r pid
  read : is_reading t.stage ≡ true → pid ≡ subject_pid t t.stage → Cause t r pid

module _ (t : TrussState) (r : Reply) (pid : ℕ) where
  abbrev pub about : ℕ
  about = subject_pid t t.stage

  abbrev Came : Position → Traced → Type 0
  Came (opens step) u = u.pid ≡ about
  Came rests u = u.pid ≡ pid → u.old ≡ 0 → Cause t r pid
  Came to_read u = Unit {0}
  Came looks u = u.pid ≡ about
  Came runs u = u.pid ≡ about
  Came closes u = u.pid ≡ about

  came-planted : (at : Position) (u : Traced) (set : List Bool) → u.pid ≡ about → Came at u → Came at (planted_as u set)
  came-planted (opens step) u set its w = w
  came-planted rests u set its w = w
  came-planted to_read u set its w = tt
  came-planted looks u set its w = w
  came-planted runs u set its w = w
  came-planted closes u set its w = w

  came-lasting : IsLastingWhere Came (λ (u : Traced). u.pid ≡ about) (λ (other : ℕ). other ≡ about)
  came-lasting = record {
    may_close = λ at u its w. its;
    reads = λ u its w named. its;
    may_run = λ u w its. its;
    counts = λ u w its some. its;
    sees = λ u m its. its;
    meets = λ u m its w new same none. w same none;
    plants = came-planted;
    loosens = λ u m w. w;
  }

  module _ (P : Position → Traced → Type 0) (kept : Kept P t) (fits : FitsAside t.aside t.stage)
      (fresh : (number : ℕ) → t.stage ≡ OpeningControl number → t.aside ≡ Nothing → answer_of r ≡ Accepted
      → Each (λ (u : Traced). u.pid ≢ number) t.traced) where
    abbrev ts : List Traced
    ts = t.traced

    at-subject : (stage : Stage) → t.stage ≡ stage → subject_pid t stage ≡ about
    at-subject stage is = ap (subject_pid t) (sym is)

    -- a process that rests
    rests-so : (j : ℕ) → j < length ts → (stage : Stage) → t.stage ≡ stage → is_opened stage j ≡ true
        → is_to_run stage j ≡ false → is_looked_at stage j ≡ false → Came rests (at_place ts j)
    rests-so j inside stage is opened unrun away same new =
        rested j (record {
          within = inside;
          its = same;
          opened = ap (λ st. is_opened st j) is ∙ opened;
          away = ap (λ st. is_to_run st j) is ∙ unrun;
          new = new;
        }) (ap (λ st. is_looked_at st j) is ∙ away)

    -- one of which something was read
    read-so : (q j : ℕ) (stage : Stage) → t.stage ≡ stage → is_reading stage ≡ true → (q == j) ≡ true
        → (traced_at t q).pid ≡ about → Came rests (at_place ts j)
    read-so q j stage is reading one its same new =
        read (ap is_reading is ∙ reading)
        (sym same ∙ ap (λ i. (at_place ts i).pid) (sym (eqb-true q j one)) ∙ its)

    -- all but the one that the stage is about
    whole : (stage : Stage) → t.stage ≡ stage → ((j : ℕ) → is_opened stage j ≡ true)
        → ((j : ℕ) → is_to_run stage j ≡ false) → ((j : ℕ) → is_looked_at stage j ≡ false) → Whole Came ts
    whole stage is opened unrun away j inside = rests-so j inside stage is (opened j) (unrun j) (away j)

    not-so : (q j : ℕ) → j ≢ q → (q == j) ≡ false
    not-so q j other = ne_eqb q j (λ same. other (sym same))

    opening-but : (q : ℕ) (step : OpeningStep) → t.stage ≡ Opening q step → EachBut (Came rests) ts q
    opening-but q step is j inside other =
        rests-so j inside (Opening q step) is (ap not (not-so q j other)) refl refl

    closing-but : (q : ℕ) (next : AfterClosing) → t.stage ≡ Closing q next → EachBut (Came rests) ts q
    closing-but q next is j inside other =
        rests-so j inside (Closing q next) is (ap not (not-so q j other)) refl refl

    running-but : (q : ℕ) → t.stage ≡ Running q → EachBut (Came rests) ts q
    running-but q is j inside other =
        rests-so j inside (Running q) is refl (not-so q j other) (not-so q j other)

    reading-whole : (q : ℕ) → t.stage ≡ ReadingStatus q → Whole Came ts
    reading-whole q is j inside = by (q == j) refl
      where
        by : (b : Bool) → (q == j) ≡ b → Came rests (at_place ts j)
        by true one = read-so q j (ReadingStatus q) is refl one (at-subject (ReadingStatus q) is)
        by false other = rests-so j inside (ReadingStatus q) is refl refl other

    text-whole : (q : ℕ) (l : LwpStatus) (from len : ℕ) → t.stage ≡ ReadingText q l from len → Whole Came ts
    text-whole q l from len is j inside = by (q == j) refl
      where
        by : (b : Bool) → (q == j) ≡ b → Came rests (at_place ts j)
        by true one = read-so q j (ReadingText q l from len) is refl one (at-subject (ReadingText q l from len) is)
        by false other = rests-so j inside (ReadingText q l from len) is refl other other

    -- ---- before the reply

    stage-came : (stage : Stage) → t.stage ≡ stage → AtStage P ts stage → AtStage Came ts stage
    stage-came (Spawning program) is w = whole (Spawning program) is (λ j. refl) (λ j. refl) (λ j. refl)
    stage-came (OpeningControl number) is w = whole (OpeningControl number) is (λ j. refl) (λ j. refl) (λ j. refl)
    stage-came (Opening q step) is w = (w.0, (opening-but q step is, at-subject (Opening q step) is))
    stage-came Polling is w = whole Polling is (λ j. refl) (λ j. refl) (λ j. refl)
    stage-came (ReadingStatus q) is w = (w.0, (reading-whole q is, tt))
    stage-came (ReadingText q l from len) is w =
        (w.0, (text-whole q l from len is, at-subject (ReadingText q l from len) is))
    stage-came (Running q) is w = (w.0, (running-but q is, at-subject (Running q) is))
    stage-came (Closing q OpenNext) is w = (w.0, (closing-but q OpenNext is, at-subject (Closing q OpenNext) is))
    stage-came (Closing q GoOn) is w = (w.0, (closing-but q GoOn is, at-subject (Closing q GoOn) is))
    stage-came Finished is w = whole Finished is (λ j. refl) (λ j. refl) (λ j. refl)
    stage-came _ is w = absurd w

    now-came : AtStage Came ts t.stage
    now-came = stage-came t.stage refl kept.stage

    -- ---- behind it

    left : (v : Option Traced) (u : Traced) → without_last u ≡ v → u.pid ≡ about → LeftHas Came v u.pid
    left None u is its = tt
    left (Some v) u is its = let same = lost-same u v is in (same.pid ∙ its, same.pid)

    begun-came : (idle : t.aside ≡ Nothing) (q : ℕ) (step : OpeningStep) → t.stage ≡ Opening q step → q < length ts
        → answer_of r ≡ Accepted → (next : Option OpeningStep) → step_after t.options r step ≡ next
        → Came (position_after next) (learnt (at_place ts q) r step)
    begun-came idle q step is within accepted None ends =
        λ same new. begun q step within idle is ends accepted
        (sym (learnt-pid pid (at_place ts q) (at_place ts q) r step) ∙ same) new
    begun-came idle q step is within accepted (Some next) ends =
        learnt-pid pid (at_place ts q) (at_place ts q) r step ∙ at-subject (Opening q step) is

    stage-after : t.aside ≡ Nothing → (stage : Stage) → t.stage ≡ stage → AtStage Came ts stage
        → AfterStage Came t r stage
    unfolding newly_traced
    stage-after idle (Spawning program) is w = w
    stage-after idle (OpeningControl number) is w =
        (w, λ accepted. (at-subject (OpeningControl number) is, fresh number is idle accepted))
    stage-after idle (Opening q step) is w = (
      w.0,
      (
        w.1.0,
        (
          at-subject (Opening q step) is,
          λ accepted. begun-came idle q step is w.0 accepted (step_after t.options r step) refl,
        ),
      ),
    )
    stage-after idle Polling is w = (w, λ accepted handle q ready place. tt)
    stage-after idle (ReadingStatus q) is w = w
    stage-after idle (ReadingText q l from len) is w = w
    stage-after idle (Running q) is w =
        (w.0, (w.1.0, (at-subject (Running q) is, λ lives same new. ran q w.0 idle is same new)))
    stage-after idle (Closing q OpenNext) is w =
        (w.0, (w.1.0, left (without_last (at_place ts q)) (at_place ts q) refl (at-subject (Closing q OpenNext) is)))
    stage-after idle (Closing q GoOn) is w =
        (w.0, (w.1.0, left (without_last (at_place ts q)) (at_place ts q) refl (at-subject (Closing q GoOn) is)))
    stage-after idle Finished is w = w
    stage-after idle _ is w = absurd w

    -- what is done beside a stage is done to the process that the stage is about
    opened-is : (q : ℕ) (stage : Stage) → IsOpenedAt q stage → (traced_at t q).pid ≡ subject_pid t stage
    opened-is q (Opening at opening.Start) same = ap (λ i. (at_place ts i).pid) (sym same)
    opened-is q _ none = absurd none

    looked-is : (q : ℕ) (stage : Stage) → IsLookedAt q stage → (traced_at t q).pid ≡ subject_pid t stage
    looked-is q (Running at) same = ap (λ i. (at_place ts i).pid) (sym same)
    looked-is q (ReadingText at l from len) same = ap (λ i. (at_place ts i).pid) (sym same)
    looked-is q (Closing at OpenNext) same = ap (λ i. (at_place ts i).pid) (sym same)
    looked-is q (Closing at GoOn) same = ap (λ i. (at_place ts i).pid) (sym same)
    looked-is q _ none = absurd none

    but-at : (q : ℕ) (stage : Stage) → t.stage ≡ stage → IsOpenedAt q stage → EachBut (Came rests) ts q
    but-at q (Opening at opening.Start) is same = subst (EachBut (Came rests) ts) same (opening-but at opening.Start is)
    but-at q _ is none = absurd none

    but-looked : (q : ℕ) (stage : Stage) → t.stage ≡ stage → IsLookedAt q stage → EachBut (Came rests) ts q
    but-looked q (Running at) is same = subst (EachBut (Came rests) ts) same (running-but at is)
    but-looked q (ReadingText at l from len) is same = each-but (Came rests) ts q (text-whole at l from len is)
    but-looked q (Closing at OpenNext) is same = subst (EachBut (Came rests) ts) same (closing-but at OpenNext is)
    but-looked q (Closing at GoOn) is same = subst (EachBut (Came rests) ts) same (closing-but at GoOn is)
    but-looked q _ is none = absurd none

    aside-after : (aside : Aside) → t.aside ≡ aside → FitsAside aside t.stage → AtAside P ts aside
        → AfterBeside Came t r aside
    aside-after Nothing is fit beside = stage-after is t.stage refl now-came
    aside-after (Reading q function) is fit beside =
        (now-came, (beside.0, (but-at q t.stage refl fit, opened-is q t.stage fit)))
    aside-after (Planting q function) is fit beside =
        (now-came, (beside.0, (but-at q t.stage refl fit, opened-is q t.stage fit)))
    aside-after (Patching q plants lifts clear) is fit beside =
        let looked = patch-looked q plants clear t.stage fit.0 in (
          now-came,
          ((beside.0.0, (but-looked q t.stage refl looked, looked-is q t.stage looked)), beside.1),
        )
    aside-after _ is fit beside = absurd beside

    -- the process that it opens, looks at, plants and lifts in
    at-it : (b q : ℕ) → Some b ≡ Some q → (at_place ts b).pid ≡ about → (at_place ts q).pid ≡ about
    at-it b q is its = subst (λ i. (at_place ts i).pid ≡ about) (same_Some b q is) its

    stage-about : (stage : Stage) → t.stage ≡ stage → (q : ℕ) → subject_of stage ≡ Some q → (traced_at t q).pid ≡ about
    stage-about (Opening b step) is q its = at-it b q its (at-subject (Opening b step) is)
    stage-about (ReadingStatus b) is q its = at-it b q its (at-subject (ReadingStatus b) is)
    stage-about (ReadingText b l from len) is q its = at-it b q its (at-subject (ReadingText b l from len) is)
    stage-about _ is q its = absurd (none-some q its)

    aside-about : (aside : Aside) → t.aside ≡ aside → FitsAside aside t.stage → (q : ℕ)
        → subject t.stage aside ≡ Some q → (traced_at t q).pid ≡ about
    aside-about Nothing is fit q its = stage-about t.stage refl q its
    aside-about (Reading b function) is fit q its = at-it b q its (opened-is b t.stage fit)
    aside-about (Planting b function) is fit q its = at-it b q its (opened-is b t.stage fit)
    aside-about (Patching b plants lifts clear) is fit q its =
        at-it b q its (looked-is b t.stage (patch-looked b plants clear t.stage fit.0))
    aside-about _ is fit q its = absurd (none-some q its)

    module _ (has : has_functions t.options ≡ true) (calm : answer_of r ≢ Interrupted) where
      came-kept : Kept Came (fed_functions t r)
      came-kept =
          fed-kept-where Came (λ (u : Traced). u.pid ≡ about) (λ (other : ℕ). other ≡ about) came-lasting t r
          kept.follow kept.off kept.apart calm (λ q idle is. at-subject (ReadingStatus q) is)
          (aside-about t.aside refl fits) has (aside-after t.aside refl fits kept.beside)

      abbrev v : TrussState
      v = fed_functions t r

      -- what is so of a process that rests
      opened-differs : (q j : ℕ) (b : Bool) → (q == j) ≡ b → not b ≡ true → j ≢ q
      opened-differs q j false other is = λ same. eqb-false q j other (sym same)
      opened-differs q j true one is = absurd (false≢true is)

      rest-of : (j : ℕ) → j < length v.traced → (stage : Stage) → AtStage Came v.traced stage
          → is_opened stage j ≡ true → is_to_run stage j ≡ false → Came rests (at_place v.traced j)
      rest-of j inside (Spawning program) w opened away = w j inside
      rest-of j inside (OpeningControl number) w opened away = w j inside
      rest-of j inside (Opening q step) w opened away = w.1.0 j inside (opened-differs q j (q == j) refl opened)
      rest-of j inside Polling w opened away = w j inside
      rest-of j inside (ReadingStatus q) w opened away = w.1.0 j inside
      rest-of j inside (ReadingText q l from len) w opened away = w.1.0 j inside
      rest-of j inside (Running q) w opened away = w.1.0 j inside (λ same. eqb-false q j away (sym same))
      rest-of j inside (Closing q OpenNext) w opened away = w.1.0 j inside (opened-differs q j (q == j) refl opened)
      rest-of j inside (Closing q GoOn) w opened away = w.1.0 j inside (opened-differs q j (q == j) refl opened)
      rest-of j inside Finished w opened away = w j inside
      rest-of j inside _ w opened away = absurd w

      -- a busy truss has to do with the process that was read
      busy-about : (j : ℕ) → j < length v.traced → (at_place v.traced j).pid ≡ about → Apart v.traced → (stage : Stage)
          → AtStage Came v.traced stage → is_busy stage ≡ true → is_opened stage j ≡ true → is_to_run stage j ≡ false
          → ⊥
      busy-about j inside its apart (ReadingText q l from len) w busy opened away =
          apart-at v.traced q j w.0 inside (eqb-false q j away) apart (w.1.1 ∙ sym its)
      busy-about j inside its apart (Running q) w busy opened away =
          apart-at v.traced q j w.0 inside (eqb-false q j away) apart (w.1.1 ∙ sym its)
      busy-about j inside its apart (Closing q OpenNext) w busy opened away =
          apart-at v.traced q j w.0 inside (λ same. opened-differs q j (q == j) refl opened (sym same)) apart
          (w.1.1 ∙ sym its)
      busy-about j inside its apart (Closing q GoOn) w busy opened away =
          apart-at v.traced q j w.0 inside (λ same. opened-differs q j (q == j) refl opened (sym same)) apart
          (w.1.1 ∙ sym its)
      busy-about j inside its apart (Closing q _) w busy opened away = absurd w
      busy-about j inside its apart _ w busy opened away = cc

      -- A process that rests behind the reply rested before it, and was not read; or it was run.
      pub rest-cause : (place : ℕ) → RestsAt v pid place → (is_reading t.stage ≡ true → pid ≢ about) × Cause t r pid
      rest-cause place w =
          let k = came-kept in (
            λ reading same. busy-about place w.within (w.its ∙ same) k.apart v.stage k.stage
                (reading-busy t r kept.follow kept.off calm has fits reading) w.opened w.away,
            rest-of place w.within v.stage k.stage w.opened w.away w.its w.new,
          )
