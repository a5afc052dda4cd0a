use Rattle.std.proofs.Common.{◌≡◌, ◌≢◌, ◌<◌, ◌==◌, ◌⊎◌, ℕ, Bool, true, false, cond, Option, Some, None, List, length, refl, sym, subst, ap, ◌∙◌, inl, inr}
use Rattle.std.proofs.lemmas.Bool.{eq-eqb, eqb-true, false≢true}
use Rattle.pr_function_hides.proofs.Replies.OwnFiles.{IsBeside, IsWithin}
use Rattle.pr_function_hides.proofs.Replies.PlantedReplies.{AfterAside, AfterStage as MarksAfter, LeftSo, fed-so}
use Rattle.pr_function_hides.specs.Treating.{is_run_soon}
use Rattle.pr_function_laws.proofs.Marks.KeptLemmas.{fed-kept}
use Rattle.pr_function_laws.proofs.Marks.KeptPlaces.{AfterBeside, AfterStage, AtAside, AtStage, IsLasting, Kept, LeftHas, Position, closes, first-kept, looks, opens, planted_as, position_after, rests, runs, to_read}
use Rattle.pr_function_laws.proofs.OrdinaryTruss.OrdinaryStops.{FitsAside}
use Rattle.pr_line.specs.declared.options.Options.{Options}
use Rattle.pr_model.specs.declared.calls.Reply.{Reply}
use Rattle.pr_report_laws.proofs.Invariant.StandLemmas.{Each, EachBut, each-but}
use Rattle.pr_truss.specs.Feeding.{fed, with_reply}
use Rattle.pr_truss.specs.FunctionFeeding.{fed_functions, with_aside_answered, with_function_reply}
use Rattle.pr_truss.specs.Marks.{has_functions}
use Rattle.pr_truss.specs.Openings.{learnt, step_after}
use Rattle.pr_truss.specs.Processes.{newly_traced, without_last}
use Rattle.pr_truss.specs.Replies.{answer_of}
use Rattle.pr_truss.specs.Stops.{with_poll_answered, with_polled}
use Rattle.pr_truss.specs.Trusses.{TrussState, first_truss, traced_at}
use Rattle.pr_truss.specs.declared.asides.Aside.{Aside}
use Rattle.pr_truss.specs.declared.asides.Aside.TheVariants.{Nothing, Reading, Planting, Patching}
use Rattle.pr_truss.specs.declared.marks.Marks.{Marks}
use Rattle.pr_truss.specs.declared.processes.Traced.{Traced}
use Rattle.pr_truss.specs.declared.replies.Answer.{Answer}
use Rattle.pr_truss.specs.declared.replies.Answer.TheVariants.{Accepted, Gone, Interrupted, Refused}
use Rattle.pr_truss.specs.declared.stages.AfterClosing.TheVariants.{GoOn, OpenNext}
use Rattle.pr_truss.specs.declared.stages.OpeningStep.{OpeningStep}
use Rattle.pr_truss.specs.declared.stages.OpeningStep.TheVariants as opening
use Rattle.pr_truss.specs.declared.stages.Stage.{Stage}
use Rattle.pr_truss.specs.declared.stages.Stage.TheVariants.{Spawning, OpeningControl, Opening, Polling, ReadingStatus, ReadingText, Running, Closing, Finished}
use Rattle.pr_truss_laws.proofs.Files.HeldLemmas.{at_place}
use Rattle.pr_truss_laws.proofs.Replies.ReplySteps.{lost-same}

-- Where the processes come from that truss traces after a reply, and which of them it runs soon; and that it has looked
-- at none of their stops before, as long as it is not interrupted.

-- ---- where they come from

-- a process was traced before, or its control file was opened now
pub data Comes (t : TrussState) (r : Reply) (pid : ℕ) : Type 0 where
  was : (j : ℕ) → j < length t.traced → (traced_at t j).pid ≡ pid → Comes t r pid
  new : t.stage ≡ OpeningControl pid → t.aside ≡ Nothing → answer_of r ≡ Accepted → Comes t r pid

module _ (t : TrussState) (r : Reply) (off : t.leaving ≡ false) (follow : t.options.follow ≡ false)
    (at_stage : IsWithin (length t.traced) t.stage) (at_aside : IsBeside (length t.traced) t.aside)
    (calm : answer_of r ≢ Interrupted) where
  abbrev Q : ℕ → Marks → Type 0
  Q pid m = Comes t r pid

  all : Each (λ (v : Traced). Comes t r v.pid) t.traced
  all q within = was q within refl

  others : (q : ℕ) → EachBut (λ (v : Traced). Comes t r v.pid) t.traced q
  others q = each-but (λ (v : Traced). Comes t r v.pid) t.traced q all

  left : (q : ℕ) → q < length t.traced → (v : Option Traced) → LeftSo Q v (traced_at t q)
  left q within None = tt
  left q within (Some v) = was q within refl

  stage-comes : t.aside ≡ Nothing → (stage : Stage) → t.stage ≡ stage → IsWithin (length t.traced) stage
      → MarksAfter Q t r stage
  stage-comes idle (OpeningControl pid) is w = (all, λ accepted. new is idle accepted)
  stage-comes idle (ReadingStatus q) is w = (all, λ l e accepted told fresh. was q w refl)
  stage-comes idle (Running q) is w = (others q, was q w refl)
  stage-comes idle (Closing q OpenNext) is w = (others q, left q w (without_last (traced_at t q)))
  stage-comes idle (Closing q GoOn) is w = (others q, left q w (without_last (traced_at t q)))
  stage-comes idle (Spawning program) is w = all
  stage-comes idle (Opening q step) is w = all
  stage-comes idle Polling is w = all
  stage-comes idle (ReadingText q l from len) is w = all
  stage-comes idle Finished is w = all
  stage-comes idle _ is w = absurd w

  aside-comes : (aside : Aside) → t.aside ≡ aside → IsBeside (length t.traced) aside → AfterAside Q t r aside
  aside-comes Nothing is w = stage-comes is t.stage refl at_stage
  aside-comes (Reading q function) is w = all
  aside-comes (Planting q function) is w = (others q, was q w refl)
  aside-comes (Patching q plants lifts clear) is w = (others q, was q w refl)
  aside-comes _ is w = absurd w

  pub places-come : has_functions t.options ≡ true → Each (λ (v : Traced). Comes t r v.pid) (fed_functions t r).traced
  places-come has = fed-so Q t r off follow at_stage at_aside calm has (aside-comes t.aside refl at_aside)

-- ---- which are run soon

-- the status of the process of this id was read, or it was run soon before, and is not run now
pub record IsReadOrSoon (t : TrussState) (pid : ℕ) : Type 0 where
  pub place : ℕ
  pub within : place < length t.traced
  pub own : (traced_at t place).pid ≡ pid
  pub soon : ((t.stage ≡ ReadingStatus place) × (t.aside ≡ Nothing)) ⊎ (is_run_soon t.stage place ≡ true)
  pub away : t.aside ≡ Nothing → t.stage ≢ Running place

module _ (P : Position → Traced → Type 0) (t : TrussState) (r : Reply) (kept : Kept P t)
    (fits : FitsAside t.aside t.stage) (calm : answer_of r ≢ Interrupted)
    (fresh : (pid : ℕ) → t.stage ≡ OpeningControl pid → t.aside ≡ Nothing → answer_of r ≡ Accepted
    → Each (λ (u : Traced). u.pid ≢ pid) t.traced) where
  -- or a poll comes first
  abbrev Seen : Traced → Type 0
  Seen u = ((t.stage ≡ Polling) × (t.aside ≡ Nothing)) ⊎ IsReadOrSoon t u.pid

  abbrev S : Position → Traced → Type 0
  S (opens step) u = Unit {0}
  S rests u = Unit {0}
  S to_read u = Seen u
  S looks u = Seen u
  S runs u = Seen u
  S closes u = Unit {0}

  planted-seen : (at : Position) (u : Traced) (set : List Bool) → S at u → S at (planted_as u set)
  planted-seen (opens step) u set it = tt
  planted-seen rests u set it = tt
  planted-seen to_read u set it = it
  planted-seen looks u set it = it
  planted-seen runs u set it = it
  planted-seen closes u set it = tt

  lasting : IsLasting S
  lasting = record {
    may_close = λ at u it. tt;
    reads = λ u one it. it;
    may_run = λ u one it. it;
    counts = λ u one it some. it;
    sees = λ u m it. it;
    meets = λ u m it new. tt;
    plants = planted-seen;
    loosens = λ u m it. tt;
  }

  whole : (ts : List Traced) → Each (S rests) ts
  whole ts q within = tt

  but : (ts : List Traced) (q : ℕ) → EachBut (S rests) ts q
  but ts q i within other = tt

  own : (q : ℕ) → q < length t.traced
      → ((t.stage ≡ ReadingStatus q) × (t.aside ≡ Nothing)) ⊎ (is_run_soon t.stage q ≡ true)
      → (t.aside ≡ Nothing → t.stage ≢ Running q) → Seen (at_place t.traced q)
  own q within soon away = inr (record { place = q; within = within; own = refl; soon = soon; away = away })

  reads-away : (q : ℕ) → t.stage ≡ ReadingStatus q → t.stage ≢ Running q
  reads-away q is runs_it = let both : ReadingStatus q ≡ Running q = sym is ∙ runs_it in cc

  text-away : (q : ℕ) (stage : Stage) → t.stage ≡ stage → stage ≢ Running q → t.stage ≢ Running q
  text-away q stage is other runs_it = other (sym is ∙ runs_it)

  same-place : (q : ℕ) → (q == q) ≡ true
  same-place q = eq-eqb q q refl

  left-has : (v : Option Traced) (u : Traced) → without_last u ≡ v → LeftHas S v u.pid
  left-has None u is = tt
  left-has (Some v) u is = (tt, let same = lost-same u v is in same.pid)

  stage-after : t.aside ≡ Nothing → (stage : Stage) → t.stage ≡ stage → AtStage P t.traced stage
      → AfterStage S t r stage
  stage-after idle (Spawning program) is w = whole t.traced
  stage-after idle (OpeningControl pid) is w = (whole t.traced, λ accepted. (tt, fresh pid is idle accepted))
  stage-after idle (Opening q step) is w = (w.0, (but t.traced q, (tt, λ accepted. next (step_after t.options r step))))
    where
      next : (x : Option OpeningStep) → S (position_after x) (learnt (at_place t.traced q) r step)
      next None = tt
      next (Some s) = tt
  stage-after idle Polling is w = (whole t.traced, λ accepted handle q ready there. inl (is, idle))
  stage-after idle (ReadingStatus q) is w =
      (w.0, (whole t.traced, own q w.0 (inl (is, idle)) (λ none. reads-away q is)))
  stage-after idle (ReadingText q l from len) is w = (
    w.0,
    (
      whole t.traced,
      own q w.0 (inr (ap (λ x. is_run_soon x q) is ∙ same-place q))
          (λ none. text-away q (ReadingText q l from len) is (λ same. cc)),
    ),
  )
  stage-after idle (Running q) is w = (w.0, (but t.traced q, (tt, λ lives. tt)))
  stage-after idle (Closing q OpenNext) is w =
      (w.0, (but t.traced q, left-has (without_last (at_place t.traced q)) (at_place t.traced q) refl))
  stage-after idle (Closing q GoOn) is w =
      (w.0, (but t.traced q, left-has (without_last (at_place t.traced q)) (at_place t.traced q) refl))
  stage-after idle Finished is w = whole t.traced
  stage-after idle _ is w = absurd w

  stage-at : (stage : Stage) → t.aside ≢ Nothing → t.stage ≡ stage → (stage ≡ Polling → ⊥)
      → ((q : ℕ) → stage ≢ ReadingStatus q) → AtStage P t.traced stage → AtStage S t.traced stage
  stage-at (Spawning program) busy is none unread w = whole t.traced
  stage-at (OpeningControl pid) busy is none unread w = whole t.traced
  stage-at (Opening q step) busy is none unread w = (w.0, (but t.traced q, tt))
  stage-at Polling busy is none unread w = whole t.traced
  stage-at (ReadingStatus q) busy is none unread w = absurd (unread q refl)
  stage-at (ReadingText q l from len) busy is none unread w = (
    w.0,
    (
      whole t.traced,
      own q w.0 (inr (ap (λ x. is_run_soon x q) is ∙ same-place q))
          (λ idle. absurd (busy idle)),
    ),
  )
  stage-at (Running q) busy is none unread w = (
    w.0,
    (
      but t.traced q,
      own q w.0 (inr (ap (λ x. is_run_soon x q) is ∙ same-place q))
          (λ idle. absurd (busy idle)),
    ),
  )
  stage-at (Closing q OpenNext) busy is none unread w = (w.0, (but t.traced q, tt))
  stage-at (Closing q GoOn) busy is none unread w = (w.0, (but t.traced q, tt))
  stage-at Finished busy is none unread w = whole t.traced
  stage-at _ busy is none unread w = absurd w

  -- what comes before the call of a stage comes before no poll, and before no read of a status
  no-poll : (aside : Aside) → aside ≢ Nothing → FitsAside aside Polling → ⊥
  no-poll Nothing some it = some refl
  no-poll (Reading q function) some it = it
  no-poll (Planting q function) some it = it
  no-poll (Patching q plants lifts clear) some it = it.0
  no-poll _ some it = cc

  no-read : (aside : Aside) (q : ℕ) → aside ≢ Nothing → FitsAside aside (ReadingStatus q) → ⊥
  no-read Nothing q some it = some refl
  no-read (Reading at function) q some it = it
  no-read (Planting at function) q some it = it
  no-read (Patching at plants lifts clear) q some it = it.0
  no-read _ q some it = cc

  busy-at : t.aside ≢ Nothing → AtStage S t.traced t.stage
  busy-at busy =
      stage-at t.stage busy refl (λ is. no-poll t.aside busy (subst (FitsAside t.aside) is fits))
      (λ q is. no-read t.aside q busy (subst (FitsAside t.aside) is fits)) kept.stage

  aside-after : (aside : Aside) → t.aside ≡ aside → AtAside P t.traced aside → AfterBeside S t r aside
  aside-after Nothing is w = stage-after is t.stage refl kept.stage
  aside-after (Reading q function) is w =
      (busy-at (λ none. let both : Reading q function ≡ Nothing = sym is ∙ none in cc), (w.0, (but t.traced q, tt)))
  aside-after (Planting q function) is w =
      (busy-at (λ none. let both : Planting q function ≡ Nothing = sym is ∙ none in cc), (w.0, (but t.traced q, tt)))
  aside-after (Patching q plants lifts clear) is w = (
    busy-at (λ none. let both : Patching q plants lifts clear ≡ Nothing = sym is ∙ none in cc),
    ((w.0.0, (but t.traced q, tt)), w.1),
  )
  aside-after _ is w = absurd w

  later : has_functions t.options ≡ true → Kept S (fed_functions t r)
  later has =
      fed-kept S lasting t r kept.follow kept.off kept.apart calm has (aside-after t.aside refl kept.beside)

  -- after a poll no process is run soon
  poll-none : (q : ℕ) → is_run_soon t.stage q ≡ false → (a : Answer) → a ≢ Interrupted
      → is_run_soon (with_poll_answered t r a).stage q ≡ false
  unfolding with_poll_answered
  poll-none q none Accepted other = by _
    where
      by : (x : Option ℕ) → is_run_soon (with_polled t x).stage q ≡ false
      by None = none
      by (Some place) = refl
  poll-none q none (Refused errno) other = none
  poll-none q none Gone other = none
  poll-none q none Interrupted other = absurd (other refl)

  polled : has_functions t.options ≡ true → t.stage ≡ Polling → t.aside ≡ Nothing → (q : ℕ)
      → is_run_soon (fed_functions t r).stage q ≡ false
  unfolding fed_functions with_aside_answered with_function_reply with_reply
  polled has is idle q =
      ap (λ (u : TrussState). is_run_soon u.stage q)
      (ap (λ b. cond b (with_aside_answered t r t.aside) (fed t r)) has
      ∙ ap (with_aside_answered t r) idle ∙ ap (with_function_reply t r) is)
      ∙ poll-none q (ap (λ x. is_run_soon x q) is) (answer_of r) calm

  -- a process that is run soon was read, or was run soon before
  pub soon-comes : has_functions t.options ≡ true → (q : ℕ) → is_run_soon (fed_functions t r).stage q ≡ true
      → IsReadOrSoon t (traced_at (fed_functions t r) q).pid
  soon-comes has q soon = let w = later has in by (fed_functions t r).stage refl soon w.stage
    where
      u : TrussState
      u = fed_functions t r

      of : (at : ℕ) → (at == q) ≡ true → Seen (at_place u.traced at) → IsReadOrSoon t (traced_at u q).pid
      of at here (inl poll) = absurd (false≢true (sym (polled has poll.0 poll.1 q) ∙ soon))
      of at here (inr it) = subst (λ i. IsReadOrSoon t (traced_at u i).pid) (eqb-true at q here) it

      by : (stage : Stage) → u.stage ≡ stage → is_run_soon stage q ≡ true → AtStage S u.traced stage
          → IsReadOrSoon t (traced_at u q).pid
      by (Running at) is here w = of at here w.1.1
      by (ReadingText at l from len) is here w = of at here w.1.1
      by _ is here w = absurd (false≢true here)

-- ---- stops that truss looked at before

-- it has looked at no stop of a process before, but where it may close its files
abbrev pub IsUnseen : Position → Traced → Type 0
IsUnseen (opens step) u = u.seen ≡ false
IsUnseen rests u = u.seen ≡ false
IsUnseen to_read u = Unit {0}
IsUnseen looks u = Unit {0}
IsUnseen runs u = u.seen ≡ false
IsUnseen closes u = Unit {0}

unseen-closes : (at : Position) (u : Traced) → IsUnseen at u → IsUnseen closes u
unseen-closes at u it = tt

unseen-plants : (at : Position) (u : Traced) (set : List Bool) → IsUnseen at u → IsUnseen at (planted_as u set)
unseen-plants (opens step) u set it = it
unseen-plants rests u set it = it
unseen-plants to_read u set it = tt
unseen-plants looks u set it = tt
unseen-plants runs u set it = it
unseen-plants closes u set it = tt

unseen-lasting : IsLasting IsUnseen
unseen-lasting = record {
  may_close = unseen-closes;
  reads = λ u one it. tt;
  may_run = λ u one it. one;
  counts = λ u one it some. one;
  sees = λ u m it. tt;
  meets = λ u m it new. it;
  plants = unseen-plants;
  loosens = λ u m it. tt;
}

learnt-unseen : (u : Traced) (r : Reply) (step : OpeningStep) → (learnt u r step).seen ≡ u.seen
unfolding learnt
learnt-unseen u r opening.OpenStatus = refl
learnt-unseen u r opening.OpenLstatus = refl
learnt-unseen u r opening.OpenMemory = refl
learnt-unseen u r (opening.AwaitStop until) = refl
learnt-unseen u r opening.ReadLwps = refl
learnt-unseen u r _ = refl

module _ (t : TrussState) (r : Reply) (calm : answer_of r ≢ Interrupted) (kept : Kept IsUnseen t)
    (fresh : (pid : ℕ) → t.stage ≡ OpeningControl pid → t.aside ≡ Nothing → answer_of r ≡ Accepted
    → Each (λ (u : Traced). u.pid ≢ pid) t.traced) where
  left-unseen : (v : Option Traced) (u : Traced) → without_last u ≡ v → LeftHas IsUnseen v u.pid
  left-unseen None u is = tt
  left-unseen (Some v) u is = (tt, let same = lost-same u v is in same.pid)

  unseen-stage : t.aside ≡ Nothing → (stage : Stage) → t.stage ≡ stage → AtStage IsUnseen t.traced stage
      → AfterStage IsUnseen t r stage
  unfolding newly_traced
  unseen-stage idle (Spawning program) is w = w
  unseen-stage idle (OpeningControl pid) is w = (w, λ accepted. (refl, fresh pid is idle accepted))
  unseen-stage idle (Opening q step) is w =
      (w.0, (w.1.0, (tt, λ accepted. next (step_after t.options r step))))
    where
      same : (learnt (at_place t.traced q) r step).seen ≡ false
      same = learnt-unseen (at_place t.traced q) r step ∙ w.1.1

      next : (x : Option OpeningStep) → IsUnseen (position_after x) (learnt (at_place t.traced q) r step)
      next None = same
      next (Some s) = same
  unseen-stage idle Polling is w = (w, λ accepted handle q ready there. tt)
  unseen-stage idle (ReadingStatus q) is w = w
  unseen-stage idle (ReadingText q l from len) is w = w
  unseen-stage idle (Running q) is w = (w.0, (w.1.0, (tt, λ lives. w.1.1)))
  unseen-stage idle (Closing q OpenNext) is w =
      (w.0, (w.1.0, left-unseen (without_last (at_place t.traced q)) (at_place t.traced q) refl))
  unseen-stage idle (Closing q GoOn) is w =
      (w.0, (w.1.0, left-unseen (without_last (at_place t.traced q)) (at_place t.traced q) refl))
  unseen-stage idle Finished is w = w
  unseen-stage idle _ is w = absurd w

  unseen-aside : (aside : Aside) → t.aside ≡ aside → AtStage IsUnseen t.traced t.stage
      → AtAside IsUnseen t.traced aside → AfterBeside IsUnseen t r aside
  unseen-aside Nothing is w beside = unseen-stage is t.stage refl w
  unseen-aside (Reading q function) is w beside = (w, beside)
  unseen-aside (Planting q function) is w beside = (w, beside)
  unseen-aside (Patching q plants lifts clear) is w beside = (w, beside)
  unseen-aside _ is w beside = absurd beside

  pub unseen-fed : has_functions t.options ≡ true → Kept IsUnseen (fed_functions t r)
  unseen-fed has =
      fed-kept IsUnseen unseen-lasting t r kept.follow kept.off kept.apart calm has
      (unseen-aside t.aside refl kept.stage kept.beside)

pub unseen-first : (o : Options) → o.follow ≡ false → Kept IsUnseen (first_truss o)
unseen-first o follow = first-kept IsUnseen o follow

-- the one whose status is read
pub unseen-read : (t : TrussState) (q : ℕ) → Kept IsUnseen t → t.stage ≡ ReadingStatus q
    → (traced_at t q).seen ≡ false
unseen-read t q kept is = let w = subst (AtStage IsUnseen t.traced) is kept.stage in w.1.0 q w.0
