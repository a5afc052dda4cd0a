use Rattle.std.proofs.Common.{◌≡◌, ◌<◌, ◌++◌, ℕ, zero, suc, Bool, true, false, Option, Some, None, List, [], ◌∷◌, drop, length, length-append, refl, sym, subst, ap, ◌∙◌, arith, inl, inr}
use Rattle.std.proofs.lemmas.Bool.{cases_Bool, false≢true}
use Rattle.std.proofs.lemmas.List.{get_or_push}
use Rattle.std.specs.List.{slice_get}
use Rattle.pr_model.specs.Replies.{handle_in}
use Rattle.pr_model.specs.declared.calls.Reply.{Reply}
use Rattle.pr_num.proofs.ListLemmas.{drop-at}
use Rattle.pr_num.specs.declared.errnos.Errno.{Errno}
use Rattle.pr_num.specs.declared.errnos.Errno.TheVariants.{Noent}
use Rattle.pr_rec.specs.declared.lwps.LwpStatus.{LwpStatus}
use Rattle.pr_report_laws.proofs.Replies.OpeningParts.{last-start, learnt-pid}
use Rattle.pr_truss.specs.Closings.{after_closing, closed_or_removed, with_closed, with_going_on, with_next_opening}
use Rattle.pr_truss.specs.Feeding.{fed, with_reply}
use Rattle.pr_truss.specs.Openings.{at_step, learnt, pid_in, step_after, with_control, with_control_answered, with_refused_control, with_refused_start, with_refused_step, with_start_answered, with_step_answered, with_step_done}
use Rattle.pr_truss.specs.Processes.{newly_traced, without_last}
use Rattle.pr_truss.specs.Replies.{answer_of}
use Rattle.pr_truss.specs.Trusses.{TrussState, nobody, opening_or, traced_at, with_report, with_stage, with_traced, without_traced}
use Rattle.pr_truss.specs.declared.processes.Traced.{Traced}
use Rattle.pr_truss.specs.declared.replies.Answer.{Answer}
use Rattle.pr_truss.specs.declared.replies.Answer.TheVariants.{Accepted, Gone, Interrupted, Refused}
use Rattle.pr_truss.specs.declared.reports.Report.{Report}
use Rattle.pr_truss.specs.declared.reports.Report.TheVariants.{CannotStart, CannotTrace, Event as Shown}
use Rattle.pr_truss.specs.declared.stages.AfterClosing.{AfterClosing}
use Rattle.pr_truss.specs.declared.stages.AfterClosing.TheVariants.{GoOn, OpenNext, RunParent}
use Rattle.pr_truss.specs.declared.stages.OpeningStep.{OpeningStep}
use Rattle.pr_truss.specs.declared.stages.OpeningStep.TheVariants as opening
use Rattle.pr_truss.specs.declared.stages.Stage.{Stage}
use Rattle.pr_truss.specs.declared.stages.Stage.TheVariants.{Spawning, OpeningControl, Opening, Closing}
use Rattle.pr_truss_laws.proofs.Files.HeldLemmas.{set-at}
use Rattle.pr_truss_laws.proofs.Replies.AnswerLemmas.{Refuses, gone-refuses, other-refuses}
use Rattle.pr_truss_laws.proofs.Replies.FedSteps.{fed-step, goes-on, interrupt-on, opens-next, seen-on}
use Rattle.pr_truss_laws.proofs.Replies.ReplySteps as step
use Rattle.pr_truss_laws.proofs.Replies.ReplySteps.{Closes, GoesOn, Learns, Looks, Opens, ReplyStep, Returns, Settles, StopOver, Turns, on-staged, over-staged}
use Rattle.pr_truss_laws.specs.Exchanges.{Exchange}
use Rattle.pr_function_laws.proofs.Holding.HoldBegins.{new-pid}
use Rattle.pr_function_laws.proofs.ShownOnce.GoingOn.{Going}

-- What a reply makes of the processes that truss was given and has not done with: it has done with the first of them
-- where that is opened whole or refused, and with no other.

-- ---- which processes those are

-- those that it has not begun to open
abbrev pub not_begun : TrussState → List ℕ
not_begun u = drop u.begun u.options.pids

-- whether truss is at work on what it was given
abbrev pub is_given : Stage → Bool
is_given (Spawning program) = true
is_given (OpeningControl pid) = true
is_given (Opening place now) = true
is_given (Closing place OpenNext) = true
is_given _ = false

-- What is said of those that it has not done with; of the program whose process it makes; and once it has done with
-- all.
abbrev pub AtGiven : (List ℕ → Type 0) → Type 0 → (List ℕ → Type 0) → TrussState → Stage → Type 0
AtGiven Ahead Else Starts u (Spawning program) = (u.begun ≡ 0) × Starts program
AtGiven Ahead Else Starts u (OpeningControl pid) = Ahead (pid ∷ not_begun u)
AtGiven Ahead Else Starts u (Opening place now) = Ahead ((traced_at u place).pid ∷ not_begun u)
AtGiven Ahead Else Starts u (Closing place OpenNext) = Ahead (not_begun u)
AtGiven Ahead Else Starts u _ = Else

pub else-of : (A : List ℕ → Type 0) (E : Type 0) (S : List ℕ → Type 0) (u : TrussState) (stage : Stage)
    → is_given stage ≡ false → AtGiven A E S u stage → E
else-of A E S u (Spawning program) is w = absurd (false≢true (sym is))
else-of A E S u (OpeningControl pid) is w = absurd (false≢true (sym is))
else-of A E S u (Opening place now) is w = absurd (false≢true (sym is))
else-of A E S u (Closing place OpenNext) is w = absurd (false≢true (sym is))
else-of A E S u (Closing place GoOn) is w = w
else-of A E S u (Closing place (RunParent parent)) is w = w
else-of A E S u _ is w = w

-- A reply by which truss goes on with what it was given, and has done with none of it.
pub data GoesFurther (u : TrussState) (r : Reply) : Type 0 where
  opened : (pid : ℕ) → u.stage ≡ OpeningControl pid → answer_of r ≡ Accepted → GoesFurther u r
  stepped : (place : ℕ) (now next : OpeningStep) → u.stage ≡ Opening place now
      → step_after u.options r now ≡ Some next → answer_of r ≡ Accepted → GoesFurther u r
  closed : (place : ℕ) → u.stage ≡ Closing place OpenNext → GoesFurther u r

-- What was said before a reply is said in another way behind it.
pub record Moves (A : List ℕ → Type 0) (E : Type 0) (S : List ℕ → Type 0) (B : List ℕ → Type 0) (F : Type 0)
    (T : List ℕ → Type 0) (u : TrussState) (r : Reply) : Type 0 where
  pub further : (pids : List ℕ) → GoesFurther u r → A pids → B pids
  pub refused : (pid : ℕ) (pids : List ℕ) (errno : Errno) → Refuses r errno
      → (fed u r).reports ≡ u.reports ++ CannotTrace pid errno ∷ [] → A (pid ∷ pids) → B pids
  pub held : (place : ℕ) (pids : List ℕ) → u.stage ≡ Opening place opening.Start → answer_of r ≡ Accepted
      → A ((traced_at u place).pid ∷ pids) → B pids
  pub other : E → F
  pub over : B [] → F
  pub broken : answer_of r ≡ Interrupted → F
  pub started : (program : List ℕ) → u.stage ≡ Spawning program → answer_of r ≡ Accepted → u.begun ≡ 0 → S program
      → B (pid_in r ∷ not_begun u)
  pub unmade : (program : List ℕ) (errno : Errno) → u.stage ≡ Spawning program → Refuses r errno → S program → F

pub drop-none : (xs : List ℕ) (i : ℕ) → slice_get xs i ≡ None → drop i xs ≡ []
drop-none [] zero is = refl
drop-none [] (suc i) is = refl
drop-none (x ∷ xs) zero is = cc
drop-none (x ∷ xs) (suc i) is = drop-none xs i is

module _ (A : List ℕ → Type 0) (E : Type 0) (S : List ℕ → Type 0) (B : List ℕ → Type 0) (F : Type 0)
    (T : List ℕ → Type 0) where
  abbrev Now : TrussState → Type 0
  Now v = AtGiven B F T v v.stage

  -- nothing is to be done for a process, and none is opened
  on-else : (u v : TrussState) (given : Bool) → given ≡ false → GoesOn u given v → F → Now v
  on-else u v given none (step.finishes _) f = f
  on-else u v given none (step.polls _ _) f = f
  on-else u v given none (step.unfollows _ _ _) f = f
  on-else u v given none (step.closes_first _ _ _) f = f
  on-else u v given none (step.opens_next is) f = absurd (false≢true (sym none))

  -- ---- the steps of other stages

  module _ (u : TrussState) (r : Reply) (f : F) where
    settled-none : (stage : Stage) (given : Bool) (z : TrussState) → is_given stage ≡ false
        → Settles u r stage given z → given ≡ false
    settled-none stage given z none (step.refuses_control _ _) = absurd (false≢true (sym none))
    settled-none stage given z none (step.ends_opening _ _) = absurd (false≢true (sym none))
    settled-none stage given z none (step.closed_next _) = absurd (false≢true (sym none))
    settled-none stage given z none _ = refl

    over-else : (z v : TrussState) (place : ℕ) (pid : Option ℕ) → StopOver z place pid v → Now v
    over-else z v place pid (step.runs _) = f
    over-else z v place pid (step.leaves _) = f
    over-else z v place pid (step.opens_child _) = f
    over-else z v place pid (step.frees_child _) = f

    closes-else : (stage : Stage) (place : ℕ) (next : AfterClosing) (z : TrussState) → is_given stage ≡ false
        → Closes u r stage place next z → AtGiven B F T (with_stage z (Closing place next)) (Closing place next)
    closes-else stage place next z none (step.refuses_opening _ _) = absurd (false≢true (sym none))
    closes-else stage place next z none (step.status_ended _) = f
    closes-else stage place next z none (step.text_ended _) = f
    closes-else stage place next z none (step.run_ended _) = f
    closes-else stage place next z none (step.left_ended _) = f
    closes-else stage place next z none (step.looked_last _) = f
    closes-else stage place next z none step.freed_last = f
    closes-else stage place next z none (step.freed_none _) = f
    closes-else stage place next z none (step.refuses_free _ _) = f
    closes-else stage place next z none (step.refuses_child _ _) = f
    closes-else stage place next z none (step.child_ended _) = f

    loses-else : (z : TrussState) (place : ℕ) (next : AfterClosing) → is_given (Closing place next) ≡ false
        → AtGiven B F T z (Closing place next)
    loses-else z place OpenNext none = absurd (false≢true (sym none))
    loses-else z place GoOn none = f
    loses-else z place (RunParent parent) none = f

    opens-else : (z : TrussState) (place : ℕ) (stage next : Stage) (pid : ℕ) → is_given stage ≡ false
        → Opens place stage pid next → AtGiven B F T z next
    opens-else z place stage next pid none step.new_given = absurd (false≢true (sym none))
    opens-else z place stage next pid none step.new_child = f

    learns-else : (z : TrussState) (stage next : Stage) (place : ℕ) (t : Traced) → is_given stage ≡ false
        → Learns u r stage place t next → AtGiven B F T z next
    learns-else z stage next place t none (step.opening_goes _) = absurd (false≢true (sym none))
    learns-else z stage next place t none (step.child_goes _) = f

    turns-else : (z : TrussState) (stage next : Stage) → is_given stage ≡ false → Turns u r stage next
        → AtGiven B F T z next
    turns-else z stage next none (step.starts _) = absurd (false≢true (sym none))
    turns-else z stage next none step.polls_again = f
    turns-else z stage next none (step.is_named _) = f
    turns-else z stage next none step.unfollowed = f
    turns-else z stage next none (step.frees _) = f
    turns-else z stage next none step.frees_on = f
    turns-else z stage next none step.has_finished = f

    pub step-else : (stage : Stage) (v : TrussState) → is_given stage ≡ false → ReplyStep u r stage v → Now v
    step-else stage v none (step.settles {given = given} {u = z} settled on) =
        on-else z v given (settled-none stage given z none settled) on f
    step-else stage v none (step.looks {place = place} {pid = pid} {u = z} looked over) =
        over-else z v place pid over
    step-else stage v none (step.asks _ _ _ _) = f
    step-else stage v none (step.closes {place = place} {next = next} {u = z} closes) =
        closes-else stage place next z none closes
    step-else stage v none (step.loses {place = place} {next = next} lost) = loses-else v place next none
    step-else stage v none (step.opens {next = next} {pid = pid} _ opens) = opens-else v _ stage next pid none opens
    step-else stage v none (step.learns {next = next} {place = place} {t = t} _ learns) =
        learns-else v stage next place t none learns
    step-else stage v none (step.returns _) = f
    step-else stage v none (step.turns {next = next} turns) = turns-else v stage next none turns

  -- ---- the steps of what it was given

  module _ (u : TrussState) (r : Reply) (m : Moves A E S B F T u r) where
    -- the next one is opened, or none is left
    next-at : (z : TrussState) → B (not_begun z) → Now (with_next_opening z)
    unfolding with_next_opening
    next-at z ahead = by (slice_get z.options.pids z.begun) refl
      where
        by : (pid : Option ℕ) → slice_get z.options.pids z.begun ≡ pid → Now (opening_or z (with_going_on z) pid)
        by None is =
            on-else z (with_going_on z) false refl (goes-on z false)
            (m.over (subst B (drop-none z.options.pids z.begun is) ahead))
        by (Some pid) is = subst B (drop-at z.options.pids z.begun pid is) ahead

    -- truss makes the process of its program
    start-at : (program : List ℕ) → u.stage ≡ Spawning program → (a : Answer) → answer_of r ≡ a → u.begun ≡ 0
        → S program → Now (with_start_answered u program r a)
    unfolding with_start_answered with_refused_start
    start-at program at Accepted is first w = m.started program at is first w
    start-at program at Interrupted is first w = on-else _ _ false refl (interrupt-on u) (m.broken is)
    start-at program at Gone is first w =
        on-else _ _ false refl (goes-on (with_report u (CannotStart program Noent)) false)
        (m.unmade program Noent at (gone-refuses r is) w)
    start-at program at (Refused errno) is first w =
        on-else _ _ false refl (goes-on (with_report u (CannotStart program errno)) false)
        (m.unmade program errno at (other-refuses r errno is) w)

    -- its control file is opened
    control-is : (pid : ℕ) → u.stage ≡ OpeningControl pid → (a : Answer) → answer_of r ≡ a
        → fed u r ≡ with_control_answered u pid r a
    unfolding fed with_reply
    control-is pid at a is = ap (with_reply u r) at ∙ ap (with_control_answered u pid r) is

    refused-reports : (pid : ℕ) (errno : Errno)
        → (with_refused_control u pid errno).reports ≡ u.reports ++ CannotTrace pid errno ∷ []
    unfolding with_refused_control
    refused-reports pid errno =
        let it = on-staged (opens-next (with_report u (CannotTrace pid errno))) in it.reports

    control-at : (pid : ℕ) → u.stage ≡ OpeningControl pid → (a : Answer) → answer_of r ≡ a → A (pid ∷ not_begun u)
        → Now (with_control_answered u pid r a)
    unfolding with_control_answered with_control with_refused_control
    control-at pid at Accepted is w =
        let new : Traced = newly_traced pid (handle_in r) in
        subst (λ p. B (p ∷ not_begun u))
        (sym (new-pid pid (handle_in r))
        ∙ ap (λ (t : Traced). t.pid) (sym (get_or_push u.traced new nobody (length u.traced) refl)))
        (m.further (pid ∷ not_begun u) (opened pid at is) w)
    control-at pid at Interrupted is w = on-else _ _ false refl (interrupt-on u) (m.broken is)
    control-at pid at Gone is w =
        next-at (with_report u (CannotTrace pid Noent))
        (m.refused pid (not_begun u) Noent (gone-refuses r is)
        (ap (λ (z : TrussState). z.reports) (control-is pid at Gone is) ∙ refused-reports pid Noent) w)
    control-at pid at (Refused errno) is w =
        next-at (with_report u (CannotTrace pid errno))
        (m.refused pid (not_begun u) errno (other-refuses r errno is)
        (ap (λ (z : TrussState). z.reports) (control-is pid at (Refused errno) is) ∙ refused-reports pid errno) w)

    -- a step of an opening
    step-is : (place : ℕ) (now : OpeningStep) → u.stage ≡ Opening place now → (a : Answer) → answer_of r ≡ a
        → fed u r ≡ with_step_answered u place now r a
    unfolding fed with_reply
    step-is place now at a is = ap (with_reply u r) at ∙ ap (with_step_answered u place now r) is

    done-at : (place : ℕ) (now : OpeningStep) → u.stage ≡ Opening place now → place < length u.traced
        → answer_of r ≡ Accepted → A ((traced_at u place).pid ∷ not_begun u) → (next : Option OpeningStep)
        → step_after u.options r now ≡ next
        → Now (at_step (with_traced u place (learnt (traced_at u place) r now)) place next)
    done-at place now at within is w (Some next) comes =
        subst (λ p. B (p ∷ not_begun u))
        (sym (learnt-pid (traced_at u place) r now)
        ∙ ap (λ (t : Traced). t.pid) (sym (set-at u.traced place (learnt (traced_at u place) r now) within)))
        (m.further ((traced_at u place).pid ∷ not_begun u) (stepped place now next at comes is) w)
    done-at place now at within is w None comes =
        next-at (with_traced u place (learnt (traced_at u place) r now))
        (m.held place (not_begun u) (at ∙ ap (Opening place) (last-start u.options r now comes)) is w)

    step-at : (place : ℕ) (now : OpeningStep) → u.stage ≡ Opening place now → place < length u.traced → (a : Answer)
        → answer_of r ≡ a → A ((traced_at u place).pid ∷ not_begun u) → Now (with_step_answered u place now r a)
    unfolding with_step_answered with_step_done with_refused_step
    step-at place now at within Accepted is w = done-at place now at within is w (step_after u.options r now) refl
    step-at place now at within Interrupted is w = on-else _ _ false refl (seen-on u place) (m.broken is)
    step-at place now at within Gone is w =
        m.refused (traced_at u place).pid (not_begun u) Noent (gone-refuses r is)
        (ap (λ (z : TrussState). z.reports) (step-is place now at Gone is)) w
    step-at place now at within (Refused errno) is w =
        m.refused (traced_at u place).pid (not_begun u) errno (other-refuses r errno is)
        (ap (λ (z : TrussState). z.reports) (step-is place now at (Refused errno) is)) w

    -- a file of one whose opening was refused is closed
    closed-at : (place : ℕ) → u.stage ≡ Closing place OpenNext → A (not_begun u) → (last : Option Traced)
        → Now (closed_or_removed u place OpenNext last)
    unfolding after_closing
    closed-at place at w None = next-at (without_traced u place) (m.further (not_begun u) (closed place at) w)
    closed-at place at w (Some t) =
        subst (AtGiven B F T (with_traced u place t)) (sym at) (m.further (not_begun u) (closed place at) w)

    given-at : ((place : ℕ) (now : OpeningStep) → u.stage ≡ Opening place now → place < length u.traced)
        → (stage : Stage) → u.stage ≡ stage → is_given stage ≡ true → AtGiven A E S u stage
        → Now (with_reply u r stage)
    unfolding with_reply with_closed
    given-at within (Spawning program) at is w = start-at program at (answer_of r) refl w.0 w.1
    given-at within (OpeningControl pid) at is w = control-at pid at (answer_of r) refl w
    given-at within (Opening place now) at is w = step-at place now at (within place now at) (answer_of r) refl w
    given-at within (Closing place OpenNext) at is w = closed-at place at w (without_last (traced_at u place))
    given-at within (Closing place GoOn) at is w = absurd (false≢true is)
    given-at within (Closing place (RunParent parent)) at is w = absurd (false≢true is)
    given-at within _ at is w = absurd (false≢true is)

    -- whatever truss is at
    pub fed-given : ((place : ℕ) (now : OpeningStep) → u.stage ≡ Opening place now → place < length u.traced)
        → AtGiven A E S u u.stage → Now (fed u r)
    unfolding fed
    fed-given within w = elim (cases_Bool (is_given u.stage)) [
      | inl is ↦ given-at within u.stage refl is w
      | inr none ↦ step-else u r (m.other (else-of A E S u u.stage none w)) u.stage (fed u r) none (fed-step u r)
    ]

-- ---- of which process it says that it cannot trace it

-- It opens the process, and a call of that was refused.
pub data IsRefusing (u : TrussState) (r : Reply) (pid : ℕ) (errno : Errno) : Stage → Type 0 where
  at_control : Refuses r errno → IsRefusing u r pid errno (OpeningControl pid)
  at_opening : {place : ℕ} {now : OpeningStep} → (traced_at u place).pid ≡ pid → Refuses r errno
      → IsRefusing u r pid errno (Opening place now)

pub last-same : {X : Type 0} (xs ys : List X) (a b : X) → xs ++ a ∷ [] ≡ ys ++ b ∷ [] → a ≡ b
last-same [] [] a b is = cc
last-same {X} [] (y ∷ ys) a b is =
    absurd (omega (arith, ap (λ (zs : List X). length zs) is, length-append ys (b ∷ [])))
last-same {X} (x ∷ xs) [] a b is =
    absurd (omega (arith, ap (λ (zs : List X). length zs) is, length-append xs (a ∷ [])))
last-same (x ∷ xs) (y ∷ ys) a b is = let rest : xs ++ a ∷ [] ≡ ys ++ b ∷ [] = cc in last-same xs ys a b rest

pub not-longer : {A : Type 0} (xs : List Report) (a : Report) → xs ≡ xs ++ a ∷ [] → A
not-longer xs a is =
    absurd (omega (arith, ap (λ (ys : List Report). length ys) is, length-append xs (a ∷ [])))

module _ (done : List Exchange) (u : TrussState) (r : Reply) (pid : ℕ) (errno : Errno) where
  abbrev told : List Report
  told = u.reports ++ CannotTrace pid errno ∷ []

  other-told : {A : Type 0} (a : Report) → u.reports ++ a ∷ [] ≡ told → (a ≡ CannotTrace pid errno → ⊥) → A
  other-told a is differs = absurd (differs (last-same u.reports u.reports a (CannotTrace pid errno) is))

  shown-told : {A : Type 0} (of : ℕ) (l : LwpStatus) (text : Option (List ℕ × Bool))
      → u.reports ++ Shown of l text ∷ [] ≡ told → A
  shown-told of l text is = other-told (Shown of l text) is (λ same. cc)

  -- the refusal of a control file
  control-told : (of : ℕ) (e : Errno) → Refuses r e → u.reports ++ CannotTrace of e ∷ [] ≡ told
      → IsRefusing u r pid errno (OpeningControl of)
  control-told of e refuses is =
      let same : CannotTrace of e ≡ CannotTrace pid errno = last-same u.reports u.reports _ _ is in
      let same_pid : of ≡ pid = cc in
      let same_errno : e ≡ errno = cc in
      subst (λ p. IsRefusing u r pid errno (OpeningControl p)) (sym same_pid)
      (at_control (subst (Refuses r) same_errno refuses))

  opening-told : (place : ℕ) (now : OpeningStep) (e : Errno) → Refuses r e
      → u.reports ++ CannotTrace (traced_at u place).pid e ∷ [] ≡ told
      → IsRefusing u r pid errno (Opening place now)
  opening-told place now e refuses is =
      let same : CannotTrace (traced_at u place).pid e ≡ CannotTrace pid errno = last-same u.reports u.reports _ _ is in
      let same_pid : (traced_at u place).pid ≡ pid = cc in
      let same_errno : e ≡ errno = cc in at_opening same_pid (subst (Refuses r) same_errno refuses)

  settles-told : (stage : Stage) (given : Bool) (z : TrussState) → Settles u r stage given z → z.reports ≡ told
      → IsRefusing u r pid errno stage
  settles-told stage given z (step.refuses_control {pid = of} e refuses) is = control-told of e refuses is
  settles-told stage given z (step.refuses_start {program = program} e _) is =
      other-told (CannotStart program e) is (λ same. cc)
  settles-told stage given z (step.interrupts_text _ _) is = shown-told _ _ _ is
  settles-told stage given z _ is = not-longer u.reports (CannotTrace pid errno) is

  looks-told : {A : Type 0} (stage : Stage) (place : ℕ) (child : Option ℕ) (z : TrussState)
      → Looks u r stage place child z → z.reports ≡ told → A
  looks-told stage place child z (step.shows _ _ _ _) is = shown-told _ _ _ is
  looks-told stage place child z step.shows_text is = shown-told _ _ _ is
  looks-told stage place child z _ is = not-longer u.reports (CannotTrace pid errno) is

  closes-told : (stage : Stage) (place : ℕ) (after : AfterClosing) (z : TrussState) → Going done stage
      → Closes u r stage place after z → z.reports ≡ told → IsRefusing u r pid errno stage
  closes-told stage place after z w (step.refuses_opening {now = now} e refuses) is =
      opening-told place now e refuses is
  closes-told stage place after z w (step.text_ended _) is = shown-told _ _ _ is
  closes-told stage place after z w (step.refuses_free _ _) is = absurd w
  closes-told stage place after z w (step.refuses_child _ _) is = absurd w
  closes-told stage place after z w _ is = not-longer u.reports (CannotTrace pid errno) is

  returns-told : (stage : Stage) (parent : ℕ) (z : TrussState) → Going done stage → Returns u r stage parent z
      → z.reports ≡ told → IsRefusing u r pid errno stage
  returns-told stage parent z w (step.refuses_child_control _ _) is = absurd w
  returns-told stage parent z w _ is = not-longer u.reports (CannotTrace pid errno) is

  step-told : (stage : Stage) (v : TrussState) → Going done stage → ReplyStep u r stage v → v.reports ≡ told
      → IsRefusing u r pid errno stage
  step-told stage v w (step.settles {given = given} {u = z} settled on) is =
      let it = on-staged on in settles-told stage given z settled (sym it.reports ∙ is)
  step-told stage v w (step.looks {u = z} looked over) is =
      let it = over-staged over in looks-told stage _ _ z looked (sym it.reports ∙ is)
  step-told stage v w (step.closes {place = place} {next = after} {u = z} closes) is =
      closes-told stage place after z w closes is
  step-told stage v w (step.returns {parent = parent} {u = z} returned) is =
      returns-told stage parent z w returned is
  step-told stage v w _ is = not-longer u.reports (CannotTrace pid errno) is

  pub fed-told : Going done u.stage → (fed u r).reports ≡ told → IsRefusing u r pid errno u.stage
  fed-told w is = step-told u.stage (fed u r) w (fed-step u r) is
