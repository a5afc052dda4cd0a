use Rattle.std.proofs.Common.{◌≡◌, ◌≢◌, ◌<◌, ◌+◌, ◌++◌, ℕ, suc, Bool, true, false, cond, Option, Some, None, List, [], ◌∷◌, length, refl, sym, subst, ap, ◌∙◌, arith}
use Rattle.std.proofs.lemmas.Bool.{false≢true}
use Rattle.std.proofs.lemmas.List.{get_or_push, length-append, length-set}
use Rattle.std.proofs.lemmas.List.Elements.{All-head, All-tail}
use Rattle.std.proofs.lemmas.Option.{none-some, same_Some}
use Rattle.std.specs.List.{All}
use Rattle.pr_line.specs.declared.options.Options.{Options}
use Rattle.pr_model.specs.Replies.{handle_in}
use Rattle.pr_model.specs.declared.calls.Reply.{Reply}
use Rattle.pr_model.specs.declared.calls.Reply.TheVariants as reply
use Rattle.pr_truss.specs.Children.{child_learnt, child_step_after, with_child_answered, with_child_control, with_child_control_answered, with_child_started, with_child_step_answered, with_child_step_done, with_freeing_answered, with_freeing_begun}
use Rattle.pr_truss.specs.Closings.{with_next_opening}
use Rattle.pr_truss.specs.Feeding.{fed, with_reply}
use Rattle.pr_truss.specs.NextCalls.{call_of, child_call, freeing_call, next_call_of, open_control, opening_call}
use Rattle.pr_truss.specs.Openings.{at_step, learnt, step_after, with_control, with_control_answered, with_step_answered, with_step_done}
use Rattle.pr_truss.specs.Processes.{newly_traced}
use Rattle.pr_truss.specs.Replies.{answer_of}
use Rattle.pr_truss.specs.Trusses.{TrussState, nobody, traced_at, with_stage, with_traced}
use Rattle.pr_truss.specs.declared.processes.Traced.{Traced}
use Rattle.pr_truss.specs.declared.replies.Answer.{Answer}
use Rattle.pr_truss.specs.declared.replies.Answer.TheVariants.{Accepted, Interrupted, Gone, Refused}
use Rattle.pr_truss.specs.declared.stages.ChildStep.{ChildStep}
use Rattle.pr_truss.specs.declared.stages.ChildStep.TheVariants as child
use Rattle.pr_truss.specs.declared.stages.FreeingStep.{FreeingStep}
use Rattle.pr_truss.specs.declared.stages.FreeingStep.TheVariants as freeing
use Rattle.pr_truss.specs.declared.stages.OpeningStep.{OpeningStep}
use Rattle.pr_truss.specs.declared.stages.OpeningStep.TheVariants as opening
use Rattle.pr_truss.specs.declared.stages.Stage.{Stage}
use Rattle.pr_truss.specs.declared.stages.Stage.TheVariants.{Spawning, OpeningControl, Opening, Polling, ReadingStatus, ReadingText, OpeningChildControl, OpeningChild, Running, Closing, Unfollowing, ReadingLwps, FreeingChild, Finished}
use Rattle.pr_truss_laws.proofs.Files.HeldLemmas.{at_place, set-at}
use Rattle.pr_truss_laws.specs.Exchanges.{Exchange, IsGranted, errno_in, truss_after}
use Rattle.pr_report_laws.proofs.Replies.NextStages.{next_opening-comes}
use Rattle.pr_report_laws.proofs.Replies.OpeningParts.{learnt-pid}
use Rattle.pr_report_laws.proofs.Replies.WatchedPlaces.{IsWatched}

-- An opening of which no call is refused runs to its end, and the process is watched then.

-- ---- replies

-- what is not refused is accepted
pub granted-accepted : (r : Reply) → errno_in r ≡ None → answer_of r ≡ Accepted
unfolding answer_of
granted-accepted (reply.Fail errno) none = absurd (none-some errno (sym none))
granted-accepted _ none = refl

pub granted-first : (x : Exchange) (xs : List Exchange) → All IsGranted (x ∷ xs) → answer_of x.reply ≡ Accepted
granted-first x xs all = let g = All-head IsGranted x xs all in granted-accepted x.reply g.not_refused

pub granted-rest : (x : Exchange) (xs : List Exchange) → All IsGranted (x ∷ xs) → All IsGranted xs
granted-rest x xs all = All-tail IsGranted x xs all

no-more : {X : Type 0} (xs : List X) → length xs ≡ 0 → xs ≡ []
no-more [] none = refl
no-more (x ∷ xs) none = absurd (omega arith)

-- ---- a process that truss was given

-- whether the process has stopped for truss before a step
abbrev has_stopped : OpeningStep → Bool
has_stopped opening.OpenStatus = false
has_stopped opening.OpenLstatus = false
has_stopped opening.OpenMemory = false
has_stopped opening.ClearModes = false
has_stopped opening.SetRelease = false
has_stopped opening.Stop = false
has_stopped (opening.AwaitStop until) = false
has_stopped opening.ReadLwps = true
has_stopped opening.TraceSignals = true
has_stopped opening.TraceFaults = true
has_stopped opening.TraceEntries = true
has_stopped opening.TraceExits = true
has_stopped opening.Follow = true
has_stopped opening.Start = true

abbrev stopped_after : Option OpeningStep → Bool
stopped_after None = true
stopped_after (Some step) = has_stopped step

-- how many steps are left, with this one
abbrev pub steps_left : Bool → OpeningStep → ℕ
steps_left follow opening.OpenStatus = 12 + cond follow 2 1
steps_left follow opening.OpenLstatus = 11 + cond follow 2 1
steps_left follow opening.OpenMemory = 10 + cond follow 2 1
steps_left follow opening.ClearModes = 9 + cond follow 2 1
steps_left follow opening.SetRelease = 8 + cond follow 2 1
steps_left follow opening.Stop = 7 + cond follow 2 1
steps_left follow (opening.AwaitStop until) = 6 + cond follow 2 1
steps_left follow opening.ReadLwps = 5 + cond follow 2 1
steps_left follow opening.TraceSignals = 4 + cond follow 2 1
steps_left follow opening.TraceFaults = 3 + cond follow 2 1
steps_left follow opening.TraceEntries = 2 + cond follow 2 1
steps_left follow opening.TraceExits = 1 + cond follow 2 1
steps_left follow opening.Follow = 2
steps_left follow opening.Start = 1

abbrev pub left_after : Bool → Option OpeningStep → ℕ
left_after follow None = 0
left_after follow (Some step) = steps_left follow step

pub step-left : (o : Options) (r : Reply) (step : OpeningStep)
    → steps_left o.follow step ≡ suc (left_after o.follow (step_after o r step))
unfolding step_after
step-left o r opening.OpenStatus = omega arith
step-left o r opening.OpenLstatus = omega arith
step-left o r opening.OpenMemory = omega arith
step-left o r opening.ClearModes = omega arith
step-left o r opening.SetRelease = omega arith
step-left o r opening.Stop = omega arith
step-left o r (opening.AwaitStop until) = omega arith
step-left o r opening.ReadLwps = omega arith
step-left o r opening.TraceSignals = omega arith
step-left o r opening.TraceFaults = omega arith
step-left o r opening.TraceEntries = omega arith
step-left o r opening.TraceExits =
    elim o.follow as
    (λ b. 1 + cond b 2 1 ≡ suc (steps_left b (cond b opening.Follow opening.Start))) [ true ↦ refl | false ↦ refl ]
step-left o r opening.Follow = refl
step-left o r opening.Start = refl

learnt-attached : (o : Options) (u : Traced) (r : Reply) (step : OpeningStep)
    → (has_stopped step ≡ true → u.attached ≡ true) → stopped_after (step_after o r step) ≡ true
    → (learnt u r step).attached ≡ true
unfolding learnt step_after
learnt-attached o u r opening.OpenStatus on after = absurd (false≢true after)
learnt-attached o u r opening.OpenLstatus on after = absurd (false≢true after)
learnt-attached o u r opening.OpenMemory on after = absurd (false≢true after)
learnt-attached o u r opening.ClearModes on after = absurd (false≢true after)
learnt-attached o u r opening.SetRelease on after = absurd (false≢true after)
learnt-attached o u r opening.Stop on after = absurd (false≢true after)
learnt-attached o u r (opening.AwaitStop until) on after = refl
learnt-attached o u r _ on after = on refl

-- Truss opens the process of an id, at a place, and has come to this step.
pub record IsOpening (t : TrussState) (pid place : ℕ) (step : OpeningStep) : Type 0 where
  pub stage : t.stage ≡ Opening place step
  pub within : place < length t.traced
  pub of : (traced_at t place).pid ≡ pid
  pub on : has_stopped step ≡ true → (traced_at t place).attached ≡ true

-- the reply to a step that was granted
pub step-fed : (t : TrussState) (place : ℕ) (step : OpeningStep) (r : Reply) → t.stage ≡ Opening place step
    → answer_of r ≡ Accepted
    → fed t r ≡ at_step (with_traced t place (learnt (traced_at t place) r step)) place (step_after t.options r step)
unfolding fed with_reply with_step_answered with_step_done
step-fed t place step r stage accepted = ap (with_reply t r) stage ∙ ap (with_step_answered t place step r) accepted

module _ (t : TrussState) (pid place : ℕ) (step : OpeningStep) (x : Exchange) (w : IsOpening t pid place step)
    (granted : answer_of x.reply ≡ Accepted) where
  unfoldable pub learns : Traced
  learns = learnt (traced_at t place) x.reply step

  unfoldable pub stepped : TrussState
  stepped = with_traced t place learns

  there : traced_at stepped place ≡ learns
  unfolding learns stepped
  there = set-at t.traced place (learnt (traced_at t place) x.reply step) w.within

  own : (traced_at stepped place).pid ≡ pid
  unfolding learns
  own = ap (λ (u : Traced). u.pid) there ∙ learnt-pid (traced_at t place) x.reply step ∙ w.of

  still : place < length stepped.traced
  unfolding stepped learns
  still = omega (arith, length-set t.traced place (learnt (traced_at t place) x.reply step), w.within)

  on-after : stopped_after (step_after t.options x.reply step) ≡ true → (traced_at stepped place).attached ≡ true
  unfolding learns
  on-after after =
      ap (λ (u : Traced). u.attached) there ∙ learnt-attached t.options (traced_at t place) x.reply step w.on after

  pub opening-goes : (n : OpeningStep) → step_after t.options x.reply step ≡ Some n
      → IsOpening (with_stage stepped (Opening place n)) pid place n
  opening-goes n is = record {
    stage = refl;
    within = still;
    of = own;
    on = λ stopped. on-after (ap stopped_after is ∙ stopped);
  }

  opening-over : step_after t.options x.reply step ≡ None → IsWatched (with_next_opening stepped) pid place
  opening-over is =
      let c = next_opening-comes stepped in
      let same = ap (λ (ts : List Traced). at_place ts place) c.traced in
      let attached = ap (λ (u : Traced). u.attached) same ∙ on-after (ap stopped_after is) in
      record {
        within = subst (λ (ts : List Traced). place < length ts) (sym c.traced) still;
        of = ap (λ (u : Traced). u.pid) same ∙ own;
        attached = attached;
        here = c.here place attached;
      }

  opening-fed : (xs : List Exchange) (left : length (x ∷ xs) ≡ steps_left t.options.follow step)
      → ((u : TrussState)
      (n : OpeningStep) → IsOpening u pid place n → length xs ≡ steps_left u.options.follow n
      → IsWatched (truss_after u xs) pid place)
      → (n : Option OpeningStep) → step_after t.options x.reply step ≡ n
      → IsWatched (truss_after (at_step stepped place n) xs) pid place
  unfolding stepped
  opening-fed xs left later None is =
      let none : xs ≡ [] =
      no-more xs (omega (arith, left, step-left t.options x.reply step, ap (left_after t.options.follow) is)) in
      subst (λ ys. IsWatched (truss_after (with_next_opening stepped) ys) pid place) (sym none) (opening-over is)
  opening-fed xs left later (Some n) is =
      later (with_stage stepped (Opening place n)) n (opening-goes n is)
      (omega (arith, left, step-left t.options x.reply step, ap (left_after t.options.follow) is))

-- the calls that are left are granted
pub opening-runs : (xs : List Exchange) (t : TrussState) (pid place : ℕ) (step : OpeningStep)
    → IsOpening t pid place step → All IsGranted xs → length xs ≡ steps_left t.options.follow step
    → IsWatched (truss_after t xs) pid place
unfolding stepped learns
opening-runs [] t pid place step w all left = absurd (omega (arith, left, step-left t.options (reply.Done) step))
opening-runs (x ∷ xs) t pid place step w all left =
    let granted = granted-first x xs all in
    subst (λ u. IsWatched (truss_after u xs) pid place) (sym (step-fed t place step x.reply w.stage granted))
    (opening-fed t pid place step x w granted xs left
    (λ u n v. opening-runs xs u pid place n v (granted-rest x xs all)) (step_after t.options x.reply step) refl)

-- ---- the child of a fork

abbrev pub child_left : ChildStep → ℕ
child_left child.SetRelease = 5
child_left child.OpenStatus = 4
child_left child.OpenLstatus = 3
child_left child.OpenMemory = 2
child_left child.Start = 1

abbrev at_start : ChildStep → Bool
at_start child.Start = true
at_start _ = false

-- Truss opens a child, at a place, and has come to this step.
pub record IsFollowing (t : TrussState) (pid parent place : ℕ) (step : ChildStep) : Type 0 where
  pub stage : t.stage ≡ OpeningChild parent place step
  pub within : place < length t.traced
  pub of : (traced_at t place).pid ≡ pid
  pub on : at_start step ≡ true → (traced_at t place).attached ≡ true

pub child-pid : (u : Traced) (r : Reply) (step : ChildStep) → (child_learnt u r step).pid ≡ u.pid
unfolding child_learnt
child-pid u r child.OpenMemory = refl
child-pid u r _ = refl

child-goes : (t : TrussState) (parent place : ℕ) (r : Reply) (step next : ChildStep)
    → child_step_after step ≡ Some next
    → with_child_answered t parent place step r Accepted ≡ with_stage
    (with_traced t place (child_learnt (traced_at t place) r step)) (OpeningChild parent place next)
unfolding with_child_answered with_child_step_answered with_child_step_done child_step_after
child-goes t parent place r child.SetRelease next is =
    ap (λ n. with_stage (with_traced t place (child_learnt (traced_at t place) r child.SetRelease))
    (OpeningChild parent place n)) (same_Some _ next is)
child-goes t parent place r child.OpenStatus next is =
    ap (λ n. with_stage (with_traced t place (child_learnt (traced_at t place) r child.OpenStatus))
    (OpeningChild parent place n)) (same_Some _ next is)
child-goes t parent place r child.OpenLstatus next is =
    ap (λ n. with_stage (with_traced t place (child_learnt (traced_at t place) r child.OpenLstatus))
    (OpeningChild parent place n)) (same_Some _ next is)
child-goes t parent place r child.OpenMemory next is =
    ap (λ n. with_stage (with_traced t place (child_learnt (traced_at t place) r child.OpenMemory))
    (OpeningChild parent place n)) (same_Some _ next is)
child-goes t parent place r child.Start next is = absurd (none-some next is)

-- the reply to a step that was granted
pub child-fed : (t : TrussState) (parent place : ℕ) (step next : ChildStep) (r : Reply)
    → t.stage ≡ OpeningChild parent place step → child_step_after step ≡ Some next → answer_of r ≡ Accepted
    → fed t r ≡ with_stage (with_traced t place (child_learnt (traced_at t place) r step))
    (OpeningChild parent place next)
unfolding fed with_reply
child-fed t parent place step next r stage after accepted =
    ap (with_reply t r) stage ∙ ap (with_child_answered t parent place step r) accepted
    ∙ child-goes t parent place r step next after

-- PCRUN, the last one: only that the child has ended keeps truss from going on
pub child-started : (t : TrussState) (parent place : ℕ) (r : Reply) → t.stage ≡ OpeningChild parent place child.Start
    → answer_of r ≢ Gone → fed t r ≡ with_stage t (Running parent)
unfolding fed with_reply with_child_answered with_child_started
child-started t parent place r stage lives = ap (with_reply t r) stage ∙ by (answer_of r) lives
  where
    by : (a : Answer) → a ≢ Gone → with_child_started t parent place a ≡ with_stage t (Running parent)
    by Accepted not = refl
    by Interrupted not = refl
    by (Refused errno) not = refl
    by Gone not = absurd (not refl)

child-attached : (u : Traced) (r : Reply) (step next : ChildStep) → child_step_after step ≡ Some next
    → at_start next ≡ true → (child_learnt u r step).attached ≡ true
unfolding child_learnt child_step_after
child-attached u r child.SetRelease next is last = absurd (false≢true (ap at_start (same_Some _ next is) ∙ last))
child-attached u r child.OpenStatus next is last = absurd (false≢true (ap at_start (same_Some _ next is) ∙ last))
child-attached u r child.OpenLstatus next is last = absurd (false≢true (ap at_start (same_Some _ next is) ∙ last))
child-attached u r child.OpenMemory next is last = refl
child-attached u r child.Start next is last = absurd (none-some next is)

pub next-left : (step next : ChildStep) → child_step_after step ≡ Some next → child_left step ≡ suc (child_left next)
unfolding child_step_after
next-left child.SetRelease next is = ap (λ n. suc (child_left n)) (same_Some _ next is)
next-left child.OpenStatus next is = ap (λ n. suc (child_left n)) (same_Some _ next is)
next-left child.OpenLstatus next is = ap (λ n. suc (child_left n)) (same_Some _ next is)
next-left child.OpenMemory next is = ap (λ n. suc (child_left n)) (same_Some _ next is)
next-left child.Start next is = absurd (none-some next is)

pub one-left : (step : ChildStep) → child_left step ≡ 1 → step ≡ child.Start
one-left child.Start one = refl
one-left _ one = absurd (omega arith)

more-left : (step : ChildStep) (n : ℕ) → child_left step ≡ suc (suc n)
    → (next : ChildStep) × (child_step_after step ≡ Some next)
unfolding child_step_after
more-left child.SetRelease n more = (child.OpenStatus, refl)
more-left child.OpenStatus n more = (child.OpenLstatus, refl)
more-left child.OpenLstatus n more = (child.OpenMemory, refl)
more-left child.OpenMemory n more = (child.Start, refl)
more-left child.Start n more = absurd (omega arith)

module _ (t : TrussState) (pid parent place : ℕ) (step : ChildStep) (x : Exchange)
    (w : IsFollowing t pid parent place step) where
  abbrev child_next : TrussState
  child_next = with_traced t place (child_learnt (traced_at t place) x.reply step)

  child-there : traced_at child_next place ≡ child_learnt (traced_at t place) x.reply step
  child-there = set-at t.traced place (child_learnt (traced_at t place) x.reply step) w.within

  child-follows : (n : ChildStep) → child_step_after step ≡ Some n
      → IsFollowing (with_stage child_next (OpeningChild parent place n)) pid parent place n
  child-follows n is = record {
    stage = refl;
    within = omega (arith, length-set t.traced place (child_learnt (traced_at t place) x.reply step), w.within);
    of = ap (λ (u : Traced). u.pid) child-there ∙ child-pid (traced_at t place) x.reply step ∙ w.of;
    on =
        λ last. ap (λ (u : Traced). u.attached) child-there ∙ child-attached (traced_at t place) x.reply step n is last;
  }

  -- the last call
  pub child-over : child_left step ≡ 1 → answer_of x.reply ≢ Gone → IsWatched (fed t x.reply) pid place
  child-over one not_gone =
      let last = one-left step one in
      let stage : t.stage ≡ OpeningChild parent place child.Start =
      w.stage ∙ ap (λ s. OpeningChild parent place s) last in
      let over : IsWatched (with_stage t (Running parent)) pid place = record {
        within = w.within;
        of = w.of;
        attached = w.on (ap at_start last);
        here = refl;
      } in
      subst (λ u. IsWatched u pid place) (sym (child-started t parent place x.reply stage not_gone)) over

  -- one before it
  child-goes_on : (xs : List Exchange) → suc (length (x ∷ xs)) ≡ child_left step → answer_of x.reply ≡ Accepted
      → ((u : TrussState) (n : ChildStep) → IsFollowing u pid parent place n → suc (length xs) ≡ child_left n →
      (m : ChildStep) × ((child_left m ≡ 1) × IsFollowing (truss_after u xs) pid parent place m))
      → (m : ChildStep) × ((child_left m ≡ 1) × IsFollowing (truss_after (fed t x.reply) xs) pid parent place m)
  child-goes_on xs left granted later =
      let n = more-left step (length xs) (sym left) in
      let rest =
      later (with_stage child_next (OpeningChild parent place n.0)) n.0 (child-follows n.0 n.1)
      (omega (arith, left, next-left step n.0 n.1)) in (
        rest.0,
        (
          rest.1.0,
          subst (λ u. IsFollowing (truss_after u xs) pid parent place rest.0)
              (sym (child-fed t parent place step n.0 x.reply w.stage n.1 granted)) rest.1.1,
        ),
      )

-- all calls but the last one are granted
pub child-runs : (xs : List Exchange) (t : TrussState) (pid parent place : ℕ) (step : ChildStep)
    → IsFollowing t pid parent place step → All IsGranted xs → suc (length xs) ≡ child_left step
    → (m : ChildStep) × ((child_left m ≡ 1) × IsFollowing (truss_after t xs) pid parent place m)
child-runs [] t pid parent place step w all left = (step, (sym left, w))
child-runs (x ∷ xs) t pid parent place step w all left =
    child-goes_on t pid parent place step x w xs left (granted-first x xs all)
    (λ u n v. child-runs xs u pid parent place n v (granted-rest x xs all))

-- ---- the control file, with which each opening begins

-- the stages that open the control file of a process
pub data OpensControl (pid : ℕ) (stage : Stage) : Type 0 where
  given : stage ≡ OpeningControl pid → OpensControl pid stage
  born : (parent : ℕ) → stage ≡ OpeningChildControl parent pid → OpensControl pid stage
  freed : stage ≡ FreeingChild pid freeing.OpenControl → OpensControl pid stage

pid-opened : (a b : ℕ) → Some (open_control a) ≡ Some (open_control b) → a ≡ b
pid-opened a b is = cc

no-control : (o : Options) (u : Traced) (pid : ℕ) (step : OpeningStep)
    → Some (opening_call o u step) ≡ Some (open_control pid) → ⊥
unfolding opening_call
no-control o u pid opening.OpenStatus is = cc
no-control o u pid _ is = cc

no-child-control : (u : Traced) (pid : ℕ) (step : ChildStep) → Some (child_call u step) ≡ Some (open_control pid) → ⊥
unfolding child_call
no-child-control u pid child.SetRelease is = cc
no-child-control u pid _ is = cc

freeing-control : (of pid : ℕ) (step : FreeingStep) → Some (freeing_call of step) ≡ Some (open_control pid)
    → OpensControl pid (FreeingChild of step)
unfolding freeing_call
freeing-control of pid freeing.OpenControl is =
    freed (ap (λ n. FreeingChild n freeing.OpenControl) (pid-opened of pid is))
freeing-control of pid (freeing.SetRelease control) is = cc
freeing-control of pid (freeing.Close control) is = cc

stage-control : (t : TrussState) (pid : ℕ) (stage : Stage) → call_of t stage ≡ Some (open_control pid)
    → OpensControl pid stage
unfolding call_of
stage-control t pid (Spawning program) is = cc
stage-control t pid (OpeningControl of) is = given (ap OpeningControl (pid-opened of pid is))
stage-control t pid (Opening place step) is = absurd (no-control t.options (traced_at t place) pid step is)
stage-control t pid Polling is = cc
stage-control t pid (ReadingStatus place) is = cc
stage-control t pid (ReadingText place l from len) is = cc
stage-control t pid (OpeningChildControl parent of) is =
    born parent (ap (λ n. OpeningChildControl parent n) (pid-opened of pid is))
stage-control t pid (OpeningChild parent place step) is = absurd (no-child-control (traced_at t place) pid step is)
stage-control t pid (Running place) is = cc
stage-control t pid (Closing place next) is = cc
stage-control t pid Unfollowing is = cc
stage-control t pid ReadingLwps is = cc
stage-control t pid (FreeingChild of step) is = freeing-control of pid step is
stage-control t pid Finished is = cc

pub opens-control : (t : TrussState) (pid : ℕ) → next_call_of t ≡ Some (open_control pid) → OpensControl pid t.stage
unfolding next_call_of
opens-control t pid is = stage-control t pid t.stage is

-- it was granted
module _ (t : TrussState) (pid : ℕ) (r : Reply) (accepted : answer_of r ≡ Accepted) where
  pub given-fed : t.stage ≡ OpeningControl pid → fed t r ≡ with_control t pid (handle_in r)
  unfolding fed with_reply with_control_answered
  given-fed is = ap (with_reply t r) is ∙ ap (with_control_answered t pid r) accepted

  pub born-fed : (parent : ℕ) → t.stage ≡ OpeningChildControl parent pid
      → fed t r ≡ with_child_control t parent pid (handle_in r)
  unfolding fed with_reply with_child_control_answered
  born-fed parent is = ap (with_reply t r) is ∙ ap (with_child_control_answered t parent pid r) accepted

  pub freed-fed : t.stage ≡ FreeingChild pid freeing.OpenControl
      → fed t r ≡ with_stage t (FreeingChild pid (freeing.SetRelease (handle_in r)))
  unfolding fed with_reply with_freeing_answered with_freeing_begun
  freed-fed is = ap (with_reply t r) is ∙ ap (with_freeing_begun t pid r) accepted

last-new : (ts : List Traced) (u : Traced) → at_place (ts ++ u ∷ []) (length ts) ≡ u
last-new ts u = get_or_push ts u nobody (length ts) refl

new-within : (ts : List Traced) (u : Traced) → length ts < length (ts ++ u ∷ [])
new-within ts u = omega (arith, length-append ts (u ∷ []))

pub given-opening : (t : TrussState) (pid control : ℕ)
    → IsOpening (with_control t pid control) pid (length t.traced) opening.OpenStatus
unfolding with_control newly_traced
given-opening t pid control = record {
  stage = refl;
  within = new-within t.traced (newly_traced pid control);
  of = ap (λ (u : Traced). u.pid) (last-new t.traced (newly_traced pid control));
  on = λ never. absurd (false≢true never);
}

pub born-following : (t : TrussState) (parent pid control : ℕ)
    → IsFollowing (with_child_control t parent pid control) pid parent (length t.traced) child.SetRelease
unfolding with_child_control newly_traced
born-following t parent pid control = record {
  stage = refl;
  within = new-within t.traced (newly_traced pid control);
  of = ap (λ (u : Traced). u.pid) (last-new t.traced (newly_traced pid control));
  on = λ never. absurd (false≢true never);
}
