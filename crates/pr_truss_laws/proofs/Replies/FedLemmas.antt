use Rattle.std.proofs.Common.{◌≡◌, ◌==◌, ◌&&◌, ◌<◌, ◌≤◌, ◌+◌, ℕ, Bool, true, false, cond, Option, Some, None, List, [], ◌∷◌, ◌++◌, length, refl, sym, subst, ap, ◌∙◌, arith}
use Rattle.std.proofs.lemmas.Bool.{eq-eqb}
use Rattle.std.proofs.lemmas.List.Sums.{sum_by-set}
use Rattle.std.specs.List.{slice_set, sum_by, remove}
use Rattle.pr_model.specs.Replies.{handle_in}
use Rattle.pr_model.specs.declared.calls.Call.{Call}
use Rattle.pr_model.specs.declared.calls.Call.TheVariants as call
use Rattle.pr_model.specs.declared.calls.Reply.{Reply}
use Rattle.pr_rec.specs.declared.lwps.LwpStatus.{LwpStatus}
use Rattle.pr_truss.specs.Children.{child_learnt}
use Rattle.pr_truss.specs.Feeding.{fed}
use Rattle.pr_truss.specs.NextCalls.{call_of, child_call, freeing_call, next_call_of, opening_call}
use Rattle.pr_truss.specs.Openings.{learnt}
use Rattle.pr_truss.specs.Processes.{last_handle, newly_traced, without_last}
use Rattle.pr_truss.specs.Replies.{answer_of}
use Rattle.pr_truss.specs.Trusses.{TrussState, nobody, traced_at}
use Rattle.pr_truss.specs.declared.processes.Traced.{Traced}
use Rattle.pr_truss.specs.declared.replies.Answer.{Answer}
use Rattle.pr_truss.specs.declared.replies.Answer.TheVariants.{Accepted}
use Rattle.pr_truss.specs.declared.stages.AfterClosing.{AfterClosing}
use Rattle.pr_truss.specs.declared.stages.ChildStep.{ChildStep}
use Rattle.pr_truss.specs.declared.stages.ChildStep.TheVariants as child
use Rattle.pr_truss.specs.declared.stages.FreeingStep.TheVariants as freeing
use Rattle.pr_truss.specs.declared.stages.OpeningStep.{OpeningStep}
use Rattle.pr_truss.specs.declared.stages.OpeningStep.TheVariants as opening
use Rattle.pr_truss.specs.declared.stages.Stage.{Stage}
use Rattle.pr_truss.specs.declared.stages.Stage.TheVariants.{Opening, OpeningChild, FreeingChild}
use Rattle.pr_truss_laws.proofs.Files.HeldLemmas.{Fits, IsFresh, IsFreshChild, append-sum, at_place, at-sum, by_last, handles_in, held, is_this, of_stage, of_traced, remove-sum, set-sum, unit}
use Rattle.pr_truss_laws.proofs.Replies.ReplySteps as step
use Rattle.pr_truss_laws.proofs.Replies.ReplySteps.{Closes, GoesOn, Looks, Reads, ReplyStep, Settles, StopOver, accepts, refused-other}
use Rattle.pr_truss_laws.proofs.Replies.FedSteps.{fed-step}
use Rattle.pr_truss_laws.proofs.Replies.FitLemmas.{last-within, parent-within, reads-within}

-- What each reply does to the files that truss holds open: it remembers the handles that it was given, and forgets
-- those that it closes.

-- ---- handles

-- a handle that an open of a process was given, where it was granted
abbrev pub gives : Answer → ℕ → ℕ → ℕ → ℕ → ℕ
gives Accepted of handle pid h = unit ((of == pid) && (handle == h))
gives _ of handle pid h = 0

-- a file of a process that truss remembers was closed
pub record Gives (s : TrussState) (pid h handle n m : ℕ) : Type 0 where
  pub of : ℕ
  pub remembered : 1 ≤ held of handle s
  pub less : m + unit ((of == pid) && (handle == h)) ≡ n

-- How often a handle of a process is remembered before a call and after its reply.
abbrev pub Changes : TrussState → ℕ → ℕ → Reply → Option Call → ℕ → ℕ → Type 0
Changes s pid h r (Some (call.Open of id file mode)) n m = m ≡ n + gives (answer_of r) of (handle_in r) pid h
Changes s pid h r (Some (call.Close handle)) n m = Gives s pid h handle n m
Changes s pid h r _ n m = m ≡ n

none-given : (a : Answer) (of handle pid h : ℕ) → accepts a ≡ false → gives a of handle pid h ≡ 0
none-given Accepted of handle pid h not = cc
none-given _ of handle pid h not = refl

eqb-self : (n : ℕ) → (n == n) ≡ true
eqb-self n = eq-eqb n n refl

-- how many handles a process with one file less holds
abbrev LessBy : ℕ → Traced → Option Traced → Type 0
LessBy h t None = handles_in h t ≡ 0 + unit (last_handle t == h)
LessBy h t (Some u) = (handles_in h t ≡ handles_in h u + unit (last_handle t == h)) × (u.pid ≡ t.pid)

less-by : (h : ℕ) (t : Traced) (left : Option Traced) → without_last t ≡ left → LessBy h t left
unfolding handles_in last_handle without_last
less-by h t left is = subst (LessBy h t) is (by_last (λ v. LessBy h v (without_last v)) t
    (λ m l s. (omega arith, refl)) (λ l s. (omega arith, refl)) (λ s. (omega arith, refl)) (omega arith))

-- the handle that is closed is remembered
last-remembered : (s : TrussState) (place : ℕ) → place < length s.traced
    → 1 ≤ held (traced_at s place).pid (last_handle (traced_at s place)) s
unfolding held of_traced
last-remembered s place within =
    let t = traced_at s place in
    let all : of_traced t.pid (last_handle t) t ≡ handles_in (last_handle t) t =
    ap (λ b. cond b (handles_in (last_handle t) t) 0) (eqb-self t.pid) in
    omega (arith, own t (without_last t) refl, all, at-sum (of_traced t.pid (last_handle t)) s.traced place within)
  where
    own : (t : Traced) (left : Option Traced) → without_last t ≡ left → 1 ≤ handles_in (last_handle t) t
    own t None is = omega (arith, less-by (last_handle t) t None is, ap unit (eqb-self (last_handle t)))
    own t (Some u) is =
        let less = less-by (last_handle t) t (Some u) is in
        omega (arith, less.0, ap unit (eqb-self (last_handle t)))

-- a child that is set free has one control handle
pub freed-once : (of control : ℕ) → unit ((of == of) && (control == control)) ≡ 1
freed-once of control = ap unit (ap (λ b. b && (control == control)) (eqb-self of) ∙ eqb-self control)

freed-remembered : (s : TrussState) (of control : ℕ) → s.stage ≡ FreeingChild of (freeing.Close control)
    → 1 ≤ held of control s
unfolding held
freed-remembered s of control at =
    omega (arith, ap (of_stage of control) at, freed-once of control)

abbrev is_close : Option Call → Bool
is_close (Some (call.Close handle)) = true
is_close _ = false

module _ (pid h : ℕ) where
  abbrev sum : List Traced → ℕ
  sum ts = sum_by (of_traced pid h) ts

  -- how often the handle is remembered at a state
  abbrev here : TrussState → ℕ
  here u = sum u.traced + of_stage pid h u.stage

  abbrev this_file : ℕ → ℕ → ℕ
  this_file of handle = unit ((of == pid) && (handle == h))

  -- one file more of a process is open
  one-more : (b c : Bool) (x y : ℕ) → y ≡ x + unit c → cond b y 0 ≡ cond b x 0 + unit (b && c)
  one-more true c x y e = e
  one-more false c x y e = refl

  new-count : (of control : ℕ) → of_traced pid h (newly_traced of control) ≡ this_file of control
  unfolding of_traced handles_in newly_traced
  new-count of control = by (of == pid)
    where
      by : (b : Bool) → cond b (unit (control == h) + 0 + 0 + 0) 0 ≡ unit (b && (control == h))
      by true = omega arith
      by false = refl

  on-here : (u v : TrussState) (given : Bool) → GoesOn u given v → here v ≡ sum u.traced + 0
  on-here u v given (step.polls _ _) = refl
  on-here u v given _ = refl

  over-here : (u v : TrussState) (place : ℕ) (child : Option ℕ) → StopOver u place child v → here v ≡ sum u.traced + 0
  over-here u v place child (step.runs _) = refl
  over-here u v place child _ = refl

  -- a process becomes another one that holds as much
  same-sum : (ts : List Traced) (place : ℕ) (t : Traced) → place < length ts
      → of_traced pid h t ≡ of_traced pid h (at_place ts place) → sum (slice_set ts place t) + 0 ≡ sum ts + 0
  same-sum ts place t within same = omega (arith, set-sum (of_traced pid h) ts place 0 t within (omega (arith, same)))

  seen-sum : (ts : List Traced) (place : ℕ) → place < length ts
      → sum (slice_set ts place (record (at_place ts place) { seen = true })) + 0 ≡ sum ts + 0
  unfolding of_traced handles_in
  seen-sum ts place within = same-sum ts place _ within refl

  module _ (s : TrussState) (r : Reply) where
    -- how often it is remembered where so many were before, after this call
    abbrev Change : Stage → ℕ → Type 0
    Change stage m = Changes s pid h r (call_of s stage) (sum s.traced + of_stage pid h stage) m

    abbrev gift : ℕ → ℕ
    gift of = gives (answer_of r) of (handle_in r) pid h

    given : (of n : ℕ) → answer_of r ≡ Accepted → n + this_file of (handle_in r) ≡ n + gift of
    given of n is = ap (λ a. n + gives a of (handle_in r) pid h) (sym is)

    -- a call that is no close and was not granted
    ungiven : (stage : Stage) (m : ℕ) → is_close (call_of s stage) ≡ false → accepts (answer_of r) ≡ false
        → m ≡ sum s.traced + of_stage pid h stage → Change stage m
    ungiven stage m kept not same = by (call_of s stage) kept
      where
        by : (c : Option Call) → is_close c ≡ false → Changes s pid h r c (sum s.traced + of_stage pid h stage) m
        by (Some (call.Open of id file mode)) other =
            omega (arith, same, none-given (answer_of r) of (handle_in r) pid h not)
        by (Some (call.Close handle)) other = cc
        by None other = same
        by (Some _) other = same

    module _ (place : ℕ) (within : place < length s.traced) where
      abbrev its : Traced
      its = traced_at s place

      file-sum : (t : Traced) → answer_of r ≡ Accepted → t.pid ≡ its.pid
          → handles_in h t ≡ handles_in h its + unit (handle_in r == h)
          → sum (slice_set s.traced place t) + 0 ≡ sum s.traced + 0 + gift its.pid
      unfolding of_traced
      file-sum t is same more =
          let its_more : of_traced pid h t ≡ of_traced pid h its + this_file its.pid (handle_in r) =
          ap (λ p. cond (p == pid) (handles_in h t) 0) same
          ∙ one-more (its.pid == pid) (handle_in r == h) (handles_in h its) _ more in
          omega (arith, set-sum (of_traced pid h) s.traced place _ t within its_more, given its.pid 0 is)

      free : (o : Option ℕ) → o ≡ None → unit (is_this h o) ≡ 0
      free o e = ap (λ x. unit (is_this h x)) e

      opening-change : (now : OpeningStep) → IsFresh its now → answer_of r ≡ Accepted
          → Changes s pid h r (Some (opening_call s.options its now)) (sum s.traced + 0)
          (sum (slice_set s.traced place (learnt its r now)) + 0)
      unfolding opening_call learnt of_traced handles_in
      opening-change opening.OpenStatus f is = file-sum _ is refl (omega (arith, free its.status f.status))
      opening-change opening.OpenLstatus f is = file-sum _ is refl (omega (arith, free its.lstatus f.lstatus))
      opening-change opening.OpenMemory f is = file-sum _ is refl (omega (arith, free its.memory f))
      opening-change _ f is = same-sum s.traced place _ within refl

      child-change : (now : ChildStep) → IsFreshChild its now → answer_of r ≡ Accepted
          → Changes s pid h r (Some (child_call its now)) (sum s.traced + 0)
          (sum (slice_set s.traced place (child_learnt its r now)) + 0)
      unfolding child_call child_learnt of_traced handles_in
      child-change child.OpenStatus f is = file-sum _ is refl (omega (arith, free its.status f.status))
      child-change child.OpenLstatus f is = file-sum _ is refl (omega (arith, free its.lstatus f.lstatus))
      child-change child.OpenMemory f is = file-sum _ is refl (omega (arith, free its.memory f))
      child-change _ f is = same-sum s.traced place _ within refl

      -- one file less, and the last one
      less : (t : Traced) → without_last its ≡ Some t
          → Gives s pid h (last_handle its) (sum s.traced + 0) (sum (slice_set s.traced place t) + 0)
      unfolding of_traced
      less t is =
          let less = less-by h its (Some t) is in
          let same : cond (t.pid == pid) (handles_in h t) 0 ≡ cond (its.pid == pid) (handles_in h t) 0 =
          ap (λ p. cond (p == pid) (handles_in h t) 0) less.1 in
          let one = one-more (its.pid == pid) (last_handle its == h) (handles_in h t) (handles_in h its) less.0 in
          record {
            of = its.pid;
            remembered = last-remembered s place within;
            less = omega (arith, sum_by-set (of_traced pid h) s.traced place t nobody within, same, one);
          }

      removed : without_last its ≡ None
          → Gives s pid h (last_handle its) (sum s.traced + 0) (sum (remove s.traced place) + 0)
      unfolding of_traced
      removed is =
          let one = one-more (its.pid == pid) (last_handle its == h) 0 (handles_in h its) (less-by h its None is) in
          record {
            of = its.pid;
            remembered = last-remembered s place within;
            less = omega (arith, remove-sum (of_traced pid h) s.traced place within, one, never (its.pid == pid));
          }
        where
          never : (b : Bool) → cond {A = ℕ} b 0 0 ≡ 0
          never true = refl
          never false = refl

    -- ---- every kind of step

    -- the calls of an opening close nothing
    opening-kept : (place : ℕ) (now : OpeningStep) → is_close (call_of s (Opening place now)) ≡ false
    unfolding call_of opening_call
    opening-kept place opening.OpenStatus = refl
    opening-kept place _ = refl

    child-kept : (parent place : ℕ) (now : ChildStep) → is_close (call_of s (OpeningChild parent place now)) ≡ false
    unfolding call_of child_call
    child-kept parent place child.OpenStatus = refl
    child-kept parent place _ = refl

    settles-change : (stage : Stage) (opens : Bool) (u : TrussState) → Fits s.traced stage → Settles s r stage opens u
        → Change stage (sum u.traced + 0)
    unfolding call_of
    settles-change stage opens u f (step.interrupts_control is) = ungiven stage _ refl (ap accepts is) refl
    settles-change stage opens u f (step.interrupts_opening {place = place} {now = now} is) =
        ungiven stage _ (opening-kept place now) (ap accepts is) (seen-sum s.traced place f.0)
    settles-change stage opens u f (step.interrupts_text {place = place} is off) = seen-sum s.traced place f
    settles-change stage opens u f (step.interrupts_child_control {parent = parent} is) =
        ungiven stage _ refl (ap accepts is) (seen-sum s.traced parent f)
    settles-change stage opens u f (step.interrupts_child {parent = parent} {place = place} {now = now} is) =
        ungiven stage _ (child-kept parent place now) (ap accepts is)
        (seen-sum s.traced parent (parent-within s.traced parent place f.0))
    settles-change stage opens u f (step.interrupts_run {place = place} is) = seen-sum s.traced place f
    settles-change stage opens u f (step.refuses_control errno not) =
        ungiven stage _ refl (refused-other r errno not) refl
    settles-change stage opens u f (step.ends_opening {place = place} {now = now} is _) =
        opening-change place f.0 now f.1 is
    settles-change stage opens u f (step.closed_next {place = place} is) = removed place f.0 is
    settles-change stage opens u f (step.closed {place = place} is) = removed place f.0 is
    settles-change stage opens u f _ = refl

    reads-change : (stage : Stage) (place : ℕ) (l : Option LwpStatus) → Reads s r stage place l → (m : ℕ)
        → m ≡ sum s.traced + 0 → Change stage m
    unfolding call_of
    reads-change stage place l (step.reads_lwps _) m same = same
    reads-change stage place l _ m same = same

    looks-change : (stage : Stage) (place : ℕ) (child : Option ℕ) (u : TrussState) → Fits s.traced stage
        → Looks s r stage place child u
        → Change stage (sum u.traced + 0)
    unfolding call_of of_traced handles_in
    looks-change stage place child u f (step.passes w) = reads-change stage place _ w.reads _ refl
    looks-change stage place child u f (step.passes_old reads _ _) =
        reads-change stage place _ reads _ (same-sum s.traced place _ (reads-within s r stage place _ f reads) refl)
    looks-change stage place child u f (step.passes_event reads _ _) = reads-change stage place _ reads _ refl
    looks-change stage place child u f (step.shows reads _ _ _) = reads-change stage place _ reads _ refl
    looks-change stage place child u f step.shows_text = refl

    closes-change : (stage : Stage) (place : ℕ) (next : AfterClosing) (u : TrussState) → s.stage ≡ stage
        → Closes s r stage place next u
        → Change stage (sum u.traced + 0)
    unfolding call_of child_call freeing_call
    closes-change stage place next u at (step.freed_last {pid = of} {control = control}) =
        record { of = of; remembered = freed-remembered s of control at; less = omega arith }
    closes-change stage place next u at (step.freed_none is) = ungiven stage _ refl (ap accepts is) refl
    closes-change stage place next u at (step.refuses_free errno not) =
        ungiven stage _ refl (refused-other r errno not) refl
    closes-change stage place next u at (step.refuses_opening {now = now} errno not) =
        ungiven stage _ (opening-kept place now) (refused-other r errno not) refl
    closes-change stage place next u at (step.refuses_child {parent = parent} {now = now} errno not) =
        ungiven stage _ (child-kept parent place now) (refused-other r errno not) refl
    closes-change stage place next u at _ = refl

    opened-sum : (of : ℕ) → answer_of r ≡ Accepted
        → sum (s.traced ++ newly_traced of (handle_in r) ∷ []) + 0 ≡ sum s.traced + 0 + gift of
    opened-sum of is =
        let new : Traced = newly_traced of (handle_in r) in
        omega (arith, append-sum (of_traced pid h) s.traced new, new-count of (handle_in r), given of 0 is)

    step-changes : (stage : Stage) (v : TrussState) → s.stage ≡ stage → Fits s.traced stage → ReplyStep s r stage v
        → Change stage (here v)
    unfolding call_of child_call freeing_call
    step-changes stage v at f (step.settles w on) =
        subst (Change stage) (sym (on-here _ v _ on)) (settles-change stage _ _ f w)
    step-changes stage v at f (step.looks w over) =
        subst (Change stage) (sym (over-here _ v _ _ over)) (looks-change stage _ _ _ f w)
    step-changes stage v at f (step.asks reads _ _ _) = reads-change stage _ _ reads _ refl
    step-changes stage v at f (step.closes w) = closes-change stage _ _ _ at w
    step-changes stage v at f (step.loses {place = place} is) = less place f.0 _ is
    step-changes stage v at f (step.opens is (step.new_given {pid = of})) = opened-sum of is
    step-changes stage v at f (step.opens is (step.new_child {pid = of})) = opened-sum of is
    step-changes stage v at f (step.learns is (step.opening_goes {place = place} {now = now} _)) =
        opening-change place f.0 now f.1 is
    step-changes stage v at f (step.learns is (step.child_goes {parent = parent} {place = place} {now = now} _)) =
        child-change place (last-within s.traced parent place f.0) now f.1 is
    step-changes stage v at f (step.returns (step.refuses_child_control errno not)) =
        ungiven stage _ refl (refused-other r errno not) refl
    step-changes stage v at f (step.returns (step.child_runs _)) = refl
    step-changes stage v at f (step.returns (step.child_closed {place = place} is)) = removed place f.0 is
    step-changes stage v at f (step.turns (step.frees {pid = of} is)) = omega (arith, given of 0 is)
    step-changes stage v at f (step.turns _) = refl

-- How often a handle of a process is remembered before a reply and then.
pub fed-changes : (pid h : ℕ) (r : Reply) (s : TrussState) → Fits s.traced s.stage
    → Changes s pid h r (next_call_of s) (held pid h s) (held pid h (fed s r))
unfolding next_call_of held
fed-changes pid h r s f = step-changes pid h s r s.stage (fed s r) refl f (fed-step s r)
