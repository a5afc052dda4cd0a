use Rattle.std.proofs.Common.{◌≡◌, ◌<◌, ◌≤◌, ◌+◌, ◌-◌, ◌*◌, ◌⊎◌, ℕ, zero, suc, Bool, true, false, cond, Option, Some, None, List, [], ◌∷◌, length, refl, sym, subst, ap, ◌∙◌, arith, inl, inr}
use Rattle.std.proofs.lemmas.Bool.{false≢true}
use Rattle.std.proofs.lemmas.List.{get_or-set_other, length-set}
use Rattle.std.proofs.lemmas.List.Edits.{get_or-remove_above, length-remove}
use Rattle.std.proofs.lemmas.List.Elements.{All-head, All-tail}
use Rattle.std.proofs.lemmas.Option.{same_Some}
use Rattle.std.specs.List.{All, remove, slice_get, slice_set}
use Rattle.std.specs.Option.{option_and_then}
use Rattle.pr_model.specs.Replies.{bytes_in}
use Rattle.pr_model.specs.declared.calls.Call.TheVariants as call
use Rattle.pr_model.specs.declared.calls.Reply.{Reply}
use Rattle.pr_num.specs.declared.errnos.Errno.TheVariants.{Noent}
use Rattle.pr_rec.specs.declared.lwps.LwpStatus.{LwpStatus}
use Rattle.pr_truss.specs.Children.{with_freeing_answered, with_freeing_begun, with_refused_freeing}
use Rattle.pr_truss.specs.Closings.{after_closing, closed_or_removed, left_or_finished, with_closed, with_closing, with_going_on, with_interrupt, with_next_left}
use Rattle.pr_truss.specs.Feeding.{fed, with_reply}
use Rattle.pr_truss.specs.NextCalls.{call_of, next_call_of, run_call}
use Rattle.pr_truss.specs.Processes.{last_handle, without_last}
use Rattle.pr_truss.specs.Records.{event_stops, status_lwp}
use Rattle.pr_truss.specs.Replies.{answer_of}
use Rattle.pr_truss.specs.Stops.{after_text, text_of, with_event_over, with_event_shown, with_lwps_answered, with_status_answered, with_stop_over, with_stop_read, with_text_answered, with_unfollowed}
use Rattle.pr_truss.specs.Trusses.{TrussState, nobody, traced_at, with_stage, with_traced, without_traced}
use Rattle.pr_truss.specs.declared.marks.Marks.{Marks}
use Rattle.pr_truss.specs.declared.processes.Traced.{Traced}
use Rattle.pr_truss.specs.declared.replies.Answer.{Answer}
use Rattle.pr_truss.specs.declared.replies.Answer.TheVariants.{Accepted, Interrupted, Gone, Refused}
use Rattle.pr_truss.specs.declared.reports.Report.TheVariants.{CannotTrace}
use Rattle.pr_truss.specs.declared.stages.AfterClosing.TheVariants.{OpenNext, GoOn, RunParent}
use Rattle.pr_truss.specs.declared.stages.FreeingStep.{FreeingStep}
use Rattle.pr_truss.specs.declared.stages.FreeingStep.TheVariants as freeing
use Rattle.pr_truss.specs.declared.stages.Stage.{Stage}
use Rattle.pr_truss.specs.declared.stages.Stage.TheVariants.{Spawning, OpeningControl, Opening, Polling, ReadingStatus, ReadingText, OpeningChildControl, OpeningChild, Running, Closing, Unfollowing, ReadingLwps, FreeingChild, Finished}
use Rattle.pr_truss_laws.proofs.Files.HeldLemmas.{at_place, set-at}
use Rattle.pr_truss_laws.proofs.Soon.LookLemmas.{Alike, SameFiles, alike-reported, alike-self, alike-shown, event-over, same-files-both, seen-over, stop-read}
use Rattle.pr_truss_laws.specs.Exchanges.{Exchange, Makes, truss_after}
use Rattle.pr_truss_laws.specs.Polled.{IsNoEndOf, IsNoFileOf}

-- How soon truss, once it leaves its processes, comes to the first close of one of them.

-- ---- the files of a process

abbrev pub unit_some : Option ℕ → ℕ
unit_some None = 0
unit_some (Some h) = 1

some-most : (o : Option ℕ) → unit_some o ≤ 1
some-most None = omega arith
some-most (Some h) = omega arith

-- how many of them are open
unfoldable pub files : Traced → ℕ
files t = 1 + unit_some t.status + unit_some t.lstatus + unit_some t.memory

pub files-most : (t : Traced) → files t ≤ 4
unfolding files
files-most t = omega (arith, some-most t.status, some-most t.lstatus, some-most t.memory)

abbrev pub OneLess : Traced → Option Traced → Type 0
OneLess t None = files t ≡ 1
OneLess t (Some u) = files u + 1 ≡ files t

one-less-fields : (pid control : ℕ) (status lstatus memory : Option ℕ) (attached : Bool) (old : ℕ) (seen : Bool)
    (marks : Marks)
    → OneLess
    (record {
      pid = pid;
      control = control;
      status = status;
      lstatus = lstatus;
      memory = memory;
      attached = attached;
      old = old;
      seen = seen;
      marks = marks;
    }) (without_last
    (record {
      pid = pid;
      control = control;
      status = status;
      lstatus = lstatus;
      memory = memory;
      attached =
          attached;
      old = old;
      seen = seen;
      marks = marks;
    }))
unfolding files without_last
one-less-fields pid control status lstatus (Some m) attached old seen marks = omega arith
one-less-fields pid control status (Some l) None attached old seen marks = omega arith
one-less-fields pid control (Some s) None None attached old seen marks = omega arith
one-less-fields pid control None None None attached old seen marks = omega arith

pub one-less : (t : Traced) → OneLess t (without_last t)
one-less t = one-less-fields t.pid t.control t.status t.lstatus t.memory t.attached t.old t.seen t.marks

-- the file that is closed first is one of them
last-fields : (pid control : ℕ) (status lstatus memory : Option ℕ) (attached : Bool) (old : ℕ) (seen : Bool)
    (marks : Marks)
    → IsNoFileOf
    (record {
      pid = pid;
      control = control;
      status = status;
      lstatus = lstatus;
      memory = memory;
      attached = attached;
      old = old;
      seen = seen;
      marks = marks;
    }) (last_handle
    (record {
      pid = pid;
      control = control;
      status = status;
      lstatus = lstatus;
      memory = memory;
      attached =
          attached;
      old = old;
      seen = seen;
      marks = marks;
    })) → ⊥
unfolding last_handle
last-fields pid control status lstatus (Some m) attached old seen marks free = free.memory refl
last-fields pid control status (Some l) None attached old seen marks free = free.lstatus refl
last-fields pid control (Some s) None None attached old seen marks free = free.status refl
last-fields pid control None None None attached old seen marks free = free.control refl

last-is : (t : Traced) → IsNoFileOf t (last_handle t) → ⊥
last-is t free = last-fields t.pid t.control t.status t.lstatus t.memory t.attached t.old t.seen t.marks free

no-file : (p t : Traced) (handle : ℕ) → SameFiles p t → IsNoFileOf p handle → IsNoFileOf t handle
no-file p t handle same free = record {
  control = λ e. free.control (sym same.control ∙ e);
  status = λ e. free.status (sym same.status ∙ e);
  lstatus = λ e. free.lstatus (sym same.lstatus ∙ e);
  memory = λ e. free.memory (sym same.memory ∙ e);
}

-- ---- a process that truss comes to

-- It stands at this place.
pub record Stands (p : Traced) (s : TrussState) (place : ℕ) : Type 0 where
  pub within : place < length s.traced
  pub same : SameFiles p (traced_at s place)

pub stands-alike : (p : Traced) (s u : TrussState) (place : ℕ) → Alike s u → Stands p s place → Stands p u place
stands-alike p s u place a here = record {
  within = omega (arith, a.count, here.within);
  same = same-files-both p (traced_at s place) (traced_at u place) here.same (a.files place);
}

-- To run it, and to close the first of its files, is the end.
pub run-ends : (p : Traced) (s : TrussState) (place : ℕ) (y : Exchange) → Stands p s place
    → Some (run_call (traced_at s place).control) ≡ Some y.call → IsNoEndOf p y → ⊥
run-ends p s place y here is other = other.not_run (sym (same_Some _ _ is) ∙ ap run_call here.same.control)

pub close-ends : (p : Traced) (s : TrussState) (place : ℕ) (y : Exchange) → Stands p s place
    → Some (call.Close (last_handle (traced_at s place))) ≡ Some y.call → IsNoEndOf p y → ⊥
close-ends p s place y here is other =
    last-is (traced_at s place)
    (no-file p (traced_at s place) _ here.same (other.not_closed _ (sym (same_Some _ _ is))))

-- ---- how many calls come before its first close

-- When truss has come to leave this process: where the stop on which it stands was looked at, it is not looked at
-- again.
unfoldable pub left_cost : Bool → ℕ
left_cost seen = cond seen 2 6

pub cost-most : (seen : Bool) → left_cost seen ≤ 6
unfolding left_cost
cost-most true = omega arith
cost-most false = omega arith

pub cost-least : (seen : Bool) → 2 ≤ left_cost seen
unfolding left_cost
cost-least true = omega arith
cost-least false = omega arith

-- So many calls come at most before the first process is closed, and then its four closes, ten calls for each process
-- between, and those for this one.
pub record Costs (seen : Bool) (calls k n : ℕ) : Type 0 where
  pub here : calls ≤ n
  pub far : 0 < k → 10 * k + left_cost seen + calls ≤ n + 6

-- how many calls set a child free, from a step on
abbrev pub freeing_left : FreeingStep → ℕ
freeing_left freeing.OpenControl = 3
freeing_left (freeing.SetRelease control) = 2
freeing_left (freeing.Close control) = 1

-- the first process is closed before this one
pub record ClosesFirst (ts : List Traced) (k n place : ℕ) : Type 0 where
  pub first : place ≡ 0
  pub ahead : 0 < k
  pub costs : files (at_place ts 0) + 10 * k + left_cost (at_place ts k).seen ≤ n + 10

-- this one, or the first one, is closed
closes-at : (ts : List Traced) (k n place : ℕ) → (place ≡ 0) ⊎ (place ≡ k)
    → (0 < k → 10 * k + left_cost (at_place ts k).seen ≤ n + 6) → (place ≡ k) ⊎ ClosesFirst ts k n place
closes-at ts k n place (inr e) far = inl e
closes-at ts zero n place (inl e) far = inl e
closes-at ts (suc j) n place (inl e) far =
    inr (record {
      first = e;
      ahead = omega arith;
      costs = omega (arith, files-most (at_place ts 0), far (omega arith));
    })

-- So many calls come at most before the first close of the process at place k: a row a stage.
abbrev pub Leaves : List Traced → ℕ → ℕ → Stage → Type 0
Leaves ts k n (ReadingStatus place) = (place ≡ k) × (12 + 10 * k ≤ n)
Leaves ts k n (ReadingText place lwp at len) = ((place ≡ 0) ⊎ (place ≡ k)) × Costs (at_place ts k).seen 4 k n
Leaves ts k n Unfollowing = 10 * k + left_cost (at_place ts k).seen ≤ n
Leaves ts k n ReadingLwps = 10 * k + left_cost (at_place ts k).seen ≤ n + 1
Leaves ts k n (FreeingChild child step) = Costs (at_place ts k).seen (freeing_left step) k n
Leaves ts k n (Closing place GoOn) = (place ≡ k) ⊎ ClosesFirst ts k n place
Leaves ts k n (Closing place OpenNext) = ⊥
Leaves ts k n (Closing place (RunParent parent)) = ⊥
Leaves ts k n (Spawning program) = ⊥
Leaves ts k n (OpeningControl pid) = ⊥
Leaves ts k n (Opening place opening) = ⊥
Leaves ts k n Polling = ⊥
Leaves ts k n (OpeningChildControl parent pid) = ⊥
Leaves ts k n (OpeningChild parent place opening) = ⊥
Leaves ts k n (Running place) = ⊥
Leaves ts k n Finished = ⊥

module _ (p : Traced) where
  pub record Leaving (n : ℕ) (s : TrussState) : Type 0 where
    pub place : ℕ
    pub here : Stands p s place
    pub leaves : s.leaving ≡ true
    pub soon : Leaves s.traced place n s.stage

  -- after one call more
  pub record Next (n : ℕ) (s : TrussState) : Type 0 where
    pub left : ℕ
    pub less : left < n
    pub leads : Leaving left s

  staged : (s : TrussState) (k n : ℕ) (stage : Stage) → Stands p s k → s.leaving ≡ true → Leaves s.traced k n stage
      → Leaving n (with_stage s stage)
  staged s k n stage here leaves soon = record {
    place = k;
    here = record { within = here.within; same = here.same };
    leaves = leaves;
    soon = soon;
  }

  -- ---- the next process is left

  first-left : (s : TrussState) (k n : ℕ) → Stands p s k → s.leaving ≡ true
      → 10 * k + left_cost (traced_at s k).seen ≤ n → (first : Option Traced) → slice_get s.traced 0 ≡ first
      → Leaving n (left_or_finished s first)
  first-left s k n here leaves costs None is = absurd (none-first s.traced k here.within is)
    where
      none-first : (ts : List Traced) (k : ℕ) → k < length ts → slice_get ts 0 ≡ None → ⊥
      none-first [] k within none = omega arith
      none-first (t ∷ ts) k within none = cc
  first-left s k n here leaves costs (Some t) is = by t.attached
    where
      by : (attached : Bool) → Leaving n (with_stage s (cond attached Unfollowing (Closing 0 GoOn)))
      by true = staged s k n Unfollowing here leaves costs
      by false =
          staged s k n (Closing 0 GoOn) here leaves
          (closes-at s.traced k n 0 (inl refl) (λ ahead. omega (arith, costs)))

  next-left : (s : TrussState) (k n : ℕ) → Stands p s k → s.leaving ≡ true
      → 10 * k + left_cost (traced_at s k).seen ≤ n → Leaving n (with_next_left s)
  unfolding with_next_left
  next-left s k n here leaves costs = first-left s k n here leaves costs (slice_get s.traced 0) refl

  pub interrupt-left : (s : TrussState) (k n : ℕ) → Stands p s k → 10 * k + left_cost (traced_at s k).seen ≤ n
      → Leaving n (with_interrupt s)
  unfolding with_interrupt
  interrupt-left s k n here costs =
      next-left (record s { leaving = true }) k n (record { within = here.within; same = here.same }) refl costs

  true-first : (n : ℕ) (c : Bool) (u v : TrussState) → c ≡ true → Leaving n u → Leaving n (cond c u v)
  true-first n true u v is l = l
  true-first n false u v is l = absurd (false≢true is)

  -- ---- a process is closed, or looked at

  -- this one, or the first one
  module _ (s : TrussState) (k n : ℕ) (here : Stands p s k) (leaves : s.leaving ≡ true) (place : ℕ)
      (at : (place ≡ 0) ⊎ (place ≡ k)) where
    alike-costs : (u : TrussState) (calls : ℕ) → Alike s u → Costs (traced_at s k).seen calls k n
        → Costs (traced_at u k).seen calls k n
    alike-costs u calls a c = subst (λ seen. Costs seen calls k n) (sym (a.seen k)) c

    closing-left : (u : TrussState) → Alike s u → Costs (traced_at s k).seen 0 k n → Leaving n (with_closing u place)
    closing-left u a c =
        let own = alike-costs u 0 a c in
        staged u k n (Closing place GoOn) (stands-alike p s u k a here) (a.leaving
        ∙ leaves) (closes-at u.traced k n place at (λ ahead. omega (arith, own.far ahead)))

    over-left : Costs (traced_at s k).seen 0 k n → (u : TrussState) → Alike s u → Leaving n (with_stop_over u place)
    unfolding with_stop_over
    over-left c u a = true-first n u.leaving (with_closing u place) _ (a.leaving ∙ leaves) (closing-left u a c)

    child-left : Costs (traced_at s k).seen 3 k n → (u : TrussState) (child : ℕ) → Alike s u
        → Leaving n
        (with_stage u (cond u.leaving (FreeingChild child freeing.OpenControl) (OpeningChildControl place child)))
    child-left c u child a =
        subst (λ b. Leaving n
        (with_stage u (cond b (FreeingChild child freeing.OpenControl) (OpeningChildControl place child))))
        (sym (a.leaving
        ∙ leaves))
        (staged u k n (FreeingChild child freeing.OpenControl) (stands-alike p s u k a here) (a.leaving
        ∙ leaves) (alike-costs u 3 a c))

    text-left : Costs (traced_at s k).seen 4 k n → (u : TrussState) (l : LwpStatus) (from len : ℕ) → Alike s u
        → Leaving n (with_stage u (ReadingText place l from len))
    text-left c u l from len a =
        staged u k n (ReadingText place l from len) (stands-alike p s u k a here) (a.leaving
        ∙ leaves) (at, alike-costs u 4 a c)

    fewer : (calls few : ℕ) → few ≤ calls → Costs (traced_at s k).seen calls k n → Costs (traced_at s k).seen few k n
    fewer calls few less c = record { here = omega (arith, c.here); far = λ ahead. omega (arith, c.far ahead) }

    event-left : Costs (traced_at s k).seen 3 k n → (u : TrussState) (l : LwpStatus) → Alike s u
        → Leaving n (with_event_over u place l)
    event-left c u l a = event-over (Leaving n) s place (over-left (fewer 3 0 (omega arith) c)) (child-left c) u l a

    read-left : Costs (traced_at s k).seen 4 k n → place < length s.traced → (l : Option LwpStatus)
        → Leaving n (with_stop_read s place l)
    read-left c within l =
        stop-read (Leaving n) s place (over-left (fewer 4 0 (omega arith) c)) (child-left (fewer 4 3 (omega arith) c))
        (text-left c) within l

    seen-left : Costs (traced_at s k).seen 0 k n → place < length s.traced → (traced_at s place).seen ≡ true
        → (l : Option LwpStatus) → Leaving n (with_stop_read s place l)
    seen-left c within seen l = seen-over (Leaving n) s place (over-left c) within seen l

  -- ---- one call after the other

  module _ (s : TrussState) (k n : ℕ) (here : Stands p s k) (leaves : s.leaving ≡ true) where
    -- one call fewer is left
    abbrev left_then : ℕ
    left_then = n - 1

    then : (u : TrussState) → 1 ≤ n → Leaving left_then u → Next n u
    then u some l = record { left = left_then; less = omega arith; leads = l }

    fewer-left : (calls : ℕ) → Costs (traced_at s k).seen (suc calls) k n → Costs (traced_at s k).seen calls k left_then
    fewer-left calls c = record { here = omega (arith, c.here); far = λ ahead. omega (arith, c.far ahead, c.here) }

    looked-status : 12 + 10 * k ≤ n → Costs (traced_at s k).seen 4 k left_then
    looked-status costs = record { here = omega arith; far = λ ahead. omega (arith, cost-most (traced_at s k).seen) }

    status-left : 12 + 10 * k ≤ n → (r : Reply) (a : Answer) → Next n (with_status_answered s k r a)
    unfolding with_status_answered
    status-left costs r Accepted =
        then _ (omega arith)
        (read-left s k left_then here leaves k (inr refl) (looked-status costs) here.within
        (option_and_then status_lwp (bytes_in r)))
    status-left costs r (Refused errno) =
        then _ (omega arith)
        (over-left s k left_then here leaves k (inr refl)
        (fewer s k left_then here leaves k (inr refl) 4 0 (omega arith) (looked-status costs)) s (alike-self s))
    status-left costs r Gone =
        then _ (omega arith)
        (closing-left s k left_then here leaves k (inr refl) s (alike-self s)
        (fewer s k left_then here leaves k (inr refl) 4 0 (omega arith) (looked-status costs)))
    status-left costs r Interrupted =
        then _ (omega arith) (interrupt-left s k left_then here (omega (arith, cost-most (traced_at s k).seen)))

    module _ (place : ℕ) (at : (place ≡ 0) ⊎ (place ≡ k)) where
      text-answered : (l : LwpStatus) (u : TrussState) → Alike s u → Costs (traced_at s k).seen 4 k n → (a : Answer)
          → Next n (after_text u place l a)
      unfolding after_text
      text-answered l u a c Accepted =
          then _ (omega (arith, c.here)) (event-left s k left_then here leaves place at (fewer-left 3 c) u l a)
      text-answered l u a c (Refused errno) =
          then _ (omega (arith, c.here)) (event-left s k left_then here leaves place at (fewer-left 3 c) u l a)
      text-answered l u a c Gone =
          then _ (omega (arith, c.here)) (closing-left s k left_then here leaves place at u a (record {
            here = omega arith;
            far = λ ahead. omega (arith, c.far ahead);
          }))
      text-answered l u a c Interrupted =
          then _ (omega (arith, c.here)) (true-first left_then u.leaving (with_event_over u place l) _ (a.leaving
          ∙ leaves) (event-left s k left_then here leaves place at (fewer-left 3 c) u l a))

      text-read : (l : LwpStatus) (len : ℕ) → Costs (traced_at s k).seen 4 k n → (r : Reply)
          → Next n (with_text_answered s place l len r)
      unfolding with_text_answered
      text-read l len c r =
          text-answered l (with_event_shown s place l (text_of len (bytes_in r)))
          (alike-shown s s place l (text_of len (bytes_in r)) (alike-self s)) c (answer_of r)

    -- the first process is closed
    first-closed : (u : TrussState) → Alike s u → 1 ≤ n → (0 < k → 10 * k + left_cost (traced_at s k).seen ≤ n + 5)
        → Next n (with_closing u 0)
    first-closed u a some far =
        then _ some (closing-left s k left_then here leaves 0 (inl refl) u a (record {
          here = omega arith;
          far = λ ahead. omega (arith, far ahead);
        }))

    read-next : 10 * k + left_cost (traced_at s k).seen ≤ n → Next n (with_stage s ReadingLwps)
    read-next costs =
        then _ (omega (arith, cost-least (traced_at s k).seen))
        (staged s k left_then ReadingLwps here leaves (omega arith))

    unfollowed-left : 10 * k + left_cost (traced_at s k).seen ≤ n → (a : Answer) → Next n (with_unfollowed s a)
    unfolding with_unfollowed
    unfollowed-left costs Gone =
        first-closed s (alike-self s) (omega (arith, cost-least (traced_at s k).seen)) (λ ahead. omega arith)
    unfollowed-left costs _ = read-next costs

    -- the statuses of the lwps of the first process, which may be this one
    lwps-looked : (j : ℕ) (seen : Bool) → k ≡ j → (traced_at s k).seen ≡ seen → 10 * k + left_cost seen ≤ n + 1
        → (l : Option LwpStatus) → Leaving left_then (with_stop_read s 0 l)
    unfolding left_cost
    lwps-looked zero true none is costs l =
        seen-left s k left_then here leaves 0 (inl refl)
        (record { here = omega arith; far = λ ahead. omega (arith, none) }) (omega (arith, here.within))
        (subst (λ place. (traced_at s place).seen ≡ true) none is) l
    lwps-looked zero false none is costs l =
        read-left s k left_then here leaves 0 (inl refl)
        (record { here = omega arith; far = λ ahead. omega (arith, none) }) (omega (arith, here.within)) l
    lwps-looked (suc j) seen some is costs l =
        read-left s k left_then here leaves 0 (inl refl)
        (record { here = omega (arith, some); far = λ ahead. omega (arith, ap left_cost is, some, costs) })
        (omega (arith, here.within)) l

    lwps-left : 10 * k + left_cost (traced_at s k).seen ≤ n + 1 → (r : Reply) (a : Answer)
        → Next n (with_lwps_answered s r a)
    unfolding with_lwps_answered
    lwps-left costs r Accepted =
        then _ (omega (arith, cost-least (traced_at s k).seen))
        (lwps-looked k (traced_at s k).seen refl refl costs (slice_get (event_stops (bytes_in r)) 0))
    lwps-left costs r _ =
        first-closed s (alike-self s) (omega (arith, cost-least (traced_at s k).seen)) (λ ahead. omega arith)

    -- a child is set free, and the first process is closed then
    freeing-begun : (child : ℕ) → Costs (traced_at s k).seen 3 k n → (r : Reply) (a : Answer)
        → Next n (with_freeing_begun s child r a)
    unfolding with_freeing_begun with_refused_freeing
    freeing-begun child c r Accepted =
        then _ (omega (arith, c.here)) (staged s k left_then _ here leaves (fewer-left 2 c))
    freeing-begun child c r Interrupted =
        first-closed s (alike-self s) (omega (arith, c.here)) (λ ahead. omega (arith, c.far ahead))
    freeing-begun child c r Gone =
        first-closed _ (alike-reported s s (CannotTrace child Noent) (alike-self s)) (omega (arith, c.here))
        (λ ahead. omega (arith, c.far ahead))
    freeing-begun child c r (Refused errno) =
        first-closed _ (alike-reported s s (CannotTrace child errno) (alike-self s)) (omega (arith, c.here))
        (λ ahead. omega (arith, c.far ahead))

    freed-left : (child : ℕ) (step : FreeingStep) → Costs (traced_at s k).seen (freeing_left step) k n → (r : Reply)
        → Next n (with_freeing_answered s child step r)
    unfolding with_freeing_answered
    freed-left child freeing.OpenControl c r = freeing-begun child c r (answer_of r)
    freed-left child (freeing.SetRelease control) c r =
        then _ (omega (arith, c.here)) (staged s k left_then _ here leaves (fewer-left 1 c))
    freed-left child (freeing.Close control) c r =
        first-closed s (alike-self s) (omega (arith, c.here)) (λ ahead. omega (arith, c.far ahead))

    -- ---- the first process is closed, which is another one

    -- a file of it less
    file-closed : 0 < k → (t : Traced) → s.stage ≡ Closing 0 GoOn → files t + 1 ≡ files (traced_at s 0)
        → files (traced_at s 0) + 10 * k + left_cost (traced_at s k).seen ≤ n + 10 → Next n (with_traced s 0 t)
    file-closed ahead t at less costs =
        let same : at_place (slice_set s.traced 0 t) k ≡ traced_at s k =
        get_or-set_other s.traced 0 k t nobody (omega arith) in
        let first : at_place (slice_set s.traced 0 t) 0 ≡ t = set-at s.traced 0 t (omega (arith, here.within)) in
        then _ (omega (arith, cost-least (traced_at s k).seen)) (record {
          place = k;
          here = record {
            within = omega (arith, here.within, length-set s.traced 0 t);
            same = subst (SameFiles p) (sym same) here.same;
          };
          leaves = leaves;
          soon =
              subst (Leaves (slice_set s.traced 0 t) k left_then) (sym at) (inr (record {
                first = refl;
                ahead = ahead;
                costs = omega (arith, costs, less, ap files first, ap (λ (u : Traced). left_cost u.seen) same);
              }));
        })

    -- it is closed, and the next one is left
    process-closed : (j : ℕ) → k ≡ suc j → 10 * k + left_cost (traced_at s k).seen ≤ n + 9
        → Next n (with_going_on (without_traced s 0))
    unfolding with_going_on
    process-closed j is costs =
        let next : j + 1 ≡ k = omega (arith, is) in
        let same : at_place (remove s.traced 0) j ≡ traced_at s k =
        get_or-remove_above s.traced 0 nobody j (omega arith) (omega (arith, here.within))
        ∙ ap (traced_at s) next in
        let there : Stands p (without_traced s 0) j = record {
          within = omega (arith, here.within, length-remove s.traced 0 (omega (arith, here.within)), is);
          same = subst (SameFiles p) (sym same) here.same;
        } in
        then _ (omega (arith, cost-least (traced_at s k).seen))
        (true-first left_then s.leaving (with_next_left (without_traced s 0)) _ leaves
        (next-left (without_traced s 0) j left_then there leaves
        (omega (arith, costs, is, ap (λ (u : Traced). left_cost u.seen) same))))

    first-answered : s.stage ≡ Closing 0 GoOn → ClosesFirst s.traced k n 0 → (u : Option Traced)
        → OneLess (traced_at s 0) u → Next n (closed_or_removed s 0 GoOn u)
    unfolding after_closing
    first-answered at c None less = process-closed (k - 1) (omega (arith, c.ahead)) (omega (arith, c.costs, less))
    first-answered at c (Some t) less = file-closed c.ahead t at less c.costs

    closed-left : (y : Exchange) (place : ℕ) → s.stage ≡ Closing place GoOn
        → (place ≡ k) ⊎ ClosesFirst s.traced k n place
        → Some (call.Close (last_handle (traced_at s place))) ≡ Some y.call → IsNoEndOf p y
        → Next n (with_closed s place GoOn)
    unfolding with_closed
    closed-left y place at (inl same) is other =
        absurd (close-ends p s k y here
        (subst (λ j. Some (call.Close (last_handle (traced_at s j))) ≡ Some y.call) same is) other)
    closed-left y place at (inr c) is other =
        let here_at = subst (λ j. s.stage ≡ Closing j GoOn) c.first at in
        let first : ClosesFirst s.traced k n 0 = record { first = refl; ahead = c.ahead; costs = c.costs } in
        subst (λ j. Next n (closed_or_removed s j GoOn (without_last (traced_at s j)))) (sym c.first)
        (first-answered here_at first (without_last (traced_at s 0)) (one-less (traced_at s 0)))

    -- every stage
    stage-left : (y : Exchange) (stage : Stage) → s.stage ≡ stage → Leaves s.traced k n stage
        → call_of s stage ≡ Some y.call → IsNoEndOf p y → Next n (with_reply s y.reply stage)
    unfolding call_of with_reply
    stage-left y (ReadingStatus place) at l is other =
        subst (λ j. Next n (with_status_answered s j y.reply (answer_of y.reply))) (sym l.0)
        (status-left l.1 y.reply (answer_of y.reply))
    stage-left y (ReadingText place lwp from len) at l is other = text-read place l.0 lwp len l.1 y.reply
    stage-left y Unfollowing at l is other = unfollowed-left l (answer_of y.reply)
    stage-left y ReadingLwps at l is other = lwps-left l y.reply (answer_of y.reply)
    stage-left y (FreeingChild child step) at l is other = freed-left child step l y.reply
    stage-left y (Closing place GoOn) at l is other = closed-left y place at l is other
    stage-left y _ at l is other = absurd l

  fed-left : (y : Exchange) (s : TrussState) (n : ℕ) → Leaving n s → next_call_of s ≡ Some y.call → IsNoEndOf p y
      → Next n (fed s y.reply)
  unfolding next_call_of fed
  fed-left y s n l is other = stage-left s l.place n l.here l.leaves y s.stage refl l.soon is other

  -- so many calls come before the first close of the process, and truss leaves on
  pub leaving-soon : (ys : List Exchange) (s : TrussState) (n : ℕ) → Leaving n s → Makes s ys → All (IsNoEndOf p) ys
      → (length ys ≤ n) × ((truss_after s ys).leaving ≡ true)
  leaving-soon [] s n l makes none = (omega arith, l.leaves)
  leaving-soon (y ∷ ys) s n l makes none =
      let x = fed-left y s n l makes.0 (All-head (IsNoEndOf p) y ys none) in
      let rest = leaving-soon ys (fed s y.reply) x.left x.leads makes.1 (All-tail (IsNoEndOf p) y ys none) in
      (omega (arith, rest.0, x.less), rest.1)
