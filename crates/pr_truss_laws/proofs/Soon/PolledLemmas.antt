use Rattle.std.proofs.Common.{◌≡◌, ◌<◌, ◌≤◌, ◌+◌, ◌-◌, ◌*◌, ℕ, Bool, true, false, cond, Option, Some, None, List, [], ◌∷◌, length, refl, sym, subst, ap, ◌∙◌, arith}
use Rattle.std.proofs.Math.ListN.{get_or-append}
use Rattle.std.proofs.lemmas.Bool.{false≢true}
use Rattle.std.proofs.lemmas.List.{get_or-set_other, length-append, length-set}
use Rattle.std.proofs.lemmas.List.Edits.{get_or-remove_below, length-remove}
use Rattle.std.proofs.lemmas.List.Elements.{All-head, All-tail}
use Rattle.std.specs.List.{All, slice_set}
use Rattle.std.specs.Option.{option_and_then}
use Rattle.pr_model.specs.Replies.{bytes_in, handle_in}
use Rattle.pr_model.specs.declared.calls.Call.TheVariants as call
use Rattle.pr_model.specs.declared.calls.Reply.{Reply}
use Rattle.pr_num.proofs.TableLemmas.{position-within}
use Rattle.pr_num.specs.declared.errnos.Errno.TheVariants.{Noent}
use Rattle.pr_rec.specs.declared.lwps.LwpStatus.{LwpStatus}
use Rattle.pr_truss.specs.Children.{at_child_step, child_learnt, child_step_after, with_child_answered, with_child_control, with_child_control_answered, with_child_started, with_child_step_answered, with_child_step_done, with_refused_child, with_refused_child_step}
use Rattle.pr_truss.specs.Closings.{after_closing, closed_or_removed, with_closed, with_interrupt}
use Rattle.pr_truss.specs.Feeding.{fed, with_reply}
use Rattle.pr_truss.specs.NextCalls.{call_of, next_call_of, run_call}
use Rattle.pr_truss.specs.Openings.{with_stop_seen}
use Rattle.pr_truss.specs.Processes.{last_handle, newly_traced, without_last}
use Rattle.pr_truss.specs.Records.{status_lwp}
use Rattle.pr_truss.specs.Replies.{answer_of, ready_in}
use Rattle.pr_truss.specs.Stops.{after_text, has_control, text_of, with_event_shown, with_poll_answered, with_polled, with_status_answered, with_stop_over, with_text_answered}
use Rattle.pr_truss.specs.Trusses.{TrussState, nobody, traced_at, with_opened, with_report, with_stage, with_traced, without_traced}
use Rattle.pr_truss.specs.declared.processes.Traced.{Traced}
use Rattle.pr_truss.specs.declared.replies.Answer.{Answer}
use Rattle.pr_truss.specs.declared.replies.Answer.TheVariants.{Accepted, Interrupted, Gone, Refused}
use Rattle.pr_truss.specs.declared.reports.Report.{Report}
use Rattle.pr_truss.specs.declared.reports.Report.TheVariants.{CannotTrace}
use Rattle.pr_truss.specs.declared.stages.AfterClosing.TheVariants.{OpenNext, GoOn, RunParent}
use Rattle.pr_truss.specs.declared.stages.ChildStep.{ChildStep}
use Rattle.pr_truss.specs.declared.stages.ChildStep.TheVariants as child
use Rattle.pr_truss.specs.declared.stages.FreeingStep.TheVariants.{OpenControl}
use Rattle.pr_truss.specs.declared.stages.Stage.{Stage}
use Rattle.pr_truss.specs.declared.stages.Stage.TheVariants.{Spawning, OpeningControl, Opening, Polling, ReadingStatus, ReadingText, OpeningChildControl, OpeningChild, Running, Closing, Unfollowing, ReadingLwps, FreeingChild, Finished}
use Rattle.pr_truss_laws.proofs.Files.HeldLemmas.{IsLast, at_place, set-at}
use Rattle.pr_truss_laws.proofs.Soon.LeavingLemmas.{Leaving, OneLess, Stands, close-ends, cost-most, files, files-most, interrupt-left, leaving-soon, left_cost, one-less, run-ends, stands-alike}
use Rattle.pr_truss_laws.proofs.Soon.LookLemmas.{Alike, SameFiles, alike-reported, alike-self, alike-shown, event-over, same-files, stop-read}
use Rattle.pr_truss_laws.specs.Exchanges.{Exchange, Makes, truss_after}
use Rattle.pr_truss_laws.specs.Polled.{IsNoEndOf, PollNames, calls_meanwhile}

-- How soon truss runs a process that a poll named, or closes the first of its files.

-- how many calls the opening of a child takes at most from a step on, with the closes that may follow
abbrev pub child_left : ChildStep → ℕ
child_left child.SetRelease = 9
child_left child.OpenStatus = 8
child_left child.OpenLstatus = 7
child_left child.OpenMemory = 6
child_left child.Start = 5

-- So many calls come at most before the end of the look at the process at place k: a row a stage.
abbrev pub Nears : List Traced → ℕ → ℕ → Stage → Type 0
Nears ts k n (ReadingStatus place) = (place ≡ k) × (12 ≤ n)
Nears ts k n (ReadingText place lwp at len) = (place ≡ k) × (11 ≤ n)
Nears ts k n (OpeningChildControl parent pid) = (parent ≡ k) × (10 ≤ n)
Nears ts k n (OpeningChild parent place step) = (parent ≡ k) × IsLast ts k place × (child_left step ≤ n)
Nears ts k n (Closing place (RunParent parent)) = (parent ≡ k) × IsLast ts k place × (files (at_place ts place) ≤ n)
Nears ts k n (Running place) = place ≡ k
Nears ts k n (Closing place GoOn) = place ≡ k
Nears ts k n (Closing place OpenNext) = ⊥
Nears ts k n (Spawning program) = ⊥
Nears ts k n (OpeningControl pid) = ⊥
Nears ts k n (Opening place opening) = ⊥
Nears ts k n Polling = ⊥
Nears ts k n Unfollowing = ⊥
Nears ts k n ReadingLwps = ⊥
Nears ts k n (FreeingChild pid freeing) = ⊥
Nears ts k n Finished = ⊥

module _ (p : Traced) (k : ℕ) where
  pub record Near (n : ℕ) (s : TrussState) : Type 0 where
    pub here : Stands p s k
    pub stays : s.leaving ≡ false
    pub soon : Nears s.traced k n s.stage

  -- After one call more the process is nearer by one, or truss leaves its processes.
  pub data After (n : ℕ) (s : TrussState) : Type 0 where
    nearer : (left : ℕ) → left < n → Near left s → After n s
    leaves : (left : ℕ) → left < n + 10 * k → Leaving p left s → After n s

  false-second : (n : ℕ) (c : Bool) (u v : TrussState) → c ≡ false → After n v → After n (cond c u v)
  false-second n true u v is a = absurd (false≢true (sym is))
  false-second n false u v is a = a

  module _ (s : TrussState) (n : ℕ) (here : Stands p s k) (stays : s.leaving ≡ false) where
    staged : (u : TrussState) (stage : Stage) → Stands p u k → u.leaving ≡ false → 1 ≤ n
        → Nears u.traced k (n - 1) stage → After n (with_stage u stage)
    staged u stage there remains some soon =
        nearer (n - 1) (omega arith) (record {
          here = record { within = there.within; same = there.same };
          stays = remains;
          soon = soon;
        })

    near-alike : (u : TrussState) → Alike s u → (stage : Stage) → 1 ≤ n → Nears u.traced k (n - 1) stage
        → After n (with_stage u stage)
    near-alike u a stage some soon = staged u stage (stands-alike p s u k a here) (a.leaving ∙ stays) some soon

    over-near : 1 ≤ n → (u : TrussState) → Alike s u → After n (with_stop_over u k)
    unfolding with_stop_over
    over-near some u a = false-second n u.leaving _ _ (a.leaving ∙ stays) (near-alike u a (Running k) some refl)

    child-near : 11 ≤ n → (u : TrussState) (c : ℕ) → Alike s u
        → After n (with_stage u (cond u.leaving (FreeingChild c OpenControl) (OpeningChildControl k c)))
    child-near many u c a =
        subst (λ b. After n (with_stage u (cond b (FreeingChild c OpenControl) (OpeningChildControl k c))))
        (sym (a.leaving ∙ stays)) (near-alike u a (OpeningChildControl k c) (omega arith) (refl, omega arith))

    text-near : 12 ≤ n → (u : TrussState) (l : LwpStatus) (from len : ℕ) → Alike s u
        → After n (with_stage u (ReadingText k l from len))
    text-near many u l from len a = near-alike u a (ReadingText k l from len) (omega arith) (refl, omega arith)

    -- An interrupt at its status: the stop on which it stands may be looked at then.
    interrupted : 7 ≤ n → After n (with_interrupt s)
    interrupted many =
        leaves (n - 1 + 10 * k) (omega arith)
        (interrupt-left p s k (n - 1 + 10 * k) here (omega (arith, cost-most (traced_at s k).seen)))

    -- and a later one
    seen-interrupted : 3 ≤ n → (u : TrussState) → Alike s u → After n (with_interrupt (with_stop_seen u k))
    unfolding with_stop_seen left_cost
    seen-interrupted some u a =
        let there = stands-alike p s u k a here in
        let t : Traced = record (traced_at u k) { seen = true } in
        let at : at_place (slice_set u.traced k t) k ≡ t = set-at u.traced k t there.within in
        let same : SameFiles p t = record {
          pid = there.same.pid;
          control = there.same.control;
          status = there.same.status;
          lstatus = there.same.lstatus;
          memory = there.same.memory;
        } in
        let stands : Stands p (with_traced u k t) k = record {
          within = omega (arith, there.within, length-set u.traced k t);
          same = subst (SameFiles p) (sym at) same;
        } in
        leaves (n - 1 + 10 * k) (omega arith)
        (interrupt-left p (with_traced u k t) k (n - 1 + 10 * k) stands
        (omega (arith, ap (λ (v : Traced). left_cost v.seen) at)))

    status-near : 12 ≤ n → (r : Reply) (a : Answer) → After n (with_status_answered s k r a)
    unfolding with_status_answered
    status-near many r Accepted =
        stop-read (After n) s k (over-near (omega arith)) (child-near (omega arith)) (text-near many) here.within
        (option_and_then status_lwp (bytes_in r))
    status-near many r (Refused errno) = over-near (omega arith) s (alike-self s)
    status-near many r Gone = near-alike s (alike-self s) (Closing k GoOn) (omega arith) refl
    status-near many r Interrupted = interrupted (omega arith)

    text-answered : 11 ≤ n → (l : LwpStatus) (u : TrussState) → Alike s u → (a : Answer) → After n (after_text u k l a)
    unfolding after_text
    text-answered many l u like Accepted = event-over (After n) s k (over-near (omega arith)) (child-near many) u l like
    text-answered many l u like (Refused errno) =
        event-over (After n) s k (over-near (omega arith)) (child-near many) u l like
    text-answered many l u like Gone = near-alike u like (Closing k GoOn) (omega arith) refl
    text-answered many l u like Interrupted =
        false-second n u.leaving _ _ (like.leaving ∙ stays) (seen-interrupted (omega arith) u like)

    text-read : 11 ≤ n → (l : LwpStatus) (len : ℕ) (r : Reply) → After n (with_text_answered s k l len r)
    unfolding with_text_answered
    text-read many l len r =
        text-answered many l (with_event_shown s k l (text_of len (bytes_in r)))
        (alike-shown s s k l (text_of len (bytes_in r)) (alike-self s)) (answer_of r)

    -- ---- the child of a fork

    -- the parent of the last process, when that has become another one
    parent-stands : (place : ℕ) (t : Traced) → IsLast s.traced k place → Stands p (with_traced s place t) k
    parent-stands place t last = record {
      within = omega (arith, here.within, length-set s.traced place t);
      same =
          subst (SameFiles p) (sym (get_or-set_other s.traced place k t nobody (omega (arith, last.behind)))) here.same;
    }

    still-last : (place : ℕ) (t : Traced) → IsLast s.traced k place → IsLast (slice_set s.traced place t) k place
    still-last place t last = record { behind = last.behind; last = last.last ∙ sym (length-set s.traced place t) }

    opened-near : 10 ≤ n → (t : Traced)
        → After n (with_stage (with_opened s t) (OpeningChild k (length s.traced) child.SetRelease))
    opened-near many t =
        let there : Stands p (with_opened s t) k = record {
          within = omega (arith, here.within, length-append s.traced (t ∷ []));
          same = subst (SameFiles p) (sym (get_or-append s.traced (t ∷ []) nobody k here.within)) here.same;
        } in
        staged (with_opened s t) (OpeningChild k (length s.traced) child.SetRelease) there stays (omega arith)
        (refl, record { behind = here.within; last = sym (length-append s.traced (t ∷ [])) }, omega arith)

    refused-near : 1 ≤ n → (report : Report) → After n (with_stage (with_report s report) (Running k))
    refused-near some report =
        near-alike (with_report s report) (alike-reported s s report (alike-self s)) (Running k) some refl

    control-near : 10 ≤ n → (of : ℕ) (r : Reply) (a : Answer) → After n (with_child_control_answered s k of r a)
    unfolding with_child_control_answered with_child_control with_refused_child
    control-near many of r Accepted = opened-near many (newly_traced of (handle_in r))
    control-near many of r Interrupted = seen-interrupted (omega arith) s (alike-self s)
    control-near many of r Gone = refused-near (omega arith) (CannotTrace of Noent)
    control-near many of r (Refused errno) = refused-near (omega arith) (CannotTrace of errno)

    module _ (place : ℕ) (last : IsLast s.traced k place) where
      -- what was opened of the child is closed
      closing-near : 5 ≤ n → (u : TrussState) → Alike s u → After n (with_stage u (Closing place (RunParent k)))
      closing-near some u a =
          near-alike u a (Closing place (RunParent k)) (omega arith) (
            refl,
            record {
              behind = last.behind;
              last = last.last
                  ∙ sym a.count;
            },
            omega (arith, files-most (at_place u.traced place)),
          )

      step-near : (t : Traced) (next : ChildStep) → child_left next + 1 ≤ n
          → After n (with_stage (with_traced s place t) (OpeningChild k place next))
      step-near t next left =
          staged (with_traced s place t) (OpeningChild k place next) (parent-stands place t last) stays (omega arith)
          (refl, still-last place t last, omega arith)

      done-near : (step : ChildStep) → child_left step ≤ n → (t : Traced)
          → After n (at_child_step (with_traced s place t) k place (child_step_after step))
      unfolding child_step_after
      done-near child.SetRelease left t = step-near t child.OpenStatus left
      done-near child.OpenStatus left t = step-near t child.OpenLstatus left
      done-near child.OpenLstatus left t = step-near t child.OpenMemory left
      done-near child.OpenMemory left t = step-near t child.Start left
      done-near child.Start left t =
          staged (with_traced s place t) (Running k) (parent-stands place t last) stays (omega arith) refl

      answered-near : (step : ChildStep) → child_left step ≤ n → 5 ≤ n → (r : Reply) (a : Answer)
          → After n (with_child_step_answered s k place step r a)
      unfolding with_child_step_answered with_child_step_done with_refused_child_step
      answered-near step left some r Accepted = done-near step left (child_learnt (traced_at s place) r step)
      answered-near step left some r Interrupted = seen-interrupted (omega arith) s (alike-self s)
      answered-near step left some r Gone =
          closing-near some _ (alike-reported s s (CannotTrace (traced_at s place).pid Noent) (alike-self s))
      answered-near step left some r (Refused errno) =
          closing-near some _ (alike-reported s s (CannotTrace (traced_at s place).pid errno) (alike-self s))

      started-near : 5 ≤ n → (a : Answer) → After n (with_child_started s k place a)
      unfolding with_child_started
      started-near some Accepted = near-alike s (alike-self s) (Running k) (omega arith) refl
      started-near some (Refused errno) = near-alike s (alike-self s) (Running k) (omega arith) refl
      started-near some Interrupted = near-alike s (alike-self s) (Running k) (omega arith) refl
      started-near some Gone = closing-near some s (alike-self s)

      child-answered : (step : ChildStep) → child_left step ≤ n → (r : Reply)
          → After n (with_child_answered s k place step r (answer_of r))
      unfolding with_child_answered
      child-answered child.Start left r = started-near left (answer_of r)
      child-answered child.SetRelease left r = answered-near child.SetRelease left (omega arith) r (answer_of r)
      child-answered child.OpenStatus left r = answered-near child.OpenStatus left (omega arith) r (answer_of r)
      child-answered child.OpenLstatus left r = answered-near child.OpenLstatus left (omega arith) r (answer_of r)
      child-answered child.OpenMemory left r = answered-near child.OpenMemory left (omega arith) r (answer_of r)

      -- with its last file the child is traced no more, and its parent runs
      closed-near : s.stage ≡ Closing place (RunParent k) → files (traced_at s place) ≤ n → (u : Option Traced)
          → OneLess (traced_at s place) u → After n (closed_or_removed s place (RunParent k) u)
      unfolding after_closing
      closed-near at left None less =
          let within : place < length s.traced = omega (arith, last.last) in
          let there : Stands p (without_traced s place) k = record {
            within = omega (arith, last.behind, last.last, length-remove s.traced place within);
            same = subst (SameFiles p) (sym (get_or-remove_below s.traced place nobody k last.behind within)) here.same;
          } in
          staged (without_traced s place) (Running k) there stays (omega (arith, less, left)) refl
      closed-near at left (Some t) less =
          let there = parent-stands place t last in
          let same : at_place (slice_set s.traced place t) place ≡ t =
          set-at s.traced place t (omega (arith, last.last)) in
          nearer (n - 1) (omega (arith, less)) (record {
            here = there;
            stays = stays;
            soon =
                subst (Nears (slice_set s.traced place t) k (n - 1)) (sym at)
                (refl, still-last place t last, omega (arith, left, less, ap files same));
          })

    -- ---- every stage

    closing-answered : (place : ℕ) → s.stage ≡ Closing place (RunParent k) → IsLast s.traced k place
        → files (traced_at s place) ≤ n → After n (with_closed s place (RunParent k))
    unfolding with_closed
    closing-answered place at last left =
        closed-near place last at left (without_last (traced_at s place)) (one-less (traced_at s place))

    stage-near : (y : Exchange) (stage : Stage) → s.stage ≡ stage → Nears s.traced k n stage
        → call_of s stage ≡ Some y.call → IsNoEndOf p y → After n (with_reply s y.reply stage)
    unfolding call_of with_reply
    stage-near y (ReadingStatus place) at l is other =
        subst (λ j. After n (with_status_answered s j y.reply (answer_of y.reply))) (sym l.0)
        (status-near l.1 y.reply (answer_of y.reply))
    stage-near y (ReadingText place lwp from len) at l is other =
        subst (λ j. After n (with_text_answered s j lwp len y.reply)) (sym l.0) (text-read l.1 lwp len y.reply)
    stage-near y (OpeningChildControl parent of) at l is other =
        subst (λ j. After n (with_child_control_answered s j of y.reply (answer_of y.reply))) (sym l.0)
        (control-near l.1 of y.reply (answer_of y.reply))
    stage-near y (OpeningChild parent place step) at l is other =
        subst (λ j. After n (with_child_answered s j place step y.reply (answer_of y.reply))) (sym l.0)
        (child-answered place l.1 step l.2 y.reply)
    stage-near y (Closing place (RunParent parent)) at l is other =
        let own = subst (λ j. s.stage ≡ Closing place (RunParent j)) l.0 at in
        subst (λ j. After n (with_closed s place (RunParent j))) (sym l.0) (closing-answered place own l.1 l.2)
    stage-near y (Running place) at l is other =
        absurd (run-ends p s k y here (subst (λ j. Some (run_call (traced_at s j).control) ≡ Some y.call) l is) other)
    stage-near y (Closing place GoOn) at l is other =
        absurd (close-ends p s k y here
        (subst (λ j. Some (call.Close (last_handle (traced_at s j))) ≡ Some y.call) l is) other)
    stage-near y _ at l is other = absurd l

  pub fed-near : (y : Exchange) (s : TrussState) (n : ℕ) → Near n s → next_call_of s ≡ Some y.call → IsNoEndOf p y
      → After n (fed s y.reply)
  unfolding next_call_of fed
  fed-near y s n l is other = stage-near s n l.here l.stays y s.stage refl l.soon is other

  near-soon : (ys : List Exchange) (s : TrussState) (n : ℕ) → Near n s → Makes s ys → All (IsNoEndOf p) ys
      → length ys ≤ n + cond (truss_after s ys).leaving (10 * k) 0
  near-soon [] s n l makes none = omega arith
  near-soon (y ∷ ys) s n l makes none =
      let others : All (IsNoEndOf p) ys = All-tail (IsNoEndOf p) y ys none in
      elim (fed-near y s n l makes.0 (All-head (IsNoEndOf p) y ys none)) [
        | nearer left less near ↦ omega (arith, near-soon ys (fed s y.reply) left near makes.1 others)
        | leaves left less way ↦
            let rest = leaving-soon p ys (fed s y.reply) left way makes.1 others in
            omega (arith, rest.0, ap (λ b. cond b (10 * k) 0) rest.1)
      ]

-- ---- from the poll on

pub named-read : (s : TrussState) (r : Reply) (place : ℕ) → PollNames s r place
    → fed s r ≡ with_stage s (ReadingStatus place)
unfolding fed with_reply with_poll_answered answer_of ready_in
named-read s r place names =
    ap (with_reply s r) names.polls
    ∙ ap (λ q. with_poll_answered s q (answer_of q)) names.ready
    ∙ ap (with_polled s) names.there

-- the look at the process begins
pub named-near : (s : TrussState) (place : ℕ) → place < length s.traced → s.leaving ≡ false
    → Near (traced_at s place) place 12 (with_stage s (ReadingStatus place))
named-near s place within stays = record {
  here = record { within = within; same = same-files (traced_at s place) };
  stays = stays;
  soon = (refl, omega arith);
}

read-soon : (s : TrussState) (place : ℕ) (ys : List Exchange) → place < length s.traced → (leaving : Bool)
    → s.leaving ≡ leaving → Makes (with_stage s (ReadingStatus place)) ys → All (IsNoEndOf (traced_at s place)) ys
    → length ys ≤ calls_meanwhile (truss_after (with_stage s (ReadingStatus place)) ys).leaving place
read-soon s place ys within false is makes none =
    near-soon (traced_at s place) place ys (with_stage s (ReadingStatus place)) 12
    (named-near s place within is) makes none
read-soon s place ys within true is makes none =
    let way : Leaving (traced_at s place) (12 + 10 * place) (with_stage s (ReadingStatus place)) = record {
      place = place;
      here = record { within = within; same = same-files (traced_at s place) };
      leaves = is;
      soon = (refl, omega arith);
    } in
    let rest =
    leaving-soon (traced_at s place) ys (with_stage s (ReadingStatus place)) (12 + 10 * place) way makes none in
    omega (arith, rest.0, ap (λ b. cond b (10 * place) 0) rest.1)

pub polled-soon : (s : TrussState) (x : Exchange) (between : List Exchange) (place : ℕ) → Makes s (x ∷ between)
    → PollNames s x.reply place → All (IsNoEndOf (traced_at s place)) between
    → length between ≤ calls_meanwhile (truss_after s (x ∷ between)).leaving place
polled-soon s x between place makes names none =
    let is = named-read s x.reply place names in
    let within : place < length s.traced = position-within (has_control names.handle) s.traced place names.there in
    subst (λ (u : TrussState). length between ≤ calls_meanwhile (truss_after u between).leaving place) (sym is)
    (read-soon s place between within s.leaving refl (subst (λ (u : TrussState). Makes u between) is makes.1) none)

pub ruleset polled = (polled-soon)
