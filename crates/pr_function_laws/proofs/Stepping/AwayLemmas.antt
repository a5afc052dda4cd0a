use Rattle.std.proofs.Common.{◌≡◌, ◌≢◌, ◌<◌, ◌⊎◌, ◌||◌, ℕ, zero, suc, Bool, true, false, cond, is_some, nat_lt, not, Option, Some, None, List, [], ◌∷◌, length, position, refl, sym, subst, ap, ◌∙◌, arith, inl, inr}
use Rattle.std.proofs.lemmas.Bool.{false≢true}
use Rattle.std.proofs.lemmas.List.{length-set}
use Rattle.std.proofs.lemmas.List.Elements.{All-head, All-tail, All-weaker}
use Rattle.std.proofs.lemmas.Option.{none-some, same_Some}
use Rattle.std.specs.List.{All, cons_option, remove, slice_set}
use Rattle.std.specs.Option.{option_and_then}
use Rattle.pr_line.specs.Events.{event_of}
use Rattle.pr_line.specs.Selections.{is_selected}
use Rattle.pr_line.specs.declared.events.Event.{Event}
use Rattle.pr_line.specs.declared.options.Options.{Options}
use Rattle.pr_model.specs.Replies.{bytes_in, no_handle, number_of}
use Rattle.pr_model.specs.declared.calls.Call.{Call}
use Rattle.pr_model.specs.declared.calls.Call.TheVariants as call
use Rattle.pr_model.specs.declared.calls.Reply.{Reply}
use Rattle.pr_num.proofs.TableLemmas.{position-within}
use Rattle.pr_rec.specs.declared.lwps.LwpStatus.{LwpStatus}
use Rattle.pr_truss.specs.Asides.{marks_at, patching, with_aside, with_lifts, with_marks, with_patches}
use Rattle.pr_truss.specs.Closings.{after_closing, closed_or_removed, with_closed, with_closing, with_going_on}
use Rattle.pr_truss.specs.Feeding.{fed, with_reply}
use Rattle.pr_truss.specs.FunctionCalls.{call_beside, function_call_of, next_function_call_of, patch_call}
use Rattle.pr_truss.specs.FunctionEvents.{fresh_event}
use Rattle.pr_truss.specs.FunctionFeeding.{after_first, after_patch, fed_functions, planted_if, with_aside_answered, with_function_reply, with_patch_answered, with_pending_told}
use Rattle.pr_truss.specs.FunctionStops.{after_function_text, with_call_shown, with_copy_begun, with_copy_ended, with_fresh_event, with_function_event, with_function_run_answered, with_function_status_answered, with_function_stop, with_function_stop_read, with_function_text_answered, with_memory_replaced, with_other_event, with_step_begun, with_step_completed, with_trap_over}
use Rattle.pr_truss.specs.Marks.{first_function, has_functions, without_function}
use Rattle.pr_truss.specs.NextCalls.{call_of, next_call_of, read_record}
use Rattle.pr_truss.specs.Processes.{last_handle, without_last}
use Rattle.pr_truss.specs.Records.{child_of, is_on_event, status_lwp}
use Rattle.pr_truss.specs.Replies.{answer_of, ready_in}
use Rattle.pr_truss.specs.Stops.{after_text, asked_range, followed_child, has_control, text_of, with_child_or, with_event, with_event_over, with_event_shown, with_old_stop_over, with_poll_answered, with_polled, with_run_answered, with_status_answered, with_stop, with_stop_over, with_text_answered, with_text_or_shown}
use Rattle.pr_truss.specs.Trusses.{TrussState, traced_at, with_report, with_stage, with_traced, without_traced}
use Rattle.pr_truss.specs.declared.asides.Aside.{Aside}
use Rattle.pr_truss.specs.declared.asides.Aside.TheVariants.{Nothing, Patching}
use Rattle.pr_truss.specs.declared.function_events.FunctionEvent.{FunctionEvent}
use Rattle.pr_truss.specs.declared.function_events.FunctionEvent.TheVariants.{Other, AtBreakpoint, Completed, TraceTrap, BeforeCopy, AfterCopy, Replaced}
use Rattle.pr_truss.specs.declared.marks.Marks.{Marks}
use Rattle.pr_truss.specs.declared.processes.Traced.{Traced}
use Rattle.pr_truss.specs.declared.replies.Answer.{Answer}
use Rattle.pr_truss.specs.declared.replies.Answer.TheVariants.{Accepted, Interrupted, Gone, Refused}
use Rattle.pr_truss.specs.declared.reports.Report.{Report}
use Rattle.pr_truss.specs.declared.stages.AfterClosing.TheVariants.{OpenNext, GoOn, RunParent}
use Rattle.pr_truss.specs.declared.stages.Stage.{Stage}
use Rattle.pr_truss.specs.declared.stages.Stage.TheVariants.{Polling, ReadingStatus, ReadingText, Running, Closing, Finished}
use Rattle.pr_truss_laws.proofs.Replies.FedSteps.{goes-on}
use Rattle.pr_truss_laws.proofs.Files.HeldLemmas.{at_place, set-at}
use Rattle.pr_truss_laws.proofs.Replies.ReplySteps as row
use Rattle.pr_truss_laws.proofs.Replies.ReplySteps.{GoesOn, old_less}
use Rattle.pr_truss_laws.specs.Handles.{handles_of}
use Rattle.pr_function_laws.specs.Stretches.{acts_by}

-- Between two looks at one process truss looks at others: then its calls go to their files alone.

-- ---- each process

abbrev pub Each : (Traced → Type 0) → List Traced → Type 0
Each P ts = (q : ℕ) → q < length ts → P (at_place ts q)

pub each-set : (P : Traced → Type 0) (ts : List Traced) (place : ℕ) (t : Traced) → Each P ts → P t
    → Each P (slice_set ts place t)
each-set P [] place t all here q within = all q within
each-set P (u ∷ us) zero t all here zero within = here
each-set P (u ∷ us) zero t all here (suc q) within = all (suc q) within
each-set P (u ∷ us) (suc place) t all here zero within = all zero (omega arith)
each-set P (u ∷ us) (suc place) t all here (suc q) within =
    each-set P us place t (λ j less. all (suc j) (omega (arith, less))) here q (omega (arith, within))

pub each-remove : (P : Traced → Type 0) (ts : List Traced) (place : ℕ) → Each P ts → Each P (remove ts place)
each-remove P [] zero all q within = absurd (omega (arith, within))
each-remove P [] (suc place) all q within = absurd (omega (arith, within))
each-remove P (u ∷ us) zero all q within = all (suc q) (omega (arith, within))
each-remove P (u ∷ us) (suc place) all zero within = all zero (omega arith)
each-remove P (u ∷ us) (suc place) all (suc q) within =
    each-remove P us place (λ j less. all (suc j) (omega (arith, less))) q (omega (arith, within))

-- ---- the files of another process

-- the file that is closed first is one of them, and the others are left
handles-fields : (Q : ℕ → Type 0) (t : Traced) (memory lstatus status : Option ℕ)
    → All Q (handles_of (record t { memory = memory; lstatus = lstatus; status = status }))
    → Q (last_handle (record t { memory = memory; lstatus = lstatus; status = status }))
unfolding last_handle
handles-fields Q t (Some m) lstatus status all = All-head Q _ _ all
handles-fields Q t None (Some l) status all = All-head Q _ _ all
handles-fields Q t None None (Some s) all = All-head Q s (t.control ∷ []) all
handles-fields Q t None None None all = All-head Q t.control [] all

pub last-one : (Q : ℕ → Type 0) (t : Traced) → All Q (handles_of t) → Q (last_handle t)
last-one Q t all = handles-fields Q t t.memory t.lstatus t.status all

abbrev LeftFiles : (ℕ → Type 0) → Option Traced → Type 0
LeftFiles Q None = Unit {0}
LeftFiles Q (Some u) = All Q (handles_of u)

left-fields : (Q : ℕ → Type 0) (t : Traced) (memory lstatus status : Option ℕ)
    → All Q (handles_of (record t { memory = memory; lstatus = lstatus; status = status }))
    → LeftFiles Q (without_last (record t { memory = memory; lstatus = lstatus; status = status }))
unfolding without_last
left-fields Q t (Some m) lstatus status all = All-tail Q _ _ all
left-fields Q t None (Some l) status all = All-tail Q _ _ all
left-fields Q t None None (Some s) all = All-tail Q s (t.control ∷ []) all
left-fields Q t None None None all = tt

files-left : (Q : ℕ → Type 0) (t : Traced) → All Q (handles_of t) → LeftFiles Q (without_last t)
files-left Q t all = left-fields Q t t.memory t.lstatus t.status all

last-cons : (Q : ℕ → Type 0) (o : Option ℕ) (hs : List ℕ) → All Q (cons_option o hs) → All Q hs
last-cons Q None hs all = all
last-cons Q (Some m) hs all = All-tail Q m hs all

control-one : (Q : ℕ → Type 0) (t : Traced) → All Q (handles_of t) → Q t.control
control-one Q t all =
    All-head Q t.control []
    (last-cons Q t.status _ (last-cons Q t.lstatus _ (last-cons Q t.memory _ all)))

at-set : (Q : ℕ → Type 0) (ts : List Traced) (place : ℕ) (t : Traced) (q : ℕ) → All Q (handles_of (at_place ts q))
    → All Q (handles_of t) → All Q (handles_of (at_place (slice_set ts place t) q))
at-set Q [] place t q all here = all
at-set Q (u ∷ us) zero t zero all here = here
at-set Q (u ∷ us) zero t (suc q) all here = all
at-set Q (u ∷ us) (suc place) t zero all here = all
at-set Q (u ∷ us) (suc place) t (suc q) all here = at-set Q us place t q all here

-- ---- truss away from a process

-- what truss knows of a process is what it knew when it met an lwp of it, but for what is planted and its run flags
pub record IsKnownAs (met u : Traced) : Type 0 where
  pub pid : u.pid ≡ met.pid
  pub old : u.old ≡ met.old
  pub seen : u.seen ≡ met.seen
  pub stepped : u.marks.stepped ≡ met.marks.stepped

-- All processes but one have files of which this is so; that one has the control file `c` and the status file `ns`, and
-- truss knows of it what it knew when it met it.
module _ (Q : ℕ → Type 0) (c ns : ℕ) (met : Traced) where
  pub record Own (u : Traced) : Type 0 where
    pub control : u.control ≡ c
    pub status : u.status ≡ Some ns
    pub known : IsKnownAs met u

  abbrev pub Ours : Traced → Type 0
  Ours u = Own u ⊎ All Q (handles_of u)

  abbrev pub Else : List Traced → ℕ → Type 0
  Else ts q = (q < length ts) × All Q (handles_of (at_place ts q))

  abbrev pub AwayAside : List Traced → Aside → Type 0
  AwayAside ts Nothing = Unit {0}
  AwayAside ts (Patching q plants lifts clear) = Else ts q
  AwayAside ts _ = ⊥

  abbrev pub AwayStage : List Traced → Stage → Type 0
  AwayStage ts Polling = Unit {0}
  AwayStage ts (ReadingStatus q) = q < length ts
  AwayStage ts (ReadingText q l from len) = Else ts q
  AwayStage ts (Running q) = Else ts q
  AwayStage ts (Closing q GoOn) = Else ts q
  AwayStage ts Finished = Unit {0}
  AwayStage ts _ = ⊥

  pub record Away (t : TrussState) : Type 0 where
    pub follow : t.options.follow ≡ false
    pub off : t.leaving ≡ false
    pub each : Each Ours t.traced
    pub beside : AwayAside t.traced t.aside
    pub stage : AwayStage t.traced t.stage

  -- truss looks at the process at this place
  record Base (q : ℕ) (u : TrussState) : Type 0 where
    follow : u.options.follow ≡ false
    off : u.leaving ≡ false
    each : Each Ours u.traced
    beside : AwayAside u.traced u.aside
    here : Else u.traced q

  record AwayHere (q : ℕ) (u : TrussState) : Type 0 where
    away : Away u
    here : Else u.traced q

  at : (q : ℕ) (u : TrussState) (stage : Stage) → Base q u → AwayStage u.traced stage → AwayHere q (with_stage u stage)
  at q u stage b is = record {
    away = record { follow = b.follow; off = b.off; each = b.each; beside = b.beside; stage = is };
    here = b.here;
  }

  told : (q : ℕ) (u : TrussState) (report : Report) → Base q u → Base q (with_report u report)
  told q u report b = record { follow = b.follow; off = b.off; each = b.each; beside = b.beside; here = b.here }

  set-else : (ts : List Traced) (q : ℕ) (t : Traced) → q < length ts → All Q (handles_of t) → Else (slice_set ts q t) q
  set-else ts q t within all = (
    omega (arith, within, length-set ts q t),
    subst (λ (u : Traced). All Q (handles_of u)) (sym (set-at ts q t within)) all,
  )

  -- the process there is another one with the same files
  set-base : (q : ℕ) (u : TrussState) (t : Traced) → u.aside ≡ Nothing → All Q (handles_of t) → Base q u
      → Base q (with_traced u q t)
  set-base q u t idle all b = record {
    follow = b.follow;
    off = b.off;
    each = each-set Ours u.traced q t b.each (inr all);
    beside = subst (AwayAside (slice_set u.traced q t)) (sym idle) tt;
    here = set-else u.traced q t b.here.0 all;
  }

  marked-base : (q : ℕ) (u : TrussState) (m : Marks) → u.aside ≡ Nothing → Base q u → Base q (with_marks u q m)
  marked-base q u m idle b = set-base q u (record (traced_at u q) { marks = m }) idle b.here.1 b

  either : (q : ℕ) (b : Bool) (u v : TrussState) → AwayHere q u → AwayHere q v → AwayHere q (cond b u v)
  either q true u v x y = x
  either q false u v x y = y

  stays : (q : ℕ) (s u v : TrussState) → s.leaving ≡ false → AwayHere q v → AwayHere q (cond s.leaving u v)
  stays q s u v off it = subst (AwayHere q) (sym (ap (λ b. cond b u v) off)) it

  -- ---- stops

  over-away : (q : ℕ) (u : TrussState) → Base q u → AwayHere q (with_stop_over u q)
  unfolding with_stop_over
  over-away q u b = stays q u _ _ b.off (at q u (Running q) b b.here)

  event-over-away : (q : ℕ) (u : TrussState) (l : LwpStatus) → Base q u → AwayHere q (with_event_over u q l)
  unfolding with_event_over followed_child
  event-over-away q u l b =
      subst (AwayHere q) (sym (ap (λ f. with_child_or u q (cond f (child_of l) None)) b.follow)) (over-away q u b)

  shown-away : (q : ℕ) (u : TrussState) (l : LwpStatus) (range : Option (ℕ × ℕ)) → Base q u
      → AwayHere q (with_text_or_shown u q l range)
  unfolding with_event_shown
  shown-away q u l None b = event-over-away q (with_event_shown u q l None) l (told q u _ b)
  shown-away q u l (Some range) b = at q u (ReadingText q l range.0 range.1) b b.here

  event-away : (q : ℕ) (u : TrussState) (l : LwpStatus) (e : Option Event) → Base q u → AwayHere q (with_event u q l e)
  event-away q u l None b = over-away q u b
  event-away q u l (Some e) b =
      either q (is_selected u.options e) _ _ (shown-away q u l (asked_range u.options e) b) (event-over-away q u l b)

  stop-away : (q : ℕ) (u : TrussState) (l : LwpStatus) → u.aside ≡ Nothing → Base q u → AwayHere q (with_stop u q l)
  unfolding with_stop with_old_stop_over
  stop-away q u l idle b =
      either q (not (is_on_event l)) _ _ (over-away q u b)
      (either q (nat_lt 0 (traced_at u q).old) _ _
      (over-away q _ (set-base q u (record (traced_at u q) { old = _ }) idle b.here.1 b))
      (either q (traced_at u q).seen _ _ (over-away q u b) (event-away q u l (event_of l) b)))

  -- ---- patches

  beside-away : (q : ℕ) (u : TrussState) (a : Aside) → AwayAside u.traced a → AwayHere q u → AwayHere q (with_aside u a)
  beside-away q u a is w =
      let v : Away u = w.away in
      record {
        away = record { follow = v.follow; off = v.off; each = v.each; beside = is; stage = v.stage };
        here = w.here;
      }

  patching-away : (q : ℕ) (ts : List Traced) (plants lifts : List Bool) (clear : Bool) → Else ts q
      → AwayAside ts (patching q plants lifts clear)
  unfolding patching
  patching-away q ts plants lifts clear here =
      elim (is_some (first_function plants) || is_some (first_function lifts) || clear)
      as (λ b. AwayAside ts (cond b (Patching q plants lifts clear) Nothing)) [ true ↦ here | false ↦ tt ]

  patched : (q : ℕ) (u : TrussState) (plants lifts : List Bool) → AwayHere q u
      → AwayHere q (with_patches u q plants lifts)
  unfolding with_patches
  patched q u plants lifts w = beside-away q u _ (patching-away q u.traced plants lifts false w.here) w

  -- ---- stops with breakpoints

  function-away : (q : ℕ) (u : TrussState) (l : LwpStatus) (e : FunctionEvent) → u.aside ≡ Nothing → Base q u
      → AwayHere q (with_function_event u q l e)
  unfolding with_function_event with_step_begun with_step_completed with_trap_over with_copy_begun with_copy_ended
      with_other_event with_memory_replaced with_call_shown
  function-away q u l (AtBreakpoint function) idle b =
      patched q _ _ _ (over-away q _ (marked-base q u _ idle b))
  function-away q u l (Completed step) idle b =
      patched q _ _ _ (over-away q _ (told q _ _ (marked-base q u _ idle b)))
  function-away q u l TraceTrap idle b = over-away q _ (marked-base q u _ idle b)
  function-away q u l BeforeCopy idle b = patched q _ _ _ (stop-away q _ l idle (marked-base q u _ idle b))
  function-away q u l AfterCopy idle b = patched q _ _ _ (stop-away q _ l idle (marked-base q u _ idle b))
  function-away q u l Replaced idle b = stop-away q _ l idle (marked-base q u _ idle b)
  function-away q u l Other idle b = patched q _ _ _ (stop-away q _ l idle (marked-base q u _ idle b))

  fresh-away : (q : ℕ) (u : TrussState) (l : LwpStatus) (e : Option Event) → u.aside ≡ Nothing → Base q u
      → AwayHere q (with_fresh_event u q l e)
  fresh-away q u l None idle b = stays q u _ _ b.off (stop-away q u l idle b)
  fresh-away q u l (Some e) idle b = stays q u _ _ b.off (function-away q u l _ idle b)

  read-away : (q : ℕ) (u : TrussState) (l : Option LwpStatus) → u.aside ≡ Nothing → Base q u
      → AwayHere q (with_function_stop_read u q l)
  unfolding with_function_stop
  read-away q u None idle b = stays q u _ _ b.off (over-away q u b)
  read-away q u (Some l) idle b = fresh-away q u l (fresh_event (traced_at u q) l) idle b

  closing-away : (q : ℕ) (u : TrussState) → Base q u → AwayHere q (with_closing u q)
  closing-away q u b = at q u (Closing q GoOn) b b.here

  -- ---- when nothing is to be done for a process

  pub going-away : (u : TrussState) → u.options.follow ≡ false → u.leaving ≡ false → Each Ours u.traced
      → u.aside ≡ Nothing → Away (with_going_on u)
  going-away u follow off each idle = by (goes-on u false)
    where
      by : {v : TrussState} → GoesOn u false v → Away v
      by (row.finishes _) = record {
        follow = follow;
        off = off;
        each = each;
        beside = subst (AwayAside u.traced) (sym idle) tt;
        stage = tt;
      }
      by (row.polls _ _) = record {
        follow = follow;
        off = off;
        each = each;
        beside = subst (AwayAside u.traced) (sym idle) tt;
        stage = tt;
      }
      by (row.unfollows on _ _) = absurd (false≢true (sym off ∙ on))
      by (row.closes_first on _ _) = absurd (false≢true (sym off ∙ on))

  -- ---- the replies

  module _ (t : TrussState) (r : Reply) (w : Away t) (calm : answer_of r ≢ Interrupted) where
    base : (q : ℕ) → Else t.traced q → Base q t
    base q here = record { follow = w.follow; off = w.off; each = w.each; beside = w.beside; here = here }

    module _ (idle : t.aside ≡ Nothing) where
      polled : (place : Option ℕ) → ((q : ℕ) → place ≡ Some q → q < length t.traced) → t.stage ≡ Polling
          → Away (with_polled t place)
      polled None within is = w
      polled (Some q) within is = record {
        follow = w.follow;
        off = w.off;
        each = w.each;
        beside = w.beside;
        stage = within q refl;
      }

      poll-within : (handle : Option ℕ) (q : ℕ)
          → option_and_then (λ h. position (has_control h) t.traced) handle ≡ Some q → q < length t.traced
      poll-within None q is = absurd (none-some q is)
      poll-within (Some h) q is = position-within (has_control h) t.traced q is

      poll-away : (a : Answer) → a ≢ Interrupted → t.stage ≡ Polling → Away (with_poll_answered t r a)
      unfolding with_poll_answered
      poll-away Accepted other is =
          polled (option_and_then (λ h. position (has_control h) t.traced) (ready_in r)) (poll-within (ready_in r)) is
      poll-away (Refused errno) other is = w
      poll-away Gone other is = w
      poll-away Interrupted other is = absurd (other refl)

      status-away : (q : ℕ) (a : Answer) → a ≢ Interrupted → Else t.traced q
          → AwayHere q (with_function_status_answered t q r a)
      unfolding with_function_status_answered with_status_answered
      status-away q Accepted other here = read-away q t (option_and_then status_lwp (bytes_in r)) idle (base q here)
      status-away q (Refused errno) other here = over-away q t (base q here)
      status-away q Gone other here = closing-away q t (base q here)
      status-away q Interrupted other here = absurd (other refl)

      shown-base : (q : ℕ) (l : LwpStatus) (len : ℕ) → Else t.traced q
          → Base q (with_event_shown t q l (text_of len (bytes_in r)))
      unfolding with_event_shown
      shown-base q l len here = told q t _ (base q here)

      after-text-away : (q : ℕ) (l : LwpStatus) (u : TrussState) (a : Answer) → a ≢ Interrupted → Base q u
          → AwayHere q (after_text u q l a)
      unfolding after_text
      after-text-away q l u Accepted other b = event-over-away q u l b
      after-text-away q l u (Refused errno) other b = event-over-away q u l b
      after-text-away q l u Gone other b = closing-away q u b
      after-text-away q l u Interrupted other b = absurd (other refl)

      text-away : (q : ℕ) (l : LwpStatus) (len : ℕ) (a : Answer) → a ≢ Interrupted → Else t.traced q
          → AwayHere q (after_text (with_event_shown t q l (text_of len (bytes_in r))) q l a)
      text-away q l len a other here = after-text-away q l _ a other (shown-base q l len here)

      function-text-away : (q : ℕ) (u : TrussState) (a : Answer) → Away u → Away (after_function_text t u q a)
      function-text-away q u Gone it = it
      function-text-away q u _ it = subst Away (sym (ap (λ b. cond b (with_lifts u q false) u) w.off)) it

      run-away : (q : ℕ) (a : Answer) → a ≢ Interrupted → Base q t
          → Away (with_run_answered (with_marks t q (record (marks_at t q) { flags = 0 })) q a)
      unfolding with_run_answered
      run-away q Accepted other b =
          let m = marked-base q t (record (marks_at t q) { flags = 0 }) idle b in
          going-away _ m.follow m.off m.each idle
      run-away q (Refused errno) other b =
          let m = marked-base q t (record (marks_at t q) { flags = 0 }) idle b in
          going-away _ m.follow m.off m.each idle
      run-away q Gone other b =
          let it = closing-away q _ (marked-base q t (record (marks_at t q) { flags = 0 }) idle b) in it.away
      run-away q Interrupted other b = absurd (other refl)

      function-run-away : (q : ℕ) (a : Answer) → a ≢ Interrupted → Base q t → Away (with_function_run_answered t q a)
      unfolding with_function_run_answered
      function-run-away q Accepted other b = run-away q Accepted other b
      function-run-away q (Refused errno) other b = run-away q (Refused errno) other b
      function-run-away q Gone other b = run-away q Gone other b
      function-run-away q Interrupted other b = absurd (other refl)

      closed-away : (q : ℕ) → t.stage ≡ Closing q GoOn → Else t.traced q → (u : Option Traced) → LeftFiles Q u
          → Away (closed_or_removed t q GoOn u)
      unfolding after_closing
      closed-away q is here None left =
          going-away (without_traced t q) w.follow w.off (each-remove Ours t.traced q w.each) idle
      closed-away q is here (Some u) left =
          let b = set-base q t u idle left (base q here) in
          record {
            follow = b.follow;
            off = b.off;
            each = b.each;
            beside = b.beside;
            stage = subst (AwayStage (slice_set t.traced q u)) (sym is) b.here;
          }

      close-away : (q : ℕ) → t.stage ≡ Closing q GoOn → Else t.traced q → Away (with_closed t q GoOn)
      unfolding with_closed
      close-away q is here =
          closed-away q is here (without_last (traced_at t q)) (files-left Q (traced_at t q) here.1)

      -- a row a stage; the process itself is not read
      stage-away : (stage : Stage) → t.stage ≡ stage → AwayStage t.traced stage
          → function_call_of t stage ≢ Some (read_record (Some ns)) → Away (with_function_reply t r stage)
      unfolding with_function_reply with_reply with_function_text_answered with_text_answered function_call_of call_of
      stage-away Polling is here other = poll-away (answer_of r) calm is
      stage-away (ReadingStatus q) is here other =
          by (w.each q here)
        where
          by : Ours (at_place t.traced q) → Away (with_function_status_answered t q r (answer_of r))
          by (inl own) = absurd (other (ap (λ f. Some (read_record f)) own.status))
          by (inr apart) = let it = status-away q (answer_of r) calm (here, apart) in it.away
      stage-away (ReadingText q l from len) is here other =
          let it = text-away q l len (answer_of r) calm here in function-text-away q _ (answer_of r) it.away
      stage-away (Running q) is here other = function-run-away q (answer_of r) calm (base q here)
      stage-away (Closing q GoOn) is here other = close-away q is here
      stage-away Finished is here other = w
      stage-away _ is here other = absurd here

    -- ---- a breakpoint is planted or lifted

    module _ (q : ℕ) (plants lifts : List Bool) (clear : Bool) (here : Else t.traced q) where
      abbrev idle_now : TrussState
      idle_now = with_aside t Nothing

      idle-base : Base q idle_now
      idle-base = record { follow = w.follow; off = w.off; each = w.each; beside = tt; here = here }

      stage-set : (u : Traced) → All Q (handles_of u) → (stage : Stage) → AwayStage t.traced stage
          → AwayStage (slice_set t.traced q u) stage
      stage-set u all Polling is = tt
      stage-set u all (ReadingStatus i) is = omega (arith, is, length-set t.traced q u)
      stage-set u all (ReadingText i l from len) is =
          (omega (arith, is.0, length-set t.traced q u), at-set Q t.traced q u i is.1 all)
      stage-set u all (Running i) is =
          (omega (arith, is.0, length-set t.traced q u), at-set Q t.traced q u i is.1 all)
      stage-set u all (Closing i GoOn) is =
          (omega (arith, is.0, length-set t.traced q u), at-set Q t.traced q u i is.1 all)
      stage-set u all Finished is = tt
      stage-set u all _ is = absurd is

      rest-away : (u : TrussState) (rest : Aside) → Base q u → AwayStage u.traced u.stage → AwayAside u.traced rest
          → Away (with_aside u rest)
      rest-away u rest b stage beside = record {
        follow = b.follow;
        off = b.off;
        each = b.each;
        beside = beside;
        stage = stage;
      }

      gone-away : (u : TrussState) → Base q u → Away (with_closing u q)
      gone-away u b = let it = closing-away q u b in it.away

      after-away : (u : TrussState) (rest : Aside) (stage : Stage) (a : Answer) → a ≢ Interrupted → Base q u
          → u.stage ≡ stage → AwayStage u.traced stage → AwayAside u.traced rest
          → Away (after_patch u rest q stage a)
      unfolding after_patch with_pending_told
      after-away u rest (Closing closed GoOn) Gone other b is stage beside = gone-away u b
      after-away u rest (Closing closed GoOn) _ other b is stage beside =
          rest-away u rest b (subst (AwayStage u.traced) (sym is) stage) beside
      after-away u rest (Closing closed OpenNext) a other b is stage beside = absurd stage
      after-away u rest (Closing closed (RunParent parent)) a other b is stage beside = absurd stage
      after-away u rest stage Accepted other b is at_stage beside =
          rest-away u rest b (subst (AwayStage u.traced) (sym is) at_stage) beside
      after-away u rest stage (Refused errno) other b is at_stage beside =
          rest-away u rest b (subst (AwayStage u.traced) (sym is) at_stage) beside
      after-away u rest stage Gone other b is at_stage beside =
          gone-away (with_pending_told u)
          (record { follow = b.follow; off = b.off; each = b.each; beside = b.beside; here = b.here })
      after-away u rest stage Interrupted other b is at_stage beside = absurd (other refl)

      marked-away : (m : Marks) (rest : Aside) (a : Answer) → a ≢ Interrupted
          → ((ts : List Traced) → Else ts q → AwayAside ts rest)
          → Away (after_patch (with_marks idle_now q m) rest q t.stage a)
      marked-away m rest a other beside =
          let b = marked-base q idle_now m refl idle-base in
          after-away (with_marks idle_now q m) rest t.stage a other b refl
          (stage-set (record (traced_at t q) { marks = m }) here.1 t.stage w.stage) (beside _ b.here)

      planted-away : (function : ℕ) (rest : Aside) (a b : Answer) → a ≢ Interrupted
          → ((ts : List Traced) → Else ts q → AwayAside ts rest)
          → Away (after_patch (planted_if idle_now q function b) rest q t.stage a)
      planted-away function rest a Accepted other beside = marked-away _ rest a other beside
      planted-away function rest a _ other beside =
          after-away idle_now rest t.stage a other idle-base refl w.stage (beside t.traced here)

      first-away : (plant lift : Option ℕ)
          → Away (after_first idle_now q plants lifts clear (answer_of r) plant lift)
      first-away (Some function) lift =
          planted-away function _ (answer_of r) (answer_of r) calm
          (λ ts is. patching-away q ts (without_function plants function) lifts clear is)
      first-away None (Some function) =
          marked-away _ _ (answer_of r) calm
          (λ ts is. patching-away q ts plants (without_function lifts function) clear is)
      first-away None None =
          after-away idle_now Nothing t.stage (answer_of r) calm idle-base refl w.stage tt

      patch-away : Away (with_patch_answered idle_now q plants lifts clear (answer_of r))
      unfolding with_patch_answered
      patch-away = first-away (first_function plants) (first_function lifts)

    -- ---- every reply

    aside-away : (aside : Aside) → t.aside ≡ aside → AwayAside t.traced aside
        → call_beside t t.stage aside ≢ Some (read_record (Some ns)) → Away (with_aside_answered t r aside)
    unfolding with_aside_answered call_beside
    aside-away Nothing is here other = stage-away is t.stage refl w.stage other
    aside-away (Patching q plants lifts clear) is here other = patch-away q plants lifts clear here
    aside-away _ is here other = absurd here

    pub next-away : has_functions t.options ≡ true → next_function_call_of t ≢ Some (read_record (Some ns))
        → Away (fed_functions t r)
    unfolding next_function_call_of fed_functions
    next-away has other =
        subst Away (sym (ap (λ b. cond b (with_aside_answered t r t.aside) (fed t r)) has))
        (aside-away t.aside refl w.beside
        (λ is. other (ap (λ b. cond b (call_beside t t.stage t.aside) (next_call_of t)) has ∙ is)))

  -- ---- its calls

  -- the handle by which the next call acts
  abbrev acts : Option Call → Option ℕ
  acts None = None
  acts (Some d) = acts_by d

  patch-acts : (opts : Options) (control m : ℕ) (plant lift : Option ℕ)
      → acts_by (patch_call opts control plant lift) ≡ Some m → control ≡ m
  patch-acts opts control m (Some function) lift is = same_Some control m is
  patch-acts opts control m None (Some function) is = same_Some control m is
  patch-acts opts control m None None is = same_Some control m is

  module _ (t : TrussState) (w : Away t) (m : ℕ) where
    stage-acts : (stage : Stage) → AwayStage t.traced stage → acts (function_call_of t stage) ≡ Some m → Q m
    unfolding function_call_of call_of
    stage-acts (Running q) here is = subst Q (same_Some _ m is) (control-one Q (traced_at t q) here.1)
    stage-acts (Closing q GoOn) here is = subst Q (same_Some _ m is) (last-one Q (traced_at t q) here.1)
    stage-acts Polling here is = absurd (none-some m is)
    stage-acts (ReadingStatus q) here is = absurd (none-some m is)
    stage-acts (ReadingText q l from len) here is = absurd (none-some m is)
    stage-acts Finished here is = absurd (none-some m is)
    stage-acts _ here is = absurd here

    aside-acts : (aside : Aside) → AwayAside t.traced aside → acts (call_beside t t.stage aside) ≡ Some m → Q m
    unfolding call_beside
    aside-acts Nothing here is = stage-acts t.stage w.stage is
    aside-acts (Patching q plants lifts clear) here is =
        subst Q
        (patch-acts t.options (traced_at t q).control m (first_function plants) (first_function lifts) is)
        (control-one Q (traced_at t q) here.1)
    aside-acts _ here is = absurd here

    pub away-acts : has_functions t.options ≡ true → (d : Call) → next_function_call_of t ≡ Some d
        → acts_by d ≡ Some m → Q m
    unfolding next_function_call_of
    away-acts has d next is =
        aside-acts t.aside w.beside
        (ap acts (sym (ap (λ b. cond b (call_beside t t.stage t.aside) (next_call_of t)) has) ∙ next) ∙ is)

  -- it opens nothing
  abbrev opens : Option Call → Bool
  opens None = false
  opens (Some (call.Open pid id file mode)) = true
  opens (Some d) = false

  patch-opens : (opts : Options) (control : ℕ) (plant lift : Option ℕ)
      → opens (Some (patch_call opts control plant lift)) ≡ false
  patch-opens opts control (Some function) lift = refl
  patch-opens opts control None (Some function) = refl
  patch-opens opts control None None = refl

  module _ (t : TrussState) (w : Away t) where
    stage-opens : (stage : Stage) → AwayStage t.traced stage → opens (function_call_of t stage) ≡ false
    unfolding function_call_of call_of
    stage-opens (Running q) here = refl
    stage-opens (Closing q GoOn) here = refl
    stage-opens Polling here = refl
    stage-opens (ReadingStatus q) here = refl
    stage-opens (ReadingText q l from len) here = refl
    stage-opens Finished here = refl
    stage-opens _ here = absurd here

    aside-opens : (aside : Aside) → AwayAside t.traced aside → opens (call_beside t t.stage aside) ≡ false
    unfolding call_beside
    aside-opens Nothing here = stage-opens t.stage w.stage
    aside-opens (Patching q plants lifts clear) here =
        patch-opens t.options (traced_at t q).control (first_function plants) (first_function lifts)
    aside-opens _ here = absurd here

    pub away-opens : has_functions t.options ≡ true → (d : Call) → next_function_call_of t ≡ Some d
        → opens (Some d) ≡ false
    unfolding next_function_call_of
    away-opens has d next =
        ap opens (sym next ∙ ap (λ b. cond b (call_beside t t.stage t.aside) (next_call_of t)) has)
        ∙ aside-opens t.aside w.beside

  -- ---- where it comes to read the process

  abbrev is_read : Option Call → Bool
  is_read (Some (call.Read handle from len)) = true
  is_read _ = false

  abbrev read_from : Option Call → ℕ
  read_from (Some (call.Read handle from len)) = handle
  read_from _ = 0

  status-one : (u : Traced) (m : ℕ) → All Q (handles_of u) → u.status ≡ Some m → Q m
  status-one u m all is =
      All-head Q m (u.control ∷ [])
      (subst (λ o. All Q (cons_option o (u.control ∷ []))) is (last-cons Q u.lstatus _ (last-cons Q u.memory _ all)))

  memory-one : (u : Traced) (m : ℕ) → All Q (handles_of u) → u.memory ≡ Some m → Q m
  memory-one u m all is =
      All-head Q m (cons_option u.lstatus (cons_option u.status (u.control ∷ [])))
      (subst (λ o. All Q (cons_option o (cons_option u.lstatus (cons_option u.status (u.control ∷ []))))) is all)

  -- it comes to read the status of the process that it met
  pub record ReadsOwn (t : TrussState) : Type 0 where
    pub place : ℕ
    pub within : place < length t.traced
    pub reads : t.stage ≡ ReadingStatus place
    pub idle : t.aside ≡ Nothing
    pub own : Own (traced_at t place)

  module _ (t : TrussState) (w : Away t) (open_one : ns < no_handle) (ours : Q ns → ⊥) where
    -- no file of another process has this handle
    not-other : (o : Option ℕ) → ((m : ℕ) → o ≡ Some m → Q m) → number_of o ≡ ns → ⊥
    not-other None files is = omega (arith, is, open_one)
    not-other (Some m) files is = ours (subst Q is (files m refl))

    patch-reads : (control : ℕ) (plant lift : Option ℕ)
        → is_read (Some (patch_call t.options control plant lift)) ≡ false
    patch-reads control (Some function) lift = refl
    patch-reads control None (Some function) = refl
    patch-reads control None None = refl

    no-read : {A : Type 0} (d : Option Call) → is_read d ≡ false → d ≡ Some (read_record (Some ns)) → A
    no-read d other is = absurd (false≢true (sym other ∙ ap is_read is))

    stage-reads : t.aside ≡ Nothing → (stage : Stage) → t.stage ≡ stage → AwayStage t.traced stage
        → function_call_of t stage ≡ Some (read_record (Some ns)) → ReadsOwn t
    unfolding function_call_of call_of
    stage-reads idle (ReadingStatus q) at here is = by (w.each q here)
      where
        by : Ours (at_place t.traced q) → ReadsOwn t
        by (inl own) = record { place = q; within = here; reads = at; idle = idle; own = own }
        by (inr apart) =
            absurd (not-other (traced_at t q).status (λ m. status-one (traced_at t q) m apart) (ap read_from is))
    stage-reads idle (ReadingText q l from len) at here is =
        absurd (not-other (traced_at t q).memory (λ m. memory-one (traced_at t q) m here.1) (ap read_from is))
    stage-reads idle Polling at here is = no-read _ refl is
    stage-reads idle (Running q) at here is = no-read _ refl is
    stage-reads idle (Closing q GoOn) at here is = no-read _ refl is
    stage-reads idle Finished at here is = no-read _ refl is
    stage-reads idle _ at here is = absurd here

    aside-reads : (aside : Aside) → t.aside ≡ aside → AwayAside t.traced aside
        → call_beside t t.stage aside ≡ Some (read_record (Some ns)) → ReadsOwn t
    unfolding call_beside
    aside-reads Nothing idle here is = stage-reads idle t.stage refl w.stage is
    aside-reads (Patching q plants lifts clear) at here is =
        no-read _ (patch-reads (traced_at t q).control (first_function plants) (first_function lifts)) is
    aside-reads _ at here is = absurd here

    pub reads-own : has_functions t.options ≡ true → next_function_call_of t ≡ Some (read_record (Some ns))
        → ReadsOwn t
    unfolding next_function_call_of
    reads-own has next =
        aside-reads t.aside refl w.beside
        (sym (ap (λ b. cond b (call_beside t t.stage t.aside) (next_call_of t)) has) ∙ next)

-- what is so of handles may change meanwhile
pub away-weaker : (Q R : ℕ → Type 0) (c ns : ℕ) (met : Traced) (t : TrussState) → ((m : ℕ) → Q m → R m)
    → Away Q c ns met t → Away R c ns met t
away-weaker Q R c ns met t weaker w = record {
  follow = w.follow;
  off = w.off;
  each = λ q within. elim (w.each q within) [
    | inl own ↦ inl (record { control = own.control; status = own.status; known = own.known })
    | inr apart ↦ inr (All-weaker Q R weaker (handles_of (at_place t.traced q)) apart)
  ];
  beside = aside t.aside w.beside;
  stage = stage t.stage w.stage;
}
  where
    else-weaker : (q : ℕ) → Else Q c ns met t.traced q → Else R c ns met t.traced q
    else-weaker q is = (is.0, All-weaker Q R weaker (handles_of (at_place t.traced q)) is.1)

    aside : (a : Aside) → AwayAside Q c ns met t.traced a → AwayAside R c ns met t.traced a
    aside Nothing is = tt
    aside (Patching q plants lifts clear) is = else-weaker q is
    aside _ is = absurd is

    stage : (st : Stage) → AwayStage Q c ns met t.traced st → AwayStage R c ns met t.traced st
    stage Polling is = tt
    stage (ReadingStatus q) is = is
    stage (ReadingText q l from len) is = else-weaker q is
    stage (Running q) is = else-weaker q is
    stage (Closing q GoOn) is = else-weaker q is
    stage Finished is = tt
    stage _ is = absurd is
