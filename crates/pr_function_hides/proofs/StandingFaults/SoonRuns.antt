use Rattle.std.proofs.Common.{◌≡◌, ◌≢◌, ◌<◌, ◌||◌, ◌⊎◌, ℕ, Bool, true, false, cond, is_some, Option, Some, None, List, length, refl, sym, subst, ap, ◌∙◌, inl, inr}
use Rattle.std.proofs.lemmas.Bool.{eqb-true, false≢true}
use Rattle.std.proofs.lemmas.List.{length-set}
use Rattle.std.specs.Option.{option_and_then}
use Rattle.pr_line.specs.declared.events.Event.{Event}
use Rattle.pr_model.specs.Replies.{bytes_in}
use Rattle.pr_model.specs.declared.calls.Reply.{Reply}
use Rattle.pr_num.specs.Control.{clear_fault, single_step}
use Rattle.pr_num.specs.Sets.{union_word}
use Rattle.pr_rec.specs.declared.lwps.LwpStatus.{LwpStatus}
use Rattle.pr_truss.specs.Asides.{marks_at, patching, with_aside, with_lifts, with_marks, with_patches}
use Rattle.pr_truss.specs.Feeding.{fed}
use Rattle.pr_truss.specs.FunctionEvents.{fresh_event, function_event}
use Rattle.pr_truss.specs.FunctionFeeding.{after_first, after_patch, fed_functions, planted_if, with_aside_answered, with_function_reply, with_patch_answered, with_pending_told}
use Rattle.pr_truss.specs.FunctionStops.{after_function_text, with_call_shown, with_copy_begun, with_copy_ended, with_fresh_event, with_function_event, with_function_status_answered, with_function_stop, with_function_stop_read, with_function_text_answered, with_last_event, with_last_stop, with_memory_replaced, with_other_event, with_step_begun, with_step_completed, with_trap_over}
use Rattle.pr_truss.specs.Marks.{first_function, has_functions, without_function}
use Rattle.pr_truss.specs.Records.{status_lwp}
use Rattle.pr_truss.specs.Replies.{answer_of}
use Rattle.pr_truss.specs.Stops.{after_text, text_of, with_event_over, with_event_shown, with_status_answered, with_stop, with_stop_over, with_text_answered}
use Rattle.pr_truss.specs.Trusses.{TrussState, traced_at}
use Rattle.pr_truss.specs.declared.asides.Aside.{Aside}
use Rattle.pr_truss.specs.declared.asides.Aside.TheVariants.{Nothing, Patching}
use Rattle.pr_truss.specs.declared.function_events.FunctionEvent.{FunctionEvent}
use Rattle.pr_truss.specs.declared.function_events.FunctionEvent.TheVariants.{AfterCopy, AtBreakpoint, BeforeCopy, Completed, Other, Replaced, TraceTrap}
use Rattle.pr_truss.specs.declared.marks.Marks.{Marks}
use Rattle.pr_truss.specs.declared.processes.Traced.{Traced}
use Rattle.pr_truss.specs.declared.replies.Answer.{Answer}
use Rattle.pr_truss.specs.declared.replies.Answer.TheVariants.{Accepted, Gone, Interrupted, Refused}
use Rattle.pr_truss.specs.declared.stages.AfterClosing.TheVariants.{GoOn}
use Rattle.pr_truss.specs.declared.stages.Stage.{Stage}
use Rattle.pr_truss.specs.declared.stages.Stage.TheVariants.{Closing, ReadingStatus, ReadingText, Running}
use Rattle.pr_truss_laws.proofs.Files.HeldLemmas.{set-at}
use Rattle.pr_function_hides.proofs.Replies.TreatedEvents.{At, Looks, event-over-at, marked, over-at, shown-looks, stop-at}
use Rattle.pr_function_hides.specs.Treating.{is_run_soon}

-- With which run flags truss runs a process whose status it read: those that the event says, and they stay until then.

-- ---- a process that is run soon

-- breakpoints of the process at a place are planted and lifted first, or nothing comes first
abbrev pub IsPatchedFirst : ℕ → Aside → Type 0
IsPatchedFirst q Nothing = Unit {0}
IsPatchedFirst q (Patching at plants lifts clear) = at ≡ q
IsPatchedFirst q _ = ⊥

-- Truss runs the process at a place next, with these run flags, or reads memory for an event of it before that.
pub record RunsSoon (q n : ℕ) (t : TrussState) : Type 0 where
  pub follow : t.options.follow ≡ false
  pub off : t.leaving ≡ false
  pub within : q < length t.traced
  pub stage : is_run_soon t.stage q ≡ true
  pub flags : (marks_at t q).flags ≡ n
  pub aside : IsPatchedFirst q t.aside

-- it does so next, or closes the files of the process, which has ended
abbrev pub RunsOrCloses : Reply → ℕ → ℕ → TrussState → Type 0
RunsOrCloses r q n t = RunsSoon q n t ⊎ ((t.stage ≡ Closing q GoOn) × (answer_of r ≡ Gone))

patching-first : (q : ℕ) (plants lifts : List Bool) (clear : Bool)
    → IsPatchedFirst q (patching q plants lifts clear)
unfolding patching
patching-first q plants lifts clear =
    elim (is_some (first_function plants) || is_some (first_function lifts) || clear)
    as (λ b. IsPatchedFirst q (cond b (Patching q plants lifts clear) Nothing)) [ true ↦ refl | false ↦ tt ]

at-soon : (q : ℕ) (m : Marks) (a : Aside) (v : TrussState) → IsPatchedFirst q a → At q m a v → RunsSoon q m.flags v
at-soon q m a v first w = record {
  follow = w.follow;
  off = w.off;
  within = w.within;
  stage = w.stage;
  flags = ap (λ (x : Marks). x.flags) w.marks;
  aside = subst (IsPatchedFirst q) (sym w.aside) first;
}

patched-soon : (q : ℕ) (m : Marks) (a : Aside) (v : TrussState) (plants lifts : List Bool) → At q m a v
    → RunsSoon q m.flags (with_patches v q plants lifts)
unfolding with_patches
patched-soon q m a v plants lifts w = record {
  follow = w.follow;
  off = w.off;
  within = w.within;
  stage = w.stage;
  flags = ap (λ (x : Marks). x.flags) w.marks;
  aside = patching-first q plants lifts false;
}

-- ---- what a status says

-- the run flags after an event, where these were the marks
abbrev pub flags_met : Marks → FunctionEvent → ℕ
flags_met m (AtBreakpoint function) = union_word clear_fault single_step
flags_met m (Completed step) = clear_fault
flags_met m TraceTrap = clear_fault
flags_met m BeforeCopy = single_step
flags_met m AfterCopy = m.flags
flags_met m Replaced = 0
flags_met m Other = m.flags

-- after a status that was read, of which this event is new
abbrev pub flags_fresh : TrussState → ℕ → LwpStatus → Option Event → ℕ
flags_fresh t q l None = (marks_at t q).flags
flags_fresh t q l (Some e) = flags_met (marks_at t q) (function_event t.options (marks_at t q) l.id e)

abbrev pub flags_read : TrussState → ℕ → Option LwpStatus → ℕ
flags_read t q None = (marks_at t q).flags
flags_read t q (Some l) = flags_fresh t q l (fresh_event (traced_at t q) l)

abbrev pub flags_after : TrussState → ℕ → Reply → Answer → ℕ
flags_after t q r Accepted = flags_read t q (option_and_then status_lwp (bytes_in r))
flags_after t q r _ = (marks_at t q).flags

module _ (t : TrussState) (q : ℕ) (follow : t.options.follow ≡ false) (off : t.leaving ≡ false)
    (within : q < length t.traced) (idle : t.aside ≡ Nothing) where
  abbrev m : Marks
  m = marks_at t q

  now : Looks q m Nothing t
  now = record { follow = follow; off = off; within = within; marks = refl; aside = idle }

  looks : (n : Marks) → Looks q n Nothing (with_marks t q n)
  looks n = marked q t Nothing n follow off within idle

  event-soon : (l : LwpStatus) (e : FunctionEvent) → RunsSoon q (flags_met m e) (with_function_event t q l e)
  unfolding with_function_event with_step_begun with_step_completed with_trap_over with_copy_begun with_copy_ended
      with_other_event with_memory_replaced with_call_shown
  event-soon l (AtBreakpoint function) = patched-soon q _ Nothing _ _ _ (over-at q _ Nothing _ (looks _))
  event-soon l (Completed step) =
      patched-soon q _ Nothing _ _ _
      (over-at q _ Nothing _
      (let w = looks (record m { stepped = None; flags = clear_fault }) in
      record { follow = w.follow; off = w.off; within = w.within; marks = w.marks; aside = w.aside }))
  event-soon l TraceTrap = at-soon q _ Nothing _ tt (over-at q _ Nothing _ (looks _))
  event-soon l BeforeCopy = patched-soon q _ Nothing _ _ _ (stop-at q _ Nothing _ l (looks _))
  event-soon l AfterCopy = patched-soon q _ Nothing _ _ _ (stop-at q _ Nothing _ l (looks _))
  event-soon l Replaced = at-soon q _ Nothing _ tt (stop-at q _ Nothing _ l (looks _))
  event-soon l Other = patched-soon q _ Nothing _ _ _ (stop-at q _ Nothing _ l (looks _))

  fresh-soon : (l : LwpStatus) (e : Option Event) → RunsSoon q (flags_fresh t q l e) (with_fresh_event t q l e)
  fresh-soon l None =
      subst (RunsSoon q m.flags) (sym (ap (λ b. cond b (with_last_stop t q l) (with_stop t q l)) off))
      (at-soon q m Nothing _ tt (stop-at q m Nothing t l now))
  fresh-soon l (Some e) =
      let fe = function_event t.options m l.id e in
      subst (RunsSoon q (flags_met m fe))
      (sym (ap (λ b. cond b (with_last_event t q l fe) (with_function_event t q l fe)) off)) (event-soon l fe)

  over-soon : RunsSoon q m.flags (with_stop_over t q)
  over-soon = at-soon q m Nothing _ tt (over-at q m Nothing t now)

  read-soon : (l : Option LwpStatus) → RunsSoon q (flags_read t q l) (with_function_stop_read t q l)
  unfolding with_function_stop
  read-soon None =
      subst (RunsSoon q m.flags)
      (sym (ap (λ b. cond b (with_lifts (with_stop_over t q) q false) (with_stop_over t q)) off)) over-soon
  read-soon (Some l) = fresh-soon l (fresh_event (traced_at t q) l)

  status-soon : (r : Reply) (a : Answer) → answer_of r ≡ a → a ≢ Interrupted
      → RunsOrCloses r q (flags_after t q r a) (with_function_status_answered t q r a)
  unfolding with_function_status_answered with_status_answered
  status-soon r Accepted told other = inl (read-soon (option_and_then status_lwp (bytes_in r)))
  status-soon r (Refused errno) told other = inl over-soon
  status-soon r Gone told other = inr (refl, told)
  status-soon r Interrupted told other = absurd (other refl)

  -- once its status was read, it is run soon
  pub soon-read : (r : Reply) → has_functions t.options ≡ true → t.stage ≡ ReadingStatus q
      → answer_of r ≢ Interrupted → RunsOrCloses r q (flags_after t q r (answer_of r)) (fed_functions t r)
  unfolding fed_functions with_aside_answered with_function_reply
  soon-read r has reads other =
      subst (RunsOrCloses r q (flags_after t q r (answer_of r)))
      (sym (ap (λ b. cond b (with_aside_answered t r t.aside) (fed t r)) has
      ∙ ap (with_aside_answered t r) idle ∙ ap (with_function_reply t r) reads))
      (status-soon r (answer_of r) refl other)

-- ---- until it is run

module _ (t : TrussState) (r : Reply) (q n : ℕ) (calm : answer_of r ≢ Interrupted) (w : RunsSoon q n t) where
  abbrev idle_now : TrussState
  idle_now = with_aside t Nothing

  -- what is left to be planted and lifted goes on
  after-soon : (u : TrussState) (rest : Aside) (stage : Stage) (a : Answer) → answer_of r ≡ a → a ≢ Interrupted
      → is_run_soon stage q ≡ true → u.stage ≡ stage → u.options.follow ≡ false → u.leaving ≡ false
      → q < length u.traced → (marks_at u q).flags ≡ n → IsPatchedFirst q rest
      → RunsOrCloses r q n (after_patch u rest q stage a)
  unfolding after_patch with_pending_told
  after-soon u rest (Running at) Accepted told other soon same follow off within flags first = inl (record {
    follow = follow;
    off = off;
    within = within;
    stage = ap (λ x. is_run_soon x q) same ∙ soon;
    flags = flags;
    aside = first;
  })
  after-soon u rest (Running at) (Refused errno) told other soon same follow off within flags first = inl (record {
    follow = follow;
    off = off;
    within = within;
    stage = ap (λ x. is_run_soon x q) same ∙ soon;
    flags = flags;
    aside = first;
  })
  after-soon u rest (Running at) Gone told other soon same follow off within flags first = inr (refl, told)
  after-soon u rest (Running at) Interrupted told other soon same follow off within flags first =
      absurd (other refl)
  after-soon u rest (ReadingText at l from len) Accepted told other soon same follow off within flags first =
      inl (record {
        follow = follow;
        off = off;
        within = within;
        stage = ap (λ x. is_run_soon x q) same ∙ soon;
        flags = flags;
        aside = first;
      })
  after-soon u rest (ReadingText at l from len) (Refused errno) told other soon same follow off within flags first =
      inl (record {
        follow = follow;
        off = off;
        within = within;
        stage = ap (λ x. is_run_soon x q) same ∙ soon;
        flags = flags;
        aside = first;
      })
  after-soon u rest (ReadingText at l from len) Gone told other soon same follow off within flags first =
      inr (refl, told)
  after-soon u rest (ReadingText at l from len) Interrupted told other soon same follow off within flags first =
      absurd (other refl)
  after-soon u rest _ a told other soon same follow off within flags first = absurd (false≢true soon)

  -- with another set that is planted
  set-soon : (set : List Bool) (rest : Aside) (a : Answer) → answer_of r ≡ a → a ≢ Interrupted
      → IsPatchedFirst q rest
      → RunsOrCloses r q n
      (after_patch (with_marks idle_now q (record (marks_at t q) { planted = set })) rest q t.stage a)
  set-soon set rest a told other first =
      let v : Traced = record (traced_at t q) { marks = record (marks_at t q) { planted = set } } in
      after-soon (with_marks idle_now q (record (marks_at t q) { planted = set })) rest t.stage a told other w.stage
      refl
      w.follow w.off (subst (λ k. q < k) (sym (length-set t.traced q v)) w.within)
      (ap (λ (x : Traced). x.marks.flags) (set-at t.traced q v w.within) ∙ w.flags) first

  same-soon : (rest : Aside) (a : Answer) → answer_of r ≡ a → a ≢ Interrupted → IsPatchedFirst q rest
      → RunsOrCloses r q n (after_patch idle_now rest q t.stage a)
  same-soon rest a told other first =
      after-soon idle_now rest t.stage a told other w.stage refl w.follow w.off w.within w.flags first

  first-soon : (plants lifts : List Bool) (clear : Bool) (plant lift : Option ℕ)
      → RunsOrCloses r q n (after_first idle_now q plants lifts clear (answer_of r) plant lift)
  first-soon plants lifts clear (Some i) lift = by (answer_of r) refl calm
    where
      rest : Aside
      rest = patching q (without_function plants i) lifts clear

      by : (a : Answer) → answer_of r ≡ a → a ≢ Interrupted
          → RunsOrCloses r q n (after_patch (planted_if idle_now q i a) rest q t.stage a)
      by Accepted told other = set-soon _ rest Accepted told other (patching-first q _ lifts clear)
      by (Refused errno) told other = same-soon rest (Refused errno) told other (patching-first q _ lifts clear)
      by Gone told other = same-soon rest Gone told other (patching-first q _ lifts clear)
      by Interrupted told other = absurd (other refl)
  first-soon plants lifts clear None (Some i) =
      set-soon _ (patching q plants (without_function lifts i) clear) (answer_of r) refl calm
      (patching-first q plants _ clear)
  first-soon plants lifts clear None None = same-soon Nothing (answer_of r) refl calm tt

  -- memory that was read
  shown-soon : (l : LwpStatus) (text : _) → Looks q (marks_at t q) t.aside (with_event_shown t q l text)
  shown-soon l text =
      shown-looks q (marks_at t q) t.aside t l text
      (record { follow = w.follow; off = w.off; within = w.within; marks = refl; aside = refl })

  over-now : (l : LwpStatus) (u : TrussState) → Looks q (marks_at t q) t.aside u → RunsSoon q n (with_event_over u q l)
  over-now l u its =
      subst (λ k. RunsSoon q k (with_event_over u q l)) w.flags
      (at-soon q (marks_at t q) t.aside _ w.aside (event-over-at q (marks_at t q) t.aside u l its))

  left-on : (u : TrussState) → RunsOrCloses r q n u → RunsOrCloses r q n (cond t.leaving (with_lifts u q false) u)
  left-on u it = subst (RunsOrCloses r q n) (sym (ap (λ b. cond b (with_lifts u q false) u) w.off)) it

  text-soon : (l : LwpStatus) (u : TrussState) (a : Answer) → answer_of r ≡ a → a ≢ Interrupted
      → Looks q (marks_at t q) t.aside u → RunsOrCloses r q n (after_function_text t (after_text u q l a) q a)
  unfolding after_text
  text-soon l u Accepted told other its = left-on _ (inl (over-now l u its))
  text-soon l u (Refused errno) told other its = left-on _ (inl (over-now l u its))
  text-soon l u Gone told other its = inr (refl, told)
  text-soon l u Interrupted told other its = absurd (other refl)

  stage-soon : (stage : Stage) → is_run_soon stage q ≡ true → stage ≢ Running q
      → RunsOrCloses r q n (with_function_reply t r stage)
  unfolding with_function_reply with_function_text_answered with_text_answered
  stage-soon (Running at) soon other = absurd (other (ap (λ i. Running i) (eqb-true at q soon)))
  stage-soon (ReadingText at l from len) soon other =
      subst (λ i. RunsOrCloses r q n
      (after_function_text t (after_text (with_event_shown t i l (text_of len (bytes_in r))) i l (answer_of r)) i
      (answer_of r))) (sym (eqb-true at q soon))
      (text-soon l _ (answer_of r) refl calm (shown-soon l _))
  stage-soon _ soon other = absurd (false≢true soon)

  aside-soon : (aside : Aside) → IsPatchedFirst q aside → (aside ≡ Nothing → t.stage ≢ Running q)
      → RunsOrCloses r q n (with_aside_answered t r aside)
  unfolding with_aside_answered with_patch_answered
  aside-soon Nothing first other = stage-soon t.stage w.stage (other refl)
  aside-soon (Patching at plants lifts clear) first other =
      subst (λ i. RunsOrCloses r q n
      (after_first idle_now i plants lifts clear (answer_of r) (first_function plants) (first_function lifts)))
      (sym first) (first-soon plants lifts clear (first_function plants) (first_function lifts))
  aside-soon _ first other = absurd first

  -- it goes on so, unless it is run now
  pub soon-on : has_functions t.options ≡ true → (t.aside ≡ Nothing → t.stage ≢ Running q)
      → RunsOrCloses r q n (fed_functions t r)
  unfolding fed_functions
  soon-on has other =
      subst (RunsOrCloses r q n) (sym (ap (λ b. cond b (with_aside_answered t r t.aside) (fed t r)) has))
      (aside-soon t.aside w.aside other)
