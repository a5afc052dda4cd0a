use Rattle.std.proofs.Common.{◌≡◌, ◌≢◌, ◌<◌, ◌==◌, ◌||◌, ◌⊎◌, ◌-◌, ℕ, Bool, true, false, cond, is_some, Option, Some, None, List, length, refl, sym, subst, ap, ◌∙◌, inl, inr}
use Rattle.std.proofs.lemmas.Bool.{cases_Bool, eq-eqb, eqb-true, false≢true}
use Rattle.std.proofs.lemmas.List.{length-set}
use Rattle.std.specs.Option.{option_and_then}
use Rattle.pr_line.specs.Events.{event_of}
use Rattle.pr_line.specs.Selections.{is_selected}
use Rattle.pr_line.specs.declared.events.Event.{Event}
use Rattle.pr_model.specs.Replies.{bytes_in}
use Rattle.pr_model.specs.declared.calls.Reply.{Reply}
use Rattle.pr_rec.specs.declared.lwps.LwpStatus.{LwpStatus}
use Rattle.pr_truss.specs.Asides.{marks_at, patching, with_aside, with_lifts, with_marks, with_patches}
use Rattle.pr_truss.specs.Closings.{with_closing}
use Rattle.pr_truss.specs.Feeding.{fed}
use Rattle.pr_truss.specs.FunctionEvents.{fresh_event, function_event}
use Rattle.pr_truss.specs.FunctionFeeding.{after_first, after_patch, fed_functions, planted_if, with_aside_answered, with_function_reply, with_patch_answered, with_pending_told}
use Rattle.pr_truss.specs.FunctionStops.{after_function_text, with_call_shown, with_copy_begun, with_copy_ended, with_fresh_event, with_function_event, with_function_status_answered, with_function_stop, with_function_stop_read, with_function_text_answered, with_last_event, with_memory_replaced, with_other_event, with_step_begun, with_step_completed, with_trap_over}
use Rattle.pr_truss.specs.Marks.{first_function, has_function, has_functions, no_functions, no_marks, put_back, standing, with_function, with_step, without_function}
use Rattle.pr_truss.specs.Records.{child_of, status_lwp}
use Rattle.pr_truss.specs.Replies.{answer_of}
use Rattle.pr_truss.specs.Stops.{after_text, asked_range, followed_child, text_of, with_child_or, with_event, with_event_over, with_event_shown, with_old_stop_over, with_stop, with_stop_over, with_text_answered, with_text_or_shown}
use Rattle.pr_truss.specs.Trusses.{TrussState, traced_at, with_stage, with_traced}
use Rattle.pr_truss.specs.declared.asides.Aside.{Aside}
use Rattle.pr_truss.specs.declared.asides.Aside.TheVariants.{Nothing, Patching}
use Rattle.pr_truss.specs.declared.function_events.FunctionEvent.{FunctionEvent}
use Rattle.pr_truss.specs.declared.function_events.FunctionEvent.TheVariants.{AfterCopy, AtBreakpoint, BeforeCopy, Completed, Other, Replaced, TraceTrap}
use Rattle.pr_truss.specs.declared.marks.Marks.{Marks}
use Rattle.pr_truss.specs.declared.processes.Traced.{Traced}
use Rattle.pr_truss.specs.declared.replies.Answer.{Answer}
use Rattle.pr_truss.specs.declared.replies.Answer.TheVariants.{Accepted, Gone, Interrupted, Refused}
use Rattle.pr_truss.specs.declared.stages.AfterClosing.TheVariants.{GoOn}
use Rattle.pr_truss.specs.declared.stages.Stage.{Stage}
use Rattle.pr_truss.specs.declared.stages.Stage.TheVariants.{Closing, ReadingStatus, ReadingText, Running}
use Rattle.pr_truss_laws.proofs.Files.HeldLemmas.{set-at}
use Rattle.pr_function_hides.proofs.Replies.FunctionSets.{first-has, first-none, has-none, has-with, has-without, not-in-none, without-keeps}
use Rattle.pr_function_hides.specs.Copying.{IsTreated}
use Rattle.pr_function_hides.specs.Treating.{AsideTreats, Treats, WillBeTreated, all_done, is_run_soon, patches}

-- What truss does at an event it has done before it runs the process.

-- ---- at a place that is run soon

pub own-place : (q : ℕ) → (q == q) ≡ true
own-place q = eq-eqb q q refl

-- truss is about to run the process at a place, with these marks, and with this before its next call
pub record At (q : ℕ) (m : Marks) (a : Aside) (v : TrussState) : Type 0 where
  pub follow : v.options.follow ≡ false
  pub off : v.leaving ≡ false
  pub within : q < length v.traced
  pub stage : is_run_soon v.stage q ≡ true
  pub marks : marks_at v q ≡ m
  pub aside : v.aside ≡ a

at-if : (q : ℕ) (m : Marks) (a : Aside) (b : Bool) (v w : TrussState) → At q m a v → At q m a w → At q m a (cond b v w)
at-if q m a true v w x y = x
at-if q m a false v w x y = y

module _ (q : ℕ) where
  -- truss looks at the process at the place
  pub record Looks (m : Marks) (a : Aside) (u : TrussState) : Type 0 where
    pub follow : u.options.follow ≡ false
    pub off : u.leaving ≡ false
    pub within : q < length u.traced
    pub marks : marks_at u q ≡ m
    pub aside : u.aside ≡ a

  module _ (m : Marks) (a : Aside) where
    to : (u : TrussState) (stage : Stage) → is_run_soon stage q ≡ true → Looks m a u → At q m a (with_stage u stage)
    to u stage soon w = record {
      follow = w.follow;
      off = w.off;
      within = w.within;
      stage = soon;
      marks = w.marks;
      aside = w.aside;
    }

    pub over-at : (u : TrussState) → Looks m a u → At q m a (with_stop_over u q)
    unfolding with_stop_over
    over-at u w =
        subst (At q m a) (sym (ap (λ b. cond b (with_closing u q) (with_stage u (Running q))) w.off))
        (to u (Running q) (own-place q) w)

    pub event-over-at : (u : TrussState) (l : LwpStatus) → Looks m a u → At q m a (with_event_over u q l)
    unfolding with_event_over followed_child
    event-over-at u l w =
        subst (At q m a) (sym (ap (λ f. with_child_or u q (cond f (child_of l) None)) w.follow)) (over-at u w)

    pub shown-looks : (u : TrussState) (l : LwpStatus) (text : _) → Looks m a u
        → Looks m a (with_event_shown u q l text)
    unfolding with_event_shown
    shown-looks u l text w = record {
      follow = w.follow;
      off = w.off;
      within = w.within;
      marks = w.marks;
      aside = w.aside;
    }

    shown-at : (u : TrussState) (l : LwpStatus) (range : Option (ℕ × ℕ)) → Looks m a u
        → At q m a (with_text_or_shown u q l range)
    shown-at u l None w = event-over-at _ l (shown-looks u l None w)
    shown-at u l (Some range) w = to u (ReadingText q l range.0 range.1) (own-place q) w

    event-at : (u : TrussState) (l : LwpStatus) (e : Option Event) → Looks m a u → At q m a (with_event u q l e)
    event-at u l None w = over-at u w
    event-at u l (Some e) w =
        at-if q m a (is_selected u.options e) _ _ (shown-at u l (asked_range u.options e) w) (event-over-at u l w)

    old-at : (u : TrussState) → Looks m a u → At q m a (with_old_stop_over u q)
    unfolding with_old_stop_over
    old-at u w =
        let v : Traced = record (traced_at u q) { old = (traced_at u q).old - 1 } in
        over-at (with_traced u q v) (record {
          follow = w.follow;
          off = w.off;
          within = subst (λ n. q < n) (sym (length-set u.traced q v)) w.within;
          marks = ap (λ (x : Traced). x.marks) (set-at u.traced q v w.within) ∙ w.marks;
          aside = w.aside;
        })

    pub stop-at : (u : TrussState) (l : LwpStatus) → Looks m a u → At q m a (with_stop u q l)
    unfolding with_stop
    stop-at u l w =
        at-if q m a _ _ _ (over-at u w)
        (at-if q m a _ _ _ (old-at u w) (at-if q m a _ _ _ (over-at u w) (event-at u l (event_of l) w)))

  -- with other marks
  pub marked : (u : TrussState) (a : Aside) (n : Marks) → u.options.follow ≡ false → u.leaving ≡ false
      → q < length u.traced → u.aside ≡ a → Looks n a (with_marks u q n)
  marked u a n follow off within aside = record {
    follow = follow;
    off = off;
    within = subst (λ k. q < k) (sym (length-set u.traced q (record (traced_at u q) { marks = n }))) within;
    marks = ap (λ (x : Traced). x.marks) (set-at u.traced q (record (traced_at u q) { marks = n }) within);
    aside = aside;
  }

-- ---- breakpoints that are planted and lifted

pub first-of-none : first_function no_functions ≡ None
first-of-none = by (first_function no_functions) refl
  where
    by : (o : Option ℕ) → first_function no_functions ≡ o → first_function no_functions ≡ None
    by None is = is
    by (Some i) is = absurd (not-in-none i (first-has no_functions i is))

none-of : (o : Option ℕ) → is_some o ≡ false → o ≡ None
none-of None is = refl
none-of (Some i) is = cc

module _ (m : Marks) (e : FunctionEvent) (q : ℕ) where
  -- before the call of the stage these are planted and lifted
  patching-treats : (plants lifts : List Bool) (now : Marks) → WillBeTreated m e plants lifts now
      → AsideTreats m e q now (patching q plants lifts false)
  unfolding patching
  patching-treats plants lifts now will =
      by (is_some (first_function plants)) (is_some (first_function lifts)) refl refl
    where
      by : (a b : Bool) → is_some (first_function plants) ≡ a → is_some (first_function lifts) ≡ b
          → AsideTreats m e q now (cond (a || b || false) (Patching q plants lifts false) Nothing)
      by true b p l = patches plants lifts will
      by false true p l = patches plants lifts will
      by false false p l =
          all_done plants lifts (none-of (first_function plants) p) (none-of (first_function lifts) l) will

  patched : (now : Marks) (a : Aside) (v : TrussState) (plants lifts : List Bool) → At q now a v
      → WillBeTreated m e plants lifts now → Treats m e q (with_patches v q plants lifts)
  unfolding with_patches
  patched now a v plants lifts w will = record {
    follows_none = w.follow;
    stays = w.off;
    within = w.within;
    stage = w.stage;
    aside = subst (λ (x : Marks). AsideTreats m e q x (patching q plants lifts false)) (sym w.marks)
        (patching-treats plants lifts now will);
  }

  -- nothing more is planted or lifted
  pub done : (now : Marks) (v : TrussState) → At q now Nothing v → WillBeTreated m e no_functions no_functions now
      → Treats m e q v
  done now v w will = record {
    follows_none = w.follow;
    stays = w.off;
    within = w.within;
    stage = w.stage;
    aside = subst (λ (x : Aside). AsideTreats m e q (marks_at v q) x) (sym w.aside)
        (subst (λ (x : Marks). AsideTreats m e q x Nothing) (sym w.marks)
        (all_done no_functions no_functions first-of-none first-of-none will));
  }

-- ---- a row an event

-- nothing is planted that was not
only-planted : (m n : Marks) (function : ℕ)
    → ((has_function m.planted function ≡ true) ⊎ (has_function no_functions function ≡ true))
    → has_function m.planted function ≡ true
only-planted m n function (inl was) = was
only-planted m n function (inr new) = absurd (not-in-none function new)

empty-set : (set : List Bool) (function : ℕ) → (has_function set function ≡ true → ⊥)
    → has_function set function ≡ false
empty-set set function none = elim (cases_Bool (has_function set function)) [
  | inl is ↦ absurd (none is)
  | inr not ↦ not
]

module _ (t : TrussState) (q : ℕ) (follow : t.options.follow ≡ false) (off : t.leaving ≡ false)
    (within : q < length t.traced) (idle : t.aside ≡ Nothing) (l : LwpStatus) where
  abbrev m : Marks
  m = marks_at t q

  looks : (n : Marks) → Looks q n Nothing (with_marks t q n)
  looks n = marked q t Nothing n follow off within idle

  pub trap-will : (flags : ℕ)
      → WillBeTreated m TraceTrap no_functions no_functions (record m { flags = flags })
  trap-will flags = record {
    each = λ n d. (
      (λ function is. only-planted m n function (d.planted function is).0),
      (d.lifted, d.stepped),
    );
  }

  before-will : (flags : ℕ)
      → WillBeTreated m BeforeCopy no_functions m.planted
      (record m { lifted = standing m; stepped = None; flags = flags })
  before-will flags = record {
    each = λ n d. (
      record {
        none_planted = λ function.
            empty-set n.planted function (λ is.
            let it = d.planted function is in
            false≢true (sym it.1 ∙ only-planted m n function it.0));
        no_step = d.stepped;
      },
      d.lifted,
    );
  }

  after-will : WillBeTreated m AfterCopy (with_step m.stepped m.lifted) no_functions
      (record m { lifted = no_functions; stepped = None })
  after-will = record {
    each = λ n d. (
      (λ function is. (d.planted function is).0),
      ((λ function. ap (λ set. has_function set function) d.lifted ∙ has-none function), d.stepped),
    );
  }

  replaced-will : WillBeTreated m Replaced no_functions no_functions no_marks
  replaced-will = record {
    each = λ n d. (
      record {
        none_planted = λ function.
            empty-set n.planted function (λ is.
            not-in-none function (only-planted no_marks n function (d.planted function is).0));
        no_step = d.stepped;
      },
      λ function. ap (λ set. has_function set function) d.lifted ∙ has-none function,
    );
  }

  other-will : WillBeTreated m Other (put_back m) no_functions (record m { stepped = None })
  other-will = record {
    each = λ n d. ((λ function is. (d.planted function is).0), (d.lifted, d.stepped));
  }

  event-treats : (e : FunctionEvent) → Treats m e q (with_function_event t q l e)
  unfolding with_function_event with_step_begun with_step_completed with_trap_over with_copy_begun with_copy_ended
      with_other_event with_memory_replaced with_call_shown
  event-treats (AtBreakpoint function) =
      patched m (AtBreakpoint function) q _ Nothing _ _ _ (over-at q _ Nothing _ (looks _))
      (record { each = λ n d. tt })
  event-treats (Completed step) =
      patched m (Completed step) q _ Nothing _ _ _
      (over-at q _ Nothing _
      (let w = looks (record m { stepped = None; flags = _ }) in
      record { follow = w.follow; off = w.off; within = w.within; marks = w.marks; aside = w.aside }))
      (record { each = λ n d. tt })
  event-treats TraceTrap = done m TraceTrap q _ _ (over-at q _ Nothing _ (looks _)) (trap-will _)
  event-treats BeforeCopy =
      patched m BeforeCopy q _ Nothing _ _ _ (stop-at q _ Nothing _ l (looks _)) (before-will _)
  event-treats AfterCopy =
      patched m AfterCopy q _ Nothing _ _ _ (stop-at q _ Nothing _ l (looks _)) after-will
  event-treats Replaced = done m Replaced q _ _ (stop-at q _ Nothing _ l (looks _)) replaced-will
  event-treats Other =
      patched m Other q _ Nothing _ _ _ (stop-at q _ Nothing _ l (looks _)) other-will

-- ---- the read

pub read-treats : (t : TrussState) (r : Reply) (q : ℕ) (l : LwpStatus) (e : Event) → has_functions t.options ≡ true
    → t.options.follow ≡ false → t.leaving ≡ false → q < length t.traced → t.aside ≡ Nothing
    → t.stage ≡ ReadingStatus q → answer_of r ≡ Accepted → option_and_then status_lwp (bytes_in r) ≡ Some l
    → fresh_event (traced_at t q) l ≡ Some e
    → Treats (marks_at t q) (function_event t.options (marks_at t q) l.id e) q (fed_functions t r)
unfolding fed_functions with_aside_answered with_function_reply with_function_status_answered with_function_stop
read-treats t r q l e has follow off within idle reads accepted told fresh =
    subst (Treats (marks_at t q) fe q) (sym is) (event-treats t q follow off within idle l fe)
  where
    fe : FunctionEvent
    fe = function_event t.options (marks_at t q) l.id e

    is : fed_functions t r ≡ with_function_event t q l fe
    is =
        ap (λ b. cond b (with_aside_answered t r t.aside) (fed t r)) has
        ∙ ap (with_aside_answered t r) idle
        ∙ ap (with_function_reply t r) reads
        ∙ ap (with_function_status_answered t q r) accepted
        ∙ ap (with_function_stop_read t q) told
        ∙ ap (with_fresh_event t q l) fresh
        ∙ ap (λ b. cond b (with_last_event t q l fe) (with_function_event t q l fe)) off

-- ---- until it runs the process

-- it treats the event still, or closes the process, which has ended
abbrev pub GoesOn : Marks → FunctionEvent → ℕ → TrussState → Type 0
GoesOn m e q v = Treats m e q v ⊎ (v.stage ≡ Closing q GoOn)

module _ (m : Marks) (e : FunctionEvent) (q : ℕ) where
  -- one breakpoint more was planted, or was not, or was lifted
  plant-will : (plants lifts : List Bool) (now later : Marks) (i : ℕ) → first_function plants ≡ Some i
      → ((function : ℕ) → has_function later.planted function ≡ true
      → (function ≡ i) ⊎ (has_function now.planted function ≡ true))
      → later.lifted ≡ now.lifted → later.stepped ≡ now.stepped → WillBeTreated m e plants lifts now
      → WillBeTreated m e (without_function plants i) lifts later
  plant-will plants lifts now later i first from lifted stepped will = record {
    each = λ n d. will.each n (record {
      planted = λ function is. (by function (d.planted function is).0, (d.planted function is).1);
      lifted = d.lifted ∙ lifted;
      stepped = d.stepped ∙ stepped;
    });
  }
    where
      new : (function : ℕ) → (function ≡ i) ⊎ (has_function now.planted function ≡ true)
          → (has_function now.planted function ≡ true) ⊎ (has_function plants function ≡ true)
      new function (inl same) =
          inr (ap (has_function plants) same ∙ first-has plants i first)
      new function (inr was) = inl was

      by : (function : ℕ)
          → (has_function later.planted function ≡ true) ⊎ (has_function (without_function plants i) function ≡ true)
          → (has_function now.planted function ≡ true) ⊎ (has_function plants function ≡ true)
      by function (inl was) = new function (from function was)
      by function (inr left) = let x = has-without plants i function left in inr x.has

  lift-will : (plants lifts : List Bool) (now later : Marks) (i : ℕ) → first_function plants ≡ None
      → ((function : ℕ) → has_function later.planted function ≡ true
      → (function ≢ i) × (has_function now.planted function ≡ true))
      → later.lifted ≡ now.lifted → later.stepped ≡ now.stepped → WillBeTreated m e plants lifts now
      → WillBeTreated m e plants (without_function lifts i) later
  lift-will plants lifts now later i none from lifted stepped will = record {
    each = λ n d. will.each n (record {
      planted = λ function is. by function (d.planted function is).0 (d.planted function is).1;
      lifted = d.lifted ∙ lifted;
      stepped = d.stepped ∙ stepped;
    });
  }
    where
      by : (function : ℕ) → (has_function later.planted function ≡ true) ⊎ (has_function plants function ≡ true)
          → has_function (without_function lifts i) function ≡ false
          → ((has_function now.planted function ≡ true) ⊎ (has_function plants function ≡ true))
          × (has_function lifts function ≡ false)
      by function (inl was) free =
          let it = from function was in (
            inl it.1,
            empty-set lifts function (λ is.
                false≢true (sym free ∙ without-keeps lifts i function it.0 is)),
          )
      by function (inr new) free = absurd (false≢true (sym (first-none plants none function) ∙ new))

  -- after one of them, or after all
  after-goes : (u : TrussState) (rest : Aside) (stage : Stage) (a : Answer) → is_run_soon stage q ≡ true
      → a ≢ Interrupted → u.stage ≡ stage → u.options.follow ≡ false → u.leaving ≡ false → q < length u.traced
      → AsideTreats m e q (marks_at u q) rest → GoesOn m e q (after_patch u rest q stage a)
  unfolding after_patch with_pending_told
  after-goes u rest (Running b) Accepted soon other same follow off within treats =
      inl (record {
        follows_none = follow;
        stays = off;
        within = within;
        stage = ap (λ x. is_run_soon x q) same ∙ soon;
        aside = treats;
      })
  after-goes u rest (Running b) (Refused errno) soon other same follow off within treats =
      inl (record {
        follows_none = follow;
        stays = off;
        within = within;
        stage = ap (λ x. is_run_soon x q) same ∙ soon;
        aside = treats;
      })
  after-goes u rest (Running b) Gone soon other same follow off within treats = inr refl
  after-goes u rest (Running b) Interrupted soon other same follow off within treats = absurd (other refl)
  after-goes u rest (ReadingText b l from len) Accepted soon other same follow off within treats =
      inl (record {
        follows_none = follow;
        stays = off;
        within = within;
        stage = ap (λ x. is_run_soon x q) same ∙ soon;
        aside = treats;
      })
  after-goes u rest (ReadingText b l from len) (Refused errno) soon other same follow off within treats =
      inl (record {
        follows_none = follow;
        stays = off;
        within = within;
        stage = ap (λ x. is_run_soon x q) same ∙ soon;
        aside = treats;
      })
  after-goes u rest (ReadingText b l from len) Gone soon other same follow off within treats = inr refl
  after-goes u rest (ReadingText b l from len) Interrupted soon other same follow off within treats =
      absurd (other refl)
  after-goes u rest _ a soon other same follow off within treats = absurd (false≢true soon)

module _ (t : TrussState) (r : Reply) (m : Marks) (e : FunctionEvent) (q : ℕ) (calm : answer_of r ≢ Interrupted)
    (w : Treats m e q t) where
  abbrev now : Marks
  now = marks_at t q

  abbrev idle_now : TrussState
  idle_now = with_aside t Nothing

  abbrev with_set : List Bool → Marks
  with_set set = record now { planted = set }

  -- with another set that is planted
  set-marks : (set : List Bool) → marks_at (with_marks idle_now q (with_set set)) q ≡ with_set set
  set-marks set =
      ap (λ (x : Traced). x.marks) (set-at t.traced q (record (traced_at t q) { marks = with_set set }) w.within)

  set-goes : (set : List Bool) (rest : Aside) (a : Answer) → a ≢ Interrupted → AsideTreats m e q (with_set set) rest
      → GoesOn m e q (after_patch (with_marks idle_now q (with_set set)) rest q t.stage a)
  set-goes set rest a other treats =
      after-goes m e q (with_marks idle_now q (with_set set)) rest t.stage a w.stage other refl w.follows_none w.stays
      (subst (λ n. q < n) (sym (length-set t.traced q (record (traced_at t q) { marks = with_set set }))) w.within)
      (subst (λ (x : Marks). AsideTreats m e q x rest) (sym (set-marks set)) treats)

  same-goes : (rest : Aside) (a : Answer) → a ≢ Interrupted → AsideTreats m e q now rest
      → GoesOn m e q (after_patch idle_now rest q t.stage a)
  same-goes rest a other treats =
      after-goes m e q idle_now rest t.stage a w.stage other refl w.follows_none w.stays w.within treats

  planted-goes : (plants lifts : List Bool) (i : ℕ) → first_function plants ≡ Some i
      → WillBeTreated m e plants lifts now → (a b : Answer) → a ≢ Interrupted
      → GoesOn m e q (after_patch (planted_if idle_now q i b) (patching q (without_function plants i) lifts false) q
      t.stage a)
  planted-goes plants lifts i first will a Accepted other =
      set-goes (with_function now.planted i) _ a other
      (patching-treats m e q (without_function plants i) lifts (with_set (with_function now.planted i))
      (plant-will m e q plants lifts now (with_set (with_function now.planted i)) i first
      (λ function is. has-with now.planted i function is) refl refl will))
  planted-goes plants lifts i first will a _ other =
      same-goes _ a other
      (patching-treats m e q (without_function plants i) lifts now
      (plant-will m e q plants lifts now now i first (λ function is. inr is) refl refl will))

  first-goes : (plants lifts : List Bool) → WillBeTreated m e plants lifts now → (plant lift : Option ℕ)
      → first_function plants ≡ plant → first_function lifts ≡ lift
      → GoesOn m e q (after_first idle_now q plants lifts false (answer_of r) plant lift)
  first-goes plants lifts will (Some i) lift first next =
      planted-goes plants lifts i first will (answer_of r) (answer_of r) calm
  first-goes plants lifts will None (Some i) none first =
      set-goes (without_function now.planted i) _ (answer_of r) calm
      (patching-treats m e q plants (without_function lifts i) (with_set (without_function now.planted i))
      (lift-will m e q plants lifts now (with_set (without_function now.planted i)) i none
      (λ function is. (let x = has-without now.planted i function is in (x.apart, x.has))) refl refl will))
  first-goes plants lifts will None None none last =
      same-goes Nothing (answer_of r) calm (all_done plants lifts none last will)

  -- memory that was read
  text-over : (l : LwpStatus) (u : TrussState) → Looks q now t.aside u → At q now t.aside (with_event_over u q l)
  text-over l u looks = event-over-at q now t.aside u l looks

  from-at : (v : TrussState) → At q now t.aside v → Treats m e q v
  from-at v a = record {
    follows_none = a.follow;
    stays = a.off;
    within = a.within;
    stage = a.stage;
    aside = subst (λ (x : Aside). AsideTreats m e q (marks_at v q) x) (sym a.aside)
        (subst (λ (x : Marks). AsideTreats m e q x t.aside) (sym a.marks) w.aside);
  }

  left-on : (u : TrussState) → GoesOn m e q u → GoesOn m e q (cond t.leaving (with_lifts u q false) u)
  left-on u it = subst (GoesOn m e q) (sym (ap (λ b. cond b (with_lifts u q false) u) w.stays)) it

  text-goes : (l : LwpStatus) (u : TrussState) (a : Answer) → a ≢ Interrupted → Looks q now t.aside u
      → GoesOn m e q (after_function_text t (after_text u q l a) q a)
  unfolding after_text
  text-goes l u Accepted other looks = left-on _ (inl (from-at _ (text-over l u looks)))
  text-goes l u (Refused errno) other looks = left-on _ (inl (from-at _ (text-over l u looks)))
  text-goes l u Gone other looks = inr refl
  text-goes l u Interrupted other looks = absurd (other refl)

  looks-now : Looks q now t.aside t
  looks-now = record {
    follow = w.follows_none;
    off = w.stays;
    within = w.within;
    marks = refl;
    aside = refl;
  }

  stage-goes : (stage : Stage) → is_run_soon stage q ≡ true → stage ≢ Running q
      → GoesOn m e q (with_function_reply t r stage)
  unfolding with_function_reply with_function_text_answered with_text_answered
  stage-goes (Running b) soon other = absurd (other (ap (λ i. Running i) (eqb-true b q soon)))
  stage-goes (ReadingText b l from len) soon other =
      subst (λ i. GoesOn m e q
      (after_function_text t (after_text (with_event_shown t i l (text_of len (bytes_in r))) i l (answer_of r)) i
      (answer_of r))) (sym (eqb-true b q soon))
      (text-goes l _ (answer_of r) calm (shown-looks q now t.aside t l _ looks-now))
  stage-goes _ soon other = absurd (false≢true soon)

  aside-goes : (aside : Aside) → AsideTreats m e q now aside → (aside ≡ Nothing → t.stage ≢ Running q)
      → GoesOn m e q (with_aside_answered t r aside)
  unfolding with_aside_answered with_patch_answered
  aside-goes aside (all_done plants lifts p l will) other = stage-goes t.stage w.stage (other refl)
  aside-goes aside (patches plants lifts will) other =
      first-goes plants lifts will (first_function plants) (first_function lifts) refl refl

  pub treats-on : has_functions t.options ≡ true → (t.aside ≡ Nothing → t.stage ≢ Running q)
      → GoesOn m e q (fed_functions t r)
  unfolding fed_functions
  treats-on has other =
      subst (GoesOn m e q) (sym (ap (λ b. cond b (with_aside_answered t r t.aside) (fed t r)) has))
      (aside-goes t.aside w.aside other)

-- ---- when it runs the process

pub treated-now : (m : Marks) (e : FunctionEvent) (q : ℕ) (t : TrussState) → Treats m e q t → t.aside ≡ Nothing
    → IsTreated m e (marks_at t q)
treated-now m e q t w idle = by t.aside idle w.aside
  where
    by : (a : Aside) → a ≡ Nothing → AsideTreats m e q (marks_at t q) a → IsTreated m e (marks_at t q)
    by a is (all_done plants lifts p l will) =
        will.each (marks_at t q) (record {
          planted = λ function has. (inl has, first-none lifts l function);
          lifted = refl;
          stepped = refl;
        })
    by a is (patches plants lifts will) = cc
