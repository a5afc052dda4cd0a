use Rattle.std.proofs.Common.{◌≡◌, ◌≢◌, nat_lt, not, ℕ, Bool, true, false, cond, List, Option, Some, None, refl, sym, subst, ap, ◌∙◌}
use Rattle.std.specs.Option.{option_and_then}
use Rattle.pr_line.specs.Events.{event_of}
use Rattle.pr_line.specs.Selections.{is_selected}
use Rattle.pr_line.specs.declared.events.Event.{Event}
use Rattle.pr_model.specs.Replies.{bytes_in}
use Rattle.pr_model.specs.declared.calls.Reply.{Reply}
use Rattle.pr_rec.specs.declared.lwps.LwpStatus.{LwpStatus}
use Rattle.pr_truss.specs.Asides.{marks_at, patching, with_aside, with_lifts, with_patches}
use Rattle.pr_truss.specs.Feeding.{fed}
use Rattle.pr_truss.specs.FunctionEvents.{fresh_event, function_event}
use Rattle.pr_truss.specs.FunctionFeeding.{after_first, after_patch, fed_functions, planted_if, with_aside_answered, with_function_reply, with_patch_answered, with_pending_told, without_planted}
use Rattle.pr_truss.specs.FunctionStops.{after_function_text, with_call_shown, with_copy_begun, with_copy_ended, with_fresh_event, with_function_event, with_function_status_answered, with_function_stop, with_function_stop_read, with_function_text_answered, with_last_event, with_last_stop, with_memory_replaced, with_other_event, with_step_begun, with_step_completed, with_trap_over}
use Rattle.pr_truss.specs.Marks.{first_function, has_functions, without_function}
use Rattle.pr_truss.specs.Records.{child_of, is_on_event, status_lwp}
use Rattle.pr_truss.specs.Replies.{answer_of}
use Rattle.pr_truss.specs.Stops.{after_text, asked_range, followed_child, text_of, with_child_or, with_event, with_event_over, with_event_shown, with_old_stop_over, with_status_answered, with_stop, with_stop_over, with_text_answered, with_text_or_shown}
use Rattle.pr_truss.specs.Trusses.{TrussState, traced_at}
use Rattle.pr_truss.specs.declared.asides.Aside.{Aside}
use Rattle.pr_truss.specs.declared.asides.Aside.TheVariants.{Nothing, Reading, Planting, Patching}
use Rattle.pr_truss.specs.declared.function_events.FunctionEvent.{FunctionEvent}
use Rattle.pr_truss.specs.declared.function_events.FunctionEvent.TheVariants.{Other, AtBreakpoint, Completed, TraceTrap, BeforeCopy, AfterCopy, Replaced}
use Rattle.pr_truss.specs.declared.replies.Answer.{Answer}
use Rattle.pr_truss.specs.declared.replies.Answer.TheVariants.{Accepted, Interrupted, Gone, Refused}
use Rattle.pr_truss.specs.declared.stages.Stage.{Stage}
use Rattle.pr_truss.specs.declared.stages.Stage.TheVariants.{ReadingStatus, ReadingText, Running, Closing}
use Rattle.pr_function_laws.proofs.OrdinaryTruss.OrdinaryStops.{FitsAside}

-- Once a status was read, truss has to do with that process until it runs it or closes its files.

-- the status of a process is read, or its memory for an event
abbrev pub is_reading : Stage → Bool
is_reading (ReadingStatus q) = true
is_reading (ReadingText q l from len) = true
is_reading _ = false

-- a process is looked at, run or closed
abbrev pub is_busy : Stage → Bool
is_busy (ReadingText q l from len) = true
is_busy (Running q) = true
is_busy (Closing q next) = true
is_busy _ = false

abbrev IsBusy : TrussState → Type 0
IsBusy u = is_busy u.stage ≡ true

either : (b : Bool) (u v : TrussState) → IsBusy u → IsBusy v → IsBusy (cond b u v)
either true u v x y = x
either false u v x y = y

over-busy : (u : TrussState) (q : ℕ) → IsBusy (with_stop_over u q)
unfolding with_stop_over
over-busy u q = either u.leaving _ _ refl refl

old-busy : (u : TrussState) (q : ℕ) → IsBusy (with_old_stop_over u q)
unfolding with_old_stop_over
old-busy u q = over-busy _ q

module _ (q : ℕ) (u : TrussState) (follow : u.options.follow ≡ false) where
  event-over-busy : (l : LwpStatus) → IsBusy (with_event_over u q l)
  unfolding with_event_over followed_child
  event-over-busy l =
      subst IsBusy (sym (ap (λ f. with_child_or u q (cond f (child_of l) None)) follow)) (over-busy u q)

shown-busy : (q : ℕ) (u : TrussState) → u.options.follow ≡ false → (l : LwpStatus) (range : Option (ℕ × ℕ))
    → IsBusy (with_text_or_shown u q l range)
unfolding with_event_shown
shown-busy q u follow l None = event-over-busy q (with_event_shown u q l None) follow l
shown-busy q u follow l (Some range) = refl

event-busy : (q : ℕ) (u : TrussState) → u.options.follow ≡ false → (l : LwpStatus) (e : Option Event)
    → IsBusy (with_event u q l e)
event-busy q u follow l None = over-busy u q
event-busy q u follow l (Some e) =
    either (is_selected u.options e) _ _ (shown-busy q u follow l (asked_range u.options e))
    (event-over-busy q u follow l)

stop-busy : (q : ℕ) (u : TrussState) → u.options.follow ≡ false → (l : LwpStatus) → IsBusy (with_stop u q l)
unfolding with_stop
stop-busy q u follow l =
    either (not (is_on_event l)) _ _ (over-busy u q)
    (either (nat_lt 0 (traced_at u q).old) _ _ (old-busy u q)
    (either (traced_at u q).seen _ _ (over-busy u q) (event-busy q u follow l (event_of l))))

patches-busy : (q : ℕ) (u : TrussState) (plants lifts : List Bool) → IsBusy u → IsBusy (with_patches u q plants lifts)
unfolding with_patches
patches-busy q u plants lifts w = w

function-busy : (q : ℕ) (u : TrussState) → u.options.follow ≡ false → (l : LwpStatus) (e : FunctionEvent)
    → IsBusy (with_function_event u q l e)
unfolding with_function_event with_step_begun with_step_completed with_trap_over with_copy_begun with_copy_ended
    with_other_event with_memory_replaced with_call_shown
function-busy q u follow l (AtBreakpoint function) = patches-busy q _ _ _ (over-busy _ q)
function-busy q u follow l (Completed step) = patches-busy q _ _ _ (over-busy _ q)
function-busy q u follow l TraceTrap = over-busy _ q
function-busy q u follow l BeforeCopy = patches-busy q _ _ _ (stop-busy q _ follow l)
function-busy q u follow l AfterCopy = patches-busy q _ _ _ (stop-busy q _ follow l)
function-busy q u follow l Replaced = stop-busy q _ follow l
function-busy q u follow l Other = patches-busy q _ _ _ (stop-busy q _ follow l)

-- ---- the replies

module _ (t : TrussState) (r : Reply) (follow : t.options.follow ≡ false) (off : t.leaving ≡ false)
    (calm : answer_of r ≢ Interrupted) where
  stays : (u v : TrussState) → IsBusy v → IsBusy (cond t.leaving u v)
  stays u v it = subst IsBusy (sym (ap (λ b. cond b u v) off)) it

  fresh-busy : (q : ℕ) (l : LwpStatus) (e : Option Event) → IsBusy (with_fresh_event t q l e)
  fresh-busy q l None = stays (with_last_stop t q l) _ (stop-busy q t follow l)
  fresh-busy q l (Some e) =
      stays (with_last_event t q l (function_event t.options (marks_at t q) l.id e)) _ (function-busy q t follow l _)

  read-busy : (q : ℕ) (l : Option LwpStatus) → IsBusy (with_function_stop_read t q l)
  unfolding with_function_stop
  read-busy q None = stays (with_lifts (with_stop_over t q) q false) _ (over-busy t q)
  read-busy q (Some l) = fresh-busy q l (fresh_event (traced_at t q) l)

  status-busy : (q : ℕ) (a : Answer) → a ≢ Interrupted → IsBusy (with_function_status_answered t q r a)
  unfolding with_function_status_answered with_status_answered
  status-busy q Accepted other = read-busy q (option_and_then status_lwp (bytes_in r))
  status-busy q (Refused errno) other = over-busy t q
  status-busy q Gone other = refl
  status-busy q Interrupted other = absurd (other refl)

  after-text-busy : (q : ℕ) (l : LwpStatus) (u : TrussState) → u.options.follow ≡ false → (a : Answer)
      → a ≢ Interrupted → IsBusy (after_text u q l a)
  unfolding after_text
  after-text-busy q l u its Accepted other = event-over-busy q u its l
  after-text-busy q l u its (Refused errno) other = event-over-busy q u its l
  after-text-busy q l u its Gone other = refl
  after-text-busy q l u its Interrupted other = absurd (other refl)

  function-text-busy : (q : ℕ) (u : TrussState) (a : Answer) → IsBusy u → IsBusy (after_function_text t u q a)
  function-text-busy q u Gone it = it
  function-text-busy q u _ it = stays (with_lifts u q false) u it

  text-busy : (q : ℕ) (l : LwpStatus) (len : ℕ) → IsBusy (with_function_text_answered t q l len r)
  unfolding with_function_text_answered with_text_answered with_event_shown
  text-busy q l len =
      function-text-busy q _ (answer_of r)
      (after-text-busy q l (with_event_shown t q l (text_of len (bytes_in r))) follow (answer_of r) calm)

  stage-busy : (stage : Stage) → is_reading stage ≡ true → IsBusy (with_function_reply t r stage)
  unfolding with_function_reply
  stage-busy (ReadingStatus q) is = status-busy q (answer_of r) calm
  stage-busy (ReadingText q l from len) is = text-busy q l len
  stage-busy _ is = cc

  -- ---- patches

  patch-after : (u : TrussState) (rest : Aside) (q at : ℕ) (l : LwpStatus) (from len : ℕ) (a : Answer)
      → a ≢ Interrupted → u.stage ≡ ReadingText at l from len
      → IsBusy (after_patch u rest q (ReadingText at l from len) a)
  unfolding after_patch with_pending_told
  patch-after u rest q at l from len Accepted other is = ap is_busy is
  patch-after u rest q at l from len (Refused errno) other is = ap is_busy is
  patch-after u rest q at l from len Gone other is = refl
  patch-after u rest q at l from len Interrupted other is = absurd (other refl)

  planted-busy : (rest : Aside) (q function at : ℕ) (l : LwpStatus) (from len : ℕ) (a b : Answer) → a ≢ Interrupted
      → t.stage ≡ ReadingText at l from len
      → IsBusy (after_patch (planted_if (with_aside t Nothing) q function b) rest q (ReadingText at l from len) a)
  planted-busy rest q function at l from len a Accepted other is = patch-after _ rest q at l from len a other is
  planted-busy rest q function at l from len a _ other is =
      patch-after (with_aside t Nothing) rest q at l from len a other is

  first-busy : (q at : ℕ) (l : LwpStatus) (from len : ℕ) (plants lifts : List Bool) (clear : Bool)
      → t.stage ≡ ReadingText at l from len → (plant lift : Option ℕ)
      → IsBusy (after_first (with_aside t Nothing) q plants lifts clear (answer_of r) plant lift)
  first-busy q at l from len plants lifts clear is (Some function) lift =
      subst
      (λ st. IsBusy (after_patch (planted_if (with_aside t Nothing) q function (answer_of r))
      (patching q (without_function plants function) lifts clear) q st (answer_of r)))
      (sym is) (planted-busy (patching q (without_function plants function) lifts clear) q function at l from len
      (answer_of r) (answer_of r) calm is)
  first-busy q at l from len plants lifts clear is None (Some function) =
      subst
      (λ st. IsBusy (after_patch (without_planted (with_aside t Nothing) q function)
      (patching q plants (without_function lifts function) clear) q st (answer_of r)))
      (sym is) (patch-after (without_planted (with_aside t Nothing) q function)
      (patching q plants (without_function lifts function) clear) q at l from len (answer_of r) calm is)
  first-busy q at l from len plants lifts clear is None None =
      subst (λ st. IsBusy (after_patch (with_aside t Nothing) Nothing q st (answer_of r)))
      (sym is) (patch-after (with_aside t Nothing) Nothing q at l from len (answer_of r) calm is)

  patch-busy : (q : ℕ) (plants lifts : List Bool) (clear : Bool) (stage : Stage) → t.stage ≡ stage
      → FitsAside (Patching q plants lifts clear) stage → is_reading stage ≡ true
      → IsBusy (with_patch_answered (with_aside t Nothing) q plants lifts clear (answer_of r))
  unfolding with_patch_answered
  patch-busy q plants lifts clear (ReadingText at l from len) is fits reading =
      first-busy q at l from len plants lifts clear is (first_function plants) (first_function lifts)
  patch-busy q plants lifts clear (ReadingStatus at) is fits reading = absurd fits.0
  patch-busy q plants lifts clear _ is fits reading = cc

  -- what is done beside a stage at which something is read
  aside-busy : (aside : Aside) → t.aside ≡ aside → FitsAside aside t.stage → is_reading t.stage ≡ true
      → IsBusy (with_aside_answered t r aside)
  unfolding with_aside_answered
  aside-busy Nothing is fits reading = stage-busy t.stage reading
  aside-busy (Patching q plants lifts clear) is fits reading =
      patch-busy q plants lifts clear t.stage refl fits reading
  aside-busy (Reading q function) is fits reading = absurd (opens t.stage fits reading)
    where
      opens : (stage : Stage) → FitsAside (Reading q function) stage → is_reading stage ≡ true → ⊥
      opens (ReadingStatus at) fit on = fit
      opens (ReadingText at l from len) fit on = fit
      opens _ fit on = cc
  aside-busy (Planting q function) is fits reading = absurd (opens t.stage fits reading)
    where
      opens : (stage : Stage) → FitsAside (Planting q function) stage → is_reading stage ≡ true → ⊥
      opens (ReadingStatus at) fit on = fit
      opens (ReadingText at l from len) fit on = fit
      opens _ fit on = cc
  aside-busy _ is fits reading = let off_stage = sym (ap is_reading fits) ∙ reading in cc

  pub reading-busy : has_functions t.options ≡ true → FitsAside t.aside t.stage → is_reading t.stage ≡ true
      → is_busy (fed_functions t r).stage ≡ true
  unfolding fed_functions
  reading-busy has fits reading =
      subst IsBusy (sym (ap (λ b. cond b (with_aside_answered t r t.aside) (fed t r)) has))
      (aside-busy t.aside refl fits reading)
