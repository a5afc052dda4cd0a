use Rattle.std.proofs.Common.{◌≡◌, ◌||◌, ◌<◌, ℕ, Bool, true, false, is_some, Option, Some, None, List, [], length, refl, sym, subst, ap, ◌∙◌, inl, inr}
use Rattle.std.proofs.lemmas.Bool.{false≢true}
use Rattle.std.proofs.lemmas.Option.{none-some, same_Some}
use Rattle.pr_line.specs.declared.options.Options.{Options}
use Rattle.pr_model.specs.Replies.{number_of}
use Rattle.pr_model.specs.declared.calls.Call.{Call}
use Rattle.pr_model.specs.declared.calls.Call.TheVariants as call
use Rattle.pr_model.specs.declared.calls.Reply.{Reply}
use Rattle.pr_model.specs.declared.calls.Reply.TheVariants as reply
use Rattle.pr_num.specs.Control.{fork_mode, rlc_mode}
use Rattle.pr_num.specs.declared.errnos.Errno.{Errno}
use Rattle.pr_num.specs.declared.messages.Message.TheVariants as message
use Rattle.pr_report_laws.proofs.Replies.TextReports.{reads_stop}
use Rattle.pr_truss.specs.Asides.{marks_at}
use Rattle.pr_truss.specs.FunctionCalls.{call_beside, function_call_of, patch_call, plant_call, read_code_call}
use Rattle.pr_truss.specs.Marks.{first_function}
use Rattle.pr_truss.specs.Messages.{all_modes, message_call}
use Rattle.pr_truss.specs.NextCalls.{call_of, child_call, freeing_call, next_call_of, opening_call, read_record, run_call}
use Rattle.pr_truss.specs.Processes.{last_handle}
use Rattle.pr_truss.specs.Trusses.{TrussState, traced_at}
use Rattle.pr_truss.specs.declared.asides.Aside.{Aside}
use Rattle.pr_truss.specs.declared.asides.Aside.TheVariants.{Nothing, Reading, Planting, Patching, AwaitingStop, Asking, AwaitingAgain}
use Rattle.pr_truss.specs.declared.processes.Traced.{Traced}
use Rattle.pr_truss.specs.declared.stages.AfterClosing.TheVariants.{OpenNext, GoOn}
use Rattle.pr_truss.specs.declared.stages.ChildStep.{ChildStep}
use Rattle.pr_truss.specs.declared.stages.ChildStep.TheVariants as child
use Rattle.pr_truss.specs.declared.stages.FreeingStep.{FreeingStep}
use Rattle.pr_truss.specs.declared.stages.FreeingStep.TheVariants as freeing
use Rattle.pr_truss.specs.declared.stages.OpeningStep.{OpeningStep}
use Rattle.pr_truss.specs.declared.stages.OpeningStep.TheVariants as opening
use Rattle.pr_truss.specs.declared.stages.Stage.{Stage}
use Rattle.pr_truss.specs.declared.stages.Stage.TheVariants.{Spawning, OpeningControl, Opening, Polling, ReadingStatus, ReadingText, OpeningChildControl, OpeningChild, Running, Closing, Unfollowing, ReadingLwps, FreeingChild, Finished}
use Rattle.pr_truss_laws.proofs.Replies.AnswerLemmas.{Refuses}
use Rattle.pr_truss_laws.specs.Exchanges.{Exchange}
use Rattle.pr_truss_laws.specs.Sent.{sends}
use Rattle.pr_function_laws.proofs.Marks.MarkLemmas.{AreBelow, AreRunFlags, first-below}
use Rattle.pr_function_laws.proofs.OrdinaryTruss.OrdinaryReplies.{at-ordinary, controls-ordinary}
use Rattle.pr_function_laws.proofs.OrdinaryTruss.OrdinaryRows.{is_beside, writes}
use Rattle.pr_function_laws.proofs.OrdinaryTruss.OrdinaryStops.{FitsAside, IsOpenedAt, IsToDo, PatchFits}
use Rattle.pr_function_laws.proofs.Marks.SoundLemmas.{AsideIsBelow}
use Rattle.pr_function_laws.specs.Ordinary.{AwaitsStop, IsLike, IsTakenUp, LiftsAtLast, PlantsAtFirst, PlantsLater, SeesTo, StandsFor, TellsOfOwnFault, asks_again, awaits, awaits_again, clears_fault, common, entries, exits, faults, in_place, leaves, lifts_again, lifts_at_last, ordinary, own_fault, plants_again, plants_at_first, reads_code, refused, runs, same, signals, unmarked, waits}
use Rattle.pr_function_laws.specs.Soon.{may_wait}

-- Each call of truss with calls of functions sees to its breakpoints, or is that of a truss, or stands for it.

-- ---- its calls

-- the call of a stage does not depend on breakpoints
opening-call : (o : Options) (t : Traced) (now : OpeningStep) → opening_call o (unmarked t) now ≡ opening_call o t now
unfolding opening_call
opening-call o t opening.Stop = refl
opening-call o t _ = refl

child-call : (t : Traced) (now : ChildStep) → child_call (unmarked t) now ≡ child_call t now
unfolding child_call
child-call t child.Start = refl
child-call t _ = refl

pub call-ordinary : (s : TrussState) (stage : Stage) → call_of (ordinary s) stage ≡ call_of s stage
unfolding call_of last_handle
call-ordinary s (Spawning program) = refl
call-ordinary s (OpeningControl pid) = refl
call-ordinary s (Opening place now) =
    ap (λ t. Some (opening_call s.options t now)) (at-ordinary s place)
    ∙ ap (λ c. Some c) (opening-call s.options (traced_at s place) now)
call-ordinary s Polling = ap (λ handles. Some (call.Poll handles)) (controls-ordinary s.traced)
call-ordinary s (ReadingStatus place) = ap (λ t. Some (read_record t.status)) (at-ordinary s place)
call-ordinary s (ReadingText place l at len) =
    ap (λ t. Some (call.Read (number_of t.memory) at len)) (at-ordinary s place)
call-ordinary s (OpeningChildControl parent pid) = refl
call-ordinary s (OpeningChild parent place now) =
    ap (λ t. Some (child_call t now)) (at-ordinary s place)
    ∙ ap (λ c. Some c) (child-call (traced_at s place) now)
call-ordinary s (Running place) = ap (λ t. Some (run_call t.control)) (at-ordinary s place)
call-ordinary s (Closing place next) = ap (λ t. Some (call.Close (last_handle t))) (at-ordinary s place)
call-ordinary s Unfollowing =
    ap (λ t. Some (message_call t.control (message.Unset fork_mode))) (at-ordinary s 0)
call-ordinary s ReadingLwps = ap (λ t. Some (read_record t.lstatus)) (at-ordinary s 0)
call-ordinary s (FreeingChild pid now) = refl
call-ordinary s Finished = refl

-- what comes beside a stage is a message or a wait
pub record IsMessage (control : ℕ) (c : Call) : Type 0 where
  pub bytes : List ℕ
  pub is : c ≡ call.Ctl control bytes

pub patch-is : (o : Options) (control : ℕ) (plant lift : Option ℕ) → IsMessage control (patch_call o control plant lift)
patch-is o control (Some function) lift = record { bytes = _; is = refl }
patch-is o control None (Some function) = record { bytes = _; is = refl }
patch-is o control None None = record { bytes = _; is = refl }

-- what comes beside a stage sees to the breakpoints of the process of the stage
later-sees : (o : Options) (control : ℕ) (plant lift : Option ℕ) (clear : Bool)
    → ((i : ℕ) → plant ≡ Some i → i < length o.functions) → ((i : ℕ) → lift ≡ Some i → i < length o.functions)
    → clear ≡ false → (is_some plant || is_some lift || clear) ≡ true
    → PlantsLater o control (patch_call o control plant lift)
later-sees o control (Some function) lift clear planted lifted unclear todo = plants_again (planted function refl)
later-sees o control None (Some function) clear planted lifted unclear todo = lifts_again (lifted function refl)
later-sees o control None None clear planted lifted unclear todo = absurd (false≢true (sym unclear ∙ todo))

last-sees : (o : Options) (control : ℕ) (plant lift : Option ℕ)
    → ((i : ℕ) → lift ≡ Some i → i < length o.functions) → plant ≡ None
    → LiftsAtLast o control (patch_call o control plant lift)
last-sees o control (Some function) lift lifted unplanted = absurd (none-some function (sym unplanted))
last-sees o control None (Some function) lifted unplanted = lifts_at_last (lifted function refl)
last-sees o control None None lifted unplanted = clears_fault

module _ (s : TrussState) where
  abbrev n : ℕ
  n = length s.options.functions

  reads-here : (place function : ℕ) (stage : Stage) (c : Call) → IsOpenedAt place stage → function < n
      → read_code_call s.options (traced_at s place).control function ≡ c → SeesTo s stage c
  reads-here place function (Opening at opening.Start) c fits below is =
      subst (λ q. PlantsAtFirst s.options (traced_at s q).control c) (sym fits)
      (subst (PlantsAtFirst s.options (traced_at s place).control) is (reads_code below))
  reads-here place function _ c fits below is = absurd fits

  plants-here : (place function : ℕ) (stage : Stage) (c : Call) → IsOpenedAt place stage → function < n
      → plant_call s.options (traced_at s place).control function ≡ c → SeesTo s stage c
  plants-here place function (Opening at opening.Start) c fits below is =
      subst (λ q. PlantsAtFirst s.options (traced_at s q).control c) (sym fits)
      (subst (PlantsAtFirst s.options (traced_at s place).control) is (plants_at_first below))
  plants-here place function _ c fits below is = absurd fits

  module _ (place : ℕ) (plants lifts : List Bool) (clear : Bool) (below : AreBelow n plants × AreBelow n lifts) where
    abbrev patch : ℕ → Call
    patch q = patch_call s.options (traced_at s q).control (first_function plants) (first_function lifts)

    later-here : (q : ℕ) → clear ≡ false → IsToDo plants lifts clear
        → PlantsLater s.options (traced_at s q).control (patch q)
    later-here q unclear todo =
        later-sees s.options (traced_at s q).control (first_function plants) (first_function lifts) clear
        (λ i first. first-below n plants i below.0 first) (λ i first. first-below n lifts i below.1 first) unclear todo

    last-here : (q : ℕ) → first_function plants ≡ None → LiftsAtLast s.options (traced_at s q).control (patch q)
    last-here q unplanted =
        last-sees s.options (traced_at s q).control (first_function plants) (first_function lifts)
        (λ i first. first-below n lifts i below.1 first) unplanted

    patch-here : (stage : Stage) → PatchFits place plants clear stage → IsToDo plants lifts clear
        → SeesTo s stage (patch place)
    patch-here (Running at) fits todo =
        subst (λ q. SeesTo s (Running at) (patch q)) fits.0 (later-here at fits.1 todo)
    patch-here (ReadingText at l from len) fits todo =
        subst (λ q. SeesTo s (ReadingText at l from len) (patch q)) fits.0 (later-here at fits.1 todo)
    patch-here (Closing at OpenNext) fits todo =
        subst (λ q. SeesTo s (Closing at OpenNext) (patch q)) fits.0 (last-here at fits.1.0)
    patch-here (Closing at GoOn) fits todo =
        subst (λ q. SeesTo s (Closing at GoOn) (patch q)) fits.0 (last-here at fits.1)
    patch-here _ fits todo = absurd fits

  awaits-here : (stage : Stage) (c d : Call) → stage ≡ ReadingLwps → AwaitsStop (traced_at s 0).control d → d ≡ c
      → SeesTo s stage c
  awaits-here stage c d fits it is =
      subst (λ st. SeesTo s st c) (sym fits) (subst (AwaitsStop (traced_at s 0).control) is it)

  pub beside-sees : (stage : Stage) (aside : Aside) (c : Call) → FitsAside aside stage → AsideIsBelow n aside
      → call_beside s stage aside ≡ Some c → is_beside aside ≡ true → SeesTo s stage c
  unfolding call_beside
  beside-sees stage Nothing c fits below is on = absurd (false≢true on)
  beside-sees stage (Reading place function) c fits below is on =
      reads-here place function stage c fits below (same_Some _ c is)
  beside-sees stage (Planting place function) c fits below is on =
      plants-here place function stage c fits below (same_Some _ c is)
  beside-sees stage (Patching place plants lifts clear) c fits below is on =
      subst (SeesTo s stage) (same_Some _ c is) (patch-here place plants lifts clear below stage fits.0 fits.1)
  beside-sees stage (AwaitingStop until) c fits below is on = awaits-here stage c _ fits awaits (same_Some _ c is)
  beside-sees stage Asking c fits below is on = awaits-here stage c _ fits asks_again (same_Some _ c is)
  beside-sees stage (AwaitingAgain until) c fits below is on =
      awaits-here stage c _ fits awaits_again (same_Some _ c is)

  -- it is a message or a wait
  plants-sends : (o : Options) (control : ℕ) {c : Call} → PlantsAtFirst o control c → sends c ≡ true
  plants-sends o control (reads_code below) = refl
  plants-sends o control (plants_at_first below) = refl

  pub later-sends : (o : Options) (control : ℕ) {c : Call} → PlantsLater o control c → sends c ≡ true
  later-sends o control (plants_again below) = refl
  later-sends o control (lifts_again below) = refl

  last-sends : (o : Options) (control : ℕ) {c : Call} → LiftsAtLast o control c → sends c ≡ true
  last-sends o control (lifts_at_last below) = refl
  last-sends o control clears_fault = refl

  awaits-sends : (control : ℕ) {c : Call} → AwaitsStop control c → sends c ≡ true
  awaits-sends control awaits = refl
  awaits-sends control asks_again = refl
  awaits-sends control awaits_again = refl

  pub sees-sends : (stage : Stage) (c : Call) → SeesTo s stage c → sends c ≡ true
  sees-sends (Opening place opening.Start) c it = plants-sends s.options (traced_at s place).control it
  sees-sends (Running place) c it = later-sends s.options (traced_at s place).control it
  sees-sends (ReadingText place l from len) c it = later-sends s.options (traced_at s place).control it
  sees-sends (Closing place next) c it = last-sends s.options (traced_at s place).control it
  sees-sends ReadingLwps c it = awaits-sends (traced_at s 0).control it
  sees-sends _ c it = absurd it

  pub write-still : (stage : Stage) (aside : Aside) (c : Call) → call_beside s stage aside ≡ Some c
      → writes aside ≡ true → may_wait c ≡ false
  unfolding call_beside
  write-still stage (Reading place function) c is on = ap may_wait (sym (same_Some _ c is))
  write-still stage (Planting place function) c is on = ap may_wait (sym (same_Some _ c is))
  write-still stage (Patching place plants lifts clear) c is on =
      let m = patch-is s.options (traced_at s place).control (first_function plants) (first_function lifts) in
      ap may_wait (sym (same_Some _ c is) ∙ m.is)
  write-still stage _ c is on = absurd (false≢true on)

-- so is a message that stands for another one, and that one
pub stands-sends : {o : Options} {c d : Call} → StandsFor o c d → (sends c ≡ true) × (sends d ≡ true)
stands-sends (common m is) = (refl, refl)
stands-sends waits = (refl, refl)
stands-sends signals = (refl, refl)
stands-sends faults = (refl, refl)
stands-sends entries = (refl, refl)
stands-sends exits = (refl, refl)
stands-sends (runs flags step) = (refl, refl)
stands-sends leaves = (refl, refl)

-- ---- one exchange

module _ (s : TrussState) (x : Exchange) where
  -- the call of truss at a stage, where the exchange is like one of it with this reply
  pub record Likes (stage : Stage) (r : Reply) : Type 0 where
    pub called : Call
    pub is : call_of (ordinary s) stage ≡ Some called
    pub like : IsLike s x (record { call = called; reply = r })

  module _ (none_own : TellsOfOwnFault s x.reply → ⊥) where
    -- no message
    same-likes : (stage : Stage) → sends x.call ≡ false → call_of s stage ≡ Some x.call → Likes stage x.reply
    same-likes stage unsent is = record {
      called = x.call;
      is = call-ordinary s stage ∙ is;
      like = same unsent none_own;
    }

    -- the message that stands for another one
    stands-likes : (stage : Stage) (c d : Call) → StandsFor s.options c d → c ≡ x.call → call_of s stage ≡ Some d
        → Likes stage x.reply
    stands-likes stage c d stands own is = record {
      called = d;
      is = call-ordinary s stage ∙ is;
      like = subst (λ e. IsLike s (record { call = e; reply = x.reply }) (record { call = d; reply = x.reply })) own
          (in_place stands);
    }

    opening-likes : (place : ℕ) (now : OpeningStep) → function_call_of s (Opening place now) ≡ Some x.call
        → Likes (Opening place now) x.reply
    unfolding function_call_of call_of opening_call
    opening-likes place opening.OpenStatus is = same-likes _ (ap sends (sym (same_Some _ x.call is))) is
    opening-likes place opening.OpenLstatus is = same-likes _ (ap sends (sym (same_Some _ x.call is))) is
    opening-likes place opening.OpenMemory is = same-likes _ (ap sends (sym (same_Some _ x.call is))) is
    opening-likes place opening.ReadLwps is = same-likes _ (ap sends (sym (same_Some _ x.call is))) is
    opening-likes place opening.ClearModes is =
        stands-likes _ _ _ (common (message.Unset all_modes) refl) (same_Some _ x.call is) refl
    opening-likes place opening.SetRelease is =
        stands-likes _ _ _ (common (message.Set rlc_mode) refl) (same_Some _ x.call is) refl
    opening-likes place opening.Stop is =
        stands-likes _ _ _ (common message.Stop refl) (same_Some _ x.call is) refl
    opening-likes place (opening.AwaitStop until) is = stands-likes _ _ _ waits (same_Some _ x.call is) refl
    opening-likes place opening.TraceSignals is = stands-likes _ _ _ signals (same_Some _ x.call is) refl
    opening-likes place opening.TraceFaults is = stands-likes _ _ _ faults (same_Some _ x.call is) refl
    opening-likes place opening.TraceEntries is = stands-likes _ _ _ entries (same_Some _ x.call is) refl
    opening-likes place opening.TraceExits is = stands-likes _ _ _ exits (same_Some _ x.call is) refl
    opening-likes place opening.Follow is =
        stands-likes _ _ _ (common (message.Set fork_mode) refl) (same_Some _ x.call is) refl
    opening-likes place opening.Start is =
        stands-likes _ _ _ (common (message.Run 0) refl) (same_Some _ x.call is) refl

    child-likes : (parent place : ℕ) (now : ChildStep)
        → function_call_of s (OpeningChild parent place now) ≡ Some x.call
        → Likes (OpeningChild parent place now) x.reply
    unfolding function_call_of call_of child_call
    child-likes parent place child.SetRelease is =
        stands-likes _ _ _ (common (message.Set rlc_mode) refl) (same_Some _ x.call is) refl
    child-likes parent place child.Start is =
        stands-likes _ _ _ (common (message.Run 0) refl) (same_Some _ x.call is) refl
    child-likes parent place _ is = same-likes _ (ap sends (sym (same_Some _ x.call is))) is

    freeing-likes : (pid : ℕ) (now : FreeingStep) → function_call_of s (FreeingChild pid now) ≡ Some x.call
        → Likes (FreeingChild pid now) x.reply
    unfolding function_call_of call_of freeing_call
    freeing-likes pid (freeing.SetRelease control) is =
        stands-likes _ _ _ (common (message.Set rlc_mode) refl) (same_Some _ x.call is) refl
    freeing-likes pid freeing.OpenControl is = same-likes _ (ap sends (sym (same_Some _ x.call is))) is
    freeing-likes pid (freeing.Close control) is = same-likes _ (ap sends (sym (same_Some _ x.call is))) is

    -- a process is run
    run-likes : (place : ℕ) → AreRunFlags (marks_at s place).flags
        → function_call_of s (Running place) ≡ Some x.call → Likes (Running place) x.reply
    unfolding function_call_of call_of
    run-likes place (inl none) is =
        stands-likes (Running place) (run_call (traced_at s place).control) _ (common (message.Run 0) refl)
        (ap (λ f. message_call (traced_at s place).control (message.Run f)) (sym none) ∙ same_Some _ x.call is) refl
    run-likes place (inr flags) is = stands-likes (Running place) _ _ (runs _ flags) (same_Some _ x.call is) refl

    pub stage-likes : ((place : ℕ) → AreRunFlags (marks_at s place).flags) → (stage : Stage)
        → function_call_of s stage ≡ Some x.call → Likes stage x.reply
    unfolding function_call_of call_of
    stage-likes flags (Opening place now) is = opening-likes place now is
    stage-likes flags (OpeningChild parent place now) is = child-likes parent place now is
    stage-likes flags (FreeingChild pid now) is = freeing-likes pid now is
    stage-likes flags (Running place) is = run-likes place (flags place) is
    stage-likes flags Unfollowing is = stands-likes Unfollowing _ _ leaves (same_Some _ x.call is) refl
    stage-likes flags Finished is = absurd (none-some x.call is)
    stage-likes flags stage is = same-likes stage (ap sends (sym (same_Some _ x.call is))) is

  -- what comes beside a stage was refused, and counts as the call of the stage
  taken-likes : (d : Call) (errno : Errno) → call_of s s.stage ≡ Some d → IsTakenUp s.stage errno
      → SeesTo s s.stage x.call → Refuses x.reply errno → Likes s.stage x.reply
  unfolding next_call_of
  taken-likes d errno is may sees was = record {
    called = d;
    is = call-ordinary s s.stage ∙ is;
    like = subst (λ r. IsLike s (record { call = x.call; reply = r }) (record { call = d; reply = r })) (sym was.is)
        (refused sees may is);
  }

  -- which call that is
  taken-call : (stage : Stage) (errno : Errno) → IsTakenUp stage errno
      → (d : Call) × (call_of s stage ≡ Some d)
  unfolding call_of opening_call
  taken-call (Opening place opening.Start) errno may = (_, refl)
  taken-call (Running place) errno may = (_, refl)
  taken-call (ReadingText place l from len) errno may = (_, refl)
  taken-call ReadingLwps errno may = (_, refl)
  taken-call _ errno may = absurd may

  pub refused-likes : (errno : Errno) → IsTakenUp s.stage errno → SeesTo s s.stage x.call → Refuses x.reply errno
      → Likes s.stage x.reply
  refused-likes errno may sees was =
      let next = taken-call s.stage errno may in taken-likes next.0 errno next.1 may sees was

  -- the read of a fault of truss's own
  pub own-likes : (stage : Stage) → reads_stop stage ≡ true → TellsOfOwnFault s x.reply
      → function_call_of s stage ≡ Some x.call → Likes stage (reply.Bytes [])
  unfolding function_call_of call_of
  own-likes (ReadingStatus place) reads own is = record {
    called = read_record (traced_at s place).status;
    is = call-ordinary s (ReadingStatus place);
    like = subst (λ c. IsLike s (record { call = c; reply = x.reply }) (record {
      call = read_record (traced_at s place).status;
      reply = reply.Bytes [];
    })) (same_Some _ x.call is) (own_fault own);
  }
  own-likes ReadingLwps reads own is = record {
    called = read_record (traced_at s 0).lstatus;
    is = call-ordinary s ReadingLwps;
    like = subst (λ c. IsLike s (record { call = c; reply = x.reply }) (record {
      call = read_record (traced_at s 0).lstatus;
      reply = reply.Bytes [];
    })) (same_Some _ x.call is) (own_fault own);
  }
  own-likes _ reads own is = absurd (false≢true reads)
