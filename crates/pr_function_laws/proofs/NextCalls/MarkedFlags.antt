use Rattle.std.proofs.Common.{◌≡◌, ◌+◌, ◌++◌, ℕ, Bool, true, false, cond, Option, Some, None, List, [], ◌∷◌, position}
use Rattle.std.proofs.Common.{refl, sym, subst, ap, ◌∙◌, inl, inr}
use Rattle.std.proofs.lemmas.Bool.{false≢true}
use Rattle.std.proofs.lemmas.List.Elements.{All-head, All-tail}
use Rattle.std.specs.List.{All, slice_get, slice_set}
use Rattle.std.specs.Option.{option_and_then}
use Rattle.pr_line.specs.declared.options.Options.{Options}
use Rattle.pr_model.specs.Replies.{bytes_in, handle_in}
use Rattle.pr_model.specs.declared.calls.Reply.{Reply}
use Rattle.pr_num.specs.declared.errnos.Errno.TheVariants.{Noent}
use Rattle.pr_rec.specs.declared.lwps.LwpStatus.{LwpStatus}
use Rattle.pr_truss.specs.Asides.{marks_at, patching, with_aside, with_lifts, with_marks}
use Rattle.pr_truss.specs.Closings.{after_closing, closed_or_removed, with_closed, with_closing, with_interrupt}
use Rattle.pr_truss.specs.Feeding.{fed, with_reply}
use Rattle.pr_truss.specs.FunctionFeeding.{after_first, after_patch, fed_functions, is_to_plant, planted_if}
use Rattle.pr_truss.specs.FunctionFeeding.{with_aside_answered, with_code_answered, with_code_read, with_function_reply}
use Rattle.pr_truss.specs.FunctionFeeding.{with_function_step_answered, with_next_function, with_patch_answered}
use Rattle.pr_truss.specs.FunctionFeeding.{with_pending_told, with_plant_answered}
use Rattle.pr_truss.specs.FunctionStops.{after_function_text, with_function_run_answered, with_function_status_answered}
use Rattle.pr_truss.specs.FunctionStops.{with_function_text_answered}
use Rattle.pr_truss.specs.Marks.{first_function, has_functions, without_function}
use Rattle.pr_truss.specs.Openings.{pid_in, with_control, with_control_answered, with_refused_control}
use Rattle.pr_truss.specs.Openings.{with_refused_start, with_start_answered, with_stop_seen}
use Rattle.pr_truss.specs.Processes.{newly_traced, without_last}
use Rattle.pr_truss.specs.Records.{status_lwp}
use Rattle.pr_truss.specs.Replies.{answer_of, ready_in}
use Rattle.pr_truss.specs.Stops.{after_text, has_control, with_event_over, with_event_shown, with_poll_answered}
use Rattle.pr_truss.specs.Stops.{with_polled, with_run_answered, with_status_answered, with_text_answered}
use Rattle.pr_truss.specs.Trusses.{TrussState, first_of_program, first_truss, idle as unbegun, opening_or, traced_at}
use Rattle.pr_truss.specs.Trusses.{with_traced, without_traced}
use Rattle.pr_truss.specs.declared.asides.Aside.{Aside}
use Rattle.pr_truss.specs.declared.asides.Aside.TheVariants.{Nothing, Reading, Planting, Patching}
use Rattle.pr_truss.specs.declared.processes.Traced.{Traced}
use Rattle.pr_truss.specs.declared.replies.Answer.{Answer}
use Rattle.pr_truss.specs.declared.replies.Answer.TheVariants.{Accepted, Interrupted, Gone, Refused}
use Rattle.pr_truss.specs.declared.stages.AfterClosing.TheVariants.{OpenNext, GoOn, RunParent}
use Rattle.pr_truss.specs.declared.stages.OpeningStep.{OpeningStep}
use Rattle.pr_truss.specs.declared.stages.Stage.{Stage}
use Rattle.pr_truss.specs.declared.stages.Stage.TheVariants.{Spawning, OpeningControl, Opening, Polling, ReadingStatus}
use Rattle.pr_truss.specs.declared.stages.Stage.TheVariants.{ReadingText, Running, Closing, Finished}
use Rattle.pr_truss_laws.specs.Exchanges.{Exchange}
use Rattle.pr_function_laws.proofs.Marks.MarkLemmas.{every-append}
use Rattle.pr_function_laws.proofs.LeavingProcesses.LeavingStays.{fed-leaves}
use Rattle.pr_function_laws.proofs.OrdinaryTruss.OrdinaryExchanges.{IsFit, Turn, first-fit, goes_on, goes_out, next-fit, turn}
use Rattle.pr_function_laws.specs.Ordinary.{ordinary}
use Rattle.pr_function_laws.specs.Runs.{MakesFunctionCalls, functions_after}
use Rattle.pr_function_laws.specs.Soon.{IsCalm}
use Rattle.pr_function_laws.proofs.NextCalls.PlainFlags.{Plain, AllPlain, PlainBut, all-but, none-plain, but-set, all-set}
use Rattle.pr_function_laws.proofs.NextCalls.PlainFlags.{all-remove, same-set, AtStage, AtAside, stage-same, Unflagged, LeavesOr}
use Rattle.pr_function_laws.proofs.NextCalls.PlainFlags.{Base, Here, After, to, at, reported, told, set-base, set-here, stays}
use Rattle.pr_function_laws.proofs.NextCalls.PlainFlags.{off-at, interrupted, over, event-over, beside, patching-at, read}
use Rattle.pr_function_laws.proofs.NextCalls.PlainFlags.{closing, going, opens-next, next-function, refused-step, refused-opening}
use Rattle.pr_function_laws.proofs.NextCalls.PlainFlags.{begun}

-- A truss with functions that does not leave its processes has marked run flags for one process at most: the one whose
-- event it read last, from that event until its PCRUN was answered. Where it reads a status, no process has any.

-- ---- the replies

module _ (t : TrussState) (r : Reply) (w : Unflagged t) where
  module _ (idle : t.aside ≡ Nothing) where
    base : Base t
    base = record { follow = w.follow; off = w.off; idle = idle }

    here : (q : ℕ) → PlainBut t.traced q → Here q t
    here q but = record { base = base; but = but }

    start-on : (program : List ℕ) (a : Answer) → AllPlain t.traced → LeavesOr (with_start_answered t program r a)
    unfolding with_start_answered with_refused_start
    start-on program Accepted all = inr (to t (OpeningControl (pid_in r)) base all)
    start-on program (Refused errno) all = inr (going _ (reported t _ base) all)
    start-on program Gone all = inr (going _ (reported t _ base) all)
    start-on program Interrupted all = interrupted t

    control-on : (pid : ℕ) (a : Answer) → AllPlain t.traced → LeavesOr (with_control_answered t pid r a)
    unfolding with_control_answered with_refused_control with_control newly_traced
    control-on pid Accepted all =
        inr (record {
          follow = w.follow;
          off = w.off;
          stage = every-append Plain t.traced (newly_traced pid (handle_in r)) all refl;
          beside = subst (AtAside (t.traced ++ newly_traced pid (handle_in r) ∷ [])) (sym idle) tt;
        })
    control-on pid (Refused errno) all = inr (opens-next _ (reported t _ base) all)
    control-on pid Gone all = inr (opens-next _ (reported t _ base) all)
    control-on pid Interrupted all = interrupted t

    step-on : (q : ℕ) (now : OpeningStep) (a : Answer) → AllPlain t.traced
        → LeavesOr (with_function_step_answered t q now r a)
    unfolding with_function_step_answered
    step-on q now Accepted all = inr (begun t q r now base all)
    step-on q now Interrupted all = interrupted (with_stop_seen t q)
    step-on q now Gone all =
        inr (let it = refused-step q t Noent (here q (all-but t.traced q all)) in it.is)
    step-on q now (Refused errno) all = inr (refused-opening q t errno (here q (all-but t.traced q all)))

    polled : (place : Option ℕ) → t.stage ≡ Polling → AllPlain t.traced → LeavesOr (with_polled t place)
    polled None is all = inr w
    polled (Some q) is all = inr (to t (ReadingStatus q) base all)

    poll-on : (a : Answer) → t.stage ≡ Polling → AllPlain t.traced → LeavesOr (with_poll_answered t r a)
    unfolding with_poll_answered
    poll-on Accepted is all =
        polled (option_and_then (λ h. position (has_control h) t.traced) (ready_in r)) is all
    poll-on (Refused errno) is all = inr w
    poll-on Gone is all = inr w
    poll-on Interrupted is all = interrupted t

    status-on : (q : ℕ) (a : Answer) → Here q t → LeavesOr (with_function_status_answered t q r a)
    unfolding with_function_status_answered with_status_answered
    status-on q Accepted h = inr (let it = read q t (option_and_then status_lwp (bytes_in r)) h in it.is)
    status-on q (Refused errno) h = inr (let it = over q t h in it.is)
    status-on q Gone h = inr (let it = closing q t h in it.is)
    status-on q Interrupted h = interrupted t

    -- the reply to a read of memory; where truss goes on, it leaves no process
    after-on : (q : ℕ) (l : LwpStatus) (u : TrussState) (a : Answer) → Here q u → LeavesOr (after_text u q l a)
    unfolding after_text
    after-on q l u Accepted h = inr (let it = event-over q u l h in it.is)
    after-on q l u (Refused errno) h = inr (let it = event-over q u l h in it.is)
    after-on q l u Gone h = inr (let it = closing q u h in it.is)
    after-on q l u Interrupted h =
        subst LeavesOr
        (sym (ap (λ b. cond b (with_event_over u q l) (with_interrupt (with_stop_seen u q))) (off-at q u h)))
        (interrupted (with_stop_seen u q))

    text-on : (q : ℕ) (u : TrussState) (a : Answer) → LeavesOr u → LeavesOr (after_function_text t u q a)
    text-on q u Gone it = it
    text-on q u _ it = subst LeavesOr (sym (ap (λ b. cond b (with_lifts u q false) u) w.off)) it

    -- PCRUN
    run-on : (q : ℕ) (a : Answer) → PlainBut t.traced q → LeavesOr (with_function_run_answered t q a)
    unfolding with_function_run_answered with_run_answered
    run-on q Accepted but = inr (going _ (set-base t q _ base) (all-set t.traced q _ but refl))
    run-on q (Refused errno) but = inr (going _ (set-base t q _ base) (all-set t.traced q _ but refl))
    run-on q Gone but = inr (let it = closing q _ (set-here q t _ (here q but)) in it.is)
    run-on q Interrupted but = interrupted (with_stop_seen t q)

    -- a file is closed
    lost : (q : ℕ) (v : Traced) → AtStage (slice_set t.traced q v) t.stage → LeavesOr (with_traced t q v)
    lost q v stage = inr (record {
      follow = w.follow;
      off = w.off;
      stage = stage;
      beside = subst (AtAside (slice_set t.traced q v)) (sym idle) tt;
    })

    without : (q : ℕ) → Base (without_traced t q)
    without q = record { follow = w.follow; off = w.off; idle = idle }

    closed-next : (q : ℕ) (v : Option Traced) → t.stage ≡ Closing q OpenNext → PlainBut t.traced q
        → LeavesOr (closed_or_removed t q OpenNext v)
    unfolding after_closing
    closed-next q None is but = inr (opens-next _ (without q) (all-remove t.traced q but))
    closed-next q (Some v) is but =
        lost q v (subst (AtStage (slice_set t.traced q v)) (sym is) (but-set t.traced q v but))

    closed-on : (q : ℕ) (v : Option Traced) → t.stage ≡ Closing q GoOn → PlainBut t.traced q
        → LeavesOr (closed_or_removed t q GoOn v)
    unfolding after_closing
    closed-on q None is but = inr (going _ (without q) (all-remove t.traced q but))
    closed-on q (Some v) is but =
        lost q v (subst (AtStage (slice_set t.traced q v)) (sym is) (but-set t.traced q v but))

    -- a row a stage
    stage-on : (now : Stage) → t.stage ≡ now → AtStage t.traced now → LeavesOr (with_function_reply t r now)
    unfolding with_function_reply with_reply with_function_text_answered with_text_answered with_closed with_event_shown
    stage-on (Spawning program) is all = start-on program (answer_of r) all
    stage-on (OpeningControl pid) is all = control-on pid (answer_of r) all
    stage-on (Opening q now) is all = step-on q now (answer_of r) all
    stage-on Polling is all = poll-on (answer_of r) is all
    stage-on (ReadingStatus q) is all = status-on q (answer_of r) (here q (all-but t.traced q all))
    stage-on (ReadingText q l from len) is but =
        text-on q _ (answer_of r) (after-on q l _ (answer_of r) (told q t _ (here q but)))
    stage-on (Running q) is but = run-on q (answer_of r) but
    stage-on (Closing q OpenNext) is but = closed-next q (without_last (traced_at t q)) is but
    stage-on (Closing q GoOn) is but = closed-on q (without_last (traced_at t q)) is but
    stage-on Finished is all = inr w
    stage-on _ is none = absurd none

  -- ---- what comes before the call of a stage

  abbrev free : TrussState
  free = with_aside t Nothing

  free-here : (q : ℕ) → PlainBut t.traced q → Here q free
  free-here q but = record { base = record { follow = w.follow; off = w.off; idle = refl }; but = but }

  free-is : Unflagged free
  free-is = record { follow = w.follow; off = w.off; stage = w.stage; beside = tt }

  -- other breakpoints are planted in a process
  planted-after : (q : ℕ) (set : List Bool) → PlainBut t.traced q
      → After q (with_marks free q (record (marks_at free q) { planted = set }))
  planted-after q set but =
      let v : Traced = record (traced_at t q) { marks = record (marks_at t q) { planted = set } } in
      record {
        is = record {
          follow = w.follow;
          off = w.off;
          stage = stage-same t.traced (slice_set t.traced q v) t.stage (same-set t.traced q v refl) w.stage;
          beside = tt;
        };
        but = but-set t.traced q v but;
      }

  code-on : (q function : ℕ) (a : Answer) → PlainBut t.traced q → LeavesOr (with_code_answered free q function r a)
  unfolding with_code_answered with_code_read
  code-on q function Accepted but =
      elim (is_to_plant t.options function (bytes_in r))
      as (λ b. LeavesOr (cond b (with_aside free (Planting q function)) (with_next_function free q (function + 1)))) [
        | true ↦ inr (record { follow = w.follow; off = w.off; stage = w.stage; beside = but })
        | false ↦ inr (next-function q (function + 1) free free-is but)
      ]
  code-on q function Interrupted but = interrupted (with_stop_seen free q)
  code-on q function Gone but = inr (let it = refused-step q free Noent (free-here q but) in it.is)
  code-on q function (Refused errno) but = inr (refused-opening q free errno (free-here q but))

  plant-on : (q function : ℕ) (a : Answer) → PlainBut t.traced q → LeavesOr (with_plant_answered free q function a)
  unfolding with_plant_answered
  plant-on q function Accepted but =
      let it = planted-after q _ but in inr (next-function q (function + 1) _ it.is it.but)
  plant-on q function Interrupted but = interrupted (with_stop_seen free q)
  plant-on q function Gone but = inr (let it = refused-step q free Noent (free-here q but) in it.is)
  plant-on q function (Refused errno) but = inr (refused-opening q free errno (free-here q but))

  -- a patch was answered
  gone-on : (q : ℕ) (u : TrussState) → After q u → Unflagged (with_closing u q)
  gone-on q u a =
      let v : Unflagged u = a.is in
      record { follow = v.follow; off = v.off; stage = a.but; beside = v.beside }

  patch-on : (q : ℕ) (u : TrussState) (rest : Aside) (now : Stage) (a : Answer) → After q u → AtStage u.traced now
      → AtAside u.traced rest → LeavesOr (after_patch u rest q now a)
  unfolding after_patch with_pending_told
  patch-on q u rest (Closing b OpenNext) a it at is = inr (let n = beside q u rest is it in n.is)
  patch-on q u rest (Closing b GoOn) Gone it at is = inr (gone-on q u it)
  patch-on q u rest (Closing b GoOn) _ it at is = inr (let n = beside q u rest is it in n.is)
  patch-on q u rest (Closing b (RunParent parent)) a it at is = absurd at
  patch-on q u rest now Accepted it at is = inr (let n = beside q u rest is it in n.is)
  patch-on q u rest now (Refused errno) it at is = inr (let n = beside q u rest is it in n.is)
  patch-on q u rest now Gone it at is =
      let v : Unflagged u = it.is in
      inr (record { follow = v.follow; off = v.off; stage = it.but; beside = v.beside })
  patch-on q u rest now Interrupted it at is = interrupted (with_stop_seen (with_pending_told u) q)

  rest-on : (q : ℕ) (u : TrussState) (plants lifts : List Bool) (clear : Bool) (a : Answer) → u.stage ≡ t.stage
      → After q u → LeavesOr (after_patch u (patching q plants lifts clear) q t.stage a)
  rest-on q u plants lifts clear a same it =
      patch-on q u _ t.stage a it (let v = it.is in subst (AtStage u.traced) same v.stage)
      (patching-at u.traced q plants lifts clear it.but)

  planted-on : (q function : ℕ) (plants lifts : List Bool) (clear : Bool) (a b : Answer) → PlainBut t.traced q
      → LeavesOr (after_patch (planted_if free q function b) (patching q plants lifts clear) q t.stage a)
  planted-on q function plants lifts clear a Accepted but =
      rest-on q _ plants lifts clear a refl (planted-after q _ but)
  planted-on q function plants lifts clear a _ but =
      rest-on q free plants lifts clear a refl (record { is = free-is; but = but })

  first-on : (q : ℕ) (plants lifts : List Bool) (clear : Bool) (a : Answer) (plant lift : Option ℕ)
      → PlainBut t.traced q → LeavesOr (after_first free q plants lifts clear a plant lift)
  first-on q plants lifts clear a (Some function) lift but =
      planted-on q function (without_function plants function) lifts clear a a but
  first-on q plants lifts clear a None (Some function) but =
      rest-on q _ plants (without_function lifts function) clear a refl (planted-after q _ but)
  first-on q plants lifts clear a None None but =
      patch-on q free Nothing t.stage a (record { is = free-is; but = but }) w.stage tt

  aside-on : (a : Aside) → t.aside ≡ a → AtAside t.traced a → LeavesOr (with_aside_answered t r a)
  unfolding with_aside_answered with_patch_answered
  aside-on Nothing is at = stage-on is t.stage refl w.stage
  aside-on (Reading q function) is but = code-on q function (answer_of r) but
  aside-on (Planting q function) is but = plant-on q function (answer_of r) but
  aside-on (Patching q plants lifts clear) is but =
      first-on q plants lifts clear (answer_of r) (first_function plants) (first_function lifts) but
  aside-on _ is none = absurd none

  fed-on : has_functions t.options ≡ true → LeavesOr (fed_functions t r)
  unfolding fed_functions
  fed-on has =
      subst LeavesOr (sym (ap (λ b. cond b (with_aside_answered t r t.aside) (fed t r)) has))
      (aside-on t.aside refl w.beside)

-- ---- all exchanges

-- truss waits for a stop, or opens a process
abbrev pub is_waiting : Stage → Bool
is_waiting (Opening q step) = true
is_waiting Polling = true
is_waiting stage = false

module _ (o : Options) (has : has_functions o ≡ true) (off : o.follow ≡ false) where
  first-unflagged : Unflagged (first_truss o)
  unfolding first_truss
  first-unflagged = by-program o.program
    where
      by-pid : (pid : Option ℕ) → Unflagged (opening_or (unbegun o) (unbegun o) pid)
      by-pid None = record { follow = off; off = refl; stage = none-plain; beside = tt }
      by-pid (Some pid) = record { follow = off; off = refl; stage = none-plain; beside = tt }

      by-program : (program : Option (List ℕ)) → Unflagged (first_of_program o program)
      by-program None = by-pid (slice_get o.pids 0)
      by-program (Some program) = record { follow = off; off = refl; stage = none-plain; beside = tt }

  turn-leaves : (s : TrussState) (x : Exchange) → s.leaving ≡ true → Turn s x → (fed_functions s x.reply).leaving ≡ true
  turn-leaves s x on (goes_out sees over is) = ap (λ (u : TrussState). u.leaving) is ∙ on
  turn-leaves s x on (goes_on y like next is) =
      ap (λ (u : TrussState). u.leaving) is ∙ fed-leaves (ordinary s) y.reply on

  unflagged-from : (before after : List Exchange) (s : TrussState) → IsFit o s → MakesFunctionCalls s (before ++ after)
      → All IsCalm (before ++ after) → LeavesOr s → LeavesOr (functions_after s before)
  unflagged-from [] after s fit makes calm it = it
  unflagged-from (x ∷ before) after s fit makes calm it =
      let still = All-head IsCalm x (before ++ after) calm in
      unflagged-from before after (fed_functions s x.reply) (next-fit o has off s x fit makes.0 still) makes.1
      (All-tail IsCalm x (before ++ after) calm) (by it still)
    where
      by : LeavesOr s → IsCalm x → LeavesOr (fed_functions s x.reply)
      by (inl on) still = inl (turn-leaves s x on (turn o has off s x fit makes.0 still))
      by (inr w) still = fed-on s x.reply w (ap has_functions fit.options ∙ has)

  -- where truss reads the status of a process, that process has no run flags
  pub no-flags-at-read : (before after : List Exchange) (place : ℕ)
      → MakesFunctionCalls (first_truss o) (before ++ after)
      → All IsCalm (before ++ after) → (functions_after (first_truss o) before).leaving ≡ false
      → (functions_after (first_truss o) before).stage ≡ ReadingStatus place
      → (marks_at (functions_after (first_truss o) before) place).flags ≡ 0
  no-flags-at-read before after place makes calm stays reads =
      by (unflagged-from before after (first_truss o) (first-fit o has off) makes calm (inr first-unflagged))
    where
      by : LeavesOr (functions_after (first_truss o) before)
          → (marks_at (functions_after (first_truss o) before) place).flags ≡ 0
      by (inl on) = absurd (false≢true (sym stays ∙ on))
      by (inr w) = (subst (AtStage (functions_after (first_truss o) before).traced) reads w.stage) place

  -- nor has one where it waits for a stop
  pub no-flags-at-wait : (before after : List Exchange) (place : ℕ)
      → MakesFunctionCalls (first_truss o) (before ++ after)
      → All IsCalm (before ++ after) → (functions_after (first_truss o) before).leaving ≡ false
      → is_waiting (functions_after (first_truss o) before).stage ≡ true
      → (marks_at (functions_after (first_truss o) before) place).flags ≡ 0
  no-flags-at-wait before after place makes calm stays waits =
      by (unflagged-from before after (first_truss o) (first-fit o has off) makes calm (inr first-unflagged))
    where
      of : (u : TrussState) (stage : Stage) → is_waiting stage ≡ true → AtStage u.traced stage
          → (marks_at u place).flags ≡ 0
      of u (Opening q step) is w = w place
      of u Polling is w = w place
      of u _ is w = absurd (false≢true is)

      by : LeavesOr (functions_after (first_truss o) before)
          → (marks_at (functions_after (first_truss o) before) place).flags ≡ 0
      by (inl on) = absurd (false≢true (sym stays ∙ on))
      by (inr w) = of (functions_after (first_truss o) before) _ waits w.stage
