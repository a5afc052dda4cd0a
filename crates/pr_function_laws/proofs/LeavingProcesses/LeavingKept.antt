use Rattle.std.proofs.Common.{◌≡◌, ◌≢◌, ◌<◌, ◌+◌, ℕ, Bool, true, false}
use Rattle.std.proofs.Common.{Option, Some, None, List, length, refl, sym, subst, ap, ◌∙◌, arith, inl, inr}
use Rattle.std.proofs.lemmas.Bool.{cases_eq, false≢true}
use Rattle.std.proofs.lemmas.List.Edits.{get_or-remove_above, length-remove}
use Rattle.std.proofs.lemmas.Option.{none-some, same_Some}
use Rattle.std.specs.List.{remove}
use Rattle.pr_line.specs.declared.options.Options.{Options}
use Rattle.pr_model.specs.Calls.{Answer, answer_to}
use Rattle.pr_model.specs.Handles.{handle_of}
use Rattle.pr_model.specs.Lawful.{IsLawful}
use Rattle.pr_model.specs.Legal.{IsLegalEntry, after}
use Rattle.pr_model.specs.State.{TracedProcess, TracedState, TracedSystem, live_process}
use Rattle.pr_model.specs.declared.calls.Call.{Call}
use Rattle.pr_model.specs.declared.calls.Call.TheVariants as call
use Rattle.pr_model.specs.declared.calls.Reply.{Reply}
use Rattle.pr_model.specs.declared.events.Entry.{Entry}
use Rattle.pr_model.specs.declared.handles.Held.{Held}
use Rattle.pr_reached.specs.ByteHistories.{IsEntryOfBytes}
use Rattle.pr_reached.specs.Reached.{IsReached}
use Rattle.pr_report_laws.proofs.Files.FileLaws.{HasFiles}
use Rattle.pr_report_laws.proofs.Invariant.OtherSteps.{lives-later}
use Rattle.pr_num.specs.Limits.{instruction_size}
use Rattle.pr_rec.specs.declared.lwps.LwpStatus.{LwpStatus}
use Rattle.pr_truss.specs.Asides.{marks_at}
use Rattle.pr_truss.specs.FunctionCalls.{call_beside, function_call_of, next_function_call_of, patch_call}
use Rattle.pr_truss.specs.FunctionFeeding.{fed_functions}
use Rattle.pr_truss.specs.Marks.{address_of, code_of, first_function, has_functions, no_functions}
use Rattle.pr_truss.specs.NextCalls.{call_of}
use Rattle.pr_truss.specs.Processes.{last_handle, without_last}
use Rattle.pr_truss.specs.Replies.{answer_of}
use Rattle.pr_truss.specs.Trusses.{TrussState, nobody, traced_at}
use Rattle.pr_truss.specs.declared.asides.Aside.{Aside}
use Rattle.pr_truss.specs.declared.asides.Aside.TheVariants.{Asking, AwaitingAgain, AwaitingStop, Nothing, Patching}
use Rattle.pr_truss.specs.declared.processes.Traced.{Traced}
use Rattle.pr_truss.specs.declared.stages.AfterClosing.TheVariants.{GoOn}
use Rattle.pr_truss.specs.declared.stages.Stage.{Stage}
use Rattle.pr_truss.specs.declared.stages.Stage.TheVariants.{Closing, ReadingLwps, ReadingText, Unfollowing}
use Rattle.pr_truss_laws.proofs.Replies.FunctionOptionLemmas.{fed_functions-options}
use Rattle.pr_truss_laws.proofs.Files.HeldLemmas.{at_place}
use Rattle.pr_truss_laws.proofs.Files.OpensLemmas.{looking-stays, only_looks}
use Rattle.pr_truss_laws.proofs.Machine.OutlastLemmas.{own-call-elsewhere}
use Rattle.pr_truss_laws.proofs.Machine.OverLemmas.{stays-over}
use Rattle.pr_truss_laws.specs.Exchanges.{Exchange}
use Rattle.pr_truss_laws.specs.Stills.{IsFrozen}
use Rattle.pr_function_laws.proofs.Stepping.BreakpointLemmas.{IsOwnEntry}
use Rattle.pr_function_laws.proofs.LeavingProcesses.LeavingFacts.{Moved, StoodNext, alone, moved-sets, moved-stood, read-closes}
use Rattle.pr_function_laws.proofs.LeavingProcesses.LeavingFacts.{cleared-frozen, stays, step-stood}
use Rattle.pr_function_laws.proofs.LeavingProcesses.LeavingLaws.{halt_aside, halt_stage}
use Rattle.pr_function_laws.proofs.LeavingProcesses.LeavingStages.{IsLeft, IsUnlooked, is_looked}
use Rattle.pr_function_laws.proofs.LeavingProcesses.LeavingSteps.{IsAt, IsAtNext, IsAtStep, LeavesOn, NextLeft, Shares, Went}
use Rattle.pr_function_laws.proofs.LeavingProcesses.LeavingSteps.{ended, halted, has_read, leaves-on, looked, loses, patched, step-unlooked as unlooked-step}
use Rattle.pr_function_laws.proofs.OpenedProcesses.OpenedCalls.{write-mild}
use Rattle.pr_function_laws.proofs.OpenedProcesses.OpenedLemmas.{BeginWithPlain, by-process, cfault-plain, control-made}
use Rattle.pr_function_laws.proofs.OpenedProcesses.OpenedLemmas.{control-sole, plain-process}
use Rattle.pr_function_laws.proofs.OrdinaryTruss.OrdinaryStops.{nothing-first}
use Rattle.pr_function_laws.proofs.NextCalls.PatchCalls.{next-beside, next-staged}
use Rattle.pr_function_laws.proofs.OpenedProcesses.StoodCalls.{message-lwps}
use Rattle.pr_function_laws.proofs.OpenedProcesses.StoodLemmas.{Stood, lwps-frozen}
use Rattle.pr_function_laws.proofs.Stepping.StretchLemmas as stretch
use Rattle.pr_function_laws.proofs.OpenedProcesses.TracedSets.{IsAsSet, IsSetBy, same-sets, set-by-same}
use Rattle.pr_function_laws.specs.Leaving.{AsksAgain, Directs, HaltStep, Waits}
use Rattle.pr_function_laws.specs.Leaving.{WaitsAgain, halt_call, halt_next}
use Rattle.pr_function_laws.specs.Lifted.{HasControl}
use Rattle.pr_function_laws.specs.Ordinary.{ordinary}
use Rattle.pr_function_laws.specs.Stretches.{acts_by}
use Rattle.pr_function_laws.proofs.LeavingProcesses.LeftProcesses as left-of
use Rattle.pr_function_laws.proofs.LeavingProcesses.LeftProcesses.{IsLeaving, StoodFirst, at-first, begin-first, first-step, its-apart, its-control, last-file, looked-first, next-first}

-- Each call of a truss that leaves its processes, and the reply to it, leave these as they have to stand: a row a kind
-- of reply.

module _ (Reached : Type 0) (n k : ℕ) (o : Options) (t : TrussState) (s : TracedState)
    (g : IsLeaving Reached k o t s) (files : HasFiles k (ordinary t) s) (e : Entry) (legal : IsLegalEntry n s e)
    (bytes : Reached → IsEntryOfBytes e) where
  abbrev now-lawful : IsLawful (after s e)
  now-lawful = left-of.now-lawful Reached n k o t s g files e legal bytes

  abbrev now-reached : Reached → IsReached (after s e)
  now-reached = left-of.now-reached Reached n k o t s g files e legal bytes

  -- ---- a call of truss

  module _ (x : Exchange) (own : IsOwnEntry k s e x) (next : next_function_call_of t ≡ Some x.call)
      (has : has_functions t.options ≡ true) (follow : t.options.follow ≡ false) where
    abbrev a : Answer
    a = own.answer

    abbrev v : TrussState
    v = fed_functions t x.reply

    over : (pid : ℕ) → pid < s.system.made → live_process s.system pid ≡ None
        → live_process a.state.system pid ≡ None
    over pid made none =
        ap (λ (u : TracedState). live_process u.system pid) own.later
        ∙ stays-over n s e pid g.lawful legal made none

    abbrev pid_at : ℕ → ℕ
    pid_at q = (traced_at t q).pid

    pub control-at : (q : ℕ) → q < length t.traced → HasControl k (pid_at q) (traced_at t q).control s
    control-at q within = its-control k t s files q within

    -- what was so of a process that lives behind the call
    abbrev Was : (TracedProcess → TracedProcess → Type 0) → ℕ → TracedProcess → Type 0
    Was E q p' = (p : TracedProcess) × ((live_process s.system (pid_at q) ≡ Some p) × E p p')

    abbrev Now : ℕ → TracedProcess → Type 0
    Now q p' = live_process a.state.system (pid_at q) ≡ Some p'

    -- the system is as it was
    pub same-was : a.state.system ≡ s.system → (q : ℕ) (p' : TracedProcess) → Now q p' → Was Moved q p'
    same-was same q p' later =
        (p', (ap (λ (u : TracedSystem). live_process u (pid_at q)) (sym same) ∙ later, stays refl))

    looks-same : (c : Call) → x.call ≡ c → only_looks c ≡ true → a.state.system ≡ s.system
    looks-same c is looks =
        ap (λ (u : TracedState). u.system) (looking-stays s k c a looks (ap (answer_to s k) (sym is) ∙ own.is))

    -- the call acts on the first process, if on one
    module _ (first_acts : (m : ℕ) (held : Held) → acts_by x.call ≡ Some m → handle_of s.opens k m ≡ Some held
        → held.pid ≡ pid_at 0) (some : 0 < length t.traced) where
      pub others-was : (q : ℕ) → q < length t.traced → q ≢ 0 → (p' : TracedProcess) → Now q p' → Was Moved q p'
      others-was q within other p' later =
          let its = control-at q within in
          let made = control-made k (pid_at q) (traced_at t q).control s g.lawful its in
          let sole = control-sole k (pid_at q) (traced_at t q).control s g.lawful its in
          let w =
          lives-later o (pid_at q) t s a.state
          (λ p live. own-call-elsewhere s k (pid_at q) x.call a p g.lawful
          (λ m h named there same.
          its-apart k t s files q 0 within some other
          (sym same ∙ first_acts m h (stretch.named-acts n k (pid_at q) 0 (traced_at t q).control s g.lawful sole made
          x.call m named) there)) own.is live) (over (pid_at q) made) p' later in
          (w.0, (w.1.0, alone w.1.1))

    -- the control file of the first process
    pub control-acts : (some : 0 < length t.traced) → acts_by x.call ≡ Some (traced_at t 0).control → (m : ℕ)
        (held : Held) → acts_by x.call ≡ Some m → handle_of s.opens k m ≡ Some held → held.pid ≡ pid_at 0
    control-acts some acts m held named there =
        ap (λ (h : Held). h.pid)
        (same_Some held _ (sym there ∙ ap (handle_of s.opens k) (same_Some m _ (sym named ∙ acts))
        ∙ control-at 0 some))

    none-acts : acts_by x.call ≡ None → (m : ℕ) (held : Held) → acts_by x.call ≡ Some m
        → handle_of s.opens k m ≡ Some held → held.pid ≡ pid_at 0
    none-acts none m held named there = absurd (none-some m (sym none ∙ named))

    abbrev Later : TrussState → Type 0
    Later u = IsLeaving Reached k o u a.state

    lawful-later : IsLawful a.state
    lawful-later = subst IsLawful (sym own.later) now-lawful

    reached-later : Reached → IsReached a.state
    reached-later r = subst IsReached (sym own.later) (now-reached r)

    -- where truss has looked at the first process
    module _ (l : LeavesOn t x.reply g.at v) (shares : Shares t v) (looked_so : is_looked v.stage ≡ true)
        (unlooked_t : (q : ℕ) → q ≢ 0 → IsUnlooked t.stage q)
        (others : (q : ℕ) → q < length t.traced → q ≢ 0 → (p' : TracedProcess) → Now q p' → Was Moved q p')
        (first_sets : (p' : TracedProcess) → Now 0 p' → Was IsAsSet 0 p')
        (first_frozen : 0 < length t.traced → (traced_at t 0).attached ≡ true → (p' : TracedProcess) → Now 0 p'
        → IsFrozen p') where
      inside : (q : ℕ) → q < length v.traced → q < length t.traced
      inside q within = subst (λ m. q < m) shares.many within

      was-attached : (q : ℕ) → (traced_at v q).attached ≡ true → (traced_at t q).attached ≡ true
      was-attached q attached = sym (shares.attached q) ∙ attached

      here-now : (q : ℕ) (p' : TracedProcess) → live_process a.state.system (traced_at v q).pid ≡ Some p' → Now q p'
      here-now q p' later = subst (λ i. live_process a.state.system i ≡ Some p') (shares.pids q) later

      sets-was : (q : ℕ) → q < length t.traced → (p' : TracedProcess) → Now q p' → Was IsAsSet q p'
      sets-was q within p' later = elim (cases_eq q 0) [
        | inl zero_q ↦ subst (λ i. Was IsAsSet i p') (sym zero_q)
            (first_sets p' (subst (λ i. Now i p') zero_q later))
        | inr other ↦
            let w = others q within other p' later in (w.0, (w.1.0, moved-sets w.0 p' w.1.1))
      ]

      looked-leaving : Later v
      looked-leaving = record {
        lawful = lawful-later;
        reached = reached-later;
        options = fed_functions-options t x.reply ∙ g.options;
        on = l.on;
        at = l.at;
        sets = λ q within attached p' later.
            let w = sets-was q (inside q within) p' (here-now q p' later) in
            set-by-same o w.0 p' w.1.1 None (g.sets q (inside q within) (was-attached q attached) w.0 w.1.0);
        stood = λ r q within attached unlooked p' later.
            let other : q ≢ 0 = unlooked looked_so in
            let w = others q (inside q within) other p' (here-now q p' later) in
            subst (λ m. Stood 0 m p') (sym (shares.olds q other))
            (moved-stood w.0 p' 0 (traced_at t q).old w.1.1
            (g.stood r q (inside q within) (was-attached q attached) (unlooked_t q other) w.0 w.1.0));
        first = λ some attached p' later.
            looked-first v p' looked_so
            (first_frozen (inside 0 some) (was-attached 0 attached) p' (here-now 0 p' later));
      }

    -- ---- a row a case

    staged : (stage : Stage) → t.stage ≡ stage → t.aside ≡ Nothing → Some x.call ≡ function_call_of t stage
    staged stage is idle = sym next ∙ next-staged t.options has t stage refl idle is

    beside : (aside : Aside) → t.aside ≡ aside → Some x.call ≡ call_beside t t.stage aside
    beside aside is = sym next ∙ next-beside t.options has t refl ∙ ap (call_beside t t.stage) is

    pub not-yet : (stage : Stage) → t.stage ≡ stage → is_looked stage ≡ false → (q : ℕ) → IsUnlooked t.stage q
    not-yet stage at not q is = absurd (false≢true (sym not ∙ ap is_looked (sym at) ∙ is))

    pub already : (q : ℕ) → q ≢ 0 → IsUnlooked t.stage q
    already q other is = other

    same-leaving : LeavesOn t x.reply g.at v → Shares t v → is_looked v.stage ≡ true
        → ((q : ℕ) → q ≢ 0 → IsUnlooked t.stage q) → a.state.system ≡ s.system
        → (0 < length t.traced → (traced_at t 0).attached ≡ true → (p : TracedProcess)
        → live_process s.system (pid_at 0) ≡ Some p → IsFrozen p) → Later v
    same-leaving l shares looked_so unlooked_t same frozen =
        looked-leaving l shares looked_so unlooked_t (λ q within other. same-was same q)
        (λ p' later. let w = same-was same 0 p' later in (w.0, (w.1.0, moved-sets w.0 p' w.1.1)))
        (λ some attached p' later. frozen some attached p'
        (ap (λ (u : TracedSystem). live_process u (pid_at 0)) (sym same) ∙ later))

    -- a step of the stop
    pub step-call : (step : HaltStep) → IsAtStep t step → x.call ≡ halt_call (traced_at t 0) step
    unfolding function_call_of call_beside
    step-call Directs at = same_Some _ _ (staged Unfollowing at.0 at.1)
    step-call (Waits until) at = same_Some _ _ (beside (AwaitingStop until) at.1)
    step-call AsksAgain at = same_Some _ _ (beside Asking at.1)
    step-call (WaitsAgain until) at = same_Some _ _ (beside (AwaitingAgain until) at.1)

    pub step-acts : (step : HaltStep) → x.call ≡ halt_call (traced_at t 0) step → 0 < length t.traced → (m : ℕ)
        (held : Held) → acts_by x.call ≡ Some m → handle_of s.opens k m ≡ Some held → held.pid ≡ pid_at 0
    step-acts Directs is some = control-acts some (ap acts_by is)
    step-acts (Waits until) is some = none-acts (ap acts_by is)
    step-acts AsksAgain is some = control-acts some (ap acts_by is)
    step-acts (WaitsAgain until) is some = none-acts (ap acts_by is)

    pub step-unlooked : (step : HaltStep) → IsAtStep t step → (q : ℕ) → IsUnlooked t.stage q
    step-unlooked step at q is = absurd (false≢true (sym (unlooked-step t step at) ∙ is))

    module _ (step : HaltStep) (at : IsAtStep t step) (some : 0 < length t.traced) (same : v.traced ≡ t.traced)
        (to : IsAtNext v (halt_next step x.reply (answer_of x.reply))) (l : LeavesOn t x.reply g.at v) where
      is : x.call ≡ halt_call (traced_at t 0) step
      is = step-call step at

      pub here-is : (q : ℕ) → traced_at v q ≡ traced_at t q
      here-is q = ap (λ ts. at_place ts q) same

      pub within-t : (q : ℕ) → q < length v.traced → q < length t.traced
      within-t q within = subst (λ (ts : List Traced). q < length ts) same within

      pub own-step : (traced_at t 0).attached ≡ true → (p' : TracedProcess) → Now 0 p'
          → (p : TracedProcess) × ((live_process s.system (pid_at 0) ≡ Some p)
          × (Moved p p' × StoodNext (halt_next step x.reply (answer_of x.reply)) p'))
      own-step attached p' later = by (live_process s.system (pid_at 0)) refl
        where
          by : (y : Option TracedProcess) → live_process s.system (pid_at 0) ≡ y
              → (p : TracedProcess) × ((live_process s.system (pid_at 0) ≡ Some p)
              × (Moved p p' × StoodNext (halt_next step x.reply (answer_of x.reply)) p'))
          by None none =
              absurd (none-some p' (sym (over (pid_at 0)
              (control-made k (pid_at 0) (traced_at t 0).control s g.lawful (control-at 0 some)) none) ∙ later))
          by (Some p) live =
              let set : IsSetBy o None p = g.sets 0 some attached p live in
              let w =
              step-stood k s g.lawful (pid_at 0) (traced_at t 0).control (control-at 0 some) a p live p' later set.1
              step (traced_at t 0) refl
              (first-step step p (at-first t (halt_stage step) (halt_aside step) p at (g.first some attached p live)))
              (ap (answer_to s k) (sym is) ∙ own.is) in (
                p,
                (
                  live,
                  (
                    w.0,
                    subst (λ (r : Reply). StoodNext (halt_next step r (answer_of r)) p') own.replied w.1,
                  ),
                ),
              )

      pub moved-was : (q : ℕ) → q < length t.traced → (traced_at t q).attached ≡ true → (p' : TracedProcess) → Now q p'
          → Was Moved q p'
      moved-was q within attached p' later = elim (cases_eq q 0) [
        | inl zero_q ↦
            let w =
            own-step (subst (λ i. (traced_at t i).attached ≡ true) zero_q attached) p'
            (subst (λ i. Now i p') zero_q later) in
            subst (λ i. Was Moved i p') (sym zero_q) (w.0, (w.1.0, w.1.1.0))
        | inr other ↦ others-was (step-acts step is some) some q within other p' later
      ]

      halted-leaving : Later v
      halted-leaving = record {
        lawful = lawful-later;
        reached = reached-later;
        options = fed_functions-options t x.reply ∙ g.options;
        on = l.on;
        at = l.at;
        sets = λ q within attached p' later.
            let on_t = ap (λ (u : Traced). u.attached) (sym (here-is q)) ∙ attached in
            let w = moved-was q (within-t q within) on_t p'
            (subst (λ (u : Traced). live_process a.state.system u.pid ≡ Some p') (here-is q) later) in
            set-by-same o w.0 p' (moved-sets w.0 p' w.1.1) None (g.sets q (within-t q within) on_t w.0 w.1.0);
        stood = λ r q within attached unlooked p' later.
            let on_t = ap (λ (u : Traced). u.attached) (sym (here-is q)) ∙ attached in
            let w = moved-was q (within-t q within) on_t p'
            (subst (λ (u : Traced). live_process a.state.system u.pid ≡ Some p') (here-is q) later) in
            subst (λ (u : Traced). Stood 0 u.old p') (sym (here-is q))
            (moved-stood w.0 p' 0 (traced_at t q).old w.1.1
            (g.stood r q (within-t q within) on_t (step-unlooked step at q) w.0 w.1.0));
        first = λ some_v attached p' later.
            let on_t = ap (λ (u : Traced). u.attached) (sym (here-is 0)) ∙ attached in
            let w = own-step on_t p'
            (subst (λ (u : Traced). live_process a.state.system u.pid ≡ Some p') (here-is 0) later) in
            next-first v (halt_next step x.reply (answer_of x.reply)) p' to w.1.1.1;
      }

    -- the first process stands still
    still-at : (stage : Stage) (aside : Aside) → IsAt t stage aside
        → ((p : TracedProcess) → StoodFirst stage aside p → IsFrozen p)
        → 0 < length t.traced → (traced_at t 0).attached ≡ true → (p : TracedProcess)
        → live_process s.system (pid_at 0) ≡ Some p → IsFrozen p
    still-at stage aside at stands some attached p live =
        stands p (at-first t stage aside p at (g.first some attached p live))

    -- a breakpoint is lifted, or a fault is cleared
    module _ (some : 0 < length t.traced) (bytes_sent : List ℕ)
        (is : x.call ≡ call.Ctl (traced_at t 0).control bytes_sent) (plain : BeginWithPlain bytes_sent)
        (still : (p p' : TracedProcess) → live_process s.system (pid_at 0) ≡ Some p → Now 0 p' → IsFrozen p
        → IsFrozen p') where
      sent-was : (p' : TracedProcess) → Now 0 p' → Was IsAsSet 0 p'
      sent-was p' later =
          by-process n k o s g.lawful x.call a own.is over (pid_at 0) (traced_at t 0).control bytes_sent is
          (control-at 0 some) IsAsSet
          (λ p q live now.
          let leaves =
          plain-process n k o s g.lawful x.call a own.is over (pid_at 0) (traced_at t 0).control bytes_sent is
          (control-at 0 some) plain p q live now in
          record {
            sets = same-sets p.control q.control leaves.control;
            agent = λ none. leaves.agent ∙ none;
          }) p' later

      sent-leaving : LeavesOn t x.reply g.at v → Shares t v → is_looked v.stage ≡ true
          → (0 < length t.traced → (traced_at t 0).attached ≡ true → (p : TracedProcess)
          → live_process s.system (pid_at 0) ≡ Some p → IsFrozen p) → Later v
      sent-leaving l shares looked_so frozen =
          looked-leaving l shares looked_so already (others-was (control-acts some (ap acts_by is)) some) sent-was
          (λ some_t attached p' later.
          let w = sent-was p' later in still w.0 p' w.1.0 later (frozen some_t attached w.0 w.1.0))

    patch-leaving : (clear : Bool) → IsAt t (Closing 0 GoOn) (Patching 0 no_functions (marks_at t 0).planted clear)
        → 0 < length t.traced → LeavesOn t x.reply g.at v → Shares t v → is_looked v.stage ≡ true → Later v
    unfolding call_beside
    patch-leaving clear at some l shares looked_so =
        by (first_function (marks_at t 0).planted)
        (same_Some _ _ (beside (Patching 0 no_functions (marks_at t 0).planted clear) at.1)
        ∙ ap (λ plant. patch_call t.options (traced_at t 0).control plant (first_function (marks_at t 0).planted))
        nothing-first)
      where
        frozen : 0 < length t.traced → (traced_at t 0).attached ≡ true → (p : TracedProcess)
            → live_process s.system (pid_at 0) ≡ Some p → IsFrozen p
        frozen =
            still-at (Closing 0 GoOn) (Patching 0 no_functions (marks_at t 0).planted clear) at (λ p h. h)

        by : (lift : Option ℕ) → x.call ≡ patch_call t.options (traced_at t 0).control None lift → Later v
        by (Some i) is =
            let mild = write-mild (address_of t.options i) instruction_size (code_of t.options i) in
            sent-leaving some _ is mild.0
            (λ p p' live later still.
            let keeps =
            message-lwps n k o s g.lawful x.call a own.is over (traced_at t 0) _ is (control-at 0 some) p p' live later
            mild.1 in lwps-frozen p p' keeps.lwps still) l shares looked_so frozen
        by None is =
            sent-leaving some _ is cfault-plain
            (λ p p' live later still.
            cleared-frozen k s g.lawful (pid_at 0) (traced_at t 0).control (control-at 0 some) a p live p' later
            (ap (answer_to s k) (sym is) ∙ own.is) still) l shares looked_so frozen

    -- the last file of the first process is closed, and the next one is left
    module _ (at : IsAt t (Closing 0 GoOn) Nothing) (some : 0 < length t.traced)
        (same : v.traced ≡ remove t.traced 0) (to : NextLeft v) (l : LeavesOn t x.reply g.at v) where
      close-is : x.call ≡ call.Close (last_handle (traced_at t 0))
      unfolding function_call_of call_of
      close-is = same_Some _ _ (staged (Closing 0 GoOn) at.0 at.1)

      pub close-acts : (m : ℕ) (held : Held) → acts_by x.call ≡ Some m → handle_of s.opens k m ≡ Some held
          → held.pid ≡ pid_at 0
      close-acts m held named there =
          let last = last-file k t s files 0 some in
          ap (λ (h : Held). h.pid)
          (same_Some held last.held (sym there ∙ ap (handle_of s.opens k)
          (same_Some m _ (sym named ∙ ap acts_by close-is)) ∙ last.there)) ∙ last.of

      pub behind-at : (q : ℕ) → q < length v.traced → q + 1 < length t.traced
      behind-at q within =
          let less : q < length (remove t.traced 0) = subst (λ (ts : List Traced). q < length ts) same within in
          omega (arith, less, length-remove t.traced 0 some)

      pub there-is : (q : ℕ) → traced_at v q ≡ traced_at t (q + 1)
      there-is q =
          ap (λ ts. at_place ts q) same ∙ get_or-remove_above t.traced 0 nobody q (omega arith) some

      later-was : (q : ℕ) → q < length v.traced → (p' : TracedProcess)
          → live_process a.state.system (traced_at v q).pid ≡ Some p' → Was Moved (q + 1) p'
      later-was q within p' later =
          others-was close-acts some (q + 1) (behind-at q within) (λ none. absurd (omega (arith, none))) p'
          (subst (λ (u : Traced). live_process a.state.system u.pid ≡ Some p') (there-is q) later)

      pub on-t : (q : ℕ) → (traced_at v q).attached ≡ true → (traced_at t (q + 1)).attached ≡ true
      on-t q attached = ap (λ (u : Traced). u.attached) (sym (there-is q)) ∙ attached

      ended-leaving : Later v
      ended-leaving = record {
        lawful = lawful-later;
        reached = reached-later;
        options = fed_functions-options t x.reply ∙ g.options;
        on = l.on;
        at = l.at;
        sets = λ q within attached p' later.
            let w = later-was q within p' later in
            set-by-same o w.0 p' (moved-sets w.0 p' w.1.1) None
            (g.sets (q + 1) (behind-at q within) (on-t q attached) w.0 w.1.0);
        stood = λ r q within attached unlooked p' later.
            let w = later-was q within p' later in
            subst (λ (u : Traced). Stood 0 u.old p') (sym (there-is q))
            (moved-stood w.0 p' 0 (traced_at t (q + 1)).old w.1.1
            (g.stood r (q + 1) (behind-at q within) (on-t q attached)
            (already (q + 1) (λ none. absurd (omega (arith, none)))) w.0 w.1.0));
        first = λ some_v attached p' later. begin-first v to some_v attached p';
      }

    -- reads, and the close of a file that is not the last one, leave the system
    pub look-same : IsAt t ReadingLwps Nothing → a.state.system ≡ s.system
    unfolding function_call_of call_of
    look-same at = looks-same _ (same_Some _ _ (staged ReadingLwps at.0 at.1)) refl

    pub text-same : (l : LwpStatus) (from len : ℕ) → IsAt t (ReadingText 0 l from len) Nothing
        → a.state.system ≡ s.system
    unfolding function_call_of call_of
    text-same l from len at = looks-same _ (same_Some _ _ (staged (ReadingText 0 l from len) at.0 at.1)) refl

    pub lose-same : (u : Traced) → IsAt t (Closing 0 GoOn) Nothing → 0 < length t.traced
        → without_last (traced_at t 0) ≡ Some u → a.state.system ≡ s.system
    unfolding function_call_of call_of
    lose-same u at some is =
        let last = last-file k t s files 0 some in
        read-closes s k (last_handle (traced_at t 0)) last.held a last.there (last.reads u is)
        (ap (answer_to s k) (sym (same_Some _ _ (staged (Closing 0 GoOn) at.0 at.1))) ∙ own.is)

    pub patch-acts : (clear : Bool) → IsAt t (Closing 0 GoOn) (Patching 0 no_functions (marks_at t 0).planted clear)
        → acts_by x.call ≡ Some (traced_at t 0).control
    unfolding call_beside
    patch-acts clear at =
        ap acts_by (same_Some _ _ (beside (Patching 0 no_functions (marks_at t 0).planted clear) at.1))
        ∙ by (first_function no_functions) (first_function (marks_at t 0).planted)
      where
        by : (plant lift : Option ℕ)
            → acts_by (patch_call t.options (traced_at t 0).control plant lift) ≡ Some (traced_at t 0).control
        by (Some i) lift = refl
        by None (Some i) = refl
        by None None = refl

    any-leaving : LeavesOn t x.reply g.at v → Later v
    any-leaving l = by l.went
      where
        by : {w : IsLeft t} → Went t x.reply v w → Later v
        by (halted step at some same to) = halted-leaving step at some same to l
        by (looked at some look f _) =
            same-leaving l f.shares f.looked_at (λ q other. not-yet ReadingLwps at.0 refl q) (look-same at)
            (still-at ReadingLwps Nothing at (λ p h. h))
        by (has_read l_read from len at some f _) =
            same-leaving l f.shares f.looked_at already (text-same l_read from len at)
            (still-at (ReadingText 0 l_read from len) Nothing at (λ p h. h))
        by (patched clear at some f _) = patch-leaving clear at some l f.shares f.looked_at
        by (loses u at some is f _) =
            same-leaving l f.shares f.looked_at already (lose-same u at some is)
            (still-at (Closing 0 GoOn) Nothing at (λ p h. h))
        by (ended at some none same to) = ended-leaving at some same to l

    pub behind-it : LeavesOn t x.reply g.at v
    behind-it = leaves-on t x.reply g.on follow has g.at x.call next

    pub own-leaving : IsLeaving Reached k o v (after s e)
    own-leaving = subst (IsLeaving Reached k o v) own.later (any-leaving behind-it)
