use Rattle.std.proofs.Common.{◌≡◌, ◌≢◌, ◌<◌, ◌+◌, ℕ, zero, suc, Bool, true, false}
use Rattle.std.proofs.Common.{Some, None, List, length, refl, sym, subst, ap, ◌∙◌, arith, inl, inr}
use Rattle.std.proofs.lemmas.Bool.{cases_eq, false≢true}
use Rattle.std.proofs.lemmas.List.Edits.{length-remove}
use Rattle.std.specs.List.{remove}
use Rattle.pr_line.specs.declared.options.Options.{Options}
use Rattle.pr_model.specs.Calls.{Answer, answer_to}
use Rattle.pr_model.specs.Handles.{handle_of}
use Rattle.pr_model.specs.Legal.{IsLegalEntry}
use Rattle.pr_model.specs.State.{TracedProcess, TracedState, TracedSystem, live_process, process_of}
use Rattle.pr_model.specs.declared.events.Entry.{Entry}
use Rattle.pr_model.specs.declared.handles.Held.{Held}
use Rattle.pr_reached.specs.ByteHistories.{IsEntryOfBytes}
use Rattle.pr_report_laws.proofs.Files.FileLaws.{HasFiles}
use Rattle.pr_num.specs.Signals.{signal_number}
use Rattle.pr_num.specs.declared.signals.Sig.TheVariants.{Kill}
use Rattle.pr_rec.specs.declared.lwps.LwpStatus.{LwpStatus}
use Rattle.pr_truss.specs.Asides.{marks_at}
use Rattle.pr_truss.specs.FunctionCalls.{next_function_call_of}
use Rattle.pr_truss.specs.FunctionFeeding.{fed_functions}
use Rattle.pr_truss.specs.Marks.{has_functions, no_functions}
use Rattle.pr_truss.specs.Processes.{without_last}
use Rattle.pr_truss.specs.Replies.{answer_of}
use Rattle.pr_truss.specs.Trusses.{TrussState, traced_at}
use Rattle.pr_truss.specs.declared.asides.Aside.TheVariants.{Nothing, Patching}
use Rattle.pr_truss.specs.declared.processes.Traced.{Traced}
use Rattle.pr_truss.specs.declared.stages.AfterClosing.TheVariants.{GoOn}
use Rattle.pr_truss.specs.declared.stages.Stage.{Stage}
use Rattle.pr_truss.specs.declared.stages.Stage.TheVariants.{Closing, ReadingLwps, ReadingText}
use Rattle.pr_truss_laws.proofs.Machine.OutlastLemmas as outlast
use Rattle.pr_truss_laws.proofs.Machine.OutlastLemmas.{Outlasts, own-call-elsewhere}
use Rattle.pr_truss_laws.specs.Exchanges.{Exchange}
use Rattle.pr_function_laws.proofs.Stepping.BreakpointLemmas.{IsOwnEntry}
use Rattle.pr_function_laws.proofs.LeavingProcesses.LeavingFacts.{Moved, StoodNext}
use Rattle.pr_function_laws.proofs.LeavingProcesses.LeavingFacts.{step-lives}
use Rattle.pr_function_laws.proofs.LeavingProcesses.LeavingStages.{IsLeft, IsUnlooked, is_looked}
use Rattle.pr_function_laws.proofs.LeavingProcesses.LeavingSteps.{IsAt, IsAtNext, IsAtStep, LeavesOn, NextLeft, Shares, Went}
use Rattle.pr_function_laws.proofs.LeavingProcesses.LeavingSteps.{ended, halted, has_read, looked, loses, patched}
use Rattle.pr_function_laws.proofs.OpenedProcesses.OpenedLemmas.{control-made}
use Rattle.pr_function_laws.proofs.OpenedProcesses.OpenedLemmas.{control-sole}
use Rattle.pr_function_laws.proofs.Stepping.StretchLemmas as stretch
use Rattle.pr_function_laws.specs.Leaving.{HaltStep}
use Rattle.pr_function_laws.specs.Leaving.{halt_call, halt_next}
use Rattle.pr_function_laws.specs.Lifted.{HasControl}
use Rattle.pr_function_laws.specs.Ordinary.{ordinary}
use Rattle.pr_function_laws.specs.Stretches.{acts_by}
use Rattle.pr_function_laws.proofs.LeavingProcesses.LeftProcesses.{IsLeaving, its-apart, next-left-unlooked, next-unlooked}
use Rattle.pr_function_laws.proofs.LeavingProcesses.LeavingKept as kept-of

-- A process that truss leaves and has not looked at: where truss had it before a call, where it has it behind the call,
-- and that it lives on unless SIGKILL ends it.

module _ (Reached : Type 0) (n k : ℕ) (o : Options) (t : TrussState) (s : TracedState)
    (g : IsLeaving Reached k o t s) (files : HasFiles k (ordinary t) s) (e : Entry) (legal : IsLegalEntry n s e)
    (bytes : Reached → IsEntryOfBytes e) where
  module _ (x : Exchange) (own : IsOwnEntry k s e x) (next : next_function_call_of t ≡ Some x.call)
      (has : has_functions t.options ≡ true) (follow : t.options.follow ≡ false) where
    abbrev a : Answer
    a = own.answer

    abbrev v : TrussState
    v = fed_functions t x.reply

    abbrev pid_at : ℕ → ℕ
    pid_at q = (traced_at t q).pid

    abbrev control-at : (q : ℕ) → q < length t.traced → HasControl k (pid_at q) (traced_at t q).control s
    control-at = kept-of.control-at Reached n k o t s g files e legal bytes x own next has follow

    abbrev Was : (TracedProcess → TracedProcess → Type 0) → ℕ → TracedProcess → Type 0
    Was E q p' = (p : TracedProcess) × ((live_process s.system (pid_at q) ≡ Some p) × E p p')

    abbrev Now : ℕ → TracedProcess → Type 0
    Now q p' = live_process a.state.system (pid_at q) ≡ Some p'

    abbrev same-was : a.state.system ≡ s.system → (q : ℕ) (p' : TracedProcess) → Now q p' → Was Moved q p'
    same-was = kept-of.same-was Reached n k o t s g files e legal bytes x own next has follow

    module _ (first_acts : (m : ℕ) (held : Held) → acts_by x.call ≡ Some m → handle_of s.opens k m ≡ Some held
        → held.pid ≡ pid_at 0) (some : 0 < length t.traced) where
      abbrev others-was : (q : ℕ) → q < length t.traced → q ≢ 0 → (p' : TracedProcess) → Now q p' → Was Moved q p'
      others-was = kept-of.others-was Reached n k o t s g files e legal bytes x own next has follow first_acts some

    abbrev control-acts : (some : 0 < length t.traced) → acts_by x.call ≡ Some (traced_at t 0).control → (m : ℕ)
        (held : Held) → acts_by x.call ≡ Some m → handle_of s.opens k m ≡ Some held → held.pid ≡ pid_at 0
    control-acts = kept-of.control-acts Reached n k o t s g files e legal bytes x own next has follow

    abbrev not-yet : (stage : Stage) → t.stage ≡ stage → is_looked stage ≡ false → (q : ℕ) → IsUnlooked t.stage q
    not-yet = kept-of.not-yet Reached n k o t s g files e legal bytes x own next has follow

    abbrev already : (q : ℕ) → q ≢ 0 → IsUnlooked t.stage q
    already = kept-of.already Reached n k o t s g files e legal bytes x own next has follow

    abbrev step-call : (step : HaltStep) → IsAtStep t step → x.call ≡ halt_call (traced_at t 0) step
    step-call = kept-of.step-call Reached n k o t s g files e legal bytes x own next has follow

    abbrev step-acts : (step : HaltStep) → x.call ≡ halt_call (traced_at t 0) step → 0 < length t.traced → (m : ℕ)
        (held : Held) → acts_by x.call ≡ Some m → handle_of s.opens k m ≡ Some held → held.pid ≡ pid_at 0
    step-acts = kept-of.step-acts Reached n k o t s g files e legal bytes x own next has follow

    abbrev step-unlooked : (step : HaltStep) → IsAtStep t step → (q : ℕ) → IsUnlooked t.stage q
    step-unlooked = kept-of.step-unlooked Reached n k o t s g files e legal bytes x own next has follow

    module _ (step : HaltStep) (at : IsAtStep t step) (some : 0 < length t.traced) (same : v.traced ≡ t.traced)
        (to : IsAtNext v (halt_next step x.reply (answer_of x.reply))) (l : LeavesOn t x.reply g.at v) where
      abbrev here-is : (q : ℕ) → traced_at v q ≡ traced_at t q
      here-is = kept-of.here-is Reached n k o t s g files e legal bytes x own next has follow step at some same to l

      abbrev within-t : (q : ℕ) → q < length v.traced → q < length t.traced
      within-t = kept-of.within-t Reached n k o t s g files e legal bytes x own next has follow step at some same to l

      abbrev own-step : (traced_at t 0).attached ≡ true → (p' : TracedProcess) → Now 0 p'
          → (p : TracedProcess) × ((live_process s.system (pid_at 0) ≡ Some p)
          × (Moved p p' × StoodNext (halt_next step x.reply (answer_of x.reply)) p'))
      own-step = kept-of.own-step Reached n k o t s g files e legal bytes x own next has follow step at some same to l

      abbrev moved-was : (q : ℕ) → q < length t.traced → (traced_at t q).attached ≡ true → (p' : TracedProcess)
          → Now q p' → Was Moved q p'
      moved-was = kept-of.moved-was Reached n k o t s g files e legal bytes x own next has follow step at some same to l

    module _ (at : IsAt t (Closing 0 GoOn) Nothing) (some : 0 < length t.traced)
        (same : v.traced ≡ remove t.traced 0) (to : NextLeft v) (l : LeavesOn t x.reply g.at v) where
      abbrev close-acts : (m : ℕ) (held : Held) → acts_by x.call ≡ Some m → handle_of s.opens k m ≡ Some held
          → held.pid ≡ pid_at 0
      close-acts = kept-of.close-acts Reached n k o t s g files e legal bytes x own next has follow at some same to l

      abbrev behind-at : (q : ℕ) → q < length v.traced → q + 1 < length t.traced
      behind-at = kept-of.behind-at Reached n k o t s g files e legal bytes x own next has follow at some same to l

      abbrev there-is : (q : ℕ) → traced_at v q ≡ traced_at t (q + 1)
      there-is = kept-of.there-is Reached n k o t s g files e legal bytes x own next has follow at some same to l

      abbrev on-t : (q : ℕ) → (traced_at v q).attached ≡ true → (traced_at t (q + 1)).attached ≡ true
      on-t = kept-of.on-t Reached n k o t s g files e legal bytes x own next has follow at some same to l

    abbrev look-same : IsAt t ReadingLwps Nothing → a.state.system ≡ s.system
    look-same = kept-of.look-same Reached n k o t s g files e legal bytes x own next has follow

    abbrev text-same : (l : LwpStatus) (from len : ℕ) → IsAt t (ReadingText 0 l from len) Nothing
        → a.state.system ≡ s.system
    text-same = kept-of.text-same Reached n k o t s g files e legal bytes x own next has follow

    abbrev lose-same : (u : Traced) → IsAt t (Closing 0 GoOn) Nothing → 0 < length t.traced
        → without_last (traced_at t 0) ≡ Some u → a.state.system ≡ s.system
    lose-same = kept-of.lose-same Reached n k o t s g files e legal bytes x own next has follow

    abbrev patch-acts : (clear : Bool) → IsAt t (Closing 0 GoOn) (Patching 0 no_functions (marks_at t 0).planted clear)
        → acts_by x.call ≡ Some (traced_at t 0).control
    patch-acts = kept-of.patch-acts Reached n k o t s g files e legal bytes x own next has follow

    abbrev behind-it : LeavesOn t x.reply g.at v
    behind-it = kept-of.behind-it Reached n k o t s g files e legal bytes x own next has follow

    -- ---- a process that truss has not looked at

    -- where truss had it before the call, and what was so of it
    pub record Behind (i : ℕ) : Type 0 where
      pub q : ℕ
      pub within : q < length t.traced
      pub pid : (traced_at v i).pid ≡ (traced_at t q).pid
      pub attached : (traced_at t q).attached ≡ true
      pub unlooked : IsUnlooked t.stage q
      pub old : (traced_at v i).old ≡ (traced_at t q).old
      pub marks : marks_at v i ≡ marks_at t q
      pub was : (p' : TracedProcess) → live_process a.state.system (traced_at t q).pid ≡ Some p'
          → (p : TracedProcess) × ((live_process s.system (traced_at t q).pid ≡ Some p) × Moved p p')

    behind-shared : Shares t v → (i : ℕ) → i < length v.traced → (traced_at v i).attached ≡ true → i ≢ 0
        → IsUnlooked t.stage i → ((p' : TracedProcess) → Now i p' → Was Moved i p') → Behind i
    behind-shared shares i within attached other unlooked was = record {
      q = i;
      within = subst (λ m. i < m) shares.many within;
      pid = shares.pids i;
      attached = sym (shares.attached i) ∙ attached;
      unlooked = unlooked;
      old = shares.olds i other;
      marks = shares.marks i other;
      was = was;
    }

    pub behind : (i : ℕ) → i < length v.traced → (traced_at v i).attached ≡ true → IsUnlooked v.stage i → Behind i
    behind i within attached unlooked = by (let l = behind-it in l.went)
      where
        by : {w : IsLeft t} → Went t x.reply v w → Behind i
        by (halted step at some same to) =
            let here = here-is step at some same to behind-it i in
            let on_t = ap (λ (u : Traced). u.attached) (sym here) ∙ attached in
            record {
              q = i;
              within = within-t step at some same to behind-it i within;
              pid = ap (λ (u : Traced). u.pid) here;
              attached = on_t;
              unlooked = step-unlooked step at i;
              old = ap (λ (u : Traced). u.old) here;
              marks = ap (λ (u : Traced). u.marks) here;
              was = moved-was step at some same to behind-it i (within-t step at some same to behind-it i within) on_t;
            }
        by (looked at some look f _) =
            behind-shared f.shares i within attached (unlooked f.looked_at) (not-yet ReadingLwps at.0 refl i)
            (same-was (look-same at) i)
        by (has_read l_read from len at some f _) =
            behind-shared f.shares i within attached (unlooked f.looked_at) (already i (unlooked f.looked_at))
            (same-was (text-same l_read from len at) i)
        by (patched clear at some f _) =
            let shares = f.shares in
            behind-shared shares i within attached (unlooked f.looked_at) (already i (unlooked f.looked_at))
            (others-was (control-acts some (patch-acts clear at)) some i (subst (λ m. i < m) shares.many within)
            (unlooked f.looked_at))
        by (loses u at some is f _) =
            behind-shared f.shares i within attached (unlooked f.looked_at) (already i (unlooked f.looked_at))
            (same-was (lose-same u at some is) i)
        by (ended at some none same to) =
            let here = there-is at some same to behind-it i in
            record {
              q = i + 1;
              within = behind-at at some same to behind-it i within;
              pid = ap (λ (u : Traced). u.pid) here;
              attached = on-t at some same to behind-it i attached;
              unlooked = already (i + 1) (λ zero_i. absurd (omega (arith, zero_i)));
              old = ap (λ (u : Traced). u.old) here;
              marks = ap (λ (u : Traced). u.marks) here;
              was = others-was (close-acts at some same to behind-it) some (i + 1)
                  (behind-at at some same to behind-it i within) (λ zero_i. absurd (omega (arith, zero_i)));
            }

    -- where truss has it behind the call, if it lives
    pub record Ahead (q : ℕ) : Type 0 where
      pub i : ℕ
      pub within : i < length v.traced
      pub pid : (traced_at v i).pid ≡ (traced_at t q).pid
      pub attached : (traced_at v i).attached ≡ true
      pub unlooked : IsUnlooked v.stage i
      pub old : (traced_at v i).old ≡ (traced_at t q).old
      pub marks : marks_at v i ≡ marks_at t q

    ahead-shared : Shares t v → (q : ℕ) → q < length t.traced → (traced_at t q).attached ≡ true → q ≢ 0 → Ahead q
    ahead-shared shares q within attached other = record {
      i = q;
      within = subst (λ m. q < m) (sym shares.many) within;
      pid = shares.pids q;
      attached = shares.attached q ∙ attached;
      unlooked = λ looked_so. other;
      old = shares.olds q other;
      marks = shares.marks q other;
    }

    pub ahead : (q : ℕ) → q < length t.traced → (traced_at t q).attached ≡ true → IsUnlooked t.stage q
        → (IsAt t ReadingLwps Nothing → q ≢ 0) → (p' : TracedProcess)
        → live_process a.state.system (traced_at t q).pid ≡ Some p' → Ahead q
    ahead q within attached unlooked not_read p' later = by (let l = behind-it in l.went)
      where
        by : {w : IsLeft t} → Went t x.reply v w → Ahead q
        by (halted step at some same to) =
            let here = here-is step at some same to behind-it q in
            record {
              i = q;
              within = subst (λ (ts : List Traced). q < length ts) (sym same) within;
              pid = ap (λ (u : Traced). u.pid) here;
              attached = ap (λ (u : Traced). u.attached) here ∙ attached;
              unlooked = elim (cases_eq q 0) [
                | inl zero_q ↦
                    let w =
                    own-step step at some same to behind-it (subst (λ i. (traced_at t i).attached ≡ true) zero_q
                    attached)
                    p' (subst (λ i. Now i p') zero_q later) in
                    λ looked_so. absurd (false≢true (sym (next-unlooked v (halt_next step x.reply (answer_of x.reply))
                    p'
                    to w.1.1.1) ∙ looked_so))
                | inr other ↦ (λ looked_so. other)
              ];
              old = ap (λ (u : Traced). u.old) here;
              marks = ap (λ (u : Traced). u.marks) here;
            }
        by (looked at some look f _) = ahead-shared f.shares q within attached (not_read at)
        by (has_read l_read from len at some f _) =
            ahead-shared f.shares q within attached (unlooked (ap is_looked at.0))
        by (patched clear at some f _) = ahead-shared f.shares q within attached (unlooked (ap is_looked at.0))
        by (loses u at some is f _) = ahead-shared f.shares q within attached (unlooked (ap is_looked at.0))
        by (ended at some none same to) = from q within attached (unlooked (ap is_looked at.0))
          where
            from : (q : ℕ) → q < length t.traced → (traced_at t q).attached ≡ true → q ≢ 0 → Ahead q
            from zero within attached other = absurd (other refl)
            from (suc i) within attached other =
                let here : traced_at v i ≡ traced_at t (suc i) =
                there-is at some same to behind-it i ∙ ap (traced_at t) (omega arith) in
                let on_v = ap (λ (u : Traced). u.attached) here ∙ attached in
                let inside : i < length v.traced =
                subst (λ (ts : List Traced). i < length ts) (sym same)
                (omega (arith, within, length-remove t.traced 0 some)) in
                record {
                  i = i;
                  within = inside;
                  pid = ap (λ (u : Traced). u.pid) here;
                  attached = on_v;
                  unlooked = next-left-unlooked v to i inside on_v;
                  old = ap (λ (u : Traced). u.old) here;
                  marks = ap (λ (u : Traced). u.marks) here;
                }

    -- it lives on, or SIGKILL ends it
    pub data Fate (q : ℕ) : Type 0 where
      lives_on : (p' : TracedProcess) → live_process a.state.system (traced_at t q).pid ≡ Some p' → Fate q
      is_killed : (z : TracedProcess) → live_process a.state.system (traced_at t q).pid ≡ None
          → process_of a.state.system (traced_at t q).pid ≡ Some z → z.ended ≡ Some (signal_number Kill) → Fate q

    same-fate : a.state.system ≡ s.system → (q : ℕ) (p : TracedProcess)
        → live_process s.system (traced_at t q).pid ≡ Some p → Fate q
    same-fate same q p live = lives_on p (ap (λ (u : TracedSystem). live_process u (pid_at q)) same ∙ live)

    others-fate : ((m : ℕ) (held : Held) → acts_by x.call ≡ Some m → handle_of s.opens k m ≡ Some held
        → held.pid ≡ pid_at 0) → 0 < length t.traced → (q : ℕ) → q < length t.traced → q ≢ 0 → (p : TracedProcess)
        → live_process s.system (traced_at t q).pid ≡ Some p → Fate q
    others-fate first_acts some q within other p live =
        let its = control-at q within in
        let made = control-made k (pid_at q) (traced_at t q).control s g.lawful its in
        let sole = control-sole k (pid_at q) (traced_at t q).control s g.lawful its in
        by (own-call-elsewhere s k (pid_at q) x.call a p g.lawful
        (λ m h named there same.
        its-apart k t s files q 0 within some other
        (sym same ∙ first_acts m h (stretch.named-acts n k (pid_at q) 0 (traced_at t q).control s g.lawful sole made
        x.call m named) there)) own.is live)
      where
        by : Outlasts (pid_at q) p a.state.system → Fate q
        by (outlast.lives r now alone_so) = lives_on r now
        by (outlast.killed z gone left status) = is_killed z gone left status

    pub fate : (q : ℕ) → q < length t.traced → IsUnlooked t.stage q → (p : TracedProcess)
        → live_process s.system (traced_at t q).pid ≡ Some p → Fate q
    fate q within unlooked p live = by (let l = behind-it in l.went)
      where
        by : {w : IsLeft t} → Went t x.reply v w → Fate q
        by (halted step at some same to) = elim (cases_eq q 0) [
          | inl zero_q ↦
              let w =
              step-lives k s g.lawful (pid_at 0) (traced_at t 0).control (control-at 0 some) a p
              (subst (λ i. live_process s.system (pid_at i) ≡ Some p) zero_q live) step (traced_at t 0) refl
              (ap (answer_to s k) (sym (step-call step at)) ∙ own.is) in
              subst Fate (sym zero_q) (lives_on w.0 w.1)
          | inr other ↦ others-fate (step-acts step (step-call step at) some) some q within other p live
        ]
        by (looked at some look f _) = same-fate (look-same at) q p live
        by (has_read l_read from len at some f _) = same-fate (text-same l_read from len at) q p live
        by (patched clear at some f _) =
            others-fate (control-acts some (patch-acts clear at)) some q within (unlooked (ap is_looked at.0)) p live
        by (loses u at some is f _) = same-fate (lose-same u at some is) q p live
        by (ended at some none same to) =
            others-fate (close-acts at some same to behind-it) some q within (unlooked (ap is_looked at.0)) p live
