use Rattle.std.proofs.Common.{cond, ◌≡◌, ◌≢◌, ◌<◌, ℕ, true, Some, None, List, length, refl, sym, subst, ap, ◌∙◌, inl, inr}
use Rattle.std.proofs.lemmas.Option.{none-some, same_Some}
use Rattle.pr_line.specs.declared.options.Options.{Options}
use Rattle.pr_model.specs.Calls.{Answer, answer_to}
use Rattle.pr_lawful.proofs.ProcessParts.HandleLemmas.{handle-at, handle-writer}
use Rattle.pr_model.specs.Handles.{handle_of, has_writer}
use Rattle.pr_model.specs.Lawful.{IsLawful}
use Rattle.pr_model.specs.State.{TracedProcess, TracedState, live_process}
use Rattle.pr_model.specs.declared.calls.Call.{Call}
use Rattle.pr_model.specs.declared.calls.Call.TheVariants as call
use Rattle.pr_model.specs.declared.calls.File.{File}
use Rattle.pr_model.specs.declared.calls.File.TheVariants as file
use Rattle.pr_model.specs.declared.calls.Mode.{Mode}
use Rattle.pr_model.specs.declared.calls.Mode.TheVariants.{WriteExcl}
use Rattle.pr_model.specs.declared.handles.Held.{Held}
use Rattle.pr_report_laws.proofs.Invariant.OtherSteps.{lives-later}
use Rattle.pr_report_laws.proofs.Releasing.ReleaseStays.{not-allowed}
use Rattle.pr_truss.specs.Replies.{answer_of}
use Rattle.pr_truss.specs.declared.replies.Answer.TheVariants.{Accepted}
use Rattle.pr_truss.specs.FunctionCalls.{call_beside, function_call_of, next_function_call_of}
use Rattle.pr_truss.specs.Marks.{first_function, has_functions}
use Rattle.pr_truss.specs.NextCalls.{call_of, next_call_of}
use Rattle.pr_truss.specs.Processes.{last_handle}
use Rattle.pr_truss.specs.Trusses.{TrussState}
use Rattle.pr_truss.specs.declared.asides.Aside.{Aside}
use Rattle.pr_truss.specs.declared.asides.Aside.TheVariants.{Nothing, Reading, Planting, Patching}
use Rattle.pr_truss.specs.declared.processes.Traced.{Traced}
use Rattle.pr_truss.specs.declared.stages.AfterClosing.TheVariants.{OpenNext, GoOn}
use Rattle.pr_truss.specs.declared.stages.Stage.{Stage}
use Rattle.pr_truss.specs.declared.stages.Stage.TheVariants.{Spawning, OpeningControl, Opening, Polling, ReadingStatus, ReadingText, Running, Closing, Finished}
use Rattle.pr_truss_laws.proofs.Files.HeldLemmas.{at_place}
use Rattle.pr_truss_laws.proofs.Files.OpensLemmas.{held_by}
use Rattle.pr_truss_laws.proofs.Machine.OutlastLemmas.{Outlasts, own-call-elsewhere}
use Rattle.pr_truss_laws.specs.Stills.{IsUndisturbed}
use Rattle.pr_function_laws.proofs.Marks.KeptPlaces.{AtAside, AtStage, Kept}
use Rattle.pr_function_laws.proofs.OpenedProcesses.OpenedCalls.{IsSo, acts_if, call-is, lowest, opened-acts, patch-mild}
use Rattle.pr_function_laws.proofs.OpenedProcesses.OpenedLemmas.{Holds, control-made, control-sole, elsewhere-goes, last-own, new-file}
use Rattle.pr_function_laws.proofs.Pending.PendingPlaces.{Pends}
use Rattle.pr_function_laws.proofs.Stepping.StretchLemmas as stretch
use Rattle.pr_function_laws.specs.Lifted.{HasControl}
use Rattle.pr_function_laws.specs.Stretches.{acts_by}

-- A call of truss leaves a process that it does not read, run or close as it was.

-- truss has its files of a process, and if it lives this is so of it
pub record IsPending (k : ℕ) (o : Options) (was : Traced) (H : TracedProcess → Type 0) (s : TracedState) : Type 0 where
  pub holds : Holds k o s None was.pid was.control was.status was.lstatus was.memory
  pub has : (q : TracedProcess) → live_process s.system was.pid ≡ Some q → H q

module _ (n k : ℕ) (s : TracedState) (lawful : IsLawful s) (c : Call) (a : Answer)
    (answer : answer_to s k c ≡ Some a)
    (over : (pid : ℕ) → pid < s.system.made → live_process s.system pid ≡ None
    → live_process a.state.system pid ≡ None) (t : TrussState) (kept : Kept (IsSo ⊥ k t.options s) t) (was : Traced)
    (pends : Kept (Pends was.pid was) t) (H : TracedProcess → Type 0)
    (stays : (p q : TracedProcess) → IsUndisturbed p q → H p → H q) (here : IsPending k t.options was H s) where
  abbrev o : Options
  o = t.options

  abbrev ts : List Traced
  ts = t.traced

  -- so it is afterwards, and the process outlasts the call
  abbrev Later : Type 0
  Later =
      IsPending k o was H a.state
      × ((p : TracedProcess) → live_process s.system was.pid ≡ Some p → Outlasts was.pid p a.state.system)

  its : HasControl k was.pid was.control s
  its = let h = here.holds in h.its

  made : was.pid < s.system.made
  made = control-made k was.pid was.control s lawful its

  -- it acts on another process, or on none
  elsewhere : ((m : ℕ) (held : Held) → acts_by c ≡ Some m → handle_of s.opens k m ≡ Some held → held.pid ≢ was.pid)
      → Later
  elsewhere away =
      let sole = control-sole k was.pid was.control s lawful its in
      let outlasts : (p : TracedProcess) → live_process s.system was.pid ≡ Some p → Outlasts was.pid p a.state.system =
      λ p live. own-call-elsewhere s k was.pid c a p lawful (λ m g named there.
      away m g (stretch.named-acts n k was.pid 0 was.control s lawful sole made c m named) there) answer live in (
        record {
          holds = elsewhere-goes n k o s lawful c a answer over was.pid away None _ _ _ _ here.holds;
          has = λ q later.
              let p = lives-later o was.pid t s a.state outlasts (over was.pid made) q later in
              stays p.0 q p.1.1 (here.has p.0 p.1.0);
        },
        outlasts,
      )

  quiet : acts_by c ≡ None → Later
  quiet none = elsewhere (λ m held acts there. absurd (none-some m (sym none ∙ acts)))

  -- it acts by a handle of another process
  apart : (pid m : ℕ) (f : File) (mode : Mode) → pid ≢ was.pid → acts_by c ≡ Some m
      → handle_of s.opens k m ≡ Some (held_by k pid 0 f mode) → Later
  apart pid m f mode other acts there =
      elsewhere (λ j held at named same.
      let one : m ≡ j = same_Some m j (sym acts ∙ at) in
      let own : pid ≡ held.pid =
      ap (λ (x : Held). x.pid)
      (same_Some (held_by k pid 0 f mode) held (sym there ∙ ap (handle_of s.opens k) one ∙ named)) in
      other (own ∙ same))

  -- the control file of the process at a place
  control-at : (q : ℕ) → q < length ts → HasControl k (at_place ts q).pid (at_place ts q).control s
  control-at q within =
      let w = kept in
      let low = lowest ⊥ k o s ts t.stage w.stage q within in
      let h = low.holds in h.its

  -- a message to another process
  sent-to : (q : ℕ) → q < length ts → (bytes : List ℕ) → c ≡ call.Ctl (at_place ts q).control bytes
      → (at_place ts q).pid ≢ was.pid → Later
  sent-to q within bytes is other =
      apart (at_place ts q).pid (at_place ts q).control file.Ctl WriteExcl other (ap acts_by is) (control-at q within)

  -- a file of another process is closed
  closed : (q : ℕ) → q < length ts → (at_place ts q).pid ≢ was.pid
      → c ≡ call.Close (last_handle (at_place ts q)) → Later
  closed q within other is =
      let w = kept in
      let low = lowest ⊥ k o s ts t.stage w.stage q within in
      let last = last-own n k o s lawful c a answer over (at_place ts q) low.holds in
      apart (at_place ts q).pid (last_handle (at_place ts q)) last.its_file last.its_mode other
      (ap acts_by is) last.there

  -- ---- the call of a stage

  stage-later : t.aside ≡ Nothing → (stage : Stage) → t.stage ≡ stage → AtStage (Pends was.pid was) ts stage
      → function_call_of t stage ≡ Some c → Later
  unfolding function_call_of call_of
  stage-later idle (Spawning program) at w is = quiet (ap acts_if (sym is))
  stage-later idle (OpeningControl pid) at w is = quiet (ap acts_if (sym is))
  stage-later idle (Opening q step) at w is =
      let sent = same_Some c _ (sym is ∙ call-is t q step) in
      elim (opened-acts o (at_place ts q) step) [
        | inl none ↦ quiet (ap acts_by sent ∙ none)
        | inr acts ↦ apart (at_place ts q).pid (at_place ts q).control file.Ctl WriteExcl w.1.1 (ap acts_by sent ∙ acts)
            (control-at q w.0)
      ]
  stage-later idle Polling at w is = quiet (ap acts_if (sym is))
  stage-later idle (ReadingStatus q) at w is = quiet (ap acts_if (sym is))
  stage-later idle (ReadingText q l from len) at w is = quiet (ap acts_if (sym is))
  stage-later idle (Running q) at w is =
      apart (at_place ts q).pid (at_place ts q).control file.Ctl WriteExcl w.1.1
      (ap acts_by (sym (same_Some _ c is))) (control-at q w.0)
  stage-later idle (Closing q OpenNext) at w is =
      closed q w.0 w.1.1 (sym (same_Some _ c is))
  stage-later idle (Closing q GoOn) at w is =
      closed q w.0 w.1.1 (sym (same_Some _ c is))
  stage-later idle Finished at w is = absurd (none-some c is)
  stage-later idle _ at w is = absurd w

  aside-later : (aside : Aside) → t.aside ≡ aside → AtStage (Pends was.pid was) ts t.stage
      → AtAside (Pends was.pid was) ts aside → call_beside t t.stage aside ≡ Some c → Later
  unfolding call_beside
  aside-later Nothing at w beside is = stage-later at t.stage refl w is
  aside-later (Reading q function) at w beside is =
      sent-to q beside.0 _ (sym (same_Some _ c is)) beside.1.1
  aside-later (Planting q function) at w beside is =
      sent-to q beside.0 _ (sym (same_Some _ c is)) beside.1.1
  aside-later (Patching q plants lifts clear) at w beside is =
      let sent =
      patch-mild ⊥ n k s lawful c a answer over t kept (λ none. absurd none) (at_place ts q).control
      (first_function plants) (first_function lifts) beside.1.0 c (same_Some _ c is) in
      sent-to q beside.0.0 sent.0 sent.1.0 beside.0.1.1
  aside-later _ at w beside is = absurd beside

  -- each call that comes next
  pub later-pending : has_functions t.options ≡ true → next_function_call_of t ≡ Some c → Later
  unfolding next_function_call_of
  later-pending has next =
      let w = pends in
      aside-later t.aside refl w.stage w.beside
      (sym (ap (λ b. cond b (call_beside t t.stage t.aside) (next_call_of t)) has) ∙ next)

  -- the control file that it opens is none of this process
  pub opens-other : (number : ℕ) → t.stage ≡ OpeningControl number → t.aside ≡ Nothing
      → has_functions t.options ≡ true → next_function_call_of t ≡ Some c → answer_of a.reply ≡ Accepted
      → number ≢ was.pid
  unfolding next_function_call_of call_beside function_call_of call_of
  opens-other number at idle has next accepted same =
      let is : function_call_of t (OpeningControl number) ≡ Some c =
      ap (function_call_of t) (sym at) ∙ ap (call_beside t t.stage) (sym idle)
      ∙ sym (ap (λ b. cond b (call_beside t t.stage t.aside) (next_call_of t)) has) ∙ next in
      let new =
      new-file n k o s lawful c a answer over number file.Ctl WriteExcl (sym (same_Some _ c is)) accepted in
      let opened = new.opened in
      not-allowed s number
      (subst (λ i. has_writer i s.opens ≡ true) (sym same)
      (handle-writer s.opens was.control (held_by k was.pid 0 file.Ctl WriteExcl) lawful.fitting
      (handle-at s.opens k was.control _ its) refl)) opened.allowed
