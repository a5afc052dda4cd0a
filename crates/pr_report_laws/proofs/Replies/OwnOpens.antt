use Rattle.std.proofs.Common.{◌≡◌, ◌≢◌, ◌<◌, ℕ, true, false, None, Some, Option, List, is_none, length, refl, sym, subst, ap, ◌∙◌, inl, inr, ◌⊎◌}
use Rattle.std.proofs.lemmas.Bool.{eqb-true, false≢true}
use Rattle.std.proofs.lemmas.Option.{same_Some}
use Rattle.std.specs.List.{position}
use Rattle.pr_line.specs.declared.options.Options.{Options}
use Rattle.pr_model.specs.Calls.{Answer, answer_to, open_answer, open_unless, opened}
use Rattle.pr_model.specs.Handles.{handle_of, open_refusal, with_opened}
use Rattle.pr_model.specs.State.{TracedProcess, TracedState, TracedSystem, live_process}
use Rattle.pr_model.specs.declared.calls.Call.{Call}
use Rattle.pr_model.specs.declared.calls.Call.TheVariants as call
use Rattle.pr_model.specs.declared.calls.File.{File}
use Rattle.pr_model.specs.declared.calls.File.TheVariants.{Ctl}
use Rattle.pr_model.specs.declared.calls.Mode.{Mode}
use Rattle.pr_model.specs.declared.calls.Mode.TheVariants.{WriteExcl}
use Rattle.pr_model.specs.declared.calls.Reply.TheVariants as reply
use Rattle.pr_model.specs.declared.handles.Held.{Held}
use Rattle.pr_num.specs.declared.errnos.Errno.{Errno}
use Rattle.pr_truss.specs.Feeding.{fed}
use Rattle.pr_truss.specs.NextCalls.{call_of, open_control, opening_call}
use Rattle.pr_truss.specs.Replies.{answer_of}
use Rattle.pr_truss.specs.Trusses.{TrussState, traced_at}
use Rattle.pr_truss.specs.declared.processes.Traced.{Traced}
use Rattle.pr_truss.specs.declared.replies.Answer.TheVariants.{Accepted}
use Rattle.pr_truss.specs.declared.stages.OpeningStep.{OpeningStep}
use Rattle.pr_truss.specs.declared.stages.OpeningStep.TheVariants as opening
use Rattle.pr_truss.specs.declared.stages.Stage.{Stage}
use Rattle.pr_truss.specs.declared.stages.Stage.TheVariants.{Spawning, OpeningControl, Opening, OpeningChildControl}
use Rattle.pr_truss_laws.proofs.Machine.ForeignLemmas.{names}
use Rattle.pr_truss_laws.proofs.Files.HeldLemmas.{Fits}
use Rattle.pr_truss_laws.proofs.Files.OpensLemmas.{held_by, open-opens}
use Rattle.pr_report_laws.proofs.Invariant.Tallies.{Tally}
use Rattle.pr_report_laws.proofs.Invariant.ChildSteps.{opening-child-stands}
use Rattle.pr_report_laws.proofs.Machine.ControlLaws.{refusal-not}
use Rattle.pr_report_laws.proofs.Invariant.EntrySteps.{Lost}
use Rattle.pr_report_laws.proofs.Replies.OpeningCalls.{control-goes, opening-goes, spawning-goes}
use Rattle.pr_report_laws.proofs.Invariant.OpeningSteps.{Stood}
use Rattle.pr_report_laws.proofs.Replies.Orderly.{IsOrderly}
use Rattle.pr_report_laws.proofs.Invariant.OwnCalls.{Leaves, Misses}
use Rattle.pr_report_laws.proofs.Replies.OwnLooks.{Comes, IsCall, answer-is, call-is, call-order, missed, order-later, plain-missed, stood-before}
use Rattle.pr_report_laws.proofs.Machine.PollLaws.{never-interrupted}
use Rattle.pr_report_laws.proofs.Invariant.Standing.{Prepares, Standing}
use Rattle.pr_report_laws.proofs.Invariant.Positions.{IsAtBirth}

-- What truss makes of the replies to the calls with which it opens its processes.

-- ---- an open

open-leaves : (s : TracedState) (h : Held) (refusal : Option Errno) → (open_unless s h refusal).state.system ≡ s.system
unfolding with_opened
open-leaves s h (Some e) = refl
open-leaves s h None = by (position is_none s.opens)
  where
    by : (place : Option ℕ) → (opened s h place).state.system ≡ s.system
    by None = refl
    by (Some place) = refl

-- an open leaves the processes as they are
pub open-stays : (s : TracedState) (by pid id : ℕ) (f : File) (mode : Mode) (a : Answer)
    → answer_to s by (call.Open pid id f mode) ≡ Some a → a.state.system ≡ s.system
unfolding answer_to open_answer
open-stays s by pid id f mode a is =
    ap (λ (x : Answer). x.state.system) (sym (same_Some _ a is))
    ∙ open-leaves s (held_by by pid id f mode) (open_refusal s pid id f mode)

-- an open that was granted is replied with its handle
pub granted-handle : (s : TracedState) (by pid id : ℕ) (f : File) (mode : Mode) (a : Answer)
    → answer_to s by (call.Open pid id f mode) ≡ Some a → answer_of a.reply ≡ Accepted
    → (handle : ℕ) × (a.reply ≡ reply.Handle handle)
granted-handle s by pid id f mode a is accepted = elim (open-opens s by pid id f mode a is) [
  | inl ref ↦ absurd (refusal-not ref.errno (ap answer_of (sym ref.reply) ∙ accepted))
  | inr new ↦ (new.place, new.reply)
]

-- ---- the step of an opening

-- the call of a step names no handle but the control handle of the process
pub step-names : (o : Options) (x : Traced) (step : OpeningStep) (m : ℕ) → names (opening_call o x step) m ≡ true
    → x.control ≡ m
unfolding opening_call
step-names o x opening.OpenStatus m is = absurd (false≢true is)
step-names o x opening.OpenLstatus m is = absurd (false≢true is)
step-names o x opening.OpenMemory m is = absurd (false≢true is)
step-names o x opening.ClearModes m is = eqb-true x.control m is
step-names o x opening.SetRelease m is = eqb-true x.control m is
step-names o x opening.Stop m is = eqb-true x.control m is
step-names o x (opening.AwaitStop until) m is = absurd (false≢true is)
step-names o x opening.ReadLwps m is = absurd (false≢true is)
step-names o x _ m is = eqb-true x.control m is

module _ (k : ℕ) (o : Options) (pid : ℕ) (t : TrussState) (s : TracedState) (c : Call) (a : Answer)
    (i : IsCall k o pid t s c a) (K Ends : Type 0) (leaves : Leaves Ends pid t s a.state) (tally : Tally)
    (standing : Standing (Lost K pid s) o pid t s tally) where
  abbrev Why : Type 0
  Why = Lost (K ⊎ Ends) pid a.state

  later : IsOrderly (fed t a.reply)
  later = order-later k o pid t s c a i K Ends leaves tally standing

  -- the call of a stage is this one
  is-call : (stage : Stage) (d : Call) → t.stage ≡ stage → call_of t stage ≡ Some d → c ≡ d
  is-call = call-is k o pid t s c a i K Ends leaves tally standing

  -- a call that names no handle leaves the process
  unnamed : (d : Call) → c ≡ d → ((m : ℕ) → names d m ≡ false) → Standing Why o pid t a.state tally
  unnamed = plain-missed k o pid t s c a i K Ends leaves tally standing

  -- ---- the process of the program

  pub spawning-comes : (program : List ℕ) → t.stage ≡ Spawning program → Comes Why o pid (fed t a.reply) a.state tally
  unfolding call_of
  spawning-comes program at =
      let same = is-call (Spawning program) (call.Spawn program true) at refl in
      let went =
      spawning-goes Why o pid t s tally k c a i.next i.answer i.owns i.files later program at
      (unnamed (call.Spawn program true) same (λ m. refl)) in
      record { standing = went.0; prepares = went.1 }

  -- ---- the control file of a process

  pub control-comes : (of : ℕ) → t.stage ≡ OpeningControl of → Comes Why o pid (fed t a.reply) a.state tally
  unfolding call_of
  control-comes of at =
      let same = is-call (OpeningControl of) (open_control of) at refl in
      let went =
      control-goes Why o pid t s tally k c a i.next i.answer i.owns i.files later of at
      (unnamed (open_control of) same (λ m. refl)) in
      record { standing = went.0; prepares = went.1 }

  -- ---- a step of an opening

  module _ (place : ℕ) (step : OpeningStep) (at : t.stage ≡ Opening place step) where
    step-is : c ≡ opening_call t.options (traced_at t place) step
    unfolding call_of
    step-is = is-call (Opening place step) (opening_call t.options (traced_at t place) step) at refl

    within : place < length t.traced
    within = let f : Fits t.traced (Opening place step) = subst (Fits t.traced) at i.owns.fits in f.0

    -- a step of another process names no handle of this one
    step-misses : (traced_at t place).pid ≢ pid → Misses k pid s c
    step-misses differs = record {
      each = λ m g named held own.
          let f = i.files.control place within in
          let is : (traced_at t place).control ≡ m =
          step-names t.options (traced_at t place) step m (ap (λ x. names x m) (sym step-is) ∙ named) in
          let same : held_by k (traced_at t place).pid 0 Ctl WriteExcl ≡ g =
          same_Some _ g (sym f.is ∙ ap (handle_of s.opens k) is ∙ held) in
          differs (ap (λ (h : Held). h.pid) same ∙ own);
    }

    step-stood : Stood Why o pid t s a.state tally place
    step-stood = record {
      own = λ own. stood-before k o pid t s c a i K Ends leaves tally standing;
      other = λ differs. missed k o pid t s c a i K Ends leaves tally standing (step-misses differs);
    }

    pub opening-comes : Prepares o pid t s → Comes Why o pid (fed t a.reply) a.state tally
    opening-comes prepares =
        let went =
        opening-goes Why o pid t s tally k c a i.next i.answer i.owns i.files later place step at i.lawful i.fit
        i.options i.reads.lwps (λ why. why.over) prepares step-stood in
        record { standing = went.0; prepares = went.1 }

  -- ---- the control file of a child

  pub opening-child-control-comes : (parent of : ℕ) → t.stage ≡ OpeningChildControl parent of
      → ((handle : ℕ)
      (p : TracedProcess) → of ≡ pid → a.reply ≡ reply.Handle handle → live_process s.system pid ≡ Some p
      → IsAtBirth o p)
      → Comes Why o pid (fed t a.reply) a.state tally
  unfolding call_of
  opening-child-control-comes parent of at birth =
      let same = is-call (OpeningChildControl parent of) (open_control of) at refl in
      let answer : answer_to s k (open_control of) ≡ Some a =
      answer-is k o pid t s c a i K Ends leaves tally standing (open_control of) same in
      let system : a.state.system ≡ s.system = open-stays s k of 0 Ctl WriteExcl a answer in
      let went =
      opening-child-stands Why o pid t a.reply a.state tally parent of at
      (never-interrupted s k (open_control of) a refl answer)
      (λ accepted own p live. let handle = granted-handle s k of 0 Ctl WriteExcl a answer accepted in birth handle.0 p
      own handle.1 (ap (λ (x : TracedSystem). live_process x pid) (sym system) ∙ live))
      (call-order k o pid t s c a i K Ends leaves tally standing) later (unnamed (open_control of) same (λ m. refl)) in
      record { standing = went.0; prepares = went.1 }
