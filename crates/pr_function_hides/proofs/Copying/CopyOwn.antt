use Rattle.std.proofs.Common.{◌≡◌, ◌≢◌, ◌<◌, ℕ, true, false, Some, None, List, length, sym, ap, ◌∙◌}
use Rattle.std.proofs.lemmas.Option.{none-some, same_Some}
use Rattle.pr_line.specs.declared.options.Options.{Options}
use Rattle.pr_model.specs.Calls.{Answer, answer_to}
use Rattle.pr_model.specs.Handles.{handle_of}
use Rattle.pr_model.specs.State.{TracedProcess, TracedState, TracedSystem, live_process}
use Rattle.pr_model.specs.declared.calls.Call.{Call}
use Rattle.pr_model.specs.declared.calls.Call.TheVariants as call
use Rattle.pr_model.specs.declared.calls.File.{File}
use Rattle.pr_model.specs.declared.calls.File.TheVariants as file
use Rattle.pr_model.specs.declared.calls.Mode.{Mode}
use Rattle.pr_model.specs.declared.calls.Mode.TheVariants.{WriteExcl}
use Rattle.pr_model.specs.declared.handles.Held.{Held}
use Rattle.pr_report_laws.proofs.Invariant.StandLemmas.{Each, EachBut}
use Rattle.pr_truss.specs.Marks.{has_functions}
use Rattle.pr_truss.specs.Replies.{answer_of}
use Rattle.pr_truss.specs.Trusses.{TrussState, traced_at}
use Rattle.pr_truss.specs.declared.replies.Answer.TheVariants.{Accepted, Gone, Interrupted}
use Rattle.pr_truss.specs.declared.stages.OpeningStep.TheVariants.{AwaitStop}
use Rattle.pr_truss.specs.declared.stages.Stage.TheVariants.{Opening}
use Rattle.pr_truss_laws.proofs.Files.HeldLemmas.{at_place}
use Rattle.pr_truss_laws.proofs.Files.OpensLemmas.{held_by}
use Rattle.pr_truss.specs.declared.processes.Traced.{Traced}
use Rattle.pr_truss_laws.specs.Stills.{IsUndisturbed}
use Rattle.pr_function_laws.proofs.Marks.KeptPlaces.{Apart, apart-at}
use Rattle.pr_function_laws.proofs.OpenedProcesses.OpenedLaws.{Goes}
use Rattle.pr_function_laws.proofs.OpenedProcesses.StoodCalls.{BeginLeavingLwps, KeepsLwps}
use Rattle.pr_function_laws.specs.Lifted.{HasControl}
use Rattle.pr_function_laws.specs.Stretches.{acts_by}
use Rattle.pr_function_hides.proofs.Replies.ClosingWalk.{called_at}
use Rattle.pr_function_hides.proofs.Copying.CopyActs.{elsewhere-alone, lived, refused-same, sent-lwps}
use Rattle.pr_function_hides.proofs.Copying.CopyFeeds.{IsRestedSo, rests-of}
use Rattle.pr_function_hides.proofs.Copying.CopyForeign.{control-at}
use Rattle.pr_function_hides.proofs.StoppedCopies.CopyOuts.{HaveNoCopyBegun}
use Rattle.pr_function_hides.proofs.Copying.CopyPlaces.{CopiesSo, StandingSo, is_about, rests-alone}

-- A call of truss, and what it leaves of the processes that it is not about.

-- A call of truss along its history, and its answer, which is no interrupt. Where it is told that a process is gone, it
-- has ended; and where its wait for one that it opens is granted, no lwp of that is at a fork, a vfork or an exec.
pub record OwnCall (n k : ℕ) (o : Options) (t : TrussState) (s : TracedState) (c : Call) (a : Answer) : Type 0 where
  pub goes : Goes (Unit {0}) k o t s
  pub copies : CopiesSo t s.system
  pub given : answer_to s k c ≡ Some a
  pub over : (pid : ℕ) → pid < s.system.made → live_process s.system pid ≡ None
      → live_process a.state.system pid ≡ None
  pub has : has_functions t.options ≡ true
  pub calm : answer_of a.reply ≢ Interrupted
  pub gone : answer_of a.reply ≡ Gone → (q : ℕ) → called_at t.stage t.aside ≡ Some q
      → live_process s.system (traced_at t q).pid ≡ None
  pub out : (place until : ℕ) (p : TracedProcess) → t.stage ≡ Opening place (AwaitStop until)
      → answer_of a.reply ≡ Accepted → live_process s.system (traced_at t place).pid ≡ Some p → HaveNoCopyBegun p

-- a call that acts by a file of the process at a place acts on no file of another one
pub acts-apart : (k : ℕ) (s : TracedState) (c : Call) (ts : List Traced) → Apart ts → (q : ℕ) → q < length ts → (m : ℕ)
    (f : File) (mode : Mode) → acts_by c ≡ Some m
    → handle_of s.opens k m ≡ Some (held_by k (at_place ts q).pid 0 f mode) → (place : ℕ) → place < length ts
    → place ≢ q → (j : ℕ) (held : Held) → acts_by c ≡ Some j
    → handle_of s.opens k j ≡ Some held → held.pid ≢ (at_place ts place).pid
acts-apart k s c ts apart q within m f mode acts there place inside other j held its at same =
    let one : m ≡ j = same_Some m j (sym acts ∙ its) in
    let own : (at_place ts q).pid ≡ held.pid =
    ap (λ (x : Held). x.pid)
    (same_Some (held_by k (at_place ts q).pid 0 f mode) held (sym there ∙ ap (handle_of s.opens k) one ∙ at)) in
    apart-at ts place q inside within other apart (sym same ∙ sym own)

module _ {n k : ℕ} {o : Options} {t : TrussState} {s : TracedState} {c : Call} {a : Answer}
    (w : OwnCall n k o t s c a) where
  abbrev pub later : TracedSystem
  later = let b : Answer = a in b.state.system

  pub is-off : t.leaving ≡ false
  is-off = let g = w.goes in let m = g.kept in m.off

  pub is-unfollowed : t.options.follow ≡ false
  is-unfollowed = let g = w.goes in let m = g.kept in m.follow

  pub has-control : (place : ℕ) → place < length t.traced
      → HasControl k (traced_at t place).pid (traced_at t place).control s
  has-control place within = control-at n k o t s w.goes place within

  -- a process that lives later stood so before
  pub stood-there : (place : ℕ) → place < length t.traced → (q : TracedProcess)
      → live_process later (traced_at t place).pid ≡ Some q
      → (p : TracedProcess) × ((live_process s.system (traced_at t place).pid ≡ Some p) × StandingSo t place p)
  stood-there place within q now =
      let g = w.goes in
      let was =
      lived n k s g.lawful c a w.given w.over (traced_at t place).pid (traced_at t place).control
      (has-control place within) q now in
      let cs = w.copies in (was.0, (was.1, cs.each place within was.0 was.1))

  -- ---- processes that the call leaves alone

  -- the call acts on no file of the process at a place
  abbrev pub IsAway : ℕ → Type 0
  IsAway place =
      (m : ℕ) (held : Held) → acts_by c ≡ Some m → handle_of s.opens k m ≡ Some held
      → held.pid ≢ (traced_at t place).pid

  pub quiet-away : acts_by c ≡ None → (place : ℕ) → IsAway place
  quiet-away none place m held acts there = absurd (none-some m (sym none ∙ acts))

  pub apart-away : (q : ℕ) → q < length t.traced → (m : ℕ) (f : File) (mode : Mode) → acts_by c ≡ Some m
      → handle_of s.opens k m ≡ Some (held_by k (traced_at t q).pid 0 f mode) → (place : ℕ)
      → place < length t.traced → place ≢ q → IsAway place
  apart-away q within m f mode acts there place inside other =
      acts-apart k s c t.traced (let g = w.goes in let x = g.kept in x.apart) q within m f mode acts there place inside
      other

  pub left-alone : (place : ℕ) → place < length t.traced → IsAway place → (q : TracedProcess)
      → live_process later (traced_at t place).pid ≡ Some q
      → (p : TracedProcess) × ((live_process s.system (traced_at t place).pid ≡ Some p) × IsUndisturbed p q)
  left-alone place within away q now =
      let g = w.goes in
      elsewhere-alone n k s g.lawful c a w.given w.over (traced_at t place).pid (traced_at t place).control
      (has-control place within) o away q now

  -- those that truss neither opens nor closes nor runs soon stand as they did
  pub rested : (place : ℕ) → place < length t.traced → is_about t.stage place ≡ false → IsAway place
      → IsRestedSo later (traced_at t place)
  rested place within rest away =
      let cs = w.copies in
      record {
        clean = cs.clean place within;
        stands = λ q now.
            let was = left-alone place within away q now in
            rests-alone was.0 q was.1.1 (traced_at t place)
            (rests-of t place was.0 rest (cs.each place within was.0 was.1.0));
      }

  pub all-rested : ((place : ℕ) → is_about t.stage place ≡ false) → acts_by c ≡ None
      → Each (IsRestedSo later) t.traced
  all-rested rest none place within = rested place within (rest place) (quiet-away none place)

  pub others-rested : (q : ℕ) → ((place : ℕ) → place ≢ q → is_about t.stage place ≡ false)
      → ((place : ℕ) → place < length t.traced → place ≢ q → IsAway place) → EachBut (IsRestedSo later) t.traced q
  others-rested q rest away place within other =
      rested place within (rest place other) (away place within other)

  -- where the call acts by the control file of the process at a place
  pub control-away : (q : ℕ) → q < length t.traced → acts_by c ≡ Some (traced_at t q).control → (place : ℕ)
      → place < length t.traced → place ≢ q → IsAway place
  control-away q within acts =
      apart-away q within (traced_at t q).control file.Ctl WriteExcl acts (has-control q within)

  -- ---- a message that leaves the lwps

  pub same-lwps : (q : ℕ) → q < length t.traced → (bytes : List ℕ) → c ≡ call.Ctl (traced_at t q).control bytes
      → BeginLeavingLwps bytes → (x : TracedProcess) → live_process later (traced_at t q).pid ≡ Some x
      → (p : TracedProcess) × ((live_process s.system (traced_at t q).pid ≡ Some p) × KeepsLwps p x)
  same-lwps q within bytes is begins x now =
      let g = w.goes in
      sent-lwps n k s g.lawful c a w.given w.over o (traced_at t q) (has-control q within) bytes is begins x now

  -- ---- a call that is refused

  pub same-state : answer_of a.reply ≢ Accepted → a.state ≡ s
  same-state other =
      let g = w.goes in refused-same n k s g.lawful c a w.given w.over other w.calm

  -- the process has ended, of which it is told that it is gone
  pub ended-now : {A : Type 0} → answer_of a.reply ≡ Gone → (q : ℕ) → called_at t.stage t.aside ≡ Some q
      → (x : TracedProcess) → live_process later (traced_at t q).pid ≡ Some x → A
  ended-now told q here x now =
      let same : a.state ≡ s = same-state (λ accepted. apart (sym told ∙ accepted)) in
      absurd (none-some x
      (sym (w.gone told q here) ∙ ap (λ (u : TracedState). live_process u.system (traced_at t q).pid) (sym same)
      ∙ now))
    where
      apart : Gone ≡ Accepted → ⊥
      apart e = cc
