use Rattle.std.proofs.Common.{◌≡◌, ◌⊎◌, ℕ, true, false, Some, List, [], All, sym, ◌∙◌}
use Rattle.std.proofs.lemmas.Bool.{false≢true}
use Rattle.pr_hidden.specs.Covers.{Covers, Patch}
use Rattle.pr_hidden.specs.Hiders.{Hiders, covers_at, hides, is_ctl}
use Rattle.pr_model.specs.Handles.{handle_of}
use Rattle.pr_model.specs.Legal.{state_after}
use Rattle.pr_model.specs.State.{TracedProcess, TracedState, live_process}
use Rattle.pr_model.specs.declared.events.Entry.{Entry}
use Rattle.pr_model.specs.declared.handles.Held.{Held}
use Rattle.pr_report_laws.proofs.Invariant.StandLemmas.{Each}
use Rattle.pr_truss.specs.Trusses.{TrussState}
use Rattle.pr_truss.specs.declared.marks.Stepped.{Stepped}
use Rattle.pr_truss.specs.declared.processes.Traced.{Traced}
use Rattle.pr_world.specs.ControllerStates.{ControllerState}
use Rattle.pr_function_laws.proofs.Marks.SoundLemmas.{IsSound}
use Rattle.pr_function_hides.proofs.Files.FilesCalls.{Files, files-of}
use Rattle.pr_function_hides.proofs.Replies.FilesWalk.{AreApart}
use Rattle.pr_function_hides.proofs.Replies.LeavingStages.{IsLeft}
use Rattle.pr_function_hides.proofs.Replies.OwnFiles.{GoesOn, HasItsFiles}
use Rattle.pr_function_hides.proofs.Replies.PlantedReplies.{So}
use Rattle.pr_function_hides.proofs.Replies.RunFlags.{FlagsOf}
use Rattle.pr_function_hides.proofs.Memory.Unborrowed.{IsUnborrowed}
use Rattle.pr_function_hides.specs.FunctionHiders.{IsTrussAt, StandAsMarked}
use Rattle.pr_function_hides.specs.TidyWrites.{IsMappedIn, IsTrussAfter}

-- What is kept along a history of trusses that are undisturbed: what each of them has planted, what is hidden of whom,
-- that the memory is mapped in which breakpoints stand, and whether a truss leaves its processes.

-- a process lives
abbrev pub Lives : TracedState → ℕ → Type 0
Lives s pid = (p : TracedProcess) × (live_process s.system pid ≡ Some p)

-- the bytes of these breakpoints are mapped in a process
abbrev pub AreMappedIn : TracedProcess → List Patch → Type 0
AreMappedIn p ps = All (IsMappedIn p.space) ps

-- one who hides has the control file of a process open
pub record Holder (who : Hiders) (pid : ℕ) (s : TracedState) : Type 0 where
  pub k : ℕ
  pub hider : hides who k ≡ true
  pub number : ℕ
  pub held : Held
  pub there : handle_of s.opens k number ≡ Some held
  pub of : held.pid ≡ pid
  pub control : is_ctl held.file ≡ true

-- Truss does not leave its processes, and runs them with such flags; or it leaves them.
pub data Course (t : TrussState) : Type 0 where
  goes_on : GoesOn t → Each (So FlagsOf) t.traced → Course t
  leaves_them : t.leaving ≡ true → IsLeft t → Course t

module _ (who : Hiders) (controllers : List ControllerState) (first : TracedState) (h : List Entry) where
  abbrev at : List Entry → Covers
  at front = covers_at who first front

  abbrev now : List Entry → TracedState
  now front = state_after first front

  -- truss after some entries
  pub record Truss (front : List Entry) (k : ℕ) : Type 0 where
    pub it : IsTrussAt who controllers k
    pub t : TrussState
    pub is : IsTrussAfter who controllers first h front k t
    pub sound : IsSound it.options (λ (step : Stepped). Unit {0}) t
    pub stand : Each (λ (v : Traced). Lives (now front) v.pid
        → StandAsMarked t.options v.marks.planted (at front v.pid).patches) t.traced
    pub files : Each (Files k (now front)) t.traced
    pub apart : AreApart t.traced
    pub follow : t.options.follow ≡ false
    pub alone : Each (λ (v : Traced). IsUnborrowed v.pid (now front).system) t.traced
    pub course : Course t

  -- what is so after some entries
  pub record Kept (front : List Entry) : Type 0 where
    pub trusses : (k : ℕ) (hider : hides who k ≡ true) → Truss front k
    pub bare : (pid : ℕ) → ((at front pid).patches ≡ []) ⊎ Holder who pid (now front)
    pub no_agent : (pid : ℕ) → (at front pid).agent ≡ false
    pub mapped : (pid : ℕ) (p : TracedProcess) → live_process (now front).system pid ≡ Some p
        → AreMappedIn p (at front pid).patches
    pub unlent : (pid lender : ℕ) (p : TracedProcess) → live_process (now front).system pid ≡ Some p
        → p.lender ≡ Some lender → (at front pid).patches ≡ []

-- ---- what is known of a truss

module _ {who : Hiders} {controllers : List ControllerState} {first : TracedState} {h front : List Entry} {k : ℕ}
    (w : Truss who controllers first h front k) where
  pub has-files : HasItsFiles k w.t (state_after first front)
  has-files = files-of k (state_after first front) w.t w.files w.apart

  module _ (off : w.t.leaving ≡ false) where
    both : Course w.t → GoesOn w.t × Each (So FlagsOf) w.t.traced
    both (goes_on goes flags) = (goes, flags)
    both (leaves_them on at) = absurd (false≢true (sym off ∙ on))

    pub stays-on : GoesOn w.t
    stays-on = (both w.course).0

    pub runs-so : Each (So FlagsOf) w.t.traced
    runs-so = (both w.course).1

-- who holds a process goes on so, while that handle stays
pub holder-moves : {who : Hiders} {pid : ℕ} {s u : TracedState} (x : Holder who pid s)
    → handle_of u.opens x.k x.number ≡ Some x.held → Holder who pid u
holder-moves x there = record {
  k = x.k;
  hider = x.hider;
  number = x.number;
  held = x.held;
  there = there;
  of = x.of;
  control = x.control;
}
