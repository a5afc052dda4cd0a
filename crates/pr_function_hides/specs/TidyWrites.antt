-- The writes of a truss that shows calls of functions are tidy, and so is what each turn changes; the breakpoints that
-- stand are those that it has marked; and what is asked of a history for that.
use Rattle.std.specs.Prelude.{◌≡◌, ◌≢◌, ◌<◌, ◌++◌, ℕ, true, false, All, List, [], ◌∷◌, None, Ok, Some, is_ok, length, slice_get}
use Rattle.pr_api.specs.Entries.{call_entry}
use Rattle.pr_function_hides.specs.Copying.{AreOutOfCopies}
use Rattle.pr_function_hides.specs.CountedFunctions.{Counts, HasBorrowed, IsRead, LeavesAlone}
use Rattle.pr_function_hides.specs.FunctionHiders.{StandAsMarked, patch_of}
use Rattle.pr_function_laws.specs.Stretches.{BeginWithWrite}
use Rattle.pr_hidden.specs.Covers.{Covers, Patch}
use Rattle.pr_hidden.specs.Hiders.{Hiders, covers_at, hides, patch_at}
use Rattle.pr_hidden.specs.Following.{IsReturnable}
use Rattle.pr_hidden.specs.Sparing.{are_spared}
use Rattle.pr_hidden.specs.Tidiness.{AreTidyChanges, IsTidyCall}
use Rattle.pr_line.specs.declared.functions.Function.{Function}
use Rattle.pr_model.specs.Changes.{Ending}
use Rattle.pr_model.specs.ControlMessages.{tail_of}
use Rattle.pr_model.specs.Handles.{handle_of}
use Rattle.pr_model.specs.Legal.{after, state_after}
use Rattle.pr_model.specs.Rows.{row_for}
use Rattle.pr_model.specs.State.{TracedLwp, TracedProcess, TracedState, live_process, lwp_of}
use Rattle.pr_model.specs.declared.calls.Call.{Call}
use Rattle.pr_model.specs.declared.calls.Call.TheVariants as call
use Rattle.pr_model.specs.declared.calls.File.TheVariants.{Ctl}
use Rattle.pr_model.specs.declared.calls.Mode.TheVariants.{WriteExcl}
use Rattle.pr_model.specs.declared.calls.Reply.{Reply}
use Rattle.pr_model.specs.declared.calls.Reply.TheVariants.{Fail}
use Rattle.pr_model.specs.declared.events.Act.TheVariants.{Turn}
use Rattle.pr_model.specs.declared.events.Actor.TheVariants.{Lwp}
use Rattle.pr_model.specs.declared.events.Entry.{Entry}
use Rattle.pr_model.specs.declared.events.Turned.{Turned}
use Rattle.pr_model.specs.declared.handles.Held.{Held}
use Rattle.pr_num.specs.Limits.{instruction_size}
use Rattle.pr_num.specs.Messages.{first_message}
use Rattle.pr_num.specs.Spaces.{Space, bytes_for}
use Rattle.pr_num.specs.declared.errnos.Errno.{Errno}
use Rattle.pr_num.specs.declared.messages.Message.TheVariants.{Write}
use Rattle.pr_truss.specs.Asides.{marks_at}
use Rattle.pr_truss.specs.Replies.{answer_of}
use Rattle.pr_truss.specs.Trusses.{TrussState, traced_at}
use Rattle.pr_truss.specs.declared.replies.Answer.TheVariants.{Accepted}
use Rattle.pr_truss.specs.declared.stages.OpeningStep.TheVariants.{AwaitStop}
use Rattle.pr_truss.specs.declared.stages.Stage.TheVariants.{Opening}
use Rattle.pr_world.specs.ControllerStates.{ControllerState, FnTruss}
use Rattle.pr_world.specs.Protocol.{controllers_at}

-- all bytes of the instruction of a breakpoint are mapped, whatever their protection
pub record IsMappedIn (space : Space) (f : Patch) : Type 0 where
  pub ok : is_ok (bytes_for 0 space f.at instruction_size) ≡ true

module _ (who : Hiders) (controllers : List ControllerState) (first : TracedState) (h : List Entry) where
  -- what is hidden, the state, and truss, after some entries
  abbrev pub hidden_after : List Entry → Covers
  hidden_after front = covers_at who first front

  abbrev pub state_there : List Entry → TracedState
  state_there front = state_after first front

  abbrev pub IsTrussAfter : List Entry → ℕ → TrussState → Type 0
  IsTrussAfter front k t = slice_get (controllers_at controllers front) k ≡ Some (FnTruss t)

  -- ---- what is asked

  -- Programs leave alone each function that counts as planted. While its breakpoint does not stand they store nothing
  -- there, and ask for no memory there; and as long as their process lives they unmap no byte of one that stands. Who
  -- has borrowed the memory of a process that truss opens leaves alone a function whose code truss has just read there,
  -- until truss plants it; and no PCWRITE to who has borrowed it, which a controller that hides nothing is granted,
  -- touches that function. A process has borrowed its memory from nobody when truss opens its control file.
  pub record AreUntouched : Type 0 where
    pub spares : (front back : List Entry) (pid id : ℕ) (t : Turned) (p : TracedProcess) (l : TracedLwp) (k : ℕ)
        (u : TrussState) (place function : ℕ) (f : Function)
        → h ≡ front ++ record { actor = Lwp pid id; act = Turn t } ∷ back
        → live_process (state_there front).system pid ≡ Some p → lwp_of p id ≡ Some l → l.control.directed ≡ false
        → hides who k ≡ true → IsTrussAfter front k u → place < length u.traced → (traced_at u place).pid ≡ pid
        → Counts u place function → slice_get u.options.functions function ≡ Some f
        → patch_at f.at (hidden_after front pid).patches ≡ None → LeavesAlone (patch_of f) p l
    pub stays_mapped : (front back : List Entry) (pid id : ℕ) (t : Turned) (p q : TracedProcess)
        → h ≡ front ++ record { actor = Lwp pid id; act = Turn t } ∷ back
        → live_process (state_there front).system pid ≡ Some p
        → live_process (after (state_there front) (record { actor = Lwp pid id; act = Turn t })).system pid ≡ Some q
        → All (λ (f : Patch). IsMappedIn p.space f → IsMappedIn q.space f) (hidden_after front pid).patches
    pub unlent : (front back : List Entry) (k pid : ℕ) (r : Reply) (p : TracedProcess)
        → h ≡ front ++ call_entry k (call.Open pid 0 Ctl WriteExcl) r ∷ back → hides who k ≡ true
        → answer_of r ≡ Accepted → live_process (state_there front).system pid ≡ Some p → p.lender ≡ None
    pub spares_lent : (front back : List Entry) (borrower id : ℕ) (t : Turned) (p : TracedProcess) (l : TracedLwp)
        (k : ℕ) (u : TrussState) (place function : ℕ) (f : Function)
        → h ≡ front ++ record { actor = Lwp borrower id; act = Turn t } ∷ back
        → live_process (state_there front).system borrower ≡ Some p → lwp_of p id ≡ Some l
        → l.control.directed ≡ false → hides who k ≡ true → IsTrussAfter front k u → place < length u.traced
        → HasBorrowed (state_there front).system (traced_at u place).pid borrower → IsRead u place function
        → slice_get u.options.functions function ≡ Some f → LeavesAlone (patch_of f) p l
    pub unwritten : (front back : List Entry) (j handle : ℕ) (bytes : List ℕ) (r : Reply) (held : Held) (k : ℕ)
        (u : TrussState) (place function : ℕ) (f : Function) (at size len : ℕ)
        → h ≡ front ++ call_entry j (call.Ctl handle bytes) r ∷ back → hides who j ≡ false
        → ((errno : Errno) → r ≢ Fail errno) → handle_of (state_there front).opens j handle ≡ Some held
        → hides who k ≡ true → IsTrussAfter front k u → place < length u.traced
        → HasBorrowed (state_there front).system (traced_at u place).pid held.pid → IsRead u place function
        → slice_get u.options.functions function ≡ Some f
        → first_message bytes ≡ Ok (Write at size, len)
        → are_spared (patch_of f ∷ []) at (length (tail_of (Write at size) bytes)) ≡ true

  -- Programs and others leave the functions alone. No lwp of a process is at a fork, a vfork or an exec when the wait
  -- of its opening is granted.
  pub record AreUndisturbed : Type 0 where
    pub untouched : AreUntouched
    pub opens_out : (front back : List Entry) (k place until : ℕ) (c : Call) (r : Reply) (u : TrussState)
        (p : TracedProcess) → h ≡ front ++ call_entry k c r ∷ back → hides who k ≡ true → IsTrussAfter front k u
        → u.stage ≡ Opening place (AwaitStop until) → answer_of r ≡ Accepted
        → live_process (state_there front).system (traced_at u place).pid ≡ Some p → AreOutOfCopies p

  -- ---- what is so then

  -- What a turn changes is tidy, of whatever process: a fork, a vfork and an exec find no breakpoint, and a process
  -- that ends by it, or is killed, gives back memory that is seen alike.
  pub record TurnsTidily (front : List Entry) (pid id : ℕ) (p : TracedProcess) (l : TracedLwp) : Type 0 where
    pub changes : AreTidyChanges (hidden_after front) pid p id l
        (row_for (state_there front).system pid p id l).transition.changes (state_there front).system
    pub returns : (how : Ending) → (row_for (state_there front).system pid p id l).transition.ending ≡ Some how
        → IsReturnable (hidden_after front) pid p

  -- Each PCWRITE of one who hides is tidy, and so is what each turn changes, and whom a controller kills. And of each
  -- process that truss traces, as long as it lives, those breakpoints stand that its marks say.
  pub record WritesTidily : Type 0 where
    pub tidy : (front back : List Entry) (k handle : ℕ) (bytes : List ℕ) (r : Reply)
        → h ≡ front ++ call_entry k (call.Ctl handle bytes) r ∷ back → hides who k ≡ true → BeginWithWrite bytes
        → IsTidyCall who (hidden_after front) (state_there front) k (call.Ctl handle bytes) r
    pub turns : (front back : List Entry) (pid id : ℕ) (t : Turned) (p : TracedProcess) (l : TracedLwp)
        → h ≡ front ++ record { actor = Lwp pid id; act = Turn t } ∷ back
        → live_process (state_there front).system pid ≡ Some p → lwp_of p id ≡ Some l → TurnsTidily front pid id p l
    pub kills : (front back : List Entry) (k pid number : ℕ) (r : Reply)
        → h ≡ front ++ call_entry k (call.Kill pid number) r ∷ back
        → IsTidyCall who (hidden_after front) (state_there front) k (call.Kill pid number) r
    pub marked : (front back : List Entry) (k : ℕ) (t : TrussState) (place : ℕ) (p : TracedProcess) → h ≡ front ++ back
        → hides who k ≡ true → IsTrussAfter front k t → place < length t.traced
        → live_process (state_there front).system (traced_at t place).pid ≡ Some p
        → StandAsMarked t.options (marks_at t place).planted (hidden_after front (traced_at t place).pid).patches
