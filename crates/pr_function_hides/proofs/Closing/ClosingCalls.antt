use Rattle.std.proofs.Common.{◌≡◌, ◌≢◌, ◌<◌, ◌⊎◌, ℕ, Bool, true, false, cond, is_some, Option, Some, None, length, refl}
use Rattle.std.proofs.Common.{sym, ap, ◌∙◌, inl, inr}
use Rattle.std.proofs.lemmas.Option.{none-some, same_Some}
use Rattle.pr_function_hides.proofs.Replies.BareStages.{BareIf, IsBare}
use Rattle.pr_function_hides.proofs.Files.FilesCalls.{Files}
use Rattle.pr_function_hides.proofs.Replies.LeavingStages.{IsLeft, asks, awaits, closes_files, halts, has_ended}
use Rattle.pr_function_hides.proofs.Replies.LeavingStages.{lifts_all, looks, reads_text, waits_again}
use Rattle.pr_function_hides.proofs.Replies.OwnFiles.{IsBeside, IsWithin}
use Rattle.pr_function_laws.proofs.NextCalls.PatchCalls.{next-beside, next-staged}
use Rattle.pr_model.specs.Handles.{handle_of, is_writable}
use Rattle.pr_model.specs.Replies.{number_of}
use Rattle.pr_model.specs.State.{TracedState}
use Rattle.pr_model.specs.declared.calls.Call.{Call}
use Rattle.pr_model.specs.declared.calls.Call.TheVariants as call
use Rattle.pr_model.specs.declared.calls.File.{File}
use Rattle.pr_model.specs.declared.calls.File.TheVariants as file
use Rattle.pr_model.specs.declared.calls.Mode.TheVariants.{Read}
use Rattle.pr_model.specs.declared.handles.Held.{Held}
use Rattle.pr_truss.specs.Asides.{marks_at}
use Rattle.pr_truss.specs.FunctionCalls.{call_beside, function_call_of, next_function_call_of, patch_call}
use Rattle.pr_truss.specs.Marks.{first_function, has_functions, no_functions}
use Rattle.pr_truss.specs.NextCalls.{call_of, next_call_of, opening_call}
use Rattle.pr_truss.specs.Processes.{last_handle, without_last}
use Rattle.pr_truss.specs.Trusses.{TrussState, traced_at}
use Rattle.pr_truss.specs.declared.asides.Aside.{Aside}
use Rattle.pr_truss.specs.declared.asides.Aside.TheVariants.{Nothing, Reading, Planting, Patching, AwaitingStop, Asking}
use Rattle.pr_truss.specs.declared.asides.Aside.TheVariants.{AwaitingAgain}
use Rattle.pr_truss.specs.declared.marks.Marks.{Marks}
use Rattle.pr_truss.specs.declared.processes.Traced.{Traced}
use Rattle.pr_truss.specs.declared.stages.AfterClosing.{AfterClosing}
use Rattle.pr_truss.specs.declared.stages.AfterClosing.TheVariants.{OpenNext, GoOn}
use Rattle.pr_truss.specs.declared.stages.OpeningStep.{OpeningStep}
use Rattle.pr_truss.specs.declared.stages.OpeningStep.TheVariants as opening
use Rattle.pr_truss.specs.declared.stages.Stage.{Stage}
use Rattle.pr_truss.specs.declared.stages.Stage.TheVariants.{Spawning, OpeningControl, Opening, Polling, ReadingStatus}
use Rattle.pr_truss.specs.declared.stages.Stage.TheVariants.{ReadingText, Running, Closing, Unfollowing, ReadingLwps}
use Rattle.pr_truss.specs.declared.stages.Stage.TheVariants.{Finished}
use Rattle.pr_truss_laws.proofs.Files.OpensLemmas.{held_by}

-- Truss closes a file only as it closes those of a process that it traces, the last one first, and nothing comes before
-- that.

-- the handle that is closed next is of the process
pub last-pid : (k : ℕ) (s : TracedState) (v : Traced) → Files k s v → (held : Held)
    → handle_of s.opens k (last_handle v) ≡ Some held → v.pid ≡ held.pid
unfolding last_handle
last-pid k s v f held there = find v.memory v.lstatus v.status refl refl refl there
  where
    find : (a b c : Option ℕ) → v.memory ≡ a → v.lstatus ≡ b → v.status ≡ c
        → handle_of s.opens k (cond (is_some a) (number_of a)
        (cond (is_some b) (number_of b) (cond (is_some c) (number_of c) v.control))) ≡ Some held
        → v.pid ≡ held.pid
    find (Some m) b c is_a is_b is_c at =
        ap (λ (x : Held). x.pid) (same_Some _ held (sym (f.memory m is_a) ∙ at))
    find None (Some m) c is_a is_b is_c at =
        ap (λ (x : Held). x.pid) (same_Some _ held (sym (f.lstatus m is_b) ∙ at))
    find None None (Some m) is_a is_b is_c at =
        ap (λ (x : Held). x.pid) (same_Some _ held (sym (f.status m is_c) ∙ at))
    find None None None is_a is_b is_c at =
        ap (λ (x : Held). x.pid) (same_Some _ held (sym f.control ∙ at))

-- it is that of the control file, and then no other is left; or it is none for writing
abbrev pub IsLastMode : ℕ → TracedState → Traced → Type 0
IsLastMode k s v =
    ((last_handle v ≡ v.control) × (without_last v ≡ None))
    ⊎ ((held : Held) → handle_of s.opens k (last_handle v) ≡ Some held → is_writable held.mode ≡ false)

module _ (k : ℕ) (s : TracedState) where
  mode-is : (pid m : ℕ) (f : File) → handle_of s.opens k m ≡ Some (held_by k pid 0 f Read) → (held : Held)
      → handle_of s.opens k m ≡ Some held → is_writable held.mode ≡ false
  mode-is pid m f its held there =
      ap (λ (x : Held). is_writable x.mode) (sym (same_Some (held_by k pid 0 f Read) held (sym its ∙ there)))

  mode-fields : (pid control : ℕ) (status lstatus memory : Option ℕ) (attached : Bool) (old : ℕ) (seen : Bool)
      (marks : Marks)
      → let u : Traced = record {
        pid = pid;
        control = control;
        status = status;
        lstatus = lstatus;
        memory = memory;
        attached = attached;
        old = old;
        seen = seen;
        marks = marks;
      } in Files k s u → IsLastMode k s u
  unfolding last_handle without_last
  mode-fields pid control status lstatus (Some n) attached old seen marks f =
      inr (mode-is pid n file.Mem (f.memory n refl))
  mode-fields pid control status (Some n) None attached old seen marks f =
      inr (mode-is pid n file.Lstatus (f.lstatus n refl))
  mode-fields pid control (Some n) None None attached old seen marks f =
      inr (mode-is pid n file.Status (f.status n refl))
  mode-fields pid control None None None attached old seen marks f = inl (refl, refl)

  pub last-mode : (v : Traced) → Files k s v → IsLastMode k s v
  last-mode v f = mode-fields v.pid v.control v.status v.lstatus v.memory v.attached v.old v.seen v.marks f

-- truss closes the file of a number: the last one of a process
pub record IsClosing (t : TrussState) (number : ℕ) : Type 0 where
  pub place : ℕ
  pub within : place < length t.traced
  pub following : AfterClosing
  pub stage : t.stage ≡ Closing place following
  pub inside : IsWithin (length t.traced) (Closing place following)
  pub idle : t.aside ≡ Nothing
  pub last : last_handle (traced_at t place) ≡ number

module _ (t : TrussState) (number : ℕ) where
  never : {A : Type 0} (d : Call) → ((m : ℕ) → d ≢ call.Close m) → Some d ≡ Some (call.Close number) → A
  never d other is = absurd (other number (same_Some d (call.Close number) is))

  closing : (q : ℕ) → Some (call.Close (last_handle (traced_at t q))) ≡ Some (call.Close number)
      → last_handle (traced_at t q) ≡ number
  closing q is = let same = same_Some _ _ is in close-number same
    where
      close-number : {a b : ℕ} → call.Close a ≡ call.Close b → a ≡ b
      close-number e = cc

  opening-never : (q : ℕ) (step : OpeningStep) → function_call_of t (Opening q step) ≡ Some (call.Close number)
      → IsClosing t number
  unfolding function_call_of call_of opening_call
  opening-never q opening.OpenStatus is = never _ (λ m e. cc) is
  opening-never q opening.OpenLstatus is = never _ (λ m e. cc) is
  opening-never q opening.OpenMemory is = never _ (λ m e. cc) is
  opening-never q opening.ClearModes is = never _ (λ m e. cc) is
  opening-never q opening.SetRelease is = never _ (λ m e. cc) is
  opening-never q opening.Stop is = never _ (λ m e. cc) is
  opening-never q (opening.AwaitStop until) is = never _ (λ m e. cc) is
  opening-never q opening.ReadLwps is = never _ (λ m e. cc) is
  opening-never q opening.TraceSignals is = never _ (λ m e. cc) is
  opening-never q opening.TraceFaults is = never _ (λ m e. cc) is
  opening-never q opening.TraceEntries is = never _ (λ m e. cc) is
  opening-never q opening.TraceExits is = never _ (λ m e. cc) is
  opening-never q opening.Follow is = never _ (λ m e. cc) is
  opening-never q opening.Start is = never _ (λ m e. cc) is

  closing-stage : t.aside ≡ Nothing → (stage : Stage) → t.stage ≡ stage → IsWithin (length t.traced) stage
      → function_call_of t stage ≡ Some (call.Close number) → IsClosing t number
  unfolding function_call_of call_of
  closing-stage idle (Spawning program) at w is = never _ (λ m e. cc) is
  closing-stage idle (OpeningControl pid) at w is = never _ (λ m e. cc) is
  closing-stage idle (Opening q step) at w is = opening-never q step is
  closing-stage idle Polling at w is = never _ (λ m e. cc) is
  closing-stage idle (ReadingStatus q) at w is = never _ (λ m e. cc) is
  closing-stage idle (ReadingText q l from len) at w is = never _ (λ m e. cc) is
  closing-stage idle (Running q) at w is = never _ (λ m e. cc) is
  closing-stage idle (Closing q OpenNext) at w is =
      record {
        place = q;
        within = w;
        following = OpenNext;
        stage = at;
        inside = w;
        idle = idle;
        last = closing q is;
      }
  closing-stage idle (Closing q GoOn) at w is =
      record {
        place = q;
        within = w;
        following = GoOn;
        stage = at;
        inside = w;
        idle = idle;
        last = closing q is;
      }
  closing-stage idle Finished at w is = absurd (none-some _ is)
  closing-stage idle _ at w is = absurd w

  closing-patch : (q : ℕ) (plant lift : Option ℕ)
      → Some (patch_call t.options (traced_at t q).control plant lift) ≡ Some (call.Close number) → IsClosing t number
  closing-patch q (Some function) lift is = never _ (λ m e. cc) is
  closing-patch q None (Some function) is = never _ (λ m e. cc) is
  closing-patch q None None is = never _ (λ m e. cc) is

  closing-aside : IsWithin (length t.traced) t.stage → (aside : Aside) → t.aside ≡ aside
      → IsBeside (length t.traced) aside → call_beside t t.stage aside ≡ Some (call.Close number) → IsClosing t number
  unfolding call_beside
  closing-aside stage Nothing idle w is = closing-stage idle t.stage refl stage is
  closing-aside stage (Reading q function) at w is = never _ (λ m e. cc) is
  closing-aside stage (Planting q function) at w is = never _ (λ m e. cc) is
  closing-aside stage (Patching q plants lifts clear) at w is =
      closing-patch q (first_function plants) (first_function lifts) is
  closing-aside stage _ at w is = absurd w

  pub is-closing : IsWithin (length t.traced) t.stage → IsBeside (length t.traced) t.aside
      → has_functions t.options ≡ true → next_function_call_of t ≡ Some (call.Close number) → IsClosing t number
  unfolding next_function_call_of
  is-closing stage beside has next =
      closing-aside stage t.aside refl beside
      (sym (ap (λ b. cond b (call_beside t t.stage t.aside) (next_call_of t)) has) ∙ next)

  -- ---- where it leaves its processes

  -- of the first one, in which nothing is planted, or which has ended
  module _ (Ended : ℕ → Type 0) (has : has_functions t.options ≡ true)
      (next : next_function_call_of t ≡ Some (call.Close number)) where
    abbrev First : Type 0
    First =
        (0 < length t.traced) × ((last_handle (traced_at t 0) ≡ number) × IsBare Ended (traced_at t 0))

    staged : (stage : Stage) → t.stage ≡ stage → t.aside ≡ Nothing
        → function_call_of t stage ≡ Some (call.Close number)
    staged stage at idle = sym (next-staged t.options has t stage refl idle at) ∙ next

    beside : (aside : Aside) → t.aside ≡ aside → call_beside t t.stage aside ≡ Some (call.Close number)
    beside aside is = sym (next-beside t.options has t refl ∙ ap (call_beside t t.stage) is) ∙ next

    patch-never : (q : ℕ) (plant lift : Option ℕ)
        → Some (patch_call t.options (traced_at t q).control plant lift) ≡ Some (call.Close number) → First
    patch-never q (Some function) lift is = never _ (λ m e. cc) is
    patch-never q None (Some function) is = never _ (λ m e. cc) is
    patch-never q None None is = never _ (λ m e. cc) is

    pub left-closing : (w : IsLeft t) → BareIf Ended t w → First
    unfolding call_beside function_call_of call_of
    left-closing (closes_files at idle within) bare =
        (within, (closing 0 (staged (Closing 0 GoOn) at idle), bare))
    left-closing (halts at idle within) bare = never _ (λ m e. cc) (staged Unfollowing at idle)
    left-closing (awaits until at is within) bare = never _ (λ m e. cc) (beside (AwaitingStop until) is)
    left-closing (asks at is within) bare = never _ (λ m e. cc) (beside Asking is)
    left-closing (waits_again until at is within) bare = never _ (λ m e. cc) (beside (AwaitingAgain until) is)
    left-closing (looks at idle within) bare = never _ (λ m e. cc) (staged ReadingLwps at idle)
    left-closing (reads_text l from len at idle within) bare =
        never _ (λ m e. cc) (staged (ReadingText 0 l from len) at idle)
    left-closing (lifts_all clear at is within) bare =
        patch-never 0 (first_function no_functions) (first_function (marks_at t 0).planted)
        (beside (Patching 0 no_functions (marks_at t 0).planted clear) is)
    left-closing (has_ended at idle) bare = absurd (none-some _ (staged Finished at idle))
