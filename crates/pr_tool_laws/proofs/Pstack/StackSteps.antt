use Rattle.std.proofs.Common.{◌≡◌, ◌≢◌, ◌⊎◌, ◌||◌, ◌∷◌, ◌≤◌, ℕ, Bool, true, false, cond, List, [], Option, Some, None, IsSome, length, nat_le, take, refl, inl, inr, arith}
use Rattle.std.proofs.lemmas.Bool.{leb-true}
use Rattle.pr_api.specs.Shapes.{has_shape}
use Rattle.pr_model.specs.Reads.{unless_none}
use Rattle.pr_model.specs.Replies.{bytes_in, opened_in, until_in}
use Rattle.pr_model.specs.declared.calls.Call.TheVariants as call
use Rattle.pr_model.specs.declared.calls.File.TheVariants as file
use Rattle.pr_model.specs.declared.calls.Mode.TheVariants as mode
use Rattle.pr_model.specs.declared.calls.Reply.{Reply}
use Rattle.pr_model.specs.declared.calls.Reply.TheVariants as reply
use Rattle.pr_model.specs.declared.tools.ToolKind.TheVariants.{Pstack}
use Rattle.pr_num.specs.Layout.{text_base}
use Rattle.pr_num.specs.Limits.{read_limit}
use Rattle.pr_num.specs.declared.errnos.Errno.{Errno}
use Rattle.pr_tools.specs.Handles.{handle_at, nothing_open, with_handle, without_last}
use Rattle.pr_tools.specs.Replies.{bytes_read, is_passed_over, is_unmapped, refusal_in}
use Rattle.pr_tools.specs.Stacks.{process_stands, walk_after, walk_in, with_frame}
use Rattle.pr_tools.specs.Steps.{after, after_in_pstack, control_place, ctl_mode_of, file_of, first_step, frame_room, memory_place, record_place, record_room}
use Rattle.pr_tools.specs.Calls.{short_read, stop_bytes}
use Rattle.pr_tools.specs.Tools.{ToolState, accepted, advanced, at_step, call_of, fed, first_tool, next_call_of, refused, with_answer, with_closed, with_first, with_next, with_record, with_run_next, with_walk}
use Rattle.pr_tools.specs.declared.handles.Opened.{Opened}
use Rattle.pr_tools.specs.declared.stacks.CallFrame.{CallFrame}
use Rattle.pr_tools.specs.declared.stacks.Walk.{Walk}
use Rattle.pr_tools.specs.declared.steps.Step.{Step}
use Rattle.pr_tools.specs.declared.steps.Step.TheVariants as step
use Rattle.pr_tool_laws.proofs.Pstack.StackWalks.{room}
use Rattle.pr_tool_laws.proofs.Stages.ToolLemmas.{closing-fed}

-- The calls of pstack step by step, and what a reply makes of it.

-- ---- pstack on its way

-- what pstack noted so far
pub record Notes : Type 0 where
  pub until : ℕ
  pub stood : Bool
  pub bytes : List ℕ
  pub first : Option (List ℕ)
  pub walk : Option Walk
  pub frames : List CallFrame

abbrev pub no_notes : Notes
no_notes = record { until = 0; stood = false; bytes = []; first = None; walk = None; frames = [] }

-- at a step, with these files open
abbrev pub pstack_at : ℕ → Opened → Step → Notes → ToolState
pstack_at pid opened next notes = record {
  kind = Pstack;
  pid = pid;
  opened = opened;
  step = next;
  until = notes.until;
  stood = notes.stood;
  bytes = notes.bytes;
  first = notes.first;
  walk = notes.walk;
  frames = notes.frames;
  refusal = None;
}

abbrev pub with_control : ℕ → Opened
with_control control = with_handle nothing_open control_place (Some control)

abbrev pub with_status : ℕ → ℕ → Opened
with_status control status = with_handle (with_control control) record_place (Some status)

abbrev pub with_memory : ℕ → ℕ → ℕ → Opened
with_memory control status memory = with_handle (with_status control status) memory_place (Some memory)

-- the steps of a process whose stacks were read: it is run, and its files are closed
abbrev pub IsEnding : Step → Type 0
IsEnding next = (next ≡ step.Run) ⊎ (next ≡ step.Close)

-- ---- refusals

-- a refusal is no acceptance; and what is no refusal is one
pub unless-refused : (t : ToolState) (r : Reply) → ((e : Errno) → is_passed_over t.step e ≡ false)
    → IsSome (fed t r).refusal ⊎ (((e : Errno) → r ≢ reply.Fail e) × (fed t r ≡ accepted t r t.step))
unfolding fed refusal_in refused
unless-refused t (reply.Fail e) counts = inl (rw (counts e) refl)
unless-refused t _ counts = inr ((λ e same. cc), refl)

pub refused-now : (t : ToolState) (e : Errno) → is_passed_over t.step e ≡ false → IsSome (fed t (reply.Fail e)).refusal
unfolding fed refusal_in refused
refused-now t e counts = rw counts refl

module _ (pid : ℕ) where
  -- ---- its calls

  pub begins : first_tool Pstack pid ≡ pstack_at pid nothing_open step.OpenCtl no_notes
  unfolding first_tool first_step
  begins = refl

  pub first-call : next_call_of (first_tool Pstack pid) ≡ Some (call.Open pid 0 file.Ctl mode.WriteExcl)
  unfolding next_call_of call_of first_tool first_step ctl_mode_of
  first-call = refl

  module _ (o : Opened) (notes : Notes) where
    pub file-call : next_call_of (pstack_at pid o step.OpenFile notes) ≡ Some (call.Open pid 0 file.Lstatus mode.Read)
    unfolding next_call_of call_of file_of
    file-call = refl

    pub memory-call : next_call_of (pstack_at pid o step.OpenMemory notes) ≡ Some (call.Open pid 0 file.Mem mode.Read)
    unfolding next_call_of call_of
    memory-call = refl

  module _ (control status memory : ℕ) (notes : Notes) where
    -- it has all three files open
    abbrev pub at : Step → ToolState
    at next = pstack_at pid (with_memory control status memory) next notes

    pub look-call : next_call_of (at step.ReadFirst) ≡ Some (call.Read status 0 read_limit)
    unfolding next_call_of call_of handle_at with_handle nothing_open
    look-call = refl

    pub stop-call : next_call_of (at step.Stop) ≡ Some (call.Ctl control stop_bytes)
    unfolding next_call_of call_of handle_at with_handle nothing_open
    stop-call = refl

    pub wait-call : next_call_of (at step.AwaitStop) ≡ Some (call.CtlWait control notes.until stop_bytes)
    unfolding next_call_of call_of handle_at with_handle nothing_open
    wait-call = refl

    pub status-call : next_call_of (at step.ReadFile) ≡ Some (call.Read status 0 read_limit)
    unfolding next_call_of call_of handle_at with_handle nothing_open
    status-call = refl

    pub text-call : next_call_of (at step.ReadText) ≡ Some (call.Read memory text_base short_read)
    unfolding next_call_of call_of handle_at with_handle nothing_open
    text-call = refl

    pub frame-call : (w : Walk) → notes.walk ≡ Some w
        → next_call_of (at step.ReadFrame) ≡ Some (call.Read memory w.frame short_read)
    unfolding next_call_of call_of handle_at with_handle nothing_open
    frame-call w is = rw is refl

  -- ---- what replies make of it

  pub control-opened : (control : ℕ)
      → fed (first_tool Pstack pid) (reply.Handle control) ≡ pstack_at pid (with_control control) step.OpenFile no_notes
  unfolding fed refusal_in accepted advanced with_next after after_in_pstack opened_in first_tool first_step
      nothing_open
  control-opened control = refl

  pub control-refused : (e : Errno) → IsSome (fed (first_tool Pstack pid) (reply.Fail e)).refusal
  unfolding is_passed_over first_tool first_step
  control-refused e = refused-now (first_tool Pstack pid) e refl

  module _ (notes : Notes) where
    pub file-opened : (control status : ℕ)
        → fed (pstack_at pid (with_control control) step.OpenFile notes) (reply.Handle status) ≡ pstack_at pid
        (with_status control status) step.OpenMemory notes
    unfolding fed refusal_in accepted advanced with_next after after_in_pstack opened_in
    file-opened control status = refl

    pub memory-opened : (control status memory : ℕ)
        → fed (pstack_at pid (with_status control status) step.OpenMemory notes) (reply.Handle memory) ≡ pstack_at pid
        (with_memory control status memory) step.ReadFirst notes
    unfolding fed refusal_in accepted advanced with_next after after_in_pstack opened_in
    memory-opened control status memory = refl

    module _ (o : Opened) (r : Reply) where
      pub looked : accepted (pstack_at pid o step.ReadFirst notes) r step.ReadFirst ≡ pstack_at pid o step.Stop
          (record notes { stood = process_stands (bytes_read r) })
      unfolding accepted advanced with_next after after_in_pstack
      looked = refl

      pub asked : accepted (pstack_at pid o step.Stop notes) r step.Stop ≡ pstack_at pid o step.AwaitStop
          (record notes { until = until_in r })
      unfolding accepted advanced with_next after after_in_pstack
      asked = refl

      pub waited : accepted
          (pstack_at pid o step.AwaitStop notes) r step.AwaitStop ≡ pstack_at pid o step.ReadFile notes
      unfolding accepted advanced with_next after after_in_pstack
      waited = refl

      pub closes : fed (pstack_at pid o step.Close notes) r ≡ pstack_at pid (without_last o) step.Close notes
      unfolding with_closed
      closes = closing-fed (pstack_at pid o step.Close notes) r refl

      pub has-run : accepted (pstack_at pid o step.Run notes) r step.Run ≡ pstack_at pid o step.Close notes
      unfolding accepted advanced with_next after after_in_pstack
      has-run = refl

    -- the first instruction of what was read
    abbrev pub first_of : List ℕ → Option (List ℕ)
    first_of bytes = cond (nat_le short_read (length bytes)) (Some (take short_read bytes)) None

    module _ (o : Opened) where
      pub status-read : (bytes : List ℕ)
          → fed (pstack_at pid o step.ReadFile notes) (reply.Bytes bytes) ≡ pstack_at pid o step.ReadText
          (record notes { bytes = take read_limit bytes })
      unfolding fed refusal_in accepted advanced with_next after after_in_pstack with_record record_room bytes_in
      status-read bytes = refl

      -- nothing that is not mapped is read, which is passed over
      pub text-read : (bytes : List ℕ)
          → fed (pstack_at pid o step.ReadText notes) (unless_none bytes) ≡ with_walk
          (pstack_at pid o step.ReadText (record notes { first = first_of bytes })) (walk_in notes.bytes 8)
      unfolding fed refusal_in accepted advanced with_next after after_in_pstack with_first bytes_in is_passed_over
          is_unmapped
      text-read [] = refl
      text-read (b ∷ bytes) = refl

      pub frame-read : (w : Walk) → notes.walk ≡ Some w → (bytes : List ℕ)
          → fed (pstack_at pid o step.ReadFrame notes) (unless_none bytes)
          ≡ with_walk (pstack_at pid o step.ReadFrame (record notes { frames = with_frame room notes.frames w bytes }))
          (walk_after notes.bytes w bytes)
      unfolding fed refusal_in accepted with_answer frame_room bytes_in is_passed_over is_unmapped
      frame-read w is [] = rw is refl
      frame-read w is (b ∷ bytes) = rw is refl

    -- another frame comes next, or none
    pub walks : (o : Opened) (next : Step) (w : Walk)
        → with_walk (pstack_at pid o next notes) (Some w) ≡ pstack_at pid o step.ReadFrame
        (record notes { walk = Some w })
    unfolding with_walk
    walks o next w = refl

    -- it has read all
    pub record Ends (o : Opened) (t : ToolState) : Type 0 where
      pub next : Step
      pub ends : IsEnding next
      pub is : t ≡ pstack_at pid o next (record notes { walk = None })

    pub walked : (o : Opened) (next : Step) → Ends o (with_walk (pstack_at pid o next notes) None)
    unfolding with_walk with_run_next
    walked o next = of notes.stood
      where
        of : (b : Bool)
            → Ends o
            (cond b (at_step (pstack_at pid o next (record notes { walk = None })) step.Close)
            (at_step (pstack_at pid o next (record notes { walk = None })) step.Run))
        of true = record { next = step.Close; ends = inr refl; is = refl }
        of false = record { next = step.Run; ends = inl refl; is = refl }

-- a wait that was not refused is over
pub wait-used : (handle until : ℕ) (bytes : List ℕ) (r : Reply) → ((e : Errno) → r ≢ reply.Fail e)
    → has_shape (call.CtlWait handle until bytes) r ≡ true → (used : ℕ) × (r ≡ reply.Used used)
unfolding has_shape
wait-used handle until bytes (reply.Used used) accepted shape = (used, refl)
wait-used handle until bytes (reply.Fail e) accepted shape = absurd (accepted e refl)
wait-used handle until bytes _ accepted shape = absurd (cc)

-- a read of memory gives no more than was asked for
pub memory-few : (handle from len : ℕ) (bytes : List ℕ)
    → has_shape (call.Read handle from len) (unless_none bytes) ≡ true → length bytes ≤ len
unfolding has_shape
memory-few handle from len [] shape = omega arith
memory-few handle from len (b ∷ bytes) shape =
    leb-true (length (b ∷ bytes)) len (or-false (nat_le (length (b ∷ bytes)) len) shape)
  where
    or-false : (b : Bool) → (b || false) ≡ true → b ≡ true
    or-false true is = refl
    or-false false is = cc
