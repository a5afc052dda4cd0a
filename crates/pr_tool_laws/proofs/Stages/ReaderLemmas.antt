use Rattle.std.proofs.Common.{◌≡◌, ◌∷◌, ◌⊎◌, ◌||◌, ◌==◌, ℕ, Option, Some, None, List, [], Bool, true, false, cond, nat_lt, option_map, take, refl, ap, ◌∙◌, inl, inr}
use Rattle.pr_model.specs.Handles.{is_control}
use Rattle.pr_model.specs.Readers.{space_seen}
use Rattle.pr_model.specs.Reads.{file_read, file_reply, held_read, mapped_from, of_lwp, of_process, read_process, read_reply, readable, unless_none}
use Rattle.pr_model.specs.Replies.{bytes_in, opened_in}
use Rattle.pr_model.specs.State.{TracedLwp, TracedProcess, TracedState, TracedSystem, lwp_of}
use Rattle.pr_model.specs.declared.calls.Call.{Call}
use Rattle.pr_model.specs.declared.calls.Call.TheVariants as call
use Rattle.pr_model.specs.declared.calls.File.{File}
use Rattle.pr_model.specs.declared.calls.File.TheVariants as file
use Rattle.pr_model.specs.declared.calls.Mode.TheVariants as mode
use Rattle.pr_model.specs.declared.calls.Reply.{Reply}
use Rattle.pr_model.specs.declared.calls.Reply.TheVariants as reply
use Rattle.pr_model.specs.declared.handles.Held.{Held}
use Rattle.pr_model.specs.declared.tools.ToolKind.{ToolKind}
use Rattle.pr_num.specs.Limits.{read_limit}
use Rattle.pr_num.specs.declared.errnos.Errno.{Errno}
use Rattle.pr_num.specs.declared.errnos.Errno.TheVariants.{Inval}
use Rattle.pr_tools.specs.Handles.{handle_at, nothing_open, with_handle}
use Rattle.pr_tools.specs.Replies.{is_passed_over, refusal_in}
use Rattle.pr_tools.specs.Steps.{after as step_after, file_of, first_step, record_place, record_room, way_out}
use Rattle.pr_tools.specs.Tools.{ToolState, accepted, advanced, call_of, fed, first_tool, next_call_of, with_next, with_record}
use Rattle.pr_tools.specs.declared.handles.Opened.{Opened}
use Rattle.pr_tools.specs.declared.steps.Step.{Step}
use Rattle.pr_tools.specs.declared.steps.Step.TheVariants as step
use Rattle.pr_tool_laws.proofs.OwnFiles.StandingLemmas.{Stands}
use Rattle.pr_tool_laws.proofs.Stages.ToolLemmas.{WasRefused, having_read, refused-fed}
use Rattle.pr_tool_laws.specs.Reads.{IsToolRead, ReadsFile, bytes_shown, record_in}

-- The tools that open one file of a process, read it once and close it; pwait waits for its end in between.

-- it has the file of its record open
abbrev pub with_record_open : ℕ → Opened
with_record_open number = with_handle nothing_open record_place (Some number)

-- a tool that has opened the file of its record
abbrev pub with_file : ToolKind → ℕ → Step → ℕ → ToolState
with_file kind pid next number =
    record (first_tool kind pid) { opened = with_record_open number; step = next }

-- a step of a tool with its file open: it reads, or it waits and then reads
abbrev pub IsWithFile : ToolKind → Step → Type 0
IsWithFile kind next =
    (next ≡ step.ReadFile) ⊎ ((next ≡ step.AwaitEnd) × (step_after kind step.AwaitEnd ≡ step.ReadFile))

-- how such a tool goes on
pub record IsReader (kind : ToolKind) : Type 0 where
  pub starts : first_step kind ≡ step.OpenFile
  pub opens : IsWithFile kind (step_after kind step.OpenFile)
  pub reads : step_after kind step.ReadFile ≡ step.Close
  pub plain : is_control (file_of kind) ≡ false
  pub leaves : (p : Step) → way_out kind p ≡ step.Close
  pub shows : (pid : ℕ) (s : TracedSystem) → bytes_shown kind pid s ≡ record_in kind pid s
  pub finds : (k pid : ℕ) (s : TracedState) (c : Call) → ReadsFile k pid (file_of kind) s c → IsToolRead kind k pid s c

-- ---- a read

-- what a read answers: bytes, or a refusal
abbrev pub IsRead : Reply → Type 0
IsRead (reply.Bytes bytes) = Unit {0}
IsRead (reply.Fail e) = Unit {0}
IsRead _ = ⊥

none-read : (bytes : List ℕ) → IsRead (unless_none bytes)
none-read [] = tt
none-read (b ∷ bytes) = tt

lwp-read : (p : TracedProcess) (id from len : ℕ) (o : Option TracedLwp) → IsRead (of_lwp p id from len o)
lwp-read p id from len None = tt
lwp-read p id from len (Some l) = tt

file-read : (s : TracedSystem) (pid : ℕ) (p : TracedProcess) (id from len : ℕ) (f : File)
    → IsRead (file_reply s pid p id from len f)
unfolding file_reply
file-read s pid p id from len file.Mem = none-read (mapped_from (space_seen s p) from len)
file-read s pid p id from len file.Lwpstatus = lwp-read p id from len (lwp_of p id)
file-read s pid p id from len _ = tt

process-read : (s : TracedSystem) (pid id from len : ℕ) (f : File) (o : Option TracedProcess)
    → IsRead (of_process s pid id from len f o)
process-read s pid id from len f None = tt
process-read s pid id from len f (Some p) = file-read s pid p id from len f

pub reply-read : (s : TracedSystem) (pid id from len : ℕ) (f : File) → IsRead (file_read s pid id from len f)
unfolding file_read
reply-read s pid id from len f = of ((len == 0) || nat_lt read_limit len)
  where
    of : (b : Bool) → IsRead (cond b (reply.Fail Inval) (of_process s pid id from len f (read_process s pid f)))
    of true = tt
    of false = process-read s pid id from len f (read_process s pid f)

-- a handle of a file that is no control file reads that file
pub handle-read : (s : TracedState) (number from len : ℕ) (h : Held) → is_control h.file ≡ false
    → Stands s.opens number h
    → read_reply s h.controller number from len ≡ file_read s.system h.pid h.lwp from len h.file
unfolding read_reply
handle-read s number from len h plain stands =
    ap (λ o. held_read s.system (readable o) from len) stands ∙ rw plain refl

-- ---- what a tool makes of replies

module _ (kind : ToolKind) (pid : ℕ) (is : IsReader kind) where
  pub first-call : next_call_of (first_tool kind pid) ≡ Some (call.Open pid 0 (file_of kind) mode.Read)
  unfolding next_call_of call_of first_tool
  first-call = rw (is.starts) refl

  pub read-call : (number : ℕ)
      → next_call_of (with_file kind pid step.ReadFile number) ≡ Some (call.Read number 0 read_limit)
  unfolding next_call_of call_of handle_at with_handle nothing_open
  read-call number = refl

  pub wait-call : (number : ℕ) → next_call_of (with_file kind pid step.AwaitEnd number) ≡ Some (call.Poll (number ∷ []))
  unfolding next_call_of call_of handle_at with_handle nothing_open
  wait-call number = refl

  step-with-file : (t : ToolState) (next : Step) → IsWithFile kind next → with_next t next ≡ record t { step = next }
  unfolding with_next
  step-with-file t next (inl reads) = rw reads refl
  step-with-file t next (inr waits) = rw (waits.0) refl

  pub opened-fed : (number : ℕ)
      → fed (first_tool kind pid) (reply.Handle number) ≡ with_file kind pid (step_after kind step.OpenFile) number
  unfolding fed refusal_in accepted advanced opened_in first_tool
  opened-fed number =
      rw (is.starts)
      (step-with-file
      (record (first_tool kind pid) { opened = with_record_open number; step = step.OpenFile })
      (step_after kind step.OpenFile) is.opens)

  pub open-refused : (e : Errno) → WasRefused (fed (first_tool kind pid) (reply.Fail e))
  unfolding first_tool is_passed_over
  open-refused e = refused-fed (first_tool kind pid) e (rw (is.starts) refl) (is.leaves (first_step kind))

  pub read-fed : (number : ℕ) (bytes : List ℕ)
      → fed (with_file kind pid step.ReadFile number) (reply.Bytes bytes) ≡ having_read kind pid
      (with_record_open number) (take (record_room kind) bytes)
  unfolding fed refusal_in accepted advanced with_record with_next bytes_in first_tool
  read-fed number bytes = rw (is.reads) refl

  pub read-refused : (number : ℕ) (e : Errno)
      → WasRefused (fed (with_file kind pid step.ReadFile number) (reply.Fail e))
  unfolding is_passed_over first_tool
  read-refused number e = refused-fed (with_file kind pid step.ReadFile number) e refl (is.leaves step.ReadFile)

  pub bytes-given : (bytes : List ℕ)
      → option_map (take (record_room kind)) (bytes_in (reply.Bytes bytes)) ≡ Some (take (record_room kind) bytes)
  unfolding bytes_in
  bytes-given bytes = refl

  -- its wait was not refused, and it reads
  pub record HasAwaited (number : ℕ) (r : Reply) : Type 0 where
    pub accepted : refusal_in step.AwaitEnd r ≡ None
    pub reads : fed (with_file kind pid step.AwaitEnd number) r ≡ with_file kind pid step.ReadFile number

  pub wait-fed : step_after kind step.AwaitEnd ≡ step.ReadFile → (number : ℕ) (r : Reply)
      → HasAwaited number r ⊎ WasRefused (fed (with_file kind pid step.AwaitEnd number) r)
  unfolding fed refusal_in accepted advanced with_next first_tool is_passed_over
  wait-fed waits number (reply.Fail e) =
      inr (refused-fed (with_file kind pid step.AwaitEnd number) e refl (is.leaves step.AwaitEnd))
  wait-fed waits number _ = inl (record { accepted = refl; reads = rw waits refl })
