use Rattle.std.specs.Prelude.{◌≡◌, ◌⊎◌, ℕ, List, [], ◌∷◌, ◌++◌, None, Some, slice_get}
use Rattle.pr_line.specs.declared.options.Options.{Options}
use Rattle.pr_model.specs.Handles.{handle_of}
use Rattle.pr_model.specs.Legal.{state_after}
use Rattle.pr_model.specs.Replies.{handle_in}
use Rattle.pr_model.specs.State.{TracedState}
use Rattle.pr_model.specs.declared.calls.Call.{Call}
use Rattle.pr_model.specs.declared.calls.Call.TheVariants as call
use Rattle.pr_model.specs.declared.calls.File.{File}
use Rattle.pr_model.specs.declared.calls.File.TheVariants.{Ctl, Lstatus, Mem, Status}
use Rattle.pr_model.specs.declared.calls.Reply.{Reply}
use Rattle.pr_model.specs.declared.events.Entry.{Entry}
use Rattle.pr_model.specs.declared.handles.Held.{Held}
use Rattle.pr_num.specs.Control.{rlc_mode}
use Rattle.pr_num.specs.declared.errnos.Errno.{Errno}
use Rattle.pr_num.specs.declared.messages.Message.TheVariants.{Set}
use Rattle.pr_truss.specs.Messages.{message_call}
use Rattle.pr_truss.specs.NextCalls.{open_control}
use Rattle.pr_truss_laws.specs.Business.{IsAmong}
use Rattle.pr_truss_laws.specs.Exchanges.{Exchange, errno_in, exchange_of, exchanges}
use Rattle.pr_report_laws.specs.Attachments.{HasFile}
use Rattle.pr_report_laws.specs.Grips.{IsLeftIn}
use Rattle.pr_report_laws.specs.Holds.{HasHold, IsToldOfEnd}

-- Truss calls nothing but files that it has open, and polls each of them once; it closes none of a process of which it
-- has hold, and the control file last; and once a process has ended, or truss has looked at it for the last time, it
-- closes all that it has of it.

-- ---- what it calls

-- A controller has this file of some process open, with this handle.
pub record HasOpen (k : ℕ) (f : File) (s : TracedState) (handle : ℕ) : Type 0 where
  pub pid : ℕ
  pub has : HasFile k pid f handle s

-- A call that names handles names files that the controller has open: a message, a wait and a poll control files, a
-- read one of the others, and a close any file. So none is refused with EBADF.
abbrev pub NamesItsOwn : ℕ → TracedState → Call → Type 0
NamesItsOwn k s (call.Ctl handle bytes) = HasOpen k Ctl s handle
NamesItsOwn k s (call.CtlWait handle until bytes) = HasOpen k Ctl s handle
NamesItsOwn k s (call.Poll handles) = (handle : ℕ) → IsAmong handle handles → HasOpen k Ctl s handle
NamesItsOwn k s (call.Read handle from len) =
    HasOpen k Status s handle ⊎ (HasOpen k Lstatus s handle ⊎ HasOpen k Mem s handle)
NamesItsOwn k s (call.Close handle) = (f : File) × HasOpen k f s handle
NamesItsOwn k s _ = Unit {0}

-- So does each call of truss.
pub record CallsItsFiles (k : ℕ) (first : TracedState) (h : List Entry) : Type 0 where
  pub each : (before later : List Entry) (e : Entry) (x : Exchange) → h ≡ before ++ e ∷ later
      → exchange_of k e ≡ Some x → NamesItsOwn k (state_after first before) x.call

-- No poll of it names a file twice.
pub record PollsEachOnce (k : ℕ) (h : List Entry) : Type 0 where
  pub each : (before later : List Entry) (e : Entry) (handles : List ℕ) (r : Reply) (one two handle : ℕ)
      → h ≡ before ++ e ∷ later → exchange_of k e ≡ Some (record { call = call.Poll handles; reply = r })
      → slice_get handles one ≡ Some handle → slice_get handles two ≡ Some handle → one ≡ two

-- ---- what it keeps open

-- It closes no file of a process of which it has hold.
pub record ClosesNothingHeld (k : ℕ) (o : Options) (first : TracedState) (h : List Entry) : Type 0 where
  pub each : (before later : List Entry) (e : Entry) (pid handle : ℕ) (f : File) (r : Reply) → h ≡ before ++ e ∷ later
      → exchange_of k e ≡ Some (record { call = call.Close handle; reply = r })
      → HasFile k pid f handle (state_after first before) → HasHold k o pid first before → ⊥

-- Where it closes the control file of a process it has no other file of that process open. So its last close of a
-- process is the one that releases it.
pub record ClosesControlsLast (k : ℕ) (first : TracedState) (h : List Entry) : Type 0 where
  pub each : (before later : List Entry) (e : Entry) (pid handle number : ℕ) (f : File) (r : Reply)
      → h ≡ before ++ e ∷ later → exchange_of k e ≡ Some (record { call = call.Close handle; reply = r })
      → HasFile k pid Ctl handle (state_after first before) → HasFile k pid f number (state_after first before)
      → number ≡ handle

-- ---- all files of a process

-- These calls close these handles, one after another, as far as they go, before they do anything else.
abbrev pub CloseFirst : List Exchange → List ℕ → Type 0
CloseFirst [] handles = Unit {0}
CloseFirst (x ∷ xs) [] = Unit {0}
CloseFirst (x ∷ xs) (handle ∷ handles) = (x.call ≡ call.Close handle) × CloseFirst xs handles

-- These are the handles of all files of a process that a controller has open, and no others.
pub record AreAllOf (k pid : ℕ) (s : TracedState) (handles : List ℕ) : Type 0 where
  pub all : (handle : ℕ) (held : Held) → handle_of s.opens k handle ≡ Some held → held.pid ≡ pid
      → IsAmong handle handles
  pub only : (handle : ℕ) → IsAmong handle handles → (f : File) × HasFile k pid f handle s

-- These calls close each file of a process that a controller has open in a state, before they do anything else.
abbrev pub CloseAllOf : ℕ → ℕ → TracedState → List Exchange → Type 0
CloseAllOf k pid s xs = (handles : List ℕ) × (AreAllOf k pid s handles × CloseFirst xs handles)

-- ---- what has ended

-- Where truss is told that a process has ended it closes each file of it that it has open, before it calls anything
-- else.
pub record ClosesAllThatEnded (k : ℕ) (first : TracedState) (h : List Entry) : Type 0 where
  pub each : (before later : List Entry) (e : Entry) (pid : ℕ) → h ≡ before ++ e ∷ later
      → IsToldOfEnd k pid (state_after first before) e → CloseAllOf k pid (state_after first before) (exchanges k later)

-- ---- what it leaves

-- These calls set PR_RLC by the control file of a child, and close that file; and then these handles.
abbrev pub FreeAndClose : ℕ → List ℕ → List Exchange → Type 0
FreeAndClose control handles [] = Unit {0}
FreeAndClose control handles (x ∷ xs) =
    (x.call ≡ message_call control (Set rlc_mode)) × CloseFirst xs (control ∷ handles)

-- What truss calls behind its last look at a process, which it leaves: it closes these handles. One read of memory of
-- the process may come before, for the line of the event that the look showed; or it sets a child free, of which the
-- look told, where its control file is granted.
pub data CloseSoon (k pid : ℕ) (s : TracedState) (handles : List ℕ) : List Exchange → Type 0 where
  at_once : {xs : List Exchange} → CloseFirst xs handles → CloseSoon k pid s handles xs
  with_text : {x : Exchange} {xs : List Exchange} (memory from len : ℕ) → HasFile k pid Mem memory s
      → x.call ≡ call.Read memory from len → CloseFirst xs handles → CloseSoon k pid s handles (x ∷ xs)
  with_child : {x : Exchange} {xs : List Exchange} (child : ℕ) → x.call ≡ open_control child
      → errno_in x.reply ≡ None → FreeAndClose (handle_in x.reply) handles xs → CloseSoon k pid s handles (x ∷ xs)
  without_child : {x : Exchange} {xs : List Exchange} (child : ℕ) (errno : Errno) → x.call ≡ open_control child
      → errno_in x.reply ≡ Some errno → CloseFirst xs handles → CloseSoon k pid s handles (x ∷ xs)

-- So it closes each file that it has open of a process at which it has looked for the last time.
pub record ClosesWhatItLeaves (k : ℕ) (first : TracedState) (h : List Entry) : Type 0 where
  pub each : (before later : List Entry) (e : Entry) (pid : ℕ) → h ≡ before ++ e ∷ later → IsLeftIn k pid first before e
      → (handles : List ℕ)
      × (AreAllOf k pid (state_after first before) handles
      × CloseSoon k pid (state_after first before) handles (exchanges k later))
