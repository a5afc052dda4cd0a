use Rattle.std.specs.Prelude.{◌==◌, ◌&&◌, ◌+◌, ℕ, Bool, true, false, List, [], ◌∷◌, ◌++◌, Option, Some, None, if◌then◌else◌}
use Rattle.pr_num.specs.declared.errnos.Errno.TheVariants.{Io}
use Rattle.pr_model.specs.declared.calls.Call.{Call}
use Rattle.pr_model.specs.declared.calls.Call.TheVariants as call
use Rattle.pr_model.specs.declared.calls.Reply.{Reply}
use Rattle.pr_model.specs.declared.calls.Reply.TheVariants.{Bytes, Fail}
use Rattle.pr_model.specs.declared.events.Entry.{Entry}
use Rattle.pr_model.specs.declared.events.Turned.{Turned}
use Rattle.pr_api.specs.Entries.{call_entry, tick_entry, turn_entry}
use Rattle.pr_api.specs.Shapes.{has_shape}
use Rattle.pr_api.specs.Views.{KernelView}

-- A kernel that answers from a list of replies, and tells no machine.

-- The replies that it still has, in order; its history and how many places that has; its clock; and the one lwp that it
-- has, if any.
pub record TableState : Type 0 where
  pub replies : List Reply
  pub history : List Entry
  pub places : ℕ
  pub clock : ℕ
  pub lwp : Option (ℕ × ℕ)

-- a kernel before its first step: it has no lwp
abbrev pub first_table : List Reply → ℕ → TableState
first_table replies places = record { replies = replies; history = []; places = places; clock = 0; lwp = None }

-- What a call gets that the next reply does not fit, or that finds none: EIO, and of a list no bytes.
unfoldable pub otherwise : Call → Reply
otherwise (call.Open pid lwp file mode) = Fail Io
otherwise (call.Close handle) = Fail Io
otherwise (call.Ctl handle bytes) = Fail Io
otherwise (call.CtlWait handle until bytes) = Fail Io
otherwise (call.Read handle at len) = Fail Io
otherwise (call.Poll handles) = Fail Io
otherwise (call.Interrupt controller) = Fail Io
otherwise (call.Spawn program held) = Fail Io
otherwise (call.Kill pid sig) = Fail Io
otherwise (call.Until moment) = Fail Io
otherwise call.List = Bytes []

-- a reply, and the replies that are left
pub record Taken : Type 0 where
  pub reply : Reply
  pub left : List Reply

-- A call takes the next reply where that has the call's shape; else the list stays.
unfoldable pub taken : Call → List Reply → Taken
taken c [] = record { reply = otherwise c; left = [] }
taken c (r ∷ rs) =
    if has_shape c r then record { reply = r; left = rs } else record { reply = otherwise c; left = r ∷ rs }

-- the kernel after a call of a controller
abbrev pub after_taken : ℕ → Call → TableState → Taken → TableState
after_taken by c k t = record k { replies = t.left; history = k.history ++ call_entry by c t.reply ∷ [] }

unfoldable pub after_call : ℕ → Call → TableState → TableState
after_call by c k = after_taken by c k (taken c k.replies)

-- the kernel after a turn of an lwp, which did this
abbrev pub after_turn : ℕ → ℕ → Turned → TableState → TableState
after_turn pid id turned k = record k { history = k.history ++ turn_entry pid id turned ∷ [] }

-- the kernel after a millisecond
abbrev pub after_tick : TableState → TableState
after_tick k = record k { clock = k.clock + 1; history = k.history ++ tick_entry (k.clock + 1) ∷ [] }

-- whether an lwp is the one that there is
abbrev pub is_the_lwp : Option (ℕ × ℕ) → ℕ → ℕ → Bool
is_the_lwp None pid id = false
is_the_lwp (Some lwp) pid id = (lwp.0 == pid) && (lwp.1 == id)

abbrev pub the_lwp : Option (ℕ × ℕ) → List (ℕ × ℕ)
the_lwp None = []
the_lwp (Some lwp) = lwp ∷ []

-- what contracts see of it as a kernel: every call is ready
abbrev pub table_view : TableState → KernelView
table_view k = record {
  machine = None;
  history = k.history;
  places = k.places;
  is_ready = λ by c. true;
  lwps = the_lwp k.lwp;
  can_turn = is_the_lwp k.lwp;
  clock = k.clock;
  has_sleeper = false;
}
