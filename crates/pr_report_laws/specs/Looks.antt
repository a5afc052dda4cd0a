use Rattle.std.specs.Prelude.{◌≡◌, ◌≢◌, ℕ, List, [], ◌∷◌, ◌++◌, Some}
use Rattle.pr_line.specs.declared.options.Options.{Options}
use Rattle.pr_model.specs.Legal.{state_after}
use Rattle.pr_model.specs.State.{TracedState}
use Rattle.pr_model.specs.declared.calls.Call.{Call}
use Rattle.pr_model.specs.declared.calls.Call.TheVariants as call
use Rattle.pr_model.specs.declared.calls.File.TheVariants.{Ctl, Lstatus, Status}
use Rattle.pr_model.specs.declared.calls.Reply.{Reply}
use Rattle.pr_model.specs.declared.calls.Reply.TheVariants as reply
use Rattle.pr_model.specs.declared.events.Entry.{Entry}
use Rattle.pr_num.specs.Control.{fork_mode}
use Rattle.pr_num.specs.Limits.{read_limit}
use Rattle.pr_num.specs.Messages.{spelling}
use Rattle.pr_num.specs.declared.errnos.Errno.TheVariants.{Noent}
use Rattle.pr_num.specs.declared.messages.Message.TheVariants as message
use Rattle.pr_truss.specs.Messages.{message_call}
use Rattle.pr_truss_laws.specs.Exchanges.{Exchange, exchange_of, exchanges}
use Rattle.pr_report_laws.specs.Attachments.{HasFile, WasInterrupted}
use Rattle.pr_report_laws.specs.Holds.{HasHold}
use Rattle.pr_report_laws.specs.OwnOpens.{WasLastGranted}

-- When truss looks at a process: at its status right after a poll has named the process; and at the statuses of its
-- lwps once while it opens the process, and once as it leaves it.

-- the last of these exchanges is a poll that was replied that this handle is ready
pub record WasNamedNow (handle : ℕ) (xs : List Exchange) : Type 0 where
  pub earlier : List Exchange
  pub handles : List ℕ
  pub is : xs ≡ earlier ++ record { call = call.Poll handles; reply = reply.Ready handle } ∷ []

-- the last of these exchanges has this call
pub record WasCalledLast (c : Call) (xs : List Exchange) : Type 0 where
  pub earlier : List Exchange
  pub last : Exchange
  pub is : xs ≡ earlier ++ last ∷ []
  pub call : last.call ≡ c

-- Truss has hold of a process, and its last call was the poll that named it.
pub record IsNamedNow (k : ℕ) (o : Options) (pid : ℕ) (first : TracedState) (h : List Entry) : Type 0 where
  pub held : HasHold k o pid first h
  pub control : ℕ
  pub has : HasFile k pid Ctl control (state_after first h)
  pub named : WasNamedNow control (exchanges k h)

-- When truss looks at the lwps of a process: right behind the wait of its opening, that was granted; or where truss was
-- interrupted, has hold of the process, and has just said that the children of this one are followed no more. With that
-- look it lets the process go, so that there is no second one.
pub data MayLookAtLwps (k : ℕ) (o : Options) (pid : ℕ) (first : TracedState) (h : List Entry) : Type 0 where
  in_opening : (control until : ℕ) → HasFile k pid Ctl control (state_after first h)
      → WasLastGranted (call.CtlWait control until (spelling message.Stop [])) (exchanges k h)
      → MayLookAtLwps k o pid first h
  leaving : (control : ℕ) → HasFile k pid Ctl control (state_after first h) → HasHold k o pid first h
      → WasInterrupted k h → WasCalledLast (message_call control (message.Unset fork_mode)) (exchanges k h)
      → MayLookAtLwps k o pid first h

-- a record is read whole
abbrev pub IsWhole : ℕ → ℕ → Type 0
IsWhole from len = (from ≡ 0) × (len ≡ read_limit)

-- So it is with each read of the status of a process, and of the statuses of its lwps.
pub record LooksInPlace (k : ℕ) (o : Options) (first : TracedState) (h : List Entry) : Type 0 where
  pub statuses : (before later : List Entry) (e : Entry) (pid handle from len : ℕ) (r : Reply) → h ≡ before ++ e ∷ later
      → exchange_of k e ≡ Some (record { call = call.Read handle from len; reply = r })
      → HasFile k pid Status handle (state_after first before) → IsWhole from len × IsNamedNow k o pid first before
  pub lwps : (before later : List Entry) (e : Entry) (pid handle from len : ℕ) (r : Reply) → h ≡ before ++ e ∷ later
      → exchange_of k e ≡ Some (record { call = call.Read handle from len; reply = r })
      → HasFile k pid Lstatus handle (state_after first before) → IsWhole from len × MayLookAtLwps k o pid first before

-- ---- the message before the last look

-- The first of these exchanges, if there is one, reads the statuses of the lwps of a process, whole, by a file of it
-- that the controller has open in this state.
abbrev pub LooksFirst : ℕ → ℕ → TracedState → List Exchange → Type 0
LooksFirst k pid s [] = Unit {0}
LooksFirst k pid s (x ∷ xs) =
    (number : ℕ) × (HasFile k pid Lstatus number s × (x.call ≡ call.Read number 0 read_limit))

-- Once it was interrupted truss looks at the lwps of a process right behind PCUNSET PR_FORK, unless the reply tells
-- that the process has ended. So it sends that once to each process of which it has hold.
pub record LooksAtWhatItLeaves (k : ℕ) (first : TracedState) (h : List Entry) : Type 0 where
  pub each : (before later : List Entry) (e : Entry) (pid control : ℕ) (r : Reply) → h ≡ before ++ e ∷ later
      → exchange_of k e ≡ Some (record { call = message_call control (message.Unset fork_mode); reply = r })
      → r ≢ reply.Fail Noent → WasInterrupted k before → HasFile k pid Ctl control (state_after first before)
      → LooksFirst k pid (state_after first before) (exchanges k later)
