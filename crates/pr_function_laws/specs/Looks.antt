-- When truss with calls of functions looks at a process: at its status right after a poll has named it; and at the
-- statuses of its lwps while it opens the process, and as it leaves it.
use Rattle.std.specs.Prelude.{◌≡◌, ◌≢◌, ◌++◌, ℕ, List, [], ◌∷◌, Some}
use Rattle.pr_line.specs.declared.options.Options.{Options}
use Rattle.pr_model.specs.Legal.{state_after}
use Rattle.pr_model.specs.State.{TracedState}
use Rattle.pr_model.specs.declared.calls.Call.{Call}
use Rattle.pr_model.specs.declared.calls.Call.TheVariants as call
use Rattle.pr_model.specs.declared.calls.File.TheVariants.{Ctl, Lstatus, Status}
use Rattle.pr_model.specs.declared.calls.Reply.{Reply}
use Rattle.pr_model.specs.declared.calls.Reply.TheVariants as reply
use Rattle.pr_model.specs.declared.events.Entry.{Entry}
use Rattle.pr_num.specs.Messages.{spelling}
use Rattle.pr_num.specs.declared.errnos.Errno.{Errno}
use Rattle.pr_num.specs.declared.errnos.Errno.TheVariants.{Intr, Noent}
use Rattle.pr_num.specs.declared.messages.Message.TheVariants as message
use Rattle.pr_truss.specs.Messages.{message_call}
use Rattle.pr_truss_laws.specs.Exchanges.{Exchange, IsGranted, exchange_of, exchanges}
use Rattle.pr_report_laws.specs.Attachments.{HasFile, WasInterrupted}
use Rattle.pr_report_laws.specs.Looks.{IsWhole, WasNamedNow}
use Rattle.pr_report_laws.specs.OwnOpens.{WasLastGranted}
use Rattle.pr_function_laws.specs.Holds.{HasHoldWithFunctions}

-- Truss has hold of a process, and its last call was the poll that named it.
pub record IsNamedNowOf (k : ℕ) (o : Options) (pid : ℕ) (first : TracedState) (h : List Entry) : Type 0 where
  pub held : HasHoldWithFunctions k o pid first h
  pub control : ℕ
  pub has : HasFile k pid Ctl control (state_after first h)
  pub named : WasNamedNow control (exchanges k h)

-- The calls by which truss asks for the stop at which it leaves a process: PCSTOP, PCWSTOP, and the waits for them.
pub data BringsToStop (control : ℕ) : Call → Type 0 where
  directs : BringsToStop control (message_call control message.Stop)
  waits : {until : ℕ} → BringsToStop control (call.CtlWait control until (spelling message.Stop []))
  asks_again : BringsToStop control (message_call control message.Wstop)
  waits_again : {until : ℕ} → BringsToStop control (call.CtlWait control until (spelling message.Wstop []))

-- With which of these truss has done with the stop: a wait for it that was granted; or a call of these that was
-- refused, neither with EINTR nor because the process has ended. Such a refusal truss passes over.
pub data HasDoneWithStop (control : ℕ) (x : Exchange) : Type 0 where
  waited : {until : ℕ} → x.call ≡ call.CtlWait control until (spelling message.Stop []) → IsGranted x
      → HasDoneWithStop control x
  waited_once_more : {until : ℕ} → x.call ≡ call.CtlWait control until (spelling message.Wstop []) → IsGranted x
      → HasDoneWithStop control x
  passes_over : {errno : Errno} → BringsToStop control x.call → x.reply ≡ reply.Fail errno → errno ≢ Intr
      → errno ≢ Noent → HasDoneWithStop control x

-- the last of these exchanges is such a one
pub record WasBroughtToStop (control : ℕ) (xs : List Exchange) : Type 0 where
  pub earlier : List Exchange
  pub last : Exchange
  pub is : xs ≡ earlier ++ last ∷ []
  pub halts : HasDoneWithStop control last

-- When truss looks at the lwps of a process: where it has no hold of it, right behind the wait of its opening, that was
-- granted; or where truss was interrupted, has hold of the process, and its last call is the wait for PCSTOP or for
-- PCWSTOP to it, that was granted, or one of these messages or waits that was refused, neither with EINTR nor because
-- the process has ended. With that look it lets the process go, so that there is no second one.
pub data MayLookAtLwpsOf (k : ℕ) (o : Options) (pid : ℕ) (first : TracedState) (h : List Entry) : Type 0 where
  in_opening : (control until : ℕ) → HasFile k pid Ctl control (state_after first h)
      → (HasHoldWithFunctions k o pid first h → ⊥)
      → WasLastGranted (call.CtlWait control until (spelling message.Stop [])) (exchanges k h)
      → MayLookAtLwpsOf k o pid first h
  leaving : (control : ℕ) → HasFile k pid Ctl control (state_after first h) → HasHoldWithFunctions k o pid first h
      → WasInterrupted k h → WasBroughtToStop control (exchanges k h) → MayLookAtLwpsOf k o pid first h

-- So it is with each read of the status of a process, and of the statuses of its lwps; and each is read whole.
pub record LooksInPlaceOf (k : ℕ) (o : Options) (first : TracedState) (h : List Entry) : Type 0 where
  pub statuses : (before later : List Entry) (e : Entry) (pid handle from len : ℕ) (r : Reply) → h ≡ before ++ e ∷ later
      → exchange_of k e ≡ Some (record { call = call.Read handle from len; reply = r })
      → HasFile k pid Status handle (state_after first before) → IsWhole from len × IsNamedNowOf k o pid first before
  pub lwps : (before later : List Entry) (e : Entry) (pid handle from len : ℕ) (r : Reply) → h ≡ before ++ e ∷ later
      → exchange_of k e ≡ Some (record { call = call.Read handle from len; reply = r })
      → HasFile k pid Lstatus handle (state_after first before)
      → IsWhole from len × MayLookAtLwpsOf k o pid first before
