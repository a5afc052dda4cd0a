use Rattle.std.specs.Prelude.{◌≡◌, ◌≢◌, ℕ, List, [], ◌∷◌, ◌++◌, None, Some}
use Rattle.std.specs.List.{All}
use Rattle.pr_line.specs.declared.options.Options.{Options}
use Rattle.pr_model.specs.Handles.{handle_of}
use Rattle.pr_model.specs.Legal.{state_after}
use Rattle.pr_model.specs.Replies.{handle_in}
use Rattle.pr_model.specs.State.{TracedState, live_process}
use Rattle.pr_model.specs.declared.calls.Call.{Call}
use Rattle.pr_model.specs.declared.calls.Call.TheVariants as call
use Rattle.pr_model.specs.declared.calls.File.{File}
use Rattle.pr_model.specs.declared.calls.File.TheVariants as file
use Rattle.pr_model.specs.declared.calls.Mode.TheVariants.{Read, WriteExcl}
use Rattle.pr_model.specs.declared.calls.Reply.TheVariants as reply
use Rattle.pr_model.specs.declared.events.Entry.{Entry}
use Rattle.pr_model.specs.declared.handles.Held.{Held}
use Rattle.pr_num.specs.Control.{rlc_mode}
use Rattle.pr_num.specs.declared.errnos.Errno.TheVariants.{Intr, Noent}
use Rattle.pr_num.specs.declared.messages.Message.TheVariants as message
use Rattle.pr_truss.specs.Messages.{message_call}
use Rattle.pr_truss_laws.specs.Exchanges.{Exchange, IsGranted, calls_in, exchange_of, exchanges}
use Rattle.pr_truss_laws.specs.Given.{IsWholeOpening, reply_at}

-- When truss watches a process, by its calls and their replies alone.

-- The last calls of truss in a history are a whole opening of this process, and none of them was refused.
pub record HasOpened (k : ℕ) (o : Options) (pid : ℕ) (h : List Entry) : Type 0 where
  pub earlier : List Exchange
  pub opening : List Exchange
  pub is : exchanges k h ≡ earlier ++ opening
  pub whole : IsWholeOpening o pid opening

-- the calls by which truss opens the child of a fork, with the handle of its control file
abbrev pub child_calls : ℕ → ℕ → List Call
child_calls pid control =
    call.Open pid 0 file.Ctl WriteExcl ∷ message_call control (message.Set rlc_mode) ∷ call.Open pid 0 file.Status Read
    ∷ call.Open pid 0 file.Lstatus Read ∷ call.Open pid 0 file.Mem Read ∷ message_call control (message.Run 0) ∷ []

-- The last calls of truss are those by which it opens the child of a fork. None of them was refused before the last
-- one, by which the child runs; that one may be, but not because the child has ended.
pub record HasFollowed (k : ℕ) (pid : ℕ) (h : List Entry) : Type 0 where
  pub earlier : List Exchange
  pub opening : List Exchange
  pub last : Exchange
  pub is : exchanges k h ≡ earlier ++ (opening ++ last ∷ [])
  pub calls : calls_in (opening ++ last ∷ []) ≡ child_calls pid (handle_in (reply_at opening 0))
  pub granted : All IsGranted opening
  pub lives : last.reply ≢ reply.Fail Noent

-- In an entry truss read a file of a process, and got bytes.
pub record ReadsFile (k pid : ℕ) (f : File) (s : TracedState) (e : Entry) : Type 0 where
  pub handle : ℕ
  pub from : ℕ
  pub len : ℕ
  pub bytes : List ℕ
  pub held : Held
  pub is : exchange_of k e ≡ Some (record { call = call.Read handle from len; reply = reply.Bytes bytes })
  pub there : handle_of s.opens k handle ≡ Some held
  pub of : held.pid ≡ pid
  pub file : held.file ≡ f

-- A controller has a file of a process open, with this handle.
pub record HasFile (k pid : ℕ) (f : File) (number : ℕ) (s : TracedState) : Type 0 where
  pub held : Held
  pub there : handle_of s.opens k number ≡ Some held
  pub of : held.pid ≡ pid
  pub file : held.file ≡ f

-- An earlier call of truss was refused with EINTR.
pub record WasInterrupted (k : ℕ) (h : List Entry) : Type 0 where
  pub before : List Exchange
  pub call : Call
  pub later : List Exchange
  pub is : exchanges k h ≡ before ++ record { call = call; reply = reply.Fail Intr } ∷ later

-- Why truss does not watch a process any more: it has ended; or an earlier call of truss was refused with EINTR, and in
-- this entry truss has read the statuses of the lwps of the process.
pub data IsLetGo (k pid : ℕ) (s : TracedState) (before : List Entry) (e : Entry) : Type 0 where
  ended : live_process (state_after s before).system pid ≡ None → IsLetGo k pid s before e
  left : WasInterrupted k before → ReadsFile k pid file.Lstatus (state_after s before) e → IsLetGo k pid s before e
