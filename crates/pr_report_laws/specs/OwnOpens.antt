use Rattle.std.specs.Prelude.{◌≡◌, ◌≢◌, ◌⊎◌, ℕ, true, All, List, [], ◌∷◌, ◌++◌, Some}
use Rattle.pr_line.specs.declared.options.Options.{Options}
use Rattle.pr_model.specs.Replies.{handle_in}
use Rattle.pr_model.specs.State.{TracedState}
use Rattle.pr_model.specs.declared.calls.Call.{Call}
use Rattle.pr_model.specs.declared.calls.Call.TheVariants as call
use Rattle.pr_model.specs.declared.calls.File.{File}
use Rattle.pr_model.specs.declared.calls.File.TheVariants.{Ctl, Lstatus, Mem, Status}
use Rattle.pr_model.specs.declared.calls.Mode.{Mode}
use Rattle.pr_model.specs.declared.calls.Mode.TheVariants.{Read}
use Rattle.pr_model.specs.declared.calls.Reply.{Reply}
use Rattle.pr_model.specs.declared.calls.Reply.TheVariants as reply
use Rattle.pr_model.specs.declared.events.Entry.{Entry}
use Rattle.pr_num.specs.Control.{rlc_mode}
use Rattle.pr_num.specs.declared.errnos.Errno.TheVariants.{Intr}
use Rattle.pr_num.specs.declared.messages.Message.TheVariants.{Set}
use Rattle.pr_truss.specs.Messages.{message_call}
use Rattle.pr_truss.specs.NextCalls.{open_control}
use Rattle.pr_truss_laws.specs.Business.{WasMade, is_wait}
use Rattle.pr_truss_laws.specs.Exchanges.{Exchange, IsGranted, exchange_of, exchanges}
use Rattle.pr_truss_laws.specs.Soon.{IsNoPoll}
use Rattle.pr_report_laws.specs.Lineages.{IsNamed}
use Rattle.pr_report_laws.specs.ToldForks.{ReadsChild, ReadsLastChild}

-- Truss opens a file just where an opening has it, or where it sets a child free: files of what it was given before it
-- polls, those of a child right after the read that told of it, and each other file of a process right behind the one
-- before it.

-- ---- the control file

-- a call that is no poll, and no wait that was interrupted
pub record IsGoingOn (x : Exchange) : Type 0 where
  pub no_poll : IsNoPoll x
  pub goes_on : is_wait x.call ≡ true → x.reply ≢ reply.Fail Intr

-- Truss is still to open what it was given: it has not polled, and no wait of it was interrupted. This process is among
-- them: the words name it, or truss made it.
pub record IsToBeOpened (o : Options) (pid : ℕ) (xs : List Exchange) : Type 0 where
  pub given : IsNamed o pid ⊎ WasMade pid xs
  pub still : All IsGoingOn xs

-- The last call of truss in these entries is the read that told it of a child. It is a read of the status of a process
-- that truss has hold of, at a stop that did not stand before truss came; or its last look at such a process, which it
-- leaves.
pub record WasToldLast (k : ℕ) (o : Options) (child : ℕ) (first : TracedState) (h : List Entry) : Type 0 where
  pub parent : ℕ
  pub before : List Entry
  pub entry : Entry
  pub since : List Entry
  pub is : h ≡ before ++ entry ∷ since
  pub reads : ReadsChild k o parent child first before entry ⊎ ReadsLastChild k o parent child first before entry
  pub last : exchanges k since ≡ []

-- When truss opens the control file of a process.
pub data MayOpenControl (k : ℕ) (o : Options) (pid : ℕ) (first : TracedState) (h : List Entry) : Type 0 where
  as_given : IsToBeOpened o pid (exchanges k h) → MayOpenControl k o pid first h
  as_child : o.follow ≡ true → WasToldLast k o pid first h → MayOpenControl k o pid first h

-- ---- the other files

-- the last of these exchanges has this call, and was granted
pub record WasLastGranted (c : Call) (xs : List Exchange) : Type 0 where
  pub earlier : List Exchange
  pub last : Exchange
  pub is : xs ≡ earlier ++ last ∷ []
  pub call : last.call ≡ c
  pub granted : IsGranted last

-- the last two open the control file of a child and set PR_RLC of it, and were granted
pub record WasLastReleased (pid : ℕ) (xs : List Exchange) : Type 0 where
  pub opening : Exchange
  pub sets : WasLastGranted (message_call (handle_in opening.reply) (Set rlc_mode)) xs
  pub earlier : List Exchange
  pub before : sets.earlier ≡ earlier ++ opening ∷ []
  pub opens : opening.call ≡ open_control pid
  pub granted : IsGranted opening

-- When truss opens another file of a process: right behind the open of the one before it, of the same process, which
-- was granted. Their order is `ctl`, `status`, `lstatus`, `as`. Of a child PCSET PR_RLC comes between the first two.
pub data MayOpenNext (pid : ℕ) (xs : List Exchange) : File → Type 0 where
  status : WasLastGranted (open_control pid) xs → MayOpenNext pid xs Status
  child_status : WasLastReleased pid xs → MayOpenNext pid xs Status
  lstatus : WasLastGranted (call.Open pid 0 Status Read) xs → MayOpenNext pid xs Lstatus
  memory : WasLastGranted (call.Open pid 0 Lstatus Read) xs → MayOpenNext pid xs Mem

-- ---- each open

pub record OpensInPlace (k : ℕ) (o : Options) (first : TracedState) (h : List Entry) : Type 0 where
  pub controls : (before later : List Entry) (e : Entry) (r : Reply) (pid id : ℕ) (mode : Mode)
      → h ≡ before ++ e ∷ later → exchange_of k e ≡ Some (record { call = call.Open pid id Ctl mode; reply = r })
      → MayOpenControl k o pid first before
  pub files : (before after : List Exchange) (r : Reply) (pid id : ℕ) (file : File) (mode : Mode)
      → exchanges k h ≡ before ++ record { call = call.Open pid id file mode; reply = r } ∷ after → file ≢ Ctl
      → MayOpenNext pid before file
