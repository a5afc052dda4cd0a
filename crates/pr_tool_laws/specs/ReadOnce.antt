use Rattle.std.specs.Prelude.{◌≡◌, ℕ, List, [], ◌∷◌}
use Rattle.pr_model.specs.declared.calls.Call.TheVariants as call
use Rattle.pr_model.specs.declared.calls.File.{File}
use Rattle.pr_model.specs.declared.calls.File.TheVariants as file
use Rattle.pr_model.specs.declared.calls.Mode.TheVariants as mode
use Rattle.pr_model.specs.declared.calls.Reply.TheVariants as reply
use Rattle.pr_model.specs.declared.events.Entry.{Entry}
use Rattle.pr_model.specs.declared.tools.ToolKind.{ToolKind}
use Rattle.pr_model.specs.declared.tools.ToolKind.TheVariants.{Pflags, Psig, Pstack, Pmap, Pfiles, Pstop, Prun, Pwait, Ptree}
use Rattle.pr_num.specs.Limits.{read_limit}
use Rattle.pr_truss_laws.specs.Exchanges.{exchanges}

-- All calls of a tool that only reads, when it has finished and was not refused: it has read once.

-- A controller has made three calls and no other: it opened this file of a process, read it from its beginning by the
-- handle that it got, and closed that. None was refused.
pub record ReadsFileOnce (k pid : ℕ) (name : File) (h : List Entry) : Type 0 where
  pub handle : ℕ
  pub bytes : List ℕ
  pub calls : exchanges k h
      ≡ (record { call = call.Open pid 0 name mode.Read; reply = reply.Handle handle })
      ∷ (record { call = call.Read handle 0 read_limit; reply = reply.Bytes bytes })
      ∷ (record { call = call.Close handle; reply = reply.Done }) ∷ []

-- The same, with a fourth call between the open and the read: it waited until that handle was ready (poll(2)).
pub record AwaitsAndReadsOnce (k pid : ℕ) (name : File) (h : List Entry) : Type 0 where
  pub handle : ℕ
  pub bytes : List ℕ
  pub calls : exchanges k h
      ≡ (record { call = call.Open pid 0 name mode.Read; reply = reply.Handle handle })
      ∷ (record { call = call.Poll (handle ∷ []); reply = reply.Ready handle })
      ∷ (record { call = call.Read handle 0 read_limit; reply = reply.Bytes bytes })
      ∷ (record { call = call.Close handle; reply = reply.Done }) ∷ []

-- A controller has made one call and no other: it listed the processes.
pub record ListsOnce (k : ℕ) (h : List Entry) : Type 0 where
  pub bytes : List ℕ
  pub calls : exchanges k h ≡ (record { call = call.List; reply = reply.Bytes bytes }) ∷ []

-- All calls of a tool, with their replies, a row a tool that only reads.
unfoldable pub ReadsOnce : ToolKind → ℕ → ℕ → List Entry → Type 0
ReadsOnce Pflags k pid h = ReadsFileOnce k pid file.Lstatus h
ReadsOnce Psig k pid h = ReadsFileOnce k pid file.Sigact h
ReadsOnce Pstack k pid h = ⊥
ReadsOnce Pmap k pid h = ReadsFileOnce k pid file.Map h
ReadsOnce Pfiles k pid h = ReadsFileOnce k pid file.Fds h
ReadsOnce Pstop k pid h = ⊥
ReadsOnce Prun k pid h = ⊥
ReadsOnce Pwait k pid h = AwaitsAndReadsOnce k pid file.Psinfo h
ReadsOnce Ptree k pid h = ListsOnce k h
