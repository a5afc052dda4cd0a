use Rattle.std.specs.Prelude.{◌≡◌, ℕ, true, List, ◌∷◌, ◌++◌, Option, Some, None, slice_get, if◌then◌else◌}
use Rattle.pr_api.specs.Entries.{call_entry, turn_entry}
use Rattle.pr_line.specs.declared.options.Options.{Options}
use Rattle.pr_model.specs.Handles.{is_writable}
use Rattle.pr_model.specs.declared.calls.Call.TheVariants.{Open}
use Rattle.pr_model.specs.declared.calls.File.{File}
use Rattle.pr_model.specs.declared.calls.Mode.{Mode}
use Rattle.pr_model.specs.declared.calls.Reply.TheVariants.{Handle}
use Rattle.pr_model.specs.declared.events.Did.{Did}
use Rattle.pr_model.specs.declared.events.Did.TheVariants.{Made, Woke}
use Rattle.pr_model.specs.declared.events.Entry.{Entry}
use Rattle.pr_model.specs.declared.events.Res.TheVariants.{Value}
use Rattle.pr_model.specs.declared.events.Turned.{Turned}
use Rattle.pr_num.specs.Syscalls.{is_fork_call}
use Rattle.pr_truss.specs.declared.stages.Stage.TheVariants.{OpeningChildControl}
use Rattle.pr_truss_laws.specs.Exchanges.{Exchange, exchange_of, truss_at}

-- Which children of forks are left to one controller.

-- The child that a turn made. In no reached state does an lwp sleep in a call that makes one; a lawful state may have
-- an lwp that does, and it makes its child when it wakes.
abbrev pub child_made : Did → Option ℕ
child_made (Made call (Value pid)) = if is_fork_call call then Some pid else None
child_made (Woke call (Value pid)) = if is_fork_call call then Some pid else None
child_made _ = None

-- the entry of an open that was granted
abbrev pub granted : ℕ → ℕ → ℕ → File → Mode → ℕ → Entry
granted by pid lwp file mode handle = call_entry by (Open pid lwp file mode) (Handle handle)

-- Where children are followed: between a fork and a handle for writing of its child that this controller is granted, no
-- other controller was granted one.
pub record LeavesForks (k : ℕ) (o : Options) (h : List Entry) : Type 0 where
  pub each : o.follow ≡ true → (before between behind later : List Entry) (parent id : ℕ) (turned : Turned)
      → (by pid lwp handle own_lwp own_handle : ℕ) (file own_file : File) (mode own_mode : Mode)
      → h ≡ before ++ turn_entry parent id turned
      ∷ (between ++ granted by pid lwp file mode handle
      ∷ (behind ++ granted k pid own_lwp own_file own_mode own_handle ∷ later))
      → child_made turned.did ≡ Some pid → is_writable mode ≡ true → is_writable own_mode ≡ true → by ≡ k

-- Where children are followed, fork makes none of the processes that the options name.
pub record NamesNoChild (o : Options) (h : List Entry) : Type 0 where
  pub none : o.follow ≡ true → (before later : List Entry) (parent id place pid : ℕ) (turned : Turned)
      → h ≡ before ++ turn_entry parent id turned ∷ later
      → child_made turned.did ≡ Some pid → slice_get o.pids place ≡ Some pid → ⊥

-- Truss never got hold of this process as the child of a fork: no open of its control file as that of a child was
-- granted.
pub record IsNeverFollowed (k : ℕ) (o : Options) (pid : ℕ) (h : List Entry) : Type 0 where
  pub none : (before later : List Entry) (e : Entry) (opening : Exchange) (handle parent : ℕ)
      → h ≡ before ++ e ∷ later → exchange_of k e ≡ Some opening
      → (truss_at k o before).stage ≡ OpeningChildControl parent pid → opening.reply ≡ Handle handle → ⊥
