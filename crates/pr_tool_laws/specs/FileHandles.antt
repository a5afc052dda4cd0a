use Rattle.std.specs.Prelude.{◌≡◌, ℕ, Some}
use Rattle.pr_model.specs.Handles.{handle_of}
use Rattle.pr_model.specs.State.{TracedState}
use Rattle.pr_model.specs.declared.calls.File.{File}
use Rattle.pr_model.specs.declared.handles.Held.{Held}

-- A controller has a handle of this file of a process, or of an lwp of it.
pub record HasHandleOf (k pid id : ℕ) (name : File) (handle : ℕ) (s : TracedState) : Type 0 where
  pub held : Held
  pub there : handle_of s.opens k handle ≡ Some held
  pub of : held.pid ≡ pid
  pub lwp : held.lwp ≡ id
  pub file : held.file ≡ name
