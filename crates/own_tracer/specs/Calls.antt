use Rattle.std.specs.Prelude.{ℕ, Bool, true, false, Option, Some}
use Rattle.pr_model.specs.declared.calls.Call.{Call}
use Rattle.pr_model.specs.declared.calls.Call.TheVariants as call
use Rattle.pr_model.specs.declared.calls.File.TheVariants.{Ctl}
use Rattle.pr_model.specs.declared.calls.Mode.TheVariants.{WriteExcl}
use Rattle.pr_model.specs.declared.calls.Reply.{Reply}
use Rattle.pr_model.specs.declared.calls.Reply.TheVariants.{Used}

-- The open of a control file, and how the reply to a message tells that it was taken.

abbrev pub open_call : ℕ → Call
open_call pid = call.Open pid 0 Ctl WriteExcl

abbrev pub was_taken : Option Reply → Bool
was_taken (Some (Used len)) = true
was_taken _ = false
