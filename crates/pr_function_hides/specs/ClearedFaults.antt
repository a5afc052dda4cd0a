-- How trusses with calls of functions clear faults: with PCRUN alone, as long as they are not interrupted.
use Rattle.std.specs.Prelude.{◌≡◌, ◌≢◌, ◌++◌, ℕ, true, List, ◌∷◌, Ok}
use Rattle.pr_api.specs.Entries.{call_entry}
use Rattle.pr_hidden.specs.Hiders.{Hiders, hides}
use Rattle.pr_model.specs.declared.calls.Call.{Call}
use Rattle.pr_model.specs.declared.calls.Call.TheVariants as call
use Rattle.pr_model.specs.declared.calls.Reply.{Reply}
use Rattle.pr_model.specs.declared.calls.Reply.TheVariants.{Fail}
use Rattle.pr_model.specs.declared.events.Entry.{Entry}
use Rattle.pr_num.specs.Messages.{first_message}
use Rattle.pr_num.specs.declared.errnos.Errno.TheVariants.{Intr}
use Rattle.pr_num.specs.declared.messages.Message.TheVariants.{Cfault}

-- No one who hides sends PCCFAULT before a call of its own was interrupted. A truss sends it where it leaves a process
-- that it does not run.
pub record ClearByRunning (who : Hiders) (h : List Entry) : Type 0 where
  pub none : (front back : List Entry) (k handle : ℕ) (bytes : List ℕ) (r : Reply) (len : ℕ)
      → h ≡ front ++ call_entry k (call.Ctl handle bytes) r ∷ back → hides who k ≡ true
      → ((before between : List Entry) (c : Call) (x : Reply) → front ≡ before ++ call_entry k c x ∷ between
      → x ≢ Fail Intr) → first_message bytes ≢ Ok (Cfault, len)
