-- That truss with calls of functions shows a stop once.
use Rattle.std.specs.Prelude.{◌≡◌, ◌++◌, ℕ, List, ◌∷◌, Some}
use Rattle.pr_line.specs.declared.options.Options.{Options}
use Rattle.pr_model.specs.Legal.{after, state_after}
use Rattle.pr_model.specs.State.{TracedState}
use Rattle.pr_model.specs.declared.calls.File.TheVariants.{Ctl}
use Rattle.pr_model.specs.declared.calls.Reply.{Reply}
use Rattle.pr_model.specs.declared.events.Entry.{Entry}
use Rattle.pr_num.specs.declared.messages.Message.TheVariants as message
use Rattle.pr_report_laws.specs.Attachments.{HasFile}
use Rattle.pr_truss.specs.Messages.{message_call}
use Rattle.pr_truss_laws.specs.Exchanges.{exchange_of}
use Rattle.pr_function_laws.specs.OrdinaryRuns.{ShowsOneMore}

-- In an entry it sends PCRUN to a process, with whatever run flags.
pub record SendsRunIn (k pid : ℕ) (s : TracedState) (e : Entry) : Type 0 where
  pub handle : ℕ
  pub flags : ℕ
  pub reply : Reply
  pub is : exchange_of k e ≡ Some (record { call = message_call handle (message.Run flags); reply = reply })
  pub has : HasFile k pid Ctl handle s

-- In none of these entries, from a state on, does it do so.
pub record IsNotRun (k pid : ℕ) (s : TracedState) (h : List Entry) : Type 0 where
  pub none : (before later : List Entry) (e : Entry) → h ≡ before ++ e ∷ later
      → SendsRunIn k pid (state_after s before) e → ⊥

-- Between two entries in which it shows events of a process it sends PCRUN to the process, whatever the reply. So it
-- shows no stop twice, unless that is refused.
pub record ShowsStopsOnceOf (k : ℕ) (o : Options) (first : TracedState) (h : List Entry) : Type 0 where
  pub each : (before between later : List Entry) (e f : Entry) (pid : ℕ)
      → h ≡ before ++ e ∷ (between ++ f ∷ later) → ShowsOneMore k o pid before e
      → IsNotRun k pid (after (state_after first before) e) between
      → ShowsOneMore k o pid (before ++ e ∷ between) f → ⊥
