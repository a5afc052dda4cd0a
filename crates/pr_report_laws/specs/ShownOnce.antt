use Rattle.std.specs.Prelude.{◌≡◌, ℕ, true, List, [], ◌∷◌, ◌++◌, Some}
use Rattle.pr_line.specs.Selections.{is_selected}
use Rattle.pr_line.specs.declared.options.Options.{Options}
use Rattle.pr_model.specs.Legal.{after, state_after}
use Rattle.pr_model.specs.State.{TracedState}
use Rattle.pr_model.specs.declared.calls.File.TheVariants.{Ctl}
use Rattle.pr_model.specs.declared.calls.Reply.{Reply}
use Rattle.pr_model.specs.declared.events.Entry.{Entry}
use Rattle.pr_truss.specs.NextCalls.{run_call}
use Rattle.pr_truss_laws.specs.Exchanges.{exchange_of, truss_at}
use Rattle.pr_report_laws.specs.Attachments.{HasFile}
use Rattle.pr_report_laws.specs.Reads.{ReadsEvent}
use Rattle.pr_report_laws.specs.Shown.{LwpEvent, shown}
use Rattle.pr_report_laws.specs.ToldForks.{HasNoOldStop}

-- Truss shows what it reads, right then, and once: it shows no other event of a process before it has run it. That is
-- so of each process, whatever others do to it.

-- In an entry truss shows one event more of a process.
pub record ShowsIn (k : ℕ) (o : Options) (pid : ℕ) (before : List Entry) (e : Entry) : Type 0 where
  pub event : LwpEvent
  pub is : shown pid (truss_at k o (before ++ e ∷ [])) ≡ shown pid (truss_at k o before) ++ event ∷ []

-- What truss shows of a process in an entry: nothing new, or one event more, which it reads in this entry.
pub data Shows (k : ℕ) (o : Options) (pid : ℕ) (first : TracedState) (before : List Entry) (e : Entry) : Type 0 where
  nothing_new : shown pid (truss_at k o (before ++ e ∷ [])) ≡ shown pid (truss_at k o before)
      → Shows k o pid first before e
  one_more : (w : ShowsIn k o pid before e) → ReadsEvent k pid (state_after first before) e w.event
      → Shows k o pid first before e

pub record ShowsWhatItReads (k : ℕ) (o : Options) (first : TracedState) (h : List Entry) : Type 0 where
  pub each : (before later : List Entry) (e : Entry) (pid : ℕ) → h ≡ before ++ e ∷ later
      → Shows k o pid first before e

-- Once no old stop of a process is left, truss shows each event of it that it reads and the options select.
pub record ShowsWhatIsNew (k : ℕ) (o : Options) (first : TracedState) (h : List Entry) : Type 0 where
  pub each : (before later : List Entry) (e : Entry) (pid : ℕ) (event : LwpEvent) → h ≡ before ++ e ∷ later
      → HasNoOldStop k o pid first before → ReadsEvent k pid (state_after first before) e event
      → is_selected o event.event ≡ true → (w : ShowsIn k o pid before e) × (w.event ≡ event)

-- In an entry it sends PCRUN to a process.
pub record RunsIn (k pid : ℕ) (s : TracedState) (e : Entry) : Type 0 where
  pub handle : ℕ
  pub reply : Reply
  pub is : exchange_of k e ≡ Some (record { call = run_call handle; reply = reply })
  pub has : HasFile k pid Ctl handle s

-- In none of these entries, from a state on, does it do so.
pub record IsLeftStanding (k pid : ℕ) (s : TracedState) (h : List Entry) : Type 0 where
  pub none : (before later : List Entry) (e : Entry) → h ≡ before ++ e ∷ later
      → RunsIn k pid (state_after s before) e → ⊥

-- Between two entries in which it shows events of a process it sends PCRUN to the process.
pub record ShowsStopsOnce (k : ℕ) (o : Options) (first : TracedState) (h : List Entry) : Type 0 where
  pub each : (before between later : List Entry) (e f : Entry) (pid : ℕ)
      → h ≡ before ++ e ∷ (between ++ f ∷ later) → ShowsIn k o pid before e
      → IsLeftStanding k pid (after (state_after first before) e) between
      → ShowsIn k o pid (before ++ e ∷ between) f → ⊥
