use Rattle.std.specs.Prelude.{◌≡◌, ℕ, List, [], ◌∷◌, ◌++◌, Some}
use Rattle.pr_line.specs.declared.options.Options.{Options}
use Rattle.pr_model.specs.Events.{Logged, events_from}
use Rattle.pr_model.specs.Handles.{handle_of}
use Rattle.pr_model.specs.Legal.{state_after}
use Rattle.pr_model.specs.State.{TracedState}
use Rattle.pr_model.specs.declared.calls.Call.{Call}
use Rattle.pr_model.specs.declared.calls.Reply.TheVariants.{Fail}
use Rattle.pr_model.specs.declared.events.Entry.{Entry}
use Rattle.pr_model.specs.declared.handles.Held.{Held}
use Rattle.pr_num.specs.declared.errnos.Errno.TheVariants.{Noent}
use Rattle.pr_truss_laws.specs.Business.{goes_to}
use Rattle.pr_truss_laws.specs.Exchanges.{exchange_of}
use Rattle.pr_report_laws.specs.Grips.{GetsHold, IsLeftIn}

-- When truss has hold of a process, by the entries of a history alone: from the entry that completes the opening of it,
-- to the one in which truss is told that it has ended, or in which truss, which was interrupted before, reads the
-- statuses of its lwps.

-- ---- where a hold ends

-- In an entry truss is told that a process has ended: a call of it to a handle that it has of the process is refused
-- with ENOENT.
pub record IsToldOfEnd (k pid : ℕ) (s : TracedState) (e : Entry) : Type 0 where
  pub call : Call
  pub handle : ℕ
  pub held : Held
  pub is : exchange_of k e ≡ Some (record { call = call; reply = Fail Noent })
  pub goes : goes_to call ≡ Some handle
  pub there : handle_of s.opens k handle ≡ Some held
  pub of : held.pid ≡ pid

-- In this entry truss lets a process go: it is told that the process has ended, or it leaves the process.
pub data LetsGoIn (k pid : ℕ) (s : TracedState) (before : List Entry) (e : Entry) : Type 0 where
  told_end : IsToldOfEnd k pid (state_after s before) e → LetsGoIn k pid s before e
  leaves_it : IsLeftIn k pid s before e → LetsGoIn k pid s before e

-- After the entries before, in none of these does it let the process go.
pub record KeepsHold (k pid : ℕ) (s : TracedState) (before hold : List Entry) : Type 0 where
  pub none : (first rest : List Entry) (e : Entry) → hold ≡ first ++ e ∷ rest → LetsGoIn k pid s (before ++ first) e → ⊥

-- No entries come later, or in the first of them it lets the process go.
pub data LetsGoThen (k pid : ℕ) (s : TracedState) (before : List Entry) : List Entry → Type 0 where
  not_yet : LetsGoThen k pid s before []
  ends_in : (e : Entry) (later : List Entry) → LetsGoIn k pid s before e → LetsGoThen k pid s before (e ∷ later)

-- ---- the hold

-- In these entries of a history, and in no others around them, truss has hold of a process: the entry before them
-- completes the opening of it.
pub record IsHold (k : ℕ) (o : Options) (pid : ℕ) (s : TracedState) (front : List Entry) (opening : Entry)
    (hold later : List Entry) : Type 0 where
  pub begins : GetsHold k o pid front opening
  pub keeps : KeepsHold k pid s (front ++ opening ∷ []) hold
  pub ends : LetsGoThen k pid s ((front ++ opening ∷ []) ++ hold) later

-- At the end of this history truss has hold of the process.
pub record HasHold (k : ℕ) (o : Options) (pid : ℕ) (s : TracedState) (h : List Entry) : Type 0 where
  pub front : List Entry
  pub opening : Entry
  pub hold : List Entry
  pub is : h ≡ front ++ opening ∷ hold
  pub begins : GetsHold k o pid front opening
  pub keeps : KeepsHold k pid s (front ++ opening ∷ []) hold

-- In no entry of a history does it get hold of it.
pub record IsNeverHeld (k : ℕ) (o : Options) (pid : ℕ) (h : List Entry) : Type 0 where
  pub none : (front later : List Entry) (opening : Entry) → h ≡ front ++ opening ∷ later
      → GetsHold k o pid front opening → ⊥

-- ---- what comes in it

-- What is logged in a history, of any process, while truss has hold of this one. It gets hold of it once at most, so
-- that this is one list.
pub data CameHeld (k : ℕ) (o : Options) (pid : ℕ) (s : TracedState) (h : List Entry) : List Logged → Type 0 where
  never : IsNeverHeld k o pid h → CameHeld k o pid s h []
  in_hold : (front hold later : List Entry) (opening : Entry) → h ≡ front ++ opening ∷ (hold ++ later)
      → IsHold k o pid s front opening hold later
      → CameHeld k o pid s h (events_from (state_after s (front ++ opening ∷ [])) hold)
