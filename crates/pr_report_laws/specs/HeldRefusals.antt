use Rattle.std.specs.Prelude.{◌≡◌, ◌==◌, ◌⊎◌, ℕ, Bool, false, All, List, [], ◌∷◌, ◌++◌, Some, filter}
use Rattle.pr_line.specs.declared.options.Options.{Options}
use Rattle.pr_model.specs.State.{TracedState}
use Rattle.pr_model.specs.declared.calls.Call.{Call}
use Rattle.pr_model.specs.declared.calls.Call.TheVariants as call
use Rattle.pr_model.specs.declared.calls.File.{File}
use Rattle.pr_model.specs.declared.calls.Mode.{Mode}
use Rattle.pr_model.specs.declared.events.Entry.{Entry}
use Rattle.pr_num.specs.Control.{rlc_mode}
use Rattle.pr_num.specs.declared.messages.Message.TheVariants.{Set}
use Rattle.pr_truss.specs.Messages.{message_call}
use Rattle.pr_truss.specs.declared.reports.Report.{Report}
use Rattle.pr_truss.specs.declared.reports.Report.TheVariants as report
use Rattle.pr_truss_laws.specs.Exchanges.{Exchange, exchange_of, exchanges, truss_at}
use Rattle.pr_report_laws.specs.Holds.{HasHold}
use Rattle.pr_report_laws.specs.LaterSends.{WasJustOpened}
use Rattle.pr_report_laws.specs.OwnOpens.{IsGoingOn}

-- Of which processes truss says that it cannot trace them: of those that it is about to open, and never of what it has
-- hold of, or has let go.

-- whether a report says that truss cannot trace this process
abbrev pub tells_refusal_of : ℕ → Report → Bool
tells_refusal_of pid (report.CannotTrace of errno) = of == pid
tells_refusal_of pid _ = false

-- these reports of those
abbrev pub refusals_of : ℕ → List Report → List Report
refusals_of pid reports = filter (tells_refusal_of pid) reports

-- whether a call opens a file of this process
abbrev pub opens_file_of : ℕ → Call → Bool
opens_file_of pid (call.Open of id file mode) = of == pid
opens_file_of pid _ = false

-- While it has hold of a process, and in the entry by which it gets hold of it, it reports none of that process, but
-- where it is refused an open of it, as where the words name it twice.
pub record TellsNoRefusalOfWhatItHolds (k : ℕ) (o : Options) (first : TracedState) (h : List Entry) : Type 0 where
  pub each : (before later : List Entry) (e : Entry) (x : Exchange) (pid : ℕ) → h ≡ before ++ e ∷ later
      → exchange_of k e ≡ Some x → HasHold k o pid first before ⊎ HasHold k o pid first (before ++ e ∷ [])
      → opens_file_of pid x.call ≡ false
      → refusals_of pid (truss_at k o (before ++ e ∷ [])).reports ≡ refusals_of pid (truss_at k o before).reports

-- By which call of truss, after these entries, it may be told that it cannot trace a process: by an open of it; by
-- any call as long as it is to open what it was given, in which time it lets no process go; or by the call that sets
-- PR_RLC of a child whose control file it has just opened.
pub data MayTellRefusal (k pid : ℕ) (h : List Entry) : Call → Type 0 where
  opens : {id : ℕ} {file : File} {mode : Mode} → MayTellRefusal k pid h (call.Open pid id file mode)
  as_given : {c : Call} → All IsGoingOn (exchanges k h) → MayTellRefusal k pid h c
  as_child : {control : ℕ} → WasJustOpened pid control (exchanges k h)
      → MayTellRefusal k pid h (message_call control (Set rlc_mode))

-- By no other call does it report one. So it reports none of a process that it has let go, but where it is refused an
-- open of that process.
pub record TellsRefusalsOfOpens (k : ℕ) (o : Options) (h : List Entry) : Type 0 where
  pub each : (before later : List Entry) (e : Entry) (x : Exchange) (pid : ℕ) → h ≡ before ++ e ∷ later
      → exchange_of k e ≡ Some x
      → (refusals_of pid (truss_at k o (before ++ e ∷ [])).reports ≡ refusals_of pid (truss_at k o before).reports)
      ⊎ MayTellRefusal k pid before x.call
