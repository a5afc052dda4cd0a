use Rattle.std.specs.Prelude.{◌≡◌, ◌⊎◌, ℕ, List, ◌∷◌, ◌++◌, Some}
use Rattle.pr_api.specs.Entries.{turn_entry}
use Rattle.pr_line.specs.declared.options.Options.{Options}
use Rattle.pr_model.specs.Legal.{state_after}
use Rattle.pr_model.specs.State.{TracedState}
use Rattle.pr_model.specs.declared.calls.File.TheVariants.{Lstatus, Status}
use Rattle.pr_model.specs.declared.events.Entry.{Entry}
use Rattle.pr_model.specs.declared.events.Turned.{Turned}
use Rattle.pr_truss_laws.specs.Exchanges.{exchanges, truss_at}
use Rattle.pr_report_laws.specs.AsChildren.{IsNeverOpenedAsChild}
use Rattle.pr_report_laws.specs.Attachments.{ReadsFile}
use Rattle.pr_report_laws.specs.Births.{child_made}
use Rattle.pr_report_laws.specs.HeldEvents.{DiedHeld}
use Rattle.pr_report_laws.specs.Holds.{HasHold}
use Rattle.pr_report_laws.specs.Lineages.{IsLeftToTruss}
use Rattle.pr_report_laws.specs.SeenTo.{WasOpened, WasRefused, WasSetFree}

-- What has become of a child that a fork or vfork made while truss had hold of its parent and follows children, once
-- truss has finished.

-- SIGKILL ended the parent while truss had hold of it, before truss had read its status, or the statuses of its lwps,
-- after the fork.
pub record DiedUnread (k : ℕ) (o : Options) (parent : ℕ) (first : TracedState) (before : List Entry) (fork : Entry)
    (later : List Entry) : Type 0 where
  pub killed : DiedHeld k o parent first (before ++ fork ∷ later)
  pub status : (between behind : List Entry) (e : Entry) → later ≡ between ++ e ∷ behind
      → ReadsFile k parent Status (state_after first (before ++ fork ∷ between)) e → ⊥
  pub lwps : (between behind : List Entry) (e : Entry) → later ≡ between ++ e ∷ behind
      → ReadsFile k parent Lstatus (state_after first (before ++ fork ∷ between)) e → ⊥

-- The child of a fork that came after these entries and before those, from a first state on.
pub data IsCaredFor (k : ℕ) (o : Options) (parent child : ℕ) (first : TracedState) (before : List Entry) (fork : Entry)
    (later : List Entry) : Type 0 where
  opened : WasOpened child (exchanges k later) → IsCaredFor k o parent child first before fork later
  freed : WasSetFree child (exchanges k later) → IsCaredFor k o parent child first before fork later
  refused : WasRefused child (truss_at k o before).reports (truss_at k o (before ++ fork ∷ later)).reports
      → IsCaredFor k o parent child first before fork later
  lost : DiedUnread k o parent first before fork later → IsCaredFor k o parent child first before fork later

-- No child is left: each that a fork or vfork made in these entries, from a first state on, while truss had hold of the
-- parent, is cared for. This is said of a parent that is left to truss, and of one that truss never opened as a child.
pub record CaresForChildren (k : ℕ) (o : Options) (first : TracedState) (h : List Entry) : Type 0 where
  pub each : (before later : List Entry) (parent id child : ℕ) (turned : Turned)
      → h ≡ before ++ turn_entry parent id turned ∷ later
      → IsLeftToTruss k o parent first h ⊎ IsNeverOpenedAsChild k o parent first h → HasHold k o parent first before
      → child_made turned.did ≡ Some child
      → IsCaredFor k o parent child first before (turn_entry parent id turned) later
