use Rattle.std.specs.Prelude.{◌≡◌, ◌⊎◌, ℕ, true, List, [], ◌∷◌, ◌++◌, None, Some}
use Rattle.std.specs.List.{All}
use Rattle.pr_api.specs.Entries.{turn_entry}
use Rattle.pr_line.specs.declared.options.Options.{Options}
use Rattle.pr_model.specs.Legal.{state_after}
use Rattle.pr_model.specs.Replies.{handle_in}
use Rattle.pr_model.specs.State.{TracedState}
use Rattle.pr_model.specs.declared.calls.Call.TheVariants.{Close}
use Rattle.pr_model.specs.declared.calls.File.TheVariants.{Lstatus, Status}
use Rattle.pr_model.specs.declared.events.Entry.{Entry}
use Rattle.pr_model.specs.declared.events.Turned.{Turned}
use Rattle.pr_num.specs.Control.{rlc_mode}
use Rattle.pr_num.specs.declared.errnos.Errno.{Errno}
use Rattle.pr_num.specs.declared.messages.Message.TheVariants.{Set}
use Rattle.pr_truss.specs.Messages.{message_call}
use Rattle.pr_truss.specs.NextCalls.{open_control}
use Rattle.pr_truss.specs.Trusses.{first_truss}
use Rattle.pr_truss.specs.declared.reports.Report.{Report}
use Rattle.pr_truss.specs.declared.reports.Report.TheVariants.{CannotTrace}
use Rattle.pr_truss_laws.specs.Exchanges.{Exchange, IsGranted, calls_in, errno_in, exchanges, truss_at}
use Rattle.pr_report_laws.specs.Attachments.{ReadsFile}
use Rattle.pr_report_laws.specs.Births.{IsNeverFollowed, child_made}
use Rattle.pr_report_laws.specs.Follows.{following_calls}
use Rattle.pr_report_laws.specs.Lineages.{IsLeftToTruss}
use Rattle.pr_report_laws.specs.Reported.{IsKilled}
use Rattle.pr_report_laws.specs.Watching.{watches}

-- What has become of a child that a fork or vfork made while truss watched its parent and follows children, once truss
-- has finished.

-- Truss opened the child: these exchanges hold the calls of its opening, and none of them was refused before the last
-- one, by which the child runs.
pub record WasOpened (child : ℕ) (xs : List Exchange) : Type 0 where
  pub before : List Exchange
  pub opening : List Exchange
  pub last : Exchange
  pub after : List Exchange
  pub is : xs ≡ before ++ (opening ++ last ∷ after)
  pub calls : calls_in (opening ++ last ∷ []) ≡ following_calls child (opening ++ last ∷ [])
  pub granted : All IsGranted opening

-- Truss set the child free: its control file was opened, PR_RLC was set, and the file was closed.
pub record WasSetFree (child : ℕ) (xs : List Exchange) : Type 0 where
  pub before : List Exchange
  pub opening : Exchange
  pub setting : Exchange
  pub closing : Exchange
  pub after : List Exchange
  pub is : xs ≡ before ++ opening ∷ setting ∷ closing ∷ after
  pub opens : opening.call ≡ open_control child
  pub granted : errno_in opening.reply ≡ None
  pub sets : setting.call ≡ message_call (handle_in opening.reply) (Set rlc_mode)
  pub closes : closing.call ≡ Close (handle_in opening.reply)

-- A call of its opening was refused, which truss has reported after these reports.
pub record WasRefused (child : ℕ) (base reports : List Report) : Type 0 where
  pub errno : Errno
  pub some : List Report
  pub more : List Report
  pub is : reports ≡ base ++ (some ++ CannotTrace child errno ∷ more)

-- SIGKILL ended the parent while truss watched it, before truss had read its status, or the statuses of its lwps, after
-- the fork.
pub record WasLost (k : ℕ) (o : Options) (parent : ℕ) (first : TracedState) (before : List Entry) (fork : Entry)
    (later : List Entry) : Type 0 where
  pub killed : IsKilled k parent (first_truss o) first (before ++ fork ∷ later)
  pub status : (between behind : List Entry) (e : Entry) → later ≡ between ++ e ∷ behind
      → ReadsFile k parent Status (state_after first (before ++ fork ∷ between)) e → ⊥
  pub lwps : (between behind : List Entry) (e : Entry) → later ≡ between ++ e ∷ behind
      → ReadsFile k parent Lstatus (state_after first (before ++ fork ∷ between)) e → ⊥

-- The child of a fork that came after these entries and before those, from a first state on.
pub data IsSeenTo (k : ℕ) (o : Options) (parent child : ℕ) (first : TracedState) (before : List Entry) (fork : Entry)
    (later : List Entry) : Type 0 where
  opened : WasOpened child (exchanges k later) → IsSeenTo k o parent child first before fork later
  freed : WasSetFree child (exchanges k later) → IsSeenTo k o parent child first before fork later
  refused : WasRefused child (truss_at k o before).reports (truss_at k o (before ++ fork ∷ later)).reports
      → IsSeenTo k o parent child first before fork later
  lost : WasLost k o parent first before fork later → IsSeenTo k o parent child first before fork later

-- No child is left: each that a fork or vfork made in these entries, from a first state on, while truss watched the
-- parent, is seen to. This is said of a parent that is left to truss, and of one of which truss never got hold as the
-- child of a fork.
pub record LeavesNoChild (k : ℕ) (o : Options) (first : TracedState) (h : List Entry) : Type 0 where
  pub each : (before later : List Entry) (parent id child : ℕ) (turned : Turned)
      → h ≡ before ++ turn_entry parent id turned ∷ later
      → IsLeftToTruss k o parent first h ⊎ IsNeverFollowed k o parent h → watches (truss_at k o before) parent ≡ true
      → child_made turned.did ≡ Some child → IsSeenTo k o parent child first before (turn_entry parent id turned) later
