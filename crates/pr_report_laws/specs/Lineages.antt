use Rattle.std.specs.Prelude.{◌≡◌, ◌≢◌, ◌⊎◌, ℕ, true, List, ◌∷◌, ◌++◌, Some, slice_get}
use Rattle.pr_api.specs.Entries.{turn_entry}
use Rattle.pr_line.specs.declared.options.Options.{Options}
use Rattle.pr_model.specs.Handles.{is_writable}
use Rattle.pr_model.specs.State.{TracedState}
use Rattle.pr_model.specs.declared.calls.File.{File}
use Rattle.pr_model.specs.declared.calls.File.TheVariants.{Mem}
use Rattle.pr_model.specs.declared.calls.Mode.{Mode}
use Rattle.pr_model.specs.declared.events.Entry.{Entry}
use Rattle.pr_model.specs.declared.events.Turned.{Turned}
use Rattle.pr_report_laws.specs.AsChildren.{WasOpenedAsChild}
use Rattle.pr_report_laws.specs.Births.{child_made, granted}

-- Which children of forks are left to truss, each by itself: of one that truss opens as a child, and of those that it
-- descends from as children that truss opened, nobody else got hold before truss did.

-- ---- the lineage of a process

-- The process itself, and each one that it descends from by the children that truss opened as such. One that truss
-- opened by its id alone begins a line.
pub data Lineage (k : ℕ) (o : Options) (pid : ℕ) (s : TracedState) (h : List Entry) : ℕ → Type 0 where
  itself : Lineage k o pid s h pid
  descends : (child of : ℕ) → Lineage k o pid s h child → WasOpenedAsChild k o of child s h → Lineage k o pid s h of

-- ---- who comes first to a child

-- the options name a process
pub record IsNamed (o : Options) (pid : ℕ) : Type 0 where
  pub place : ℕ
  pub is : slice_get o.pids place ≡ Some pid

-- Somebody has had a process in these entries: a handle for writing of it was granted to another controller; or truss
-- itself, where the options name the process, was granted its `as`, the last file of an opening by its id, behind which
-- it writes to it. As long as that opening has come to no file but the first three, the process is as it was.
pub record WasHad (k : ℕ) (o : Options) (pid : ℕ) (h : List Entry) : Type 0 where
  pub before : List Entry
  pub by : ℕ
  pub lwp : ℕ
  pub file : File
  pub mode : Mode
  pub handle : ℕ
  pub later : List Entry
  pub is : h ≡ before ++ granted by pid lwp file mode handle ∷ later
  pub who : ((by ≢ k) × (is_writable mode ≡ true)) ⊎ ((by ≡ k) × ((file ≡ Mem) × IsNamed o pid))

-- In these entries a fork made a child, and later somebody has had it.
pub record WasTaken (k : ℕ) (o : Options) (child : ℕ) (h : List Entry) : Type 0 where
  pub before : List Entry
  pub parent : ℕ
  pub id : ℕ
  pub turned : Turned
  pub since : List Entry
  pub is : h ≡ before ++ turn_entry parent id turned ∷ since
  pub forks : child_made turned.did ≡ Some child
  pub had : WasHad k o child since

-- ---- what is asked of a history

-- Where children are followed: a process is left to truss, and so is each one that it descends from, if it was not
-- taken where truss opened it as a child. What becomes of other children of forks does not matter.
pub record IsLeftToTruss (k : ℕ) (o : Options) (pid : ℕ) (s : TracedState) (h : List Entry) : Type 0 where
  pub each : o.follow ≡ true → (child parent : ℕ) → Lineage k o pid s h child
      → (opened : WasOpenedAsChild k o parent child s h) → WasTaken k o child opened.before → ⊥
