use Rattle.std.specs.Prelude.{◌≡◌, ℕ, List, [], ◌∷◌, ◌++◌, Some}
use Rattle.pr_line.specs.declared.options.Options.{Options}
use Rattle.pr_model.specs.State.{TracedState}
use Rattle.pr_model.specs.declared.calls.Reply.TheVariants.{Handle}
use Rattle.pr_model.specs.declared.events.Entry.{Entry}
use Rattle.pr_truss.specs.NextCalls.{open_control}
use Rattle.pr_truss_laws.specs.Exchanges.{exchange_of, exchanges}
use Rattle.pr_report_laws.specs.ToldForks.{ReadsChild}

-- Which processes truss opens as children of forks: those whose control file it opens right behind the read that told
-- of them.

-- The last call of truss in these entries read the status of a process of which it has hold, at a stop that did not
-- stand before truss came, and that told of this child.
pub record WasChildRead (k : ℕ) (o : Options) (child : ℕ) (first : TracedState) (h : List Entry) : Type 0 where
  pub parent : ℕ
  pub before : List Entry
  pub entry : Entry
  pub since : List Entry
  pub is : h ≡ before ++ entry ∷ since
  pub reads : ReadsChild k o parent child first before entry
  pub last : exchanges k since ≡ []

-- In a history truss opened this process as the child of that one: it was granted an open of its control file right
-- behind a read of the status of the parent that told of the child.
pub record WasOpenedAsChild (k : ℕ) (o : Options) (parent child : ℕ) (first : TracedState) (h : List Entry)
    : Type 0 where
  pub before : List Entry
  pub entry : Entry
  pub handle : ℕ
  pub later : List Entry
  pub is : h ≡ before ++ entry ∷ later
  pub opens : exchange_of k entry ≡ Some (record { call = open_control child; reply = Handle handle })
  pub told : WasChildRead k o child first before
  pub of : told.parent ≡ parent

-- Truss opened this process as the child of none.
pub record IsNeverOpenedAsChild (k : ℕ) (o : Options) (pid : ℕ) (first : TracedState) (h : List Entry) : Type 0 where
  pub none : (parent : ℕ) → WasOpenedAsChild k o parent pid first h → ⊥
