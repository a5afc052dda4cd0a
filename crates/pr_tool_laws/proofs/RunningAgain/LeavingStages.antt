use Rattle.std.proofs.Common.{◌≡◌, ◌∷◌, ◌++◌, ℕ, Bool, true, false, List, []}
use Rattle.std.specs.List.{All}
use Rattle.pr_model.specs.Legal.{IsLegal}
use Rattle.pr_model.specs.State.{TracedState}
use Rattle.pr_model.specs.declared.events.Entry.{Entry}
use Rattle.pr_reached.specs.HistoriesInRange.{StaysInRange}
use Rattle.pr_tool_laws.proofs.RunningAgain.LeavingLemmas.{HasLookedFirst, looked-still, ran-still}
use Rattle.pr_tool_laws.proofs.RunningAgain.LookLemmas.{looks}
use Rattle.pr_tool_laws.proofs.RunningAgain.NoRunLemmas.{IsNoRunEntry, close-none, runs-nobody-on}
use Rattle.pr_tool_laws.specs.Leaving.{ClosesAtMost, HasRunAtLast, LeavesItsProcess, RunsNobody}
use Rattle.pr_tool_laws.specs.Stacks.{OpensAtMost}

-- A controller that stops a process looks at it first, and in the end runs it, or lets it be where it stood.

module _ (k pid : ℕ) (first : TracedState) where
  -- it has looked, and has not run the process so far
  pub record HasOnlyLooked (h : List Entry) (stood : Bool) : Type 0 where
    pub looked : HasLookedFirst k pid first h stood
    pub nobody : RunsNobody k pid first h

  -- it has run the process at last, or has let it be
  pub record RanOrLetBe (h : List Entry) (stood : Bool) : Type 0 where
    pub looked : HasLookedFirst k pid first h stood
    pub ran : stood ≡ false → HasRunAtLast k pid first h
    pub lets_be : stood ≡ true → RunsNobody k pid first h

  module _ (h : List Entry) (e : Entry) (stood : Bool) where
    pub only-looked-still : IsNoRunEntry k pid first h e → HasOnlyLooked h stood → HasOnlyLooked (h ++ e ∷ []) stood
    only-looked-still none it = record {
      looked = looked-still k pid first h e stood it.looked;
      nobody = runs-nobody-on k pid first h e none it.nobody;
    }

    pub ran-or-let-still : ClosesAtMost k e → RanOrLetBe h stood → RanOrLetBe (h ++ e ∷ []) stood
    ran-or-let-still closes it = record {
      looked = looked-still k pid first h e stood it.looked;
      ran = λ not. ran-still k pid first h e closes (it.ran not);
      lets_be = λ still.
          runs-nobody-on k pid first h e (close-none k pid first h e closes) (it.lets_be still);
    }

-- in the end it leaves the process so
pub leaves : (n k pid : ℕ) (stood : Bool) (s : TracedState) (h : List Entry) → StaysInRange s h → IsLegal n s h
    → RanOrLetBe k pid s h stood → LeavesItsProcess k pid s h
leaves n k pid stood s h stays legal it =
    let look = looks n k pid stood s h stays.lawful stays.in_range stays.bytes legal it.looked.0
    (All (OpensAtMost k)) it.looked.1 in
    record {
      left = record { stood = stood; looked = look.0; came = look.1; runs = it.ran };
      lets_be = it.lets_be;
    }
