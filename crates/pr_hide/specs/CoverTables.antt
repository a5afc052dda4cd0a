use Rattle.std.specs.Prelude.{ℕ, List, [], false, unwrap_or}
use Rattle.std.specs.BTreeMap.{BTreeMap, get}
use Rattle.std.specs.BTreeSet.{BTreeSet, contains}
use Rattle.std.specs.Ordering.{nat_cmp}
use Rattle.pr_hidden.specs.Covers.{Covers, Patch}
use Rattle.pr_hide.specs.declared.cover_tables.CoverTable.{CoverTable}

-- What is hidden of each process, as a set of processes and a map of their patches.

-- The agents of the processes of a set are a controller's, and a process that is not in the map has no patches. No lwp
-- is said to stand at a fault of a controller's.
unfoldable pub covers_in : BTreeSet ℕ → BTreeMap ℕ (List Patch) → Covers
covers_in agents patches = λ pid. record {
  patches = unwrap_or (get nat_cmp patches pid) [];
  faulted = λ id. false;
  agent = contains nat_cmp agents pid;
}

abbrev pub covers_of : CoverTable → Covers
covers_of table = covers_in table.agents table.patches
