-- What is remembered of the entries of a history, as a set of lwps and a map of handles.
use Rattle.std.specs.Prelude.{ℕ, unwrap_or}
use Rattle.std.specs.BTreeMap.{BTreeMap, get}
use Rattle.std.specs.BTreeSet.{BTreeSet, contains}
use Rattle.std.specs.Ordering.{nat_cmp, ordering_then}
use Rattle.std.specs.declared.cmp.Ordering.{Ordering}
use Rattle.pr_model.specs.UntracedSteps.{Memory}
use Rattle.pr_strip.specs.declared.pasts.Past.{Past}

-- lwps in the order of their processes, and those of one process in the order of their own ids
abbrev pub lwp_cmp : ℕ × ℕ → ℕ × ℕ → Ordering
lwp_cmp a b = ordering_then (nat_cmp a.0 b.0) (nat_cmp a.1 b.1)

-- the lwps of a set are on their way out of a system call, and handles name the processes of a map, or else process 0
unfoldable pub memory_of : BTreeSet (ℕ × ℕ) → BTreeMap ℕ ℕ → Memory
memory_of lwps handles = record {
  returning = λ p l. contains lwp_cmp lwps (p, l);
  named = λ handle. unwrap_or (get nat_cmp handles handle) 0;
}

abbrev pub past_of : Past → Memory
past_of past = memory_of past.returning past.named
