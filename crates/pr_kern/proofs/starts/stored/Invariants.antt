use Rattle.std.proofs.Common.{◌≡◌, ◌++◌}
use Rattle.pr_kern.specs.Starts.{stored}
use Rattle.pr_proc.specs.FirstFiles.{stored_alone}
use Rattle.pr_kern.proofs.starts.stored.Given as goal

-- the files so far are stored, and the others are to come
abbrev pub invariant-loop-name : goal.invariant-loop-name
invariant-loop-name l =
    (l.all ≡ stored_alone (stored l.yielded)) × (l.fn.files.items ≡ l.yielded ++ l.name-iterator.rest.items)
