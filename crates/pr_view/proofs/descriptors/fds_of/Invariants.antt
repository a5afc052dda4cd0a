use Rattle.std.proofs.Common.{◌≡◌, ◌++◌, drop}
use Rattle.pr_model.specs.Records.{fd_entries_from}
use Rattle.pr_view.proofs.descriptors.fds_of.Given as goal

-- the descriptors so far, and those to come
abbrev pub invariant-loop-place : goal.invariant-loop-place
invariant-loop-place l =
    l.entries.items ++ fd_entries_from l.files l.place (drop l.place l.fds) ≡ fd_entries_from l.files 0 l.fds
