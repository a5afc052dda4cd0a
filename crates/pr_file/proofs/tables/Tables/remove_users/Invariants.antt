use Rattle.std.proofs.Common.{◌≡◌, drop}
use Rattle.pr_num.specs.Files.{with_all_closed}
use Rattle.pr_file.proofs.tables.Tables.remove_users.Given as goal

abbrev pub invariant-loop-place : goal.invariant-loop-place
invariant-loop-place l = with_all_closed l.self (drop l.place-index l.places) ≡ with_all_closed l.fn.self l.fn.places
