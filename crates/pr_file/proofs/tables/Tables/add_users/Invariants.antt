use Rattle.std.proofs.Common.{◌≡◌, ◌-◌, length, drop}
use Rattle.pr_parts.specs.FileTables.{HasRoom}
use Rattle.pr_parts.specs.FileCalls.{with_all_shared}
use Rattle.pr_file.proofs.tables.Tables.add_users.Given as goal

abbrev pub invariant-loop-place : goal.invariant-loop-place
invariant-loop-place l = record {
  shared : with_all_shared l.self (drop l.place-index l.places) ≡ with_all_shared l.fn.self l.fn.places;
  room : HasRoom l.self (length l.places - l.place-index);
}
