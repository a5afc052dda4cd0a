use Rattle.std.proofs.Common.{◌<◌, length, arith}
use Rattle.std.proofs.lemmas.Grind.{common_steps}
use Rattle.pr_file_laws.proofs.UserLemmas.{sharing, HasRoom-taken, HasRoom-free}
use Rattle.pr_file.proofs.tables.Tables.add_users.Goals as goal
use Rattle.pr_file.proofs.tables.Tables.add_users.Goals.{in-Some, in_default}

pub loop-place-preserved : goal.loop-place-preserved
loop-place-preserved c =
    let within : c.loop-place.place-index < length c.args.places.now = omega arith in
    elim c.match-place.branch [
      | in-Some w ↦
          record {
            shared = grind (arith, common_steps, sharing);
            room =
                rw (w.self-is, w.add_user.ensures) (HasRoom-taken _ _ _ _ within c.loop-place.invariant.room);
          }
      | in_default w ↦
          record {
            shared = grind (arith, common_steps, sharing);
            room =
                rw w.self-is (HasRoom-free _ _ _ within c.loop-place.invariant.room);
          }
    ]
