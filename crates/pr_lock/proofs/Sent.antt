-- A seat may go to another thread, and a lock be shared, where the value may go. `crosses_lock` is for `search`, beside
-- `sendable` and std's `crosses`.
use denote.RattleType.{RattleType}
use denote.Param.Send.{IsSend, IsSync, sendable}
use Rattle.std.proofs.Crossing.{crosses}
use Rattle.std.specs.contracts.option.Option as Option
use Rattle.atomic_table.proofs.shared.Seat.TheSendSync as seats
use Rattle.atomic_table.proofs.shared.Shared.TheSendSync as tables
use Rattle.atomic_table.proofs.send_lease.SendLease.TheSendSync as leases
use Rattle.pr_lock.specs.declared.logged.Logged.{Ghosts}
use Rattle.pr_lock.specs.contracts.seats.Seat as Seat
use Rattle.pr_lock.specs.contracts.seats.Shared as Shared

pub Seat-send : (V I : RattleType) → IsSend V → IsSend (Seat.the_row V I)
Seat-send V I value = search (sendable, crosses, seats.the_send) depth 20

pub Shared-send : (V I : RattleType) (g : Ghosts V.Denot I.Denot) → IsSend V → IsSend (Shared.the_row V I g)
Shared-send V I g value =
    let slot : IsSend (Option.the_row V) = search (sendable, crosses) depth 20 in
    search (sendable, crosses, tables.the_send, leases.the_send) depth 20

pub Shared-sync : (V I : RattleType) (g : Ghosts V.Denot I.Denot) → IsSend V → IsSync (Shared.the_row V I g)
Shared-sync V I g value =
    let slot : IsSend (Option.the_row V) = search (sendable, crosses) depth 20 in
    search (sendable, crosses, tables.the_sync, leases.the_sync) depth 20

-- the same where a seat is a field
pub Seat-send_field : (V I : RattleType) → IsSend V → IsSend (Seat.the_field V I).row
Seat-send_field V I value = search (sendable, crosses, seats.the_send) depth 20

pub ruleset crosses_lock = (Seat-send, Seat-send_field, Shared-send, Shared-sync)
