use Rattle.std.proofs.Common.{arith, refl}
use Rattle.pr_drive.proofs.EntryLemmas.{on-both}
use Rattle.pr_drive.proofs.MoveLemmas.{among, called-back}
use Rattle.pr_drive.proofs.SeatLemmas.{seats-length}
use Rattle.pr_drive.proofs.seats.Seats.call_by.Goals as goal

pub index_mut-requires : goal.index_mut-requires
index_mut-requires c =
    let within = among c.args.self.now _ _ c.self.view_is c.args.number c.args.call c.requires.next in
    omega (arith, within, seats-length c.self.inside.controllers.items, c.self.inside.controllers.ok)

pub call_of_controller-requires-clause-by : goal.call_of_controller-requires-clause-by
call_of_controller-requires-clause-by c =
    let within = among c.args.self.now _ _ c.self.view_is c.args.number c.args.call c.requires.next in
    omega (arith, within, seats-length c.self.inside.controllers.items, c.self.invariant)

pub returns : goal.returns
returns c =
    let within = among c.args.self.now _ _ c.self.view_is c.args.number c.args.call c.requires.next in
    λ until. on-both _ _ _ c.call_of_controller.result
    (λ called fed. called-back c.args.self.now _ _ c.self.view_is c.args.number c.args.call
    c.call_of_controller.new.kern c.self.inside.controllers.items
    c.index_mut.result.now c.call_of_controller.new.controller refl
    (omega (arith, within, seats-length c.self.inside.controllers.items)) c.index_mut.ensures.value
    c.requires.next c.requires.place called fed until)
    c.call_of_controller.ensures.called c.call_of_controller.ensures.fed
