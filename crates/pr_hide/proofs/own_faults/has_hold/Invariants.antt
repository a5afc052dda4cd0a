use Rattle.std.proofs.Common.{◌≡◌, false, take}
use Rattle.std.specs.List.{list_any}
use Rattle.pr_hidden.specs.Hiders.{is_hold}
use Rattle.pr_hide.specs.Hidings.{hiders_of}
use Rattle.pr_hide.proofs.own_faults.has_hold.Given as goal

abbrev pub invariant-loop-number : goal.invariant-loop-number
invariant-loop-number l = list_any (is_hold (hiders_of l.who) l.fn.pid) (take l.number l.fn.opens) ≡ false
