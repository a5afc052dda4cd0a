use Rattle.std.proofs.Common.{◌≡◌, map, take}
use Rattle.pr_commands.specs.Hidings.{hider_of}
use Rattle.pr_commands.proofs.hidings.hiders_of.Given as goal

-- what the controllers so far hide
abbrev pub invariant-loop-plan : goal.invariant-loop-plan
invariant-loop-plan l = l.who.items ≡ map hider_of (take l.plan-index l.plans)
