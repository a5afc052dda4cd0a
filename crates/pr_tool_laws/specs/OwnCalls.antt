use Rattle.std.specs.Prelude.{◌≡◌, ◌<◌, List, [], ◌∷◌, Some, length}
use Rattle.pr_model.specs.declared.events.Act.{Act}
use Rattle.pr_model.specs.declared.events.Act.TheVariants.{Call}
use Rattle.pr_model.specs.declared.events.Actor.{Actor}
use Rattle.pr_model.specs.declared.events.Actor.TheVariants.{Controller}
use Rattle.pr_model.specs.declared.events.Entry.{Entry}
use Rattle.pr_world.specs.Controllers.{call_by}
use Rattle.pr_world.specs.ControllerStates.{ControllerState}
use Rattle.pr_world.specs.Protocol.{controllers_after}

-- Controllers that make their own calls, beside others of which nothing is asked. So do those of a history that follows
-- their protocol.

-- whether a call of one of these controllers is the one that it makes next
unfoldable pub IsOwnCall : List ControllerState → Entry → Type 0
IsOwnCall controllers e = by e.actor e.act
  where
    by : Actor → Act → Type 0
    by (Controller k) (Call c r) = k < length controllers → call_by controllers k ≡ Some c
    by _ _ = Unit {0}

-- every call of one of them in a history is the one that it makes after the replies that it got so far
abbrev pub AreOwnCalls : List ControllerState → List Entry → Type 0
AreOwnCalls controllers [] = Unit {0}
AreOwnCalls controllers (e ∷ es) = IsOwnCall controllers e × AreOwnCalls (controllers_after controllers e) es
