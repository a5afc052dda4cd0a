use Rattle.std.specs.Prelude.{◌≡◌, true, List, [], ◌∷◌, Some}
use Rattle.pr_api.specs.Shapes.{has_shape}
use Rattle.pr_api.specs.Sleepers.{some_sleeper}
use Rattle.pr_model.specs.Legal.{after}
use Rattle.pr_model.specs.State.{TracedState}
use Rattle.pr_model.specs.declared.events.Act.{Act}
use Rattle.pr_model.specs.declared.events.Act.TheVariants.{Call, Tick}
use Rattle.pr_model.specs.declared.events.Actor.{Actor}
use Rattle.pr_model.specs.declared.events.Actor.TheVariants.{Controller, Clock}
use Rattle.pr_model.specs.declared.events.Entry.{Entry}
use Rattle.pr_world.specs.Controllers.{call_by, is_clock_awaited, with_fed}
use Rattle.pr_world.specs.ControllerStates.{ControllerState}

-- The controller protocol: in a history each controller makes the calls that it makes after the replies that it got so
-- far, and the clock goes on only where an lwp or a controller waits for it. What lwps do is their own.

-- the controllers after an entry: who made a call got its reply
unfoldable pub controllers_after : List ControllerState → Entry → List ControllerState
controllers_after controllers e = by e.actor e.act
  where
    by : Actor → Act → List ControllerState
    by (Controller k) (Call c r) = with_fed k r controllers
    by _ _ = controllers

-- the controllers after a history
abbrev pub controllers_at : List ControllerState → List Entry → List ControllerState
controllers_at controllers [] = controllers
controllers_at controllers (e ∷ es) = controllers_at (controllers_after controllers e) es

-- ---- over any kernel

-- whether a call is the one that its controller makes, with a reply of its shape
unfoldable pub IsNextCall : List ControllerState → Entry → Type 0
IsNextCall controllers e = by e.actor e.act
  where
    by : Actor → Act → Type 0
    by (Controller k) (Call c r) = (call_by controllers k ≡ Some c) × (has_shape c r ≡ true)
    by _ _ = Unit {0}

-- whether every call of a history is
abbrev pub AreNextCalls : List ControllerState → List Entry → Type 0
AreNextCalls controllers [] = Unit {0}
AreNextCalls controllers (e ∷ es) = IsNextCall controllers e × AreNextCalls (controllers_after controllers e) es

-- ---- over a machine

-- whether an entry follows the protocol, where the controllers are so and the machine is in this state
unfoldable pub FollowsAt : List ControllerState → TracedState → Entry → Type 0
FollowsAt controllers s e = by e.actor e.act
  where
    by : Actor → Act → Type 0
    by (Controller k) (Call c r) = call_by controllers k ≡ Some c
    by Clock (Tick n) = is_clock_awaited s.system.clock (some_sleeper s.system) controllers ≡ true
    by _ _ = Unit {0}

-- whether every entry of a history follows it
abbrev pub Follows : List ControllerState → TracedState → List Entry → Type 0
Follows controllers s [] = Unit {0}
Follows controllers s (e ∷ es) = FollowsAt controllers s e × Follows (controllers_after controllers e) (after s e) es
