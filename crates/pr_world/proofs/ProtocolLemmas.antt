use Rattle.std.proofs.Common.{◌≡◌, ℕ, Option, Some, None, List, [], ◌∷◌, ◌++◌, length, refl, ◌∙◌}
use Rattle.std.proofs.lemmas.List.{length-set}
use Rattle.std.specs.List.{slice_get}
use Rattle.pr_model.specs.Legal.{after, state_after}
use Rattle.pr_model.specs.State.{TracedState}
use Rattle.pr_model.specs.declared.calls.Reply.{Reply}
use Rattle.pr_model.specs.declared.events.Act.{Act}
use Rattle.pr_model.specs.declared.events.Act.TheVariants.{Call, Turn, Tick}
use Rattle.pr_model.specs.declared.events.Actor.{Actor}
use Rattle.pr_model.specs.declared.events.Actor.TheVariants.{Controller, Lwp, Clock}
use Rattle.pr_model.specs.declared.events.Entry.{Entry}
use Rattle.pr_world.specs.Controllers.{after_reply, feed_at, with_fed}
use Rattle.pr_world.specs.Protocol.{AreNextCalls, Follows, FollowsAt, IsNextCall, controllers_after, controllers_at}
use Rattle.pr_world.specs.ControllerStates.{ControllerState}

-- Histories grow at their end: what the protocol says of one that is an entry longer.

pub controllers_at-push : (cs : List ControllerState) (h : List Entry) (e : Entry)
    → controllers_at cs (h ++ e ∷ []) ≡ controllers_after (controllers_at cs h) e
controllers_at-push cs [] e = refl
controllers_at-push cs (x ∷ h) e = controllers_at-push (controllers_after cs x) h e

pub Follows-push : (cs : List ControllerState) (s : TracedState) (h : List Entry) (e : Entry) → Follows cs s h
    → FollowsAt (controllers_at cs h) (state_after s h) e → Follows cs s (h ++ e ∷ [])
Follows-push cs s [] e all here = (here, tt)
Follows-push cs s (x ∷ h) e all here = (all.0, Follows-push (controllers_after cs x) (after s x) h e all.1 here)

pub AreNextCalls-push : (cs : List ControllerState) (h : List Entry) (e : Entry) → AreNextCalls cs h
    → IsNextCall (controllers_at cs h) e → AreNextCalls cs (h ++ e ∷ [])
AreNextCalls-push cs [] e all here = (here, tt)
AreNextCalls-push cs (x ∷ h) e all here = (all.0, AreNextCalls-push (controllers_after cs x) h e all.1 here)

-- No entry changes how many controllers there are.
fed-count : (k : ℕ) (r : Reply) (cs : List ControllerState) (c : Option ControllerState)
    → length (feed_at k r cs c) ≡ length cs
fed-count k r cs None = refl
fed-count k r cs (Some c) = length-set cs k (after_reply c r)

with_fed-count : (k : ℕ) (r : Reply) (cs : List ControllerState) → length (with_fed k r cs) ≡ length cs
unfolding with_fed
with_fed-count k r cs = fed-count k r cs (slice_get cs k)

controllers_after-count : (cs : List ControllerState) (actor : Actor) (act : Act)
    → length (controllers_after cs (record { actor = actor; act = act })) ≡ length cs
unfolding controllers_after
controllers_after-count cs (Controller k) (Call c r) = with_fed-count k r cs
controllers_after-count cs (Controller k) (Turn t) = refl
controllers_after-count cs (Controller k) (Tick n) = refl
controllers_after-count cs (Lwp p l) act = refl
controllers_after-count cs Clock act = refl

pub controllers_at-count : (cs : List ControllerState) (h : List Entry) → length (controllers_at cs h) ≡ length cs
controllers_at-count cs [] = refl
controllers_at-count cs (e ∷ h) =
    controllers_at-count (controllers_after cs e) h ∙ controllers_after-count cs e.actor e.act
