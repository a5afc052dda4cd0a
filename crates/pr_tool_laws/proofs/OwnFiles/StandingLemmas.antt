use Rattle.std.proofs.Common.{◌≡◌, ◌≢◌, ℕ, Option, Some, None, refl, ap, ◌∙◌}
use Rattle.pr_model.specs.Calls.{Answer, answer_to}
use Rattle.pr_model.specs.Handles.{handle_of}
use Rattle.pr_model.specs.Legal.{IsLegalEntry, after, after_call, after_turn}
use Rattle.pr_model.specs.LwpTurns.{LwpTurn, turn_of}
use Rattle.pr_model.specs.State.{Places, TracedState}
use Rattle.pr_model.specs.declared.events.Act.{Act}
use Rattle.pr_model.specs.declared.events.Act.TheVariants as act
use Rattle.pr_model.specs.declared.events.Actor.{Actor}
use Rattle.pr_model.specs.declared.events.Actor.TheVariants.{Controller, Lwp, Clock}
use Rattle.pr_model.specs.declared.handles.Held.{Held}
use Rattle.pr_truss_laws.proofs.Files.OpensLemmas.{foreign-call}

-- An open handle stays until its controller closes it.

-- an entry that is no call of this controller
abbrev pub IsOther : ℕ → Actor → Act → Type 0
IsOther k (Controller j) (act.Call c r) = j ≢ k
IsOther k _ _ = Unit {0}

-- a handle stands at a number
abbrev pub Stands : Places → ℕ → Held → Type 0
Stands opens number h = handle_of opens h.controller number ≡ Some h

turn-keeps : (s : TracedState) (o : Option LwpTurn) → (after_turn s o).opens ≡ s.opens
turn-keeps s None = refl
turn-keeps s (Some t) = refl

-- what others do leaves the handles of a controller
pub others-handles : (n k number : ℕ) (s : TracedState) (actor : Actor) (it : Act)
    → IsLegalEntry n s (record { actor = actor; act = it }) → IsOther k actor it
    → handle_of (after s (record { actor = actor; act = it })).opens k number ≡ handle_of s.opens k number
unfolding IsLegalEntry after
others-handles n k number s (Controller j) (act.Call c r) legal other =
    let a : Answer = record { state = legal.1.0; reply = r } in
    let is : answer_to s j c ≡ Some a = legal.1.1 in
    ap (λ o. handle_of (after_call s o).opens k number) is ∙ foreign-call s j k c a other is number
others-handles n k number s (Lwp pid id) (act.Turn t) legal other =
    ap (λ opens. handle_of opens k number) (turn-keeps s (turn_of s.system pid id))
others-handles n k number s Clock (act.Tick m) legal other = refl
others-handles n k number s (Controller j) (act.Turn t) legal other = absurd legal
others-handles n k number s (Controller j) (act.Tick m) legal other = absurd legal
others-handles n k number s (Lwp pid id) (act.Call c r) legal other = absurd legal
others-handles n k number s (Lwp pid id) (act.Tick m) legal other = absurd legal
others-handles n k number s Clock (act.Call c r) legal other = absurd legal
others-handles n k number s Clock (act.Turn t) legal other = absurd legal

-- and so an open one
pub others-keep : (number : ℕ) (h : Held) (n : ℕ) (s : TracedState) (actor : Actor) (it : Act)
    → IsLegalEntry n s (record { actor = actor; act = it }) → IsOther h.controller actor it → Stands s.opens number h
    → Stands (after s (record { actor = actor; act = it })).opens number h
others-keep number h n s actor it legal other stands =
    others-handles n h.controller number s actor it legal other ∙ stands
