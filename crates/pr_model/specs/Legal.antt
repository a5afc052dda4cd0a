use Rattle.std.specs.Prelude.{◌≡◌, ◌<◌, ◌+◌, ℕ, List, [], ◌∷◌, Option, Some, None}
use Rattle.pr_num.specs.Limits.{clock_limit}
use Rattle.pr_model.specs.Calls.{Answer, answer_to}
use Rattle.pr_model.specs.LwpTurns.{LwpTurn, turn_of}
use Rattle.pr_model.specs.State.{TracedState, TracedSystem, with_system}
use Rattle.pr_model.specs.declared.events.Act.{Act}
use Rattle.pr_model.specs.declared.events.Act.TheVariants.{Call, Turn, Tick}
use Rattle.pr_model.specs.declared.events.Actor.{Actor}
use Rattle.pr_model.specs.declared.events.Actor.TheVariants.{Controller, Lwp, Clock}
use Rattle.pr_model.specs.declared.events.Entry.{Entry}

-- Legal histories: every entry is what the machine does.

-- the system a millisecond later
abbrev pub ticked : TracedSystem → TracedSystem
ticked s = record s { clock = s.clock + 1 }

-- the state after an entry; one that no machine makes leaves it
abbrev pub after_call : TracedState → Option Answer → TracedState
after_call s None = s
after_call s (Some a) = a.state

abbrev pub after_turn : TracedState → Option LwpTurn → TracedState
after_turn s None = s
after_turn s (Some t) = record s { system = t.system }

unfoldable pub after : TracedState → Entry → TracedState
after s e = by e.actor e.act
  where
    by : Actor → Act → TracedState
    by (Controller k) (Call c r) = after_call s (answer_to s k c)
    by (Lwp p l) (Turn t) = after_turn s (turn_of s.system p l)
    by Clock (Tick n) = with_system ticked s
    by _ _ = s

-- Whether an entry is legal in a state, where there are so many controllers: a call is made by one of them, is ready,
-- and has the machine's reply; a turn is one that its lwp may have, and did what the machine says; a tick finds a
-- clock below its last moment and makes it one more.
unfoldable pub IsLegalEntry : ℕ → TracedState → Entry → Type 0
IsLegalEntry controllers s e = by e.actor e.act
  where
    by : Actor → Act → Type 0
    by (Controller k) (Call c r) =
        (k < controllers) × ((state : TracedState) × (answer_to s k c ≡ Some (record { state = state; reply = r })))
    by (Lwp p l) (Turn t) =
        (system : TracedSystem) × (turn_of s.system p l ≡ Some (record { system = system; turned = t }))
    by Clock (Tick n) = (s.system.clock < clock_limit) × (n ≡ s.system.clock + 1)
    by _ _ = ⊥

-- the state after a history
abbrev pub state_after : TracedState → List Entry → TracedState
state_after s [] = s
state_after s (e ∷ es) = state_after (after s e) es

-- whether every entry of a history is legal in the state in which it stands
abbrev pub IsLegal : ℕ → TracedState → List Entry → Type 0
IsLegal controllers s [] = Unit {0}
IsLegal controllers s (e ∷ es) = IsLegalEntry controllers s e × IsLegal controllers (after s e) es
