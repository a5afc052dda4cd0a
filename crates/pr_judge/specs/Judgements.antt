use Rattle.std.specs.Prelude.{◌≡◌, ◌==◌, ◌<◌, ◌+◌, ◌++◌, ◌&&◌, ℕ, Bool, true, false, List, [], ◌∷◌, Option, Some, None, IfSome, if◌then◌else◌, length, nat_lt, option_map, slice_get, suc, take}
use Rattle.std.specs.Option.{ForSome}
use Rattle.pr_num.specs.Limits.{clock_limit}
use Rattle.pr_api.specs.Views.{KernelView}
use Rattle.pr_model.specs.Calls.{Answer, answer_to}
use Rattle.pr_model.specs.Legal.{IsLegal, IsLegalEntry, after, state_after}
use Rattle.pr_model.specs.LwpTurns.{LwpTurn, turn_of}
use Rattle.pr_model.specs.State.{TracedState}
use Rattle.pr_model.specs.declared.calls.Reply.{Reply}
use Rattle.pr_model.specs.declared.events.Act.{Act}
use Rattle.pr_model.specs.declared.events.Act.TheVariants.{Call, Turn, Tick}
use Rattle.pr_model.specs.declared.events.Actor.{Actor}
use Rattle.pr_model.specs.declared.events.Actor.TheVariants.{Controller, Lwp, Clock}
use Rattle.pr_model.specs.declared.events.Entry.{Entry}
use Rattle.pr_model.specs.declared.events.Turned.{Turned}
use Rattle.pr_judge.specs.Replies.{same_reply}
use Rattle.pr_judge.specs.Turns.{same_turn}

-- Which entry of a history is the first that is not legal, where a machine starts in a state and there are so many
-- controllers.

-- whether what was done is of its actor's kind: a call of a controller, a turn of an lwp, a tick of the clock
unfoldable pub fits : Actor → Act → Bool
fits (Controller k) (Call c r) = true
fits (Lwp p l) (Turn t) = true
fits Clock (Tick n) = true
fits _ _ = false

-- an entry that is no legal one in a state
abbrev pub IsIllegalEntry : ℕ → TracedState → Entry → Type 0
IsIllegalEntry controllers s e = IsLegalEntry controllers s e → ⊥

-- The entry at a place is not legal, and those before it are.
pub record IsFirstIllegal (controllers : ℕ) (s : TracedState) (history : List Entry) (place : ℕ) : Type 0 where
  pub within : place < length history
  pub before : IsLegal controllers s (take place history)
  pub illegal : ForSome (slice_get history place)
      (λ e. IsIllegalEntry controllers (state_after s (take place history)) e)

-- The judgement of a history: it is legal, or this entry is the first that is not.
abbrev pub Judges : ℕ → TracedState → List Entry → Option ℕ → Type 0
Judges controllers s history None = IsLegal controllers s history
Judges controllers s history (Some place) = IsFirstIllegal controllers s history place

-- ---- the judgement is a function

-- whether the machine answers a call so, and a turn of an lwp goes so
abbrev pub answers_so : Option Answer → Reply → Bool
answers_so None r = false
answers_so (Some a) r = same_reply a.reply r

abbrev pub turns_so : Option LwpTurn → Turned → Bool
turns_so None t = false
turns_so (Some made) t = same_turn made.turned t

-- whether an entry is a legal one in a state
unfoldable pub is_legal_entry : ℕ → TracedState → Entry → Bool
is_legal_entry controllers s e = by e.actor e.act
  where
    by : Actor → Act → Bool
    by (Controller k) (Call c r) = nat_lt k controllers && answers_so (answer_to s k c) r
    by (Lwp p l) (Turn t) = turns_so (turn_of s.system p l) t
    by Clock (Tick n) = nat_lt s.system.clock clock_limit && (n == s.system.clock + 1)
    by _ _ = false

-- the place of the first entry of a history that is not legal
unfoldable pub first_illegal : ℕ → TracedState → List Entry → Option ℕ
first_illegal controllers s [] = None
first_illegal controllers s (e ∷ es) =
    if is_legal_entry controllers s e then option_map (λ place. suc place)
    (first_illegal controllers (after s e) es) else Some 0

-- ---- entries that a kernel is made to play

-- A kernel made the step of an entry: it added just that entry; and over a machine that it tells, the entry is legal.
pub record IsPlayed (controllers : ℕ) (e : Entry) (old new : KernelView) : Type 0 where
  pub history : new.history ≡ old.history ++ e ∷ []
  pub places : new.places ≡ old.places
  pub machine : IfSome old.machine (λ s. IsLegalEntry controllers s e × (new.machine ≡ Some (after s e)))

-- Whether a kernel made the step of an entry; over a machine that it tells, it did unless the entry is not legal.
abbrev pub Plays : ℕ → Entry → KernelView → KernelView → Bool → Type 0
Plays controllers e old new true = IsPlayed controllers e old new
Plays controllers e old new false = IfSome old.machine (λ s. IsIllegalEntry controllers s e)

-- A kernel played these entries: it added just them; and over a machine that it told, they are legal and led to the
-- machine's state.
pub record HasPlayed (controllers : ℕ) (played : List Entry) (first now : KernelView) : Type 0 where
  pub history : now.history ≡ first.history ++ played
  pub places : now.places ≡ first.places
  pub machine : IfSome first.machine (λ s. IsLegal controllers s played × (now.machine ≡ Some (state_after s played)))
