-- The actors of a schedule.
use Rattle.std.specs.Prelude.{◌==◌, ℕ, Option, Some, None, List, [], ◌∷◌, ◌++◌, codes, replicate, sum_by, option_map, Result, Ok, if◌then◌else◌}
use Rattle.std.specs.List.{slice_split, flat_map}
use Rattle.std.specs.Str.{bytes_eq}
use Rattle.pr_model.specs.declared.events.Actor.{Actor}
use Rattle.pr_model.specs.declared.events.Actor.TheVariants.{Controller, Lwp, Clock}
use Rattle.pr_text.specs.NumberWords.{number_of, id_of}
use Rattle.pr_text.specs.Steps.{◌>>=◌, ok_or}
use Rattle.pr_scen.specs.declared.refusals.ScenKind.{ScenKind}
use Rattle.pr_scen.specs.declared.refusals.ScenKind.TheVariants.{BadOperand}
use Rattle.pr_scen.specs.declared.schedules.Turns.{Turns}

abbrev pub lwp_at : Option ℕ → Option ℕ → Option Actor
lwp_at (Some pid) (Some lwp) = Some (Lwp pid lwp)
lwp_at _ _ = None

-- an lwp of a process: P/L
abbrev pub lwp_from : List (List ℕ) → Option Actor
lwp_from (pid ∷ lwp ∷ []) = lwp_at (id_of pid) (id_of lwp)
lwp_from _ = None

-- cK, or P/L
unfoldable pub numbered_actor : List ℕ → Option Actor
numbered_actor [] = None
numbered_actor (b ∷ bs) =
    if b == 99 then option_map Controller (id_of bs) else lwp_from (slice_split (λ c. c == 47) (b ∷ bs))

-- the actor that a word names: a controller, an lwp or the clock
unfoldable pub actor_of : List ℕ → Option Actor
actor_of word = if bytes_eq word (codes "clock") then Some Clock else numbered_actor word

abbrev pub turns_at : Option Actor → Option ℕ → Option Turns
turns_at (Some actor) (Some times) = Some (record { actor = actor; times = times })
turns_at _ _ = None

abbrev pub turns_from : List (List ℕ) → Option Turns
turns_from (actor ∷ []) = turns_at (actor_of actor) (Some 1)
turns_from (actor ∷ times ∷ []) = turns_at (actor_of actor) (number_of times)
turns_from _ = None

-- the turns that a word gives to an actor: one, or as many as *n says
unfoldable pub turns_of : List ℕ → Option Turns
turns_of word = turns_from (slice_split (λ b. b == 42) word)

-- turns with those of more words
unfoldable pub with_turns_of : List Turns → List (List ℕ) → Result (List Turns) ScenKind
with_turns_of turns [] = Ok turns
with_turns_of turns (word ∷ words) = ok_or BadOperand (turns_of word) >>= λ t. with_turns_of (turns ++ t ∷ []) words

-- how many turns these are
abbrev pub turn_count : List Turns → ℕ
turn_count turns = sum_by (λ t. t.times) turns

-- the actors of turns, one after another
abbrev pub actors_of : List Turns → List Actor
actors_of turns = flat_map (λ t. replicate t.times t.actor) turns
