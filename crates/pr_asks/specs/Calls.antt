use Rattle.std.specs.Prelude.{◌++◌, ℕ, List, [], ◌∷◌, Result, Ok, Err, codes}
use Rattle.pr_model.specs.declared.calls.Call.{Call}
use Rattle.pr_model.specs.declared.events.Act.{Act}
use Rattle.pr_model.specs.declared.events.Act.TheVariants as act
use Rattle.pr_model.specs.declared.events.Actor.{Actor}
use Rattle.pr_model.specs.declared.events.Entry.{Entry}
use Rattle.pr_plain.specs.EntryReading.{history_of}
use Rattle.pr_asks.specs.declared.asks.AskKind.{AskKind}
use Rattle.pr_asks.specs.declared.asks.AskKind.TheVariants.{NoCall}

-- Lines that are calls, and words that name actors. There is one language of calls, that of histories: a line is the
-- call that an entry has whose line it makes, with a number, a controller and a reply around it.

-- a text between two others
abbrev pub framed : List ℕ → List ℕ → List ℕ → List ℕ
framed above text below = above ++ (text ++ below)

abbrev pub call_text : List ℕ → List ℕ
call_text line = framed (codes "history 1\n0 c0 ") line (codes " -> done\n")

abbrev pub actor_text : List ℕ → List ℕ
actor_text word = framed (codes "history 1\n0 ") word (codes " ran\n")

-- the call of an entry, if it has one
abbrev pub call_in : Act → Result Call AskKind
call_in (act.Call c r) = Ok c
call_in _ = Err NoCall

abbrev pub first_call : List Entry → Result Call AskKind
first_call [] = Err NoCall
first_call (e ∷ es) = call_in e.act

abbrev pub first_actor : List Entry → Result Actor AskKind
first_actor [] = Err NoCall
first_actor (e ∷ es) = Ok e.actor

-- what the entries are that a text begins with, or that it is no history
abbrev pub entries_or : {X : Type 0} → (List Entry → Result X AskKind) → Result (List Entry) ℕ → Result X AskKind
entries_or of (Ok es) = of es
entries_or of (Err line) = Err NoCall

-- the call that a line is, and the actor that a word names
unfoldable pub call_of : List ℕ → Result Call AskKind
call_of line = entries_or first_call (history_of 0 (call_text line))

unfoldable pub actor_of : List ℕ → Result Actor AskKind
actor_of word = entries_or first_actor (history_of 0 (actor_text word))
