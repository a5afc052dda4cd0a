-- Entries of a history in words, each in a block of its own, in their order: the number of the entry, who acted, and
-- what that was. The first line of a block begins with the number, and any other line with blanks.
use Rattle.std.specs.Prelude.{ℕ, ◌+◌, Bool, false, List, [], ◌∷◌, ◌++◌, codes, decimal}
use Rattle.pr_model.specs.declared.events.Act.{Act}
use Rattle.pr_model.specs.declared.events.Act.TheVariants as act
use Rattle.pr_model.specs.declared.events.Entry.{Entry}
use Rattle.pr_plain.specs.HistoryText.{actor_text}
use Rattle.pr_hist.specs.Calls.{call_text}
use Rattle.pr_hist.specs.Names.{Names}
use Rattle.pr_hist.specs.News.{names_beyond}
use Rattle.pr_hist.specs.Texts.{time_text}
use Rattle.pr_hist.specs.Turns.{turn_text}

-- the clock comes to a moment
unfoldable pub tick_text : ℕ → List ℕ
tick_text n = codes "comes to " ++ time_text n

-- what was done
unfoldable pub act_text : Bool → Names → Act → List ℕ
act_text full names (act.Call c r) = call_text full names c r
act_text full names (act.Turn t) = turn_text t
act_text full names (act.Tick n) = tick_text n

-- The block of the entry of a number, where these handles are open before it: of a record that was read with all
-- fields, or with those that say something.
unfoldable pub words_of : Bool → ℕ → Names → Entry → List ℕ
words_of full n names e =
    decimal n ++ (codes " " ++ (actor_text e.actor ++ (codes " " ++ (act_text full names e.act ++ codes "\n"))))

-- the blocks of entries that count from a number
unfoldable pub blocks : ℕ → Names → List Entry → List ℕ
blocks n names [] = []
blocks n names (e ∷ es) = words_of false n names e ++ blocks (n + 1) (names_beyond names n e) es

-- a history in words, before which this is known
abbrev pub text_of : Names → List Entry → List ℕ
text_of names es = blocks 0 names es
