-- What is asked of those who hide nothing: that their calls are passive.
use Rattle.std.specs.Prelude.{◌≡◌, false, All, IsTrue, List}
use Rattle.pr_hidden.specs.Hiders.{Hiders, hides}
use Rattle.pr_model.specs.Passive.{is_passive_call}
use Rattle.pr_model.specs.declared.events.Act.{Act}
use Rattle.pr_model.specs.declared.events.Act.TheVariants as act
use Rattle.pr_model.specs.declared.events.Actor.{Actor}
use Rattle.pr_model.specs.declared.events.Actor.TheVariants.{Controller}
use Rattle.pr_model.specs.declared.events.Entry.{Entry}

-- an entry is no call of one who hides nothing, or a passive one
abbrev pub IsPassiveUnlessHidden : Hiders → Entry → Type 0
IsPassiveUnlessHidden who e = by e.actor e.act
  where
    by : Actor → Act → Type 0
    by (Controller k) (act.Call c r) = hides who k ≡ false → IsTrue (is_passive_call c r)
    by _ _ = Unit {0}

-- Every call of one who hides nothing is passive. Of those who hide something nothing is asked: what they send follows
-- from what they are.
abbrev pub AreOthersPassive : Hiders → List Entry → Type 0
AreOthersPassive who h = All (IsPassiveUnlessHidden who) h
