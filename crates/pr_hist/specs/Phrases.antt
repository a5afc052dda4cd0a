-- The longer phrases between what is told, each under a name.
use Rattle.std.specs.Prelude.{ℕ, List, codes}
use Rattle.pr_hist.specs.declared.phrases.Phrase.{Phrase}
use Rattle.pr_hist.specs.declared.phrases.Phrase.TheVariants.{AndStops, LastMoved, NoMessage}

unfoldable pub phrase : Phrase → List ℕ
phrase AndStops = codes ", and stops: "
phrase LastMoved = codes " last moved in entry "
phrase NoMessage = codes "no message: "
