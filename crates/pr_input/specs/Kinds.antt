-- How the kinds of refusals of scenarios are called where they are answered.
use Rattle.std.specs.Prelude.{ℕ, List, codes}
use Rattle.pr_scen.specs.declared.refusals.ScenKind.{ScenKind}
use Rattle.pr_scen.specs.declared.refusals.ScenKind.TheVariants as kind

unfoldable pub kind_name : ScenKind → List ℕ
kind_name kind.TooLong = codes "TooLong"
kind_name kind.NotAscii = codes "NotAscii"
kind_name kind.UnknownWord = codes "UnknownWord"
kind_name kind.BadOperand = codes "BadOperand"
kind_name kind.UnknownName = codes "UnknownName"
kind_name kind.Double = codes "Double"
kind_name kind.TooMany = codes "TooMany"
kind_name kind.TooBig = codes "TooBig"
kind_name kind.NoEnd = codes "NoEnd"
