use Rattle.pr_lending.specs.Lending.{AreLending}
use Rattle.pr_model.specs.Lawful.{IsLawful}
use Rattle.pr_model.specs.State.{TracedState}
use Rattle.pr_reached.specs.Fits.{IsFitSystem}
use Rattle.pr_reached.specs.InRange.{IsInRange}
use Rattle.pr_reached.specs.SleptCopies.{NoneSleepsInCopy}

-- What is so of every state that the machine reaches, where controllers write bytes.

pub record IsReached (s : TracedState) : Type 0 where
  pub lawful : IsLawful s
  pub lending : AreLending s.system
  pub fit : IsFitSystem s.system
  pub in_range : IsInRange s.system
  -- no lwp is asleep in a fork, a vfork or an exec
  pub awake : NoneSleepsInCopy s.system
