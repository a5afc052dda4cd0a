-- Where FLTTRACE comes, if trusses with calls of functions hide what they do.
use Rattle.std.specs.Prelude.{◌≡◌, ◌++◌, ℕ, true, List, ◌∷◌}
use Rattle.pr_hidden.specs.Hiders.{Hiders, has_hold}
use Rattle.pr_model.specs.Legal.{state_after}
use Rattle.pr_model.specs.State.{TracedState}
use Rattle.pr_model.specs.declared.events.Act.TheVariants.{Turn}
use Rattle.pr_model.specs.declared.events.Actor.TheVariants.{Lwp}
use Rattle.pr_model.specs.declared.events.Did.TheVariants.{Faulted}
use Rattle.pr_model.specs.declared.events.Entry.{Entry}
use Rattle.pr_model.specs.declared.events.Turned.{Turned}
use Rattle.pr_num.specs.declared.faults.Flt.TheVariants.{Trace}

-- A turn incurs FLTTRACE only where a controller with functions has "ctl" open: a step mark that is left then traps
-- nobody.
pub record AreStepsOwn (who : Hiders) (first : TracedState) (h : List Entry) : Type 0 where
  pub own : (front back : List Entry) (pid id : ℕ) (t : Turned)
      → h ≡ front ++ record { actor = Lwp pid id; act = Turn t } ∷ back → t.did ≡ Faulted Trace
      → has_hold who (state_after first front).opens pid ≡ true
