use Rattle.std.proofs.Common.{◌≡◌, ℕ, Bool, true, false, Option, Some, None, List, [], ◌∷◌, slice_get, refl, sym, ◌∙◌}
use Rattle.std.proofs.lemmas.Bool.{false≢true}
use Rattle.pr_line.specs.declared.options.Options.{Options}
use Rattle.pr_model.specs.declared.calls.Reply.{Reply}
use Rattle.pr_truss.specs.Feeding.{fed}
use Rattle.pr_truss.specs.Trusses.{TrussState, first_of_program, first_truss, idle, opening_or, with_stage}
use Rattle.pr_truss.specs.declared.stages.Stage.{Stage}
use Rattle.pr_truss.specs.declared.stages.Stage.TheVariants.{Spawning, Unfollowing, ReadingLwps, FreeingChild}
use Rattle.pr_truss_laws.proofs.Replies.ReplySteps as step
use Rattle.pr_truss_laws.proofs.Replies.ReplySteps.{GoesOn, ReplyStep, StopOver}
use Rattle.pr_truss_laws.proofs.Replies.FedSteps.{fed-step}
use Rattle.pr_truss_laws.specs.Exchanges.{Exchange, truss_after}

-- Truss leaves its processes wherever its step is one of those that leave one.

-- whether a step is one that leaves a process
abbrev pub leaves : Stage → Bool
leaves Unfollowing = true
leaves ReadingLwps = true
leaves (FreeingChild child _) = true
leaves _ = false

pub record IsLeaving (t : TrussState) : Type 0 where
  pub leaving : leaves t.stage ≡ true → t.leaving ≡ true

-- at another step nothing is asked
never : {A : Type 0} → false ≡ true → A
never is = absurd (false≢true is)

other : (t : TrussState) → leaves t.stage ≡ false → IsLeaving t
other t is = record { leaving = λ leaving. never (sym is ∙ leaving) }

-- ---- any reply

on-leaving : (u v : TrussState) (given : Bool) → GoesOn u given v → IsLeaving v
on-leaving u v given (step.unfollows on _ _) = record { leaving = λ is. on }
on-leaving u v given _ = record { leaving = never }

over-leaving : (u v : TrussState) (place : ℕ) (pid : Option ℕ) → StopOver u place pid v → IsLeaving v
over-leaving u v place pid (step.frees_child on) = record { leaving = λ is. on }
over-leaving u v place pid _ = record { leaving = never }

module _ (t : TrussState) (r : Reply) where
  step-leaving : (stage : Stage) (v : TrussState) → (leaves stage ≡ true → t.leaving ≡ true) → ReplyStep t r stage v
      → IsLeaving v
  step-leaving stage v h (step.settles w on) = on-leaving _ v _ on
  step-leaving stage v h (step.looks w over) = over-leaving _ v _ _ over
  step-leaving stage v h (step.opens _ step.new_given) = record { leaving = never }
  step-leaving stage v h (step.opens _ step.new_child) = record { leaving = never }
  step-leaving stage v h (step.learns _ (step.opening_goes _)) = record { leaving = never }
  step-leaving stage v h (step.learns _ (step.child_goes _)) = record { leaving = never }
  step-leaving stage v h (step.turns step.unfollowed) = record { leaving = h }
  step-leaving stage v h (step.turns (step.frees _)) = record { leaving = h }
  step-leaving stage v h (step.turns step.frees_on) = record { leaving = h }
  step-leaving stage v h (step.turns _) = record { leaving = never }
  step-leaving stage v h _ = record { leaving = never }

  pub fed-leaving : IsLeaving t → IsLeaving (fed t r)
  fed-leaving h = step-leaving t.stage (fed t r) h.leaving (fed-step t r)

-- ---- before anything was done

pub first-leaving : (o : Options) → IsLeaving (first_truss o)
unfolding first_truss
first-leaving o = by o.program
  where
    opened_or : (x : Option ℕ) → IsLeaving (opening_or (idle o) (idle o) x)
    opened_or None = other (idle o) refl
    opened_or (Some pid) = record { leaving = λ leaving. absurd (false≢true leaving) }

    by : (program : Option (List ℕ)) → IsLeaving (first_of_program o program)
    by None = opened_or (slice_get o.pids 0)
    by (Some program) = other (with_stage (idle o) (Spawning program)) refl

-- ---- after any exchanges

after-leaving : (xs : List Exchange) (t : TrussState) → IsLeaving t → IsLeaving (truss_after t xs)
after-leaving [] t h = h
after-leaving (x ∷ xs) t h = after-leaving xs (fed t x.reply) (fed-leaving t x.reply h)

pub reached-leaving : (o : Options) (xs : List Exchange) → IsLeaving (truss_after (first_truss o) xs)
reached-leaving o xs = after-leaving xs (first_truss o) (first-leaving o)
