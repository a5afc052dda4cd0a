use Rattle.std.proofs.Common.{◌≡◌, ℕ, Bool, true, false, Option, Some, None, List, [], ◌∷◌, refl, sym, subst}
use Rattle.std.proofs.lemmas.List.Elements.{All-nil, All-cons}
use Rattle.std.proofs.lemmas.Option.{same_Some}
use Rattle.std.specs.List.{All, slice_get}
use Rattle.pr_line.specs.declared.options.Options.{Options}
use Rattle.pr_model.specs.declared.calls.Call.{Call}
use Rattle.pr_model.specs.declared.calls.Call.TheVariants as call
use Rattle.pr_model.specs.declared.calls.Reply.{Reply}
use Rattle.pr_truss.specs.Feeding.{fed}
use Rattle.pr_truss.specs.NextCalls.{call_of, child_call, freeing_call, next_call_of, opening_call}
use Rattle.pr_truss.specs.Trusses.{TrussState, first_of_program, first_truss, idle, opening_or, with_stage}
use Rattle.pr_truss.specs.declared.stages.ChildStep.{ChildStep}
use Rattle.pr_truss.specs.declared.stages.ChildStep.TheVariants as child
use Rattle.pr_truss.specs.declared.stages.FreeingStep.{FreeingStep}
use Rattle.pr_truss.specs.declared.stages.FreeingStep.TheVariants as freeing
use Rattle.pr_truss.specs.declared.stages.OpeningStep.{OpeningStep}
use Rattle.pr_truss.specs.declared.stages.OpeningStep.TheVariants as opening
use Rattle.pr_truss.specs.declared.stages.Stage.{Stage}
use Rattle.pr_truss.specs.declared.stages.Stage.TheVariants.{Spawning, Opening, OpeningChild, FreeingChild, Finished}
use Rattle.pr_truss_laws.proofs.Replies.ReplySteps as step
use Rattle.pr_truss_laws.proofs.Replies.ReplySteps.{GoesOn, ReplyStep, StopOver, Turns}
use Rattle.pr_truss_laws.proofs.Replies.FedSteps.{fed-step}
use Rattle.pr_truss_laws.specs.Business.{AreItsCalls, IsOwnCall, is_own_call}
use Rattle.pr_truss_laws.specs.Exchanges.{Exchange, Makes}

-- Truss makes its own calls alone.

-- ---- it makes a process at its start alone

abbrev is_spawning : Stage → Bool
is_spawning (Spawning program) = true
is_spawning _ = false

on-started : (u v : TrussState) (given : Bool) → GoesOn u given v → is_spawning v.stage ≡ false
on-started u v given (step.polls _ _) = refl
on-started u v given _ = refl

over-started : (u v : TrussState) (place : ℕ) (pid : Option ℕ) → StopOver u place pid v → is_spawning v.stage ≡ false
over-started u v place pid (step.runs _) = refl
over-started u v place pid _ = refl

module _ (s : TrussState) (r : Reply) where
  turns-started : (stage next : Stage) → Turns s r stage next → is_spawning next ≡ false
  turns-started stage next step.polls_again = refl
  turns-started stage next _ = refl

  step-started : (stage : Stage) (v : TrussState) → ReplyStep s r stage v → is_spawning v.stage ≡ false
  step-started stage v (step.settles _ on) = on-started _ v _ on
  step-started stage v (step.looks _ over) = over-started _ v _ _ over
  step-started stage v (step.opens _ step.new_given) = refl
  step-started stage v (step.opens _ step.new_child) = refl
  step-started stage v (step.learns _ (step.opening_goes _)) = refl
  step-started stage v (step.learns _ (step.child_goes _)) = refl
  step-started stage v (step.turns w) = turns-started stage _ w
  step-started stage v _ = refl

fed-started : (s : TrussState) (r : Reply) → is_spawning (fed s r).stage ≡ false
fed-started s r = step-started s r s.stage (fed s r) (fed-step s r)

-- ---- the other calls

abbrev IsOwn : Option Call → Type 0
IsOwn None = Unit {0}
IsOwn (Some c) = is_own_call c ≡ true

opening-own : (s : TrussState) (place : ℕ) (now : OpeningStep) → IsOwn (call_of s (Opening place now))
unfolding call_of opening_call
opening-own s place opening.OpenStatus = refl
opening-own s place _ = refl

child-own : (s : TrussState) (parent place : ℕ) (now : ChildStep) → IsOwn (call_of s (OpeningChild parent place now))
unfolding call_of child_call
child-own s parent place child.OpenStatus = refl
child-own s parent place _ = refl

freeing-own : (s : TrussState) (pid : ℕ) (now : FreeingStep) → IsOwn (call_of s (FreeingChild pid now))
unfolding call_of freeing_call
freeing-own s pid freeing.OpenControl = refl
freeing-own s pid _ = refl

stage-own : (s : TrussState) (stage : Stage) → is_spawning stage ≡ false → IsOwn (call_of s stage)
unfolding call_of
stage-own s (Spawning program) started = cc
stage-own s (Opening place now) started = opening-own s place now
stage-own s (OpeningChild parent place now) started = child-own s parent place now
stage-own s (FreeingChild pid now) started = freeing-own s pid now
stage-own s Finished started = tt
stage-own s _ started = refl

next-own : (s : TrussState) (c : Call) → is_spawning s.stage ≡ false → next_call_of s ≡ Some c → is_own_call c ≡ true
unfolding next_call_of
next-own s c started is = subst IsOwn is (stage-own s s.stage started)

all-own : (xs : List Exchange) (s : TrussState) → is_spawning s.stage ≡ false → Makes s xs → All IsOwnCall xs
all-own [] s started makes = All-nil IsOwnCall
all-own (x ∷ xs) s started makes =
    All-cons IsOwnCall x xs (record { own = next-own s x.call started makes.0 })
    (all-own xs (fed s x.reply) (fed-started s x.reply) makes.1)

-- ---- from its start on

named-started : (o : Options) (p : Option ℕ) → is_spawning (opening_or (idle o) (idle o) p).stage ≡ false
named-started o None = refl
named-started o (Some pid) = refl

spawn-first : (o : Options) (program : List ℕ) (x : Exchange) (xs : List Exchange)
    → Makes (with_stage (idle o) (Spawning program)) (x ∷ xs) → x.call ≡ call.Spawn program true
unfolding next_call_of call_of
spawn-first o program x xs makes = same_Some x.call (call.Spawn program true) (sym makes.0)

first-own : (o : Options) (p : Option (List ℕ)) (xs : List Exchange) → Makes (first_of_program o p) xs
    → AreItsCalls p xs
first-own o None xs makes =
    all-own xs (first_of_program o None) (named-started o (slice_get o.pids 0)) makes
first-own o (Some program) [] makes = tt
first-own o (Some program) (x ∷ xs) makes =
    let s : TrussState = with_stage (idle o) (Spawning program) in
    (spawn-first o program x xs makes, all-own xs (fed s x.reply) (fed-started s x.reply) makes.1)

pub own-calls : (o : Options) (xs : List Exchange) → Makes (first_truss o) xs → AreItsCalls o.program xs
unfolding first_truss
own-calls o xs makes = first-own o o.program xs makes
