use Rattle.std.proofs.Common.{◌≡◌, ◌<◌, ℕ, Bool, true, false, Option, Some, List, [], ◌∷◌, ◌++◌, length, refl, sym, subst, ◌∙◌, append_assoc}
use Rattle.std.proofs.lemmas.Bool.{false≢true}
use Rattle.std.proofs.lemmas.List.{append-nil}
use Rattle.std.proofs.lemmas.Option.{none-some, same_Some}
use Rattle.std.specs.List.{slice_set}
use Rattle.pr_line.specs.declared.options.Options.{Options}
use Rattle.pr_model.specs.Replies.{handle_in}
use Rattle.pr_model.specs.declared.calls.Call.TheVariants as call
use Rattle.pr_model.specs.declared.calls.File.{File}
use Rattle.pr_model.specs.declared.calls.Mode.{Mode}
use Rattle.pr_model.specs.declared.calls.Reply.{Reply}
use Rattle.pr_truss.specs.Children.{child_learnt}
use Rattle.pr_truss.specs.Closings.{with_going_on, with_interrupt}
use Rattle.pr_truss.specs.Feeding.{fed}
use Rattle.pr_truss.specs.NextCalls.{call_of, child_call, freeing_call, next_call_of}
use Rattle.pr_truss.specs.Processes.{newly_traced}
use Rattle.pr_truss.specs.Trusses.{TrussState, idle, traced_at}
use Rattle.pr_truss.specs.declared.processes.Traced.{Traced}
use Rattle.pr_truss.specs.declared.stages.AfterClosing.{AfterClosing}
use Rattle.pr_truss.specs.declared.stages.AfterClosing.TheVariants.{OpenNext}
use Rattle.pr_truss.specs.declared.stages.ChildStep.{ChildStep}
use Rattle.pr_truss.specs.declared.stages.ChildStep.TheVariants as child
use Rattle.pr_truss.specs.declared.stages.FreeingStep.{FreeingStep}
use Rattle.pr_truss.specs.declared.stages.FreeingStep.TheVariants as freeing
use Rattle.pr_truss.specs.declared.stages.Stage.{Stage}
use Rattle.pr_truss.specs.declared.stages.Stage.TheVariants.{Spawning, OpeningControl, Opening, ReadingText, OpeningChildControl, OpeningChild, Closing, FreeingChild, Finished}
use Rattle.pr_truss_laws.proofs.Replies.ExchangeLemmas.{makes-front, makes-rest}
use Rattle.pr_truss_laws.proofs.Replies.FedSteps.{fed-step, goes-on, interrupt-on}
use Rattle.pr_truss_laws.proofs.Replies.FitLemmas.{at-last, fed-fits, last-within, on-fits}
use Rattle.pr_truss_laws.proofs.Files.HeldLemmas.{Fits, at_place, set-at}
use Rattle.pr_truss_laws.proofs.OwnBusiness.KnownLemmas.{IsChild, KnowsChild, looks-known, more-child, read-known}
use Rattle.pr_truss_laws.proofs.Replies.OptionLemmas.{fed-options}
use Rattle.pr_truss_laws.proofs.Replies.ReplySteps as step
use Rattle.pr_truss_laws.proofs.Replies.ReplySteps.{Closes, GoesOn, Learns, ReplyStep, Settles, StopOver, Turns, on-staged}
use Rattle.pr_truss_laws.specs.Business.{OpensChildrenAlone, WasRead}
use Rattle.pr_truss_laws.specs.Exchanges.{Exchange, Makes, truss_after}

-- Once truss has opened the processes that it was given, or was interrupted, it opens children alone.

abbrev FollowsNext : AfterClosing → Type 0
FollowsNext OpenNext = ⊥
FollowsNext _ = Unit {0}

-- No stage is one of the opening of a given process, and what is known of a child where it is opened.
abbrev FollowsStage : Options → List Exchange → List Traced → Stage → Type 0
FollowsStage o xs ts (Spawning program) = ⊥
FollowsStage o xs ts (OpeningControl pid) = ⊥
FollowsStage o xs ts (Opening place now) = ⊥
FollowsStage o xs ts (ReadingText place l from len) = WasRead l xs
FollowsStage o xs ts (OpeningChildControl parent pid) = IsChild o pid xs
FollowsStage o xs ts (OpeningChild parent place now) = IsChild o (at_place ts place).pid xs
FollowsStage o xs ts (Closing place next) = FollowsNext next
FollowsStage o xs ts (FreeingChild pid now) = IsChild o pid xs
FollowsStage o xs ts _ = Unit {0}

record Follows (o : Options) (xs : List Exchange) (s : TrussState) : Type 0 where
  options : s.options ≡ o
  fits : Fits s.traced s.stage
  stage : FollowsStage o xs s.traced s.stage

on-follows : (o : Options) (xs : List Exchange) (u v : TrussState) (given : Bool) → given ≡ false → GoesOn u given v
    → FollowsStage o xs v.traced v.stage
on-follows o xs u v given goes (step.finishes _) = tt
on-follows o xs u v given goes (step.polls _ _) = tt
on-follows o xs u v given goes (step.unfollows _ _ _) = tt
on-follows o xs u v given goes (step.closes_first _ _ _) = tt
on-follows o xs u v given goes (step.opens_next _) = absurd (false≢true (sym goes))

over-follows : (o : Options) (xs : List Exchange) (u v : TrussState) (place : ℕ) (pid : Option ℕ) → KnowsChild o xs pid
    → StopOver u place pid v → FollowsStage o xs v.traced v.stage
over-follows o xs u v place pid c (step.runs _) = tt
over-follows o xs u v place pid c (step.leaves _) = tt
over-follows o xs u v place pid c (step.opens_child _) = c
over-follows o xs u v place pid c (step.frees_child _) = c

child-pid : (t : Traced) (r : Reply) (now : ChildStep) → (child_learnt t r now).pid ≡ t.pid
unfolding child_learnt
child-pid t r child.SetRelease = refl
child-pid t r _ = refl

-- ---- a reply

module _ (o : Options) (xs : List Exchange) (s : TrussState) (x : Exchange) (k : Follows o xs s)
    (makes : next_call_of s ≡ Some x.call) where
  abbrev then : List Exchange
  then = xs ++ x ∷ []

  -- what is known at the stage at which it is
  known : (stage : Stage) → s.stage ≡ stage → FollowsStage o xs s.traced stage
  known stage at = subst (FollowsStage o xs s.traced) at k.stage

  settles-follows : (stage : Stage) (given : Bool) (u : TrussState) → s.stage ≡ stage → Settles s x.reply stage given u
      → given ≡ false
  settles-follows stage given u at (step.refuses_control {pid = pid} _ _) = absurd (known (OpeningControl pid) at)
  settles-follows stage given u at (step.ends_opening {place = place} {now = now} _ _) =
      absurd (known (Opening place now) at)
  settles-follows stage given u at (step.closed_next {place = place} _) = absurd (known (Closing place OpenNext) at)
  settles-follows stage given u at _ = refl

  closes-follows : (stage : Stage) (place : ℕ) (next : AfterClosing) (u : TrussState) → s.stage ≡ stage
      → Closes s x.reply stage place next u → FollowsNext next
  closes-follows stage place next u at (step.refuses_opening {now = now} _ _) = absurd (known (Opening _ now) at)
  closes-follows stage place next u at (step.refuses_child _ _) = tt
  closes-follows stage place next u at (step.child_ended _) = tt
  closes-follows stage place next u at _ = tt

  learns-follows : (stage next : Stage) (place : ℕ) (t : Traced) → s.stage ≡ stage → Learns s x.reply stage place t next
      → FollowsStage o then (slice_set s.traced place t) next
  learns-follows stage next place t at (step.opening_goes {now = now} _) = absurd (known (Opening place now) at)
  learns-follows stage next place t at (step.child_goes {parent = parent} {now = now} _) =
      let f = subst (Fits s.traced) at k.fits in
      let within : place < length s.traced = last-within s.traced parent place f.0 in
      subst (λ (u : Traced). IsChild o u.pid then) (sym (set-at s.traced place t within))
      (subst (λ pid. IsChild o pid then) (sym (child-pid (traced_at s place) x.reply now))
      (more-child o (traced_at s place).pid xs (x ∷ []) (known (OpeningChild parent place now) at)))

  turns-follows : (stage next : Stage) → s.stage ≡ stage → Turns s x.reply stage next
      → FollowsStage o then s.traced next
  turns-follows stage next at (step.starts {program = program} _) = absurd (known (Spawning program) at)
  turns-follows stage next at (step.frees {pid = pid} _) =
      more-child o pid xs (x ∷ []) (known (FreeingChild pid freeing.OpenControl) at)
  turns-follows stage next at (step.frees_on {pid = pid} {control = control}) =
      more-child o pid xs (x ∷ []) (known (FreeingChild pid (freeing.SetRelease control)) at)
  turns-follows stage next at step.polls_again = tt
  turns-follows stage next at _ = tt

  step-follows : (stage : Stage) (v : TrussState) → s.stage ≡ stage → ReplyStep s x.reply stage v
      → FollowsStage o then v.traced v.stage
  unfolding newly_traced
  step-follows stage v at (step.settles {u = u} w on) = on-follows o then u v _ (settles-follows stage _ u at w) on
  step-follows stage v at (step.looks {u = u} w over) =
      over-follows o then u v _ _
      (looks-known o xs s x k.options makes (λ place l from len text. known (ReadingText place l from len) text)
      stage _ _ u at w) over
  step-follows stage v at (step.asks {place = place} {l = l} reads _ _ _) =
      read-known xs s x makes stage place (Some l) at reads l refl
  step-follows stage v at (step.closes {u = u} w) = closes-follows stage _ _ u at w
  step-follows stage v at (step.loses {place = place} {next = next} _) = known (Closing place next) at
  step-follows stage v at (step.opens _ (step.new_given {pid = pid})) = absurd (known (OpeningControl pid) at)
  step-follows stage v at (step.opens _ (step.new_child {parent = parent} {pid = pid})) =
      subst (λ (u : Traced). IsChild o u.pid then) (sym (at-last s.traced (newly_traced pid (handle_in x.reply))))
      (more-child o pid xs (x ∷ []) (known (OpeningChildControl parent pid) at))
  step-follows stage v at (step.learns {next = next} {place = place} {t = t} _ w) =
      learns-follows stage next place t at w
  step-follows stage v at (step.returns _) = tt
  step-follows stage v at (step.turns {next = next} w) = turns-follows stage next at w

  fed-follows : Follows o then (fed s x.reply)
  fed-follows = record {
    options = fed-options s x.reply ∙ k.options;
    fits = fed-fits s x.reply k.fits;
    stage = step-follows s.stage (fed s x.reply) refl (fed-step s x.reply);
  }

after-follows : (o : Options) (ys xs : List Exchange) (s : TrussState) → Follows o xs s → Makes s ys
    → Follows o (xs ++ ys) (truss_after s ys)
after-follows o [] xs s k makes = subst (λ zs. Follows o zs s) (sym (append-nil xs)) k
after-follows o (y ∷ ys) xs s k makes =
    subst (λ zs. Follows o zs (truss_after (fed s y.reply) ys)) (append_assoc xs (y ∷ []) ys)
    (after-follows o ys (xs ++ y ∷ []) (fed s y.reply) (fed-follows o xs s y k makes.0) makes.1)

-- ---- the open of a child

module _ (o : Options) (xs : List Exchange) (pid id : ℕ) (file : File) (mode : Mode) where
  child-opens : (t : Traced) (now : ChildStep) → IsChild o t.pid xs → child_call t now ≡ call.Open pid id file mode
      → IsChild o pid xs
  unfolding child_call
  child-opens t child.OpenStatus k is = let same : t.pid ≡ pid = cc in subst (λ p. IsChild o p xs) same k
  child-opens t child.OpenLstatus k is = let same : t.pid ≡ pid = cc in subst (λ p. IsChild o p xs) same k
  child-opens t child.OpenMemory k is = let same : t.pid ≡ pid = cc in subst (λ p. IsChild o p xs) same k
  child-opens t _ k is = cc

  freeing-opens : (of : ℕ) (now : FreeingStep) → IsChild o of xs → freeing_call of now ≡ call.Open pid id file mode
      → IsChild o pid xs
  unfolding freeing_call
  freeing-opens of freeing.OpenControl k is = let same : of ≡ pid = cc in subst (λ p. IsChild o p xs) same k
  freeing-opens of _ k is = cc

  stage-opens : (s : TrussState) (stage : Stage) → FollowsStage o xs s.traced stage
      → call_of s stage ≡ Some (call.Open pid id file mode) → IsChild o pid xs
  unfolding call_of
  stage-opens s (Spawning program) k is = absurd k
  stage-opens s (OpeningControl of) k is = absurd k
  stage-opens s (Opening place now) k is = absurd k
  stage-opens s (OpeningChildControl parent of) k is =
      let same : of ≡ pid = cc in subst (λ p. IsChild o p xs) same k
  stage-opens s (OpeningChild parent place now) k is = child-opens (traced_at s place) now k (same_Some _ _ is)
  stage-opens s (FreeingChild of now) k is = freeing-opens of now k (same_Some _ _ is)
  stage-opens s Finished k is = absurd (none-some _ is)
  stage-opens s _ k is = cc

  next-opens : (s : TrussState) → Follows o xs s → next_call_of s ≡ Some (call.Open pid id file mode)
      → IsChild o pid xs
  unfolding next_call_of
  next-opens s k is = stage-opens s s.stage k.stage is

follows-alone : (o : Options) (xs : List Exchange) (s : TrussState) → Follows o [] s → Makes s xs
    → OpensChildrenAlone o xs
follows-alone o xs s k makes = record {
  each = λ before after reply pid id file mode is.
      let x : Exchange = record { call = call.Open pid id file mode; reply = reply } in
      let made : Makes s (before ++ x ∷ after) = subst (Makes s) is makes in
      let at = makes-rest s before (x ∷ after) made in
      let front = makes-front s before (x ∷ after) made in
      let it = next-opens o before pid id file mode (truss_after s before) (after-follows o before [] s k front) at.0 in
      (it.follows, it.was_told);
}

-- before anything was done
pub idle-alone : (o : Options) (xs : List Exchange) → Makes (idle o) xs → OpensChildrenAlone o xs
idle-alone o xs makes = follows-alone o xs (idle o) (record { options = refl; fits = refl; stage = tt }) makes

-- ---- from where nothing is to be done for a process, and from an interrupt on

on-alone : (u v : TrussState) (xs : List Exchange) → GoesOn u false v → Makes v xs → OpensChildrenAlone u.options xs
on-alone u v xs on makes =
    let staged = on-staged on in
    follows-alone u.options xs v (record {
      options = staged.options;
      fits = on-fits u v false on;
      stage = on-follows u.options [] u v false refl on;
    }) makes

pub going-alone : (u : TrussState) (xs : List Exchange) → Makes (with_going_on u) xs → OpensChildrenAlone u.options xs
going-alone u xs makes = on-alone u (with_going_on u) xs (goes-on u false) makes

pub interrupted-alone : (u : TrussState) (xs : List Exchange) → Makes (with_interrupt u) xs
    → OpensChildrenAlone u.options xs
interrupted-alone u xs makes = on-alone (record u { leaving = true }) (with_interrupt u) xs (interrupt-on u) makes
