use Rattle.std.proofs.Common.{◌≡◌, ℕ, Bool, true, false, Option, refl, sym, ◌∙◌}
use Rattle.std.proofs.lemmas.Bool.{false≢true}
use Rattle.pr_model.specs.declared.calls.Reply.{Reply}
use Rattle.pr_truss.specs.Feeding.{fed}
use Rattle.pr_truss.specs.Replies.{answer_of}
use Rattle.pr_truss.specs.Trusses.{TrussState}
use Rattle.pr_truss.specs.declared.replies.Answer.TheVariants.{Interrupted}
use Rattle.pr_truss.specs.declared.stages.AfterClosing.{AfterClosing}
use Rattle.pr_truss.specs.declared.stages.Stage.{Stage}
use Rattle.pr_truss_laws.proofs.Replies.FedSteps.{fed-step}
use Rattle.pr_truss_laws.proofs.Replies.ReplySteps as row
use Rattle.pr_truss_laws.proofs.Replies.ReplySteps.{Closes, GoesOn, Looks, ReplyStep, Returns, Settles, StopOver, on-staged}

-- What a reply leaves as it was where nothing is said of functions: what truss does beside its stage stays, and truss
-- goes on where it was not interrupted.

-- ---- what a reply leaves where nothing is said of functions

on-aside : {u v : TrussState} {given : Bool} → GoesOn u given v → v.aside ≡ u.aside
on-aside (row.polls _ _) = refl
on-aside _ = refl

module _ (s : TrussState) (r : Reply) where
  -- What truss does beside its stage stays, and it leaves its processes only where it was interrupted.
  pub record Steady (u : TrussState) : Type 0 where
    pub aside : u.aside ≡ s.aside
    pub leaves : s.leaving ≡ false → u.leaving ≡ true → answer_of r ≡ Interrupted

  still : {A : Type 0} → s.leaving ≡ false → s.leaving ≡ true → A
  still off on = absurd (false≢true (sym off ∙ on))

  steady : Steady s
  steady = record { aside = refl; leaves = λ off on. still off on }

  steady-as : (u : TrussState) → u.aside ≡ s.aside → u.leaving ≡ s.leaving → Steady u
  steady-as u aside same = record { aside = aside; leaves = λ off on. still off (sym same ∙ on) }

  interrupted-so : (u : TrussState) → u.aside ≡ s.aside → answer_of r ≡ Interrupted → Steady u
  interrupted-so u aside is = record { aside = aside; leaves = λ off on. is }

  settles-steady : (stage : Stage) (given : Bool) (u : TrussState) → Settles s r stage given u → Steady u
  settles-steady stage given u (row.interrupts_start is) = interrupted-so u refl is
  settles-steady stage given u (row.interrupts_control is) = interrupted-so u refl is
  settles-steady stage given u (row.interrupts_poll is) = interrupted-so u refl is
  settles-steady stage given u (row.interrupts_status is) = interrupted-so u refl is
  settles-steady stage given u (row.interrupts_opening is) = interrupted-so u refl is
  settles-steady stage given u (row.interrupts_text is _) = interrupted-so u refl is
  settles-steady stage given u (row.interrupts_child_control is) = interrupted-so u refl is
  settles-steady stage given u (row.interrupts_child is) = interrupted-so u refl is
  settles-steady stage given u (row.interrupts_run is) = interrupted-so u refl is
  settles-steady stage given u _ = steady-as u refl refl

  looks-steady : (stage : Stage) (place : ℕ) (pid : Option ℕ) (u : TrussState) → Looks s r stage place pid u → Steady u
  looks-steady stage place pid u (row.passes _) = steady
  looks-steady stage place pid u _ = steady-as u refl refl

  closes-steady : (stage : Stage) (place : ℕ) (next : AfterClosing) (u : TrussState) → Closes s r stage place next u
      → Steady u
  closes-steady stage place next u (row.status_ended _) = steady
  closes-steady stage place next u _ = steady-as u refl refl

  returns-steady : (stage : Stage) (parent : ℕ) (u : TrussState) → Returns s r stage parent u → Steady u
  returns-steady stage parent u (row.child_runs _) = steady
  returns-steady stage parent u _ = steady-as u refl refl

  on-steady : (u v : TrussState) (given : Bool) → Steady u → GoesOn u given v → Steady v
  on-steady u v given w on =
      let same = on-staged on in
      record { aside = on-aside on ∙ w.aside; leaves = λ off is. w.leaves off (sym same.leaving ∙ is) }

  over-steady : (u v : TrussState) (place : ℕ) (pid : Option ℕ) → Steady u → StopOver u place pid v → Steady v
  over-steady u v place pid w (row.runs _) = record { aside = w.aside; leaves = w.leaves }
  over-steady u v place pid w _ = record { aside = w.aside; leaves = w.leaves }

  step-steady : (stage : Stage) (v : TrussState) → ReplyStep s r stage v → Steady v
  step-steady stage v (row.settles {u = u} w on) = on-steady u v _ (settles-steady stage _ u w) on
  step-steady stage v (row.looks {u = u} w over) = over-steady u v _ _ (looks-steady stage _ _ u w) over
  step-steady stage v (row.closes {u = u} w) =
      let it = closes-steady stage _ _ u w in record { aside = it.aside; leaves = it.leaves }
  step-steady stage v (row.returns {u = u} w) =
      let it = returns-steady stage _ u w in record { aside = it.aside; leaves = it.leaves }
  step-steady stage v _ = steady-as v refl refl

  pub fed-steady : Steady (fed s r)
  fed-steady = step-steady s.stage (fed s r) (fed-step s r)
