use Rattle.std.proofs.Common.{◌≡◌, ◌≢◌, ℕ, Bool, true, false, cond, List, Option, Some, None, IsSome, is_none, is_some, refl, sym, subst, ap, ◌∙◌, inl, inr}
use Rattle.std.proofs.lemmas.Bool.{false≢true}
use Rattle.std.proofs.lemmas.Option.{none-some, same_Some}
use Rattle.pr_core.specs.Gcores.{GcoreState, accepted, answered, call_of, fed, has_ended, next_call_of, passes_over, refusal_in, refused}
use Rattle.pr_core.specs.declared.gcore_stages.GcoreStage.{GcoreStage}
use Rattle.pr_core.specs.declared.gcore_stages.GcoreStage.TheVariants as stage
use Rattle.pr_model.specs.State.{TracedState}
use Rattle.pr_model.specs.declared.calls.Reply.{Reply}
use Rattle.pr_model.specs.declared.calls.Reply.TheVariants as reply
use Rattle.pr_model.specs.declared.events.Entry.{Entry}
use Rattle.pr_num.specs.declared.errnos.Errno.{Errno}
use Rattle.pr_core_laws.proofs.OneState.GcoreStages.{Stage, goes, has_read, open_at, refused as was_refused}
use Rattle.pr_core_laws.proofs.OneState.GcoreSteps.{IsEnding, refused-still}
use Rattle.pr_core_laws.proofs.OpenFiles.HandleLemmas.{HasFirst}

-- What gcore has open at a stage, and which replies it takes.

-- the stages up to the last read
abbrev pub goes_on : GcoreStage → Bool
goes_on stage.Run = false
goes_on stage.Release = false
goes_on stage.Close = false
goes_on _ = true

ending-off : (next : GcoreStage) → IsEnding next → goes_on next ≡ false
ending-off next (inl is) = ap goes_on is
ending-off next (inr is) = ap goes_on is

module _ (n k pid : ℕ) (first : TracedState) where
  -- all that it has opened so far is open
  abbrev pub Holds : TracedState → GcoreState → GcoreStage → Type 0
  Holds s g p = HasFirst k pid (open_at n k pid first p) s.opens g.opened

  pub holds-at : (h : List Entry) (s : TracedState) (g : GcoreState) → Stage n k pid first h s g → g.refusal ≡ None
      → goes_on g.stage ≡ true → Holds s g g.stage
  holds-at h s g (goes it) none on = subst (λ (u : GcoreState). Holds s u u.stage) (sym it.is) it.holds
  holds-at h s g (has_read all) none on =
      absurd (false≢true (sym (ap (λ (u : GcoreState). goes_on u.stage) all.is ∙ ending-off all.next all.ends) ∙ on))
  holds-at h s g (was_refused was) none on = absurd (false≢true (sym (ap is_some none) ∙ was))

-- ---- replies that it takes

-- a reply that refuses a stage is a refusal that counts there
pub refused-reply : (p : GcoreStage) (r : Reply) (e : Errno) → refusal_in p r ≡ Some e
    → (passes_over p ≡ false) × (r ≡ reply.Fail e)
unfolding refusal_in
refused-reply p (reply.Fail d) e is = by (passes_over p) refl is
  where
    by : (b : Bool) → passes_over p ≡ b → cond b None (Some d) ≡ Some e
        → (passes_over p ≡ false) × (reply.Fail d ≡ reply.Fail e)
    by true at same = absurd (none-some e same)
    by false at same = (at, ap reply.Fail (same_Some d e same))
refused-reply p _ e is = absurd (none-some e is)

pub granted-at : (p : GcoreStage) (r : Reply) → passes_over p ≡ false → refusal_in p r ≡ None → (e : Errno)
    → r ≢ reply.Fail e
unfolding refusal_in
granted-at p r counts none e is =
    let it : cond (passes_over p) None (Some e) ≡ None = ap (refusal_in p) (sym is) ∙ none in
    none-some e (sym (ap (λ (b : Bool). cond b None (Some e)) (sym counts) ∙ it))

-- it is not refused, and takes the reply
pub record Takes (g : GcoreState) (r : Reply) : Type 0 where
  pub before : g.refusal ≡ None
  pub none : refusal_in g.stage r ≡ None
  pub is : fed g r ≡ accepted g r g.stage

pub takes : (g : GcoreState) (r : Reply) → (fed g r).refusal ≡ None → Takes g r
unfolding fed refused
takes g r none = by (refusal_in g.stage r) refl none
  where
    was : (o : Option Errno) → g.refusal ≡ o → o ≡ None
    was None is = refl
    was (Some e) is =
        let still : IsSome (fed g r).refusal = refused-still g r (ap (λ (o : Option Errno). is_some o) is) in
        absurd (false≢true (sym (ap (λ (o : Option Errno). is_some o) none) ∙ still))

    by : (o : Option Errno) → refusal_in g.stage r ≡ o → (answered g r o).refusal ≡ None → Takes g r
    by None is not = record { before = was g.refusal refl; none = is; is = ap (answered g r) is }
    by (Some e) is not = absurd (none-some e (sym not))

-- ---- the end

-- who has finished is at its closes
pub ended-closes : (g : GcoreState) → has_ended g ≡ true → g.stage ≡ stage.Close
unfolding has_ended next_call_of call_of
ended-closes g ended = by g.stage ended
  where
    by : (p : GcoreStage) → is_none (call_of g p) ≡ true → p ≡ stage.Close
    by stage.Close over = refl
    by stage.OpenCtl over = absurd (false≢true over)
    by stage.OpenStatus over = absurd (false≢true over)
    by (stage.OpenPart which) over = absurd (false≢true over)
    by stage.OpenMemory over = absurd (false≢true over)
    by stage.ReadFirst over = absurd (false≢true over)
    by stage.Stop over = absurd (false≢true over)
    by stage.AwaitStop over = absurd (false≢true over)
    by stage.ReadStatus over = absurd (false≢true over)
    by (stage.ReadPart which) over = absurd (false≢true over)
    by stage.ReadMemory over = absurd (false≢true over)
    by stage.Run over = absurd (false≢true over)
    by stage.Release over = absurd (false≢true over)
