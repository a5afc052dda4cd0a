use Rattle.std.proofs.Common.{◌≡◌, ℕ, Bool, true, false, cond, eqb, Some, List, [], ◌∷◌, refl, sym, ap, ◌∙◌, IsSome}
use Rattle.pr_num.specs.ById.{change_under}
use Rattle.pr_call.specs.Effects.{after_effect, effect_of, outcome_of}
use Rattle.pr_call.specs.Requests.{request_of}
use Rattle.pr_call.specs.declared.requests.Performed.{Performed}
use Rattle.pr_call.specs.declared.requests.Request.{Request}
use Rattle.pr_model.specs.Changes.{Effect, does, sleeps, ends, all_changed, ended}
use Rattle.pr_model.specs.Machines.{traced}
use Rattle.pr_model.specs.Moves.{moved, stays}
use Rattle.pr_model.specs.Points.{is_traced, meets}
use Rattle.pr_model.specs.Rows.{Row, performed_row}
use Rattle.pr_model.specs.State.{TracedControl, TracedLwp, TracedProcess, TracedSystem, live_process, lwp_of, with_lwp, with_lwp_of, with_process}
use Rattle.pr_model.specs.Transitions.{after_transition, performed}
use Rattle.pr_model.specs.declared.stops.Point.TheVariants.{Exit}
use Rattle.pr_turn.specs.CallTurns.{call_made, call_moved, call_stops}
use Rattle.pr_turn.specs.Making.{of_row}
use Rattle.pr_turn.specs.Turns.{IsNext, TurnMakes}
use Rattle.pr_turn.specs.declared.making.Made.{Made}
use Rattle.pr_turn.specs.declared.next.NextTurn.TheVariants.{Performs}

-- The turn of an lwp that performs a call.

-- ---- what stays as it was

all-same : {X : Type 0} (id : ℕ) (f : X → X) (es : List (ℕ × X)) → ((x : X) → f x ≡ x) → change_under id f es ≡ es
all-same id f [] same = refl
all-same id f (e ∷ es) same =
    rw (same e.1, all-same id f es same)
    (elim (eqb e.0 id) as (λ b. cond b (e ∷ es) (e ∷ es) ≡ e ∷ es) [ true ↦ refl | false ↦ refl ])

-- an lwp that stays as it was leaves its system as it was
no-move : (pid id : ℕ) (s : TracedSystem) → with_lwp_of pid id (λ l. l) s ≡ s
unfolding with_lwp_of with_process with_lwp
no-move pid id s =
    ap (λ ps. record s { processes = ps })
    (all-same pid (with_lwp id (λ l. l)) s.processes
    (λ p. ap (λ ls. record p { lwps = ls }) (all-same id (λ l. l) p.lwps (λ l. refl))))

no-stay : (pid id : ℕ) (s : TracedSystem) → with_lwp_of pid id (moved traced stays) s ≡ s
unfolding with_lwp_of with_process with_lwp moved
no-stay pid id s =
    ap (λ ps. record s { processes = ps })
    (all-same pid (with_lwp id (moved traced stays)) s.processes
    (λ p. ap (λ ls. record p { lwps = ls }) (all-same id (moved traced stays) p.lwps (λ l. refl))))

-- ---- what comes of an effect

module _ (s : TracedSystem) (p : TracedProcess) (l : TracedLwp) (woken : Bool) (r : Request) where
  after-performed : (e : Effect)
      → with_lwp_of r.pid r.lwp (call_moved r (outcome_of e)) (after_effect r.pid p r.lwp l e s)
      ≡ after_transition traced r.pid p r.lwp l (performed_row woken r.call r.args r.since e).transition s
  unfolding call_moved after_effect after_transition performed_row performed all_changed
  after-performed (does result changes) = refl
  after-performed sleeps = refl
  after-performed (ends how) =
      no-move r.pid r.lwp (ended traced r.pid p r.lwp how s)
      ∙ ap (λ t. ended traced r.pid p r.lwp how t) (sym (no-stay r.pid r.lwp s))

  made-performed : (e : Effect)
      → call_made woken r.call (outcome_of e) ≡ of_row (performed_row woken r.call r.args r.since e)
  unfolding performed_row
  made-performed (does result changes) = refl
  made-performed sleeps = refl
  made-performed (ends how) = refl

  stops-performed : (c : TracedControl) (e : Effect)
      → call_stops (is_traced c (Exit r.call)) (outcome_of e)
      ≡ meets c (performed_row woken r.call r.args r.since e).point
  unfolding performed_row
  stops-performed c (does result changes) = refl
  stops-performed c sleeps = refl
  stops-performed c (ends how) = refl

-- ---- the turn

-- the call that is performed is the one that the lwp makes
pub next-asks : (s : TracedSystem) (woken : Bool) (r : Request)
    → IsNext s r.pid r.lwp (Performs woken r.call r.args r.since) → request_of s r.pid r.lwp ≡ Some r
unfolding request_of
next-asks s woken r is = rw (is.found, is.stands) is.asks

pub next-asked : (s : TracedSystem) (woken : Bool) (r : Request)
    → IsNext s r.pid r.lwp (Performs woken r.call r.args r.since) → IsSome (request_of s r.pid r.lwp)
next-asked s woken r is = rw (next-asks s woken r is) refl

module _ (s after new : TracedSystem) (woken : Bool) (r : Request) where
  pub performed-makes : (outcome : Performed) (traces : Bool) (did : Made) (stop : Bool)
      → IsNext s r.pid r.lwp (Performs woken r.call r.args r.since)
      → ((p : TracedProcess) → live_process s r.pid ≡ Some p → (l : TracedLwp) → lwp_of p r.lwp ≡ Some l
      → after ≡ after_effect r.pid p r.lwp l (effect_of s p l r) s)
      → ((p : TracedProcess) → live_process s r.pid ≡ Some p → (l : TracedLwp) → lwp_of p r.lwp ≡ Some l
      → outcome ≡ outcome_of (effect_of s p l r))
      → ((p : TracedProcess) → live_process s r.pid ≡ Some p → traces ≡ is_traced p.control (Exit r.call))
      → new ≡ with_lwp_of r.pid r.lwp (call_moved r outcome) after → did ≡ call_made woken r.call outcome
      → stop ≡ call_stops traces outcome → TurnMakes s new r.pid r.lwp did stop
  performed-makes outcome traces did stop is system came asks e what stops =
      let p : TracedProcess = is.process in
      let l : TracedLwp = is.lwp in
      let effect : Effect = effect_of s p l r in
      let after_is : after ≡ after_effect r.pid p r.lwp l effect s = system p is.found l is.stands in
      let came_is : outcome ≡ outcome_of effect = came p is.found l is.stands in
      let new_is : new
      ≡ with_lwp_of r.pid r.lwp (call_moved r (outcome_of effect)) (after_effect r.pid p r.lwp l effect s) =
      e ∙ ap (λ o. with_lwp_of r.pid r.lwp (call_moved r o) after) came_is
      ∙ ap (λ t. with_lwp_of r.pid r.lwp (call_moved r (outcome_of effect)) t) after_is
      in
      record {
        process = p;
        lwp = l;
        found = is.found;
        stands = is.stands;
        may = is.may;
        system =
            new_is ∙ after-performed s p l woken r effect
            ∙ ap (λ (x : Row). after_transition traced r.pid p r.lwp l x.transition s) is.row;
        what = what ∙ ap (λ o. call_made woken r.call o) came_is ∙ made-performed s p l woken r effect
            ∙ ap of_row is.row;
        traces =
            stops ∙ ap (λ t. call_stops t outcome) (asks p is.found)
            ∙ ap (λ o. call_stops (is_traced p.control (Exit r.call)) o) came_is
            ∙ stops-performed s p l woken r p.control effect ∙ ap (λ (x : Row). meets p.control x.point) is.row;
      }
