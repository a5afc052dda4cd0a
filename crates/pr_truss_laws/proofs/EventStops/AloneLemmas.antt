use Rattle.std.proofs.Common.{◌≡◌, ℕ, Some, refl, sym, ap, ◌∙◌}
use Rattle.std.proofs.lemmas.Option.{same_Some}
use Rattle.pr_line.specs.Events.{event_of as event_shown}
use Rattle.pr_parts.specs.PendingSignals.{Pending}
use Rattle.pr_model.specs.State.{TracedLwp, TracedProcess, lwp_of}
use Rattle.pr_model.specs.Statuses.{lwpstatus_of}
use Rattle.pr_model.specs.Stops.{shown}
use Rattle.pr_model.specs.declared.stops.Stop.{Stop}
use Rattle.pr_truss_laws.specs.Stills.{IsFrozen, IsHalting, IsQuiet, IsUndisturbed, stands_still, will_stop}

-- A process that was left alone stands as it stood, and its lwps tell the same events.

module _ (p q : TracedProcess) (alone : IsUndisturbed p q) where
  pub alone-frozen : IsFrozen p → IsFrozen q
  alone-frozen f =
      record { each = λ id k at. let a = alone.each id k at in ap stands_still a.1.1 ∙ f.each id a.0 a.1.0 }

  pub alone-halting : IsHalting p → IsHalting q
  alone-halting f = record { each = λ id k at. let a = alone.each id k at in ap will_stop a.1.1 ∙ f.each id a.0 a.1.0 }

  pub alone-quiet : IsQuiet p → IsQuiet q
  alone-quiet f = record {
    each = λ id k at.
        let a = alone.each id k at in
        let none = f.each id a.0 a.1.0 in
        record {
          no_stop = ap (λ (x : TracedLwp). x.control.stop) a.1.1 ∙ none.no_stop;
          not_directed = ap (λ (x : TracedLwp). x.control.directed) a.1.1 ∙ none.not_directed;
        };
  }

  same-dispositions : q.dispositions ≡ p.dispositions
  same-dispositions = ap (λ (x : TracedProcess). x.dispositions) alone.rest

  -- what pends for an lwp is no part of its event
  told-pending : (x : TracedProcess) (id : ℕ) (l : TracedLwp) (pending : Pending) (stop : Stop)
      → l.control.stop ≡ Some stop → x.dispositions ≡ p.dispositions
      → event_shown (lwpstatus_of x id (record l { pending = pending })) ≡ event_shown (lwpstatus_of p id l)
  unfolding event_shown lwpstatus_of shown
  told-pending x id l pending stop stands same = rw (stands, same) refl

  told-same : (id : ℕ) (l k : TracedLwp) (stop : Stop) → l.control.stop ≡ Some stop
      → k ≡ record l { pending = k.pending } → event_shown (lwpstatus_of q id k) ≡ event_shown (lwpstatus_of p id l)
  told-same id l k stop stands is =
      ap (λ (y : TracedLwp). event_shown (lwpstatus_of q id y)) is
      ∙ told-pending q id l k.pending stop stands same-dispositions

  pub alone-tells : (id : ℕ) (l k : TracedLwp) (stop : Stop) → lwp_of p id ≡ Some l → lwp_of q id ≡ Some k
      → l.control.stop ≡ Some stop → event_shown (lwpstatus_of q id k) ≡ event_shown (lwpstatus_of p id l)
  alone-tells id l k stop before after stands =
      let a = alone.each id k after in
      told-same id l k stop stands (a.1.1
      ∙ ap (λ (x : TracedLwp). record x { pending = k.pending }) (same_Some a.0 l (sym a.1.0 ∙ before)))

pub ruleset alones = (alone-frozen, alone-halting, alone-quiet)
