use Rattle.std.proofs.Common.{◌≡◌, ◌≢◌, ℕ, Bool, true, false, Option, Some, None, cond, refl, sym, subst, ◌∙◌, ap}
use Rattle.pr_num.specs.Control.{has_flags, async_mode}
use Rattle.pr_model.specs.Changes.{Ending, ends_process, ends_lwp, all_changed, ended}
use Rattle.pr_model.specs.Lawful.{IsLawfulPending, IsLawfulSystem}
use Rattle.pr_model.specs.LwpTurns.{with_counted, settled}
use Rattle.pr_model.specs.Machines.{fault_incurred, fault_posted, traced}
use Rattle.pr_model.specs.Moves as move
use Rattle.pr_model.specs.Moves.{Move, moved}
use Rattle.pr_model.specs.Points.{is_traced, stopped_at, with_others_directed, with_stop_at, after_meeting}
use Rattle.pr_model.specs.Rows.{Row}
use Rattle.pr_model.specs.State.{TracedLwp, TracedProcess, TracedSystem, process_of, with_process, with_lwp, with_lwp_of}
use Rattle.pr_model.specs.Stops.{has_event_stop, directed, with_all_directed}
use Rattle.pr_model.specs.Transitions.{Transition, ended_if, after_transition}
use Rattle.pr_model.specs.declared.stops.Point.{Point}
use Rattle.pr_lawful.proofs.LawfulTurns.ChangeLemmas.{all_changed-lawful}
use Rattle.pr_lawful.proofs.LawfulTurns.EndLemmas.{ended-lawful, lwp_ended-lawful}
use Rattle.pr_num.specs.Faults.{fault_signal}
use Rattle.pr_num.specs.Infos.{of_fault}
use Rattle.pr_num.specs.Signals.{signal_number}
use Rattle.pr_num.specs.declared.faults.Flt.{Flt}
use Rattle.pr_num.specs.declared.faults.Flt.TheVariants.{Watch}
use Rattle.pr_parts.specs.PendingSignals.{is_standard, without_one}
use Rattle.pr_lawful.proofs.ProcessParts.InfoLemmas.{added-infos, fault-info, taken-infos}
use Rattle.pr_lawful.proofs.ProcessParts.LocalLemmas.{KeepsLwp, same_sets, keeps-if, Keeps, kept-same, kept-next, kept-if, kept-parts, same_rest, same_lwps, keeps-lwp, keeps-each}
use Rattle.pr_lawful.proofs.ProcessParts.SignalLemmas.{standard-room}
use Rattle.pr_lawful.proofs.LawfulTurns.SuitingLemmas.{SuitsMove, SuitsTransition}
use Rattle.pr_lawful.proofs.ProcessParts.SystemLemmas.{change_under-same, kept}

-- A transition that suits a lawful system leaves it lawful; and so do the counts and the stop that follow it.

-- ---- moves: a line a kind of move

-- the signal of a fault does not queue
fault-standard : (f : Flt) → is_standard (fault_signal f) ≡ true
unfolding fault_signal signal_number
fault-standard Watch = refl
fault-standard _ = refl

moved-keeps : (m : Move) → SuitsMove m → KeepsLwp (moved traced m)
unfolding moved traced fault_incurred fault_posted
moved-keeps move.stays suits = same_sets (moved traced move.stays) (λ l. refl) (λ l. refl) (λ l. refl) (λ l. refl)
moved-keeps move.stops suits = same_sets (moved traced move.stops) (λ l. refl) (λ l. refl) (λ l. refl) (λ l. refl)
moved-keeps (move.posts f address) suits =
    λ next id l it. record {
      id = it.id;
      held = it.held;
      frames = it.frames;
      few_frames = it.few_frames;
      pending =
          added-infos (fault_signal f) (of_fault address) l.pending (fault-info address)
          (standard-room (fault_signal f) l.pending (fault-standard f)) it.pending;
      current = it.current;
    }
moved-keeps move.returns suits = same_sets (moved traced move.returns) (λ l. refl) (λ l. refl) (λ l. refl) (λ l. refl)
moved-keeps (move.runs regs) suits =
    same_sets (moved traced (move.runs regs)) (λ l. refl) (λ l. refl) (λ l. refl) (λ l. refl)
moved-keeps (move.enters call regs) suits =
    same_sets (moved traced (move.enters call regs)) (λ l. refl) (λ l. refl) (λ l. refl) (λ l. refl)
moved-keeps (move.incurs f address) suits =
    same_sets (moved traced (move.incurs f address)) (λ l. refl) (λ l. refl) (λ l. refl) (λ l. refl)
moved-keeps (move.traps f address regs) suits =
    same_sets (moved traced (move.traps f address regs)) (λ l. refl) (λ l. refl) (λ l. refl) (λ l. refl)
moved-keeps (move.leaves call args result) suits =
    same_sets (moved traced (move.leaves call args result)) (λ l. refl) (λ l. refl) (λ l. refl) (λ l. refl)
moved-keeps (move.sleeps call args since) suits =
    same_sets (moved traced (move.sleeps call args since)) (λ l. refl) (λ l. refl) (λ l. refl) (λ l. refl)
moved-keeps (move.takes c own) suits =
    λ next id l it. record {
      id = it.id;
      held = it.held;
      frames = it.frames;
      few_frames = it.few_frames;
      pending =
          elim own as
          (λ b. IsLawfulPending
          (cond b (without_one c.signal l.pending) l.pending)) [
            | true ↦ taken-infos c.signal l.pending it.pending
            | false ↦ it.pending
          ];
      current = suits;
    }
moved-keeps move.drops suits =
    λ next id l it. record {
      id = it.id;
      held = it.held;
      frames = it.frames;
      few_frames = it.few_frames;
      pending = it.pending;
      current = tt;
    }
moved-keeps (move.catches frames regs held) suits =
    λ next id l it. record {
      id = it.id;
      held = suits.holdable;
      frames = suits.backs;
      few_frames = suits.few;
      pending = it.pending;
      current = tt;
    }

-- ---- transitions

pub stayed : (pid id : ℕ) (s : TracedSystem) → with_lwp_of pid id (moved traced move.stays) s ≡ s
unfolding with_lwp_of with_process with_lwp moved
stayed pid id s =
    ap (λ ps. record s { processes = ps })
    (change_under-same pid (with_lwp id (moved traced move.stays))
    (λ p. ap (λ ls. record p { lwps = ls })
    (change_under-same id (moved traced move.stays) (λ l. refl) p.lwps)) s.processes)

module _ (s : TracedSystem) (pid : ℕ) (p : TracedProcess) (id : ℕ) (l : TracedLwp) (h : IsLawfulSystem s)
    (user : pid ≢ 0) (found : process_of s pid ≡ Some p) (live : p.ended ≡ None) where
  ending-lawful : (how : Ending) → IsLawfulSystem (ended traced pid p id how s)
  unfolding ended
  ending-lawful (ends_process status) = ended-lawful s pid p status h user found
  ending-lawful ends_lwp = lwp_ended-lawful s pid p id h user found live

  pub transition-lawful : (t : Transition) → SuitsTransition s pid p id l t
      → IsLawfulSystem (after_transition traced pid p id l t s)
  unfolding after_transition with_lwp_of all_changed
  transition-lawful t suits = by t.ending refl
    where
      to : TracedSystem
      to = with_lwp_of pid id (moved traced t.move) (all_changed traced pid p id l t.changes s)

      nothing_else : (how : Ending) → t.ending ≡ Some how → to ≡ s
      nothing_else how is =
          let alone = suits.alone how is in
          ap (λ cs. with_lwp_of pid id (moved traced t.move) (all_changed traced pid p id l cs s)) alone.0
          ∙ ap (λ m. with_lwp_of pid id (moved traced m) s) alone.1 ∙ stayed pid id s

      by : (o : Option Ending) → t.ending ≡ o → IsLawfulSystem (ended_if traced pid p id l o to)
      by None is =
          kept (all_changed traced pid p id l t.changes s) pid (with_lwp id (moved traced t.move)) user
          (λ x there. keeps-lwp id (moved traced t.move) (moved-keeps t.move suits.move) pid x)
          (all_changed-lawful pid p id l user t.changes s h suits.changes)
      by (Some how) is =
          subst (λ u. IsLawfulSystem (ended traced pid p id how u)) (sym (nothing_else how is)) (ending-lawful how)

-- ---- counts and stops

counted-keeps : (did : _) (begun : Bool) → Keeps (with_counted did begun)
unfolding with_counted
counted-keeps did begun pid x =
    kept-parts pid x (with_counted did begun x) refl (same_rest x _ refl refl refl refl refl (λ it. it))
    (same_lwps x _ refl refl) refl refl

pub directed-keeps : KeepsLwp directed
unfolding directed
directed-keeps next id l it =
    keeps-if (has_event_stop l) (λ m. m) (λ m. record m { control = record m.control { directed = true } })
    (λ n i m has. has)
    (same_sets (λ m. record m { control = record m.control { directed = true } }) (λ m. refl) (λ m. refl)
    (λ m. refl) (λ m. refl)) next id l it

pub all_directed-keeps : Keeps with_all_directed
unfolding with_all_directed
all_directed-keeps pid x = keeps-each directed directed-keeps pid x

stopped-keeps : (point : Point) → KeepsLwp (stopped_at point)
unfolding stopped_at
stopped-keeps point = same_sets (stopped_at point) (λ l. refl) (λ l. refl) (λ l. refl) (λ l. refl)

meeting-keeps : (point : Option Point) (id : ℕ) → Keeps (after_meeting point id)
unfolding after_meeting with_stop_at with_others_directed
meeting-keeps None id pid x = kept-same pid x
meeting-keeps (Some point) id pid x =
    let at = with_lwp id (stopped_at point) x in
    let stopped = keeps-lwp id (stopped_at point) (stopped-keeps point) pid x in
    kept-if pid (is_traced x.control point) x (cond (has_flags at.control.modes async_mode) at (with_all_directed at)) x
    (kept-if pid (has_flags at.control.modes async_mode) x at (with_all_directed at) stopped
    (kept-next pid x at (with_all_directed at) stopped (all_directed-keeps pid at)))
    (kept-same pid x)

pub settled-lawful : (s : TracedSystem) (pid : ℕ) (p : TracedProcess) (id : ℕ) (l : TracedLwp) → IsLawfulSystem s
    → pid ≢ 0 → process_of s pid ≡ Some p → p.ended ≡ None → (row : Row) → SuitsTransition s pid p id l row.transition
    → IsLawfulSystem (settled s pid p id l row).system
unfolding settled
settled-lawful s pid p id l h user found live row suits =
    kept _ pid (after_meeting row.point id) user (λ x is. meeting-keeps row.point id pid x)
    (kept _ pid (with_counted row.did row.begun) user (λ x is. counted-keeps row.did row.begun pid x)
    (transition-lawful s pid p id l h user found live row.transition suits))
