use Rattle.std.proofs.Common.{◌≡◌, ℕ, suc, None, Some, refl, sym, subst, ◌∙◌}
use Rattle.pr_line.specs.declared.options.Options.{Options}
use Rattle.pr_model.specs.Messages.{with_control}
use Rattle.pr_model.specs.State.{TracedControl, TracedProcess, TracedState, live_process}
use Rattle.pr_truss.specs.Trusses.{TrussState, traced_at}
use Rattle.pr_truss.specs.declared.stages.Stage.{Stage}
use Rattle.pr_report_laws.proofs.Invariant.Tallies.{Tally}
use Rattle.pr_report_laws.proofs.Machine.SettingLaws.{set-event, set-quiet, set-waits}
use Rattle.pr_report_laws.proofs.Invariant.Standing.{Position, Standing, apart, goes, has_event, lives, old_stops, over, stop_read}
use Rattle.pr_report_laws.proofs.Invariant.Positions.{IsTracedBy}

-- What is set on a process is no part of how it stands.

pub position-control : (o : Options) (stage : Stage) (place old : ℕ) (f : TracedControl → TracedControl)
    (p q : TracedProcess) (tally : Tally) → q ≡ with_control f p
    → Position o stage place old p tally → Position o stage place old q tally
position-control o stage place old f p q tally is w =
    subst (λ (x : TracedProcess). Position o stage place old x tally) (sym is) (by w)
  where
    by : Position o stage place old p tally → Position o stage place old (with_control f p) tally
    by (stop_read read waits all) = stop_read read (set-waits f p (suc old) waits) all
    by (old_stops n read counts waits all) = old_stops n read counts (set-waits f p (suc n) waits) all
    by (goes read named none quiet all) = goes read named none (set-quiet f p quiet) all
    by (has_event id event read none one named all) =
        has_event id event read none (set-event f p id event one) (λ n. set-waits f p 1 (named n)) all

-- a message that changed what is set on the process, and left it traced
pub control-standing : (Why : Type 0) (o : Options) (pid : ℕ) (t : TrussState) (s v : TracedState)
    (tally : Tally) (f : TracedControl → TracedControl)
    → (live_process s.system pid ≡ None → live_process v.system pid ≡ None)
    → ((p : TracedProcess) → live_process s.system pid ≡ Some p → live_process v.system pid ≡ Some (with_control f p))
    → ((p : TracedProcess) → IsTracedBy o p → IsTracedBy o (with_control f p))
    → Standing Why o pid t s tally → Standing Why o pid t v tally
control-standing Why o pid t s v tally f ends changes keeps (apart unwatched a) = apart unwatched a
control-standing Why o pid t s v tally f ends changes keeps (over watched ended a) = over watched (ends ended) a
control-standing Why o pid t s v tally f ends changes keeps (lives place p at attached here live traced position) =
    lives place (with_control f p) at attached here (changes p live) (keeps p traced)
    (position-control o t.stage place (traced_at t place).old f p (with_control f p) tally refl position)

-- the same where nothing of the machine changed but handles
pub system-standing : (Why : Type 0) (o : Options) (pid : ℕ) (t : TrussState) (s v : TracedState)
    (tally : Tally) → live_process v.system pid ≡ live_process s.system pid → Standing Why o pid t s tally
    → Standing Why o pid t v tally
system-standing Why o pid t s v tally same (apart unwatched a) = apart unwatched a
system-standing Why o pid t s v tally same (over watched ended a) = over watched (same ∙ ended) a
system-standing Why o pid t s v tally same (lives place p at attached here live traced position) =
    lives place p at attached here (same ∙ live) traced position
