use Rattle.std.proofs.Common.{◌≡◌, ◌<◌, ℕ, true, false, Some, length, sym, subst, ap, ◌∙◌}
use Rattle.std.proofs.lemmas.Bool.{false≢true}
use Rattle.std.proofs.lemmas.Option.{none-some, same_Some}
use Rattle.pr_line.specs.declared.options.Options.{Options}
use Rattle.pr_model.specs.State.{TracedProcess, TracedState, live_process}
use Rattle.pr_truss.specs.Trusses.{TrussState, traced_at}
use Rattle.pr_report_laws.proofs.Files.FileLaws.{HasFiles}
use Rattle.pr_report_laws.proofs.Invariant.OtherSteps.{is-watched}
use Rattle.pr_report_laws.proofs.Invariant.Standing as st
use Rattle.pr_report_laws.proofs.Invariant.Standing.{Position, Prepares, Standing}
use Rattle.pr_report_laws.proofs.Invariant.Tallies.{Tally}
use Rattle.pr_report_laws.proofs.Invariant.Positions.{IsTracedBy}
use Rattle.pr_report_laws.specs.Watching.{is_away, place_of}

-- How a process stands that truss watches at a place.

-- how a process stands with truss, whatever may be missing of it
pub record IsStanding (o : Options) (pid : ℕ) (t : TrussState) (s : TracedState) : Type 1 where
  pub Why : Type 0
  pub tally : Tally
  pub standing : Standing Why o pid t s tally
  pub prepares : Prepares o pid t s

module _ (k : ℕ) (o : Options) (t : TrussState) (s : TracedState) (files : HasFiles k t s) (stays : t.leaving ≡ false)
    (place : ℕ) (within : place < length t.traced) (w : IsStanding o (traced_at t place).pid t s) where
  pub stood-at : (traced_at t place).attached ≡ true → is_away false t.stage place ≡ false → (p : TracedProcess)
      → live_process s.system (traced_at t place).pid ≡ Some p
      → IsTracedBy o p × Position o t.stage place (traced_at t place).old p w.tally
  stood-at on here p live = by w.standing
    where
      at : place_of t (traced_at t place).pid ≡ Some place
      at = files.one place within

      not_away : is_away t.leaving t.stage place ≡ false
      not_away = ap (λ b. is_away b t.stage place) stays ∙ here

      by : {W : Type 0} → Standing W o (traced_at t place).pid t s w.tally
          → IsTracedBy o p × Position o t.stage place (traced_at t place).old p w.tally
      by (st.apart off account) =
          absurd (false≢true (sym off ∙ is-watched t (traced_at t place).pid place at on not_away))
      by (st.over watches none account) = absurd (none-some p (sym none ∙ live))
      by (st.lives other r there attached goes living traced position) =
          let same : other ≡ place = same_Some other place (sym there ∙ at) in
          let it : r ≡ p = same_Some r p (sym living ∙ live) in (
            subst (IsTracedBy o) it traced,
            subst (λ (x : TracedProcess). Position o t.stage place (traced_at t place).old x w.tally) it
                (subst (λ m. Position o t.stage m (traced_at t m).old r w.tally) same position),
          )
