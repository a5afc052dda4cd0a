use Rattle.std.proofs.Common.{◌≡◌, ◌≢◌, ◌<◌, ℕ, true, None, Some, Option, refl, sym, ap, ◌∙◌, inl, inr, ◌⊎◌}
use Rattle.std.proofs.lemmas.Bool.{false≢true}
use Rattle.std.proofs.lemmas.Option.{none-some}
use Rattle.pr_lawful.proofs.ProcessParts.HandleLemmas.{handle-at}
use Rattle.pr_line.specs.declared.options.Options.{Options}
use Rattle.pr_model.specs.Calls.{Answer, answer_to}
use Rattle.pr_model.specs.Handles.{handle_of}
use Rattle.pr_model.specs.Lawful.{IsLawful}
use Rattle.pr_model.specs.State.{TracedProcess, TracedState, live_process, process_of}
use Rattle.pr_model.specs.declared.calls.Call.{Call}
use Rattle.pr_model.specs.declared.calls.File.TheVariants.{Ctl}
use Rattle.pr_model.specs.declared.calls.Mode.TheVariants.{WriteExcl}
use Rattle.pr_model.specs.declared.handles.Held.{Held}
use Rattle.pr_num.specs.Signals.{signal_number}
use Rattle.pr_num.specs.declared.signals.Sig.TheVariants.{Kill}
use Rattle.pr_truss.specs.Trusses.{TrussState, traced_at}
use Rattle.pr_truss_laws.proofs.Machine.ForeignLemmas.{names}
use Rattle.pr_truss_laws.proofs.Files.OpensLemmas.{held_by}
use Rattle.pr_truss_laws.proofs.Files.OwnLemmas.{Owns}
use Rattle.pr_report_laws.proofs.Invariant.Tallies.{Tally}
use Rattle.pr_report_laws.proofs.Invariant.EntrySteps.{Lost, made-at, nowhere-prepares, unwatched}
use Rattle.pr_report_laws.proofs.Files.FileLaws.{HasFiles}
use Rattle.pr_report_laws.proofs.Files.FileUses.{place-is}
use Rattle.pr_truss_laws.proofs.Machine.OutlastLemmas.{Outlasts, own-call-elsewhere}
use Rattle.pr_report_laws.proofs.Invariant.OtherSteps.{accounted-why, prepares-on, standing-on}
use Rattle.pr_report_laws.proofs.Invariant.Standing.{Prepares, Standing, apart, lives, over}
use Rattle.pr_report_laws.specs.Watching.{place_of, watches}

-- A call of truss that does not reach the process.

-- What is known of a call: what does not live stays so, an id that was given out stays so, and why an event is missing
-- where SIGKILL ends the process now, while truss watches it.
pub record Leaves (Ends : Type 0) (pid : ℕ) (t : TrussState) (s u : TracedState) : Type 0 where
  pub over : pid < s.system.made → live_process s.system pid ≡ None → live_process u.system pid ≡ None
  pub made : pid < s.system.made → pid < u.system.made
  pub ends : (p z : TracedProcess) → watches t pid ≡ true → live_process s.system pid ≡ Some p
      → process_of u.system pid ≡ Some z → z.ended ≡ Some (signal_number Kill) → Ends

-- whether a call writes to a handle of the process, or closes one
pub record Misses (k pid : ℕ) (s : TracedState) (c : Call) : Type 0 where
  pub each : (m : ℕ) (g : Held) → names c m ≡ true → handle_of s.opens k m ≡ Some g → g.pid ≢ pid

module _ (k : ℕ) (o : Options) (pid : ℕ) (t : TrussState) (s : TracedState) (c : Call) (a : Answer)
    (is : answer_to s k c ≡ Some a) (lawful : IsLawful s) (owns : Owns k t s) (files : HasFiles k t s)
    (K Ends : Type 0) (leaves : Leaves Ends pid t s a.state) (misses : Misses k pid s c) where
  module _ (place : ℕ) (at : place_of t pid ≡ Some place) where
    was-made : pid < s.system.made
    was-made =
        let own = place-is t pid place at in
        let f = files.control place own.0 in
        let held : handle_of s.opens k (traced_at t place).control ≡ Some (held_by k pid 0 Ctl WriteExcl) =
        f.is ∙ ap (λ of. Some (held_by k of 0 Ctl WriteExcl)) own.1 in
        made-at s.opens (traced_at t place).control (held_by k pid 0 Ctl WriteExcl)
        (handle-at s.opens k (traced_at t place).control (held_by k pid 0 Ctl WriteExcl) held) lawful.handles

    outlasts : (p : TracedProcess) → live_process s.system pid ≡ Some p → Outlasts pid p a.state.system
    outlasts p live = own-call-elsewhere s k pid c a p lawful misses.each is live

  lost-on : Lost K pid s → Lost (K ⊎ Ends) pid a.state
  lost-on h = record { cause = inl h.cause; over = leaves.over h.made h.over; made = leaves.made h.made }

  pub missed-standing : (tally : Tally) → Standing (Lost K pid s) o pid t s tally
      → Standing (Lost (K ⊎ Ends) pid a.state) o pid t a.state tally
  missed-standing tally standing = by (place_of t pid) refl standing
    where
      by : (x : Option ℕ) → place_of t pid ≡ x → Standing (Lost K pid s) o pid t s tally
          → Standing (Lost (K ⊎ Ends) pid a.state) o pid t a.state tally
      by None none (apart not_watched account) =
          apart not_watched (accounted-why _ _ tally lost-on account)
      by None none (over watched gone account) = absurd (false≢true (sym (unwatched t pid none) ∙ watched))
      by None none (lives place p at attached here live traced position) = absurd (none-some place (sym none ∙ at))
      by (Some place) at stands =
          standing-on o pid t s a.state (outlasts place at) (leaves.over (was-made place at)) (Lost K pid s)
          (Lost (K ⊎ Ends) pid a.state) tally lost-on
          (λ p z watched live none found status. record {
            cause = inr (leaves.ends p z watched live found status);
            over = none;
            made = leaves.made (was-made place at);
          })
          stands

  pub missed-prepares : Prepares o pid t s → Prepares o pid t a.state
  missed-prepares h = by (place_of t pid) refl
    where
      by : (x : Option ℕ) → place_of t pid ≡ x → Prepares o pid t a.state
      by None none = nowhere-prepares k o pid t s a.state owns files none h
      by (Some place) at = prepares-on o pid t s a.state (outlasts place at) (leaves.over (was-made place at)) h
