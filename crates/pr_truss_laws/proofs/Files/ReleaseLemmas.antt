use Rattle.std.proofs.Common.{◌≡◌, ◌&&◌, ℕ, true, false, None, Some, List, not, refl, sym, subst, ap, ◌∙◌, arith, cond, inl, inr}
use Rattle.std.proofs.lemmas.Bool.{eq-eqb, cases_Bool}
use Rattle.std.proofs.lemmas.Option.{same_Some, none-some}
use Rattle.std.specs.List.{slice_get, slice_set, count_by}
use Rattle.pr_laws.proofs.CloseLemmas.{released-after}
use Rattle.pr_laws.specs.LastCloses.{IsReleased}
use Rattle.pr_lawful.proofs.ProcessParts.HandleLemmas.{any-at, count-some, count-swap, handle-at}
use Rattle.pr_lawful.proofs.LawfulStates.HistoryLemmas.{history-state}
use Rattle.pr_line.specs.declared.options.Options.{Options}
use Rattle.pr_model.specs.Calls.{Answer, answer_to}
use Rattle.pr_model.specs.Handles.{handle_of, has_writer, is_exclusive, is_exclusive_writer, is_writable, is_writer, was_last_writer, with_closed}
use Rattle.pr_model.specs.Lawful.{AreExclusive, IsLawful}
use Rattle.pr_model.specs.Legal.{state_after}
use Rattle.pr_model.specs.State.{Places, TracedProcess, TracedState, live_process}
use Rattle.pr_model.specs.declared.calls.Call.TheVariants as call
use Rattle.pr_model.specs.declared.calls.Mode.TheVariants.{WriteExcl}
use Rattle.pr_model.specs.declared.events.Entry.{Entry}
use Rattle.pr_model.specs.declared.handles.Held.{Held}
use Rattle.pr_truss.specs.Trusses.{TrussState, first_truss}
use Rattle.pr_truss_laws.proofs.Files.OpensLemmas.{close-closes}
use Rattle.pr_truss_laws.proofs.Files.OwnLemmas.{Owns, first-owns, history-owns, nothing-open}
use Rattle.pr_truss_laws.specs.Exchanges.{exchanges, truss_after}
use Rattle.pr_truss_laws.specs.Handles.{ClosesFreely}
use Rattle.pr_truss_laws.specs.Runs.{IsTrussRun}

-- What truss leaves when it closes the control file of a process.

-- an exclusive handle was the only one for writing
module _ (opens : Places) (number : ℕ) (h : Held) (at : slice_get opens number ≡ Some (Some h))
    (mode : h.mode ≡ WriteExcl) (alone : AreExclusive opens) where
  writes : is_writer h.pid (Some h) ≡ true
  writes = ap (λ b. b && is_writable h.mode) (eq-eqb h.pid h.pid refl) ∙ ap is_writable mode

  excludes : is_exclusive_writer h.pid (Some h) ≡ true
  excludes = ap (λ b. b && is_exclusive h.mode) (eq-eqb h.pid h.pid refl) ∙ ap is_exclusive mode

  one-writer : count_by (is_writer h.pid) opens ≡ 1
  one-writer = alone.alone h.pid (any-at (is_exclusive_writer h.pid) opens number (Some h) at excludes)

  pub none-left : has_writer h.pid (slice_set opens number None) ≡ false
  none-left =
      elim (cases_Bool (has_writer h.pid (slice_set opens number None))) [
        | inl some ↦ absurd
            (too-many some)
        | inr none ↦ none
      ]
    where
      too-many : has_writer h.pid (slice_set opens number None) ≡ true → ⊥
      too-many some =
          let own : cond (is_writer h.pid (Some h)) 1 0 ≡ 1 = ap (λ b. cond {A = ℕ} b 1 0) writes in
          omega (
            arith,
            count-swap (is_writer h.pid) opens number (Some h) None at,
            count-some (is_writer h.pid)
                (slice_set opens number None) some,
            one-writer,
            own,
          )

  pub was-last : was_last_writer h (slice_set opens number None) ≡ true
  was-last =
      ap (λ b. b && not (has_writer h.pid (slice_set opens number None))) (ap is_writable mode) ∙ ap not none-left

module _ (k : ℕ) (s : TracedState) (number : ℕ) (h : Held) (a : Answer) (at : handle_of s.opens k number ≡ Some h)
    (close : answer_to s k (call.Close number) ≡ Some a) where
  closed-state : a.state ≡ with_closed h number s
  closed-state =
      elim (close-closes s k number a close) [
        | inl none ↦ absurd (none-some h (sym none.none
            ∙ at))
        | inr one ↦ one.1.state
            ∙ ap (λ (g : Held). with_closed g number s) (same_Some one.0 h (sym one.1.held ∙ at))
      ]

closed-opens : (s : TracedState) (number : ℕ) (h : Held)
    → (with_closed h number s).opens ≡ slice_set s.opens number None
unfolding with_closed
closed-opens s number h = refl

owned-closes : (k : ℕ) (t : TrussState) (s : TracedState) → Owns k t s → IsLawful s → ClosesFreely k s
owned-closes k t s o lawful = record {
  alone = λ number h a at control close.
      let mode = o.modes number h at control in
      ap (λ (x : TracedState). has_writer h.pid x.opens) (closed-state k s number h a at close)
      ∙ ap (has_writer h.pid) (closed-opens s number h)
      ∙ none-left s.opens number h (handle-at s.opens k number h at) mode lawful.exclusive;
  released = λ number h a p at control close live runs kept.
      let mode = o.modes number h at control in
      subst (λ (x : TracedState). (q : TracedProcess) × ((live_process x.system h.pid ≡ Some q) × IsReleased q))
      (sym (closed-state k s number h a at close))
      (released-after s h number p
      (was-last s.opens number h (handle-at s.opens k number h at) mode lawful.exclusive) live runs kept);
}

pub truss-closes : (n k : ℕ) (o : Options) (s : TracedState) (h : List Entry) → IsTrussRun n k o s h
    → ClosesFreely k (state_after s h)
truss-closes n k o s h run =
    owned-closes k (truss_after (first_truss o) (exchanges k h)) (state_after s h)
    (history-owns h n k (first_truss o) s (first-owns k o s run.nothing_open) run.legal run.makes)
    (history-state n s h run.lawful run.legal)

pub ruleset releases = (nothing-open, truss-closes)
