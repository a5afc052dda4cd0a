use Rattle.std.proofs.Common.{◌≡◌, ◌≢◌, ℕ, Bool, true, false, cond, is_some, None, Some, Option, List, refl, sym, subst, ap, ◌∙◌, inl, inr}
use Rattle.std.proofs.lemmas.Bool.{cases_eq}
use Rattle.pr_lawful.proofs.ProcessParts.FileLemmas.{choice}
use Rattle.std.specs.List.{list_all}
use Rattle.pr_model.specs.Running.{if_all_requested, if_flag, let_go, run_lwp, runs_one, shows_run, was_requested, with_abort, with_abort_from, with_aborted, with_all_run, with_cleared, with_directive, with_flags_on, with_one_run, with_representative_run, with_request, with_run, with_step, without_current, without_directive, without_fault, without_request}
use Rattle.pr_model.specs.State.{TracedLwp, TracedProcess, lwp_of, with_lwp}
use Rattle.pr_model.specs.Stops.{representative}
use Rattle.pr_model.specs.declared.stops.Stop.{Stop}
use Rattle.pr_model.specs.declared.stops.Stop.TheVariants as stop
use Rattle.pr_num.proofs.ByIdLaws.{under-change_under, under-change_under_other, under-map_each}
use Rattle.pr_num.specs.ById.{change_under, map_each, under}
use Rattle.pr_num.specs.Control.{abort_call, clear_fault, clear_signal, has_flags, single_step, stop_again}
use Rattle.pr_report_laws.specs.AtBirth.{has_met, is_met_if}
use Rattle.pr_truss_laws.proofs.EventStops.BridgeLemmas.{mapped-some}
use Rattle.pr_function_laws.proofs.OpenedProcesses.StopTurns.{AreAsStopped, IsAsStopped, same-stopped, stopless, unfaulted}
use Rattle.pr_function_laws.specs.OneEvent.{HasMetNothing}

-- PCRUN, with whatever run flags: what is so of each lwp of a process but its representative is so of each one then. So
-- lwps stay as they stopped, and those that met nothing have met nothing.

-- ---- lwps

abbrev IsFree : TracedLwp → Type 0
IsFree k = k.control.stop ≡ None

-- an lwp that is run stands on no event
run-stopless : (flags : ℕ) (l : TracedLwp) → (run_lwp flags l).control.stop ≡ None
unfolding run_lwp with_cleared with_aborted let_go with_step with_abort with_directive without_current without_fault
run-stopless flags l =
    flagged flags stop_again with_directive _ (λ k free. free)
    (flagged flags abort_call (with_abort_from l.control.stop) _ (λ k free. aborted l.control.stop k free)
    (flagged flags single_step with_step _ (λ k free. free)
    (flagged flags clear_fault without_fault _ (λ k free. free)
    (flagged flags clear_signal without_current _ (λ k free. free) refl))))
  where
    flagged : (flags flag : ℕ) (f : TracedLwp → TracedLwp) (k : TracedLwp)
        → ((m : TracedLwp) → IsFree m → IsFree (f m)) → IsFree k → IsFree (if_flag flags flag f k)
    flagged flags flag f k keeps free =
        choice IsFree (has_flags flags flag) (f k) k (λ set. keeps k free) (λ unset. free)

    aborted : (stopped : Option Stop) (k : TracedLwp) → IsFree k → IsFree (with_abort_from stopped k)
    aborted stopped k free = choice IsFree _ (with_abort k) k (λ yes. free) (λ no. free)

none-there : (o : Option Stop) → is_some o ≡ false → o ≡ None
none-there None is = refl
none-there (Some t) is = cc

-- What is so of an lwp that stands on no event or on a requested stop, and stays so where its directive is cleared.
pub record IsRunKept (X : TracedLwp → Type 0) : Type 0 where
  pub free : (l : TracedLwp) → l.control.stop ≡ None → X l
  pub requested : (l : TracedLwp) → l.control.stop ≡ Some stop.Requested → X l
  pub undirected : (l : TracedLwp) → X l → X (without_directive l)

module _ (X : TracedLwp → Type 0) (kept : IsRunKept X) where
  -- an lwp whose stop, if it has one, is a requested one from now on, or over
  request-so : (l : TracedLwp) → X (with_request l)
  unfolding with_request
  request-so l = by (is_some l.control.stop) refl
    where
      by : (b : Bool) → is_some l.control.stop ≡ b
          → X (cond b (record l { control = record l.control { stop = Some stop.Requested } }) l)
      by true is = kept.requested (record l { control = record l.control { stop = Some stop.Requested } }) refl
      by false is = kept.free l (none-there l.control.stop is)

  over-so : (l : TracedLwp) → X l → X (without_request l)
  unfolding without_request
  over-so l it =
      choice X (was_requested l.control.stop) (record l { control = record l.control { stop = None } }) l
      (λ was. kept.free (record l { control = record l.control { stop = None } }) refl) (λ not. it)

  mapped-so : (f : TracedLwp → TracedLwp) (es : List (ℕ × TracedLwp)) (n : ℕ) (k : TracedLwp)
      → ((l : TracedLwp) → under n es ≡ Some l → X (f l)) → under n (map_each f es) ≡ Some k → X k
  mapped-so f es n k on there =
      let m = mapped-some f (under n es) k (sym (under-map_each n f es) ∙ there) in
      subst X m.1.1 (on m.0 m.1.0)

  own-so : (f : TracedLwp → TracedLwp) (es : List (ℕ × TracedLwp)) (id n : ℕ) (k : TracedLwp) → id ≡ n
      → ((l : TracedLwp) → X (f l)) → under n (change_under id f es) ≡ Some k → X k
  own-so f es id n k same on there =
      let m =
      mapped-some f (under n es) k
      (sym (under-change_under n f es) ∙ subst (λ i. under n (change_under i f es) ≡ Some k) same there) in
      subst X m.1.1 (on m.0)

  module _ (flags : ℕ) (p : TracedProcess) where
    -- it is so of each lwp but this one
    abbrev pub ButOf : Option (ℕ × TracedLwp) → Type 0
    ButOf None = (n : ℕ) (l : TracedLwp) → lwp_of p n ≡ Some l → X l
    ButOf (Some e) = (n : ℕ) (l : TracedLwp) → n ≢ e.0 → lwp_of p n ≡ Some l → X l

    abbrev AreSo : TracedProcess → Type 0
    AreSo q = (n : ℕ) (l : TracedLwp) → lwp_of q n ≡ Some l → X l

    led-so : (r : Option (ℕ × TracedLwp)) → ButOf r
        → AreSo (record p { lwps = with_representative_run flags r p.lwps })
    led-so None all n k there =
        mapped-so without_directive p.lwps n k (λ l at. kept.undirected l (all n l at)) there
    led-so (Some e) all n k there = elim (cases_eq e.0 n) [
      | inl same ↦ own-so with_request undirected e.0 n k same request-so there
      | inr other ↦ mapped-so without_directive (change_under e.0 (with_flags_on flags) p.lwps) n k
          (λ l at. kept.undirected l (all n l (λ is. other (sym is))
          (sym (under-change_under_other e.0 n (with_flags_on flags) other p.lwps) ∙ at)))
          (sym (under-change_under_other e.0 n with_request other undirected) ∙ there)
    ]
      where
        undirected : List (ℕ × TracedLwp)
        undirected = map_each without_directive (change_under e.0 (with_flags_on flags) p.lwps)

    all-run-so : ButOf (representative p) → AreSo (with_all_run flags p)
    unfolding with_all_run if_all_requested
    all-run-so all =
        let led : List (ℕ × TracedLwp) = with_representative_run flags (representative p) p.lwps in
        choice (λ (ls : List (ℕ × TracedLwp)). AreSo (record p { lwps = ls }))
        (list_all (shows_run p.job_stop) led) (map_each without_request led) led
        (λ over n k there. mapped-so without_request led n k
        (λ l at. over-so l (led-so (representative p) all n l at)) there) (λ more. led-so (representative p) all)

    one-run-so : (r : Option (ℕ × TracedLwp)) → ButOf r → AreSo (with_one_run flags r p)
    unfolding with_lwp
    one-run-so None all n k there = all n k there
    one-run-so (Some e) all n k there = elim (cases_eq e.0 n) [
      | inl same ↦ own-so (run_lwp flags) p.lwps e.0 n k same (λ l. kept.free (run_lwp flags l) (run-stopless flags l))
          there
      | inr other ↦ all n k (λ is. other (sym is))
          (sym (under-change_under_other e.0 n (run_lwp flags) other p.lwps) ∙ there)
    ]

    pub run-so : ButOf (representative p) → AreSo (with_run flags p)
    unfolding with_run
    run-so all =
        choice AreSo (runs_one flags) (with_one_run flags (representative p) p) (with_all_run flags p)
        (λ one. one-run-so (representative p) all) (λ many. all-run-so all)

-- ---- as they stopped

stopped-kept : IsRunKept IsAsStopped
unfolding without_directive
stopped-kept = record {
  free = stopless;
  requested = λ l is. unfaulted l stop.Requested is (λ f same. cc);
  undirected = λ l it. same-stopped l (without_directive l) refl refl refl it;
}

pub run-stopped : (flags : ℕ) (p : TracedProcess) → AreAsStopped p → AreAsStopped (with_run flags p)
run-stopped flags p all = run-so IsAsStopped stopped-kept flags p (but (representative p))
  where
    but : (r : Option (ℕ × TracedLwp)) → ButOf IsAsStopped stopped-kept flags p r
    but None = all
    but (Some e) = λ n l other there. all n l there

-- ---- what they met

abbrev pub IsUnmet : TracedLwp → Type 0
IsUnmet l = has_met l ≡ false

pub unmet-kept : IsRunKept IsUnmet
unfolding without_directive
unmet-kept = record {
  free = λ l is. ap is_met_if is;
  requested = λ l is. ap is_met_if is;
  undirected = λ l it. it;
}

-- Where each lwp but the representative met nothing, none has met anything then.
pub run-unmet : (flags : ℕ) (p : TracedProcess) → ButOf IsUnmet unmet-kept flags p (representative p)
    → HasMetNothing (with_run flags p)
run-unmet flags p but = run-so IsUnmet unmet-kept flags p but
