use Rattle.std.proofs.Common.{◌≡◌, ◌≢◌, ◌<◌, ℕ, zero, suc, true, false, is_some, Option, Some, None, length, refl, sym, subst, ap, ◌∙◌, inl, inr, arith}
use Rattle.std.proofs.lemmas.Bool.{cases_Bool, false≢true, ne_eqb}
use Rattle.std.proofs.lemmas.Option.{none-some, same_Some}
use Rattle.std.specs.List.{slice_set}
use Rattle.pr_laws.proofs.RunLemmas.{representative-stands, run-granted as not-refused}
use Rattle.pr_lawful.proofs.LawfulTurns.EndLemmas.{found-live}
use Rattle.pr_lawful.proofs.Following.UseLemmas.{live-lawful}
use Rattle.pr_line.specs.declared.options.Options.{Options}
use Rattle.pr_model.specs.Calls.{Answer}
use Rattle.pr_model.specs.FirstState.{system_process}
use Rattle.pr_model.specs.Lives.{bare_process}
use Rattle.pr_model.specs.Running.{with_run}
use Rattle.pr_model.specs.State.{TracedLwp, TracedProcess, TracedState, TracedSystem, has_agent, live_process, lwp_of, process_of}
use Rattle.pr_model.specs.Stops.{has_event_stop, is_stopped, representative}
use Rattle.pr_model.specs.declared.calls.Call.{Call}
use Rattle.pr_model.specs.declared.stops.Stop.{Stop}
use Rattle.pr_num.specs.ById.{IsRising}
use Rattle.pr_num.specs.declared.messages.Message.TheVariants as message
use Rattle.pr_report_laws.proofs.Invariant.StandLemmas.{EachBut, but-set, each-set}
use Rattle.pr_report_laws.proofs.Machine.RunLaws.{run-quiet, run-waits}
use Rattle.pr_report_laws.proofs.Machine.StoppedLaws.{stopped-first, waits-stopped}
use Rattle.pr_truss.specs.Asides.{with_marks}
use Rattle.pr_truss.specs.Closings.{with_closing, with_going_on}
use Rattle.pr_truss.specs.FunctionStops.{with_function_run_answered}
use Rattle.pr_truss.specs.Marks.{has_function}
use Rattle.pr_truss.specs.Messages.{message_call}
use Rattle.pr_truss.specs.Replies.{answer_of}
use Rattle.pr_truss.specs.Stops.{with_run_answered}
use Rattle.pr_truss.specs.Trusses.{TrussState, traced_at}
use Rattle.pr_truss.specs.declared.asides.Aside.TheVariants.{Nothing}
use Rattle.pr_truss.specs.declared.function_events.FunctionEvent.{FunctionEvent}
use Rattle.pr_truss.specs.declared.function_events.FunctionEvent.TheVariants.{TraceTrap}
use Rattle.pr_truss.specs.declared.marks.Marks.{Marks}
use Rattle.pr_truss.specs.declared.processes.Traced.{Traced}
use Rattle.pr_truss.specs.declared.replies.Answer.{Answer as Told}
use Rattle.pr_truss.specs.declared.replies.Answer.TheVariants.{Accepted, Gone, Interrupted, Refused}
use Rattle.pr_truss.specs.declared.stages.Stage.{Stage}
use Rattle.pr_truss.specs.declared.stages.Stage.TheVariants.{Running}
use Rattle.pr_truss_laws.proofs.Files.HeldLemmas.{at_place, set-at}
use Rattle.pr_function_laws.proofs.Marks.KeptPlaces.{AtStage, runs}
use Rattle.pr_function_laws.proofs.OpenedProcesses.OneEventLemmas.{met-leads, quiet-unmet, stands-alone}
use Rattle.pr_function_laws.proofs.OpenedProcesses.OpenedCalls.{IsSo}
use Rattle.pr_function_laws.specs.OneEvent.{HasMetNothing, HasOneEventAtMost}
use Rattle.pr_function_laws.specs.Stretches.{acts_by}
use Rattle.pr_function_hides.proofs.Replies.ClosingWalk.{called_at}
use Rattle.pr_function_hides.proofs.Copying.CopyActs.{HasRunSo, left, ran, run-does}
use Rattle.pr_function_hides.proofs.Copying.CopyFeeds.{IsRestedSo, but-one, going-next, runs-of}
use Rattle.pr_function_hides.proofs.Copying.CopyForeign.{soon-still}
use Rattle.pr_function_hides.proofs.Copying.CopyOpening.{fits-idle, next-done}
use Rattle.pr_function_hides.proofs.StoppedCopies.CopyOuts.{out-clear, run-out}
use Rattle.pr_function_hides.proofs.Copying.CopyOwn.{OwnCall, control-away, ended-now, has-control, is-off, later, others-rested, stood-there}
use Rattle.pr_function_hides.proofs.Copying.CopyPlaces.{CopiesSo, IsClean, IsEventOf, RestsSo, RunsSo, WaitsOut, is_about, no_flags, rests_new, rests_old, runs_old, treats}
use Rattle.pr_function_hides.proofs.Copying.CopyRows.{read-stands, unmet-stands}
use Rattle.pr_function_hides.proofs.StoppedCopies.CopyRuns.{run-clear}
use Rattle.pr_function_hides.proofs.Replies.TreatedEvents.{own-place, treated-now}
use Rattle.pr_function_hides.specs.Copying.{CopiesStand, HaveNoCopyGoing, IsLifted, IsTreated, bare, none_goes, one_goes}
use Rattle.pr_function_hides.specs.Treating.{Treats, is_run_soon}

-- The forks, vforks and execs of a process that truss runs stand as they are to with what is planted then.

-- ---- marks

flags-stand : (m : Marks) (p : TracedProcess) → CopiesStand m p → CopiesStand (record m { flags = 0 }) p
flags-stand m p (none_goes all) = none_goes all
flags-stand m p (one_goes id lifted all) =
    one_goes id (record { none_planted = lifted.none_planted; no_step = lifted.no_step }) all
flags-stand m p (bare lifted none) =
    bare (record { none_planted = lifted.none_planted; no_step = lifted.no_step }) none

-- no more is planted, and the process stays
fewer-lifted : (m k : Marks) → IsTreated m TraceTrap k → IsLifted m → IsLifted k
fewer-lifted m k t was = record {
  none_planted = λ function. elim (cases_Bool (has_function k.planted function)) [
    | inl is ↦ absurd (false≢true (sym (was.none_planted function) ∙ t.0 function is))
    | inr not ↦ not
  ];
  no_step = t.1.1 ∙ was.no_step;
}

fewer-stand : (m k : Marks) (p : TracedProcess) → IsTreated m TraceTrap k → CopiesStand m p → CopiesStand k p
fewer-stand m k p t (none_goes all) = none_goes all
fewer-stand m k p t (one_goes id was all) = one_goes id (fewer-lifted m k t was) all
fewer-stand m k p t (bare was none) =
    bare (fewer-lifted m k t was) (λ function. ap (λ set. has_function set function) t.1.0 ∙ none function)

-- ---- a process of which no lwp met anything

module _ (p : TracedProcess) (flags : ℕ) (rises : IsRising p.lwps) (none : HasMetNothing p) (m k : Marks)
    (t : IsTreated m TraceTrap k) (stands : CopiesStand m p) where
  pub unmet-runs : CopiesStand k (with_run flags p)
  unmet-runs = by (representative p) refl
    where
      by : (first : Option (ℕ × TracedLwp)) → representative p ≡ first → CopiesStand k (with_run flags p)
      by (Some e) leads =
          unmet-stands p flags e rises leads m k (none e.0 e.1 (representative-stands p e rises leads)) t.0 t.1.0 t.1.1
          stands
      by None leads = alone (fewer-stand m k p t stands)
        where
          alone : CopiesStand k p → CopiesStand k (with_run flags p)
          alone (none_goes all) =
              none_goes (run-clear None None flags p rises all None leads (λ n other tt_here. tt) tt)
          alone (one_goes id lifted all) =
              one_goes id lifted
              (run-clear (Some id) (Some id) flags p rises all None leads (λ n other tt_here. other) tt)
          alone (bare lifted left_none) = bare lifted left_none

-- ---- a process that has an lwp

none-there : (id : ℕ) (l : TracedLwp) → lwp_of system_process id ≡ Some l → ⊥
unfolding system_process bare_process
none-there id l there = none-some l there

module _ {n k : ℕ} {o : Options} {t : TrussState} {s : TracedState} {c : Call} {a : Answer}
    (w : OwnCall n k o t s c a) (q : ℕ) (within : q < length t.traced) (at : t.stage ≡ Running q)
    (idle : t.aside ≡ Nothing)
    (is : c ≡ message_call (traced_at t q).control (message.Run (traced_at t q).marks.flags)) where
  abbrev v : Traced
  v = traced_at t q

  abbrev later_marks : Marks
  later_marks = record v.marks { flags = 0 }

  abbrev u : Traced
  u = record v { marks = later_marks }

  soon : is_run_soon t.stage q ≡ true
  soon = ap (λ (z : Stage). is_run_soon z q) at ∙ own-place q

  no-agent : (p : TracedProcess) → live_process s.system v.pid ≡ Some p → has_agent p ≡ false
  no-agent p live =
      let g = w.goes in
      let m = g.kept in
      let stage = subst (AtStage (IsSo (Unit {0}) k t.options s) t.traced) at m.stage in
      let h : IsSo (Unit {0}) k t.options s runs v = stage.1.1 in
      let held = h.holds in (held.set p live).1

  -- the system process has no lwps
  is-user : (p : TracedProcess) → live_process s.system v.pid ≡ Some p → (id : ℕ) (l : TracedLwp)
      → lwp_of p id ≡ Some l → v.pid ≢ 0
  is-user p live id l there zero_pid =
      let g = w.goes in
      let first = g.lawful.system in
      let found = (found-live s.system v.pid p live).0 in
      let same : p ≡ system_process =
      same_Some p system_process (sym found ∙ ap (process_of s.system) zero_pid ∙ first.first) in
      none-there id l (subst (λ (x : TracedProcess). lwp_of x id ≡ Some l) same there)

  -- PCRUN runs it, or is refused
  abbrev HasRun : TracedProcess → Type 0
  HasRun p = HasRunSo n k s (let g = w.goes in g.lawful) c a w.given w.over v v.marks.flags p

  runs-here : (p : TracedProcess) → live_process s.system v.pid ≡ Some p → HasRun p
  runs-here p live =
      let g = w.goes in
      let cs = w.copies in
      let clean = cs.clean q within in
      run-does n k s g.lawful c a w.given w.over v v.marks.flags clean.flags (has-control w q within) is p live

  -- where an lwp stands on an event it is not refused
  ran-is : (p x : TracedProcess) → live_process s.system v.pid ≡ Some p → live_process (later w) v.pid ≡ Some x
      → (e : ℕ × TracedLwp) → representative p ≡ Some e → has_event_stop e.1 ≡ true → with_run v.marks.flags p ≡ x
  ran-is p x live now e leads stands = by (runs-here p live)
    where
      rises : IsRising p.lwps
      rises = let g = w.goes in let l = live-lawful s.system v.pid p g.lawful.system live in l.rising

      by : HasRun p → with_run v.marks.flags p ≡ x
      by (ran granted it) = same_Some (with_run v.marks.flags p) x (sym it ∙ now)
      by (left (inl zero_pid) same) =
          absurd (is-user p live e.0 e.1 (representative-stands p e rises leads) zero_pid)
      by (left (inr refused) same) =
          absurd (false≢true (sym (not-refused p e (no-agent p live) leads stands) ∙ refused))

  event-runs : (m : Marks) (fe : FunctionEvent) → v.old ≡ 0 → Treats m fe q t → (p x : TracedProcess)
      → live_process s.system v.pid ≡ Some p → live_process (later w) v.pid ≡ Some x → CopiesStand m p
      → HasOneEventAtMost p → IsEventOf m fe p → CopiesStand v.marks x
  event-runs m fe none treating p x live now stands few (inl met) =
      let g = w.goes in
      let rises : IsRising p.lwps = (let l = live-lawful s.system v.pid p g.lawful.system live in l.rising) in
      let alone = stands-alone p few met.id met.lwp met.there met.met in
      let frozen = soon-still n k o t s g q soon p live in
      let leads = met-leads p rises (no-agent p live) frozen met.id alone in
      let same : alone.lwp ≡ met.lwp = same_Some alone.lwp met.lwp (sym alone.there ∙ met.there) in
      let its : representative p ≡ Some (met.id, met.lwp) =
      leads ∙ ap (λ (l : TracedLwp). Some (met.id, l)) same in
      let on = alone.stands in
      let stop : has_event_stop met.lwp ≡ true =
      ap has_event_stop (sym same) ∙ ap (λ (z : Option Stop). is_some z) on.is in
      subst (CopiesStand v.marks) (ran-is p x live now (met.id, met.lwp) its stop)
      (read-stands p v.marks.flags (met.id, met.lwp) rises its m fe met.tells v.marks
      (treated-now m fe q t treating idle) stands)
  event-runs m fe none treating p x live now stands few (inr other) = by (runs-here p live)
    where
      rises : IsRising p.lwps
      rises = let g = w.goes in let l = live-lawful s.system v.pid p g.lawful.system live in l.rising

      treated : IsTreated m TraceTrap v.marks
      treated = subst (λ z. IsTreated m z v.marks) other.0 (treated-now m fe q t treating idle)

      by : HasRun p → CopiesStand v.marks x
      by (ran granted it) =
          subst (CopiesStand v.marks) (same_Some (with_run v.marks.flags p) x (sym it ∙ now))
          (unmet-runs p v.marks.flags rises other.1 m v.marks treated stands)
      by (left why same) =
          subst (CopiesStand v.marks)
          (same_Some p x (sym live ∙ ap (λ (z : TracedSystem). live_process z v.pid) (sym same) ∙ now))
          (fewer-stand m v.marks p treated stands)

  -- a stop from before truss came
  old-runs : v.marks.flags ≡ 0 → (p x : TracedProcess) → live_process s.system v.pid ≡ Some p
      → live_process (later w) v.pid ≡ Some x → WaitsOut (suc v.old) p → RestsSo u x
  old-runs unset p x live now waits = by v.old refl
    where
      rises : IsRising p.lwps
      rises = let g = w.goes in let l = live-lawful s.system v.pid p g.lawful.system live in l.rising

      stops : is_stopped p ≡ true
      stops =
          waits-stopped p rises (no-agent p live) v.old (record { frozen = waits.frozen; count = waits.count })

      is_run : with_run 0 p ≡ x
      is_run =
          let f = stopped-first p stops in
          ap (λ i. with_run i p) (sym unset) ∙ ran-is p x live now f.lwp f.is f.stands

      by : (i : ℕ) → v.old ≡ i → RestsSo u x
      by zero old_is =
          let quiet = run-quiet p rises (no-agent p live) stops (omega (arith, waits.count, old_is)) in
          rests_new old_is
          (none_goes (subst (HaveNoCopyGoing None) is_run
          (out-clear (with_run 0 p) (run-out 0 p waits.out) (quiet-unmet (with_run 0 p) quiet))))
      by (suc i) old_is =
          let after = run-waits p rises (no-agent p live) stops i (omega (arith, waits.count, old_is)) in
          rests_old refl (omega (arith, old_is))
          (subst (WaitsOut u.old) is_run
          (record {
            out = run-out 0 p waits.out;
            frozen = after.frozen;
            count = omega (arith, after.count, old_is);
          }))

  rests-later : (x : TracedProcess) → live_process (later w) v.pid ≡ Some x → RestsSo u x
  rests-later x now =
      let was = stood-there w q within x now in by was.0 was.1.0 (runs-of t q was.0 soon was.1.1)
    where
      by : (p : TracedProcess) → live_process s.system v.pid ≡ Some p → RunsSo t q p → RestsSo u x
      by p live (treats m fe none treating stands few event) =
          rests_new none (flags-stand v.marks x (event-runs m fe none treating p x live now stands few event))
      by p live (runs_old idle_now stage flags waits) = old-runs flags p x live now waits

  rest : (place : ℕ) → place ≢ q → is_about t.stage place ≡ false
  rest place other = ap (λ z. is_about z place) at ∙ ne_eqb q place (λ same. other (sym same))

  others : EachBut (IsRestedSo (later w)) t.traced q
  others = others-rested w q rest (control-away w q within (ap acts_by is))

  clean-later : IsClean u
  clean-later =
      let cs = w.copies in let it = cs.clean q within in record { unseen = it.unseen; flags = no_flags refl }

  run-goes : CopiesSo (with_going_on (with_marks t q later_marks)) (later w)
  run-goes =
      next-done w (with_marks t q later_marks) _ (is-off w) idle (going-next (with_marks t q later_marks) (is-off w))
      (each-set (IsRestedSo (later w)) t.traced q u within others
      (record { clean = clean-later; stands = rests-later }))

  run-gone : (let b : Answer = a in answer_of b.reply ≡ Gone)
      → CopiesSo (with_closing (with_marks t q later_marks) q) (later w)
  run-gone told =
      let there : at_place (slice_set t.traced q u) q ≡ u = set-at t.traced q u within in
      but-one (later w) (with_closing (with_marks t q later_marks) q) q
      (λ place other. ne_eqb q place (λ same. other (sym same)))
      (fits-idle w (with_closing (with_marks t q later_marks) q) idle)
      (but-set (IsRestedSo (later w)) t.traced q u others) (subst IsClean (sym there) clean-later)
      (λ x now.
      ended-now w told q
      (ap (λ (z : Stage). called_at z t.aside) at ∙ ap (called_at (Running q)) idle) x
      (ap (λ (y : Traced). live_process (later w) y.pid) (sym there) ∙ now))

  pub run-done : (told : Told) → (let b : Answer = a in answer_of b.reply ≡ told) → told ≢ Interrupted
      → CopiesSo (with_function_run_answered t q told) (later w)
  unfolding with_function_run_answered with_run_answered
  run-done Accepted told other = run-goes
  run-done (Refused errno) told other = run-goes
  run-done Gone told other = run-gone told
  run-done Interrupted told other = absurd (other refl)
