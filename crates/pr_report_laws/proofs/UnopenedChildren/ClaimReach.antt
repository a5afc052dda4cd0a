use Rattle.std.proofs.Common.{◌≡◌, ◌==◌, ◌&&◌, ◌<◌, ◌^◌, ◌⊎◌, nat_lt, not, is_none, ℕ, Bool, true, false, cond, None, Some, Option, length, refl, sym, ap, ◌∙◌, inl, inr}
use Rattle.std.proofs.lemmas.Bool.{and_parts, eq-eqb, eqb-true, false≢true}
use Rattle.std.proofs.lemmas.Option.{none-some, same_Some}
use Rattle.pr_line.specs.declared.options.Options.{Options}
use Rattle.pr_model.specs.Handles.{handle_of}
use Rattle.pr_model.specs.State.{TracedLwp, TracedProcess, TracedState, lwp_of}
use Rattle.pr_model.specs.Statuses.{call_in, error_of, errno_in, lwpstatus_of, reason_shown, result_in, value_of}
use Rattle.pr_model.specs.Stops.{shown, shown_by_job}
use Rattle.pr_model.specs.declared.calls.Call.{Call}
use Rattle.pr_model.specs.declared.events.Res.{Res}
use Rattle.pr_model.specs.declared.events.Res.TheVariants.{Value, Error, Ended}
use Rattle.pr_model.specs.declared.handles.Held.{Held}
use Rattle.pr_model.specs.declared.lwps.Phase.{Phase}
use Rattle.pr_model.specs.declared.lwps.Phase.TheVariants.{Exiting}
use Rattle.pr_model.specs.declared.stops.Stop.{Stop}
use Rattle.pr_model.specs.declared.stops.Stop.TheVariants.{Requested, Signalled, SysEntry, SysExit, Faulted}
use Rattle.pr_model.specs.declared.stops.Shown.TheVariants as shows
use Rattle.pr_num.specs.declared.signals.Sig.{Sig}
use Rattle.pr_num.specs.declared.syscalls.Sysno.{Sysno}
use Rattle.pr_rec.specs.declared.lwps.LwpStatus.{LwpStatus}
use Rattle.pr_truss.specs.NextCalls.{call_of, next_call_of, opening_call}
use Rattle.pr_truss.specs.Processes.{last_handle}
use Rattle.pr_truss.specs.Records.{child_of, has_ended_fork, is_exit, is_fork}
use Rattle.pr_truss.specs.Stops.{followed_child}
use Rattle.pr_truss.specs.Trusses.{TrussState, traced_at}
use Rattle.pr_truss.specs.declared.processes.Traced.{Traced}
use Rattle.pr_truss.specs.declared.stages.OpeningStep.{OpeningStep}
use Rattle.pr_truss.specs.declared.stages.OpeningStep.TheVariants as opening
use Rattle.pr_truss.specs.declared.stages.Stage.{Stage}
use Rattle.pr_truss.specs.declared.stages.Stage.TheVariants.{Spawning, OpeningControl, Opening, Polling, ReadingStatus, ReadingText, OpeningChildControl, OpeningChild, Running, Closing, Unfollowing, ReadingLwps, FreeingChild, Finished}
use Rattle.pr_truss_laws.proofs.Machine.ForeignLemmas.{names}
use Rattle.pr_truss_laws.proofs.Files.HeldLemmas.{Fits}
use Rattle.pr_report_laws.proofs.Files.FileLaws.{HasFiles}
use Rattle.pr_report_laws.proofs.Files.FileUses as uses
use Rattle.pr_report_laws.proofs.Files.FileUses.{stage_place}
use Rattle.pr_report_laws.proofs.Machine.ForkTurns.{HasForked}
use Rattle.pr_report_laws.proofs.Invariant.OwnChild.{child-names}
use Rattle.pr_report_laws.proofs.Invariant.StandLemmas.{Leaves}
use Rattle.pr_reached.specs.Fits.{IsFitLwp}
use Rattle.pr_report_laws.specs.Watching.{is_away}

-- What the calls of truss reach, and what a status tells of a child.

-- ---- the status of an lwp at the exit of a call that makes a child

module _ (p : TracedProcess) (id : ℕ) (l : TracedLwp) where
  abbrev status : LwpStatus
  status = lwpstatus_of p id l

  shown-exit : (stop : Stop) → l.control.stop ≡ Some stop → is_exit (reason_shown (shown p.job_stop l)) ≡ true
      → (call : Sysno) × (stop ≡ SysExit call)
  unfolding shown reason_shown
  shown-exit Requested is exits = absurd (false≢true (rw is at exits))
  shown-exit (Signalled g) is exits = absurd (false≢true (rw is at exits))
  shown-exit (SysEntry c) is exits = absurd (false≢true (rw is at exits))
  shown-exit (SysExit c) is exits = (c, refl)
  shown-exit (Faulted f) is exits = absurd (false≢true (rw is at exits))

  shown-none : l.control.stop ≡ None → is_exit (reason_shown (shown p.job_stop l)) ≡ true → ⊥
  unfolding shown reason_shown
  shown-none is exits = by l.suspended p.job_stop (rw is at exits)
    where
      by : (b : Bool) (job : Option Sig)
          → is_exit (reason_shown (cond b (Some shows.Suspended) (shown_by_job job))) ≡ true → ⊥
      by true job e = false≢true e
      by false None e = false≢true e
      by false (Some g) e = false≢true e

  -- it stands at the exit of a call
  exit-stop : is_exit (reason_shown (shown p.job_stop l)) ≡ true
      → (call : Sysno) × (l.control.stop ≡ Some (SysExit call))
  exit-stop exits = by l.control.stop refl
    where
      by : (o : Option Stop) → l.control.stop ≡ o → (call : Sysno) × (l.control.stop ≡ Some (SysExit call))
      by None is = absurd (shown-none is exits)
      by (Some stop) is = let e = shown-exit stop is exits in (e.0, is ∙ ap (λ x. Some x) e.1)

  value-is : (r : Res) (c : ℕ) → is_none (error_of r) ≡ true → (value_of r == 0) ≡ false → value_of r ≡ c → r ≡ Value c
  value-is (Value v) c none some is = ap (λ n. Value n) is
  value-is (Error e) c none some is = absurd (false≢true none)
  value-is Ended c none some is = absurd (false≢true (sym some))

  forked-lwp : IsFitLwp l → (there : lwp_of p id ≡ Some l) → (c : ℕ) → is_exit status.why ≡ true
      → is_fork status.call ≡ true → is_none status.errno ≡ true → (status.result == 0) ≡ false → status.result ≡ c
      → HasForked p c
  unfolding lwpstatus_of call_in errno_in result_in
  forked-lwp fit there c exits forks no_error some is =
      let e = exit-stop exits in
      let ph = fit.exit e.0 e.1 in
      let result : ph.1.0 ≡ Value c =
      value-is ph.1.0 c (ap (λ (x : Phase). is_none (errno_in x)) (sym ph.1.1) ∙ no_error)
      (ap (λ (x : Phase). result_in x == 0) (sym ph.1.1) ∙ some) (ap result_in (sym ph.1.1) ∙ is) in
      record {
        id = id;
        lwp = l;
        there = there;
        call = e.0;
        makes = ap (λ (x : Phase). is_fork (call_in x)) (sym ph.1.1) ∙ forks;
        stop = e.1;
        args = ph.0;
        phase = ph.1.1 ∙ ap (λ r. Exiting e.0 ph.0 r) result;
      }

  -- A status that tells a child is of an lwp that made it.
  pub child-forked : IsFitLwp l → lwp_of p id ≡ Some l → (c : ℕ) → child_of status ≡ Some c → HasForked p c
  unfolding child_of has_ended_fork
  child-forked fit there c is =
      by (has_ended_fork status && not (status.result == 0) && nat_lt status.result (2 ^ 32)) refl is
    where
      off : (b : Bool) → not b ≡ true → b ≡ false
      off true e = absurd (false≢true e)
      off false e = refl

      by : (b : Bool) → (has_ended_fork status && not (status.result == 0) && nat_lt status.result (2 ^ 32)) ≡ b
          → cond b (Some status.result) None ≡ Some c → HasForked p c
      by false tests e = absurd (none-some c e)
      by true tests e =
          let all =
          and_parts (has_ended_fork status && not (status.result == 0)) (nat_lt status.result (2 ^ 32)) tests in
          let some = and_parts (has_ended_fork status) (not (status.result == 0)) all.0 in
          let fork = and_parts (is_exit status.why && is_fork status.call) (is_none status.errno) some.0 in
          let call = and_parts (is_exit status.why) (is_fork status.call) fork.0 in
          forked-lwp fit there c call.0 call.1 fork.1 (off (status.result == 0) some.1) (same_Some status.result c e)

pub followed-forked : (o : Options) (p : TracedProcess) (id : ℕ) (l : TracedLwp) → IsFitLwp l → lwp_of p id ≡ Some l
    → (c : ℕ) → followed_child o (lwpstatus_of p id l) ≡ Some c → (o.follow ≡ true) × HasForked p c
unfolding followed_child
followed-forked o p id l fit there c is = by o.follow refl is
  where
    by : (b : Bool) → o.follow ≡ b → cond b (child_of (lwpstatus_of p id l)) None ≡ Some c
        → (o.follow ≡ true) × HasForked p c
    by true follow e = (follow, child-forked p id l fit there c e)
    by false follow e = absurd (none-some c e)

-- ---- the process that a call of truss reaches

opening-names : (o : Options) (x : Traced) (step : OpeningStep) (m : ℕ) → names (opening_call o x step) m ≡ true
    → x.control ≡ m
unfolding opening_call
opening-names o x opening.OpenStatus m named = absurd (false≢true named)
opening-names o x opening.OpenLstatus m named = absurd (false≢true named)
opening-names o x opening.OpenMemory m named = absurd (false≢true named)
opening-names o x opening.ReadLwps m named = absurd (false≢true named)
opening-names o x (opening.AwaitStop until) m named = absurd (false≢true named)
opening-names o x _ m named = eqb-true x.control m named

-- the process of the handle that the call names: truss opens or closes it, or runs it
pub record Reaches (t : TrussState) (g : Held) : Type 0 where
  pub place : ℕ
  pub within : place < length t.traced
  pub of : g.pid ≡ (traced_at t place).pid
  pub busy : (is_away false t.stage place ≡ true) ⊎ (t.stage ≡ Running place)

module _ (k : ℕ) (t : TrussState) (s : TracedState) (files : HasFiles k t s) (fits : Fits t.traced t.stage)
    (stays : t.leaving ≡ false) (m : ℕ) (g : Held) (held : handle_of s.opens k m ≡ Some g) where
  by-control : (place : ℕ) → stage_place t.stage ≡ Some place → (traced_at t place).control ≡ m
      → (is_away false t.stage place ≡ true) ⊎ (t.stage ≡ Running place) → Reaches t g
  by-control place at same busy =
      let f = uses.stage-control k t s files fits place at in
      let own = f.1 in
      record {
        place = place;
        within = f.0;
        of = ap (λ (h : Held). h.pid) (same_Some g _ (sym held ∙ ap (handle_of s.opens k) (sym same) ∙ own.is));
        busy = busy;
      }

  leaving-none : {X : Type 0} → t.leaving ≡ true → X
  leaving-none is = absurd (false≢true (sym stays ∙ is))

  reach-in : (stage : Stage) → t.stage ≡ stage → Leaves t.leaving stage → (d : Call) → call_of t stage ≡ Some d
      → names d m ≡ true → Reaches t g
  unfolding call_of
  reach-in (Opening at step) is leaves d makes named =
      by-control at (ap stage_place is)
      (opening-names t.options (traced_at t at) step m (ap (λ x. names x m) (same_Some _ d makes)
      ∙ named)) (inl (ap (λ (st : Stage). is_away false st at) is ∙ eq-eqb at at refl))
  reach-in (OpeningChild parent at step) is leaves d makes named =
      by-control at (ap stage_place is) (child-names (traced_at t at) step m (ap (λ x. names x m) (same_Some _ d makes)
      ∙ named)) (inl (ap (λ (st : Stage). is_away false st at) is ∙ eq-eqb at at refl))
  reach-in (Running at) is leaves d makes named =
      by-control at (ap stage_place is) (eqb-true (traced_at t at).control m (ap (λ x. names x m) (same_Some _ d makes)
      ∙ named)) (inr is)
  reach-in (Closing at next) is leaves d makes named =
      let within = (uses.stage-control k t s files fits at (ap stage_place is)).0 in
      let f = uses.closed-file k t s files at within in
      let same : last_handle (traced_at t at) ≡ m =
      eqb-true (last_handle (traced_at t at)) m (ap (λ x. names x m) (same_Some _ d makes) ∙ named) in
      let own = f.is in
      record {
        place = at;
        within = within;
        of = ap (λ (h : Held). h.pid) (same_Some g _ (sym held ∙ ap (handle_of s.opens k) (sym same) ∙ own.is));
        busy = inl (ap (λ (st : Stage). is_away false st at) is ∙ eq-eqb at at refl);
      }
  reach-in Unfollowing is leaves d makes named = leaving-none leaves
  reach-in ReadingLwps is leaves d makes named = leaving-none leaves
  reach-in (FreeingChild pid step) is leaves d makes named = leaving-none leaves
  reach-in (Spawning program) is leaves d makes named =
      absurd (false≢true (ap (λ x. names x m) (same_Some _ d makes) ∙ named))
  reach-in (OpeningControl pid) is leaves d makes named =
      absurd (false≢true (ap (λ x. names x m) (same_Some _ d makes) ∙ named))
  reach-in Polling is leaves d makes named = absurd (false≢true (ap (λ x. names x m) (same_Some _ d makes) ∙ named))
  reach-in (ReadingStatus at) is leaves d makes named =
      absurd (false≢true (ap (λ x. names x m) (same_Some _ d makes) ∙ named))
  reach-in (ReadingText at l from len) is leaves d makes named =
      absurd (false≢true (ap (λ x. names x m) (same_Some _ d makes) ∙ named))
  reach-in (OpeningChildControl parent pid) is leaves d makes named =
      absurd (false≢true (ap (λ x. names x m) (same_Some _ d makes) ∙ named))
  reach-in Finished is leaves d makes named = absurd (none-some d makes)

  pub reaches : (d : Call) → next_call_of t ≡ Some d → names d m ≡ true → Reaches t g
  unfolding next_call_of
  reaches d makes named = let st = files.stands in reach-in t.stage refl st.leaves d makes named
