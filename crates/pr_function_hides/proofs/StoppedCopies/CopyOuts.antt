use Rattle.std.proofs.Common.{◌≡◌, ℕ, false, is_some, Option, Some, None, List, refl, sym, subst, ap, ◌∙◌, inl, inr}
use Rattle.std.proofs.lemmas.Bool.{cases_eq, false≢true}
use Rattle.std.proofs.lemmas.Option.{same_Some}
use Rattle.std.specs.List.{list_all}
use Rattle.pr_lawful.proofs.ProcessParts.FileLemmas.{choice}
use Rattle.pr_model.specs.Lawful.{IsLawfulSystem}
use Rattle.pr_model.specs.LwpTurns.{LwpTurn, turn_of, with_counted}
use Rattle.pr_model.specs.Running.{if_all_requested, let_go, run_lwp, runs_one, shows_run, was_requested, with_all_run, with_flags_on, with_one_run, with_representative_run, with_request, with_run, without_directive, without_request}
use Rattle.pr_model.specs.State.{TracedLwp, TracedProcess, TracedSystem, live_process, lwp_of, with_lwp}
use Rattle.pr_model.specs.Stops.{representative}
use Rattle.pr_model.specs.declared.events.Did.{Did}
use Rattle.pr_model.specs.declared.lwps.Phase.{Phase}
use Rattle.pr_model.specs.declared.lwps.Phase.TheVariants.{Asleep, Entered, Exiting, Faulted, User}
use Rattle.pr_model.specs.declared.stops.Stop.{Stop}
use Rattle.pr_model.specs.declared.stops.Stop.TheVariants as stop
use Rattle.pr_num.proofs.ByIdLaws.{under-change_under, under-change_under_other, under-map_each}
use Rattle.pr_num.specs.ById.{change_under, map_each, under}
use Rattle.pr_num.specs.Syscalls.{is_fork_call}
use Rattle.pr_num.specs.declared.syscalls.Sysno.{Sysno}
use Rattle.pr_num.specs.declared.syscalls.Sysno.TheVariants as sys
use Rattle.pr_reached.proofs.Sleepers.SleptTurns.{awake-lwp}
use Rattle.pr_reached.specs.SleptCopies.{NoneSleepsInCopy, is_fork_or_exec, sleeps_in_copy}
use Rattle.pr_report_laws.specs.AtBirth.{is_met_if}
use Rattle.pr_truss.specs.FunctionEvents.{copies_memory}
use Rattle.pr_truss_laws.proofs.EventStops.BridgeLemmas.{mapped-some}
use Rattle.pr_truss_laws.proofs.Machine.StillLemmas.{halting-did, halting-leaves}
use Rattle.pr_truss_laws.specs.Stills.{IsHalting, IsUndisturbed, stopped_lwp, with_lwp_stopped}
use Rattle.pr_function_laws.specs.OneEvent.{HasMetNothing}
use Rattle.pr_function_hides.proofs.StoppedCopies.CopyRuns.{IsOut, aborted-so, cleared-so, out-kept, run-so}
use Rattle.pr_function_hides.specs.Copying.{AreOutOfCopies, HaveNoCopyGoing, is_at_copy, is_in_copy, leaves_copy, makes_copy}

-- Where no lwp of a process is at a fork, a vfork or an exec, it stays so as long as the process halts, and PCRUN
-- leaves it so; and none of these calls goes on where no lwp stands on an event then.

-- no lwp of a process is at such a call, or asleep in one
pub record HaveNoCopyBegun (p : TracedProcess) : Type 0 where
  pub each : (id : ℕ) (l : TracedLwp) → lwp_of p id ≡ Some l → is_in_copy l.phase ≡ false

-- what copies or replaces the memory of its process is a fork, a vfork or an exec
copies-known : (call : Sysno) → copies_memory call ≡ is_fork_or_exec call
unfolding copies_memory is_fork_call
copies-known sys.Fork = refl
copies-known sys.Vfork = refl
copies-known sys.Exec = refl
copies-known _ = refl

-- so it is where none is at one, as none is asleep in one
pub none-begun : (s : TracedSystem) (pid : ℕ) (p : TracedProcess) → NoneSleepsInCopy s
    → live_process s pid ≡ Some p → AreOutOfCopies p → HaveNoCopyBegun p
none-begun s pid p awake live out = record {
  each = λ id l there.
      let a = awake-lwp s pid p id l awake live there in by l.phase (out.each id l there) a.none;
}
  where
    by : (phase : Phase) → is_at_copy phase ≡ false → sleeps_in_copy phase ≡ false → is_in_copy phase ≡ false
    by User at sleeps = refl
    by (Entered call) at sleeps = at
    by (Asleep call args since) at sleeps = copies-known call ∙ sleeps
    by (Exiting call args result) at sleeps = refl
    by (Faulted f address) at sleeps = refl

-- ---- what is kept of each lwp

module _ (P : ℕ → TracedLwp → Type 0) where
  abbrev pub AreSo : List (ℕ × TracedLwp) → Type 0
  AreSo es = (n : ℕ) (k : TracedLwp) → under n es ≡ Some k → P n k

  pub map-so : (f : TracedLwp → TracedLwp) → ((n : ℕ) (l : TracedLwp) → P n l → P n (f l))
      → (es : List (ℕ × TracedLwp)) → AreSo es → AreSo (map_each f es)
  map-so f keeps es all n k there =
      let m = mapped-some f (under n es) k (sym (under-map_each n f es) ∙ there) in
      subst (P n) m.1.1 (keeps n m.0 (all n m.0 m.1.0))

  pub change-so : (id : ℕ) (f : TracedLwp → TracedLwp) → ((n : ℕ) (l : TracedLwp) → P n l → P n (f l))
      → (es : List (ℕ × TracedLwp)) → AreSo es → AreSo (change_under id f es)
  change-so id f keeps es all n k there = elim (cases_eq id n) [
    | inl same ↦
        let m =
        mapped-some f (under n es) k
        (sym (under-change_under n f es) ∙ subst (λ i. under n (change_under i f es) ≡ Some k) same there) in
        subst (P n) m.1.1 (keeps n m.0 (all n m.0 m.1.0))
    | inr apart ↦ all n k (sym (under-change_under_other id n f apart es) ∙ there)
  ]

-- whatever its id is
abbrev OfAny : ℕ → TracedLwp → Type 0
OfAny n l = IsOut l

-- ---- PCRUN

let-go-out : (l : TracedLwp) → IsOut l → IsOut (with_request l)
unfolding with_request
let-go-out l out = choice IsOut (is_some l.control.stop) _ l (λ yes. out) (λ no. out)

over-out : (l : TracedLwp) → IsOut l → IsOut (without_request l)
unfolding without_request
over-out l out = choice IsOut (was_requested l.control.stop) _ l (λ yes. out) (λ no. out)

undirected-out : (l : TracedLwp) → IsOut l → IsOut (without_directive l)
unfolding without_directive
undirected-out l out = out

flagged-out : (flags : ℕ) (l : TracedLwp) → IsOut l → IsOut (with_flags_on flags l)
unfolding with_flags_on
flagged-out flags l out =
    aborted-so IsOut out-kept flags l.control.stop _ (cleared-so IsOut out-kept flags l out)

run-lwp-out : (flags : ℕ) (l : TracedLwp) → IsOut l → IsOut (run_lwp flags l)
unfolding let_go
run-lwp-out flags l out = run-so IsOut out-kept flags l out

module _ (flags : ℕ) (p : TracedProcess) (all : HaveNoCopyBegun p) where
  abbrev Outs : List (ℕ × TracedLwp) → Type 0
  Outs es = AreSo OfAny es

  led-out : (r : Option (ℕ × TracedLwp)) → Outs (with_representative_run flags r p.lwps)
  led-out None = map-so OfAny without_directive (λ n. undirected-out) p.lwps all.each
  led-out (Some e) =
      change-so OfAny e.0 with_request (λ n. let-go-out) _
      (map-so OfAny without_directive (λ n. undirected-out) _
      (change-so OfAny e.0 (with_flags_on flags) (λ n. flagged-out flags) p.lwps all.each))

  one-out : (r : Option (ℕ × TracedLwp)) → HaveNoCopyBegun (with_one_run flags r p)
  unfolding with_lwp
  one-out None = all
  one-out (Some e) = record { each = change-so OfAny e.0 (run_lwp flags) (λ n. run-lwp-out flags) p.lwps all.each }

  all-out : HaveNoCopyBegun (with_all_run flags p)
  unfolding with_all_run if_all_requested
  all-out =
      let led : List (ℕ × TracedLwp) = with_representative_run flags (representative p) p.lwps in
      choice (λ (es : List (ℕ × TracedLwp)). HaveNoCopyBegun (record p { lwps = es }))
      (list_all (shows_run p.job_stop) led) (map_each without_request led) led
      (λ over. record { each = map-so OfAny without_request (λ n. over-out) led (led-out (representative p)) })
      (λ more. record { each = led-out (representative p) })

  pub run-out : HaveNoCopyBegun (with_run flags p)
  unfolding with_run
  run-out =
      choice HaveNoCopyBegun (runs_one flags) (with_one_run flags (representative p) p) (with_all_run flags p)
      (λ one. one-out (representative p)) (λ many. all-out)

-- ---- where none stands on an event

unmet-leaves : (o : Option Stop) → is_met_if o ≡ false → leaves_copy o ≡ false
unmet-leaves None unmet = refl
unmet-leaves (Some stop.Requested) unmet = refl
unmet-leaves (Some (stop.Signalled g)) unmet = refl
unmet-leaves (Some (stop.SysEntry c)) unmet = refl
unmet-leaves (Some (stop.SysExit c)) unmet = absurd (false≢true (sym unmet))
unmet-leaves (Some (stop.Faulted f)) unmet = refl

-- none of these calls goes on
pub out-clear : (p : TracedProcess) → HaveNoCopyBegun p → HasMetNothing p → HaveNoCopyGoing None p
out-clear p all unmet = record {
  each = λ id l other there. record {
    waits = λ is. absurd (false≢true (sym (all.each id l there) ∙ is));
    left_none = unmet-leaves l.control.stop (unmet id l there);
  };
}

-- ---- what others leave

pub alone-out : (p q : TracedProcess) → IsUndisturbed p q → HaveNoCopyBegun p → HaveNoCopyBegun q
alone-out p q alone all = record {
  each = λ id k there.
      let was = alone.each id k there in
      ap (λ (x : TracedLwp). is_in_copy x.phase) was.1.1 ∙ all.each id was.0 was.1.0;
}

-- a process whose lwps stay
pub lwps-out : (p q : TracedProcess) → q.lwps ≡ p.lwps → HaveNoCopyBegun p → HaveNoCopyBegun q
lwps-out p q same all = record { each = λ id l there. all.each id l (ap (under id) (sym same) ∙ there) }

-- ---- turns where the process halts

stopped-out : (id : ℕ) (p : TracedProcess) → HaveNoCopyBegun p → HaveNoCopyBegun (with_lwp_stopped id p)
unfolding with_counted with_lwp
stopped-out id p all = record { each = change-so OfAny id stopped_lwp (λ n l out. out) p.lwps all.each }

module _ (s : TracedSystem) (pid : ℕ) (p : TracedProcess) (lawful : IsLawfulSystem s)
    (live : live_process s pid ≡ Some p) (halting : IsHalting p) (id : ℕ) (t : LwpTurn)
    (turn : turn_of s pid id ≡ Some t) where
  pub halting-out : (q : TracedProcess) → live_process t.system pid ≡ Some q → HaveNoCopyBegun p → HaveNoCopyBegun q
  halting-out q later all =
      subst HaveNoCopyBegun
      (same_Some (with_lwp_stopped id p) q (sym (halting-leaves s pid p live halting id t turn) ∙ later))
      (stopped-out id p all)

  -- such a turn makes no call
  pub halting-makes-none : makes_copy t.turned.did ≡ false
  halting-makes-none =
      ap (λ (x : Did). makes_copy x)
      (ap (λ x. x.did) (halting-did s pid p live halting id t turn))
