use Rattle.std.proofs.Common.{◌≡◌, ◌≢◌, ◌<◌, ◌==◌, ◌⊎◌, ◌-◌, ◌+◌, ℕ, suc, Bool, true, false, Option, Some, None, List, length, sym, subst, ap, ◌∙◌, inl, inr}
use Rattle.std.proofs.lemmas.Option.{none-some, same_Some}
use Rattle.pr_model.specs.Lawful.{IsLawfulSystem}
use Rattle.pr_model.specs.LwpTurns.{LwpTurn, turn_of, with_counted}
use Rattle.pr_model.specs.State.{TracedLwp, TracedProcess, TracedSystem, has_agent, live_process, lwp_of}
use Rattle.pr_num.specs.ById.{under}
use Rattle.pr_num.specs.Control.{clear_fault, single_step}
use Rattle.pr_report_laws.proofs.Invariant.StandLemmas.{Each}
use Rattle.pr_report_laws.proofs.Machine.FrameLaws.{alone-agent, alone-lwp, alone-met}
use Rattle.pr_report_laws.specs.AtBirth.{has_met, met_in}
use Rattle.pr_truss.specs.Marks.{first_function}
use Rattle.pr_truss.specs.Trusses.{TrussState, traced_at}
use Rattle.pr_truss.specs.declared.asides.Aside.{Aside}
use Rattle.pr_truss.specs.declared.asides.Aside.TheVariants.{Nothing, Reading, Planting, Patching}
use Rattle.pr_truss.specs.declared.function_events.FunctionEvent.{FunctionEvent}
use Rattle.pr_truss.specs.declared.function_events.FunctionEvent.TheVariants.{TraceTrap}
use Rattle.pr_truss.specs.declared.marks.Marks.{Marks}
use Rattle.pr_truss.specs.declared.processes.Traced.{Traced}
use Rattle.pr_truss.specs.declared.stages.AfterClosing.{AfterClosing}
use Rattle.pr_truss.specs.declared.stages.OpeningStep.{OpeningStep}
use Rattle.pr_truss.specs.declared.stages.OpeningStep.TheVariants as opening
use Rattle.pr_truss.specs.declared.stages.Stage.{Stage}
use Rattle.pr_truss.specs.declared.stages.Stage.TheVariants.{Opening, Closing, Running, ReadingText}
use Rattle.pr_truss_laws.proofs.EventStops.AloneLemmas.{alone-frozen, alone-halting}
use Rattle.pr_truss_laws.proofs.Machine.StillLemmas.{frozen-turns, halting-leaves, halting-stays}
use Rattle.pr_truss_laws.specs.Stills.{IsFrozen, IsHalting, IsUndisturbed, stopped_lwp, with_lwp_stopped}
use Rattle.pr_function_laws.proofs.OpenedProcesses.OneEventLemmas.{alone-few}
use Rattle.pr_function_laws.proofs.OpenedProcesses.OpenedLemmas.{one-agent}
use Rattle.pr_function_laws.specs.OneEvent.{HasMetNothing, HasOneEventAtMost}
use Rattle.pr_function_hides.proofs.StoppedCopies.CopyOuts.{HaveNoCopyBegun, alone-out, halting-out, lwps-out}
use Rattle.pr_function_hides.proofs.Copying.CopyRows.{tells-alike}
use Rattle.pr_function_hides.proofs.StoppedCopies.CopyTurns.{alone-clear}
use Rattle.pr_function_hides.specs.Copying.{CopiesStand, HaveNoCopyGoing, IsEmpty, IsLifted, Tells, bare, none_goes, one_goes}
use Rattle.pr_function_hides.specs.Treating.{Treats, is_run_soon}

-- How the forks, vforks and execs of each process stand with what truss has planted there, by where truss has come with
-- it; and what is so of a process that others leave alone, of one whose lwps stay, and of one that can only stop.

-- ---- what is said of a process

-- the run flags with which truss runs a process
pub data IsRunFlags (flags : ℕ) : Type 0 where
  no_flags : flags ≡ 0 → IsRunFlags flags
  clears : flags ≡ clear_fault → IsRunFlags flags
  steps : flags ≡ single_step → IsRunFlags flags
  both : flags ≡ clear_fault + single_step → IsRunFlags flags

-- nothing is planted in it, and nothing will be planted again
pub record IsBareMarks (m : Marks) : Type 0 where
  pub lifted : IsLifted m
  pub left : IsEmpty m.lifted

-- It stands still, with so many events, that its lwps met before truss came; and none of them is at a copy.
pub record WaitsOut (n : ℕ) (p : TracedProcess) : Type 0 where
  pub out : HaveNoCopyBegun p
  pub frozen : IsFrozen p
  pub count : met_in p ≡ n

-- one that truss has opened, and looks at no event of: it stands as it is to; or stops are left from before
pub data RestsSo (v : Traced) (p : TracedProcess) : Type 0 where
  rests_new : v.old ≡ 0 → CopiesStand v.marks p → RestsSo v p
  rests_old : v.marks.flags ≡ 0 → 0 < v.old → WaitsOut v.old p → RestsSo v p

-- before the wait of its opening is answered
abbrev pub is_early : OpeningStep → Bool
is_early opening.OpenStatus = true
is_early opening.OpenLstatus = true
is_early opening.OpenMemory = true
is_early opening.ClearModes = true
is_early opening.SetRelease = true
is_early opening.Stop = true
is_early (opening.AwaitStop until) = true
is_early _ = false

-- the stops that are left of it are counted
pub record IsCountedOut (old : ℕ) (p : TracedProcess) : Type 0 where
  pub out : HaveNoCopyBegun p
  pub count : has_agent p ≡ false → old ≡ met_in p - 1

-- one that truss opens: nothing is planted, up to the answer to the wait; and from there on none of it is at a copy
pub data OpensSo (step : OpeningStep) (v : Traced) (p : TracedProcess) : Type 0 where
  early : is_early step ≡ true → IsBareMarks v.marks → OpensSo step v p
  stopped : step ≡ opening.ReadLwps → HaveNoCopyBegun p → OpensSo step v p
  counted : is_early step ≡ false → step ≢ opening.ReadLwps → IsCountedOut v.old p → OpensSo step v p

-- one that truss closes, and that lives: nothing is planted, and nothing comes before the close; or it is directed to
-- stop, and none of it is at a copy
pub data ClosesSo (a : Aside) (v : Traced) (p : TracedProcess) : Type 0 where
  unplanted : a ≡ Nothing → IsBareMarks v.marks → ClosesSo a v p
  halted : HaveNoCopyBegun p → IsHalting p → ClosesSo a v p

-- the event that truss treats: an lwp met it; or there is none, as at a trace trap that is not its own
pub record MetBy (m : Marks) (e : FunctionEvent) (p : TracedProcess) : Type 0 where
  pub id : ℕ
  pub lwp : TracedLwp
  pub there : lwp_of p id ≡ Some lwp
  pub met : has_met lwp ≡ true
  pub tells : Tells m e lwp

abbrev pub IsEventOf : Marks → FunctionEvent → TracedProcess → Type 0
IsEventOf m e p = MetBy m e p ⊎ ((e ≡ TraceTrap) × HasMetNothing p)

-- one that truss runs soon: it does what it does at an event; or it runs a stop from before
pub data RunsSo (t : TrussState) (place : ℕ) (p : TracedProcess) : Type 0 where
  treats : (m : Marks) (e : FunctionEvent) → (traced_at t place).old ≡ 0 → Treats m e place t → CopiesStand m p
      → HasOneEventAtMost p → IsEventOf m e p → RunsSo t place p
  runs_old : t.aside ≡ Nothing → t.stage ≡ Running place → (traced_at t place).marks.flags ≡ 0
      → WaitsOut (suc (traced_at t place).old) p → RunsSo t place p

-- ---- where truss has come

-- whether it opens, closes or runs soon the process at a place
abbrev pub is_about : Stage → ℕ → Bool
is_about (Opening b step) place = b == place
is_about (Closing b next) place = b == place
is_about (Running b) place = b == place
is_about (ReadingText b l from len) place = b == place
is_about stage place = false

pub data StandingSo (t : TrussState) (place : ℕ) (p : TracedProcess) : Type 0 where
  rests_so : is_about t.stage place ≡ false → RestsSo (traced_at t place) p → StandingSo t place p
  opens_so : (step : OpeningStep) → t.stage ≡ Opening place step → OpensSo step (traced_at t place) p
      → StandingSo t place p
  closes_so : (next : AfterClosing) → t.stage ≡ Closing place next → ClosesSo t.aside (traced_at t place) p
      → StandingSo t place p
  runs_so : is_run_soon t.stage place ≡ true → RunsSo t place p → StandingSo t place p

-- what comes before the call of a stage is of the process that the stage is about
abbrev pub FitsSo : Aside → Stage → Type 0
FitsSo Nothing stage = Unit {0}
FitsSo (Reading q function) (Opening b step) = (q ≡ b) × (step ≡ opening.Start)
FitsSo (Planting q function) (Opening b step) = (q ≡ b) × (step ≡ opening.Start)
FitsSo (Patching q plants lifts clear) (Closing b next) = (q ≡ b) × (first_function plants ≡ None)
FitsSo (Patching q plants lifts clear) (Running b) = q ≡ b
FitsSo (Patching q plants lifts clear) (ReadingText b l from len) = q ≡ b
FitsSo aside stage = ⊥

-- it has looked at no stop of a process twice, and runs it with flags of its own
pub record IsClean (v : Traced) : Type 0 where
  pub unseen : v.seen ≡ false
  pub flags : IsRunFlags v.marks.flags

-- Truss with a state: so it is of each process, and each that lives stands so.
pub record CopiesSo (t : TrussState) (s : TracedSystem) : Type 0 where
  pub clean : Each IsClean t.traced
  pub fits : FitsSo t.aside t.stage
  pub each : (place : ℕ) → place < length t.traced → (p : TracedProcess)
      → live_process s (traced_at t place).pid ≡ Some p → StandingSo t place p

-- ---- whatever is planted

-- bare marks, and those of a process of which no copy goes on
pub bare-stands : (m : Marks) (p : TracedProcess) → IsBareMarks m → CopiesStand m p
bare-stands m p w = bare w.lifted w.left

-- ---- a process that others leave alone

module _ (p q : TracedProcess) (alone : IsUndisturbed p q) where
  pub copies-alone : (m : Marks) → CopiesStand m p → CopiesStand m q
  copies-alone m (none_goes all) = none_goes (alone-clear None p q alone all)
  copies-alone m (one_goes id lifted all) = one_goes id lifted (alone-clear (Some id) p q alone all)
  copies-alone m (bare lifted none) = bare lifted none

  waits-alone : (n : ℕ) → WaitsOut n p → WaitsOut n q
  waits-alone n w = record {
    out = alone-out p q alone w.out;
    frozen = alone-frozen p q alone w.frozen;
    count = alone-met p q alone ∙ w.count;
  }

  pub rests-alone : (v : Traced) → RestsSo v p → RestsSo v q
  rests-alone v (rests_new none stands) = rests_new none (copies-alone v.marks stands)
  rests-alone v (rests_old flags some w) = rests_old flags some (waits-alone v.old w)

  opens-alone : (step : OpeningStep) (v : Traced) → OpensSo step v p → OpensSo step v q
  opens-alone step v (early is m) = early is m
  opens-alone step v (stopped is out) = stopped is (alone-out p q alone out)
  opens-alone step v (counted late other w) =
      counted late other (record {
        out = alone-out p q alone w.out;
        count = λ none.
            w.count (sym (alone-agent p q alone) ∙ none) ∙ ap (λ n. n - 1) (sym (alone-met p q alone));
      })

  closes-alone : (a : Aside) (v : Traced) → ClosesSo a v p → ClosesSo a v q
  closes-alone a v (unplanted none m) = unplanted none m
  closes-alone a v (halted out halting) = halted (alone-out p q alone out) (alone-halting p q alone halting)

  unmet-alone : HasMetNothing p → HasMetNothing q
  unmet-alone none n k there =
      let a = alone.each n k there in ap has_met a.1.1 ∙ none n a.0 a.1.0

  event-alone : (m : Marks) (e : FunctionEvent) → IsEventOf m e p → IsEventOf m e q
  event-alone m e (inl w) =
      let it = alone-lwp p q alone w.id w.lwp w.there in
      inl (record {
        id = w.id;
        lwp = it.0;
        there = it.1.0;
        met = sym (ap has_met it.1.1) ∙ w.met;
        tells = tells-alike m e w.lwp it.0 (sym (ap (λ (x : TracedLwp). x.control.stop) it.1.1))
            (sym (ap (λ (x : TracedLwp). x.phase) it.1.1)) w.tells;
      })
  event-alone m e (inr w) = inr (w.0, unmet-alone w.1)

  pub runs-alone : (t : TrussState) (place : ℕ) → RunsSo t place p → RunsSo t place q
  runs-alone t place (treats m e new treating stands few event) =
      treats m e new treating (copies-alone m stands) (alone-few p q alone few) (event-alone m e event)
  runs-alone t place (runs_old idle runs flags w) = runs_old idle runs flags (waits-alone _ w)

  pub standing-alone : (t : TrussState) (place : ℕ) → StandingSo t place p → StandingSo t place q
  standing-alone t place (rests_so other w) = rests_so other (rests-alone (traced_at t place) w)
  standing-alone t place (opens_so step is w) = opens_so step is (opens-alone step (traced_at t place) w)
  standing-alone t place (closes_so next is w) = closes_so next is (closes-alone t.aside (traced_at t place) w)
  standing-alone t place (runs_so soon w) = runs_so soon (runs-alone t place w)

-- ---- a process whose lwps stay

module _ (p q : TracedProcess) (same : q.lwps ≡ p.lwps) where
  was : (n : ℕ) (l : TracedLwp) → lwp_of q n ≡ Some l → lwp_of p n ≡ Some l
  was n l there = ap (under n) (sym same) ∙ there

  clear-lwps : (but : Option ℕ) → HaveNoCopyGoing but p → HaveNoCopyGoing but q
  clear-lwps but all = record { each = λ n l other there. all.each n l other (was n l there) }

  pub copies-lwps : (m : Marks) → CopiesStand m p → CopiesStand m q
  copies-lwps m (none_goes all) = none_goes (clear-lwps None all)
  copies-lwps m (one_goes id lifted all) = one_goes id lifted (clear-lwps (Some id) all)
  copies-lwps m (bare lifted none) = bare lifted none

  pub event-lwps : (m : Marks) (e : FunctionEvent) → IsEventOf m e p → IsEventOf m e q
  event-lwps m e (inl w) =
      inl (record { id = w.id; lwp = w.lwp; there = ap (under w.id) same ∙ w.there; met = w.met; tells = w.tells })
  event-lwps m e (inr w) = inr (w.0, λ n l there. w.1 n l (was n l there))

  pub halting-lwps : IsHalting p → IsHalting q
  halting-lwps h = record { each = λ n l there. h.each n l (was n l there) }

  pub counted-lwps : (old : ℕ) → IsCountedOut old p → IsCountedOut old q
  counted-lwps old w = record {
    out = lwps-out p q same w.out;
    count = λ none.
        w.count (sym (ap (λ (es : List (ℕ × TracedLwp)). agent_in es) same) ∙ none)
        ∙ ap (λ (es : List (ℕ × TracedLwp)). met_of es - 1) (sym same);
  }
    where
      agent_in : List (ℕ × TracedLwp) → Bool
      agent_in es = has_agent (record p { lwps = es })

      met_of : List (ℕ × TracedLwp) → ℕ
      met_of es = met_in (record p { lwps = es })

-- ---- a turn of one that can only stop

module _ (s : TracedSystem) (pid : ℕ) (p : TracedProcess) (own : ℕ) (t : LwpTurn) (lawful : IsLawfulSystem s)
    (live : live_process s pid ≡ Some p) (turn : turn_of s pid own ≡ Some t) (q : TracedProcess)
    (later : live_process t.system pid ≡ Some q) where
  pub no-turn : {A : Type 0} → IsFrozen p → A
  no-turn frozen = absurd (none-some t (sym (frozen-turns s pid p live frozen own) ∙ turn))

  halted-is : IsHalting p → with_lwp_stopped own p ≡ q
  halted-is halting =
      same_Some (with_lwp_stopped own p) q (sym (halting-leaves s pid p live halting own t turn) ∙ later)

  same-agent : IsHalting p → has_agent q ≡ has_agent p
  unfolding with_counted
  same-agent halting =
      ap (λ (x : TracedProcess). has_agent x) (sym (halted-is halting)) ∙ one-agent own stopped_lwp p

  pub closes-turn : (a : Aside) (v : Traced) → ClosesSo a v p → ClosesSo a v q
  closes-turn a v (unplanted none m) = unplanted none m
  closes-turn a v (halted out halting) =
      halted (halting-out s pid p lawful live halting own t turn q later out)
      (subst IsHalting (halted-is halting) (halting-stays s pid p live halting own t turn))

  -- one that truss opens, from the direction to stop on
  pub opens-turn : (step : OpeningStep) (v : Traced) → (is_early step ≡ false → IsHalting p)
      → (is_early step ≡ false → step ≢ opening.ReadLwps → has_agent p ≡ false → IsFrozen p)
      → OpensSo step v p → OpensSo step v q
  opens-turn step v halts stands (early is m) = early is m
  opens-turn step v halts stands (stopped is out) =
      stopped is
      (halting-out s pid p lawful live (halts (ap is_early is)) own t turn q later out)
  opens-turn step v halts stands (counted late other w) =
      counted late other (record {
        out = halting-out s pid p lawful live (halts late) own t turn q later w.out;
        count = λ none. no-turn (stands late other (sym (same-agent (halts late)) ∙ none));
      })
