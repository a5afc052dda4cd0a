use Rattle.std.proofs.Common.{◌≡◌, ◌≢◌, ◌⊎◌, ◌<◌, ℕ, Bool, true, false, not, Option, Some, None, List, length, refl, sym, subst, ap, ◌∙◌, inl, inr}
use Rattle.std.proofs.lemmas.Bool.{false≢true}
use Rattle.std.proofs.lemmas.Option.{none-some}
use Rattle.pr_hidden.specs.Hiders.{replaces}
use Rattle.pr_line.specs.declared.options.Options.{Options}
use Rattle.pr_model.specs.LwpTurns.{LwpTurn, turn_of}
use Rattle.pr_model.specs.State.{TracedProcess, TracedState, live_process}
use Rattle.pr_model.specs.declared.events.Did.{Did}
use Rattle.pr_model.specs.declared.events.Did.TheVariants.{Made, Woke}
use Rattle.pr_model.specs.declared.events.Res.TheVariants.{Value}
use Rattle.pr_num.specs.Syscalls.{is_fork_call}
use Rattle.pr_num.specs.declared.syscalls.Sysno.{Sysno}
use Rattle.pr_num.specs.declared.syscalls.Sysno.TheVariants.{Exec, Vfork}
use Rattle.pr_truss.specs.Asides.{marks_at}
use Rattle.pr_truss.specs.FunctionEvents.{copies_memory}
use Rattle.pr_truss.specs.Marks.{has_function}
use Rattle.pr_truss.specs.Trusses.{TrussState, traced_at}
use Rattle.pr_truss.specs.declared.asides.Aside.TheVariants.{Nothing, Patching}
use Rattle.pr_truss.specs.declared.stages.OpeningStep.{OpeningStep}
use Rattle.pr_truss.specs.declared.stages.Stage.{Stage}
use Rattle.pr_truss.specs.declared.stages.Stage.TheVariants.{Opening, Closing}
use Rattle.pr_function_laws.proofs.OpenedProcesses.OpenedLaws.{Goes}
use Rattle.pr_function_laws.specs.Opened.{is_opened}
use Rattle.pr_function_hides.proofs.Copying.CopyEnds.{halted-none, still-none}
use Rattle.pr_function_hides.proofs.Copying.CopyForeign.{opening-halts, soon-still}
use Rattle.pr_function_hides.proofs.Copying.CopyPlaces.{ClosesSo, CopiesSo, FitsSo, IsBareMarks, OpensSo, StandingSo, closes_so, counted, early, halted, is_about, is_early, opens_so, rests_so, runs_so, stopped, unplanted}
use Rattle.pr_function_hides.specs.Copying.{makes_copy}
use Rattle.pr_function_hides.specs.CountedFunctions.{Counts, again, lifted, stepped, takes_memory}

-- Where a fork, a vfork or an exec of a process is granted that truss opens or closes, none of its functions is planted
-- or counts as planted.

-- a vfork or an exec copies or replaces the memory
pub replaces-copies : (call : Sysno) → replaces call ≡ true → copies_memory call ≡ true
unfolding copies_memory is_fork_call
replaces-copies Vfork is = refl
replaces-copies Exec is = refl
replaces-copies _ is = absurd (false≢true is)

pub takes-copies : (did : Did) → takes_memory did ≡ true → makes_copy did ≡ true
takes-copies (Made call (Value value)) is = replaces-copies call is
takes-copies (Woke call (Value value)) is = replaces-copies call is
takes-copies _ is = absurd (false≢true is)

module _ (n k : ℕ) (o : Options) (t : TrussState) (s : TracedState) (g : Goes (Unit {0}) k o t s)
    (cs : CopiesSo t s.system) (place : ℕ) (within : place < length t.traced) (id : ℕ) (turn : LwpTurn)
    (is : turn_of s.system (traced_at t place).pid id ≡ Some turn) (makes : makes_copy turn.turned.did ≡ true) where
  abbrev pid : ℕ
  pid = (traced_at t place).pid

  abbrev Counted : ℕ → Type 0
  Counted i = (has_function (marks_at t place).planted i ≡ true) ⊎ Counts t place i

  no-counts : {A : Type 0} → IsBareMarks (marks_at t place)
      → ((plants lifts : List Bool) (clear : Bool) → t.aside ≢ Patching place plants lifts clear) → (i : ℕ)
      → Counted i → A
  no-counts m patches_none i (inl has) =
      let l = m.lifted in absurd (false≢true (sym (l.none_planted i) ∙ has))
  no-counts m patches_none i (inr (lifted has)) =
      absurd (false≢true (sym (m.left i) ∙ has))
  no-counts m patches_none i (inr (stepped step is_step same)) =
      let l = m.lifted in absurd (none-some step (sym l.no_step ∙ is_step))
  no-counts m patches_none i (inr (again plants lifts clear at some)) =
      absurd (patches_none plants lifts clear at)

  -- truss has opened the process then and does not close it, or none of its functions counts
  pub opened-or-none : (is_opened t.stage place ≡ true) ⊎ ((i : ℕ) → Counted i → ⊥)
  unfolding turn_of
  opened-or-none = by (live_process s.system pid) refl
    where
      rests : is_about t.stage place ≡ false → is_opened t.stage place ≡ true
      rests other = of t.stage other
        where
          of : (stage : Stage) → is_about stage place ≡ false → is_opened stage place ≡ true
          of (Opening b step) is = ap not is
          of (Closing b next) is = ap not is
          of _ is = refl

      -- in the first steps of an opening nothing comes before a call
      opens : (step : OpeningStep) → t.stage ≡ Opening place step → IsBareMarks (marks_at t place) → (i : ℕ)
          → Counted i → ⊥
      opens step at bare =
          no-counts bare
          (λ plants lifts clear beside.
          subst (FitsSo (Patching place plants lifts clear)) at (subst (λ y. FitsSo y t.stage) beside cs.fits))

      closes : t.aside ≡ Nothing → IsBareMarks (marks_at t place) → (i : ℕ) → Counted i → ⊥
      closes idle bare =
          no-counts bare
          (λ plants lifts clear beside.
          let both : Patching place plants lifts clear ≡ Nothing = sym beside ∙ idle in cc)

      of-opens : (p : TracedProcess) → live_process s.system pid ≡ Some p → (step : OpeningStep)
          → t.stage ≡ Opening place step → OpensSo step (traced_at t place) p → (i : ℕ) → Counted i → ⊥
      of-opens p live step at (early first m) = opens step at m
      of-opens p live step at (stopped reads out) =
          halted-none n k o t s g cs place within id turn is makes p live
          (opening-halts n k o t s g place step at p live (ap is_early reads))
      of-opens p live step at (counted late other c) =
          halted-none n k o t s g cs place within id turn is makes p live
          (opening-halts n k o t s g place step at p live late)

      of-closes : (p : TracedProcess) → live_process s.system pid ≡ Some p
          → ClosesSo t.aside (traced_at t place) p → (i : ℕ) → Counted i → ⊥
      of-closes p live (unplanted idle m) = closes idle m
      of-closes p live (halted out halting) = halted-none n k o t s g cs place within id turn is makes p live halting

      standing : (p : TracedProcess) → live_process s.system pid ≡ Some p → StandingSo t place p
          → (is_opened t.stage place ≡ true) ⊎ ((i : ℕ) → Counted i → ⊥)
      standing p live (rests_so other w) = inl (rests other)
      standing p live (opens_so step at w) = inr (of-opens p live step at w)
      standing p live (closes_so next at w) = inr (of-closes p live w)
      standing p live (runs_so soon w) = still-none n k o t s g cs place within id turn is makes p live
          (soon-still n k o t s g place soon p live)

      by : (x : Option TracedProcess) → live_process s.system pid ≡ x
          → (is_opened t.stage place ≡ true) ⊎ ((i : ℕ) → Counted i → ⊥)
      by None none = absurd (none-some turn (sym (no-turn none) ∙ is))
        where
          no-turn : live_process s.system pid ≡ None → turn_of s.system pid id ≡ None
          no-turn none = rw none refl
      by (Some p) live = standing p live (cs.each place within p live)
