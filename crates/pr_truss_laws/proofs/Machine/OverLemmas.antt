use Rattle.std.proofs.Common.{◌≡◌, ◌==◌, ◌<◌, ◌≤◌, ◌+◌, ℕ, Bool, true, false, cond, is_none, is_some, None, Some, Option, List, ◌∷◌, refl, sym, ap, ◌∙◌, arith, inl, inr, []}
use Rattle.std.proofs.lemmas.Bool.{cases_Bool, eqb-false, eqb-true}
use Rattle.std.proofs.lemmas.List.Elements.{All-cons, All-nil, All-weaker}
use Rattle.std.proofs.lemmas.Option.{none-some}
use Rattle.std.specs.List.{All}
use Rattle.std.specs.Option.{option_and_then}
use Rattle.pr_num.proofs.ByIdLaws.{All-under}
use Rattle.pr_num.proofs.ByIdLemmas.{rises_from-tail}
use Rattle.pr_num.specs.ById.{rises_from, under}
use Rattle.pr_num.specs.declared.messages.Message.{Message}
use Rattle.pr_laws.proofs.RepresentativeLemmas.{ids-above}
use Rattle.pr_lawful.proofs.ProcessParts.FileLemmas.{choice}
use Rattle.pr_lawful.proofs.Following.MadeLemmas.{Grows, keeps-grown, same-grows, turns-grow}
use Rattle.pr_model.specs.Changes.{with_fds, with_space, with_shared_taken, with_job_stop, with_disposition_of}
use Rattle.pr_model.specs.Handles.{released}
use Rattle.pr_model.specs.Lawful.{IsLawful, IsLawfulSystem}
use Rattle.pr_model.specs.Legal.{IsLegalEntry, after}
use Rattle.pr_model.specs.Lives.{lent_to, with_program, zombie, with_new_lwp, without_lwp}
use Rattle.pr_model.specs.LwpTurns.{with_counted}
use Rattle.pr_model.specs.Points.{after_meeting}
use Rattle.pr_model.specs.Rows.{Row, row_for}
use Rattle.pr_model.specs.State.{TracedProcess, TracedState, TracedSystem, if_live, live_process, process_of, with_lwp}
use Rattle.pr_model.specs.declared.events.Entry.{Entry}
use Rattle.pr_truss_laws.proofs.Machine.FrameLemmas.{ended-same, lender_of-undisturbed, loan_back-undisturbed, orphaned-undisturbed, told-undisturbed}
use Rattle.pr_truss_laws.specs.Stills.{IsUndisturbed}
use Rattle.pr_keeps.proofs.KeepsLemmas.{process-edits-relate}
use Rattle.pr_keeps.proofs.KeptHistories.{AnyEntry, AnyState, KeepsEach, act-keeps}
use Rattle.pr_keeps.proofs.KeptProcesses.{KeepsProcesses, processes-keep, turns-keep}
use Rattle.pr_keeps.proofs.KeptSystems as step
use Rattle.pr_keeps.proofs.KeptSystems.{AnyLwp, ProcessStep, TurnStep, keeps-each}
use Rattle.pr_keeps.specs.ProcessEdits as process
use Rattle.pr_keeps.specs.ProcessEdits.{ProcessEdit}
use Rattle.pr_model.specs.Messages.{with_agent}
use Rattle.pr_model.specs.Points.{is_traced, with_stop_at, with_others_directed}
use Rattle.pr_model.specs.Stops.{with_all_directed}
use Rattle.pr_model.specs.State.{lwp_of}
use Rattle.pr_model.specs.declared.stops.Point.{Point}
use Rattle.pr_num.specs.Control.{has_flags, async_mode}

-- A process that does not live, and whose id was given out, never lives again: no process is made under an id that was
-- given out, and none that has ended becomes live.

-- an id that was given out stays given out
pub stays-made : (n : ℕ) (s : TracedState) (e : Entry) (pid : ℕ) → IsLawful s → IsLegalEntry n s e
    → pid < s.system.made → pid < (after s e).system.made
stays-made n s e pid lawful legal made =
    let grown = keeps-each AnyLwp (Grows s.system) (keeps-grown s.system) (turns-grow s.system) n in
    let more =
    act-keeps n AnyState AnyEntry (λ t. Grows s.system t.system) grown s e.actor e.act tt tt legal
    (same-grows s.system) in
    omega arith

-- ---- a process that does not live, whose id was given out

-- what stands in a system, if it stands under this id, does not live
pub record IsOverAt (pid : ℕ) (e : ℕ × TracedProcess) : Type 0 where
  pub over : e.0 ≡ pid → is_none e.1.ended ≡ false

-- an id was given out, and what stands under it, if anything does, does not live
pub record IsOver (pid : ℕ) (s : TracedSystem) : Type 0 where
  pub made : pid < s.made
  pub none : All (IsOverAt pid) s.processes

module _ (pid : ℕ) where
  not-live : (p : TracedProcess) → if_live p ≡ None → is_none p.ended ≡ false
  not-live p = by (is_none p.ended)
    where
      by : (b : Bool) → cond b (Some p) None ≡ None → b ≡ false
      by true is = absurd (none-some p (sym is))
      by false is = refl

  -- among rising ids it is enough that nothing that lives is found under this one
  over-from : (low : ℕ) (es : List (ℕ × TracedProcess)) → rises_from low es ≡ true
      → option_and_then if_live (under pid es) ≡ None → All (IsOverAt pid) es
  over-from low [] rises none = All-nil (IsOverAt pid)
  over-from low (e ∷ es) rises none =
      elim (cases_Bool (e.0 == pid)) [
        | inl same ↦ here (eqb-true e.0 pid same)
            (rw same at none)
        | inr differs ↦ All-cons (IsOverAt pid) e es
            (record { over = λ is. absurd (eqb-false e.0 pid differs is) })
            (over-from (e.0 + 1) es tail (rw differs at none))
      ]
    where
      tail : rises_from (e.0 + 1) es ≡ true
      tail = rises_from-tail low e es rises

      here : e.0 ≡ pid → if_live e.1 ≡ None → All (IsOverAt pid) (e ∷ es)
      here same none =
          All-cons (IsOverAt pid) e es (record { over = λ is. not-live e.1 none })
          (All-weaker (λ (d : ℕ × TracedProcess). e.0 + 1 ≤ d.0) (IsOverAt pid)
          (λ d above. record { over = λ is. absurd (omega arith) }) es (ids-above (e.0 + 1) es tail))

  pub over-now : (s : TracedSystem) → IsLawfulSystem s → pid < s.made → live_process s pid ≡ None → IsOver pid s
  unfolding live_process
  over-now s lawful made none = record { made = made; none = over-from 0 s.processes lawful.rising none }

  pub over-none : (s : TracedSystem) → IsOver pid s → live_process s pid ≡ None
  unfolding live_process
  over-none s o = by (process_of s pid) refl
    where
      by : (x : Option TracedProcess) → process_of s pid ≡ x → option_and_then if_live x ≡ None
      by None there = refl
      by (Some p) there =
          let it = All-under (IsOverAt pid) pid p s.processes o.none there in
          ap (λ b. cond b (Some p) None) (it.over refl)

-- ---- what stays

abbrev IsOverNow : TracedProcess → Type 0
IsOverNow x = is_none x.ended ≡ false

-- no step of a process has it live again
module _ (x : TracedProcess) (h : IsOverNow x) where
  undisturbed-over : (y : TracedProcess) → IsUndisturbed x y → IsOverNow y
  undisturbed-over y alone = ap (λ (e : Option ℕ). is_none e) (ended-same x y alone) ∙ h

  step-over : (f : TracedProcess → TracedProcess) → ProcessStep AnyLwp f → IsOverNow (f x)
  unfolding zombie released lent_to with_fds with_space with_shared_taken with_job_stop with_disposition_of
      with_program with_lwp with_new_lwp without_lwp
  step-over f (step.told target g info other) = undisturbed-over (f x) (told-undisturbed target g info x)
  step-over f (step.dies status) = refl
  step-over f (step.loses_parent gone) = undisturbed-over (f x) (orphaned-undisturbed gone x)
  step-over f (step.gets_back gone p) = undisturbed-over (f x) (loan_back-undisturbed gone p x)
  step-over f (step.gets_lender gone p) = undisturbed-over (f x) (lender_of-undisturbed gone p x)
  step-over f (step.gets_lwp id regs held) =
      choice IsOverNow (is_some (lwp_of x id)) _ _ (λ stands. h) (λ free. h)
  step-over f _ = h

  own-over : (id : ℕ) (row : Row) (f : TracedProcess → TracedProcess) → TurnStep id row f → IsOverNow (f x)
  unfolding with_lwp with_counted after_meeting with_stop_at with_others_directed with_all_directed
  own-over id row f step.moves = h
  own-over id row f step.counts = h
  own-over id row f step.meets = by row.point
    where
      by : (o : Option Point) → IsOverNow (after_meeting o id x)
      by None = h
      by (Some point) =
          choice IsOverNow (is_traced x.control point) _ _
          (λ traces. choice IsOverNow (has_flags x.control.modes async_mode) _ _ (λ alone. h) (λ all. h)) (λ passes. h)

-- nor does a control message
edit-ended : (m : Message) (tail : List ℕ) (x y : TracedProcess) → ProcessEdit m tail x y → y.ended ≡ x.ended
unfolding with_lwp with_agent with_space
edit-ended m tail x y (process.one_lwp id f edits) = refl
edit-ended m tail x y _ = refl

module _ (pid : ℕ) where
  over-processes : KeepsProcesses AnyLwp (λ made. pid < made) (IsOverAt pid)
  over-processes = record {
    step = λ other x f is it. record { over = λ same. step-over x (it.over same) f is };
    edits = λ other m tail x y made it.
        let ended =
        process-edits-relate m tail (λ (w z : TracedProcess). z.ended ≡ w.ended) (λ w. refl)
        (λ w y z one two. two ∙ one) (edit-ended m tail) x y made in
        record { over = λ same. ap (λ (e : Option ℕ). is_none e) ended ∙ it.over same };
    newborn = λ made x below new. record { over = λ same. absurd (omega arith) };
    later = λ made below. omega arith;
  }

  each_over : (s : TracedSystem) → IsOver pid s → (pid < s.made) × All (IsOverAt pid) s.processes
  each_over s o = (o.made, o.none)

  over_each : (s : TracedSystem) → (pid < s.made) × All (IsOverAt pid) s.processes → IsOver pid s
  over_each s it = record { made = it.0; none = it.1 }

  each-over : (n : ℕ) → KeepsEach n AnyState AnyEntry (λ s. IsOver pid s.system)
  each-over =
      keeps-each AnyLwp (IsOver pid)
      (processes-keep AnyLwp (λ made. pid < made) (IsOverAt pid) (IsOver pid) each_over over_each over-processes)
      (turns-keep AnyLwp (λ made. pid < made) (IsOverAt pid) (IsOver pid) each_over over_each
      (λ s acting p id l o live there. tt)
      (λ s acting p id l f is x it. record {
        over = λ same. own-over x (it.over same) id (row_for s acting p id l) f is;
      }))

pub stays-over : (n : ℕ) (s : TracedState) (e : Entry) (pid : ℕ) → IsLawful s → IsLegalEntry n s e
    → pid < s.system.made → live_process s.system pid ≡ None → live_process (after s e).system pid ≡ None
stays-over n s e pid lawful legal made none =
    over-none pid (after s e).system
    (act-keeps n AnyState AnyEntry (λ t. IsOver pid t.system) (each-over pid n) s e.actor e.act tt tt legal
    (over-now pid s.system lawful.system made none))
