use Rattle.std.proofs.Common.{◌≡◌, ℕ, suc, true, false, cond, None, Some, Option, List, refl, sym, subst, ap, ◌∙◌}
use Rattle.pr_line.specs.declared.options.Options.{Options}
use Rattle.pr_model.specs.Replies.{until_in}
use Rattle.pr_model.specs.State.{TracedProcess, TracedState, live_process}
use Rattle.pr_model.specs.declared.calls.Reply.{Reply}
use Rattle.pr_truss.specs.Openings.{learnt, step_after}
use Rattle.pr_truss.specs.Trusses.{TrussState, traced_at}
use Rattle.pr_truss.specs.declared.processes.Traced.{Traced}
use Rattle.pr_truss.specs.declared.stages.AfterClosing.TheVariants.{OpenNext}
use Rattle.pr_truss.specs.declared.stages.OpeningStep.{OpeningStep}
use Rattle.pr_truss.specs.declared.stages.OpeningStep.TheVariants as opening
use Rattle.pr_truss.specs.declared.stages.Stage.{Stage}
use Rattle.pr_truss.specs.declared.stages.Stage.TheVariants.{Spawning, OpeningControl, Opening, Closing}
use Rattle.pr_truss_laws.specs.Stills.{IsQuiet}
use Rattle.pr_report_laws.proofs.Invariant.Tallies.{Tally}
use Rattle.pr_report_laws.proofs.Replies.Moves.{Passes, passes-standing}
use Rattle.pr_report_laws.proofs.Replies.NextStages.{ComesNext}
use Rattle.pr_report_laws.proofs.Invariant.Standing.{Opened, Prepares, Standing, has_read, is_named}
use Rattle.pr_report_laws.proofs.Replies.Unwatched.{apart-standing, none-watched}
use Rattle.pr_report_laws.proofs.Invariant.Positions.{IsTracedBy, Waits}
use Rattle.pr_report_laws.specs.Watching.{is_away, place_of}

-- What is said of the steps with which truss begins to trace, or opens, a process: what they show, what they leave of
-- the processes that they are not about, and what the machine does at each of them.

-- ---- a step that is about no process, or about another one

-- at such a stage truss has read no stop, and a poll named no process
pub record IsPlain (stage : Stage) : Type 0 where
  pub read : (place : ℕ) → has_read stage place ≡ false
  pub named : (place : ℕ) → is_named stage place ≡ false

pub comes-plain : (v u : TrussState) → ComesNext v u → IsPlain u.stage
comes-plain v u c = record { read = c.read; named = c.named }

pub spawning-plain : (program : List ℕ) → IsPlain (Spawning program)
spawning-plain program = record { read = λ place. refl; named = λ place. refl }

pub control-plain : (of : ℕ) → IsPlain (OpeningControl of)
control-plain of = record { read = λ place. refl; named = λ place. refl }

pub opening-plain : (at : ℕ) (step : OpeningStep) → IsPlain (Opening at step)
opening-plain at now = record { read = λ place. refl; named = λ place. refl }

pub closing-plain : (at : ℕ) → IsPlain (Closing at OpenNext)
closing-plain at = record { read = λ place. refl; named = λ place. refl }

-- What such a step leaves of a process that it is not about, wherever that stands.
pub record Leaves (pid : ℕ) (t u : TrussState) : Type 0 where
  pub none : place_of t pid ≡ None → place_of u pid ≡ None
  pub then : (place : ℕ) → place_of t pid ≡ Some place → place_of u pid ≡ Some place
  pub same : (place : ℕ) → place_of t pid ≡ Some place → traced_at u place ≡ traced_at t place
  pub was : (place : ℕ) → place_of t pid ≡ Some place → is_away t.leaving t.stage place ≡ false
  pub here : (place : ℕ) → place_of t pid ≡ Some place → (traced_at u place).attached ≡ true
      → is_away u.leaving u.stage place ≡ false
  pub before : IsPlain t.stage
  pub after : IsPlain u.stage

leaves-passes : (pid : ℕ) (t u : TrussState) → Leaves pid t u → (place : ℕ) → place_of t pid ≡ Some place
    → Passes pid t u place place
leaves-passes pid t u l place at = record {
  at = at;
  then = l.then place at;
  same = l.same place at;
  was = λ on. l.was place at;
  here = λ on. l.here place at (ap (λ (x : Traced). x.attached) (l.same place at) ∙ on);
  read = l.after.read place ∙ sym (l.before.read place);
  named = l.after.named place ∙ sym (l.before.named place);
}

pub leaves-standing : (Why : Type 0) (o : Options) (pid : ℕ) (t u : TrussState) (s : TracedState)
    (tally : Tally) → Leaves pid t u → Standing Why o pid t s tally → Standing Why o pid u s tally
leaves-standing Why o pid t u s tally l standing = by (place_of t pid) refl
  where
    by : (x : Option ℕ) → place_of t pid ≡ x → Standing Why o pid u s tally
    by None is =
        apart-standing Why o pid t s tally u s (none-watched t pid is) (none-watched u pid (l.none is)) standing
    by (Some place) is = passes-standing Why o pid t u s tally place place (leaves-passes pid t u l place is) standing

-- ---- the steps of an opening

-- the wait comes after the stop, and the first clock of it is that of the reply
pub until-after : (o : Options) (r : Reply) (step : OpeningStep) (n : ℕ)
    → step_after o r step ≡ Some (opening.AwaitStop n) → (step ≡ opening.Stop) × (n ≡ until_in r)
unfolding step_after
until-after o r opening.Stop n is = (refl, cc)
until-after o r opening.TraceExits n is =
    absurd (elim o.follow as
    (λ b. Some (cond b opening.Follow opening.Start) ≡ Some
    (opening.AwaitStop n) → ⊥) [ true ↦ λ e. cc | false ↦ λ e. cc ] is)
until-after o r _ n is = cc

pub last-start : (o : Options) (r : Reply) (step : OpeningStep) → step_after o r step ≡ None → step ≡ opening.Start
unfolding step_after
last-start o r opening.Start is = refl
last-start o r _ is = cc

pub learnt-pid : (x : Traced) (r : Reply) (step : OpeningStep) → (learnt x r step).pid ≡ x.pid
unfolding learnt
learnt-pid x r opening.OpenStatus = refl
learnt-pid x r _ = refl

pub learnt-start : (x : Traced) (r : Reply) (step : OpeningStep) → step ≡ opening.Start → learnt x r step ≡ x
unfolding learnt
learnt-start x r last is = ap (learnt x r) is

-- what is asked of a process that truss opens at a place
pub prepares-opening : (o : Options) (pid : ℕ) (u : TrussState) (s : TracedState) (place : ℕ) (next : OpeningStep)
    → u.stage ≡ Opening place next → ((n : ℕ) → next ≡ opening.AwaitStop n → n ≡ 0)
    → ((q : TracedProcess) → (traced_at u place).pid ≡ pid → live_process s.system pid ≡ Some q → Opened o next q
    (traced_at u place).old) → Prepares o pid u s
prepares-opening o pid u s place next stage until done = record {
  opened = λ at step q is own live.
      let e = sym stage ∙ is in
      let same : place ≡ at = cc in
      let now : next ≡ step = cc in
      subst (λ n. Opened o step q (traced_at u n).old) same
      (subst (λ st. Opened o st q (traced_at u place).old) now (done q (ap (λ n. (traced_at u n).pid) same
      ∙ own) live));
  until = λ at n is. let e = sym stage ∙ is in until n cc;
  child = λ parent at step q is own live. absurd (let e = sym stage ∙ is in cc);
  new = λ parent at step is. absurd (let e = sym stage ∙ is in cc);
}

-- ---- a step of an opening, as the machine does it

-- A process that the opening has run, with so many old stops.
pub record HasStarted (o : Options) (old : ℕ) (q : TracedProcess) : Type 0 where
  pub traced : IsTracedBy o q
  pub quiet : old ≡ 0 → IsQuiet q
  pub waits : (n : ℕ) → old ≡ suc n → Waits q (suc n)

-- What a step that was accepted does to the process that truss opens: what is asked of it at the step that comes next;
-- and after the last step it has lived before, and was run.
pub record IsStepDone (o : Options) (pid : ℕ) (x : Traced) (r : Reply) (step : OpeningStep)
    (s u : TracedState) : Type 0 where
  pub done : (next : OpeningStep) (q : TracedProcess) → step_after o r step ≡ Some next
      → live_process u.system pid ≡ Some q
      → ((p : TracedProcess) → live_process s.system pid ≡ Some p → Opened o step p x.old)
      → Opened o next q (learnt x r step).old
  pub lived : (q : TracedProcess) → step ≡ opening.Start → live_process u.system pid ≡ Some q
      → (p : TracedProcess) × (live_process s.system pid ≡ Some p)
  pub started : (q : TracedProcess) → step ≡ opening.Start → live_process u.system pid ≡ Some q
      → ((p : TracedProcess) → live_process s.system pid ≡ Some p → Opened o step p x.old) → HasStarted o x.old q
