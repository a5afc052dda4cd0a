-- What programs see of a run.
use Rattle.std.proofs.Common.{◌≡◌, ◌∙◌, ℕ, true, false, List, Option, Result, Ok, Err, IfOk, IsOk, is_ok, flat_map, length, map, refl, sym, ap, subst, arith}
use Rattle.std.proofs.Math.Path.{fun_ext}
use Rattle.std.proofs.lemmas.List.{length-map}
use Rattle.pr_api.specs.Views.{kernel_of}
use Rattle.pr_hidden.proofs.Follows.HistoryFollows.{hidden-traced}
use Rattle.pr_hidden.proofs.NothingHidden.NobodyLemmas.{nobody-steps, nobody-traced}
use Rattle.pr_hidden.specs.HiddenSteps.{hidden_steps, hidden_trace}
use Rattle.pr_hidden.specs.Hiders.{Hiders, nobody}
use Rattle.pr_hide.specs.Hidings.{hiders_of}
use Rattle.pr_hide.specs.declared.hiders.Hider.{Hider}
use Rattle.pr_model.specs.Legal.{IsLegal}
use Rattle.pr_model.specs.State.{TracedState}
use Rattle.pr_model.specs.UntracedMachine.{traced_step}
use Rattle.pr_model.specs.UntracedSteps.{untraced_trace}
use Rattle.pr_model.specs.declared.events.Entry.{Entry}
use Rattle.pr_model.specs.declared.steps.Step.{Step}
use Rattle.pr_output.specs.Output.{plain_run_text}
use Rattle.pr_output.specs.declared.reports.Report.{Report}
use Rattle.pr_run_laws.proofs.KeptRuns.KeptLemmas.{first-told}
use Rattle.pr_run_laws.specs.ScenarioRuns.{controller_of, controllers_of, first_state_of, first_world, run_of}
use Rattle.pr_scen.specs.Scenarios.{IsWithinLimits, Scenario}
use Rattle.pr_text.specs.Reads.{Stops}
use Rattle.pr_scen.specs.Refusals.{ScenFault, ScenRefusal}
use Rattle.pr_text.specs.declared.refusals.LineRefusal.TheVariants as refusal
use Rattle.pr_world.proofs.RunLemmas.{moves-led}
use Rattle.pr_world.specs.Runs.{IsMachineRun, LedFrom}
use Rattle.pr_world.specs.Worlds.{WorldState}
use Rattle.pr_commands.proofs.OnwardLemmas.{run-short}
use Rattle.pr_commands.specs.Answers.{RunText, plain_shown, ran, seen_shown, untraced_shown}
use Rattle.pr_commands.specs.Giving.{Responds}
use Rattle.pr_commands.specs.Hidings.{IsOf, hider_of}
use Rattle.pr_commands.specs.declared.outcomes.Status.{Status}

-- ---- the history of a run is legal

-- the entries by which a world was led to from the first one are a run of the machine
led-run : (s : Scenario) (w : WorldState) (led : LedFrom (first_world s) w)
    → IsMachineRun (controllers_of s) led.entries w.kernel.machine (first_state_of s)
unfolding first_world kernel_of
led-run s w led = led.machine

led-history : (s : Scenario) (w : WorldState) (led : LedFrom (first_world s) w) → w.kernel.history ≡ led.entries
unfolding first_world kernel_of
led-history s w led = led.history

run-legal : (s : Scenario) → IsLegal (length s.controllers) (first_state_of s) (run_of s).kernel.history
run-legal s =
    let w = run_of s in
    let led = moves-led (first_world s) s.turns (first-told s) in
    subst (λ (n : ℕ). IsLegal n (first_state_of s) w.kernel.history) (length-map s.controllers controller_of)
    (subst (IsLegal (length (controllers_of s)) (first_state_of s)) (sym (led-history s w led)) (led-run s w led).legal)

-- the history of a run is one of its scenario
pub run-of-it : (s : Scenario) → IsWithinLimits s → IsOf s (run_of s).kernel.history
run-of-it s limits = record {
  limits = limits;
  few = omega (arith, run-short s s.turns, limits.most);
  legal = run-legal s;
}

-- ---- a scenario that is read again

-- The scenario that an input is read as is there again: no line of it is refused.
pub not-refused : (r : Result Scenario ScenFault) (e : ScenRefusal) (fault : ScenFault) → e ≡ refusal.Fault fault
    → Stops e r → IsOk r → ⊥
not-refused r e fault is stops ok =
    let refused : r ≡ Err fault = subst (λ (x : ScenRefusal). Stops x r) is stops in
    let never : true ≡ false = sym ok ∙ ap is_ok refused in
    cc

-- and it is the same
pub same-again : (r : Result Scenario ScenFault) (s t : Scenario) → r ≡ Ok s → r ≡ Ok t → s ≡ t
same-again r s t read again = subst (λ (x : Result Scenario ScenFault). IfOk x (λ u. s ≡ u)) (sym read ∙ again) refl

-- ---- where nobody hides anything, all is seen

nobody-shown : (t : TracedState) → untraced_shown ≡ seen_shown nobody t
unfolding untraced_shown seen_shown
nobody-shown t = fun_ext (λ (h : List Entry). fun_ext (λ (reports : List Report). fun_ext (λ (n : ℕ).
    ap (λ (steps : List Step). plain_run_text steps (untraced_trace h) n) (sym (nobody-steps t h))
    ∙ ap (λ (trace : List Step). plain_run_text (hidden_steps nobody t h) trace n) (sym (nobody-traced t h)))))

pub untraced-plain : (s : Scenario) (who : List Hider) → who ≡ map hider_of s.controllers → hiders_of who ≡ nobody
    → untraced_shown ≡ plain_shown s
untraced-plain s who is none =
    nobody-shown (first_state_of s)
    ∙ ap (λ (h : Hiders). seen_shown h (first_state_of s)) (sym none ∙ ap hiders_of is)

-- ---- what is written

-- steps that are not hidden, with their trace
pub steps-seen : (who : Hiders) (t : TracedState) (h : List Entry) (steps : List Step) (n : ℕ)
    → steps ≡ hidden_steps who t h
    → plain_run_text steps (flat_map traced_step steps) n
    ≡ plain_run_text (hidden_steps who t h) (hidden_trace who t h) n
steps-seen who t h steps n is =
    ap (λ (xs : List Step). plain_run_text xs (flat_map traced_step xs) n) is
    ∙ ap (λ (trace : List Step). plain_run_text (hidden_steps who t h) trace n) (sym (hidden-traced who t h))

-- a run of which the same is written
pub ran-alike : (a b : RunText) (w : WorldState) (early : Type 0) (status : Status) (h : List Entry)
    (old new : Option (List ℕ)) (before after : ℕ) → a ≡ b → Responds (ran a w) early status h old new before after
    → Responds (ran b w) early status h old new before after
ran-alike a b w early status h old new before after same responds =
    subst (λ (text : RunText). Responds (ran text w) early status h old new before after) same responds
