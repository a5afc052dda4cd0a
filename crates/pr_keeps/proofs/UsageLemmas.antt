use Rattle.std.proofs.Common.{◌≡◌, ℕ, List, refl, ◌∙◌}
use Rattle.pr_num.specs.declared.messages.Message.{Message}
use Rattle.pr_model.specs.Changes.{with_space}
use Rattle.pr_model.specs.Messages.{tracing_signals, tracing_faults, tracing_entries, tracing_exits, with_modes, without_modes, with_areas, with_agent}
use Rattle.pr_model.specs.State.{TracedControl, TracedProcess, with_lwp}
use Rattle.pr_keeps.specs.ProcessEdits.{ControlEdit, ProcessEdit, ProcessEdits, control_is, signals}
use Rattle.pr_keeps.proofs.KeepsLemmas.{process-edits-relate}

-- No control message changes what a process has used.

control-usage : (m : Message) (c d : TracedControl) → ControlEdit m c d → d.usage ≡ c.usage
unfolding tracing_signals tracing_faults tracing_entries tracing_exits with_modes without_modes with_areas
control-usage m c d signals = refl
control-usage m c d _ = refl

edit-usage : (m : Message) (tail : List ℕ) (x y : TracedProcess) → ProcessEdit m tail x y
    → y.control.usage ≡ x.control.usage
unfolding with_lwp with_agent with_space
edit-usage m tail x y (control_is {c = c} e) = control-usage m x.control c e
edit-usage m tail x y _ = refl

pub edits-usage : (m : Message) (tail : List ℕ) (x y : TracedProcess) → ProcessEdits m tail x y
    → y.control.usage ≡ x.control.usage
edits-usage m tail =
    process-edits-relate m tail (λ x y. y.control.usage ≡ x.control.usage) (λ x. refl) (λ x y z one two. two ∙ one)
    (edit-usage m tail)
