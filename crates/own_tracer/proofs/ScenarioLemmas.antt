use Rattle.std.proofs.Common.{◌≡◌, ℕ, List, [], sym, subst}
use Rattle.pr_api.specs.Views.{kernel_of}
use Rattle.pr_kern.specs.Kernels.{Kernel}
use Rattle.pr_model.specs.State.{TracedState}
use Rattle.pr_model.specs.declared.events.Entry.{Entry}
use Rattle.pr_scen.specs.Scenarios.{Scenario}
use Rattle.own_tracer.proofs.RunLemmas.{run-is}
use Rattle.own_tracer.specs.Running.{IsHistoryOf, IsInjected, first_of, injected_faults}
use Rattle.own_tracer.specs.declared.faults.Faults.{Faults}

-- What the history of a scenario is.

pub history-is : (s : Scenario) (k new : Kernel) (h : List Entry) (f : Faults) → f ≡ injected_faults
    → k.state ≡ first_of s → k.history ≡ [] → k.places ≡ s.turns
    → IsInjected 1 f (kernel_of k.state k.history k.places)
    (kernel_of new.state new.history new.places)
    → h ≡ new.history → IsHistoryOf s h
unfolding kernel_of
history-is s k new h f faults state history places it is =
    let now = kernel_of new.state new.history new.places in
    let zero : IsInjected 1 injected_faults (kernel_of k.state k.history k.places) now =
    subst (λ (x : Faults). IsInjected 1 x (kernel_of k.state k.history k.places) now) faults it in
    let one : IsInjected 1 injected_faults (kernel_of (first_of s) k.history k.places) now =
    subst (λ (x : TracedState). IsInjected 1 injected_faults (kernel_of x k.history k.places) now) state zero in
    let two : IsInjected 1 injected_faults (kernel_of (first_of s) [] k.places) now =
    subst (λ (x : List Entry). IsInjected 1 injected_faults (kernel_of (first_of s) x k.places) now) history one in
    let three : IsInjected 1 injected_faults (kernel_of (first_of s) [] s.turns) now =
    subst (λ (n : ℕ). IsInjected 1 injected_faults (kernel_of (first_of s) [] n) now) places two in
    subst (IsHistoryOf s) (sym is) (run-is 1 injected_faults (first_of s) s.turns now three)
