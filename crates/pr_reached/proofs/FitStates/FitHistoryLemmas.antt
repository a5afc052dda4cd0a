use Rattle.std.proofs.Common.{ℕ, false, Option, Some, None, List, [], ◌∷◌}
use Rattle.std.specs.List.{slice_get}
use Rattle.std.proofs.lemmas.List.Elements.{All-nil, All-cons}
use Rattle.pr_num.specs.Programs.{Program}
use Rattle.pr_num.specs.declared.files.StoredFile.{StoredFile}
use Rattle.pr_lawful.proofs.LawfulStates.HistoryLemmas.{entry-state}
use Rattle.pr_model.specs.FirstState.{bare_system, first_state, spawned_at, system_process, with_spawns}
use Rattle.pr_model.specs.Lawful.{IsLawful}
use Rattle.pr_model.specs.Legal.{IsLegal, state_after}
use Rattle.pr_model.specs.Lives.{bare_process}
use Rattle.pr_model.specs.State.{TracedState, TracedSystem}
use Rattle.pr_model.specs.declared.events.Entry.{Entry}
use Rattle.pr_keeps.proofs.KeptHistories.{AnyEntry, KeepsEach, any-entries, history-keeps}
use Rattle.pr_keeps.proofs.KeptSystems.{call-keeps, spawned-keeps}
use Rattle.pr_reached.proofs.FitStates.FitChangeLemmas.{IsOwnFit, fits-keep}
use Rattle.pr_reached.proofs.FitStates.FitLemmas.{LwpFits, ProcessFits, nothing-spares}
use Rattle.pr_reached.proofs.FitStates.FitTurnLemmas.{turn-fits}
use Rattle.pr_reached.specs.Fits.{IsFitSystem}

-- The first state is fit, and each legal history from a fit state leads to fit ones.

-- ---- the first state

bare-fits : (programs : List Program) (files : List StoredFile) → IsFitSystem (bare_system programs files)
unfolding bare_system system_process bare_process
bare-fits programs files =
    record {
      processes = All-cons ProcessFits (0, system_process) []
          (record { lwps = All-nil LwpFits; pending = nothing-spares }) (All-nil ProcessFits);
    }

spawned_at-fits : (o : Option Program) (s : TracedSystem) → IsFitSystem s → IsFitSystem (spawned_at o s)
spawned_at-fits None s h = h
spawned_at-fits (Some program) s h = spawned-keeps IsOwnFit IsFitSystem fits-keep program false s h

spawns-fit : (spawns : List ℕ) (s : TracedSystem) → IsFitSystem s → IsFitSystem (with_spawns spawns s)
unfolding with_spawns
spawns-fit [] s h = h
spawns-fit (place ∷ spawns) s h =
    spawns-fit spawns (spawned_at (slice_get s.programs place) s) (spawned_at-fits (slice_get s.programs place) s h)

pub first-fits : (programs : List Program) (files : List StoredFile) (spawns : List ℕ)
    → IsFitSystem (first_state programs files spawns).system
unfolding first_state
first-fits programs files spawns = spawns-fit spawns (bare_system programs files) (bare-fits programs files)

-- ---- histories

each-fits : (n : ℕ) → KeepsEach n IsLawful AnyEntry (λ s. IsFitSystem s.system)
each-fits n = record {
  call = λ s by c r t lawful such e h. call-keeps IsOwnFit IsFitSystem fits-keep s by c t e h;
  turn = λ s pid id t lawful such turn h. turn-fits s.system pid id t lawful.system h turn;
  tick = λ s lawful below h. record { processes = h.processes };
}

pub history-fits : (n : ℕ) (s : TracedState) (h : List Entry) → IsLawful s → IsFitSystem s.system → IsLegal n s h
    → IsFitSystem (state_after s h).system
history-fits n s h lawful fits legal =
    history-keeps n IsLawful AnyEntry (λ t. IsFitSystem t.system) (each-fits n) (entry-state n) s h lawful
    (any-entries h) legal fits
