use Rattle.std.proofs.Common.{◌≡◌, ◌<◌, ℕ, false, Option, Some, None, List, [], ◌∷◌, refl, arith}
use Rattle.std.specs.List.{slice_get}
use Rattle.std.specs.Prelude.{codes}
use Rattle.std.proofs.lemmas.List.Elements.{All-nil, All-cons, All-from_recursion}
use Rattle.pr_num.proofs.SearchLemmas.{All-at}
use Rattle.pr_num.specs.Limits.{clock_limit}
use Rattle.pr_num.specs.Programs.{Program}
use Rattle.pr_num.specs.Words.{IsByte}
use Rattle.pr_num.specs.declared.files.StoredFile.{StoredFile}
use Rattle.pr_lawful.proofs.LawfulStates.HistoryLemmas.{entry-state}
use Rattle.pr_keeps.proofs.KeptHistories.{KeepsEach, history-keeps}
use Rattle.pr_model.specs.FirstState.{bare_system, first_state, spawned_at, system_process, with_spawns}
use Rattle.pr_model.specs.Lawful.{IsLawful}
use Rattle.pr_model.specs.Legal.{IsLegal, state_after, ticked}
use Rattle.pr_model.specs.State.{TracedState, TracedSystem}
use Rattle.pr_model.specs.declared.events.Entry.{Entry}
use Rattle.pr_reached.proofs.StatesInRange.ChangeRanges.{spawned-range}
use Rattle.pr_reached.proofs.StatesInRange.ControllerRanges.{edited-range}
use Rattle.pr_reached.proofs.StatesInRange.EndRanges.{bare-range}
use Rattle.pr_reached.proofs.StatesInRange.ProcessRanges.{ProcessInRange}
use Rattle.pr_reached.proofs.StatesInRange.TurnRanges.{turn-range}
use Rattle.pr_reached.specs.ByteHistories.{HasBytes, IsEntryOfBytes}
use Rattle.pr_reached.specs.InRange.{IsInRange, IsShortName, IsPipeInRange, IsProcessInRange, IsProgramInRange, IsStartInRange}

-- The first state is in range where its programs and files are; a tick of the clock that is legal keeps it so; and each
-- legal history whose calls write bytes leads from a lawful state in range to another.

-- ---- the first state

sched-name : IsShortName (codes "sched")
sched-name = record {
  short = omega arith;
  bytes =
      All-from_recursion IsByte (codes "sched")
      (omega arith, (omega arith, (omega arith, (omega arith, (omega arith, tt)))));
}

system-range : IsProcessInRange system_process
unfolding system_process
system-range = bare-range 0 (codes "sched") 0 sched-name (omega arith)

bare-system-range : (programs : List Program) (files : List StoredFile) → IsStartInRange programs files
    → IsInRange (bare_system programs files)
unfolding bare_system
bare-system-range programs files start = record {
  programs = start.of_programs;
  clock = omega arith;
  files = record { files = start.of_files; pipes = All-nil IsPipeInRange };
  processes = All-cons ProcessInRange (0, system_process) [] system-range (All-nil ProcessInRange);
}

spawned_at-range : (o : Option Program) (s : TracedSystem)
    → ((program : Program) → o ≡ Some program → IsProgramInRange program) → IsInRange s → IsInRange (spawned_at o s)
spawned_at-range None s each h = h
spawned_at-range (Some program) s each h = spawned-range s program false (each program refl) h

spawns-range : (spawns : List ℕ) (s : TracedSystem) → IsInRange s → IsInRange (with_spawns spawns s)
unfolding with_spawns
spawns-range [] s h = h
spawns-range (place ∷ spawns) s h =
    spawns-range spawns (spawned_at (slice_get s.programs place) s)
    (spawned_at-range (slice_get s.programs place) s
    (λ program is. All-at IsProgramInRange s.programs place program is h.programs) h)

pub first-state-range : (programs : List Program) (files : List StoredFile) (spawns : List ℕ)
    → IsStartInRange programs files → IsInRange (first_state programs files spawns).system
unfolding first_state
first-state-range programs files spawns start =
    spawns-range spawns (bare_system programs files) (bare-system-range programs files start)

-- ---- the clock

pub tick-range : (s : TracedSystem) → s.clock < clock_limit → IsInRange s → IsInRange (ticked s)
tick-range s before h = record { programs = h.programs; clock = omega arith; files = h.files; processes = h.processes }

-- ---- histories

each-range : (n : ℕ) → KeepsEach n IsLawful IsEntryOfBytes (λ s. IsInRange s.system)
each-range n = record {
  call = λ s by c r t lawful bytes e h. edited-range s by c t e bytes h;
  turn = λ s pid id t lawful bytes turn h. turn-range s.system pid id t lawful.system h turn;
  tick = λ s lawful below h. tick-range s.system below h;
}

pub history-range : (n : ℕ) (s : TracedState) (h : List Entry) → IsLawful s → IsInRange s.system → HasBytes h
    → IsLegal n s h → IsInRange (state_after s h).system
history-range n s h lawful ranged bytes legal =
    history-keeps n IsLawful IsEntryOfBytes (λ t. IsInRange t.system) (each-range n) (entry-state n) s h lawful bytes
    legal ranged
