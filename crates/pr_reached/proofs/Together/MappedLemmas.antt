use Rattle.std.proofs.Common.{ℕ, List}
use Rattle.std.proofs.lemmas.List.Elements.{All-weaker}
use Rattle.pr_model.specs.Lawful.{IsLawful}
use Rattle.pr_model.specs.Legal.{IsLegal, state_after}
use Rattle.pr_model.specs.State.{TracedProcess, TracedState, TracedSystem}
use Rattle.pr_model.specs.declared.events.Entry.{Entry}
use Rattle.pr_reached.proofs.StatesInRange.HistoryRanges.{history-range}
use Rattle.pr_reached.proofs.RecordsInRange.EntryRanges.{seen-range}
use Rattle.pr_reached.proofs.StatesInRange.ProcessRanges.{ProcessInRange, process-range}
use Rattle.pr_reached.specs.ByteHistories.{HasBytes}
use Rattle.pr_reached.specs.InRange.{IsInRange, IsMappingInRange, IsProcessInRange}
use Rattle.pr_reached.specs.Mapped.{HasAPage, HasFewMappings, HaveAddressSpaces, HaveFewMappings}

-- The processes of a system in range have few mappings, which are an address space, and so have those of each state
-- that is reached.

pub few-mappings : (p : TracedProcess) → IsProcessInRange p → HasFewMappings p
few-mappings p h = record {
  pages = All-weaker IsMappingInRange HasAPage (λ m it. record { page = it.page }) p.space h.space.mappings;
  few = h.space.few;
}

pub all-few : (s : TracedSystem) → IsInRange s → HaveFewMappings s
all-few s h =
    record {
      processes = All-weaker ProcessInRange (λ (e : ℕ × TracedProcess). HasFewMappings e.1)
          (λ e it. few-mappings e.1 it) s.processes h.processes;
    }

pub history-few : (n : ℕ) (s : TracedState) (h : List Entry) → IsLawful s → IsInRange s.system → HasBytes h
    → IsLegal n s h → HaveFewMappings (state_after s h).system
history-few n s h lawful ranged bytes legal =
    all-few (state_after s h).system (history-range n s h lawful ranged bytes legal)

-- ---- how they stand

pub all-spaces : (s : TracedSystem) → IsInRange s → HaveAddressSpaces s
all-spaces s h = record {
  own = λ pid p found. (process-range s pid p h found).space.is_space;
  shown = λ pid p found. (seen-range s pid p h found).is_space;
}

pub history-spaces : (n : ℕ) (s : TracedState) (h : List Entry) → IsLawful s → IsInRange s.system → HasBytes h
    → IsLegal n s h → HaveAddressSpaces (state_after s h).system
history-spaces n s h lawful ranged bytes legal =
    all-spaces (state_after s h).system (history-range n s h lawful ranged bytes legal)
