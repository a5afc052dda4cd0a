use Rattle.pr_model.specs.FirstState.{first_state}
use Rattle.pr_reached.proofs.Together.MappedLemmas.{history-few}
use Rattle.pr_reached.proofs.Together.FirstRanges.{first-stays}
use Rattle.pr_reached.proofs.mapped.processes_have_few_mappings.Goals as goal

pub returns : goal.returns
returns c =
    record {
      later = λ n s h stays legal. history-few n s h stays.lawful stays.in_range stays.bytes legal;
      first = λ n programs files spawns h first legal.
          let stays = first-stays programs files spawns h first in
          history-few n (first_state programs files spawns) h stays.lawful stays.in_range stays.bytes legal;
    }
