use Rattle.pr_model.specs.FirstState.{first_state}
use Rattle.pr_reached.proofs.Together.MappedLemmas.{all-spaces, history-spaces}
use Rattle.pr_reached.proofs.Together.FirstRanges.{first-stays}
use Rattle.pr_reached.proofs.mapped.processes_have_address_spaces.Goals as goal

pub returns : goal.returns
returns c =
    record {
      each = all-spaces;
      later = λ n s h stays legal. history-spaces n s h stays.lawful stays.in_range stays.bytes legal;
      first = λ n programs files spawns h first legal.
          let stays = first-stays programs files spawns h first in
          history-spaces n (first_state programs files spawns) h stays.lawful stays.in_range stays.bytes legal;
    }
