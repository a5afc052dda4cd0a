use Rattle.pr_lending.proofs.ShownSpaces.SpaceLemmas.{shows-one}
use Rattle.pr_lending.proofs.spaces.each_space_shown_is_of_one_process.Goals as goal

pub returns : goal.returns
returns c = λ s a p lawful h. shows-one s lawful h a p
