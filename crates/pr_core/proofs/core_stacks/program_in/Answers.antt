use Rattle.std.proofs.Common.{ap, ◌∙◌}
use Rattle.pr_tools.specs.Pstack.{program_of}
use Rattle.pr_core.specs.CoreMemory.{space_in}
use Rattle.pr_core.proofs.MemoryByteLemmas.{first-read}
use Rattle.pr_core.proofs.core_stacks.program_in.Goals as goal

pub returns : goal.returns
returns c =
    c.program_of.ensures
    ∙ ap (program_of c.args.programs.now) (c.instruction_in.ensures
    ∙ first-read (space_in c.args.space.now) c.deref.result.now (c.deref.ensures.value ∙ c.in_ok-bytes.ensures))
