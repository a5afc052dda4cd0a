use Rattle.std.proofs.Common.{◌∙◌, ap}
use Rattle.pr_core.specs.CoreTools.{tool_over_core}
use Rattle.pr_commands.proofs.CoreLemmas.{told-core}
use Rattle.pr_commands.proofs.cores.show_tool.Goals as goal

pub returns-in-Ok : goal.returns-in-Ok
returns-in-Ok g c =
    told-core c.args.kind c.args.input.programs.items c.args.input.core c.as_slice.result.now _ _ _ _ _ _ _
    c.requires.core
    (c.as_slice.ensures ∙ c.in-Ok.ensures ∙ ap (tool_over_core c.args.kind c.args.input.core) c.deref.ensures.value)
    c.tell.ensures
