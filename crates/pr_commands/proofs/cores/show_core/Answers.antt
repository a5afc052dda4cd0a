use Rattle.std.proofs.Common.{◌≡◌, Err}
use Rattle.pr_commands.specs.CoreInputs.{core_of_input}
use Rattle.pr_commands.proofs.CoreLemmas.{lost-core, read-core, refused-core}
use Rattle.pr_commands.proofs.cores.show_core.Goals as goal

pub returns-in-Ok : goal.returns-in-Ok
returns-in-Ok g c = read-core c.args.kind c.args.input _ _ _ _ _ _ _ _ c.in-Ok.ensures.read c.show_tool.ensures

pub returns-in-Err-Wrong : goal.returns-in-Err-Wrong
returns-in-Err-Wrong g c =
    let read : core_of_input c.args.input ≡ Err c.in-Err-Wrong.wrong =
    rw c.in-Err-Wrong.field-0-is at c.in-Err-Wrong.ensures.read in
    refused-core c.args.kind c.args.input c.in-Err-Wrong.wrong _ _ _ _ _ _ read
    (rw c.in-Err-Wrong.field-0-is at c.refuse_wrong.ensures)

pub returns-in-Err-NoMemory : goal.returns-in-Err-NoMemory
returns-in-Err-NoMemory g c = lost-core _ _ _ _ _ _ c.without_history.ensures.status c.without_history.ensures.history
