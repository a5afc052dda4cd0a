use Rattle.std.proofs.Common.{◌≡◌, ◌∙◌, List, refl, ap}
use Rattle.pr_api.specs.Views.{kernel_of}
use Rattle.pr_kern.specs.Kernels.{Kernel}
use Rattle.pr_model.specs.declared.events.Entry.{Entry}
use Rattle.pr_output.specs.declared.reports.Report.{Report}
use Rattle.pr_output.specs.Output.{run_text}
use Rattle.pr_world.specs.Worlds.{end_of, seen}
use Rattle.pr_world.specs.declared.ends.End.{End}
use Rattle.pr_commands.specs.Answers.{ran, ran_so}
use Rattle.pr_commands.specs.Made.{kern_view}
use Rattle.pr_commands.specs.Reports.{reports_of}
use Rattle.pr_commands.proofs.GivingLemmas.{gives-else, gives-nothing}
use Rattle.pr_commands.proofs.RunLemmas.{ended-is}
use Rattle.pr_commands.proofs.sharing.show_world.Goals as goal

pub returns-in-Ok : goal.returns-in-Ok
unfolding ran kernel_of
returns-in-Ok g c =
    let w = seen kern_view c.args.world in
    let history = c.into_history-history.ensures ∙ ap (λ (k : Kernel). k.history) c.into_kernel.ensures in
    let printed : c.in-Ok.reports.items ≡ reports_of w = rw c.in-Ok.is at c.reports_of-reports.ensures in
    let same =
    ap (λ (e : End). ran_so (run_text c.args.showing) e c.into_history-history.result.entries c.in-Ok.reports.items)
    (ended-is w c.args.end c.requires)
    ∙ (ap (λ (h : List Entry). ran_so (run_text c.args.showing) (end_of w) h c.in-Ok.reports.items) history
    ∙ ap (λ (rs : List Report). ran_so (run_text c.args.showing) (end_of w) c.args.world.kernel.history rs) printed) in
    gives-else
    (ran_so (run_text c.args.showing) c.args.end c.into_history-history.result.entries c.in-Ok.reports.items)
    (ran (run_text c.args.showing) w) ⊥ _ _ _ _ _ _ _ same (λ never. absurd never) c.show_ran.ensures

pub returns-in-Err : goal.returns-in-Err
returns-in-Err g c =
    let history = c.into_history-history.ensures ∙ ap (λ (k : Kernel). k.history) c.into_kernel.ensures in
    gives-nothing _ _ _ _ _ _ c.out_of_memory.ensures.status
    (record { unwritten = refl; is = c.out_of_memory.ensures.history ∙ history })
