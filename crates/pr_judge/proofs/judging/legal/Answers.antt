use Rattle.std.proofs.Common.{rules, ◌≡◌, ◌∙◌, Some, true, sym, ap}
use Rattle.std.specs.List.{slice_get}
use Rattle.std.specs.Option.{option_copied}
use Rattle.pr_judge.proofs.JudgementLemmas.{played-next}
use Rattle.pr_judge.proofs.judging.legal.Goals as goal

pub loop-place-preserved : goal.loop-place-preserved
loop-place-preserved g c =
    let history = c.args.history.now.entries in
    let there : c.get.result ≡ Some c.unwrap-entry.result = search rules in
    let here : slice_get history c.loop-place.place ≡ Some c.unwrap-entry.result.now =
    sym c.get.ensures ∙ ap option_copied there in
    let played : c.in_ok-play.field-0 ≡ true = search rules in
    played-next c.args.controllers (g.Q.Kernel.view c.args.kernel) (g.Q.Kernel.view c.loop-place.kernel)
    (g.Q.Kernel.view c.play.new.kernel) history c.loop-place.place c.unwrap-entry.result.now
    c.in_ok-play.field-0 here c.loop-place.invariant played c.in_ok-play.ensures
