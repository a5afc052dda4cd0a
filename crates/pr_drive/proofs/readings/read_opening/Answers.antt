use Rattle.std.proofs.Common.{◌≤◌, List, ℕ, length, subst, sym}
use Rattle.pr_num.specs.Limits.{scenario_limit}
use Rattle.std.proofs.lemmas.Result.{IfOk-weaker}
use Rattle.pr_drive.specs.Served.{IsAbove, OpensText, TookText}
use Rattle.pr_drive.specs.declared.readings.Above.{Above}
use Rattle.pr_drive.proofs.InputLemmas.{input}
use Rattle.pr_drive.proofs.ReadLemmas.{opens-as, text-few, text-within}
use Rattle.pr_drive.proofs.readings.read_opening.Goals as goal

pub open_text-requires-clause-few : goal.open_text-requires-clause-few
open_text-requires-clause-few g c =
    let old = input c.args.lines.now.held (g.S.Source.left c.args.source.now) in
    let new = input c.read_above.new.lines.held (g.S.Source.left c.read_above.new.source) in
    let took : TookText c.read_above.new.text.items c.in-Text.above old new =
    subst (λ (a : Above). IsAbove a c.read_above.new.text.items old new) c.in-Text.is c.in_ok-above.ensures.above in
    text-few c.read_above.new.text.items c.in-Text.above old new took

pub returns-in-Text-clause-opens : goal.returns-in-Text-clause-opens
returns-in-Text-clause-opens g c =
    let old = input c.args.lines.now.held (g.S.Source.left c.args.source.now) in
    let new = input c.read_above.new.lines.held (g.S.Source.left c.read_above.new.source) in
    let took : TookText c.read_above.new.text.items c.in-Text.above old new =
    subst (λ (a : Above). IsAbove a c.read_above.new.text.items old new) c.in-Text.is c.in_ok-above.ensures.above in
    IfOk-weaker c.open_text.result _ _
    (λ o h. opens-as o c.read_above.new.text.items c.in-Text.above old new took
    (subst (λ (t : List ℕ). OpensText t c.in-Text.above o) c.deref.ensures.value h))
    c.open_text.ensures.opens

pub open_text-requires-clause-within : goal.open_text-requires-clause-within
open_text-requires-clause-within g c =
    let old = input c.args.lines.now.held (g.S.Source.left c.args.source.now) in
    let new = input c.read_above.new.lines.held (g.S.Source.left c.read_above.new.source) in
    let took : TookText c.read_above.new.text.items c.in-Text.above old new =
    subst (λ (a : Above). IsAbove a c.read_above.new.text.items old new) c.in-Text.is c.in_ok-above.ensures.above in
    subst (λ (t : List ℕ). length t ≤ scenario_limit) (sym c.deref.ensures.value)
    (text-within c.read_above.new.text.items c.in-Text.above old new took)
