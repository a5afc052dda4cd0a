use Rattle.std.proofs.Common.{◌++◌, ◌-◌, ℕ, List, map, sym, ap, ◌∙◌, arith}
use Rattle.std.specs.List.{flat_map}
use Rattle.std.proofs.lemmas.List.{append-nil, take_all}
use Rattle.pr_rec.specs.RecordWords.{list_entry_words_of}
use Rattle.pr_rec.specs.declared.entries.ListEntry.{ListEntry}
use Rattle.pr_tools.specs.Ptree.{branch_lines, deeper, lines_below}
use Rattle.pr_tools.proofs.TreeLemmas.{lines_below-none, lines_below-step}
use Rattle.pr_tools.proofs.process_lines.+push_below.Goals as goal

pub returns-then-levels-eq0 : goal.returns-then-levels-eq0
returns-then-levels-eq0 t c =
    let processes = map list_entry_words_of c.args.processes.now in
    sym (ap (λ lines. c.args.text.now ++ lines)
    (ap (λ (k : ℕ). lines_below k c.args.depth processes c.args.parent) c.if-levels-eq0.true
    ∙ lines_below-none c.args.depth processes c.args.parent) ∙ append-nil c.args.text.now)

pub returns : goal.returns
returns t c =
    let processes = map list_entry_words_of c.args.processes.now in
    let branch : List ℕ → List ℕ =
    branch_lines c.args.depth c.args.parent (lines_below (c.args.levels - 1) (deeper c.args.depth) processes) in
    c.loop-process.invariant
    ∙ ap (λ (ps : List ListEntry). c.args.text.now ++ flat_map branch (map list_entry_words_of ps))
    (take_all c.loop-process.process-index c.args.processes.now (omega arith))
    ∙ ap (λ lines. c.args.text.now ++ lines)
    (sym (lines_below-step c.args.levels c.args.depth processes c.args.parent (omega arith)))
