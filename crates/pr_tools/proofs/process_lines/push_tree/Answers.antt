use Rattle.std.proofs.Common.{◌≡◌, ◌++◌, ℕ, true, false, map, sym, subst, ◌∙◌}
use Rattle.std.specs.Result.{OnOk}
use Rattle.std.proofs.lemmas.List.{append-nil, length-map}
use Rattle.pr_rec.specs.RecordWords.{list_entry_words_of}
use Rattle.pr_tools.specs.Ptree.{ids_rise, lines_below, tree_text}
use Rattle.pr_tools.proofs.process_lines.push_tree.Goals as goal

pub returns-then-not-ids_rise : goal.returns-then-not-ids_rise
unfolding tree_text
returns-then-not-ids_rise c =
    let no : ids_rise 0 (map list_entry_words_of c.args.processes.now) ≡ false =
    sym c.ids_rise.ensures ∙ c.if-not-ids_rise.true in
    rw no (sym (append-nil c.args.text.now))

pub returns : goal.returns
unfolding tree_text
returns c =
    let processes = map list_entry_words_of c.args.processes.now in
    let yes : ids_rise 0 processes ≡ true = sym c.ids_rise.ensures ∙ c.if-not-ids_rise.false in
    let P : ℕ → Type 0 =
    λ k. OnOk c.push_below.result (c.push_below.new.text ≡ c.args.text.now ++ lines_below k 0 processes 0) in
    rw yes (subst P (sym (length-map c.args.processes.now list_entry_words_of)) c.push_below.ensures)
