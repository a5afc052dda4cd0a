use Rattle.std.proofs.Common.{◌≡◌, map, drop}
use Rattle.std.specs.List.{list_all}
use Rattle.pr_text.specs.Names.{is_name}
use Rattle.pr_scen.proofs.message_lists.are_names.Given as goal

abbrev pub invariant-loop-word : goal.invariant-loop-word
invariant-loop-word l =
    list_all is_name (map (λ word. word.now) (drop l.word-index l.words))
    ≡ list_all is_name (map (λ word. word.now) l.words)
