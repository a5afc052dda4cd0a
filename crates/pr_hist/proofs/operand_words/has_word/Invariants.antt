use Rattle.std.proofs.Common.{◌≡◌, map, drop}
use Rattle.std.specs.List.{list_any}
use Rattle.pr_hist.specs.OperandWords.{is_word}
use Rattle.pr_hist.proofs.operand_words.has_word.Given as goal

-- none of the operands so far is it
abbrev pub invariant-loop-op : goal.invariant-loop-op
invariant-loop-op l =
    list_any (is_word l.name) (map (λ op. op.now) (drop l.op-index l.ops))
    ≡ list_any (is_word l.name) (map (λ op. op.now) l.ops)
