use Rattle.std.proofs.Common.{◌≡◌, map, drop}
use Rattle.std.specs.List.{list_all}
use Rattle.pr_hist.specs.OperandWords.{is_run_flag}
use Rattle.pr_hist.proofs.operand_words.all_run_flags.Given as goal

-- the operands so far are such
abbrev pub invariant-loop-op : goal.invariant-loop-op
invariant-loop-op l =
    list_all is_run_flag (map (λ op. op.now) (drop l.op-index l.ops)) ≡ list_all is_run_flag (map (λ op. op.now) l.ops)
