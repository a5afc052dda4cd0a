use Rattle.std.proofs.Common.{◌≡◌}
use Rattle.pr_commands.proofs.FindingLemmas.{HasJudgedRead}
use Rattle.pr_commands.proofs.checks.judge_lines.Given as goal

-- the judge has heard just the entries that were read
abbrev pub invariant-loop-number : goal.invariant-loop-number
invariant-loop-number l = record {
  judged : HasJudgedRead l.fn.scenario l.fn.lines l.lines l.judge;
  read : l.lines.read ≡ l.number;
  count : l.lines.count ≡ l.fn.lines.count;
  heard : l.judge.heard ≡ l.number;
}
