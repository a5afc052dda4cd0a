use Rattle.std.proofs.Common.{◌≡◌, ◌≤◌, ◌++◌, length, take, drop}
use Rattle.pr_num.specs.Limits.{line_limit}
use Rattle.pr_line.specs.ArgumentTexts.{came_of, arguments_text}
use Rattle.pr_line.proofs.arguments.arguments_text.Given as goal

abbrev pub invariant-loop-i : goal.invariant-loop-i
invariant-loop-i l = record {
  written : l.line ++ arguments_text l.size (came_of l.text) l.arguments (drop l.i l.kinds) l.i
      ≡ l.initial.line ++ arguments_text l.size (came_of l.text) l.arguments l.kinds 0;
  kept : take (length l.initial.line) l.line ≡ l.initial.line;
  within : length l.line ≤ line_limit;
}
