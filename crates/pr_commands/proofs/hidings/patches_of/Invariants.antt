use Rattle.std.proofs.Common.{◌≡◌, map, take}
use Rattle.pr_commands.specs.Hidings.{patch_of}
use Rattle.pr_commands.proofs.hidings.patches_of.Given as goal

-- those of the functions so far
abbrev pub invariant-loop-function : goal.invariant-loop-function
invariant-loop-function l = l.patches.items ≡ map patch_of (take l.function-index l.functions)
