use Rattle.std.proofs.Common.{◌≡◌, All, map, take}
use Rattle.pr_world.specs.Callers.{IsMade, core_in}
use Rattle.pr_world.proofs.questions.make_calls.Given as goal

-- the calls of the controllers so far are made, and all cores are as they were
abbrev pub invariant-loop-caller : goal.invariant-loop-caller
invariant-loop-caller l = record {
  cores : map core_in l.callers ≡ map core_in l.fn.callers;
  made : All IsMade (take l.caller-index l.callers);
}
