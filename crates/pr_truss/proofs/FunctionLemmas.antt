-- Where the options name no function, truss is what it is without breakpoints, whatever its marks and what it does on
-- the side.
use Rattle.std.proofs.Common.{◌≡◌, ◌==◌, false, cond, [], length, ap}
use Rattle.std.specs.Prelude.{not}
use Rattle.pr_line.specs.declared.options.Options.{Options}
use Rattle.pr_model.specs.declared.calls.Reply.{Reply}
use Rattle.pr_truss.specs.Feeding.{fed}
use Rattle.pr_truss.specs.FunctionCalls.{call_beside, next_function_call_of}
use Rattle.pr_truss.specs.FunctionFeeding.{fed_functions, with_aside_answered}
use Rattle.pr_truss.specs.Marks.{has_functions}
use Rattle.pr_truss.specs.NextCalls.{next_call_of}
use Rattle.pr_truss.specs.Trusses.{TrussState}

no-functions : (o : Options) → o.functions ≡ [] → has_functions o ≡ false
no-functions o none = ap (λ fs. not (length fs == 0)) none

pub next-without : (s : TrussState) → s.options.functions ≡ [] → next_function_call_of s ≡ next_call_of s
unfolding next_function_call_of
next-without s none = ap (λ b. cond b (call_beside s s.stage s.aside) (next_call_of s)) (no-functions s.options none)

pub fed-without : (s : TrussState) (r : Reply) → s.options.functions ≡ [] → fed_functions s r ≡ fed s r
unfolding fed_functions
fed-without s r none = ap (λ b. cond b (with_aside_answered s r s.aside) (fed s r)) (no-functions s.options none)
