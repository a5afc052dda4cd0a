-- A truss that shows calls of functions: its calls and their replies.
use Rattle.std.specs.Prelude.{◌≡◌, List, [], ◌∷◌, Option, None, Some, map}
use Rattle.pr_model.specs.declared.calls.Reply.{Reply}
use Rattle.pr_truss.specs.FunctionCalls.{next_function_call_of}
use Rattle.pr_truss.specs.FunctionFeeding.{fed_functions}
use Rattle.pr_truss.specs.Trusses.{TrussState}
use Rattle.pr_truss_laws.specs.Exchanges.{Exchange}

-- truss after these exchanges
abbrev pub functions_after : TrussState → List Exchange → TrussState
functions_after s [] = s
functions_after s (x ∷ xs) = functions_after (fed_functions s x.reply) xs

-- truss after what a controller did in an entry, if it was truss
abbrev pub functions_on : TrussState → Option Exchange → TrussState
functions_on s None = s
functions_on s (Some x) = fed_functions s x.reply

-- whether each call is the one that truss makes next
abbrev pub MakesFunctionCalls : TrussState → List Exchange → Type 0
MakesFunctionCalls s [] = Unit {0}
MakesFunctionCalls s (x ∷ xs) =
    (next_function_call_of s ≡ Some x.call) × MakesFunctionCalls (fed_functions s x.reply) xs

-- the replies that it got
abbrev pub replies_in : List Exchange → List Reply
replies_in xs = map (λ (x : Exchange). x.reply) xs
