-- The text of a run without controllers: how many steps there are, and each on a line; then the same of the trace. What
-- a system call gave stands as in the text of a history.
use Rattle.std.specs.Prelude.{ℕ, List, [], ◌∷◌, ◌++◌, codes, decimal, length}
use Rattle.std.specs.List.{flat_map}
use Rattle.pr_num.specs.Faults.{fault_name}
use Rattle.pr_num.specs.Signals.{signal_name}
use Rattle.pr_num.specs.Syscalls.{syscall_name}
use Rattle.pr_model.specs.declared.steps.Step.{Step}
use Rattle.pr_model.specs.declared.steps.Step.TheVariants.{Exec, Call, Sleep, Finish, Fault, Take, Act, Spawn, Kill, Tick}
use Rattle.pr_text.specs.TextLines.{newline}
use Rattle.pr_text.specs.LwpWords.{lwp_text}
use Rattle.pr_text.specs.SpacedWords.{joined}
use Rattle.pr_plain.specs.HistoryText.{result_words}

-- the words of a step
unfoldable pub step_words : Step → List (List ℕ)
step_words (Exec p l) = lwp_text p l ∷ codes "exec" ∷ []
step_words (Call p l c r) = lwp_text p l ∷ codes "call" ∷ syscall_name c ∷ result_words r
step_words (Sleep p l c) = lwp_text p l ∷ codes "sleep" ∷ syscall_name c ∷ []
step_words (Finish p l c r) = lwp_text p l ∷ codes "finish" ∷ syscall_name c ∷ result_words r
step_words (Fault p l f) = lwp_text p l ∷ codes "fault" ∷ fault_name f ∷ []
step_words (Take p l s) = lwp_text p l ∷ codes "take" ∷ signal_name s ∷ []
step_words (Act p l s) = lwp_text p l ∷ codes "act" ∷ signal_name s ∷ []
step_words (Spawn program) = codes "spawn" ∷ program ∷ []
step_words (Kill p s) = codes "kill" ∷ decimal p ∷ decimal s ∷ []
step_words Tick = codes "tick" ∷ []

-- the line of a step, with the newline that ends it
unfoldable pub step_text : Step → List ℕ
step_text s = joined (step_words s) ++ newline ∷ []

-- the lines above the steps and above the trace, with how many there are
unfoldable pub plain_heading : ℕ → List ℕ
plain_heading n = joined (codes "plain" ∷ decimal n ∷ []) ++ newline ∷ []

unfoldable pub trace_heading : ℕ → List ℕ
trace_heading n = joined (codes "trace" ∷ decimal n ∷ []) ++ newline ∷ []

-- steps and a trace
unfoldable pub plain_text : List Step → List Step → List ℕ
plain_text steps trace =
    plain_heading (length steps)
    ++ (flat_map step_text steps ++ (trace_heading (length trace) ++ flat_map step_text trace))
