use Rattle.std.specs.Prelude.{ℕ, Bool, true, false, List, Result, Ok, Err}
use Rattle.pr_parts.specs.declared.files.FileNo.TheVariants.{NoMemory}
use Rattle.pr_model.specs.Changes as changes
use Rattle.pr_model.specs.Changes.{fails, gives}
use Rattle.pr_model.specs.FileCallRows.{refusal_effect}
use Rattle.pr_model.specs.State.{TracedSystem, TracedProcess, TracedLwp}
use Rattle.pr_call.specs.Effects.{after_effect}
use Rattle.pr_call.specs.declared.answers.Refusal.{Refusal}
use Rattle.pr_call.specs.declared.answers.Refusal.TheVariants.{Fails, Files}

-- What the answer of a call on files says, in the words of the definitions.

-- the effect of a refused call
abbrev pub refusal_meant : Refusal → changes.Effect
refusal_meant (Fails e) = fails e
refusal_meant (Files why) = refusal_effect why

-- the effect of a call that answered so, and changes this where it is not refused
abbrev pub answer_meant : Result ℕ Refusal → List changes.Change → changes.Effect
answer_meant (Ok value) made = gives value made
answer_meant (Err why) made = refusal_meant why

-- whether memory ran out
abbrev pub lacks_memory : Result ℕ Refusal → Bool
lacks_memory (Err (Files NoMemory)) = true
lacks_memory _ = false

-- What is left of a call that answered so once its changes are made: a writer to a pipe that nothing reads is sent
-- SIGPIPE.
abbrev pub settled : ℕ → TracedProcess → ℕ → TracedLwp → Result ℕ Refusal → TracedSystem → TracedSystem
settled pid p id l (Ok value) s = s
settled pid p id l (Err why) s = after_effect pid p id l (refusal_meant why) s
