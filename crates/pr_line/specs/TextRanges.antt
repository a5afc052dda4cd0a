-- Which bytes of memory the line of an event asks for (truss(1)).
use Rattle.std.specs.Prelude.{ℕ, Option, None}
use Rattle.std.specs.Result.{result_ok}
use Rattle.pr_line.specs.declared.events.Event.{Event}
use Rattle.pr_line.specs.declared.events.Event.TheVariants.{Entered, Left, Received, Incurred}
use Rattle.pr_model.specs.ShownBytes.{shown_range}

-- the address of the memory that the line of an event asks for, and how many bytes; only a call that has ended asks
unfoldable pub text_range : Event → Option (ℕ × ℕ)
text_range (Entered call arguments) = None
text_range (Left call arguments result) = shown_range call arguments (result_ok result)
text_range (Received signal disposition info) = None
text_range (Incurred fault pc) = None
