use Rattle.std.proofs.Common.{◌≡◌, ℕ, ◌≤◌, Bool, Option, Some, None, List, arith}
use Rattle.std.specs.List.{All}
use Rattle.std.proofs.lemmas.List.Elements.{All-weaker}
use Rattle.pr_num.specs.Programs.{Program}
use Rattle.pr_num.specs.declared.infos.Info.{Info}
use Rattle.pr_num.specs.declared.signals.Sig.{Sig}
use Rattle.pr_keeps.specs.CallEdits.{CloseEdit}
use Rattle.pr_keeps.specs.MessageEdits.{MessageEdit}
use Rattle.pr_num.specs.declared.messages.Message.{Message}
use Rattle.pr_model.specs.Lawful.{IsOfMade}
use Rattle.pr_model.specs.Lives.{with_made, with_reaped, with_spawned}
use Rattle.pr_model.specs.LwpTurns.{settled}
use Rattle.pr_model.specs.Machines.{traced}
use Rattle.pr_model.specs.Rows.{Row}
use Rattle.pr_model.specs.Signals.{generated}
use Rattle.pr_model.specs.State.{Places, TracedLwp, TracedProcess, TracedSystem, with_process}
use Rattle.pr_model.specs.declared.handles.Held.{Held}
use Rattle.pr_keeps.proofs.KeptSystems.{AnyLwp, KeepsSystem, KeepsTurns, closed-keeps, generated-keeps, message-keeps, settled-keeps, spawned-keeps}
use Rattle.pr_model.specs.State.{process_of}

-- No step makes the number of processes that were made less.

abbrev pub Grows : TracedSystem → TracedSystem → Type 0
Grows s t = s.made ≤ t.made

pub same-grows : (s : TracedSystem) → Grows s s
same-grows s = omega arith

pub process-grows : (s : TracedSystem) (pid : ℕ) (f : TracedProcess → TracedProcess) → Grows s (with_process pid f s)
unfolding with_process
process-grows s pid f = omega arith

pub keeps-grown : (s : TracedSystem) → KeepsSystem AnyLwp (Grows s)
unfolding with_process with_made with_reaped
keeps-grown s = record {
  same = λ t u processes made programs h. omega arith;
  step = λ t pid f is h. h;
  each = λ t f is h. h;
  edits = λ t pid p m tail f found made h. h;
  makes = λ t p new h. omega arith;
  reaps = λ t pid h. h;
}

pub turns-grow : (s : TracedSystem) → KeepsTurns AnyLwp (Grows s)
unfolding with_process
turns-grow s = record { known = λ t pid p id l h live there. tt; own = λ t pid p id l f is u h. h }

pub generated-grows : (s : TracedSystem) (pid : ℕ) (target : Option ℕ) (g : Sig) (info : Info)
    → Grows s (generated traced pid target g info s)
generated-grows s pid target g info =
    generated-keeps AnyLwp (Grows s) (keeps-grown s) pid target g info s (same-grows s)

pub edit-grows : (s : TracedSystem) (pid : ℕ) (p : TracedProcess) (m : Message) (tail : List ℕ) (t : TracedSystem)
    → process_of s pid ≡ Some p → MessageEdit s pid p m tail t → Grows s t
edit-grows s pid p m tail t found e =
    message-keeps AnyLwp (Grows s) (keeps-grown s) s pid p m tail t found e (same-grows s)

pub closed-grows : (s : TracedSystem) (pid : ℕ) (t : TracedSystem) → CloseEdit s pid t → Grows s t
closed-grows s pid t e = closed-keeps AnyLwp (Grows s) (keeps-grown s) s pid t e (same-grows s)

pub spawned-grows : (s : TracedSystem) (program : Program) (held : Bool) → Grows s (with_spawned traced program held s)
spawned-grows s program held = spawned-keeps AnyLwp (Grows s) (keeps-grown s) program held s (same-grows s)

-- whatever a row does
pub settled-grows : (pid : ℕ) (p : TracedProcess) (id : ℕ) (l : TracedLwp) (s : TracedSystem) (row : Row)
    → Grows s (settled s pid p id l row).system
unfolding with_process
settled-grows pid p id l s row =
    settled-keeps AnyLwp (Grows s) (keeps-grown s) pid p id l tt row (λ f is t h. h) s (same-grows s)

-- ---- handles name processes that were made

of-made : (made more : ℕ) → made ≤ more → (o : Option Held) → IsOfMade made o → IsOfMade more o
of-made made more fewer None it = tt
of-made made more fewer (Some h) it = omega arith

pub handles-on : (opens : Places) (s t : TracedSystem) → Grows s t → All (IsOfMade s.made) opens
    → All (IsOfMade t.made) opens
handles-on opens s t grows all = All-weaker (IsOfMade s.made) (IsOfMade t.made) (of-made s.made t.made grows) opens all
