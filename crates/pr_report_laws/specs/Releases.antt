use Rattle.std.specs.Prelude.{◌≡◌, ◌==◌, ◌&&◌, ◌||◌, ℕ, Bool, true, false, List, [], ◌∷◌, if◌then◌else◌}
use Rattle.pr_line.specs.declared.options.Options.{Options}
use Rattle.pr_model.specs.State.{TracedProcess}
use Rattle.pr_model.specs.declared.calls.Reply.{Reply}
use Rattle.pr_model.specs.declared.events.Entry.{Entry}
use Rattle.pr_num.specs.Control.{has_flags, klc_mode, rlc_mode}
use Rattle.pr_truss.specs.Feeding.{fed}
use Rattle.pr_truss.specs.Replies.{answer_of}
use Rattle.pr_truss.specs.Trusses.{TrussState, first_truss, traced_at}
use Rattle.pr_truss.specs.declared.replies.Answer.{Answer}
use Rattle.pr_truss.specs.declared.replies.Answer.TheVariants.{Accepted}
use Rattle.pr_truss.specs.declared.stages.ChildStep.{ChildStep}
use Rattle.pr_truss.specs.declared.stages.ChildStep.TheVariants as child
use Rattle.pr_truss.specs.declared.stages.FreeingStep.TheVariants as freeing
use Rattle.pr_truss.specs.declared.stages.OpeningStep.{OpeningStep}
use Rattle.pr_truss.specs.declared.stages.OpeningStep.TheVariants as opening
use Rattle.pr_truss.specs.declared.stages.Stage.{Stage}
use Rattle.pr_truss.specs.declared.stages.Stage.TheVariants.{OpeningControl, Opening, OpeningChildControl, OpeningChild, FreeingChild}
use Rattle.pr_truss_laws.specs.Exchanges.{Exchange, exchanges}

-- How truss has set the modes of a process, by its calls and their replies alone, and that they stay so.

-- ---- what truss has set

-- A process of which truss has the control file open is without PR_KLC; or PR_RLC is set besides.
pub data Modes : Type 0 where
  spared : Modes
  released : Modes

-- a call counts where it was accepted
abbrev pub if_accepted : Answer → Modes → Modes → Modes
if_accepted Accepted next before = next
if_accepted _ next before = before

-- What a call of truss leaves of that, by its stage. Nobody has the process open for writing when truss opens its
-- control file, so that it has no PR_KLC then. Of a process that truss was given all modes are cleared. Then PR_RLC is
-- set.
abbrev pub modes_next : ℕ → TrussState → Reply → Modes → Stage → Modes
modes_next pid t r m (OpeningControl of) = if of == pid then if_accepted (answer_of r) spared m else m
modes_next pid t r m (OpeningChildControl parent of) = if of == pid then if_accepted (answer_of r) spared m else m
modes_next pid t r m (FreeingChild of freeing.OpenControl) = if of == pid then if_accepted (answer_of r) spared m else m
modes_next pid t r m (Opening place opening.ClearModes) =
    if (traced_at t place).pid == pid then if_accepted (answer_of r) spared m else m
modes_next pid t r m (Opening place opening.SetRelease) =
    if (traced_at t place).pid == pid then if_accepted (answer_of r) released m else m
modes_next pid t r m (OpeningChild parent place child.SetRelease) =
    if (traced_at t place).pid == pid then if_accepted (answer_of r) released m else m
modes_next pid t r m (FreeingChild of (freeing.SetRelease control)) =
    if of == pid then if_accepted (answer_of r) released m else m
modes_next pid t r m _ = m

-- the same over exchanges, one after another
abbrev pub modes_after : ℕ → TrussState → Modes → List Exchange → Modes
modes_after pid t m [] = m
modes_after pid t m (x ∷ xs) = modes_after pid (fed t x.reply) (modes_next pid t x.reply m t.stage) xs

-- how truss has set the modes of a process in a history
unfoldable pub modes_set : ℕ → Options → ℕ → List Entry → Modes
modes_set k o pid h = modes_after pid (first_truss o) spared (exchanges k h)

-- ---- the processes that truss traces

-- whether a step of an opening comes after the one that sets PR_RLC
abbrev pub is_past : OpeningStep → Bool
is_past opening.OpenStatus = false
is_past opening.OpenLstatus = false
is_past opening.OpenMemory = false
is_past opening.ClearModes = false
is_past opening.SetRelease = false
is_past _ = true

abbrev pub is_child_past : ChildStep → Bool
is_child_past child.SetRelease = false
is_child_past _ = true

abbrev pub is_opened_past : Stage → ℕ → Bool
is_opened_past (Opening at step) place = (at == place) && is_past step
is_opened_past (OpeningChild parent at step) place = (at == place) && is_child_past step
is_opened_past _ place = false

-- whether truss has set the modes of the process at a place: it is attached, or its opening is past that step
abbrev pub has_set_at : TrussState → ℕ → Bool
has_set_at t place = (traced_at t place).attached || is_opened_past t.stage place

-- ---- what holds then

-- what a process has of its modes
abbrev pub HasModes : Modes → TracedProcess → Type 0
HasModes spared p = has_flags p.control.modes klc_mode ≡ false
HasModes released p =
    (has_flags p.control.modes rlc_mode ≡ true) × (has_flags p.control.modes klc_mode ≡ false)
