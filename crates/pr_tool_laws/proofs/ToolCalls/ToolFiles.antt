use Rattle.std.proofs.Common.{◌≡◌, ◌≢◌, ◌<◌, ◌∙◌, ℕ, Bool, true, false, Option, Some, None, length, ap, refl}
use Rattle.std.proofs.lemmas.List.{get_or-set_other, get_or-set_same}
use Rattle.pr_model.specs.Calls.{Answer}
use Rattle.pr_model.specs.Handles.{handle_of}
use Rattle.pr_model.specs.Replies.{number_of, opened_in}
use Rattle.pr_model.specs.State.{TracedState}
use Rattle.pr_model.specs.declared.calls.File.{File}
use Rattle.pr_model.specs.declared.calls.File.TheVariants as file
use Rattle.pr_model.specs.declared.calls.Mode.{Mode}
use Rattle.pr_model.specs.declared.calls.Mode.TheVariants as mode
use Rattle.pr_model.specs.declared.handles.Held.{Held}
use Rattle.pr_model.specs.declared.tools.ToolKind.{ToolKind}
use Rattle.pr_model.specs.declared.tools.ToolKind.TheVariants.{Pflags, Psig, Pstack, Pmap, Pfiles, Pstop, Prun, Pwait, Ptree}
use Rattle.pr_tools.specs.Handles.{handle_at, with_handle}
use Rattle.pr_tools.specs.Steps.{control_place, ctl_mode_of, file_of, memory_place, record_place}
use Rattle.pr_tools.specs.Tools.{ToolState}
use Rattle.pr_tools.specs.declared.handles.Opened.{Opened}
use Rattle.pr_tools.specs.declared.steps.Step.{Step}
use Rattle.pr_tools.specs.declared.steps.Step.TheVariants as step
use Rattle.pr_tool_laws.proofs.Pstack.StackReads.{new-stands, old-stands}
use Rattle.pr_tool_laws.specs.FileHandles.{HasHandleOf}
use Rattle.pr_truss_laws.proofs.Files.OpensLemmas.{Opens, held_by}

-- What a tool has open when it comes to a step.

-- ---- which tools come to a step

abbrev pub controls : ToolKind → Bool
controls Pstack = true
controls Pstop = true
controls Prun = true
controls _ = false

abbrev pub has_record : ToolKind → Bool
has_record Pflags = true
has_record Psig = true
has_record Pstack = true
has_record Pmap = true
has_record Pfiles = true
has_record Pwait = true
has_record _ = false

abbrev pub sends_run : ToolKind → Bool
sends_run Pstack = true
sends_run Prun = true
sends_run _ = false

-- ---- its files

module _ (k : ℕ) where
  -- a file is open at a place
  pub record HasAt (place : ℕ) (held : Held) (s : TracedState) (o : Opened) : Type 0 where
    pub number : ℕ
    pub at : handle_at o place ≡ Some number
    pub stands : handle_of s.opens k number ≡ Some held

  pub has-handle : (pid : ℕ) (name : File) (way : Mode) (place : ℕ) (s : TracedState) (o : Opened)
      → HasAt place (held_by k pid 0 name way) s o
      → HasHandleOf k pid 0 name (number_of (handle_at o place)) s
  has-handle pid name way place s o it = record {
    held = held_by k pid 0 name way;
    there = ap (λ (x : Option ℕ). handle_of s.opens k (number_of x)) it.at ∙ it.stands;
    of = refl;
    lwp = refl;
    file = refl;
  }

  -- a file more
  module _ (s : TracedState) (a : Answer) (pid : ℕ) (name : File) (way : Mode)
      (granted : Opens s k (held_by k pid 0 name way) a.reply a.state.opens) (o : Opened) (place : ℕ) where
    pub new-at : place < length o.handles
        → HasAt place (held_by k pid 0 name way) a.state (with_handle o place (opened_in a.reply))
    unfolding handle_at with_handle opened_in
    new-at within = record {
      number = granted.place;
      at = get_or-set_same o.handles place (opened_in a.reply) None within ∙ ap opened_in granted.reply;
      stands = new-stands s k (held_by k pid 0 name way) refl a.reply a.state.opens granted;
    }

    pub old-at : (old : ℕ) (held : Held) → old ≢ place → HasAt old held s o
        → HasAt old held a.state (with_handle o place (opened_in a.reply))
    unfolding handle_at with_handle
    old-at old held apart it = record {
      number = it.number;
      at = get_or-set_other o.handles place old (opened_in a.reply) None apart ∙ it.at;
      stands =
          old-stands s k (held_by k pid 0 name way) refl a.reply a.state.opens granted it.number held it.stands;
    }

module _ (k pid : ℕ) where
  abbrev pub HasControl : ToolKind → TracedState → Opened → Type 0
  HasControl kind s o = HasAt k control_place (held_by k pid 0 file.Ctl (ctl_mode_of kind)) s o

  abbrev pub HasRecord : ToolKind → TracedState → Opened → Type 0
  HasRecord kind s o = HasAt k record_place (held_by k pid 0 (file_of kind) mode.Read) s o

  abbrev pub HasMemory : TracedState → Opened → Type 0
  HasMemory s o = HasAt k memory_place (held_by k pid 0 file.Mem mode.Read) s o

  -- all three files of pstack are open
  pub record HasAll (kind : ToolKind) (s : TracedState) (o : Opened) : Type 0 where
    pub ctl : HasControl kind s o
    pub statuses : HasRecord kind s o
    pub memory : HasMemory s o

  -- ---- at a step

  -- what is so when a tool comes to a step, refused or not; to the steps of other tools it never comes
  unfoldable pub Ready : ToolKind → TracedState → ToolState → Step → Type 0
  Ready kind s t step.OpenCtl = controls kind ≡ true
  Ready kind s t step.OpenFile = (has_record kind ≡ true) × (kind ≡ Pstack → HasControl kind s t.opened)
  Ready kind s t step.OpenMemory = (kind ≡ Pstack) × HasControl kind s t.opened × HasRecord kind s t.opened
  Ready kind s t step.ReadFirst = (kind ≡ Pstack) × HasAll kind s t.opened
  Ready kind s t step.Stop = (kind ≡ Pstack) × HasAll kind s t.opened
  Ready kind s t step.AwaitStop = (kind ≡ Pstack) × HasAll kind s t.opened × (t.until ≡ 0)
  Ready kind s t step.Direct = (kind ≡ Pstop) × HasControl kind s t.opened
  Ready kind s t step.AwaitEnd = (kind ≡ Pwait) × HasRecord kind s t.opened
  Ready kind s t step.ReadFile =
      (has_record kind ≡ true) × HasRecord kind s t.opened × (kind ≡ Pstack → HasAll kind s t.opened)
  Ready kind s t step.ReadText = (kind ≡ Pstack) × HasAll kind s t.opened
  Ready kind s t step.ReadFrame = (kind ≡ Pstack) × HasAll kind s t.opened
  Ready kind s t step.Run = (sends_run kind ≡ true) × HasControl kind s t.opened
  Ready kind s t step.List = kind ≡ Ptree
  Ready kind s t step.Release = (kind ≡ Pstack) × HasControl kind s t.opened
  Ready kind s t step.Close = Unit {0}

  -- where its handles stay, so does that
  module _ (s later : TracedState)
      (same : (number : ℕ) → handle_of later.opens k number ≡ handle_of s.opens k number) where
    at-still : (place : ℕ) (held : Held) (o : Opened) → HasAt k place held s o → HasAt k place held later o
    at-still place held o it = record { number = it.number; at = it.at; stands = same it.number ∙ it.stands }

    all-still : (kind : ToolKind) (o : Opened) → HasAll kind s o → HasAll kind later o
    all-still kind o it = record {
      ctl = at-still control_place (held_by k pid 0 file.Ctl (ctl_mode_of kind)) o it.ctl;
      statuses = at-still record_place (held_by k pid 0 (file_of kind) mode.Read) o it.statuses;
      memory = at-still memory_place (held_by k pid 0 file.Mem mode.Read) o it.memory;
    }

    control-still : (kind : ToolKind) (o : Opened) → HasControl kind s o → HasControl kind later o
    control-still kind o it = at-still control_place (held_by k pid 0 file.Ctl (ctl_mode_of kind)) o it

    record-still : (kind : ToolKind) (o : Opened) → HasRecord kind s o → HasRecord kind later o
    record-still kind o it = at-still record_place (held_by k pid 0 (file_of kind) mode.Read) o it

    pub ready-still : (kind : ToolKind) (t : ToolState) (p : Step) → Ready kind s t p → Ready kind later t p
    unfolding Ready
    ready-still kind t step.OpenCtl it = it
    ready-still kind t step.OpenFile it = (it.0, λ is. control-still kind t.opened (it.1 is))
    ready-still kind t step.OpenMemory it =
        (it.0, control-still kind t.opened it.1, record-still kind t.opened it.2)
    ready-still kind t step.ReadFirst it = (it.0, all-still kind t.opened it.1)
    ready-still kind t step.Stop it = (it.0, all-still kind t.opened it.1)
    ready-still kind t step.AwaitStop it = (it.0, all-still kind t.opened it.1, it.2)
    ready-still kind t step.Direct it = (it.0, control-still kind t.opened it.1)
    ready-still kind t step.AwaitEnd it = (it.0, record-still kind t.opened it.1)
    ready-still kind t step.ReadFile it =
        (it.0, record-still kind t.opened it.1, λ is. all-still kind t.opened (it.2 is))
    ready-still kind t step.ReadText it = (it.0, all-still kind t.opened it.1)
    ready-still kind t step.ReadFrame it = (it.0, all-still kind t.opened it.1)
    ready-still kind t step.Run it = (it.0, control-still kind t.opened it.1)
    ready-still kind t step.List it = it
    ready-still kind t step.Release it = (it.0, control-still kind t.opened it.1)
    ready-still kind t step.Close it = tt
