use Rattle.std.proofs.Common.{◌≡◌, ◌∷◌, ◌++◌, ℕ, List, [], Option, Some, None, IsSome, refl, sym, subst}
use Rattle.pr_api.specs.Entries.{call_entry}
use Rattle.pr_model.specs.Lawful.{IsLawful}
use Rattle.pr_model.specs.Legal.{IsLegalEntry, after, state_after}
use Rattle.pr_model.specs.Records.{lstatus_of}
use Rattle.pr_model.specs.State.{TracedProcess, TracedState, TracedSystem, live_process}
use Rattle.pr_model.specs.declared.calls.Call.{Call}
use Rattle.pr_model.specs.declared.calls.Call.TheVariants.{CtlWait}
use Rattle.pr_model.specs.declared.calls.Reply.{Reply}
use Rattle.pr_model.specs.declared.calls.Reply.TheVariants.{Used}
use Rattle.pr_model.specs.declared.events.Act.{Act}
use Rattle.pr_model.specs.declared.events.Actor.{Actor}
use Rattle.pr_model.specs.declared.events.Entry.{Entry}
use Rattle.pr_model.specs.declared.handles.Held.{Held}
use Rattle.pr_model.specs.declared.tools.ToolKind.TheVariants.{Pstack}
use Rattle.pr_rec.specs.RecordBytes.{lstatus_bytes}
use Rattle.pr_tools.specs.Calls.{stop_bytes}
use Rattle.pr_tools.specs.Tools.{ToolState, first_tool}
use Rattle.pr_tools.specs.declared.handles.Opened.{Opened}
use Rattle.pr_tools.specs.declared.stacks.Walk.{Walk}
use Rattle.pr_tools.specs.declared.steps.Step.{Step}
use Rattle.pr_tools.specs.declared.steps.Step.TheVariants as step
use Rattle.pr_tool_laws.proofs.Pstack.StackHalts.{HaltsWith, others-halt, pid-made}
use Rattle.pr_tool_laws.proofs.Pstack.StackReads.{control_of, memory_of, status_of}
use Rattle.pr_tool_laws.proofs.Pstack.StackSteps.{IsEnding, Notes, no_notes, pstack_at, with_control, with_memory, with_status}
use Rattle.pr_tool_laws.proofs.Pstack.StackWalks.{HasWalked}
use Rattle.pr_tool_laws.proofs.OwnFiles.StandingLemmas.{IsOther, Stands, others-keep}
use Rattle.pr_tool_laws.proofs.Stages.ToolLemmas.{place-still}
use Rattle.pr_tool_laws.specs.OneState.{AreLwpsRead}
use Rattle.pr_tool_laws.specs.Reads.{IsToolRead}
use Rattle.pr_tools.specs.SpaceStacks.{first_instruction}
use Rattle.pr_tool_laws.specs.Stacks.{HasStopped}
use Rattle.pr_truss_laws.proofs.Machine.ForeignLemmas.{exclusive-sole}
use Rattle.pr_truss_laws.specs.Stills.{IsHalting}

-- The stages of pstack, with what it read so far of the state that it shows, and what others leave of them.

module _ (n k pid : ℕ) (first : TracedState) where
  -- its control file, the file of the statuses and the memory are open
  pub record Holds (s : TracedState) (control status memory : ℕ) : Type 0 where
    pub holds_control : Stands s.opens control (control_of k pid)
    pub holds_status : Stands s.opens status (status_of k pid)
    pub holds_memory : Stands s.opens memory (memory_of k pid)

  -- ---- what it read

  -- the wait for the process to stop is as long over as it was
  pub stopped-still : (h : List Entry) (e : Entry) → HasStopped k pid first h → HasStopped k pid first (h ++ e ∷ [])
  stopped-still h e it = record {
    before = it.before;
    handle = it.handle;
    used = it.used;
    after = it.after ++ e ∷ [];
    held = it.held;
    place = place-still h it.before (call_entry k (CtlWait it.handle 0 stop_bytes) (Used it.used)) it.after e it.place;
    there = it.there;
    of = it.of;
    file = it.file;
  }

  -- the state that it shows: the one that its read of the status of all lwps found after the wait, in which the process
  -- lived
  pub record Seen (h : List Entry) : Type 0 where
    pub process : TracedProcess
    pub before : List Entry
    pub call : Call
    pub reply : Reply
    pub after : List Entry
    pub place : h ≡ before ++ call_entry k call reply ∷ after
    pub reads : IsToolRead Pstack k pid (state_after first before) call
    pub stopped : HasStopped k pid first before
    pub live : live_process (state_after first before).system pid ≡ Some process
    pub still : IsHalting process

  -- its read now
  abbrev pub seen-here : (h : List Entry) (c : Call) (r : Reply) (p : TracedProcess)
      → IsToolRead Pstack k pid (state_after first h) c → HasStopped k pid first h
      → live_process (state_after first h).system pid ≡ Some p → IsHalting p → Seen (h ++ call_entry k c r ∷ [])
  seen-here h c r p reads stopped live still = record {
    process = p;
    before = h;
    call = c;
    reply = r;
    after = [];
    place = refl;
    reads = reads;
    stopped = stopped;
    live = live;
    still = still;
  }

  abbrev pub seen-still : (h : List Entry) (e : Entry) → Seen h → Seen (h ++ e ∷ [])
  seen-still h e seen = record {
    process = seen.process;
    before = seen.before;
    call = seen.call;
    reply = seen.reply;
    after = seen.after ++ e ∷ [];
    place = place-still h seen.before (call_entry k seen.call seen.reply) seen.after e seen.place;
    reads = seen.reads;
    stopped = seen.stopped;
    live = seen.live;
    still = seen.still;
  }

  -- the status of all lwps, where a read has all of it
  abbrev pub HasStatus : TracedProcess → Notes → Type 0
  HasStatus p notes = AreLwpsRead p → notes.bytes ≡ lstatus_bytes (lstatus_of p)

  -- The first instruction, and the frames so far, with the next one: of the memory of the process, if it had lent
  -- nothing.
  pub record HasFrames (p : TracedProcess) (notes : Notes) (next : Option Walk) : Type 0 where
    pub status : HasStatus p notes
    pub instruction : p.borrower ≡ None → notes.first ≡ first_instruction p.space
    pub frames : p.borrower ≡ None → AreLwpsRead p → HasWalked (lstatus_of p) p.space notes.frames next

  -- it read the status, and the process keeps its memory
  pub record Reads (h : List Entry) (s : TracedSystem) (notes : Notes) : Type 0 where
    pub seen : Seen h
    pub halts : HaltsWith pid seen.process s
    pub status : HasStatus seen.process notes
    pub none : notes.frames ≡ []

  pub record Walks (h : List Entry) (s : TracedSystem) (notes : Notes) : Type 0 where
    pub seen : Seen h
    pub halts : HaltsWith pid seen.process s
    pub next : Walk
    pub is : notes.walk ≡ Some next
    pub read : HasFrames seen.process notes (Some next)

  -- ---- the stages

  -- what is so at a step at which all three files are open
  unfoldable pub So : List Entry → TracedSystem → Notes → Step → Type 0
  So h s notes step.ReadFirst = notes ≡ no_notes
  So h s notes step.Stop = notes.frames ≡ []
  So h s notes step.AwaitStop =
      (notes.frames ≡ []) × ((was : TracedProcess) × HaltsWith pid was s) × (notes.until ≡ 0)
  So h s notes step.ReadFile =
      (notes.frames ≡ []) × ((was : TracedProcess) × HaltsWith pid was s) × HasStopped k pid first h
  So h s notes step.ReadText = Reads h s notes
  So h s notes step.ReadFrame = Walks h s notes
  So h s notes _ = ⊥

  pub record IsGoing (h : List Entry) (s : TracedState) (t : ToolState) : Type 0 where
    pub control : ℕ
    pub status : ℕ
    pub memory : ℕ
    pub next : Step
    pub notes : Notes
    pub is : t ≡ pstack_at pid (with_memory control status memory) next notes
    pub holds : Holds s control status memory
    pub so : So h s.system notes next

  -- all frames were read
  pub record HasReadAll (h : List Entry) (t : ToolState) : Type 0 where
    pub opened : Opened
    pub next : Step
    pub notes : Notes
    pub is : t ≡ pstack_at pid opened next notes
    pub ends : IsEnding next
    pub seen : Seen h
    pub read : HasFrames seen.process notes None

  pub still-read : (h : List Entry) (e : Entry) (t : ToolState) → HasReadAll h t → HasReadAll (h ++ e ∷ []) t
  still-read h e t all = record {
    opened = all.opened;
    next = all.next;
    notes = all.notes;
    is = all.is;
    ends = all.ends;
    seen = seen-still h e all.seen;
    read = all.read;
  }

  pub data StackStage (h : List Entry) (s : TracedState) (t : ToolState) : Type 0 where
    at_first : t ≡ first_tool Pstack pid → StackStage h s t
    has_control : (control : ℕ) → t ≡ pstack_at pid (with_control control) step.OpenFile no_notes
        → Stands s.opens control (control_of k pid) → StackStage h s t
    has_status : (control status : ℕ) → t ≡ pstack_at pid (with_status control status) step.OpenMemory no_notes
        → Stands s.opens control (control_of k pid) → Stands s.opens status (status_of k pid) → StackStage h s t
    goes : IsGoing h s t → StackStage h s t
    has_read : HasReadAll h t → StackStage h s t
    refused : IsSome t.refusal → StackStage h s t

  -- ---- what others do

  module _ (h : List Entry) (s : TracedState) (lawful : IsLawful s) (actor : Actor) (it : Act)
      (legal : IsLegalEntry n s (record { actor = actor; act = it })) (other : IsOther k actor it) where
    abbrev entry : Entry
    entry = record { actor = actor; act = it }

    abbrev next_state : TracedState
    next_state = after s entry

    abbrev longer : List Entry
    longer = h ++ entry ∷ []

    still-stands : (number : ℕ) (held : Held) → held.controller ≡ k → Stands s.opens number held
        → Stands next_state.opens number held
    still-stands number held own stands =
        others-keep number held n s actor it legal (subst (λ (j : ℕ). IsOther j actor it) (sym own) other) stands

    -- the tool has the process open exclusively
    others-kept : (control : ℕ) → Stands s.opens control (control_of k pid) → (was : TracedProcess)
        → HaltsWith pid was s.system → HaltsWith pid was next_state.system
    others-kept control stands was halts =
        let mine : Held = control_of k pid in
        let sole = exclusive-sole s k control mine lawful stands refl in
        others-halt n s k pid lawful sole (pid-made s control mine lawful stands) actor it was legal other halts

    others-so : (control : ℕ) (notes : Notes) (next : Step) → Stands s.opens control (control_of k pid)
        → So h s.system notes next → So longer next_state.system notes next
    unfolding So
    others-so control notes step.ReadFirst stands so = so
    others-so control notes step.Stop stands so = so
    others-so control notes step.AwaitStop stands so =
        (so.0, (so.1.0, others-kept control stands so.1.0 so.1.1), so.2)
    others-so control notes step.ReadFile stands so =
        (so.0, (so.1.0, others-kept control stands so.1.0 so.1.1), stopped-still h entry so.2)
    others-so control notes step.ReadText stands so = record {
      seen = seen-still h entry so.seen;
      halts = others-kept control stands so.seen.process so.halts;
      status = so.status;
      none = so.none;
    }
    others-so control notes step.ReadFrame stands so = record {
      seen = seen-still h entry so.seen;
      halts = others-kept control stands so.seen.process so.halts;
      next = so.next;
      is = so.is;
      read = so.read;
    }
    others-so control notes _ stands so = absurd so

    others-hold : (control status memory : ℕ) → Holds s control status memory → Holds next_state control status memory
    others-hold control status memory holds = record {
      holds_control = still-stands control (control_of k pid) refl holds.holds_control;
      holds_status = still-stands status (status_of k pid) refl holds.holds_status;
      holds_memory = still-stands memory (memory_of k pid) refl holds.holds_memory;
    }

    pub others-stage : (t : ToolState) → StackStage h s t → StackStage longer next_state t
    others-stage t (at_first same) = at_first same
    others-stage t (has_control control is stands) =
        has_control control is (still-stands control (control_of k pid) refl stands)
    others-stage t (has_status control status is stands_control stands_status) =
        has_status control status is (still-stands control (control_of k pid) refl stands_control)
        (still-stands status (status_of k pid) refl stands_status)
    others-stage t (goes g) = goes (record {
      control = g.control;
      status = g.status;
      memory = g.memory;
      next = g.next;
      notes = g.notes;
      is = g.is;
      holds = others-hold g.control g.status g.memory g.holds;
      so = others-so g.control g.notes g.next g.holds.holds_control g.so;
    })
    others-stage t (has_read all) = has_read (still-read h entry t all)
    others-stage t (refused was) = refused was
