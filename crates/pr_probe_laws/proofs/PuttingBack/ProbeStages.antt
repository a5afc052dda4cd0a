use Rattle.std.proofs.Common.{◌≡◌, ◌∷◌, ◌++◌, ℕ, List, [], Some, length}
use Rattle.std.proofs.lemmas.List.Elements.{All-append, All-cons, All-nil}
use Rattle.std.specs.List.{All}
use Rattle.pr_api.specs.Entries.{call_entry}
use Rattle.pr_model.specs.Legal.{IsLegalEntry, after}
use Rattle.pr_model.specs.State.{TracedState}
use Rattle.pr_model.specs.declared.events.Act.{Act}
use Rattle.pr_model.specs.declared.events.Actor.{Actor}
use Rattle.pr_model.specs.declared.events.Entry.{Entry}
use Rattle.pr_num.specs.Layout.{stack_base, text_base}
use Rattle.pr_probe.specs.AgentCode.{code_size, stack_size}
use Rattle.pr_probe.specs.ProbeStages.{place_of}
use Rattle.pr_probe.specs.Probes.{ProbeState}
use Rattle.pr_probe.specs.declared.probe_stages.ProbeFile.TheVariants.{Control, Status, Lstatus, Map, AgentControl, AgentStatus}
use Rattle.pr_probe.specs.declared.probe_stages.ProbeStage.{ProbeStage}
use Rattle.pr_probe.specs.declared.probe_stages.ProbeStage.TheVariants as stage
use Rattle.pr_tool_laws.proofs.OwnFiles.StandingLemmas.{IsOther, Stands, others-keep}
use Rattle.pr_tool_laws.proofs.Stages.ToolLemmas.{place-still}
use Rattle.pr_tools.specs.Handles.{handle_at, nothing_open}
use Rattle.pr_tools.specs.declared.handles.Opened.{Opened}
use Rattle.pr_probe_laws.proofs.PuttingBack.MemoryMessages.{writer_of}
use Rattle.pr_probe_laws.specs.PutBack.{HasPutBack, HasSaved, WritesNoMemory}

-- The stages of apfiles, with what it has saved of the memory of its process and put back so far.

-- its control file is open
pub record Holds (k pid : ℕ) (s : TracedState) (o : Opened) : Type 0 where
  pub number : ℕ
  pub at : handle_at o (place_of Control) ≡ Some number
  pub stands : Stands s.opens number (writer_of k pid)

module _ (k pid : ℕ) (first : TracedState) where
  -- so many bytes of a place are saved, or put back
  pub record IsSaved (at size : ℕ) (bytes : List ℕ) (h : List Entry) : Type 0 where
    pub whole : length bytes ≡ size
    pub saved : HasSaved k pid at bytes first h

  pub record IsBack (at size : ℕ) (bytes : List ℕ) (h : List Entry) : Type 0 where
    pub whole : length bytes ≡ size
    pub back : HasPutBack k pid at bytes first h

  abbrev pub CodeSaved : List Entry → ProbeState → Type 0
  CodeSaved h p = IsSaved text_base code_size p.code h

  abbrev pub StackSaved : List Entry → ProbeState → Type 0
  StackSaved h p = IsSaved stack_base stack_size p.stack h

  abbrev pub CodeBack : List Entry → ProbeState → Type 0
  CodeBack h p = IsBack text_base code_size p.code h

  abbrev pub StackBack : List Entry → ProbeState → Type 0
  StackBack h p = IsBack stack_base stack_size p.stack h

  -- it has written to no memory so far
  abbrev pub Unwritten : List Entry → Type 0
  Unwritten h = All (WritesNoMemory k) h

  -- and has its control file open
  abbrev pub Comes : List Entry → TracedState → ProbeState → Type 0
  Comes h s p = Holds k pid s p.opened × Unwritten h

  -- both are saved; both are put back
  abbrev pub BothSaved : List Entry → TracedState → ProbeState → Type 0
  BothSaved h s p = Holds k pid s p.opened × CodeSaved h p × StackSaved h p

  abbrev pub BothBack : List Entry → ProbeState → Type 0
  BothBack h p = CodeBack h p × StackBack h p

  -- what is so at a stage of a probe that was not refused
  unfoldable pub So : List Entry → TracedState → ProbeState → ProbeStage → Type 0
  So h s p (stage.Open Control) = (p.pid ≡ pid) × (p.opened ≡ nothing_open) × Unwritten h
  So h s p (stage.Open Status) = Comes h s p
  So h s p (stage.Open Lstatus) = Comes h s p
  So h s p (stage.Open Map) = Comes h s p
  So h s p (stage.Open AgentControl) = BothSaved h s p
  So h s p (stage.Open AgentStatus) = BothSaved h s p
  So h s p stage.ReadFirst = Comes h s p
  So h s p stage.Stop = Comes h s p
  So h s p stage.AwaitStop = Comes h s p
  So h s p stage.ReadStatus = Comes h s p
  So h s p stage.ReadMap = Comes h s p
  So h s p stage.SaveCode = Comes h s p
  So h s p stage.SaveStack = Holds k pid s p.opened × CodeSaved h p × Unwritten h
  So h s p (stage.Trace kind) = BothSaved h s p
  So h s p stage.MakeAgent = BothSaved h s p
  So h s p stage.PlantCode = BothSaved h s p
  So h s p (stage.Asking descriptor step) = BothSaved h s p
  So h s p stage.UntraceExits = BothSaved h s p
  So h s p stage.SetExit = BothSaved h s p
  So h s p stage.RunExit = BothSaved h s p
  So h s p stage.AwaitExit = BothSaved h s p
  So h s p stage.WriteCode = BothSaved h s p
  So h s p stage.WriteStack = Holds k pid s p.opened × CodeBack h p × StackSaved h p
  So h s p (stage.Retrace kind) = BothBack h p
  So h s p stage.Run = BothBack h p
  So h s p stage.Close = BothBack h p
  So h s p (stage.Restore kind) = ⊥
  So h s p stage.Release = ⊥

  -- ---- an entry later

  module _ (h : List Entry) (e : Entry) where
    pub saved-still : (at size : ℕ) (bytes : List ℕ) → IsSaved at size bytes h → IsSaved at size bytes (h ++ e ∷ [])
    saved-still at size bytes it = record {
      whole = it.whole;
      saved = record {
        before = it.saved.before;
        call = it.saved.call;
        reply = it.saved.reply;
        after = it.saved.after ++ e ∷ [];
        place = place-still h it.saved.before (call_entry k it.saved.call it.saved.reply) it.saved.after e
            it.saved.place;
        unwritten = it.saved.unwritten;
        reads = it.saved.reads;
        stood = it.saved.stood;
      };
    }

    pub back-still : (at size : ℕ) (bytes : List ℕ) → IsBack at size bytes h → IsBack at size bytes (h ++ e ∷ [])
    back-still at size bytes it = record {
      whole = it.whole;
      back = record {
        before = it.back.before;
        call = it.back.call;
        reply = it.back.reply;
        after = it.back.after ++ e ∷ [];
        place = place-still h it.back.before (call_entry k it.back.call it.back.reply) it.back.after e it.back.place;
        saved = it.back.saved;
        writes = it.back.writes;
        stand = it.back.stand;
      };
    }

    pub both-back : (p : ProbeState) → BothBack h p → BothBack (h ++ e ∷ []) p
    both-back p it =
        (back-still text_base code_size p.code it.0, back-still stack_base stack_size p.stack it.1)

    pub unwritten-still : WritesNoMemory k e → Unwritten h → Unwritten (h ++ e ∷ [])
    unwritten-still none so =
        All-append (WritesNoMemory k) h (e ∷ []) so
        (All-cons (WritesNoMemory k) e [] none (All-nil (WritesNoMemory k)))

    module _ (s t : TracedState) (p : ProbeState) (keeps : Holds k pid s p.opened → Holds k pid t p.opened) where
      pub both-still : BothSaved h s p → BothSaved (h ++ e ∷ []) t p
      both-still it = (
        keeps it.0,
        saved-still text_base code_size p.code it.1,
        saved-still stack_base stack_size p.stack it.2,
      )

      -- where the control file stays open, and nothing is written, so does all of it
      module _ (none : WritesNoMemory k e) where
        comes-still : Comes h s p → Comes (h ++ e ∷ []) t p
        comes-still so = (keeps so.0, unwritten-still none so.1)

        pub so-still : (now : ProbeStage) → So h s p now → So (h ++ e ∷ []) t p now
        unfolding So
        so-still (stage.Open Control) so = (so.0, so.1, unwritten-still none so.2)
        so-still (stage.Open Status) so = comes-still so
        so-still (stage.Open Lstatus) so = comes-still so
        so-still (stage.Open Map) so = comes-still so
        so-still (stage.Open AgentControl) so = both-still so
        so-still (stage.Open AgentStatus) so = both-still so
        so-still stage.ReadFirst so = comes-still so
        so-still stage.Stop so = comes-still so
        so-still stage.AwaitStop so = comes-still so
        so-still stage.ReadStatus so = comes-still so
        so-still stage.ReadMap so = comes-still so
        so-still stage.SaveCode so = comes-still so
        so-still stage.SaveStack so = (
          keeps so.0,
          saved-still text_base code_size p.code so.1,
          unwritten-still none so.2,
        )
        so-still (stage.Trace kind) so = both-still so
        so-still stage.MakeAgent so = both-still so
        so-still stage.PlantCode so = both-still so
        so-still (stage.Asking descriptor step) so = both-still so
        so-still stage.UntraceExits so = both-still so
        so-still stage.SetExit so = both-still so
        so-still stage.RunExit so = both-still so
        so-still stage.AwaitExit so = both-still so
        so-still stage.WriteCode so = both-still so
        so-still stage.WriteStack so = (
          keeps so.0,
          back-still text_base code_size p.code so.1,
          saved-still stack_base stack_size p.stack so.2,
        )
        so-still (stage.Retrace kind) so = both-back p so
        so-still stage.Run so = both-back p so
        so-still stage.Close so = both-back p so
        so-still (stage.Restore kind) so = so
        so-still stage.Release so = so

-- what others do leaves its control file open
pub others-hold : (n k pid : ℕ) (s : TracedState) (actor : Actor) (it : Act) (o : Opened)
    → IsLegalEntry n s (record { actor = actor; act = it }) → IsOther k actor it → Holds k pid s o
    → Holds k pid (after s (record { actor = actor; act = it })) o
others-hold n k pid s actor it o legal other holds = record {
  number = holds.number;
  at = holds.at;
  stands = others-keep holds.number (writer_of k pid) n s actor it legal other holds.stands;
}
