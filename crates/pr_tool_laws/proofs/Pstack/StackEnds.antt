use Rattle.pr_num.specs.Spaces.{Space}
use Rattle.std.proofs.Common.{◌≡◌, ℕ, true, List, Option, Some, None, IfSome, is_some, option_map, refl, sym, subst, ap, ◌∙◌}
use Rattle.std.proofs.lemmas.Bool.{false≢true}
use Rattle.pr_lawful.proofs.LawfulStates.HistoryLemmas.{history-state}
use Rattle.pr_lawful.proofs.Following.UseLemmas.{live-lawful}
use Rattle.pr_model.specs.Lawful.{IsLawful, IsLawfulSystem}
use Rattle.pr_model.specs.Legal.{IsLegal, state_after}
use Rattle.pr_model.specs.Records.{lstatus_of}
use Rattle.pr_model.specs.State.{TracedProcess, TracedState, TracedSystem}
use Rattle.pr_model.specs.declared.calls.Call.{Call}
use Rattle.pr_model.specs.declared.events.Entry.{Entry}
use Rattle.pr_model.specs.declared.tools.ToolKind.TheVariants.{Pflags, Pstack}
use Rattle.pr_num.specs.Programs.{Program}
use Rattle.pr_reached.proofs.StatesInRange.HistoryRanges.{history-range}
use Rattle.pr_reached.specs.ByteHistories.{HasBytes}
use Rattle.pr_reached.specs.InRange.{IsInRange}
use Rattle.pr_rec.specs.RecordBytes.{lstatus_bytes}
use Rattle.pr_tools.specs.Pstack.{pstack_text}
use Rattle.pr_tools.specs.Tools.{ToolState, has_ended, next_call_of, printed, text_of}
use Rattle.pr_tools.specs.declared.handles.Opened.{Opened}
use Rattle.pr_tools.specs.declared.stacks.CallFrame.{CallFrame}
use Rattle.pr_tools.specs.declared.steps.Step.{Step}
use Rattle.pr_tools.specs.declared.steps.Step.TheVariants as step
use Rattle.pr_tool_laws.proofs.Pstack.StackReads.{own-seen}
use Rattle.pr_tool_laws.proofs.Pstack.StackStages.{HasReadAll, IsGoing, So, StackStage, at_first, goes, has_control, has_read, has_status, refused}
use Rattle.pr_tool_laws.proofs.Pstack.StackSteps as steps
use Rattle.pr_tool_laws.proofs.Pstack.StackSteps.{Notes, no_notes, pstack_at, with_control, with_memory, with_status}
use Rattle.pr_tool_laws.proofs.Pstack.StackTexts.{stacks-shown}
use Rattle.pr_tool_laws.proofs.Pstack.StackWalks.{all_frames, walked-all}
use Rattle.pr_tool_laws.proofs.Stages.ToolLemmas.{still-going, text-printed}
use Rattle.pr_tool_laws.proofs.Records.WholeLemmas.{all-read, front-bytes, front-legal}
use Rattle.pr_tool_laws.specs.OneState.{AreLwpsRead, IsReadBack}
use Rattle.pr_tools.specs.SpaceStacks.{first_instruction}
use Rattle.pr_tool_laws.specs.Stacks.{ShowsOneStack, stacks_in, stacks_text}
use Rattle.pr_tool_laws.specs.ToolTexts.{reads_once}

-- What pstack prints in the end is the text of the stacks in the state that it read.

module _ (n k pid : ℕ) (first : TracedState) where
  -- ---- it has read all

  going-ended : (h : List Entry) (s : TracedState) (t : ToolState) → IsGoing n k pid first h s t → has_ended t ≡ true
      → ⊥
  unfolding So
  going-ended h s t g ended = of g.next g.is g.so
    where
      going : (p : Step) (d : Call) → t ≡ pstack_at pid (with_memory g.control g.status g.memory) p g.notes
          → next_call_of (pstack_at pid (with_memory g.control g.status g.memory) p g.notes) ≡ Some d → ⊥
      going p d is its = still-going t d (ap next_call_of is ∙ its) ended

      of : (p : Step) → t ≡ pstack_at pid (with_memory g.control g.status g.memory) p g.notes
          → So n k pid first h s.system g.notes p → ⊥
      of step.ReadFirst is so = going step.ReadFirst _ is (steps.look-call pid g.control g.status g.memory g.notes)
      of step.Stop is so = going step.Stop _ is (steps.stop-call pid g.control g.status g.memory g.notes)
      of step.AwaitStop is so = going step.AwaitStop _ is (steps.wait-call pid g.control g.status g.memory g.notes)
      of step.ReadFile is so = going step.ReadFile _ is (steps.status-call pid g.control g.status g.memory g.notes)
      of step.ReadText is so = going step.ReadText _ is (steps.text-call pid g.control g.status g.memory g.notes)
      of step.ReadFrame is so =
          going step.ReadFrame _ is (steps.frame-call pid g.control g.status g.memory g.notes so.next so.is)
      of _ is so = so

  pub ended-stage : (h : List Entry) (s : TracedState) (t : ToolState) → has_ended t ≡ true → t.refusal ≡ None
      → StackStage n k pid first h s t → HasReadAll n k pid first h t
  ended-stage h s t ended accepted (at_first same) =
      absurd (still-going t _ (ap next_call_of same ∙ steps.first-call pid) ended)
  ended-stage h s t ended accepted (has_control control is stands) =
      absurd (still-going t _ (ap next_call_of is ∙ steps.file-call pid (with_control control) no_notes) ended)
  ended-stage h s t ended accepted (has_status control status is stands_control stands_status) =
      absurd (still-going t _ (ap next_call_of is ∙ steps.memory-call pid (with_status control status) no_notes) ended)
  ended-stage h s t ended accepted (goes g) = absurd (going-ended h s t g ended)
  ended-stage h s t ended accepted (has_read all) = all
  ended-stage h s t ended accepted (refused was) = absurd (false≢true (sym (ap is_some accepted) ∙ was))

  -- ---- the text

  text-at : (opened : Opened) (p : Step) (notes : Notes) (programs : List Program)
      → text_of
      (pstack_at pid opened p notes) programs Pstack ≡ pstack_text pid notes.bytes notes.first notes.frames programs
  unfolding text_of
  text-at opened p notes programs = refl

  text-read : (h : List Entry) (t : ToolState) (programs : List Program) → has_ended t ≡ true → t.refusal ≡ None
      → (all : HasReadAll n k pid first h t)
      → AreLwpsRead all.seen.process
      → printed t programs ≡ pstack_text pid all.notes.bytes all.notes.first all.notes.frames programs
  text-read h t programs ended accepted all are =
      text-printed k Pstack pid first t programs ended accepted
      ∙ ap (λ (u : ToolState). text_of u programs u.kind) all.is ∙ text-at all.opened all.next all.notes programs

  pub shows : (h : List Entry) (t : ToolState) (programs : List Program) → IsLawful first → IsInRange first.system
      → HasBytes h → IsLegal n first h → has_ended t ≡ true → t.refusal ≡ None
      → HasReadAll n k pid first h t → ShowsOneStack k pid programs first h (printed t programs)
  unfolding stacks_in IsReadBack reads_once
  shows h t programs lawful ranged bytes legal ended accepted all =
      let seen = all.seen in
      let p : TracedProcess = seen.process in
      let legal_before : IsLegal n first seen.before =
      front-legal n first seen.before _ (subst (λ (g : List Entry). IsLegal n first g) seen.place legal) in
      let bytes_before : HasBytes seen.before = front-bytes seen.before _ (subst HasBytes seen.place bytes) in
      let at : TracedSystem = (state_after first seen.before).system in
      let system : IsLawfulSystem at = (history-state n first seen.before lawful legal_before).system in
      let range : IsInRange at = history-range n first seen.before lawful ranged bytes_before legal_before in
      let are : AreLwpsRead p =
      subst (λ (o : Option TracedProcess). IfSome o AreLwpsRead) seen.live
      (all-read pid at system range Pflags refl) in
      let rises = (live-lawful at pid p system seen.live).rising in
      let status : List ℕ = lstatus_bytes (lstatus_of p) in
      let text : p.borrower ≡ None → printed t programs ≡ stacks_text pid programs at p =
      λ own.
      let frames = walked-all (lstatus_of p) p.space all.notes.frames (all.read.frames own are) in
      text-read h t programs ended accepted all are
      ∙ ap (λ (b : List ℕ). pstack_text pid b all.notes.first all.notes.frames programs) (all.read.status are)
      ∙ ap (λ (i : Option (List ℕ)). pstack_text pid status i all.notes.frames programs) (all.read.instruction own)
      ∙ ap (λ (fs : List CallFrame). pstack_text pid status (first_instruction p.space) fs programs) frames
      ∙ ap (λ (x : Space). pstack_text pid status (first_instruction x) (all_frames x (lstatus_of p)) programs)
      (sym (own-seen at p own))
      ∙ stacks-shown pid at p programs are rises in
      record {
        before = seen.before;
        call = seen.call;
        reply = seen.reply;
        after = seen.after;
        place = seen.place;
        reads = seen.reads;
        stopped = seen.stopped;
        process = p;
        lives = seen.live;
        still = seen.still;
        shown = λ own.
            ap (option_map (stacks_text pid programs at)) seen.live ∙ ap (λ (x : List ℕ). Some x) (sym (text own));
      }
