use Rattle.std.proofs.Common.{◌≡◌, ◌++◌, ◌∷◌, ℕ, Some, None, IsSome, is_none, List, [], true, false, option_map, refl, sym, ap, ◌∙◌, subst}
use Rattle.std.proofs.lemmas.Bool.{false≢true}
use Rattle.std.proofs.lemmas.List.{append_assoc}
use Rattle.pr_api.specs.Entries.{call_entry}
use Rattle.pr_model.specs.Legal.{state_after}
use Rattle.pr_model.specs.State.{TracedState, TracedSystem}
use Rattle.pr_model.specs.declared.calls.Call.{Call}
use Rattle.pr_model.specs.declared.calls.Reply.{Reply}
use Rattle.pr_model.specs.declared.calls.Reply.TheVariants as reply
use Rattle.pr_model.specs.declared.events.Entry.{Entry}
use Rattle.pr_model.specs.declared.tools.ToolKind.{ToolKind}
use Rattle.pr_model.specs.declared.tools.ToolKind.TheVariants.{Pflags, Psig, Pstack, Pmap, Pfiles, Pstop, Prun, Pwait, Ptree}
use Rattle.pr_num.specs.Programs.{Program}
use Rattle.pr_num.specs.declared.errnos.Errno.{Errno}
use Rattle.pr_tools.specs.Handles.{without_last}
use Rattle.pr_tools.specs.Replies.{is_passed_over, refusal_in}
use Rattle.pr_tools.specs.Steps.{way_out}
use Rattle.pr_tools.specs.Tools.{ToolState, accepted, call_of, fed, first_tool, has_ended, next_call_of, printed, refused, text_of, with_closed}
use Rattle.pr_tools.specs.declared.handles.Opened.{Opened}
use Rattle.pr_tools.specs.declared.steps.Step.{Step}
use Rattle.pr_tools.specs.declared.steps.Step.TheVariants as step
use Rattle.pr_tool_laws.specs.OneState.{IsOfOneState, IsReadBack}
use Rattle.pr_tool_laws.specs.Reads.{IsToolRead, bytes_shown, text_read}
use Rattle.pr_tools.specs.RecordTexts.{text_of_record}
use Rattle.pr_tool_laws.specs.ToolTexts.{reads_once, tool_text}

-- The last stages of a tool: it has read, or it was refused, and closes what it opened.

-- a tool that has read, and closes
abbrev pub having_read : ToolKind → ℕ → Opened → List ℕ → ToolState
having_read kind pid opened bytes = record (first_tool kind pid) { opened = opened; step = step.Close; bytes = bytes }

-- who has a next call has not finished
pub still-going : (t : ToolState) (c : Call) → next_call_of t ≡ Some c → has_ended t ≡ true → ⊥
unfolding has_ended
still-going t c next ended = absurd (false≢true (sym (ap is_none next) ∙ ended))

-- who has finished is at its closes
pub ended-closes : (t : ToolState) → has_ended t ≡ true → t.step ≡ step.Close
unfolding next_call_of call_of
ended-closes t ended = by t.step refl
  where
    by : (p : Step) → t.step ≡ p → p ≡ step.Close
    by step.Close at = refl
    by step.OpenCtl at = absurd (still-going t _ (ap (call_of t) at) ended)
    by step.OpenFile at = absurd (still-going t _ (ap (call_of t) at) ended)
    by step.OpenMemory at = absurd (still-going t _ (ap (call_of t) at) ended)
    by step.ReadFirst at = absurd (still-going t _ (ap (call_of t) at) ended)
    by step.Stop at = absurd (still-going t _ (ap (call_of t) at) ended)
    by step.AwaitStop at = absurd (still-going t _ (ap (call_of t) at) ended)
    by step.Direct at = absurd (still-going t _ (ap (call_of t) at) ended)
    by step.AwaitEnd at = absurd (still-going t _ (ap (call_of t) at) ended)
    by step.ReadFile at = absurd (still-going t _ (ap (call_of t) at) ended)
    by step.ReadText at = absurd (still-going t _ (ap (call_of t) at) ended)
    by step.ReadFrame at = absurd (still-going t _ (ap (call_of t) at) ended)
    by step.Run at = absurd (still-going t _ (ap (call_of t) at) ended)
    by step.List at = absurd (still-going t _ (ap (call_of t) at) ended)
    by step.Release at = absurd (still-going t _ (ap (call_of t) at) ended)

-- a tool that was refused, and closes
pub record WasRefused (t : ToolState) : Type 0 where
  pub closing : t.step ≡ step.Close
  pub refusal : IsSome t.refusal

-- no reply refuses a close
pub close-passes : (r : Reply) → refusal_in step.Close r ≡ None
unfolding refusal_in is_passed_over
close-passes (reply.Fail e) = refl
close-passes _ = refl

pub closing-fed : (t : ToolState) (r : Reply) → t.step ≡ step.Close → fed t r ≡ with_closed t
unfolding fed accepted
closing-fed t r closing = rw (closing, close-passes r) refl

-- a refusal that is not passed over, of a tool that has nothing to set right
pub refused-fed : (t : ToolState) (e : Errno) → is_passed_over t.step e ≡ false → way_out t.kind t.step ≡ step.Close
    → WasRefused (fed t (reply.Fail e))
unfolding fed refusal_in refused
refused-fed t e counts out = rw counts (record { closing = out; refusal = refl })

pub refused-closes : (t : ToolState) (r : Reply) → WasRefused t → WasRefused (fed t r)
unfolding with_closed
refused-closes t r was =
    subst WasRefused (sym (closing-fed t r was.closing)) (record { closing = was.closing; refusal = was.refusal })

pub read-closes : (kind : ToolKind) (pid : ℕ) (opened : Opened) (bytes : List ℕ) (r : Reply)
    → fed (having_read kind pid opened bytes) r ≡ having_read kind pid (without_last opened) bytes
unfolding with_closed
read-closes kind pid opened bytes r = closing-fed (having_read kind pid opened bytes) r refl

-- what stands at a place of a history stands there when the history is an entry longer
pub place-still : (h before : List Entry) (d : Entry) (rest : List Entry) (e : Entry) → h ≡ before ++ d ∷ rest
    → h ++ e ∷ [] ≡ before ++ d ∷ (rest ++ e ∷ [])
place-still h before d rest e place =
    ap (λ (g : List Entry). g ++ e ∷ []) place ∙ append_assoc before (d ∷ rest) (e ∷ [])

module _ (k : ℕ) (kind : ToolKind) (pid : ℕ) (first : TracedState) where
  -- these bytes were read at a place in the history, by the read of this tool
  pub record Showed (h : List Entry) (bytes : List ℕ) : Type 0 where
    pub before : List Entry
    pub call : Call
    pub reply : Reply
    pub after : List Entry
    pub place : h ≡ before ++ call_entry k call reply ∷ after
    pub reads : IsToolRead kind k pid (state_after first before) call
    pub shows : bytes_shown kind pid (state_after first before).system ≡ Some bytes

  unfoldable pub showed-here : (h : List Entry) (c : Call) (r : Reply) (bytes : List ℕ)
      → IsToolRead kind k pid (state_after first h) c → bytes_shown kind pid (state_after first h).system ≡ Some bytes
      → Showed (h ++ call_entry k c r ∷ []) bytes
  showed-here h c r bytes reads shows = record {
    before = h;
    call = c;
    reply = r;
    after = [];
    place = refl;
    reads = reads;
    shows = shows;
  }

  unfoldable pub showed-still : (h : List Entry) (e : Entry) (bytes : List ℕ) → Showed h bytes
      → Showed (h ++ e ∷ []) bytes
  showed-still h e bytes showed = record {
    before = showed.before;
    call = showed.call;
    reply = showed.reply;
    after = showed.after ++ e ∷ [];
    place = place-still h showed.before (call_entry k showed.call showed.reply) showed.after e showed.place;
    reads = showed.reads;
    shows = showed.shows;
  }

  pub record HasRead (h : List Entry) (t : ToolState) : Type 0 where
    pub opened : Opened
    pub bytes : List ℕ
    pub is : t ≡ having_read kind pid opened bytes
    pub showed : Showed h bytes

  unfoldable pub read-still : (h : List Entry) (e : Entry) (t : ToolState) → HasRead h t → HasRead (h ++ e ∷ []) t
  read-still h e t has = record {
    opened = has.opened;
    bytes = has.bytes;
    is = has.is;
    showed = showed-still h e has.bytes has.showed;
  }

  unfoldable pub read-goes-on : (h : List Entry) (e : Entry) (t : ToolState) (r : Reply) → HasRead h t
      → HasRead (h ++ e ∷ []) (fed t r)
  read-goes-on h e t r has = record {
    opened = without_last has.opened;
    bytes = has.bytes;
    is = ap (λ (u : ToolState). fed u r) has.is ∙ read-closes kind pid has.opened has.bytes r;
    showed = showed-still h e has.bytes has.showed;
  }

  -- ---- the text in the end

  text-made : (opened : Opened) (bytes : List ℕ) (programs : List Program) → reads_once kind ≡ true
      → text_of (having_read kind pid opened bytes) programs kind ≡ text_of_record kind pid bytes
  unfolding text_of_record text_of reads_once first_tool
  text-made opened bytes programs once = of kind once
    where
      of : (other : ToolKind) → reads_once other ≡ true
          → text_of (having_read kind pid opened bytes) programs other ≡ text_of_record other pid bytes
      of Pflags once = refl
      of Psig once = refl
      of Pstack once = absurd (cc)
      of Pmap once = refl
      of Pfiles once = refl
      of Pstop once = refl
      of Prun once = refl
      of Pwait once = refl
      of Ptree once = refl

  pub text-printed : (t : ToolState) (programs : List Program) → has_ended t ≡ true → t.refusal ≡ None
      → printed t programs ≡ text_of t programs t.kind
  unfolding printed
  text-printed t programs ended accepted = rw (ended, accepted) refl

  pub text-read : (h : List Entry) (t : ToolState) (programs : List Program) (once : reads_once kind ≡ true)
      (has : HasRead h t) → has_ended t ≡ true → t.refusal ≡ None
      → printed t programs ≡ text_of_record kind pid has.bytes
  unfolding first_tool
  text-read h t programs once has ended accepted =
      text-printed t programs ended accepted ∙ ap (λ (u : ToolState). text_of u programs u.kind) has.is
      ∙ text-made has.opened has.bytes programs once

  -- the text that is made of what was read at a place; and what is read back is given
  unfoldable pub of-one-state :
      ((s : TracedSystem) → IsReadBack kind pid s → text_read kind pid s ≡ tool_text kind pid s)
      → (h : List Entry) (text bytes : List ℕ) → text ≡ text_of_record kind pid bytes → Showed h bytes
      → IsOfOneState k kind pid first h text
  unfolding text_read
  of-one-state back h text bytes made showed =
      let at = (state_after first showed.before).system in
      let read : text_read kind pid at ≡ Some text =
      ap (option_map (text_of_record kind pid)) showed.shows ∙ ap (λ (x : List ℕ). Some x) (sym made) in
      record {
        before = showed.before;
        call = showed.call;
        reply = showed.reply;
        after = showed.after;
        place = showed.place;
        reads = showed.reads;
        read = read;
        shown = λ good. sym (back at good) ∙ read;
      }
