use Rattle.std.proofs.Common.{◌≡◌, ◌++◌, ◌∷◌, ℕ, Some, None, List, [], true, refl, sym, ap, ◌∙◌, subst, take}
use Rattle.std.proofs.lemmas.Bool.{false≢true}
use Rattle.std.proofs.lemmas.Option.{same_Some}
use Rattle.pr_api.specs.Entries.{call_entry}
use Rattle.pr_model.specs.Calls.{Answer, answer_to, answered}
use Rattle.pr_model.specs.Legal.{state_after}
use Rattle.pr_model.specs.Records.{list_of}
use Rattle.pr_model.specs.Replies.{bytes_in}
use Rattle.pr_model.specs.State.{TracedState}
use Rattle.pr_model.specs.declared.calls.Call.{Call}
use Rattle.pr_model.specs.declared.calls.Call.TheVariants as call
use Rattle.pr_model.specs.declared.calls.Reply.TheVariants as reply
use Rattle.pr_model.specs.declared.events.Entry.{Entry}
use Rattle.pr_model.specs.declared.tools.ToolKind.{ToolKind}
use Rattle.pr_model.specs.declared.tools.ToolKind.TheVariants.{Ptree}
use Rattle.pr_num.specs.Programs.{Program}
use Rattle.pr_rec.specs.RecordBytes.{list_bytes}
use Rattle.pr_tools.specs.Handles.{nothing_open}
use Rattle.pr_tools.specs.Replies.{refusal_in}
use Rattle.pr_tools.specs.Steps.{after, after_in_ptree, first_step, record_room}
use Rattle.pr_tools.specs.Tools.{ToolState, accepted, advanced, call_of, fed, first_tool, has_ended, next_call_of, printed, text_of, with_next, with_record}
use Rattle.pr_tools.specs.declared.steps.Step.TheVariants as step
use Rattle.pr_tool_laws.proofs.Stages.KindLemmas.{fed-kind}
use Rattle.pr_tool_laws.proofs.Stages.StageLemmas.{same-answer}
use Rattle.pr_tool_laws.proofs.Stages.ToolLemmas.{HasRead, Showed, having_read, read-goes-on, read-still, showed-here, showed-still, still-going, text-printed}
use Rattle.pr_tool_laws.specs.Reads.{IsToolRead, bytes_shown}
use Rattle.pr_tools.specs.RecordTexts.{text_of_record}

-- The stages of the tools that open no file of a record: ptree makes one call; pstop and prun print nothing.

-- ---- ptree

module _ (k pid : ℕ) (first : TracedState) where
  pub data TreeStage (h : List Entry) (t : ToolState) : Type 0 where
    at_first : t ≡ first_tool Ptree pid → TreeStage h t
    has_read : HasRead k Ptree pid first h t → TreeStage h t

  pub others-tree : (h : List Entry) (e : Entry) (t : ToolState) → TreeStage h t → TreeStage (h ++ e ∷ []) t
  others-tree h e t (at_first same) = at_first same
  others-tree h e t (has_read has) = has_read (read-still k Ptree pid first h e t has)

  pub list-call : next_call_of (first_tool Ptree pid) ≡ Some call.List
  unfolding next_call_of call_of first_tool first_step
  list-call = refl

  pub list-fed : (bytes : List ℕ)
      → fed (first_tool Ptree pid) (reply.Bytes bytes) ≡ having_read Ptree pid nothing_open
      (take (record_room Ptree) bytes)
  unfolding fed refusal_in accepted advanced with_record with_next bytes_in first_tool first_step after after_in_ptree
  list-fed bytes = refl

  tree-shown : (s : TracedState)
      → bytes_shown Ptree pid s.system ≡ Some (take (record_room Ptree) (list_bytes (list_of s.system)))
  unfolding bytes_shown
  tree-shown s = refl

  list-read : (h : List Entry) (c : Call) (a : Answer) → next_call_of (first_tool Ptree pid) ≡ Some c
      → answer_to (state_after first h) k c ≡ Some a
      → HasRead k Ptree pid first (h ++ call_entry k c a.reply ∷ []) (fed (first_tool Ptree pid) a.reply)
  unfolding answer_to IsToolRead
  list-read h c a next given =
      let s = state_after first h in
      let bytes = list_bytes (list_of s.system) in
      let same : c ≡ call.List = same_Some _ _ (sym next ∙ list-call) in
      let answer = same-answer s k c call.List a (answered s (reply.Bytes bytes)) same given refl in
      let replies : a.reply ≡ reply.Bytes bytes = ap (λ (x : Answer). x.reply) (sym answer) in
      record {
        opened = nothing_open;
        bytes = take (record_room Ptree) bytes;
        is = ap (fed (first_tool Ptree pid)) replies ∙ list-fed bytes;
        showed = showed-here k Ptree pid first h c a.reply (take (record_room Ptree) bytes) same (tree-shown s);
      }

  pub called-tree : (h : List Entry) (t : ToolState) (c : Call) (a : Answer) → next_call_of t ≡ Some c
      → answer_to (state_after first h) k c ≡ Some a → TreeStage h t
      → TreeStage (h ++ call_entry k c a.reply ∷ []) (fed t a.reply)
  called-tree h t c a next given (at_first same) =
      let Q : ToolState → Type 0 =
      λ u. next_call_of u ≡ Some c → TreeStage (h ++ call_entry k c a.reply ∷ []) (fed u a.reply) in
      subst Q (sym same) (λ its. has_read (list-read h c a its given)) next
  called-tree h t c a next given (has_read has) =
      has_read (read-goes-on k Ptree pid first h (call_entry k c a.reply) t a.reply has)

  pub ended-tree : (h : List Entry) (t : ToolState) → has_ended t ≡ true → TreeStage h t → HasRead k Ptree pid first h t
  ended-tree h t ended (at_first same) = absurd (still-going t call.List (ap next_call_of same ∙ list-call) ended)
  ended-tree h t ended (has_read has) = has

-- ---- pstop and prun

-- a tool that shows nothing: it opens the control file first
pub record IsQuiet (kind : ToolKind) : Type 0 where
  pub starts : first_step kind ≡ step.OpenCtl
  pub shows : (pid : ℕ) (s : TracedState) → bytes_shown kind pid s.system ≡ Some []
  pub says : (t : ToolState) (programs : List Program) → text_of t programs kind ≡ []
  pub shows-nothing : (pid : ℕ) → text_of_record kind pid [] ≡ []
  pub calls : (k pid : ℕ) (s : TracedState) (c : Call) → IsToolRead kind k pid s c

module _ (k : ℕ) (kind : ToolKind) (pid : ℕ) (first : TracedState) (quiet : IsQuiet kind) where
  pub data QuietStage (h : List Entry) (t : ToolState) : Type 0 where
    at_first : t ≡ first_tool kind pid → QuietStage h t
    has_called : t.kind ≡ kind → Showed k kind pid first h [] → QuietStage h t

  pub others-quiet : (h : List Entry) (e : Entry) (t : ToolState) → QuietStage h t → QuietStage (h ++ e ∷ []) t
  others-quiet h e t (at_first same) = at_first same
  others-quiet h e t (has_called is showed) = has_called is (showed-still k kind pid first h e [] showed)

  pub called-quiet : (h : List Entry) (t : ToolState) (c : Call) (a : Answer) → QuietStage h t
      → QuietStage (h ++ call_entry k c a.reply ∷ []) (fed t a.reply)
  unfolding first_tool
  called-quiet h t c a (at_first same) =
      has_called (fed-kind t a.reply
      ∙ ap (λ (u : ToolState). u.kind) same)
      (showed-here k kind pid first h c a.reply [] (quiet.calls k pid (state_after first h) c)
      (quiet.shows pid (state_after first h)))
  called-quiet h t c a (has_called is showed) =
      has_called (fed-kind t a.reply ∙ is) (showed-still k kind pid first h (call_entry k c a.reply) [] showed)

  starting : (t : ToolState) → t ≡ first_tool kind pid → has_ended t ≡ true → ⊥
  unfolding has_ended next_call_of call_of first_tool
  starting t same ended = false≢true (sym (ap has_ended same ∙ rw (quiet.starts) refl) ∙ ended)

  -- it has made a call, and prints nothing
  pub record IsSilent (h : List Entry) (t : ToolState) (programs : List Program) : Type 0 where
    pub showed : Showed k kind pid first h []
    pub text : printed t programs ≡ text_of_record kind pid []

  pub ended-quiet : (h : List Entry) (t : ToolState) (programs : List Program) → has_ended t ≡ true → t.refusal ≡ None
      → QuietStage h t → IsSilent h t programs
  ended-quiet h t programs ended accepted (at_first same) = absurd (starting t same ended)
  ended-quiet h t programs ended accepted (has_called is showed) = record {
    showed = showed;
    text =
        text-printed k kind pid first t programs ended accepted ∙ ap (text_of t programs) is ∙ quiet.says t programs
        ∙ sym (quiet.shows-nothing pid);
  }
