use Rattle.std.proofs.Common.{◌≡◌, ◌∷◌, ◌++◌, ◌∙◌, ℕ, Bool, true, false, List, [], Some, None, refl, sym, subst, ap, slice_get, take}
use Rattle.std.proofs.lemmas.Bool.{false≢true}
use Rattle.std.proofs.lemmas.Option.{none-some, same_Some}
use Rattle.pr_api.specs.Entries.{call_entry}
use Rattle.pr_model.proofs.HistoryLemmas.{state_after-push}
use Rattle.pr_model.specs.Calls.{Answer, answer_to, answered}
use Rattle.pr_model.specs.Legal.{IsLegalEntry, state_after}
use Rattle.pr_model.specs.Records.{list_of}
use Rattle.pr_model.specs.State.{TracedState}
use Rattle.pr_model.specs.declared.calls.Call.{Call}
use Rattle.pr_model.specs.declared.calls.Call.TheVariants as call
use Rattle.pr_model.specs.declared.calls.Reply.{Reply}
use Rattle.pr_model.specs.declared.calls.Reply.TheVariants as reply
use Rattle.pr_model.specs.declared.events.Act.{Act}
use Rattle.pr_model.specs.declared.events.Actor.{Actor}
use Rattle.pr_model.specs.declared.events.Entry.{Entry}
use Rattle.pr_model.specs.declared.tools.ToolKind.{ToolKind}
use Rattle.pr_model.specs.declared.tools.ToolKind.TheVariants.{Pflags, Psig, Pmap, Pfiles, Pwait, Ptree}
use Rattle.pr_rec.specs.RecordBytes.{list_bytes}
use Rattle.pr_tools.specs.Handles.{nothing_open}
use Rattle.pr_tools.specs.Steps.{after as step_after, after_in_pwait, after_in_reader, file_of, record_room}
use Rattle.pr_tools.specs.Tools.{ToolState, fed, first_tool, has_ended, next_call_of}
use Rattle.pr_world.specs.ControllerStates.{ControllerState, Tool}
use Rattle.pr_world.specs.Protocol.{controllers_at}
use Rattle.pr_tool_laws.proofs.OwnFiles.StandingLemmas.{IsOther}
use Rattle.pr_tool_laws.proofs.Sending.SentStages.{exchange, others-made, own-made}
use Rattle.pr_tool_laws.proofs.Stages.LawLemmas.{pfiles-reads, pflags-reads, pmap-reads, psig-reads, pwait-reads, tool-keeps}
use Rattle.pr_tool_laws.proofs.Stages.OtherStages.{list-call, list-fed}
use Rattle.pr_tool_laws.proofs.Stages.StageLemmas.{same-answer, state-called}
use Rattle.pr_tool_laws.proofs.Stages.ToolLemmas.{having_read, still-going}
use Rattle.pr_tool_laws.proofs.ToolCalls.OnceStages.{HasClosed, IsOnce, OnceStage, called-stage, ended-stage, first-stage, others-stage, over-call}
use Rattle.pr_tool_laws.specs.ReadOnce.{AwaitsAndReadsOnce, ListsOnce, ReadsFileOnce, ReadsOnce}
use Rattle.pr_tool_laws.specs.Runs.{IsRunOf}
use Rattle.pr_tool_laws.specs.ToolHandles.{only_reads}
use Rattle.pr_truss_laws.specs.Exchanges.{exchanges}

-- A tool that only reads has read once, when it has finished and was not refused.

-- ---- the tools that open a file

module _ (n k : ℕ) (kind : ToolKind) (pid : ℕ) (waits : Bool) (once : IsOnce kind waits) (first : TracedState) where
  abbrev Stage : List Entry → TracedState → ToolState → Type 0
  Stage h s t = OnceStage n k kind pid waits once first h s t

  abbrev IsOnceKept : List Entry → ToolState → Type 0
  IsOnceKept h t = Stage h (state_after first h) t

  others-kept : (h : List Entry) (t : ToolState) (actor : Actor) (it : Act)
      → IsLegalEntry n (state_after first h) (record { actor = actor; act = it }) → IsOther k actor it
      → IsOnceKept h t → IsOnceKept (h ++ (record { actor = actor; act = it }) ∷ []) t
  others-kept h t actor it legal other kept =
      let e : Entry = record { actor = actor; act = it } in
      subst (λ (s : TracedState). Stage (h ++ e ∷ []) s t) (sym (state_after-push first h e))
      (others-stage n k kind pid waits once first h (state_after first h) actor it legal other t kept)

  calls-kept : (h : List Entry) (t : ToolState) (c : Call) (a : Answer) → next_call_of t ≡ Some c
      → answer_to (state_after first h) k c ≡ Some a → IsOnceKept h t
      → IsOnceKept (h ++ call_entry k c a.reply ∷ []) (fed t a.reply)
  calls-kept h t c a next given kept =
      subst (λ (s : TracedState). Stage (h ++ call_entry k c a.reply ∷ []) s (fed t a.reply))
      (sym (state-called first h k c a given))
      (called-stage n k kind pid waits once first h c a given t next kept)

  closed-law : (controllers : List ControllerState) (h : List Entry) (t : ToolState)
      → IsRunOf n k (Tool (first_tool kind pid)) controllers first h
      → slice_get (controllers_at controllers h) k ≡ Some (Tool t) → has_ended t ≡ true → t.refusal ≡ None
      → HasClosed n k kind pid waits once first h t
  closed-law controllers h t run ends ended accepted =
      ended-stage n k kind pid waits once first h t ended accepted
      (tool-keeps n k first IsOnceKept others-kept calls-kept controllers h (first_tool kind pid) t run ends
      (first-stage n k kind pid waits once first first))

-- how each goes on
pflags-once : IsOnce Pflags false
unfolding step_after after_in_reader
pflags-once = record { reader = pflags-reads; goes = refl; reads_then = λ is. absurd (false≢true is) }

psig-once : IsOnce Psig false
unfolding step_after after_in_reader
psig-once = record { reader = psig-reads; goes = refl; reads_then = λ is. absurd (false≢true is) }

pmap-once : IsOnce Pmap false
unfolding step_after after_in_reader
pmap-once = record { reader = pmap-reads; goes = refl; reads_then = λ is. absurd (false≢true is) }

pfiles-once : IsOnce Pfiles false
unfolding step_after after_in_reader
pfiles-once = record { reader = pfiles-reads; goes = refl; reads_then = λ is. absurd (false≢true is) }

pwait-once : IsOnce Pwait true
unfolding step_after after_in_pwait
pwait-once = record { reader = pwait-reads; goes = refl; reads_then = λ is. refl }

-- ---- ptree

module _ (n k pid : ℕ) (first : TracedState) where
  data ListStage (h : List Entry) (t : ToolState) : Type 0 where
    begins : t ≡ first_tool Ptree pid → exchanges k h ≡ [] → ListStage h t
    has_listed : (bytes noted : List ℕ) → t ≡ having_read Ptree pid nothing_open noted
        → exchanges k h ≡ exchange call.List (reply.Bytes bytes) ∷ [] → ListStage h t

  others-listed : (h : List Entry) (t : ToolState) (actor : Actor) (it : Act)
      → IsLegalEntry n (state_after first h) (record { actor = actor; act = it }) → IsOther k actor it
      → ListStage h t → ListStage (h ++ (record { actor = actor; act = it }) ∷ []) t
  others-listed h t actor it legal other (begins is made) = begins is (others-made k h actor it [] other made)
  others-listed h t actor it legal other (has_listed bytes noted is made) =
      has_listed bytes noted is
      (others-made k h actor it (exchange call.List (reply.Bytes bytes) ∷ []) other made)

  lists : (h : List Entry) (c : Call) (a : Answer) → answer_to (state_after first h) k c ≡ Some a
      → exchanges k h ≡ [] → next_call_of (first_tool Ptree pid) ≡ Some c
      → ListStage (h ++ call_entry k c a.reply ∷ []) (fed (first_tool Ptree pid) a.reply)
  unfolding answer_to
  lists h c a given made next =
      let bytes : List ℕ = list_bytes (list_of (state_after first h).system) in
      let same : c ≡ call.List = same_Some _ _ (sym next ∙ list-call k pid first) in
      let answer =
      same-answer (state_after first h) k c call.List a (answered (state_after first h) (reply.Bytes bytes)) same given
      refl in
      let replies : a.reply ≡ reply.Bytes bytes = ap (λ (x : Answer). x.reply) (sym answer) in
      has_listed bytes (take (record_room Ptree) bytes)
      (ap (fed (first_tool Ptree pid)) replies ∙ list-fed k pid first bytes)
      (own-made k h c a.reply [] made
      ∙ ap (λ (x : Call). exchange x a.reply ∷ []) same
      ∙ ap (λ (v : Reply). exchange call.List v ∷ []) replies)

  calls-listed : (h : List Entry) (t : ToolState) (c : Call) (a : Answer) → next_call_of t ≡ Some c
      → answer_to (state_after first h) k c ≡ Some a → ListStage h t
      → ListStage (h ++ call_entry k c a.reply ∷ []) (fed t a.reply)
  calls-listed h t c a next given (begins is made) =
      let Q : ToolState → Type 0 =
      λ u. next_call_of u ≡ Some c → ListStage (h ++ call_entry k c a.reply ∷ []) (fed u a.reply) in
      subst Q (sym is) (lists h c a given made) next
  calls-listed h t c a next given (has_listed bytes noted is made) =
      absurd (none-some c (sym (over-call Ptree pid noted) ∙ ap next_call_of (sym is) ∙ next))

  ended-listed : (h : List Entry) (t : ToolState) → has_ended t ≡ true → ListStage h t → ListsOnce k h
  ended-listed h t ended (begins is made) =
      absurd (still-going t call.List (ap next_call_of is ∙ list-call k pid first) ended)
  ended-listed h t ended (has_listed bytes noted is made) = record { bytes = bytes; calls = made }

  tree-law : (controllers : List ControllerState) (h : List Entry) (t : ToolState)
      → IsRunOf n k (Tool (first_tool Ptree pid)) controllers first h
      → slice_get (controllers_at controllers h) k ≡ Some (Tool t) → has_ended t ≡ true → ListsOnce k h
  unfolding exchanges
  tree-law controllers h t run ends ended =
      ended-listed h t ended
      (tool-keeps n k first ListStage others-listed calls-listed controllers h (first_tool Ptree pid) t run ends
      (begins refl refl))

-- ---- the law

module _ (n k pid : ℕ) (first : TracedState) (h : List Entry) (t : ToolState) where
  file-once : (kind : ToolKind) (once : IsOnce kind false) → HasClosed n k kind pid false once first h t
      → ReadsFileOnce k pid (file_of kind) h
  file-once kind once it = record { handle = it.number; bytes = it.bytes; calls = it.made }

  wait-once : (kind : ToolKind) (once : IsOnce kind true) → HasClosed n k kind pid true once first h t
      → AwaitsAndReadsOnce k pid (file_of kind) h
  wait-once kind once it = record { handle = it.number; bytes = it.bytes; calls = it.made }

  kind-once : (kind : ToolKind) → only_reads kind ≡ true → (controllers : List ControllerState)
      → IsRunOf n k (Tool (first_tool kind pid)) controllers first h
      → slice_get (controllers_at controllers h) k ≡ Some (Tool t) → has_ended t ≡ true → t.refusal ≡ None
      → ReadsOnce kind k pid h
  unfolding only_reads ReadsOnce file_of
  kind-once Pflags only cs run ends ended accepted =
      file-once Pflags pflags-once
      (closed-law n k Pflags pid false pflags-once first cs h t run ends ended accepted)
  kind-once Psig only cs run ends ended accepted =
      file-once Psig psig-once (closed-law n k Psig pid false psig-once first cs h t run ends ended accepted)
  kind-once Pmap only cs run ends ended accepted =
      file-once Pmap pmap-once (closed-law n k Pmap pid false pmap-once first cs h t run ends ended accepted)
  kind-once Pfiles only cs run ends ended accepted =
      file-once Pfiles pfiles-once
      (closed-law n k Pfiles pid false pfiles-once first cs h t run ends ended accepted)
  kind-once Pwait only cs run ends ended accepted =
      wait-once Pwait pwait-once (closed-law n k Pwait pid true pwait-once first cs h t run ends ended accepted)
  kind-once Ptree only cs run ends ended accepted = tree-law n k pid first cs h t run ends ended
  kind-once _ only cs run ends ended accepted = absurd (false≢true only)

pub tool-reads-once : (controllers : List ControllerState) (n k : ℕ) (kind : ToolKind) (pid : ℕ) (s : TracedState)
    (h : List Entry) (t : ToolState) → only_reads kind ≡ true
    → IsRunOf n k (Tool (first_tool kind pid)) controllers s h
    → slice_get (controllers_at controllers h) k ≡ Some (Tool t) → has_ended t ≡ true → t.refusal ≡ None
    → ReadsOnce kind k pid h
tool-reads-once controllers n k kind pid s h t only run ends ended accepted =
    kind-once n k pid s h t kind only controllers run ends ended accepted
