use Rattle.std.proofs.Common.{◌≡◌, ◌++◌, ◌∷◌, ℕ, Some, None, List, [], true, refl, sym, subst, slice_get}
use Rattle.pr_api.specs.Entries.{call_entry}
use Rattle.pr_lawful.proofs.LawfulStates.CallLemmas.{call-state}
use Rattle.pr_model.proofs.HistoryLemmas.{state_after-push}
use Rattle.pr_model.specs.Lawful.{IsLawful}
use Rattle.pr_model.specs.Calls.{Answer, answer_to}
use Rattle.pr_model.specs.Legal.{IsLegalEntry, state_after}
use Rattle.pr_model.specs.State.{TracedProcess, TracedState}
use Rattle.pr_model.specs.declared.calls.Call.{Call}
use Rattle.pr_model.specs.declared.events.Act.{Act}
use Rattle.pr_model.specs.declared.events.Actor.{Actor}
use Rattle.pr_model.specs.declared.events.Entry.{Entry}
use Rattle.pr_model.specs.declared.tools.ToolKind.{ToolKind}
use Rattle.pr_model.specs.declared.tools.ToolKind.TheVariants.{Pstop, Prun}
use Rattle.pr_tools.specs.Calls.{direct_bytes, run_bytes}
use Rattle.pr_tools.specs.Handles.{handle_at, nothing_open, with_handle}
use Rattle.pr_tools.specs.Replies.{is_passed_over, refusal_in}
use Rattle.pr_tools.specs.Steps.{after as step_after, after_in_prun, after_in_pstop, ctl_mode_of, first_step}
use Rattle.pr_tools.specs.Tools.{ToolState, accepted, advanced, call_of, fed, first_tool, has_ended, next_call_of, with_next, with_run_next}
use Rattle.pr_tools.specs.declared.steps.Step.{Step}
use Rattle.pr_tools.specs.declared.steps.Step.TheVariants as step
use Rattle.pr_model.specs.Replies.{opened_in}
use Rattle.pr_world.specs.ControllerStates.{ControllerState, Tool}
use Rattle.pr_world.specs.Protocol.{controllers_at}
use Rattle.pr_tool_laws.specs.Runs.{IsRunOf}
use Rattle.pr_tool_laws.proofs.Stages.LawLemmas.{tool-keeps}
use Rattle.pr_tool_laws.proofs.Sending.SentEffects.{Does, directs, runs}
use Rattle.pr_tool_laws.proofs.Sending.SentStages.{IsSender, SentStage, called-stage, ended-stage, first-stage, others-stage}
use Rattle.pr_tool_laws.proofs.Pstack.StackLaw.{entry-lawful}
use Rattle.pr_tool_laws.proofs.Pstack.StackSteps.{refused-now}
use Rattle.pr_tool_laws.proofs.Stages.StageLemmas.{state-called}
use Rattle.pr_tool_laws.proofs.OwnFiles.StandingLemmas.{IsOther}
use Rattle.pr_tool_laws.specs.SentMessages.{HasActed, IsDirected, IsSetGoing, RunsItsProcess, StopsItsProcess}

-- pstop directs its process to stop, and prun runs it.

-- ---- how each goes on

pstop-sends : IsSender Pstop step.Direct direct_bytes
unfolding next_call_of call_of first_tool first_step ctl_mode_of handle_at with_handle nothing_open fed refusal_in
    accepted advanced with_next step_after after_in_pstop opened_in is_passed_over
pstop-sends = record {
  opens = λ pid. refl;
  opened = λ pid number. refl;
  unopened = λ pid e. refused-now (first_tool Pstop pid) e refl;
  sends = λ pid number. refl;
  counts = λ e. refl;
  sent = λ pid number used. refl;
}

prun-sends : IsSender Prun step.Run run_bytes
unfolding next_call_of call_of first_tool first_step ctl_mode_of handle_at with_handle nothing_open fed refusal_in
    accepted advanced with_next with_run_next step_after after_in_prun opened_in is_passed_over
prun-sends = record {
  opens = λ pid. refl;
  opened = λ pid number. refl;
  unopened = λ pid e. refused-now (first_tool Prun pid) e refl;
  sends = λ pid number. refl;
  counts = λ e. refl;
  sent = λ pid number used. refl;
}

-- ---- along a history

module _ (n k : ℕ) (kind : ToolKind) (pid : ℕ) (send : Step) (bytes : List ℕ)
    (Becomes : TracedProcess → TracedProcess → Type 0) (sender : IsSender kind send bytes) (does : Does bytes Becomes)
    (first : TracedState) where
  abbrev Stage : List Entry → TracedState → ToolState → Type 0
  Stage h s t = SentStage n k kind pid send bytes Becomes sender does first h s t

  -- the tool at its stage, in a lawful state
  abbrev IsSentKept : List Entry → ToolState → Type 0
  IsSentKept h t = IsLawful (state_after first h) × Stage h (state_after first h) t

  others-kept : (h : List Entry) (t : ToolState) (actor : Actor) (it : Act)
      → IsLegalEntry n (state_after first h) (record { actor = actor; act = it }) → IsOther k actor it
      → IsSentKept h t → IsSentKept (h ++ (record { actor = actor; act = it }) ∷ []) t
  others-kept h t actor it legal other kept =
      let e : Entry = record { actor = actor; act = it } in
      let lawful = entry-lawful n (state_after first h) e kept.0 legal in
      let stage =
      others-stage n k kind pid send bytes Becomes sender does first h (state_after first h) actor it legal other t
      kept.1 in
      subst (λ (s : TracedState). IsLawful s × Stage (h ++ e ∷ []) s t) (sym (state_after-push first h e))
      (lawful, stage)

  calls-kept : (h : List Entry) (t : ToolState) (c : Call) (a : Answer) → next_call_of t ≡ Some c
      → answer_to (state_after first h) k c ≡ Some a → IsSentKept h t
      → IsSentKept (h ++ call_entry k c a.reply ∷ []) (fed t a.reply)
  calls-kept h t c a next given kept =
      let lawful = call-state (state_after first h) kept.0 k c a given in
      let stage = called-stage n k kind pid send bytes Becomes sender does first h c a kept.0 given t next kept.1 in
      subst (λ (s : TracedState). IsLawful s × Stage (h ++ call_entry k c a.reply ∷ []) s (fed t a.reply))
      (sym (state-called first h k c a given)) (lawful, stage)

  has-acted : (controllers : List ControllerState) (h : List Entry) (t : ToolState) → IsLawful first
      → IsRunOf n k (Tool (first_tool kind pid)) controllers first h
      → slice_get (controllers_at controllers h) k ≡ Some (Tool t) → has_ended t ≡ true → t.refusal ≡ None
      → HasActed k pid bytes Becomes first h
  has-acted controllers h t lawful run ends ended accepted =
      let stage = first-stage n k kind pid send bytes Becomes sender does first first in
      let kept =
      tool-keeps n k first IsSentKept others-kept calls-kept controllers h (first_tool kind pid) t run ends
      (lawful, stage) in
      ended-stage n k kind pid send bytes Becomes sender does first h t ended accepted kept.1

-- ---- the tools

pub pstop-stops : (controllers : List ControllerState) (n k pid : ℕ) (s : TracedState) (h : List Entry) (t : ToolState)
    → IsLawful s → IsRunOf n k (Tool (first_tool Pstop pid)) controllers s h
    → slice_get (controllers_at controllers h) k ≡ Some (Tool t) → has_ended t ≡ true → t.refusal ≡ None
    → StopsItsProcess k pid s h
pstop-stops controllers n k pid s h t =
    has-acted n k Pstop pid step.Direct direct_bytes IsDirected pstop-sends directs s controllers h t

pub prun-runs : (controllers : List ControllerState) (n k pid : ℕ) (s : TracedState) (h : List Entry) (t : ToolState)
    → IsLawful s → IsRunOf n k (Tool (first_tool Prun pid)) controllers s h
    → slice_get (controllers_at controllers h) k ≡ Some (Tool t) → has_ended t ≡ true → t.refusal ≡ None
    → RunsItsProcess k pid s h
prun-runs controllers n k pid s h t =
    has-acted n k Prun pid step.Run run_bytes IsSetGoing prun-sends runs s controllers h t
