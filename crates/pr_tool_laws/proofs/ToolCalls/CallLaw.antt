use Rattle.std.proofs.Common.{◌≡◌, ◌≢◌, ◌⊎◌, ◌∷◌, ◌++◌, ◌∙◌, ℕ, Bool, true, cond, List, [], Some, length, refl, sym, subst, ap, inl, inr, slice_get}
use Rattle.std.proofs.lemmas.Bool.{cases_eq, false≢true}
use Rattle.pr_api.specs.Entries.{call_entry}
use Rattle.pr_model.proofs.HistoryLemmas.{state_after-push}
use Rattle.pr_model.specs.Calls.{Answer, answer_to}
use Rattle.pr_model.specs.Legal.{IsLegalEntry, after, state_after}
use Rattle.pr_model.specs.State.{TracedState}
use Rattle.pr_model.specs.ToolNames.{tool_name}
use Rattle.pr_model.specs.declared.calls.Call.{Call}
use Rattle.pr_model.specs.declared.calls.Reply.{Reply}
use Rattle.pr_model.specs.declared.events.Act.{Act}
use Rattle.pr_model.specs.declared.events.Act.TheVariants as act
use Rattle.pr_model.specs.declared.events.Actor.{Actor}
use Rattle.pr_model.specs.declared.events.Actor.TheVariants.{Controller}
use Rattle.pr_model.specs.declared.events.Entry.{Entry}
use Rattle.pr_model.specs.declared.tools.ToolKind.{ToolKind}
use Rattle.pr_num.specs.Programs.{Program}
use Rattle.pr_num.specs.declared.errnos.Errno.{Errno}
use Rattle.pr_tools.specs.Handles.{most_open}
use Rattle.pr_tools.specs.Refusals.{refusal_line}
use Rattle.pr_tools.specs.Tools.{ToolState, fed, first_tool, has_ended, next_call_of, printed, report}
use Rattle.pr_world.specs.ControllerStates.{ControllerState, Tool}
use Rattle.pr_world.specs.Controllers.{after_reply, with_fed}
use Rattle.pr_world.specs.Protocol.{controllers_after, controllers_at}
use Rattle.pr_tool_laws.proofs.ToolCalls.CallRows.{any-row}
use Rattle.pr_tool_laws.proofs.ToolCalls.ReadySteps.{fed-count, fed-ready, first-ready}
use Rattle.pr_tool_laws.proofs.ToolCalls.ReasonSteps.{ReasonOf, Why, called-why, why-still}
use Rattle.pr_tool_laws.proofs.ToolCalls.ToolFiles.{Ready, ready-still}
use Rattle.pr_tool_laws.proofs.OwnFiles.NothingOpenLemmas.{nothing-whole}
use Rattle.pr_tool_laws.proofs.OwnFiles.StandingLemmas.{IsOther, others-handles}
use Rattle.pr_tool_laws.proofs.RunningAgain.LeavingLemmas.{entry-call, others-none}
use Rattle.pr_tool_laws.proofs.Stages.KindLemmas.{fed-kind, fed-pid}
use Rattle.pr_tool_laws.proofs.Stages.LawLemmas.{tool-keeps}
use Rattle.pr_tool_laws.proofs.Stages.ProtocolLemmas.{fed-other, fed-own}
use Rattle.pr_tool_laws.proofs.Stages.StageLemmas.{state-called}
use Rattle.pr_tool_laws.specs.Leaving.{IsClose}
use Rattle.pr_tool_laws.specs.Runs.{IsRunOf}
use Rattle.pr_tool_laws.specs.ToolCalls.{IsToolCall, MakesToolCalls}
use Rattle.pr_tool_laws.specs.ToolRefusals.{TellsWhy}

-- A tool makes the calls of its table, and tells why it was refused.

-- ---- an entry more

module _ (kind : ToolKind) (k pid : ℕ) where
  abbrev MayMake : TracedState → Entry → Type 0
  MayMake s e = (c : Call) (r : Reply) → e ≡ call_entry k c r → IsToolCall k pid s kind c ⊎ IsClose c

  makes-more : (s : TracedState) (h : List Entry) (e : Entry) → MakesToolCalls kind k pid s h
      → MayMake (state_after s h) e → MakesToolCalls kind k pid s (h ++ e ∷ [])
  makes-more s [] e it may = (may, tt)
  makes-more s (d ∷ h) e it may = (it.0, makes-more (after s d) h e it.1 may)

  its-row : (s : TracedState) (c : Call) (r : Reply) → IsToolCall k pid s kind c ⊎ IsClose c
      → MayMake s (call_entry k c r)
  its-row s c r row d v is =
      subst (λ (x : Call). IsToolCall k pid s kind x ⊎ IsClose x) (entry-call k c d r v is) row

-- ---- along a history

module _ (n k : ℕ) (kind : ToolKind) (pid : ℕ) (first : TracedState) where
  -- what is so of it, refused or not
  record IsOnItsWay (h : List Entry) (t : ToolState) : Type 0 where
    is : t.kind ≡ kind
    its : t.pid ≡ pid
    whole : length t.opened.handles ≡ most_open
    ready : Ready k pid kind (state_after first h) t t.step
    makes : MakesToolCalls kind k pid first h
    why : Why kind k pid first h t

  others-on : (h : List Entry) (t : ToolState) (actor : Actor) (it : Act)
      → IsLegalEntry n (state_after first h) (record { actor = actor; act = it }) → IsOther k actor it
      → IsOnItsWay h t → IsOnItsWay (h ++ (record { actor = actor; act = it }) ∷ []) t
  others-on h t actor it legal other kept =
      let e : Entry = record { actor = actor; act = it } in
      record {
        is = kept.is;
        its = kept.its;
        whole = kept.whole;
        ready =
            subst (λ (s : TracedState). Ready k pid kind s t t.step) (sym (state_after-push first h e))
            (ready-still k pid (state_after first h) (after (state_after first h) e)
            (λ number. others-handles n k number (state_after first h) actor it legal other) kind t t.step
            kept.ready);
        makes =
            makes-more kind k pid first h e kept.makes
            (λ c r same. absurd (others-none k actor it other c r same));
        why = why-still kind k pid first h e (others-none k actor it other) t kept.why;
      }

  calls-on : (h : List Entry) (t : ToolState) (c : Call) (a : Answer) → next_call_of t ≡ Some c
      → answer_to (state_after first h) k c ≡ Some a → IsOnItsWay h t
      → IsOnItsWay (h ++ call_entry k c a.reply ∷ []) (fed t a.reply)
  unfolding next_call_of
  calls-on h t c a next given kept =
      let s : TracedState = state_after first h in
      record {
        is = fed-kind t a.reply ∙ kept.is;
        its = fed-pid t a.reply ∙ kept.its;
        whole = fed-count t a.reply ∙ kept.whole;
        ready =
            subst (λ (x : TracedState). Ready k pid kind x (fed t a.reply) (fed t a.reply).step)
            (sym (state-called first h k c a given))
            (fed-ready k pid kind s c a given t next kept.is kept.its kept.whole kept.ready);
        makes =
            makes-more kind k pid first h (call_entry k c a.reply) kept.makes
            (its-row kind k pid s c a.reply (any-row k pid s c kind t kept.is kept.its t.step kept.ready next));
        why = called-why kind k pid first h c a.reply t next kept.is kept.its kept.ready kept.why;
      }

  begins : IsOnItsWay [] (first_tool kind pid)
  unfolding first_tool
  begins = record {
    is = refl;
    its = refl;
    whole = nothing-whole;
    ready = first-ready k pid kind first;
    makes = tt;
    why = record { quiet = λ none stays. tt; leaving = λ was. absurd (false≢true was); reason = tt };
  }

  on-its-way : (controllers : List ControllerState) (h : List Entry) (t : ToolState)
      → IsRunOf n k (Tool (first_tool kind pid)) controllers first h
      → slice_get (controllers_at controllers h) k ≡ Some (Tool t) → IsOnItsWay h t
  on-its-way controllers h t run ends =
      tool-keeps n k first IsOnItsWay others-on calls-on controllers h (first_tool kind pid) t run ends begins

-- ---- a tool stays one

module _ (k : ℕ) where
  abbrev HasTool : List ControllerState → Type 0
  HasTool controllers = (t : ToolState) × (slice_get controllers k ≡ Some (Tool t))

  tool-after : (controllers : List ControllerState) (actor : Actor) (it : Act) → HasTool controllers
      → HasTool (controllers_after controllers (record { actor = actor; act = it }))
  unfolding controllers_after after_reply
  tool-after controllers (Controller j) (act.Call c r) has = by (cases_eq j k)
    where
      by : (j ≡ k) ⊎ (j ≢ k) → HasTool (with_fed j r controllers)
      by (inl same) =
          subst (λ (i : ℕ). HasTool (with_fed i r controllers)) (sym same)
          (fed has.0 r, fed-own controllers k r (Tool has.0) has.1)
      by (inr apart) = (has.0, fed-other controllers j k r apart ∙ has.1)
  tool-after controllers _ _ has = has

  tool-at : (controllers : List ControllerState) (h : List Entry) → HasTool controllers
      → HasTool (controllers_at controllers h)
  tool-at controllers [] has = has
  tool-at controllers (e ∷ h) has =
      tool-at (controllers_after controllers e) h (tool-after controllers e.actor e.act has)

-- ---- the laws

pub tool-makes-calls : (controllers : List ControllerState) (n k : ℕ) (kind : ToolKind) (pid : ℕ) (s : TracedState)
    (h : List Entry) → IsRunOf n k (Tool (first_tool kind pid)) controllers s h → MakesToolCalls kind k pid s h
tool-makes-calls controllers n k kind pid s h run =
    let last = tool-at k controllers h (first_tool kind pid, run.begins) in
    (on-its-way n k kind pid s controllers h last.0 run last.1).makes

-- the text of one that has finished and was refused
line-is : (t : ToolState) (kind : ToolKind) (pid : ℕ) (e : Errno) (programs : List Program) → t.kind ≡ kind
    → t.pid ≡ pid → has_ended t ≡ true → t.refusal ≡ Some e
    → printed t programs ≡ refusal_line (tool_name kind) pid e
unfolding printed
line-is t kind pid e programs is its ended was =
    ap (λ (b : Bool). cond b (report t programs t.refusal) []) ended ∙ ap (report t programs) was
    ∙ ap (λ (x : ToolKind). refusal_line (tool_name x) t.pid e) is
    ∙ ap (λ (q : ℕ). refusal_line (tool_name kind) q e) its

pub tool-tells-why : (controllers : List ControllerState) (n k : ℕ) (kind : ToolKind) (pid : ℕ) (s : TracedState)
    (h : List Entry) (t : ToolState) (e : Errno) (programs : List Program)
    → IsRunOf n k (Tool (first_tool kind pid)) controllers s h
    → slice_get (controllers_at controllers h) k ≡ Some (Tool t) → has_ended t ≡ true → t.refusal ≡ Some e
    → TellsWhy kind k pid e s h (printed t programs)
tool-tells-why controllers n k kind pid s h t e programs run ends ended was =
    let kept = on-its-way n k kind pid s controllers h t run ends in
    record {
      line = line-is t kind pid e programs kept.is kept.its ended was;
      reason = subst (ReasonOf kind k pid s h) was kept.why.reason;
    }
