use Rattle.std.proofs.Common.{◌≡◌, ◌≢◌, ◌<◌, ◌∷◌, ◌++◌, ℕ, Bool, true, false, List, [], Option, Some, None, cond, length, get_or, refl, sym, subst, ap, ◌∙◌, arith, slice_get}
use Rattle.std.proofs.lemmas.List.{get_or-set_other, length-set}
use Rattle.std.proofs.lemmas.Option.{none-some, same_Some}
use Rattle.std.specs.Option.{option_map}
use Rattle.pr_api.specs.Entries.{call_entry}
use Rattle.pr_model.proofs.HistoryLemmas.{state_after-push}
use Rattle.pr_model.specs.Calls.{Answer, answer_to}
use Rattle.pr_model.specs.Handles.{handle_of}
use Rattle.pr_model.specs.Legal.{IsLegalEntry, state_after}
use Rattle.pr_model.specs.Replies.{opened_in}
use Rattle.pr_model.specs.State.{TracedState}
use Rattle.pr_model.specs.declared.calls.Call.{Call}
use Rattle.pr_model.specs.declared.calls.Call.TheVariants as call
use Rattle.pr_model.specs.declared.calls.File.{File}
use Rattle.pr_model.specs.declared.calls.Mode.{Mode}
use Rattle.pr_model.specs.declared.calls.Reply.{Reply}
use Rattle.pr_model.specs.declared.calls.Reply.TheVariants as reply
use Rattle.pr_model.specs.declared.events.Act.{Act}
use Rattle.pr_model.specs.declared.events.Actor.{Actor}
use Rattle.pr_model.specs.declared.events.Entry.{Entry}
use Rattle.pr_model.specs.declared.tools.ToolKind.{ToolKind}
use Rattle.pr_model.specs.declared.tools.ToolKind.TheVariants.{Pflags, Psig, Pstack, Pmap, Pfiles, Pstop, Prun, Pwait, Ptree}
use Rattle.pr_num.specs.declared.errnos.Errno.{Errno}
use Rattle.pr_probe.proofs.PlaceLemmas.{held, held-none}
use Rattle.pr_tools.specs.Handles.{handle_at, last_open, last_place, most_open, nothing_open, places_to_last, with_handle, without_last}
use Rattle.pr_tools.specs.Replies.{is_passed_over, refusal_in}
use Rattle.pr_tools.specs.Steps.{after as step_after, after_in_prun, after_in_pstack, after_in_pstop, after_in_ptree, after_in_pwait, after_in_reader, control_place, first_step, memory_place, record_place, way_out, way_out_of_pstack}
use Rattle.pr_tools.specs.Tools.{ToolState, accepted, advanced, answered, at_step, call_of, fed, first_tool, has_ended, next_call_of, refused, with_answer, with_closed, with_first, with_next, with_record, with_run_next, with_walk}
use Rattle.pr_tools.specs.declared.handles.Opened.{Opened}
use Rattle.pr_tools.specs.declared.stacks.Walk.{Walk}
use Rattle.pr_tools.specs.declared.steps.Step.{Step}
use Rattle.pr_tools.specs.declared.steps.Step.TheVariants as step
use Rattle.pr_world.specs.ControllerStates.{ControllerState, Tool}
use Rattle.pr_world.specs.Protocol.{controllers_at}
use Rattle.pr_tool_laws.specs.Runs.{IsRunOf}
use Rattle.pr_tool_laws.proofs.Stages.KindLemmas.{accepted-opened, advanced-goes, moves_files}
use Rattle.pr_tool_laws.proofs.Stages.LawLemmas.{tool-keeps}
use Rattle.pr_tool_laws.proofs.OwnFiles.NotedFiles.{Knows, closed-known, denied-known, no-handle, none-at, opened-known, same-known}
use Rattle.pr_tool_laws.proofs.RunningAgain.RunAgainLemmas.{granted-at}
use Rattle.pr_tool_laws.proofs.Stages.StageLemmas.{state-called}
use Rattle.pr_tool_laws.proofs.OwnFiles.StandingLemmas.{IsOther, others-handles}
use Rattle.pr_tool_laws.proofs.Stages.ToolLemmas.{close-passes, ended-closes, still-going}
use Rattle.pr_truss_laws.proofs.Files.OpensLemmas.{keeps_handles, plain-leaves}
use Rattle.pr_truss_laws.specs.Handles.{HasNothingOpen}

-- A tool that has finished, refused or not, has nothing open.

-- ---- the places that are to be filled

-- the place that a step fills is empty, and so are those that are filled later
abbrev IsFresh : Opened → Step → Type 0
IsFresh o step.OpenCtl = o ≡ nothing_open
IsFresh o step.OpenFile = (handle_at o record_place ≡ None) × (handle_at o memory_place ≡ None)
IsFresh o step.OpenMemory = handle_at o memory_place ≡ None
IsFresh o _ = Unit {0}

abbrev FreshNow : ToolState → Type 0
FreshNow t = IsFresh t.opened t.step

run_next-fresh : (t : ToolState) → FreshNow (with_run_next t)
unfolding with_run_next
run_next-fresh t = of t.stood
  where
    of : (b : Bool) → FreshNow (cond b (at_step t step.Close) (at_step t step.Run))
    of true = tt
    of false = tt

walk-fresh : (t : ToolState) (w : Option Walk) → FreshNow (with_walk t w)
unfolding with_walk
walk-fresh t None = run_next-fresh (record t { walk = None })
walk-fresh t (Some w) = tt

next-fresh : (t : ToolState) (p : Step) → IsFresh t.opened p → FreshNow (with_next t p)
unfolding with_next
next-fresh t step.ReadFrame fresh = walk-fresh t _
next-fresh t step.Run fresh = run_next-fresh t
next-fresh t _ fresh = fresh

answer-fresh : (t : ToolState) (bytes : List ℕ) (w : Option Walk) → FreshNow (with_answer t bytes w)
unfolding with_answer
answer-fresh t bytes None = run_next-fresh t
answer-fresh t bytes (Some w) = walk-fresh _ _

-- whether a file may be opened right after a step
abbrev opens_more : Step → Bool
opens_more step.OpenCtl = true
opens_more step.OpenFile = true
opens_more _ = false

-- after any other step none is
pstack-fresh : (o : Opened) (p : Step) → opens_more p ≡ false → IsFresh o (after_in_pstack p)
unfolding after_in_pstack
pstack-fresh o step.OpenCtl is = absurd cc
pstack-fresh o step.OpenFile is = absurd cc
pstack-fresh o step.OpenMemory is = tt
pstack-fresh o step.ReadFirst is = tt
pstack-fresh o step.Stop is = tt
pstack-fresh o step.AwaitStop is = tt
pstack-fresh o step.ReadFile is = tt
pstack-fresh o step.ReadText is = tt
pstack-fresh o step.ReadFrame is = tt
pstack-fresh o _ is = tt

-- nor after the opening of any other tool
reader-fresh : (o : Opened) (p : Step) → IsFresh o (after_in_reader p)
unfolding after_in_reader
reader-fresh o step.OpenFile = tt
reader-fresh o _ = tt

pstop-fresh : (o : Opened) (p : Step) → IsFresh o (after_in_pstop p)
unfolding after_in_pstop
pstop-fresh o step.OpenCtl = tt
pstop-fresh o _ = tt

prun-fresh : (o : Opened) (p : Step) → IsFresh o (after_in_prun p)
unfolding after_in_prun
prun-fresh o step.OpenCtl = tt
prun-fresh o _ = tt

pwait-fresh : (o : Opened) (p : Step) → IsFresh o (after_in_pwait p)
unfolding after_in_pwait
pwait-fresh o step.OpenFile = tt
pwait-fresh o step.AwaitEnd = tt
pwait-fresh o _ = tt

-- where it is so of pstack it is so of each tool
after-fresh : (o : Opened) (kind : ToolKind) (p : Step) → IsFresh o (after_in_pstack p) → IsFresh o (step_after kind p)
unfolding step_after after_in_ptree
after-fresh o Pflags p stack = reader-fresh o p
after-fresh o Psig p stack = reader-fresh o p
after-fresh o Pstack p stack = stack
after-fresh o Pmap p stack = reader-fresh o p
after-fresh o Pfiles p stack = reader-fresh o p
after-fresh o Pstop p stack = pstop-fresh o p
after-fresh o Prun p stack = prun-fresh o p
after-fresh o Pwait p stack = pwait-fresh o p
after-fresh o Ptree p stack = tt

advanced-fresh : (t : ToolState) (p : Step) → t.step ≡ p → IsFresh t.opened (after_in_pstack p) → FreshNow (advanced t)
unfolding advanced
advanced-fresh t p at stack =
    subst (λ (q : Step). FreshNow (with_next t (step_after t.kind q))) (sym at)
    (next-fresh t (step_after t.kind p) (after-fresh t.opened t.kind p stack))

plain-fresh : (t : ToolState) (p : Step) → t.step ≡ p → opens_more p ≡ false → FreshNow (advanced t)
plain-fresh t p at is = advanced-fresh t p at (pstack-fresh t.opened p is)

out-fresh : (o : Opened) (kind : ToolKind) (p : Step) → IsFresh o (way_out kind p)
unfolding way_out way_out_of_pstack
out-fresh o Pstack step.AwaitStop = tt
out-fresh o Pstack step.ReadFile = tt
out-fresh o Pstack step.ReadText = tt
out-fresh o Pstack step.ReadFrame = tt
out-fresh o Pstack step.Run = tt
out-fresh o Pstack _ = tt
out-fresh o _ p = tt

first-fresh : (kind : ToolKind) → IsFresh nothing_open (first_step kind)
unfolding first_step handle_at nothing_open
first-fresh Pstack = refl
first-fresh Pstop = refl
first-fresh Prun = refl
first-fresh Ptree = tt
first-fresh _ = (refl, refl)

later-place : (o : Opened) (place later : ℕ) (x : Option ℕ) → later ≢ place → handle_at o later ≡ None
    → handle_at (with_handle o place x) later ≡ None
unfolding handle_at with_handle
later-place o place later x apart none = get_or-set_other o.handles place later x None apart ∙ none

empty-place : (o : Opened) (place : ℕ) → o ≡ nothing_open → place < most_open → handle_at o place ≡ None
unfolding handle_at nothing_open places_to_last
empty-place o place none within = ap (λ (x : Opened). handle_at x place) none ∙ at place
  where
    nothing : (hs : List (Option ℕ)) (p : ℕ) → held hs ≡ [] → get_or hs p None ≡ None
    nothing hs p is = by (get_or hs p None) refl
      where
        by : (h : Option ℕ) → get_or hs p None ≡ h → h ≡ None
        by None there = refl
        by (Some h) there = absurd (none-at hs p h is there)

    at : (p : ℕ) → handle_at nothing_open p ≡ None
    at p = nothing nothing_open.handles p (held-none nothing_open.handles refl)

pub place-count : (o : Opened) (place : ℕ) (x : Option ℕ) → length (with_handle o place x).handles ≡ length o.handles
unfolding with_handle
place-count o place x = length-set o.handles place x

pub nothing-whole : length nothing_open.handles ≡ most_open
unfolding nothing_open
nothing-whole = refl

-- ---- refusals

pub refused-reply : (p : Step) (r : Reply) (e : Errno) → refusal_in p r ≡ Some e → r ≡ reply.Fail e
unfolding refusal_in
refused-reply p (reply.Fail f) e is = by (is_passed_over p f) is
  where
    by : (b : Bool) → cond b None (Some f) ≡ Some e → reply.Fail f ≡ reply.Fail e
    by true is = absurd (none-some e is)
    by false is = ap reply.Fail (same_Some f e is)
refused-reply p _ e is = absurd (none-some e is)

-- ---- a call of the tool

module _ (k : ℕ) (s : TracedState) (c : Call) (a : Answer) (given : answer_to s k c ≡ Some a) (t : ToolState)
    (next : next_call_of t ≡ Some c) (known : Knows k t.opened s) (fresh : FreshNow t)
    (whole : length t.opened.handles ≡ most_open) where
  abbrev o : Opened
  o = t.opened

  its : (p : Step) → t.step ≡ p → call_of t p ≡ Some c
  unfolding next_call_of
  its p at = ap (call_of t) (sym at) ∙ next

  fresh-at : (p : Step) → t.step ≡ p → IsFresh o p
  fresh-at p at = subst (IsFresh o) at fresh

  plain-known : (p : Step) → t.step ≡ p → (d : Call) → call_of t p ≡ Some d → keeps_handles d ≡ true → Knows k o a.state
  plain-known p at d is keeps =
      same-known k s a o known
      (plain-leaves s k d a keeps (ap (answer_to s k) (same_Some d c (sym is ∙ its p at)) ∙ given))

  -- ---- an open

  module _ (pid id : ℕ) (name : File) (way : Mode) (is : Some (call.Open pid id name way) ≡ Some c) where
    answers : answer_to s k (call.Open pid id name way) ≡ Some a
    answers = ap (answer_to s k) (same_Some (call.Open pid id name way) c is) ∙ given

    opened-on : (place : ℕ) → place < most_open → handle_at o place ≡ None → ((e : Errno) → a.reply ≢ reply.Fail e)
        → Knows k (with_handle o place (opened_in a.reply)) a.state
    opened-on place within empty accepts =
        opened-known k s a o known pid id name way answers place (omega (arith, within, whole)) empty accepts

    denied-on : (e : Errno) → a.reply ≡ reply.Fail e → Knows k o a.state
    denied-on e failed = denied-known k s a o known pid id name way answers e failed

  -- ---- a close

  close-known : t.step ≡ step.Close → Knows k (without_last o) a.state
  unfolding call_of
  close-known at = by (last_open o) refl (its step.Close at)
    where
      by : (x : Option ℕ) → last_open o ≡ x → option_map call.Close x ≡ Some c → Knows k (without_last o) a.state
      by None last is = absurd (none-some c is)
      by (Some number) last is =
          closed-known k s a o known number last (ap (answer_to s k) (same_Some (call.Close number) c is) ∙ given)

  -- ---- a reply that is taken

  -- a file at an empty place
  filled : (p : Step) (place : ℕ) (pid id : ℕ) (name : File) (way : Mode) → t.step ≡ p
      → Some (call.Open pid id name way) ≡ Some c → place < most_open → handle_at o place ≡ None
      → ((e : Errno) → is_passed_over p e ≡ false) → refusal_in p a.reply ≡ None
      → Knows k (advanced (record t { opened = with_handle o place (opened_in a.reply) })).opened a.state
  filled p place pid id name way at is within empty counts none =
      subst (λ (x : Opened). Knows k x a.state)
      (sym (advanced-goes (record t { opened = with_handle o place (opened_in a.reply) })).1)
      (opened-on pid id name way is place within empty (granted-at p a.reply counts none))

  plain-accepted : (p : Step) → t.step ≡ p → (d : Call) → call_of t p ≡ Some d → keeps_handles d ≡ true
      → moves_files p ≡ false → Knows k (accepted t a.reply p).opened a.state
  plain-accepted p at d is keeps plain =
      subst (λ (x : Opened). Knows k x a.state) (sym (accepted-opened t a.reply p plain)) (plain-known p at d is keeps)

  accepted-known : (p : Step) → t.step ≡ p → refusal_in p a.reply ≡ None → Knows k (accepted t a.reply p).opened a.state
  unfolding accepted call_of is_passed_over with_closed
  accepted-known step.OpenCtl at none =
      filled step.OpenCtl control_place _ _ _ _ at (its step.OpenCtl at) (omega arith)
      (empty-place o control_place (fresh-at step.OpenCtl at) (omega arith)) (λ e. refl) none
  accepted-known step.OpenFile at none =
      filled step.OpenFile record_place _ _ _ _ at (its step.OpenFile at) (omega arith)
      (fresh-at step.OpenFile at).0 (λ e. refl) none
  accepted-known step.OpenMemory at none =
      filled step.OpenMemory memory_place _ _ _ _ at (its step.OpenMemory at) (omega arith)
      (fresh-at step.OpenMemory at) (λ e. refl) none
  accepted-known step.Close at none = close-known at
  accepted-known step.ReadFirst at none = plain-accepted step.ReadFirst at _ refl refl refl
  accepted-known step.Stop at none = plain-accepted step.Stop at _ refl refl refl
  accepted-known step.AwaitStop at none = plain-accepted step.AwaitStop at _ refl refl refl
  accepted-known step.Direct at none = plain-accepted step.Direct at _ refl refl refl
  accepted-known step.AwaitEnd at none = plain-accepted step.AwaitEnd at _ refl refl refl
  accepted-known step.ReadFile at none = plain-accepted step.ReadFile at _ refl refl refl
  accepted-known step.ReadText at none = plain-accepted step.ReadText at _ refl refl refl
  accepted-known step.ReadFrame at none = plain-accepted step.ReadFrame at _ refl refl refl
  accepted-known step.Run at none = plain-accepted step.Run at _ refl refl refl
  accepted-known step.List at none = plain-accepted step.List at _ refl refl refl
  accepted-known step.Release at none = plain-accepted step.Release at _ refl refl refl

  accepted-fresh : (p : Step) → t.step ≡ p → FreshNow (accepted t a.reply p)
  unfolding accepted after_in_pstack with_closed with_record with_first
  accepted-fresh step.OpenCtl at =
      let none = fresh-at step.OpenCtl at in
      advanced-fresh (record t { opened = with_handle o control_place (opened_in a.reply) }) step.OpenCtl at (
        later-place o control_place record_place (opened_in a.reply) (λ same. omega arith)
            (empty-place o record_place none (omega arith)),
        later-place o control_place memory_place (opened_in a.reply) (λ same. omega arith)
            (empty-place o memory_place none (omega arith)),
      )
  accepted-fresh step.OpenFile at =
      advanced-fresh (record t { opened = with_handle o record_place (opened_in a.reply) }) step.OpenFile at
      (later-place o record_place memory_place (opened_in a.reply) (λ same. omega arith)
      (fresh-at step.OpenFile at).1)
  accepted-fresh step.ReadFrame at = answer-fresh t _ t.walk
  accepted-fresh step.Close at = subst (IsFresh (without_last o)) (sym at) tt
  accepted-fresh step.OpenMemory at = plain-fresh _ step.OpenMemory at refl
  accepted-fresh step.ReadFirst at = plain-fresh _ step.ReadFirst at refl
  accepted-fresh step.Stop at = plain-fresh _ step.Stop at refl
  accepted-fresh step.AwaitStop at = plain-fresh _ step.AwaitStop at refl
  accepted-fresh step.Direct at = plain-fresh _ step.Direct at refl
  accepted-fresh step.AwaitEnd at = plain-fresh _ step.AwaitEnd at refl
  accepted-fresh step.ReadFile at = plain-fresh _ step.ReadFile at refl
  accepted-fresh step.ReadText at = plain-fresh _ step.ReadText at refl
  accepted-fresh step.Run at = plain-fresh _ step.Run at refl
  accepted-fresh step.List at = plain-fresh _ step.List at refl
  accepted-fresh step.Release at = plain-fresh _ step.Release at refl

  accepted-whole : (p : Step) → length (accepted t a.reply p).opened.handles ≡ most_open
  unfolding accepted with_closed without_last
  accepted-whole step.OpenCtl =
      ap (λ (x : Opened). length x.handles) (advanced-goes _).1
      ∙ place-count o control_place (opened_in a.reply) ∙ whole
  accepted-whole step.OpenFile =
      ap (λ (x : Opened). length x.handles) (advanced-goes _).1
      ∙ place-count o record_place (opened_in a.reply) ∙ whole
  accepted-whole step.OpenMemory =
      ap (λ (x : Opened). length x.handles) (advanced-goes _).1
      ∙ place-count o memory_place (opened_in a.reply) ∙ whole
  accepted-whole step.Close = place-count o (last_place o) None ∙ whole
  accepted-whole p = ap (λ (x : Opened). length x.handles) (accepted-opened t a.reply p refl) ∙ whole

  -- ---- a refusal

  refused-known : (p : Step) → t.step ≡ p → (e : Errno) → refusal_in p a.reply ≡ Some e → Knows k o a.state
  unfolding call_of
  refused-known step.OpenCtl at e is =
      denied-on _ _ _ _ (its step.OpenCtl at) e (refused-reply step.OpenCtl a.reply e is)
  refused-known step.OpenFile at e is =
      denied-on _ _ _ _ (its step.OpenFile at) e (refused-reply step.OpenFile a.reply e is)
  refused-known step.OpenMemory at e is =
      denied-on _ _ _ _ (its step.OpenMemory at) e (refused-reply step.OpenMemory a.reply e is)
  refused-known step.Close at e is = absurd (none-some e (sym (close-passes a.reply) ∙ is))
  refused-known step.ReadFirst at e is = plain-known step.ReadFirst at _ refl refl
  refused-known step.Stop at e is = plain-known step.Stop at _ refl refl
  refused-known step.AwaitStop at e is = plain-known step.AwaitStop at _ refl refl
  refused-known step.Direct at e is = plain-known step.Direct at _ refl refl
  refused-known step.AwaitEnd at e is = plain-known step.AwaitEnd at _ refl refl
  refused-known step.ReadFile at e is = plain-known step.ReadFile at _ refl refl
  refused-known step.ReadText at e is = plain-known step.ReadText at _ refl refl
  refused-known step.ReadFrame at e is = plain-known step.ReadFrame at _ refl refl
  refused-known step.Run at e is = plain-known step.Run at _ refl refl
  refused-known step.List at e is = plain-known step.List at _ refl refl
  refused-known step.Release at e is = plain-known step.Release at _ refl refl

  -- ---- both

  record Later (u : ToolState) : Type 0 where
    known_on : Knows k u.opened a.state
    fresh_on : FreshNow u
    whole_on : length u.opened.handles ≡ most_open

  fed-known : Later (fed t a.reply)
  unfolding fed refused
  fed-known = by (refusal_in t.step a.reply) refl
    where
      by : (x : Option Errno) → refusal_in t.step a.reply ≡ x → Later (answered t a.reply x)
      by None is = record {
        known_on = accepted-known t.step refl is;
        fresh_on = accepted-fresh t.step refl;
        whole_on = accepted-whole t.step;
      }
      by (Some e) is = record {
        known_on = refused-known t.step refl e is;
        fresh_on = out-fresh o t.kind t.step;
        whole_on = whole;
      }

-- ---- along a history

module _ (n k : ℕ) (kind : ToolKind) (pid : ℕ) (first : TracedState) where
  record IsKnownIn (h : List Entry) (t : ToolState) : Type 0 where
    known : Knows k t.opened (state_after first h)
    fresh : FreshNow t
    whole : length t.opened.handles ≡ most_open

  others-kept : (h : List Entry) (t : ToolState) (actor : Actor) (it : Act)
      → IsLegalEntry n (state_after first h) (record { actor = actor; act = it }) → IsOther k actor it
      → IsKnownIn h t → IsKnownIn (h ++ (record { actor = actor; act = it }) ∷ []) t
  others-kept h t actor it legal other kept =
      let e : Entry = record { actor = actor; act = it } in
      record {
        known = λ number held there.
            kept.known number held
            (sym (ap (λ (x : TracedState). handle_of x.opens k number) (state_after-push first h e)
            ∙ others-handles n k number (state_after first h) actor it legal other) ∙ there);
        fresh = kept.fresh;
        whole = kept.whole;
      }

  calls-kept : (h : List Entry) (t : ToolState) (c : Call) (a : Answer) → next_call_of t ≡ Some c
      → answer_to (state_after first h) k c ≡ Some a → IsKnownIn h t
      → IsKnownIn (h ++ call_entry k c a.reply ∷ []) (fed t a.reply)
  calls-kept h t c a next given kept =
      let later = fed-known k (state_after first h) c a given t next kept.known kept.fresh kept.whole in
      record {
        known =
            subst (Knows k (fed t a.reply).opened) (sym (state-called first h k c a given)) later.known_on;
        fresh = later.fresh_on;
        whole = later.whole_on;
      }

  -- who has ended has closed all
  ended-none : (t : ToolState) → has_ended t ≡ true → last_open t.opened ≡ None
  unfolding next_call_of call_of
  ended-none t ended = by (last_open t.opened) refl
    where
      by : (x : Option ℕ) → last_open t.opened ≡ x → x ≡ None
      by None is = refl
      by (Some number) is =
          absurd (still-going t (call.Close number)
          (ap (call_of t) (ended-closes t ended) ∙ ap (option_map call.Close) is) ended)

  pub tool-closes : (controllers : List ControllerState) (h : List Entry) (t : ToolState) → HasNothingOpen k first
      → IsRunOf n k (Tool (first_tool kind pid)) controllers first h
      → slice_get (controllers_at controllers h) k ≡ Some (Tool t) → has_ended t ≡ true
      → HasNothingOpen k (state_after first h)
  unfolding first_tool
  tool-closes controllers h t nothing run ends ended =
      let begun : IsKnownIn [] (first_tool kind pid) = record {
        known = λ number held there. absurd (none-some held (sym (nothing.none number) ∙ there));
        fresh = first-fresh kind;
        whole = nothing-whole;
      } in
      let kept =
      tool-keeps n k first IsKnownIn others-kept calls-kept controllers h (first_tool kind pid) t run ends begun in
      let s : TracedState = state_after first h in
      record {
        none = λ number.
            no-handle k t.opened s number (handle_of s.opens k number) refl (ended-none t ended) kept.known;
      }
