use Rattle.std.proofs.Common.{◌≡◌, ◌&&◌, ◌∷◌, ◌++◌, ℕ, Bool, true, false, cond, not, Option, Some, None, IfSome, List, [], option_map, refl, sym, subst, ap, ◌∙◌, slice_get}
use Rattle.std.specs.List.{slice_set}
use Rattle.pr_api.specs.Entries.{call_entry}
use Rattle.pr_keeps.proofs.CallLemmas.{call-edit}
use Rattle.pr_keeps.specs.CallEdits as edit
use Rattle.pr_keeps.specs.CallEdits.{CallEdit}
use Rattle.pr_model.proofs.HistoryLemmas.{state_after-push}
use Rattle.pr_model.specs.Calls.{Answer, answer_to}
use Rattle.pr_model.specs.Handles.{after_last_close, has_writer, is_writable, with_closed, with_opened}
use Rattle.pr_model.specs.Legal.{IsLegalEntry, after, state_after}
use Rattle.pr_model.specs.State.{TracedState, live_process}
use Rattle.pr_model.specs.declared.calls.Call.{Call}
use Rattle.pr_model.specs.declared.calls.Call.TheVariants as call
use Rattle.pr_model.specs.declared.calls.Mode.TheVariants as mode
use Rattle.pr_model.specs.declared.calls.Reply.{Reply}
use Rattle.pr_model.specs.declared.events.Act.{Act}
use Rattle.pr_model.specs.declared.events.Act.TheVariants as act
use Rattle.pr_model.specs.declared.events.Actor.{Actor}
use Rattle.pr_model.specs.declared.events.Actor.TheVariants.{Controller, Lwp, Clock}
use Rattle.pr_model.specs.declared.events.Entry.{Entry}
use Rattle.pr_model.specs.declared.handles.Held.{Held}
use Rattle.pr_model.specs.declared.tools.ToolKind.{ToolKind}
use Rattle.pr_model.specs.declared.tools.ToolKind.TheVariants.{Pflags, Psig, Pstack, Pmap, Pfiles, Pstop, Prun, Pwait, Ptree}
use Rattle.pr_num.specs.declared.errnos.Errno.{Errno}
use Rattle.pr_tools.specs.Handles.{last_open}
use Rattle.pr_tools.specs.Replies.{refusal_in}
use Rattle.pr_tools.specs.Steps.{after as step_after, after_in_ptree, after_in_pwait, after_in_reader, first_step, way_out}
use Rattle.pr_tools.specs.Tools.{ToolState, accepted, advanced, answered, call_of, fed, first_tool, next_call_of, refused, with_closed as with_one_closed, with_next, with_record}
use Rattle.pr_tools.specs.declared.steps.Step.{Step}
use Rattle.pr_tools.specs.declared.steps.Step.TheVariants as step
use Rattle.pr_world.specs.ControllerStates.{ControllerState, Tool}
use Rattle.pr_world.specs.Protocol.{controllers_at}
use Rattle.pr_tool_laws.specs.Runs.{IsRunOf}
use Rattle.pr_tool_laws.proofs.OwnFiles.HandleLemmas.{OpensSo, call-all, none-held, others-all}
use Rattle.pr_tool_laws.proofs.Stages.KindLemmas.{fed-kind}
use Rattle.pr_tool_laws.proofs.Stages.LawLemmas.{tool-keeps}
use Rattle.pr_tool_laws.proofs.Stages.StageLemmas.{state-called}
use Rattle.pr_tool_laws.proofs.OwnFiles.StandingLemmas.{IsOther}
use Rattle.pr_tool_laws.specs.ToolHandles.{AllHeld, LeavesTheSystem, only_reads}
use Rattle.pr_truss_laws.specs.Handles.{HasNothingOpen}

-- The tools that send no message leave the system as it was.

-- ---- their steps

-- the steps that open a file to be read, wait, read and close
reads : Step → Bool
reads step.OpenFile = true
reads step.AwaitEnd = true
reads step.ReadFile = true
reads step.List = true
reads step.Close = true
reads _ = false

first-reads : (kind : ToolKind) → only_reads kind ≡ true → reads (first_step kind) ≡ true
unfolding reads first_step only_reads
first-reads Pstack is = cc
first-reads Pstop is = cc
first-reads Prun is = cc
first-reads _ is = refl

after-reads : (kind : ToolKind) (p : Step) → only_reads kind ≡ true → reads (step_after kind p) ≡ true
unfolding reads step_after after_in_reader after_in_pwait after_in_ptree only_reads
after-reads Pstack p is = cc
after-reads Pstop p is = cc
after-reads Prun p is = cc
after-reads Pflags step.OpenFile is = refl
after-reads Pflags _ is = refl
after-reads Psig step.OpenFile is = refl
after-reads Psig _ is = refl
after-reads Pmap step.OpenFile is = refl
after-reads Pmap _ is = refl
after-reads Pfiles step.OpenFile is = refl
after-reads Pfiles _ is = refl
after-reads Pwait step.OpenFile is = refl
after-reads Pwait step.AwaitEnd is = refl
after-reads Pwait _ is = refl
after-reads Ptree p is = refl

out-reads : (kind : ToolKind) (p : Step) → only_reads kind ≡ true → reads (way_out kind p) ≡ true
unfolding reads way_out only_reads
out-reads Pstack p is = cc
out-reads _ p is = refl

next-reads : (t : ToolState) (p : Step) → reads p ≡ true → reads (with_next t p).step ≡ true
unfolding reads with_next
next-reads t step.ReadFrame is = cc
next-reads t step.Run is = cc
next-reads t _ is = is

advanced-reads : (t : ToolState) → only_reads t.kind ≡ true → reads (advanced t).step ≡ true
unfolding advanced
advanced-reads t is = next-reads t (step_after t.kind t.step) (after-reads t.kind t.step is)

accepted-reads : (t : ToolState) (r : Reply) (p : Step) → only_reads t.kind ≡ true → t.step ≡ p → reads p ≡ true
    → reads (accepted t r p).step ≡ true
unfolding accepted with_record with_one_closed reads
accepted-reads t r step.OpenFile is at here = advanced-reads _ is
accepted-reads t r step.AwaitEnd is at here = advanced-reads _ is
accepted-reads t r step.ReadFile is at here = advanced-reads _ is
accepted-reads t r step.List is at here = advanced-reads _ is
accepted-reads t r step.Close is at here = ap reads at ∙ here
accepted-reads t r _ is at here = cc

fed-reads : (t : ToolState) (r : Reply) → only_reads t.kind ≡ true → reads t.step ≡ true → reads (fed t r).step ≡ true
unfolding fed refused
fed-reads t r is here = of (refusal_in t.step r)
  where
    of : (o : Option Errno) → reads (answered t r o).step ≡ true
    of None = accepted-reads t r t.step is refl here
    of (Some e) = out-reads t.kind t.step is

-- ---- their calls

IsReading : Call → Type 0
IsReading (call.Open pid id file way) = way ≡ mode.Read
IsReading (call.Close number) = Unit {0}
IsReading (call.Read number from len) = Unit {0}
IsReading (call.Poll numbers) = Unit {0}
IsReading call.List = Unit {0}
IsReading _ = ⊥

step-reading : (t : ToolState) (p : Step) → reads p ≡ true → IfSome (call_of t p) IsReading
unfolding call_of reads IsReading
step-reading t step.OpenFile is = refl
step-reading t step.AwaitEnd is = tt
step-reading t step.ReadFile is = tt
step-reading t step.List is = tt
step-reading t step.Close is = of (last_open t.opened)
  where
    of : (o : Option ℕ) → IfSome (option_map call.Close o) IsReading
    of None = tt
    of (Some number) = tt
step-reading t _ is = cc

own-reading : (t : ToolState) (c : Call) → next_call_of t ≡ Some c → reads t.step ≡ true → IsReading c
unfolding next_call_of
own-reading t c next is = subst (λ (o : Option Call). IfSome o IsReading) next (step-reading t t.step is)

-- a handle that is not for writing
abbrev IsReader : Held → Type 0
IsReader h = is_writable h.mode ≡ false

reading-opens : (k : ℕ) (c : Call) → IsReading c → OpensSo IsReader k c
unfolding IsReading
reading-opens k (call.Open pid id file way) is = ap is_writable is
reading-opens k _ is = tt

-- the close of one of these is not the last one for writing
closed-leaves : (s : TracedState) (held : Held) (number : ℕ) → IsReader held
    → (with_closed held number s).system ≡ s.system
unfolding with_closed
closed-leaves s held number reads =
    ap (λ (b : Bool). cond (b && not (has_writer held.pid (slice_set s.opens number None)))
    (after_last_close held.pid (live_process s.system held.pid) s.system) s.system) reads

edit-leaves : (s : TracedState) (k : ℕ) (c : Call) (t : TracedState) → AllHeld k IsReader s → IsReading c
    → CallEdit s k c t → t.system ≡ s.system
unfolding IsReading with_opened
edit-leaves s k c t all is edit.looks = refl
edit-leaves s k c t all is (edit.opens free grants) = refl
edit-leaves s k c t all is (edit.closes {handle} {held} at) = closed-leaves s held handle (all.each handle held at)
edit-leaves s k c t all is edit.sees_interrupt = refl
edit-leaves s k c t all is (edit.interrupts there) = refl
edit-leaves s k c t all is (edit.controls it e) = absurd is
edit-leaves s k c t all is (edit.spawns named grants) = absurd is
edit-leaves s k c t all is (edit.sends sent) = absurd is

-- ---- along a history

leaves-push : (k : ℕ) (s : TracedState) (h : List Entry) (e : Entry) → LeavesTheSystem k s h
    → (e.actor ≡ Controller k → (after (state_after s h) e).system ≡ (state_after s h).system)
    → LeavesTheSystem k s (h ++ e ∷ [])
leaves-push k s [] e all last = (last, tt)
leaves-push k s (x ∷ h) e all last = (all.0, leaves-push k (after s x) h e all.1 last)

-- an entry of another is none of its own
other-apart : (n k : ℕ) (s : TracedState) (actor : Actor) (it : Act)
    → IsLegalEntry n s (record { actor = actor; act = it }) → IsOther k actor it → actor ≡ Controller k → ⊥
unfolding IsLegalEntry
other-apart n k s (Controller j) (act.Call c r) legal other same = other (cc)
other-apart n k s (Controller j) (act.Turn t) legal other same = absurd legal
other-apart n k s (Controller j) (act.Tick m) legal other same = absurd legal
other-apart n k s (Lwp pid id) it legal other same = cc
other-apart n k s Clock it legal other same = cc

module _ (n k : ℕ) (kind : ToolKind) (pid : ℕ) (once : only_reads kind ≡ true) (first : TracedState) where
  record IsReadKept (h : List Entry) (t : ToolState) : Type 0 where
    kind_is : t.kind ≡ kind
    reading : reads t.step ≡ true
    held : AllHeld k IsReader (state_after first h)
    leaves : LeavesTheSystem k first h

  others-kept : (h : List Entry) (t : ToolState) (actor : Actor) (it : Act)
      → IsLegalEntry n (state_after first h) (record { actor = actor; act = it }) → IsOther k actor it
      → IsReadKept h t → IsReadKept (h ++ (record { actor = actor; act = it }) ∷ []) t
  others-kept h t actor it legal other kept =
      let e : Entry = record { actor = actor; act = it } in
      record {
        kind_is = kept.kind_is;
        reading = kept.reading;
        held =
            subst (AllHeld k IsReader) (sym (state_after-push first h e))
            (others-all k IsReader (state_after first h) kept.held n actor it legal other);
        leaves =
            leaves-push k first h e kept.leaves
            (λ own. absurd (other-apart n k (state_after first h) actor it legal other own));
      }

  calls-kept : (h : List Entry) (t : ToolState) (c : Call) (a : Answer) → next_call_of t ≡ Some c
      → answer_to (state_after first h) k c ≡ Some a → IsReadKept h t
      → IsReadKept (h ++ call_entry k c a.reply ∷ []) (fed t a.reply)
  calls-kept h t c a next given kept =
      let s : TracedState = state_after first h in
      let e : Entry = call_entry k c a.reply in
      let own = own-reading t c next kept.reading in
      let called : state_after first (h ++ e ∷ []) ≡ a.state = state-called first h k c a given in
      let same : a.state.system ≡ s.system = edit-leaves s k c a.state kept.held own (call-edit s k c a given) in
      record {
        kind_is = fed-kind t a.reply ∙ kept.kind_is;
        reading = fed-reads t a.reply (ap only_reads kept.kind_is ∙ once) kept.reading;
        held =
            subst (AllHeld k IsReader) (sym called)
            (call-all k IsReader s kept.held a c (reading-opens k c own) given);
        leaves =
            leaves-push k first h e kept.leaves
            (λ its. ap (λ (x : TracedState). x.system) (sym (state_after-push first h e) ∙ called) ∙ same);
      }

  pub tool-leaves : (controllers : List ControllerState) (h : List Entry) (t : ToolState) → HasNothingOpen k first
      → IsRunOf n k (Tool (first_tool kind pid)) controllers first h
      → slice_get (controllers_at controllers h) k ≡ Some (Tool t) → LeavesTheSystem k first h
  unfolding first_tool
  tool-leaves controllers h t nothing run ends =
      let begun : IsReadKept [] (first_tool kind pid) = record {
        kind_is = refl;
        reading = first-reads kind once;
        held = none-held k IsReader first nothing;
        leaves = tt;
      } in
      (tool-keeps n k first IsReadKept others-kept calls-kept controllers h (first_tool kind pid) t run ends
      begun).leaves
