use Rattle.std.proofs.Common.{◌≡◌, ◌≢◌, ◌∙◌, ℕ, Bool, true, false, cond, Option, Some, None, length, refl, sym, subst, ap, arith, inl, inr}
use Rattle.std.proofs.lemmas.Bool.{false≢true}
use Rattle.std.proofs.lemmas.Option.{same_Some}
use Rattle.pr_model.specs.Calls.{Answer, answer_to}
use Rattle.pr_model.specs.Handles.{handle_of}
use Rattle.pr_model.specs.Replies.{number_of, opened_in, until_in}
use Rattle.pr_model.specs.State.{Places, TracedState}
use Rattle.pr_model.specs.declared.calls.Call.{Call}
use Rattle.pr_model.specs.declared.calls.Call.TheVariants as call
use Rattle.pr_model.specs.declared.calls.File.{File}
use Rattle.pr_model.specs.declared.calls.File.TheVariants as file
use Rattle.pr_model.specs.declared.calls.Mode.{Mode}
use Rattle.pr_model.specs.declared.calls.Mode.TheVariants as mode
use Rattle.pr_model.specs.declared.calls.Reply.{Reply}
use Rattle.pr_model.specs.declared.calls.Reply.TheVariants as reply
use Rattle.pr_model.specs.declared.tools.ToolKind.{ToolKind}
use Rattle.pr_model.specs.declared.tools.ToolKind.TheVariants.{Pflags, Psig, Pstack, Pmap, Pfiles, Pstop, Prun, Pwait, Ptree}
use Rattle.pr_num.specs.declared.errnos.Errno.{Errno}
use Rattle.pr_tools.specs.Calls.{stop_bytes}
use Rattle.pr_tools.specs.Handles.{last_place, most_open, with_handle, without_last}
use Rattle.pr_tools.specs.Replies.{bytes_read, is_passed_over, refusal_in}
use Rattle.pr_tools.specs.Stacks.{process_stands}
use Rattle.pr_tools.specs.Steps.{after as step_after, after_in_prun, after_in_pstack, after_in_pstop, after_in_ptree, after_in_pwait, after_in_reader, control_place, ctl_mode_of, file_of, first_step, memory_place, record_place, way_out, way_out_of_pstack}
use Rattle.pr_tools.specs.Tools.{ToolState, accepted, advanced, answered, at_step, call_of, fed, first_tool, next_call_of, refused, with_answer, with_closed, with_first, with_next, with_record, with_run_next, with_walk}
use Rattle.pr_tools.specs.declared.handles.Opened.{Opened}
use Rattle.pr_tools.specs.declared.stacks.Walk.{Walk}
use Rattle.pr_tools.specs.declared.steps.Step.{Step}
use Rattle.pr_tools.specs.declared.steps.Step.TheVariants as step
use Rattle.pr_tool_laws.proofs.ToolCalls.ToolFiles.{HasAll, HasControl, HasRecord, Ready, controls, has_record, new-at, old-at, ready-still, sends_run}
use Rattle.pr_tool_laws.proofs.OwnFiles.NothingOpenLemmas.{place-count}
use Rattle.pr_tool_laws.proofs.Pstack.StackReads.{stop-halts}
use Rattle.pr_tool_laws.proofs.RunningAgain.RunAgainLemmas.{granted-at}
use Rattle.pr_tool_laws.proofs.Stages.KindLemmas.{accepted-opened, advanced-goes, moves_files}
use Rattle.pr_truss_laws.proofs.Files.OpensLemmas.{Opens, held_by, keeps_handles, open-opens, plain-leaves}

-- Whatever reply a tool gets, at its next step it has the files open that it needs there.

-- ---- there is room for its files

accepted-count : (t : ToolState) (r : Reply) (p : Step)
    → length (accepted t r p).opened.handles ≡ length t.opened.handles
unfolding accepted with_closed without_last
accepted-count t r step.OpenCtl =
    ap (λ (x : Opened). length x.handles) (advanced-goes _).1
    ∙ place-count t.opened control_place (opened_in r)
accepted-count t r step.OpenFile =
    ap (λ (x : Opened). length x.handles) (advanced-goes _).1
    ∙ place-count t.opened record_place (opened_in r)
accepted-count t r step.OpenMemory =
    ap (λ (x : Opened). length x.handles) (advanced-goes _).1
    ∙ place-count t.opened memory_place (opened_in r)
accepted-count t r step.Close = place-count t.opened (last_place t.opened) None
accepted-count t r p = ap (λ (x : Opened). length x.handles) (accepted-opened t r p refl)

pub fed-count : (t : ToolState) (r : Reply) → length (fed t r).opened.handles ≡ length t.opened.handles
unfolding fed refused
fed-count t r = by (refusal_in t.step r)
  where
    by : (o : Option Errno) → length (answered t r o).opened.handles ≡ length t.opened.handles
    by None = accepted-count t r t.step
    by (Some e) = refl

-- ---- the next step

module _ (k pid : ℕ) (kind : ToolKind) where
  pub first-ready : (s : TracedState) → Ready k pid kind s (first_tool kind pid) (first_step kind)
  unfolding Ready first_step
  first-ready s = by kind
    where
      by : (x : ToolKind) → Ready k pid x s (first_tool x pid) (first_step x)
      by Pstack = refl
      by Pstop = refl
      by Prun = refl
      by Ptree = refl
      by _ = (refl, λ is. absurd (cc))

  -- the way out after a refusal
  out-ready : (s : TracedState) (t : ToolState) (p : Step) → Ready k pid kind s t p
      → Ready k pid kind s t (way_out kind p)
  unfolding Ready way_out way_out_of_pstack
  out-ready s t p = by kind p
    where
      by : (x : ToolKind) (p : Step) → Ready k pid x s t p → Ready k pid x s t (way_out x p)
      by Pstack step.AwaitStop it = (refl, it.1.ctl)
      by Pstack step.ReadFile it = let all = it.2 refl in (refl, all.ctl)
      by Pstack step.ReadText it = (refl, it.1.ctl)
      by Pstack step.ReadFrame it = (refl, it.1.ctl)
      by Pstack step.Run it = (refl, it.1)
      by Pstack _ it = tt
      by _ p it = tt

  -- where a file was to be opened
  open-out : (x : ToolKind) (p : Step) → moves_files p ≡ true → way_out x p ≡ step.Close
  unfolding way_out way_out_of_pstack
  open-out Pstack step.OpenCtl is = refl
  open-out Pstack step.OpenFile is = refl
  open-out Pstack step.OpenMemory is = refl
  open-out Pstack step.Close is = refl
  open-out Pstack _ is = absurd (false≢true is)
  open-out _ p is = refl

  module _ (s : TracedState) where
    abbrev ReadyNow : ToolState → Type 0
    ReadyNow u = Ready k pid kind s u u.step

    goes-on : (u : ToolState) (p : Step) → u.kind ≡ kind → u.step ≡ p → ReadyNow (with_next u (step_after kind p))
        → ReadyNow (advanced u)
    unfolding advanced
    goes-on u p is at so =
        let same : advanced u ≡ with_next u (step_after kind p) =
        ap (λ (q : Step). with_next u (step_after u.kind q)) at
        ∙ ap (λ (x : ToolKind). with_next u (step_after x p)) is in
        subst ReadyNow (sym same) so

    -- of pstack
    stack-on : kind ≡ Pstack → (u : ToolState) (p : Step) → u.kind ≡ kind → u.step ≡ p
        → ReadyNow (with_next u (after_in_pstack p)) → ReadyNow (advanced u)
    unfolding step_after
    stack-on stack u p is at so =
        goes-on u p is at (subst (λ (x : ToolKind). ReadyNow (with_next u (step_after x p))) (sym stack) so)

    -- a tool that closes next
    closes-on : (u : ToolState) (p : Step) → u.kind ≡ kind → u.step ≡ p → step_after kind p ≡ step.Close
        → ReadyNow (advanced u)
    unfolding Ready with_next
    closes-on u p is at close =
        goes-on u p is at (subst (λ (q : Step). ReadyNow (with_next u q)) (sym close) tt)

    run-next : (u : ToolState) → sends_run kind ≡ true → HasControl k pid kind s u.opened → ReadyNow (with_run_next u)
    unfolding Ready with_run_next
    run-next u sends control = by u.stood
      where
        by : (b : Bool) → ReadyNow (cond b (at_step u step.Close) (at_step u step.Run))
        by true = tt
        by false = (sends, control)

    walk-next : (u : ToolState) → kind ≡ Pstack → HasAll k pid kind s u.opened → (w : Option Walk)
        → ReadyNow (with_walk u w)
    unfolding Ready with_walk
    walk-next u stack all None = run-next (record u { walk = None }) (ap sends_run stack) all.ctl
    walk-next u stack all (Some w) = (stack, all)

  -- the control file is open
  control-next : (s : TracedState) (x : ToolKind) → controls x ≡ true → (u : ToolState)
      → HasControl k pid x s u.opened
      → Ready k pid x s (with_next u (step_after x step.OpenCtl)) (with_next u (step_after x step.OpenCtl)).step
  unfolding Ready with_next with_run_next step_after after_in_pstack after_in_pstop after_in_prun
  control-next s Pstack is u control = (refl, λ stack. control)
  control-next s Pstop is u control = (refl, control)
  control-next s Prun is u control = by u.stood
    where
      by : (b : Bool)
          → Ready k pid Prun s (cond b (at_step u step.Close) (at_step u step.Run))
          (cond b (at_step u step.Close) (at_step u step.Run)).step
      by true = tt
      by false = (refl, control)
  control-next s _ is u control = absurd (false≢true is)

  -- and the file of the record
  record-next : (s : TracedState) (x : ToolKind) → has_record x ≡ true → (u : ToolState)
      → HasRecord k pid x s u.opened → (x ≡ Pstack → HasControl k pid x s u.opened)
      → Ready k pid x s (with_next u (step_after x step.OpenFile)) (with_next u (step_after x step.OpenFile)).step
  unfolding Ready with_next step_after after_in_pstack after_in_reader after_in_pwait
  record-next s Pflags is u file control = (refl, file, λ stack. absurd (cc))
  record-next s Psig is u file control = (refl, file, λ stack. absurd (cc))
  record-next s Pstack is u file control = (refl, control refl, file)
  record-next s Pmap is u file control = (refl, file, λ stack. absurd (cc))
  record-next s Pfiles is u file control = (refl, file, λ stack. absurd (cc))
  record-next s Pwait is u file control = (refl, file)
  record-next s _ is u file control = absurd (false≢true is)

  -- it has read the record
  read-next : (s : TracedState) (x : ToolKind) → has_record x ≡ true → (u : ToolState)
      → (x ≡ Pstack → HasAll k pid x s u.opened)
      → Ready k pid x s (with_next u (step_after x step.ReadFile)) (with_next u (step_after x step.ReadFile)).step
  unfolding Ready with_next step_after after_in_pstack after_in_reader after_in_pwait
  read-next s Pstack is u all = (refl, all refl)
  read-next s Pflags is u all = tt
  read-next s Psig is u all = tt
  read-next s Pmap is u all = tt
  read-next s Pfiles is u all = tt
  read-next s Pwait is u all = tt
  read-next s _ is u all = absurd (false≢true is)

  run-after : (x : ToolKind) → sends_run x ≡ true → step_after x step.Run ≡ step.Close
  unfolding step_after after_in_pstack after_in_prun
  run-after Pstack is = refl
  run-after Prun is = refl
  run-after _ is = absurd (false≢true is)

  -- ---- a call

  module _ (s : TracedState) (c : Call) (a : Answer) (given : answer_to s k c ≡ Some a) (t : ToolState)
      (next : next_call_of t ≡ Some c) (is : t.kind ≡ kind) (its : t.pid ≡ pid)
      (whole : length t.opened.handles ≡ most_open) where
    its-call : (p : Step) → t.step ≡ p → call_of t p ≡ Some c
    unfolding next_call_of
    its-call p at = ap (call_of t) (sym at) ∙ next

    -- a call that leaves the handles
    plain : (p : Step) → t.step ≡ p → (d : Call) → call_of t p ≡ Some d → keeps_handles d ≡ true
        → Ready k pid kind s t p → Ready k pid kind a.state t p
    plain p at d same keeps it =
        ready-still k pid s a.state
        (λ number. ap (λ (x : Places). handle_of x k number)
        (plain-leaves s k d a keeps (ap (answer_to s k) (same_Some d c (sym same ∙ its-call p at)) ∙ given)))
        kind t p it

    -- a file more
    module _ (name : File) (way : Mode) (same : Some (call.Open pid 0 name way) ≡ Some c)
        (accepts : (e : Errno) → a.reply ≢ reply.Fail e) where
      grants : Opens s k (held_by k pid 0 name way) a.reply a.state.opens
      grants =
          elim (open-opens s k pid 0 name way a
          (ap (answer_to s k) (same_Some (call.Open pid 0 name way) c same) ∙ given)) [
            | inl denied ↦ absurd (accepts denied.errno denied.reply)
            | inr granted ↦ granted
          ]

    opening : (p : Step) → ((e : Errno) → is_passed_over p e ≡ false) → refusal_in p a.reply ≡ None → (e : Errno)
        → a.reply ≢ reply.Fail e
    opening p counts none = granted-at p a.reply counts none

    open-control : t.step ≡ step.OpenCtl → controls kind ≡ true → ((e : Errno) → a.reply ≢ reply.Fail e)
        → ReadyNow a.state (accepted t a.reply step.OpenCtl)
    unfolding accepted call_of
    open-control at it accepts =
        goes-on a.state u step.OpenCtl is at
        (control-next a.state kind it u
        (new-at k s a pid file.Ctl (ctl_mode_of kind) (grants file.Ctl (ctl_mode_of kind) same accepts) t.opened
        control_place (omega (arith, whole))))
      where
        u : ToolState
        u = record t { opened = with_handle t.opened control_place (opened_in a.reply) }

        same : Some (call.Open pid 0 file.Ctl (ctl_mode_of kind)) ≡ Some c
        same =
            ap (λ (q : ℕ). Some (call.Open q 0 file.Ctl (ctl_mode_of kind))) (sym its)
            ∙ ap (λ (x : ToolKind). Some (call.Open t.pid 0 file.Ctl (ctl_mode_of x))) (sym is)
            ∙ its-call step.OpenCtl at

    open-record : t.step ≡ step.OpenFile → has_record kind ≡ true
        → (kind ≡ Pstack → HasControl k pid kind s t.opened) → ((e : Errno) → a.reply ≢ reply.Fail e)
        → ReadyNow a.state (accepted t a.reply step.OpenFile)
    unfolding accepted call_of
    open-record at it control accepts =
        goes-on a.state u step.OpenFile is at
        (record-next a.state kind it u
        (new-at k s a pid (file_of kind) mode.Read granted t.opened record_place (omega (arith, whole)))
        (λ stack. old-at k s a pid (file_of kind) mode.Read granted t.opened record_place control_place
        (held_by k pid 0 file.Ctl (ctl_mode_of kind)) (λ same. omega arith) (control stack)))
      where
        u : ToolState
        u = record t { opened = with_handle t.opened record_place (opened_in a.reply) }

        same : Some (call.Open pid 0 (file_of kind) mode.Read) ≡ Some c
        same =
            ap (λ (q : ℕ). Some (call.Open q 0 (file_of kind) mode.Read)) (sym its)
            ∙ ap (λ (x : ToolKind). Some (call.Open t.pid 0 (file_of x) mode.Read)) (sym is)
            ∙ its-call step.OpenFile at

        granted : Opens s k (held_by k pid 0 (file_of kind) mode.Read) a.reply a.state.opens
        granted = grants (file_of kind) mode.Read same accepts

    open-memory : t.step ≡ step.OpenMemory → kind ≡ Pstack → HasControl k pid kind s t.opened
        → HasRecord k pid kind s t.opened → ((e : Errno) → a.reply ≢ reply.Fail e)
        → ReadyNow a.state (accepted t a.reply step.OpenMemory)
    unfolding Ready accepted call_of with_next after_in_pstack
    open-memory at stack control statuses accepts =
        stack-on a.state stack u step.OpenMemory is at (
          stack,
          record {
            ctl =
                old-at k s a pid file.Mem mode.Read granted t.opened memory_place control_place
                (held_by k pid 0 file.Ctl (ctl_mode_of kind)) (λ same. omega arith) control;
            statuses =
                old-at k s a pid file.Mem mode.Read granted t.opened memory_place record_place
                (held_by k pid 0 (file_of kind) mode.Read) (λ same. omega arith) statuses;
            memory =
                new-at k s a pid file.Mem mode.Read granted t.opened memory_place (omega (arith, whole));
          },
        )
      where
        u : ToolState
        u = record t { opened = with_handle t.opened memory_place (opened_in a.reply) }

        same : Some (call.Open pid 0 file.Mem mode.Read) ≡ Some c
        same =
            ap (λ (q : ℕ). Some (call.Open q 0 file.Mem mode.Read)) (sym its) ∙ its-call step.OpenMemory at

        granted : Opens s k (held_by k pid 0 file.Mem mode.Read) a.reply a.state.opens
        granted = grants file.Mem mode.Read same accepts

    -- the wait for the stop has no end of its own
    stopping : t.step ≡ step.Stop → kind ≡ Pstack → HasAll k pid kind s t.opened
        → HasAll k pid kind a.state t.opened → ((e : Errno) → a.reply ≢ reply.Fail e)
        → ReadyNow a.state (accepted t a.reply step.Stop)
    unfolding Ready accepted call_of with_next after_in_pstack ctl_mode_of
    stopping at stack all later accepts =
        stack-on a.state stack (record t { until = until_in a.reply }) step.Stop is at (stack, later, no_end)
      where
        same : call.Ctl all.ctl.number stop_bytes ≡ c
        same =
            same_Some (call.Ctl all.ctl.number stop_bytes) c
            (ap (λ (o : Option ℕ). Some (call.Ctl (number_of o) stop_bytes)) (sym all.ctl.at)
            ∙ its-call step.Stop at)

        stands : handle_of s.opens k all.ctl.number ≡ Some (held_by k pid 0 file.Ctl mode.WriteExcl)
        stands =
            all.ctl.stands ∙ ap (λ (x : ToolKind). Some (held_by k pid 0 file.Ctl (ctl_mode_of x))) stack

        no_end : until_in a.reply ≡ 0
        no_end =
            (stop-halts s k all.ctl.number pid a stands (ap (answer_to s k) same ∙ given) accepts).1

    -- a reply that is taken
    accepted-ready : (p : Step) → t.step ≡ p → Ready k pid kind s t p → refusal_in p a.reply ≡ None
        → ReadyNow a.state (accepted t a.reply p)
    unfolding Ready accepted call_of with_next with_closed with_record with_first with_answer step_after
        after_in_pstack after_in_pstop after_in_pwait after_in_ptree is_passed_over
    accepted-ready step.OpenCtl at it none = open-control at it (opening step.OpenCtl (λ e. refl) none)
    accepted-ready step.OpenFile at it none =
        open-record at it.0 it.1 (opening step.OpenFile (λ e. refl) none)
    accepted-ready step.OpenMemory at it none =
        open-memory at it.0 it.1 it.2 (opening step.OpenMemory (λ e. refl) none)
    accepted-ready step.ReadFirst at it none =
        let later = plain step.ReadFirst at _ refl refl it in
        stack-on a.state it.0 (record t { stood = process_stands (bytes_read a.reply) }) step.ReadFirst is at later
    accepted-ready step.Stop at it none =
        let later = plain step.Stop at _ refl refl it in
        stopping at it.0 it.1 later.1 (opening step.Stop (λ e. refl) none)
    accepted-ready step.AwaitStop at it none =
        let later = plain step.AwaitStop at _ refl refl it in
        stack-on a.state it.0 t step.AwaitStop is at (ap has_record it.0, later.1.statuses, λ stack. later.1)
    accepted-ready step.Direct at it none =
        closes-on a.state t step.Direct is at
        (subst (λ (x : ToolKind). step_after x step.Direct ≡ step.Close) (sym it.0) refl)
    accepted-ready step.AwaitEnd at it none =
        let later = plain step.AwaitEnd at _ refl refl it in
        goes-on a.state t step.AwaitEnd is at
        (subst (λ (x : ToolKind). ReadyNow a.state (with_next t (step_after x step.AwaitEnd))) (sym it.0) (
          ap has_record it.0,
          later.1,
          λ stack. absurd (let both : Pwait ≡ Pstack = sym it.0 ∙ stack in cc),
        ))
    accepted-ready step.ReadFile at it none =
        let later = plain step.ReadFile at _ refl refl it in
        goes-on a.state (with_record t (bytes_read a.reply)) step.ReadFile is at
        (read-next a.state kind it.0 (with_record t (bytes_read a.reply)) later.2)
    accepted-ready step.ReadText at it none =
        let later = plain step.ReadText at _ refl refl it in
        stack-on a.state it.0 (with_first t (bytes_read a.reply)) step.ReadText is at
        (walk-next a.state (with_first t (bytes_read a.reply)) it.0 later.1 _)
    accepted-ready step.ReadFrame at it none =
        let later = plain step.ReadFrame at _ refl refl it in by t.walk later.1
      where
        by : (w : Option Walk) → HasAll k pid kind a.state t.opened
            → ReadyNow a.state (with_answer t (bytes_read a.reply) w)
        by None all = run-next a.state t (ap sends_run it.0) all.ctl
        by (Some w) all = walk-next a.state _ it.0 all _
    accepted-ready step.Run at it none = closes-on a.state t step.Run is at (run-after kind it.0)
    accepted-ready step.List at it none =
        closes-on a.state (with_record t (bytes_read a.reply)) step.List is at
        (subst (λ (x : ToolKind). step_after x step.List ≡ step.Close) (sym it) refl)
    accepted-ready step.Release at it none =
        closes-on a.state t step.Release is at
        (subst (λ (x : ToolKind). step_after x step.Release ≡ step.Close) (sym it.0) refl)
    accepted-ready step.Close at it none = subst (Ready k pid kind a.state (with_closed t)) (sym at) tt

    -- a refusal
    out-on : (p : Step) → t.step ≡ p → (e : Errno) → Ready k pid kind a.state (refused t e) (way_out kind p)
        → ReadyNow a.state (refused t e)
    unfolding refused
    out-on p at e so =
        subst (Ready k pid kind a.state (refused t e))
        (sym (ap (λ (x : ToolKind). way_out x t.step) is ∙ ap (way_out kind) at)) so

    open-refused : (p : Step) → t.step ≡ p → (e : Errno) → moves_files p ≡ true → ReadyNow a.state (refused t e)
    unfolding Ready
    open-refused p at e moves =
        out-on p at e (subst (Ready k pid kind a.state (refused t e)) (sym (open-out kind p moves)) tt)

    refused-ready : (p : Step) → t.step ≡ p → Ready k pid kind s t p → (e : Errno) → ReadyNow a.state (refused t e)
    unfolding Ready refused call_of
    refused-ready step.OpenCtl at it e = open-refused step.OpenCtl at e refl
    refused-ready step.OpenFile at it e = open-refused step.OpenFile at e refl
    refused-ready step.OpenMemory at it e = open-refused step.OpenMemory at e refl
    refused-ready step.Close at it e = open-refused step.Close at e refl
    refused-ready p at it e = out-on p at e (out-ready a.state (refused t e) p (plain p at _ refl refl it))

    pub fed-ready : Ready k pid kind s t t.step → ReadyNow a.state (fed t a.reply)
    unfolding fed
    fed-ready it = by (refusal_in t.step a.reply) refl
      where
        by : (o : Option Errno) → refusal_in t.step a.reply ≡ o → ReadyNow a.state (answered t a.reply o)
        by None none = accepted-ready t.step refl it none
        by (Some e) some = refused-ready t.step refl it e
