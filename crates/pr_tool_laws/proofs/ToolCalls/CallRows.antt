use Rattle.std.proofs.Common.{◌≡◌, ◌⊎◌, ◌∙◌, ℕ, Bool, true, false, Option, Some, None, option_map, refl, sym, subst, ap, inl, inr}
use Rattle.std.proofs.lemmas.Bool.{false≢true}
use Rattle.std.proofs.lemmas.Option.{none-some, same_Some}
use Rattle.pr_model.specs.State.{TracedState}
use Rattle.pr_model.specs.declared.calls.Call.{Call}
use Rattle.pr_model.specs.declared.calls.Call.TheVariants as call
use Rattle.pr_model.specs.declared.calls.File.TheVariants as file
use Rattle.pr_model.specs.declared.calls.Mode.TheVariants as mode
use Rattle.pr_model.specs.declared.tools.ToolKind.{ToolKind}
use Rattle.pr_model.specs.declared.tools.ToolKind.TheVariants.{Pflags, Psig, Pstack, Pmap, Pfiles, Pstop, Prun, Pwait, Ptree}
use Rattle.pr_num.specs.Limits.{read_limit}
use Rattle.pr_tools.specs.Calls.{run_bytes, short_read, stop_bytes}
use Rattle.pr_tools.specs.Handles.{last_open}
use Rattle.pr_tools.specs.Steps.{control_place, ctl_mode_of, file_of, memory_place, record_place}
use Rattle.pr_tools.specs.Tools.{ToolState, call_of, control_file, memory_file, record_file}
use Rattle.pr_tools.specs.declared.steps.Step.{Step}
use Rattle.pr_tools.specs.declared.steps.Step.TheVariants as step
use Rattle.pr_tool_laws.proofs.ToolCalls.ToolFiles.{HasAll, HasControl, HasMemory, HasRecord, Ready, controls, has-handle, has_record, sends_run}
use Rattle.pr_tool_laws.specs.FileHandles.{HasHandleOf}
use Rattle.pr_tool_laws.specs.Leaving.{IsClose}
use Rattle.pr_tool_laws.specs.ToolCalls.{IsItsControl, IsItsRecord, IsToolCall, awaits_end, awaits_stop, by_prun, by_pstack, by_pstop, directs, lists, of_pfiles, of_pflags, of_pmap, of_psig, of_pstack, of_pwait, opens_control, opens_memory, opens_record, reads_memory, reads_record, runs, runs_again, stops}

-- The call of a tool at a step is one of its table.

-- ---- its files

its-record : (kind : ToolKind) → has_record kind ≡ true → IsItsRecord kind (file_of kind)
unfolding file_of
its-record Pflags is = of_pflags
its-record Psig is = of_psig
its-record Pstack is = of_pstack
its-record Pmap is = of_pmap
its-record Pfiles is = of_pfiles
its-record Pwait is = of_pwait
its-record _ is = absurd (false≢true is)

its-control : (kind : ToolKind) → controls kind ≡ true → IsItsControl kind (ctl_mode_of kind)
unfolding ctl_mode_of
its-control Pstack is = by_pstack
its-control Pstop is = by_pstop
its-control Prun is = by_prun
its-control _ is = absurd (false≢true is)

-- whether a step closes
abbrev pub closes : Step → Bool
closes step.Close = true
closes _ = false

module _ (k pid : ℕ) (s : TracedState) (c : Call) where
  run-row : (kind : ToolKind) (handle : ℕ) → sends_run kind ≡ true → HasHandleOf k pid 0 file.Ctl handle s
      → IsToolCall k pid s kind (call.Ctl handle run_bytes)
  run-row Pstack handle is has = runs_again has
  run-row Prun handle is has = runs has
  run-row _ handle is has = absurd (false≢true is)

  module _ (kind : ToolKind) (t : ToolState) (same_kind : t.kind ≡ kind) (its : t.pid ≡ pid) where
    -- the row of a tool is one of this tool
    row-of : (which : ToolKind) → kind ≡ which → (d : Call) → Some d ≡ Some c → IsToolCall k pid s which d
        → IsToolCall k pid s kind c
    row-of which is d same it =
        subst (λ (x : ToolKind). IsToolCall k pid s x c) (sym is)
        (subst (IsToolCall k pid s which) (same_Some d c same) it)

    ctl : HasControl k pid kind s t.opened → HasHandleOf k pid 0 file.Ctl (control_file t) s
    ctl it = has-handle k pid file.Ctl (ctl_mode_of kind) control_place s t.opened it

    statuses : HasRecord k pid kind s t.opened → HasHandleOf k pid 0 (file_of kind) (record_file t) s
    statuses it = has-handle k pid (file_of kind) mode.Read record_place s t.opened it

    pub memory : HasMemory k pid s t.opened → HasHandleOf k pid 0 file.Mem (memory_file t) s
    memory it = has-handle k pid file.Mem mode.Read memory_place s t.opened it

    reading : has_record kind ≡ true → HasRecord k pid kind s t.opened
        → Some (call.Read (record_file t) 0 read_limit) ≡ Some c → IsToolCall k pid s kind c
    reading is it same =
        row-of kind refl (call.Read (record_file t) 0 read_limit) same
        (reads_record (its-record kind is) (statuses it))

    memory-row : (from : ℕ) → kind ≡ Pstack → HasAll k pid kind s t.opened
        → Some (call.Read (memory_file t) from short_read) ≡ Some c → IsToolCall k pid s kind c
    memory-row from is it same =
        row-of Pstack is (call.Read (memory_file t) from short_read) same (reads_memory (memory it.memory))

    -- the end of pwait
    awaiting : kind ≡ Pwait → HasRecord k pid kind s t.opened → HasHandleOf k pid 0 file.Psinfo (record_file t) s
    unfolding file_of
    awaiting is it =
        subst (λ (x : ToolKind). HasHandleOf k pid 0 (file_of x) (record_file t) s) is (statuses it)

    pub own-row : (p : Step) → closes p ≡ false → Ready k pid kind s t p → call_of t p ≡ Some c
        → IsToolCall k pid s kind c
    unfolding Ready call_of
    own-row step.OpenCtl goes is same =
        row-of kind refl (call.Open pid 0 file.Ctl (ctl_mode_of kind))
        (ap (λ (q : ℕ). Some (call.Open q 0 file.Ctl (ctl_mode_of kind))) (sym its)
        ∙ ap (λ (x : ToolKind). Some (call.Open t.pid 0 file.Ctl (ctl_mode_of x))) (sym same_kind) ∙ same)
        (opens_control (its-control kind is))
    own-row step.OpenFile goes it same =
        row-of kind refl (call.Open pid 0 (file_of kind) mode.Read)
        (ap (λ (q : ℕ). Some (call.Open q 0 (file_of kind) mode.Read)) (sym its)
        ∙ ap (λ (x : ToolKind). Some (call.Open t.pid 0 (file_of x) mode.Read)) (sym same_kind) ∙ same)
        (opens_record (its-record kind it.0))
    own-row step.OpenMemory goes it same =
        row-of Pstack it.0 (call.Open pid 0 file.Mem mode.Read)
        (ap (λ (q : ℕ). Some (call.Open q 0 file.Mem mode.Read)) (sym its) ∙ same) opens_memory
    own-row step.ReadFirst goes it same = reading (ap has_record it.0) it.1.statuses same
    own-row step.Stop goes it same = row-of Pstack it.0 _ same (stops (ctl it.1.ctl))
    own-row step.AwaitStop goes it same =
        row-of Pstack it.0 (call.CtlWait (control_file t) 0 stop_bytes)
        (ap (λ (x : ℕ). Some (call.CtlWait (control_file t) x stop_bytes)) (sym it.2) ∙ same)
        (awaits_stop (ctl it.1.ctl))
    own-row step.Direct goes it same = row-of Pstop it.0 _ same (directs (ctl it.1))
    own-row step.AwaitEnd goes it same = row-of Pwait it.0 _ same (awaits_end (awaiting it.0 it.1))
    own-row step.ReadFile goes it same = reading it.0 it.1 same
    own-row step.ReadText goes it same = memory-row _ it.0 it.1 same
    own-row step.ReadFrame goes it same = memory-row _ it.0 it.1 same
    own-row step.Run goes it same =
        row-of kind refl (call.Ctl (control_file t) run_bytes) same (run-row kind (control_file t) it.0 (ctl it.1))
    own-row step.List goes is same = row-of Ptree is call.List same lists
    own-row step.Release goes it same = row-of Pstack it.0 _ same (runs_again (ctl it.1))
    own-row step.Close goes it same = absurd (false≢true (sym goes))

    -- a close
    close-row : (o : Option ℕ) → option_map call.Close o ≡ Some c → IsClose c
    close-row None same = absurd (none-some c same)
    close-row (Some number) same = record { handle = number; is = sym (same_Some (call.Close number) c same) }

    -- any call
    pub any-row : (p : Step) → Ready k pid kind s t p → call_of t p ≡ Some c → IsToolCall k pid s kind c ⊎ IsClose c
    unfolding call_of
    any-row step.Close it same = inr (close-row (last_open t.opened) same)
    any-row p it same = inl (own-row p refl it same)
