use Rattle.std.specs.Prelude.{ℕ, Bool, Option, Some, None, option_map, if◌then◌else◌}
use Rattle.pr_model.specs.Messages.{Controlled, refused, lwp_without_one, tracing_entries, tracing_exits, tracing_faults, tracing_signals, with_address, with_held_set, with_modes, with_process_changed, with_registers, with_signal_set, without_modes}
use Rattle.pr_model.specs.Running.{without_current, without_fault}
use Rattle.pr_model.specs.State.{TracedControl, TracedLwp, TracedProcess, TracedSystem, lwp_of, with_lwp}
use Rattle.pr_model.specs.Stops.{has_event_stop, representative}
use Rattle.pr_model.specs.declared.calls.Reply.TheVariants.{Used}
use Rattle.pr_num.specs.declared.errnos.Errno.TheVariants.{Busy}
use Rattle.pr_ctl.specs.declared.aims.Aimed.{Aimed}
use Rattle.pr_ctl.specs.declared.lwp_changes.LwpChange.{LwpChange}
use Rattle.pr_ctl.specs.declared.lwp_changes.LwpChange.TheVariants as lwp
use Rattle.pr_ctl.specs.declared.settings.Setting.{Setting}
use Rattle.pr_ctl.specs.declared.settings.Setting.TheVariants as setting

-- What messages change, as values, a row a message.

-- of an lwp
unfoldable pub lwp_changed : LwpChange → TracedLwp → TracedLwp
lwp_changed lwp.ClearSignal = without_current
lwp_changed lwp.ClearFault = without_fault
lwp_changed (lwp.SetSignal signal) = with_signal_set signal
lwp_changed (lwp.Hold signals) = with_held_set signals
lwp_changed (lwp.SetRegisters regs) = with_registers regs
lwp_changed (lwp.SetAddress pc) = with_address pc
lwp_changed (lwp.Unkill signal) = lwp_without_one signal

-- of what is set on a process
unfoldable pub set_by : Setting → TracedControl → TracedControl
set_by (setting.Signals signals) = tracing_signals signals
set_by (setting.Faults faults) = tracing_faults faults
set_by (setting.Entries calls) = tracing_entries calls
set_by (setting.Exits calls) = tracing_exits calls
set_by (setting.Set modes) = with_modes modes
set_by (setting.Unset modes) = without_modes modes

-- ---- the lwp that a message acts on

-- its id, and whether it stands on an event of interest
abbrev pub aimed_of : ℕ × TracedLwp → Aimed
aimed_of e = record { id = e.0; on_event = has_event_stop e.1 }

abbrev pub aimed_found : ℕ → Option TracedLwp → Option Aimed
aimed_found id None = None
aimed_found id (Some l) = Some (aimed_of (id, l))

unfoldable pub aimed_by : TracedProcess → Option ℕ → Option Aimed
aimed_by p None = option_map aimed_of (representative p)
aimed_by p (Some id) = aimed_found id (lwp_of p id)

-- it changed, if there is one
unfoldable pub aimed_changed : TracedSystem → ℕ → TracedProcess → ℕ → (TracedLwp → TracedLwp) → Option Aimed
    → Controlled
aimed_changed s pid p len change None = record { system = s; reply = Used len }
aimed_changed s pid p len change (Some a) = with_process_changed s pid p len (with_lwp a.id change)

-- it changed, if it stands on an event of interest
abbrev pub changed_if : TracedSystem → ℕ → TracedProcess → ℕ → (TracedLwp → TracedLwp) → ℕ → Bool → Controlled
changed_if s pid p len change id on_event =
    if on_event then with_process_changed s pid p len (with_lwp id change) else refused s Busy

unfoldable pub stopped_changed : TracedSystem → ℕ → TracedProcess → ℕ → (TracedLwp → TracedLwp) → Option Aimed
    → Controlled
stopped_changed s pid p len change None = refused s Busy
stopped_changed s pid p len change (Some a) = changed_if s pid p len change a.id a.on_event
