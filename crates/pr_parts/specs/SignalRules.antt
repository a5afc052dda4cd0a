use Rattle.std.specs.Prelude.{◌==◌, ℕ, Option, nat_lt, if◌then◌else◌}
use Rattle.std.specs.Option.{option_or}
use Rattle.pr_num.specs.Sets.{minus_word, with_number}
use Rattle.pr_num.specs.Signals.{signal_number, default_action, least_signal}
use Rattle.pr_num.specs.declared.signals.Sig.{Sig}
use Rattle.pr_num.specs.declared.signals.Sig.TheVariants.{Cont, Stop, Tstp, Ttin, Ttou}
use Rattle.pr_num.specs.declared.signals.DefAct.{DefAct}
use Rattle.pr_num.specs.declared.signals.DefAct.TheVariants as default
use Rattle.pr_parts.specs.declared.actions.Action.{Action}
use Rattle.pr_parts.specs.declared.actions.Action.TheVariants as act

-- The rules of signals, where sets of signals are words (signal.h(3HEAD), sigaction(2), sigprocmask(2)).

-- The signal that an lwp takes next: the least of its own pending signals that it does not hold, else the least such
-- signal that is pending for its process.
unfoldable pub takeable_signal : ℕ → ℕ → ℕ → Option Sig
takeable_signal own shared held = option_or (least_signal (minus_word own held)) (least_signal (minus_word shared held))

-- the stop signals, which are made to stop a process, SIGSTOP, SIGTSTP, SIGTTIN and SIGTTOU
unfoldable pub stop_signals : ℕ
stop_signals =
    with_number
    (with_number (with_number (with_number 0 (signal_number Stop)) (signal_number Tstp)) (signal_number Ttin))
    (signal_number Ttou)

-- SIGCONT alone
unfoldable pub continue_signal : ℕ
continue_signal = with_number 0 (signal_number Cont)

-- The pending signals that are deleted when a signal is generated: SIGCONT deletes the stop signals, and a stop signal
-- deletes SIGCONT, since the later of the two is what counts. No other signal deletes any.
unfoldable pub deleted_by : Sig → ℕ
deleted_by Cont = stop_signals
deleted_by Stop = continue_signal
deleted_by Tstp = continue_signal
deleted_by Ttin = continue_signal
deleted_by Ttou = continue_signal
deleted_by _ = 0

-- what is done by default, as an action
abbrev pub by_default : DefAct → Action
by_default default.Die = act.Die
by_default default.Ignore = act.Ignore
by_default default.Stop = act.Stop

-- What a signal does under a disposition: 0 is the default action, 1 ignores it, and any other is the address of the
-- handler that catches it.
unfoldable pub action_of : Sig → ℕ → Action
action_of s disposition =
    if nat_lt 1 disposition then act.Catch disposition else
    (if disposition == 1 then act.Ignore else by_default (default_action s))
