use Rattle.std.proofs.Common.{◌≡◌, ◌↔◌, ◌⊎◌, ℕ, ◌^◌, ◌<◌, ◌≤◌, Bool, true, false, not, Option, Some, None, refl, sym, ◌∙◌, ap, arith, inl, inr, is_some}
use Rattle.std.proofs.lemmas.Bool.{and_parts, not-true}
use Rattle.std.specs.Option.{option_or}
use Rattle.pr_num.specs.declared.faults.Flt.{Flt}
use Rattle.pr_num.specs.declared.faults.Flt.TheVariants as fault
use Rattle.pr_num.specs.declared.signals.DefAct.{DefAct}
use Rattle.pr_num.specs.declared.signals.DefAct.TheVariants as default
use Rattle.pr_num.specs.declared.signals.Sig.{Sig}
use Rattle.pr_num.specs.declared.signals.Sig.TheVariants.{Stop, Tstp, Cont, Ttin, Ttou}
use Rattle.pr_num.specs.Faults.{fault_signal}
use Rattle.pr_num.specs.Sets.{has_number, minus_word, with_number, union_word}
use Rattle.pr_num.specs.Signals.{signal_number, default_action, least_signal}
use Rattle.pr_num.proofs.NumberedLemmas.{has_number-least_signal, signal_number-range}
use Rattle.pr_num.proofs.SetLemmas.{has_number-minus, has_number-zero}
use Rattle.pr_parts.specs.SignalRules.{takeable_signal, stop_signals, continue_signal, deleted_by}

-- ---- what is taken

one_of : {T : Type 0} (a b : Option T) (x : T) → option_or a b ≡ Some x → (a ≡ Some x) ⊎ (b ≡ Some x)
one_of None b x e = inr e
one_of (Some y) b x e = inl e

-- the least signal of what one set has and another has not is in the first and not in the second
first_of_difference : (w held : ℕ) (s : Sig) → held < 2 ^ 64 → least_signal (minus_word w held) ≡ Some s
    → (has_number w (signal_number s) ≡ true) × (not (has_number held (signal_number s)) ≡ true)
first_of_difference w held s small found =
    let range = signal_number-range s in
    let both =
    sym (has_number-minus w held (signal_number s) small (omega arith) (omega arith))
    ∙ has_number-least_signal _ s found in
    and_parts (has_number w (signal_number s)) _ both

pub pending-taken : (own shared held : ℕ) (s : Sig) → held < 2 ^ 64 → takeable_signal own shared held ≡ Some s
    → (has_number own (signal_number s) ≡ true) ⊎ (has_number shared (signal_number s) ≡ true)
unfolding takeable_signal
pending-taken own shared held s small taken =
    elim (one_of _ _ s taken) [
      | inl e ↦ inl (first_of_difference own held s small e).0
      | inr e ↦ inr (first_of_difference shared held s small e).0
    ]

pub unheld-taken : (own shared held : ℕ) (s : Sig) → held < 2 ^ 64 → takeable_signal own shared held ≡ Some s
    → has_number held (signal_number s) ≡ false
unfolding takeable_signal
unheld-taken own shared held s small taken =
    elim (one_of _ _ s taken) [
      | inl e ↦ not-true _ (first_of_difference own held s small e).1
      | inr e ↦ not-true _ (first_of_difference shared held s small e).1
    ]

-- ---- what is deleted

is_stop : DefAct → Bool
is_stop default.Stop = true
is_stop _ = false

from_is_stop : (d : DefAct) → is_stop d ≡ true → d ≡ default.Stop
unfolding is_stop
from_is_stop default.Stop e = refl
from_is_stop default.Die e = cc
from_is_stop default.Ignore e = cc

has_number-stop : (s : Sig) → has_number stop_signals (signal_number s) ≡ is_stop (default_action s)
unfolding is_stop has_number stop_signals with_number union_word signal_number default_action
has_number-stop Stop = refl
has_number-stop _ = refl

pub stop_signals-are : (s : Sig)
    → (has_number stop_signals (signal_number s) ≡ true) ↔ (default_action s ≡ default.Stop)
unfolding is_stop
stop_signals-are s =
    (λ e. from_is_stop (default_action s) (sym (has_number-stop s) ∙ e), λ e. has_number-stop s ∙ ap is_stop e)

pub deleted_by-symmetric : (s : Sig)
    → has_number (deleted_by s) (signal_number Cont) ≡ has_number (deleted_by Cont) (signal_number s)
unfolding deleted_by continue_signal has_number stop_signals with_number union_word signal_number
deleted_by-symmetric Cont = refl
deleted_by-symmetric _ = refl

pub deleted_by-itself : (s : Sig) → has_number (deleted_by s) (signal_number s) ≡ false
unfolding deleted_by continue_signal has_number stop_signals with_number union_word signal_number
deleted_by-itself Cont = refl
deleted_by-itself _ = refl

-- no fault sends a stop signal or SIGCONT
stop_signals-fault : (f : Flt) → has_number stop_signals (signal_number (fault_signal f)) ≡ false
unfolding fault_signal has_number stop_signals with_number union_word signal_number
stop_signals-fault fault.Ill = refl
stop_signals-fault _ = refl

continue_signal-fault : (f : Flt) → has_number continue_signal (signal_number (fault_signal f)) ≡ false
unfolding fault_signal has_number continue_signal with_number union_word signal_number
continue_signal-fault fault.Ill = refl
continue_signal-fault _ = refl

pub deleted_by-fault : (s : Sig) (f : Flt) → has_number (deleted_by s) (signal_number (fault_signal f)) ≡ false
unfolding deleted_by
deleted_by-fault Cont f = stop_signals-fault f
deleted_by-fault Stop f = continue_signal-fault f
deleted_by-fault Tstp f = continue_signal-fault f
deleted_by-fault Ttin f = continue_signal-fault f
deleted_by-fault Ttou f = continue_signal-fault f
deleted_by-fault _ f = has_number-zero _
