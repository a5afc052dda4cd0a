use Rattle.std.proofs.Common.{◌≡◌, ◌||◌, ◌&&◌, ◌<◌, ◌≤◌, ◌-◌, ◌%◌, ◌^◌, ℕ, Bool, true, false, not, refl, sym, ap, ◌∙◌, arith}
use Rattle.std.proofs.lemmas.Nat.{and_mask}
use Rattle.std.proofs.lemmas.Nat.Bits.{and_high}
use Rattle.pr_line.specs.declared.events.Event.{Event}
use Rattle.pr_line.specs.declared.options.Options.{Options}
use Rattle.pr_model.specs.Messages.{tracing_entries, tracing_exits, tracing_faults, tracing_signals, with_control, with_modes, without_modes}
use Rattle.pr_model.specs.State.{TracedControl, TracedProcess, has_agent}
use Rattle.pr_model.specs.Statuses.{lwpstatus_of}
use Rattle.pr_model.specs.Stops.{is_stopped, representative}
use Rattle.pr_num.proofs.SetLemmas.{has_flags-one, has_number-minus, has_number-union, has_number-zero}
use Rattle.pr_num.specs.Control.{async_mode, fork_mode, has_flags, klc_mode, rlc_mode}
use Rattle.pr_num.specs.Sets.{has_number, minus_word, union_word, without_number}
use Rattle.pr_num.specs.Signals.{signal_number}
use Rattle.pr_num.specs.declared.signals.Sig.TheVariants.{Kill}
use Rattle.pr_truss.specs.Messages.{all_modes}
use Rattle.pr_truss_laws.specs.Stills.{IsFrozen, IsHalting, IsQuiet}
use Rattle.pr_report_laws.proofs.Invariant.Positions.{HasEvent, IsTracedBy, Waits}

-- What the messages of truss make of what is set on a process, field by field, and that its lwps stand as they stood.

-- ---- one field changes

pub signals-traced : (w : ℕ) (p : TracedProcess)
    → (with_control (tracing_signals w) p).control ≡ record p.control {
      traced_signals = without_number w
          (signal_number Kill);
    }
unfolding with_control tracing_signals
signals-traced w p = refl

pub faults-traced : (w : ℕ) (p : TracedProcess)
    → (with_control (tracing_faults w) p).control ≡ record p.control { traced_faults = w }
unfolding with_control tracing_faults
faults-traced w p = refl

pub entries-traced : (w : ℕ) (p : TracedProcess)
    → (with_control (tracing_entries w) p).control ≡ record p.control { traced_entries = w }
unfolding with_control tracing_entries
entries-traced w p = refl

pub exits-traced : (w : ℕ) (p : TracedProcess)
    → (with_control (tracing_exits w) p).control ≡ record p.control { traced_exits = w }
unfolding with_control tracing_exits
exits-traced w p = refl

pub modes-added : (w : ℕ) (p : TracedProcess)
    → (with_control (with_modes w) p).control ≡ record p.control { modes = union_word p.control.modes w }
unfolding with_control with_modes
modes-added w p = refl

pub modes-taken : (w : ℕ) (p : TracedProcess)
    → (with_control (without_modes w) p).control ≡ record p.control { modes = minus_word p.control.modes w }
unfolding with_control without_modes
modes-taken w p = refl

and-true : (b : Bool) → (b && true) ≡ b
and-true true = refl
and-true false = refl

-- the lowest bits of a number that is no word have its entries
pub wrapped-has : (w n : ℕ) → 1 ≤ n → n ≤ 64 → has_number (w % 2 ^ 64) n ≡ has_number w n
unfolding has_number minus_word
wrapped-has w n least most =
    ap (λ x. has_number x n) (sym (and_mask w 64)) ∙ has_number-minus w 0 n (omega arith) least most
    ∙ ap (λ b. has_number w n && not b) (has_number-zero n) ∙ and-true (has_number w n)

-- ---- modes

-- neither PR_ASYNC nor PR_KLC is set
pub record HasPlainModes (c : TracedControl) : Type 0 where
  pub directs : has_flags c.modes async_mode ≡ false
  pub spares : has_flags c.modes klc_mode ≡ false

and-false : (b : Bool) → (b && false) ≡ false
and-false true = refl
and-false false = refl

or-false : (b : Bool) → (b || false) ≡ b
or-false true = refl
or-false false = refl

or-true : (b : Bool) → (b || true) ≡ true
or-true true = refl
or-true false = refl

-- a flag of which modes that are added, or taken away, have nothing
pub other-added : (modes w n : ℕ) → 1 ≤ n → has_number w n ≡ false
    → has_flags (union_word modes w) (2 ^ (n - 1)) ≡ has_flags modes (2 ^ (n - 1))
other-added modes w n least none =
    has_flags-one (union_word modes w) n least ∙ has_number-union modes w n ∙ ap (λ b. has_number modes n || b) none
    ∙ or-false (has_number modes n) ∙ sym (has_flags-one modes n least)

pub other-taken : (modes w n : ℕ) → w < 2 ^ 64 → 1 ≤ n → n ≤ 64 → has_number w n ≡ false
    → has_flags (minus_word modes w) (2 ^ (n - 1)) ≡ has_flags modes (2 ^ (n - 1))
other-taken modes w n small least most none =
    has_flags-one (minus_word modes w) n least ∙ has_number-minus modes w n small least most
    ∙ ap (λ b. has_number modes n && not b) none ∙ and-true (has_number modes n) ∙ sym (has_flags-one modes n least)

-- a flag that is added, or taken away
pub own-added : (modes w n : ℕ) → 1 ≤ n → has_number w n ≡ true → has_flags (union_word modes w) (2 ^ (n - 1)) ≡ true
own-added modes w n least is =
    has_flags-one (union_word modes w) n least ∙ has_number-union modes w n ∙ ap (λ b. has_number modes n || b) is
    ∙ or-true (has_number modes n)

pub own-taken : (modes w n : ℕ) → w < 2 ^ 64 → 1 ≤ n → n ≤ 64 → has_number w n ≡ true
    → has_flags (minus_word modes w) (2 ^ (n - 1)) ≡ false
own-taken modes w n small least most is =
    has_flags-one (minus_word modes w) n least ∙ has_number-minus modes w n small least most
    ∙ ap (λ b. has_number modes n && not b) is ∙ and-false (has_number modes n)

-- the opening of a process clears all modes
pub cleared-plain : (c : TracedControl) → HasPlainModes (without_modes all_modes c)
unfolding without_modes has_number
cleared-plain c = record {
  directs = own-taken c.modes all_modes 4 (omega arith) (omega arith) (omega arith) refl;
  spares = own-taken c.modes all_modes 3 (omega arith) (omega arith) (omega arith) refl;
}

pub cleared-none : (c : TracedControl) → c.modes < 16 → (without_modes all_modes c).modes ≡ 0
unfolding without_modes minus_word
cleared-none c small = and_high c.modes 60 4 ∙ omega arith

pub release-plain : (c : TracedControl) → HasPlainModes c → HasPlainModes (with_modes rlc_mode c)
unfolding with_modes has_number
release-plain c h = record {
  directs = other-added c.modes rlc_mode 4 (omega arith) refl ∙ h.directs;
  spares = other-added c.modes rlc_mode 3 (omega arith) refl ∙ h.spares;
}

pub follow-plain : (c : TracedControl) → HasPlainModes c → HasPlainModes (with_modes fork_mode c)
unfolding with_modes has_number
follow-plain c h = record {
  directs = other-added c.modes fork_mode 4 (omega arith) refl ∙ h.directs;
  spares = other-added c.modes fork_mode 3 (omega arith) refl ∙ h.spares;
}

pub unfollow-plain : (c : TracedControl) → HasPlainModes c → HasPlainModes (without_modes fork_mode c)
unfolding without_modes has_number
unfollow-plain c h = record {
  directs = other-taken c.modes fork_mode 4 (omega arith) (omega arith) (omega arith) refl ∙ h.directs;
  spares = other-taken c.modes fork_mode 3 (omega arith) (omega arith) (omega arith) refl ∙ h.spares;
}

-- PR_RLC and PR_FORK themselves
pub release-has : (c : TracedControl) → has_flags (with_modes rlc_mode c).modes rlc_mode ≡ true
unfolding with_modes has_number
release-has c = own-added c.modes rlc_mode 2 (omega arith) refl

pub follow-has : (c : TracedControl) → has_flags (with_modes fork_mode c).modes fork_mode ≡ true
unfolding with_modes has_number
follow-has c = own-added c.modes fork_mode 1 (omega arith) refl

pub unfollow-has : (c : TracedControl) → has_flags (without_modes fork_mode c).modes fork_mode ≡ false
unfolding without_modes has_number
unfollow-has c = own-taken c.modes fork_mode 1 (omega arith) (omega arith) (omega arith) refl

-- ---- a process that is traced stays so under other modes

pub plain-of : (o : Options) (p : TracedProcess) → IsTracedBy o p → HasPlainModes p.control
plain-of o p t = record { directs = t.directs; spares = t.spares }

pub traced-release : (o : Options) (p : TracedProcess) → IsTracedBy o p
    → IsTracedBy o (with_control (with_modes rlc_mode) p)
unfolding with_control with_modes
traced-release o p t =
    let h = release-plain p.control (plain-of o p t) in
    record {
      signals = t.signals;
      faults = t.faults;
      entries = t.entries;
      exits = t.exits;
      directs = h.directs;
      spares = h.spares;
      no_agent = t.no_agent;
    }

pub traced-follow : (o : Options) (p : TracedProcess) → IsTracedBy o p
    → IsTracedBy o (with_control (with_modes fork_mode) p)
unfolding with_control with_modes
traced-follow o p t =
    let h = follow-plain p.control (plain-of o p t) in
    record {
      signals = t.signals;
      faults = t.faults;
      entries = t.entries;
      exits = t.exits;
      directs = h.directs;
      spares = h.spares;
      no_agent = t.no_agent;
    }

pub traced-unfollow : (o : Options) (p : TracedProcess) → IsTracedBy o p
    → IsTracedBy o (with_control (without_modes fork_mode) p)
unfolding with_control without_modes
traced-unfollow o p t =
    let h = unfollow-plain p.control (plain-of o p t) in
    record {
      signals = t.signals;
      faults = t.faults;
      entries = t.entries;
      exits = t.exits;
      directs = h.directs;
      spares = h.spares;
      no_agent = t.no_agent;
    }

-- ---- the lwps stand as they stood

module _ (change : TracedControl → TracedControl) (p : TracedProcess) where
  pub set-lwps : (with_control change p).lwps ≡ p.lwps
  unfolding with_control
  set-lwps = refl

  pub set-agent : has_agent (with_control change p) ≡ has_agent p
  unfolding with_control
  set-agent = refl

  pub set-representative : representative (with_control change p) ≡ representative p
  unfolding with_control representative
  set-representative = refl

  pub set-stopped : is_stopped (with_control change p) ≡ is_stopped p
  unfolding with_control representative is_stopped
  set-stopped = refl

  pub set-frozen : IsFrozen p → IsFrozen (with_control change p)
  unfolding with_control
  set-frozen f = record { each = f.each }

  pub set-halting : IsHalting p → IsHalting (with_control change p)
  unfolding with_control
  set-halting f = record { each = f.each }

  pub set-quiet : IsQuiet p → IsQuiet (with_control change p)
  unfolding with_control
  set-quiet f = record { each = f.each }

  pub set-waits : (n : ℕ) → Waits p n → Waits (with_control change p) n
  unfolding with_control
  set-waits n w = record { frozen = set-frozen w.frozen; count = w.count }

  pub set-event : (id : ℕ) (event : Event) → HasEvent p id event → HasEvent (with_control change p) id event
  unfolding with_control lwpstatus_of
  set-event id event h = record { lwp = h.lwp; there = h.there; stands = h.stands; tells = h.tells; others = h.others }
