use Rattle.std.proofs.Common.{◌≡◌, ◌==◌, ℕ, Bool, true, false, cond, Option, Some, None, List, [], refl, sym, ap, subst, ◌∙◌, inl, inr}
use Rattle.std.proofs.lemmas.Bool.{cases_Bool, eqb-true, eqb-false, ne_eqb}
use Rattle.std.proofs.lemmas.Option.{none-some, same_Some}
use Rattle.std.specs.List.{slice_set}
use Rattle.pr_api.specs.Steps.{IsCalled}
use Rattle.pr_api.specs.Views.{IsLawful as IsLawfulView, KernelView}
use Rattle.pr_laws.proofs.CloseLemmas.{released-after}
use Rattle.pr_laws.specs.LastCloses.{IsReleased}
use Rattle.pr_lawful.proofs.LawfulStates.CallLemmas.{call-state}
use Rattle.pr_lawful.proofs.ProcessParts.HandleLemmas.{handle-at}
use Rattle.pr_model.specs.Calls.{Answer, answer_to, controlled}
use Rattle.pr_model.specs.ControlMessages.{aim_of, decoded_answer, system_refusal, tail_of, targeted_answer}
use Rattle.pr_model.specs.Handles.{after_last_close, handle_of, was_last_writer, with_closed}
use Rattle.pr_model.specs.Messages.{at_process, message_answer, refused, with_control, with_modes, with_process_changed, without_modes}
use Rattle.pr_model.specs.State.{Places, TracedControl, TracedProcess, TracedState, TracedSystem, live_process}
use Rattle.pr_model.specs.declared.calls.Call.TheVariants as call
use Rattle.pr_model.specs.declared.handles.Held.{Held}
use Rattle.pr_num.specs.Control.{has_flags, klc_mode, rlc_mode}
use Rattle.pr_num.specs.Messages.{spelling}
use Rattle.pr_truss_laws.proofs.Files.OpensLemmas.{ClosesOne, close-closes, own-other, own-set}
use Rattle.pr_truss_laws.proofs.Files.ReleaseLemmas.{was-last}
use Rattle.pr_truss_laws.proofs.Machine.StillLemmas.{live-changed}
use Rattle.pr_truss_laws.proofs.Machine.TakenLemmas.{ctl-is}
use Rattle.own_tracer.proofs.GoingLemmas.{call-goes, goes-on, made-is}
use Rattle.own_tracer.proofs.HoldingLemmas.{plain-holds}
use Rattle.own_tracer.proofs.OrderLemmas.{closes-control, order-reads, orders-control, releases, spared, still-spared}
use Rattle.own_tracer.specs.Going.{Goes, Stands}
use Rattle.own_tracer.specs.Orders.{message_of, order_call}
use Rattle.own_tracer.specs.Stances.{HasLeft, Holds, gripped}
use Rattle.own_tracer.specs.declared.attaching.Grip.{Grip}
use Rattle.own_tracer.specs.declared.orders.Order.{Order}
use Rattle.own_tracer.specs.declared.orders.Order.TheVariants.{Spare, Release}

-- The way out: the modes are set so that the last close releases the process, and then the control file is closed.

-- ---- what an order makes of the process that is held

module _ (g : Grip) (s : TracedState) (h : Holds g s) (o : Order) (a : Answer)
    (is : answer_to s 0 (order_call g.control o) ≡ Some a) where
  bytes : List ℕ
  bytes = spelling (message_of o) []

  answer-is : (found : Option TracedProcess) → live_process s.system g.pid ≡ found
      → a ≡ controlled s (targeted_answer s.system (gripped g.pid) found (spelling (message_of o) []))
  answer-is found at =
      ctl-is s 0 g.control (gripped g.pid) h.held refl (spelling (message_of o) []) a is
      ∙ ap (λ x. controlled s (targeted_answer s.system (gripped g.pid) x (spelling (message_of o) []))) at

  -- nobody is made live by it
  none-made : live_process s.system g.pid ≡ None → live_process a.state.system g.pid ≡ None
  none-made at = ap (λ (x : Answer). live_process x.state.system g.pid) (answer-is None at) ∙ at

  row-is : (p : TracedProcess) → live_process s.system g.pid ≡ Some p
      → a ≡ controlled s
      (message_answer s.system g.pid p at_process (message_of o)
      (tail_of (message_of o) (spelling (message_of o) [])) 16)
  row-is p at =
      answer-is (Some p) at
      ∙ ap (λ r. controlled s (decoded_answer s.system (gripped g.pid) p (spelling (message_of o) []) r))
      (order-reads o)
      ∙ ap (λ b. controlled s
      (cond b (refused s.system (system_refusal (message_of o)))
      (message_answer s.system g.pid p (aim_of (gripped g.pid)) (message_of o)
      (tail_of (message_of o) (spelling (message_of o) [])) 16))) (ne_eqb g.pid 0 h.some)

  module _ (change : TracedControl → TracedControl) (row : (p : TracedProcess) (tail : List ℕ) (len : ℕ)
      → message_answer s.system g.pid p at_process (message_of o) tail len
      ≡ with_process_changed s.system g.pid p len (with_control change)) where
    changed : (p : TracedProcess) → live_process s.system g.pid ≡ Some p
        → live_process a.state.system g.pid ≡ Some (with_control change p)
    unfolding with_control
    changed p at =
        ap (λ (x : Answer). live_process x.state.system g.pid)
        (row-is p at ∙ ap (controlled s) (row p (tail_of (message_of o) (spelling (message_of o) [])) 16))
        ∙ live-changed s.system g.pid (with_control change) p at refl

    -- which process it was that lives then
    pub was : (q : TracedProcess) → live_process a.state.system g.pid ≡ Some q
        → (p : TracedProcess) × ((live_process s.system g.pid ≡ Some p) × (q ≡ with_control change p))
    was q now = by (live_process s.system g.pid) refl
      where
        by : (found : Option TracedProcess) → live_process s.system g.pid ≡ found
            → (p : TracedProcess) × ((live_process s.system g.pid ≡ Some p) × (q ≡ with_control change p))
        by None at = absurd (none-some q (sym (none-made at) ∙ now))
        by (Some p) at = (p, (at, same_Some q (with_control change p) (sym now ∙ changed p at)))

  pub sent-holds : Holds g a.state
  sent-holds = plain-holds g s (order_call g.control o) a h refl is

spare-row : (s : TracedSystem) (pid : ℕ) (p : TracedProcess) (tail : List ℕ) (len : ℕ)
    → message_answer s pid p at_process (message_of Spare) tail len
    ≡ with_process_changed s pid p len (with_control (without_modes klc_mode))
unfolding message_of message_answer
spare-row s pid p tail len = refl

release-row : (s : TracedSystem) (pid : ℕ) (p : TracedProcess) (tail : List ℕ) (len : ℕ)
    → message_answer s pid p at_process (message_of Release) tail len
    ≡ with_process_changed s pid p len (with_control (with_modes rlc_mode))
unfolding message_of message_answer
release-row s pid p tail len = refl

-- ---- the modes, order by order

-- the process, if it lives, is not killed when its last writer closes; and it is released then
pub record IsSpared (g : Grip) (s : TracedState) : Type 0 where
  pub holds : Holds g s
  pub spares : (p : TracedProcess) → live_process s.system g.pid ≡ Some p → has_flags p.control.modes klc_mode ≡ false

pub record IsReady (g : Grip) (s : TracedState) : Type 0 where
  pub holds : Holds g s
  pub spares : (p : TracedProcess) → live_process s.system g.pid ≡ Some p → has_flags p.control.modes klc_mode ≡ false
  pub runs : (p : TracedProcess) → live_process s.system g.pid ≡ Some p → has_flags p.control.modes rlc_mode ≡ true

pub spare-spares : (g : Grip) (s : TracedState) (a : Answer) → Holds g s
    → answer_to s 0 (order_call g.control Spare) ≡ Some a → IsSpared g a.state
spare-spares g s a h is = record {
  holds = sent-holds g s h Spare a is;
  spares = λ q now. let w = was g s h Spare a is (without_modes klc_mode) (spare-row s.system g.pid) q now in
      subst (λ (x : TracedProcess). has_flags x.control.modes klc_mode ≡ false) (sym w.1.1) (spared w.0);
}

pub release-readies : (g : Grip) (s : TracedState) (a : Answer) → IsSpared g s
    → answer_to s 0 (order_call g.control Release) ≡ Some a → IsReady g a.state
release-readies g s a h is = record {
  holds = sent-holds g s h.holds Release a is;
  spares = λ q now. let w = was g s h.holds Release a is (with_modes rlc_mode) (release-row s.system g.pid) q now in
      subst (λ (x : TracedProcess). has_flags x.control.modes klc_mode ≡ false) (sym w.1.1)
      (still-spared w.0 ∙ h.spares w.0 w.1.0);
  runs = λ q now. let w = was g s h.holds Release a is (with_modes rlc_mode) (release-row s.system g.pid) q now in
      subst (λ (x : TracedProcess). has_flags x.control.modes rlc_mode ≡ true) (sym w.1.1) (releases w.0);
}

-- ---- the close

module _ (g : Grip) (s : TracedState) (h : IsReady g s) (a : Answer)
    (is : answer_to s 0 (call.Close g.control) ≡ Some a) where
  closes : ClosesOne s 0 g.control (gripped g.pid) a
  closes = elim (close-closes s 0 g.control a is) [
    | inl none ↦ absurd (none-some (gripped g.pid) (sym none.none ∙ h.holds.held))
    | inr one ↦ subst (λ (x : Held). ClosesOne s 0 g.control x a)
        (same_Some one.0 (gripped g.pid) (sym one.1.held ∙ h.holds.held)) one.1
  ]

  last : was_last_writer (gripped g.pid) (slice_set s.opens g.control None) ≡ true
  last =
      was-last s.opens g.control (gripped g.pid) (handle-at s.opens 0 g.control (gripped g.pid) h.holds.held) refl
      h.holds.lawful.exclusive

  none-open : (m : ℕ) → handle_of a.state.opens 0 m ≡ None
  none-open m = elim (cases_Bool (g.control == m)) [
    | inl same ↦ subst (λ (n : ℕ). handle_of a.state.opens 0 n ≡ None) (eqb-true g.control m same)
        (ap (λ (x : Places). handle_of x 0 g.control) closes.is
        ∙ own-set s.opens 0 g.control None (Some (gripped g.pid))
        (handle-at s.opens 0 g.control (gripped g.pid) h.holds.held))
    | inr not ↦ ap (λ (x : Places). handle_of x 0 m) closes.is
        ∙ own-other s.opens 0 g.control m None (eqb-false g.control m not)
        ∙ h.holds.others m (eqb-false g.control m not)
  ]

  none-lives : live_process s.system g.pid ≡ None → live_process a.state.system g.pid ≡ None
  unfolding with_closed
  none-lives at =
      ap (λ (x : TracedState). live_process x.system g.pid) closes.state
      ∙ by (was_last_writer (gripped g.pid) (slice_set s.opens g.control None))
    where
      by : (b : Bool)
          → live_process (cond b (after_last_close g.pid (live_process s.system g.pid) s.system) s.system) g.pid ≡ None
      by true = ap (λ o. live_process (after_last_close g.pid o s.system) g.pid) at ∙ at
      by false = at

  freed : (q : TracedProcess) → live_process a.state.system g.pid ≡ Some q → IsReleased q
  freed q now = by (live_process s.system g.pid) refl
    where
      by : (found : Option TracedProcess) → live_process s.system g.pid ≡ found → IsReleased q
      by None at = absurd (none-some q (sym (none-lives at) ∙ now))
      by (Some p) at =
          let r = released-after s (gripped g.pid) g.control p last at (h.runs p at) (h.spares p at) in
          subst IsReleased
          (same_Some r.0 q
          (sym r.1.0 ∙ ap (λ (x : TracedState). live_process x.system g.pid) (sym closes.state) ∙ now)) r.1.1

  pub close-leaves : HasLeft g.pid a.state
  close-leaves = record {
    nothing =
        record {
          lawful = call-state s h.holds.lawful 0 (call.Close g.control) a is;
          nothing = record { none = none-open };
        };
    free = freed;
  }

-- ---- the three calls

pub leave-goes : (g : Grip) (a b c d : KernelView) → IsLawfulView b → IsLawfulView c → IsLawfulView d
    → Stands (Holds g) a → IsCalled 0 (order_call g.control Spare) a b → IsCalled 0 (order_call g.control Release) b c
    → IsCalled 0 (call.Close g.control) c d → Goes (HasLeft g.pid) a d
leave-goes g a b c d lawful_b lawful_c lawful_d stands one two three =
    let first =
    call-goes (order_call g.control Spare) a b one stands.is (IsSpared g) lawful_b (orders-control g.control Spare)
    (spare-spares g stands.is.state _ stands.holds (made-is (order_call g.control Spare) a b one stands.is)) in
    let second =
    call-goes (order_call g.control Release) b c two first.stands.is (IsReady g) lawful_c
    (orders-control g.control Release)
    (release-readies g first.stands.is.state _ first.stands.holds
    (made-is (order_call g.control Release) b c two first.stands.is)) in
    let third =
    call-goes (call.Close g.control) c d three second.stands.is (HasLeft g.pid) lawful_d (closes-control g.control)
    (close-leaves g second.stands.is.state second.stands.holds _
    (made-is (call.Close g.control) c d three second.stands.is)) in
    goes-on (IsSpared g) (HasLeft g.pid) a b d first (goes-on (IsReady g) (HasLeft g.pid) b c d second third)
