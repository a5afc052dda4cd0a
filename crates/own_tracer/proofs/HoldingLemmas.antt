use Rattle.std.proofs.Common.{◌≡◌, ◌≢◌, ℕ, true, Option, Some, None, refl, sym, ap, subst, ◌∙◌, inl, inr}
use Rattle.pr_lawful.proofs.LawfulStates.CallLemmas.{call-state}
use Rattle.pr_model.specs.Calls.{Answer, answer_to}
use Rattle.pr_model.specs.Handles.{handle_of, own}
use Rattle.pr_model.specs.Lawful.{IsLawful}
use Rattle.pr_model.specs.Replies.{opened_in}
use Rattle.pr_model.specs.State.{Places, TracedState}
use Rattle.pr_model.specs.declared.calls.Call.{Call}
use Rattle.pr_model.specs.declared.calls.File.TheVariants.{Ctl}
use Rattle.pr_model.specs.declared.calls.Mode.TheVariants.{WriteExcl}
use Rattle.pr_model.specs.declared.calls.Reply.{Reply}
use Rattle.pr_truss_laws.proofs.Files.OpensLemmas.{Opens, Refuses, keeps_handles, open-opens, own-other, own-set, plain-leaves}
use Rattle.own_tracer.specs.Calls.{open_call}
use Rattle.own_tracer.specs.Stances.{Holds, HoldsNothing, gripped}
use Rattle.own_tracer.specs.declared.attaching.Grip.{Grip}

-- What the injector has open, call by call.

-- ---- what is kept with the open handles

pub holds-kept : (g : Grip) (s t : TracedState) → Holds g s → IsLawful t → t.opens ≡ s.opens → Holds g t
holds-kept g s t h lawful same = record {
  lawful = lawful;
  some = h.some;
  held = ap (λ (x : Places). handle_of x 0 g.control) same ∙ h.held;
  others = λ m other. ap (λ (x : Places). handle_of x 0 m) same ∙ h.others m other;
}

pub nothing-kept : (s t : TracedState) → HoldsNothing s → IsLawful t → t.opens ≡ s.opens → HoldsNothing t
nothing-kept s t h lawful same = record {
  lawful = lawful;
  nothing = record { none = λ m. ap (λ (x : Places). handle_of x 0 m) same ∙ h.nothing.none m };
}

pub holds-lawful : (g : Grip) (s : TracedState) → Holds g s → IsLawful s
holds-lawful g s h = h.lawful

pub nothing-lawful : (s : TracedState) → HoldsNothing s → IsLawful s
nothing-lawful s h = h.lawful

-- a call that neither opens nor closes
pub plain-holds : (g : Grip) (s : TracedState) (c : Call) (a : Answer) → Holds g s → keeps_handles c ≡ true
    → answer_to s 0 c ≡ Some a → Holds g a.state
plain-holds g s c a h plain is =
    holds-kept g s a.state h (call-state s h.lawful 0 c a is) (plain-leaves s 0 c a plain is)

-- ---- the open of a control file

-- what the injector has then: nothing more where the open was refused
abbrev pub Opened : ℕ → Option ℕ → TracedState → Type 0
Opened pid None s = HoldsNothing s
Opened pid (Some control) s = Holds (record { pid = pid; control = control }) s

module _ (pid : ℕ) (some : pid ≢ 0) (s : TracedState) (h : HoldsNothing s) (a : Answer)
    (is : answer_to s 0 (open_call pid) ≡ Some a) where
  lawful-then : IsLawful a.state
  lawful-then = call-state s h.lawful 0 (open_call pid) a is

  refused-holds : Refuses s a.reply a.state.opens → Opened pid (opened_in a.reply) a.state
  unfolding opened_in
  refused-holds r =
      subst (λ (x : Reply). Opened pid (opened_in x) a.state) (sym r.reply) (nothing-kept s a.state h lawful-then r.is)

  own-gripped : own 0 (Some (Some (gripped pid))) ≡ Some (gripped pid)
  own-gripped = refl

  granted : (o : Opens s 0 (gripped pid) a.reply a.state.opens)
      → Holds (record { pid = pid; control = o.place }) a.state
  granted o = record {
    lawful = lawful-then;
    some = some;
    held = ap (λ (x : Places). handle_of x 0 o.place) o.is
        ∙ own-set s.opens 0 o.place (Some (gripped pid)) None o.free ∙ own-gripped;
    others = λ m other. ap (λ (x : Places). handle_of x 0 m) o.is
        ∙ own-other s.opens 0 o.place m (Some (gripped pid)) other ∙ h.nothing.none m;
  }

  granted-holds : Opens s 0 (gripped pid) a.reply a.state.opens → Opened pid (opened_in a.reply) a.state
  unfolding opened_in
  granted-holds o = subst (λ (x : Reply). Opened pid (opened_in x) a.state) (sym o.reply) (granted o)

  pub open-holds : Opened pid (opened_in a.reply) a.state
  open-holds = elim (open-opens s 0 pid 0 Ctl WriteExcl a is) [
    | inl refused ↦ refused-holds refused
    | inr opened ↦ granted-holds opened
  ]
