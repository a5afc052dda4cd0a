use Rattle.std.proofs.Common.{◌≡◌, ◌||◌, ℕ, zero, suc, Bool, true, false, is_some, None, Some, Option, refl, sym, subst, ap, ◌∙◌, inl, inr}
use Rattle.std.proofs.lemmas.Bool.{cases_eq, false≢true}
use Rattle.std.proofs.lemmas.Option.{same_Some}
use Rattle.pr_laws.proofs.RunLemmas.{representative-stands}
use Rattle.pr_model.specs.LwpTurns.{is_held_back}
use Rattle.pr_model.specs.Running.{with_run}
use Rattle.pr_model.specs.State.{TracedLwp, TracedProcess, has_agent, lwp_of}
use Rattle.pr_model.specs.Stops.{has_event_stop, representative}
use Rattle.pr_model.specs.declared.stops.Stop.{Stop}
use Rattle.pr_num.specs.ById.{IsRising, under}
use Rattle.pr_report_laws.proofs.Machine.FrameLaws.{alone-lwp}
use Rattle.pr_report_laws.proofs.Machine.StoppedLaws.{HasMetFirst, none-under, waits-first}
use Rattle.pr_report_laws.specs.AtBirth.{has_met, is_met_if, met_in}
use Rattle.pr_truss_laws.specs.Stills.{IsFrozen, IsHalting, IsQuiet, IsUndisturbed, StandsOnEvent, will_stop}
use Rattle.pr_function_laws.proofs.OpenedProcesses.StopRuns.{ButOf, IsUnmet, run-unmet, unmet-kept}
use Rattle.pr_function_laws.specs.OneEvent.{HasMetAlone, HasMetNothing, HasOneEventAtMost, met, unmet}

-- A process of which at most one lwp stands on an event that it met.

-- ---- none does

pub none-unmet : (p : TracedProcess) → met_in p ≡ 0 → HasMetNothing p
none-unmet p none n l there = none-under (λ (e : ℕ × TracedLwp). has_met e.1) n l p.lwps there none

pub quiet-unmet : (p : TracedProcess) → IsQuiet p → HasMetNothing p
quiet-unmet p quiet n l there = let free = quiet.each n l there in ap is_met_if free.no_stop

-- ---- one does

still-stops : (a b c : Bool) → a ≡ true → ((a || b) || c) ≡ true
still-stops true b c is = refl
still-stops false b c is = cc

pub stands-stop : (l : TracedLwp) → StandsOnEvent l → has_event_stop l ≡ true
stands-stop l w = ap (λ (o : Option Stop). is_some o) w.is

pub met-halting : (p : TracedProcess) (id : ℕ) → HasMetAlone p id → IsHalting p
met-halting p id w = record {
  each = λ n l there. elim (cases_eq n id) [
    | inl same ↦ own l (subst (λ i. lwp_of p i ≡ Some l) same there)
    | inr other ↦ (let held = w.others n l other there in held.stops)
  ];
}
  where
    own : (l : TracedLwp) → lwp_of p id ≡ Some l → will_stop l ≡ true
    own l there =
        let same : w.lwp ≡ l = same_Some w.lwp l (sym w.there ∙ there) in
        still-stops (has_event_stop l) l.suspended l.control.directed
        (ap has_event_stop (sym same) ∙ stands-stop w.lwp w.stands)

-- the one that does, if one does
pub stands-alone : (p : TracedProcess) → HasOneEventAtMost p → (id : ℕ) (l : TracedLwp) → lwp_of p id ≡ Some l
    → has_met l ≡ true → HasMetAlone p id
stands-alone p (unmet none) id l there has = absurd (false≢true (sym (none id l there) ∙ has))
stands-alone p (met i w) id l there has = elim (cases_eq id i) [
  | inl same ↦ subst (HasMetAlone p) (sym same) w
  | inr other ↦ absurd (false≢true (sym (let held = w.others id l other there in held.met_nothing) ∙ has))
]

-- it has no turn itself
pub stands-unheld : (p : TracedProcess) (id : ℕ) → HasMetAlone p id → (l : TracedLwp) → lwp_of p id ≡ Some l
    → (x : TracedProcess) (own : ℕ) → is_held_back x own l ≡ false → ⊥
unfolding is_held_back
stands-unheld p id w l there x own free =
    let same : w.lwp ≡ l = same_Some w.lwp l (sym w.there ∙ there) in
    false≢true (sym (held (has_event_stop l) _ free) ∙ ap has_event_stop (sym same) ∙ stands-stop w.lwp w.stands)
  where
    held : (a b : Bool) → (a || b) ≡ false → a ≡ false
    held false b is = refl
    held true b is = cc

module _ (p : TracedProcess) (rises : IsRising p.lwps) (no_agent : has_agent p ≡ false) (frozen : IsFrozen p) where
  -- where the process stands still, that lwp is its representative
  pub met-leads : (id : ℕ) (w : HasMetAlone p id) → representative p ≡ Some (id, w.lwp)
  met-leads id w = first-is first
    where
      own-met : has_met w.lwp ≡ true
      own-met = let stands = w.stands in ap is_met_if stands.is ∙ stands.met

      first : HasMetFirst p
      first = by (met_in p) refl
        where
          by : (n : ℕ) → met_in p ≡ n → HasMetFirst p
          by zero is = absurd (false≢true (sym (none-unmet p is id w.lwp w.there) ∙ own-met))
          by (suc n) is = waits-first p rises no_agent n (record { frozen = frozen; count = is })

      first-is : HasMetFirst p → representative p ≡ Some (id, w.lwp)
      first-is f =
          let there = representative-stands p f.lwp rises f.is in
          f.is ∙ ap (λ (e : ℕ × TracedLwp). Some e) (same f.lwp there f.met)
        where
          same : (e : ℕ × TracedLwp) → lwp_of p e.0 ≡ Some e.1 → has_met e.1 ≡ true → e ≡ (id, w.lwp)
          same e there has = elim (cases_eq e.0 id) [
            | inl here ↦
                let lwp : e.1 ≡ w.lwp = same_Some e.1 w.lwp (sym there ∙ ap (lwp_of p) here ∙ w.there) in
                ap (λ n. (n, e.1)) here ∙ ap (λ (l : TracedLwp). (id, l)) lwp
            | inr other ↦ absurd
                (false≢true (sym (let held = w.others e.0 e.1 other there in held.met_nothing) ∙ has))
          ]

  -- PCRUN, with whatever run flags, leaves none
  pub run-met-nothing : (flags : ℕ) → HasOneEventAtMost p → HasMetNothing (with_run flags p)
  run-met-nothing flags few = run-unmet flags p (by few)
    where
      all : HasMetNothing p → (r : Option (ℕ × TracedLwp)) → ButOf IsUnmet unmet-kept flags p r
      all none None = none
      all none (Some e) = λ n l other there. none n l there

      by : HasOneEventAtMost p → ButOf IsUnmet unmet-kept flags p (representative p)
      by (unmet none) = all none (representative p)
      by (met id w) =
          subst (ButOf IsUnmet unmet-kept flags p) (sym (met-leads id w))
          (λ n l other there. let held = w.others n l other there in held.met_nothing)

-- ---- what others leave

-- a process whose lwps stay, and what it has lent
module _ (p q : TracedProcess) (same : q.lwps ≡ p.lwps) (loan : q.borrower ≡ p.borrower) where
  was : (n : ℕ) (l : TracedLwp) → lwp_of q n ≡ Some l → lwp_of p n ≡ Some l
  was n l there = ap (under n) (sym same) ∙ there

  pub lwps-few : HasOneEventAtMost p → HasOneEventAtMost q
  lwps-few (unmet none) = unmet (λ n l there. none n l (was n l there))
  lwps-few (met id w) =
      met id (record {
        lwp = w.lwp;
        there = ap (under id) same ∙ w.there;
        stands = w.stands;
        awake = w.awake;
        not_lent = λ f is. loan ∙ w.not_lent f is;
        others = λ n l other there. w.others n l other (was n l there);
      })

-- one that others left alone
module _ (p q : TracedProcess) (alone : IsUndisturbed p q) where
  pub alone-few : HasOneEventAtMost p → HasOneEventAtMost q
  alone-few (unmet none) =
      unmet (λ n k there. let a = alone.each n k there in ap has_met a.1.1 ∙ none n a.0 a.1.0)
  alone-few (met id w) =
      let it = alone-lwp p q alone id w.lwp w.there in
      let stands = w.stands in
      met id (record {
        lwp = it.0;
        there = it.1.0;
        stands = record {
          stop = stands.stop;
          is = sym (ap (λ (x : TracedLwp). x.control.stop) it.1.1) ∙ stands.is;
          met = stands.met;
        };
        awake = λ f at.
            sym (ap (λ (x : TracedLwp). x.suspended) it.1.1)
            ∙ w.awake f (ap (λ (x : TracedLwp). x.control.stop) it.1.1 ∙ at);
        not_lent = λ f at.
            (alone.memory.own (w.not_lent f (ap (λ (x : TracedLwp). x.control.stop) it.1.1 ∙ at))).0;
        others = λ n k other there.
            let a = alone.each n k there in
            let held = w.others n a.0 other a.1.0 in
            record { stops = ap will_stop a.1.1 ∙ held.stops; met_nothing = ap has_met a.1.1 ∙ held.met_nothing };
      })
