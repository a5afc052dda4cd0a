use Rattle.std.proofs.Common.{◌≡◌, ◌==◌, ◌≤◌, ◌+◌, ℕ, suc, Bool, true, Option, Some, None, List, [], ◌∷◌, refl, sym, ◌∙◌, ap, arith, inl, inr}
use Rattle.std.proofs.lemmas.Bool.{eqb-true, eqb-false, eq-eqb, ne_eqb, cases_Bool}
use Rattle.std.proofs.lemmas.List.Elements.{All-nil, All-cons, All-head, All-tail}
use Rattle.std.proofs.lemmas.Option.{same_Some, none-some}
use Rattle.std.specs.List.{All, find}
use Rattle.std.specs.Option.{option_map, option_or}
use Rattle.pr_num.proofs.ByIdLemmas.{rises_from-head, rises_from-tail}
use Rattle.pr_num.proofs.SearchLemmas.{All-find, find-passes}
use Rattle.pr_num.specs.Agents.{agent_id}
use Rattle.pr_num.specs.ById.{IsRising, rises_from, under}
use Rattle.pr_num.specs.declared.signals.Sig.{Sig}
use Rattle.pr_laws.proofs.StopLemmas.{chosen, representative-chosen}
use Rattle.pr_model.specs.State.{TracedProcess, TracedLwp, lwp_of}
use Rattle.pr_model.specs.Stops.{class_of_shown, class_of, first_in_class, is_in_class, representative, IsBefore, IsFirstOfClasses}
use Rattle.pr_model.specs.declared.stops.Shown.{Shown}
use Rattle.pr_model.specs.declared.stops.Shown.TheVariants.{Event, Suspended, JobControl}
use Rattle.pr_model.specs.declared.stops.Stop.TheVariants as stop
use Rattle.pr_model.proofs.StateLemmas.{representative-agent}

-- The representative of a process without an agent is of no greater class than any other lwp, and of its class has the
-- least id.

-- no id is below the least one
pub ids-above : {X : Type 0} (low : ℕ) (es : List (ℕ × X)) → rises_from low es ≡ true
    → All (λ (e : ℕ × X). low ≤ e.0) es
ids-above {X} low [] rises = All-nil (λ (d : ℕ × X). low ≤ d.0)
ids-above {X} low (e ∷ es) rises =
    let first = rises_from-head low e es rises in
    let rest = ids-above (e.0 + 1) es (rises_from-tail low e es rises) in
    All-cons (λ (d : ℕ × X). low ≤ d.0) e es first (λ k d lt. let above = rest k d lt in omega arith)

-- what a search among rising ids finds stands under its id
pub find-stands : {X : Type 0} (p : ℕ × X → Bool) (low : ℕ) (es : List (ℕ × X)) (e : ℕ × X) → rises_from low es ≡ true
    → find p es ≡ Some e → under e.0 es ≡ Some e.1
find-stands {X} p low [] e rises found = cc
find-stands {X} p low (d ∷ es) e rises found =
    let tail = rises_from-tail low d es rises in
    elim (cases_Bool (p d)) [
      | inl here ↦ let same : d ≡ e = same_Some d e (rw here at found) in rw
          (same, eq-eqb e.0 e.0 refl) refl
      | inr not_here ↦ let later : find p es ≡ Some e =
          rw not_here at found in let above =
          All-find (λ (x : ℕ × X). d.0 + 1 ≤ x.0) p es e (ids-above (d.0 + 1) es tail) later in rw
          (ne_eqb d.0 e.0 (λ is. absurd (omega arith))) (find-stands p (d.0 + 1) es e tail later)
    ]

module _ {X : Type 0} (class : ℕ × X → ℕ) where
  -- where none is of the least class, all are of greater ones
  none-past : (k : ℕ) (es : List (ℕ × X)) → All (λ e. k ≤ class e) es → find (λ e. class e == k) es ≡ None
      → All (λ e. suc k ≤ class e) es
  none-past k [] all none = All-nil (λ (d : ℕ × X). suc k ≤ class d)
  none-past k (e ∷ es) all none =
      elim (cases_Bool (class e == k)) [
        | inl is ↦ absurd
            (none-some e (sym (rw is at none)))
        | inr is_not ↦ let first =
            All-head (λ (d : ℕ × X). k ≤ class d) e es all in let differs =
            eqb-false (class e) k is_not in All-cons (λ (d : ℕ × X). suc k ≤ class d) e es (omega arith)
            (none-past k es (All-tail (λ (d : ℕ × X). k ≤ class d) e es all) (rw is_not at none))
      ]

  -- the one that is found has the least id of its class
  found-least : (k low : ℕ) (es : List (ℕ × X)) (e : ℕ × X) → rises_from low es ≡ true
      → find (λ d. class d == k) es ≡ Some e → All (λ d. class d ≡ k → e.0 ≤ d.0) es
  found-least k low [] e rises found = cc
  found-least k low (d ∷ es) e rises found =
      let tail = rises_from-tail low d es rises in
      elim (cases_Bool (class d == k)) [
        | inl here ↦ let same : d ≡ e = same_Some d e
            (rw here at found) in let id : d.0 ≡ e.0 = ap (λ (x : ℕ × X). x.0) same in let rest = ids-above
            (d.0 + 1) es tail in All-cons (λ (x : ℕ × X). class x ≡ k → e.0 ≤ x.0) d es (λ _. omega arith)
            (λ i x lt _. let above = rest i x lt in omega arith)
        | inr not_here ↦ All-cons
            (λ (x : ℕ × X). class x ≡ k → e.0 ≤ x.0) d es (λ is. absurd (eqb-false (class d) k not_here is))
            (found-least k (d.0 + 1) es e tail (rw not_here at found))
      ]

class-positive : (o : Option Shown) → 1 ≤ class_of_shown o
class-positive None = omega arith
class-positive (Some (JobControl s)) = omega arith
class-positive (Some (Event stop.Requested)) = omega arith
class-positive (Some (Event (stop.Signalled s))) = omega arith
class-positive (Some (Event (stop.SysEntry c))) = omega arith
class-positive (Some (Event (stop.SysExit c))) = omega arith
class-positive (Some (Event (stop.Faulted f))) = omega arith
class-positive (Some Suspended) = omega arith

regrouped : {X : Type 0} (a b c d e : Option X)
    → option_or (option_or (option_or (option_or a b) c) d) e ≡ option_or a (option_or b (option_or c (option_or d e)))
regrouped (Some x) b c d e = refl
regrouped None (Some x) c d e = refl
regrouped None None (Some x) d e = refl
regrouped None None None d e = refl

module _ (job : Option Sig) (es : List (ℕ × TracedLwp)) (rises : IsRising es) where
  -- an lwp that stands among these, and is before each
  Leads : ℕ × TracedLwp → Type 0
  Leads e = (under e.0 es ≡ Some e.1) × All (IsBefore job e) es

  -- all are of this class or of a greater one
  FromClass : ℕ → Type 0
  FromClass k = All (λ (e : ℕ × TracedLwp). k ≤ class_of job e.1) es

  first-leads : (k : ℕ) (e : ℕ × TracedLwp) → FromClass k → first_in_class job k es ≡ Some e → Leads e
  unfolding FromClass Leads first_in_class
  first-leads k e all found =
      let own : class_of job e.1 ≡ k = eqb-true (class_of job e.1) k (find-passes (is_in_class job k) es e found) in
      let least = found-least (λ (d : ℕ × TracedLwp). class_of job d.1) k 0 es e rises found in (
        find-stands
            (is_in_class job k) 0 es e rises found,
        λ i d lt. let above =
            all i d lt in let low = least i d lt in record { class = omega arith; id = λ same. low (sym same ∙ own) },
      )

  none-in : (k : ℕ) → FromClass k → first_in_class job k es ≡ None → FromClass (suc k)
  unfolding FromClass first_in_class
  none-in k all none = none-past (λ (d : ℕ × TracedLwp). class_of job d.1) k es all none

  all-positive : FromClass 1
  unfolding FromClass class_of
  all-positive i d lt = class-positive _

  -- of two searches the first one leads, or else the second one
  either : (k : ℕ) (e : ℕ × TracedLwp) (later : Option (ℕ × TracedLwp)) → FromClass k
      → (FromClass (suc k) → later ≡ Some e → Leads e) → option_or (first_in_class job k es) later ≡ Some e → Leads e
  either k e later all rest found =
      elim (first_in_class job k es) as
      (λ o. first_in_class job k es ≡ o → option_or o later ≡ Some e → Leads e) [
        | Some d ↦ λ here f. first-leads k e
            all (here ∙ f)
        | None ↦ λ none f. rest (none-in k all none) f
      ] refl found

  chosen-leads : (e : ℕ × TracedLwp) → under agent_id es ≡ None → chosen job es ≡ Some e → Leads e
  unfolding chosen
  chosen-leads e no_agent found =
      let o : ℕ → Option (ℕ × TracedLwp) = λ k. first_in_class job k es in
      let without : chosen job es ≡ option_or (option_or (option_or (option_or (o 1) (o 2)) (o 3)) (o 4)) (o 5) =
      ap (λ a. option_or
      (option_or
      (option_or
      (option_or (option_or (option_map {U = ℕ × TracedLwp} (λ (l : TracedLwp). (agent_id, l)) a) (o 1))
      (o 2)) (o 3)) (o 4)) (o 5)) no_agent in
      either 1 e (option_or (o 2) (option_or (o 3) (option_or (o 4) (o 5)))) all-positive
      (λ two. either 2 e (option_or (o 3) (option_or (o 4) (o 5))) two
      (λ three. either 3 e (option_or (o 4) (o 5)) three
      (λ four. either 4 e (o 5) four (λ five. first-leads 5 e five))))
      (sym (regrouped (o 1) (o 2) (o 3) (o 4) (o 5)) ∙ sym without ∙ found)

pub representative-leads : (p : TracedProcess) (e : ℕ × TracedLwp) → IsRising p.lwps → lwp_of p agent_id ≡ None
    → representative p ≡ Some e → IsFirstOfClasses p e
unfolding Leads
representative-leads p e rises no_agent found =
    let leads = chosen-leads p.job_stop p.lwps rises e no_agent (sym (representative-chosen p) ∙ found) in
    record { stands = leads.0; first = leads.1 }

pub ruleset representatives = (representative-leads, representative-agent)
