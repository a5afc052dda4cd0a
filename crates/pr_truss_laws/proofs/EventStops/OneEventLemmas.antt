use Rattle.std.proofs.Common.{◌≡◌, ◌≢◌, ◌==◌, ◌||◌, ◌&&◌, ◌≤◌, ◌+◌, ℕ, Bool, true, false, cond, is_some, None, Some, Option, List, [], ◌∷◌, refl, sym, ap, ◌∙◌, arith, inl, inr}
use Rattle.std.proofs.lemmas.Bool.{false≢true, cases_Bool, eqb-true, eqb-false, eq-eqb, ne_eqb}
use Rattle.std.proofs.lemmas.Option.{same_Some, none-some}
use Rattle.std.specs.List.{All, find, list_all, list_any}
use Rattle.std.specs.Option.{option_or}
use Rattle.pr_num.proofs.ByIdLaws.{All-under}
use Rattle.pr_num.proofs.ByIdLemmas.{rises_from-tail}
use Rattle.pr_num.specs.Agents.{agent_id}
use Rattle.pr_num.specs.ById.{IsRising, rises_from, under, without_id}
use Rattle.pr_num.specs.declared.signals.Sig.{Sig}
use Rattle.pr_laws.proofs.RepresentativeLemmas.{ids-above, representative-leads}
use Rattle.pr_laws.proofs.RunLemmas.{all-free, representative-stands, run-granted}
use Rattle.pr_laws.specs.Runs.{IsFree, others_let_run}
use Rattle.pr_model.specs.Running.{lets_run, run_refused, shows_run, with_run}
use Rattle.pr_model.specs.State.{TracedLwp, TracedProcess, has_agent, lwp_of}
use Rattle.pr_model.specs.Stops.{agent_of, class_of, class_of_shown, class_of_stop, first_in_class, has_event_stop, is_in_class, representative, shown, IsBefore, IsFirstOfClasses}
use Rattle.pr_model.specs.declared.stops.Shown.{Shown}
use Rattle.pr_model.specs.declared.stops.Shown.TheVariants.{Event, Suspended, JobControl}
use Rattle.pr_model.specs.declared.stops.Stop.{Stop}
use Rattle.pr_model.specs.declared.stops.Stop.TheVariants as stop
use Rattle.pr_truss_laws.specs.Stills.{HasOneEvent, IsQuiet, StandsOnEvent, is_met}

-- PCRUN of a process of which one lwp stands on an event, and each other one shows a requested stop or a suspension.

-- ---- lists under rising ids

pub under-above : {X : Type 0} (low other : ℕ) (x : X) (es : List (ℕ × X)) → rises_from low es ≡ true
    → under other es ≡ Some x → low ≤ other
under-above {X} low other x es rises at = All-under (λ (e : ℕ × X). low ≤ e.0) other x es (ids-above low es rises) at

pub under-later : {X : Type 0} (low other : ℕ) (x : X) (e : ℕ × X) (es : List (ℕ × X)) → rises_from low (e ∷ es) ≡ true
    → under other es ≡ Some x → under other (e ∷ es) ≡ Some x
under-later low other x e es rises at =
    let above = under-above (e.0 + 1) other x es (rises_from-tail low e es rises) at in
    rw (ne_eqb e.0 other (λ same. absurd (omega arith))) at

pub under-first : {X : Type 0} (e : ℕ × X) (es : List (ℕ × X)) → under e.0 (e ∷ es) ≡ Some e.1
under-first e es = rw (eq-eqb e.0 e.0 refl) refl

both : (a b : Bool) → a ≡ true → b ≡ true → (a && b) ≡ true
both true b p q = q
both false b p q = p

all-of : {X : Type 0} (f : ℕ × X → Bool) (low : ℕ) (es : List (ℕ × X)) → rises_from low es ≡ true
    → ((other : ℕ) (x : X) → under other es ≡ Some x → f (other, x) ≡ true) → list_all f es ≡ true
all-of f low [] rises each = refl
all-of f low (e ∷ es) rises each =
    both (f e) (list_all f es) (each e.0 e.1 (under-first e es))
    (all-of f (e.0 + 1) es (rises_from-tail low e es rises)
    (λ other x at. each other x (under-later low other x e es rises at)))

pub all-others : {X : Type 0} (f : ℕ × X → Bool) (low id : ℕ) (es : List (ℕ × X)) → rises_from low es ≡ true
    → ((other : ℕ) (x : X) → other ≢ id → under other es ≡ Some x → f (other, x) ≡ true)
    → list_all f (without_id id es) ≡ true
all-others f low id [] rises each = refl
all-others {X} f low id (e ∷ es) rises each =
    by (e.0 == id) refl
    (all-others f (e.0 + 1) id es tail
    (λ other x differs at. each other x differs (under-later low other x e es rises at)))
  where
    tail : rises_from (e.0 + 1) es ≡ true
    tail = rises_from-tail low e es rises

    by : (b : Bool) → (e.0 == id) ≡ b → list_all f (without_id id es) ≡ true
        → list_all f (cond b es (e ∷ without_id id es)) ≡ true
    by true is rest =
        all-of f (e.0 + 1) es tail
        (λ other x at. let above = under-above
        (e.0 + 1) other x es tail at in let same =
        eqb-true e.0 id is in each other x (λ o. absurd (omega arith))
        (under-later low other x e es rises at))
    by false is rest =
        both (f e) (list_all f (without_id id es)) (each e.0 e.1 (eqb-false e.0 id is) (under-first e es)) rest

any-here : {X : Type 0} (f : ℕ × X → Bool) (id : ℕ) (x : X) (e : ℕ × X) (es : List (ℕ × X)) → f (id, x) ≡ true
    → (under id es ≡ Some x → list_any f es ≡ true) → (b : Bool) → (e.0 == id) ≡ b
    → cond b (Some e.1) (under id es) ≡ Some x → (f e || list_any f es) ≡ true
any-here f id x e es is later true same found =
    rw (ap (λ y. f (e.0, y)) (same_Some e.1 x found) ∙ ap (λ n. f (n, x)) (eqb-true e.0 id same) ∙ is) refl
any-here f id x e es is later false differs found =
    elim (f e) as (λ b. (b || list_any f es) ≡ true) [ true ↦ refl | false ↦ later found ]

any-under : {X : Type 0} (f : ℕ × X → Bool) (id : ℕ) (x : X) (es : List (ℕ × X)) → under id es ≡ Some x
    → f (id, x) ≡ true → list_any f es ≡ true
any-under f id x [] at is = absurd (none-some x at)
any-under f id x (e ∷ es) at is = any-here f id x e es is (λ found. any-under f id x es found is) (e.0 == id) refl at

-- ---- classes

event-class : (l : TracedLwp) (job : Option Sig) → StandsOnEvent l → class_of job l ≡ 3
unfolding class_of shown
event-class l job st = rw st.is (by st.stop st.met)
  where
    by : (s : Stop) → is_met s ≡ true → class_of_stop s ≡ 3
    by stop.Requested m = cc
    by _ m = refl

run-class : (o : Option Shown) → lets_run o ≡ true → 4 ≤ class_of_shown o
run-class None is = cc
run-class (Some (JobControl g)) is = cc
run-class (Some Suspended) is = omega arith
run-class (Some (Event stop.Requested)) is = omega arith
run-class _ is = cc

pub some-or : {X : Type 0} (a b : Option X) → is_some b ≡ true → is_some (option_or a b) ≡ true
some-or None b is = is
some-or (Some x) b is = refl

pub or-some : {X : Type 0} (a b : Option X) → is_some a ≡ true → is_some (option_or a b) ≡ true
or-some None b is = cc
or-some (Some x) b is = refl

find-here : {X : Type 0} (f : X → Bool) (x : X) (xs : List X) → (list_any f xs ≡ true → is_some (find f xs) ≡ true)
    → (b : Bool) → (b || list_any f xs) ≡ true → is_some (cond b (Some x) (find f xs)) ≡ true
find-here f x xs later true is = refl
find-here f x xs later false is = later is

find-some : {X : Type 0} (f : X → Bool) (xs : List X) → list_any f xs ≡ true → is_some (find f xs) ≡ true
find-some f [] is = cc
find-some f (x ∷ xs) is = find-here f x xs (find-some f xs) (f x) is

module _ (p : TracedProcess) (id : ℕ) (rises : IsRising p.lwps) (no_agent : has_agent p ≡ false)
    (one : HasOneEvent p id) where
  in-third : is_some (first_in_class p.job_stop 3 p.lwps) ≡ true
  unfolding first_in_class
  in-third =
      find-some (is_in_class p.job_stop 3) p.lwps
      (any-under (is_in_class p.job_stop 3) id one.lwp p.lwps one.there
      (eq-eqb (class_of p.job_stop one.lwp) 3 (event-class one.lwp p.job_stop one.stands)))

  has-representative : is_some (representative p) ≡ true
  unfolding representative
  has-representative =
      let c : ℕ → Option (ℕ × TracedLwp) = λ k. first_in_class p.job_stop k p.lwps in
      let two : Option (ℕ × TracedLwp) = option_or (option_or (agent_of p) (c 1)) (c 2) in
      or-some (option_or (option_or two (c 3)) (c 4)) (c 5)
      (or-some (option_or two (c 3)) (c 4) (some-or two (c 3) in-third))

  agent-none : (o : Option TracedLwp) → is_some o ≡ false → o ≡ None
  agent-none None is = refl
  agent-none (Some l) is = cc

  leads : (e : ℕ × TracedLwp) → representative p ≡ Some e → e.0 ≡ id
  unfolding class_of
  leads e is =
      let first = representative-leads p e rises (agent-none (lwp_of p agent_id) no_agent) is in
      elim (cases_Bool (e.0 == id)) [
        | inl same ↦ eqb-true e.0 id same
        | inr not_same ↦ absurd
            (too-great first (eqb-false e.0 id not_same))
      ]
    where
      too-great : IsFirstOfClasses p e → e.0 ≢ id → ⊥
      too-great first differs =
          let before : IsBefore p.job_stop e (id, one.lwp) =
          All-under (IsBefore p.job_stop e) id one.lwp p.lwps first.first one.there in
          let low = run-class (shown p.job_stop e.1) (one.others e.0 e.1 differs first.stands) in
          omega (arith, before.class, event-class one.lwp p.job_stop one.stands, low)

  -- the representative is the lwp that stands on the event
  found : (e : ℕ × TracedLwp) → representative p ≡ Some e → e.1 ≡ one.lwp
  found e is =
      same_Some e.1 one.lwp (sym (representative-stands p e rises is) ∙ ap (λ n. lwp_of p n) (leads e is) ∙ one.there)

  on-event : (e : ℕ × TracedLwp) → representative p ≡ Some e → has_event_stop e.1 ≡ true
  on-event e is = ap has_event_stop (found e is) ∙ ap (λ o. is_some o) one.stands.is

  others-run : (e : ℕ × TracedLwp) → representative p ≡ Some e → others_let_run p e.0 ≡ true
  others-run e is =
      all-others (shows_run p.job_stop) 0 e.0 p.lwps rises
      (λ other k differs at. one.others other k (λ same. differs (same ∙ sym (leads e is))) at)

  with-found : {P : Type 0} → ((e : ℕ × TracedLwp) → representative p ≡ Some e → P) → P
  with-found {P} f = by (representative p) refl has-representative
    where
      by : (o : Option (ℕ × TracedLwp)) → representative p ≡ o → is_some o ≡ true → P
      by None is some = absurd (false≢true some)
      by (Some e) is some = f e is

  pub one-granted : run_refused p ≡ false
  one-granted = with-found (λ e is. run-granted p e no_agent is (on-event e is))

  no-stop : (o : Option Stop) → is_some o ≡ false → o ≡ None
  no-stop None is = refl
  no-stop (Some st) is = cc

  free-quiet : (q : TracedProcess) → All IsFree q.lwps → IsQuiet q
  free-quiet q all = record {
    each = λ own l at.
        let free : IsFree (own, l) = All-under IsFree own l q.lwps all at in
        record { no_stop = no-stop l.control.stop free.no_stop; not_directed = free.no_directive };
  }

  pub one-runs : IsQuiet (with_run 0 p)
  one-runs = with-found (λ e is. free-quiet (with_run 0 p) (all-free p e rises is (on-event e is) (others-run e is)))
