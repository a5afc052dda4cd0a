use Rattle.std.proofs.Common.{◌≡◌, ◌==◌, ◌≤◌, ◌+◌, ℕ, suc, Bool, true, false, not, cond, is_some, None, Some, Option, List, [], ◌∷◌, refl, sym, ap, ◌∙◌, arith, inl, inr}
use Rattle.std.proofs.lemmas.Bool.{and_parts, cases_Bool, eq-eqb, eqb-false, eqb-true, false≢true}
use Rattle.std.proofs.lemmas.List.Sums.{sum_by-cons}
use Rattle.std.proofs.lemmas.Option.{none-some, same_Some}
use Rattle.std.specs.List.{count_by, find, list_all, list_any}
use Rattle.std.specs.Option.{IsSome, option_or}
use Rattle.pr_num.proofs.ByIdLaws.{All-under}
use Rattle.pr_num.proofs.SearchLemmas.{All-find, find-passes, list_any-find}
use Rattle.pr_num.specs.Agents.{agent_id}
use Rattle.pr_num.specs.ById.{IsRising, change_under, map_each, under, without_id}
use Rattle.pr_num.specs.declared.signals.Sig.{Sig}
use Rattle.pr_laws.proofs.RepresentativeLemmas.{representative-leads}
use Rattle.pr_laws.proofs.RunLemmas.{representative-stands}
use Rattle.pr_lawful.proofs.LawfulTurns.EndLemmas.{found-live}
use Rattle.pr_lawful.proofs.ProcessParts.HandleLemmas.{count-none}
use Rattle.pr_line.specs.declared.events.Event.{Event}
use Rattle.pr_model.specs.Lawful.{IsLawfulProcess, IsLawfulSystem}
use Rattle.pr_model.specs.Running.{is_request, lets_run, shows_run}
use Rattle.pr_model.specs.State.{TracedLwp, TracedProcess, TracedSystem, has_agent, live_process, lwp_of}
use Rattle.pr_model.specs.Stops.{IsBefore, IsFirstOfClasses, agent_of, class_of, class_of_shown, class_of_stop, first_in_class, found_on_event, has_event_stop, is_in_class, is_stopped, representative, shown, shown_by_job}
use Rattle.pr_model.specs.declared.stops.Stop.{Stop}
use Rattle.pr_model.specs.declared.stops.Stop.TheVariants as stop
use Rattle.pr_truss_laws.proofs.EventStops.OneEventLemmas.{all-others, or-some, some-or}
use Rattle.pr_report_laws.proofs.Invariant.Positions.{HasEvent, Waits, has_met, is_met_if, met_in}
use Rattle.pr_truss_laws.specs.Stills.{IsFrozen, IsQuiet, is_met, stands_still}

-- A process that is stopped on an event of interest stands still, and how many of its lwps met an event says which one
-- is its representative.

-- ---- how many things under ids pass a test

pub count-cons : {X : Type 0} (f : X → Bool) (x : X) (xs : List X)
    → count_by f (x ∷ xs) ≡ cond (f x) 1 0 + count_by f xs
count-cons f x xs = sum_by-cons (λ z. cond (f z) 1 0) x xs

none-more : (n : ℕ) → 0 + n ≡ n
none-more n = omega arith

-- none passes where all pass a test that excludes it
pub none-counts : {X : Type 0} (f q : X → Bool) → ((x : X) → q x ≡ true → f x ≡ false) → (xs : List X)
    → list_all q xs ≡ true → count_by f xs ≡ 0
none-counts f q out [] all = refl
none-counts f q out (x ∷ xs) all =
    let parts = and_parts (q x) (list_all q xs) all in
    count-cons f x xs ∙ ap (λ b. cond b 1 0 + count_by f xs) (out x parts.0) ∙ none-more (count_by f xs)
    ∙ none-counts f q out xs parts.1

module _ {X : Type 0} (f : ℕ × X → Bool) (id : ℕ) where
  here-same : (x : X) (e : ℕ × X) (es : List (ℕ × X)) → (e.0 == id) ≡ true → under id (e ∷ es) ≡ Some x
      → f e ≡ f (id, x)
  here-same x e es here found =
      let thing : e.1 ≡ x = same_Some e.1 x (rw here at found) in
      ap (λ n. f (n, e.1)) (eqb-true e.0 id here) ∙ ap (λ y. f (id, y)) thing

  -- the one under an id, and the others
  pub count-others : (x : X) (es : List (ℕ × X)) → under id es ≡ Some x
      → count_by f es ≡ cond (f (id, x)) 1 0 + count_by f (without_id id es)
  count-others x [] found = absurd (none-some x found)
  count-others x (e ∷ es) found =
      elim (cases_Bool (e.0 == id)) [
        | inl here ↦ rw here (count-cons f e es ∙ ap (λ b. cond b 1 0 + count_by f es) (here-same x e es here found))
        | inr other ↦
            let rest = count-others x es (rw other at found) in
            let whole = count-cons f e es in
            let left = count-cons f e (without_id id es) in
            rw other (omega arith)
      ]

  -- where none passes, neither does the one under an id
  pub none-under : (x : X) (es : List (ℕ × X)) → under id es ≡ Some x → count_by f es ≡ 0 → f (id, x) ≡ false
  none-under x es found none =
      let counted = count-others x es found in
      elim (cases_Bool (f (id, x))) [ inl is ↦ absurd (one (rw is at counted)) | inr not ↦ not ]
    where
      one : count_by f es ≡ 1 + count_by f (without_id id es) → ⊥
      one e = omega arith

  -- the one under an id is changed and does not pass any more
  pub count-changed : (g : X → X) → ((x : X) → f (id, g x) ≡ false) → (es : List (ℕ × X)) → (x : X)
      → under id es ≡ Some x → count_by f (change_under id g es) ≡ count_by f (without_id id es)
  count-changed g out [] x found = absurd (none-some x found)
  count-changed g out (e ∷ es) x found =
      elim (cases_Bool (e.0 == id)) [
        | inl here ↦ rw here (count-cons f (e.0, g e.1) es
            ∙ ap (λ b. cond b 1 0 + count_by f es) (ap (λ n. f (n, g e.1)) (eqb-true e.0 id here) ∙ out e.1)
            ∙ none-more (count_by f es))
        | inr other ↦
            let rest = count-changed g out es x (rw other at found) in
            let changed = count-cons f e (change_under id g es) in
            let left = count-cons f e (without_id id es) in
            rw other (omega arith)
      ]

-- all are changed, and pass as before
pub count-mapped : {X : Type 0} (f : ℕ × X → Bool) (g : X → X) → ((e : ℕ × X) → f (e.0, g e.1) ≡ f e)
    → (es : List (ℕ × X)) → count_by f (map_each g es) ≡ count_by f es
count-mapped f g same [] = refl
count-mapped f g same (e ∷ es) =
    let rest = count-mapped f g same es in
    count-cons f (e.0, g e.1) (map_each g es) ∙ ap (λ b. cond b 1 0 + count_by f (map_each g es)) (same e)
    ∙ ap (λ n. cond (f e) 1 0 + n) rest ∙ sym (count-cons f e es)

-- ---- the class of an lwp, what it stands on, and what it shows

stop-class : (s : Stop) → 3 ≤ class_of_stop s
stop-class stop.Requested = omega arith
stop-class _ = omega arith

met-third : (s : Stop) → is_met s ≡ true → class_of_stop s ≡ 3
met-third stop.Requested met = cc
met-third _ met = refl

third-met : (s : Stop) → class_of_stop s ≡ 3 → is_met s ≡ true
third-met stop.Requested third = absurd (omega arith)
third-met _ third = refl

request-unmet : (s : Stop) → is_request s ≡ true → is_met s ≡ false
request-unmet stop.Requested is = refl
request-unmet _ is = cc

unmet-request : (s : Stop) → is_met s ≡ false → is_request s ≡ true
unmet-request stop.Requested is = refl
unmet-request _ is = cc

job-class : (job : Option Sig) → class_of_shown (shown_by_job job) ≤ 2
job-class None = omega arith
job-class (Some g) = omega arith

job-keeps : (job : Option Sig) → lets_run (shown_by_job job) ≡ false
job-keeps None = refl
job-keeps (Some g) = refl

module _ (job : Option Sig) (l : TracedLwp) where
  event-class : has_event_stop l ≡ true → 3 ≤ class_of job l
  unfolding class_of shown
  event-class stands = by l.control.stop refl stands
    where
      by : (o : Option Stop) → l.control.stop ≡ o → is_some o ≡ true → 3 ≤ class_of job l
      by None is some = cc
      by (Some s) is some = rw is (stop-class s)

  class-still : 3 ≤ class_of job l → stands_still l ≡ true
  unfolding class_of shown
  class-still high = by l.control.stop refl l.suspended refl
    where
      low : 3 ≤ class_of_shown (shown_by_job job) → ⊥
      low it = let most = job-class job in omega arith

      by : (o : Option Stop) → l.control.stop ≡ o → (b : Bool) → l.suspended ≡ b → stands_still l ≡ true
      by (Some s) is b suspended = rw is refl
      by None is true suspended = rw (is, suspended) refl
      by None is false suspended = absurd (low (rw (is, suspended) at high))

  still-class : stands_still l ≡ true → 3 ≤ class_of job l
  unfolding class_of shown
  still-class still = by l.control.stop refl l.suspended refl
    where
      by : (o : Option Stop) → l.control.stop ≡ o → (b : Bool) → l.suspended ≡ b → 3 ≤ class_of job l
      by (Some s) is b suspended = rw is (stop-class s)
      by None is true suspended = rw (is, suspended) (omega arith)
      by None is false suspended = absurd (false≢true (rw (is, suspended) at still))

  met-class : has_met l ≡ true → class_of job l ≡ 3
  unfolding class_of shown
  met-class met = by l.control.stop refl met
    where
      by : (o : Option Stop) → l.control.stop ≡ o → is_met_if o ≡ true → class_of job l ≡ 3
      by None is it = cc
      by (Some s) is it = rw is (met-third s it)

  class-met : class_of job l ≡ 3 → has_met l ≡ true
  unfolding class_of shown
  class-met third = by l.control.stop refl l.suspended refl
    where
      low : class_of_shown (shown_by_job job) ≡ 3 → ⊥
      low it = let most = job-class job in omega arith

      by : (o : Option Stop) → l.control.stop ≡ o → (b : Bool) → l.suspended ≡ b → has_met l ≡ true
      by (Some s) is b suspended = rw is (third-met s (rw is at third))
      by None is true suspended = absurd (omega (arith, rw (is, suspended) at third))
      by None is false suspended = absurd (low (rw (is, suspended) at third))

  pub shows-unmet : (id : ℕ) → shows_run job (id, l) ≡ true → has_met l ≡ false
  unfolding shown
  shows-unmet id shows = by l.control.stop refl
    where
      by : (o : Option Stop) → l.control.stop ≡ o → has_met l ≡ false
      by None is = rw is refl
      by (Some s) is = rw is (request-unmet s (rw is at shows))

  pub unmet-shows : (id : ℕ) → stands_still l ≡ true → has_met l ≡ false → shows_run job (id, l) ≡ true
  unfolding shown
  unmet-shows id still unmet = by l.control.stop refl l.suspended refl
    where
      by : (o : Option Stop) → l.control.stop ≡ o → (b : Bool) → l.suspended ≡ b → shows_run job (id, l) ≡ true
      by (Some s) is b suspended = rw is (unmet-request s (rw is at unmet))
      by None is true suspended = rw (is, suspended) refl
      by None is false suspended = absurd (false≢true (rw (is, suspended) at still))

-- ---- the representative

-- the lwps of a live process stand under rising ids
pub live-rising : (s : TracedSystem) (pid : ℕ) (p : TracedProcess) → IsLawfulSystem s → live_process s pid ≡ Some p
    → IsRising p.lwps
live-rising s pid p lawful live =
    let own : IsLawfulProcess (pid, p) =
    All-under IsLawfulProcess pid p s.processes lawful.processes (found-live s pid p live).0 in
    own.rising

-- the representative lwp of a process, with its id, where it stands on an event of interest
pub record StandsFirst (p : TracedProcess) : Type 0 where
  pub lwp : ℕ × TracedLwp
  pub is : representative p ≡ Some lwp
  pub stands : has_event_stop lwp.1 ≡ true

-- the same, where that is an event which it met
pub record HasMetFirst (p : TracedProcess) : Type 0 where
  pub lwp : ℕ × TracedLwp
  pub is : representative p ≡ Some lwp
  pub met : has_met lwp.1 ≡ true

met-stands : (o : Option Stop) → is_met_if o ≡ true → is_some o ≡ true
met-stands None met = cc
met-stands (Some s) met = refl

pub no-thing : {X : Type 0} (o : Option X) → is_some o ≡ false → o ≡ None
no-thing None is = refl
no-thing (Some x) is = cc

pub stopped-first : (p : TracedProcess) → is_stopped p ≡ true → StandsFirst p
unfolding is_stopped
stopped-first p stopped = by (representative p) refl stopped
  where
    by : (o : Option (ℕ × TracedLwp)) → representative p ≡ o → found_on_event o ≡ true → StandsFirst p
    by None is stands = cc
    by (Some e) is stands = record { lwp = e; is = is; stands = stands }

first-stopped : (p : TracedProcess) (e : ℕ × TracedLwp) → representative p ≡ Some e → has_event_stop e.1 ≡ true
    → is_stopped p ≡ true
unfolding is_stopped
first-stopped p e is stands = ap found_on_event is ∙ stands

-- a quiet process is not stopped
pub quiet-runs : (p : TracedProcess) → IsRising p.lwps → IsQuiet p → is_stopped p ≡ false
quiet-runs p rises quiet =
    elim (cases_Bool (is_stopped p)) [ inl stopped ↦ absurd (clash (stopped-first p stopped)) | inr not ↦ not ]
  where
    clash : StandsFirst p → ⊥
    clash f =
        let none = quiet.each f.lwp.0 f.lwp.1 (representative-stands p f.lwp rises f.is) in
        false≢true (sym (ap (λ (o : Option Stop). is_some o) none.no_stop) ∙ f.stands)

module _ (p : TracedProcess) (rises : IsRising p.lwps) (no_agent : has_agent p ≡ false) where
  leads : (e : ℕ × TracedLwp) → representative p ≡ Some e → IsFirstOfClasses p e
  leads e is = representative-leads p e rises (no-thing (lwp_of p agent_id) no_agent) is

  -- A process that is stopped on an event of interest stands still.
  pub stopped-frozen : is_stopped p ≡ true → IsFrozen p
  stopped-frozen stopped = record {
    each = λ id l there.
        let f = stopped-first p stopped in
        let before : IsBefore p.job_stop f.lwp (id, l) =
        All-under (IsBefore p.job_stop f.lwp) id l p.lwps (leads f.lwp f.is).first there in
        let high = event-class p.job_stop f.lwp.1 f.stands in
        class-still p.job_stop l (omega (arith, before.class));
  }

  pub stopped-waits : is_stopped p ≡ true → Waits p (met_in p)
  stopped-waits stopped = record { frozen = stopped-frozen stopped; count = refl }

  -- ---- where an lwp met an event

  has-representative : is_some (first_in_class p.job_stop 3 p.lwps) ≡ true → is_some (representative p) ≡ true
  unfolding representative
  has-representative third =
      let c : ℕ → Option (ℕ × TracedLwp) = λ k. first_in_class p.job_stop k p.lwps in
      let two : Option (ℕ × TracedLwp) = option_or (option_or (agent_of p) (c 1)) (c 2) in
      or-some (option_or (option_or two (c 3)) (c 4)) (c 5)
      (or-some (option_or two (c 3)) (c 4) (some-or two (c 3) third))

  some-third : (d : ℕ × TracedLwp) → find (λ (e : ℕ × TracedLwp). has_met e.1) p.lwps ≡ Some d
      → is_some (first_in_class p.job_stop 3 p.lwps) ≡ true
  unfolding first_in_class
  some-third d found = found-too p.lwps found
    where
      found-too : (es : List (ℕ × TracedLwp)) → find (λ (e : ℕ × TracedLwp). has_met e.1) es ≡ Some d
          → is_some (find (is_in_class p.job_stop 3) es) ≡ true
      found-too [] it = absurd (none-some d it)
      found-too (e ∷ es) it =
          elim (cases_Bool (has_met e.1)) [
            | inl met ↦ rw (eq-eqb (class_of p.job_stop e.1) 3 (met-class p.job_stop e.1 met)) refl
            | inr not ↦
                let rest = found-too es (rw not at it) in
                elim (is_in_class p.job_stop 3 e) as
                (λ b. is_some
                (cond b (Some e) (find (is_in_class p.job_stop 3) es)) ≡ true) [ true ↦ refl | false ↦ rest ]
          ]

  -- the representative is one that met an event, where one did and the process stands still
  met-first-of : IsFrozen p → (d : ℕ × TracedLwp) → find (λ (e : ℕ × TracedLwp). has_met e.1) p.lwps ≡ Some d
      → HasMetFirst p
  met-first-of frozen d found = by (representative p) refl (has-representative (some-third d found))
    where
      by : (o : Option (ℕ × TracedLwp)) → representative p ≡ o → is_some o ≡ true → HasMetFirst p
      by None is some = cc
      by (Some e) is some =
          let first = leads e is in
          let before : IsBefore p.job_stop e d =
          All-find (IsBefore p.job_stop e) (λ (x : ℕ × TracedLwp). has_met x.1) p.lwps d first.first found in
          let third = met-class p.job_stop d.1 (find-passes (λ (x : ℕ × TracedLwp). has_met x.1) p.lwps d found) in
          let least = still-class p.job_stop e.1 (frozen.each e.0 e.1 first.stands) in
          record { lwp = e; is = is; met = class-met p.job_stop e.1 (omega (arith, before.class)) }

  met-found : (n : ℕ) → met_in p ≡ suc n
      → (d : ℕ × TracedLwp) × (find (λ (e : ℕ × TracedLwp). has_met e.1) p.lwps ≡ Some d)
  met-found n counts = by (find met p.lwps) refl (list_any-find met p.lwps some)
    where
      met : ℕ × TracedLwp → Bool
      met e = has_met e.1

      some : list_any met p.lwps ≡ true
      some =
          elim (cases_Bool (list_any met p.lwps)) [
            | inl it ↦ it
            | inr none ↦ absurd
                (clash (count-none met p.lwps none))
          ]
        where
          clash : count_by met p.lwps ≡ 0 → ⊥
          clash zero_of = omega arith

      by : (o : Option (ℕ × TracedLwp)) → find met p.lwps ≡ o → IsSome o
          → (d : ℕ × TracedLwp) × (find met p.lwps ≡ Some d)
      by None is it = cc
      by (Some d) is it = (d, is)

  -- Where some lwp of a process that stands still met an event, the representative is such a one.
  pub waits-first : (n : ℕ) → Waits p (suc n) → HasMetFirst p
  waits-first n waits = let d = met-found n waits.count in met-first-of waits.frozen d.0 d.1

  pub waits-stopped : (n : ℕ) → Waits p (suc n) → is_stopped p ≡ true
  waits-stopped n waits =
      let f = waits-first n waits in
      first-stopped p f.lwp f.is (met-stands f.lwp.1.control.stop f.met)

  -- ---- where one lwp stands on an event and each other one is held

  module _ (id : ℕ) (event : Event) (has : HasEvent p id event) where
    met-there : has_met has.lwp ≡ true
    met-there = ap is_met_if has.stands.is ∙ has.stands.met

    others-unmet : count_by (λ (e : ℕ × TracedLwp). has_met e.1) (without_id id p.lwps) ≡ 0
    others-unmet =
        none-counts (λ (e : ℕ × TracedLwp). has_met e.1) (λ (e : ℕ × TracedLwp). not (has_met e.1))
        (λ e. is-false (has_met e.1)) (without_id id p.lwps)
        (all-others (λ (e : ℕ × TracedLwp). not (has_met e.1)) 0 id p.lwps rises
        (λ other k differs there. ap not (has.others other k differs there).met_nothing))
      where
        is-false : (b : Bool) → not b ≡ true → b ≡ false
        is-false true is = cc
        is-false false is = refl

    one-met : met_in p ≡ 1
    one-met =
        count-others (λ (e : ℕ × TracedLwp). has_met e.1) id has.lwp p.lwps has.there
        ∙ ap (λ b. cond b 1 0 + count_by (λ (e : ℕ × TracedLwp). has_met e.1) (without_id id p.lwps)) met-there
        ∙ ap (λ n. 1 + n) others-unmet

    pub event-waits : is_stopped p ≡ true → Waits p 1
    event-waits stopped = record { frozen = stopped-frozen stopped; count = one-met }

    -- the representative is that lwp
    pub frozen-first : IsFrozen p → representative p ≡ Some (id, has.lwp)
    frozen-first frozen =
        let f = waits-first 0 (record { frozen = frozen; count = one-met }) in
        let there = (leads f.lwp f.is).stands in
        f.is ∙ ap (λ (e : ℕ × TracedLwp). Some e) (same f.lwp there f.met)
      where
        same : (e : ℕ × TracedLwp) → lwp_of p e.0 ≡ Some e.1 → has_met e.1 ≡ true → e ≡ (id, has.lwp)
        same e there met =
            elim (cases_Bool (e.0 == id)) [
              | inl here ↦
                  let is = eqb-true e.0 id here in
                  let lwp : e.1 ≡ has.lwp = same_Some e.1 has.lwp (sym there ∙ ap (lwp_of p) is ∙ has.there) in
                  ap (λ n. (n, e.1)) is ∙ ap (λ (l : TracedLwp). (id, l)) lwp
              | inr other ↦ absurd (false≢true (sym (has.others e.0 e.1 (eqb-false e.0 id other) there).met_nothing
                  ∙ met))
            ]

    pub event-first : is_stopped p ≡ true → representative p ≡ Some (id, has.lwp)
    event-first stopped = frozen-first (stopped-frozen stopped)
