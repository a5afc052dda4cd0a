use Rattle.std.proofs.Common.{◌≡◌, ◌≢◌, ◌⊎◌, ◌||◌, ◌&&◌, ◌==◌, ℕ, ◌+◌, ◌<◌, ◌≤◌, Bool, true, false, is_none, is_some, eqb, ltb, cond, Option, Some, None, IsSome, List, [], ◌∷◌, ◌++◌, refl, sym, subst, ◌∙◌, ap, arith, inl, inr}
use Rattle.std.specs.List.{All, filter, list_any, slice_index_or}
use Rattle.std.proofs.lemmas.Bool.{and_from, and_parts, cases_Bool, cases_eq, cases_lt, eq-eqb, eqb-true, false≢true, lt-ltb, ltb-true, le-ltb}
use Rattle.std.proofs.lemmas.List.Elements.{All-append, All-cons, All-filter, All-head, All-nil, All-tail}
use Rattle.std.proofs.lemmas.List.Folds.{list_any-append}
use Rattle.std.proofs.lemmas.Option.{none-some, same_Some}
use Rattle.pr_num.proofs.ByIdLaws.{All-under}
use Rattle.pr_num.proofs.ByIdLemmas.{rises_from-head, rises_from-tail}
use Rattle.pr_num.specs.ById.{rises_from, under}
use Rattle.pr_num.specs.Limits.{process_limit}
use Rattle.pr_model.specs.Lawful.{IsLawfulProcess, IsLawfulSystem, IsNumberedBelow}
use Rattle.pr_model.specs.LwpTurns.{can_move}
use Rattle.pr_model.specs.Order.{is_after, live_lwps, lwps_among, lwps_in, pairs_of}
use Rattle.pr_model.specs.State.{TracedLwp, TracedProcess, TracedSystem, live_process, lwp_of, process_of}
use Rattle.pr_lawful.proofs.LawfulTurns.EndLemmas.{found-live}
use Rattle.pr_pids.specs.Members.{has_pid}
use Rattle.pr_ready.specs.Queues.{AreReady, IsLiveLwp, IsQueue, is_lwp, is_member, is_movable, queue_of, rises}
use Rattle.pr_ready.specs.Ready.{ReadySets, is_asked}
use Rattle.pr_ready_laws.specs.Left.{HasLwp}
use Rattle.pr_ready_laws.proofs.StepLemmas.{mover}
use Rattle.pr_ready.proofs.StepLemmas.{any-under}
use Rattle.pr_ready.proofs.WalkLemmas.{under-above}

-- The queue is in order.

-- ---- order

follows-process : (x y : ℕ × ℕ) → x.0 + 1 ≤ y.0 → is_after (Some x) y ≡ true
unfolding is_after
follows-process x y above = rw (lt-ltb x.0 y.0 (omega arith)) refl

follows-lwp : (pid n m : ℕ) → n + 1 ≤ m → is_after (Some (pid, n)) (pid, m) ≡ true
unfolding is_after
follows-lwp pid n m above = rw (eq-eqb pid pid refl, lt-ltb n m (omega arith)) (or-true (ltb pid pid))
  where
    or-true : (b : Bool) → (b || true) ≡ true
    or-true true = refl
    or-true false = refl

-- what comes after another one, by numbers
after-parts : (x y : ℕ × ℕ) → is_after (Some x) y ≡ true → (x.0 < y.0) ⊎ ((x.0 ≡ y.0) × (x.1 < y.1))
unfolding is_after
after-parts x y is = by (cases_lt x.0 y.0)
  where
    by : (x.0 < y.0) ⊎ (y.0 ≤ x.0) → (x.0 < y.0) ⊎ ((x.0 ≡ y.0) × (x.1 < y.1))
    by (inl less) = inl less
    by (inr more) =
        let parts = and_parts (eqb x.0 y.0) (ltb x.1 y.1) (rw (le-ltb x.0 y.0 more) at is) in
        inr (eqb-true x.0 y.0 parts.0, ltb-true x.1 y.1 parts.1)

after-next : (after : Option (ℕ × ℕ)) (x y : ℕ × ℕ) → is_after after x ≡ true → is_after (Some x) y ≡ true
    → is_after after y ≡ true
unfolding is_after
after-next None x y one two = refl
after-next (Some a) x y one two = by (after-parts a x one) (after-parts x y two)
  where
    or-right : (b c : Bool) → c ≡ true → (b || c) ≡ true
    or-right true c is = refl
    or-right false c is = is

    less : a.0 < y.0 → is_after (Some a) y ≡ true
    less is = rw (lt-ltb a.0 y.0 is) refl

    same : a.0 ≡ y.0 → a.1 < y.1 → is_after (Some a) y ≡ true
    same is below =
        or-right (ltb a.0 y.0) _
        (and_from (eqb a.0 y.0) (ltb a.1 y.1) (eq-eqb a.0 y.0 is) (lt-ltb a.1 y.1 below))

    by : (a.0 < x.0) ⊎ ((a.0 ≡ x.0) × (a.1 < x.1)) → (x.0 < y.0) ⊎ ((x.0 ≡ y.0) × (x.1 < y.1))
        → is_after (Some a) y ≡ true
    by (inl p) (inl q) = less (omega arith)
    by (inl p) (inr (e, q)) = less (omega arith)
    by (inr (d, p)) (inl q) = less (omega arith)
    by (inr (d, p)) (inr (e, q)) = same (omega arith) (omega arith)

rises-on : (after : Option (ℕ × ℕ)) (x : ℕ × ℕ) (xs : List (ℕ × ℕ)) → is_after after x ≡ true
    → rises (Some x) xs ≡ true → rises after xs ≡ true
rises-on after x [] first rest = refl
rises-on after x (y ∷ ys) first rest =
    let parts = and_parts (is_after (Some x) y) (rises (Some y) ys) rest in
    and_from _ _ (after-next after x y first parts.0) parts.1

pub rises-filter : (test : ℕ × ℕ → Bool) (after : Option (ℕ × ℕ)) (xs : List (ℕ × ℕ)) → rises after xs ≡ true
    → rises after (filter test xs) ≡ true
rises-filter test after [] is = refl
rises-filter test after (x ∷ xs) is =
    let parts = and_parts (is_after after x) (rises (Some x) xs) is in
    elim (test x) as (λ b. rises after (cond b (x ∷ filter test xs) (filter test xs)) ≡ true) [
      | true ↦ and_from _ _ parts.0 (rises-filter test (Some x) xs parts.1)
      | false ↦ rises-filter test after xs (rises-on after x xs parts.0 parts.1)
    ]

-- the lwps of a process, before others of processes with greater ids
pairs-rise : (pid low : ℕ) (es : List (ℕ × TracedLwp)) (after : Option (ℕ × ℕ)) (rest : List (ℕ × ℕ))
    → rises_from low es ≡ true → ((id : ℕ) → low ≤ id → is_after after (pid, id) ≡ true)
    → ((x : ℕ × ℕ) → pid + 1 ≤ x.0 → is_after after x ≡ true)
    → ((a : Option (ℕ × ℕ)) → ((x : ℕ × ℕ) → pid + 1 ≤ x.0 → is_after a x ≡ true) → rises a rest ≡ true)
    → rises after (pairs_of pid es ++ rest) ≡ true
pairs-rise pid low [] after rest ids own others then = then after others
pairs-rise pid low (e ∷ es) after rest ids own others then =
    let first = rises_from-head low e es ids in
    and_from _ _ (own e.0 first)
    (pairs-rise pid (e.0 + 1) es (Some (pid, e.0)) rest (rises_from-tail low e es ids)
    (λ id above. follows-lwp pid e.0 id above) (λ x above. follows-process (pid, e.0) x above) then)

among-rises : (low : ℕ) (es : List (ℕ × TracedProcess)) (after : Option (ℕ × ℕ)) → rises_from low es ≡ true
    → All IsLawfulProcess es → ((x : ℕ × ℕ) → low ≤ x.0 → is_after after x ≡ true)
    → rises after (lwps_among es) ≡ true
unfolding lwps_in
among-rises low [] after ids lawful own = refl
among-rises low (e ∷ es) after ids lawful own =
    let first = rises_from-head low e es ids in
    let tail = rises_from-tail low e es ids in
    let here = All-head IsLawfulProcess e es lawful in
    let rest = All-tail IsLawfulProcess e es lawful in
    elim (is_none e.1.ended) as
    (λ b. rises after (cond b (pairs_of e.0 e.1.lwps) [] ++ lwps_among es) ≡ true) [
      | true ↦ pairs-rise e.0 0 e.1.lwps after (lwps_among es) here.rising (λ id any. own (e.0, id) first)
          (λ x above. own x (omega arith)) (λ a above. among-rises (e.0 + 1) es a tail rest above)
      | false ↦ among-rises (e.0 + 1) es after tail rest (λ x above. own x (omega arith))
    ]

pub live-rises : (s : TracedSystem) → IsLawfulSystem s → rises None (live_lwps s) ≡ true
unfolding live_lwps is_after
live-rises s h = among-rises 0 s.processes None h.rising h.processes (λ x any. refl)

-- ---- members

or-left : (b c : Bool) → b ≡ true → (b || c) ≡ true
or-left b c is = rw is refl

or-second : (b c : Bool) → c ≡ true → (b || c) ≡ true
or-second true c is = refl
or-second false c is = is

pairs-have : (pid id : ℕ) (l : TracedLwp) (es : List (ℕ × TracedLwp)) → under id es ≡ Some l
    → list_any (is_lwp (pid, id)) (pairs_of pid es) ≡ true
pairs-have pid id l [] there = cc
pairs-have pid id l (e ∷ es) there =
    elim (cases_Bool (eqb e.0 id)) [
      | inl is ↦ or-left _ _ (and_from _ _ (eq-eqb pid pid refl) is)
      | inr is ↦ or-second _ _ (pairs-have pid id l es (rw is at there))
    ]

among-have : (pid id : ℕ) (p : TracedProcess) (l : TracedLwp) (es : List (ℕ × TracedProcess))
    → under pid es ≡ Some p → p.ended ≡ None → lwp_of p id ≡ Some l
    → list_any (is_lwp (pid, id)) (lwps_among es) ≡ true
unfolding lwps_in
among-have pid id p l [] there live own = cc
among-have pid id p l (e ∷ es) there live own =
    list_any-append (is_lwp (pid, id)) (lwps_in e) (lwps_among es)
    ∙ elim (cases_Bool (eqb e.0 pid)) [
      | inl is ↦ or-left _ _ (here (eqb-true e.0 pid is) (same_Some e.1 p (rw is at there)))
      | inr is ↦ or-second _ _ (among-have pid id p l es (rw is at there) live own)
    ]
  where
    here : e.0 ≡ pid → e.1 ≡ p → list_any (is_lwp (pid, id)) (lwps_in e) ≡ true
    here at_pid same =
        let own_lwp : under id e.1.lwps ≡ Some l = ap (λ (x : TracedProcess). lwp_of x id) same ∙ own in
        let lives : e.1.ended ≡ None = ap (λ (x : TracedProcess). x.ended) same ∙ live in
        rw lives
        (subst (λ n. list_any (is_lwp (n, id)) (pairs_of e.0 e.1.lwps) ≡ true) at_pid
        (pairs-have e.0 id l e.1.lwps own_lwp))

filter-has : (test : ℕ × ℕ → Bool) (x : ℕ × ℕ) (xs : List (ℕ × ℕ)) → ((y : ℕ × ℕ) → is_lwp x y ≡ true → test y ≡ true)
    → list_any (is_lwp x) xs ≡ true → list_any (is_lwp x) (filter test xs) ≡ true
filter-has test x [] keeps has = has
filter-has test x (y ∷ ys) keeps has =
    by (cases_Bool (is_lwp x y)) (λ rest. filter-has test x ys keeps rest)
  where
    by : (is_lwp x y ≡ true) ⊎ (is_lwp x y ≡ false)
        → (list_any (is_lwp x) ys ≡ true → list_any (is_lwp x) (filter test ys) ≡ true)
        → list_any (is_lwp x) (cond (test y) (y ∷ filter test ys) (filter test ys)) ≡ true
    by (inl is) rest = rw (keeps y is) (or-left _ _ is)
    by (inr is) rest =
        let later = rest (rw is at has) in
        elim (test y) as (λ b. list_any (is_lwp x) (cond b (y ∷ filter test ys) (filter test ys)) ≡ true) [
          | true ↦ or-second _ _ later
          | false ↦ later
        ]

pub member-has : (s : TracedSystem) (words : List ℕ) (pid id : ℕ) (p : TracedProcess) (l : TracedLwp)
    → live_process s pid ≡ Some p → lwp_of p id ≡ Some l → has_pid words pid ≡ true
    → list_any (is_lwp (pid, id)) (filter (λ (x : ℕ × ℕ). has_pid words x.0) (live_lwps s)) ≡ true
unfolding live_lwps
member-has s words pid id p l live there has =
    let it = found-live s pid p live in
    filter-has (λ (x : ℕ × ℕ). has_pid words x.0) (pid, id) (lwps_among s.processes)
    (λ y is. subst (λ n. has_pid words n ≡ true) (sym (eqb-true y.0 pid (and_parts _ _ is).0)) has)
    (among-have pid id p l s.processes it.0 it.1 there)

-- ---- each is a live lwp

pairs-live : (s : TracedSystem) (pid : ℕ) (p : TracedProcess) → live_process s pid ≡ Some p
    → (es : List (ℕ × TracedLwp)) → ((id : ℕ) → IsSome (under id es) → IsSome (lwp_of p id))
    → All (IsLiveLwp s) (pairs_of pid es)
pairs-live s pid p live [] there = All-nil (IsLiveLwp s)
pairs-live s pid p live (e ∷ es) there =
    All-cons (IsLiveLwp s) (pid, e.0) (pairs_of pid es)
    (record { process = p; live = live; there = there e.0 (rw (eq-eqb e.0 e.0 refl) refl) })
    (pairs-live s pid p live es (λ id is. there id (on id is)))
  where
    on : (id : ℕ) → IsSome (under id es) → IsSome (under id (e ∷ es))
    on id is =
        elim (eqb e.0 id) as (λ b. IsSome (cond b (Some e.1) (under id es))) [ true ↦ refl | false ↦ is ]

in-live : (s : TracedSystem) (e : ℕ × TracedProcess) → process_of s e.0 ≡ Some e.1 → All (IsLiveLwp s) (lwps_in e)
unfolding lwps_in live_process
in-live s e there = by (cases_Bool (is_none e.1.ended))
  where
    by : (is_none e.1.ended ≡ true) ⊎ (is_none e.1.ended ≡ false)
        → All (IsLiveLwp s) (cond (is_none e.1.ended) (pairs_of e.0 e.1.lwps) [])
    by (inl live) = rw live (pairs-live s e.0 e.1 (rw (there, live) refl) e.1.lwps (λ id is. is))
    by (inr ended) = rw ended (All-nil (IsLiveLwp s))

among-live : (s : TracedSystem) (low : ℕ) (es : List (ℕ × TracedProcess)) → rises_from low es ≡ true
    → ((pid : ℕ) (p : TracedProcess) → under pid es ≡ Some p → process_of s pid ≡ Some p)
    → All (IsLiveLwp s) (lwps_among es)
among-live s low [] ids there = All-nil (IsLiveLwp s)
among-live s low (e ∷ es) ids there =
    let tail = rises_from-tail low e es ids in
    All-append (IsLiveLwp s) (lwps_in e) (lwps_among es)
    (in-live s e (there e.0 e.1 (rw (eq-eqb e.0 e.0 refl) refl)))
    (among-live s (e.0 + 1) es tail (λ pid p is. there pid p (on tail pid p is)))
  where
    on : rises_from (e.0 + 1) es ≡ true → (pid : ℕ) (p : TracedProcess) → under pid es ≡ Some p
        → under pid (e ∷ es) ≡ Some p
    on tail pid p is =
        elim (cases_Bool (eqb e.0 pid)) [
          | inl same ↦ absurd
              (none-some p (sym (under-above (e.0 + 1) pid (let at = eqb-true e.0 pid same in omega arith) es tail)
              ∙ is))
          | inr apart ↦ rw apart is
        ]

-- ---- the queue

pub queue-is : (s : TracedSystem) (r : ReadySets) → IsLawfulSystem s → AreReady s r → IsQueue s (queue_of s r)
unfolding queue_of live_lwps
queue-is s r h ready = record {
  in_order = rises-filter (is_member r.movable) None (live_lwps s) (live-rises s h);
  live =
      All-filter (is_member r.movable) (IsLiveLwp s) (lwps_among s.processes)
      (among-live s 0 s.processes h.rising (λ pid p is. is));
  all = λ pid id can. by pid id can (mover s pid id can);
}
  where
    by : (pid id : ℕ) → can_move s pid id ≡ true → HasLwp (λ ph. true) s pid id
        → list_any (is_lwp (pid, id)) (filter (is_member r.movable) (live_lwps s)) ≡ true
    by pid id can it =
        let there = (found-live s pid it.process it.live).0 in
        let small : pid < process_limit =
        (let made = (All-under (IsNumberedBelow s.made) pid it.process s.processes h.numbered there).id in
        let most = h.made in omega arith) in
        member-has s r.movable pid id it.process it.lwp it.live it.there
        ((ready.covers.each pid refl small).moves it.process it.live
        (any-under (is_asked (is_movable s) pid) id it.lwp it.process.lwps it.there can))
