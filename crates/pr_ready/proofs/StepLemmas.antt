use Rattle.std.proofs.Common.{◌≡◌, ◌≢◌, ◌⊎◌, ◌||◌, ◌<◌, ◌≤◌, ℕ, Bool, true, false, Some, None, List, [], ◌∷◌, eqb, refl, sym, subst, ◌∙◌, ap, arith, inl, inr}
use Rattle.std.specs.List.{list_any}
use Rattle.std.specs.Prelude.{nat_le, nat_lt}
use Rattle.std.proofs.lemmas.Bool.{and_from, and_parts, cases_Bool, cases_eq, eqb-true, false≢true, leb-true, lt-ltb, ltb-true}
use Rattle.std.proofs.lemmas.Option.{same_Some}
use Rattle.pr_num.specs.ById.{under}
use Rattle.pr_num.specs.Limits.{process_limit}
use Rattle.pr_num.specs.declared.syscalls.Sysno.TheVariants.{Read, Write, Sleep}
use Rattle.pr_model.specs.FirstState.{system_process}
use Rattle.pr_model.specs.Lawful.{IsLawfulSystem}
use Rattle.pr_model.specs.Lives.{bare_process}
use Rattle.pr_model.specs.LwpTurns.{can_move}
use Rattle.pr_model.specs.State.{TracedLwp, TracedProcess, TracedSystem, live_process, lwp_of, process_of}
use Rattle.pr_model.specs.declared.lwps.Phase.{Phase}
use Rattle.pr_model.specs.declared.lwps.Phase.TheVariants.{Asleep}
use Rattle.pr_lawful.proofs.LawfulTurns.EndLemmas.{found-live}
use Rattle.pr_pids.specs.Members.{has_pid}
use Rattle.pr_ready.specs.Queues.{AreReady, is_movable}
use Rattle.pr_ready.specs.Ready.{Covers, CoversEach, IsDue, ReadySets, every, is_asked, is_at_pipe, is_dozing, is_woken, some_answer, some_answer_of}
use Rattle.pr_ready.specs.Steps.{KeepsUp}
use Rattle.pr_ready_laws.specs.Left.{HasLwp, IsLeft, comes_between, moment_of, sleeps_at_pipe, waits, wakes_between}
use Rattle.pr_ready_laws.proofs.MoveLemmas.{moves-before}
use Rattle.pr_ready_laws.proofs.StepLemmas.{mover}

-- Sets that follow a step have every process that they have to have.

-- ---- lists of lwps

-- an lwp that stands under its id is one of the list
pub any-under : {X : Type 0} (test : ℕ × X → Bool) (id : ℕ) (x : X) (es : List (ℕ × X)) → under id es ≡ Some x
    → test (id, x) ≡ true → list_any test es ≡ true
any-under test id x [] there said = cc
any-under {X} test id x (e ∷ es) there said =
    by (cases_Bool (eqb e.0 id)) (λ found. any-under test id x es found said)
  where
    or-true : (b : Bool) → (b || true) ≡ true
    or-true true = refl
    or-true false = refl

    by : (eqb e.0 id ≡ true) ⊎ (eqb e.0 id ≡ false) → (under id es ≡ Some x → list_any test es ≡ true)
        → list_any test (e ∷ es) ≡ true
    by (inl is) rest =
        let same : e.1 ≡ x = same_Some e.1 x (rw is at there) in
        let at_id : e.0 ≡ id = eqb-true e.0 id is in
        rw (ap (λ (y : X). test (e.0, y)) same ∙ ap (λ n. test (n, x)) at_id ∙ said) refl
    by (inr is) rest = rw (rest (rw is at there)) (or-true (test e))

-- an lwp about which the answer is said
asked-one : (answer : ℕ × ℕ → Bool) (pid : ℕ) (es : List (ℕ × TracedLwp)) → list_any (is_asked answer pid) es ≡ true
    → (id : ℕ) × (answer (pid, id) ≡ true)
asked-one answer pid [] said = absurd (false≢true said)
asked-one answer pid (e ∷ es) said =
    by (cases_Bool (answer (pid, e.0))) (λ rest. asked-one answer pid es rest)
  where
    by : (answer (pid, e.0) ≡ true) ⊎ (answer (pid, e.0) ≡ false)
        → (list_any (is_asked answer pid) es ≡ true → (id : ℕ) × (answer (pid, id) ≡ true))
        → (id : ℕ) × (answer (pid, id) ≡ true)
    by (inl is) rest = (e.0, is)
    by (inr is) rest = rest (rw is at said)

-- ---- who waits

waits-for : (files : Bool) (from to : ℕ) (ph : Phase) → waits files from to ph ≡ true
    → ((files ≡ true) × (sleeps_at_pipe ph ≡ true)) ⊎ (wakes_between from to ph ≡ true)
waits-for files from to (Asleep Read args since) is = inl (is, refl)
waits-for files from to (Asleep Write args since) is = inl (is, refl)
waits-for files from to (Asleep Sleep args since) is = inr is
waits-for files from to _ is = absurd (false≢true is)

-- no moment lies between one and itself
still-comes : (at moment : ℕ) → comes_between at at moment ≡ true → ⊥
still-comes at moment is =
    let parts = and_parts (nat_lt at moment) (nat_le moment at) is in
    let behind = ltb-true at moment parts.0 in
    let before = leb-true moment at parts.1 in
    omega arith

still-wakes : (at : ℕ) (ph : Phase) → wakes_between at at ph ≡ true → ⊥
still-wakes at (Asleep Sleep args since) is = still-comes at (moment_of args since) is
still-wakes at _ is = false≢true is

-- who wakes between two moments also wakes between an earlier one and the second
earlier-comes : (from on to moment : ℕ) → from ≤ on → comes_between on to moment ≡ true
    → comes_between from to moment ≡ true
earlier-comes from on to moment less is =
    let parts = and_parts (nat_lt on moment) (nat_le moment to) is in
    let behind = ltb-true on moment parts.0 in
    and_from _ _ (lt-ltb from moment (omega arith)) parts.1

earlier-wakes : (from on to : ℕ) (ph : Phase) → from ≤ on → wakes_between on to ph ≡ true
    → wakes_between from to ph ≡ true
earlier-wakes from on to (Asleep Sleep args since) less is = earlier-comes from on to (moment_of args since) less is
earlier-wakes from on to _ less is = is

earlier-woken : (from on to : ℕ) (es : List (ℕ × TracedLwp)) → from ≤ on → list_any (is_woken on to) es ≡ true
    → list_any (is_woken from to) es ≡ true
earlier-woken from on to [] less is = is
earlier-woken from on to (e ∷ es) less is =
    by (cases_Bool (wakes_between on to e.1.phase)) (λ rest. earlier-woken from on to es less rest)
  where
    or-second : (b c : Bool) → c ≡ true → (b || c) ≡ true
    or-second true c said = refl
    or-second false c said = said

    by : (wakes_between on to e.1.phase ≡ true) ⊎ (wakes_between on to e.1.phase ≡ false)
        → (list_any (is_woken on to) es ≡ true → list_any (is_woken from to) es ≡ true)
        → list_any (is_woken from to) (e ∷ es) ≡ true
    by (inl wakes) rest = rw (earlier-wakes from on to e.1.phase less wakes) refl
    by (inr sleeps) rest =
        or-second (wakes_between from to e.1.phase) _ (rest (rw sleeps at is))

module _ (touches : ℕ → Bool) (files clock : Bool) (s u : TracedSystem) (old new : ReadySets)
    (follows : KeepsUp touches files clock (is_movable u) u old new) (before : CoversEach every (is_movable s) s old)
    (pid : ℕ) (small : pid < process_limit) (spared : touches pid ≡ false) (left : IsLeft pid files clock s u) where
  was : Covers (is_movable s) s old pid
  was = before.each pid refl small

  -- a process that lives later lived before, with the same lwps
  pub record Lived (q : TracedProcess) : Type 0 where
    pub process : TracedProcess
    pub live : live_process s pid ≡ Some process
    pub same : q.lwps ≡ process.lwps

  lived : (q : TracedProcess) → live_process u pid ≡ Some q → Lived q
  unfolding live_process
  lived q is =
      let it = found-live u pid q is in
      from (left.process q it.0 it.1) it.1
    where
      from : (p : TracedProcess) × ((process_of s pid ≡ Some p) × (q ≡ record p { parent = q.parent }))
          → q.ended ≡ None → Lived q
      from (p, (there, same)) live =
          let ended : p.ended ≡ None = sym (ap (λ (x : TracedProcess). x.ended) same) ∙ live in
          record {
            process = p;
            live = rw (there, ended) refl;
            same = ap (λ (x : TracedProcess). x.lwps) same;
          }

  pipes-before : (p : TracedProcess) (id : ℕ) (l : TracedLwp) → live_process s pid ≡ Some p → lwp_of p id ≡ Some l
      → sleeps_at_pipe l.phase ≡ true → has_pid old.at_pipes pid ≡ true
  pipes-before p id l live there sleeps = was.waits p live (any-under is_at_pipe id l p.lwps there sleeps)

  due-before : (p : TracedProcess) (id : ℕ) (l : TracedLwp) → live_process s pid ≡ Some p → lwp_of p id ≡ Some l
      → wakes_between s.clock u.clock l.phase ≡ true → IsDue old.moments pid u.clock
  due-before p id l live there wakes =
      was.wakes p u.clock live (any-under (is_woken s.clock u.clock) id l p.lwps there wakes)

  moves-later : (q : TracedProcess) → live_process u pid ≡ Some q → some_answer (is_movable u) pid q ≡ true
      → has_pid new.movable pid ≡ true
  moves-later q live said =
      let one = asked-one (is_movable u) pid q.lwps said in
      by one.0 (moves-before pid files clock s u left one.0 one.1)
    where
      now : some_answer_of (is_movable u) pid (live_process u pid) ≡ true
      now = rw live said

      could : (id : ℕ) → can_move s pid id ≡ true → HasLwp (λ ph. true) s pid id → has_pid new.movable pid ≡ true
      could id can it =
          follows.movable pid spared
          (was.moves it.process it.live
          (any-under (is_asked (is_movable s) pid) id it.lwp it.process.lwps it.there can))

      woken : (b : Bool) → clock ≡ b → (ph : Phase) → wakes_between s.clock u.clock ph ≡ true
          → IsDue old.moments pid u.clock → has_pid new.movable pid ≡ true
      woken true may ph wakes due = follows.by_clock may pid spared small due now
      woken false stands ph wakes due =
          absurd (still-wakes s.clock ph
          (subst (λ n. wakes_between s.clock n ph ≡ true) (left.same_clock stands) wakes))

      waited : (id : ℕ) → (it : HasLwp (waits files s.clock u.clock) s pid id)
          → ((files ≡ true) × (sleeps_at_pipe it.lwp.phase ≡ true))
          ⊎ (wakes_between s.clock u.clock it.lwp.phase ≡ true)
          → has_pid new.movable pid ≡ true
      waited id it (inl (may, sleeps)) =
          follows.by_files may pid spared (pipes-before it.process id it.lwp it.live it.there sleeps) now
      waited id it (inr wakes) =
          woken clock refl it.lwp.phase wakes (due-before it.process id it.lwp it.live it.there wakes)

      by : (id : ℕ) → (can_move s pid id ≡ true) ⊎ HasLwp (waits files s.clock u.clock) s pid id
          → has_pid new.movable pid ≡ true
      by id (inl can) = could id can (mover s pid id can)
      by id (inr it) = waited id it (waits-for files s.clock u.clock it.lwp.phase it.kind)

  pub covers-later : Covers (is_movable u) u new pid
  covers-later = record {
    moves = moves-later;
    waits = λ q live said.
        let it = lived q live in
        follows.at_pipes pid spared
        (was.waits it.process it.live
        (subst (λ (es : List (ℕ × TracedLwp)). list_any is_at_pipe es ≡ true) it.same said));
    dozes = λ q live said.
        let it = lived q live in
        follows.dozing pid spared
        (was.dozes it.process it.live
        (subst (λ (es : List (ℕ × TracedLwp)). list_any is_dozing es ≡ true) it.same said));
    wakes = λ q moment live said.
        let it = lived q live in
        follows.moments pid moment spared small
        (was.wakes it.process moment it.live
        (earlier-woken s.clock u.clock moment it.process.lwps left.goes_on
        (subst (λ (es : List (ℕ × TracedLwp)). list_any (is_woken u.clock moment) es ≡ true) it.same said)))
        (rw live said);
  }

-- where a step leaves each process that it does not touch
pub covers-every : (touches : ℕ → Bool) (files clock : Bool) (s u : TracedSystem) (old new : ReadySets)
    → KeepsUp touches files clock (is_movable u) u old new → CoversEach every (is_movable s) s old
    → ((pid : ℕ) → touches pid ≡ false → (IsLeft pid files clock s u) ⊎ Covers (is_movable u) u new pid)
    → CoversEach every (is_movable u) u new
covers-every touches files clock s u old new follows before left =
    record { each = λ pid is small. by pid small (cases_Bool (touches pid)) }
  where
    other : (pid : ℕ) → pid < process_limit → touches pid ≡ false
        → (IsLeft pid files clock s u) ⊎ Covers (is_movable u) u new pid → Covers (is_movable u) u new pid
    other pid small spared (inl is) =
        covers-later touches files clock s u old new follows before pid small spared is
    other pid small spared (inr it) = it

    by : (pid : ℕ) → pid < process_limit → (touches pid ≡ true) ⊎ (touches pid ≡ false)
        → Covers (is_movable u) u new pid
    by pid small (inl touched) = follows.touched pid touched small
    by pid small (inr spared) = other pid small spared (left pid spared)

-- the system process has no lwp
pub first-covers : (u : TracedSystem) (r : ReadySets) (answer : ℕ × ℕ → Bool) → IsLawfulSystem u → Covers answer u r 0
unfolding system_process bare_process
first-covers u r answer h = record {
  moves = λ p live said. absurd (false≢true (sym (none p live (is_asked answer 0)) ∙ said));
  waits = λ p live said. absurd (false≢true (sym (none p live is_at_pipe) ∙ said));
  dozes = λ p live said. absurd (false≢true (sym (none p live is_dozing) ∙ said));
  wakes = λ p moment live said. absurd (false≢true (sym (none p live (is_woken u.clock moment)) ∙ said));
}
  where
    none : (p : TracedProcess) → live_process u 0 ≡ Some p → (test : ℕ × TracedLwp → Bool)
        → list_any test p.lwps ≡ false
    none p live test =
        let there = (found-live u 0 p live).0 in
        let same : system_process ≡ p = same_Some system_process p (sym h.first ∙ there) in
        subst (λ (x : TracedProcess). list_any test x.lwps ≡ false) same refl

pub follows-ready : (touches : ℕ → Bool) (files clock : Bool) (s u : TracedSystem) (old new : ReadySets)
    → IsLawfulSystem u → KeepsUp touches files clock (is_movable u) u old new → AreReady s old
    → ((pid : ℕ) → pid ≢ 0 → touches pid ≡ false → IsLeft pid files clock s u) → AreReady u new
follows-ready touches files clock s u old new h follows before left = record {
  covers =
      covers-every touches files clock s u old new follows before.covers (λ pid spared. by pid spared (cases_eq pid 0));
}
  where
    by : (pid : ℕ) → touches pid ≡ false → (pid ≡ 0) ⊎ (pid ≢ 0)
        → (IsLeft pid files clock s u) ⊎ Covers (is_movable u) u new pid
    by pid spared (inl first) =
        inr (subst (λ n. Covers (is_movable u) u new n) (sym first) (first-covers u new (is_movable u) h))
    by pid spared (inr user) = inl (left pid user spared)
