use Rattle.std.proofs.Common.{◌≡◌, ◌⊎◌, ◌+◌, ◌*◌, ◌/◌, ◌%◌, ◌<◌, ◌≤◌, ℕ, Bool, true, false, min, Option, Some, None, List, [], ◌∷◌, length, sym, subst, arith, inl, inr}
use Rattle.std.specs.List.{fold, list_any}
use Rattle.std.specs.Prelude.{nat_le, nat_lt, replicate, slice_index}
use Rattle.std.proofs.Math.ListN.{get_or-eq_default}
use Rattle.std.proofs.Math.Nat.{div-add-mod, mod-lt}
use Rattle.std.proofs.lemmas.Bool.{and_parts, cases_Bool, cases_eq, cases_lt, false≢true, le-ltb, leb-true, lt-ltb, ltb-true}
use Rattle.std.proofs.lemmas.List.{get_or-replicate, length-replicate}
use Rattle.pr_num.specs.declared.syscalls.Sysno.TheVariants.{Sleep}
use Rattle.pr_model.specs.State.{TracedLwp, TracedProcess, TracedSystem, live_process}
use Rattle.pr_model.specs.declared.lwps.Phase.{Phase}
use Rattle.pr_model.specs.declared.lwps.Phase.TheVariants.{Asleep}
use Rattle.pr_pids.specs.Members.{has_pid}
use Rattle.pr_ready.specs.Moments.{coming_moment, if_coming, last_moment, lesser_moment, next_moment, next_moment_of}
use Rattle.pr_ready.specs.Ready.{is_woken, some_answer_of, some_woken_of}
use Rattle.pr_ready_laws.specs.Left.{comes_between, moment_of, wakes_between}

-- When the clock wakes someone, and how a block is looked at.

-- ---- the next moment

-- a moment to which the clock comes
comes-least : (clock later moment : ℕ) → comes_between clock later moment ≡ true
    → if_coming clock (min moment last_moment) ≤ later
comes-least clock later moment comes =
    let parts = and_parts (nat_lt clock moment) (nat_le moment later) comes in
    let behind = ltb-true clock moment parts.0 in
    let before = leb-true moment later parts.1 in
    elim (cases_lt clock (min moment last_moment)) [
      | inl coming ↦ rw (lt-ltb clock (min moment last_moment) coming) (omega arith)
      | inr past ↦ rw (le-ltb clock (min moment last_moment) past) (omega arith)
    ]

coming-least : (clock later : ℕ) (ph : Phase) → wakes_between clock later ph ≡ true → coming_moment clock ph ≤ later
coming-least clock later (Asleep Sleep args since) wakes = comes-least clock later (moment_of args since) wakes
coming-least clock later _ wakes = absurd (false≢true wakes)

fold-least : (clock least : ℕ) (es : List (ℕ × TracedLwp)) → fold (lesser_moment clock) least es ≤ least
fold-least clock least [] = omega arith
fold-least clock least (e ∷ es) =
    let rest = fold-least clock (lesser_moment clock least e) es in
    omega (arith, rest)

fold-next : (clock later least : ℕ) (es : List (ℕ × TracedLwp)) → list_any (is_woken clock later) es ≡ true
    → fold (lesser_moment clock) least es ≤ later
fold-next clock later least [] wakes = absurd (false≢true wakes)
fold-next clock later least (e ∷ es) wakes =
    by (cases_Bool (wakes_between clock later e.1.phase))
    (λ rest. fold-next clock later (lesser_moment clock least e) es rest)
  where
    by : (wakes_between clock later e.1.phase ≡ true) ⊎ (wakes_between clock later e.1.phase ≡ false)
        → (list_any (is_woken clock later) es ≡ true
        → fold (lesser_moment clock) (lesser_moment clock least e) es ≤ later)
        → fold (lesser_moment clock) (lesser_moment clock least e) es ≤ later
    by (inl is) rest =
        let all = fold-least clock (lesser_moment clock least e) es in
        let own = coming-least clock later e.1.phase is in
        omega (arith, all, own)
    by (inr none) rest = rest (rw none at wakes)

-- who wakes later does so at no earlier moment than the next
pub next-woken : (clock later : ℕ) (es : List (ℕ × TracedLwp)) → list_any (is_woken clock later) es ≡ true
    → next_moment clock es ≤ later
next-woken clock later es wakes = fold-next clock later last_moment es wakes

pub next-woken_of : (clock later : ℕ) (o : Option TracedProcess) → some_woken_of clock later o ≡ true
    → next_moment_of clock o ≤ later
next-woken_of clock later None wakes = absurd (false≢true wakes)
next-woken_of clock later (Some p) wakes = next-woken clock later p.lwps wakes

-- ---- blocks

pub block-start : (pid block : ℕ) → pid / 64 ≡ block → block * 64 ≤ pid
block-start pid block there =
    let parts = div-add-mod pid 64 in
    omega arith

pub block-end : (pid block : ℕ) → pid / 64 ≡ block → pid < block * 64 + 64
block-end pid block there =
    let parts = div-add-mod pid 64 in
    let less : pid % 64 < 64 = mod-lt pid (omega arith) in
    omega arith

pub block-inside : (pid : ℕ) → pid < 4096 → pid / 64 < 64
block-inside pid small =
    let parts = div-add-mod pid 64 in
    omega arith

-- at the start the moment of each is 0
abbrev zeros : List ℕ
zeros = replicate 64 0

pub blocks-zero : (block : ℕ) → slice_index (replicate 64 0) block ≡ 0
blocks-zero block =
    elim (cases_lt block 64) [
      | inl inside ↦ get_or-replicate 64 block 0 0 inside
      | inr past ↦
          let long : length zeros ≡ 64 = length-replicate {A = ℕ} 64 0 in
          get_or-eq_default zeros 0 (subst (λ n. n ≤ block) (sym long) past)
    ]

-- each process from one id on, below another one, was looked at
abbrev pub LookedBelow : (ℕ × ℕ → Bool) → TracedSystem → List ℕ → ℕ → ℕ → Type 0
LookedBelow answer s movable from end =
    (pid : ℕ) → from ≤ pid → pid < end → some_answer_of answer pid (live_process s pid) ≡ true
    → has_pid movable pid ≡ true

-- and none of them wakes before a moment
abbrev pub NextBelow : TracedSystem → ℕ → ℕ → ℕ → Type 0
NextBelow s next from end =
    (pid moment : ℕ) → from ≤ pid → pid < end → some_woken_of s.clock moment (live_process s pid) ≡ true → next ≤ moment

pub looked-next : (answer : ℕ × ℕ → Bool) (s : TracedSystem) (old new : List ℕ) (from end : ℕ)
    → LookedBelow answer s old from end → ((pid : ℕ) → has_pid old pid ≡ true → has_pid new pid ≡ true)
    → (some_answer_of answer end (live_process s end) ≡ true → has_pid new end ≡ true)
    → LookedBelow answer s new from (end + 1)
looked-next answer s old new from end before grows own pid least less said =
    elim (cases_eq pid end) [
      | inl same ↦
          subst (λ n. has_pid new n ≡ true) (sym same)
          (own (subst (λ n. some_answer_of answer n (live_process s n) ≡ true) same said))
      | inr apart ↦ grows pid (before pid least (omega arith) said)
    ]

pub next-next : (s : TracedSystem) (old own new from end : ℕ) → NextBelow s old from end
    → ((moment : ℕ) → some_woken_of s.clock moment (live_process s end) ≡ true → own ≤ moment) → new ≤ old → new ≤ own
    → NextBelow s new from (end + 1)
next-next s old own new from end before here less lesser pid moment least below wakes =
    elim (cases_eq pid end) [
      | inl same ↦
          let is = here moment (subst (λ n. some_woken_of s.clock moment (live_process s n) ≡ true) same wakes) in
          omega arith
      | inr apart ↦ let is = before pid moment least (omega arith) wakes in omega arith
    ]
