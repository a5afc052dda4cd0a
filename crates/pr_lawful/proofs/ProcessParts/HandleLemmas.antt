use Rattle.std.proofs.Common.{◌≡◌, ◌≢◌, ◌&&◌, ◌||◌, ℕ, zero, suc, ◌+◌, ◌<◌, ◌≤◌, Bool, true, false, not, is_none, eqb, get_or, set, cond, Option, Some, None, List, [], ◌∷◌, refl, sym, ◌∙◌, ap, arith, inl, inr}
use Rattle.std.specs.List.{All, count_by, list_any, position, slice_get}
use Rattle.std.proofs.lemmas.Bool.{and_parts, cases_eq, eq-eqb, eqb-true, false≢true, ne_eqb}
use Rattle.std.proofs.lemmas.List.Elements.{All-nil, All-cons, All-head, All-tail, All-set}
use Rattle.std.proofs.lemmas.List.Quantifiers.{position-Some}
use Rattle.std.proofs.lemmas.List.Sums.{sum_by-cons, sum_by-set}
use Rattle.std.proofs.lemmas.Option.{get_or_from_slice_get, same_Some, none-some, slice_get-get_or, slice_get_within}
use Rattle.pr_num.proofs.BoolLemmas.{or_false}
use Rattle.pr_num.specs.ById.{under, change_under, rises_from}
use Rattle.pr_num.proofs.ByIdLemmas.{rises_from-head, rises_from-tail}
use Rattle.pr_model.specs.Handles.{is_control, is_writable, is_exclusive, is_writer, is_exclusive_writer, has_writer, has_exclusive_writer, fits_file, conflicts, own, handle_of}
use Rattle.pr_model.specs.Lawful.{IsFitting, AreExclusive, IsReleased}
use Rattle.pr_model.specs.State.{Places, TracedProcess}
use Rattle.pr_model.specs.declared.calls.Mode.{Mode}
use Rattle.pr_model.specs.declared.calls.Mode.TheVariants.{Read, Write, WriteExcl}
use Rattle.pr_model.specs.declared.handles.Held.{Held}
use Rattle.pr_num.proofs.SearchLemmas.{All-at}

-- The places for open handles, when one is taken and when one is free again.

-- ---- lists of which one element is another

module _ {X : Type 0} (q : X → Bool) where
  swap_bits : (a b c : Bool) → ((a || b) || c) ≡ ((c || b) || a)
  swap_bits true true true = refl
  swap_bits true true false = refl
  swap_bits true false true = refl
  swap_bits true false false = refl
  swap_bits false true true = refl
  swap_bits false true false = refl
  swap_bits false false true = refl
  swap_bits false false false = refl

  under_bit : (a b c d e : Bool) → (b || c) ≡ (d || e) → ((a || b) || c) ≡ ((a || d) || e)
  under_bit true b c d e same = refl
  under_bit false b c d e same = same

  pub any-swap : (xs : List X) (i : ℕ) (x y : X) → slice_get xs i ≡ Some x
      → (list_any q (set xs i y) || q x) ≡ (list_any q xs || q y)
  any-swap [] i x y found = cc
  any-swap (z ∷ zs) zero x y found =
      let same = same_Some z x found in
      rw same (swap_bits (q y) (list_any q zs) (q x))
  any-swap (z ∷ zs) (suc i) x y found =
      under_bit (q z) (list_any q (set zs i y)) (q x) (list_any q zs) (q y) (any-swap zs i x y found)

  pub any-at : (xs : List X) (i : ℕ) (x : X) → slice_get xs i ≡ Some x → q x ≡ true → list_any q xs ≡ true
  any-at [] i x found passes = cc
  any-at (z ∷ zs) zero x found passes = let same = same_Some z x found in rw (same, passes) refl
  any-at (z ∷ zs) (suc i) x found passes =
      elim (q z) as (λ b. (b || list_any q zs) ≡ true) [ true ↦ refl | false ↦ any-at zs i x found passes ]

  pub count-swap : (xs : List X) (i : ℕ) (x y : X) → slice_get xs i ≡ Some x
      → count_by q (set xs i y) + cond (q x) 1 0 ≡ count_by q xs + cond (q y) 1 0
  count-swap xs i x y found =
      let counted = sum_by-set (λ z. cond (q z) 1 0) xs i y x (slice_get_within xs i x found) in
      rw (get_or_from_slice_get xs i x x found) at counted

  count-cons : (x : X) (xs : List X) → count_by q (x ∷ xs) ≡ cond (q x) 1 0 + count_by q xs
  count-cons x xs = sum_by-cons (λ z. cond (q z) 1 0) x xs

  pub count-some : (xs : List X) → list_any q xs ≡ true → 1 ≤ count_by q xs
  count-some [] some = cc
  count-some (x ∷ xs) some =
      let counted = count-cons x xs in
      elim (q x) as
      (λ b. (b || list_any q xs) ≡ true → count_by q (x ∷ xs) ≡ cond b 1 0 + count_by q xs → 1 ≤ count_by q
      (x ∷ xs)) [
        | true ↦ λ here is. omega arith
        | false ↦ λ there is. let rest =
            count-some xs there in omega arith
      ] some counted

  pub count-none : (xs : List X) → list_any q xs ≡ false → count_by q xs ≡ 0
  count-none [] none = refl
  count-none (x ∷ xs) none =
      let counted = count-cons x xs in
      elim (q x) as
      (λ b. (b || list_any q xs) ≡ false → count_by q (x ∷ xs) ≡ cond b 1 0 + count_by q xs → count_by q
      (x ∷ xs) ≡ 0) [
        | true ↦ λ here is. absurd (false≢true (sym here))
        | false ↦ λ there is. let rest =
            count-none xs there in omega arith
      ] none counted

-- ---- handles

-- a place that is free
is-free : (o : Option Held) → is_none o ≡ true → o ≡ None
is-free None is = refl
is-free (Some h) is = cc

pub free-at : (opens : Places) (place : ℕ) → position is_none opens ≡ Some place → slice_get opens place ≡ Some None
free-at opens place at =
    let found = position-Some is_none opens place None at in
    slice_get-get_or opens place None found.0
    ∙ ap (λ (o : Option Held). Some o) (is-free (get_or opens place None) found.1)

-- the handle of a number stands there
pub handle-at : (opens : Places) (by number : ℕ) (h : Held) → handle_of opens by number ≡ Some h
    → slice_get opens number ≡ Some (Some h)
unfolding handle_of
handle-at opens by number h is = at (slice_get opens number) is
  where
    its : (x : Held) (b : Bool) → cond b (Some x) None ≡ Some h → Some (Some x) ≡ Some (Some h)
    its x true is = ap (λ (o : Option Held). Some o) is
    its x false is = absurd (none-some h is)

    at : (o : Option (Option Held)) → own by o ≡ Some h → o ≡ Some (Some h)
    at None is = absurd (none-some h is)
    at (Some None) is = absurd (none-some h is)
    at (Some (Some x)) is = its x (eqb x.controller by) is

-- what is exclusive is for writing
exclusive-writes : (m : Mode) → is_exclusive m ≡ true → is_writable m ≡ true
exclusive-writes Read is = cc
exclusive-writes Write is = cc
exclusive-writes WriteExcl is = refl

-- a handle of a control file is for writing
pub control-writes : (h : Held) → fits_file h.file h.mode h.lwp ≡ true → is_control h.file ≡ true
    → is_writable h.mode ≡ true
control-writes h fits control =
    let first = (and_parts _ _ fits).0 in
    by (is_control h.file) (is_writable h.mode) control first
  where
    by : (c w : Bool) → c ≡ true → ((c && w) || (not c && not w)) ≡ true → w ≡ true
    by true true is fits = refl
    by true false is fits = cc
    by false w is fits = cc

-- an exclusive writer is a writer
exclusive-writer : (pid : ℕ) (o : Option Held) → is_exclusive_writer pid o ≡ true → is_writer pid o ≡ true
exclusive-writer pid None is = cc
exclusive-writer pid (Some h) is =
    let parts = and_parts (eqb h.pid pid) (is_exclusive h.mode) is in
    rw (parts.0, exclusive-writes h.mode parts.1) refl

any-weaker : {X : Type 0} (p q : X → Bool) → ((x : X) → p x ≡ true → q x ≡ true) → (xs : List X) → list_any p xs ≡ true
    → list_any q xs ≡ true
any-weaker p q weaker [] is = cc
any-weaker p q weaker (x ∷ xs) is =
    elim (p x) as (λ b. p x ≡ b → (b || list_any p xs) ≡ true → (q x || list_any q xs) ≡ true) [
      | true ↦ λ here some. rw (weaker x here) refl
      | false ↦ λ none there. elim (q x) as
          (λ b. (b || list_any q xs) ≡ true) [ true ↦ refl | false ↦ any-weaker p q weaker xs there ]
    ] refl is

exclusive-has : (pid : ℕ) (opens : Places) → has_exclusive_writer pid opens ≡ true → has_writer pid opens ≡ true
exclusive-has pid opens is = any-weaker (is_exclusive_writer pid) (is_writer pid) (exclusive-writer pid) opens is

-- ---- a place is taken

one_more : (b : Bool) (n m : ℕ) → b ≡ true → m ≡ 0 → n + 0 ≡ m + cond b 1 0 → n ≡ 1
one_more true n m is none counted = omega arith
one_more false n m is none counted = cc

none_more : (b : Bool) (n m : ℕ) → b ≡ false → n + 0 ≡ m + cond b 1 0 → n ≡ m
none_more true n m is counted = cc
none_more false n m is counted = omega arith

module _ (opens : Places) (place : ℕ) (h : Held) (free : slice_get opens place ≡ Some None) where
  abbrev pub taken : Places
  taken = set opens place (Some h)

  writer-taken : (pid : ℕ) → has_writer pid taken ≡ (has_writer pid opens || is_writer pid (Some h))
  writer-taken pid = sym (or_false (has_writer pid taken)) ∙ any-swap (is_writer pid) opens place None (Some h) free

  exclusive-taken : (pid : ℕ)
      → has_exclusive_writer pid taken ≡ (has_exclusive_writer pid opens || is_exclusive_writer pid (Some h))
  exclusive-taken pid =
      sym (or_false (has_exclusive_writer pid taken))
      ∙ any-swap (is_exclusive_writer pid) opens place None (Some h) free

  -- a process that no controller has open for writing then was so before
  pub alone-before : (pid : ℕ) → has_writer pid taken ≡ false → has_writer pid opens ≡ false
  alone-before pid alone = by (has_writer pid opens) (is_writer pid (Some h)) (sym (writer-taken pid) ∙ alone)
    where
      by : (a b : Bool) → (a || b) ≡ false → a ≡ false
      by true b is = cc
      by false b is = refl

  pub fitting-taken : fits_file h.file h.mode h.lwp ≡ true → All IsFitting opens → All IsFitting taken
  fitting-taken fits all = All-set IsFitting opens place (Some h) fits all

  pub exclusive-kept : conflicts h.pid h.mode opens ≡ false → AreExclusive opens → AreExclusive taken
  exclusive-kept none e = record { alone = λ pid is. by pid (is_exclusive_writer pid (Some h)) refl is }
    where
      count : (pid : ℕ)
          → count_by (is_writer pid) taken + 0 ≡ count_by (is_writer pid) opens + cond (is_writer pid (Some h)) 1 0
      count pid = count-swap (is_writer pid) opens place None (Some h) free

      -- no conflict: an exclusive handle comes where there is no writer, and a writer where there is no exclusive one
      no_writer : is_exclusive h.mode ≡ true → has_writer h.pid opens ≡ false
      no_writer exclusive =
          go (is_exclusive h.mode) (has_writer h.pid opens)
          (is_writable h.mode && has_exclusive_writer h.pid opens) exclusive none
        where
          go : (a b c : Bool) → a ≡ true → ((a && b) || c) ≡ false → b ≡ false
          go true true c is clear = cc
          go true false c is clear = refl
          go false b c is clear = cc

      no_exclusive : is_writable h.mode ≡ true → has_exclusive_writer h.pid opens ≡ false
      no_exclusive writable =
          go (is_exclusive h.mode && has_writer h.pid opens) (is_writable h.mode)
          (has_exclusive_writer h.pid opens) writable none
        where
          go : (c a b : Bool) → a ≡ true → (c || (a && b)) ≡ false → b ≡ false
          go true a b is clear = cc
          go false true true is clear = cc
          go false true false is clear = refl
          go false false b is clear = cc

      -- the new handle is no writer of a process that has an exclusive one
      other : (pid : ℕ) → has_exclusive_writer pid opens ≡ true → is_writer pid (Some h) ≡ false
      other pid had = go (is_writer pid (Some h)) refl
        where
          go : (b : Bool) → is_writer pid (Some h) ≡ b → b ≡ false
          go false is = refl
          go true is =
              let parts = and_parts (eqb h.pid pid) (is_writable h.mode) is in
              let same = eqb-true h.pid pid parts.0 in
              absurd (false≢true (sym (no_exclusive parts.1) ∙ ap (λ n. has_exclusive_writer n opens) same ∙ had))

      by : (pid : ℕ) (b : Bool) → is_exclusive_writer pid (Some h) ≡ b → has_exclusive_writer pid taken ≡ true
          → count_by (is_writer pid) taken ≡ 1
      by pid true new is =
          let parts = and_parts (eqb h.pid pid) (is_exclusive h.mode) new in
          let same = eqb-true h.pid pid parts.0 in
          let before = count-none (is_writer pid) opens (ap (λ n. has_writer n opens) (sym same) ∙ no_writer parts.1) in
          let writer = exclusive-writer pid (Some h) new in
          one_more (is_writer pid (Some h)) (count_by (is_writer pid) taken)
          (count_by (is_writer pid) opens) writer before (count pid)
      by pid false old is =
          let had : has_exclusive_writer pid opens ≡ true =
          sym (or_false (has_exclusive_writer pid opens)) ∙ ap (λ b. has_exclusive_writer pid opens || b) (sym old)
          ∙ sym (exclusive-taken pid) ∙ is in
          let before = e.alone pid had in
          none_more (is_writer pid (Some h)) (count_by (is_writer pid) taken) (count_by (is_writer pid) opens)
          (other pid had) (count pid) ∙ before

-- ---- a place is free again

module _ (opens : Places) (place : ℕ) (h : Held) (there : slice_get opens place ≡ Some (Some h)) where
  abbrev pub freed : Places
  freed = set opens place None

  writer-freed : (pid : ℕ) → (has_writer pid freed || is_writer pid (Some h)) ≡ has_writer pid opens
  writer-freed pid = any-swap (is_writer pid) opens place (Some h) None there ∙ or_false (has_writer pid opens)

  exclusive-freed : (pid : ℕ)
      → (has_exclusive_writer pid freed || is_exclusive_writer pid (Some h)) ≡ has_exclusive_writer pid opens
  exclusive-freed pid =
      any-swap (is_exclusive_writer pid) opens place (Some h) None there ∙ or_false (has_exclusive_writer pid opens)

  -- no controller had the process open for writing, where none has it then and the handle was not for writing it
  pub alone-then : (pid : ℕ) → is_writer pid (Some h) ≡ false → has_writer pid freed ≡ false
      → has_writer pid opens ≡ false
  alone-then pid other alone = sym (writer-freed pid) ∙ rw (alone, other) refl

  pub fitting-freed : All IsFitting opens → All IsFitting freed
  fitting-freed all = All-set IsFitting opens place None tt all

  pub exclusive-left : AreExclusive opens → AreExclusive freed
  exclusive-left e = record {
    alone = λ pid is.
        let had : has_exclusive_writer pid opens ≡ true =
        sym (exclusive-freed pid) ∙ ap (λ b. b || is_exclusive_writer pid (Some h)) is in
        let before = e.alone pid had in
        let counted = count-swap (is_writer pid) opens place (Some h) None there in
        let some = count-some (is_writer pid) freed (exclusive-has pid freed is) in
        omega arith;
  }

-- ---- the handle that a message comes by

pub handle-writer : (opens : Places) (number : ℕ) (h : Held) → All IsFitting opens
    → slice_get opens number ≡ Some (Some h) → is_control h.file ≡ true → has_writer h.pid opens ≡ true
handle-writer opens number h all there control =
    let fits : fits_file h.file h.mode h.lwp ≡ true = All-at IsFitting opens number (Some h) there all in
    any-at (is_writer h.pid) opens number (Some h) there
    (rw (eq-eqb h.pid h.pid refl, control-writes h fits control) refl)

-- ---- processes beside other handles

-- what is released beside some handles is so beside others, where no process has a writer fewer
pub released-beside : (opens others : Places) (e : ℕ × TracedProcess)
    → (has_writer e.0 others ≡ false → has_writer e.0 opens ≡ false) → IsReleased opens e → IsReleased others e
released-beside opens others e before h = record {
  no_kill = λ live alone. h.no_kill live (before alone);
  untraced = λ live alone mode. h.untraced live (before alone) mode;
  runs = λ live alone mode. h.runs live (before alone) mode;
}

-- what holds of each process but one, and of that one once it is changed
module _ {X : Type 0} (R : ℕ × X → Type 0) (id : ℕ) where
  beyond : (low : ℕ) (es : List (ℕ × X)) → id < low → rises_from low es ≡ true → All (λ (e : ℕ × X). e.0 ≢ id → R e) es
      → All R es
  beyond low [] above rises all = All-nil R
  beyond low (e ∷ es) above rises all =
      let first = rises_from-head low e es rises in
      All-cons R e es (All-head (λ (d : ℕ × X). d.0 ≢ id → R d) e es all (λ is. absurd (omega arith)))
      (beyond (e.0 + 1) es (omega arith) (rises_from-tail low e es rises)
      (All-tail (λ (d : ℕ × X). d.0 ≢ id → R d) e es all))

  pub all-fixed : (f : X → X) (low : ℕ) (es : List (ℕ × X)) → rises_from low es ≡ true
      → All (λ (e : ℕ × X). e.0 ≢ id → R e) es → ((x : X) → under id es ≡ Some x → R (id, f x))
      → All R (change_under id f es)
  all-fixed f low [] rises all here = All-nil R
  all-fixed f low (e ∷ es) rises all here =
      let tail = rises_from-tail low e es rises in
      elim (cases_eq e.0 id) [
        | inl same ↦
            let it = eq-eqb e.0 id same in
            rw it (All-cons R (e.0, f e.1) es (rw same (here e.1 (rw it refl)))
            (beyond (e.0 + 1) es (omega arith) tail (All-tail (λ (d : ℕ × X). d.0 ≢ id → R d) e es all)))
        | inr apart ↦
            let it = ne_eqb e.0 id apart in
            rw it (All-cons R e (change_under id f es) (All-head (λ (d : ℕ × X). d.0 ≢ id → R d) e es all apart)
            (all-fixed f (e.0 + 1) es tail (All-tail (λ (d : ℕ × X). d.0 ≢ id → R d) e es all) (rw it at here)))
      ]
