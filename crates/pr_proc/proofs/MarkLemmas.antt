use Rattle.std.proofs.Common.{◌≡◌, ◌≢◌, ◌⊎◌, ◌||◌, ◌&&◌, ◌+◌, ◌*◌, ◌/◌, ◌%◌, ◌<◌, ◌≤◌, ℕ, Bool, true, false, not, eqb, ltb, cond, List, [], ◌∷◌, Option, Some, None, IfNone, is_some, refl, sym, subst, ap, ◌∙◌, arith, inl, inr}
use Rattle.std.proofs.Math.Nat.{div-add-mod, mod-lt}
use Rattle.std.proofs.lemmas.Bool.{cases_Bool, cases_eq, cases_lt, eq-eqb, eqb-true, le-ltb, lt-ltb, ltb-true, ne_eqb, true≢false}
use Rattle.std.proofs.lemmas.Option.{none-some, same_Some}
use Rattle.pr_num.specs.ById.{first_from, rises_from, under, without_id, put_under, inserted}
use Rattle.pr_num.specs.Limits.{process_limit}
use Rattle.pr_num.proofs.ByIdLaws.{under-inserted_other, under-without_id, under-without_id_other}
use Rattle.pr_num.proofs.ByIdLemmas.{rises_from-tail, under-below}
use Rattle.pr_model.specs.State.{TracedProcess}
use Rattle.pr_pids.specs.Blocks.{has_block}
use Rattle.pr_slots.proofs.WalkLaws.{under-next}
use Rattle.pr_proc.specs.Marks.{AreMarked, AreMarkedBut, HasNone, HasNoneFrom, HasNoneIn, IsMarked, any_process, block_of, has_ended, zombie_status}

-- In which blocks of ids the children of a process stand, all or those of a kind.

abbrev Pairs : Type 0
Pairs = List (ℕ × TracedProcess)

-- ---- blocks

div-small : (id : ℕ) → id < process_limit → id / 64 < 64
div-small id small = let parts = div-add-mod id 64 in omega arith

div-rises : (low id : ℕ) → low ≤ id → low / 64 ≤ id / 64
div-rises low id least =
    let one = div-add-mod low 64 in
    let two = div-add-mod id 64 in
    let less : low % 64 < 64 = mod-lt low (omega arith) in
    let more : id % 64 < 64 = mod-lt id (omega arith) in
    omega arith

pub block-small : (id : ℕ) → id < process_limit → id / 64 ≡ block_of id
unfolding block_of
block-small id small = sym (rw (lt-ltb id process_limit small) refl)

pub block-last : (id : ℕ) → process_limit ≤ id → 63 ≡ block_of id
unfolding block_of
block-last id large = sym (rw (le-ltb id process_limit large) refl)

pub block-within : (id : ℕ) → block_of id < 64
block-within id =
    elim (cases_lt id process_limit) [
      | inl small ↦ let is = block-small id small in let less = div-small id small in omega arith
      | inr large ↦ let is = block-last id large in omega arith
    ]

pub block-rises : (low id : ℕ) → low ≤ id → block_of low ≤ block_of id
block-rises low id least =
    elim (cases_lt id process_limit) [
      | inl small ↦
          let one = block-small low (omega arith) in
          let two = block-small id small in
          let less = div-rises low id least in
          omega arith
      | inr large ↦ let is = block-last id large in let within = block-within low in omega arith
    ]

pub block-before : (id block : ℕ) → id < block * 64 → block < 64 → block_of id < block
block-before id block below within =
    let is = block-small id (omega arith) in
    let parts = div-add-mod id 64 in
    omega arith

pub block-from : (id block : ℕ) → block * 64 ≤ id → block < 64 → block ≤ block_of id
block-from id block above within =
    elim (cases_lt id process_limit) [
      | inl small ↦
          let is = block-small id small in
          let parts = div-add-mod id 64 in
          let less : id % 64 < 64 = mod-lt id (omega arith) in
          omega arith
      | inr large ↦ let is = block-last id large in omega arith
    ]

-- ---- answers

pub if-none : {A : Type 0} {P : Type 0} (o : Option A) → P → IfNone o P
if-none None holds = holds
if-none (Some x) holds = tt

-- ---- walks

-- no id stands before the first from one on
pub first-none : (k low id : ℕ) (es : Pairs) (e : ℕ × TracedProcess) → rises_from k es ≡ true
    → first_from low es ≡ Some e → low ≤ id → id < e.0 → under id es ≡ None
first-none k low id [] e rises found least less = refl
first-none k low id (d ∷ es) e rises found least less =
    let tail = rises_from-tail k d es rises in
    elim (cases_Bool (ltb d.0 low)) [
      | inl below ↦
          let under_low : d.0 < low = ltb-true d.0 low below in
          rw (ne_eqb d.0 id (λ same. absurd (omega arith)))
          (first-none (d.0 + 1) low id es e tail (rw below at found) least less)
      | inr above ↦
          let same : d ≡ e = same_Some d e (rw above at found) in
          let at : d.0 ≡ e.0 = ap (λ (x : ℕ × TracedProcess). x.0) same in
          rw (ne_eqb d.0 id (λ here. absurd (omega arith))) (under-below (d.0 + 1) id es tail (omega arith))
    ]

pub first-end : (low id : ℕ) (es : Pairs) → first_from low es ≡ None → low ≤ id → under id es ≡ None
first-end low id [] none least = refl
first-end low id (d ∷ es) none least =
    elim (cases_Bool (ltb d.0 low)) [
      | inl below ↦
          let under_low : d.0 < low = ltb-true d.0 low below in
          rw (ne_eqb d.0 id (λ same. absurd (omega arith))) (first-end low id es (rw below at none) least)
      | inr above ↦ absurd (none-some d (sym none ∙ rw above refl))
    ]

-- ---- marks

module _ (kind : TracedProcess → Bool) where
  module _ (out : ℕ) (es : Pairs) where
    -- the one process whose block may not be marked is marked too, if it is of the kind
    pub settled-some : (old new : List ℕ) (q : TracedProcess) → AreMarkedBut kind out old es → Some q ≡ under out es
        → (kind q ≡ true → IsMarked new q.parent out)
        → ((p other : ℕ) → IsMarked old p other → IsMarked new p other) → AreMarked kind new es
    settled-some old new q marks found marked grows = record {
      each = λ id p there meant. elim (cases_eq id out) [
        | inl same ↦
            let is : q ≡ p = same_Some q p (found ∙ ap (λ n. under n es) (sym same) ∙ there) in
            subst (λ n. IsMarked new p.parent n) (sym same)
            (subst (λ (x : TracedProcess). IsMarked new x.parent out) is
            (marked (ap (λ (x : TracedProcess). kind x) is ∙ meant)))
        | inr apart ↦ grows p.parent id (marks.each id p there meant apart)
      ];
    }

    -- or there is none
    pub settled-none : (words : List ℕ) → AreMarkedBut kind out words es → None ≡ under out es → AreMarked kind words es
    settled-none words marks none = record {
      each = λ id p there meant. elim (cases_eq id out) [
        | inl same ↦ absurd (none-some p (none ∙ ap (λ n. under n es) (sym same) ∙ there))
        | inr apart ↦ marks.each id p there meant apart
      ];
    }

  -- a process of any id may then be the one
  pub marked-but : (out : ℕ) (words : List ℕ) (es : Pairs) → AreMarked kind words es → AreMarkedBut kind out words es
  marked-but out words es marks = record { each = λ id p there meant apart. marks.each id p there meant }

-- ---- processes come, change and go

under-put_other : (id other : ℕ) (w : TracedProcess) → id ≢ other → (es : Pairs)
    → under other (put_under id w es) ≡ under other es
under-put_other id other w apart [] = refl
under-put_other id other w apart (e ∷ es) =
    elim (cases_Bool (eqb e.0 id)) [
      | inl here ↦
          let at : e.0 ≡ id = eqb-true e.0 id here in
          rw (here, ne_eqb e.0 other (λ same. apart (sym at ∙ same))) refl
      | inr differs ↦ rw differs
          (ap (λ (o : Option TracedProcess). cond (eqb e.0 other) (Some e.1) o) (under-put_other id other w apart es))
    ]

module _ (kind : TracedProcess → Bool) where
  pub marks-changed : (id : ℕ) (w : TracedProcess) (words : List ℕ) (es : Pairs) → AreMarkedBut kind id words es
      → AreMarkedBut kind id words (put_under id w es)
  marks-changed id w words es marks = record {
    each = λ other p there meant apart.
        marks.each other p (sym (under-put_other id other w (λ same. apart (sym same)) es) ∙ there) meant apart;
  }

  pub marks-more : (id : ℕ) (x : TracedProcess) (words : List ℕ) (es : Pairs) → AreMarked kind words es
      → AreMarkedBut kind id words (inserted id x es)
  marks-more id x words es marks = record {
    each = λ other p there meant apart.
        marks.each other p (sym (under-inserted_other id other x (λ same. apart (sym same)) es) ∙ there) meant;
  }

  pub marks-fewer : (id : ℕ) (words : List ℕ) (es : Pairs) → rises_from 0 es ≡ true → AreMarked kind words es
      → AreMarked kind words (without_id id es)
  marks-fewer id words es rises marks = record {
    each = λ other p there meant. elim (cases_eq id other) [
      | inl same ↦ absurd
          (none-some p (sym (under-without_id 0 id es rises) ∙ ap (λ n. under n (without_id id es)) same ∙ there))
      | inr apart ↦ marks.each other p (sym (under-without_id_other id other apart es) ∙ there) meant
    ];
  }

  -- no process is there at the start
  pub marks-empty : (words : List ℕ) (es : Pairs) → es ≡ [] → AreMarkedBut kind 0 words es
  marks-empty words es empty = rw empty (record { each = λ id p there meant apart. absurd (none-some p there) })

-- ---- one mark

pub marked-large : (words : List ℕ) (parent id : ℕ) → process_limit ≤ parent → IsMarked words parent id
unfolding IsMarked
marked-large words parent id large small = absurd (omega arith)

-- one block is marked
module _ (old new : List ℕ) (parent id block : ℕ) (at : block ≡ block_of id)
    (put : (p b : ℕ) → has_block new p b ≡ (has_block old p b || (eqb p parent && eqb b block))) where
  pub marked-one : IsMarked new parent id
  unfolding IsMarked
  marked-one small =
      put parent (block_of id)
      ∙ rw (eq-eqb parent parent refl, eq-eqb (block_of id) block (sym at))
      (or-true (has_block old parent (block_of id)))
    where
      or-true : (b : Bool) → (b || true) ≡ true
      or-true true = refl
      or-true false = refl

  pub marked-more : (p other : ℕ) → IsMarked old p other → IsMarked new p other
  unfolding IsMarked
  marked-more p other was small = put p (block_of other) ∙ rw (was small) refl

-- a block is marked no longer, for a process that has no child of the kind in it
pub cleared : (kind : TracedProcess → Bool) (parent block : ℕ) (old new : List ℕ) (es : Pairs) → AreMarked kind old es
    → HasNoneIn kind parent block es
    → ((p b : ℕ) → b < 64 → has_block new p b ≡ (has_block old p b && not (eqb p parent && eqb b block)))
    → AreMarked kind new es
unfolding IsMarked
cleared kind parent block old new es marks none taken = record {
  each = λ id p there meant.
      by id p there meant (cases_Bool (eqb p.parent parent)) (cases_Bool (eqb (block_of id) block));
}
  where
    kept : (id : ℕ) (p : TracedProcess) → under id es ≡ Some p → kind p ≡ true
        → (eqb p.parent parent && eqb (block_of id) block) ≡ false → IsMarked new p.parent id
    kept id p there meant apart small =
        taken p.parent (block_of id) (block-within id) ∙ rw (marks.each id p there meant small, apart) refl

    by : (id : ℕ) (p : TracedProcess) → under id es ≡ Some p → kind p ≡ true
        → (eqb p.parent parent ≡ true) ⊎ (eqb p.parent parent ≡ false)
        → (eqb (block_of id) block ≡ true) ⊎ (eqb (block_of id) block ≡ false) → IsMarked new p.parent id
    by id p there meant (inl own) (inl here) =
        absurd (none.each id p there meant (eqb-true (block_of id) block here) (eqb-true p.parent parent own))
    by id p there meant (inl own) (inr differs) = kept id p there meant (rw (own, differs) refl)
    by id p there meant (inr other) here = kept id p there meant (rw other refl)

-- no block that is passed was marked
module _ (words : List ℕ) (parent low id : ℕ) (small : parent < process_limit) (least : low ≤ id) where
  pub before-marked : (block : ℕ) → ((b : ℕ) → block_of low ≤ b → b < block → has_block words parent b ≡ false)
      → block < 64 → id < block * 64 → IsMarked words parent id → ⊥
  unfolding IsMarked
  before-marked block none within before marked =
      true≢false (sym (marked small)
      ∙ none (block_of id) (block-rises low id least) (block-before id block before within))

  pub none-marked : ((b : ℕ) → block_of low ≤ b → b < 64 → has_block words parent b ≡ false)
      → IsMarked words parent id → ⊥
  unfolding IsMarked
  none-marked none marked =
      true≢false (sym (marked small) ∙ none (block_of id) (block-rises low id least) (block-within id))

-- ---- children

-- a process that is no child, or has not ended
pub no-zombie : (parent : ℕ) (p : TracedProcess) → zombie_status parent p ≡ None → has_ended p ≡ true
    → p.parent ≢ parent
no-zombie parent p none ended own =
    true≢false (sym ended ∙ ap is_some (rw (eq-eqb p.parent parent own) at none))

-- a child that has ended
pub is-zombie : (parent status : ℕ) (p : TracedProcess) → zombie_status parent p ≡ Some status
    → (p.parent ≡ parent) × (p.ended ≡ Some status)
is-zombie parent status p is = by (cases_Bool (eqb p.parent parent))
  where
    by : (eqb p.parent parent ≡ true) ⊎ (eqb p.parent parent ≡ false) → (p.parent ≡ parent) × (p.ended ≡ Some status)
    by (inl own) = (eqb-true p.parent parent own, rw own at is)
    by (inr other) = absurd (none-some status (rw other at is))

module _ (kind : TracedProcess → Bool) (parent : ℕ) (es : Pairs) where
  -- where there is no child, there is none of any kind
  pub none-at_all : (block : ℕ) → HasNoneIn any_process parent block es → HasNoneIn kind parent block es
  none-at_all block none = record { each = λ id p there meant here. none.each id p there refl here }

  -- at the start
  pub none-passed : (from : ℕ) → HasNone kind parent from from es
  none-passed from = record { each = λ id p there meant least less. absurd (omega arith) }

  -- ids without a child behind others
  pub none-further : (from mid to : ℕ) → HasNone kind parent from mid es
      → ((id : ℕ) (p : TracedProcess) → under id es ≡ Some p → kind p ≡ true → mid ≤ id → id < to → p.parent ≢ parent)
      → HasNone kind parent from to es
  none-further from mid to none more = record {
    each = λ id p there meant least less. elim (cases_lt id mid) [
      | inl before ↦ none.each id p there meant least before
      | inr behind ↦ more id p there meant behind less
    ];
  }

  pub none-behind : (from mid : ℕ) → HasNone kind parent from mid es
      → ((id : ℕ) (p : TracedProcess) → under id es ≡ Some p → kind p ≡ true → mid ≤ id → p.parent ≢ parent)
      → HasNoneFrom kind parent from es
  none-behind from mid none more = record {
    each = λ id p there meant least. elim (cases_lt id mid) [
      | inl before ↦ none.each id p there meant least before
      | inr behind ↦ more id p there meant behind
    ];
  }

  module _ (rises : rises_from 0 es ≡ true) where
    -- none stands before the first process from an id on
    pub none-before : (from low id : ℕ) (q : TracedProcess) → HasNone kind parent from low es
        → first_from low es ≡ Some (id, q) → HasNone kind parent from id es
    none-before from low id q none next =
        none-further from low id none
        (λ other p there meant least less.
        absurd (none-some p (sym (first-none 0 low other es (id, q) rises next least less) ∙ there)))

    -- and none up to it where it is no child of the kind
    pub none-with : (from low id : ℕ) (q : TracedProcess) → HasNone kind parent from low es
        → first_from low es ≡ Some (id, q) → (kind q ≡ true → q.parent ≢ parent) → HasNone kind parent from (id + 1) es
    none-with from low id q none next apart =
        none-further from id (id + 1) (none-before from low id q none next)
        (λ other p there meant least less own.
        let same : q ≡ p = is other p there (omega arith) in
        apart (ap (λ (x : TracedProcess). kind x) same ∙ meant) (ap (λ (x : TracedProcess). x.parent) same ∙ own))
      where
        is : (other : ℕ) (p : TracedProcess) → under other es ≡ Some p → other ≡ id → q ≡ p
        is other p there same =
            same_Some q p (sym (under-next 0 low es (id, q) rises next) ∙ ap (λ n. under n es) (sym same) ∙ there)

    pub none-end : (from low : ℕ) → HasNone kind parent from low es → first_from low es ≡ None
        → HasNoneFrom kind parent from es
    none-end from low none next =
        none-behind from low none
        (λ other p there meant least. absurd (none-some p (sym (first-end low other es next least) ∙ there)))

    -- in a block
    pub none-in : (block low : ℕ) → block < 64 → HasNoneFrom kind parent (block * 64) es
        → HasNoneIn kind parent block es
    none-in block low within none = record {
      each = λ other p there meant here. elim (cases_lt other (block * 64)) [
        | inl before ↦ (let less = block-before other block before within in absurd (omega arith))
        | inr behind ↦ none.each other p there meant behind
      ];
    }

    pub none-in_block : (block low id : ℕ) (q : TracedProcess) → block < 64 → block * 64 ≤ low → low ≤ id
        → HasNone kind parent (block * 64) low es → first_from low es ≡ Some (id, q) → block_of id ≢ block
        → HasNoneIn kind parent block es
    none-in_block block low id q within start least none next apart = record {
      each = λ other p there meant here. elim (cases_lt other id) [
        | inl before ↦ elim (cases_lt other (block * 64)) [
          | inl below ↦ (let less = block-before other block below within in absurd (omega arith))
          | inr above ↦ (none-before (block * 64) low id q none next).each other p there meant above before
        ]
        | inr behind ↦ absurd
            (apart
            (let one = block-from id block (omega arith) within in
            let two = block-rises id other behind in omega arith))
      ];
    }
