use Rattle.std.proofs.Common.{◌≡◌, ◌≢◌, ◌⊎◌, ◌+◌, ℕ, Bool, true, false, eqb, Option, Some, None, IsSome, is_some, List, [], ◌∷◌, refl, sym, ap, ◌∙◌, arith, inl, inr}
use Rattle.std.specs.Option.{ForSome}
use Rattle.std.proofs.lemmas.Bool.{cases_Bool, cases_eq, cases_lt, eq-eqb, eqb-true, ne_eqb, true≢false}
use Rattle.std.proofs.lemmas.Option.{none-some, same_Some}
use Rattle.pr_num.specs.ById.{rises_from, under}
use Rattle.pr_num.proofs.ByIdLemmas.{rises_from-tail, under-below}
use Rattle.pr_model.specs.Readers.{no_child, all_live, first_zombie, child_before, children_among}
use Rattle.pr_model.specs.State.{TracedProcess}
use Rattle.pr_proc.specs.Marks.{HasNoChildFrom, HasNone, HasNoneFrom, HasNoZombie, HasNoZombieFrom, any_process, has_ended}

-- What the first child that has ended tells of the children of a process, and what it tells that there is none.

abbrev Pairs : Type 0
Pairs = List (ℕ × TracedProcess)

-- ids behind the first one stand as in the list behind it
pub tail-under : (e : ℕ × TracedProcess) (es : Pairs) (id : ℕ) (p : TracedProcess) → rises_from (e.0 + 1) es ≡ true
    → under id es ≡ Some p → under id (e ∷ es) ≡ Some p
tail-under e es id p tail there =
    elim (cases_eq e.0 id) [
      | inl same ↦ absurd (none-some p (sym (under-below (e.0 + 1) id es tail (omega arith)) ∙ there))
      | inr apart ↦ rw (ne_eqb e.0 id apart) there
    ]

module _ (parent : ℕ) where
  -- the list behind the first has no child of a kind where the whole has none
  module _ (kind : TracedProcess → Bool) (e : ℕ × TracedProcess) (es : Pairs)
      (tail : rises_from (e.0 + 1) es ≡ true) where
    tail-none : (from to : ℕ) → HasNone kind parent from to (e ∷ es) → HasNone kind parent from to es
    tail-none from to none = record {
      each = λ id p there meant least less. none.each id p (tail-under e es id p tail there) meant least less;
    }

    tail-none_from : (from : ℕ) → HasNoneFrom kind parent from (e ∷ es) → HasNoneFrom kind parent from es
    tail-none_from from none = record {
      each = λ id p there meant least. none.each id p (tail-under e es id p tail there) meant least;
    }

  -- a process that is no child, or lives, hides no child behind it that has ended
  passed : (id status : ℕ) (e : ℕ × TracedProcess) (es : Pairs) → (has_ended e.1 ≡ true → e.1.parent ≢ parent)
      → children_among parent es ≡ first_zombie id status → children_among parent (e ∷ es) ≡ first_zombie id status
  passed id status e es lives rest = by (cases_Bool (eqb e.1.parent parent)) e.1.ended refl
    where
      by : (eqb e.1.parent parent ≡ true) ⊎ (eqb e.1.parent parent ≡ false) → (o : Option ℕ) → e.1.ended ≡ o
          → children_among parent (e ∷ es) ≡ first_zombie id status
      by (inl own) None is =
          rw own
          (ap (λ o. child_before e.0 o (children_among parent es)) is
          ∙ ap (λ others. child_before e.0 None others) rest)
      by (inl own) (Some other) is = absurd (lives (ap is_some is) (eqb-true e.1.parent parent own))
      by (inr other) o is = rw other rest

  -- the first child that has ended
  first : (k id status : ℕ) (q : TracedProcess) (es : Pairs) → rises_from k es ≡ true → under id es ≡ Some q
      → q.parent ≡ parent → q.ended ≡ Some status → HasNoZombie parent 0 id es
      → children_among parent es ≡ first_zombie id status
  first k id status q [] rises there own ended none = absurd (none-some q there)
  first k id status q (e ∷ es) rises there own ended none =
      let tail = rises_from-tail k e es rises in
      elim (cases_eq e.0 id) [
        | inl same ↦
            let is : e.1 ≡ q = same_Some e.1 q (rw (eq-eqb e.0 id same) at there) in
            rw (eq-eqb e.1.parent parent (ap (λ (x : TracedProcess). x.parent) is ∙ own))
            (ap (λ o. child_before e.0 o (children_among parent es)) (ap (λ (x : TracedProcess). x.ended) is ∙ ended)
            ∙ ap (λ n. first_zombie n status) same)
        | inr apart ↦
            let found : under id es ≡ Some q = rw (ne_eqb e.0 id apart) at there in
            let rest = first (e.0 + 1) id status q es tail found own ended (tail-none has_ended e es tail 0 id none) in
            passed id status e es (λ over. lives tail found over) rest
      ]
    where
      lives : rises_from (e.0 + 1) es ≡ true → under id es ≡ Some q → has_ended e.1 ≡ true → e.1.parent ≢ parent
      lives tail found over =
          elim (cases_lt e.0 id) [
            | inl before ↦ none.each e.0 e.1 (rw (eq-eqb e.0 e.0 refl) refl) over (omega arith) before
            | inr behind ↦ absurd (none-some q (sym (under-below (e.0 + 1) id es tail (omega arith)) ∙ found))
          ]

  -- a child that lives before others of which none has ended
  live-before : (n k : ℕ) (es : Pairs) → rises_from k es ≡ true → HasNoZombieFrom parent 0 es
      → child_before n None (children_among parent es) ≡ all_live
  live-before n k [] rises none = refl
  live-before n k (e ∷ es) rises none =
      let tail = rises_from-tail k e es rises in
      by (λ m. live-before m (e.0 + 1) es tail (tail-none_from has_ended e es tail 0 none))
      (cases_Bool (eqb e.1.parent parent)) e.1.ended refl
    where
      by : ((m : ℕ) → child_before m None (children_among parent es) ≡ all_live)
          → (eqb e.1.parent parent ≡ true) ⊎ (eqb e.1.parent parent ≡ false) → (o : Option ℕ) → e.1.ended ≡ o
          → child_before n None (children_among parent (e ∷ es)) ≡ all_live
      by rest (inl own) None is =
          rw own
          (ap (λ o. child_before n None (child_before e.0 o (children_among parent es))) is
          ∙ ap (λ others. child_before n None others) (rest e.0))
      by rest (inl own) (Some status) is =
          absurd (none.each e.0 e.1 (rw (eq-eqb e.0 e.0 refl) refl) (ap is_some is) (omega arith)
          (eqb-true e.1.parent parent own))
      by rest (inr other) o is = rw other (rest n)

  -- a child stands, and none has ended
  some-live : (k id : ℕ) (q : TracedProcess) (es : Pairs) → rises_from k es ≡ true → under id es ≡ Some q
      → q.parent ≡ parent → HasNoZombieFrom parent 0 es → children_among parent es ≡ all_live
  some-live k id q [] rises there own none = absurd (none-some q there)
  some-live k id q (e ∷ es) rises there own none =
      by (λ found. some-live (e.0 + 1) id q es tail found own rest) (cases_Bool (eqb e.1.parent parent)) e.1.ended refl
    where
      tail : rises_from (e.0 + 1) es ≡ true
      tail = rises_from-tail k e es rises

      rest : HasNoZombieFrom parent 0 es
      rest = tail-none_from has_ended e es tail 0 none

      apart : eqb e.1.parent parent ≡ false → e.0 ≢ id
      apart other same =
          let is : e.1 ≡ q = same_Some e.1 q (rw (eq-eqb e.0 id same) at there) in
          true≢false (sym (eq-eqb e.1.parent parent (ap (λ (x : TracedProcess). x.parent) is ∙ own)) ∙ other)

      by : (under id es ≡ Some q → children_among parent es ≡ all_live)
          → (eqb e.1.parent parent ≡ true) ⊎ (eqb e.1.parent parent ≡ false) → (o : Option ℕ) → e.1.ended ≡ o
          → children_among parent (e ∷ es) ≡ all_live
      by behind (inl mine) None is =
          rw mine
          (ap (λ o. child_before e.0 o (children_among parent es)) is ∙ live-before e.0 (e.0 + 1) es tail rest)
      by behind (inl mine) (Some status) is =
          absurd (none.each e.0 e.1 (rw (eq-eqb e.0 e.0 refl) refl) (ap is_some is) (omega arith)
          (eqb-true e.1.parent parent mine))
      by behind (inr other) o is = rw other (behind (rw (ne_eqb e.0 id (apart other)) at there))

  -- none is a child
  nobody : (k : ℕ) (es : Pairs) → rises_from k es ≡ true → HasNoChildFrom parent 0 es
      → children_among parent es ≡ no_child
  nobody k [] rises none = refl
  nobody k (e ∷ es) rises none =
      let tail = rises_from-tail k e es rises in
      let apart = none.each e.0 e.1 (rw (eq-eqb e.0 e.0 refl) refl) refl (omega arith) in
      rw (ne_eqb e.1.parent parent apart)
      (nobody (e.0 + 1) es tail (tail-none_from any_process e es tail 0 none))

  module _ (es : Pairs) (rises : rises_from 0 es ≡ true) where
    pub first-told : (id status : ℕ) → IsSome (under id es) → ForSome (under id es) (λ p. p.parent ≡ parent)
        → ForSome (under id es) (λ p. p.ended ≡ Some status) → HasNoZombie parent 0 id es
        → children_among parent es ≡ first_zombie id status
    first-told id status stands own ended none = by (under id es) refl stands
      where
        by : (o : Option TracedProcess) → under id es ≡ o → IsSome o → children_among parent es ≡ first_zombie id status
        by None is some = absurd (cc)
        by (Some p) is some = first 0 id status p es rises is (own p is) (ended p is) none

    pub living-told : (id : ℕ) (p : TracedProcess) → under id es ≡ Some p → p.parent ≡ parent
        → HasNoZombieFrom parent 0 es → children_among parent es ≡ all_live
    living-told id p there own none = some-live 0 id p es rises there own none

    pub nobody-told : HasNoChildFrom parent 0 es → children_among parent es ≡ no_child
    nobody-told none = nobody 0 es rises none
