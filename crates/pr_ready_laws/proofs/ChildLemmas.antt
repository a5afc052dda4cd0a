use Rattle.std.proofs.Common.{◌≡◌, ◌≢◌, ◌||◌, ℕ, Bool, true, false, is_some, eqb, ltb, cond, Option, Some, None, List, [], ◌∷◌, refl, sym, subst, ◌∙◌, ap}
use Rattle.std.proofs.lemmas.Bool.{eqb-true, eq-eqb, ne_eqb, or_parts, true≢false}
use Rattle.std.proofs.lemmas.Option.{same_Some}
use Rattle.pr_num.specs.ById.{under, change_under, inserted, map_each, without_id}
use Rattle.pr_model.specs.Lives.{orphaned}
use Rattle.pr_model.specs.Readers.{Children, no_child, all_live, first_zombie, child_before, children_among}
use Rattle.pr_model.specs.State.{TracedProcess}

-- What the children of a process are, once another process was changed, made or reaped.

-- ---- kinds of children

abbrev has_child : Children → Bool
has_child no_child = false
has_child all_live = true
has_child (first_zombie child status) = true

abbrev has_zombie : Children → Bool
has_zombie no_child = false
has_zombie all_live = false
has_zombie (first_zombie child status) = true

all_live-is : (c : Children) → has_child c ≡ true → has_zombie c ≡ false → c ≡ all_live
all_live-is no_child some none = absurd (true≢false (sym some))
all_live-is all_live some none = refl
all_live-is (first_zombie child status) some none = absurd (true≢false none)

before-child : (id : ℕ) (ended : Option ℕ) (c : Children) → has_child (child_before id ended c) ≡ true
before-child id (Some status) c = refl
before-child id None no_child = refl
before-child id None all_live = refl
before-child id None (first_zombie child status) = refl

before-zombie : (id : ℕ) (ended : Option ℕ) (c : Children)
    → has_zombie (child_before id ended c) ≡ (is_some ended || has_zombie c)
before-zombie id (Some status) c = refl
before-zombie id None no_child = refl
before-zombie id None all_live = refl
before-zombie id None (first_zombie child status) = refl

-- ---- a process that is changed

-- a change that leaves the parent of a process, and whether it has ended
abbrev pub KeepsFamily : (TracedProcess → TracedProcess) → Type 0
KeepsFamily f = (x : TracedProcess) → ((f x).parent ≡ x.parent) × ((f x).ended ≡ x.ended)

pub children-changed : (pid other : ℕ) (f : TracedProcess → TracedProcess) → KeepsFamily f
    → (es : List (ℕ × TracedProcess)) → children_among pid (change_under other f es) ≡ children_among pid es
children-changed pid other f keeps [] = refl
children-changed pid other f keeps (e ∷ es) =
    elim (eqb e.0 other) as
    (λ b. children_among pid (cond b ((e.0, f e.1) ∷ es) (e ∷ change_under other f es)) ≡ children_among pid (e ∷ es)) [
      | true ↦ rw ((keeps e.1).0, (keeps e.1).1) refl
      | false ↦ ap (λ (c : Children). cond (eqb e.1.parent pid) (child_before e.0 e.1.ended c) c)
          (children-changed pid other f keeps es)
    ]

-- a change of one that is no child before and none later
pub children-apart : (pid other : ℕ) (f : TracedProcess → TracedProcess) (x : TracedProcess)
    (es : List (ℕ × TracedProcess)) → under other es ≡ Some x → x.parent ≢ pid → (f x).parent ≢ pid
    → children_among pid (change_under other f es) ≡ children_among pid es
children-apart pid other f x [] found before later = refl
children-apart pid other f x (e ∷ es) found before later =
    by (eqb e.0 other) found (λ there. children-apart pid other f x es there before later)
  where
    by : (b : Bool) → cond b (Some e.1) (under other es) ≡ Some x
        → (under other es ≡ Some x → children_among pid (change_under other f es) ≡ children_among pid es)
        → children_among pid (cond b ((e.0, f e.1) ∷ es) (e ∷ change_under other f es)) ≡ children_among pid (e ∷ es)
    by true found rest =
        let same : x ≡ e.1 = sym (same_Some e.1 x found) in
        rw (
          ne_eqb e.1.parent pid (subst (λ (y : TracedProcess). y.parent ≢ pid) same before),
          ne_eqb (f e.1).parent pid (subst (λ (y : TracedProcess). (f y).parent ≢ pid) same later),
        ) refl
    by false found rest =
        ap (λ (c : Children). cond (eqb e.1.parent pid) (child_before e.0 e.1.ended c) c) (rest found)

-- the children of one that ended get process 0 as their parent
pub children-orphaned : (pid gone : ℕ) → gone ≢ pid → pid ≢ 0 → (es : List (ℕ × TracedProcess))
    → children_among pid (map_each (orphaned gone) es) ≡ children_among pid es
unfolding orphaned
children-orphaned pid gone other user [] = refl
children-orphaned pid gone other user (e ∷ es) =
    by (eqb e.1.parent gone) refl (children-orphaned pid gone other user es)
  where
    by : (b : Bool) → eqb e.1.parent gone ≡ b
        → children_among pid (map_each (orphaned gone) es) ≡ children_among pid es
        → children_among pid ((e.0, cond b (record e.1 { parent = 0 }) e.1) ∷ map_each (orphaned gone) es)
        ≡ children_among pid (e ∷ es)
    by true is rest =
        rw (
          ne_eqb 0 pid (λ same. user (sym same)),
          ne_eqb e.1.parent pid (λ same. other (sym (eqb-true e.1.parent gone is) ∙ same)),
        ) rest
    by false is rest = ap (λ (c : Children). cond (eqb e.1.parent pid) (child_before e.0 e.1.ended c) c) rest

-- ---- a process that is made

-- a live one adds no zombie, and takes no child away
fresh-zombie : (pid id : ℕ) (p : TracedProcess) (c : Children) → p.ended ≡ None
    → has_zombie (cond (eqb p.parent pid) (child_before id p.ended c) c) ≡ has_zombie c
fresh-zombie pid id p c live =
    elim (eqb p.parent pid) as (λ b. has_zombie (cond b (child_before id p.ended c) c) ≡ has_zombie c) [
      | true ↦ before-zombie id p.ended c ∙ ap (λ (o : Option ℕ). is_some o || has_zombie c) live
      | false ↦ refl
    ]

cons-zombie : (pid : ℕ) (e : ℕ × TracedProcess) (c d : Children) → has_zombie c ≡ has_zombie d
    → has_zombie (cond (eqb e.1.parent pid) (child_before e.0 e.1.ended c) c)
    ≡ has_zombie (cond (eqb e.1.parent pid) (child_before e.0 e.1.ended d) d)
cons-zombie pid e c d same =
    elim (eqb e.1.parent pid) as
    (λ b. has_zombie (cond b (child_before e.0 e.1.ended c) c)
    ≡ has_zombie (cond b (child_before e.0 e.1.ended d) d)) [
      | true ↦ before-zombie e.0 e.1.ended c ∙ ap (λ z. is_some e.1.ended || z) same
          ∙ sym (before-zombie e.0 e.1.ended d)
      | false ↦ same
    ]

inserted-zombie : (pid id : ℕ) (p : TracedProcess) → p.ended ≡ None → (es : List (ℕ × TracedProcess))
    → has_zombie (children_among pid (inserted id p es)) ≡ has_zombie (children_among pid es)
inserted-zombie pid id p live [] = fresh-zombie pid id p no_child live
inserted-zombie pid id p live (e ∷ es) =
    elim (ltb e.0 id) as
    (λ b. has_zombie (children_among pid (cond b (e ∷ inserted id p es) ((id, p) ∷ e ∷ es)))
    ≡ has_zombie (children_among pid (e ∷ es))) [
      | true ↦ cons-zombie pid e (children_among pid (inserted id p es)) (children_among pid es)
          (inserted-zombie pid id p live es)
      | false ↦ fresh-zombie pid id p (children_among pid (e ∷ es)) live
    ]

cons-child : (pid : ℕ) (e : ℕ × TracedProcess) (c d : Children) → (has_child c ≡ true → has_child d ≡ true)
    → has_child (cond (eqb e.1.parent pid) (child_before e.0 e.1.ended c) c) ≡ true
    → has_child (cond (eqb e.1.parent pid) (child_before e.0 e.1.ended d) d) ≡ true
cons-child pid e c d on =
    elim (eqb e.1.parent pid) as
    (λ b. has_child (cond b (child_before e.0 e.1.ended c) c) ≡ true
    → has_child (cond b (child_before e.0 e.1.ended d) d) ≡ true) [
      | true ↦ λ some. before-child e.0 e.1.ended d
      | false ↦ on
    ]

fresh-child : (pid id : ℕ) (p : TracedProcess) (c : Children) → has_child c ≡ true
    → has_child (cond (eqb p.parent pid) (child_before id p.ended c) c) ≡ true
fresh-child pid id p c some =
    elim (eqb p.parent pid) as (λ b. has_child (cond b (child_before id p.ended c) c) ≡ true) [
      | true ↦ before-child id p.ended c
      | false ↦ some
    ]

inserted-child : (pid id : ℕ) (p : TracedProcess) (es : List (ℕ × TracedProcess))
    → has_child (children_among pid es) ≡ true → has_child (children_among pid (inserted id p es)) ≡ true
inserted-child pid id p [] some = absurd (true≢false (sym some))
inserted-child pid id p (e ∷ es) some =
    elim (ltb e.0 id) as
    (λ b. has_child (children_among pid (cond b (e ∷ inserted id p es) ((id, p) ∷ e ∷ es))) ≡ true) [
      | true ↦ cons-child pid e (children_among pid es) (children_among pid (inserted id p es))
          (inserted-child pid id p es) some
      | false ↦ fresh-child pid id p (children_among pid (e ∷ es)) some
    ]

-- so children that all live do so still
pub children-inserted : (pid id : ℕ) (p : TracedProcess) → p.ended ≡ None → (es : List (ℕ × TracedProcess))
    → children_among pid es ≡ all_live → children_among pid (inserted id p es) ≡ all_live
children-inserted pid id p live es all =
    all_live-is (children_among pid (inserted id p es)) (inserted-child pid id p es (ap has_child all))
    (inserted-zombie pid id p live es ∙ ap has_zombie all)

-- ---- a zombie that is reaped

-- it is no child of a process without a zombie
zombie-apart : (pid child status : ℕ) (z : TracedProcess) → z.ended ≡ Some status → (es : List (ℕ × TracedProcess))
    → has_zombie (children_among pid es) ≡ false → under child es ≡ Some z → z.parent ≢ pid
zombie-apart pid child status z over [] none found = cc
zombie-apart pid child status z over (e ∷ es) none found =
    by (eqb e.0 child) found (λ none there. zombie-apart pid child status z over es none there)
  where
    after : (b : Bool)
        → has_zombie (cond b (child_before e.0 e.1.ended (children_among pid es)) (children_among pid es)) ≡ false
        → has_zombie (children_among pid es) ≡ false
    after true none = (or_parts (is_some e.1.ended) _ (sym (before-zombie e.0 e.1.ended _) ∙ none)).1
    after false none = none

    by : (b : Bool) → cond b (Some e.1) (under child es) ≡ Some z
        → (has_zombie (children_among pid es) ≡ false → under child es ≡ Some z → z.parent ≢ pid) → z.parent ≢ pid
    by true found rest =
        let same : z ≡ e.1 = sym (same_Some e.1 z found) in
        let ended : e.1.ended ≡ Some status = ap (λ (y : TracedProcess). y.ended) (sym same) ∙ over in
        λ parent.
        let here : eqb e.1.parent pid ≡ true =
        eq-eqb e.1.parent pid (ap (λ (y : TracedProcess). y.parent) (sym same) ∙ parent) in
        let wrong : true ≡ false = rw (here, ended) at none in
        true≢false wrong
    by false found rest = rest (after (eqb e.1.parent pid) none) found

children-without : (pid child : ℕ) (z : TracedProcess) → z.parent ≢ pid → (es : List (ℕ × TracedProcess))
    → under child es ≡ Some z → children_among pid (without_id child es) ≡ children_among pid es
children-without pid child z other [] found = refl
children-without pid child z other (e ∷ es) found =
    by (eqb e.0 child) found (λ there. children-without pid child z other es there)
  where
    by : (b : Bool) → cond b (Some e.1) (under child es) ≡ Some z
        → (under child es ≡ Some z → children_among pid (without_id child es) ≡ children_among pid es)
        → children_among pid (cond b es (e ∷ without_id child es)) ≡ children_among pid (e ∷ es)
    by true found rest =
        let same : z ≡ e.1 = sym (same_Some e.1 z found) in
        rw (ne_eqb e.1.parent pid (subst (λ (y : TracedProcess). y.parent ≢ pid) same other)) refl
    by false found rest =
        ap (λ (c : Children). cond (eqb e.1.parent pid) (child_before e.0 e.1.ended c) c) (rest found)

pub children-reaped : (pid child status : ℕ) (z : TracedProcess) → z.ended ≡ Some status
    → (es : List (ℕ × TracedProcess)) → under child es ≡ Some z → children_among pid es ≡ all_live
    → children_among pid (without_id child es) ≡ all_live
children-reaped pid child status z over es found all =
    children-without pid child z (zombie-apart pid child status z over es (ap has_zombie all) found) es found ∙ all
