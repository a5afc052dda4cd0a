use Rattle.std.proofs.Common.{◌≡◌, ◌≢◌, ◌<◌, ◌≤◌, ◌+◌, ◌%◌, ◌&&◌, ℕ, Bool, true, false, cond, is_some, nat_le, eqb, zero, suc, Option, Some, None, List, [], ◌∷◌, length, All, refl, sym, subst, ap, ◌∙◌, inl, inr, arith}
use Rattle.std.proofs.lemmas.Bool.{cases_Bool, cases_eq, cases_lt, eq-eqb, eqb-true, false≢true, leb-false, leb-true, ne_eqb}
use Rattle.std.proofs.lemmas.List.{length-set}
use Rattle.std.proofs.lemmas.List.Elements.{All-cons, All-head, All-nil, All-tail}
use Rattle.std.proofs.lemmas.Option.{none-some, same_Some, slice_get_within}
use Rattle.std.specs.List.{slice_get}
use Rattle.std.specs.Prelude.{map}
use Rattle.pr_hidden.specs.Covers.{Patch}
use Rattle.pr_hidden.specs.Hiders.{begins_at, patch_at, with_patch, without_patch}
use Rattle.pr_hidden.specs.Sparing.{is_apart, is_apart_from}
use Rattle.pr_hidden.specs.Tidiness.{AreApart}
use Rattle.pr_line.specs.Functions.{function_limit}
use Rattle.pr_line.specs.declared.functions.Function.{Function}
use Rattle.pr_line.specs.declared.options.Options.{Options}
use Rattle.pr_num.proofs.SearchLemmas.{All-at}
use Rattle.pr_truss.specs.Marks.{has_function, no_functions, with_function, without_function}
use Rattle.pr_function_hides.proofs.Replies.FunctionSets.{has-own, has-with, has-without, not-in-none, with-keeps, without-keeps}
use Rattle.pr_function_hides.proofs.FirstPlanted.FirstFunctions.{one-first}
use Rattle.pr_function_laws.specs.Planted.{IsFirstThere}
use Rattle.pr_function_hides.specs.FunctionHiders.{ArePatchable, IsMarked, IsPatchable, StandAsMarked, patch_of}

-- Breakpoints that stand as they are marked, once one more is planted, and once one is lifted.

-- ---- where they stand

to-true : (a b : ℕ) → a ≤ b → nat_le a b ≡ true
to-true a b le = elim (cases_Bool (nat_le a b)) [
  | inl holds ↦ holds
  | inr not ↦ absurd (let less = leb-false a b not in omega (arith, le, less))
]

pub functions-apart : (f g : Function) → IsPatchable f → IsPatchable g → f.at ≢ g.at
    → is_apart (patch_of f) (patch_of g) ≡ true
functions-apart f g a b other = by (nat_le (f.at + length f.code) g.at) refl
  where
    one : f.at % 16 ≡ 0
    one = a.aligned

    two : g.at % 16 ≡ 0
    two = b.aligned

    by : (c : Bool) → nat_le (f.at + length f.code) g.at ≡ c
        → cond c true (nat_le (g.at + length g.code) f.at) ≡ true
    by true is = refl
    by false is =
        let more : g.at < f.at + length f.code = leb-false (f.at + length f.code) g.at is in
        let size : length f.code ≡ 16 = a.size in
        let its_size : length g.code ≡ 16 = b.size in
        elim (cases_lt f.at g.at) [
          | inl less ↦ absurd (omega (arith, one, two, more, size, less))
          | inr most ↦
              elim (cases_eq f.at g.at) [
                | inl same ↦ absurd (other same)
                | inr apart ↦
                    elim (cases_lt g.at f.at) [
                      | inl below ↦
                          to-true (g.at + length g.code) f.at (omega (arith, one, two, its_size, below))
                      | inr above ↦ absurd (apart (omega (arith, most, above)))
                    ]
              ]
        ]

-- a patch at an address of its own is not apart from itself
same-place : (p q : Patch) → q.at ≡ p.at → 0 < length q.bytes → 0 < length p.bytes → is_apart p q ≡ true → ⊥
same-place p q same some more is = by (nat_le (p.at + length p.bytes) q.at) refl is
  where
    by : (c : Bool) → nat_le (p.at + length p.bytes) q.at ≡ c
        → cond c true (nat_le (q.at + length q.bytes) p.at) ≡ true → ⊥
    by true first found = let le = leb-true (p.at + length p.bytes) q.at first in omega (arith, le, same, more)
    by false first found = let le = leb-true (q.at + length q.bytes) p.at found in omega (arith, le, same, some)

both : (a b : Bool) → (a && b) ≡ true → (a ≡ true) × (b ≡ true)
both true b e = (refl, e)
both false b e = absurd (false≢true e)

-- ---- the patch of an address

-- the patch that begins somewhere is one of them
pub patch-there : (P : Patch → Type 0) (at : ℕ) (ps : List Patch) (g : Patch) → All P ps → patch_at at ps ≡ Some g
    → P g × (g.at ≡ at)
patch-there P at [] g all found = absurd (none-some g found)
patch-there P at (p ∷ ps) g all found =
    by (begins_at at p) refl found (λ later. patch-there P at ps g (All-tail P p ps all) later)
  where
    by : (b : Bool) → begins_at at p ≡ b → cond b (Some p) (patch_at at ps) ≡ Some g
        → (patch_at at ps ≡ Some g → P g × (g.at ≡ at)) → P g × (g.at ≡ at)
    by true here it rest =
        let same = same_Some p g it in (
          subst P same (All-head P p ps all),
          ap (λ (x : Patch). x.at) (sym same) ∙ eqb-true p.at at here,
        )
    by false there it rest = rest it

-- ---- the functions of the options

module _ (o : Options) (fit : ArePatchable o) where
  patchable : (i : ℕ) (f : Function) → slice_get o.functions i ≡ Some f → IsPatchable f
  patchable i f named = All-at IsPatchable o.functions i f named fit.each

  within : (i : ℕ) (f : Function) → slice_get o.functions i ≡ Some f → i < function_limit
  within i f named =
      let less : i < length o.functions = slice_get_within o.functions i f named in
      let few = fit.few in omega (arith, less, few)

  abbrev patch_with : ℕ → List ℕ → Patch
  patch_with at code = record { at = at; bytes = code }

  -- functions at one address have one patch
  pub same-patch : (i j : ℕ) (f g : Function) → slice_get o.functions i ≡ Some f → slice_get o.functions j ≡ Some g
      → f.at ≡ g.at → patch_of f ≡ patch_of g
  same-patch i j f g first second same =
      ap (λ a. patch_with a f.code) same ∙ ap (patch_with g.at) (fit.alike i j f g first second same)

  -- ---- what patches there are

  pub none-at : (set : List Bool) (ps : List Patch) (i : ℕ) (f : Function) → slice_get o.functions i ≡ Some f
      → All (IsMarked o set) ps → patch_at f.at ps ≡ None → is_apart_from (patch_of f) ps ≡ true
  none-at set [] i f named all none = refl
  none-at set (p ∷ ps) i f named all none =
      by (begins_at f.at p) refl none
      (λ found. none-at set ps i f named (All-tail (IsMarked o set) p ps all) found)
    where
      mark : IsMarked o set p
      mark = All-head (IsMarked o set) p ps all

      by : (b : Bool) → begins_at f.at p ≡ b → cond b (Some p) (patch_at f.at ps) ≡ None
          → (patch_at f.at ps ≡ None → is_apart_from (patch_of f) ps ≡ true)
          → is_apart_from (patch_of f) (p ∷ ps) ≡ true
      by true here found rest = absurd (none-some p (sym found))
      by false there found rest = rw (apart there, rest found) refl
        where
          apart : begins_at f.at p ≡ false → is_apart (patch_of f) p ≡ true
          apart other =
              subst (λ (q : Patch). is_apart (patch_of f) q ≡ true) (sym mark.is)
              (functions-apart f mark.f (patchable i f named) (patchable mark.function mark.f mark.named)
              (λ same. false≢true (sym other ∙ eq-eqb p.at f.at
              (ap (λ (q : Patch). q.at) mark.is ∙ sym same))))

  -- the patch at an address of a function is that of the function
  pub found-is : (set : List Bool) (ps : List Patch) (i : ℕ) (f : Function) (g : Patch)
      → slice_get o.functions i ≡ Some f → All (IsMarked o set) ps → patch_at f.at ps ≡ Some g → g ≡ patch_of f
  found-is set ps i f g named all found =
      let it = patch-there (IsMarked o set) f.at ps g all found in
      let mark = it.0 in
      mark.is
      ∙ same-patch mark.function i mark.f f mark.named named (ap (λ (q : Patch). q.at) (sym mark.is) ∙ it.1)

  -- ---- one more

  more-marked : (set : List Bool) (i : ℕ) (ps : List Patch) → All (IsMarked o set) ps
      → All (IsMarked o (with_function set i)) ps
  more-marked set i [] all = All-nil (IsMarked o (with_function set i))
  more-marked set i (p ∷ ps) all =
      let m = All-head (IsMarked o set) p ps all in
      All-cons (IsMarked o (with_function set i)) p ps
      (record {
        function = m.function;
        f = m.f;
        named = m.named;
        marked = with-keeps set i m.function m.marked;
        is = m.is;
      })
      (more-marked set i ps (All-tail (IsMarked o set) p ps all))

  module _ (set : List Bool) (ps : List Patch) (w : StandAsMarked o set ps) (i : ℕ) (f : Function)
      (named : slice_get o.functions i ≡ Some f) (first : IsFirstThere o i f) where
    own-marked : has_function (with_function set i) i ≡ true
    own-marked = has-own set i (subst (λ n. i < n) (sym w.long) (within i f named))

    same-function : (j : ℕ) (g : Function) → slice_get o.functions j ≡ Some g → j ≡ i → g ≡ f
    same-function j g its same =
        same_Some g f (sym its ∙ ap (slice_get o.functions) same ∙ named)

    more-first : (j : ℕ) (g : Function) → slice_get o.functions j ≡ Some g
        → has_function (with_function set i) j ≡ true → IsFirstThere o j g
    more-first j g its has = elim (has-with set i j has) [
      | inl same ↦
          subst (λ m. IsFirstThere o m g) (sym same)
          (subst (IsFirstThere o i) (sym (same-function j g its same)) first)
      | inr old ↦ w.first j g its old
    ]

    less-first : (j : ℕ) (g : Function) → slice_get o.functions j ≡ Some g
        → has_function (without_function set i) j ≡ true → IsFirstThere o j g
    less-first j g its has = let it = has-without set i j has in w.first j g its it.has

    pub one-planted : StandAsMarked o (with_function set i) (with_patch (patch_of f) ps)
    one-planted = by (patch_at f.at ps) refl
      where
        by : (at : Option Patch) → patch_at f.at ps ≡ at
            → StandAsMarked o (with_function set i) (cond (is_some at) ps (patch_of f ∷ ps))
        by (Some g) found = record {
          long = length-set set i true ∙ w.long;
          apart = w.apart;
          all = more-marked set i ps w.all;
          each = λ j h its has. elim (has-with set i j has) [
            | inl same ↦
                subst (λ (x : Function). patch_at x.at ps ≡ Some (patch_of x)) (sym (same-function j h its same))
                (found ∙ ap (λ (x : Patch). Some x) (found-is set ps i f g named w.all found))
            | inr old ↦ w.each j h its old
          ];
          first = more-first;
        }
        by None found = record {
          long = length-set set i true ∙ w.long;
          apart = (none-at set ps i f named w.all found, w.apart);
          all = All-cons (IsMarked o (with_function set i)) (patch_of f) ps
              (record { function = i; f = f; named = named; marked = own-marked; is = refl })
              (more-marked set i ps w.all);
          each = λ j h its has. elim (has-with set i j has) [
            | inl same ↦
                subst (λ (x : Function). patch_at x.at (patch_of f ∷ ps) ≡ Some (patch_of x))
                (sym (same-function j h its same))
                (ap (λ b. cond b (Some (patch_of f)) (patch_at f.at ps)) (eq-eqb f.at f.at refl))
            | inr old ↦ older j h its old
          ];
          first = more-first;
        }
          where
            older : (j : ℕ) (h : Function) → slice_get o.functions j ≡ Some h → has_function set j ≡ true
                → patch_at h.at (patch_of f ∷ ps) ≡ Some (patch_of h)
            older j h its old = elim (cases_eq f.at h.at) [
              | inl same ↦
                  absurd (none-some (patch_of h) (sym found ∙ ap (λ n. patch_at n ps) same ∙ w.each j h its old))
              | inr apart ↦
                  ap (λ b. cond b (Some (patch_of f)) (patch_at h.at ps)) (ne_eqb f.at h.at apart)
                  ∙ w.each j h its old
            ]

    -- ---- one less

    fewer-marked : (qs : List Patch) → All (IsMarked o set) qs → is_apart_from (patch_of f) qs ≡ true
        → All (IsMarked o (without_function set i)) qs
    fewer-marked [] all apart = All-nil (IsMarked o (without_function set i))
    fewer-marked (q ∷ qs) all apart =
        let m = All-head (IsMarked o set) q qs all in
        let parts = both (is_apart (patch_of f) q) (is_apart_from (patch_of f) qs) apart in
        All-cons (IsMarked o (without_function set i)) q qs
        (record {
          function = m.function;
          f = m.f;
          named = m.named;
          marked = without-keeps set i m.function (λ same. own q m parts.0 same) m.marked;
          is = m.is;
        })
        (fewer-marked qs (All-tail (IsMarked o set) q qs all) parts.1)
      where
        own : (x : Patch) (m : IsMarked o set x) → is_apart (patch_of f) x ≡ true → m.function ≡ i → ⊥
        own x m apart_too same =
            let its : x ≡ patch_of f = m.is ∙ ap patch_of (same-function m.function m.f m.named same) in
            let size : length f.code ≡ 16 = let p = patchable i f named in p.size in
            let some : 0 < length f.code = omega (arith, size) in
            same-place (patch_of f) (patch_of f) refl some some
            (ap (is_apart (patch_of f)) (sym its) ∙ apart_too)

    -- what is left without the patch of the function
    pub record Left (qs : List Patch) : Type 0 where
      pub all : All (IsMarked o (without_function set i)) (without_patch f.at qs)
      pub apart : AreApart (without_patch f.at qs)
      pub others : (at : ℕ) → at ≢ f.at → patch_at at (without_patch f.at qs) ≡ patch_at at qs

    keeps-apart : (p : Patch) (qs : List Patch) → is_apart_from p qs ≡ true
        → is_apart_from p (without_patch f.at qs) ≡ true
    keeps-apart p [] apart = refl
    keeps-apart p (q ∷ qs) apart =
        let parts = both (is_apart p q) (is_apart_from p qs) apart in
        elim (cases_Bool (begins_at f.at q)) [
          | inl here ↦ rw here parts.1
          | inr there ↦ rw (there, parts.0) (keeps-apart p qs parts.1)
        ]

    record Cut (q : Patch) (qs : List Patch) (b : Bool) : Type 0 where
      all : All (IsMarked o (without_function set i)) (cond b qs (q ∷ without_patch f.at qs))
      apart : AreApart (cond b qs (q ∷ without_patch f.at qs))
      others : (at : ℕ) → at ≢ f.at
          → patch_at at (cond b qs (q ∷ without_patch f.at qs)) ≡ patch_at at (q ∷ qs)

    left : (qs : List Patch) → All (IsMarked o set) qs → AreApart qs → Left qs
    left [] all apart = record {
      all = All-nil (IsMarked o (without_function set i));
      apart = tt;
      others = λ at other. refl;
    }
    left (q ∷ qs) all apart = by (begins_at f.at q) refl (left qs rest apart.1)
      where
        m : IsMarked o set q
        m = All-head (IsMarked o set) q qs all

        rest : All (IsMarked o set) qs
        rest = All-tail (IsMarked o set) q qs all

        cut : (b : Bool) → begins_at f.at q ≡ b → Left qs → Cut q qs b
        cut true here l =
            let at_it : q.at ≡ f.at = eqb-true q.at f.at here in
            let its : q ≡ patch_of f =
            m.is
            ∙ same-patch m.function i m.f f m.named named (sym (ap (λ (x : Patch). x.at) m.is) ∙ at_it) in
            record {
              all = fewer-marked qs rest (subst (λ (x : Patch). is_apart_from x qs ≡ true) its apart.0);
              apart = apart.1;
              others = λ at other.
                  sym (ap (λ b. cond b (Some q) (patch_at at qs))
                  (ne_eqb q.at at (λ is. other (sym is ∙ at_it))));
            }
        cut false there l = record {
          all = All-cons (IsMarked o (without_function set i)) q (without_patch f.at qs)
              (record {
                function = m.function;
                f = m.f;
                named = m.named;
                marked = without-keeps set i m.function (λ same. absurd (elsewhere same)) m.marked;
                is = m.is;
              }) l.all;
          apart = (keeps-apart q qs apart.0, l.apart);
          others = λ at other. ap (λ x. cond (begins_at at q) (Some q) x) (l.others at other);
        }
          where
            elsewhere : m.function ≡ i → ⊥
            elsewhere same =
                false≢true (sym there ∙ eq-eqb q.at f.at
                (ap (λ (x : Patch). x.at)
                (m.is ∙ ap patch_of (same-function m.function m.f m.named same))))

        by : (b : Bool) → begins_at f.at q ≡ b → Left qs → Left (q ∷ qs)
        by b is l =
            let c = cut b is l in
            record {
              all = subst (λ x. All (IsMarked o (without_function set i)) (cond x qs (q ∷ without_patch f.at qs)))
                  (sym is) c.all;
              apart = subst (λ x. AreApart (cond x qs (q ∷ without_patch f.at qs))) (sym is) c.apart;
              others = λ at other.
                  ap (λ x. patch_at at (cond x qs (q ∷ without_patch f.at qs))) is ∙ c.others at other;
            }

    pub one-lifted : StandAsMarked o (without_function set i) (without_patch f.at ps)
    one-lifted =
        let l = left ps w.all w.apart in
        record {
          long = length-set set i false ∙ w.long;
          apart = l.apart;
          all = l.all;
          each = λ j h its has.
              let it = has-without set i j has in
              l.others h.at (λ same. it.apart (one-first o j i h f (w.first j h its it.has) first same))
              ∙ w.each j h its it.has;
          first = less-first;
        }

    -- it did not stand
    pub none-lifted : patch_at f.at ps ≡ None → StandAsMarked o (without_function set i) ps
    none-lifted none = record {
      long = length-set set i false ∙ w.long;
      apart = w.apart;
      all = fewer-marked ps w.all (none-at set ps i f named w.all none);
      each = λ j h its has. let it = has-without set i j has in w.each j h its it.has;
      first = less-first;
    }

  -- ---- none

  pub none-stand : StandAsMarked o no_functions []
  none-stand = record {
    long = refl;
    apart = tt;
    all = All-nil (IsMarked o no_functions);
    each = λ j h its has. absurd (not-in-none j has);
    first = λ j h its has. absurd (not-in-none j has);
  }

  -- the patch of a function among those that the options name
  patch-named : (fs : List Function) (i : ℕ) (f : Function)
      → ((j : ℕ) (g : Function) → slice_get fs j ≡ Some g → g.at ≡ f.at → patch_of g ≡ patch_of f)
      → slice_get fs i ≡ Some f
      → patch_at f.at (map patch_of fs) ≡ Some (patch_of f)
  patch-named [] i f only named = absurd (none-some f named)
  patch-named (g ∷ fs) i f only named =
      by (eqb g.at f.at) refl i named
      (λ n its. patch-named fs n f (λ j h found same. only (suc j) h found same) its)
    where
      by : (b : Bool) → eqb g.at f.at ≡ b → (n : ℕ) → slice_get (g ∷ fs) n ≡ Some f
          → ((m : ℕ) → slice_get fs m ≡ Some f → patch_at f.at (map patch_of fs) ≡ Some (patch_of f))
          → cond b (Some (patch_of g)) (patch_at f.at (map patch_of fs)) ≡ Some (patch_of f)
      by true here n its rest = ap (λ (x : Patch). Some x) (only 0 g refl (eqb-true g.at f.at here))
      by false there zero its rest =
          absurd (false≢true (sym there ∙ eq-eqb g.at f.at (ap (λ (x : Function). x.at) (same_Some g f its))))
      by false there (suc n) its rest = rest n its

  pub function-patch : (i : ℕ) (f : Function) → slice_get o.functions i ≡ Some f
      → patch_at f.at (map patch_of o.functions) ≡ Some (patch_of f)
  function-patch i f named =
      patch-named o.functions i f (λ j g its same. same-patch j i g f its named same) named

-- ---- what is so of each patch

-- one less, and one more
pub without-all : (P : Patch → Type 0) (at : ℕ) (ps : List Patch) → All P ps → All P (without_patch at ps)
without-all P at [] all = all
without-all P at (p ∷ ps) all =
    elim (begins_at at p) as (λ b. All P (cond b ps (p ∷ without_patch at ps))) [
      | true ↦ All-tail P p ps all
      | false ↦ All-cons P p (without_patch at ps) (All-head P p ps all)
          (without-all P at ps (All-tail P p ps all))
    ]

pub with-all : (P : Patch → Type 0) (f : Patch) (ps : List Patch) → P f → All P ps → All P (with_patch f ps)
with-all P f ps one all =
    elim (is_some (patch_at f.at ps)) as (λ b. All P (cond b ps (f ∷ ps))) [
      | true ↦ all
      | false ↦ All-cons P f ps one all
    ]

-- what is so of each, and makes something else so
pub through-all : (P Q : Patch → Type 0) (ps : List Patch) → All (λ (f : Patch). P f → Q f) ps → All P ps → All Q ps
through-all P Q [] makes all = All-nil Q
through-all P Q (p ∷ ps) makes all =
    All-cons Q p ps
    (All-head (λ (f : Patch). P f → Q f) p ps makes (All-head P p ps all))
    (through-all P Q ps (All-tail (λ (f : Patch). P f → Q f) p ps makes) (All-tail P p ps all))
