-- What is hidden of each process, as a set and a map that change at one process.
use Rattle.std.proofs.Common.{◌≡◌, ◌==◌, ℕ, Bool, true, false, cond, List, [], Option, Some, None, refl, sym, ◌∙◌, ap}
use Rattle.std.proofs.Math.Path.{fun_ext}
use Rattle.std.proofs.lemmas.Bool.{eqb-true}
use Rattle.std.specs.BTreeMap as map
use Rattle.std.specs.BTreeMap.{BTreeMap, is_at}
use Rattle.std.specs.BTreeSet as set
use Rattle.std.specs.BTreeSet.{BTreeSet}
use Rattle.std.specs.List.{list_any}
use Rattle.std.specs.Map.{lookup}
use Rattle.std.specs.Option.{unwrap_or}
use Rattle.std.specs.Ordering.{nat_cmp}
use Rattle.pr_strip.proofs.PastLemmas.{same_number}
use Rattle.pr_hidden.specs.Covers.{Cover, Covers, Patch, no_cover, with_cover}
use Rattle.pr_hidden.specs.Hiders.{finished, no_covers}
use Rattle.pr_hidden.specs.Hiding.{with_own_agent, with_patches}
use Rattle.pr_hide.specs.CoverTables.{covers_in}

abbrev cover : List Patch → Bool → Cover
cover ps own = record { patches = ps; faulted = λ id. false; agent = own }

-- what stands at each key, where one key is told apart
apart : {X : Type 0} (f : ℕ → X) (pid q : ℕ) → f q ≡ cond (q == pid) (f pid) (f q)
apart f pid q = by (q == pid) refl
  where
    by : (b : Bool) → (q == pid) ≡ b → f q ≡ cond b (f pid) (f q)
    by true e = ap f (eqb-true _ _ e)
    by false e = refl

chosen : (b : Bool) (ps qs : List Patch) (own other : Bool)
    → cover (cond b ps qs) (cond b own other) ≡ cond b (cover ps own) (cover qs other)
chosen true ps qs own other = refl
chosen false ps qs own other = refl

-- the patches of a process that is told apart, and of the others
some-patches : (b : Bool) (w o : Option (List Patch))
    → unwrap_or (cond b w o) [] ≡ cond b (unwrap_or w []) (unwrap_or o [])
some-patches true w o = refl
some-patches false w o = refl

twice : {X : Type 0} (b : Bool) (x y z : X) → cond b x (cond b y z) ≡ cond b x z
twice true x y z = refl
twice false x y z = refl

abbrev patches-in : BTreeMap ℕ (List Patch) → ℕ → List Patch
patches-in m pid = unwrap_or (map.get nat_cmp m pid) []

patches-at : (old new : BTreeMap ℕ (List Patch)) (pid : ℕ) (w : Option (List Patch)) → map.Updates nat_cmp old new pid w
    → (q : ℕ)
    → patches-in new q ≡ cond (q == pid) (unwrap_or w []) (patches-in old q)
patches-at old new pid w u q =
    ap (λ (o : Option (List Patch)). unwrap_or o [])
    (u.0 q ∙ ap (λ b. cond b w (map.get nat_cmp old q)) (same_number pid q))
    ∙ some-patches (q == pid) w (map.get nat_cmp old q)

agent-at : (old new : BTreeSet ℕ) (pid : ℕ) (own : Bool) → set.Updates nat_cmp old new pid own → (q : ℕ)
    → set.contains nat_cmp new q ≡ cond (q == pid) own (set.contains nat_cmp old q)
agent-at old new pid own u q = u.0 q ∙ ap (λ b. cond b own (set.contains nat_cmp old q)) (same_number pid q)

-- another cover of one process
changed : (agents agents' : BTreeSet ℕ) (patches patches' : BTreeMap ℕ (List Patch)) (pid : ℕ) (ps : List Patch)
    (own : Bool)
    → ((q : ℕ) → patches-in patches' q ≡ cond (q == pid) ps (patches-in patches q))
    → ((q : ℕ) → set.contains nat_cmp agents' q ≡ cond (q == pid) own (set.contains nat_cmp agents q))
    → covers_in agents' patches' ≡ with_cover pid (cover ps own) (covers_in agents patches)
unfolding covers_in
changed agents agents' patches patches' pid ps own patched owned = fun_ext (λ q.
    ap (λ (xs : List Patch). cover xs (set.contains nat_cmp agents' q)) (patched q)
    ∙ ap (cover (cond (q == pid) ps (patches-in patches q))) (owned q)
    ∙ chosen (q == pid) ps (patches-in patches q) own (set.contains nat_cmp agents q))

pub nothing-hidden : (agents : BTreeSet ℕ) (patches : BTreeMap ℕ (List Patch)) → set.IsEmpty agents
    → map.IsEmpty patches
    → covers_in agents patches ≡ no_covers
unfolding covers_in
nothing-hidden agents patches none no_patch = fun_ext (λ q.
    ap (λ (es : List (ℕ × List Patch)).
    cover (unwrap_or (lookup (is_at (nat_cmp q)) es) []) (set.contains nat_cmp agents q)) no_patch
    ∙ ap (λ (ks : List ℕ). cover [] (list_any (is_at (nat_cmp q)) ks)) none)

pub agent-changed : (old new : BTreeSet ℕ) (patches : BTreeMap ℕ (List Patch)) (pid : ℕ) (own : Bool)
    → set.Updates nat_cmp old new pid own
    → covers_in new patches ≡ with_cover pid (with_own_agent own (covers_in old patches pid)) (covers_in old patches)
unfolding covers_in
agent-changed old new patches pid own u =
    changed old new patches patches pid (patches-in patches pid) own (apart (patches-in patches) pid)
    (agent-at old new pid own u)

pub patches-changed : (agents : BTreeSet ℕ) (old mid new : BTreeMap ℕ (List Patch)) (pid : ℕ) (ps : List Patch)
    → map.Updates nat_cmp old mid pid None → map.Updates nat_cmp mid new pid (Some ps)
    → covers_in agents new ≡ with_cover pid (with_patches ps (covers_in agents old pid)) (covers_in agents old)
unfolding covers_in
patches-changed agents old mid new pid ps gone put =
    changed agents agents old new pid ps (set.contains nat_cmp agents pid)
    (λ q. patches-at mid new pid (Some ps) put q
    ∙ ap (λ (xs : List Patch). cond (q == pid) ps xs) (patches-at old mid pid None gone q)
    ∙ twice (q == pid) ps [] (patches-in old q))
    (apart (set.contains nat_cmp agents) pid)

pub patches-gone : (agents : BTreeSet ℕ) (old new : BTreeMap ℕ (List Patch)) (pid : ℕ)
    → map.Updates nat_cmp old new pid None
    → covers_in agents new ≡ with_cover pid (finished (covers_in agents old pid)) (covers_in agents old)
unfolding covers_in
patches-gone agents old new pid gone =
    changed agents agents old new pid
    [] (set.contains nat_cmp agents pid) (patches-at old new pid None gone)
    (apart (set.contains nat_cmp agents) pid)

pub all-gone : (old new : BTreeSet ℕ) (before after : BTreeMap ℕ (List Patch)) (pid : ℕ)
    → set.Updates nat_cmp old new pid false → map.Updates nat_cmp before after pid None
    → covers_in new after ≡ with_cover pid no_cover (covers_in old before)
all-gone old new before after pid left gone =
    changed old new before after pid [] false (patches-at before after pid None gone) (agent-at old new pid false left)

-- the cover that it has is no other
pub same-cover : (covers : Covers) (pid : ℕ) → with_cover pid (covers pid) covers ≡ covers
same-cover covers pid = fun_ext (λ q. sym (apart covers pid q))

pub ruleset covers = (nothing-hidden, agent-changed, patches-changed, patches-gone, all-gone, same-cover)
