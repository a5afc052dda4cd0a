use Rattle.std.proofs.Common.{◌≡◌, ℕ, Bool, true, false, not, None, List, [], ◌∷◌, ◌++◌, length, refl, sym, ap, ◌∙◌, inl, inr, arith}
use Rattle.std.specs.List.{list_any, position, position_or_len}
use Rattle.std.proofs.lemmas.Bool.{cases_Bool, false≢true, and_parts, not-true, or_from, or_parts, le-ltb}
use Rattle.std.proofs.lemmas.Slice.Eq.{bytes_eq-Decides}
use Rattle.std.proofs.lemmas.List.{map-append}
use Rattle.std.proofs.lemmas.List.Folds.{list_any-append}
use Rattle.pr_num.specs.declared.files.StoredFile.{StoredFile}
use Rattle.pr_parts.specs.FileCalls.{with_file}
use Rattle.pr_parts.specs.FileTables.{file_named, has_name, names_differ}
use Rattle.pr_proc.specs.FirstFiles.{stored_alone}
use Rattle.pr_model.specs.FirstState.{stored_file}
use Rattle.pr_kern.specs.Starts.{stored}
use Rattle.pr_file_laws.proofs.TableLemmas.{has_name-false}

-- Files that are stored one after another, each under a name of its own.

pub stored-push : (files : List (List ℕ × List ℕ)) (name bytes : List ℕ)
    → with_file (stored_alone (stored files)) name bytes ≡ stored_alone (stored (files ++ (name, bytes) ∷ []))
unfolding with_file
stored-push files name bytes = ap stored_alone (sym (map-append stored_file files ((name, bytes) ∷ [])))

-- ---- a name that no file has yet

position_or_len-none : {X : Type 0} (p : X → Bool) (xs : List X) → list_any p xs ≡ false
    → position_or_len p xs ≡ length xs
position_or_len-none p [] none = refl
position_or_len-none p (x ∷ xs) none =
    let here = or_parts (p x) (list_any p xs) none in
    rw here.0 (omega (arith, position_or_len-none p xs here.1))

position-none : {X : Type 0} (p : X → Bool) (xs : List X) → list_any p xs ≡ false → position p xs ≡ None
position-none p xs none = rw (position_or_len-none p xs none, le-ltb (length xs) (length xs) (omega arith)) refl

-- where names differ, no file has the name of one behind it
none_before : (fs rest : List StoredFile) (g : StoredFile) → names_differ (fs ++ g ∷ rest) ≡ true
    → list_any (has_name g.name) fs ≡ false
none_before [] rest g differ = refl
none_before (f ∷ fs) rest g differ =
    let parts = and_parts (not (list_any (has_name f.name) (fs ++ g ∷ rest))) (names_differ (fs ++ g ∷ rest)) differ in
    let none : list_any (has_name f.name) (fs ++ g ∷ rest) ≡ false =
    not-true (list_any (has_name f.name) (fs ++ g ∷ rest)) parts.0 in
    let behind =
    or_parts (list_any (has_name f.name) fs) _ (sym (list_any-append (has_name f.name) fs (g ∷ rest)) ∙ none) in
    let other : has_name f.name g ≡ false =
    (or_parts (has_name f.name g) (list_any (has_name f.name) rest) behind.1).0 in
    or_from (has_name g.name f) (list_any (has_name g.name) fs) (has_name-false f g other)
    (none_before fs rest g parts.1)

pub new_name : (files done rest : List (List ℕ × List ℕ)) (name bytes : List ℕ) → files ≡ done ++ (name, bytes) ∷ rest
    → names_differ (stored files) ≡ true → file_named (stored_alone (stored done)) name ≡ None
unfolding file_named
new_name files done rest name bytes split differ =
    let whole : names_differ (stored done ++ stored_file (name, bytes) ∷ stored rest) ≡ true =
    sym (ap names_differ (ap stored split ∙ map-append stored_file done ((name, bytes) ∷ rest))) ∙ differ in
    position-none (has_name name) (stored done)
    (none_before (stored done) (stored rest) (stored_file (name, bytes)) whole)

pub ruleset storing = (stored-push, new_name)
