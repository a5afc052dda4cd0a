-- An address space stays one, and how many bytes it maps.
use Rattle.std.proofs.Common.{◌≡◌, ℕ, ◌+◌, ◌<◌, ◌≤◌, ◌^◌, Bool, true, false, not, cond, ltb, inl, inr, Some, None, List, [], ◌∷◌, length, map, take, drop, set, get_or, suc, refl, sym, ◌∙◌, ap, arith}
use Rattle.std.specs.List.{find, insert, list_any, remove, position, position_or_len, slice_get}
use Rattle.std.proofs.lemmas.Bool.{cases_Bool, lt-ltb, not-true}
use Rattle.std.proofs.lemmas.List.Sums.{sum_by-remove}
use Rattle.std.proofs.lemmas.Option.{cond_some}
use Rattle.std.specs.Prelude.{◌||◌}
use Rattle.std.proofs.lemmas.List.Elements.{All-append, All-drop, All-map, All-take, All-weaker}
use Rattle.std.proofs.lemmas.List.Quantifiers.{all_pairs_remove}
use Rattle.std.proofs.lemmas.List.{length-map}
use Rattle.pr_num.proofs.TableLemmas.{position-within, remove-without_first, without_first-no_place, change_first-place, change_first-no_place, list_any-no_place}
use Rattle.pr_num.specs.KeyedTables.{change_first, without_first}
use Rattle.pr_num.specs.Spaces.{Space, IsBefore, IsSpace, mapped_size, mapping_limit}
use Rattle.pr_num.specs.declared.mappings.Mapping.{Mapping}
use Rattle.pr_num.specs.declared.mappings.MappingKind.TheVariants.{Heap}
use Rattle.pr_parts.specs.ByAddress.{is_behind}
use Rattle.pr_parts.specs.AddressSpaces.{address_of, is_free, is_range, meets, with_bytes, with_mapping, with_prot, with_protected, with_written, without_range}
use Rattle.pr_parts.proofs.AccessLemmas.{length-written_bytes}
use Rattle.pr_parts.proofs.ByAddressLemmas.{All-placed, insert-placed, pairs-placed, pairs-without_first, pairs-change_first, pairs-map, sum_by-placed, sum_by-without_first, sum_by-change_first_same, sum_by-map_same}
use Rattle.pr_num.proofs.TableLaws.{All-change_first, All-without_first}

-- how many bytes a mapping has
abbrev pub size_of : Mapping → ℕ
size_of m = length m.bytes

-- no empty mapping; none past the last address
abbrev pub HasBytes : Mapping → Type 0
HasBytes m = 0 < length m.bytes

abbrev pub EndsWithin : Mapping → Type 0
EndsWithin m = m.at + length m.bytes < 2 ^ 64

-- ---- one mapping more

pub mapped_size-with_mapping : (m : Mapping) (space : Space)
    → mapped_size (with_mapping m space) ≡ length m.bytes + mapped_size space
unfolding with_mapping
mapped_size-with_mapping m space = sum_by-placed size_of address_of m space

pub IsSpace-with_mapping : (m : Mapping) (space : Space) → IsSpace space → 0 < length m.bytes
    → m.at + length m.bytes < 2 ^ 64 → is_free m.at (length m.bytes) space ≡ true
    → mapped_size space + length m.bytes ≤ mapping_limit → IsSpace (with_mapping m space)
unfolding with_mapping is_free
IsSpace-with_mapping m space old some end free room = record {
  apart = pairs-placed address_of size_of m space some old.apart
      (not-true (list_any (meets m.at (length m.bytes)) space) free);
  not_empty = All-placed HasBytes address_of m space some old.not_empty;
  within = All-placed EndsWithin address_of m space end old.within;
  limit = omega (arith, sum_by-placed size_of address_of m space);
}

pub insert-with_mapping : (m : Mapping) (space : Space) (place : ℕ)
    → place ≡ position_or_len (is_behind address_of m.at) space → insert space place m ≡ with_mapping m space
unfolding with_mapping
insert-with_mapping m space place e = rw e (insert-placed address_of m space)

-- ---- one mapping less

pub IsSpace-without_first : (p : Mapping → Bool) (space : Space) (m : Mapping) → IsSpace space → find p space ≡ Some m
    → IsSpace (without_first p space)
IsSpace-without_first p space m old found = record {
  apart = pairs-without_first IsBefore p space old.apart;
  not_empty = All-without_first HasBytes p space old.not_empty;
  within = All-without_first EndsWithin p space old.within;
  limit = omega (arith, sum_by-without_first size_of p space m found, old.limit);
}

-- ---- ranges stay

pub IsSpace-change_first : (p : Mapping → Bool) (f : Mapping → Mapping) (space : Space)
    → ((m : Mapping) → (f m).at ≡ m.at) → ((m : Mapping) → length (f m).bytes ≡ length m.bytes) → IsSpace space
    → IsSpace (change_first p f space)
IsSpace-change_first p f space at size old = record {
  apart = pairs-change_first IsBefore p f space (λ m n h. omega (arith, at m, size m))
      (λ m n h. omega (arith, at n)) old.apart;
  not_empty = All-change_first HasBytes p f (λ m _ h. omega (arith, size m)) space old.not_empty;
  within = All-change_first EndsWithin p f (λ m _ h. omega (arith, at m, size m)) space old.within;
  limit = omega (arith, sum_by-change_first_same size_of p f space size, old.limit);
}

pub IsSpace-map : (f : Mapping → Mapping) (space : Space) → ((m : Mapping) → (f m).at ≡ m.at)
    → ((m : Mapping) → length (f m).bytes ≡ length m.bytes) → IsSpace space → IsSpace (map f space)
IsSpace-map f space at size old = record {
  apart = pairs-map IsBefore f space (λ m n h. omega (arith, at m, size m, at n)) old.apart;
  not_empty =
      All-map HasBytes f space
      (All-weaker HasBytes (λ m. HasBytes (f m)) (λ m h. omega (arith, size m)) space old.not_empty);
  within =
      All-map EndsWithin f space
      (All-weaker EndsWithin (λ m. EndsWithin (f m)) (λ m h. omega (arith, at m, size m)) space old.within);
  limit = omega (arith, sum_by-map_same size_of f space size, old.limit);
}

-- ---- protecting

pub IsSpace-with_protected : (at size prot : ℕ) (space : Space) → IsSpace space
    → IsSpace (with_protected at size prot space)
unfolding with_protected with_prot
IsSpace-with_protected at size prot space old =
    IsSpace-change_first (is_range at size) (with_prot prot) space (λ m. refl) (λ m. refl) old

pub mapped_size-with_protected : (at size prot : ℕ) (space : Space)
    → mapped_size (with_protected at size prot space) ≡ mapped_size space
unfolding with_protected with_prot
mapped_size-with_protected at size prot space =
    sum_by-change_first_same size_of (is_range at size) (with_prot prot) space (λ m. refl)

-- ---- writing

written-at : (at : ℕ) (bytes : List ℕ) (m : Mapping) → (with_written at bytes m).at ≡ m.at
unfolding with_written
written-at at bytes m = refl

written-size : (at : ℕ) (bytes : List ℕ) (m : Mapping) → length (with_written at bytes m).bytes ≡ length m.bytes
unfolding with_written
written-size at bytes m = length-written_bytes at bytes m.at m.bytes

pub IsSpace-with_bytes : (at : ℕ) (bytes : List ℕ) (space : Space) → IsSpace space → IsSpace (with_bytes at bytes space)
unfolding with_bytes
IsSpace-with_bytes at bytes space old =
    IsSpace-map (with_written at bytes) space (written-at at bytes) (written-size at bytes) old

pub mapped_size-with_bytes : (at : ℕ) (bytes : List ℕ) (space : Space)
    → mapped_size (with_bytes at bytes space) ≡ mapped_size space
unfolding with_bytes
mapped_size-with_bytes at bytes space = sum_by-map_same size_of (with_written at bytes) space (written-size at bytes)

pub length-with_bytes : (at : ℕ) (bytes : List ℕ) (space : Space) → length (with_bytes at bytes space) ≡ length space
unfolding with_bytes
length-with_bytes at bytes space = length-map space (with_written at bytes)

-- ---- a place taken out

pub mapped_size-remove : (space : Space) (i : ℕ) (m : Mapping) → i < length space → m ≡ get_or space i m
    → mapped_size (remove space i) + length m.bytes ≡ mapped_size space
mapped_size-remove space i m within e = omega (arith, sum_by-remove size_of space i m within, ap size_of e)

pub IsSpace-remove : (space : Space) (i : ℕ) → i < length space → IsSpace space → IsSpace (remove space i)
IsSpace-remove space i within old = record {
  apart = all_pairs_remove IsBefore space i within old.apart;
  not_empty =
      All-append HasBytes (take i space) (drop (suc i) space) (All-take HasBytes i space old.not_empty)
      (All-drop HasBytes (suc i) space old.not_empty);
  within =
      All-append EndsWithin (take i space) (drop (suc i) space) (All-take EndsWithin i space old.within)
      (All-drop EndsWithin (suc i) space old.within);
  limit = omega
      (arith, sum_by-remove size_of space i (record { at = 0; prot = 0; kind = Heap; bytes = [] }) within, old.limit);
}

-- ---- what was found or not

any-place : {X : Type 0} (p : X → Bool) (xs : List X) → list_any p xs ≡ ltb (position_or_len p xs) (length xs)
any-place p [] = refl
any-place p (x ∷ xs) =
    elim (p x) as (λ b. b || list_any p xs ≡ ltb (cond (not b) (1 + position_or_len p xs) 0) (suc (length xs))) [
      | true ↦ sym (lt-ltb 0 (suc (length xs)) (omega arith))
      | false ↦ any-place p xs ∙ moved (position_or_len p xs) (length xs)
    ]
  where
    moved : (a b : ℕ) → ltb a b ≡ ltb (1 + a) (suc b)
    moved a b = grind arith

pub has-position : {X : Type 0} (p : X → Bool) (xs : List X) (i : ℕ) → position p xs ≡ Some i → list_any p xs ≡ true
has-position p xs i e =
    any-place p xs ∙ (cond_some (ltb (position_or_len p xs) (length xs)) (position_or_len p xs) i e).0

pub remove-without_range : (at size : ℕ) (space : Space) (place : ℕ) → position (is_range at size) space ≡ Some place
    → remove space place ≡ without_range at size space
unfolding without_range
remove-without_range at size space place e = remove-without_first (is_range at size) space place e

pub set-with_protected : (at size prot : ℕ) (space : Space) (place : ℕ) (m : Mapping)
    → position (is_range at size) space ≡ Some place → slice_get space place ≡ Some m
    → set space place (with_prot prot m) ≡ with_protected at size prot space
unfolding with_protected
set-with_protected at size prot space place m e found =
    change_first-place (is_range at size) (with_prot prot) space place m e found

pub without_range-none : (at size : ℕ) (space : Space) → position (is_range at size) space ≡ None
    → without_range at size space ≡ space
unfolding without_range
without_range-none at size space e = without_first-no_place (is_range at size) space e

pub with_protected-none : (at size prot : ℕ) (space : Space) → position (is_range at size) space ≡ None
    → with_protected at size prot space ≡ space
unfolding with_protected
with_protected-none at size prot space e = change_first-no_place (is_range at size) (with_prot prot) space e

pub ruleset ranges = (has-position, list_any-no_place, remove-without_range, set-with_protected, position-within)
