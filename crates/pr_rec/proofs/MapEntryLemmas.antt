-- The record of a mapping.
use Rattle.std.proofs.Common.{drop, ◌≡◌, ◌↔◌, ◌<◌, ℕ, List, All, Result, Ok, Err, IfOk, IfErr, ap, arith}
use Rattle.std.proofs.lemmas.Bool.{lt-ltb}
use Rattle.std.proofs.lemmas.List.Elements.{All-get_or}
use Rattle.pr_num.specs.Words.{IsByte, IsWord}
use Rattle.pr_num.specs.Records.{map_entry_ranges}
use Rattle.pr_num.specs.declared.mappings.MappingKind.{MappingKind}
use Rattle.pr_rec.proofs.FieldLemmas.{same_kind, a_mapping_kind-field, mapping_kind-to}
use Rattle.pr_rec.proofs.RecordLemmas.{AreRanged, TakeWords, decoded, below-word, any-word, word-any, same_name, front_words-ranged}
use Rattle.pr_rec.specs.InRange.{IsNameField, IsMapEntry}
use Rattle.pr_rec.specs.Reading.{BeginsWith, record_read}
use Rattle.pr_rec.specs.RecordWords.{map_entry_words_of}
use Rattle.pr_rec.specs.declared.faults.RecFault.{RecFault}
use Rattle.pr_rec.specs.declared.mappings.MapEntry.{MapEntry}

-- fields in their ranges are words in theirs
pub map_entry-ranged : (m : MapEntry) → IsMapEntry m → AreRanged map_entry_ranges (map_entry_words_of m)
map_entry-ranged m h = (
  word-any _ h.at,
  (word-any _ h.size, (lt-ltb _ _ h.prot, (a_mapping_kind-field m.kind, front_words-ranged 4 m.name h.name.bytes))),
)

-- what the types of its fields and its words tell of it
pub map_entry-typed : (m : MapEntry) → m.prot < 8 → IsNameField m.name → All IsWord (map_entry_words_of m)
    → IsMapEntry m
map_entry-typed m prot name fit =
    let words : List ℕ = map_entry_words_of m in
    record {
      at = All-get_or IsWord words 0 0 (omega arith) fit;
      size = All-get_or IsWord words 1 0 (omega arith) fit;
      prot = prot;
      name = name;
    }

pub map_entry_take : TakeWords map_entry_ranges
map_entry_take = (
  any-word,
  (
    any-word,
    (
      below-word _ (omega arith),
      ((λ w ok. omega (arith, mapping_kind-to w ok)), (any-word, (any-word, (any-word, (any-word, tt))))),
    ),
  ),
)

pub same_map_entry : (x y : MapEntry) → IsNameField x.name → IsNameField y.name
    → map_entry_words_of x ≡ map_entry_words_of y → x ≡ y
same_map_entry x y x_whole y_whole e =
    let kind : x.kind ≡ y.kind = same_kind x.kind y.kind cc in
    let name : x.name ≡ y.name = same_name x.name y.name x_whole y_whole (ap (drop 4) e) in
    by (λ at size prot kind name. record { at = at; size = size; prot = prot; kind = kind; name = name }) kind name
  where
    by : (f : ℕ → ℕ → ℕ → MappingKind → List ℕ → MapEntry) → x.kind ≡ y.kind → x.name ≡ y.name
        → f x.at x.size x.prot x.kind x.name ≡ f y.at y.size y.prot y.kind y.name
    by f kind_is name_is = cc

-- it is decoded exactly where the bytes begin with it
pub map_entry-decoded : (bytes : List ℕ) (r : Result MapEntry RecFault) → All IsByte bytes
    → IfOk r (λ x. record_read map_entry_ranges bytes ≡ Ok (map_entry_words_of x))
    → IfErr r (λ fault. record_read map_entry_ranges bytes ≡ Err fault) → IfOk r (λ x. IsNameField x.name)
    → (x : MapEntry) → (r ≡ Ok x) ↔ (IsNameField x.name × BeginsWith map_entry_ranges bytes (map_entry_words_of x))
map_entry-decoded bytes r small read bad whole x =
    decoded map_entry_ranges map_entry_take bytes map_entry_words_of
    (λ x. IsNameField x.name) same_map_entry small r read bad whole x
