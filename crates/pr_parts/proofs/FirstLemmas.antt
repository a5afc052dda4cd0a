-- The mappings with which a program begins are an address space.
use Rattle.std.proofs.Common.{◌≡◌, ℕ, ◌+◌, ◌-◌, ◌<◌, ◌≤◌, ◌^◌, List, [], ◌∷◌, ◌++◌, length, replicate, refl, sym, subst, arith}
use Rattle.std.specs.List.{All, AllPairs}
use Rattle.std.proofs.lemmas.List.{append_assoc, length-append, length-replicate}
use Rattle.std.proofs.lemmas.List.Elements.{All-nil, All-cons}
use Rattle.std.proofs.lemmas.List.Kept.{AllPairs-cons}
use Rattle.std.proofs.lemmas.List.Sums.{sum_by-append, sum_by-cons}
use Rattle.pr_num.specs.Layout.{data_base, page_size, stack_base, stack_end, text_base}
use Rattle.pr_num.specs.Limits.{data_limit, text_limit}
use Rattle.pr_num.specs.Programs.{Program, rounded, text_of, whole_pages}
use Rattle.pr_num.specs.Spaces.{Space, IsBefore, IsSpace, first_space, mapped_size, read_execute, read_write, unless_empty, first_mappings}
use Rattle.pr_num.specs.declared.mappings.Mapping.{Mapping}
use Rattle.pr_num.specs.declared.mappings.MappingKind.{MappingKind}
use Rattle.pr_num.specs.declared.mappings.MappingKind.TheVariants.{Text, Data, Stack}
use Rattle.pr_parts.specs.AddressSpaces.{zeros_at}
use Rattle.pr_parts.proofs.ByAddressLemmas.{AllPairs-nil}
use Rattle.pr_parts.proofs.SpaceLemmas.{EndsWithin, HasBytes, size_of}

-- what a program begins with is what is made of its text and its data
pub first_space-mappings : (p : Program) → first_space p ≡ first_mappings (text_of p) p.bytes
unfolding first_space first_mappings
first_space-mappings p = refl

pub length-pages : (bytes : List ℕ) → length (whole_pages bytes) ≡ rounded (length bytes)
length-pages bytes =
    omega (
      arith,
      length-append bytes (replicate (rounded (length bytes) - length bytes) 0),
      length-replicate {A = ℕ} (rounded (length bytes) - length bytes) 0,
    )

-- mappings that begin behind an address and stand by rising address and apart, up to a number of bytes
record StandsFrom (low most : ℕ) (space : Space) : Type 0 where
  pub apart : AllPairs IsBefore space
  pub not_empty : All HasBytes space
  pub within : All EndsWithin space
  pub from : All (λ (m : Mapping). low ≤ m.at) space
  pub size : mapped_size space ≤ most

abbrev stack : Space
stack = zeros_at stack_base page_size read_write Stack ∷ []

one_more : (m : Mapping) (space : Space) (low high most more : ℕ) → StandsFrom high most space → 0 < length m.bytes
    → low ≤ m.at → m.at + length m.bytes ≤ high → high < 2 ^ 64 → low ≤ high → length m.bytes ≤ more
    → StandsFrom low (more + most) (m ∷ space)
one_more m space low high most more rest some from end range order size = record {
  apart = AllPairs-cons IsBefore m space (behind rest.from) rest.apart;
  not_empty = All-cons HasBytes m space some rest.not_empty;
  within = All-cons EndsWithin m space (omega arith) rest.within;
  from = All-cons (λ (n : Mapping). low ≤ n.at) m space from (lower rest.from);
  size = omega (arith, sum_by-cons size_of m space, rest.size);
}
  where
    behind : All (λ (n : Mapping). high ≤ n.at) space → All (IsBefore m) space
    behind all k d inside = let far = all k d inside in omega arith

    lower : All (λ (n : Mapping). high ≤ n.at) space → All (λ (n : Mapping). low ≤ n.at) space
    lower all k d inside = let far = all k d inside in omega arith

fewer : (low high most more : ℕ) (space : Space) → low ≤ high → StandsFrom high most space
    → StandsFrom low (more + most) space
fewer low high most more space order rest = record {
  apart = rest.apart;
  not_empty = rest.not_empty;
  within = rest.within;
  from = lower rest.from;
  size = omega (arith, rest.size);
}
  where
    lower : All (λ (n : Mapping). high ≤ n.at) space → All (λ (n : Mapping). low ≤ n.at) space
    lower all k d inside = let far = all k d inside in omega arith

-- a mapping of these bytes, unless there is none, before others
pages_before : (at prot : ℕ) (kind : MappingKind) (bytes : List ℕ) (space : Space) (high most : ℕ)
    → StandsFrom high most space → length bytes ≤ data_limit → at + data_limit ≤ high → high < 2 ^ 64
    → StandsFrom at (data_limit + most) (unless_empty at prot kind bytes ++ space)
pages_before at prot kind [] space high most rest few end range = fewer at high most data_limit space (omega arith) rest
pages_before at prot kind (b ∷ bytes) space high most rest few end range =
    let size = length-pages (b ∷ bytes) in
    one_more
    (record { at = at; prot = prot; kind = kind; bytes = whole_pages (b ∷ bytes) }) space at high most data_limit
    rest (omega arith) (omega arith) (omega arith) range (omega arith) (omega arith)

nothing : StandsFrom stack_end 0 []
nothing =
    record {
      apart = AllPairs-nil IsBefore;
      not_empty = All-nil HasBytes;
      within = All-nil EndsWithin;
      from =
          All-nil (λ (m : Mapping). stack_end ≤ m.at);
      size = omega arith;
    }

stack_stands : StandsFrom stack_base page_size stack
stack_stands =
    let size = length-replicate {A = ℕ} page_size 0 in
    one_more (zeros_at stack_base page_size read_write Stack)
    [] stack_base stack_end 0 page_size nothing (omega arith) (omega arith) (omega arith) (omega arith)
    (omega arith) (omega arith)

pub IsSpace-first : (text bytes : List ℕ) → length text ≤ text_limit → length bytes ≤ data_limit
    → IsSpace (first_mappings text bytes)
unfolding first_mappings
IsSpace-first text bytes few_text few_bytes =
    let filled =
    pages_before data_base read_write Data bytes stack stack_base page_size stack_stands few_bytes (omega arith)
    (omega arith) in
    let all =
    pages_before text_base read_execute Text text
    (unless_empty data_base read_write Data bytes ++ stack) data_base _ filled few_text (omega arith)
    (omega arith) in
    let parts =
    append_assoc (unless_empty text_base read_execute Text text)
    (unless_empty data_base read_write Data bytes) stack in
    subst IsSpace (sym parts)
    (record { apart = all.apart; not_empty = all.not_empty; within = all.within; limit = omega (arith, all.size) })

pub size-pages : (at prot : ℕ) (kind : MappingKind) (bytes : List ℕ)
    → mapped_size (unless_empty at prot kind bytes) ≡ rounded (length bytes)
size-pages at prot kind [] = refl
size-pages at prot kind (b ∷ bytes) =
    let m : Mapping = record { at = at; prot = prot; kind = kind; bytes = whole_pages (b ∷ bytes) } in
    omega (arith, sum_by-cons size_of m [], length-pages (b ∷ bytes))

pub mapped_size-first : (text bytes : List ℕ)
    → mapped_size (first_mappings text bytes) ≡ rounded (length text) + rounded (length bytes) + page_size
unfolding first_mappings
mapped_size-first text bytes =
    let a = unless_empty text_base read_execute Text text in
    let b = unless_empty data_base read_write Data bytes in
    let stands = length-replicate {A = ℕ} page_size 0 in
    omega (
      arith,
      sum_by-append size_of (a ++ b) stack,
      sum_by-append size_of a b,
      sum_by-cons size_of (zeros_at stack_base page_size read_write Stack)
          [],
      size-pages text_base read_execute Text text,
      size-pages data_base read_write Data bytes,
    )
