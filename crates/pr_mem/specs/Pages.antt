-- Bytes that are kept in pages of 4,096 bytes, the last of which may have more than belong to them.
use Rattle.std.specs.Prelude.{◌≡◌, ◌≤◌, ◌+◌, ◌*◌, ℕ, List, [], ◌∷◌, length, take}
use Rattle.std.specs.List.{AllByRecursion, concat}
use Rattle.pr_num.specs.Layout.{page_size}
use Rattle.pr_num.specs.Limits.{mapping_limit}
use Rattle.pr_num.specs.Programs.{rounded}
use Rattle.pr_parts.specs.AddressSpaces.{written_bytes}

-- each page has all its bytes
abbrev pub IsWhole : List ℕ → Type 0
IsWhole page = length page ≡ page_size

abbrev pub AreWhole : List (List ℕ) → Type 0
AreWhole pages = AllByRecursion IsWhole pages

-- so many bytes at the front of the pages
abbrev pub bytes_of : ℕ → List (List ℕ) → List ℕ
bytes_of size pages = take size (concat pages)

-- the pages that so many bytes have: one for each 4,096 of them, and one for the rest
pub record AreOf (size : ℕ) (pages : List (List ℕ)) : Type 0 where
  pub whole : AreWhole pages
  pub count : length pages * page_size ≡ rounded size
  pub limit : size ≤ mapping_limit

-- pages that stand from an address on, after these bytes were written from `at` on
abbrev pub written_pages : ℕ → List ℕ → ℕ → List (List ℕ) → List (List ℕ)
written_pages at bytes first [] = []
written_pages at bytes first (page ∷ pages) =
    written_bytes at bytes first page ∷ written_pages at bytes (first + page_size) pages
