use Rattle.std.specs.Prelude.{ℕ, List, ◌++◌, Option, None, Some}

-- bytes, and after them those that are left, where these are told
unfoldable pub with_front : List ℕ → Option (List ℕ) → Option (List ℕ)
with_front bytes None = None
with_front bytes (Some left) = Some (bytes ++ left)

-- the bytes that were written, where these are told, and after them more
unfoldable pub with_end : Option (List ℕ) → List ℕ → Option (List ℕ)
with_end None bytes = None
with_end (Some written) bytes = Some (written ++ bytes)
