-- What a source and a sink tell.
use Rattle.std.specs.Prelude.{ℕ, List, Option}

-- What both tell at one moment: the bytes that are left and those that were written, where they are told, and the
-- faults.
pub record Ends : Type 0 where
  pub left : Option (List ℕ)
  pub read_faults : ℕ
  pub written : Option (List ℕ)
  pub write_faults : ℕ

-- what a source and a sink tell, by what each of them tells
abbrev pub ends_of : {S K : Type 0} → (S → Option (List ℕ)) → (S → ℕ) → (K → Option (List ℕ)) → (K → ℕ) → S → K → Ends
ends_of left read_faults written write_faults source sink = record {
  left = left source;
  read_faults = read_faults source;
  written = written sink;
  write_faults = write_faults sink;
}
