use Rattle.std.specs.Prelude.{ℕ, ◌-◌, List, ◌++◌, length, take, drop}
use Rattle.pr_io.specs.Faults.{raised}

-- A source in memory: the bytes that are left, the numbers of the calls that are to fail, the calls that were
-- made, and the faults among them.
pub record Supply : Type 0 where
  pub left : List ℕ
  pub fails : List ℕ
  pub calls : ℕ
  pub faults : ℕ

-- after a read that took n bytes
abbrev pub after_read : Supply → ℕ → Supply
after_read s n = record s { left = drop n s.left; calls = raised s.calls }

-- after a read that failed
abbrev pub after_failed_read : Supply → Supply
after_failed_read s = record s { calls = raised s.calls; faults = raised s.faults }

-- A sink in memory: the bytes that it has, how many it has room for, and its calls and faults as for a source.
pub record Store : Type 0 where
  pub written : List ℕ
  pub room : ℕ
  pub fails : List ℕ
  pub calls : ℕ
  pub faults : ℕ

-- the bytes for which there is room still
abbrev pub free_room : Store → ℕ
free_room s = s.room - length s.written

-- after a write that took n bytes of the part
abbrev pub after_write : Store → List ℕ → ℕ → Store
after_write s part n = record s { written = s.written ++ take n part; calls = raised s.calls }

-- after a write that failed
abbrev pub after_failed_write : Store → Store
after_failed_write s = record s { calls = raised s.calls; faults = raised s.faults }
