use Rattle.std.proofs.Common.{◌≡◌, ◌++◌, length}
use Rattle.std.specs.Vec.Iter.{into_iter_items, into_iter_len}
use Rattle.phist.specs.Sources.{listings_of}
use Rattle.phist.proofs.sources.listings_of.Given as goal

-- the listings so far, with those of the programs that are left, are all of them
abbrev pub invariant-loop-program : goal.invariant-loop-program
invariant-loop-program l = record {
  told :
      l.listings.items ++ listings_of (into_iter_items l.program-iterator) l.rest
      ≡ listings_of l.fn.programs.items l.numbers;
  left : into_iter_len l.program-iterator ≡ length (into_iter_items l.program-iterator);
}
