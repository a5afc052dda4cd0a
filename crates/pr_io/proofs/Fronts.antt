use Rattle.std.proofs.Common.{◌≡◌, ℕ, ◌+◌, List, ◌++◌, Option, length, take, ap, sym, ◌∙◌, arith}
use Rattle.std.proofs.Math.Seq.{take-append-add}
use Rattle.std.proofs.lemmas.List.{take-append-le, length-append}
use Rattle.pr_io.specs.Known.{with_end}
use Rattle.pr_io.specs.Writing.{AppendsFront}
use Rattle.pr_io.proofs.Known.{with_end-with_end}

-- a front of the first part is one of both
pub AppendsFront-first : (old new : Option (List ℕ)) (a b : List ℕ) → AppendsFront old new a
    → AppendsFront old new (a ++ b)
AppendsFront-first old new a b h = record {
  count = h.count;
  short = omega (arith, h.short, length-append a b);
  appended = h.appended ∙ ap (with_end old) (sym (take-append-le h.count a b (omega (arith, h.short))));
}

-- all of the first part, and then a front of the second, is a front of both
pub AppendsFront-second : (old mid new : Option (List ℕ)) (a b : List ℕ) → mid ≡ with_end old a → AppendsFront mid new b
    → AppendsFront old new (a ++ b)
AppendsFront-second old mid new a b whole h = record {
  count = length a + h.count;
  short = omega (arith, h.short, length-append a b);
  appended =
      h.appended ∙ ap (λ known. with_end known (take h.count b)) whole ∙ with_end-with_end old a (take h.count b)
      ∙ ap (with_end old) (sym (take-append-add a b h.count));
}
