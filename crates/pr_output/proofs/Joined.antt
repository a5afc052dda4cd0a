-- Texts put one behind the other.
use Rattle.std.proofs.Common.{◌≡◌, ℕ, ◌+◌, List, [], ◌++◌, Option, Result, Ok, Err, OnOk, length, take, min, refl, sym, ap, subst, ◌∙◌, arith}
use Rattle.std.proofs.Math.Seq.{take-append-add}
use Rattle.std.proofs.lemmas.List.{take_min, take-append-le}
use Rattle.pr_io.specs.Known.{with_end}
use Rattle.pr_io.proofs.Counts.{Rose-after}
use Rattle.pr_io.proofs.Fronts.{AppendsFront-first, AppendsFront-second}
use Rattle.pr_io.proofs.Known.{with_end-nil, with_end-with_end}
use Rattle.pr_output.specs.declared.cuts.Cut.{Cut}
use Rattle.pr_output.specs.declared.cuts.Cut.TheVariants.{NoMemory}
use Rattle.pr_output.specs.Output.{AppendsSome}
use Rattle.pr_output.specs.Puts.{Puts}

-- nothing is a front of every text
pub AppendsSome-nothing : (known : Option (List ℕ)) (text : List ℕ) → AppendsSome known known text
AppendsSome-nothing known text = record { count = 0; appended = sym (with_end-nil known) }

-- a front of the first part, or more than it has, is one that both have
take-min : (n : ℕ) (a b : List ℕ) → take n a ≡ take (min n (length a)) (a ++ b)
take-min n a b = sym (take_min n a) ∙ sym (take-append-le (min n (length a)) a b (omega arith))

-- a front of the first part is one of both
AppendsSome-first : (old new : Option (List ℕ)) (a b : List ℕ) → AppendsSome old new a → AppendsSome old new (a ++ b)
AppendsSome-first old new a b h = record {
  count = min h.count (length a);
  appended = h.appended ∙ ap (with_end old) (take-min h.count a b);
}

-- all of the first part, and then a front of the second, is a front of both
AppendsSome-second : (old mid new : Option (List ℕ)) (a b : List ℕ) → mid ≡ with_end old a → AppendsSome mid new b
    → AppendsSome old new (a ++ b)
AppendsSome-second old mid new a b whole h = record {
  count = length a + h.count;
  appended =
      h.appended ∙ ap (λ known. with_end known (take h.count b)) whole ∙ with_end-with_end old a (take h.count b)
      ∙ ap (with_end old) (sym (take-append-add a b h.count));
}

-- all of the first part, and then all of the second
pub with_end-second : (old mid new : Option (List ℕ)) (a b : List ℕ) → mid ≡ with_end old a → new ≡ with_end mid b
    → new ≡ with_end old (a ++ b)
with_end-second old mid new a b whole h = h ∙ ap (λ known. with_end known b) whole ∙ with_end-with_end old a b

OnOk-second : (r : Result Unit Cut) (old mid new : Option (List ℕ)) (a b : List ℕ) → mid ≡ with_end old a
    → OnOk r (new ≡ with_end mid b) → OnOk r (new ≡ with_end old (a ++ b))
OnOk-second (Ok u) old mid new a b whole h = with_end-second old mid new a b whole h
OnOk-second (Err e) old mid new a b whole h = tt

-- what is put behind a text that is there whole
pub Puts-second : (r : Result Unit Cut) (old mid new : Option (List ℕ)) (before between after : ℕ) (a b : List ℕ)
    → mid ≡ with_end old a → between ≡ before → Puts r mid new between after b → Puts r old new before after (a ++ b)
Puts-second r old mid new before between after a b whole same h = record {
  all = OnOk-second r old mid new a b whole h.all;
  failed = λ is. AppendsFront-second old mid new a b whole (h.failed is);
  rose = λ is. Rose-after before between after (omega (arith, same)) (h.rose is);
  memory = λ is. AppendsSome-second old mid new a b whole (h.memory is);
  no_fault = λ is. h.no_fault is ∙ same;
  never_falls = omega (arith, same, h.never_falls);
}

-- what was cut stays cut when more is to follow
pub Puts-cut : (r : Result Unit Cut) (e : Cut) (old new : Option (List ℕ)) (before after : ℕ) (a b : List ℕ) → r ≡ Err e
    → Puts (Err e) old new before after a → Puts r old new before after (a ++ b)
Puts-cut r e old new before after a b is h = subst (λ r. Puts r old new before after (a ++ b)) (sym is) (record {
  all = tt;
  failed = λ is. AppendsFront-first old new a b (h.failed is);
  rose = h.rose;
  memory = λ is. AppendsSome-first old new a b (h.memory is);
  no_fault = h.no_fault;
  never_falls = h.never_falls;
})

-- memory ran out before anything was put
pub Puts-nothing : (r : Result Unit Cut) (known : Option (List ℕ)) (faults : ℕ) (text : List ℕ) → r ≡ Err NoMemory
    → Puts r known known faults faults text
Puts-nothing r known faults text is = subst (λ r. Puts r known known faults faults text) (sym is) (record {
  all = tt;
  failed = λ is. cc;
  rose = λ is. cc;
  memory = λ is. AppendsSome-nothing known text;
  no_fault = λ is. refl;
  never_falls = omega arith;
})

-- where there is nothing to put, all is there
pub Puts-none : (known : Option (List ℕ)) (faults : ℕ) → Puts (Ok tt) known known faults faults []
Puts-none known faults = record {
  all = sym (with_end-nil known);
  failed = λ is. cc;
  rose = λ is. cc;
  memory = λ is. cc;
  no_fault = λ is. refl;
  never_falls = omega arith;
}
