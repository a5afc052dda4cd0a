-- The parts of lines, and what they make.
use Rattle.std.proofs.Common.{◌≡◌, ℕ, suc, ◌+◌, ◌<◌, ◌≤◌, Bool, not, true, false, cond, nat_lt, Some, None, List, [], ◌∷◌, ◌++◌, length, take, drop, get_or, map, Bor, Result, Ok, Err, refl, sym, ◌∙◌, ap, arith}
use Rattle.std.specs.List.{position, position_from, position_or_len}
use Rattle.std.proofs.lemmas.Iterator.Adapters.{position_from-zero}
use Rattle.std.proofs.lemmas.List.{append_assoc, append-nil, length-append, drop-map}
use borrow.Author.Tests.{ltb-true, ltb-false}
use Rattle.pr_text.specs.Steps.{◌>>=◌}
use Rattle.pr_scen.specs.Blocks.{part_added, parts_added}
use Rattle.pr_scen.specs.Lines.{is_end}
use Rattle.pr_scen.specs.Parts.{Part, line, block, endless, begins_block, parts_from, block_from}
use Rattle.pr_scen.proofs.LineLemmas.{bytes_of}
use Rattle.pr_text.specs.Reads.{Stops}
use Rattle.pr_scen.specs.Taken.{StopsAtPart, TakesPart}
use Rattle.pr_scen.specs.declared.drafts.Draft.{Draft}
use Rattle.pr_scen.specs.Refusals.{ScenFault, ScenRefusal}
use Rattle.pr_text.specs.declared.refusals.LineRefusal.TheVariants.{Fault, NoMemory}

-- where a search ends
position-some : (xs : List (List ℕ)) (k : ℕ) → position is_end xs ≡ Some k
    → (position_or_len is_end xs ≡ k) × (position_or_len is_end xs < length xs)
position-some xs k e = at (nat_lt (position_or_len is_end xs) (length xs)) refl e
  where
    at : (b : Bool) → nat_lt (position_or_len is_end xs) (length xs) ≡ b
        → cond b (Some (position_or_len is_end xs)) None ≡ Some k
        → (position_or_len is_end xs ≡ k) × (position_or_len is_end xs < length xs)
    at true t e = (cc, ltb-true _ _ t)
    at false t e = cc

position-none : (xs : List (List ℕ)) → position is_end xs ≡ None → length xs ≤ position_or_len is_end xs
position-none xs e = at (nat_lt (position_or_len is_end xs) (length xs)) refl e
  where
    at : (b : Bool) → nat_lt (position_or_len is_end xs) (length xs) ≡ b
        → cond b (Some (position_or_len is_end xs)) None ≡ None → length xs ≤ position_or_len is_end xs
    at true t e = cc
    at false t e = ltb-false _ _ t

-- ---- the first part of lines

pub part-line : (n : ℕ) (this : List ℕ) (below : List (List ℕ)) → begins_block this ≡ false
    → parts_from n (this ∷ below) ≡ line n this ∷ parts_from (n + 1) below
unfolding parts_from
part-line n this below e = ap (λ b. cond b (block_from n this [] below) (line n this ∷ parts_from (n + 1) below)) e

begun-block : (n : ℕ) (this : List ℕ) (below : List (List ℕ)) → begins_block this ≡ true
    → parts_from n (this ∷ below) ≡ block_from n this [] below
unfolding parts_from
begun-block n this below e = ap (λ b. cond b (block_from n this [] below) (line n this ∷ parts_from (n + 1) below)) e

-- a block of so many of these lines, and what stands below it
abbrev ended_at : ℕ → List ℕ → List (List ℕ) → ℕ → List (List ℕ) → List Part
ended_at n first body k below =
    block n first (body ++ take k below) (get_or below k [])
    ∷ parts_from (n + (length body + k + 2)) (drop (k + 1) below)

one_more : (j : ℕ) → suc (j + 1) ≡ suc j + 1
one_more j = omega arith

two_more : (k : ℕ) → suc (k + 1) ≡ k + 2
two_more k = omega arith

module _ (n : ℕ) (first this : List ℕ) (rest body : List (List ℕ)) where
  -- the block ends here
  ends_here : (k : ℕ) → k ≡ 0 → is_end this ≡ true
      → block_from n first body (this ∷ rest) ≡ ended_at n first body k (this ∷ rest)
  unfolding block_from
  ends_here k none e =
      ap (λ b.
      cond b (block n first body this ∷ parts_from (n + (length body + 2)) rest)
      (block_from n first (body ++ this ∷ []) rest)) e
      ∙ ap (λ xs. block n first xs this ∷ parts_from (n + (length body + 2)) rest) (sym (append-nil body))
      ∙ ap (λ m. block n first (body ++ []) this ∷ parts_from m rest) (omega arith)
      ∙ ap (λ j. ended_at n first body j (this ∷ rest)) (sym none)

  -- it ends below
  ends_below : (j k : ℕ) → k ≡ suc j → is_end this ≡ false
      → block_from n first (body ++ this ∷ []) rest ≡ ended_at n first (body ++ this ∷ []) j rest
      → block_from n first body (this ∷ rest) ≡ ended_at n first body k (this ∷ rest)
  unfolding block_from
  ends_below j k more e rec =
      ap (λ b.
      cond b (block n first body this ∷ parts_from (n + (length body + 2)) rest)
      (block_from n first (body ++ this ∷ []) rest)) e
      ∙ rec
      ∙ ap (λ xs. block n first xs (get_or rest j [])
      ∷ parts_from (n + (length (body ++ this ∷ []) + j + 2)) (drop (j + 1) rest))
      (append_assoc body (this ∷ []) (take j rest))
      ∙ ap (λ m. block n first (body ++ this ∷ take j rest) (get_or rest j []) ∷ parts_from m (drop (j + 1) rest))
      (omega (arith, length-append body (this ∷ [])))
      ∙ ap (λ m. block n first (body ++ this ∷ take j rest) (get_or rest j [])
      ∷ parts_from (n + (length body + suc j + 2)) (drop m (this ∷ rest))) (one_more j)
      ∙ ap (λ m. ended_at n first body m (this ∷ rest)) (sym more)

  endless_below : is_end this ≡ false → block_from n first (body ++ this ∷ []) rest ≡ endless n first ∷ []
      → block_from n first body (this ∷ rest) ≡ endless n first ∷ []
  unfolding block_from
  endless_below e rec =
      ap (λ b.
      cond b (block n first body this ∷ parts_from (n + (length body + 2)) rest)
      (block_from n first (body ++ this ∷ []) rest)) e ∙ rec

-- the first line that ends a block, if one does
end_at : (n : ℕ) (first this : List ℕ) (rest body : List (List ℕ)) (b : Bool) → is_end this ≡ b
    → (position_or_len is_end rest < length rest
    → block_from n first (body ++ this ∷ []) rest
    ≡ ended_at n first (body ++ this ∷ []) (position_or_len is_end rest) rest)
    → position_or_len is_end (this ∷ rest) < length (this ∷ rest)
    → block_from n first body (this ∷ rest) ≡ ended_at n first body (position_or_len is_end (this ∷ rest)) (this ∷ rest)
end_at n first this rest body true e rec inside =
    ends_here n first this rest body _ (ap (λ b. cond (not b) (1 + position_or_len is_end rest) 0) e) e
end_at n first this rest body false e rec inside =
    let more : position_or_len is_end (this ∷ rest) ≡ suc (position_or_len is_end rest) =
    ap (λ b. cond (not b) (1 + position_or_len is_end rest) 0) e ∙ omega arith in
    ends_below n first this rest body _ _ more e (rec (omega arith))

end_of : (n : ℕ) (first : List ℕ) (below body : List (List ℕ)) → position_or_len is_end below < length below
    → block_from n first body below ≡ ended_at n first body (position_or_len is_end below) below
end_of n first [] body inside = absurd (omega arith)
end_of n first (this ∷ rest) body inside =
    end_at n first this rest body (is_end this) refl (λ h. end_of n first rest (body ++ this ∷ []) h) inside

no_end_at : (n : ℕ) (first this : List ℕ) (rest body : List (List ℕ)) (b : Bool) → is_end this ≡ b
    → (length rest ≤ position_or_len is_end rest → block_from n first (body ++ this ∷ []) rest ≡ endless n first ∷ [])
    → length (this ∷ rest) ≤ position_or_len is_end (this ∷ rest)
    → block_from n first body (this ∷ rest) ≡ endless n first ∷ []
no_end_at n first this rest body true e rec over =
    let none : position_or_len is_end (this ∷ rest) ≡ 0 =
    ap (λ b. cond (not b) (1 + position_or_len is_end rest) 0) e in absurd (omega arith)
no_end_at n first this rest body false e rec over =
    let more : position_or_len is_end (this ∷ rest) ≡ suc (position_or_len is_end rest) =
    ap (λ b. cond (not b) (1 + position_or_len is_end rest) 0) e ∙ omega arith in
    endless_below n first this rest body e (rec (omega arith))

no_end : (n : ℕ) (first : List ℕ) (below body : List (List ℕ)) → length below ≤ position_or_len is_end below
    → block_from n first body below ≡ endless n first ∷ []
unfolding block_from
no_end n first [] body over = refl
no_end n first (this ∷ rest) body over =
    no_end_at n first this rest body (is_end this) refl (λ h. no_end n first rest (body ++ this ∷ []) h) over

pub part-block : (n k : ℕ) (first last : List ℕ) (below : List (List ℕ)) → begins_block first ≡ true
    → position_from is_end 0 below ≡ Some k → last ≡ get_or below k []
    → parts_from n (first ∷ below) ≡ block n first (take k below) last ∷ parts_from (n + (k + 2)) (drop (k + 1) below)
part-block n k first last below begins at is =
    let found = position-some below k (position_from-zero is_end below ∙ at) in
    begun-block n first below begins
    ∙ end_of n first below [] found.1
    ∙ ap (λ j. ended_at n first [] j below) found.0
    ∙ ap (λ l. block n first (take k below) l ∷ parts_from (n + (0 + k + 2)) (drop (k + 1) below)) (sym is)
    ∙ ap (λ m. block n first (take k below) last ∷ parts_from m (drop (k + 1) below)) (omega arith)

pub part-endless : (n : ℕ) (first : List ℕ) (below : List (List ℕ)) → begins_block first ≡ true
    → position_from is_end 0 below ≡ None → parts_from n (first ∷ below) ≡ endless n first ∷ []
part-endless n first below begins none =
    begun-block n first below begins ∙ no_end n first below
    [] (position-none below (position_from-zero is_end below ∙ none))

-- ---- what the first part makes

-- a part that is accepted, and one that is refused
pub part-more : (d e : Draft) (part : Part) (parts all : List Part) → all ≡ part ∷ parts → part_added d part ≡ Ok e
    → parts_added d all ≡ parts_added e parts
unfolding parts_added
part-more d e part parts all is ok = ap (parts_added d) is ∙ ap (λ r. r >>= (λ x. parts_added x parts)) ok

pub part-stop : (d : Draft) (part : Part) (parts all : List Part) (fault : ScenFault) → all ≡ part ∷ parts
    → part_added d part ≡ Err fault → parts_added d all ≡ Err fault
unfolding parts_added
part-stop d part parts all fault is stopped = ap (parts_added d) is ∙ ap (λ r. r >>= (λ x. parts_added x parts)) stopped

-- what stops a part stops the whole
pub stops_whole : {X Y : Type 0} (e : ScenRefusal) (part : Result X ScenFault) (whole : Result Y ScenFault)
    → Stops e part → ((fault : ScenFault) → part ≡ Err fault → whole ≡ Err fault) → Stops e whole
stops_whole NoMemory part whole stopped on = tt
stops_whole (Fault fault) part whole stopped on = on fault stopped

-- ---- what the first part of lines is

pub endless_stops : (e : ScenRefusal) (d : Draft) (n : ℕ) (first : List ℕ) (below : List (List ℕ))
    → begins_block first ≡ true → position_from is_end 0 below ≡ None → Stops e (part_added d (endless n first))
    → StopsAtPart n d (first ∷ below) e
endless_stops e d n first below begins none stopped = record {
  part = endless n first;
  others = [];
  first = part-endless n first below begins none;
  begins = refl;
  stops = stopped;
}

module _ (d : Draft) (n : ℕ) (first : List ℕ) (below : List (List ℕ)) where
  pub line_stops : (e : ScenRefusal) → begins_block first ≡ false → Stops e (part_added d (line n first))
      → StopsAtPart n d (first ∷ below) e
  line_stops e outside stopped = record {
    part = line n first;
    others = parts_from (n + 1) below;
    first = part-line n first below outside;
    begins = refl;
    stops = stopped;
  }

  pub line_takes : (e : Draft) → begins_block first ≡ false → part_added d (line n first) ≡ Ok e
      → TakesPart n d e (first ∷ below) 1
  line_takes e outside ok = record {
    some = omega arith;
    inside = omega arith;
    part = line n first;
    first = part-line n first below outside;
    begins = refl;
    added = ok;
  }

  module _ (k : ℕ) (body : List (List ℕ)) (last : List ℕ) (begins : begins_block first ≡ true)
      (found : position_from is_end 0 below ≡ Some k) (taken : body ≡ take k below)
      (is : last ≡ get_or below k []) where
    whole_block : parts_from n (first ∷ below) ≡ block n first body last ∷ parts_from (n + (k + 2)) (drop (k + 1) below)
    whole_block =
        part-block n k first last below begins found is
        ∙ ap (λ xs. block n first xs last ∷ parts_from (n + (k + 2)) (drop (k + 1) below)) (sym taken)

    pub block_stops : (e : ScenRefusal) → Stops e (part_added d (block n first body last))
        → StopsAtPart n d (first ∷ below) e
    block_stops e stopped = record {
      part = block n first body last;
      others = parts_from (n + (k + 2)) (drop (k + 1) below);
      first = whole_block;
      begins = refl;
      stops = stopped;
    }

    pub block_takes : (e : Draft) → k < length below → part_added d (block n first body last) ≡ Ok e
        → TakesPart n d e (first ∷ below) (k + 2)
    block_takes e within ok = record {
      some = omega arith;
      inside = omega arith;
      part = block n first body last;
      first = whole_block
          ∙ ap (λ m. block n first body last ∷ parts_from (n + (k + 2)) (drop m (first ∷ below))) (two_more k);
      begins = refl;
      added = ok;
    }

-- the lines that are left, which count from the number behind the part
pub left_parts : (draft new : Draft) (n k : ℕ) (first : Bor (List ℕ)) (rest below : List (Bor (List ℕ)))
    (e : rest ≡ first ∷ below) (takes : TakesPart n draft new (first.now ∷ map bytes_of below) k)
    → parts_from n (map bytes_of rest) ≡ takes.part ∷ parts_from (n + k) (map bytes_of (drop k rest))
left_parts draft new n k first rest below e takes =
    ap (λ xs. parts_from n (map bytes_of xs)) e
    ∙ takes.first
    ∙ ap (λ xs. takes.part ∷ parts_from (n + k) (drop k (map bytes_of xs))) (sym e)
    ∙ ap (λ xs. takes.part ∷ parts_from (n + k) xs) (drop-map bytes_of k rest)

-- the lines that are left make of the new draft what all of them made of the old one
pub next_part : (draft new : Draft) (n k : ℕ) (first : Bor (List ℕ)) (rest below : List (Bor (List ℕ)))
    (whole : Result Draft ScenFault) → rest ≡ first ∷ below → TakesPart n draft new (first.now ∷ map bytes_of below) k
    → parts_added draft (parts_from n (map bytes_of rest)) ≡ whole
    → parts_added new (parts_from (n + k) (map bytes_of (drop k rest))) ≡ whole
next_part draft new n k first rest below whole e takes kept =
    sym (part-more draft new takes.part _ _ (left_parts draft new n k first rest below e takes) takes.added) ∙ kept

-- a part that is refused is what all lines make
pub stopping_part : (e : ScenRefusal) (draft : Draft) (n : ℕ) (first : Bor (List ℕ)) (rest below : List (Bor (List ℕ)))
    (whole : Result Draft ScenFault) → rest ≡ first ∷ below → StopsAtPart n draft (first.now ∷ map bytes_of below) e
    → parts_added draft (parts_from n (map bytes_of rest)) ≡ whole → Stops e whole
stopping_part e draft n first rest below whole is stops kept =
    stops_whole e (part_added draft stops.part) whole stops.stops
    (λ fault at. sym kept
    ∙ part-stop draft stops.part stops.others _ fault
    (ap (λ xs. parts_from n (map bytes_of xs)) is ∙ stops.first) at)

-- no line is left
pub no_part : (draft : Draft) (n : ℕ) (rest : List (Bor (List ℕ))) (whole : Result Draft ScenFault) → length rest ≡ 0
    → parts_added draft (parts_from n (map bytes_of rest)) ≡ whole → whole ≡ Ok draft
unfolding parts_added parts_from
no_part draft n [] whole none kept = sym kept
no_part draft n (first ∷ below) whole none kept = absurd (omega arith)
