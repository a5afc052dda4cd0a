-- Lines and the parts that they are divided into.
use Rattle.std.proofs.Common.{◌≡◌, ℕ, ◌+◌, Bool, true, false, cond, Option, Some, None, List, [], ◌∷◌, ◌++◌, length, Result, Ok, Err, refl, sym, ◌∙◌, ap, subst, arith}
use Rattle.std.specs.List.{AllByRecursion, flat_map}
use Rattle.std.proofs.lemmas.List.{append_assoc, append-nil, length-append}
use Rattle.pr_text.specs.Steps.{◌>>=◌}
use Rattle.pr_scen.proofs.PartLemmas.{part-line}
use Rattle.pr_scen.specs.Blocks.{begun, numbered, part_added, parts_added}
use Rattle.pr_scen.specs.Division.{lines_in, ArePartsFrom, EncodeScenario}
use Rattle.pr_scen.specs.Drafts.{nothing}
use Rattle.pr_scen.specs.Lines.{is_end}
use Rattle.pr_scen.specs.Parts.{Part, line, block, endless, begins_block, parts_from, block_from, parts_of}
use Rattle.pr_scen.specs.Reading.{draft_in, finished, scenario_in}
use Rattle.pr_scen.specs.Scenarios.{Scenario}
use Rattle.pr_scen.specs.declared.drafts.Draft.{Draft}
use Rattle.pr_scen.specs.declared.items.Item.{Item}
use Rattle.pr_scen.specs.Refusals.{ScenFault}
use Rattle.pr_scen.specs.declared.refusals.ScenKind.{ScenKind}
use Rattle.pr_scen.specs.declared.refusals.ScenKind.TheVariants.{NoEnd}

-- ---- the parts of lines

-- no part lacks its end
abbrev AreWhole : List Part → Type 0
AreWhole [] = Unit {0}
AreWhole (line n this ∷ parts) = AreWhole parts
AreWhole (block n first body last ∷ parts) = AreWhole parts
AreWhole (endless n first ∷ parts) = ⊥

-- these lines are those of the parts, which count from n
record Divides (n : ℕ) (lines : List (List ℕ)) (parts : List Part) : Type 0 where
  inside : ArePartsFrom n parts
  whole : lines ≡ flat_map lines_in parts

abbrev IsInside : List ℕ → Type 0
IsInside this = is_end this ≡ false

abbrev on_line : ℕ → List ℕ → List (List ℕ) → Bool → List Part
on_line n this below b = cond b (block_from n this [] below) (line n this ∷ parts_from (n + 1) below)

abbrev on_inner : ℕ → List ℕ → List (List ℕ) → List ℕ → List (List ℕ) → Bool → List Part
on_inner n first body this below b =
    cond b (block n first body this ∷ parts_from (n + (length body + 2)) below)
    (block_from n first (body ++ this ∷ []) below)

all_more : (body : List (List ℕ)) (this : List ℕ) → AllByRecursion IsInside body → IsInside this
    → AllByRecursion IsInside (body ++ this ∷ [])
all_more [] this all here = (here, tt)
all_more (b ∷ body) this all here = (all.0, all_more body this all.1 here)

divides_line : (n : ℕ) (this : List ℕ) (below : List (List ℕ)) → begins_block this ≡ false
    → Divides (n + 1) below (parts_from (n + 1) below)
    → Divides n (this ∷ below) (line n this ∷ parts_from (n + 1) below)
unfolding ArePartsFrom
divides_line n this below outside d =
    record { inside = ((refl, outside), d.inside); whole = ap (λ ls. this ∷ ls) d.whole }

divides_block : (n : ℕ) (first : List ℕ) (body : List (List ℕ)) (this : List ℕ) (below : List (List ℕ))
    → begins_block first ≡ true → AllByRecursion IsInside body → is_end this ≡ true
    → Divides (n + (length body + 2)) below (parts_from (n + (length body + 2)) below)
    → Divides n (first ∷ (body ++ this ∷ below)) (block n first body this ∷ parts_from (n + (length body + 2)) below)
unfolding ArePartsFrom
divides_block n first body this below begins all ends d =
    let size : n + (length body + 2) ≡ n + length (first ∷ (body ++ this ∷ [])) =
    omega (arith, length-append body (this ∷ [])) in
    record {
      inside = (
        (refl, begins, all, ends),
        subst (λ m. ArePartsFrom m (parts_from (n + (length body + 2)) below)) size d.inside,
      );
      whole = ap (λ ls. first ∷ (body ++ this ∷ ls)) d.whole
          ∙ ap (λ ls. first ∷ ls)
          (sym (append_assoc body (this ∷ []) (flat_map lines_in (parts_from (n + (length body + 2)) below))));
    }

by_line : (n : ℕ) (this : List ℕ) (below : List (List ℕ)) (b : Bool) → begins_block this ≡ b
    → (begins_block this ≡ true → AreWhole (block_from n this [] below)
    → Divides n (this ∷ below) (block_from n this [] below))
    → (AreWhole (parts_from (n + 1) below) → Divides (n + 1) below (parts_from (n + 1) below))
    → AreWhole (on_line n this below b) → Divides n (this ∷ below) (on_line n this below b)
by_line n this below true e inner outer w = inner e w
by_line n this below false e inner outer w = divides_line n this below e (outer w)

by_inner : (n : ℕ) (first : List ℕ) (body : List (List ℕ)) (this : List ℕ) (below : List (List ℕ)) (b : Bool)
    → is_end this ≡ b → begins_block first ≡ true → AllByRecursion IsInside body
    → (AreWhole (parts_from (n + (length body + 2)) below)
    → Divides (n + (length body + 2)) below (parts_from (n + (length body + 2)) below))
    → (AllByRecursion IsInside (body ++ this ∷ []) → AreWhole (block_from n first (body ++ this ∷ []) below)
    → Divides n (first ∷ ((body ++ this ∷ []) ++ below)) (block_from n first (body ++ this ∷ []) below))
    → AreWhole (on_inner n first body this below b)
    → Divides n (first ∷ (body ++ this ∷ below)) (on_inner n first body this below b)
by_inner n first body this below true e begins all outer inner w =
    divides_block n first body this below begins all e (outer w)
by_inner n first body this below false e begins all outer inner w =
    let d = inner (all_more body this all e) w in
    record { inside = d.inside; whole = ap (λ ls. first ∷ ls) (sym (append_assoc body (this ∷ []) below)) ∙ d.whole }

mutual
  unfolding parts_from block_from ArePartsFrom

  divided : (n : ℕ) (lines : List (List ℕ)) → AreWhole (parts_from n lines) → Divides n lines (parts_from n lines)
  divided n [] w = record { inside = tt; whole = refl }
  divided n (this ∷ below) w =
      by_line n this below (begins_block this) refl (λ begins inner. divided_block n this [] below begins tt inner)
      (λ outer. divided (n + 1) below outer) w

  divided_block : (n : ℕ) (first : List ℕ) (body below : List (List ℕ)) → begins_block first ≡ true
      → AllByRecursion IsInside body → AreWhole (block_from n first body below)
      → Divides n (first ∷ (body ++ below)) (block_from n first body below)
  divided_block n first body [] begins all w = absurd w
  divided_block n first body (this ∷ below) begins all w =
      by_inner n first body this below (is_end this) refl begins all
      (λ outer. divided (n + (length body + 2)) below outer)
      (λ more inner. divided_block n first (body ++ this ∷ []) below begins more inner) w

-- ---- the lines of parts

block_over : (n : ℕ) (first : List ℕ) (done body : List (List ℕ)) (last : List ℕ) (rest : List (List ℕ))
    → AllByRecursion IsInside body → is_end last ≡ true
    → block_from n first done ((body ++ last ∷ []) ++ rest)
    ≡ block n first (done ++ body) last ∷ parts_from (n + (length (done ++ body) + 2)) rest
unfolding block_from
block_over n first done [] last rest all ends =
    ap (on_inner n first done last rest) ends
    ∙ ap (λ b. block n first b last ∷ parts_from (n + (length b + 2)) rest) (sym (append-nil done))
block_over n first done (this ∷ body) last rest all ends =
    ap (on_inner n first done this ((body ++ last ∷ []) ++ rest)) all.0
    ∙ block_over n first (done ++ this ∷ []) body last rest all.1 ends
    ∙ ap (λ b. block n first b last ∷ parts_from (n + (length b + 2)) rest) (append_assoc done (this ∷ []) body)

part_block : (n : ℕ) (first : List ℕ) (body : List (List ℕ)) (last : List ℕ) (rest : List (List ℕ))
    → begins_block first ≡ true → AllByRecursion IsInside body → is_end last ≡ true
    → parts_from n (lines_in (block n first body last) ++ rest)
    ≡ block n first body last ∷ parts_from (n + length (lines_in (block n first body last))) rest
unfolding parts_from
part_block n first body last rest begins all ends =
    ap (on_line n first ((body ++ last ∷ []) ++ rest)) begins
    ∙ block_over n first [] body last rest all ends
    ∙ ap (λ m. block n first body last ∷ parts_from m rest) (omega (arith, length-append body (last ∷ [])))

no_parts : (n : ℕ) → parts_from n [] ≡ []
unfolding parts_from
no_parts n = refl

pub joined : (n : ℕ) (parts : List Part) → ArePartsFrom n parts → parts_from n (flat_map lines_in parts) ≡ parts
unfolding ArePartsFrom
joined n [] are = no_parts n
joined n (line m this ∷ parts) are =
    part-line n this (flat_map lines_in parts) are.0.1 ∙ ap (λ ps. line n this ∷ ps) (joined (n + 1) parts are.1)
    ∙ ap (λ k. line k this ∷ parts) (sym are.0.0)
joined n (block m first body last ∷ parts) are =
    part_block n first body last (flat_map lines_in parts) are.0.1 are.0.2 are.0.3
    ∙ ap (λ ps. block n first body last ∷ ps) (joined (n + length (lines_in (block m first body last))) parts are.1)
    ∙ ap (λ k. block k first body last ∷ parts) (sym are.0.0)
joined n (endless m first ∷ parts) are = absurd are.0

-- ---- what parts make

-- parts that are accepted are whole
endless_no : (n : ℕ) (r : Result Item ScenKind) (e : Draft) → numbered n (r >>= (λ _. Err NoEnd)) ≡ Ok e → ⊥
endless_no n (Ok i) e h = cc
endless_no n (Err k) e h = cc

whole_of : (part : Part) (parts : List Part) (d e : Draft) → part_added d part ≡ Ok e → AreWhole parts
    → AreWhole (part ∷ parts)
unfolding part_added
whole_of (line n this) parts d e h w = w
whole_of (block n first body last) parts d e h w = w
whole_of (endless n first) parts d e h w = endless_no n (begun d first) e h

after_part : (part : Part) (parts : List Part) (d e : Draft) (r : Result Draft ScenFault) → part_added d part ≡ r
    → ((m : Draft) → parts_added m parts ≡ Ok e → AreWhole parts) → r >>= (λ m. parts_added m parts) ≡ Ok e
    → AreWhole (part ∷ parts)
after_part part parts d e (Ok m) is on h = whole_of part parts d m is (on m h)
after_part part parts d e (Err f) is on h = cc

accepted_whole : (parts : List Part) (d e : Draft) → parts_added d parts ≡ Ok e → AreWhole parts
unfolding parts_added
accepted_whole [] d e h = tt
accepted_whole (part ∷ parts) d e h =
    after_part part parts d e (part_added d part) refl (λ m more. accepted_whole parts m e more) h

-- ---- scenarios

end_of_parts : (lines : List (List ℕ)) (s : Scenario) (r : Result Draft ScenFault)
    → parts_added nothing (parts_of lines) ≡ r → r >>= finished ≡ Ok s → EncodeScenario lines s
end_of_parts lines s (Ok d) added made_it =
    let parts = divided 1 lines (accepted_whole (parts_of lines) nothing d added) in
    record {
      parts = parts_of lines;
      read = d;
      divided = parts.inside;
      whole = parts.whole;
      accepted = added;
      makes =
          cc;
    }
end_of_parts lines s (Err f) added h = cc

pub what_is_read : (lines : List (List ℕ)) (s : Scenario) → scenario_in lines ≡ Ok s → EncodeScenario lines s
unfolding scenario_in draft_in
what_is_read lines s h = end_of_parts lines s (parts_added nothing (parts_of lines)) refl h

pub is_read : (lines : List (List ℕ)) (s : Scenario) → EncodeScenario lines s → scenario_in lines ≡ Ok s
unfolding scenario_in draft_in
is_read lines s e =
    ap (λ ps. parts_added nothing ps >>= finished) (ap (parts_from 1) e.whole ∙ joined 1 e.parts e.divided)
    ∙ ap (λ r. r >>= finished) e.accepted
    ∙ ap Ok (sym e.makes)
