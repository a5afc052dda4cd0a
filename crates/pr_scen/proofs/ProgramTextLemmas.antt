-- The parts of a text of programs alone, and what they make.
use Rattle.std.proofs.Common.{◌≡◌, ℕ, ◌+◌, Bool, true, false, Option, Some, None, List, [], ◌∷◌, length, take, drop, get_or, map, Bor, Result, Ok, Err, refl, sym, ◌∙◌, ap, arith}
use Rattle.std.specs.List.{position_from}
use Rattle.pr_text.specs.Steps.{◌>>=◌}
use Rattle.pr_scen.specs.Blocks.{numbered, part_added}
use Rattle.pr_scen.specs.Lines.{is_end}
use Rattle.pr_scen.specs.Parts.{Part, line, block, endless, begins_block, first_line_of, parts_from}
use Rattle.pr_scen.specs.ProgramTexts.{admitted, part_admitted, program_parts_added}
use Rattle.pr_text.specs.Reads.{Stops}
use Rattle.pr_scen.specs.Taken.{StopsAtPart, TakesPart}
use Rattle.pr_scen.specs.declared.drafts.Draft.{Draft}
use Rattle.pr_scen.specs.Refusals.{ScenFault, ScenRefusal}
use Rattle.pr_scen.proofs.LineLemmas.{bytes_of}
use Rattle.pr_scen.proofs.PartLemmas.{left_parts, part-block, part-endless, part-line, stops_whole}

-- a part that begins as it may is what its first line says
admits : (part : Part) (n : ℕ) (first : List ℕ) (r : Result (Unit {0}) ScenFault) → first_line_of part ≡ (n, first)
    → numbered n (admitted first) ≡ r → part_admitted part ≡ r
admits part n first r begins is = ap (λ (l : ℕ × List ℕ). numbered l.0 (admitted l.1)) begins ∙ is

-- what follows a part that is admitted and accepted, or refused
part-next : (d : Draft) (part : Part) (parts all : List Part) (r : Result Draft ScenFault) → all ≡ part ∷ parts
    → part_admitted part ≡ Ok tt → part_added d part ≡ r
    → program_parts_added d all ≡ r >>= (λ e. program_parts_added e parts)
unfolding program_parts_added
part-next d part parts all r is may added =
    ap (program_parts_added d) is
    ∙ ap (λ a. a >>= (λ _. part_added d part >>= (λ e. program_parts_added e parts))) may
    ∙ ap (λ a. a >>= (λ e. program_parts_added e parts)) added

-- the lines that are left make of the new draft what all of them made of the old one
pub next_program_part : (draft new : Draft) (n k : ℕ) (first : Bor (List ℕ)) (rest below : List (Bor (List ℕ)))
    (whole : Result Draft ScenFault) → rest ≡ first ∷ below → Ok tt ≡ numbered n (admitted first.now)
    → TakesPart n draft new (first.now ∷ map bytes_of below) k
    → program_parts_added draft (parts_from n (map bytes_of rest)) ≡ whole
    → program_parts_added new (parts_from (n + k) (map bytes_of (drop k rest))) ≡ whole
next_program_part draft new n k first rest below whole e may takes kept =
    sym (part-next draft takes.part _ _ (Ok new) (left_parts draft new n k first rest below e takes)
    (admits takes.part n first.now (Ok tt) takes.begins (sym may)) takes.added) ∙ kept

-- a part that is refused is what all lines make
pub stopping_program_part : (e : ScenRefusal) (draft : Draft) (n : ℕ) (first : Bor (List ℕ))
    (rest below : List (Bor (List ℕ))) (whole : Result Draft ScenFault) → rest ≡ first ∷ below
    → Ok tt ≡ numbered n (admitted first.now) → StopsAtPart n draft (first.now ∷ map bytes_of below) e
    → program_parts_added draft (parts_from n (map bytes_of rest)) ≡ whole → Stops e whole
stopping_program_part e draft n first rest below whole is may stops kept =
    stops_whole e (part_added draft stops.part) whole stops.stops
    (λ fault at. sym kept
    ∙ part-next draft stops.part stops.others _ (Err fault)
    (ap (λ xs. parts_from n (map bytes_of xs)) is ∙ stops.first)
    (admits stops.part n first.now (Ok tt) stops.begins (sym may)) at)

-- ---- the first part of lines begins with the first of them, whatever it is

record FirstPart (n : ℕ) (this : List ℕ) (below : List (List ℕ)) : Type 0 where
  part : Part
  others : List Part
  first : parts_from n (this ∷ below) ≡ part ∷ others
  begins : first_line_of part ≡ (n, this)

first_part : (n : ℕ) (this : List ℕ) (below : List (List ℕ)) → FirstPart n this below
first_part n this below = by (begins_block this) refl (position_from is_end 0 below) refl
  where
    by : (b : Bool) → begins_block this ≡ b → (o : Option ℕ) → position_from is_end 0 below ≡ o → FirstPart n this below
    by false outside o at =
        record {
          part = line n this;
          others = parts_from (n + 1) below;
          first = part-line n this below outside;
          begins =
              refl;
        }
    by true begins None at =
        record { part = endless n this; others = []; first = part-endless n this below begins at; begins = refl }
    by true begins (Some k) at = record {
      part = block n this (take k below) (get_or below k []);
      others = parts_from (n + (k + 2)) (drop (k + 1) below);
      first = part-block n k this (get_or below k []) below begins at refl;
      begins = refl;
    }

-- a line that may not stand is what all lines make
pub refused_line : (fault : ScenFault) (draft : Draft) (n : ℕ) (first : Bor (List ℕ)) (rest below : List (Bor (List ℕ)))
    (whole : Result Draft ScenFault) → rest ≡ first ∷ below → Err fault ≡ numbered n (admitted first.now)
    → program_parts_added draft (parts_from n (map bytes_of rest)) ≡ whole → whole ≡ Err fault
unfolding program_parts_added
refused_line fault draft n first rest below whole is refused kept =
    let one = first_part n first.now (map bytes_of below) in
    sym kept
    ∙ ap (λ xs. program_parts_added draft (parts_from n (map bytes_of xs))) is
    ∙ ap (program_parts_added draft) one.first
    ∙ ap (λ a. a >>= (λ _. part_added draft one.part >>= (λ e. program_parts_added e one.others)))
    (admits one.part n first.now (Err fault) one.begins (sym refused))

-- no line is left
pub no_program_part : (draft : Draft) (n : ℕ) (rest : List (Bor (List ℕ))) (whole : Result Draft ScenFault)
    → length rest ≡ 0 → program_parts_added draft (parts_from n (map bytes_of rest)) ≡ whole → whole ≡ Ok draft
unfolding program_parts_added parts_from
no_program_part draft n [] whole none kept = sym kept
no_program_part draft n (first ∷ below) whole none kept = absurd (omega arith)
