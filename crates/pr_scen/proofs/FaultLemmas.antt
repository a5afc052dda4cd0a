-- The first part of a text that is refused.
use Rattle.std.proofs.Common.{◌≡◌, ℕ, Option, Some, None, List, [], ◌∷◌, ◌++◌, Result, Ok, Err, refl, sym, ◌∙◌, ap, inl, inr}
use Rattle.pr_text.specs.Steps.{◌>>=◌}
use Rattle.pr_scen.specs.Blocks.{part_added, parts_added}
use Rattle.pr_scen.specs.Division.{StopsAt, IsFirstFault}
use Rattle.pr_scen.specs.Drafts.{nothing}
use Rattle.pr_scen.specs.Parts.{Part, parts_of}
use Rattle.pr_scen.specs.Reading.{draft_in, finished, scenario_in}
use Rattle.pr_scen.specs.declared.drafts.Draft.{Draft}
use Rattle.pr_scen.specs.Refusals.{ScenFault}

-- a part is refused, or one below it is
here : (d : Draft) (part : Part) (parts : List Part) (fault : ScenFault) → part_added d part ≡ Err fault
    → StopsAt d (part ∷ parts) fault
unfolding parts_added
here d part parts fault refused =
    record { above = []; this = part; below = parts; read = d; whole = refl; accepted = refl; refused = refused }

lower : (d e : Draft) (part : Part) (parts : List Part) (fault : ScenFault) → part_added d part ≡ Ok e
    → StopsAt e parts fault → StopsAt d (part ∷ parts) fault
unfolding parts_added
lower d e part parts fault added s = record {
  above = part ∷ s.above;
  this = s.this;
  below = s.below;
  read = s.read;
  whole = ap (λ ps. part ∷ ps) s.whole;
  accepted = ap (λ r. r >>= (λ m. parts_added m s.above)) added ∙ s.accepted;
  refused = s.refused;
}

by_part : (d : Draft) (part : Part) (parts : List Part) (fault : ScenFault) (r : Result Draft ScenFault)
    → part_added d part ≡ r → ((e : Draft) → parts_added e parts ≡ Err fault → StopsAt e parts fault)
    → r >>= (λ m. parts_added m parts) ≡ Err fault → StopsAt d (part ∷ parts) fault
by_part d part parts fault (Ok e) is on h = lower d e part parts fault is (on e h)
by_part d part parts fault (Err f) is on h = here d part parts fault (is ∙ h)

stops_at : (parts : List Part) (d : Draft) (fault : ScenFault) → parts_added d parts ≡ Err fault → StopsAt d parts fault
unfolding parts_added
stops_at [] d fault h = cc
stops_at (part ∷ parts) d fault h =
    by_part d part parts fault (part_added d part) refl (λ e more. stops_at parts e fault more) h

-- parts that are accepted lead to those below
leads : (above below : List Part) (d e : Draft) → parts_added d above ≡ Ok e
    → parts_added d (above ++ below) ≡ parts_added e below
unfolding parts_added
leads [] below d e accepted = let same : d ≡ e = cc in ap (λ m. parts_added m below) same
leads (part ∷ above) below d e accepted = by (part_added d part) (λ m more. leads above below m e more) accepted
  where
    by : (r : Result Draft ScenFault)
        → ((m : Draft) → parts_added m above ≡ Ok e → parts_added m (above ++ below) ≡ parts_added e below)
        → r >>= (λ m. parts_added m above) ≡ Ok e → r >>= (λ m. parts_added m (above ++ below)) ≡ parts_added e below
    by (Ok m) on h = on m h
    by (Err f) on h = cc

stopped : (parts : List Part) (d : Draft) (fault : ScenFault) → StopsAt d parts fault → parts_added d parts ≡ Err fault
unfolding parts_added
stopped parts d fault s =
    ap (parts_added d) s.whole ∙ leads s.above (s.this ∷ s.below) d s.read s.accepted
    ∙ ap (λ r. r >>= (λ m. parts_added m s.below)) s.refused

-- ---- the whole

first_by : (lines : List (List ℕ)) (fault : ScenFault) (r : Result Draft ScenFault)
    → parts_added nothing (parts_of lines) ≡ r → r >>= finished ≡ Err fault → IsFirstFault lines fault
first_by lines fault (Ok d) added h = cc
first_by lines fault (Err f) added h =
    let same : f ≡ fault = cc in stops_at (parts_of lines) nothing fault (added ∙ ap Err same)

pub first_fault : (lines : List (List ℕ)) (fault : ScenFault) → scenario_in lines ≡ Err fault → IsFirstFault lines fault
unfolding scenario_in draft_in
first_fault lines fault h = first_by lines fault (parts_added nothing (parts_of lines)) refl h

pub is_first : (lines : List (List ℕ)) (fault : ScenFault) → IsFirstFault lines fault → scenario_in lines ≡ Err fault
unfolding scenario_in draft_in
is_first lines fault s = ap (λ r. r >>= finished) (stopped (parts_of lines) nothing fault s)
