-- The least line of a block that is refused.
use Rattle.std.proofs.Common.{◌≡◌, ℕ, ◌+◌, ◌≤◌, ◌⊎◌, cond, Option, List, [], ◌∷◌, ◌++◌, length, map, Result, Ok, Err, refl, sym, ◌∙◌, ap, arith, inl, inr}
use Rattle.std.proofs.lemmas.Bool.{le-leb, lt-leb}
use Rattle.pr_num.specs.Programs.{Program}
use Rattle.pr_asm.specs.Assembly as asm
use Rattle.pr_asm.specs.Assembly.{with_lines, read_added, assembled}
use Rattle.pr_asm.specs.Limits.{program}
use Rattle.pr_asm.specs.Placing.{place_in}
use Rattle.pr_asm.specs.Statements.{statement_of}
use Rattle.pr_asm.specs.declared.places.Place.{Place}
use Rattle.pr_asm.specs.Refusals.{AsmFault}
use Rattle.pr_asm.specs.declared.refusals.AsmKind.{AsmKind}
use Rattle.pr_asm.specs.declared.statements.Statement.{Statement}
use Rattle.pr_text.specs.Steps.{◌>>=◌, folded}
use Rattle.pr_scen.specs.BlockFaults.{with_kind, program_line, StopsBelow, StopsInProgram, StopsInScript, StopsAtEnd, MakeProgram, MakeScript, StopsProgram, StopsScript, IsLeastInBlock}
use Rattle.pr_scen.specs.Blocks.{numbered, begun, ended, kind_of, all_readable, first_of_both, program_read, program_added, script_words_added, script_line_read, script_added, block_added, part_added}
use Rattle.pr_scen.specs.Drafts.{with_program, with_script}
use Rattle.pr_scen.specs.Lines.{readable}
use Rattle.pr_scen.specs.Parts.{block}
use Rattle.pr_scen.specs.declared.drafts.Draft.{Draft}
use Rattle.pr_scen.specs.declared.items.Item.{Item}
use Rattle.pr_scen.specs.declared.items.Item.TheVariants as item
use Rattle.pr_scen.specs.Refusals.{ScenFault}
use Rattle.pr_scen.specs.declared.refusals.ScenKind.{ScenKind}

abbrev fault_at : ℕ → ScenKind → ScenFault
fault_at n k = record { line = n; kind = k }

-- ---- no line above the first of some is refused

readable_from : (lines : List (List ℕ)) (n : ℕ) (f : ScenFault) → all_readable n lines ≡ Err f → n ≤ f.line
unfolding all_readable
readable_from [] n f h = cc
readable_from (this ∷ below) n f h = at (readable this) (λ more. readable_from below (n + 1) f more) h
  where
    at : (r : Result (Unit {0}) ScenKind) → (all_readable (n + 1) below ≡ Err f → n + 1 ≤ f.line)
        → numbered n r >>= (λ _. all_readable (n + 1) below) ≡ Err f → n ≤ f.line
    at (Ok u) on h = let next = on h in omega arith
    at (Err k) on h = let same : fault_at n k ≡ f = cc in omega (arith, ap (λ g. g.line) same)

module _ (place_of : List ℕ → Option Place) where
  lines_from : (reads : List (Result Statement AsmKind)) (n : ℕ) (p : Program) (f : AsmFault)
      → with_lines place_of n p reads ≡ Err f → n ≤ f.line
  unfolding folded
  lines_from [] n p f h = cc
  lines_from (read ∷ reads) n p f h = at (read_added place_of n p read) (λ q more. lines_from reads (n + 1) q f more) h
    where
      at : (s : Result Program AsmKind) → ((q : Program) → with_lines place_of (n + 1) q reads ≡ Err f → n + 1 ≤ f.line)
          → asm.numbered n s >>= (λ q. with_lines place_of (n + 1) q reads) ≡ Err f → n ≤ f.line
      at (Ok q) on h = let next = on q h in omega arith
      at (Err k) on h = let same : record { line = n; kind = k } ≡ f = cc in omega (arith, ap (λ g. g.line) same)

  -- ---- lines of programs

  abbrev both : ℕ → Program → List (List ℕ) → Result Program ScenFault
  both n p lines = first_of_both (all_readable n lines) (with_lines place_of n p (map statement_of lines))

  -- the same, by what was read of the first line and what that makes
  abbrev after : ℕ → List (List ℕ) → Result (Unit {0}) ScenKind → Result Program AsmKind → Result Program ScenFault
  after n below r s =
      first_of_both (numbered n r >>= (λ _. all_readable (n + 1) below))
      (asm.numbered n s >>= (λ q. with_lines place_of (n + 1) q (map statement_of below)))

  -- the first line is refused, whatever stands below it
  unreadable_first : (n : ℕ) (k : ScenKind) (w : Result Program AsmFault) → ((f : AsmFault) → w ≡ Err f → n ≤ f.line)
      → first_of_both (Err (fault_at n k)) w ≡ Err (fault_at n k)
  unreadable_first n k (Ok p) from = refl
  unreadable_first n k (Err f) from =
      ap (λ b. cond b (Err (fault_at n k)) (Err (fault_at f.line (kind_of f.kind)))) (le-leb n f.line (from f refl))

  refused_first : (n : ℕ) (a : AsmKind) (u : Result (Unit {0}) ScenFault)
      → ((f : ScenFault) → u ≡ Err f → n + 1 ≤ f.line)
      → first_of_both u (Err (record { line = n; kind = a })) ≡ Err (fault_at n (kind_of a))
  refused_first n a (Ok t) from = refl
  refused_first n a (Err f) from =
      let next = from f refl in
      ap (λ b. cond b (Err f) (Err (fault_at n (kind_of a)))) (lt-leb f.line n (omega arith))

  first_refused : (n : ℕ) (below : List (List ℕ)) (k : ScenKind) (r : Result (Unit {0}) ScenKind)
      (s : Result Program AsmKind)
      → ((f : AsmFault) → asm.numbered n s >>= (λ q. with_lines place_of (n + 1) q (map statement_of below)) ≡ Err f
      → n ≤ f.line) → r >>= (λ _. with_kind s) ≡ Err k → after n below r s ≡ Err (fault_at n k)
  first_refused n below k (Err j) s from h =
      let same : j ≡ k = cc in unreadable_first n j _ from ∙ ap (λ i. Err (fault_at n i)) same
  first_refused n below k (Ok u) (Err a) from h =
      let same : kind_of a ≡ k = cc in
      refused_first n a (all_readable (n + 1) below) (λ f e. readable_from below (n + 1) f e)
      ∙ ap (λ i. Err (fault_at n i)) same
  first_refused n below k (Ok u) (Ok q) from h = cc

  head_refused : (n : ℕ) (p : Program) (this : List ℕ) (below : List (List ℕ)) (k : ScenKind)
      → program_line place_of n p this ≡ Err k → both n p (this ∷ below) ≡ Err (fault_at n k)
  unfolding all_readable folded
  head_refused n p this below k h =
      first_refused n below k (readable this) (read_added place_of n p (statement_of this))
      (λ f e. lines_from (map statement_of (this ∷ below)) n p f e) h

  -- where all is refused, a line is the least
  at_head : (n : ℕ) (p : Program) (this : List ℕ) (below : List (List ℕ)) (k : ScenKind) (fault : ScenFault)
      → program_line place_of n p this ≡ Err k → fault_at n k ≡ fault → StopsBelow place_of n p (this ∷ below) fault
  unfolding all_readable folded
  at_head n p this below k fault h same =
      let here : n + length {A = List ℕ} [] ≡ n = omega arith in
      record {
        above = [];
        this = this;
        below = below;
        made = p;
        whole = refl;
        readable_above = refl;
        accepted = refl;
        at = sym (ap (λ f. f.line) same) ∙ sym here;
        refused = ap (λ m. program_line place_of m p this) here ∙ h ∙ ap (λ f. Err f.kind) same;
      }

  lower : (n : ℕ) (p q : Program) (this : List ℕ) (below : List (List ℕ)) (fault : ScenFault) → readable this ≡ Ok tt
      → read_added place_of n p (statement_of this) ≡ Ok q → StopsBelow place_of (n + 1) q below fault
      → StopsBelow place_of n p (this ∷ below) fault
  unfolding all_readable folded
  lower n p q this below fault is_read is_added s =
      let size : n + length (this ∷ s.above) ≡ n + 1 + length s.above = omega arith in
      record {
        above = this ∷ s.above;
        this = s.this;
        below = s.below;
        made = s.made;
        whole = ap (λ ls. this ∷ ls) s.whole;
        readable_above = ap (λ r. numbered n r >>= (λ _. all_readable (n + 1) s.above)) is_read ∙ s.readable_above;
        accepted =
            ap (λ r. asm.numbered n r >>= (λ m. with_lines place_of (n + 1) m (map statement_of s.above))) is_added
            ∙ s.accepted;
        at = s.at ∙ sym size;
        refused = ap (λ m. program_line place_of m s.made s.this) size ∙ s.refused;
      }

  with_read : (n : ℕ) (p : Program) (this : List ℕ) (below : List (List ℕ)) (r : Result (Unit {0}) ScenKind)
      (s : Result Program AsmKind) → readable this ≡ r → read_added place_of n p (statement_of this) ≡ s
      → both n p (this ∷ below) ≡ after n below r s
  unfolding all_readable folded
  with_read n p this below r s is_read is_added =
      ap (λ q. after n below q (read_added place_of n p (statement_of this))) is_read ∙ ap (after n below r) is_added

  by_head : (n : ℕ) (p : Program) (this : List ℕ) (below : List (List ℕ)) (fault : ScenFault)
      (r : Result (Unit {0}) ScenKind) (s : Result Program AsmKind) → readable this ≡ r
      → read_added place_of n p (statement_of this) ≡ s
      → ((q : Program) → both (n + 1) q below ≡ Err fault → StopsBelow place_of (n + 1) q below fault)
      → after n below r s ≡ Err fault → StopsBelow place_of n p (this ∷ below) fault
  by_head n p this below fault (Ok u) (Ok q) is_read is_added on h =
      lower n p q this below fault is_read is_added (on q h)
  by_head n p this below fault (Ok u) (Err a) is_read is_added on h =
      let line : program_line place_of n p this ≡ Err (kind_of a) =
      ap (λ r. r >>= (λ _. with_kind (read_added place_of n p (statement_of this)))) is_read
      ∙ ap with_kind is_added in
      let same : fault_at n (kind_of a) ≡ fault = let all =
      sym (refused_first n a (all_readable (n + 1) below) (λ f e. readable_from below (n + 1) f e)) ∙ h in cc in
      at_head n p this below (kind_of a) fault line same
  by_head n p this below fault (Err k) s is_read is_added on h =
      let line : program_line place_of n p this ≡ Err k =
      ap (λ r. r >>= (λ _. with_kind (read_added place_of n p (statement_of this)))) is_read in
      let all = sym (head_refused n p this below k line) ∙ with_read n p this below (Err k) s is_read is_added ∙ h in
      let same : fault_at n k ≡ fault = cc in
      at_head n p this below k fault line same

  least_below : (lines : List (List ℕ)) (n : ℕ) (p : Program) (fault : ScenFault) → both n p lines ≡ Err fault
      → StopsBelow place_of n p lines fault
  unfolding all_readable folded
  least_below [] n p fault h = cc
  least_below (this ∷ below) n p fault h =
      by_head n p this below fault (readable this) (read_added place_of n p (statement_of this)) refl refl
      (λ q more. least_below below (n + 1) q fault more) h

  -- where a line is the least, all is refused
  by_ok : (n : ℕ) (p made : Program) (above rest : List (List ℕ)) (fault : ScenFault) (r : Result (Unit {0}) ScenKind)
      (s : Result Program AsmKind)
      → ((q : Program) → all_readable (n + 1) above ≡ Ok tt
      → with_lines place_of (n + 1) q (map statement_of above) ≡ Ok made → both (n + 1) q rest ≡ Err fault)
      → numbered n r >>= (λ _. all_readable (n + 1) above) ≡ Ok tt
      → asm.numbered n s >>= (λ q. with_lines place_of (n + 1) q (map statement_of above)) ≡ Ok made
      → after n rest r s ≡ Err fault
  by_ok n p made above rest fault (Ok u) (Ok q) on reads makes = on q reads makes
  by_ok n p made above rest fault (Ok u) (Err a) on reads makes = cc
  by_ok n p made above rest fault (Err k) s on reads makes = cc

  is_least_below : (above : List (List ℕ)) (this : List ℕ) (below : List (List ℕ)) (n : ℕ) (p made : Program)
      (fault : ScenFault) → all_readable n above ≡ Ok tt → with_lines place_of n p (map statement_of above) ≡ Ok made
      → fault.line ≡ n + length above → program_line place_of (n + length above) made this ≡ Err fault.kind
      → both n p (above ++ this ∷ below) ≡ Err fault
  unfolding all_readable folded
  is_least_below [] this below n p made fault reads makes at refused =
      let here : n + length {A = List ℕ} [] ≡ n = omega arith in
      let same : p ≡ made = cc in
      head_refused n p this below fault.kind
      (ap (λ q. program_line place_of n q this) same ∙ ap (λ m. program_line place_of m made this) (sym here)
      ∙ refused)
      ∙ ap (λ m. Err (fault_at m fault.kind)) (sym here ∙ sym at)
  is_least_below (a ∷ above) this below n p made fault reads makes at refused =
      let size : n + length (a ∷ above) ≡ n + 1 + length above = omega arith in
      by_ok n p made above (above ++ this ∷ below) fault (readable a) (read_added place_of n p (statement_of a))
      (λ q reads_on makes_on.
      is_least_below above this below (n + 1) q made fault reads_on makes_on (at ∙ size)
      (ap (λ m. program_line place_of m made this) (sym size) ∙ refused)) reads makes

least_in_program : (name : List ℕ) (n : ℕ) (body : List (List ℕ)) (fault : ScenFault)
    → program_read name n body ≡ Err fault → StopsInProgram name n body fault
unfolding program_read assembled
least_in_program name n body fault h =
    least_below (place_in n (map statement_of body)) body n (program name [] [] []) fault h

is_least_in_program : (name : List ℕ) (n : ℕ) (body : List (List ℕ)) (fault : ScenFault)
    → StopsInProgram name n body fault → program_read name n body ≡ Err fault
unfolding program_read assembled
is_least_in_program name n body fault s =
    ap (both (place_in n (map statement_of body)) n (program name [] [] [])) s.whole
    ∙ is_least_below (place_in n (map statement_of body)) s.above s.this s.below n
    (program name [] [] []) s.made fault s.readable_above s.accepted s.at s.refused

-- ---- lines of scripts

script_head : (n : ℕ) (d : Draft) (this : List ℕ) (below : List (List ℕ)) (k : ScenKind) (fault : ScenFault)
    → script_words_added d this ≡ Err k → fault_at n k ≡ fault → StopsInScript d n (this ∷ below) fault
unfolding folded
script_head n d this below k fault h same =
    let here : n + length {A = List ℕ} [] ≡ n = omega arith in
    record {
      above = [];
      this = this;
      below = below;
      read = d;
      whole = refl;
      accepted = refl;
      at =
          sym (ap (λ f. f.line) same) ∙ sym here;
      refused = h ∙ ap (λ f. Err f.kind) same;
    }

script_lower : (n : ℕ) (d e : Draft) (this : List ℕ) (below : List (List ℕ)) (fault : ScenFault)
    → script_words_added d this ≡ Ok e → StopsInScript e (n + 1) below fault → StopsInScript d n (this ∷ below) fault
unfolding folded script_line_read
script_lower n d e this below fault is_added s =
    let size : n + length (this ∷ s.above) ≡ n + 1 + length s.above = omega arith in
    record {
      above = this ∷ s.above;
      this = s.this;
      below = s.below;
      read = s.read;
      whole = ap (λ ls. this ∷ ls) s.whole;
      accepted = ap (λ r. numbered n r >>= (λ m. folded script_line_read (n + 1) m s.above)) is_added ∙ s.accepted;
      at = s.at ∙ sym size;
      refused = s.refused;
    }

by_words : (n : ℕ) (d : Draft) (this : List ℕ) (below : List (List ℕ)) (fault : ScenFault) (r : Result Draft ScenKind)
    → script_words_added d this ≡ r
    → ((e : Draft) → folded script_line_read (n + 1) e below ≡ Err fault → StopsInScript e (n + 1) below fault)
    → numbered n r >>= (λ e. folded script_line_read (n + 1) e below) ≡ Err fault
    → StopsInScript d n (this ∷ below) fault
by_words n d this below fault (Ok e) is on h = script_lower n d e this below fault is (on e h)
by_words n d this below fault (Err k) is on h = let same : fault_at n k ≡ fault = cc in
    script_head n d this below k fault is same

least_in_script : (body : List (List ℕ)) (n : ℕ) (d : Draft) (fault : ScenFault)
    → folded script_line_read n d body ≡ Err fault → StopsInScript d n body fault
unfolding folded script_line_read
least_in_script [] n d fault h = cc
least_in_script (this ∷ below) n d fault h =
    by_words n d this below fault (script_words_added d this) refl
    (λ e more. least_in_script below (n + 1) e fault more) h

by_accepted : (n : ℕ) (read : Draft) (above rest : List (List ℕ)) (fault : ScenFault) (r : Result Draft ScenKind)
    → ((e : Draft) → folded script_line_read (n + 1) e above ≡ Ok read
    → folded script_line_read (n + 1) e rest ≡ Err fault)
    → numbered n r >>= (λ e. folded script_line_read (n + 1) e above) ≡ Ok read
    → numbered n r >>= (λ e. folded script_line_read (n + 1) e rest) ≡ Err fault
by_accepted n read above rest fault (Ok e) on h = on e h
by_accepted n read above rest fault (Err k) on h = cc

is_least_in_script : (above : List (List ℕ)) (this : List ℕ) (below : List (List ℕ)) (n : ℕ) (d read : Draft)
    (fault : ScenFault) → folded script_line_read n d above ≡ Ok read → fault.line ≡ n + length above
    → script_words_added read this ≡ Err fault.kind → folded script_line_read n d (above ++ this ∷ below) ≡ Err fault
unfolding folded script_line_read
is_least_in_script [] this below n d read fault accepted at refused =
    let here : n + length {A = List ℕ} [] ≡ n = omega arith in
    let same : d ≡ read = cc in
    ap (λ r. numbered n r >>= (λ e. folded script_line_read (n + 1) e below))
    (ap (λ m. script_words_added m this) same ∙ refused)
    ∙ ap (λ m. Err (fault_at m fault.kind)) (sym here ∙ sym at)
is_least_in_script (a ∷ above) this below n d read fault accepted at refused =
    let size : n + length (a ∷ above) ≡ n + 1 + length above = omega arith in
    by_accepted n read above (above ++ this ∷ below) fault (script_words_added d a)
    (λ e more. is_least_in_script above this below (n + 1) e read fault more (at ∙ size) refused) accepted

-- ---- blocks

abbrev end_line : ℕ → List (List ℕ) → ℕ
end_line n body = n + (length body + 1)

program_ends : (n : ℕ) (d : Draft) (first : List ℕ) (name : List ℕ) (body : List (List ℕ)) (last : List ℕ)
    (fault : ScenFault) (p : Program) (r : Result (Unit {0}) ScenKind) → begun d first ≡ Ok (item.Program name)
    → program_read name (n + 1) body ≡ Ok p → ended last ≡ r
    → numbered (end_line n body) r >>= (λ _. Ok (with_program d name p)) ≡ Err fault
    → StopsProgram d n first body last fault
program_ends n d first name body last fault p (Ok u) begins is ends h = cc
program_ends n d first name body last fault p (Err k) begins is ends h =
    let same : fault_at (end_line n body) k ≡ fault = cc in
    record {
      name = name;
      begins = begins;
      stops = inr (
        record { made = p; accepted = is },
        record { at = sym (ap (λ f. f.line) same); refused = ends ∙ ap (λ f. Err f.kind) same },
      );
    }

program_stops : (n : ℕ) (d : Draft) (first : List ℕ) (name : List ℕ) (body : List (List ℕ)) (last : List ℕ)
    (fault : ScenFault) (r : Result Program ScenFault) → begun d first ≡ Ok (item.Program name)
    → program_read name (n + 1) body ≡ r
    → r >>= (λ p. numbered (end_line n body) (ended last) >>= (λ _. Ok (with_program d name p))) ≡ Err fault
    → StopsProgram d n first body last fault
program_stops n d first name body last fault (Ok p) begins is h =
    program_ends n d first name body last fault p (ended last) begins is refl h
program_stops n d first name body last fault (Err f) begins is h =
    let same : f ≡ fault = cc in
    record { name = name; begins = begins; stops = inl (least_in_program name (n + 1) body fault (is ∙ ap Err same)) }

script_ends : (n : ℕ) (d e : Draft) (first : List ℕ) (body : List (List ℕ)) (last : List ℕ) (fault : ScenFault)
    (r : Result (Unit {0}) ScenKind) → begun d first ≡ Ok item.Script → folded script_line_read (n + 1) d body ≡ Ok e
    → ended last ≡ r → numbered (end_line n body) r >>= (λ _. Ok (with_script e)) ≡ Err fault
    → StopsScript d n first body last fault
script_ends n d e first body last fault (Ok u) begins is ends h = cc
script_ends n d e first body last fault (Err k) begins is ends h =
    let same : fault_at (end_line n body) k ≡ fault = cc in
    record {
      begins = begins;
      stops = inr (
        record { read = e; accepted = is },
        record { at = sym (ap (λ f. f.line) same); refused = ends ∙ ap (λ f. Err f.kind) same },
      );
    }

script_stops : (n : ℕ) (d : Draft) (first : List ℕ) (body : List (List ℕ)) (last : List ℕ) (fault : ScenFault)
    (r : Result Draft ScenFault) → begun d first ≡ Ok item.Script → folded script_line_read (n + 1) d body ≡ r
    → r >>= (λ e. numbered (end_line n body) (ended last) >>= (λ _. Ok (with_script e))) ≡ Err fault
    → StopsScript d n first body last fault
script_stops n d first body last fault (Ok e) begins is h =
    script_ends n d e first body last fault (ended last) begins is refl h
script_stops n d first body last fault (Err f) begins is h =
    let same : f ≡ fault = cc in
    record { begins = begins; stops = inl (least_in_script body (n + 1) d fault (is ∙ ap Err same)) }

by_begun : (n : ℕ) (d : Draft) (first : List ℕ) (body : List (List ℕ)) (last : List ℕ) (fault : ScenFault)
    (r : Result Item ScenKind) → begun d first ≡ r → numbered n r >>= (λ i. block_added n d i body last) ≡ Err fault
    → IsLeastInBlock d n first body last fault
unfolding block_added program_added script_added
by_begun n d first body last fault (Err k) begins h =
    let same : fault_at n k ≡ fault = cc in
    inl (record { at = sym (ap (λ f. f.line) same); refused = begins ∙ ap (λ f. Err f.kind) same })
by_begun n d first body last fault (Ok (item.Program name)) begins h =
    inr (inl (program_stops n d first name body last fault (program_read name (n + 1) body) begins refl h))
by_begun n d first body last fault (Ok item.Script) begins h =
    inr (inr (script_stops n d first body last fault (folded script_line_read (n + 1) d body) begins refl h))
by_begun n d first body last fault (Ok _) begins h = cc

pub least_in_block : (d : Draft) (n : ℕ) (first : List ℕ) (body : List (List ℕ)) (last : List ℕ) (fault : ScenFault)
    → part_added d (block n first body last) ≡ Err fault → IsLeastInBlock d n first body last fault
unfolding part_added
least_in_block d n first body last fault h = by_begun n d first body last fault (begun d first) refl h

-- the end of a block is refused
end_refused : {X : Type 0} (n : ℕ) (last : List ℕ) (fault : ScenFault) (x : X) → StopsAtEnd n last fault
    → numbered n (ended last) >>= (λ _. Ok x) ≡ Err fault
end_refused n last fault x s =
    ap (λ r. numbered n r >>= (λ _. Ok x)) s.refused ∙ ap (λ m. Err (fault_at m fault.kind)) (sym s.at)

program_refused : (d : Draft) (n : ℕ) (name : List ℕ) (body : List (List ℕ)) (last : List ℕ) (fault : ScenFault)
    → (StopsInProgram name (n + 1) body fault
    ⊎ (MakeProgram name (n + 1) body × StopsAtEnd (end_line n body) last fault))
    → program_added n d name body last ≡ Err fault
unfolding program_added
program_refused d n name body last fault (inl stops) =
    ap (λ r. r >>= (λ p. numbered (end_line n body) (ended last) >>= (λ _. Ok (with_program d name p))))
    (is_least_in_program name (n + 1) body fault stops)
program_refused d n name body last fault (inr stops) =
    ap (λ r. r >>= (λ p. numbered (end_line n body) (ended last) >>= (λ _. Ok (with_program d name p))))
    stops.0.accepted ∙ end_refused (end_line n body) last fault _ stops.1

script_refused : (d : Draft) (n : ℕ) (body : List (List ℕ)) (last : List ℕ) (fault : ScenFault)
    → (StopsInScript d (n + 1) body fault ⊎ (MakeScript d (n + 1) body × StopsAtEnd (end_line n body) last fault))
    → script_added n d body last ≡ Err fault
unfolding script_added
script_refused d n body last fault (inl stops) =
    ap (λ r. r >>= (λ e. numbered (end_line n body) (ended last) >>= (λ _. Ok (with_script e))))
    (ap (folded script_line_read (n + 1) d) stops.whole
    ∙ is_least_in_script stops.above stops.this stops.below
    (n + 1) d stops.read fault stops.accepted stops.at stops.refused)
script_refused d n body last fault (inr stops) =
    ap (λ r. r >>= (λ e. numbered (end_line n body) (ended last) >>= (λ _. Ok (with_script e)))) stops.0.accepted
    ∙ end_refused (end_line n body) last fault _ stops.1

pub is_least_in_block : (d : Draft) (n : ℕ) (first : List ℕ) (body : List (List ℕ)) (last : List ℕ) (fault : ScenFault)
    → IsLeastInBlock d n first body last fault → part_added d (block n first body last) ≡ Err fault
unfolding part_added block_added
is_least_in_block d n first body last fault (inl s) =
    ap (λ r. numbered n r >>= (λ i. block_added n d i body last)) s.refused
    ∙ ap (λ m. Err (fault_at m fault.kind)) (sym s.at)
is_least_in_block d n first body last fault (inr (inl s)) =
    ap (λ r. numbered n r >>= (λ i. block_added n d i body last)) s.begins
    ∙ program_refused d n s.name body last fault s.stops
is_least_in_block d n first body last fault (inr (inr s)) =
    ap (λ r. numbered n r >>= (λ i. block_added n d i body last)) s.begins ∙ script_refused d n body last fault s.stops
