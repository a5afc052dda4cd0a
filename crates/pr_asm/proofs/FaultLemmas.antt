-- The first line of a program that is refused.
use Rattle.std.proofs.Common.{◌≡◌, ℕ, suc, ◌+◌, Option, List, [], ◌∷◌, take, Result, Ok, Err, refl, sym, ◌∙◌, ap, arith}
use Rattle.pr_num.specs.Programs.{Program}
use Rattle.pr_asm.specs.declared.places.Place.{Place}
use Rattle.pr_asm.specs.Refusals.{AsmFault}
use Rattle.pr_asm.specs.declared.refusals.AsmKind.{AsmKind}
use Rattle.pr_asm.specs.declared.statements.Statement.{Statement}
use Rattle.pr_asm.specs.Assembly.{read_added, numbered, with_lines, assembled, reads_of, program_of}
use Rattle.pr_asm.specs.Faults.{StopsAt, IsFirstFault}
use Rattle.pr_asm.specs.Limits.{program}
use Rattle.pr_text.specs.Steps.{◌>>=◌, folded}
use Rattle.pr_asm.specs.Placing.{place_in}

module _ (place_of : List ℕ → Option Place) where
  -- the line is refused
  here : (line : ℕ) (p : Program) (read : Result Statement AsmKind) (rest : List (Result Statement AsmKind))
      (fault : AsmFault) (kind : AsmKind) → read_added place_of line p read ≡ Err kind → (err : Result Program AsmFault)
      → err ≡ Err (record { line = line; kind = kind }) → err ≡ Err fault → StopsAt place_of line p (read ∷ rest) fault
  unfolding folded
  here line p read rest fault kind refused err is e =
      let same : fault ≡ record { line = line; kind = kind } = cc in
      record {
        index = 0;
        read = read;
        above = p;
        here = refl;
        numbered = ap (λ f. f.line) same ∙ omega arith;
        accepted = refl;
        refused = ap (λ f. read_added place_of f.line p read) same ∙ refused ∙ ap (λ f. Err f.kind) (sym same);
      }

  -- a line below it is refused
  below : (line : ℕ) (p q : Program) (read : Result Statement AsmKind) (rest : List (Result Statement AsmKind))
      (fault : AsmFault) → read_added place_of line p read ≡ Ok q → StopsAt place_of (line + 1) q rest fault
      → StopsAt place_of line p (read ∷ rest) fault
  unfolding folded
  below line p q read rest fault added s =
      let at = s.numbered in
      record {
        index = suc s.index;
        read = s.read;
        above = s.above;
        here = s.here;
        numbered = omega arith;
        accepted =
            ap (λ r. numbered line r >>= (λ x. with_lines place_of (line + 1) x (take s.index rest))) added
            ∙ s.accepted;
        refused = s.refused;
      }

  by_line : (line : ℕ) (p : Program) (read : Result Statement AsmKind) (rest : List (Result Statement AsmKind))
      (fault : AsmFault) (r : Result Program AsmKind) → read_added place_of line p read ≡ r
      → numbered line (read_added place_of line p read) >>= (λ y. with_lines place_of (line + 1) y rest) ≡ Err fault
      → ((q : Program) → with_lines place_of (line + 1) q rest ≡ Err fault → StopsAt place_of (line + 1) q rest fault)
      → StopsAt place_of line p (read ∷ rest) fault
  by_line line p read rest fault (Ok q) same e on =
      below line p q read rest fault same
      (on q (ap (λ x. numbered line x >>= (λ y. with_lines place_of (line + 1) y rest)) (sym same) ∙ e))
  by_line line p read rest fault (Err kind) same e on =
      here line p read rest fault kind same (Err (record { line = line; kind = kind })) refl
      (ap (λ x. numbered line x >>= (λ y. with_lines place_of (line + 1) y rest)) (sym same) ∙ e)

  stops_at : (line : ℕ) (p : Program) (reads : List (Result Statement AsmKind)) (fault : AsmFault)
      → with_lines place_of line p reads ≡ Err fault → StopsAt place_of line p reads fault
  unfolding folded
  stops_at line p [] fault e = cc
  stops_at line p (read ∷ rest) fault e =
      by_line line p read rest fault (read_added place_of line p read) refl e
      (λ q on. stops_at (line + 1) q rest fault on)

pub first_fault : (name text : List ℕ) (first : ℕ) (fault : AsmFault) → program_of name text first ≡ Err fault
    → IsFirstFault name text first fault
unfolding assembled
first_fault name text first fault e =
    stops_at (place_in first (reads_of text)) first (program name [] [] []) (reads_of text) fault e
