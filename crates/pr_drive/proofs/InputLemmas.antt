use Rattle.std.proofs.Common.{◌≡◌, inl, ℕ, Bool, true, false, List, Option, refl, subst}
use Rattle.pr_lines.specs.Lines.{ReadsToNewline, TakesLine}
use Rattle.pr_drive.specs.Inputs.{Asked, FoundEnd, Input, Took, to_come}

-- What a line that was taken off a source comes to.

abbrev pub input : List ℕ → Option (List ℕ) → Input
input held left = record { held = held; left = left }

-- a line was taken, or there is none
pub record Takes (there : Bool) (line : List ℕ) (a b : Input) : Type 0 where
  pub takes : TakesLine there line (to_come a) (to_come b)
  pub read : ReadsToNewline a.held a.left b.left

pub takes-some : (there : Bool) (line : List ℕ) (a b : Input) → there ≡ true → Takes there line a b → Took line a b
takes-some there line a b is h = record {
  line_is = subst (λ (x : Bool). TakesLine x line (to_come a) (to_come b)) is h.takes;
  read = h.read;
}

pub takes-none : (there : Bool) (line : List ℕ) (a b : Input) → there ≡ false → Takes there line a b → FoundEnd a b
takes-none there line a b is h =
    let none : TakesLine false line (to_come a) (to_come b) = subst
    (λ (x : Bool). TakesLine x line (to_come a) (to_come b)) is h.takes in
    record { same = none.0; end = none.1; read = h.read }

-- what was read where the line was taken, or where nothing was done
pub took-asked : (line : List ℕ) (a b : Input) → Took line a b → Asked a b.left
took-asked line a b took = record { read = took.read }

pub takes-asked : (there : Bool) (line : List ℕ) (a b : Input) → Takes there line a b → Asked a b.left
takes-asked there line a b takes = record { read = takes.read }

pub unasked : (held : List ℕ) (left : Option (List ℕ)) → Asked (input held left) left
unasked held left = record { read = inl refl }
