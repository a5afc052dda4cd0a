use Rattle.std.proofs.Common.{◌≡◌, ◌&&◌, ℕ, Bool, true, false, List, Option, None, Some, position, refl, ap, ◌∙◌}
use Rattle.std.proofs.lemmas.Bool.{and_parts, eq-eqb, eqb-true, false≢true}
use Rattle.std.proofs.lemmas.Slice.Eq.{bytes_eq-Decides}
use Rattle.pr_function_laws.proofs.Marks.MetLemmas.{found-function}
use Rattle.pr_function_laws.specs.Planted.{IsToPlant}
use Rattle.pr_line.specs.declared.functions.Function.{Function}
use Rattle.pr_line.specs.declared.options.Options.{Options}
use Rattle.pr_truss.specs.FunctionEvents.{begins_at}
use Rattle.pr_truss.specs.FunctionFeeding.{is_code, is_first_there, is_place, is_to_plant}
use Rattle.pr_truss.specs.Marks.{address_in, address_of, code_in, code_of}

-- Truss plants a function just where its code was read and no function before it has its address.

code-of : (code : List ℕ) (bytes : Option (List ℕ)) → is_code code bytes ≡ true → bytes ≡ Some code
code-of code None is = absurd (false≢true is)
code-of code (Some bytes) is = ap (λ bs. Some bs) ((bytes_eq-Decides bytes code).0 is)

module _ (o : Options) (function : ℕ) where
  pub first-of : is_first_there o function ≡ true
      → position (begins_at (address_of o function)) o.functions ≡ Some function
  unfolding is_first_there
  first-of is = by (position (begins_at (address_of o function)) o.functions) is
    where
      by : (place : Option ℕ) → is_place function place ≡ true → place ≡ Some function
      by None none = absurd (false≢true none)
      by (Some first) found = ap (λ n. Some n) (eqb-true first function found)

  pub to-plant : (bytes : Option (List ℕ)) → is_to_plant o function bytes ≡ true → IsToPlant o function bytes
  unfolding code_of
  to-plant bytes is =
      let parts = and_parts (is_code (code_of o function) bytes) (is_first_there o function) is in
      let first : position (begins_at (address_of o function)) o.functions ≡ Some function = first-of parts.1 in
      let it = found-function o (address_of o function) function first in
      record {
        f = it.0;
        named = it.1.0;
        code = code-of (code_of o function) bytes parts.0 ∙ ap (λ x. Some (code_in x)) it.1.0;
        first = ap (λ a. position (begins_at a) o.functions) it.1.1 ∙ first;
      }

  pub plants-it : (bytes : Option (List ℕ)) → IsToPlant o function bytes → is_to_plant o function bytes ≡ true
  unfolding is_first_there address_of code_of
  plants-it bytes w =
      let f : Function = w.f in
      let code : is_code (code_of o function) bytes ≡ true =
      ap (λ x. is_code (code_in x) bytes) w.named ∙ ap (is_code f.code) w.code
      ∙ (bytes_eq-Decides f.code f.code).1 refl in
      let first : is_first_there o function ≡ true =
      ap (is_place function) (ap (λ x. position (begins_at (address_in x)) o.functions) w.named ∙ w.first)
      ∙ eq-eqb function function refl in
      ap (λ b. b && is_first_there o function) code ∙ first

  pub leaves-it : (bytes : Option (List ℕ)) → (IsToPlant o function bytes → ⊥)
      → is_to_plant o function bytes ≡ false
  leaves-it bytes other = by (is_to_plant o function bytes) refl
    where
      by : (b : Bool) → is_to_plant o function bytes ≡ b → is_to_plant o function bytes ≡ false
      by false is = is
      by true is = absurd (other (to-plant bytes is))
