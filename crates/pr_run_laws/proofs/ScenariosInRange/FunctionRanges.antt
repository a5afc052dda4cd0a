-- The functions that a truss line names in a program are as the laws on truss with calls of functions ask.
use Rattle.std.proofs.Common.{◌≡◌, ◌≢◌, ◌≤◌, ◌<◌, ◌+◌, ◌*◌, ◌++◌, ℕ, Bool, true, false, cond, Option, Some, None, List, [], ◌∷◌, length, slice_get, refl, sym, ap, ◌∙◌, arith}
use Rattle.std.specs.Prelude.{option_and_then}
use Rattle.std.specs.List.{All, list_any}
use Rattle.std.specs.Option.{IfSome}
use Rattle.std.specs.Str.{bytes_eq}
use Rattle.std.proofs.Math.Nat.{mul-mod_right}
use Rattle.std.proofs.lemmas.Bool.{false_from_ne_true}
use Rattle.std.proofs.lemmas.List.{length-append}
use Rattle.std.proofs.lemmas.List.Elements.{All-nil, All-push, All-weaker}
use Rattle.std.proofs.lemmas.Option.{none-some, same_Some, slice_get_within}
use Rattle.std.proofs.lemmas.Slice.Eq.{bytes_eq-Decides}
use Rattle.pr_line.specs.Functions.{function_limit}
use Rattle.pr_line.specs.declared.function_names.FunctionNames.{FunctionNames}
use Rattle.pr_line.specs.declared.functions.Function.{Function}
use Rattle.pr_num.proofs.InstructionLemmas.{read-spelled}
use Rattle.pr_num.proofs.ListLemmas.{length-instruction}
use Rattle.pr_num.proofs.SearchLemmas.{All-at}
use Rattle.pr_num.specs.Instructions.{fields_of, instruction_bytes, instruction_in}
use Rattle.pr_num.specs.Layout.{text_base}
use Rattle.pr_num.specs.Limits.{code_limit, instruction_size}
use Rattle.pr_num.specs.Programs.{Program}
use Rattle.pr_num.specs.declared.instructions.Instruction.{Instruction}
use Rattle.pr_num.specs.declared.instructions.Instruction.TheVariants as i
use Rattle.pr_num.specs.declared.syscalls.Sysno.{Sysno}
use Rattle.pr_reached.proofs.StatesInRange.MemoryRanges.{instruction-bytes}
use Rattle.pr_reached.specs.InRange.{IsProgramInRange}
use Rattle.pr_run_laws.proofs.TrussControllers.TrussWords.{HasFewLabels}
use Rattle.pr_run_laws.specs.NamedFunctions.{IsShowable}
use Rattle.pr_scen.specs.Functions.{can_begin_function, function_at, function_named, function_with, functions_in, functions_of, is_called, labelled_place, program_named, with_functions}
use Rattle.pr_scen.specs.Names.{place_of}
use Rattle.pr_truss.specs.Marks.{breakpoint}

-- ---- the first instruction

-- its operation code is neither that of a breakpoint, 1, nor that of a system call, 19
first-op : (x : Instruction) → can_begin_function x ≡ true → (1 < (fields_of x).op) × ((fields_of x).op < 19)
unfolding can_begin_function fields_of
first-op i.Bpt is = absurd (cc)
first-op i.Nop is = (omega arith, omega arith)
first-op (i.Set to imm) is = (omega arith, omega arith)
first-op (i.Mov to from) is = (omega arith, omega arith)
first-op (i.Add to from) is = (omega arith, omega arith)
first-op (i.Sub to from) is = (omega arith, omega arith)
first-op (i.Mul to from) is = (omega arith, omega arith)
first-op (i.Div to from) is = (omega arith, omega arith)
first-op (i.Ld to base offset) is = (omega arith, omega arith)
first-op (i.St from base offset) is = (omega arith, omega arith)
first-op (i.Ldb to base offset) is = (omega arith, omega arith)
first-op (i.Stb from base offset) is = (omega arith, omega arith)
first-op (i.Jmp target) is = (omega arith, omega arith)
first-op (i.Jz test target) is = (omega arith, omega arith)
first-op (i.Jnz test target) is = (omega arith, omega arith)
first-op (i.Jlt left right target) is = (omega arith, omega arith)
first-op (i.Call target) is = (omega arith, omega arith)
first-op i.Ret is = (omega arith, omega arith)
first-op (i.Sys call) is = absurd (cc)

abbrev head : List ℕ → ℕ
head [] = 0
head (b ∷ bs) = b

first-calls-none : (x : Instruction) → can_begin_function x ≡ true → (call : Sysno)
    → instruction_in (instruction_bytes x) ≢ Some (i.Sys call)
unfolding fields_of
first-calls-none x is call reads =
    let same : instruction_bytes x ≡ instruction_bytes (i.Sys call) =
    read-spelled (instruction_bytes x) (i.Sys call) (length-instruction x) (instruction-bytes x) reads in
    let op : (fields_of x).op ≡ 19 = ap head same in
    omega (arith, op, (first-op x is).1)

first-is-other : (x : Instruction) → can_begin_function x ≡ true → bytes_eq breakpoint (instruction_bytes x) ≡ false
unfolding fields_of
first-is-other x is =
    false_from_ne_true (bytes_eq breakpoint (instruction_bytes x)) (λ reads.
    let same : breakpoint ≡ instruction_bytes x = (bytes_eq-Decides breakpoint (instruction_bytes x)).0 reads in
    let op : 1 ≡ (fields_of x).op = ap head same in
    omega (arith, op, (first-op x is).0))

-- ---- a function

abbrev function_of : List ℕ → ℕ → Instruction → Function
function_of name place x =
    record { name = name; at = text_base + instruction_size * place; code = instruction_bytes x }

begun-named : (name : List ℕ) (place : ℕ) (x : Instruction) → place < code_limit → can_begin_function x ≡ true
    → IsShowable (function_of name place x)
begun-named name place x within is = record {
  steppable = record {
    size = length-instruction x;
    bytes = instruction-bytes x;
    no_call = first-calls-none x is;
    fits = omega (arith, within);
  };
  patchable = record {
    aligned = omega (arith, mul-mod_right instruction_size place);
    within = omega (arith, within);
    size = length-instruction x;
    bytes = instruction-bytes x;
    other = first-is-other x is;
  };
}

-- a function that is named in a program is as it is asked for, and begins with an instruction of the program
record IsNamed (p : Program) (f : Function) : Type 0 where
  showable : IsShowable f
  place : ℕ
  instruction : Instruction
  there : slice_get p.code place ≡ Some instruction
  at : f.at ≡ text_base + instruction_size * place
  code : f.code ≡ instruction_bytes instruction

-- so functions at one address begin with the same one
named-alike : (p : Program) (f g : Function) → IsNamed p f → IsNamed p g → f.at ≡ g.at → f.code ≡ g.code
named-alike p f g one two same =
    let place : one.place ≡ two.place =
    omega (
      arith,
      let here : f.at ≡ text_base + 16 * one.place = one.at in here,
      let there : g.at ≡ text_base + 16 * two.place = two.at in there,
      same,
    ) in
    let both : one.instruction ≡ two.instruction =
    same_Some one.instruction two.instruction (sym one.there ∙ ap (slice_get p.code) place ∙ two.there) in
    one.code ∙ ap instruction_bytes both ∙ sym two.code

function_with-named : (p : Program) (name : List ℕ) (place : ℕ) (o : Option Instruction) → slice_get p.code place ≡ o
    → ((x : Instruction) → o ≡ Some x → place < code_limit)
    → IfSome (function_with name (text_base + instruction_size * place) o) (IsNamed p)
unfolding function_with
function_with-named p name place None there within = tt
function_with-named p name place (Some x) there within = by (can_begin_function x) refl
  where
    by : (b : Bool) → can_begin_function x ≡ b → IfSome (cond b (Some (function_of name place x)) None) (IsNamed p)
    by true is = record {
      showable = begun-named name place x (within x refl) is;
      place = place;
      instruction = x;
      there = there;
      at = refl;
      code = refl;
    }
    by false is = tt

function_at-named : (p : Program) (name : List ℕ) (place : ℕ) → IsProgramInRange p
    → IfSome (function_at p name place) (IsNamed p)
unfolding function_at
function_at-named p name place range =
    function_with-named p name place (slice_get p.code place) refl (λ x is.
    let limits = range.within in omega (arith, slice_get_within p.code place x is, limits.code))

function_named-named : (p : Program) (name : List ℕ) → IsProgramInRange p → IfSome (function_named p name) (IsNamed p)
unfolding function_named
function_named-named p name range = of (labelled_place p.labels name)
  where
    of : (o : Option ℕ) → IfSome (option_and_then (function_at p name) o) (IsNamed p)
    of None = tt
    of (Some place) = function_at-named p name place range

-- ---- the functions of a line

-- so many functions, each of them named
record AreSoMany (p : Program) (n : ℕ) (fs : List Function) : Type 0 where
  count : length fs ≡ n
  each : All (IsNamed p) fs

-- one function more, if there is one
more-named : (p : Program) (n : ℕ) (more : Function → Option (List Function))
    → ((f : Function) → IsNamed p f → IfSome (more f) (AreSoMany p n)) → (o : Option Function)
    → IfSome o (IsNamed p) → IfSome (option_and_then more o) (AreSoMany p n)
more-named p n more on None named = tt
more-named p n more on (Some f) named = on f named

unless-named : (p : Program) (n : ℕ) (b : Bool) (o : Option (List Function)) → IfSome o (AreSoMany p n)
    → IfSome (cond b None o) (AreSoMany p n)
unless-named p n true o named = tt
unless-named p n false o named = named

with_functions-named : (p : Program) (functions : List Function) (names : List (List ℕ)) (n : ℕ) → IsProgramInRange p
    → All (IsNamed p) functions → length functions + length names ≡ n
    → IfSome (with_functions p functions names) (AreSoMany p n)
unfolding with_functions
with_functions-named p functions [] n range all count = record { count = omega (arith, count); each = all }
with_functions-named p functions (name ∷ names) n range all count =
    unless-named p n (list_any (is_called name) functions) _
    (more-named p n (λ f. with_functions p (functions ++ f ∷ []) names)
    (λ f named. with_functions-named p (functions ++ f ∷ []) names n range (All-push (IsNamed p) functions f all named)
    (omega (arith, count, length-append functions (f ∷ []))))
    (function_named p name) (function_named-named p name range))

-- What a line names: at most 16 functions, as they are asked for, those at one address with the same code, and none
-- where it names none.
pub record AreShowableOf (o : Option FunctionNames) (fs : List Function) : Type 0 where
  pub few : length fs ≤ function_limit
  pub each : All IsShowable fs
  pub alike : (i j : ℕ) (f g : Function) → slice_get fs i ≡ Some f → slice_get fs j ≡ Some g → f.at ≡ g.at
      → f.code ≡ g.code
  pub none : o ≡ None → fs ≡ []

module _ (asked : FunctionNames) (few : HasFewLabels asked) where
  few-named : (p : Program) (o : Option (List Function)) → IfSome o (AreSoMany p (length asked.labels))
      → IfSome o (AreShowableOf (Some asked))
  few-named p None named = tt
  few-named p (Some fs) named = record {
    few = omega (arith, few, named.count);
    each = All-weaker (IsNamed p) IsShowable (λ f it. it.showable) fs named.each;
    alike = λ i j f g one two.
        named-alike p f g (All-at (IsNamed p) fs i f one named.each) (All-at (IsNamed p) fs j g two named.each);
    none = λ is. absurd (cc);
  }

  in-program : (o : Option Program) → IfSome o IsProgramInRange
      → IfSome (functions_in o asked.labels) (AreShowableOf (Some asked))
  in-program None range = tt
  in-program (Some p) range =
      few-named p (with_functions p [] asked.labels)
      (with_functions-named p [] asked.labels (length asked.labels) range (All-nil (IsNamed p)) (omega arith))

program_named-range : (names : List (List ℕ)) (programs : List Program) (name : List ℕ) → All IsProgramInRange programs
    → IfSome (program_named names programs name) IsProgramInRange
program_named-range names programs name all = of (place_of names name)
  where
    at : (place : ℕ) (o : Option Program) → slice_get programs place ≡ o → IfSome o IsProgramInRange
    at place None is = tt
    at place (Some p) is = All-at IsProgramInRange programs place p is all

    of : (o : Option ℕ) → IfSome (option_and_then (slice_get programs) o) IsProgramInRange
    of None = tt
    of (Some place) = at place (slice_get programs place) refl

pub functions_of-named : (names : List (List ℕ)) (programs : List Program) (o : Option FunctionNames)
    → All IsProgramInRange programs → IfSome o HasFewLabels → IfSome (functions_of names programs o) (AreShowableOf o)
unfolding functions_of
functions_of-named names programs None all few =
    record {
      few = omega arith;
      each = All-nil IsShowable;
      alike = λ i j f g one. absurd (none-some f one);
      none = λ _. refl;
    }
functions_of-named names programs (Some asked) all few =
    in-program asked few (program_named names programs asked.program)
    (program_named-range names programs asked.program all)
