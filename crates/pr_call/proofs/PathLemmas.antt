use Rattle.std.proofs.Common.{◌≡◌, ◌≢◌, ◌≤◌, ◌<◌, ◌+◌, ◌%◌, ◌^◌, ℕ, zero, suc, eqb, inl, inr, Option, Some, None, Result, Ok, Err, List, [], ◌∷◌, ◌++◌, length, take, drop, refl, sym, ap, ◌∙◌, arith, length-append}
use Rattle.std.proofs.lemmas.Bool.{cases_Bool}
use Rattle.std.proofs.lemmas.List.{take_at}
use Rattle.pr_num.specs.Control.{prot_read}
use Rattle.pr_num.specs.Spaces.{Space, byte_for}
use Rattle.pr_num.specs.declared.errnos.Errno.TheVariants.{Inval, Fault}
use Rattle.pr_num.specs.declared.mappings.BadByte.{BadByte}
use Rattle.pr_mem.specs.Answers.{text_answer, with_text}
use Rattle.pr_mem.specs.declared.faults.MemFault.{MemFault}
use Rattle.pr_num.specs.Limits.{path_limit}
use Rattle.pr_model.specs.MemoryCalls.{path_at}
use Rattle.pr_parts.specs.AddressSpaces.{text_at, text_behind, text_with}
use Rattle.pr_call.specs.Paths.{path_read}

-- Paths, by the text that was read.

path-by : (space : Space) (at : ℕ) (r : Result (Option (List ℕ)) BadByte) → text_at space at path_limit ≡ r
    → path_at space at ≡ path_read r
unfolding path_at
path-by space at (Err bad) e = rw e refl
path-by space at (Ok None) e = rw e refl
path-by space at (Ok (Some [])) e = rw e refl
path-by space at (Ok (Some (b ∷ bytes))) e = rw e refl

path-of : (space : Space) (at : ℕ) → path_read (text_at space at path_limit) ≡ path_at space at
path-of space at = sym (path-by space at (text_at space at path_limit) refl)

told-err : (r : Result (Option (List ℕ)) BadByte) (fault : MemFault) → Err fault ≡ text_answer r
    → Err Fault ≡ path_read r
told-err (Err bad) fault e = refl
told-err (Ok None) fault e = absurd (cc)
told-err (Ok (Some text)) fault e = absurd (cc)

told-none : (r : Result (Option (List ℕ)) BadByte) → Ok None ≡ text_answer r → Err Inval ≡ path_read r
told-none (Err bad) e = absurd (cc)
told-none (Ok None) e = refl
told-none (Ok (Some text)) e = absurd (cc)

told-empty : (r : Result (Option (List ℕ)) BadByte) → Ok (Some 0) ≡ text_answer r → Err Inval ≡ path_read r
told-empty (Err bad) e = absurd (cc)
told-empty (Ok None) e = absurd (cc)
told-empty (Ok (Some [])) e = refl
told-empty (Ok (Some (b ∷ bytes))) e = absurd (let wrong : 0 ≡ length (b ∷ bytes) = cc in omega arith)

told-some : (r : Result (Option (List ℕ)) BadByte) (n : ℕ) (old new : List ℕ) → Ok (Some n) ≡ text_answer r → n ≢ 0
    → new ≡ with_text r old → Ok (take n new) ≡ path_read r
told-some (Err bad) n old new e some is = absurd (cc)
told-some (Ok None) n old new e some is = absurd (cc)
told-some (Ok (Some [])) n old new e some is = absurd (some (cc))
told-some (Ok (Some (b ∷ bytes))) n old new e some is =
    let long : n ≡ length (b ∷ bytes) = cc in
    rw (is, long) (ap Ok (take_at (b ∷ bytes) (drop (length (b ∷ bytes)) old) (length (b ∷ bytes)) refl))

told-within : (r : Result (Option (List ℕ)) BadByte) (n : ℕ) (old new : List ℕ) → Ok (Some n) ≡ text_answer r
    → new ≡ with_text r old → length new ≡ 32 → n ≤ 32
told-within (Err bad) n old new e is long = absurd (cc)
told-within (Ok None) n old new e is long = absurd (cc)
told-within (Ok (Some text)) n old new e is long =
    let same : n ≡ length text = cc in
    let parts : length (text ++ drop (length text) old) ≡ length text + length (drop (length text) old) =
    length-append text (drop (length text) old) in
    let whole : length new ≡ length (text ++ drop (length text) old) = ap (λ (zs : List ℕ). length zs) is in
    omega arith

module _ (space : Space) (at : ℕ) where
  pub path-fault : (fault : MemFault) → Err fault ≡ text_answer (text_at space at 32) → Err Fault ≡ path_at space at
  path-fault fault e = told-err _ fault e ∙ path-of space at

  pub path-none : Ok None ≡ text_answer (text_at space at 32) → Err Inval ≡ path_at space at
  path-none e = told-none _ e ∙ path-of space at

  pub path-empty : Ok (Some 0) ≡ text_answer (text_at space at 32) → Err Inval ≡ path_at space at
  path-empty e = told-empty _ e ∙ path-of space at

  pub path-some : (n : ℕ) (old new : List ℕ) → Ok (Some n) ≡ text_answer (text_at space at 32) → n ≢ 0
      → new ≡ with_text (text_at space at 32) old → Ok (take n new) ≡ path_at space at
  path-some n old new e some is = told-some _ n old new e some is ∙ path-of space at

  pub path-within : (n : ℕ) (old new : List ℕ) → Ok (Some n) ≡ text_answer (text_at space at 32)
      → new ≡ with_text (text_at space at 32) old → length new ≡ 32 → n ≤ 32
  path-within n old new e is long = told-within _ n old new e is long

pub ruleset paths = (path-fault, path-none, path-empty, path-some, path-within)

-- ---- how long a path is

-- a text ends before the last byte that is looked at
text-short : (space : Space) (a n : ℕ) (text : List ℕ) → text_at space a n ≡ Ok (Some text) → length text < n
unfolding text_at
text-short space a zero text e = absurd (cc)
text-short space a (suc n) text e =
    go (byte_for prot_read space a) (text_at space ((a + 1) % 2 ^ 64) n)
    (λ t. text-short space ((a + 1) % 2 ^ 64) n t) e
  where
    more : (b : ℕ) (behind : Result (Option (List ℕ)) BadByte) → ((t : List ℕ) → behind ≡ Ok (Some t) → length t < n)
        → text_behind b behind ≡ Ok (Some text) → length text < suc n
    more b (Err bad) rest is = absurd (cc)
    more b (Ok None) rest is = absurd (cc)
    more b (Ok (Some t)) rest is =
        let same : b ∷ t ≡ text = cc in
        let size : length (b ∷ t) ≡ length text = ap (λ (u : List ℕ). length u) same in
        let short : length t < n = rest t refl in
        omega arith

    go : (byte : Result ℕ BadByte) (behind : Result (Option (List ℕ)) BadByte)
        → ((t : List ℕ) → behind ≡ Ok (Some t) → length t < n) → text_with byte behind ≡ Ok (Some text)
        → length text < suc n
    go (Err bad) behind rest is = absurd (cc)
    go (Ok b) behind rest is =
        elim (cases_Bool (eqb b 0)) [
          | inl end ↦ let now = rw end at is in let empty : [] ≡ text = (cc) in
              let size : length {A = ℕ} [] ≡ length text = ap (λ (u : List ℕ). length u) empty in omega arith
          | inr on ↦ more b behind rest (rw on at is)
        ]

record HasSize (name : List ℕ) (n : ℕ) : Type 0 where
  pub some : 1 ≤ length name
  pub few : length name < n

told-sized : (r : Result (Option (List ℕ)) BadByte) (n : ℕ) (name : List ℕ)
    → ((text : List ℕ) → r ≡ Ok (Some text) → length text < n) → Ok name ≡ path_read r → HasSize name n
told-sized (Err bad) n name short e = absurd (cc)
told-sized (Ok None) n name short e = absurd (cc)
told-sized (Ok (Some [])) n name short e = absurd (cc)
told-sized (Ok (Some (b ∷ bytes))) n name short e =
    let same : name ≡ b ∷ bytes = cc in
    let size : length name ≡ length (b ∷ bytes) = ap (λ (u : List ℕ). length u) same in
    let within : length (b ∷ bytes) < n = short (b ∷ bytes) refl in
    record { some = omega arith; few = omega arith }

module _ (space : Space) (at : ℕ) (name : List ℕ) (is : Ok name ≡ path_at space at) where
  sized : HasSize name 32
  sized = told-sized (text_at space at 32) 32 name (text-short space at 32) (is ∙ sym (path-of space at))

  pub name-some : 1 ≤ length name
  name-some = sized.some

  pub name-few : length name ≤ 31
  name-few = let few = sized.few in omega arith

pub ruleset path_sizes = (name-some, name-few)
