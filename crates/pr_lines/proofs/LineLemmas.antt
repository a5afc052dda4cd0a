use Rattle.std.proofs.Common.{◌≡◌, ◌+◌, ◌-◌, ◌<◌, ◌≤◌, ◌||◌, ◌==◌, ℕ, zero, suc, Bool, true, false, not, cond, ltb}
use Rattle.std.proofs.Common.{List, [], ◌∷◌}
use Rattle.std.proofs.Common.{◌++◌, Option, Some, None, Result, Ok, Err, OnErr, take, drop, length, inl, inr, refl}
use Rattle.std.proofs.Common.{sym, ◌∙◌}
use Rattle.std.proofs.Common.{ap, subst, arith, append_assoc, append-nil, length-append}
use Rattle.std.proofs.Math.Seq.{drop-length}
use Rattle.std.proofs.lemmas.Bool.{cases_Bool, eqb-true}
use Rattle.std.proofs.lemmas.Bool.Decides.{nat_tests}
use Rattle.std.proofs.lemmas.List.Folds.{list_any-append}
use Rattle.std.proofs.lemmas.Option.{cond_some}
use Rattle.std.specs.Io.KnownBytes.{IsAtEnd}
use Rattle.std.specs.List.{list_any, position, position_or_len}
use Rattle.pr_io.proofs.Known.{with_front-nil, with_front-with_front}
use Rattle.pr_io.specs.Known.{with_front}
use Rattle.pr_io.specs.Reading.{CameAbove, CameWithin}
use Rattle.pr_num.proofs.NumberLemmas.{one_more}
use Rattle.pr_num.proofs.TableLemmas.{list_any-no_place, position-within}
use Rattle.pr_lines.specs.Lines.{ReadNoNewline, ReadsToNewline, TakenSoFar, TakesLine, TookHeld, TookLine, kept_of}
use Rattle.pr_lines.specs.Lines.{line_bytes, piece_bytes}
use Rattle.pr_text.specs.TextLines.{is_newline, newline}

-- ---- the first newline

place-of : (xs : List ℕ) (n : ℕ) → position is_newline xs ≡ Some n → position_or_len is_newline xs ≡ n
place-of xs n is = (cond_some (ltb (position_or_len is_newline xs) (length xs)) (position_or_len is_newline xs) n is).1

-- what stands before it, and behind it
split-first : (xs : List ℕ) (n : ℕ) → position_or_len is_newline xs ≡ n → n < length xs
    → xs ≡ take n xs ++ newline ∷ drop (suc n) xs
split-first [] n at inside = let none : n < 0 = inside in absurd (omega (arith, none))
split-first (x ∷ xs) n at inside =
    let m : ℕ = position_or_len is_newline xs in
    elim (cases_Bool (is_newline x)) [
      | inl t ↦
          (let none : n ≡ 0 = sym at ∙ ap (λ (b : Bool). cond (not b) (1 + m) 0) t in
          subst (λ (k : ℕ). x ∷ xs ≡ take k (x ∷ xs) ++ newline ∷ drop (suc k) (x ∷ xs)) (sym none)
          (ap (λ (y : ℕ). y ∷ xs) (eqb-true x newline t)))
      | inr f ↦
          (let more : n ≡ suc m = sym at ∙ ap (λ (b : Bool). cond (not b) (1 + m) 0) f ∙ one_more m in
          subst (λ (k : ℕ). x ∷ xs ≡ take k (x ∷ xs) ++ newline ∷ drop (suc k) (x ∷ xs)) (sym more)
          (ap (λ (ys : List ℕ). x ∷ ys) (split-first xs m refl (omega (arith, inside, more)))))
    ]

first-plain : (xs : List ℕ) (n : ℕ) → position_or_len is_newline xs ≡ n → list_any is_newline (take n xs) ≡ false
first-plain [] n at = ap (λ (k : ℕ). list_any is_newline (take k [])) (sym at)
first-plain (x ∷ xs) n at =
    let m : ℕ = position_or_len is_newline xs in
    elim (cases_Bool (is_newline x)) [
      | inl t ↦
          (let none : n ≡ 0 = sym at ∙ ap (λ (b : Bool). cond (not b) (1 + m) 0) t in
          ap (λ (k : ℕ). list_any is_newline (take k (x ∷ xs))) none)
      | inr f ↦
          (let more : n ≡ suc m = sym at ∙ ap (λ (b : Bool). cond (not b) (1 + m) 0) f ∙ one_more m in
          ap (λ (k : ℕ). list_any is_newline (take k (x ∷ xs))) more
          ∙ ap (λ (b : Bool). b || list_any is_newline (take m xs)) f ∙ first-plain xs m refl)
    ]

-- what is held is taken up to it
pub took-to : (line after held left sl : List ℕ) (place : ℕ) → position is_newline sl ≡ Some place → sl ≡ held
    → after ≡ line ++ take (line_bytes + 1 - length line) (take place sl) → left ≡ drop (place + 1) held
    → TookHeld true line after held left
took-to line after held left sl place at same kept rest =
    let there : position_or_len is_newline sl ≡ place = place-of sl place at in
    let number : suc place ≡ place + 1 = omega arith in
    let behind : drop (suc place) sl ≡ left = ap (λ (k : ℕ). drop k sl) number
    ∙ ap (λ (x : List ℕ). drop (place + 1) x) same ∙ sym rest in
    record {
      piece = take place sl;
      plain = first-plain sl place there;
      line = kept;
      front = sym same ∙ split-first sl place there (position-within is_newline sl place at)
          ∙ ap (λ (x : List ℕ). take place sl ++ newline ∷ x) behind;
    }

-- or all of it, where there is none
pub took-all : (line after held left sl : List ℕ) → position is_newline sl ≡ None → sl ≡ held
    → after ≡ line ++ take (line_bytes + 1 - length line) sl → left ≡ drop (length sl) held
    → TookHeld false line after held left
took-all line after held left sl none same kept rest = record {
  piece = sl;
  plain = list_any-no_place is_newline sl none;
  line = kept;
  front = (sym same, rest ∙ ap (λ (x : List ℕ). drop (length x) held) same ∙ drop-length held);
}

-- ---- a line grows at its end

-- what is kept of a list, and then as much more as there is room for, is what is kept of both
take-grow : (n m : ℕ) (a b : List ℕ) → m + length (take n a) ≡ n → take n a ++ take m b ≡ take n (a ++ b)
take-grow zero m a b room = let none : m ≡ 0 = omega (arith, room) in ap (λ (k : ℕ). take k b) none
take-grow (suc n) m [] b room = let all : m ≡ suc n = omega (arith, room) in ap (λ (k : ℕ). take k b) all
take-grow (suc n) m (x ∷ a) b room = ap (λ (xs : List ℕ). x ∷ xs) (take-grow n m a b (omega (arith, room)))

take-short : (n : ℕ) (a : List ℕ) → n - length (take n a) + length (take n a) ≡ n
take-short zero a = refl
take-short (suc n) [] = omega arith
take-short (suc n) (x ∷ a) = let below = take-short n a in omega (arith, below)

kept-more : (a b : List ℕ) → kept_of a ++ take (line_bytes + 1 - length (kept_of a)) b ≡ kept_of (a ++ b)
kept-more a b = take-grow (line_bytes + 1) (line_bytes + 1 - length (kept_of a)) a b (take-short (line_bytes + 1) a)

plain-more : (a b : List ℕ) → list_any is_newline a ≡ false → list_any is_newline b ≡ false
    → list_any is_newline (a ++ b) ≡ false
plain-more a b here there = list_any-append is_newline a b ∙ ap (λ (x : Bool). x || list_any is_newline b) here ∙ there

-- nothing is taken yet
begin : (old : Option (List ℕ)) → TakenSoFar [] old old
begin old = record { whole = []; plain = refl; kept = refl; front = sym (with_front-nil old) }

-- all that is held has no newline
pub more : (line after held left-held : List ℕ) (old now : Option (List ℕ))
    → TakenSoFar line old (with_front held now) → TookHeld false line after held left-held → TakenSoFar after old now
more line after held left-held old now far took = record {
  whole = far.whole ++ took.piece;
  plain = plain-more far.whole took.piece far.plain took.plain;
  kept = took.line ∙ ap (λ (x : List ℕ). x ++ take (line_bytes + 1 - length x) took.piece) far.kept
      ∙ kept-more far.whole took.piece;
  front = far.front ∙ ap (λ (x : List ℕ). with_front far.whole (with_front x now)) took.front.0
      ∙ with_front-with_front far.whole took.piece now;
}

-- the newline comes
pub ends : (line after held left-held : List ℕ) (old now : Option (List ℕ))
    → TakenSoFar line old (with_front held now) → TookHeld true line after held left-held
    → TookLine after old (with_front left-held now)
ends line after held left-held old now far took =
    let one : List ℕ = newline ∷ [] in
    let apart : held ≡ (took.piece ++ one) ++ left-held = took.front ∙ sym (append_assoc took.piece one left-held) in
    record {
      whole = far.whole ++ took.piece;
      plain = plain-more far.whole took.piece far.plain took.plain;
      kept = took.line ∙ ap (λ (x : List ℕ). x ++ take (line_bytes + 1 - length x) took.piece) far.kept
          ∙ kept-more far.whole took.piece;
      front = inl (far.front
          ∙ ap (λ (x : List ℕ). with_front far.whole (with_front x now)) apart
          ∙ ap (with_front far.whole) (sym (with_front-with_front (took.piece ++ one) left-held now))
          ∙ with_front-with_front far.whole (took.piece ++ one) (with_front left-held now)
          ∙ ap (λ (x : List ℕ). with_front x (with_front left-held now)) (sym (append_assoc far.whole took.piece one)));
    }

-- what is empty has nothing kept of it
none-kept : (n : ℕ) (xs : List ℕ) → [] ≡ take (suc n) xs → xs ≡ []
none-kept n [] none = refl
none-kept n (x ∷ xs) none = cc

-- of what is empty nothing is kept
some-kept : (n b : ℕ) (line xs : List ℕ) → b ∷ line ≡ take (suc n) xs → 0 < length xs
some-kept n b line [] some = cc
some-kept n b line (x ∷ xs) some = omega arith

-- the source is at its end: what was taken is the last line, or nothing was to come
pub last-line : (b : ℕ) (line : List ℕ) (old now : Option (List ℕ)) → TakenSoFar (b ∷ line) old now → IsAtEnd now
    → TookLine (b ∷ line) old now
last-line b line old now far end =
    let number : line_bytes + 1 ≡ suc line_bytes = omega arith in
    let some : 0 < length far.whole = some-kept line_bytes b line far.whole
    (far.kept ∙ ap (λ (n : ℕ). take n far.whole) number) in
    record { whole = far.whole; plain = far.plain; kept = far.kept; front = inr (far.front, (end, some)) }

pub no-line : (old now : Option (List ℕ)) → TakenSoFar [] old now → now ≡ old
no-line old now far =
    let number : line_bytes + 1 ≡ suc line_bytes = omega arith in
    let none : far.whole ≡ [] = none-kept line_bytes far.whole (far.kept ∙ ap (λ (n : ℕ). take n far.whole) number) in
    sym (far.front ∙ ap (λ (x : List ℕ). with_front x now) none ∙ with_front-nil now)

-- ---- what the steps of a line come to

pub ends-so : (b : Bool) (line after held left-held : List ℕ) (old now : Option (List ℕ)) → b ≡ true
    → TakenSoFar line old (with_front held now) → TookHeld b line after held left-held
    → TookLine after old (with_front left-held now)
ends-so true line after held left-held old now is far took = ends line after held left-held old now far took
ends-so false line after held left-held old now is far took = cc

pub more-so : (b : Bool) (line after held left-held : List ℕ) (old now : Option (List ℕ)) → b ≡ false
    → TakenSoFar line old (with_front held now) → TookHeld b line after held left-held → TakenSoFar after old now
more-so true line after held left-held old now is far took = cc
more-so false line after held left-held old now is far took = more line after held left-held old now far took

pub begun : (line : List ℕ) (old : Option (List ℕ)) → line ≡ [] → TakenSoFar line old old
begun line old is = subst (λ (x : List ℕ). TakenSoFar x old old) (sym is) (begin old)

-- what is held has no newline, where none was found
pub none-held : (b : Bool) (line after held left-held : List ℕ) → b ≡ false → TookHeld b line after held left-held
    → list_any is_newline held ≡ false
none-held true line after held left-held is took = cc
none-held false line after held left-held is took = ap (list_any is_newline) took.front.0 ∙ took.plain

pub nothing-held : (b : Bool) (line after held left-held : List ℕ) → b ≡ false → TookHeld b line after held left-held
    → left-held ≡ []
nothing-held true line after held left-held is took = cc
nothing-held false line after held left-held is took = took.front.1

pub some-held : (b : Bool) (line after held left-held : List ℕ) → b ≡ false → TookHeld b line after held left-held
    → list_any is_newline held ≡ true → (P : Type 0) → P
some-held b line after held left-held is took has P = let none = none-held b line after held left-held is took in cc

-- the end of the source, where what was taken so far is the last line, or nothing
pub over-so : (b : Bool) (line held : List ℕ) (old now : Option (List ℕ)) → b ≡ (length line == 0) → held ≡ []
    → TakenSoFar line old (with_front held now) → IsAtEnd now → TakesLine (not b) line old (with_front held now)
over-so b [] held old now is none far end =
    let here : with_front held now ≡ now = ap (λ (x : List ℕ). with_front x now) none ∙ with_front-nil now in
    subst (λ (x : Bool). TakesLine (not x) [] old (with_front held now)) (sym is)
    (no-line old (with_front held now) far, subst IsAtEnd (sym here) end)
over-so b (x ∷ xs) held old now is none far end =
    let here : with_front held now ≡ now = ap (λ (x : List ℕ). with_front x now) none ∙ with_front-nil now in
    let some : (length (x ∷ xs) == 0) ≡ false = grind (arith, nat_tests) in
    subst (λ (y : Bool). TakesLine (not y) (x ∷ xs) old (with_front held now)) (sym (is ∙ some))
    (last-line x xs old (with_front held now) far (subst IsAtEnd (sym here) end))

-- what is to come once more was read
pub refilled : (line held : List ℕ) (old before now : Option (List ℕ)) → before ≡ with_front held now
    → TakenSoFar line old before → TakenSoFar line old (with_front held now)
refilled line held old before now came far = subst (λ (x : Option (List ℕ)). TakenSoFar line old x) came far

-- ---- how many bytes came

-- so many bytes came at least
pub record HasCome (n : ℕ) (old new : Option (List ℕ)) : Type 0 where
  pub bytes : List ℕ
  pub front : old ≡ with_front bytes new
  pub many : n ≤ length bytes

pub come-begun : (held : List ℕ) (now : Option (List ℕ)) → HasCome 0 (with_front held now) now
come-begun held now = record { bytes = held; front = refl; many = omega arith }

pub come-more : (n : ℕ) (held : List ℕ) (old before now : Option (List ℕ)) → before ≡ with_front held now
    → 0 < length held
    → HasCome n old before → HasCome (n + 1) old now
come-more n held old before now came some has = record {
  bytes = has.bytes ++ held;
  front = has.front ∙ ap (with_front has.bytes) came ∙ with_front-with_front has.bytes held now;
  many = let both = length-append has.bytes held in let many = has.many in omega (arith, both, many, some);
}

pub come-above : (n limit : ℕ) (old now : Option (List ℕ)) → limit < n → HasCome n old now → CameAbove limit old now
come-above n limit old now above has = record {
  bytes = has.bytes;
  front = has.front;
  above = let many = has.many in omega (arith, many, above);
}

-- ---- what was read

pub read-none : (held : List ℕ) (old : Option (List ℕ)) → list_any is_newline held ≡ false → ReadNoNewline held old old
read-none held old plain = record {
  before = [];
  plain = ap (list_any is_newline) (append-nil held) ∙ plain;
  front = sym (with_front-nil old);
}

read-front : (before piece : List ℕ) (old now new : Option (List ℕ)) → old ≡ with_front before now
    → now ≡ with_front piece new → old ≡ with_front (before ++ piece) new
read-front before piece old now new far came = far ∙ ap (with_front before) came
    ∙ with_front-with_front before piece new

pub read-more : (held piece : List ℕ) (old now new : Option (List ℕ)) → ReadNoNewline held old now
    → now ≡ with_front piece new → list_any is_newline piece ≡ false → ReadNoNewline held old new
read-more held piece old now new far came plain = record {
  before = far.before ++ piece;
  plain = ap (list_any is_newline) (sym (append_assoc held far.before piece))
      ∙ plain-more (held ++ far.before) piece far.plain plain;
  front = read-front far.before piece old now new far.front came;
}

-- the last piece
pub read-last : (held piece : List ℕ) (old now new : Option (List ℕ)) → ReadNoNewline held old now
    → now ≡ with_front piece new → length piece ≤ piece_bytes → ReadsToNewline held old new
read-last held piece old now new far came most = inr (record {
  before = far.before;
  plain = far.plain;
  piece = piece;
  most = most;
  front = read-front far.before piece old now new far.front came;
})

-- or what came where a read failed, or memory ran out
pub read-lost : (held : List ℕ) (old now new : Option (List ℕ)) → ReadNoNewline held old now
    → CameWithin piece_bytes now new → ReadsToNewline held old new
read-lost held old now new far came = read-last held came.bytes old now new far came.front came.within

pub read-up : (held : List ℕ) (old now : Option (List ℕ)) → ReadNoNewline held old now → ReadsToNewline held old now
read-up held old now far = read-last held [] old now now far (sym (with_front-nil now)) (omega arith)

pub read-failed : (held : List ℕ) (old now new : Option (List ℕ)) → ReadNoNewline held old now → new ≡ now
    → ReadNoNewline held old new
read-failed held old now new far same =
    subst (λ (x : Option (List ℕ)). ReadNoNewline held old x) (sym same) far

-- where a read fails nothing comes
pub none-came : {T E : Type 0} (r : Result T E) (old new : Option (List ℕ)) → new ≡ old
    → OnErr r (CameWithin piece_bytes old new)
none-came (Ok x) old new same = tt
none-came (Err e) old new same =
    record { bytes = []; front = sym same ∙ sym (with_front-nil new); within = omega arith }
