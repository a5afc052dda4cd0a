-- What is read from the words of a line that can be read: its names are short and of bytes, and so are its texts.
use Rattle.std.proofs.Common.{◌≡◌, ℕ, ◌+◌, ◌*◌, ◌-◌, ◌<◌, Bool, true, false, cond, ◌&&◌, eqb, leb, Option, Some, None, List, [], ◌∷◌, length, take, drop, nat_le, nat_lt, slice_index, Ok, Err, refl, arith}
use Rattle.std.specs.List.{All, list_all}
use Rattle.std.specs.Option.{IfSome, option_and_then}
use Rattle.std.proofs.lemmas.Bool.{and_parts, leb-true}
use Rattle.std.proofs.lemmas.Bool.Decides.{nat_tests}
use Rattle.std.proofs.lemmas.List.Elements.{All-weaker, All-map, All-nil, All-cons, All-head, All-tail, All-take, All-drop}
use Rattle.std.proofs.lemmas.List.Sums.{AllPass-from_list_all}
use borrow.Author.Tests.{ltb-true}
use Rattle.pr_num.specs.Limits.{name_limit}
use Rattle.pr_num.specs.Words.{IsByte}
use Rattle.pr_reached.specs.InRange.{IsShortName}
use Rattle.pr_scen.specs.Lines.{is_ascii, readable}
use Rattle.pr_scen.specs.declared.refusals.ScenKind.TheVariants.{NotAscii, TooLong}
use Rattle.pr_text.proofs.PlainLemmas.{by_cond}
use Rattle.pr_text.specs.Names.{is_letter, is_name, is_name_byte, name_of}
use Rattle.pr_text.specs.NumberWords.{digit_of}
use Rattle.pr_text.specs.QuotedWords.{before, bytes_between, escaped_bytes, hex_bytes, quoted_bytes}
use Rattle.pr_text.specs.Words.{text_of, texts_of, words_of}
use Rattle.pr_text.specs.declared.spans.Word.{Word}

-- words of a line, each of bytes
abbrev pub AreWordsOfBytes : List (List ℕ) → Type 0
AreWordsOfBytes words = All (All IsByte) words

-- ---- lines

passed : (a b : Bool) (x : Unit {0}) → cond a (Err TooLong) (cond b (Ok tt) (Err NotAscii)) ≡ Ok x → b ≡ true
passed true b x e = cc
passed false true x e = refl
passed false false x e = cc

-- a line that can be read has bytes alone: each is one of ASCII
pub readable-bytes : (line : List ℕ) (x : Unit {0}) → readable line ≡ Ok x → All IsByte line
unfolding readable is_ascii
readable-bytes line x e =
    let ascii = passed _ (is_ascii line) x e in
    All-weaker (λ b. nat_lt b 128 ≡ true) IsByte (λ b low. let is = ltb-true b 128 low in omega arith) line
    (AllPass-from_list_all (λ b. nat_lt b 128) line ascii)

-- so have its words
word-bytes : (line : List ℕ) → All IsByte line → (w : Word) → All IsByte (text_of line w)
word-bytes line small w = All-take IsByte _ (drop w.start line) (All-drop IsByte w.start line small)

each-word : (line : List ℕ) → All IsByte line → (ws : List Word) → All (λ w. All IsByte (text_of line w)) ws
each-word line small [] = All-nil _
each-word line small (w ∷ ws) =
    All-cons (λ v. All IsByte (text_of line v)) w ws (word-bytes line small w) (each-word line small ws)

pub texts-bytes : (line : List ℕ) → All IsByte line → AreWordsOfBytes (texts_of line)
texts-bytes line small = All-map (All IsByte) (text_of line) (words_of line) (each-word line small (words_of line))

-- ---- names

name_byte : (b : ℕ) → is_name_byte b ≡ true → IsByte b
unfolding is_name_byte
name_byte b h = grind (arith, nat_tests)

pub is_name-range : (name : List ℕ) → is_name name ≡ true → IsShortName name
unfolding is_name
is_name-range name h =
    let p =
    and_parts (is_letter (slice_index name 0) && nat_le (length name) name_limit) (list_all is_name_byte name) h in
    let q = and_parts (is_letter (slice_index name 0)) (nat_le (length name) name_limit) p.0 in
    record {
      short = leb-true (length name) name_limit q.1;
      bytes =
          All-weaker (λ b. is_name_byte b ≡ true) IsByte name_byte name (AllPass-from_list_all is_name_byte name p.1);
    }

pub name_of-range : (word : List ℕ) → IfSome (name_of word) IsShortName
name_of-range word = by_cond (is_name word) (λ o. IfSome o IsShortName) (Some word) None (is_name-range word) (λ _. tt)

-- ---- texts in quotes

digit-below : (b : ℕ) → IfSome (digit_of b) (λ n. n < 16)
unfolding digit_of
digit-below b =
    let P : Option ℕ → Type 0 = λ o. IfSome o (λ n. n < 16) in
    by_cond (leb 48 b && leb b 57) P _ _ (λ is. let le = leb-true b 57 (and_parts (leb 48 b) _ is).1 in omega arith)
    (λ _. by_cond (leb 97 b && leb b 102) P _ _
    (λ is. let le = leb-true b 102 (and_parts (leb 97 b) _ is).1 in omega arith)
    (λ _. by_cond (leb 65 b && leb b 70) P _ _
    (λ is. let le = leb-true b 70 (and_parts (leb 65 b) _ is).1 in omega arith) (λ _. tt)))

abbrev IfBytes : Option (List ℕ) → Type 0
IfBytes o = IfSome o (All IsByte)

in_front : (b : ℕ) (others : Option (List ℕ)) → IsByte b → IfBytes others → IfBytes (before b others)
in_front b None small h = tt
in_front b (Some bytes) small h = All-cons IsByte b bytes small h

-- the byte of two digits
pair : (high low : Option ℕ) (others : Option (List ℕ)) → IfSome high (λ n. n < 16) → IfSome low (λ n. n < 16)
    → IfBytes others → IfBytes (option_and_then (λ x. option_and_then (λ y. before (x * 16 + y) others) low) high)
pair None low others h l o = tt
pair (Some x) None others h l o = tt
pair (Some x) (Some y) others h l o = in_front (x * 16 + y) others (omega (arith, h, l)) o

mutual
  unfolding bytes_between escaped_bytes hex_bytes

  between-bytes : (bs : List ℕ) → All IsByte bs → IfBytes (bytes_between bs)
  between-bytes [] small = All-nil IsByte
  between-bytes (b ∷ bs) small =
      let rest = All-tail IsByte b bs small in
      by_cond (eqb b 92) IfBytes _ _ (λ _. escaped-bytes bs rest)
      (λ _. by_cond (eqb b 34) IfBytes _ _ (λ _. tt)
      (λ _. in_front b (bytes_between bs) (All-head IsByte b bs small) (between-bytes bs rest)))

  escaped-bytes : (bs : List ℕ) → All IsByte bs → IfBytes (escaped_bytes bs)
  escaped-bytes [] small = tt
  escaped-bytes (b ∷ bs) small =
      let rest = All-tail IsByte b bs small in
      by_cond (eqb b 110) IfBytes _ _ (λ _. in_front 10 (bytes_between bs) (omega arith) (between-bytes bs rest))
      (λ _. by_cond (eqb b 92) IfBytes _ _ (λ _. in_front 92 (bytes_between bs) (omega arith) (between-bytes bs rest))
      (λ _. by_cond (eqb b 34) IfBytes _ _ (λ _. in_front 34 (bytes_between bs) (omega arith) (between-bytes bs rest))
      (λ _. by_cond (eqb b 120) IfBytes _ _ (λ _. hex-bytes bs rest) (λ _. tt))))

  hex-bytes : (bs : List ℕ) → All IsByte bs → IfBytes (hex_bytes bs)
  hex-bytes [] small = tt
  hex-bytes (h ∷ []) small = tt
  hex-bytes (h ∷ l ∷ bs) small =
      pair (digit_of h) (digit_of l) (bytes_between bs) (digit-below h) (digit-below l)
      (between-bytes bs (All-tail IsByte l bs (All-tail IsByte h (l ∷ bs) small)))

pub quoted-bytes : (word : List ℕ) → All IsByte word → IfSome (quoted_bytes word) (All IsByte)
unfolding quoted_bytes
quoted-bytes word small =
    by_cond (leb 2 (length word) && eqb (slice_index word 0) 34 && eqb (slice_index word (length word - 1)) 34) IfBytes
    (bytes_between (take (length word - 2) (drop 1 word))) None
    (λ _. between-bytes (take (length word - 2) (drop 1 word))
    (All-take IsByte (length word - 2) (drop 1 word) (All-drop IsByte 1 word small))) (λ _. tt)
