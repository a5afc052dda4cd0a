use Rattle.std.proofs.Common.{◌≡◌, ◌<◌, ◌≤◌, ◌+◌, ◌++◌, inl, ℕ, Bool, true, false, List, [], ◌∷◌, Option}
use Rattle.std.proofs.Common.{length, refl, sym, ap, subst, ◌∙◌, arith, append_assoc, append-nil, length-append}
use Rattle.std.proofs.lemmas.List.Elements.{All-append, All-cons, All-nil}
use Rattle.pr_num.specs.Limits.{scenario_limit}
use Rattle.pr_text.specs.TextLines.{newline}
use Rattle.pr_drive.specs.declared.readings.Opening.{Opening}
use Rattle.pr_drive.specs.declared.readings.Opening.TheVariants as opening
use Rattle.pr_drive.specs.Inputs.{Asked, AskedInVain, Input, Took}
use Rattle.pr_drive.specs.Served.{CutAbove, NoMark, OpensAs, OpensText, TookAbove, TookLines, TookText, TooMuch}
use Rattle.pr_drive.specs.Served.{UnreadAbove, is_mark, text_of}
use Rattle.pr_drive.proofs.InputLemmas.{Takes, takes-none, takes-some, took-asked}

-- The text above the line between a scenario and its calls, line by line.

pub record TookSoFar (text : List ℕ) (n : ℕ) (old now : Input) : Type 0 where
  pub lines : List (List ℕ)
  pub took : TookAbove lines old now
  pub is : text ≡ text_of lines
  pub count : n ≡ length lines

pub took-none : (text : List ℕ) (old : Input) → text ≡ [] → TookSoFar text 0 old old
took-none text old none = record {
  lines = [];
  took = record { took = refl; above = All-nil (λ line. is_mark line ≡ false); within = omega arith };
  is = none;
  count = refl;
}

lines-push : (ls : List (List ℕ)) (l : List ℕ) (a b c : Input) → TookLines ls a b → Took l b c
    → TookLines (ls ++ l ∷ []) a c
lines-push [] l a b c far one = (c, (subst (λ (s : Input). Took l s c) far one, refl))
lines-push (x ∷ ls) l a b c far one = (far.0, (far.1.0, lines-push ls l far.0 b c far.1.1 one))

text-push : (ls : List (List ℕ)) (l : List ℕ) → text_of (ls ++ l ∷ []) ≡ text_of ls ++ (l ++ newline ∷ [])
text-push [] l = append-nil (l ++ newline ∷ [])
text-push (x ∷ ls) l = ap (λ (r : List ℕ). (x ++ newline ∷ []) ++ r) (text-push ls l)
    ∙ sym (append_assoc (x ++ newline ∷ []) (text_of ls) (l ++ newline ∷ []))

text-count : (ls : List (List ℕ)) → length ls ≤ length (text_of ls)
text-count [] = omega arith
text-count (x ∷ ls) = omega
    (arith, length-append (x ++ newline ∷ []) (text_of ls), length-append x (newline ∷ []), text-count ls)

above-push : (ls : List (List ℕ)) (l : List ℕ) (a b c : Input) → TookAbove ls a b → Took l b c → is_mark l ≡ false
    → length (text_of (ls ++ l ∷ [])) ≤ scenario_limit → TookAbove (ls ++ l ∷ []) a c
above-push ls l a b c far one plain within = record {
  took = lines-push ls l a b c far.took one;
  above = All-append (λ line. is_mark line ≡ false) ls (l ∷ []) far.above
      (All-cons (λ line. is_mark line ≡ false) l [] plain (All-nil (λ line. is_mark line ≡ false)));
  within = within;
}

-- how long a text is with a line more
grown : (text : List ℕ) (ls : List (List ℕ)) (l : List ℕ) → text ≡ text_of ls
    → length (text_of (ls ++ l ∷ [])) ≡ length text + length l + 1
grown text ls l is =
    omega (
      arith,
      ap length (text-push ls l),
      length-append (text_of ls) (l ++ newline ∷ []),
      length-append l (newline ∷ []),
      ap length is,
    )

line-there : (there : Bool) (l : List ℕ) (a b : Input) → there ≡ true → Takes there l a b → Took l a b
line-there there l a b yes_there h = takes-some there l a b yes_there h

pub took-more : (text text' line : List ℕ) (n : ℕ) (old now new : Input) (there : Bool) → there ≡ true
    → TookSoFar text n old now → Takes there line now new → is_mark line ≡ false
    → length text + length line < scenario_limit
    → text' ≡ text ++ (line ++ newline ∷ []) → TookSoFar text' (n + 1) old new
took-more text text' line n old now new there yes_there far h plain few all = record {
  lines = far.lines ++ line ∷ [];
  took = above-push far.lines line old now new far.took (line-there there line now new yes_there h) plain
      (omega (arith, few, grown text far.lines line far.is));
  is = all ∙ ap (λ (r : List ℕ). r ++ (line ++ newline ∷ [])) far.is ∙ sym (text-push far.lines line);
  count = omega (arith, far.count, length-append far.lines (line ∷ []));
}

pub took-mark : (text line : List ℕ) (n : ℕ) (old now new : Input) (there : Bool) → there ≡ true
    → TookSoFar text n old now → Takes there line now new → is_mark line ≡ true → TookText text n old new
took-mark text line n old now new there yes_there far h is = record {
  lines = far.lines;
  count = far.count;
  is = far.is;
  reached = now;
  took = far.took;
  last = line;
  is_last = is;
  mark = line-there there line now new yes_there h;
}

pub took-end : (text line : List ℕ) (n : ℕ) (old now new : Input) (there : Bool) → there ≡ false
    → TookSoFar text n old now → Takes there line now new → NoMark old new
took-end text line n old now new there no_line far h =
    record { lines = far.lines; reached = now; took = far.took; end = takes-none there line now new no_line h }

pub took-much : (text line : List ℕ) (n : ℕ) (old now new : Input) (there : Bool) → there ≡ true
    → TookSoFar text n old now → Takes there line now new → is_mark line ≡ false
    → scenario_limit ≤ length text + length line → TooMuch old new
took-much text line n old now new there yes_there far h plain many = record {
  lines = far.lines;
  reached = now;
  took = far.took;
  last = line;
  is_last = plain;
  line = line-there there line now new yes_there h;
  above = omega (arith, grown text far.lines line far.is, many);
}

-- the session is cut off at a line above the mark, or behind it
pub cut-asking : (text : List ℕ) (n : ℕ) (old now : Input) (left : Option (List ℕ)) → TookSoFar text n old now
    → Asked now left → CutAbove old left
cut-asking text n old now left far asked =
    record { lines = far.lines; reached = now; took = far.took; asked = asked }

pub cut-mark : (text : List ℕ) (n : ℕ) (old new : Input) → TookText text n old new → CutAbove old new.left
cut-mark text n old new took =
    record {
      lines = took.lines;
      reached = took.reached;
      took = took.took;
      asked = took-asked took.last took.reached new took.mark;
    }

-- a read fails
pub unread-above : (text : List ℕ) (n : ℕ) (old now : Input) (left : Option (List ℕ)) → TookSoFar text n old now
    → AskedInVain now left → UnreadAbove old left
unread-above text n old now left far asked =
    record { lines = far.lines; reached = now; took = far.took; asked = asked }

pub text-within : (text : List ℕ) (n : ℕ) (old new : Input) → TookText text n old new
    → length text ≤ scenario_limit
text-within text n old new took = omega (arith, ap length took.is, took.took.within)

-- as each line has its newline, there are no more lines than bytes
pub took-never : (text : List ℕ) (n : ℕ) (old now : Input) (P : Type 0) → scenario_limit < n → TookSoFar text n old now
    → P
took-never text n old now P many far =
    absurd (omega (arith, many, far.count, far.took.within, text-count far.lines))

pub text-few : (text : List ℕ) (n : ℕ) (old new : Input) → TookText text n old new → n ≤ scenario_limit
text-few text n old new took = omega (arith, took.count, took.took.within, text-count took.lines)

-- how a session opens that has this text
pub opens-as : (o : Opening) (text : List ℕ) (lines : ℕ) (old new : Input) → TookText text lines old new
    → OpensText text lines o → OpensAs o old new
opens-as (opening.Session first above) text lines old new took h = record
    { text = text; lines = lines; took = took; opened = h }
opens-as (opening.Refused fault) text lines old new took h = inl
    (record { text = text; lines = lines; took = took; refuses = h })
