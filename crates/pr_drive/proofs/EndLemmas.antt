use Rattle.std.proofs.Common.{◌≡◌, ◌+◌, ◌++◌, ◌⊎◌, inl, inr, ℕ, Bool, true, false, List, [], ◌∷◌, Option}
use Rattle.std.proofs.Common.{Some, None, Result, Ok, Err, OnErr, length, refl, sym, ap, subst, ◌∙◌}
use Rattle.std.proofs.Common.{arith, append_assoc, append-nil, length-append}
use Rattle.std.proofs.lemmas.List.{take_all}
use Rattle.pr_asks.specs.Asks.{ask_of, name_of}
use Rattle.pr_asks.specs.declared.asks.Ask.{Ask}
use Rattle.pr_asks.specs.declared.asks.AskKind.{AskKind}
use Rattle.pr_io.specs.Known.{with_end}
use Rattle.pr_io.specs.Writing.{AppendsFront}
use Rattle.pr_io.specs.declared.sources.ReadEnd.{ReadEnd}
use Rattle.pr_io.specs.declared.sources.ReadEnd.TheVariants as read
use Rattle.pr_output.specs.Output.{AppendsSome, refusal_text}
use Rattle.pr_output.specs.declared.cuts.Cut.{Cut}
use Rattle.pr_output.specs.declared.cuts.Cut.TheVariants as write
use Rattle.pr_drive.specs.Exchanges.{Answers, Writes}
use Rattle.pr_drive.specs.Inputs.{Asked, AskedInVain, Input, Took}
use Rattle.pr_drive.specs.Rounds.{FinishesRound, RoundsState}
use Rattle.pr_drive.specs.Sessions.{AnsweredAll, AnsweredIf, AnsweredLine, AnsweredNext, AnsweredNone, AnsweredSome}
use Rattle.pr_drive.specs.Sessions.{AnsweredUnread, UnreadNext}
use Rattle.pr_drive.specs.Sessions.{AnswersRead, AsksEnd, CameOf, CutAnswer, CutAt}
use Rattle.pr_drive.specs.Sessions.{CutNext, Exchange, Exchanged, Exchanges, PutAnswer}
use Rattle.pr_drive.specs.Sessions.{Stand, came_of, is_end, is_last, last_number, replies_of}
use Rattle.pr_drive.specs.Statuses.{cut_off, read_off}
use Rattle.pr_drive.specs.declared.answers.Came.{Came}
use Rattle.pr_drive.specs.declared.answers.Came.TheVariants as came
use Rattle.pr_drive.specs.declared.ends.CutOff.{CutOff}
use Rattle.pr_drive.specs.declared.ends.CutOff.TheVariants as cut
use Rattle.pr_drive.proofs.InputLemmas.{Takes, takes-asked, takes-none, takes-some}

-- How lines are answered, from a source to a sink.

-- ---- what a failed read and a failed write come to

-- a read that failed
pub unread : (e : ReadEnd) (y : CutOff) (P : Type 0) → y ≡ read_off e → (e ≡ read.Failed → P) → y ≡ cut.ReadFailed → P
unread read.Failed y P is h failed = h refl
unread read.TooLong y P is h failed = let no : cut.NoMemory ≡ cut.ReadFailed = sym is ∙ failed in cc
unread read.NoMemory y P is h failed = let no : cut.NoMemory ≡ cut.ReadFailed = sym is ∙ failed in cc

-- and where none failed
pub read-fine : (e : ReadEnd) (y : CutOff) → y ≡ read_off e → (y ≡ cut.ReadFailed → ⊥) → e ≡ read.Failed → ⊥
read-fine e y is fine failed = fine (is ∙ ap read_off failed)

pub unwritten : (e : Cut) (y : CutOff) (P : Type 0) → y ≡ cut_off e → (e ≡ write.WriteFailed → P) → y ≡ cut.WriteFailed
    → P
unwritten write.WriteFailed y P is h failed = h refl
unwritten write.NoMemory y P is h failed = let no : cut.NoMemory ≡ cut.WriteFailed = sym is ∙ failed in cc

pub write-fine : (e : Cut) (y : CutOff) → y ≡ cut_off e → (y ≡ cut.WriteFailed → ⊥) → e ≡ write.WriteFailed → ⊥
write-fine e y is fine failed = fine (is ∙ ap cut_off failed)

-- what was put of a text where it was not put whole
pub put-some : (e : Cut) (old new : Option (List ℕ)) (text : List ℕ)
    → (e ≡ write.WriteFailed → AppendsFront old new text) → (e ≡ write.NoMemory → AppendsSome old new text)
    → AppendsSome old new text
put-some write.WriteFailed old new text failed memory = let front = failed refl in record
    { count = front.count; appended = front.appended }
put-some write.NoMemory old new text failed memory = memory refl

pub front-some : (old new : Option (List ℕ)) (text : List ℕ) → AppendsFront old new text → AppendsSome old new text
front-some old new text front = record { count = front.count; appended = front.appended }

-- what holds at an exit whatever is returned there
pub on-err : {T E : Type 0} (P : Type 0) (r : Result T E) → P → OnErr r P
on-err P (Ok x) p = tt
on-err P (Err e) p = p

-- ---- one line

-- the text stands in an empty buffer
pub whole-text : (before after text : List ℕ) → before ≡ [] → after ≡ before ++ text → after ≡ text
whole-text before after text none all = all ∙ ap (λ (b : List ℕ). b ++ text) none

pub put-whole : (asked : Ask) (over : Bool) (a b : RoundsState) (before after : List ℕ) (old new : Option (List ℕ))
    → before ≡ [] → Writes before after (Answers asked over a b) → new ≡ with_end old after
    → PutAnswer asked over a b old new
put-whole asked over a b before after old new none h all = record {
  text = h.text;
  answers = h.is;
  written = all ∙ ap (with_end old) (whole-text before after h.text none h.written);
}

pub put-cut : (asked : Ask) (over : Bool) (a b : RoundsState) (before after : List ℕ) (old new : Option (List ℕ))
    → before ≡ [] → Writes before after (Answers asked over a b) → AppendsFront old new after
    → CutAnswer asked a old new
put-cut asked over a b before after old new none h front = record {
  over = over;
  new = b;
  text = h.text;
  answers = h.is;
  written = subst (AppendsSome old new) (whole-text before after h.text none h.written)
      (front-some old new after front);
}

answers-read : (number : ℕ) (read : Result Ask AskKind) (asked : Ask) (over : Bool) (a b : RoundsState) (text : List ℕ)
    → read ≡ Ok asked → is_end asked ≡ false → Answers asked over a b text → AnswersRead number read over a b text
answers-read number read asked over a b text is on h = let P : Result Ask AskKind
    → Type 0 = λ r. AnswersRead number r over a b text in subst P (sym is) (on, h)

refused-read : (number : ℕ) (read : Result Ask AskKind) (kind : AskKind) (a : RoundsState) → read ≡ Err kind
    → AnswersRead number read false a a (refusal_text number (name_of kind))
refused-read number read kind a is =
    let P : Result Ask AskKind → Type 0 = λ r. AnswersRead number r false a a (refusal_text number (name_of kind)) in
    subst P (sym is) (refl, record { same = refl; told = refl })

asks-end : (read : Result Ask AskKind) (asked : Ask) → read ≡ Ok asked → is_end asked ≡ true → AsksEnd read
asks-end read asked is on = subst AsksEnd (sym is) on

pub line-end : (number : ℕ) (line : List ℕ) (asked : Ask) (a : RoundsState) (w : Option (List ℕ))
    → ask_of line ≡ Ok asked → is_end asked ≡ true → CameOf came.End number line a a w w
line-end number line asked a w is on = record
    { asks = asks-end (ask_of line) asked is on; same = refl; unwritten = refl }

pub line-came : (over : Bool) (number : ℕ) (line : List ℕ) (asked : Ask) (a b : RoundsState) (old new : Option (List ℕ))
    → ask_of line ≡ Ok asked → is_end asked ≡ false → PutAnswer asked over a b old new
    → CameOf (came_of over) number line a b old new
unfolding came_of
line-came true number line asked a b old new is on put = record {
  text = put.text;
  answers = answers-read number (ask_of line) asked true a b put.text is on put.answers;
  written =
      put.written;
}
line-came false number line asked a b old new is on put = record {
  text = put.text;
  answers = answers-read number (ask_of line) asked false a b put.text is on put.answers;
  written =
      put.written;
}

pub line-cut : (number : ℕ) (line : List ℕ) (asked : Ask) (a : RoundsState) (old new : Option (List ℕ))
    → ask_of line ≡ Ok asked → is_end asked ≡ false → (new ≡ old) ⊎ CutAnswer asked a old new
    → CutAt number line a old new
line-cut number line asked a old new is on (inl none) = inl none
line-cut number line asked a old new is on (inr h) =
    inr (record {
      over = h.over;
      new = h.new;
      text = h.text;
      answers = answers-read number (ask_of line) asked h.over a h.new
          h.text is on h.answers;
      written = h.written;
    })

pub line-refused : (number : ℕ) (line : List ℕ) (kind : AskKind) (a : RoundsState) (old new : Option (List ℕ))
    → ask_of line ≡ Err kind → new ≡ with_end old (refusal_text number (name_of kind))
    → CameOf came.Still number line a a old new
line-refused number line kind a old new is told = record
    { text = refusal_text number (name_of kind); answers = refused-read number (ask_of line) kind a is; written = told }

pub refusal-cut : (number : ℕ) (line : List ℕ) (kind : AskKind) (a : RoundsState) (old new : Option (List ℕ))
    → ask_of line ≡ Err kind → AppendsSome old new (refusal_text number (name_of kind)) → CutAt number line a old new
refusal-cut number line kind a old new is told =
    inr (record {
      over = false;
      new = a;
      text = refusal_text number (name_of kind);
      answers = refused-read number (ask_of line)
          kind a is;
      written = told;
    })

-- ---- the next line

abbrev pub stand : Input → RoundsState → Stand
stand from rounds = record { input = from; rounds = rounds }

-- there is no next line
pub next-none : (there : Bool) (line : List ℕ) (old new : Input) (a : RoundsState) (w : Option (List ℕ)) → there ≡ false
    → Takes there line old new → AnsweredNone (stand old a) (stand new a) w w
next-none there line old new a w absent h =
    record { ends = inr (record { end = takes-none there line old new absent h }); same = refl; unwritten = refl }

-- it is the end
pub next-end : (there : Bool) (c : Came) (number : ℕ) (line : List ℕ) (old new : Input) (a b : RoundsState)
    (v w : Option (List ℕ)) → there ≡ true → Takes there line old new → is_last c ≡ true
    → CameOf c number line a b v w → AnsweredNone (stand old a) (stand new b) v w
next-end there came.End number line old new a b v w yes_there h last end = record {
  ends = inl (record { line = line; took = takes-some there line old new yes_there h; asks = end.asks });
  same = end.same;
  unwritten = end.unwritten;
}
next-end there came.Over number line old new a b v w yes_there h last end = cc
next-end there came.Still number line old new a b v w yes_there h last end = cc

-- it is answered, and others had their turn
pub next-answered : (there : Bool) (c : Came) (number : ℕ) (line : List ℕ) (old new : Input) (a b d : RoundsState)
    (v w : Option (List ℕ)) → there ≡ true → Takes there line old new → is_last c ≡ false
    → CameOf c number line a b v w → (c ≡ came.Over → FinishesRound 0 b d) → (c ≡ came.Still → d ≡ b)
    → AnsweredNext number (stand old a) (stand new d) v w
next-answered there came.End number line old new a b d v w yes_there h last one over still = cc
next-answered there came.Over number line old new a b d v w yes_there h last one over still = record {
  exchange = record { line = line; reply = one.text };
  exchanged = record {
    took = takes-some there line old new yes_there h;
    over = true;
    answered = b;
    answers = one.answers;
    passes =
        over refl;
  };
  written = one.written;
}
next-answered there came.Still number line old new a b d v w yes_there h last one over still = record {
  exchange = record { line = line; reply = one.text };
  exchanged = record {
    took = takes-some there line old new yes_there h;
    over = false;
    answered = b;
    answers = one.answers;
    passes =
        still refl;
  };
  written = one.written;
}

-- it was asked for, and nothing was written for it
pub next-asked : (number : ℕ) (old : Input) (left : Option (List ℕ)) (a : RoundsState) (v : Option (List ℕ))
    → Asked old left → CutNext number (stand old a) left v v
next-asked number old left a v asked = inl (record { asked = asked; unwritten = refl })

pub next-unread : (old : Input) (left : Option (List ℕ)) (a : RoundsState) (v : Option (List ℕ)) → AskedInVain old left
    → UnreadNext (stand old a) left v v
next-unread old left a v asked = record { asked = asked; unwritten = refl }

-- the session is cut off at it
pub next-cut : (there : Bool) (number : ℕ) (line : List ℕ) (old new : Input) (a : RoundsState) (v w : Option (List ℕ))
    → there ≡ true → Takes there line old new → CutAt number line a v w → CutNext number (stand old a) new.left v w
next-cut there number line old new a v w yes_there h (inl none) =
    inl (record { asked = takes-asked there line old new h; unwritten = none })
next-cut there number line old new a v w yes_there h (inr one) =
    inr (record {
      line = line;
      rest = new;
      took = takes-some there line old new yes_there h;
      left_is = refl;
      cut = one;
    })

-- or in the others' turn behind it, where the reply is written whole
whole : (old new : Option (List ℕ)) (text : List ℕ) → new ≡ with_end old text → AppendsSome old new text
whole old new text all = record
    { count = length text; appended = all ∙ ap (with_end old) (sym (take_all (length text) text (omega arith))) }

answered-cut : (number : ℕ) (line : List ℕ) (over : Bool) (old new : Input) (a b : RoundsState) (v w : Option (List ℕ))
    → Took line old new → AnsweredLine number line over a b v w → CutNext number (stand old a) new.left v w
answered-cut number line over old new a b v w taken one =
    inr (record {
      line = line;
      rest = new;
      took = taken;
      left_is = refl;
      cut = record
          { over = over; new = b; text = one.text; answers = one.answers; written = whole v w one.text one.written };
    })

pub pass-cut : (there : Bool) (c : Came) (number : ℕ) (line : List ℕ) (old new : Input) (a b : RoundsState)
    (v w : Option (List ℕ)) → there ≡ true → Takes there line old new → CameOf c number line a b v w
    → CutNext number (stand old a) new.left v w
pass-cut there came.End number line old new a b v w yes_there h end =
    inl (record { asked = takes-asked there line old new h; unwritten = end.unwritten })
pass-cut there came.Over number line old new a b v w yes_there h one =
    answered-cut number line true old new a b v w (takes-some there line old new yes_there h) one
pass-cut there came.Still number line old new a b v w yes_there h one =
    answered-cut number line false old new a b v w (takes-some there line old new yes_there h) one

-- ---- one line after another

pub record AnsweredSoFar (above count : ℕ) (a b : Stand) (v w : Option (List ℕ)) : Type 0 where
  pub exchanges : List Exchange
  pub answered : Exchanges (above + 1) exchanges a b
  pub written : w ≡ with_end v (replies_of exchanges)
  pub number : count ≡ above + length exchanges

with_end-nil : (v : Option (List ℕ)) → v ≡ with_end v []
unfolding with_end
with_end-nil None = refl
with_end-nil (Some bytes) = ap Some (sym (append-nil bytes))

with_end-more : (v : Option (List ℕ)) (xs ys : List ℕ) → with_end (with_end v xs) ys ≡ with_end v (xs ++ ys)
unfolding with_end
with_end-more None xs ys = refl
with_end-more (Some bytes) xs ys = ap Some (append_assoc bytes xs ys)

pub so-far-none : (above : ℕ) (a : Stand) (v : Option (List ℕ)) → AnsweredSoFar above above a a v v
so-far-none above a v = record { exchanges = []; answered = refl; written = with_end-nil v; number = omega arith }

exchanges-push : (xs : List Exchange) (n m : ℕ) (x : Exchange) (a b c : Stand) → m ≡ n + length xs → Exchanges n xs a b
    → Exchanged m x b c → Exchanges n (xs ++ x ∷ []) a c
exchanges-push [] n m x a b c is far one =
    let at : m ≡ n = omega (arith, is) in
    (c, (subst (λ (k : ℕ). Exchanged k x a c) at (subst (λ (s : Stand). Exchanged m x s c) far one), refl))
exchanges-push (y ∷ xs) n m x a b c is far one =
    (far.0, (far.1.0, exchanges-push xs (n + 1) m x far.0 b c (omega (arith, is)) far.1.1 one))

replies-push : (xs : List Exchange) (x : Exchange) → replies_of (xs ++ x ∷ []) ≡ replies_of xs ++ x.reply
replies-push [] x = append-nil x.reply
replies-push (y ∷ xs) x = ap (λ (r : List ℕ). y.reply ++ r) (replies-push xs x)
    ∙ sym (append_assoc y.reply (replies_of xs) x.reply)

pub so-far-more : (above count : ℕ) (a b c : Stand) (v w z : Option (List ℕ)) (answered : Bool) → answered ≡ true
    → AnsweredSoFar above count a b v w → AnsweredIf answered (count + 1) b c w z
    → AnsweredSoFar above (count + 1) a c v z
so-far-more above count a b c v w z answered is far h =
    let one : AnsweredNext (count + 1) b c w z = subst (λ (x : Bool). AnsweredIf x (count + 1) b c w z) is h in
    record {
      exchanges = far.exchanges ++ one.exchange ∷ [];
      answered = exchanges-push far.exchanges (above + 1) (count + 1) one.exchange a b c (omega (arith, far.number))
          far.answered one.exchanged;
      written =
          one.written ∙ ap (λ (r : Option (List ℕ)). with_end r one.exchange.reply) far.written
          ∙ with_end-more v (replies_of far.exchanges) one.exchange.reply
          ∙ ap (with_end v) (sym (replies-push far.exchanges one.exchange));
      number = omega (arith, far.number, length-append far.exchanges (one.exchange ∷ []));
    }

pub so-far-end : (above count : ℕ) (a b c : Stand) (v w z : Option (List ℕ)) (answered : Bool) → answered ≡ false
    → AnsweredSoFar above count a b v w → AnsweredIf answered (count + 1) b c w z → AnsweredAll above a c v z
so-far-end above count a b c v w z answered is far h =
    let none : AnsweredNone b c w z = subst (λ (x : Bool). AnsweredIf x (count + 1) b c w z) is h in
    record {
      exchanges = far.exchanges;
      reached = b;
      answered = far.answered;
      written = none.unwritten ∙ far.written;
      same = none.same;
      no_more = inl none.ends;
    }

pub so-far-last : (above count : ℕ) (a b : Stand) (v w : Option (List ℕ)) → count ≡ last_number
    → AnsweredSoFar above count a b v w → AnsweredAll above a b v w
so-far-last above count a b v w last far = record {
  exchanges = far.exchanges;
  reached = b;
  answered = far.answered;
  written = far.written;
  same = refl;
  no_more = inr (sym far.number ∙ last, refl);
}

pub so-far-cut : (above count : ℕ) (a b : Stand) (left v w z : Option (List ℕ)) → AnsweredSoFar above count a b v w
    → CutNext (count + 1) b left w z → AnsweredSome above a left v z
so-far-cut above count a b left v w z far cut = record {
  exchanges = far.exchanges;
  reached = b;
  answered = far.answered;
  replies = w;
  written = far.written;
  cut = subst (λ (n : ℕ). CutNext n b left w z) (ap (λ (n : ℕ). n + 1) far.number) cut;
}

pub so-far-unread : (above count : ℕ) (a b : Stand) (left v w z : Option (List ℕ)) → AnsweredSoFar above count a b v w
    → UnreadNext b left w z → AnsweredUnread above a left v z
so-far-unread above count a b left v w z far unread = record {
  exchanges = far.exchanges;
  reached = b;
  answered = far.answered;
  written = unread.unwritten ∙ far.written;
  asked = unread.asked;
}
