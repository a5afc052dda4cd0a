use Rattle.std.proofs.Common.{◌≡◌, ◌+◌, ◌++◌, ℕ, Bool, true, false, List, [], ◌∷◌}
use Rattle.std.proofs.Common.{Result, Ok, Err, IfOk, OnOk, length, refl, sym, ap, subst, ◌∙◌}
use Rattle.std.proofs.Common.{append_assoc, append-nil, length-append}
use Rattle.pr_model.specs.declared.events.Actor.{Actor}
use Rattle.pr_model.specs.declared.events.Entry.{Entry}
use Rattle.pr_drive.specs.Going.{IsMove, Moved, MovesIf, SeatsState, after_entries, after_entry}

-- Moves, one after another.

-- these entries are moves of others, whoever comes first
abbrev pub AreMoves : ℕ → SeatsState → List Entry → Type 0
AreMoves until s [] = Unit {0}
AreMoves until s (e ∷ es) = IsMove until s e × AreMoves until (after_entry e s) es

-- Others moved, while the outside waited until a moment, or 0.
pub record Goes (until : ℕ) (old new : SeatsState) : Type 0 where
  pub entries : List Entry
  pub moves : AreMoves until old entries
  pub is : new ≡ after_entries entries old

-- ---- what entries make of a state

pub entries-history : (es : List Entry) (s : SeatsState) → (after_entries es s).kernel.history ≡ s.kernel.history ++ es
entries-history [] s = sym (append-nil s.kernel.history)
entries-history (e ∷ es) s = entries-history es (after_entry e s) ∙ append_assoc s.kernel.history (e ∷ []) es

pub entries-places : (es : List Entry) (s : SeatsState) → (after_entries es s).kernel.places ≡ s.kernel.places
entries-places [] s = refl
entries-places (e ∷ es) s = entries-places es (after_entry e s)

pub entries-append : (xs ys : List Entry) (s : SeatsState)
    → after_entries (xs ++ ys) s ≡ after_entries ys (after_entries xs s)
entries-append [] ys s = refl
entries-append (x ∷ xs) ys s = entries-append xs ys (after_entry x s)

moves-append : (until : ℕ) (xs ys : List Entry) (s : SeatsState) → AreMoves until s xs
    → AreMoves until (after_entries xs s) ys → AreMoves until s (xs ++ ys)
moves-append until [] ys s mx my = my
moves-append until (x ∷ xs) ys s mx my = (mx.0, moves-append until xs ys (after_entry x s) mx.1 my)

-- ---- goings

pub goes-none : (until : ℕ) (s : SeatsState) → Goes until s s
goes-none until s = record { entries = []; moves = tt; is = refl }

pub goes-then : (until : ℕ) (a b c : SeatsState) → Goes until a b → Goes until b c → Goes until a c
goes-then until a b c first second = record {
  entries = first.entries ++ second.entries;
  moves =
      moves-append until first.entries second.entries a first.moves
      (subst (λ (s : SeatsState). AreMoves until s second.entries) first.is second.moves);
  is =
      second.is ∙ ap (after_entries second.entries) first.is
      ∙ sym (entries-append first.entries second.entries a);
}

pub moved-goes : (until : ℕ) (actor : Actor) (a b : SeatsState) → Moved until actor a b → Goes until a b
moved-goes until actor a b moved = record { entries = moved.entry ∷ []; moves = (moved.move, tt); is = moved.is }

pub stayed-goes : (until : ℕ) (a b : SeatsState) → b ≡ a → Goes until a b
stayed-goes until a b same = subst (λ (s : SeatsState). Goes until a s) (sym same) (goes-none until a)

pub if-goes : (until : ℕ) (actor : Actor) (moved : Bool) (a b : SeatsState) → MovesIf moved until actor a b
    → Goes until a b
if-goes until actor true a b moved = moved-goes until actor a b moved
if-goes until actor false a b stayed = stayed-goes until a b stayed.same

-- how many entries there are then
pub goes-history : (until : ℕ) (a b : SeatsState) (goes : Goes until a b)
    → b.kernel.history ≡ a.kernel.history ++ goes.entries
goes-history until a b goes = ap (λ (s : SeatsState). s.kernel.history) goes.is ∙ entries-history goes.entries a

pub goes-count : (until : ℕ) (a b : SeatsState) (goes : Goes until a b)
    → length b.kernel.history ≡ length a.kernel.history + length goes.entries
goes-count until a b goes = ap length (goes-history until a b goes) ∙ length-append a.kernel.history goes.entries

pub goes-places : (until : ℕ) (a b : SeatsState) → Goes until a b → b.kernel.places ≡ a.kernel.places
goes-places until a b goes = ap (λ (s : SeatsState). s.kernel.places) goes.is ∙ entries-places goes.entries a

-- ---- what holds where a result is Ok

pub on-ok : {T E : Type 0} (A B : Type 0) (r : Result T E) → (A → B) → OnOk r A → OnOk r B
on-ok A B (Ok x) f a = f a
on-ok A B (Err e) f a = tt

pub on-both : {T E : Type 0} (A B C : Type 0) (r : Result T E) → (A → B → C) → OnOk r A → OnOk r B → OnOk r C
on-both A B C (Ok x) f a b = f a b
on-both A B C (Err e) f a b = tt

pub if-ok : {T E : Type 0} (A B : T → Type 0) (r : Result T E) → ((x : T) → A x → B x) → IfOk r A → IfOk r B
if-ok A B (Ok x) f a = f x a
if-ok A B (Err e) f a = tt
