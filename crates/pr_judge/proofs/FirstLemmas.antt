-- The judgement of a history is a function of it: the first entry that is not legal.
use Rattle.std.proofs.Common.{◌≡◌, ◌==◌, ◌<◌, ◌+◌, ℕ, Bool, true, false, cond, Option, Some, None, option_map, List, [], ◌∷◌, nat_lt, not, refl, suc, sym, ◌∙◌, ap, subst, arith, zero}
use Rattle.std.proofs.lemmas.Bool.{and_from, and_parts, eqb-true}
use Rattle.std.proofs.lemmas.Bool.Decides.{nat_tests}
use Rattle.std.proofs.lemmas.Option.{same_Some}
use Rattle.pr_num.specs.Limits.{clock_limit}
use Rattle.pr_model.specs.Calls.{Answer, answer_to}
use Rattle.pr_model.specs.Legal.{IsLegal, IsLegalEntry, after}
use Rattle.pr_model.specs.LwpTurns.{LwpTurn, turn_of}
use Rattle.pr_model.specs.State.{TracedState, TracedSystem}
use Rattle.pr_model.specs.declared.calls.Reply.{Reply}
use Rattle.pr_model.specs.declared.events.Act.{Act}
use Rattle.pr_model.specs.declared.events.Act.TheVariants.{Call, Turn, Tick}
use Rattle.pr_model.specs.declared.events.Actor.{Actor}
use Rattle.pr_model.specs.declared.events.Actor.TheVariants.{Controller, Lwp, Clock}
use Rattle.pr_model.specs.declared.events.Entry.{Entry}
use Rattle.pr_model.specs.declared.events.Turned.{Turned}
use Rattle.pr_judge.proofs.ReplyLemmas.{same-is, same-self}
use Rattle.pr_judge.proofs.TurnLemmas.{did-self, equal-self, turn-is}
use Rattle.pr_judge.specs.Judgements.{IsFirstIllegal, Judges, answers_so, first_illegal, is_legal_entry, turns_so}
use Rattle.pr_judge.specs.Turns.{same_turn}

-- ---- turns

same-stop : (a b : Bool) → cond a b (not b) ≡ true → a ≡ b
same-stop true b h = sym h
same-stop false true h = cc
same-stop false false h = refl

stop-self : (a : Bool) → cond a a (not a) ≡ true
stop-self true = refl
stop-self false = refl

same-turn-is : (a b : Turned) → same_turn a b ≡ true → a ≡ b
unfolding same_turn
same-turn-is a b h = turn-is a b (same-stop a.stop b.stop (and_parts _ _ h).0) (and_parts _ _ h).1

same-turn-self : (a : Turned) → same_turn a a ≡ true
unfolding same_turn
same-turn-self a = and_from _ _ (stop-self a.stop) (did-self a.did)

-- ---- an entry is legal where it is found to be

answered : (o : Option Answer) (r : Reply) → answers_so o r ≡ true
    → (state : TracedState) × (o ≡ Some (record { state = state; reply = r }))
answered None r h = cc
answered (Some a) r h = (
  a.state,
  ap (λ (x : Reply). let y : Answer = record { state = a.state; reply = x } in Some y) (same-is a.reply r h),
)

answers : (o : Option Answer) (r : Reply) (state : TracedState) → o ≡ Some (record { state = state; reply = r })
    → answers_so o r ≡ true
answers o r state is = subst (λ (x : Option Answer). answers_so x r ≡ true) (sym is) (same-self r)

turned : (o : Option LwpTurn) (t : Turned) → turns_so o t ≡ true
    → (system : TracedSystem) × (o ≡ Some (record { system = system; turned = t }))
turned None t h = cc
turned (Some a) t h = (
  a.system,
  ap (λ (x : Turned). let y : LwpTurn = record { system = a.system; turned = x } in Some y)
      (same-turn-is a.turned t h),
)

turns : (o : Option LwpTurn) (t : Turned) (system : TracedSystem) → o ≡ Some (record { system = system; turned = t })
    → turns_so o t ≡ true
turns o t system is = subst (λ (x : Option LwpTurn). turns_so x t ≡ true) (sym is) (same-turn-self t)

below : (a b : ℕ) → nat_lt a b ≡ true → a < b
below a b h = grind (arith, nat_tests)

is-below : (a b : ℕ) → a < b → nat_lt a b ≡ true
is-below a b h = grind (arith, nat_tests)

found : (n : ℕ) (s : TracedState) (actor : Actor) (act : Act)
    → is_legal_entry n s (record { actor = actor; act = act }) ≡ true
    → IsLegalEntry n s (record { actor = actor; act = act })
unfolding is_legal_entry IsLegalEntry
found n s (Controller k) (Call c r) h =
    (below k n (and_parts _ _ h).0, answered (answer_to s k c) r (and_parts _ _ h).1)
found n s (Lwp p l) (Turn t) h = turned (turn_of s.system p l) t h
found n s Clock (Tick m) h = (below s.system.clock clock_limit (and_parts _ _ h).0, eqb-true _ _ (and_parts _ _ h).1)
found n s _ _ h = cc

finds : (n : ℕ) (s : TracedState) (actor : Actor) (act : Act) → IsLegalEntry n s (record { actor = actor; act = act })
    → is_legal_entry n s (record { actor = actor; act = act }) ≡ true
unfolding is_legal_entry IsLegalEntry
finds n s (Controller k) (Call c r) legal =
    and_from _ _ (is-below k n legal.0) (answers (answer_to s k c) r legal.1.0 legal.1.1)
finds n s (Lwp p l) (Turn t) legal = turns (turn_of s.system p l) t legal.0 legal.1
finds n s Clock (Tick m) legal =
    and_from _ _ (is-below s.system.clock clock_limit legal.0)
    (ap (λ (x : ℕ). x == s.system.clock + 1) legal.1 ∙ equal-self (s.system.clock + 1))
finds n s _ _ legal = absurd legal

-- ---- the first that is not

all-legal : (n : ℕ) (s : TracedState) (h : List Entry) → IsLegal n s h → first_illegal n s h ≡ None
unfolding first_illegal
all-legal n s [] legal = refl
all-legal n s (e ∷ es) legal =
    ap (λ (b : Bool). cond b (option_map (λ place. suc place) (first_illegal n (after s e) es)) (Some 0))
    (finds n s e.actor e.act legal.0)
    ∙ ap (option_map (λ place. suc place)) (all-legal n (after s e) es legal.1)

one-illegal : (n : ℕ) (s : TracedState) (h : List Entry) (place : ℕ) → IsFirstIllegal n s h place
    → first_illegal n s h ≡ Some place
unfolding first_illegal
one-illegal n s [] place first = absurd (omega (arith, first.within))
one-illegal n s (e ∷ es) zero first = by (is_legal_entry n s e) refl
  where
    by : (b : Bool) → is_legal_entry n s e ≡ b
        → cond b (option_map (λ place. suc place) (first_illegal n (after s e) es)) (Some 0) ≡ Some 0
    by true is = absurd (first.illegal e refl (found n s e.actor e.act is))
    by false is = refl
one-illegal n s (e ∷ es) (suc place) first =
    ap (λ (b : Bool). cond b (option_map (λ place. suc place) (first_illegal n (after s e) es)) (Some 0))
    (finds n s e.actor e.act first.before.0)
    ∙ ap (option_map (λ place. suc place))
    (one-illegal n (after s e) es place
    (record { within = omega (arith, first.within); before = first.before.1; illegal = first.illegal }))

-- What judges a history is the first entry of it that is not legal.
pub judged-first : (n : ℕ) (s : TracedState) (h : List Entry) (first : Option ℕ) → Judges n s h first
    → first ≡ first_illegal n s h
judged-first n s h None legal = sym (all-legal n s h legal)
judged-first n s h (Some place) illegal = sym (one-illegal n s h place illegal)

-- That judges it.
pub first-judges : (n : ℕ) (s : TracedState) (h : List Entry) → Judges n s h (first_illegal n s h)
unfolding first_illegal
first-judges n s [] = tt
first-judges n s (e ∷ es) =
    by (is_legal_entry n s e) refl (first_illegal n (after s e) es) (first-judges n (after s e) es)
  where
    by : (b : Bool) → is_legal_entry n s e ≡ b → (rest : Option ℕ) → Judges n (after s e) es rest
        → Judges n s (e ∷ es) (cond b (option_map (λ place. suc place) rest) (Some 0))
    by true is None legal = (found n s e.actor e.act is, legal)
    by true is (Some place) first =
        record {
          within = omega (arith, first.within);
          before = (found n s e.actor e.act is, first.before);
          illegal =
              first.illegal;
        }
    by false is rest judges = record {
      within = omega arith;
      before = tt;
      illegal = λ x at legal.
          let no : true ≡ false =
          sym (finds n s e.actor e.act (subst (IsLegalEntry n s) (sym (same_Some e x at)) legal)) ∙ is in
          cc;
    }
