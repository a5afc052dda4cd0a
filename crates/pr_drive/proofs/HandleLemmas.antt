use Rattle.std.proofs.Common.{◌≡◌, ◌≢◌, ◌<◌, ◌≤◌, ◌+◌, ◌-◌, ◌++◌, ◌&&◌, ◌||◌, ◌⊎◌, inl, inr, ℕ, zero, suc, Bool, true}
use Rattle.std.proofs.Common.{false, not, cond, List, [], ◌∷◌, Option, Some, None, filter, is_some, map, refl}
use Rattle.std.proofs.Common.{sym, ap, subst, ◌∙◌, arith, append_assoc, append-nil}
use Rattle.std.proofs.lemmas.Bool.{and_parts, cases_eq, or_parts}
use Rattle.std.specs.List.{list_any, range_with_len}
use Rattle.pr_model.specs.Calls.{Answer, answer_to, interrupted_answer, is_interrupted, is_open_by, is_polled_ready}
use Rattle.pr_model.specs.Calls.{poll_answer, ready_answer, refused}
use Rattle.pr_model.specs.Handles.{handle_of}
use Rattle.pr_model.specs.Legal.{IsLegalEntry, after, after_call, after_turn}
use Rattle.pr_model.specs.LwpTurns.{LwpTurn, turn_of}
use Rattle.pr_model.specs.State.{Places, TracedState}
use Rattle.pr_model.specs.declared.calls.Call.{Call}
use Rattle.pr_model.specs.declared.events.Act.{Act}
use Rattle.pr_model.specs.declared.events.Act.TheVariants.{Call as Called, Turn, Tick}
use Rattle.pr_model.specs.declared.events.Actor.{Actor}
use Rattle.pr_model.specs.declared.events.Actor.TheVariants.{Controller, Lwp, Clock}
use Rattle.pr_model.specs.declared.events.Entry.{Entry}
use Rattle.pr_model.specs.declared.handles.Held.{Held}
use Rattle.pr_num.proofs.BoolLemmas.{and_true, not_both}
use Rattle.pr_num.specs.Limits.{handle_limit}
use Rattle.pr_num.specs.declared.errnos.Errno.TheVariants.{Badf}
use Rattle.pr_truss_laws.proofs.Files.OpensLemmas.{foreign-call}
use Rattle.pr_drive.specs.Exchanges.{HasNoneReady, HasReady, is_answered_now, is_open, poll_of, polls_if, polls_of}
use Rattle.pr_drive.specs.Going.{IsMove, SeatsState, after_entries, after_entry, has_place, outside_of}
use Rattle.pr_drive.proofs.EntryLemmas.{AreMoves}
use Rattle.pr_drive.proofs.KeptLemmas.{entries-outside, entry-outside}

-- Which files the outside has open, and whether one of them is ready.

-- ---- what others do leaves them

turned-opens : (s : TracedState) (o : Option LwpTurn) → (after_turn s o).opens ≡ s.opens
turned-opens s None = refl
turned-opens s (Some t) = refl

below : (k n : ℕ) → k < n → k ≢ n
below k n less same = let no : n < n = subst (λ (m : ℕ). m < n) same less in absurd (omega (arith, no))

act-leaves : (n : ℕ) (s : TracedState) (actor : Actor) (did : Act)
    → IsLegalEntry n s (record { actor = actor; act = did })
    → (m : ℕ) → handle_of (after s (record { actor = actor; act = did })).opens n m ≡ handle_of s.opens n m
unfolding IsLegalEntry after
act-leaves n s (Controller by) (Called c r) legal m =
    ap (λ (o : Option Answer). handle_of (after_call s o).opens n m) legal.1.1
    ∙ foreign-call s by n c (record { state = legal.1.0; reply = r }) (below by n legal.0) legal.1.1 m
act-leaves n s (Lwp p l) (Turn did) legal m = ap (λ (o : Places). handle_of o n m)
    (turned-opens s (turn_of s.system p l))
act-leaves n s Clock (Tick moment) legal m = refl
act-leaves n s _ _ legal m = absurd legal

entry-leaves : (until : ℕ) (s : SeatsState) (e : Entry) → IsMove until s e
    → (m : ℕ)
    → handle_of (after_entry e s).kernel.state.opens (outside_of s) m ≡ handle_of s.kernel.state.opens
    (outside_of s) m
entry-leaves until s e move m = act-leaves (outside_of s) s.kernel.state e.actor e.act move.legal m

moves-leave : (until : ℕ) (es : List Entry) (s : SeatsState) → AreMoves until s es
    → (m : ℕ)
    → handle_of (after_entries es s).kernel.state.opens (outside_of s) m ≡ handle_of s.kernel.state.opens
    (outside_of s) m
moves-leave until [] s moves m = refl
moves-leave until (e ∷ es) s moves m =
    let s' = after_entry e s in
    ap (λ (n : ℕ). handle_of (after_entries es s').kernel.state.opens n m) (sym (entry-outside e s))
    ∙ moves-leave until es s' moves.1 m
    ∙ ap (λ (n : ℕ). handle_of s'.kernel.state.opens n m) (entry-outside e s)
    ∙ entry-leaves until s e moves.0 m

pub moves-open : (until : ℕ) (es : List Entry) (s : SeatsState) → AreMoves until s es → (m : ℕ)
    → is_open (after_entries es s) m ≡ is_open s m
moves-open until es s moves m =
    ap (λ (n : ℕ). is_open_by (after_entries es s).kernel.state.opens n m) (entries-outside es s)
    ∙ ap (λ (o : Option Held). is_some o) (moves-leave until es s moves m)

-- ---- a poll of one

-- its answer, by whether the file is open, the controller was interrupted, and the file is ready
abbrev polled : TracedState → ℕ → ℕ → Bool → Bool → Bool → Option Answer
polled t by m opened stopped ready =
    cond (not opened) (Some (refused t Badf))
    (cond stopped (Some (interrupted_answer t by)) (ready_answer t (cond ready (Some m) None)))

poll-answer : (t : TracedState) (by m : ℕ)
    → answer_to t by (poll_of m) ≡ polled t by m (is_open_by t.opens by m) (is_interrupted t by)
    (is_polled_ready t by m)
unfolding answer_to poll_answer
poll-answer t by m =
    ap (λ (b : Bool). cond (not b) (Some (refused t Badf))
    (cond (is_interrupted t by) (Some (interrupted_answer t by))
    (ready_answer t (cond (is_polled_ready t by m) (Some m) None))))
    (and_true (is_open_by t.opens by m))

answered-ready : (t : TracedState) (by m : ℕ) (opened stopped ready : Bool) → opened ≡ true
    → is_some (polled t by m opened stopped ready) ≡ true → (stopped ≡ true) ⊎ (ready ≡ true)
answered-ready t by m true true ready is h = inl refl
answered-ready t by m true false true is h = inr refl
answered-ready t by m true false false is h = cc
answered-ready t by m false stopped ready is h = cc

ready-answered : (t : TracedState) (by m : ℕ) (opened stopped ready : Bool) → opened ≡ true → (stopped ≡ true)
    ⊎ (ready ≡ true) → is_some (polled t by m opened stopped ready) ≡ true
ready-answered t by m true true ready is h = refl
ready-answered t by m true false true is h = refl
ready-answered t by m true false false is (inl h) = cc
ready-answered t by m true false false is (inr h) = cc
ready-answered t by m false stopped ready is h = cc

-- ---- a poll of each that is open

-- the first of them and the others
first-polled : (s b : SeatsState) (x : ℕ) (rest : List ℕ) (opened : Bool) → is_open s x ≡ opened
    → list_any (λ c. is_answered_now c b) (map poll_of (cond opened (x ∷ rest) rest)) ≡ true
    → ((is_open s x ≡ true) × (is_answered_now (poll_of x) b ≡ true))
    ⊎ (list_any (λ c. is_answered_now c b) (map poll_of rest) ≡ true)
first-polled s b x rest true is some = of (is_answered_now (poll_of x) b) refl some
  where
    of : (r : Bool) → is_answered_now (poll_of x) b ≡ r
        → (r || list_any (λ c. is_answered_now c b) (map poll_of rest)) ≡ true
        → ((is_open s x ≡ true) × (is_answered_now (poll_of x) b ≡ true))
        ⊎ (list_any (λ c. is_answered_now c b) (map poll_of rest) ≡ true)
    of true here h = inl (is, here)
    of false here h = inr h
first-polled s b x rest false is some = inr some

-- one that was open and is answered, below a number
record IsPolled (s b : SeatsState) (limit : ℕ) : Type 0 where
  handle : ℕ
  within : handle < limit
  opened : is_open s handle ≡ true
  answered : is_answered_now (poll_of handle) b ≡ true

some-polled : (s b : SeatsState) (n k : ℕ)
    → list_any (λ c. is_answered_now c b) (map poll_of (filter (is_open s) (range_with_len k n))) ≡ true
    → IsPolled s b (k + n)
some-polled s b zero k some = cc
some-polled s b (suc n) k some =
    elim (first-polled s b k (filter (is_open s) (range_with_len (k + 1) n)) (is_open s k) refl some) [
      | inl here ↦ record { handle = k; within = omega arith; opened = here.0; answered = here.1 }
      | inr there ↦
          (let one = some-polled s b n (k + 1) there in
          record {
            handle = one.handle;
            within = omega (arith, one.within);
            opened = one.opened;
            answered = one.answered;
          })
    ]

none-first : (s b : SeatsState) (k m : ℕ) (rest : List ℕ) (o : Bool) → is_open s k ≡ o → is_open s m ≡ true
    → list_any (λ c. is_answered_now c b) (map poll_of (cond o (k ∷ rest) rest)) ≡ false
    → (k ≢ m → list_any (λ c. is_answered_now c b) (map poll_of rest) ≡ false → is_answered_now (poll_of m) b ≡ false)
    → (k ≡ m) ⊎ (k ≢ m) → is_answered_now (poll_of m) b ≡ false
none-first s b k m rest true is opened none later (inl same) =
    ap (λ (x : ℕ). is_answered_now (poll_of x) b) (sym same) ∙ (or_parts _ _ none).0
none-first s b k m rest true is opened none later (inr apart) = later apart (or_parts _ _ none).1
none-first s b k m rest false is opened none later (inl same) =
    let differs : true ≡ false = sym opened ∙ ap (is_open s) (sym same) ∙ is in cc
none-first s b k m rest false is opened none later (inr apart) = later apart none

none-polled : (s b : SeatsState) (n k m : ℕ) → k ≤ m → m < k + n → is_open s m ≡ true
    → list_any (λ c. is_answered_now c b) (map poll_of (filter (is_open s) (range_with_len k n))) ≡ false
    → is_answered_now (poll_of m) b ≡ false
none-polled s b zero k m from to opened none = absurd (omega (arith, from, to))
none-polled s b (suc n) k m from to opened none =
    none-first s b k m (filter (is_open s) (range_with_len (k + 1) n)) (is_open s k) refl opened none
    (λ apart others. none-polled s b n (k + 1) m (omega (arith, from, apart)) (omega (arith, to)) opened others)
    (cases_eq k m)

-- ---- the polls, one by one

-- those of the files from a number on
abbrev pub polls_from : SeatsState → ℕ → List Call
polls_from s k = map poll_of (filter (is_open s) (range_with_len k (handle_limit - k)))

polls-by : (s : SeatsState) (k : ℕ) (opened : Bool) → k < handle_limit → is_open s k ≡ opened
    → polls_from s k ≡ map poll_of
    (cond opened (k ∷ filter (is_open s) (range_with_len (k + 1) (handle_limit - (k + 1))))
    (filter (is_open s) (range_with_len (k + 1) (handle_limit - (k + 1)))))
polls-by s k opened within is =
    let number : handle_limit - k ≡ suc (handle_limit - (k + 1)) = omega (arith, within) in
    ap (λ (n : ℕ). map poll_of (filter (is_open s) (range_with_len k n))) number
    ∙ ap (λ (b : Bool). map poll_of
    (cond b (k ∷ filter (is_open s) (range_with_len (k + 1) (handle_limit - (k + 1))))
    (filter (is_open s) (range_with_len (k + 1) (handle_limit - (k + 1)))))) is

pub polls-begin : (s : SeatsState) (polls : List Call) → polls ≡ [] → polls ++ polls_from s 0 ≡ polls_of s
unfolding polls_of
polls-begin s polls none = ap (λ (xs : List Call). xs ++ polls_from s 0) none

polls-next : (s : SeatsState) (k : ℕ) → k < handle_limit
    → polls_from s k ≡ polls_if k (is_open s k) ++ polls_from s (k + 1)
polls-next s k within = polls-by s k (is_open s k) within refl ∙ of (is_open s k)
  where
    of : (b : Bool) → map poll_of (cond b (k ∷ filter (is_open s) (range_with_len (k + 1) (handle_limit - (k + 1))))
        (filter (is_open s) (range_with_len (k + 1) (handle_limit - (k + 1))))) ≡ polls_if k b ++ polls_from s (k + 1)
    of true = refl
    of false = refl

pub polls-more : (s : SeatsState) (k : ℕ) (polls after : List Call) → k < handle_limit
    → after ≡ polls ++ polls_if k (is_open s k) → polls ++ polls_from s k ≡ polls_of s
    → after ++ polls_from s (k + 1) ≡ polls_of s
polls-more s k polls after within all far =
    ap (λ (xs : List Call). xs ++ polls_from s (k + 1)) all
    ∙ append_assoc polls (polls_if k (is_open s k)) (polls_from s (k + 1))
    ∙ ap (λ (xs : List Call). polls ++ xs) (sym (polls-next s k within)) ∙ far

pub polls-end : (s : SeatsState) (k : ℕ) (polls : List Call) → handle_limit ≤ k → polls ++ polls_from s k ≡ polls_of s
    → polls ≡ polls_of s
polls-end s k polls past far =
    let none : handle_limit - k ≡ 0 = omega (arith, past) in
    sym (append-nil polls) ∙ ap (λ (n : ℕ). polls ++ map poll_of (filter (is_open s) (range_with_len k n))) (sym none)
    ∙ far

-- ---- whether one is ready

module _ (s b : SeatsState) (same : (m : ℕ) → is_open b m ≡ is_open s m) where
  abbrev IsReadyAt : ℕ → Type 0
  IsReadyAt m = (is_interrupted b.kernel.state (outside_of b) ≡ true)
      ⊎ (is_polled_ready b.kernel.state (outside_of b) m ≡ true)

  ready-by : (m : ℕ) → is_open b m ≡ true → is_answered_now (poll_of m) b ≡ true → IsReadyAt m
  ready-by m opened now =
      answered-ready b.kernel.state (outside_of b) m _ _ _ opened
      (ap (λ (o : Option Answer). is_some o) (sym (poll-answer b.kernel.state (outside_of b) m))
      ∙ (and_parts _ _ now).1)

  pub has-ready : (polls : List Call) → polls ≡ polls_of s → list_any (λ c. is_answered_now c b) polls ≡ true
      → HasReady b
  unfolding polls_of
  has-ready polls is some =
      let one = some-polled s b handle_limit 0 (ap (list_any (λ c. is_answered_now c b)) (sym is) ∙ some) in
      let opened = same one.handle ∙ one.opened in
      record {
        handle = one.handle;
        within = omega (arith, one.within);
        held = opened;
        ready = ready-by one.handle
            opened one.answered;
      }

  answered-by : (m : ℕ) → has_place b ≡ true → is_open b m ≡ true → IsReadyAt m → is_answered_now (poll_of m) b ≡ true
  answered-by m place opened ready =
      ap (λ (x : Bool). x && is_some (answer_to b.kernel.state (outside_of b) (poll_of m))) place
      ∙ ap (λ (o : Option Answer). is_some o) (poll-answer b.kernel.state (outside_of b) m)
      ∙ ready-answered b.kernel.state (outside_of b) m _ _ _ opened ready

  pub none-ready : (polls : List Call) → polls ≡ polls_of s → list_any (λ c. is_answered_now c b) polls ≡ false
      → has_place b ≡ true → HasNoneReady b
  unfolding polls_of
  none-ready polls is none place = record {
    none = λ (h : HasReady b).
        let opened = sym (same h.handle) ∙ h.held in
        let never = none-polled s b handle_limit 0 h.handle (omega arith) (omega (arith, h.within)) opened
        (ap (list_any (λ c. is_answered_now c b)) (sym is) ∙ none) in
        not_both (is_answered_now (poll_of h.handle) b) (answered-by h.handle place h.held h.ready) never;
  }
