use Rattle.std.proofs.Common.{◌≡◌, ◌++◌, ◌⊎◌, ℕ, Bool, true, false, cond, Option, Some, None, List, [], ◌∷◌, length, refl, sym, subst, ap, ◌∙◌, append_assoc, arith, inl, inr}
use Rattle.std.proofs.lemmas.List.{length-append}
use Rattle.pr_line.specs.declared.events.Event.{Event}
use Rattle.pr_line.specs.declared.options.Options.{Options}
use Rattle.pr_model.specs.Legal.{IsLegal, after, state_after}
use Rattle.pr_model.specs.State.{TracedState}
use Rattle.pr_model.specs.declared.events.Entry.{Entry}
use Rattle.pr_truss.specs.Trusses.{TrussState, first_truss}
use Rattle.pr_truss_laws.specs.Exchanges.{Makes, exchange_of, exchanges, truss_after}
use Rattle.pr_truss_laws.specs.Runs.{IsTrussRun}
use Rattle.pr_report_laws.proofs.Files.WatchHistories.{exchanges-both, makes-front}
use Rattle.pr_report_laws.proofs.Invariant.HistoryLaw.{after-next, no-exchanges, told_along, watched-next}
use Rattle.pr_report_laws.proofs.Invariant.HistorySteps.{picked_of, read_of}
use Rattle.pr_report_laws.proofs.Invariant.Tallies.{told_in}
use Rattle.pr_report_laws.specs.Shown.{LwpEvent, picked}
use Rattle.pr_report_laws.specs.Watching.{events_watched, fed_by_entry}

-- Where in a history an event came, and where truss was told it.

-- ---- a history in two parts

pub state_after-both : (s : TracedState) (xs ys : List Entry)
    → state_after s (xs ++ ys) ≡ state_after (state_after s xs) ys
state_after-both s [] ys = refl
state_after-both s (x ∷ xs) ys = state_after-both (after s x) xs ys

legal-front : (n : ℕ) (s : TracedState) (xs ys : List Entry) → IsLegal n s (xs ++ ys) → IsLegal n s xs
legal-front n s [] ys legal = tt
legal-front n s (x ∷ xs) ys legal = (legal.0, legal-front n (after s x) xs ys legal.1)

pub legal-rest : (n : ℕ) (s : TracedState) (xs ys : List Entry) → IsLegal n s (xs ++ ys)
    → IsLegal n (state_after s xs) ys
legal-rest n s [] ys legal = legal
legal-rest n s (x ∷ xs) ys legal = legal-rest n (after s x) xs ys legal.1

pub run-before : (n k : ℕ) (o : Options) (s : TracedState) (xs ys : List Entry) → IsTrussRun n k o s (xs ++ ys)
    → IsTrussRun n k o s xs
run-before n k o s xs ys run = record {
  lawful = run.lawful;
  nothing_open = run.nothing_open;
  legal = legal-front n s xs ys run.legal;
  makes =
      makes-front (first_truss o) (exchanges k xs) (exchanges k ys)
      (subst (Makes (first_truss o)) (exchanges-both k xs ys) run.makes);
}

-- what came in both parts
pub watched-both : (picks : Event → Bool) (k pid : ℕ) (o : Options) (xs ys : List Entry) (t : TrussState)
    (s : TracedState)
    → picked picks pid (events_watched k pid t s (xs ++ ys)) ≡ picked picks pid (events_watched k pid t s xs) ++ picked
    picks pid (events_watched k pid (truss_after t (exchanges k xs)) (state_after s xs) ys)
unfolding picked
watched-both picks k pid o [] ys t s =
    ap (λ (u : TrussState). picked picks pid (events_watched k pid u s ys)) (sym (no-exchanges k t))
watched-both picks k pid o (x ∷ xs) ys t s =
    let rest : List LwpEvent =
    picked picks pid
    (events_watched k pid (truss_after (fed_by_entry k t x) (exchanges k xs)) (state_after (after s x) xs) ys) in
    watched-next k o pid picks t s [] x (xs ++ ys)
    ∙ ap (λ (es : List LwpEvent). picked_of picks pid t s x ++ es)
    (watched-both picks k pid o xs ys (fed_by_entry k t x) (after s x))
    ∙ sym (append_assoc (picked_of picks pid t s x)
    (picked picks pid (events_watched k pid (fed_by_entry k t x) (after s x) xs)) rest)
    ∙ ap (λ (es : List LwpEvent). es ++ rest) (sym (watched-next k o pid picks t s [] x xs))
    ∙ ap (λ (u : TrussState). picked picks pid (events_watched k pid t s (x ∷ xs)) ++ picked picks pid
    (events_watched k pid u (state_after (after s x) xs) ys)) (sym (after-next k t x xs))

-- what was told in both parts
pub told-both : (picks : Event → Bool) (k pid : ℕ) (xs ys : List Entry) (t : TrussState)
    → told_along picks k pid t (xs ++ ys) ≡
    told_along picks k pid t xs ++ told_along picks k pid (truss_after t (exchanges k xs)) ys
told-both picks k pid [] ys t = ap (λ (u : TrussState). told_along picks k pid u ys) (sym (no-exchanges k t))
told-both picks k pid (x ∷ xs) ys t =
    let now : List LwpEvent = told_in picks (read_of pid t (exchange_of k x)) in
    let rest : List LwpEvent = told_along picks k pid (truss_after (fed_by_entry k t x) (exchanges k xs)) ys in
    ap (λ (es : List LwpEvent). now ++ es) (told-both picks k pid xs ys (fed_by_entry k t x))
    ∙ sym (append_assoc now (told_along picks k pid (fed_by_entry k t x) xs) rest)
    ∙ ap (λ (u : TrussState). told_along picks k pid t (x ∷ xs) ++ told_along picks k pid u ys)
    (sym (after-next k t x xs))

-- ---- where an event was told

-- In this entry of a history truss was told the event.
pub record WasTold (k pid : ℕ) (t : TrussState) (h : List Entry) (event : LwpEvent) : Type 0 where
  pub before : List Entry
  pub entry : Entry
  pub later : List Entry
  pub is : h ≡ before ++ entry ∷ later
  pub reads : read_of pid (truss_after t (exchanges k before)) (exchange_of k entry) ≡ Some event

told-later : (k pid : ℕ) (t : TrussState) (e : Entry) (h : List Entry) (event : LwpEvent)
    → WasTold k pid (fed_by_entry k t e) h event → WasTold k pid t (e ∷ h) event
told-later k pid t e h event w = record {
  before = e ∷ w.before;
  entry = w.entry;
  later = w.later;
  is = ap (λ (es : List Entry). e ∷ es) w.is;
  reads = ap (λ (u : TrussState). read_of pid u (exchange_of k w.entry)) (after-next k t e w.before) ∙ w.reads;
}

told-now : (k pid : ℕ) (t : TrussState) (e : Entry) (h : List Entry) (event : LwpEvent)
    → read_of pid t (exchange_of k e) ≡ Some event → WasTold k pid t (e ∷ h) event
told-now k pid t e h event reads = record {
  before = [];
  entry = e;
  later = h;
  is = refl;
  reads = ap (λ (u : TrussState). read_of pid u (exchange_of k e)) (no-exchanges k t) ∙ reads;
}

module _ (picks : Event → Bool) (k pid : ℕ) (event : LwpEvent) where
  -- one entry, and then others
  module _ (t : TrussState) (e : Entry) (h : List Entry) (ys : List LwpEvent)
      (next : (zs : List LwpEvent) → told_along picks k pid (fed_by_entry k t e) h ≡ zs ++ event ∷ ys
      → WasTold k pid t (e ∷ h) event) where
    told-first : (y : LwpEvent) → read_of pid t (exchange_of k e) ≡ Some y → (zs : List LwpEvent)
        → y ∷ told_along picks k pid (fed_by_entry k t e) h ≡ zs ++ event ∷ ys → WasTold k pid t (e ∷ h) event
    told-first y reads [] split =
        let same : y ≡ event = cc in
        told-now k pid t e h event (reads ∙ ap (λ (z : LwpEvent). Some z) same)
    told-first y reads (z ∷ zs) split =
        let rest : told_along picks k pid (fed_by_entry k t e) h ≡ zs ++ event ∷ ys = cc in next zs rest

    told-chosen : (y : LwpEvent) → read_of pid t (exchange_of k e) ≡ Some y → (b : Bool) → (xs : List LwpEvent)
        → cond b (y ∷ []) [] ++ told_along picks k pid (fed_by_entry k t e) h ≡ xs ++ event ∷ ys
        → WasTold k pid t (e ∷ h) event
    told-chosen y reads true xs it = told-first y reads xs it
    told-chosen y reads false xs it = next xs it

    told-by : (x : Option LwpEvent) → read_of pid t (exchange_of k e) ≡ x → (xs : List LwpEvent)
        → told_in picks x ++ told_along picks k pid (fed_by_entry k t e) h ≡ xs ++ event ∷ ys
        → WasTold k pid t (e ∷ h) event
    told-by None none xs split = next xs split
    told-by (Some y) reads xs split = told-chosen y reads (picks y.event) xs split

  pub was-told : (h : List Entry) (t : TrussState) (xs ys : List LwpEvent)
      → told_along picks k pid t h ≡ xs ++ event ∷ ys → WasTold k pid t h event
  was-told [] t xs ys is = absurd (nothing xs is)
    where
      nothing : (zs : List LwpEvent) → [] ≡ zs ++ event ∷ ys → ⊥
      nothing [] split = cc
      nothing (z ∷ zs) split = cc
  was-told (e ∷ h) t xs ys is =
      told-by t e h ys (λ zs rest. told-later k pid t e h event (was-told h (fed_by_entry k t e) zs ys rest))
      (read_of pid t (exchange_of k e)) refl xs is

-- ---- told, or missing

-- at most one of these
pub few-of : {Why : Type 0} (missing : List LwpEvent)
    → (missing ≡ []) ⊎ ((event : LwpEvent) × ((missing ≡ event ∷ []) × Why)) → length missing ≡ 0 ⊎ length missing ≡ 1
few-of missing (inl none) = inl (ap (λ (xs : List LwpEvent). length xs) none)
few-of missing (inr one) = inr (ap (λ (xs : List LwpEvent). length xs) one.1.0)

-- An event that came is among those that were told, behind as many as came before it; or it is the one that is missing,
-- and none came after it.
pub told-or-missing : (xs rest told missing : List LwpEvent) (event : LwpEvent)
    → (length missing ≡ 0 ⊎ length missing ≡ 1) → xs ++ event ∷ rest ≡ told ++ missing
    → ((more : List LwpEvent) × (told ≡ xs ++ event ∷ more)) ⊎ ((missing ≡ event ∷ []) × (rest ≡ []))
told-or-missing [] rest [] missing event few is = inr (one missing few is)
  where
    one : (ys : List LwpEvent) → (length ys ≡ 0 ⊎ length ys ≡ 1) → event ∷ rest ≡ ys
        → (ys ≡ event ∷ []) × (rest ≡ [])
    one [] short same = cc
    one (y ∷ []) short same = (let first : y ≡ event = cc in ap (λ (z : LwpEvent). z ∷ []) first, cc)
    one (y ∷ z ∷ ys) (inl short) same = absurd (omega (arith, short))
    one (y ∷ z ∷ ys) (inr short) same = absurd (omega (arith, short))
told-or-missing [] rest (t ∷ told) missing event few is =
    let first : t ≡ event = cc in inl (told, ap (λ (z : LwpEvent). z ∷ told) first)
told-or-missing (x ∷ xs) rest [] missing event few is = absurd (elim few [
  | inl none ↦ omega (arith, none, ap (λ (zs : List LwpEvent). length zs) is, length-append xs (event ∷ rest))
  | inr one ↦ omega (arith, one, ap (λ (zs : List LwpEvent). length zs) is, length-append xs (event ∷ rest))
])
told-or-missing (x ∷ xs) rest (t ∷ told) missing event few is =
    let first : t ≡ x = cc in
    let tail : xs ++ event ∷ rest ≡ told ++ missing = cc in
    elim (told-or-missing xs rest told missing event few tail) [
      | inl was ↦ inl (
        was.0,
        ap (λ (zs : List LwpEvent). t ∷ zs) was.1
            ∙ ap (λ (z : LwpEvent). z ∷ (xs ++ event ∷ was.0)) first,
      )
      | inr none ↦ inr none
    ]

-- ---- two places of a history

-- A place is behind another one, is that one, or is before it.
pub data Compares (xs : List Entry) (x : Entry) (ys : List Entry) (us : List Entry) (u : Entry) (vs : List Entry)
    : Type 0 where
  behind : (between : List Entry) → xs ≡ us ++ u ∷ between → vs ≡ between ++ x ∷ ys → Compares xs x ys us u vs
  same : xs ≡ us → x ≡ u → ys ≡ vs → Compares xs x ys us u vs
  ahead : (between : List Entry) → us ≡ xs ++ x ∷ between → ys ≡ between ++ u ∷ vs → Compares xs x ys us u vs

pub compare : (xs us : List Entry) (x u : Entry) (ys vs : List Entry) → xs ++ x ∷ ys ≡ us ++ u ∷ vs
    → Compares xs x ys us u vs
compare [] [] x u ys vs is =
    let one : x ≡ u = cc in
    let two : ys ≡ vs = cc in
    same refl one two
compare [] (w ∷ us) x u ys vs is =
    let first : w ≡ x = cc in
    let rest : ys ≡ us ++ u ∷ vs = cc in
    ahead us (ap (λ (z : Entry). z ∷ us) first) rest
compare (w ∷ xs) [] x u ys vs is =
    let first : w ≡ u = cc in
    let rest : vs ≡ xs ++ x ∷ ys = cc in
    behind xs (ap (λ (z : Entry). z ∷ xs) first) rest
compare (w ∷ xs) (z ∷ us) x u ys vs is =
    let first : w ≡ z = cc in
    let rest : xs ++ x ∷ ys ≡ us ++ u ∷ vs = cc in
    by first (compare xs us x u ys vs rest)
  where
    by : w ≡ z → Compares xs x ys us u vs → Compares (w ∷ xs) x ys (z ∷ us) u vs
    by first (behind between one two) =
        behind between (ap (λ (es : List Entry). w ∷ es) one ∙ ap (λ (e : Entry). e ∷ (us ++ u ∷ between)) first) two
    by first (same one two three) =
        same (ap (λ (es : List Entry). w ∷ es) one ∙ ap (λ (e : Entry). e ∷ us) first) two three
    by first (ahead between one two) =
        ahead between (ap (λ (es : List Entry). z ∷ es) one
        ∙ ap (λ (e : Entry). e ∷ (xs ++ x ∷ between)) (sym first)) two
