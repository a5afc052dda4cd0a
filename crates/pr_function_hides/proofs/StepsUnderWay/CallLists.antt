use Rattle.std.proofs.Common.{◌≡◌, ◌≢◌, ◌≤◌, ◌⊎◌, ◌++◌, ℕ, true, cond, Option, Some, None, List, [], ◌∷◌, length, append-nil, append_assoc, refl, sym, ap, ◌∙◌, arith, inl, inr}
use Rattle.std.proofs.lemmas.Bool.{cases_Bool, cases_eq}
use Rattle.std.proofs.lemmas.List.Elements.{All-cons, All-nil, filter-append}
use Rattle.std.specs.List.{All, cons_option, filter}
use Rattle.pr_line.specs.declared.options.Options.{Options}
use Rattle.pr_model.specs.Legal.{after, state_after}
use Rattle.pr_model.specs.State.{TracedState}
use Rattle.pr_model.specs.declared.calls.Call.{Call}
use Rattle.pr_model.specs.declared.calls.Call.TheVariants as call
use Rattle.pr_model.specs.declared.calls.Reply.{Reply}
use Rattle.pr_model.specs.declared.events.Entry.{Entry}
use Rattle.pr_num.specs.Limits.{read_limit}
use Rattle.pr_report_laws.proofs.Files.WatchHistories.{cons-exchanges, exchanges-push, no-exchanges}
use Rattle.pr_truss.specs.FunctionFeeding.{fed_functions}
use Rattle.pr_truss.specs.Marks.{has_functions}
use Rattle.pr_truss.specs.NextCalls.{read_record}
use Rattle.pr_truss.specs.Trusses.{TrussState, first_truss}
use Rattle.pr_truss.specs.declared.reports.Report.{Report}
use Rattle.pr_truss.specs.declared.reports.Report.TheVariants.{Called}
use Rattle.pr_truss_laws.specs.Exchanges.{Exchange, exchange_of, exchanges}
use Rattle.pr_function_laws.proofs.Marks.CallLemmas.{fed_functions-calls, first-calls, told-one}
use Rattle.pr_function_laws.proofs.CallTurns.CalledLaws.{functions-both}
use Rattle.pr_function_laws.proofs.CallTurns.TurnWalks.{AreNoReads}
use Rattle.pr_function_laws.specs.Calls.{call_told, calls_among, is_call}
use Rattle.pr_function_laws.specs.FunctionTurns.{call_of_turn, calls_of, function_turns, is_call_of}
use Rattle.pr_function_laws.specs.Lifted.{IsNoRead}
use Rattle.pr_function_laws.specs.Opened.{functions_at}
use Rattle.pr_function_laws.specs.Runs.{functions_after, functions_on}

-- One entry more: what it adds to the turns that are calls, to truss, and to the calls that truss has shown.

-- ---- truss

after-first : (t : TrussState) (x : Option Exchange) (xs : List Exchange)
    → functions_after t (cons_option x xs) ≡ functions_after (functions_on t x) xs
after-first t None xs = refl
after-first t (Some x) xs = refl

one-more : (t : TrussState) (x : Option Exchange) → functions_after t (cons_option x []) ≡ functions_on t x
one-more t None = refl
one-more t (Some x) = refl

pub truss-push : (k : ℕ) (o : Options) (front : List Entry) (e : Entry)
    → functions_at k o (front ++ e ∷ []) ≡ functions_on (functions_at k o front) (exchange_of k e)
truss-push k o front e =
    ap (functions_after (first_truss o)) (exchanges-push k front e)
    ∙ functions-both (first_truss o) (exchanges k front) (cons_option (exchange_of k e) [])
    ∙ one-more (functions_at k o front) (exchange_of k e)

-- ---- turns

pub turns-push : (k pid : ℕ) (front : List Entry) (t : TrussState) (s : TracedState) (e : Entry)
    → function_turns k pid t s (front ++ e ∷ [])
    ≡ function_turns k pid t s front
    ++ call_of_turn (functions_after t (exchanges k front)) (state_after s front) pid e.actor e.act
unfolding function_turns
turns-push k pid [] t s e =
    append-nil (call_of_turn t s pid e.actor e.act)
    ∙ ap (λ u. call_of_turn u s pid e.actor e.act) (ap (functions_after t) (sym (no-exchanges k)))
turns-push k pid (x ∷ front) t s e =
    ap (λ cs. call_of_turn t s pid x.actor x.act ++ cs)
    (turns-push k pid front (functions_on t (exchange_of k x)) (after s x) e
    ∙ ap (λ u. function_turns k pid (functions_on t (exchange_of k x)) (after s x) front
    ++ call_of_turn u (state_after (after s x) front) pid e.actor e.act)
    (sym (ap (functions_after t) (cons-exchanges k x front)
    ∙ after-first t (exchange_of k x) (exchanges k front))))
    ∙ sym (append_assoc (call_of_turn t s pid x.actor x.act)
    (function_turns k pid (functions_on t (exchange_of k x)) (after s x) front)
    (call_of_turn (functions_after t (exchanges k (x ∷ front))) (state_after (after s x) front) pid e.actor e.act))

pub no-turns : (k pid : ℕ) (t : TrussState) (s : TracedState) → function_turns k pid t s [] ≡ []
unfolding function_turns
no-turns k pid t s = refl

-- ---- calls that were shown

-- those of a process are among all of them
one-of : (pid : ℕ) (report : Report)
    → filter (is_call_of pid) (report ∷ []) ≡ filter (is_call_of pid) (filter is_call (report ∷ []))
one-of pid (Called of lwp function arguments) = refl
one-of pid _ = refl

calls-only : (pid : ℕ) (reports : List Report) → calls_of pid reports ≡ calls_of pid (calls_among reports)
unfolding calls_of calls_among
calls-only pid [] = refl
calls-only pid (r ∷ rs) =
    filter-append (is_call_of pid) (r ∷ []) rs
    ∙ ap (λ cs. cs ++ filter (is_call_of pid) rs) (one-of pid r)
    ∙ ap (λ cs. filter (is_call_of pid) (filter is_call (r ∷ [])) ++ cs) (calls-only pid rs)
    ∙ sym (filter-append (is_call_of pid) (filter is_call (r ∷ [])) (filter is_call rs))
    ∙ ap (filter (is_call_of pid)) (sym (filter-append is_call (r ∷ []) rs))

pub shown-fed : (pid : ℕ) (t : TrussState) (r : Reply) → has_functions t.options ≡ true
    → calls_of pid (fed_functions t r).reports ≡ calls_of pid t.reports ++ calls_of pid (call_told t r)
unfolding calls_of
shown-fed pid t r has =
    calls-only pid (fed_functions t r).reports
    ∙ ap (calls_of pid) (fed_functions-calls t r has)
    ∙ filter-append (is_call_of pid) (calls_among t.reports) (call_told t r)
    ∙ ap (λ cs. cs ++ calls_of pid (call_told t r)) (sym (calls-only pid t.reports))

pub none-shown : (pid : ℕ) (o : Options) → has_functions o ≡ true → calls_of pid (first_truss o).reports ≡ []
unfolding calls_of
none-shown pid o has = calls-only pid (first_truss o).reports ∙ ap (calls_of pid) (first-calls o [] has)

-- ---- what a reply tells of a process

-- a reply tells no call of a process, or one
pub data Tells (pid : ℕ) (told : List Report) : Type 0 where
  nothing : calls_of pid told ≡ [] → Tells pid told
  one_call : (report : Report) → told ≡ report ∷ [] → is_call_of pid report ≡ true → Tells pid told

pub tells : (pid : ℕ) (t : TrussState) (r : Reply) → Tells pid (call_told t r)
unfolding calls_of
tells pid t r = by (call_told t r) (told-one t r)
  where
    by : (told : List Report) → length told ≤ 1 → Tells pid told
    by [] few = nothing refl
    by (report ∷ []) few = elim (cases_Bool (is_call_of pid report)) [
      | inl its ↦ one_call report refl its
      | inr other ↦ nothing (ap (λ b. cond {A = List Report} b (report ∷ []) []) other)
    ]
    by (report ∷ another ∷ more) few = absurd (omega (arith, few))

pub one-shown : (pid : ℕ) (report : Report) → is_call_of pid report ≡ true
    → calls_of pid (report ∷ []) ≡ report ∷ []
unfolding calls_of
one-shown pid report its = ap (λ b. cond {A = List Report} b (report ∷ []) []) its

-- ---- reads of one file

-- whether a call reads the record of this file
pub reads-or-not : (c : Call) (number : ℕ) → (c ≡ read_record (Some number)) ⊎ (c ≢ read_record (Some number))
reads-or-not (call.Read handle from len) number =
    by (cases_eq handle number) (cases_eq from 0) (cases_eq len read_limit)
  where
    by : ((handle ≡ number) ⊎ (handle ≢ number)) → ((from ≡ 0) ⊎ (from ≢ 0))
        → ((len ≡ read_limit) ⊎ (len ≢ read_limit))
        → (call.Read handle from len ≡ read_record (Some number))
        ⊎ (call.Read handle from len ≢ read_record (Some number))
    by (inl a) (inl b) (inl c) =
        inl (ap (λ m. call.Read m from len) a ∙ ap (λ m. call.Read number m len) b ∙ ap (call.Read number 0) c)
    by (inr a) b c = inr (λ same. a (cc))
    by (inl a) (inr b) c = inr (λ same. b (cc))
    by (inl a) (inl b) (inr c) = inr (λ same. c (cc))
reads-or-not _ number = inr (λ same. cc)

pub all-quiet : (number : ℕ) (xs : List Exchange) → AreNoReads number xs → All (IsNoRead number) xs
all-quiet number [] quiet = All-nil (IsNoRead number)
all-quiet number (x ∷ xs) quiet = All-cons (IsNoRead number) x xs quiet.0 (all-quiet number xs quiet.1)
