use Rattle.std.proofs.Common.{◌≡◌, ◌==◌, ◌&&◌, ◌≤◌, ◌+◌, ℕ, Bool, true, false, None, Some, Option, List, [], ◌∷◌, ◌++◌, refl, sym, subst, ap, ◌∙◌, arith, inl, inr, ◌⊎◌}
use Rattle.std.proofs.lemmas.Bool.{cases_Bool, eqb-true, eq-eqb}
use Rattle.std.proofs.lemmas.Option.{none-some}
use Rattle.std.specs.List.{slice_get, sum_by}
use Rattle.pr_line.specs.declared.options.Options.{Options}
use Rattle.pr_model.specs.Replies.{handle_in, opened_in}
use Rattle.pr_model.specs.declared.calls.Call.{Call}
use Rattle.pr_model.specs.declared.calls.Call.TheVariants as call
use Rattle.pr_model.specs.declared.calls.File.{File}
use Rattle.pr_model.specs.declared.calls.Mode.{Mode}
use Rattle.pr_model.specs.declared.calls.Reply.{Reply}
use Rattle.pr_model.specs.declared.calls.Reply.TheVariants as reply
use Rattle.pr_truss.specs.Feeding.{fed}
use Rattle.pr_truss.specs.NextCalls.{call_of, next_call_of}
use Rattle.pr_truss.specs.Replies.{answer_of}
use Rattle.pr_truss.specs.Trusses.{TrussState, first_of_program, first_truss, idle, opening_or}
use Rattle.pr_truss.specs.declared.processes.Traced.{Traced}
use Rattle.pr_truss.specs.declared.stages.Stage.{Stage}
use Rattle.pr_truss.specs.declared.stages.Stage.TheVariants.{Finished}
use Rattle.pr_truss_laws.proofs.Replies.ExchangeLemmas.{ends-later}
use Rattle.pr_truss_laws.proofs.Replies.FedLemmas.{Changes, fed-changes, gives}
use Rattle.pr_truss_laws.proofs.Replies.FitLemmas.{fed-fits, fed-grown}
use Rattle.pr_truss_laws.proofs.Files.HeldLemmas.{Fits, Grown, grown-all, grown-same, held, of_stage, of_traced, unit}
use Rattle.pr_truss_laws.specs.Exchanges.{Closes, ClosesAll, Ends, Exchange, truss_after}

-- What truss was given open it closes before it has finished.

-- ---- truss on its way

no-pid-fits : (o : Options) (p : Option ℕ)
    → Fits (opening_or (idle o) (idle o) p).traced (opening_or (idle o) (idle o) p).stage
no-pid-fits o None = refl
no-pid-fits o (Some pid) = tt

program-fits : (o : Options) (p : Option (List ℕ)) → Fits (first_of_program o p).traced (first_of_program o p).stage
program-fits o None = no-pid-fits o (slice_get o.pids 0)
program-fits o (Some program) = tt

pub first-fits : (o : Options) → Fits (first_truss o).traced (first_truss o).stage
unfolding first_truss
first-fits o = program-fits o o.program

pub after-fits : (xs : List Exchange) (s : TrussState) → Fits s.traced s.stage
    → Fits (truss_after s xs).traced (truss_after s xs).stage
after-fits [] s f = f
after-fits (x ∷ xs) s f = after-fits xs (fed s x.reply) (fed-fits s x.reply f)

pub after-grown : (xs : List Exchange) (s : TrussState) → Grown s.reports (truss_after s xs).reports
after-grown [] s = grown-same s.reports
after-grown (x ∷ xs) s =
    grown-all s.reports (fed s x.reply).reports _ (fed-grown s x.reply) (after-grown xs (fed s x.reply))

pub ends-after : (xs ys : List Exchange) (s : TrussState) → Ends s (xs ++ ys) → Ends (truss_after s xs) ys
ends-after [] ys s e = e
ends-after (x ∷ xs) ys s e = ends-after xs ys (fed s x.reply) (ends-later s x (xs ++ ys) e)

-- ---- nothing is held in the end

none-is : (c : Call) → Some c ≡ None → ⊥
none-is c e = none-some c (sym e)

nothing-in : (pid h : ℕ) (ts : List Traced) (stage : Stage) (s : TrussState) → call_of s stage ≡ None → Fits ts stage
    → sum_by (of_traced pid h) ts + of_stage pid h stage ≡ 0
unfolding call_of
nothing-in pid h ts Finished s e f =
    let none : sum_by (of_traced pid h) ts ≡ 0 = ap (sum_by (of_traced pid h)) f in
    omega arith
nothing-in pid h ts _ s e f = absurd (none-is _ e)

pub nothing-held : (pid h : ℕ) (s : TrussState) → Fits s.traced s.stage → next_call_of s ≡ None → held pid h s ≡ 0
unfolding held next_call_of
nothing-held pid h s f e = nothing-in pid h s.traced s.stage s e f

-- ---- each handle is closed

goes-on : (s : TrussState) (pid h n m : ℕ) (r : Reply) (c : Call) → Changes s pid h r (Some c) n m → 1 ≤ n
    → (c ≡ call.Close h) ⊎ (1 ≤ m)
goes-on s pid h n m r (call.Open of id file mode) ch one = inr (omega arith)
goes-on s pid h n m r (call.Close handle) ch one =
    elim (cases_Bool (handle == h)) [
      | inl same ↦ inl (ap call.Close (eqb-true handle h same))
      | inr other ↦ inr
          (omega (arith, ch.less, no-unit (ch.of == pid) (handle == h) other))
    ]
  where
    no-unit : (b c : Bool) → c ≡ false → unit (b && c) ≡ 0
    no-unit true c is = ap unit is
    no-unit false c is = refl
goes-on s pid h n m r _ ch one = inr (omega arith)

closes-more : (h : ℕ) (x : Exchange) (xs : List Exchange) → Closes h xs → Closes h (x ∷ xs)
closes-more h x xs c = record { before = x ∷ c.before; reply = c.reply; after = c.after; is = ap (λ ys. x ∷ ys) c.is }

closes-first : (h : ℕ) (x : Exchange) (xs : List Exchange) → x.call ≡ call.Close h → Closes h (x ∷ xs)
closes-first h x xs is = record {
  before = [];
  reply = x.reply;
  after = xs;
  is = ap (λ c. record { call = c; reply = x.reply } ∷ xs) is;
}

pub closes-later : (xs : List Exchange) (s : TrussState) (pid h : ℕ) → Fits s.traced s.stage → 1 ≤ held pid h s
    → Ends s xs → Closes h xs
closes-later [] s pid h f one e = absurd (omega (arith, nothing-held pid h s f e.finished, one))
closes-later (x ∷ xs) s pid h f one e =
    let u : TrussState = fed s x.reply in
    let all = fed-changes pid h x.reply s f in
    let ch = subst (λ c. Changes s pid h x.reply c (held pid h s) (held pid h u)) e.makes.0 all in
    elim (goes-on s pid h (held pid h s) (held pid h u) x.reply x.call ch one) [
      | inl close ↦ closes-first h x xs close
      | inr more ↦ closes-more h x xs (closes-later xs u pid h (fed-fits s x.reply f) more (ends-later s x xs e))
    ]

given-one : (pid h : ℕ) → gives (answer_of (reply.Handle h)) pid (handle_in (reply.Handle h)) pid h ≡ 1
unfolding answer_of opened_in
given-one pid h = ap unit (ap (λ b. b && (h == h)) (eq-eqb pid pid refl) ∙ eq-eqb h h refl)

-- what an open gave is closed later
granted-closes : (s : TrussState) (pid id h : ℕ) (file : File) (mode : Mode) (xs : List Exchange)
    → Fits s.traced s.stage → Ends s (record { call = call.Open pid id file mode; reply = reply.Handle h } ∷ xs)
    → Closes h xs
granted-closes s pid id h file mode xs f e =
    let u : TrussState = fed s (reply.Handle h) in
    let all = fed-changes pid h (reply.Handle h) s f in
    let ch = subst (λ c. Changes s pid h (reply.Handle h) c (held pid h s) (held pid h u)) e.makes.0 all in
    closes-later xs u pid h (fed-fits s (reply.Handle h) f) (omega (arith, ch, given-one pid h))
    (ends-later s (record { call = call.Open pid id file mode; reply = reply.Handle h }) xs e)

pub closes-all : (o : Options) (xs : List Exchange) → Ends (first_truss o) xs → ClosesAll xs
closes-all o xs e = record {
  each =
      λ before after pid id h file mode is. granted-closes
      (truss_after (first_truss o) before) pid id h file mode after
      (after-fits before (first_truss o) (first-fits o))
      (ends-after before _ (first_truss o) (subst (Ends (first_truss o)) is e));
}

pub ruleset closings = (closes-all)
