use Rattle.std.proofs.Common.{◌≡◌, ◌==◌, ◌⊎◌, ◌++◌, ℕ, true, false, cond, Some, List, [], ◌∷◌, append_assoc, refl, sym, subst, ap, ◌∙◌, inl, inr}
use Rattle.std.proofs.lemmas.Bool.{false≢true}
use Rattle.std.proofs.lemmas.Option.{same_Some}
use Rattle.std.specs.List.{All}
use Rattle.pr_line.specs.declared.options.Options.{Options}
use Rattle.pr_model.specs.Legal.{state_after}
use Rattle.pr_model.specs.State.{TracedState}
use Rattle.pr_model.specs.declared.calls.Call.{Call}
use Rattle.pr_model.specs.declared.calls.Call.TheVariants as call
use Rattle.pr_model.specs.declared.events.Entry.{Entry}
use Rattle.pr_num.specs.declared.errnos.Errno.{Errno}
use Rattle.pr_report_laws.proofs.Asking.HeldRefused.{fed-same}
use Rattle.pr_report_laws.specs.HeldRefusals.{opens_file_of, refusals_of}
use Rattle.pr_report_laws.specs.OwnOpens.{IsGoingOn}
use Rattle.pr_report_laws.specs.Watching.{watches}
use Rattle.pr_truss.specs.Feeding.{fed}
use Rattle.pr_truss.specs.FunctionFeeding.{fed_functions}
use Rattle.pr_truss.specs.NextCalls.{call_of, next_call_of, opening_call}
use Rattle.pr_truss.specs.Trusses.{TrussState}
use Rattle.pr_truss.specs.declared.reports.Report.{Report}
use Rattle.pr_truss.specs.declared.reports.Report.TheVariants.{CannotStart, CannotTrace, Called, Event as Shown}
use Rattle.pr_truss.specs.declared.stages.OpeningStep.TheVariants as opening
use Rattle.pr_truss.specs.declared.stages.Stage.{Stage}
use Rattle.pr_truss.specs.declared.stages.Stage.TheVariants.{Opening, ReadingText, Running, ReadingLwps}
use Rattle.pr_truss_laws.specs.Exchanges.{Exchange, exchange_of, exchanges}
use Rattle.pr_truss_laws.specs.Sent.{sends}
use Rattle.pr_function_laws.proofs.ShownOnce.GoingOn.{fed-tells}
use Rattle.pr_function_laws.proofs.Holding.HoldLaws.{hold-watched}
use Rattle.pr_function_laws.proofs.OrdinaryTruss.OrdinaryCalls.{stands-sends}
use Rattle.pr_function_laws.proofs.OrdinaryTruss.OrdinaryEntries as entries
use Rattle.pr_function_laws.proofs.OrdinaryTruss.OrdinaryEntries.{front-run, watches-ordinary}
use Rattle.pr_function_laws.proofs.OrdinaryTruss.OrdinaryExchanges.{Turn, goes_on, goes_out}
use Rattle.pr_function_laws.specs.Opened.{IsFunctionRun, functions_at}
use Rattle.pr_function_laws.specs.Ordinary.{IsLike, IsTakenUp, in_place, ordinary, ordinary_among, own_fault, refused, same}
use Rattle.pr_function_laws.specs.Refusals.{TellsNoRefusalOfHeld, TellsRefusalsAtFirst}

-- When truss with calls of functions says that it cannot trace a process.

-- calls of functions are no refusals
refusals-ordinary : (pid : ℕ) (rs : List Report) → refusals_of pid (ordinary_among rs) ≡ refusals_of pid rs
unfolding ordinary_among
refusals-ordinary pid [] = refl
refusals-ordinary pid (CannotStart program errno ∷ rs) = refusals-ordinary pid rs
refusals-ordinary pid (CannotTrace of errno ∷ rs) =
    ap (λ xs. cond {A = List Report} (of == pid) (CannotTrace of errno ∷ xs) xs) (refusals-ordinary pid rs)
refusals-ordinary pid (Called of lwp function arguments ∷ rs) = refusals-ordinary pid rs
refusals-ordinary pid (Shown of l text ∷ rs) = refusals-ordinary pid rs

-- ---- a call that opens no file of a process stands for none that does

message-opens : (pid : ℕ) (c : Call) → sends c ≡ true → opens_file_of pid c ≡ false
message-opens pid (call.Ctl handle bytes) sent = refl
message-opens pid (call.CtlWait handle until bytes) sent = refl
message-opens pid _ sent = absurd (false≢true sent)

module _ (t : TrussState) (pid : ℕ) where
  taken-opens : (stage : Stage) (d : Call) (errno : Errno) → IsTakenUp stage errno → call_of t stage ≡ Some d
      → opens_file_of pid d ≡ false
  unfolding call_of opening_call
  taken-opens (Opening place opening.Start) d errno may is = ap (opens_file_of pid) (sym (same_Some _ d is))
  taken-opens (Running place) d errno may is = ap (opens_file_of pid) (sym (same_Some _ d is))
  taken-opens (ReadingText place l from len) d errno may is = ap (opens_file_of pid) (sym (same_Some _ d is))
  taken-opens ReadingLwps d errno may is = ap (opens_file_of pid) (sym (same_Some _ d is))
  taken-opens _ d errno may is = absurd may

  like-opens : (x y : Exchange) → IsLike t x y → opens_file_of pid x.call ≡ false → opens_file_of pid y.call ≡ false
  unfolding next_call_of
  like-opens x y (same unsent none_own) plain = plain
  like-opens x y (in_place {d = d} stands) plain = let sent = stands-sends stands in message-opens pid d sent.1
  like-opens x y (refused {d = d} {errno = errno} sees may is) plain = taken-opens t.stage d errno may is
  like-opens x y (own_fault own) plain = refl

-- ---- one entry

module _ (n k : ℕ) (o : Options) (s : TracedState) (before later : List Entry) (e : Entry) (x : Exchange) (pid : ℕ)
    (run : IsFunctionRun n k o s (before ++ e ∷ later)) (own : exchange_of k e ≡ Some x) where
  abbrev t : TrussState
  t = functions_at k o before

  abbrev v : TrussState
  v = functions_at k o (before ++ e ∷ [])

  pushed : v ≡ fed_functions t x.reply
  pushed = entries.pushed n k o s before later e run x own

  -- what it says, by what a truss without calls says
  says : (u : TrussState) → ordinary (fed_functions t x.reply) ≡ u
      → refusals_of pid u.reports ≡ refusals_of pid (ordinary t).reports
      → refusals_of pid v.reports ≡ refusals_of pid t.reports
  says u now still =
      ap (λ (z : TrussState). refusals_of pid z.reports) pushed
      ∙ sym (refusals-ordinary pid (fed_functions t x.reply).reports)
      ∙ ap (λ (z : TrussState). refusals_of pid z.reports) now ∙ still ∙ refusals-ordinary pid t.reports

  tells-first : Turn t x
      → (refusals_of pid v.reports ≡ refusals_of pid t.reports) ⊎ All IsGoingOn (exchanges k before)
  tells-first (goes_out sees over stay) = inl (says (ordinary t) stay refl)
  tells-first (goes_on y like called now) = elim (fed-tells (exchanges k before) (ordinary t) y.reply pid
      (entries.going n k o s before later e run)) [
        | inl still ↦ inl (says (fed (ordinary t) y.reply) now still)
        | inr first ↦ inr first
      ]

  tells-none : (watches t pid ≡ true) ⊎ (watches v pid ≡ true) → opens_file_of pid x.call ≡ false → Turn t x
      → refusals_of pid v.reports ≡ refusals_of pid t.reports
  tells-none on plain (goes_out sees over stay) = says (ordinary t) stay refl
  tells-none on plain (goes_on y like called now) =
      let f = entries.follows n k o s before later e run in
      says (fed (ordinary t) y.reply) now
      (fed-same k pid (ordinary t) (state_after s before) f.reaches y called (like-opens t pid x y like plain)
      (elim on [
        | inl before_it ↦ inl (watches-ordinary t pid ∙ before_it)
        | inr behind ↦ inr
            (ap (λ z. watches z pid) (sym now) ∙ watches-ordinary (fed_functions t x.reply) pid
            ∙ ap (λ z. watches z pid) (sym pushed) ∙ behind)
      ]))

pub tells-refusals-at-first : (n k : ℕ) (o : Options) (s : TracedState) (h : List Entry) → IsFunctionRun n k o s h
    → TellsRefusalsAtFirst k o h
tells-refusals-at-first n k o s h run = record {
  each = λ before later e x pid is own.
      let all : IsFunctionRun n k o s (before ++ e ∷ later) = subst (IsFunctionRun n k o s) is run in
      tells-first n k o s before later e x pid all own (entries.turned n k o s before later e all x own);
}

pub tells-no-refusal-of-held : (n k : ℕ) (o : Options) (s : TracedState) (h : List Entry) → IsFunctionRun n k o s h
    → TellsNoRefusalOfHeld k o s h
tells-no-refusal-of-held n k o s h run = record {
  each = λ before later e x pid is own held plain.
      let all : IsFunctionRun n k o s (before ++ e ∷ later) = subst (IsFunctionRun n k o s) is run in
      let now : IsFunctionRun n k o s (before ++ e ∷ []) =
      front-run n k o s (before ++ e ∷ []) later
      (subst (IsFunctionRun n k o s) (sym (append_assoc before (e ∷ []) later)) all) in
      tells-none n k o s before later e x pid all own
      (elim held [
        | inl before_it ↦ inl
            (hold-watched n k o pid s before (front-run n k o s before (e ∷ later) all) before_it)
        | inr behind ↦ inr (hold-watched n k o pid s (before ++ e ∷ []) now behind)
      ]) plain (entries.turned n k o s before later e all x own);
}

pub ruleset refusals = (tells-refusals-at-first, tells-no-refusal-of-held)
