use Rattle.std.proofs.Common.{◌≡◌, ◌≢◌, ◌<◌, ◌==◌, ◌⊎◌, ◌++◌, ℕ, Bool, true, false, cond, Option, Some, List, [], ◌∷◌, length, refl, sym, subst, ap, ◌∙◌, inl, inr}
use Rattle.std.proofs.lemmas.Bool.{eq-eqb, false≢true, ne_eqb}
use Rattle.std.proofs.lemmas.List.{append-nil}
use Rattle.std.proofs.lemmas.List.Elements.{filter-append}
use Rattle.std.proofs.lemmas.Option.{same_Some}
use Rattle.pr_line.specs.declared.options.Options.{Options}
use Rattle.pr_model.specs.Legal.{state_after}
use Rattle.pr_model.specs.State.{TracedState}
use Rattle.pr_model.specs.declared.calls.Reply.{Reply}
use Rattle.pr_model.specs.declared.events.Entry.{Entry}
use Rattle.pr_truss.specs.Feeding.{fed}
use Rattle.pr_truss.specs.NextCalls.{call_of, freeing_call, next_call_of, open_control}
use Rattle.pr_truss.specs.Trusses.{TrussState, traced_at, with_stage}
use Rattle.pr_truss.specs.declared.reports.Report.{Report}
use Rattle.pr_truss.specs.declared.stages.AfterClosing.{AfterClosing}
use Rattle.pr_truss.specs.declared.stages.FreeingStep.TheVariants as freeing
use Rattle.pr_truss.specs.declared.stages.Stage.{Stage}
use Rattle.pr_truss.specs.declared.stages.Stage.TheVariants.{OpeningControl, Opening, OpeningChildControl, OpeningChild, Closing, FreeingChild}
use Rattle.pr_truss_laws.proofs.Replies.FedSteps.{fed-step}
use Rattle.pr_truss_laws.proofs.Replies.FitLemmas.{last-within}
use Rattle.pr_truss_laws.proofs.Files.HeldLemmas.{Fits}
use Rattle.pr_truss_laws.proofs.Files.OwnLemmas.{Owns}
use Rattle.pr_truss_laws.proofs.Replies.ReplySteps as step
use Rattle.pr_truss_laws.proofs.Replies.ReplySteps.{Closes, Looks, ReplyStep, Returns, Settles, on-staged, over-staged}
use Rattle.pr_truss_laws.specs.Exchanges.{Exchange, truss_at}
use Rattle.pr_truss_laws.specs.Runs.{IsTrussRun}
use Rattle.pr_report_laws.proofs.Files.FileLaws.{HasFiles}
use Rattle.pr_report_laws.proofs.Files.FileSteps.{MakesNext, makes-next}
use Rattle.pr_report_laws.proofs.Files.WatchHistories.{Reaches, run-reaches, truss_at-push}
use Rattle.pr_report_laws.proofs.Holding.HoldPlaces.{hold-watched, one-run}
use Rattle.pr_report_laws.proofs.Replies.Places.{unwatched-away}
use Rattle.pr_report_laws.proofs.Watching.HistoryParts.{front-run, rest-makes}
use Rattle.pr_report_laws.specs.Holds.{HasHold}
use Rattle.pr_report_laws.specs.HeldRefusals.{TellsNoRefusalOfWhatItHolds, opens_file_of, refusals_of, tells_refusal_of}
use Rattle.pr_report_laws.specs.Watching.{is_away, place_of, watches, with_exchange}

-- Truss does not say that it cannot trace what it has hold of.

pub other-more : (pid : ℕ) (rs : List Report) (r : Report) → tells_refusal_of pid r ≡ false
    → refusals_of pid (rs ++ r ∷ []) ≡ refusals_of pid rs
other-more pid rs r other =
    filter-append (tells_refusal_of pid) rs (r ∷ [])
    ∙ ap (λ b. refusals_of pid rs ++ cond b (r ∷ []) []) other ∙ append-nil (refusals_of pid rs)

module _ (k pid : ℕ) (t : TrussState) (s : TracedState) (g : Reaches k t s) (x : Exchange)
    (next : next_call_of t ≡ Some x.call) (plain : opens_file_of pid x.call ≡ false) where
  abbrev Same : TrussState → Type 0
  Same u = refusals_of pid u.reports ≡ refusals_of pid t.reports

  -- truss watches the process before the reply, or after it
  abbrev IsOn : TrussState → Type 0
  IsOn v = (watches t pid ≡ true) ⊎ (watches v pid ≡ true)

  files : HasFiles k t s
  files = g.files

  -- it opens no file of the process
  calls : call_of t t.stage ≡ Some x.call
  unfolding next_call_of
  calls = next

  opens-other : (stage : Stage) (of : ℕ) → t.stage ≡ stage → call_of t stage ≡ Some (open_control of)
      → (of == pid) ≡ false
  opens-other stage of at is =
      ap (opens_file_of pid) (same_Some (open_control of) x.call (sym is ∙ ap (call_of t) (sym at) ∙ calls)) ∙ plain

  -- a process that it is opening, and whose files it closes then, it watches neither before the reply nor after it
  apart : (stage : Stage) (place : ℕ) (v : TrussState) → t.stage ≡ stage → place < length t.traced
      → is_away t.leaving stage place ≡ true → place_of v (traced_at t place).pid ≡ Some place
      → is_away v.leaving v.stage place ≡ true → IsOn v → (traced_at t place).pid ≢ pid
  apart stage place v at within away there away_then on same = elim on [
    | inl before ↦
        let off : watches t pid ≡ false =
        unwatched-away t pid place (subst (λ p. place_of t p ≡ Some place) same (files.one place within))
        (ap (λ z. is_away t.leaving z place) at ∙ away) in
        absurd (false≢true (sym off ∙ before))
    | inr after ↦
        let off : watches v pid ≡ false =
        unwatched-away v pid place (subst (λ p. place_of v p ≡ Some place) same there) away_then in
        absurd (false≢true (sym off ∙ after))
  ]

  settles-same : (stage : Stage) (given : Bool) (u : TrussState) → t.stage ≡ stage → Settles t x.reply stage given u
      → Same u
  unfolding call_of
  settles-same stage given u at (step.refuses_start _ _) = other-more pid t.reports _ refl
  settles-same stage given u at (step.refuses_control {pid = of} _ _) =
      other-more pid t.reports _ (opens-other (OpeningControl of) of at refl)
  settles-same stage given u at (step.interrupts_text _ _) = other-more pid t.reports _ refl
  settles-same stage given u at _ = refl

  looks-same : (stage : Stage) (place : ℕ) (child : Option ℕ) (u : TrussState) → Looks t x.reply stage place child u
      → Same u
  looks-same stage place child u (step.shows _ _ _ _) = other-more pid t.reports _ refl
  looks-same stage place child u step.shows_text = other-more pid t.reports _ refl
  looks-same stage place child u _ = refl

  closes-same : (stage : Stage) (place : ℕ) (after : AfterClosing) (u : TrussState) → t.stage ≡ stage
      → Fits t.traced stage → IsOn (with_stage u (Closing place after)) → Closes t x.reply stage place after u → Same u
  unfolding call_of freeing_call
  closes-same stage place after u at f on (step.text_ended _) = other-more pid t.reports _ refl
  closes-same stage place after u at f on (step.refuses_free {pid = of} _ _) =
      other-more pid t.reports _ (opens-other (FreeingChild of freeing.OpenControl) of at refl)
  closes-same stage place after u at f on (step.refuses_opening {now = now} _ _) =
      let once = eq-eqb place place refl in
      other-more pid t.reports _
      (ne_eqb _ pid
      (apart (Opening place now) place (with_stage u (Closing place after)) at f.0 once (files.one place f.0) once on))
  closes-same stage place after u at f on (step.refuses_child {parent = parent} {now = now} _ _) =
      let once = eq-eqb place place refl in
      let within = last-within t.traced parent place f.0 in
      other-more pid t.reports _
      (ne_eqb _ pid
      (apart (OpeningChild parent place now) place (with_stage u (Closing place after)) at within once
      (files.one place within) once on))
  closes-same stage place after u at f on _ = refl

  returns-same : (stage : Stage) (parent : ℕ) (u : TrussState) → t.stage ≡ stage → Returns t x.reply stage parent u
      → Same u
  unfolding call_of
  returns-same stage parent u at (step.refuses_child_control {pid = of} _ _) =
      other-more pid t.reports _ (opens-other (OpeningChildControl parent of) of at refl)
  returns-same stage parent u at _ = refl

  step-same : (stage : Stage) (v : TrussState) → t.stage ≡ stage → Fits t.traced stage → IsOn v
      → ReplyStep t x.reply stage v → Same v
  step-same stage v at f on (step.settles {u = u} w goes) =
      let z = on-staged goes in ap (refusals_of pid) z.reports ∙ settles-same stage _ u at w
  step-same stage v at f on (step.looks {u = u} w over) =
      let z = over-staged over in ap (refusals_of pid) z.reports ∙ looks-same stage _ _ u w
  step-same stage v at f on (step.closes {u = u} w) = closes-same stage _ _ u at f on w
  step-same stage v at f on (step.returns {u = u} w) = returns-same stage _ u at w
  step-same stage v at f on _ = refl

  pub fed-same : IsOn (fed t x.reply) → Same (fed t x.reply)
  fed-same on =
      let owns : Owns k t s = g.owns in
      step-same t.stage (fed t x.reply) refl owns.fits on (fed-step t x.reply)

pub tells-no-refusal : (n k : ℕ) (o : Options) (first : TracedState) (h : List Entry) → IsTrussRun n k o first h
    → TellsNoRefusalOfWhatItHolds k o first h
tells-no-refusal n k o first h run = record {
  each = λ before later e x pid is own held plain.
      let all : IsTrussRun n k o first (before ++ e ∷ later) = subst (IsTrussRun n k o first) is run in
      let front = front-run n k o first before (e ∷ later) all in
      let t : TrussState = truss_at k o before in
      let m = makes-next k t e later (rest-makes n k o first before (e ∷ later) all) in
      let next : next_call_of t ≡ Some x.call = subst (MakesNext t) own m.0 in
      let fed_is : truss_at k o (before ++ e ∷ []) ≡ fed t x.reply =
      truss_at-push k o before e ∙ ap (with_exchange t) own in
      ap (λ (u : TrussState). refusals_of pid u.reports) fed_is
      ∙ fed-same k pid t (state_after first before) (run-reaches n k o first before front) x next plain
      (on before e pid t x.reply front (one-run n k o pid first before later e all) fed_is held);
}
  where
    on : (before : List Entry) (e : Entry) (pid : ℕ) (t : TrussState) (r : Reply) → IsTrussRun n k o first before
        → IsTrussRun n k o first (before ++ e ∷ []) → truss_at k o (before ++ e ∷ []) ≡ fed t r
        → HasHold k o pid first before ⊎ HasHold k o pid first (before ++ e ∷ [])
        → (watches (truss_at k o before) pid ≡ true) ⊎ (watches (fed t r) pid ≡ true)
    on before e pid t r front more fed_is (inl held) = inl (hold-watched n k o pid first before front held)
    on before e pid t r front more fed_is (inr held) =
        inr
        (subst (λ (u : TrussState). watches u pid ≡ true) fed_is
        (hold-watched n k o pid first (before ++ e ∷ []) more held))

pub ruleset held_refusals = (tells-no-refusal)
