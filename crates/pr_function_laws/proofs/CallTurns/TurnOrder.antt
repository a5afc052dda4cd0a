use Rattle.std.proofs.Common.{◌≡◌, ◌<◌, ◌+◌, ◌++◌, ℕ, Option, Some, List, [], ◌∷◌, append_assoc, length, sym, subst, ap, ◌∙◌, arith}
use Rattle.std.proofs.lemmas.List.{length-append}
use Rattle.std.specs.List.{cons_option}
use Rattle.pr_model.specs.Legal.{state_after}
use Rattle.pr_model.specs.State.{TracedState}
use Rattle.pr_model.specs.declared.events.Entry.{Entry}
use Rattle.pr_model.specs.declared.events.Act.TheVariants.{Turn}
use Rattle.pr_model.specs.declared.events.Actor.TheVariants.{Lwp}
use Rattle.pr_model.specs.declared.events.Turned.{Turned}
use Rattle.pr_report_laws.proofs.Files.WatchHistories.{cons-exchanges, exchanges-both, exchanges-push}
use Rattle.pr_report_laws.proofs.SeenChildren.Splits.{Compares, ahead, behind, compare, same}
use Rattle.pr_truss.specs.NextCalls.{read_record}
use Rattle.pr_truss.specs.Trusses.{TrussState}
use Rattle.pr_truss_laws.specs.Exchanges.{Exchange, exchanges}
use Rattle.pr_function_laws.proofs.Stepping.BreakpointLemmas as break
use Rattle.pr_function_laws.proofs.CallTurns.TurnLemmas.{reads-none}
use Rattle.pr_function_laws.proofs.CallTurns.TurnWalks.{AreNoReads}
use Rattle.pr_function_laws.specs.Lifted.{IsNoRead, ReadsOnlyLast}
use Rattle.pr_function_laws.specs.Runs.{functions_after}
use Rattle.pr_function_laws.specs.Turns.{AreTwoReads, HasOneTurn, ReadsAgain}

-- Of two breakpoints that truss reads one after the other in a process the turns come in the same order.

no-read-among : (status : ℕ) (xs ys : List Exchange) (x : Exchange) → AreNoReads status (xs ++ x ∷ ys)
    → IsNoRead status x
no-read-among status [] ys x none = none.0
no-read-among status (z ∷ zs) ys x none = no-read-among status zs ys x none.1

module _ (n k : ℕ) (t : TrussState) (place ns pid id : ℕ) (s : TracedState) (e : Entry) (between : List Entry)
    (again : Entry) (w : ReadsAgain n k t place ns pid id s e between again) where
  -- between the two reads there is no other one
  none-between : AreNoReads ns (exchanges k between)
  none-between =
      let it = w.stop in
      reads-none ns (exchanges k between) w.y
      (subst (ReadsOnlyLast ns) (exchanges-push k between again
      ∙ ap (λ (o : Option Exchange). exchanges k between ++ cons_option o []) w.own) it.reads_last)

  -- the first read is one
  first-reads : (let it = w.stop in let x = it.x in x.call) ≡ read_record (Some ns)
  first-reads =
      let it = w.stop in
      let f = it.files in
      break.reads n k t place ns pid id s e (between ++ again ∷ []) it ∙ ap read_record f.own_status

module _ (n k : ℕ) (t : TrussState) (ns pid : ℕ) (s : TracedState) (h : List Entry) (place id : ℕ)
    (front : List Entry) (e : Entry) (between : List Entry) (again : Entry) (later : List Entry)
    (w : AreTwoReads n k t place ns pid id s front e between again later h) (place2 id2 : ℕ) (front2 : List Entry)
    (e2 : Entry) (between2 : List Entry) (again2 : Entry) (later2 : List Entry)
    (w2 : AreTwoReads n k t place2 ns pid id2 s front2 e2 between2 again2 later2 h) where
  -- the read at the second breakpoint does not come between the reads of the first one
  apart : (before rest : List Entry) → between ≡ before ++ e2 ∷ rest → ⊥
  apart before rest is =
      let r2 = w2.reads in
      let it2 = r2.stop in
      let x2 = it2.x in
      let there : exchanges k between ≡ exchanges k before ++ x2 ∷ exchanges k rest =
      ap (exchanges k) is ∙ exchanges-both k before (e2 ∷ rest)
      ∙ ap (λ (xs : List Exchange). exchanges k before ++ xs) (cons-exchanges k e2 rest
      ∙ ap (λ (o : Option Exchange). cons_option o (exchanges k rest)) it2.own) in
      let none =
      no-read-among ns (exchanges k before) (exchanges k rest) x2
      (subst (AreNoReads ns) there
      (none-between n k (functions_after t (exchanges k front)) place ns pid id (state_after s front) e between again
      w.reads)) in
      none.no_read
      (first-reads n k (functions_after t (exchanges k front2)) place2 ns pid id2 (state_after s front2) e2 between2
      again2 r2)

  pub turns-order : length front < length front2 → (before rest before2 rest2 : List Entry) (did did2 : Turned)
      → HasOneTurn pid id before did rest between → HasOneTurn pid id2 before2 did2 rest2 between2
      → length (front ++ e ∷ before) < length (front2 ++ e2 ∷ before2)
  turns-order first before rest before2 rest2 did did2 one two =
      by (compare front2 (front ++ e ∷ between) e2 again (between2 ++ again2 ∷ later2) later
      (sym w2.is ∙ w.is ∙ sym (append_assoc front (e ∷ between) (again ∷ later))))
    where
      size : (xs ys : List Entry) (x : Entry) → length (xs ++ x ∷ ys) ≡ length xs + (length ys + 1)
      size xs ys x = omega (arith, length-append xs (x ∷ ys))

      inside : length before < length between
      inside =
          omega (
            arith,
            ap (λ (es : List Entry). length es) one.is,
            size before rest (record { actor = Lwp pid id; act = Turn did }),
          )

      behind-both : length front + length between < length front2
          → length (front ++ e ∷ before) < length (front2 ++ e2 ∷ before2)
      behind-both far = omega (arith, far, inside, size front before e, size front2 before2 e2)

      earlier : {A : Type 0} (b : List Entry) → Compares front e between front2 e2 b → A
      earlier rest_of (behind b one_is two_is) =
          absurd (omega (arith, first, ap (λ (es : List Entry). length es) one_is, size front2 b e2))
      earlier rest_of (same one_is two_is three_is) =
          absurd (omega (arith, first, ap (λ (es : List Entry). length es) one_is))
      earlier rest_of (ahead b one_is two_is) = absurd (apart b rest_of two_is)

      by : Compares front2 e2 (between2 ++ again2 ∷ later2) (front ++ e ∷ between) again later
          → length (front ++ e ∷ before) < length (front2 ++ e2 ∷ before2)
      by (behind b one_is two_is) =
          behind-both (omega (
            arith,
            ap (λ (es : List Entry). length es) one_is,
            size (front ++ e ∷ between) b again,
            size front between e,
          ))
      by (same one_is two_is three_is) =
          behind-both (omega (arith, ap (λ (es : List Entry). length es) one_is, size front between e))
      by (ahead b one_is two_is) = earlier b (compare front front2 e e2 between b one_is)
