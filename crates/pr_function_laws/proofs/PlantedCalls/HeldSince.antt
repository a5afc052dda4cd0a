use Rattle.std.proofs.Common.{◌≡◌, ◌&&◌, ◌<◌, ◌++◌, ℕ, Bool, true, false, not, Option, Some, None, List, [], ◌∷◌, length, append-nil, append_assoc, refl, sym, subst, ap, ◌∙◌, arith}
use Rattle.std.proofs.lemmas.Bool.{and_parts, false≢true}
use Rattle.std.proofs.lemmas.List.{length-map}
use Rattle.std.proofs.lemmas.List.Elements.{All-append, All-cons, All-head, All-nil, All-push}
use Rattle.std.specs.List.{All, cons_option}
use Rattle.pr_line.specs.declared.options.Options.{Options}
use Rattle.pr_model.specs.Replies.{handle_in, until_in}
use Rattle.pr_model.specs.State.{TracedState}
use Rattle.pr_model.specs.declared.calls.Call.{Call}
use Rattle.pr_model.specs.declared.calls.Call.TheVariants as call
use Rattle.pr_model.specs.declared.calls.File.{File}
use Rattle.pr_model.specs.declared.calls.File.TheVariants as file
use Rattle.pr_model.specs.declared.events.Entry.{Entry}
use Rattle.pr_report_laws.proofs.Files.WatchHistories.{exchanges-both, exchanges-push, no-exchanges}
use Rattle.pr_report_laws.proofs.Replies.WatchedPlaces.{IsWatched, watched-place}
use Rattle.pr_report_laws.specs.Holds.{KeepsHold}
use Rattle.pr_report_laws.specs.Watching.{watches}
use Rattle.pr_truss.specs.NextCalls.{open_control}
use Rattle.pr_truss.specs.Trusses.{TrussState}
use Rattle.pr_truss.specs.declared.processes.Traced.{Traced}
use Rattle.pr_truss_laws.specs.Exchanges.{Exchange, IsGranted, calls_in, exchange_of, exchanges}
use Rattle.pr_truss_laws.specs.Given.{reply_at}
use Rattle.pr_function_laws.proofs.Holding.HoldLaws.{hold-watched}
use Rattle.pr_function_laws.proofs.OrdinaryTruss.OrdinaryEntries.{along, front-run, watches-ordinary}
use Rattle.pr_function_laws.proofs.OrdinaryTruss.OrdinaryReplies.{at-ordinary}
use Rattle.pr_function_laws.proofs.PlantedCalls.PlantedMarks.{Kept, always-kept, opens-not}
use Rattle.pr_function_laws.specs.Holds.{GetsHoldWithFunctions, HasHoldWithFunctions, IsWholeFunctionOpening, LooksAndRuns, setting_calls, setting_calls_with}
use Rattle.pr_function_laws.specs.Opened.{IsFunctionRun, functions_at}
use Rattle.pr_function_laws.specs.Ordinary.{ordinary}
use Rattle.pr_function_laws.specs.Planted.{Look, Plants, Reads, look_at}
use Rattle.pr_function_laws.specs.PlantedByCalls.{IsNoBreakpoint, IsSinceOpened, OpensNot, control_in, exchanges_in}
use Rattle.pr_function_laws.specs.ToldTurns.{AreSteppable}

-- In a hold the exchanges from the first one of the opening on are those since the last open of the control file.

-- ---- the opening

abbrev is_control : File → Bool
is_control file.Ctl = true
is_control _ = false

-- whether a call opens a control file
abbrev opens_control : Call → Bool
opens_control (call.Open pid id f mode) = is_control f
opens_control _ = false

abbrev none_opens : List Call → Bool
none_opens [] = true
none_opens (c ∷ cs) = not (opens_control c) && none_opens cs

other-call : (pid : ℕ) (x : Exchange) → opens_control x.call ≡ false → OpensNot pid x
other-call pid x other = record { opens_not = λ is granted. false≢true (sym other ∙ ap opens_control is) }

off : (b : Bool) → not b ≡ true → b ≡ false
off true is = absurd (false≢true is)
off false is = refl

none-open : (pid : ℕ) (xs : List Exchange) → none_opens (calls_in xs) ≡ true → All (OpensNot pid) xs
none-open pid [] none = All-nil (OpensNot pid)
none-open pid (x ∷ xs) none =
    let parts = and_parts (not (opens_control x.call)) (none_opens (calls_in xs)) none in
    All-cons (OpensNot pid) x xs (other-call pid x (off (opens_control x.call) parts.0)) (none-open pid xs parts.1)

-- the settings
record HasFirst (pid : ℕ) (xs : List Exchange) : Type 0 where
  first : Exchange
  more : List Exchange
  is : xs ≡ first ∷ more
  opens : first.call ≡ open_control pid
  none : All (OpensNot pid) more
  handle : handle_in (reply_at xs 0) ≡ handle_in first.reply

settings-first : (o : Options) (pid control lstatus until : ℕ) (xs : List Exchange)
    → calls_in xs ≡ setting_calls_with o pid control lstatus until → HasFirst pid xs
settings-first o pid control lstatus until [] is = cc
settings-first o pid control lstatus until (x ∷ xs) is = record {
  first = x;
  more = xs;
  is = refl;
  opens = cc;
  none = none-open pid xs (ap none_opens (tail is));
  handle = refl;
}
  where
    tail-of : List Call → List Call
    tail-of [] = []
    tail-of (c ∷ cs) = cs

    tail : calls_in (x ∷ xs) ≡ setting_calls_with o pid control lstatus until
        → calls_in xs ≡ tail-of (setting_calls_with o pid control lstatus until)
    tail same = ap tail-of same

-- the looks at functions, and the run
looks-none : (o : Options) (pid control : ℕ) (xs : List Exchange) (look : Option Look)
    → LooksAndRuns o control look xs → All (OpensNot pid) xs
looks-none o pid control [] look w = All-nil (OpensNot pid)
looks-none o pid control (x ∷ xs) None w =
    All-cons (OpensNot pid) x xs (other-call pid x (ap opens_control w.0))
    (subst (All (OpensNot pid)) (sym w.1) (All-nil (OpensNot pid)))
looks-none o pid control (x ∷ xs) (Some (Reads function)) w =
    All-cons (OpensNot pid) x xs (other-call pid x (ap opens_control w.0)) (looks-none o pid control xs _ w.1)
looks-none o pid control (x ∷ xs) (Some (Plants function)) w =
    All-cons (OpensNot pid) x xs (other-call pid x (ap opens_control w.0)) (looks-none o pid control xs _ w.1)

-- ---- the hold

module _ (n k : ℕ) (o : Options) (pid : ℕ) (s : TracedState) (able : AreSteppable o)
    (others : All IsNoBreakpoint o.functions) (h : List Entry) (run : IsFunctionRun n k o s h)
    (w : HasHoldWithFunctions k o pid s h) where
  abbrev g : GetsHoldWithFunctions k o pid w.front w.opening
  g = w.begins

  abbrev whole : IsWholeFunctionOpening o pid (let b = w.begins in b.opening)
  whole = let b = w.begins in b.whole

  abbrev Opens_none : List Entry → Type 0
  Opens_none es = All (OpensNot pid) (exchanges k es)

  -- the history up to an entry of the hold
  abbrev upto : List Entry → List Entry
  upto es = w.front ++ w.opening ∷ es

  held-at : (es rest : List Entry) → w.hold ≡ es ++ rest → HasHoldWithFunctions k o pid s (upto es)
  held-at es rest is = record {
    front = w.front;
    opening = w.opening;
    hold = es;
    is = refl;
    begins = w.begins;
    keeps = record {
      none = λ first more e so goes.
          let keeps : KeepsHold k pid s (w.front ++ w.opening ∷ []) w.hold = w.keeps in
          keeps.none first (more ++ rest) e
          (is ∙ ap (λ (fs : List Entry). fs ++ rest) so ∙ append_assoc first (e ∷ more) rest) goes;
    };
  }

  run-at : (es rest : List Entry) → w.hold ≡ es ++ rest → IsFunctionRun n k o s (upto es ++ rest)
  run-at es rest is =
      subst (IsFunctionRun n k o s)
      (w.is ∙ ap (λ (fs : List Entry). w.front ++ w.opening ∷ fs) is
      ∙ sym (append_assoc w.front (w.opening ∷ es) rest)) run

  entry-none : (es rest : List Entry) (e : Entry) → w.hold ≡ es ++ e ∷ rest → Opens_none es → Opens_none (es ++ e ∷ [])
  entry-none es rest e is none =
      subst (All (OpensNot pid)) (sym (exchanges-push k es e)) (by (exchange_of k e) refl)
    where
      all : IsFunctionRun n k o s (upto es ++ e ∷ rest)
      all = run-at es (e ∷ rest) is

      now : IsFunctionRun n k o s (upto es)
      now = front-run n k o s (upto es) (e ∷ rest) all

      t : TrussState
      t = functions_at k o (upto es)

      kept : Kept n k o s able others (upto es)
      kept = always-kept n k o s able others (upto es) now

      on : watches (ordinary t) pid ≡ true
      on = watches-ordinary t pid ∙ hold-watched n k o pid s (upto es) now (held-at es (e ∷ rest) is)

      here : (x : Exchange) → exchange_of k e ≡ Some x → OpensNot pid x
      here x own =
          let p = watched-place (ordinary t) pid on in
          let at : IsWatched (ordinary t) pid p.0 = p.1 in
          let inside : p.0 < length (ordinary t).traced = at.within in
          let many : length (ordinary t).traced ≡ length t.traced = length-map t.traced _ in
          let within : p.0 < length t.traced = omega (arith, inside, many) in
          subst (λ q. OpensNot q x)
          (sym (ap (λ (v : Traced). v.pid) (at-ordinary t p.0)) ∙ at.of)
          (opens-not n k o s able others (upto es) rest e all kept x own p.0 within)

      by : (x : Option Exchange) → exchange_of k e ≡ x → All (OpensNot pid) (exchanges k es ++ cons_option x [])
      by None own = subst (All (OpensNot pid)) (sym (append-nil (exchanges k es))) none
      by (Some x) own = All-push (OpensNot pid) (exchanges k es) x none (here x own)

  hold-none : Opens_none w.hold
  hold-none =
      along Opens_none (subst (All (OpensNot pid)) (sym (no-exchanges k)) (All-nil (OpensNot pid))) w.hold
      (λ es rest e is none. entry-none es rest e is none)

  pub held-since : IsSinceOpened k pid h (control_in w) (exchanges_in w)
  unfolding setting_calls
  held-since =
      let b = g in
      let wh = whole in
      let f : HasFirst pid wh.settings =
      settings-first o pid (handle_in (reply_at wh.settings 0)) (handle_in (reply_at wh.settings 2))
      (until_in (reply_at wh.settings 6)) wh.settings wh.calls in
      let opening_is : b.opening ≡ f.first ∷ (f.more ++ wh.looks) =
      wh.is ∙ ap (λ (ys : List Exchange). ys ++ wh.looks) f.is in
      record {
        earlier = b.earlier;
        first = f.first;
        since = (f.more ++ wh.looks) ++ exchanges k w.hold;
        is =
            ap (exchanges k) (w.is ∙ sym (append_assoc w.front (w.opening ∷ []) w.hold))
            ∙ exchanges-both k (w.front ++ w.opening ∷ []) w.hold
            ∙ ap (λ (ys : List Exchange). ys ++ exchanges k w.hold) b.is
            ∙ append_assoc b.earlier b.opening (exchanges k w.hold);
        begins = ap (λ (ys : List Exchange). ys ++ exchanges k w.hold) opening_is;
        opens = f.opens;
        granted =
            All-head IsGranted f.first (f.more ++ wh.looks) (subst (All IsGranted) opening_is wh.granted);
        handle = f.handle;
        last =
            All-append (OpensNot pid) (f.more ++ wh.looks) (exchanges k w.hold)
            (All-append (OpensNot pid) f.more wh.looks f.none
            (looks-none o pid (handle_in (reply_at wh.settings 0)) wh.looks (look_at o 0) wh.runs)) hold-none;
      }
