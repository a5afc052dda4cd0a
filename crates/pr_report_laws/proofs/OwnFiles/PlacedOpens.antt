use Rattle.std.proofs.Common.{◌≡◌, ◌++◌, ℕ, Some, List, [], ◌∷◌, sym, subst, ap, inl, inr}
use Rattle.pr_line.specs.declared.options.Options.{Options}
use Rattle.pr_model.specs.State.{TracedState}
use Rattle.pr_model.specs.declared.calls.Call.TheVariants as call
use Rattle.pr_model.specs.declared.calls.File.TheVariants.{Ctl}
use Rattle.pr_model.specs.declared.events.Entry.{Entry}
use Rattle.pr_truss.specs.NextCalls.{next_call_of}
use Rattle.pr_truss.specs.Trusses.{TrussState, first_truss, traced_at}
use Rattle.pr_truss_laws.proofs.Replies.ExchangeLemmas.{makes-front, makes-rest}
use Rattle.pr_truss_laws.specs.Exchanges.{Exchange, Makes, exchanges, truss_after, truss_at}
use Rattle.pr_truss_laws.specs.Runs.{IsTrussRun}
use Rattle.pr_report_laws.proofs.Files.FileSteps.{MakesNext, makes-next}
use Rattle.pr_report_laws.proofs.OwnFiles.OpenPlaces.{ComesToControl, IsFork, IsLastFork, by_fork, by_last_fork, by_words, comes-control, comes-other}
use Rattle.pr_report_laws.proofs.ToldForks.ToldReads.{last-told}
use Rattle.pr_report_laws.proofs.UnopenedChildren.ChildReads.{read-child}
use Rattle.pr_report_laws.proofs.Watching.ExchangeEntries.{HasEntryOf, entry-of}
use Rattle.pr_report_laws.proofs.Watching.HistoryParts.{front-run, rest-makes}
use Rattle.pr_report_laws.specs.Freed.{ReadsLastFork}
use Rattle.pr_report_laws.specs.OwnOpens.{MayOpenControl, OpensInPlace, WasToldLast, as_child, as_given}

-- Each open of truss has its place in a history.

module _ (n k : ℕ) (o : Options) (first : TracedState) (h : List Entry) (run : IsTrussRun n k o first h) where
  forked : (of : ℕ) → IsFork o of (exchanges k h) → WasToldLast k o of first h
  forked of f =
      let w = read-child n k o first h run of f in
      record {
        parent = w.parent;
        before = w.before;
        entry = w.entry;
        since = w.since;
        is = w.is;
        reads = inl w.reads;
        last = w.last;
      }

  left-fork : (of : ℕ) → IsLastFork o of (exchanges k h) → WasToldLast k o of first h
  left-fork of f =
      let x : Exchange = f.read in
      let w : HasEntryOf k h f.past x [] = entry-of k h f.past x [] f.is in
      let same : truss_at k o w.before ≡ truss_after (first_truss o) f.past =
      ap (truss_after (first_truss o)) w.earlier in
      record {
        parent = (traced_at (truss_at k o w.before) 0).pid;
        before = w.before;
        entry = w.entry;
        since = w.later;
        is = w.is;
        reads =
            inr
            (last-told n k o first w.before w.later w.entry (subst (IsTrussRun n k o first) w.is run) x w.own of
            (subst (λ (t : TrussState). ReadsLastFork t x.reply of) (sym same) f.reads));
        last = w.rest;
      }

  placed : (pid : ℕ) → ComesToControl o pid (exchanges k h) → MayOpenControl k o pid first h
  placed pid (by_words w) = as_given w
  placed pid (by_fork f) = as_child f.follow (forked pid f)
  placed pid (by_last_fork f) = as_child f.follow (left-fork pid f)

pub opens-in-place : (n k : ℕ) (o : Options) (first : TracedState) (h : List Entry) → IsTrussRun n k o first h
    → OpensInPlace k o first h
opens-in-place n k o first h run = record {
  controls = λ before later e r pid id mode is own.
      let all : IsTrussRun n k o first (before ++ e ∷ later) = subst (IsTrussRun n k o first) is run in
      let front : IsTrussRun n k o first before = front-run n k o first before (e ∷ later) all in
      let t : TrussState = truss_at k o before in
      let m = makes-next k t e later (rest-makes n k o first before (e ∷ later) all) in
      let next : next_call_of t ≡ Some (call.Open pid id Ctl mode) = subst (MakesNext t) own m.0 in
      placed n k o first before front pid (comes-control o (exchanges k before) pid id mode front.makes next);
  files = λ before after r pid id file mode is other.
      let x : Exchange = record { call = call.Open pid id file mode; reply = r } in
      let made : Makes (first_truss o) (before ++ x ∷ after) = subst (Makes (first_truss o)) is run.makes in
      let at = makes-rest (first_truss o) before (x ∷ after) made in
      comes-other o before pid id file mode other (makes-front (first_truss o) before (x ∷ after) made) at.0;
}

pub ruleset placed_opens = (opens-in-place)
