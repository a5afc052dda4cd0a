use Rattle.std.proofs.Common.{◌≡◌, ◌≤◌, ◌+◌, ◌*◌, ◌++◌, ℕ, List, [], ◌∷◌, length, append-nil, sym, subst, ap, ◌∙◌, arith}
use Rattle.std.proofs.lemmas.Bool.{false≢true}
use Rattle.std.specs.List.{All}
use Rattle.pr_line.specs.declared.options.Options.{Options}
use Rattle.pr_model.specs.Legal.{state_after}
use Rattle.pr_model.specs.State.{TracedState}
use Rattle.pr_model.specs.declared.calls.Call.TheVariants as call
use Rattle.pr_model.specs.declared.calls.Reply.{Reply}
use Rattle.pr_model.specs.declared.events.Entry.{Entry}
use Rattle.pr_truss.specs.Trusses.{TrussState, first_truss}
use Rattle.pr_truss_laws.proofs.Soon.SoonLemmas.{polls-soon}
use Rattle.pr_truss_laws.specs.Exchanges.{Exchange, Makes, exchanges}
use Rattle.pr_truss_laws.specs.Sent.{sends}
use Rattle.pr_truss_laws.specs.Soon.{IsNoPoll, PollsSoon, calls_without_poll}
use Rattle.pr_report_laws.proofs.Files.WatchHistories.{Reaches, exchanges-both}
use Rattle.pr_report_laws.proofs.OwnFiles.SoonOpens.{controls-most, polled-done}
use Rattle.pr_report_laws.proofs.Watching.HistoryParts.{legal-front}
use Rattle.pr_report_laws.specs.SoonOpen.{HasPolled, controls_open}
use Rattle.pr_function_laws.proofs.LeavingProcesses.LeavingLaws.{calm-exchanges}
use Rattle.pr_function_laws.proofs.Looking.BesideCounts.{Counted, counted, counted-most}
use Rattle.pr_function_laws.proofs.Looking.LastCalls.{makes-join}
use Rattle.pr_function_laws.proofs.OpenedProcesses.OpenedLaws.{calls-front}
use Rattle.pr_function_laws.proofs.OrdinaryTruss.OrdinaryCalls.{sees-sends}
use Rattle.pr_function_laws.proofs.OrdinaryTruss.OrdinaryEntries.{front-run}
use Rattle.pr_function_laws.proofs.OrdinaryTruss.OrdinaryExchanges.{IsFit, truss-beside}
use Rattle.pr_function_laws.proofs.OrdinaryTruss.OrdinaryFiles.{Follows, Halfway, run-halfway}
use Rattle.pr_function_laws.proofs.OrdinaryTruss.OrdinaryLaws.{is_plain, like-same}
use Rattle.pr_function_laws.specs.Opened.{IsFunctionRun, functions_at}
use Rattle.pr_function_laws.specs.Ordinary.{AreLike, IsTrussBeside, left_out, none, one, ordinary}
use Rattle.pr_function_laws.specs.Runs.{MakesFunctionCalls}
use Rattle.pr_function_laws.specs.SoonPolls.{PollsByItsFilesOf, interrupts, times_as_many}

-- How soon truss with calls of functions polls, by the control files that it has open.

-- ---- a poll is one of those of a truss that they are like

polls-later : (y : Exchange) (ys : List Exchange) → HasPolled ys → HasPolled (y ∷ ys)
polls-later y ys p = record {
  before = y ∷ p.before;
  handles = p.handles;
  reply = p.reply;
  after = p.after;
  is = ap (λ (zs : List Exchange). y ∷ zs) p.is;
}

like-polled : {t : TrussState} {xs ys : List Exchange} → AreLike t xs ys → (before after : List Exchange)
    → (handles : List ℕ) (r : Reply) → xs ≡ before ++ record { call = call.Poll handles; reply = r } ∷ after
    → HasPolled ys
like-polled none [] after handles r is = cc
like-polled none (b ∷ before) after handles r is = cc
like-polled (one {x = x} {y = y} {ys = ys} like rest) [] after handles r is =
    let polls : x ≡ record { call = call.Poll handles; reply = r } = cc in
    let alike : x ≡ y = like-same like (ap (λ (z : Exchange). is_plain z.call) polls) in
    record {
      before = [];
      handles = handles;
      reply = r;
      after = ys;
      is = ap (λ (z : Exchange). z ∷ ys) (sym alike ∙ polls);
    }
like-polled (one {y = y} {xs = xs} {ys = ys} like rest) (b ∷ before) after handles r is =
    let more : xs ≡ before ++ record { call = call.Poll handles; reply = r } ∷ after = cc in
    polls-later y ys (like-polled rest before after handles r more)
like-polled {t} (left_out {x = x} sees passes rest) [] after handles r is =
    let polls : x ≡ record { call = call.Poll handles; reply = r } = cc in
    absurd (false≢true (sym (ap (λ (z : Exchange). sends z.call) polls) ∙ sees-sends t t.stage x.call sees))
like-polled (left_out {xs = xs} sees passes rest) (b ∷ before) after handles r is =
    let more : xs ≡ before ++ record { call = call.Poll handles; reply = r } ∷ after = cc in
    like-polled rest before after handles r more

-- ---- the law

module _ (n k : ℕ) (o : Options) (s : TracedState) (before between later : List Entry)
    (run : IsFunctionRun n k o s (before ++ (between ++ later))) (quiet : All IsNoPoll (exchanges k between)) where
  abbrev t : TrussState
  t = functions_at k o before

  abbrev now : TracedState
  now = state_after s before

  half : Halfway n k o (first_truss o) s before (between ++ later)
  half = run-halfway n k o s before (between ++ later) run

  follows : Follows k o t now
  follows = let h = half in h.follows

  fit : IsFit o t
  fit = let f = follows in f.fit

  beside : IsTrussBeside o (exchanges k before)
  beside =
      let f = front-run n k o s before (between ++ later) run in
      truss-beside o (exchanges k before) f.has f.follows_none f.makes (calm-exchanges before n k s f.legal)

  abbrev Those : Type 0
  Those = Counted o run.has run.follows_none t (exchanges k between)

  those : Those
  those =
      let h = half in
      counted o run.has run.follows_none (exchanges k between) t fit
      (calls-front t (exchanges k between) (exchanges k later)
      (subst (MakesFunctionCalls t) (exchanges-both k between later) h.makes))
      (calm-exchanges between n k now (legal-front n now between later h.legal)) quiet

  few : (let c : Those = those in length c.ys) ≤ calls_without_poll (ordinary t)
  few =
      let b = beside in
      let c : Those = those in
      let made : Makes (first_truss o) (b.others ++ c.ys) =
      makes-join b.others c.ys (first_truss o) b.makes (subst (λ (z : TrussState). Makes z c.ys) (sym b.is) c.makes) in
      let soon : PollsSoon o (b.others ++ c.ys) = polls-soon o (b.others ++ c.ys) made in
      subst (λ (z : TrussState). length c.ys ≤ calls_without_poll z) b.is
      (soon.each b.others c.ys [] (ap (λ (zs : List Exchange). b.others ++ zs) (sym (append-nil c.ys))) c.none)

  most : length (ordinary t).traced ≤ controls_open k now
  most =
      let f = follows in
      let g : Reaches k (ordinary t) now = f.reaches in
      controls-most k (ordinary t) now g.files

  pids : length t.options.pids ≡ length o.pids
  pids = let f = fit in ap (λ (p : Options). length p.pids) f.options

  soon-at : length (exchanges k between)
      ≤ times_as_many o * (39 + 12 * controls_open k (state_after s before) + 40 * length o.pids)
      + 2 * interrupts (exchanges k between)
  soon-at =
      counted-most o run.has run.follows_none t (exchanges k between)
      (39 + 12 * controls_open k now + 40 * length o.pids) fit those (omega (arith, few, most, pids))

  polled-at : HasPolled (exchanges k before) → length (exchanges k between)
      ≤ times_as_many o * (39 + 12 * controls_open k (state_after s before)) + 2 * interrupts (exchanges k between)
  polled-at p =
      let b = beside in
      let those_polled : HasPolled b.others =
      like-polled b.like p.before p.after p.handles p.reply p.is in
      let done : length (ordinary t).options.pids ≤ (ordinary t).begun =
      subst (λ (z : TrussState). length z.options.pids ≤ z.begun) b.is (polled-done o b.others b.makes those_polled) in
      counted-most o run.has run.follows_none t (exchanges k between) (39 + 12 * controls_open k now) fit those
      (omega (arith, few, most, done))

pub polls-by-files : (n k : ℕ) (o : Options) (s : TracedState) (h : List Entry) → IsFunctionRun n k o s h
    → PollsByItsFilesOf k o s h
polls-by-files n k o s h run = record {
  soon = λ before between later is quiet.
      soon-at n k o s before between later (subst (IsFunctionRun n k o s) is run) quiet;
  polled = λ before between later is quiet p.
      polled-at n k o s before between later (subst (IsFunctionRun n k o s) is run) quiet p;
}

pub ruleset soon_polls = (polls-by-files)
