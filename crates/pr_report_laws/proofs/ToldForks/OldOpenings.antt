use Rattle.std.proofs.Common.{◌≡◌, ◌<◌, ◌-◌, ◌+◌, ◌++◌, ℕ, zero, suc, Bool, true, false, cond, Option, Some, None, List, [], ◌∷◌, length, refl, sym, subst, ap, ◌∙◌, arith}
use Rattle.std.proofs.lemmas.Bool.{false≢true}
use Rattle.std.proofs.lemmas.List.{length-append}
use Rattle.std.specs.List.{All}
use Rattle.pr_line.specs.declared.options.Options.{Options}
use Rattle.pr_model.specs.Legal.{state_after}
use Rattle.pr_model.specs.Replies.{bytes_in, handle_in}
use Rattle.pr_model.specs.State.{TracedState}
use Rattle.pr_model.specs.declared.calls.Reply.{Reply}
use Rattle.pr_model.specs.declared.calls.Reply.TheVariants as reply
use Rattle.pr_model.specs.declared.events.Entry.{Entry}
use Rattle.pr_truss.specs.Closings.{with_next_opening}
use Rattle.pr_truss.specs.Feeding.{fed}
use Rattle.pr_truss.specs.Openings.{at_step, learnt, step_after}
use Rattle.pr_truss.specs.Records.{event_stops}
use Rattle.pr_truss.specs.Replies.{answer_of}
use Rattle.pr_truss.specs.Trusses.{TrussState, first_truss, traced_at, with_stage}
use Rattle.pr_truss.specs.declared.processes.Traced.{Traced}
use Rattle.pr_truss.specs.declared.replies.Answer.TheVariants.{Accepted}
use Rattle.pr_truss.specs.declared.stages.ChildStep.{ChildStep}
use Rattle.pr_truss.specs.declared.stages.ChildStep.TheVariants as child
use Rattle.pr_truss.specs.declared.stages.OpeningStep.{OpeningStep}
use Rattle.pr_truss.specs.declared.stages.OpeningStep.TheVariants as opening
use Rattle.pr_truss.specs.declared.stages.Stage.TheVariants.{Opening, OpeningChild, Running}
use Rattle.pr_truss_laws.proofs.Files.HeldLemmas.{set-at}
use Rattle.pr_truss_laws.proofs.Replies.OptionLemmas.{fed-options}
use Rattle.pr_truss_laws.specs.Exchanges.{Exchange, IsGranted, Makes, truss_after, truss_at}
use Rattle.pr_truss_laws.specs.Given.{IsWholeOpening, reply_at}
use Rattle.pr_truss_laws.specs.Runs.{IsTrussRun}
use Rattle.pr_report_laws.proofs.Files.FileLaws.{HasFiles}
use Rattle.pr_report_laws.proofs.Files.WatchHistories.{after-append, makes-front, makes-rest, run-reaches}
use Rattle.pr_report_laws.proofs.Invariant.OpeningRuns.{IsFollowing, IsOpening, child-started, child_left, granted-first, granted-rest, left_after, one-left, opening-goes, opening-runs, step-fed, step-left, stepped, learns, steps_left}
use Rattle.pr_report_laws.proofs.Watching.ChildPlaces.{child-placed}
use Rattle.pr_report_laws.proofs.Replies.NextStages.{comes-same, next_opening-comes}
use Rattle.pr_report_laws.proofs.Replies.WatchedPlaces.{IsWatched, StandOnce}
use Rattle.pr_report_laws.proofs.ToldForks.OldStops.{AllLeft, NewAt, at-left, reached-new}
use Rattle.pr_report_laws.proofs.Watching.BeginLaws.{after-options, at-options, lives-not_gone, opening-begins}
use Rattle.pr_report_laws.proofs.Watching.HistoryParts.{all-rest}
use Rattle.pr_report_laws.proofs.Watching.OpeningPlaces.{opening-placed}
use Rattle.pr_report_laws.specs.Attachments.{HasFollowed, HasOpened}

-- How many old stops of a process are left where its opening is done: those that the look of it showed but one, and
-- none of a child.

-- ---- the steps behind the look

-- whether a step comes behind the look
abbrev is_behind : OpeningStep → Bool
is_behind opening.TraceSignals = true
is_behind opening.TraceFaults = true
is_behind opening.TraceEntries = true
is_behind opening.TraceExits = true
is_behind opening.Follow = true
is_behind opening.Start = true
is_behind _ = false

abbrev behind_if : Option OpeningStep → Bool
behind_if None = true
behind_if (Some step) = is_behind step

behind-after : (o : Options) (r : Reply) (step : OpeningStep) → is_behind step ≡ true
    → behind_if (step_after o r step) ≡ true
unfolding step_after
behind-after o r opening.TraceSignals behind = refl
behind-after o r opening.TraceFaults behind = refl
behind-after o r opening.TraceEntries behind = refl
behind-after o r opening.TraceExits behind =
    elim o.follow as (λ b. is_behind (cond b opening.Follow opening.Start) ≡ true) [ true ↦ refl | false ↦ refl ]
behind-after o r opening.Follow behind = refl
behind-after o r opening.Start behind = refl
behind-after o r _ behind = absurd (false≢true behind)

-- what truss learns at it
behind-old : (u : Traced) (r : Reply) (step : OpeningStep) → is_behind step ≡ true → (learnt u r step).old ≡ u.old
unfolding learnt
behind-old u r opening.ReadLwps behind = absurd (false≢true behind)
behind-old u r opening.OpenStatus behind = refl
behind-old u r _ behind = refl

module _ (t : TrussState) (pid place : ℕ) (step : OpeningStep) (x : Exchange) (w : IsOpening t pid place step)
    (granted : answer_of x.reply ≡ Accepted) where
  -- what stands at the place
  stepped-is : traced_at (stepped t pid place step x w granted) place ≡ learnt (traced_at t place) x.reply step
  unfolding stepped learns
  stepped-is = set-at t.traced place (learnt (traced_at t place) x.reply step) w.within

  stepped-old : is_behind step ≡ true → (traced_at (stepped t pid place step x w granted) place).old ≡
      (traced_at t place).old
  stepped-old behind =
      ap (λ (u : Traced). u.old) stepped-is ∙ behind-old (traced_at t place) x.reply step behind

  behind-fed : (xs : List Exchange) → length (x ∷ xs) ≡ steps_left t.options.follow step → is_behind step ≡ true
      → ((u : TrussState) (n : OpeningStep) → IsOpening u pid place n → is_behind n ≡ true
      → length xs ≡ steps_left u.options.follow n → (traced_at (truss_after u xs) place).old ≡ (traced_at u place).old)
      → (n : Option OpeningStep) → step_after t.options x.reply step ≡ n → (traced_at
      (truss_after (at_step (stepped t pid place step x w granted) place n) xs) place).old ≡ (traced_at t place).old
  unfolding stepped
  behind-fed [] left behind later None is =
      let u : TrussState = stepped t pid place step x w granted in
      ap (λ (y : Traced). y.old) (comes-same place u (with_next_opening u) (next_opening-comes u)) ∙ stepped-old behind
  behind-fed (y ∷ ys) left behind later None is =
      absurd (omega (arith, left, step-left t.options x.reply step, ap (left_after t.options.follow) is))
  behind-fed xs left behind later (Some n) is =
      later (with_stage (stepped t pid place step x w granted) (Opening place n)) n
      (opening-goes t pid place step x w granted n is)
      (sym (ap behind_if is) ∙ behind-after t.options x.reply step behind)
      (omega (arith, left, step-left t.options x.reply step, ap (left_after t.options.follow) is))
      ∙ stepped-old behind

behind-runs : (xs : List Exchange) (t : TrussState) (pid place : ℕ) (step : OpeningStep)
    → IsOpening t pid place step → is_behind step ≡ true → All IsGranted xs
    → length xs ≡ steps_left t.options.follow step → (traced_at (truss_after t xs) place).old ≡ (traced_at t place).old
unfolding stepped learns
behind-runs [] t pid place step w behind all left = absurd (omega (arith, left, step-left t.options reply.Done step))
behind-runs (x ∷ xs) t pid place step w behind all left =
    let granted = granted-first x xs all in
    ap (λ (u : TrussState). (traced_at (truss_after u xs) place).old) (step-fed t place step x.reply w.stage granted)
    ∙ behind-fed t pid place step x w granted xs left behind
    (λ u n v on. behind-runs xs u pid place n v on (granted-rest x xs all)) (step_after t.options x.reply step) refl

-- ---- the look

at-look : (follow : Bool) (step : OpeningStep) → steps_left follow step ≡ 5 + cond follow 2 1
    → step ≡ opening.ReadLwps
at-look follow opening.ReadLwps is = refl
at-look follow _ is = absurd (omega (arith, is))

-- a list in two parts around an element
record IsCut (n : ℕ) (xs : List Exchange) : Type 0 where
  front : List Exchange
  here : Exchange
  back : List Exchange
  is : xs ≡ front ++ here ∷ back
  count : length front ≡ n

cut : (n : ℕ) (xs : List Exchange) → n < length xs → IsCut n xs
cut n [] within = absurd (omega (arith, within))
cut zero (x ∷ xs) within = record { front = []; here = x; back = xs; is = refl; count = refl }
cut (suc n) (x ∷ xs) within =
    let c = cut n xs (omega (arith, within)) in
    record {
      front = x ∷ c.front;
      here = c.here;
      back = c.back;
      is = ap (λ (ys : List Exchange). x ∷ ys) c.is;
      count = ap suc c.count;
    }

reply-of : (front : List Exchange) (here : Exchange) (back : List Exchange)
    → reply_at (front ++ here ∷ back) (length front) ≡ here.reply
reply-of [] here back = refl
reply-of (x ∷ front) here back = reply-of front here back

abbrev pub look_stops : Reply → ℕ
look_stops r = length (event_stops (bytes_in r)) - 1

module _ (o : Options) (pid : ℕ) (t : TrussState) (same : t.options ≡ o) where
  -- the process stands at a place, with so many old stops
  record StandsOld (v : TrussState) (old : ℕ) : Type 0 where
    place : ℕ
    watched : IsWatched v pid place
    left : (traced_at v place).old ≡ old

  -- after the look
  look-runs : (u : TrussState) (place : ℕ) (x : Exchange) (xs : List Exchange) → IsOpening u pid place opening.ReadLwps
      → All IsGranted (x ∷ xs) → length (x ∷ xs) ≡ steps_left u.options.follow opening.ReadLwps
      → StandsOld (truss_after (fed u x.reply) xs) (look_stops x.reply)
  unfolding stepped learns step_after learnt
  look-runs u place x xs w all left =
      let granted = granted-first x xs all in
      let v : TrussState = with_stage (stepped u pid place opening.ReadLwps x w granted)
      (Opening place opening.TraceSignals) in
      let is : fed u x.reply ≡ v = step-fed u place opening.ReadLwps x.reply w.stage granted in
      let next : IsOpening v pid place opening.TraceSignals =
      opening-goes u pid place opening.ReadLwps x w granted opening.TraceSignals refl in
      let count : length xs ≡ steps_left v.options.follow opening.TraceSignals = omega (arith, left) in
      subst (λ (z : TrussState). StandsOld (truss_after z xs) (look_stops x.reply)) (sym is)
      (record {
        place = place;
        watched = opening-runs xs v pid place opening.TraceSignals next (granted-rest x xs all) count;
        left =
            behind-runs xs v pid place opening.TraceSignals next refl (granted-rest x xs all) count
            ∙ ap (λ (y : Traced). y.old) (stepped-is u pid place opening.ReadLwps x w granted);
      })

  -- a whole opening
  opening-old : (xs : List Exchange) → Makes t xs → IsWholeOpening o pid xs
      → StandsOld (truss_after t xs) (look_stops (reply_at xs 8))
  opening-old xs makes whole =
      let b = opening-begins o pid xs whole.calls in
      by b.one b.two b.more b.is b.left
    where
      by : (one two : Exchange) (more : List Exchange) → xs ≡ one ∷ two ∷ more
          → length (two ∷ more) ≡ steps_left o.follow opening.OpenStatus
          → StandsOld (truss_after t xs) (look_stops (reply_at xs 8))
      by one two more is left =
          let c = cut 7 (two ∷ more) (omega (arith, left)) in
          let all : xs ≡ one ∷ (c.front ++ c.here ∷ c.back) =
          is ∙ ap (λ (ys : List Exchange). one ∷ ys) c.is in
          let given : IsWholeOpening o pid (one ∷ (c.front ++ c.here ∷ c.back)) =
          subst (IsWholeOpening o pid) all whole in
          let p =
          opening-placed o pid t same one c.front (c.here ∷ c.back) (subst (Makes t) all makes) given
          (omega arith) in
          let u : TrussState = truss_after (fed t one.reply) c.front in
          let options : u.options ≡ o = after-options c.front (fed t one.reply) ∙ fed-options t one.reply ∙ same in
          let count : length (c.here ∷ c.back) ≡ 5 + cond o.follow 2 1 =
          omega (
            arith,
            left,
            c.count,
            ap (λ (ys : List Exchange). length ys) c.is,
            length-append c.front (c.here ∷ c.back),
          ) in
          let follow : u.options.follow ≡ o.follow = ap (λ (q : Options). q.follow) options in
          let at : p.step ≡ opening.ReadLwps =
          at-look o.follow p.step
          (ap (λ f. steps_left f p.step) (sym follow) ∙ p.calls ∙ count) in
          let rest : All IsGranted (c.here ∷ c.back) =
          all-rest IsGranted (one ∷ c.front) (c.here ∷ c.back) given.granted in
          let runs =
          look-runs u (length t.traced) c.here c.back (subst (IsOpening u pid (length t.traced)) at p.opening) rest
          (count ∙ ap (λ f. steps_left f opening.ReadLwps) (sym follow)) in
          let ninth : c.here.reply ≡ reply_at xs 8 =
          sym (reply-of (one ∷ c.front) c.here c.back)
          ∙ ap (λ m. reply_at (one ∷ (c.front ++ c.here ∷ c.back)) m) (ap suc c.count)
          ∙ ap (λ (ys : List Exchange). reply_at ys 8) (sym all) in
          subst (λ (r : Reply). StandsOld (truss_after t xs) (look_stops r)) ninth
          (subst (λ (v : TrussState). StandsOld v (look_stops c.here.reply))
          (sym (ap (truss_after t) all ∙ after-append (fed t one.reply) c.front (c.here ∷ c.back))) runs)

-- ---- along a history

module _ (n k : ℕ) (o : Options) (pid : ℕ) (s : TracedState) (h : List Entry) (run : IsTrussRun n k o s h) where
  once : StandOnce (truss_at k o h)
  once =
      let g = run-reaches n k o s h run in
      let files : HasFiles k (truss_at k o h) (state_after s h) = g.files in
      files.one

  -- after the whole opening of a process
  pub opened-left : (w : HasOpened k o pid h)
      → AllLeft pid (length (event_stops (bytes_in (reply_at w.opening 8))) - 1) (truss_at k o h).traced
  opened-left w =
      let t : TrussState = truss_after (first_truss o) w.earlier in
      let makes : Makes t w.opening =
      makes-rest (first_truss o) w.earlier w.opening (subst (Makes (first_truss o)) w.is run.makes) in
      let is : truss_after t w.opening ≡ truss_at k o h =
      sym (ap (truss_after (first_truss o)) w.is ∙ after-append (first_truss o) w.earlier w.opening) in
      let d = opening-old o pid t (at-options o w.earlier) w.opening makes w.whole in
      let v : IsWatched (truss_at k o h) pid d.place =
      subst (λ (z : TrussState). IsWatched z pid d.place) is d.watched in
      at-left (truss_at k o h) pid _ d.place once v.within v.of
      (ap (λ (z : TrussState). (traced_at z d.place).old) (sym is) ∙ d.left)

  -- after the opening of the child of a fork
  pub followed-left : HasFollowed k pid h → AllLeft pid 0 (truss_at k o h).traced
  followed-left w =
      let t : TrussState = truss_after (first_truss o) w.earlier in
      let u : TrussState = truss_after t w.opening in
      let all : Makes t (w.opening ++ w.last ∷ []) =
      makes-rest (first_truss o) w.earlier (w.opening ++ w.last ∷ [])
      (subst (Makes (first_truss o)) w.is run.makes) in
      let p =
      child-placed pid t w.last w.opening (handle_in (reply_at w.opening 0))
      (makes-front t w.opening (w.last ∷ []) all) w.calls w.granted in
      from u p.0 p.1.0 p.1.1.0 p.1.1.1.0 p.1.1.1.1
      (ap (truss_after (first_truss o)) w.is
      ∙ after-append (first_truss o) w.earlier (w.opening ++ w.last ∷ []) ∙ after-append t w.opening (w.last ∷ []))
      (subst (λ (z : TrussState). NewAt z.traced z.stage) (after-append (first_truss o) w.earlier w.opening)
      (reached-new o (w.earlier ++ w.opening)))
    where
      from : (u : TrussState) (parent place : ℕ) (step : ChildStep) → child_left step ≡ 1
          → IsFollowing u pid parent place step → truss_at k o h ≡ fed u w.last.reply
          → NewAt u.traced u.stage → AllLeft pid 0 (truss_at k o h).traced
      from u parent place step one f is new =
          let stage : u.stage ≡ OpeningChild parent place child.Start =
          f.stage ∙ ap (λ x. OpeningChild parent place x) (one-left step one) in
          let none : (traced_at u place).old ≡ 0 = subst (NewAt u.traced) stage new in
          let then : truss_at k o h ≡ with_stage u (Running parent) =
          is ∙ child-started u parent place w.last.reply stage (lives-not_gone w.last.reply w.lives) in
          at-left (truss_at k o h) pid 0 place once
          (subst (λ (z : TrussState). place < length z.traced) (sym then) f.within)
          (ap (λ (z : TrussState). (traced_at z place).pid) then ∙ f.of)
          (ap (λ (z : TrussState). (traced_at z place).old) then ∙ none)
