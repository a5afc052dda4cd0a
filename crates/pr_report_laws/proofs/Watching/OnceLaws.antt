use Rattle.std.proofs.Common.{◌≡◌, ◌≢◌, ◌⊎◌, ◌<◌, ◌++◌, ℕ, true, false, Option, Some, None, List, [], ◌∷◌, length, refl, sym, subst, ap, ◌∙◌, append_assoc, arith, inl, inr}
use Rattle.std.proofs.lemmas.Bool.{cases_Bool, eq-eqb, false≢true}
use Rattle.std.proofs.lemmas.List.{append-nil}
use Rattle.pr_line.specs.declared.options.Options.{Options}
use Rattle.pr_model.proofs.HistoryLemmas.{state_after-push}
use Rattle.pr_model.specs.Calls.{answer_to}
use Rattle.pr_model.specs.Legal.{IsLegalEntry, state_after}
use Rattle.pr_model.specs.Replies.{handle_in}
use Rattle.pr_model.specs.State.{TracedState, live_process}
use Rattle.pr_model.specs.declared.calls.Call.{Call}
use Rattle.pr_model.specs.declared.calls.File.TheVariants as file
use Rattle.pr_model.specs.declared.calls.Mode.TheVariants.{WriteExcl}
use Rattle.pr_model.specs.declared.events.Entry.{Entry}
use Rattle.pr_num.specs.declared.messages.Message.TheVariants as message
use Rattle.pr_truss.specs.NextCalls.{call_of, child_call, next_call_of, opening_call, run_call}
use Rattle.pr_truss.specs.Replies.{answer_of}
use Rattle.pr_truss.specs.Trusses.{TrussState, first_truss, traced_at}
use Rattle.pr_truss.specs.declared.replies.Answer.TheVariants.{Accepted, Gone}
use Rattle.pr_truss.specs.declared.stages.ChildStep.{ChildStep}
use Rattle.pr_truss.specs.declared.stages.ChildStep.TheVariants as child
use Rattle.pr_truss.specs.declared.stages.OpeningStep.TheVariants as opening
use Rattle.pr_truss.specs.declared.stages.Stage.TheVariants.{Opening, OpeningChild}
use Rattle.pr_lawful.proofs.ProcessParts.HandleLemmas.{handle-at}
use Rattle.pr_truss_laws.proofs.Files.HeldLemmas.{Fits}
use Rattle.pr_truss_laws.proofs.Files.OpensLemmas.{held_by}
use Rattle.pr_truss_laws.proofs.Machine.OverLemmas.{stays-made, stays-over}
use Rattle.pr_truss_laws.proofs.Files.OwnLemmas.{Owns}
use Rattle.pr_truss_laws.specs.Exchanges.{Exchange, Makes, exchange_of, exchanges, truss_after, truss_at}
use Rattle.pr_truss_laws.specs.Given.{IsWholeOpening, reply_at}
use Rattle.pr_truss_laws.specs.Runs.{IsTrussRun}
use Rattle.pr_report_laws.proofs.Files.FileLaws.{HasFiles, IsFileOf}
use Rattle.pr_report_laws.proofs.Files.FileSteps.{MakesNext}
use Rattle.pr_report_laws.proofs.Files.FileUses.{IsWatchedAt, standing, watched-at}
use Rattle.pr_report_laws.proofs.Files.WatchHistories.{IsAnswered, Reaches, after-append, exchange-answered, makes-front, makes-rest, run-front, run-last, run-next, run-pushed, run-reaches, truss_at-push}
use Rattle.pr_report_laws.proofs.Invariant.EntrySteps.{made-at}
use Rattle.pr_report_laws.proofs.Invariant.OpeningRuns.{IsFollowing, IsOpening}
use Rattle.pr_report_laws.proofs.Invariant.StandLemmas.{Stands}
use Rattle.pr_report_laws.proofs.Machine.ControlLaws.{message-gone}
use Rattle.pr_report_laws.proofs.Watching.ChildPlaces.{child-placed, push-same}
use Rattle.pr_report_laws.proofs.Replies.Places.{unwatched-away}
use Rattle.pr_report_laws.proofs.Watching.BeginLaws.{at-options, followed-watches, opened-watches, opening-begins}
use Rattle.pr_report_laws.proofs.Watching.BeginsOnlyLaws.{StartsNow, stays-off, starts_child, starts_given, watched-starts}
use Rattle.pr_report_laws.proofs.Watching.EndLaws.{stage-called, watched-let}
use Rattle.pr_report_laws.proofs.Watching.HistoryParts.{front-run}
use Rattle.pr_report_laws.proofs.Watching.LeavingOn.{fed-leaves, interrupted-leaves}
use Rattle.pr_report_laws.proofs.Watching.OpeningPlaces.{OpensWith, opening-placed}
use Rattle.pr_report_laws.specs.Attachments.{HasFollowed, HasOpened, IsLetGo, ended, left}
use Rattle.pr_report_laws.specs.Grips.{GetsHold}
use Rattle.pr_report_laws.specs.Watching.{is_away, place_of, watches, with_exchange}

-- Truss watches a process at most once: a process that it let go has ended, or truss leaves all its processes.

-- ---- a process that cannot be watched any more

-- it was made, and has ended
pub record HasEnded (pid : ℕ) (s : TracedState) : Type 0 where
  pub made : pid < s.system.made
  pub over : live_process s.system pid ≡ None

-- Truss does not watch it, and leaves its processes, or the process has ended.
pub record IsPast (pid : ℕ) (t : TrussState) (s : TracedState) : Type 0 where
  pub off : watches t pid ≡ false
  pub why : (t.leaving ≡ true) ⊎ HasEnded pid s

-- ---- what an opening that is over says

module _ (k : ℕ) (t : TrussState) (s : TracedState) (x : Exchange) (g : Reaches k t s)
    (next : next_call_of t ≡ Some x.call) (y : IsAnswered k s x) (place : ℕ) where
  fits : Fits t.traced t.stage
  fits = let owns : Owns k t s = g.owns in owns.fits

  -- truss does not leave then
  starts-stays : StartsNow t x.reply place → t.leaving ≡ false
  starts-stays (starts_given is accepted) =
      let w : Stands t.traced t.leaving (Opening place opening.Start) =
      standing k t s (Opening place opening.Start) g.files is in
      w.leaves
  starts-stays (starts_child parent is lives) =
      let w : Stands t.traced t.leaving (OpeningChild parent place child.Start) =
      standing k t s (OpeningChild parent place child.Start) g.files is in
      w.leaves

  -- PCRUN is told that a process has ended
  run-told : place < length t.traced → x.call ≡ run_call (traced_at t place).control
      → live_process s.system (traced_at t place).pid ≡ None → answer_of x.reply ≡ Gone
  run-told within is over =
      let files : HasFiles k t s = g.files in
      let f : IsFileOf k s (traced_at t place).pid (traced_at t place).control file.Ctl WriteExcl =
      files.control place within in
      let gone =
      message-gone s k (traced_at t place).control
      (held_by k (traced_at t place).pid 0 file.Ctl WriteExcl) f.is refl (message.Run 0) y.answer over
      (subst (λ (c : Call). answer_to s k c ≡ Some y.answer) is y.is) in
      sym (ap answer_of y.reply) ∙ gone.gone

  -- and the process lives
  starts-lives : StartsNow t x.reply place → live_process s.system (traced_at t place).pid ≢ None
  unfolding call_of opening_call child_call
  starts-lives (starts_given is accepted) over =
      let f : Fits t.traced (Opening place opening.Start) = subst (Fits t.traced) is fits in
      let called : x.call ≡ run_call (traced_at t place).control =
      stage-called t x (Opening place opening.Start) (run_call (traced_at t place).control) next is refl in
      clash (sym accepted ∙ run-told f.0 called over)
    where
      clash : Accepted ≡ Gone → ⊥
      clash same = cc
  starts-lives (starts_child parent is lives) over =
      let f : Fits t.traced (OpeningChild parent place child.Start) = subst (Fits t.traced) is fits in
      let last = f.0 in
      let called : x.call ≡ run_call (traced_at t place).control =
      stage-called t x (OpeningChild parent place child.Start) (run_call (traced_at t place).control) next is refl in
      lives (run-told (omega (arith, last.last)) called over)

-- ---- one entry more

module _ (n k : ℕ) (o : Options) (pid : ℕ) (s : TracedState) (before : List Entry) (e : Entry)
    (run : IsTrussRun n k o s (before ++ e ∷ [])) where
  abbrev was : TrussState
  was = truss_at k o before

  abbrev now : TracedState
  now = state_after s before

  reached : Reaches k was now
  reached = run-reaches n k o s before (run-front n k o s before e run)

  legal : IsLegalEntry n now e
  legal = run-last n k o s before e run

  -- it is not watched again
  begins-not : watches was pid ≡ false → (was.leaving ≡ true) ⊎ HasEnded pid now
      → watches (truss_at k o (before ++ e ∷ [])) pid ≡ true → ⊥
  begins-not off why on = by (exchange_of k e) refl
    where
      from : (x : Exchange) → exchange_of k e ≡ Some x → (place : ℕ) → (traced_at was place).pid ≡ pid
          → StartsNow was x.reply place → ⊥
      from x its place of starts =
          let next : next_call_of was ≡ Some x.call =
          subst (MakesNext was) its (run-next n k o s before e run) in
          let y : IsAnswered k now x = exchange-answered n k now e x legal its in
          elim why [
            | inl leaving ↦ false≢true (sym (starts-stays k was now x reached next y place starts) ∙ leaving)
            | inr none ↦ starts-lives k was now x reached next y place starts
                (ap (live_process now.system) of ∙ none.over)
          ]

      by : (x : Option Exchange) → exchange_of k e ≡ x → ⊥
      by None none = stays-off n k o pid s before e run off on none
      by (Some x) its =
          let w = watched-starts n k o pid s before e run off on x its in
          from x its w.0 w.1.0 w.1.1

  told-leaves : was.leaving ≡ true → (x : Option Exchange) → (with_exchange was x).leaving ≡ true
  told-leaves on None = on
  told-leaves on (Some x) = fed-leaves was x.reply on

  ended-on : HasEnded pid now → HasEnded pid (state_after s (before ++ e ∷ []))
  ended-on h =
      let g = reached in
      subst (HasEnded pid) (sym (state_after-push s before e))
      (record {
        made = stays-made n now e pid g.lawful legal h.made;
        over = stays-over n now e pid g.lawful legal h.made h.over;
      })

  why-on : (was.leaving ≡ true) ⊎ HasEnded pid now
      → ((truss_at k o (before ++ e ∷ [])).leaving ≡ true) ⊎ HasEnded pid (state_after s (before ++ e ∷ []))
  why-on (inl on) =
      inl (ap (λ (u : TrussState). u.leaving) (truss_at-push k o before e) ∙ told-leaves on (exchange_of k e))
  why-on (inr none) = inr (ended-on none)

  pub past-on : IsPast pid was now → IsPast pid (truss_at k o (before ++ e ∷ [])) (state_after s (before ++ e ∷ []))
  past-on p = record {
    off = elim (cases_Bool (watches (truss_at k o (before ++ e ∷ [])) pid)) [
      | inl on ↦ absurd (begins-not p.off p.why on)
      | inr off ↦ off
    ];
    why = why-on p.why;
  }

  -- a process that truss watches was made
  pub watched-made : watches was pid ≡ true → pid < now.system.made
  watched-made on =
      let g = reached in
      let w = watched-at k was now g.files pid on in
      let a : IsWatchedAt k was now pid w.0 = w.1 in
      let f : IsFileOf k now pid (traced_at was w.0).control file.Ctl WriteExcl = a.control in
      made-at now.opens (traced_at was w.0).control (held_by k pid 0 file.Ctl WriteExcl)
      (handle-at now.opens k (traced_at was w.0).control (held_by k pid 0 file.Ctl WriteExcl) f.is) g.lawful.handles

  -- once it is let go
  pub past-let : watches was pid ≡ true → watches (truss_at k o (before ++ e ∷ [])) pid ≡ false
      → IsPast pid (truss_at k o (before ++ e ∷ [])) (state_after s (before ++ e ∷ []))
  past-let on off = record { off = off; why = why-on (by (watched-let n k o pid s before e run on off)) }
    where
      by : IsLetGo k pid s before e → (was.leaving ≡ true) ⊎ HasEnded pid now
      by (ended over) = inr (record { made = watched-made on; over = over })
      by (left interrupted reads) =
          inl (interrupted-leaves n k o s before (run-front n k o s before e run) interrupted)

-- ---- along a history

module _ (n k : ℕ) (o : Options) (pid : ℕ) (s : TracedState) where
  abbrev pub PastAfter : List Entry → Type 0
  PastAfter h = IsPast pid (truss_at k o h) (state_after s h)

  abbrev Run : List Entry → Type 0
  Run h = IsTrussRun n k o s h

  first-run : (before later : List Entry) (e : Entry) → Run (before ++ e ∷ later) → Run (before ++ e ∷ [])
  first-run before later e run =
      front-run n k o s (before ++ e ∷ []) later (subst Run (sym (append_assoc before (e ∷ []) later)) run)

  rest-run : (before later : List Entry) (e : Entry) → Run (before ++ e ∷ later) → Run ((before ++ e ∷ []) ++ later)
  rest-run before later e run = subst Run (sym (append_assoc before (e ∷ []) later)) run

  pub past-after : (later before : List Entry) → Run (before ++ later) → PastAfter before → PastAfter (before ++ later)
  past-after [] before run p = subst PastAfter (sym (append-nil before)) p
  past-after (e ∷ later) before run p =
      subst PastAfter (append_assoc before (e ∷ []) later)
      (past-after later (before ++ e ∷ []) (rest-run before later e run)
      (past-on n k o pid s before e (first-run before later e run) p))

  -- It was watched, and is not any more.
  pub let-past : (later before : List Entry) → Run (before ++ later) → watches (truss_at k o before) pid ≡ true
      → watches (truss_at k o (before ++ later)) pid ≡ false → PastAfter (before ++ later)
  let-past [] before run on off =
      absurd (false≢true (sym off ∙ ap (λ h. watches (truss_at k o h) pid) (append-nil before) ∙ on))
  let-past (e ∷ later) before run on off =
      subst PastAfter (append_assoc before (e ∷ []) later)
      (elim (cases_Bool (watches (truss_at k o (before ++ e ∷ [])) pid)) [
        | inl still ↦ let-past later (before ++ e ∷ []) (rest-run before later e run) still
            (ap (λ h. watches (truss_at k o h) pid) (append_assoc before (e ∷ []) later) ∙ off)
        | inr over ↦ past-after later (before ++ e ∷ []) (rest-run before later e run)
            (past-let n k o pid s before e (first-run before later e run) on over)
      ])

  -- It is not watched again.
  pub watched-once : (before between later : List Entry) → Run (before ++ (between ++ later))
      → watches (truss_at k o before) pid ≡ true → watches (truss_at k o (before ++ between)) pid ≡ false
      → watches (truss_at k o (before ++ (between ++ later))) pid ≡ false
  watched-once before between later run on off =
      let whole : Run ((before ++ between) ++ later) = subst Run (sym (append_assoc before between later)) run in
      let p =
      past-after later (before ++ between) whole
      (let-past between before (front-run n k o s (before ++ between) later whole) on off) in
      ap (λ h. watches (truss_at k o h) pid) (sym (append_assoc before between later)) ∙ p.off

-- ---- before the last call of an opening the process is not watched

module _ (k : ℕ) (t : TrussState) (s : TracedState) (g : Reaches k t s) (pid place : ℕ) where
  away-off : place < length t.traced → (traced_at t place).pid ≡ pid → is_away t.leaving t.stage place ≡ true
      → watches t pid ≡ false
  away-off within of away =
      let files : HasFiles k t s = g.files in
      unwatched-away t pid place (subst (λ p. place_of t p ≡ Some place) of (files.one place within)) away

  pub opening-off : (more : ℕ) → OpensWith t pid place more → watches t pid ≡ false
  opening-off more w =
      let i : IsOpening t pid place w.step = w.opening in
      away-off i.within i.of (ap (λ x. is_away t.leaving x place) i.stage ∙ eq-eqb place place refl)

  following-off : (parent : ℕ) (stage : ChildStep) → IsFollowing t pid parent place stage → watches t pid ≡ false
  following-off parent stage i =
      away-off i.within i.of (ap (λ x. is_away t.leaving x place) i.stage ∙ eq-eqb place place refl)

-- a list with an element has a last one
pub record HasLast (xs : List Exchange) : Type 0 where
  pub front : List Exchange
  pub last : Exchange
  pub is : xs ≡ front ++ last ∷ []

pub has-last : (x : Exchange) (xs : List Exchange) → HasLast (x ∷ xs)
has-last x [] = record { front = []; last = x; is = refl }
has-last x (y ∷ ys) = let l = has-last y ys in record {
  front = x ∷ l.front;
  last = l.last;
  is = ap (λ (zs : List Exchange). x ∷ zs) l.is;
}

module _ (n k : ℕ) (o : Options) (pid : ℕ) (s : TracedState) (before : List Entry) (e : Entry)
    (run : IsTrussRun n k o s (before ++ e ∷ [])) (x : Exchange) (its : exchange_of k e ≡ Some x) where
  abbrev then : TrussState
  then = truss_at k o before

  then-reached : Reaches k then (state_after s before)
  then-reached = run-reaches n k o s before (run-front n k o s before e run)

  -- what stands before the last exchange
  split : (earlier front : List Exchange) (last : Exchange)
      → exchanges k (before ++ e ∷ []) ≡ earlier ++ (front ++ last ∷ []) → exchanges k before ≡ earlier ++ front
  split earlier front last is =
      push-same (exchanges k before) (earlier ++ front) x last
      (sym (run-pushed n k o s before e run x its) ∙ is ∙ sym (append_assoc earlier front (last ∷ [])))

  then-is : (earlier front : List Exchange) → exchanges k before ≡ earlier ++ front
      → then ≡ truss_after (truss_after (first_truss o) earlier) front
  then-is earlier front is = ap (truss_after (first_truss o)) is ∙ after-append (first_truss o) earlier front

  whole-off : HasOpened k o pid (before ++ e ∷ []) → watches then pid ≡ false
  whole-off h =
      let b = opening-begins o pid h.opening h.whole.calls in
      let l = has-last b.two b.more in
      let is : h.opening ≡ b.one ∷ (l.front ++ l.last ∷ []) =
      b.is ∙ ap (λ (zs : List Exchange). b.one ∷ zs) l.is in
      let past : exchanges k (before ++ e ∷ []) ≡ h.earlier ++ (b.one ∷ (l.front ++ l.last ∷ [])) =
      h.is ∙ ap (λ (zs : List Exchange). h.earlier ++ zs) is in
      let t : TrussState = truss_after (first_truss o) h.earlier in
      let makes : Makes t (b.one ∷ (l.front ++ l.last ∷ [])) =
      makes-rest (first_truss o) h.earlier (b.one ∷ (l.front ++ l.last ∷ []))
      (subst (Makes (first_truss o)) past run.makes) in
      let w =
      opening-placed o pid t (at-options o h.earlier) b.one l.front (l.last ∷ []) makes
      (subst (IsWholeOpening o pid) is h.whole) (omega arith) in
      opening-off k then (state_after s before) then-reached pid (length t.traced) 1
      (subst (λ (u : TrussState). OpensWith u pid (length t.traced) 1)
      (sym (then-is h.earlier (b.one ∷ l.front) (split h.earlier (b.one ∷ l.front) l.last past))) w)

  child-off : HasFollowed k pid (before ++ e ∷ []) → watches then pid ≡ false
  child-off h =
      let t : TrussState = truss_after (first_truss o) h.earlier in
      let makes : Makes t h.opening =
      makes-front t h.opening (h.last ∷ [])
      (makes-rest (first_truss o) h.earlier (h.opening ++ h.last ∷ [])
      (subst (Makes (first_truss o)) h.is run.makes)) in
      let w =
      child-placed pid t h.last h.opening (handle_in (reply_at h.opening 0)) makes h.calls h.granted in
      let at : IsFollowing then pid w.0 w.1.0 w.1.1.0 =
      subst (λ (u : TrussState). IsFollowing u pid w.0 w.1.0 w.1.1.0)
      (sym (then-is h.earlier h.opening (split h.earlier h.opening h.last h.is))) w.1.1.1.1 in
      following-off k then (state_after s before) then-reached pid w.1.0 w.0 w.1.1.0 at

  pub hold-off : HasOpened k o pid (before ++ e ∷ []) ⊎ HasFollowed k pid (before ++ e ∷ [])
      → watches then pid ≡ false
  hold-off (inl h) = whole-off h
  hold-off (inr h) = child-off h

  pub hold-on : HasOpened k o pid (before ++ e ∷ []) ⊎ HasFollowed k pid (before ++ e ∷ [])
      → watches (truss_at k o (before ++ e ∷ [])) pid ≡ true
  hold-on (inl h) = opened-watches n k o pid s (before ++ e ∷ []) run h
  hold-on (inr h) = followed-watches n k o pid s (before ++ e ∷ []) run h

-- Truss gets hold of a process once.
pub held-once : (n k : ℕ) (o : Options) (pid : ℕ) (s : TracedState) (before between : List Entry) (e f : Entry)
    → IsTrussRun n k o s (before ++ e ∷ (between ++ f ∷ [])) → GetsHold k o pid before e
    → GetsHold k o pid (before ++ e ∷ between) f → ⊥
held-once n k o pid s before between e f run first second =
    let later : List Entry = between ++ f ∷ [] in
    let one : IsTrussRun n k o s ((before ++ e ∷ []) ++ later) = rest-run n k o pid s before later e run in
    let front : IsTrussRun n k o s (before ++ e ∷ []) = front-run n k o s (before ++ e ∷ []) later one in
    let two : IsTrussRun n k o s ((before ++ e ∷ between) ++ f ∷ []) =
    subst (IsTrussRun n k o s) (sym (append_assoc before (e ∷ between) (f ∷ []))) run in
    let same : (before ++ e ∷ []) ++ between ≡ before ++ e ∷ between = append_assoc before (e ∷ []) between in
    let on = hold-on n k o pid s before e front first.last first.own first.complete in
    let off = hold-off n k o pid s (before ++ e ∷ between) f two second.last second.own second.complete in
    let again = hold-on n k o pid s (before ++ e ∷ between) f two second.last second.own second.complete in
    let not_again =
    watched-once n k o pid s (before ++ e ∷ []) between (f ∷ []) one on
    (ap (λ h. watches (truss_at k o h) pid) same ∙ off) in
    false≢true (sym not_again ∙ ap (λ h. watches (truss_at k o h) pid) (sym (append_assoc (before ++ e ∷ []) between
    (f ∷ [])) ∙ ap (λ (h : List Entry). h ++ f ∷ []) same) ∙ again)

pub ruleset once = (watched-once)
