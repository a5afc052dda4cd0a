use Rattle.std.proofs.Common.{◌≡◌, ◌≢◌, ◌⊎◌, ◌<◌, ◌+◌, ◌++◌, ℕ, Bool, true, false, Option, Some, None, List, [], ◌∷◌, length, refl, sym, subst, ap, ◌∙◌, arith, inl, inr}
use Rattle.std.proofs.lemmas.Bool.{cases_eq, cases_lt, false≢true, ne_eqb}
use Rattle.std.proofs.lemmas.List.Edits.{get_or-remove_above, get_or-remove_below, length-remove}
use Rattle.std.proofs.lemmas.List.Elements.{All-push}
use Rattle.std.specs.List.{remove}
use Rattle.pr_line.specs.declared.options.Options.{Options}
use Rattle.pr_model.specs.Legal.{state_after}
use Rattle.pr_model.specs.Replies.{handle_in}
use Rattle.pr_model.specs.State.{TracedState}
use Rattle.pr_model.specs.declared.calls.Reply.{Reply}
use Rattle.pr_model.specs.declared.calls.Reply.TheVariants as reply
use Rattle.pr_model.specs.declared.events.Entry.{Entry}
use Rattle.pr_num.specs.declared.errnos.Errno.TheVariants.{Noent}
use Rattle.pr_truss.specs.Children.{child_step_after}
use Rattle.pr_truss.specs.Feeding.{fed}
use Rattle.pr_truss.specs.NextCalls.{child_call, next_call_of, opening_call}
use Rattle.pr_truss.specs.Openings.{step_after}
use Rattle.pr_truss.specs.Replies.{answer_of}
use Rattle.pr_truss.specs.Trusses.{TrussState, nobody, traced_at}
use Rattle.pr_truss.specs.declared.processes.Traced.{Traced}
use Rattle.pr_truss.specs.declared.replies.Answer.TheVariants.{Accepted, Interrupted, Gone}
use Rattle.pr_truss.specs.declared.stages.AfterClosing.{AfterClosing}
use Rattle.pr_truss.specs.declared.stages.ChildStep.{ChildStep}
use Rattle.pr_truss.specs.declared.stages.ChildStep.TheVariants as child
use Rattle.pr_truss.specs.declared.stages.OpeningStep.{OpeningStep}
use Rattle.pr_truss.specs.declared.stages.OpeningStep.TheVariants as opening
use Rattle.pr_truss.specs.declared.stages.Stage.TheVariants.{Opening, OpeningChild, Closing}
use Rattle.pr_truss_laws.proofs.Files.HeldLemmas.{Fits, at_place}
use Rattle.pr_truss_laws.proofs.Files.OwnLemmas.{Owns}
use Rattle.pr_truss_laws.proofs.GivenProcesses.SequenceLemmas.{whole-calls}
use Rattle.pr_truss_laws.specs.Exchanges.{Exchange, IsGranted, calls_in, exchange_of, exchanges, truss_at}
use Rattle.pr_truss_laws.specs.Given.{IsWholeOpening}
use Rattle.pr_truss_laws.specs.Runs.{IsTrussRun}
use Rattle.pr_report_laws.proofs.Files.FileLaws.{HasFiles}
use Rattle.pr_report_laws.proofs.Files.FileSteps.{MakesNext}
use Rattle.pr_report_laws.proofs.Files.FileUses.{standing}
use Rattle.pr_report_laws.proofs.Files.KeepLemmas.{can_wait}
use Rattle.pr_report_laws.proofs.Replies.StageChanges.{Begins, How, IsAt, StaysAt, at, child_interrupted, followed, free, interrupted, less, opened}
use Rattle.pr_report_laws.proofs.Invariant.StandLemmas.{Stands, StandsOpening}
use Rattle.pr_report_laws.proofs.Files.WatchHistories.{IsAnswered, Reaches, answered-calm, exchange-answered, run-front, run-last, run-next, run-pushed, run-reaches, truss_at-push}
use Rattle.pr_report_laws.proofs.Memory.WatchMemory.{IsChildUnderWay, IsUnderWay, Recalls, Remembers, accepted-granted, child-called, child-calls, longer, reached-comes, run-recalls, step-called}
use Rattle.pr_report_laws.proofs.Replies.WatchedPlaces.{IsWatched, place-watched, watched-place}
use Rattle.pr_report_laws.specs.Attachments.{HasFollowed, HasOpened, child_calls}
use Rattle.pr_report_laws.specs.Watching.{is_away, watches, with_exchange}

-- Truss begins to watch a process in no other way than by the whole opening of it, as one that it was given or as a
-- child.

-- ---- where a process stood that is watched now

-- it stood at this place, and its opening is over with this reply
pub record HasBegun (t : TrussState) (r : Reply) (pid place : ℕ) : Type 0 where
  pub of : (traced_at t place).pid ≡ pid
  pub attached : (traced_at t place).attached ≡ true
  pub begins : Begins t r place

module _ (t : TrussState) (r : Reply) (u : TrussState) (pid place : ℕ) (w : IsWatched u pid place) where
  abbrev Before : Type 0
  Before = ((p : ℕ) × IsWatched t pid p) ⊎ HasBegun t r pid place

  stayed : StaysAt t u place → is_away t.leaving t.stage place ≡ false → Before
  stayed st here =
      let within = st.was w.within in
      inl (
        place,
        record {
          within = within;
          of = sym (st.pid within) ∙ w.of;
          attached = sym (st.attached within) ∙ w.attached;
          here = here;
        },
      )

  stayed-free : StaysAt t u place
      → ((traced_at t place).attached ≡ true → is_away t.leaving t.stage place ≡ true → Begins t r place) → Before
  stayed-free st begins = by (is_away t.leaving t.stage place) refl
    where
      by : (b : Bool) → is_away t.leaving t.stage place ≡ b → Before
      by false here = stayed st here
      by true away =
          let within = st.was w.within in
          let attached = sym (st.attached within) ∙ w.attached in
          inr (record { of = sym (st.pid within) ∙ w.of; attached = attached; begins = begins attached away })

  stayed-at : (q : ℕ) → IsAt t r q u → Before
  stayed-at q a = elim (cases_eq place q) [
    | inl same ↦ absurd (false≢true (sym w.here ∙ subst (λ n. is_away u.leaving u.stage n ≡ true) (sym same) a.away))
    | inr apart ↦ stayed (a.others place apart) (a.before place apart)
  ]

  not-closing : (q : ℕ) (next : AfterClosing) → t.stage ≡ Closing q next → (p : ℕ) → p ≢ q
      → is_away t.leaving t.stage p ≡ false
  not-closing q next is p apart = ap (λ x. is_away t.leaving x p) is ∙ ne_eqb q p (λ same. apart (sym same))

  stood : (p : ℕ) → p < length t.traced → at_place t.traced p ≡ at_place u.traced place
      → is_away t.leaving t.stage p ≡ false → Before
  stood p within same here =
      inl (
        p,
        record {
          within = within;
          of = ap (λ (x : Traced). x.pid) same ∙ w.of;
          attached = ap (λ (x : Traced). x.attached) same ∙ w.attached;
          here = here;
        },
      )

  stayed-less : (q : ℕ) (next : AfterClosing) → t.stage ≡ Closing q next → q < length t.traced
      → u.traced ≡ remove t.traced q → Before
  stayed-less q next is there removed =
      let inside : place < length (remove t.traced q) =
      subst (λ (ts : List Traced). place < length ts) removed w.within in
      let now : at_place u.traced place ≡ at_place (remove t.traced q) place =
      ap (λ (ts : List Traced). at_place ts place) removed in
      elim (cases_lt place q) [
        | inl below ↦ stood place (omega arith) (sym (get_or-remove_below t.traced q nobody place below there)
            ∙ sym now) (not-closing q next is place (λ same. absurd (omega arith)))
        | inr above ↦ stood (place + 1) (omega (arith, length-remove t.traced q there))
            (sym (get_or-remove_above t.traced q nobody place above there)
            ∙ sym now) (not-closing q next is (place + 1) (λ same. absurd (omega arith)))
      ]

  pub watched-before : Fits t.traced t.stage → How t r u → Before
  watched-before fits (free places f begins) = stayed-free (places place) (begins place)
  watched-before fits (at q a) = stayed-at q a
  watched-before fits (less q next is removed f) =
      let there : Fits t.traced (Closing q next) = subst (Fits t.traced) is fits in
      stayed-less q next is there.0 removed

-- ---- the wait alone is interrupted

-- the process is attached only after the wait for its stop
waits-free : (o : Options) (u : Traced) (step : OpeningStep) → StandsOpening u step → u.attached ≡ true
    → can_wait (opening_call o u step) ≡ false
unfolding opening_call
waits-free o u (opening.AwaitStop until) stands on = absurd (false≢true (sym stands.fresh.free ∙ on))
waits-free o u _ stands on = refl

pub child-waits : (u : Traced) (step : ChildStep) → can_wait (child_call u step) ≡ false
unfolding child_call
child-waits u child.SetRelease = refl
child-waits u _ = refl

-- the last call of an opening, with which it is over
pub data StartsNow (t : TrussState) (r : Reply) (place : ℕ) : Type 0 where
  starts_given : t.stage ≡ Opening place opening.Start → answer_of r ≡ Accepted → StartsNow t r place
  starts_child : (parent : ℕ) → t.stage ≡ OpeningChild parent place child.Start → answer_of r ≢ Gone
      → StartsNow t r place

-- ---- along a history

gone-fail : (r : Reply) → r ≡ reply.Fail Noent → answer_of r ≡ Gone
unfolding answer_of
gone-fail r is = ap answer_of is

module _ (n k : ℕ) (o : Options) (pid : ℕ) (s : TracedState) (before : List Entry) (e : Entry)
    (run : IsTrussRun n k o s (before ++ e ∷ [])) (off : watches (truss_at k o before) pid ≡ false)
    (on : watches (truss_at k o (before ++ e ∷ [])) pid ≡ true) where
  t : TrussState
  t = truss_at k o before

  now : TracedState
  now = state_after s before

  reached : Reaches k t now
  unfolding t now
  reached = run-reaches n k o s before (run-front n k o s before e run)

  recalled : Recalls o t (exchanges k before)
  unfolding t
  recalled = run-recalls n k o s before (run-front n k o s before e run)

  -- the exchange of the last entry
  module _ (x : Exchange) (its : exchange_of k e ≡ Some x) where
    next : next_call_of t ≡ Some x.call
    unfolding t
    next = subst (MakesNext (truss_at k o before)) its (run-next n k o s before e run)

    answered : IsAnswered k now x
    unfolding now
    answered = exchange-answered n k (state_after s before) e x (run-last n k o s before e run) its

    fits : Fits t.traced t.stage
    fits = let g = reached in let owns : Owns k t now = g.owns in owns.fits

    whole-opening : (place : ℕ) → t.stage ≡ Opening place opening.Start → answer_of x.reply ≡ Accepted
        → (traced_at t place).pid ≡ pid → HasOpened k o pid (before ++ e ∷ [])
    unfolding step_after
    whole-opening place is accepted of =
        let m = recalled in
        let w : IsUnderWay o t place opening.Start (exchanges k before) =
        subst (Remembers o t (exchanges k before)) is m.opening in
        let call = step-called o t (exchanges k before) x m.options fits next m.opening place opening.Start is in
        let goes = w.goes (x ∷ []) (call, refl) in
        let whole : IsWholeOpening o w.pid (w.first ∷ (w.begun ++ x ∷ [])) = record {
          calls = whole-calls o w.pid w.first (w.begun ++ x ∷ []) w.control goes;
          granted = All-push IsGranted (w.first ∷ w.begun) x w.granted (accepted-granted x accepted);
        } in
        record {
          earlier = w.earlier;
          opening = w.first ∷ (w.begun ++ x ∷ []);
          is =
              run-pushed n k o s before e run x its
              ∙ longer o t (exchanges k before) x m.options fits next m.opening w.earlier w.begun w.first w.is;
          whole = subst (λ p. IsWholeOpening o p (w.first ∷ (w.begun ++ x ∷ []))) (sym w.of ∙ of) whole;
        }

    whole-child : (parent place : ℕ) → t.stage ≡ OpeningChild parent place child.Start → answer_of x.reply ≢ Gone
        → (traced_at t place).pid ≡ pid → HasFollowed k pid (before ++ e ∷ [])
    unfolding child_step_after
    whole-child parent place is lives of =
        let m = recalled in
        let w : IsChildUnderWay t place child.Start (exchanges k before) =
        subst (Remembers o t (exchanges k before)) is m.opening in
        let call = child-called o t (exchanges k before) x m.options fits next m.opening parent place child.Start is in
        let goes = w.goes (x ∷ []) (call, refl) in
        record {
          earlier = w.earlier;
          opening = w.first ∷ w.begun;
          last = x;
          is =
              run-pushed n k o s before e run x its
              ∙ longer o t (exchanges k before) x m.options fits next m.opening w.earlier w.begun w.first w.is;
          calls =
              subst (λ p. calls_in (w.first ∷ (w.begun ++ x ∷ [])) ≡ child_calls p (handle_in w.first.reply)) (sym w.of
              ∙ of) (child-calls w.pid w.first (w.begun ++ x ∷ []) w.control goes);
          granted = w.granted;
          lives = λ refused. lives (gone-fail x.reply refused);
        }

    not-interrupted : (place : ℕ) (step : OpeningStep) → t.stage ≡ Opening place step
        → (traced_at t place).attached ≡ true → answer_of x.reply ≡ Interrupted → ⊥
    not-interrupted place step is attached answer =
        let m = recalled in
        let g = reached in
        let stands : Stands t.traced t.leaving (Opening place step) =
        standing k t now (Opening place step) g.files is in
        let call = step-called o t (exchanges k before) x m.options fits next m.opening place step is in
        answered-calm k now x answered (ap can_wait call
        ∙ waits-free o (traced_at t place) step stands.at attached) answer

    child-not-interrupted : (parent place : ℕ) (step : ChildStep) → t.stage ≡ OpeningChild parent place step
        → answer_of x.reply ≡ Interrupted → ⊥
    child-not-interrupted parent place step is answer =
        let m = recalled in
        let call = child-called o t (exchanges k before) x m.options fits next m.opening parent place step is in
        answered-calm k now x answered (ap can_wait call ∙ child-waits (traced_at t place) step) answer

    begun-so : (place : ℕ) → (traced_at t place).pid ≡ pid → (traced_at t place).attached ≡ true
        → Begins t x.reply place → HasOpened k o pid (before ++ e ∷ []) ⊎ HasFollowed k pid (before ++ e ∷ [])
    begun-so place of attached (opened is accepted) = inl (whole-opening place is accepted of)
    begun-so place of attached (followed parent is lives) = inr (whole-child parent place is lives of)
    begun-so place of attached (interrupted step is answer) = absurd (not-interrupted place step is attached answer)
    begun-so place of attached (child_interrupted parent step is answer) =
        absurd (child-not-interrupted parent place step is answer)

    later-on : watches (fed t x.reply) pid ≡ true
    unfolding t
    later-on =
        subst (λ (u : TrussState). watches u pid ≡ true) (truss_at-push k o before e
        ∙ ap (with_exchange (truss_at k o before)) its) on

    starts-now : (place : ℕ) → (traced_at t place).attached ≡ true → Begins t x.reply place → StartsNow t x.reply place
    starts-now place attached (opened is accepted) = starts_given is accepted
    starts-now place attached (followed parent is lives) = starts_child parent is lives
    starts-now place attached (interrupted step is answer) = absurd (not-interrupted place step is attached answer)
    starts-now place attached (child_interrupted parent step is answer) =
        absurd (child-not-interrupted parent place step is answer)

    -- The process stands at a place, and its opening is over with the exchange.
    pub watched-starts : (place : ℕ) ×
        (((traced_at (truss_at k o before) place).pid ≡ pid) × StartsNow (truss_at k o before) x.reply place)
    unfolding t
    watched-starts =
        let g = reached in
        let files : HasFiles k t now = g.files in
        let w = watched-place (fed t x.reply) pid later-on in
        let c = reached-comes k t now x.reply g in
        elim (watched-before t x.reply (fed t x.reply) pid w.0 w.1 fits c.how) [
          | inl was ↦ absurd (false≢true (sym off ∙ place-watched t pid was.0 files.one was.1))
          | inr b ↦ (w.0, (b.of, starts-now w.0 b.attached b.begins))
        ]

    came : HasOpened k o pid (before ++ e ∷ []) ⊎ HasFollowed k pid (before ++ e ∷ [])
    unfolding t
    came =
        let g = reached in
        let files : HasFiles k t now = g.files in
        let w = watched-place (fed t x.reply) pid later-on in
        let c = reached-comes k t now x.reply g in
        elim (watched-before t x.reply (fed t x.reply) pid w.0 w.1 fits c.how) [
          | inl was ↦ absurd (false≢true (sym off ∙ place-watched t pid was.0 files.one was.1))
          | inr b ↦ begun-so w.0 b.of b.attached b.begins
        ]

  pub stays-off : exchange_of k e ≡ None → ⊥
  stays-off none =
      false≢true (sym off
      ∙ subst (λ (u : TrussState). watches u pid ≡ true) (truss_at-push k o before e
      ∙ ap (with_exchange (truss_at k o before)) none) on)

  -- What an entry makes truss watch, it has just opened.
  pub watched-opened : HasOpened k o pid (before ++ e ∷ []) ⊎ HasFollowed k pid (before ++ e ∷ [])
  watched-opened = by (exchange_of k e) refl
    where
      by : (x : Option Exchange) → exchange_of k e ≡ x
          → HasOpened k o pid (before ++ e ∷ []) ⊎ HasFollowed k pid (before ++ e ∷ [])
      by None none = absurd (stays-off none)
      by (Some x) its = came x its
