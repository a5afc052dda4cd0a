use Rattle.std.proofs.Common.{◌≡◌, ◌≢◌, ◌==◌, ◌<◌, ◌≤◌, ◌⊎◌, ℕ, Bool, true, false, cond, None, Some, Option, List, [], ◌∷◌, ◌++◌, length, refl, sym, subst, ap, ◌∙◌, arith, inl, inr, append_assoc}
use Rattle.std.proofs.lemmas.Bool.{cases_lt, eq-eqb, eqb-false, eqb-true, false≢true}
use Rattle.std.proofs.lemmas.List.{append-nil}
use Rattle.std.proofs.lemmas.List.Elements.{All-cons, All-head, All-nil, All-push, All-tail}
use Rattle.std.proofs.lemmas.Option.{none-some, same_Some}
use Rattle.std.specs.List.{All}
use Rattle.pr_lawful.proofs.LawfulTurns.EndLemmas.{found-live}
use Rattle.pr_line.specs.declared.options.Options.{Options}
use Rattle.pr_model.proofs.TurnLemmas.{turn-taken}
use Rattle.pr_model.specs.Calls.{Answer, answer_to}
use Rattle.pr_model.specs.Lawful.{IsLawful}
use Rattle.pr_model.specs.Legal.{IsLegal, IsLegalEntry, after, state_after}
use Rattle.pr_model.specs.LwpTurns.{LwpTurn}
use Rattle.pr_model.specs.State.{TracedProcess, TracedState, live_process}
use Rattle.pr_model.specs.declared.calls.Call.{Call}
use Rattle.pr_model.specs.declared.calls.Call.TheVariants as call
use Rattle.pr_model.specs.declared.calls.File.TheVariants as file
use Rattle.pr_model.specs.declared.calls.Mode.TheVariants.{WriteExcl}
use Rattle.pr_model.specs.declared.calls.Reply.{Reply}
use Rattle.pr_model.specs.declared.calls.Reply.TheVariants.{Handle}
use Rattle.pr_model.specs.declared.events.Act.{Act}
use Rattle.pr_model.specs.declared.events.Act.TheVariants as act
use Rattle.pr_model.specs.declared.events.Actor.{Actor}
use Rattle.pr_model.specs.declared.events.Actor.TheVariants.{Controller, Lwp, Clock}
use Rattle.pr_model.specs.declared.events.Entry.{Entry}
use Rattle.pr_reached.proofs.StatesInRange.HistoryRanges.{history-range}
use Rattle.pr_reached.specs.ByteHistories.{HasBytes, IsEntryOfBytes}
use Rattle.pr_reached.specs.InRange.{IsInRange}
use Rattle.pr_model.specs.Replies.{handle_in}
use Rattle.pr_truss.specs.Children.{child_learnt, with_child_control}
use Rattle.pr_truss.specs.Feeding.{fed}
use Rattle.pr_truss.specs.NextCalls.{call_of, next_call_of}
use Rattle.pr_truss.specs.Openings.{with_control}
use Rattle.pr_truss.specs.Replies.{answer_of}
use Rattle.pr_truss.specs.Trusses.{TrussState, traced_at, with_traced}
use Rattle.pr_truss.specs.declared.processes.Traced.{Traced}
use Rattle.pr_truss.specs.declared.replies.Answer.TheVariants.{Accepted}
use Rattle.pr_truss.specs.declared.stages.ChildStep.{ChildStep}
use Rattle.pr_truss.specs.declared.stages.ChildStep.TheVariants as child
use Rattle.pr_truss.specs.declared.stages.Stage.{Stage}
use Rattle.pr_truss.specs.declared.stages.Stage.TheVariants.{OpeningChildControl, OpeningChild}
use Rattle.pr_truss_laws.proofs.Machine.FrameLemmas.{was-made}
use Rattle.pr_truss_laws.proofs.Files.HeldLemmas.{Fits, set-at}
use Rattle.pr_truss_laws.proofs.Machine.StillLemmas.{frozen-turns}
use Rattle.pr_truss_laws.specs.Exchanges.{Exchange, Makes, exchange_in, exchange_of, exchanges, truss_after}
use Rattle.pr_truss_laws.specs.Stills.{IsFrozen}
use Rattle.pr_report_laws.proofs.UnopenedChildren.Births.{Going, child-granted, entry-of, going-on, is-own, own-after, own-stays, stand}
use Rattle.pr_report_laws.proofs.UnopenedChildren.ClaimCalls.{claims-before}
use Rattle.pr_report_laws.proofs.UnopenedChildren.ClaimEntries.{claims-were}
use Rattle.pr_report_laws.proofs.UnopenedChildren.ClaimEntries as entries
use Rattle.pr_report_laws.proofs.UnopenedChildren.ClaimRuns.{call_entry}
use Rattle.pr_report_laws.proofs.UnopenedChildren.Claims.{Claims, claim_of}
use Rattle.pr_report_laws.proofs.UnopenedChildren.Claims as claims
use Rattle.pr_report_laws.proofs.UnopenedChildren.LeftChildren.{LeavesTo, leaves-later, opens-now, parent-now}
use Rattle.pr_report_laws.proofs.Files.FileSteps.{MakesNext, entry-lawful, makes-next}
use Rattle.pr_report_laws.proofs.Invariant.HistoryLaw.{after-next, no-exchanges, reads-back}
use Rattle.pr_report_laws.proofs.Machine.NewBorn.{IsNeverGranted, IsNew, is_begun, is_never, never-later, stands_new}
use Rattle.pr_report_laws.proofs.NewbornChildren.NewbornForks.{IsForkOf, claims-forked, forked-before, forked-last}
use Rattle.pr_report_laws.proofs.Replies.NextStages.{opens}
use Rattle.pr_report_laws.proofs.Invariant.OpeningRuns.{born-following, child-pid}
use Rattle.pr_truss_laws.proofs.Machine.OverLemmas.{stays-made}
use Rattle.pr_report_laws.proofs.Replies.OwnLooks.{ReadsBack}
use Rattle.pr_report_laws.proofs.Replies.OwnOpens.{granted-handle}
use Rattle.pr_report_laws.proofs.Replies.StageChanges.{How, Opens, at, child_goes, child_starts, free, goes, less, no, starts}
use Rattle.pr_report_laws.proofs.Invariant.StandLemmas.{Leaves}
use Rattle.pr_report_laws.proofs.Files.WatchHistories.{IsAnswered, Reaches, exchange-answered}
use Rattle.pr_report_laws.proofs.Memory.WatchMemory.{reached-comes}
use Rattle.pr_report_laws.specs.Births.{granted}
use Rattle.pr_report_laws.specs.Newborn.{IsNoTurnOf, WasForked}
use Rattle.pr_report_laws.specs.Watching.{fed_by_entry, with_exchange}

-- A child of a fork that truss follows has had no turn, from its fork on, until truss runs it.

-- ---- who has no turn

-- a process that has a turn was made
turn-made : (n : ℕ) (s : TracedState) (c : ℕ) (actor : Actor) (it : Act) (id : ℕ) → IsLawful s
    → IsLegalEntry n s (record { actor = actor; act = it }) → actor ≡ Lwp c id → c < s.system.made
unfolding IsLegalEntry
turn-made n s c (Lwp pid i) (act.Turn did) id lawful legal same =
    let d : LwpTurn = record { system = legal.0; turned = did } in
    let w = turn-taken s.system pid i d legal.1 in
    let own : pid ≡ c = cc in
    subst (λ x. x < s.system.made) own
    (was-made pid s.system w.process lawful.system (found-live s.system pid w.process w.live).0)
turn-made n s c (Lwp pid i) (act.Call d r) id lawful legal same = absurd legal
turn-made n s c (Lwp pid i) (act.Tick moment) id lawful legal same = absurd legal
turn-made n s c (Controller by) it id lawful legal same = absurd (cc)
turn-made n s c Clock it id lawful legal same = absurd (cc)

-- one that stands still has none
still-in : (n : ℕ) (s : TracedState) (c : ℕ) (actor : Actor) (it : Act) (id : ℕ)
    → IsLegalEntry n s (record { actor = actor; act = it })
    → ((p : TracedProcess) → live_process s.system c ≡ Some p → IsFrozen p) → actor ≡ Lwp c id → ⊥
unfolding IsLegalEntry
still-in n s c (Lwp pid i) (act.Turn did) id legal frozen same =
    let d : LwpTurn = record { system = legal.0; turned = did } in
    let own : pid ≡ c = cc in
    let w = turn-taken s.system pid i d legal.1 in
    none-some d
    (sym (frozen-turns s.system pid w.process w.live (frozen w.process (ap (live_process s.system) (sym own)
    ∙ w.live)) i) ∙ legal.1)
still-in n s c (Lwp pid i) (act.Call d r) id legal frozen same = legal
still-in n s c (Lwp pid i) (act.Tick moment) id legal frozen same = legal
still-in n s c (Controller by) it id legal frozen same = cc
still-in n s c Clock it id legal frozen same = cc

pub still-turn : (n : ℕ) (s : TracedState) (c : ℕ) (e : Entry) → IsLegalEntry n s e
    → ((p : TracedProcess) → live_process s.system c ≡ Some p → IsFrozen p) → IsNoTurnOf c e
still-turn n s c e legal frozen = record { none = λ id same. still-in n s c e.actor e.act id legal frozen same }

-- a call of truss is no turn
pub call-turn : (k : ℕ) (c : ℕ) (e : Entry) (x : Exchange) → exchange_of k e ≡ Some x → IsNoTurnOf c e
call-turn k c e x is =
    record { none = λ id same. clash id (sym same ∙ ap (λ (y : Entry). y.actor) (entry-of k e.actor e.act x is)) }
  where
    clash : (id : ℕ) → Lwp c id ≡ Controller k → ⊥
    clash id is_both = cc

-- ---- what holds before an entry

-- a process was made by a fork in a history, and had no turn in it
abbrev pub HasRested : ℕ → List Entry → Type 0
HasRested c past = WasForked c past × All (IsNoTurnOf c) past

-- Of what came so far no entry is a turn of a process that is not made yet; nor of a child that truss is to open, or
-- truss never opens it; nor of the child that truss opens now. These children were made by forks in it. So it is of the
-- processes of a line.
pub record Rests (Line : ℕ → Type 0) (k : ℕ) (o : Options) (t : TrussState) (s : TracedState)
    (past h : List Entry) : Type 0 where
  pub unmade : (c : ℕ) → s.system.made ≤ c → All (IsNoTurnOf c) past
  pub claimed : t.leaving ≡ false → (pid c : ℕ) → Line pid → Line c → Claims o t.traced t.stage s.system pid c
      → All (IsNoTurnOf c) past ⊎ IsNeverGranted k c t h
  pub forked : t.leaving ≡ false → (pid c : ℕ) → Line pid → Line c → Claims o t.traced t.stage s.system pid c
      → WasForked c past
  pub child : (parent place : ℕ) (step : ChildStep) → t.stage ≡ OpeningChild parent place step
      → Line (traced_at t place).pid → HasRested (traced_at t place).pid past

-- ---- the children that truss is to open after an entry

-- such a child was one before, or is made now
data Came (o : Options) (t : TrussState) (s : TracedState) (e : Entry) (pid c : ℕ) : Type 0 where
  was : t.leaving ≡ false → Claims o t.traced t.stage s.system pid c → Came o t s e pid c
  new : c ≡ s.system.made → IsForkOf c e → Came o t s e pid c

abbrev ClaimsIn : Options → TrussState → TracedState → ℕ → ℕ → Type 0
ClaimsIn o u v pid c = Claims o u.traced u.stage v.system pid c

module _ (Line : ℕ → Type 0) (n k : ℕ) (o : Options) (t : TrussState) (s : TracedState) (h : List Entry) where
  -- an entry that is no call of truss
  others-came : (e : Entry) (g : Going Line k o t s (e ∷ h)) → LeavesTo Line k o t (e ∷ h)
      → IsLegalEntry n s e → e.actor ≢ Controller k → t.leaving ≡ false → (pid c : ℕ) → Line pid → Line c
      → ClaimsIn o t (after s e) pid c → Came o t s e pid c
  others-came e g forks legal others stays pid c line its claim =
      let w = g.common in
      let later = entry-lawful n s e w.lawful legal in
      let stands = stand Line n k o t s h e g in
      elim (claims-were Line n k o t s e h w.lawful w.fit w.files stands stays legal later others forks
      (g.children stays) pid c line its claim) [
        | entries.claimed x ↦ was stays x
        | entries.made id actor next born ↦
            elim (claims-forked Line n k o t s e h w.lawful w.fit w.files stands stays legal later others pid c
            line claim) [
              | inl x ↦ was stays x
              | inr fork ↦ new next
                  fork
            ]
      ]

  -- a call of truss
  own-came : (c : Call) (a : Answer) (g : Going Line k o t s (call_entry k c a ∷ h))
      → LeavesTo Line k o t (call_entry k c a ∷ h) → ((pid : ℕ) → ReadsBack pid s)
      → IsLegalEntry n s (call_entry k c a) → MakesNext t (Some (record { call = c; reply = a.reply }))
      → answer_to s k c ≡ Some a
      → (fed t a.reply).leaving ≡ false → (e : Entry) (pid of : ℕ) → Line pid
      → ClaimsIn o (fed t a.reply) (after s (call_entry k c a)) pid of → Came o t s e pid of
  own-came c a g forks reads legal next answer on e pid of line claim =
      let stays = own-stays Line n k o t s h c a g reads legal next answer on in
      let later = own-after Line n k o t s h c a g reads legal next answer in
      let w = g.common in
      was stays
      (claims-before Line n k o t s c a (is-own Line n k o t s h c a g reads legal next answer stays) w.leaves
      h (g.children stays) forks on pid of line
      (subst (λ (v : TracedState). ClaimsIn o (fed t a.reply) v pid of) later claim))

  module _ (reads : (pid : ℕ) → ReadsBack pid s) where
    call-came : (by : ℕ) (c : Call) (r : Reply) (mine : Bool) → (by == k) ≡ mine
        → Going Line k o t s (record { actor = Controller by; act = act.Call c r } ∷ h)
        → LeavesTo Line k o t (record { actor = Controller by; act = act.Call c r } ∷ h)
        → IsLegalEntry n s (record { actor = Controller by; act = act.Call c r })
        → MakesNext t (cond mine (Some (record { call = c; reply = r })) None)
        → (with_exchange t (cond mine (Some (record { call = c; reply = r })) None)).leaving ≡ false
        → (pid of : ℕ) → Line pid → Line of
        → ClaimsIn o (with_exchange t (cond mine (Some (record { call = c; reply = r })) None))
        (after s (record { actor = Controller by; act = act.Call c r })) pid of
        → Came o t s (record { actor = Controller by; act = act.Call c r }) pid of
    unfolding IsLegalEntry
    call-came by c r false is g forks legal next on pid of line its claim =
        others-came (record { actor = Controller by; act = act.Call c r }) g forks legal
        (λ same. eqb-false by k is (of-controller by k same)) on pid of line its claim
      where
        of-controller : (x y : ℕ) → Controller x ≡ Controller y → x ≡ y
        of-controller x y same = cc
    call-came by c r true is g forks legal next on pid of line its claim =
        subst (λ b. Going Line k o t s (record { actor = Controller b; act = act.Call c r } ∷ h)
        → LeavesTo Line k o t (record { actor = Controller b; act = act.Call c r } ∷ h) → IsLegalEntry n s
        (record { actor = Controller b; act = act.Call c r })
        → answer_to s b c ≡ Some (record { state = legal.1.0; reply = r })
        → ClaimsIn o (fed t r) (after s (record { actor = Controller b; act = act.Call c r })) pid of
        → Came o t s (record { actor = Controller by; act = act.Call c r }) pid of)
        (sym (eqb-true by k is))
        (λ g' fs l answer x. own-came c (record { state = legal.1.0; reply = r }) g' fs reads l next answer on
        (record { actor = Controller by; act = act.Call c r }) pid of line x) g forks legal legal.1.1 claim

    actor-came : (actor : Actor) (it : Act) → Going Line k o t s (record { actor = actor; act = it } ∷ h)
        → LeavesTo Line k o t (record { actor = actor; act = it } ∷ h)
        → IsLegalEntry n s (record { actor = actor; act = it }) → MakesNext t (exchange_in k actor it)
        → (with_exchange t (exchange_in k actor it)).leaving ≡ false → (pid c : ℕ)
        → Line pid → Line c
        → ClaimsIn o (with_exchange t (exchange_in k actor it)) (after s (record { actor = actor; act = it })) pid c
        → Came o t s (record { actor = actor; act = it }) pid c
    unfolding IsLegalEntry
    actor-came (Controller by) (act.Call c r) g forks legal next on pid of line its claim =
        call-came by c r (by == k) refl g forks legal next on pid of line its claim
    actor-came (Lwp who id) it g forks legal next on pid c line its claim =
        others-came (record { actor = Lwp who id; act = it }) g forks legal (λ same. cc) on pid c line its claim
    actor-came Clock it g forks legal next on pid c line its claim =
        others-came (record { actor = Clock; act = it }) g forks legal (λ same. cc) on pid c line its claim
    actor-came (Controller by) (act.Turn did) g forks legal next on pid c line its claim = absurd legal
    actor-came (Controller by) (act.Tick moment) g forks legal next on pid c line its claim = absurd legal

-- ---- what an entry leaves

module _ (Line : ℕ → Type 0) (n k : ℕ) (o : Options) (t : TrussState) (s : TracedState) (h past : List Entry)
    (e : Entry) (g : Going Line k o t s (e ∷ h)) (reads : (pid : ℕ) → ReadsBack pid s)
    (forks : LeavesTo Line k o t (e ∷ h)) (legal : IsLegalEntry n s e) (next : MakesNext t (exchange_of k e))
    (r : Rests Line k o t s past (e ∷ h)) where
  lawful : IsLawful s
  lawful = let w = g.common in w.lawful

  reaches : Reaches k t s
  reaches = let w = g.common in record { lawful = w.lawful; owns = w.owns; files = w.files }

  pushed : (c : ℕ) → IsNoTurnOf c e → All (IsNoTurnOf c) past → All (IsNoTurnOf c) (past ++ e ∷ [])
  pushed c other all = All-push (IsNoTurnOf c) past e all other

  rested : (c : ℕ) → IsNoTurnOf c e → HasRested c past → HasRested c (past ++ e ∷ [])
  rested c other has = (forked-before c past e has.0, pushed c other has.1)

  -- ---- a process that is not made yet

  unmade-turn : (c : ℕ) → s.system.made ≤ c → IsNoTurnOf c e
  unmade-turn c above = record { none = λ id same. clash (turn-made n s c e.actor e.act id lawful legal same) }
    where
      clash : c < s.system.made → ⊥
      clash below = omega arith

  unmade-later : (c : ℕ) → (after s e).system.made ≤ c → All (IsNoTurnOf c) (past ++ e ∷ [])
  unmade-later c above = elim (cases_lt c s.system.made) [
    | inl below ↦ let more = stays-made n s e c lawful legal below in absurd (omega arith)
    | inr not ↦ pushed c (unmade-turn c not) (r.unmade c not)
  ]

  -- ---- a child that truss is to open

  still-later : (stays : t.leaving ≡ false) (pid c : ℕ) → Line pid → Line c → ClaimsIn o t s pid c
      → ((p : TracedProcess) → live_process s.system c ≡ Some p → IsNew o p)
      → All (IsNoTurnOf c) (past ++ e ∷ []) ⊎ IsNeverGranted k c (fed_by_entry k t e) h
  still-later stays pid c line its claim born = elim (r.claimed stays pid c line its claim) [
    | inr never ↦ inr (never-later k c t e h never)
    | inl all ↦ inl
        (pushed c (still-turn n s c e legal (λ p live. let is = born p live in is.birth.waits.frozen)) all)
  ]

  claim-later : (stays : t.leaving ≡ false) (pid c : ℕ) → Line pid → Line c → ClaimsIn o t s pid c
      → All (IsNoTurnOf c) (past ++ e ∷ []) ⊎ IsNeverGranted k c (fed_by_entry k t e) h
  claim-later stays pid c line its claim =
      let f = g.children stays in
      let b = f.born pid c line its claim in
      elim b.now [
        | is_never never ↦ inr (never-later k c t e h never)
        | stands_new untouched ↦ still-later stays pid c line its claim untouched.born
        | is_begun begun ↦ still-later stays pid c line its claim begun.born
      ]

  came-forked : (pid c : ℕ) → Line pid → Line c → Came o t s e pid c → WasForked c (past ++ e ∷ [])
  came-forked pid c line its (was stays claim) = forked-before c past e (r.forked stays pid c line its claim)
  came-forked pid c line its (new is fork) = forked-last c past e fork

  came-later : (pid c : ℕ) → Line pid → Line c → Came o t s e pid c
      → All (IsNoTurnOf c) (past ++ e ∷ []) ⊎ IsNeverGranted k c (fed_by_entry k t e) h
  came-later pid c line its (was stays claim) = claim-later stays pid c line its claim
  came-later pid c line its (new is fork) =
      inl (pushed c (unmade-turn c (omega (arith, is))) (r.unmade c (omega (arith, is))))

  -- ---- the child that truss opens

  child-turn : (parent place : ℕ) (step : ChildStep) → t.stage ≡ OpeningChild parent place step
      → Line (traced_at t place).pid → IsNoTurnOf (traced_at t place).pid e
  child-turn parent place step is line =
      still-turn n s (traced_at t place).pid e legal
      (λ p live. let w = g.each
      (traced_at t place).pid line in let holds =
      w.holds in let opening =
      holds.prepares in let b = opening.child parent place step p is refl live in b.waits.frozen)

  module _ (x : Exchange) (its_exchange : exchange_of k e ≡ Some x) where
    -- its control file is opened now
    opened-handle : (parent pid : ℕ) → t.stage ≡ OpeningChildControl parent pid → answer_of x.reply ≡ Accepted
        → (handle : ℕ) × (x.reply ≡ Handle handle)
    unfolding next_call_of call_of
    opened-handle parent pid is accepted =
        let answered : IsAnswered k s x = exchange-answered n k s e x legal its_exchange in
        let makes : next_call_of t ≡ Some x.call = subst (MakesNext t) its_exchange next in
        let calls : call.Open pid 0 file.Ctl WriteExcl ≡ x.call =
        same_Some _ x.call (ap (call_of t) (sym is) ∙ makes) in
        let given =
        granted-handle s k pid 0 file.Ctl WriteExcl answered.answer (ap (answer_to s k) calls
        ∙ answered.is) (ap answer_of answered.reply ∙ accepted) in
        (given.0, sym answered.reply ∙ given.1)

    opened-past : (parent pid : ℕ) → Line pid → t.stage ≡ OpeningChildControl parent pid → answer_of x.reply ≡ Accepted
        → HasRested pid past
    opened-past parent pid line is accepted =
        let w = g.common in
        let files = w.files in
        let st = files.stands in
        let stays : t.leaving ≡ false = subst (Leaves t.leaving) is st.leaves in
        let owns = w.owns in
        let within : parent < length t.traced = subst (Fits t.traced) is owns.fits in
        let its_claim : claim_of o t.stage parent ≡ Some pid =
        ap (λ (y : Stage). claim_of o y parent) is ∙ ap (λ b. cond b (Some pid) None) (eq-eqb parent parent refl) in
        let claim : ClaimsIn o t s (traced_at t parent).pid pid = claims.reads parent within refl its_claim in
        let given = opened-handle parent pid is accepted in
        let entry : e ≡ granted k pid 0 file.Ctl WriteExcl given.0 =
        child-granted Line n k o t s h e x pid given.0 parent next its_exchange is given.1 in
        let above = parent-now Line k o t e h forks pid parent given.0 entry is line in
        elim (r.claimed stays (traced_at t parent).pid pid above line claim) [
          | inl all ↦
              (r.forked stays (traced_at t parent).pid pid above line claim, all)
          | inr never ↦ absurd
              (never.none (opens-now k pid parent given.0 t e h entry is))
        ]

    opens-past : (u : TrussState) (q : ℕ) → Opens t x.reply q u → (parent place : ℕ) (step : ChildStep)
        → u.stage ≡ OpeningChild parent place step → Line (traced_at u place).pid
        → HasRested (traced_at u place).pid past
    unfolding with_control
    opens-past u q (no none stays) parent place step now line = absurd (false≢true (sym none ∙ ap opens now))
    opens-past u q (starts pid is accepted same) parent place step now line =
        absurd (let it = ap (λ (v : TrussState). v.stage) (sym same) ∙ now in cc)
    opens-past u q (goes before after_it is accepted comes same) parent place step now line =
        absurd (let it = ap (λ (v : TrussState). v.stage) (sym same) ∙ now in cc)
    opens-past u q (child_starts of pid is accepted same) parent place step now line =
        let w = born-following t of pid (handle_in x.reply) in
        let it : OpeningChild of (length t.traced) child.SetRelease ≡ OpeningChild parent place step =
        sym w.stage ∙ ap (λ (v : TrussState). v.stage) (sym same) ∙ now in
        let here : length t.traced ≡ place = cc in
        let own : (traced_at u place).pid ≡ pid =
        ap (λ (v : TrussState). (traced_at v place).pid) same
        ∙ ap (λ m. (traced_at (with_child_control t of pid (handle_in x.reply)) m).pid) (sym here) ∙ w.of in
        subst (λ m. HasRested m past) (sym own) (opened-past of pid (subst Line own line) is accepted)
    opens-past u q (child_goes of before after_it is accepted comes same) parent place step now line =
        let learnt : Traced = child_learnt (traced_at t q) x.reply before in
        let it : OpeningChild of q after_it ≡ OpeningChild parent place step =
        ap (λ (v : TrussState). v.stage) (sym same) ∙ now in
        let here : q ≡ place = cc in
        let w = g.common in
        let owns = w.owns in
        let f : Fits t.traced (OpeningChild of q before) = subst (Fits t.traced) is owns.fits in
        let last = f.0 in
        let own : (traced_at u place).pid ≡ (traced_at t q).pid =
        ap (λ (v : TrussState). (traced_at v place).pid) same
        ∙ ap (λ m. (traced_at (with_traced t q learnt) m).pid) (sym here)
        ∙ ap (λ (y : Traced). y.pid) (set-at t.traced q learnt (omega (arith, last.last)))
        ∙ child-pid (traced_at t q) x.reply before in
        subst (λ m. HasRested m past) (sym own) (r.child of q before is (subst Line own line))

    how-past : (u : TrussState) → How t x.reply u → (parent place : ℕ) (step : ChildStep)
        → u.stage ≡ OpeningChild parent place step → Line (traced_at u place).pid
        → HasRested (traced_at u place).pid past
    how-past u (free places f begins) parent place step now line = absurd (false≢true (sym f.opens ∙ ap opens now))
    how-past u (less q following is removed f) parent place step now line =
        absurd (false≢true (sym f.opens ∙ ap opens now))
    how-past u (at q w) parent place step now line = opens-past u q w.opens parent place step now line

  child-later : (x : Option Exchange) → exchange_of k e ≡ x → (parent place : ℕ) (step : ChildStep)
      → (with_exchange t x).stage ≡ OpeningChild parent place step → Line (traced_at (with_exchange t x) place).pid
      → HasRested (traced_at (with_exchange t x) place).pid (past ++ e ∷ [])
  child-later None is parent place step now line =
      rested (traced_at t place).pid (child-turn parent place step now line) (r.child parent place step now line)
  child-later (Some x) is parent place step now line =
      let c = reached-comes k t s x.reply reaches in
      rested (traced_at (fed t x.reply) place).pid (call-turn k (traced_at (fed t x.reply) place).pid e x is)
      (how-past x is (fed t x.reply) c.how parent place step now line)

  pub rests-on : Rests Line k o (fed_by_entry k t e) (after s e) (past ++ e ∷ []) h
  rests-on = record {
    unmade = unmade-later;
    claimed =
        λ on pid c line its claim. came-later pid c line its
        (actor-came Line n k o t s h reads e.actor e.act g forks legal next on pid c line its claim);
    forked =
        λ on pid c line its claim. came-forked pid c line its
        (actor-came Line n k o t s h reads e.actor e.act g forks legal next on pid c line its claim);
    child = child-later (exchange_of k e) refl;
  }

-- ---- histories

pub rests-after : (Line : ℕ → Type 0) (before : List Entry) (n k : ℕ) (o : Options) (rest past : List Entry)
    (t : TrussState) (s : TracedState) → Going Line k o t s (before ++ rest) → IsLegal n s (before ++ rest)
    → Makes t (exchanges k (before ++ rest)) → IsInRange s.system → HasBytes (before ++ rest)
    → LeavesTo Line k o t (before ++ rest) → Rests Line k o t s past (before ++ rest)
    → Rests Line k o (truss_after t (exchanges k before)) (state_after s before) (past ++ before) rest
rests-after Line [] n k o rest past t s g legal makes range bytes forks r =
    subst (λ (u : TrussState). Rests Line k o u s (past ++ []) rest) (sym (no-exchanges k t))
    (subst (λ (es : List Entry). Rests Line k o t s es rest) (sym (append-nil past)) r)
rests-after Line (e ∷ before) n k o rest past t s g legal makes range bytes forks r =
    let first = makes-next k t e (before ++ rest) makes in
    let w = g.common in
    let reads : (pid : ℕ) → ReadsBack pid s = λ pid. reads-back pid s w.lawful range in
    let later = rests-on Line n k o t s (before ++ rest) past e g reads forks legal.0 first.0 r in
    subst (λ (u : TrussState). Rests Line k o u (state_after (after s e) before) (past ++ e ∷ before) rest)
    (sym (after-next k t e before))
    (subst (λ (es : List Entry). Rests Line k o (truss_after (fed_by_entry k t e) (exchanges k before))
    (state_after (after s e) before) es rest) (append_assoc past (e ∷ []) before)
    (rests-after Line before n k o rest (past ++ e ∷ []) (fed_by_entry k t e) (after s e)
    (going-on Line n k o t s (before ++ rest) reads e g forks legal.0 first.0) legal.1 first.1
    (history-range n s (e ∷ []) w.lawful range
    (All-cons IsEntryOfBytes e [] (All-head IsEntryOfBytes e (before ++ rest) bytes) (All-nil IsEntryOfBytes))
    (legal.0, tt)) (All-tail IsEntryOfBytes e (before ++ rest) bytes)
    (leaves-later Line k o t e (before ++ rest) forks) later))
