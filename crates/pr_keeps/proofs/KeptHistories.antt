use Rattle.std.proofs.Common.{◌≡◌, ◌<◌, ℕ, Some, List, [], ◌∷◌}
use Rattle.std.specs.List.{All}
use Rattle.std.proofs.lemmas.List.Elements.{All-cons, All-head, All-nil, All-tail}
use Rattle.pr_num.specs.Limits.{clock_limit}
use Rattle.pr_keeps.proofs.CallLemmas.{call-edit}
use Rattle.pr_keeps.specs.CallEdits.{CallEdit}
use Rattle.pr_model.specs.Calls.{Answer, answer_to}
use Rattle.pr_model.specs.Legal.{IsLegal, IsLegalEntry, after, state_after, ticked}
use Rattle.pr_model.specs.LwpTurns.{LwpTurn, turn_of}
use Rattle.pr_model.specs.State.{TracedState, with_system}
use Rattle.pr_model.specs.declared.calls.Call.{Call}
use Rattle.pr_model.specs.declared.calls.Reply.{Reply}
use Rattle.pr_model.specs.declared.events.Act.{Act}
use Rattle.pr_model.specs.declared.events.Act.TheVariants as act
use Rattle.pr_model.specs.declared.events.Actor.{Actor}
use Rattle.pr_model.specs.declared.events.Actor.TheVariants.{Controller, Lwp, Clock}
use Rattle.pr_model.specs.declared.events.Entry.{Entry}

-- What each edit of a call, each turn and each tick of the clock keeps of the state, each legal entry keeps, and each
-- legal history.

-- nothing is asked of a state; nothing of the entries of a history
abbrev pub AnyState : TracedState → Type 0
AnyState s = Unit {0}

abbrev pub AnyEntry : Entry → Type 0
AnyEntry e = Unit {0}

pub any-entries : (h : List Entry) → All AnyEntry h
any-entries [] = All-nil AnyEntry
any-entries (e ∷ h) = All-cons AnyEntry e h tt (any-entries h)

-- Where there are n controllers: what may be assumed of the state before an entry, and of the entry itself; and what is
-- kept.
module _ (n : ℕ) (Before : TracedState → Type 0) (IsSuch : Entry → Type 0) (P : TracedState → Type 0) where
  pub record KeepsEach : Type 0 where
    pub call : (s : TracedState) (by : ℕ) (c : Call) (r : Reply) (t : TracedState) → Before s
        → IsSuch (record { actor = Controller by; act = act.Call c r }) → CallEdit s by c t → P s → P t
    pub turn : (s : TracedState) (pid id : ℕ) (t : LwpTurn) → Before s
        → IsSuch (record { actor = Lwp pid id; act = act.Turn t.turned }) → turn_of s.system pid id ≡ Some t → P s
        → P (record s { system = t.system })
    pub tick : (s : TracedState) → Before s → s.system.clock < clock_limit → P s → P (with_system ticked s)

  module _ (keeps : KeepsEach) where
    pub act-keeps : (s : TracedState) (actor : Actor) (it : Act) → Before s
        → IsSuch (record { actor = actor; act = it }) → IsLegalEntry n s (record { actor = actor; act = it }) → P s
        → P (after s (record { actor = actor; act = it }))
    unfolding IsLegalEntry after
    act-keeps s (Controller by) (act.Call c r) before such legal h =
        let a : Answer = record { state = legal.1.0; reply = r } in
        let answer : answer_to s by c ≡ Some a = legal.1.1 in
        rw answer (keeps.call s by c r a.state before such (call-edit s by c a answer) h)
    act-keeps s (Lwp pid id) (act.Turn turned) before such legal h =
        let t : LwpTurn = record { system = legal.0; turned = turned } in
        let taken : turn_of s.system pid id ≡ Some t = legal.1 in
        rw taken (keeps.turn s pid id t before such taken h)
    act-keeps s Clock (act.Tick moment) before such legal h = keeps.tick s before legal.0 h
    act-keeps s _ _ before such legal h = absurd legal

    pub history-keeps : ((s : TracedState) (e : Entry) → Before s → IsLegalEntry n s e → Before (after s e))
        → (s : TracedState) (h : List Entry) → Before s → All IsSuch h → IsLegal n s h → P s → P (state_after s h)
    history-keeps goes_on s [] before such legal here = here
    history-keeps goes_on s (e ∷ h) before such legal here =
        history-keeps goes_on (after s e) h (goes_on s e before legal.0) (All-tail IsSuch e h such) legal.1
        (act-keeps s e.actor e.act before (All-head IsSuch e h such) legal.0 here)

-- where nothing is assumed
pub any-history : (n : ℕ) (P : TracedState → Type 0) → KeepsEach n AnyState AnyEntry P → (s : TracedState)
    → (h : List Entry) → IsLegal n s h → P s → P (state_after s h)
any-history n P keeps s h legal here =
    history-keeps n AnyState AnyEntry P keeps (λ t e before it. tt) s h tt (any-entries h) legal here
