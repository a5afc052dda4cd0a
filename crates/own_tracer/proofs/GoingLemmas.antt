use Rattle.std.proofs.Common.{◌≡◌, ◌<◌, ◌+◌, ◌-◌, ℕ, Bool, true, false, Option, Some, None, IfSome, Result, Ok, Err, OnOk, is_some, List, [], ◌∷◌, ◌++◌, length, slice_get, refl, sym, ◌∙◌, ap, subst, arith, append_assoc, length-append}
use Rattle.std.proofs.lemmas.Bool.{and_parts}
use Rattle.std.proofs.lemmas.List.{append-nil}
use Rattle.std.proofs.lemmas.Option.{same_Some}
use Rattle.std.specs.Option.{option_and_then}
use Rattle.pr_api.specs.Entries.{call_entry, last_reply_of, reply_of, tick_entry, turn_entry}
use Rattle.pr_api.specs.Steps.{IsAnswer, IsCalled, IsTicked, IsTurned, IsTurnOf}
use Rattle.pr_api.specs.Views.{IsLawful as IsLawfulView, KernelView, kernel_of, next_of, turns_after}
use Rattle.pr_lawful.proofs.LawfulStates.CallLemmas.{tick-state}
use Rattle.pr_lawful.proofs.LawfulStates.StateLemmas.{turn-state}
use Rattle.pr_model.specs.Calls.{Answer, answer_to}
use Rattle.pr_model.specs.Lawful.{IsLawful}
use Rattle.pr_model.specs.Legal.{IsLegal, IsLegalEntry, after, after_call, after_turn, state_after, ticked}
use Rattle.pr_model.specs.State.{TracedState, with_system}
use Rattle.pr_model.specs.declared.calls.Call.{Call}
use Rattle.pr_model.specs.declared.calls.Call.TheVariants as call
use Rattle.pr_model.specs.declared.events.Entry.{Entry}
use Rattle.pr_model.specs.declared.events.Turned.{Turned}
use Rattle.pr_num.proofs.SearchLemmas.{find-passes}
use Rattle.pr_num.specs.Limits.{clock_limit}
use Rattle.own_tracer.specs.Going.{AllLeaveMemory, Goes, Stands, TellsState, only_controls}
use Rattle.own_tracer.specs.Stances.{Keeps}

-- How a kernel goes on: by a call, by a turn, by a tick, and by several of them.

-- ---- a kernel that tells its machine

pub told-machine : (k : KernelView) (t : TellsState k) → k.machine ≡ Some t.state
unfolding kernel_of
told-machine k t = ap (λ (x : KernelView). x.machine) t.told

told-clock : (k : KernelView) (t : TellsState k) → k.clock ≡ t.state.system.clock
unfolding kernel_of
told-clock k t = ap (λ (x : KernelView). x.clock) t.told

told-ready : (k : KernelView) (t : TellsState k) (c : Call) → k.is_ready 0 c ≡ is_some (answer_to t.state 0 c)
unfolding kernel_of
told-ready k t c = ap (λ (x : KernelView). x.is_ready 0 c) t.told

abbrev told-by : (k : KernelView) (s : TracedState) → IsLawfulView k → k.machine ≡ Some s → TellsState k
told-by k s lawful is = record { state = s; told = lawful.told s is }

pub told-state : (k : KernelView) (t : TellsState k) (s : TracedState) → k.machine ≡ Some s → t.state ≡ s
told-state k t s is = same_Some t.state s (sym (told-machine k t) ∙ is)

-- opens, closes and writes are always ready
abbrev pub never_waits : Call → Bool
never_waits (call.Open pid id file mode) = true
never_waits (call.Close handle) = true
never_waits (call.Ctl handle bytes) = true
never_waits _ = false

answered-at-once : (s : TracedState) (c : Call) → never_waits c ≡ true → is_some (answer_to s 0 c) ≡ true
unfolding answer_to
answered-at-once s (call.Open pid id file mode) at_once = refl
answered-at-once s (call.Close handle) at_once = refl
answered-at-once s (call.Ctl handle bytes) at_once = refl
answered-at-once s _ at_once = cc

pub ready-at-once : (k : KernelView) → TellsState k → (c : Call) → never_waits c ≡ true → k.is_ready 0 c ≡ true
ready-at-once k t c at_once = told-ready k t c ∙ answered-at-once t.state c at_once

-- ---- one entry

one-entry : (R : TracedState → Type 0) (old new : KernelView) (t : TellsState old) (e : Entry) (u : TracedState)
    → new.history ≡ old.history ++ e ∷ [] → new.places ≡ old.places → IsLegalEntry 1 t.state e
    → u ≡ after t.state e → new.machine ≡ Some u → AllLeaveMemory (e ∷ []) → IsLawfulView new → R u → Goes R old new
one-entry R old new t e u history places legal made now memory lawful holds = record {
  entries = e ∷ [];
  history = history;
  places = places;
  legal = λ s is. subst (λ (x : TracedState). IsLegal 1 x (e ∷ [])) (told-state old t s is) (legal, tt);
  leads = λ s is. now ∙ ap Some made ∙ ap (λ (x : TracedState). Some (after x e)) (told-state old t s is);
  memory = memory;
  stands = record { is = told-by new u lawful now; holds = holds };
}

-- a call
module _ (c : Call) (old new : KernelView) (called : IsCalled 0 c old new) (t : TellsState old) where
  pub answered : IsAnswer 0 c called.reply new.machine t.state
  answered =
      let P : Option TracedState → Type 0 = λ o. IfSome o (IsAnswer 0 c called.reply new.machine) in
      subst P (told-machine old t) called.machine

  -- the machine's answer
  abbrev pub made : Answer
  made = record { state = answered.0; reply = called.reply }

  pub made-is : answer_to t.state 0 c ≡ Some made
  made-is = answered.1

  pub call-told : IsLawfulView new → TellsState new
  call-told lawful = told-by new answered.0 lawful answered.2

  legal-call : IsLegalEntry 1 t.state (call_entry 0 c called.reply)
  unfolding IsLegalEntry
  legal-call = (omega arith, (answered.0, answered.1))

  after-it : answered.0 ≡ after t.state (call_entry 0 c called.reply)
  unfolding after
  after-it = sym (ap (after_call t.state) answered.1)

  pub call-goes : (R : TracedState → Type 0) → IsLawfulView new → only_controls c ≡ true → R made.state → Goes R old new
  call-goes R lawful plain holds =
      one-entry R old new t (call_entry 0 c called.reply) answered.0 called.history called.places legal-call after-it
      answered.2 (plain, tt) lawful holds

-- a turn
module _ (pid id : ℕ) (turned : Turned) (old new : KernelView) (lawful : IsLawfulView new)
    (stands : Stands IsLawful old) (it : IsTurned pid id turned old new) where
  turn-made : IsTurnOf pid id turned new.machine stands.is.state
  turn-made =
      let P : Option TracedState → Type 0 = λ o. IfSome o (IsTurnOf pid id turned new.machine) in
      subst P (told-machine old stands.is) it.machine

  legal-turn : IsLegalEntry 1 stands.is.state (turn_entry pid id turned)
  unfolding IsLegalEntry
  legal-turn = (turn-made.0, turn-made.1)

  after-turn : record stands.is.state { system = turn-made.0 } ≡ after stands.is.state (turn_entry pid id turned)
  unfolding after
  after-turn = sym (ap (after_turn stands.is.state) turn-made.1)

  pub turn-goes : Goes (Keeps old) old new
  turn-goes =
      let s = stands.is.state in
      one-entry (Keeps old) old new stands.is (turn_entry pid id turned) (record s { system = turn-made.0 }) it.history
      it.places legal-turn after-turn turn-made.2 (refl, tt) lawful
      (record {
        lawful = turn-state s pid id (record { system = turn-made.0; turned = turned }) stands.holds turn-made.1;
        opens = λ x is. ap (λ (y : TracedState). y.opens) (told-state old stands.is x is);
      })

-- a tick
module _ (old new : KernelView) (lawful : IsLawfulView new) (stands : Stands IsLawful old)
    (early : old.clock < clock_limit) (it : IsTicked old new) where
  tick-made : new.machine ≡ Some (with_system ticked stands.is.state)
  tick-made =
      let P : Option TracedState → Type 0 = λ o. IfSome o (λ s. new.machine ≡ Some (with_system ticked s)) in
      subst P (told-machine old stands.is) it.machine

  legal-tick : IsLegalEntry 1 stands.is.state (tick_entry (old.clock + 1))
  unfolding IsLegalEntry
  legal-tick =
      let same = told-clock old stands.is in
      (subst (λ (n : ℕ). n < clock_limit) same early, ap (λ (n : ℕ). n + 1) same)

  after-tick : with_system ticked stands.is.state ≡ after stands.is.state (tick_entry (old.clock + 1))
  unfolding after
  after-tick = refl

  pub tick-goes : Goes (Keeps old) old new
  tick-goes =
      let s = stands.is.state in
      one-entry (Keeps old) old new stands.is (tick_entry (old.clock + 1)) (with_system ticked s) it.history it.places
      legal-tick after-tick tick-made (refl, tt) lawful
      (record {
        lawful = tick-state s stands.holds;
        opens = λ x is. ap (λ (y : TracedState). y.opens) (told-state old stands.is x is);
      })

-- ---- several entries

pub IsLegal-append : (n : ℕ) (s : TracedState) (h j : List Entry) → IsLegal n s h → IsLegal n (state_after s h) j
    → IsLegal n s (h ++ j)
IsLegal-append n s [] j legal more = more
IsLegal-append n s (e ∷ h) j legal more = (legal.0, IsLegal-append n (after s e) h j legal.1 more)

pub state_after-append : (s : TracedState) (h j : List Entry) → state_after s (h ++ j) ≡ state_after (state_after s h) j
state_after-append s [] j = refl
state_after-append s (e ∷ h) j = state_after-append (after s e) h j

pub memory-append : (h j : List Entry) → AllLeaveMemory h → AllLeaveMemory j → AllLeaveMemory (h ++ j)
memory-append [] j here more = more
memory-append (e ∷ h) j here more = (here.0, memory-append h j here.1 more)

pub goes-on : (P R : TracedState → Type 0) (a b c : KernelView) → Goes P a b → Goes R b c → Goes R a c
goes-on P R a b c f g = record {
  entries = f.entries ++ g.entries;
  history = g.history ∙ ap (λ (h : List Entry). h ++ g.entries) f.history ∙ append_assoc a.history f.entries g.entries;
  places = g.places ∙ f.places;
  legal = λ s is. IsLegal-append 1 s f.entries g.entries (f.legal s is)
      (g.legal (state_after s f.entries) (f.leads s is));
  leads = λ s is. g.leads (state_after s f.entries) (f.leads s is)
      ∙ ap Some (sym (state_after-append s f.entries g.entries));
  memory = memory-append f.entries g.entries f.memory g.memory;
  stands = g.stands;
}

pub goes-nowhere : (R : TracedState → Type 0) (k : KernelView) → Stands R k → Goes R k k
goes-nowhere R k stands = record {
  entries = [];
  history = sym (append-nil k.history);
  places = refl;
  legal = λ s is. tt;
  leads = λ s is. is;
  memory = tt;
  stands = stands;
}

pub stands-so : (P R : TracedState → Type 0) (k : KernelView) → ((s : TracedState) → P s → R s) → Stands P k
    → Stands R k
stands-so P R k so stands = record { is = stands.is; holds = so stands.is.state stands.holds }

pub keeps-itself : (k : KernelView) → Stands IsLawful k → Stands (Keeps k) k
keeps-itself k stands = record {
  is = stands.is;
  holds =
      record {
        lawful = stands.holds;
        opens = λ s is. ap (λ (x : TracedState). x.opens) (told-state k stands.is s is);
      };
}

-- what holds of the state and is kept with its open handles holds of the next one
pub goes-keeping : (P : TracedState → Type 0) (old new : KernelView) → Stands P old
    → ((s t : TracedState) → P s → IsLawful t → t.opens ≡ s.opens → P t) → Goes (Keeps old) old new → Goes P old new
goes-keeping P old new stands kept g = record {
  entries = g.entries;
  history = g.history;
  places = g.places;
  legal = g.legal;
  leads = g.leads;
  memory = g.memory;
  stands =
      record {
        is = g.stands.is;
        holds = kept stands.is.state g.stands.is.state stands.holds g.stands.holds.lawful
            (g.stands.holds.opens stands.is.state (told-machine old stands.is));
      };
}

-- ---- what holds where a call ended well

pub on-ok : {X E : Type 0} (r : Result X E) (A B : Type 0) → (A → B) → OnOk r A → OnOk r B
on-ok (Ok x) A B so here = so here
on-ok (Err e) A B so here = tt

-- ---- the last reply, and the next lwp

at-end : (h : List Entry) (e : Entry) → slice_get (h ++ e ∷ []) (length h) ≡ Some e
at-end [] e = refl
at-end (x ∷ h) e = at-end h e

last-pushed : (h : List Entry) (e : Entry) → slice_get (h ++ e ∷ []) (length (h ++ e ∷ []) - 1) ≡ Some e
last-pushed h e =
    let there : length (h ++ e ∷ []) - 1 ≡ length h = omega (arith, length-append h (e ∷ [])) in
    ap (slice_get (h ++ e ∷ [])) there ∙ at-end h e

pub last-reply : (c : Call) (old new : KernelView) (called : IsCalled 0 c old new)
    → last_reply_of new.history ≡ Some called.reply
unfolding last_reply_of
last-reply c old new called =
    ap last_reply_of called.history
    ∙ ap (option_and_then reply_of) (last-pushed old.history (call_entry 0 c called.reply))

pub longer : (c : Call) (old new : KernelView) (called : IsCalled 0 c old new)
    → length new.history ≡ length old.history + 1
longer c old new called =
    ap length called.history ∙ length-append old.history (call_entry 0 c called.reply ∷ [])

pub next-turns : (k : KernelView) (after : Option (ℕ × ℕ)) (x : ℕ × ℕ) → next_of k true after ≡ Some x
    → k.can_turn x.0 x.1 ≡ true
unfolding next_of turns_after
next-turns k after x is = (and_parts _ _ (find-passes (turns_after k after) k.lwps x is)).1

-- the next lwp, where there is one
pub if-next : (k : KernelView) (after : Option (ℕ × ℕ)) (o : Option (ℕ × ℕ)) → o ≡ next_of k true after
    → IfSome o (λ x. k.can_turn x.0 x.1 ≡ true)
if-next k after None is = tt
if-next k after (Some x) is = next-turns k after x (sym is)
