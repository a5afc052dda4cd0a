use Rattle.std.proofs.Common.{◌≡◌, ◌≢◌, ◌<◌, ◌≤◌, ◌+◌, ℕ, Bool, true, false, Option, Some, None, IfSome, Result, Ok, Err, OnOk, List, [], ◌∷◌, ◌++◌, length, replicate, refl, sym, ap, subst, ◌∙◌, arith, append_assoc, inl, inr}
use Rattle.std.proofs.lemmas.Bool.{cases_lt}
use Rattle.std.proofs.lemmas.List.{get_or-replicate, length-replicate}
use Rattle.std.proofs.lemmas.Option.{slice_get-get_or, slice_get_past}
use Rattle.std.specs.List.{slice_get}
use Rattle.std.specs.Option.{option_and_then}
use Rattle.pr_api.specs.Entries.{call_entry, last_reply_of}
use Rattle.pr_api.specs.Steps.{IsCalled}
use Rattle.pr_api.specs.Views.{IsLawful as IsLawfulView, KernelView, kernel_of}
use Rattle.pr_model.specs.FirstState.{first_state}
use Rattle.pr_model.specs.Handles.{handle_of, own}
use Rattle.pr_model.specs.Lawful.{IsLawful}
use Rattle.pr_model.specs.Legal.{IsLegal, state_after}
use Rattle.pr_model.specs.Replies.{opened_in}
use Rattle.pr_model.specs.State.{TracedState, nothing_open}
use Rattle.pr_model.specs.declared.calls.Call.{Call}
use Rattle.pr_model.specs.declared.calls.Call.TheVariants.{Poll}
use Rattle.pr_model.specs.declared.events.Entry.{Entry}
use Rattle.pr_model.specs.declared.handles.Held.{Held}
use Rattle.pr_num.specs.Limits.{handle_limit}
use Rattle.pr_num.specs.Programs.{Program}
use Rattle.pr_num.specs.declared.files.StoredFile.{StoredFile}
use Rattle.pr_truss_laws.proofs.Files.OpensLemmas.{keeps_handles}
use Rattle.own_tracer.proofs.GoingLemmas.{IsLegal-append, call-goes, goes-keeping, goes-nowhere, goes-on, last-reply, made, made-is, memory-append, stands-so, state_after-append, told-state}
use Rattle.own_tracer.proofs.HoldingLemmas.{Opened, holds-kept, holds-lawful, nothing-kept, nothing-lawful, open-holds, plain-holds}
use Rattle.own_tracer.proofs.OrderLemmas.{opens-control, orders-control, polls-control}
use Rattle.own_tracer.proofs.RoundLemmas.{no-rounds, rounds-longer, rounds-on}
use Rattle.own_tracer.specs.Attaching.{Attaches, GetsHold, IsRefused}
use Rattle.own_tracer.specs.Calls.{open_call, was_taken}
use Rattle.own_tracer.specs.Faults.{Injected, after_order, order_of}
use Rattle.own_tracer.specs.Going.{AllLeaveMemory, Goes, Stands, only_controls}
use Rattle.own_tracer.specs.Orders.{order_call}
use Rattle.own_tracer.specs.Rounds.{IsRound, Leaves, Moment, RoundsFor, RunsBeside}
use Rattle.own_tracer.specs.Running.{InHand, IsInjected, IsInjectedRun}
use Rattle.own_tracer.specs.Stances.{HasAttached, HasLeft, Holds, HoldsNothing, Keeps, LeftIf}
use Rattle.own_tracer.specs.declared.attaching.Grip.{Grip}
use Rattle.own_tracer.specs.declared.faults.Faults.{Faults}
use Rattle.own_tracer.specs.declared.orders.Order.{Order}
use Rattle.own_tracer.specs.declared.orders.Order.TheVariants.{TraceWrites}

-- The parts of the run, put together.

-- ---- attaching

module _ (pid : ℕ) (some : pid ≢ 0) (a b : KernelView) (lawful : IsLawfulView b) (stands : Stands HoldsNothing a)
    (called : IsCalled 0 (open_call pid) a b) (control : Option ℕ)
    (is : control ≡ option_and_then opened_in (last_reply_of b.history)) where
  pub open-goes : Goes (Opened pid control) a b
  open-goes =
      let same : control ≡ opened_in called.reply =
      is ∙ ap (option_and_then opened_in) (last-reply (open_call pid) a b called) in
      call-goes (open_call pid) a b called stands.is (Opened pid control) lawful (opens-control pid)
      (subst (λ (o : Option ℕ). Opened pid o (made (open_call pid) a b called stands.is).state) (sym same)
      (open-holds pid some stands.is.state stands.holds (made (open_call pid) a b called stands.is)
      (made-is (open_call pid) a b called stands.is)))

  pub open-refused : control ≡ None → Goes HoldsNothing a b
  open-refused none = subst (λ (o : Option ℕ). Goes (Opened pid o) a b) none open-goes

  pub open-granted : (number : ℕ) → control ≡ Some number → Goes (Holds (record { pid = pid; control = number })) a b
  open-granted number given = subst (λ (o : Option ℕ). Goes (Opened pid o) a b) given open-goes

-- ---- calls of one that holds a process

pub held-goes : (g : Grip) (c : Call) (a b : KernelView) → IsLawfulView b → Stands (Holds g) a → IsCalled 0 c a b
    → keeps_handles c ≡ true → only_controls c ≡ true → Goes (Holds g) a b
held-goes g c a b lawful stands called plain control =
    call-goes c a b called stands.is (Holds g) lawful control
    (plain-holds g stands.is.state c (made c a b called stands.is) stands.holds plain (made-is c a b called stands.is))

pub order-goes : (g : Grip) (o : Order) (a b : KernelView) → IsLawfulView b → Stands (Holds g) a
    → IsCalled 0 (order_call g.control o) a b → Goes (Holds g) a b
order-goes g o a b lawful stands called =
    held-goes g (order_call g.control o) a b lawful stands called refl (orders-control g.control o)

pub poll-goes : (g : Grip) (a b : KernelView) → IsLawfulView b → Stands (Holds g) a
    → IsCalled 0 (Poll (g.control ∷ [])) a b → Goes (Holds g) a b
poll-goes g a b lawful stands called =
    held-goes g (Poll (g.control ∷ [])) a b lawful stands called refl (polls-control (g.control ∷ []))

pub attach-goes : (g : Grip) (a b c : KernelView) → IsLawfulView c → Goes (Holds g) a b
    → IsCalled 0 (order_call g.control TraceWrites) b c → Goes (Holds g) a c
attach-goes g a b c lawful first called =
    goes-on (Holds g) (Holds g) a b c first (order-goes g TraceWrites b c lawful first.stands called)

-- ---- a move of the injector

pub inject-goes : (g : Grip) (o : Order) (a b c : KernelView) → IsLawfulView b → IsLawfulView c → Stands (Holds g) a
    → IsCalled 0 (Poll (g.control ∷ [])) a b → IsCalled 0 (order_call g.control o) b c → Goes (Holds g) a c
inject-goes g o a b c lawful_b lawful_c stands one two =
    let first = poll-goes g a b lawful_b stands one in
    goes-on (Holds g) (Holds g) a b c first (order-goes g o b c lawful_c first.stands two)

pub injects : (control : ℕ) (old new : Faults) (a b c : KernelView) → IsCalled 0 (Poll (control ∷ [])) a b
    → IsCalled 0 (order_call control (order_of old)) b c → (taken : Bool) → taken ≡ was_taken (last_reply_of c.history)
    → new ≡ after_order taken old → Injected control old new a.history c.history
injects control old new a b c one two taken is counted = record {
  ready = one.reply;
  answer = two.reply;
  history = two.history
      ∙ ap (λ (h : List Entry). h ++ call_entry 0 (order_call control (order_of old)) two.reply ∷ []) one.history
      ∙ append_assoc a.history (call_entry 0 (Poll (control ∷ [])) one.reply ∷ [])
      (call_entry 0 (order_call control (order_of old)) two.reply ∷ []);
  counted = counted
      ∙ ap (λ (b : Bool). after_order b old)
      (is ∙ ap was_taken (last-reply (order_call control (order_of old)) b c two));
}

-- ---- the programs beside it

pub beside-goes : (g : Grip) (a b : KernelView) → Stands (Holds g) a → Goes (Keeps a) a b → Goes (Holds g) a b
beside-goes g a b stands moved =
    goes-keeping (Holds g) a b stands (λ s t h lawful same. holds-kept g s t h lawful same) moved

pub alone-goes : (a b : KernelView) → Stands HoldsNothing a → Goes (Keeps a) a b → Goes HoldsNothing a b
alone-goes a b stands moved =
    goes-keeping HoldsNothing a b stands (λ s t h lawful same. nothing-kept s t h lawful same) moved

pub held-stands : (g : Grip) (k : KernelView) → Stands (Holds g) k → Stands IsLawful k
held-stands g k stands = stands-so (Holds g) IsLawful k (λ s h. holds-lawful g s h) stands

pub nothing-stands : (k : KernelView) → Stands HoldsNothing k → Stands IsLawful k
nothing-stands k stands = stands-so HoldsNothing IsLawful k (λ s h. nothing-lawful s h) stands

-- ---- rounds

pub in-hand : (g : Grip) (faults : Faults) (m : Moment) → Stands (Holds g) m.kernel
    → length m.kernel.history + 3 ≤ m.kernel.places → InHand g 0 faults faults m m
in-hand g faults m stands room = record {
  goes = goes-nowhere (Holds g) m.kernel stands;
  room = room;
  made = no-rounds g faults m;
}

pub in-hand-on : (g : Grip) (n : ℕ) (f0 f1 f2 : Faults) (a b c : Moment) (again : Bool) → again ≡ true
    → InHand g n f0 f1 a b → Goes (Holds g) b.kernel c.kernel → length c.kernel.history + 3 ≤ c.kernel.places
    → IsRound g again f1 f2 b c → InHand g (n + 1) f0 f2 a c
in-hand-on g n f0 f1 f2 a b c again is hand on room round = record {
  goes = goes-on (Holds g) (Holds g) a.kernel b.kernel c.kernel hand.goes on;
  room = room;
  made = rounds-on n g f0 f1 f2 a b c again is hand.made round;
}

-- there are no more rounds than places
pub in-hand-ends : (g : Grip) (n : ℕ) (f0 f1 : Faults) (a b : Moment) → InHand g n f0 f1 a b → n < a.kernel.places
in-hand-ends g n f0 f1 a b hand =
    omega (arith, rounds-longer n g f0 f1 a b hand.made, hand.room, hand.goes.places)

pub left-goes : (g : Grip) (a b c d : KernelView) → Goes (Holds g) a b → Goes (Holds g) b c → Goes (HasLeft g.pid) c d
    → Goes (HasLeft g.pid) a d
left-goes g a b c d first on left =
    goes-on (Holds g) (HasLeft g.pid) a b d first (goes-on (Holds g) (HasLeft g.pid) b c d on left)

pub left-runs : (g : Grip) (n : ℕ) (f0 f1 f2 : Faults) (a b c d : Moment) (again : Bool) → again ≡ false
    → RoundsFor n g f0 f1 a b → IsRound g again f1 f2 b c → Leaves g.control c.kernel.history d.kernel.history
    → d.last ≡ c.last → RunsBeside g f0 a d
left-runs g n f0 f1 f2 a b c d again is so round leaves last = record {
  rounds = n;
  left = f1;
  before = b;
  made = so;
  at_end = f2;
  end = c;
  ends = subst (λ (x : Bool). IsRound g x f1 f2 b c) is round;
  leaves = leaves;
  last = last;
}

pub alone-on : (a b c : KernelView) → Goes HoldsNothing a b → Goes (Keeps b) b c → Goes HoldsNothing a c
alone-on a b c so moved = goes-on HoldsNothing HoldsNothing a b c so (alone-goes b c so.stands moved)

-- ---- all of it

-- what holds where a call ended well, by two clauses
pub on-both : {X E : Type 0} (r : Result X E) (A B C : Type 0) → (A → B → C) → OnOk r A → OnOk r B → OnOk r C
on-both (Ok x) A B C so one two = so one two
on-both (Err e) A B C so one two = tt

pub attached-held : (o : Option Grip) (g : Grip) (a b : KernelView) → o ≡ Some g → Goes (HasAttached o) a b
    → Goes (Holds g) a b
attached-held o g a b is goes = subst (λ (x : Option Grip). Goes (HasAttached x) a b) is goes

pub attached-none : (o : Option Grip) (a b : KernelView) → o ≡ None → Goes (HasAttached o) a b → Goes HoldsNothing a b
attached-none o a b is goes = subst (λ (x : Option Grip). Goes (HasAttached x) a b) is goes

pub attached-pid : (o : Option Grip) (g : Grip) (pid : ℕ) → o ≡ Some g → IfSome o (λ x. x.pid ≡ pid) → g.pid ≡ pid
attached-pid o g pid is its = subst (λ (x : Option Grip). IfSome x (λ y. y.pid ≡ pid)) is its

pub attached-left : (pid : ℕ) (g : Grip) (a b c : KernelView) → g.pid ≡ pid → Goes (Holds g) a b
    → Goes (HasLeft g.pid) b c → Goes (LeftIf true pid) a c
attached-left pid g a b c is held left =
    goes-on (Holds g) (LeftIf true pid) a b c held (subst (λ (n : ℕ). Goes (HasLeft n) b c) is left)

pub left-nothing : (attached : Bool) (pid : ℕ) (k : KernelView) → Stands (LeftIf attached pid) k → Stands HoldsNothing k
left-nothing true pid k stands = record { is = stands.is; holds = stands.holds.nothing }
left-nothing false pid k stands = stands

pub attached-calls : (o : Option Grip) (pid : ℕ) (before after : List Entry) (g : Grip) → o ≡ Some g
    → Attaches o pid before after → GetsHold pid g before after
attached-calls o pid before after g is = subst (λ (x : Option Grip). Attaches x pid before after) is

pub kept-calls : (o : Option Grip) (pid : ℕ) (before after : List Entry) → o ≡ None → Attaches o pid before after
    → IsRefused pid before after
kept-calls o pid before after is = subst (λ (x : Option Grip). Attaches x pid before after) is

-- ---- from the first state

nothing-at : (n m : ℕ) (nobody : Option Held) → nobody ≡ None → own 0 (slice_get (replicate n nobody) m) ≡ None
nothing-at n m nobody is = elim (cases_lt m n) [
  | inl within ↦ ap (own 0)
      (slice_get-get_or (replicate n nobody) m nobody (subst (λ k. m < k) (sym (length-replicate n nobody)) within)
      ∙ ap Some (get_or-replicate n m nobody nobody within ∙ is))
  | inr past ↦ ap (own 0)
      (slice_get_past (replicate n nobody) m (subst (λ k. k ≤ m) (sym (length-replicate n nobody)) past))
]

first-nothing : (programs : List Program) (files : List StoredFile) (spawns : List ℕ) (m : ℕ)
    → handle_of (first_state programs files spawns).opens 0 m ≡ None
unfolding first_state nothing_open handle_of
first-nothing programs files spawns m = nothing-at handle_limit m None refl

pub first-holds : (programs : List Program) (files : List StoredFile) (spawns : List ℕ) (s : TracedState)
    → s ≡ first_state programs files spawns → IsLawful s → HoldsNothing s
first-holds programs files spawns s is lawful = record {
  lawful = lawful;
  nothing =
      record {
        none = λ m. ap (λ (x : TracedState). handle_of x.opens 0 m) is ∙ first-nothing programs files spawns m;
      };
}

pub first-stands : (s : TracedState) (h : List Entry) (places : ℕ) → HoldsNothing s
    → Stands HoldsNothing (kernel_of s h places)
unfolding kernel_of
first-stands s h places nothing = record { is = record { state = s; told = refl }; holds = nothing }

pub run-is : (pid : ℕ) (faults : Faults) (first : TracedState) (places : ℕ) (new : KernelView)
    → IsInjected pid faults (kernel_of first [] places) new → IsInjectedRun pid places faults first new.history
unfolding kernel_of
run-is pid faults first places new i =
    let beside = i.before.entries in
    let alone = i.after.entries in
    let left : i.middle.kernel.machine ≡ Some (state_after first beside) = i.before.leads first refl in
    let parts : new.history ≡ beside ++ alone =
    i.after.history ∙ ap (λ (h : List Entry). h ++ alone) i.before.history in
    let end : state_after (state_after first beside) alone ≡ state_after first new.history =
    sym (state_after-append first beside alone) ∙ ap (state_after first) (sym parts) in
    record {
      beside = beside;
      alone = alone;
      parts = parts;
      legal =
          subst (IsLegal 1 first) (sym parts)
          (IsLegal-append 1 first beside alone (i.before.legal first refl)
          (i.after.legal (state_after first beside) left));
      memory = subst AllLeaveMemory (sym parts) (memory-append beside alone i.before.memory i.after.memory);
      attached = i.attached;
      left =
          subst (LeftIf i.attached pid)
          (told-state i.middle.kernel i.before.stands.is (state_after first beside) left) i.before.stands.holds;
      nothing =
          subst HoldsNothing
          (told-state new i.after.stands.is _ (i.after.leads (state_after first beside) left) ∙ end)
          i.after.stands.holds;
      end = new;
      history = refl;
      run = i;
      attached_is = refl;
      beside_is = sym i.before.history;
    }
