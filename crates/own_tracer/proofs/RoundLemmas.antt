use Rattle.std.proofs.Common.{◌≡◌, ◌<◌, ◌≤◌, ◌+◌, ◌&&◌, ◌||◌, ℕ, zero, suc, Bool, true, false, Option, Some, None, List, [], ◌∷◌, ◌++◌, length, nat_lt, refl, sym, ◌∙◌, ap, subst, arith, append_assoc, length-append, inl, inr}
use Rattle.std.proofs.lemmas.Bool.{false≢true, le-ltb, lt-ltb}
use Rattle.std.specs.Option.{option_and_then, option_or}
use Rattle.pr_api.specs.Entries.{last_reply_of}
use Rattle.pr_api.specs.Steps.{IsCalled, IsTurned}
use Rattle.pr_api.specs.Views.{KernelView, next_of}
use Rattle.pr_model.specs.Replies.{opened_in}
use Rattle.pr_model.specs.declared.calls.Call.TheVariants.{Close}
use Rattle.pr_model.specs.declared.events.Entry.{Entry}
use Rattle.pr_model.specs.declared.events.Turned.{Turned}
use Rattle.pr_num.specs.Limits.{clock_limit}
use Rattle.own_tracer.proofs.GoingLemmas.{last-reply}
use Rattle.own_tracer.specs.Attaching.{GetsHold, IsRefused}
use Rattle.own_tracer.specs.Calls.{open_call}
use Rattle.own_tracer.specs.Faults.{Injects}
use Rattle.own_tracer.specs.Going.{TellsState}
use Rattle.own_tracer.specs.Orders.{order_call}
use Rattle.own_tracer.specs.Rounds.{IsRound, IsRoundIf, IsStuck, Leaves, MakesRound, Moment, Moves, MovesFor, MovesNext, RoundsFor, RunsAlone, TicksIf, can_tick, is_over, next_in_turn}
use Rattle.own_tracer.specs.declared.attaching.Grip.{Grip}
use Rattle.own_tracer.specs.declared.faults.Faults.{Faults}
use Rattle.own_tracer.specs.declared.orders.Order.TheVariants.{Release, Spare, TraceWrites}

-- What the steps of the injector and of the programs are, and that each round and each move adds an entry, so that
-- there are no more of them than places.

-- ---- histories that grow by several calls

two-more : (h : List Entry) (a b : Entry) (i j : List Entry) → i ≡ h ++ a ∷ [] → j ≡ i ++ b ∷ [] → j ≡ h ++ a ∷ b ∷ []
two-more h a b i j one two = two ∙ ap (λ (x : List Entry). x ++ b ∷ []) one ∙ append_assoc h (a ∷ []) (b ∷ [])

three-more : (h : List Entry) (a b c : Entry) (i j k : List Entry) → i ≡ h ++ a ∷ [] → j ≡ i ++ b ∷ [] → k ≡ j ++ c ∷ []
    → k ≡ h ++ a ∷ b ∷ c ∷ []
three-more h a b c i j k one two three =
    three ∙ ap (λ (x : List Entry). x ++ c ∷ []) (two-more h a b i j one two)
    ∙ append_assoc h (a ∷ b ∷ []) (c ∷ [])

-- ---- attaching and leaving

pub kept-out : (pid : ℕ) (a b : KernelView) (called : IsCalled 0 (open_call pid) a b) (control : Option ℕ)
    → control ≡ option_and_then opened_in (last_reply_of b.history) → control ≡ None
    → IsRefused pid a.history b.history
kept-out pid a b called control is none = record {
  reply = called.reply;
  refused = sym (is ∙ ap (option_and_then opened_in) (last-reply (open_call pid) a b called)) ∙ none;
  history = called.history;
}

pub gets-hold : (pid : ℕ) (a b c : KernelView) (called : IsCalled 0 (open_call pid) a b) (control : Option ℕ)
    → control ≡ option_and_then opened_in (last_reply_of b.history) → (number : ℕ) → control ≡ Some number
    → IsCalled 0 (order_call number TraceWrites) b c
    → GetsHold pid (record { pid = pid; control = number }) a.history c.history
gets-hold pid a b c called control is number given ordered = record {
  pid_is = refl;
  opened = called.reply;
  granted = sym (is ∙ ap (option_and_then opened_in) (last-reply (open_call pid) a b called)) ∙ given;
  answer = ordered.reply;
  history = two-more a.history _ _ b.history c.history called.history ordered.history;
}

pub leaves-by : (control : ℕ) (a b c d : KernelView) → IsCalled 0 (order_call control Spare) a b
    → IsCalled 0 (order_call control Release) b c → IsCalled 0 (Close control) c d → Leaves control a.history d.history
leaves-by control a b c d one two three = record {
  spared = one.reply;
  released = two.reply;
  closed = three.reply;
  history = three-more a.history _ _ _ b.history c.history d.history one.history two.history three.history;
}

-- ---- the clock

pub no-sleeper : (k : KernelView) (sleeper : Bool) → sleeper ≡ k.has_sleeper → sleeper ≡ false → false ≡ can_tick k
no-sleeper k sleeper is none = ap (λ b. b && nat_lt k.clock clock_limit) (sym none ∙ is)

pub clock-goes : (k : KernelView) (sleeper : Bool) → sleeper ≡ k.has_sleeper → sleeper ≡ true → k.clock < clock_limit
    → true ≡ can_tick k
clock-goes k sleeper is some early =
    sym (lt-ltb k.clock clock_limit early) ∙ ap (λ b. b && nat_lt k.clock clock_limit) (sym some ∙ is)

pub clock-stays : (k : KernelView) (sleeper : Bool) → sleeper ≡ k.has_sleeper → sleeper ≡ true → clock_limit ≤ k.clock
    → false ≡ can_tick k
clock-stays k sleeper is some late =
    sym (le-ltb k.clock clock_limit late) ∙ ap (λ b. b && nat_lt k.clock clock_limit) (sym some ∙ is)

-- ---- a move of the programs

pub first-found : (k : KernelView) (last first : Option (ℕ × ℕ)) (lwp : ℕ × ℕ) → next_of k true last ≡ first
    → first ≡ Some lwp → Some lwp ≡ option_or (next_of k true last) (next_of k true None)
first-found k last first lwp is found =
    sym (ap (λ (o : Option (ℕ × ℕ)). option_or o (next_of k true None)) (is ∙ found))

pub from-first : (k : KernelView) (last first : Option (ℕ × ℕ)) → next_of k true last ≡ first → first ≡ None
    → next_of k true None ≡ option_or (next_of k true last) (next_of k true None)
from-first k last first is none =
    sym (ap (λ (o : Option (ℕ × ℕ)). option_or o (next_of k true None)) (is ∙ none))

pub lwp-moves : (old new : Moment) (lwp : ℕ × ℕ) (turned : Turned) → next_in_turn old ≡ Some lwp
    → new.last ≡ Some lwp → IsTurned lwp.0 lwp.1 turned old.kernel new.kernel → Moves true old new
lwp-moves old new lwp turned next last is =
    subst (λ (o : Option (ℕ × ℕ)). MovesNext o true old new) (sym next)
    (refl, last, record { turned = turned; is = is })

pub clock-moves : (old new : Moment) (moved : Bool) → next_in_turn old ≡ None → moved ≡ can_tick old.kernel
    → new.last ≡ old.last → TicksIf moved old.kernel new.kernel → Moves moved old new
clock-moves old new moved next can last ticks =
    subst (λ (o : Option (ℕ × ℕ)). MovesNext o moved old new) (sym next) (can, last, ticks)

-- it adds an entry
one-longer : (h : List Entry) (e : Entry) (i : List Entry) → i ≡ h ++ e ∷ [] → length i ≡ length h + 1
one-longer h e i is = ap length is ∙ length-append h (e ∷ [])

moved-longer : (o : Option (ℕ × ℕ)) (old new : Moment) → MovesNext o true old new
    → length new.kernel.history ≡ length old.kernel.history + 1
moved-longer (Some lwp) old new m = one-longer _ _ _ m.2.is.history
moved-longer None old new m = one-longer _ _ _ m.2.history

pub move-longer : (old new : Moment) → Moves true old new
    → length new.kernel.history ≡ length old.kernel.history + 1
move-longer old new m = moved-longer (next_in_turn old) old new m

moment-is : (m n : Moment) → m.kernel ≡ n.kernel → m.last ≡ n.last → m ≡ n
moment-is m n kernel last =
    ap (λ (k : KernelView). record { kernel = k; last = m.last }) kernel
    ∙ ap (λ (o : Option (ℕ × ℕ)). record { kernel = n.kernel; last = o }) last

-- or nobody could move, and all is as it was
still : (o : Option (ℕ × ℕ)) (old new : Moment) → next_in_turn old ≡ o → MovesNext o false old new
    → (new ≡ old) × IsStuck old
still (Some lwp) old new next m = absurd (false≢true m.0)
still None old new next m =
    (moment-is new old m.2 m.1, record { none = next; still = sym m.0 })

pub no-move : (old new : Moment) → Moves false old new → (new ≡ old) × IsStuck old
no-move old new m = still (next_in_turn old) old new refl m

-- ---- the programs alone

pub moves-on : (n : ℕ) (a b c : Moment) (moved : Bool) → moved ≡ true → MovesFor n a b → TellsState b.kernel
    → Moves moved b c → MovesFor (n + 1) a c
unfolding MovesFor
moves-on n a b c moved is so told m =
    let next : n + 1 ≡ suc n = omega arith in
    subst (λ (k : ℕ). MovesFor k a c) (sym next) (b, so, told, subst (λ (x : Bool). Moves x b c) is m)

pub no-moves : (m : Moment) → MovesFor 0 m m
unfolding MovesFor
no-moves m = refl

pub moves-longer : (n : ℕ) (a b : Moment) → MovesFor n a b → n + length a.kernel.history ≤ length b.kernel.history
unfolding MovesFor
moves-longer zero a b so = omega (arith, ap (λ (m : Moment). length m.kernel.history) so)
moves-longer (suc n) a b so =
    omega (arith, moves-longer n a so.0 so.1, move-longer so.0 b so.3)

pub alone-full : (n : ℕ) (a b : Moment) → MovesFor n a b → b.kernel.places ≤ length b.kernel.history → RunsAlone a b
alone-full n a b so full = record { moves = n; made = so; over = inl full }

pub alone-stuck : (n : ℕ) (a b c : Moment) (moved : Bool) → moved ≡ false → MovesFor n a b → Moves moved b c
    → RunsAlone a c
alone-stuck n a b c moved is so m =
    let none = no-move b c (subst (λ (x : Bool). Moves x b c) is m) in
    record {
      moves = n;
      made = subst (MovesFor n a) (sym none.0) so;
      over = inr (subst IsStuck (sym none.0) none.1);
    }

-- ---- rounds

two-longer : (h : List Entry) (a b : Entry) (i : List Entry) → i ≡ h ++ a ∷ b ∷ [] → length i ≡ length h + 2
two-longer h a b i is = ap length is ∙ length-append h (a ∷ b ∷ [])

-- the injector adds two entries or none
injects-longer : (acted : Bool) (control : ℕ) (old new : Faults) (before now : List Entry)
    → Injects acted control old new before now → length before ≤ length now
injects-longer true control old new before now i =
    let more : length now ≡ length before + 2 = two-longer before _ _ now i.history in
    omega (arith, more)
injects-longer false control old new before now i = omega (arith, ap length i.1)

injected-longer : (control : ℕ) (old new : Faults) (before now : List Entry)
    → Injects true control old new before now → length before < length now
injected-longer control old new before now i =
    let more : length now ≡ length before + 2 = two-longer before _ _ now i.history in
    omega (arith, more)

module _ (g : Grip) (before after : Faults) where
  pub round-none : (m : Moment) → is_over before m.kernel ≡ true → IsRound g false before before m m
  round-none m over =
      subst (λ b. IsRoundIf b g false before before m m) (sym over)
      (record { again_is = refl; faults = refl; moment = refl })

  pub round-made : (again : Bool) (old new : Moment) → is_over before old.kernel ≡ false
      → MakesRound g again before after old new → IsRound g again before after old new
  round-made again old new on r = subst (λ b. IsRoundIf b g again before after old new) (sym on) r

  made-longer : (old new middle : Moment) (moved acted : Bool) → true ≡ (moved || acted) → Moves moved old middle
      → Injects acted g.control before after middle.kernel.history new.kernel.history
      → length old.kernel.history < length new.kernel.history
  made-longer old new middle true acted is m i =
      omega (arith, move-longer old middle m, injects-longer acted g.control before after _ _ i)
  made-longer old new middle false true is m i =
      omega (
        arith,
        ap (λ (x : Moment). length x.kernel.history) (no-move old middle m).0,
        injected-longer g.control before after _ _ i,
      )
  made-longer old new middle false false is m i = absurd (false≢true (sym is))

  round-longer : (over : Bool) (old new : Moment) → IsRoundIf over g true before after old new
      → length old.kernel.history < length new.kernel.history
  round-longer true old new r = absurd (false≢true (sym r.again_is))
  round-longer false old new r = made-longer old new r.middle r.moved r.acted r.again_is r.moves r.injects

pub no-rounds : (g : Grip) (faults : Faults) (m : Moment) → RoundsFor 0 g faults faults m m
unfolding RoundsFor
no-rounds g faults m = (refl, refl)

pub rounds-on : (n : ℕ) (g : Grip) (f0 f1 f2 : Faults) (a b c : Moment) (again : Bool) → again ≡ true
    → RoundsFor n g f0 f1 a b → IsRound g again f1 f2 b c → RoundsFor (n + 1) g f0 f2 a c
unfolding RoundsFor
rounds-on n g f0 f1 f2 a b c again is so r =
    let next : n + 1 ≡ suc n = omega arith in
    subst (λ (k : ℕ). RoundsFor k g f0 f2 a c) (sym next)
    (b, f1, so, subst (λ (x : Bool). IsRound g x f1 f2 b c) is r)

pub rounds-longer : (n : ℕ) (g : Grip) (f0 f1 : Faults) (a b : Moment) → RoundsFor n g f0 f1 a b
    → n + length a.kernel.history ≤ length b.kernel.history
unfolding RoundsFor
rounds-longer zero g f0 f1 a b so = omega (arith, ap (λ (m : Moment). length m.kernel.history) so.1)
rounds-longer (suc n) g f0 f1 a b so =
    omega (
      arith,
      rounds-longer n g f0 so.1 a so.0 so.2,
      round-longer g so.1 f1 (is_over so.1 so.0.kernel) so.0 b so.3,
    )
