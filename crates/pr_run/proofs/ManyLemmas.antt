use Rattle.std.proofs.Common.{◌≡◌, ◌<◌, ◌≤◌, ◌+◌, ◌-◌, ◌++◌, ◌⊎◌, inl, inr, ℕ, Bool, true, false, Option, Some, None, is_none, is_some, IsSome, Result, Ok, Err, IfOk, OnErr, zero, suc, ◌&&◌, ◌||◌, List, [], ◌∷◌, All, length, cond, nat_lt, nat_le, flat_map, map, take, drop, append-nil, refl, sym, ◌∙◌, ap, subst, arith}
use borrow.Author.Tests.{ltb-true, ltb-false}
use Rattle.std.proofs.Math.Bool.{or-false, or-true}
use Rattle.std.proofs.lemmas.List.{length-map, take_all, take_at, drop_all, drop_at}
use Rattle.std.proofs.lemmas.List.Elements.{All-append, All-cons, All-head, All-nil}
use Rattle.std.proofs.lemmas.List.Sums.{AllPass-from_list_all}
use Rattle.std.proofs.lemmas.Bool.{and_parts}
use Rattle.std.proofs.lemmas.Bool.Decides.{nat_tests}
use Rattle.std.proofs.lemmas.Option.{none-some, same_Some}
use Rattle.std.specs.Cmp.Derive.{both_true}
use Rattle.std.specs.List.{enumerate_from, list_all, list_any, slice_get, slice_index_or}
use Rattle.std.specs.Option.{ForSome, option_and_then}
use Rattle.pr_api.specs.Views.{IsLawful, KernelView}
use Rattle.pr_lock.specs.History.{AreAll, IsInOrder, StandIn, StartsWith, added}
use Rattle.pr_lock.specs.Seats.{IsOutside, own_of, saw_over, seen_of, shares_of}
use Rattle.pr_lock.specs.declared.seats.Seat.{Seat}
use Rattle.pr_lock.specs.declared.seats.Shared.{Shared}
use Rattle.pr_model.specs.declared.events.Actor.{Actor}
use Rattle.pr_model.specs.declared.events.Actor.TheVariants.{Controller, Clock}
use Rattle.pr_model.specs.declared.events.Entry.{Entry}
use Rattle.pr_world.proofs.ProtocolLemmas.{controllers_at-count}
use Rattle.pr_world.proofs.RestLemmas.{all-rest, either, from_lwp-next, mapped-back}
use Rattle.pr_world.proofs.RunLemmas.{came-on}
use Rattle.pr_num.proofs.ListLemmas.{take-next}
use Rattle.pr_num.specs.declared.memory.NoMemory.{NoMemory}
use Rattle.pr_world.specs.Controllers.{call_by, has_finished, next_call}
use Rattle.pr_world.specs.ControllerStates.{ControllerState}
use Rattle.pr_world.specs.Moves.{entry_of}
use Rattle.pr_world.specs.Runs.{CameFrom}
use Rattle.pr_world.specs.Worlds.{WorldState, as_lwp, can_act, clock_if_awaited, end_of, ended_as, first_lwp, from_lwp, goes_on, next_actor, seen}
use Rattle.pr_world.specs.declared.ends.End.{End}
use Rattle.pr_run.proofs.OneLemmas.{full-ends}
use Rattle.pr_run.proofs.LogLemmas.{all-entries, each-stands, entries-append, entries-of_each, order-entries, order-log, stands-apart, log-at, log-next}
use Rattle.pr_run.specs.ManyRuns.{AsksMade, AtPlaces, GoesOn, HasLeft, HasMade, HasStopped, HasWorked, IsMadeBy, IsMovedBy, IsNew, IsNextOf, IsOffDuty, IsOnDuty, IsTurnOf, IsWorkOf, MakesTurn, MovesNext, Rests, is_done, is_finished, last_lwp, lwp_of, next_for, next_of_controller, next_on_processor, is_over}
use Rattle.pr_run.specs.Logs.{behind, entries_of, log_of}
use Rattle.pr_run.specs.declared.duties.Duty.{Duty}
use Rattle.pr_run.specs.declared.shared_worlds.LoggedEntry.{LoggedEntry}
use Rattle.pr_run.specs.declared.shared_worlds.SharedWorld.{SharedWorld}
use Rattle.pr_run.specs.declared.workers.Progress.{Progress}
use Rattle.pr_run.specs.declared.workers.Progress.TheVariants.{Moved, Idle, Done}

-- The turns of workers.

pub or-of : (a b c : Bool) → ((a || b) || c) ≡ (a || (b || c))
or-of true b c = refl
or-of false b c = refl

-- ---- who moves next

-- An actor that can move, and that a worker of the processor moves.
record IsShared (w : WorldState) (a : Actor) : Type 0 where
  acts : can_act w a ≡ true
  its : (processors worker : ℕ) → worker < processors → IsMovedBy processors worker a

clock-its : (b : Bool) (a : Actor) (processors worker : ℕ) → worker < processors → cond b (Some Clock) None ≡ Some a
    → IsMovedBy processors worker a
clock-its true a processors worker h e = subst (IsMovedBy processors worker) (same_Some Clock a e) h
clock-its false a processors worker h e = cc

from_lwp-its : (w : WorldState) (after : Option (ℕ × ℕ)) (a : Actor) → from_lwp w after ≡ Some a → IsShared w a
unfolding from_lwp first_lwp clock_if_awaited
from_lwp-its w after a e = record {
  acts = from_lwp-next w after a e;
  its = λ processors worker h. either (first_lwp w after) (clock_if_awaited w) a (IsMovedBy processors worker) e
      (λ lwp. let found = mapped-back as_lwp _ a lwp in subst (IsMovedBy processors worker) (sym found.1.1) h)
      (clock-its (can_act w Clock) a processors worker h);
}

processor-next : (last : Option (ℕ × ℕ)) (w : WorldState) (a : Actor) → next_on_processor last w ≡ Some a → IsShared w a
unfolding next_on_processor
processor-next last w a e =
    either (from_lwp w last) (from_lwp w None) a (IsShared w) e (from_lwp-its w last a) (from_lwp-its w None a)

controller-next : (k : ℕ) (w : WorldState) (b : Bool) (a : Actor) → can_act w (Controller k) ≡ b
    → cond b (Some (Controller k)) None ≡ Some a → (can_act w a ≡ true) × (a ≡ Controller k)
controller-next k w true a is e =
    (ap (can_act w) (sym (same_Some (Controller k) a e)) ∙ is, sym (same_Some (Controller k) a e))
controller-next k w false a is e = cc

-- Who a worker moves next can move, and is an actor that it moves.
pub record IsNext (processors worker : ℕ) (w : WorldState) (a : Actor) : Type 0 where
  pub acts : can_act w a ≡ true
  pub its : IsMovedBy processors worker a

pub next-moves : (processors worker : ℕ) (last : Option (ℕ × ℕ)) (w : WorldState) (a : Actor)
    → next_for processors worker last w ≡ Some a → IsNext processors worker w a
unfolding next_for next_of_controller
next-moves processors worker last w a e = of (nat_lt worker processors) refl e
  where
    of : (b : Bool) → nat_lt worker processors ≡ b
        → cond b (next_on_processor last w) (next_of_controller (worker - processors) w) ≡ Some a
        → IsNext processors worker w a
    of true below e = let it = processor-next last w a e in
        record { acts = it.acts; its = it.its processors worker (ltb-true worker processors below) }
    of false above e =
        let it = controller-next (worker - processors) w (can_act w (Controller (worker - processors))) a refl e in
        let behind : worker ≡ processors + (worker - processors) = omega (arith, ltb-false worker processors above) in
        record { acts = it.0; its = subst (IsMovedBy processors worker) (sym it.1) behind }

-- ---- who has nothing more to do

within-less : (a b : ℕ) → a < b → nat_lt a b ≡ true
within-less a b h = grind (arith, nat_tests)

not_within : (a b : ℕ) → b < a → nat_le a b ≡ false
not_within a b h = grind (arith, nat_tests)

is_within : (a b : ℕ) → a ≤ b → nat_le a b ≡ true
is_within a b h = grind (arith, nat_tests)

-- a worker of the processor moves no controller
pub processor-moves_on : (w : WorldState) (processors worker : ℕ) → worker < processors
    → false ≡ is_finished processors worker w
unfolding is_finished
processor-moves_on w processors worker h =
    sym (ap (λ (b : Bool). b && is_none (call_by w.controllers (worker - processors))) (not_within processors worker h))

within-some : (cs : List ControllerState) (k : ℕ) → k < length cs → slice_get cs k ≡ None → ⊥
within-some [] k h e = absurd (omega arith)
within-some (c ∷ cs) zero h e = absurd (none-some c (sym e))
within-some (c ∷ cs) (suc k) h e = within-some cs k (omega arith) e

at-finished : (cs : List ControllerState) (k : ℕ) (b : Bool) → k < length cs
    → ForSome (slice_get cs k) (λ core. b ≡ has_finished core) → b ≡ is_none (call_by cs k)
unfolding call_by has_finished
at-finished cs k b h told = of (slice_get cs k) refl told
  where
    of : (o : Option ControllerState) → slice_get cs k ≡ o → ForSome o (λ core. b ≡ is_none (next_call core))
        → b ≡ is_none (option_and_then next_call o)
    of None e f = absurd (within-some cs k h e)
    of (Some core) e f = f core refl

pub controller-finished : (b : Bool) (w : WorldState) (processors worker : ℕ) → processors ≤ worker
    → worker < processors + length w.controllers
    → ForSome (slice_get w.controllers (worker - processors)) (λ core. b ≡ has_finished core)
    → b ≡ is_finished processors worker w
unfolding is_finished
controller-finished b w processors worker behind within told =
    at-finished w.controllers (worker - processors) b (omega arith) told
    ∙ sym (ap (λ (t : Bool). t && is_none (call_by w.controllers (worker - processors)))
    (is_within processors worker behind))

pub finished-done : (w : WorldState) (processors worker : ℕ) (finished : Bool)
    → finished ≡ is_finished processors worker w → finished ≡ true → true ≡ is_done processors worker w
unfolding is_done
finished-done w processors worker finished is h =
    sym (ap (λ (b : Bool). is_some (ended_as w) || b) (sym is ∙ h) ∙ or-true (is_some (ended_as w)))

pub ended-done : (w : WorldState) (processors worker : ℕ) (finished : Bool) (o : Option End)
    → finished ≡ is_finished processors worker w → finished ≡ false → o ≡ ended_as w
    → is_some o ≡ is_done processors worker w
unfolding is_done
ended-done w processors worker finished o is h e =
    ap is_some e ∙ sym (ap (λ (b : Bool). is_some (ended_as w) || b) (sym is ∙ h) ∙ or-false (is_some (ended_as w)))

-- where all places are taken, no worker has more to do
pub full-done : (w : WorldState) (processors worker : ℕ) → w.kernel.places ≤ length w.kernel.history
    → is_done processors worker w ≡ true
unfolding is_done ended_as
full-done w processors worker full =
    ap (λ (b : Bool). is_some (cond b None (Some (end_of w))) || is_finished processors worker w) (full-ends w full)

-- where a worker of the processor has nothing more to do, the world has ended
done-ended : (processors worker : ℕ) (w : WorldState) → worker < processors → is_done processors worker w ≡ true
    → is_some (ended_as w) ≡ true
unfolding is_done
done-ended processors worker w h e =
    let ended : Bool = is_some (ended_as w) in
    sym (or-false ended) ∙ (ap (λ (b : Bool). ended || b) (processor-moves_on w processors worker h) ∙ e)

-- ---- what is over stays so

-- a world in which an actor moves goes on
move-goes_on : (processors worker : ℕ) (old new : Option (ℕ × ℕ)) (w v : WorldState) → IsLawful w.kernel
    → MovesNext processors worker old new w v → goes_on w ≡ true
unfolding goes_on
move-goes_on processors worker old new w v lawful m = of (next_actor w) refl
  where
    place : nat_lt (length w.kernel.history) w.kernel.places ≡ true
    place = within-less (length w.kernel.history) w.kernel.places m.place

    of : (next : Option Actor) → next_actor w ≡ next
        → (nat_lt (length w.kernel.history) w.kernel.places && is_some (next_actor w)) ≡ true
    of None rest = let no : true ≡ false = sym m.moves.leads.acts ∙ all-rest w m.actor lawful rest in cc
    of (Some a) next = ap (λ (b : Bool). b && is_some (next_actor w)) place ∙ ap is_some next

-- in a world that has ended no actor moves
no-move : (processors worker : ℕ) (old new : Option (ℕ × ℕ)) (w v : WorldState) → IsLawful w.kernel
    → MovesNext processors worker old new w v → is_some (ended_as w) ≡ true → ⊥
unfolding ended_as
no-move processors worker old new w v lawful m ended =
    let goes = move-goes_on processors worker old new w v lawful m in
    let no : is_some (ended_as w) ≡ false = ap (λ (b : Bool). is_some (cond b None (Some (end_of w)))) goes in
    let never : true ≡ false = sym ended ∙ no in
    cc

-- a world that has ended is as it is after a turn
turn-stays : (processors worker : ℕ) (old new : Option (ℕ × ℕ)) (w v : WorldState) → IsLawful w.kernel
    → IsTurnOf processors worker old new w v → is_some (ended_as w) ≡ true → is_some (ended_as v) ≡ true
turn-stays processors worker old new w v lawful (inl r) ended =
    subst (λ (x : WorldState). is_some (ended_as x) ≡ true) (sym r.world) ended
turn-stays processors worker old new w v lawful (inr m) ended =
    absurd (no-move processors worker old new w v lawful m ended)

-- where memory was refused to nobody, what is over is so by its world
of-world : (r : Option NoMemory) (b : Bool) → r ≡ None → (is_some r || b) ≡ true → b ≡ true
of-world None b none over = over
of-world (Some x) b none over = cc

by-world : (r : Option NoMemory) (b : Bool) → b ≡ true → (is_some r || b) ≡ true
by-world r b e = ap (λ (x : Bool). is_some r || x) e ∙ or-true (is_some r)

module _ {Q : Type 0} (view : Q → KernelView) (shared : SharedWorld Q) where
  abbrev world_over : Bool
  world_over = shared.world.made && is_some (ended_as (seen view shared.world))

  pub ended-over : shared.world.made ≡ true → is_some (ended_as (seen view shared.world)) ≡ true
      → is_over view shared ≡ true
  ended-over made e = by-world shared.refusal world_over (both_true made e)

  pub refused-over : IsSome shared.refusal → is_over view shared ≡ true
  refused-over e = ap (λ (b : Bool). b || world_over) e

  -- What is over has ended, where memory was not refused, and how is told without memory.
  pub over-made : is_over view shared ≡ true → shared.refusal ≡ None → shared.world.made ≡ true
  over-made over none = (and_parts shared.world.made _ (of-world shared.refusal world_over none over)).0

  pub over-ends : is_over view shared ≡ true → shared.refusal ≡ None → goes_on (seen view shared.world) ≡ false
  unfolding ended_as
  over-ends over none = of (goes_on (seen view shared.world)) refl
    where
      ended : is_some (ended_as (seen view shared.world)) ≡ true
      ended = (and_parts shared.world.made _ (of-world shared.refusal world_over none over)).1

      of : (b : Bool) → goes_on (seen view shared.world) ≡ b → goes_on (seen view shared.world) ≡ false
      of true goes =
          let no = ap (λ (b : Bool). is_some (cond b None (Some (end_of (seen view shared.world))))) goes in
          let never : true ≡ false = sym ended ∙ no in
          cc
      of false goes = goes

-- what is over is so after a turn, in which no actor can move
pub over-stays : (processors worker : ℕ) (old new : Option (ℕ × ℕ)) (w v : WorldState) (p : Progress)
    (r : Option NoMemory) (before now : Bool) → IsLawful w.kernel
    → MakesTurn processors worker old new w v p → AsksMade p now
    → (is_some r || (before && is_some (ended_as w))) ≡ true → (is_some r || (now && is_some (ended_as v))) ≡ true
over-stays processors worker old new w v p (Some x) before now lawful made asked over = refl
over-stays processors worker old new w v p None before now lawful made asked over = of p made asked
  where
    ended : is_some (ended_as w) ≡ true
    ended = (and_parts before _ over).1

    still : IsTurnOf processors worker old new w v → is_some (ended_as v) ≡ true
    still turn = turn-stays processors worker old new w v lawful turn ended

    of : (p : Progress) → MakesTurn processors worker old new w v p → AsksMade p now
        → (now && is_some (ended_as v)) ≡ true
    of Moved m asked = absurd (no-move processors worker old new w v lawful m ended)
    of Idle m asked = both_true asked (still (inl m.0))
    of Done m asked = both_true asked (still (inl m.0))

pub on-refused : {T E : Type 0} (r : Result T E) (A B : Type 0) → OnErr r A → (A → B) → OnErr r B
on-refused (Ok x) A B a f = tt
on-refused (Err e) A B a f = f a

-- ---- one turn

pub made-turn : (processors worker : ℕ) (old new : Option (ℕ × ℕ)) (w v : WorldState) (p : Progress)
    → MakesTurn processors worker old new w v p → IsTurnOf processors worker old new w v
made-turn processors worker old new w v Moved m = inr m
made-turn processors worker old new w v Idle m = inl m.0
made-turn processors worker old new w v Done m = inl m.0

module _ (processors worker : ℕ) (old new : Option (ℕ × ℕ)) (w v : WorldState) where
  -- a move adds one entry, behind the history
  move-log : (m : MovesNext processors worker old new w v)
      → log_of v.kernel.history
      ≡ log_of w.kernel.history ++ behind w.kernel.history (entry_of m.actor m.moves.leads.act) ∷ []
  move-log m = log-next w.kernel.history v.kernel.history (entry_of m.actor m.moves.leads.act) m.moves.leads.history

  -- the history begins as it was
  pub turn-grows : IsTurnOf processors worker old new w v
      → StartsWith (log_of v.kernel.history) (log_of w.kernel.history)
  turn-grows (inl r) =
      let log = log_of w.kernel.history in
      ap (λ (x : WorldState). take (length log) (log_of x.kernel.history)) r.world
      ∙ take_all (length log) log (omega arith)
  turn-grows (inr m) =
      let log = log_of w.kernel.history in
      ap (take (length log)) (move-log m)
      ∙ take_at log (behind w.kernel.history (entry_of m.actor m.moves.leads.act) ∷ []) (length log) refl

  -- a world that came from another, came from it after a turn too
  pub turn-came : (first : WorldState) → IsLawful w.kernel → CameFrom first w → IsTurnOf processors worker old new w v
      → CameFrom first v
  turn-came first lawful came (inl r) = subst (CameFrom first) (sym r.world) came
  turn-came first lawful came (inr m) = came-on first w v m.actor lawful came m.moves

  -- what a turn adds without a move, and by one
  rest-adds : Rests old new w v → added (log_of w.kernel.history) (log_of v.kernel.history) ≡ []
  rest-adds r =
      let log = log_of w.kernel.history in
      let none : drop (length log) (log_of v.kernel.history) ≡ [] =
      ap (λ (x : WorldState). drop (length log) (log_of x.kernel.history)) r.world
      ∙ drop_all (length log) log (omega arith) in
      ap (enumerate_from (length log)) none

  move-adds : (m : MovesNext processors worker old new w v)
      → added (log_of w.kernel.history) (log_of v.kernel.history)
      ≡ (length (log_of w.kernel.history), behind w.kernel.history (entry_of m.actor m.moves.leads.act)) ∷ []
  move-adds m =
      let log = log_of w.kernel.history in
      let last = behind w.kernel.history (entry_of m.actor m.moves.leads.act) in
      let one : drop (length log) (log_of v.kernel.history) ≡ last ∷ [] =
      ap (drop (length log)) (move-log m) ∙ drop_at log (last ∷ []) (length log) refl in
      ap (enumerate_from (length log)) one

  -- what was added is the worker's
  turn-adds : IsTurnOf processors worker old new w v
      → All (λ (e : ℕ × Entry). IsMovedBy processors worker e.1.actor)
      (entries_of (added (log_of w.kernel.history) (log_of v.kernel.history)))
  turn-adds (inl r) = let P : ℕ × Entry → Type 0 = λ e. IsMovedBy processors worker e.1.actor in
      subst (λ (l : List (ℕ × LoggedEntry)). All P (entries_of l)) (sym (rest-adds r)) (All-nil P)
  turn-adds (inr m) =
      let P : ℕ × Entry → Type 0 = λ e. IsMovedBy processors worker e.1.actor in
      let its = (next-moves processors worker old w m.actor m.next).its in
      subst (λ (l : List (ℕ × LoggedEntry)). All P (entries_of l)) (sym (move-adds m))
      (All-cons P (length (log_of w.kernel.history), entry_of m.actor m.moves.leads.act) [] its (All-nil P))

  -- the move of an entry that stands in a history behind the one before it
  move-stands : (first : WorldState) (history : List Entry) → IsLawful w.kernel → CameFrom first w
      → (m : MovesNext processors worker old new w v) (place : ℕ)
      → slice_get (log_of history) place ≡ Some (behind w.kernel.history (entry_of m.actor m.moves.leads.act))
      → IsNextOf first history processors worker old (place, entry_of m.actor m.moves.leads.act)
  move-stands first history lawful came m place stands =
      let entry = entry_of m.actor m.moves.leads.act in
      let there = log-at [] history place (behind w.kernel.history entry) stands in
      record {
        before = w;
        lawful = lawful;
        came = came;
        begins = there.before;
        next = m.next;
        after = v;
        moves = m.moves;
        ends = m.moves.leads.history
            ∙ (ap (λ (h : List Entry). h ++ entry ∷ []) there.before ∙ sym (take-next place history entry there.entry));
      }

  -- with what was added the worker went on, in a history in which it stands
  turn-goes_on : (first : WorldState) (history : List Entry) → IsLawful w.kernel → CameFrom first w
      → IsTurnOf processors worker old new w v
      → StandIn (log_of history) (added (log_of w.kernel.history) (log_of v.kernel.history))
      → GoesOn first history processors worker old
      (entries_of (added (log_of w.kernel.history) (log_of v.kernel.history)))
  turn-goes_on first history lawful came (inl r) stand =
      subst (λ (l : List (ℕ × LoggedEntry)). GoesOn first history processors worker old (entries_of l))
      (sym (rest-adds r)) tt
  turn-goes_on first history lawful came (inr m) stand =
      let P : ℕ × LoggedEntry → Type 0 = λ e. slice_get (log_of history) e.0 ≡ Some e.1 in
      let one : ℕ × LoggedEntry =
      (length (log_of w.kernel.history), behind w.kernel.history (entry_of m.actor m.moves.leads.act)) in
      let stands = All-head P one [] (subst (All P) (move-adds m) stand) in
      subst (λ (l : List (ℕ × LoggedEntry)). GoesOn first history processors worker old (entries_of l))
      (sym (move-adds m)) (move-stands first history lawful came m one.0 stands, tt)

  turn-last : IsTurnOf processors worker old new w v
      → new ≡ last_lwp old (entries_of (added (log_of w.kernel.history) (log_of v.kernel.history)))
  turn-last (inl r) = r.last ∙ ap (λ (l : List (ℕ × LoggedEntry)). last_lwp old (entries_of l)) (sym (rest-adds r))
  turn-last (inr m) = m.last ∙ ap (λ (l : List (ℕ × LoggedEntry)). last_lwp old (entries_of l)) (sym (move-adds m))

-- a worker that has nothing more to do, left in that world
pub done-left : {V : Type 0} (first : WorldState) (processors worker : ℕ) (old new : Option (ℕ × ℕ)) (w v : WorldState)
    (r : Result Progress NoMemory) (now : Bool) (seat : Seat V LoggedEntry)
    → IfOk r (λ progress. MakesTurn processors worker old new w v progress) → IfOk r (λ progress. AsksMade progress now)
    → IsLawful w.kernel → CameFrom first w → seen_of seat ≡ log_of v.kernel.history
    → (now ≡ true → is_some (ended_as v) ≡ true → saw_over seat ≡ true)
    → IfOk r (λ progress. progress ≡ Done → HasLeft first processors worker seat)
done-left first processors worker old new w v (Err x) now seat made asked lawful came seen over = tt
done-left first processors worker old new w v (Ok Moved) now seat made asked lawful came seen over = λ e. cc
done-left first processors worker old new w v (Ok Idle) now seat made asked lawful came seen over = λ e. cc
done-left first processors worker old new w v (Ok Done) now seat made asked lawful came seen over = λ e. record {
  world = w;
  lawful = lawful;
  came = came;
  seen = seen ∙ ap (λ (x : WorldState). log_of x.kernel.history) made.0.world;
  done = made.1;
  over = λ ended. over asked (ap (λ (x : WorldState). is_some (ended_as x)) made.0.world ∙ ended);
}

-- ---- the entries of a worker

-- entries, and further ones
goes-on : (first : WorldState) (history : List Entry) (processors worker : ℕ) (last : Option (ℕ × ℕ))
    (own more : List (ℕ × Entry)) → GoesOn first history processors worker last own
    → GoesOn first history processors worker (last_lwp last own) more
    → GoesOn first history processors worker last (own ++ more)
goes-on first history processors worker last [] more goes on = on
goes-on first history processors worker last (e ∷ own) more goes on =
    (goes.0, goes-on first history processors worker (lwp_of e.1.actor) own more goes.1 on)

last-on : (last : Option (ℕ × ℕ)) (own more : List (ℕ × Entry))
    → last_lwp last (own ++ more) ≡ last_lwp (last_lwp last own) more
last-on last [] more = refl
last-on last (e ∷ own) more = last-on (lwp_of e.1.actor) own more

-- What a worker made so far, and the lwp that it moved last.
pub record HasGrown (first : WorldState) (processors worker : ℕ) (new : Option (ℕ × ℕ))
    (own : List (ℕ × LoggedEntry)) : Type 0 where
  pub made : HasMade first processors worker own
  pub last : new ≡ last_lwp None (entries_of own)

module _ (first : WorldState) (processors worker : ℕ) (old new : Option (ℕ × ℕ)) (w v : WorldState)
    (own : List (ℕ × LoggedEntry)) (turn : IsTurnOf processors worker old new w v) (lawful : IsLawful w.kernel)
    (came : CameFrom first w)
    (made : HasMade first processors worker own) (same : old ≡ last_lwp None (entries_of own)) where
  abbrev more : List (ℕ × LoggedEntry)
  more = added (log_of w.kernel.history) (log_of v.kernel.history)

  more-work : IsInOrder (own ++ more) → (history : List Entry) → StandIn (log_of history) (own ++ more)
      → IsWorkOf first history processors worker (entries_of (own ++ more))
  more-work order history stand =
      let P : ℕ × Entry → Type 0 = λ e. IsMovedBy processors worker e.1.actor in
      let parts = stands-apart (log_of history) own more stand in
      let work = made.work history parts.first in
      let its =
      All-append P (entries_of own) (entries_of more) work.its (turn-adds processors worker old new w v turn) in
      let goes =
      subst (λ (l : Option (ℕ × ℕ)). GoesOn first history processors worker l (entries_of more)) same
      (turn-goes_on processors worker old new w v first history lawful came turn parts.second) in
      let rounds = goes-on first history processors worker None (entries_of own) (entries_of more) work.rounds goes in
      let is = sym (entries-append own more) in
      record {
        order = order-entries (own ++ more) order;
        its = subst (All P) is its;
        rounds = subst (GoesOn first history processors worker None) is rounds;
      }

  more-last : new ≡ last_lwp None (entries_of (own ++ more))
  more-last =
      turn-last processors worker old new w v turn ∙ (ap (λ (l : Option (ℕ × ℕ)). last_lwp l (entries_of more)) same
      ∙ (sym (last-on None (entries_of own) (entries_of more)) ∙ ap (last_lwp None) (sym (entries-append own more))))

  pub turn-work : (after : List (ℕ × LoggedEntry)) (entered : List LoggedEntry) → StandIn (log_of w.kernel.history) own
      → entered ≡ log_of w.kernel.history → after ≡ own ++ added entered (log_of v.kernel.history)
      → (IsInOrder own → IsInOrder after) → HasGrown first processors worker new after
  turn-work after entered stand log is order =
      let grown : after ≡ own ++ more =
      is ∙ ap (λ (l : List LoggedEntry). own ++ added l (log_of v.kernel.history)) log in
      let ordered = order (order-log own (made.work w.kernel.history stand).order) in
      subst (HasGrown first processors worker new) (sym grown) (record {
        made = record { work = more-work (subst IsInOrder grown ordered) };
        last = more-last;
      })

-- a worker that made no entry yet
no-work : (first : WorldState) (history : List Entry) (processors worker : ℕ) (own : List (ℕ × LoggedEntry)) → own ≡ []
    → IsWorkOf first history processors worker (entries_of own)
no-work first history processors worker own none =
    subst (λ (l : List (ℕ × LoggedEntry)). IsWorkOf first history processors worker (entries_of l)) (sym none)
    (record {
      order = λ i j d before within. absurd (omega arith);
      its =
          All-nil (λ (e : ℕ × Entry). IsMovedBy processors worker e.1.actor);
      rounds = tt;
    })

-- as many controllers as there were at first
pub came-count : (first w : WorldState) → CameFrom first w → length w.controllers ≡ length first.controllers
came-count first w came = ap length came.led.controllers ∙ controllers_at-count first.controllers came.led.entries

-- ---- all turns

module _ {X Y : Type 0} (f : X → Y) where
  map-at : (xs : List X) (k : ℕ) (d : Y) → k < length xs
      → (x : X) × ((slice_index_or xs k x ≡ x) × (slice_index_or (map f xs) k d ≡ f x))
  map-at [] k d h = absurd (omega arith)
  map-at (x ∷ xs) zero d h = (x, (refl, refl))
  map-at (x ∷ xs) (suc k) d h = map-at xs k d (omega arith)

  -- what is so of each, by its place, is so of what is made of each
  pub map-places : (P : ℕ → Y → Type 0) (xs : List X) → AtPlaces (λ k x. P k (f x)) xs → AtPlaces P (map f xs)
  map-places P xs all = λ k d h.
      let at = map-at xs k d (omega (arith, h, length-map xs f)) in
      let here : P k (f at.0) = subst (λ (x : X). P k (f x)) at.1.0 (all k at.0 (omega (arith, h, length-map xs f))) in
      subst (P k) (sym at.1.1) here

-- a list that was lent and written back
pub written-back : {X : Type 0} (xs items : List X) (n : ℕ) → length xs ≡ length items → n ≡ length items
    → take n (xs ++ drop (length xs) items) ≡ xs
written-back xs items n same all =
    ap (take n) (ap (λ (l : List _). xs ++ l) (drop_all (length xs) items (omega (arith, same))) ∙ append-nil xs)
    ∙ take_all n xs (omega (arith, same, all))

module _ {V : Type 0} (first : WorldState) (processors : ℕ) (lock : Shared V LoggedEntry) where
  -- a worker that has not made its last turn
  pub still-on_duty : (worker : ℕ) (duty : Duty V LoggedEntry) → HasWorked first processors lock worker duty.seat
      → duty.last ≡ last_lwp None (entries_of (own_of duty.seat)) → duty.has_stopped ≡ false
      → IsOnDuty first processors lock worker duty
  still-on_duty worker duty worked last goes_on = record {
    worked = worked;
    last = last;
    stops = λ stopped. let no : true ≡ false = sym stopped ∙ goes_on in cc;
  }

  new-on_duty : (worker : ℕ) (duty : Duty V LoggedEntry) → IsNew lock duty → IsOnDuty first processors lock worker duty
  new-on_duty worker duty new =
      let worked : HasWorked first processors lock worker duty.seat = record {
        outside = new.ready.outside;
        share = new.ready.share;
        made = record {
          work =
              λ history stand. no-work first history processors worker (own_of duty.seat) new.ready.none;
        };
      } in
      let last = new.none ∙ sym (ap (λ (l : List (ℕ × LoggedEntry)). last_lwp None (entries_of l)) new.ready.none) in
      still-on_duty worker duty worked last new.goes_on

  pub all-begin : (duties : List (Duty V LoggedEntry)) → All (IsNew lock) duties
      → AtPlaces (IsOnDuty first processors lock) duties
  all-begin duties new = λ k d h. new-on_duty k (slice_index_or duties k d) (new k d h)

  pub all-stopped : (duties : List (Duty V LoggedEntry)) → list_all (λ duty. duty.has_stopped) duties ≡ true
      → AtPlaces (IsOnDuty first processors lock) duties → AtPlaces (IsOffDuty first processors lock) duties
  all-stopped duties stopped on =
      λ k d h.
      (on k d h).stops (AllPass-from_list_all (λ (duty : Duty V LoggedEntry). duty.has_stopped) duties stopped k d h)

  -- where a worker of the processor has made its last turn, all is over
  stopped-over : (worker : ℕ) (seat : Seat V LoggedEntry) → worker < processors
      → HasStopped first processors lock worker seat → saw_over seat ≡ true
  stopped-over worker seat h stopped = of stopped.stops
    where
      of : HasLeft first processors worker seat ⊎ (saw_over seat ≡ true) → saw_over seat ≡ true
      of (inl left) = left.over (done-ended processors worker left.world h left.done)
      of (inr over) = over

  -- One of the workers is one of the processor.
  pub all-over : (duties : List (Duty V LoggedEntry)) → AtPlaces (IsOffDuty first processors lock) duties
      → 0 < processors → 0 < length duties → list_any (λ duty. saw_over duty.seat) duties ≡ true
  all-over [] done some many = absurd (omega arith)
  all-over (duty ∷ duties) done some many =
      ap (λ (b : Bool). b || list_any (λ (x : Duty V LoggedEntry). saw_over x.seat) duties)
      (stopped-over 0 duty.seat some (done 0 duty many))

  pub all-out : (duties : List (Duty V LoggedEntry)) → AtPlaces (IsOffDuty first processors lock) duties
      → All (λ duty. IsOutside duty.seat lock × (shares_of duty.seat ≡ 1)) duties
  all-out duties done = λ k d h. let it = (done k d h).worked in (it.outside, it.share)

  -- a seat that added nothing, and took in these
  pub taken-in : (before after : Seat V LoggedEntry) (back duties : List (Duty V LoggedEntry))
      → own_of after ≡ own_of before ++ flat_map (λ duty. own_of duty.seat) back → own_of before ≡ [] → back ≡ duties
      → own_of after ≡ flat_map (λ duty. own_of duty.seat) duties
  taken-in before after back duties is none same =
      is ∙ (ap
      (λ (o : List (ℕ × LoggedEntry)). o ++ flat_map (λ (duty : Duty V LoggedEntry). own_of duty.seat) back) none
      ∙ ap (λ (l : List (Duty V LoggedEntry)). flat_map (λ (duty : Duty V LoggedEntry). own_of duty.seat) l) same)

  -- What the seats of all workers have is the history.
  pub all-made : (duties : List (Duty V LoggedEntry)) (history : List Entry) (own : List (ℕ × LoggedEntry))
      → AtPlaces (IsOffDuty first processors lock) duties → length duties ≡ processors + length first.controllers
      → own ≡ flat_map (λ duty. own_of duty.seat) duties
      → AreAll (log_of history) own → IsMadeBy first processors history
  all-made duties history own done count is all =
      let made : Duty V LoggedEntry → List (ℕ × Entry) = λ duty. entries_of (own_of duty.seat) in
      let those = subst (AreAll (log_of history)) is all in
      let stand = each-stands (λ (duty : Duty V LoggedEntry). own_of duty.seat) (log_of history) duties those.stand in
      record {
        made = map made duties;
        workers = length-map duties made ∙ count;
        work = map-places made (IsWorkOf first history processors) duties
            (λ k d h. (done k d h).worked.made.work history (stand k d h));
        all = subst (AreAll history) (entries-of_each (λ (duty : Duty V LoggedEntry). own_of duty.seat) duties)
            (all-entries history (flat_map (λ (duty : Duty V LoggedEntry). own_of duty.seat) duties) those);
      }
