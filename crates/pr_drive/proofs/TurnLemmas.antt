use Rattle.std.proofs.Common.{◌≡◌, ◌<◌, ◌≤◌, ◌+◌, ◌-◌, ◌++◌, ◌&&◌, ◌||◌, ◌==◌, ℕ, zero, suc, Bool, true, false, List, [], ◌∷◌}
use Rattle.std.proofs.Common.{Option, Some, None, length, cond, find, slice_get, nat_lt, refl, sym, ap, ◌∙◌, arith, length-append}
use Rattle.std.proofs.lemmas.Bool.{eqb-false, le-ltb}
use Rattle.std.proofs.lemmas.List.Folds.{list_any-append}
use Rattle.std.specs.List.{list_any, range_with_len}
use Rattle.std.specs.Option.{option_and_then, option_map, option_or}
use Rattle.pr_api.specs.Sleepers.{some_sleeper}
use Rattle.pr_api.specs.Views.{kernel_of, next_of, turns_after}
use Rattle.pr_model.specs.declared.calls.Call.{Call}
use Rattle.pr_model.specs.declared.events.Actor.{Actor}
use Rattle.pr_model.specs.declared.events.Actor.TheVariants.{Controller, Lwp, Clock}
use Rattle.pr_num.specs.Limits.{clock_limit}
use Rattle.pr_scen.specs.Scripts.{ScriptState, next_call_of}
use Rattle.pr_world.proofs.SearchLemmas.{search-end}
use Rattle.pr_world.specs.ControllerStates.{ControllerState, Script}
use Rattle.pr_world.specs.Controllers.{awaits_after, awaits_clock, call_by, is_clock_awaited, next_call}
use Rattle.pr_world.specs.Worlds.{WorldState, as_lwp, can_act, clock_if_awaited, controller_acts, first_controller}
use Rattle.pr_world.specs.Worlds.{first_lwp, from_controller, from_lwp, is_answered, next_in_round, next_in_rounds}
use Rattle.pr_drive.specs.Exchanges.{wait_of}
use Rattle.pr_drive.specs.Going.{SeatsState, outside_of, world_of}
use Rattle.pr_drive.specs.Rounds.{RoundsState, first_place, from_clock, from_lwps, last_at, next_from, next_left}
use Rattle.pr_drive.specs.Scripted.{IsBefore, beside, outside_if}
use Rattle.pr_drive.specs.declared.places.Place.{Place}
use Rattle.pr_drive.specs.declared.places.Place.TheVariants as place
use Rattle.pr_drive.proofs.WorldLemmas.{world_with}

-- Who is next in the rounds of a run in which a script is one more controller.

-- ---- one controller more

get-other : {X : Type 0} (xs : List X) (x : X) (k : ℕ) → (k ≡ length xs → ⊥)
    → slice_get (xs ++ x ∷ []) k ≡ slice_get xs k
get-other [] x zero other = absurd (other refl)
get-other [] x (suc k) other = refl
get-other (y ∷ xs) x zero other = refl
get-other (y ∷ xs) x (suc k) other = get-other xs x k (λ e. other (omega (arith, e)))

pub get-before : {X : Type 0} (xs : List X) (x : X) (k : ℕ) → k < length xs
    → slice_get (xs ++ x ∷ []) k ≡ slice_get xs k
get-before xs x k within = get-other xs x k (λ e. omega (arith, e, within))

pub get-last : {X : Type 0} (xs : List X) (x : X) → slice_get (xs ++ x ∷ []) (length xs) ≡ Some x
get-last [] x = refl
get-last (y ∷ xs) x = get-last xs x

pub call-before : (cs : List ControllerState) (c : ControllerState) (k : ℕ) → k < length cs
    → call_by (cs ++ c ∷ []) k ≡ call_by cs k
unfolding call_by
call-before cs c k within = ap (option_and_then next_call) (get-before cs c k within)

pub call-last : (cs : List ControllerState) (c : ControllerState) → call_by (cs ++ c ∷ []) (length cs) ≡ next_call c
unfolding call_by
call-last cs c = ap (option_and_then next_call) (get-last cs c)

-- a number that is not the last one is one of those before, or of nobody
call-other : (cs : List ControllerState) (c : ControllerState) (k : ℕ) → (k == length cs) ≡ false
    → call_by (cs ++ c ∷ []) k ≡ call_by cs k
unfolding call_by
call-other cs c k other = ap (option_and_then next_call) (get-other cs c k (eqb-false k (length cs) other))

-- ---- searches

find-more : (p q : ℕ → Bool) (n m from : ℕ) → from + m ≡ n → ((k : ℕ) → k < n → p k ≡ q k)
    → find p (range_with_len from (suc m)) ≡ option_or (find q (range_with_len from m)) (cond (p n) (Some n) None)
find-more p q n zero from ends same =
    let at : from ≡ n = omega (arith, ends) in
    ap (λ (k : ℕ). cond (p k) (Some k) None) at
find-more p q n (suc m) from ends same =
    ap (cond (p from) (Some from)) (find-more p q n m (from + 1) (omega (arith, ends)) same)
    ∙ of (p from) (q from) (same from (omega (arith, ends)))
  where
    of : (a b : Bool) → a ≡ b
        → cond a (Some from) (option_or (find q (range_with_len (from + 1) m)) (cond (p n) (Some n) None))
        ≡ option_or (cond b (Some from) (find q (range_with_len (from + 1) m))) (cond (p n) (Some n) None)
    of true true e = refl
    of false false e = refl
    of true false e = cc
    of false true e = cc

map-or : {X Y : Type 0} (f : X → Y) (a b : Option X)
    → option_map f (option_or a b) ≡ option_or (option_map f a) (option_map f b)
map-or f None b = refl
map-or f (Some x) b = refl

map-if : {X Y : Type 0} (f : X → Y) (b : Bool) (x : X) → option_map f (cond b (Some x) None) ≡ cond b (Some (f x)) None
map-if f true x = refl
map-if f false x = refl

-- ---- the world with a script

-- with what is left of a schedule
abbrev pub world : ScriptState → SeatsState → List Actor → Option Actor → WorldState
world script s schedule last = world_with (s.controllers ++ Script script ∷ []) s schedule last

-- the moment until which the script's next call waits
abbrev pub until_of : ScriptState → ℕ
until_of script = wait_of (next_call_of script)

awaits-is : (clock : ℕ) (o : Option Call) → awaits_after clock o ≡ nat_lt clock (wait_of o)
awaits-is clock None = sym (le-ltb clock 0 (omega arith))
awaits-is clock (Some c) = refl

turned : (s l a : Bool) → (s || (l || (a || false))) ≡ ((a || s) || l)
turned true true true = refl
turned true true false = refl
turned true false true = refl
turned true false false = refl
turned false true true = refl
turned false true false = refl
turned false false true = refl
turned false false false = refl

module _ (script : ScriptState) (s : SeatsState) (schedule : List Actor) (last : Option Actor) where
  abbrev w : WorldState
  w = world script s schedule last

  abbrev v : WorldState
  v = world_of (until_of script) s

  abbrev n : ℕ
  n = outside_of s

  pub acts-before : (k : ℕ) → k < n → can_act w (Controller k) ≡ can_act v (Controller k)
  unfolding can_act world_of kernel_of
  acts-before k within =
      ap (is_answered (kernel_of s.kernel.state s.kernel.history s.kernel.places) k)
      (call-before s.controllers (Script script) k within)

  -- a controller that is neither of the scenario's nor the outside is none
  pub acts-other : (k : ℕ) → (k == n) ≡ false → can_act w (Controller k) ≡ can_act v (Controller k)
  unfolding can_act world_of kernel_of
  acts-other k other =
      ap (is_answered (kernel_of s.kernel.state s.kernel.history s.kernel.places) k)
      (call-other s.controllers (Script script) k other)

  acts-last : can_act w (Controller n)
      ≡ is_answered (kernel_of s.kernel.state s.kernel.history s.kernel.places) n (next_call_of script)
  unfolding can_act next_call
  acts-last = ap (is_answered (kernel_of s.kernel.state s.kernel.history s.kernel.places) n)
      (call-last s.controllers (Script script))

  pub acts-lwp : (pid id : ℕ) → can_act w (Lwp pid id) ≡ can_act v (Lwp pid id)
  unfolding can_act world_of kernel_of
  acts-lwp pid id = refl

  pub acts-clock : can_act w Clock ≡ can_act v Clock
  unfolding can_act world_of kernel_of is_clock_awaited awaits_clock next_call
  acts-clock =
      let clock = s.kernel.state.system.clock in
      let sleeper = some_sleeper s.kernel.state.system in
      let any = list_any (awaits_clock clock) s.controllers in
      ap (λ (b : Bool). nat_lt clock clock_limit && (sleeper || b))
      (list_any-append (awaits_clock clock) s.controllers (Script script ∷ []))
      ∙ ap (λ (b : Bool). nat_lt clock clock_limit && (sleeper || (any || (b || false))))
      (awaits-is clock (next_call_of script))
      ∙ ap (λ (b : Bool). nat_lt clock clock_limit && b) (turned sleeper any (nat_lt clock (until_of script)))

  lwps-same : (after : Option (ℕ × ℕ)) → first_lwp w after ≡ first_lwp v after
  unfolding first_lwp next_of turns_after world_of kernel_of
  lwps-same after = refl

  clock-same : clock_if_awaited w ≡ clock_if_awaited v
  unfolding clock_if_awaited
  clock-same = ap (λ (b : Bool). cond b (Some Clock) None) acts-clock

  lwp-on : (after : Option (ℕ × ℕ)) → from_lwp w after ≡ option_or (first_lwp v after) (clock_if_awaited v)
  unfolding from_lwp
  lwp-on after =
      ap (λ (o : Option Actor). option_or o (clock_if_awaited w)) (lwps-same after)
      ∙ ap (option_or (first_lwp v after)) clock-same

  count : length w.controllers ≡ n + 1
  count = length-append s.controllers (Script script ∷ [])

  -- a controller of the scenario comes before the outside
  first-on : (from : ℕ) → from ≤ n
      → first_controller w from ≡ option_or (first_controller v from) (outside_if script s)
  unfolding first_controller controller_acts outside_if world_of
  first-on from within =
      let more : length w.controllers - from ≡ suc (n - from) = omega (arith, count, within) in
      let ends : from + (n - from) ≡ n = omega (arith, within) in
      let numbers = range_with_len from (n - from) in
      ap (λ (m : ℕ). option_map Controller (find (controller_acts w) (range_with_len from m))) more
      ∙ ap (option_map Controller)
      (find-more (controller_acts w) (controller_acts v) n (n - from) from ends acts-before)
      ∙ map-or Controller (find (controller_acts v) numbers) (cond (can_act w (Controller n)) (Some n) None)
      ∙ ap (option_or (first_controller v from))
      (map-if Controller (can_act w (Controller n)) n
      ∙ ap (λ (b : Bool). cond b (Some (Controller n)) None) acts-last)

  -- behind the outside there is none
  first-past : first_controller w (n + 1) ≡ None
  unfolding first_controller
  first-past = ap (option_map Controller)
      (search-end (controller_acts w) (n + 1) (length w.controllers) (omega (arith, count)))

  controller-on : (from : ℕ) → from ≤ n
      → from_controller w from ≡ option_or (option_or (first_controller v from) (outside_if script s))
      (option_or (first_lwp v None) (clock_if_awaited v))
  unfolding from_controller
  controller-on from within =
      ap (λ (o : Option Actor). option_or o (from_lwp w None)) (first-on from within)
      ∙ ap (option_or (option_or (first_controller v from) (outside_if script s))) (lwp-on None)

  past-on : from_controller w (n + 1) ≡ option_or (first_lwp v None) (clock_if_awaited v)
  unfolding from_controller
  past-on = ap (λ (o : Option Actor). option_or o (from_lwp w None)) first-past ∙ lwp-on None

  rounds-on : (left : Option Actor) → next_in_round w last ≡ left
      → next_in_rounds w ≡ option_or left (option_or (option_or (first_controller v 0) (outside_if script s))
      (option_or (first_lwp v None) (clock_if_awaited v)))
  unfolding next_in_rounds
  rounds-on left e =
      ap (λ (o : Option Actor). option_or o (from_controller w 0)) e
      ∙ ap (option_or left) (controller-on 0 (omega arith))

-- which of five is the first
at-lwps : (x l c f o : Option Actor)
    → option_or (option_or x c) (option_or (option_or f o) (option_or l c))
    ≡ option_or (option_or x (option_or c f)) (option_or o (option_or l (option_or c f)))
at-lwps (Some x) l c f o = refl
at-lwps None l (Some c) f o = refl
at-lwps None l None (Some f) o = refl
at-lwps None l None None (Some o) = refl
at-lwps None (Some l) None None None = refl
at-lwps None None None None None = refl

at-controllers : (g l c f o : Option Actor)
    → option_or (option_or (option_or g o) (option_or l c)) (option_or (option_or f o) (option_or l c))
    ≡ option_or g (option_or o (option_or l (option_or c f)))
at-controllers (Some g) l c f o = refl
at-controllers None l c f (Some o) = refl
at-controllers None (Some l) c f None = refl
at-controllers None None (Some c) f None = refl
at-controllers None None None (Some f) None = refl
at-controllers None None None None None = refl

at-first : (l c f o : Option Actor)
    → option_or (option_or f o) (option_or l c) ≡ option_or f (option_or o (option_or l (option_or c f)))
at-first l c (Some f) o = refl
at-first l c None (Some o) = refl
at-first (Some l) c None None = refl
at-first None (Some c) None None = refl
at-first None None None None = refl

-- who is next where the rounds stand at a place: who is left, the outside, or who comes first in a whole round
abbrev pub next_of_all : ScriptState → SeatsState → Place → Option Actor
next_of_all script s at =
    option_or (next_from (world_of (until_of script) s) at) (option_or (outside_if script s)
    (next_from (world_of (until_of script) s) first_place))

-- where nobody was picked yet it is as behind the clock
pub next-none : (script : ScriptState) (s : SeatsState) (schedule : List Actor)
    → next_in_rounds (world script s schedule None) ≡ next_of_all script s (place.Controllers 0)
unfolding next_from from_lwps from_clock next_in_round
next-none script s schedule =
    let v = world_of (until_of script) s in
    rounds-on script s schedule None None refl
    ∙ at-first (first_lwp v None) (clock_if_awaited v) (first_controller v 0) (outside_if script s)

pub next-at : (script : ScriptState) (s : SeatsState) (schedule : List Actor) (at : Place) → IsBefore (outside_of s) at
    → next_in_rounds (world script s schedule (last_at (outside_of s) at)) ≡ next_of_all script s at
unfolding last_at next_from from_lwps from_clock next_in_round
next-at script s schedule (place.Lwps None) before =
    let v = world_of (until_of script) s in
    let n = outside_of s in
    let w = world script s schedule (Some (Controller n)) in
    let lwps = option_or (first_lwp v None) (clock_if_awaited v) in
    rounds-on script s schedule (Some (Controller n)) lwps
    (past-on script s schedule (Some (Controller n)))
    ∙ at-lwps (first_lwp v None) (first_lwp v None) (clock_if_awaited v) (first_controller v 0) (outside_if script s)
next-at script s schedule (place.Lwps (Some i)) before =
    let v = world_of (until_of script) s in
    let last : Option Actor = Some (as_lwp i) in
    rounds-on script s schedule last (option_or (first_lwp v (Some i)) (clock_if_awaited v))
    (lwp-on script s schedule last (Some i))
    ∙ at-lwps (first_lwp v (Some i)) (first_lwp v None) (clock_if_awaited v) (first_controller v 0)
    (outside_if script s)
next-at script s schedule (place.Controllers zero) before =
    let v = world_of (until_of script) s in
    rounds-on script s schedule (Some Clock) None refl
    ∙ at-first (first_lwp v None) (clock_if_awaited v) (first_controller v 0) (outside_if script s)
next-at script s schedule (place.Controllers (suc k)) before =
    let v = world_of (until_of script) s in
    let last : Option Actor = Some (Controller k) in
    let number : k + 1 ≡ suc k = omega arith in
    let within : k + 1 ≤ outside_of s = omega (arith, before) in
    let lwps = option_or (first_lwp v None) (clock_if_awaited v) in
    rounds-on script s schedule last
    (option_or (option_or (first_controller v (suc k)) (outside_if script s)) lwps)
    (controller-on script s schedule last (k + 1) within
    ∙ ap (λ (m : ℕ). option_or (option_or (first_controller v m) (outside_if script s)) lwps) number)
    ∙ at-controllers (first_controller v (suc k)) (first_lwp v None) (clock_if_awaited v) (first_controller v 0)
    (outside_if script s)

-- the law
pub next-beside : (script : ScriptState) (r : RoundsState) → IsBefore (outside_of r.seats) r.place
    → next_in_rounds (beside script r.seats (last_at (outside_of r.seats) r.place))
    ≡ option_or (next_left (wait_of (next_call_of script)) r) (option_or (outside_if script r.seats)
    (next_from (world_of (wait_of (next_call_of script)) r.seats) first_place))
unfolding beside next_left
next-beside script r before = next-at script r.seats [] r.place before

pub ruleset turns = (next-beside)
