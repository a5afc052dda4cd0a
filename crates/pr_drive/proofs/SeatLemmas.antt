use Rattle.std.proofs.Common.{◌≡◌, ◌<◌, ◌≤◌, ◌+◌, ◌-◌, ◌&&◌, ◌||◌, ℕ, Bool, true, false, Option, Some, None, is_some}
use Rattle.std.proofs.Common.{List, ◌∷◌, length, map, drop, find, nat_lt, refl, sym, ap, ◌∙◌, arith}
use Rattle.std.specs.List.{slice_get, slice_index_or, list_any, range_with_len}
use Rattle.std.specs.Option.{option_map}
use Rattle.std.proofs.lemmas.Bool.{le-ltb, lt-ltb}
use Rattle.std.proofs.lemmas.List.{length-map}
use Rattle.std.proofs.lemmas.Option.{slice_get-map, slice_get-get_or, slice_get_past}
use Rattle.pr_api.specs.Sleepers.{some_sleeper}
use Rattle.pr_api.specs.Views.{kernel_of}
use Rattle.pr_model.specs.Calls.{answer_to}
use Rattle.pr_model.specs.LwpTurns.{can_move as lwp_can_move}
use Rattle.pr_model.specs.declared.calls.Call.{Call}
use Rattle.pr_model.specs.declared.events.Actor.TheVariants.{Controller as ByNumber, Lwp, Clock}
use Rattle.pr_num.proofs.ListLemmas.{drop-at}
use Rattle.pr_num.specs.Limits.{clock_limit}
use Rattle.pr_world.specs.ControllerStates.{state_of}
use Rattle.pr_world.specs.Controllers.{awaits_clock, call_by, is_clock_awaited}
use Rattle.pr_world.proofs.SearchLemmas.{search-end, search-here, search-on}
use Rattle.pr_world.specs.Worlds.{can_act, controller_acts, first_controller, is_answered}
use Rattle.pr_world.specs.declared.controllers.Controller.{Controller}
use Rattle.pr_drive.specs.Going.{SeatsState, can_move, world_of}

-- ---- the cores of controllers, of which one is asked

pub seats-length : (cs : List Controller) → length (map state_of cs) ≡ length cs
seats-length cs = length-map cs state_of

pub seat-at : (cs : List Controller) (k : ℕ) (x : Controller) → k < length cs → x ≡ slice_index_or cs k x
    → slice_get (map state_of cs) k ≡ Some (state_of x)
seat-at cs k x within at =
    slice_get-map state_of cs k ∙ ap (option_map state_of) (slice_get-get_or cs k x within)
    ∙ ap (λ (y : Controller). Some (state_of y)) (sym at)

-- those from a place on: the one there, and those behind it
pub seat-next : (cs : List Controller) (k : ℕ) (x : Controller) → k < length cs → x ≡ slice_index_or cs k x
    → drop k (map state_of cs) ≡ state_of x ∷ drop (k + 1) (map state_of cs)
seat-next cs k x within at = drop-at (map state_of cs) k (state_of x) (seat-at cs k x within at)

pub seat-past : (cs : List Controller) (k : ℕ) → length cs ≤ k → slice_get (map state_of cs) k ≡ None
seat-past cs k past = slice_get_past (map state_of cs) k (omega (arith, seats-length cs))

pub ruleset seats = (seats-length, seat-at, seat-next, seat-past)

-- ---- who can move

pub controller-can : (until : ℕ) (s : SeatsState) (k : ℕ) (c : Call) → Some c ≡ call_by s.controllers k
    → is_some (answer_to s.kernel.state k c) ≡ can_move until s (ByNumber k)
unfolding can_move world_of can_act kernel_of
controller-can until s k c e = ap (λ (o : Option Call). is_answered (world_of until s).kernel k o) e

pub controller-cannot : (until : ℕ) (s : SeatsState) (k : ℕ) → None ≡ call_by s.controllers k
    → false ≡ can_move until s (ByNumber k)
unfolding can_move world_of can_act kernel_of
controller-cannot until s k e = ap (λ (o : Option Call). is_answered (world_of until s).kernel k o) e

pub lwp-can : (until : ℕ) (s : SeatsState) (pid id : ℕ)
    → lwp_can_move s.kernel.state.system pid id ≡ can_move until s (Lwp pid id)
unfolding can_move world_of can_act kernel_of
lwp-can until s pid id = refl

-- what an lwp and a controller can does not depend on what the outside waits for
pub lwp-any : (u v : ℕ) (s : SeatsState) (pid id : ℕ) → can_move u s (Lwp pid id) ≡ true
    → can_move v s (Lwp pid id) ≡ true
lwp-any u v s pid id can = sym (lwp-can v s pid id) ∙ lwp-can u s pid id ∙ can

pub controller-any : (u v : ℕ) (s : SeatsState) (k : ℕ) → can_move u s (ByNumber k) ≡ true
    → can_move v s (ByNumber k) ≡ true
controller-any u v s k can = of (call_by s.controllers k) refl
  where
    of : (o : Option Call) → o ≡ call_by s.controllers k → can_move v s (ByNumber k) ≡ true
    of None e = let bad : false ≡ true = controller-cannot u s k e ∙ can in cc
    of (Some c) e = sym (controller-can v s k c e) ∙ controller-can u s k c e ∙ can

abbrev clock-of : SeatsState → ℕ
clock-of s = s.kernel.state.system.clock

clock-by : (until : ℕ) (s : SeatsState) (early waits sleeps : Bool) → nat_lt (clock-of s) clock_limit ≡ early
    → nat_lt (clock-of s) until ≡ waits → some_sleeper s.kernel.state.system ≡ sleeps
    → (early && ((waits || sleeps) || list_any (awaits_clock (clock-of s)) s.controllers)) ≡ can_move until s Clock
unfolding can_move world_of can_act kernel_of is_clock_awaited
clock-by until s early waits sleeps a b c =
    ap (λ (x : Bool). x && ((waits || sleeps) || list_any (awaits_clock (clock-of s)) s.controllers)) (sym a)
    ∙ ap (λ (x : Bool). nat_lt (clock-of s) clock_limit &&
    ((x || sleeps) || list_any (awaits_clock (clock-of s)) s.controllers)) (sym b)
    ∙ ap (λ (x : Bool). nat_lt (clock-of s) clock_limit &&
    ((nat_lt (clock-of s) until || x) || list_any (awaits_clock (clock-of s)) s.controllers)) (sym c)

pub clock-late : (until : ℕ) (s : SeatsState) → clock_limit ≤ s.kernel.state.system.clock
    → false ≡ can_move until s Clock
clock-late until s late = clock-by until s false _ _ (le-ltb _ _ late) refl refl

pub clock-waited : (until : ℕ) (s : SeatsState) → s.kernel.state.system.clock < clock_limit
    → s.kernel.state.system.clock < until → true ≡ can_move until s Clock
clock-waited until s early waits = clock-by until s true true _ (lt-ltb _ _ early) (lt-ltb _ _ waits) refl

-- where the outside does not wait for it, it goes on for a sleeper or a controller
pub clock-slept : (until : ℕ) (s : SeatsState) → s.kernel.state.system.clock < clock_limit
    → until ≤ s.kernel.state.system.clock → some_sleeper s.kernel.state.system ≡ true → true ≡ can_move until s Clock
clock-slept until s early past sleeps = clock-by until s true false true (lt-ltb _ _ early) (le-ltb _ _ past) sleeps

pub clock-awaited : (until : ℕ) (s : SeatsState) (some : Bool) → s.kernel.state.system.clock < clock_limit
    → until ≤ s.kernel.state.system.clock → some_sleeper s.kernel.state.system ≡ false
    → some ≡ list_any (awaits_clock s.kernel.state.system.clock) s.controllers → some ≡ can_move until s Clock
clock-awaited until s some early past sleeps is = is
    ∙ clock-by until s true false false (lt-ltb _ _ early) (le-ltb _ _ past) sleeps

-- ---- the first controller that can move

-- the first number from one on whose controller can
abbrev pub left_from : ℕ → SeatsState → ℕ → Option ℕ
left_from until s k = find (controller_acts (world_of until s))
    (range_with_len k (length (world_of until s).controllers - k))

pub left-on : (until : ℕ) (s : SeatsState) (k : ℕ) → k < length s.controllers → false ≡ can_move until s (ByNumber k)
    → left_from until s k ≡ left_from until s (k + 1)
unfolding world_of can_move controller_acts
left-on until s k within cannot = search-on (controller_acts (world_of until s)) k (length s.controllers) within
    (sym cannot)

pub left-here : (until : ℕ) (s : SeatsState) (k : ℕ) → k < length s.controllers → true ≡ can_move until s (ByNumber k)
    → left_from until s k ≡ Some k
unfolding world_of can_move controller_acts
left-here until s k within can = search-here (controller_acts (world_of until s)) k (length s.controllers) within
    (sym can)

pub left-end : (until : ℕ) (s : SeatsState) (k : ℕ) → length s.controllers ≤ k → left_from until s k ≡ None
unfolding world_of
left-end until s k past = search-end (controller_acts (world_of until s)) k (length s.controllers) past

pub first-left : (until : ℕ) (s : SeatsState) (from : ℕ)
    → first_controller (world_of until s) from ≡ option_map ByNumber (left_from until s from)
unfolding first_controller
first-left until s from = refl

pub ruleset asked = (controller-can, controller-cannot)

pub ruleset lwps = (lwp-can)

pub ruleset clocks = (clock-late, clock-waited, clock-slept, clock-awaited)
