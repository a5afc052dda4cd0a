use Rattle.std.proofs.Common.{◌≡◌, ℕ, ◌+◌, ◌<◌, ◌≤◌, ◌++◌, List, [], ◌∷◌, Some, None, All, length, map, drop, take, sym, ap, subst, ◌∙◌, arith}
use Rattle.std.specs.List.{slice_get, slice_index_or, slice_set}
use Rattle.std.specs.Option.{option_map}
use Rattle.std.proofs.Math.Seq.{map-set_same}
use Rattle.std.proofs.lemmas.List.{length-map, map-set, take_all, take_more_set}
use Rattle.std.proofs.lemmas.List.Elements.{All-append, All-cons, All-get_or, All-nil}
use Rattle.std.proofs.lemmas.Option.{slice_get-map, slice_get-get_or, slice_get_past}
use Rattle.pr_num.proofs.ListLemmas.{drop-at}
use Rattle.pr_world.specs.Callers.{CallerState, IsMade, core_in}

-- The cores of callers, of which one is asked or moves.

pub cores-length : (callers : List CallerState) → length (map core_in callers) ≡ length callers
cores-length callers = length-map callers core_in

-- the core of the caller at a place
pub core-at : (callers : List CallerState) (k : ℕ) (x : CallerState) → k < length callers
    → x ≡ slice_index_or callers k x → slice_get (map core_in callers) k ≡ Some x.core
unfolding core_in
core-at callers k x within at =
    slice_get-map core_in callers k ∙ ap (option_map core_in) (slice_get-get_or callers k x within)
    ∙ ap (λ (y : CallerState). Some y.core) (sym at)

-- the cores from a place on: that of the caller there, and those behind it
pub core-next : (callers : List CallerState) (k : ℕ) (x : CallerState) → k < length callers
    → x ≡ slice_index_or callers k x → drop k (map core_in callers) ≡ x.core ∷ drop (k + 1) (map core_in callers)
core-next callers k x within at = drop-at (map core_in callers) k x.core (core-at callers k x within at)

pub core-past : (callers : List CallerState) (k : ℕ) → length callers ≤ k → slice_get (map core_in callers) k ≡ None
core-past callers k past = slice_get_past (map core_in callers) k (omega (arith, cores-length callers))

-- a caller whose core stays: all cores are as they were
pub cores-same : (callers : List CallerState) (k : ℕ) (x y : CallerState) → x ≡ slice_index_or callers k x
    → y.core ≡ x.core → map core_in (slice_set callers k y) ≡ map core_in callers
unfolding core_in
cores-same callers k x y at same = map-set_same core_in callers k y x (same ∙ ap core_in at)

-- a caller whose core changes
pub cores-set : (callers : List CallerState) (k : ℕ) (y : CallerState)
    → map core_in (slice_set callers k y) ≡ slice_set (map core_in callers) k y.core
unfolding core_in
cores-set callers k y = map-set core_in callers k y

-- where the calls of all were made, that of the caller at a place was
pub made-at : (callers : List CallerState) (k : ℕ) (x : CallerState) → All IsMade callers → k < length callers
    → x ≡ slice_index_or callers k x → IsMade x
made-at callers k x all within at = subst IsMade (sym at) (All-get_or IsMade callers k x within all)

pub ruleset cores = (core-at, core-past, core-next, cores-same, cores-length, made-at)

-- ---- calls are made one after another

pub made-none : (callers : List CallerState) → All IsMade (take 0 callers)
made-none callers = All-nil IsMade

pub made-next : (callers : List CallerState) (k : ℕ) (y : CallerState) → k < length callers
    → All IsMade (take k callers) → IsMade y → All IsMade (take (k + 1) (slice_set callers k y))
made-next callers k y within all made =
    subst (All IsMade) (sym (take_more_set callers k y within))
    (All-append IsMade (take k callers) (y ∷ []) all (All-cons IsMade y [] made (All-nil IsMade)))

pub made-all : (callers : List CallerState) (k : ℕ) → length callers ≤ k → All IsMade (take k callers)
    → All IsMade callers
made-all callers k past all = subst (All IsMade) (take_all k callers past) all

pub ruleset calls = (made-none, made-next, made-all, cores-same)
