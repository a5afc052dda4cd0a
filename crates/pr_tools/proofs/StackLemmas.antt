-- The lwps of a process one by one, and the first stack that has a frame.
use Rattle.std.proofs.Common.{◌≡◌, ◌<◌, ◌≤◌, ◌-◌, ◌+◌, ◌/◌, ℕ, zero, suc, true, false, eqb, cond, ◌&&◌, List, length, drop, None, Some, refl, sym, ap, ◌∙◌, arith}
use Rattle.std.proofs.Math.Dec.{eqb-suc-zero}
use Rattle.pr_num.specs.Records.{lwpstatus_ranges, lwpstatus_size}
use Rattle.pr_rec.specs.Reading.{record_read}
use Rattle.pr_tools.specs.Stacks.{all_stand, stands_in, frame_pointer, walk_from, walk_among, walk_in}
use Rattle.pr_tools.specs.declared.stacks.Walk.{Walk}

-- the first lwp and those after it
pub all_stand-step : (n : ℕ) (bytes : List ℕ) → 0 < n
    → all_stand n bytes
    ≡ (stands_in (record_read lwpstatus_ranges bytes) && all_stand (n - 1) (drop lwpstatus_size bytes))
unfolding all_stand
all_stand-step zero bytes some = absurd (omega arith)
all_stand-step (suc n) bytes some =
    let less : n ≡ suc n - 1 = omega arith in
    ap (λ (k : ℕ). stands_in (record_read lwpstatus_ranges bytes) && all_stand k (drop lwpstatus_size bytes)) less

pub all_stand-none : (bytes : List ℕ) → all_stand 0 bytes ≡ true
unfolding all_stand
all_stand-none bytes = refl

-- the first lwp of those whose status begins at a byte or later
pub walk_in-step : (bytes : List ℕ) (at : ℕ) → lwpstatus_size ≤ length bytes - at
    → walk_in bytes at
    ≡ cond (eqb (frame_pointer bytes at) 0) (walk_in bytes (at + lwpstatus_size)) (Some (walk_from bytes at))
unfolding walk_in walk_among
walk_in-step bytes at some =
    let places : (length bytes - at) / lwpstatus_size ≡ suc ((length bytes - (at + lwpstatus_size)) / lwpstatus_size) =
    omega arith in
    ap (λ (k : ℕ). walk_among k bytes at) places

pub walk_in-none : (bytes : List ℕ) (at : ℕ) → length bytes - at < lwpstatus_size → walk_in bytes at ≡ None
unfolding walk_in walk_among
walk_in-none bytes at few =
    let places : (length bytes - at) / lwpstatus_size ≡ 0 = omega arith in
    ap (λ (k : ℕ). walk_among k bytes at) places

-- an lwp that does not stand, and one that does
pub all_stand-not : (n : ℕ) (bytes : List ℕ) → 0 < n → stands_in (record_read lwpstatus_ranges bytes) ≡ false
    → all_stand n bytes ≡ false
all_stand-not n bytes some runs =
    all_stand-step n bytes some ∙ ap (λ b. b && all_stand (n - 1) (drop lwpstatus_size bytes)) runs

pub all_stand-on : (n : ℕ) (bytes : List ℕ) → 0 < n → stands_in (record_read lwpstatus_ranges bytes) ≡ true
    → all_stand n bytes ≡ all_stand (n - 1) (drop lwpstatus_size bytes)
all_stand-on n bytes some still =
    all_stand-step n bytes some ∙ ap (λ b. b && all_stand (n - 1) (drop lwpstatus_size bytes)) still

not-zero : (n : ℕ) → (n ≡ 0 → ⊥) → eqb n 0 ≡ false
not-zero zero some = absurd (some refl)
not-zero (suc n) some = eqb-suc-zero n

-- the first stack has a frame
pub walk_in-here : (bytes : List ℕ) (at : ℕ) (walk : Walk) → lwpstatus_size ≤ length bytes - at
    → walk ≡ walk_from bytes at → (walk.frame ≡ 0 → ⊥) → walk_in bytes at ≡ Some walk
walk_in-here bytes at walk some same frame =
    let pointer : walk.frame ≡ frame_pointer bytes at = ap (λ (w : Walk). w.frame) same in
    let there : eqb (frame_pointer bytes at) 0 ≡ false =
    not-zero (frame_pointer bytes at) (λ none. frame (pointer ∙ none)) in
    walk_in-step bytes at some
    ∙ ap (λ b. cond b (walk_in bytes (at + lwpstatus_size)) (Some (walk_from bytes at))) there ∙ ap Some (sym same)

pub ruleset walks = (walk_in-step, walk_in-none)
