use Rattle.std.proofs.Common.{◌≡◌, ◌≢◌, ◌≤◌, ◌+◌, ℕ, true, false, leb, Bool, Option, Some, None, Ok, [], ◌∷◌, length, refl, sym, ap, ◌∙◌, arith}
use Rattle.std.proofs.lemmas.Bool.{and_parts, or_parts, eqb-false, ltb-false}
use Rattle.std.proofs.lemmas.List.{length-replicate}
use Rattle.std.proofs.lemmas.Option.{same_Some}
use Rattle.pr_num.specs.ById.{put_under, under}
use Rattle.pr_num.specs.Programs.{rounded}
use Rattle.pr_num.specs.Spaces.{Space, mapped_size, mapping_limit}
use Rattle.pr_num.specs.declared.errnos.Errno.{Errno}
use Rattle.pr_num.specs.declared.errnos.Errno.TheVariants.{Inval, Nomem}
use Rattle.pr_num.specs.declared.mappings.MappingKind.TheVariants.{Mapped}
use Rattle.pr_parts.proofs.SpaceLemmas.{mapped_size-with_mapping}
use Rattle.pr_parts.specs.AddressSpaces.{gap_in, with_mapping, zeros_at}
use Rattle.pr_mem.proofs.LawLemmas.{gap_in-least}
use Rattle.pr_model.specs.Changes.{all_changed, fails, gives, space_is}
use Rattle.pr_model.specs.MemoryCalls.{mmap_effect, prot_limit}
use Rattle.pr_model.specs.Readers.{size_of, total_has_room}
use Rattle.pr_model.specs.State.{TracedLwp, TracedProcess, TracedSystem, live_process}
use Rattle.pr_call.proofs.MemoryLemmas.{space-done}
use Rattle.pr_call.specs.Effects.{after_effect}
use Rattle.pr_call.specs.Maps.{CanMap, are_bad, can_grow}
use Rattle.pr_model.proofs.StateLemmas.{live_process-found}

-- Where mmap maps.

module _ (s : TracedSystem) (p : TracedProcess) (len prot : ℕ) where
  pub mmap-bad : are_bad len prot ≡ true → fails Inval ≡ mmap_effect s p len prot
  unfolding mmap_effect
  mmap-bad bad = rw bad refl

  -- what is so of a size is so of the length that it is, rounded up
  gap_of : (size : ℕ) (o : Option ℕ) → size ≡ rounded len → gap_in size p.space ≡ o → gap_in (rounded len) p.space ≡ o
  gap_of size o is e = ap (λ (n : ℕ). gap_in n p.space) (sym is) ∙ e

  room_of : (size : ℕ) (b : Bool) → size ≡ rounded len → can_grow s p size ≡ b → can_grow s p (rounded len) ≡ b
  room_of size b is e = ap (λ (n : ℕ). can_grow s p n) (sym is) ∙ e

  pub mmap-no_gap : (size : ℕ) → size ≡ rounded len → are_bad len prot ≡ false → gap_in size p.space ≡ None
      → fails Nomem ≡ mmap_effect s p len prot
  unfolding mmap_effect
  mmap-no_gap size is good none = rw (good, gap_of size None is none) refl

  module _ (at : ℕ) where
    whole : mapped_size (with_mapping (zeros_at at (rounded len) prot Mapped) p.space)
        ≡ mapped_size p.space + rounded len
    whole =
        let sum : mapped_size (with_mapping (zeros_at at (rounded len) prot Mapped) p.space)
        ≡ length (zeros_at at (rounded len) prot Mapped).bytes + mapped_size p.space =
        mapped_size-with_mapping (zeros_at at (rounded len) prot Mapped) p.space in
        let bytes : length (zeros_at at (rounded len) prot Mapped).bytes ≡ rounded len =
        length-replicate (rounded len) 0 in
        omega arith

    pub mmap-fits : (size : ℕ) → size ≡ rounded len → are_bad len prot ≡ false → gap_in size p.space ≡ Some at
        → can_grow s p size ≡ true
        → gives at (space_is (with_mapping (zeros_at at (rounded len) prot Mapped) p.space) ∷ [])
        ≡ mmap_effect s p len prot
    unfolding mmap_effect size_of
    mmap-fits size is good found room = rw (good, gap_of size (Some at) is found, whole, room_of size true is room) refl

    pub mmap-big : (size : ℕ) → size ≡ rounded len → are_bad len prot ≡ false → gap_in size p.space ≡ Some at
        → can_grow s p size ≡ false → fails Nomem ≡ mmap_effect s p len prot
    unfolding mmap_effect size_of
    mmap-big size is good found room = rw (good, gap_of size (Some at) is found, whole, room_of size false is room) refl

    pub mmap-can : (size : ℕ) → size ≡ rounded len → are_bad len prot ≡ false → gap_in size p.space ≡ Some at
        → can_grow s p size ≡ true → CanMap p.space len prot at
    unfolding size_of
    mmap-can size is good gapped grown =
        let found = gap_of size (Some at) is gapped in
        let room = room_of size true is grown in
        let parts = or_parts _ _ good in
        let others = or_parts _ _ parts.1 in
        let some : len ≢ 0 = eqb-false len 0 parts.0 in
        let short : len ≤ mapping_limit = ltb-false mapping_limit len others.0 in
        let within : prot ≤ prot_limit = ltb-false prot_limit prot others.1 in
        let gap = gap_in-least (rounded len) p.space at found in
        let place = gap.place in
        let high = place.high in
        let fits : leb (mapped_size p.space + rounded len) mapping_limit ≡ true =
        (and_parts (leb (mapped_size p.space + rounded len) mapping_limit)
        (total_has_room s (mapped_size p.space + rounded len) (mapped_size p.space)) room).0 in
        record {
          some = omega arith;
          short = omega arith;
          end = omega arith;
          prot = omega arith;
          free = rw (gap.free, fits) refl;
        }

pub good-short : (len prot : ℕ) → are_bad len prot ≡ false → len ≤ mapping_limit
good-short len prot good = ltb-false mapping_limit len (or_parts _ _ (or_parts _ _ good).1).0

pub ruleset mmap_laws = (mmap-bad, mmap-no_gap, mmap-fits, mmap-big, mmap-can, good-short)

-- ---- the system

module _ (s : TracedSystem) (pid : ℕ) (q p : TracedProcess) (len prot id : ℕ) (l : TracedLwp)
    (there : live_process s pid ≡ Some q) (found : live_process s pid ≡ Some p) where
  the_same : q ≡ p
  the_same = same_Some q p (sym there ∙ found)

  fails-kept : (e : Errno) → s ≡ after_effect pid p id l (fails e) s
  unfolding after_effect all_changed
  fails-kept e = refl

  pub mmap-kept : (e : Errno) → fails e ≡ mmap_effect s q len prot
      → s ≡ after_effect pid p id l (mmap_effect s p len prot) s
  mmap-kept e effect =
      fails-kept e
      ∙ ap (λ x. after_effect pid p id l x s) (effect ∙ ap (λ (x : TracedProcess). mmap_effect s x len prot) the_same)

  pub mmap-made : (at : ℕ) (r : TracedProcess) (new : Space) → under pid s.processes ≡ Some r
      → gives at (space_is (with_mapping (zeros_at at (rounded len) prot Mapped) q.space) ∷ [])
      ≡ mmap_effect s q len prot → new ≡ with_mapping (zeros_at at (rounded len) prot Mapped) r.space
      → record s { processes = put_under pid (record r { space = new }) s.processes }
      ≡ after_effect pid p id l (mmap_effect s p len prot) s
  mmap-made at r new stands effect now =
      let same : r ≡ q = same_Some r q (sym stands ∙ live_process-found s pid q there) in
      space-done s pid r p new (Ok at) (mmap_effect s p len prot) id l stands found
      (λ _. ap (λ (m : Space). gives at (space_is m ∷ []))
      (now ∙ ap (λ (x : TracedProcess). with_mapping (zeros_at at (rounded len) prot Mapped) x.space) same)
      ∙ (effect ∙ ap (λ (x : TracedProcess). mmap_effect s x len prot) the_same))
      tt
