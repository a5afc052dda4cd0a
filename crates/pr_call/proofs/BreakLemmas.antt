use Rattle.std.proofs.Common.{◌≡◌, ◌<◌, ◌≤◌, ℕ, true, false, Some, Ok, [], ◌∷◌, refl, sym, ap, ◌∙◌, arith}
use Rattle.std.specs.List.{All}
use Rattle.std.proofs.lemmas.Bool.{le-leb, le-ltb, lt-leb, lt-ltb}
use Rattle.std.proofs.lemmas.Option.{same_Some}
use Rattle.pr_num.specs.Layout.{break_limit, heap_base}
use Rattle.pr_num.specs.ById.{put_under, under}
use Rattle.pr_num.specs.Spaces.{Space, mapped_size, mapping_limit}
use Rattle.pr_num.specs.declared.errnos.Errno.{Errno}
use Rattle.pr_num.specs.declared.errnos.Errno.TheVariants.{Inval, Nomem}
use Rattle.pr_num.proofs.ByIdLaws.{All-under}
use Rattle.pr_parts.specs.AddressSpaces.{LeavesHeapPlace, with_break}
use Rattle.pr_model.specs.Changes.{fails, gives, space_is}
use Rattle.pr_model.specs.Lawful.{IsLawfulProcess, IsLawfulSystem}
use Rattle.pr_model.specs.MemoryCalls.{brk_effect}
use Rattle.pr_model.specs.Readers.{size_of, total_has_room}
use Rattle.pr_model.specs.State.{TracedLwp, TracedProcess, TracedSystem, live_process}
use Rattle.pr_call.proofs.MemoryLemmas.{space-done}
use Rattle.pr_call.proofs.ProgramLemmas.{after-fails}
use Rattle.pr_call.specs.Breaks.{CanStand}
use Rattle.pr_call.specs.Effects.{after_effect}
use Rattle.pr_model.proofs.StateLemmas.{live_process-found}

-- Where brk moves the break.

module _ (s : TracedSystem) (p : TracedProcess) (end : ℕ) where
  pub break-low : end < heap_base → fails Inval ≡ brk_effect s p end
  unfolding brk_effect
  break-low low = rw (lt-ltb end heap_base low) refl

  pub break-high : break_limit < end → fails Inval ≡ brk_effect s p end
  unfolding brk_effect
  break-high high = rw (le-ltb end heap_base (omega arith), lt-ltb break_limit end high) refl

  module _ (size : ℕ) (is : size ≡ mapped_size (with_break end p.space)) (least : heap_base ≤ end)
      (most : end ≤ break_limit) where
    pub break-big : mapping_limit < size → fails Nomem ≡ brk_effect s p end
    unfolding brk_effect
    break-big big =
        rw (le-ltb end heap_base least, le-ltb break_limit end most, sym is, lt-leb size mapping_limit big) refl

    pub break-full : total_has_room s size (size_of p) ≡ false → size ≤ mapping_limit → fails Nomem ≡ brk_effect s p end
    unfolding brk_effect
    break-full full within =
        rw (le-ltb end heap_base least, le-ltb break_limit end most, sym is, le-leb size mapping_limit within, full)
        refl

    pub break-fits : total_has_room s size (size_of p) ≡ true → size ≤ mapping_limit
        → gives 0 (space_is (with_break end p.space) ∷ []) ≡ brk_effect s p end
    unfolding brk_effect
    break-fits room within =
        rw (le-ltb end heap_base least, le-ltb break_limit end most, sym is, le-leb size mapping_limit within, room)
        refl

pub can-stand : (space : Space) (end size : ℕ) → size ≡ mapped_size (with_break end space) → heap_base ≤ end
    → end ≤ break_limit → size ≤ mapping_limit → CanStand space end
can-stand space end size is least most within =
    record { least = least; most = most; room = rw (sym is, le-leb size mapping_limit within) refl }

pub ruleset break_laws = (break-low, break-high, break-big, break-full, break-fits, can-stand)

-- ---- the system

-- nothing but the heap is mapped where the heap can be
pub heap-placed : (s : TracedSystem) (pid : ℕ) (q : TracedProcess) → IsLawfulSystem s → under pid s.processes ≡ Some q
    → All LeavesHeapPlace q.space
heap-placed s pid q lawful there = (All-under IsLawfulProcess pid q s.processes lawful.processes there).heap_place

-- the call in the process that was found, which is the live one
module _ (s : TracedSystem) (pid : ℕ) (q p : TracedProcess) (end id : ℕ) (l : TracedLwp)
    (there : live_process s pid ≡ Some q) (found : live_process s pid ≡ Some p) where
  live-same : brk_effect s q end ≡ brk_effect s p end
  live-same = ap (λ (x : TracedProcess). brk_effect s x end) (same_Some q p (sym there ∙ found))

  pub break-kept : (e : Errno) → fails e ≡ brk_effect s q end → s ≡ after_effect pid p id l (brk_effect s p end) s
  break-kept e effect = after-fails s pid p id l e (brk_effect s p end) (effect ∙ live-same)

  pub break-made : (r : TracedProcess) (new : Space) → under pid s.processes ≡ Some r
      → gives 0 (space_is (with_break end q.space) ∷ []) ≡ brk_effect s q end → new ≡ with_break end r.space
      → record s { processes = put_under pid (record r { space = new }) s.processes }
      ≡ after_effect pid p id l (brk_effect s p end) s
  break-made r new stands effect now =
      let same : r ≡ q = same_Some r q (sym stands ∙ live_process-found s pid q there) in
      space-done s pid r p new (Ok 0) (brk_effect s p end) id l stands found
      (λ _. ap (λ (m : Space). gives 0 (space_is m ∷ []))
      (now ∙ ap (λ (x : TracedProcess). with_break end x.space) same) ∙ (effect ∙ live-same))
      tt
