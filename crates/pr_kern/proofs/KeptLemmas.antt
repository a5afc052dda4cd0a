use Rattle.std.proofs.Common.{◌≡◌, ℕ, ◌+◌, ◌<◌, ◌≤◌, ◌^◌, List, [], ◌∷◌, ◌++◌, length, sym, ◌∙◌, ap, subst, arith, length-append}
use Rattle.pr_model.specs.HistoryViews.{HistoryView}
use Rattle.pr_model.specs.Lawful.{IsLawful}
use Rattle.pr_model.specs.Legal.{ticked}
use Rattle.pr_model.specs.State.{TracedState, TracedSystem}
use Rattle.pr_model.specs.declared.events.Entry.{Entry}
use Rattle.pr_proc.proofs.CountLemmas.{AllUsedAtMost-more}
use Rattle.pr_proc.specs.Counts.{AllUsedAtMost}
use Rattle.pr_kern.specs.Soundness.{IsSound, HasRoom, IsSoundKernel, IsReadyKernel}
use Rattle.pr_ready.proofs.QueueLemmas.{queue-is}
use Rattle.pr_ready.specs.Queues.{AreReady}
use Rattle.pr_ready.specs.Ready.{ReadySets}

-- What the kernel keeps while its history grows.

longer : (h h' : List Entry) (e : Entry) → h' ≡ h ++ e ∷ [] → length h' ≡ length h + 1
longer h h' e grown = ap length grown ∙ length-append h (e ∷ [])

-- a history that had a place has one entry more, and its room is one less
pub kept-push : (s : TracedState) (h h' : HistoryView) (places : ℕ) (e : Entry) → h'.entries ≡ h.entries ++ e ∷ []
    → h'.room + 1 ≡ h.room → length h.entries < places → HasRoom h places → IsSound (length h.entries + 1) s.system
    → IsLawful s → IsSoundKernel s h' places
kept-push s h h' places e grown used place room sound lawful =
    let n : length h'.entries ≡ length h.entries + 1 = longer h.entries h'.entries e grown in
    record {
      sound = subst (λ k. IsSound k s.system) (sym n) sound;
      lawful = lawful;
      room = record {
        within = omega (arith, n, place);
        room = omega (arith, n, used, place, room.room);
        fits = room.fits;
      };
    }

-- a history that begins, with its places reserved
pub kept-start : (s : TracedState) (h : HistoryView) (places : ℕ) → h.entries ≡ [] → places ≤ h.room → places < 2 ^ 32
    → IsSound 0 s.system → IsLawful s → IsSoundKernel s h places
kept-start s h places none reserved fits sound lawful =
    let n : length h.entries ≡ 0 = ap length none in
    record {
      sound = subst (λ k. IsSound k s.system) (sym n) sound;
      lawful = lawful;
      room = record { within = omega (arith, n); room = omega (arith, n, reserved); fits = fits };
    }

-- so its sets give a queue
pub kept-ready : (s : TracedState) (h : HistoryView) (places : ℕ) (ready : ReadySets) → IsSoundKernel s h places
    → AreReady s.system ready → IsReadyKernel s h places ready
kept-ready s h places ready kept looks =
    record { kept = kept; looks = looks; queue = queue-is _ _ kept.lawful.system looks }

-- a turn is one step more: it leaves the clock, and adds at most 1 to each count
pub turned-sound : (n : ℕ) (s e : TracedSystem) → IsSound n s → e.clock ≡ s.clock → AllUsedAtMost (n + 1) e
    → IsSound (n + 1) e
turned-sound n s e sound same used = record { clock = omega (arith, sound.clock, same); counts = used }

-- a millisecond more is one step more
pub ticked-sound : (n : ℕ) (s : TracedSystem) → IsSound n s → IsSound (n + 1) (ticked s)
ticked-sound n s sound =
    record {
      clock = omega (arith, sound.clock);
      counts = AllUsedAtMost-more n (n + 1) (ticked s) (omega arith) (record { each = sound.counts.each });
    }
