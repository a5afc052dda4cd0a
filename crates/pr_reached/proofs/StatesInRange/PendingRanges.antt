use Rattle.std.proofs.Common.{ℕ, zero, suc, ◌-◌, ◌==◌, not, get_or, cond, Option, Some, None, List, [], ◌∷◌, arith}
use Rattle.std.specs.List.{All, find}
use Rattle.std.specs.Option.{option_map, unwrap_or}
use Rattle.std.proofs.lemmas.List.Elements.{All-nil, All-cons, All-head, All-tail, All-append, All-filter, All-replicate, All-set}
use Rattle.pr_num.proofs.TableLaws.{All-without_first}
use Rattle.pr_num.specs.Infos.{fault_code, no_info}
use Rattle.pr_num.specs.Limits.{standard_signal_count}
use Rattle.pr_num.specs.Sets.{has_number}
use Rattle.pr_num.specs.Signals.{signal_number}
use Rattle.pr_num.specs.declared.infos.Info.{Info}
use Rattle.pr_num.specs.declared.signals.Sig.{Sig}
use Rattle.pr_parts.specs.PendingSignals.{Pending, is_of, is_standard, nothing_pending, info_of, kept_info, added, without_one, without_infos, without_signals, with_queued, with_standard}
use Rattle.pr_parts.specs.declared.signals.Queued.{Queued}
use Rattle.pr_lawful.proofs.ProcessParts.FileLemmas.{choice}
use Rattle.pr_model.specs.Signals.{current_of}
use Rattle.pr_reached.specs.InRange.{HasWord, HasWordIf, HasWordQueued, HaveWords}

-- The values that come with signals stay words, however signals become pending and are taken.

all-at_or : {X : Type 0} (P : X → Type 0) (d : X) → P d → (xs : List X) (i : ℕ) → All P xs → P (get_or xs i d)
all-at_or P d here [] i all = here
all-at_or P d here (x ∷ xs) zero all = All-head P x xs all
all-at_or P d here (x ∷ xs) (suc i) all = all-at_or P d here xs i (All-tail P x xs all)

-- ---- what is pending

pub nothing-words : HaveWords nothing_pending
nothing-words = record {
  standard = All-replicate HasWordIf standard_signal_count None tt;
  queued = All-nil HasWordQueued;
}

kept-word : (o : Option Info) (info : Info) → HasWordIf o → HasWord info → HasWord (kept_info o info)
kept-word None info old new = new
kept-word (Some standing) info old new =
    choice HasWord (info.code == fault_code) info standing (λ fault. new) (λ other. old)

pub added-words : (g : Sig) (info : Info) (p : Pending) → HasWord info → HaveWords p → HaveWords (added g info p)
unfolding added
added-words g info p new h =
    let place = signal_number g - 1 in
    choice HaveWords (is_standard g) (with_standard place info p) (with_queued g info p)
    (λ standard. record {
      standard =
          All-set HasWordIf p.standard place (Some (kept_info (get_or p.standard place None) info))
          (kept-word (get_or p.standard place None) info
          (all-at_or HasWordIf None tt p.standard place h.standard) new) h.standard;
      queued = h.queued;
    })
    (λ queues. record {
      standard = h.standard;
      queued =
          All-append HasWordQueued p.queued (record { signal = g; info = info } ∷ []) h.queued
          (All-cons HasWordQueued (record { signal = g; info = info }) [] new (All-nil HasWordQueued));
    })

pub taken-words : (g : Sig) (p : Pending) → HaveWords p → HaveWords (without_one g p)
unfolding without_one
taken-words g p h =
    choice HaveWords (is_standard g) _ _
    (λ standard. record {
      standard = All-set HasWordIf p.standard (signal_number g - 1) None tt h.standard;
      queued = h.queued;
    })
    (λ queues. record { standard = h.standard; queued = All-without_first HasWordQueued (is_of g) p.queued h.queued })

left-words : (signals number : ℕ) (os : List (Option Info)) → All HasWordIf os
    → All HasWordIf (without_infos signals number os)
left-words signals number [] all = all
left-words signals number (o ∷ os) all =
    All-cons HasWordIf (cond (has_number signals number) None o) (without_infos signals (suc number) os)
    (choice HasWordIf (has_number signals number) None o (λ gone. tt) (λ stays. All-head HasWordIf o os all))
    (left-words signals (suc number) os (All-tail HasWordIf o os all))

pub deleted-words : (signals : ℕ) (p : Pending) → HaveWords p → HaveWords (without_signals signals p)
unfolding without_signals
deleted-words signals p h = record {
  standard = left-words signals 1 p.standard h.standard;
  queued = All-filter (λ q. not (has_number signals (signal_number q.signal))) HasWordQueued p.queued h.queued;
}

-- ---- what is taken

found-word : (g : Sig) (qs : List Queued) → All HasWordQueued qs
    → HasWordIf (option_map (λ q. q.info) (find (is_of g) qs))
found-word g [] all = tt
found-word g (q ∷ qs) all =
    choice (λ (o : Option Queued). HasWordIf (option_map (λ r. r.info) o)) (is_of g q) (Some q) (find (is_of g) qs)
    (λ here. All-head HasWordQueued q qs all) (λ there. found-word g qs (All-tail HasWordQueued q qs all))

info_of-word : (g : Sig) (p : Pending) → HaveWords p → HasWordIf (info_of g p)
unfolding info_of
info_of-word g p h =
    choice HasWordIf (is_standard g) _ _
    (λ standard. all-at_or HasWordIf None tt p.standard (signal_number g - 1) h.standard)
    (λ queues. found-word g p.queued h.queued)

pub current-word : (g : Sig) (p : Pending) → HaveWords p → HasWord (current_of g p).info
current-word g p h = by (info_of g p) (info_of-word g p h)
  where
    by : (o : Option Info) → HasWordIf o → HasWord (unwrap_or o no_info)
    by None is = omega arith
    by (Some info) is = is
