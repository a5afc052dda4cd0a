use Rattle.std.proofs.Common.{◌≡◌, ℕ, zero, suc, ◌-◌, Bool, true, false, not, eqb, ltb, get_or, set, replicate, cond, length, Option, Some, None, List, [], ◌∷◌, ◌++◌, refl, arith}
use Rattle.std.specs.List.{All, filter, find}
use Rattle.std.specs.Option.{option_map, unwrap_or}
use Rattle.pr_num.specs.KeyedTables.{without_first}
use Rattle.std.proofs.lemmas.Bool.{ltb-true}
use Rattle.std.proofs.lemmas.List.{length-append}
use Rattle.std.proofs.lemmas.List.Filters.{length-filter_both}
use Rattle.std.proofs.lemmas.List.Elements.{All-nil, All-cons, All-head, All-tail, All-append, All-set}
use Rattle.pr_num.proofs.TableLaws.{All-without_first}
use Rattle.pr_parts.proofs.ByAddressLemmas.{length-without_first}
use Rattle.pr_num.specs.Infos.{fault_code, no_info, of_fault}
use Rattle.pr_num.specs.Limits.{queue_limit, standard_signal_count}
use Rattle.pr_num.specs.Sets.{has_number}
use Rattle.pr_num.specs.Signals.{signal_number}
use Rattle.pr_num.specs.declared.infos.Info.{Info}
use Rattle.pr_num.specs.declared.signals.Sig.{Sig}
use Rattle.pr_parts.specs.PendingSignals.{Pending, has_room, is_of, is_standard, nothing_pending, info_of, kept_info, added, without_one, without_infos, without_signals}
use Rattle.pr_parts.specs.declared.signals.Queued.{Queued}
use Rattle.pr_rec.specs.InRange.{IsInfo}
use Rattle.pr_model.specs.Lawful.{IsLawfulPending, IsInfoIf, IsLawfulQueued}
use Rattle.pr_model.specs.Signals.{current_of}

-- What comes with signals can stand in records, and no more are queued than can be, however signals become pending and
-- are taken.

-- ---- lists

all-at_or : {X : Type 0} (P : X → Type 0) (d : X) → P d → (xs : List X) (i : ℕ) → All P xs → P (get_or xs i d)
all-at_or P d here [] i all = here
all-at_or P d here (x ∷ xs) zero all = All-head P x xs all
all-at_or P d here (x ∷ xs) (suc i) all = all-at_or P d here xs i (All-tail P x xs all)

all-replicate : {X : Type 0} (P : X → Type 0) (x : X) → P x → (n : ℕ) → All P (replicate n x)
all-replicate P x here zero = All-nil P
all-replicate P x here (suc n) = All-cons P x (replicate n x) here (all-replicate P x here n)

all-filter : {X : Type 0} (P : X → Type 0) (q : X → Bool) (xs : List X) → All P xs → All P (filter q xs)
all-filter P q [] all = all
all-filter P q (x ∷ xs) all =
    elim (q x) as
    (λ b. All P (cond b (x ∷ filter q xs) (filter q xs))) [
      | true ↦ All-cons P x (filter q xs) (All-head P x xs all)
          (all-filter P q xs (All-tail P x xs all))
      | false ↦ all-filter P q xs (All-tail P x xs all)
    ]

-- ---- what is pending

pub no-infos : IsLawfulPending nothing_pending
no-infos = record {
  few_queued = omega arith;
  standard = all-replicate IsInfoIf None tt standard_signal_count;
  queued = All-nil IsLawfulQueued;
}

kept-info : (o : Option Info) (info : Info) → IsInfoIf o → IsInfo info → IsInfo (kept_info o info)
kept-info None info old new = new
kept-info (Some standing) info old new =
    elim (eqb info.code fault_code) as (λ b. IsInfo (cond b info standing)) [ true ↦ new | false ↦ old ]

pub added-infos : (g : Sig) (info : Info) (p : Pending) → IsInfo info → has_room g p ≡ true → IsLawfulPending p
    → IsLawfulPending (added g info p)
unfolding added has_room
added-infos g info p new room h =
    let place = signal_number g - 1 in
    elim (is_standard g) as
    (λ b. cond b true (ltb (length p.queued) queue_limit) ≡ true → IsLawfulPending
    (cond b (record p {
      standard = set p.standard place
          (Some (kept_info (get_or p.standard place None) info));
    }) (record p {
      queued =
          p.queued ++ record { signal = g; info = info } ∷ [];
    }))) [
      | true ↦ λ any. record {
        few_queued = h.few_queued;
        standard =
            All-set IsInfoIf p.standard place (Some (kept_info (get_or p.standard place None) info))
            (kept-info (get_or p.standard place None) info
            (all-at_or IsInfoIf None tt p.standard place h.standard) new) h.standard;
        queued = h.queued;
      }
      | false ↦ λ below. record {
        few_queued =
            let fewer = ltb-true (length p.queued) queue_limit below in
            let more = length-append p.queued (record { signal = g; info = info } ∷ []) in
            omega arith;
        standard = h.standard;
        queued =
            All-append IsLawfulQueued p.queued (record { signal = g; info = info } ∷ []) h.queued
            (All-cons IsLawfulQueued (record { signal = g; info = info }) [] new (All-nil IsLawfulQueued));
      }
    ] room

pub taken-infos : (g : Sig) (p : Pending) → IsLawfulPending p → IsLawfulPending (without_one g p)
unfolding without_one
taken-infos g p h =
    elim (is_standard g) as
    (λ b. IsLawfulPending
    (cond b (record p { standard = set p.standard (signal_number g - 1) None })
    (record p { queued = without_first (is_of g) p.queued }))) [
      | true ↦ record {
        few_queued = h.few_queued;
        standard = All-set IsInfoIf p.standard (signal_number g - 1) None tt h.standard;
        queued = h.queued;
      }
      | false ↦ record {
        few_queued = let few = h.few_queued in let fewer = length-without_first (is_of g) p.queued in omega arith;
        standard = h.standard;
        queued = All-without_first IsLawfulQueued (is_of g) p.queued h.queued;
      }
    ]

left-infos : (signals number : ℕ) (os : List (Option Info)) → All IsInfoIf os
    → All IsInfoIf (without_infos signals number os)
left-infos signals number [] all = all
left-infos signals number (o ∷ os) all =
    All-cons IsInfoIf (cond (has_number signals number) None o) (without_infos signals (suc number) os)
    (elim (has_number signals number) as
    (λ b. IsInfoIf (cond b None o)) [ true ↦ tt | false ↦ All-head IsInfoIf o os all ])
    (left-infos signals (suc number) os (All-tail IsInfoIf o os all))

pub deleted-infos : (signals : ℕ) (p : Pending) → IsLawfulPending p → IsLawfulPending (without_signals signals p)
unfolding without_signals
deleted-infos signals p h = record {
  few_queued =
      let stays : Queued → Bool = λ q. not (has_number signals (signal_number q.signal)) in
      let parts = length-filter_both stays (λ q. not (stays q)) (λ q. refl) p.queued in
      let few = h.few_queued in
      omega arith;
  standard = left-infos signals 1 p.standard h.standard;
  queued = all-filter IsLawfulQueued (λ q. not (has_number signals (signal_number q.signal))) p.queued h.queued;
}

-- ---- what is taken

found-info : (g : Sig) (qs : List Queued) → All IsLawfulQueued qs
    → IsInfoIf (option_map (λ q. q.info) (find (is_of g) qs))
found-info g [] all = tt
found-info g (q ∷ qs) all =
    elim (is_of g q) as
    (λ b. IsInfoIf
    (option_map (λ r. r.info)
    (cond b (Some q)
    (find (is_of g) qs)))) [
      | true ↦ All-head IsLawfulQueued q qs all
      | false ↦ found-info g qs
          (All-tail IsLawfulQueued q qs all)
    ]

info_of-infos : (g : Sig) (p : Pending) → IsLawfulPending p → IsInfoIf (info_of g p)
unfolding info_of
info_of-infos g p h =
    elim (is_standard g) as
    (λ b. IsInfoIf
    (cond b (get_or p.standard (signal_number g - 1) None)
    (option_map (λ q. q.info) (find (is_of g) p.queued)))) [
      | true ↦ all-at_or IsInfoIf None tt p.standard
          (signal_number g - 1) h.standard
      | false ↦ found-info g p.queued h.queued
    ]

pub current-info : (g : Sig) (p : Pending) → IsLawfulPending p → IsInfo (current_of g p).info
current-info g p h = by (info_of g p) (info_of-infos g p h)
  where
    by : (o : Option Info) → IsInfoIf o → IsInfo (unwrap_or o no_info)
    by None is = record { code = omega arith; pid = omega arith }
    by (Some info) is = is

pub fault-info : (address : ℕ) → IsInfo (of_fault address)
fault-info address = record { code = omega arith; pid = omega arith }
