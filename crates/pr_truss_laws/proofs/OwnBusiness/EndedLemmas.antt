use Rattle.std.proofs.Common.{◌≡◌, ◌<◌, ℕ, zero, suc, true, Option, Some, None, List, [], ◌∷◌, length, is_some, refl, sym, subst, ap, ◌∙◌, arith, inl, inr, ◌⊎◌}
use Rattle.std.proofs.lemmas.List.{length-set}
use Rattle.std.proofs.lemmas.Option.{none-some, same_Some}
use Rattle.std.specs.List.{cons_option, slice_get}
use Rattle.pr_line.specs.declared.options.Options.{Options}
use Rattle.pr_model.specs.declared.calls.Call.{Call}
use Rattle.pr_model.specs.declared.calls.Call.TheVariants as call
use Rattle.pr_model.specs.Replies.{number_of}
use Rattle.pr_truss.specs.Closings.{closed_or_removed}
use Rattle.pr_truss.specs.Feeding.{fed}
use Rattle.pr_truss.specs.NextCalls.{call_of, freeing_call, next_call_of}
use Rattle.pr_truss.specs.Processes.{last_handle, without_last}
use Rattle.pr_truss.specs.Trusses.{TrussState, first_truss, traced_at, with_stage, with_traced}
use Rattle.pr_truss.specs.declared.processes.Traced.{Traced}
use Rattle.pr_truss.specs.declared.stages.AfterClosing.{AfterClosing}
use Rattle.pr_truss.specs.declared.stages.FreeingStep.TheVariants as freeing
use Rattle.pr_truss.specs.declared.stages.Stage.TheVariants.{Closing, FreeingChild}
use Rattle.pr_truss_laws.proofs.Replies.ExchangeLemmas.{makes-rest}
use Rattle.pr_truss_laws.proofs.Files.HeldLemmas.{ClosesFirst, at_place, close-fed, closes-first, closes-next, set-at}
use Rattle.pr_truss_laws.proofs.OwnBusiness.WholeLemmas.{HasItsFiles, IsWhole, OwnStage, reached-files}
use Rattle.pr_truss_laws.proofs.Replies.GoneLemmas.{IsNamed, WhenGone, ended, frees, gone-closes, its_control, its_last, its_lstatus, its_memory, its_status, shuts}
use Rattle.pr_truss_laws.specs.Business.{CloseUntil, ClosesWhatEnded, IsAmong, goes_to}
use Rattle.pr_truss_laws.specs.Exchanges.{Exchange, Makes, truss_after}
use Rattle.pr_truss_laws.specs.Handles.{handles_of}

-- What has ended truss closes before it does anything else.

-- ---- the handles of a process

among-first : (h x : ℕ) (hs : List ℕ) → IsAmong h (x ∷ hs) → (x ≡ h) ⊎ IsAmong h hs
among-first h x hs a = by a.place a.is
  where
    by : (place : ℕ) → slice_get (x ∷ hs) place ≡ Some h → (x ≡ h) ⊎ IsAmong h hs
    by zero is = inl (same_Some x h is)
    by (suc i) is = inr (record { place = i; is = is })

among-more : (o : Option ℕ) (h : ℕ) (hs : List ℕ) → IsAmong h hs → IsAmong h (cons_option o hs)
among-more None h hs a = a
among-more (Some x) h hs a = record { place = suc a.place; is = a.is }

-- a file that is there
among-there : (o : Option ℕ) (h : ℕ) (hs : List ℕ) → is_some o ≡ true → number_of o ≡ h → IsAmong h (cons_option o hs)
among-there (Some x) h hs there is = record { place = 0; is = ap Some is }
among-there None h hs there is = cc

-- the file to which a call goes is among those of its process
named-among : (s : TrussState) (h place : ℕ) → OwnStage s.leaving s.traced s.stage → IsNamed s h place
    → IsAmong h (handles_of (traced_at s place))
named-among s h place own (its_control is) =
    let t : Traced = traced_at s place in
    among-more t.memory h _ (among-more t.lstatus h _
    (among-more t.status h _ (record { place = 0; is = ap Some is })))
named-among s h place own (its_status at is) =
    let t : Traced = traced_at s place in
    let w : IsWhole t = subst (OwnStage s.leaving s.traced) at own in
    among-more t.memory h _ (among-more t.lstatus h _ (among-there t.status h _ w.status is))
named-among s h place own (its_memory at is) =
    let t : Traced = traced_at s place in
    let w : IsWhole t = subst (OwnStage s.leaving s.traced) at own in
    among-there t.memory h _ w.memory is
named-among s h place own (its_lstatus at is) =
    let t : Traced = traced_at s place in
    let w : IsWhole t = subst (OwnStage s.leaving s.traced) at own in
    among-more t.memory h _ (among-there t.lstatus h _ w.lstatus is)
named-among s h place own (its_last at is) =
    let t : Traced = traced_at s 0 in
    let w : IsWhole t = subst (OwnStage s.leaving s.traced) at own in
    among-more t.memory h _ (among-there t.lstatus h _ w.lstatus is)

-- ---- closing

module _ (handle : ℕ) where
  closed-until : (s : TrussState) (place : ℕ) (next : AfterClosing) (t : Traced) (x : Exchange) (xs : List Exchange)
      → s.stage ≡ Closing place next → place < length s.traced → x.call ≡ call.Close (last_handle t)
      → ((u : TrussState) → u.stage ≡ Closing place next → place < length u.traced → IsAmong handle (handles_of
      (traced_at u place)) → Makes u xs → CloseUntil handle xs)
      → (left : Option Traced) → ClosesFirst t left → IsAmong handle (handles_of t)
      → Makes (closed_or_removed s place next left) xs → CloseUntil handle (x ∷ xs)
  closed-until s place next t x xs at within closes later None first among makes =
      elim (among-first handle (last_handle t) [] (subst (IsAmong handle) first among)) [
        | inl this ↦ inl (closes ∙ ap call.Close this)
        | inr other ↦ absurd (none-some handle other.is)
      ]
  closed-until s place next t x xs at within closes later (Some u) first among makes =
      elim (among-first handle (last_handle t) (handles_of u) (subst (IsAmong handle) first among)) [
        | inl this ↦ inl (closes ∙ ap call.Close this)
        | inr other ↦ inr (
          (last_handle t, closes),
          later (with_traced s place u) at (omega (arith, length-set s.traced place u, within))
              (subst (λ (v : Traced). IsAmong handle (handles_of v)) (sym (set-at s.traced place u within)) other)
              makes,
        )
      ]

  close-until : (xs : List Exchange) (s : TrussState) (place : ℕ) (next : AfterClosing) → s.stage ≡ Closing place next
      → place < length s.traced → IsAmong handle (handles_of (traced_at s place)) → Makes s xs → CloseUntil handle xs
  close-until [] s place next at within among makes = tt
  close-until (x ∷ xs) s place next at within among makes =
      let t : Traced = traced_at s place in
      closed-until s place next t x xs at within
      (same_Some x.call (call.Close (last_handle t)) (sym makes.0 ∙ closes-next s t place next at refl))
      (λ u. close-until xs u place next) (without_last t) (closes-first t) among
      (subst (λ u. Makes u xs) (close-fed s x.reply place next at) makes.1)

-- ---- the reply

module _ (s : TrussState) (handle : ℕ) (xs : List Exchange) (makes : Makes (fed s ended) xs) where
  freed-next : (u : TrussState) (ys : List Exchange) → next_call_of u ≡ Some (call.Close handle) → Makes u ys
      → CloseUntil handle ys
  freed-next u [] next made = tt
  freed-next u (y ∷ ys) next made = inl (same_Some y.call (call.Close handle) (sym made.0 ∙ next))

  next-ended : (c : Call) → HasItsFiles s → next_call_of s ≡ Some c → goes_to c ≡ Some handle → CloseUntil handle xs
  unfolding next_call_of call_of freeing_call
  next-ended c h is to = by (gone-closes s handle c h.fits is to)
    where
      by : WhenGone s handle → CloseUntil handle xs
      by (shuts place next within named alone at same) =
          close-until handle xs (fed s ended) place next at (subst (λ ts. place < length ts) (sym same) within)
          (subst (λ ts. IsAmong handle (handles_of (at_place ts place))) (sym same)
          (named-among s handle place h.own named)) makes
      by (frees pid at is) =
          freed-next (with_stage s (FreeingChild pid (freeing.Close handle))) xs refl
          (subst (λ v. Makes v xs) is makes)

pub closes-ended : (o : Options) (xs : List Exchange) → Makes (first_truss o) xs → ClosesWhatEnded xs
closes-ended o xs makes = record {
  each = λ before after c handle is to.
      let x : Exchange = record { call = c; reply = ended } in
      let s : TrussState = truss_after (first_truss o) before in
      let at : Makes s (x ∷ after) =
      makes-rest (first_truss o) before (x ∷ after) (subst (Makes (first_truss o)) is makes) in
      next-ended s handle after at.1 c (reached-files o before) at.0 to;
}
