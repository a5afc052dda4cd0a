use Rattle.std.proofs.Common.{◌≡◌, ◌≢◌, ◌⊎◌, ◌<◌, ℕ, Bool, true, Some, length, refl, sym, subst, ap, ◌∙◌}
use Rattle.std.proofs.Common.{arith, inl, inr}
use Rattle.std.proofs.lemmas.Bool.{cases_eq, false≢true}
use Rattle.pr_function_hides.proofs.Copying.CopyEnds.{aside-within, stage-within}
use Rattle.pr_function_hides.proofs.LeavingCopies.CopyLeaves.{HasOld, IsStill, Leaves, as-still, leaving-alike}
use Rattle.pr_function_hides.proofs.LeavingCopies.CopyLeft.{IsLeaving}
use Rattle.pr_function_hides.proofs.Replies.LeavingWalk.{begins-left}
use Rattle.pr_function_laws.proofs.LeavingProcesses.LeavingWaits.{WaitsAt, awaits_opening, polls, waits-at}
use Rattle.pr_function_laws.proofs.Marks.KeptPlaces.{AtStage, Kept, apart-at}
use Rattle.pr_function_laws.proofs.Pending.KnownFiles.{Knows, KnowsAll}
use Rattle.pr_function_laws.specs.Soon.{may_wait}
use Rattle.pr_line.specs.declared.options.Options.{Options}
use Rattle.pr_model.specs.State.{TracedState}
use Rattle.pr_model.specs.declared.calls.Call.{Call}
use Rattle.pr_model.specs.declared.calls.Call.TheVariants as call
use Rattle.pr_model.specs.declared.calls.Reply.{Reply}
use Rattle.pr_report_laws.proofs.Files.KeepLemmas.{can_wait}
use Rattle.pr_report_laws.proofs.Invariant.StandLemmas.{Each}
use Rattle.pr_truss.specs.FunctionCalls.{next_function_call_of}
use Rattle.pr_truss.specs.FunctionFeeding.{fed_functions}
use Rattle.pr_truss.specs.Marks.{has_functions}
use Rattle.pr_truss.specs.Replies.{answer_of}
use Rattle.pr_truss.specs.Trusses.{TrussState, traced_at}
use Rattle.pr_truss.specs.declared.replies.Answer.TheVariants.{Interrupted}
use Rattle.pr_truss_laws.proofs.Replies.FunctionOptionLemmas.{fed_functions-options}

-- What truss has of each process with the first interrupt: what is so of all of them then, and their old stops.

pub may-can : (c : Call) → may_wait c ≡ true → can_wait c ≡ true
may-can (call.CtlWait handle until bytes) waits = refl
may-can (call.Poll handles) waits = refl
may-can (call.Until moment) waits = refl
may-can _ waits = absurd (false≢true waits)

module _ (t : TrussState) (known : Kept Knows t) (c : Call) (r : Reply) (has : has_functions t.options ≡ true)
    (next : next_function_call_of t ≡ Some c) (waits : may_wait c ≡ true) (interrupted : answer_of r ≡ Interrupted)
  where
    apart : (i j : ℕ) → i < length t.traced → j < length t.traced → i ≢ j → (traced_at t i).pid ≢ (traced_at t j).pid
    apart i j one two other = apart-at t.traced i j one two other known.apart

    all-known : WaitsAt t → (q : ℕ) → q < length t.traced → KnowsAll (traced_at t q)
    all-known (polls at) q within = let w = subst (AtStage Knows t.traced) at known.stage in w q within
    all-known (awaits_opening b until at) q within =
        let w = subst (AtStage Knows t.traced) at known.stage in
        elim (cases_eq q b) [
          | inl same ↦ subst (λ i. KnowsAll (traced_at t i)) (sym same) w.1.1
          | inr other ↦ w.1.0 q within other
        ]

    has-old : (q : ℕ) → q < length t.traced → HasOld t (traced_at t q).pid → (traced_at t q).old ≢ 0
    has-old q within has none = by (cases_eq has.0 q)
      where
        by : (has.0 ≡ q) ⊎ (has.0 ≢ q) → ⊥
        by (inl same) =
            let some = has.1.1.1 in absurd (omega (arith, some, none, ap (λ i. (traced_at t i).old) same))
        by (inr other) = apart has.0 q has.1.0 within other has.1.1.0

    still : WaitsAt t → (q : ℕ) → q < length t.traced → (seen : Bool)
        → IsStill t (record (traced_at t q) { seen = seen })
    still at q within seen =
        record { old = has-old q within; known = let w = all-known at q within in w.lstatus }

    pub begins-to-leave : (k : ℕ) (o : Options) (s : TracedState) → t.options ≡ o
        → (WaitsAt t → Each (IsLeaving k o (HasOld t) s) t.traced) → Leaves k o t (fed_functions t r) s
    begins-to-leave k o s options all =
        let at = waits-at t.options has t refl Knows c waits known.stage known.beside next in
        record {
          options = fed_functions-options t r ∙ options;
          left = begins-left (IsLeaving k o (HasOld t) s) (leaving-alike k o (HasOld t) s) (IsStill t) (as-still t) t r
              known.follow has apart (all at.1) (λ q within. still at.1 q within (traced_at t q).seen)
              (λ q step opens within. still at.1 q within true) interrupted c (may-can c waits)
              (stage-within Knows t.traced t.stage known.stage)
              (aside-within Knows t.traced t.aside known.beside) next;
        }
