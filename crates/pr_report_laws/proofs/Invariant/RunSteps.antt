use Rattle.std.proofs.Common.{◌≡◌, ◌≢◌, ◌==◌, ◌<◌, ℕ, zero, suc, true, false, Some, None, length, refl, sym, subst, ap, ◌∙◌, inl, inr}
use Rattle.std.proofs.lemmas.Bool.{cases_Bool, eq-eqb, eqb-false, eqb-true, false≢true, ne_eqb}
use Rattle.pr_line.specs.declared.options.Options.{Options}
use Rattle.pr_model.specs.State.{TracedProcess, TracedState, TracedSystem, live_process}
use Rattle.pr_model.specs.declared.calls.Reply.{Reply}
use Rattle.pr_truss.specs.Closings.{with_closing, with_going_on, with_interrupt}
use Rattle.pr_truss.specs.Feeding.{fed, with_reply}
use Rattle.pr_truss.specs.Openings.{with_stop_seen}
use Rattle.pr_truss.specs.Replies.{answer_of}
use Rattle.pr_truss.specs.Stops.{with_run_answered}
use Rattle.pr_truss.specs.Trusses.{TrussState, traced_at}
use Rattle.pr_truss.specs.declared.processes.Traced.{Traced}
use Rattle.pr_truss.specs.declared.replies.Answer.{Answer}
use Rattle.pr_truss.specs.declared.replies.Answer.TheVariants.{Accepted, Interrupted, Gone, Refused}
use Rattle.pr_truss.specs.declared.stages.Stage.{Stage}
use Rattle.pr_truss.specs.declared.stages.Stage.TheVariants.{Running}
use Rattle.pr_truss_laws.proofs.Files.HeldLemmas.{Fits}
use Rattle.pr_truss_laws.specs.Stills.{IsQuiet}
use Rattle.pr_report_laws.proofs.Invariant.Tallies.{IsWhole, Tally}
use Rattle.pr_report_laws.proofs.Replies.Carries.{Carries, Lands, carries-standing, stays}
use Rattle.pr_report_laws.proofs.Replies.Elsewhere.{IsAside, IsElsewhere, comes-elsewhere, elsewhere-standing}
use Rattle.pr_report_laws.proofs.Replies.NextStages.{ComesNext, comes-places, comes-same, going_on-comes, interrupt-comes, prepares-none}
use Rattle.pr_report_laws.proofs.Replies.Orderly.{IsOrderly}
use Rattle.pr_report_laws.proofs.Replies.Places.{place-own, seen-others, seen-places}
use Rattle.pr_report_laws.proofs.Invariant.Standing.{Position, Prepares, Standing, goes, has_event, has_read, is_named, old_stops, stop_read}
use Rattle.pr_report_laws.proofs.Replies.StopsOver.{closing-over, over-others}
use Rattle.pr_report_laws.proofs.Invariant.Positions.{IsTracedBy, Waits}
use Rattle.pr_report_laws.specs.Watching.{is_away, place_of}

-- Truss runs a process whose stop it has read.

-- It runs: where no old stop is left it is quiet then, else it still stands.
pub record Runs (o : Options) (pid old : ℕ) (v : TracedSystem) (r : Reply) : Type 0 where
  pub accepted : answer_of r ≡ Accepted
  pub process : TracedProcess
  pub live : live_process v pid ≡ Some process
  pub traced : IsTracedBy o process
  pub quiet : old ≡ 0 → IsQuiet process
  pub waits : (n : ℕ) → old ≡ suc n → Waits process (suc n)

-- how it stands then at a step that is not about it
run-position : (o : Options) (stage : Stage) (place old : ℕ) (q : TracedProcess) (tally : Tally)
    → has_read stage place ≡ false → is_named stage place ≡ false → (old ≡ 0 → IsQuiet q)
    → ((n : ℕ) → old ≡ suc n → Waits q (suc n)) → IsWhole tally → Position o stage place old q tally
run-position o stage place zero q tally read named quiet waits all = goes read named refl (quiet refl) all
run-position o stage place (suc n) q tally read named quiet waits all = old_stops n read refl (waits n refl) all

run-fed : (t : TrussState) (at : ℕ) (r : Reply) → t.stage ≡ Running at → fed t r ≡ with_run_answered t at (answer_of r)
unfolding fed with_reply
run-fed t at r is = ap (with_reply t r) is

module _ (t : TrussState) (at : ℕ) (r : Reply) (is : t.stage ≡ Running at) (orderly : IsOrderly t) where
  within : at < length t.traced
  within = subst (Fits t.traced) is orderly.fits

  -- ---- the other processes

  run-aside : (other : ℕ) → other ≢ at → IsAside t.leaving t.stage other
  run-aside other apart_from =
      subst (λ (st : Stage). IsAside t.leaving st other) (sym is) (record {
        here = refl;
        read = ne_eqb at other (λ same. apart_from (sym same));
        named = refl;
      })

  on-elsewhere : IsElsewhere t (with_going_on t) at
  on-elsewhere =
      comes-elsewhere t t (with_going_on t) at (λ pid. refl) (λ other apart_from. refl)
      (going_on-comes t)

  comes-others : (u : TrussState) → ComesNext (with_stop_seen t at) u → IsElsewhere t u at
  comes-others u c =
      comes-elsewhere t (with_stop_seen t at) u at (seen-places t at) (seen-others t at) c

  answered-elsewhere : (a : Answer) → IsElsewhere t (with_run_answered t at a) at
  unfolding with_run_answered
  answered-elsewhere Accepted = on-elsewhere
  answered-elsewhere (Refused errno) = on-elsewhere
  answered-elsewhere Gone = over-others t (with_closing t at) at (closing-over t at)
  answered-elsewhere Interrupted =
      comes-others (with_interrupt (with_stop_seen t at)) (interrupt-comes (with_stop_seen t at))

  run-elsewhere : IsElsewhere t (fed t r) at
  run-elsewhere =
      subst (λ (u : TrussState). IsElsewhere t u at) (sym (run-fed t at r is)) (answered-elsewhere (answer_of r))

  pub run-prepares : (o : Options) (pid : ℕ) (s : TracedState) → Prepares o pid (fed t r) s
  run-prepares o pid s = let e = run-elsewhere in prepares-none o pid (fed t r) s e.opens

  -- ---- the process itself

  module _ (Why : Type 0) (o : Options) (pid : ℕ) (s v : TracedState) (tally : Tally) where
    -- what the call makes of it
    abbrev Ended : Type 0
    Ended = live_process s.system pid ≡ None → (answer_of r ≡ Gone) × (live_process v.system pid ≡ None)

    abbrev IsRun : Type 0
    IsRun =
        (p : TracedProcess) → live_process s.system pid ≡ Some p → IsTracedBy o p → Waits p (suc (traced_at t at).old)
        → Runs o pid (traced_at t at).old v.system r

    module _ (own : (traced_at t at).pid ≡ pid) (ended : Ended) (run : IsRun) where
      stands : place_of t pid ≡ Some at
      stands = place-own t at pid orderly within own

      not_away : is_away t.leaving t.stage at ≡ false
      not_away = ap (λ (st : Stage). is_away t.leaving st at) is

      -- of a live one the stop was read
      runs : (p : TracedProcess) → live_process s.system pid ≡ Some p → IsTracedBy o p
          → Position o (Running at) at (traced_at t at).old p tally
          → Runs o pid (traced_at t at).old v.system r × (IsWhole tally)
      runs p live traced (stop_read read waits all) = (run p live traced waits, all)
      runs p live traced (old_stops n read counts waits all) = absurd (false≢true (sym read ∙ eq-eqb at at refl))
      runs p live traced (goes read named none quiet all) = absurd (false≢true (sym read ∙ eq-eqb at at refl))
      runs p live traced (has_event id event read none one named all) =
          absurd (false≢true (sym read ∙ eq-eqb at at refl))

      positioned : (p : TracedProcess) → Position o t.stage at (traced_at t at).old p tally
          → Position o (Running at) at (traced_at t at).old p tally
      positioned p position =
          subst (λ (st : Stage). Position o st at (traced_at t at).old p tally) is position

      comes-lands : (u : TrussState) → ComesNext t u → (traced_at t at).attached ≡ true
          → Runs o pid (traced_at t at).old v.system r → IsWhole tally → Lands Why o pid u v tally at
      comes-lands u c on h all =
          let same = comes-same at t u c in
          stays h.process (c.here at (ap (λ (x : Traced). x.attached) same ∙ on)) h.live h.traced
          (subst (λ n. Position o u.stage at n h.process tally) (sym (ap (λ (x : Traced). x.old) same))
          (run-position o u.stage at (traced_at t at).old h.process tally (c.read at)
          (c.named at) h.quiet h.waits all))

      -- it goes on, or PCRUN was refused, which cannot be
      comes-carries : (u : TrussState) → ComesNext t u → (answer_of r ≢ Gone) → Carries Why o pid t u s v tally tally at
      comes-carries u c not_gone = record {
        at = stands;
        then = comes-places pid t u c ∙ stands;
        same = ap (λ (x : Traced). x.attached) (comes-same at t u c);
        was = λ on. not_away;
        off = λ off. refl;
        ends = λ none. let e = ended none in absurd (not_gone e.0);
        moves =
            λ p on live traced position. let h =
            runs p live traced (positioned p position) in comes-lands u c on h.0 h.1;
      }

      gone-carries : answer_of r ≡ Gone → Carries Why o pid t (with_closing t at) s v tally tally at
      gone-carries gone = record {
        at = stands;
        then = stands;
        same = refl;
        was = λ on. not_away;
        off = λ off. refl;
        ends = λ none. let e = ended none in (e.1, refl);
        moves = λ p on live traced position. let h = runs p live traced (positioned p position) in absurd (differs h.0);
      }
        where
          differs : Runs o pid (traced_at t at).old v.system r → ⊥
          differs h = let e : Accepted ≡ Gone = sym h.accepted ∙ gone in cc

      own-standing : (a : Answer) → answer_of r ≡ a → (a ≡ Interrupted → ⊥) → Standing Why o pid t s tally
          → Standing Why o pid (with_run_answered t at a) v tally
      unfolding with_run_answered
      own-standing Accepted answer calm w =
          carries-standing Why o pid t (with_going_on t) s v tally tally at
          (comes-carries (with_going_on t) (going_on-comes t) (λ gone. let e : Accepted ≡ Gone = sym answer
          ∙ gone in cc)) w
      own-standing (Refused errno) answer calm w =
          carries-standing Why o pid t (with_going_on t) s v tally tally at
          (comes-carries (with_going_on t) (going_on-comes t) (λ gone. let e : Refused errno ≡ Gone = sym answer
          ∙ gone in cc)) w
      own-standing Gone answer calm w =
          carries-standing Why o pid t (with_closing t at) s v tally tally at (gone-carries answer) w
      own-standing Interrupted answer calm w = absurd (calm refl)

    -- ---- all

    pub run-standing : ((traced_at t at).pid ≡ pid → Ended) → ((traced_at t at).pid ≡ pid → IsRun)
        → ((traced_at t at).pid ≡ pid → answer_of r ≢ Interrupted)
        → ((traced_at t at).pid ≢ pid → Standing Why o pid t v tally) → Standing Why o pid t s tally
        → Standing Why o pid (fed t r) v tally
    run-standing ended run calm others w =
        elim (cases_Bool ((traced_at t at).pid == pid)) [
          | inl same ↦ let own =
              eqb-true (traced_at t at).pid pid same in subst (λ (u : TrussState). Standing Why o pid u v tally)
              (sym (run-fed t at r is)) (own-standing own (ended own) (run own) (answer_of r) refl (calm own) w)
          | inr other ↦ let apart_from =
              eqb-false (traced_at t at).pid pid other in elsewhere-standing t
              (fed t r) at pid run-elsewhere apart_from run-aside Why o v tally (others apart_from)
        ]
