use Rattle.std.proofs.Common.{◌≡◌, ◌≢◌, ◌==◌, ◌<◌, ℕ, suc, true, false, cond, Some, length, refl, sym, subst, ap, ◌∙◌, inl, inr}
use Rattle.std.proofs.lemmas.Bool.{and_from, and_left, and_right, cases_Bool, eq-eqb, eqb-false, eqb-true, false≢true, ne_eqb}
use Rattle.pr_line.specs.declared.options.Options.{Options}
use Rattle.pr_model.specs.Replies.{bytes_in}
use Rattle.pr_model.specs.State.{TracedProcess, TracedState, live_process}
use Rattle.pr_model.specs.declared.calls.Reply.{Reply}
use Rattle.pr_rec.specs.declared.lwps.LwpStatus.{LwpStatus}
use Rattle.pr_truss.specs.Closings.{with_closing, with_interrupt}
use Rattle.pr_truss.specs.Feeding.{fed, with_reply}
use Rattle.pr_truss.specs.Openings.{with_stop_seen}
use Rattle.pr_truss.specs.Replies.{answer_of}
use Rattle.pr_truss.specs.Stops.{after_text, text_of, with_event_over, with_event_shown, with_text_answered}
use Rattle.pr_truss.specs.Trusses.{TrussState, traced_at, with_report}
use Rattle.pr_truss.specs.declared.replies.Answer.{Answer}
use Rattle.pr_truss.specs.declared.replies.Answer.TheVariants.{Accepted, Interrupted, Gone, Refused}
use Rattle.pr_truss.specs.declared.reports.Report.TheVariants.{Event as Reported}
use Rattle.pr_truss.specs.declared.stages.Stage.{Stage}
use Rattle.pr_truss.specs.declared.stages.Stage.TheVariants.{ReadingText}
use Rattle.pr_truss_laws.proofs.Files.HeldLemmas.{Fits}
use Rattle.pr_report_laws.proofs.Invariant.Tallies.{Tally}
use Rattle.pr_report_laws.proofs.Replies.Carries.{Carries, Lands, away-accounted, carries-standing, read-lands}
use Rattle.pr_report_laws.proofs.Replies.Elsewhere.{IsAside, IsElsewhere, comes-elsewhere, elsewhere-standing}
use Rattle.pr_report_laws.proofs.Replies.NextStages.{ComesNext, interrupt-comes, prepares-none}
use Rattle.pr_report_laws.proofs.Replies.Orderly.{IsOrderly}
use Rattle.pr_report_laws.proofs.Replies.Places.{place-own, seen-others, seen-places, unwatched-away}
use Rattle.pr_report_laws.proofs.Invariant.Standing.{Position, Prepares, Standing, apart, goes, has_event, old_stops, stop_read}
use Rattle.pr_report_laws.proofs.Replies.StopsOver.{StopOver, closing-over, event_over-left, event_over-over, over-elsewhere}
use Rattle.pr_report_laws.proofs.Invariant.Positions.{IsTracedBy, Waits}
use Rattle.pr_report_laws.specs.Watching.{is_away, place_of}

-- Truss reads the memory that the line of an event asks for: the event is reported, whatever the reply.

module _ (t : TrussState) (at : ℕ) (l : LwpStatus) (from len : ℕ) (r : Reply) where
  -- the event is reported
  abbrev told : TrussState
  told = with_report t (Reported (traced_at t at).pid l (text_of len (bytes_in r)))

  text-fed : t.stage ≡ ReadingText at l from len → fed t r ≡ after_text told at l (answer_of r)
  unfolding fed with_reply with_text_answered with_event_shown
  text-fed is = ap (with_reply t r) is

  module _ (is : t.stage ≡ ReadingText at l from len) (orderly : IsOrderly t) (first : t.leaving ≡ true → at ≡ 0) where
    within : at < length t.traced
    within = subst (Fits t.traced) is orderly.fits

    -- ---- the other processes

    text-aside : (other : ℕ) → other ≢ at → IsAside t.leaving t.stage other
    text-aside other apart_from =
        let not_at : (at == other) ≡ false = ne_eqb at other (λ same. apart_from (sym same)) in
        subst (λ (st : Stage). IsAside t.leaving st other) (sym is) (record {
          here = and_right t.leaving (at == other) not_at;
          read = not_at;
          named = refl;
        })

    over-others : (u : TrussState) → StopOver told at u → IsElsewhere t u at
    over-others u c =
        over-elsewhere t told u at (λ pid. refl) (λ other apart_from. refl) c

    comes-others : (u : TrussState) → ComesNext (with_stop_seen told at) u → IsElsewhere t u at
    comes-others u c =
        comes-elsewhere t (with_stop_seen told at) u at (seen-places told at) (seen-others told at) c

    answered-elsewhere : (a : Answer) → IsElsewhere t (after_text told at l a) at
    unfolding after_text
    answered-elsewhere Accepted = over-others (with_event_over told at l) (event_over-over told at first l)
    answered-elsewhere (Refused errno) = over-others (with_event_over told at l) (event_over-over told at first l)
    answered-elsewhere Gone = over-others (with_closing told at) (closing-over told at)
    answered-elsewhere Interrupted =
        elim t.leaving as
        (λ b. IsElsewhere t (cond b (with_event_over told at l) (with_interrupt (with_stop_seen told at))) at) [
          | true ↦ over-others (with_event_over told at l) (event_over-over told at first l)
          | false ↦ comes-others (with_interrupt (with_stop_seen told at)) (interrupt-comes (with_stop_seen told at))
        ]

    text-elsewhere : IsElsewhere t (fed t r) at
    text-elsewhere =
        subst (λ (u : TrussState). IsElsewhere t u at) (sym (text-fed is)) (answered-elsewhere (answer_of r))

    pub text-prepares : (o : Options) (pid : ℕ) (s : TracedState) → Prepares o pid (fed t r) s
    text-prepares o pid s = let e = text-elsewhere in prepares-none o pid (fed t r) s e.opens

    -- ---- the process itself

    module _ (Why : Type 0) (o : Options) (pid : ℕ) (s : TracedState) (tally : Tally) where
      module _ (own : (traced_at t at).pid ≡ pid) (u : TrussState) (ends : StopOver told at u)
          (old : (traced_at u at).old ≡ (traced_at t at).old) where
        stands : place_of t pid ≡ Some at
        stands = place-own t at pid orderly within own

        lands : (p : TracedProcess) → live_process s.system pid ≡ Some p → IsTracedBy o p
            → Position o (ReadingText at l from len) at (traced_at t at).old p tally
            → Lands Why o pid u s tally at
        lands p live traced (stop_read read waits all) =
            read-lands Why o pid told u s s tally at p ends live traced
            (λ here. subst (λ n. Waits p (suc n)) (sym old) waits) all
        lands p live traced (old_stops n read counts waits all) = absurd (false≢true (sym read ∙ eq-eqb at at refl))
        lands p live traced (goes read named none quiet all) = absurd (false≢true (sym read ∙ eq-eqb at at refl))
        lands p live traced (has_event id event read none one named all) =
            absurd (false≢true (sym read ∙ eq-eqb at at refl))

        stays-carries : t.leaving ≡ false → Carries Why o pid t u s s tally tally at
        stays-carries stays = record {
          at = stands;
          then = ends.places pid ∙ stands;
          same = ends.attached;
          was = λ on. ap (λ (st : Stage). is_away t.leaving st at) is ∙ and_left t.leaving (at == at) stays;
          off = λ off. refl;
          ends = λ none. (none, refl);
          moves =
              λ p on live traced position. lands p live traced
              (subst (λ (st : Stage). Position o st at (traced_at t at).old p tally) is position);
        }

        -- while truss leaves, it has left the process already
        left-standing : t.leaving ≡ true → Standing Why o pid t s tally → Standing Why o pid u s tally
        left-standing leaving w =
            let away : is_away t.leaving t.stage at ≡ true =
            ap (λ (st : Stage). is_away t.leaving st at) is
            ∙ and_from t.leaving (at == at) leaving (eq-eqb at at refl) in
            apart (unwatched-away u pid at (ends.places pid
            ∙ stands) (ends.left leaving))
            (away-accounted Why o pid t u s s tally at stands away w)

        over-standing : Standing Why o pid t s tally → Standing Why o pid u s tally
        over-standing w =
            elim (cases_Bool t.leaving) [
              | inl leaving ↦ left-standing leaving w
              | inr stays ↦ carries-standing Why o
                  pid t u s s tally tally at (stays-carries stays) w
            ]

      own-standing : (traced_at t at).pid ≡ pid → (a : Answer) → (a ≡ Interrupted → ⊥) → Standing Why o pid t s tally
          → Standing Why o pid (after_text told at l a) s tally
      unfolding after_text
      own-standing own Accepted calm w =
          over-standing own (with_event_over told at l) (event_over-over told at first l)
          (event_over-left told at l) w
      own-standing own (Refused errno) calm w =
          over-standing own (with_event_over told at l) (event_over-over told at first l)
          (event_over-left told at l) w
      own-standing own Gone calm w =
          over-standing own (with_closing told at) (closing-over told at) refl w
      own-standing own Interrupted calm w = absurd (calm refl)

      -- ---- all

      pub text-standing : ((traced_at t at).pid ≡ pid → answer_of r ≢ Interrupted) → Standing Why o pid t s tally
          → Standing Why o pid (fed t r) s tally
      text-standing calm w =
          elim (cases_Bool ((traced_at t at).pid == pid)) [
            | inl same ↦ let own =
                eqb-true (traced_at t at).pid pid same in subst (λ (u : TrussState). Standing Why o pid u s tally)
                (sym (text-fed is)) (own-standing own (answer_of r) (calm own) w)
            | inr other ↦ elsewhere-standing t (fed t r) at pid text-elsewhere
                (eqb-false (traced_at t at).pid pid other) text-aside Why o s tally w
          ]
