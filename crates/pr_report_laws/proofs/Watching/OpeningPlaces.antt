use Rattle.std.proofs.Common.{◌≡◌, ◌<◌, ◌+◌, ◌++◌, ℕ, suc, Option, Some, None, List, [], ◌∷◌, length, refl, sym, subst, ap, ◌∙◌, arith}
use Rattle.std.proofs.lemmas.List.{length-append}
use Rattle.std.proofs.lemmas.List.Elements.{All-tail}
use Rattle.std.specs.List.{All}
use Rattle.pr_line.specs.declared.options.Options.{Options}
use Rattle.pr_model.specs.Replies.{handle_in}
use Rattle.pr_model.specs.declared.calls.File.TheVariants as file
use Rattle.pr_truss.specs.Feeding.{fed}
use Rattle.pr_truss.specs.NextCalls.{next_call_of, open_file}
use Rattle.pr_truss.specs.Openings.{at_step, step_after, with_control}
use Rattle.pr_truss.specs.Replies.{answer_of}
use Rattle.pr_truss.specs.Trusses.{TrussState}
use Rattle.pr_truss.specs.declared.replies.Answer.TheVariants.{Accepted}
use Rattle.pr_truss.specs.declared.stages.OpeningStep.{OpeningStep}
use Rattle.pr_truss.specs.declared.stages.OpeningStep.TheVariants as opening
use Rattle.pr_truss.specs.declared.stages.Stage.TheVariants.{OpeningControl}
use Rattle.pr_truss_laws.specs.Exchanges.{Exchange, IsGranted, Makes, truss_after}
use Rattle.pr_truss_laws.specs.Given.{IsWholeOpening}
use Rattle.pr_report_laws.proofs.FollowedChildren.FollowCalm.{tail-same}
use Rattle.pr_report_laws.proofs.Invariant.OpeningRuns.{IsOpening, OpensControl, born, born-fed, freed, freed-fed, given, given-fed, given-opening, granted-first, granted-rest, left_after, opening-goes, opens-control, step-fed, step-left, stepped, learns, steps_left}
use Rattle.pr_report_laws.proofs.Watching.BeginLaws.{BeginsOpening, born-messages, freed-messages, next-call, opening-begins}
use Rattle.pr_report_laws.proofs.Watching.HistoryParts.{all-front}

-- Where truss stands within the opening of a process that is granted.

-- Truss opens the process of an id, at a place, and so many calls are left.
pub record OpensWith (t : TrussState) (pid place left : ℕ) : Type 0 where
  pub step : OpeningStep
  pub opening : IsOpening t pid place step
  pub calls : steps_left t.options.follow step ≡ left

-- one call that is granted, and not the last one
pub opens-on : (t : TrussState) (pid place left : ℕ) (x : Exchange) → OpensWith t pid place (suc left)
    → answer_of x.reply ≡ Accepted → 0 < left → OpensWith (fed t x.reply) pid place left
unfolding stepped learns
opens-on t pid place left x w granted some =
    subst (λ (u : TrussState). OpensWith u pid place left)
    (sym (step-fed t place w.step x.reply w.opening.stage granted))
    (by (step_after t.options x.reply w.step) refl)
  where
    by : (n : Option OpeningStep) → step_after t.options x.reply w.step ≡ n
        → OpensWith (at_step (stepped t pid place w.step x w.opening granted) place n) pid place left
    by None is =
        absurd (omega (arith, some, w.calls, step-left t.options x.reply w.step, ap (left_after t.options.follow) is))
    by (Some n) is = record {
      step = n;
      opening = opening-goes t pid place w.step x w.opening granted n is;
      calls = omega (arith, w.calls, step-left t.options x.reply w.step, ap (left_after t.options.follow) is);
    }

pub opens-after : (xs : List Exchange) (t : TrussState) (pid place all left : ℕ) → OpensWith t pid place all
    → all ≡ length xs + left → All IsGranted xs → 0 < left → OpensWith (truss_after t xs) pid place left
opens-after [] t pid place all left w count granted some = subst (OpensWith t pid place) (omega (arith, count)) w
opens-after (x ∷ xs) t pid place all left w count granted some =
    let more : OpensWith t pid place (suc (length xs + left)) =
    subst (OpensWith t pid place) (omega (arith, count)) w in
    opens-after xs (fed t x.reply) pid place (length xs + left) left
    (opens-on t pid place (length xs + left) x more (granted-first x xs granted) (omega (arith, some)))
    refl (granted-rest x xs granted) some

-- its first call
pub record StartsOpening (o : Options) (pid : ℕ) (t : TrussState) (xs : List Exchange) : Type 0 where
  pub first : Exchange
  pub rest : List Exchange
  pub is : xs ≡ first ∷ rest
  pub stage : t.stage ≡ OpeningControl pid
  pub granted : All IsGranted (first ∷ rest)
  pub left : length rest ≡ steps_left o.follow opening.OpenStatus

module _ (o : Options) (pid : ℕ) (t : TrussState) (same : t.options ≡ o) where
  pub opening-starts : (xs : List Exchange) → Makes t xs → IsWholeOpening o pid xs → StartsOpening o pid t xs
  opening-starts xs makes whole =
      let b = opening-begins o pid xs whole.calls in
      let all : All IsGranted (b.one ∷ b.two ∷ b.more) = subst (All IsGranted) b.is whole.granted in
      let m : Makes t (b.one ∷ b.two ∷ b.more) = subst (Makes t) b.is makes in
      let accepted = granted-first b.one (b.two ∷ b.more) all in
      let second : next_call_of (fed t b.one.reply) ≡ Some (open_file pid file.Status) = m.1.0 ∙ ap Some b.status in
      by b all accepted second (opens-control t pid (m.0 ∙ ap Some b.control))
    where
      by : (b : BeginsOpening o pid xs) → All IsGranted (b.one ∷ b.two ∷ b.more) → answer_of b.one.reply ≡ Accepted
          → next_call_of (fed t b.one.reply) ≡ Some (open_file pid file.Status) → OpensControl pid t.stage
          → StartsOpening o pid t xs
      by b all accepted second (given stage) = record {
        first = b.one;
        rest = b.two ∷ b.more;
        is = b.is;
        stage = stage;
        granted = all;
        left = b.left;
      }
      by b all accepted second (born parent stage) =
          absurd (born-messages t parent pid (handle_in b.one.reply) pid
          (next-call _ (fed t b.one.reply) _ (born-fed t pid b.one.reply accepted parent stage) second))
      by b all accepted second (freed stage) =
          absurd (freed-messages t pid (handle_in b.one.reply) pid
          (next-call _ (fed t b.one.reply) _ (freed-fed t pid b.one.reply accepted stage) second))

  -- Its control file was opened.
  pub started-opens : (x : Exchange) → t.stage ≡ OpeningControl pid → answer_of x.reply ≡ Accepted
      → OpensWith (fed t x.reply) pid (length t.traced) (steps_left o.follow opening.OpenStatus)
  unfolding with_control
  started-opens x stage accepted =
      subst (λ (u : TrussState). OpensWith u pid (length t.traced) (steps_left o.follow opening.OpenStatus))
      (sym (given-fed t pid x.reply accepted stage))
      (record {
        step = opening.OpenStatus;
        opening = given-opening t pid (handle_in x.reply);
        calls = ap (λ (p : Options). steps_left p.follow opening.OpenStatus) same;
      })

-- After some of the calls of a whole opening, of which the first is one, truss opens the process, and the others are
-- left.
pub opening-placed : (o : Options) (pid : ℕ) (t : TrussState) → t.options ≡ o
    → (f : Exchange) (front back : List Exchange)
    → Makes t (f ∷ (front ++ back)) → IsWholeOpening o pid (f ∷ (front ++ back)) → 0 < length back
    → OpensWith (truss_after (fed t f.reply) front) pid (length t.traced) (length back)
opening-placed o pid t same f front back makes whole some =
    let w = opening-starts o pid t same (f ∷ (front ++ back)) makes whole in
    let rest : front ++ back ≡ w.rest = tail-same w.is in
    let all : All IsGranted (f ∷ (front ++ back)) = whole.granted in
    let count : length front + length back ≡ steps_left o.follow opening.OpenStatus =
    sym (length-append front back) ∙ ap (λ (ys : List Exchange). length ys) rest ∙ w.left in
    opens-after front (fed t f.reply) pid (length t.traced) (steps_left o.follow opening.OpenStatus) (length back)
    (started-opens o pid t same f w.stage (granted-first f (front ++ back) all)) (sym count)
    (all-front IsGranted front back (All-tail IsGranted f (front ++ back) all)) some
