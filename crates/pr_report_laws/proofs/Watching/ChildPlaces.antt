use Rattle.std.proofs.Common.{◌≡◌, ℕ, Some, List, [], ◌∷◌, ◌++◌, length, refl, sym, subst, ap, ◌∙◌, arith}
use Rattle.std.proofs.lemmas.List.{length-append}
use Rattle.std.specs.List.{All}
use Rattle.pr_model.specs.Replies.{handle_in}
use Rattle.pr_model.specs.declared.calls.File.TheVariants as file
use Rattle.pr_num.specs.Control.{rlc_mode}
use Rattle.pr_num.specs.declared.messages.Message.TheVariants as message
use Rattle.pr_truss.specs.Children.{with_child_control}
use Rattle.pr_truss.specs.Feeding.{fed}
use Rattle.pr_truss.specs.Messages.{message_call}
use Rattle.pr_truss.specs.NextCalls.{next_call_of, open_file}
use Rattle.pr_truss.specs.Replies.{answer_of}
use Rattle.pr_truss.specs.Trusses.{TrussState, with_stage}
use Rattle.pr_truss.specs.declared.replies.Answer.TheVariants.{Accepted}
use Rattle.pr_truss.specs.declared.stages.ChildStep.{ChildStep}
use Rattle.pr_truss.specs.declared.stages.ChildStep.TheVariants as child
use Rattle.pr_truss.specs.declared.stages.FreeingStep.TheVariants as freeing
use Rattle.pr_truss.specs.declared.stages.Stage.TheVariants.{FreeingChild, OpeningChildControl}
use Rattle.pr_truss_laws.specs.Exchanges.{Exchange, IsGranted, Makes, calls_in, truss_after}
use Rattle.pr_report_laws.proofs.Invariant.OpeningRuns.{IsFollowing, OpensControl, born, born-fed, born-following, child-runs, child_left, freed, freed-fed, given, given-fed, granted-first, granted-rest, opens-control}
use Rattle.pr_report_laws.proofs.Watching.BeginLaws.{BeginsChild, child-begins, freed-closes, freed-fed-again, given-opens, next-call}
use Rattle.pr_report_laws.specs.Attachments.{child_calls}

-- Where truss has come to in the opening of a child.

module _ (pid : ℕ) (t : TrussState) (last : Exchange) where
  -- before the last call of the opening
  abbrev pub Placed : TrussState → Type 0
  Placed u =
      (parent : ℕ) ×
      ((place : ℕ) × ((step : ChildStep) × ((child_left step ≡ 1) × IsFollowing u pid parent place step)))

  born-placed : (x : Exchange) (xs : List Exchange) (parent : ℕ) → t.stage ≡ OpeningChildControl parent pid
      → All IsGranted (x ∷ xs) → length xs ≡ 4 → Placed (truss_after (fed t x.reply) xs)
  born-placed x xs parent stage all left =
      let control = handle_in x.reply in
      let runs =
      child-runs xs (with_child_control t parent pid control) pid parent (length t.traced) child.SetRelease
      (born-following t parent pid control) (granted-rest x xs all) (omega (arith, left)) in
      subst (λ u. Placed (truss_after u xs)) (sym (born-fed t pid x.reply (granted-first x xs all) parent stage))
      (parent, (length t.traced, (runs.0, runs.1)))

  pub child-placed : (xs : List Exchange) (control : ℕ) → Makes t xs → calls_in
      (xs ++ last ∷ []) ≡ child_calls pid control
      → All IsGranted xs → Placed (truss_after t xs)
  child-placed xs control makes calls granted =
      let b = child-begins pid control last xs calls in
      let all : All IsGranted (b.one ∷ b.two ∷ b.three ∷ b.more) = subst (All IsGranted) b.is granted in
      let m : Makes t (b.one ∷ b.two ∷ b.three ∷ b.more) = subst (Makes t) b.is makes in
      let accepted = granted-first b.one (b.two ∷ b.three ∷ b.more) all in
      by b all accepted (m.1.0 ∙ ap Some b.sets) (m.1.1.0
      ∙ ap Some b.status) (opens-control t pid (m.0 ∙ ap Some b.opens))
    where
      by : (b : BeginsChild pid control xs) → All IsGranted (b.one ∷ b.two ∷ b.three ∷ b.more)
          → answer_of b.one.reply ≡ Accepted
          → next_call_of (fed t b.one.reply) ≡ Some (message_call control (message.Set rlc_mode))
          → next_call_of (fed (fed t b.one.reply) b.two.reply) ≡ Some (open_file pid file.Status)
          → OpensControl pid t.stage → Placed (truss_after t xs)
      by b all accepted second third (given stage) =
          absurd (given-opens t pid (handle_in b.one.reply) control
          (next-call _ (fed t b.one.reply) _ (given-fed t pid b.one.reply accepted stage) second))
      by b all accepted second third (born parent stage) =
          subst (λ ys. Placed (truss_after t ys)) (sym b.is)
          (born-placed b.one (b.two ∷ b.three ∷ b.more) parent stage all (omega (arith, b.left)))
      by b all accepted second third (freed stage) =
          let h = handle_in b.one.reply in
          let then : fed (fed t b.one.reply) b.two.reply ≡ with_stage t (FreeingChild pid (freeing.Close h)) =
          ap (λ (u : TrussState). fed u b.two.reply) (freed-fed t pid b.one.reply accepted stage)
          ∙ freed-fed-again t pid h b.two in
          absurd (freed-closes t pid h pid (next-call _ (fed (fed t b.one.reply) b.two.reply) _ then third))

-- what stands before a last exchange
pub push-same : (xs ys : List Exchange) (x y : Exchange) → xs ++ x ∷ [] ≡ ys ++ y ∷ [] → xs ≡ ys
push-same [] [] x y is = refl
push-same [] (b ∷ ys) x y is =
    absurd (omega (arith, ap (λ (zs : List Exchange). length zs) is, length-append ys (y ∷ [])))
push-same (a ∷ xs) [] x y is =
    absurd (omega (arith, ap (λ (zs : List Exchange). length zs) is, length-append xs (x ∷ [])))
push-same (a ∷ xs) (b ∷ ys) x y is =
    let first : a ≡ b = cc in
    let rest : xs ++ x ∷ [] ≡ ys ++ y ∷ [] = cc in
    ap (λ (z : Exchange). z ∷ xs) first ∙ ap (λ (zs : List Exchange). b ∷ zs) (push-same xs ys x y rest)
