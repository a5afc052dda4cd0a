use Rattle.std.proofs.Common.{◌≡◌, ◌⊎◌, ◌<◌, ◌++◌, ℕ, Bool, Option, Some, None, List, [], ◌∷◌, length, refl, sym, subst, ap, ◌∙◌, inl, inr}
use Rattle.std.proofs.lemmas.Option.{same_Some}
use Rattle.pr_line.specs.declared.options.Options.{Options}
use Rattle.pr_model.specs.Legal.{state_after}
use Rattle.pr_model.specs.State.{TracedState}
use Rattle.pr_model.specs.declared.calls.Call.{Call}
use Rattle.pr_model.specs.declared.calls.File.TheVariants.{Ctl}
use Rattle.pr_model.specs.declared.calls.Mode.TheVariants.{WriteExcl}
use Rattle.pr_model.specs.declared.calls.Reply.{Reply}
use Rattle.pr_model.specs.declared.events.Entry.{Entry}
use Rattle.pr_num.specs.Control.{fork_mode}
use Rattle.pr_num.specs.declared.messages.Message.TheVariants.{Unset}
use Rattle.pr_truss.specs.Feeding.{fed}
use Rattle.pr_truss.specs.Messages.{message_call}
use Rattle.pr_truss.specs.NextCalls.{call_of, next_call_of}
use Rattle.pr_truss.specs.Trusses.{TrussState, first_of_program, first_truss, idle, opening_or, traced_at}
use Rattle.pr_truss.specs.declared.processes.Traced.{Traced}
use Rattle.pr_truss.specs.declared.stages.Stage.{Stage}
use Rattle.pr_truss.specs.declared.stages.Stage.TheVariants.{Unfollowing, ReadingLwps}
use Rattle.pr_truss_laws.proofs.Replies.FedSteps.{fed-step}
use Rattle.pr_truss_laws.proofs.Files.HeldLemmas.{Fits, at_place}
use Rattle.pr_truss_laws.proofs.Files.OpensLemmas.{held_by}
use Rattle.pr_truss_laws.proofs.Files.OwnLemmas.{Owns}
use Rattle.pr_truss_laws.proofs.Replies.ReplySteps as step
use Rattle.pr_truss_laws.proofs.Replies.ReplySteps.{GoesOn, ReplyStep, StopOver, Turns}
use Rattle.pr_truss_laws.specs.Exchanges.{Exchange, Makes, exchanges, truss_after, truss_at}
use Rattle.pr_truss_laws.specs.Runs.{IsTrussRun}
use Rattle.pr_report_laws.proofs.Files.FileLaws.{HasFiles, IsFileOf}
use Rattle.pr_report_laws.proofs.Files.WatchHistories.{after-append, makes-rest, run-front, run-reaches}
use Rattle.pr_report_laws.proofs.Watching.LeftReads.{left-looks}
use Rattle.pr_report_laws.specs.Grips.{IsLeftIn}
use Rattle.pr_report_laws.specs.Unfollowed.{HasUnfollowed}

-- Before truss looks at a process for the last time it has cleared PR_FORK of it.

-- ---- the step before the look

module _ (t : TrussState) (r : Reply) where
  on-other : (u v : TrussState) (given : Bool) → GoesOn u given v → v.stage ≡ ReadingLwps → ⊥
  on-other u v given (step.polls _ _) is = cc
  on-other u v given _ is = cc

  over-other : (u v : TrussState) (place : ℕ) (child : Option ℕ) → StopOver u place child v → v.stage ≡ ReadingLwps → ⊥
  over-other u v place child (step.runs _) is = cc
  over-other u v place child _ is = cc

  turn-comes : (stage next : Stage) → Turns t r stage next → next ≡ ReadingLwps → stage ≡ Unfollowing
  turn-comes stage next step.unfollowed is = refl
  turn-comes stage next (step.starts _) is = cc
  turn-comes stage next _ is = cc

  -- it comes after the message alone, and leaves the processes as they stood
  record ComesBy (stage : Stage) (v : TrussState) : Type 0 where
    from : stage ≡ Unfollowing
    traced : v.traced ≡ t.traced

  look-comes : (stage : Stage) (v : TrussState) → ReplyStep t r stage v → v.stage ≡ ReadingLwps → ComesBy stage v
  look-comes stage v (step.settles {given = given} {u = u} w on) is = absurd (on-other u v given on is)
  look-comes stage v (step.looks {place = place} {pid = child} {u = u} w over) is =
      absurd (over-other u v place child over is)
  look-comes stage v (step.asks _ _ _ _) is = cc
  look-comes stage v (step.closes w) is = cc
  look-comes stage v (step.loses _) is = cc
  look-comes stage v (step.opens _ step.new_given) is = cc
  look-comes stage v (step.opens _ step.new_child) is = cc
  look-comes stage v (step.learns _ (step.opening_goes _)) is = cc
  look-comes stage v (step.learns _ (step.child_goes _)) is = cc
  look-comes stage v (step.returns w) is = cc
  look-comes stage v (step.turns {next = next} w) is = record { from = turn-comes stage next w is; traced = refl }

-- ---- the exchanges

first-other : (o : Options) → (first_truss o).stage ≡ ReadingLwps → ⊥
unfolding first_truss
first-other o = by o.program
  where
    pids : (x : Option ℕ) → (opening_or (idle o) (idle o) x).stage ≡ ReadingLwps → ⊥
    pids None is = cc
    pids (Some pid) is = cc

    by : (x : Option (List ℕ)) → (first_of_program o x).stage ≡ ReadingLwps → ⊥
    by None is = pids _ is
    by (Some program) is = cc

-- a list is empty, or has a last element
record HasLast {X : Type 0} (xs : List X) : Type 0 where
  front : List X
  last : X
  is : xs ≡ front ++ last ∷ []

last-of : {X : Type 0} (xs : List X) → (xs ≡ []) ⊎ HasLast xs
last-of [] = inl refl
last-of {X} (x ∷ xs) = inr (by (last-of xs))
  where
    by : (xs ≡ []) ⊎ HasLast xs → HasLast (x ∷ xs)
    by (inl none) = record { front = []; last = x; is = ap (λ (ys : List X). x ∷ ys) none }
    by (inr l) = record { front = x ∷ l.front; last = l.last; is = ap (λ (ys : List X). x ∷ ys) l.is }

-- the last call before the look is the message to the first process
record IsUnfollowedLast (o : Options) (xs : List Exchange) : Type 0 where
  earlier : List Exchange
  reply : Reply
  is : xs ≡ earlier ++
      record {
        call = message_call (traced_at (truss_after (first_truss o) xs) 0).control (Unset fork_mode);
        reply = reply;
      }
      ∷ []

module _ (o : Options) (xs : List Exchange) (makes : Makes (first_truss o) xs)
    (stage : (truss_after (first_truss o) xs).stage ≡ ReadingLwps) where
  last-call : HasLast xs → IsUnfollowedLast o xs
  unfolding next_call_of call_of
  last-call l =
      let before : TrussState = truss_after (first_truss o) l.front in
      let later : truss_after (first_truss o) xs ≡ fed before l.last.reply =
      ap (truss_after (first_truss o)) l.is ∙ after-append (first_truss o) l.front (l.last ∷ []) in
      let m : Makes before (l.last ∷ []) =
      makes-rest (first_truss o) l.front (l.last ∷ []) (subst (Makes (first_truss o)) l.is makes) in
      let c =
      look-comes before l.last.reply before.stage (fed before l.last.reply) (fed-step before l.last.reply)
      (ap (λ (u : TrussState). u.stage) (sym later) ∙ stage) in
      let same : (traced_at (truss_after (first_truss o) xs) 0).control ≡ (traced_at before 0).control =
      ap (λ (u : TrussState). (traced_at u 0).control) later
      ∙ ap (λ (ts : List Traced). (at_place ts 0).control) c.traced in
      let unset : Call = message_call (traced_at before 0).control (Unset fork_mode) in
      let called : l.last.call ≡ unset = same_Some l.last.call unset (sym m.0 ∙ ap (call_of before) c.from) in
      record {
        earlier = l.front;
        reply = l.last.reply;
        is =
            l.is
            ∙ ap (λ (d : Call). l.front ++ record { call = d; reply = l.last.reply } ∷ [])
            (called ∙ ap (λ m. message_call m (Unset fork_mode)) (sym same));
      }

  unfollowed-last : IsUnfollowedLast o xs
  unfollowed-last = by (last-of xs)
    where
      by : (xs ≡ []) ⊎ HasLast xs → IsUnfollowedLast o xs
      by (inl none) =
          absurd (first-other o (ap (λ (ys : List Exchange). (truss_after (first_truss o) ys).stage) (sym none)
          ∙ stage))
      by (inr l) = last-call l

-- ---- the history

pub unfollowed-before : (n k : ℕ) (o : Options) (pid : ℕ) (s : TracedState) (h : List Entry) → IsTrussRun n k o s h
    → (truss_at k o h).stage ≡ ReadingLwps → (traced_at (truss_at k o h) 0).pid ≡ pid
    → HasUnfollowed k pid (state_after s h) h
unfollowed-before n k o pid s h run stage own =
    let g = run-reaches n k o s h run in
    let owns : Owns k (truss_at k o h) (state_after s h) = g.owns in
    let files : HasFiles k (truss_at k o h) (state_after s h) = g.files in
    let within : 0 < length (truss_at k o h).traced = subst (Fits (truss_at k o h).traced) stage owns.fits in
    let f : IsFileOf k (state_after s h) (traced_at (truss_at k o h) 0).pid (traced_at (truss_at k o h) 0).control Ctl
    WriteExcl = files.control 0 within in
    let u = unfollowed-last o (exchanges k h) run.makes stage in
    record {
      earlier = u.earlier;
      handle = (traced_at (truss_at k o h) 0).control;
      reply = u.reply;
      is = u.is;
      held = held_by k (traced_at (truss_at k o h) 0).pid 0 Ctl WriteExcl;
      there = f.is;
      of = own;
      file = refl;
    }

-- so it is where truss leaves a process
pub left-unfollowed : (n k : ℕ) (o : Options) (pid : ℕ) (s : TracedState) (before : List Entry) (e : Entry)
    → IsTrussRun n k o s (before ++ e ∷ []) → IsLeftIn k pid s before e
    → HasUnfollowed k pid (state_after s before) before
left-unfollowed n k o pid s before e run left =
    let looks = left-looks n k o pid s before e run left in
    unfollowed-before n k o pid s before (run-front n k o s before e run) looks.0 looks.1

pub ruleset unfollowings = (left-unfollowed)
