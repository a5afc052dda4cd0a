use Rattle.std.proofs.Common.{◌≡◌, ◌++◌, ℕ, Bool, true, false, cond, Option, Some, None, List, [], ◌∷◌, length, map, slice_get, refl, sym, subst, ap, ◌∙◌, append_assoc}
use Rattle.std.proofs.lemmas.Bool.{eqb-true}
use Rattle.std.proofs.lemmas.List.{append-nil}
use Rattle.std.proofs.lemmas.List.Quantifiers.{position-Some}
use Rattle.std.proofs.lemmas.Option.{none-some, same_Some}
use Rattle.std.specs.List.{position, slice_set}
use Rattle.std.specs.Option.{option_and_then}
use Rattle.pr_line.specs.declared.events.Event.{Event}
use Rattle.pr_line.specs.declared.options.Options.{Options}
use Rattle.pr_model.specs.Replies.{handle_in}
use Rattle.pr_model.specs.declared.calls.Call.{Call}
use Rattle.pr_model.specs.declared.calls.Call.TheVariants as call
use Rattle.pr_model.specs.declared.calls.Reply.{Reply}
use Rattle.pr_model.specs.declared.calls.Reply.TheVariants as reply
use Rattle.pr_num.specs.Control.{fork_mode}
use Rattle.pr_num.specs.Messages.{spelling}
use Rattle.pr_num.specs.declared.messages.Message.TheVariants as message
use Rattle.pr_rec.specs.declared.lwps.LwpStatus.{LwpStatus}
use Rattle.pr_truss.specs.Feeding.{fed}
use Rattle.pr_truss.specs.Messages.{message_call}
use Rattle.pr_truss.specs.NextCalls.{call_of, next_call_of, opening_call}
use Rattle.pr_truss.specs.Openings.{learnt, step_after}
use Rattle.pr_truss.specs.Processes.{newly_traced}
use Rattle.pr_truss.specs.Replies.{answer_of, ready_in}
use Rattle.pr_truss.specs.Stops.{has_control}
use Rattle.pr_truss.specs.Trusses.{TrussState, first_of_program, first_truss, idle, nobody, opening_or, traced_at}
use Rattle.pr_truss.specs.declared.processes.Traced.{Traced}
use Rattle.pr_truss.specs.declared.replies.Answer.TheVariants.{Accepted}
use Rattle.pr_truss.specs.declared.stages.OpeningStep.{OpeningStep}
use Rattle.pr_truss.specs.declared.stages.OpeningStep.TheVariants as opening
use Rattle.pr_truss.specs.declared.stages.Stage.{Stage}
use Rattle.pr_truss.specs.declared.stages.Stage.TheVariants.{Opening, Polling, ReadingStatus, ReadingText, Unfollowing, ReadingLwps}
use Rattle.pr_truss_laws.proofs.Files.ClosesLemmas.{first-fits}
use Rattle.pr_truss_laws.proofs.Replies.FedSteps.{fed-step}
use Rattle.pr_truss_laws.proofs.Replies.FitLemmas.{fed-fits}
use Rattle.pr_truss_laws.proofs.Files.HeldLemmas.{Fits, at_place, set-at}
use Rattle.pr_truss_laws.proofs.Replies.ReplySteps as step
use Rattle.pr_truss_laws.proofs.Replies.ReplySteps.{GoesOn, IsNew, Learns, Opens, Reads, ReplyStep, StopOver, Turns}
use Rattle.pr_truss_laws.proofs.Replies.TracedChanges.{accepted-granted}
use Rattle.pr_truss_laws.specs.Exchanges.{Exchange, Makes, truss_after}
use Rattle.pr_report_laws.proofs.Files.WatchHistories.{after-append}
use Rattle.pr_report_laws.specs.Looks.{WasCalledLast, WasNamedNow}
use Rattle.pr_report_laws.specs.OwnOpens.{WasLastGranted}

-- What the last call of truss was, where it is about to look at a process, by its own state: the poll that named the
-- process, the wait of an opening, the message before its last look; and where it reads memory, the read of the event.

-- ---- what is known at a stage

-- the wait of an opening was granted
pub record WasWaitedFor (control : ℕ) (xs : List Exchange) : Type 0 where
  pub until : ℕ
  pub waited : WasLastGranted (call.CtlWait control until (spelling message.Stop [])) xs

-- the last call read how the process at this place stands, and told of this lwp, at a new event
pub record WasLookedAt (o : Options) (ts : List Traced) (place : ℕ) (l : LwpStatus) (xs : List Exchange) : Type 0 where
  pub past : List Exchange
  pub read : Exchange
  pub is : xs ≡ past ++ read ∷ []
  pub stage : Stage
  pub at : let t = truss_after (first_truss o) past in t.stage ≡ stage
  pub same : let t = truss_after (first_truss o) past in at_place t.traced place ≡ at_place ts place
  pub reads : Reads (truss_after (first_truss o) past) read.reply stage place (Some l)
  pub event : Event
  pub new : IsNew (truss_after (first_truss o) past) read.reply place l event

abbrev pub AtLook : ℕ → List Exchange → OpeningStep → Type 0
AtLook control xs opening.ReadLwps = WasWaitedFor control xs
AtLook control xs _ = Unit {0}

abbrev pub Minds : Options → List Exchange → List Traced → Stage → Type 0
Minds o xs ts (Opening place now) = AtLook (at_place ts place).control xs now
Minds o xs ts (ReadingStatus place) = WasNamedNow (at_place ts place).control xs
Minds o xs ts (ReadingText place l from len) = WasLookedAt o ts place l xs
Minds o xs ts ReadingLwps = WasCalledLast (message_call (at_place ts 0).control (message.Unset fork_mode)) xs
Minds o xs ts _ = Unit {0}

-- ---- one exchange more

module _ (o : Options) (xs : List Exchange) (s : TrussState) (x : Exchange)
    (here : truss_after (first_truss o) xs ≡ s) (makes : next_call_of s ≡ Some x.call) where
  abbrev then : List Exchange
  then = xs ++ x ∷ []

  calls : call_of s s.stage ≡ Some x.call
  unfolding next_call_of
  calls = makes

  called : (stage : Stage) → s.stage ≡ stage → call_of s stage ≡ Some x.call
  called stage at = ap (call_of s) (sym at) ∙ calls

  on-minds : (u v : TrussState) (given : Bool) → GoesOn u given v → Minds o then v.traced v.stage
  on-minds u v given (step.finishes _) = tt
  on-minds u v given (step.polls _ _) = tt
  on-minds u v given (step.unfollows _ _ _) = tt
  on-minds u v given (step.closes_first _ _ _) = tt
  on-minds u v given (step.opens_next _) = tt

  over-minds : (u v : TrussState) (place : ℕ) (pid : Option ℕ) → StopOver u place pid v
      → Minds o then v.traced v.stage
  over-minds u v place pid (step.runs _) = tt
  over-minds u v place pid (step.leaves _) = tt
  over-minds u v place pid (step.opens_child _) = tt
  over-minds u v place pid (step.frees_child _) = tt

  asks-minds : (stage : Stage) (place : ℕ) (l : LwpStatus) (e : Event) → s.stage ≡ stage
      → Reads s x.reply stage place (Some l) → IsNew s x.reply place l e → WasLookedAt o s.traced place l then
  asks-minds stage place l e at reads new = record {
    past = xs;
    read = x;
    is = refl;
    stage = stage;
    at = ap (λ (t : TrussState). t.stage) here ∙ at;
    same = ap (λ (t : TrussState). at_place t.traced place) here;
    reads = subst (λ (t : TrussState). Reads t x.reply stage place (Some l)) (sym here) reads;
    event = e;
    new = subst (λ (t : TrussState). IsNew t x.reply place l e) (sym here) new;
  }

  -- ---- the wait of an opening

  opening-minds : (place : ℕ) (now next : OpeningStep) → s.stage ≡ Opening place now → answer_of x.reply ≡ Accepted
      → step_after s.options x.reply now ≡ Some next → AtLook (traced_at s place).control then next
  unfolding call_of opening_call step_after
  opening-minds place (opening.AwaitStop until) next at accepted is =
      subst (AtLook (traced_at s place).control then) (same_Some opening.ReadLwps next is) (record {
        until = until;
        waited = record {
          earlier = xs;
          last = x;
          is = refl;
          call = sym (same_Some _ x.call (called (Opening place (opening.AwaitStop until)) at));
          granted = record { not_refused = accepted-granted x.reply accepted };
        };
      })
  opening-minds place opening.TraceExits next at accepted is = by s.options.follow is
    where
      by : (b : Bool) → Some (cond b opening.Follow opening.Start) ≡ Some next
          → AtLook (traced_at s place).control then next
      by true to = subst (AtLook _ then) (same_Some _ next to) tt
      by false to = subst (AtLook _ then) (same_Some _ next to) tt
  opening-minds place opening.Start next at accepted is = absurd (none-some next is)
  opening-minds place opening.OpenStatus next at accepted is = subst (AtLook _ then) (same_Some _ next is) tt
  opening-minds place opening.OpenLstatus next at accepted is = subst (AtLook _ then) (same_Some _ next is) tt
  opening-minds place opening.OpenMemory next at accepted is = subst (AtLook _ then) (same_Some _ next is) tt
  opening-minds place opening.ClearModes next at accepted is = subst (AtLook _ then) (same_Some _ next is) tt
  opening-minds place opening.SetRelease next at accepted is = subst (AtLook _ then) (same_Some _ next is) tt
  opening-minds place opening.Stop next at accepted is = subst (AtLook _ then) (same_Some _ next is) tt
  opening-minds place opening.ReadLwps next at accepted is = subst (AtLook _ then) (same_Some _ next is) tt
  opening-minds place opening.TraceSignals next at accepted is = subst (AtLook _ then) (same_Some _ next is) tt
  opening-minds place opening.TraceFaults next at accepted is = subst (AtLook _ then) (same_Some _ next is) tt
  opening-minds place opening.TraceEntries next at accepted is = subst (AtLook _ then) (same_Some _ next is) tt
  opening-minds place opening.Follow next at accepted is = subst (AtLook _ then) (same_Some _ next is) tt

  learnt-control : (t : Traced) (now : OpeningStep) → (learnt t x.reply now).control ≡ t.control
  unfolding learnt
  learnt-control t opening.OpenStatus = refl
  learnt-control t _ = refl

  learns-minds : (stage next : Stage) (place : ℕ) (t : Traced) → s.stage ≡ stage → answer_of x.reply ≡ Accepted
      → Fits s.traced stage → Learns s x.reply stage place t next → Minds o then (slice_set s.traced place t) next
  learns-minds stage next place t at accepted f (step.opening_goes {now = now} {next = to} after) =
      subst (λ control. AtLook control then to)
      (sym (ap (λ (u : Traced). u.control) (set-at s.traced place t f.0) ∙ learnt-control (traced_at s place) now))
      (opening-minds place now to at accepted after)
  learns-minds stage next place t at accepted f (step.child_goes _) = tt

  opens-minds : (stage next : Stage) (pid : ℕ) → Opens (length s.traced) stage pid next
      → Minds o then (s.traced ++ newly_traced pid (handle_in x.reply) ∷ []) next
  opens-minds stage next pid step.new_given = tt
  opens-minds stage next pid step.new_child = tt

  -- ---- the poll, and the message before the last look

  ready-is : (r : Reply) (handle : ℕ) → ready_in r ≡ Some handle → r ≡ reply.Ready handle
  unfolding ready_in
  ready-is (reply.Ready other) handle is = ap reply.Ready (same_Some other handle is)
  ready-is _ handle is = absurd (none-some handle is)

  polled : (place : ℕ) → s.stage ≡ Polling
      → option_and_then (λ handle. position (has_control handle) s.traced) (ready_in x.reply) ≡ Some place
      → WasNamedNow (traced_at s place).control then
  unfolding call_of
  polled place at is = by (ready_in x.reply) refl is
    where
      by : (y : Option ℕ) → ready_in x.reply ≡ y
          → option_and_then (λ handle. position (has_control handle) s.traced) y ≡ Some place
          → WasNamedNow (traced_at s place).control then
      by None ready found = absurd (none-some place found)
      by (Some handle) ready found =
          let p = position-Some (has_control handle) s.traced place nobody found in
          let control : (traced_at s place).control ≡ handle = eqb-true _ handle p.1 in
          let handles : List ℕ = map (λ (u : Traced). u.control) s.traced in
          let call_is : x.call ≡ call.Poll handles = sym (same_Some _ x.call (called Polling at)) in
          subst (λ c. WasNamedNow c then) (sym control) (record {
            earlier = xs;
            handles = handles;
            is =
                ap (λ (c : Call). let y : Exchange = record { call = c; reply = x.reply } in xs ++ y ∷ []) call_is
                ∙ ap (λ (r : Reply). let y : Exchange = record { call = call.Poll handles; reply = r } in xs ++ y ∷ [])
                (ready-is x.reply handle ready);
          })

  turns-minds : (stage next : Stage) → s.stage ≡ stage → Turns s x.reply stage next → Minds o then s.traced next
  unfolding call_of
  turns-minds stage next at (step.is_named {place = place} is) = polled place at is
  turns-minds stage next at step.unfollowed = record {
    earlier = xs;
    last = x;
    is = refl;
    call = sym (same_Some _ x.call (called Unfollowing at));
  }
  turns-minds stage next at (step.starts _) = tt
  turns-minds stage next at step.polls_again = tt
  turns-minds stage next at (step.frees _) = tt
  turns-minds stage next at step.frees_on = tt
  turns-minds stage next at step.has_finished = tt

  step-minds : (stage : Stage) (v : TrussState) → s.stage ≡ stage → Fits s.traced stage → ReplyStep s x.reply stage v
      → Minds o then v.traced v.stage
  step-minds stage v at f (step.settles {u = u} w on) = on-minds u v _ on
  step-minds stage v at f (step.looks {place = place} {pid = pid} {u = u} w over) = over-minds u v place pid over
  step-minds stage v at f (step.asks {place = place} {l = l} {e = e} reads new _ _) =
      asks-minds stage place l e at reads new
  step-minds stage v at f (step.closes _) = tt
  step-minds stage v at f (step.loses _) = tt
  step-minds stage v at f (step.opens {next = next} {pid = pid} _ w) = opens-minds stage next pid w
  step-minds stage v at f (step.learns {next = next} {place = place} {t = t} accepted w) =
      learns-minds stage next place t at accepted f w
  step-minds stage v at f (step.returns _) = tt
  step-minds stage v at f (step.turns {next = next} w) = turns-minds stage next at w

  fed-minds : Fits s.traced s.stage → Minds o then (fed s x.reply).traced (fed s x.reply).stage
  fed-minds f = step-minds s.stage (fed s x.reply) refl f (fed-step s x.reply)

-- ---- from its start on

named-first : (o : Options) (p : Option ℕ)
    → Minds o [] (opening_or (idle o) (idle o) p).traced (opening_or (idle o) (idle o) p).stage
named-first o None = tt
named-first o (Some pid) = tt

program-first : (o : Options) (p : Option (List ℕ))
    → Minds o [] (first_of_program o p).traced (first_of_program o p).stage
program-first o None = named-first o (slice_get o.pids 0)
program-first o (Some program) = tt

first-minds : (o : Options) → Minds o [] (first_truss o).traced (first_truss o).stage
unfolding first_truss
first-minds o = program-first o o.program

after-minds : (o : Options) (ys xs : List Exchange) (s : TrussState) → truss_after (first_truss o) xs ≡ s
    → Fits s.traced s.stage → Minds o xs s.traced s.stage → Makes s ys
    → let t = truss_after (first_truss o) (xs ++ ys) in Minds o (xs ++ ys) t.traced t.stage
after-minds o [] xs s here f w makes =
    subst (λ zs. let t = truss_after (first_truss o) zs in Minds o zs t.traced t.stage) (sym (append-nil xs))
    (subst (λ (t : TrussState). Minds o xs t.traced t.stage) (sym here) w)
after-minds o (y ∷ ys) xs s here f w makes =
    subst (λ zs. let t = truss_after (first_truss o) zs in Minds o zs t.traced t.stage)
    (append_assoc xs (y ∷ []) ys)
    (after-minds o ys (xs ++ y ∷ []) (fed s y.reply)
    (after-append (first_truss o) xs (y ∷ []) ∙ ap (λ t. fed t y.reply) here) (fed-fits s y.reply f)
    (fed-minds o xs s y here makes.0 f) makes.1)

pub minds : (o : Options) (xs : List Exchange) → Makes (first_truss o) xs
    → let t = truss_after (first_truss o) xs in Minds o xs t.traced t.stage
minds o xs makes = after-minds o xs [] (first_truss o) refl (first-fits o) (first-minds o) makes
