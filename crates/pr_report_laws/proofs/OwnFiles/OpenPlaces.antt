use Rattle.std.proofs.Common.{◌≡◌, ◌≢◌, ◌++◌, nat_lt, ℕ, zero, suc, Bool, true, false, cond, Option, Some, None, List, [], ◌∷◌, length, refl, sym, subst, ap, ◌∙◌, append_assoc, arith, inl, inr, lt-ltb}
use Rattle.std.proofs.lemmas.Bool.{false≢true}
use Rattle.std.proofs.lemmas.List.{append-nil, get_or_push}
use Rattle.std.proofs.lemmas.List.Elements.{All-append, All-cons, All-nil}
use Rattle.std.proofs.lemmas.Option.{none-some, same_Some}
use Rattle.std.specs.List.{All, slice_get, slice_set}
use Rattle.pr_line.specs.Events.{event_of}
use Rattle.pr_line.specs.declared.events.Event.{Event}
use Rattle.pr_line.specs.declared.options.Options.{Options}
use Rattle.pr_model.specs.Replies.{handle_in}
use Rattle.pr_model.specs.declared.calls.Call.{Call}
use Rattle.pr_model.specs.declared.calls.Call.TheVariants as call
use Rattle.pr_model.specs.declared.calls.File.{File}
use Rattle.pr_model.specs.declared.calls.File.TheVariants.{Ctl, Lstatus, Status}
use Rattle.pr_model.specs.declared.calls.Mode.{Mode}
use Rattle.pr_model.specs.declared.calls.Mode.TheVariants.{Read}
use Rattle.pr_model.specs.declared.calls.Reply.TheVariants as reply
use Rattle.pr_num.specs.Control.{rlc_mode}
use Rattle.pr_num.specs.declared.errnos.Errno.{Errno}
use Rattle.pr_num.specs.declared.errnos.Errno.TheVariants.{Intr}
use Rattle.pr_num.specs.declared.messages.Message.TheVariants.{Set}
use Rattle.pr_rec.specs.declared.lwps.LwpStatus.{LwpStatus}
use Rattle.pr_truss.specs.Children.{child_learnt, child_step_after}
use Rattle.pr_truss.specs.Feeding.{fed}
use Rattle.pr_truss.specs.Messages.{message_call}
use Rattle.pr_truss.specs.NextCalls.{call_of, child_call, freeing_call, next_call_of, open_control, opening_call}
use Rattle.pr_truss.specs.Openings.{step_after}
use Rattle.pr_truss.specs.Processes.{newly_traced}
use Rattle.pr_truss.specs.Records.{child_of}
use Rattle.pr_truss.specs.Replies.{answer_of}
use Rattle.pr_truss.specs.Stops.{asked_range, followed_child}
use Rattle.pr_truss.specs.Trusses.{TrussState, first_of_program, first_truss, idle, nobody, opening_or, traced_at}
use Rattle.pr_truss.specs.declared.processes.Traced.{Traced}
use Rattle.pr_truss.specs.declared.replies.Answer.TheVariants.{Accepted, Interrupted}
use Rattle.pr_truss.specs.declared.stages.AfterClosing.{AfterClosing}
use Rattle.pr_truss.specs.declared.stages.AfterClosing.TheVariants.{GoOn, OpenNext, RunParent}
use Rattle.pr_truss.specs.declared.stages.ChildStep.{ChildStep}
use Rattle.pr_truss.specs.declared.stages.ChildStep.TheVariants as child
use Rattle.pr_truss.specs.declared.stages.FreeingStep.{FreeingStep}
use Rattle.pr_truss.specs.declared.stages.FreeingStep.TheVariants as freeing
use Rattle.pr_truss.specs.declared.stages.OpeningStep.{OpeningStep}
use Rattle.pr_truss.specs.declared.stages.OpeningStep.TheVariants as opening
use Rattle.pr_truss.specs.declared.stages.Stage.{Stage}
use Rattle.pr_truss.specs.declared.stages.Stage.TheVariants.{Spawning, OpeningControl, Opening, Polling, ReadingStatus, ReadingText, OpeningChildControl, OpeningChild, Closing, Unfollowing, ReadingLwps, FreeingChild, Finished}
use Rattle.pr_truss_laws.proofs.Replies.AnswerLemmas.{Refuses}
use Rattle.pr_truss_laws.proofs.Files.ClosesLemmas.{first-fits}
use Rattle.pr_truss_laws.proofs.Replies.FedSteps.{fed-step}
use Rattle.pr_truss_laws.proofs.Replies.FitLemmas.{fed-fits, last-within}
use Rattle.pr_truss_laws.proofs.Files.HeldLemmas.{Fits, at_place, set-at}
use Rattle.pr_truss_laws.proofs.OwnBusiness.KnownLemmas.{called as called-so}
use Rattle.pr_truss_laws.proofs.Replies.OptionLemmas.{fed-options}
use Rattle.pr_truss_laws.proofs.Replies.ReplySteps as step
use Rattle.pr_truss_laws.proofs.Replies.ReplySteps.{Closes, GoesOn, IsNew, Learns, Looks, Opens, Reads, ReplyStep, Settles, StopOver, Turns}
use Rattle.pr_truss_laws.proofs.Replies.TracedChanges.{accepted-granted}
use Rattle.pr_truss_laws.specs.Business.{is_wait}
use Rattle.pr_truss_laws.specs.Exchanges.{Exchange, Makes, truss_after}
use Rattle.pr_report_laws.proofs.Files.WatchHistories.{after-append}
use Rattle.pr_report_laws.proofs.FollowedChildren.FollowForks.{event-text}
use Rattle.pr_report_laws.proofs.FollowedChildren.FollowUnseen.{IsFresh, Stays, reached-fresh}
use Rattle.pr_report_laws.proofs.Invariant.OpeningRuns.{child-pid}
use Rattle.pr_report_laws.proofs.Replies.OpeningParts.{learnt-pid}
use Rattle.pr_report_laws.proofs.Watching.BeginLaws.{at-options}
use Rattle.pr_report_laws.proofs.Watching.NamedSoon.{poll-stage}
use Rattle.pr_report_laws.specs.Follows.{ReadsFork}
use Rattle.pr_report_laws.specs.Freed.{ReadsLastFork}
use Rattle.pr_report_laws.specs.LaterSends.{WasJustOpened}
use Rattle.pr_report_laws.specs.OwnOpens.{IsGoingOn, IsToBeOpened, MayOpenNext, WasLastGranted, WasLastReleased, child_status, lstatus, memory, status}

-- Where truss comes to an open, by its own state.

-- ---- what is known at a stage

-- the last call told of a child by the state of truss
pub record IsFork (o : Options) (of : ℕ) (xs : List Exchange) : Type 0 where
  pub follow : o.follow ≡ true
  pub past : List Exchange
  pub read : Exchange
  pub is : xs ≡ past ++ read ∷ []
  pub place : ℕ
  pub reads : ReadsFork (truss_after (first_truss o) past) read.reply place of

-- the same where truss leaves the parent
pub record IsLastFork (o : Options) (of : ℕ) (xs : List Exchange) : Type 0 where
  pub follow : o.follow ≡ true
  pub past : List Exchange
  pub read : Exchange
  pub is : xs ≡ past ++ read ∷ []
  pub reads : ReadsLastFork (truss_after (first_truss o) past) read.reply of

pub data ComesToControl (o : Options) (pid : ℕ) (xs : List Exchange) : Type 0 where
  by_words : IsToBeOpened o pid xs → ComesToControl o pid xs
  by_fork : IsFork o pid xs → ComesToControl o pid xs
  by_last_fork : IsLastFork o pid xs → ComesToControl o pid xs

-- no child comes of what an lwp stands on
abbrev pub Childless : LwpStatus → Type 0
Childless l = (c : ℕ) → child_of l ≡ Some c → ⊥

abbrev pub AtOpening : ℕ → List Exchange → OpeningStep → Type 0
AtOpening pid xs opening.OpenStatus = WasLastGranted (open_control pid) xs
AtOpening pid xs opening.OpenLstatus = WasLastGranted (call.Open pid 0 Status Read) xs
AtOpening pid xs opening.OpenMemory = WasLastGranted (call.Open pid 0 Lstatus Read) xs
AtOpening pid xs _ = Unit {0}

abbrev pub AtChild : ℕ → ℕ → List Exchange → ChildStep → Type 0
AtChild pid control xs child.SetRelease = WasJustOpened pid control xs
AtChild pid control xs child.OpenStatus = WasLastReleased pid xs
AtChild pid control xs child.OpenLstatus = WasLastGranted (call.Open pid 0 Status Read) xs
AtChild pid control xs child.OpenMemory = WasLastGranted (call.Open pid 0 Lstatus Read) xs
AtChild pid control xs child.Start = Unit {0}

abbrev pub Knows : Options → List Exchange → Bool → List Traced → Stage → Type 0
Knows o xs leaving ts (Spawning program) = All IsGoingOn xs
Knows o xs leaving ts (OpeningControl pid) = IsToBeOpened o pid xs
Knows o xs leaving ts (Opening place now) = All IsGoingOn xs × AtOpening (at_place ts place).pid xs now
Knows o xs leaving ts (ReadingText place l from len) = Childless l
Knows o xs leaving ts (OpeningChildControl parent pid) = IsFork o pid xs
Knows o xs leaving ts (OpeningChild parent place now) =
    AtChild (at_place ts place).pid (at_place ts place).control xs now
Knows o xs leaving ts (Closing place OpenNext) = All IsGoingOn xs
Knows o xs leaving ts Unfollowing = leaving ≡ true
Knows o xs leaving ts ReadingLwps = leaving ≡ true
Knows o xs leaving ts (FreeingChild pid freeing.OpenControl) = IsLastFork o pid xs
Knows o xs leaving ts (FreeingChild pid (freeing.SetRelease control)) = WasJustOpened pid control xs
Knows o xs leaving ts _ = Unit {0}

-- ---- what no child comes of

module _ (o : Options) (l : LwpStatus) where
  asked-childless : (e : Event) (range : ℕ × ℕ) → event_of l ≡ Some e → asked_range o e ≡ Some range → Childless l
  unfolding asked_range
  asked-childless e range is asked c made =
      by o.count (sym (ap (λ (t : Option (ℕ × ℕ)). cond o.count None t) (event-text l c e made is)) ∙ asked)
    where
      by : (b : Bool) → cond {A = Option (ℕ × ℕ)} b None None ≡ Some range → ⊥
      by true none = none-some range none
      by false none = none-some range none

none-less : (n : ℕ) → nat_lt 0 n ≡ false → n ≡ 0
none-less zero is = refl
none-less (suc n) is = absurd (false≢true (sym is ∙ lt-ltb 0 (suc n) (omega arith)))

-- ---- one exchange more

module _ (o : Options) (xs : List Exchange) (s : TrussState) (x : Exchange) (same : s.options ≡ o)
    (here : truss_after (first_truss o) xs ≡ s) (makes : next_call_of s ≡ Some x.call) where
  abbrev then : List Exchange
  then = xs ++ x ∷ []

  calls : call_of s s.stage ≡ Some x.call
  unfolding next_call_of
  calls = makes

  called : (stage : Stage) → s.stage ≡ stage → call_of s stage ≡ Some x.call
  called stage at = ap (call_of s) (sym at) ∙ calls

  -- the last call was the one of this stage, and was granted
  granted-so : (c : Call) → Some c ≡ Some x.call → answer_of x.reply ≡ Accepted → WasLastGranted c then
  granted-so c is accepted = record {
    earlier = xs;
    last = x;
    is = refl;
    call = sym (same_Some c x.call is);
    granted = record { not_refused = accepted-granted x.reply accepted };
  }

  -- ---- truss goes on with what it was given

  going : (stage : Stage) → s.stage ≡ stage → (stage ≡ Polling → ⊥)
      → (is_wait x.call ≡ true → x.reply ≢ reply.Fail Intr) → All IsGoingOn xs → All IsGoingOn then
  going stage at other on all =
      All-append IsGoingOn xs (x ∷ []) all
      (All-cons IsGoingOn x [] (record {
        no_poll = record {
          other = λ handles is. other ((poll-stage s handles stage (called stage at ∙ ap Some is)).0);
        };
        goes_on = on;
      }) (All-nil IsGoingOn))

  not-wait : (c : Call) → Some c ≡ Some x.call → is_wait c ≡ false → is_wait x.call ≡ true → x.reply ≢ reply.Fail Intr
  not-wait c is none waits = absurd (false≢true (sym none ∙ ap is_wait (same_Some c x.call is) ∙ waits))

  not-interrupted : answer_of x.reply ≡ Accepted → is_wait x.call ≡ true → x.reply ≢ reply.Fail Intr
  unfolding answer_of
  not-interrupted accepted waits interrupted = by (sym (ap answer_of interrupted) ∙ accepted)
    where
      by : Interrupted ≡ Accepted → ⊥
      by e = cc

  not-refused : (errno : Errno) → Refuses x.reply errno → is_wait x.call ≡ true → x.reply ≢ reply.Fail Intr
  not-refused errno refuses waits interrupted = refuses.not_interrupted (by (sym refuses.is ∙ interrupted))
    where
      by : reply.Fail errno ≡ reply.Fail Intr → errno ≡ Intr
      by e = cc

  settles-going : (stage : Stage) (given : Bool) (u : TrussState) → s.stage ≡ stage
      → Knows o xs s.leaving s.traced stage → Settles s x.reply stage given u → given ≡ true → All IsGoingOn then
  unfolding call_of
  settles-going stage given u at w (step.refuses_control {pid = pid} _ _) is =
      going (OpeningControl pid) at (λ e. cc) (not-wait _ (called (OpeningControl pid) at) refl) w.still
  settles-going stage given u at w (step.ends_opening {place = place} {now = now} accepted _) is =
      going (Opening place now) at (λ e. cc) (not-interrupted accepted) w.0
  settles-going stage given u at w (step.closed_next {place = place} _) is =
      going (Closing place OpenNext) at (λ e. cc) (not-wait _ (called (Closing place OpenNext) at) refl) w
  settles-going stage given u at w _ is = absurd (false≢true is)

  on-knows : (u v : TrussState) (given : Bool) → u.options ≡ o → (given ≡ true → All IsGoingOn then) → GoesOn u given v
      → Knows o then v.leaving v.traced v.stage
  on-knows u v given its all (step.opens_next {pid = pid} is) = record {
    given = inl (record {
      place = u.begun;
      is = subst (λ (p : Options). slice_get p.pids u.begun ≡ Some pid) its is;
    });
    still = all refl;
  }
  on-knows u v given its all (step.polls _ _) = tt
  on-knows u v given its all (step.unfollows on _ _) = on
  on-knows u v given its all (step.finishes _) = tt
  on-knows u v given its all (step.closes_first _ _ _) = tt

  -- ---- the child of which a read tells

  abbrev ForkFor : Bool → ℕ → Type 0
  ForkFor false c = IsFork o c then
  ForkFor true c = IsLastFork o c then

  abbrev ChildFor : Bool → Option ℕ → Type 0
  ChildFor b None = Unit {0}
  ChildFor b (Some c) = ForkFor b c

  over-knows : (u v : TrussState) (place : ℕ) (pid : Option ℕ) → ChildFor u.leaving pid → StopOver u place pid v
      → Knows o then v.leaving v.traced v.stage
  over-knows u v place pid c (step.opens_child {pid = of} off) = subst (λ b. ForkFor b of) off c
  over-knows u v place pid c (step.frees_child {pid = of} on) = subst (λ b. ForkFor b of) on c
  over-knows u v place pid c (step.runs _) = tt
  over-knows u v place pid c (step.leaves _) = tt

  followed-for : (l : LwpStatus) → ((c : ℕ) → o.follow ≡ true → child_of l ≡ Some c → ForkFor s.leaving c)
      → ChildFor s.leaving (followed_child s.options l)
  unfolding followed_child
  followed-for l f = by s.options.follow (child_of l) (ap (λ (p : Options). p.follow) same) refl
    where
      by : (b : Bool) (of : Option ℕ) → b ≡ o.follow → child_of l ≡ of → ChildFor s.leaving (cond b of None)
      by true None follow is = tt
      by true (Some c) follow is = f c (sym follow) is
      by false of follow is = tt

  stays-off : (place : ℕ) → s.stage ≡ ReadingStatus place → s.leaving ≡ false
  stays-off place at =
      let fresh : IsFresh s = subst IsFresh here (reached-fresh o xs) in subst (Stays s.leaving) at fresh.stays

  reads-fork : (stage : Stage) (place : ℕ) (lwp : Option LwpStatus) (l : LwpStatus) (e : Event) → s.stage ≡ stage
      → Knows o xs s.leaving s.traced stage → Reads s x.reply stage place lwp → lwp ≡ Some l → IsNew s x.reply place l e
      → (c : ℕ) → o.follow ≡ true → child_of l ≡ Some c → ForkFor s.leaving c
  reads-fork stage place lwp l e at w (step.reads_status _) tells new c follow made =
      subst (λ b. ForkFor b c) (sym (stays-off place at)) (record {
        follow = follow;
        past = xs;
        read = x;
        is = refl;
        place = place;
        reads =
            subst (λ (t : TrussState). ReadsFork t x.reply place c) (sym here) (record {
              stage = at;
              new = none-less (traced_at s place).old new.none_old;
              lwp = l;
              read = tells;
              event = new.stands;
              made = made;
            });
      })
  reads-fork stage place lwp l e at w (step.reads_none _) tells new c follow made = absurd (none-some l tells)
  reads-fork stage place lwp l e at w (step.reads_lwps _) tells new c follow made =
      subst (λ b. ForkFor b c) (sym w) (record {
        follow = follow;
        past = xs;
        read = x;
        is = refl;
        reads =
            subst (λ (t : TrussState). ReadsLastFork t x.reply c) (sym here) (record {
              stage = at;
              new = none-less (traced_at s place).old new.none_old;
              unseen = new.unseen;
              lwp = l;
              first = tells;
              made = made;
            });
      })

  looks-child : (stage : Stage) (place : ℕ) (pid : Option ℕ) (u : TrussState) → s.stage ≡ stage
      → Knows o xs s.leaving s.traced stage → Looks s x.reply stage place pid u → ChildFor u.leaving pid
  looks-child stage place pid u at w (step.passes _) = tt
  looks-child stage place pid u at w (step.passes_old _ _ _) = tt
  looks-child stage place pid u at w (step.passes_event {l = l} {e = e} reads new _) =
      followed-for l (reads-fork stage place (Some l) l e at w reads refl new)
  looks-child stage place pid u at w (step.shows {l = l} {e = e} reads new _ _) =
      followed-for l (reads-fork stage place (Some l) l e at w reads refl new)
  looks-child stage place pid u at w (step.shows_text {l = l}) = followed-for l (λ c follow made. absurd (w c made))

  -- ---- the other replies

  closes-knows : (stage : Stage) (place : ℕ) (next : AfterClosing) (u : TrussState) → s.stage ≡ stage
      → Knows o xs s.leaving s.traced stage → Closes s x.reply stage place next u
      → Knows o then u.leaving u.traced (Closing place next)
  closes-knows stage place next u at w (step.refuses_opening {now = now} errno refuses) =
      going (Opening place now) at (λ e. cc) (not-refused errno refuses) w.0
  closes-knows stage place next u at w (step.refuses_child _ _) = tt
  closes-knows stage place next u at w (step.child_ended _) = tt
  closes-knows stage place next u at w (step.status_ended _) = tt
  closes-knows stage place next u at w (step.text_ended _) = tt
  closes-knows stage place next u at w (step.run_ended _) = tt
  closes-knows stage place next u at w (step.left_ended _) = tt
  closes-knows stage place next u at w (step.looked_last _) = tt
  closes-knows stage place next u at w step.freed_last = tt
  closes-knows stage place next u at w (step.freed_none _) = tt
  closes-knows stage place next u at w (step.refuses_free _ _) = tt

  loses-knows : (place : ℕ) (next : AfterClosing) (ts : List Traced) → s.stage ≡ Closing place next
      → Knows o xs s.leaving s.traced (Closing place next) → Knows o then s.leaving ts (Closing place next)
  unfolding call_of
  loses-knows place OpenNext ts at w =
      going (Closing place OpenNext) at (λ e. cc) (not-wait _ (called (Closing place OpenNext) at) refl) w
  loses-knows place GoOn ts at w = tt
  loses-knows place (RunParent parent) ts at w = tt

  pushed : (pid : ℕ) → at_place (s.traced ++ newly_traced pid (handle_in x.reply) ∷ []) (length s.traced)
      ≡ newly_traced pid (handle_in x.reply)
  pushed pid = get_or_push s.traced (newly_traced pid (handle_in x.reply)) nobody (length s.traced) refl

  opens-knows : (stage next : Stage) (pid : ℕ) → s.stage ≡ stage → answer_of x.reply ≡ Accepted
      → Knows o xs s.leaving s.traced stage → Opens (length s.traced) stage pid next
      → Knows o then s.leaving (s.traced ++ newly_traced pid (handle_in x.reply) ∷ []) next
  unfolding call_of newly_traced granted-so
  opens-knows stage next pid at accepted w step.new_given = (
    going (OpeningControl pid) at (λ e. cc) (not-interrupted accepted) w.still,
    subst (λ (u : Traced). WasLastGranted (open_control u.pid) then) (sym (pushed pid))
        (granted-so (open_control pid) (called (OpeningControl pid) at) accepted),
  )
  opens-knows stage next pid at accepted w (step.new_child {parent = parent}) =
      subst (λ (u : Traced). WasJustOpened u.pid u.control then) (sym (pushed pid)) (record {
        opens = granted-so (open_control pid) (called (OpeningChildControl parent pid) at) accepted;
        gives = refl;
      })

  -- the opening of a process, a step on
  opening-next : (place : ℕ) (now next : OpeningStep) → s.stage ≡ Opening place now → answer_of x.reply ≡ Accepted
      → step_after s.options x.reply now ≡ Some next → AtOpening (traced_at s place).pid then next
  unfolding call_of opening_call step_after
  opening-next place opening.OpenStatus next at accepted is =
      subst (AtOpening (traced_at s place).pid then) (same_Some opening.OpenLstatus next is)
      (granted-so _ (called (Opening place opening.OpenStatus) at) accepted)
  opening-next place opening.OpenLstatus next at accepted is =
      subst (AtOpening (traced_at s place).pid then) (same_Some opening.OpenMemory next is)
      (granted-so _ (called (Opening place opening.OpenLstatus) at) accepted)
  opening-next place opening.TraceExits next at accepted is = by s.options.follow next is
    where
      by : (b : Bool) (to : OpeningStep) → Some (cond b opening.Follow opening.Start) ≡ Some to
          → AtOpening (traced_at s place).pid then to
      by true to is = subst (AtOpening (traced_at s place).pid then) (same_Some _ to is) tt
      by false to is = subst (AtOpening (traced_at s place).pid then) (same_Some _ to is) tt
  opening-next place opening.Start next at accepted is = absurd (none-some next is)
  opening-next place opening.OpenMemory next at accepted is = subst (AtOpening _ then) (same_Some _ next is) tt
  opening-next place opening.ClearModes next at accepted is = subst (AtOpening _ then) (same_Some _ next is) tt
  opening-next place opening.SetRelease next at accepted is = subst (AtOpening _ then) (same_Some _ next is) tt
  opening-next place opening.Stop next at accepted is = subst (AtOpening _ then) (same_Some _ next is) tt
  opening-next place (opening.AwaitStop until) next at accepted is = subst (AtOpening _ then) (same_Some _ next is) tt
  opening-next place opening.ReadLwps next at accepted is = subst (AtOpening _ then) (same_Some _ next is) tt
  opening-next place opening.TraceSignals next at accepted is = subst (AtOpening _ then) (same_Some _ next is) tt
  opening-next place opening.TraceFaults next at accepted is = subst (AtOpening _ then) (same_Some _ next is) tt
  opening-next place opening.TraceEntries next at accepted is = subst (AtOpening _ then) (same_Some _ next is) tt
  opening-next place opening.Follow next at accepted is = subst (AtOpening _ then) (same_Some _ next is) tt

  -- PCRSET of a child comes right behind the open of its control file
  released-so : (t : Traced) → WasJustOpened t.pid t.control xs
      → Some (message_call t.control (Set rlc_mode)) ≡ Some x.call → answer_of x.reply ≡ Accepted
      → WasLastReleased t.pid then
  unfolding granted-so
  released-so t w is accepted =
      let first : WasLastGranted (open_control t.pid) xs = w.opens in
      let x0 : Exchange = first.last in
      record {
        opening = x0;
        sets =
            granted-so (message_call (handle_in x0.reply) (Set rlc_mode))
            (ap (λ n. Some (message_call n (Set rlc_mode))) w.gives ∙ is) accepted;
        earlier = first.earlier;
        before = first.is;
        opens = first.call;
        granted = first.granted;
      }

  child-next : (parent place : ℕ) (now next : ChildStep) → s.stage ≡ OpeningChild parent place now
      → answer_of x.reply ≡ Accepted → Knows o xs s.leaving s.traced (OpeningChild parent place now)
      → child_step_after now ≡ Some next
      → AtChild (traced_at s place).pid (traced_at s place).control then next
  unfolding call_of child_call child_step_after
  child-next parent place child.SetRelease next at accepted w is =
      subst (AtChild (traced_at s place).pid (traced_at s place).control then) (same_Some child.OpenStatus next is)
      (released-so (traced_at s place) w (called (OpeningChild parent place child.SetRelease) at) accepted)
  child-next parent place child.OpenStatus next at accepted w is =
      subst (AtChild (traced_at s place).pid (traced_at s place).control then) (same_Some child.OpenLstatus next is)
      (granted-so _ (called (OpeningChild parent place child.OpenStatus) at) accepted)
  child-next parent place child.OpenLstatus next at accepted w is =
      subst (AtChild (traced_at s place).pid (traced_at s place).control then) (same_Some child.OpenMemory next is)
      (granted-so _ (called (OpeningChild parent place child.OpenLstatus) at) accepted)
  child-next parent place child.OpenMemory next at accepted w is =
      subst (AtChild (traced_at s place).pid (traced_at s place).control then) (same_Some child.Start next is) tt
  child-next parent place child.Start next at accepted w is = absurd (none-some next is)

  child-control : (t : Traced) (now : ChildStep) → (child_learnt t x.reply now).control ≡ t.control
  unfolding child_learnt
  child-control t child.SetRelease = refl
  child-control t _ = refl

  learns-knows : (stage next : Stage) (place : ℕ) (t : Traced) → s.stage ≡ stage → answer_of x.reply ≡ Accepted
      → Fits s.traced stage → Knows o xs s.leaving s.traced stage → Learns s x.reply stage place t next
      → Knows o then s.leaving (slice_set s.traced place t) next
  learns-knows stage next place t at accepted f w (step.opening_goes {now = now} {next = to} after) = (
    going (Opening place now) at (λ e. cc) (not-interrupted accepted) w.0,
    subst (λ pid. AtOpening pid then to)
        (sym (ap (λ (u : Traced). u.pid) (set-at s.traced place t f.0) ∙ learnt-pid (traced_at s place) x.reply now))
        (opening-next place now to at accepted after),
  )
  learns-knows stage next place t at accepted f w (step.child_goes {parent = parent} {now = now} {next = to} after) =
      let within = last-within s.traced parent place f.0 in
      let there : at_place (slice_set s.traced place t) place ≡ t = set-at s.traced place t within in
      subst (λ pid. AtChild pid (at_place (slice_set s.traced place t) place).control then to)
      (sym (ap (λ (u : Traced). u.pid) there ∙ child-pid (traced_at s place) x.reply now))
      (subst (λ control. AtChild (traced_at s place).pid control then to)
      (sym (ap (λ (u : Traced). u.control) there ∙ child-control (traced_at s place) now))
      (child-next parent place now to at accepted w after))

  turns-knows : (stage next : Stage) → s.stage ≡ stage → Knows o xs s.leaving s.traced stage
      → Turns s x.reply stage next → Knows o then s.leaving s.traced next
  unfolding call_of freeing_call granted-so
  turns-knows stage next at w (step.starts {program = program} accepted) = record {
    given = inr (record {
      before = xs;
      program = _;
      held = true;
      reply = x.reply;
      after = [];
      is = called-so xs s x makes _ (ap (call_of s) at);
      granted = accepted-granted x.reply accepted;
      gives = refl;
    });
    still = going (Spawning program) at (λ e. cc) (not-interrupted accepted) w;
  }
  turns-knows stage next at w step.polls_again = tt
  turns-knows stage next at w (step.is_named _) = tt
  turns-knows stage next at w step.unfollowed = w
  turns-knows stage next at w (step.frees {pid = pid} accepted) = record {
    opens = granted-so (open_control pid) (called (FreeingChild pid freeing.OpenControl) at) accepted;
    gives = refl;
  }
  turns-knows stage next at w step.frees_on = tt
  turns-knows stage next at w step.has_finished = tt

  step-knows : (stage : Stage) (v : TrussState) → s.stage ≡ stage → Fits s.traced stage
      → Knows o xs s.leaving s.traced stage → ReplyStep s x.reply stage v → v.options ≡ o
      → Knows o then v.leaving v.traced v.stage
  step-knows stage v at f w (step.settles {given = given} {u = u} settles on) its =
      let staged = step.on-staged on in
      on-knows u v given (sym staged.options ∙ its) (settles-going stage given u at w settles) on
  step-knows stage v at f w (step.looks {place = place} {pid = pid} {u = u} looks over) its =
      over-knows u v place pid (looks-child stage place pid u at w looks) over
  step-knows stage v at f w (step.asks {l = l} {e = e} {range = range} _ new _ asked) its =
      asked-childless s.options l e range new.is asked
  step-knows stage v at f w (step.closes {place = place} {next = next} {u = u} closes) its =
      closes-knows stage place next u at w closes
  step-knows stage v at f w (step.loses {place = place} {next = next} {t = t} _) its =
      loses-knows place next (slice_set s.traced place t) at w
  step-knows stage v at f w (step.opens {next = next} {pid = pid} accepted opens) its =
      opens-knows stage next pid at accepted w opens
  step-knows stage v at f w (step.learns {next = next} {place = place} {t = t} accepted learns) its =
      learns-knows stage next place t at accepted f w learns
  step-knows stage v at f w (step.returns _) its = tt
  step-knows stage v at f w (step.turns {next = next} turns) its = turns-knows stage next at w turns

  fed-knows : Fits s.traced s.stage → Knows o xs s.leaving s.traced s.stage
      → Knows o then (fed s x.reply).leaving (fed s x.reply).traced (fed s x.reply).stage
  fed-knows f w =
      step-knows s.stage (fed s x.reply) refl f w (fed-step s x.reply) (fed-options s x.reply ∙ same)

-- ---- the call of a stage

module _ (o : Options) (xs : List Exchange) (s : TrussState) (pid id : ℕ) (mode : Mode) where
  abbrev opens_ctl : Call
  opens_ctl = call.Open pid id Ctl mode

  opening-apart : {A : Type 0} (t : Traced) (now : OpeningStep) → opening_call s.options t now ≡ opens_ctl → A
  unfolding opening_call
  opening-apart t opening.OpenStatus is = cc
  opening-apart t opening.OpenLstatus is = cc
  opening-apart t opening.OpenMemory is = cc
  opening-apart t _ is = cc

  child-apart : {A : Type 0} (t : Traced) (now : ChildStep) → child_call t now ≡ opens_ctl → A
  unfolding child_call
  child-apart t child.OpenStatus is = cc
  child-apart t child.OpenLstatus is = cc
  child-apart t child.OpenMemory is = cc
  child-apart t _ is = cc

  freeing-control : (of : ℕ) (now : FreeingStep) → Knows o xs s.leaving s.traced (FreeingChild of now)
      → freeing_call of now ≡ opens_ctl → ComesToControl o pid xs
  unfolding freeing_call
  freeing-control of freeing.OpenControl w is =
      let this : of ≡ pid = cc in by_last_fork (subst (λ p. IsLastFork o p xs) this w)
  freeing-control of _ w is = cc

  stage-control : (stage : Stage) → Knows o xs s.leaving s.traced stage → call_of s stage ≡ Some opens_ctl
      → ComesToControl o pid xs
  unfolding call_of
  stage-control (OpeningControl of) w is =
      let this : of ≡ pid = cc in by_words (subst (λ p. IsToBeOpened o p xs) this w)
  stage-control (OpeningChildControl parent of) w is =
      let this : of ≡ pid = cc in by_fork (subst (λ p. IsFork o p xs) this w)
  stage-control (FreeingChild of now) w is = freeing-control of now w (same_Some _ _ is)
  stage-control (Opening place now) w is = opening-apart (traced_at s place) now (same_Some _ _ is)
  stage-control (OpeningChild parent place now) w is = child-apart (traced_at s place) now (same_Some _ _ is)
  stage-control Finished w is = absurd (none-some opens_ctl is)
  stage-control _ w is = cc

  -- another file than the control file
  module _ (f : File) (other : f ≢ Ctl) where
    abbrev opens_other : Call
    opens_other = call.Open pid id f mode

    same-open : {p i : ℕ} {g : File} {m : Mode} → call.Open p i g m ≡ opens_other → (p ≡ pid) × (g ≡ f)
    same-open is = (cc, cc)

    may : {p i : ℕ} {g : File} {m : Mode} → call.Open p i g m ≡ opens_other → MayOpenNext p xs g → MayOpenNext pid xs f
    may {g = g} is w =
        let same = same-open is in
        subst (λ (e : File). MayOpenNext pid xs e) same.1 (subst (λ (p : ℕ). MayOpenNext p xs g) same.0 w)

    opening-other : (t : Traced) (now : OpeningStep) → AtOpening t.pid xs now
        → opening_call s.options t now ≡ opens_other → MayOpenNext pid xs f
    unfolding opening_call
    opening-other t opening.OpenStatus w is = may is (status w)
    opening-other t opening.OpenLstatus w is = may is (lstatus w)
    opening-other t opening.OpenMemory w is = may is (memory w)
    opening-other t opening.ClearModes w is = cc
    opening-other t opening.SetRelease w is = cc
    opening-other t opening.Stop w is = cc
    opening-other t (opening.AwaitStop until) w is = cc
    opening-other t opening.ReadLwps w is = cc
    opening-other t opening.TraceSignals w is = cc
    opening-other t opening.TraceFaults w is = cc
    opening-other t opening.TraceEntries w is = cc
    opening-other t opening.TraceExits w is = cc
    opening-other t opening.Follow w is = cc
    opening-other t opening.Start w is = cc

    child-other : (t : Traced) (now : ChildStep) → AtChild t.pid t.control xs now → child_call t now ≡ opens_other
        → MayOpenNext pid xs f
    unfolding child_call
    child-other t child.OpenStatus w is = may is (child_status w)
    child-other t child.OpenLstatus w is = may is (lstatus w)
    child-other t child.OpenMemory w is = may is (memory w)
    child-other t child.SetRelease w is = cc
    child-other t child.Start w is = cc

    no-control : {A : Type 0} {p i : ℕ} {m : Mode} → call.Open p i Ctl m ≡ opens_other → A
    no-control is = absurd (other (sym (same-open is).1))

    freeing-other : {A : Type 0} (of : ℕ) (now : FreeingStep) → freeing_call of now ≡ opens_other → A
    unfolding freeing_call
    freeing-other of freeing.OpenControl is = no-control is
    freeing-other of _ is = cc

    stage-other : (stage : Stage) → Knows o xs s.leaving s.traced stage → call_of s stage ≡ Some opens_other
        → MayOpenNext pid xs f
    unfolding call_of
    stage-other (Opening place now) w is = opening-other (traced_at s place) now w.1 (same_Some _ _ is)
    stage-other (OpeningChild parent place now) w is = child-other (traced_at s place) now w (same_Some _ _ is)
    stage-other (OpeningControl of) w is = no-control (same_Some _ opens_other is)
    stage-other (OpeningChildControl parent of) w is = no-control (same_Some _ opens_other is)
    stage-other (FreeingChild of now) w is = freeing-other of now (same_Some _ opens_other is)
    stage-other Finished w is = absurd (none-some opens_other is)
    stage-other _ w is = cc

-- ---- from its start on

named-first : (o : Options) (p : Option ℕ) → slice_get o.pids 0 ≡ p
    → Knows o [] (opening_or (idle o) (idle o) p).leaving (opening_or (idle o) (idle o) p).traced
    (opening_or (idle o) (idle o) p).stage
named-first o None is = tt
named-first o (Some pid) is =
    record { given = inl (record { place = 0; is = is }); still = All-nil IsGoingOn }

program-first : (o : Options) (p : Option (List ℕ))
    → Knows o [] (first_of_program o p).leaving (first_of_program o p).traced (first_of_program o p).stage
program-first o None = named-first o (slice_get o.pids 0) refl
program-first o (Some program) = All-nil IsGoingOn

first-knows : (o : Options)
    → Knows o [] (first_truss o).leaving (first_truss o).traced (first_truss o).stage
unfolding first_truss
first-knows o = program-first o o.program

after-knows : (o : Options) (ys xs : List Exchange) (s : TrussState) → s.options ≡ o
    → truss_after (first_truss o) xs ≡ s → Fits s.traced s.stage → Knows o xs s.leaving s.traced s.stage → Makes s ys
    → let t = truss_after (first_truss o) (xs ++ ys) in Knows o (xs ++ ys) t.leaving t.traced t.stage
after-knows o [] xs s same here f w makes =
    subst (λ zs. let t = truss_after (first_truss o) zs in Knows o zs t.leaving t.traced t.stage) (sym (append-nil xs))
    (subst (λ (t : TrussState). Knows o xs t.leaving t.traced t.stage) (sym here) w)
after-knows o (y ∷ ys) xs s same here f w makes =
    subst (λ zs. let t = truss_after (first_truss o) zs in Knows o zs t.leaving t.traced t.stage)
    (append_assoc xs (y ∷ []) ys)
    (after-knows o ys (xs ++ y ∷ []) (fed s y.reply) (fed-options s y.reply ∙ same)
    (after-append (first_truss o) xs (y ∷ []) ∙ ap (λ t. fed t y.reply) here) (fed-fits s y.reply f)
    (fed-knows o xs s y same here makes.0 f w) makes.1)

pub known : (o : Options) (xs : List Exchange) → Makes (first_truss o) xs
    → let t = truss_after (first_truss o) xs in Knows o xs t.leaving t.traced t.stage
known o xs makes = after-knows o xs [] (first_truss o) (at-options o []) refl (first-fits o) (first-knows o) makes

pub comes-control : (o : Options) (xs : List Exchange) (pid id : ℕ) (mode : Mode) → Makes (first_truss o) xs
    → next_call_of (truss_after (first_truss o) xs) ≡ Some (call.Open pid id Ctl mode) → ComesToControl o pid xs
unfolding next_call_of
comes-control o xs pid id mode makes is =
    let t = truss_after (first_truss o) xs in
    stage-control o xs t pid id mode t.stage (known o xs makes) is

pub comes-other : (o : Options) (xs : List Exchange) (pid id : ℕ) (f : File) (mode : Mode) → f ≢ Ctl
    → Makes (first_truss o) xs
    → next_call_of (truss_after (first_truss o) xs) ≡ Some (call.Open pid id f mode) → MayOpenNext pid xs f
unfolding next_call_of
comes-other o xs pid id f mode other makes is =
    let t = truss_after (first_truss o) xs in
    stage-other o xs t pid id mode f other t.stage (known o xs makes) is
