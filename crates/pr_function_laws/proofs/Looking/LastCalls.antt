use Rattle.std.proofs.Common.{◌≡◌, ◌≢◌, ◌++◌, ℕ, Bool, true, Option, Some, None, List, [], ◌∷◌, append-nil, refl, sym, subst, ap, ◌∙◌}
use Rattle.std.proofs.lemmas.Bool.{false≢true}
use Rattle.std.proofs.lemmas.Option.{none-some, same_Some}
use Rattle.std.specs.List.{cons_option, slice_get}
use Rattle.pr_line.specs.declared.options.Options.{Options}
use Rattle.pr_model.specs.Legal.{state_after}
use Rattle.pr_model.specs.State.{TracedState}
use Rattle.pr_model.specs.declared.calls.Call.{Call}
use Rattle.pr_model.specs.declared.calls.Call.TheVariants as call
use Rattle.pr_model.specs.declared.calls.Reply.{Reply}
use Rattle.pr_model.specs.declared.calls.Reply.TheVariants as reply
use Rattle.pr_model.specs.declared.events.Entry.{Entry}
use Rattle.pr_num.specs.declared.errnos.Errno.{Errno}
use Rattle.pr_num.specs.declared.errnos.Errno.TheVariants.{Noent}
use Rattle.pr_num.specs.declared.messages.Message.TheVariants as message
use Rattle.pr_truss.specs.Feeding.{fed, with_reply}
use Rattle.pr_truss.specs.FunctionCalls.{call_beside, function_call_of, next_function_call_of, wait_call}
use Rattle.pr_truss.specs.FunctionFeeding.{fed_functions}
use Rattle.pr_truss.specs.NextCalls.{call_of, next_call_of, read_record}
use Rattle.pr_truss.specs.Replies.{answer_of}
use Rattle.pr_truss.specs.Stops.{with_unfollowed}
use Rattle.pr_truss.specs.Trusses.{TrussState, first_of_program, first_truss, idle, opening_or, traced_at}
use Rattle.pr_truss.specs.declared.asides.Aside.{Aside}
use Rattle.pr_truss.specs.declared.asides.Aside.TheVariants.{Nothing, Reading, Planting, Patching, AwaitingStop, Asking, AwaitingAgain}
use Rattle.pr_truss.specs.declared.processes.Traced.{Traced}
use Rattle.pr_truss.specs.declared.replies.Answer.{Answer}
use Rattle.pr_truss.specs.declared.replies.Answer.TheVariants.{Accepted, Interrupted, Gone, Refused}
use Rattle.pr_truss.specs.declared.stages.AfterClosing.TheVariants.{GoOn}
use Rattle.pr_truss.specs.declared.stages.OpeningStep.{OpeningStep}
use Rattle.pr_truss.specs.declared.stages.OpeningStep.TheVariants as opening
use Rattle.pr_truss.specs.declared.stages.Stage.{Stage}
use Rattle.pr_truss.specs.declared.stages.Stage.TheVariants.{OpeningControl, Opening, Polling, ReadingStatus, ReadingText, OpeningChildControl, OpeningChild, Running, Closing, Unfollowing, ReadingLwps, FreeingChild, Finished}
use Rattle.pr_truss_laws.proofs.Files.HeldLemmas.{at_place}
use Rattle.pr_truss_laws.proofs.Replies.AnswerLemmas.{IsAnswer, Refuses, answer-is, other-refuses}
use Rattle.pr_truss_laws.proofs.Replies.FedSteps.{fed-step}
use Rattle.pr_truss_laws.proofs.Replies.ReplySteps as step
use Rattle.pr_truss_laws.proofs.Replies.ReplySteps.{GoesOn, Learns, Opens, ReplyStep, StopOver, Turns}
use Rattle.pr_truss_laws.specs.Business.{is_wait}
use Rattle.pr_truss_laws.specs.Exchanges.{Exchange, IsGranted, Makes, exchange_of, exchanges, truss_after}
use Rattle.pr_truss_laws.specs.Sent.{sends}
use Rattle.pr_report_laws.proofs.Asking.LookStages.{AtLook, Minds, WasWaitedFor, minds}
use Rattle.pr_report_laws.proofs.Files.WatchHistories.{after-append, exchanges-push, no-exchanges}
use Rattle.pr_report_laws.proofs.Watching.NamedSoon.{poll-stage}
use Rattle.pr_report_laws.specs.Looks.{WasNamedNow}
use Rattle.pr_function_laws.proofs.Holding.GivenSteps.{last-same}
use Rattle.pr_function_laws.proofs.LeavingProcesses.LeavingLaws.{calm-exchanges, gone_to, halt_aside, halt_stage, halted-fed, next_aside, next_stage}
use Rattle.pr_function_laws.proofs.NextCalls.PatchCalls.{next-beside, next-staged}
use Rattle.pr_function_laws.proofs.OrdinaryTruss.OrdinaryCalls.{sees-sends, stands-sends}
use Rattle.pr_function_laws.proofs.OrdinaryTruss.OrdinaryEntries as entries
use Rattle.pr_function_laws.proofs.OrdinaryTruss.OrdinaryEntries.{along, front-run}
use Rattle.pr_function_laws.proofs.OrdinaryTruss.OrdinaryExchanges.{IsFit, Turn, goes_on, goes_out, truss-beside}
use Rattle.pr_function_laws.proofs.OrdinaryTruss.OrdinaryFiles.{Follows}
use Rattle.pr_function_laws.proofs.OrdinaryTruss.OrdinaryReplies.{at-ordinary}
use Rattle.pr_function_laws.proofs.OrdinaryTruss.OrdinaryStops.{FitsAside, none-beside}
use Rattle.pr_function_laws.specs.Leaving.{AsksAgain, Directs, HaltStep, Waits, WaitsAgain, halt_call, halt_next}
use Rattle.pr_function_laws.specs.Looks.{BringsToStop, HasDoneWithStop, WasBroughtToStop, asks_again as asks_so, directs, passes_over, waited as was_waited, waited_once_more, waits as waits_so, waits_again}
use Rattle.pr_function_laws.specs.Opened.{IsFunctionRun, functions_at}
use Rattle.pr_function_laws.specs.Ordinary.{IsLike, IsTakenUp, IsTrussBeside, SeesTo, StandsFor, common, entries as sets_entries, exits, faults, in_place, leaves, ordinary, own_fault, refused, runs, same, signals, waits}
use Rattle.pr_function_laws.specs.Runs.{functions_after}

-- What the last call of truss with calls of functions was, where it is about to look at a process: the poll that named
-- the process, the wait of an opening, or the stop before its last look.

-- ---- what is known at a stage

-- where nothing comes before the last look any more
abbrev pub StoppedBy : Aside → ℕ → List Exchange → Type 0
StoppedBy Nothing control xs = WasBroughtToStop control xs
StoppedBy _ control xs = Unit {0}

abbrev pub Recalls : List Exchange → Aside → List Traced → Stage → Type 0
Recalls xs aside ts (Opening place now) = AtLook (at_place ts place).control xs now
Recalls xs aside ts (ReadingStatus place) = WasNamedNow (at_place ts place).control xs
Recalls xs aside ts ReadingLwps = StoppedBy aside (at_place ts 0).control xs
Recalls xs aside ts _ = Unit {0}

-- ---- truss comes to its last look from the message before it alone

on-lwps : {A : Type 0} (u v : TrussState) (given : Bool) → GoesOn u given v → v.stage ≡ ReadingLwps → A
on-lwps u v given (step.finishes _) at = absurd (let e : Finished ≡ ReadingLwps = at in cc)
on-lwps u v given (step.polls _ _) at = absurd (let e : Polling ≡ ReadingLwps = at in cc)
on-lwps u v given (step.unfollows _ _ _) at = absurd (let e : Unfollowing ≡ ReadingLwps = at in cc)
on-lwps u v given (step.closes_first _ _ _) at = absurd (let e : Closing _ _ ≡ ReadingLwps = at in cc)
on-lwps u v given (step.opens_next {pid = pid} _) at = absurd (let e : OpeningControl pid ≡ ReadingLwps = at in cc)

over-lwps : {A : Type 0} (u v : TrussState) (place : ℕ) (pid : Option ℕ) → StopOver u place pid v
    → v.stage ≡ ReadingLwps → A
over-lwps u v place pid (step.runs _) at = absurd (let e : Running place ≡ ReadingLwps = at in cc)
over-lwps u v place pid (step.leaves _) at = absurd (let e : Closing place _ ≡ ReadingLwps = at in cc)
over-lwps u v place pid (step.opens_child {pid = child} _) at =
    absurd (let e : OpeningChildControl place child ≡ ReadingLwps = at in cc)
over-lwps u v place pid (step.frees_child {pid = child} _) at =
    absurd (let e : FreeingChild child _ ≡ ReadingLwps = at in cc)

module _ (u : TrussState) (r : Reply) where
  opens-lwps : {A : Type 0} (stage next : Stage) (place pid : ℕ) → Opens place stage pid next → next ≡ ReadingLwps → A
  opens-lwps stage next place pid step.new_given at = absurd (let e : Opening _ _ ≡ ReadingLwps = at in cc)
  opens-lwps stage next place pid step.new_child at = absurd (let e : OpeningChild _ _ _ ≡ ReadingLwps = at in cc)

  learns-lwps : {A : Type 0} (stage next : Stage) (place : ℕ) (t : Traced) → Learns u r stage place t next
      → next ≡ ReadingLwps → A
  learns-lwps stage next place t (step.opening_goes {next = to} _) at =
      absurd (let e : Opening place to ≡ ReadingLwps = at in cc)
  learns-lwps stage next place t (step.child_goes {next = to} _) at =
      absurd (let e : OpeningChild _ place to ≡ ReadingLwps = at in cc)

  turns-lwps : (stage next : Stage) → Turns u r stage next → next ≡ ReadingLwps → stage ≡ Unfollowing
  turns-lwps stage next step.unfollowed at = refl
  turns-lwps stage next (step.starts _) at = absurd (let e : OpeningControl _ ≡ ReadingLwps = at in cc)
  turns-lwps stage next step.polls_again at = absurd (let e : Polling ≡ ReadingLwps = at in cc)
  turns-lwps stage next (step.is_named {place = place} _) at =
      absurd (let e : ReadingStatus place ≡ ReadingLwps = at in cc)
  turns-lwps stage next (step.frees _) at = absurd (let e : FreeingChild _ _ ≡ ReadingLwps = at in cc)
  turns-lwps stage next step.frees_on at = absurd (let e : FreeingChild _ _ ≡ ReadingLwps = at in cc)
  turns-lwps stage next step.has_finished at = absurd (let e : Finished ≡ ReadingLwps = at in cc)

  step-lwps : (stage : Stage) (v : TrussState) → ReplyStep u r stage v → v.stage ≡ ReadingLwps → stage ≡ Unfollowing
  step-lwps stage v (step.settles {u = z} w on) at = on-lwps z v _ on at
  step-lwps stage v (step.looks {place = place} {pid = pid} {u = z} w over) at = over-lwps z v place pid over at
  step-lwps stage v (step.asks {place = place} {l = l} {range = range} _ _ _ _) at =
      absurd (let e : ReadingText place l range.0 range.1 ≡ ReadingLwps = at in cc)
  step-lwps stage v (step.closes {place = place} {next = next} _) at =
      absurd (let e : Closing place next ≡ ReadingLwps = at in cc)
  step-lwps stage v (step.loses {place = place} {next = next} _) at =
      absurd (let e : Closing place next ≡ ReadingLwps = at in cc)
  step-lwps stage v (step.opens {next = next} {pid = pid} _ w) at = opens-lwps stage next _ pid w at
  step-lwps stage v (step.learns {next = next} {place = place} {t = t} _ w) at = learns-lwps stage next place t w at
  step-lwps stage v (step.returns {parent = parent} _) at = absurd (let e : Running parent ≡ ReadingLwps = at in cc)
  step-lwps stage v (step.turns {next = next} w) at = turns-lwps stage next w at

  fed-lwps : (fed u r).stage ≡ ReadingLwps → u.stage ≡ Unfollowing
  fed-lwps at = step-lwps u.stage (fed u r) (fed-step u r) at

  unfollowed-traced : (a : Answer) → (with_unfollowed u a).traced ≡ u.traced
  unfolding with_unfollowed
  unfollowed-traced Accepted = refl
  unfollowed-traced Interrupted = refl
  unfollowed-traced Gone = refl
  unfollowed-traced (Refused errno) = refl

  fed-traced : u.stage ≡ Unfollowing → (fed u r).traced ≡ u.traced
  unfolding fed with_reply
  fed-traced at = ap (λ stage. (with_reply u r stage).traced) at ∙ unfollowed-traced (answer_of r)

-- ---- an exchange that is like one of a truss

pub makes-join : (ys zs : List Exchange) (s : TrussState) → Makes s ys → Makes (truss_after s ys) zs
    → Makes s (ys ++ zs)
makes-join [] zs s makes later = later
makes-join (y ∷ ys) zs s makes later = (makes.0, makes-join ys zs (fed s y.reply) makes.1 later)

halts-call : (t : Traced) (step : HaltStep) → BringsToStop t.control (halt_call t step)
halts-call t Directs = directs
halts-call t (Waits until) = waits_so
halts-call t AsksAgain = asks_so
halts-call t (WaitsAgain until) = waits_again

-- a refusal that truss passes over does not tell that the process has ended
refused-lives : (r : Reply) (errno : Errno) → answer_of r ≡ Refused errno → r ≡ reply.Fail errno → errno ≢ Noent
unfolding answer_of
refused-lives r errno is refuses ended =
    let clash : Gone ≡ Refused errno = sym (ap answer_of (refuses ∙ ap reply.Fail ended)) ∙ is in cc

-- a wait that was granted, and a poll, are the same
module _ (t : TrussState) where
  like-waits : (x y : Exchange) → IsLike t x y → is_wait y.call ≡ true → sends y.call ≡ true → IsGranted y → x ≡ y
  like-waits x y (same unsent none_own) waits_now sent granted = refl
  like-waits x y (in_place stands) waits_now sent granted = by stands waits_now
    where
      by : {o : Options} {c d : Call} {r : Reply} → StandsFor o c d → is_wait d ≡ true
          → (let a : Exchange = record { call = c; reply = r } in a) ≡ record { call = d; reply = r }
      by (common m is) waiting = refl
      by waits waiting = refl
      by signals waiting = absurd (false≢true waiting)
      by faults waiting = absurd (false≢true waiting)
      by sets_entries waiting = absurd (false≢true waiting)
      by exits waiting = absurd (false≢true waiting)
      by (runs flags is) waiting = absurd (false≢true waiting)
      by leaves waiting = absurd (false≢true waiting)
  like-waits x y (refused {errno = errno} sees may is) waits_now sent granted =
      absurd (none-some errno (sym granted.not_refused))
  like-waits x y (own_fault tells) waits_now sent granted = absurd (false≢true sent)

  like-poll : (x y : Exchange) (handles : List ℕ) → IsLike t x y → y.call ≡ call.Poll handles → x ≡ y
  unfolding next_call_of
  like-poll x y handles (same unsent none_own) polls = refl
  like-poll x y handles (in_place stands) polls =
      let sent = stands-sends stands in absurd (false≢true (sym (ap sends polls) ∙ sent.1))
  like-poll x y handles (refused {errno = errno} sees may is) polls =
      absurd (subst (λ stage. IsTakenUp stage errno) ((poll-stage t handles t.stage (is ∙ ap Some polls)).0) may)
  like-poll x y handles (own_fault tells) polls = cc

-- ---- one entry

module _ (n k : ℕ) (o : Options) (s : TracedState) (before later : List Entry) (e : Entry)
    (run : IsFunctionRun n k o s (before ++ e ∷ later)) where
  abbrev t : TrussState
  t = functions_at k o before

  abbrev u : TrussState
  u = ordinary t

  abbrev v : TrussState
  v = functions_at k o (before ++ e ∷ [])

  abbrev done : List Exchange
  done = exchanges k before

  abbrev RecallsAt : List Exchange → TrussState → Type 0
  RecallsAt xs z = Recalls xs z.aside (ordinary z).traced z.stage

  front : IsFunctionRun n k o s before
  front = front-run n k o s before (e ∷ later) run

  follows : Follows k o t (state_after s before)
  follows = entries.follows n k o s before later e run

  fit : IsFit o t
  fit = let f = follows in f.fit

  beside : IsTrussBeside o done
  beside =
      let f = front in truss-beside o done f.has f.follows_none f.makes (calm-exchanges before n k s f.legal)

  module _ (x : Exchange) (own : exchange_of k e ≡ Some x) where
    abbrev then : List Exchange
    then = done ++ x ∷ []

    made : next_function_call_of t ≡ Some x.call
    made = entries.made n k o s before later e run x own

    pushed-is : v ≡ fed_functions t x.reply
    pushed-is = entries.pushed n k o s before later e run x own

    -- the calls for the stop
    halt-called : (step : HaltStep) → t.stage ≡ halt_stage step → t.aside ≡ halt_aside step
        → x.call ≡ halt_call (traced_at t 0) step
    unfolding call_beside function_call_of
    halt-called Directs at beside =
        let f = fit in same_Some x.call _ (sym made ∙ next-staged o run.has t Unfollowing f.options beside at)
    halt-called (Waits until) at beside =
        let f = fit in
        same_Some x.call _ (sym made ∙ next-beside o run.has t f.options ∙ ap (call_beside t t.stage) beside)
    halt-called AsksAgain at beside =
        let f = fit in
        same_Some x.call _ (sym made ∙ next-beside o run.has t f.options ∙ ap (call_beside t t.stage) beside)
    halt-called (WaitsAgain until) at beside =
        let f = fit in
        same_Some x.call _ (sym made ∙ next-beside o run.has t f.options ∙ ap (call_beside t t.stage) beside)

    did : (control : ℕ) → HasDoneWithStop control x → WasBroughtToStop control then
    did control w = record { earlier = done; last = x; is = refl; halts = w }

    granted-by : answer_of x.reply ≡ Accepted → IsGranted x
    unfolding IsAnswer
    granted-by is = record { not_refused = subst (IsAnswer x.reply) is (answer-is x.reply) }

    -- a row a step and an answer
    halt-over : (step : HaltStep) (a : Answer) → answer_of x.reply ≡ a → x.call ≡ halt_call (traced_at t 0) step
        → next_stage (halt_next step x.reply a) ≡ ReadingLwps
        → StoppedBy (next_aside (halt_next step x.reply a)) (traced_at t 0).control then
    halt-over step Gone is called at = absurd (let clash : Closing 0 GoOn ≡ ReadingLwps = at in cc)
    halt-over step Interrupted is called at = tt
    halt-over step (Refused errno) is called at =
        let w : Refuses x.reply errno = other-refuses x.reply errno is in
        did (traced_at t 0).control
        (passes_over (subst (BringsToStop _) (sym called) (halts-call (traced_at t 0) step)) w.is w.not_interrupted
        (refused-lives x.reply errno is w.is))
    halt-over Directs Accepted is called at = tt
    halt-over (Waits until) Accepted is called at = did (traced_at t 0).control (was_waited called (granted-by is))
    halt-over AsksAgain Accepted is called at = tt
    halt-over (WaitsAgain until) Accepted is called at =
        did (traced_at t 0).control (waited_once_more called (granted-by is))

    stopped-by : (step : HaltStep) → t.stage ≡ halt_stage step → t.aside ≡ halt_aside step → v.stage ≡ ReadingLwps
        → StoppedBy v.aside (traced_at t 0).control then
    stopped-by step at beside looks =
        let f = fit in
        let gone : v ≡ gone_to t (halt_next step x.reply (answer_of x.reply)) =
        pushed-is ∙ halted-fed o run.has step t x.reply f.options at beside in
        subst (λ (z : TrussState). StoppedBy z.aside (traced_at t 0).control then) (sym gone)
        (halt-over step (answer_of x.reply) refl (halt-called step at beside)
        (sym (ap (λ (z : TrussState). z.stage) gone) ∙ looks))

    -- which step of the stop is made before the last look
    which-step : (aside : Aside) → t.aside ≡ aside → t.stage ≡ ReadingLwps → FitsAside aside ReadingLwps
        → sends x.call ≡ true → (step : HaltStep) × ((t.stage ≡ halt_stage step) × (t.aside ≡ halt_aside step))
    unfolding function_call_of call_of
    which-step Nothing idle at fits sent =
        let f = fit in
        let read : x.call ≡ read_record (traced_at t 0).lstatus =
        same_Some x.call _ (sym made ∙ next-staged o run.has t ReadingLwps f.options idle at) in
        absurd (false≢true (sym (ap sends read) ∙ sent))
    which-step (AwaitingStop until) now at fits sent = (Waits until, (at, now))
    which-step Asking now at fits sent = (AsksAgain, (at, now))
    which-step (AwaitingAgain until) now at fits sent = (WaitsAgain until, (at, now))
    which-step (Reading place function) now at fits sent = absurd fits
    which-step (Planting place function) now at fits sent = absurd fits
    which-step (Patching place plants lifts clear) now at fits sent = absurd fits.0

    -- a call that is left out
    out-recalls : (stage : Stage) → t.stage ≡ stage → v.stage ≡ stage → SeesTo t stage x.call
        → Recalls then v.aside u.traced stage
    out-recalls (Opening place opening.Start) at stays sees = tt
    out-recalls (Running place) at stays sees = tt
    out-recalls (ReadingText place l from len) at stays sees = tt
    out-recalls (Closing place next) at stays sees = tt
    out-recalls ReadingLwps at stays sees =
        let f = fit in
        let step =
        which-step t.aside refl at (subst (FitsAside t.aside) at f.fits) (sees-sends t ReadingLwps x.call sees) in
        subst (λ (z : Traced). StoppedBy v.aside z.control then) (sym (at-ordinary t 0))
        (stopped-by step.0 step.1.0 step.1.1 stays)
    out-recalls _ at stays sees = absurd sees

    module _ (y : Exchange) (like : IsLike t x y) (called : next_call_of u ≡ Some y.call)
        (comes : ordinary v ≡ fed u y.reply) where
      -- the exchanges of that truss, with this one
      abbrev ys : List Exchange
      ys = (let b : IsTrussBeside o done = beside in b.others)

      here : truss_after (first_truss o) ys ≡ u
      here = let b : IsTrussBeside o done = beside in b.is

      whole : List Exchange
      whole = ys ++ y ∷ []

      after-whole : truss_after (first_truss o) whole ≡ ordinary v
      unfolding whole
      after-whole =
          after-append (first_truss o) ys (y ∷ []) ∙ ap (λ (z : TrussState). fed z y.reply) here ∙ sym comes

      minded : Minds o whole (ordinary v).traced v.stage
      unfolding whole
      minded =
          let b : IsTrussBeside o done = beside in
          let m =
          minds o whole
          (makes-join ys (y ∷ []) (first_truss o) b.makes (ap next_call_of here ∙ called, tt)) in
          subst (λ (z : TrussState). Minds o whole z.traced z.stage) after-whole m

      last-is : (zs : List Exchange) (z : Exchange) → whole ≡ zs ++ z ∷ [] → y ≡ z
      unfolding whole
      last-is zs z is = last-same ys zs y z is

      waited : (control : ℕ) → WasWaitedFor control whole → WasWaitedFor control then
      waited control w =
          let a = w.waited in
          let is : y ≡ a.last = last-is a.earlier a.last a.is in
          let call_is : y.call ≡ wait_call control w.until message.Stop = ap (λ (z : Exchange). z.call) is ∙ a.call in
          let granted : IsGranted y = subst IsGranted (sym is) a.granted in
          let alike : x ≡ y = like-waits t x y like (ap is_wait call_is) (ap sends call_is) granted in
          record {
            until = w.until;
            waited = record {
              earlier = done;
              last = x;
              is = refl;
              call = ap (λ (z : Exchange). z.call) alike ∙ call_is;
              granted = subst IsGranted (sym alike) granted;
            };
          }

      look-recalls : (control : ℕ) (now : OpeningStep) → AtLook control whole now → AtLook control then now
      look-recalls control opening.ReadLwps w = waited control w
      look-recalls control _ w = tt

      named : (control : ℕ) → WasNamedNow control whole → WasNamedNow control then
      named control w =
          let is = last-is w.earlier _ w.is in
          let alike : x ≡ y = like-poll t x y w.handles like (ap (λ (q : Exchange). q.call) is) in
          record {
            earlier = done;
            handles = w.handles;
            is = ap (λ (q : Exchange). done ++ q ∷ []) (alike ∙ is);
          }

      stopped : v.stage ≡ ReadingLwps → StoppedBy v.aside (at_place (ordinary v).traced 0).control then
      stopped at =
          let f = fit in
          let stage : t.stage ≡ Unfollowing =
          fed-lwps u y.reply (sym (ap (λ (z : TrussState). z.stage) comes) ∙ at) in
          let idle_so : t.aside ≡ Nothing =
          none-beside Unfollowing t.aside (λ place it. it) (λ place plants clear it. it) (λ e. cc)
          (subst (FitsAside t.aside) stage f.fits) in
          let traced_so : (ordinary v).traced ≡ u.traced =
          ap (λ (z : TrussState). z.traced) comes ∙ fed-traced u y.reply stage in
          let control : (traced_at t 0).control ≡ (at_place (ordinary v).traced 0).control =
          sym (ap (λ (ts : List Traced). (at_place ts 0).control) traced_so
          ∙ ap (λ (z : Traced). z.control) (at-ordinary t 0)) in
          subst (λ c. StoppedBy v.aside c then) control (stopped-by Directs stage idle_so at)

      on-recalls : (stage : Stage) → v.stage ≡ stage → Minds o whole (ordinary v).traced stage
          → Recalls then v.aside (ordinary v).traced stage
      on-recalls (Opening place now) at w = look-recalls _ now w
      on-recalls (ReadingStatus place) at w = named _ w
      on-recalls ReadingLwps at w = stopped at
      on-recalls _ at w = tt

    turn-recalls : Turn t x → RecallsAt then v
    turn-recalls (goes_out sees passes stay) =
        let alike : ordinary v ≡ u = ap ordinary pushed-is ∙ stay in
        subst (λ (z : TrussState). Recalls then v.aside z.traced z.stage) (sym alike)
        (out-recalls t.stage refl (ap (λ (z : TrussState). z.stage) alike) sees)
    turn-recalls (goes_on y like called comes) =
        let now : ordinary v ≡ fed u y.reply =
        ap ordinary (entries.pushed n k o s before later e run x own) ∙ comes in
        on-recalls y like called now v.stage refl (minded y like called now)

  entry-recalls : RecallsAt done t → RecallsAt (exchanges k (before ++ e ∷ [])) v
  entry-recalls w = by (exchange_of k e) refl
    where
      pushed : (x : Option Exchange) → exchange_of k e ≡ x
          → exchanges k (before ++ e ∷ []) ≡ done ++ cons_option x []
      pushed x own = exchanges-push k before e ∙ ap (λ z. done ++ cons_option z []) own

      by : (x : Option Exchange) → exchange_of k e ≡ x → RecallsAt (exchanges k (before ++ e ∷ [])) v
      by None own =
          subst (λ xs. RecallsAt xs v) (sym (pushed None own ∙ append-nil done))
          (subst (RecallsAt done) (sym (entries.unmoved n k o s before later e run own)) w)
      by (Some x) own =
          subst (λ xs. RecallsAt xs v) (sym (pushed (Some x) own))
          (turn-recalls x own (entries.turned n k o s before later e run x own))

-- ---- along a history

first-recalls : (o : Options)
    → Recalls [] (first_truss o).aside (ordinary (first_truss o)).traced (first_truss o).stage
unfolding first_truss
first-recalls o = by o.program
  where
    pids : (p : Option ℕ) → Recalls [] (opening_or (idle o) (idle o) p).aside
        (ordinary (opening_or (idle o) (idle o) p)).traced (opening_or (idle o) (idle o) p).stage
    pids None = tt
    pids (Some pid) = tt

    by : (p : Option (List ℕ)) → Recalls [] (first_of_program o p).aside (ordinary (first_of_program o p)).traced
        (first_of_program o p).stage
    by None = pids (slice_get o.pids 0)
    by (Some program) = tt

pub recalls : (n k : ℕ) (o : Options) (s : TracedState) (h : List Entry) → IsFunctionRun n k o s h
    → Recalls (exchanges k h) (functions_at k o h).aside (ordinary (functions_at k o h)).traced
    (functions_at k o h).stage
recalls n k o s h run =
    along (λ es. Recalls (exchanges k es) (functions_at k o es).aside (ordinary (functions_at k o es)).traced
    (functions_at k o es).stage)
    (subst (λ xs. Recalls xs (functions_after (first_truss o) xs).aside
    (ordinary (functions_after (first_truss o) xs)).traced (functions_after (first_truss o) xs).stage)
    (sym (no-exchanges k)) (first-recalls o)) h
    (λ before later e is w. entry-recalls n k o s before later e (subst (IsFunctionRun n k o s) is run) w)
