use Rattle.std.proofs.Common.{◌≡◌, ◌≢◌, ◌⊎◌, ◌++◌, ℕ, Bool, true, false, cond, Option, Some, None, List, [], ◌∷◌, append-nil, append_assoc, refl, sym, subst, ap, ◌∙◌, inl, inr}
use Rattle.std.proofs.lemmas.Bool.{false≢true}
use Rattle.std.proofs.lemmas.List.Elements.{All-append, All-cons, All-head, All-nil, All-tail}
use Rattle.std.proofs.lemmas.Option.{none-some, same_Some}
use Rattle.std.specs.List.{All}
use Rattle.pr_line.specs.declared.options.Options.{Options}
use Rattle.pr_model.specs.declared.calls.Call.{Call}
use Rattle.pr_model.specs.declared.calls.Reply.{Reply}
use Rattle.pr_model.specs.declared.calls.Reply.TheVariants as reply
use Rattle.pr_num.specs.declared.errnos.Errno.{Errno}
use Rattle.pr_num.specs.declared.errnos.Errno.TheVariants.{Intr, Noent}
use Rattle.pr_rec.specs.declared.lwps.LwpStatus.{LwpStatus}
use Rattle.pr_report_laws.proofs.Asking.HeldRefused.{other-more}
use Rattle.pr_report_laws.proofs.Watching.HistoryParts.{all-rest}
use Rattle.pr_report_laws.proofs.Watching.NamedSoon.{poll-stage}
use Rattle.pr_report_laws.specs.HeldRefusals.{refusals_of}
use Rattle.pr_report_laws.specs.OwnOpens.{IsGoingOn}
use Rattle.pr_truss.specs.Feeding.{fed}
use Rattle.pr_truss.specs.FunctionFeeding.{fed_functions}
use Rattle.pr_truss.specs.Marks.{has_functions}
use Rattle.pr_truss.specs.NextCalls.{call_of, next_call_of}
use Rattle.pr_truss.specs.Records.{child_of}
use Rattle.pr_truss.specs.Replies.{answer_of}
use Rattle.pr_truss.specs.Stops.{followed_child}
use Rattle.pr_truss.specs.Trusses.{TrussState, first_of_program, first_truss, idle, opening_or}
use Rattle.pr_truss.specs.declared.processes.Traced.{Traced}
use Rattle.pr_truss.specs.declared.replies.Answer.TheVariants.{Accepted, Interrupted}
use Rattle.pr_truss.specs.declared.stages.AfterClosing.{AfterClosing}
use Rattle.pr_truss.specs.declared.stages.AfterClosing.TheVariants.{GoOn, OpenNext, RunParent}
use Rattle.pr_truss.specs.declared.stages.OpeningStep.TheVariants as opening
use Rattle.pr_truss.specs.declared.stages.Stage.{Stage}
use Rattle.pr_truss.specs.declared.stages.Stage.TheVariants.{Spawning, OpeningControl, Opening, Polling, ReadingStatus, ReadingText, OpeningChildControl, OpeningChild, Running, Closing, ReadingLwps, FreeingChild}
use Rattle.pr_truss_laws.proofs.Replies.AnswerLemmas.{Refuses}
use Rattle.pr_truss_laws.proofs.Replies.FedSteps.{fed-step}
use Rattle.pr_truss_laws.proofs.Replies.ReplySteps as step
use Rattle.pr_truss_laws.proofs.Replies.ReplySteps.{Closes, GoesOn, Learns, Looks, Opens, ReplyStep, Returns, Settles, StopOver, Turns, on-staged, over-staged}
use Rattle.pr_truss_laws.specs.Business.{is_wait}
use Rattle.pr_truss_laws.specs.Exchanges.{Exchange}
use Rattle.pr_truss_laws.specs.Sent.{sends}
use Rattle.pr_truss_laws.specs.Soon.{IsNoPoll}
use Rattle.pr_function_laws.proofs.OrdinaryTruss.OrdinaryCalls.{sees-sends, stands-sends}
use Rattle.pr_function_laws.proofs.OrdinaryTruss.OrdinaryExchanges.{IsFit, Turn, first-fit, goes_on, goes_out, next-fit, turn}
use Rattle.pr_function_laws.specs.Ordinary.{IsLike, IsTakenUp, LiftsAtLast, PlantsAtFirst, SeesTo, StandsFor, clears_fault, common, entries, exits, faults, in_place, leaves, lifts_at_last, ordinary, own_fault, plants_at_first, reads_code, refused, runs, same, signals, waits}
use Rattle.pr_function_laws.specs.Runs.{MakesFunctionCalls, functions_after}
use Rattle.pr_function_laws.specs.Soon.{IsCalm}

-- As long as truss opens what it was given it has not polled, and no wait of it was interrupted. Truss that follows no
-- children opens nothing else. Where it reads the status of a process it has polled.

abbrev pub Going : List Exchange → Stage → Type 0
Going done (Spawning program) = All IsGoingOn done
Going done (OpeningControl pid) = All IsGoingOn done
Going done (Opening place now) = All IsGoingOn done
Going done (Closing place OpenNext) = All IsGoingOn done
Going done (OpeningChildControl parent pid) = ⊥
Going done (OpeningChild parent place now) = ⊥
Going done (FreeingChild pid now) = ⊥
Going done (ReadingStatus place) = All IsGoingOn done → ⊥
Going done _ = Unit {0}

-- ---- one exchange more of a truss, or one like it

module _ (done : List Exchange) (u : TrussState) (y x : Exchange) (off : u.options.follow ≡ false)
    (next : next_call_of u ≡ Some y.call) (alike : IsGoingOn y → IsGoingOn x) (back : IsNoPoll x → IsNoPoll y) where
  abbrev then : List Exchange
  then = done ++ x ∷ []

  calls : call_of u u.stage ≡ Some y.call
  unfolding next_call_of
  calls = next

  called : (stage : Stage) → u.stage ≡ stage → call_of u stage ≡ Some y.call
  called stage at = ap (call_of u) (sym at) ∙ calls

  going : (stage : Stage) → u.stage ≡ stage → (stage ≡ Polling → ⊥)
      → (is_wait y.call ≡ true → y.reply ≢ reply.Fail Intr) → All IsGoingOn done → All IsGoingOn then
  going stage at other on all =
      All-append IsGoingOn done (x ∷ []) all
      (All-cons IsGoingOn x [] (alike (record {
        no_poll = record {
          other = λ handles is. other ((poll-stage u handles stage (called stage at ∙ ap Some is)).0);
        };
        goes_on = on;
      })) (All-nil IsGoingOn))

  not-wait : (c : Call) → Some c ≡ Some y.call → is_wait c ≡ false → is_wait y.call ≡ true → y.reply ≢ reply.Fail Intr
  not-wait c is none waiting = absurd (false≢true (sym none ∙ ap is_wait (same_Some c y.call is) ∙ waiting))

  accepted-on : answer_of y.reply ≡ Accepted → is_wait y.call ≡ true → y.reply ≢ reply.Fail Intr
  unfolding answer_of
  accepted-on accepted waiting interrupted =
      let d : Interrupted ≡ Accepted = sym (ap answer_of interrupted) ∙ accepted in cc

  refused-on : (errno : Errno) → Refuses y.reply errno → is_wait y.call ≡ true → y.reply ≢ reply.Fail Intr
  refused-on errno refuses waiting interrupted =
      refuses.not_interrupted (let d : reply.Fail errno ≡ reply.Fail Intr = sym refuses.is ∙ interrupted in cc)

  settles-going : (stage : Stage) (given : Bool) (v : TrussState) → u.stage ≡ stage → Going done stage
      → Settles u y.reply stage given v → given ≡ true → All IsGoingOn then
  unfolding call_of
  settles-going stage given v at w (step.refuses_control {pid = pid} _ _) is =
      going (OpeningControl pid) at (λ e. cc) (not-wait _ (called (OpeningControl pid) at) refl) w
  settles-going stage given v at w (step.ends_opening {place = place} {now = now} accepted _) is =
      going (Opening place now) at (λ e. cc) (accepted-on accepted) w
  settles-going stage given v at w (step.closed_next {place = place} _) is =
      going (Closing place OpenNext) at (λ e. cc) (not-wait _ (called (Closing place OpenNext) at) refl) w
  settles-going stage given v at w _ is = absurd (false≢true is)

  goes-on : (v w : TrussState) (given : Bool) → (given ≡ true → All IsGoingOn then) → GoesOn v given w
      → Going then w.stage
  goes-on v w given all (step.opens_next is) = all refl
  goes-on v w given all (step.polls _ _) = tt
  goes-on v w given all (step.unfollows _ _ _) = tt
  goes-on v w given all (step.finishes _) = tt
  goes-on v w given all (step.closes_first _ _ _) = tt

  -- it follows no child
  unfollowed : (l : LwpStatus) → followed_child u.options l ≡ None
  unfolding followed_child
  unfollowed l = ap (λ b. cond {A = Option ℕ} b (child_of l) None) off

  childless : (stage : Stage) (place : ℕ) (pid : Option ℕ) (v : TrussState) → Looks u y.reply stage place pid v
      → pid ≡ None
  childless stage place pid v (step.passes _) = refl
  childless stage place pid v (step.passes_old _ _ _) = refl
  childless stage place pid v (step.passes_event {l = l} _ _ _) = unfollowed l
  childless stage place pid v (step.shows {l = l} _ _ _ _) = unfollowed l
  childless stage place pid v (step.shows_text {l = l}) = unfollowed l

  over-going : (v w : TrussState) (place : ℕ) (pid : Option ℕ) → pid ≡ None → StopOver v place pid w
      → Going then w.stage
  over-going v w place pid none (step.runs _) = tt
  over-going v w place pid none (step.leaves _) = tt
  over-going v w place pid none (step.opens_child {pid = child} _) = absurd (none-some child (sym none))
  over-going v w place pid none (step.frees_child {pid = child} _) = absurd (none-some child (sym none))

  closes-going : (stage : Stage) (place : ℕ) (after : AfterClosing) (v : TrussState) → u.stage ≡ stage
      → Going done stage → Closes u y.reply stage place after v → Going then (Closing place after)
  closes-going stage place after v at w (step.refuses_opening {now = now} errno refuses) =
      going (Opening place now) at (λ e. cc) (refused-on errno refuses) w
  closes-going stage place after v at w (step.refuses_child _ _) = tt
  closes-going stage place after v at w (step.child_ended _) = tt
  closes-going stage place after v at w (step.status_ended _) = tt
  closes-going stage place after v at w (step.text_ended _) = tt
  closes-going stage place after v at w (step.run_ended _) = tt
  closes-going stage place after v at w (step.left_ended _) = tt
  closes-going stage place after v at w (step.looked_last _) = tt
  closes-going stage place after v at w step.freed_last = tt
  closes-going stage place after v at w (step.freed_none _) = tt
  closes-going stage place after v at w (step.refuses_free _ _) = tt

  loses-going : (place : ℕ) (after : AfterClosing) → u.stage ≡ Closing place after → Going done (Closing place after)
      → Going then (Closing place after)
  unfolding call_of
  loses-going place OpenNext at w =
      going (Closing place OpenNext) at (λ e. cc) (not-wait _ (called (Closing place OpenNext) at) refl) w
  loses-going place GoOn at w = tt
  loses-going place (RunParent parent) at w = tt

  opens-going : (stage to : Stage) (place pid : ℕ) → u.stage ≡ stage → answer_of y.reply ≡ Accepted
      → Going done stage → Opens place stage pid to → Going then to
  opens-going stage to place pid at accepted w step.new_given =
      going (OpeningControl pid) at (λ e. cc) (accepted-on accepted) w
  opens-going stage to place pid at accepted w step.new_child = absurd w

  learns-going : (stage to : Stage) (place : ℕ) (t : Traced) → u.stage ≡ stage → answer_of y.reply ≡ Accepted
      → Going done stage → Learns u y.reply stage place t to → Going then to
  learns-going stage to place t at accepted w (step.opening_goes {now = now} _) =
      going (Opening place now) at (λ e. cc) (accepted-on accepted) w
  learns-going stage to place t at accepted w (step.child_goes _) = absurd w

  -- the poll that named a process
  has-polled : u.stage ≡ Polling → All IsGoingOn then → ⊥
  unfolding call_of
  has-polled at all =
      let on : IsGoingOn x = All-head IsGoingOn x [] (all-rest IsGoingOn done (x ∷ []) all) in
      let none : IsNoPoll y = back on.no_poll in
      none.other _ (sym (same_Some _ y.call (called Polling at)))

  turns-going : (stage to : Stage) → u.stage ≡ stage → Going done stage → Turns u y.reply stage to → Going then to
  turns-going stage to at w (step.starts {program = program} accepted) =
      going (Spawning program) at (λ e. cc) (accepted-on accepted) w
  turns-going stage to at w step.polls_again = tt
  turns-going stage to at w (step.is_named _) = has-polled at
  turns-going stage to at w step.unfollowed = tt
  turns-going stage to at w (step.frees _) = absurd w
  turns-going stage to at w step.frees_on = absurd w
  turns-going stage to at w step.has_finished = tt

  step-going : (stage : Stage) (v : TrussState) → u.stage ≡ stage → Going done stage → ReplyStep u y.reply stage v
      → Going then v.stage
  step-going stage v at w (step.settles {given = given} {u = z} settled on) =
      goes-on z v given (settles-going stage given z at w settled) on
  step-going stage v at w (step.looks {place = place} {pid = pid} {u = z} looked over) =
      over-going z v place pid (childless stage place pid z looked) over
  step-going stage v at w (step.asks _ _ _ _) = tt
  step-going stage v at w (step.closes {place = place} {next = after} {u = z} closed) =
      closes-going stage place after z at w closed
  step-going stage v at w (step.loses {place = place} {next = after} _) = loses-going place after at w
  step-going stage v at w (step.opens {next = to} {pid = pid} accepted opened) =
      opens-going stage to _ pid at accepted w opened
  step-going stage v at w (step.learns {next = to} {place = place} {t = t} accepted learns) =
      learns-going stage to place t at accepted w learns
  step-going stage v at w (step.returns _) = tt
  step-going stage v at w (step.turns {next = to} turns) = turns-going stage to at w turns

  fed-going : Going done u.stage → Going then (fed u y.reply).stage
  fed-going w = step-going u.stage (fed u y.reply) refl w (fed-step u y.reply)

-- ---- what it says of a process that it cannot trace

module _ (done : List Exchange) (u : TrussState) (r : Reply) (pid : ℕ) where
  -- nothing new, or it is to open what it was given
  abbrev pub Tells : TrussState → Type 0
  Tells v = (refusals_of pid v.reports ≡ refusals_of pid u.reports) ⊎ All IsGoingOn done

  settles-tells : (stage : Stage) (given : Bool) (v : TrussState) → Going done stage → Settles u r stage given v
      → Tells v
  settles-tells stage given v w (step.refuses_control _ _) = inr w
  settles-tells stage given v w (step.refuses_start _ _) = inl (other-more pid u.reports _ refl)
  settles-tells stage given v w (step.interrupts_text _ _) = inl (other-more pid u.reports _ refl)
  settles-tells stage given v w _ = inl refl

  looks-tells : (stage : Stage) (place : ℕ) (child : Option ℕ) (v : TrussState) → Looks u r stage place child v
      → Tells v
  looks-tells stage place child v (step.shows _ _ _ _) = inl (other-more pid u.reports _ refl)
  looks-tells stage place child v step.shows_text = inl (other-more pid u.reports _ refl)
  looks-tells stage place child v _ = inl refl

  closes-tells : (stage : Stage) (place : ℕ) (after : AfterClosing) (v : TrussState) → Going done stage
      → Closes u r stage place after v → Tells v
  closes-tells stage place after v w (step.refuses_opening _ _) = inr w
  closes-tells stage place after v w (step.text_ended _) = inl (other-more pid u.reports _ refl)
  closes-tells stage place after v w (step.refuses_free _ _) = absurd w
  closes-tells stage place after v w (step.refuses_child _ _) = absurd w
  closes-tells stage place after v w _ = inl refl

  returns-tells : (stage : Stage) (parent : ℕ) (v : TrussState) → Going done stage → Returns u r stage parent v
      → Tells v
  returns-tells stage parent v w (step.refuses_child_control _ _) = absurd w
  returns-tells stage parent v w _ = inl refl

  step-tells : (stage : Stage) (v : TrussState) → Going done stage → ReplyStep u r stage v → Tells v
  step-tells stage v w (step.settles {u = z} settled on) =
      let it = on-staged on in
      subst (λ rs. (refusals_of pid rs ≡ refusals_of pid u.reports) ⊎ All IsGoingOn done) (sym it.reports)
      (settles-tells stage _ z w settled)
  step-tells stage v w (step.looks {u = z} looked over) =
      let it = over-staged over in
      subst (λ rs. (refusals_of pid rs ≡ refusals_of pid u.reports) ⊎ All IsGoingOn done) (sym it.reports)
      (looks-tells stage _ _ z looked)
  step-tells stage v w (step.closes {u = z} closed) = closes-tells stage _ _ z w closed
  step-tells stage v w (step.returns {u = z} returned) = returns-tells stage _ z w returned
  step-tells stage v w _ = inl refl

  pub fed-tells : Going done u.stage → Tells (fed u r)
  fed-tells w = step-tells u.stage (fed u r) w (fed-step u r)

-- ---- an exchange that is like one of a truss

message-going : (x : Exchange) → sends x.call ≡ true → (is_wait x.call ≡ true → x.reply ≢ reply.Fail Intr)
    → IsGoingOn x
message-going x sent on = record {
  no_poll = record { other = λ handles is. false≢true (sym (ap sends is) ∙ sent) };
  goes_on = on;
}

quick-going : (x : Exchange) → sends x.call ≡ true → is_wait x.call ≡ false → IsGoingOn x
quick-going x sent quick = message-going x sent (λ waiting. absurd (false≢true (sym quick ∙ waiting)))

stands-going : {o : Options} {c d : Call} (r : Reply) → StandsFor o c d
    → IsGoingOn (record { call = d; reply = r }) → IsGoingOn (record { call = c; reply = r })
stands-going r (common m is) on = on
stands-going r waits on = on
stands-going r signals on = quick-going _ refl refl
stands-going r faults on = quick-going _ refl refl
stands-going r entries on = quick-going _ refl refl
stands-going r exits on = quick-going _ refl refl
stands-going r (runs flags step) on = quick-going _ refl refl
stands-going r leaves on = quick-going _ refl refl

first-quick : {o : Options} {control : ℕ} {c : Call} → PlantsAtFirst o control c → is_wait c ≡ false
first-quick (reads_code below) = refl
first-quick (plants_at_first below) = refl

last-quick : {o : Options} {control : ℕ} {c : Call} → LiftsAtLast o control c → is_wait c ≡ false
last-quick (lifts_at_last below) = refl
last-quick clears_fault = refl

ended-on : (errno : Errno) → errno ≡ Noent → reply.Fail errno ≢ reply.Fail Intr
ended-on errno gone is = let d : reply.Fail Noent ≡ reply.Fail Intr = ap reply.Fail (sym gone) ∙ is in cc

module _ (t : TrussState) where
  taken-on : (stage : Stage) (c : Call) (errno : Errno) → SeesTo t stage c → IsTakenUp stage errno → is_wait c ≡ true
      → reply.Fail errno ≢ reply.Fail Intr
  taken-on (Opening place opening.Start) c errno sees may waiting =
      absurd (false≢true (sym (first-quick sees) ∙ waiting))
  taken-on (Running place) c errno sees may waiting = ended-on errno may
  taken-on (ReadingText place l from len) c errno sees may waiting = ended-on errno may
  taken-on ReadingLwps c errno sees may waiting = ended-on errno may
  taken-on _ c errno sees may waiting = absurd may

  like-going : (x y : Exchange) → IsLike t x y → IsGoingOn y → IsGoingOn x
  like-going x y (same unsent none_own) on = on
  like-going x y (in_place {r = r} stands) on = stands-going r stands on
  like-going x y (refused {c = c} {errno = errno} sees may is) on =
      message-going x (sees-sends t t.stage c sees) (taken-on t.stage c errno sees may)
  like-going x y (own_fault own) on = record {
    no_poll = record { other = λ handles is. cc };
    goes_on = λ waiting. absurd (false≢true waiting);
  }

  pub like-polls : (x y : Exchange) → IsLike t x y → IsNoPoll x → IsNoPoll y
  unfolding next_call_of
  like-polls x y (same unsent none_own) none = none
  like-polls x y (in_place {d = d} stands) none =
      let sent = stands-sends stands in
      record { other = λ handles is. false≢true (sym (ap sends is) ∙ sent.1) }
  like-polls x y (refused {errno = errno} sees may is) none = record {
    other = λ handles polls.
        absurd
        (subst (λ stage. IsTakenUp stage errno) ((poll-stage t handles t.stage (is ∙ ap Some polls)).0) may);
  }
  like-polls x y (own_fault own) none = record { other = λ handles is. cc }

  -- one that is left out
  out-going : (done : List Exchange) (x : Exchange) (stage : Stage) → SeesTo t stage x.call → Going done stage
      → Going (done ++ x ∷ []) stage
  out-going done x (Opening place opening.Start) sees w =
      All-append IsGoingOn done (x ∷ []) w
      (All-cons IsGoingOn x []
      (quick-going x (sees-sends t (Opening place opening.Start) x.call sees) (first-quick sees)) (All-nil IsGoingOn))
  out-going done x (Closing place OpenNext) sees w =
      All-append IsGoingOn done (x ∷ []) w
      (All-cons IsGoingOn x []
      (quick-going x (sees-sends t (Closing place OpenNext) x.call sees) (last-quick sees)) (All-nil IsGoingOn))
  out-going done x (Closing place GoOn) sees w = tt
  out-going done x (Closing place (RunParent parent)) sees w = tt
  out-going done x (Running place) sees w = tt
  out-going done x (ReadingText place l from len) sees w = tt
  out-going done x ReadingLwps sees w = tt
  out-going done x _ sees w = absurd sees

  turn-going : (done : List Exchange) (x : Exchange) → t.options.follow ≡ false → Turn t x → Going done t.stage
      → Going (done ++ x ∷ []) (fed_functions t x.reply).stage
  turn-going done x off (goes_out sees over stay) w =
      subst (Going (done ++ x ∷ [])) (ap (λ (v : TrussState). v.stage) (sym stay)) (out-going done x t.stage sees w)
  turn-going done x off (goes_on y like called now) w =
      subst (λ (v : TrussState). Going (done ++ x ∷ []) v.stage) (sym now)
      (fed-going done (ordinary t) y x off called (like-going x y like) (like-polls x y like) w)

-- ---- from its start on

named-first : (o : Options) (pid : Option ℕ) → Going [] (opening_or (idle o) (idle o) pid).stage
named-first o None = tt
named-first o (Some pid) = All-nil IsGoingOn

program-first : (o : Options) (program : Option (List ℕ)) → Going [] (first_of_program o program).stage
program-first o None = named-first o _
program-first o (Some program) = All-nil IsGoingOn

first-going : (o : Options) → Going [] (first_truss o).stage
unfolding first_truss
first-going o = program-first o o.program

module _ (o : Options) (has : has_functions o ≡ true) (off : o.follow ≡ false) where
  later-going : (xs done : List Exchange) (t : TrussState) → IsFit o t → Going done t.stage → MakesFunctionCalls t xs
      → All IsCalm xs → Going (done ++ xs) (functions_after t xs).stage
  later-going [] done t fit w makes calm = subst (λ ys. Going ys t.stage) (sym (append-nil done)) w
  later-going (x ∷ xs) done t fit w makes calm =
      let still = All-head IsCalm x xs calm in
      subst (λ ys. Going ys (functions_after (fed_functions t x.reply) xs).stage) (append_assoc done (x ∷ []) xs)
      (later-going xs (done ++ x ∷ []) (fed_functions t x.reply) (next-fit o has off t x fit makes.0 still)
      (turn-going t done x (ap (λ (p : Options). p.follow) fit.options ∙ off)
      (turn o has off t x fit makes.0 still) w)
      makes.1 (All-tail IsCalm x xs calm))

  pub after-going : (xs : List Exchange) → MakesFunctionCalls (first_truss o) xs → All IsCalm xs
      → Going xs (functions_after (first_truss o) xs).stage
  after-going xs makes calm = later-going xs [] (first_truss o) (first-fit o has off) (first-going o) makes calm
