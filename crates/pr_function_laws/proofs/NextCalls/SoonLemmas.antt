use Rattle.std.proofs.Common.{◌≡◌, ◌<◌, ◌≤◌, ◌+◌, ◌++◌, ℕ, Bool, true, false, cond, inl, inr, Option, Some, None, List, [], ◌∷◌, length, refl, sym, subst, ap, ◌∙◌, append_assoc, arith}
use Rattle.std.proofs.lemmas.Bool.{false≢true}
use Rattle.std.proofs.lemmas.List.Elements.{All-cons, All-head, All-nil, All-tail}
use Rattle.std.specs.List.{All}
use Rattle.pr_line.specs.declared.options.Options.{Options}
use Rattle.pr_model.specs.declared.calls.Call.{Call}
use Rattle.pr_model.specs.declared.calls.Call.TheVariants as call
use Rattle.pr_model.specs.declared.calls.Reply.{Reply}
use Rattle.pr_model.specs.declared.calls.Reply.TheVariants as reply
use Rattle.pr_num.proofs.TableLemmas.{position-within}
use Rattle.pr_num.specs.declared.errnos.Errno.TheVariants.{Intr}
use Rattle.pr_truss.specs.Feeding.{fed, with_reply}
use Rattle.pr_truss.specs.FunctionCalls.{call_beside, function_call_of, next_function_call_of, patch_call}
use Rattle.pr_truss.specs.FunctionFeeding.{fed_functions, with_aside_answered, with_function_reply}
use Rattle.pr_truss.specs.Marks.{first_function, has_functions}
use Rattle.pr_truss.specs.NextCalls.{call_of, child_call, freeing_call, next_call_of, opening_call}
use Rattle.pr_truss.specs.Replies.{answer_of, ready_in}
use Rattle.pr_truss.specs.Stops.{has_control, with_poll_answered, with_polled}
use Rattle.pr_truss.specs.Trusses.{TrussState, first_truss, traced_at, with_stage}
use Rattle.pr_truss.specs.declared.asides.Aside.{Aside}
use Rattle.pr_truss.specs.declared.asides.Aside.TheVariants.{Nothing, Patching}
use Rattle.pr_truss.specs.declared.processes.Traced.{Traced}
use Rattle.pr_truss.specs.declared.replies.Answer.TheVariants.{Interrupted}
use Rattle.pr_truss.specs.declared.stages.AfterClosing.TheVariants.{GoOn, RunParent}
use Rattle.pr_truss.specs.declared.stages.ChildStep.{ChildStep}
use Rattle.pr_truss.specs.declared.stages.ChildStep.TheVariants as child
use Rattle.pr_truss.specs.declared.stages.FreeingStep.{FreeingStep}
use Rattle.pr_truss.specs.declared.stages.FreeingStep.TheVariants as freeing
use Rattle.pr_truss.specs.declared.stages.OpeningStep.{OpeningStep}
use Rattle.pr_truss.specs.declared.stages.OpeningStep.TheVariants as opening
use Rattle.pr_truss.specs.declared.stages.Stage.{Stage}
use Rattle.pr_truss.specs.declared.stages.Stage.TheVariants.{Opening, Polling, ReadingStatus, ReadingText, OpeningChildControl, OpeningChild, Running, Closing, ReadingLwps, FreeingChild}
use Rattle.pr_truss_laws.proofs.Replies.AnswerLemmas.{IsAnswer, answer-is}
use Rattle.pr_truss_laws.proofs.Soon.LeavingLemmas.{Stands}
use Rattle.pr_truss_laws.proofs.Soon.LookLemmas.{same-files}
use Rattle.pr_truss_laws.proofs.Soon.PolledLemmas.{Near, Nears}
use Rattle.pr_truss_laws.specs.Exchanges.{Exchange}
use Rattle.pr_function_laws.proofs.Marks.SoundLemmas.{IsSound, first-sound, is_polling}
use Rattle.pr_function_laws.specs.Runs.{MakesFunctionCalls, functions_after}
use Rattle.pr_function_laws.specs.Soon.{IsCalm, IsNamed, IsNoEndOf, IsSoonDone, calls_until_end, may_wait}
use Rattle.pr_function_laws.proofs.NextCalls.LookReads as look-reads
use Rattle.pr_function_laws.proofs.NextCalls.LookReads.{IsBeside, any-sound, any_step, todo}
use Rattle.pr_function_laws.proofs.NextCalls.LookReplies as look-replies

-- How soon truss with calls of functions runs a process that a poll named, or closes the first of its files.

-- truss looks at how a process stands
abbrev pub IsLooking : Stage → Type 0
IsLooking (ReadingStatus place) = Unit {0}
IsLooking ReadingLwps = Unit {0}
IsLooking _ = ⊥

module _ (o : Options) (has : has_functions o ≡ true) (p : Traced) (k : ℕ) where
  abbrev Look : (n : ℕ) (s : TrussState) → Type 0
  Look = look-reads.Look o has p k

  -- ---- no call of the look waits

  abbrev waits : Option Call → Bool
  waits None = false
  waits (Some c) = may_wait c

  child-waits : (t : Traced) (step : ChildStep) → may_wait (child_call t step) ≡ false
  unfolding child_call
  child-waits t child.SetRelease = refl
  child-waits t _ = refl

  patch-waits : (opts : Options) (control : ℕ) (plant lift : Option ℕ)
      → may_wait (patch_call opts control plant lift) ≡ false
  patch-waits opts control (Some function) lift = refl
  patch-waits opts control None (Some function) = refl
  patch-waits opts control None None = refl

  stage-waits : (s : TrussState) (left : ℕ) (stage : Stage) → Nears s.traced k left stage
      → waits (function_call_of s stage) ≡ false
  unfolding function_call_of call_of
  stage-waits s left (ReadingStatus place) near = refl
  stage-waits s left (ReadingText place st from len) near = refl
  stage-waits s left (OpeningChildControl parent pid) near = refl
  stage-waits s left (OpeningChild parent place step) near = child-waits (traced_at s place) step
  stage-waits s left (Running place) near = refl
  stage-waits s left (Closing place (RunParent parent)) near = refl
  stage-waits s left (Closing place GoOn) near = refl
  stage-waits s left _ near = absurd near

  aside-waits : (s : TrussState) (left : ℕ) (aside : Aside) → IsBeside k aside → Nears s.traced k left s.stage
      → waits (call_beside s s.stage aside) ≡ false
  unfolding call_beside
  aside-waits s left Nothing beside near = stage-waits s left s.stage near
  aside-waits s left (Patching place plants lifts clear) beside near =
      patch-waits s.options (traced_at s place).control (first_function plants) (first_function lifts)
  aside-waits s left _ beside near = absurd beside

  look-waits : (s : TrussState) (n : ℕ) (c : Call) → Look n s → s.options ≡ o → next_function_call_of s ≡ Some c
      → may_wait c ≡ false
  unfolding next_function_call_of
  look-waits s n c l options is =
      let on : has_functions s.options ≡ true = ap has_functions options ∙ has in
      let near : Near p k l.left s = l.near in
      ap waits (sym is ∙ ap (λ b. cond b (call_beside s s.stage s.aside) (next_call_of s)) on)
      ∙ aside-waits s l.left s.aside l.beside near.soon

  -- ---- all calls of the look

  answer-calm : (r : Reply) → answer_of r ≡ Interrupted → r ≡ reply.Fail Intr
  unfolding IsAnswer
  answer-calm r is = subst (IsAnswer r) is (answer-is r)

  -- as long as they go on each brings the end nearer
  record On (n count : ℕ) (s : TrussState) : Type 0 where
    left : ℕ
    few : left + count ≤ n
    look : Look left s

  looks-on : (ys : List Exchange) (s : TrussState) (n : ℕ) → Look n s → IsSound o any_step s → MakesFunctionCalls s ys
      → All (IsNoEndOf p) ys → All IsCalm ys → On n (length ys) (functions_after s ys)
  looks-on [] s n l w makes none calm = record { left = n; few = omega arith; look = l }
  looks-on (y ∷ ys) s n l w makes none calm =
      let names = w.names in
      let still = look-waits s n y.call l names.options makes.0 in
      let here = All-head IsCalm y ys calm in
      let next = look-replies.look-next o has p k s n l w y (All-head (IsNoEndOf p) y ys none)
      (λ interrupted. false≢true (sym still ∙ here.waits (answer-calm y.reply interrupted))) names.options makes.0 in
      let on =
      looks-on ys (fed_functions s y.reply) next.now next.look (any-sound o s y.reply w) makes.1
      (All-tail (IsNoEndOf p) y ys none) (All-tail IsCalm y ys calm) in
      record { left = on.left; few = omega (arith, on.few, next.less); look = on.look }

  -- truss is to read the status of the process
  status-look : (s : TrussState) → Stands p s k → s.leaving ≡ false → s.aside ≡ Nothing → s.stage ≡ ReadingStatus k
      → Look (calls_until_end o) s
  status-look s here off idle at = record {
    left = 12;
    near = record { here = here; stays = off; soon = subst (Nears s.traced k 12) (sym at) (refl, omega arith) };
    beside = subst (IsBeside k) (sym idle) tt;
    few = omega (arith, ap todo idle);
    most = inr (record { first = refl; enough = omega arith; idle = idle });
  }

  -- behind that read, and before the end, it does so nowhere
  module _ (s : TrussState) (left : ℕ) (less : left < calls_until_end o) (l : Look left s) where
    looks-not : (stage : Stage) → Nears s.traced k l.left stage → IsLooking stage → ⊥
    looks-not (ReadingStatus place) soon looks = elim l.most [
      | inl below ↦ absurd (omega (arith, below, soon.1))
      | inr fresh ↦ absurd (omega (arith, fresh.enough, less))
    ]
    looks-not ReadingLwps soon looks = soon
    looks-not _ soon looks = looks

  pub looks-elsewhere : (s : TrussState) (y : Exchange) (ys : List Exchange) → Stands p s k → s.leaving ≡ false
      → s.aside ≡ Nothing → s.stage ≡ ReadingStatus k → IsSound o any_step s → MakesFunctionCalls s (y ∷ ys)
      → All (IsNoEndOf p) (y ∷ ys) → All IsCalm (y ∷ ys) → IsLooking (functions_after s (y ∷ ys)).stage → ⊥
  looks-elsewhere s y ys here off idle at w makes none calm looks =
      let on = looks-on (y ∷ ys) s (calls_until_end o) (status-look s here off idle at) w makes none calm in
      let u : TrussState = functions_after s (y ∷ ys) in
      let l : Look on.left u = on.look in
      let near : Near p k l.left u = l.near in
      looks-not u on.left (omega (arith, on.few)) l u.stage near.soon looks

-- ---- from the poll on

abbrev is_poll : Call → Bool
is_poll (call.Poll handles) = true
is_poll _ = false

abbrev polls : Option Call → Bool
polls None = false
polls (Some c) = is_poll c

opening-polls : (opts : Options) (t : Traced) (step : OpeningStep) → is_poll (opening_call opts t step) ≡ false
unfolding opening_call
opening-polls opts t opening.OpenStatus = refl
opening-polls opts t _ = refl

child-polls : (t : Traced) (step : ChildStep) → is_poll (child_call t step) ≡ false
unfolding child_call
child-polls t child.SetRelease = refl
child-polls t _ = refl

freeing-polls : (pid : ℕ) (step : FreeingStep) → is_poll (freeing_call pid step) ≡ false
unfolding freeing_call
freeing-polls pid freeing.OpenControl = refl
freeing-polls pid _ = refl

first-polls : (opts : Options) (control : ℕ) (plant lift : Option ℕ)
    → is_poll (patch_call opts control plant lift) ≡ false
first-polls opts control (Some function) lift = refl
first-polls opts control None (Some function) = refl
first-polls opts control None None = refl

module _ (s : TrussState) where
  opening-function-polls : (place : ℕ) (step : OpeningStep) → polls (function_call_of s (Opening place step)) ≡ false
  unfolding function_call_of call_of opening_call
  opening-function-polls place opening.TraceSignals = refl
  opening-function-polls place opening.TraceFaults = refl
  opening-function-polls place opening.TraceEntries = refl
  opening-function-polls place opening.TraceExits = refl
  opening-function-polls place step = opening-polls s.options (traced_at s place) step

  -- truss polls at one stage alone
  stage-polls : (stage : Stage) → polls (function_call_of s stage) ≡ true → stage ≡ Polling
  unfolding function_call_of call_of
  stage-polls Polling is = refl
  stage-polls (Opening place step) is = absurd (false≢true (sym (opening-function-polls place step) ∙ is))
  stage-polls (OpeningChild parent place step) is =
      absurd (false≢true (sym (child-polls (traced_at s place) step) ∙ is))
  stage-polls (FreeingChild pid step) is = absurd (false≢true (sym (freeing-polls pid step) ∙ is))
  stage-polls _ is = absurd (false≢true is)

  aside-polls : (aside : Aside) → polls (call_beside s s.stage aside) ≡ true → (aside ≡ Nothing) × (s.stage ≡ Polling)
  unfolding call_beside
  aside-polls Nothing is = (refl, stage-polls s.stage is)
  aside-polls (Patching place plants lifts clear) is =
      absurd (false≢true (sym (first-polls s.options (traced_at s place).control (first_function plants)
      (first_function lifts)) ∙ is))
  aside-polls _ is = absurd (false≢true is)

  next-polls : has_functions s.options ≡ true → (handles : List ℕ) → next_function_call_of s ≡ Some (call.Poll handles)
      → (s.aside ≡ Nothing) × (s.stage ≡ Polling)
  unfolding next_function_call_of
  next-polls has handles is =
      aside-polls s.aside
      (ap polls (sym (ap (λ b. cond b (call_beside s s.stage s.aside) (next_call_of s)) has) ∙ is))

-- the look begins
named-is : (s : TrussState) (x : Exchange) (place : ℕ) → has_functions s.options ≡ true → s.aside ≡ Nothing
    → s.stage ≡ Polling → IsNamed s x place → fed_functions s x.reply ≡ with_stage s (ReadingStatus place)
unfolding fed_functions with_aside_answered with_function_reply with_reply with_poll_answered answer_of ready_in
named-is s x place has idle at names =
    ap (λ b. cond b (with_aside_answered s x.reply s.aside) (fed s x.reply)) has
    ∙ ap (with_aside_answered s x.reply) idle
    ∙ ap (with_function_reply s x.reply) at
    ∙ ap (λ q. with_poll_answered s q (answer_of q)) names.ready
    ∙ ap (with_polled s) names.there

after-sound : (o : Options) (xs : List Exchange) (s : TrussState) → IsSound o any_step s
    → IsSound o any_step (functions_after s xs)
after-sound o [] s w = w
after-sound o (x ∷ xs) s w = after-sound o xs (fed_functions s x.reply) (any-sound o s x.reply w)

makes-from : (xs ys : List Exchange) (s : TrussState) → MakesFunctionCalls s (xs ++ ys)
    → MakesFunctionCalls (functions_after s xs) ys
makes-from [] ys s makes = makes
makes-from (x ∷ xs) ys s makes = makes-from xs ys (fed_functions s x.reply) makes.1

module _ (o : Options) (before between : List Exchange) (x : Exchange) (place : ℕ) (has : has_functions o ≡ true)
    (makes : MakesFunctionCalls (first_truss o) (before ++ x ∷ between))
    (names : IsNamed (functions_after (first_truss o) before) x place)
    (none : All (IsNoEndOf (traced_at (functions_after (first_truss o) before) place)) between)
    (calm : All IsCalm between) where
  abbrev polling : TrussState
  polling = functions_after (first_truss o) before

  abbrev then : TrussState
  then = functions_after (fed_functions polling x.reply) between

  abbrev p : Traced
  p = traced_at polling place

  sound : IsSound o any_step polling
  sound = after-sound o before (first_truss o) (first-sound o any_step)

  polled-on : On o has p place (calls_until_end o) (length between) then
  polled-on =
      let w = sound in
      let sure = w.names in
      let on : has_functions polling.options ≡ true = ap has_functions sure.options ∙ has in
      let here : MakesFunctionCalls polling (x ∷ between) = makes-from before (x ∷ between) (first_truss o) makes in
      let at = next-polls polling on names.handles (here.0 ∙ ap (λ c. Some c) names.polls) in
      let is = named-is polling x place on at.0 at.1 names in
      let within : place < length polling.traced =
      position-within (has_control names.handle) polling.traced place names.there in
      let off : polling.leaving ≡ false = w.polls (ap is_polling at.1) in
      let u : TrussState = with_stage polling (ReadingStatus place) in
      let look : Look o has p place (calls_until_end o) u =
      status-look o has p place u (record { within = within; same = same-files p }) off at.0 refl in
      looks-on o has p place between (fed_functions polling x.reply) (calls_until_end o)
      (subst (Look o has p place (calls_until_end o)) (sym is) look) (any-sound o polling x.reply w) here.1 none calm

  pub polled-soon : length between ≤ calls_until_end o
  polled-soon = let on = polled-on in omega (arith, on.few)

  -- and so long it does not poll again
  pub polls-not : (handles : List ℕ)
      → next_function_call_of (functions_after (fed_functions (functions_after (first_truss o) before) x.reply) between)
      ≡ Some (call.Poll handles)
      → ⊥
  polls-not handles is =
      let w : IsSound o any_step then =
      after-sound o between (fed_functions polling x.reply) (any-sound o polling x.reply sound) in
      let sure = w.names in
      let on = polled-on in
      let l : Look o has p place on.left then = on.look in
      let near : Near p place l.left then = l.near in
      let at = next-polls then (ap has_functions sure.options ∙ has) handles is in
      subst (Nears then.traced place l.left) at.1 near.soon

calls-front : (xs ys : List Exchange) (s : TrussState) → MakesFunctionCalls s (xs ++ ys) → MakesFunctionCalls s xs
calls-front [] ys s makes = tt
calls-front (x ∷ xs) ys s makes = (makes.0, calls-front xs ys (fed_functions s x.reply) makes.1)

all-front : (xs ys : List Exchange) → All IsCalm (xs ++ ys) → All IsCalm xs
all-front [] ys calm = All-nil IsCalm
all-front (x ∷ xs) ys calm =
    All-cons IsCalm x xs (All-head IsCalm x (xs ++ ys) calm)
    (all-front xs ys (All-tail IsCalm x (xs ++ ys) calm))

all-rest : (xs ys : List Exchange) → All IsCalm (xs ++ ys) → All IsCalm ys
all-rest [] ys calm = calm
all-rest (x ∷ xs) ys calm = all-rest xs ys (All-tail IsCalm x (xs ++ ys) calm)

pub soon-done : (o : Options) (xs : List Exchange) → has_functions o ≡ true → MakesFunctionCalls (first_truss o) xs
    → All IsCalm xs → IsSoonDone o xs
soon-done o xs has makes calm = record {
  each = λ before between after x place is names none.
      let parts : xs ≡ (before ++ x ∷ between) ++ after = is ∙ sym (append_assoc before (x ∷ between) after) in
      let front =
      calls-front (before ++ x ∷ between) after (first_truss o)
      (subst (MakesFunctionCalls (first_truss o)) parts makes) in
      let rest =
      all-rest before (x ∷ between) (all-front (before ++ x ∷ between) after (subst (All IsCalm) parts calm)) in
      polled-soon o before between x place has front names none (All-tail IsCalm x between rest);
}

pub ruleset soon = (soon-done)
