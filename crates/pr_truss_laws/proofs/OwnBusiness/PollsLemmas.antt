use Rattle.std.proofs.Common.{◌≡◌, ◌≢◌, ◌==◌, ◌≤◌, ◌<◌, ◌+◌, ℕ, zero, suc, true, false, Option, Some, None, List, [], ◌∷◌, ◌++◌, map, length, refl, sym, subst, ap, ◌∙◌, arith, inl, inr, ◌⊎◌}
use Rattle.std.proofs.lemmas.Bool.{cases_Bool, eq-eqb, eqb-true}
use Rattle.std.proofs.lemmas.List.{length-map}
use Rattle.std.proofs.lemmas.List.Sums.{sum_by-append}
use Rattle.std.proofs.lemmas.Option.{none-some, same_Some}
use Rattle.std.specs.List.{All, slice_get, sum_by}
use Rattle.std.specs.Option.{option_map}
use Rattle.pr_line.specs.declared.options.Options.{Options}
use Rattle.pr_model.specs.Replies.{handle_in}
use Rattle.pr_model.specs.declared.calls.Call.{Call}
use Rattle.pr_model.specs.declared.calls.Call.TheVariants as call
use Rattle.pr_model.specs.declared.calls.File.TheVariants.{Ctl}
use Rattle.pr_model.specs.declared.calls.Reply.{Reply}
use Rattle.pr_num.proofs.SearchLemmas.{All-at}
use Rattle.pr_truss.specs.Children.{with_child_control, with_child_control_answered, with_freeing_answered, with_freeing_begun}
use Rattle.pr_truss.specs.Feeding.{fed, with_reply}
use Rattle.pr_truss.specs.NextCalls.{call_of, child_call, freeing_call, next_call_of, open_control, opening_call}
use Rattle.pr_truss.specs.Openings.{with_control, with_control_answered}
use Rattle.pr_truss.specs.Processes.{newly_traced}
use Rattle.pr_truss.specs.Replies.{answer_of}
use Rattle.pr_truss.specs.Trusses.{TrussState, first_truss}
use Rattle.pr_truss.specs.declared.processes.Traced.{Traced}
use Rattle.pr_truss.specs.declared.replies.Answer.{Answer}
use Rattle.pr_truss.specs.declared.replies.Answer.TheVariants.{Accepted, Interrupted, Gone, Refused}
use Rattle.pr_truss.specs.declared.stages.ChildStep.{ChildStep}
use Rattle.pr_truss.specs.declared.stages.ChildStep.TheVariants as child
use Rattle.pr_truss.specs.declared.stages.FreeingStep.{FreeingStep}
use Rattle.pr_truss.specs.declared.stages.FreeingStep.TheVariants as freeing
use Rattle.pr_truss.specs.declared.stages.OpeningStep.{OpeningStep}
use Rattle.pr_truss.specs.declared.stages.OpeningStep.TheVariants as opening
use Rattle.pr_truss.specs.declared.stages.Stage.{Stage}
use Rattle.pr_truss.specs.declared.stages.Stage.TheVariants.{OpeningControl, Opening, OpeningChildControl, OpeningChild, FreeingChild, Polling, Finished}
use Rattle.pr_truss_laws.proofs.Replies.AnswerLemmas.{IsAnswer, answer-is}
use Rattle.pr_truss_laws.proofs.Replies.ExchangeLemmas.{after-append, makes-front, makes-rest}
use Rattle.pr_truss_laws.proofs.Replies.FitLemmas.{fed-fits}
use Rattle.pr_truss_laws.proofs.Files.HeldLemmas.{Fits, append-sum, at_place, remove-sum, set-sum, unit}
use Rattle.pr_truss_laws.proofs.OwnBusiness.KnownLemmas.{Knows, KnowsProcess, after-knows, first-knows}
use Rattle.pr_truss_laws.proofs.Replies.TracedChanges as change
use Rattle.pr_truss_laws.proofs.Replies.TracedChanges.{TracedChange, fed-change}
use Rattle.pr_truss_laws.specs.Business.{IsAmong, IsHeld, PollsItsOwn, WasGiven}
use Rattle.pr_truss_laws.specs.Exchanges.{Closes, Exchange, Makes, errno_in, truss_after}

-- A poll of truss names every control file that it has open.

-- ---- how many control files it remembers by a handle

abbrev of_control : ℕ → Traced → ℕ
of_control h t = unit (t.control == h)

abbrev controls : ℕ → List Traced → ℕ
controls h ts = sum_by (of_control h) ts

-- that of a child that is set free
abbrev freed_control : ℕ → Stage → ℕ
freed_control h (FreeingChild child (freeing.SetRelease control)) = unit (control == h)
freed_control h (FreeingChild child (freeing.Close control)) = unit (control == h)
freed_control h _ = 0

abbrev remembered : ℕ → TrussState → ℕ
remembered h s = controls h s.traced + freed_control h s.stage

-- whether a call closes the handle
abbrev closed_by : ℕ → Option Call → ℕ
closed_by h (Some (call.Close handle)) = unit (handle == h)
closed_by h _ = 0

-- ---- a reply forgets the handle only where that was closed

module _ (h : ℕ) (s : TrussState) (r : Reply) where
  traced-kept : (stage : Stage) (ts : List Traced) → TracedChange s r stage ts
      → controls h s.traced ≤ controls h ts + closed_by h (call_of s stage)
  unfolding newly_traced
  traced-kept stage ts change.stays = omega arith
  traced-kept stage ts (change.becomes {place = place} {t = t} within keeps) =
      let same : of_control h t ≡ of_control h (at_place s.traced place) + 0 =
      omega (arith, ap (λ c. unit (c == h)) keeps.control) in
      omega (arith, set-sum (of_control h) s.traced place 0 t within same)
  traced-kept stage ts (change.adds {pid = pid} granted is) =
      omega (arith, append-sum (of_control h) s.traced (newly_traced pid (handle_in r)))
  traced-kept stage ts (change.drops {place = place} within is) =
      omega (arith, remove-sum (of_control h) s.traced place within, ap (closed_by h) is)

  freeing-kept : (pid : ℕ) (now : FreeingStep) → s.stage ≡ FreeingChild pid now
      → TracedChange s r (FreeingChild pid now) (fed s r).traced
      → controls h s.traced + freed_control h (FreeingChild pid now)
      ≤ remembered h (fed s r) + closed_by h (call_of s (FreeingChild pid now))
  unfolding fed with_reply with_freeing_answered call_of freeing_call
  freeing-kept pid freeing.OpenControl at change =
      omega (arith, traced-kept (FreeingChild pid freeing.OpenControl) (fed s r).traced change)
  freeing-kept pid (freeing.SetRelease control) at change =
      let is : fed s r ≡ with_freeing_answered s pid (freeing.SetRelease control) r = ap (with_reply s r) at in
      omega (arith, ap (remembered h) is)
  freeing-kept pid (freeing.Close control) at change =
      let is : fed s r ≡ with_freeing_answered s pid (freeing.Close control) r = ap (with_reply s r) at in
      omega (arith, ap (remembered h) is)

  stage-kept : (stage : Stage) → s.stage ≡ stage → TracedChange s r stage (fed s r).traced
      → controls h s.traced + freed_control h stage ≤ remembered h (fed s r) + closed_by h (call_of s stage)
  stage-kept (FreeingChild pid now) at change = freeing-kept pid now at change
  stage-kept stage at change = omega (arith, traced-kept stage (fed s r).traced change)

  fed-kept : Fits s.traced s.stage → remembered h s ≤ remembered h (fed s r) + closed_by h (next_call_of s)
  unfolding next_call_of
  fed-kept f = stage-kept s.stage refl (fed-change s r f)

not-closed : (h : ℕ) (c : Call) → c ≢ call.Close h → closed_by h (Some c) ≡ 0
not-closed h (call.Close handle) other = ap unit (by (cases_Bool (handle == h)))
  where
    by : ((handle == h) ≡ true) ⊎ ((handle == h) ≡ false) → (handle == h) ≡ false
    by (inl same) = absurd (other (ap call.Close (eqb-true handle h same)))
    by (inr differs) = differs
not-closed h _ other = refl

still-remembered : (h : ℕ) (xs : List Exchange) (s : TrussState) → Fits s.traced s.stage → Makes s xs
    → (Closes h xs → ⊥) → 1 ≤ remembered h s → 1 ≤ remembered h (truss_after s xs)
still-remembered h [] s f makes none one = one
still-remembered h (x ∷ xs) s f makes none one =
    let first : x.call ≢ call.Close h = λ is. none (record {
      before = [];
      reply = x.reply;
      after = xs;
      is = ap (λ c. record { call = c; reply = x.reply } ∷ xs) is;
    }) in
    let rest : Closes h xs → ⊥ = λ c. none (record {
      before = x ∷ c.before;
      reply = c.reply;
      after = c.after;
      is = ap (λ ys. x ∷ ys) c.is;
    }) in
    let kept : closed_by h (next_call_of s) ≡ 0 = ap (closed_by h) makes.0 ∙ not-closed h x.call first in
    still-remembered h xs (fed s x.reply) (fed-fits s x.reply f) makes.1 rest
    (omega (arith, fed-kept h s x.reply f, kept, one))

-- ---- the open of a control file is remembered

module _ (s : TrussState) (r : Reply) (granted : errno_in r ≡ None) where
  accepted : answer_of r ≡ Accepted
  unfolding IsAnswer
  accepted = by (answer_of r) (answer-is r)
    where
      by : (a : Answer) → IsAnswer r a → a ≡ Accepted
      by Accepted is = refl
      by Interrupted is = absurd (none-some _ (sym granted ∙ ap errno_in is))
      by Gone is = absurd (none-some _ (sym granted ∙ ap errno_in is))
      by (Refused errno) is = absurd (none-some _ (sym granted ∙ ap errno_in is))

  new-remembered : (pid n : ℕ)
      → 1 ≤ controls (handle_in r) (s.traced ++ newly_traced pid (handle_in r) ∷ []) + n
  unfolding newly_traced
  new-remembered pid n =
      omega (
        arith,
        append-sum (of_control (handle_in r)) s.traced (newly_traced pid (handle_in r)),
        ap unit (eq-eqb (handle_in r) (handle_in r) refl),
      )

  opening-other : (o : Options) (t : Traced) (now : OpeningStep) (pid : ℕ) → opening_call o t now ≡ open_control pid → ⊥
  unfolding opening_call
  opening-other o t opening.OpenStatus pid is = cc
  opening-other o t opening.OpenLstatus pid is = cc
  opening-other o t opening.OpenMemory pid is = cc
  opening-other o t _ pid is = cc

  child-other : (t : Traced) (now : ChildStep) (pid : ℕ) → child_call t now ≡ open_control pid → ⊥
  unfolding child_call
  child-other t child.OpenStatus pid is = cc
  child-other t child.OpenLstatus pid is = cc
  child-other t child.OpenMemory pid is = cc
  child-other t _ pid is = cc

  freeing-opened : (child : ℕ) (now : FreeingStep) (pid : ℕ) → s.stage ≡ FreeingChild child now
      → freeing_call child now ≡ open_control pid → 1 ≤ remembered (handle_in r) (fed s r)
  unfolding fed with_reply with_freeing_answered with_freeing_begun freeing_call
  freeing-opened child freeing.OpenControl pid at is =
      let to : fed s r ≡ with_freeing_begun s child r Accepted =
      ap (with_reply s r) at ∙ ap (with_freeing_begun s child r) accepted in
      omega (arith, ap (remembered (handle_in r)) to, ap unit (eq-eqb (handle_in r) (handle_in r) refl))
  freeing-opened child _ pid at is = cc

  stage-opened : (stage : Stage) (pid : ℕ) → s.stage ≡ stage → call_of s stage ≡ Some (open_control pid)
      → 1 ≤ remembered (handle_in r) (fed s r)
  unfolding fed with_reply call_of with_control_answered with_control with_child_control_answered with_child_control
  stage-opened (OpeningControl of) pid at is =
      let to : fed s r ≡ with_control s of (handle_in r) =
      ap (with_reply s r) at ∙ ap (with_control_answered s of r) accepted in
      omega (arith, ap (remembered (handle_in r)) to, new-remembered of 0)
  stage-opened (OpeningChildControl parent of) pid at is =
      let to : fed s r ≡ with_child_control s parent of (handle_in r) =
      ap (with_reply s r) at ∙ ap (with_child_control_answered s parent of r) accepted in
      omega (arith, ap (remembered (handle_in r)) to, new-remembered of 0)
  stage-opened (Opening place now) pid at is = absurd (opening-other s.options _ now pid (same_Some _ _ is))
  stage-opened (OpeningChild parent place now) pid at is = absurd (child-other _ now pid (same_Some _ _ is))
  stage-opened (FreeingChild child now) pid at is = freeing-opened child now pid at (same_Some _ _ is)
  stage-opened Finished pid at is = absurd (none-some _ is)
  stage-opened _ pid at is = cc

  open-remembered : (pid : ℕ) → next_call_of s ≡ Some (open_control pid) → 1 ≤ remembered (handle_in r) (fed s r)
  unfolding next_call_of
  open-remembered pid is = stage-opened s.stage pid refl is

-- ---- a poll names what is remembered

among-controls : (h : ℕ) (ts : List Traced) → 1 ≤ controls h ts → IsAmong h (map (λ (t : Traced). t.control) ts)
among-controls h [] one = absurd (omega arith)
among-controls h (t ∷ ts) one =
    let parts : controls h (t ∷ ts) ≡ unit (t.control == h) + controls h ts =
    omega (arith, sum_by-append (of_control h) (t ∷ []) ts) in
    elim (cases_Bool (t.control == h)) [
      | inl same ↦ record { place = 0; is = ap Some (eqb-true t.control h same) }
      | inr other ↦
          let rest = among-controls h ts (omega (arith, one, parts, ap unit other)) in
          record { place = suc rest.place; is = rest.is }
    ]

record IsPoll (s : TrussState) (handles : List ℕ) : Type 0 where
  stage : s.stage ≡ Polling
  names : map (λ (t : Traced). t.control) s.traced ≡ handles

opening-no_poll : (o : Options) (t : Traced) (now : OpeningStep) (handles : List ℕ)
    → opening_call o t now ≡ call.Poll handles → ⊥
unfolding opening_call
opening-no_poll o t opening.OpenStatus handles is = cc
opening-no_poll o t _ handles is = cc

child-no_poll : (t : Traced) (now : ChildStep) (handles : List ℕ) → child_call t now ≡ call.Poll handles → ⊥
unfolding child_call
child-no_poll t child.OpenStatus handles is = cc
child-no_poll t _ handles is = cc

freeing-no_poll : (child : ℕ) (now : FreeingStep) (handles : List ℕ) → freeing_call child now ≡ call.Poll handles → ⊥
unfolding freeing_call
freeing-no_poll child freeing.OpenControl handles is = cc
freeing-no_poll child _ handles is = cc

stage-polls : (s : TrussState) (stage : Stage) (handles : List ℕ) → s.stage ≡ stage
    → call_of s stage ≡ Some (call.Poll handles)
    → IsPoll s handles
unfolding call_of
stage-polls s Polling handles at is = record { stage = at; names = cc }
stage-polls s (Opening place now) handles at is = absurd (opening-no_poll s.options _ now handles (same_Some _ _ is))
stage-polls s (OpeningChild parent place now) handles at is = absurd (child-no_poll _ now handles (same_Some _ _ is))
stage-polls s (FreeingChild child now) handles at is = absurd (freeing-no_poll child now handles (same_Some _ _ is))
stage-polls s Finished handles at is = absurd (none-some _ is)
stage-polls s _ handles at is = cc

next-polls : (s : TrussState) (handles : List ℕ) → next_call_of s ≡ Some (call.Poll handles) → IsPoll s handles
unfolding next_call_of
next-polls s handles is = stage-polls s s.stage handles refl is

-- ---- all of it

module _ (o : Options) (xs : List Exchange) (makes : Makes (first_truss o) xs) where
  made-at : (before after : List Exchange) (x : Exchange) → xs ≡ before ++ x ∷ after
      → Makes (truss_after (first_truss o) before) (x ∷ after)
  made-at before after x is =
      makes-rest (first_truss o) before (x ∷ after) (subst (Makes (first_truss o)) is makes)

  made-before : (before after : List Exchange) (x : Exchange) → xs ≡ before ++ x ∷ after
      → Makes (first_truss o) before
  made-before before after x is =
      makes-front (first_truss o) before (x ∷ after) (subst (Makes (first_truss o)) is makes)

  knows-at : (before after : List Exchange) (x : Exchange) → xs ≡ before ++ x ∷ after
      → Knows o before (truss_after (first_truss o) before)
  knows-at before after x is =
      after-knows o before [] (first_truss o) (first-knows o) (made-before before after x is)

  all-named : (before after : List Exchange) (reply : Reply) (handles : List ℕ) (pid handle : ℕ)
      → xs ≡ before ++ record { call = call.Poll handles; reply = reply } ∷ after → IsHeld pid handle before
      → IsAmong handle handles
  all-named before after reply handles pid handle is w =
      let poll : Exchange = record { call = call.Poll handles; reply = reply } in
      let open_it : Exchange = record { call = open_control pid; reply = w.reply } in
      let s : TrussState = truss_after (first_truss o) w.before in
      let made = subst (Makes (first_truss o)) w.is (made-before before after poll is) in
      let here : Makes s (open_it ∷ w.after) = makes-rest (first_truss o) w.before (open_it ∷ w.after) made in
      let k : Knows o w.before s =
      after-knows o w.before [] (first_truss o) (first-knows o)
      (makes-front (first_truss o) w.before (open_it ∷ w.after) made) in
      let one : 1 ≤ remembered handle (fed s w.reply) =
      subst (λ h. 1 ≤ remembered h (fed s w.reply)) w.gives (open-remembered s w.reply w.granted pid here.0) in
      let still = still-remembered handle w.after (fed s w.reply)
      (fed-fits s w.reply k.fits) here.1 w.unclosed one in
      let same : truss_after (first_truss o) before ≡ truss_after (fed s w.reply) w.after =
      ap (truss_after (first_truss o)) w.is ∙ after-append (first_truss o) w.before (open_it ∷ w.after) in
      let at = made-at before after poll is in
      let it = next-polls (truss_after (first_truss o) before) handles at.0 in
      subst (IsAmong handle) it.names
      (among-controls handle (truss_after (first_truss o) before).traced
      (omega (arith, still, ap (remembered handle) same, ap (freed_control handle) it.stage)))

  control-at : (before : List Exchange) (ts : List Traced) (place handle : ℕ)
      → slice_get (map (λ (t : Traced). t.control) ts) place ≡ Some handle → All (KnowsProcess o before) ts
      → (pid : ℕ) × WasGiven pid Ctl handle before
  control-at before ts place handle is each = by (slice_get ts place) refl (mapped ts place ∙ is)
    where
      mapped : (us : List Traced) (i : ℕ)
          → option_map (λ (t : Traced). t.control) (slice_get us i)
          ≡ slice_get (map (λ (t : Traced). t.control) us) i
      mapped [] i = refl
      mapped (u ∷ us) zero = refl
      mapped (u ∷ us) (suc i) = mapped us i

      by : (t : Option Traced) → slice_get ts place ≡ t → option_map (λ (u : Traced). u.control) t ≡ Some handle
          → (pid : ℕ) × WasGiven pid Ctl handle before
      by None there none = absurd (none-some handle none)
      by (Some t) there same =
          let k = All-at (KnowsProcess o before) ts place t there each in
          (t.pid, subst (λ h. WasGiven t.pid Ctl h before) (same_Some t.control handle same) k.control)

  only-named : (before after : List Exchange) (reply : Reply) (handles : List ℕ) (handle : ℕ)
      → xs ≡ before ++ record { call = call.Poll handles; reply = reply } ∷ after → IsAmong handle handles
      → (pid : ℕ) × WasGiven pid Ctl handle before
  only-named before after reply handles handle is among =
      let poll : Exchange = record { call = call.Poll handles; reply = reply } in
      let s : TrussState = truss_after (first_truss o) before in
      let at = made-at before after poll is in
      let it = next-polls s handles at.0 in
      let k = knows-at before after poll is in
      control-at before s.traced among.place handle
      (subst (λ hs. slice_get hs among.place ≡ Some handle) (sym it.names) among.is) k.each

  some-named : (before after : List Exchange) (reply : Reply)
      → xs ≡ before ++ record { call = call.Poll []; reply = reply } ∷ after → ⊥
  some-named before after reply is =
      let poll : Exchange = record { call = call.Poll []; reply = reply } in
      let s : TrussState = truss_after (first_truss o) before in
      let at = made-at before after poll is in
      let it = next-polls s [] at.0 in
      let k = knows-at before after poll is in
      let some : 0 < length s.traced = subst (Fits s.traced) it.stage k.fits in
      let none : length (map (λ (t : Traced). t.control) s.traced) ≡ 0 = ap length it.names in
      omega (arith, some, none, length-map s.traced (λ (t : Traced). t.control))

  pub polls-own : PollsItsOwn xs
  polls-own = record { all = all-named; only = only-named; some = some-named }
