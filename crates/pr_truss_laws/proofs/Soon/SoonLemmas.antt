use Rattle.std.proofs.Common.{◌≡◌, ◌≤◌, ◌<◌, ◌+◌, ◌*◌, ◌-◌, ℕ, Bool, true, false, cond, Option, Some, None, List, [], ◌∷◌, ◌++◌, length, sym, subst, ap, arith}
use Rattle.std.proofs.lemmas.List.{length-append, length-set}
use Rattle.std.proofs.lemmas.List.Edits.{length-remove}
use Rattle.std.proofs.lemmas.List.Elements.{All-head, All-tail}
use Rattle.std.proofs.lemmas.Option.{none-some, same_Some, slice_get_within}
use Rattle.std.specs.List.{All, slice_set}
use Rattle.pr_line.specs.declared.options.Options.{Options}
use Rattle.pr_model.specs.Replies.{handle_in}
use Rattle.pr_model.specs.declared.calls.Call.{Call}
use Rattle.pr_model.specs.declared.calls.Call.TheVariants as call
use Rattle.pr_model.specs.declared.calls.Reply.{Reply}
use Rattle.pr_rec.specs.declared.lwps.LwpStatus.{LwpStatus}
use Rattle.pr_truss.specs.Children.{child_step_after}
use Rattle.pr_truss.specs.Feeding.{fed}
use Rattle.pr_truss.specs.NextCalls.{call_of, next_call_of}
use Rattle.pr_truss.specs.Openings.{learnt, step_after}
use Rattle.pr_truss.specs.Processes.{newly_traced, without_last}
use Rattle.pr_truss.specs.Trusses.{TrussState, first_truss, traced_at}
use Rattle.pr_truss.specs.declared.processes.Traced.{Traced}
use Rattle.pr_truss.specs.declared.stages.AfterClosing.{AfterClosing}
use Rattle.pr_truss.specs.declared.stages.AfterClosing.TheVariants.{OpenNext, GoOn, RunParent}
use Rattle.pr_truss.specs.declared.stages.ChildStep.{ChildStep}
use Rattle.pr_truss.specs.declared.stages.ChildStep.TheVariants as child
use Rattle.pr_truss.specs.declared.stages.FreeingStep.{FreeingStep}
use Rattle.pr_truss.specs.declared.stages.FreeingStep.TheVariants as freeing
use Rattle.pr_truss.specs.declared.stages.OpeningStep.{OpeningStep}
use Rattle.pr_truss.specs.declared.stages.OpeningStep.TheVariants as opening
use Rattle.pr_truss.specs.declared.stages.Stage.{Stage}
use Rattle.pr_truss.specs.declared.stages.Stage.TheVariants.{Spawning, OpeningControl, Opening, Polling, ReadingStatus, ReadingText, OpeningChildControl, OpeningChild, Running, Closing, Unfollowing, ReadingLwps, FreeingChild, Finished}
use Rattle.pr_truss_laws.proofs.Files.ClosesLemmas.{after-fits, first-fits}
use Rattle.pr_truss_laws.proofs.Replies.ExchangeLemmas.{makes-front, makes-rest}
use Rattle.pr_truss_laws.proofs.Replies.FedSteps.{fed-step}
use Rattle.pr_truss_laws.proofs.Replies.FitLemmas.{fed-fits}
use Rattle.pr_truss_laws.proofs.Files.HeldLemmas.{Fits, at_place, set-at}
use Rattle.pr_truss_laws.proofs.Soon.LeavingLemmas.{OneLess, files, files-most, one-less}
use Rattle.pr_truss_laws.proofs.Replies.ReplySteps as step
use Rattle.pr_truss_laws.proofs.Replies.ReplySteps.{Closes, GoesOn, Learns, Looks, Opens, Reads, ReplyStep, Returns, Settles, StopOver, Turns}
use Rattle.pr_truss_laws.specs.Exchanges.{Exchange, Makes, truss_after}
use Rattle.pr_truss_laws.specs.Soon.{IsNoPoll, PollsSoon}

-- Truss polls soon, or has finished: each call brings it nearer to that.

-- ---- how far a step is from a poll

abbrev opening_part : OpeningStep → ℕ
opening_part opening.OpenStatus = 24
opening_part opening.OpenLstatus = 23
opening_part opening.OpenMemory = 22
opening_part opening.ClearModes = 21
opening_part opening.SetRelease = 20
opening_part opening.Stop = 19
opening_part (opening.AwaitStop until) = 18
opening_part opening.ReadLwps = 17
opening_part opening.TraceSignals = 16
opening_part opening.TraceFaults = 15
opening_part opening.TraceEntries = 14
opening_part opening.TraceExits = 13
opening_part opening.Follow = 12
opening_part opening.Start = 11

abbrev child_part : ChildStep → ℕ
child_part child.SetRelease = 20
child_part child.OpenStatus = 19
child_part child.OpenLstatus = 18
child_part child.OpenMemory = 17
child_part child.Start = 16

abbrev freeing_part : FreeingStep → ℕ
freeing_part freeing.OpenControl = 7
freeing_part (freeing.SetRelease control) = 6
freeing_part (freeing.Close control) = 5

abbrev after_part : AfterClosing → ℕ
after_part OpenNext = 0
after_part GoOn = 0
after_part (RunParent parent) = 11

-- a row a stage; less where truss leaves its processes
abbrev text_part : Bool → ℕ
text_part leaving = cond leaving 8 34

abbrev lwps_part : Bool → ℕ
lwps_part leaving = cond leaving 9 36

abbrev unfollow_part : Bool → ℕ
unfollow_part leaving = cond leaving 10 37

abbrev part : Bool → List Traced → Stage → ℕ
part leaving ts (Spawning program) = 38
part leaving ts (OpeningControl pid) = 37
part leaving ts (Opening place now) = opening_part now
part leaving ts Polling = 0
part leaving ts (ReadingStatus place) = 35
part leaving ts (ReadingText place l from len) = text_part leaving
part leaving ts (OpeningChildControl parent pid) = 33
part leaving ts (OpeningChild parent place now) = child_part now
part leaving ts (Running place) = 11
part leaving ts (Closing place next) = files (at_place ts place) + after_part next
part leaving ts Unfollowing = unfollow_part leaving
part leaving ts ReadingLwps = lwps_part leaving
part leaving ts (FreeingChild pid now) = freeing_part now
part leaving ts Finished = 0

-- with the processes that it may leave, and those that it is still to open
abbrev rest : TrussState → ℕ
rest s = 12 * length s.traced + 40 * (length s.options.pids - s.begun)

abbrev far : TrussState → ℕ
far s = rest s + part s.leaving s.traced s.stage

opening-least : (now : OpeningStep) → 11 ≤ opening_part now
opening-least opening.Start = omega arith
opening-least _ = omega arith

opening-most : (now : OpeningStep) → opening_part now ≤ 24
opening-most opening.Start = omega arith
opening-most _ = omega arith

child-least : (now : ChildStep) → 16 ≤ child_part now
child-least child.Start = omega arith
child-least _ = omega arith

child-most : (now : ChildStep) → child_part now ≤ 20
child-most child.Start = omega arith
child-most _ = omega arith

freeing-most : (now : FreeingStep) → freeing_part now ≤ 7
freeing-most freeing.OpenControl = omega arith
freeing-most _ = omega arith

after-most : (next : AfterClosing) → after_part next ≤ 11
after-most OpenNext = omega arith
after-most _ = omega arith

text-within : (b : Bool) → (8 ≤ text_part b) × (text_part b ≤ 34)
text-within true = (omega arith, omega arith)
text-within false = (omega arith, omega arith)

lwps-within : (b : Bool) → (text_part b + 1 ≤ lwps_part b) × (lwps_part b ≤ 36)
lwps-within true = (omega arith, omega arith)
lwps-within false = (omega arith, omega arith)

unfollow-within : (b : Bool) → (lwps_part b + 1 ≤ unfollow_part b) × (unfollow_part b ≤ 37)
unfollow-within true = (omega arith, omega arith)
unfollow-within false = (omega arith, omega arith)

part-most : (leaving : Bool) (ts : List Traced) (stage : Stage) → part leaving ts stage ≤ 38
part-most leaving ts (Opening place now) = omega (arith, opening-most now)
part-most leaving ts (ReadingText place l from len) = let t = text-within leaving in omega (arith, t.1)
part-most leaving ts (OpeningChild parent place now) = omega (arith, child-most now)
part-most leaving ts (Closing place next) = omega (arith, files-most (at_place ts place), after-most next)
part-most leaving ts Unfollowing = let u = unfollow-within leaving in omega (arith, u.1)
part-most leaving ts ReadingLwps = let l = lwps-within leaving in omega (arith, l.1)
part-most leaving ts (FreeingChild pid now) = omega (arith, freeing-most now)
part-most leaving ts _ = omega arith

-- ---- what comes next

on-near : (u v : TrussState) (given : Bool) → GoesOn u given v → far v ≤ rest u + 10
on-near u v given (step.finishes _) = omega arith
on-near u v given (step.polls _ _) = omega arith
on-near u v given (step.unfollows on _ _) =
    let it : unfollow_part u.leaving ≡ 10 = ap unfollow_part on in omega (arith, it)
on-near u v given (step.closes_first _ _ _) = omega (arith, files-most (at_place u.traced 0))
on-near u v given (step.opens_next {pid = pid} is) =
    let within : u.begun < length u.options.pids = slice_get_within u.options.pids u.begun pid is in
    omega (arith, within)

over-near : (u v : TrussState) (place : ℕ) (pid : Option ℕ) → StopOver u place pid v
    → far v + 1 ≤ rest u + text_part u.leaving
over-near u v place pid (step.runs off) =
    let it : text_part u.leaving ≡ 34 = ap text_part off in omega (arith, it)
over-near u v place pid (step.leaves _) =
    let t = text-within u.leaving in omega (arith, t.0, files-most (at_place u.traced place))
over-near u v place pid (step.opens_child off) =
    let it : text_part u.leaving ≡ 34 = ap text_part off in omega (arith, it)
over-near u v place pid (step.frees_child _) = let t = text-within u.leaving in omega (arith, t.0)

-- ---- a reply

-- a step at which truss neither polls nor has finished
abbrev IsBusy : Stage → Type 0
IsBusy Polling = ⊥
IsBusy Finished = ⊥
IsBusy _ = Unit {0}

opening-nears : (o : Options) (r : Reply) (now next : OpeningStep) → step_after o r now ≡ Some next
    → opening_part next + 1 ≤ opening_part now
unfolding step_after
opening-nears o r opening.OpenStatus next is =
    let it : 23 ≡ opening_part next = ap opening_part (same_Some opening.OpenLstatus next is) in omega (arith, it)
opening-nears o r opening.OpenLstatus next is =
    let it : 22 ≡ opening_part next = ap opening_part (same_Some opening.OpenMemory next is) in omega (arith, it)
opening-nears o r opening.OpenMemory next is =
    let it : 21 ≡ opening_part next = ap opening_part (same_Some opening.ClearModes next is) in omega (arith, it)
opening-nears o r opening.ClearModes next is =
    let it : 20 ≡ opening_part next = ap opening_part (same_Some opening.SetRelease next is) in omega (arith, it)
opening-nears o r opening.SetRelease next is =
    let it : 19 ≡ opening_part next = ap opening_part (same_Some opening.Stop next is) in omega (arith, it)
opening-nears o r opening.Stop next is =
    let it : 18 ≡ opening_part next = ap opening_part (same_Some _ next is) in omega (arith, it)
opening-nears o r (opening.AwaitStop until) next is =
    let it : 17 ≡ opening_part next = ap opening_part (same_Some opening.ReadLwps next is) in omega (arith, it)
opening-nears o r opening.ReadLwps next is =
    let it : 16 ≡ opening_part next = ap opening_part (same_Some opening.TraceSignals next is) in omega (arith, it)
opening-nears o r opening.TraceSignals next is =
    let it : 15 ≡ opening_part next = ap opening_part (same_Some opening.TraceFaults next is) in omega (arith, it)
opening-nears o r opening.TraceFaults next is =
    let it : 14 ≡ opening_part next = ap opening_part (same_Some opening.TraceEntries next is) in omega (arith, it)
opening-nears o r opening.TraceEntries next is =
    let it : 13 ≡ opening_part next = ap opening_part (same_Some opening.TraceExits next is) in omega (arith, it)
opening-nears o r opening.TraceExits next is =
    subst (λ to. opening_part to + 1 ≤ 13) (same_Some _ next is) (by o.follow)
  where
    by : (b : Bool) → opening_part (cond b opening.Follow opening.Start) + 1 ≤ 13
    by true = omega arith
    by false = omega arith
opening-nears o r opening.Follow next is =
    let it : 11 ≡ opening_part next = ap opening_part (same_Some opening.Start next is) in omega (arith, it)
opening-nears o r opening.Start next is = absurd (none-some next is)

child-nears : (now next : ChildStep) → child_step_after now ≡ Some next → child_part next + 1 ≤ child_part now
unfolding child_step_after
child-nears child.SetRelease next is =
    let it : 19 ≡ child_part next = ap child_part (same_Some child.OpenStatus next is) in omega (arith, it)
child-nears child.OpenStatus next is =
    let it : 18 ≡ child_part next = ap child_part (same_Some child.OpenLstatus next is) in omega (arith, it)
child-nears child.OpenLstatus next is =
    let it : 17 ≡ child_part next = ap child_part (same_Some child.OpenMemory next is) in omega (arith, it)
child-nears child.OpenMemory next is =
    let it : 16 ≡ child_part next = ap child_part (same_Some child.Start next is) in omega (arith, it)
child-nears child.Start next is = absurd (none-some next is)

module _ (s : TrussState) (r : Reply) where
  -- how far it was
  abbrev was : Stage → ℕ
  was stage = rest s + part s.leaving s.traced stage

  settles-near : (stage : Stage) (given : Bool) (u : TrussState) → IsBusy stage → Fits s.traced stage
      → Settles s r stage given u → rest u + 11 ≤ was stage
  settles-near stage given u busy f (step.interrupts_start _) = omega arith
  settles-near stage given u busy f (step.interrupts_control _) = omega arith
  settles-near stage given u busy f (step.interrupts_poll _) = absurd busy
  settles-near stage given u busy f (step.interrupts_status _) = omega arith
  settles-near stage given u busy f (step.interrupts_opening {place = place} {now = now} _) =
      omega (arith, opening-least now, length-set s.traced place (record (traced_at s place) { seen = true }))
  settles-near stage given u busy f (step.interrupts_text {place = place} _ off) =
      let it : text_part s.leaving ≡ 34 = ap text_part off in
      omega (arith, it, length-set s.traced place (record (traced_at s place) { seen = true }))
  settles-near stage given u busy f (step.interrupts_child_control {parent = parent} _) =
      omega (arith, length-set s.traced parent (record (traced_at s parent) { seen = true }))
  settles-near stage given u busy f (step.interrupts_child {parent = parent} {now = now} _) =
      omega (arith, child-least now, length-set s.traced parent (record (traced_at s parent) { seen = true }))
  settles-near stage given u busy f (step.interrupts_run {place = place} _) =
      omega (arith, length-set s.traced place (record (traced_at s place) { seen = true }))
  settles-near stage given u busy f (step.refuses_start _ _) = omega arith
  settles-near stage given u busy f (step.refuses_control _ _) = omega arith
  settles-near stage given u busy f (step.ends_opening {place = place} {now = now} _ _) =
      omega (arith, opening-least now, length-set s.traced place (learnt (traced_at s place) r now))
  settles-near stage given u busy f step.ran = omega arith
  settles-near stage given u busy f (step.closed_next {place = place} _) =
      omega (arith, length-remove s.traced place f.0)
  settles-near stage given u busy f (step.closed {place = place} _) =
      omega (arith, length-remove s.traced place f.0)

  reads-far : (stage : Stage) (place : ℕ) (l : Option LwpStatus) → Reads s r stage place l
      → text_part s.leaving + 1 ≤ part s.leaving s.traced stage
  reads-far stage place l (step.reads_status _) = let t = text-within s.leaving in omega (arith, t.1)
  reads-far stage place l (step.reads_none _) = let t = text-within s.leaving in omega (arith, t.1)
  reads-far stage place l (step.reads_lwps _) = let t = lwps-within s.leaving in t.0

  looks-near : (stage : Stage) (place : ℕ) (pid : Option ℕ) (u : TrussState) → Looks s r stage place pid u
      → rest u + text_part u.leaving ≤ was stage
  looks-near stage place pid u (step.passes w) = omega (arith, reads-far stage place _ w.reads)
  looks-near stage place pid u (step.passes_old reads _ _) =
      omega (
        arith,
        reads-far stage place _ reads,
        length-set s.traced place (record (traced_at s place) { old = (traced_at s place).old - 1 }),
      )
  looks-near stage place pid u (step.passes_event reads _ _) = omega (arith, reads-far stage place _ reads)
  looks-near stage place pid u (step.shows reads _ _ _) = omega (arith, reads-far stage place _ reads)
  looks-near stage place pid u step.shows_text = omega arith

  closes-near : (stage : Stage) (place : ℕ) (next : AfterClosing) (u : TrussState) → Closes s r stage place next u
      → rest u + files (at_place u.traced place) + after_part next + 1 ≤ was stage
  closes-near stage place next u (step.status_ended _) = omega (arith, files-most (at_place s.traced place))
  closes-near stage place next u (step.text_ended _) =
      let t = text-within s.leaving in omega (arith, t.0, files-most (at_place s.traced place))
  closes-near stage place next u (step.run_ended _) = omega (arith, files-most (at_place s.traced place))
  closes-near stage place next u (step.left_ended _) =
      let t = text-within s.leaving in
      let l = lwps-within s.leaving in
      let w = unfollow-within s.leaving in
      omega (arith, t.0, l.0, w.0, files-most (at_place s.traced 0))
  closes-near stage place next u (step.looked_last _) =
      let t = text-within s.leaving in
      let l = lwps-within s.leaving in
      omega (arith, t.0, l.0, files-most (at_place s.traced 0))
  closes-near stage place next u step.freed_last = omega (arith, files-most (at_place s.traced 0))
  closes-near stage place next u (step.freed_none _) = omega (arith, files-most (at_place s.traced 0))
  closes-near stage place next u (step.refuses_free _ _) = omega (arith, files-most (at_place s.traced 0))
  closes-near stage place next u (step.refuses_opening {now = now} _ _) =
      omega (arith, opening-least now, files-most (at_place s.traced place))
  closes-near stage place next u (step.refuses_child {now = now} _ _) =
      omega (arith, child-least now, files-most (at_place s.traced place))
  closes-near stage place next u (step.child_ended _) = omega (arith, files-most (at_place s.traced place))

  lost-file : (t u : Traced) (after : Option Traced) → OneLess t after → after ≡ Some u → files u + 1 ≡ files t
  lost-file t u None less is = absurd (none-some u is)
  lost-file t u (Some w) less is = subst (λ x. files x + 1 ≡ files t) (same_Some w u is) less

  returns-near : (stage : Stage) (parent : ℕ) (u : TrussState) → Fits s.traced stage → Returns s r stage parent u
      → rest u + 12 ≤ was stage
  returns-near stage parent u f (step.refuses_child_control _ _) = omega arith
  returns-near stage parent u f (step.child_runs _) = omega arith
  returns-near stage parent u f (step.child_closed {place = place} _) =
      omega (arith, length-remove s.traced place f.0)

  turns-near : (stage next : Stage) → IsBusy stage → Turns s r stage next
      → part s.leaving s.traced next + 1 ≤ part s.leaving s.traced stage
  turns-near stage next busy (step.starts _) = omega arith
  turns-near stage next busy step.polls_again = absurd busy
  turns-near stage next busy (step.is_named _) = absurd busy
  turns-near stage next busy step.unfollowed = let w = unfollow-within s.leaving in w.0
  turns-near stage next busy (step.frees _) = omega arith
  turns-near stage next busy step.frees_on = omega arith
  turns-near stage next busy step.has_finished = absurd busy

  opens-near : (stage next : Stage) (pid : ℕ) (leaving : Bool) (ts : List Traced)
      → Opens (length s.traced) stage pid next → part leaving ts next + 13 ≤ part s.leaving s.traced stage
  opens-near stage next pid leaving ts step.new_given = omega arith
  opens-near stage next pid leaving ts step.new_child = omega arith

  learns-near : (stage next : Stage) (place : ℕ) (t : Traced) (leaving : Bool) (ts : List Traced)
      → Learns s r stage place t next → part leaving ts next + 1 ≤ part s.leaving s.traced stage
  learns-near stage goes place t leaving ts (step.opening_goes {now = now} {next = next} after) =
      opening-nears s.options r now next after
  learns-near stage goes place t leaving ts (step.child_goes {now = now} {next = next} after) =
      child-nears now next after

  step-near : (stage : Stage) (v : TrussState) → IsBusy stage → Fits s.traced stage → ReplyStep s r stage v
      → far v + 1 ≤ was stage
  step-near stage v busy f (step.settles w on) =
      omega (arith, settles-near stage _ _ busy f w, on-near _ v _ on)
  step-near stage v busy f (step.looks w over) = omega (arith, looks-near stage _ _ _ w, over-near _ v _ _ over)
  step-near stage v busy f (step.asks reads _ _ _) = omega (arith, reads-far stage _ _ reads)
  step-near stage v busy f (step.closes w) = omega (arith, closes-near stage _ _ _ w)
  step-near stage v busy f (step.loses {place = place} {t = t} is) =
      let one : files t + 1 ≡ files (traced_at s place) =
      lost-file (traced_at s place) t (without_last (traced_at s place)) (one-less (traced_at s place)) is in
      let here : files (at_place (slice_set s.traced place t) place) ≡ files t =
      ap files (set-at s.traced place t f.0) in
      omega (arith, one, here, length-set s.traced place t)
  step-near stage v busy f (step.opens {pid = pid} _ w) =
      let more = s.traced ++ newly_traced pid (handle_in r) ∷ [] in
      omega (
        arith,
        opens-near stage _ _ s.leaving more w,
        length-append s.traced (newly_traced pid (handle_in r) ∷ []),
      )
  step-near stage v busy f (step.learns {place = place} {t = t} _ w) =
      omega (arith, learns-near stage _ _ _ s.leaving (slice_set s.traced place t) w, length-set s.traced place t)
  step-near stage v busy f (step.returns w) = omega (arith, returns-near stage _ _ f w)
  step-near stage v busy f (step.turns w) = omega (arith, turns-near stage _ busy w)

  fed-near : IsBusy s.stage → Fits s.traced s.stage → far (fed s r) + 1 ≤ far s
  fed-near busy f = step-near s.stage (fed s r) busy f (fed-step s r)

-- ---- the exchanges

stage-busy : (s : TrussState) (stage : Stage) (c : Call) → call_of s stage ≡ Some c
    → ((handles : List ℕ) → c ≡ call.Poll handles → ⊥) → IsBusy stage
unfolding call_of
stage-busy s Polling c is other = other _ (sym (same_Some _ c is))
stage-busy s Finished c is other = none-some c is
stage-busy s _ c is other = tt

next-busy : (s : TrussState) (c : Call) → next_call_of s ≡ Some c → ((handles : List ℕ) → c ≡ call.Poll handles → ⊥)
    → IsBusy s.stage
unfolding next_call_of
next-busy s c is other = stage-busy s s.stage c is other

nears : (xs : List Exchange) (s : TrussState) → Fits s.traced s.stage → Makes s xs → All IsNoPoll xs
    → length xs ≤ far s
nears [] s f makes none = omega arith
nears (x ∷ xs) s f makes none =
    let head = All-head IsNoPoll x xs none in
    let more = nears xs (fed s x.reply) (fed-fits s x.reply f) makes.1 (All-tail IsNoPoll x xs none) in
    omega (arith, more, fed-near s x.reply (next-busy s x.call makes.0 head.other) f)

pub polls-soon : (o : Options) (xs : List Exchange) → Makes (first_truss o) xs → PollsSoon o xs
polls-soon o xs makes = record {
  each = λ before between after is none.
      let s = truss_after (first_truss o) before in
      let made = subst (Makes (first_truss o)) is makes in
      let here = makes-rest (first_truss o) before (between ++ after) made in
      let fits = after-fits before (first_truss o) (first-fits o) in
      let it = nears between s fits (makes-front s between after here) none in
      omega (arith, it, part-most s.leaving s.traced s.stage);
}
