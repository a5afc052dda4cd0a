-- Each mark of a lane tells since which entry its lwp stands so.
use Rattle.std.proofs.Common.{◌≡◌, ◌↔◌, ◌⊎◌, inl, inr, Bool, true, false, ◌&&◌, ◌||◌, not, if◌then◌else◌, List, [], ◌∷◌, ◌++◌, refl, sym, ap, ◌∙◌}
use Rattle.std.proofs.lemmas.Bool.{and_from, and_parts, false≢true, or_cases, or_left, or_right}
use Rattle.pr_model.specs.declared.events.Act.{Act}
use Rattle.pr_model.specs.declared.events.Act.TheVariants as act
use Rattle.pr_model.specs.declared.events.Actor.{Actor}
use Rattle.pr_model.specs.declared.events.Did.{Did}
use Rattle.pr_model.specs.declared.events.Did.TheVariants.{Stopped, Ran, Entered, Made, Slept, Woke, Returned, Faulted, Posted, Took, Acted}
use Rattle.pr_model.specs.declared.events.Entry.{Entry}
use Rattle.pr_model.specs.declared.events.How.TheVariants.{Caught, Ignored, JobStop, Died}
use Rattle.pr_model.specs.declared.events.Res.TheVariants.{Value, Error, Ended}
use Rattle.pr_hist.specs.Acts.{ShowsSince, ends_itself, falls_asleep, goes_on, is_end, is_ended_by_another, is_job_stop, is_made_by_another, is_own, is_sleep, is_stopped, is_there, stops_by_signal, stops_on_event, stops_on_request}
use Rattle.pr_hist.specs.Lanes.{after_act, after_turn, born, by_turn, ended, is_ended, is_same, is_some_same, settled, stand_after}
use Rattle.pr_hist.specs.Laws.{StoodSince, all_leave, leaves, stand_behind}
use Rattle.pr_hist.specs.declared.lanes.Stand.{Stand}
use Rattle.pr_hist.specs.declared.lanes.Stand.TheVariants.{Absent, New, Runs, OnEvent, Requested, Asleep, JobStopped, Ends}
use Rattle.pr_hist.proofs.StandLemmas.{IsBegun, or-false, own-begins, since-or, stand_behind-append, test-ended, test-left, test-settled, test-since}

-- ---- whether an lwp stands so

abbrev is_at : Stand → Stand → Bool
is_at Absent Absent = true
is_at New New = true
is_at Runs Runs = true
is_at OnEvent OnEvent = true
is_at Requested Requested = true
is_at Asleep Asleep = true
is_at JobStopped JobStopped = true
is_at Ends Ends = true
is_at _ _ = false

is_at-same : (m s : Stand) → is_at m s ≡ true → s ≡ m
is_at-same Absent Absent is = refl
is_at-same New New is = refl
is_at-same Runs Runs is = refl
is_at-same OnEvent OnEvent is = refl
is_at-same Requested Requested is = refl
is_at-same Asleep Asleep is = refl
is_at-same JobStopped JobStopped is = refl
is_at-same Ends Ends is = refl
is_at-same m s is = absurd (false≢true is)

is_at-itself : (m : Stand) → is_at m m ≡ true
is_at-itself Absent = refl
is_at-itself New = refl
is_at-itself Runs = refl
is_at-itself OnEvent = refl
is_at-itself Requested = refl
is_at-itself Asleep = refl
is_at-itself JobStopped = refl
is_at-itself Ends = refl

is_at-from : (m s : Stand) → s ≡ m → is_at m s ≡ true
is_at-from m s is = ap (is_at m) is ∙ is_at-itself m

-- ---- what a turn makes of it

-- what an lwp did, if it did not stop on an event, by each mark
record MarksOf (did : Did) : Type 0 where
  event : is_at OnEvent (by_turn did) ≡ false
  new : is_at New (by_turn did) ≡ false
  request : is_at Requested (by_turn did) ≡ is_stopped did
  signal : is_at JobStopped (by_turn did) ≡ is_job_stop did
  sleep : is_at Asleep (by_turn did) ≡ is_sleep did
  end : is_at Ends (by_turn did) ≡ is_end did
  goes : is_at Runs (by_turn did) ≡ not (is_stopped did || (is_job_stop did || (is_sleep did || is_end did)))

marks-by_turn : (did : Did) → MarksOf did
unfolding by_turn is_stopped is_job_stop is_sleep is_end
marks-by_turn Stopped =
    record { event = refl; new = refl; request = refl; signal = refl; sleep = refl; end = refl; goes = refl }
marks-by_turn Ran =
    record { event = refl; new = refl; request = refl; signal = refl; sleep = refl; end = refl; goes = refl }
marks-by_turn (Entered c) =
    record { event = refl; new = refl; request = refl; signal = refl; sleep = refl; end = refl; goes = refl }
marks-by_turn (Made c (Value n)) =
    record { event = refl; new = refl; request = refl; signal = refl; sleep = refl; end = refl; goes = refl }
marks-by_turn (Made c (Error e)) =
    record { event = refl; new = refl; request = refl; signal = refl; sleep = refl; end = refl; goes = refl }
marks-by_turn (Made c Ended) =
    record { event = refl; new = refl; request = refl; signal = refl; sleep = refl; end = refl; goes = refl }
marks-by_turn (Slept c) =
    record { event = refl; new = refl; request = refl; signal = refl; sleep = refl; end = refl; goes = refl }
marks-by_turn (Woke c (Value n)) =
    record { event = refl; new = refl; request = refl; signal = refl; sleep = refl; end = refl; goes = refl }
marks-by_turn (Woke c (Error e)) =
    record { event = refl; new = refl; request = refl; signal = refl; sleep = refl; end = refl; goes = refl }
marks-by_turn (Woke c Ended) =
    record { event = refl; new = refl; request = refl; signal = refl; sleep = refl; end = refl; goes = refl }
marks-by_turn (Returned c) =
    record { event = refl; new = refl; request = refl; signal = refl; sleep = refl; end = refl; goes = refl }
marks-by_turn (Faulted f) =
    record { event = refl; new = refl; request = refl; signal = refl; sleep = refl; end = refl; goes = refl }
marks-by_turn (Posted f) =
    record { event = refl; new = refl; request = refl; signal = refl; sleep = refl; end = refl; goes = refl }
marks-by_turn (Took s) =
    record { event = refl; new = refl; request = refl; signal = refl; sleep = refl; end = refl; goes = refl }
marks-by_turn (Acted s Caught) =
    record { event = refl; new = refl; request = refl; signal = refl; sleep = refl; end = refl; goes = refl }
marks-by_turn (Acted s Ignored) =
    record { event = refl; new = refl; request = refl; signal = refl; sleep = refl; end = refl; goes = refl }
marks-by_turn (Acted s JobStop) =
    record { event = refl; new = refl; request = refl; signal = refl; sleep = refl; end = refl; goes = refl }
marks-by_turn (Acted s Died) =
    record { event = refl; new = refl; request = refl; signal = refl; sleep = refl; end = refl; goes = refl }

-- a turn with a stop on an event is nothing else
unless_event : (m : Stand) (stop b : Bool) (did : Did) → is_at m OnEvent ≡ false → is_at m (by_turn did) ≡ b
    → is_at m (if stop then OnEvent else by_turn did) ≡ (not stop && b)
unless_event m true b did apart is = apart
unless_event m false b did apart is = is

event-if : (stop : Bool) (did : Did) → is_at OnEvent (if stop then OnEvent else by_turn did) ≡ stop
event-if true did = refl
event-if false did = (marks-by_turn did).event

event-act : (x : Act) → is_at OnEvent (after_act x) ≡ stops_on_event x
unfolding after_turn stops_on_event
event-act (act.Call c r) = refl
event-act (act.Turn t) = event-if t.stop t.did
event-act (act.Tick n) = refl

request-act : (x : Act) → is_at Requested (after_act x) ≡ stops_on_request x
unfolding after_turn stops_on_request
request-act (act.Call c r) = refl
request-act (act.Turn t) = unless_event Requested t.stop (is_stopped t.did) t.did refl (marks-by_turn t.did).request
request-act (act.Tick n) = refl

signal-act : (x : Act) → is_at JobStopped (after_act x) ≡ stops_by_signal x
unfolding after_turn stops_by_signal
signal-act (act.Call c r) = refl
signal-act (act.Turn t) = unless_event JobStopped t.stop (is_job_stop t.did) t.did refl (marks-by_turn t.did).signal
signal-act (act.Tick n) = refl

sleep-act : (x : Act) → is_at Asleep (after_act x) ≡ falls_asleep x
unfolding after_turn falls_asleep
sleep-act (act.Call c r) = refl
sleep-act (act.Turn t) = unless_event Asleep t.stop (is_sleep t.did) t.did refl (marks-by_turn t.did).sleep
sleep-act (act.Tick n) = refl

end-act : (x : Act) → is_at Ends (after_act x) ≡ ends_itself x
unfolding after_turn ends_itself
end-act (act.Call c r) = refl
end-act (act.Turn t) = unless_event Ends t.stop (is_end t.did) t.did refl (marks-by_turn t.did).end
end-act (act.Tick n) = refl

goes-act : (x : Act) → is_at Runs (after_act x) ≡ goes_on x
unfolding after_turn goes_on
goes-act (act.Call c r) = refl
goes-act (act.Turn t) =
    unless_event Runs t.stop
    (not (is_stopped t.did || (is_job_stop t.did || (is_sleep t.did || is_end t.did)))) t.did refl
    (marks-by_turn t.did).goes
goes-act (act.Tick n) = refl

new-if : (stop : Bool) (did : Did) → is_at New (if stop then OnEvent else by_turn did) ≡ false
new-if true did = refl
new-if false did = (marks-by_turn did).new

new-act : (x : Act) → is_at New (after_act x) ≡ false
unfolding after_turn
new-act (act.Call c r) = refl
new-act (act.Turn t) = new-if t.stop t.did
new-act (act.Tick n) = refl

-- ---- marks that last

shows-since : (m : Stand) (begins : Entry → Actor → Bool) → IsBegun (is_at m) begins → ShowsSince m begins
shows-since m begins begun a s es =
    (λ is. to (since-or (is_at m) begins begun a s es (is_at-from m (stand_behind a s es) is)), from)
  where
    to : StoodSince begins a es ⊎ ((is_at m s ≡ true) × (all_leave a es ≡ true))
        → StoodSince begins a es ⊎ ((s ≡ m) × (all_leave a es ≡ true))
    to (inl since) = inl since
    to (inr stood) = inr (is_at-same m s stood.0, stood.1)

    from : StoodSince begins a es ⊎ ((s ≡ m) × (all_leave a es ≡ true)) → stand_behind a s es ≡ m
    from (inl since) = is_at-same m (stand_behind a s es) (test-since (is_at m) begins begun a s es since)
    from (inr stood) =
        is_at-same m (stand_behind a s es)
        (test-left (is_at m) begins begun a s es (is_at-from m s stood.0) stood.1)

pub shows-event : ShowsSince OnEvent (is_own stops_on_event)
shows-event =
    shows-since OnEvent (is_own stops_on_event) (own-begins (is_at OnEvent) stops_on_event refl refl refl event-act)

pub shows-request : ShowsSince Requested (is_own stops_on_request)
shows-request =
    shows-since Requested (is_own stops_on_request)
    (own-begins (is_at Requested) stops_on_request refl refl refl request-act)

pub shows-signal : ShowsSince JobStopped (is_own stops_by_signal)
shows-signal =
    shows-since JobStopped (is_own stops_by_signal)
    (own-begins (is_at JobStopped) stops_by_signal refl refl refl signal-act)

pub shows-sleep : ShowsSince Asleep (is_own falls_asleep)
shows-sleep =
    shows-since Asleep (is_own falls_asleep) (own-begins (is_at Asleep) falls_asleep refl refl refl sleep-act)

pub shows-going : ShowsSince Runs (is_own goes_on)
shows-going = shows-since Runs (is_own goes_on) (own-begins (is_at Runs) goes_on refl refl refl goes-act)

-- ---- who was made

new_by_tests : (own made gone : Bool) (acted s : Stand) → is_at New acted ≡ false
    → is_at New (if own then acted else (if made then New else (if gone then ended s else settled s)))
    ≡ ((not own && made) || ((not own && (not made && not gone)) && is_at New s))
new_by_tests true made gone acted s other = other
new_by_tests false true gone acted s other = refl
new_by_tests false false true acted s other = test-ended (is_at New) refl refl s
new_by_tests false false false acted s other = test-settled (is_at New) refl refl s

made-begins : IsBegun (is_at New) is_made_by_another
unfolding stand_after leaves is_made_by_another
made-begins e a s =
    new_by_tests (is_same e.actor a) (is_some_same (born e) a) (is_ended e a) (after_act e.act) s (new-act e.act)

pub shows-new : ShowsSince New is_made_by_another
shows-new = shows-since New is_made_by_another made-begins

-- ---- who ended

ends-ended : (s : Stand) → is_at Ends (ended s) ≡ is_there s
unfolding ended is_there
ends-ended Absent = refl
ends-ended New = refl
ends-ended Runs = refl
ends-ended OnEvent = refl
ends-ended Requested = refl
ends-ended Asleep = refl
ends-ended JobStopped = refl
ends-ended Ends = refl

ends-settled : (s : Stand) → is_at Ends (settled s) ≡ false
unfolding settled
ends-settled Absent = refl
ends-settled New = refl
ends-settled Runs = refl
ends-settled OnEvent = refl
ends-settled Requested = refl
ends-settled Asleep = refl
ends-settled JobStopped = refl
ends-settled Ends = refl

end_by_tests : (own made gone : Bool) (acted s : Stand)
    → is_at Ends (if own then acted else (if made then New else (if gone then ended s else settled s)))
    ≡ ((own && is_at Ends acted) || ((not own && (not made && gone)) && is_there s))
end_by_tests true made gone acted s = or-false (is_at Ends acted)
end_by_tests false true gone acted s = refl
end_by_tests false false true acted s = ends-ended s
end_by_tests false false false acted s = ends-settled s

ends-after : (e : Entry) (a : Actor) (s : Stand)
    → is_at Ends (stand_after e a s) ≡ (is_own ends_itself e a || (is_ended_by_another e a && is_there s))
unfolding stand_after is_ended_by_another
ends-after e a s =
    end_by_tests (is_same e.actor a) (is_some_same (born e) a) (is_ended e a) (after_act e.act) s
    ∙ ap (λ b. (is_same e.actor a && b)
    || ((not (is_same e.actor a) && (not (is_some_same (born e) a) && is_ended e a)) && is_there s))
    (end-act e.act)

either-true : (t own gone there : Bool) → t ≡ (own || (gone && there))
    → (t ≡ true) ↔ ((own ≡ true) ⊎ ((gone ≡ true) × (there ≡ true)))
either-true t own gone there is = (λ so. to (or_cases own (gone && there) (sym is ∙ so)), from)
  where
    to : (own ≡ true) ⊎ ((gone && there) ≡ true) → (own ≡ true) ⊎ ((gone ≡ true) × (there ≡ true))
    to (inl itself) = inl itself
    to (inr both) = inr (and_parts gone there both)

    from : (own ≡ true) ⊎ ((gone ≡ true) × (there ≡ true)) → t ≡ true
    from (inl itself) = is ∙ or_left own (gone && there) itself
    from (inr both) = is ∙ or_right own (gone && there) (and_from gone there both.0 both.1)

ends-behind : (a : Actor) (s : Stand) (es : List Entry) (e : Entry)
    → (is_at Ends (stand_behind a s (es ++ e ∷ [])) ≡ true)
    ↔ ((is_own ends_itself e a ≡ true) ⊎ ((is_ended_by_another e a ≡ true) × (is_there (stand_behind a s es) ≡ true)))
unfolding stand_behind
ends-behind a s es e =
    either-true (is_at Ends (stand_behind a s (es ++ e ∷ []))) (is_own ends_itself e a) (is_ended_by_another e a)
    (is_there (stand_behind a s es))
    (ap (is_at Ends) (stand_behind-append a s es (e ∷ [])) ∙ ends-after e a (stand_behind a s es))

pub shows-end : (a : Actor) (s : Stand) (es : List Entry) (e : Entry)
    → (stand_behind a s (es ++ e ∷ []) ≡ Ends)
    ↔ ((is_own ends_itself e a ≡ true) ⊎ ((is_ended_by_another e a ≡ true) × (is_there (stand_behind a s es) ≡ true)))
shows-end a s es e = (
  λ is. (ends-behind a s es e).0 (is_at-from Ends (stand_behind a s (es ++ e ∷ [])) is),
  λ so. is_at-same Ends (stand_behind a s (es ++ e ∷ [])) ((ends-behind a s es e).1 so),
)
