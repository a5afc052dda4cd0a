-- Since when an actor stands so: a lane shows it exactly where an entry began it, and each one behind that leaves it.
use Rattle.std.proofs.Common.{◌≡◌, ◌⊎◌, inl, inr, Bool, true, false, ◌&&◌, ◌||◌, not, if◌then◌else◌, List, [], ◌∷◌, ◌++◌, refl, sym, ap, ◌∙◌}
use Rattle.std.proofs.lemmas.Bool.{and_from, and_parts, false≢true, or_cases, or_left, or_right}
use Rattle.pr_model.specs.declared.events.Act.{Act}
use Rattle.pr_model.specs.declared.events.Act.TheVariants as act
use Rattle.pr_model.specs.declared.events.Actor.{Actor}
use Rattle.pr_model.specs.declared.events.Did.{Did}
use Rattle.pr_model.specs.declared.events.Did.TheVariants.{Stopped, Ran, Entered, Made, Slept, Woke, Returned, Faulted, Posted, Took, Acted}
use Rattle.pr_model.specs.declared.events.Entry.{Entry}
use Rattle.pr_model.specs.declared.events.How.TheVariants.{Caught, Ignored, JobStop, Died}
use Rattle.pr_model.specs.declared.events.Res.TheVariants.{Value, Error, Ended}
use Rattle.pr_hist.specs.Acts.{is_own}
use Rattle.pr_hist.specs.Lanes.{after_act, after_turn, born, by_turn, ended, is_ended, is_same, is_some_same, settled, stand_after}
use Rattle.pr_hist.specs.Laws.{StoodSince, all_leave, is_stop, leaves, stand_behind, stands, stops, stops_by}
use Rattle.pr_hist.specs.declared.lanes.Stand.{Stand}
use Rattle.pr_hist.specs.declared.lanes.Stand.TheVariants.{Absent, New, Runs, OnEvent, Requested, Asleep, JobStopped, Ends}

-- ---- one entry

-- A test of how an actor stands comes out true behind an entry that begins this, and behind one that leaves an actor so
-- that stood so.
abbrev pub IsBegun : (Stand → Bool) → (Entry → Actor → Bool) → Type 0
IsBegun test begins = (e : Entry) (a : Actor) (s : Stand)
    → test (stand_after e a s) ≡ (begins e a || (leaves e a && test s))

pub test-ended : (test : Stand → Bool) → test Absent ≡ false → test Ends ≡ false → (s : Stand) → test (ended s) ≡ false
unfolding ended
test-ended test absent ends Absent = absent
test-ended test absent ends New = ends
test-ended test absent ends Runs = ends
test-ended test absent ends OnEvent = ends
test-ended test absent ends Requested = ends
test-ended test absent ends Asleep = ends
test-ended test absent ends JobStopped = ends
test-ended test absent ends Ends = absent

pub test-settled : (test : Stand → Bool) → test Absent ≡ false → test Ends ≡ false → (s : Stand)
    → test (settled s) ≡ test s
unfolding settled
test-settled test absent ends Absent = refl
test-settled test absent ends New = refl
test-settled test absent ends Runs = refl
test-settled test absent ends OnEvent = refl
test-settled test absent ends Requested = refl
test-settled test absent ends Asleep = refl
test-settled test absent ends JobStopped = refl
test-settled test absent ends Ends = absent ∙ sym ends

pub or-false : (b : Bool) → b ≡ (b || false)
or-false true = refl
or-false false = refl

-- by the three tests: its own act, its birth, its end by another
by_tests : (test : Stand → Bool) → test New ≡ false → test Absent ≡ false → test Ends ≡ false
    → (own made gone : Bool) (acted s : Stand)
    → test (if own then acted else (if made then New else (if gone then ended s else settled s)))
    ≡ ((own && test acted) || ((not own && (not made && not gone)) && test s))
by_tests test new absent ends true made gone acted s = or-false (test acted)
by_tests test new absent ends false true gone acted s = new
by_tests test new absent ends false false true acted s = test-ended test absent ends s
by_tests test new absent ends false false false acted s = test-settled test absent ends s

-- what only acts of its own begin
pub own-begins : (test : Stand → Bool) (kind : Act → Bool) → test New ≡ false → test Absent ≡ false
    → test Ends ≡ false → ((x : Act) → test (after_act x) ≡ kind x) → IsBegun test (is_own kind)
unfolding stand_after leaves
own-begins test kind new absent ends acts e a s =
    by_tests test new absent ends (is_same e.actor a) (is_some_same (born e) a) (is_ended e a) (after_act e.act) s
    ∙ ap (λ b. (is_same e.actor a && b)
    || ((not (is_same e.actor a) && (not (is_some_same (born e) a) && not (is_ended e a))) && test s))
    (acts e.act)

-- ---- entries

pub stand_behind-append : (a : Actor) (s : Stand) (es fs : List Entry)
    → stand_behind a s (es ++ fs) ≡ stand_behind a (stand_behind a s es) fs
unfolding stand_behind
stand_behind-append a s [] fs = refl
stand_behind-append a s (e ∷ es) fs = stand_behind-append a (stand_after e a s) es fs

-- what stands so goes on to where each entry leaves it
pub test-left : (test : Stand → Bool) (begins : Entry → Actor → Bool) → IsBegun test begins → (a : Actor) (s : Stand)
    (es : List Entry) → test s ≡ true → all_leave a es ≡ true → test (stand_behind a s es) ≡ true
unfolding stand_behind all_leave
test-left test begins begun a s [] so left = so
test-left test begins begun a s (e ∷ es) so left =
    test-left test begins begun a (stand_after e a s) es
    (begun e a s ∙ or_right (begins e a) (leaves e a && test s)
    (and_from (leaves e a) (test s) (and_parts (leaves e a) (all_leave a es) left).0 so))
    (and_parts (leaves e a) (all_leave a es) left).1

pub test-since : (test : Stand → Bool) (begins : Entry → Actor → Bool) → IsBegun test begins → (a : Actor) (s : Stand)
    (es : List Entry) → StoodSince begins a es → test (stand_behind a s es) ≡ true
unfolding stand_behind
test-since test begins begun a s es since =
    ap (λ fs. test (stand_behind a s fs)) since.are
    ∙ ap test (stand_behind-append a s since.before (since.entry ∷ since.behind))
    ∙ test-left test begins begun a (stand_after since.entry a (stand_behind a s since.before)) since.behind
    (begun since.entry a (stand_behind a s since.before)
    ∙ or_left (begins since.entry a) (leaves since.entry a && test (stand_behind a s since.before)) since.is)
    since.left

later : (begins : Entry → Actor → Bool) (a : Actor) (e : Entry) (es : List Entry) → StoodSince begins a es
    → StoodSince begins a (e ∷ es)
later begins a e es since = record {
  before = e ∷ since.before;
  entry = since.entry;
  behind = since.behind;
  are = ap (λ fs. e ∷ fs) since.are;
  is = since.is;
  left = since.left;
}

-- what stands so behind entries began it in one of them, or stood so before them and was left
pub since-or : (test : Stand → Bool) (begins : Entry → Actor → Bool) → IsBegun test begins → (a : Actor) (s : Stand)
    (es : List Entry) → test (stand_behind a s es) ≡ true
    → StoodSince begins a es ⊎ ((test s ≡ true) × (all_leave a es ≡ true))
unfolding stand_behind all_leave
since-or test begins begun a s [] so = inr (so, refl)
since-or test begins begun a s (e ∷ es) so = by_rest (since-or test begins begun a (stand_after e a s) es so)
  where
    by_entry : all_leave a es ≡ true → (begins e a ≡ true) ⊎ ((leaves e a && test s) ≡ true)
        → StoodSince begins a (e ∷ es) ⊎ ((test s ≡ true) × ((leaves e a && all_leave a es) ≡ true))
    by_entry left (inl is) = inl (record { before = []; entry = e; behind = es; are = refl; is = is; left = left })
    by_entry left (inr both) =
        inr (
          (and_parts (leaves e a) (test s) both).1,
          and_from (leaves e a) (all_leave a es) (and_parts (leaves e a) (test s) both).0 left,
        )

    by_rest : StoodSince begins a es ⊎ ((test (stand_after e a s) ≡ true) × (all_leave a es ≡ true))
        → StoodSince begins a (e ∷ es) ⊎ ((test s ≡ true) × ((leaves e a && all_leave a es) ≡ true))
    by_rest (inl since) = inl (later begins a e es since)
    by_rest (inr stood) =
        by_entry stood.1 (or_cases (begins e a) (leaves e a && test s) (sym (begun e a s) ∙ stood.0))

-- ---- who stands still

-- what an lwp did tells whether it stands still then
stands-by_turn : (did : Did) → stands (by_turn did) ≡ stops did
unfolding stands by_turn stops
stands-by_turn Stopped = refl
stands-by_turn Ran = refl
stands-by_turn (Entered c) = refl
stands-by_turn (Made c (Value n)) = refl
stands-by_turn (Made c (Error e)) = refl
stands-by_turn (Made c Ended) = refl
stands-by_turn (Slept c) = refl
stands-by_turn (Woke c (Value n)) = refl
stands-by_turn (Woke c (Error e)) = refl
stands-by_turn (Woke c Ended) = refl
stands-by_turn (Returned c) = refl
stands-by_turn (Faulted f) = refl
stands-by_turn (Posted f) = refl
stands-by_turn (Took s) = refl
stands-by_turn (Acted s Caught) = refl
stands-by_turn (Acted s Ignored) = refl
stands-by_turn (Acted s JobStop) = refl
stands-by_turn (Acted s Died) = refl

stands-if : (stop : Bool) (did : Did) → stands (if stop then OnEvent else by_turn did) ≡ (stop || stops did)
unfolding stands
stands-if true did = refl
stands-if false did = stands-by_turn did

stands-after_act : (a : Act) → stands (after_act a) ≡ stops_by a
unfolding stands after_turn
stands-after_act (act.Call c r) = refl
stands-after_act (act.Turn t) = stands-if t.stop t.did
stands-after_act (act.Tick n) = refl

-- one entry: it is a stop, or it leaves one that stood
stops-begin : IsBegun stands is_stop
unfolding stands is_stop
stops-begin = own-begins stands stops_by refl refl refl stands-after_act

pub stands-since : (a : Actor) (s : Stand) (es : List Entry) → StoodSince is_stop a es
    → stands (stand_behind a s es) ≡ true
stands-since = test-since stands is_stop stops-begin

pub since-stands : (a : Actor) (s : Stand) (es : List Entry) → stands s ≡ false → stands (stand_behind a s es) ≡ true
    → StoodSince is_stop a es
since-stands a s es not_yet still = by (since-or stands is_stop stops-begin a s es still)
  where
    by : StoodSince is_stop a es ⊎ ((stands s ≡ true) × (all_leave a es ≡ true)) → StoodSince is_stop a es
    by (inl since) = since
    by (inr stood) = absurd (false≢true (sym not_yet ∙ stood.0))
