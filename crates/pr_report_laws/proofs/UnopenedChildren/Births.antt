use Rattle.std.proofs.Common.{◌≡◌, ◌≢◌, ◌==◌, ◌<◌, ◌⊎◌, ℕ, Bool, true, false, cond, None, Some, Option, List, [], ◌∷◌, ◌++◌, length, refl, sym, subst, ap, ◌∙◌, append_assoc, arith, inl, inr}
use Rattle.std.proofs.lemmas.Bool.{cases_Bool, eq-eqb, eqb-false, eqb-true, false≢true}
use Rattle.std.proofs.lemmas.List.Elements.{All-cons, All-head, All-nil, All-tail}
use Rattle.std.proofs.lemmas.Option.{none-some, same_Some}
use Rattle.std.specs.List.{slice_get}
use Rattle.pr_api.specs.Entries.{turn_entry}
use Rattle.pr_line.specs.declared.options.Options.{Options}
use Rattle.pr_model.specs.Calls.{Answer, answer_to}
use Rattle.pr_model.specs.Handles.{is_writable}
use Rattle.pr_model.specs.Lawful.{IsLawful}
use Rattle.pr_model.specs.Legal.{IsLegal, IsLegalEntry, after, after_call, state_after}
use Rattle.pr_model.specs.State.{TracedProcess, TracedState, live_process}
use Rattle.pr_model.specs.declared.calls.Call.{Call}
use Rattle.pr_model.specs.declared.calls.Call.TheVariants as call
use Rattle.pr_model.specs.declared.calls.File.TheVariants as file
use Rattle.pr_model.specs.declared.calls.Mode.TheVariants.{WriteExcl}
use Rattle.pr_model.specs.declared.calls.Reply.{Reply}
use Rattle.pr_model.specs.declared.calls.Reply.TheVariants.{Handle}
use Rattle.pr_model.specs.declared.events.Act.{Act}
use Rattle.pr_model.specs.declared.events.Act.TheVariants as act
use Rattle.pr_model.specs.declared.events.Actor.{Actor}
use Rattle.pr_model.specs.declared.events.Actor.TheVariants.{Controller, Lwp, Clock}
use Rattle.pr_model.specs.declared.events.Entry.{Entry}
use Rattle.pr_reached.proofs.FitStates.FitHistoryLemmas.{history-fits}
use Rattle.pr_reached.proofs.StatesInRange.HistoryRanges.{history-range}
use Rattle.pr_reached.specs.Fits.{IsFitSystem}
use Rattle.pr_reached.specs.ByteHistories.{HasBytes, IsEntryOfBytes}
use Rattle.pr_reached.specs.InRange.{IsInRange}
use Rattle.pr_reached.specs.Reached.{IsReached}
use Rattle.pr_truss.specs.Feeding.{fed}
use Rattle.pr_truss.specs.NextCalls.{call_of, next_call_of}
use Rattle.pr_truss.specs.Trusses.{TrussState, first_of_program, first_truss, idle, opening_or, traced_at}
use Rattle.pr_truss.specs.declared.processes.Traced.{Traced}
use Rattle.pr_truss.specs.declared.stages.Stage.{Stage}
use Rattle.pr_truss.specs.declared.stages.Stage.TheVariants.{Spawning, OpeningControl, OpeningChildControl}
use Rattle.pr_truss_laws.proofs.Files.HeldLemmas.{Fits}
use Rattle.pr_truss_laws.proofs.Files.OwnLemmas.{Owns}
use Rattle.pr_truss_laws.specs.Exchanges.{Exchange, Makes, exchange_in, exchange_of, exchanges, truss_after, truss_at}
use Rattle.pr_report_laws.specs.ReachedRuns.{IsReachedTrussRun}
use Rattle.pr_truss_laws.specs.Runs.{IsTrussRun}
use Rattle.pr_report_laws.proofs.UnopenedChildren.Claims.{Claims, KeepsChildren, IsFree, IsSet, Names, claim_of, opened, stands, watched}
use Rattle.pr_report_laws.proofs.UnopenedChildren.Claims as claims
use Rattle.pr_report_laws.proofs.UnopenedChildren.ClaimCalls.{call-follows}
use Rattle.pr_report_laws.proofs.UnopenedChildren.ClaimEntries.{entry-follows}
use Rattle.pr_report_laws.proofs.UnopenedChildren.ClaimFed.{fed-comes}
use Rattle.pr_report_laws.proofs.UnopenedChildren.ClaimRuns.{IsOwn, call_entry}
use Rattle.pr_report_laws.proofs.UnopenedChildren.ChildReads.{child-told, own-open}
use Rattle.pr_report_laws.proofs.UnopenedChildren.LeftChildren.{LeavesTo, OpensAsChild, leaves-later, parent-now}
use Rattle.pr_report_laws.proofs.UnopenedChildren.ClaimStands.{IsStanding}
use Rattle.pr_report_laws.proofs.Files.FileLaws.{HasFiles}
use Rattle.pr_report_laws.proofs.Files.FileSteps.{MakesNext, entry-files, entry-lawful, entry-owns, makes-next}
use Rattle.pr_report_laws.proofs.Invariant.ShownTallies.{truss-reports}
use Rattle.pr_report_laws.proofs.Files.WatchHistories.{uninterrupted}
use Rattle.pr_report_laws.proofs.Invariant.HistoryLaw.{BirthsFrom, OpensAtBirth, after-next, first-holds, first_tally, no-exchanges, reads-back}
use Rattle.pr_report_laws.proofs.Invariant.HistorySteps.{Holds, IsBorn, entry-holds}
use Rattle.pr_report_laws.proofs.Replies.Leaving.{IsLeaving, fed-leaving, first-leaving}
use Rattle.pr_report_laws.proofs.Machine.NewBorn.{untouched-now}
use Rattle.pr_report_laws.proofs.Replies.OptionLemmas.{told-options}
use Rattle.pr_report_laws.proofs.Replies.OwnLooks.{IsCall, ReadsBack}
use Rattle.pr_report_laws.proofs.Invariant.StandLemmas.{Leaves}
use Rattle.pr_report_laws.proofs.Watching.HistoryParts.{front-run}
use Rattle.pr_report_laws.specs.AsChildren.{WasOpenedAsChild}
use Rattle.pr_report_laws.specs.AtBirth.{IsFollowedAtBirth}
use Rattle.pr_report_laws.specs.Births.{LeavesForks, NamesNoChild, granted, IsNeverFollowed}
use Rattle.pr_report_laws.specs.Lineages.{IsLeftToTruss, IsNamed, Lineage, WasHad, WasTaken, descends, itself}
use Rattle.pr_report_laws.proofs.Invariant.Positions.{IsAtBirth}
use Rattle.pr_report_laws.proofs.Machine.TracedPoints.{picks-traced}
use Rattle.pr_report_laws.proofs.Invariant.Tallies.{Tally}
use Rattle.pr_report_laws.specs.Reads.{traces}
use Rattle.pr_report_laws.specs.Reported.{IsReported}
use Rattle.pr_report_laws.specs.Watching.{fed_by_entry, with_exchange}

-- Where truss opens the child of a fork, the child stands at its birth.

-- ---- what holds before an entry

-- what holds for a process, whatever may be missing of it
pub record Holding (k : ℕ) (o : Options) (pid : ℕ) (t : TrussState) (s : TracedState) : Type 1 where
  pub K : Type 0
  pub tally : Tally
  pub holds : Holds K k o pid t s tally

-- what holds whatever process is asked about
pub record Common (k : ℕ) (o : Options) (t : TrussState) (s : TracedState) : Type 0 where
  pub lawful : IsLawful s
  pub fit : IsFitSystem s.system
  pub owns : Owns k t s
  pub files : HasFiles k t s
  pub options : t.options ≡ o
  pub leaves : IsLeaving t

-- what holds for the processes of a line, and for their children
pub record Going (Line : ℕ → Type 0) (k : ℕ) (o : Options) (t : TrussState) (s : TracedState)
    (h : List Entry) : Type 1 where
  pub common : Common k o t s
  pub each : (pid : ℕ) → Line pid → Holding k o pid t s
  pub children : t.leaving ≡ false → KeepsChildren Line k o t s h

-- where truss leaves its processes it opens none by its id
names-leaving : (o : Options) (ts : List Traced) (leaving : Bool) (stage : Stage) → Leaves leaving stage
    → leaving ≡ true → Names o ts stage
names-leaving o ts leaving (Spawning program) goes is = absurd (false≢true (sym goes ∙ is))
names-leaving o ts leaving (OpeningControl pid) goes is = absurd (false≢true (sym goes ∙ is))
names-leaving o ts leaving _ goes is = tt

-- the entry of a call of truss, by what it learns
abbrev pub entry_by : Actor → Act → Entry
entry_by actor it = record { actor = actor; act = it }

pub entry-of : (k : ℕ) (actor : Actor) (it : Act) (x : Exchange) → exchange_in k actor it ≡ Some x
    → entry_by actor it ≡ entry_by (Controller k) (act.Call x.call x.reply)
entry-of k (Controller by) (act.Call c r) x is = own (by == k) refl is
  where
    own : (mine : Bool) → (by == k) ≡ mine → cond mine (Some (record { call = c; reply = r })) None ≡ Some x
        → entry_by (Controller by) (act.Call c r) ≡ entry_by (Controller k) (act.Call x.call x.reply)
    own true same e =
        ap (λ n. entry_by (Controller n) (act.Call c r)) (eqb-true by k same)
        ∙ ap (λ (y : Exchange). entry_by (Controller k) (act.Call y.call y.reply)) (same_Some _ x e)
    own false same e = absurd (none-some x e)
entry-of k _ _ x is = absurd (none-some x is)

module _ (Line : ℕ → Type 0) (n k : ℕ) (o : Options) (t : TrussState) (s : TracedState) (h : List Entry) where
  -- ---- where truss opens a child

  -- the entry in which its control file is opened
  pub child-granted : (e : Entry) (x : Exchange) (pid handle parent : ℕ) → MakesNext t (exchange_of k e)
      → exchange_of k e ≡ Some x → t.stage ≡ OpeningChildControl parent pid → x.reply ≡ Handle handle
      → e ≡ granted k pid 0 file.Ctl WriteExcl handle
  unfolding next_call_of call_of
  child-granted e x pid handle parent next is at given =
      let makes : next_call_of t ≡ Some x.call = subst (MakesNext t) is next in
      let calls : call.Open pid 0 file.Ctl WriteExcl ≡ x.call = same_Some _ x.call (ap (call_of t) (sym at) ∙ makes) in
      entry-of k e.actor e.act x is ∙ ap (λ (c : Call). entry_by (Controller k) (act.Call c x.reply)) (sym calls)
      ∙ ap (λ (r : Reply). entry_by (Controller k) (act.Call (call.Open pid 0 file.Ctl WriteExcl) r)) given

  born-now : (e : Entry) → Going Line k o t s (e ∷ h) → LeavesTo Line k o t (e ∷ h) → MakesNext t (exchange_of k e)
      → (pid : ℕ) → Line pid → IsBorn k o pid t s e
  born-now e g forks next pid line =
      record {
        child = λ x handle parent p is at given live. at-birth handle parent p
            (child-granted e x pid handle parent next is at given) at live;
      }
    where
      at-birth : (handle parent : ℕ) (p : TracedProcess) → e ≡ granted k pid 0 file.Ctl WriteExcl handle
          → t.stage ≡ OpeningChildControl parent pid → live_process s.system pid ≡ Some p → IsAtBirth o p
      at-birth handle parent p entry at live =
          let w = g.common in
          let files = w.files in
          let st = files.stands in
          let stays : t.leaving ≡ false = subst (Leaves t.leaving) at st.leaves in
          let f = g.children stays in
          let owns = w.owns in
          let within : parent < length t.traced = subst (Fits t.traced) at owns.fits in
          let is : claim_of o t.stage parent ≡ Some pid =
          ap (λ (x : Stage). claim_of o x parent) at ∙ ap (λ b. cond b (Some pid) None) (eq-eqb parent parent refl) in
          let above = parent-now Line k o t e h forks pid parent handle entry at line in
          let claim : Claims o t.traced t.stage s.system (traced_at t parent).pid pid =
          claims.reads parent within refl is in
          let new = f.born (traced_at t parent).pid pid above line claim in
          let untouched = untouched-now k o t s h pid parent handle e entry at new in
          let born = untouched.born p live in
          born.birth

  -- ---- what an entry leaves

  pub stand : (e : Entry) → Going Line k o t s (e ∷ h) → (pid : ℕ) → Line pid → IsStanding o pid t s
  stand e g pid line =
      let x = g.each pid line in
      let holds = x.holds in
      record { Why = _; tally = x.tally; standing = holds.standing; prepares = holds.prepares }

  told-leaves : (x : Option Exchange) → IsLeaving t → IsLeaving (with_exchange t x)
  told-leaves None leaves = leaves
  told-leaves (Some x) leaves = fed-leaving t x.reply leaves

  module _ (e : Entry) (g : Going Line k o t s (e ∷ h)) (reads : (pid : ℕ) → ReadsBack pid s)
      (legal : IsLegalEntry n s e) (next : MakesNext t (exchange_of k e)) where
    w : Common k o t s
    w = g.common

    later : IsLawful (after s e)
    later = entry-lawful n s e w.lawful legal

    pub common-later : Common k o (fed_by_entry k t e) (after s e)
    common-later = record {
      lawful = later;
      fit = history-fits n s (e ∷ []) w.lawful w.fit (legal, tt);
      owns = entry-owns n k t s e w.owns legal next;
      files = entry-files n k t s w.lawful (uninterrupted k s) w.owns w.files e legal next;
      options = told-options k t e ∙ w.options;
      leaves = told-leaves (exchange_of k e) w.leaves;
    }

    each-later : LeavesTo Line k o t (e ∷ h) → (pid : ℕ) → Line pid → Holding k o pid (fed_by_entry k t e) (after s e)
    each-later forks pid line =
        let x = g.each pid line in
        record {
          K = _;
          tally = _;
          holds =
              entry-holds x.K n k o pid t s x.tally x.holds (uninterrupted k s) (reads pid) e
              (born-now e g forks next pid line) legal next;
        }

  -- a call of truss
  module _ (c : Call) (a : Answer) (g : Going Line k o t s (call_entry k c a ∷ h))
      (reads : (pid : ℕ) → ReadsBack pid s)
      (legal : IsLegalEntry n s (call_entry k c a)) (next : MakesNext t (Some (record { call = c; reply = a.reply })))
      (answer : answer_to s k c ≡ Some a) where
    own-exchange : exchange_of k (call_entry k c a) ≡ Some (record { call = c; reply = a.reply })
    own-exchange = ap (λ b. cond b (Some (record { call = c; reply = a.reply })) None) (eq-eqb k k refl)

    own-next : MakesNext t (exchange_of k (call_entry k c a))
    own-next = subst (MakesNext t) (sym own-exchange) next

    pub own-after : after s (call_entry k c a) ≡ a.state
    unfolding after
    own-after = ap (after_call s) answer

    told-is : fed_by_entry k t (call_entry k c a) ≡ fed t a.reply
    told-is = ap (with_exchange t) own-exchange

    pub is-call : (pid : ℕ) → IsCall k o pid t s c a
    is-call pid =
        let w = g.common in
        let after_it = common-later (call_entry k c a) g reads legal own-next in
        record {
          next = next;
          answer = answer;
          lawful = w.lawful;
          later = subst IsLawful own-after after_it.lawful;
          fit = w.fit;
          owns = w.owns;
          files = w.files;
          files_later =
              subst (HasFiles k (fed t a.reply)) own-after
              (subst (λ (u : TrussState). HasFiles k u (after s (call_entry k c a))) told-is after_it.files);
          options = w.options;
          reads = reads pid;
        }

    own-names : Names t.options t.traced t.stage
    own-names = elim (cases_Bool t.leaving) [
      | inl leaving ↦ let w = g.common in
          let files = w.files in
          let st = files.stands in
          names-leaving t.options t.traced t.leaving t.stage st.leaves leaving
      | inr stays ↦ let f = g.children stays in
          let w = g.common in
          subst (λ (y : Options). Names y t.traced t.stage) (sym w.options) f.names
    ]

    -- truss that does not leave its processes did not leave them before
    pub own-stays : (fed t a.reply).leaving ≡ false → t.leaving ≡ false
    own-stays on =
        let w = g.common in
        let owns = w.owns in
        let comes = fed-comes t a.reply w.leaves owns.fits own-names on in
        comes.stays

    pub is-own : t.leaving ≡ false → IsOwn Line n k o t s c a
    is-own stays = record {
      call = is-call;
      stands = stand (call_entry k c a) g;
      legal = legal;
      later = own-after;
      stays = stays;
    }

    own-follows : LeavesTo Line k o t (call_entry k c a ∷ h) → (fed t a.reply).leaving ≡ false
        → KeepsChildren Line k o (fed t a.reply) (after s (call_entry k c a)) h
    own-follows forks on =
        let stays = own-stays on in
        let w = g.common in
        subst (λ (v : TracedState). KeepsChildren Line k o (fed t a.reply) v h) (sym own-after)
        (call-follows Line n k o t s c a (is-own stays) w.leaves h (g.children stays) forks on)

  -- an entry that is no call of truss
  others-follow : (e : Entry) (g : Going Line k o t s (e ∷ h)) → LeavesTo Line k o t (e ∷ h)
      → IsLegalEntry n s e → e.actor ≢ Controller k → t.leaving ≡ false
      → KeepsChildren Line k o t (after s e) h
  others-follow e g leaves legal others stays =
      let w = g.common in
      entry-follows Line n k o t s e h w.lawful w.fit w.files (stand e g) stays legal
      (entry-lawful n s e w.lawful legal) others leaves (g.children stays)

  -- ---- any entry

  module _ (reads : (pid : ℕ) → ReadsBack pid s) where
    call-follow : (by : ℕ) (c : Call) (r : Reply) (mine : Bool) → (by == k) ≡ mine
        → Going Line k o t s (record { actor = Controller by; act = act.Call c r } ∷ h)
        → LeavesTo Line k o t (record { actor = Controller by; act = act.Call c r } ∷ h)
        → IsLegalEntry n s (record { actor = Controller by; act = act.Call c r })
        → MakesNext t (cond mine (Some (record { call = c; reply = r })) None)
        → (with_exchange t (cond mine (Some (record { call = c; reply = r })) None)).leaving ≡ false
        → KeepsChildren Line k o (with_exchange t (cond mine (Some (record { call = c; reply = r })) None))
        (after s (record { actor = Controller by; act = act.Call c r })) h
    unfolding IsLegalEntry
    call-follow by c r false is g forks legal next on =
        others-follow (record { actor = Controller by; act = act.Call c r }) g forks legal
        (λ same. eqb-false by k is (of-controller by k same)) on
      where
        of-controller : (x y : ℕ) → Controller x ≡ Controller y → x ≡ y
        of-controller x y same = cc
    call-follow by c r true is g forks legal next on =
        subst (λ b. Going Line k o t s (record { actor = Controller b; act = act.Call c r } ∷ h)
        → LeavesTo Line k o t (record { actor = Controller b; act = act.Call c r } ∷ h) → IsLegalEntry n s
        (record { actor = Controller b; act = act.Call c r })
        → answer_to s b c ≡ Some (record { state = legal.1.0; reply = r })
        → KeepsChildren Line k o (fed t r) (after s (record { actor = Controller b; act = act.Call c r })) h)
        (sym (eqb-true by k is))
        (λ g' fs l answer. own-follows c
        (record { state = legal.1.0; reply = r }) g' reads l next answer fs on) g forks legal legal.1.1

    actor-follow : (actor : Actor) (it : Act) → Going Line k o t s (record { actor = actor; act = it } ∷ h)
        → LeavesTo Line k o t (record { actor = actor; act = it } ∷ h)
        → IsLegalEntry n s (record { actor = actor; act = it }) → MakesNext t (exchange_in k actor it)
        → (with_exchange t (exchange_in k actor it)).leaving ≡ false
        → KeepsChildren Line k o (with_exchange t (exchange_in k actor it))
        (after s (record { actor = actor; act = it })) h
    unfolding IsLegalEntry
    actor-follow (Controller by) (act.Call c r) g forks legal next on =
        call-follow by c r (by == k) refl g forks legal next on
    actor-follow (Lwp pid id) it g forks legal next on =
        others-follow (record { actor = Lwp pid id; act = it }) g forks legal (λ same. cc) on
    actor-follow Clock it g forks legal next on =
        others-follow (record { actor = Clock; act = it }) g forks legal (λ same. cc) on
    actor-follow (Controller by) (act.Turn did) g forks legal next on = absurd legal
    actor-follow (Controller by) (act.Tick moment) g forks legal next on = absurd legal

    pub going-on : (e : Entry) → Going Line k o t s (e ∷ h) → LeavesTo Line k o t (e ∷ h)
        → IsLegalEntry n s e → MakesNext t (exchange_of k e) → Going Line k o (fed_by_entry k t e) (after s e) h
    going-on e g forks legal next = record {
      common = common-later e g reads legal next;
      each = each-later e g reads legal next forks;
      children = λ on. actor-follow e.actor e.act g forks legal next on;
    }

-- ---- histories

-- what was asked of the first entry, and of those after it
births-join : (k : ℕ) (o : Options) (pid : ℕ) (t : TrussState) (s : TracedState) (e : Entry) (h : List Entry)
    → IsBorn k o pid t s e → BirthsFrom k o pid (fed_by_entry k t e) (after s e) h → BirthsFrom k o pid t s (e ∷ h)
births-join k o pid t s e h now rest = record { child = by }
  where
    first-is-it : {e' : Entry} {xs ys : List Entry} → e' ∷ xs ≡ e ∷ ys → e' ≡ e
    first-is-it same = cc

    by : (before later : List Entry) (x : Entry) (made : Exchange) (handle parent : ℕ) (p : TracedProcess)
        → e ∷ h ≡ before ++ x ∷ later → exchange_of k x ≡ Some made
        → (truss_after t (exchanges k before)).stage ≡ OpeningChildControl parent pid
        → made.reply ≡ Handle handle → live_process (state_after s before).system pid ≡ Some p → IsAtBirth o p
    by [] later x made handle parent p is own stage given live =
        let same : x ≡ e = cc in
        now.child made handle parent p (ap (exchange_of k) (sym same)
        ∙ own) (ap (λ (u : TrussState). u.stage) (sym (no-exchanges k t)) ∙ stage) given live
    by (b ∷ before) later x made handle parent p is own stage given live =
        let same : b ≡ e = cc in
        let tail : h ≡ before ++ x ∷ later = cc in
        rest.child before later x made handle parent p tail own
        (ap (λ (u : TrussState). u.stage) (sym (after-next k t e before)
        ∙ ap (λ (y : Entry). truss_after t (exchanges k (y ∷ before))) (sym same)) ∙ stage) given
        (ap (λ (y : Entry). live_process (state_after (after s y) before).system pid) (sym same) ∙ live)

history-births : (Line : ℕ → Type 0) (n k : ℕ) (o : Options) (h : List Entry) (t : TrussState) (s : TracedState)
    → Going Line k o t s h → IsLegal n s h → Makes t (exchanges k h) → IsInRange s.system → HasBytes h
    → LeavesTo Line k o t h → (pid : ℕ) → Line pid → BirthsFrom k o pid t s h
history-births Line n k o [] t s g legal makes range bytes forks pid line =
    record { child = λ before later e x handle parent p is own stage given live. absurd (nothing before later e is) }
  where
    nothing : (before later : List Entry) (e : Entry) → [] ≡ before ++ e ∷ later → ⊥
    nothing [] later e is = cc
    nothing (b ∷ before) later e is = cc
history-births Line n k o (e ∷ h) t s g legal makes range bytes forks pid line =
    let first = makes-next k t e h makes in
    let w = g.common in
    births-join k o pid t s e h (born-now Line n k o t s h e g forks first.0 pid line)
    (history-births Line n k o h (fed_by_entry k t e) (after s e)
    (going-on Line n k o t s h (λ of. reads-back of s w.lawful range) e g forks legal.0 first.0) legal.1 first.1
    (history-range n s (e ∷ []) w.lawful range
    (All-cons IsEntryOfBytes e [] (All-head IsEntryOfBytes e h bytes) (All-nil IsEntryOfBytes)) (legal.0, tt))
    (All-tail IsEntryOfBytes e h bytes) (leaves-later Line k o t e h forks) pid line)

-- ---- the first state

opening-traced : (o : Options) (x : Option ℕ) → (opening_or (idle o) (idle o) x).traced ≡ []
opening-traced o None = refl
opening-traced o (Some pid) = refl

program-traced : (o : Options) (x : Option (List ℕ)) → (first_of_program o x).traced ≡ []
program-traced o None = opening-traced o (slice_get o.pids 0)
program-traced o (Some program) = refl

pub first-traced : (o : Options) → (first_truss o).traced ≡ []
unfolding first_truss
first-traced o = program-traced o o.program

none-names : (o : Options) (ts : List Traced) (stage : Stage) → ts ≡ [] → Names o ts stage
none-names o ts (Spawning program) none = none
none-names o ts (OpeningControl pid) none = inr none
none-names o ts _ none = tt

-- truss that traces no process yet
pub first-follows : (Line : ℕ → Type 0) (k : ℕ) (o : Options) (t : TrussState) (s : TracedState)
    (h : List Entry) → t.traced ≡ [] → KeepsChildren Line k o t s h
first-follows Line k o t s h none = record {
  flags = λ follow place x line p live. nowhere place (set-there place x);
  born = λ pid c line its claim. unclaimed pid c claim;
  one = λ pid other c line both its x y. unclaimed pid c x;
  names = none-names o t.traced t.stage none;
}
  where
    nowhere : {X : Type 0} (place : ℕ) → place < length t.traced → X
    nowhere place within = absurd (omega (arith, ap (λ (ts : List Traced). length ts) none))

    set-there : (place : ℕ) → IsSet t.traced t.stage place → place < length t.traced
    set-there place (watched within on here) = within
    set-there place (opened within its) = within

    unclaimed : {X : Type 0} (pid c : ℕ) → Claims o t.traced t.stage s.system pid c → X
    unclaimed pid c (claims.reads place within same is) = nowhere place within
    unclaimed pid c (stands place free same follow p live forked) = nowhere place free.within

-- what holds before the first entry
pub first-going : (Line : ℕ → Type 0) (n k : ℕ) (o : Options) (s : TracedState) (h : List Entry) → IsReached s
    → IsTrussRun n k o s h → Going Line k o (first_truss o) s h
first-going Line n k o s h reached run = record {
  common =
      let first = first-holds (traces o) n k o 0 s h (picks-traced o) reached run in
      record {
        lawful = first.lawful;
        fit = first.fit;
        owns = first.owns;
        files = first.files;
        options = first.options;
        leaves = first-leaving o;
      };
  each = λ pid line. record {
    K = ⊥;
    tally = first_tally (traces o);
    holds = first-holds (traces o) n k o pid s h (picks-traced o) reached run;
  };
  children = λ stays. first-follows Line k o (first_truss o) s h (first-traced o);
}

-- ---- the line of a process

module _ (n k : ℕ) (o : Options) (pid : ℕ) (s : TracedState) (h : List Entry) (run : IsTrussRun n k o s h) where
  -- truss opens a child of the process at the place that its open names
  opens-from : (child : ℕ) (w : OpensAsChild k child (first_truss o) h)
      → WasOpenedAsChild k o (traced_at (truss_at k o w.front) w.place).pid child s h
  opens-from child w =
      let told =
      child-told n k o s w.front
      (front-run n k o s w.front (granted k child 0 file.Ctl WriteExcl w.handle ∷ w.later)
      (subst (IsTrussRun n k o s) w.is run)) w.place child w.at in
      record {
        before = w.front;
        entry = granted k child 0 file.Ctl WriteExcl w.handle;
        handle = w.handle;
        later = w.later;
        is = w.is;
        opens = own-open k child w.handle;
        told = told.0;
        of = told.1;
      }

  pub line-left : IsLeftToTruss k o pid s h → LeavesTo (Lineage k o pid s h) k o (first_truss o) h
  unfolding opens-from
  line-left left = record {
    parents =
        λ child line w. descends child (traced_at (truss_at k o w.front) w.place).pid line (opens-from child w);
    left =
        λ follow child line w taken. left.each follow child (traced_at (truss_at k o w.front) w.place).pid line
        (opens-from child w) taken;
  }

-- Where nobody got hold of a process before truss, nor of those that it descends from, truss opens it at its birth, if
-- it opens it as the child of a fork.
pub births : (n k : ℕ) (o : Options) (pid : ℕ) (s : TracedState) (h : List Entry)
    → IsReachedTrussRun n k o s h → IsLeftToTruss k o pid s h → OpensAtBirth k o pid s h
births n k o pid s h run left =
    let Line : ℕ → Type 0 = Lineage k o pid s h in
    let b =
    history-births Line n k o h (first_truss o) s (first-going Line n k o s h run.reached run.of) run.of.legal
    run.of.makes run.reached.in_range run.bytes (line-left n k o pid s h run.of left) pid itself in
    record {
      child = λ before later e x handle parent p is own stage given live. b.child before later e x handle
          parent p is own stage given live;
    }

-- Then truss has shown of the process exactly the selected events that came while it watched the process.
pub left-report : (n k : ℕ) (o : Options) (pid : ℕ) (s : TracedState) (h : List Entry)
    → IsReachedTrussRun n k o s h → IsLeftToTruss k o pid s h → IsReported k o pid s h
left-report n k o pid s h run left =
    truss-reports n k o pid s h run (births n k o pid s h run left)

-- Where fork makes none of the processes that the options name, and no other controller opens a child of a fork for
-- writing before truss does, each process is left to truss.
module _ (k : ℕ) (o : Options) (pid : ℕ) (s : TracedState) (h : List Entry) (named : NamesNoChild o h)
    (forks : LeavesForks k o h) where
  module _ (follow : o.follow ≡ true) (child parent : ℕ) (opened : WasOpenedAsChild k o parent child s h)
      (x : WasTaken k o child opened.before) where
    abbrev own_open : Entry
    own_open = granted k child 0 file.Ctl WriteExcl opened.handle

    -- the fork, the open of the other, and that of truss
    whole : (w : WasHad k o child x.since) → h ≡ x.before ++ turn_entry x.parent x.id x.turned
        ∷ (w.before ++ granted w.by child w.lwp w.file w.mode w.handle ∷ (w.later ++ own_open ∷ opened.later))
    whole w =
        let other : Entry = granted w.by child w.lwp w.file w.mode w.handle in
        let fork : Entry = turn_entry x.parent x.id x.turned in
        opened.is
        ∙ ap (λ (y : Entry). opened.before ++ y ∷ opened.later)
        (entry-of k opened.entry.actor opened.entry.act _ opened.opens)
        ∙ ap (λ (es : List Entry). es ++ own_open ∷ opened.later) x.is
        ∙ append_assoc x.before (fork ∷ x.since) (own_open ∷ opened.later)
        ∙ ap (λ (es : List Entry). x.before ++ fork ∷ (es ++ own_open ∷ opened.later)) w.is
        ∙ ap (λ (es : List Entry). x.before ++ fork ∷ es)
        (append_assoc w.before (other ∷ w.later) (own_open ∷ opened.later))

    taken-not : (w : WasHad k o child x.since)
        → ((w.by ≢ k) × (is_writable w.mode ≡ true)) ⊎ ((w.by ≡ k) × ((w.file ≡ file.Mem) × IsNamed o child)) → ⊥
    taken-not w (inl other) =
        other.0
        (forks.each follow x.before w.before w.later opened.later x.parent x.id x.turned w.by child w.lwp w.handle 0
        opened.handle w.file file.Ctl w.mode WriteExcl (whole w) x.forks other.1 refl)
    taken-not w (inr own) =
        let its : IsNamed o child = own.1.1 in
        named.none follow x.before
        (w.before ++ granted w.by child w.lwp w.file w.mode w.handle ∷ (w.later ++ own_open ∷ opened.later)) x.parent
        x.id its.place child x.turned (whole w) x.forks its.is

  pub all-left : IsLeftToTruss k o pid s h
  all-left = record {
    each = λ follow child parent line opened taken. let w = taken.had in
        taken-not follow child parent opened taken w w.who;
  }

pub births-report : (n k : ℕ) (o : Options) (pid : ℕ) (s : TracedState) (h : List Entry)
    → IsReachedTrussRun n k o s h → NamesNoChild o h → LeavesForks k o h → IsReported k o pid s h
births-report n k o pid s h run named forks =
    left-report n k o pid s h run (all-left k o pid s h named forks)

-- So it is of a process that stands at its birth where truss gets hold of it, whoever had it before.
pub opens-birth : (k : ℕ) (o : Options) (pid : ℕ) (s : TracedState) (h : List Entry) → IsFollowedAtBirth k o pid s h
    → OpensAtBirth k o pid s h
opens-birth k o pid s h at = record { child = at.each }

pub birth-report : (n k : ℕ) (o : Options) (pid : ℕ) (s : TracedState) (h : List Entry)
    → IsReachedTrussRun n k o s h → IsFollowedAtBirth k o pid s h → IsReported k o pid s h
birth-report n k o pid s h run at =
    truss-reports n k o pid s h run (opens-birth k o pid s h at)

pub left-birth : (n k : ℕ) (o : Options) (pid : ℕ) (s : TracedState) (h : List Entry)
    → IsReachedTrussRun n k o s h → IsLeftToTruss k o pid s h → IsFollowedAtBirth k o pid s h
left-birth n k o pid s h run left =
    let b = births n k o pid s h run left in record { each = b.child }

-- A process of which truss never got hold as a child asks for nothing of the kind.
pub unfollowed-births : (k : ℕ) (o : Options) (pid : ℕ) (s : TracedState) (h : List Entry) → IsNeverFollowed k o pid h
    → OpensAtBirth k o pid s h
unfollowed-births k o pid s h unfollowed =
    record {
      child = λ before later e opening handle parent p is own stage given live. absurd
          (unfollowed.none before later e opening handle parent is own stage given);
    }

pub unfollowed-report : (n k : ℕ) (o : Options) (pid : ℕ) (s : TracedState) (h : List Entry)
    → IsReachedTrussRun n k o s h → IsNeverFollowed k o pid h → IsReported k o pid s h
unfollowed-report n k o pid s h run unfollowed =
    truss-reports n k o pid s h run (unfollowed-births k o pid s h unfollowed)

pub ruleset reports = (left-report, births-report, unfollowed-report, birth-report, left-birth)

pub ruleset lefts = (all-left)
