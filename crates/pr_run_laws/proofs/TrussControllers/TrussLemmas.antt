use Rattle.std.proofs.Common.{◌≡◌, ◌≢◌, ◌==◌, ◌<◌, ◌++◌, length, ℕ, zero, suc, Bool, true, false, cond, Option, Some}
use Rattle.std.proofs.Common.{None, List, [], ◌∷◌, ◌⊎◌, append_assoc, inl, inr, replicate, refl, sym, ◌∙◌, ap, subst}
use Rattle.std.proofs.lemmas.Bool.{eqb-true, eqb-false, false≢true}
use Rattle.std.proofs.lemmas.List.{append-nil}
use Rattle.std.specs.List.{cons_option, slice_get}
use Rattle.std.specs.Option.{option_and_then}
use Rattle.std.proofs.lemmas.Option.{slice_get_within}
use Rattle.pr_report_laws.proofs.Watching.Unfollowing.{left-unfollowed}
use Rattle.pr_report_laws.specs.Shown.{LwpEvent}
use Rattle.pr_line.specs.Selections.{is_selected}
use Rattle.pr_line.specs.declared.options.Options.{Options}
use Rattle.pr_model.specs.Handles.{handle_of, own}
use Rattle.pr_model.specs.Legal.{IsLegal, state_after}
use Rattle.pr_model.specs.State.{Places, TracedProcess, TracedState, live_process, nothing_open}
use Rattle.pr_model.specs.declared.calls.Call.{Call}
use Rattle.pr_model.specs.declared.calls.File.TheVariants.{Ctl}
use Rattle.pr_model.specs.declared.calls.Mode.TheVariants.{WriteExcl}
use Rattle.pr_model.specs.declared.calls.Reply.{Reply}
use Rattle.pr_model.specs.declared.events.Act.{Act}
use Rattle.pr_model.specs.declared.events.Act.TheVariants as act
use Rattle.pr_model.specs.declared.events.Actor.{Actor}
use Rattle.pr_model.specs.declared.events.Actor.TheVariants.{Controller, Lwp, Clock}
use Rattle.pr_model.specs.declared.events.Entry.{Entry}
use Rattle.pr_model.specs.declared.handles.Held.{Held}
use Rattle.pr_reached.specs.ByteHistories.{HasBytes}
use Rattle.pr_reached.specs.Reached.{IsReached}
use Rattle.pr_report_laws.proofs.Asking.AskedLaws.{asks-lines, one-message, reads-replies, what-traces}
use Rattle.pr_report_laws.proofs.Asking.CountLaws.{prints-counts}
use Rattle.pr_report_laws.proofs.Asking.HeldRefused.{tells-no-refusal}
use Rattle.pr_report_laws.proofs.Asking.LeavingLooks.{looks-at-left}
use Rattle.pr_report_laws.proofs.Asking.LooksMade.{looks-in-place}
use Rattle.pr_report_laws.proofs.Asking.MemoryAsked.{reads-lines}
use Rattle.pr_report_laws.proofs.Asking.NamedRuns.{runs-named}
use Rattle.pr_report_laws.proofs.Asking.OnceShown.{shows-stops-once}
use Rattle.pr_report_laws.proofs.Asking.ReadShown.{shows-what-is-new}
use Rattle.pr_report_laws.proofs.Asking.RefusedOpens.{tells-of-opens}
use Rattle.pr_report_laws.proofs.Asking.SelectedLaws.{selects-named}
use Rattle.pr_report_laws.proofs.Asking.ShownLaws.{shows-read}
use Rattle.pr_report_laws.proofs.OwnFiles.CalledFiles.{calls-files, polls-once}
use Rattle.pr_report_laws.proofs.OwnFiles.ControlsLast.{closes-controls-last}
use Rattle.pr_report_laws.proofs.OwnFiles.EndedFiles.{closes-ended}
use Rattle.pr_report_laws.proofs.OwnFiles.KeptOpen.{closes-nothing-held}
use Rattle.pr_report_laws.proofs.OwnFiles.LeftFiles.{closes-left}
use Rattle.pr_report_laws.proofs.OwnFiles.OrderedPolls.{polls-in-order}
use Rattle.pr_report_laws.proofs.OwnFiles.PlacedOpens.{opens-in-place}
use Rattle.pr_report_laws.proofs.OwnFiles.SentLater.{sends-later}
use Rattle.pr_report_laws.proofs.OwnFiles.SoonOpens.{polls-by-files}
use Rattle.pr_report_laws.proofs.Watching.BeginLaws.{finished-watches-none}
use Rattle.pr_report_laws.proofs.Watching.EndLaws.{watched-let}
use Rattle.pr_report_laws.proofs.Watching.HistoryParts.{front-reached}
use Rattle.pr_report_laws.proofs.UnopenedChildren.LeftChildren.{left-front}
use Rattle.pr_report_laws.proofs.FollowedChildren.FollowCalm.{never-kept, never-left}
use Rattle.pr_report_laws.proofs.ToldForks.ToldReads.{child-followed, child-freed, file-has}
use Rattle.pr_report_laws.proofs.Memory.MemoryReads.{read-texts}
use Rattle.pr_report_laws.proofs.NewbornChildren.NewbornLaws.{left-forked, left-rests, left-silent, left-unstarted}
use Rattle.pr_report_laws.proofs.Files.WatchHistories.{exchanges-both, makes-front}
use Rattle.pr_tool_laws.proofs.Records.WholeLemmas.{front-legal}
use Rattle.pr_report_laws.specs.Attachments.{HasFollowed, IsLetGo}
use Rattle.pr_report_laws.specs.Watching.{watches}
use Rattle.pr_truss.specs.Feeding.{fed}
use Rattle.pr_truss.specs.NextCalls.{next_call_of}
use Rattle.pr_truss.specs.Trusses.{TrussState, first_truss}
use Rattle.pr_truss_laws.proofs.GivenProcesses.GivenLemmas.{given-handled, handled-so-far}
use Rattle.pr_truss_laws.proofs.Files.OwnLemmas.{nothing-open}
use Rattle.pr_truss_laws.proofs.OwnBusiness.BusinessLemmas.{does-business}
use Rattle.pr_report_laws.proofs.Watching.NamedSoon.{looks-at-named, runs-before-polls, soon-done}
use Rattle.pr_report_laws.proofs.Holding.HeldLaws.{cares-for-children, gripped-once, lets-go-for-reason, moments-while-held, read-while-held, shown-while-held}
use Rattle.pr_report_laws.proofs.Holding.HoldPlaces.{gets-off, hold-watched, unwatched-hold}
use Rattle.pr_report_laws.proofs.Holding.SetReleases.{grants-release, holds-control, releases-set}
use Rattle.pr_report_laws.specs.Grips.{GetsHold}
use Rattle.pr_report_laws.specs.HeldEvents.{DiedHeld, IsLacking, ShowsHeld}
use Rattle.pr_report_laws.specs.Holds.{HasHold, LetsGoIn}
use Rattle.pr_num.specs.Control.{rlc_mode}
use Rattle.pr_num.specs.declared.messages.Message.TheVariants.{Set}
use Rattle.pr_truss.specs.Messages.{message_call}
use Rattle.pr_report_laws.specs.Lineages.{IsLeftToTruss}
use Rattle.pr_report_laws.specs.ReachedRuns.{IsReachedTrussRun}
use Rattle.pr_truss_laws.specs.Exchanges.{Ends, Exchange, Makes, errno_in, exchange_in, exchange_of, exchanges, truss_after, truss_at}
use Rattle.pr_truss_laws.specs.Handles.{HasNothingOpen}
use Rattle.pr_truss_laws.specs.Runs.{IsTrussRun}
use Rattle.pr_world.specs.Controllers.{after_reply, call_by, next_call, with_fed}
use Rattle.pr_world.specs.ControllerStates.{ControllerState, Truss}
use Rattle.pr_tool_laws.specs.OwnCalls.{AreOwnCalls, IsOwnCall}
use Rattle.pr_world.specs.Protocol.{controllers_after, controllers_at}
use Rattle.pr_run_laws.specs.TrussRuns.{HandlesChildren, HasDone, IsNewborn, IsTrussKept, Releases, WasLetGo, HasShownAll, IsLostByKill}
use Rattle.pr_num.specs.Limits.{handle_limit}
use Rattle.pr_tool_laws.proofs.Stages.ProtocolLemmas.{fed-other, fed-own}

-- A truss among the controllers of a run.

-- ---- its call, and the reply to it

truss-next : (controllers : List ControllerState) (k : ℕ) (t : TrussState) (c : Call)
    → slice_get controllers k ≡ Some (Truss t) → call_by controllers k ≡ Some c → next_call_of t ≡ Some c
unfolding call_by next_call
truss-next controllers k t c at calls = sym (ap (option_and_then next_call) at) ∙ calls

truss-fed : (controllers : List ControllerState) (k : ℕ) (t : TrussState) (r : Reply)
    → slice_get controllers k ≡ Some (Truss t) → slice_get (with_fed k r controllers) k ≡ Some (Truss (fed t r))
unfolding after_reply
truss-fed controllers k t r at = fed-own controllers k r (Truss t) at

-- ---- an entry

-- the truss and its exchanges, once the rest of the history was made by these controllers
abbrev Stays : List ControllerState → List Entry → ℕ → TrussState → List Exchange → Type 0
Stays controllers h k t xs = Makes t xs × (slice_get (controllers_at controllers h) k ≡ Some (Truss (truss_after t xs)))

abbrev Rest : List ControllerState → List Entry → ℕ → List Exchange → Type 0
Rest controllers h k xs = (u : TrussState) → slice_get controllers k ≡ Some (Truss u) → Stays controllers h k u xs

call-stays : (controllers : List ControllerState) (h : List Entry) (k by : ℕ) (t : TrussState) (c : Call) (r : Reply)
    (xs : List Exchange) (b : Bool) → (by == k) ≡ b → slice_get controllers k ≡ Some (Truss t)
    → (by < length controllers → call_by controllers by ≡ Some c) → Rest (with_fed by r controllers) h k xs
    → Stays (with_fed by r controllers) h k t (cons_option (cond b (Some (record { call = c; reply = r })) None) xs)
call-stays controllers h k by t c r xs true is at own rest =
    let same = eqb-true by k is in
    let calls : call_by controllers by ≡ Some c =
    own (subst (λ n. n < length controllers) (sym same) (slice_get_within controllers k (Truss t) at)) in
    let next = truss-next controllers k t c at (subst (λ n. call_by controllers n ≡ Some c) same calls) in
    let here =
    subst (λ n. slice_get (with_fed n r controllers) k ≡ Some (Truss (fed t r))) (sym same)
    (truss-fed controllers k t r at) in
    let it = rest (fed t r) here in
    ((next, it.0), it.1)
call-stays controllers h k by t c r xs false is at own rest =
    rest t (fed-other controllers by k r (eqb-false by k is) ∙ at)

entry-stays : (controllers : List ControllerState) (h : List Entry) (k : ℕ) (t : TrussState)
    (actor : Actor) (it : Act) (xs : List Exchange) → slice_get controllers k ≡ Some (Truss t)
    → IsOwnCall controllers (record { actor = actor; act = it })
    → Rest (controllers_after controllers (record { actor = actor; act = it })) h k xs
    → Stays (controllers_after controllers (record { actor = actor; act = it })) h k t
    (cons_option (exchange_in k actor it) xs)
unfolding IsOwnCall controllers_after
entry-stays controllers h k t (Controller by) (act.Call c r) xs at own rest =
    call-stays controllers h k by t c r xs (by == k) refl at own rest
entry-stays controllers h k t (Controller by) (act.Turn did) xs at own rest = rest t at
entry-stays controllers h k t (Controller by) (act.Tick moment) xs at own rest = rest t at
entry-stays controllers h k t (Lwp p l) it xs at own rest = rest t at
entry-stays controllers h k t Clock it xs at own rest = rest t at

-- ---- a history

pub exchanges-none : (k : ℕ) → exchanges k [] ≡ []
unfolding exchanges
exchanges-none k = refl

pub exchanges-cons : (k : ℕ) (e : Entry) (h : List Entry)
    → exchanges k (e ∷ h) ≡ cons_option (exchange_of k e) (exchanges k h)
unfolding exchanges
exchanges-cons k e h = refl

truss-stays : (h : List Entry) (controllers : List ControllerState) (k : ℕ) (t : TrussState)
    → slice_get controllers k ≡ Some (Truss t) → AreOwnCalls controllers h → Stays controllers h k t (exchanges k h)
truss-stays [] controllers k t at own = subst (Stays controllers [] k t) (sym (exchanges-none k)) (tt, at)
truss-stays (e ∷ h) controllers k t at own =
    let rest : Rest (controllers_after controllers e) h k (exchanges k h) =
    λ u here. truss-stays h (controllers_after controllers e) k u here own.1 in
    subst (Stays controllers (e ∷ h) k t) (sym (exchanges-cons k e h))
    (entry-stays controllers h k t e.actor e.act (exchanges k h) at own.0 rest)

-- ---- what a run keeps of it

none-held : (k n number : ℕ) → own k (slice_get (replicate {A = Option Held} n None) number) ≡ None
none-held k zero number = refl
none-held k (suc n) zero = refl
none-held k (suc n) (suc number) = none-held k n number

pub nothing-held : (k : ℕ) (s : TracedState) → s.opens ≡ nothing_open → HasNothingOpen k s
unfolding handle_of nothing_open
nothing-held k s none =
    record {
      none = λ number. ap (λ (opens : Places). own k (slice_get opens number)) none
          ∙ none-held k handle_limit number;
    }

module _ (n k : ℕ) (o : Options) (first : TracedState) (h : List Entry) (run : IsTrussRun n k o first h) where
  front-run : (before later : List Entry) → h ≡ before ++ later → IsTrussRun n k o first before
  front-run before later is = record {
    lawful = run.lawful;
    nothing_open = run.nothing_open;
    legal = front-legal n first before later (subst (IsLegal n first) is run.legal);
    makes =
        makes-front (first_truss o) (exchanges k before) (exchanges k later)
        (subst (Makes (first_truss o)) (ap (exchanges k) is ∙ exchanges-both k before later) run.makes);
  }

  entry-run : (before later : List Entry) (e : Entry) → h ≡ before ++ e ∷ later
      → IsTrussRun n k o first (before ++ e ∷ [])
  entry-run before later e is = front-run (before ++ e ∷ []) later (is ∙ sym (append_assoc before (e ∷ []) later))

  -- ---- it lets a process go for a reason

  let-go : (before later : List Entry) (e : Entry) (pid : ℕ) → h ≡ before ++ e ∷ later → HasHold k o pid first before
      → LetsGoIn k pid first before e → IsLetGo k pid first before e
  let-go before later e pid is held goes =
      lets-go-for-reason n k o pid first before e (entry-run before later e is) held goes

  was-let : (pid : ℕ) → watches (truss_at k o h) pid ≡ false → (later before : List Entry) → h ≡ before ++ later
      → watches (truss_at k o before) pid ≡ true → WasLetGo k pid first before later
  was-let pid over [] before is on =
      absurd (false≢true (sym over ∙ ap (λ g. watches (truss_at k o g) pid) (is ∙ append-nil before) ∙ on))
  was-let pid over (e ∷ later) before is on =
      by (watches (truss_at k o (before ++ e ∷ [])) pid) refl (was-let pid over later (before ++ e ∷ []) (is
      ∙ sym (append_assoc before (e ∷ []) later)))
    where
      by : (b : Bool) → watches (truss_at k o (before ++ e ∷ [])) pid ≡ b
          → (watches (truss_at k o (before ++ e ∷ [])) pid ≡ true → WasLetGo k pid first (before ++ e ∷ []) later)
          → WasLetGo k pid first before (e ∷ later)
      by true still go =
          let w = go still in
          record {
            between = e ∷ w.between;
            entry = w.entry;
            behind = w.behind;
            is = ap (λ es. e ∷ es) w.is;
            reason = subst (λ g. IsLetGo k pid first g w.entry) (append_assoc before (e ∷ []) w.between) w.reason;
          }
      by false off go = record {
        between = [];
        entry = e;
        behind = later;
        is = refl;
        reason =
            subst (λ g. IsLetGo k pid first g e) (sym (append-nil before))
            (watched-let n k o pid first before e (entry-run before later e is) on off);
      }

  -- ---- the children of forks

  children : o.follow ≡ true → HandlesChildren k o first h
  children follow = record {
    follows = λ before later e parent child is reads.
        child-followed n k o first before later e (subst (IsTrussRun n k o first) is run) follow parent child reads;
    frees = λ before later e parent child is reads.
        child-freed n k o first before later e (subst (IsTrussRun n k o first) is run) follow parent child reads;
    leaves_none = λ before later child is left. never-left n k child first h before later run.legal is left;
    keeps_none =
        λ before later child handles base reports due is kept. never-kept n k child first h before later handles base
        reports due run.legal is kept;
  }

  -- ---- what is released

  releases : Releases k o first h
  releases = record {
    set = releases-set n k o first h run;
    controls = λ pid g.
        let c = holds-control n k o first h run pid g in
        (c.0, file-has k pid Ctl WriteExcl c.0 (state_after first h) c.1);
  }

  granted : (before later : List Entry) (e : Entry) (number : ℕ) (r : Reply) (held : Held) (p : TracedProcess)
      → h ≡ before ++ e ∷ later
      → exchange_of k e ≡ Some (record { call = message_call number (Set rlc_mode); reply = r })
      → handle_of (state_after first before).opens k number ≡ Some held → held.file ≡ Ctl
      → live_process (state_after first before).system held.pid ≡ Some p → held.pid ≢ 0 → errno_in r ≡ None
  granted before later e number r held p is =
      let it = entry-run before later e is in
      grants-release n k o first before e it number r held p

  -- ---- the end

  -- what truss has no hold of any more lacks an event only where SIGKILL ended it
  lost-by-kill : (pid : ℕ) (missing : List LwpEvent) → (HasHold k o pid first h → ⊥)
      → IsLacking (is_selected o) k o pid first h missing → IsLostByKill k o pid first h missing
  lost-by-kill pid missing over m =
      record { event = m.event; one = m.one; killed = by m.cause; unread = m.unread }
    where
      by : HasHold k o pid first h ⊎ DiedHeld k o pid first h → DiedHeld k o pid first h
      by (inl held) = absurd (over held)
      by (inr killed) = killed

  shown-all : (pid : ℕ) → (HasHold k o pid first h → ⊥) → ShowsHeld k o pid first h → HasShownAll k o pid first h
  shown-all pid over r = record {
    logged = r.logged;
    held = r.held;
    missing = r.missing;
    is = r.is;
    few = by r.few;
  }
    where
      by : (r.missing ≡ []) ⊎ IsLacking (is_selected o) k o pid first h r.missing
          → (r.missing ≡ []) ⊎ IsLostByKill k o pid first h r.missing
      by (inl none) = inl none
      by (inr lacks) = inr (lost-by-kill pid r.missing over lacks)

  done : next_call_of (truss_at k o h) ≡ None → HasDone k o first h
  done finished =
      let ends : Ends (first_truss o) (exchanges k h) = record { makes = run.makes; finished = finished } in
      record {
        handled = given-handled o (exchanges k h) ends;
        nothing_open = nothing-open n k o first h run.nothing_open run.legal ends;
        holds_none = none;
        lets_go =
            λ before later pid is held.
            was-let pid (off pid) later before is
            (hold-watched n k o pid first before (front-run before later is) held);
        shows = λ pid shown. shown-all pid (none pid) shown;
      }
    where
      off : (pid : ℕ) → watches (truss_at k o h) pid ≡ false
      off pid = finished-watches-none k o pid h finished

      none : (pid : ℕ) → HasHold k o pid first h → ⊥
      none pid = unwatched-hold n k o pid first h run (off pid)

-- a child that it follows does nothing before it is watched
newborn : (n k : ℕ) (o : Options) (first : TracedState) (h : List Entry) → IsReachedTrussRun n k o first h
    → (before later : List Entry) (e : Entry) (pid : ℕ) → IsLeftToTruss k o pid first h → h ≡ before ++ e ∷ later
    → GetsHold k o pid before e → HasFollowed k pid (before ++ e ∷ []) → IsNewborn o pid first (before ++ e ∷ [])
newborn n k o first h run before later e pid left is gets followed =
    let split : h ≡ (before ++ e ∷ []) ++ later = is ∙ sym (append_assoc before (e ∷ []) later) in
    let it : IsReachedTrussRun n k o first (before ++ e ∷ []) =
    front-reached n k o first (before ++ e ∷ []) later (subst (IsReachedTrussRun n k o first) split run) in
    let off = gets-off n k o pid first before e it.of gets in
    let its : IsLeftToTruss k o pid first (before ++ e ∷ []) =
    left-front k o pid first (before ++ e ∷ []) later (subst (IsLeftToTruss k o pid first) split left) in
    record {
      forked = left-forked n k o pid first before e it its off followed;
      unstarted = left-unstarted n k o pid first before e it its off followed;
      still = left-rests n k o pid first before e it its off followed;
      silent = left-silent n k o pid first before e it its off followed;
    }

pub truss-kept : (controllers : List ControllerState) (n : ℕ) (first : TracedState) (h : List Entry) (k : ℕ)
    (o : Options) → IsReached first → HasBytes h → slice_get controllers k ≡ Some (Truss (first_truss o))
    → HasNothingOpen k first → IsLegal n first h → AreOwnCalls controllers h → IsTrussKept controllers first h k o
truss-kept controllers n first h k o reached bytes at none legal own =
    let stays = truss-stays h controllers k (first_truss o) at own in
    let run : IsTrussRun n k o first h = record {
      lawful = reached.lawful;
      nothing_open = none;
      legal = legal;
      makes = stays.0;
    } in
    let whole : IsReachedTrussRun n k o first h = record { of = run; reached = reached; bytes = bytes } in
    record {
      makes = stays.0;
      truss = stays.1;
      business = does-business o (exchanges k h) stays.0;
      keeps = record {
        traces = what-traces o;
        selects = selects-named o;
        writes = one-message;
        asks = asks-lines o;
        replies = reads-replies;
        counts = prints-counts o (exchanges k h) stays.0;
      };
      opens = record {
        handled = handled-so-far o (exchanges k h) stays.0;
        grips = λ pid. gripped-once n k o pid first h whole;
        places = opens-in-place n k o first h run;
        later = sends-later n k o first h run;
        calls = calls-files n k o first h run;
        polls = polls-once n k o first h run;
        order = polls-in-order n k o first h run;
        refusals = tells-no-refusal n k o first h run;
        tells = tells-of-opens n k o first h run;
      };
      shows = record {
        reads = λ pid of. read-while-held n k o pid first h whole of;
        shows = λ pid of. shown-while-held n k o pid first h whole of;
        answers = shows-read n k o first h run;
        once = shows-stops-once n k o first h run;
        new = shows-what-is-new n k o first h run;
        looks = looks-in-place n k o first h run;
        last_looks = looks-at-left n k o first h run;
        asks = reads-lines n k o first h run;
        texts = read-texts n k o first h run;
        moments = λ pid of. moments-while-held n k o pid first h whole of;
      };
      follows = record {
        children = children n k o first h run;
        newborn = newborn n k o first h whole;
        leaves_none = λ follow finished. cares-for-children n k o first h follow whole finished;
      };
      lets_go = record {
        soon = soon-done n k o first h run;
        looks = looks-at-named n k o first h run;
        before_polls = runs-before-polls n k o first h run;
        runs = runs-named o (exchanges k h) stays.0;
        unfollows = λ before later e pid is left.
            left-unfollowed n k o pid first before e (entry-run n k o first h run before later e is) left;
        lets_go = let-go n k o first h run;
        keeps = closes-nothing-held n k o first h run;
        ended = closes-ended n k o first h run;
        closes = closes-left n k o first h run;
        controls_last = closes-controls-last n k o first h run;
        polls = polls-by-files n k o first h run;
      };
      releases = record {
        releases = λ before later is. releases n k o first before (front-run n k o first h run before later is);
        granted = granted n k o first h run;
      };
      done = done n k o first h run;
    }
