use Rattle.std.proofs.Common.{◌≡◌, ◌≢◌, ◌||◌, ◌&&◌, ◌++◌, ℕ, Bool, true, false, IfOk, Some, Ok, Err, List, [], ◌∷◌, All}
use Rattle.std.proofs.Common.{length, refl, sym, subst, ap, ◌∙◌, inl, inr}
use Rattle.std.proofs.lemmas.Bool.{false≢true}
use Rattle.std.proofs.lemmas.List.{append_assoc}
use Rattle.std.proofs.lemmas.List.Elements.{All-cons, All-nil}
use Rattle.std.proofs.lemmas.Option.{none-some, same_Some}
use Rattle.std.specs.Bool.{IsTrue}
use Rattle.pr_api.specs.Entries.{call_entry}
use Rattle.pr_function_hides.proofs.Replies.LeavingStages.{IsLeft, asks, awaits, closes_files, halts, has_ended, lifts_all}
use Rattle.pr_function_hides.proofs.Replies.LeavingStages.{looks, reads_text, waits_again}
use Rattle.pr_function_hides.proofs.Replies.OwnFiles.{GoesOn, IsBeside}
use Rattle.pr_function_hides.proofs.Replies.PlantedReplies.{So}
use Rattle.pr_function_hides.proofs.Replies.RunFlags.{FlagsOf}
use Rattle.pr_function_hides.proofs.GoingOn.SentMessages.{Admits, Begin, Clears, Runs, Sends, aside-sends, flags-begin}
use Rattle.pr_function_hides.proofs.GoingOn.SentMessages.{stage-sends}
use Rattle.pr_function_hides.proofs.Tidy.StillMessages.{wstop-reads}
use Rattle.pr_function_hides.proofs.Tidy.TidyCalls as Calls
use Rattle.pr_function_hides.proofs.Tidy.TidyEntries.{its-legal}
use Rattle.pr_function_hides.proofs.Tidy.TidyKept.{Course, Kept, goes_on, leaves_them}
use Rattle.pr_function_hides.proofs.Tidy.TidyLaw.{kept-at}
use Rattle.pr_function_hides.specs.FunctionHiders.{ArePatchable}
use Rattle.pr_function_hides.specs.PassiveOthers.{AreOthersPassive, IsPassiveUnlessHidden}
use Rattle.pr_function_hides.specs.RunsOfTrusses.{IsRunOfTrusses}
use Rattle.pr_function_laws.proofs.NextCalls.PatchCalls.{next-beside, next-staged}
use Rattle.pr_function_laws.proofs.Marks.SoundLemmas.{AsideIsBelow}
use Rattle.pr_hidden.specs.Hiders.{Hiders, are_some, hides}
use Rattle.pr_hidden.specs.Tidiness.{IsPassiveBut, is_function_message, is_hider_act, is_hider_write, is_probe_message}
use Rattle.pr_hidden.specs.Tidiness.{is_step_flags}
use Rattle.pr_model.specs.Calls.{Answer, answer_to}
use Rattle.pr_model.specs.Legal.{IsLegalEntry, state_after}
use Rattle.pr_model.specs.Passive.{is_passive_act, is_passive_call, is_passive_message, is_passive_write}
use Rattle.pr_model.specs.State.{TracedState}
use Rattle.pr_model.specs.declared.calls.Call.{Call}
use Rattle.pr_model.specs.declared.calls.Call.TheVariants as call
use Rattle.pr_model.specs.declared.calls.Reply.{Reply}
use Rattle.pr_model.specs.declared.calls.Reply.TheVariants as reply
use Rattle.pr_model.specs.declared.events.Act.{Act}
use Rattle.pr_model.specs.declared.events.Act.TheVariants as act
use Rattle.pr_model.specs.declared.events.Actor.{Actor}
use Rattle.pr_model.specs.declared.events.Actor.TheVariants.{Controller, Lwp, Clock}
use Rattle.pr_model.specs.declared.events.Entry.{Entry}
use Rattle.pr_num.specs.Control.{has_flags}
use Rattle.pr_num.specs.Messages.{first_message, spelling}
use Rattle.pr_num.specs.Sets.{common_word}
use Rattle.pr_num.specs.declared.messages.Message.{Message}
use Rattle.pr_num.specs.declared.messages.Message.TheVariants as message
use Rattle.pr_probe_laws.proofs.Hiding.HiddenPassive.{All-there}
use Rattle.pr_tool_laws.proofs.AnswerLemmas.{IsReadUnless, calm, reply-passive, write-reads}
use Rattle.pr_tool_laws.specs.PassiveCalls.{BeginsPassively, IsPassiveCall}
use Rattle.pr_report_laws.proofs.Invariant.StandLemmas.{Each}
use Rattle.pr_truss.specs.Asides.{marks_at}
use Rattle.pr_truss.specs.FunctionCalls.{call_beside, function_call_of, next_function_call_of}
use Rattle.pr_truss.specs.Marks.{has_functions, no_functions}
use Rattle.pr_truss.specs.NextCalls.{call_of}
use Rattle.pr_truss.specs.Trusses.{TrussState, traced_at}
use Rattle.pr_truss.specs.declared.asides.Aside.{Aside}
use Rattle.pr_truss.specs.declared.asides.Aside.TheVariants.{Asking, AwaitingAgain, AwaitingStop, Nothing, Patching}
use Rattle.pr_truss.specs.declared.stages.AfterClosing.TheVariants.{GoOn}
use Rattle.pr_truss.specs.declared.stages.Stage.{Stage}
use Rattle.pr_truss.specs.declared.stages.Stage.TheVariants.{Closing, Finished, ReadingLwps, ReadingText, Unfollowing}
use Rattle.pr_truss_laws.proofs.Machine.TakenLemmas.{Read, ReadsAs, stop-reads}
use Rattle.pr_world.specs.ControllerStates.{ControllerState}

-- Where all who hide nothing make passive calls alone, every other call is a passive one of a truss that shows calls of
-- functions, or sends a message by which it hides its breakpoints.

-- ---- its messages

abbrev IsItsMessage : Message → Type 0
IsItsMessage m = IsTrue (is_passive_message m || is_function_message m)

or-left : (b d : Bool) → IsTrue b → IsTrue (b || d)
or-left true d is = refl
or-left false d is = absurd (false≢true is)

or-right : (b d : Bool) → IsTrue d → IsTrue (b || d)
or-right true d is = refl
or-right false d is = is

admits-its : Admits IsItsMessage
unfolding is_passive_message has_flags common_word
admits-its = record {
  stop = refl;
  strace = λ set. refl;
  sfault = λ set. refl;
  sentry = λ set. refl;
  sexit = λ set. refl;
  follow = refl;
  release = refl;
  unset = λ modes. refl;
  read = λ at size. refl;
  write = λ at. refl;
}

cfault-its : IsItsMessage message.Cfault
unfolding is_passive_message
cfault-its = refl

plain-its : IsItsMessage (message.Run 0)
unfolding is_passive_message
plain-its = refl

steps-its : (flags : ℕ) → is_step_flags flags ≡ true → IsItsMessage (message.Run flags)
steps-its flags is = or-right (is_passive_message (message.Run flags)) (is_step_flags flags) is

passive-as : (m : Message) (r : Read) → is_passive_message m ≡ true → ReadsAs m r
    → IfOk r (λ first. IsTrue (is_passive_message first.0))
passive-as m (Ok first) is same = ap is_passive_message same ∙ is
passive-as m (Err fault) is same = tt

stop-passive : BeginsPassively (spelling message.Stop [])
unfolding is_passive_message
stop-passive = passive-as message.Stop (first_message (spelling message.Stop [])) refl stop-reads

wstop-passive : BeginsPassively (spelling message.Wstop [])
unfolding is_passive_message
wstop-passive = passive-as message.Wstop (first_message (spelling message.Wstop [])) refl wstop-reads

-- bytes that begin with no message but a passive one
passive-its : (bytes : List ℕ) → BeginsPassively bytes → Begin IsItsMessage bytes
passive-its bytes passive m len read =
    or-left (is_passive_message m) (is_function_message m)
    (subst (λ (r : Read). IfOk r (λ first. IsTrue (is_passive_message first.0))) read passive)

-- a call sends such a message, or waits for a passive one
abbrev IsSent : Call → Type 0
IsSent (call.Ctl handle bytes) = Begin IsItsMessage bytes
IsSent (call.CtlWait handle until bytes) = BeginsPassively bytes
IsSent _ = Unit {0}

sent-of : (c : Call) → Sends IsItsMessage c → IsSent c
sent-of (call.Ctl handle bytes) so = so
sent-of (call.CtlWait handle until bytes) is = subst BeginsPassively (sym is) stop-passive
sent-of _ so = tt

-- ---- its calls

module _ (who : Hiders) (k : ℕ) (its : are_some (who.functions k) ≡ true) (s : TracedState) where
  abbrev IsAllowed : Call → Reply → Type 0
  IsAllowed c r = IsTrue (is_passive_call c r || is_hider_act who (Controller k) (act.Call c r))

  write-allowed : (q : Read) → ((m : Message) (len : ℕ) → q ≡ Ok (m, len) → IsItsMessage m)
      → (first : Message × ℕ) → q ≡ Ok first → IsTrue (is_passive_write q || is_hider_write who k q)
  write-allowed (Err fault) so first read = absurd (cc)
  write-allowed (Ok f) so first read = rw its (by (is_passive_message f.0) (is_function_message f.0) (so f.0 f.1 refl))
    where
      by : (b d : Bool) → IsTrue (b || d) → IsTrue (b || (d || (who.probes k && is_probe_message f.0)))
      by true d is = refl
      by false true is = refl
      by false false is = absurd (false≢true is)

  module _ (handle : ℕ) (bytes : List ℕ) where
    any-reply : (r : Reply)
        → IsTrue (is_passive_write (first_message bytes) || is_hider_write who k (first_message bytes))
        → IsAllowed (call.Ctl handle bytes) r
    any-reply (reply.Fail e) so = refl
    any-reply _ so = so

    ctl-allowed : (r : Reply) → IsReadUnless handle bytes r → Begin IsItsMessage bytes
        → IsAllowed (call.Ctl handle bytes) r
    ctl-allowed r (inl refused) so =
        subst (IsAllowed (call.Ctl handle bytes)) (sym refused.1) refl
    ctl-allowed r (inr first) so = any-reply r (write-allowed (first_message bytes) so first.0 first.1)

    wait-allowed : (until : ℕ) (a : Answer) → answer_to s k (call.CtlWait handle until bytes) ≡ Some a
        → BeginsPassively bytes → IsAllowed (call.CtlWait handle until bytes) a.reply
    unfolding IsPassiveCall
    wait-allowed until a given passive =
        or-left _ _ (reply-passive s k (call.CtlWait handle until bytes) a given passive)

  call-allowed : (c : Call) (a : Answer) → answer_to s k c ≡ Some a → IsSent c → IsAllowed c a.reply
  call-allowed (call.Ctl handle bytes) a given so =
      ctl-allowed handle bytes a.reply (write-reads handle bytes s k a given) so
  call-allowed (call.CtlWait handle until bytes) a given is = wait-allowed handle bytes until a given is
  call-allowed c a given so = or-left _ _ (calm c a.reply tt)

-- who hides and asks by no agent has functions
pub are-functions : (who : Hiders) (k : ℕ) → who.probes k ≡ false → hides who k ≡ true
    → are_some (who.functions k) ≡ true
are-functions who k = by (are_some (who.functions k)) (who.probes k)
  where
    by : (a b : Bool) → b ≡ false → (a || b) ≡ true → a ≡ true
    by true b off is = refl
    by false true off is = absurd (false≢true (sym off))
    by false false off is = absurd (false≢true is)

-- ---- a history

module _ {n : ℕ} {who : Hiders} {controllers : List ControllerState} {first : TracedState}
    {h : List Entry} (run : IsRunOfTrusses n who controllers first h) (others : AreOthersPassive who h) where
  abbrev KeptAfter : List Entry → Type 0
  KeptAfter front = Kept who controllers first h front

  kept-there : (front back : List Entry) → h ≡ front ++ back → KeptAfter front
  kept-there = kept-at run

  module _ (front back : List Entry) (j : ℕ) (c : Call) (r : Reply) (place : h ≡ front ++ call_entry j c r ∷ back)
      (hider : hides who j ≡ true) where
    abbrev kept : KeptAfter front
    kept = kept-there front (call_entry j c r ∷ back) place

    abbrev t : TrussState
    t = Calls.tr run front back j c r place kept hider

    abbrev fits : ArePatchable t.options
    fits = Calls.fits run front back j c r place kept hider

    abbrev has : has_functions t.options ≡ true
    has = Calls.has run front back j c r place kept hider

    abbrev next : next_function_call_of t ≡ Some c
    next = Calls.next run front back j c r place kept hider

    abbrev below : AsideIsBelow (length t.options.functions) t.aside
    below = Calls.below run front back j c r place kept hider

    staged : (stage : Stage) → t.stage ≡ stage → t.aside ≡ Nothing → function_call_of t stage ≡ Some c
    staged stage at idle = sym (next-staged t.options has t stage refl idle at) ∙ next

    beside : (aside : Aside) → t.aside ≡ aside → call_beside t t.stage aside ≡ Some c
    beside aside is = sym (next-beside t.options has t refl ∙ ap (call_beside t t.stage) is) ∙ next

    as-sent : (d : Call) → Some d ≡ Some c → IsSent d → IsSent c
    as-sent d same is = subst IsSent (same_Some d c same) is

    -- what it sends beside its stage
    beside-sends : t.aside ≢ Nothing → IsBeside (length t.traced) t.aside → Sends IsItsMessage c
    beside-sends busy w =
        aside-sends IsItsMessage admits-its t fits c t.aside w below busy (clears t.aside) (beside t.aside refl)
      where
        clears : (aside : Aside) → Clears IsItsMessage admits-its t fits c aside
        clears (Patching q plants lifts clear) = λ one two. cfault-its
        clears _ = tt

    -- where it does not leave its processes
    going-sends : GoesOn t → Each (So FlagsOf) t.traced → Sends IsItsMessage c
    unfolding call_beside
    going-sends goes flags = by t.aside refl
      where
        its-runs : Runs IsItsMessage admits-its t fits c
        its-runs q within =
            flags-begin IsItsMessage plain-its steps-its (traced_at t q).marks.flags (flags q within)

        by : (aside : Aside) → t.aside ≡ aside → Sends IsItsMessage c
        by Nothing idle =
            stage-sends IsItsMessage admits-its t fits c plain-its its-runs t.stage goes.stage (beside Nothing idle)
        by _ idle = beside-sends (λ nothing. let both : t.aside ≡ Nothing = nothing in cc) goes.beside

    -- where it does
    leaving-sent : IsLeft t → IsSent c
    unfolding call_beside function_call_of call_of
    leaving-sent (halts at idle within) = as-sent _ (staged Unfollowing at idle) (passive-its _ stop-passive)
    leaving-sent (awaits until at is within) = as-sent _ (beside (AwaitingStop until) is) stop-passive
    leaving-sent (asks at is within) = as-sent _ (beside Asking is) (passive-its _ wstop-passive)
    leaving-sent (waits_again until at is within) = as-sent _ (beside (AwaitingAgain until) is) wstop-passive
    leaving-sent (looks at idle within) = as-sent _ (staged ReadingLwps at idle) tt
    leaving-sent (reads_text l from len at idle within) = as-sent _ (staged (ReadingText 0 l from len) at idle) tt
    leaving-sent (lifts_all clear at is within) =
        sent-of c
        (beside-sends (λ nothing. let both : Patching 0 no_functions (marks_at t 0).planted clear ≡ Nothing =
        sym is ∙ nothing in cc) (subst (IsBeside (length t.traced)) (sym is) within))
    leaving-sent (closes_files at idle within) = as-sent _ (staged (Closing 0 GoOn) at idle) tt
    leaving-sent (has_ended at idle) = absurd (none-some c (staged Finished at idle))

    its-sent : IsSent c
    its-sent = let w = kept.trusses j hider in by w.course
      where
        by : Course t → IsSent c
        by (goes_on goes flags) = sent-of c (going-sends goes flags)
        by (leaves_them on there) = leaving-sent there

    its-allowed : IsTrue (is_passive_call c r || is_hider_act who (Controller j) (act.Call c r))
    its-allowed =
        let own = Calls.own run front back j c r place kept hider in
        subst (λ (x : Reply). IsTrue (is_passive_call c x || is_hider_act who (Controller j) (act.Call c x)))
        own.replied
        (call-allowed who j (are-functions who j (run.are.no_probes j) hider)
        (state_after first front) c own.answer own.is its-sent)

  abbrev IsSo : Entry → Type 0
  IsSo e = IsTrue (is_passive_act e.act || is_hider_act who e.actor e.act)

  entry-so : (front : List Entry) (actor : Actor) (it : Act) (back : List Entry)
      → h ≡ front ++ record { actor = actor; act = it } ∷ back
      → IsLegalEntry n (state_after first front) (record { actor = actor; act = it })
      → IsSo (record { actor = actor; act = it })
  unfolding IsLegalEntry
  entry-so front (Controller j) (act.Call c r) back place legal = by (hides who j) refl
    where
      by : (b : Bool) → hides who j ≡ b
          → IsTrue (is_passive_call c r || is_hider_act who (Controller j) (act.Call c r))
      by false bare =
          or-left _ _
          (All-there (IsPassiveUnlessHidden who) front (call_entry j c r) back
          (subst (AreOthersPassive who) place others) bare)
      by true hider = its-allowed front back j c r place hider
  entry-so front actor (act.Turn t) back place legal = refl
  entry-so front actor (act.Tick m) back place legal = refl
  entry-so front (Lwp pid id) (act.Call c r) back place legal = absurd legal
  entry-so front Clock (act.Call c r) back place legal = absurd legal

  walk : (front back : List Entry) → h ≡ front ++ back → All IsSo back
  walk front [] place = All-nil IsSo
  walk front (e ∷ back) place =
      All-cons IsSo e back
      (entry-so front e.actor e.act back place (its-legal run front e back place (kept-there front (e ∷ back) place)))
      (walk (front ++ e ∷ []) back (place ∙ sym (append_assoc front (e ∷ []) back)))

  pub passive-but : IsPassiveBut who h
  passive-but = walk [] h refl
