use Rattle.std.proofs.Common.{◌≡◌, ◌≢◌, ◌∷◌, ◌++◌, ℕ, Bool, List, [], Option, Some, None, option_map, sym, ap, ◌∙◌}
use Rattle.std.proofs.lemmas.List.Elements.{All-append, All-cons, All-nil}
use Rattle.std.proofs.lemmas.Option.{none-some, same_Some}
use Rattle.std.specs.List.{All}
use Rattle.pr_api.specs.Entries.{call_entry}
use Rattle.pr_model.specs.Calls.{Answer, answer_to}
use Rattle.pr_model.specs.Handles.{handle_of}
use Rattle.pr_model.specs.Lawful.{IsLawful}
use Rattle.pr_model.specs.Legal.{state_after}
use Rattle.pr_model.specs.State.{TracedState}
use Rattle.pr_model.specs.declared.calls.Call.{Call}
use Rattle.pr_model.specs.declared.calls.Call.TheVariants as call
use Rattle.pr_model.specs.declared.calls.File.{File}
use Rattle.pr_model.specs.declared.calls.File.TheVariants as file
use Rattle.pr_model.specs.declared.calls.Mode.{Mode}
use Rattle.pr_model.specs.declared.calls.Reply.{Reply}
use Rattle.pr_model.specs.declared.calls.Reply.TheVariants as reply
use Rattle.pr_model.specs.declared.events.Act.{Act}
use Rattle.pr_model.specs.declared.events.Act.TheVariants as act
use Rattle.pr_model.specs.declared.events.Actor.{Actor}
use Rattle.pr_model.specs.declared.events.Actor.TheVariants.{Controller, Lwp, Clock}
use Rattle.pr_model.specs.declared.events.Entry.{Entry}
use Rattle.pr_model.specs.declared.handles.Held.{Held}
use Rattle.pr_num.specs.declared.errnos.Errno.{Errno}
use Rattle.pr_tools.specs.Calls.{run_bytes}
use Rattle.pr_tool_laws.proofs.RunningAgain.LookLemmas.{HasNoted, noted-still}
use Rattle.pr_tool_laws.proofs.OwnFiles.StandingLemmas.{IsOther}
use Rattle.pr_tool_laws.proofs.Sending.SentEffects.{runs}
use Rattle.pr_tool_laws.proofs.Sending.SentPlaces.{sent-now, sent-still}
use Rattle.pr_tool_laws.specs.Leaving.{ClosesAtMost, HasRunAtLast, IsNoCall}
use Rattle.pr_tool_laws.specs.SentMessages.{IsSetGoing}
use Rattle.pr_tool_laws.specs.Stacks.{OpensAtMost}

-- What a controller that stops a process has done so far, an entry later.

-- ---- entries

-- what others do is no call of a controller
pub others-none : (k : ℕ) (actor : Actor) (it : Act) → IsOther k actor it
    → IsNoCall k (record { actor = actor; act = it })
others-none k (Controller j) (act.Call d v) other c r same =
    other (let by : Controller j ≡ Controller k = ap (λ (x : Entry). x.actor) same in cc)
others-none k (Controller j) (act.Turn t) other c r same =
    let it : act.Turn t ≡ act.Call c r = ap (λ (x : Entry). x.act) same in cc
others-none k (Controller j) (act.Tick m) other c r same =
    let it : act.Tick m ≡ act.Call c r = ap (λ (x : Entry). x.act) same in cc
others-none k (Lwp acting id) it other c r same =
    let by : Lwp acting id ≡ Controller k = ap (λ (x : Entry). x.actor) same in cc
others-none k Clock it other c r same =
    let by : Clock ≡ Controller k = ap (λ (x : Entry). x.actor) same in cc

-- a call is the one of its entry
pub entry-call : (k : ℕ) (c d : Call) (r v : Reply) → call_entry k c r ≡ call_entry k d v → c ≡ d
entry-call k c d r v is = let made : act.Call c r ≡ act.Call d v = ap (λ (x : Entry). x.act) is in cc

-- an open, by which it comes
pub opens-more : (k : ℕ) (c : Call) (r : Reply) (of id : ℕ) (name : File) (way : Mode)
    → c ≡ call.Open of id name way → OpensAtMost k (call_entry k c r)
opens-more k c r of id name way same d v is =
    record { pid = of; lwp = id; name = name; way = way; is = sym (entry-call k c d r v is) ∙ same }

-- so far it has only opened
abbrev pub Comes : ℕ → List Entry → Type 0
Comes k h = All (OpensAtMost k) h

pub comes-still : (k : ℕ) (h : List Entry) (e : Entry) → OpensAtMost k e → Comes k h → Comes k (h ++ e ∷ [])
comes-still k h e opens so =
    All-append (OpensAtMost k) h (e ∷ []) so (All-cons (OpensAtMost k) e [] opens (All-nil (OpensAtMost k)))

-- a close, by which it leaves
pub closes-more : (k : ℕ) (c : Call) (r : Reply) (o : Option ℕ) → option_map call.Close o ≡ Some c
    → ClosesAtMost k (call_entry k c r)
closes-more k c r None same d v is = absurd (none-some c same)
closes-more k c r (Some number) same d v is =
    record { handle = number; is = sym (entry-call k c d r v is) ∙ sym (same_Some (call.Close number) c same) }

-- ---- what was done

module _ (k pid : ℕ) (first : TracedState) where
  -- it has looked, and has only opened before
  abbrev pub HasLookedFirst : List Entry → Bool → Type 0
  HasLookedFirst h stood = (look : HasNoted k pid stood first h) × All (OpensAtMost k) look.before

  module _ (h : List Entry) (e : Entry) where
    pub looked-still : (stood : Bool) → HasLookedFirst h stood → HasLookedFirst (h ++ e ∷ []) stood
    looked-still stood it = (noted-still k pid stood first h e it.0, it.1)

    pub ran-still : ClosesAtMost k e → HasRunAtLast k pid first h → HasRunAtLast k pid first (h ++ e ∷ [])
    ran-still close it = record {
      sent = sent-still k run_bytes IsSetGoing first h pid e it.sent;
      closes =
          All-append (ClosesAtMost k) it.sent.after (e ∷ []) it.closes
          (All-cons (ClosesAtMost k) e [] close (All-nil (ClosesAtMost k)));
    }

-- it runs the process now
pub ran-now : (k : ℕ) (first : TracedState) (h : List Entry) (c : Call) (a : Answer) → IsLawful (state_after first h)
    → answer_to (state_after first h) k c ≡ Some a → (number : ℕ) (held : Held) → c ≡ call.Ctl number run_bytes
    → handle_of (state_after first h).opens k number ≡ Some held → held.file ≡ file.Ctl
    → ((e : Errno) → a.reply ≢ reply.Fail e) → HasRunAtLast k held.pid first (h ++ call_entry k c a.reply ∷ [])
ran-now k first h c a lawful given number held is stands control accepts =
    let done =
    runs (state_after first h) k number held a lawful stands control
    (ap (answer_to (state_after first h) k) (sym is) ∙ given) accepts in
    record {
      sent = sent-now k run_bytes IsSetGoing first h c a given number held is stands control done;
      closes = All-nil (ClosesAtMost k);
    }
