use Rattle.std.proofs.Common.{◌≡◌, ◌∷◌, ◌++◌, ℕ, List, [], Some, refl, sym, ap, ◌∙◌}
use Rattle.pr_api.specs.Entries.{call_entry}
use Rattle.pr_model.specs.Calls.{Answer, answer_to}
use Rattle.pr_model.specs.Handles.{handle_of}
use Rattle.pr_model.specs.Legal.{state_after}
use Rattle.pr_model.specs.State.{TracedProcess, TracedState, live_process}
use Rattle.pr_model.specs.declared.calls.Call.{Call}
use Rattle.pr_model.specs.declared.calls.Call.TheVariants as call
use Rattle.pr_model.specs.declared.calls.File.TheVariants as file
use Rattle.pr_model.specs.declared.calls.Reply.{Reply}
use Rattle.pr_model.specs.declared.calls.Reply.TheVariants as reply
use Rattle.pr_model.specs.declared.events.Entry.{Entry}
use Rattle.pr_model.specs.declared.handles.Held.{Held}
use Rattle.pr_tool_laws.proofs.Sending.SentEffects.{IsDone}
use Rattle.pr_tool_laws.proofs.Stages.StageLemmas.{state-called}
use Rattle.pr_tool_laws.proofs.Stages.ToolLemmas.{place-still}
use Rattle.pr_tool_laws.specs.SentMessages.{HasSent}

-- The place in a history at which a message was sent.

module _ (k : ℕ) (bytes : List ℕ) (Becomes : TracedProcess → TracedProcess → Type 0) (first : TracedState)
    (h : List Entry) where
  -- it was sent earlier
  abbrev pub sent-still : (pid : ℕ) (e : Entry) → HasSent k pid bytes Becomes first h
      → HasSent k pid bytes Becomes first (h ++ e ∷ [])
  sent-still pid e it = record {
    before = it.before;
    handle = it.handle;
    used = it.used;
    after = it.after ++ e ∷ [];
    held = it.held;
    place =
        place-still h it.before (call_entry k (call.Ctl it.handle bytes) (reply.Used it.used)) it.after e it.place;
    there = it.there;
    of = it.of;
    file = it.file;
    was = it.was;
    lived = it.lived;
    now = it.now;
    lives = it.lives;
    becomes = it.becomes;
  }

  -- it is sent now
  module _ (c : Call) (a : Answer) (given : answer_to (state_after first h) k c ≡ Some a) (number : ℕ) (held : Held)
      (same : c ≡ call.Ctl number bytes) (there : handle_of (state_after first h).opens k number ≡ Some held)
      (control : held.file ≡ file.Ctl) (done : IsDone held.pid Becomes (state_after first h) a) where
    pub entry-is : call_entry k c a.reply ≡ call_entry k (call.Ctl number bytes) (reply.Used done.used)
    entry-is =
        ap (λ (d : Call). call_entry k d a.reply) same
        ∙ ap (λ (r : Reply). call_entry k (call.Ctl number bytes) r) done.reply

    pub state-is : state_after first (h ++ call_entry k (call.Ctl number bytes) (reply.Used done.used) ∷ []) ≡ a.state
    state-is = ap (λ (e : Entry). state_after first (h ++ e ∷ [])) (sym entry-is) ∙ state-called first h k c a given

    abbrev pub sent-now : HasSent k held.pid bytes Becomes first (h ++ call_entry k c a.reply ∷ [])
    sent-now = record {
      before = h;
      handle = number;
      used = done.used;
      after = [];
      held = held;
      place = ap (λ (e : Entry). h ++ e ∷ []) entry-is;
      there = there;
      of = refl;
      file = control;
      was = done.was;
      lived = done.lived;
      now = done.now;
      lives = ap (λ (x : TracedState). live_process x.system held.pid) state-is ∙ done.lives;
      becomes = done.becomes;
    }
