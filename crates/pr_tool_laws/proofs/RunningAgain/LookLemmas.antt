use Rattle.std.proofs.Common.{◌≡◌, ◌≢◌, ◌∷◌, ◌++◌, ℕ, Bool, List, [], Option, Some, None, IfSome, refl, sym, subst, ap, ◌∙◌}
use Rattle.pr_api.specs.Entries.{call_entry}
use Rattle.pr_lawful.proofs.LawfulStates.HistoryLemmas.{history-state}
use Rattle.pr_model.specs.Calls.{Answer, answer_to}
use Rattle.pr_model.specs.Handles.{handle_of}
use Rattle.pr_model.specs.Lawful.{IsLawful}
use Rattle.pr_model.specs.Legal.{IsLegal, IsLegalEntry, after, state_after}
use Rattle.pr_model.specs.Reads.{file_read, part_read}
use Rattle.pr_model.specs.Records.{lstatus_of}
use Rattle.pr_model.specs.Replies.{bytes_in}
use Rattle.pr_model.specs.State.{TracedProcess, TracedState, live_process}
use Rattle.pr_model.specs.declared.calls.Call.{Call}
use Rattle.pr_model.specs.declared.calls.Call.TheVariants as calls
use Rattle.pr_model.specs.declared.calls.File.TheVariants as file
use Rattle.pr_model.specs.declared.calls.Reply.{Reply}
use Rattle.pr_model.specs.declared.calls.Reply.TheVariants as replies
use Rattle.pr_model.specs.declared.events.Entry.{Entry}
use Rattle.pr_model.specs.declared.tools.ToolKind.TheVariants.{Pflags}
use Rattle.pr_num.specs.Limits.{read_limit}
use Rattle.pr_num.specs.declared.errnos.Errno.{Errno}
use Rattle.pr_num.specs.declared.errnos.Errno.TheVariants.{Noent}
use Rattle.pr_reached.proofs.StatesInRange.HistoryRanges.{history-range}
use Rattle.pr_reached.specs.ByteHistories.{HasBytes}
use Rattle.pr_reached.specs.InRange.{IsInRange}
use Rattle.pr_rec.specs.RecordBytes.{lstatus_bytes}
use Rattle.pr_tools.specs.Replies.{bytes_read}
use Rattle.pr_tools.specs.Stacks.{process_stands}
use Rattle.pr_tool_laws.proofs.Pstack.StackReads.{read-answer, status-gone, status-there, status_of}
use Rattle.pr_tool_laws.proofs.RunningAgain.StandingLwps.{stands-back}
use Rattle.pr_tool_laws.proofs.Stages.ToolLemmas.{place-still}
use Rattle.pr_tool_laws.proofs.Records.WholeLemmas.{all-read, front-bytes, front-legal}
use Rattle.pr_tool_laws.specs.OneState.{AreLwpsRead, IsReadBack}
use Rattle.pr_tool_laws.specs.Reads.{IsToolRead}
use Rattle.pr_tool_laws.specs.Stacks.{HasLooked}
use Rattle.pr_tool_laws.specs.ToolTexts.{reads_once}

-- What a controller notes when it first looks at a process is so of the process: whether every lwp of it stands.

-- the entry of a place in a legal history is legal there
pub legal-at : (n : ℕ) (s : TracedState) (before : List Entry) (e : Entry) (rest : List Entry)
    → IsLegal n s (before ++ e ∷ rest) → IsLegalEntry n (state_after s before) e
legal-at n s [] e rest legal = legal.0
legal-at n s (d ∷ before) e rest legal = legal-at n (after s d) before e rest legal.1

-- a controller has read the status of all lwps of a process, and has noted what that shows
pub record HasNoted (k pid : ℕ) (stood : Bool) (first : TracedState) (h : List Entry) : Type 0 where
  pub before : List Entry
  pub call : Call
  pub reply : Reply
  pub after : List Entry
  pub place : h ≡ before ++ call_entry k call reply ∷ after
  pub handle : ℕ
  pub is_read : call ≡ calls.Read handle 0 read_limit
  pub there : handle_of (state_after first before).opens k handle ≡ Some (status_of k pid)
  pub granted : (e : Errno) → reply ≢ replies.Fail e
  pub noted : process_stands (bytes_read reply) ≡ stood

abbrev pub noted-still : (k pid : ℕ) (stood : Bool) (first : TracedState) (h : List Entry) (e : Entry)
    → HasNoted k pid stood first h → HasNoted k pid stood first (h ++ e ∷ [])
noted-still k pid stood first h e it = record {
  before = it.before;
  call = it.call;
  reply = it.reply;
  after = it.after ++ e ∷ [];
  place = place-still h it.before (call_entry k it.call it.reply) it.after e it.place;
  handle = it.handle;
  is_read = it.is_read;
  there = it.there;
  granted = it.granted;
  noted = it.noted;
}

module _ (n k pid : ℕ) (stood : Bool) (first : TracedState) (h : List Entry) (lawful : IsLawful first)
    (ranged : IsInRange first.system) (bytes : HasBytes h) (legal : IsLegal n first h)
    (it : HasNoted k pid stood first h) where
  abbrev s : TracedState
  s = state_after first it.before

  legal_here : IsLegal n first (it.before ++ call_entry k it.call it.reply ∷ it.after)
  legal_here = subst (λ (es : List Entry). IsLegal n first es) it.place legal

  lwps-read : IfSome (live_process s.system pid) AreLwpsRead
  unfolding IsReadBack reads_once
  lwps-read =
      let front = front-legal n first it.before (call_entry k it.call it.reply ∷ it.after) legal_here in
      let written = front-bytes it.before (call_entry k it.call it.reply ∷ it.after) (subst HasBytes it.place bytes) in
      all-read pid s.system (history-state n first it.before lawful front).system
      (history-range n first it.before lawful ranged written front) Pflags refl

  -- the reply is what the file has
  reply-is : it.reply ≡ file_read s.system pid 0 0 read_limit file.Lstatus
  unfolding IsLegalEntry
  reply-is =
      let here = legal-at n first it.before (call_entry k it.call it.reply) it.after legal_here in
      let a : Answer = record { state = here.1.0; reply = it.reply } in
      let given : answer_to s k (calls.Read it.handle 0 read_limit) ≡ Some a =
      ap (answer_to s k) (sym it.is_read) ∙ here.1.1 in
      ap (λ (x : Answer). x.reply) (read-answer s it.handle 0 read_limit (status_of k pid) a refl it.there given)

  -- so it has looked, and this is so of what it did before
  pub looks : (P : List Entry → Type 0) → P it.before → (look : HasLooked k pid stood first h) × P look.before
  unfolding IsToolRead bytes_in
  looks P so = by (live_process s.system pid) refl
    where
      by : (o : Option TracedProcess) → live_process s.system pid ≡ o
          → (look : HasLooked k pid stood first h) × P look.before
      by None none = absurd (it.granted Noent (reply-is ∙ status-gone s.system pid none))
      by (Some p) live =
          let are : AreLwpsRead p = subst (λ (o : Option TracedProcess). IfSome o AreLwpsRead) live lwps-read in
          let shown : bytes_read it.reply ≡ part_read (lstatus_bytes (lstatus_of p)) 0 read_limit =
          ap bytes_read (reply-is ∙ status-there s.system pid p live) in (
            record {
              before = it.before;
              call = it.call;
              reply = it.reply;
              after = it.after;
              place = it.place;
              reads = record {
                handle = it.handle;
                held = status_of k pid;
                is_read = it.is_read;
                there = it.there;
                of = refl;
                file = refl;
              };
              process = p;
              lives = live;
              means = sym it.noted ∙ ap process_stands shown ∙ stands-back p are;
            },
            so,
          )
