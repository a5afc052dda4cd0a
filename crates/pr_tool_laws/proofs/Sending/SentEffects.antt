use Rattle.std.proofs.Common.{◌≡◌, ◌≢◌, ◌∷◌, ℕ, Bool, true, false, cond, Option, Some, None, List, [], refl, sym, subst, ap, ◌∙◌}
use Rattle.std.proofs.lemmas.List.Elements.{All-nil, All-cons}
use Rattle.std.proofs.lemmas.Option.{none-some, same_Some}
use Rattle.std.specs.List.{All, list_all}
use Rattle.std.specs.Option.{option_map}
use Rattle.pr_lawful.proofs.Following.UseLemmas.{live-lawful}
use Rattle.pr_laws.proofs.RunLemmas.{all-free}
use Rattle.pr_model.specs.Calls.{Answer, answer_to, controlled}
use Rattle.pr_model.specs.ControlMessages.{targeted_answer}
use Rattle.pr_model.specs.Handles.{handle_of}
use Rattle.pr_model.specs.Lawful.{IsLawful}
use Rattle.pr_model.specs.Messages.{message_answer, refused, run_answer, with_aim_directed, with_process_changed}
use Rattle.pr_model.specs.Running.{if_all_requested, run_refused, shows_run, stops_or_will, with_all_run, with_representative_run, with_request, with_run, without_directive, without_request, was_requested, with_flags_on}
use Rattle.pr_model.specs.State.{TracedLwp, TracedProcess, TracedState, live_process}
use Rattle.pr_model.specs.Stops.{directed, has_event_stop, representative, with_all_directed}
use Rattle.pr_model.specs.declared.calls.Call.TheVariants as call
use Rattle.pr_model.specs.declared.calls.File.TheVariants as file
use Rattle.pr_model.specs.declared.calls.Reply.TheVariants as reply
use Rattle.pr_model.specs.declared.handles.Held.{Held}
use Rattle.pr_model.specs.declared.stops.Stop.TheVariants.{Requested}
use Rattle.pr_num.proofs.ByIdLaws.{All-change_under, All-map_each, All-under, under-map_each}
use Rattle.pr_num.specs.ById.{change_under, map_each, under}
use Rattle.pr_num.specs.Control.{has_flags}
use Rattle.pr_num.specs.Messages.{first_message, message_code, message_read, nth_word, one_word, operands, spelling}
use Rattle.pr_num.specs.Sets.{common_word}
use Rattle.pr_num.specs.Words.{word_bytes, word_of}
use Rattle.pr_num.specs.declared.errnos.Errno.{Errno}
use Rattle.pr_num.specs.declared.errnos.Errno.TheVariants.{Busy, Noent}
use Rattle.pr_num.specs.declared.messages.Message.TheVariants as message
use Rattle.pr_num.specs.declared.signals.Sig.{Sig}
use Rattle.pr_tools.specs.Calls.{direct_bytes, run_bytes}
use Rattle.pr_tool_laws.specs.SentMessages.{IsDirected, IsSetGoing}
use Rattle.pr_truss_laws.proofs.Machine.StillLemmas.{live-changed}
use Rattle.pr_truss_laws.proofs.Machine.TakenLemmas.{ReadsAs, ctl-is, read-as, taken-unless}

-- What PCDSTOP and PCRUN, sent to the control file of a process and not refused, make of it.

-- A message that was not refused was used up, and came to a process that lived and lives still.
pub record IsDone (pid : ℕ) (Becomes : TracedProcess → TracedProcess → Type 0) (s : TracedState)
    (a : Answer) : Type 0 where
  pub used : ℕ
  pub reply : a.reply ≡ reply.Used used
  pub was : TracedProcess
  pub lived : live_process s.system pid ≡ Some was
  pub now : TracedProcess
  pub lives : live_process a.state.system pid ≡ Some now
  pub becomes : Becomes was now

-- the message of these bytes, where it is not refused, does this
abbrev pub Does : List ℕ → (TracedProcess → TracedProcess → Type 0) → Type 0
Does bytes Becomes =
    (s : TracedState) (k number : ℕ) (held : Held) (a : Answer) → IsLawful s → handle_of s.opens k number ≡ Some held
    → held.file ≡ file.Ctl → answer_to s k (call.Ctl number bytes) ≡ Some a → ((e : Errno) → a.reply ≢ reply.Fail e)
    → IsDone held.pid Becomes s a

-- ---- how they are read

direct-reads : ReadsAs message.Dstop (first_message direct_bytes)
unfolding message_code operands nth_word word_bytes word_of message_read
direct-reads = read-as (spelling message.Dstop []) message.Dstop refl refl

run-reads : ReadsAs (message.Run 0) (first_message run_bytes)
unfolding message_code operands nth_word word_bytes word_of message_read one_word
run-reads = read-as (spelling (message.Run 0) []) (message.Run 0) refl refl

-- a process that does not live takes none
none-refuses : (s : TracedState) (k number : ℕ) (held : Held) (bytes : List ℕ) (a : Answer)
    → handle_of s.opens k number ≡ Some held → held.file ≡ file.Ctl → answer_to s k (call.Ctl number bytes) ≡ Some a
    → ((e : Errno) → a.reply ≢ reply.Fail e) → live_process s.system held.pid ≡ None → ⊥
none-refuses s k number held bytes a stands control given granted none =
    granted Noent
    (ap (λ (x : Answer). x.reply) (ctl-is s k number held stands control bytes a given)
    ∙ ap (λ (o : Option TracedProcess). (targeted_answer s.system held o bytes).reply) none)

-- ---- PCDSTOP

directed-stops : (l : TracedLwp) → stops_or_will (Some (directed l)) ≡ true
unfolding directed
directed-stops l = by (has_event_stop l) refl
  where
    by : (b : Bool) → has_event_stop l ≡ b
        → stops_or_will (Some (cond b l (record l { control = record l.control { directed = true } }))) ≡ true
    by true is = rw is refl
    by false is = rw is refl

all-stop : (was : TracedProcess) → IsDirected was (with_all_directed was)
unfolding with_all_directed
all-stop was =
    record { each = λ id k there. by (under id was.lwps) k (sym (under-map_each id directed was.lwps) ∙ there) }
  where
    by : (o : Option TracedLwp) (k : TracedLwp) → option_map directed o ≡ Some k → stops_or_will (Some k) ≡ true
    by None k is = absurd (none-some k is)
    by (Some l) k is =
        subst (λ (x : TracedLwp). stops_or_will (Some x) ≡ true) (same_Some (directed l) k is) (directed-stops l)

pub directs : Does direct_bytes IsDirected
unfolding message_answer with_aim_directed with_all_directed
directs s k number held a lawful stands control given granted = by (live_process s.system held.pid) refl
  where
    by : (o : Option TracedProcess) → live_process s.system held.pid ≡ o → IsDone held.pid IsDirected s a
    by None none = absurd (none-refuses s k number held direct_bytes a stands control given granted none)
    by (Some p) live =
        let t =
        taken-unless s k number held stands control p live direct_bytes message.Dstop a direct-reads given granted in
        record {
          used = t.len;
          reply = ap (λ (x : Answer). x.reply) t.is;
          was = p;
          lived = live;
          now = with_all_directed p;
          lives =
              ap (λ (x : Answer). live_process x.state.system held.pid) t.is
              ∙ live-changed s.system held.pid with_all_directed p live refl;
          becomes = all-stop p;
        }

-- ---- PCRUN

abbrev IsUndirected : ℕ × TracedLwp → Type 0
IsUndirected e = e.1.control.directed ≡ false

all-cleared : (ls : List (ℕ × TracedLwp)) → All IsUndirected (map_each without_directive ls)
unfolding without_directive
all-cleared [] = All-nil IsUndirected
all-cleared (e ∷ es) = All-cons IsUndirected _ _ refl (all-cleared es)

request-same : (l : TracedLwp) → (with_request l).control.directed ≡ l.control.directed
unfolding with_request
request-same l = by (has_event_stop l)
  where
    by : (b : Bool)
        → (cond b (record l { control = record l.control { stop = Some Requested } }) l).control.directed
        ≡ l.control.directed
    by true = refl
    by false = refl

unrequest-same : (l : TracedLwp) → (without_request l).control.directed ≡ l.control.directed
unfolding without_request
unrequest-same l = by (was_requested l.control.stop)
  where
    by : (b : Bool)
        → (cond b (record l { control = record l.control { stop = None } }) l).control.directed
        ≡ l.control.directed
    by true = refl
    by false = refl

representative-undirected : (o : Option (ℕ × TracedLwp)) (ls : List (ℕ × TracedLwp))
    → All IsUndirected (with_representative_run 0 o ls)
representative-undirected None ls = all-cleared ls
representative-undirected (Some r) ls =
    All-change_under IsUndirected r.0 with_request (map_each without_directive (change_under r.0 (with_flags_on 0) ls))
    (λ l there is. request-same l ∙ is) (all-cleared (change_under r.0 (with_flags_on 0) ls))

if-undirected : (job : Option Sig) (ls : List (ℕ × TracedLwp)) → All IsUndirected ls
    → All IsUndirected (if_all_requested job ls)
unfolding if_all_requested
if-undirected job ls all = by (list_all (shows_run job) ls)
  where
    by : (b : Bool) → All IsUndirected (cond b (map_each without_request ls) ls)
    by true =
        All-map_each IsUndirected IsUndirected without_request (λ e is. unrequest-same e.1 ∙ is) ls all
    by false = all

run-undirected : (p : TracedProcess) → All IsUndirected (with_run 0 p).lwps
unfolding with_run with_all_run has_flags common_word
run-undirected p =
    if-undirected p.job_stop (with_representative_run 0 (representative p) p.lwps)
    (representative-undirected (representative p) p.lwps)

run-lives : (p : TracedProcess) → (with_run 0 p).ended ≡ p.ended
unfolding with_run with_all_run has_flags common_word
run-lives p = refl

pub runs : Does run_bytes IsSetGoing
unfolding message_answer run_answer
runs s k number held a lawful stands control given granted = by (live_process s.system held.pid) refl
  where
    ran : (p : TracedProcess) → live_process s.system held.pid ≡ Some p → (len : ℕ) (b : Bool)
        → a ≡ controlled s
        (cond b (refused s.system Busy) (with_process_changed s.system held.pid p len (with_run 0)))
        → IsDone held.pid IsSetGoing s a
    ran p live len true it = absurd (granted Busy (ap (λ (x : Answer). x.reply) it))
    ran p live len false it = record {
      used = len;
      reply = ap (λ (x : Answer). x.reply) it;
      was = p;
      lived = live;
      now = with_run 0 p;
      lives =
          ap (λ (x : Answer). live_process x.state.system held.pid) it
          ∙ live-changed s.system held.pid (with_run 0) p live (run-lives p);
      becomes = record {
        undirected = λ id l there. All-under IsUndirected id l (with_run 0 p).lwps (run-undirected p) there;
        freed = λ leader is event others.
            all-free p leader (live-lawful s.system held.pid p lawful.system live).rising is event others;
      };
    }

    by : (o : Option TracedProcess) → live_process s.system held.pid ≡ o → IsDone held.pid IsSetGoing s a
    by None none = absurd (none-refuses s k number held run_bytes a stands control given granted none)
    by (Some p) live =
        let t =
        taken-unless s k number held stands control p live run_bytes (message.Run 0) a run-reads given granted in
        ran p live t.len (run_refused p) t.is
