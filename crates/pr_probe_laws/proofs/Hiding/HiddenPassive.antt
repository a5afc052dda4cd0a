use Rattle.std.proofs.Common.{◌≡◌, ◌||◌, ◌&&◌, ◌∷◌, ◌++◌, ◌%◌, ◌^◌, ℕ, Bool, true, false, List, [], Some, Ok, Err, IfOk, length, refl, sym, subst, ap, ◌∙◌, inl, inr}
use Rattle.std.proofs.lemmas.List.{append_assoc}
use Rattle.std.proofs.lemmas.List.Elements.{All-cons, All-head, All-nil, All-tail}
use Rattle.std.specs.Bool.{IsTrue}
use Rattle.std.specs.List.{All}
use Rattle.pr_api.specs.Entries.{call_entry}
use Rattle.pr_hidden.specs.Hiders.{Hiders, are_some}
use Rattle.pr_hidden.specs.Tidiness.{IsPassiveBut, is_function_message, is_hider_act, is_hider_write, is_probe_message}
use Rattle.pr_model.specs.Calls.{Answer, answer_to}
use Rattle.pr_model.specs.Legal.{IsLegal, IsLegalEntry, state_after}
use Rattle.pr_model.specs.Passive.{is_passive_act, is_passive_call, is_passive_message, is_passive_write}
use Rattle.pr_model.specs.State.{TracedState}
use Rattle.pr_model.specs.declared.calls.Call as calls
use Rattle.pr_model.specs.declared.calls.Call.TheVariants as call
use Rattle.pr_model.specs.declared.calls.Reply.{Reply}
use Rattle.pr_model.specs.declared.calls.Reply.TheVariants as reply
use Rattle.pr_model.specs.declared.events.Act.{Act}
use Rattle.pr_model.specs.declared.events.Act.TheVariants as act
use Rattle.pr_model.specs.declared.events.Actor.{Actor}
use Rattle.pr_model.specs.declared.events.Actor.TheVariants.{Controller, Lwp, Clock}
use Rattle.pr_model.specs.declared.events.Entry.{Entry}
use Rattle.pr_num.specs.Layout.{stack_base, text_base}
use Rattle.pr_num.specs.Messages.{first_message, spelling}
use Rattle.pr_num.specs.declared.messages.Message.{Message}
use Rattle.pr_num.specs.declared.messages.Message.TheVariants as message
use Rattle.pr_probe.specs.AgentCode.{agent_registers, code_size, stack_size}
use Rattle.pr_probe.specs.Probes.{kind_size}
use Rattle.pr_report_laws.proofs.Machine.ControlLaws.{entries-read, exits-read, faults-read, run-reads, signals-read}
use Rattle.pr_tool_laws.proofs.AnswerLemmas.{IsReadUnless, calm, reply-passive, write-reads}
use Rattle.pr_tool_laws.specs.OwnCalls.{AreOwnCalls}
use Rattle.pr_tool_laws.specs.PassiveCalls.{BeginsPassively, IsPassiveCall}
use Rattle.pr_tools.specs.Calls.{stop_bytes}
use Rattle.pr_truss_laws.proofs.Machine.TakenLemmas.{Read, ReadsAs, stop-reads}
use Rattle.pr_world.specs.ControllerStates.{ControllerState}
use Rattle.pr_probe_laws.proofs.Hiding.HiddenFacts.{legal-call, legal-there}
use Rattle.pr_probe_laws.proofs.Hiding.HiddenMessages.{exit-reads}
use Rattle.pr_probe_laws.proofs.Agents.LeavingRows.{exit_registers}
use Rattle.pr_probe_laws.proofs.PuttingBack.MemoryMessages.{code-reads, code-written, stack-reads, stack-written}
use Rattle.pr_probe_laws.proofs.Files.OwnCallRows.{makes-its-calls}
use Rattle.pr_probe_laws.proofs.OneState.TextMessages.{agent-read, kind-reads, registers-read}
use Rattle.pr_probe_laws.specs.HiddenProbes.{AreProbes, IsPassiveOf}
use Rattle.pr_probe_laws.specs.ProbeCalls.{IsProbeCall, IsToAgent, IsToProcess, asks, closes, exits, instructs, makes_agent, opens, polls, reads, reads_code, reads_kind, reads_stack, runs, runs_agent, sends, stops, traces_entries, traces_exits, traces_faults, traces_signals, waits, writes_code, writes_stack}

-- Where all who hide nothing make passive calls alone, every other call is one by which apfiles hides something.

-- ---- its messages

-- a message of apfiles is passive, or one by which it hides something
abbrev is_its_message : Message → Bool
is_its_message m = is_passive_message m || is_probe_message m

abbrev Begins : List ℕ → Type 0
Begins bytes = IfOk (first_message bytes) (λ first. IsTrue (is_its_message first.0))

by-read : (P : Message → Type 0) (n : Message) (r : Read) → ReadsAs n r → P n → IfOk r (λ first. P first.0)
by-read P n (Err fault) same is = tt
by-read P n (Ok first) same is = subst P (sym same) is

begins : (n : Message) (bytes : List ℕ) → ReadsAs n (first_message bytes) → IsTrue (is_its_message n) → Begins bytes
begins n bytes same is = by-read (λ m. IsTrue (is_its_message m)) n (first_message bytes) same is

to-process : (m : Message) (tail : List ℕ) → IsToProcess m tail → Begins (spelling m tail)
unfolding is_passive_message
to-process m tail stops = begins message.Stop _ stop-reads refl
to-process m tail reads_code = begins (message.Read text_base code_size) _ code-reads refl
to-process m tail reads_stack = begins (message.Read stack_base stack_size) _ stack-reads refl
to-process m tail reads_kind = begins (message.Read stack_base kind_size) _ kind-reads refl
to-process m tail (traces_signals {word = w}) = begins (message.Strace (w % 2 ^ 64)) _ (signals-read w) refl
to-process m tail (traces_faults {word = w}) = begins (message.Sfault (w % 2 ^ 64)) _ (faults-read w) refl
to-process m tail (traces_entries {word = w}) = begins (message.Sentry (w % 2 ^ 64)) _ (entries-read w) refl
to-process m tail (traces_exits {word = w}) = begins (message.Sexit (w % 2 ^ 64)) _ (exits-read w) refl
to-process m tail makes_agent = begins (message.Agent (agent_registers 0 text_base)) _ agent-read refl
to-process m tail (writes_code {bytes = bytes} whole) =
    begins (message.Write text_base (length bytes)) _ (code-written bytes whole).reads refl
to-process m tail (writes_stack {bytes = bytes} whole) =
    begins (message.Write stack_base (length bytes)) _ (stack-written bytes whole).reads refl
to-process m tail runs = begins (message.Run 0) _ run-reads refl

to-agent : (m : Message) → IsToAgent m → Begins (spelling m [])
unfolding is_passive_message
to-agent m (asks {descriptor = d} small) =
    begins (message.Sreg (agent_registers d text_base)) _ (registers-read d small) refl
to-agent m exits = begins (message.Sreg exit_registers) _ exit-reads refl
to-agent m runs_agent = begins (message.Run 0) _ run-reads refl

stop-passive : BeginsPassively stop_bytes
unfolding is_passive_message
stop-passive =
    by-read (λ m. IsTrue (is_passive_message m)) message.Stop (first_message stop_bytes) stop-reads refl

-- ---- its calls

or-left : (b d : Bool) → IsTrue b → IsTrue (b || d)
or-left true d is = refl
or-left false d is = absurd (let no : false ≡ true = is in cc)

or-hides : (b f p hides : Bool) → hides ≡ true → IsTrue (b || p) → IsTrue (b || (f || (hides && p)))
or-hides true f p hides its is = refl
or-hides false true p hides its is = refl
or-hides false false p hides its is = rw its is

module _ (who : Hiders) (k : ℕ) (its : who.probes k ≡ true) where
  module _ (handle : ℕ) (bytes : List ℕ) where
    abbrev IsAllowed : Reply → Type 0
    IsAllowed r =
        IsTrue (is_passive_call (call.Ctl handle bytes) r
        || is_hider_act who (Controller k) (act.Call (call.Ctl handle bytes) r))

    abbrev IsAllowedWrite : Read → Type 0
    IsAllowedWrite q = IsTrue (is_passive_write q || is_hider_write who k q)

    read-allowed : (q : Read) (first : Message × ℕ) → q ≡ Ok first
        → IfOk q (λ f. IsTrue (is_its_message f.0)) → IsAllowedWrite q
    read-allowed (Err fault) first read is = absurd cc
    read-allowed (Ok f) first read is =
        or-hides (is_passive_message f.0) (are_some (who.functions k) && is_function_message f.0)
        (is_probe_message f.0) (who.probes k) its is

    any-reply : (r : Reply) → IsAllowedWrite (first_message bytes) → IsAllowed r
    any-reply (reply.Fail e) so = refl
    any-reply _ so = so

    write-allowed : (r : Reply) → IsReadUnless handle bytes r → Begins bytes → IsAllowed r
    write-allowed r (inl refused) is =
        ap (λ (x : Reply). is_passive_call (call.Ctl handle bytes) x
        || is_hider_act who (Controller k) (act.Call (call.Ctl handle bytes) x)) refused.1
    write-allowed r (inr first) is = any-reply r (read-allowed (first_message bytes) first.0 first.1 is)

  call-allowed : (pid : ℕ) (s : TracedState) (c : calls.Call) (a : Answer) → IsProbeCall k pid s c
      → answer_to s k c ≡ Some a
      → IsTrue (is_passive_act (act.Call c a.reply) || is_hider_act who (Controller k) (act.Call c a.reply))
  unfolding IsPassiveCall
  call-allowed pid s c a (opens file) given = or-left _ _ (calm c a.reply tt)
  call-allowed pid s c a (sends {handle = handle} {m = m} {tail = tail} has to) given =
      write-allowed handle (spelling m tail) a.reply (write-reads handle (spelling m tail) s k a given)
      (to-process m tail to)
  call-allowed pid s c a (instructs {handle = handle} {m = m} has to) given =
      write-allowed handle (spelling m []) a.reply (write-reads handle (spelling m []) s k a given) (to-agent m to)
  call-allowed pid s c a (waits has) given = or-left _ _ (reply-passive s k c a given stop-passive)
  call-allowed pid s c a (polls has) given = or-left _ _ (calm c a.reply tt)
  call-allowed pid s c a (reads file has) given = or-left _ _ (calm c a.reply tt)
  call-allowed pid s c a (closes file has) given = or-left _ _ (calm c a.reply tt)

-- ---- a history

pub All-there : (P : Entry → Type 0) (front : List Entry) (e : Entry) (back : List Entry) → All P (front ++ e ∷ back)
    → P e
All-there P [] e back all = All-head P e back all
All-there P (x ∷ front) e back all = All-there P front e back (All-tail P x (front ++ e ∷ back) all)

module _ (n : ℕ) (who : Hiders) (controllers : List ControllerState) (first : TracedState) (h : List Entry)
    (legal : IsLegal n first h) (own : AreOwnCalls controllers h) (are : AreProbes who controllers)
    (others : All (IsPassiveOf who) h) where
  abbrev IsSo : Entry → Type 0
  IsSo e = IsTrue (is_passive_act e.act || is_hider_act who e.actor e.act)

  entry-so : (front : List Entry) (actor : Actor) (it : Act) (back : List Entry)
      → h ≡ front ++ record { actor = actor; act = it } ∷ back → IsSo (record { actor = actor; act = it })
  unfolding IsLegalEntry
  entry-so front (Controller j) (act.Call c r) back place = by (who.probes j) refl
    where
      by : (b : Bool) → who.probes j ≡ b
          → IsTrue (is_passive_call c r || is_hider_act who (Controller j) (act.Call c r))
      by false other =
          or-left _ _
          (All-there (IsPassiveOf who) front (call_entry j c r) back
          (subst (λ (es : List Entry). All (IsPassiveOf who) es) place others) other)
      by true hider =
          let starts = are.probes j hider in
          let s : TracedState = state_after first front in
          let made =
          (makes-its-calls controllers n j starts.pid first h
          (record { begins = starts.at; legal = legal; own_calls = own })).each front back c r place in
          let does =
          legal-call n s j c r
          (legal-there n first front (call_entry j c r) back (subst (IsLegal n first) place legal)) in
          call-allowed who j hider starts.pid s c (record { state = does.0; reply = r }) made does.1
  entry-so front actor (act.Turn t) back place = refl
  entry-so front actor (act.Tick m) back place = refl
  entry-so front (Lwp pid id) (act.Call c r) back place =
      absurd (legal-there n first front (record { actor = Lwp pid id; act = act.Call c r }) back
      (subst (IsLegal n first) place legal))
  entry-so front Clock (act.Call c r) back place =
      absurd (legal-there n first front (record { actor = Clock; act = act.Call c r }) back
      (subst (IsLegal n first) place legal))

  walk : (front back : List Entry) → h ≡ front ++ back → All IsSo back
  walk front [] place = All-nil IsSo
  walk front (e ∷ back) place =
      All-cons IsSo e back (entry-so front e.actor e.act back place)
      (walk (front ++ e ∷ []) back (place ∙ sym (append_assoc front (e ∷ []) back)))

  pub others-enough : IsPassiveBut who h
  others-enough = walk [] h refl
