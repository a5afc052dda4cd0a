use Rattle.std.proofs.Common.{◌≡◌, ◌≢◌, ◌&&◌, ◌||◌, ◌≤◌, ◌+◌, ℕ, Bool, true, false, eqb, not, is_none, is_some, leb, Option, Some, None, Result, Ok, Err, List, [], ◌∷◌, cond, refl, sym, subst, ◌∙◌, ap, inl, inr, arith}
use Rattle.std.proofs.lemmas.Bool.{cases_Bool, eqb-true}
use Rattle.std.proofs.lemmas.Option.{same_Some}
use Rattle.std.specs.Option.{option_and_then}
use Rattle.pr_num.specs.Infos.{killed_by}
use Rattle.pr_num.specs.Limits.{process_limit}
use Rattle.pr_num.specs.Messages.{first_message}
use Rattle.pr_num.specs.Programs.{Program}
use Rattle.pr_num.specs.Spaces.{first_space, mapped_size}
use Rattle.pr_num.specs.declared.errnos.Errno.{Errno}
use Rattle.pr_num.specs.declared.errnos.Errno.TheVariants.{Again, Badf, Inval, Noent, Nomem}
use Rattle.pr_num.specs.declared.messages.Message.{Message}
use Rattle.pr_num.specs.declared.messages.MsgFault.{MsgFault}
use Rattle.pr_num.specs.declared.signals.Sig.{Sig}
use Rattle.pr_num.proofs.ByIdLaws.{All-under}
use Rattle.pr_keeps.specs.CallEdits as edit
use Rattle.pr_keeps.specs.CallEdits.{CallEdit, CloseEdit}
use Rattle.pr_keeps.proofs.KeepsLemmas.{choice}
use Rattle.pr_keeps.proofs.CallLemmas.{call-edit, close-edit}
use Rattle.pr_model.specs.Calls.{Answer, answer_to, close_answer, close_held, controlled, kill_answer, sent_reply, spawn_answer, spawn_found, spawn_unless}
use Rattle.pr_model.specs.ControlMessages.{aim_of, control_answer, control_handle, decoded_answer, held_answer, still_there, system_refusal, tail_of, target_of, targeted_answer}
use Rattle.pr_model.specs.Erasure.{erased_system, uncontrolled_process}
use Rattle.pr_model.specs.Handles.{handle_of, is_control, is_of_lwp, released, released_control, released_lwp, with_closed, with_opened}
use Rattle.pr_model.specs.Lawful.{IsLawfulProcess, IsLawfulSystem}
use Rattle.pr_model.specs.Lives.{bare_process, first_lwp, new_lwp, new_process, with_made, with_spawned}
use Rattle.pr_model.specs.Machines.{no_marks, nothing_set, step_taken, traced}
use Rattle.pr_model.specs.Messages.{Controlled, message_answer}
use Rattle.pr_model.specs.Messages as message_answered
use Rattle.pr_model.specs.Passive.{is_passive_act, is_passive_call, is_passive_message, is_passive_write}
use Rattle.pr_model.specs.ProcessCalls.{program_named}
use Rattle.pr_model.specs.Readers.{life_of}
use Rattle.pr_model.specs.SignalCalls.{Sending, refuses, sending, sends, sends_nothing, with_sent}
use Rattle.pr_model.specs.Signals.{is_kill}
use Rattle.pr_model.specs.Spawning.{spawn_refusal}
use Rattle.pr_model.specs.State.{TracedLwp, TracedProcess, TracedState, TracedSystem, live_process, lwp_of, if_live, process_of, with_process, with_system}
use Rattle.pr_model.specs.UntracedMachine as untraced
use Rattle.pr_model.specs.UntracedMachine.{IsGranted, UntracedRun}
use Rattle.pr_model.specs.UntracedSteps.{steps_of_call}
use Rattle.pr_model.specs.declared.calls.Call as calls
use Rattle.pr_model.specs.declared.calls.Call.TheVariants as call
use Rattle.pr_model.specs.declared.calls.Reply.{Reply}
use Rattle.pr_model.specs.declared.calls.Reply.TheVariants as reply
use Rattle.pr_model.specs.declared.events.Act.TheVariants as act
use Rattle.pr_model.specs.declared.events.Actor.TheVariants.{Controller}
use Rattle.pr_model.specs.declared.handles.Held.{Held}
use Rattle.pr_model.specs.declared.steps.Step.{Step}
use Rattle.pr_model.specs.declared.steps.Step.TheVariants as step
use Rattle.pr_model.proofs.StateLemmas.{live_process-found}
use Rattle.pr_lawful.proofs.Following.MadeLemmas.{Grows, generated-grows, process-grows, same-grows, spawned-grows}
use Rattle.pr_lawful.proofs.Following.UseLemmas.{process-lawful}
use Rattle.pr_laws.proofs.RefusalLemmas.{control-leaves, refused-system}
use Rattle.pr_erasure.specs.Untouched.{IsUntouched}
use Rattle.pr_erasure.proofs.SeenHistories.CallLemmas.{released-hidden}
use Rattle.pr_erasure.proofs.SeenHistories.OutsideLemmas.{kill-follows, spawn-follows}
use Rattle.pr_hidden.specs.Covers.{Cover, Covers, no_cover, seen, uncovered, uncovered_lwp, uncovered_process, with_cover}
use Rattle.pr_hidden.specs.Following.{MayEnd}
use Rattle.pr_hidden.specs.Hiders.{Hiders, covers_called, covers_closed, covers_controlled, covers_sent, covers_targeted, finished, hides, is_ctl}
use Rattle.pr_hidden.specs.Hiding.{with_own_agent}
use Rattle.pr_hidden.specs.Tidiness.{AreSound, IsClear, IsTidyCall, IsTidyClose, IsTidyControl, IsTidyMessage, IsTidySent, IsTidyTargeted, MayKill, is_hider_act, is_hider_message, is_hider_write}
use Rattle.pr_hidden.proofs.Covers.BareCovers.{seen-by-bare}
use Rattle.pr_hidden.proofs.Covers.CallCovers.{life-uncovered, room-uncovered}
use Rattle.pr_hidden.proofs.Covers.ChangeCovers.{generated-uncovered}
use Rattle.pr_hidden.proofs.NothingHidden.CoverLemmas.{clear-same, covers-alike, each-cover, zombie-same}
use Rattle.pr_hidden.proofs.Follows.FaultRows.{no-way}
use Rattle.pr_hidden.proofs.Follows.FollowLemmas.{Follows, beneath-tame, follows-same, follows-unseen}
use Rattle.pr_hidden.proofs.Covers.LifeCovers.{made-uncovered}
use Rattle.pr_hidden.proofs.Follows.MessageFollows.{IsSent, message-sent, sent}
use Rattle.pr_hidden.proofs.Follows.OrderLemmas.{AreInOrder, order-later}
use Rattle.pr_hidden.proofs.Follows.QuietLemmas.{looks-same}
use Rattle.pr_hidden.proofs.NothingHidden.TameLemmas.{IsTame, IsTameProcess, tame-each, tame-found, tame-untouched, untouched-tame}
use Rattle.pr_hidden.proofs.PatchedSpaces.WrittenCovers.{none-sound}

-- What programs see of a call of a controller, and what it leaves hidden.

pub record CallFollows (covers new : Covers) (s t : TracedSystem) (steps : List Step) : Type 0 where
  pub follows : Follows covers new s t steps
  pub in_order : AreInOrder new t

-- ---- processes and handles

target-live : (s : TracedSystem) (h : Held) (p : TracedProcess) → target_of s h ≡ Some p → live_process s h.pid ≡ Some p
unfolding target_of
target-live s h p target = by (live_process s h.pid) refl target
  where
    by : (o : Option TracedProcess) → live_process s h.pid ≡ o → still_there h o ≡ Some p
        → live_process s h.pid ≡ Some p
    by None live is = absurd (none is)
      where
        none : (let o : Option TracedProcess = None in o) ≡ Some p → ⊥
        none e = cc
    by (Some q) live is = stands (not (is_of_lwp h.file) || is_some (lwp_of q h.lwp)) is
      where
        stands : (b : Bool) → cond b (Some q) None ≡ Some p → live_process s h.pid ≡ Some p
        stands true e = live ∙ e
        stands false e = absurd (none e)
          where
            none : (let o : Option TracedProcess = None in o) ≡ Some p → ⊥
            none it = cc

found-live : (s : TracedSystem) (pid : ℕ) (p : TracedProcess) → process_of s pid ≡ Some p → p.ended ≡ None
    → live_process s pid ≡ Some p
unfolding live_process
found-live s pid p found live =
    ap (option_and_then if_live) found ∙ ap (λ (o : Option ℕ). cond (is_none o) (Some p) None) live

new-process-same : (program : Program) (clock : ℕ) (held : Bool)
    → uncovered_process no_cover (new_process traced program clock held) ≡ new_process traced program clock held
unfolding uncovered_process uncovered_lwp new_process bare_process first_lwp new_lwp traced no_marks step_taken
new-process-same program clock held = refl

module _ (who : Hiders) (covers : Covers) (s : TracedState) (k : ℕ) (lawful : IsLawfulSystem s.system)
    (order : AreInOrder covers s.system) (tame : IsTame covers s.system) where
  abbrev Goes : calls.Call → Answer → Type 0
  Goes c a =
      CallFollows covers (covers_called who covers s k c a.reply) s.system a.state.system (steps_of_call c a.reply)

  abbrev Stays : Covers → Type 0
  Stays new = CallFollows covers new s.system s.system []

  stays : Stays covers
  stays = record { follows = follows-same covers s.system tame; in_order = order }

  -- ---- control messages

  module _ (handle : ℕ) (bytes : List ℕ) where
    abbrev ctl : calls.Call
    ctl = call.Ctl handle bytes

    abbrev answer : Controlled
    answer = control_answer s.system s.opens k handle bytes

    abbrev Answers : Controlled → Type 0
    Answers it = CallFollows covers (covers_called who covers s k ctl it.reply) s.system it.system []

    abbrev IfTaken : Type 0
    IfTaken =
        (used : ℕ) → answer.reply ≡ reply.Used used
        → IsTidyControl who k covers s.system (handle_of s.opens k handle) bytes

    refused : (e : Errno) → Answers (message_answered.refused s.system e)
    unfolding covers_called
    refused e = stays

    module _ (h : Held) (held : handle_of s.opens k handle ≡ Some h) where
      module _ (p : TracedProcess) (target : target_of s.system h ≡ Some p)
          (live : live_process s.system h.pid ≡ Some p)
          (m : Message) (len : ℕ) (read : first_message bytes ≡ Ok (m, len)) where
        abbrev tail : List ℕ
        tail = tail_of m bytes

        abbrev sent_of : Reply → Covers
        sent_of = sent who k covers s.system h.pid p (aim_of h) tail len live lawful order tame m

        sent-is : (r : Reply) → sent_of r ≡ covers_called who covers s k ctl r
        unfolding sent covers_called
        sent-is (reply.Used used) =
            sym (ap (λ o. covers_controlled who k s.system o bytes covers) held
            ∙ ap (λ o. covers_targeted who k h o bytes covers) target
            ∙ ap (λ r. covers_sent who k h.pid p bytes r covers) read)
        sent-is _ = refl

        tidy-message : IsTidyControl who k covers s.system (handle_of s.opens k handle) bytes
            → IsTidyMessage who k covers s.system h.pid p (aim_of h) m tail
        tidy-message tidy =
            let at_held = subst (λ o. IsTidyControl who k covers s.system o bytes) held tidy in
            let at_target = subst (λ o. IsTidyTargeted who k covers s.system h o bytes) target at_held in
            subst (λ r. IsTidySent who k covers s.system h p bytes r) read at_target

        taken-follows : (is_passive_message m || is_hider_message who k m) ≡ true → IfTaken
            → answer ≡ message_answer s.system h.pid p (aim_of h) m tail len
            → Answers (message_answer s.system h.pid p (aim_of h) m tail len)
        taken-follows allowed tidy is =
            let it = message_answer s.system h.pid p (aim_of h) m tail len in
            let done =
            message-sent who k covers s.system h.pid p (aim_of h) tail len live lawful order tame m allowed
            (λ used taken. tidy-message (tidy used (ap (λ (x : Controlled). x.reply) is ∙ taken))) in
            subst (λ (n : Covers). CallFollows covers n s.system it.system []) (sent-is it.reply)
            (record { follows = done.follows; in_order = done.in_order })

      abbrev AllowedRead : Result (Message × ℕ) MsgFault → Type 0
      AllowedRead read = (is_passive_write read || is_hider_write who k read) ≡ true

      by-read : (p : TracedProcess) → target_of s.system h ≡ Some p → live_process s.system h.pid ≡ Some p
          → (read : Result (Message × ℕ) MsgFault) → first_message bytes ≡ read → AllowedRead read → IfTaken
          → answer ≡ decoded_answer s.system h p bytes read → Answers (decoded_answer s.system h p bytes read)
      by-read p target live (Err fault) read allowed tidy is = refused Inval
      by-read p target live (Ok (m, len)) read allowed tidy is =
          let no = message_answered.refused s.system (system_refusal m) in
          let go = message_answer s.system h.pid p (aim_of h) m (tail_of m bytes) len in
          choice Answers (eqb h.pid 0) no go (λ system. refused (system_refusal m))
          (λ user. taken-follows p target live m len read allowed tidy (is ∙ ap (λ b. cond b no go) user))

      by-target : (o : Option TracedProcess) → target_of s.system h ≡ o → AllowedRead (first_message bytes) → IfTaken
          → answer ≡ targeted_answer s.system h o bytes → Answers (targeted_answer s.system h o bytes)
      by-target None target allowed tidy is = refused Noent
      by-target (Some p) target allowed tidy is =
          by-read p target (target-live s.system h p target) (first_message bytes) refl allowed tidy is

      by-control : (b : Bool) → is_control h.file ≡ b → AllowedRead (first_message bytes) → IfTaken
          → answer ≡ held_answer s.system (cond b (Some h) None) bytes
          → Answers (held_answer s.system (cond b (Some h) None) bytes)
      by-control false is_not allowed tidy is = refused Badf
      by-control true controls allowed tidy is = by-target (target_of s.system h) refl allowed tidy is

    by-held : (o : Option Held) → handle_of s.opens k handle ≡ o
        → (is_passive_write (first_message bytes) || is_hider_write who k (first_message bytes)) ≡ true → IfTaken
        → answer ≡ held_answer s.system (control_handle o) bytes
        → Answers (held_answer s.system (control_handle o) bytes)
    by-held None held allowed tidy is = refused Badf
    by-held (Some h) held allowed tidy is =
        by-control h held (is_control h.file) refl allowed tidy is

    answer-held : answer ≡ held_answer s.system (control_handle (handle_of s.opens k handle)) bytes
    unfolding control_answer
    answer-held = refl

    ctl-follows : (r : Reply) → answer.reply ≡ r
        → (is_passive_call ctl r || is_hider_write who k (first_message bytes)) ≡ true → IfTaken → Answers answer
    unfolding covers_called
    ctl-follows (reply.Fail e) is allowed tidy =
        let same = refused-system s.system answer e (control-leaves s.system s.opens k handle bytes) is in
        subst (λ (r : Reply). CallFollows covers (covers_called who covers s k ctl r) s.system answer.system [])
        (sym is)
        (subst (λ (t : TracedSystem). CallFollows covers covers s.system t []) (sym same) stays)
    ctl-follows _ is allowed tidy =
        subst Answers (sym answer-held) (by-held (handle_of s.opens k handle) refl allowed tidy answer-held)

  -- ---- closes

  found-tame : (pid : ℕ) (p : TracedProcess) → live_process s.system pid ≡ Some p → IsTameProcess covers (pid, p)
  found-tame pid p live =
      All-under (IsTameProcess covers) pid p s.system.processes tame.processes (live_process-found s.system pid p live)

  released-tame : (new : Covers) (pid : ℕ) (p : TracedProcess) → IsTameProcess new (pid, p)
      → IsTameProcess new (pid, released p)
  unfolding released released_control released_lwp
  released-tame new pid p tame = record {
    no_kill = tame.no_kill;
    unwatched = refl;
    lwps = tame-each new pid released_lwp (λ l. refl) p.lwps tame.lwps;
  }

  -- what the close makes of the system, where so much is hidden then
  closed-follows : (new : Covers) (pid : ℕ) (t : TracedSystem) → uncovered new s.system ≡ uncovered covers s.system
      → AreInOrder new s.system → CloseEdit s.system pid t → CallFollows covers new s.system t []
  closed-follows new pid t same ordered edit.nothing = record {
    follows =
        follows-unseen covers new s.system s.system (ap erased_system same)
        (beneath-tame covers new s.system s.system same tame);
    in_order = ordered;
  }
  closed-follows new pid t same ordered (edit.kills p live mode) =
      let it = found-tame pid p live in no-way (sym it.no_kill ∙ mode)
  closed-follows new pid t same ordered (edit.releases p live spares mode) =
      let found = live_process-found s.system pid p live in
      record {
        follows =
            follows-unseen covers new s.system (with_process pid released s.system)
            (seen-by-bare new s.system (with_process pid released s.system)
            (looks-same s.system pid p released found (released-hidden p)) ∙ ap erased_system same)
            (tame-found new pid released p s.system found (released-tame new pid p)
            (beneath-tame covers new s.system s.system same tame));
        in_order =
            order-later new s.system (with_process pid released s.system) ordered (process-grows s.system pid released);
      }

  -- a hider that closes "ctl" has finished
  finished-same : (h : Held)
      → ((p : TracedProcess) → live_process s.system h.pid ≡ Some p → IsClear (covers h.pid) p)
      → uncovered (with_cover h.pid (finished (covers h.pid)) covers) s.system ≡ uncovered covers s.system
  finished-same h clear =
      covers-alike covers s.system h.pid (finished (covers h.pid)) lawful.rising (λ p found. by p found p.ended refl)
    where
      by : (p : TracedProcess) → process_of s.system h.pid ≡ Some p → (o : Option ℕ) → p.ended ≡ o
          → uncovered_process (finished (covers h.pid)) p ≡ uncovered_process (covers h.pid) p
      by p found None is =
          let none = clear p (found-live s.system h.pid p found is) in
          ap (λ own. uncovered_process (with_own_agent own no_cover) p) none.no_agent
          ∙ clear-same (covers h.pid) p none
      by p found (Some status) is =
          let of : IsLawfulProcess (h.pid, p) = process-lawful s.system h.pid p lawful found in
          let zombie = of.empty_zombie in
          zombie-same (finished (covers h.pid)) (covers h.pid) p (zombie.no_memory status is) (zombie.no_lwps status is)

  finished-order : (pid : ℕ) → AreInOrder (with_cover pid (finished (covers pid)) covers) s.system
  finished-order pid = record {
    sound = each-cover (λ (c : Cover). AreSound c.patches) pid (finished (covers pid)) covers none-sound order.sound;
    fresh = fresh-is;
  }
    where
      fresh-is : (n : ℕ) → s.system.made ≤ n → with_cover pid (finished (covers pid)) covers n ≡ no_cover
      fresh-is n later = by (eqb n pid) refl
        where
          by : (b : Bool) → eqb n pid ≡ b → cond b (finished (covers pid)) (covers n) ≡ no_cover
          by true same = ap finished (ap covers (sym (eqb-true n pid same)) ∙ order.fresh n later)
          by false other = order.fresh n later

  close-follows : (handle : ℕ)
      → ((h : Held) → handle_of s.opens k handle ≡ Some h → IsTidyClose who k covers s.system (Some h))
      → Goes (call.Close handle) (close_held s handle (handle_of s.opens k handle))
  unfolding covers_called
  close-follows handle tidy = by (handle_of s.opens k handle) refl
    where
      by : (o : Option Held) → handle_of s.opens k handle ≡ o
          → Goes (call.Close handle) (close_held s handle o)
      by None is = stays
      by (Some h) is =
          let t = (with_closed h handle s).system in
          let e = close-edit s handle h in
          let all = hides who k && is_ctl h.file in
          subst (λ o. CallFollows covers (covers_closed who k o covers) s.system t []) (sym is)
          (choice (λ (n : Covers). CallFollows covers n s.system t []) all
          (with_cover h.pid (finished (covers h.pid)) covers) covers
          (λ it. closed-follows (with_cover h.pid (finished (covers h.pid)) covers) h.pid t
          (finished-same h (tidy h is it))
          (finished-order h.pid) e)
          (λ other. closed-follows covers h.pid t refl order e))

  -- ---- from outside

  spawned-same : (program : Program) (held : Bool)
      → uncovered covers (with_spawned traced program held s.system)
      ≡ with_spawned traced program held (uncovered covers s.system)
  unfolding with_spawned uncovered
  spawned-same program held =
      made-uncovered covers (new_process traced program s.system.clock held) s.system
      ∙ ap (λ (c : Cover). with_made (uncovered_process c (new_process traced program s.system.clock held))
      (uncovered covers s.system)) (order.fresh s.system.made (same-grows s.system))
      ∙ new-same program held
    where
      new-same : (program : Program) (held : Bool)
          → with_made (uncovered_process no_cover (new_process traced program s.system.clock held))
          (uncovered covers s.system)
          ≡ with_made (new_process traced program (uncovered covers s.system).clock held) (uncovered covers s.system)
      new-same program held =
          ap (λ q. with_made q (uncovered covers s.system)) (new-process-same program s.system.clock held)

  refusal-same : (program : Program)
      → spawn_refusal (uncovered covers s.system) program ≡ spawn_refusal s.system program
  unfolding spawn_refusal uncovered
  refusal-same program =
      ap (λ b. cond (leb process_limit s.system.made) (Some Again) (cond b None (Some Nomem)))
      (room-uncovered covers s.system (mapped_size (first_space program)) 0)

  programs-same : (uncovered covers s.system).programs ≡ s.system.programs
  unfolding uncovered
  programs-same = refl

  spawn-unless : (name : List ℕ) (program : Program) (held : Bool) → program_named s.system.programs name ≡ Some program
      → (o : Option Errno) → spawn_refusal s.system program ≡ o
      → Goes (call.Spawn name held) (spawn_unless s program held o)
  unfolding covers_called
  spawn-unless name program held named (Some e) refusal = stays
  spawn-unless name program held named None refusal =
      let u = uncovered covers s.system in
      let t = with_spawned traced program held s.system in
      let done =
      spawn-follows name program held u (tame-untouched covers s.system tame)
      (ap (λ ps. program_named ps name) programs-same ∙ named) (refusal-same program ∙ refusal) in
      let same = spawned-same program held in
      record {
        follows = record {
          run =
              subst (λ (v : TracedSystem). UntracedRun (seen covers s.system) (step.Spawn name ∷ []) (erased_system v))
              (sym same) done.run;
          tame = untouched-tame covers t (subst IsUntouched (sym same) done.untouched);
        };
        in_order = order-later covers s.system t order (spawned-grows s.system program held);
      }

  spawn-found : (name : List ℕ) (held : Bool) (o : Option Program) → program_named s.system.programs name ≡ o
      → Goes (call.Spawn name held) (spawn_found s held o)
  unfolding covers_called
  spawn-found name held None named = stays
  spawn-found name held (Some program) named =
      spawn-unless name program held named (spawn_refusal s.system program) refl

  sent-same : (pid : ℕ) (x : Sending) → ((g : Sig) → x ≡ sends g → is_kill g ≡ true → MayEnd covers s.system pid)
      → uncovered covers (with_sent traced pid (killed_by 0) x s.system)
      ≡ with_sent traced pid (killed_by 0) x (uncovered covers s.system)
  unfolding with_sent
  sent-same pid (refuses e) may = refl
  sent-same pid sends_nothing may = refl
  sent-same pid (sends g) may = generated-uncovered covers pid None g (killed_by 0) s.system (may g refl)

  sent-grows : (pid : ℕ) (x : Sending) → Grows s.system (with_sent traced pid (killed_by 0) x s.system)
  unfolding with_sent
  sent-grows pid (refuses e) = same-grows s.system
  sent-grows pid sends_nothing = same-grows s.system
  sent-grows pid (sends g) = generated-grows s.system pid None g (killed_by 0)

  abbrev killed : ℕ → ℕ → Sending → Answer
  killed pid number x =
      record { state = with_system (with_sent traced pid (killed_by 0) x) s; reply = sent_reply x }

  kill-granted : (pid number : ℕ) (x : Sending) → sending pid number (life_of s.system pid) ≡ x → IsGranted x
      → MayKill covers s.system pid number
      → CallFollows covers covers s.system (with_sent traced pid (killed_by 0) x s.system) (step.Kill pid number ∷ [])
  kill-granted pid number x is granted may =
      let u = uncovered covers s.system in
      let t = with_sent traced pid (killed_by 0) x s.system in
      let done =
      kill-follows pid number x u (tame-untouched covers s.system tame)
      (ap (sending pid number) (life-uncovered covers s.system pid) ∙ is) granted in
      let same = sent-same pid x (λ g it kills. may g (is ∙ it) kills) in
      record {
        follows = record {
          run =
              subst (λ (v : TracedSystem). UntracedRun
              (seen covers s.system) (step.Kill pid number ∷ []) (erased_system v))
              (sym same) done.run;
          tame = untouched-tame covers t (subst IsUntouched (sym same) done.untouched);
        };
        in_order = order-later covers s.system t order (sent-grows pid x);
      }

  kill-sent : (pid number : ℕ) (x : Sending) → sending pid number (life_of s.system pid) ≡ x
      → IsTidyCall who covers s k (call.Kill pid number) (sent_reply x)
      → Goes (call.Kill pid number) (killed pid number x)
  unfolding covers_called with_sent
  kill-sent pid number (refuses e) is tidy = stays
  kill-sent pid number sends_nothing is tidy = kill-granted pid number sends_nothing is untraced.nothing tidy
  kill-sent pid number (sends g) is tidy = kill-granted pid number (sends g) is untraced.it tidy

  -- ---- the other calls change nothing of the system

  abbrev IsCalm : calls.Call → Type 0
  IsCalm (call.Ctl handle bytes) = ⊥
  IsCalm (call.Close handle) = ⊥
  IsCalm (call.Spawn name held) = ⊥
  IsCalm (call.Kill pid number) = ⊥
  IsCalm _ = Unit {0}

  calm-system : (c : calls.Call) (t : TracedState) → CallEdit s k c t → IsCalm c → t.system ≡ s.system
  unfolding with_opened
  calm-system c t edit.looks calm = refl
  calm-system c t (edit.opens free grants) calm = refl
  calm-system c t (edit.closes at) calm = absurd calm
  calm-system c t (edit.controls w e) calm = absurd calm
  calm-system c t edit.sees_interrupt calm = refl
  calm-system c t (edit.interrupts there) calm = refl
  calm-system c t (edit.spawns named grants) calm = absurd calm
  calm-system c t (edit.sends is) calm = absurd calm

  calm-follows : (c : calls.Call) (a : Answer) → answer_to s k c ≡ Some a → IsCalm c
      → CallFollows covers covers s.system a.state.system []
  calm-follows c a is calm =
      subst (λ (t : TracedSystem). CallFollows covers covers s.system t [])
      (sym (calm-system c a.state (call-edit s k c a is) calm)) stays

  -- ---- any of them

  pub call-follows : (c : calls.Call) (a : Answer) → answer_to s k c ≡ Some a
      → (is_passive_act (act.Call c a.reply) || is_hider_act who (Controller k) (act.Call c a.reply)) ≡ true
      → IsTidyCall who covers s k c a.reply → Goes c a
  unfolding answer_to spawn_answer kill_answer close_answer covers_called
  call-follows (call.Ctl handle bytes) a is allowed tidy =
      let same : controlled s (answer handle bytes) ≡ a =
      same_Some (controlled s (answer handle bytes)) a is in
      subst (λ (x : Answer). CallFollows covers (covers_called who covers s k (call.Ctl handle bytes) x.reply) s.system
      x.state.system []) same
      (ctl-follows handle bytes (answer handle bytes).reply refl
      (ap (λ (x : Answer). is_passive_call (call.Ctl handle bytes) x.reply
      || is_hider_write who k (first_message bytes)) same
      ∙ allowed)
      (λ used taken. subst (λ r. IsTidyCall who covers s k (call.Ctl handle bytes) r)
      (sym (ap (λ (x : Answer). x.reply) same) ∙ taken) tidy))
  call-follows (call.Close handle) a is allowed tidy =
      let x = close_held s handle (handle_of s.opens k handle) in
      let same : x ≡ a = same_Some x a is in
      subst (λ (y : Answer). Goes (call.Close handle) y) same
      (close-follows handle (λ h held.
      subst (λ o. IsTidyClose who k covers s.system o) held
      (subst (λ r. IsTidyCall who covers s k (call.Close handle) r)
      (sym (ap (λ (y : Answer). y.reply) same) ∙ ap (λ o. (close_held s handle o).reply) held) tidy)))
  call-follows (call.Spawn name held) a is allowed tidy =
      subst (λ (x : Answer). Goes (call.Spawn name held) x)
      (same_Some (spawn_found s held (program_named s.system.programs name)) a is)
      (spawn-found name held (program_named s.system.programs name) refl)
  call-follows (call.Kill pid number) a is allowed tidy =
      let x = sending pid number (life_of s.system pid) in
      let same = same_Some (killed pid number x) a is in
      subst (λ (y : Answer). Goes (call.Kill pid number) y) same
      (kill-sent pid number x refl
      (subst (λ (y : Answer). IsTidyCall who covers s k (call.Kill pid number) y.reply) (sym same) tidy))
  call-follows c a is allowed tidy = calm-follows c a is tt
