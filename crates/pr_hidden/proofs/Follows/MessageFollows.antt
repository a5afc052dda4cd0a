use Rattle.std.proofs.Common.{◌≡◌, ◌&&◌, ◌||◌, ℕ, Bool, true, false, not, leb, is_some, Option, Some, None, List, [], length, cond, refl, sym, subst, ◌∙◌, ap, inl, inr}
use Rattle.std.proofs.lemmas.Bool.{cases_Bool}
use Rattle.std.proofs.lemmas.Option.{same_Some}
use Rattle.std.specs.List.{list_all}
use Rattle.std.specs.Result.{is_ok}
use Rattle.pr_num.specs.Agents.{agent_id}
use Rattle.pr_num.specs.ById.{IsRising}
use Rattle.pr_num.specs.Limits.{lwp_limit}
use Rattle.pr_num.specs.Spaces.{bytes_for}
use Rattle.pr_num.specs.declared.errnos.Errno.{Errno}
use Rattle.pr_num.specs.declared.errnos.Errno.TheVariants.{Busy, Io, Nomem}
use Rattle.pr_num.specs.declared.messages.Message.{Message}
use Rattle.pr_num.specs.declared.messages.Message.TheVariants as message
use Rattle.pr_num.proofs.BoolLemmas.{and_false, either}
use Rattle.pr_parts.specs.AddressSpaces.{with_bytes}
use Rattle.pr_keeps.proofs.KeepsLemmas.{choice}
use Rattle.pr_keeps.proofs.MessageLemmas.{message-edit}
use Rattle.pr_model.specs.Changes.{with_space}
use Rattle.pr_model.specs.Erasure.{erased_lwp, erased_process, erased_system}
use Rattle.pr_model.specs.Lawful.{IsLawfulProcess, IsLawfulSystem}
use Rattle.pr_model.specs.Messages.{Aim, Controlled, agent_answer, aimed_lwp, at_lwp, at_process, found_at, lets_agent, message_answer, on_found, on_stopped_found, run_answer, run_found, with_agent, with_process_changed, with_registers, write_answer}
use Rattle.pr_model.specs.Messages as answered
use Rattle.pr_model.specs.Passive.{is_passive_message}
use Rattle.pr_model.specs.Running.{lwp_run_refused, run_lwp, run_refused, with_run, without_fault}
use Rattle.pr_model.specs.State.{TracedLwp, TracedProcess, TracedSystem, has_agent, live_process, lwp_of, process_of, with_lwp, with_process}
use Rattle.pr_model.specs.Stops.{has_event_stop, representative}
use Rattle.pr_model.specs.declared.calls.Reply.{Reply}
use Rattle.pr_model.specs.declared.calls.Reply.TheVariants as reply
use Rattle.pr_model.proofs.StateLemmas.{live_process-found, representative-agent}
use Rattle.pr_lawful.proofs.Following.MadeLemmas.{Grows, edit-grows, process-grows, same-grows}
use Rattle.pr_lawful.proofs.Following.UseLemmas.{live-lawful}
use Rattle.pr_laws.proofs.RepresentativeLemmas.{representative-leads}
use Rattle.pr_hidden.specs.Covers.{Cover, Covers, seen, with_cover}
use Rattle.pr_hidden.specs.Hiders.{Hiders, are_some, cover_sent, patches_written}
use Rattle.pr_hidden.specs.Hiding.{with_own_agent, with_patches}
use Rattle.pr_hidden.specs.Tidiness.{ClearsOwn, IsTidyMessage, IsTidyWrite, SetsOwn, is_hider_message, is_step_flags}
use Rattle.pr_hidden.proofs.NothingHidden.CoverLemmas.{cover-same}
use Rattle.pr_hidden.proofs.Follows.FaultRows.{no-way}
use Rattle.pr_hidden.proofs.Follows.FollowLemmas.{Follows, agent-of-one, agents-same, beneath-tame, follows-same, follows-unseen, process-same}
use Rattle.pr_hidden.proofs.Covers.HiddenCovers.{hidden_lwp, patches-hidden, same_cover-hidden}
use Rattle.pr_hidden.proofs.Follows.OrderLemmas.{AreInOrder, live-made, order-later, order-with}
use Rattle.pr_hidden.proofs.Follows.QuietLemmas.{message-quiet}
use Rattle.pr_hidden.proofs.Follows.RunFollows.{IsUnseen, NoOther, StepFlags, agent_came, clear-abort, clears-same, lwp-unseen, run-abort, run-same, run-unseen, step-flags}
use Rattle.pr_hidden.proofs.NothingHidden.TameLemmas.{IsTame, tame-found, tame-process, tame-unkept}
use Rattle.pr_hidden.proofs.PatchedSpaces.WrittenCovers.{write-alike, write-sound}

-- What programs see of a message that a hider sends, and of one that is passive: nothing.

module _ (who : Hiders) (k : ℕ) (covers : Covers) (s : TracedSystem) (pid : ℕ) (p : TracedProcess) (aim : Aim)
    (tail : List ℕ) (len : ℕ) (live : live_process s pid ≡ Some p) (lawful : IsLawfulSystem s)
    (order : AreInOrder covers s) (tame : IsTame covers s) where
  abbrev cover : Cover
  cover = covers pid

  found : process_of s pid ≡ Some p
  found = live_process-found s pid p live

  rising : IsRising p.lwps
  rising = let of : IsLawfulProcess (pid, p) = live-lawful s pid p lawful live in of.rising

  -- what is hidden once it has this reply
  unfoldable pub sent : Message → Reply → Covers
  sent m (reply.Used used) = with_cover pid (cover_sent who k p m tail cover) covers
  sent m _ = covers

  pub record IsSent (m : Message) (r : Reply) (t : TracedSystem) : Type 0 where
    pub follows : Follows covers (sent m r) s t []
    pub in_order : AreInOrder (sent m r) t

  abbrev Sends : Message → Controlled → Type 0
  Sends m answer = IsSent m answer.reply answer.system

  -- what is so where a message is taken
  abbrev IfUsed : Controlled → Type 0 → Type 0
  IfUsed answer it = (used : ℕ) → answer.reply ≡ reply.Used used → it

  -- it is refused
  refused-sent : (m : Message) (e : Errno) → Sends m (answered.refused s e)
  unfolding sent
  refused-sent m e = record { follows = follows-same covers s tame; in_order = order }

  -- what is hidden is as it was
  quiet-sent : (m : Message) (r : Reply) → cover_sent who k p m tail cover ≡ cover → sent m r ≡ covers
  unfolding sent
  quiet-sent m (reply.Used used) same = ap (λ (c : Cover). with_cover pid c covers) same ∙ cover-same pid covers
  quiet-sent m _ same = refl

  same-sent : (m : Message) (r : Reply) (t : TracedSystem) → cover_sent who k p m tail cover ≡ cover
      → seen covers t ≡ seen covers s → IsTame covers t → Grows s t → IsSent m r t
  same-sent m r t same alike stays grows = record {
    follows =
        subst (λ (n : Covers). Follows covers n s t []) (sym (quiet-sent m r same))
        (follows-unseen covers covers s t alike stays);
    in_order = subst (λ (n : Covers). AreInOrder n t) (sym (quiet-sent m r same)) (order-later covers s t order grows);
  }

  unseen-sent : (m : Message) (f : TracedProcess → TracedProcess) → cover_sent who k p m tail cover ≡ cover
      → IsUnseen covers pid p (f p) → Sends m (with_process_changed s pid p len f)
  unseen-sent m f same unseen =
      same-sent m (reply.Used len) (with_process pid f s) same
      (same_cover-hidden covers s pid p f lawful.rising found unseen.seen)
      (tame-found covers pid f p s found unseen.tame tame) (process-grows s pid f)

  -- a passive message
  passive-cover : (m : Message) → is_passive_message m ≡ true → cover_sent who k p m tail cover ≡ cover
  unfolding cover_sent is_passive_message
  passive-cover (message.Write at size) passive = no-way passive
  passive-cover (message.Agent regs) passive = no-way passive
  passive-cover _ passive = refl

  passive-sent : (m : Message) → is_passive_message m ≡ true → Sends m (message_answer s pid p aim m tail len)
  passive-sent m passive =
      let answer = message_answer s pid p aim m tail len in
      let edit = message-edit s pid p tail len aim m in
      let quiet = message-quiet covers s pid p m tail answer.system edit found passive in
      same-sent m answer.reply answer.system (passive-cover m passive) quiet.seen (quiet.tame tame)
      (edit-grows s pid p m tail answer.system found edit)

  -- what a message is aimed at stands there
  aimed-stands : (e : ℕ × TracedLwp) → aimed_lwp s pid p aim ≡ Some e → lwp_of p e.0 ≡ Some e.1
  unfolding aimed_lwp
  aimed-stands e is = by aim is
    where
      at : (id : ℕ) (o : Option TracedLwp) → lwp_of p id ≡ o → found_at s pid p id o ≡ Some e → lwp_of p e.0 ≡ Some e.1
      at id None there is = absurd (none is)
        where
          none : (let o : Option (ℕ × TracedLwp) = None in o) ≡ Some e → ⊥
          none it = cc
      at id (Some l) there is =
          subst (λ (d : ℕ × TracedLwp). lwp_of p d.0 ≡ Some d.1) (same_Some (id, l) e is) there

      whole : (o : Option TracedLwp) → lwp_of p agent_id ≡ o → representative p ≡ Some e → lwp_of p e.0 ≡ Some e.1
      whole None none is = let first = representative-leads p e rising none is in first.stands
      whole (Some l) there is =
          subst (λ (d : ℕ × TracedLwp). lwp_of p d.0 ≡ Some d.1)
          (same_Some (agent_id, l) e (sym (representative-agent p l there) ∙ is)) there

      by : (a : Aim) → aimed_lwp s pid p a ≡ Some e → lwp_of p e.0 ≡ Some e.1
      by (at_lwp id) is = at id (lwp_of p id) refl is
      by at_process is = whole (lwp_of p agent_id) refl is

  aimed-clears : ClearsOwn cover s pid p aim → (e : ℕ × TracedLwp) → aimed_lwp s pid p aim ≡ Some e
      → (lwp_of p e.0 ≡ Some e.1) × NoOther (cover.faulted e.0) e.1
  aimed-clears clears e is = (aimed-stands e is, λ f address faulted. clears.own e is f address faulted)

  -- PCCFAULT
  clear-cover : cover_sent who k p message.Cfault tail cover ≡ cover
  unfolding cover_sent
  clear-cover = refl

  clear-sent : IfUsed (message_answer s pid p aim message.Cfault tail len) (ClearsOwn cover s pid p aim)
      → Sends message.Cfault (message_answer s pid p aim message.Cfault tail len)
  unfolding message_answer
  clear-sent tidy = by (aimed_lwp s pid p aim) refl
    where
      by : (o : Option (ℕ × TracedLwp)) → aimed_lwp s pid p aim ≡ o
          → Sends message.Cfault (on_found s pid p len without_fault o)
      by None is = same-sent message.Cfault (reply.Used len) s clear-cover refl tame (same-grows s)
      by (Some e) is =
          let clears = tidy len (ap (λ o. (on_found s pid p len without_fault o).reply) is) in
          let it = aimed-clears clears e is in
          unseen-sent message.Cfault (with_lwp e.0 without_fault) clear-cover
          (lwp-unseen covers pid p e.0 e.1 without_fault rising it.0
          (ap erased_lwp (clears-same (cover.faulted e.0) e.1 it.1)) clear-abort)

  -- PCRUN with PRCFAULT, PRSTEP or both
  run-cover : (flags : ℕ) → cover_sent who k p (message.Run flags) tail cover ≡ cover
  unfolding cover_sent
  run-cover flags = refl

  run-sent : (flags : ℕ) → StepFlags flags
      → IfUsed (message_answer s pid p aim (message.Run flags) tail len) (ClearsOwn cover s pid p aim)
      → Sends (message.Run flags) (message_answer s pid p aim (message.Run flags) tail len)
  unfolding message_answer run_answer aimed_lwp
  run-sent flags ask tidy = by aim refl
    where
      at : (id : ℕ) → aim ≡ at_lwp id → (o : Option TracedLwp) → lwp_of p id ≡ o
          → Sends (message.Run flags) (run_found s pid p flags len (found_at s pid p id o))
      at id is None there = refused-sent (message.Run flags) Busy
      at id is (Some l) there =
          let go = with_process_changed s pid p len (with_lwp id (run_lwp flags)) in
          choice (Sends (message.Run flags)) (lwp_run_refused p id l) (answered.refused s Busy) go
          (λ no. refused-sent (message.Run flags) Busy)
          (λ may.
          let taken =
          ap (λ a. (run_answer s pid p a flags len).reply) is
          ∙ ap (λ o. (run_found s pid p flags len (found_at s pid p id o)).reply) there
          ∙ ap (λ b. (cond b (answered.refused s Busy) go).reply) may in
          let it =
          aimed-clears (tidy len taken) (id, l) (ap (aimed_lwp s pid p) is ∙ ap (found_at s pid p id) there) in
          unseen-sent (message.Run flags) (with_lwp id (run_lwp flags)) (run-cover flags)
          (lwp-unseen covers pid p id l (run_lwp flags) rising there (run-same flags ask (cover.faulted id) l it.1)
          (run-abort flags ask)))

      by : (a : Aim) → aim ≡ a → Sends (message.Run flags) (run_answer s pid p a flags len)
      by (at_lwp id) is = at id is (lwp_of p id) refl
      by at_process is =
          let go = with_process_changed s pid p len (with_run flags) in
          choice (Sends (message.Run flags)) (run_refused p) (answered.refused s Busy) go
          (λ no. refused-sent (message.Run flags) Busy)
          (λ may.
          let taken =
          ap (λ a. (run_answer s pid p a flags len).reply) is
          ∙ ap (λ b. (cond b (answered.refused s Busy) go).reply) may in
          unseen-sent (message.Run flags) (with_run flags) (run-cover flags)
          (run-unseen covers pid flags ask p rising
          (λ e whole. aimed-clears (tidy len taken) e (ap (aimed_lwp s pid p) is ∙ whole))))

  -- PCSREG of a hidden agent
  registers-sent : (regs : List ℕ)
      → IfUsed (message_answer s pid p aim (message.Sreg regs) tail len) (SetsOwn cover s pid p aim)
      → Sends (message.Sreg regs) (message_answer s pid p aim (message.Sreg regs) tail len)
  unfolding message_answer cover_sent
  registers-sent regs tidy = by (aimed_lwp s pid p aim) refl
    where
      by : (o : Option (ℕ × TracedLwp)) → aimed_lwp s pid p aim ≡ o
          → Sends (message.Sreg regs) (on_stopped_found s pid p len (with_registers regs) o)
      by None is = refused-sent (message.Sreg regs) Busy
      by (Some e) is =
          let go = with_process_changed s pid p len (with_lwp e.0 (with_registers regs)) in
          choice (Sends (message.Sreg regs)) (has_event_stop e.1) go (answered.refused s Busy)
          (λ stands.
          let taken =
          ap (λ o. (on_stopped_found s pid p len (with_registers regs) o).reply) is
          ∙ ap (λ b. (cond b go (answered.refused s Busy)).reply) stands in
          let sets = tidy len taken in
          unseen-sent (message.Sreg regs) (with_lwp e.0 (with_registers regs)) refl
          (record {
            seen = ap erased_process (hidden_lwp cover e.0 (with_registers regs) p (sets.own e is));
            tame = tame-unkept covers pid e.0 (with_registers regs) (sets.own e is) p;
          }))
          (λ goes. refused-sent (message.Sreg regs) Busy)

  -- PCAGENT of a probe
  agent-sent : (regs : List ℕ) → who.probes k ≡ true
      → Sends (message.Agent regs) (message_answer s pid p aim (message.Agent regs) tail len)
  unfolding message_answer agent_answer cover_sent sent
  agent-sent regs probe =
      either (Sends (message.Agent regs)) (is_some p.borrower) _ _
      (refused-sent (message.Agent regs) _)
      (busy (has_agent p || not (list_all (lets_agent p.job_stop) p.lwps)) refl)
    where
      none : (o : Option TracedLwp) → lwp_of p agent_id ≡ o
          → (is_some o || not (list_all (lets_agent p.job_stop) p.lwps)) ≡ false → lwp_of p agent_id ≡ None
      none None is idle = is
      none (Some l) is idle = no-way (sym idle)

      made : lwp_of p agent_id ≡ None → Sends (message.Agent regs) (with_process_changed s pid p len (with_agent regs))
      made free =
          let new = with_cover pid (with_own_agent true cover) covers in
          let t = with_process pid (with_agent regs) s in
          let same =
          process-same covers pid (with_own_agent true cover) s p (with_agent regs) lawful.rising found
          (agent_came cover regs p free) in
          let is : sent (message.Agent regs) (reply.Used len) ≡ new =
          ap (λ b. with_cover pid (cond b (with_own_agent true cover) cover) covers) probe in
          record {
            follows =
                subst (λ (n : Covers). Follows covers n s t []) (sym is)
                (follows-unseen covers new s t (ap erased_system same) (beneath-tame covers new s t same tame));
            in_order =
                subst (λ (n : Covers). AreInOrder n t) (sym is)
                (order-with covers s t pid (with_own_agent true cover) order (process-grows s pid (with_agent regs))
                (live-made s pid p lawful live) (order.sound pid));
          }

      full : lwp_of p agent_id ≡ None
          → Sends (message.Agent regs)
          (cond (leb lwp_limit (length p.lwps)) (answered.refused s Nomem)
          (with_process_changed s pid p len (with_agent regs)))
      full free =
          either (Sends (message.Agent regs)) (leb lwp_limit (length p.lwps)) (answered.refused s Nomem)
          (with_process_changed s pid p len (with_agent regs))
          (refused-sent (message.Agent regs) Nomem) (made free)

      busy : (b : Bool) → (has_agent p || not (list_all (lets_agent p.job_stop) p.lwps)) ≡ b
          → Sends (message.Agent regs)
          (cond b (answered.refused s Busy)
          (cond (leb lwp_limit (length p.lwps)) (answered.refused s Nomem)
          (with_process_changed s pid p len (with_agent regs))))
      busy true is = refused-sent (message.Agent regs) Busy
      busy false is = full (none (lwp_of p agent_id) refl is)

  -- PCWRITE of a hider
  write-sent : (at size : ℕ)
      → IfUsed (message_answer s pid p aim (message.Write at size) tail len)
      (IsTidyWrite who k cover.patches p.space at tail)
      → Sends (message.Write at size) (message_answer s pid p aim (message.Write at size) tail len)
  unfolding message_answer write_answer cover_sent sent with_space
  write-sent at size tidy =
      let go = with_process_changed s pid p len (with_space (with_bytes at tail p.space)) in
      let mapped = is_ok (bytes_for 0 p.space at (length tail)) in
      choice (Sends (message.Write at size)) (is_some p.borrower) (answered.refused s Busy)
      (cond mapped go (answered.refused s Io)) (λ lent. refused-sent (message.Write at size) Busy)
      (λ own. choice (Sends (message.Write at size)) mapped go (answered.refused s Io)
      (λ all. written (tidy len
      (ap (λ b. (cond b (answered.refused s Busy) (cond mapped go (answered.refused s Io))).reply) own
      ∙ ap (λ b. (cond b go (answered.refused s Io)).reply) all)))
      (λ hole. refused-sent (message.Write at size) Io))
    where
      written : IsTidyWrite who k cover.patches p.space at tail
          → Sends (message.Write at size) (with_process_changed s pid p len (with_space (with_bytes at tail p.space)))
      written it =
          let ps = patches_written who k p.space at tail cover.patches in
          let new = with_cover pid (with_patches ps cover) covers in
          let space = with_bytes at tail p.space in
          let t = with_process pid (with_space space) s in
          let sound = order.sound pid in
          record {
            follows =
                follows-unseen covers new s t
                (patches-hidden covers s pid p ps space lawful.rising live
                (write-alike who k cover.patches p.space at tail sound it))
                (agents-same covers new (agent-of-one covers pid (with_patches ps cover) refl) t
                (tame-process covers pid (with_space space)
                (λ x of. record { no_kill = of.no_kill; unwatched = of.unwatched; lwps = of.lwps }) s tame));
            in_order =
                order-with covers s t pid (with_patches ps cover) order (process-grows s pid (with_space space))
                (live-made s pid p lawful live) (write-sound who k cover.patches p.space at tail sound it);
          }

  -- ---- any of them

  no-hider : (a b : Bool) → ((a && false) || (b && false)) ≡ false
  no-hider true true = refl
  no-hider true false = refl
  no-hider false true = refl
  no-hider false false = refl

  second : (a b : Bool) → (a || b) ≡ true → b ≡ false → a ≡ true
  second true b e none = refl
  second false b e none = no-way (sym none ∙ e)

  run-ask : (flags : ℕ) (a b : Bool) → ((a && is_step_flags flags) || (b && false)) ≡ true → is_step_flags flags ≡ true
  run-ask flags true b e = second (is_step_flags flags) (b && false) e (and_false b)
  run-ask flags false true e = no-way e
  run-ask flags false false e = no-way e

  agent-ask : (a b : Bool) → ((a && false) || (b && true)) ≡ true → b ≡ true
  agent-ask a true e = refl
  agent-ask true false e = no-way e
  agent-ask false false e = no-way e

  abbrev Allowed : Message → Type 0
  Allowed m = (is_passive_message m || is_hider_message who k m) ≡ true

  other-sent : (m : Message) → is_hider_message who k m ≡ false → Allowed m
      → Sends m (message_answer s pid p aim m tail len)
  other-sent m none allowed = passive-sent m (second (is_passive_message m) (is_hider_message who k m) allowed none)

  run-taken : (flags : ℕ) → Allowed (message.Run flags)
      → IfUsed (message_answer s pid p aim (message.Run flags) tail len)
      (is_step_flags flags ≡ true → ClearsOwn cover s pid p aim)
      → Sends (message.Run flags) (message_answer s pid p aim (message.Run flags) tail len)
  run-taken flags allowed tidy =
      elim (cases_Bool (is_passive_message (message.Run flags))) [
        | inl passive ↦ passive-sent (message.Run flags) passive
        | inr hider ↦
            let it : is_hider_message who k (message.Run flags) ≡ true =
            ap (λ b. b || is_hider_message who k (message.Run flags)) (sym hider) ∙ allowed in
            let ask = run-ask flags (are_some (who.functions k)) (who.probes k) it in
            run-sent flags (step-flags flags ask) (λ used is. tidy used is ask)
      ]

  -- Every message that is allowed, and tidy where it is taken.
  pub message-sent : (m : Message) → Allowed m
      → IfUsed (message_answer s pid p aim m tail len) (IsTidyMessage who k covers s pid p aim m tail)
      → Sends m (message_answer s pid p aim m tail len)
  unfolding is_passive_message
  message-sent (message.Write at size) allowed tidy = write-sent at size tidy
  message-sent message.Cfault allowed tidy = clear-sent tidy
  message-sent (message.Run flags) allowed tidy = run-taken flags allowed tidy
  message-sent (message.Agent regs) allowed tidy =
      agent-sent regs (agent-ask (are_some (who.functions k)) (who.probes k) allowed)
  message-sent (message.Sreg regs) allowed tidy = registers-sent regs tidy
  message-sent m allowed tidy = other-sent m (no-hider (are_some (who.functions k)) (who.probes k)) allowed
