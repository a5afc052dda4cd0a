use Rattle.std.proofs.Common.{◌≡◌, ◌≢◌, ◌==◌, ◌&&◌, ◌<◌, ◌⊎◌, ℕ, Bool, true, false, cond, None, Some, Option, List, refl, sym, subst, ap, ◌∙◌, inl, inr}
use Rattle.std.proofs.lemmas.Bool.{cases_Bool, cases_eq, eq-eqb, eqb-false, eqb-true, false≢true}
use Rattle.std.proofs.lemmas.Option.{none-some, same_Some}
use Rattle.std.specs.List.{slice_get, slice_set}
use Rattle.pr_file_laws.proofs.PlaceLemmas.{slice_get-set_other}
use Rattle.pr_lawful.proofs.LawfulTurns.EndLemmas.{found-live}
use Rattle.pr_lawful.proofs.ProcessParts.HandleLemmas.{any-at, handle-at}
use Rattle.pr_num.proofs.ByIdLaws.{All-under}
use Rattle.pr_model.specs.Calls.{Answer, answer_to}
use Rattle.pr_model.specs.Handles.{handle_of, has_writer, is_control, is_writable, is_writer}
use Rattle.pr_model.specs.Lawful.{IsLawful, IsReleased}
use Rattle.pr_model.specs.Legal.{IsLegalEntry, after}
use Rattle.pr_model.specs.State.{TracedProcess, TracedState, live_process}
use Rattle.pr_model.specs.declared.calls.Call.{Call}
use Rattle.pr_model.specs.declared.calls.Call.TheVariants as call
use Rattle.pr_model.specs.declared.calls.File.{File}
use Rattle.pr_model.specs.declared.calls.File.TheVariants as file
use Rattle.pr_model.specs.declared.calls.Mode.{Mode}
use Rattle.pr_model.specs.declared.calls.Mode.TheVariants.{WriteExcl}
use Rattle.pr_model.specs.declared.calls.Reply.TheVariants as reply
use Rattle.pr_model.specs.declared.handles.Held.{Held}
use Rattle.pr_num.specs.Control.{rlc_mode}
use Rattle.pr_num.specs.declared.messages.Message.TheVariants as message
use Rattle.pr_truss.specs.Messages.{all_modes, message_call}
use Rattle.pr_truss.specs.NextCalls.{call_of, child_call, freeing_call, next_call_of, opening_call}
use Rattle.pr_truss.specs.Replies.{answer_of}
use Rattle.pr_truss.specs.Trusses.{TrussState, traced_at}
use Rattle.pr_truss.specs.declared.replies.Answer.{Answer as Answered}
use Rattle.pr_truss.specs.declared.replies.Answer.TheVariants.{Accepted, Gone, Interrupted, Refused}
use Rattle.pr_truss.specs.declared.stages.ChildStep.TheVariants as child
use Rattle.pr_truss.specs.declared.stages.FreeingStep.TheVariants as freeing
use Rattle.pr_truss.specs.declared.stages.OpeningStep.TheVariants as opening
use Rattle.pr_truss.specs.declared.stages.Stage.{Stage}
use Rattle.pr_truss.specs.declared.stages.Stage.TheVariants.{Spawning, OpeningControl, Opening, Polling, ReadingStatus, ReadingText, OpeningChildControl, OpeningChild, Running, Closing, Unfollowing, ReadingLwps, FreeingChild, Finished}
use Rattle.pr_truss_laws.proofs.Machine.ForeignLemmas.{call-passes, names}
use Rattle.pr_truss_laws.proofs.Files.OpensLemmas.{Opens, close-closes, held_by, keeps_handles, open-opens, own-other, own-set, plain-leaves}
use Rattle.pr_truss_laws.proofs.Files.OwnLemmas.{Owns}
use Rattle.pr_truss_laws.proofs.Files.ReleaseLemmas.{none-left}
use Rattle.pr_report_laws.proofs.UnopenedChildren.ClaimRuns.{call_entry}
use Rattle.pr_report_laws.proofs.Machine.ControlLaws.{refusal-not}
use Rattle.pr_report_laws.proofs.Invariant.EntrySteps.{made-at}
use Rattle.pr_report_laws.proofs.Files.FileLaws.{HasFiles}
use Rattle.pr_report_laws.proofs.Files.FileUses as uses
use Rattle.pr_report_laws.proofs.Files.FileUses.{stage_place}
use Rattle.pr_truss_laws.proofs.Machine.OutlastLemmas.{Outlasts, killed, lives, outlasts}
use Rattle.pr_report_laws.proofs.Replies.OwnOpens.{open-stays}
use Rattle.pr_truss_laws.proofs.Machine.OverLemmas.{stays-over}
use Rattle.pr_report_laws.proofs.Releasing.ReleaseModes.{HasSameFlags, alone-flags, clear-accepted, clear-refused, entries-keep, exits-keep, faults-keep, flags-keep, follow-keep, release-accepted, release-refused, run-keep, signals-keep, stop-keep, unfollow-keep}
use Rattle.pr_report_laws.proofs.Releasing.ReleaseStays.{not-allowed}
use Rattle.pr_report_laws.specs.Releases.{HasModes, Modes, released, if_accepted, modes_next, spared}

-- A call of truss leaves the modes of each process as truss has set them.

-- What holds of the process of an id, as long as one controller has its control file open.
pub record KeepsModes (k pid : ℕ) (m : Modes) (s : TracedState) : Type 0 where
  pub modes : (number : ℕ) (g : Held) (p : TracedProcess) → handle_of s.opens k number ≡ Some g
      → is_control g.file ≡ true → g.pid ≡ pid → live_process s.system pid ≡ Some p → HasModes m p

both : (b : Bool) (m : Modes) (q : TracedProcess) → HasModes (cond b m m) q → HasModes m q
both true m q has = has
both false m q has = has

handle-accepted : (place : ℕ) → answer_of (reply.Handle place) ≡ Accepted
unfolding answer_of
handle-accepted place = refl

-- one that has a process open exclusively has no other handle for writing it
only-writer : (k pid : ℕ) (s : TracedState) (number other : ℕ) (g h : Held) → IsLawful s
    → handle_of s.opens k number ≡ Some g → g.mode ≡ WriteExcl → g.pid ≡ pid → handle_of s.opens k other ≡ Some h
    → is_writable h.mode ≡ true → h.pid ≡ pid → other ≡ number
only-writer k pid s number other g h lawful was mode of held writes same = elim (cases_eq other number) [
  | inl is ↦ is
  | inr apart ↦
      let at : slice_get (slice_set s.opens number None) other ≡ Some (Some h) =
      slice_get-set_other s.opens number other None apart ∙ handle-at s.opens k other h held in
      let some : has_writer g.pid (slice_set s.opens number None) ≡ true =
      any-at (is_writer g.pid) (slice_set s.opens number None) other (Some h) at
      (ap (λ b. b && is_writable h.mode) (eq-eqb h.pid g.pid (same ∙ sym of)) ∙ writes) in
      absurd (false≢true (sym (none-left s.opens number g (handle-at s.opens k number g was) mode lawful.exclusive)
      ∙ some))
]

module _ (n k pid : ℕ) (t : TrussState) (s : TracedState) (c : Call) (a : Answer) (m : Modes) (lawful : IsLawful s)
    (legal : IsLegalEntry n s (call_entry k c a)) (later : after s (call_entry k c a) ≡ a.state) (owns : Owns k t s)
    (files : HasFiles k t s) (next : next_call_of t ≡ Some c) (answer : answer_to s k c ≡ Some a)
    (keeps : KeepsModes k pid m s)
    (number : ℕ) (g : Held) (q : TracedProcess) (there : handle_of a.state.opens k number ≡ Some g)
    (control : is_control g.file ≡ true) (of : g.pid ≡ pid) (now : live_process a.state.system pid ≡ Some q) where
  answer-is : (d : Call) → d ≡ c → answer_to s k d ≡ Some a
  answer-is d same = subst (λ (x : Call). answer_to s k x ≡ Some a) (sym same) answer

  -- ---- a process that truss had open for writing

  module _ (was : handle_of s.opens k number ≡ Some g) where
    mode : g.mode ≡ WriteExcl
    mode = owns.modes number g was control

    made : pid < s.system.made
    made =
        subst (λ x. x < s.system.made) of (made-at s.opens number g (handle-at s.opens k number g was) lawful.handles)

    lived : (p : TracedProcess) × (live_process s.system pid ≡ Some p)
    lived = by (live_process s.system pid) refl
      where
        by : (x : Option TracedProcess) → live_process s.system pid ≡ x
            → (p : TracedProcess) × (live_process s.system pid ≡ Some p)
        by None is =
            absurd (none-some q (sym (ap (λ (x : TracedState). live_process x.system pid) (sym later)
            ∙ stays-over n s (call_entry k c a) pid lawful legal made is) ∙ now))
        by (Some p) is = (p, is)

    had : HasModes m lived.0
    had = keeps.modes number g lived.0 was control of lived.1

    -- a call that writes to no handle of the process, and closes none for writing
    missed :
        ((other : ℕ)
        (h : Held) → names c other ≡ true → handle_of s.opens k other ≡ Some h → is_writable h.mode ≡ true
        → h.pid ≢ pid) → HasModes m q
    missed apart =
        let p = lived.0 in
        let live = lived.1 in
        by p had
        (outlasts s.system a.state.system pid p live
        (call-passes s k pid lawful p (found-live s.system pid p live).0 c a
        (λ other named h held writes. apart other h named held writes) answer))
      where
        by : (p : TracedProcess) → HasModes m p → Outlasts pid p a.state.system → HasModes m q
        by p has (lives r after_it alone) =
            flags-keep m p q (subst (HasSameFlags p) (same_Some r q (sym after_it ∙ now)) (alone-flags p r alone)) has
        by p has (killed z none found status) = absurd (none-some q (sym none ∙ now))

  -- ---- a call that names no handle, and opens none

  plain : (d : Call) → d ≡ c → keeps_handles d ≡ true → ((other : ℕ) → names d other ≡ false) → HasModes m q
  plain d same keeps_them none =
      let opens = plain-leaves s k d a keeps_them (answer-is d same) in
      missed (sym (ap (λ x. handle_of x k number) opens)
      ∙ there) (λ other h named held writes is. false≢true (sym (none other)
      ∙ ap (λ (x : Call). names x other) same ∙ named))

  -- ---- a control message

  module _ (cm P : ℕ) (bytes : List ℕ) (is : call.Ctl cm bytes ≡ c)
      (held : handle_of s.opens k cm ≡ Some (held_by k P 0 file.Ctl WriteExcl)) where
    ctl-was : handle_of s.opens k number ≡ Some g
    ctl-was =
        sym (ap (λ x. handle_of x k number)
        (plain-leaves s k (call.Ctl cm bytes) a refl (answer-is (call.Ctl cm bytes) is))) ∙ there

    -- it goes to the process, or it misses it
    ctl-modes : (M : Modes)
        → ((p : TracedProcess) → live_process s.system P ≡ Some p → live_process a.state.system P ≡ Some q → HasModes
        m p → HasModes M q) → HasModes (cond (P == pid) M m) q
    ctl-modes M effect = by (P == pid) refl
      where
        by : (b : Bool) → (P == pid) ≡ b → HasModes (cond b M m) q
        by true mine =
            let same = eqb-true P pid mine in
            let before = lived ctl-was in
            effect before.0 (ap (live_process s.system) same ∙ before.1) (ap (live_process a.state.system) same
            ∙ now) (had ctl-was)
        by false apart = missed ctl-was (λ other h named its writes same.
            let at : cm ≡ other = eqb-true cm other (ap (λ (x : Call). names x other) is ∙ named) in
            let one : h ≡ held_by k P 0 file.Ctl WriteExcl =
            same_Some h _ (sym its ∙ ap (handle_of s.opens k) (sym at) ∙ held) in
            eqb-false P pid apart (ap (λ (x : Held). x.pid) (sym one) ∙ same))

    -- one that leaves the flags
    ctl-plain :
        ((p : TracedProcess) → live_process s.system P ≡ Some p → live_process a.state.system P ≡ Some q →
        HasSameFlags p q) → HasModes m q
    ctl-plain effect =
        both (P == pid) m q (ctl-modes m (λ p live then_ has. flags-keep m p q (effect p live then_) has))

  -- ---- a message to a process that truss traces, or sets free

  module _ (cm P : ℕ) (held : handle_of s.opens k cm ≡ Some (held_by k P 0 file.Ctl WriteExcl)) where
    abbrev h : Held
    h = held_by k P 0 file.Ctl WriteExcl

    clear-goes : message_call cm (message.Unset all_modes) ≡ c
        → HasModes (cond (P == pid) (if_accepted (answer_of a.reply) spared m) m) q
    clear-goes is =
        ctl-modes cm P _ is held (if_accepted (answer_of a.reply) spared m)
        (λ p live then_ has. by p live then_ has (answer_of a.reply) refl)
      where
        by : (p : TracedProcess) → live_process s.system P ≡ Some p → live_process a.state.system P ≡ Some q
            → HasModes m p → (x : Answered) → answer_of a.reply ≡ x → HasModes (if_accepted x spared m) q
        by p live then_ has Accepted accepted =
            clear-accepted s k cm h held refl p q live a then_ (answer-is _ is) accepted
        by p live then_ has Interrupted not =
            flags-keep m p q
            (clear-refused s k cm h held refl p q live a then_ (answer-is _ is) (λ accepted. let e = sym not
            ∙ accepted in cc)) has
        by p live then_ has Gone not =
            flags-keep m p q
            (clear-refused s k cm h held refl p q live a then_ (answer-is _ is) (λ accepted. let e = sym not
            ∙ accepted in cc)) has
        by p live then_ has (Refused errno) not =
            flags-keep m p q
            (clear-refused s k cm h held refl p q live a then_ (answer-is _ is) (λ accepted. let e = sym not
            ∙ accepted in cc)) has

    release-goes : message_call cm (message.Set rlc_mode) ≡ c
        → HasModes (cond (P == pid) (if_accepted (answer_of a.reply) released m) m) q
    release-goes is =
        ctl-modes cm P _ is held (if_accepted (answer_of a.reply) released m)
        (λ p live then_ has. by p live then_ has (answer_of a.reply) refl)
      where
        by : (p : TracedProcess) → live_process s.system P ≡ Some p → live_process a.state.system P ≡ Some q
            → HasModes m p → (x : Answered) → answer_of a.reply ≡ x → HasModes (if_accepted x released m) q
        by p live then_ has Accepted accepted =
            release-accepted s k cm h held refl p q live a then_ m (answer-is _ is) accepted has
        by p live then_ has Interrupted not =
            flags-keep m p q
            (release-refused s k cm h held refl p q live a then_ (answer-is _ is) (λ accepted. let e = sym not
            ∙ accepted in cc)) has
        by p live then_ has Gone not =
            flags-keep m p q
            (release-refused s k cm h held refl p q live a then_ (answer-is _ is) (λ accepted. let e = sym not
            ∙ accepted in cc)) has
        by p live then_ has (Refused errno) not =
            flags-keep m p q
            (release-refused s k cm h held refl p q live a then_ (answer-is _ is) (λ accepted. let e = sym not
            ∙ accepted in cc)) has

  -- ---- an open

  module _ (target id : ℕ) (f : File) (its_mode : Mode) (is : call.Open target id f its_mode ≡ c) where
    -- a handle was there before, or it is given now
    was-or-new : (handle_of s.opens k number ≡ Some g) ⊎
        ((g ≡ held_by k target id f its_mode) × ((place : ℕ) × (a.reply ≡ reply.Handle place)))
    was-or-new = elim (open-opens s k target id f its_mode a (answer-is _ is)) [
      | inl refused ↦ inl (sym (ap (λ x. handle_of x k number) refused.is) ∙ there)
      | inr opened ↦ by-place opened (cases_eq opened.place number)
    ]
      where
        by-place : (o : Opens s k (held_by k target id f its_mode) a.reply a.state.opens)
            → (o.place ≡ number) ⊎ (o.place ≢ number)
            → (handle_of s.opens k number ≡ Some g) ⊎
            ((g ≡ held_by k target id f its_mode) × ((place : ℕ) × (a.reply ≡ reply.Handle place)))
        by-place o (inl same) =
            inr (
              same_Some g _ (sym there ∙ ap (λ x. handle_of x k number) o.is
                  ∙ ap (handle_of (slice_set s.opens o.place (Some (held_by k target id f its_mode))) k) (sym same)
                  ∙ own-set s.opens k o.place (Some (held_by k target id f its_mode)) None o.free
                  ∙ own-it),
              (o.place, o.reply),
            )
          where
            own-it : cond (k == k) (Some (held_by k target id f its_mode)) None ≡ Some (held_by k target id f its_mode)
            own-it = ap (λ b. cond b (Some (held_by k target id f its_mode)) None) (eq-eqb k k refl)
        by-place o (inr other) =
            inl (sym (ap (λ x. handle_of x k number) o.is
            ∙ own-other s.opens k o.place number (Some (held_by k target id f its_mode)) other) ∙ there)

    open-system : a.state.system ≡ s.system
    open-system = open-stays s k target id f its_mode a (answer-is _ is)

    open-keeps : handle_of s.opens k number ≡ Some g → HasModes m q
    open-keeps was =
        missed was (λ other h named held writes same. false≢true (ap (λ (x : Call). names x other) is ∙ named))

    -- a file that is no control file
    open-plain : is_control f ≡ false → HasModes m q
    open-plain not =
        elim was-or-new [
          | inl was ↦ open-keeps was
          | inr new ↦ absurd (false≢true (sym not
              ∙ ap (λ (x : Held). is_control x.file) (sym new.0) ∙ control))
        ]

    -- a control file
    open-modes : (M : Modes) → (target ≡ pid → (place : ℕ) → a.reply ≡ reply.Handle place → HasModes M q)
        → HasModes (cond (target == pid) (if_accepted (answer_of a.reply) M m) m) q
    open-modes M given = by (target == pid) refl (answer_of a.reply) refl
      where
        opened-reply : answer_of a.reply ≡ Accepted → (place : ℕ) × (a.reply ≡ reply.Handle place)
        opened-reply accepted = elim (open-opens s k target id f its_mode a (answer-is _ is)) [
          | inl refused ↦ absurd (refusal-not refused.errno (ap answer_of (sym refused.reply) ∙ accepted))
          | inr opened ↦ (opened.place, opened.reply)
        ]

        refused-keeps : answer_of a.reply ≢ Accepted → HasModes m q
        refused-keeps not =
            elim was-or-new [
              | inl was ↦ open-keeps was
              | inr new ↦ absurd (not (ap answer_of new.1.1
                  ∙ handle-accepted new.1.0))
            ]

        by : (b : Bool) → (target == pid) ≡ b → (x : Answered) → answer_of a.reply ≡ x
            → HasModes (cond b (if_accepted x M m) m) q
        by true mine Accepted accepted = let o = opened-reply accepted in given (eqb-true target pid mine) o.0 o.1
        by true mine Interrupted not = refused-keeps (λ accepted. let e = sym not ∙ accepted in cc)
        by true mine Gone not = refused-keeps (λ accepted. let e = sym not ∙ accepted in cc)
        by true mine (Refused errno) not = refused-keeps (λ accepted. let e = sym not ∙ accepted in cc)
        by false apart x told =
            elim was-or-new [
              | inl was ↦ open-keeps was
              | inr new ↦ absurd
                  (eqb-false target pid apart (ap (λ (y : Held). y.pid) (sym new.0) ∙ of))
            ]

  -- a control file: nobody has the process open for writing, so that it has no PR_KLC
  control-modes : (target : ℕ) → call.Open target 0 file.Ctl WriteExcl ≡ c
      → HasModes (cond (target == pid) (if_accepted (answer_of a.reply) spared m) m) q
  control-modes target is =
      open-modes target 0 file.Ctl WriteExcl is spared
      (λ same place given. elim (open-opens s k target 0 file.Ctl WriteExcl a (answer-is _ is)) [
        | inl refused ↦ absurd (refusal-not refused.errno (ap answer_of (sym refused.reply ∙ given)
            ∙ handle-accepted place))
        | inr opened ↦ elim (cases_Bool (has_writer pid s.opens)) [
          | inl written ↦ absurd (not-allowed s target (ap (λ n. has_writer n s.opens) same ∙ written) opened.allowed)
          | inr alone ↦
              let was =
              found-live s.system pid q
              (ap (λ x. live_process x pid) (sym (open-stays s k target 0 file.Ctl WriteExcl a (answer-is _ is)))
              ∙ now) in
              let its : IsReleased s.opens (pid, q) =
              All-under (IsReleased s.opens) pid q s.system.processes lawful.released was.0 in
              its.no_kill was.1 alone
        ]
      ])

  -- ---- a close

  close-modes : (other : ℕ) → call.Close other ≡ c → HasModes m q
  close-modes other is = elim (close-closes s k other a (answer-is _ is)) [
    | inl none ↦
        let was : handle_of s.opens k number ≡ Some g = sym (ap (λ x. handle_of x k number) none.is) ∙ there in
        missed was (λ x h named held writes same.
        let at : other ≡ x = eqb-true other x (ap (λ (y : Call). names y x) is ∙ named) in
        none-some h (sym none.none ∙ ap (handle_of s.opens k) at ∙ held))
    | inr one ↦ by one.0 one.1.held one.1.is (cases_eq other number)
  ]
    where
      by : (h : Held) → handle_of s.opens k other ≡ Some h → a.state.opens ≡ slice_set s.opens other None
          → (other ≡ number) ⊎ (other ≢ number) → HasModes m q
      by h held closed (inl same) =
          absurd (none-some g (sym (own-set s.opens k other None (Some h) (handle-at s.opens k other h held))
          ∙ ap (handle_of (slice_set s.opens other None) k) same ∙ sym (ap (λ x. handle_of x k number) closed)
          ∙ there))
      by h held closed (inr apart) =
          let was : handle_of s.opens k number ≡ Some g =
          sym (ap (λ x. handle_of x k number) closed ∙ own-other s.opens k other number None apart) ∙ there in
          missed was (λ x i named its writes mine.
          let at : other ≡ x = eqb-true other x (ap (λ (y : Call). names y x) is ∙ named) in
          apart (at ∙ only-writer k pid s number x g i lawful was (mode was) of its writes mine))

  -- ---- every stage

  its-file : (place : ℕ) → stage_place t.stage ≡ Some place
      → handle_of s.opens k (traced_at t place).control ≡ Some (held_by k (traced_at t place).pid 0 file.Ctl WriteExcl)
  its-file place at = let f = uses.stage-control k t s files owns.fits place at in let own = f.1 in own.is

  stage-modes : (stage : Stage) → t.stage ≡ stage → call_of t stage ≡ Some c
      → HasModes (modes_next pid t a.reply m stage) q
  unfolding call_of opening_call child_call freeing_call
  stage-modes (Spawning program) at is = plain _ (same_Some _ c is) refl (λ other. refl)
  stage-modes (OpeningControl target) at is = control-modes target (same_Some _ c is)
  stage-modes (Opening place opening.OpenStatus) at is = open-plain _ 0 file.Status _ (same_Some _ c is) refl
  stage-modes (Opening place opening.OpenLstatus) at is = open-plain _ 0 file.Lstatus _ (same_Some _ c is) refl
  stage-modes (Opening place opening.OpenMemory) at is = open-plain _ 0 file.Mem _ (same_Some _ c is) refl
  stage-modes (Opening place opening.ClearModes) at is =
      clear-goes _ _ (its-file place (ap stage_place at)) (same_Some _ c is)
  stage-modes (Opening place opening.SetRelease) at is =
      release-goes _ _ (its-file place (ap stage_place at)) (same_Some _ c is)
  stage-modes (Opening place opening.Stop) at is =
      let held = its-file place (ap stage_place at) in
      ctl-plain _ _ _ (same_Some _ c is) held
      (λ p live then_. stop-keep s k _ _ held refl p q live a then_ (answer-is _ (same_Some _ c is)))
  stage-modes (Opening place (opening.AwaitStop until)) at is = plain _ (same_Some _ c is) refl (λ other. refl)
  stage-modes (Opening place opening.ReadLwps) at is = plain _ (same_Some _ c is) refl (λ other. refl)
  stage-modes (Opening place opening.TraceSignals) at is =
      let held = its-file place (ap stage_place at) in
      ctl-plain _ _ _ (same_Some _ c is) held
      (λ p live then_. signals-keep s k _ _ held refl p q live a then_ t.options (answer-is _ (same_Some _ c is)))
  stage-modes (Opening place opening.TraceFaults) at is =
      let held = its-file place (ap stage_place at) in
      ctl-plain _ _ _ (same_Some _ c is) held
      (λ p live then_. faults-keep s k _ _ held refl p q live a then_ t.options (answer-is _ (same_Some _ c is)))
  stage-modes (Opening place opening.TraceEntries) at is =
      let held = its-file place (ap stage_place at) in
      ctl-plain _ _ _ (same_Some _ c is) held
      (λ p live then_. entries-keep s k _ _ held refl p q live a then_ t.options (answer-is _ (same_Some _ c is)))
  stage-modes (Opening place opening.TraceExits) at is =
      let held = its-file place (ap stage_place at) in
      ctl-plain _ _ _ (same_Some _ c is) held
      (λ p live then_. exits-keep s k _ _ held refl p q live a then_ t.options (answer-is _ (same_Some _ c is)))
  stage-modes (Opening place opening.Follow) at is =
      let held = its-file place (ap stage_place at) in
      ctl-plain _ _ _ (same_Some _ c is) held
      (λ p live then_. follow-keep s k _ _ held refl p q live a then_ (answer-is _ (same_Some _ c is)))
  stage-modes (Opening place opening.Start) at is =
      let held = its-file place (ap stage_place at) in
      ctl-plain _ _ _ (same_Some _ c is) held
      (λ p live then_. run-keep s k _ _ held refl p q live a then_ (answer-is _ (same_Some _ c is)))
  stage-modes Polling at is = plain _ (same_Some _ c is) refl (λ other. refl)
  stage-modes (ReadingStatus place) at is = plain _ (same_Some _ c is) refl (λ other. refl)
  stage-modes (ReadingText place l from len) at is = plain _ (same_Some _ c is) refl (λ other. refl)
  stage-modes (OpeningChildControl parent target) at is = control-modes target (same_Some _ c is)
  stage-modes (OpeningChild parent place child.SetRelease) at is =
      release-goes _ _ (its-file place (ap stage_place at)) (same_Some _ c is)
  stage-modes (OpeningChild parent place child.OpenStatus) at is = open-plain _ 0 file.Status _ (same_Some _ c is) refl
  stage-modes (OpeningChild parent place child.OpenLstatus) at is =
      open-plain _ 0 file.Lstatus _ (same_Some _ c is) refl
  stage-modes (OpeningChild parent place child.OpenMemory) at is = open-plain _ 0 file.Mem _ (same_Some _ c is) refl
  stage-modes (OpeningChild parent place child.Start) at is =
      let held = its-file place (ap stage_place at) in
      ctl-plain _ _ _ (same_Some _ c is) held
      (λ p live then_. run-keep s k _ _ held refl p q live a then_ (answer-is _ (same_Some _ c is)))
  stage-modes (Running place) at is =
      let held = its-file place (ap stage_place at) in
      ctl-plain _ _ _ (same_Some _ c is) held
      (λ p live then_. run-keep s k _ _ held refl p q live a then_ (answer-is _ (same_Some _ c is)))
  stage-modes (Closing place after_it) at is = close-modes _ (same_Some _ c is)
  stage-modes Unfollowing at is =
      let held = its-file 0 (ap stage_place at) in
      ctl-plain _ _ _ (same_Some _ c is) held
      (λ p live then_. unfollow-keep s k _ _ held refl p q live a then_ (answer-is _ (same_Some _ c is)))
  stage-modes ReadingLwps at is = plain _ (same_Some _ c is) refl (λ other. refl)
  stage-modes (FreeingChild target freeing.OpenControl) at is = control-modes target (same_Some _ c is)
  stage-modes (FreeingChild target (freeing.SetRelease cm)) at is =
      let f = uses.freed-file k t s files target cm (freeing.SetRelease cm) at refl in
      release-goes cm target f.is (same_Some _ c is)
  stage-modes (FreeingChild target (freeing.Close cm)) at is = close-modes _ (same_Some _ c is)
  stage-modes Finished at is = absurd (none-some c is)

  pub call-modes : HasModes (modes_next pid t a.reply m t.stage) q
  unfolding next_call_of
  call-modes = stage-modes t.stage refl next
