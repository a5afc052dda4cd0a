use Rattle.std.proofs.Common.{◌≡◌, ◌≢◌, ◌⊎◌, ◌==◌, ◌<◌, ℕ, Bool, true, false, cond, Option, Some, None, List, [], ◌∷◌, length, refl, sym, subst, ap, ◌∙◌, arith, inl, inr}
use Rattle.std.proofs.lemmas.Bool.{cases_Bool, cases_eq, eqb-false, eqb-true, false≢true}
use Rattle.std.proofs.lemmas.Option.{none-some}
use Rattle.std.specs.List.{cons_option, slice_get}
use Rattle.pr_lawful.proofs.ProcessParts.HandleLemmas.{handle-at}
use Rattle.pr_lawful.proofs.LawfulStates.HistoryLemmas.{history-state}
use Rattle.pr_line.specs.declared.options.Options.{Options}
use Rattle.pr_model.specs.Calls.{Answer, answer_to}
use Rattle.pr_model.specs.Handles.{handle_of}
use Rattle.pr_model.specs.Lawful.{IsLawful}
use Rattle.pr_model.specs.Legal.{IsLegalEntry, after, after_call, after_turn}
use Rattle.pr_model.specs.LwpTurns.{LwpTurn, turn_of}
use Rattle.pr_model.specs.Replies.{opened_in}
use Rattle.pr_model.specs.State.{Places, TracedState}
use Rattle.pr_model.specs.declared.calls.Call.{Call}
use Rattle.pr_model.specs.declared.calls.Call.TheVariants as call
use Rattle.pr_model.specs.declared.calls.File.{File}
use Rattle.pr_model.specs.declared.calls.Mode.{Mode}
use Rattle.pr_model.specs.declared.calls.Reply.{Reply}
use Rattle.pr_model.specs.declared.calls.Reply.TheVariants as reply
use Rattle.pr_model.specs.declared.events.Act.{Act}
use Rattle.pr_model.specs.declared.events.Act.TheVariants as act
use Rattle.pr_model.specs.declared.events.Actor.{Actor}
use Rattle.pr_model.specs.declared.events.Actor.TheVariants.{Controller, Lwp, Clock}
use Rattle.pr_model.specs.declared.events.Entry.{Entry}
use Rattle.pr_model.specs.declared.handles.Held.{Held}
use Rattle.pr_num.specs.declared.errnos.Errno.{Errno}
use Rattle.pr_num.specs.declared.errnos.Errno.TheVariants.{Intr}
use Rattle.pr_truss.specs.Feeding.{fed}
use Rattle.pr_truss.specs.NextCalls.{next_call_of}
use Rattle.pr_truss.specs.Replies.{answer_of, refusal_of}
use Rattle.pr_truss.specs.Trusses.{TrussState, first_of_program, first_truss, idle, opening_or, traced_at}
use Rattle.pr_truss.specs.declared.processes.Traced.{Traced}
use Rattle.pr_truss.specs.declared.replies.Answer.{Answer as Answered}
use Rattle.pr_truss.specs.declared.replies.Answer.TheVariants.{Accepted, Interrupted, Gone, Refused}
use Rattle.pr_truss_laws.proofs.Files.OpensLemmas.{ClosesOne, Opens, close-closes, foreign-call, held_by, open-opens, own-free, own-mine, own-other, own-set, plain-leaves}
use Rattle.pr_truss_laws.proofs.Files.OwnLemmas.{Owns, call-owns, history-owns}
use Rattle.pr_truss_laws.specs.Exchanges.{Exchange, Makes, exchange_in, exchange_of, exchanges, truss_after}
use Rattle.pr_report_laws.proofs.Files.FedFiles.{fed-keeps}
use Rattle.pr_report_laws.proofs.Files.FileLaws.{FileOf, HasFiles, IsFileOf, control-in, each-has, has-each, lstatus-in, memory-in, remembered, remembered-freed, same-files, stands-once, status-in}
use Rattle.pr_report_laws.proofs.Files.KeepLemmas.{FilesAre, FreedIs, Grants, IsCalm, Keeps, can_wait, freed-weaker}
use Rattle.pr_report_laws.proofs.Invariant.StandLemmas.{Each, Rests, Stands}
use Rattle.pr_report_laws.specs.Watching.{fed_by_entry, with_exchange}

-- Each entry of a history keeps it that the handles of truss are those of the files that it opened them for.

-- ---- the first state

-- truss that has opened nothing yet
record IsIdle (t : TrussState) : Type 1 where
  traced : t.traced ≡ []
  stands : Stands t.traced t.leaving t.stage
  freed : (P : ℕ → File → Mode → ℕ → Type 0) → FreedIs P t.stage

empty-each : (P : Traced → Type 0) → Each P []
empty-each P place within = absurd (omega arith)

no-pid-idle : (o : Options) (p : Option ℕ) → IsIdle (opening_or (idle o) (idle o) p)
no-pid-idle o None = record {
  traced = refl;
  stands = record { leaves = tt; rests = empty-each (Rests false); at = tt };
  freed = λ P. tt;
}
no-pid-idle o (Some pid) = record {
  traced = refl;
  stands = record { leaves = refl; rests = empty-each (Rests false); at = tt };
  freed = λ P. tt;
}

program-idle : (o : Options) (p : Option (List ℕ)) → IsIdle (first_of_program o p)
program-idle o None = no-pid-idle o (slice_get o.pids 0)
program-idle o (Some program) = record {
  traced = refl;
  stands = record { leaves = refl; rests = empty-each (Rests false); at = tt };
  freed = λ P. tt;
}

first-idle : (o : Options) → IsIdle (first_truss o)
unfolding first_truss
first-idle o = program-idle o o.program

idle-files : (k : ℕ) (t : TrussState) (s : TracedState) → IsIdle t → HasFiles k t s
idle-files k t s i =
    each-has k t s (subst (Each (FilesAre (FileOf k s))) (sym i.traced) (empty-each (FilesAre (FileOf k s))))
    (λ place within. absurd (nowhere place within)) i.stands (i.freed (FileOf k s))
  where
    nowhere : (place : ℕ) → place < length t.traced → ⊥
    nowhere place within = omega (arith, ap (λ (ts : List Traced). length ts) i.traced)

pub first-files : (k : ℕ) (o : Options) (s : TracedState) → HasFiles k (first_truss o) s
first-files k o s = idle-files k (first_truss o) s (first-idle o)

-- ---- replies

-- the calls of a controller that do not wait are not interrupted
pub record IsUninterrupted (k : ℕ) (s : TracedState) : Type 0 where
  pub calm : (c : Call) (a : Answer) → can_wait c ≡ false → answer_to s k c ≡ Some a → answer_of a.reply ≢ Interrupted

pub calm-call : (a : Answered) (c : Call) → (can_wait c ≡ false → a ≢ Interrupted) → IsCalm a (Some c)
calm-call Accepted c calm = tt
calm-call Interrupted c calm = elim (cases_Bool (can_wait c)) [ inl waits ↦ waits | inr not ↦ absurd (calm not refl) ]
calm-call Gone c calm = tt
calm-call (Refused errno) c calm = tt

-- ---- the handles of truss before a call and after it

-- a handle that is open in both states stands for the same file
abbrev pub StaysOpen : ℕ → TracedState → TracedState → Type 0
StaysOpen k s u =
    (n : ℕ) (x g : Held) → handle_of s.opens k n ≡ Some x → handle_of u.opens k n ≡ Some g
    → handle_of u.opens k n ≡ Some x

same-open : (k : ℕ) (s u : TracedState) → u.opens ≡ s.opens → StaysOpen k s u
same-open k s u same n x g before now = ap (λ (p : Places). handle_of p k n) same ∙ before

new-open : (k : ℕ) (s u : TracedState) (h : Held) (r : Reply) → Opens s k h r u.opens → StaysOpen k s u
new-open k s u h r new n x g before now = elim (cases_eq new.place n) [
  | inl same ↦ absurd
      (none-some x (sym (subst (λ m. handle_of s.opens k m ≡ None) same (own-free s.opens k new.place new.free))
      ∙ before))
  | inr apart ↦ ap (λ (p : Places). handle_of p k n) new.is ∙ own-other s.opens k new.place n (Some h) apart ∙ before
]

closed-open : (k : ℕ) (s : TracedState) (number : ℕ) (h : Held) (a : Answer) → ClosesOne s k number h a
    → StaysOpen k s a.state
closed-open k s number h a one n x g before now = elim (cases_eq number n) [
  | inl same ↦ absurd (none-some g (sym (subst (λ m. handle_of a.state.opens k m ≡ None) same gone) ∙ now))
  | inr apart ↦ ap (λ (p : Places). handle_of p k n) one.is ∙ own-other s.opens k number n None apart ∙ before
]
  where
    gone : handle_of a.state.opens k number ≡ None
    gone =
        ap (λ (p : Places). handle_of p k number) one.is
        ∙ own-set s.opens k number None (Some h) (handle-at s.opens k number h one.held)

call-open : (k : ℕ) (s : TracedState) (c : Call) (a : Answer) → answer_to s k c ≡ Some a → StaysOpen k s a.state
call-open k s (call.Open pid id f mode) a is =
    elim (open-opens s k pid id f mode a is) [
      | inl ref ↦ same-open k s a.state ref.is
      | inr new ↦ new-open k s a.state
          (held_by k pid id f mode) a.reply new
    ]
call-open k s (call.Close number) a is =
    elim (close-closes s k number a is) [
      | inl none ↦ same-open k s a.state none.is
      | inr one ↦ closed-open k s number
          one.0 a one.1
    ]
call-open k s c a is = same-open k s a.state (plain-leaves s k c a refl is)

-- ---- what an open was granted

abbrev opens_none : Call → Bool
opens_none (call.Open pid id f mode) = false
opens_none _ = true

module _ (P : ℕ → File → Mode → ℕ → Type 0) where
  plain-grants : (a : Answered) (r : Reply) (c : Call) → opens_none c ≡ true → Grants P a r (Some c)
  plain-grants Accepted r (call.Open pid id f mode) none = absurd (false≢true none)
  plain-grants _ r c none = tt

  refusal-grants : (e : Errno) (r : Reply) (c : Call) → Grants P (refusal_of e) r (Some c)
  refusal-grants Intr r c = tt
  refusal-grants _ r c = tt

  fail-grants : (e : Errno) (c : Call) → Grants P (answer_of (reply.Fail e)) (reply.Fail e) (Some c)
  unfolding answer_of
  fail-grants e c = refusal-grants e (reply.Fail e) c

  handle-grants : (place pid id : ℕ) (f : File) (mode : Mode) → (id ≡ 0 → P pid f mode place)
      → Grants P (answer_of (reply.Handle place)) (reply.Handle place) (Some (call.Open pid id f mode))
  unfolding answer_of opened_in
  handle-grants place pid id f mode p = p

-- ---- one call of truss

module _ (k : ℕ) (t : TrussState) (s : TracedState) (c : Call) (a : Answer) (next : next_call_of t ≡ Some c)
    (answer : answer_to s k c ≡ Some a) (o : Owns k t s) (h : HasFiles k t s) where
  -- each file was there before the call, or is there after it
  abbrev EitherFile : ℕ → File → Mode → ℕ → Type 0
  EitherFile pid f mode n = IsFileOf k s pid n f mode ⊎ IsFileOf k a.state pid n f mode

  opened-file : (pid id : ℕ) (f : File) (mode : Mode)
      → (new : Opens s k (held_by k pid id f mode) a.reply a.state.opens) → id ≡ 0 → EitherFile pid f mode new.place
  opened-file pid id f mode new none =
      inr (record {
        is = ap (λ (p : Places). handle_of p k new.place) new.is
            ∙ own-set s.opens k new.place (Some (held_by k pid id f mode)) None new.free
            ∙ own-mine k (held_by k pid id f mode) refl ∙ ap (λ n. Some (held_by k pid n f mode)) none;
      })

  open-grants : (pid id : ℕ) (f : File) (mode : Mode) → answer_to s k (call.Open pid id f mode) ≡ Some a
      → Grants EitherFile (answer_of a.reply) a.reply (Some (call.Open pid id f mode))
  open-grants pid id f mode is = elim (open-opens s k pid id f mode a is) [
    | inl ref ↦ subst (λ r. Grants EitherFile (answer_of r) r (Some (call.Open pid id f mode))) (sym ref.reply)
        (fail-grants EitherFile ref.errno (call.Open pid id f mode))
    | inr new ↦ subst (λ r. Grants EitherFile (answer_of r) r (Some (call.Open pid id f mode))) (sym new.reply)
        (handle-grants EitherFile new.place pid id f mode (opened-file pid id f mode new))
  ]

  call-grants : (d : Call) → answer_to s k d ≡ Some a → Grants EitherFile (answer_of a.reply) a.reply (Some d)
  call-grants (call.Open pid id f mode) is = open-grants pid id f mode is
  call-grants d is = plain-grants EitherFile (answer_of a.reply) a.reply d refl

  call-keeps : IsUninterrupted k s → Keeps EitherFile (fed t a.reply)
  call-keeps u =
      let files : Each (FilesAre EitherFile) t.traced =
      λ place within. let f =
      has-each k t s h place within in record {
        control = inl f.control;
        status = λ n is. inl (f.status n is);
        lstatus = λ n is. inl (f.lstatus n is);
        memory = λ n is. inl (f.memory n is);
      } in
      fed-keeps EitherFile t a.reply o.fits files h.stands
      (freed-weaker (FileOf k s) EitherFile t.stage (λ pid control once f. inl f) h.freed)
      (subst (Grants EitherFile (answer_of a.reply) a.reply) (sym next) (call-grants c answer))
      (subst (IsCalm (answer_of a.reply)) (sym next)
      (calm-call (answer_of a.reply) c (λ not. u.calm c a not answer)))

  -- what truss remembers is still open
  now-file : (pid n : ℕ) (f : File) (mode : Mode) → EitherFile pid f mode n
      → (g : Held) × (handle_of a.state.opens k n ≡ Some g) → IsFileOf k a.state pid n f mode
  now-file pid n f mode (inl before) still =
      record { is = call-open k s c a answer n (held_by k pid 0 f mode) still.0 before.is still.1 }
  now-file pid n f mode (inr now) still = now

  now-each : Each (FilesAre EitherFile) (fed t a.reply).traced
      → Each (FilesAre (FileOf k a.state)) (fed t a.reply).traced
  now-each files place within =
      let v : Traced = traced_at (fed t a.reply) place in
      let f : FilesAre EitherFile v = files place within in
      let owns : Owns k (fed t a.reply) a.state = call-owns k t s o c a next answer in
      record {
        control =
            now-file v.pid v.control _ _ f.control
            (remembered k (fed t a.reply) a.state owns place v.control within (control-in v));
        status =
            λ n is. now-file v.pid n _ _ (f.status n is)
            (remembered k (fed t a.reply) a.state owns place n within (status-in v n is));
        lstatus =
            λ n is. now-file v.pid n _ _ (f.lstatus n is)
            (remembered k (fed t a.reply) a.state owns place n within (lstatus-in v n is));
        memory =
            λ n is. now-file v.pid n _ _ (f.memory n is)
            (remembered k (fed t a.reply) a.state owns place n within (memory-in v n is));
      }

  pub call-files : IsUninterrupted k s → IsLawful a.state → HasFiles k (fed t a.reply) a.state
  call-files u lawful =
      let keeps = call-keeps u in
      let files = now-each keeps.files in
      let owns : Owns k (fed t a.reply) a.state = call-owns k t s o c a next answer in
      let freed : FreedIs (FileOf k a.state) (fed t a.reply).stage =
      freed-weaker EitherFile (FileOf k a.state) (fed t a.reply).stage
      (λ pid control once f. now-file pid control _ _ f
      (remembered-freed k (fed t a.reply) a.state owns pid control once)) keeps.freed in
      each-has k (fed t a.reply) a.state files
      (stands-once k (fed t a.reply) a.state owns lawful.exclusive files) keeps.stands freed

-- ---- one entry of a history

-- the exchange of an entry, if it has one, is of the call that truss makes next
abbrev pub MakesNext : TrussState → Option Exchange → Type 0
MakesNext t None = Unit {0}
MakesNext t (Some x) = next_call_of t ≡ Some x.call

makes-first : (t : TrussState) (x : Option Exchange) (xs : List Exchange) → Makes t (cons_option x xs)
    → MakesNext t x × Makes (with_exchange t x) xs
makes-first t None xs makes = (tt, makes)
makes-first t (Some x) xs makes = makes

-- the first entry of a history, and the others
pub makes-next : (k : ℕ) (t : TrussState) (e : Entry) (h : List Entry) → Makes t (exchanges k (e ∷ h))
    → MakesNext t (exchange_of k e) × Makes (fed_by_entry k t e) (exchanges k h)
unfolding exchanges
makes-next k t e h makes = makes-first t (exchange_of k e) (exchanges k h) makes

first-makes : (t : TrussState) (x : Option Exchange) (xs : List Exchange) → MakesNext t x
    → Makes (with_exchange t x) xs → Makes t (cons_option x xs)
first-makes t None xs next makes = makes
first-makes t (Some x) xs next makes = (next, makes)

first-after : (t : TrussState) (x : Option Exchange) → truss_after t (cons_option x []) ≡ with_exchange t x
first-after t None = refl
first-after t (Some x) = refl

-- truss has just the handles open that it remembers
pub entry-owns : (n k : ℕ) (t : TrussState) (s : TracedState) (e : Entry) → Owns k t s → IsLegalEntry n s e
    → MakesNext t (exchange_of k e) → Owns k (fed_by_entry k t e) (after s e)
unfolding exchanges
entry-owns n k t s e o legal next =
    subst (λ (u : TrussState). Owns k u (after s e)) (first-after t (exchange_of k e))
    (history-owns (e ∷ []) n k t s o (legal, tt) (first-makes t (exchange_of k e) [] next tt))

pub entry-lawful : (n : ℕ) (s : TracedState) (e : Entry) → IsLawful s → IsLegalEntry n s e → IsLawful (after s e)
entry-lawful n s e lawful legal = history-state n s (e ∷ []) lawful (legal, tt)

pub opens-turn : (s : TracedState) (t : Option LwpTurn) → (after_turn s t).opens ≡ s.opens
opens-turn s None = refl
opens-turn s (Some t) = refl

module _ (n k : ℕ) (t : TrussState) (s : TracedState) (lawful : IsLawful s) (calm : IsUninterrupted k s)
    (o : Owns k t s) (h : HasFiles k t s) where
  entry-stays : (u : TracedState) → ((m : ℕ) → handle_of u.opens k m ≡ handle_of s.opens k m) → HasFiles k t u
  entry-stays u same = same-files k t s u same h

  call-goes : (by : ℕ) (c : Call) (r : Reply) → IsLegalEntry n s (record { actor = Controller by; act = act.Call c r })
      → IsLawful (after s (record { actor = Controller by; act = act.Call c r })) → (mine : Bool) → (by == k) ≡ mine
      → MakesNext t (cond mine (Some (record { call = c; reply = r })) None)
      → HasFiles k (with_exchange t (cond mine (Some (record { call = c; reply = r })) None)) (after s (record {
        actor = Controller by;
        act = act.Call c r;
      }))
  unfolding IsLegalEntry after
  call-goes by c r legal later true is next =
      let a : Answer = record { state = legal.1.0; reply = r } in
      let answer : answer_to s k c ≡ Some a = subst (λ x. answer_to s x c ≡ Some a) (eqb-true by k is) legal.1.1 in
      let its : IsLawful a.state = subst (λ x. IsLawful (after_call s x)) legal.1.1 later in
      subst (λ x. HasFiles k (fed t r) (after_call s x)) (sym legal.1.1) (call-files k t s c a next answer o h calm its)
  call-goes by c r legal later false is next =
      let a : Answer = record { state = legal.1.0; reply = r } in
      entry-stays (after_call s (answer_to s by c)) (λ m. ap (λ x. handle_of (after_call s x).opens k m) legal.1.1
      ∙ foreign-call s by k c a (eqb-false by k is) legal.1.1 m)

  actor-goes : (actor : Actor) (did : Act) → IsLegalEntry n s (record { actor = actor; act = did })
      → IsLawful (after s (record { actor = actor; act = did })) → MakesNext t (exchange_in k actor did)
      → HasFiles k (with_exchange t (exchange_in k actor did)) (after s (record { actor = actor; act = did }))
  unfolding IsLegalEntry after
  actor-goes (Controller by) (act.Call c r) legal later next = call-goes by c r legal later (by == k) refl next
  actor-goes (Controller by) (act.Turn did) legal later next = absurd legal
  actor-goes (Controller by) (act.Tick moment) legal later next = absurd legal
  actor-goes (Lwp p l) (act.Turn did) legal later next =
      entry-stays (after_turn s (turn_of s.system p l))
      (λ m. ap (λ x. handle_of x k m) (opens-turn s (turn_of s.system p l)))
  actor-goes (Lwp p l) (act.Call c r) legal later next = absurd legal
  actor-goes (Lwp p l) (act.Tick moment) legal later next = absurd legal
  actor-goes Clock (act.Tick moment) legal later next = entry-stays _ (λ m. refl)
  actor-goes Clock (act.Call c r) legal later next = absurd legal
  actor-goes Clock (act.Turn did) legal later next = absurd legal

  pub entry-files : (e : Entry) → IsLegalEntry n s e → MakesNext t (exchange_of k e)
      → HasFiles k (fed_by_entry k t e) (after s e)
  entry-files e legal next = actor-goes e.actor e.act legal (entry-lawful n s e lawful legal) next
