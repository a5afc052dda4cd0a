use Rattle.std.proofs.Common.{◌≡◌, ◌≢◌, ◌==◌, ◌&&◌, ◌||◌, ◌<◌, ℕ, Bool, true, false, cond, None, Some, Option, List, [], ◌∷◌, length, refl, sym, subst, ap, ◌∙◌, inl, inr}
use Rattle.std.proofs.lemmas.Bool.{and_parts, cases_Bool, eq-eqb, eqb-true, false≢true, or_parts}
use Rattle.std.proofs.lemmas.Option.{none-some, same_Some}
use Rattle.std.specs.List.{list_any, slice_get, slice_set}
use Rattle.pr_lawful.proofs.LawfulTurns.EndLemmas.{found-live}
use Rattle.pr_lawful.proofs.ProcessParts.HandleLemmas.{any-at, any-swap, handle-at}
use Rattle.pr_line.specs.declared.options.Options.{Options}
use Rattle.pr_model.specs.Calls.{Answer, answer_to}
use Rattle.pr_model.specs.Handles.{after_last_close, has_writer, is_writable, is_writer, was_last_writer, with_closed, with_last_close}
use Rattle.pr_model.specs.Lawful.{IsLawful}
use Rattle.pr_model.specs.Legal.{IsLegalEntry, after}
use Rattle.pr_model.specs.LwpTurns.{LwpTurn, turn_of}
use Rattle.pr_model.specs.State.{Places, TracedControl, TracedProcess, TracedState, live_process}
use Rattle.pr_model.specs.declared.calls.Call.{Call}
use Rattle.pr_model.specs.declared.calls.Call.TheVariants as call
use Rattle.pr_model.specs.declared.calls.File.{File}
use Rattle.pr_model.specs.declared.calls.File.TheVariants.{Ctl}
use Rattle.pr_model.specs.declared.calls.Mode.{Mode}
use Rattle.pr_model.specs.declared.calls.Mode.TheVariants.{WriteExcl}
use Rattle.pr_model.specs.declared.calls.Reply.TheVariants as reply
use Rattle.pr_model.specs.declared.events.Act.{Act}
use Rattle.pr_model.specs.declared.events.Act.TheVariants as act
use Rattle.pr_model.specs.declared.events.Actor.{Actor}
use Rattle.pr_model.specs.declared.events.Actor.TheVariants.{Controller, Lwp, Clock}
use Rattle.pr_model.specs.declared.events.Entry.{Entry}
use Rattle.pr_model.specs.declared.handles.Held.{Held}
use Rattle.pr_num.specs.Control.{fork_mode, has_flags, klc_mode, rlc_mode}
use Rattle.pr_truss.specs.Trusses.{TrussState, traced_at}
use Rattle.pr_truss.specs.declared.stages.AfterClosing.TheVariants.{OpenNext}
use Rattle.pr_truss.specs.declared.stages.OpeningStep.TheVariants as opening
use Rattle.pr_truss.specs.declared.stages.Stage.{Stage}
use Rattle.pr_truss.specs.declared.stages.Stage.TheVariants.{Closing, Opening, OpeningChildControl}
use Rattle.pr_truss_laws.proofs.Machine.ForeignLemmas.{call-passes}
use Rattle.pr_truss_laws.proofs.Machine.FrameLemmas.{undisturbed-self}
use Rattle.pr_truss_laws.proofs.Files.OpensLemmas.{close-closes, held_by, open-opens, plain-leaves}
use Rattle.pr_truss_laws.specs.Stills.{IsUndisturbed}
use Rattle.pr_truss_laws.proofs.Machine.StillLemmas.{frozen-turns}
use Rattle.pr_truss_laws.proofs.Machine.OutlastLemmas.{Outlasts, killed, lives, others-turn, outlasts, ticked-live}
use Rattle.pr_report_laws.proofs.Machine.FrameLaws.{alone-birth, alone-control}
use Rattle.pr_truss_laws.proofs.Machine.OverLemmas.{stays-over}
use Rattle.pr_report_laws.specs.Births.{granted}
use Rattle.pr_report_laws.specs.Lineages.{IsNamed, WasHad}
use Rattle.pr_report_laws.proofs.Invariant.Positions.{IsAtBirth}
use Rattle.pr_report_laws.proofs.UnopenedChildren.LeftChildren.{OpensAsChild, opens-now, opens-on, had-on}
use Rattle.pr_report_laws.specs.Watching.{fed_by_entry}

-- A child of a fork that nobody has open for writing stands at its birth.

-- ---- what is said of it

-- In the rest of a history nobody has had a process before truss opens it as a child.
pub record IsLeftTo (k : ℕ) (o : Options) (c : ℕ) (t : TrussState) (h : List Entry) : Type 0 where
  pub each : (w : OpensAsChild k c t h) → WasHad k o c w.front → ⊥

pub left-later : (k : ℕ) (o : Options) (c : ℕ) (t : TrussState) (e : Entry) (h : List Entry) → IsLeftTo k o c t (e ∷ h)
    → IsLeftTo k o c (fed_by_entry k t e) h
left-later k o c t e h left = record {
  each = λ w had. left.each (opens-on k c t e h w) (had-on k o c e w.front had);
}

-- truss never opens a process as a child in the rest of a history
pub record IsNeverGranted (k c : ℕ) (t : TrussState) (h : List Entry) : Type 0 where
  pub none : OpensAsChild k c t h → ⊥

pub never-later : (k c : ℕ) (t : TrussState) (e : Entry) (h : List Entry) → IsNeverGranted k c t (e ∷ h)
    → IsNeverGranted k c (fed_by_entry k t e) h
never-later k c t e h never = record { none = λ w. never.none (opens-on k c t e h w) }

-- it stands at its birth, its own children are to be followed too, and its last close leaves it as it is
pub record IsNew (o : Options) (p : TracedProcess) : Type 0 where
  pub birth : IsAtBirth o p
  pub follows : has_flags p.control.modes fork_mode ≡ true
  pub kept : has_flags p.control.modes rlc_mode ≡ false

pub new-alone : (o : Options) (p q : TracedProcess) → IsUndisturbed p q → IsNew o p → IsNew o q
new-alone o p q alone was = record {
  birth = alone-birth p q alone o was.birth;
  follows = ap (λ (x : TracedControl). has_flags x.modes fork_mode) (alone-control p q alone) ∙ was.follows;
  kept = ap (λ (x : TracedControl). has_flags x.modes rlc_mode) (alone-control p q alone) ∙ was.kept;
}

-- While the process lives it stands at its birth, nobody has it open for writing, and the rest of the history leaves it
-- to truss.
pub record IsUntouched (k : ℕ) (o : Options) (t : TrussState) (s : TracedState) (h : List Entry) (c : ℕ)
    : Type 0 where
  pub alone : has_writer c s.opens ≡ false
  pub born : (p : TracedProcess) → live_process s.system c ≡ Some p → IsNew o p
  pub left : IsLeftTo k o c t h

-- the place of the process of which truss opens the files, or closes those that it has opened
abbrev pub begun_at : Stage → Option ℕ
begun_at (Opening at opening.OpenStatus) = Some at
begun_at (Opening at opening.OpenLstatus) = Some at
begun_at (Opening at opening.OpenMemory) = Some at
begun_at (Closing at OpenNext) = Some at
begun_at _ = None

-- Truss opens it by its id, and has not come behind the opens of its files: as long as it lives it stands at its birth.
pub record IsBegun (k : ℕ) (o : Options) (t : TrussState) (s : TracedState) (h : List Entry) (c : ℕ) : Type 0 where
  pub place : ℕ
  pub within : place < length t.traced
  pub at : begun_at t.stage ≡ Some place
  pub of : (traced_at t place).pid ≡ c
  pub named : IsNamed o c
  pub born : (p : TracedProcess) → live_process s.system c ≡ Some p → IsNew o p
  pub left : IsLeftTo k o c t h

-- It stands at its birth, and nobody has it open for writing but truss in the opens of its files; or truss never opens
-- it as a child.
pub data Stands (k : ℕ) (o : Options) (t : TrussState) (s : TracedState) (h : List Entry) (c : ℕ) : Type 0 where
  stands_new : IsUntouched k o t s h c → Stands k o t s h c
  is_begun : IsBegun k o t s h c → Stands k o t s h c
  is_never : IsNeverGranted k c t h → Stands k o t s h c

-- a process that was made, and stands so
pub record IsNewBorn (k : ℕ) (o : Options) (t : TrussState) (s : TracedState) (h : List Entry) (c : ℕ) : Type 0 where
  pub made : c < s.system.made
  pub now : Stands k o t s h c

-- where truss opens it now, it stands at its birth
pub untouched-now : (k : ℕ) (o : Options) (t : TrussState) (s : TracedState) (h : List Entry) (c place control : ℕ)
    (e : Entry) → e ≡ granted k c 0 Ctl WriteExcl control → t.stage ≡ OpeningChildControl place c
    → IsNewBorn k o t s (e ∷ h) c → IsUntouched k o t s (e ∷ h) c
untouched-now k o t s h c place control e is at new = elim new.now [
  | stands_new untouched ↦ untouched
  | is_begun begun ↦ absurd (none-some begun.place (ap begun_at (sym at) ∙ begun.at))
  | is_never never ↦ absurd (never.none (opens-now k c place control t e h is at))
]

-- ---- its last close

-- the close of a process under neither PR_KLC nor PR_RLC leaves the system
pub closed-plain : (s : TracedState) (g : Held) (number : ℕ)
    → ((p : TracedProcess) → live_process s.system g.pid ≡ Some p
    → (has_flags p.control.modes klc_mode ≡ false) × (has_flags p.control.modes rlc_mode ≡ false))
    → (with_closed g number s).system ≡ s.system
unfolding with_closed with_last_close
closed-plain s g number plain =
    by (was_last_writer g (slice_set s.opens number None)) (live_process s.system g.pid) refl
  where
    by : (b : Bool) (x : Option TracedProcess) → live_process s.system g.pid ≡ x
        → cond b (after_last_close g.pid x s.system) s.system ≡ s.system
    by false x is = refl
    by true None is = refl
    by true (Some p) is = let w = plain p is in rw (w.0, w.1) refl

-- ---- nobody has it open for writing

module _ (c : ℕ) where
  -- a place that is no writer's is taken, or becomes free
  set-alone : (opens : Places) (i : ℕ) (x y : Option Held) → slice_get opens i ≡ Some x → is_writer c y ≡ false
      → has_writer c opens ≡ false → has_writer c (slice_set opens i y) ≡ false
  set-alone opens i x y at reads none =
      (or_parts (list_any (is_writer c) (slice_set opens i y)) (is_writer c x) (any-swap (is_writer c) opens i x y at
      ∙ ap (λ b. b || is_writer c y) none ∙ reads)).0

  module _ (s : TracedState) (by : ℕ) (a : Answer) (none : has_writer c s.opens ≡ false) where
    open-alone : (pid id : ℕ) (file : File) (mode : Mode) → answer_to s by (call.Open pid id file mode) ≡ Some a
        → ((handle : ℕ) → a.reply ≡ reply.Handle handle → pid ≡ c → is_writable mode ≡ true → ⊥)
        → has_writer c a.state.opens ≡ false
    open-alone pid id file mode is other = elim (open-opens s by pid id file mode a is) [
      | inl refused ↦ ap (has_writer c) refused.is ∙ none
      | inr new ↦ ap (has_writer c) new.is
          ∙ set-alone s.opens new.place None (Some (held_by by pid id file mode)) new.free
          (elim (cases_Bool (is_writer c (Some (held_by by pid id file mode)))) [
            | inl writes ↦ let both =
                and_parts (pid == c) (is_writable mode) writes in absurd
                (other new.place new.reply (eqb-true pid c both.0) both.1)
            | inr reads ↦ reads
          ]) none
    ]

    close-alone : (number : ℕ) → answer_to s by (call.Close number) ≡ Some a → has_writer c a.state.opens ≡ false
    close-alone number is = elim (close-closes s by number a is) [
      | inl nothing ↦ ap (has_writer c) nothing.is ∙ none
      | inr one ↦ let it =
          one.1 in ap (has_writer c) it.is
          ∙ set-alone s.opens number (Some one.0) None (handle-at s.opens by number one.0 it.held) refl none
    ]

    call-alone : (d : Call) → answer_to s by d ≡ Some a
        → ((lwp handle : ℕ) (file : File)
        (mode : Mode) → d ≡ call.Open c lwp file mode → a.reply ≡ reply.Handle handle → is_writable mode ≡ true
        → ⊥) → has_writer c a.state.opens ≡ false
    call-alone (call.Open pid id file mode) is other =
        open-alone pid id file mode is
        (λ handle granted same writes. other id handle file mode
        (ap (λ n. call.Open n id file mode) same) granted writes)
    call-alone (call.Close number) is other = close-alone number is
    call-alone d is other = ap (has_writer c) (plain-leaves s by d a refl is) ∙ none

  -- ---- what others do to it

  module _ (s : TracedState) (lawful : IsLawful s) (p : TracedProcess) (live : live_process s.system c ≡ Some p)
      (none : has_writer c s.opens ≡ false) where
    -- a call of a controller, which has no handle of it for writing
    call-outlasts : (by : ℕ) (d : Call) (a : Answer) → answer_to s by d ≡ Some a → Outlasts c p a.state.system
    call-outlasts by d a is =
        outlasts s.system a.state.system c p live
        (call-passes s by c lawful p (found-live s.system c p live).0 d a
        (λ number named g held writes same. false≢true (sym none
        ∙ any-at (is_writer c) s.opens number (Some g) (handle-at s.opens by number g held)
        (ap (λ b. b && is_writable g.mode) (eq-eqb g.pid c same) ∙ writes))) is)

    -- an entry that is no turn of its own
    pub alone-outlasts : (n : ℕ) (actor : Actor) (it : Act) → IsLegalEntry n s (record { actor = actor; act = it })
        → ((id : ℕ) → actor ≢ Lwp c id) → Outlasts c p (after s (record { actor = actor; act = it })).system
    unfolding IsLegalEntry after
    alone-outlasts n (Controller by) (act.Call d r) legal elsewhere =
        let a : Answer = record { state = legal.1.0; reply = r } in
        let answer : answer_to s by d ≡ Some a = legal.1.1 in
        rw answer (call-outlasts by d a answer)
    alone-outlasts n (Lwp pid id) (act.Turn turned) legal elsewhere =
        let t : LwpTurn = record { system = legal.0; turned = turned } in
        let taken : turn_of s.system pid id ≡ Some t = legal.1 in
        rw taken
        (others-turn s.system c pid id t p lawful.system live
        (λ same. elsewhere id (ap (λ m. Lwp m id) same)) taken)
    alone-outlasts n Clock (act.Tick moment) legal elsewhere = lives p (ticked-live s c ∙ live) (undisturbed-self p)
    alone-outlasts n _ _ legal elsewhere = absurd legal

-- ---- an entry of a history

module _ (n k : ℕ) (o : Options) (t : TrussState) (s : TracedState) (h : List Entry) (c : ℕ) where
  -- a frozen process has no turn
  new-still : (id : ℕ) (it : Act) (p : TracedProcess) → live_process s.system c ≡ Some p → IsNew o p
      → IsLegalEntry n s (record { actor = Lwp c id; act = it }) → ⊥
  unfolding IsLegalEntry
  new-still id (act.Turn turned) p live new legal =
      let t : LwpTurn = record { system = legal.0; turned = turned } in
      none-some t (sym (frozen-turns s.system c p live new.birth.waits.frozen id) ∙ legal.1)
  new-still id _ p live new legal = legal

  own-actor : (actor : Actor) (it : Act) (p : TracedProcess) → live_process s.system c ≡ Some p → IsNew o p
      → IsLegalEntry n s (record { actor = actor; act = it }) → (id : ℕ) → actor ≢ Lwp c id
  own-actor actor it p live new legal id same =
      new-still id it p live new (subst (λ x. IsLegalEntry n s (record { actor = x; act = it })) same legal)

  entry-alone : (actor : Actor) (it : Act) → IsLegalEntry n s (record { actor = actor; act = it })
      → has_writer c s.opens ≡ false
      → ((by lwp handle : ℕ) (file : File)
      (mode : Mode) → record { actor = actor; act = it } ≡ granted by c lwp file mode handle → is_writable mode ≡ true
      → ⊥) → has_writer c (after s (record { actor = actor; act = it })).opens ≡ false
  unfolding IsLegalEntry after
  entry-alone (Controller by) (act.Call d r) legal none other =
      let a : Answer = record { state = legal.1.0; reply = r } in
      let answer : answer_to s by d ≡ Some a = legal.1.1 in
      rw answer
      (call-alone c s by a none d answer
      (λ lwp handle file mode is gives. other by lwp handle file mode
      (ap (λ x. record { actor = Controller by; act = act.Call x r }) is
      ∙ ap (λ x. record {
        actor = Controller by;
        act = act.Call
            (call.Open c lwp file mode) x;
      }) gives)))
  entry-alone (Lwp pid id) (act.Turn turned) legal none other = rw legal.1 none
  entry-alone Clock (act.Tick moment) legal none other = none
  entry-alone _ _ legal none other = absurd legal

  module _ (e : Entry) (lawful : IsLawful s) (legal : IsLegalEntry n s e) (made : c < s.system.made)
      (new : IsUntouched k o t s (e ∷ h) c) where
    -- it is still new, if it lives
    pub new-on : (q : TracedProcess) → live_process (after s e).system c ≡ Some q → IsNew o q
    new-on q later = by (live_process s.system c) refl
      where
        left : (p : TracedProcess) → IsNew o p → Outlasts c p (after s e).system → IsNew o q
        left p was (lives r now alone) =
            let same : r ≡ q = same_Some r q (sym now ∙ later) in
            subst (IsNew o) same (new-alone o p r alone was)
        left p was (killed z none at status) = absurd (none-some q (sym none ∙ later))

        by : (x : Option TracedProcess) → live_process s.system c ≡ x → IsNew o q
        by None is = absurd (none-some q (sym (stays-over n s e c lawful legal made is) ∙ later))
        by (Some p) is =
            let was = new.born p is in
            left p was
            (alone-outlasts c s lawful p is new.alone n e.actor e.act legal
            (own-actor e.actor e.act p is was legal))

    -- An entry of another than truss leaves it so, or somebody opens it, and truss never opens it as a child then.
    pub untouched-on :
        ((lwp handle : ℕ) (file : File)
        (mode : Mode) → e ≡ granted k c lwp file mode handle → is_writable mode ≡ true → ⊥)
        → Stands k o (fed_by_entry k t e) (after s e) h c
    untouched-on own = elim (cases_Bool (has_writer c (after s e).opens)) [
      | inr none ↦ stands_new
          (record { alone = none; born = new-on; left = left-later k o c t e h new.left })
      | inl taken ↦ is_never (record {
        none = λ w.
            false≢true
            (sym (entry-alone e.actor e.act legal new.alone (λ by lwp handle file mode is writes.
            let left = new.left in left.each (opens-on k c t e h w) (record {
              before = [];
              by = by;
              lwp = lwp;
              file = file;
              mode = mode;
              handle = handle;
              later = w.front;
              is = ap (λ x. x ∷ w.front) is;
              who =
                  inl (
                    (λ same. own lwp handle file mode (is ∙ ap (λ b. granted b c lwp file mode handle) same) writes),
                    writes,
                  );
            }))) ∙ taken);
      })
    ]
