use Rattle.std.proofs.Common.{◌≡◌, ◌≢◌, ◌==◌, ◌&&◌, ◌≤◌, ◌+◌, ℕ, Bool, true, false, cond, None, Some, Option, List, [], ◌∷◌, refl, sym, subst, ap, ◌∙◌, arith, inl, inr}
use Rattle.std.proofs.lemmas.Bool.{cases_Bool, eqb-true, eqb-false, eq-eqb}
use Rattle.std.proofs.lemmas.Option.{same_Some, none-some}
use Rattle.std.specs.List.{cons_option, slice_get}
use Rattle.pr_lawful.proofs.ProcessParts.HandleLemmas.{handle-at}
use Rattle.pr_line.specs.declared.options.Options.{Options}
use Rattle.pr_model.specs.Calls.{Answer, answer_to}
use Rattle.pr_model.specs.Handles.{handle_of, is_control}
use Rattle.pr_model.specs.Legal.{IsLegal, IsLegalEntry, after, after_call, after_turn, state_after}
use Rattle.pr_model.specs.LwpTurns.{LwpTurn, turn_of}
use Rattle.pr_model.specs.Replies.{handle_in, opened_in}
use Rattle.pr_model.specs.State.{Places, TracedState}
use Rattle.pr_model.specs.declared.calls.Call.{Call}
use Rattle.pr_model.specs.declared.calls.Call.TheVariants as call
use Rattle.pr_model.specs.declared.calls.File.{File}
use Rattle.pr_model.specs.declared.calls.Mode.{Mode}
use Rattle.pr_model.specs.declared.calls.Mode.TheVariants.{WriteExcl}
use Rattle.pr_model.specs.declared.calls.Reply.{Reply}
use Rattle.pr_model.specs.declared.calls.Reply.TheVariants as reply
use Rattle.pr_model.specs.declared.events.Act.{Act}
use Rattle.pr_model.specs.declared.events.Act.TheVariants as act
use Rattle.pr_model.specs.declared.events.Actor.{Actor}
use Rattle.pr_model.specs.declared.events.Actor.TheVariants.{Controller, Lwp, Clock}
use Rattle.pr_model.specs.declared.events.Entry.{Entry}
use Rattle.pr_model.specs.declared.handles.Held.{Held}
use Rattle.pr_num.specs.declared.errnos.Errno.{Errno}
use Rattle.pr_num.specs.declared.errnos.Errno.TheVariants.{Intr}
use Rattle.pr_truss.specs.Feeding.{fed}
use Rattle.pr_truss.specs.NextCalls.{call_of, child_call, freeing_call, next_call_of, opening_call}
use Rattle.pr_truss.specs.Replies.{answer_of, refusal_of}
use Rattle.pr_truss.specs.Trusses.{TrussState, first_of_program, first_truss, idle, opening_or, traced_at}
use Rattle.pr_truss.specs.declared.processes.Traced.{Traced}
use Rattle.pr_truss.specs.declared.stages.ChildStep.{ChildStep}
use Rattle.pr_truss.specs.declared.stages.ChildStep.TheVariants as child
use Rattle.pr_truss.specs.declared.stages.FreeingStep.{FreeingStep}
use Rattle.pr_truss.specs.declared.stages.FreeingStep.TheVariants as freeing
use Rattle.pr_truss.specs.declared.stages.OpeningStep.{OpeningStep}
use Rattle.pr_truss.specs.declared.stages.OpeningStep.TheVariants as opening
use Rattle.pr_truss.specs.declared.stages.Stage.{Stage}
use Rattle.pr_truss.specs.declared.stages.Stage.TheVariants.{Spawning, OpeningControl, Opening, Polling, ReadingStatus, ReadingText, OpeningChildControl, OpeningChild, Running, Closing, Unfollowing, ReadingLwps, FreeingChild, Finished}
use Rattle.pr_truss_laws.proofs.Files.ClosesLemmas.{first-fits, nothing-held}
use Rattle.pr_truss_laws.proofs.Replies.FedLemmas.{Changes, Gives, fed-changes, gives}
use Rattle.pr_truss_laws.proofs.Replies.FitLemmas.{fed-fits}
use Rattle.pr_truss_laws.proofs.Files.HeldLemmas.{Fits, held, unit}
use Rattle.pr_truss_laws.proofs.Files.OpensLemmas.{ClosesOne, NotOpen, Opens, Refuses, close-closes, foreign-call, held_by, keeps_handles, open-opens, own-free, own-mine, own-other, own-set, plain-leaves}
use Rattle.pr_truss_laws.specs.Exchanges.{Ends, Exchange, Makes, exchange_in, exchange_of, exchanges, truss_after}
use Rattle.pr_truss_laws.specs.Handles.{HasNothingOpen}

-- Over a machine truss remembers just the handles that it has open.

-- ---- control files are opened exclusively

abbrev pub IsExclusive : File → Mode → Type 0
IsExclusive f mode = is_control f ≡ true → mode ≡ WriteExcl

abbrev pub OpensExclusively : Option Call → Type 0
OpensExclusively (Some (call.Open pid id f mode)) = IsExclusive f mode
OpensExclusively _ = Unit {0}

opening-excl : (o : Options) (t : Traced) (step : OpeningStep) → OpensExclusively (Some (opening_call o t step))
unfolding opening_call
opening-excl o t opening.OpenStatus = λ is. cc
opening-excl o t opening.OpenLstatus = λ is. cc
opening-excl o t opening.OpenMemory = λ is. cc
opening-excl o t _ = tt

child-excl : (t : Traced) (step : ChildStep) → OpensExclusively (Some (child_call t step))
unfolding child_call
child-excl t child.SetRelease = tt
child-excl t child.OpenStatus = λ is. cc
child-excl t child.OpenLstatus = λ is. cc
child-excl t child.OpenMemory = λ is. cc
child-excl t child.Start = tt

freeing-excl : (pid : ℕ) (step : FreeingStep) → OpensExclusively (Some (freeing_call pid step))
unfolding freeing_call
freeing-excl pid freeing.OpenControl = λ is. refl
freeing-excl pid (freeing.SetRelease control) = tt
freeing-excl pid (freeing.Close control) = tt

stage-excl : (s : TrussState) (stage : Stage) → OpensExclusively (call_of s stage)
unfolding call_of
stage-excl s (Spawning program) = tt
stage-excl s (OpeningControl pid) = λ is. refl
stage-excl s (Opening place step) = opening-excl s.options (traced_at s place) step
stage-excl s Polling = tt
stage-excl s (ReadingStatus place) = tt
stage-excl s (ReadingText place l from len) = tt
stage-excl s (OpeningChildControl parent pid) = λ is. refl
stage-excl s (OpeningChild parent place step) = child-excl (traced_at s place) step
stage-excl s (Running place) = tt
stage-excl s (Closing place next) = tt
stage-excl s Unfollowing = tt
stage-excl s ReadingLwps = tt
stage-excl s (FreeingChild pid step) = freeing-excl pid step
stage-excl s Finished = tt

next-excl : (s : TrussState) → OpensExclusively (next_call_of s)
unfolding next_call_of
next-excl s = stage-excl s s.stage

-- ---- what truss remembers, and what it has open

-- how many handles of a process a place holds
abbrev pub owned : ℕ → Option Held → ℕ
owned pid None = 0
owned pid (Some h) = unit (h.pid == pid)

pub record Owns (k : ℕ) (t : TrussState) (s : TracedState) : Type 0 where
  pub fits : Fits t.traced t.stage
  pub counts : (pid h : ℕ) → held pid h t ≡ owned pid (handle_of s.opens k h)
  pub modes : (m : ℕ) (g : Held) → handle_of s.opens k m ≡ Some g → IsExclusive g.file g.mode

-- a handle of a state with the same handles
same-owns : (k : ℕ) (t : TrussState) (s u : TracedState) → ((m : ℕ) → handle_of u.opens k m ≡ handle_of s.opens k m)
    → Owns k t s → Owns k t u
same-owns k t s u same o = record {
  fits = o.fits;
  counts = λ pid h. o.counts pid h ∙ ap (owned pid) (sym (same h));
  modes = λ m g is. o.modes m g (sym (same m) ∙ is);
}

-- ---- one call of truss

module _ (k : ℕ) (t : TrussState) (s : TracedState) (o : Owns k t s) where
  -- what is remembered after the reply
  changed : (pid h : ℕ) (r : Reply) (c : Call) → next_call_of t ≡ Some c
      → (n : ℕ) × ((held pid h (fed t r) ≡ n) × Changes t pid h r (Some c) (held pid h t) n)
  changed pid h r c is =
      let all = fed-changes pid h r t o.fits in
      (held pid h (fed t r), (refl, subst (λ x. Changes t pid h r x (held pid h t) (held pid h (fed t r))) is all))

  fits-on : (r : Reply) → Fits (fed t r).traced (fed t r).stage
  fits-on r = fed-fits t r o.fits

  no-gift : (e : Errno) (of handle pid h : ℕ) → gives (refusal_of e) of handle pid h ≡ 0
  no-gift Intr of handle pid h = refl
  no-gift _ of handle pid h = refl

  fail-gives : (e : Errno) (of handle pid h : ℕ) → gives (answer_of (reply.Fail e)) of handle pid h ≡ 0
  unfolding answer_of
  fail-gives e of handle pid h = no-gift e of handle pid h

  handle-gives : (place of pid h : ℕ)
      → gives (answer_of (reply.Handle place)) of (handle_in (reply.Handle place)) pid h ≡ unit
      ((of == pid) && (place == h))
  unfolding answer_of opened_in
  handle-gives place of pid h = refl

  -- an open that was refused
  refused-owns : (pid id : ℕ) (f : File) (mode : Mode) (a : Answer) → next_call_of t ≡ Some (call.Open pid id f mode)
      → Refuses s a.reply a.state.opens → Owns k (fed t a.reply) a.state
  refused-owns pid id f mode a next ref = record {
    fits = fits-on a.reply;
    counts = λ p h.
        let c = changed p h a.reply (call.Open pid id f mode) next in
        let none : gives (answer_of a.reply) pid (handle_in a.reply) p h ≡ 0 =
        ap (λ r. gives (answer_of r) pid (handle_in a.reply) p h) ref.reply
        ∙ fail-gives ref.errno pid (handle_in a.reply) p h in
        c.1.0 ∙ c.1.1 ∙ ap (λ n. held p h t + n) none ∙ plus-none (held p h t) ∙ o.counts p h
        ∙ ap (λ (opens : Places). owned p (handle_of opens k h)) (sym ref.is);
    modes = λ m g is. o.modes m g (ap (λ (opens : Places). handle_of opens k m) (sym ref.is) ∙ is);
  }
    where
      plus-none : (n : ℕ) → n + 0 ≡ n
      plus-none n = omega arith

  plus : (n : ℕ) → n + 0 ≡ n
  plus n = omega arith

  and-true : (b c : Bool) → c ≡ true → unit (b && c) ≡ unit b
  and-true true c is = ap unit is
  and-true false c is = refl

  and-false : (b c : Bool) → c ≡ false → unit (b && c) ≡ 0
  and-false true c is = ap unit is
  and-false false c is = refl

  module _ (pid id : ℕ) (f : File) (mode : Mode) (a : Answer) (next : next_call_of t ≡ Some (call.Open pid id f mode))
      (new : Opens s k (held_by k pid id f mode) a.reply a.state.opens) where
    mine : Held
    mine = held_by k pid id f mode

    handle-new : handle_of a.state.opens k new.place ≡ Some (held_by k pid id f mode)
    handle-new =
        ap (λ (opens : Places). handle_of opens k new.place) new.is
        ∙ own-set s.opens k new.place (Some (held_by k pid id f mode)) None new.free
        ∙ own-mine k (held_by k pid id f mode) refl

    handle-old : (h : ℕ) → new.place ≢ h → handle_of a.state.opens k h ≡ handle_of s.opens k h
    handle-old h other =
        ap (λ (opens : Places). handle_of opens k h) new.is
        ∙ own-other s.opens k new.place h (Some (held_by k pid id f mode)) other

    was-free : handle_of s.opens k new.place ≡ None
    was-free = own-free s.opens k new.place new.free

    new-gives : (p h : ℕ)
        → gives (answer_of a.reply) pid (handle_in a.reply) p h ≡ unit ((pid == p) && (new.place == h))
    new-gives p h = ap (λ r. gives (answer_of r) pid (handle_in r) p h) new.reply ∙ handle-gives new.place pid p h

    opened-count : (p h : ℕ) → held p h (fed t a.reply) ≡ owned p (handle_of a.state.opens k h)
    opened-count p h =
        let c = changed p h a.reply (call.Open pid id f mode) next in
        let all : held p h (fed t a.reply) ≡ held p h t + unit ((pid == p) && (new.place == h)) =
        c.1.0 ∙ c.1.1 ∙ ap (λ n. held p h t + n) (new-gives p h) in
        elim (cases_Bool (new.place == h)) [ inl same ↦ all ∙ here same | inr not ↦ all ∙ there not ]
      where
        here : (new.place == h) ≡ true
            → held p h t + unit ((pid == p) && (new.place == h)) ≡ owned p (handle_of a.state.opens k h)
        here same =
            let is : new.place ≡ h = eqb-true new.place h same in
            let before : held p h t ≡ 0 =
            o.counts p h ∙ ap (owned p) (subst (λ n. handle_of s.opens k n ≡ None) is was-free) in
            let after_it : owned p (handle_of a.state.opens k h) ≡ unit (pid == p) =
            ap (owned p)
            (subst (λ n. handle_of a.state.opens k n ≡ Some (held_by k pid id f mode)) is handle-new) in
            omega (arith, before, after_it, and-true (pid == p) (new.place == h) same)

        there : (new.place == h) ≡ false
            → held p h t + unit ((pid == p) && (new.place == h)) ≡ owned p (handle_of a.state.opens k h)
        there not =
            let old : owned p (handle_of a.state.opens k h) ≡ owned p (handle_of s.opens k h) =
            ap (owned p) (handle-old h (eqb-false new.place h not)) in
            omega (arith, o.counts p h, old, and-false (pid == p) (new.place == h) not)

    opened-modes : (m : ℕ) (g : Held) → handle_of a.state.opens k m ≡ Some g → IsExclusive g.file g.mode
    opened-modes m g is =
        elim (cases_Bool (new.place == m)) [
          | inl same ↦ here (eqb-true new.place m same)
          | inr not ↦ o.modes m g
              (sym (handle-old m (eqb-false new.place m not)) ∙ is)
        ]
      where
        here : new.place ≡ m → IsExclusive g.file g.mode
        here same =
            let found : held_by k pid id f mode ≡ g =
            same_Some (held_by k pid id f mode) g
            (sym (subst (λ n. handle_of a.state.opens k n ≡ Some (held_by k pid id f mode)) same handle-new)
            ∙ is) in
            subst (λ (x : Held). IsExclusive x.file x.mode) found (subst OpensExclusively next (next-excl t))

    opened-owns : Owns k (fed t a.reply) a.state
    opened-owns = record { fits = fits-on a.reply; counts = opened-count; modes = opened-modes }

  module _ (number : ℕ) (a : Answer) (next : next_call_of t ≡ Some (call.Close number)) where
    owned-some : (p : ℕ) (x : Option Held) → 1 ≤ owned p x → (g : Held) × (x ≡ Some g)
    owned-some p None one = absurd (omega arith)
    owned-some p (Some g) one = (g, refl)

    owned-pid : (p : ℕ) (g : Held) → 1 ≤ owned p (Some g) → g.pid ≡ p
    owned-pid p g one =
        elim (cases_Bool (g.pid == p)) [
          | inl same ↦ eqb-true g.pid p same
          | inr not ↦ absurd
              (omega (arith, one, ap unit not))
        ]

    -- the handle was open
    was-open : (of : ℕ) → 1 ≤ held of number t → 1 ≤ owned of (handle_of s.opens k number)
    was-open of one = omega (arith, o.counts of number)

    -- some process holds the handle
    given-back : (p h : ℕ) → Gives t p h number (held p h t) (changed p h a.reply (call.Close number) next).0
    given-back p h = (changed p h a.reply (call.Close number) next).1.1

    not-open : NotOpen s k number a → ⊥
    not-open n =
        let c = changed 0 0 a.reply (call.Close number) next in
        let gone : owned c.1.1.of (handle_of s.opens k number) ≡ 0 = ap (owned c.1.1.of) n.none in
        omega (arith, was-open c.1.1.of c.1.1.remembered, gone)

    module _ (h0 : Held) (one : ClosesOne s k number h0 a) where
      handle-gone : handle_of a.state.opens k number ≡ None
      unfolding handle_of
      handle-gone =
          ap (λ (opens : Places). handle_of opens k number) one.is
          ∙ own-set s.opens k number None (Some h0) (handle-at s.opens k number h0 one.held)

      handle-kept : (h : ℕ) → number ≢ h → handle_of a.state.opens k h ≡ handle_of s.opens k h
      handle-kept h other =
          ap (λ (opens : Places). handle_of opens k h) one.is ∙ own-other s.opens k number h None other

      closed-count : (p h : ℕ) → held p h (fed t a.reply) ≡ owned p (handle_of a.state.opens k h)
      closed-count p h =
          let c = changed p h a.reply (call.Close number) next in
          elim (cases_Bool (number == h)) [
            | inl same ↦ c.1.0 ∙ here c.0 c.1.1 same
            | inr not ↦ c.1.0
                ∙ there c.0 c.1.1 not
          ]
        where
          here : (n : ℕ) → Gives t p h number (held p h t) n → (number == h) ≡ true
              → n ≡ owned p (handle_of a.state.opens k h)
          here n g same =
              let is : number ≡ h = eqb-true number h same in
              let its : h0.pid ≡ g.of =
              owned-pid g.of h0 (subst (λ x. 1 ≤ owned g.of x) one.held (was-open g.of g.remembered)) in
              let before : held p h t ≡ unit (g.of == p) =
              o.counts p h ∙ ap (owned p) (subst (λ n. handle_of s.opens k n ≡ Some h0) is one.held)
              ∙ ap (λ x. unit (x == p)) its in
              let gone : owned p (handle_of a.state.opens k h) ≡ 0 =
              ap (owned p) (subst (λ n. handle_of a.state.opens k n ≡ None) is handle-gone) in
              omega (arith, g.less, before, gone, and-true (g.of == p) (number == h) same)

          there : (n : ℕ) → Gives t p h number (held p h t) n → (number == h) ≡ false
              → n ≡ owned p (handle_of a.state.opens k h)
          there n g not =
              let old : owned p (handle_of a.state.opens k h) ≡ owned p (handle_of s.opens k h) =
              ap (owned p) (handle-kept h (eqb-false number h not)) in
              omega (arith, g.less, o.counts p h, old, and-false (g.of == p) (number == h) not)

      closed-modes : (m : ℕ) (g : Held) → handle_of a.state.opens k m ≡ Some g → IsExclusive g.file g.mode
      closed-modes m g is =
          elim (cases_Bool (number == m)) [
            | inl same ↦ absurd
                (none-some g (sym (subst (λ n. handle_of a.state.opens k n ≡ None) (eqb-true number m same) handle-gone)
                ∙ is))
            | inr not ↦ o.modes m g (sym (handle-kept m (eqb-false number m not)) ∙ is)
          ]

      closed-owns : Owns k (fed t a.reply) a.state
      closed-owns = record { fits = fits-on a.reply; counts = closed-count; modes = closed-modes }

  plain-owns : (c : Call) (a : Answer) → next_call_of t ≡ Some c → keeps_handles c ≡ true
      → ((pid h n m : ℕ) → Changes t pid h a.reply (Some c) n m → m ≡ n) → answer_to s k c ≡ Some a
      → Owns k (fed t a.reply) a.state
  plain-owns c a next keeps same is =
      let opens = plain-leaves s k c a keeps is in
      record {
        fits = fits-on a.reply;
        counts =
            λ p h. let ch =
            changed p h a.reply c next in ch.1.0 ∙ same p h (held p h t) ch.0 ch.1.1 ∙ o.counts p h
            ∙ ap (λ (x : Places). owned p (handle_of x k h)) (sym opens);
        modes = λ m g e. o.modes m g (ap (λ (x : Places). handle_of x k m) (sym opens) ∙ e);
      }

  pub call-owns : (c : Call) (a : Answer) → next_call_of t ≡ Some c → answer_to s k c ≡ Some a
      → Owns k (fed t a.reply) a.state
  call-owns (call.Open pid id f mode) a next is =
      elim (open-opens s k pid id f mode a is) [
        | inl ref ↦ refused-owns pid id f mode a next ref
        | inr new ↦
            opened-owns pid id f mode a next new
      ]
  call-owns (call.Close number) a next is =
      elim (close-closes s k number a is) [
        | inl none ↦ absurd
            (not-open number a next none)
        | inr one ↦ closed-owns number a next one.0 one.1
      ]
  call-owns c a next is = plain-owns c a next refl (λ pid h n m e. e) is

-- ---- one entry of a history

-- truss and its state after an entry, with the exchanges that are still to come
pub record Goes (k : ℕ) (t : TrussState) (s : TracedState) (xs rest : List Exchange) : Type 0 where
  pub truss : TrussState
  pub owns : Owns k truss s
  pub makes : Makes truss rest
  pub same : truss_after t xs ≡ truss_after truss rest

opens-turn : (s : TracedState) (t : Option LwpTurn) → (after_turn s t).opens ≡ s.opens
opens-turn s None = refl
opens-turn s (Some t) = refl

entry-stays : (k : ℕ) (t : TrussState) (s u : TracedState) (rest : List Exchange) → Owns k t s
    → ((m : ℕ) → handle_of u.opens k m ≡ handle_of s.opens k m) → Makes t rest → Goes k t u rest rest
entry-stays k t s u rest o same makes = record {
  truss = t;
  owns = same-owns k t s u same o;
  makes = makes;
  same = refl;
}

call-goes : (n k : ℕ) (t : TrussState) (s : TracedState) (by : ℕ) (c : Call) (r : Reply) (rest : List Exchange)
    → Owns k t s → IsLegalEntry n s (record { actor = Controller by; act = act.Call c r }) → (mine : Bool)
    → (by == k) ≡ mine
    → Makes t (cons_option (cond mine (Some (record { call = c; reply = r })) None) rest)
    → Goes k t (after s (record { actor = Controller by; act = act.Call c r }))
    (cons_option (cond mine (Some (record { call = c; reply = r })) None) rest) rest
unfolding IsLegalEntry after
call-goes n k t s by c r rest o legal true is makes =
    let a : Answer = record { state = legal.1.0; reply = r } in
    let answer : answer_to s k c ≡ Some a = subst (λ x. answer_to s x c ≡ Some a) (eqb-true by k is) legal.1.1 in
    record {
      truss = fed t r;
      owns = subst (λ x. Owns k (fed t r) (after_call s x)) (sym legal.1.1) (call-owns k t s o c a makes.0 answer);
      makes = makes.1;
      same = refl;
    }
call-goes n k t s by c r rest o legal false is makes =
    let a : Answer = record { state = legal.1.0; reply = r } in
    entry-stays k t s (after_call s (answer_to s by c)) rest o
    (λ m. ap (λ x. handle_of (after_call s x).opens k m) legal.1.1
    ∙ foreign-call s by k c a (eqb-false by k is) legal.1.1 m) makes

entry-goes : (n k : ℕ) (t : TrussState) (s : TracedState) (actor : Actor) (did : Act) (rest : List Exchange)
    → Owns k t s → IsLegalEntry n s (record { actor = actor; act = did })
    → Makes t (cons_option (exchange_in k actor did) rest)
    → Goes k t (after s (record { actor = actor; act = did })) (cons_option (exchange_in k actor did) rest) rest
unfolding IsLegalEntry after
entry-goes n k t s (Controller by) (act.Call c r) rest o legal makes =
    call-goes n k t s by c r rest o legal (by == k) refl makes
entry-goes n k t s (Controller by) (act.Turn did) rest o legal makes = absurd legal
entry-goes n k t s (Controller by) (act.Tick moment) rest o legal makes = absurd legal
entry-goes n k t s (Lwp p l) (act.Turn did) rest o legal makes =
    entry-stays k t s (after_turn s (turn_of s.system p l)) rest o
    (λ m. ap (λ x. handle_of x k m) (opens-turn s (turn_of s.system p l))) makes
entry-goes n k t s (Lwp p l) (act.Call c r) rest o legal makes = absurd legal
entry-goes n k t s (Lwp p l) (act.Tick moment) rest o legal makes = absurd legal
entry-goes n k t s Clock (act.Tick moment) rest o legal makes = entry-stays k t s _ rest o (λ m. refl) makes
entry-goes n k t s Clock (act.Call c r) rest o legal makes = absurd legal
entry-goes n k t s Clock (act.Turn did) rest o legal makes = absurd legal

-- ---- histories

history-makes : (k : ℕ) (t : TrussState) (e : Entry) (h : List Entry) → Makes t (exchanges k (e ∷ h))
    → Makes t (cons_option (exchange_of k e) (exchanges k h))
unfolding exchanges
history-makes k t e h makes = makes

history-same : (k : ℕ) (t : TrussState) (e : Entry) (h : List Entry)
    → truss_after t (exchanges k (e ∷ h)) ≡ truss_after t (cons_option (exchange_of k e) (exchanges k h))
unfolding exchanges
history-same k t e h = refl

no-exchange : (k : ℕ) (t : TrussState) → truss_after t (exchanges k []) ≡ t
unfolding exchanges
no-exchange k t = refl

pub history-owns : (h : List Entry) (n k : ℕ) (t : TrussState) (s : TracedState) → Owns k t s → IsLegal n s h
    → Makes t (exchanges k h) → Owns k (truss_after t (exchanges k h)) (state_after s h)
history-owns [] n k t s o legal makes = subst (λ (u : TrussState). Owns k u s) (sym (no-exchange k t)) o
history-owns (e ∷ h) n k t s o legal makes =
    let g = entry-goes n k t s e.actor e.act (exchanges k h) o legal.0 (history-makes k t e h makes) in
    subst (λ (u : TrussState). Owns k u (state_after (after s e) h)) (sym (history-same k t e h
    ∙ g.same)) (history-owns h n k g.truss (after s e) g.owns legal.1 g.makes)

-- ---- the first and the last state

no-pid-held : (pid h : ℕ) (o : Options) (p : Option ℕ) → held pid h (opening_or (idle o) (idle o) p) ≡ 0
unfolding held
no-pid-held pid h o None = refl
no-pid-held pid h o (Some of) = refl

program-held : (pid h : ℕ) (o : Options) (p : Option (List ℕ)) → held pid h (first_of_program o p) ≡ 0
unfolding held
program-held pid h o None = no-pid-held pid h o (slice_get o.pids 0)
program-held pid h o (Some program) = refl

first-held : (pid h : ℕ) (o : Options) → held pid h (first_truss o) ≡ 0
unfolding first_truss
first-held pid h o = program-held pid h o o.program

pub first-owns : (k : ℕ) (o : Options) (s : TracedState) → HasNothingOpen k s → Owns k (first_truss o) s
first-owns k o s none = record {
  fits = first-fits o;
  counts = λ pid h. first-held pid h o ∙ ap (owned pid) (sym (none.none h));
  modes = λ m g is. absurd (none-some g (sym (none.none m) ∙ is));
}

owned-none : (x : Option Held) → ((pid : ℕ) → owned pid x ≡ 0) → x ≡ None
owned-none None zero_each = refl
owned-none (Some g) zero_each = absurd (omega (arith, zero_each g.pid, ap unit (eq-eqb g.pid g.pid refl)))

last-open : (k : ℕ) (t : TrussState) (s : TracedState) → Owns k t s → next_call_of t ≡ None → HasNothingOpen k s
last-open k t s o finished =
    record {
      none = λ m. owned-none (handle_of s.opens k m) (λ pid. sym (o.counts pid m)
          ∙ nothing-held pid m t o.fits finished);
    }

pub nothing-open : (n k : ℕ) (o : Options) (s : TracedState) (h : List Entry) → HasNothingOpen k s → IsLegal n s h
    → Ends (first_truss o) (exchanges k h) → HasNothingOpen k (state_after s h)
nothing-open n k o s h none legal ends =
    last-open k (truss_after (first_truss o) (exchanges k h)) (state_after s h)
    (history-owns h n k (first_truss o) s (first-owns k o s none) legal ends.makes) ends.finished
