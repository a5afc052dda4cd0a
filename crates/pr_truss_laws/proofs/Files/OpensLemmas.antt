use Rattle.std.proofs.Common.{◌≡◌, ◌≢◌, ◌==◌, ℕ, Bool, true, false, cond, not, None, Some, Option, refl, sym, subst, ap, ◌∙◌, inl, inr, ◌⊎◌}
use Rattle.std.proofs.lemmas.Bool.{cases_Bool, eqb-true, eqb-false, eq-eqb, ne_eqb}
use Rattle.std.proofs.lemmas.Option.{same_Some, none-some}
use Rattle.std.specs.List.{slice_get, slice_set, position}
use Rattle.std.specs.Option.{is_none}
use Rattle.pr_lawful.proofs.ProcessParts.HandleLemmas.{free-at, handle-at}
use Rattle.pr_keeps.specs.CallEdits as edit
use Rattle.pr_keeps.specs.CallEdits.{CallEdit}
use Rattle.pr_keeps.proofs.CallLemmas.{call-edit}
use Rattle.pr_model.specs.Calls.{Answer, answer_to, close_answer, close_held, open_answer, open_unless, opened, refused}
use Rattle.pr_model.specs.Handles.{handle_of, open_refusal, own, with_closed, with_opened}
use Rattle.pr_model.specs.State.{Places, TracedState}
use Rattle.pr_model.specs.declared.calls.Call.{Call}
use Rattle.pr_model.specs.declared.calls.Call.TheVariants as call
use Rattle.pr_model.specs.declared.calls.File.{File}
use Rattle.pr_model.specs.declared.calls.Mode.{Mode}
use Rattle.pr_model.specs.declared.calls.Reply.{Reply}
use Rattle.pr_model.specs.declared.calls.Reply.TheVariants as reply
use Rattle.pr_model.specs.declared.handles.Held.{Held}
use Rattle.pr_num.specs.declared.errnos.Errno.{Errno}
use Rattle.pr_file_laws.proofs.PlaceLemmas.{slice_get-set_other, slice_get-set_same}

-- What a call does to the open handles.

-- ---- one handle more, and one less

-- the handles of a controller, where another one stands at a place
pub own-other : (opens : Places) (k place number : ℕ) (o : Option Held) → place ≢ number
    → handle_of (slice_set opens place o) k number ≡ handle_of opens k number
unfolding handle_of
own-other opens k place number o other =
    ap (own k) (slice_get-set_other opens place number o (λ same. other (sym same)))

pub own-set : (opens : Places) (k place : ℕ) (o x : Option Held) → slice_get opens place ≡ Some x
    → handle_of (slice_set opens place o) k place ≡ own k (Some o)
unfolding handle_of
own-set opens k place o x at = ap (own k) (slice_get-set_same opens place x o at)

pub own-free : (opens : Places) (k place : ℕ) → slice_get opens place ≡ Some None → handle_of opens k place ≡ None
unfolding handle_of
own-free opens k place at = ap (own k) at

pub own-mine : (k : ℕ) (h : Held) → h.controller ≡ k → own k (Some (Some h)) ≡ Some h
own-mine k h is = rw (eq-eqb h.controller k is) refl

own-foreign : (k : ℕ) (h : Held) → h.controller ≢ k → own k (Some (Some h)) ≡ None
own-foreign k h other = rw (ne_eqb h.controller k other) refl

own-controller : (k : ℕ) (o : Option (Option Held)) (h : Held) → own k o ≡ Some h → h.controller ≡ k
own-controller k None h is = absurd (none-some h is)
own-controller k (Some None) h is = absurd (none-some h is)
own-controller k (Some (Some g)) h is = by (g.controller == k) refl is
  where
    by : (b : Bool) → (g.controller == k) ≡ b → cond b (Some g) None ≡ Some h → h.controller ≡ k
    by true its e = ap (λ (x : Held). x.controller) (sym (same_Some g h e)) ∙ eqb-true g.controller k its
    by false its e = absurd (none-some h e)

pub handle-controller : (opens : Places) (k number : ℕ) (h : Held) → handle_of opens k number ≡ Some h
    → h.controller ≡ k
unfolding handle_of
handle-controller opens k number h is = own-controller k (slice_get opens number) h is

-- ---- what a call leaves

-- An open that was granted, at a place that was free.
pub record Opens (s : TracedState) (by : ℕ) (h : Held) (r : Reply) (opens : Places) : Type 0 where
  pub place : ℕ
  pub reply : r ≡ reply.Handle place
  pub free : slice_get s.opens place ≡ Some None
  pub allowed : open_refusal s h.pid h.lwp h.file h.mode ≡ None
  pub is : opens ≡ slice_set s.opens place (Some h)

-- A call that was refused, and left the handles.
pub record Refuses (s : TracedState) (r : Reply) (opens : Places) : Type 0 where
  pub errno : Errno
  pub reply : r ≡ reply.Fail errno
  pub is : opens ≡ s.opens

-- A close of a handle that was not open.
pub record NotOpen (s : TracedState) (by number : ℕ) (a : Answer) : Type 0 where
  pub none : handle_of s.opens by number ≡ None
  pub is : a.state.opens ≡ s.opens
  pub system : a.state.system ≡ s.system

-- A close of a handle that was open.
pub record ClosesOne (s : TracedState) (by number : ℕ) (h : Held) (a : Answer) : Type 0 where
  pub held : handle_of s.opens by number ≡ Some h
  pub state : a.state ≡ with_closed h number s
  pub is : a.state.opens ≡ slice_set s.opens number None

abbrev pub held_by : ℕ → ℕ → ℕ → File → Mode → Held
held_by by pid id file mode = record { controller = by; pid = pid; lwp = id; file = file; mode = mode }

open-does : (s : TracedState) (by : ℕ) (h : Held) → (refusal : Option Errno)
    → open_refusal s h.pid h.lwp h.file h.mode ≡ refusal → (a : Answer) → open_unless s h refusal ≡ a
    → Refuses s a.reply a.state.opens ⊎ Opens s by h a.reply a.state.opens
unfolding with_opened
open-does s by h (Some e) is a at =
    inl (record {
      errno = e;
      reply = ap (λ (x : Answer). x.reply) (sym at);
      is = ap (λ (x : Answer). x.state.opens) (sym at);
    })
open-does s by h None is a at = by_place (position is_none s.opens) refl at
  where
    by_place : (p : Option ℕ) → position is_none s.opens ≡ p → opened s h p ≡ a
        → Refuses s a.reply a.state.opens ⊎ Opens s by h a.reply a.state.opens
    by_place None there e =
        inl (record {
          errno = _;
          reply = ap (λ (x : Answer). x.reply) (sym e);
          is = ap (λ (x : Answer). x.state.opens) (sym e);
        })
    by_place (Some place) there e =
        inr (record {
          place = place;
          reply = ap (λ (x : Answer). x.reply) (sym e);
          free = free-at s.opens place there;
          allowed = is;
          is = ap (λ (x : Answer). x.state.opens) (sym e);
        })

pub open-opens : (s : TracedState) (by pid id : ℕ) (file : File) (mode : Mode) (a : Answer)
    → answer_to s by (call.Open pid id file mode) ≡ Some a
    → Refuses s a.reply a.state.opens ⊎ Opens s by (held_by by pid id file mode) a.reply a.state.opens
unfolding answer_to open_answer
open-opens s by pid id file mode a is =
    open-does s by (held_by by pid id file mode) (open_refusal s pid id file mode) refl a (same_Some _ a is)

close-does : (s : TracedState) (by number : ℕ) → (o : Option Held) → handle_of s.opens by number ≡ o → (a : Answer)
    → close_held s number o ≡ a → NotOpen s by number a ⊎ ((h : Held) × ClosesOne s by number h a)
unfolding with_closed
close-does s by number None is a at =
    inl (record {
      none = is;
      is = ap (λ (x : Answer). x.state.opens) (sym at);
      system = ap (λ (x : Answer). x.state.system) (sym at);
    })
close-does s by number (Some h) is a at =
    inr (
      h,
      record {
        held = is;
        state = ap (λ (x : Answer). x.state) (sym at);
        is = ap (λ (x : Answer). x.state.opens) (sym at);
      },
    )

pub close-closes : (s : TracedState) (by number : ℕ) (a : Answer) → answer_to s by (call.Close number) ≡ Some a
    → NotOpen s by number a ⊎ ((h : Held) × ClosesOne s by number h a)
unfolding answer_to close_answer
close-closes s by number a is = close-does s by number (handle_of s.opens by number) refl a (same_Some _ a is)

-- ---- every other call leaves the handles

-- whether a call opens or closes; and whether it only waits, reads or interrupts
abbrev pub keeps_handles : Call → Bool
keeps_handles (call.Open pid id file mode) = false
keeps_handles (call.Close number) = false
keeps_handles _ = true

abbrev pub only_looks : Call → Bool
only_looks (call.CtlWait handle until bytes) = true
only_looks (call.Read handle from len) = true
only_looks (call.Poll handles) = true
only_looks (call.Interrupt controller) = true
only_looks (call.Until moment) = true
only_looks call.List = true
only_looks _ = false

-- a state in which a controller may have seen that it was interrupted, or be interrupted, and else as it was
edit-stays : (s : TracedState) (by : ℕ) (c : Call) (t : TracedState) → CallEdit s by c t → only_looks c ≡ true
    → t ≡ record s { interrupted = t.interrupted }
edit-stays s by c t edit.looks looks = refl
edit-stays s by c t edit.sees_interrupt looks = refl
edit-stays s by c t (edit.interrupts there) looks = refl
edit-stays s by c t (edit.opens free grants) looks = cc
edit-stays s by c t (edit.closes at) looks = cc
edit-stays s by c t (edit.controls it e) looks = cc
edit-stays s by c t (edit.spawns named grants) looks = cc
edit-stays s by c t (edit.sends is) looks = cc

pub looking-stays : (s : TracedState) (by : ℕ) (c : Call) (a : Answer) → only_looks c ≡ true
    → answer_to s by c ≡ Some a → a.state ≡ record s { interrupted = a.state.interrupted }
looking-stays s by c a looks is = edit-stays s by c a.state (call-edit s by c a is) looks

edit-leaves : (s : TracedState) (by : ℕ) (c : Call) (t : TracedState) → CallEdit s by c t → keeps_handles c ≡ true
    → t.opens ≡ s.opens
edit-leaves s by c t (edit.opens free grants) keeps = cc
edit-leaves s by c t (edit.closes at) keeps = cc
edit-leaves s by c t _ keeps = refl

pub plain-leaves : (s : TracedState) (by : ℕ) (c : Call) (a : Answer) → keeps_handles c ≡ true
    → answer_to s by c ≡ Some a → a.state.opens ≡ s.opens
plain-leaves s by c a keeps is = edit-leaves s by c a.state (call-edit s by c a is) keeps

-- ---- the handles of another controller stay

foreign-open : (s : TracedState) (by k : ℕ) (h : Held) (r : Reply) (opens : Places) → by ≢ k → h.controller ≡ by
    → Opens s by h r opens → (number : ℕ) → handle_of opens k number ≡ handle_of s.opens k number
foreign-open s by k h r opens other owner o number =
    elim (cases_Bool (o.place == number)) [
      | inl same ↦ here (eqb-true o.place number same)
      | inr not ↦ ap
          (λ p. handle_of p k number) o.is ∙ own-other s.opens k o.place number (Some h) (eqb-false o.place number not)
    ]
  where
    at-place : handle_of opens k o.place ≡ handle_of s.opens k o.place
    at-place =
        ap (λ p. handle_of p k o.place) o.is ∙ own-set s.opens k o.place (Some h) None o.free
        ∙ own-foreign k h (λ e. other (sym owner ∙ e)) ∙ sym (own-free s.opens k o.place o.free)

    here : o.place ≡ number → handle_of opens k number ≡ handle_of s.opens k number
    here same = subst (λ n. handle_of opens k n ≡ handle_of s.opens k n) same at-place

foreign-close : (s : TracedState) (by k number : ℕ) (h : Held) (a : Answer) → by ≢ k → ClosesOne s by number h a
    → (m : ℕ) → handle_of a.state.opens k m ≡ handle_of s.opens k m
unfolding handle_of
foreign-close s by k number h a other c m =
    elim (cases_Bool (number == m)) [
      | inl same ↦ here (eqb-true number m same)
      | inr not ↦ ap
          (λ p. handle_of p k m) c.is ∙ own-other s.opens k number m None (eqb-false number m not)
    ]
  where
    there : slice_get s.opens number ≡ Some (Some h)
    there = handle-at s.opens by number h c.held

    owner : h.controller ≡ by
    owner = handle-controller s.opens by number h c.held

    at-place : handle_of a.state.opens k number ≡ handle_of s.opens k number
    at-place =
        ap (λ p. handle_of p k number) c.is ∙ own-set s.opens k number None (Some h) there
        ∙ sym (ap (own k) there ∙ own-foreign k h (λ e. other (sym owner ∙ e)))

    here : number ≡ m → handle_of a.state.opens k m ≡ handle_of s.opens k m
    here same = subst (λ n. handle_of a.state.opens k n ≡ handle_of s.opens k n) same at-place

pub foreign-call : (s : TracedState) (by k : ℕ) (c : Call) (a : Answer) → by ≢ k → answer_to s by c ≡ Some a
    → (number : ℕ) → handle_of a.state.opens k number ≡ handle_of s.opens k number
foreign-call s by k (call.Open pid id file mode) a other is number =
    elim (open-opens s by pid id file mode a is) [
      | inl refused ↦ ap
          (λ p. handle_of p k number) refused.is
      | inr opened ↦ foreign-open s by k
          (held_by by pid id file mode) a.reply a.state.opens other refl opened number
    ]
foreign-call s by k (call.Close m) a other is number =
    elim (close-closes s by m a is) [
      | inl refused ↦ ap
          (λ p. handle_of p k number) refused.is
      | inr closed ↦ foreign-close s by k m closed.0 a other closed.1 number
    ]
foreign-call s by k c a other is number = ap (λ p. handle_of p k number) (plain-leaves s by c a refl is)
