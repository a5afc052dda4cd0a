use Rattle.std.proofs.Common.{◌≡◌, ◌≢◌, ◌<◌, ◌≤◌, ℕ, true, false, Option, Some, None, is_some, is_none, refl, ap, subst}
use Rattle.std.proofs.lemmas.Bool.{lt-ltb, le-ltb, ne_eqb}
use Rattle.pr_num.specs.ById.{under}
use Rattle.pr_num.specs.Limits.{signal_count}
use Rattle.pr_num.specs.Signals.{signal_of_number}
use Rattle.pr_num.specs.declared.errnos.Errno.TheVariants.{Inval, Perm, Srch, Again}
use Rattle.pr_num.specs.declared.signals.Sig.{Sig}
use Rattle.pr_parts.specs.PendingSignals.{has_room}
use Rattle.pr_model.specs.Readers.{Life, life_of}
use Rattle.pr_model.specs.SignalCalls.{refuses, sends_nothing, sends, sending}
use Rattle.pr_model.specs.State.{TracedProcess, TracedSystem, live_process}
use Rattle.pr_proc.proofs.LifeLemmas.{live_process-made}
use Rattle.pr_post.proofs.RoomLemmas.{room-deletions}
use Rattle.pr_post.specs.Room.{has_room_for}
use Rattle.pr_proc.specs.Sendings.{IsSent}
use Rattle.pr_proc.specs.declared.sending.Sending.TheVariants as sent

-- What comes of sending a signal.

module _ (target number : ℕ) where
  pub sending-number : (life : Life) → signal_count < number → sending target number life ≡ refuses Inval
  unfolding sending
  sending-number life above = rw (lt-ltb signal_count number above) refl

  pub sending-zero : (life : Life) → number ≤ signal_count → target ≡ 0 → sending target number life ≡ refuses Perm
  unfolding sending
  sending-zero life within zero = rw (le-ltb signal_count number within, zero) refl

  module _ (s : TracedSystem) where
    pub sending-gone : number ≤ signal_count → target ≢ 0 → under target s.processes ≡ None
        → sending target number (life_of s target) ≡ refuses Srch
    unfolding sending life_of
    sending-gone within other none = rw (le-ltb signal_count number within, ne_eqb target 0 other, none) refl

    module _ (p : TracedProcess) where
      pub sending-zombie : (status : ℕ) → number ≤ signal_count → target ≢ 0 → under target s.processes ≡ Some p
          → p.ended ≡ Some status → sending target number (life_of s target) ≡ sends_nothing
      unfolding sending life_of
      sending-zombie status within other found over =
          rw (le-ltb signal_count number within, ne_eqb target 0 other, found, over) refl

      pub sending-nothing : number ≤ signal_count → target ≢ 0 → under target s.processes ≡ Some p → p.ended ≡ None
          → signal_of_number number ≡ None → sending target number (life_of s target) ≡ sends_nothing
      unfolding sending life_of
      sending-nothing within other found live none =
          rw (le-ltb signal_count number within, ne_eqb target 0 other, found, live, none) refl

      pub sending-full : (g : Sig) → number ≤ signal_count → target ≢ 0 → under target s.processes ≡ Some p
          → p.ended ≡ None → signal_of_number number ≡ Some g → has_room g p.pending ≡ false
          → sending target number (life_of s target) ≡ refuses Again
      unfolding sending life_of
      sending-full g within other found live is full =
          rw (le-ltb signal_count number within, ne_eqb target 0 other, found, live, is, full) refl

      pub sending-room : (g : Sig) → number ≤ signal_count → target ≢ 0 → under target s.processes ≡ Some p
          → p.ended ≡ None → signal_of_number number ≡ Some g → has_room g p.pending ≡ true
          → sending target number (life_of s target) ≡ sends g
      unfolding sending life_of
      sending-room g within other found live is room =
          rw (le-ltb signal_count number within, ne_eqb target 0 other, found, live, is, room) refl

not_over : (o : Option ℕ) → is_some o ≡ false → is_none o ≡ true
not_over None e = refl
not_over (Some status) e = absurd (cc)

has_room-room_for : (g : Sig) (p : TracedProcess) → has_room g p.pending ≡ true → has_room_for None g p ≡ true
unfolding has_room_for
has_room-room_for g p room = room

pub is-sent : (s : TracedSystem) (target id : ℕ) (g : Sig) (p : TracedProcess) → id ≡ target
    → under id s.processes ≡ Some p → is_some p.ended ≡ false → has_room g p.pending ≡ true → IsSent s target id g
is-sent s target id g p named found live room =
    let lives : live_process s id ≡ Some p = live_process-made s id p found (not_over p.ended live) in
    record {
      named = named;
      lives = ap is_some lives;
      room =
          rw lives (room-deletions None g p (has_room-room_for g p room));
    }

-- what is sent to one process is sent to no other
pub sent-again : (s : TracedSystem) (target id other : ℕ) (g h : Sig) → sent.Sent id g ≡ sent.Sent other h
    → IsSent s target id g → IsSent s target other h
sent-again s target id other g h same is =
    let same_id : id ≡ other = cc in
    let same_signal : g ≡ h = cc in
    subst (λ n. IsSent s target n h) same_id (subst (λ x. IsSent s target id x) same_signal is)

pub ruleset sending_laws =
    (sending-number, sending-zero, sending-gone, sending-zombie, sending-nothing, sending-full, sending-room)
