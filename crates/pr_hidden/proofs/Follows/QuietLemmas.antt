use Rattle.std.proofs.Common.{◌≡◌, ◌==◌, ◌-◌, ◌^◌, ◌&&◌, ◌||◌, ℕ, Bool, true, false, eqb, bit_and, inl, inr, arith, Option, Some, None, List, [], ◌∷◌, cond, refl, sym, ◌∙◌, ap}
use Rattle.std.proofs.lemmas.Bool.{cases_Bool, eqb-true, false≢true, not-true}
use Rattle.std.proofs.lemmas.Option.{same_Some}
use Rattle.pr_num.specs.ById.{change_under, map_each, under}
use Rattle.pr_num.specs.Control.{abort_call, clear_fault, clear_signal, has_flags, klc_mode, single_step, stop_again}
use Rattle.pr_num.specs.Sets.{common_word, has_number, minus_word, union_word}
use Rattle.pr_num.specs.declared.messages.Message.{Message}
use Rattle.pr_num.specs.declared.messages.Message.TheVariants as message
use Rattle.pr_num.proofs.ByIdLaws.{map_each-change_under}
use Rattle.pr_num.proofs.SetLemmas.{has_flags-one, has_number-common, has_number-union}
use Rattle.pr_keeps.specs.LwpEdits as lwp
use Rattle.pr_keeps.specs.LwpEdits.{LwpEdit, LwpEdits, clears_current, clears_fault}
use Rattle.pr_keeps.specs.MessageEdits as made
use Rattle.pr_keeps.specs.MessageEdits.{MessageEdit}
use Rattle.pr_keeps.specs.ProcessEdits as process
use Rattle.pr_keeps.specs.ProcessEdits.{ControlEdit, ProcessEdit, ProcessEdits}
use Rattle.pr_keeps.proofs.KeepsLemmas.{lwp-edits-keep, process-edits-relate}
use Rattle.pr_model.specs.Erasure.{uncontrolled_lwp, uncontrolled_process, uncontrolled_system}
use Rattle.pr_model.specs.Messages.{tracing_entries, tracing_exits, tracing_faults, tracing_signals, with_modes, without_modes}
use Rattle.pr_model.specs.Passive.{is_passive_message}
use Rattle.pr_model.specs.Running.{let_go, with_directive, without_directive}
use Rattle.pr_model.specs.State.{TracedControl, TracedLwp, TracedProcess, TracedSystem, process_of, with_process}
use Rattle.pr_erasure.proofs.SeenParts.StateLemmas.{map_each-all_hidden, with_lwp-hidden}
use Rattle.pr_hidden.specs.Covers.{Covers, seen}
use Rattle.pr_hidden.proofs.Covers.BareCovers.{seen-by-bare}
use Rattle.pr_hidden.proofs.Follows.FaultRows.{no-way}
use Rattle.pr_hidden.proofs.Follows.FollowLemmas.{change-same}
use Rattle.pr_hidden.proofs.NothingHidden.TameLemmas.{IsTame, IsTameProcess, tame-each, tame-found, tame-lwp}

-- Passive messages, whatever is hidden: programs see nothing of them, and they leave the rest untouched.

-- ---- lwps

pub record IsQuietLwp (l k : TracedLwp) : Type 0 where
  pub seen : uncontrolled_lwp k ≡ uncontrolled_lwp l
  pub abort : k.control.abort ≡ l.control.abort

-- PCRUN of a passive message has no flag but PRSTOP
no-flag : (flags flag : ℕ) → has_flags 0 flag ≡ false → has_flags stop_again flag ≡ false
    → ((flags == 0) || (flags == stop_again)) ≡ true → has_flags flags flag ≡ true → ⊥
no-flag flags flag none other passive is = elim (cases_Bool (eqb flags 0)) [
  | inl zero ↦ false≢true (sym none ∙ ap (λ f. has_flags f flag) (sym (eqb-true flags 0 zero)) ∙ is)
  | inr some ↦
      let same : flags ≡ stop_again = eqb-true flags stop_again (rw some at passive) in
      false≢true (sym other ∙ ap (λ f. has_flags f flag) (sym same) ∙ is)
]

keeps-signal : (m : Message) → clears_current m ≡ true → is_passive_message m ≡ true → ⊥
unfolding is_passive_message has_flags common_word
keeps-signal (message.Run flags) is passive = no-flag flags clear_signal refl refl passive is
keeps-signal _ is passive = cc

keeps-fault : (m : Message) → clears_fault m ≡ true → is_passive_message m ≡ true → ⊥
unfolding is_passive_message has_flags common_word
keeps-fault (message.Run flags) is passive = no-flag flags clear_fault refl refl passive is
keeps-fault _ is passive = cc

quiet : (l k : TracedLwp) → uncontrolled_lwp k ≡ uncontrolled_lwp l → k.control.abort ≡ l.control.abort
    → IsQuietLwp l k
quiet l k seen abort = record { seen = seen; abort = abort }

edit-quiet : (m : Message) (l k : TracedLwp) → LwpEdit m l k → is_passive_message m ≡ true → IsQuietLwp l k
unfolding uncontrolled_lwp with_directive without_directive let_go is_passive_message has_flags common_word
edit-quiet m l k (lwp.drops_signal is) passive = absurd (keeps-signal m is passive)
edit-quiet m l k (lwp.drops_fault is) passive = absurd (keeps-fault m is passive)
edit-quiet m l k (lwp.directs_it is) passive = quiet l k refl refl
edit-quiet m l k lwp.undirects passive = quiet l k refl refl
edit-quiet m l k lwp.lets_go passive = quiet l k refl refl
edit-quiet m l k (lwp.requests is) passive = quiet l k refl refl
edit-quiet m l k (lwp.ends_request is) passive = quiet l k refl refl
edit-quiet m l k (lwp.steps {flags = flags} is) passive = absurd (no-flag flags single_step refl refl passive is)
edit-quiet m l k (lwp.aborts {flags = flags} is) passive = absurd (no-flag flags abort_call refl refl passive is)
edit-quiet m l k _ passive = no-way passive

edits-quiet : (m : Message) → is_passive_message m ≡ true → (l k : TracedLwp) → LwpEdits m l k → IsQuietLwp l k
edits-quiet m passive l k edits =
    lwp-edits-keep m (IsQuietLwp l) (λ j i e q.
    let next = edit-quiet m j i e passive in
    record { seen = next.seen ∙ q.seen; abort = next.abort ∙ q.abort }) l k edits
    (record { seen = refl; abort = refl })

-- ---- modes

klc-is : (w : ℕ) → has_flags w klc_mode ≡ has_number w 3
klc-is w = has_flags-one w 3 (omega arith)

no_klc-union : (a b : ℕ) → has_flags a klc_mode ≡ false → has_flags b klc_mode ≡ false
    → has_flags (union_word a b) klc_mode ≡ false
no_klc-union a b none other =
    klc-is (union_word a b) ∙ has_number-union a b 3 ∙ ap (λ x. x || has_number b 3) (sym (klc-is a) ∙ none)
    ∙ sym (klc-is b) ∙ other

common-is : (a b : ℕ) → has_number (bit_and a b) 3 ≡ has_number (common_word a b) 3
unfolding common_word
common-is a b = refl

no_klc-minus : (a b : ℕ) → has_flags a klc_mode ≡ false → has_flags (minus_word a b) klc_mode ≡ false
unfolding minus_word
no_klc-minus a b none =
    let rest = 2 ^ 64 - 1 - b in
    klc-is (minus_word a b) ∙ common-is a rest ∙ has_number-common a rest 3
    ∙ ap (λ x. x && has_number rest 3) (sym (klc-is a) ∙ none)

record IsQuietControl (c d : TracedControl) : Type 0 where
  areas : d.areas ≡ c.areas
  no_kill : has_flags c.modes klc_mode ≡ false → has_flags d.modes klc_mode ≡ false

control-quiet : (m : Message) (c d : TracedControl) → ControlEdit m c d → is_passive_message m ≡ true
    → IsQuietControl c d
unfolding is_passive_message tracing_signals tracing_faults tracing_entries tracing_exits with_modes without_modes
control-quiet m c d process.signals passive = record { areas = refl; no_kill = λ none. none }
control-quiet m c d process.faults passive = record { areas = refl; no_kill = λ none. none }
control-quiet m c d process.entries passive = record { areas = refl; no_kill = λ none. none }
control-quiet m c d process.exits passive = record { areas = refl; no_kill = λ none. none }
control-quiet m c d (process.modes {set = set}) passive =
    record { areas = refl; no_kill = λ none. no_klc-union c.modes set none (not-true (has_flags set klc_mode) passive) }
control-quiet m c d (process.fewer_modes {set = set}) passive =
    record { areas = refl; no_kill = λ none. no_klc-minus c.modes set none }
control-quiet m c d _ passive = no-way passive

-- ---- processes and systems

module _ (covers : Covers) (pid : ℕ) where
  record IsQuiet (x y : TracedProcess) : Type 0 where
    seen : uncontrolled_process y ≡ uncontrolled_process x
    tame : IsTameProcess covers (pid, x) → IsTameProcess covers (pid, y)

  process-quiet : (m : Message) (tail : List ℕ) (x y : TracedProcess) → ProcessEdit m tail x y
      → is_passive_message m ≡ true → IsQuiet x y
  unfolding uncontrolled_process is_passive_message
  process-quiet m tail x y (process.one_lwp id f edits) passive = record {
    seen = with_lwp-hidden x id f (λ l. let q = edits-quiet m passive l (f l) (edits l) in q.seen);
    tame = tame-lwp covers pid id f (λ l. let q = edits-quiet m passive l (f l) (edits l) in q.abort) x;
  }
  process-quiet m tail x y (process.each_lwp f edits) passive = record {
    seen =
        ap (λ ls. record (uncontrolled_process x) { lwps = ls })
        (map_each-all_hidden uncontrolled_lwp f x.lwps
        (λ l. let q = edits-quiet m passive l (f l) (edits l) in q.seen));
    tame = λ it. record {
      no_kill = it.no_kill;
      unwatched = it.unwatched;
      lwps = tame-each covers pid f (λ l. let q = edits-quiet m passive l (f l) (edits l) in q.abort) x.lwps it.lwps;
    };
  }
  process-quiet m tail x y (process.control_is {c = c} e) passive =
      let q = control-quiet m x.control c e passive in
      record {
        seen = refl;
        tame = λ it. record { no_kill = q.no_kill it.no_kill; unwatched = q.areas ∙ it.unwatched; lwps = it.lwps };
      }
  process-quiet m tail x y _ passive = no-way passive

  processes-quiet : (m : Message) (tail : List ℕ) → is_passive_message m ≡ true → (x y : TracedProcess)
      → ProcessEdits m tail x y → IsQuiet x y
  processes-quiet m tail passive =
      process-edits-relate m tail IsQuiet (λ x. record { seen = refl; tame = λ it. it })
      (λ x y z one two. record { seen = two.seen ∙ one.seen; tame = λ it. two.tame (one.tame it) })
      (λ x y e. process-quiet m tail x y e passive)

-- a process that looks the same but for what controllers set
pub looks-same : (s : TracedSystem) (pid : ℕ) (p : TracedProcess) (f : TracedProcess → TracedProcess)
    → process_of s pid ≡ Some p → uncontrolled_process (f p) ≡ uncontrolled_process p
    → uncontrolled_system (with_process pid f s) ≡ uncontrolled_system s
unfolding uncontrolled_system with_process
looks-same s pid p f found same =
    ap (λ ps. record (uncontrolled_system s) { processes = ps })
    (map_each-change_under uncontrolled_process pid f (λ y. y) s.processes
    (λ x is. let it : p ≡ x = same_Some p x (sym found ∙ is) in
    ap (λ (z : TracedProcess). uncontrolled_process (f z)) (sym it) ∙ same ∙ ap uncontrolled_process it)
    ∙ change-same pid (λ y. y) (λ y. refl) (map_each uncontrolled_process s.processes))

pub record IsQuietIn (covers : Covers) (s t : TracedSystem) : Type 0 where
  pub seen : seen covers t ≡ seen covers s
  pub tame : IsTame covers s → IsTame covers t

pub message-quiet : (covers : Covers) (s : TracedSystem) (pid : ℕ) (p : TracedProcess) (m : Message) (tail : List ℕ)
    (t : TracedSystem) → MessageEdit s pid p m tail t → process_of s pid ≡ Some p → is_passive_message m ≡ true
    → IsQuietIn covers s t
unfolding is_passive_message
message-quiet covers s pid p m tail t made.nothing found passive = record { seen = refl; tame = λ it. it }
message-quiet covers s pid p m tail t (made.a_process f edits) found passive =
    let q = processes-quiet covers pid m tail passive p (f p) edits in
    record {
      seen = seen-by-bare covers s (with_process pid f s) (looks-same s pid p f found q.seen);
      tame = tame-found covers pid f p s found q.tame;
    }
message-quiet covers s pid p m tail t _ found passive = no-way passive
