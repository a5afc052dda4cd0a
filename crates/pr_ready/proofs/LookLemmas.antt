use Rattle.std.proofs.Common.{◌≡◌, ◌⊎◌, ◌||◌, ◌&&◌, ◌<◌, ℕ, Bool, true, false, eqb, List, [], ◌∷◌, length, Some, refl, ap, arith, sym, subst, ◌∙◌, inl, inr}
use Rattle.std.specs.List.{list_any, slice_get}
use Rattle.std.proofs.lemmas.Option.{same_Some}
use Rattle.std.proofs.lemmas.Bool.{and_parts, cases_Bool, eq-eqb, eqb-true, false≢true, or_parts, true≢false}
use Rattle.pr_num.specs.Limits.{process_limit}
use Rattle.pr_model.specs.State.{TracedLwp, TracedSystem}
use Rattle.pr_model.specs.Running.{is_asleep}
use Rattle.pr_model.specs.declared.lwps.Phase.{Phase}
use Rattle.pr_model.specs.declared.lwps.Phase.TheVariants.{Asleep}
use Rattle.pr_ready.specs.Around.{is_around}
use Rattle.pr_ready.specs.Ready.{Covers, CoversEach, Grows, GrowsBut, IsWoken, ReadySets, is_at_pipe, is_dozing, is_woken}
use Rattle.pr_ready_laws.specs.Reach.{Reach, changes_files, itself, reaches_around}
use Rattle.pr_ready_laws.specs.Left.{dozes, sleeps_at_pipe, wakes_between}
use Rattle.pr_ready.specs.Steps.{KeepsUp}
use Rattle.pr_ready.specs.declared.around.Around.{Around}

-- Processes are looked at one after another.

-- ---- sets that grow

pub grows-next : (a b d : ReadySets) → Grows a b → Grows b d → Grows a d
grows-next a b d one two = record {
  movable = λ pid has. two.movable pid (one.movable pid has);
  at_pipes = λ pid has. two.at_pipes pid (one.at_pipes pid has);
  dozing = λ pid has. two.dozing pid (one.dozing pid has);
  moments = λ pid moment due. two.moments pid moment (one.moments pid moment due);
}

pub but-next : (which : ℕ) (a b d : ReadySets) → GrowsBut which a b → Grows b d → GrowsBut which a d
but-next which a b d one two = record {
  movable = λ pid apart has. two.movable pid (one.movable pid apart has);
  at_pipes = λ pid apart has. two.at_pipes pid (one.at_pipes pid apart has);
  dozing = λ pid apart has. two.dozing pid (one.dozing pid apart has);
  moments = λ pid moment due. two.moments pid moment (one.moments pid moment due);
}

pub grows-same : (a : ReadySets) → Grows a a
grows-same a = record {
  movable = λ pid has. has;
  at_pipes = λ pid has. has;
  dozing = λ pid has. has;
  moments = λ pid moment due. due;
}

-- sets that grow leave nobody out
pub grows-but : (which : ℕ) (a b : ReadySets) → Grows a b → GrowsBut which a b
grows-but which a b it = record {
  movable = λ pid apart has. it.movable pid has;
  at_pipes = λ pid apart has. it.at_pipes pid has;
  dozing = λ pid apart has. it.dozing pid has;
  moments = it.moments;
}

module _ (answer : ℕ × ℕ → Bool) (s : TracedSystem) where
  -- a process that was looked at
  pub covers-more : (pid : ℕ) (a b : ReadySets) → Covers answer s a pid → Grows a b → Covers answer s b pid
  covers-more pid a b it more = record {
    moves = λ p live said. more.movable pid (it.moves p live said);
    waits = λ p live said. more.at_pipes pid (it.waits p live said);
    dozes = λ p live said. more.dozing pid (it.dozes p live said);
    wakes = λ p moment live said. more.moments pid moment (it.wakes p moment live said);
  }

  pub each-more : (is : ℕ → Bool) (a b : ReadySets) → CoversEach is answer s a → Grows a b → CoversEach is answer s b
  each-more is a b it more = record { each = λ pid one small. covers-more pid a b (it.each pid one small) more }

  -- those of one kind or of another
  pub each-either : (is other : ℕ → Bool) (r : ReadySets) → CoversEach is answer s r → CoversEach other answer s r
      → CoversEach (λ pid. is pid || other pid) answer s r
  each-either is other r one two = record { each = λ pid some small. by pid small (cases_Bool (is pid)) some }
    where
      by : (pid : ℕ) → pid < process_limit → (is pid ≡ true) ⊎ (is pid ≡ false) → (is pid || other pid) ≡ true
          → Covers answer s r pid
      by pid small (inl said) some = one.each pid said small
      by pid small (inr none) some = two.each pid (rw none at some) small

  pub each-one : (which : ℕ) (r : ReadySets) → (which < process_limit → Covers answer s r which)
      → CoversEach (λ pid. eqb which pid) answer s r
  each-one which r it = record {
    each = λ pid same small.
        let at = eqb-true which pid same in
        subst (λ n. Covers answer s r n) at (it (subst (λ n. n < process_limit) (sym at) small));
  }

  -- ---- steps

  module _ (files : Bool) (old mid new : ReadySets) (woken : files ≡ true → IsWoken answer s mid.at_pipes new.movable)
      (last : Grows mid new) where
    pub follows-call : (touches : ℕ → Bool) → CoversEach touches answer s mid → Grows old mid
        → KeepsUp touches files false answer s old new
    follows-call touches covers first = record {
      touched = λ pid one small. covers-more pid mid new (covers.each pid one small) last;
      movable = λ pid spared has. last.movable pid (first.movable pid has);
      at_pipes = λ pid spared has. last.at_pipes pid (first.at_pipes pid has);
      dozing = λ pid spared has. last.dozing pid (first.dozing pid has);
      by_files = λ may pid spared has said. (woken may).each pid (first.at_pipes pid has) said;
      by_clock = λ may pid spared small due said. absurd (false≢true may);
      moments = λ pid moment spared small due wakes. last.moments pid moment (first.moments pid moment due);
    }

    module _ (which : ℕ) (around : Around) (wide : Bool) (own : ReadySets)
        (covers : which < process_limit → Covers answer s own which) (first : GrowsBut which old own)
        (beside : wide ≡ true → CoversEach (is_around around) answer s mid) (next : Grows own mid) where
      abbrev touches : ℕ → Bool
      touches pid = eqb which pid || (wide && is_around around pid)

      before : GrowsBut which old mid
      before = but-next which old own mid first next

      apart : (pid : ℕ) → touches pid ≡ false → pid ≡ which → ⊥
      apart pid spared same =
          true≢false
          (sym (eq-eqb which pid (sym same)) ∙ (or_parts (eqb which pid) (wide && is_around around pid) spared).0)

      touched : (pid : ℕ) → touches pid ≡ true → pid < process_limit → Covers answer s mid pid
      touched pid one small = by (cases_Bool (eqb which pid))
        where
          by : (eqb which pid ≡ true) ⊎ (eqb which pid ≡ false) → Covers answer s mid pid
          by (inl same) =
              covers-more pid own mid ((each-one which own covers).each pid same small) next
          by (inr differs) =
              let parts = and_parts wide (is_around around pid) (rw differs at one) in
              (beside parts.0).each pid parts.1 small

      pub follows-turn : KeepsUp touches files false answer s old new
      follows-turn = record {
        touched = λ pid one small. covers-more pid mid new (touched pid one small) last;
        movable = λ pid spared has. last.movable pid (before.movable pid (apart pid spared) has);
        at_pipes = λ pid spared has. last.at_pipes pid (before.at_pipes pid (apart pid spared) has);
        dozing = λ pid spared has. last.dozing pid (before.dozing pid (apart pid spared) has);
        by_files = λ may pid spared has said.
            (woken may).each pid (before.at_pipes pid (apart pid spared) has) said;
        by_clock = λ may pid spared small due said. absurd (false≢true may);
        moments = λ pid moment spared small due wakes. last.moments pid moment (before.moments pid moment due);
      }

  -- a process alone, which was looked at
  pub follows-alone : (which : ℕ) (old new : ReadySets) (reach : Reach)
      → (which < process_limit → Covers answer s new which)
      → GrowsBut which old new → reach ≡ itself → (around : Around)
      → KeepsUp (λ other. eqb which other || (reaches_around reach && is_around around other))
      (changes_files reach) false
      answer s old new
  follows-alone which old new reach covers first own around =
      follows-turn (changes_files reach) old new new (λ may. absurd (false≢true (sym (ap changes_files own) ∙ may)))
      (grows-same new) which around (reaches_around reach) new covers first
      (λ wide. absurd (false≢true (sym (ap reaches_around own) ∙ wide))) (grows-same new)

-- ---- a process with one lwp

-- what its lwp does not
only : (f : ℕ × TracedLwp → Bool) (es : List (ℕ × TracedLwp)) (e : ℕ × TracedLwp) → length es ≡ 1
    → slice_get es 0 ≡ Some e
    → f e ≡ false → list_any f es ≡ false
only f [] e one at fails = absurd (omega arith)
only f (x ∷ []) e one at fails = let same : x ≡ e = same_Some x e at in rw (same, fails) refl
only f (x ∷ y ∷ es) e one at fails = absurd (omega arith)

-- one that is not asleep sleeps nowhere
awake-waits : (ph : Phase) → is_asleep ph ≡ false → sleeps_at_pipe ph ≡ false
awake-waits (Asleep call args since) awake = absurd (true≢false awake)
awake-waits _ awake = refl

awake-dozes : (ph : Phase) → is_asleep ph ≡ false → dozes ph ≡ false
awake-dozes (Asleep call args since) awake = absurd (true≢false awake)
awake-dozes _ awake = refl

awake-wakes : (from to : ℕ) (ph : Phase) → is_asleep ph ≡ false → wakes_between from to ph ≡ false
awake-wakes from to (Asleep call args since) awake = absurd (true≢false awake)
awake-wakes from to _ awake = refl

pub alone-waits : (es : List (ℕ × TracedLwp)) (e : ℕ × TracedLwp) → length es ≡ 1 → slice_get es 0 ≡ Some e
    → is_asleep e.1.phase ≡ false → list_any is_at_pipe es ≡ false
alone-waits es e one at awake = only is_at_pipe es e one at (awake-waits e.1.phase awake)

pub alone-dozes : (es : List (ℕ × TracedLwp)) (e : ℕ × TracedLwp) → length es ≡ 1 → slice_get es 0 ≡ Some e
    → is_asleep e.1.phase ≡ false → list_any is_dozing es ≡ false
alone-dozes es e one at awake = only is_dozing es e one at (awake-dozes e.1.phase awake)

pub alone-wakes : (from to : ℕ) (es : List (ℕ × TracedLwp)) (e : ℕ × TracedLwp) → length es ≡ 1
    → slice_get es 0 ≡ Some e → is_asleep e.1.phase ≡ false → list_any (is_woken from to) es ≡ false
alone-wakes from to es e one at awake = only (is_woken from to) es e one at (awake-wakes from to e.1.phase awake)

pub ruleset alone_laws = (alone-waits, alone-dozes, alone-wakes)
