use Rattle.std.proofs.Common.{◌≡◌, ◌≢◌, ◌==◌, ◌<◌, ℕ, Bool, true, false, cond, Option, Some, None, List, length, refl, sym, subst, ap, ◌∙◌, inl, inr}
use Rattle.std.proofs.lemmas.Bool.{cases_eq, eq-eqb, false≢true, ne_eqb}
use Rattle.std.proofs.lemmas.Option.{none-some, same_Some}
use Rattle.std.specs.List.{slice_get}
use Rattle.pr_model.specs.declared.calls.Reply.{Reply}
use Rattle.pr_rec.specs.declared.lwps.LwpStatus.{LwpStatus}
use Rattle.pr_truss.specs.Stops.{followed_child}
use Rattle.pr_truss.specs.Trusses.{TrussState, with_stage}
use Rattle.pr_truss.specs.declared.processes.Traced.{Traced}
use Rattle.pr_truss.specs.declared.stages.AfterClosing.{AfterClosing}
use Rattle.pr_truss.specs.declared.stages.Stage.{Stage}
use Rattle.pr_truss.specs.declared.stages.Stage.TheVariants.{ReadingText, OpeningChildControl, Running, Closing}
use Rattle.pr_truss_laws.proofs.Files.HeldLemmas.{at_place}
use Rattle.pr_truss_laws.proofs.Replies.ReplySteps as step
use Rattle.pr_truss_laws.proofs.Replies.ReplySteps.{GoesOn, StopOver}
use Rattle.pr_report_laws.proofs.UnopenedChildren.Claims.{Comes, IsDone, IsFree, IsSet, Names, WasClaimed, WasFree, WasSet, claim_of, opened, sets, was_free, was_set, watched}
use Rattle.pr_report_laws.proofs.Invariant.StandLemmas.{Each, EachBut}
use Rattle.pr_report_laws.proofs.Invariant.Standing.{has_read}
use Rattle.pr_report_laws.specs.Watching.{is_away}

-- What comes next in truss, and what it leaves of the children of forks that truss is to open.

pub not-itself : {X : Type 0} (n : ℕ) → (n == n) ≡ false → X
not-itself n is = absurd (false≢true (sym is ∙ eq-eqb n n refl))

-- ---- a process that the step is not about

-- its opening is no step of those that count where they are accepted
pub done-here : (t : TrussState) (r : Reply) (place : ℕ) → is_away false t.stage place ≡ false → IsDone t r place
done-here t r place here = record {
  start = λ is. not-itself place (sym (ap (λ (st : Stage). is_away false st place) is) ∙ here);
  release = λ parent is. not-itself place (sym (ap (λ (st : Stage). is_away false st place) is) ∙ here);
}

-- where it becomes free, or PR_FORK is set, that was so
pub record Known (t : TrussState) (r : Reply) (x : Traced) : Type 0 where
  pub free : x.attached ≡ true → x.old ≡ 0 → WasFree t r x.pid
  pub set : x.attached ≡ true → WasSet t r x.pid

-- the same where the next stage does not read it
pub record KnownAt (t : TrussState) (r : Reply) (stage : Stage) (place : ℕ) (x : Traced) : Type 0 where
  pub free : has_read stage place ≡ false → x.attached ≡ true → x.old ≡ 0 → WasFree t r x.pid
  pub set : x.attached ≡ true → WasSet t r x.pid

pub known-at : (t : TrussState) (r : Reply) (stage : Stage) (place : ℕ) (x : Traced) → Known t r x
    → KnownAt t r stage place x
known-at t r stage place x k = record { free = λ read on none. k.free on none; set = k.set }

pub known-off : (t : TrussState) (r : Reply) (x : Traced) → x.attached ≡ false → Known t r x
known-off t r x off = record {
  free = λ on none. absurd (false≢true (sym off ∙ on));
  set = λ on. absurd (false≢true (sym off ∙ on));
}

pub known-beside : (t : TrussState) (r : Reply) (stage : Stage) (place : ℕ) → t.stage ≡ stage → place < length t.traced
    → is_away false stage place ≡ false → has_read stage place ≡ false → Known t r (at_place t.traced place)
known-beside t r stage place is within here read =
    let away : is_away false t.stage place ≡ false = ap (λ (st : Stage). is_away false st place) is ∙ here in
    record {
      free =
          λ on none. was_free place
          (record {
            within = within;
            attached = on;
            here = away;
            read = ap (λ (st : Stage). has_read st place) is
                ∙ read;
            none = none;
          }) refl;
      set = λ on. was_set place (watched within on away) refl (done-here t r place away);
    }

module _ (t : TrussState) (r : Reply) where
  -- what is asked of a state that comes next, if truss does not leave its processes
  abbrev pub Goes : TrussState → Type 0
  Goes u = u.leaving ≡ false → Comes t r u

  -- ---- nothing is to be done for a process

  pub record IsIdle (w u : TrussState) : Type 0 where
    pub same : u.traced ≡ w.traced
    pub claims : (place : ℕ) → claim_of t.options u.stage place ≡ None
    pub sets : (place : ℕ) → sets u.stage place ≡ false
    pub names : Names t.options u.traced u.stage

  pub idle-comes : (w u : TrussState) → t.leaving ≡ false → Each (Known t r) w.traced → IsIdle w u → Comes t r u
  idle-comes w u stays known idle = record {
    stays = stays;
    free = λ place f. let k : Known t r (at_place u.traced place) = same place f.within in k.free f.attached f.none;
    claims = λ place c within is. absurd (none-some c (sym (idle.claims place) ∙ is));
    set = set;
    names = idle.names;
  }
    where
      same : Each (Known t r) u.traced
      same = subst (Each (Known t r)) (sym idle.same) known

      set : (place : ℕ) → IsSet u.traced u.stage place → WasSet t r (at_place u.traced place).pid
      set place (watched within on here) = let k : Known t r (at_place u.traced place) = same place within in k.set on
      set place (opened within is) = absurd (false≢true (sym (idle.sets place) ∙ is))

  -- truss goes on, if it does not leave its processes
  pub on-goes : (w u : TrussState) (given : Bool) → t.leaving ≡ false → w.options ≡ t.options
      → Each (Known t r) w.traced → GoesOn w given u → Goes u
  on-goes w u given stays same known (step.unfollows on _ _) off = absurd (false≢true (sym off ∙ on))
  on-goes w u given stays same known (step.closes_first on _ _) off = absurd (false≢true (sym off ∙ on))
  on-goes w u given stays same known (step.opens_next is) off = idle-comes w u stays known (record {
    same = refl;
    claims = λ place. refl;
    sets = λ place. refl;
    names = inl (w.begun, ap (λ x. slice_get x.pids w.begun) (sym same) ∙ is);
  })
  on-goes w u given stays same known _ off =
      idle-comes w u stays known (record { same = refl; claims = λ place. refl; sets = λ place. refl; names = tt })

  -- ---- a step that is about the process at one place

  pub record IsAbout (u : TrussState) (q : ℕ) : Type 0 where
    pub others : (place : ℕ) → place < length u.traced → place ≢ q → KnownAt t r u.stage place (at_place u.traced place)
    pub free : IsFree u.traced u.stage q → WasFree t r (at_place u.traced q).pid
    pub set : IsSet u.traced u.stage q → WasSet t r (at_place u.traced q).pid
    pub sets : (place : ℕ) → place ≢ q → sets u.stage place ≡ false
    pub none : (place : ℕ) → place ≢ q → claim_of t.options u.stage place ≡ None
    pub claims : (c : ℕ) → claim_of t.options u.stage q ≡ Some c → WasClaimed t r (at_place u.traced q).pid c
    pub names : Names t.options u.traced u.stage

  pub about-comes : (u : TrussState) (q : ℕ) → t.leaving ≡ false → IsAbout u q → Comes t r u
  about-comes u q stays a = record { stays = stays; free = free; claims = claims; set = set; names = a.names }
    where
      free : (place : ℕ) → IsFree u.traced u.stage place → WasFree t r (at_place u.traced place).pid
      free place f = elim (cases_eq place q) [
        | inl same ↦ subst (λ n. WasFree t r (at_place u.traced n).pid) (sym same)
            (a.free (subst (IsFree u.traced u.stage) same f))
        | inr other ↦ let k = a.others place f.within other in k.free f.read f.attached f.none
      ]

      claims : (place c : ℕ) → place < length u.traced → claim_of t.options u.stage place ≡ Some c
          → WasClaimed t r (at_place u.traced place).pid c
      claims place c within is = elim (cases_eq place q) [
        | inl same ↦ subst (λ n. WasClaimed t r (at_place u.traced n).pid c) (sym same)
            (a.claims c (ap (claim_of t.options u.stage) (sym same) ∙ is))
        | inr other ↦ absurd (none-some c (sym (a.none place other) ∙ is))
      ]

      apart : (place : ℕ) → place ≢ q → IsSet u.traced u.stage place → WasSet t r (at_place u.traced place).pid
      apart place other (watched within on here) = let k = a.others place within other in k.set on
      apart place other (opened within is) = absurd (false≢true (sym (a.sets place other) ∙ is))

      set : (place : ℕ) → IsSet u.traced u.stage place → WasSet t r (at_place u.traced place).pid
      set place x = elim (cases_eq place q) [
        | inl same ↦ subst (λ n. WasSet t r (at_place u.traced n).pid) (sym same)
            (a.set (subst (IsSet u.traced u.stage) same x))
        | inr other ↦ apart place other x
      ]

  -- its files are closed
  closes-set : (ts : List Traced) (q : ℕ) (next : AfterClosing) {X : Type 0} → IsSet ts (Closing q next) q → X
  closes-set ts q next (watched within on here) = not-itself q here
  closes-set ts q next (opened within is) = absurd (false≢true is)

  pub closing-goes : (w : TrussState) (q : ℕ) (next : AfterClosing) → (w.leaving ≡ false → t.leaving ≡ false)
      → ((place : ℕ) → place < length w.traced → place ≢ q → KnownAt t r (Closing q next) place
      (at_place w.traced place)) → Goes (with_stage w (Closing q next))
  closing-goes w q next leaves others stays = about-comes (with_stage w (Closing q next)) q (leaves stays) (record {
    others = others;
    free = λ f. not-itself q f.here;
    set = closes-set w.traced q next;
    sets = λ place other. refl;
    none = λ place other. refl;
    claims = λ c is. absurd (none-some c is);
    names = tt;
  })

  -- what is known where the stop of a process was looked at
  pub record Ready (w : TrussState) (q : ℕ) : Type 0 where
    pub leaves : w.leaving ≡ false → t.leaving ≡ false
    pub options : w.options ≡ t.options
    pub others : EachBut (Known t r) w.traced q
    pub set : (at_place w.traced q).attached ≡ true → WasSet t r (at_place w.traced q).pid

  module _ (w : TrussState) (q : ℕ) (ready : Ready w q) where
    others-at : (stage : Stage) (place : ℕ) → place < length w.traced → place ≢ q
        → KnownAt t r stage place (at_place w.traced place)
    others-at stage place within other =
        known-at t r stage place (at_place w.traced place) (ready.others place within other)

    own-set : (stage : Stage) → sets stage q ≡ false → IsSet w.traced stage q → WasSet t r (at_place w.traced q).pid
    own-set stage none (watched within on here) = ready.set on
    own-set stage none (opened within is) = absurd (false≢true (sym none ∙ is))

    pub over-goes : (next : AfterClosing) → Goes (with_stage w (Closing q next))
    over-goes next = closing-goes w q next ready.leaves (others-at (Closing q next))

    -- it is run
    pub running-goes : Goes (with_stage w (Running q))
    running-goes stays = about-comes (with_stage w (Running q)) q (ready.leaves stays) (record {
      others = others-at (Running q);
      free = λ f. not-itself q f.read;
      set = own-set (Running q) refl;
      sets = λ place other. refl;
      none = λ place other. refl;
      claims = λ c is. absurd (none-some c is);
      names = tt;
    })

    -- a child comes next, of which this is known
    child-goes : (c : ℕ) → WasClaimed t r (at_place w.traced q).pid c → Goes (with_stage w (OpeningChildControl q c))
    child-goes c its stays = about-comes (with_stage w (OpeningChildControl q c)) q (ready.leaves stays) (record {
      others = others-at (OpeningChildControl q c);
      free = λ f. not-itself q f.read;
      set = own-set (OpeningChildControl q c) refl;
      sets = λ place other. refl;
      none = λ place other. ap (λ b. cond b (Some c) None) (ne_eqb q place (λ same. other (sym same)));
      claims =
          λ d is. subst (WasClaimed t r (at_place w.traced q).pid)
          (same_Some c d (sym (ap (λ b. cond b (Some c) None) (eq-eqb q q refl)) ∙ is)) its;
      names = tt;
    })

    -- its stop is over
    pub stop-goes : (child : Option ℕ) (u : TrussState)
        → ((c : ℕ) → child ≡ Some c → WasClaimed t r (at_place w.traced q).pid c) → StopOver w q child u → Goes u
    stop-goes child u known (step.runs _) = running-goes
    stop-goes child u known (step.leaves on) = λ stays. absurd (false≢true (sym stays ∙ on))
    stop-goes child u known (step.opens_child {pid = c} _) = child-goes c (known c refl)
    stop-goes child u known (step.frees_child on) = λ stays. absurd (false≢true (sym stays ∙ on))

    pub text-goes : (l : LwpStatus)
        → ((c : ℕ) → followed_child t.options l ≡ Some c → WasClaimed t r (at_place w.traced q).pid c)
        → (from len : ℕ) → Goes (with_stage w (ReadingText q l from len))
    text-goes l known from len stays =
        about-comes (with_stage w (ReadingText q l from len)) q (ready.leaves stays) (record {
          others = others-at (ReadingText q l from len);
          free = λ f. not-itself q f.read;
          set = own-set (ReadingText q l from len) refl;
          sets = λ place other. refl;
          none =
              λ place other. ap (λ b. cond b (followed_child t.options l) None)
              (ne_eqb q place (λ same. other (sym same)));
          claims = λ c is. known c (sym (ap (λ b. cond b (followed_child t.options l) None) (eq-eqb q q refl)) ∙ is);
          names = tt;
        })
