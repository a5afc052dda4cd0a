use Rattle.std.proofs.Common.{◌≡◌, ◌∷◌, ◌++◌, ℕ, Option, Some, None, List, [], map, refl, sym, ap, ◌∙◌, subst}
use Rattle.std.proofs.lemmas.List.{append-nil, append_assoc}
use Rattle.pr_model.specs.Readers.{size_seen, space_seen}
use Rattle.pr_model.specs.Records.{fds_of, lstatus_of, map_entry_of, map_of, psinfo_of, statuses_of_lwps}
use Rattle.pr_model.specs.Legal.{state_after}
use Rattle.pr_model.specs.State.{TracedLwp, TracedProcess, TracedState, TracedSystem, live_process}
use Rattle.pr_model.specs.Statuses.{lwpstatus_of}
use Rattle.pr_model.specs.declared.events.Entry.{Entry}
use Rattle.pr_num.specs.ById.{map_each}
use Rattle.pr_num.specs.Files.{FileTable}
use Rattle.pr_num.specs.Spaces.{Space, mapped_size}
use Rattle.pr_parts.specs.PendingSignals.{Pending}
use Rattle.pr_rec.specs.declared.lwps.LwpStatus.{LwpStatus}
use Rattle.pr_tool_laws.proofs.Pstack.StackReads.{own-seen}
use Rattle.pr_truss_laws.specs.Stills.{IsFrozen, IsUndisturbed, unsignalled}
use Rattle.pr_core_laws.specs.Spared.{IsSpared, IsSparedIn, StoodIn, signalled_as}

-- A process that others left alone, and spared, is as it was, and so are its records.

-- ---- it is as it was

abbrev pending_of : TracedLwp → Pending
pending_of l = l.pending

-- with what is equal but for what pends, and what pends, lwps are equal
lwp-same : (k l : TracedLwp) → unsignalled k ≡ unsignalled l → k.pending ≡ l.pending → k ≡ l
lwp-same k l rest pending =
    ap (λ (x : TracedLwp). record x { pending = k.pending }) rest
    ∙ ap (λ (x : Pending). record l { pending = x }) pending

same-entry : (e d : ℕ × TracedLwp) → e.0 ≡ d.0 → e.1 ≡ d.1 → e ≡ d
same-entry e d id lwp = ap (λ (n : ℕ). (n, e.1)) id ∙ ap (λ (l : TracedLwp). (d.0, l)) lwp

cons-parts : {X : Type 0} (x y : X) (xs ys : List X) → x ∷ xs ≡ y ∷ ys → (x ≡ y) × (xs ≡ ys)
cons-parts x y xs ys same = (cc, cc)

lwps-same : (es ds : List (ℕ × TracedLwp)) → map_each unsignalled es ≡ map_each unsignalled ds
    → map_each pending_of es ≡ map_each pending_of ds → es ≡ ds
lwps-same [] [] rest pending = refl
lwps-same [] (d ∷ ds) rest pending = absurd (cc)
lwps-same (e ∷ es) [] rest pending = absurd (cc)
lwps-same (e ∷ es) (d ∷ ds) rest pending =
    let rests =
    cons-parts (e.0, unsignalled e.1) (d.0, unsignalled d.1) (map_each unsignalled es) (map_each unsignalled ds) rest in
    let pendings =
    cons-parts (e.0, pending_of e.1) (d.0, pending_of d.1) (map_each pending_of es) (map_each pending_of ds) pending in
    let head : e ≡ d =
    same-entry e d (ap (λ (x : ℕ × TracedLwp). x.0) rests.0)
    (lwp-same e.1 d.1 (ap (λ (x : ℕ × TracedLwp). x.1) rests.0) (ap (λ (x : ℕ × Pending). x.1) pendings.0)) in
    ap (λ (x : ℕ × TracedLwp). x ∷ es) head
    ∙ ap (λ (xs : List (ℕ × TracedLwp)). d ∷ xs) (lwps-same es ds rests.1 pendings.1)

pub same-self : (p : TracedProcess) → p ≡ signalled_as p p
same-self p = refl

module _ (p q r : TracedProcess) (before : q ≡ signalled_as p q) (alone : IsUndisturbed q r) (spared : IsSpared p r)
    (own : p.borrower ≡ None) where
  own-before : q.borrower ≡ None
  own-before = ap (λ (x : TracedProcess). x.borrower) before ∙ own

  same-lwps : r.lwps ≡ q.lwps
  same-lwps =
      lwps-same r.lwps q.lwps alone.same (spared.pending
      ∙ ap (λ (x : TracedProcess). map_each pending_of x.lwps) (sym before))

  same-parent : r.parent ≡ q.parent
  same-parent = spared.parent ∙ ap (λ (x : TracedProcess). x.parent) (sym before)

  same-job : r.job_stop ≡ q.job_stop
  same-job = spared.job_stop ∙ ap (λ (x : TracedProcess). x.job_stop) (sym before)

  same-borrower : r.borrower ≡ q.borrower
  same-borrower = (alone.memory.own own-before).0 ∙ sym own-before

  same-space : r.space ≡ q.space
  same-space = (alone.memory.own own-before).1

  -- all but what pends for it and its lender
  pub same-next : r ≡ signalled_as p r
  same-next =
      alone.rest
      ∙ ap (λ (x : ℕ). record q {
        parent = x;
        space = r.space;
        lender = r.lender;
        borrower = r.borrower;
        pending = r.pending;
        job_stop = r.job_stop;
        lwps = r.lwps;
      }) same-parent
      ∙ ap (λ (x : Space). record q {
        space = x;
        lender = r.lender;
        borrower = r.borrower;
        pending = r.pending;
        job_stop = r.job_stop;
        lwps = r.lwps;
      }) same-space
      ∙ ap (λ (x : Option ℕ). record q {
        lender = r.lender;
        borrower = x;
        pending = r.pending;
        job_stop = r.job_stop;
        lwps = r.lwps;
      }) same-borrower
      ∙ ap (λ x. record q { lender = r.lender; pending = r.pending; job_stop = x; lwps = r.lwps }) same-job
      ∙ ap (λ (x : List (ℕ × TracedLwp)). record q { lender = r.lender; pending = r.pending; lwps = x }) same-lwps
      ∙ ap (λ (x : TracedProcess). record x { lender = r.lender; pending = r.pending }) before

-- ---- its records

statuses-same : (p q : TracedProcess) (es : List (ℕ × TracedLwp))
    → statuses_of_lwps (signalled_as p q) es ≡ statuses_of_lwps p es
unfolding lwpstatus_of
statuses-same p q [] = refl
statuses-same p q (e ∷ es) = ap (λ (ls : List LwpStatus). lwpstatus_of p e.0 e.1 ∷ ls) (statuses-same p q es)

module _ (s t : TracedSystem) (pid : ℕ) (p q : TracedProcess) (same : q ≡ signalled_as p q) where
  pub lstatus-same : lstatus_of q ≡ lstatus_of p
  unfolding lstatus_of
  lstatus-same = ap lstatus_of same ∙ statuses-same p q p.lwps

  pub dispositions-same : q.dispositions ≡ p.dispositions
  dispositions-same = ap (λ (x : TracedProcess). x.dispositions) same

  pub fds-same : (files : FileTable) → fds_of files q ≡ fds_of files p
  unfolding fds_of
  fds-same files = ap (fds_of files) same

  module _ (own : p.borrower ≡ None) where
    pub own-same : q.borrower ≡ None
    own-same = ap (λ (x : TracedProcess). x.borrower) same ∙ own

    pub seen-same : space_seen s q ≡ p.space
    seen-same = own-seen s q own-same ∙ ap (λ (x : TracedProcess). x.space) same

    pub map-same : map_of s q ≡ map_of t p
    unfolding map_of
    map-same =
        ap (map (map_entry_of q.program)) (seen-same ∙ sym (own-seen t p own))
        ∙ ap (λ (x : TracedProcess). map (map_entry_of x.program) (space_seen t p)) same

    size-same : size_seen s q ≡ size_seen t p
    unfolding size_seen
    size-same = ap mapped_size (seen-same ∙ sym (own-seen t p own))

    pub psinfo-same : psinfo_of s pid q ≡ psinfo_of t pid p
    unfolding psinfo_of
    psinfo-same =
        ap (λ (n : ℕ). record (psinfo_of s pid q) { mapped = n }) size-same
        ∙ ap (λ (x : TracedProcess). record (psinfo_of s pid x) { mapped = size_seen t p }) same

-- ---- over a stretch of a history

-- who stood still does so with other signals pending
pub frozen-same : (p q : TracedProcess) → q ≡ signalled_as p q → IsFrozen p → IsFrozen q
frozen-same p q same frozen = subst IsFrozen (sym same) (record { each = λ id l there. frozen.each id l there })

module _ (pid : ℕ) (p : TracedProcess) (first : TracedState) (before between : List Entry) (e : Entry) where
  pub spared-front : IsSparedIn pid p first before (between ++ e ∷ []) → IsSparedIn pid p first before between
  spared-front spared = record {
    parent = λ front back q parts live.
        spared.parent front (back ++ e ∷ []) q
        (ap (λ (es : List Entry). es ++ e ∷ []) parts ∙ append_assoc front back (e ∷ [])) live;
    unsent = λ front d back parts.
        spared.unsent front d (back ++ e ∷ [])
        (ap (λ (es : List Entry). es ++ e ∷ []) parts ∙ append_assoc front (d ∷ back) (e ∷ []));
  }

  -- a front of a list that is one longer is all of it, or a front of the list
  data IsFrontOf (xs front : List Entry) : Type 0 where
    all_of : front ≡ xs ++ e ∷ [] → IsFrontOf xs front
    less : (back : List Entry) → xs ≡ front ++ back → IsFrontOf xs front

  front-of : (xs front back : List Entry) → xs ++ e ∷ [] ≡ front ++ back → IsFrontOf xs front
  front-of xs [] back parts = less xs refl
  front-of [] (f ∷ []) back parts =
      let here : e ≡ f = cc in all_of (ap (λ (x : Entry). x ∷ []) (sym here))
  front-of [] (f ∷ g ∷ front) back parts = absurd (cc)
  front-of (x ∷ xs) (f ∷ front) back parts =
      let here : x ≡ f = cc in
      let rest : xs ++ e ∷ [] ≡ front ++ back = cc in
      by here (front-of xs front back rest)
    where
      by : x ≡ f → IsFrontOf xs front → IsFrontOf (x ∷ xs) (f ∷ front)
      by here (all_of is) = all_of (ap (λ (es : List Entry). f ∷ es) is
          ∙ ap (λ (y : Entry). y ∷ (xs ++ e ∷ [])) (sym here))
      by here (less others is) =
          less others (ap (λ (es : List Entry). x ∷ es) is ∙ ap (λ (y : Entry). y ∷ (front ++ others)) here)

  -- an entry later the process stood all the time, where it is as it was then
  pub stood-more : (q : TracedProcess) → StoodIn pid p first before between
      → live_process (state_after first (before ++ (between ++ e ∷ []))).system pid ≡ Some q → q ≡ signalled_as p q
      → StoodIn pid p first before (between ++ e ∷ [])
  stood-more q stood live same =
      record { each = λ front back parts. by front (front-of between front back parts) }
    where
      by : (front : List Entry) → IsFrontOf between front
          → (r : TracedProcess)
          × ((live_process (state_after first (before ++ front)).system pid ≡ Some r) × (r ≡ signalled_as p r))
      by front (all_of is) =
          (q, (ap (λ (es : List Entry). live_process (state_after first (before ++ es)).system pid) is ∙ live, same))
      by front (less back is) = stood.each front back is

pub stood-none : (pid : ℕ) (p : TracedProcess) (first : TracedState) (before : List Entry)
    → live_process (state_after first before).system pid ≡ Some p → StoodIn pid p first before []
stood-none pid p first before live = record { each = from }
  where
    from : (front back : List Entry) → [] ≡ front ++ back
        → (q : TracedProcess)
        × ((live_process (state_after first (before ++ front)).system pid ≡ Some q) × (q ≡ signalled_as p q))
    from [] back parts =
        (p, (ap (λ (es : List Entry). live_process (state_after first es).system pid) (append-nil before) ∙ live, refl))
    from (f ∷ front) back parts = absurd (cc)
