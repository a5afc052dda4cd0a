use Rattle.std.proofs.Common.{◌≡◌, ◌≢◌, ◌⊎◌, ◌<◌, ◌≤◌, ◌+◌, ◌^◌, ◌++◌, ℕ, Bool, true, false, Option, Some, None, List, [], ◌∷◌, length, refl, sym, subst, ap, ◌∙◌, arith, inl, inr}
use Rattle.std.proofs.lemmas.Bool.{cases_Bool, cases_eq}
use Rattle.std.proofs.lemmas.List.{append_assoc}
use Rattle.std.proofs.lemmas.Option.{none-some}
use Rattle.std.specs.List.{slice_get}
use Rattle.pr_function_hides.proofs.Files.CallFacts.{same-truss}
use Rattle.pr_function_hides.proofs.Replacing.CopyCounts.{opened-or-none, takes-copies}
use Rattle.pr_function_hides.proofs.Tidy.CopyFree.{copies-on, goes-on-there, run-options, truss-is}
use Rattle.pr_function_hides.proofs.Copying.CopyCalls.{planting-starts}
use Rattle.pr_function_hides.proofs.Copying.CopyPlaces.{FitsSo}
use Rattle.pr_function_hides.proofs.Replies.CountedFollows.{truss-weaker}
use Rattle.pr_function_hides.proofs.Replies.CountedWalk.{TrussSo}
use Rattle.pr_function_hides.proofs.Memory.LentMemory.{shown-later}
use Rattle.pr_function_hides.proofs.Replies.OwnFiles.{HasItsFiles}
use Rattle.pr_function_hides.proofs.Memory.MarkedPatches.{patch-there}
use Rattle.pr_function_hides.proofs.Memory.SpaceEdits.{EntryRelates, entry-relates}
use Rattle.pr_function_hides.proofs.Tidy.TidyEntries.{its-lawful, its-legal, lending-at, lived, now-is, sole}
use Rattle.pr_function_hides.proofs.Tidy.TidyKept.{Kept, Lives, Truss, has-files, stays-on}
use Rattle.pr_function_hides.proofs.Tidy.TidyLaw.{kept-at}
use Rattle.pr_function_hides.proofs.CodeThere.TurnCode.{HoldsCode, holds-same, turn-holds}
use Rattle.pr_function_hides.proofs.CodeThere.TurnStands.{Stands}
use Rattle.pr_function_hides.proofs.Memory.UnlentFiles.{never-borrowed}
use Rattle.pr_function_hides.specs.CountedFunctions.{Counts, takes_memory}
use Rattle.pr_function_hides.specs.FunctionHiders.{ArePatchable, IsMarked, IsPatchable, patch_of}
use Rattle.pr_function_hides.specs.Replacing.{WasReplaced}
use Rattle.pr_function_hides.specs.RunsOfTrusses.{IsRunOfTrusses}
use Rattle.pr_function_hides.specs.TidyWrites.{IsTrussAfter}
use Rattle.pr_hidden.specs.Covers.{Covers, Patch}
use Rattle.pr_hidden.specs.Hiders.{Hiders, covers_at, hides, patch_at}
use Rattle.pr_hidden.specs.Sparing.{AreWithin}
use Rattle.pr_lawful.proofs.ProcessParts.HandleLemmas.{control-writes, handle-at}
use Rattle.pr_function_laws.specs.Opened.{functions_at, is_opened}
use Rattle.pr_line.specs.declared.functions.Function.{Function}
use Rattle.pr_line.specs.declared.options.Options.{Options}
use Rattle.pr_model.specs.Handles.{handle_of, is_control}
use Rattle.pr_model.specs.Lawful.{IsFitting, IsLawful}
use Rattle.pr_model.specs.Legal.{IsLegalEntry, after, state_after}
use Rattle.pr_model.specs.LwpTurns.{LwpTurn, turn_of}
use Rattle.pr_model.specs.Readers.{space_seen}
use Rattle.pr_model.specs.State.{TracedProcess, TracedState, live_process}
use Rattle.pr_model.specs.declared.events.Act.{Act}
use Rattle.pr_model.specs.declared.events.Act.TheVariants as act
use Rattle.pr_model.specs.declared.events.Actor.{Actor}
use Rattle.pr_model.specs.declared.events.Actor.TheVariants.{Controller, Lwp, Clock}
use Rattle.pr_model.specs.declared.events.Entry.{Entry}
use Rattle.pr_model.specs.declared.events.Turned.{Turned}
use Rattle.pr_model.specs.declared.handles.Held.{Held}
use Rattle.pr_num.proofs.SearchLemmas.{All-at}
use Rattle.pr_probe_laws.proofs.Hiding.HiddenFacts.{legal-turn}
use Rattle.pr_truss.specs.Asides.{marks_at}
use Rattle.pr_truss.specs.Marks.{has_function}
use Rattle.pr_truss.specs.Trusses.{TrussState, traced_at}
use Rattle.pr_truss.specs.declared.asides.Aside.TheVariants.{Planting}
use Rattle.pr_world.specs.ControllerStates.{ControllerState}
use Rattle.pr_world.specs.Protocol.{controllers_at}

-- The code of a function that counts as planted stands, or its breakpoint does, as long as the memory of its process is
-- not replaced and truss does not leave its processes: what others do leaves it. So it is in what controllers are shown
-- of a process, from the read of the code of a function on, until its breakpoint is planted for the first time.

-- ---- along a history

module _ {n : ℕ} {who : Hiders} {controllers : List ControllerState} {first : TracedState}
    {h : List Entry} (run : IsRunOfTrusses n who controllers first h) where
  abbrev at : List Entry → Covers
  at front = covers_at who first front

  abbrev now : List Entry → TracedState
  now front = state_after first front

  abbrev pub KeptAfter : List Entry → Type 0
  KeptAfter front = Kept who controllers first h front

  abbrev pub kept-there : (front back : List Entry) → h ≡ front ++ back → KeptAfter front
  kept-there = kept-at run

  -- where no breakpoint of a function stands in the process of an id, its code does
  pub record CodeAt (front : List Entry) (pid : ℕ) (f : Patch) : Type 0 where
    pub holds : (p : TracedProcess) → live_process (now front).system pid ≡ Some p
        → patch_at f.at (at front pid).patches ≡ None → HoldsCode f p

  -- a vfork or an exec of it was granted once truss had opened it
  abbrev pub Replaced : List Entry → ℕ → ℕ → Type 0
  Replaced front k pid = (hider : hides who k ≡ true) → WasReplaced k (run-options run k hider) front pid

  -- so it is of a function that truss names, or the memory was replaced
  abbrev pub Known : List Entry → ℕ → Options → ℕ → ℕ → Type 0
  Known front k o pid i =
      (f : Function) → slice_get o.functions i ≡ Some f → CodeAt front pid (patch_of f) ⊎ Replaced front k pid

  -- controllers are shown the code of a function in the process of an id
  pub record ShownAt (front : List Entry) (pid : ℕ) (f : Patch) : Type 0 where
    pub shown : (p : TracedProcess) → live_process (now front).system pid ≡ Some p
        → Stands f (space_seen (now front).system p)

  abbrev pub Shown : List Entry → Options → ℕ → ℕ → Type 0
  Shown front o pid i = (f : Function) → slice_get o.functions i ≡ Some f → ShownAt front pid (patch_of f)

  abbrev pub After : List Entry → ℕ → TrussState → Type 0
  After front k t = IsTrussAfter who controllers first h front k t

  pub record Counted (front : List Entry) : Type 0 where
    pub each : (k : ℕ) → hides who k ≡ true → (t : TrussState) → After front k t → t.leaving ≡ false
        → TrussSo (Known front k t.options) (Shown front t.options) t

  -- ---- an entry

  module _ (front : List Entry) (actor : Actor) (did : Act) (back : List Entry)
      (place : h ≡ front ++ record { actor = actor; act = did } ∷ back) where
    abbrev e : Entry
    e = record { actor = actor; act = did }

    abbrev next_front : List Entry
    next_front = front ++ e ∷ []

    abbrev s : TracedState
    s = now front

    abbrev kept-here : KeptAfter front
    kept-here = kept-there front (e ∷ back) place

    next-place : h ≡ next_front ++ back
    next-place = place ∙ sym (append_assoc front (e ∷ []) back)

    later-is : now next_front ≡ after s e
    later-is = now-is run front e back place kept-here

    lawful-here : IsLawful s
    lawful-here = its-lawful run front e back place kept-here

    legal-entry : IsLegalEntry n s e
    legal-entry = its-legal run front e back place kept-here

    pub replaced-later : (k pid : ℕ) → Replaced front k pid → Replaced next_front k pid
    replaced-later k pid was hider =
        let w = was hider in
        record {
          before = w.before;
          later = w.later ++ e ∷ [];
          id = w.id;
          t = w.t;
          is =
              ap (λ xs. xs ++ e ∷ []) w.is
              ∙ append_assoc w.before (record { actor = Lwp pid w.id; act = act.Turn w.t } ∷ w.later) (e ∷ []);
          takes = w.takes;
          place = w.place;
          within = w.within;
          own = w.own;
          opened = w.opened;
        }

    -- ---- the processes of a truss

    module _ (k : ℕ) (hider : hides who k ≡ true) where
      abbrev truss : Truss who controllers first h front k
      truss = kept-here.trusses k hider

      abbrev t : TrussState
      t = let w = truss in w.t

      files : HasItsFiles k t s
      files = has-files truss

      fits : ArePatchable t.options
      fits =
          let w = truss in
          let i = w.it in
          let names = w.sound.names in
          subst ArePatchable (sym names.options) i.patchable

      module _ (q : ℕ) (within : q < length t.traced) (f : Function) (patchable : IsPatchable f) where
        abbrev pid : ℕ
        pid = (traced_at t q).pid

        abbrev pf : Patch
        pf = patch_of f

        abbrev Keeps : TracedProcess → TracedProcess → Type 0
        Keeps x y = HoldsCode pf x → HoldsCode pf y

        abbrev keeps-same : (x y : TracedProcess) → y.borrower ≡ x.borrower → y.space ≡ x.space → Keeps x y
        keeps-same x y lent space = holds-same pf x y lent space

        abbrev keeps-next : (x y z : TracedProcess) → Keeps x y → Keeps y z → Keeps x z
        keeps-next x y z one two = λ it. two (one it)

        -- an entry that is no turn of it, and writes nothing there
        pub beside-code : ((id : ℕ) → actor ≢ Lwp pid id)
            → ((p r : TracedProcess) (own : p.borrower ≡ None)
            → EntryRelates Keeps keeps-same keeps-next pid p r own s actor did)
            → ((r : TracedProcess) → live_process (now next_front).system pid ≡ Some r
            → patch_at f.at (at next_front pid).patches ≡ None → patch_at f.at (at front pid).patches ≡ None)
            → CodeAt front pid pf → CodeAt next_front pid pf
        beside-code apart relates none code = record {
          holds = λ r later bare.
              let was = lived run front e back place kept-here k hider q within (r, later) in
              let held = code.holds was.0 was.1 (none r later bare) in
              entry-relates Keeps keeps-same keeps-next pid was.0 r held.own n s actor did lawful-here legal-entry apart
              (relates was.0 r held.own) was.1
              (ap (λ (x : TracedState). live_process x.system pid) (sym later-is) ∙ later) held;
        }

      -- ---- an entry of others

      module _ (same : slice_get (controllers_at controllers next_front) k
          ≡ slice_get (controllers_at controllers front) k) (foreign : actor ≢ Controller k) where
        is-later : After next_front k t
        is-later = let w = truss in same ∙ w.is

        abbrev truss-later : Truss who controllers first h next_front k
        truss-later =
            let kept = kept-there next_front back next-place in kept.trusses k hider

        -- the breakpoints that stand are the same
        none-before : (q : ℕ) → q < length t.traced → (f : Function) (r : TracedProcess)
            → live_process (now next_front).system (traced_at t q).pid ≡ Some r
            → patch_at f.at (at next_front (traced_at t q).pid).patches ≡ None
            → patch_at f.at (at front (traced_at t q).pid).patches ≡ None
        none-before q within f r later bare =
            by (patch_at f.at (at front (traced_at t q).pid).patches) refl
          where
            there : Lives s (traced_at t q).pid
            there = lived run front e back place kept-here k hider q within (r, later)

            -- the breakpoint of a function that is marked stands later too
            after-it : (x : TrussState) (w : Truss who controllers first h next_front k) → w.t ≡ x → x ≡ t → (j : ℕ)
                (g : Function) → slice_get t.options.functions j ≡ Some g
                → has_function (marks_at t q).planted j ≡ true
                → patch_at g.at (at next_front (traced_at t q).pid).patches ≡ Some (patch_of g)
            after-it x w one two j g its_name has =
                let stand =
                subst (λ (y : TrussState). q < length y.traced → Lives (now next_front) (traced_at y q).pid
                → has_function (marks_at y q).planted j ≡ true
                → slice_get y.options.functions j ≡ Some g
                → patch_at g.at (at next_front (traced_at y q).pid).patches ≡ Some (patch_of g)) (one ∙ two)
                (λ inside lives marked its.
                let d = w.stand q inside lives in d.each j g its marked) in
                stand within (r, later) has its_name

            by : (o : Option Patch) → patch_at f.at (at front (traced_at t q).pid).patches ≡ o → o ≡ None
            by None found = refl
            by (Some g) found =
                let w = truss in
                let d = w.stand q within there in
                let it =
                patch-there (IsMarked t.options (marks_at t q).planted) f.at (at front (traced_at t q).pid).patches g
                d.all found in
                let mark = it.0 in
                let later_truss = truss-later in
                absurd (none-some (patch_of mark.f)
                (sym bare
                ∙ ap (λ a. patch_at a (at next_front (traced_at t q).pid).patches)
                (sym it.1 ∙ ap (λ (x : Patch). x.at) mark.is)
                ∙ after-it later_truss.t later_truss refl
                (same-truss later_truss.t t _ later_truss.is is-later) mark.function mark.f mark.named mark.marked))

        -- nobody else writes to its processes
        none-writes : (q : ℕ) → q < length t.traced → (j number : ℕ) (x : Held) → j ≢ k
            → handle_of s.opens j number ≡ Some x → is_control x.file ≡ true → x.pid ≢ (traced_at t q).pid
        none-writes q within j number x apart there controls =
            let sole_now = sole run front e back place kept-here k hider q within in
            sole_now.none j number x apart there
            (control-writes x
            (All-at IsFitting s.opens number (Some x) (handle-at s.opens j number x there) lawful-here.fitting)
            controls)

        relates : (q : ℕ) (within : q < length t.traced) (f : Function) (patchable : IsPatchable f)
            (p r : TracedProcess) (own : p.borrower ≡ None) (by : Actor) (it : Act) → by ≢ Controller k
            → EntryRelates (Keeps q within f patchable) (keeps-same q within f patchable)
            (keeps-next q within f patchable) (traced_at t q).pid p r own s by it
        relates q within f patchable p r own (Controller j) (act.Call c reply) other =
            λ handle bytes held m len is there controls its read.
            absurd (none-writes q within j handle held (λ is_k. other (ap Controller is_k)) there controls its)
        relates q within f patchable p r own (Controller j) (act.Turn turned) other = tt
        relates q within f patchable p r own (Controller j) (act.Tick moment) other = tt
        relates q within f patchable p r own (Lwp acting id) it other = tt
        relates q within f patchable p r own Clock it other = tt

        -- a turn of the process that takes no memory
        turn-keeps : (q i : ℕ) → q < length t.traced → (f : Function) → slice_get t.options.functions i ≡ Some f
            → (has_function (marks_at t q).planted i ≡ true) ⊎ Counts t q i → (id : ℕ) (turned : Turned)
            → e ≡ record { actor = Lwp (traced_at t q).pid id; act = act.Turn turned }
            → takes_memory turned.did ≡ false → CodeAt front (traced_at t q).pid (patch_of f)
            → CodeAt next_front (traced_at t q).pid (patch_of f)
        unfolding after
        turn-keeps q i within f named member id turned is leaves code = record {
          holds = λ r later bare.
              let was = lived run front e back place kept-here k hider q within (r, later) in
              let before = none-before q within f r later bare in
              let taken = legal-turn n s own id turned (subst (IsLegalEntry n s) is legal-entry) in
              let w = truss in
              turn-holds (patch_of f) inside own s.system id (record { system = taken.0; turned = turned }) taken.1
              leaves
              (λ p l live there going.
              run.undisturbed.untouched.spares front back own id turned p l k w.t q i f its-place live there
              going hider w.is
              within refl (counts was before) named before)
              was.0 was.1 (code.holds was.0 was.1 before) r
              (sym (turned-now (record { system = taken.0; turned = turned }) taken.1)
              ∙ ap (λ (x : Entry). live_process (after s x).system own) (sym is)
              ∙ ap (λ (x : TracedState). live_process x.system own) (sym later-is) ∙ later);
        }
          where
            own : ℕ
            own = (traced_at t q).pid

            its_entry : Entry
            its_entry = record { actor = Lwp own id; act = act.Turn turned }

            its-place : h ≡ front ++ its_entry ∷ back
            its-place = place ∙ ap (λ (x : Entry). front ++ x ∷ back) is

            patchable : IsPatchable f
            patchable = let x = fits in All-at IsPatchable t.options.functions i f named x.each

            inside : AreWithin (patch_of f ∷ [])
            inside =
                let size : length f.code ≡ 16 = patchable.size in
                let most : f.at + 16 ≤ 2 ^ 64 = patchable.within in
                (omega (arith, size, most), tt)

            turned-now : (x : LwpTurn) → turn_of s.system own id ≡ Some x
                → live_process (after s its_entry).system own ≡ live_process x.system own
            turned-now x taken = rw taken refl

            -- a function that is planted has its breakpoint standing
            counts : Lives s own → patch_at f.at (at front own).patches ≡ None → Counts t q i
            counts lives before = of member
              where
                of : (has_function (marks_at t q).planted i ≡ true) ⊎ Counts t q i → Counts t q i
                of (inr it) = it
                of (inl has) =
                    let w = truss in
                    let d = w.stand q within lives in
                    absurd (none-some (patch_of f) (sym before ∙ d.each i f named has))

        -- whatever turn of it
        turn-code : t.leaving ≡ false → (q i : ℕ) → q < length t.traced → (f : Function)
            → slice_get t.options.functions i ≡ Some f
            → (has_function (marks_at t q).planted i ≡ true) ⊎ Counts t q i → (id : ℕ) (turned : Turned)
            → e ≡ record { actor = Lwp (traced_at t q).pid id; act = act.Turn turned }
            → CodeAt front (traced_at t q).pid (patch_of f)
            → CodeAt next_front (traced_at t q).pid (patch_of f) ⊎ Replaced next_front k (traced_at t q).pid
        turn-code stays q i within f named member id turned is code = by (takes_memory turned.did) refl
          where
            by : (b : Bool) → takes_memory turned.did ≡ b
                → CodeAt next_front (traced_at t q).pid (patch_of f) ⊎ Replaced next_front k (traced_at t q).pid
            by true takes = of opened-there
              where
                -- truss is where its replies have brought it
                at-is : (hides_it : hides who k ≡ true) → t ≡ functions_at k (run-options run k hides_it) front
                at-is hides_it =
                    let w = truss in truss-is run.own_calls run.are k hides_it front (e ∷ back) place w.t w.is

                opened-there : (is_opened t.stage q ≡ true)
                    ⊎ ((i : ℕ) → (has_function (marks_at t q).planted i ≡ true) ⊎ Counts t q i → ⊥)
                opened-there =
                    let w = truss in
                    let taken =
                    legal-turn n s (traced_at t q).pid id turned (subst (IsLegalEntry n s) is legal-entry) in
                    opened-or-none n k (run-options run k hider) t s
                    (goes-on-there run k hider front (e ∷ back) place w.t w.is stays)
                    (copies-on run k hider front (e ∷ back) place w.t w.is stays) q within id
                    (record { system = taken.0; turned = turned }) taken.1 (takes-copies turned.did takes)

                of : (is_opened t.stage q ≡ true)
                    ⊎ ((i : ℕ) → (has_function (marks_at t q).planted i ≡ true) ⊎ Counts t q i → ⊥)
                    → CodeAt next_front (traced_at t q).pid (patch_of f) ⊎ Replaced next_front k (traced_at t q).pid
                of (inr none) = absurd (none i member)
                of (inl opened) = inr (λ hides_it. record {
                  before = front;
                  later = [];
                  id = id;
                  t = turned;
                  is = ap (λ (x : Entry). front ++ x ∷ []) is;
                  takes = takes;
                  place = q;
                  within = subst (λ (u : TrussState). q < length u.traced) (at-is hides_it) within;
                  own = ap (λ (u : TrussState). (traced_at u q).pid) (sym (at-is hides_it));
                  opened = subst (λ (u : TrussState). is_opened u.stage q ≡ true) (at-is hides_it) opened;
                })
            by false leaves = inl (turn-keeps q i within f named member id turned is leaves code)

        lwp-same : {a b i j : ℕ} → Lwp a i ≡ Lwp b j → a ≡ b
        lwp-same is = cc

        -- where no turn of the process takes its memory, the code of a function stands on
        pub code-stays : (q i : ℕ) → q < length t.traced
            → (has_function (marks_at t q).planted i ≡ true) ⊎ Counts t q i → (f : Function)
            → slice_get t.options.functions i ≡ Some f
            → ((id : ℕ) (turned : Turned) → e ≡ record { actor = Lwp (traced_at t q).pid id; act = act.Turn turned }
            → takes_memory turned.did ≡ false) → CodeAt front (traced_at t q).pid (patch_of f)
            → CodeAt next_front (traced_at t q).pid (patch_of f)
        unfolding IsLegalEntry
        code-stays q i within member f named leaves code = of actor did refl refl legal-entry
          where
            own : ℕ
            own = (traced_at t q).pid

            patchable : IsPatchable f
            patchable = let x = fits in All-at IsPatchable t.options.functions i f named x.each

            beside : ((id : ℕ) → actor ≢ Lwp own id) → CodeAt next_front own (patch_of f)
            beside apart =
                beside-code q within f patchable apart
                (λ p r lent. relates q within f patchable p r lent actor did foreign)
                (λ r later bare. none-before q within f r later bare) code

            of : (who_acts : Actor) (it : Act) → actor ≡ who_acts → did ≡ it
                → IsLegalEntry n s (record { actor = who_acts; act = it }) → CodeAt next_front own (patch_of f)
            of (Controller j) it acts does legal = beside (λ id is. cc)
            of Clock it acts does legal = beside (λ id is. cc)
            of (Lwp acting id) (act.Turn turned) acts does legal = elim (cases_eq acting own) [
              | inl is_own ↦
                  (let is =
                  ap (λ (x : Actor). record { actor = x; act = did }) (acts ∙ ap (λ m. Lwp m id) is_own)
                  ∙ ap (λ (x : Act). record { actor = Lwp own id; act = x }) does in
                  turn-keeps q i within f named member id turned is (leaves id turned is) code)
              | inr apart ↦ beside (λ other is. apart (lwp-same (sym acts ∙ is)))
            ]
            of (Lwp acting id) (act.Call c reply) acts does legal = absurd legal
            of (Lwp acting id) (act.Tick moment) acts does legal = absurd legal

        each-later : t.leaving ≡ false → (q i : ℕ) → q < length t.traced
            → (has_function (marks_at t q).planted i ≡ true) ⊎ Counts t q i
            → Known front k t.options (traced_at t q).pid i → Known next_front k t.options (traced_at t q).pid i
        unfolding IsLegalEntry
        each-later stays q i within member known f named = by (known f named)
          where
            own : ℕ
            own = (traced_at t q).pid

            patchable : IsPatchable f
            patchable = let x = fits in All-at IsPatchable t.options.functions i f named x.each

            beside : ((id : ℕ) → actor ≢ Lwp own id) → CodeAt front own (patch_of f)
                → CodeAt next_front own (patch_of f) ⊎ Replaced next_front k own
            beside apart code =
                inl (beside-code q within f patchable apart
                (λ p r lent. relates q within f patchable p r lent actor did foreign)
                (λ r later bare. none-before q within f r later bare) code)

            of : (who_acts : Actor) (it : Act) → actor ≡ who_acts → did ≡ it
                → IsLegalEntry n s (record { actor = who_acts; act = it }) → CodeAt front own (patch_of f)
                → CodeAt next_front own (patch_of f) ⊎ Replaced next_front k own
            of (Controller j) it acts does legal code = beside (λ id is. cc) code
            of Clock it acts does legal code = beside (λ id is. cc) code
            of (Lwp acting id) (act.Turn turned) acts does legal code = elim (cases_eq acting own) [
              | inl is_own ↦
                  turn-code stays q i within f named member id turned
                  (ap (λ (x : Actor). record { actor = x; act = did }) (acts ∙ ap (λ m. Lwp m id) is_own)
                  ∙ ap (λ (x : Act). record { actor = Lwp own id; act = x }) does) code
              | inr apart ↦ beside (λ other is. apart (lwp-same (sym acts ∙ is))) code
            ]
            of (Lwp acting id) (act.Call c reply) acts does legal code = absurd legal
            of (Lwp acting id) (act.Tick moment) acts does legal code = absurd legal

            by : CodeAt front own (patch_of f) ⊎ Replaced front k own
                → CodeAt next_front own (patch_of f) ⊎ Replaced next_front k own
            by (inr replaced) = inr (replaced-later k own replaced)
            by (inl code) = of actor did refl refl legal-entry code

        -- what it was shown of a function that it is to plant
        shown-stays : t.leaving ≡ false → (q i : ℕ) → q < length t.traced → t.aside ≡ Planting q i
            → Shown front t.options (traced_at t q).pid i → Shown next_front t.options (traced_at t q).pid i
        shown-stays stays q i within planting known f named = record {
          shown = λ x later.
              let was = lived run front e back place kept-here k hider q within (x, later) in
              let w = truss in
              let copies = copies-on run k hider front (e ∷ back) place w.t w.is stays in
              let it = known f named in
              subst (λ (u : TracedState). Stands (patch_of f) (space_seen u.system x)) (sym later-is)
              (shown-later n k (run-options run k hider) t s
              (goes-on-there run k hider front (e ∷ back) place w.t w.is stays)
              (lending-at run front (e ∷ back) place) q within
              (planting-starts q i t.stage (subst (λ a. FitsSo a t.stage) planting copies.fits)) (patch_of f) inside
              actor did legal-entry foreign
              (λ acting id turned p l acts does live there going borrowed.
              run.undisturbed.untouched.spares_lent front back acting id turned p l k w.t q i f (entry-at acts does)
              live there
              going hider w.is within borrowed planting named)
              (λ j handle bytes r held address size len acts does taken there controls borrowed read.
              elim (cases_Bool (hides who j)) [
                | inl hides_too ↦
                    absurd (never-borrowed run j hides_too front (e ∷ back) place handle held there controls _ borrowed)
                | inr hides_not ↦
                    run.undisturbed.untouched.unwritten front back j handle bytes r held k w.t q i f address size len
                    (entry-at acts does) hides_not taken there hider w.is within borrowed planting named read
              ])
              was.0 was.1 x (ap (λ (u : TracedState). live_process u.system (traced_at t q).pid) (sym later-is) ∙ later)
              (it.shown was.0 was.1));
        }
          where
            patchable : IsPatchable f
            patchable = let x = fits in All-at IsPatchable t.options.functions i f named x.each

            inside : AreWithin (patch_of f ∷ [])
            inside =
                let size : length f.code ≡ 16 = patchable.size in
                let most : f.at + 16 ≤ 2 ^ 64 = patchable.within in
                (omega (arith, size, most), tt)

            entry-at : {a : Actor} {d : Act} → actor ≡ a → did ≡ d
                → h ≡ front ++ record { actor = a; act = d } ∷ back
            entry-at {a = a} acts does =
                place ∙ ap (λ (y : Actor). front ++ record { actor = y; act = did } ∷ back) acts
                ∙ ap (λ (y : Act). front ++ record { actor = a; act = y } ∷ back) does

        pub foreign-in : Counted front → (later : TrussState) → After next_front k later → later.leaving ≡ false
            → TrussSo (Known next_front k later.options) (Shown next_front later.options) later
        foreign-in counted later is off =
            let w = truss in
            let same : t ≡ later = same-truss t later _ is-later is in
            let stays : t.leaving ≡ false = subst (λ (x : TrussState). x.leaving ≡ false) (sym same) off in
            subst (λ (x : TrussState). TrussSo (Known next_front k x.options) (Shown next_front x.options) x) same
            (truss-weaker (Known front k t.options) (Known next_front k t.options) (Shown front t.options)
            (Shown next_front t.options) t (each-later stays) (shown-stays stays)
            (let g = stays-on w stays in g.beside) (counted.each k hider w.t w.is stays))
