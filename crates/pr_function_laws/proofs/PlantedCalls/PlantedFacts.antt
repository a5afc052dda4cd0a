use Rattle.std.proofs.Common.{◌≡◌, ◌≢◌, ◌<◌, ◌⊎◌, ◌++◌, ℕ, true, false, Some, None, List, [], ◌∷◌, length, append-nil, append_assoc, refl, sym, subst, ap, ◌∙◌, inl, inr, arith}
use Rattle.std.proofs.lemmas.List.{length-set}
use Rattle.std.proofs.lemmas.List.Elements.{All-head, All-nil, All-push}
use Rattle.std.specs.List.{All, cons_option}
use Rattle.pr_line.specs.Functions.{function_limit}
use Rattle.pr_line.specs.declared.options.Options.{Options}
use Rattle.pr_model.specs.Replies.{handle_in}
use Rattle.pr_model.specs.State.{TracedState}
use Rattle.pr_model.specs.declared.events.Entry.{Entry}
use Rattle.pr_report_laws.proofs.Files.WatchHistories.{exchanges-push, no-exchanges}
use Rattle.pr_report_laws.proofs.Watching.HistoryParts.{all-front, all-rest}
use Rattle.pr_truss.specs.FunctionCalls.{lift_call, plant_call}
use Rattle.pr_truss.specs.Marks.{has_function, no_marks, with_function, without_function}
use Rattle.pr_truss.specs.NextCalls.{open_control}
use Rattle.pr_truss.specs.declared.marks.Marks.{Marks}
use Rattle.pr_truss_laws.specs.Exchanges.{Exchange, IsGranted, exchange_of, exchanges}
use Rattle.pr_function_laws.proofs.Marks.FunctionSets.{has-own, has-with, has-without, not-in-none, with-keeps, without-keeps}
use Rattle.pr_function_laws.proofs.Marks.MarkWalk.{MarksIn, less-in, more-in, no-marks-in}
use Rattle.pr_function_laws.proofs.PlantedCalls.WriteCalls.{lifts-same, plants-lifts, plants-same}
use Rattle.pr_function_laws.specs.PlantedByCalls.{IsFirstNamed, IsNoBreakpoint, IsSinceOpened, IsToldReplaced, LiftsNot, OpensNot, WasPlanted, WasToldReplaced}
use Rattle.pr_function_laws.specs.ToldTurns.{AreSteppable}

-- What is so of the marks of a process with its exchanges stays so with one exchange more.

-- ---- where a list with one element more is parted

data Splits (xs before after : List Exchange) (x y : Exchange) : Type 0 where
  at_last : y ≡ x → after ≡ [] → Splits xs before after x y
  earlier : (between : List Exchange) → xs ≡ before ++ y ∷ between → after ≡ between ++ x ∷ []
      → Splits xs before after x y

nowhere : (before after : List Exchange) (y : Exchange) → [] ≡ before ++ y ∷ after → ⊥
nowhere [] after y is = cc
nowhere (z ∷ before) after y is = cc

further : (z w : Exchange) (xs before after : List Exchange) (x y : Exchange) → z ≡ w → Splits xs before after x y
    → Splits (z ∷ xs) (w ∷ before) after x y
further z w xs before after x y same (at_last is none) = at_last is none
further z w xs before after x y same (earlier between is behind) =
    earlier between
    (ap (λ (es : List Exchange). z ∷ es) is ∙ ap (λ v. v ∷ (before ++ y ∷ between)) same) behind

splits : (xs before after : List Exchange) (x y : Exchange) → xs ++ x ∷ [] ≡ before ++ y ∷ after
    → Splits xs before after x y
splits [] [] after x y is =
    let same : y ≡ x = cc in
    let none : after ≡ [] = cc in at_last same none
splits [] (w ∷ before) after x y is =
    let none : [] ≡ before ++ y ∷ after = cc in absurd (nowhere before after y none)
splits (z ∷ xs) [] after x y is =
    let same : z ≡ y = cc in
    let behind : after ≡ xs ++ x ∷ [] = cc in earlier xs (ap (λ v. v ∷ xs) same) behind
splits (z ∷ xs) (w ∷ before) after x y is =
    let same : z ≡ w = cc in
    let tail : xs ++ x ∷ [] ≡ before ++ y ∷ after = cc in
    further z w xs before after x y same (splits xs before after x y tail)

-- ---- the exchanges since the control file was opened

-- there is one last open
module _ (pid : ℕ) where
  abbrev Opens : Exchange → Type 0
  Opens f = (f.call ≡ open_control pid) × IsGranted f

  not-behind : (front since more : List Exchange) (f : Exchange) → since ≡ front ++ f ∷ more → Opens f
      → All (OpensNot pid) since → ⊥
  not-behind front since more f is opens none =
      let rest = all-rest (OpensNot pid) front (f ∷ more) (subst (All (OpensNot pid)) is none) in
      let first : OpensNot pid f = All-head (OpensNot pid) f more rest in first.opens_not opens.0 opens.1

  one-last : (xs ys since more : List Exchange) (f g : Exchange) → xs ++ f ∷ since ≡ ys ++ g ∷ more → Opens f
      → Opens g → All (OpensNot pid) since → All (OpensNot pid) more → (f ≡ g) × (since ≡ more)
  one-last [] [] since more f g is v w none less = (cc, cc)
  one-last [] (y ∷ ys) since more f g is v w none less =
      let behind : since ≡ ys ++ g ∷ more = cc in absurd (not-behind ys since more g behind w none)
  one-last (x ∷ xs) [] since more f g is v w none less =
      let behind : more ≡ xs ++ f ∷ since = cc in absurd (not-behind xs more since f behind v less)
  one-last (x ∷ xs) (y ∷ ys) since more f g is v w none less =
      let tail : xs ++ f ∷ since ≡ ys ++ g ∷ more = cc in one-last xs ys since more f g tail v w none less

pub same-since : (k pid : ℕ) (h : List Entry) (c d : ℕ) (xs ys : List Exchange) → IsSinceOpened k pid h c xs
    → IsSinceOpened k pid h d ys → (c ≡ d) × (xs ≡ ys)
same-since k pid h c d xs ys v w =
    let both =
    one-last pid v.earlier w.earlier v.since w.since v.first w.first
    (sym (v.is ∙ ap (λ (es : List Exchange). v.earlier ++ es) v.begins) ∙ w.is
    ∙ ap (λ (es : List Exchange). w.earlier ++ es) w.begins) (v.opens, v.granted) (w.opens, w.granted) v.last
    w.last in (
      v.handle ∙ ap (λ (z : Exchange). handle_in z.reply) both.0 ∙ sym w.handle,
      v.begins ∙ ap (λ (z : Exchange). z ∷ v.since) both.0
          ∙ ap (λ (es : List Exchange). w.first ∷ es) both.1 ∙ sym w.begins,
    )

-- ---- breakpoints that were planted

module _ (o : Options) (control i : ℕ) (xs : List Exchange) (x : Exchange) where
  was-push : WasPlanted o control i xs → LiftsNot o control i x → WasPlanted o control i (xs ++ x ∷ [])
  was-push w stays = record {
    before = w.before;
    x = w.x;
    after = w.after ++ x ∷ [];
    is = ap (λ (es : List Exchange). es ++ x ∷ []) w.is ∙ append_assoc w.before (w.x ∷ w.after) (x ∷ []);
    plants = w.plants;
    granted = w.granted;
    stays = All-push (LiftsNot o control i) w.after x w.stays stays;
  }

  was-now : x.call ≡ plant_call o control i → IsGranted x → WasPlanted o control i (xs ++ x ∷ [])
  was-now plants granted = record {
    before = xs;
    x = x;
    after = [];
    is = refl;
    plants = plants;
    granted = granted;
    stays = All-nil (LiftsNot o control i);
  }

  -- it was planted with the last exchange, or before and not lifted by that
  was-split : WasPlanted o control i (xs ++ x ∷ [])
      → ((x.call ≡ plant_call o control i) × IsGranted x) ⊎ (WasPlanted o control i xs × LiftsNot o control i x)
  was-split w = by (splits xs w.before w.after x w.x w.is)
    where
      by : Splits xs w.before w.after x w.x
          → ((x.call ≡ plant_call o control i) × IsGranted x) ⊎ (WasPlanted o control i xs × LiftsNot o control i x)
      by (at_last same none) =
          inl (
            ap (λ (z : Exchange). z.call) (sym same) ∙ w.plants,
            subst IsGranted same w.granted,
          )
      by (earlier between is behind) =
          let stays : All (LiftsNot o control i) (between ++ x ∷ []) =
          subst (All (LiftsNot o control i)) behind w.stays in
          inr (
            record {
              before = w.before;
              x = w.x;
              after = between;
              is = is;
              plants = w.plants;
              granted = w.granted;
              stays = all-front (LiftsNot o control i) between (x ∷ []) stays;
            },
            All-head (LiftsNot o control i) x [] (all-rest (LiftsNot o control i) between (x ∷ []) stays),
          )

none-was : (o : Options) (control i : ℕ) → WasPlanted o control i [] → ⊥
none-was o control i w = nowhere w.before w.after w.x w.is

-- ---- what is so of the marks of a process

module _ (k : ℕ) (o : Options) (s : TracedState) where
  abbrev pub P : ℕ → Type 0
  P i = IsFirstNamed o i

  -- Of a process with this control file after a history: the functions of its marks are the first at their addresses;
  -- each that is planted was planted, and not lifted since; and so is each that was, unless truss was told otherwise.
  pub record Facts (h : List Entry) (pid control : ℕ) (m : Marks) : Type 0 where
    pub xs : List Exchange
    pub since : IsSinceOpened k pid h control xs
    pub marks : MarksIn P m
    pub long : length m.planted ≡ function_limit
    pub marked : (i : ℕ) → has_function m.planted i ≡ true → WasPlanted o control i xs
    pub planted : (i : ℕ) → i < function_limit → P i → WasPlanted o control i xs
        → (has_function m.planted i ≡ true) ⊎ WasToldReplaced k pid s h

  -- with other marks, but the same breakpoints planted
  pub facts-as : (h : List Entry) (pid control : ℕ) (m l : Marks) → l.planted ≡ m.planted → MarksIn P l
      → Facts h pid control m → Facts h pid control l
  facts-as h pid control m l same marks w = record {
    xs = w.xs;
    since = w.since;
    marks = marks;
    long = ap length same ∙ w.long;
    marked = λ i has. w.marked i (ap (λ set. has_function set i) (sym same) ∙ has);
    planted = λ i small first was. elim (w.planted i small first was) [
      | inl has ↦ inl (ap (λ set. has_function set i) same ∙ has)
      | inr told ↦ inr told
    ];
  }

  module _ (h : List Entry) (e : Entry) where
    abbrev then : List Entry
    then = h ++ e ∷ []

    told-more : (pid : ℕ) (w : WasToldReplaced k pid s h)
        → (All (OpensNot pid) (exchanges k w.later) → All (OpensNot pid) (exchanges k (w.later ++ e ∷ [])))
        → WasToldReplaced k pid s then
    told-more pid w more = record {
      before = w.before;
      e = w.e;
      later = w.later ++ e ∷ [];
      is = ap (λ (es : List Entry). es ++ e ∷ []) w.is ∙ append_assoc w.before (w.e ∷ w.later) (e ∷ []);
      told = w.told;
      last = more w.last;
    }

    -- ---- an entry of another

    module _ (none : exchange_of k e ≡ None) where
      same-exchanges : (es : List Entry) → exchanges k (es ++ e ∷ []) ≡ exchanges k es
      same-exchanges es =
          exchanges-push k es e ∙ ap (λ y. exchanges k es ++ cons_option y []) none ∙ append-nil (exchanges k es)

      since-other : (pid control : ℕ) (xs : List Exchange) → IsSinceOpened k pid h control xs
          → IsSinceOpened k pid then control xs
      since-other pid control xs w = record {
        earlier = w.earlier;
        first = w.first;
        since = w.since;
        is = same-exchanges h ∙ w.is;
        begins = w.begins;
        opens = w.opens;
        granted = w.granted;
        handle = w.handle;
        last = w.last;
      }

      told-other : (pid : ℕ) → WasToldReplaced k pid s h → WasToldReplaced k pid s then
      told-other pid w =
          told-more pid w (λ all. subst (All (OpensNot pid)) (sym (same-exchanges w.later)) all)

      pub facts-other : (pid control : ℕ) (m : Marks) → Facts h pid control m → Facts then pid control m
      facts-other pid control m w = record {
        xs = w.xs;
        since = since-other pid control w.xs w.since;
        marks = w.marks;
        long = w.long;
        marked = w.marked;
        planted = λ i small first was. elim (w.planted i small first was) [
          | inl has ↦ inl has
          | inr told ↦ inr (told-other pid told)
        ];
      }

    -- ---- one exchange more

    module _ (x : Exchange) (own : exchange_of k e ≡ Some x) where
      more-exchanges : (es : List Entry) → exchanges k (es ++ e ∷ []) ≡ exchanges k es ++ x ∷ []
      more-exchanges es = exchanges-push k es e ∙ ap (λ y. exchanges k es ++ cons_option y []) own

      -- a process is opened with it
      pub facts-new : (pid : ℕ) → x.call ≡ open_control pid → IsGranted x
          → Facts then pid (handle_in x.reply) no_marks
      facts-new pid opens granted = record {
        xs = x ∷ [];
        since = record {
          earlier = exchanges k h;
          first = x;
          since = [];
          is = more-exchanges h;
          begins = refl;
          opens = opens;
          granted = granted;
          handle = refl;
          last = All-nil (OpensNot pid);
        };
        marks = no-marks-in P;
        long = refl;
        marked = λ i has. absurd (not-in-none i has);
        planted = λ i small first was. absurd (none i was);
      }
        where
          apart : (control i : ℕ) → open_control pid ≡ plant_call o control i → ⊥
          apart control i is = cc

          none : (i : ℕ) → WasPlanted o (handle_in x.reply) i (x ∷ []) → ⊥
          none i was = elim (was-split o (handle_in x.reply) i [] x was) [
            | inl now ↦ apart (handle_in x.reply) i (sym opens ∙ now.0)
            | inr before ↦ none-was o (handle_in x.reply) i before.0
          ]

      module _ (pid control : ℕ) (m : Marks) (w : Facts h pid control m) (opens_not : OpensNot pid x) where
        abbrev ys : List Exchange
        ys = w.xs ++ x ∷ []

        abbrev f : IsSinceOpened k pid h control w.xs
        f = w.since

        since-more : IsSinceOpened k pid then control ys
        since-more = record {
          earlier = f.earlier;
          first = f.first;
          since = f.since ++ x ∷ [];
          is =
              more-exchanges h ∙ ap (λ (es : List Exchange). es ++ x ∷ []) f.is
              ∙ append_assoc f.earlier w.xs (x ∷ []);
          begins = ap (λ (es : List Exchange). es ++ x ∷ []) f.begins;
          opens = f.opens;
          granted = f.granted;
          handle = f.handle;
          last = All-push (OpensNot pid) f.since x f.last opens_not;
        }

        told-later : WasToldReplaced k pid s h → WasToldReplaced k pid s then
        told-later told =
            told-more pid told
            (λ all. subst (All (OpensNot pid)) (sym (more-exchanges told.later))
            (All-push (OpensNot pid) (exchanges k told.later) x all opens_not))

        -- It plants and lifts nothing there.
        pub facts-kept : ((i : ℕ) → P i → LiftsNot o control i x)
            → ((i : ℕ) → P i → x.call ≡ plant_call o control i → IsGranted x → ⊥)
            → Facts then pid control m
        facts-kept lifts_not plants_not = record {
          xs = ys;
          since = since-more;
          marks = w.marks;
          long = w.long;
          marked = λ i has.
              let marks = w.marks in was-push o control i w.xs x (w.marked i has) (lifts_not i (marks.planted i has));
          planted = λ i small first was. elim (was-split o control i w.xs x was) [
            | inl now ↦ absurd (plants_not i first now.0 now.1)
            | inr before ↦ elim (w.planted i small first before.0) [
              | inl has ↦ inl has
              | inr told ↦ inr (told-later told)
            ]
          ];
        }

        -- Truss was told that the memory is another.
        pub facts-told : IsToldReplaced k pid s h e → Facts then pid control no_marks
        facts-told told = record {
          xs = ys;
          since = since-more;
          marks = no-marks-in P;
          long = refl;
          marked = λ i has. absurd (not-in-none i has);
          planted = λ i small first was. inr (record {
            before = h;
            e = e;
            later = [];
            is = refl;
            told = told;
            last = subst (All (OpensNot pid)) (sym (no-exchanges k)) (All-nil (OpensNot pid));
          });
        }

        module _ (able : AreSteppable o) (others : All IsNoBreakpoint o.functions) (g : ℕ) (own_first : P g) where
          -- a breakpoint is planted there
          pub facts-planted : x.call ≡ plant_call o control g → IsGranted x
              → Facts then pid control (record m { planted = with_function m.planted g })
          facts-planted plants granted = record {
            xs = ys;
            since = since-more;
            marks = let marks = w.marks in record {
              planted = more-in P m.planted g marks.planted own_first;
              lifted = marks.lifted;
              stepped = marks.stepped;
            };
            long = length-set m.planted g true ∙ w.long;
            marked = λ i has. elim (has-with m.planted g i has) [
              | inl same ↦
                  subst (λ j. WasPlanted o control j ys) (sym same) (was-now o control g w.xs x plants granted)
              | inr old ↦
                  let marks = w.marks in
                  was-push o control i w.xs x (w.marked i old) (record {
                    lifts_not = λ is.
                        plants-lifts o able others control control g i own_first (marks.planted i old)
                        (sym plants ∙ is);
                  })
            ];
            planted = λ i small first was. elim (was-split o control i w.xs x was) [
              | inl now ↦
                  let same : g ≡ i =
                  (plants-same o able others control control g i own_first first (sym plants ∙ now.0)).1 in
                  inl (subst (λ j. has_function (with_function m.planted j) i ≡ true) (sym same)
                  (has-own m.planted i (omega (arith, small, w.long))))
              | inr before ↦ elim (w.planted i small first before.0) [
                | inl has ↦ inl (with-keeps m.planted g i has)
                | inr told ↦ inr (told-later told)
              ]
            ];
          }

          -- one is lifted there
          pub facts-lifted : x.call ≡ lift_call o control g
              → Facts then pid control (record m { planted = without_function m.planted g })
          facts-lifted lifts = record {
            xs = ys;
            since = since-more;
            marks = let marks = w.marks in record {
              planted = less-in P m.planted g marks.planted;
              lifted = marks.lifted;
              stepped = marks.stepped;
            };
            long = length-set m.planted g false ∙ w.long;
            marked = λ i has.
                let old = has-without m.planted g i has in
                let marks = w.marks in
                was-push o control i w.xs x (w.marked i old.has) (record {
                  lifts_not = λ is. old.apart
                      (sym (lifts-same o able others control control g i own_first (marks.planted i old.has)
                      (sym lifts ∙ is)).1);
                });
            planted = λ i small first was. elim (was-split o control i w.xs x was) [
              | inl now ↦
                  absurd
                  (plants-lifts o able others control control i g first own_first (sym now.0 ∙ lifts))
              | inr before ↦ elim (w.planted i small first before.0) [
                | inl has ↦ inl (without-keeps m.planted g i (apart i before.1) has)
                | inr told ↦ inr (told-later told)
              ]
            ];
          }
            where
              apart : (i : ℕ) → LiftsNot o control i x → i ≢ g
              apart i not same = not.lifts_not (lifts ∙ ap (lift_call o control) (sym same))
