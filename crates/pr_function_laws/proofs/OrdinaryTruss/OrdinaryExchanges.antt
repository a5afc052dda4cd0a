use Rattle.std.proofs.Common.{◌≡◌, ◌≢◌, ◌++◌, ℕ, true, false, cond, Some, List, [], ◌∷◌, append-nil, length, refl, sym, subst, ap, ◌∙◌}
use Rattle.std.proofs.lemmas.Bool.{false≢true}
use Rattle.std.proofs.lemmas.List.Elements.{All-head, All-tail}
use Rattle.std.specs.List.{All}
use Rattle.pr_line.specs.declared.options.Options.{Options}
use Rattle.pr_model.specs.declared.calls.Reply.{Reply}
use Rattle.pr_model.specs.declared.calls.Reply.TheVariants as reply
use Rattle.pr_num.specs.declared.errnos.Errno.TheVariants.{Intr}
use Rattle.pr_report_laws.proofs.Asking.NamedRuns.{runs-named}
use Rattle.pr_truss.specs.Asides.{marks_at}
use Rattle.pr_truss.specs.Feeding.{fed}
use Rattle.pr_truss.specs.FunctionCalls.{call_beside, function_call_of, next_function_call_of}
use Rattle.pr_truss.specs.FunctionFeeding.{fed_functions}
use Rattle.pr_truss.specs.Marks.{has_functions}
use Rattle.pr_truss.specs.NextCalls.{next_call_of}
use Rattle.pr_truss.specs.Replies.{answer_of}
use Rattle.pr_truss.specs.Trusses.{TrussState, first_truss}
use Rattle.pr_truss.specs.declared.asides.Aside.TheVariants.{Nothing}
use Rattle.pr_truss.specs.declared.replies.Answer.TheVariants.{Interrupted}
use Rattle.pr_truss_laws.proofs.Replies.AnswerLemmas.{IsAnswer, answer-is}
use Rattle.pr_truss_laws.proofs.OwnBusiness.BusinessLemmas.{does-business}
use Rattle.pr_truss_laws.proofs.Replies.FunctionOptionLemmas.{fed_functions-options}
use Rattle.pr_truss_laws.proofs.Files.HeldLemmas.{Grown, grown-all, grown-same}
use Rattle.pr_truss_laws.proofs.Soon.SoonLemmas.{polls-soon}
use Rattle.pr_truss_laws.proofs.OwnBusiness.KnownLemmas.{Knows, first-knows}
use Rattle.pr_truss_laws.proofs.OwnBusiness.LineLemmas.{prints-what-it-reports}
use Rattle.pr_truss_laws.specs.Exchanges.{Exchange, Makes, truss_after}
use Rattle.pr_truss_laws.specs.Lines.{ReportsNoOther}
use Rattle.pr_function_laws.proofs.Marks.MarkLemmas.{AreRunFlags}
use Rattle.pr_function_laws.proofs.OrdinaryTruss.OrdinaryCalls.{Likes, beside-sees, own-likes, refused-likes, stage-likes, write-still}
use Rattle.pr_function_laws.proofs.OrdinaryTruss.OrdinaryReplies.{first-ordinary}
use Rattle.pr_function_laws.proofs.OrdinaryTruss.OrdinaryLines.{prints-lines, reports-no-other}
use Rattle.pr_function_laws.proofs.OrdinaryTruss.OrdinaryPatches.{function-row}
use Rattle.pr_function_laws.proofs.OrdinaryTruss.OrdinaryRows.{Row, Step, feeds, is_beside, passes, refuses, stays, writes}
use Rattle.pr_function_laws.proofs.OrdinaryTruss.OrdinaryStops.{FitsAside}
use Rattle.pr_function_laws.proofs.NextCalls.LookReads.{any_step, any-sound}
use Rattle.pr_function_laws.proofs.Marks.SoundLemmas.{AsideIsBelow, IsSound, Names, first-sound}
use Rattle.pr_function_laws.specs.Ordinary.{AreLike, IsLike, IsTrussBeside, PassesOver, PrintsInOrder, SeesTo, left_out, none, one, ordinary}
use Rattle.pr_function_laws.specs.Runs.{MakesFunctionCalls, functions_after}
use Rattle.pr_function_laws.specs.Soon.{IsCalm}

-- The exchanges of truss with calls of functions, without those on breakpoints, are those of a truss.

-- ---- one exchange

-- It is left out, and truss is as it was without breakpoints; or it is like one of a truss.
pub data Turn (s : TrussState) (x : Exchange) : Type 0 where
  goes_out : SeesTo s s.stage x.call → PassesOver s.stage x.reply → ordinary (fed_functions s x.reply) ≡ ordinary s
      → Turn s x
  goes_on : (y : Exchange) → IsLike s x y → next_call_of (ordinary s) ≡ Some y.call
      → ordinary (fed_functions s x.reply) ≡ fed (ordinary s) y.reply → Turn s x

-- an exchange that is like one of a truss
pub record IsLikeOne (s : TrussState) (x : Exchange) : Type 0 where
  pub y : Exchange
  pub like : IsLike s x y
  pub called : next_call_of (ordinary s) ≡ Some y.call
  pub comes : ordinary (fed_functions s x.reply) ≡ fed (ordinary s) y.reply

-- it is so; or the exchange comes beside the call of the stage, and is left out
pub data Move (s : TrussState) (x : Exchange) : Type 0 where
  beside_stage : is_beside s.aside ≡ true → PassesOver s.stage x.reply
      → ordinary (fed_functions s x.reply) ≡ ordinary s → Move s x
  on_stage : IsLikeOne s x → Move s x

-- what truss does beside its stage fits to that, and its marks are sound
pub record IsFit (o : Options) (s : TrussState) : Type 0 where
  pub options : s.options ≡ o
  pub fits : FitsAside s.aside s.stage
  pub sound : IsSound o any_step s

module _ (o : Options) (has : has_functions o ≡ true) (off : o.follow ≡ false) where
  pub first-fit : IsFit o (first_truss o)
  first-fit =
      let knows : Knows o [] (first_truss o) = first-knows o in
      let free : Nothing ≡ (first_truss o).aside = ap (λ (s : TrussState). s.aside) (first-ordinary o) in
      record {
        options = knows.options;
        fits = subst (λ a. FitsAside a (first_truss o).stage) free tt;
        sound = first-sound o any_step;
      }

  module _ (s : TrussState) (x : Exchange) (fit : IsFit o s) (next : next_function_call_of s ≡ Some x.call)
      (calm : IsCalm x) where
    has-still : has_functions s.options ≡ true
    has-still = ap has_functions fit.options ∙ has

    off-still : s.options.follow ≡ false
    off-still = ap (λ (p : Options). p.follow) fit.options ∙ off

    pub beside-is : call_beside s s.stage s.aside ≡ Some x.call
    unfolding next_function_call_of
    beside-is =
        sym (ap (λ b. cond b (call_beside s s.stage s.aside) (next_call_of s)) has-still) ∙ next

    quiet : writes s.aside ≡ true → answer_of x.reply ≢ Interrupted
    unfolding IsAnswer
    quiet on interrupted =
        let is : x.reply ≡ reply.Fail Intr = subst (IsAnswer x.reply) interrupted (answer-is x.reply) in
        false≢true (sym (write-still s s.stage s.aside x.call beside-is on) ∙ calm.waits is)

    pub own-row : Row s x.reply (fed_functions s x.reply)
    own-row = function-row s x.reply off-still fit.fits quiet has-still

    pub next-fit : IsFit o (fed_functions s x.reply)
    next-fit =
        let row = own-row in
        record {
          options = fed_functions-options s x.reply ∙ fit.options;
          fits = row.fits;
          sound = any-sound o s x.reply fit.sound;
        }

    -- the call of the stage, where nothing comes before it
    stage-is : s.aside ≡ Nothing → function_call_of s s.stage ≡ Some x.call
    unfolding call_beside
    stage-is free = ap (call_beside s s.stage) (sym free) ∙ beside-is

    moved : (r : Reply) → Likes s x s.stage r → ordinary (fed_functions s x.reply) ≡ fed (ordinary s) r → Move s x
    unfolding next_call_of
    moved r likes is =
        on_stage (record {
          y = record { call = likes.called; reply = r };
          like = likes.like;
          called = likes.is;
          comes = is;
        })

    names : Names o any_step s
    names = let sound = fit.sound in sound.names

    pub sees : is_beside s.aside ≡ true → SeesTo s s.stage x.call
    sees beside =
        let w = names in
        beside-sees s s.stage s.aside x.call fit.fits
        (subst (λ (opts : Options). AsideIsBelow (length opts.functions) s.aside) (sym fit.options) w.aside)
        beside-is beside

    flags : (place : ℕ) → AreRunFlags (marks_at s place).flags
    flags place = let w = names in let m = w.marks place in m.flags

    by : Step s x.reply (fed_functions s x.reply) → Move s x
    by (stays beside over is) = beside_stage beside over is
    by (feeds free none_own is) = moved x.reply (stage-likes s x none_own flags s.stage (stage-is free)) is
    by (refuses errno beside was may is) = moved x.reply (refused-likes s x errno may (sees beside) was) is
    by (passes free reads own is) =
        moved (reply.Bytes []) (own-likes s x s.stage reads own (stage-is free)) is

    pub move : Move s x
    move = let row = own-row in by row.step

    pub turn : Turn s x
    turn = turned move
      where
        turned : Move s x → Turn s x
        turned (beside_stage beside over is) = goes_out (sees beside) over is
        turned (on_stage it) = goes_on it.y it.like it.called it.comes

  -- ---- the first exchanges

  record Without (s : TrussState) (xs : List Exchange) : Type 0 where
    others : List Exchange
    like : AreLike s xs others
    makes : Makes (ordinary s) others
    is : truss_after (ordinary s) others ≡ ordinary (functions_after s xs)

  without-next : (s : TrussState) (x : Exchange) (xs : List Exchange) → Turn s x
      → Without (fed_functions s x.reply) xs → Without s (x ∷ xs)
  without-next s x xs (goes_out sees over stay) w = record {
    others = w.others;
    like = left_out sees over w.like;
    makes = subst (λ u. Makes u w.others) stay w.makes;
    is = ap (λ u. truss_after u w.others) (sym stay) ∙ w.is;
  }
  without-next s x xs (goes_on y like next now) w = record {
    others = y ∷ w.others;
    like = one like w.like;
    makes = (next, subst (λ u. Makes u w.others) now w.makes);
    is = ap (λ u. truss_after u w.others) (sym now) ∙ w.is;
  }

  without : (before after : List Exchange) (s : TrussState) → IsFit o s → MakesFunctionCalls s (before ++ after)
      → All IsCalm (before ++ after) → Without s before
  without [] after s fit makes calm = record { others = []; like = none; makes = tt; is = refl }
  without (x ∷ before) after s fit makes calm =
      let still = All-head IsCalm x (before ++ after) calm in
      without-next s x before (turn s x fit makes.0 still)
      (without before after (fed_functions s x.reply) (next-fit s x fit makes.0 still) makes.1
      (All-tail IsCalm x (before ++ after) calm))

  -- what truss is then without its breakpoints, as one that began so
  own-makes : (before : List Exchange) (w : Without (first_truss o) before) → Makes (first_truss o) w.others
  own-makes before w = subst (λ u. Makes u w.others) (first-ordinary o) w.makes

  own-is : (before : List Exchange) (w : Without (first_truss o) before)
      → truss_after (first_truss o) w.others ≡ ordinary (functions_after (first_truss o) before)
  own-is before w = ap (λ u. truss_after u w.others) (sym (first-ordinary o)) ∙ w.is

  -- ---- its lines

  -- truss later
  record Later (s u : TrussState) : Type 0 where
    fit : IsFit o u
    grows : Grown s.reports u.reports

  later : (xs : List Exchange) (s : TrussState) → IsFit o s → MakesFunctionCalls s xs → All IsCalm xs
      → Later s (functions_after s xs)
  later [] s fit makes calm = record { fit = fit; grows = grown-same s.reports }
  later (x ∷ xs) s fit makes calm =
      let still = All-head IsCalm x xs calm in
      let row = own-row s x fit makes.0 still in
      let rest =
      later xs (fed_functions s x.reply) (next-fit s x fit makes.0 still) makes.1 (All-tail IsCalm x xs calm) in
      record { fit = rest.fit; grows = grown-all s.reports _ _ row.grows rest.grows }

  grows-from : (before after : List Exchange) (s : TrussState) → IsFit o s → MakesFunctionCalls s (before ++ after)
      → All IsCalm (before ++ after)
      → Grown (functions_after s before).reports (functions_after s (before ++ after)).reports
  grows-from [] after s fit makes calm = let it = later after s fit makes calm in it.grows
  grows-from (x ∷ before) after s fit makes calm =
      let still = All-head IsCalm x (before ++ after) calm in
      grows-from before after (fed_functions s x.reply) (next-fit s x fit makes.0 still) makes.1
      (All-tail IsCalm x (before ++ after) calm)

  no-other : (before : List Exchange) → Without (first_truss o) before
      → ReportsNoOther o (functions_after (first_truss o) before)
  no-other before w =
      let reported = prints-what-it-reports o w.others in
      reports-no-other o (functions_after (first_truss o) before)
      (subst (ReportsNoOther o) (own-is before w) (reported.each w.others [] (sym (append-nil w.others))))

  prints-in-order : (xs : List Exchange) → MakesFunctionCalls (first_truss o) xs → All IsCalm xs → PrintsInOrder o xs
  prints-in-order xs makes calm = record {
    reports = λ before after is.
        let grown =
        grows-from before after (first_truss o) first-fit (subst (MakesFunctionCalls (first_truss o)) is makes)
        (subst (All IsCalm) is calm) in (
          grown.more,
          ap (λ ys. (functions_after (first_truss o) ys).reports) is ∙ grown.is,
        );
    no_other = λ before after is.
        no-other before
        (without before after (first_truss o) first-fit (subst (MakesFunctionCalls (first_truss o)) is makes)
        (subst (All IsCalm) is calm));
    lines = λ none.
        let it = later xs (first_truss o) first-fit makes calm in
        let fit = it.fit in
        prints-lines o (functions_after (first_truss o) xs) fit.options none;
  }

  pub beside : (xs : List Exchange) → MakesFunctionCalls (first_truss o) xs → All IsCalm xs → IsTrussBeside o xs
  beside xs makes calm =
      let whole = sym (append-nil xs) in
      let w =
      without xs [] (first_truss o) first-fit (subst (MakesFunctionCalls (first_truss o)) whole makes)
      (subst (All IsCalm) whole calm) in
      let own = own-makes xs w in
      record {
        others = w.others;
        like = w.like;
        makes = own;
        is = own-is xs w;
        business = does-business o w.others own;
        polls_soon = polls-soon o w.others own;
        runs = runs-named o w.others own;
        prints = prints-in-order xs makes calm;
      }

pub truss-beside : (o : Options) (xs : List Exchange) → has_functions o ≡ true → o.follow ≡ false
    → MakesFunctionCalls (first_truss o) xs → All IsCalm xs → IsTrussBeside o xs
truss-beside o xs has off = beside o has off xs

pub ruleset ordinaries = (truss-beside)
