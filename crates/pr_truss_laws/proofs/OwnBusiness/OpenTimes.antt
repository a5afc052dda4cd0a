use Rattle.std.proofs.Common.{◌≡◌, ◌≤◌, ℕ, Bool, true, false, cond, Option, Some, None, List, [], ◌∷◌, ◌++◌, length, refl, sym, subst, ap, ◌∙◌, append_assoc, arith}
use Rattle.std.proofs.lemmas.List.{append-nil}
use Rattle.std.proofs.lemmas.Option.{none-some, same_Some}
use Rattle.std.specs.List.{slice_get}
use Rattle.pr_line.specs.declared.options.Options.{Options}
use Rattle.pr_model.specs.declared.calls.Call.TheVariants as call
use Rattle.pr_model.specs.declared.calls.File.TheVariants.{Ctl}
use Rattle.pr_model.specs.declared.calls.Mode.TheVariants.{WriteExcl}
use Rattle.pr_rec.specs.declared.lwps.LwpStatus.{LwpStatus}
use Rattle.pr_truss.specs.Feeding.{fed}
use Rattle.pr_truss.specs.NextCalls.{call_of, child_call, freeing_call, next_call_of, opening_call}
use Rattle.pr_truss.specs.Records.{child_of}
use Rattle.pr_truss.specs.Stops.{followed_child}
use Rattle.pr_truss.specs.Trusses.{TrussState, first_of_program, first_truss, idle, opening_or, traced_at}
use Rattle.pr_truss.specs.declared.processes.Traced.{Traced}
use Rattle.pr_truss.specs.declared.stages.ChildStep.{ChildStep}
use Rattle.pr_truss.specs.declared.stages.ChildStep.TheVariants as child
use Rattle.pr_truss.specs.declared.stages.FreeingStep.{FreeingStep}
use Rattle.pr_truss.specs.declared.stages.FreeingStep.TheVariants as freeing
use Rattle.pr_truss.specs.declared.stages.OpeningStep.{OpeningStep}
use Rattle.pr_truss.specs.declared.stages.OpeningStep.TheVariants as opening
use Rattle.pr_truss.specs.declared.stages.Stage.{Stage}
use Rattle.pr_truss.specs.declared.stages.Stage.TheVariants.{OpeningControl, Opening, ReadingText, OpeningChildControl, OpeningChild, FreeingChild, Finished}
use Rattle.pr_truss_laws.proofs.Replies.ExchangeLemmas.{makes-front, makes-rest}
use Rattle.pr_truss_laws.proofs.Replies.FedSteps.{fed-step}
use Rattle.pr_truss_laws.proofs.OwnBusiness.KnownLemmas.{called}
use Rattle.pr_truss_laws.proofs.Replies.OptionLemmas.{fed-options}
use Rattle.pr_truss_laws.proofs.Replies.ReplySteps as step
use Rattle.pr_truss_laws.proofs.Replies.ReplySteps.{GoesOn, Looks, Reads, ReplyStep, StopOver, Turns}
use Rattle.pr_truss_laws.proofs.Replies.TracedChanges.{accepted-granted}
use Rattle.pr_truss_laws.specs.Business.{MayOpen, OpensInTime, WasRead, as_made, by_name, in_lstatus, in_status, just_told}
use Rattle.pr_truss_laws.specs.Exchanges.{Exchange, Makes, truss_after}

-- Truss opens the control file of a child right after a read told of the child.

-- ---- reads

-- the last call told of this lwp
record WasLastRead (l : LwpStatus) (xs : List Exchange) : Type 0 where
  read : WasRead l xs
  last : read.after ≡ []

-- it did, or the one before
record WasJustRead (l : LwpStatus) (xs : List Exchange) : Type 0 where
  read : WasRead l xs
  soon : length read.after ≤ 1

last-just : (l : LwpStatus) (xs : List Exchange) → WasLastRead l xs → WasJustRead l xs
last-just l xs w = record { read = w.read; soon = omega (arith, ap length w.last) }

later-just : (l : LwpStatus) (xs : List Exchange) (x : Exchange) → WasLastRead l xs → WasJustRead l (xs ++ x ∷ [])
later-just l xs x w =
    let r = w.read in
    let it : Exchange = record { call = call.Read r.handle r.from r.len; reply = r.reply } in
    record {
      read = record {
        before = r.before;
        handle = r.handle;
        from = r.from;
        len = r.len;
        reply = r.reply;
        after = x ∷ [];
        is =
            ap (λ zs. zs ++ x ∷ []) (r.is ∙ ap (λ zs. r.before ++ it ∷ zs) w.last)
            ∙ append_assoc r.before (it ∷ []) (x ∷ []);
        tells = r.tells;
      };
      soon = omega arith;
    }

-- ---- what is so at a stage

abbrev TimesStage : Options → List Exchange → Stage → Type 0
TimesStage o xs (OpeningControl pid) = MayOpen o pid xs
TimesStage o xs (ReadingText place l from len) = WasLastRead l xs
TimesStage o xs (OpeningChildControl parent pid) = MayOpen o pid xs
TimesStage o xs (FreeingChild pid freeing.OpenControl) = MayOpen o pid xs
TimesStage o xs _ = Unit {0}

record Times (o : Options) (xs : List Exchange) (s : TrussState) : Type 0 where
  options : s.options ≡ o
  stage : TimesStage o xs s.stage

opening-other : (o : Options) (t : Traced) (now : OpeningStep) (pid : ℕ)
    → opening_call o t now ≡ call.Open pid 0 Ctl WriteExcl → ⊥
unfolding opening_call
opening-other o t opening.OpenStatus pid is = cc
opening-other o t opening.OpenLstatus pid is = cc
opening-other o t opening.OpenMemory pid is = cc
opening-other o t _ pid is = cc

child-other : (t : Traced) (now : ChildStep) (pid : ℕ) → child_call t now ≡ call.Open pid 0 Ctl WriteExcl → ⊥
unfolding child_call
child-other t child.OpenStatus pid is = cc
child-other t child.OpenLstatus pid is = cc
child-other t child.OpenMemory pid is = cc
child-other t _ pid is = cc

freeing-times : (o : Options) (xs : List Exchange) (given pid : ℕ) (now : FreeingStep)
    → TimesStage o xs (FreeingChild given now) → freeing_call given now ≡ call.Open pid 0 Ctl WriteExcl
    → MayOpen o pid xs
unfolding freeing_call
freeing-times o xs given pid freeing.OpenControl t is =
    let this : given ≡ pid = cc in subst (λ p. MayOpen o p xs) this t
freeing-times o xs given pid _ t is = cc

stage-times : (o : Options) (xs : List Exchange) (s : TrussState) (stage : Stage) (pid : ℕ) → TimesStage o xs stage
    → call_of s stage ≡ Some (call.Open pid 0 Ctl WriteExcl) → MayOpen o pid xs
unfolding call_of
stage-times o xs s (OpeningControl given) pid t is =
    let this : given ≡ pid = cc in subst (λ p. MayOpen o p xs) this t
stage-times o xs s (Opening place now) pid t is =
    absurd (opening-other s.options (traced_at s place) now pid (same_Some _ _ is))
stage-times o xs s (OpeningChildControl parent given) pid t is =
    let this : given ≡ pid = cc in subst (λ p. MayOpen o p xs) this t
stage-times o xs s (OpeningChild parent place now) pid t is =
    absurd (child-other (traced_at s place) now pid (same_Some _ _ is))
stage-times o xs s (FreeingChild given now) pid t is = freeing-times o xs given pid now t (same_Some _ _ is)
stage-times o xs s Finished pid t is = absurd (none-some _ is)
stage-times o xs s _ pid t is = cc

next-times : (o : Options) (xs : List Exchange) (s : TrussState) (pid : ℕ) → Times o xs s
    → next_call_of s ≡ Some (call.Open pid 0 Ctl WriteExcl) → MayOpen o pid xs
unfolding next_call_of
next-times o xs s pid t is = stage-times o xs s s.stage pid t.stage is

-- ---- a reply

abbrev ChildTimes : Options → List Exchange → Option ℕ → Type 0
ChildTimes o xs None = Unit {0}
ChildTimes o xs (Some pid) = MayOpen o pid xs

module _ (o : Options) (xs : List Exchange) (s : TrussState) (x : Exchange) (t : Times o xs s)
    (makes : next_call_of s ≡ Some x.call) where
  abbrev then : List Exchange
  then = xs ++ x ∷ []

  read-last : (stage : Stage) (place : ℕ) (lwp : Option LwpStatus) → s.stage ≡ stage
      → Reads s x.reply stage place lwp → (l : LwpStatus) → lwp ≡ Some l → WasLastRead l then
  unfolding call_of
  read-last stage place lwp at (step.reads_status _) l tells = record {
    read = record {
      before = xs;
      handle = _;
      from = _;
      len = _;
      reply = x.reply;
      after = [];
      is = called xs s x makes _ (ap (call_of s) at);
      tells = in_status tells;
    };
    last = refl;
  }
  read-last stage place lwp at (step.reads_none _) l tells = absurd (none-some l tells)
  read-last stage place lwp at (step.reads_lwps _) l tells = record {
    read = record {
      before = xs;
      handle = _;
      from = _;
      len = _;
      reply = x.reply;
      after = [];
      is = called xs s x makes _ (ap (call_of s) at);
      tells = in_lstatus tells;
    };
    last = refl;
  }

  followed-times : (l : LwpStatus) → WasJustRead l then → ChildTimes o then (followed_child s.options l)
  unfolding followed_child
  followed-times l w = by s.options.follow (child_of l) (ap (λ (p : Options). p.follow) t.options) refl
    where
      by : (b : Bool) (of : Option ℕ) → b ≡ o.follow → child_of l ≡ of → ChildTimes o then (cond b of None)
      by true None follow is = tt
      by true (Some pid) follow is =
          just_told (sym follow) (record { lwp = l; read = w.read; forked = is; soon = w.soon })
      by false of follow is = tt

  looks-times : (stage : Stage) (place : ℕ) (pid : Option ℕ) (u : TrussState) → s.stage ≡ stage
      → Looks s x.reply stage place pid u → ChildTimes o then pid
  looks-times stage place pid u at (step.passes _) = tt
  looks-times stage place pid u at (step.passes_old _ _ _) = tt
  looks-times stage place pid u at (step.passes_event {l = l} reads _ _) =
      followed-times l (last-just l then (read-last stage place (Some l) at reads l refl))
  looks-times stage place pid u at (step.shows {l = l} reads _ _ _) =
      followed-times l (last-just l then (read-last stage place (Some l) at reads l refl))
  looks-times stage place pid u at (step.shows_text {l = l}) =
      followed-times l (later-just l xs x (subst (TimesStage o xs) at t.stage))

  on-times : (u v : TrussState) (given : Bool) → u.options ≡ o → GoesOn u given v → TimesStage o then v.stage
  on-times u v given same (step.opens_next {pid = pid} is) =
      by_name u.begun (subst (λ (p : Options). slice_get p.pids u.begun ≡ Some pid) same is)
  on-times u v given same (step.polls _ _) = tt
  on-times u v given same _ = tt

  over-times : (u v : TrussState) (place : ℕ) (pid : Option ℕ) → ChildTimes o then pid → StopOver u place pid v
      → TimesStage o then v.stage
  over-times u v place pid c (step.opens_child _) = c
  over-times u v place pid c (step.frees_child _) = c
  over-times u v place pid c (step.runs _) = tt
  over-times u v place pid c (step.leaves _) = tt

  turns-times : (stage next : Stage) → s.stage ≡ stage → Turns s x.reply stage next → TimesStage o then next
  unfolding call_of
  turns-times stage next at (step.starts is) =
      as_made (record {
        before = xs;
        program = _;
        held = true;
        reply = x.reply;
        after = [];
        is = called xs s x makes _ (ap (call_of s) at);
        granted = accepted-granted x.reply is;
        gives = refl;
      })
  turns-times stage next at (step.is_named _) = tt
  turns-times stage next at (step.frees _) = tt
  turns-times stage next at step.frees_on = tt
  turns-times stage next at step.polls_again = tt
  turns-times stage next at _ = tt

  step-times : (stage : Stage) (v : TrussState) → s.stage ≡ stage → v.options ≡ o → ReplyStep s x.reply stage v
      → TimesStage o then v.stage
  step-times stage v at same (step.settles {u = u} _ on) =
      let staged = step.on-staged on in on-times u v _ (sym staged.options ∙ same) on
  step-times stage v at same (step.looks w over) = over-times _ v _ _ (looks-times stage _ _ _ at w) over
  step-times stage v at same (step.asks {place = place} {l = l} reads _ _ _) =
      read-last stage place (Some l) at reads l refl
  step-times stage v at same (step.opens _ step.new_given) = tt
  step-times stage v at same (step.opens _ step.new_child) = tt
  step-times stage v at same (step.learns _ (step.opening_goes _)) = tt
  step-times stage v at same (step.learns _ (step.child_goes _)) = tt
  step-times stage v at same (step.turns w) = turns-times stage _ at w
  step-times stage v at same _ = tt

  fed-times : Times o then (fed s x.reply)
  fed-times =
      let same = fed-options s x.reply ∙ t.options in
      record { options = same; stage = step-times s.stage (fed s x.reply) refl same (fed-step s x.reply) }

-- ---- from its start on

named-first : (o : Options) (p : Option ℕ) → slice_get o.pids 0 ≡ p → Times o [] (opening_or (idle o) (idle o) p)
named-first o None is = record { options = refl; stage = tt }
named-first o (Some pid) is = record { options = refl; stage = by_name 0 is }

program-first : (o : Options) (p : Option (List ℕ)) → Times o [] (first_of_program o p)
program-first o None = named-first o (slice_get o.pids 0) refl
program-first o (Some program) = record { options = refl; stage = tt }

first-times : (o : Options) → Times o [] (first_truss o)
unfolding first_truss
first-times o = program-first o o.program

after-times : (o : Options) (ys xs : List Exchange) (s : TrussState) → Times o xs s → Makes s ys
    → Times o (xs ++ ys) (truss_after s ys)
after-times o [] xs s t makes = subst (λ zs. Times o zs s) (sym (append-nil xs)) t
after-times o (y ∷ ys) xs s t makes =
    subst (λ zs. Times o zs (truss_after (fed s y.reply) ys)) (append_assoc xs (y ∷ []) ys)
    (after-times o ys (xs ++ y ∷ []) (fed s y.reply) (fed-times o xs s y t makes.0) makes.1)

pub opens-in-time : (o : Options) (xs : List Exchange) → Makes (first_truss o) xs → OpensInTime o xs
opens-in-time o xs makes = record {
  each = λ before after reply pid is.
      let x : Exchange = record { call = call.Open pid 0 Ctl WriteExcl; reply = reply } in
      let made = subst (Makes (first_truss o)) is makes in
      let at = makes-rest (first_truss o) before (x ∷ after) made in
      let front = makes-front (first_truss o) before (x ∷ after) made in
      next-times o before (truss_after (first_truss o) before) pid
      (after-times o before [] (first_truss o) (first-times o) front) at.0;
}
