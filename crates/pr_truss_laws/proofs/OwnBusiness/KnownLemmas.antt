use Rattle.std.proofs.Common.{◌≡◌, ◌<◌, ℕ, suc, Bool, true, false, cond, Option, Some, None, List, [], ◌∷◌, ◌++◌, length, drop, take, refl, sym, subst, ap, ◌∙◌, append_assoc, is_some}
use Rattle.std.proofs.lemmas.List.{append-nil}
use Rattle.std.proofs.lemmas.List.Elements.{All-nil, All-cons, All-append, All-drop, All-set, All-take, All-weaker}
use Rattle.std.proofs.lemmas.Option.{none-some, same_Some, slice_get-get_or}
use Rattle.std.specs.List.{All, remove, slice_get, slice_set}
use Rattle.pr_line.specs.declared.options.Options.{Options}
use Rattle.pr_model.specs.Replies.{handle_in}
use Rattle.pr_model.specs.declared.calls.Call.{Call}
use Rattle.pr_model.specs.declared.calls.Call.TheVariants as call
use Rattle.pr_model.specs.declared.calls.File.{File}
use Rattle.pr_model.specs.declared.calls.File.TheVariants.{Ctl, Lstatus}
use Rattle.pr_model.specs.declared.calls.Mode.{Mode}
use Rattle.pr_num.proofs.SearchLemmas.{All-at}
use Rattle.pr_rec.specs.declared.lwps.LwpStatus.{LwpStatus}
use Rattle.pr_truss.specs.Feeding.{fed}
use Rattle.pr_truss.specs.NextCalls.{call_of, child_call, freeing_call, next_call_of, opening_call}
use Rattle.pr_truss.specs.Openings.{learnt, step_after}
use Rattle.pr_truss.specs.Processes.{newly_traced}
use Rattle.pr_truss.specs.Records.{child_of}
use Rattle.pr_truss.specs.Stops.{followed_child}
use Rattle.pr_truss.specs.Trusses.{TrussState, first_of_program, first_truss, idle, nobody, opening_or, traced_at}
use Rattle.pr_truss.specs.declared.processes.Traced.{Traced}
use Rattle.pr_truss.specs.declared.stages.ChildStep.{ChildStep}
use Rattle.pr_truss.specs.declared.stages.ChildStep.TheVariants as child
use Rattle.pr_truss.specs.declared.stages.FreeingStep.{FreeingStep}
use Rattle.pr_truss.specs.declared.stages.FreeingStep.TheVariants as freeing
use Rattle.pr_truss.specs.declared.stages.OpeningStep.{OpeningStep}
use Rattle.pr_truss.specs.declared.stages.OpeningStep.TheVariants as opening
use Rattle.pr_truss.specs.declared.stages.Stage.{Stage}
use Rattle.pr_truss.specs.declared.stages.Stage.TheVariants.{OpeningControl, Opening, ReadingText, OpeningChildControl, OpeningChild, FreeingChild, Finished}
use Rattle.pr_truss_laws.proofs.Files.ClosesLemmas.{first-fits}
use Rattle.pr_truss_laws.proofs.Replies.FedSteps.{fed-step}
use Rattle.pr_truss_laws.proofs.Replies.FitLemmas.{fed-fits, last-within}
use Rattle.pr_truss_laws.proofs.Files.HeldLemmas.{Fits, at_place, set-at}
use Rattle.pr_truss_laws.proofs.Replies.OptionLemmas.{fed-options}
use Rattle.pr_truss_laws.proofs.Replies.ReplySteps as step
use Rattle.pr_truss_laws.proofs.Replies.ReplySteps.{GoesOn, Learns, Looks, Reads, ReplyStep, StopOver, Turns}
use Rattle.pr_truss_laws.proofs.Replies.TracedChanges as change
use Rattle.pr_truss_laws.proofs.Replies.TracedChanges.{KeepsLstatus, KeepsProcess, TracedChange, accepted-granted, fed-change}
use Rattle.pr_truss_laws.specs.Business.{IsKnown, WasMade, WasGiven, WasRead, WasTold, in_lstatus, in_status, made, named, told}
use Rattle.pr_truss_laws.specs.Exchanges.{Exchange, Makes, errno_in, truss_after}

-- What truss knows of the processes that it traces and opens, by the exchanges before.

-- ---- what the exchanges told they tell later

module _ (xs ys : List Exchange) where
  longer : (before after : List Exchange) (x : Exchange) → xs ≡ before ++ x ∷ after
      → xs ++ ys ≡ before ++ x ∷ (after ++ ys)
  longer before after x is = ap (λ zs. zs ++ ys) is ∙ append_assoc before (x ∷ after) ys

  more-opened : (pid handle : ℕ) (file : File) → WasGiven pid file handle xs → WasGiven pid file handle (xs ++ ys)
  more-opened pid handle file w = record {
    before = w.before;
    id = w.id;
    mode = w.mode;
    reply = w.reply;
    after = w.after ++ ys;
    is = longer w.before w.after (record { call = call.Open pid w.id file w.mode; reply = w.reply }) w.is;
    granted = w.granted;
    gives = w.gives;
  }

  more-made : (pid : ℕ) → WasMade pid xs → WasMade pid (xs ++ ys)
  more-made pid w = record {
    before = w.before;
    program = w.program;
    held = w.held;
    reply = w.reply;
    after = w.after ++ ys;
    is = longer w.before w.after (record { call = call.Spawn w.program w.held; reply = w.reply }) w.is;
    granted = w.granted;
    gives = w.gives;
  }

  more-read : (l : LwpStatus) → WasRead l xs → WasRead l (xs ++ ys)
  more-read l w = record {
    before = w.before;
    handle = w.handle;
    from = w.from;
    len = w.len;
    reply = w.reply;
    after = w.after ++ ys;
    is = longer w.before w.after (record { call = call.Read w.handle w.from w.len; reply = w.reply }) w.is;
    tells = w.tells;
  }

  more-known : (o : Options) (pid : ℕ) → IsKnown o pid xs → IsKnown o pid (xs ++ ys)
  more-known o pid (named place is) = named place is
  more-known o pid (made w) = made (more-made pid w)
  more-known o pid (told follow w) =
      told follow (record { lwp = w.lwp; read = more-read w.lwp w.read; made = w.made })

-- ---- what is known of one process

pub record KnowsProcess (o : Options) (xs : List Exchange) (t : Traced) : Type 0 where
  pub known : IsKnown o t.pid xs
  pub control : WasGiven t.pid Ctl t.control xs
  pub lstatus : (handle : ℕ) → t.lstatus ≡ Some handle → WasGiven t.pid Lstatus handle xs

more-process : (o : Options) (xs ys : List Exchange) (t : Traced) → KnowsProcess o xs t → KnowsProcess o (xs ++ ys) t
more-process o xs ys t k = record {
  known = more-known xs ys o t.pid k.known;
  control = more-opened xs ys t.pid t.control Ctl k.control;
  lstatus = λ handle is. more-opened xs ys t.pid handle Lstatus (k.lstatus handle is);
}

-- the file of its lwps is open from this step of an opening on
abbrev pub HasLstatus : Traced → OpeningStep → Type 0
HasLstatus t opening.OpenStatus = Unit {0}
HasLstatus t opening.OpenLstatus = Unit {0}
HasLstatus t _ = is_some t.lstatus ≡ true

-- It is followed as the child of a fork.
pub record IsChild (o : Options) (pid : ℕ) (xs : List Exchange) : Type 0 where
  pub follows : o.follow ≡ true
  pub was_told : WasTold pid xs

child-known : (o : Options) (pid : ℕ) (xs : List Exchange) → IsChild o pid xs → IsKnown o pid xs
child-known o pid xs c = told c.follows c.was_told

pub more-child : (o : Options) (pid : ℕ) (xs ys : List Exchange) → IsChild o pid xs → IsChild o pid (xs ++ ys)
more-child o pid xs ys c =
    let w = c.was_told in
    record {
      follows = c.follows;
      was_told = record { lwp = w.lwp; read = more-read xs ys w.lwp w.read; made = w.made };
    }

-- What is known where truss has come to a stage.
abbrev pub KnowsStage : Options → List Exchange → List Traced → Stage → Type 0
KnowsStage o xs ts (OpeningControl pid) = IsKnown o pid xs
KnowsStage o xs ts (Opening place now) = HasLstatus (at_place ts place) now
KnowsStage o xs ts (ReadingText place l from len) = WasRead l xs
KnowsStage o xs ts (OpeningChildControl parent pid) = IsChild o pid xs
KnowsStage o xs ts (FreeingChild pid now) = IsChild o pid xs
KnowsStage o xs ts _ = Unit {0}

pub record Knows (o : Options) (xs : List Exchange) (s : TrussState) : Type 0 where
  pub options : s.options ≡ o
  pub fits : Fits s.traced s.stage
  pub each : All (KnowsProcess o xs) s.traced
  pub stage : KnowsStage o xs s.traced s.stage

pub at-known : (o : Options) (xs : List Exchange) (ts : List Traced) (place : ℕ) → place < length ts
    → All (KnowsProcess o xs) ts → KnowsProcess o xs (at_place ts place)
at-known o xs ts place within each =
    All-at (KnowsProcess o xs) ts place (at_place ts place) (slice_get-get_or ts place nobody within) each

-- ---- the process of each open is known

opening-opens : (o : Options) (xs : List Exchange) (t : Traced) (now : OpeningStep) (pid id : ℕ) (file : File)
    (mode : Mode) → KnowsProcess o xs t → opening_call o t now ≡ call.Open pid id file mode → IsKnown o pid xs
unfolding opening_call
opening-opens o xs t opening.OpenStatus pid id file mode k is =
    let same : t.pid ≡ pid = cc in subst (λ p. IsKnown o p xs) same k.known
opening-opens o xs t opening.OpenLstatus pid id file mode k is =
    let same : t.pid ≡ pid = cc in subst (λ p. IsKnown o p xs) same k.known
opening-opens o xs t opening.OpenMemory pid id file mode k is =
    let same : t.pid ≡ pid = cc in subst (λ p. IsKnown o p xs) same k.known
opening-opens o xs t _ pid id file mode k is = cc

child-opens : (o : Options) (xs : List Exchange) (t : Traced) (now : ChildStep) (pid id : ℕ) (file : File)
    (mode : Mode) → KnowsProcess o xs t → child_call t now ≡ call.Open pid id file mode → IsKnown o pid xs
unfolding child_call
child-opens o xs t child.OpenStatus pid id file mode k is =
    let same : t.pid ≡ pid = cc in subst (λ p. IsKnown o p xs) same k.known
child-opens o xs t child.OpenLstatus pid id file mode k is =
    let same : t.pid ≡ pid = cc in subst (λ p. IsKnown o p xs) same k.known
child-opens o xs t child.OpenMemory pid id file mode k is =
    let same : t.pid ≡ pid = cc in subst (λ p. IsKnown o p xs) same k.known
child-opens o xs t _ pid id file mode k is = cc

freeing-opens : (o : Options) (xs : List Exchange) (child : ℕ) (now : FreeingStep) (pid id : ℕ) (file : File)
    (mode : Mode) → IsKnown o child xs → freeing_call child now ≡ call.Open pid id file mode → IsKnown o pid xs
unfolding freeing_call
freeing-opens o xs child freeing.OpenControl pid id file mode k is =
    let same : child ≡ pid = cc in subst (λ p. IsKnown o p xs) same k
freeing-opens o xs child _ pid id file mode k is = cc

stage-opens : (o : Options) (xs : List Exchange) (s : TrussState) (stage : Stage) (pid id : ℕ) (file : File)
    (mode : Mode) → Fits s.traced stage → s.options ≡ o → All (KnowsProcess o xs) s.traced
    → KnowsStage o xs s.traced stage
    → call_of s stage ≡ Some (call.Open pid id file mode) → IsKnown o pid xs
unfolding call_of
stage-opens o xs s (OpeningControl given) pid id file mode f same each k is =
    let this : given ≡ pid = cc in subst (λ p. IsKnown o p xs) this k
stage-opens o xs s (Opening place now) pid id file mode f same each k is =
    opening-opens o xs (traced_at s place) now pid id file mode (at-known o xs s.traced place f.0 each)
    (subst (λ p. opening_call p (traced_at s place) now ≡ call.Open pid id file mode) same (same_Some _ _ is))
stage-opens o xs s (OpeningChildControl parent given) pid id file mode f same each k is =
    let this : given ≡ pid = cc in subst (λ p. IsKnown o p xs) this (child-known o given xs k)
stage-opens o xs s (OpeningChild parent place now) pid id file mode f same each k is =
    child-opens o xs (traced_at s place) now pid id file mode
    (at-known o xs s.traced place (last-within s.traced parent place f.0) each) (same_Some _ _ is)
stage-opens o xs s (FreeingChild given now) pid id file mode f same each k is =
    freeing-opens o xs given now pid id file mode (child-known o given xs k) (same_Some _ _ is)
stage-opens o xs s Finished pid id file mode f same each k is = absurd (none-some _ is)
stage-opens o xs s _ pid id file mode f same each k is = cc

pub opens-known : (o : Options) (xs : List Exchange) (s : TrussState) (pid id : ℕ) (file : File) (mode : Mode)
    → Knows o xs s → next_call_of s ≡ Some (call.Open pid id file mode) → IsKnown o pid xs
unfolding next_call_of
opens-known o xs s pid id file mode k is =
    stage-opens o xs s s.stage pid id file mode k.fits k.options k.each k.stage is

-- ---- a reply

pub All-removed : {X : Type 0} (P : X → Type 0) (xs : List X) (i : ℕ) → All P xs → All P (remove xs i)
All-removed P xs i all =
    All-append P (take i xs) (drop (suc i) xs) (All-take P i xs all) (All-drop P (suc i) xs all)

-- the child of a fork, where there is one
abbrev pub KnowsChild : Options → List Exchange → Option ℕ → Type 0
KnowsChild o xs None = Unit {0}
KnowsChild o xs (Some pid) = IsChild o pid xs

module _ (xs : List Exchange) (s : TrussState) (x : Exchange) (makes : next_call_of s ≡ Some x.call) where
  next-is : call_of s s.stage ≡ Some x.call
  unfolding next_call_of
  next-is = makes

  -- the call that it made
  pub called : (c : Call) → call_of s s.stage ≡ Some c → xs ++ x ∷ [] ≡ xs ++ record { call = c; reply = x.reply } ∷ []
  called c is = ap (λ d. xs ++ record { call = d; reply = x.reply } ∷ []) (same_Some x.call c (sym next-is ∙ is))

  pub read-known : (stage : Stage) (place : ℕ) (lwp : Option LwpStatus) → s.stage ≡ stage
      → Reads s x.reply stage place lwp → (l : LwpStatus) → lwp ≡ Some l → WasRead l (xs ++ x ∷ [])
  unfolding call_of
  read-known stage place lwp at (step.reads_status _) l tells = record {
    before = xs;
    handle = _;
    from = _;
    len = _;
    reply = x.reply;
    after = [];
    is = called _ (ap (call_of s) at);
    tells = in_status tells;
  }
  read-known stage place lwp at (step.reads_none _) l tells = absurd (none-some l tells)
  read-known stage place lwp at (step.reads_lwps _) l tells = record {
    before = xs;
    handle = _;
    from = _;
    len = _;
    reply = x.reply;
    after = [];
    is = called _ (ap (call_of s) at);
    tells = in_lstatus tells;
  }

module _ (o : Options) (xs : List Exchange) (s : TrussState) (x : Exchange) (same : s.options ≡ o)
    (makes : next_call_of s ≡ Some x.call) where
  abbrev then : List Exchange
  then = xs ++ x ∷ []

  followed-known : (l : LwpStatus) → WasRead l then → KnowsChild o then (followed_child s.options l)
  unfolding followed_child
  followed-known l read = by s.options.follow (child_of l) (ap (λ (p : Options). p.follow) same) refl
    where
      by : (b : Bool) (of : Option ℕ) → b ≡ o.follow → child_of l ≡ of → KnowsChild o then (cond b of None)
      by true None follow is = tt
      by true (Some pid) follow is = record {
        follows = sym follow;
        was_told = record { lwp = l; read = read; made = is };
      }
      by false of follow is = tt

  -- where the status that is looked at now was read before
  pub looks-known : ((place : ℕ) (l : LwpStatus) (from len : ℕ) → s.stage ≡ ReadingText place l from len
      → WasRead l xs) → (stage : Stage) (place : ℕ) (pid : Option ℕ) (u : TrussState) → s.stage ≡ stage
      → Looks s x.reply stage place pid u → KnowsChild o then pid
  looks-known texts stage place pid u at (step.passes _) = tt
  looks-known texts stage place pid u at (step.passes_old _ _ _) = tt
  looks-known texts stage place pid u at (step.passes_event {l = l} reads _ _) =
      followed-known l (read-known xs s x makes stage place (Some l) at reads l refl)
  looks-known texts stage place pid u at (step.shows {l = l} reads _ _ _) =
      followed-known l (read-known xs s x makes stage place (Some l) at reads l refl)
  looks-known texts stage place pid u at (step.shows_text {l = l} {from = from} {len = len}) =
      followed-known l (more-read xs (x ∷ []) l (texts place l from len at))

module _ (o : Options) (xs : List Exchange) (s : TrussState) (x : Exchange) (k : Knows o xs s)
    (makes : next_call_of s ≡ Some x.call) where
  abbrev with_it : List Exchange
  with_it = xs ++ x ∷ []

  opened-now : (pid id handle : ℕ) (file : File) (mode : Mode)
      → call_of s s.stage ≡ Some (call.Open pid id file mode) → errno_in x.reply ≡ None
      → handle_in x.reply ≡ handle → WasGiven pid file handle with_it
  opened-now pid id handle file mode is granted gives = record {
    before = xs;
    id = id;
    mode = mode;
    reply = x.reply;
    after = [];
    is = called xs s x makes (call.Open pid id file mode) is;
    granted = granted;
    gives = gives;
  }

  -- ---- the processes that it traces

  kept-process : (t u : Traced) → KeepsProcess s x.reply s.stage t u → KnowsProcess o xs t → KnowsProcess o with_it u
  kept-process t u keeps p = record {
    known = subst (λ n. IsKnown o n with_it) (sym keeps.pid) (more-known xs (x ∷ []) o t.pid p.known);
    control =
        subst (λ n. WasGiven n Ctl u.control with_it) (sym keeps.pid)
        (subst (λ h. WasGiven t.pid Ctl h with_it) (sym keeps.control)
        (more-opened xs (x ∷ []) t.pid t.control Ctl p.control));
    lstatus = λ handle is. subst (λ n. WasGiven n Lstatus handle with_it) (sym keeps.pid)
        (by handle is keeps.lstatus);
  }
    where
      by : (handle : ℕ) → u.lstatus ≡ Some handle → KeepsLstatus s x.reply s.stage t u
          → WasGiven t.pid Lstatus handle with_it
      by handle is (change.same now) =
          more-opened xs (x ∷ []) t.pid handle Lstatus (p.lstatus handle (sym now ∙ is))
      by handle is (change.lost none) = absurd (none-some handle (sym none ∙ is))
      by handle is (change.given now granted c) =
          opened-now t.pid 0 handle Lstatus _ c granted (same_Some (handle_in x.reply) handle (sym now ∙ is))

  changed-each : (ts : List Traced) → TracedChange s x.reply s.stage ts → All (KnowsProcess o with_it) ts
  unfolding newly_traced
  changed-each ts change.stays = All-weaker _ _ (λ t. more-process o xs (x ∷ []) t) s.traced k.each
  changed-each ts (change.becomes {place = place} {t = t} within keeps) =
      All-set (KnowsProcess o with_it) s.traced place t
      (kept-process (traced_at s place) t keeps (at-known o xs s.traced place within k.each))
      (All-weaker _ _ (λ t. more-process o xs (x ∷ []) t) s.traced k.each)
  changed-each ts (change.adds {pid = pid} granted is) =
      let new : Traced = newly_traced pid (handle_in x.reply) in
      let one : KnowsProcess o with_it new = record {
        known =
            more-known xs (x ∷ []) o pid
            (stage-opens o xs s s.stage pid 0 Ctl _ k.fits k.options k.each k.stage is);
        control = opened-now pid 0 (handle_in x.reply) Ctl _ is granted refl;
        lstatus = λ handle none. absurd (none-some handle none);
      } in
      All-append (KnowsProcess o with_it) s.traced (new ∷ [])
      (All-weaker _ _ (λ t. more-process o xs (x ∷ []) t) s.traced k.each)
      (All-cons (KnowsProcess o with_it) new [] one (All-nil (KnowsProcess o with_it)))
  changed-each ts (change.drops {place = place} within is) =
      All-removed (KnowsProcess o with_it) s.traced place
      (All-weaker _ _ (λ t. more-process o xs (x ∷ []) t) s.traced k.each)

  -- ---- the stage

  on-known : (u v : TrussState) (given : Bool) → u.options ≡ o → GoesOn u given v
      → KnowsStage o with_it v.traced v.stage
  on-known u v given same (step.opens_next {pid = pid} is) =
      named u.begun (subst (λ (p : Options). slice_get p.pids u.begun ≡ Some pid) same is)
  on-known u v given same (step.polls _ _) = tt
  on-known u v given same _ = tt

  over-known : (u v : TrussState) (place : ℕ) (pid : Option ℕ) → KnowsChild o with_it pid → StopOver u place pid v
      → KnowsStage o with_it v.traced v.stage
  over-known u v place pid c (step.opens_child _) = c
  over-known u v place pid c (step.frees_child _) = c
  over-known u v place pid c _ = tt

  -- what a step of an opening leaves of this
  abbrev HasNext : Traced → Option OpeningStep → Type 0
  HasNext t None = Unit {0}
  HasNext t (Some now) = HasLstatus t now

  last-lstatus : (b : Bool) (t : Traced) → is_some t.lstatus ≡ true
      → HasNext t (Some (cond b opening.Follow opening.Start))
  last-lstatus true t has = has
  last-lstatus false t has = has

  next-lstatus : (t : Traced) (now : OpeningStep) → HasLstatus t now
      → HasNext (learnt t x.reply now) (step_after s.options x.reply now)
  unfolding learnt step_after
  next-lstatus t opening.OpenStatus has = tt
  next-lstatus t opening.OpenLstatus has = refl
  next-lstatus t opening.TraceExits has = last-lstatus s.options.follow t has
  next-lstatus t opening.Start has = tt
  next-lstatus t _ has = has

  learns-known : (stage next : Stage) (place : ℕ) (t : Traced) → s.stage ≡ stage
      → Learns s x.reply stage place t next
      → KnowsStage o with_it (slice_set s.traced place t) next
  learns-known stage next place t at (step.opening_goes {now = now} {next = goes} after) =
      let f = subst (Fits s.traced) at k.fits in
      let has = subst (KnowsStage o xs s.traced) at k.stage in
      subst (λ u. HasLstatus u goes) (sym (set-at s.traced place t f.0))
      (subst (HasNext t) after (next-lstatus (traced_at s place) now has))
  learns-known stage next place t at (step.child_goes _) = tt

  turns-known : (stage next : Stage) → s.stage ≡ stage → Turns s x.reply stage next → KnowsStage o with_it s.traced next
  unfolding call_of
  turns-known stage next at (step.starts is) =
      made (record {
        before = xs;
        program = _;
        held = true;
        reply = x.reply;
        after = [];
        is = called xs s x makes _ (ap (call_of s) at);
        granted = accepted-granted x.reply is;
        gives = refl;
      })
  turns-known stage next at (step.frees {pid = pid} _) =
      more-child o pid xs (x ∷ []) (subst (KnowsStage o xs s.traced) at k.stage)
  turns-known stage next at (step.frees_on {pid = pid}) =
      more-child o pid xs (x ∷ []) (subst (KnowsStage o xs s.traced) at k.stage)
  turns-known stage next at step.polls_again = tt
  turns-known stage next at _ = tt

  step-known : (stage : Stage) (v : TrussState) → s.stage ≡ stage → v.options ≡ o → ReplyStep s x.reply stage v
      → KnowsStage o with_it v.traced v.stage
  step-known stage v at same (step.settles {u = u} _ on) =
      let staged = step.on-staged on in on-known u v _ (sym staged.options ∙ same) on
  step-known stage v at same (step.looks w over) = over-known _ v _ _ (looks-known o xs s x k.options makes
      (λ place l from len text. subst (KnowsStage o xs s.traced) text k.stage) stage _ _ _ at w) over
  step-known stage v at same (step.asks {place = place} {l = l} reads _ _ _) =
      read-known xs s x makes stage place (Some l) at reads l refl
  step-known stage v at same (step.opens _ step.new_given) = tt
  step-known stage v at same (step.opens _ step.new_child) = tt
  step-known stage v at same (step.learns _ w) = learns-known stage _ _ _ at w
  step-known stage v at same (step.turns w) = turns-known stage _ at w
  step-known stage v at same _ = tt

  pub fed-knows : Knows o with_it (fed s x.reply)
  fed-knows =
      let same = fed-options s x.reply ∙ k.options in
      record {
        options = same;
        fits = fed-fits s x.reply k.fits;
        each = changed-each (fed s x.reply).traced (fed-change s x.reply k.fits);
        stage = step-known s.stage (fed s x.reply) refl same (fed-step s x.reply);
      }

-- ---- from its start on

named-knows : (o : Options) (p : Option ℕ) → slice_get o.pids 0 ≡ p
    → KnowsStage o [] [] (opening_or (idle o) (idle o) p).stage
named-knows o None is = tt
named-knows o (Some pid) is = named 0 is

first-stage : (o : Options) (p : Option (List ℕ)) → KnowsStage o [] [] (first_of_program o p).stage
first-stage o None = named-knows o (slice_get o.pids 0) refl
first-stage o (Some program) = tt

named-idle : (o : Options) (p : Option ℕ)
    → ((opening_or (idle o) (idle o) p).traced ≡ []) × ((opening_or (idle o) (idle o) p).options ≡ o)
named-idle o None = (refl, refl)
named-idle o (Some pid) = (refl, refl)

first-idle : (o : Options) (p : Option (List ℕ))
    → ((first_of_program o p).traced ≡ []) × ((first_of_program o p).options ≡ o)
first-idle o None = named-idle o (slice_get o.pids 0)
first-idle o (Some program) = (refl, refl)

pub first-knows : (o : Options) → Knows o [] (first_truss o)
unfolding first_truss
first-knows o =
    let it = first-idle o o.program in
    record {
      options = it.1;
      fits = first-fits o;
      each = subst (All (KnowsProcess o [])) (sym it.0) (All-nil (KnowsProcess o []));
      stage =
          subst (λ ts. KnowsStage o [] ts (first_of_program o o.program).stage) (sym it.0) (first-stage o o.program);
    }

-- It knows so much after the exchanges before, and makes the call that comes then.
pub after-knows : (o : Options) (ys xs : List Exchange) (s : TrussState) → Knows o xs s → Makes s ys
    → Knows o (xs ++ ys) (truss_after s ys)
after-knows o [] xs s k makes = subst (λ zs. Knows o zs s) (sym (append-nil xs)) k
after-knows o (y ∷ ys) xs s k makes =
    subst (λ zs. Knows o zs (truss_after (fed s y.reply) ys)) (append_assoc xs (y ∷ []) ys)
    (after-knows o ys (xs ++ y ∷ []) (fed s y.reply) (fed-knows o xs s y k makes.0) makes.1)
