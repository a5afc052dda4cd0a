use Rattle.std.proofs.Common.{◌≡◌, ◌≢◌, ◌==◌, ◌<◌, ◌≤◌, ◌+◌, ◌*◌, ℕ, Bool, true, false, cond, is_some, not, replicate, zero, suc, ◌||◌, ◌⊎◌, inl, inr, Option, Some, None, List, length, refl, sym, subst, ap, ◌∙◌, arith}
use Rattle.std.proofs.lemmas.Bool.{false≢true}
use Rattle.std.proofs.lemmas.List.{length-set}
use Rattle.std.specs.List.{slice_set}
use Rattle.std.specs.Option.{option_and_then}
use Rattle.pr_line.specs.declared.events.Event.{Event}
use Rattle.pr_line.specs.declared.options.Options.{Options}
use Rattle.pr_model.specs.Replies.{bytes_in}
use Rattle.pr_model.specs.declared.calls.Call.{Call}
use Rattle.pr_model.specs.declared.calls.Call.TheVariants as call
use Rattle.pr_model.specs.declared.calls.Reply.{Reply}
use Rattle.pr_rec.specs.declared.lwps.LwpStatus.{LwpStatus}
use Rattle.pr_truss.specs.Asides.{marks_at, patching, with_aside, with_lifts, with_marks, with_patches}
use Rattle.pr_truss.specs.Closings.{with_closing}
use Rattle.pr_truss.specs.Feeding.{fed, with_reply}
use Rattle.pr_truss.specs.FunctionEvents.{fresh_event, function_event, step_of}
use Rattle.pr_truss.specs.FunctionFeeding.{fed_functions}
use Rattle.pr_truss.specs.FunctionStops.{with_call_shown, with_copy_begun, with_copy_ended, with_fresh_event, with_function_event, with_function_status_answered, with_function_stop, with_function_stop_read, with_memory_replaced, with_other_event, with_step_begun, with_step_completed, with_trap_over}
use Rattle.pr_truss.specs.Marks.{first_function, has_functions, no_functions, no_marks, put_back, with_function, with_step}
use Rattle.pr_truss.specs.NextCalls.{call_of, next_call_of, read_record}
use Rattle.pr_truss.specs.Records.{status_lwp}
use Rattle.pr_truss.specs.Replies.{answer_of}
use Rattle.pr_truss.specs.Stops.{with_status_answered, with_stop, with_stop_over, with_stop_read}
use Rattle.pr_truss.specs.Trusses.{TrussState, traced_at, with_report, with_stage}
use Rattle.pr_truss.specs.declared.asides.Aside.{Aside}
use Rattle.pr_truss.specs.declared.asides.Aside.TheVariants.{Nothing, Patching}
use Rattle.pr_truss.specs.declared.function_events.FunctionEvent.{FunctionEvent}
use Rattle.pr_truss.specs.declared.function_events.FunctionEvent.TheVariants.{Other, AtBreakpoint, Completed, TraceTrap, BeforeCopy, AfterCopy, Replaced}
use Rattle.pr_truss.specs.declared.marks.Marks.{Marks}
use Rattle.pr_truss.specs.declared.marks.Stepped.{Stepped}
use Rattle.pr_truss.specs.declared.processes.Traced.{Traced}
use Rattle.pr_truss.specs.declared.replies.Answer.{Answer}
use Rattle.pr_truss.specs.declared.replies.Answer.TheVariants.{Accepted, Interrupted, Gone, Refused}
use Rattle.pr_truss.specs.declared.reports.Report.TheVariants.{Called}
use Rattle.pr_truss.specs.declared.stages.Stage.{Stage}
use Rattle.pr_truss.specs.declared.stages.Stage.TheVariants.{ReadingStatus, Running}
use Rattle.pr_truss_laws.proofs.Files.HeldLemmas.{at_place, set-at}
use Rattle.pr_truss_laws.proofs.Soon.LeavingLemmas.{Stands}
use Rattle.pr_truss_laws.proofs.Soon.LookLemmas.{SameFiles}
use Rattle.pr_truss_laws.proofs.Soon.PolledLemmas.{Near, Nears, fed-near, leaves, nearer}
use Rattle.pr_truss_laws.specs.Exchanges.{Exchange}
use Rattle.pr_truss_laws.specs.Polled as polled
use Rattle.pr_function_laws.proofs.Marks.MarkLemmas.{MarksAreBelow, members, members-most, none-below, step-below}
use Rattle.pr_function_laws.proofs.Marks.SoundLemmas.{EventIsBelow, IsSound, event-of-options, function-sound}
use Rattle.pr_function_laws.specs.Soon.{IsNoEndOf}
use Rattle.pr_line.specs.Functions.{function_limit}
use Rattle.pr_function_laws.proofs.NextCalls.SteadyReplies.{fed-steady}

-- The look at a process, from the read of its status on: how many calls come at most before its end, and that there is
-- one less once the status was read.

-- ---- the look at a process

abbrev is_read : Call → Bool
is_read (call.Read handle from len) = true
is_read _ = false

-- how many calls come beside the stage at most
abbrev pub todo : Aside → ℕ
todo (Patching place plants lifts clear) = members plants + members lifts + 1
todo _ = 0

-- and which they may be
abbrev pub IsBeside : ℕ → Aside → Type 0
IsBeside k Nothing = Unit {0}
IsBeside k (Patching place plants lifts clear) = place ≡ k
IsBeside k _ = ⊥

pub some-functions : (o : Options) → has_functions o ≡ true → 1 ≤ length o.functions
some-functions o has = by (length o.functions) has
  where
    by : (n : ℕ) → not (n == 0) ≡ true → 1 ≤ n
    by zero is = absurd (false≢true is)
    by (suc n) is = omega arith

none-in : (n : ℕ) → members (replicate n false) ≡ 0
none-in zero = refl
none-in (suc n) = omega (arith, none-in n)

one-in : (n place : ℕ) → members (slice_set (replicate n false) place true) ≤ 1
one-in zero place = omega arith
one-in (suc n) zero = omega (arith, none-in n)
one-in (suc n) (suc place) = omega (arith, one-in n place)

pub patch-few : (place : ℕ) (plants lifts : List Bool) (clear : Bool)
    → todo (patching place plants lifts clear) ≤ members plants + members lifts + 1
unfolding patching
patch-few place plants lifts clear =
    elim (is_some (first_function plants) || is_some (first_function lifts) || clear)
    as (λ b. todo (cond b (Patching place plants lifts clear) Nothing) ≤ members plants + members lifts + 1)
    [ true ↦ omega arith | false ↦ omega arith ]

pub patch-beside : (k : ℕ) (plants lifts : List Bool) (clear : Bool) → IsBeside k (patching k plants lifts clear)
unfolding patching
patch-beside k plants lifts clear =
    elim (is_some (first_function plants) || is_some (first_function lifts) || clear)
    as (λ b. IsBeside k (cond b (Patching k plants lifts clear) Nothing)) [ true ↦ refl | false ↦ tt ]

-- nothing is asked of a step
abbrev pub any_step : Stepped → Type 0
any_step step = Unit {0}

pub any-sound : (o : Options) (s : TrussState) (r : Reply) → IsSound o any_step s
    → IsSound o any_step (fed_functions s r)
any-sound o s r w = function-sound o any_step s r w (λ place l told e function fresh at. tt)

module _ (o : Options) (has : has_functions o ≡ true) (p : Traced) (k : ℕ) where
  abbrev F : ℕ
  F = length o.functions

  -- the status is read first
  pub record Fresh (n left : ℕ) (aside : Aside) : Type 0 where
    pub first : left ≡ 12
    pub enough : 12 + 2 * F ≤ n
    pub idle : aside ≡ Nothing

  -- So many calls come at most before the end of the look at the process at place k.
  pub record Look (n : ℕ) (s : TrussState) : Type 0 where
    pub left : ℕ
    pub near : Near p k left s
    pub beside : IsBeside k s.aside
    pub few : left + todo s.aside ≤ n
    pub most : (left ≤ 11) ⊎ Fresh n left s.aside

  -- one call less
  pub record Next (n : ℕ) (s : TrussState) : Type 0 where
    pub now : ℕ
    pub less : now < n
    pub look : Look now s

  pub near-with : (left : ℕ) (u : TrussState) (a : Aside) → Near p k left u → Near p k left (with_aside u a)
  near-with left u a it = record {
    here = let h : Stands p u k = it.here in record { within = h.within; same = h.same };
    stays = it.stays;
    soon = it.soon;
  }

  pub near-at : (left : ℕ) (u v : TrussState) (stage : Stage) → v.traced ≡ u.traced → v.leaving ≡ u.leaving
      → v.stage ≡ stage → Nears v.traced k left stage → Stands p u k → u.leaving ≡ false → Near p k left v
  near-at left u v stage traced same is soon here stays = record {
    here = record {
      within = subst (λ (ts : List Traced). k < length ts) (sym traced) here.within;
      same = subst (λ (ts : List Traced). SameFiles p (at_place ts k)) (sym traced) here.same;
    };
    stays = same ∙ stays;
    soon = subst (Nears v.traced k left) (sym is) soon;
  }

  -- the same process with other marks
  pub marked-stands : (s : TrussState) (m : Marks) → Stands p s k → Stands p (with_marks s k m) k
  marked-stands s m here =
      let t : Traced = record (traced_at s k) { marks = m } in
      record {
        within = omega (arith, here.within, length-set s.traced k t);
        same = subst (SameFiles p) (sym (set-at s.traced k t here.within)) (let h = here.same in record {
          pid = h.pid;
          control = h.control;
          status = h.status;
          lstatus = h.lstatus;
          memory = h.memory;
        });
      }

  module _ (s : TrussState) (n : ℕ) (l : Look n s) (w : IsSound o any_step s) (y : Exchange) (none : IsNoEndOf p y)
      (calm : answer_of y.reply ≢ Interrupted) where
    abbrev r : Reply
    r = y.reply

    pub here : Stands p s k
    here = let it = l.near in it.here

    pub stays : s.leaving ≡ false
    stays = let it = l.near in it.stays

    pub marks : MarksAreBelow F any_step (marks_at s k)
    marks = let it = w.names in it.marks k

    -- what comes of a reply where nothing is said of functions
    pub record Comes (u : TrussState) : Type 0 where
      pub left : ℕ
      pub less : left < l.left
      pub few : left ≤ 11
      pub near : Near p k left u
      pub aside : u.aside ≡ Nothing

    at-most : l.left ≤ 12
    at-most = elim l.most [ inl below ↦ omega (arith, below) | inr fresh ↦ omega (arith, fresh.first) ]

    pub plain-comes : (u : TrussState) (c : Call) → Near p k l.left u → u.aside ≡ Nothing → next_call_of u ≡ Some c
        → polled.IsNoEndOf p (record { call = c; reply = r }) → Comes (fed u r)
    plain-comes u c near own is other =
        elim (fed-near p k (record { call = c; reply = r }) u l.left near is other) [
          | nearer left less it ↦
              let v = fed-steady u r in record {
                left = left;
                less = less;
                few = omega (arith, less, at-most);
                near = it;
                aside = v.aside ∙ own;
              }
          | leaves left less way ↦
              let v = fed-steady u r in absurd (calm (v.leaves near.stays way.leaves))
        ]

    pub plain-next : (u : TrussState) → Comes u → Next n u
    plain-next u c = record {
      now = c.left;
      less = omega (arith, c.less, l.few);
      look = record {
        left = c.left;
        near = c.near;
        beside = subst (IsBeside k) (sym c.aside) tt;
        few = omega (arith, ap todo c.aside);
        most = inl c.few;
      };
    }

    -- ---- the status is read

    module _ (many : 12 ≤ l.left) (at : s.stage ≡ ReadingStatus k) where
      enough : 12 + 2 * F ≤ n
      enough = elim l.most [ inl below ↦ absurd (omega (arith, below, many)) | inr fresh ↦ fresh.enough ]

      some : 1 ≤ F
      some = some-functions o has

      patched-next : (u : TrussState) (plants lifts : List Bool) → (c : Comes u)
          → c.left + (members plants + members lifts) ≤ F + 11 → Next n (with_patches u k plants lifts)
      unfolding with_patches
      patched-next u plants lifts c most =
          let a : Aside = patching k plants lifts false in
          let patches : todo a ≤ members plants + members lifts + 1 = patch-few k plants lifts false in
          record {
            now = c.left + todo a;
            less = omega (arith, most, patches, enough, some);
            look = record {
              left = c.left;
              near = near-with c.left u a c.near;
              beside = patch-beside k plants lifts false;
              few = omega arith;
              most = inl c.few;
            };
          }

      over-none : (u : TrussState) (stands : Stands p u k) (off : u.leaving ≡ false) (own : u.aside ≡ Nothing)
          → (c : Comes (with_stop_over u k)) × (c.left ≡ 0)
      unfolding with_stop_over
      over-none u stands off own =
          subst (λ v. (c : Comes v) × (c.left ≡ 0))
          (sym (ap (λ b. cond b (with_closing u k) (with_stage u (Running k))) off)) (
            record {
              left = 0;
              less = omega (arith, many);
              few = omega arith;
              near = near-at 0 u (with_stage u (Running k)) (Running k) refl refl refl refl stands off;
              aside = own;
            },
            refl,
          )

      abbrev status_call : TrussState → Call
      status_call u = read_record (traced_at u k).status

      reads-on : (c : Call) → is_read c ≡ true → polled.IsNoEndOf p (record { call = c; reply = r })
      reads-on c is = record {
        not_run = λ same. false≢true (sym (ap is_read same) ∙ is);
        not_closed = λ handle same. absurd (false≢true (sym (ap is_read same) ∙ is));
      }

      -- the reply as it is taken where nothing is said of functions
      status-comes : (u : TrussState) → Stands p u k → u.leaving ≡ false → u.aside ≡ Nothing → u.stage ≡ ReadingStatus k
          → Comes (fed u r)
      unfolding next_call_of call_of
      status-comes u stands off own is =
          plain-comes u (status_call u)
          (near-at l.left u u (ReadingStatus k) refl refl is (refl, many) stands off) own (ap (call_of u) is)
          (reads-on (status_call u) refl)

      stop-comes : answer_of r ≡ Accepted → (st : LwpStatus) → option_and_then status_lwp (bytes_in r) ≡ Some st
          → (u : TrussState) → Stands p u k → u.leaving ≡ false → u.aside ≡ Nothing → u.stage ≡ ReadingStatus k
          → Comes (with_stop u k st)
      unfolding fed with_reply with_status_answered
      stop-comes accepted st read u stands off own is =
          subst Comes
          (ap (with_reply u r) is ∙ ap (λ a. with_status_answered u k r a) accepted ∙ ap (with_stop_read u k) read)
          (status-comes u stands off own is)

      module _ (idle : s.aside ≡ Nothing) where
        abbrev with_m : Marks → TrussState
        with_m m = with_marks s k m

        over-marked : (m : Marks) → (c : Comes (with_stop_over (with_m m) k)) × (c.left ≡ 0)
        over-marked m = over-none (with_m m) (marked-stands s m here) stays idle

        back-few : members (put_back (marks_at s k)) ≤ F
        unfolding put_back
        back-few =
            members-most F (put_back (marks_at s k))
            (step-below F any_step (marks_at s k).stepped no_functions marks.stepped
            (none-below F function_limit))

        one-few : (function : ℕ) → members (with_function no_functions function) ≤ 1
        one-few function = one-in function_limit function

        no-members : members no_functions ≡ 0
        no-members = none-in function_limit

        module _ (accepted : answer_of r ≡ Accepted) (st : LwpStatus)
            (read : option_and_then status_lwp (bytes_in r) ≡ Some st) where
          stop-marked : (m : Marks) → Comes (with_stop (with_m m) k st)
          stop-marked m = stop-comes accepted st read (with_m m) (marked-stands s m here) stays idle at

          stopped-next : (m : Marks) (plants lifts : List Bool) → members plants + members lifts ≤ F
              → Next n (with_patches (with_stop (with_m m) k st) k plants lifts)
          stopped-next m plants lifts most =
              let c = stop-marked m in patched-next _ plants lifts c (omega (arith, c.few, most))

          event-next : (e : FunctionEvent) → ((function : ℕ) → e ≡ AtBreakpoint function → function < F)
              → Next n (with_function_event s k st e)
          unfolding with_function_event with_step_begun with_step_completed with_trap_over with_copy_begun
              with_copy_ended with_other_event with_memory_replaced with_call_shown
          event-next (AtBreakpoint function) below =
              let m = marks_at s k in
              let c = over-marked (record m { stepped = Some (step_of st function); flags = _ }) in
              patched-next _ (put_back m) (with_function no_functions function) c.0
              (omega (arith, c.1, back-few, one-few function))
          event-next (Completed step) below =
              let m = marks_at s k in
              let u = with_m (record m { stepped = None; flags = _ }) in
              let v = with_report u (Called (traced_at u k).pid step.lwp step.function step.arguments) in
              let stands = marked-stands s (record m { stepped = None; flags = _ }) here in
              let c = over-none v (record { within = stands.within; same = stands.same }) stays idle in
              patched-next _ (put_back m) no_functions c.0 (omega (arith, c.1, back-few, no-members))
          event-next TraceTrap below =
              let c = over-marked (record (marks_at s k) { flags = _ }) in plain-next _ c.0
          event-next BeforeCopy below =
              let m = marks_at s k in
              stopped-next _ no_functions m.planted (omega (arith, no-members, members-most F m.planted marks.planted))
          event-next AfterCopy below =
              let m = marks_at s k in
              stopped-next _ (with_step m.stepped m.lifted) no_functions
              (omega (
                arith,
                no-members,
                members-most F (with_step m.stepped m.lifted)
                    (step-below F any_step m.stepped m.lifted marks.stepped marks.lifted),
              ))
          event-next Replaced below = plain-next _ (stop-marked no_marks)
          event-next Other below =
              stopped-next _ (put_back (marks_at s k)) no_functions (omega (arith, no-members, back-few))

          staying : (u v : TrussState) → Next n v → Next n (cond s.leaving u v)
          staying u v it = subst (Next n) (sym (ap (λ b. cond b u v) stays)) it

          fresh-next : (e : Option Event) → Next n (with_fresh_event s k st e)
          fresh-next None = staying _ _ (plain-next _ (stop-comes accepted st read s here stays idle at))
          fresh-next (Some e) =
              let it = function_event s.options (marks_at s k) st.id e in
              staying _ _ (event-next it (λ function is.
              subst (EventIsBelow o any_step) is (event-of-options o any_step s k st e w.names)))

        read-next : answer_of r ≡ Accepted → (st : Option LwpStatus) → option_and_then status_lwp (bytes_in r) ≡ st
            → Next n (with_function_stop_read s k st)
        unfolding with_function_stop
        read-next accepted None read =
            let c = over-none s here stays idle in
            subst (Next n)
            (sym (ap (λ b. cond b (with_lifts (with_stop_over s k) k false) (with_stop_over s k)) stays))
            (plain-next _ c.0)
        read-next accepted (Some st) read = fresh-next accepted st read (fresh_event (traced_at s k) st)

        other-next : (a : Answer) → answer_of r ≡ a → Next n (with_status_answered s k r a)
        unfolding fed with_reply
        other-next a is =
            subst (Next n) (ap (with_reply s r) at ∙ ap (λ b. with_status_answered s k r b) is)
            (plain-next _ (status-comes s here stays idle at))

        pub status-next : (a : Answer) → answer_of r ≡ a → Next n (with_function_status_answered s k r a)
        unfolding with_function_status_answered
        status-next Accepted is = read-next is (option_and_then status_lwp (bytes_in r)) refl
        status-next (Refused errno) is = other-next (Refused errno) is
        status-next Gone is = other-next Gone is
        status-next Interrupted is = absurd (calm is)
