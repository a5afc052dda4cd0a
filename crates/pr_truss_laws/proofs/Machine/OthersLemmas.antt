use Rattle.std.proofs.Common.{◌≡◌, ◌≢◌, ◌==◌, ◌&&◌, ◌<◌, ◌⊎◌, arith, length, ℕ, Bool, true, false, cond, None, Some, Option, List, [], ◌∷◌, refl, sym, subst, ap, ◌∙◌, inl, inr}
use Rattle.std.proofs.lemmas.Bool.{cases_Bool, cases_eq, eq-eqb, false≢true}
use Rattle.std.proofs.lemmas.List.Elements.{All-head}
use Rattle.std.proofs.lemmas.Option.{same_Some, none-some}
use Rattle.std.specs.List.{All}
use Rattle.std.specs.Option.{option_map}
use Rattle.pr_keeps.proofs.CallLemmas.{call-edit, close-edit}
use Rattle.pr_keeps.proofs.KeepsLemmas.{choice}
use Rattle.pr_keeps.proofs.LoanLemmas.{process_if-keeps, lent-keeps, loans_passed-keep}
use Rattle.pr_keeps.specs.CallEdits as edit
use Rattle.pr_keeps.specs.CallEdits.{CallEdit, CloseEdit}
use Rattle.pr_keeps.specs.MessageEdits as message
use Rattle.pr_keeps.specs.MessageEdits.{MessageEdit}
use Rattle.pr_lawful.proofs.LawfulTurns.EndLemmas.{buried, found-live}
use Rattle.pr_lawful.proofs.LawfulTurns.SuitingLemmas.{SuitChanges, SuitsChange, SuitsReaped}
use Rattle.pr_lawful.proofs.LawfulTurns.TurnLemmas.{acting as acting_in, row-suits}
use Rattle.pr_lawful.proofs.ProcessParts.HandleLemmas.{control-writes, handle-at}
use Rattle.pr_model.proofs.TurnLemmas.{turn-taken}
use Rattle.pr_model.specs.Calls.{Answer, answer_to}
use Rattle.pr_model.specs.Changes.{Change, changed, files_are, space_is, signals, signals_itself, takes_shared, job_stops, disposition_is, held_is, resumes, forks, reaps, becomes, all_changed, ended, Ending, ends_process, ends_lwp, with_fds, with_space}
use Rattle.pr_model.specs.ControlMessages.{tail_of}
use Rattle.pr_model.specs.Generation.{signalled}
use Rattle.pr_model.specs.Handles.{handle_of, is_writable, released, with_closed, with_opened}
use Rattle.pr_model.specs.Lawful.{IsFitting, IsLawful, IsLawfulSystem, IsNumberedBelow}
use Rattle.pr_model.specs.Lives.{Birth, ended_if_live, forked, lent_to, new_process, orphaned, with_child, with_ended, with_lender_of, with_lent, with_loan_back, with_loans_passed, with_lwp_ended, with_made, with_parent_signalled, with_program, with_reaped, with_spawned, with_this_ended, zombie}
use Rattle.pr_model.specs.LwpTurns.{LwpTurn, settled, turn_of, with_counted}
use Rattle.pr_model.specs.Machines.{traced}
use Rattle.pr_model.specs.Moves.{moved}
use Rattle.pr_model.specs.Points.{after_meeting}
use Rattle.pr_model.specs.Readers.{life_of}
use Rattle.pr_model.specs.Rows.{Row, row_for}
use Rattle.pr_model.specs.SignalCalls.{sending, sends as sends_it}
use Rattle.pr_model.specs.Signals.{generated, is_kill}
use Rattle.pr_model.specs.State.{TracedLwp, TracedProcess, TracedState, TracedSystem, live_process, lwp_of, process_of, with_lwp, with_lwp_of, with_process, with_process_if}
use Rattle.pr_model.specs.Transitions.{Transition, after_transition, ended_if}
use Rattle.pr_model.specs.declared.calls.Call.{Call}
use Rattle.pr_model.specs.declared.calls.Call.TheVariants as call
use Rattle.pr_model.specs.declared.handles.Held.{Held}
use Rattle.pr_num.proofs.ByIdLaws.{All-under, under-change_under, under-change_under_other, under-inserted_other, under-map_each, under-without_id_other}
use Rattle.pr_num.proofs.SearchLemmas.{All-at}
use Rattle.pr_num.specs.ById.{change_under}
use Rattle.pr_num.specs.Infos.{by_controller, killed_by}
use Rattle.pr_num.specs.Programs.{Program}
use Rattle.pr_num.specs.Signals.{signal_number}
use Rattle.pr_num.specs.declared.infos.Info.{Info}
use Rattle.pr_num.specs.declared.messages.Message.{Message}
use Rattle.pr_num.specs.declared.signals.Sig.{Sig}
use Rattle.pr_num.specs.declared.signals.Sig.TheVariants.{Cld, Kill}
use Rattle.pr_parts.specs.FileCalls.{with_all_shared}
use Rattle.pr_truss_laws.proofs.Machine.StoresLemmas.{may_have_lent, row-stores, stores_after, stores_by}

-- What others do to a process: SIGKILL ends it, or they leave of it what a relation R of the process before and later
-- says. Where R needs that only some signals are sent to it, Told says which.

-- ---- one process

-- What such a relation has to give. A signal that may be sent is sent to the process, or to one lwp of it.
pub record LeftByOthers (R : TracedProcess → TracedProcess → Type 0) (Told : Option ℕ → Sig → Type 0) : Type 0 where
  pub self : (p : TracedProcess) → R p p
  pub next : (p q r : TracedProcess) → R p q → R q r → R p r
  pub over : (p q : TracedProcess) → R p q → q.ended ≡ p.ended
  pub told : (target : Option ℕ) (g : Sig) (info : Info) → Told target g → (p : TracedProcess)
      → R p (signalled target g info p)
  pub child_ends : Told None Cld
  pub loses_parent : (gone : ℕ) (p : TracedProcess) → R p (orphaned gone p)
  pub gets_back : (gone : ℕ) (p lender : TracedProcess) → R lender (with_loan_back gone p lender)
  pub gets_lender : (gone : ℕ) (p borrower : TracedProcess) → R borrower (with_lender_of gone p borrower)

-- What became of a process, by what stood under its id before and what stands there later. Nothing did and nothing
-- does; or it was left alone; or it has ended, with a wait status of some kind.
pub data Became (R : TracedProcess → TracedProcess → Type 0) (Ends : ℕ → Type 0) (before after : Option TracedProcess)
    : Type 0 where
  nobody : before ≡ None → after ≡ None → Became R Ends before after
  left_alone : (p q : TracedProcess) → before ≡ Some p → after ≡ Some q → R p q → Became R Ends before after
  has_ended : (z : TracedProcess) (status : ℕ) → after ≡ Some z → z.ended ≡ Some status → Ends status
      → Became R Ends before after

-- ---- systems

-- memory is lent under the ids that were given out
pub lent-apart : (pid : ℕ) (birth : Birth) (lender child : ℕ) (s : TracedSystem) → s.made ≢ pid
    → (with_lent birth lender child s).made ≢ pid
unfolding with_process
lent-apart pid birth lender child s new =
    lent-keeps (λ (u : TracedSystem). u.made ≢ pid) birth lender child (λ u apart. apart) s new

-- a process that stands was made
pub was-made : (pid : ℕ) (s : TracedSystem) (p : TracedProcess) → IsLawfulSystem s → process_of s pid ≡ Some p
    → pid < s.made
was-made pid s p h there = let it = All-under (IsNumberedBelow s.made) pid p s.processes h.numbered there in it.id

-- SIGKILL alone ends the processes of others
abbrev pub ByKill : ℕ → Type 0
ByKill status = status ≡ signal_number Kill

kill-number : (g : Sig) → is_kill g ≡ true → signal_number g ≡ signal_number Kill
kill-number Kill is = refl
kill-number _ is = absurd (false≢true is)

-- whether a call writes control messages to this handle, or closes it
abbrev pub names : Call → ℕ → Bool
names (call.Ctl handle bytes) number = handle == number
names (call.Close handle) number = handle == number
names _ number = false

module _ {R : TracedProcess → TracedProcess → Type 0} {Told : Option ℕ → Sig → Type 0} (left : LeftByOthers R Told)
    (pid : ℕ) (Ends : ℕ → Type 0) where
  became-same : (o : Option TracedProcess) → Became R Ends o o
  became-same None = nobody refl refl
  became-same (Some p) = left_alone p p refl refl (left.self p)

  became-next : (a b c : Option TracedProcess) → Became R Ends a b → Became R Ends b c → Became R Ends a c
  became-next a b c one (has_ended z status there over such) = has_ended z status there over such
  became-next a b c (nobody none gone) (nobody gone' none') = nobody none none'
  became-next a b c (nobody none gone) (left_alone p q there later alone) = absurd (none-some p (sym gone ∙ there))
  became-next a b c (left_alone p q there later alone) (nobody none gone) = absurd (none-some q (sym none ∙ later))
  became-next a b c (left_alone p q there later alone) (left_alone p' q' there' later' alone') =
      left_alone p q' there later'
      (left.next p q q' alone (subst (λ (x : TracedProcess). R x q') (same_Some p' q (sym there' ∙ later)) alone'))
  became-next a b c (has_ended z status there over such) (nobody none gone) = absurd (none-some z (sym none ∙ there))
  became-next a b c (has_ended z status there over such) (left_alone p q there' later alone) =
      has_ended q status later (left.over p q alone
      ∙ ap (λ (x : TracedProcess). x.ended) (same_Some p z (sym there' ∙ there)) ∙ over) such

  -- a process that lives later was left alone
  pub became-alone : (a b : Option TracedProcess) (q : TracedProcess) → Became R Ends a b → b ≡ Some q
      → q.ended ≡ None → (p : TracedProcess) × ((a ≡ Some p) × R p q)
  became-alone a b q (nobody none gone) there live = absurd (none-some q (sym gone ∙ there))
  became-alone a b q (left_alone p q' there' later alone) there live =
      (p, (there', subst (R p) (same_Some q' q (sym later ∙ there)) alone))
  became-alone a b q (has_ended z status later over such) there live =
      absurd (none-some status (sym live ∙ ap (λ (x : TracedProcess). x.ended) (same_Some q z (sym there ∙ later))
      ∙ over))

  -- what became of the process of this id
  abbrev Passes : TracedSystem → TracedSystem → Type 0
  Passes s u = Became R Ends (process_of s pid) (process_of u pid)

  -- a process that lived and lives still was left alone
  pub passed-alone : (s u : TracedSystem) (p q : TracedProcess) → Passes s u → live_process s pid ≡ Some p
      → live_process u pid ≡ Some q → R p q
  passed-alone s u p q passes before after =
      let now = found-live u pid q after in
      let from = became-alone (process_of s pid) (process_of u pid) q passes now.0 now.1 in
      subst (λ (x : TracedProcess). R x q) (same_Some from.0 p (sym from.1.0 ∙ (found-live s pid p before).0)) from.1.1

  pub same-passes : (s : TracedSystem) → Passes s s
  same-passes s = became-same (process_of s pid)

  next-passes : (s u v : TracedSystem) → Passes s u → Passes u v → Passes s v
  next-passes s u v one two = became-next (process_of s pid) (process_of u pid) (process_of v pid) one two

  either-passes : (b : Bool) (s u v : TracedSystem) → Passes s u → Passes s v → Passes s (cond b u v)
  either-passes true s u v one other = one
  either-passes false s u v one other = other

  -- where the list has the same process there
  there-passes : (s u : TracedSystem) → process_of u pid ≡ process_of s pid → Passes s u
  there-passes s u same = subst (Became R Ends (process_of s pid)) (sym same) (same-passes s)

  -- where it has another one there
  mapped-passes : (s u : TracedSystem) (f : TracedProcess → TracedProcess)
      → process_of u pid ≡ option_map f (process_of s pid) → ((x : TracedProcess) → R x (f x)) → Passes s u
  mapped-passes s u f is alone = subst (Became R Ends (process_of s pid)) (sym is) (by (process_of s pid))
    where
      by : (o : Option TracedProcess) → Became R Ends o (option_map f o)
      by None = nobody refl refl
      by (Some p) = left_alone p (f p) refl refl (alone p)

  -- a process that is changed
  pub other-passes : (other : ℕ) (f : TracedProcess → TracedProcess) (s : TracedSystem) → other ≢ pid
      → Passes s (with_process other f s)
  unfolding with_process
  other-passes other f s differs =
      there-passes s (with_process other f s) (under-change_under_other other pid f differs s.processes)

  any-passes : (other : ℕ) (f : TracedProcess → TracedProcess) (s : TracedSystem)
      → (other ≡ pid → (x : TracedProcess) → R x (f x)) → Passes s (with_process other f s)
  unfolding with_process
  any-passes other f s alone = by (cases_eq other pid)
    where
      by : (other ≡ pid) ⊎ (other ≢ pid) → Passes s (with_process other f s)
      by (inl same) =
          subst (λ n. Passes s (with_process n f s)) (sym same)
          (mapped-passes s (with_process pid f s) f (under-change_under pid f s.processes) (alone same))
      by (inr differs) = other-passes other f s differs

  parent-passes : (parent gone status : ℕ) (s : TracedSystem) → Passes s (with_parent_signalled parent gone status s)
  unfolding with_parent_signalled
  parent-passes parent gone status s =
      either-passes (parent == 0) s s _ (same-passes s)
      (any-passes parent _ s (λ same. left.told None Cld _ left.child_ends))

  pub made-passes : (p : TracedProcess) (s : TracedSystem) → s.made ≢ pid → Passes s (with_made p s)
  unfolding with_made
  made-passes p s new = there-passes s (with_made p s) (under-inserted_other s.made pid p new s.processes)

  pub reaped-passes : (gone : ℕ) (s : TracedSystem) → gone ≢ pid → Passes s (with_reaped gone s)
  unfolding with_reaped
  reaped-passes gone s other = there-passes s (with_reaped gone s) (under-without_id_other gone pid other s.processes)

  -- ---- memory that was lent

  back-passes : (gone : ℕ) (p : TracedProcess) (s : TracedSystem) (lender : ℕ) (u : TracedSystem) → Passes s u
      → Passes s (with_process lender (with_loan_back gone p) u)
  back-passes gone p s lender u passes =
      next-passes s u (with_process lender (with_loan_back gone p) u) passes
      (any-passes lender (with_loan_back gone p) u (λ same. left.gets_back gone p))

  pub loan_back-passes : (gone : ℕ) (p : TracedProcess) (s u : TracedSystem) → Passes s u
      → Passes s (with_process_if p.lender (with_loan_back gone p) u)
  loan_back-passes gone p s u passes =
      process_if-keeps (Passes s) p.lender (with_loan_back gone p) (back-passes gone p s) u passes

  passed-passes : (gone : ℕ) (p : TracedProcess) (s u : TracedSystem) → Passes s u
      → Passes s (with_loans_passed gone p u)
  passed-passes gone p s u passes =
      loans_passed-keep (Passes s) gone p (back-passes gone p s)
      (λ borrower v before. next-passes s v (with_process borrower (with_lender_of gone p) v) before
      (any-passes borrower (with_lender_of gone p) v (λ same. left.gets_lender gone p))) u passes

  -- ---- a process that ends

  buried-own : (p : TracedProcess) (status : ℕ) (s : TracedSystem) → Ends status → Passes s (buried pid p status s)
  unfolding zombie
  buried-own p status s such =
      let is =
      under-map_each pid (orphaned pid) (change_under pid (zombie traced status) s.processes)
      ∙ ap (option_map (orphaned pid)) (under-change_under pid (zombie traced status) s.processes) in
      subst (Became R Ends (process_of s pid)) (sym is) (by (process_of s pid))
    where
      by : (o : Option TracedProcess)
          → Became R Ends o (option_map (orphaned pid) (option_map (zombie traced status) o))
      by None = nobody refl refl
      by (Some x) =
          let z : TracedProcess = zombie traced status x in
          has_ended (orphaned pid z) status refl (left.over z (orphaned pid z) (left.loses_parent pid z)) such

  buried-other : (gone : ℕ) (p : TracedProcess) (status : ℕ) (s : TracedSystem) → gone ≢ pid
      → Passes s (buried gone p status s)
  buried-other gone p status s other =
      mapped-passes s (buried gone p status s) (orphaned gone)
      (under-map_each pid (orphaned gone) (change_under gone (zombie traced status) s.processes)
      ∙ ap (option_map (orphaned gone)) (under-change_under_other gone pid (zombie traced status) other s.processes))
      (left.loses_parent gone)

  pub end-passes : (gone : ℕ) (p : TracedProcess) (status : ℕ) (s : TracedSystem) → (gone ≡ pid → Ends status)
      → Passes s (with_this_ended traced gone p status s)
  unfolding with_this_ended
  end-passes gone p status s such =
      let b : TracedSystem = buried gone p status s in
      let passed : TracedSystem = with_loans_passed gone p b in
      next-passes s passed (with_parent_signalled p.parent gone status passed)
      (passed-passes gone p s b (by (cases_eq gone pid))) (parent-passes p.parent gone status passed)
    where
      by : (gone ≡ pid) ⊎ (gone ≢ pid) → Passes s (buried gone p status s)
      by (inl same) = subst (λ n. Passes s (buried n p status s)) (sym same) (buried-own p status s (such same))
      by (inr other) = buried-other gone p status s other

  module _ (by_kill : Ends (signal_number Kill)) where
    -- a signal that the process may be sent, or one to another process
    pub generated-passes : (target : ℕ) (own : Option ℕ) (g : Sig) (info : Info) (s : TracedSystem)
        → (target ≡ pid → Told own g) → Passes s (generated traced target own g info s)
    unfolding generated with_ended
    generated-passes target own g info s may =
        choice (Passes s) (is_kill g) _ _ (λ is. kill is (live_process s target))
        (λ other. any-passes target (signalled own g info) s (λ same. left.told own g info (may same)))
      where
        kill : is_kill g ≡ true → (o : Option TracedProcess)
            → Passes s (ended_if_live traced target (signal_number g) s o)
        kill is None = same-passes s
        kill is (Some p) =
            end-passes target p (signal_number g) s (λ same. subst Ends (sym (kill-number g is)) by_kill)

    -- ---- a turn of an lwp of another process

    -- a change sends this process no signal but one that it may be sent
    abbrev pub TellsBy : Change → Type 0
    TellsBy (signals target g info) = target ≡ pid → Told None g
    TellsBy _ = Unit {0}

    module _ (acting : ℕ) (p : TracedProcess) (id : ℕ) (l : TracedLwp) (other : acting ≢ pid) where
      acts-pass : (f : TracedProcess → TracedProcess) (s : TracedSystem) → Passes s (with_process acting f s)
      acts-pass f s = other-passes acting f s other

      child-passes : (birth : Birth) (args : List ℕ) (s : TracedSystem) → s.made ≢ pid
          → Passes s (with_child traced birth acting p l args s)
      unfolding with_child
      child-passes birth args s new =
          let shared : TracedSystem = record s { files = with_all_shared s.files p.fds } in
          let lent : TracedSystem = with_lent birth acting s.made shared in
          let child : TracedProcess = forked traced birth acting p l args s.clock in
          next-passes s lent (with_made child lent)
          (lent-keeps (Passes s) birth acting s.made
          (λ u before. next-passes s u (with_process acting (lent_to s.made) u) before (acts-pass (lent_to s.made) u))
          shared (there-passes s shared refl))
          (made-passes child lent (lent-apart pid birth acting s.made shared new))

      module _ (s : TracedSystem) (x : TracedProcess) (there : process_of s pid ≡ Some x) (live : x.ended ≡ None)
          (new : s.made ≢ pid) where
        -- what is reaped is a zombie
        zombie-passes : (child : ℕ) → SuitsReaped s child → Passes s (with_reaped child s)
        zombie-passes child suits =
            reaped-passes child s (λ same. none-some suits.status (sym live
            ∙ ap (λ (y : TracedProcess). y.ended) (same_Some x suits.zombie (sym there ∙ ap (process_of s) (sym same)
            ∙ suits.found)) ∙ suits.over))

        change-passes : (c : Change) → SuitsChange acting p id l s c → TellsBy c
            → Passes s (changed traced acting p id l c s)
        unfolding changed
        change-passes (files_are files fds) suits tells =
            next-passes s (record s { files = files }) (with_process acting (with_fds fds) (record s { files = files }))
            (there-passes s (record s { files = files }) refl) (acts-pass (with_fds fds) (record s { files = files }))
        change-passes (space_is space) suits tells = acts-pass _ s
        change-passes (signals target g info) suits tells =
            either-passes (is_kill g && (target == acting)) s s _ (same-passes s)
            (generated-passes target None g info s tells)
        change-passes (signals_itself g info) suits tells =
            either-passes (is_kill g) s s _ (same-passes s)
            (generated-passes acting (Some id) g info s (λ same. absurd (other same)))
        change-passes (takes_shared g) suits tells = acts-pass _ s
        change-passes (job_stops g) suits tells = acts-pass _ s
        change-passes (disposition_is g disposition) suits tells = acts-pass _ s
        change-passes (held_is held) suits tells = acts-pass _ s
        change-passes (resumes frame frames) suits tells = acts-pass _ s
        change-passes (forks birth args) suits tells =
            either-passes (s.made == acting) s s _ (same-passes s) (child-passes birth args s new)
        change-passes (reaps child) suits tells =
            either-passes (child == acting) s s _ (same-passes s) (zombie-passes child suits)
        change-passes (becomes program) suits tells =
            loan_back-passes acting p s (with_process acting (with_program traced id l program) s)
            (acts-pass (with_program traced id l program) s)
        change-passes _ suits tells = acts-pass _ s

        -- a first change, and what is stored after it
        changes-pass : (lends : Bool) (cs : List Change) → SuitChanges acting p id l s cs
            → stores_after lends cs ≡ true → All TellsBy cs → Passes s (all_changed traced acting p id l cs s)
        unfolding all_changed changed
        changes-pass lends [] suits stores tells = same-passes s
        changes-pass lends (c ∷ []) suits stores tells = change-passes c suits.0 (All-head TellsBy c [] tells)
        changes-pass lends (c ∷ space_is space ∷ []) suits stores tells =
            let next : TracedSystem = changed traced acting p id l c s in
            next-passes s next (with_process acting (with_space space) next)
            (change-passes c suits.0 (All-head TellsBy c (space_is space ∷ []) tells)) (acts-pass _ next)
        changes-pass lends _ suits stores tells = absurd (false≢true stores)

        ending-passes : (how : Option Ending) (u : TracedSystem) → Passes u (ended_if traced acting p id l how u)
        unfolding ended with_lwp_ended
        ending-passes None u = same-passes u
        ending-passes (Some (ends_process status)) u = end-passes acting p status u (λ same. absurd (other same))
        ending-passes (Some ends_lwp) u =
            either-passes (length p.lwps == 1) u _ _
            (end-passes acting p 0 u (λ same. absurd (other same))) (acts-pass _ u)

        transition-passes : (lends : Bool) (t : Transition) → SuitChanges acting p id l s t.changes
            → stores_after lends t.changes ≡ true → All TellsBy t.changes
            → Passes s (after_transition traced acting p id l t s)
        unfolding after_transition with_lwp_of
        transition-passes lends t suits stores tells =
            let changes : TracedSystem = all_changed traced acting p id l t.changes s in
            let moves : TracedSystem = with_process acting (with_lwp id (moved traced t.move)) changes in
            next-passes s moves (ended_if traced acting p id l t.ending moves)
            (next-passes s changes moves (changes-pass lends t.changes suits stores tells) (acts-pass _ changes))
            (ending-passes t.ending moves)

        settled-passes : (row : Row) → SuitChanges acting p id l s row.transition.changes → stores_by row ≡ true
            → All TellsBy row.transition.changes → Passes s (settled s acting p id l row).system
        unfolding settled
        settled-passes row suits stores tells =
            let made : TracedSystem = after_transition traced acting p id l row.transition s in
            let counted_one : TracedSystem = with_process acting (with_counted row.did row.begun) made in
            next-passes s counted_one (with_process acting (after_meeting row.point id) counted_one)
            (next-passes s made counted_one
            (transition-passes (may_have_lent row.did) row.transition suits stores tells)
            (acts-pass (with_counted row.did row.begun) made)) (acts-pass (after_meeting row.point id) counted_one)

    pub turn-passes : (s : TracedSystem) (acting id : ℕ) (t : LwpTurn) (x : TracedProcess) → IsLawfulSystem s
        → live_process s pid ≡ Some x → acting ≢ pid → turn_of s acting id ≡ Some t
        → ((p : TracedProcess) (l : TracedLwp) → live_process s acting ≡ Some p → lwp_of p id ≡ Some l
        → All TellsBy (row_for s acting p id l).transition.changes) → Passes s t.system
    turn-passes s acting id t x h before other turn tells =
        let was = found-live s pid x before in
        let below = was-made pid s x h was.0 in
        let it = turn-taken s acting id t turn in
        let a = acting_in s acting id it.process it.lwp h it.live it.there in
        let suits = row-suits s acting it.process id it.lwp a in
        subst (λ (v : LwpTurn). Passes s v.system) (sym it.is)
        (settled-passes acting it.process id it.lwp other s x was.0 was.1 (λ same. omega arith)
        (row_for s acting it.process id it.lwp) suits.changes (row-stores s acting it.process id it.lwp)
        (tells it.process it.lwp it.live it.there))

    -- ---- a call of a controller

    -- a control message to another process, and the last close of one
    message-passes : (s : TracedSystem) (target : ℕ) (p : TracedProcess) (m : Message) (tail : List ℕ)
        → (t : TracedSystem) → target ≢ pid → MessageEdit s target p m tail t → Passes s t
    message-passes s target p m tail t other message.nothing = same-passes s
    message-passes s target p m tail t other (message.a_process f edits) = other-passes target f s other
    message-passes s target p m tail t other message.an_end = end-passes target p _ s (λ same. absurd (other same))
    message-passes s target p m tail t other (message.a_signal own g is room) =
        generated-passes target own g by_controller s (λ same. absurd (other same))

    closed-passes : (s : TracedSystem) (target : ℕ) (t : TracedSystem) → target ≢ pid → CloseEdit s target t
        → Passes s t
    closed-passes s target t other edit.nothing = same-passes s
    closed-passes s target t other (edit.kills p live mode) = end-passes target p _ s (λ same. absurd (other same))
    closed-passes s target t other (edit.releases p live spares mode) = other-passes target released s other

    module _ (s : TracedState) (by : ℕ) (lawful : IsLawful s) where
      -- a handle is not for writing the process
      abbrev Apart : ℕ → Type 0
      Apart number = (g : Held) → handle_of s.opens by number ≡ Some g → is_writable g.mode ≡ true → g.pid ≢ pid

      -- a call sends the process no signal but one that it may be sent
      abbrev TellsByCall : Call → Type 0
      TellsByCall c =
          (number : ℕ) (g : Sig) → c ≡ call.Kill pid number → sending pid number (life_of s.system pid) ≡ sends_it g
          → Told None g

      -- a close of a handle that is not for writing leaves the system
      closed-reader : (m : ℕ) (g : Held) → is_writable g.mode ≡ false → (with_closed g m s).system ≡ s.system
      unfolding with_closed
      closed-reader m g reads = rw reads refl

      close-passes : (m : ℕ) (g : Held) → Apart m → handle_of s.opens by m ≡ Some g
          → Passes s.system (with_closed g m s).system
      close-passes m g apart at = elim (cases_Bool (is_writable g.mode)) [
        | inl writes ↦ closed-passes s.system g.pid (with_closed g m s).system (apart g at writes) (close-edit s m g)
        | inr reads ↦ subst (Passes s.system) (sym (closed-reader m g reads)) (same-passes s.system)
      ]

      module _ (p : TracedProcess) (stands : process_of s.system pid ≡ Some p) where
        new-passes : (program : Program) (held : Bool) → Passes s.system (with_spawned traced program held s.system)
        unfolding with_spawned
        new-passes program held =
            let below = was-made pid s.system p lawful.system stands in
            made-passes (new_process traced program s.system.clock held) s.system (λ same. omega arith)

        edit-passes : (c : Call) (t : TracedState) → CallEdit s by c t
            → ((number : ℕ) → names c number ≡ true → Apart number) → TellsByCall c → Passes s.system t.system
        unfolding with_opened
        edit-passes c t edit.looks apart tells = same-passes s.system
        edit-passes c t (edit.opens free grants) apart tells = same-passes s.system
        edit-passes c t (edit.closes {handle = m} {held = g} at) apart tells =
            close-passes m g (apart m (eq-eqb m m refl)) at
        edit-passes c t (edit.controls {handle = handle} {bytes = bytes} {held = g} {p = q} {m = m} {t = u} it e) apart
            tells =
            let fits : IsFitting (Some g) =
            All-at IsFitting s.opens handle (Some g) (handle-at s.opens by handle g it.handle_is) lawful.fitting in
            message-passes s.system g.pid q m (tail_of m bytes) u
            (apart handle (eq-eqb handle handle refl) g it.handle_is (control-writes g fits it.controls)) e
        edit-passes c t edit.sees_interrupt apart tells = same-passes s.system
        edit-passes c t (edit.interrupts there) apart tells = same-passes s.system
        edit-passes c t (edit.spawns {held = held} {program = program} named grants) apart tells =
            new-passes program held
        edit-passes c t (edit.sends {pid = target} {number = number} {g = g} is) apart tells =
            generated-passes target None g (killed_by 0) s.system (λ same. told target same is tells)
          where
            told : (target : ℕ) → target ≡ pid → sending target number (life_of s.system target) ≡ sends_it g
                → TellsByCall (call.Kill target number) → Told None g
            told target same is tells =
                tells number g (ap (λ i. call.Kill i number) same)
                (subst (λ i. sending i number (life_of s.system i) ≡ sends_it g) same is)

        pub call-passes : (c : Call) (a : Answer) → ((number : ℕ) → names c number ≡ true → Apart number)
            → TellsByCall c → answer_to s by c ≡ Some a → Passes s.system a.state.system
        call-passes c a apart tells is = edit-passes c a.state (call-edit s by c a is) apart tells
