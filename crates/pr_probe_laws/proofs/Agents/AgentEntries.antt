use Rattle.std.proofs.Common.{Result, ◌≡◌, ◌≢◌, ◌⊎◌, ◌||◌, ◌<◌, ℕ, Bool, true, false, List, Option, Some, None, option_map, refl, sym, subst, ap, ◌∙◌, inl, inr}
use Rattle.std.proofs.lemmas.Bool.{cases_eq, false≢true}
use Rattle.std.proofs.lemmas.Option.{none-some, same_Some}
use Rattle.pr_model.proofs.TurnLemmas.{turn-taken}
use Rattle.pr_model.specs.Lawful.{IsLawful}
use Rattle.pr_model.specs.Legal.{IsLegalEntry, after, after_turn}
use Rattle.pr_model.specs.LwpTurns.{LwpTurn, is_held_back, settled, turn_of, with_counted}
use Rattle.pr_model.specs.Machines.{stopped_as_directed}
use Rattle.pr_model.specs.Rows.{requested_row, row_for}
use Rattle.pr_model.specs.State.{TracedControl, TracedLwp, TracedProcess, TracedState, TracedSystem, live_process, lwp_of, with_lwp}
use Rattle.pr_model.specs.Stops.{has_event_stop}
use Rattle.pr_model.specs.declared.events.Act.{Act}
use Rattle.pr_model.specs.declared.events.Act.TheVariants as act
use Rattle.pr_model.specs.declared.events.Actor.{Actor}
use Rattle.pr_model.specs.declared.events.Actor.TheVariants.{Controller, Lwp, Clock}
use Rattle.pr_model.specs.declared.events.Entry.{Entry}
use Rattle.pr_num.proofs.ByIdLaws.{under-change_under, under-change_under_other}
use Rattle.pr_num.specs.Agents.{agent_id}
use Rattle.pr_num.specs.ById.{change_under, under}
use Rattle.pr_num.specs.Control.{prot_exec}
use Rattle.pr_num.specs.Layout.{stack_base, text_base}
use Rattle.pr_model.specs.MemoryCalls.{can_write}
use Rattle.pr_probe.specs.AgentCode.{code_size}
use Rattle.pr_num.specs.Spaces.{Space, bytes_for}
use Rattle.pr_num.specs.declared.mappings.BadByte.{BadByte}
use Rattle.pr_truss_laws.proofs.Machine.FrameLemmas.{lwp-alike}
use Rattle.pr_truss_laws.proofs.Machine.OutlastLemmas as outlast
use Rattle.pr_truss_laws.proofs.Machine.OutlastLemmas.{Outlasts, others-entry}
use Rattle.pr_truss_laws.proofs.Machine.OverLemmas.{stays-over}
use Rattle.pr_truss_laws.proofs.Machine.StillLemmas.{row-directed, stop-settled, stopped-live}
use Rattle.pr_truss_laws.specs.Handles.{HasNoOtherWriter}
use Rattle.pr_truss_laws.specs.Stills.{IsUndisturbed, stands_still, stopped_lwp, will_stop, with_lwp_stopped}
use Rattle.pr_tool_laws.proofs.OwnFiles.StandingLemmas.{IsOther}
use Rattle.pr_probe_laws.proofs.Agents.AgentTurns.{IsReadyFor}

-- What others do to a process with an agent, each other lwp of which stands still or will stop: the agent alone moves.

-- an lwp with other signals that pend
abbrev pub pends_as : TracedLwp → TracedLwp → TracedLwp
pends_as l k = record l { pending = k.pending }

-- What is left of such a process and its agent.
pub record IsLeft (exit_set : ℕ) (C : Result (List ℕ) BadByte → Type 0) (p : TracedProcess) (l : TracedLwp)
    (q : TracedProcess)
    : Type 0 where
  pub ready : IsReadyFor exit_set C q
  pub fds : q.fds ≡ p.fds
  pub space : q.space ≡ p.space
  pub agent : TracedLwp
  pub there : lwp_of q agent_id ≡ Some agent
  pub same : agent ≡ pends_as l agent

or-left : (a b : Bool) → a ≡ true → (a || b) ≡ true
or-left true b is = refl
or-left false b is = cc

pub or-second : (a b c : Bool) → (a || b) ≡ true → (a || (b || c)) ≡ true
or-second true b c is = refl
or-second false true c is = refl
or-second false false c is = cc

pub must-be : (a b : Bool) → (a || b) ≡ true → a ≡ false → b ≡ true
must-be true b is none = cc
must-be false b is none = is

pub false-if : (a : Bool) → (a ≡ true → ⊥) → a ≡ false
false-if true never = absurd (never refl)
false-if false never = refl

module _ (exit_set : ℕ) (C : Result (List ℕ) BadByte → Type 0) (p : TracedProcess) (ready : IsReadyFor exit_set C p)
    (l : TracedLwp)
    (there : lwp_of p agent_id ≡ Some l) where
  -- ---- others leave it alone but for signals

  module _ (q : TracedProcess) (alone : IsUndisturbed p q) where
    same-control : q.control ≡ p.control
    same-control = ap (λ (x : TracedProcess). x.control) alone.rest

    same-memory : (q.borrower ≡ None) × (q.space ≡ p.space)
    same-memory = alone.memory.own ready.own

    its-agent : (m : TracedLwp) × ((lwp_of q agent_id ≡ Some m) × (l ≡ record m { pending = l.pending }))
    its-agent = lwp-alike p.lwps q.lwps (sym alone.same) agent_id l there

    pub alone-left : IsLeft exit_set C p l q
    alone-left = record {
      ready = record {
        no_signals = ap (λ (c : TracedControl). c.traced_signals) same-control ∙ ready.no_signals;
        no_entries = ap (λ (c : TracedControl). c.traced_entries) same-control ∙ ready.no_entries;
        exits = ap (λ (c : TracedControl). c.traced_exits) same-control ∙ ready.exits;
        unwatched = ap (λ (c : TracedControl). c.areas) same-control ∙ ready.unwatched;
        own = same-memory.0;
        code = subst (λ (sp : Space). C (bytes_for prot_exec sp text_base code_size)) (sym same-memory.1) ready.code;
        stack = ap (λ (sp : Space). can_write sp stack_base 24) same-memory.1 ∙ ready.stack;
        others = λ id k apart at.
            let was = alone.each id k at in
            ap will_stop was.1.1 ∙ ready.others id was.0 apart was.1.0;
      };
      fds = ap (λ (x : TracedProcess). x.fds) alone.rest;
      space = same-memory.1;
      agent = its-agent.0;
      there = its-agent.1.0;
      same = ap (λ (x : TracedLwp). record x { pending = its-agent.0.pending }) (sym its-agent.1.1);
    }

  -- ---- another lwp of it stops as it was directed to

  module _ (id : ℕ) (apart : id ≢ agent_id) where
    stopped-others : (other : ℕ) (k : TracedLwp) → other ≢ agent_id → lwp_of (with_lwp_stopped id p) other ≡ Some k
        → will_stop k ≡ true
    unfolding with_counted with_lwp stopped_as_directed
    stopped-others other k not_agent at = by (cases_eq id other)
      where
        stops : (x : TracedLwp) → will_stop (stopped_lwp x) ≡ true
        stops x = refl

        mapped : (o : Option TracedLwp) → option_map stopped_lwp o ≡ Some k → will_stop k ≡ true
        mapped None is = absurd (none-some k is)
        mapped (Some x) is = subst (λ (y : TracedLwp). will_stop y ≡ true) (same_Some (stopped_lwp x) k is) (stops x)

        by : (id ≡ other) ⊎ (id ≢ other) → will_stop k ≡ true
        by (inl same) =
            mapped (under id p.lwps)
            (sym (under-change_under id stopped_lwp p.lwps)
            ∙ subst (λ (n : ℕ). under n (change_under id stopped_lwp p.lwps) ≡ Some k) (sym same) at)
        by (inr differs) =
            ready.others other k not_agent (sym (under-change_under_other id other stopped_lwp differs p.lwps) ∙ at)

    pub stop-left : IsLeft exit_set C p l (with_lwp_stopped id p)
    unfolding with_counted with_lwp
    stop-left = record {
      ready = record {
        no_signals = ready.no_signals;
        no_entries = ready.no_entries;
        exits = ready.exits;
        unwatched = ready.unwatched;
        own = ready.own;
        code = ready.code;
        stack = ready.stack;
        others = stopped-others;
      };
      fds = refl;
      space = refl;
      agent = l;
      there = under-change_under_other id agent_id stopped_lwp apart p.lwps ∙ there;
      same = refl;
    }

    -- no other turn comes of it
    pub others-turn : (s : TracedSystem) (pid : ℕ) → live_process s pid ≡ Some p → (t : LwpTurn)
        → turn_of s pid id ≡ Some t → live_process t.system pid ≡ Some (with_lwp_stopped id p)
    unfolding is_held_back
    others-turn s pid live t turn =
        let it = turn-taken s pid id t turn in
        let same : it.process ≡ p = same_Some it.process p (sym it.live ∙ live) in
        let k : TracedLwp = it.lwp in
        let at : lwp_of p id ≡ Some k = subst (λ (y : TracedProcess). lwp_of y id ≡ Some k) same it.there in
        let still : stands_still k ≡ false =
        false-if (stands_still k)
        (λ is. false≢true (sym it.free ∙ or-second (has_event_stop k) k.suspended _ is)) in
        let directed : k.control.directed ≡ true =
        must-be (stands_still k) k.control.directed (ready.others id k apart at) still in
        let is : t ≡ settled s pid p id k requested_row =
        it.is ∙ ap (λ (y : TracedProcess). settled s pid y id k (row_for s pid y id k)) same
        ∙ ap (settled s pid p id k) (row-directed s pid p id k directed) in
        ap (λ (x : LwpTurn). live_process x.system pid) (is ∙ stop-settled s pid p id k) ∙ stopped-live s pid p live id

-- ---- whatever others do

-- what may become of the process: it is left as it was, or its agent had a turn
pub data Becomes (exit_set : ℕ) (C : Result (List ℕ) BadByte → Type 0) (s : TracedSystem) (pid : ℕ) (p : TracedProcess)
    (l : TracedLwp) (q : TracedProcess) : Type 0 where
  is_left : IsLeft exit_set C p l q → Becomes exit_set C s pid p l q
  had_turn : (t : LwpTurn) → turn_of s pid agent_id ≡ Some t → live_process t.system pid ≡ Some q
      → Becomes exit_set C s pid p l q

module _ (exit_set : ℕ) (C : Result (List ℕ) BadByte → Type 0) (n : ℕ) (s : TracedState) (k pid : ℕ)
    (lawful : IsLawful s)
    (sole : HasNoOtherWriter k pid s.opens) where
  module _ (p : TracedProcess) (live : live_process s.system pid ≡ Some p) (ready : IsReadyFor exit_set C p)
      (l : TracedLwp)
      (there : lwp_of p agent_id ≡ Some l) where
    elsewhere : (e : Entry) → IsLegalEntry n s e → ((id : ℕ) → e.actor ≢ Lwp pid id) → e.actor ≢ Controller k
        → (q : TracedProcess) → live_process (after s e).system pid ≡ Some q → IsLeft exit_set C p l q
    elsewhere e legal apart other q later =
        by (others-entry n s k pid e p lawful sole legal apart other live)
      where
        by : Outlasts pid p (after s e).system → IsLeft exit_set C p l q
        by (outlast.lives r at alone) =
            subst (IsLeft exit_set C p l) (same_Some r q (sym at ∙ later))
            (alone-left exit_set C p ready l there r alone)
        by (outlast.killed z none at status) = absurd (none-some q (sym none ∙ later))

    -- a turn of another lwp
    stop-turn : (id : ℕ) → id ≢ agent_id → (t : LwpTurn) → turn_of s.system pid id ≡ Some t → (q : TracedProcess)
        → live_process t.system pid ≡ Some q → IsLeft exit_set C p l q
    stop-turn id apart t turn q later =
        let now = others-turn exit_set C p ready l there id apart s.system pid live t turn in
        subst (IsLeft exit_set C p l) (same_Some (with_lwp_stopped id p) q (sym now ∙ later))
        (stop-left exit_set C p ready l there id apart)

    own-turn : (id : ℕ) (t : LwpTurn) → turn_of s.system pid id ≡ Some t → (q : TracedProcess)
        → live_process t.system pid ≡ Some q → Becomes exit_set C s.system pid p l q
    own-turn id t turn q later = by (cases_eq id agent_id)
      where
        by : (id ≡ agent_id) ⊎ (id ≢ agent_id) → Becomes exit_set C s.system pid p l q
        by (inl same) =
            had_turn t (ap (λ (i : ℕ). turn_of s.system pid i) (sym same) ∙ turn) later
        by (inr apart) = is_left (stop-turn id apart t turn q later)

    pub others-become : (actor : Actor) (it : Act) → IsLegalEntry n s (record { actor = actor; act = it })
        → IsOther k actor it → (q : TracedProcess)
        → live_process (after s (record { actor = actor; act = it })).system pid ≡ Some q
        → Becomes exit_set C s.system pid p l q
    unfolding IsLegalEntry after
    others-become (Controller j) (act.Call c r) legal other q later =
        is_left (elsewhere (record { actor = Controller j; act = act.Call c r }) legal (λ id same. cc)
        (λ same. other (cc)) q later)
    others-become (Lwp acting id) (act.Turn turned) legal other q later = by (cases_eq acting pid)
      where
        t : LwpTurn
        t = record { system = legal.0; turned = turned }

        by : (acting ≡ pid) ⊎ (acting ≢ pid) → Becomes exit_set C s.system pid p l q
        by (inl same) =
            let turn : turn_of s.system pid id ≡ Some t = ap (λ (m : ℕ). turn_of s.system m id) (sym same) ∙ legal.1 in
            own-turn id t turn q
            (ap (λ (o : Option LwpTurn). live_process (after_turn s o).system pid) (sym legal.1) ∙ later)
        by (inr differs) =
            is_left (elsewhere (record { actor = Lwp acting id; act = act.Turn turned }) legal
            (λ other_id same. differs (cc)) (λ same. cc) q later)
    others-become Clock (act.Tick m) legal other q later =
        is_left (elsewhere (record { actor = Clock; act = act.Tick m }) legal (λ id same. cc) (λ same. cc) q later)
    others-become _ _ legal other q later = absurd legal

    -- an entry that is no turn of its agent leaves it so
    pub others-left : (actor : Actor) (it : Act) → IsLegalEntry n s (record { actor = actor; act = it })
        → IsOther k actor it → actor ≢ Lwp pid agent_id → (q : TracedProcess)
        → live_process (after s (record { actor = actor; act = it })).system pid ≡ Some q → IsLeft exit_set C p l q
    unfolding IsLegalEntry after
    others-left (Controller j) (act.Call c r) legal other no_agent q later =
        elsewhere (record { actor = Controller j; act = act.Call c r }) legal (λ id same. cc) (λ same. other (cc)) q
        later
    others-left (Lwp acting id) (act.Turn turned) legal other no_agent q later = by (cases_eq acting pid)
      where
        t : LwpTurn
        t = record { system = legal.0; turned = turned }

        by : (acting ≡ pid) ⊎ (acting ≢ pid) → IsLeft exit_set C p l q
        by (inl same) =
            let turn : turn_of s.system pid id ≡ Some t = ap (λ (m : ℕ). turn_of s.system m id) (sym same) ∙ legal.1 in
            stop-turn id (λ is. no_agent (ap (λ (m : ℕ). Lwp m id) same ∙ ap (λ (m : ℕ). Lwp pid m) is)) t turn q
            (ap (λ (o : Option LwpTurn). live_process (after_turn s o).system pid) (sym legal.1) ∙ later)
        by (inr differs) =
            elsewhere (record { actor = Lwp acting id; act = act.Turn turned }) legal
            (λ other_id same. differs (cc)) (λ same. cc) q later
    others-left Clock (act.Tick m) legal other no_agent q later =
        elsewhere (record { actor = Clock; act = act.Tick m }) legal (λ id same. cc) (λ same. cc) q later
    others-left _ _ legal other no_agent q later = absurd legal

  -- a process that lives later lived before
  pub lived-before : (made : pid < s.system.made) (actor : Actor) (it : Act)
      → IsLegalEntry n s (record { actor = actor; act = it }) → (q : TracedProcess)
      → live_process (after s (record { actor = actor; act = it })).system pid ≡ Some q
      → (p : TracedProcess) × (live_process s.system pid ≡ Some p)
  lived-before made actor it legal q later = from (live_process s.system pid) refl
    where
      from : (o : Option TracedProcess) → live_process s.system pid ≡ o
          → (p : TracedProcess) × (live_process s.system pid ≡ Some p)
      from None none =
          absurd (none-some q
          (sym (stays-over n s (record { actor = actor; act = it }) pid lawful legal made none) ∙ later))
      from (Some p) before = (p, before)
