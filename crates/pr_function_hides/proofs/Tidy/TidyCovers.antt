use Rattle.std.proofs.Common.{◌≡◌, ◌≢◌, ◌⊎◌, ◌<◌, ◌++◌, ◌^◌, ℕ, Bool, true, false, cond, is_ok, Some, Ok, List, [], ◌∷◌, All, length, refl, sym, subst, ap, ◌∙◌, inl, inr, arith}
use Rattle.std.proofs.lemmas.Bool.{cases_Bool, cases_eq}
use Rattle.std.proofs.lemmas.List.Elements.{All-cons, All-head, All-nil}
use Rattle.std.proofs.lemmas.Option.{none-some, same_Some}
use Rattle.std.specs.List.{slice_get}
use Rattle.std.specs.Prelude.{map}
use Rattle.std.specs.Str.{bytes_eq}
use Rattle.pr_api.specs.Entries.{call_entry}
use Rattle.pr_hidden.specs.Covers.{Cover, Covers, Patch}
use Rattle.pr_hidden.specs.Hiders.{Hiders, covers_at, covers_called, hides, is_ctl, with_patch, without_patch}
use Rattle.pr_lawful.proofs.ProcessParts.HandleLemmas.{control-writes, handle-at}
use Rattle.pr_line.specs.declared.functions.Function.{Function}
use Rattle.pr_model.specs.Calls.{answer_to}
use Rattle.pr_model.specs.Handles.{handle_of, is_writable}
use Rattle.pr_model.specs.Lawful.{IsFitting}
use Rattle.pr_model.specs.Legal.{state_after}
use Rattle.pr_model.specs.State.{TracedProcess, TracedState, live_process}
use Rattle.pr_model.specs.declared.calls.Call.{Call}
use Rattle.pr_model.specs.declared.calls.Call.TheVariants as call
use Rattle.pr_model.specs.declared.calls.Reply.{Reply}
use Rattle.pr_model.specs.declared.calls.Reply.TheVariants as reply
use Rattle.pr_model.specs.declared.events.Entry.{Entry}
use Rattle.pr_model.specs.declared.handles.Held.{Held}
use Rattle.pr_num.proofs.SearchLemmas.{All-at}
use Rattle.pr_num.specs.Messages.{first_message, spelling}
use Rattle.pr_num.specs.Spaces.{bytes_for}
use Rattle.pr_num.specs.Words.{IsByte}
use Rattle.pr_num.specs.declared.messages.Message.TheVariants as message
use Rattle.pr_truss.specs.Replies.{answer_of}
use Rattle.pr_truss.specs.Trusses.{TrussState, traced_at}
use Rattle.pr_truss.specs.declared.replies.Answer.TheVariants.{Accepted}
use Rattle.pr_world.specs.ControllerStates.{ControllerState}
use Rattle.pr_function_laws.proofs.Stepping.BreakpointLemmas.{IsOwnEntry}
use Rattle.pr_function_laws.proofs.Marks.SoundLemmas.{AsideIsBelow}
use Rattle.pr_function_hides.proofs.Files.CallFacts.{close-bare, close-done, keeps-there}
use Rattle.pr_function_hides.proofs.Tidy.CalledCovers.{IsAsPatched, call-still, called-agent, close-apart, close-left, close-own, ctl-apart, ctl-still}
use Rattle.pr_function_hides.proofs.Memory.MarkedPatches.{with-all, without-all}
use Rattle.pr_function_hides.proofs.Tidy.OwnCalls.{not-taken, taken}
use Rattle.pr_function_hides.proofs.Tidy.OwnTidy.{Kind, other, sends, writes}
use Rattle.pr_function_hides.proofs.Tidy.OwnWrites.{write-read, write-tail}
use Rattle.pr_function_hides.proofs.Tidy.StillMessages.{BeginStill}
use Rattle.pr_function_hides.proofs.Memory.Unborrowed.{IsUnborrowed, unborrowed-none}
use Rattle.pr_function_hides.proofs.Memory.WriteReplies.{write-mapped}
use Rattle.pr_function_hides.specs.FunctionHiders.{ArePatchable, IsPatchable, patch_of}
use Rattle.pr_function_hides.proofs.Replies.OwnFiles.{HasItsFiles}
use Rattle.pr_function_hides.specs.RunsOfTrusses.{IsRunOfTrusses}
use Rattle.pr_function_hides.specs.TidyWrites.{IsMappedIn}
use Rattle.pr_function_hides.proofs.Tidy.TidyKept.{AreMappedIn, Holder, Kept, Lives, Truss, holder-moves}
use Rattle.pr_function_hides.proofs.Tidy.TidyEntries.{its-lawful, mapped-later, unlent-later, lived, foreign-truss, sole}
use Rattle.pr_function_hides.proofs.Tidy.TidyCalls as Calls
use Rattle.pr_function_hides.proofs.Tidy.TidyOwn.{own-truss}

-- What is hidden once a call was made: of the processes of the truss that made it, of those of another, and of any
-- other; so what is kept is kept by each call.

module _ {n : ℕ} {who : Hiders} {controllers : List ControllerState} {first : TracedState}
    {h : List Entry} (run : IsRunOfTrusses n who controllers first h)
    (front back : List Entry) (j : ℕ) (c : Call) (r : Reply) (place : h ≡ front ++ call_entry j c r ∷ back)
    (kept : Kept who controllers first h front) where
  abbrev at : List Entry → Covers
  at front = covers_at who first front

  abbrev now : List Entry → TracedState
  now front = state_after first front

  none : (k : ℕ) → who.probes k ≡ false
  none = run.are.no_probes

  abbrev e : Entry
  e = call_entry j c r

  abbrev later_front : List Entry
  later_front = front ++ e ∷ []

  abbrev v : TracedState
  v = now front

  called-is : at later_front ≡ covers_called who (at front) v j c r
  called-is = Calls.called-is run front back j c r place kept

  called-maps : (pid : ℕ) (p q : TracedProcess) → live_process v.system pid ≡ Some p
      → live_process (now later_front).system pid ≡ Some q → (ps : List Patch) → AreMappedIn p ps → AreMappedIn q ps
  called-maps = Calls.called-maps run front back j c r place kept

  foreign-handles : (k m : ℕ) → j ≢ k → handle_of (now later_front).opens k m ≡ handle_of v.opens k m
  foreign-handles = Calls.foreign-handles run front back j c r place kept

  -- ---- of truss

  module _ (hider : hides who j ≡ true) where
    abbrev truss-now : Truss who controllers first h front j
    truss-now = Calls.truss-now run front back j c r place kept hider

    abbrev tr : TrussState
    tr = Calls.tr run front back j c r place kept hider

    abbrev fits : ArePatchable tr.options
    fits = Calls.fits run front back j c r place kept hider

    abbrev these : who.functions j ≡ map patch_of tr.options.functions
    these = Calls.these run front back j c r place kept hider

    abbrev below : AsideIsBelow (length tr.options.functions) tr.aside
    below = Calls.below run front back j c r place kept hider

    abbrev files-now : HasItsFiles j tr v
    files-now = Calls.files-now run front back j c r place kept hider

    abbrev own : IsOwnEntry j v e (record { call = c; reply = r })
    own = Calls.own run front back j c r place kept hider

    given : (d : Call) → c ≡ d → answer_to v j d ≡ Some own.answer
    given = Calls.given run front back j c r place kept hider

    reply-is : own.answer.reply ≡ r
    reply-is = Calls.reply-is run front back j c r place kept hider

    its-kind : Kind c tr
    its-kind = Calls.its-kind run front back j c r place kept hider

    abbrev held-of : ℕ → Held
    held-of q = Calls.held-of run front back j c r place kept hider q

    abbrev other_truss : (k : ℕ) → hides who k ≡ true → TrussState
    other_truss k hider_too = let w = kept.trusses k hider_too in w.t

    -- ---- the other trusses

    writable-ctl : (number : ℕ) (x : Held) → handle_of v.opens j number ≡ Some x → is_ctl x.file ≡ true
        → is_writable x.mode ≡ true
    writable-ctl number x there control =
        control-writes x
        (All-at IsFitting v.opens number (Some x) (handle-at v.opens j number x there)
        (its-lawful run front e back place kept).fitting)
        (Calls.ctl-control run front back j c r place kept hider x.file control)

    -- a process that another truss traces
    module _ (k : ℕ) (hider_too : hides who k ≡ true) (apart : j ≢ k) (q : ℕ)
        (within : q < length (other_truss k hider_too).traced) where
      abbrev pid : ℕ
      pid = (traced_at (other_truss k hider_too) q).pid

      none-writes : (number : ℕ) (x : Held) → handle_of v.opens j number ≡ Some x → is_writable x.mode ≡ true
          → x.pid ≢ pid
      none-writes number x there able =
          let sole_now = sole run front e back place kept k hider_too q within in
          sole_now.none j number x apart there able

      file-of : (number : ℕ) (x : Held) → handle_of v.opens j number ≡ Some x → x.pid ≡ pid → is_ctl x.file ≡ false
      file-of number x there same = elim (cases_Bool (is_ctl x.file)) [
        | inl control ↦ absurd (none-writes number x there (writable-ctl number x there control) same)
        | inr not ↦ not
      ]

      by-call : (d : Call) → c ≡ d → ((number : ℕ) (bytes : List ℕ) → c ≢ call.Ctl number bytes)
          → IsAsPatched (at front pid) (covers_called who (at front) v j d r pid)
      by-call (call.Ctl number bytes) is never = absurd (never number bytes is)
      by-call (call.Close number) is never =
          close-apart who none (at front) v j pid number r (λ x there same. file-of number x there same)
      by-call d is never = call-still who none (at front) v j pid d r refl

      by-kind : Kind c tr
          → IsAsPatched (at front pid) (covers_called who (at front) v j c r pid)
      by-kind (writes m inside i f named code size bytes is) =
          subst (λ (d : Call). IsAsPatched (at front pid) (covers_called who (at front) v j d r pid)) (sym is)
          (ctl-apart who none (at front) v j pid (traced_at tr m).control _ r (λ x there same.
          none-writes (traced_at tr m).control x there
          (ap (λ (y : Held). is_writable y.mode)
          (sym (same_Some (held-of m) x (sym (files-now.control m inside) ∙ there)))) same))
      by-kind (sends m inside bytes is still) =
          subst (λ (d : Call). IsAsPatched (at front pid) (covers_called who (at front) v j d r pid)) (sym is)
          (ctl-still who none (at front) v j pid (traced_at tr m).control bytes r still)
      by-kind (other never) = by-call c refl never

      -- its patches stay
      pub foreign-stays : IsAsPatched (at front pid) (at later_front pid)
      foreign-stays = Calls.called-stays run front back j c r place kept pid (by-kind its-kind)

    others-truss : (k : ℕ) (hider_too : hides who k ≡ true) → j ≢ k → Truss who controllers first h later_front k
    others-truss k hider_too apart =
        foreign-truss run front e back place kept k hider_too
        (Calls.foreign-same run front back j c r place kept k apart)
        (λ q within. foreign-stays k hider_too apart q within)
        (λ m. foreign-handles k m apart)

    each-truss : (k : ℕ) (hider_too : hides who k ≡ true) → Truss who controllers first h later_front k
    each-truss k hider_too = elim (cases_eq j k) [
      | inl same ↦
          subst (λ m. Truss who controllers first h later_front m) same
          (own-truss run front back j c r place kept hider)
      | inr apart ↦ others-truss k hider_too apart
    ]

    -- ---- where nothing is hidden

    pub own-there : (number : ℕ) (x : Held) → handle_of v.opens j number ≡ Some x → c ≢ call.Close number
        → handle_of (now later_front).opens j number ≡ Some x
    own-there number x there keeps =
        ap (λ (y : TracedState). handle_of y.opens j number) (Calls.called-now run front back j c r place kept
        ∙ sym own.later)
        ∙ keeps-there v j c own.answer own.is number x there keeps

    patches-now : (pid : ℕ) → (covers_called who (at front) v j c r pid).patches ≡ []
        → (at later_front pid).patches ≡ []
    patches-now pid nothing = ap (λ (cs : Covers). (cs pid).patches) called-is ∙ nothing

    still-bare : (pid : ℕ) → (at front pid).patches ≡ []
        → IsAsPatched (at front pid) (covers_called who (at front) v j c r pid)
        → (at later_front pid).patches ≡ []
    still-bare pid nothing a = patches-now pid (a.patches ∙ nothing)

    writes-bare : (pid m : ℕ) (bytes : List ℕ) → (at front pid).patches ≡ [] → m < length tr.traced
        → c ≡ call.Ctl (traced_at tr m).control bytes → (traced_at tr m).pid ≢ pid
        → (at later_front pid).patches ≡ []
    writes-bare pid m bytes nothing inside is apart =
        still-bare pid nothing
        (subst (λ (d : Call). IsAsPatched (at front pid) (covers_called who (at front) v j d r pid)) (sym is)
        (ctl-apart who none (at front) v j pid (traced_at tr m).control bytes r (λ x there same.
        apart (ap (λ (y : Held). y.pid) (same_Some (held-of m) x (sym (files-now.control m inside) ∙ there))
        ∙ same))))

    sends-bare : (pid m : ℕ) (bytes : List ℕ) → (at front pid).patches ≡ []
        → c ≡ call.Ctl (traced_at tr m).control bytes → BeginStill bytes → (at later_front pid).patches ≡ []
    sends-bare pid m bytes nothing is still =
        still-bare pid nothing
        (subst (λ (d : Call). IsAsPatched (at front pid) (covers_called who (at front) v j d r pid)) (sym is)
        (ctl-still who none (at front) v j pid (traced_at tr m).control bytes r still))

    other-bare : (pid : ℕ) → (at front pid).patches ≡ [] → ((number : ℕ) (bytes : List ℕ) → c ≢ call.Ctl number bytes)
        → (at later_front pid).patches ≡ []
    other-bare pid nothing never = by c refl
      where
        by : (d : Call) → c ≡ d → (at later_front pid).patches ≡ []
        by (call.Ctl number bytes) is = absurd (never number bytes is)
        by (call.Close number) is =
            patches-now pid
            (ap (λ (d : Call). (covers_called who (at front) v j d r pid).patches) is
            ∙ close-bare who none (at front) v j pid number r nothing)
        by d is =
            still-bare pid nothing
            (subst (λ (x : Call). IsAsPatched (at front pid) (covers_called who (at front) v j x r pid)) (sym is)
            (call-still who none (at front) v j pid d r refl))

    -- of a process that truss does not trace
    bare-apart : (pid : ℕ) → (at front pid).patches ≡ []
        → ((m : ℕ) → m < length tr.traced → (traced_at tr m).pid ≢ pid) → Kind c tr
        → (at later_front pid).patches ≡ []
    bare-apart pid nothing apart (writes m inside i f named code size bytes is) =
        writes-bare pid m _ nothing inside is (apart m inside)
    bare-apart pid nothing apart (sends m inside bytes is still) = sends-bare pid m bytes nothing is still
    bare-apart pid nothing apart (other never) = other-bare pid nothing never

    bare-kind : (pid : ℕ) → (at front pid).patches ≡ [] → Kind c tr
        → ((at later_front pid).patches ≡ []) ⊎ Holder who pid (now later_front)
    bare-kind pid nothing (writes m inside i f named code size bytes is) = by (cases_eq (traced_at tr m).pid pid)
      where
        by : ((traced_at tr m).pid ≡ pid) ⊎ ((traced_at tr m).pid ≢ pid)
            → ((at later_front pid).patches ≡ []) ⊎ Holder who pid (now later_front)
        by (inl same) = inr (record {
          k = j;
          hider = hider;
          number = (traced_at tr m).control;
          held = held-of m;
          there = own-there (traced_at tr m).control (held-of m) (files-now.control m inside) (λ closes.
              ctl-no-close (sym is ∙ closes));
          of = same;
          control = refl;
        })
          where
            ctl-no-close : {a b : ℕ} {bs : List ℕ} → call.Ctl a bs ≡ call.Close b → ⊥
            ctl-no-close e = cc
        by (inr apart) = inl (writes-bare pid m _ nothing inside is apart)
    bare-kind pid nothing (sends m inside bytes is still) = inl (sends-bare pid m bytes nothing is still)
    bare-kind pid nothing (other never) = inl (other-bare pid nothing never)

    -- nothing is hidden of who has a lender
    unlent-now : (pid lender : ℕ) (q : TracedProcess) → live_process (now later_front).system pid ≡ Some q
        → q.lender ≡ Some lender → (at later_front pid).patches ≡ []
    unlent-now pid lender q later lends =
        bare-apart pid (unlent-later run front e back place kept pid lender q later lends)
        (λ m inside same.
        none-some lender
        (sym (unborrowed-none pid (now later_front).system
        (subst (λ i. IsUnborrowed i (now later_front).system) same
        (Calls.all-alone run front back j c r place kept hider m inside)) q later)
        ∙ lends)) its-kind

    -- ---- where breakpoints stand, memory is mapped

    same-mapped : (pid : ℕ) (q : TracedProcess) → live_process (now later_front).system pid ≡ Some q
        → (covers_called who (at front) v j c r pid).patches ≡ (at front pid).patches
        → AreMappedIn q (at later_front pid).patches
    same-mapped pid q later same =
        subst (AreMappedIn q)
        (sym (ap (λ (cs : Covers). (cs pid).patches) called-is ∙ same))
        (mapped-later run front e back place kept pid q later (λ p live all. called-maps pid p q live later _ all))

    kept-mapped : (pid : ℕ) (q : TracedProcess) → live_process (now later_front).system pid ≡ Some q
        → IsAsPatched (at front pid) (covers_called who (at front) v j c r pid)
        → AreMappedIn q (at later_front pid).patches
    kept-mapped pid q later a = same-mapped pid q later a.patches

    module _ (m : ℕ) (inside : m < length tr.traced) (i : ℕ) (f : Function)
        (named : slice_get tr.options.functions i ≡ Some f) (code : List ℕ) (size : length code ≡ 16)
        (are_bytes : All IsByte code)
        (is : c ≡ call.Ctl (traced_at tr m).control (spelling (message.Write f.at 16) code)) (q : TracedProcess)
        (later : live_process (now later_front).system (traced_at tr m).pid ≡ Some q) where
      abbrev mpid : ℕ
      mpid = (traced_at tr m).pid

      was-live : Lives (now front) mpid
      was-live = lived run front e back place kept j hider m inside (q, later)

      low-address : f.at < 2 ^ 64
      low-address =
          let p = All-at IsPatchable tr.options.functions i f named (let x = fits in x.each) in
          let w = p.within in omega (arith, w)

      read-so : first_message (spelling (message.Write f.at 16) code)
          ≡ Ok (message.Write f.at 16, length (spelling (message.Write f.at 16) code))
      read-so = write-read f.at code low-address size are_bytes

      f-mapped : (used : ℕ) → r ≡ reply.Used used → IsMappedIn was-live.0.space (patch_of f)
      f-mapped used got = record {
        ok =
            ap (λ xs. is_ok (bytes_for 0 was-live.0.space f.at xs))
            (sym (ap (λ xs. length xs) (write-tail f.at code low-address size are_bytes) ∙ size))
            ∙ write-mapped v j (traced_at tr m).control (held-of m) (files-now.control m inside) refl
            (spelling (message.Write f.at 16) code) f.at 16 _ read-so own.answer (given _ is) was-live.0 was-live.1
            used (reply-is ∙ got);
      }

      written-mapped : (used : ℕ) → r ≡ reply.Used used → AreMappedIn q (at later_front mpid).patches
      written-mapped used got =
          let one =
          called-maps mpid was-live.0 q was-live.1 later (patch_of f ∷ [])
          (All-cons (IsMappedIn was-live.0.space) (patch_of f) [] (f-mapped used got)
          (All-nil (IsMappedIn was-live.0.space))) in
          let all =
          called-maps mpid was-live.0 q was-live.1 later (at front mpid).patches
          (kept.mapped mpid was-live.0 was-live.1) in
          subst (AreMappedIn q)
          (sym (ap (λ (cs : Covers). (cs mpid).patches) called-is
          ∙ (let w = truss-now in
          taken who none j (at front) v c r tr fits these files-now below (Lives (now later_front))
          (λ x within lives. lived run front e back place kept j hider x within lives)
          (λ x within lives. w.stand x within (lived run front e back place kept j hider x within lives))
          m inside i f named code size are_bytes is used got was-live.0 was-live.1)))
          (by (bytes_eq code f.code) (All-head (IsMappedIn q.space) (patch_of f) [] one) all)
        where
          by : (b : Bool) → IsMappedIn q.space (patch_of f) → AreMappedIn q (at front mpid).patches
              → AreMappedIn q
              (cond b (without_patch f.at (at front mpid).patches) (with_patch (patch_of f) (at front mpid).patches))
          by true one all = without-all (IsMappedIn q.space) f.at (at front mpid).patches all
          by false one all = with-all (IsMappedIn q.space) (patch_of f) (at front mpid).patches one all

      shaped-mapped : ((used : ℕ) × (r ≡ reply.Used used))
          ⊎ ((answer_of r ≢ Accepted) × ((used : ℕ) → r ≢ reply.Used used))
          → AreMappedIn q (at later_front mpid).patches
      shaped-mapped (inl got) = written-mapped got.0 got.1
      shaped-mapped (inr refused) =
          same-mapped mpid q later
          (ap (λ (x : Cover). x.patches)
          (let w = truss-now in
          not-taken who none j (at front) v c r tr fits these files-now below (Lives (now later_front))
          (λ x within lives. lived run front e back place kept j hider x within lives)
          (λ x within lives. w.stand x within (lived run front e back place kept j hider x within lives))
          m inside i f named code size are_bytes is refused.1 mpid))

      here-mapped : AreMappedIn q (at later_front mpid).patches
      here-mapped =
          shaped-mapped
          (Calls.shape run front back j c r place kept hider m (spelling (message.Write f.at 16) code) f.at _ inside is
          read-so)

    mapped-kind : (pid : ℕ) (q : TracedProcess) → live_process (now later_front).system pid ≡ Some q
        → Kind c tr → AreMappedIn q (at later_front pid).patches
    mapped-kind pid q later (writes m inside i f named code size bytes is) = by (cases_eq (traced_at tr m).pid pid)
      where
        by : ((traced_at tr m).pid ≡ pid) ⊎ ((traced_at tr m).pid ≢ pid)
            → AreMappedIn q (at later_front pid).patches
        by (inl same) =
            subst (λ x. AreMappedIn q (at later_front x).patches) same
            (here-mapped m inside i f named code size bytes is q
            (ap (live_process (now later_front).system) same ∙ later))
        by (inr apart) =
            kept-mapped pid q later
            (subst (λ (d : Call). IsAsPatched (at front pid) (covers_called who (at front) v j d r pid)) (sym is)
            (ctl-apart who none (at front) v j pid (traced_at tr m).control _ r (λ x there same.
            apart (ap (λ (y : Held). y.pid) (same_Some (held-of m) x (sym (files-now.control m inside) ∙ there))
            ∙ same))))
    mapped-kind pid q later (sends m inside bytes is still) =
        kept-mapped pid q later
        (subst (λ (d : Call). IsAsPatched (at front pid) (covers_called who (at front) v j d r pid)) (sym is)
        (ctl-still who none (at front) v j pid (traced_at tr m).control bytes r still))
    mapped-kind pid q later (other never) = by c refl
      where
        closed : (number : ℕ) → c ≡ call.Close number
            → ((covers_called who (at front) v j (call.Close number) r pid).patches ≡ (at front pid).patches)
            ⊎ ((covers_called who (at front) v j (call.Close number) r pid).patches ≡ [])
            → AreMappedIn q (at later_front pid).patches
        closed number is (inl same) =
            same-mapped pid q later
            (ap (λ (d : Call). (covers_called who (at front) v j d r pid).patches) is ∙ same)
        closed number is (inr nothing) =
            subst (AreMappedIn q)
            (sym (patches-now pid
            (ap (λ (d : Call). (covers_called who (at front) v j d r pid).patches) is ∙ nothing)))
            (All-nil (IsMappedIn q.space))

        by : (d : Call) → c ≡ d → AreMappedIn q (at later_front pid).patches
        by (call.Ctl number bytes) is = absurd (never number bytes is)
        by (call.Close number) is = closed number is (close-left who none (at front) v j pid number r)
        by d is =
            kept-mapped pid q later
            (subst (λ (x : Call). IsAsPatched (at front pid) (covers_called who (at front) v j x r pid)) (sym is)
            (call-still who none (at front) v j pid d r refl))

    held-later : (pid : ℕ) → Holder who pid v → ((at later_front pid).patches ≡ []) ⊎ Holder who pid (now later_front)
    held-later pid x = by (cases_eq j x.k)
      where
        moved : handle_of (now later_front).opens x.k x.number ≡ Some x.held → Holder who pid (now later_front)
        moved there = holder-moves x there

        by : (j ≡ x.k) ⊎ (j ≢ x.k) → ((at later_front pid).patches ≡ []) ⊎ Holder who pid (now later_front)
        by (inr apart) = inr (moved (foreign-handles x.k x.number apart ∙ x.there))
        by (inl same) = mine c refl
          where
            there-own : handle_of v.opens j x.number ≡ Some x.held
            there-own = ap (λ i. handle_of v.opens i x.number) same ∙ x.there

            stays-mine : c ≢ call.Close x.number → Holder who pid (now later_front)
            stays-mine keeps =
                moved (ap (λ i. handle_of (now later_front).opens i x.number) (sym same)
                ∙ own-there x.number x.held there-own keeps)

            mine : (d : Call) → c ≡ d → ((at later_front pid).patches ≡ []) ⊎ Holder who pid (now later_front)
            mine (call.Close number) is = of (cases_eq number x.number)
              where
                of : (number ≡ x.number) ⊎ (number ≢ x.number)
                    → ((at later_front pid).patches ≡ []) ⊎ Holder who pid (now later_front)
                of (inr differs) = inr (stays-mine (λ closes. differs (close-same (sym is ∙ closes))))
                  where
                    close-same : call.Close number ≡ call.Close x.number → number ≡ x.number
                    close-same e = cc
                of (inl this) =
                    let closes : c ≡ call.Close x.number = is ∙ ap call.Close this in
                    inl (patches-now pid
                    (ap (λ (d : Call). (covers_called who (at front) v j d r pid).patches) closes
                    ∙ ap (λ (y : Reply). (covers_called who (at front) v j (call.Close x.number) y pid).patches)
                    (sym reply-is ∙ close-done v j x.number x.held there-own own.answer (given _ closes))
                    ∙ close-own who none (at front) v j pid x.number x.held there-own x.of x.control hider))
            mine d is =
                inr (stays-mine (λ closes. let e : d ≡ call.Close x.number = sym is ∙ closes in cc))

    truss-kept : Kept who controllers first h later_front
    truss-kept = record {
      trusses = each-truss;
      bare = λ pid. by pid (kept.bare pid);
      no_agent = λ pid.
          ap (λ (cs : Covers). (cs pid).agent) called-is
          ∙ called-agent who none (at front) v j pid c r (kept.no_agent pid);
      mapped = λ pid q later. mapped-kind pid q later its-kind;
      unlent = λ pid lender q later lends. unlent-now pid lender q later lends;
    }
      where
        by : (pid : ℕ) → ((at front pid).patches ≡ []) ⊎ Holder who pid v
            → ((at later_front pid).patches ≡ []) ⊎ Holder who pid (now later_front)
        by pid (inl nothing) = bare-kind pid nothing its-kind
        by pid (inr x) = held-later pid x

  pub called-kept : Kept who controllers first h later_front
  called-kept = elim (cases_Bool (hides who j)) [
    | inl hider ↦ truss-kept hider
    | inr bare ↦ Calls.other-kept run front back j c r place kept bare
  ]
