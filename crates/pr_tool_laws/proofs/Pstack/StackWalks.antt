use Rattle.std.proofs.Common.{◌≡◌, ◌+◌, ◌-◌, ◌*◌, ◌<◌, ◌≤◌, ◌==◌, ◌∷◌, ◌++◌, ℕ, zero, suc, Bool, true, false, cond, List, [], Option, Some, None, All, length, map, drop, nat_le, nat_lt, slice_get, refl, sym, subst, ap, ◌∙◌, arith, inl, inr}
use Rattle.std.specs.List.{flat_map}
use Rattle.std.proofs.lemmas.Bool.{cases_Bool, eqb-true, lt-ltb, ltb-false, ltb-true, ne_eqb}
use Rattle.std.proofs.lemmas.List.{append-nil, append_assoc, length-append, length-drop, length-map}
use Rattle.pr_codec.specs.Words.{word_at}
use Rattle.pr_model.specs.Reads.{mapped_from}
use Rattle.pr_model.specs.Registers.{fp_of}
use Rattle.pr_num.specs.Limits.{lwp_limit}
use Rattle.pr_num.specs.Spaces.{Space}
use Rattle.pr_rec.specs.InRange.{IsLwpStatus}
use Rattle.pr_rec.specs.RecordBytes.{lstatus_bytes}
use Rattle.pr_rec.specs.declared.lwps.LwpStatus.{LwpStatus}
use Rattle.pr_tools.proofs.StackLemmas.{walk_in-none, walk_in-step}
use Rattle.pr_tools.specs.Stacks.{frame_pointer, goes_on, is_frame, walk_after, walk_from, walk_in, with_frame}
use Rattle.pr_tools.specs.Steps.{read_frames}
use Rattle.pr_tools.specs.Calls.{short_read}
use Rattle.pr_tools.specs.declared.stacks.CallFrame.{CallFrame}
use Rattle.pr_tools.specs.declared.stacks.Walk.{Walk}
use Rattle.pr_tool_laws.proofs.Records.ReadBackLemmas.{lwps-length}
use Rattle.pr_tool_laws.proofs.Pstack.StackWords.{status-id, status-pointer}
use Rattle.pr_tools.specs.SpaceStacks.{return_and, returns_from}

-- The frames that are read one by one of memory that stays are those of the stacks of all lwps, in their order.

-- ---- the frames of memory

returns-none : (space : Space) (frame : ℕ) → returns_from space 0 frame ≡ []
unfolding returns_from
returns-none space frame = refl

-- the pointer 0 is that of no frame
returns-zero : (space : Space) (n : ℕ) → returns_from space n 0 ≡ []
unfolding returns_from
returns-zero space zero = refl
returns-zero space (suc n) = refl

returns-more : (space : Space) (n frame : ℕ) → (frame == 0) ≡ false
    → returns_from space (suc n) frame ≡ return_and (returns_from space n) (mapped_from space frame short_read)
unfolding returns_from
returns-more space n frame some =
    ap (λ (b : Bool). cond b [] (return_and (returns_from space n) (mapped_from space frame short_read))) some

returns-few : (space : Space) (n frame : ℕ) → length (returns_from space n frame) ≤ n
unfolding returns_from
returns-few space zero frame = omega arith
returns-few space (suc n) frame =
    of (frame == 0) (nat_le short_read (length (mapped_from space frame short_read)))
    (word_at (mapped_from space frame short_read) 8)
    (returns_from space n (word_at (mapped_from space frame short_read) 0))
    (returns-few space n (word_at (mapped_from space frame short_read) 0))
  where
    of : (none some : Bool) (pc : ℕ) (pcs : List ℕ) → length pcs ≤ n
        → length (cond none [] (cond some (pc ∷ pcs) [])) ≤ suc n
    of true some pc pcs rest = omega arith
    of false true pc pcs rest = omega arith
    of false false pc pcs rest = omega arith

-- ---- the frames of lwps

-- a frame of an lwp
abbrev pub frame_at : ℕ → ℕ → CallFrame
frame_at lwp pc = record { lwp = lwp; pc = pc }

-- those of its stack that are read
unfoldable pub frames_of : Space → LwpStatus → List CallFrame
frames_of space l = map (frame_at l.id) (returns_from space read_frames (fp_of l.regs))

-- those of all lwps
abbrev pub all_frames : Space → List LwpStatus → List CallFrame
all_frames space lwps = flat_map (frames_of space) lwps

frames-none : (space : Space) (l : LwpStatus) → fp_of l.regs ≡ 0 → frames_of space l ≡ []
unfolding frames_of
frames-none space l none =
    ap (λ (n : ℕ). map (frame_at l.id) (returns_from space read_frames n)) none
    ∙ ap (map (frame_at l.id)) (returns-zero space read_frames)

frames-few : (space : Space) (lwps : List LwpStatus) → length (all_frames space lwps) ≤ 63 * length lwps
unfolding frames_of
frames-few space [] = omega arith
frames-few space (l ∷ lwps) =
    let own = length-map (returns_from space read_frames (fp_of l.regs)) (frame_at l.id) in
    let few = returns-few space read_frames (fp_of l.regs) in
    let rest = frames-few space lwps in
    let both =
    length-append (map (frame_at l.id) (returns_from space read_frames (fp_of l.regs))) (all_frames space lwps) in
    omega arith

-- what stands at a place, and after it
at-drop : {X : Type 0} (xs : List X) (i : ℕ) (x : X) (back : List X) → drop i xs ≡ x ∷ back
    → (slice_get xs i ≡ Some x) × (drop (i + 1) xs ≡ back)
at-drop [] zero x back is = absurd (cc)
at-drop [] (suc i) x back is = absurd (cc)
at-drop (y ∷ ys) zero x back is = (cc, cc)
at-drop (y ∷ ys) (suc i) x back is =
    let rest = at-drop ys i x back is in
    let next : suc i + 1 ≡ suc (i + 1) = omega arith in
    (rest.0, ap (λ (n : ℕ). drop n (y ∷ ys)) next ∙ rest.1)

-- there is room for the frames of as many lwps as a process can have
abbrev pub room : ℕ
room = lwp_limit * read_frames

-- ---- what is still to be read

module _ (lwps : List LwpStatus) (space : Space) where
  -- On its way through the stack of the lwp at a place, with these frames still to be read.
  pub record IsOnWay (w : Walk) (rest : List CallFrame) : Type 0 where
    pub place : ℕ
    pub left : ℕ
    pub at : w.at ≡ 8 + 264 * place
    pub more : w.left ≡ suc left
    pub pointer : (w.frame == 0) ≡ false
    pub frames : rest ≡ map (frame_at w.lwp) (returns_from space w.left w.frame) ++ all_frames space
        (drop (place + 1) lwps)

  abbrev pub Ahead : Option Walk → List CallFrame → Type 0
  Ahead None rest = rest ≡ []
  Ahead (Some w) rest = IsOnWay w rest

  -- Some of the frames of all lwps were read, and the others are still to be read.
  pub record HasWalked (frames : List CallFrame) (o : Option Walk) : Type 0 where
    pub rest : List CallFrame
    pub whole : frames ++ rest ≡ all_frames space lwps
    pub ahead : Ahead o rest

  -- where nothing is still to be read, all were
  pub walked-all : (frames : List CallFrame) → HasWalked frames None → frames ≡ all_frames space lwps
  walked-all frames has =
      sym (append-nil frames) ∙ ap (λ (rest : List CallFrame). frames ++ rest) (sym has.ahead) ∙ has.whole

module _ (lwps : List LwpStatus) (few : length lwps ≤ lwp_limit) (fields : All IsLwpStatus lwps) (space : Space) where
  abbrev bytes : List ℕ
  bytes = lstatus_bytes lwps

  -- ---- from lwp to lwp

  walk-ahead : (back : List LwpStatus) (i : ℕ) → drop i lwps ≡ back
      → Ahead lwps space (walk_in bytes (8 + 264 * i)) (all_frames space back)
  unfolding frames_of
  walk-ahead [] i is =
      let size = lwps-length 0 lwps few fields in
      let gone = length-drop i lwps in
      let none : length (drop i lwps) ≡ 0 = ap length is in
      subst (λ (o : Option Walk). Ahead lwps space o []) (sym (walk_in-none bytes (8 + 264 * i) (omega arith))) refl
  walk-ahead (l ∷ back) i is =
      let at = at-drop lwps i l back is in
      let size = lwps-length 0 lwps few fields in
      let gone = length-drop i lwps in
      let some : length (drop i lwps) ≡ suc (length back) = ap length is in
      let begins : ℕ = 8 + 264 * i in
      let step = walk_in-step bytes (8 + 264 * i) (omega arith) in
      let pointer = status-pointer lwps fields i l at.0 in
      let tried : walk_in bytes (8 + 264 * i) ≡ cond (fp_of l.regs == 0) (walk_in bytes (8 + 264 * i + 264))
      (Some (walk_from bytes (8 + 264 * i))) =
      step ∙ ap
      (λ (n : ℕ). cond (n == 0) (walk_in bytes (8 + 264 * i + 264))
      (Some (walk_from bytes (8 + 264 * i)))) pointer in
      elim (cases_Bool (fp_of l.regs == 0)) [
        | inl none ↦
            let next : 8 + 264 * i + 264 ≡ 8 + 264 * (i + 1) = omega arith in
            let skips : walk_in bytes (8 + 264 * i) ≡ walk_in bytes (8 + 264 * (i + 1)) =
            tried ∙ ap
            (λ (b : Bool). cond b (walk_in bytes (8 + 264 * i + 264)) (Some (walk_from bytes (8 + 264 * i)))) none
            ∙ ap (walk_in bytes) next in
            let same : all_frames space (l ∷ back) ≡ all_frames space back =
            ap (λ (fs : List CallFrame). fs ++ all_frames space back)
            (frames-none space l (eqb-true (fp_of l.regs) 0 none)) in
            subst (λ (o : Option Walk). Ahead lwps space o (all_frames space (l ∷ back))) (sym skips)
            (subst (Ahead lwps space (walk_in bytes (8 + 264 * (i + 1)))) (sym same) (walk-ahead back (i + 1) at.1))
        | inr there ↦
            let here : walk_in bytes (8 + 264 * i) ≡ Some (walk_from bytes (8 + 264 * i)) =
            tried ∙ ap
            (λ (b : Bool). cond b (walk_in bytes (8 + 264 * i + 264))
            (Some (walk_from bytes (8 + 264 * i)))) there in
            let id = status-id lwps fields i l at.0 in
            subst (λ (o : Option Walk). Ahead lwps space o (all_frames space (l ∷ back))) (sym here) (record {
              place = i;
              left = 62;
              at = refl;
              more = refl;
              pointer = ap (λ (n : ℕ). n == 0) pointer ∙ there;
              frames =
                  ap (λ (n : ℕ). map (frame_at n)
                  (returns_from space read_frames (fp_of l.regs)) ++ all_frames space back) (sym id)
                  ∙ ap (λ (n : ℕ). map (frame_at (word_at bytes (8 + 264 * i + 8)))
                  (returns_from space read_frames n) ++ all_frames space back) (sym pointer)
                  ∙ ap (λ (ls : List LwpStatus). map (frame_at (word_at bytes (8 + 264 * i + 8)))
                  (returns_from space read_frames (frame_pointer bytes (8 + 264 * i))) ++ all_frames space ls)
                  (sym at.1);
            })
      ]

  -- before the first frame
  pub walk-begins : HasWalked lwps space [] (walk_in bytes 8)
  walk-begins = record { rest = all_frames space lwps; whole = refl; ahead = walk-ahead lwps 0 refl }

  -- ---- from frame to frame

  module _ (w : Walk) (frames rest : List CallFrame) (way : IsOnWay lwps space w rest)
      (whole : frames ++ rest ≡ all_frames space lwps) (answer : List ℕ)
      (is : mapped_from space w.frame short_read ≡ answer) where
    later : List CallFrame
    later = all_frames space (drop (way.place + 1) lwps)

    -- the frames of the stack of this lwp that come after this one
    others : List CallFrame
    others = map (frame_at w.lwp) (returns_from space way.left (word_at answer 0))

    next-lwp : Ahead lwps space (walk_in bytes (w.at + 264)) later
    unfolding later
    next-lwp =
        let next : 8 + 264 * (way.place + 1) ≡ w.at + 264 = let at = way.at in omega arith in
        subst (λ (n : ℕ). Ahead lwps space (walk_in bytes n) (all_frames space (drop (way.place + 1) lwps))) next
        (walk-ahead (drop (way.place + 1) lwps) (way.place + 1) refl)

    rest-is : rest ≡ map (frame_at w.lwp) (return_and (returns_from space way.left) answer) ++ later
    unfolding later
    rest-is =
        let returned : returns_from space w.left w.frame ≡ return_and (returns_from space way.left) answer =
        ap (λ (n : ℕ). returns_from space n w.frame) way.more ∙ returns-more space way.left w.frame way.pointer
        ∙ ap (return_and (returns_from space way.left)) is in
        way.frames
        ∙ ap (λ (pcs : List ℕ). map (frame_at w.lwp) pcs ++ all_frames space (drop (way.place + 1) lwps)) returned

    -- nothing less than 16 bytes is a frame
    no-frame : is_frame answer ≡ false
        → HasWalked lwps space (with_frame room frames w answer) (walk_after bytes w answer)
    unfolding with_frame walk_after goes_on
    no-frame none =
        let same : rest ≡ later =
        rest-is ∙ ap
        (λ (b : Bool). map (frame_at w.lwp)
        (cond b (word_at answer 8 ∷ returns_from space way.left (word_at answer 0)) []) ++ later) none in
        rw none (record {
          rest = later;
          whole = ap (λ (fs : List CallFrame). frames ++ fs) (sym same) ∙ whole;
          ahead = next-lwp;
        })

    module _ (some : is_frame answer ≡ true) where
      one-more : rest ≡ frame_at w.lwp (word_at answer 8) ∷ (others ++ later)
      unfolding others
      one-more =
          rest-is ∙ ap
          (λ (b : Bool). map (frame_at w.lwp)
          (cond b (word_at answer 8 ∷ returns_from space way.left (word_at answer 0)) []) ++ later) some

      -- there is room for it
      has-room : nat_lt (length frames) room ≡ true
      has-room =
          let many = frames-few space lwps in
          let all : length (frames ++ rest) ≡ length (all_frames space lwps) = ap length whole in
          let parts = length-append frames rest in
          let own : length rest ≡ suc (length (others ++ later)) = ap length one-more in
          lt-ltb (length frames) room (omega arith)

      with-one : with_frame room frames w answer ≡ frames ++ frame_at w.lwp (word_at answer 8) ∷ []
      unfolding with_frame
      with-one = rw (some, has-room) refl

      whole-more : (frames ++ frame_at w.lwp (word_at answer 8) ∷ []) ++ (others ++ later) ≡ all_frames space lwps
      whole-more =
          append_assoc frames (frame_at w.lwp (word_at answer 8) ∷ []) (others ++ later)
          ∙ ap (λ (fs : List CallFrame). frames ++ fs) (sym one-more) ∙ whole

      -- the last one of its stack
      ends : returns_from space way.left (word_at answer 0) ≡ [] → goes_on w answer ≡ false
          → Ahead lwps space (walk_after bytes w answer) (others ++ later)
      unfolding walk_after others
      ends none stops =
          let same : others ++ later ≡ later = ap (λ (pcs : List ℕ). map (frame_at w.lwp) pcs ++ later) none in
          rw stops (subst (Ahead lwps space (walk_in bytes (w.at + 264))) (sym same) next-lwp)

      further : (many some_before : Bool) → nat_lt 1 w.left ≡ many → nat_lt 0 (word_at answer 0) ≡ some_before
          → Ahead lwps space (walk_after bytes w answer) (others ++ later)
      unfolding walk_after goes_on others later
      further true true many before =
          let more = way.more in
          let two : 1 < w.left = ltb-true 1 w.left many in
          let less : way.left ≡ w.left - 1 = omega arith in
          rw (some, many, before) (record {
            place = way.place;
            left = way.left - 1;
            at = way.at;
            more = omega arith;
            pointer =
                ne_eqb (word_at answer 0) 0
                (λ none. let low = ltb-true 0 (word_at answer 0) before in absurd (omega arith));
            frames =
                ap (λ (n : ℕ). map (frame_at w.lwp) (returns_from space n (word_at answer 0)) ++ all_frames space
                (drop (way.place + 1) lwps)) less;
          })
      further true false many before =
          let none : word_at answer 0 ≡ 0 = let low = ltb-false 0 (word_at answer 0) before in omega arith in
          ends (ap (returns_from space way.left) none ∙ returns-zero space way.left) (rw (some, many, before) refl)
      further false some_before many before =
          let more = way.more in
          let none : way.left ≡ 0 = let high = ltb-false 1 w.left many in omega arith in
          ends (ap (λ (n : ℕ). returns_from space n (word_at answer 0)) none
          ∙ returns-none space (word_at answer 0)) (rw (some, many) refl)

      a-frame : HasWalked lwps space (with_frame room frames w answer) (walk_after bytes w answer)
      a-frame =
          subst (λ (fs : List CallFrame). HasWalked lwps space fs (walk_after bytes w answer)) (sym with-one)
          (record {
            rest = others ++ later;
            whole = whole-more;
            ahead = further (nat_lt 1 w.left) (nat_lt 0 (word_at answer 0)) refl refl;
          })

    goes : HasWalked lwps space (with_frame room frames w answer) (walk_after bytes w answer)
    goes = elim (cases_Bool (is_frame answer)) [ inl some ↦ a-frame some | inr none ↦ no-frame none ]

  -- after the bytes that stand where the next frame is looked for
  pub walk-goes : (w : Walk) (frames : List CallFrame) → HasWalked lwps space frames (Some w)
      → HasWalked lwps space (with_frame room frames w (mapped_from space w.frame short_read))
      (walk_after bytes w (mapped_from space w.frame short_read))
  walk-goes w frames has = goes w frames has.rest has.ahead has.whole (mapped_from space w.frame short_read) refl
