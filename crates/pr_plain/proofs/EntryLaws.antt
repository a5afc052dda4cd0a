-- Entries are read back from their lines, and from no others.
use Rattle.std.specs.Prelude.{not, ◌&&◌}
use Rattle.std.proofs.Common.{◌≡◌, ◌≢◌, ℕ, ◌^◌, ◌≤◌, Bool, true, false, cond, eqb, leb, Option, Some, None, List, [], ◌∷◌, ◌++◌, length, codes, refl, sym, ap, ◌∙◌, append_assoc, arith}
use Rattle.std.specs.Fmt.{decimal}
use Rattle.std.specs.List.{list_all, slice_split, join_with_byte}
use Rattle.std.specs.Str.{bytes_eq}
use Rattle.std.proofs.lemmas.Bool.{and_parts, and_from, eqb-true, ne_eqb, eq-eqb, leb-true, ltb-true, false≢true}
use Rattle.std.proofs.lemmas.List.{append-nil}
use Rattle.std.proofs.lemmas.List.Splits.{join_with_byte-slice_split}
use Rattle.std.proofs.lemmas.Option.{none-some, same_Some, cond_some}
use Rattle.std.proofs.lemmas.Slice.Eq.{bytes_eq-Decides}
use Rattle.pr_text.specs.NumberWords.{digit_of, with_digit, number_from}
use Rattle.pr_text.specs.NumberWords as number_words
use Rattle.pr_text.specs.Names.{is_letter, is_name_byte, is_name}
use Rattle.pr_model.specs.declared.calls.Call.{Call}
use Rattle.pr_model.specs.declared.calls.Call.TheVariants as call
use Rattle.pr_model.specs.declared.calls.Reply.{Reply}
use Rattle.pr_model.specs.declared.events.Act.{Act}
use Rattle.pr_model.specs.declared.events.Act.TheVariants as act
use Rattle.pr_model.specs.declared.events.Actor.{Actor}
use Rattle.pr_model.specs.declared.events.Actor.TheVariants.{Controller, Lwp, Clock}
use Rattle.pr_model.specs.declared.events.Did.{Did}
use Rattle.pr_model.specs.declared.events.Did.TheVariants.{Stopped}
use Rattle.pr_model.specs.declared.events.Entry.{Entry}
use Rattle.pr_model.specs.declared.events.Turned.{Turned}
use Rattle.pr_plain.specs.CallReading.{arrow, lwp_of, begins_call, call_at, reply_at}
use Rattle.pr_plain.specs.DecimalWords.{decimal_of, decimal_id_of}
use Rattle.pr_plain.specs.EntryForms.{is_number, is_id, actor_form, did_form, call_form, reply_form, act_form, has_form}
use Rattle.pr_plain.specs.EntryReading.{controller_or_lwp, actor_of, exchange_of, tick_of, act_by, act_of, entry_of, heading_of, entry_in, heading_in}
use Rattle.pr_plain.specs.Histories.{heading_line}
use Rattle.pr_text.specs.Bytes.{blank}
use Rattle.pr_text.specs.LwpWords.{lwp_text}
use Rattle.pr_text.specs.SpacedWords.{behind_blank, joined}
use Rattle.pr_plain.specs.HistoryText.{actor_text, did_words, stop_words, turn_words, call_words, reply_words, act_words, entry_words, entry_line}
use Rattle.pr_plain.specs.Lines.{is_blank, is_word_byte, is_word, names_words, has_words}
use Rattle.pr_plain.specs.Readings.{◌>>=◌}
use Rattle.pr_plain.specs.TurnReading.{turn_of}
use Rattle.pr_plain.specs.WordReading.{Words, word_at, is_done, behind_word, number_at}
use Rattle.pr_plain.proofs.CallLaws.{lwp_of-is, lwp_of-text, done_is, call_taken, call_again, at_arrow, reply_taken, reply_again}
use Rattle.pr_text.proofs.NumberLemmas.{are_digits, decimal-digits}
use Rattle.pr_plain.proofs.DecimalLemmas.{is_number-from_id, decimal_of-word, decimal_of-decimal, decimal_id_of-word, decimal_id_of-decimal}
use Rattle.pr_plain.proofs.FrontLemmas.{word_at-is}
use Rattle.pr_plain.proofs.LineLemmas.{entry_line-words, joined-words}
use Rattle.pr_plain.proofs.RowLemmas.{found_by, behind_word-is, behind_word-again, by_word}
use Rattle.pr_plain.proofs.TurnLaws.{turn_of-is, turn_of-words}
use Rattle.pr_plain.proofs.WordLaws.{number_step}
use Rattle.pr_plain.proofs.WordLemmas.{two, decimal_word}

-- ---- who acted

record IsActor (w : List ℕ) (a : Actor) : Type 0 where
  word : w ≡ actor_text a
  formed : actor_form a ≡ true

actor_as : (w : List ℕ) (x a : Actor) → x ≡ a → IsActor w x → IsActor w a
actor_as w x a e t = record { word = t.word ∙ ap actor_text e; formed = ap actor_form (sym e) ∙ t.formed }

same_actor : (x a : Actor) → ◌≡◌ {A = Option Actor} (Some x) (Some a) → x ≡ a
same_actor x a e = same_Some x a e

actor_is : (w : List ℕ) (a : Actor) → actor_of w ≡ Some a → IsActor w a
unfolding actor_of actor_text actor_form
actor_is w a e =
    by_word w (codes "clock") _ _ a (IsActor w a) e
    (λ is h. actor_as w Clock a (same_actor Clock a h) (record { word = is; formed = refl })) (λ h. other w h)
  where
    lwp : (v : List ℕ) → (lwp_of v >>= λ l. Some (Lwp l.0 l.1)) ≡ Some a → IsActor v a
    lwp v h =
        let p = found_by (lwp_of v) (λ l. Some (Lwp l.0 l.1)) a h in
        let is = lwp_of-is v p.value p.is in
        actor_as v (Lwp p.value.0 p.value.1) a (same_actor (Lwp p.value.0 p.value.1) a p.then_is)
        (record { word = is.word; formed = is.formed })

    first : (b : ℕ) (bs : List ℕ) (t : Bool) → eqb b 99 ≡ t
        → cond t (decimal_id_of bs >>= λ k. Some (Controller k)) (lwp_of (b ∷ bs) >>= λ l. Some (Lwp l.0 l.1)) ≡ Some a
        → IsActor (b ∷ bs) a
    first b bs true is h =
        let p = found_by (decimal_id_of bs) (λ k. Some (Controller k)) a h in
        let n = decimal_id_of-word bs p.value p.is in
        actor_as (b ∷ bs) (Controller p.value) a (same_actor (Controller p.value) a p.then_is)
        (record { word = ap (λ x. x ∷ bs) (eqb-true b 99 is) ∙ ap (λ x. 99 ∷ x) n.word; formed = n.small })
    first b bs false is h = lwp (b ∷ bs) h

    other : (v : List ℕ) → controller_or_lwp v ≡ Some a → IsActor v a
    other [] h = cc
    other (b ∷ bs) h = first b bs (eqb b 99) refl h

-- an lwp begins with a digit
starts_low : (ds rest : List ℕ) → are_digits ds ≡ true → ds ≢ []
    → (b : ℕ) × (bs : List ℕ) × (ds ++ rest ≡ b ∷ bs) × (b ≤ 57)
starts_low [] rest h some = absurd (some refl)
starts_low (b ∷ bs) rest h some = (
  b,
  bs ++ rest,
  refl,
  leb-true b 57 (and_parts (leb 48 b) (leb b 57) (and_parts (leb 48 b && leb b 57) (are_digits bs) h).0).1,
)

not_empty : (n : ℕ) → is_number n ≡ true → decimal n ≢ []
unfolding decimal_of number_words.number_of
not_empty n form e = none-some n (sym (ap decimal_of e) ∙ decimal_of-decimal n form)

low_actor : (b : ℕ) (bs : List ℕ) → b ≤ 57 → actor_of (b ∷ bs) ≡ (lwp_of (b ∷ bs) >>= λ l. Some (Lwp l.0 l.1))
unfolding actor_of
low_actor b bs low = by (bytes_eq (b ∷ bs) (codes "clock")) refl
  where
    head : List ℕ → ℕ
    head [] = 0
    head (x ∷ xs) = x

    by : (t : Bool) → bytes_eq (b ∷ bs) (codes "clock") ≡ t
        → cond t (Some Clock) (controller_or_lwp (b ∷ bs)) ≡ (lwp_of (b ∷ bs) >>= λ l. Some (Lwp l.0 l.1))
    by true is = let same : b ≡ 99 = ap head ((bytes_eq-Decides (b ∷ bs) (codes "clock")).0 is) in absurd (omega arith)
    by false is =
        ap (λ t. cond t (decimal_id_of bs >>= λ k. Some (Controller k)) (lwp_of (b ∷ bs) >>= λ l. Some (Lwp l.0 l.1)))
        (ne_eqb b 99 (λ e. omega arith))

no_id_lock : decimal_id_of (codes "lock") ≡ None
unfolding decimal_id_of number_words.id_of number_words.number_of number_from with_digit digit_of
no_id_lock = refl

lwp_back : (p l : ℕ) → is_id p ≡ true → is_id l ≡ true
    → (b : ℕ) × (bs : List ℕ) × (decimal p ++ (codes "/" ++ decimal l) ≡ b ∷ bs) × (b ≤ 57)
    → actor_of (lwp_text p l) ≡ Some (Lwp p l)
unfolding lwp_text
lwp_back p l hp hl x =
    let text : decimal p ++ codes "/" ++ decimal l ≡ x.0 ∷ x.1 =
    append_assoc (decimal p) (codes "/") (decimal l) ∙ x.2 in
    ap actor_of text ∙ low_actor x.0 x.1 x.3
    ∙ ap (λ w. lwp_of w >>= λ y. Some (Lwp y.0 y.1)) (sym text)
    ∙ ap (λ o. o >>= λ y. Some (Lwp y.0 y.1)) (lwp_of-text p l hp hl)

actor_back : (a : Actor) → actor_form a ≡ true → actor_of (actor_text a) ≡ Some a
unfolding actor_of actor_text actor_form
actor_back (Controller k) form = by (bytes_eq (99 ∷ decimal k) (codes "clock")) refl
  where
    tail : List ℕ → List ℕ
    tail [] = []
    tail (x ∷ xs) = xs

    by : (t : Bool) → bytes_eq (99 ∷ decimal k) (codes "clock") ≡ t
        → cond t (Some Clock) (decimal_id_of (decimal k) >>= λ n. Some (Controller n)) ≡ Some (Controller k)
    by true is =
        let same : decimal k ≡ codes "lock" = ap tail ((bytes_eq-Decides (99 ∷ decimal k) (codes "clock")).0 is) in
        absurd (none-some k (sym no_id_lock ∙ ap decimal_id_of (sym same) ∙ decimal_id_of-decimal k form))
    by false is = ap (λ o. o >>= λ n. Some (Controller n)) (decimal_id_of-decimal k form)
actor_back (Lwp p l) form =
    let parts = and_parts (is_id p) (is_id l) form in
    let number = is_number-from_id p parts.0 in
    lwp_back p l parts.0 parts.1
    (starts_low (decimal p) (codes "/" ++ decimal l) (decimal-digits p (ltb-true p (2 ^ 64) number))
    (not_empty p number))
actor_back Clock form = refl

-- ---- what was done

pub record IsAct (ws : Words) (a : Act) : Type 0 where
  pub words : ws ≡ act_words a
  pub formed : act_form a ≡ true

act_as : (ws : Words) (x a : Act) → ◌≡◌ {A = Option Act} (Some x) (Some a) → IsAct ws x → IsAct ws a
act_as ws x a e t = let same = same_Some x a e in
    record { words = t.words ∙ ap act_words same; formed = ap act_form (sym same) ∙ t.formed }

-- a reply behind the arrow that ends the words
abbrev ended : Call → Reply × Words → Option Act
ended c r = cond (is_done r.1) (Some (act.Call c r.0)) None

exchange_is : (ws : Words) (a : Act) → exchange_of ws ≡ Some a → IsAct ws a
unfolding exchange_of act_words act_form
exchange_is ws a e =
    let p = found_by (call_at ws) (λ c. (behind_word arrow c.1 >>= λ rest. (reply_at rest >>= ended c.0))) a e in
    let q = found_by (behind_word arrow p.value.1) (λ rest. (reply_at rest >>= ended p.value.0)) a p.then_is in
    let r = found_by (reply_at q.value) (ended p.value.0) a q.then_is in
    let c = call_taken ws p.value.0 p.value.1 p.is in
    let t = reply_taken q.value r.value.0 r.value.1 r.is in
    let f = cond_some (is_done r.value.1) (act.Call p.value.0 r.value.0) a r.then_is in
    act_as ws (act.Call p.value.0 r.value.0) a (ap (λ x. Some x) f.1) (record {
      words = c.words
          ∙ ap (λ vs. call_words p.value.0 ++ vs)
          (behind_word-is arrow p.value.1 q.value q.is
          ∙ ap (λ vs. arrow ∷ vs)
          (t.words ∙ ap (λ vs. reply_words r.value.0 ++ vs) (done_is r.value.1 f.0)
          ∙ append-nil (reply_words r.value.0)));
      formed = and_from (call_form p.value.0) (reply_form r.value.0) c.formed t.formed;
    })

exchange_back : (c : Call) (r : Reply) → call_form c ≡ true → reply_form r ≡ true
    → exchange_of (call_words c ++ arrow ∷ reply_words r) ≡ Some (act.Call c r)
unfolding exchange_of word_at
exchange_back c r hc hr =
    ap (λ o. o >>= λ x. (behind_word arrow x.1 >>= λ rest. (reply_at rest >>= ended x.0)))
    (call_again c (arrow ∷ reply_words r) hc (at_arrow (reply_words r)))
    ∙ ap (λ o. o >>= λ rest. (reply_at rest >>= ended c)) (behind_word-again arrow (reply_words r))
    ∙ ap (λ o. o >>= ended c) (reply_again r hr)

tick_is : (w : List ℕ) (ws : Words) (n : ℕ) (a : Act) → decimal_of w ≡ Some n → tick_of n ws ≡ Some a → IsAct (w ∷ ws) a
unfolding tick_of act_words act_form
tick_is w ws n a number e =
    let f = cond_some (is_done ws) (act.Tick n) a e in
    let d = decimal_of-word w n number in
    act_as (w ∷ ws) (act.Tick n) a (ap (λ x. Some x) f.1)
    (record { words = ap (λ v. v ∷ ws) d.word ∙ ap (λ vs. decimal n ∷ vs) (done_is ws f.0); formed = d.small })

turned_is : (ws : Words) (a : Act) → (turn_of ws >>= λ t. Some (act.Turn t)) ≡ Some a → IsAct ws a
unfolding act_words act_form
turned_is ws a e =
    let p = found_by (turn_of ws) (λ t. Some (act.Turn t)) a e in
    let t = turn_of-is ws p.value p.is in
    act_as ws (act.Turn p.value) a p.then_is (record { words = t.words; formed = t.formed })

act_is : (ws : Words) (a : Act) → act_of ws ≡ Some a → IsAct ws a
unfolding act_of
act_is ws a e =
    let p = found_by (word_at ws) (λ w. act_by (decimal_of w.0) w.0 w.1 ws) a e in
    let words = word_at-is ws p.value.0 p.value.1 p.is in
    by p.value.0 p.value.1 words (decimal_of p.value.0) refl p.then_is
  where
    choice : (w : List ℕ) (t : Bool) → cond t (exchange_of ws) (turn_of ws >>= λ t. Some (act.Turn t)) ≡ Some a
        → IsAct ws a
    choice w true h = exchange_is ws a h
    choice w false h = turned_is ws a h

    by : (w : List ℕ) (rest : Words) → ws ≡ w ∷ rest → (o : Option ℕ) → decimal_of w ≡ o → act_by o w rest ws ≡ Some a
        → IsAct ws a
    by w rest words (Some n) is h = let t = tick_is w rest n a is h in
        record { words = words ∙ t.words; formed = t.formed }
    by w rest words None is h = choice w (begins_call w) h

call_dispatch : (c : Call) (more : Words) → act_of (call_words c ++ more) ≡ exchange_of (call_words c ++ more)
unfolding act_of call_words word_at decimal_of number_words.number_of number_from with_digit digit_of begins_call
call_dispatch call.List more = refl
call_dispatch _ more = refl

turn_dispatch : (d : Did) (more : Words)
    → act_of (did_words d ++ more) ≡ (turn_of (did_words d ++ more) >>= λ t. Some (act.Turn t))
unfolding act_of did_words word_at decimal_of number_words.number_of number_from with_digit digit_of begins_call
turn_dispatch Stopped more = refl
turn_dispatch _ more = refl

turned_back : (t : Turned) → did_form t.did ≡ true → act_of (turn_words t) ≡ Some (act.Turn t)
unfolding turn_words
turned_back t form =
    turn_dispatch t.did (stop_words t.stop) ∙ ap (λ o. o >>= λ x. Some (act.Turn x)) (turn_of-words t form)

ticked_back : (n : ℕ) → is_number n ≡ true → act_of (decimal n ∷ []) ≡ Some (act.Tick n)
unfolding act_of word_at tick_of
ticked_back n form = ap (λ o. act_by o (decimal n) [] (decimal n ∷ [])) (decimal_of-decimal n form)

act_back : (a : Act) → act_form a ≡ true → act_of (act_words a) ≡ Some a
unfolding act_words act_form
act_back (act.Call c r) form =
    let parts = and_parts (call_form c) (reply_form r) form in
    call_dispatch c (arrow ∷ reply_words r) ∙ exchange_back c r parts.0 parts.1
act_back (act.Turn t) form = turned_back t form
act_back (act.Tick n) form = ticked_back n form

-- ---- entries and headings

pub record IsEntry (n : ℕ) (ws : Words) (e : Entry) : Type 0 where
  pub words : ws ≡ entry_words n e
  pub formed : has_form e ≡ true

-- an entry of the number that is wanted
abbrev numbered : ℕ → ℕ → Actor → Act → Option Entry
numbered n i who what = cond (eqb i n) (Some (record { actor = who; act = what })) None

pub entry_of-is : (n : ℕ) (ws : Words) (e : Entry) → entry_of n ws ≡ Some e → IsEntry n ws e
unfolding entry_of entry_words has_form
entry_of-is n ws e found =
    let i = found_by (number_at ws)
    (λ i. (word_at i.1 >>= λ w. (actor_of w.0 >>= λ who. (act_of w.1 >>= numbered n i.0 who)))) e found in
    let w = found_by (word_at i.value.1)
    (λ w. (actor_of w.0 >>= λ who. (act_of w.1 >>= numbered n i.value.0 who))) e i.then_is in
    let who = found_by (actor_of w.value.0) (λ who. (act_of w.value.1 >>= numbered n i.value.0 who)) e w.then_is in
    let what = found_by (act_of w.value.1) (numbered n i.value.0 who.value) e who.then_is in
    let f = cond_some (eqb i.value.0 n) (entry who.value what.value) e what.then_is in
    let number = number_step.taken ws i.value.0 i.value.1 i.is in
    let actor = actor_is w.value.0 who.value who.is in
    let done = act_is w.value.1 what.value what.is in
    record {
      words = number.words ∙ ap (λ k. decimal k ∷ i.value.1) (eqb-true i.value.0 n f.0)
          ∙ ap (λ vs. decimal n ∷ vs)
          (word_at-is i.value.1 w.value.0 w.value.1 w.is ∙ ap (λ v. v ∷ w.value.1) actor.word
          ∙ ap (λ vs. actor_text who.value ∷ vs) done.words)
          ∙ ap (λ (x : Entry). decimal n ∷ actor_text x.actor ∷ act_words x.act) f.1;
      formed =
          ap (λ (x : Entry). actor_form x.actor && act_form x.act) (sym f.1)
          ∙ and_from (actor_form who.value) (act_form what.value) actor.formed done.formed;
    }
  where
    entry : Actor → Act → Entry
    entry who what = record { actor = who; act = what }

pub entry_of-words : (n : ℕ) (e : Entry) → is_number n ≡ true → has_form e ≡ true
    → entry_of n (entry_words n e) ≡ Some e
unfolding entry_of entry_words has_form word_at
entry_of-words n e number form =
    let parts = and_parts (actor_form e.actor) (act_form e.act) form in
    ap (λ o. o >>= λ i. (word_at i.1 >>= λ w. (actor_of w.0 >>= λ who. (act_of w.1 >>= numbered n i.0 who))))
    (number_step.again n (actor_text e.actor ∷ act_words e.act) number)
    ∙ ap (λ o. o >>= λ who. (act_of (act_words e.act) >>= numbered n n who)) (actor_back e.actor parts.0)
    ∙ ap (λ o. o >>= numbered n n e.actor) (act_back e.act parts.1)
    ∙ ap (λ t. cond t (Some e) None) (eq-eqb n n refl)

pub record IsHeading (ws : Words) (n : ℕ) : Type 0 where
  pub words : ws ≡ codes "history" ∷ decimal n ∷ []
  pub formed : is_number n ≡ true

abbrev heading_ended : ℕ × Words → Option ℕ
heading_ended n = cond (is_done n.1) (Some n.0) None

pub heading_of-is : (ws : Words) (n : ℕ) → heading_of ws ≡ Some n → IsHeading ws n
unfolding heading_of
heading_of-is ws n e =
    let p = found_by (behind_word (codes "history") ws) (λ rest. (number_at rest >>= heading_ended)) n e in
    let q = found_by (number_at p.value) heading_ended n p.then_is in
    let f = cond_some (is_done q.value.1) q.value.0 n q.then_is in
    let t = number_step.taken p.value q.value.0 q.value.1 q.is in
    record {
      words = behind_word-is (codes "history") ws p.value p.is
          ∙ ap (λ vs. codes "history" ∷ vs)
          (t.words ∙ ap (λ vs. decimal q.value.0 ∷ vs) (done_is q.value.1 f.0) ∙ ap (λ k. decimal k ∷ []) f.1);
      formed = ap is_number (sym f.1) ∙ t.formed;
    }

pub heading_of-words : (n : ℕ) → is_number n ≡ true → heading_of (codes "history" ∷ decimal n ∷ []) ≡ Some n
unfolding heading_of word_at
heading_of-words n form =
    ap (λ o. o >>= λ rest. (number_at rest >>= heading_ended)) (behind_word-again (codes "history") (decimal n ∷ []))
    ∙ ap (λ o. o >>= heading_ended) (number_step.again n [] form)

-- ---- lines

-- words with a blank between each two are joined by the blank
joined-is : (w : List ℕ) (ws : List (List ℕ)) → join_with_byte blank (w ∷ ws) ≡ joined (w ∷ ws)
unfolding joined behind_blank
joined-is w [] = sym (append-nil w)
joined-is w (v ∷ vs) = ap (λ x. w ++ blank ∷ x) (joined-is v vs)

line_of_words : (line w : List ℕ) (ws : List (List ℕ)) → slice_split is_blank line ≡ w ∷ ws → line ≡ joined (w ∷ ws)
line_of_words line w ws e = sym (join_with_byte-slice_split blank line) ∙ ap (join_with_byte blank) e ∙ joined-is w ws

pub record IsEntryLine (n : ℕ) (line : List ℕ) (e : Entry) : Type 0 where
  pub line_is : line ≡ entry_line n e
  pub formed : has_form e ≡ true

pub entry_in-is : (n : ℕ) (line : List ℕ) (e : Entry) → entry_in n line ≡ Some e → IsEntryLine n line e
unfolding entry_line entry_words
entry_in-is n line e found =
    let t = entry_of-is n (slice_split is_blank line) e found in
    record {
      line_is = line_of_words line (decimal n) (actor_text e.actor ∷ act_words e.act) t.words;
      formed =
          t.formed;
    }

-- a name is a word
name_byte : (b : ℕ) → is_name_byte b ≡ true → is_word_byte b ≡ true
unfolding is_name_byte
name_byte b h = by (eqb b 32) (eqb b 10) refl refl
  where
    by : (s t : Bool) → eqb b 32 ≡ s → eqb b 10 ≡ t → (not s && not t) ≡ true
    by true t is h2 = absurd (false≢true (ap is_name_byte (sym (eqb-true b 32 is)) ∙ h))
    by false true h1 is = absurd (false≢true (ap is_name_byte (sym (eqb-true b 10 is)) ∙ h))
    by false false h1 h2 = refl

name_bytes : (bs : List ℕ) → list_all is_name_byte bs ≡ true → list_all is_word_byte bs ≡ true
name_bytes [] h = refl
name_bytes (b ∷ bs) h =
    let parts = and_parts (is_name_byte b) (list_all is_name_byte bs) h in
    and_from (is_word_byte b) (list_all is_word_byte bs) (name_byte b parts.0) (name_bytes bs parts.1)

name_word : (w : List ℕ) → is_name w ≡ true → is_word w ≡ true
unfolding is_name
name_word [] h = cc
name_word (b ∷ bs) h =
    name_bytes (b ∷ bs) (and_parts (is_letter b && leb (length (b ∷ bs)) 31) (list_all is_name_byte (b ∷ bs)) h).1

names_formed : (c : Call) → call_form c ≡ true → names_words c ≡ true
unfolding call_form names_words
names_formed (call.Spawn program held) h = name_word program h
names_formed (call.Open p l f m) h = refl
names_formed (call.Close n) h = refl
names_formed (call.Ctl n b) h = refl
names_formed (call.CtlWait n u b) h = refl
names_formed (call.Read n a l) h = refl
names_formed (call.Poll ns) h = refl
names_formed (call.Interrupt k) h = refl
names_formed (call.Kill p s) h = refl
names_formed (call.Until n) h = refl
names_formed call.List h = refl

act_words_formed : (who : Actor) (a : Act) → act_form a ≡ true → has_words (record { actor = who; act = a }) ≡ true
unfolding act_form has_words
act_words_formed who (act.Call c r) h = names_formed c (and_parts (call_form c) (reply_form r) h).0
act_words_formed who (act.Turn t) h = refl
act_words_formed who (act.Tick n) h = refl

pub words_formed : (e : Entry) → has_form e ≡ true → has_words e ≡ true
unfolding has_form
words_formed e h = act_words_formed e.actor e.act (and_parts (actor_form e.actor) (act_form e.act) h).1

pub entry_in-line : (n : ℕ) (e : Entry) → is_number n ≡ true → has_form e ≡ true → entry_in n (entry_line n e) ≡ Some e
entry_in-line n e number form =
    ap (entry_of n) (entry_line-words n e (words_formed e form)) ∙ entry_of-words n e number form

pub record IsHeadingLine (line : List ℕ) (n : ℕ) : Type 0 where
  pub line_is : line ≡ heading_line n
  pub formed : is_number n ≡ true

pub heading_in-is : (line : List ℕ) (n : ℕ) → heading_in line ≡ Some n → IsHeadingLine line n
unfolding heading_line
heading_in-is line n found =
    let t = heading_of-is (slice_split is_blank line) n found in
    record { line_is = line_of_words line (codes "history") (decimal n ∷ []) t.words; formed = t.formed }

pub heading_words : (n : ℕ) → list_all is_word (codes "history" ∷ decimal n ∷ []) ≡ true
heading_words n = (two (codes "history") (decimal n) (record { is = refl }) (decimal_word n)).each

pub heading_in-line : (n : ℕ) → is_number n ≡ true → heading_in (heading_line n) ≡ Some n
unfolding heading_line
heading_in-line n number =
    ap heading_of (joined-words (codes "history") (decimal n ∷ []) (heading_words n)) ∙ heading_of-words n number
