-- Calls and replies are read back from their words, and from no others.
use Rattle.std.proofs.Common.{◌≡◌, ℕ, ◌<◌, ◌^◌, Bool, true, false, cond, eqb, not, ◌&&◌, Option, Some, None, List, [], ◌∷◌, ◌++◌, codes, map, refl, sym, ap, ◌∙◌, append_assoc, arith}
use Rattle.std.specs.Fmt.{decimal}
use Rattle.std.specs.List.{All, list_all, slice_split}
use Rattle.std.specs.Str.{bytes_eq}
use Rattle.std.proofs.lemmas.Bool.{and_parts, and_from, ltb-true, not-true, eqb-true}
use Rattle.std.proofs.lemmas.List.Splits.{slice_split_none}
use Rattle.std.proofs.lemmas.List.Splits.{join_with_byte-slice_split}
use Rattle.std.proofs.lemmas.Option.{same_Some, none-some, cond_some}
use Rattle.std.specs.List.{join_with_byte}
use Rattle.pr_text.specs.NumberWords.{digit_of, with_digit, number_from}
use Rattle.pr_text.specs.NumberWords as number_words
use Rattle.pr_text.specs.Names.{is_name}
use Rattle.pr_model.specs.declared.calls.Call.{Call}
use Rattle.pr_model.specs.declared.calls.Call.TheVariants as call
use Rattle.pr_model.specs.declared.calls.Reply.{Reply}
use Rattle.pr_model.specs.declared.calls.Reply.TheVariants as reply
use Rattle.pr_plain.specs.CallReading.{slash, is_slash, lwp_of, target_of, target_at, held_at, arrow, handles_at, open_at, close_at, ctl_at, ctl_wait_at, read_at, poll_at, interrupt_at, spawn_at, kill_at, until_at, call_behind, call_at, handle_at, used_at, half_at, reply_bytes_at, pid_at, ready_at, fail_at, plain_reply_behind, reply_behind, reply_at}
use Rattle.pr_plain.specs.DecimalWords.{decimal_id_of}
use Rattle.pr_plain.specs.EntryForms.{is_id, call_form, reply_form}
use Rattle.pr_text.specs.LwpWords.{lwp_text}
use Rattle.pr_plain.specs.HistoryText.{target_text, held_words, call_words, reply_words}
use Rattle.pr_plain.specs.Readings.{◌>>=◌}
use Rattle.pr_plain.specs.WordReading.{Words, word_at, is_done, id_at}
use Rattle.pr_text.proofs.NumberLemmas.{decimal-apart}
use Rattle.pr_text.proofs.PlainLemmas.{split_lwp}
use Rattle.pr_plain.proofs.DecimalLemmas.{is_number-from_id}
use Rattle.pr_plain.proofs.RowLemmas.{Takes, Taken, TakesBefore, one_word, found_by, pair_of, by_word, taken_as, Row.{done, read, ends}, last, RowOf, row_of, table_again, table_taken}
use Rattle.pr_plain.proofs.WordLaws.{any, ids, number_step, id_step, bytes_step, errno_step, file_step, mode_step, program_step}
use Rattle.std.proofs.lemmas.Slice.Eq.{bytes_eq-Decides}

-- ---- a process and its lwp

-- ids are numbers
id_below : (n : ℕ) → is_id n ≡ true → n < 2 ^ 64
id_below n h = ltb-true n (2 ^ 64) (is_number-from_id n h)

unslashed : (n : ℕ) → is_id n ≡ true → All (λ b. is_slash b ≡ false) (decimal n)
unslashed n h = decimal-apart slash (omega arith) n (id_below n h)

split_pid : (p : ℕ) → is_id p ≡ true → slice_split is_slash (decimal p) ≡ decimal p ∷ []
split_pid p hp = slice_split_none is_slash (decimal p) (unslashed p hp)

-- what pieces are cut from
joined_one : (w u : List ℕ) → slice_split is_slash w ≡ u ∷ [] → w ≡ u
joined_one w u e = sym (join_with_byte-slice_split slash w) ∙ ap (join_with_byte slash) e

joined_two : (w u v : List ℕ) → slice_split is_slash w ≡ u ∷ v ∷ [] → w ≡ u ++ codes "/" ++ v
joined_two w u v e =
    sym (join_with_byte-slice_split slash w) ∙ ap (join_with_byte slash) e ∙ sym (append_assoc u (codes "/") v)

pub done_is : (ws : Words) → is_done ws ≡ true → ws ≡ []
unfolding word_at
done_is [] h = refl
done_is (w ∷ ws) h = cc

done_none : is_done [] ≡ true
unfolding word_at
done_none = refl

not_done : (w : List ℕ) (ws : Words) → is_done (w ∷ ws) ≡ false
unfolding word_at
not_done w ws = refl

pub record IsLwp (w : List ℕ) (x : ℕ × ℕ) : Type 0 where
  pub word : w ≡ lwp_text x.0 x.1
  pub formed : (is_id x.0 && is_id x.1) ≡ true

-- what two ids make, where nothing stands behind them
abbrev second : ℕ → ℕ × Words → Option (ℕ × ℕ)
second p l = cond (is_done l.1) (Some (p, l.0)) None

pub lwp_of-is : (w : List ℕ) (x : ℕ × ℕ) → lwp_of w ≡ Some x → IsLwp w x
unfolding lwp_of lwp_text
lwp_of-is w x e =
    let p = found_by (id_at (slice_split is_slash w)) (λ p. (id_at p.1 >>= second p.0)) x e in
    let q = found_by (id_at p.value.1) (second p.value.0) x p.then_is in
    let s = id_step.taken (slice_split is_slash w) p.value.0 p.value.1 p.is in
    let t = id_step.taken p.value.1 q.value.0 q.value.1 q.is in
    let end = cond_some (is_done q.value.1) (p.value.0, q.value.0) x q.then_is in
    record {
      word = joined_two w (decimal p.value.0) (decimal q.value.0)
          (s.words
          ∙ ap (λ vs. decimal p.value.0 ∷ vs) (t.words ∙ ap (λ vs. decimal q.value.0 ∷ vs) (done_is q.value.1 end.0)))
          ∙ ap (λ (y : ℕ × ℕ). lwp_text y.0 y.1) end.1;
      formed = ap (λ (y : ℕ × ℕ). is_id y.0 && is_id y.1) (sym end.1)
          ∙ and_from (is_id p.value.0) (is_id q.value.0) s.formed t.formed;
    }

pub lwp_of-text : (p l : ℕ) → is_id p ≡ true → is_id l ≡ true → lwp_of (lwp_text p l) ≡ Some (p, l)
unfolding lwp_of word_at
lwp_of-text p l hp hl =
    ap (λ ws. id_at ws >>= λ a. (id_at a.1 >>= second a.0)) (split_lwp p l (id_below p hp) (id_below l hl))
    ∙ ap (λ o. o >>= λ a. (id_at a.1 >>= second a.0)) (id_step.again p (decimal l ∷ []) hp)
    ∙ ap (λ o. o >>= second p) (id_step.again l [] hl)

abbrev target_form : ℕ × ℕ → Bool
target_form x = is_id x.0 && is_id x.1

abbrev target_word : ℕ × ℕ → List ℕ
target_word x = target_text x.0 x.1

-- the lwp that a target names, where it names one
abbrev second_id : ℕ → ℕ × Words → Option (ℕ × ℕ)
second_id p l = cond (is_done l.1 && not (eqb l.0 0)) (Some (p, l.0)) None

abbrev second_of : ℕ × Words → Option (ℕ × ℕ)
second_of p = cond (is_done p.1) (Some (p.0, 0)) (id_at p.1 >>= second_id p.0)

pid_alone : (p : ℕ) → target_text p 0 ≡ decimal p
unfolding target_text
pid_alone p = refl

pid_and_lwp : (p l : ℕ) → eqb l 0 ≡ false → target_text p l ≡ lwp_text p l
unfolding target_text
pid_and_lwp p l h = ap (λ t. cond t (decimal p) (lwp_text p l)) h

record IsTarget (w : List ℕ) (x : ℕ × ℕ) : Type 0 where
  word : w ≡ target_word x
  formed : target_form x ≡ true

is_target : (w : List ℕ) (p l : ℕ) (x : ℕ × ℕ) → ◌≡◌ {A = ℕ × ℕ} (p, l) x → w ≡ target_text p l → is_id p ≡ true
    → is_id l ≡ true → IsTarget w x
is_target w p l x same word hp hl = record {
  word = word ∙ ap (λ (y : ℕ × ℕ). target_text y.0 y.1) same;
  formed = ap (λ (y : ℕ × ℕ). is_id y.0 && is_id y.1) (sym same) ∙ and_from (is_id p) (is_id l) hp hl;
}

second_found : (w : List ℕ) (p : ℕ) (ws : Words) (x : ℕ × ℕ) → slice_split is_slash w ≡ decimal p ∷ ws → is_id p ≡ true
    → second_of (p, ws) ≡ Some x → IsTarget w x
unfolding lwp_text
second_found w p ws x words hp e = by (is_done ws) refl e
  where
    by : (t : Bool) → is_done ws ≡ t
        → ◌≡◌ {A = Option (ℕ × ℕ)} (cond t (Some (p, 0)) (id_at ws >>= second_id p)) (Some x) → IsTarget w x
    by true is found =
        is_target w p 0 x (same_Some (p, 0) x found)
        (joined_one w (decimal p) (words ∙ ap (λ vs. decimal p ∷ vs) (done_is ws is)) ∙ sym (pid_alone p)) hp refl
    by false is found =
        let q = found_by (id_at ws) (second_id p) x found in
        let t = id_step.taken ws q.value.0 q.value.1 q.is in
        let end = cond_some (is_done q.value.1 && not (eqb q.value.0 0)) (p, q.value.0) x q.then_is in
        let parts = and_parts (is_done q.value.1) (not (eqb q.value.0 0)) end.0 in
        is_target w p q.value.0 x end.1
        (joined_two w (decimal p) (decimal q.value.0)
        (words
        ∙ ap (λ vs. decimal p ∷ vs) (t.words ∙ ap (λ vs. decimal q.value.0 ∷ vs) (done_is q.value.1 parts.0)))
        ∙ sym (pid_and_lwp p q.value.0 (not-true (eqb q.value.0 0) parts.1))) hp t.formed

target_is : (w : List ℕ) (x : ℕ × ℕ) → target_of w ≡ Some x → IsTarget w x
unfolding target_of
target_is w x e =
    let p = found_by (id_at (slice_split is_slash w)) second_of x e in
    let t = id_step.taken (slice_split is_slash w) p.value.0 p.value.1 p.is in
    second_found w p.value.0 p.value.1 x t.words t.formed p.then_is

target_back : (x : ℕ × ℕ) → target_form x ≡ true → target_of (target_word x) ≡ Some x
unfolding target_of word_at
target_back x h = by (eqb x.1 0) refl
  where
    parts : (is_id x.0 ≡ true) × (is_id x.1 ≡ true)
    parts = and_parts (is_id x.0) (is_id x.1) h

    by : (t : Bool) → eqb x.1 0 ≡ t → (id_at (slice_split is_slash (target_text x.0 x.1)) >>= second_of) ≡ Some x
    by true is =
        let alone : x.1 ≡ 0 = eqb-true x.1 0 is in
        ap (λ l. id_at (slice_split is_slash (target_text x.0 l)) >>= second_of) alone
        ∙ ap (λ u. id_at (slice_split is_slash u) >>= second_of) (pid_alone x.0)
        ∙ ap (λ ws. id_at ws >>= second_of) (split_pid x.0 parts.0)
        ∙ ap (λ o. o >>= second_of) (id_step.again x.0 [] parts.0)
        ∙ ap (λ l. Some (x.0, l)) (sym alone)
    by false is =
        ap (λ u. id_at (slice_split is_slash u) >>= second_of) (pid_and_lwp x.0 x.1 is)
        ∙ ap (λ ws. id_at ws >>= second_of) (split_lwp x.0 x.1 (id_below x.0 parts.0) (id_below x.1 parts.1))
        ∙ ap (λ o. o >>= second_of) (id_step.again x.0 (decimal x.1 ∷ []) parts.0)
        ∙ ap (λ o. o >>= second_id x.0) (id_step.again x.1 [] parts.1)
        ∙ ap (λ t. cond (not t) (Some (x.0, x.1)) None) is

target_step : Takes target_at (λ x. target_word x ∷ []) target_form
unfolding target_at
target_step =
    one_word target_of target_word target_form
    (record { back = target_back; only = λ w x e. (target_is w x e).word; formed = λ w x e. (target_is w x e).formed })

-- ---- words of calls

held_is : (ws : Words) → ws ≡ held_words (held_at ws).0 ++ (held_at ws).1
unfolding held_at held_words word_at
held_is [] = refl
held_is (w ∷ ws) = by (bytes_eq w (codes "held")) refl
  where
    by : (t : Bool) → bytes_eq w (codes "held") ≡ t
        → w ∷ ws
        ≡ held_words (cond {A = Bool × Words} t (true, ws) (false, w ∷ ws)).0
        ++ (cond {A = Bool × Words} t (true, ws) (false, w ∷ ws)).1
    by true is = ap (λ v. v ∷ ws) ((bytes_eq-Decides w (codes "held")).0 is)
    by false is = refl

-- words behind which no call goes on
pub record EndsCall (rest : Words) : Type 0 where
  unheld : held_at rest ≡ (false, rest)
  no_handle : handles_at rest ≡ Some ([], rest)

pub at_arrow : (more : Words) → EndsCall (arrow ∷ more)
unfolding held_at handles_at word_at
at_arrow more = record { unheld = refl; no_handle = refl }

held_again : (held : Bool) (rest : Words) → EndsCall rest → held_at (held_words held ++ rest) ≡ (held, rest)
unfolding held_at held_words word_at
held_again true rest before = refl
held_again false rest before = before.unheld

held_before : TakesBefore EndsCall (λ ws. Some (held_at ws)) held_words any
held_before = record {
  taken = λ ws held rest e. let same = pair_of (held_at ws).0 held (held_at ws).1 rest e in
      taken_as held_words any ws (held_at ws).0 held rest same.value
      (record { words = held_is ws ∙ ap (λ vs. held_words (held_at ws).0 ++ vs) same.words; formed = refl });
  again = λ held rest h before. ap (λ x. Some x) (held_again held rest before);
}

-- handles behind one that was read
abbrev then_handles : ℕ → List ℕ × Words → Option (List ℕ × Words)
then_handles h x = Some (h ∷ x.0, x.1)

handles_taken : (ws : Words) (hs : List ℕ) (rest : Words) → handles_at ws ≡ Some (hs, rest)
    → Taken (map decimal) (list_all is_id) ws hs rest
unfolding handles_at
handles_taken [] hs rest e = cc
handles_taken (w ∷ ws) hs rest e =
    by_word w arrow _ _ (hs, rest) (Taken (map decimal) (list_all is_id) (w ∷ ws) hs rest) e (λ is found. none found)
    (λ found. more (λ xs late f. handles_taken ws xs late f) found)
  where
    none : ◌≡◌ {A = Option (List ℕ × Words)} (Some ([], w ∷ ws)) (Some (hs, rest))
        → Taken (map decimal) (list_all is_id) (w ∷ ws) hs rest
    none found =
        let same = pair_of [] hs (w ∷ ws) rest found in
        taken_as (map decimal) (list_all is_id) (w ∷ ws)
        [] hs rest same.value (record { words = same.words; formed = refl })

    more : ((xs : List ℕ) (late : Words) → handles_at ws ≡ Some (xs, late)
        → Taken (map decimal) (list_all is_id) ws xs late)
        → (decimal_id_of w >>= λ h. (handles_at ws >>= then_handles h)) ≡ Some (hs, rest)
        → Taken (map decimal) (list_all is_id) (w ∷ ws) hs rest
    more others found =
        let p = found_by (decimal_id_of w) (λ h. (handles_at ws >>= then_handles h)) (hs, rest) found in
        let q = found_by (handles_at ws) (then_handles p.value) (hs, rest) p.then_is in
        let t = others q.value.0 q.value.1 q.is in
        let same = pair_of (p.value ∷ q.value.0) hs q.value.1 rest q.then_is in
        taken_as (map decimal) (list_all is_id) (w ∷ ws) (p.value ∷ q.value.0) hs rest same.value (record {
          words = ap (λ v. v ∷ ws) (ids.only w p.value p.is)
              ∙ ap (λ vs. decimal p.value ∷ vs) (t.words ∙ ap (λ vs. map decimal q.value.0 ++ vs) same.words);
          formed = and_from (is_id p.value) (list_all is_id q.value.0) (ids.formed w p.value p.is) t.formed;
        })

no_id_arrow : decimal_id_of arrow ≡ None
unfolding decimal_id_of number_words.id_of number_words.number_of number_from with_digit digit_of
no_id_arrow = refl

id_no_arrow : (h : ℕ) → is_id h ≡ true → bytes_eq (decimal h) arrow ≡ false
id_no_arrow h form = by (bytes_eq (decimal h) arrow) refl
  where
    by : (t : Bool) → bytes_eq (decimal h) arrow ≡ t → t ≡ false
    by true is =
        let same : decimal h ≡ arrow = (bytes_eq-Decides (decimal h) arrow).0 is in
        absurd (none-some h (sym no_id_arrow ∙ ap decimal_id_of (sym same) ∙ ids.back h form))
    by false is = refl

handles_again : (hs : List ℕ) (rest : Words) → list_all is_id hs ≡ true → EndsCall rest
    → handles_at (map decimal hs ++ rest) ≡ Some (hs, rest)
unfolding handles_at
handles_again [] rest form before = before.no_handle
handles_again (h ∷ hs) rest form before =
    let parts = and_parts (is_id h) (list_all is_id hs) form in
    let behind = map decimal hs ++ rest in
    ap (λ t.
    cond t (Some ([], decimal h ∷ behind))
    (decimal_id_of (decimal h) >>= λ k. (handles_at behind >>= then_handles k))) (id_no_arrow h parts.0)
    ∙ ap (λ o. o >>= λ k. (handles_at behind >>= then_handles k)) (ids.back h parts.0)
    ∙ ap (λ o. o >>= then_handles h) (handles_again hs rest parts.1 before)

handles_before : TakesBefore EndsCall handles_at (map decimal) (list_all is_id)
handles_before = record { taken = handles_taken; again = handles_again }

-- ---- calls

-- where all that is read behind a word has its form
and_any : (t : Bool) → t ≡ (t && true)
and_any true = refl
and_any false = refl

-- a row for each form of call
abbrev call_rows : List (RowOf EndsCall call_words call_form)
unfolding call_words call_form
call_rows =
    row_of (codes "open") (read target_step (λ t. read file_step (λ f. last mode_step (call.Open t.0 t.1 f))))
    (λ v rest. refl) (λ v. and_any (target_form v.0))
    ∷ row_of (codes "close") (last id_step call.Close) (λ v rest. refl) (λ v. refl)
    ∷ row_of (codes "ctl") (read id_step (λ h. last bytes_step (call.Ctl h))) (λ v rest. refl) (λ v. refl)
    ∷ row_of (codes "ctlwait") (read id_step (λ h. read number_step (λ until. last bytes_step (call.CtlWait h until))))
    (λ v rest. refl) (λ v. refl)
    ∷ row_of (codes "read") (read id_step (λ h. read number_step (λ at. last number_step (call.Read h at))))
    (λ v rest. refl) (λ v. refl)
    ∷ row_of (codes "poll") (ends handles_before call.Poll) (λ v rest. refl) (λ v. refl)
    ∷ row_of (codes "interrupt") (last id_step call.Interrupt) (λ v rest. refl) (λ v. refl)
    ∷ row_of (codes "spawn") (read program_step (λ w. ends held_before (call.Spawn w))) (λ v rest. refl)
    (λ v. and_any (is_name v.0))
    ∷ row_of (codes "kill") (read id_step (λ p. last number_step (call.Kill p))) (λ v rest. refl) (λ v. refl)
    ∷ row_of (codes "until") (last number_step call.Until) (λ v rest. refl) (λ v. refl)
    ∷ row_of (codes "list") (done call.List) (λ v rest. refl) (λ v. refl) ∷ []

pub call_taken : (ws : Words) (c : Call) (rest : Words) → call_at ws ≡ Some (c, rest)
    → Taken call_words call_form ws c rest
unfolding call_words call_form call_at call_behind open_at close_at ctl_at ctl_wait_at read_at poll_at interrupt_at
    spawn_at kill_at until_at
call_taken = table_taken call_rows

-- a call is read from its words, where it does not go on behind them
pub call_again : (c : Call) (rest : Words) → call_form c ≡ true → EndsCall rest
    → call_at (call_words c ++ rest) ≡ Some (c, rest)
unfolding call_at call_behind call_words call_form word_at open_at close_at ctl_at ctl_wait_at read_at poll_at
    interrupt_at spawn_at kill_at until_at
call_again (call.Open p l f m) rest form end =
    table_again call_rows (codes "open") ((p, l), (f, m)) rest (sym (and_any (is_id p && is_id l)) ∙ form) end
call_again (call.Close h) rest form end = table_again call_rows (codes "close") h rest form end
call_again (call.Ctl h bytes) rest form end = table_again call_rows (codes "ctl") (h, bytes) rest form end
call_again (call.CtlWait h until bytes) rest form end =
    table_again call_rows (codes "ctlwait") (h, (until, bytes)) rest form end
call_again (call.Read h at len) rest form end = table_again call_rows (codes "read") (h, (at, len)) rest form end
call_again (call.Poll handles) rest form end = table_again call_rows (codes "poll") handles rest form end
call_again (call.Interrupt k) rest form end = table_again call_rows (codes "interrupt") k rest form end
call_again (call.Spawn w held) rest form end =
    table_again call_rows (codes "spawn") (w, held) rest (sym (and_any (is_name w)) ∙ form) end
call_again (call.Kill p s) rest form end = table_again call_rows (codes "kill") (p, s) rest form end
call_again (call.Until n) rest form end = table_again call_rows (codes "until") n rest form end
call_again call.List rest form end = refl

-- ---- replies

-- a row for each form of reply
abbrev reply_rows : List (RowOf (λ rest. Unit {0}) reply_words reply_form)
unfolding reply_words reply_form
reply_rows =
    row_of (codes "bytes") (last bytes_step reply.Bytes) (λ v rest. refl) (λ v. refl)
    ∷ row_of (codes "handle") (last id_step reply.Handle) (λ v rest. refl) (λ v. refl)
    ∷ row_of (codes "done") (done reply.Done) (λ v rest. refl) (λ v. refl)
    ∷ row_of (codes "used") (last number_step reply.Used) (λ v rest. refl) (λ v. refl)
    ∷ row_of (codes "half") (last number_step reply.Half) (λ v rest. refl) (λ v. refl)
    ∷ row_of (codes "pid") (last id_step reply.Pid) (λ v rest. refl) (λ v. refl)
    ∷ row_of (codes "ready") (last id_step reply.Ready) (λ v rest. refl) (λ v. refl)
    ∷ row_of (codes "fail") (last errno_step reply.Fail) (λ v rest. refl) (λ v. refl) ∷ []

pub reply_taken : (ws : Words) (r : Reply) (rest : Words) → reply_at ws ≡ Some (r, rest)
    → Taken reply_words reply_form ws r rest
unfolding reply_words reply_form reply_at reply_behind plain_reply_behind handle_at used_at half_at reply_bytes_at
    pid_at ready_at fail_at
reply_taken = table_taken reply_rows

pub reply_again : (r : Reply) → reply_form r ≡ true → reply_at (reply_words r) ≡ Some (r, [])
unfolding reply_at reply_behind plain_reply_behind reply_words reply_form word_at handle_at used_at half_at
    reply_bytes_at pid_at ready_at fail_at
reply_again (reply.Handle h) form = table_again reply_rows (codes "handle") h [] form tt
reply_again reply.Done form = refl
reply_again (reply.Used n) form = table_again reply_rows (codes "used") n [] form tt
reply_again (reply.Half n) form = table_again reply_rows (codes "half") n [] form tt
reply_again (reply.Bytes bytes) form = table_again reply_rows (codes "bytes") bytes [] form tt
reply_again (reply.Pid p) form = table_again reply_rows (codes "pid") p [] form tt
reply_again (reply.Ready h) form = table_again reply_rows (codes "ready") h [] form tt
reply_again (reply.Fail e) form = table_again reply_rows (codes "fail") e [] form tt
