use Rattle.std.proofs.Common.{◌≡◌, ◌+◌, ◌*◌, ◌<◌, ◌≤◌, ◌∷◌, ◌++◌, ℕ, Some, List, All, length, map, drop, take, get_or, slice_get, refl, sym, ap, ◌∙◌, arith}
use Rattle.std.proofs.lemmas.List.{drop-append-le, drop-drop, length-drop, take-append-le}
use Rattle.pr_codec.proofs.WordLemmas.{length-words_bytes, word_at-words_bytes}
use Rattle.pr_codec.specs.Words.{word_at}
use Rattle.pr_model.specs.Registers.{fp_of}
use Rattle.pr_num.proofs.SearchLemmas.{All-at}
use Rattle.pr_num.specs.Records.{entries_words, lwpstatus_ranges}
use Rattle.pr_num.specs.Words.{IsWord, word_of, words_bytes}
use Rattle.pr_rec.proofs.EntryLemmas.{stands_at}
use Rattle.pr_rec.proofs.LwpStatusLemmas.{lwpstatus-ranged, lwpstatus_take}
use Rattle.pr_rec.proofs.RecordLemmas.{AreWords-ranged}
use Rattle.pr_rec.specs.InRange.{IsLwpStatus}
use Rattle.pr_rec.specs.RecordBytes.{lstatus_bytes}
use Rattle.pr_rec.specs.RecordWords.{lwpstatus_words_of}
use Rattle.pr_rec.specs.declared.lwps.LwpStatus.{LwpStatus}
use Rattle.pr_tools.specs.Stacks.{frame_pointer}
use Rattle.pr_tool_laws.proofs.Records.EntryLemmas.{behind-number}

-- Where the words of an lwp's status stand in the bytes of the status of all lwps.

-- a word of the front of some bytes
front-word : (front more : List ℕ) (at : ℕ) → at + 8 ≤ length front → word_at (front ++ more) at ≡ word_at front at
front-word front more at within =
    let rest = length-drop at front in
    ap (λ (bytes : List ℕ). word_of (take 8 bytes)) (drop-append-le at front more (omega arith))
    ∙ ap word_of (take-append-le 8 (drop at front) more (omega arith))

module _ (lwps : List LwpStatus) (fields : All IsLwpStatus lwps) (i : ℕ) (l : LwpStatus)
    (there : slice_get lwps i ≡ Some l) where
  status-word : (n : ℕ) → n < 33
      → word_at (lstatus_bytes lwps) (8 + 264 * i + 8 * n) ≡ get_or (lwpstatus_words_of l) n 0
  unfolding lstatus_bytes
  status-word n inside =
      let words = map lwpstatus_words_of lwps in
      let all = words_bytes (entries_words words) in
      let stands = stands_at lwpstatus_words_of 33 (λ _. refl) lwps i l there in
      let own = words_bytes (lwpstatus_words_of l) in
      let places : 8 + 264 * i + 8 * n ≡ 8 + (264 * i + 8 * n) = omega arith in
      let whole = words_bytes (length words ∷ entries_words words) in
      let along : drop (8 + 264 * i + 8 * n) whole ≡ drop (8 * n) (own ++ stands.more) =
      ap (λ (k : ℕ). drop k whole) places ∙ sym (drop-drop (264 * i + 8 * n) 8 whole)
      ∙ ap (drop (264 * i + 8 * n)) (behind-number (length words) (entries_words words))
      ∙ sym (drop-drop (8 * n) (264 * i) all) ∙ ap (drop (8 * n)) stands.place in
      let fit : All IsWord (lwpstatus_words_of l) =
      AreWords-ranged lwpstatus_ranges (lwpstatus_words_of l) lwpstatus_take
      (lwpstatus-ranged l (All-at IsLwpStatus lwps i l there fields)) refl in
      let size = length-words_bytes (lwpstatus_words_of l) in
      ap (λ (bytes : List ℕ). word_of (take 8 bytes)) along ∙ front-word own stands.more (8 * n) (omega arith)
      ∙ word_at-words_bytes (lwpstatus_words_of l) n fit inside

  pub status-id : word_at (lstatus_bytes lwps) (8 + 264 * i + 8) ≡ l.id
  status-id = status-word 1 (omega arith)

  pub status-pointer : frame_pointer (lstatus_bytes lwps) (8 + 264 * i) ≡ fp_of l.regs
  status-pointer = status-word 27 (omega arith)
