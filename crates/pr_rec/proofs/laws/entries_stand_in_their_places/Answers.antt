use Rattle.std.proofs.Common.{◌≡◌, ◌+◌, ◌*◌, ℕ, List, ◌++◌, length, map, drop, refl, sym, ap, ◌∙◌, arith, length-append}
use Rattle.std.proofs.lemmas.List.{drop_at, take_at, drop-drop, length-map}
use Rattle.pr_num.specs.Records.{entries_words, lwpstatus_ranges, map_entry_ranges, watch_entry_ranges, fd_entry_ranges, list_entry_ranges, lwpstatus_size, lwpstatus_word_count}
use Rattle.pr_num.specs.Words.{word_bytes, word_of, words_bytes}
use Rattle.pr_codec.proofs.WordLemmas.{length-word_bytes, word_of-word_bytes}
use Rattle.pr_rec.proofs.EntryLemmas.{stands_at, length-entries}
use Rattle.pr_rec.proofs.ListEntryLemmas.{watch_entry-ranged, fd_entry-ranged, list_entry-ranged}
use Rattle.pr_rec.proofs.LwpStatusLemmas.{lwpstatus-ranged}
use Rattle.pr_rec.proofs.MapEntryLemmas.{map_entry-ranged}
use Rattle.pr_rec.proofs.RecordLemmas.{ranged-begins}
use Rattle.pr_rec.specs.RecordBytes.{lstatus_bytes, map_bytes, watch_bytes, fds_bytes, list_bytes}
use Rattle.pr_rec.specs.RecordWords.{lwpstatus_words_of, map_entry_words_of, watch_entry_words_of, fd_entry_words_of, list_entry_words_of}
use Rattle.pr_rec.specs.declared.lwps.LwpStatus.{LwpStatus}
use Rattle.pr_rec.proofs.laws.entries_stand_in_their_places.Goals as goal

-- what follows the number of lwps
statuses : List LwpStatus → List ℕ
statuses lwps = words_bytes (entries_words (map lwpstatus_words_of lwps))

number : List LwpStatus → List ℕ
number lwps = word_bytes (length (map lwpstatus_words_of lwps))

pub returns-clause-number_of_lwps : goal.returns-clause-number_of_lwps
unfolding lstatus_bytes statuses number
returns-clause-number_of_lwps c lwps small =
    let many : length (map lwpstatus_words_of lwps) ≡ length lwps = length-map lwps lwpstatus_words_of in
    ap word_of (take_at (number lwps) (statuses lwps) 8 (length-word_bytes (length (map lwpstatus_words_of lwps))))
    ∙ word_of-word_bytes (length (map lwpstatus_words_of lwps)) (omega arith) ∙ many

pub returns-clause-lwp : goal.returns-clause-lwp
unfolding lstatus_bytes statuses number
returns-clause-lwp c lwps i l there h =
    let stands = stands_at lwpstatus_words_of lwpstatus_word_count (λ _. refl) lwps i l there in
    let along : drop (8 + lwpstatus_size * i) (number lwps ++ statuses lwps)
    ≡ drop (lwpstatus_size * i) (statuses lwps) =
    sym (drop-drop (lwpstatus_size * i) 8 (number lwps ++ statuses lwps))
    ∙ ap (drop (lwpstatus_size * i))
    (drop_at (number lwps) (statuses lwps) 8 (length-word_bytes (length (map lwpstatus_words_of lwps)))) in
    ranged-begins lwpstatus_ranges (lwpstatus_words_of l) _ stands.more refl (lwpstatus-ranged l h)
    (along ∙ stands.place)

pub returns-clause-lstatus_length : goal.returns-clause-lstatus_length
unfolding lstatus_bytes statuses number
returns-clause-lstatus_length c lwps =
    length-append (number lwps) (statuses lwps)
    ∙ omega (
      arith,
      length-word_bytes (length (map lwpstatus_words_of lwps)),
      length-entries lwpstatus_words_of lwpstatus_word_count (λ _. refl) lwps,
    )

pub returns-clause-mapping : goal.returns-clause-mapping
unfolding map_bytes
returns-clause-mapping c xs i x there h =
    let stands = stands_at map_entry_words_of 8 (λ _. refl) xs i x there in
    ranged-begins map_entry_ranges (map_entry_words_of x) _ stands.more refl (map_entry-ranged x h) stands.place

pub returns-clause-map_length : goal.returns-clause-map_length
unfolding map_bytes
returns-clause-map_length c xs = length-entries map_entry_words_of 8 (λ _. refl) xs

pub returns-clause-area : goal.returns-clause-area
unfolding watch_bytes
returns-clause-area c xs i x there h =
    let stands = stands_at watch_entry_words_of 3 (λ _. refl) xs i x there in
    ranged-begins watch_entry_ranges (watch_entry_words_of x) _ stands.more refl (watch_entry-ranged x h) stands.place

pub returns-clause-watch_length : goal.returns-clause-watch_length
unfolding watch_bytes
returns-clause-watch_length c xs = length-entries watch_entry_words_of 3 (λ _. refl) xs

pub returns-clause-descriptor : goal.returns-clause-descriptor
unfolding fds_bytes
returns-clause-descriptor c xs i x there h =
    let stands = stands_at fd_entry_words_of 8 (λ _. refl) xs i x there in
    ranged-begins fd_entry_ranges (fd_entry_words_of x) _ stands.more refl (fd_entry-ranged x h) stands.place

pub returns-clause-fds_length : goal.returns-clause-fds_length
unfolding fds_bytes
returns-clause-fds_length c xs = length-entries fd_entry_words_of 8 (λ _. refl) xs

pub returns-clause-process : goal.returns-clause-process
unfolding list_bytes
returns-clause-process c xs i x there h =
    let stands = stands_at list_entry_words_of 6 (λ _. refl) xs i x there in
    ranged-begins list_entry_ranges (list_entry_words_of x) _ stands.more refl (list_entry-ranged x h) stands.place

pub returns-clause-list_length : goal.returns-clause-list_length
unfolding list_bytes
returns-clause-list_length c xs = length-entries list_entry_words_of 6 (λ _. refl) xs
