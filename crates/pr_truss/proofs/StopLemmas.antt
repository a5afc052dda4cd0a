-- The lwps of a record, read one after another.
use Rattle.std.proofs.Common.{◌≡◌, ℕ, suc, ◌+◌, ◌-◌, ◌<◌, ◌≤◌, true, false, cond, eqb, eq-eqb, List, [], ◌∷◌, ◌++◌, length, take, drop, Option, Some, None, option_map, ap, refl, sym, subst, ◌∙◌, arith}
use Rattle.std.specs.List.{filter, slice_get}
use Rattle.std.specs.Option.{option_and_then, unwrap_or}
use Rattle.std.proofs.lemmas.Bool.{le-ltb}
use Rattle.std.proofs.lemmas.List.{append_assoc, append-nil, length-append, length-drop, take_all}
use Rattle.std.proofs.lemmas.List.Elements.{filter-append}
use Rattle.pr_num.specs.Records.{lwpstatus_size}
use Rattle.pr_codec.specs.Words.{word_at}
use Rattle.pr_rec.specs.declared.lwps.LwpStatus.{LwpStatus}
use Rattle.pr_truss.specs.Records.{lwp_in, lwps_in, lstatus_lwps, is_on_event, noted, Sees}
use Rattle.pr_truss.specs.declared.records.Stops.{Stops}
use Rattle.pr_num.proofs.NumberLemmas.{one_left}

-- lwps that were read, in front of more
abbrev pub after_seen : List LwpStatus → Option (List LwpStatus) → Option (List LwpStatus)
after_seen seen more = option_map (λ ls. seen ++ ls) more

-- ---- one lwp more

longer : (seen : List LwpStatus) (l : LwpStatus) (more : Option (List LwpStatus))
    → after_seen seen (option_map (λ ls. l ∷ ls) more) ≡ after_seen (seen ++ l ∷ []) more
longer seen l None = refl
longer seen l (Some ls) = ap Some (sym (append_assoc seen (l ∷ []) ls))

lwps_in-next : (m : ℕ) (rest : List ℕ) (l : LwpStatus) → lwp_in rest ≡ Some l
    → lwps_in (suc m) rest ≡ option_map (λ ls. l ∷ ls) (lwps_in m (drop lwpstatus_size rest))
unfolding lwps_in
lwps_in-next m rest l is =
    ap (λ found.
    option_and_then (λ lwp. option_map (λ more. lwp ∷ more) (lwps_in m (drop lwpstatus_size rest))) found) is

lwps_in-none : (m : ℕ) (rest : List ℕ) → lwp_in rest ≡ None → lwps_in (suc m) rest ≡ None
unfolding lwps_in
lwps_in-none m rest is =
    ap (λ found.
    option_and_then (λ lwp. option_map (λ more. lwp ∷ more) (lwps_in m (drop lwpstatus_size rest))) found) is

lwps_in-end : (rest : List ℕ) → length rest ≡ 0 → lwps_in 0 rest ≡ Some []
unfolding lwps_in
lwps_in-end rest empty = ap (λ b. cond b (Some []) None) (eq-eqb (length rest) 0 empty)

lwps_in-past : (rest : List ℕ) → eqb (length rest) 0 ≡ false → lwps_in 0 rest ≡ None
unfolding lwps_in
lwps_in-past rest more = ap (λ b. cond b (Some []) None) more

-- ---- how far the reading has come

-- Of n lwps i were read, and `rest` is left to be read; `whole` is what all of them give. Of those that were read, so
-- many stand on events.
pub record IsSeen (n i : ℕ) (whole : Option (List LwpStatus)) (rest : List ℕ) (stops : Stops) : Type 0 where
  pub seen : List LwpStatus
  pub so_far : whole ≡ after_seen seen (lwps_in (n - i) rest)
  pub count : stops.count ≡ length (filter is_on_event seen)
  pub first : stops.first ≡ slice_get (filter is_on_event seen) 0
  pub small : stops.count ≤ i

nothing_before : (more : Option (List LwpStatus)) → more ≡ after_seen [] more
nothing_before None = refl
nothing_before (Some ls) = refl

less_nothing : (n : ℕ) → n ≡ n - 0
less_nothing n = omega arith

lstatus-is : (bytes : List ℕ) → 8 ≤ length bytes → lstatus_lwps bytes ≡ lwps_in (word_at bytes 0) (drop 8 bytes)
unfolding lstatus_lwps
lstatus-is bytes enough = ap (λ b. cond b None (lwps_in (word_at bytes 0) (drop 8 bytes))) (le-ltb _ _ enough)

pub seen_first : (bytes rest : List ℕ) (n : ℕ) → 8 ≤ length bytes → n ≡ word_at bytes 0 → rest ≡ drop 8 bytes
    → IsSeen n 0 (lstatus_lwps bytes) rest (record { count = 0; first = None })
seen_first bytes rest n enough n_is rest_is = record {
  seen = [];
  so_far =
      lstatus-is bytes enough ∙ ap (λ m. lwps_in m (drop 8 bytes)) (sym n_is) ∙ ap (lwps_in n) (sym rest_is)
      ∙ nothing_before (lwps_in n rest) ∙ ap (λ m. after_seen [] (lwps_in m rest)) (less_nothing n);
  count = refl;
  first = refl;
  small = omega arith;
}

so_far-more : (n i : ℕ) (whole : Option (List LwpStatus)) (seen : List LwpStatus) (rest later : List ℕ) (l : LwpStatus)
    → i < n → lwp_in rest ≡ Some l → later ≡ drop lwpstatus_size rest → whole ≡ after_seen seen (lwps_in (n - i) rest)
    → whole ≡ after_seen (seen ++ l ∷ []) (lwps_in (n - (i + 1)) later)
so_far-more n i whole seen rest later l lt is later_is so_far =
    so_far ∙ ap (λ m. after_seen seen (lwps_in m rest)) (one_left n i lt)
    ∙ ap (after_seen seen) (lwps_in-next (n - (i + 1)) rest l is)
    ∙ longer seen l (lwps_in (n - (i + 1)) (drop lwpstatus_size rest))
    ∙ ap (λ bytes. after_seen (seen ++ l ∷ []) (lwps_in (n - (i + 1)) bytes)) (sym later_is)

first_of-more : (xs : List LwpStatus) (x : LwpStatus) → slice_get (xs ++ x ∷ []) 0 ≡ Some (unwrap_or (slice_get xs 0) x)
first_of-more [] x = refl
first_of-more (y ∷ ys) x = refl

filter-on : (seen : List LwpStatus) (l : LwpStatus) → is_on_event l ≡ true
    → filter is_on_event (seen ++ l ∷ []) ≡ filter is_on_event seen ++ l ∷ []
filter-on seen l on =
    filter-append is_on_event seen (l ∷ []) ∙ ap (λ b. filter is_on_event seen ++ cond b (l ∷ []) []) on

filter-off : (seen : List LwpStatus) (l : LwpStatus) → is_on_event l ≡ false
    → filter is_on_event (seen ++ l ∷ []) ≡ filter is_on_event seen
filter-off seen l off =
    filter-append is_on_event seen (l ∷ []) ∙ ap (λ b. filter is_on_event seen ++ cond b (l ∷ []) []) off ∙ append-nil _

seen_on : (n i : ℕ) (whole : Option (List LwpStatus)) (rest later : List ℕ) (stops : Stops) (l : LwpStatus)
    → IsSeen n i whole rest stops → i < n → lwp_in rest ≡ Some l → is_on_event l ≡ true
    → later ≡ drop lwpstatus_size rest
    → IsSeen n (i + 1) whole later (record { count = stops.count + 1; first = Some (unwrap_or stops.first l) })
seen_on n i whole rest later stops l h lt is on later_is = record {
  seen = h.seen ++ l ∷ [];
  so_far = so_far-more n i whole h.seen rest later l lt is later_is h.so_far;
  count = ap (λ m. m + 1) h.count
      ∙ sym (ap length (filter-on h.seen l on) ∙ length-append (filter is_on_event h.seen) (l ∷ []));
  first = ap (λ f. Some (unwrap_or f l)) h.first
      ∙ sym (ap (λ xs. slice_get xs 0) (filter-on h.seen l on) ∙ first_of-more (filter is_on_event h.seen) l);
  small = omega (arith, h.small);
}

seen_off : (n i : ℕ) (whole : Option (List LwpStatus)) (rest later : List ℕ) (stops : Stops) (l : LwpStatus)
    → IsSeen n i whole rest stops → i < n → lwp_in rest ≡ Some l → is_on_event l ≡ false
    → later ≡ drop lwpstatus_size rest → IsSeen n (i + 1) whole later stops
seen_off n i whole rest later stops l h lt is off later_is = record {
  seen = h.seen ++ l ∷ [];
  so_far = so_far-more n i whole h.seen rest later l lt is later_is h.so_far;
  count = h.count ∙ sym (ap length (filter-off h.seen l off));
  first = h.first ∙ sym (ap (λ xs. slice_get xs 0) (filter-off h.seen l off));
  small = omega (arith, h.small);
}

pub seen_more : (n i : ℕ) (whole : Option (List LwpStatus)) (rest later : List ℕ) (stops : Stops) (l : LwpStatus)
    → IsSeen n i whole rest stops → i < n → lwp_in rest ≡ Some l → later ≡ drop lwpstatus_size rest
    → IsSeen n (i + 1) whole later (noted stops l)
seen_more n i whole rest later stops l h lt is later_is =
    elim (is_on_event l)
    as (λ b. is_on_event l ≡ b
    → IsSeen n (i + 1) whole later
    (cond b (record { count = stops.count + 1; first = Some (unwrap_or stops.first l) }) stops)) [
      | true ↦ λ on. seen_on n i whole rest later stops l h lt is on later_is
      | false ↦ λ off. seen_off n i whole rest later stops l h lt is off later_is
    ] refl

-- all that is left from a place on
pub left_from : (k : ℕ) (xs : List ℕ) → take (length xs - k) (drop k xs) ≡ drop k xs
left_from k xs = take_all (length xs - k) (drop k xs) (omega (arith, length-drop k xs))

-- ---- the end

sees-none : (r : Option Stops) (whole : Option (List LwpStatus)) → r ≡ None → whole ≡ None → Sees r whole
sees-none r whole r_is is = subst (λ o. Sees o whole) (sym r_is) (subst (λ w. Sees None w) (sym is) tt)

pub seen_none : (n i : ℕ) (whole : Option (List LwpStatus)) (rest : List ℕ) (stops : Stops) (r : Option Stops)
    → IsSeen n i whole rest stops → i < n → lwp_in rest ≡ None → r ≡ None → Sees r whole
seen_none n i whole rest stops r h lt is r_is =
    sees-none r whole r_is
    (h.so_far ∙ ap (λ m. after_seen h.seen (lwps_in m rest)) (one_left n i lt)
    ∙ ap (after_seen h.seen) (lwps_in-none (n - (i + 1)) rest is))

at_end : (n i : ℕ) → n ≤ i → n - i ≡ 0
at_end n i le = omega arith

pub seen_past : (n i : ℕ) (whole : Option (List LwpStatus)) (rest : List ℕ) (stops : Stops)
    → IsSeen n i whole rest stops → n ≤ i → eqb (length rest) 0 ≡ false → Sees None whole
seen_past n i whole rest stops h le more =
    sees-none None whole refl
    (h.so_far ∙ ap (λ m. after_seen h.seen (lwps_in m rest)) (at_end n i le)
    ∙ ap (after_seen h.seen) (lwps_in-past rest more))

pub seen_all : (n i : ℕ) (whole : Option (List LwpStatus)) (rest : List ℕ) (stops : Stops) → IsSeen n i whole rest stops
    → n ≤ i → length rest ≡ 0 → Sees (Some stops) whole
seen_all n i whole rest stops h le empty =
    subst (λ w. Sees (Some stops) w)
    (sym (h.so_far ∙ ap (λ m. after_seen h.seen (lwps_in m rest)) (at_end n i le)
    ∙ ap (after_seen h.seen) (lwps_in-end rest empty) ∙ ap Some (append-nil h.seen)))
    (h.count, h.first)
