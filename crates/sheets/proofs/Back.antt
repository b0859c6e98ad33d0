-- Rows that are written and read back.
use Rattle.std.proofs.Common.{◌≡◌, ℕ, ◌^◌, ◌<◌, ◌≤◌, true, false, not, ◌||◌, eqb, ◌⊎◌, List, [], ◌∷◌, ◌++◌, map, length, get_or, Some, None, Ok, decimal, sym, refl, ap, ◌∙◌, inl, inr, arith, rules}
use Rattle.std.proofs.lemmas.List.Folds.{flat_map-map}
use Rattle.std.specs.List.{AllByRecursion}
use Rattle.std.specs.Char.{is_ascii_digit}
use Rattle.std.specs.Str.{all_ascii_digits}
use Rattle.std.proofs.lemmas.Str.Parse.{IsNumeralModel, numerals_by_fold}
use Rattle.std.proofs.lemmas.Fmt.{digits_decimal, digits_value-decimal, decimal_digit, decimal_nonempty, first_decimal, length-decimal-le}
use Rattle.std.proofs.lemmas.Bool.{and_parts, and_from, or_left, or_right, lt-ltb, le-leb, eq-eqb, ne_eqb, not_from_false, cases_lt, cond-true, true≢false}
use Rattle.sheets.specs.declared.entry.Join.{Join}
use Rattle.sheets.specs.Lines.{closed}
use Rattle.sheets.specs.Numbers.{value_on, shaped, numeral, at_most, index_of}
use Rattle.sheets.specs.Rows.{join_row, join_names, just_two, last_net}
use Rattle.sheets.specs.Laws.{Without, ended_line, Says, Holdable, join_text, joins_sheet, JoinsBack}
use Rattle.sheets.proofs.Judged.{join_ok}
use Rattle.sheets.proofs.Wholes.{fields_cut, good_read}
use Rattle.sheets.proofs.Ends.{join_ends}

pub own : IsNumeralModel (λ ds. all_ascii_digits ds ≡ true) (value_on 0)
own = numerals_by_fold _ (search rules) value_on (search rules)

first_ok : (n : ℕ) → n < 2 ^ 64 → (eqb (length (decimal n)) 1 || not (eqb (get_or (decimal n) 0 0) 48)) ≡ true
first_ok n h = go (cases_lt n 1)
  where
    go : (n < 1) ⊎ (1 ≤ n) → (eqb (length (decimal n)) 1 || not (eqb (get_or (decimal n) 0 0) 48)) ≡ true
    go (inl k) = or_left _ _ (eq-eqb _ _ (ap length (decimal_digit n (omega arith))))
    go (inr k) = or_right _ _ (not_from_false _ (ne_eqb (get_or (decimal n) 0 0) 48 (λ e. omega (arith, first_decimal n k h))))

pub numeral_decimal : (n : ℕ) → n < 10 ^ 9 → numeral (decimal n) ≡ Some n
numeral_decimal n h =
    let wide : n < 2 ^ 64 = omega arith in
    let some = decimal_nonempty n wide in
    let few = length-decimal-le 9 n (omega arith) h wide in
    let shape : shaped (decimal n) ≡ true = and_from _ _ (and_from _ _ (lt-ltb _ _ some) (le-leb _ _ few)) (first_ok n wide) in
    cond-true _ (Some (value_on 0 (decimal n))) None (and_from _ _ shape (digits_decimal own n wide))
    ∙ ap Some (digits_value-decimal own n wide)

pub index_decimal : (n : ℕ) → n ≤ 4095 → index_of (decimal n) ≡ Some n
index_decimal n h = ap (at_most 4095) (numeral_decimal n (omega arith)) ∙ cond-true _ (Some n) None (le-leb _ _ h)

without_digits : (c : ℕ) → is_ascii_digit c ≡ false → (ds : List ℕ) → all_ascii_digits ds ≡ true → Without c ds
without_digits c no_digit [] e = tt
without_digits c no_digit (d ∷ ds) e =
    let both = and_parts (is_ascii_digit d) (all_ascii_digits ds) e in
    (λ s. true≢false (sym both.0 ∙ ap is_ascii_digit s ∙ no_digit), without_digits c no_digit ds both.1)

pub without_decimal : (c n : ℕ) → is_ascii_digit c ≡ false → n < 2 ^ 64 → Without c (decimal n)
without_decimal c n e h = without_digits c e (decimal n) (digits_decimal own n h)

without_append : (c : ℕ) (xs ys : List ℕ) → Without c xs → Without c ys → Without c (xs ++ ys)
without_append c [] ys v w = w
without_append c (x ∷ xs) ys v w = (v.0, without_append c xs ys v.1 w)

join_read : (before : List Join) (r : Join) → last_net before ≤ r.net → r.net ≤ 4095 → r.part ≤ 4095 → length before < 16384 → join_row before (closed (join_text r)) ≡ Ok r
join_read before r low n v room =
    let a = decimal r.net in
    let b = decimal r.part in
    let cut = fields_cut a b (without_decimal 32 r.net refl (omega arith)) (without_decimal 32 r.part refl (omega arith)) in
    sym (join_ok before (closed (join_text r)) a b r.net r.part (sym (ap just_two cut)) (sym (index_decimal r.net n)) (sym (index_decimal r.part v)) low room)

join_single : (r : Join) → r.net ≤ 4095 → r.part ≤ 4095 → Without 10 (join_text r)
join_single r n v = without_append 10 (decimal r.net) _ (without_decimal 10 r.net refl (omega arith)) ((λ e. omega arith), without_decimal 10 r.part refl (omega arith))

says_held : (before rows : List Join) → Holdable before rows → Says join_row before (map join_text rows) rows
says_held before [] h = tt
says_held before (r ∷ rs) h = (join_read before r h.0 h.1 h.2 h.3, says_held (before ++ r ∷ []) rs h.4)

single_held : (before rows : List Join) → Holdable before rows → AllByRecursion (Without 10) (map join_text rows)
single_held before [] h = tt
single_held before (r ∷ rs) h = (join_single r h.1 h.2, single_held (before ++ r ∷ []) rs h.4)

pub joins_back : Without 10 join_names → JoinsBack
joins_back w file rows h small =
    good_read join_row join_ends join_names w file (joins_sheet rows) rows
    (record { small = small; texts = map join_text rows; single = single_held [] rows h; whole = ap (λ z. ended_line join_names ++ z) (sym (flat_map-map ended_line join_text rows)); says = says_held [] rows h })
