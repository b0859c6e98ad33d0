-- A hit line, read as a sheet's line is.
use Rattle.std.proofs.Common.{◌≡◌, ℕ, ◌<◌, cond, List, [], ◌∷◌, ◌++◌, map, Some, decimal, sym, refl, ap, ◌∙◌, append-nil, arith}
use Rattle.std.specs.List.{flat_map, AllByRecursion}
use Rattle.std.proofs.lemmas.Bool.{ne_eqb}
use Rattle.sheets.specs.Lines.{lines, fields, fronted}
use Rattle.sheets.specs.Numbers.{numeral}
use Rattle.sheets.specs.Laws.{Without}
use Rattle.sheets.proofs.Back.{numeral_decimal, without_decimal}
use Rattle.sheets.proofs.Wholes.{lines_cut}
use Rattle.lines.specs.Written.{hit_line, spaced}
use Rattle.lines.specs.Back.{HitBack}

without_append : (c : ℕ) (xs ys : List ℕ) → Without c xs → Without c ys → Without c (xs ++ ys)
without_append c [] ys v w = w
without_append c (x ∷ xs) ys v w = (v.0, without_append c xs ys v.1 w)

-- a field, and what follows it
field_then : (a rest : List ℕ) → Without 32 a → fields (a ++ 32 ∷ rest) ≡ a ∷ fields rest
field_then [] rest w = refl
field_then (c ∷ cs) rest w =
    ap (λ x. cond x ([] ∷ fields (cs ++ 32 ∷ rest)) (fronted c (fields (cs ++ 32 ∷ rest)))) (ne_eqb c 32 w.0)
    ∙ ap (fronted c) (field_then cs rest w.1)

field_one : (b : List ℕ) → Without 32 b → fields b ≡ b ∷ []
field_one [] w = refl
field_one (c ∷ cs) w = ap (λ x. cond x ([] ∷ fields cs) (fronted c (fields cs))) (ne_eqb c 32 w.0) ∙ ap (fronted c) (field_one cs w.1)

fields_spaced : (f : List ℕ) (fs : List (List ℕ)) → AllByRecursion (Without 32) (f ∷ fs) → fields (spaced (f ∷ fs)) ≡ f ∷ fs
fields_spaced f [] w = ap fields (append-nil f) ∙ field_one f w.0
fields_spaced f (g ∷ gs) w = field_then f (spaced (g ∷ gs)) w.0 ∙ ap (λ z. f ∷ z) (fields_spaced g gs w.1)

written : (ns : List ℕ) → AllByRecursion (λ n. n < 65536) ns → AllByRecursion (Without 32) (map decimal ns)
written [] h = tt
written (n ∷ ns) h = (without_decimal 32 n refl (let k = h.0 in omega arith), written ns h.1)

single : (ns : List ℕ) → AllByRecursion (λ n. n < 65536) ns → Without 10 (flat_map (λ g. 32 ∷ g) (map decimal ns))
single [] h = tt
single (n ∷ ns) h = ((λ e. omega arith), without_append 10 (decimal n) _ (without_decimal 10 n refl (let k = h.0 in omega arith)) (single ns h.1))

numbers : (ns : List ℕ) → AllByRecursion (λ n. n < 65536) ns → map numeral (map decimal ns) ≡ map Some ns
numbers [] h = refl
numbers (n ∷ ns) h = ap (λ z. z ∷ map numeral (map decimal ns)) (numeral_decimal n (let k = h.0 in omega arith)) ∙ ap (λ z. Some n ∷ z) (numbers ns h.1)

pub hit_back : HitBack
hit_back [] some h = absurd (omega arith)
hit_back (n ∷ ns) some h =
    let line = without_append 10 (decimal n) _ (without_decimal 10 n refl (let k = h.0 in omega arith)) (single ns h.1) in (
      ap lines (sym (append-nil (hit_line (n ∷ ns)))) ∙ lines_cut (spaced (map decimal (n ∷ ns))) [] line,
      ap (map numeral) (fields_spaced (decimal n) (map decimal ns) (written (n ∷ ns) h)) ∙ numbers (n ∷ ns) h,
    )
