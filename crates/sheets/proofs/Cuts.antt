-- Where the first byte c stands, and what is cut off there.
use Rattle.std.proofs.Common.{◌≡◌, ℕ, suc, ◌+◌, ◌-◌, ◌<◌, ◌≤◌, Bool, true, false, cond, eqb, ltb, ◌⊎◌, List, [], ◌∷◌, length, take, drop, sym, refl, ap, ◌∙◌, inl, inr, arith}
use Rattle.std.proofs.lemmas.List.{length-drop, drop-drop, take_all, drop_all, take-take, drop-take, length-take-le}
use Rattle.std.proofs.lemmas.Bool.{lt-ltb, le-ltb, cases_lt}
use Rattle.sheets.specs.Lines.{closed, broken, led, lines, fronted, fields, upto}

-- a field that a space ends
pub fields_step : (t : List ℕ) (n : ℕ) → n ≡ upto 32 t → n < length t → fields t ≡ take n t ∷ fields (drop (n + 1) t)
fields_step [] n e h = absurd (omega arith)
fields_step (b ∷ bs) n e h = go (eqb b 32) e (fields_step bs (upto 32 bs) refl)
  where
    go : (x : Bool) → n ≡ cond x 0 (suc (upto 32 bs))
        → (upto 32 bs < length bs → fields bs ≡ take (upto 32 bs) bs ∷ fields (drop (upto 32 bs + 1) bs))
        → cond x ([] ∷ fields bs) (fronted b (fields bs)) ≡ take n (b ∷ bs) ∷ fields (drop (n + 1) (b ∷ bs))
    go true e rest = ap (λ k. take k (b ∷ bs) ∷ fields (drop (k + 1) (b ∷ bs))) (sym e)
    go false e rest =
        let next : suc (upto 32 bs + 1) ≡ suc (upto 32 bs) + 1 = omega arith in
        ap (fronted b) (rest (omega arith))
        ∙ ap (λ k. (b ∷ take (upto 32 bs) bs) ∷ fields (drop k (b ∷ bs))) next
        ∙ ap (λ k. take k (b ∷ bs) ∷ fields (drop (k + 1) (b ∷ bs))) (sym e)

-- the last field
pub fields_last : (t : List ℕ) → length t ≤ upto 32 t → fields t ≡ t ∷ []
fields_last [] h = refl
fields_last (b ∷ bs) h = go (eqb b 32) h (fields_last bs)
  where
    go : (x : Bool) → suc (length bs) ≤ cond x 0 (suc (upto 32 bs)) → (length bs ≤ upto 32 bs → fields bs ≡ bs ∷ []) → cond x ([] ∷ fields bs) (fronted b (fields bs)) ≡ (b ∷ bs) ∷ []
    go true k rest = absurd (omega arith)
    go false k rest = ap (fronted b) (rest (omega arith))

-- a line that byte 10 ends
pub lines_step : (t : List ℕ) (n : ℕ) → n ≡ upto 10 t → n < length t → lines t ≡ closed (take n t) ∷ lines (drop (n + 1) t)
lines_step [] n e h = absurd (omega arith)
lines_step (b ∷ bs) n e h = go (eqb b 10) e (lines_step bs (upto 10 bs) refl)
  where
    go : (x : Bool) → n ≡ cond x 0 (suc (upto 10 bs))
        → (upto 10 bs < length bs → lines bs ≡ closed (take (upto 10 bs) bs) ∷ lines (drop (upto 10 bs + 1) bs))
        → cond x (closed ([]) ∷ lines bs) (led b (lines bs)) ≡ closed (take n (b ∷ bs)) ∷ lines (drop (n + 1) (b ∷ bs))
    go true e rest = ap (λ k. closed (take k (b ∷ bs)) ∷ lines (drop (k + 1) (b ∷ bs))) (sym e)
    go false e rest =
        let next : suc (upto 10 bs + 1) ≡ suc (upto 10 bs) + 1 = omega arith in
        ap (led b) (rest (omega arith))
        ∙ ap (λ k. closed (b ∷ take (upto 10 bs) bs) ∷ lines (drop k (b ∷ bs))) next
        ∙ ap (λ k. closed (take k (b ∷ bs)) ∷ lines (drop (k + 1) (b ∷ bs))) (sym e)

-- a line that the sheet's end cuts off
pub lines_last : (t : List ℕ) → 0 < length t → length t ≤ upto 10 t → lines t ≡ broken (t) ∷ []
lines_last [] h k = absurd (omega arith)
lines_last (b ∷ []) h k = go (eqb b 10) k
  where
    go : (x : Bool) → 1 ≤ cond x 0 1 → cond x (closed ([]) ∷ []) (broken (b ∷ []) ∷ []) ≡ broken (b ∷ []) ∷ []
    go true k = absurd (omega arith)
    go false k = refl
lines_last (b ∷ d ∷ bs) h k = go (eqb b 10) k (lines_last (d ∷ bs))
  where
    go : (x : Bool) → suc (length (d ∷ bs)) ≤ cond x 0 (suc (upto 10 (d ∷ bs)))
        → (0 < length (d ∷ bs) → length (d ∷ bs) ≤ upto 10 (d ∷ bs) → lines (d ∷ bs) ≡ broken (d ∷ bs) ∷ [])
        → cond x (closed ([]) ∷ lines (d ∷ bs)) (led b (lines (d ∷ bs))) ≡ broken (b ∷ d ∷ bs) ∷ []
    go true k rest = absurd (omega arith)
    go false k rest = ap (led b) (rest (omega arith) (omega arith))

-- the line that begins at a place of a sheet, and where the next one begins
pub line_at : (s : List ℕ) (i n next : ℕ) → i < length s → n ≡ upto 10 (drop i s) → i + n ≤ length s
    → (i + n < length s → next ≡ i + n + 1) → (length s ≤ i + n → next ≡ i + n)
    → lines (drop i s) ≡ record { text = take (i + n - i) (drop i s); ended = ltb (i + n) (length s) } ∷ lines (drop next s)
line_at s i n next h e w there past = go (cases_lt (i + n) (length s))
  where
    long : length (drop i s) ≡ length s - i
    long = length-drop i s

    size : i + n - i ≡ n
    size = omega arith

    go : (i + n < length s) ⊎ (length s ≤ i + n) → lines (drop i s) ≡ record { text = take (i + n - i) (drop i s); ended = ltb (i + n) (length s) } ∷ lines (drop next s)
    go (inl k) =
        lines_step (drop i s) n e (omega (arith, long))
        ∙ ap (λ m. closed (take m (drop i s)) ∷ lines (drop (n + 1) (drop i s))) (sym size)
        ∙ ap (λ b. record { text = take (i + n - i) (drop i s); ended = b } ∷ lines (drop (n + 1) (drop i s))) (sym (lt-ltb _ _ k))
        ∙ ap (λ ls. record { text = take (i + n - i) (drop i s); ended = ltb (i + n) (length s) } ∷ lines ls) (drop-drop (n + 1) i s)
        ∙ ap (λ m. record { text = take (i + n - i) (drop i s); ended = ltb (i + n) (length s) } ∷ lines (drop m s)) (omega (arith, there k))
    go (inr k) =
        lines_last (drop i s) (omega (arith, long)) (omega (arith, long))
        ∙ ap (λ t. broken (t) ∷ []) (sym (take_all (i + n - i) (drop i s) (omega (arith, long))))
        ∙ ap (λ b. record { text = take (i + n - i) (drop i s); ended = b } ∷ []) (sym (le-ltb _ _ k))
        ∙ ap (λ ls. record { text = take (i + n - i) (drop i s); ended = ltb (i + n) (length s) } ∷ lines ls) (sym (drop_all next s (omega (arith, past k))))

-- the field that begins at a place of a line that ends at `end`
module _ (s : List ℕ) (i end n : ℕ) (le : i ≤ end) (e : n ≡ upto 32 (take (end - i) (drop i s))) (inside : end ≤ length s) where
  whole : length (take (end - i) (drop i s)) ≡ end - i
  whole = length-take-le (end - i) (drop i s) (omega (arith, length-drop i s))

  pub field_at : i + n < end → fields (take (end - i) (drop i s)) ≡ take (i + n - i) (drop i s) ∷ fields (take (end - (i + n + 1)) (drop (i + n + 1) s))
  field_at h =
      let t = take (end - i) (drop i s) in
      let m : n + 1 + (end - (i + n + 1)) ≡ end - i = omega arith in
      let o : i + (n + 1) ≡ i + n + 1 = omega arith in
      let z : n ≡ i + n - i = omega arith in
      fields_step t n e (omega (arith, whole))
      ∙ ap (λ f. f ∷ fields (drop (n + 1) t)) (take-take n (end - i) (drop i s) (omega arith))
      ∙ ap (λ k. take k (drop i s) ∷ fields (drop (n + 1) t)) z
      ∙ ap (λ k. take (i + n - i) (drop i s) ∷ fields (drop (n + 1) (take k (drop i s)))) (sym m)
      ∙ ap (λ l. take (i + n - i) (drop i s) ∷ fields l) (drop-take (n + 1) (end - (i + n + 1)) (drop i s))
      ∙ ap (λ l. take (i + n - i) (drop i s) ∷ fields (take (end - (i + n + 1)) l)) (drop-drop (n + 1) i s)
      ∙ ap (λ k. take (i + n - i) (drop i s) ∷ fields (take (end - (i + n + 1)) (drop k s))) o

  pub field_end : end ≤ i + n → n ≤ end - i → fields (take (end - i) (drop i s)) ≡ take (i + n - i) (drop i s) ∷ []
  field_end h k =
      let z : end - i ≡ i + n - i = omega arith in
      fields_last (take (end - i) (drop i s)) (omega (arith, whole))
      ∙ ap (λ m. take m (drop i s) ∷ []) z
