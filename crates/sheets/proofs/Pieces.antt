-- The ends of the nets, and the pieces of the joins that they cut.
use Rattle.std.proofs.Common.{◌≡◌, ℕ, zero, suc, ◌+◌, ◌-◌, ◌<◌, ◌≤◌, Bool, true, false, cond, ltb, leb, ◌⊎◌, List, [], ◌∷◌, ◌++◌, map, length, get_or, take, drop, sym, refl, ap, ◌∙◌, inl, inr, append_assoc, append-nil, arith}
use Rattle.std.specs.List.{AllByRecursion}
use Rattle.std.proofs.lemmas.List.Sums.{prefix_len-le-length}
use Rattle.std.proofs.lemmas.List.{take_rest, take-map, drop-map, length-map, length-append, get_or_push}
use Rattle.std.proofs.lemmas.List.FromFn.{get_or-map-range_with_len}
use Rattle.std.proofs.ByRecursion.{All-weaker}
use Rattle.std.proofs.lemmas.Bool.{cases_lt, cases_order, lt-ltb, le-ltb, le-leb, lt-leb, leb-true, leb-false, eq-eqb, ne_eqb}
use Rattle.sheets.specs.declared.entry.Join.{Join}
use Rattle.sheets.specs.Rows.{last_net}
use Rattle.sheets.specs.Laws.{Holdable}
use Rattle.sheets.specs.Nets.{nets_of, front, ends_of, part_of, parts_of, Rising, rows_in, NetsCut, NetsWhole, ReadsRising}
use Rattle.sheets.proofs.Only.{joins_only}

-- ## The fronts

-- a place in the front: what is left of the front begins there
pub front_from : (f : ℕ) (rows : List Join) (i : ℕ) → i ≤ front f rows → front f rows ≡ i + front f (drop i rows)
front_from f rows zero h = omega arith
front_from f [] (suc i) h = absurd (omega arith)
front_from f (r ∷ rs) (suc i) h = go (leb r.net f) h (front_from f rs i)
  where
    go : (b : Bool) → suc i ≤ cond b (1 + front f rs) 0 → (i ≤ front f rs → front f rs ≡ i + front f (drop i rs)) → cond b (1 + front f rs) 0 ≡ suc i + front f (drop i rs)
    go true k rest = let e = rest (omega arith) in omega arith
    go false k rest = absurd (omega arith)

pub front_rest : (f : ℕ) (rows : List Join) (i n : ℕ) → i ≤ front f rows → n ≡ front f (take (length rows - i) (drop i rows)) → front f rows ≡ i + n
front_rest f rows i n h e =
    let from = front_from f rows i h in
    omega (arith, from, e, ap (front f) (take_rest rows i))

pub front_within : (f : ℕ) (rows : List Join) → front f rows ≤ length rows
front_within f rows = prefix_len-le-length (λ r. leb r.net f) rows

pub front_more : (f g : ℕ) (rows : List Join) → f ≤ g → front f rows ≤ front g rows
front_more f g [] h = omega arith
front_more f g (r ∷ rs) h = go (leb r.net f) (leb r.net g) refl refl (front_more f g rs h)
  where
    go : (a b : Bool) → leb r.net f ≡ a → leb r.net g ≡ b → front f rs ≤ front g rs → cond a (1 + front f rs) 0 ≤ cond b (1 + front g rs) 0
    go true true p q k = omega arith
    go true false p q k = let m = leb-true _ _ p in let n = leb-false _ _ q in absurd (omega arith)
    go false b p q k = omega arith

-- ## Cutting

-- how long the front is whose nets are below f
abbrev under : ℕ → List Join → ℕ
under f [] = 0
under f (r ∷ rs) = cond (ltb r.net f) (suc (under f rs)) 0

same_test : (n f : ℕ) → leb n f ≡ ltb n (suc f)
same_test n f = go (cases_lt f n)
  where
    go : (f < n) ⊎ (n ≤ f) → leb n f ≡ ltb n (suc f)
    go (inl h) = lt-leb n f h ∙ sym (le-ltb n (suc f) (omega arith))
    go (inr h) = le-leb n f h ∙ sym (lt-ltb n (suc f) (omega arith))

front_under : (f : ℕ) (rows : List Join) → front f rows ≡ under (suc f) rows
front_under f [] = refl
front_under f (r ∷ rs) =
    let more : 1 + front f rs ≡ suc (under (suc f) rs) = omega (arith, front_under f rs) in
    ap (λ b. cond b (1 + front f rs) 0) (same_test r.net f) ∙ ap (λ n. cond (ltb r.net (suc f)) n 0) more

under_none : (f : ℕ) (rows : List Join) → AllByRecursion (λ q. f ≤ q.net) rows → under f rows ≡ 0
under_none f [] h = refl
under_none f (r ∷ rs) h = ap (λ b. cond b (suc (under f rs)) 0) (le-ltb r.net f h.0)

under_all : (f : ℕ) (rows : List Join) → AllByRecursion (λ q. q.net < f) rows → under f rows ≡ length rows
under_all f [] h = refl
under_all f (r ∷ rs) h = ap (λ b. cond b (suc (under f rs)) 0) (lt-ltb r.net f h.0) ∙ ap suc (under_all f rs h.1)

all_zero : (rows : List Join) → AllByRecursion (λ q. 0 ≤ q.net) rows
all_zero [] = tt
all_zero (r ∷ rs) = (omega arith, all_zero rs)

kept_none : (f : ℕ) (rows : List Join) → AllByRecursion (λ q. f < q.net) rows → rows_in f rows ≡ []
kept_none f [] h = refl
kept_none f (r ∷ rs) h =
    let over : f < r.net = h.0 in
    ap (λ b. cond b (r ∷ rows_in f rs) (rows_in f rs)) (ne_eqb r.net f (λ e. omega arith)) ∙ kept_none f rs h.1

-- the rows of net f stand between the rows below f and the rows up to f
cut_rows : (f : ℕ) (rows : List Join) → Rising rows → take (under (suc f) rows - under f rows) (drop (under f rows) rows) ≡ rows_in f rows
cut_rows f [] h = refl
cut_rows f (r ∷ rs) h = go (cases_order r.net f) (cut_rows f rs h.1)
  where
    -- both fronts, once the tests of the first row are known
    opened : (a b : Bool) → ltb r.net (suc f) ≡ a → ltb r.net f ≡ b
        → take (under (suc f) (r ∷ rs) - under f (r ∷ rs)) (drop (under f (r ∷ rs)) (r ∷ rs)) ≡ take (cond a (suc (under (suc f) rs)) 0 - cond b (suc (under f rs)) 0) (drop (cond b (suc (under f rs)) 0) (r ∷ rs))
    opened a b p q =
        ap (λ x. take (cond x (suc (under (suc f) rs)) 0 - under f (r ∷ rs)) (drop (under f (r ∷ rs)) (r ∷ rs))) p
        ∙ ap (λ y. take (cond a (suc (under (suc f) rs)) 0 - cond y (suc (under f rs)) 0) (drop (cond y (suc (under f rs)) 0) (r ∷ rs))) q

    go : (r.net ≡ f) ⊎ ((r.net < f) ⊎ (f < r.net)) → take (under (suc f) rs - under f rs) (drop (under f rs) rs) ≡ rows_in f rs
        → take (under (suc f) (r ∷ rs) - under f (r ∷ rs)) (drop (under f (r ∷ rs)) (r ∷ rs)) ≡ rows_in f (r ∷ rs)
    go (inl e) rest =
        let none : under f rs ≡ 0 = under_none f rs (All-weaker (λ q. r.net ≤ q.net) (λ q. f ≤ q.net) (λ q k. omega arith) rs h.0) in
        let one : suc (under (suc f) rs) - 0 ≡ suc (under (suc f) rs) = omega arith in
        let same : under (suc f) rs ≡ under (suc f) rs - 0 = omega arith in
        opened true false (lt-ltb r.net (suc f) (omega arith)) (le-ltb r.net f (omega arith))
        ∙ ap (λ n. take n (r ∷ rs)) one
        ∙ ap (λ n. r ∷ take n rs) same
        ∙ ap (λ n. r ∷ take (under (suc f) rs - n) (drop n rs)) (sym none)
        ∙ ap (λ z. r ∷ z) rest
        ∙ ap (λ b. cond b (r ∷ rows_in f rs) (rows_in f rs)) (sym (eq-eqb r.net f e))
    go (inr (inl l)) rest =
        let same : suc (under (suc f) rs) - suc (under f rs) ≡ under (suc f) rs - under f rs = omega arith in
        opened true true (lt-ltb r.net (suc f) (omega arith)) (lt-ltb r.net f l)
        ∙ ap (λ n. take n (drop (under f rs) rs)) same
        ∙ rest
        ∙ ap (λ b. cond b (r ∷ rows_in f rs) (rows_in f rs)) (sym (ne_eqb r.net f (λ e. omega arith)))
    go (inr (inr l)) rest =
        opened false false (le-ltb r.net (suc f) (omega arith)) (le-ltb r.net f (omega arith))
        ∙ sym (kept_none f (r ∷ rs) (l, All-weaker (λ q. r.net ≤ q.net) (λ q. f < q.net) (λ q k. omega arith) rs h.0))

end_at : (rows : List Join) (f : ℕ) → f < nets_of rows → get_or (ends_of rows) f 0 ≡ front f rows
end_at rows f h = get_or-map-range_with_len (λ k. front k rows) 0 (nets_of rows) f f 0 h (omega arith)

start_at : (rows : List Join) (f : ℕ) → f ≤ nets_of rows → get_or (0 ∷ ends_of rows) f 0 ≡ under f rows
start_at rows zero h = sym (under_none 0 rows (all_zero rows))
start_at rows (suc g) h = end_at rows g (omega arith) ∙ front_under g rows

pub nets_cut : NetsCut
nets_cut rows rising f h =
    ap (λ e. take (e - get_or (0 ∷ ends_of rows) f 0) (drop (get_or (0 ∷ ends_of rows) f 0) (parts_of rows))) (end_at rows f h ∙ front_under f rows)
    ∙ ap (λ s. take (under (suc f) rows - s) (drop s (parts_of rows))) (start_at rows f (omega arith))
    ∙ ap (take (under (suc f) rows - under f rows)) (drop-map part_of (under f rows) rows)
    ∙ take-map part_of (under (suc f) rows - under f rows) (drop (under f rows) rows)
    ∙ ap (map part_of) (cut_rows f rows rising)

last_cons : (r s : Join) (rs : List Join) → last_net (r ∷ s ∷ rs) ≡ last_net (s ∷ rs)
last_cons r s rs =
    let k : suc (suc (length rs)) - 1 ≡ suc (suc (length rs) - 1) = omega arith in
    ap (λ n. (get_or (r ∷ s ∷ rs) n (record { net = 0; part = 0 })).net) k

most : (r : Join) (rs : List Join) → Rising (r ∷ rs) → AllByRecursion (λ q. q.net ≤ last_net (r ∷ rs)) (r ∷ rs)
most r [] h = (omega arith, tt)
most r (s ∷ rs) h =
    let rest = most s rs h.1 in
    let e = last_cons r s rs in
    let first : r.net ≤ s.net = h.0.0 in
    let second : s.net ≤ last_net (s ∷ rs) = rest.0 in
    (omega arith, All-weaker (λ q. q.net ≤ last_net (s ∷ rs)) (λ q. q.net ≤ last_net (r ∷ s ∷ rs)) (λ q k. omega arith) (s ∷ rs) rest)

closes : (rows : List Join) → Rising rows → get_or (0 ∷ ends_of rows) (nets_of rows) 0 ≡ length (parts_of rows)
closes [] h = refl
closes (r ∷ rs) h =
    start_at (r ∷ rs) (nets_of (r ∷ rs)) (omega arith)
    ∙ under_all (nets_of (r ∷ rs)) (r ∷ rs) (All-weaker (λ q. q.net ≤ last_net (r ∷ rs)) (λ q. q.net < last_net (r ∷ rs) + 1) (λ q k. omega arith) (r ∷ rs) (most r rs h))
    ∙ sym (length-map (r ∷ rs) part_of)

rises : (rows : List Join) (f : ℕ) → f < nets_of rows → get_or (0 ∷ ends_of rows) f 0 ≤ get_or (ends_of rows) f 0
rises rows zero h = omega arith
rises rows (suc g) h =
    let a = end_at rows g (omega arith) in
    let b = end_at rows (suc g) h in
    let m = front_more g (suc g) rows (omega arith) in
    omega arith

pub nets_whole : NetsWhole
nets_whole rows h = (rises rows, closes rows h)

-- ## The rows of a sheet that is read

last_push : (before : List Join) (r : Join) → last_net (before ++ r ∷ []) ≡ r.net
last_push before r = ap (λ (q : Join). q.net) (get_or_push before r (record { net = 0; part = 0 }) (length (before ++ r ∷ []) - 1) (omega (arith, length-append before (r ∷ []))))

above : (before rows : List Join) (m : ℕ) → m ≤ last_net before → Holdable before rows → AllByRecursion (λ q. m ≤ q.net) rows
above before [] m k h = tt
above before (r ∷ rs) m k h =
    let low : last_net before ≤ r.net = h.0 in
    let e = last_push before r in
    (omega arith, above (before ++ r ∷ []) rs m (omega arith) h.4)

rising : (before rows : List Join) → Holdable before rows → Rising rows
rising before [] h = tt
rising before (r ∷ rs) h =
    let e = last_push before r in
    (above (before ++ r ∷ []) rs r.net (omega arith) h.4, rising (before ++ r ∷ []) rs h.4)

few : (before rows : List Join) → length before ≤ 16384 → Holdable before rows → length before + length rows ≤ 16384
few before [] k h = omega arith
few before (r ∷ rs) k h =
    let room : length before < 16384 = h.3 in
    let e = length-append before (r ∷ []) in
    let rest = few (before ++ r ∷ []) rs (omega arith) h.4 in
    omega arith

low : (before rows : List Join) → last_net before ≤ 4095 → Holdable before rows → last_net (before ++ rows) ≤ 4095
low before [] k h = let e = ap last_net (append-nil before) in omega arith
low before (r ∷ rs) k h =
    let e = last_push before r in
    let net : r.net ≤ 4095 = h.1 in
    let rest = low (before ++ r ∷ []) rs (omega arith) h.4 in
    let same = ap last_net (append_assoc before (r ∷ []) rs) in
    omega arith

nets_few : (rows : List Join) → last_net rows ≤ 4095 → nets_of rows ≤ 4096
nets_few [] h = omega arith
nets_few (r ∷ rs) h = omega arith

pub reads_rising : ReadsRising
reads_rising file bytes rows e =
    let h = (joins_only file bytes rows e).1 in
    let n = few [] rows (omega arith) h in
    (rising [] rows h, nets_few rows (low [] rows (omega arith) h), omega arith)
