-- Lines and fields are cut without loss, and the sheets that are read are the good ones.
use Rattle.std.proofs.Common.{◌≡◌, ℕ, ◌+◌, Bool, true, false, cond, ◌&&◌, eqb, ltb, List, [], ◌∷◌, ◌++◌, map, length, Ok, Err, Result, sym, refl, ap, ◌∙◌, subst, append_assoc, append-nil, eqb-true}
use borrow.Author.Tests.{eqb-false}
use Rattle.std.proofs.lemmas.Bool.{ne_eqb, le-ltb, ltb-false, and_parts}
use Rattle.std.proofs.lemmas.Slice.Eq.{bytes_eq-Decides}
use Rattle.std.proofs.lemmas.List.Folds.{flat_map-map}
use Rattle.std.specs.List.{flat_map, AllByRecursion}
use Rattle.std.specs.Str.{bytes_eq}
use Rattle.circuit.specs.declared.refusal.Refusal.{Refusal}
use Rattle.sheets.specs.declared.fault.File.{File}
use Rattle.sheets.specs.Lines.{Line, closed, lines, led, fields, fronted}
use Rattle.sheets.specs.Sheets.{fault_at, then_row, rows_on, sheet_lines, sheet_of}
use Rattle.sheets.specs.Laws.{Without, shown, ended_line, Says, Good, LinesWhole, LinesCut, FieldsCut}
use Rattle.circuit.specs.declared.refusal.Reason.TheVariants.{SheetSize, NamesLine}

shown_led : (b : ℕ) (ls : List Line) → flat_map shown (led b ls) ≡ b ∷ flat_map shown ls
shown_led b [] = refl
shown_led b (l ∷ ls) = refl

without_led : (b : ℕ) (ls : List Line) → (b ≡ 10 → ⊥) → AllByRecursion (λ l. Without 10 l.text) ls → AllByRecursion (λ l. Without 10 l.text) (led b ls)
without_led b [] n h = ((n, tt), tt)
without_led b (l ∷ ls) n h = ((n, h.0), h.1)

pub lines_whole : LinesWhole
lines_whole [] = (refl, tt)
lines_whole (b ∷ bs) = go (eqb b 10) refl (lines_whole bs)
  where
    go : (x : Bool) → eqb b 10 ≡ x → (flat_map shown (lines bs) ≡ bs) × AllByRecursion (λ l. Without 10 l.text) (lines bs)
        → (flat_map shown (cond x (closed [] ∷ lines bs) (led b (lines bs))) ≡ b ∷ bs) × AllByRecursion (λ l. Without 10 l.text) (cond x (closed [] ∷ lines bs) (led b (lines bs)))
    go true e h = (ap (λ k. k ∷ flat_map shown (lines bs)) (sym (eqb-true b 10 e)) ∙ ap (λ z. b ∷ z) h.0, (tt, h.1))
    go false e h = (shown_led b (lines bs) ∙ ap (λ z. b ∷ z) h.0, without_led b (lines bs) (eqb-false b 10 e) h.1)

pub lines_cut : LinesCut
lines_cut [] rest w = refl
lines_cut (b ∷ bs) rest w =
    ap (λ x. cond x (closed [] ∷ lines (ended_line bs ++ rest)) (led b (lines (ended_line bs ++ rest)))) (ne_eqb b 10 w.0)
    ∙ ap (led b) (lines_cut bs rest w.1)

field_one : (b : List ℕ) → Without 32 b → fields b ≡ b ∷ []
field_one [] w = refl
field_one (c ∷ cs) w = ap (λ x. cond x ([] ∷ fields cs) (fronted c (fields cs))) (ne_eqb c 32 w.0) ∙ ap (fronted c) (field_one cs w.1)

pub fields_cut : FieldsCut
fields_cut [] b v w = ap (λ fs. [] ∷ fs) (field_one b w)
fields_cut (c ∷ cs) b v w =
    ap (λ x. cond x ([] ∷ fields (cs ++ 32 ∷ b)) (fronted c (fields (cs ++ 32 ∷ b)))) (ne_eqb c 32 v.0)
    ∙ ap (fronted c) (fields_cut cs b v.1 w)

lines_texts : (ts : List (List ℕ)) → AllByRecursion (Without 10) ts → lines (flat_map ended_line ts) ≡ map closed ts
lines_texts [] w = refl
lines_texts (t ∷ ts) w = lines_cut t (flat_map ended_line ts) w.0 ∙ ap (λ ls. closed t ∷ ls) (lines_texts ts w.1)

shown_texts : (ts : List (List ℕ)) → flat_map shown (map closed ts) ≡ flat_map ended_line ts
shown_texts ts = flat_map-map shown closed ts

without_texts : (ts : List (List ℕ)) → AllByRecursion (λ l. Without 10 l.text) (map closed ts) → AllByRecursion (Without 10) ts
without_texts [] w = tt
without_texts (t ∷ ts) w = (w.0, without_texts ts w.1)

module _ {R : Type 0} (judged : List R → Line → Result R Refusal) (ends : (before : List R) (l : Line) (r : R) → judged before l ≡ Ok r → l.ended ≡ true) where
  -- what was read, and from which texts
  record Found (before : List R) (ls : List Line) (all : List R) : Type 0 where
    texts : List (List ℕ)
    rows : List R
    from : ls ≡ map closed texts
    sum : all ≡ before ++ rows
    says : Says judged before texts rows

  found : (file : File) (before : List R) (ls : List Line) (all : List R) → rows_on judged file before ls ≡ Ok all → Found before ls all
  found file before [] all e =
      let same : all ≡ before = cc in
      record { texts = []; rows = []; from = refl; sum = same ∙ sym (append-nil before); says = tt }
  found file before (l ∷ ls) all e = go (judged before l) refl e (λ r k. found file (before ++ r ∷ []) ls all k)
    where
      go : (x : Result R Refusal) → judged before l ≡ x → then_row file (length before + 2) x (λ r. rows_on judged file (before ++ r ∷ []) ls) ≡ Ok all
          → ((r : R) → rows_on judged file (before ++ r ∷ []) ls ≡ Ok all → Found (before ++ r ∷ []) ls all) → Found before (l ∷ ls) all
      go (Ok r) q k rest =
          let f = rest r k in
          let is : l ≡ closed l.text = ap (λ b. record { text = l.text; ended = b }) (ends before l r q) in
          record {
            texts = l.text ∷ f.texts;
            rows = r ∷ f.rows;
            from = ap (λ z. z ∷ ls) is ∙ ap (λ zs. closed l.text ∷ zs) f.from;
            sum = f.sum ∙ append_assoc before (r ∷ []) f.rows;
            says = (ap (judged before) (sym is) ∙ q, f.says);
          }
      go (Err b) q k rest = cc

  said : (file : File) (before : List R) (ts : List (List ℕ)) (rs : List R) → Says judged before ts rs → rows_on judged file before (map closed ts) ≡ Ok (before ++ rs)
  said file before [] [] h = ap Ok (sym (append-nil before))
  said file before [] (r ∷ rs) h = absurd h
  said file before (t ∷ ts) [] h = absurd h
  said file before (t ∷ ts) (r ∷ rs) h =
      ap (λ x. then_row file (length before + 2) x (λ q. rows_on judged file (before ++ q ∷ []) (map closed ts))) h.0
      ∙ said file (before ++ r ∷ []) ts rs h.1
      ∙ ap Ok (append_assoc before (r ∷ []) rs)

  pub good_read : (names : List ℕ) → Without 10 names → (file : File) (bytes : List ℕ) (rows : List R) → Good judged names bytes rows → sheet_of judged file names bytes ≡ Ok rows
  good_read names w file bytes rows g =
      ap (λ x. cond x (Err (fault_at file SheetSize 0 0)) (sheet_lines judged file names (lines bytes))) (le-ltb 65536 (length bytes) g.small)
      ∙ ap (λ z. sheet_lines judged file names (lines z)) g.whole
      ∙ ap (sheet_lines judged file names) (lines_cut names (flat_map ended_line g.texts) w ∙ ap (λ ls. closed names ∷ ls) (lines_texts g.texts g.single))
      ∙ ap (λ x. cond x (rows_on judged file [] (map closed g.texts)) (Err (fault_at file NamesLine 1 0))) ((bytes_eq-Decides names names).1 refl)
      ∙ said file [] g.texts rows g.says

  from_lines : (names : List ℕ) (file : File) (ls : List Line) (rows : List R) → sheet_lines judged file names ls ≡ Ok rows
      → (ts : List (List ℕ)) × (ls ≡ closed names ∷ map closed ts) × Says judged [] ts rows
  from_lines names file [] rows e = cc
  from_lines names file (l ∷ ls) rows e = go (l.ended && bytes_eq l.text names) refl e
    where
      go : (x : Bool) → (l.ended && bytes_eq l.text names) ≡ x → cond x (rows_on judged file [] ls) (Err (fault_at file NamesLine 1 0)) ≡ Ok rows
          → (ts : List (List ℕ)) × (l ∷ ls ≡ closed names ∷ map closed ts) × Says judged [] ts rows
      go true q k =
          let both = and_parts l.ended (bytes_eq l.text names) q in
          let text : l.text ≡ names = (bytes_eq-Decides l.text names).0 both.1 in
          let is : l ≡ closed names = ap (λ b. record { text = l.text; ended = b }) both.0 ∙ ap closed text in
          let f = found file [] ls rows k in
          (f.texts, ap (λ z. z ∷ ls) is ∙ ap (λ zs. closed names ∷ zs) f.from, subst (λ rs. Says judged [] f.texts rs) (sym f.sum) f.says)
      go false q k = cc

  pub read_good : (names : List ℕ) (file : File) (bytes : List ℕ) (rows : List R) → sheet_of judged file names bytes ≡ Ok rows → Good judged names bytes rows
  read_good names file bytes rows e = go (ltb 65536 (length bytes)) refl e
    where
      go : (x : Bool) → ltb 65536 (length bytes) ≡ x → cond x (Err (fault_at file SheetSize 0 0)) (sheet_lines judged file names (lines bytes)) ≡ Ok rows → Good judged names bytes rows
      go true q k = cc
      go false q k =
          let f = from_lines names file (lines bytes) rows k in
          let w = lines_whole bytes in
          let cut = subst (λ ls. AllByRecursion (λ l. Without 10 l.text) ls) f.1 w.1 in
          record {
            small = ltb-false 65536 (length bytes) q;
            texts = f.0;
            single = without_texts f.0 cut.1;
            whole = sym w.0 ∙ ap (flat_map shown) f.1 ∙ ap (λ z. ended_line names ++ z) (shown_texts f.0);
            says = f.2;
          }
