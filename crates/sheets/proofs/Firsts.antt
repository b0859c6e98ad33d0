-- The first bad line.
use Rattle.std.proofs.Common.{◌≡◌, ℕ, ◌+◌, ◌<◌, ◌≤◌, Bool, true, false, cond, ◌&&◌, ltb, ◌⊎◌, List, [], ◌∷◌, ◌++◌, map, length, Ok, Err, Result, sym, refl, ap, ◌∙◌, inl, inr, append_assoc, append-nil}
use Rattle.std.proofs.lemmas.Bool.{ltb-true, ltb-false, and_parts, and_from, true≢false}
use Rattle.std.proofs.lemmas.Slice.Eq.{bytes_eq-Decides}
use Rattle.std.specs.Str.{bytes_eq}
use Rattle.circuit.specs.declared.refusal.Refusal.{Refusal}
use Rattle.sheets.specs.declared.fault.File.{File}
use Rattle.sheets.specs.declared.fault.Fault.{Fault}
use Rattle.sheets.specs.Lines.{Line, closed, lines}
use Rattle.sheets.specs.Sheets.{fault_at, then_row, rows_on, sheet_lines}
use Rattle.sheets.specs.Laws.{Says, Fails, Named, OneFault}
use Rattle.circuit.specs.declared.refusal.Reason.TheVariants.{SheetSize, NamesLine}

module _ {R : Type 0} (judged : List R → Line → Result R Refusal) (ends : (before : List R) (l : Line) (r : R) → judged before l ≡ Ok r → l.ended ≡ true) where
  -- the same after some rows
  record Failing (file : File) (before : List R) (ls : List Line) (f : Fault) : Type 0 where
    texts : List (List ℕ)
    rows : List R
    says : Says judged before texts rows
    line : Line
    rest : List Line
    at : ls ≡ map closed texts ++ line ∷ rest
    what : Refusal
    wrong : judged (before ++ rows) line ≡ Err what
    is : f ≡ fault_at file what.reason (length (before ++ rows) + 2) what.place

  failing : (file : File) (before : List R) (ls : List Line) (f : Fault) → rows_on judged file before ls ≡ Err f → Failing file before ls f
  failing file before [] f e = cc
  failing file before (l ∷ ls) f e = go (judged before l) refl e (λ r k. failing file (before ++ r ∷ []) ls f k)
    where
      go : (x : Result R Refusal) → judged before l ≡ x → then_row file (length before + 2) x (λ r. rows_on judged file (before ++ r ∷ []) ls) ≡ Err f
          → ((r : R) → rows_on judged file (before ++ r ∷ []) ls ≡ Err f → Failing file (before ++ r ∷ []) ls f) → Failing file before (l ∷ ls) f
      go (Ok r) q k rest =
          let g = rest r k in
          let is : l ≡ closed l.text = ap (λ b. record { text = l.text; ended = b }) (ends before l r q) in
          let same = append_assoc before (r ∷ []) g.rows in
          record {
            texts = l.text ∷ g.texts;
            rows = r ∷ g.rows;
            says = (ap (judged before) (sym is) ∙ q, g.says);
            line = g.line;
            rest = g.rest;
            at = ap (λ z. z ∷ ls) is ∙ ap (λ zs. closed l.text ∷ zs) g.at;
            what = g.what;
            wrong = ap (λ rs. judged rs g.line) (sym same) ∙ g.wrong;
            is = g.is ∙ ap (λ rs. fault_at file g.what.reason (length rs + 2) g.what.place) same;
          }
      go (Err b) q k rest =
          let same : f ≡ fault_at file b.reason (length before + 2) b.place = cc in
          record {
            texts = [];
            rows = [];
            says = tt;
            line = l;
            rest = ls;
            at = refl;
            what = b;
            wrong = ap (λ rs. judged rs l) (append-nil before) ∙ q;
            is = same ∙ ap (λ rs. fault_at file b.reason (length rs + 2) b.place) (sym (append-nil before));
          }

  fails : (file : File) (ls : List Line) (f : Fault) → rows_on judged file [] ls ≡ Err f → Fails judged file ls f
  fails file ls f e =
      let g = failing file [] ls f e in
      record { texts = g.texts; rows = g.rows; says = g.says; line = g.line; rest = g.rest; at = g.at; what = g.what; wrong = g.wrong; is = g.is }

  named : (names : List ℕ) (file : File) (ls : List Line) (f : Fault) → sheet_lines judged file names ls ≡ Err f
      → (((after : List Line) → Named judged names ls after → ⊥) × (f ≡ fault_at file NamesLine 1 0)) ⊎ ((after : List Line) × Named judged names ls after × Fails judged file after f)
  named names file [] f e =
      let same : f ≡ fault_at file NamesLine 1 0 = cc in
      inl ((λ after n. cc), same)
  named names file (l ∷ ls) f e = go (l.ended && bytes_eq l.text names) refl e
    where
      heads : (after : List Line) → l ∷ ls ≡ closed names ∷ after → l ≡ closed names
      heads after n = cc

      go : (x : Bool) → (l.ended && bytes_eq l.text names) ≡ x → cond x (rows_on judged file [] ls) (Err (fault_at file NamesLine 1 0)) ≡ Err f
          → (((after : List Line) → Named judged names (l ∷ ls) after → ⊥) × (f ≡ fault_at file NamesLine 1 0)) ⊎ ((after : List Line) × Named judged names (l ∷ ls) after × Fails judged file after f)
      go true q k =
          let both = and_parts l.ended (bytes_eq l.text names) q in
          let text : l.text ≡ names = (bytes_eq-Decides l.text names).0 both.1 in
          let is : l ≡ closed names = ap (λ b. record { text = l.text; ended = b }) both.0 ∙ ap closed text in
          inr (ls, ap (λ z. z ∷ ls) is, fails file ls f k)
      go false q k =
          let same : f ≡ fault_at file NamesLine 1 0 = cc in
          inl (
            (λ after n.
                let h = heads after n in
                true≢false (sym (and_from l.ended (bytes_eq l.text names) (ap (λ x. x.ended) h) ((bytes_eq-Decides l.text names).1 (ap (λ x. x.text) h))) ∙ q)),
            same,
          )

  pub one_fault : (names : List ℕ) → OneFault judged names
  one_fault names file bytes f e = go (ltb 65536 (length bytes)) refl e
    where
      go : (x : Bool) → ltb 65536 (length bytes) ≡ x → cond x (Err (fault_at file SheetSize 0 0)) (sheet_lines judged file names (lines bytes)) ≡ Err f →
          ((65536 < length bytes) × (f ≡ fault_at file SheetSize 0 0))
          ⊎ (((length bytes ≤ 65536) × ((after : List Line) → Named judged names (lines bytes) after → ⊥) × (f ≡ fault_at file NamesLine 1 0))
          ⊎ ((length bytes ≤ 65536) × ((after : List Line) × Named judged names (lines bytes) after × Fails judged file after f)))
      go true q k = let same : f ≡ fault_at file SheetSize 0 0 = cc in inl (ltb-true _ _ q, same)
      go false q k = then (named names file (lines bytes) f k)
        where
          small : length bytes ≤ 65536
          small = ltb-false _ _ q

          then : (((after : List Line) → Named judged names (lines bytes) after → ⊥) × (f ≡ fault_at file NamesLine 1 0)) ⊎ ((after : List Line) × Named judged names (lines bytes) after × Fails judged file after f)
              → ((65536 < length bytes) × (f ≡ fault_at file SheetSize 0 0))
              ⊎ (((length bytes ≤ 65536) × ((after : List Line) → Named judged names (lines bytes) after → ⊥) × (f ≡ fault_at file NamesLine 1 0))
              ⊎ ((length bytes ≤ 65536) × ((after : List Line) × Named judged names (lines bytes) after × Fails judged file after f)))
          then (inl n) = inr (inl (small, n.0, n.1))
          then (inr g) = inr (inr (small, g))
