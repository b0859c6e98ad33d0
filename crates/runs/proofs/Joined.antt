-- Calls made one after another are a run, so all that is promised of runs holds of them.
use Rattle.std.proofs.Common.{◌≡◌, ℕ, zero, suc, ◌+◌, ◌<◌, Bool, T, List, [], ◌∷◌, ◌++◌, map, length, get_or, take, drop, set, sym, refl, ap, ◌∙◌, subst, subst₂, arith}
use Rattle.std.proofs.lemmas.List.{append-nil, append_assoc, length-map, drop_more, drop-set-lt, take_more, take_more_set}
use Rattle.circuit.specs.Circuit.{Circuit, class}
use Rattle.promise.specs.Order.{Mark}
use Rattle.promise.specs.Search.{Rules, opening, Next}
use Rattle.promise.specs.Promise.{Run, opened, call, handed, tries}
use Rattle.promise.specs.Hits.{rules_of, Agree, Promised}
use Rattle.labels.specs.Classes as labelled
use Rattle.labels.specs.Alike.{Wrote, alike_at}
use Rattle.labels.proofs.Tells.{agree_at, wrote_tells}
use Rattle.search.specs.Held.{said}
use Rattle.runs.specs.declared.call.Call.{Call}
use Rattle.runs.specs.Whole.{hand_over, all_tries, Through, Whole}

module _ (R : Rules) where
  pub through_more : (cs cs' : List Call) (k k' k'' : Mark) (c c' : Call) → Through R k cs cs' k' → c'.budget ≡ c.budget → Next R k' c.budget c.row (said c'.answer) k'' c'.row
      → Through R k (cs ++ c ∷ []) (cs' ++ c' ∷ []) k''
  through_more [] [] k k' k'' c c' w e x = (k'', e, subst (λ (j : Mark). Next R j c.budget c.row (said c'.answer) k'' c'.row) (sym w) x, refl)
  through_more [] (d' ∷ ds') k k' k'' c c' w e x = absurd w
  through_more (d ∷ ds) [] k k' k'' c c' w e x = absurd w
  through_more (d ∷ ds) (d' ∷ ds') k k' k'' c c' w e x = (w.0, w.1, w.2, through_more ds ds' w.0 k' k'' c c' w.3 e x)

  pub through_run : (cs cs' : List Call) (k k'' : Mark) (h : List (List ℕ)) (t : ℕ) → Run R k h t → Through R k cs cs' k'' → Run R k'' (h ++ hand_over R cs') (t + all_tries cs')
  through_run [] [] k k'' h t r w =
      let sum : t ≡ t + 0 = omega arith in
      subst (λ (j : Mark). Run R j (h ++ []) (t + 0)) w (subst₂ (λ (g : List (List ℕ)) (i : ℕ). Run R k g i) (sym (append-nil h)) sum r)
  through_run [] (d' ∷ ds') k k'' h t r w = absurd w
  through_run (d ∷ ds) [] k k'' h t r w = absurd w
  through_run (d ∷ ds) (d' ∷ ds') k k'' h t r w =
      let a = said d'.answer in
      let more = through_run ds ds' w.0 k'' (h ++ handed R a d'.row) (t + tries a) (call d.budget d.row a w.0 d'.row r w.2) w.3 in
      let sum : t + tries a + all_tries ds' ≡ t + (tries a + all_tries ds') = omega arith in
      subst₂ (λ (g : List (List ℕ)) (i : ℕ). Run R k'' g i) (append_assoc h (handed R a d'.row) (hand_over R ds')) sum more

  -- the first j calls, and the others
  pub through_at : (j : ℕ) (cs cs' : List Call) (k k'' : Mark) (h : List (List ℕ)) (t : ℕ) → Run R k h t → Through R k cs cs' k''
      → (k' : Mark) × Run R k' (h ++ hand_over R (take j cs')) (t + all_tries (take j cs')) × Through R k' (drop j cs) (drop j cs') k''
  through_at zero cs cs' k k'' h t r w = (k, through_run [] [] k k h t r refl, w)
  through_at (suc j) [] [] k k'' h t r w = (k, through_run [] [] k k h t r refl, w)
  through_at (suc j) [] (d' ∷ ds') k k'' h t r w = absurd w
  through_at (suc j) (d ∷ ds) [] k k'' h t r w = absurd w
  through_at (suc j) (d ∷ ds) (d' ∷ ds') k k'' h t r w =
      let a = said d'.answer in
      let (k', run, rest) = through_at j ds ds' w.0 k'' (h ++ handed R a d'.row) (t + tries a) (call d.budget d.row a w.0 d'.row r w.2) w.3 in
      let sum : t + tries a + all_tries (take j ds') ≡ t + (tries a + all_tries (take j ds')) = omega arith in
      (k', subst₂ (λ (g : List (List ℕ)) (i : ℕ). Run R k' g i) (append_assoc h (handed R a d'.row) (hand_over R (take j ds'))) sum run, rest)

  -- the i-th call is made, and left as y
  pub step : (e xs : List Call) (i : ℕ) (d y : Call) (k k' k'' : Mark) → i < length e → length xs ≡ length e → Through R k (take i e) (take i xs) k' → drop i xs ≡ drop i e
      → y.budget ≡ (get_or xs i d).budget → Next R k' (get_or xs i d).budget (get_or xs i d).row (said y.answer) k'' y.row
      → Through R k (take (i + 1) e) (take (i + 1) (set xs i y)) k'' × (drop (i + 1) (set xs i y) ≡ drop (i + 1) e)
  step e xs i d y k k' k'' l long w rest b x =
      let l' : i < length xs = omega arith in
      let one : drop i xs ≡ get_or xs i d ∷ drop (i + 1) xs = drop_more xs i d l' in
      let two : drop i e ≡ get_or e i d ∷ drop (i + 1) e = drop_more e i d l in
      let same : get_or xs i d ≡ get_or e i d = cc in
      let tail : drop (i + 1) xs ≡ drop (i + 1) e = cc in
      let more = through_more (take i e) (take i xs) k k' k'' (get_or e i d) y w
      (subst (λ (z : Call). y.budget ≡ z.budget) same b)
      (subst (λ (z : Call). Next R k' z.budget z.row (said y.answer) k'' y.row) same x)
      in (
        subst₂ (λ (xs ys : List Call). Through R k xs ys k'') (sym (take_more e i d l)) (sym (take_more_set xs i y l')) more,
        drop-set-lt (i + 1) xs i y (omega arith) ∙ tail,
      )

module _ {L : Type 0} (proper : L → Bool) (same : L → L → Bool)
    (itself : (x : L) → T (proper x) → T (same x x))
    (turned : (x y : L) → T (proper x) → T (proper y) → T (same x y) → T (same y x))
    (chained : (x y z : L) → T (proper x) → T (proper y) → T (proper z) → T (same x y) → T (same y z) → T (same x z))
    (ps bs : List L) (p b : Circuit) where
  -- where one labelling call wrote all classes, the same class means labels alike
  pub agree : Wrote proper same ps bs p.classes b.classes → Agree (alike_at same ps bs) p b
  agree w u v l l' =
      let f = labelled.class same ps bs in
      let x : u < length ps = omega (arith, ap length w.pattern, length-map ps f) in
      let y : v < length bs = omega (arith, ap length w.board, length-map bs f) in
      let (one, other) = agree_at same ps bs (wrote_tells proper same itself turned chained ps bs p.classes b.classes w) u v x y in
      let e : class p u ≡ get_or (map f ps) u 0 = ap (λ (xs : List ℕ). get_or xs u 0) w.pattern in
      let d : class b v ≡ get_or (map f bs) v 0 = ap (λ (xs : List ℕ). get_or xs v 0) w.board in
      ((λ q. one (sym e ∙ q ∙ d)), (λ q. e ∙ other q ∙ sym d))

  pub whole : (keeps : List ℕ → Bool) (cs cs' : List Call) (k : Mark) → Promised p b keeps → Through (rules_of p b keeps) (opening (rules_of p b keeps)) cs cs' k
      → Whole proper same ps bs p b keeps cs cs' k
  whole keeps cs cs' k any w =
      let R = rules_of p b keeps in
      let r : Run R k ([] ++ hand_over R cs') (0 + all_tries cs') = through_run R cs cs' (opening R) k [] 0 opened w in
      record {
        through = w;
        runs = λ j. let (k', run, rest) = through_at R j cs cs' (opening R) k [] 0 opened w in let sum : 0 + all_tries (take j cs') ≡ all_tries (take j cs') = omega arith in (k', subst (λ (i : ℕ). Run R k' (hand_over R (take j cs')) i) sum run, rest);
        right = any.by_class.right k (hand_over R cs') (0 + all_tries cs') r;
        any = any;
        by_labels = λ wrote. let likely = any.by_likeness (alike_at same ps bs) (agree wrote) in record { any = likely; right = likely.right k (hand_over R cs') (0 + all_tries cs') r };
      }
