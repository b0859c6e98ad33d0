-- Any succession of calls: the hand-over stays right, and the rest of the promise.
use Rattle.std.proofs.Common.{◌≡◌, ℕ, zero, suc, ◌+◌, ◌<◌, ltb, ◌⊎◌, ◌↔◌, List, [], ◌∷◌, ◌++◌, length, take, drop, sym, refl, ap, ◌∙◌, subst, inl, inr, arith}
use Rattle.std.proofs.lemmas.Bool.{cond_both, ltb-true, ltb-false}
use Rattle.std.proofs.lemmas.List.{append-nil, take_at}
use Rattle.promise.specs.Order.{◌≺◌, In, Ascends, Mark, at, end, Before}
use Rattle.promise.specs.Search.{Rules, raise, tried, Found, after, Quiet, opening, Answer, hit, finished, paused, refused, Next}
use Rattle.promise.specs.Promise.{Lawful, Passed, handed, tries, Run, opened, call, Right, SaysHit, SaysFinished, Accepted}
use Rattle.promise.proofs.Order.{≺_nil, before_trans, push_next}
use Rattle.promise.proofs.Steps.{Valid, some_net, tried_valid, raise_self, found_tried, found_skips_none, quiet_skips_none, quiet_valid, quiet_keeps, quiet_after, quiet_looks}

in_left : (h : List (List ℕ)) (s t : List ℕ) → In t h → In t (h ++ s ∷ [])
in_left [] s t i = absurd i
in_left (u ∷ us) s t (inl e) = inl e
in_left (u ∷ us) s t (inr i) = inr (in_left us s t i)

in_last : (h : List (List ℕ)) (s t : List ℕ) → t ≡ s → In t (h ++ s ∷ [])
in_last [] s t e = inl e
in_last (u ∷ us) s t e = inr (in_last us s t e)

in_push : (h : List (List ℕ)) (s t : List ℕ) → In t (h ++ s ∷ []) → In t h ⊎ (t ≡ s)
in_push [] s t (inl e) = inr e
in_push [] s t (inr i) = absurd i
in_push (u ∷ us) s t (inl e) = inl (inl e)
in_push (u ∷ us) s t (inr i) = go (in_push us s t i)
  where
    go : In t us ⊎ (t ≡ s) → In t (u ∷ us) ⊎ (t ≡ s)
    go (inl j) = inl (inr j)
    go (inr e) = inr e

ascends_push : (h : List (List ℕ)) (s : List ℕ) → Ascends h → ((u : List ℕ) → In u h → u ≺ s) → Ascends (h ++ s ∷ [])
ascends_push [] s a l = (λ u i. absurd i, tt)
ascends_push (t ∷ ts) s a l = (λ u i. go u (in_push ts s u i), ascends_push ts s a.1 (λ u i. l u (inr i)))
  where
    go : (u : List ℕ) → In u ts ⊎ (u ≡ s) → t ≺ u
    go u (inl i) = a.0 u i
    go u (inr e) = subst (λ x. t ≺ x) (sym e) (l t (inl refl))

-- tries add up
after_add : (R : Rules) (n j : ℕ) (k : Mark) → after R (n + j) k ≡ after R j (after R n k)
after_add R zero j k = rw native.Mathlib.Nat.zero-add
after_add R (suc n) j k = rw native.Mathlib.Nat.suc-add (after_add R n j (tried R k))

module _ (R : Rules) (Hit : List ℕ → Type 0) (L : Lawful R Hit) where
  -- what every succession keeps
  pub record Kept (k : Mark) (h : List (List ℕ)) : Type 0 where
    pub valid : Valid R k
    pub right : Right Hit k h

  kept_opening : Kept (opening R) []
  kept_opening =
      record {
        valid = cond_both (ltb 0 R.N) _ _ (Valid R) (λ e. record { some = omega arith; few = L.some; below = (ltb-true 0 R.N e, tt) }) (λ e. tt);
        right = record { ascends = tt; only = λ t i. absurd i; every = λ t h p. absurd (none t h p) };
      }
    where
      short : (t : List ℕ) → Hit t → (t ≺ []) ⊎ (t ≡ []) → ⊥
      short t h (inl p) = ≺_nil t p
      short t h (inr e) = let l = L.long t h in let s = L.some in omega (arith, ap length e)

      none : (t : List ℕ) → Hit t → Before t (opening R) → ⊥
      none t h =
          cond_both (ltb 0 R.N) _ _ (λ k. Before t k → ⊥) (λ e p. short t h (push_next [] t p))
          (λ e p. let l = L.long t h in let s = L.some in omega (arith, ltb-false 0 R.N e, some_net R.N t (omega arith) (L.below t h)))

  kept_quiet : (n : ℕ) (k k' : Mark) (h : List (List ℕ)) → Kept k h → Quiet R n k k' → Kept k' h
  kept_quiet n k k' h w q =
      record {
        valid = quiet_valid R n k k' w.valid q;
        right =
            record {
              ascends = w.right.ascends;
              only = λ t i. ((w.right.only t i).0, quiet_keeps R n k k' q t (w.right.only t i).1);
              every = λ t h p. w.right.every t h (quiet_skips_none R Hit L n k k' w.valid q t h p);
            };
      }

  kept_found : (s : List ℕ) (h : List (List ℕ)) → Kept (at s) h → Found R s → Kept (raise R.N s) (h ++ s ∷ [])
  kept_found s h w f =
      record {
        valid = subst (Valid R) (found_tried R s f) (tried_valid R s w.valid);
        right =
            record {
              ascends = ascends_push h s w.right.ascends (λ u i. (w.right.only u i).1);
              only = λ t i. only t (in_push h s t i);
              every = λ t g p. every t g (found_skips_none R Hit L s f t g p);
            };
      }
    where
      only : (t : List ℕ) → In t h ⊎ (t ≡ s) → Hit t × Before t (raise R.N s)
      only t (inl i) = ((w.right.only t i).0, before_trans t s (raise R.N s) (w.right.only t i).1 (raise_self R.N s))
      only t (inr e) =
          subst (λ x. Hit x × Before x (raise R.N s)) (sym e)
          (L.full s f.1 w.valid.below f.0, raise_self R.N s)

      every : (t : List ℕ) → Hit t → (t ≺ s) ⊎ (t ≡ s) → In t (h ++ s ∷ [])
      every t g (inl p) = in_left h s t (w.right.every t g p)
      every t g (inr e) = in_last h s t e

  kept_same : (k k' : Mark) (h h' : List (List ℕ)) → k ≡ k' → h ≡ h' → Kept k h → Kept k' h'
  kept_same k k' h h' e g w = subst (λ x. Kept k' x) g (subst (λ x. Kept x h) e w)

  kept_next : (k : Mark) (h : List (List ℕ)) (b : ℕ) (row : List ℕ) (a : Answer) (k' : Mark) (row' : List ℕ)
      → Kept k h → Next R k b row a k' row' → Kept k' (h ++ handed R a row')
  kept_next k h b row (hit n) k' row' w x =
      let c = x.2 in
      let s = c.1 in
      let row_is : row' ≡ s ++ drop R.m row = c.7 in
      let f : Found R s = c.5 in
      kept_same (raise R.N s) k' (h ++ s ∷ []) (h ++ take R.m row' ∷ []) (sym c.6)
      (ap (λ u. h ++ u ∷ []) (sym (ap (take R.m) row_is ∙ take_at s (drop R.m row) R.m f.1)))
      (kept_found s h (kept_quiet c.0 k (at s) h w c.4) f)
  kept_next k h b row (finished n) k' row' w x =
      kept_same end k' h (h ++ []) (sym x.4) (sym (append-nil h)) (kept_quiet n k end h w x.3)
  kept_next k h b row (paused n) k' row' w x =
      kept_same k' k' h (h ++ []) refl (sym (append-nil h)) (kept_quiet b k k' h w x.3)
  kept_next k h b row (refused n place) k' row' w x = kept_same k k' h (h ++ []) (sym x.2) (sym (append-nil h)) w

  pub kept : {k : Mark} {h : List (List ℕ)} {t : ℕ} → Run R k h t → Kept k h
  kept opened = kept_opening
  kept (call {k} {h} b row a k' row' r x) = kept_next k h b row a k' row' (kept r) x

  pub right : (k : Mark) (h : List (List ℕ)) (t : ℕ) → Run R k h t → Right Hit k h
  right k h t r = (kept r).right

  pub complete : (k : Mark) (h : List (List ℕ)) (t : ℕ) → Run R k h t
      → (b : ℕ) (row : List ℕ) (n : ℕ) (k' : Mark) (row' : List ℕ) → Next R k b row (finished n) k' row' → (u : List ℕ) → (In u h → ⊥) → Hit u → ⊥
  complete k h t r b row n k' row' x u no-in g = no-in ((kept_quiet n k end h (kept r) x.3).right.every u g tt)

  pub moves : (k : Mark) (h : List (List ℕ)) (t : ℕ) → Run R k h t
      → (b : ℕ) (row : List ℕ) (n : ℕ) (k' : Mark) (row' : List ℕ) → Next R k b row (paused n) k' row'
      → (ss : List (List ℕ)) × (length ss ≡ b) × Ascends ss × ((s : List ℕ) → In s ss → Passed R k k' s)
  moves k h t r b row n k' row' x = quiet_looks R b k k' (kept r).valid x.3

module _ (R : Rules) where
  pub refuses : (k : Mark) (b : ℕ) (row : List ℕ) (n place : ℕ) (k' : Mark) (row' : List ℕ) → Next R k b row (refused n place) k' row' → (n ≡ 31) ⊎ (n ≡ 32)
  refuses k b row n place k' row' x = go x.0
    where
      go : {A B C : Type 0} → ((n ≡ 31) × A) ⊎ ((n ≡ 32) × B × C) → (n ≡ 31) ⊎ (n ≡ 32)
      go (inl e) = inl e.0
      go (inr e) = inr e.0

  quiet_end : (n : ℕ) (k k' : Mark) → 0 < n → k ≡ end → Quiet R n k k' → ⊥
  quiet_end zero k k' l e q = omega arith
  quiet_end (suc n) (at s) k' l e q = let z : ◌≡◌ {A = ℕ} 0 1 = cc in omega arith
  quiet_end (suc n) end k' l e q = q

  at_end : (n : ℕ) (k : Mark) (s : List ℕ) → k ≡ end → Quiet R n k (at s) → ⊥
  at_end zero k s e q = let z : ◌≡◌ {A = ℕ} 0 1 = cc in omega arith
  at_end (suc n) k s e q = quiet_end (suc n) k (at s) (omega arith) e q

  pub stays : (k : Mark) (b : ℕ) (row : List ℕ) (a : Answer) (k' : Mark) (row' : List ℕ) → Next R k b row a k' row' → Accepted a → k ≡ end → SaysFinished a
  stays k b row (hit n) k' row' x acc e = at_end x.2.0 k x.2.1 e x.2.4
  stays k b row (finished n) k' row' x acc e = tt
  stays k b row (paused n) k' row' x acc e = quiet_end b k k' x.0.0 e x.3
  stays k b row (refused n place) k' row' x acc e = acc

  pub finishes : (k : Mark) (b : ℕ) (row : List ℕ) (a : Answer) (k' : Mark) (row' : List ℕ) → Next R k b row a k' row' → Accepted a
      → SaysFinished a ↔ ((k' ≡ end) × (SaysHit a → ⊥))
  finishes k b row (hit n) k' row' x acc = (λ f. absurd f, λ g. g.1 tt)
  finishes k b row (finished n) k' row' x acc = (λ f. (x.4, λ g. g), λ g. tt)
  finishes k b row (paused n) k' row' x acc = (λ f. absurd f, λ g. x.4 g.0)
  finishes k b row (refused n place) k' row' x acc = absurd acc

  pub stands_next : (k : Mark) (b : ℕ) (row : List ℕ) (a : Answer) (k' : Mark) (row' : List ℕ) → Next R k b row a k' row' → k' ≡ after R (tries a) k
  stands_next k b row (hit n) k' row' x =
      let c = x.2 in
      let j = c.0 in
      let s = c.1 in
      let n-is : n ≡ j + 1 = omega (arith, c.2) in
      c.6 ∙ sym (found_tried R s c.5) ∙ ap (tried R) (quiet_after R j k (at s) c.4) ∙ sym (after_add R j 1 k) ∙ ap (λ i. after R i k) (sym n-is)
  stands_next k b row (finished n) k' row' x = x.4 ∙ quiet_after R n k end x.3
  stands_next k b row (paused n) k' row' x = quiet_after R b k k' x.3 ∙ ap (λ i. after R i k) (sym x.2)
  stands_next k b row (refused n place) k' row' x = x.2

  pub stands : {k : Mark} {h : List (List ℕ)} {t : ℕ} → Run R k h t → k ≡ after R t (opening R)
  stands opened = refl
  stands (call {k} {h} {t} b row a k' row' r x) =
      stands_next k b row a k' row' x ∙ ap (after R (tries a)) (stands r) ∙ sym (after_add R t (tries a) (opening R))
