-- The tries are lawful for the hits: a passing tuple is a hit, and each start with which a hit begins passes.
use Rattle.std.proofs.Common.{◌≡◌, ℕ, ◌+◌, ◌≤◌, Bool, true, ◌&&◌, List, ◌++◌, length, refl, subst, arith}
use Rattle.std.proofs.lemmas.Bool.{and_parts, and_from}
use Rattle.std.proofs.lemmas.List.{take_at, length-append}
use Rattle.circuit.specs.Circuit.{Circuit, N, Sound, AllBelow, Hit, HitBy, same_class, meets_cell_rule, are_distinct}
use Rattle.circuit.proofs.Rule.{cell_rule}
use Rattle.circuit.proofs.Decided.{cell_rule_decided, distinct_decided}
use Rattle.circuit.proofs.Fronts.{front_hit, hit_alike}
use Rattle.promise.specs.Order.{Mark}
use Rattle.promise.specs.Search.{Answer, Next}
use Rattle.promise.specs.Promise.{Lawful, handed, tries, call}
use Rattle.promise.specs.Hits.{passing, rules_of, Fit, Agree, AlikeHit, Promised, Called}
use Rattle.promise.proofs.Kept as whole

module _ (p b : Circuit) (sp : Sound p) (sb : Sound b) (keeps : List ℕ → Bool) where
  full : (t : List ℕ) → length t ≡ N p → AllBelow (N b) t → passing p b keeps t ≡ true → Hit p b t
  full t long below e =
      let (d, kr) = and_parts (are_distinct t) (keeps t && meets_cell_rule p (length t) b t) e in
      let (k, r) = and_parts (keeps t) (meets_cell_rule p (length t) b t) kr in
      let r' : meets_cell_rule p (N p) b t ≡ true = subst (λ (n : ℕ). meets_cell_rule p n b t ≡ true) long r in
      (cell_rule p b sp sb (N p) t long below ((distinct_decided t).0 d)).1 ((cell_rule_decided p (N p) b t).0 r')

  fronts : Fit keeps p b → (s rest : List ℕ) → 1 ≤ length s → Hit p b (s ++ rest) → passing p b keeps s ≡ true
  fronts fit s rest some h =
      let few : length s ≤ N p = omega (arith, h.long, length-append s rest) in
      let cut = front_hit (same_class p b) p b (N p) (s ++ rest) h (length s) few in
      let f : HitBy (same_class p b) p (length s) b s = subst (λ (u : List ℕ). HitBy (same_class p b) p (length s) b u) (take_at s rest (length s) refl) cut in
      and_from (are_distinct s) (keeps s && meets_cell_rule p (length s) b s) ((distinct_decided s).1 f.distinct)
      (and_from (keeps s) (meets_cell_rule p (length s) b s) (fit s rest some h)
      ((cell_rule_decided p (length s) b s).1 ((cell_rule p b sp sb (length s) s refl f.below f.distinct).0 f)))

  pub lawful : 1 ≤ N p → Fit keeps p b → Lawful (rules_of p b keeps) (Hit p b)
  lawful some fit = record { some = some; long = λ t h. h.long; below = λ t h. h.below; full = full; fronts = fronts fit }

  pub lawful_alike : 1 ≤ N p → Fit keeps p b → (alike : ℕ → ℕ → Bool) → Agree alike p b → Lawful (rules_of p b keeps) (AlikeHit alike p b)
  lawful_alike some fit alike agree =
      record {
        some = some;
        long = λ t h. h.long;
        below = λ t h. h.below;
        full = λ t long below e. hit_alike (same_class p b) (λ u v. alike u v ≡ true) p b (N p) t sp (λ u v l l'. (agree u v l l').0) (full t long below e);
        fronts = λ s rest one h. fronts fit s rest one (hit_alike (λ u v. alike u v ≡ true) (same_class p b) p b (N p) (s ++ rest) sp (λ u v l l'. (agree u v l l').1) h);
      }

  pub promised : 1 ≤ N p → Fit keeps p b → Promised p b keeps
  promised some fit =
      record {
        by_class = whole.promise (rules_of p b keeps) (Hit p b) (lawful some fit);
        by_likeness = λ alike agree. whole.promise (rules_of p b keeps) (AlikeHit alike p b) (lawful_alike some fit alike agree);
      }

  pub called : 1 ≤ N p → (k : Mark) (budget : ℕ) (row : List ℕ) (a : Answer) (k' : Mark) (row' : List ℕ)
      → Next (rules_of p b keeps) k budget row a k' row' → Called p b keeps k budget row a k' row'
  called some k budget row a k' row' x =
      record {
        answers = x;
        promise = λ fit. promised some fit;
        lands = λ fit h t r. (promised some fit).by_class.right k' (h ++ handed (rules_of p b keeps) a row') (t + tries a) (call budget row a k' row' r x);
      }
