-- Equal tallies are the cell rule; sizes under the rule.
use Rattle.std.proofs.Common.{◌≡◌, ℕ, zero, suc, ◌*◌, ◌≤◌, Bool, false, List, length, get_or, take, Decides, sym, refl, ap, ◌∙◌, arith}
use Rattle.std.proofs.lemmas.List.{map-id}
use Rattle.std.proofs.lemmas.List.FromFn.{take-map-range_with_len}
use Rattle.std.proofs.lemmas.Bool.Decides.{Decides-like, same_from_decides}
use Rattle.circuit.specs.Circuit.{Circuit, parts, net, on, Sound, Maps, same_class, upto, count, CellRule, meets_cell_rule, place}
use Rattle.circuit.proofs.Counting.{count_tied}
use Rattle.circuit.proofs.Masks.{get_or_upto, on_below}
use Rattle.circuit.proofs.Rule.{place_maps}
use Rattle.circuit.proofs.Decided.{cell_rule_decided}
use Rattle.circuit.proofs.Nets.{net_size, net_few}
use Rattle.matching.specs.declared.cell.Cell.{Cell}
use Rattle.tally.specs.declared.entry.Entry.{Entry}
use Rattle.tally.specs.Tallies.{counted, tallied}
use Rattle.matching.specs.Orders.{by_cell, cells}
use Rattle.tally.specs.Levels.{times}
use Rattle.tally.proofs.Counts.{counted_tallied}
use Rattle.matching.specs.Keys.{keys, sizes, SameSizes}
use Rattle.matching.proofs.Counted.{times_cells, times_zero}

-- ## Sizes

pub sizes_few : (c : Circuit) → Sound c → (s : List ℕ) (n : ℕ) → parts c ≤ 64 → sizes c s n ≤ 64 * n
sizes_few c sound s zero h = omega arith
sizes_few c sound s (suc n) h = let i = sizes_few c sound s n h in let l = net_few c sound (get_or s n 0) in omega arith

pub sizes_same : (p b : Circuit) (s : List ℕ) (k n : ℕ) → n ≤ k → SameSizes p b s k → sizes b s n ≡ sizes p (upto k) n
sizes_same p b s k zero l h = refl
sizes_same p b s k (suc n) l h =
    let i = sizes_same p b s k n (omega arith) h in
    let e = h n (omega arith) in
    let d : length (net p (get_or (upto k) n 0)) ≡ length (net p n) = ap (λ (j : ℕ). length (net p j)) (get_or_upto k n (omega arith)) in
    omega arith

-- ## The pattern's nets in order

pub order_is : (k : ℕ) → k ≤ 16 → take k (upto 16) ≡ upto k
order_is k h = ap (take k) (sym (map-id (upto 16))) ∙ take-map-range_with_len (λ (x : ℕ). x) 0 16 k h ∙ map-id (upto k)

module _ (p b : Circuit) (sp : Sound p) (sb : Sound b) (k : ℕ) (s : List ℕ) (long : length s ≡ k) where
  -- under the rule, each net is as long as the pattern net at its place
  pub rule_sizes : CellRule p k b s → SameSizes p b s k
  rule_sizes rule i l =
      let x : count (λ u. on p u i) (parts p) ≤ count (λ v. on b v g) (parts b) =
      count_tied (λ u. on p u i) (λ v. on b v g) (λ u v. f u ≡ v) (parts p) (parts b)
      (λ u _ o. (f u, m.lands u (i, l, o), m.into i l u o, refl))
      (λ u u' v _ _ o o' e e'. m.apart u u' (i, l, o) (i, l, o') (e ∙ sym e'))
      in
      let y : count (λ v. on b v g) (parts b) ≤ count (λ u. on p u i) (parts p) =
      count_tied (λ v. on b v g) (λ u. on p u i) (λ v u. f u ≡ v) (parts b) (parts p)
      (λ v _ o. let (u, o', e) = m.onto i l v o in (u, on_below p sp u i o', o', e))
      (λ v v' u _ _ _ _ e e'. sym e ∙ e')
      in
      omega (arith, x, y, net_size p sp i, net_size b sb g)
    where
      g : ℕ
      g = get_or s i 0

      f : ℕ → ℕ
      f = place p k b s

      m : Maps (same_class p b) p k b s (place p k b s)
      m = place_maps p b sp sb k s long rule

  module _ (ps bs : List (Entry Cell))
      (pe : ps ≡ tallied by_cell (keys p (upto k) (length (upto k))))
      (be : bs ≡ tallied by_cell (keys b s (length s))) where
    from_level : ((x : Cell) → counted by_cell ps x ≡ counted by_cell bs x) → CellRule p k b s
    from_level h cls msk pos =
        let x : Cell = record { class = cls; mask = msk } in
        sym (times_cells p (upto k) cls msk sp pos)
        ∙ sym (counted_tallied cells (keys p (upto k) (length (upto k))) x)
        ∙ ap (λ (es : List (Entry Cell)). counted by_cell es x) (sym pe)
        ∙ h x
        ∙ ap (λ (es : List (Entry Cell)). counted by_cell es x) be
        ∙ counted_tallied cells (keys b s (length s)) x
        ∙ times_cells b s cls msk sb pos

    to_level : CellRule p k b s → (x : Cell) → counted by_cell ps x ≡ counted by_cell bs x
    to_level rule x =
        ap (λ (es : List (Entry Cell)). counted by_cell es x) pe
        ∙ counted_tallied cells (keys p (upto k) (length (upto k))) x
        ∙ same x.class x.mask
        ∙ sym (counted_tallied cells (keys b s (length s)) x)
        ∙ ap (λ (es : List (Entry Cell)). counted by_cell es x) (sym be)
      where
        same : (cls msk : ℕ) → times by_cell (keys p (upto k) (length (upto k))) (record { class = cls; mask = msk }) ≡ times by_cell (keys b s (length s)) (record { class = cls; mask = msk })
        same cls zero = times_zero p (upto k) cls 0 sp refl ∙ sym (times_zero b s cls 0 sb refl)
        same cls (suc m) =
            times_cells p (upto k) cls (suc m) sp (omega arith) ∙ rule cls (suc m) (omega arith) ∙ sym (times_cells b s cls (suc m) sb (omega arith))

    pub level_rule : (r : Bool) → Decides r ((x : Cell) → counted by_cell ps x ≡ counted by_cell bs x) → r ≡ meets_cell_rule p k b s
    level_rule r d = same_from_decides r (meets_cell_rule p k b s) (Decides-like r from_level to_level d) (cell_rule_decided p k b s)

  pub sizes_rule : (SameSizes p b s k → ⊥) → false ≡ meets_cell_rule p k b s
  sizes_rule n =
      same_from_decides false (meets_cell_rule p k b s) (λ z. absurd (let w : ◌≡◌ {A = ℕ} 0 1 = cc in omega arith), λ rule. absurd (n (rule_sizes rule))) (cell_rule_decided p k b s)
