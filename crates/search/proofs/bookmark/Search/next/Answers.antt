-- A call of next does what `Next` says.
use Rattle.std.proofs.Common.{◌≡◌, ◌+◌, ◌-◌, ◌<◌, false, ◌⊎◌, length, take, sym, refl, ap, ◌∙◌, subst, inl, inr, add-one, arith, rules}
use Rattle.std.proofs.lemmas.List.{length-set}
use Rattle.promise.specs.Search.{Quiet, InRange}
use Rattle.promise.specs.Hits.{passing}
use Rattle.pattern.specs.Drawn.{drawn}
use Rattle.pattern.specs.Kept.{drawn_sound, nets_some}
use Rattle.search.specs.Held.{held, standing, bookmark, rules as sought}
use Rattle.promise.proofs.Lawful.{called}
use Rattle.search.proofs.Raised.{raise_moves, renewed}
use Rattle.search.proofs.Stands.{held_long, standing_some, standing_none, start_sits, sits_bookmark, one_more, at_no_end, not_found, called_at, no_start}
use Rattle.search.proofs.bookmark.Search.next.Given.{Over}
use Rattle.search.proofs.bookmark.Search.next.Goals as goal
use Rattle.search.proofs.bookmark.Search.next.Goals.{After-passes-pass, After-advance-in-loop-made, After-of-span, else-pass-via-then-pass+else-start-span, else-pass-via-else-pass}

-- the budget is in range
in_range : (g : Over) (c : After-of-span g) → InRange c.args.budget
in_range g c = search rules

-- a start passes as the meanings of the pattern, the board and the sieve say
passed : (g : Over) (c : After-passes-pass g) → let p = drawn c.args.pattern.now in let b = g.B.Board.means c.args.board.now in
    c.passes-pass.result ≡ passing p b (g.S.Sieve.keeps c.args.sieve.now p b) (held c.loop-made.self)
passed g c =
    let value = c.passes-pass.ensures.value in
    let held-is = ap (λ n. take n c.loop-made.numbers) c.len.ensures.value ∙ c.loop-made.invariant.7 in
    let pattern = c.loop-made.invariant.4 in
    let board = c.loop-made.invariant.5 in
    let sieve = c.loop-made.invariant.6 in
    cc

-- one more try that is no hit
tried : (g : Over) (c : After-advance-in-loop-made g) → let p = drawn c.args.pattern.now in let b = g.B.Board.means c.args.board.now in let m = c.of-span.result.m in let n = c.of-span.result.nets in
    c.passes-pass.result ≡ passing p b (g.S.Sieve.keeps c.args.sieve.now p b) (held c.loop-made.self)
    → Quiet (sought m n (passing p b (g.S.Sieve.keeps c.args.sieve.now p b))) c.loop-made.made (bookmark m n c.args.self.now) (standing (held c.advance-in-loop-made.new.self))
tried g c pass-is =
    let p = drawn c.args.pattern.now in
    let b = g.B.Board.means c.args.board.now in
    let P = passing p b (g.S.Sieve.keeps c.args.sieve.now p b) in
    let m = c.of-span.result.m in
    let n = c.of-span.result.nets in
    let q = c.loop-made.self in
    let inv = c.loop-made.invariant in
    let k = bookmark m n c.args.self.now in
    let pass = c.passes-pass.result in
    let long = held_long q in
    let shown = ap (λ n. take n c.loop-made.numbers) c.len.ensures.value ∙ c.loop-made.invariant.7 in
    let once : c.loop-made.made - 1 + 1 ≡ c.loop-made.made = omega arith in
    let why : (pass ≡ false) ⊎ (length (held q) ≡ m → ⊥) =
    elim c.else-pass.branch
    [ else-pass-via-then-pass+else-start-span w ↦ inr (λ e. w.if-start-span.false (ap length shown ∙ e)) | else-pass-via-else-pass w ↦ inl w.if-pass.false ]
    in
    subst (λ i. Quiet (sought m n P) i k (standing (held c.advance-in-loop-made.new.self))) once
    (one_more m n P (c.loop-made.made - 1) k (held q) (held c.advance-in-loop-made.new.self) pass (omega arith) inv.0 pass-is (not_found m n P (held q) pass pass-is why) c.advance-in-loop-made.ensures.stands)

pub loop-made-init : goal.loop-made-init
loop-made-init g c =
    let q = c.args.self.now in
    let w = start_sits c.of-span.result.m c.of-span.result.nets q (sym c.if-not-is_start.ensures) in
    (sits_bookmark c.of-span.result.m c.of-span.result.nets q w.0, w.0, w.1, refl, refl, refl, refl, c.numbers-numbers.ensures, search rules)

pub returns-then-start-span : goal.returns-then-start-span
returns-then-start-span g c =
    let p = drawn c.args.pattern.now in
    let b = g.B.Board.means c.args.board.now in
    let keeps = g.S.Sieve.keeps c.args.sieve.now p b in
    let m = c.of-span.result.m in
    let n = c.of-span.result.nets in
    let q = c.loop-made.self in
    let q' = c.advance.new.self in
    let inv = c.loop-made.invariant in
    let long = held_long q in
    let shown = ap (λ n. take n c.loop-made.numbers) c.len.ensures.value ∙ c.loop-made.invariant.7 in
    let is_m : length (held q) ≡ m = sym (ap length shown) ∙ c.if-start-span.true in
    let once : c.loop-made.made ≡ c.loop-made.made - 1 + 1 = omega arith in
    called_at p b (drawn_sound c.args.pattern.now) (g.B.Board.sound c.args.board.now) keeps m n c.of-span.ensures.m c.of-span.ensures.nets (omega arith)
    c.args.self.now _ _ _ q' _ (
      in_range g (goal.at.returns-then-start-span g c).After-of-span,
      omega arith,
      (
        c.loop-made.made - 1,
        held q,
        once ∙ add-one (c.loop-made.made - 1),
        omega arith,
        subst (Quiet (sought m n (passing p b keeps)) (c.loop-made.made - 1) (bookmark m n c.args.self.now)) (standing_some (held q) (omega arith)) inv.0,
        (sym (passed g (goal.at.returns-then-start-span g c).After-passes-pass) ∙ c.if-pass.true, is_m),
        sits_bookmark m n q' c.advance.ensures.sits ∙ c.advance.ensures.stands ∙ sym (raise_moves m n c.passes-pass.result (held q) (inr (omega arith))),
        let copied = c.copy_from_slice.ensures.after in let same = inv.3 in let held-is = shown in cc,
      ),
    )

pub returns-in_default : goal.returns-in_default
returns-in_default g c =
    let p = drawn c.args.pattern.now in
    let b = g.B.Board.means c.args.board.now in
    let keeps = g.S.Sieve.keeps c.args.sieve.now p b in
    let m = c.of-span.result.m in
    let n = c.of-span.result.nets in
    let q' = c.advance-in-loop-made.new.self in
    let none : standing (held q') ≡ _ = standing_none q' (search rules) in
    called_at p b (drawn_sound c.args.pattern.now) (g.B.Board.sound c.args.board.now) keeps m n c.of-span.ensures.m c.of-span.ensures.nets (omega arith)
    c.args.self.now _ _ _ q' _ (
      in_range g (goal.at.returns-in_default g c).After-of-span,
      omega arith,
      omega arith,
      subst (Quiet (sought m n (passing p b keeps)) c.loop-made.made (bookmark m n c.args.self.now)) none (tried g (goal.at.returns-in_default g c).After-advance-in-loop-made (passed g (goal.at.returns-in_default g c).After-passes-pass)),
      sits_bookmark m n q' c.advance-in-loop-made.ensures.sits ∙ none,
      c.loop-made.invariant.3,
    )

pub loop-made-preserved : goal.loop-made-preserved
loop-made-preserved g c =
    let p = drawn c.args.pattern.now in
    let b = g.B.Board.means c.args.board.now in
    let m = c.of-span.result.m in
    let n = c.of-span.result.nets in
    let inv = c.loop-made.invariant in
    let same = c.passes-pass.ensures in
    let us = c.advance-in-loop-made.new.self.levels.items in
    let l = c.in-Some.level.now in
    let once : c.loop-made.made ≡ c.loop-made.made + 1 - 1 = omega arith in (
      subst (λ i. Quiet (sought m n (passing p b (g.S.Sieve.keeps c.args.sieve.now p b))) i (bookmark m n c.args.self.now) (standing (held c.advance-in-loop-made.new.self))) once
          (tried g (goal.at.loop-made-preserved g c).After-advance-in-loop-made (passed g (goal.at.loop-made-preserved g c).After-passes-pass)),
      c.advance-in-loop-made.ensures.sits,
      search rules,
      inv.3,
      ap (λ r. r.now) same.pattern ∙ inv.4,
      ap (λ r. r.now) same.board ∙ inv.5,
      ap (λ r. r.now) same.sieve ∙ inv.6,
      renewed m n c.passes-pass.result c.loop-made.self.levels.items us l c.loop-made.numbers _ (search rules) (search rules) inv.7 c.advance-in-loop-made.ensures.stands (search rules),
      length-set c.loop-made.numbers _ l.net ∙ inv.8,
    )

pub returns-in-Some : goal.returns-in-Some
returns-in-Some g c =
    let p = drawn c.args.pattern.now in
    let b = g.B.Board.means c.args.board.now in
    let keeps = g.S.Sieve.keeps c.args.sieve.now p b in
    let m = c.of-span.result.m in
    let n = c.of-span.result.nets in
    let q' = c.advance-in-loop-made.new.self in
    let sits = c.advance-in-loop-made.ensures.sits in
    let mark = sits_bookmark m n q' sits in
    let spent : c.loop-made.made ≡ c.args.budget = omega arith in
    let k = bookmark m n c.args.self.now in
    let long = held_long q' in
    let some : 0 < length q'.levels.items = search rules in
    called_at p b (drawn_sound c.args.pattern.now) (g.B.Board.sound c.args.board.now) keeps m n c.of-span.ensures.m c.of-span.ensures.nets (omega arith)
    c.args.self.now _ _ _ q' _ (
      in_range g (goal.at.returns-in-Some g c).After-of-span,
      omega arith,
      refl,
      subst (λ i. Quiet (sought m n (passing p b keeps)) i k (bookmark m n q')) spent (subst (Quiet (sought m n (passing p b keeps)) c.loop-made.made k) (sym mark) (tried g (goal.at.returns-in-Some g c).After-advance-in-loop-made (passed g (goal.at.returns-in-Some g c).After-passes-pass))),
      at_no_end (bookmark m n q') (held q') (mark ∙ standing_some (held q') (omega arith)),
      c.loop-made.invariant.3,
    )

pub returns-then-not-contains : goal.returns-then-not-contains
returns-then-not-contains g c =
    let p = drawn c.args.pattern.now in
    let b = g.B.Board.means c.args.board.now in
    called p b (drawn_sound c.args.pattern.now) (g.B.Board.sound c.args.board.now) (g.S.Sieve.keeps c.args.sieve.now p b) (nets_some c.args.pattern.now) _ _ _ _ _ _
    (inl (refl, λ r. search rules), refl, refl, refl)

pub returns-then-row-span : goal.returns-then-row-span
returns-then-row-span g c =
    let p = drawn c.args.pattern.now in
    let b = g.B.Board.means c.args.board.now in
    called p b (drawn_sound c.args.pattern.now) (g.B.Board.sound c.args.board.now) (g.S.Sieve.keeps c.args.sieve.now p b) (nets_some c.args.pattern.now) _ _ _ _ _ _
    (inr (refl, in_range g (goal.at.returns-then-row-span g c).After-of-span, omega (arith, c.of-span.ensures.m)), refl, refl, refl)

pub returns-then-not-is_start : goal.returns-then-not-is_start
returns-then-not-is_start g c =
    let p = drawn c.args.pattern.now in
    let b = g.B.Board.means c.args.board.now in
    let m = c.of-span.result.m in
    let n = c.of-span.result.nets in
    let q = c.args.self.now in
    let gone = no_start m n q (sym c.if-not-is_start.ensures) in
    called_at p b (drawn_sound c.args.pattern.now) (g.B.Board.sound c.args.board.now) (g.S.Sieve.keeps c.args.sieve.now p b) m n c.of-span.ensures.m c.of-span.ensures.nets (omega arith)
    q _ _ _ q _ (in_range g (goal.at.returns-then-not-is_start g c).After-of-span, omega arith, omega arith, gone, gone, refl)
