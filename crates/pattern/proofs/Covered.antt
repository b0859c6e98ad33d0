-- Each part of a pattern is on one of its nets.
use Rattle.std.proofs.Common.{◌≡◌, ℕ, ◌+◌, ◌-◌, ◌<◌, [], length, get_or, ap, ◌∙◌, arith}
use Rattle.circuit.specs.Circuit.{parts, N, In}
use Rattle.circuit.proofs.Steps.{member_tells, member_shows}
use Rattle.tables.specs.Tables.{start, cuts}
use Rattle.tables.specs.Cuts.{cuts_length, net_length, net_read}
use Rattle.tables.proofs.Checks.{net_of}
use Rattle.pattern.specs.Drawn.{drawn}
use Rattle.pattern.specs.Kept.{rises}
use Rattle.pattern.specs.declared.pattern.Pattern.{Pattern}

pub covered : (p : Pattern) (v : ℕ) → v < parts (drawn p) → In (drawn p) (N (drawn p)) v
covered p v h =
    let cs = p.classes.items in
    let es = p.ends.items in
    let js = p.joins.items in
    let (k, l, e) = member_tells js v (p.covers v h) in
    let (f, there, lo, hi) = net_of 0 es k (omega arith) (omega (arith, p.closes)) in
    let n = net_length cs es js (rises p) p.closes p.climbs p.under f there in
    let d = k - start es f in
    let inside : d < length (get_or (cuts 0 es js) f []) = omega arith in
    let r = net_read cs es js (rises p) p.closes p.climbs p.under f d there inside in
    let q : start es f + d ≡ k = omega arith in
    (f, omega (arith, cuts_length 0 es js), member_shows (get_or (cuts 0 es js) f []) v d inside (r ∙ ap (λ (i : ℕ). get_or js i 0) q ∙ e))
