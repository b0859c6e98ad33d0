use Rattle.std.proofs.Common.{◌≡◌, ◌+◌, ◌<◌, ◌≤◌, length, drop, refl, ap, ◌∙◌, arith}
use Rattle.std.proofs.lemmas.List.{drop_all, take_rest}
use Rattle.sheets.specs.Lines.{upto}
use Rattle.sheets.proofs.Cuts.{line_at}
use Rattle.sheets.proofs.reader.Reader.step.Goals as goal
use Rattle.sheets.proofs.reader.Reader.step.Goals.{then-end-sheet, else-end-sheet}

pub returns : goal.returns
returns c =
    let s = c.args.self.now.sheet.now in
    let i = c.args.self.now.next in
    let n = c.before_stop.result in
    let m = c.if-end-sheet.next in
    let size : n ≡ upto 10 (drop i s) = c.before_stop.ensures.value ∙ ap (upto 10) (take_rest s i) in
    let there : i + n < length s → m ≡ i + n + 1 = λ h. elim c.if-end-sheet.branch [ then-end-sheet w ↦ omega (arith, w.next-is) | else-end-sheet w ↦ omega (arith, w.next-is) ] in
    let past : length s ≤ i + n → m ≡ i + n = λ h. elim c.if-end-sheet.branch [ then-end-sheet w ↦ omega (arith, w.next-is) | else-end-sheet w ↦ omega (arith, w.next-is) ] in
    let inside : i + n ≤ length s = omega (arith, c.before_stop.ensures.bound, ap length (take_rest s i), Rattle.std.proofs.lemmas.List.length-drop i s) in
    record {
      sheet = refl;
      line = line_at s i n m (omega arith) size inside there past;
      fresh = refl;
      on = elim c.if-end-sheet.branch [ then-end-sheet w ↦ omega (arith, w.next-is) | else-end-sheet w ↦ omega (arith, w.next-is) ];
    }
