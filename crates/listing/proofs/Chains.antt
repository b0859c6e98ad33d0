-- Lines one after another, and the calls that gave them.
use Rattle.std.proofs.Common.{◌≡◌, ℕ, ◌+◌, ◌<◌, ◌≤◌, Bool, List, [], ◌∷◌, ◌++◌, map, take, IfOk, Ok, Err, Result, sym, refl, subst, ◌∙◌}
use Rattle.std.proofs.lemmas.List.{map_push, append-nil}
use Rattle.circuit.specs.Circuit.{Circuit, N, Hit}
use Rattle.promise.specs.Order.{Mark, end}
use Rattle.promise.specs.Search.{hit, finished, paused}
use Rattle.promise.specs.Promise.{Run, call, Right}
use Rattle.promise.specs.Hits.{rules_of, Promised}
use Rattle.promise.proofs.Left.{left, hit_falls, paused_falls}
use Rattle.lines.specs.Written.{hit_line, end_line, paused_line}
use Rattle.listing.specs.declared.step.Outcome.{Outcome}
use Rattle.listing.specs.declared.step.Outcome.TheVariants.{Ended, Paused}
use Rattle.listing.specs.declared.step.Step.TheVariants.{Found, Done, Rested}
use Rattle.search.specs.declared.bookmark.Search.{Search}
use Rattle.listing.specs.declared.lister.Lister.{Lister}
use Rattle.listing.specs.declared.step.Step.{Step}
use Rattle.listing.specs.Going.{searched, mark_of, OnlySearched}
use Rattle.listing.specs.Listed.{Writes, Stepped, HitsListed}

pub only_more : {B L : Type 0} {l m n : Lister B L} → OnlySearched l m → OnlySearched m n → OnlySearched l n
only_more e f = record { pattern = f.pattern ∙ e.pattern; board = f.board ∙ e.board; sieve = f.sieve ∙ e.sieve }

module _ {S : Type 0} (w : S → List ℕ → S → Type 0) where
  pub writes_push : (a b c : S) (ls : List (List ℕ)) (l : List ℕ) → Writes w a ls b → w b l c → Writes w a (ls ++ l ∷ []) c
  writes_push a b c [] l e x = (c, subst (λ (s : S). w s l c) (sym e) x, refl)
  writes_push a b c (k ∷ ls) l (s, y, rest) x = (s, y, writes_push s b c ls l rest x)

  -- what a step says holds for the lister as it was before the steps so far
  pub stepped_on : {B L : Type 0} (means : B → Circuit) (keeps : L → Circuit → Circuit → List ℕ → Bool) {l m : Lister B L} (q : Search) (a b : S) (s : Step) → OnlySearched l m
      → Stepped w (searched means keeps m) (mark_of {S = L} means m m.search) a s (mark_of {S = L} means m q) b → Stepped w (searched means keeps l) (mark_of {S = L} means l m.search) a s (mark_of {S = L} means l q) b
  stepped_on means keeps q a b s only h = rw (only.pattern, only.board, only.sieve) at h

  module _ (p b : Circuit) (keeps : List ℕ → Bool) where
    -- so far: a run stands at k, and its hand-over was written
    abbrev pub SoFar : S → Mark → S → Type 0
    SoFar a k o = (h : List (List ℕ)) × (t : ℕ) × Run (rules_of p b keeps) k h t × Writes w a (map hit_line h) o

    pub found_more : (a o o' : S) (k k' : Mark) → SoFar a k o → Stepped w (rules_of p b keeps) k o Found k' o' → SoFar a k' o'
    found_more a o o' k k' (h, t, run, ws) (n, row, asked, x) = (
      h ++ take (N p) row ∷ [],
      t + n,
      call 1_000_000 asked.row (hit n) k' row run asked.next,
      subst (λ (ls : List (List ℕ)). Writes w a ls o') (sym (map_push hit_line h (take (N p) row))) (writes_push a o o' (map hit_line h) (hit_line (take (N p) row)) ws x),
    )

    pub rested_more : (a o o' : S) (k k' : Mark) → SoFar a k o → Stepped w (rules_of p b keeps) k o Rested k' o' → SoFar a k' o'
    rested_more a o o' k k' (h, t, run, ws) (n, row, asked, e) = (
      h ++ [],
      t + n,
      call 1_000_000 asked.row (paused n) k' row run asked.next,
      subst (λ (ls : List (List ℕ)). Writes w a (map hit_line ls) o') (sym (append-nil h)) (subst (Writes w a (map hit_line h)) e ws),
    )

    -- each call that does not finish leaves fewer tries
    pub found_falls : 1 ≤ N p → (a o o' : S) (k k' : Mark) → SoFar a k o → Stepped w (rules_of p b keeps) k o Found k' o' → left (rules_of p b keeps) k' < left (rules_of p b keeps) k
    found_falls some a o o' k k' (h, t, run, ws) (n, row, asked, x) = hit_falls (rules_of p b keeps) some run 1_000_000 asked.row n k' row asked.next

    pub rested_falls : 1 ≤ N p → (a o o' : S) (k k' : Mark) → SoFar a k o → Stepped w (rules_of p b keeps) k o Rested k' o' → left (rules_of p b keeps) k' < left (rules_of p b keeps) k
    rested_falls some a o o' k k' (h, t, run, ws) (n, row, asked, e) = paused_falls (rules_of p b keeps) some run 1_000_000 asked.row n k' row asked.next

    module _ (any : Promised p b keeps) {Y : Type 0} where
      -- after Finished, all hits were written
      pub done : (r : Result Outcome Y) (a o o' o'' : S) (k k' : Mark) → SoFar a k o → Stepped w (rules_of p b keeps) k o Done k' o'
          → IfOk r (λ x. (x ≡ Ended) × w o' end_line o'') → IfOk r (λ x. HitsListed w p b a x o'')
      done (Err y) a o o' o'' k k' so step m = tt
      done (Ok x) a o o' o'' k k' (h, t, run, ws) (n, row, asked, e) m =
          let run' = call 1_000_000 asked.row (finished n) k' row run asked.next in
          let right = any.by_class.right k' (h ++ []) (t + n) run' in
          let at_end : k' ≡ end = asked.next.4 in
          let all : Right (Hit p b) end h = subst (λ (j : Mark). Right (Hit p b) j h) at_end (subst (Right (Hit p b) k') (append-nil h) right) in
          let ws' = subst (Writes w a (map hit_line h)) e ws in
          subst (λ (z : Outcome). HitsListed w p b a z o'') (sym m.0) (h, all, writes_push a o' o'' (map hit_line h) end_line ws' m.1)

      -- broken off, the hits before the bookmark were written
      pub broken_off : (r : Result Outcome Y) (a o o'' : S) (k : Mark) → SoFar a k o → IfOk r (λ x. (x ≡ Paused) × w o paused_line o'') → IfOk r (λ x. HitsListed w p b a x o'')
      broken_off (Err y) a o o'' k so m = tt
      broken_off (Ok x) a o o'' k (h, t, run, ws) m =
          subst (λ (z : Outcome). HitsListed w p b a z o'') (sym m.0) (k, h, any.by_class.right k h t run, writes_push a o o'' (map hit_line h) paused_line ws m.1)
