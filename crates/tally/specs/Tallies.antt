-- A tally is the list of its entries, ascending by key.
use Rattle.std.specs.Prelude.{ℕ, zero, suc, ◌+◌, ◌<◌, ◌≤◌, Bool, cond, List, [], ◌∷◌, length, Ok, Err, Result, ◌==◌, nat_le}
use Rattle.std.specs.declared.cmp.Ordering.TheVariants.{Less, Equal, Greater}
use Rattle.std.specs.declared.cmp.Ordering.{Ordering}
use Rattle.tally.specs.declared.entry.Entry.{Entry}
use Rattle.circuit.specs.declared.refusal.Reason.TheVariants.{TallyFull}
use Rattle.circuit.specs.declared.refusal.Refusal.{Refusal}

-- one place on
abbrev pub shift : ℕ → Result ℕ ℕ → Result ℕ ℕ
shift n (Ok i) = Ok (n + i)
shift n (Err i) = Err (n + i)

abbrev pub by : {A : Type 0} → Ordering → A → A → A → A
by Less x y z = x
by Equal x y z = y
by Greater x y z = z

abbrev pub found : {K : Type 0} → (K → K → Ordering) → List (Entry K) → K → Result ℕ ℕ
found c [] k = Err 0
found c (e ∷ es) k = by (c e.key k) (shift 1 (found c es k)) (Ok 0) (Err 0)

abbrev pub within : Result ℕ ℕ → ℕ → Type 0
within (Ok i) n = i < n
within (Err i) n = i ≤ n

-- how often the key came
abbrev pub counted : {K : Type 0} → (K → K → Ordering) → List (Entry K) → K → ℕ
counted c [] k = 0
counted c (e ∷ es) k = by (c e.key k) (counted c es k) e.count 0

abbrev pub bump : {K : Type 0} → Entry K → Entry K
bump e = record { key = e.key; count = e.count + 1 }

abbrev pub bumped : {K : Type 0} → List (Entry K) → ℕ → List (Entry K)
bumped [] i = []
bumped (e ∷ es) zero = bump e ∷ es
bumped (e ∷ es) (suc i) = e ∷ bumped es i

-- the entries once the key came once more
abbrev pub added : {K : Type 0} → (K → K → Ordering) → List (Entry K) → K → List (Entry K)
added c [] k = record { key = k; count = 1 } ∷ []
added c (e ∷ es) k = by (c e.key k) (e ∷ added c es k) (bump e ∷ es) (record { key = k; count = 1 } ∷ e ∷ es)

abbrev pub by_found : {A : Type 0} → Result ℕ ℕ → A → A → A
by_found (Ok i) x y = x
by_found (Err i) x y = y

-- a new key finds no room, or a count is at its top
abbrev pub full : {K : Type 0} → (K → K → Ordering) → List (Entry K) → K → ℕ → Bool
full c es k room = by_found (found c es k) (counted c es k == 65535) (nat_le room (length es))

abbrev pub answer : {K : Type 0} → (K → K → Ordering) → List (Entry K) → K → ℕ → Result (Unit {0}) Refusal
answer c es k room = cond (full c es k room) (Err (record { reason = TallyFull; place = 0 })) (Ok tt)

-- the tally of a list of keys
abbrev pub tallied_on : {K : Type 0} → (K → K → Ordering) → List (Entry K) → List K → List (Entry K)
tallied_on c es [] = es
tallied_on c es (k ∷ ks) = tallied_on c (added c es k) ks

abbrev pub tallied : {K : Type 0} → (K → K → Ordering) → List K → List (Entry K)
tallied c ks = tallied_on c [] ks
