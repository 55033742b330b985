-- Sums of lengths that count from 1: where each length begins, and which one a number falls into.
use Rattle.std.proofs.Common.{◌≡◌, ℕ, zero, suc, ◌+◌, ◌-◌, ◌*◌, ◌<◌, ◌≤◌, refl, ap, ◌∙◌, ⊎_elim, map, sum, arith}
use Rattle.std.specs.List.{range_with_len}
use Rattle.std.proofs.lemmas.List.FromFn.{sum_by-map-range_with_len_more}
use Rattle.std.proofs.lemmas.Bool.{cases_lt}
use Rattle.calendar.specs.Gregorian.{sum_to}

pub sum_step : (f : ℕ → ℕ) (n : ℕ) → 1 ≤ n → sum_to f n ≡ sum_to f (n - 1) + f n
unfolding sum_to
sum_step f zero h = absurd (omega arith)
sum_step f (suc n) h = ap (λ k. sum_to f k + f (suc n)) (omega arith)

-- the sum as std has it
pub sum_of_range : (f : ℕ → ℕ) (n : ℕ) → sum (map f (range_with_len 1 n)) ≡ sum_to f n
unfolding sum_to
sum_of_range f zero = refl
sum_of_range f (suc n) =
    let e : suc n ≡ n + 1 = omega arith in
    ap (λ k. sum (map f (range_with_len 1 k))) e ∙ sum_by-map-range_with_len_more (λ x. x) f 1 n (suc n) (omega arith) ∙ ap (λ k. k + f (suc n)) (sum_of_range f n)

-- lengths of at most k
pub sum_at_most : (f : ℕ → ℕ) (k n : ℕ) → ((i : ℕ) → f i ≤ k) → sum_to f n ≤ k * n
unfolding sum_to
sum_at_most f k zero h = omega arith
sum_at_most f k (suc n) h = omega (arith, sum_at_most f k n h, h (suc n))

pub sum_climbs : (f : ℕ → ℕ) (m n : ℕ) → m ≤ n → sum_to f m ≤ sum_to f n
unfolding sum_to
sum_climbs f m zero h = let e : m ≡ 0 = omega arith in omega (arith, ap (sum_to f) e)
sum_climbs f m (suc n) h =
    ⊎_elim (λ l. omega (arith, sum_climbs f m n (omega arith)))
    (λ g. let e : m ≡ suc n = omega arith in omega (arith, ap (sum_to f) e)) (cases_lt m (suc n))

-- a place within the i-th length comes before every later length
pub sum_before : (f : ℕ → ℕ) (i j r : ℕ) → 1 ≤ i → r < f i → i < j → sum_to f (i - 1) + r < sum_to f (j - 1)
sum_before f i j r p q h = omega (arith, sum_step f i p, sum_climbs f i (j - 1) (omega arith))

pub record Place (f : ℕ → ℕ) (n x : ℕ) : Type 0 where
  pub at : ℕ
  pub from : 1 ≤ at
  pub to : at ≤ n
  pub start : sum_to f (at - 1) ≤ x
  pub inside : x - sum_to f (at - 1) < f at

pub sum_place : (f : ℕ → ℕ) (n x : ℕ) → x < sum_to f n → Place f n x
unfolding sum_to
sum_place f zero x h = absurd (omega arith)
sum_place f (suc n) x h =
    ⊎_elim
    (λ l.
    let p = sum_place f n x l in
    record { at = p.at; from = p.from; to = omega arith; start = p.start; inside = p.inside })
    (λ g.
    let e : suc n - 1 ≡ n = omega arith in
    let s = ap (sum_to f) e in
    record { at = suc n; from = omega arith; to = omega arith; start = omega arith; inside = omega arith })
    (cases_lt x (sum_to f n))
