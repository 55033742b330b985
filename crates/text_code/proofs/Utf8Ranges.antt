-- The ranges of UTF-8: which numbers have which form, and which bytes a form has.
use Rattle.std.proofs.Common.{◌≡◌, ℕ, ◌<◌, ◌≤◌, ◌⊎◌, List, Some, None, inl, inr, ⊎_elim, arith}
use Rattle.std.proofs.lemmas.Bool.{cases_lt}
use Rattle.std.proofs.lemmas.Bool.Decides.{nat_tests}
use Rattle.text_code.specs.Codes.{utf8, one_byte, two_bytes, three_bytes, four_bytes}

pub utf8_one : (n : ℕ) → n ≤ 127 → utf8 n ≡ Some (one_byte n)
unfolding utf8
utf8_one n h = grind (arith, nat_tests)

pub utf8_two : (n : ℕ) → 128 ≤ n → n ≤ 2047 → utf8 n ≡ Some (two_bytes n)
unfolding utf8
utf8_two n l h = grind (arith, nat_tests)

pub utf8_three : (n : ℕ) → 2048 ≤ n → n ≤ 65535 → (n < 55296) ⊎ (57343 < n) → utf8 n ≡ Some (three_bytes n)
unfolding utf8
utf8_three n l h s = grind (arith, nat_tests)

pub utf8_four : (n : ℕ) → 65536 ≤ n → n ≤ 1114111 → utf8 n ≡ Some (four_bytes n)
unfolding utf8
utf8_four n l h = grind (arith, nat_tests)

surrogate : (n : ℕ) → 55296 ≤ n → n ≤ 57343 → utf8 n ≡ None
unfolding utf8
surrogate n l h = grind (arith, nat_tests)

above : (n : ℕ) → 1114111 < n → utf8 n ≡ None
unfolding utf8
above n h = grind (arith, nat_tests)

-- a spelled number with its form
pub data Form (n : ℕ) (s : List ℕ) : Type 0 where
  one : n ≤ 127 → s ≡ one_byte n → Form n s
  two : 128 ≤ n → n ≤ 2047 → s ≡ two_bytes n → Form n s
  three : 2048 ≤ n → n ≤ 65535 → (n < 55296) ⊎ (57343 < n) → s ≡ three_bytes n → Form n s
  four : 65536 ≤ n → n ≤ 1114111 → s ≡ four_bytes n → Form n s

unspelled : {P : Type 0} (n : ℕ) (s : List ℕ) → utf8 n ≡ None → utf8 n ≡ Some s → P
unspelled n s none some = let z : ◌≡◌ {A = ℕ} 0 1 = cc in absurd (omega arith)

same : (n : ℕ) (s t : List ℕ) → utf8 n ≡ Some t → utf8 n ≡ Some s → s ≡ t
same n s t p q = cc

pub form : (n : ℕ) (s : List ℕ) → utf8 n ≡ Some s → Form n s
form n s e =
    ⊎_elim (λ h. one (omega arith) (same n s (one_byte n) (utf8_one n (omega arith)) e))
    (λ h. ⊎_elim (λ i. two h (omega arith) (same n s (two_bytes n) (utf8_two n h (omega arith)) e))
    (λ i. ⊎_elim (λ j. ⊎_elim (λ k. three i (omega arith) (inl k) (same n s (three_bytes n) (utf8_three n i (omega arith) (inl k)) e))
    (λ k. ⊎_elim (λ l. unspelled n s (surrogate n k (omega arith)) e)
    (λ l. three i (omega arith) (inr l) (same n s (three_bytes n) (utf8_three n i (omega arith) (inr l)) e))
    (cases_lt n 57344))
    (cases_lt n 55296))
    (λ j. ⊎_elim (λ k. four j (omega arith) (same n s (four_bytes n) (utf8_four n j (omega arith)) e)) (λ k. unspelled n s (above n k) e) (cases_lt n 1114112))
    (cases_lt n 65536))
    (cases_lt n 2048))
    (cases_lt n 128)
