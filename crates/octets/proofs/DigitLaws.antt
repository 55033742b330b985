-- Digits and the numbers that they write.
use Rattle.std.proofs.Common.{◌≡◌, ℕ, zero, suc, ◌+◌, ◌-◌, ◌*◌, ◌/◌, ◌%◌, ◌^◌, ◌<◌, ◌≤◌, true, leb, List, [], ◌∷◌, ◌++◌, length, Ok, Err, sym, refl, ap, ◌∙◌, subst, append_assoc, append-nil, pow-suc, add-one, arith}
use Rattle.std.proofs.lemmas.List.{length_push}
use Rattle.std.proofs.lemmas.Bool.{cond-true, and_parts, and_from, leb-true, le-leb}
use Rattle.refusal.specs.declared.faults.ItemFault.{ItemFault}
use Rattle.octets.specs.Bytes.{is_digit}
use Rattle.octets.specs.Digits.{numeral_from, numeral, digits}
use Rattle.refusal.proofs.Chains.{cond_ok}

pub length_digits : (w n : ℕ) → length (digits w n) ≡ w
length_digits zero n = refl
length_digits (suc w) n = length_push (digits w (n / 10)) (48 + n % 10) ∙ ap (λ k. k + 1) (length_digits w (n / 10)) ∙ add-one w

-- reading the digits of n, and then what follows them
numeral_over : (f : ItemFault) (w n : ℕ) (rest : List ℕ) → n < 10 ^ w → numeral_from f 0 (digits w n ++ rest) ≡ numeral_from f n rest
numeral_over f zero n rest below = ap (λ v. numeral_from f v rest) (omega arith)
numeral_over f (suc w) n rest below =
    let c : ℕ = 48 + n % 10 in
    let p : 10 ^ suc w ≡ 10 ^ w * 10 = pow-suc 10 w in
    let v : n / 10 * 10 + (c - 48) ≡ n = omega arith in
    let d : is_digit c ≡ true = and_from (leb 48 c) (leb c 57) (le-leb 48 c (omega arith)) (le-leb c 57 (omega arith)) in
    ap (numeral_from f 0) (append_assoc (digits w (n / 10)) (c ∷ []) rest)
    ∙ numeral_over f w (n / 10) (c ∷ rest) (omega arith)
    ∙ cond-true (is_digit c) (numeral_from f (n / 10 * 10 + (c - 48)) rest) (Err f) d
    ∙ ap (λ k. numeral_from f k rest) v

pub numeral_digits : (f : ItemFault) (w n : ℕ) → w ≤ 9 → n < 10 ^ w → numeral f (digits w n) ≡ Ok n
unfolding numeral
numeral_digits f w n few below =
    cond-true (leb (length (digits w n)) 9) (numeral_from f 0 (digits w n)) (Err f) (le-leb (length (digits w n)) 9 (omega (arith, length_digits w n)))
    ∙ ap (numeral_from f 0) (sym (append-nil (digits w n))) ∙ numeral_over f w n [] below

-- what was read behind k digits of v
digits_over : (f : ItemFault) (k v w n : ℕ) (bs : List ℕ) → v < 10 ^ k → w ≡ k + length bs → numeral_from f v bs ≡ Ok n → (digits k v ++ bs ≡ digits w n) × (n < 10 ^ w)
digits_over f k v w n [] below e h =
    let q : v ≡ n = cc in
    let p : k ≡ w = omega arith in
    (append-nil (digits k v) ∙ ap (λ x. digits k x) q ∙ ap (λ j. digits j n) p, subst (λ x. x < 10 ^ w) q (subst (λ j. v < 10 ^ j) p below))
digits_over f k v w n (b ∷ bs) below e h =
    let t = cond_ok (is_digit b) (numeral_from f (v * 10 + (b - 48)) bs) f n h in
    let low : 48 ≤ b = leb-true 48 b (and_parts (leb 48 b) (leb b 57) t.0).0 in
    let high : b ≤ 57 = leb-true b 57 (and_parts (leb 48 b) (leb b 57) t.0).1 in
    let x : ℕ = v * 10 + (b - 48) in
    let more = digits_over f (suc k) x w n bs (omega (arith, pow-suc 10 k)) (omega arith) t.1 in
    let tens : x / 10 ≡ v = omega arith in
    let ones : 48 + x % 10 ≡ b = omega arith in
    let last : digits (suc k) x ≡ digits k v ++ (b ∷ []) = ap (λ y. digits k y ++ ((48 + x % 10) ∷ [])) tens ∙ ap (λ y. digits k v ++ (y ∷ [])) ones in
    (sym (append_assoc (digits k v) (b ∷ []) bs) ∙ ap (λ s. s ++ bs) (sym last) ∙ more.0, more.1)

pub digits_numeral : (f : ItemFault) (bs : List ℕ) (n : ℕ) → numeral f bs ≡ Ok n → (bs ≡ digits (length bs) n) × (n < 10 ^ length bs)
unfolding numeral
digits_numeral f bs n h =
    digits_over f 0 0 (length bs) n bs (omega arith) (omega arith) (cond_ok (leb (length bs) 9) (numeral_from f 0 bs) f n h).1
