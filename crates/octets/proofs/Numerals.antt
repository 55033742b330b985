-- Steps of the loops over digits.
use Rattle.std.proofs.Common.{◌≡◌, ℕ, ◌+◌, ◌-◌, ◌*◌, ◌/◌, ◌%◌, ◌^◌, ◌<◌, ◌≤◌, true, false, leb, List, [], ◌∷◌, ◌++◌, length, get_or, drop, set, Ok, Err, Result, sym, ap, ◌∙◌, ⊎_elim, append_assoc, pow-suc, add-one, arith}
use native.Mathlib.Nat.{pow-le-pow_right}
use Rattle.std.proofs.lemmas.List.{drop-set, at_drop_more}
use Rattle.std.proofs.lemmas.Bool.{cases_Bool, cond-true, cond-false, and_parts, leb-true, le-leb}
use Rattle.refusal.specs.declared.faults.ItemFault.{ItemFault}
use Rattle.octets.specs.Bytes.{is_digit}
use Rattle.octets.specs.Digits.{digit_value, numeral_from, numeral, digits}

-- one digit more still fits 32 bits
pub fits_more : (v i n : ℕ) → v < 10 ^ i → i < n → n ≤ 9 → v * 10 + 9 < 2 ^ 32
fits_more v i n below within few =
    let m : 10 ^ i ≤ 10 ^ 8 = pow-le-pow_right {n = 10} (omega arith) {i = i} {j = 8} (omega arith) in omega arith

pub below_more : (v i d : ℕ) → v < 10 ^ i → d ≤ 9 → v * 10 + d < 10 ^ (i + 1)
below_more v i d below small =
    let e : 10 ^ (i + 1) ≡ 10 ^ i * 10 = ap (λ k. 10 ^ k) (add-one i) ∙ pow-suc 10 i in omega arith

-- what it says of a byte that its digit was read, or was not
pub read_ok : (f : ItemFault) (b d : ℕ) → Ok d ≡ digit_value f b → (is_digit b ≡ true) × (d ≡ b - 48) × (d ≤ 9)
read_ok f b d e =
    ⊎_elim
    (λ t.
    let q : ◌≡◌ {A = Result ℕ ItemFault} (Ok d) (Ok (b - 48)) = e ∙ cond-true (is_digit b) (Ok (b - 48)) (Err f) t in
    let v : d ≡ b - 48 = cc in
    (t, v, omega (arith, leb-true b 57 (and_parts (leb 48 b) (leb b 57) t).1)))
    (λ t.
    let q : ◌≡◌ {A = Result ℕ ItemFault} (Ok d) (Err f) = e ∙ cond-false (is_digit b) (Ok (b - 48)) (Err f) t in
    let z : ◌≡◌ {A = ℕ} 0 1 = cc in absurd (omega arith))
    (cases_Bool (is_digit b))

pub read_err : (f g : ItemFault) (b : ℕ) → Err g ≡ digit_value f b → (is_digit b ≡ false) × (g ≡ f)
read_err f g b e =
    ⊎_elim
    (λ t.
    let q : ◌≡◌ {A = Result ℕ ItemFault} (Err g) (Ok (b - 48)) = e ∙ cond-true (is_digit b) (Ok (b - 48)) (Err f) t in
    let z : ◌≡◌ {A = ℕ} 0 1 = cc in absurd (omega arith))
    (λ t.
    let q : ◌≡◌ {A = Result ℕ ItemFault} (Err g) (Err f) = e ∙ cond-false (is_digit b) (Ok (b - 48)) (Err f) t in
    let v : g ≡ f = cc in (t, v))
    (cases_Bool (is_digit b))

-- a numeral that is not too long is read digit by digit
pub numeral_short : (f : ItemFault) (bs : List ℕ) → length bs ≤ 9 → numeral f bs ≡ numeral_from f 0 bs
unfolding numeral
numeral_short f bs few = cond-true (leb (length bs) 9) (numeral_from f 0 bs) (Err f) (le-leb (length bs) 9 few)

-- one digit more is read, or the reading ends
pub numeral_more : (f : ItemFault) (v d : ℕ) (bs : List ℕ) (i : ℕ) → i < length bs → Ok d ≡ digit_value f (get_or bs i 0) → numeral_from f (v * 10 + d) (drop (i + 1) bs) ≡ numeral_from f v (drop i bs)
numeral_more f v d bs i within e =
    let p = read_ok f (get_or bs i 0) d e in
    let s : numeral_from f v (drop i bs) ≡ numeral_from f v (get_or bs i 0 ∷ drop (i + 1) bs) = at_drop_more (numeral_from f v) bs i 0 within in
    let t : numeral_from f v (get_or bs i 0 ∷ drop (i + 1) bs) ≡ numeral_from f (v * 10 + (get_or bs i 0 - 48)) (drop (i + 1) bs) = cond-true (is_digit (get_or bs i 0)) (numeral_from f (v * 10 + (get_or bs i 0 - 48)) (drop (i + 1) bs)) (Err f) p.0 in
    let w : numeral_from f (v * 10 + d) (drop (i + 1) bs) ≡ numeral_from f (v * 10 + (get_or bs i 0 - 48)) (drop (i + 1) bs) = ap (λ x. numeral_from f (v * 10 + x) (drop (i + 1) bs)) p.1 in
    w ∙ sym t ∙ sym s

pub numeral_ends : (f g : ItemFault) (v : ℕ) (bs : List ℕ) (i : ℕ) → i < length bs → Err g ≡ digit_value f (get_or bs i 0) → (numeral_from f v (drop i bs) ≡ Err f) × (g ≡ f)
numeral_ends f g v bs i within e =
    let p = read_err f g (get_or bs i 0) e in
    (at_drop_more (numeral_from f v) bs i 0 within ∙ cond-false (is_digit (get_or bs i 0)) (numeral_from f (v * 10 + (get_or bs i 0 - 48)) (drop (i + 1) bs)) (Err f) p.0, p.1)

-- one digit more is written, before those that stand already
pub digits_more : (i k n : ℕ) (bs : List ℕ) → i ≡ k + 1 → k < length bs → digits k (n / 10) ++ drop k (set bs k (48 + n % 10)) ≡ digits i n ++ drop i bs
digits_more i k n bs e within =
    let d : digits i n ≡ digits k (n / 10) ++ ((48 + n % 10) ∷ []) = ap (λ w. digits w n) (e ∙ add-one k) in
    let s : drop k (set bs k (48 + n % 10)) ≡ (48 + n % 10) ∷ drop i bs = drop-set bs k (48 + n % 10) within ∙ ap (λ w. (48 + n % 10) ∷ drop w bs) (sym e) in
    ap (λ t. digits k (n / 10) ++ t) s ∙ sym (append_assoc (digits k (n / 10)) ((48 + n % 10) ∷ []) (drop i bs)) ∙ ap (λ t. t ++ drop i bs) (sym d)
