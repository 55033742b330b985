-- Numbers in digits, one digit after another.
use Rattle.std.proofs.Common.{◌≡◌, ℕ, suc, ◌+◌, ◌*◌, ◌/◌, ◌%◌, ◌<◌, [], ◌∷◌, ◌++◌, ap, ◌∙◌, arith}
use Rattle.octets.specs.Digits.{digits}

-- one digit more
pub digits_push : (w v x : ℕ) → x < 10 → digits (suc w) (v * 10 + x) ≡ digits w v ++ ((48 + x) ∷ [])
digits_push w v x h =
    let tens : (v * 10 + x) / 10 ≡ v = omega arith in
    let ones : 48 + (v * 10 + x) % 10 ≡ 48 + x = omega arith in
    ap (λ y. digits w y ++ ((48 + (v * 10 + x) % 10) ∷ [])) tens ∙ ap (λ y. digits w v ++ (y ∷ [])) ones
