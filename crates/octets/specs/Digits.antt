-- Numbers in decimal digits: the bytes 48 to 57, the most significant first.
use Rattle.std.specs.Prelude.{ℕ, zero, suc, ◌+◌, ◌-◌, ◌*◌, ◌/◌, ◌%◌, cond, List, [], ◌∷◌, ◌++◌, length, Ok, Err, Result, nat_le}
use Rattle.octets.specs.Bytes.{is_digit}
use Rattle.refusal.specs.declared.faults.ItemFault.{ItemFault}

abbrev pub digit_value : ItemFault → ℕ → Result ℕ ItemFault
digit_value f b = cond (is_digit b) (Ok (b - 48)) (Err f)

-- the number that bs write behind digits that write n, or f where a byte is no digit
abbrev pub numeral_from : ItemFault → ℕ → List ℕ → Result ℕ ItemFault
numeral_from f n [] = Ok n
numeral_from f n (b ∷ bs) = cond (is_digit b) (numeral_from f (n * 10 + (b - 48)) bs) (Err f)

-- the number that bs write, or f where they are no numeral: a numeral has at most nine digits, and nothing else
unfoldable pub numeral : ItemFault → List ℕ → Result ℕ ItemFault
numeral f bs = cond (nat_le (length bs) 9) (numeral_from f 0 bs) (Err f)

-- the last w digits of n, with zeros before them where it has fewer
abbrev pub digits : ℕ → ℕ → List ℕ
digits zero n = []
digits (suc w) n = digits w (n / 10) ++ ((48 + n % 10) ∷ [])
