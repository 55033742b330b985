-- What a number prints with zeros before it.
use Rattle.std.proofs.Common.{arith, ◌≡◌, ℕ, false, ◌-◌, [], ◌++◌, length, replicate, ◌∙◌, ap, append-nil}
use Rattle.std.specs.Fmt.{format_spec, decimal, padded_integral, char_count}
use Rattle.show_parts.specs.Lines.{at_least}

none_less : (w n : ℕ) → w - n - 0 - 0 ≡ w - n
none_less w n = omega arith

pub zeroed : (w n : ℕ) → padded_integral (format_spec 32 0 4 w 18446744073709551615) false [] (decimal n) ≡ at_least w n
zeroed w n = unfold padded_integral char_count in
    ap (λ k. replicate k 48 ++ (decimal n ++ [])) (none_less w (length (decimal n)))
    ∙ ap (λ xs. replicate (w - length (decimal n)) 48 ++ xs) (append-nil (decimal n))
