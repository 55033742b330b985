-- Reading a code with a sign.
use Rattle.std.proofs.Common.{◌≡◌, ℕ, zero, suc, ◌<◌, List, [], ◌∷◌, length, get_or, take, Some, None, Option, sym, ap, ◌∙◌, arith}
use Rattle.std.proofs.lemmas.Bool.Decides.{nat_tests}
use Rattle.text_code.specs.declared.codes.Decoded.{Decoded}
use Rattle.text_code.specs.Reading.{Front}
use Rattle.text_code.specs.Spellings.{NoneBegins}
use Rattle.text_code_tests.specs.OneMore.{sign_read, with_sign}

-- a spelling is one byte
one_byte_lem : (sign n k b : ℕ) (bytes : List ℕ) → with_sign sign n ≡ Some (take k (b ∷ bytes)) → with_sign sign n ≡ Some (b ∷ [])
one_byte_lem sign n zero b bytes e = grind (arith, nat_tests)
one_byte_lem sign n (suc k) b bytes e = grind (arith, nat_tests)

above : (sign n b : ℕ) → 128 < b → with_sign sign n ≡ Some (b ∷ []) → ⊥
above sign n b h e = grind (arith, nat_tests)

pub none_above : (sign : ℕ) (bytes : List ℕ) → 128 < get_or bytes 0 0 → NoneBegins (with_sign sign) bytes
none_above sign [] h n k s = omega arith
none_above sign (b ∷ bytes) h n k s = above sign n b h (one_byte_lem sign n k b bytes s.spells)

unlent : (sign n : ℕ) → None ≡ sign_read sign → with_sign sign n ≡ Some (128 ∷ []) → ⊥
unlent sign n none e = grind (arith, nat_tests)

lent : (sign : ℕ) (d : Decoded) → Some d ≡ sign_read sign → with_sign sign d.character ≡ Some (128 ∷ [])
lent sign d e = grind (arith, nat_tests)

one_long : (sign : ℕ) (d : Decoded) → Some d ≡ sign_read sign → d.length ≡ 1
one_long sign d e = grind (arith, nat_tests)

pub sign_front : (sign : ℕ) (bytes : List ℕ) (r : Option Decoded) → 0 < length bytes → 128 ≡ get_or bytes 0 0 → r ≡ sign_read sign → Front (with_sign sign) bytes r
sign_front sign [] r some h e = absurd (omega arith)
sign_front sign (b ∷ bytes) None some h e = λ n k s. unlent sign n e (one_byte_lem sign n k b bytes s.spells ∙ ap (λ x. Some (x ∷ [])) (sym h))
sign_front sign (b ∷ bytes) (Some d) some h e =
    let long = one_long sign d e in
    record {
      within = omega arith;
      spells = lent sign d e ∙ ap (λ x. Some (x ∷ [])) h ∙ ap (λ k. Some (take k (b ∷ bytes))) (sym long);
    }
