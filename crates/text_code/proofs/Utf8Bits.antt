-- A form is read byte by byte, or not at all where bytes are missing.
use Rattle.std.proofs.Common.{◌≡◌, ℕ, ◌+◌, ◌-◌, ◌*◌, ◌%◌, ◌<◌, ◌≤◌, zero, suc, cond, ◌&&◌, nat_le, List, length, get_or, take, drop, Some, None, Option, sym, refl, ap, ◌∙◌, arith}
use Rattle.std.proofs.lemmas.List.{get_or-drop, get_or-take}
use Rattle.std.proofs.lemmas.Bool.Decides.{nat_tests}
use Rattle.text_code.specs.Utf8Forms.{and_then, bits_at, long_at, rest_at, least_second, greatest_second}

bits_missing : (bytes : List ℕ) (place low high : ℕ) → length bytes ≤ place → bits_at bytes place low high ≡ None
unfolding bits_at
bits_missing bytes place low high h = grind (arith, nat_tests)

bits_some : (bytes : List ℕ) (place low high bits : ℕ) → bits_at bytes place low high ≡ Some bits → place < length bytes
unfolding bits_at
bits_some bytes place low high bits e = grind (arith, nat_tests)

-- the last six bits of a byte that lies between two
abbrev pub bits_within : ℕ → ℕ → ℕ → Option ℕ
bits_within low high x = cond (nat_le low x && nat_le x high) (Some (x % 64)) None

bits_read : (bytes : List ℕ) (place low high : ℕ) → place < length bytes → bits_at bytes place low high ≡ bits_within low high (get_or bytes place 0)
unfolding bits_at
bits_read bytes place low high h = grind (arith, nat_tests)

pub long_missing : (bytes : List ℕ) (first lead n : ℕ) → length bytes ≤ 1 → long_at bytes first lead n ≡ None
long_missing bytes first lead n h = rw (bits_missing bytes 1 (least_second first) (greatest_second first) h)

bits_as_read : (bytes : List ℕ) (place low high x a b : ℕ) (o p : Option ℕ) → place < length bytes → x ≡ get_or bytes place 0 → a ≡ low → b ≡ high → o ≡ bits_within a b x → o ≡ p → bits_at bytes place low high ≡ p
bits_as_read bytes place low high x a b o p h at least most e same =
    bits_read bytes place low high h ∙ sym (e ∙ ap (λ z. bits_within z b x) least ∙ ap (λ z. bits_within low z x) most ∙ ap (bits_within low high) at) ∙ same

pub long_read : (bytes : List ℕ) (first lead n x a b : ℕ) (o p : Option ℕ) → 1 < length bytes → x ≡ get_or bytes 1 0 → a ≡ least_second first → b ≡ greatest_second first → o ≡ bits_within a b x → o ≡ p → long_at bytes first lead n ≡ and_then p (λ second. rest_at bytes n ((first - lead) * 64 + second) 2 (n - 2))
long_read bytes first lead n x a b o p h at low high e same = rw (bits_as_read bytes 1 (least_second first) (greatest_second first) x a b o p h at low high e same)

rest_missing_from : (bytes : List ℕ) (n so_far place more : ℕ) (o : Option ℕ) → bits_at bytes place 0x80 0xBF ≡ o → ((bits : ℕ) → place < length bytes → rest_at bytes n (so_far * 64 + bits) (place + 1) more ≡ None) → and_then o (λ bits. rest_at bytes n (so_far * 64 + bits) (place + 1) more) ≡ None
rest_missing_from bytes n so_far place more None e others = refl
rest_missing_from bytes n so_far place more (Some bits) e others = others bits (bits_some bytes place 0x80 0xBF bits e)

pub rest_missing : (bytes : List ℕ) (n so_far place more : ℕ) → place ≤ length bytes → length bytes < place + more → rest_at bytes n so_far place more ≡ None
rest_missing bytes n so_far place zero h l = absurd (omega arith)
rest_missing bytes n so_far place (suc more) h l =
    rest_missing_from bytes n so_far place more (bits_at bytes place 0x80 0xBF) refl (λ bits i. rest_missing bytes n (so_far * 64 + bits) (place + 1) more (omega arith) (omega arith))

-- the byte of a form at an index behind the second
item_at : (bytes items : List ℕ) (n i : ℕ) → items ≡ take (n - 2) (drop 2 bytes) → 2 + i < n → get_or items i 0 ≡ get_or bytes (2 + i) 0
item_at bytes items n i e h = ap (λ xs. get_or xs i 0) e ∙ get_or-take (n - 2) (drop 2 bytes) i 0 (omega arith) ∙ get_or-drop 2 bytes i 0

pub rest_read : (bytes items : List ℕ) (n so_far i a b : ℕ) (o p : Option ℕ) → items ≡ take (n - 2) (drop 2 bytes) → 2 + i < n → n ≤ length bytes → a ≡ 0x80 → b ≡ 0xBF → o ≡ bits_within a b (get_or items i 0) → o ≡ p → rest_at bytes n so_far (2 + i) (n - (2 + i)) ≡ and_then p (λ bits. rest_at bytes n (so_far * 64 + bits) (2 + (i + 1)) (n - (2 + (i + 1))))
rest_read bytes items n so_far i a b o p part h l low high e same =
    let one : n - (2 + i) ≡ suc (n - (2 + (i + 1))) = omega arith in
    let place : 2 + i + 1 ≡ 2 + (i + 1) = omega arith in
    let bits : bits_at bytes (2 + i) 0x80 0xBF ≡ p = bits_as_read bytes (2 + i) 0x80 0xBF (get_or items i 0) a b o p (omega arith) (item_at bytes items n i part h) low high e same in
    ap (rest_at bytes n so_far (2 + i)) one ∙ ap (λ q. and_then q (λ bits. rest_at bytes n (so_far * 64 + bits) (2 + i + 1) (n - (2 + (i + 1))))) bits ∙ ap (λ q. and_then p (λ bits. rest_at bytes n (so_far * 64 + bits) q (n - (2 + (i + 1))))) place
