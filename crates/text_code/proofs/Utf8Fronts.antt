-- Reading by the first byte and what may follow it finds exactly the spellings of UTF-8.
use Rattle.std.proofs.Common.{◌≡◌, ℕ, ◌+◌, ◌-◌, ◌*◌, ◌/◌, ◌%◌, ◌<◌, ◌≤◌, cond, eqb, ◌⊎◌, List, [], ◌∷◌, ◌++◌, length, get_or, take, drop, Some, None, Option, sym, refl, ap, ◌∙◌, subst, inl, inr, ⊎_elim, arith}
use Rattle.std.proofs.lemmas.List.{take-append-drop, take_more}
use Rattle.std.proofs.lemmas.Bool.{cases_lt}
use Rattle.std.proofs.lemmas.Bool.Decides.{nat_tests}
use Rattle.text_code.specs.Codes.{utf8, one_byte, two_bytes, three_bytes, four_bytes, continuation}
use Rattle.text_code.specs.Reading.{Front}
use Rattle.text_code.specs.Spellings.{Begins}
use Rattle.text_code.specs.Utf8Forms.{and_then, bits_at, decoded, least_second, greatest_second, long_at, form_at}
use Rattle.text_code.specs.declared.codes.Decoded.{Decoded}
use Rattle.text_code.proofs.Utf8Ranges.{utf8_one, utf8_two, utf8_three, utf8_four, Form, one, two, three, four, form}

-- what is read at the front
unfoldable pub utf8_front : List ℕ → Option Decoded
utf8_front bytes = cond (eqb (length bytes) 0) None (form_at bytes (get_or bytes 0 0))

-- a byte that stands at a place and lies between two
record Byte (bytes : List ℕ) (place low high x : ℕ) : Type 0 where
  there : place < length bytes
  least : low ≤ get_or bytes place 0
  most : get_or bytes place 0 ≤ high
  bits : x ≡ get_or bytes place 0 % 64

byte_from : (bytes : List ℕ) (place low high x : ℕ) → bits_at bytes place low high ≡ Some x → Byte bytes place low high x
unfolding bits_at
byte_from bytes place low high x e = record { there = grind (arith, nat_tests); least = grind (arith, nat_tests); most = grind (arith, nat_tests); bits = grind (arith, nat_tests) }

bits_at_lem : (bytes : List ℕ) (place low high : ℕ) → place < length bytes → low ≤ get_or bytes place 0 → get_or bytes place 0 ≤ high → bits_at bytes place low high ≡ Some (get_or bytes place 0 % 64)
unfolding bits_at
bits_at_lem bytes place low high t l m = grind (arith, nat_tests)

parts : {A B : Type 0} (o : Option A) (f : A → Option B) (d : B) → and_then o f ≡ Some d → (x : A) × (o ≡ Some x) × (f x ≡ Some d)
parts None f d e = let z : ◌≡◌ {A = ℕ} 0 1 = cc in absurd (omega arith)
parts (Some x) f d e = (x, refl, e)

-- the first bytes, written out
take_two : (bytes : List ℕ) → 2 ≤ length bytes → take 2 bytes ≡ get_or bytes 0 0 ∷ get_or bytes 1 0 ∷ []
take_two bytes h = take_more bytes 1 0 (omega arith) ∙ ap (λ s. s ++ get_or bytes 1 0 ∷ []) (take_more bytes 0 0 (omega arith))

take_three : (bytes : List ℕ) → 3 ≤ length bytes → take 3 bytes ≡ get_or bytes 0 0 ∷ get_or bytes 1 0 ∷ get_or bytes 2 0 ∷ []
take_three bytes h = take_more bytes 2 0 (omega arith) ∙ ap (λ s. s ++ get_or bytes 2 0 ∷ []) (take_two bytes (omega arith))

take_four : (bytes : List ℕ) → 4 ≤ length bytes → take 4 bytes ≡ get_or bytes 0 0 ∷ get_or bytes 1 0 ∷ get_or bytes 2 0 ∷ get_or bytes 3 0 ∷ []
take_four bytes h = take_more bytes 3 0 (omega arith) ∙ ap (λ s. s ++ get_or bytes 3 0 ∷ []) (take_three bytes (omega arith))

abbrev Told : List ℕ → Decoded → Type 0
Told bytes d = Begins utf8 d.character d.length bytes

told : (bytes : List ℕ) (n k : ℕ) (d : Decoded) → decoded n k ≡ Some d → k ≤ length bytes → utf8 n ≡ Some (take k bytes) → Told bytes d
told bytes n k d e h s =
    let at : record { character = n; length = k } ≡ d = cc in
    subst (Told bytes) at (record { within = h; spells = s })

told_two : (bytes : List ℕ) (d : Decoded) → 194 ≤ get_or bytes 0 0 → get_or bytes 0 0 ≤ 223 → long_at bytes (get_or bytes 0 0) 192 2 ≡ Some d → Told bytes d
told_two bytes d l h e =
    let a = get_or bytes 0 0 in
    let p = parts (bits_at bytes 1 (least_second a) (greatest_second a)) _ d e in
    let b = byte_from bytes 1 (least_second a) (greatest_second a) p.0 p.1 in
    let n = (a - 192) * 64 + p.0 in
    let low : 128 ≤ get_or bytes 1 0 = grind (arith, nat_tests) in
    let high : get_or bytes 1 0 ≤ 191 = grind (arith, nat_tests) in
    let first : 192 + n / 64 ≡ a = omega arith in
    let second : continuation n ≡ get_or bytes 1 0 = omega arith in
    told bytes n 2 d p.2 (omega arith) (utf8_two n (omega arith) (omega arith) ∙ ap Some (cc (first, second, take_two bytes (omega arith))))

told_three : (bytes : List ℕ) (d : Decoded) → 224 ≤ get_or bytes 0 0 → get_or bytes 0 0 ≤ 239 → long_at bytes (get_or bytes 0 0) 224 3 ≡ Some d → Told bytes d
told_three bytes d l h e =
    let a = get_or bytes 0 0 in
    let p = parts (bits_at bytes 1 (least_second a) (greatest_second a)) _ d e in
    let b = byte_from bytes 1 (least_second a) (greatest_second a) p.0 p.1 in
    let q = parts (bits_at bytes 2 128 191) _ d p.2 in
    let c = byte_from bytes 2 128 191 q.0 q.1 in
    let n = ((a - 224) * 64 + p.0) * 64 + q.0 in
    let low : 128 ≤ get_or bytes 1 0 = grind (arith, nat_tests) in
    let high : get_or bytes 1 0 ≤ 191 = grind (arith, nat_tests) in
    let long : 2048 ≤ n = grind (arith, nat_tests) in
    let apart : (n < 55296) ⊎ (57343 < n) = ⊎_elim (λ i. inl (grind (arith, nat_tests))) (λ i. inr (omega arith)) (cases_lt a 238) in
    let first : 224 + n / 4096 ≡ a = omega arith in
    let second : continuation (n / 64) ≡ get_or bytes 1 0 = omega arith in
    let third : continuation n ≡ get_or bytes 2 0 = omega arith in
    told bytes n 3 d q.2 (omega arith) (utf8_three n long (omega arith) apart ∙ ap Some (cc (first, second, third, take_three bytes (omega arith))))

told_four : (bytes : List ℕ) (d : Decoded) → 240 ≤ get_or bytes 0 0 → get_or bytes 0 0 ≤ 244 → long_at bytes (get_or bytes 0 0) 240 4 ≡ Some d → Told bytes d
told_four bytes d l h e =
    let a = get_or bytes 0 0 in
    let p = parts (bits_at bytes 1 (least_second a) (greatest_second a)) _ d e in
    let b = byte_from bytes 1 (least_second a) (greatest_second a) p.0 p.1 in
    let q = parts (bits_at bytes 2 128 191) _ d p.2 in
    let c = byte_from bytes 2 128 191 q.0 q.1 in
    let r = parts (bits_at bytes 3 128 191) _ d q.2 in
    let f = byte_from bytes 3 128 191 r.0 r.1 in
    let n = (((a - 240) * 64 + p.0) * 64 + q.0) * 64 + r.0 in
    let low : 128 ≤ get_or bytes 1 0 = grind (arith, nat_tests) in
    let high : get_or bytes 1 0 ≤ 191 = grind (arith, nat_tests) in
    let long : 65536 ≤ n = grind (arith, nat_tests) in
    let most : n ≤ 1114111 = grind (arith, nat_tests) in
    let first : 240 + n / 262144 ≡ a = omega arith in
    let second : continuation (n / 4096) ≡ get_or bytes 1 0 = omega arith in
    let third : continuation (n / 64) ≡ get_or bytes 2 0 = omega arith in
    let fourth : continuation n ≡ get_or bytes 3 0 = omega arith in
    told bytes n 4 d r.2 (omega arith) (utf8_four n long most ∙ ap Some (cc (first, second, third, fourth, take_four bytes (omega arith))))

-- the form by the first byte
form_one : (bytes : List ℕ) (a : ℕ) → a ≤ 127 → form_at bytes a ≡ decoded a 1
unfolding form_at
form_one bytes a h = grind (arith, nat_tests)

form_two : (bytes : List ℕ) (a : ℕ) → 194 ≤ a → a ≤ 223 → form_at bytes a ≡ long_at bytes a 192 2
unfolding form_at
form_two bytes a l h = grind (arith, nat_tests)

form_three : (bytes : List ℕ) (a : ℕ) → 224 ≤ a → a ≤ 239 → form_at bytes a ≡ long_at bytes a 224 3
unfolding form_at
form_three bytes a l h = grind (arith, nat_tests)

form_four : (bytes : List ℕ) (a : ℕ) → 240 ≤ a → a ≤ 244 → form_at bytes a ≡ long_at bytes a 240 4
unfolding form_at
form_four bytes a l h = grind (arith, nat_tests)

form_none : (bytes : List ℕ) (a : ℕ) → (127 < a) × (a < 194) → form_at bytes a ≡ None
unfolding form_at
form_none bytes a h = grind (arith, nat_tests)

form_past : (bytes : List ℕ) (a : ℕ) → 244 < a → form_at bytes a ≡ None
unfolding form_at
form_past bytes a h = grind (arith, nat_tests)

pub front_some : (bytes : List ℕ) → 0 < length bytes → utf8_front bytes ≡ form_at bytes (get_or bytes 0 0)
unfolding utf8_front
front_some bytes h = grind (arith, nat_tests)

pub front_none : (bytes : List ℕ) → length bytes ≡ 0 → utf8_front bytes ≡ None
unfolding utf8_front
front_none bytes h = grind (arith, nat_tests)

never : {P : Type 0} (o : Option Decoded) (d : Decoded) → o ≡ None → o ≡ Some d → P
never o d none some = let z : ◌≡◌ {A = ℕ} 0 1 = cc in absurd (omega arith)

form_told : (bytes : List ℕ) (d : Decoded) → 0 < length bytes → form_at bytes (get_or bytes 0 0) ≡ Some d → Told bytes d
form_told bytes d some e =
    let a = get_or bytes 0 0 in
    ⊎_elim (λ h. told bytes a 1 d (sym (form_one bytes a (omega arith)) ∙ e) some (utf8_one a (omega arith) ∙ ap Some (sym (take_more bytes 0 0 some))))
    (λ h. ⊎_elim (λ i. never (form_at bytes a) d (form_none bytes a (h, i)) e)
    (λ i. ⊎_elim (λ j. told_two bytes d i (omega arith) (sym (form_two bytes a i (omega arith)) ∙ e))
    (λ j. ⊎_elim (λ k. told_three bytes d j (omega arith) (sym (form_three bytes a j (omega arith)) ∙ e))
    (λ k. ⊎_elim (λ l. told_four bytes d k (omega arith) (sym (form_four bytes a k (omega arith)) ∙ e))
    (λ l. never (form_at bytes a) d (form_past bytes a l) e)
    (cases_lt a 245))
    (cases_lt a 240))
    (cases_lt a 224))
    (cases_lt a 194))
    (cases_lt a 128)

front_told : (bytes : List ℕ) (d : Decoded) → utf8_front bytes ≡ Some d → Begins utf8 d.character d.length bytes
front_told bytes d e =
    ⊎_elim (λ h. form_told bytes d h (sym (front_some bytes h) ∙ e)) (λ h. never (utf8_front bytes) d (front_none bytes (omega arith)) e) (cases_lt 0 (length bytes))

-- each spelling is found, whatever stands behind it
two_found : (n : ℕ) (rest : List ℕ) → 128 ≤ n → n ≤ 2047 → long_at (two_bytes n ++ rest) (192 + n / 64) 192 2 ≡ decoded n 2
two_found n rest l h =
    let bytes = two_bytes n ++ rest in
    let a = 192 + n / 64 in
    let second : bits_at bytes 1 (least_second a) (greatest_second a) ≡ Some ((128 + n % 64) % 64) =
    bits_at_lem bytes 1 (least_second a) (greatest_second a) (omega arith) (grind (arith, nat_tests)) (grind (arith, nat_tests)) in
    let number : (a - 192) * 64 + (128 + n % 64) % 64 ≡ n = omega arith in
    rw (second, number)

three_found : (n : ℕ) (rest : List ℕ) → 2048 ≤ n → n ≤ 65535 → (n < 55296) ⊎ (57343 < n) → long_at (three_bytes n ++ rest) (224 + n / 4096) 224 3 ≡ decoded n 3
three_found n rest l h apart =
    let bytes = three_bytes n ++ rest in
    let a = 224 + n / 4096 in
    let second : bits_at bytes 1 (least_second a) (greatest_second a) ≡ Some ((128 + n / 64 % 64) % 64) =
    bits_at_lem bytes 1 (least_second a) (greatest_second a) (omega arith) (grind (arith, nat_tests)) (grind (arith, nat_tests)) in
    let third : bits_at bytes 2 128 191 ≡ Some ((128 + n % 64) % 64) = bits_at_lem bytes 2 128 191 (omega arith) (omega arith) (omega arith) in
    let number : ((a - 224) * 64 + (128 + n / 64 % 64) % 64) * 64 + (128 + n % 64) % 64 ≡ n = omega arith in
    rw (second, third, number)

four_found : (n : ℕ) (rest : List ℕ) → 65536 ≤ n → n ≤ 1114111 → long_at (four_bytes n ++ rest) (240 + n / 262144) 240 4 ≡ decoded n 4
four_found n rest l h =
    let bytes = four_bytes n ++ rest in
    let a = 240 + n / 262144 in
    let second : bits_at bytes 1 (least_second a) (greatest_second a) ≡ Some ((128 + n / 4096 % 64) % 64) =
    bits_at_lem bytes 1 (least_second a) (greatest_second a) (omega arith) (grind (arith, nat_tests)) (grind (arith, nat_tests)) in
    let third : bits_at bytes 2 128 191 ≡ Some ((128 + n / 64 % 64) % 64) = bits_at_lem bytes 2 128 191 (omega arith) (omega arith) (omega arith) in
    let fourth : bits_at bytes 3 128 191 ≡ Some ((128 + n % 64) % 64) = bits_at_lem bytes 3 128 191 (omega arith) (omega arith) (omega arith) in
    let number : (((a - 240) * 64 + (128 + n / 4096 % 64) % 64) * 64 + (128 + n / 64 % 64) % 64) * 64 + (128 + n % 64) % 64 ≡ n = omega arith in
    rw (second, third, fourth, number)

form_found : (n : ℕ) (s rest : List ℕ) → Form n s → utf8_front (s ++ rest) ≡ decoded n (length s)
form_found n s rest (one h e) = rw e (front_some (one_byte n ++ rest) (omega arith) ∙ form_one (one_byte n ++ rest) n h)
form_found n s rest (two l h e) =
    rw e (front_some (two_bytes n ++ rest) (omega arith) ∙ form_two (two_bytes n ++ rest) (192 + n / 64) (omega arith) (omega arith) ∙ two_found n rest l h)
form_found n s rest (three l h apart e) =
    rw e (front_some (three_bytes n ++ rest) (omega arith) ∙ form_three (three_bytes n ++ rest) (224 + n / 4096) (omega arith) (omega arith) ∙ three_found n rest l h apart)
form_found n s rest (four l h e) =
    rw e (front_some (four_bytes n ++ rest) (omega arith) ∙ form_four (four_bytes n ++ rest) (240 + n / 262144) (omega arith) (omega arith) ∙ four_found n rest l h)

front_found : (n : ℕ) (s rest : List ℕ) → utf8 n ≡ Some s → utf8_front (s ++ rest) ≡ decoded n (length s)
front_found n s rest e = form_found n s rest (form n s e)

-- what reading finds is the front
pub front : (bytes : List ℕ) (r : Option Decoded) → r ≡ utf8_front bytes → Front utf8 bytes r
front bytes (Some d) e = front_told bytes d (sym e)
front bytes None e = λ n k b. never (utf8_front bytes) (record { character = n; length = length (take k bytes) }) (sym e) (ap utf8_front (sym (take-append-drop k bytes)) ∙ front_found n (take k bytes) (drop k bytes) b.spells)
