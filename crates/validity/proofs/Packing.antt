-- Words made from a test: their bits, how one more bit is set, and how many are set.
use Rattle.std.proofs.Common.{◌≡◌, ℕ, zero, suc, ◌+◌, ◌*◌, ◌/◌, ◌%◌, ◌^◌, ◌<◌, ◌≤◌, max, Bool, true, false, ◌||◌, eqb, ◌⊎◌, List, [], ◌∷◌, length, get_or, set, sym, refl, ap, ◌∙◌, ap₂, inl, inr, pow-suc, arith}
use lib.Bits.{bit_or, or_step, or_zero_r}
use lib.Count.{ones, ones-le, ones_step}
use Rattle.std.proofs.lemmas.List.Sums.{sum_by-cons}
use Rattle.std.proofs.lemmas.Nat.{one_shl, shr-shr}
use Rattle.std.proofs.lemmas.Bool.{ne_eqb, eq-eqb, cases_eq}
use Rattle.std.proofs.lemmas.Bool.Decides.{nat_tests}
use Rattle.validity.specs.Zoning.{flag, word_of, words_of, count_of, ones_of}

-- tests that agree make the same words and the same counts
pub word_same : (k : ℕ) (f g : ℕ → Bool) → ((j : ℕ) → j < k → f j ≡ g j) → word_of k f ≡ word_of k g
unfolding word_of
word_same zero f g h = refl
word_same (suc k) f g h =
    ap₂ (λ b w. flag b + 2 * w) (h 0 (omega arith)) (word_same k (λ j. f (suc j)) (λ j. g (suc j)) (λ j l. h (suc j) (omega arith)))

pub words_same : (n : ℕ) (f g : ℕ → Bool) → ((z : ℕ) → f z ≡ g z) → words_of n f ≡ words_of n g
unfolding words_of
words_same zero f g h = refl
words_same (suc n) f g h =
    ap₂ (λ w ws. w ∷ ws) (word_same 64 f g (λ j _. h j)) (words_same n (λ z. f (64 + z)) (λ z. g (64 + z)) (λ z. h (64 + z)))

pub count_same : (n : ℕ) (f g : ℕ → Bool) → ((z : ℕ) → z < n → f z ≡ g z) → count_of n f ≡ count_of n g
unfolding count_of
count_same zero f g h = refl
count_same (suc n) f g h =
    ap₂ (λ b m. flag b + m) (h 0 (omega arith)) (count_same n (λ z. f (suc z)) (λ z. g (suc z)) (λ z l. h (suc z) (omega arith)))

flag_bound : (b : Bool) → flag b ≤ 1
flag_bound b = grind (arith, nat_tests)

or_none_lem : (b : Bool) (m n : ℕ) → (m ≡ n → ⊥) → b ≡ (b || eqb m n)
or_none_lem b m n h = let e = ne_eqb m n h in grind (arith, nat_tests)

or_hit : (b : Bool) (m n : ℕ) → m ≡ n → true ≡ (b || eqb m n)
or_hit b m n h = let e = eq-eqb m n h in grind (arith, nat_tests)

-- an equal test in the place of another
or_like : (b : Bool) (m n i j : ℕ) → (m ≡ n → i ≡ j) → (i ≡ j → m ≡ n) → (b || eqb m n) ≡ (b || eqb i j)
or_like b m n i j p q = ap (λ t. b || t) (like (cases_eq m n))
  where
    like : (m ≡ n) ⊎ (m ≡ n → ⊥) → eqb m n ≡ eqb i j
    like (inl e) = eq-eqb m n e ∙ sym (eq-eqb i j (p e))
    like (inr d) = ne_eqb m n d ∙ sym (ne_eqb i j (λ e. d (q e)))

lowest : (b : Bool) (p : ℕ) → (flag b + 2 * p) % 2 ≡ flag b
lowest b p = omega (arith, flag_bound b)

higher : (b : Bool) (p : ℕ) → (flag b + 2 * p) / 2 ≡ p
higher b p = omega (arith, flag_bound b)

-- setting bit i
pub word_mark : (k i : ℕ) (f : ℕ → Bool) → i < k → bit_or (word_of k f) (2 ^ i) ≡ word_of k (λ j. f j || eqb j i)
unfolding word_of
word_mark zero i f h = absurd (omega arith)
word_mark (suc k) zero f h =
    let p : ℕ = word_of k (λ j. f (suc j)) in
    let m : max (flag (f 0)) 1 ≡ 1 = omega (arith, flag_bound (f 0)) in
    or_step (flag (f 0) + 2 * p) 1 ∙ ap₂ (λ x y. bit_or x 0 * 2 + max y 1) (higher (f 0) p) (lowest (f 0) p)
    ∙ ap₂ (λ x y. x * 2 + y) (or_zero_r p) m ∙ omega arith
    ∙ ap₂ (λ b w. flag b + 2 * w) (or_hit (f 0) 0 0 refl)
    (word_same k (λ j. f (suc j)) (λ j. f (suc j) || eqb (suc j) 0) (λ j _. or_none_lem (f (suc j)) (suc j) 0 (λ e. omega arith)))
word_mark (suc k) (suc i) f h =
    let p : ℕ = word_of k (λ j. f (suc j)) in
    let t : 2 ^ suc i ≡ 2 ^ i * 2 = pow-suc 2 i in
    let half : 2 ^ suc i / 2 ≡ 2 ^ i = omega arith in
    let even : 2 ^ suc i % 2 ≡ 0 = omega arith in
    or_step (flag (f 0) + 2 * p) (2 ^ suc i) ∙ ap₂ (λ x y. bit_or x (2 ^ suc i / 2) * 2 + max y (2 ^ suc i % 2)) (higher (f 0) p) (lowest (f 0) p)
    ∙ ap₂ (λ x y. bit_or p x * 2 + max (flag (f 0)) y) half even
    ∙ ap (λ x. x * 2 + max (flag (f 0)) 0) (word_mark k i (λ j. f (suc j)) (omega arith)) ∙ omega arith
    ∙ ap₂ (λ b w. flag b + 2 * w) (or_none_lem (f 0) 0 (suc i) (λ e. omega arith))
    (word_same k (λ j. f (suc j) || eqb j i) (λ j. f (suc j) || eqb (suc j) (suc i)) (λ j _. or_like (f (suc j)) j i (suc j) (suc i) (λ e. omega arith) (λ e. omega arith)))

pub words_mark : (n i j : ℕ) (f : ℕ → Bool) → i < n → j < 64
    → set (words_of n f) i (bit_or (get_or (words_of n f) i 0) (2 ^ j)) ≡ words_of n (λ z. f z || eqb z (64 * i + j))
unfolding words_of
words_mark zero i j f h l = absurd (omega arith)
words_mark (suc n) zero j f h l =
    ap₂ (λ w ws. w ∷ ws)
    (word_mark 64 j f l ∙ word_same 64 (λ z. f z || eqb z j) (λ z. f z || eqb z (64 * 0 + j)) (λ z _. or_like (f z) z j z (64 * 0 + j) (λ e. omega arith) (λ e. omega arith)))
    (words_same n (λ z. f (64 + z)) (λ z. f (64 + z) || eqb (64 + z) (64 * 0 + j)) (λ z. or_none_lem (f (64 + z)) (64 + z) (64 * 0 + j) (λ e. omega arith)))
words_mark (suc n) (suc i) j f h l =
    ap₂ (λ w ws. w ∷ ws)
    (word_same 64 f (λ z. f z || eqb z (64 * suc i + j)) (λ z b. or_none_lem (f z) z (64 * suc i + j) (λ e. omega arith)))
    (words_mark n i j (λ z. f (64 + z)) (omega arith) l
    ∙ words_same n (λ z. f (64 + z) || eqb z (64 * i + j)) (λ z. f (64 + z) || eqb (64 + z) (64 * suc i + j)) (λ z. or_like (f (64 + z)) z (64 * i + j) (64 + z) (64 * suc i + j) (λ e. omega arith) (λ e. omega arith)))

-- setting a zone, as `|= 1 << ..` does
pub zone_mark : (ws : List ℕ) (z : ℕ) (f : ℕ → Bool) → z < 1000 → ws ≡ words_of 16 f
    → set ws (z / 64) (bit_or (get_or ws (z / 64) 0) ((1 * 2 ^ (z % 64)) % 2 ^ 64)) ≡ words_of 16 (λ y. f y || eqb y z)
zone_mark ws z f h e =
    let l : z % 64 < 64 = omega arith in
    let w : 64 * (z / 64) + z % 64 ≡ z = omega arith in
    ap₂ (λ xs b. set xs (z / 64) (bit_or (get_or xs (z / 64) 0) b)) e (one_shl (z % 64) 64 l)
    ∙ words_mark 16 (z / 64) (z % 64) f (omega arith) l
    ∙ ap (λ x. words_of 16 (λ y. f y || eqb y x)) w

-- how many bits are set
pub ones_word : (k : ℕ) (f : ℕ → Bool) → ones (word_of k f) ≡ count_of k f
unfolding word_of count_of ones
ones_word zero f = refl
ones_word (suc k) f =
    let p : ℕ = word_of k (λ j. f (suc j)) in
    ones_step (flag (f 0) + 2 * p) ∙ ap₂ (λ x y. x + ones y) (lowest (f 0) p) (higher (f 0) p)
    ∙ ap (λ m. flag (f 0) + m) (ones_word k (λ j. f (suc j)))

pub count_add : (m n : ℕ) (f : ℕ → Bool) → count_of (m + n) f ≡ count_of m f + count_of n (λ z. f (m + z))
unfolding count_of
count_add zero n f =
    let e : 0 + n ≡ n = omega arith in
    let t : count_of (0 + n) f ≡ count_of n (λ z. f (0 + z)) = ap (λ k. count_of k f) e ∙ count_same n f (λ z. f (0 + z)) (λ z _. ap f (omega arith)) in omega arith
count_add (suc m) n f =
    let e : suc m + n ≡ suc (m + n) = omega arith in
    let t : count_of (suc m + n) f ≡ flag (f 0) + count_of (m + n) (λ z. f (suc z)) = ap (λ k. count_of k f) e in
    let s : count_of n (λ z. f (suc (m + z))) ≡ count_of n (λ z. f (suc m + z)) = count_same n (λ z. f (suc (m + z))) (λ z. f (suc m + z)) (λ z _. ap f (omega arith)) in
    omega (arith, count_add m n (λ z. f (suc z)))

pub ones_words : (n : ℕ) (f : ℕ → Bool) → ones_of (words_of n f) ≡ count_of (64 * n) f
unfolding words_of count_of
ones_words zero f = refl
ones_words (suc n) f =
    let e : 64 * suc n ≡ 64 + 64 * n = omega arith in
    sum_by-cons ones (word_of 64 f) (words_of n (λ z. f (64 + z)))
    ∙ ap₂ (λ x y. x + y) (ones_word 64 f) (ones_words n (λ z. f (64 + z))) ∙ sym (count_add 64 (64 * n) f) ∙ ap (λ k. count_of k f) (sym e)

pub count_none : (n : ℕ) (f : ℕ → Bool) → ((z : ℕ) → f z ≡ false) → count_of n f ≡ 0
unfolding count_of
count_none zero f h = refl
count_none (suc n) f h = ap₂ (λ b m. flag b + m) (h 0) (count_none n (λ z. f (suc z)) (λ z. h (suc z)))

-- zones from 1000 on are in no list
pub ones_zones : (f : ℕ → Bool) → ((z : ℕ) → 1000 ≤ z → f z ≡ false) → ones_of (words_of 16 f) ≡ count_of 1000 f
ones_zones f h =
    let e = count_none 24 (λ z. f (1000 + z)) (λ z. h (1000 + z) (omega arith)) in
    omega (arith, ones_words 16 f, count_add 1000 24 f)

-- the bits
word_bit : (k j : ℕ) (f : ℕ → Bool) → j < k → word_of k f / 2 ^ j % 2 ≡ flag (f j)
unfolding word_of
word_bit zero j f h = absurd (omega arith)
word_bit (suc k) zero f h = let p : ℕ = word_of k (λ i. f (suc i)) in omega (arith, lowest (f 0) p)
word_bit (suc k) (suc j) f h =
    let p : ℕ = word_of k (λ i. f (suc i)) in
    let e : 1 + j ≡ suc j = omega arith in
    ap (λ i. (flag (f 0) + 2 * p) / 2 ^ i % 2) (sym e) ∙ ap (λ x. x % 2) (sym (shr-shr (flag (f 0) + 2 * p) 1 j))
    ∙ ap (λ x. x / 2 ^ j % 2) (higher (f 0) p) ∙ word_bit k j (λ i. f (suc i)) (omega arith)

pub words_bit : (n i j : ℕ) (f : ℕ → Bool) → i < n → j < 64 → get_or (words_of n f) i 0 / 2 ^ j % 2 ≡ flag (f (64 * i + j))
unfolding words_of
words_bit zero i j f h l = absurd (omega arith)
words_bit (suc n) zero j f h l = word_bit 64 j f l ∙ ap (λ z. flag (f z)) (omega arith)
words_bit (suc n) (suc i) j f h l = words_bit n i j (λ z. f (64 + z)) (omega arith) l ∙ ap (λ z. flag (f z)) (omega arith)

pub length-words : (n : ℕ) (f : ℕ → Bool) → length (words_of n f) ≡ n
unfolding words_of
length-words zero f = refl
length-words (suc n) f = ap suc (length-words n (λ z. f (64 + z)))

-- a word has at most 64 bits
pub ones_bound : (ws : List ℕ) → ((i : ℕ) → get_or ws i 0 < 18446744073709551616) → ones_of ws ≤ 64 * length ws
ones_bound [] h = omega arith
ones_bound (w ∷ ws) h = omega (arith, ones-le 64 w (h 0), ones_bound ws (λ i. h (suc i)), sum_by-cons ones w ws)
