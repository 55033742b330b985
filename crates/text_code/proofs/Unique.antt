-- From the laws of a code: no two texts have the same bytes, and a text that begins another begins it as a list of characters.
use Rattle.std.proofs.Common.{◌≡◌, ℕ, ◌+◌, ◌-◌, ◌≤◌, List, [], ◌∷◌, ◌++◌, length, take, drop, Some, None, Option, sym, refl, ap, ◌∙◌, subst, ⊎_elim, arith, take-add}
use Rattle.std.proofs.lemmas.List.Prefix.{front_rest}
use Rattle.std.proofs.lemmas.List.{append_assoc, append_cancel_left, append-nil, length-append, length-take-le, take-append-drop, take_at}
use Rattle.std.proofs.lemmas.Bool.{cases_lt}
use Rattle.text_code.specs.declared.codes.Decoded.{Decoded}
use Rattle.text_code.specs.Reading.{Front}
use Rattle.text_code.specs.Spellings.{Begins, OneToFour, PrefixFree, Spelled, UniqueDecoding}
use Rattle.text_code.proofs.Decoding.{Parted, spelled_parts, spelled_one}

-- a spelling that begins the bytes
pub begins : (f : ℕ → Option (List ℕ)) (n : ℕ) (s rest bytes : List ℕ) → f n ≡ Some s → bytes ≡ s ++ rest → Begins f n (length s) bytes
begins f n s rest bytes e at =
    record {
      within = omega (arith, ap length at ∙ length-append s rest);
      spells = e ∙ ap Some (sym (ap (take (length s)) at ∙ take_at s rest (length s) refl));
    }

-- at most one character begins the bytes
shorter : (f : ℕ → Option (List ℕ)) (m n j k : ℕ) (bytes : List ℕ) → PrefixFree f → j ≤ k → Begins f m j bytes → Begins f n k bytes → m ≡ n
shorter f m n j k bytes apart h a b =
    let e : take k bytes ≡ take j bytes ++ take (k - j) (drop j bytes) = ap (λ i. take i bytes) (omega arith) ∙ take-add j (k - j) bytes in
    apart m n (take j bytes) (take (k - j) (drop j bytes)) a.spells (b.spells ∙ ap Some e)

pub begins_same : (f : ℕ → Option (List ℕ)) (m n j k : ℕ) (bytes : List ℕ) → PrefixFree f → Begins f m j bytes → Begins f n k bytes → (m ≡ n) × (j ≡ k)
begins_same f m n j k bytes apart a b =
    let e : m ≡ n = ⊎_elim (λ h. shorter f m n j k bytes apart (omega arith) a b) (λ h. sym (shorter f n m k j bytes apart h b a)) (cases_lt j k) in
    let s : Some (take j bytes) ≡ Some (take k bytes) = sym a.spells ∙ ap f e ∙ b.spells in
    let t : take j bytes ≡ take k bytes = cc in
    (e, sym (length-take-le j bytes a.within) ∙ ap length t ∙ length-take-le k bytes b.within)

-- what is left of the characters ds behind cs, with their bytes
pub record Rest (f : ℕ → Option (List ℕ)) (cs ds ys : List ℕ) : Type 0 where
  pub others : List ℕ
  pub parts : ds ≡ cs ++ others
  pub spelled : Spelled f others ys

-- two texts of which one begins the other have the same first character
same_first : (f : ℕ → Option (List ℕ)) (c d : ℕ) (cs ds xs ys : List ℕ) → PrefixFree f → (p : Parted f c cs xs) → Parted f d ds (xs ++ ys) → (c ≡ d) × Spelled f ds (p.others ++ ys)
same_first f c d cs ds xs ys apart p q =
    let whole : xs ++ ys ≡ p.first ++ (p.others ++ ys) = ap (λ zs. zs ++ ys) p.joined ∙ append_assoc p.first p.others ys in
    let same : c ≡ d = (begins_same f c d (length p.first) (length q.first) (xs ++ ys) apart (begins f c p.first (p.others ++ ys) (xs ++ ys) p.spells whole) (begins f d q.first q.others (xs ++ ys) q.spells q.joined)).0 in
    let firsts : Some p.first ≡ Some q.first = sym p.spells ∙ ap f same ∙ q.spells in
    let e : p.first ≡ q.first = cc in
    (same, subst (Spelled f ds) (append_cancel_left q.first q.others (p.others ++ ys) (sym q.joined ∙ whole ∙ ap (λ zs. zs ++ (p.others ++ ys)) e)) q.spelled)

pub spelled_rest : (f : ℕ → Option (List ℕ)) (cs ds xs ys : List ℕ) → OneToFour f → PrefixFree f → Spelled f cs xs → Spelled f ds (xs ++ ys) → Rest f cs ds ys
spelled_rest f [] ds xs ys short apart s t =
    let e : xs ≡ [] = cc in
    record { others = ds; parts = refl; spelled = subst (λ zs. Spelled f ds (zs ++ ys)) e t }
spelled_rest f (c ∷ cs) [] xs ys short apart s t =
    let p = spelled_parts f c cs xs s in
    let e : xs ++ ys ≡ [] = cc in
    let n : length xs + length ys ≡ 0 = sym (length-append xs ys) ∙ ap length e in
    absurd (omega (arith, short c p.first p.spells, ap length p.joined ∙ length-append p.first p.others))
spelled_rest f (c ∷ cs) (d ∷ ds) xs ys short apart s t =
    let p = spelled_parts f c cs xs s in
    let q = same_first f c d cs ds xs ys apart p (spelled_parts f d ds (xs ++ ys) t) in
    let r = spelled_rest f cs ds p.others ys short apart p.spelled q.1 in
    record { others = r.others; parts = ap (λ x. x ∷ ds) (sym q.0) ∙ ap (λ zs. c ∷ zs) r.parts; spelled = r.spelled }

-- no bytes spell no characters
spelled_nothing : (f : ℕ → Option (List ℕ)) (cs : List ℕ) → OneToFour f → Spelled f cs [] → cs ≡ []
spelled_nothing f [] short s = refl
spelled_nothing f (c ∷ cs) short s =
    let p = spelled_parts f c cs [] s in
    absurd (omega (arith, short c p.first p.spells, ap length p.joined ∙ length-append p.first p.others))

pub unique_decoding : (f : ℕ → Option (List ℕ)) → OneToFour f → PrefixFree f → UniqueDecoding f
unique_decoding f short apart cs ds bytes s t =
    let r = spelled_rest f cs ds bytes [] short apart s (subst (Spelled f ds) (sym (append-nil bytes)) t) in
    sym (append-nil cs) ∙ ap (λ zs. cs ++ zs) (sym (spelled_nothing f r.others short r.spelled)) ∙ sym r.parts

-- a character that is read at the front of a text is the text's first
pub read_first : (f : ℕ → Option (List ℕ)) (cs bytes : List ℕ) (n k : ℕ) → OneToFour f → PrefixFree f → Spelled f cs bytes → Begins f n k bytes → Rest f (n ∷ []) cs (drop k bytes)
read_first f cs bytes n k short apart s b =
    spelled_rest f (n ∷ []) cs (take k bytes) (drop k bytes) short apart (spelled_one f n (take k bytes) b.spells) (subst (Spelled f cs) (sym (take-append-drop k bytes)) s)

-- what is read at the front of a text whose first character is known, and what is left of it
pub record ReadFirst (f : ℕ → Option (List ℕ)) (c : ℕ) (cs bytes : List ℕ) (r : Option Decoded) : Type 0 where
  pub long : ℕ
  pub told : r ≡ Some (record { character = c; length = long })
  pub begins : Begins f c long bytes
  pub others : Spelled f cs (drop long bytes)

pub read_known : (f : ℕ → Option (List ℕ)) (c : ℕ) (cs bytes : List ℕ) (r : Option Decoded) → PrefixFree f → Spelled f (c ∷ cs) bytes → Front f bytes r → ReadFirst f c cs bytes r
read_known f c cs bytes None apart s h =
    let p = spelled_parts f c cs bytes s in
    absurd (h c (length p.first) (begins f c p.first p.others bytes p.spells p.joined))
read_known f c cs bytes (Some d) apart s h =
    let p = spelled_parts f c cs bytes s in
    let b = begins f c p.first p.others bytes p.spells p.joined in
    let same = begins_same f d.character c d.length (length p.first) bytes apart h b in
    record {
      long = length p.first;
      told = ap (λ n. Some (record { character = n; length = d.length })) same.0 ∙ ap (λ k. Some (record { character = c; length = k })) same.1;
      begins = b;
      others = subst (Spelled f cs) (sym (front_rest bytes p.first p.others p.joined)) p.spelled;
    }
