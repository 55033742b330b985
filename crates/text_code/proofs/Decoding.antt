-- Texts in any code, from its spellings f: put together, read further, and taken apart.
use Rattle.std.proofs.Common.{◌≡◌, ℕ, ◌+◌, ◌-◌, ◌≤◌, List, [], ◌∷◌, ◌++◌, length, take, drop, Some, None, Option, sym, refl, ap, ◌∙◌, subst, arith}
use Rattle.std.proofs.lemmas.List.{append_assoc, append-nil, length-drop, length-take-le, take_rest}
use Rattle.text_code.specs.declared.codes.Decoded.{Decoded}
use Rattle.text_code.specs.Reading.{Front}
use Rattle.text_code.specs.Spellings.{Begins, OneToFour, Spelled, join, spell_all}

-- the first character's spelling, then those of the others
pub record Parted (f : ℕ → Option (List ℕ)) (c : ℕ) (cs bytes : List ℕ) : Type 0 where
  pub first : List ℕ
  pub others : List ℕ
  pub spells : f c ≡ Some first
  pub spelled : Spelled f cs others
  pub joined : bytes ≡ first ++ others

part : (f : ℕ → Option (List ℕ)) (c : ℕ) (cs bytes : List ℕ) (o p : Option (List ℕ)) → f c ≡ o → spell_all f cs ≡ p → join o p ≡ Some bytes → Parted f c cs bytes
part f c cs bytes None p e g h = let z : ◌≡◌ {A = ℕ} 0 1 = cc in absurd (omega arith)
part f c cs bytes (Some s) None e g h = let z : ◌≡◌ {A = ℕ} 0 1 = cc in absurd (omega arith)
part f c cs bytes (Some s) (Some others) e g h = record { first = s; others = others; spells = e; spelled = g; joined = cc }

pub spelled_parts : (f : ℕ → Option (List ℕ)) (c : ℕ) (cs bytes : List ℕ) → Spelled f (c ∷ cs) bytes → Parted f c cs bytes
spelled_parts f c cs bytes s = part f c cs bytes (f c) (spell_all f cs) refl refl s

pub spelled_cons : (f : ℕ → Option (List ℕ)) (c : ℕ) (cs s others : List ℕ) → f c ≡ Some s → Spelled f cs others → Spelled f (c ∷ cs) (s ++ others)
spelled_cons f c cs s others e g = ap (λ o. join o (spell_all f cs)) e ∙ ap (join (Some s)) g

pub spelled-append : (f : ℕ → Option (List ℕ)) (cs ds xs ys : List ℕ) → Spelled f cs xs → Spelled f ds ys → Spelled f (cs ++ ds) (xs ++ ys)
spelled-append f [] ds xs ys s t = let e : [] ≡ xs = cc in subst (λ zs. Spelled f ds (zs ++ ys)) e t
spelled-append f (c ∷ cs) ds xs ys s t =
    let p = spelled_parts f c cs xs s in
    let e : p.first ++ (p.others ++ ys) ≡ xs ++ ys = sym (append_assoc p.first p.others ys) ∙ ap (λ zs. zs ++ ys) (sym p.joined) in
    subst (Spelled f (c ∷ (cs ++ ds))) e (spelled_cons f c (cs ++ ds) p.first (p.others ++ ys) p.spells (spelled-append f cs ds p.others ys p.spelled t))

pub spelled_one : (f : ℕ → Option (List ℕ)) (c : ℕ) (s : List ℕ) → f c ≡ Some s → Spelled f (c ∷ []) s
spelled_one f c s e = subst (Spelled f (c ∷ [])) (append-nil s) (spelled_cons f c [] s [] e refl)

pub read_within : (f : ℕ → Option (List ℕ)) (bytes : List ℕ) (at n k : ℕ) → at ≤ length bytes → Begins f n k (drop at bytes) → at + k ≤ length bytes
read_within f bytes at n k h b = omega (arith, b.within, length-drop at bytes)

-- a spelling has at least one byte
pub begins_some : (f : ℕ → Option (List ℕ)) (n k : ℕ) (bytes : List ℕ) → OneToFour f → Begins f n k bytes → 1 ≤ k
begins_some f n k bytes short b = omega (arith, short n (take k bytes) b.spells, length-take-le k bytes b.within)

-- what is read from `&bytes[at..]`
pub front_at : (f : ℕ → Option (List ℕ)) (bytes : List ℕ) (at : ℕ) (r : Option Decoded) → Front f (take (length bytes - at) (drop at bytes)) r → Front f (drop at bytes) r
front_at f bytes at r h = subst (λ zs. Front f zs r) (take_rest bytes at) h

-- what `spell` tells, for the bytes that its spelling lends
pub spelt : (o : Option (List ℕ)) (s t : List ℕ) → Some t ≡ o → s ≡ t → o ≡ Some s
spelt o s t e same = sym e ∙ ap Some (sym same)
