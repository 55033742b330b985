-- Reading a source at a place.
use Rattle.std.proofs.Common.{◌≡◌, ℕ, ◌+◌, ◌-◌, ◌^◌, ◌<◌, ◌≤◌, List, [], ◌∷◌, length, take, drop, IfSome, Some, None, Option, sym, refl, ap, subst, ⊎_elim, arith}
use Rattle.std.proofs.lemmas.Bool.{cases_lt}
use Rattle.std.proofs.lemmas.List.{drop-drop, length-drop}
use Rattle.text_code.specs.declared.codes.Decoded.{Decoded}
use Rattle.text_code.specs.Reading.{Front}
use Rattle.text_code.specs.Spellings.{OneToFour, PrefixFree}
use Rattle.text_code.proofs.Decoding.{begins_some, front_at, read_within}
use Rattle.text_code.proofs.Unique.{ReadFirst, read_known, unique_decoding}
use Rattle.wrap.specs.Sources.{ReadAs, Within, EncodedStands}

encoded_first : (f : ℕ → Option (List ℕ)) (bytes : List ℕ) (place c : ℕ) (cs : List ℕ) (r : Option Decoded) → ReadFirst f c cs (drop place bytes) r → ReadAs (EncodedStands f bytes) place (c ∷ cs) r
encoded_first f bytes place c cs None k = let e = k.told in let z : ◌≡◌ {A = ℕ} 0 1 = cc in absurd (omega arith)
encoded_first f bytes place c cs (Some d) k =
    let t = k.told in
    let e : d ≡ record { character = c; length = k.long } = cc in
    let l : k.long ≡ d.length = sym (ap (λ (x : Decoded). x.length) e) in
    (ap (λ (x : Decoded). x.character) e, subst (λ (n : ℕ). EncodedStands f bytes (place + n) cs) l (subst (λ zs. EncodedStands f zs 0 cs) (drop-drop k.long place bytes) k.others))

encoded_last : (f : ℕ → Option (List ℕ)) (bytes : List ℕ) (place : ℕ) (r : Option Decoded) → OneToFour f → drop place bytes ≡ [] → Front f (drop place bytes) r → ReadAs (EncodedStands f bytes) place [] r
encoded_last f bytes place None short e front = tt
encoded_last f bytes place (Some d) short e front =
    let some = begins_some f d.character d.length (drop place bytes) short front in
    absurd (omega (arith, some, front.within, ap length e))

encoded_inside : (f : ℕ → Option (List ℕ)) (bytes : List ℕ) (place : ℕ) (r : Option Decoded) → OneToFour f → PrefixFree f → Front f (take (length bytes - place) (drop place bytes)) r → (cs : List ℕ) → EncodedStands f bytes place cs → ReadAs (EncodedStands f bytes) place cs r
encoded_inside f bytes place r short apart front [] s =
    let e : drop place bytes ≡ [] = cc in
    encoded_last f bytes place r short e (front_at f bytes place r front)
encoded_inside f bytes place r short apart front (c ∷ cs) s =
    encoded_first f bytes place c cs r (read_known f c cs (drop place bytes) r apart s (front_at f bytes place r front))

within_inside : (f : ℕ → Option (List ℕ)) (bytes : List ℕ) (place : ℕ) (r : Option Decoded) → OneToFour f → length bytes < 2 ^ 64 → place ≤ length bytes → Front f (take (length bytes - place) (drop place bytes)) r → IfSome r (Within (length bytes) place)
within_inside f bytes place None short m h front = tt
within_inside f bytes place (Some d) short m h front =
    let b = front_at f bytes place (Some d) front in
    let e = read_within f bytes place d.character d.length h b in
    record { some = begins_some f d.character d.length (drop place bytes) short b; before = e; counts = omega arith }

-- nothing stands behind the end
drop_behind : (xs : List ℕ) (place : ℕ) → length xs ≤ place → drop place xs ≡ []
drop_behind xs place h = none (drop place xs) (omega (arith, length-drop place xs))
  where
    none : (ys : List ℕ) → length ys ≡ 0 → ys ≡ []
    none [] e = refl
    none (y ∷ ys) e = absurd (omega arith)

read_nothing : (st : ℕ → List ℕ → Type 0) (place : ℕ) (cs : List ℕ) → cs ≡ [] → ReadAs st place cs None
read_nothing st place cs e = subst (λ zs. ReadAs st place zs None) (sym e) tt

pub encoded_end_lem : (f : ℕ → Option (List ℕ)) (bytes : List ℕ) (place : ℕ) → OneToFour f → PrefixFree f → length bytes ≤ place → (cs : List ℕ) → EncodedStands f bytes place cs → ReadAs (EncodedStands f bytes) place cs None
encoded_end_lem f bytes place short apart h cs s =
    read_nothing (EncodedStands f bytes) place cs (unique_decoding f short apart cs [] [] (subst (λ zs. EncodedStands f zs 0 cs) (drop_behind bytes place h) s) refl)

-- what is read at any place
pub encoded_read : (f : ℕ → Option (List ℕ)) (bytes : List ℕ) (place : ℕ) (r : Option Decoded) → OneToFour f → PrefixFree f → (place ≤ length bytes → Front f (take (length bytes - place) (drop place bytes)) r) → (length bytes < place → r ≡ None) → (cs : List ℕ) → EncodedStands f bytes place cs → ReadAs (EncodedStands f bytes) place cs r
encoded_read f bytes place r short apart front behind cs s =
    ⊎_elim (λ h. subst (ReadAs (EncodedStands f bytes) place cs) (sym (behind h)) (encoded_end_lem f bytes place short apart (omega (arith, h)) cs s)) (λ h. encoded_inside f bytes place r short apart (front h) cs s) (cases_lt (length bytes) place)

pub encoded_within : (f : ℕ → Option (List ℕ)) (bytes : List ℕ) (place : ℕ) (r : Option Decoded) → OneToFour f → length bytes < 2 ^ 64 → (place ≤ length bytes → Front f (take (length bytes - place) (drop place bytes)) r) → (length bytes < place → r ≡ None) → IfSome r (Within (length bytes) place)
encoded_within f bytes place r short m front behind =
    ⊎_elim (λ h. subst (λ o. IfSome o (Within (length bytes) place)) (sym (behind h)) tt) (λ h. within_inside f bytes place r short m h (front h)) (cases_lt (length bytes) place)
