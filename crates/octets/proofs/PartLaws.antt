-- Parts of a message one behind another, and the numbers in them.
use Rattle.std.proofs.Common.{◌≡◌, ℕ, ◌+◌, ◌^◌, ◌<◌, ◌≤◌, List, ◌++◌, length, take, drop, Ok, sym, ap, ◌∙◌, subst, arith, take-add}
use Rattle.std.proofs.lemmas.List.{length-append, length-drop, length-take-le, drop-drop, drop-take, take-take, take_all, take_at, drop_at}
use Rattle.refusal.specs.declared.faults.ItemFault.{ItemFault}
use Rattle.octets.specs.Bytes.{part}
use Rattle.octets.specs.Digits.{numeral, digits}
use Rattle.octets.proofs.DigitLaws.{numeral_digits, digits_numeral, length_digits}

-- a part, and the part behind it
pub join_parts : (m : List ℕ) (p n k : ℕ) (s t : List ℕ) → part m p n ≡ s → part m (p + n) k ≡ t → part m p (n + k) ≡ s ++ t
join_parts m p n k s t front back =
    let e : take (n + k) (drop p m) ≡ take n (drop p m) ++ take k (drop n (drop p m)) = take-add n k (drop p m) in
    let d : drop n (drop p m) ≡ drop (p + n) m = drop-drop n p m in
    cc

pub cut_parts : (m : List ℕ) (p n k : ℕ) (s t : List ℕ) → length s ≡ n → part m p (n + k) ≡ s ++ t → (part m p n ≡ s) × (part m (p + n) k ≡ t)
cut_parts m p n k s t long e = (
  sym (take-take n (n + k) (drop p m) (omega arith)) ∙ ap (take n) e ∙ take_at s t n long,
  ap (take k) (sym (drop-drop n p m)) ∙ sym (drop-take n k (drop p m)) ∙ ap (drop n) e ∙ drop_at s t n long,
)

pub length_part : (m : List ℕ) (p n : ℕ) → p + n ≤ length m → length (part m p n) ≡ n
length_part m p n within = length-take-le n (drop p m) (omega (arith, length-drop p m))

-- a part that is read as n holds the digits of n
pub number_told : (m : List ℕ) (f : ItemFault) (p w n : ℕ) → p + w ≤ length m → numeral f (part m p w) ≡ Ok n → (part m p w ≡ digits w n) × (n < 10 ^ w)
number_told m f p w n within e =
    let d = digits_numeral f (part m p w) n e in
    let l : length (part m p w) ≡ w = length_part m p w within in
    (d.0 ∙ ap (λ k. digits k n) l, subst (λ k. n < 10 ^ k) l d.1)

-- a part that holds the digits of n is read as n
pub number_read : (m : List ℕ) (f : ItemFault) (p w n : ℕ) → w ≤ 9 → n < 10 ^ w → part m p w ≡ digits w n → numeral f (part m p w) ≡ Ok n
number_read m f p w n few below e = ap (numeral f) e ∙ numeral_digits f w n few below

-- the bytes from place p to place q
pub record Stands (m : List ℕ) (p q : ℕ) (bs : List ℕ) : Type 0 where
  pub holds : part m p (length bs) ≡ bs
  pub ends : p + length bs ≡ q

pub stands : (m bs : List ℕ) (p n q : ℕ) → p + n ≡ q → q ≤ length m → part m p n ≡ bs → Stands m p q bs
stands m bs p n q far within e =
    let l : length bs ≡ n = ap length (sym e) ∙ length_part m p n (omega arith) in
    record { holds = ap (part m p) l ∙ e; ends = ap (λ k. p + k) l ∙ far }

pub stands_part : (m bs : List ℕ) (p n q : ℕ) → length bs ≡ n → Stands m p q bs → part m p n ≡ bs
stands_part m bs p n q l s = ap (part m p) (sym l) ∙ s.holds

pub stands_to : (m bs : List ℕ) (p q r : ℕ) → q ≡ r → Stands m p q bs → Stands m p r bs
stands_to m bs p q r e s = record { holds = s.holds; ends = s.ends ∙ e }

pub stands_join : (m s t : List ℕ) (p q r : ℕ) → Stands m p q s → Stands m q r t → Stands m p r (s ++ t)
stands_join m s t p q r front back =
    record {
      holds = ap (part m p) (length-append s t) ∙ join_parts m p (length s) (length t) s t front.holds (ap (λ k. part m k (length t)) front.ends ∙ back.holds);
      ends = omega (arith, length-append s t, front.ends, back.ends);
    }

pub stands_cut : (m s t : List ℕ) (p q r : ℕ) → p + length s ≡ q → Stands m p r (s ++ t) → Stands m p q s × Stands m q r t
stands_cut m s t p q r far both =
    let c = cut_parts m p (length s) (length t) s t (λ _. length s) (ap (part m p) (sym (length-append s t)) ∙ both.holds) in
    (record { holds = c.0; ends = far }, record { holds = ap (λ k. part m k (length t)) (sym far) ∙ c.1; ends = omega (arith, length-append s t, both.ends) })

-- all bytes of a message
pub stands_whole : (m : List ℕ) → Stands m 0 (length m) m
stands_whole m = record { holds = take_all (length m) m (omega arith); ends = omega arith }

pub whole_stands : (m bs : List ℕ) → Stands m 0 (length m) bs → bs ≡ m
whole_stands m bs s = sym s.holds ∙ take_all (length bs) m (omega (arith, s.ends))

pub number_stands : (m : List ℕ) (f : ItemFault) (p w q n : ℕ) → p + w ≡ q → q ≤ length m → numeral f (part m p w) ≡ Ok n → Stands m p q (digits w n) × (n < 10 ^ w)
number_stands m f p w q n far within e =
    let t = number_told m f p w n (omega arith) e in (stands m (digits w n) p w q far within t.0, t.1)

pub stands_number : (m : List ℕ) (f : ItemFault) (p w q n : ℕ) → w ≤ 9 → n < 10 ^ w → Stands m p q (digits w n) → numeral f (part m p w) ≡ Ok n
stands_number m f p w q n few below s = number_read m f p w n few below (stands_part m (digits w n) p w q (length_digits w n) s)
